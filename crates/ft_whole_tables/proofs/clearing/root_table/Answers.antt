use Rattle.std.proofs.Common.{Option, refl, sym, ap, ◌∙◌, subst}
use Rattle.std.specs.Prelude.{IfSome}
use Rattle.ft_trace.specs.declared.Act.TheVariants.{ReadBlock}
use Rattle.ft_trace.specs.Pictures.{root_in}
use Rattle.ft_bank.specs.declared.table.Table.{Table}
use Rattle.ft_bank.specs.Passes.{shape_of, view}
use Rattle.ft_bank.specs.TableNames.{IsTableIn}
use Rattle.ft_bank.proofs.KnownAfterWrites.{loaded_by, loaded_held}
use Rattle.ft_search.proofs.Spotting.{may_loaded}
use Rattle.ft_whole_tables.proofs.Emptied.{root_named}
use Rattle.ft_whole_tables.proofs.clearing.root_table.Goals as goal

pub returns-clause-only : goal.returns-clause-only
returns-clause-only c = loaded_by (ReadBlock c.args.o 0 c.read_block-root.result) (view c.args.pass.now) (view c.read_block-root.new.pass) tt c.read_block-root.ensures.did.1

pub returns-clause-may : goal.returns-clause-may
returns-clause-may c =
    let a = c.args in
    let e = c.read_block-root.ensures in
    may_loaded (shape_of a.bank.now) a.o (view a.pass.now) (view c.read_block-root.new.pass) c.requires.pass.1 (loaded_by (ReadBlock a.o 0 c.read_block-root.result) (view a.pass.now) (view c.read_block-root.new.pass) tt e.did.1) c.requires.may

pub returns-clause-root : goal.returns-clause-root
returns-clause-root c =
    let a = c.args in
    let k = shape_of a.bank.now in
    let e = c.read_block-root.ensures in
    let t = c.table_named.ensures in
    let is = loaded_by (ReadBlock a.o 0 c.read_block-root.result) (view a.pass.now) (view c.read_block-root.new.pass) tt e.did.1 in
    record {
      table_in = λ table found. subst (λ (z : Option Table). IfSome z (λ q. IsTableIn k q)) found (t.in_bank k (λ q x. e.table q refl x));
      root = ap root_in (loaded_held (view a.pass.now) (view c.read_block-root.new.pass) a.o is) ∙ (sym (e.held c.requires.may.locked) ∙ root_named c.table_named.result c.read_block-root.result t.named (t.none k (λ q x. e.table q refl x)));
    }
