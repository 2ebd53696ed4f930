use Rattle.std.proofs.Common.{Option, refl, sym, ◌∙◌, subst}
use Rattle.std.specs.Prelude.{IfSome}
use Rattle.ft_trace.specs.declared.Act.TheVariants.{ReadBlock}
use Rattle.ft_bank.specs.declared.table.Table.{Table}
use Rattle.ft_bank.specs.Passes.{shape_of, view}
use Rattle.ft_bank.specs.TableNames.{IsTableIn}
use Rattle.ft_bank.proofs.KnownAfterWrites.{loaded_by}
use Rattle.ft_list.proofs.Additions.{root_named}
use Rattle.ft_list.proofs.locked.table_at_root.Goals as goal

pub table_at-requires : goal.table_at-requires
table_at-requires c t e = c.read_block-root.ensures.table t refl e

pub returns-clause-table : goal.returns-clause-table
returns-clause-table c table found =
    let k = shape_of c.args.bank.now in
    subst (λ (z : Option Table). IfSome z (λ q. IsTableIn k q)) found c.table_at.ensures.in_bank

pub returns-clause-root : goal.returns-clause-root
returns-clause-root c =
    let t = c.table_at.ensures in
    sym (c.read_block-root.ensures.held c.requires.locked) ∙ root_named c.table_at.result c.read_block-root.result t.named t.none

pub returns-clause-only : goal.returns-clause-only
returns-clause-only c =
    loaded_by (ReadBlock c.args.l 0 c.read_block-root.result) (view c.args.pass.now) (view c.read_block-root.new.pass) tt c.read_block-root.ensures.did.1
