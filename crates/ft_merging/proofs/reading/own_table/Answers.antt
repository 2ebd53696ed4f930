use Rattle.std.proofs.Common.{◌≡◌, ℕ, suc, Option, Some, None, refl, sym, ◌∙◌, subst}
use Rattle.std.specs.Prelude.{IfNone, IfSome}
use Rattle.ft_trace.specs.declared.Act.TheVariants.{ReadBlock}
use Rattle.ft_bank.specs.declared.table.Table.{Table}
use Rattle.ft_bank.specs.Passes.{shape_of, view}
use Rattle.ft_bank.specs.TableNames.{table_id, root_for, IsTableIn}
use Rattle.ft_bank.specs.Whole.{OnlyLoaded}
use Rattle.ft_bank.proofs.KnownAfterWrites.{loaded_by}
use Rattle.ft_merging.proofs.JoinedReads.{knows_loaded}
use Rattle.ft_merging.proofs.reading.own_table.Goals as goal
use Rattle.ft_merging.proofs.reading.own_table.Goals.{After-read_block-root}

only : (c : After-read_block-root) → OnlyLoaded (view c.args.pass.now) (view c.read_block-root.new.pass)
only c = loaded_by (ReadBlock c.args.o 0 c.read_block-root.result) (view c.args.pass.now) (view c.read_block-root.new.pass) tt c.read_block-root.ensures.did.1

root_named : (old : Option Table) (root : ℕ) → IfSome old (λ table. root ≡ suc (table_id table)) → IfNone old (root ≡ 0) → root ≡ root_for old
root_named None root named none = none
root_named (Some t) root named none = named

pub returns-clause-only : goal.returns-clause-only
returns-clause-only c = only (goal.at.returns-clause-only c).After-read_block-root

pub returns-clause-knows : goal.returns-clause-knows
returns-clause-knows c =
    let a = c.args in
    let k = shape_of a.bank.now in
    let may = c.requires.may in
    let e = c.read_block-root.ensures in
    let t = c.table_named.ensures in
    knows_loaded k a.o c.table_named.result (view a.pass.now) (view c.read_block-root.new.pass) c.requires.pass.1 (only (goal.at.returns-clause-knows c).After-read_block-root)
    (record {
      container = may.container;
      keyed = may.keyed;
      locked = may.locked;
      even = may.even a.o;
      stands = may.stands;
      table_in = λ q is. subst (λ (z : Option Table). IfSome z (λ x. IsTableIn k x)) is (t.in_bank k (λ q x. e.table q refl x));
      root = sym (e.held may.locked) ∙ root_named c.table_named.result c.read_block-root.result t.named (t.none k (λ q x. e.table q refl x));
    })
