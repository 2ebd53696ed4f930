use Rattle.std.proofs.Common.{◌≡◌, ◌<◌, ℕ, ◌+◌, refl, sym, ap, ◌∙◌, subst, arith}
use Rattle.ft_layout.proofs.FieldLaws.{sizes_of_class}
use Rattle.ft_trace.specs.declared.Act.TheVariants.{PutFresh}
use Rattle.ft_trace.specs.declared.View.{View}
use Rattle.ft_trace.specs.Acts.{mem}
use Rattle.ft_trace.specs.Addresses.{class_of, size}
use Rattle.ft_trace.specs.Holds.{in_hand}
use Rattle.ft_trace.proofs.Pieces.{table_long}
use Rattle.ft_bank.specs.Passes.{view}
use Rattle.ft_bank.specs.TableNames.{table_id}
use Rattle.ft_bank.proofs.TableAddresses.{class_is}
use Rattle.ft_table_calls.proofs.Rooting.{filled_by, filled_same, filled_then}
use Rattle.ft_boxes.proofs.Steps.{keeps_self, keeps_then}
use Rattle.ft_new_keys.proofs.FreshSteps.{keeps_fresh}
use Rattle.ft_new_keys.specs.Fresh.{BlankBelow}
use Rattle.ft_new_keys.proofs.FilledTables.{blank_all, blank_next, table_is_long}
use Rattle.ft_new_keys.proofs.filling.blank.Goals as goal
use Rattle.ft_new_keys.proofs.filling.blank.Goals.{After-table_size-at-end}

-- how many words it has
sized : (c : After-table_size-at-end) → size (class_of (table_id c.args.table)) + 2 ≡ c.table_size-at-end.result
sized c =
    let t = c.args.table in
    let class = class_is t c.requires.table.2 in
    ap (λ (n : ℕ). size n + 2) class ∙ (table_is_long t.class c.requires.table.0 ∙ ((sizes_of_class t.class c.requires.table.0).3 ∙ sym c.table_size-at-end.ensures.is))

pub loop-at-init : goal.loop-at-init
loop-at-init c =
    let a = c.args in
    let v = view a.pass.now in
    record {
      pass = c.requires.pass;
      stack = refl;
      only = filled_same v;
      values = keeps_self v;
      blank = record { long = table_long v.shape (table_id a.table) (mem v.shape v.log); zeros = λ i low. absurd (omega (arith, low)) };
    }

pub put_fresh_word-requires-clause-pass : goal.put_fresh_word-requires-clause-pass
put_fresh_word-requires-clause-pass c = c.loop-at.invariant.pass

pub put_fresh_word-requires-clause-word : goal.put_fresh_word-requires-clause-word
put_fresh_word-requires-clause-word c =
    let s = sized (goal.at.put_fresh_word-requires-clause-word c).After-table_size-at-end in
    let t = c.loop-at-test.true in
    omega (arith, s, t)

pub put_fresh_word-requires-clause-fresh : goal.put_fresh_word-requires-clause-fresh
put_fresh_word-requires-clause-fresh c = c.loop-at.invariant.only.work.hands (table_id c.args.table) ∙ c.requires.fresh

pub loop-at-preserved : goal.loop-at-preserved
loop-at-preserved c =
    let a = c.args in
    let v = view a.pass.now in
    let w = view c.loop-at.pass in
    let z = view c.put_fresh_word.new.pass in
    let i = c.loop-at.invariant in
    let put = c.put_fresh_word.ensures in
    let class = class_of (table_id a.table) in
    let s = sized (goal.at.loop-at-preserved c).After-table_size-at-end in
    let t = c.loop-at-test.true in
    let low : c.loop-at.at < size class = omega (arith, s, t) in
    record {
      pass = (put.did.0 ∙ i.pass.0, ap (λ (u : View). u.shape) put.did.1 ∙ i.pass.1);
      stack = put.did.2 ∙ i.stack;
      only = filled_then v w z i.only (filled_by (PutFresh (table_id a.table) c.loop-at.at 0) w z tt put.did.1 put.keeps);
      values = keeps_then v w z (sym i.only.work.pass.shape) i.only.references i.values (keeps_fresh w z (table_id a.table) c.loop-at.at 0 put.did.1);
      blank = subst (BlankBelow class (c.loop-at.at + 1)) (sym put.fresh) (blank_next class c.loop-at.at (in_hand (table_id a.table) w) i.blank low);
    }

pub returns-clause-blank : goal.returns-clause-blank
returns-clause-blank c =
    let a = c.args in
    let class = class_of (table_id a.table) in
    let s = sized (goal.at.returns-clause-blank c).After-table_size-at-end in
    let t = c.loop-at-test.false in
    let i = c.loop-at.invariant.blank in
    blank_all class (in_hand (table_id a.table) (view c.loop-at.pass)) (record { long = i.long; zeros = λ p less. i.zeros p (omega (arith, less, s, t)) })
