use Rattle.std.proofs.Common.{◌≡◌, ℕ, suc, ◌+◌, ◌*◌, ◌<◌, refl, sym, ap, ◌∙◌, subst, arith}
use Rattle.std.specs.Prelude.{slice_index}
use Rattle.ft_model.specs.declared.script.Kind.{Kind}
use Rattle.ft_trace.specs.declared.Shape.{Shape}
use Rattle.ft_trace.specs.Addresses.{class_of, size}
use Rattle.ft_trace.specs.Boxes.{value_at, names_box, names_box_at, references_held}
use Rattle.ft_trace.specs.ContainerStates.{kind_in}
use Rattle.ft_trace.specs.Holds.{in_hand}
use Rattle.ft_trace.specs.Kinds.{rows}
use Rattle.ft_trace.specs.Sums.{sum_to}
use Rattle.ft_trace.proofs.ReadTables.{value_low}
use Rattle.ft_bank.specs.Passes.{shape_of, view}
use Rattle.ft_bank.specs.TableNames.{table_id}
use Rattle.ft_bank.proofs.BoxedSteps.{made_same}
use Rattle.ft_bank.proofs.DoneBoxes.{settled_then, stays_settled_same}
use Rattle.ft_bank.proofs.KnownAfterWrites.{boxed_then, loaded_boxed}
use Rattle.ft_boxes.proofs.Steps.{keeps_self}
use Rattle.ft_search.proofs.Calling.{loaded_same}
use Rattle.ft_search.proofs.Keeping.{keeps_fewer}
use Rattle.ft_search.proofs.Puts.{table_class}
use Rattle.ft_table_calls.proofs.Dropped.{hand_same, left_held, left_then}
use Rattle.ft_table_calls.proofs.dropping.drop_values.Goals as goal
use Rattle.ft_table_calls.proofs.dropping.drop_values.Goals.{In-loop-row}

pub loop-row-init : goal.loop-row-init
loop-row-init c =
    let v = view c.args.pass.now in
    record { pass = c.requires.pass; stack = refl; only = loaded_boxed v v (loaded_same v); made = stays_settled_same v v (made_same v); values = keeps_self v; left = λ b. omega arith }

-- the value of the row lies inside the table
row_low : (c : In-loop-row) → c.loop-row.row < rows (kind_in (shape_of c.args.bank.now).starts c.args.o) (class_of (table_id c.args.table))
row_low c = let test = c.loop-row-test.true in let is = c.requires.places.0 in omega (arith, test, is)

row_at : (c : In-loop-row) → value_at (kind_in (shape_of c.args.bank.now).starts c.args.o) (class_of (table_id c.args.table)) c.loop-row.row ≡ c.args.places.first + c.args.places.step * c.loop-row.row
row_at c = c.requires.places.1 c.loop-row.row (row_low c)

row_inside : (c : In-loop-row) → suc (value_at (kind_in (shape_of c.args.bank.now).starts c.args.o) (class_of (table_id c.args.table)) c.loop-row.row) < size (class_of (table_id c.args.table))
row_inside c =
    let k = shape_of c.args.bank.now in
    value_low (kind_in k.starts c.args.o) (class_of (table_id c.args.table)) c.loop-row.row (table_class k c.args.table c.requires.table) (row_low c)

-- the words of the table in hand are the same
hand_now : (c : In-loop-row) → in_hand (table_id c.args.table) (view c.loop-row.pass) ≡ in_hand (table_id c.args.table) (view c.args.pass.now)
hand_now c =
    let only = c.loop-row.invariant.only in
    hand_same (view c.args.pass.now) (view c.loop-row.pass) (table_id c.args.table) only.work.pass.shape only.words

pub overflow_mul-word : goal.overflow_mul-word
overflow_mul-word c =
    let d = (goal.at.overflow_mul-word c).In-loop-row in
    let is = row_at d in
    let n = row_inside d in
    let s = c.cell_of-start.ensures.place.1 in
    let l = c.args.bank.now.low in
    omega (arith, is, n, s, l)

pub overflow_add-word : goal.overflow_add-word
overflow_add-word c =
    let d = (goal.at.overflow_add-word c).In-loop-row in
    let is = row_at d in
    let n = row_inside d in
    let s = c.cell_of-start.ensures.place.1 in
    let l = c.args.bank.now.low in
    omega (arith, is, n, s, l)

pub drop_value-requires-clause-out : goal.drop_value-requires-clause-out
drop_value-requires-clause-out c = c.loop-row.invariant.only.work.hands (table_id c.args.table) ∙ c.requires.out

pub drop_value-requires-clause-word : goal.drop_value-requires-clause-word
drop_value-requires-clause-word c =
    let d = (goal.at.drop_value-requires-clause-word c).In-loop-row in
    let is = row_at d in
    let n = row_inside d in
    omega (arith, is, n)

pub drop_value-requires-clause-settled : goal.drop_value-requires-clause-settled
drop_value-requires-clause-settled c = c.loop-row.invariant.made.settled c.requires.settled

pub drop_value-requires-clause-held : goal.drop_value-requires-clause-held
drop_value-requires-clause-held c =
    let d = (goal.at.drop_value-requires-clause-held c).In-loop-row in
    let k = shape_of c.args.bank.now in
    let kd : Kind = kind_in k.starts c.args.o in
    let class = class_of (table_id c.args.table) in
    let hand = in_hand (table_id c.args.table) (view c.args.pass.now) in
    let word = c.args.places.first + c.args.places.step * c.loop-row.row in
    let same = hand_now d in
    let is = row_at d in
    let next : suc (value_at kd class c.loop-row.row) ≡ word + 1 = omega (arith, is) in
    let held = left_held kd class hand (λ b. references_held k b (view c.args.pass.now).log) (λ b. references_held k b (view c.loop-row.pass).log) c.loop-row.row (rows kd class) (row_low d) c.requires.held c.loop-row.invariant.left in
    λ four.
    subst (λ (n : ℕ). 0 < references_held k n (view c.loop-row.pass).log) (λ i. slice_index (sym same i) (next i))
    (held ((λ i. slice_index (sym same i) (is i)) ∙ four))

pub loop-row-preserved : goal.loop-row-preserved
loop-row-preserved c =
    let d = (goal.at.loop-row-preserved c).In-loop-row in
    let k = shape_of c.args.bank.now in
    let kd : Kind = kind_in k.starts c.args.o in
    let class = class_of (table_id c.args.table) in
    let hand = in_hand (table_id c.args.table) (view c.args.pass.now) in
    let u = view c.args.pass.now in
    let v = view c.loop-row.pass in
    let w = view c.drop_value.new.pass in
    let row = c.loop-row.row in
    let word = c.args.places.first + c.args.places.step * row in
    let same = hand_now d in
    let is = row_at d in
    let next : suc (value_at kd class row) ≡ word + 1 = omega (arith, is) in
    let i = c.loop-row.invariant in
    let e = c.drop_value.ensures in
    let more : row + 1 ≡ suc row = omega arith in
    record {
      pass = e.pass;
      stack = e.stack ∙ i.stack;
      only = boxed_then u v w i.only e.only;
      made = settled_then u v w i.made e.made;
      values = keeps_fewer u v w (sym e.only.work.pass.shape)
          (λ b.
          let less = e.references b in
          let now : references_held w.shape b w.log ≡ references_held k b w.log = ap (λ (z : Shape). references_held z b w.log) e.pass.1 in
          let was : references_held v.shape b v.log ≡ references_held k b v.log = ap (λ (z : Shape). references_held z b v.log) i.pass.1 in
          omega (arith, less, now, was)) i.values e.values;
      left = λ b.
          ap (λ (n : ℕ). references_held k b w.log + sum_to (names_box_at b kd class hand) n) more
          ∙ left_then kd class hand (λ b. references_held k b u.log) (λ b. references_held k b v.log) row (rows kd class) (row_low d) c.requires.held i.left (λ b. references_held k b w.log)
          (λ b. e.references b ∙ (λ j. references_held k b w.log + names_box b (slice_index (same j) (sym is j)) (slice_index (same j) (sym next j)))) b;
    }

pub returns-clause-only : goal.returns-clause-only
returns-clause-only c = c.loop-row.invariant.only

pub returns-clause-made : goal.returns-clause-made
returns-clause-made c = c.loop-row.invariant.made

pub returns-clause-values : goal.returns-clause-values
returns-clause-values c = c.loop-row.invariant.values

pub returns-clause-references : goal.returns-clause-references
returns-clause-references c b =
    let k = shape_of c.args.bank.now in
    let kd : Kind = kind_in k.starts c.args.o in
    let class = class_of (table_id c.args.table) in
    let hand = in_hand (table_id c.args.table) (view c.args.pass.now) in
    let past = c.loop-row-test.false in
    let end = c.loop-row.auto.row-end in
    let is = c.requires.places.0 in
    let all : c.loop-row.row ≡ rows kd class = omega (arith, past, end, is) in
    ap (λ (n : ℕ). references_held k b (view c.loop-row.pass).log + sum_to (names_box_at b kd class hand) n) (sym all) ∙ c.loop-row.invariant.left b
