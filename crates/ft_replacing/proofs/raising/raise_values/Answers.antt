use Rattle.std.proofs.Common.{◌≡◌, ℕ, suc, ◌+◌, ◌*◌, ◌^◌, ◌<◌, refl, sym, ap, ◌∙◌, subst, arith}
use Rattle.std.specs.Prelude.{slice_index}
use Rattle.ft_model.specs.declared.script.Kind.{Kind}
use Rattle.ft_trace.specs.declared.Shape.{Shape}
use Rattle.ft_trace.specs.Addresses.{class_of, size, IsBoxName}
use Rattle.ft_trace.specs.Boxes.{value_at, names_box, names_box_at, references_held, KeepsBox}
use Rattle.ft_trace.specs.ContainerStates.{kind_in}
use Rattle.ft_trace.specs.Holds.{in_hand}
use Rattle.ft_trace.specs.Kinds.{rows}
use Rattle.ft_trace.specs.Sums.{sum_to}
use Rattle.ft_trace.proofs.ReadTables.{value_low}
use Rattle.ft_bank.specs.Passes.{shape_of, view}
use Rattle.ft_bank.specs.TableNames.{table_id}
use Rattle.ft_bank.proofs.BoxedSteps.{made_same}
use Rattle.ft_bank.proofs.DoneBoxes.{settled_then, stays_settled_same}
use Rattle.ft_bank.proofs.KnownAfterWrites.{boxed_then, gains_fewer, gains_then, loaded_boxed}
use Rattle.ft_boxes.proofs.Steps.{keeps_self}
use Rattle.ft_search.proofs.Calling.{loaded_same}
use Rattle.ft_search.proofs.Puts.{table_class}
use Rattle.ft_table_calls.proofs.Dropped.{hand_same}
use Rattle.ft_replacing.proofs.NamedRows.{kept_boxed}
use Rattle.ft_replacing.proofs.KeptValues.{keeps_more}
use Rattle.ft_replacing.proofs.RaisedRows.{rows_few, sum_few}
use Rattle.ft_replacing.proofs.raising.raise_values.Goals as goal
use Rattle.ft_replacing.proofs.raising.raise_values.Goals.{In-loop-row}

pub loop-row-init : goal.loop-row-init
loop-row-init c =
    let v = view c.args.pass.now in
    let l = loaded_boxed v v (loaded_same v) in
    record { pass = c.requires.pass; stack = refl; only = l; stays = stays_settled_same v v (made_same v); values = keeps_self v; gains = gains_fewer v v l (λ b. omega arith); held = λ b. omega arith }

-- the value of the row lies inside the table
row_low : (c : In-loop-row) → c.loop-row.row < rows (kind_in (shape_of c.args.bank.now).starts c.args.o) (class_of (table_id c.args.table))
row_low c = let test = c.loop-row-test.true in let is = c.requires.places.0 in omega (arith, test, is)

row_at : (c : In-loop-row) → value_at (kind_in (shape_of c.args.bank.now).starts c.args.o) (class_of (table_id c.args.table)) c.loop-row.row ≡ c.args.places.first + c.args.places.step * c.loop-row.row
row_at c = c.requires.places.1 c.loop-row.row (row_low c)

row_inside : (c : In-loop-row) → suc (value_at (kind_in (shape_of c.args.bank.now).starts c.args.o) (class_of (table_id c.args.table)) c.loop-row.row) < size (class_of (table_id c.args.table))
row_inside c =
    let k = shape_of c.args.bank.now in
    value_low (kind_in k.starts c.args.o) (class_of (table_id c.args.table)) c.loop-row.row (table_class k c.args.table c.requires.table) (row_low c)

-- the words of the table in hand are the same
hand_now : (c : In-loop-row) → in_hand (table_id c.args.table) (view c.loop-row.pass) ≡ in_hand (table_id c.args.table) (view c.args.pass.now)
hand_now c =
    let only = c.loop-row.invariant.only in
    hand_same (view c.args.pass.now) (view c.loop-row.pass) (table_id c.args.table) only.work.pass.shape only.words

pub overflow_mul-word : goal.overflow_mul-word
overflow_mul-word c =
    let d = (goal.at.overflow_mul-word c).In-loop-row in
    let is = row_at d in
    let n = row_inside d in
    let s = c.cell_of-start.ensures.place.1 in
    let l = c.args.bank.now.low in
    omega (arith, is, n, s, l)

pub overflow_add-word : goal.overflow_add-word
overflow_add-word c =
    let d = (goal.at.overflow_add-word c).In-loop-row in
    let is = row_at d in
    let n = row_inside d in
    let s = c.cell_of-start.ensures.place.1 in
    let l = c.args.bank.now.low in
    omega (arith, is, n, s, l)

pub raise_value-requires-clause-fresh : goal.raise_value-requires-clause-fresh
raise_value-requires-clause-fresh c = c.loop-row.invariant.only.work.hands (table_id c.args.table) ∙ c.requires.fresh

pub raise_value-requires-clause-word : goal.raise_value-requires-clause-word
raise_value-requires-clause-word c =
    let d = (goal.at.raise_value-requires-clause-word c).In-loop-row in
    let is = row_at d in
    let n = row_inside d in
    omega (arith, is, n)

pub raise_value-requires-clause-settled : goal.raise_value-requires-clause-settled
raise_value-requires-clause-settled c = c.loop-row.invariant.stays.settled c.requires.settled

pub raise_value-requires-clause-few : goal.raise_value-requires-clause-few
raise_value-requires-clause-few c b =
    let d = (goal.at.raise_value-requires-clause-few c).In-loop-row in
    let k = shape_of c.args.bank.now in
    let kd : Kind = kind_in k.starts c.args.o in
    let class = class_of (table_id c.args.table) in
    let held = c.loop-row.invariant.held b in
    let few = sum_few b kd class (in_hand (table_id c.args.table) (view c.args.pass.now)) c.loop-row.row in
    let low = row_low d in
    let all = rows_few kd class (table_class k c.args.table c.requires.table) in
    let start = c.requires.few b in
    let less : references_held k b (view c.loop-row.pass).log < 2 ^ 31 = omega (arith, held, few, low, all, start) in
    subst (λ (z : Shape). references_held z b (view c.loop-row.pass).log < 2 ^ 31) (sym c.loop-row.invariant.pass.1) less

pub raise_value-requires-clause-kept : goal.raise_value-requires-clause-kept
raise_value-requires-clause-kept c four =
    let d = (goal.at.raise_value-requires-clause-kept c).In-loop-row in
    let k = shape_of c.args.bank.now in
    let kd : Kind = kind_in k.starts c.args.o in
    let class = class_of (table_id c.args.table) in
    let hand = in_hand (table_id c.args.table) (view c.args.pass.now) in
    let row = c.loop-row.row in
    let word = c.args.places.first + c.args.places.step * row in
    let same = hand_now d in
    let is = row_at d in
    let next : suc (value_at kd class row) ≡ word + 1 = omega (arith, is) in
    let n = slice_index hand (suc (value_at kd class row)) in
    let kept = c.requires.kept row (row_low d) ((λ i. slice_index (sym same i) (is i)) ∙ four) in
    let held = c.loop-row.invariant.held n in
    subst (λ (b : ℕ). IsBoxName k b × KeepsBox k b (view c.loop-row.pass).log) (λ i. slice_index (sym same i) (next i))
    (kept.0, kept_boxed k n (view c.args.pass.now) (view c.loop-row.pass) c.requires.pass.1 c.loop-row.invariant.only (omega (arith, held)) kept.1)

pub loop-row-preserved : goal.loop-row-preserved
loop-row-preserved c =
    let d = (goal.at.loop-row-preserved c).In-loop-row in
    let k = shape_of c.args.bank.now in
    let kd : Kind = kind_in k.starts c.args.o in
    let class = class_of (table_id c.args.table) in
    let hand = in_hand (table_id c.args.table) (view c.args.pass.now) in
    let u = view c.args.pass.now in
    let v = view c.loop-row.pass in
    let w = view c.raise_value.new.pass in
    let row = c.loop-row.row in
    let word = c.args.places.first + c.args.places.step * row in
    let same = hand_now d in
    let is = row_at d in
    let next : suc (value_at kd class row) ≡ word + 1 = omega (arith, is) in
    let i = c.loop-row.invariant in
    let e = c.raise_value.ensures in
    let more : suc row ≡ row + 1 = omega arith in
    record {
      pass = e.pass;
      stack = e.stack ∙ i.stack;
      only = boxed_then u v w i.only e.only;
      stays = settled_then u v w i.stays e.stays;
      values = keeps_more u v w i.only.work.pass.shape
          (λ b.
          let before = i.held b in
          let now : references_held v.shape b v.log ≡ references_held k b v.log = ap (λ (z : Shape). references_held z b v.log) i.pass.1 in
          let was : references_held u.shape b u.log ≡ references_held k b u.log = ap (λ (z : Shape). references_held z b u.log) c.requires.pass.1 in
          omega (arith, before, now, was)) i.values e.values;
      gains = gains_then u v w i.gains e.gains;
      held = λ b.
          let one : references_held k b w.log ≡ references_held k b v.log + names_box_at b kd class hand row = e.references b ∙ (λ j. references_held k b v.log + names_box b (slice_index (same j) (sym is j)) (slice_index (same j) (sym next j))) in
          let before = i.held b in
          let all : references_held k b w.log ≡ references_held k b u.log + sum_to (names_box_at b kd class hand) (suc row) = omega (arith, one, before) in
          all ∙ ap (λ (n : ℕ). references_held k b u.log + sum_to (names_box_at b kd class hand) n) more;
    }

pub returns-clause-only : goal.returns-clause-only
returns-clause-only c = c.loop-row.invariant.only

pub returns-clause-stays : goal.returns-clause-stays
returns-clause-stays c = c.loop-row.invariant.stays

pub returns-clause-values : goal.returns-clause-values
returns-clause-values c = c.loop-row.invariant.values

pub returns-clause-gains : goal.returns-clause-gains
returns-clause-gains c = c.loop-row.invariant.gains

pub returns-clause-references : goal.returns-clause-references
returns-clause-references c b =
    let k = shape_of c.args.bank.now in
    let kd : Kind = kind_in k.starts c.args.o in
    let class = class_of (table_id c.args.table) in
    let hand = in_hand (table_id c.args.table) (view c.args.pass.now) in
    let past = c.loop-row-test.false in
    let end = c.loop-row.auto.row-end in
    let is = c.requires.places.0 in
    let all : c.loop-row.row ≡ rows kd class = omega (arith, past, end, is) in
    c.loop-row.invariant.held b ∙ ap (λ (n : ℕ). references_held k b (view c.args.pass.now).log + sum_to (names_box_at b kd class hand) n) all
