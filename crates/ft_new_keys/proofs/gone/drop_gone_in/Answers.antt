use Rattle.std.proofs.Common.{◌≡◌, ℕ, suc, ◌+◌, ◌*◌, ◌<◌, cond, refl, sym, ap, ◌∙◌, subst, arith}
use Rattle.std.specs.Prelude.{nat_lt, slice_index}
use Rattle.ft_model.specs.declared.script.Kind.{Kind}
use Rattle.ft_model.specs.Classes.{IsClass}
use Rattle.ft_layout.specs.Containers.{class_mask}
use Rattle.ft_keys.specs.Ways.{room}
use Rattle.ft_trace.specs.Addresses.{class_of, size, slots}
use Rattle.ft_trace.specs.Boxes.{value_at, names_box, references_held}
use Rattle.ft_trace.specs.ContainerStates.{kind_in}
use Rattle.ft_trace.specs.Holds.{in_hand}
use Rattle.ft_trace.specs.Kinds.{rows, IsKeyed}
use Rattle.ft_trace.specs.Pictures.{entry_offset}
use Rattle.ft_trace.specs.Sums.{sum_to}
use Rattle.ft_bank.specs.Passes.{shape_of, view}
use Rattle.ft_bank.specs.TableNames.{table_id}
use Rattle.ft_bank.proofs.BoxedSteps.{made_same}
use Rattle.ft_bank.proofs.DoneBoxes.{settled_then, stays_settled_same}
use Rattle.ft_bank.proofs.KnownAfterWrites.{boxed_then, loaded_boxed}
use Rattle.ft_bank.proofs.TableAddresses.{class_is}
use Rattle.ft_search.proofs.Calling.{loaded_same}
use Rattle.ft_search.proofs.Puts.{keyed_value}
use Rattle.ft_search.proofs.WordPlaces.{slots_is, entry_in}
use Rattle.ft_boxes.proofs.Steps.{keeps_self}
use Rattle.ft_table_calls.proofs.Dropped.{hand_same, keeps_less}
use Rattle.ft_trace.specs.declared.Shape.{Shape}
use Rattle.ft_new_keys.specs.Moving.{gone_names_at}
use Rattle.ft_new_keys.proofs.FilledTables.{room_of_way}
use Rattle.ft_new_keys.proofs.GoneEntries.{gone_held, gone_then}
use Rattle.ft_new_keys.proofs.MovedFills.{keyed_by}
use Rattle.ft_new_keys.proofs.OldValues.{row_place}
use Rattle.ft_new_keys.proofs.gone.drop_gone_in.Goals as goal
use Rattle.ft_new_keys.proofs.gone.drop_gone_in.Goals.{In-loop-row}

pub loop-row-init : goal.loop-row-init
loop-row-init c =
    let v = view c.args.pass.now in
    record { pass = c.requires.pass; stack = refl; only = loaded_boxed v v (loaded_same v); made = stays_settled_same v v (made_same v); values = keeps_self v; left = λ b. omega arith }

module _ (c : In-loop-row) where
  abbrev kd : Kind
  kd = kind_in (shape_of c.args.bank.now).starts c.args.o

  abbrev class : ℕ
  class = class_of (table_id c.args.table)

  abbrev row : ℕ
  row = c.loop-row.row

  abbrev entry : ℕ
  entry = c.mask_of-mask.result + 1 + 8 * row

  keyed : IsKeyed (kind_in (shape_of c.args.bank.now).starts c.args.o)
  keyed = subst IsKeyed (sym c.requires.way) (keyed_by c.args.way)

  is_room : c.room_of-row-end.result ≡ rows (kind_in (shape_of c.args.bank.now).starts c.args.o) (class_of (table_id c.args.table))
  is_room =
      c.room_of-row-end.ensures
      ∙ (ap (room c.args.way) (c.mask_of-mask.ensures ∙ ap class_mask (sym (class_is c.args.table c.requires.table.2)))
      ∙ (room_of_way c.args.way (class_of (table_id c.args.table)) (subst (λ (z : ℕ). IsClass z) (sym (class_is c.args.table c.requires.table.2)) c.requires.table.0)
      ∙ ap (λ (z : Kind). rows z (class_of (table_id c.args.table))) (sym c.requires.way)))

  row_low : c.loop-row.row < rows (kind_in (shape_of c.args.bank.now).starts c.args.o) (class_of (table_id c.args.table))
  row_low = let test = c.loop-row-test.true in let is = is_room in omega (arith, test, is)

  slots_here : slots (class_of (table_id c.args.table)) ≡ c.mask_of-mask.result + 1
  slots_here = slots_is (shape_of c.args.bank.now) c.args.table c.mask_of-mask.result c.requires.table c.mask_of-mask.ensures

  -- the words of the entry lie inside the table
  entry_inside : c.mask_of-mask.result + 1 + 8 * c.loop-row.row + 7 < size (class_of (table_id c.args.table))
  entry_inside =
      let k = shape_of c.args.bank.now in
      let place = row_place k c.args.o c.args.table c.mask_of-mask.result c.loop-row.row keyed c.requires.table c.mask_of-mask.ensures row_low in
      let in_table = entry_in k c.args.table c.mask_of-mask.result c.loop-row.row 7 c.requires.table c.mask_of-mask.ensures place (omega arith) in
      omega (arith, in_table)

  value_here : value_at (kind_in (shape_of c.args.bank.now).starts c.args.o) (class_of (table_id c.args.table)) c.loop-row.row ≡ c.mask_of-mask.result + 1 + 8 * c.loop-row.row + 4
  value_here = let at = keyed_value (kind_in (shape_of c.args.bank.now).starts c.args.o) keyed (class_of (table_id c.args.table)) c.loop-row.row in let s = slots_here in omega (arith, at, s)

  key_here : entry_offset (slots (class_of (table_id c.args.table))) c.loop-row.row 2 ≡ c.mask_of-mask.result + 1 + 8 * c.loop-row.row + 2
  key_here = let s = slots_here in omega (arith, s)

  -- the words of the table in hand are the same
  hand_now : in_hand (table_id c.args.table) (view c.loop-row.pass) ≡ in_hand (table_id c.args.table) (view c.args.pass.now)
  hand_now =
      let only = c.loop-row.invariant.only in
      hand_same (view c.args.pass.now) (view c.loop-row.pass) (table_id c.args.table) only.work.pass.shape only.words

pub overflow_mul-entry : goal.overflow_mul-entry
overflow_mul-entry c = let i = entry_inside (goal.at.overflow_mul-entry c).In-loop-row in let s = c.cell_of-start.ensures.place.1 in let l = c.args.bank.now.low in omega (arith, i, s, l)

pub overflow_add-entry : goal.overflow_add-entry
overflow_add-entry c = let i = entry_inside (goal.at.overflow_add-entry c).In-loop-row in let s = c.cell_of-start.ensures.place.1 in let l = c.args.bank.now.low in omega (arith, i, s, l)

pub drop_entry-requires-clause-out : goal.drop_entry-requires-clause-out
drop_entry-requires-clause-out c = c.loop-row.invariant.only.work.hands (table_id c.args.table) ∙ c.requires.out

pub drop_entry-requires-clause-entry : goal.drop_entry-requires-clause-entry
drop_entry-requires-clause-entry c = entry_inside (goal.at.drop_entry-requires-clause-entry c).In-loop-row

pub drop_entry-requires-clause-settled : goal.drop_entry-requires-clause-settled
drop_entry-requires-clause-settled c = c.loop-row.invariant.made.settled c.requires.settled

pub drop_entry-requires-clause-held : goal.drop_entry-requires-clause-held
drop_entry-requires-clause-held c =
    let d = (goal.at.drop_entry-requires-clause-held c).In-loop-row in
    let k = shape_of c.args.bank.now in
    let hand = in_hand (table_id c.args.table) (view c.args.pass.now) in
    let same = hand_now d in
    let value = value_here d in
    let word = c.mask_of-mask.result + 1 + 8 * c.loop-row.row in
    let next : suc (value_at (kd d) (class d) c.loop-row.row) ≡ word + 5 = omega (arith, value) in
    let key = key_here d in
    let held = gone_held (kd d) (class d) hand (λ b. references_held k b (view c.args.pass.now).log) (λ b. references_held k b (view c.loop-row.pass).log) c.loop-row.row (rows (kd d) (class d)) (row_low d) c.requires.held c.loop-row.invariant.left in
    λ gone four.
    subst (λ (n : ℕ). 0 < references_held k n (view c.loop-row.pass).log) (λ i. slice_index (sym same i) (next i))
    (held ((λ i. nat_lt (slice_index (sym same i) (key i)) 3) ∙ gone) ((λ i. slice_index (sym same i) (value i)) ∙ four))

pub loop-row-preserved : goal.loop-row-preserved
loop-row-preserved c =
    let d = (goal.at.loop-row-preserved c).In-loop-row in
    let k = shape_of c.args.bank.now in
    let hand = in_hand (table_id c.args.table) (view c.args.pass.now) in
    let u = view c.args.pass.now in
    let v = view c.loop-row.pass in
    let w = view c.drop_entry.new.pass in
    let row_now = c.loop-row.row in
    let word = c.mask_of-mask.result + 1 + 8 * row_now in
    let same = hand_now d in
    let value = value_here d in
    let next : suc (value_at (kd d) (class d) row_now) ≡ word + 5 = omega (arith, value) in
    let key = key_here d in
    let i = c.loop-row.invariant in
    let e = c.drop_entry.ensures in
    let more : row_now + 1 ≡ suc row_now = omega arith in
    record {
      pass = e.pass;
      stack = e.stack ∙ i.stack;
      only = boxed_then u v w i.only e.only;
      made = settled_then u v w i.made e.made;
      values = keeps_less u v w (sym e.only.work.pass.shape) (λ b.
          let less = e.references b in
          let now : references_held w.shape b w.log ≡ references_held k b w.log = ap (λ (z : Shape). references_held z b w.log) e.pass.1 in
          let was : references_held v.shape b v.log ≡ references_held k b v.log = ap (λ (z : Shape). references_held z b v.log) i.pass.1 in
          omega (arith, less, now, was)) i.values e.values;
      left = λ b.
          ap (λ (n : ℕ). references_held k b w.log + sum_to (gone_names_at b (kd d) (class d) hand) n) more
          ∙ gone_then (kd d) (class d) hand (λ b. references_held k b u.log) (λ b. references_held k b v.log) row_now (rows (kd d) (class d)) (row_low d) c.requires.held i.left (λ b. references_held k b w.log)
          (λ b. e.references b ∙ (λ j. references_held k b w.log + cond (nat_lt (slice_index (same j) (sym key j)) 3) 0 (names_box b (slice_index (same j) (sym value j)) (slice_index (same j) (sym next j))))) b;
    }

pub returns-clause-references : goal.returns-clause-references
returns-clause-references c b =
    let d = c.loop-row.invariant.left b in
    let k = shape_of c.args.bank.now in
    let kind = kind_in k.starts c.args.o in
    let class = class_of (table_id c.args.table) in
    let last : c.room_of-row-end.result ≡ rows kind class =
    c.room_of-row-end.ensures
    ∙ (ap (room c.args.way) (c.mask_of-mask.ensures ∙ ap class_mask (sym (class_is c.args.table c.requires.table.2)))
    ∙ (room_of_way c.args.way class (subst (λ (z : ℕ). IsClass z) (sym (class_is c.args.table c.requires.table.2)) c.requires.table.0)
    ∙ ap (λ (z : Kind). rows z class) (sym c.requires.way))) in
    let test = c.loop-row-test.false in
    ap (λ (n : ℕ). references_held k b (view c.loop-row.pass).log + sum_to (gone_names_at b kind class (in_hand (table_id c.args.table) (view c.args.pass.now))) n) (let e : rows kind class ≡ c.loop-row.row = omega (arith, last, test) in e) ∙ d
