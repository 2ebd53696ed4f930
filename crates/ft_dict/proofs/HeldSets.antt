-- A value that stands in a box is put at a key of a dict: what the pass has of the box, and what the call comes to.
use Rattle.std.proofs.Common.{◌≡◌, ℕ, ◌+◌, ◌<◌, Bool, true, false, Option, Some, None, inl, inr, refl, sym, ap, ◌∙◌, subst, arith}
use Rattle.std.specs.Prelude.{nat_lt, if◌then◌else◌}
use Rattle.std.specs.Option.{unwrap_or}
use Rattle.ft_model.specs.declared.call.Call.{Call}
use Rattle.ft_model.specs.declared.data.Key.{Key}
use Rattle.ft_model.specs.declared.data.Value.{Value}
use Rattle.ft_model.specs.declared.reply.Reply.{Reply}
use Rattle.ft_model.specs.TableUses.{StoredWorld}
use Rattle.ft_model.specs.Worlds.{length_of}
use Rattle.ft_layout.specs.declared.slot.Ref.{Ref}
use Rattle.ft_layout.specs.declared.slot.Stored.TheVariants.{Plain}
use Rattle.ft_layout.specs.Words.{IsStored}
use Rattle.ft_trace.specs.declared.Shape.{Shape}
use Rattle.ft_trace.specs.declared.View.{View}
use Rattle.ft_trace.specs.Acts.{flight, is_writing, used}
use Rattle.ft_trace.specs.Addresses.{container_count}
use Rattle.ft_trace.specs.Boxes.{place_use, references_held, use_taken, IsDoneWithBoxes, IsSettled}
use Rattle.ft_trace.specs.ContainerStates.{ContainerState, kinds_in}
use Rattle.ft_trace.specs.Holds.{held_unboxed, known_state}
use Rattle.ft_trace.specs.Pictures.{ContainerWords, Represents}
use Rattle.ft_trace.specs.Traces.{IsReachable}
use Rattle.ft_trace.proofs.Cases.{here}
use Rattle.ft_bank.specs.declared.table.Table.{Table}
use Rattle.ft_bank.specs.BoxSteps.{box_id, IsBoxIn}
use Rattle.ft_bank.specs.SameBoxes.{TakesNoPlace}
use Rattle.ft_bank.specs.Whole.{OnlyBoxed, OnlyLoaded, SameWork}
use Rattle.ft_bank.specs.WriteSteps.{MayHave}
use Rattle.ft_bank.proofs.DoneBoxes.{stays_settled_same}
use Rattle.ft_bank.proofs.KnownAfterWrites.{boxed_then, loaded_boxed, work_knows}
use Rattle.ft_boxes.specs.References.{HoldsBox, HoldsOneLess, KnowsValue, LeavesNoTaken}
use Rattle.ft_search.specs.Held.{IsHeldAt}
use Rattle.ft_search.specs.HeldValues.{HoldsValue}
use Rattle.ft_search.specs.OneEntryWrites.{KnowsEntries, Leaves, MayBeginEntries, MayWriteEntries}
use Rattle.ft_search.proofs.Calling.{loaded_same}
use Rattle.ft_search.proofs.Owning.{held_is_box}
use Rattle.ft_search.proofs.Puts.{few_same}
use Rattle.ft_section.specs.declared.answers.Stamp.{Stamp}
use Rattle.ft_table_calls.specs.declared.adding.Added.{Added}
use Rattle.ft_table_calls.specs.declared.adding.Added.TheVariants as added
use Rattle.ft_table_calls.proofs.Cursors.{added_cursors}
use Rattle.ft_new_keys.specs.HeldKeys.{AddsHeldKey, HoldsFor, IsPut, MayPutKey}
use Rattle.ft_new_keys.specs.KeyGrowth.{KnowsKeyed, holds, key_takes, most_of}
use Rattle.ft_new_keys.proofs.Present.{holds_not}
use Rattle.ft_dict.specs.HeldSets.{PutsHeld, WroteThere}

-- ---- steps that leave what the pass knows

-- what the bank may have then it may have had before
pub has_before : (v w : View) → SameWork v w → (stored : StoredWorld) → MayHave w stored → MayHave v stored
has_before v w work stored has = record {
  agrees = λ p low mine. has.agrees p (subst (λ (z : Shape). p < container_count z) (sym work.pass.shape) low) (work.pass.locks p ∙ mine) ∙ work_knows v w p work;
  containers = has.containers ∙ ap container_count work.pass.shape;
  kinds = has.kinds ∙ ap (λ (z : Shape). kinds_in z.starts) work.pass.shape;
  order = has.order;
  unsplit = has.unsplit;
  words = has.words;
}

pub leaves_on : (o : ℕ) (called : Call) (said : Reply) (left : ContainerState) (v w : View) → SameWork v w → Leaves o called said left v → Leaves o called said left w
leaves_on o called said left v w work leaves = record {
  write = leaves.write;
  changed = leaves.changed;
  words = leaves.words;
  locks = λ p e. work.pass.locks p ∙ leaves.locks p e;
  replied = λ found has. leaves.replied found (has_before v w work found has);
  declared = λ found has. leaves.declared found (has_before v w work found has);
  fits = λ found has. leaves.fits found (has_before v w work found has);
  left_is = λ found has. leaves.left_is found (has_before v w work found has);
}

module _ (k : Shape) (o : ℕ) (v u : View) (shape : v.shape ≡ k) (may : MayBeginEntries k o v) where
  low : o < container_count v.shape
  low = subst (λ (z : Shape). o < container_count z) (sym shape) may.container

  pub knows_begun : KnowsEntries k o v
  knows_begun = record { container = may.container; keyed = may.keyed; locked = may.locked; even = may.even o; stands = may.stands }

  stands_on : SameWork v u → held_unboxed o u ≡ held_unboxed o v → Represents k.texts (held_unboxed o u) (known_state o u)
  stands_on work reads = subst (λ (z : ContainerWords × ContainerState). Represents k.texts z.0 z.1) (λ d. (sym reads d, sym (work_knows v u o work) d)) may.stands

  pub boxed_reads : OnlyBoxed v u → held_unboxed o u ≡ held_unboxed o v
  boxed_reads l = l.unboxed o low may.locked

  pub begins_loaded : OnlyLoaded v u → MayBeginEntries k o u
  begins_loaded l = record {
    container = may.container;
    keyed = may.keyed;
    locked = l.work.pass.locks o ∙ may.locked;
    even = λ p. l.work.pass.writes p ∙ may.even p;
    stands = stands_on l.work (l.unboxed o low may.locked);
    owes = l.work.owes ∙ may.owes;
    settled = (stays_settled_same v u l.boxes.made).settled may.settled;
    few = few_same v u l.boxes.references may.few;
    left = subst (λ (n : ℕ). 0 < n) (sym l.work.left) may.left;
  }

  -- a pass that is done with boxes then
  pub writes_boxed : OnlyBoxed v u → IsDoneWithBoxes k u.log → MayWriteEntries k o u
  writes_boxed l done = record {
    container = may.container;
    keyed = may.keyed;
    locked = l.work.pass.locks o ∙ may.locked;
    even = λ p. l.work.pass.writes p ∙ may.even p;
    stands = stands_on l.work (boxed_reads l);
    owes = l.work.owes ∙ may.owes;
    boxes = done;
    left = subst (λ (n : ℕ). 0 < n) (sym l.work.left) may.left;
  }

-- ---- the box

module _ (b : Ref) (value : Value) (v : View) (h : HoldsValue b value v) where
  pub one_held : references_held v.shape (box_id b) v.log ≡ 1
  one_held = h.one (box_id b) ∙ here (box_id b) (box_id b) 1 0 refl

  pub holds_box : HoldsBox b v
  holds_box = let one = one_held in (h.name, omega (arith, one))

  pub holds_for : IsSettled v.log → HoldsFor (Some b) (Plain value) v
  holds_for settled = record {
    settled = settled;
    held = h.one;
    knows = λ c is.
        let same : b ≡ c = ap (λ (z : Option Ref). unwrap_or z b) is in
        subst (λ (z : Ref). IsBoxIn v.shape z × ((any : Value) × (Plain value ≡ Plain any) × KnowsValue z any v)) same (h.name, (value, refl, h.knows));
    taken = λ c e. here c (box_id b) 1 0 (h.taken c e);
  }

-- after loads
pub holds_loaded : (b : Ref) (value : Value) (v u : View) → ∥ IsReachable v ∥₁ → OnlyLoaded v u → HoldsValue b value v → HoldsValue b value u
holds_loaded b value v u possible l h =
    let id = box_id b in
    let some_held = holds_box b value v h in
    let name = held_is_box v id possible some_held.1 in
    let one = l.boxes.knows id 1 name (inl refl) h.knows.kind in
    let two = l.boxes.knows id 2 name (inr refl) h.knows.payload in
    record {
      name = subst (λ (z : Shape). IsBoxIn z b) (sym l.work.pass.shape) h.name;
      one = λ c. l.boxes.references c ∙ h.one c;
      knows = record {
        kind = one.0;
        payload = two.0;
        words = subst (λ (z : ℕ × ℕ). IsStored z.0 z.1 (Plain value)) (λ d. (sym one.1 d, sym two.1 d)) h.knows.words;
      };
      taken = λ c e. h.taken c (sym (l.boxes.made.uses c) ∙ e);
    }

-- the reference is dropped
pub done_dropped : (k : Shape) (b : Ref) (value : Value) (u w : View) → HoldsValue b value u → w.shape ≡ k → IsSettled w.log → ((o : ℕ) → is_writing o u.log ≡ false) → HoldsOneLess b u w → TakesNoPlace u w → LeavesNoTaken b u w → IsDoneWithBoxes k w.log
done_dropped k b value u w h then_ settled idle less places gone =
    let none : (c : ℕ) → references_held w.shape c w.log ≡ 0 = λ c.
    let l = less c in
    let one = h.one c in
    omega (arith, l, one) in
    record {
      settled = settled;
      none = λ c. ap (λ (z : Shape). references_held z c w.log) (sym then_) ∙ none c;
      stored = λ c taken. gone idle (none (box_id b)) (subst (λ (n : ℕ). place_use n w.log ≡ use_taken) (h.taken c (places c taken)) taken);
    }

-- ---- what the call comes to

abbrev puts_takes : ContainerState → Key → Option ℕ
puts_takes x key = if holds x.content key then None else key_takes x.content x.table

abbrev puts_over : ContainerState → Key → Bool
puts_over x key = if holds x.content key then false else nat_lt (most_of x.content) (length_of x.content + 1)

module _ (k : Shape) (o : ℕ) (key : Key) (called : Call) (said : Reply) (v u w : View) (only : OnlyLoaded v u) where
  same : known_state o u ≡ known_state o v
  same = work_knows v u o only.work

  -- the key is there
  pub puts_there : (stamp : Stamp) → holds (known_state o u).content key ≡ true → stamp.wrote ≡ true → WroteThere k o key called said stamp.number u w → PutsHeld k o key called said v w (added.Made stamp)
  puts_there stamp there is m =
      let takes : None ≡ puts_takes (known_state o v) key = sym (ap (λ (b : Bool). if b then None else key_takes (known_state o u).content (known_state o u).table) there) ∙ ap (λ (z : ContainerState). puts_takes z key) same in
      let over : false ≡ puts_over (known_state o v) key = sym (ap (λ (b : Bool). if b then false else nat_lt (most_of (known_state o u).content) (length_of (known_state o u).content + 1)) there) ∙ ap (λ (z : ContainerState). puts_over z key) same in
      let made : IsPut k o key m.box None false called said m.before w (added.Made stamp) = (refl, is, m.put) in
      let boxed = boxed_then v u m.before (loaded_boxed v u only) m.boxed in
      record {
        before = m.before;
        boxed = boxed;
        box = m.box;
        after = w;
        put = subst (λ (z : Option ℕ × Bool). IsPut k o key m.box z.0 z.1 called said m.before w (added.Made stamp)) (λ i. (takes i, over i)) made;
        dropped = loaded_boxed w w (loaded_same w);
        cursors = λ number. m.put.wrote.pass.cursors number ∙ boxed.work.pass.cursors number;
        boxes = m.put.references.boxes;
      }

  -- it isn't
  pub puts_new : (b : Ref) (what : Added) → IsHeldAt (known_state o u).content key None → AddsHeldKey k o key b called said u w what → PutsHeld k o key called said v w what
  puts_new b what none a =
      let not = holds_not (known_state o u).content key none in
      let takes : key_takes (known_state o u).content (known_state o u).table ≡ puts_takes (known_state o v) key = sym (ap (λ (b : Bool). if b then None else key_takes (known_state o u).content (known_state o u).table) not) ∙ ap (λ (z : ContainerState). puts_takes z key) same in
      let over : nat_lt (most_of (known_state o u).content) (length_of (known_state o u).content + 1) ≡ puts_over (known_state o v) key = sym (ap (λ (b : Bool). if b then false else nat_lt (most_of (known_state o u).content) (length_of (known_state o u).content + 1)) not) ∙ ap (λ (z : ContainerState). puts_over z key) same in
      let x = a.put.0 in
      let boxed = boxed_then v u x (loaded_boxed v u only) (loaded_boxed u x a.put.1) in
      let put = added_cursors _ k _ _ called said x a.after what a.put.2 in
      record {
        before = x;
        boxed = boxed;
        box = Some b;
        after = a.after;
        put = subst (λ (z : Option ℕ × Bool). IsPut k o key (Some b) z.0 z.1 called said x a.after what) (λ i. (takes i, over i)) a.put.2;
        dropped = a.dropped;
        cursors = λ number. a.dropped.work.pass.cursors number ∙ (put number ∙ boxed.work.pass.cursors number);
        boxes = a.boxes;
      }

-- who may begin a write of the dict may add a key
pub may_put : (k : Shape) (o : ℕ) (old : Option Table) (v u : View) → OnlyLoaded v u → used v.log ≡ false → flight v.log ≡ 0 → MayBeginEntries k o u → KnowsKeyed k o old u → MayPutKey k o old u
may_put k o old v u only unused idle may keyed = record {
  keyed = keyed;
  even = may.even;
  used = only.work.used ∙ unused;
  owes = may.owes;
  idle = only.work.pass.flight ∙ idle;
  left = may.left;
}
