-- A new key whose value is to stand in a box: what the pass has of the box until the entry names it, and then.
use Rattle.std.proofs.Common.{◌≡◌, ◌≢◌, ℕ, suc, ◌+◌, ◌<◌, ◌≤◌, true≢false, Option, Some, None, refl, sym, ap, ◌∙◌, subst, arith, get_or-set_other}
use Rattle.std.specs.Prelude.{is_some}
use Rattle.std.specs.Option.{unwrap_or}
use mathlib.Core.Logic.{dite}
use native.Mathlib.Decide.{ℕ_discrete}
use Rattle.ft_model.specs.declared.call.Call.{Call}
use Rattle.ft_model.specs.declared.data.Key.{Key}
use Rattle.ft_model.specs.TableUses.{StoredWorld}
use Rattle.ft_layout.specs.declared.slot.Ref.{Ref}
use Rattle.ft_layout.specs.declared.slot.Stored.{Stored}
use Rattle.ft_layout.specs.Words.{stored_kind, stored_payload}
use Rattle.ft_trace.specs.declared.Shape.{Shape}
use Rattle.ft_trace.specs.declared.View.{View}
use Rattle.ft_trace.specs.declared.Act.TheVariants.{PutRoot, StartWrite}
use Rattle.ft_trace.specs.Acts.{mem, view_after}
use Rattle.ft_trace.specs.Addresses.{class_of, slots}
use Rattle.ft_trace.specs.Boxes.{named_in_container, place_use, references_held, use_taken, IsDoneWithBoxes, IsSettled, StoresTaken}
use Rattle.ft_trace.specs.Carefuls.{HasLiveKey}
use Rattle.ft_trace.specs.ContainerStates.{changes, kind_in}
use Rattle.ft_trace.specs.Holds.{held_words, held_unboxed}
use Rattle.ft_trace.specs.Kinds.{rows, IsKeyed}
use Rattle.ft_trace.specs.Pictures.{ContainerWords, entry_field, entry_offset, root_in}
use Rattle.ft_trace.proofs.Cases.{here, miss}
use Rattle.ft_bank.specs.BoxSteps.{box_id}
use Rattle.ft_bank.specs.SameBoxes.{HoldsFew, SameReferences, StaysSettled, TakesNoPlace}
use Rattle.ft_bank.specs.WriteSteps.{MayHave}
use Rattle.ft_boxes.specs.References.{HoldsBox, KeepsValues}
use Rattle.ft_boxes.proofs.Steps.{holds_same}
use Rattle.ft_search.specs.HeldValues.{NamesBoxAt}
use Rattle.ft_search.specs.OneEntryWrites.{raised_at}
use Rattle.ft_search.proofs.NamedEntries.{entry_named}
use Rattle.ft_search.proofs.Unboxing.{reads_boxed}
use Rattle.ft_new_keys.specs.HeldKeys.{HoldsFor, PutsInBox, needed_for}
use Rattle.ft_new_keys.specs.Internal.Laying.{ReadsAsEntry}

-- ---- what is needed

pub needed_some : (boxed : Option Ref) (c : ℕ) → needed_for boxed c ≡ 1 → (b : Ref) × (boxed ≡ Some b) × (c ≡ box_id b)
needed_some None c one = absurd (omega (arith, one))
needed_some (Some b) c one = (
  b,
  refl,
  dite (ℕ_discrete c (box_id b)) (λ (same : c ≡ box_id b). same) (λ ne. let none : needed_for (Some b) c ≡ 0 = miss c (box_id b) 1 0 ne in absurd (omega (arith, one, none))),
)

needed_few : (boxed : Option Ref) (c : ℕ) → needed_for boxed c ≤ 1
needed_few None c = omega arith
needed_few (Some b) c = dite (ℕ_discrete c (box_id b)) (λ same. let e : needed_for (Some b) c ≡ 1 = here c (box_id b) 1 0 same in omega (arith, e)) (λ ne. let e : needed_for (Some b) c ≡ 0 = miss c (box_id b) 1 0 ne in omega (arith, e))

pub needs_one : (b : Ref) → needed_for (Some b) (box_id b) ≡ 1
needs_one b = here (box_id b) (box_id b) 1 0 refl

pub few_held : (boxed : Option Ref) (stored : Stored) (v : View) → HoldsFor boxed stored v → HoldsFew v
few_held boxed stored v holds c = let h = holds.held c in let few = needed_few boxed c in omega (arith, h, few)

-- no box is one
pub no_box : (b : Ref) → None ≡ Some b → ⊥
no_box b is = true≢false (sym (ap is_some is))

-- who is done with boxes holds what is needed for no box
pub holds_none : (k : Shape) (stored : Stored) (v : View) → v.shape ≡ k → IsDoneWithBoxes k v.log → HoldsFor None stored v
holds_none k stored v shape done = record {
  settled = done.settled;
  held = λ c. ap (λ (z : Shape). references_held z c v.log) shape ∙ done.none c;
  knows = λ b is. absurd (no_box b is);
  taken = λ c e. absurd (done.stored c e);
}

-- ---- until the entry names the box

pub holds_box : (b : Ref) (boxed : Option Ref) (stored : Stored) (v : View) → HoldsFor boxed stored v → boxed ≡ Some b → HoldsBox b v
holds_box b boxed stored v holds is =
    let h = holds.held (box_id b) in
    let one : needed_for boxed (box_id b) ≡ 1 = ap (λ (z : Option Ref). needed_for z (box_id b)) is ∙ needs_one b in
    ((holds.knows b is).0, omega (arith, h, one))

pub holds_on : (boxed : Option Ref) (stored : Stored) (v w : View) → w.shape ≡ v.shape → SameReferences v w → StaysSettled v w → KeepsValues v w → HoldsFor boxed stored v → HoldsFor boxed stored w
holds_on boxed stored v w shape same stays keeps holds = record {
  settled = stays.settled holds.settled;
  held = λ c. same c ∙ holds.held c;
  knows = λ b is.
      let x = holds.knows b is in
      let held = holds_box b boxed stored v holds is in
      let still = holds_same v w (sym shape) same b held in
      (still.0, (x.1.0, x.1.1, keeps b x.1.0 held still x.1.2));
  taken = λ c e. holds.taken c (stays.places c e);
}

-- the root of another table leaves what the pass has to do with its own boxes
pub settled_rooted : (o r old : ℕ) (x y : View) (f : ℕ) → y ≡ view_after (PutRoot o r old) (view_after (StartWrite o f) x) → StaysSettled x y
settled_rooted o r old x y f is = record {
  settled = λ s. subst (λ (z : View). IsSettled z.log) (sym is) (record { unmade = s.unmade; counted = s.counted; whole = s.whole; given = s.given });
  places = λ b taken. ap (λ (z : View). place_use b z.log) (sym is) ∙ taken;
}

-- what stands in the box reads as the entry
pub reads_entry : (o t place : ℕ) (boxed : Option Ref) (stored : Stored) (v : View) → HoldsFor boxed stored v → entry_field (slots (class_of t)) (held_unboxed o v).table place 4 ≡ stored_kind stored → entry_field (slots (class_of t)) (held_unboxed o v).table place 5 ≡ stored_payload stored → (b : Ref) → boxed ≡ Some b → ReadsAsEntry o t place b v
reads_entry o t place boxed stored v holds kind payload b is =
    let x = holds.knows b is in
    let known = x.1.2 in
    let held = holds_box b boxed stored v holds is in
    let reads = reads_boxed v 4 (box_id b) refl in
    record {
      name = x.0;
      own = λ four. (held.1, known.kind, known.payload);
      kind = reads.0 ∙ (known.words.kind_is ∙ (ap stored_kind (sym x.1.1) ∙ sym kind));
      payload = reads.1 ∙ (known.words.payload_is ∙ (ap stored_payload (sym x.1.1) ∙ sym payload));
    }

-- ---- once it names it

-- these words of the entry name the box, if there is one
abbrev pub NamesAt : ℕ → ℕ → ℕ → Option Ref → View → Type 0
NamesAt o t place boxed v =
    (b : Ref) → boxed ≡ Some b → (entry_field (slots (class_of t)) (held_words o v).table place 4 ≡ 4) × (entry_field (slots (class_of t)) (held_words o v).table place 5 ≡ box_id b)

-- a box that no write of the pass has stored is stored by this one
pub stores_boxed : (k : Shape) (o t place : ℕ) (boxed : Option Ref) (stored : Stored) (called : Call) (v u : View) → u.shape ≡ k → IsKeyed (kind_in k.starts o) → root_in (held_words o u) ≡ suc t → place < rows (kind_in k.starts o) (class_of t) → changes called ≡ o → HoldsFor boxed stored v → PutsInBox boxed called v → TakesNoPlace v u → ((found : StoredWorld) → MayHave u found → MayHave v found) → NamesAt o t place boxed u
    → (found : StoredWorld) → MayHave u found → StoresTaken u.shape found.world u.log called
stores_boxed k o t place boxed stored called v u shape keyed root low at holds boxing places before names found has =
    let row : place < rows (kind_in u.shape.starts o) (class_of t) = subst (λ (z : Shape). place < rows (kind_in z.starts o) (class_of t)) (sym shape) low in (
      (λ c taken.
          let x = needed_some boxed c (holds.taken c (places c taken)) in
          let raw = names x.0 x.1 in (
            subst (λ (n : ℕ). named_in_container u.shape c n (mem u.shape u.log) ≢ 0) (sym at) (entry_named k u o t place c shape keyed root row raw.0 (raw.1 ∙ sym x.2)),
            boxing x.0 x.1 found (before found has),
          )),
      (λ c d one two.
          let x = needed_some boxed c (holds.taken c (places c one)) in
          let y = needed_some boxed d (holds.taken d (places d two)) in
          let same : x.0 ≡ y.0 = ap (λ (z : Option Ref). unwrap_or z x.0) (sym x.1 ∙ y.1) in
          x.2 ∙ (ap box_id same ∙ sym y.2)),
    )

-- the reference is the entry's, and the pass is done with boxes
pub named_done : (k : Shape) (boxed : Option Ref) (stored : Stored) (u w : View) → u.shape ≡ k → HoldsFor boxed stored u → StaysSettled u w → ((c : ℕ) → references_held k c w.log + needed_for boxed c ≡ references_held k c u.log) → ((c : ℕ) → place_use c w.log ≢ use_taken) → IsDoneWithBoxes k w.log
named_done k boxed stored u w shape holds stays moved untaken = record {
  settled = stays.settled holds.settled;
  none = λ c.
      let m = moved c in
      let h = ap (λ (z : Shape). references_held z c u.log) (sym shape) ∙ holds.held c in
      omega (arith, m, h);
  stored = untaken;
}

-- the version of the entry is made even, and the entry is as it was
pub names_closed : (o t place : ℕ) (key : Key) (boxed : Option Ref) (q w : View) → held_unboxed o w ≡ raised_at t place (held_unboxed o q) → held_words o w ≡ raised_at t place (held_words o q) → root_in (held_words o q) ≡ suc t → HasLiveKey (slots (class_of t)) (held_unboxed o q).table place key → NamesAt o t place boxed q → (b : Ref) → boxed ≡ Some b → NamesBoxAt o key b w
names_closed o t place key boxed q w words raw root live names b is =
    let n = slots (class_of t) in
    let at = names b is in
    let field : (x : ContainerWords) (i : ℕ) → 0 < i → entry_field n (raised_at t place x).table place i ≡ entry_field n x.table place i =
    λ x i some_. get_or-set_other x.table (entry_offset n place 0) (entry_offset n place i) (entry_field n x.table place 0 + 1) 0 (λ e. absurd (omega (arith, e, some_))) in
    record {
      table = t;
      place = place;
      root = ap root_in raw ∙ root;
      live = (
        ap (λ (x : ContainerWords). entry_field n x.table place 2) words ∙ (field (held_unboxed o q) 2 (omega arith) ∙ live.0),
        ap (λ (x : ContainerWords). entry_field n x.table place 3) words ∙ (field (held_unboxed o q) 3 (omega arith) ∙ live.1),
      );
      kind = ap (λ (x : ContainerWords). entry_field n x.table place 4) raw ∙ (field (held_words o q) 4 (omega arith) ∙ at.0);
      payload = ap (λ (x : ContainerWords). entry_field n x.table place 5) raw ∙ (field (held_words o q) 5 (omega arith) ∙ at.1);
    }
