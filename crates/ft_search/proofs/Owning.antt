-- Values that name boxes for which a pass holds a reference and whose value it knows.
use Rattle.std.proofs.Common.{◌≡◌, ◌≢◌, ℕ, ◌/◌, ◌<◌, List, ◌∷◌, inl, inr, refl, sym, ap, ◌∙◌, subst, arith}
use mathlib.Core.Logic.{dite}
use native.Mathlib.Decide.{ℕ_discrete}
use Rattle.std.proofs.Math.Bridge.{le_prop}
use Rattle.std.proofs.Math.Logic.{∥∥₁_elim}
use Rattle.ft_layout.specs.declared.slot.Stored.{Stored}
use Rattle.ft_layout.specs.Words.{FitsStored, IsStored, stored_kind, stored_payload}
use Rattle.ft_trace.specs.declared.Act.{Act}
use Rattle.ft_trace.specs.declared.Act.TheVariants.{StartWrite, PutFresh, PutRoot, PutTable}
use Rattle.ft_trace.specs.declared.Shape.{Shape}
use Rattle.ft_trace.specs.declared.View.{View}
use Rattle.ft_trace.specs.Acts.{view_after}
use Rattle.ft_trace.specs.Addresses.{maker_of, place_in, place_word_of, IsBoxName}
use Rattle.ft_trace.specs.Boxes.{references_held, times_kept}
use Rattle.ft_trace.specs.BoxTraces.{references, references_held_by}
use Rattle.ft_trace.specs.Traces.{run, IsReachable}
use Rattle.ft_trace.proofs.BoxKnown.{sure_after}
use Rattle.ft_trace.proofs.BoxValues.{box_name, box_there}
use Rattle.ft_trace.proofs.Sums.{total_at}
use Rattle.ft_bank.specs.BoxSteps.{HasReferenceFor, kind_read, payload_read}
use Rattle.ft_bank.specs.SameBoxes.{SameReferences}
use Rattle.ft_bank.specs.Whole.{OnlyLoaded}
use Rattle.ft_search.specs.Boxed.{KeepsOwn}
use Rattle.ft_search.proofs.Unboxing.{reads_boxed, reads_plain}

-- a box for which the pass holds a reference is one of the bank
module _ (v : View) (b : ℕ) (possible : ∥ IsReachable v ∥₁) (held : 0 < references_held v.shape b v.log) where
  name_now : (x : IsReachable v) → IsBoxName v.shape b
  name_now x =
      let k = v.shape in
      let es = x.0 in
      let t = total_at (references_held_by k b) (run k es).views x.1 v x.2.1 in
      let some_ : references k b es ≢ 0 = λ z. absurd (omega (arith, t, z, held)) in
      let up = box_there k b es x.2.0 some_ in
      box_name k b es x.2.0 (λ z. absurd (omega (arith, up, z)))

  pub held_is_box : IsBoxName v.shape b
  held_is_box = (
    ∥∥₁_elim {P = maker_of b < v.shape.passes} possible le_prop (λ x. (name_now x).0),
    ∥∥₁_elim {P = place_in b < v.shape.heap} possible le_prop (λ x. (name_now x).1),
    ∥∥₁_elim {P = place_word_of b < v.shape.heap / 64} possible le_prop (λ x. (name_now x).2),
  )

-- after loads
module _ (v w : View) (kind payload : ℕ) (possible : ∥ IsReachable v ∥₁) (own : HasReferenceFor v kind payload) (l : OnlyLoaded v w) where
  pub own_loaded : HasReferenceFor w kind payload
  own_loaded four =
      let o = own four in
      let name = held_is_box v payload possible o.0 in (
        subst (λ (n : ℕ). 0 < n) (sym (l.boxes.references payload)) o.0,
        (l.boxes.knows payload 1 name (inl refl) o.1).0,
        (l.boxes.knows payload 2 name (inr refl) o.2).0,
      )

  pub reads_loaded : (kind_read w kind payload ≡ kind_read v kind payload) × (payload_read w kind payload ≡ payload_read v kind payload)
  reads_loaded =
      dite (ℕ_discrete kind 4)
      (λ four.
      let o = own four in
      let name = held_is_box v payload possible o.0 in
      let now = reads_boxed w kind payload four in
      let was = reads_boxed v kind payload four in (
        now.0 ∙ ((l.boxes.knows payload 1 name (inl refl) o.1).1 ∙ sym was.0),
        now.1 ∙ ((l.boxes.knows payload 2 name (inr refl) o.2).1 ∙ sym was.1),
      ))
      (λ ne.
      let now = reads_plain w kind payload ne in
      let was = reads_plain v kind payload ne in
      (now.0 ∙ sym was.0, now.1 ∙ sym was.1))

-- ---- what a pass keeps

pub keeps_loaded : (v w : View) → ∥ IsReachable v ∥₁ → OnlyLoaded v w → KeepsOwn v w
keeps_loaded v w possible l kind payload own =
    let reads = reads_loaded v w kind payload possible own l in
    (own_loaded v w kind payload possible own l, reads.0, reads.1)

pub keeps_then : (u v w : View) → KeepsOwn u v → KeepsOwn v w → KeepsOwn u w
keeps_then u v w a b kind payload own =
    let one = a kind payload own in
    let two = b kind payload one.0 in
    (two.0, two.1 ∙ one.1, two.2 ∙ one.2)

-- while it holds a reference it knows what it knew
kept_held : (k : Shape) (b : ℕ) (l : List Act) → 0 < references_held k b l → times_kept k b l ≢ 0
kept_held k b l held z = absurd (omega (arith, held, z))

-- after a put that moves no reference
pub keeps_put : (v w : View) (o t i x : ℕ) → w ≡ view_after (PutTable o t i x) v → SameReferences v w → KeepsOwn v w
keeps_put v w o t i x is same kind payload own =
    let put : View = view_after (PutTable o t i x) v in
    let now : SameReferences v put = subst (SameReferences v) is same in
    let mine : HasReferenceFor put kind payload = λ four.
    let a = own four in
    let held : 0 < references_held v.shape payload (PutTable o t i x ∷ v.log) = subst (λ (n : ℕ). 0 < n) (sym (now payload)) a.0 in
    let kept = kept_held v.shape payload (PutTable o t i x ∷ v.log) held in
    (held, sure_after v.shape payload 1 (PutTable o t i x) v.log kept a.1, sure_after v.shape payload 2 (PutTable o t i x) v.log kept a.2) in (
      subst (λ (z : View). HasReferenceFor z kind payload) (sym is) mine,
      ap (λ (z : View). kind_read z kind payload) is,
      ap (λ (z : View). payload_read z kind payload) is,
    )

-- after the start of a write
pub keeps_begun : (v w : View) (o f : ℕ) → w ≡ view_after (StartWrite o f) v → KeepsOwn v w
keeps_begun v w o f is kind payload own =
    let begun : View = view_after (StartWrite o f) v in
    let mine : HasReferenceFor begun kind payload = λ four.
    let a = own four in
    let kept = kept_held v.shape payload (StartWrite o f ∷ v.log) a.0 in
    (a.0, sure_after v.shape payload 1 (StartWrite o f) v.log kept a.1, sure_after v.shape payload 2 (StartWrite o f) v.log kept a.2) in (
      subst (λ (z : View). HasReferenceFor z kind payload) (sym is) mine,
      ap (λ (z : View). kind_read z kind payload) is,
      ap (λ (z : View). payload_read z kind payload) is,
    )

-- after a put into a fresh table
pub keeps_fresh : (v w : View) (t i x : ℕ) → w ≡ view_after (PutFresh t i x) v → KeepsOwn v w
keeps_fresh v w t i x is kind payload own =
    let put : View = view_after (PutFresh t i x) v in
    let mine : HasReferenceFor put kind payload = λ four.
    let a = own four in
    let kept = kept_held v.shape payload (PutFresh t i x ∷ v.log) a.0 in
    (a.0, sure_after v.shape payload 1 (PutFresh t i x) v.log kept a.1, sure_after v.shape payload 2 (PutFresh t i x) v.log kept a.2) in (
      subst (λ (z : View). HasReferenceFor z kind payload) (sym is) mine,
      ap (λ (z : View). kind_read z kind payload) is,
      ap (λ (z : View). payload_read z kind payload) is,
    )

-- after another root that moves no reference
pub keeps_root : (v w : View) (o r old : ℕ) → w ≡ view_after (PutRoot o r old) v → SameReferences v w → KeepsOwn v w
keeps_root v w o r old is same kind payload own =
    let put : View = view_after (PutRoot o r old) v in
    let now : SameReferences v put = subst (SameReferences v) is same in
    let mine : HasReferenceFor put kind payload = λ four.
    let a = own four in
    let held : 0 < references_held v.shape payload (PutRoot o r old ∷ v.log) = subst (λ (n : ℕ). 0 < n) (sym (now payload)) a.0 in
    let kept = kept_held v.shape payload (PutRoot o r old ∷ v.log) held in
    (held, sure_after v.shape payload 1 (PutRoot o r old) v.log kept a.1, sure_after v.shape payload 2 (PutRoot o r old) v.log kept a.2) in (
      subst (λ (z : View). HasReferenceFor z kind payload) (sym is) mine,
      ap (λ (z : View). kind_read z kind payload) is,
      ap (λ (z : View). payload_read z kind payload) is,
    )

-- ---- values in place

-- nothing is asked of a value that names no box
pub own_plain : (v : View) (kind payload : ℕ) → kind ≢ 4 → HasReferenceFor v kind payload
own_plain v kind payload ne four = absurd (ne four)

-- what stands reads as it is
pub plain_seen : (v : View) (stored : Stored) → stored_kind stored ≢ 4 → FitsStored stored → IsStored (kind_read v (stored_kind stored) (stored_payload stored)) (payload_read v (stored_kind stored) (stored_payload stored)) stored
plain_seen v stored ne fits =
    let r = reads_plain v (stored_kind stored) (stored_payload stored) ne in
    record { fits = fits; kind_is = r.0; payload_is = r.1 }
