-- What a pass knows of the values in boxes stays in loads, and in puts of words of a container whose lock it has.
use Rattle.std.proofs.Common.{◌≡◌, ℕ, ◌+◌, ◌<◌, ◌≤◌, Bool, true, false, cond, List, [], ◌∷◌, refl, sym, ap, ◌∙◌, subst, arith}
use Rattle.std.specs.Prelude.{◌==◌}
use Rattle.ft_layout.specs.declared.slot.Stored.TheVariants.{Plain}
use Rattle.ft_layout.specs.Words.{IsStored}
use Rattle.ft_trace.specs.declared.Act.{Act}
use Rattle.ft_trace.specs.declared.Act.TheVariants.{PutTable}
use Rattle.ft_trace.specs.declared.Shape.{Shape}
use Rattle.ft_trace.specs.declared.View.{View}
use Rattle.ft_trace.specs.Acts.{has_lock, mem, view_after}
use Rattle.ft_trace.specs.Addresses.{container_count}
use Rattle.ft_trace.specs.Boxes.{named_in_container, references_held, times_kept, known_box_word, knows_box_word}
use Rattle.ft_trace.specs.BoxWords.{box_kind}
use Rattle.ft_trace.specs.Traces.{IsReachable}
use Rattle.ft_trace.proofs.BoxKnown.{sure_after, sure_stays}
use Rattle.ft_trace.proofs.Sums.{sum_at}
use Rattle.ft_bank.specs.BoxSteps.{box_id, value_acts, IsBoxIn}
use Rattle.ft_bank.specs.Series.{noted_all}
use Rattle.ft_bank.specs.Whole.{OnlyLoaded}
use Rattle.ft_boxes.specs.References.{HoldsBox, KeepsValues}
use Rattle.ft_boxes.proofs.Steps.{keeps_same}
use Rattle.ft_search.specs.Boxed.{KeepsOwn}
use Rattle.ft_search.proofs.Owning.{held_is_box}
use Rattle.ft_search.proofs.Unboxing.{reads_boxed}

-- ---- loads

pub loads_keep : (v w : View) → ∥ IsReachable v ∥₁ → OnlyLoaded v w → KeepsValues v w
loads_keep v w possible l = keeps_same v w (λ b held. held_is_box v (box_id b) possible held.1) l.boxes.knows

-- ---- puts

-- the pass holds a reference for the box, or a value of the container names it
abbrev IsNamedOrHeld : Shape → ℕ → ℕ → List Act → Type 0
IsNamedOrHeld k o n l = 0 < references_held k n l + named_in_container k n o (mem k l)

-- the pass has the lock of the container, and knows the value in such a box
record Kept (n o : ℕ) (v : View) : Type 0 where
  low : o < container_count v.shape
  mine : has_lock o v.log ≡ true
  has : IsNamedOrHeld v.shape o n v.log
  kind : knows_box_word v.shape n 1 v.log ≡ true
  payload : knows_box_word v.shape n 2 v.log ≡ true

kept_times : (k : Shape) (o n : ℕ) (l : List Act) → o < container_count k → has_lock o l ≡ true → IsNamedOrHeld k o n l → 0 < times_kept k n l
kept_times k o n l low mine has =
    let f : ℕ → ℕ = λ p. cond (has_lock p l) (named_in_container k n p (mem k l)) 0 in
    let s = sum_at f (container_count k) o low in
    let e : f o ≡ named_in_container k n o (mem k l) = ap (λ (x : Bool). cond x (named_in_container k n o (mem k l)) 0) mine in
    omega (arith, s, e, has)

-- a put of a word of the container leaves the box one of the two
kept_put : (n o t i x : ℕ) (v : View) → Kept n o v → Kept n o (view_after (PutTable o t i x) v)
kept_put n o t i x v kept =
    let k = v.shape in
    let a : Act = PutTable o t i x in
    let has = kept.has in
    let more : IsNamedOrHeld k o n (a ∷ v.log) = omega (arith, has) in
    let times = kept_times k o n (a ∷ v.log) kept.low kept.mine more in
    record {
      low = kept.low;
      mine = kept.mine;
      has = more;
      kind = sure_after k n 1 a v.log (λ z. absurd (omega (arith, times, z))) (sure_stays n 1 a (knows_box_word k n 1 v.log) kept.kind);
      payload = sure_after k n 2 a v.log (λ z. absurd (omega (arith, times, z))) (sure_stays n 2 a (knows_box_word k n 2 v.log) kept.payload);
    }

-- these are puts of words of tables of the container
abbrev pub ArePuts : ℕ → List Act → Type 0
ArePuts o [] = Unit {0}
ArePuts o (PutTable p t i x ∷ earlier) = (p ≡ o) × ArePuts o earlier
ArePuts o (act ∷ earlier) = ⊥

kept_puts : (n o : ℕ) (acts : List Act) (v : View) → ArePuts o acts → Kept n o v → Kept n o (noted_all acts v)
kept_puts n o [] v are kept = kept
kept_puts n o (PutTable p t i x ∷ acts) v are kept =
    subst (λ (z : ℕ). Kept n o (view_after (PutTable z t i x) (noted_all acts v))) (sym are.0) (kept_put n o t i x (noted_all acts v) (kept_puts n o acts v are.1 kept))
kept_puts n o (act ∷ acts) v are kept = absurd are

known_puts : (o n i : ℕ) (acts : List Act) (v : View) → ArePuts o acts → known_box_word (noted_all acts v).shape n i (noted_all acts v).log ≡ known_box_word v.shape n i v.log
known_puts o n i [] v are = refl
known_puts o n i (PutTable p t j x ∷ acts) v are = known_puts o n i acts v are.1
known_puts o n i (act ∷ acts) v are = absurd are

pub puts_keep : (o : ℕ) (acts : List Act) (v w : View) → w ≡ noted_all acts v → ArePuts o acts → o < container_count v.shape → has_lock o v.log ≡ true → KeepsValues v w
puts_keep o acts v w is are low mine = subst (KeepsValues v) (sym is) keeps
  where
    keeps : KeepsValues v (noted_all acts v)
    keeps b value held still knows =
        let n = box_id b in
        let some_ = held.1 in
        let kept = kept_puts n o acts v are (record { low = low; mine = mine; has = omega (arith, some_); kind = knows.kind; payload = knows.payload }) in
        let one = known_puts o n 1 acts v are in
        let two = known_puts o n 2 acts v are in
        record {
          kind = kept.kind;
          payload = kept.payload;
          words = subst (λ (z : ℕ × ℕ). IsStored z.0 z.1 (Plain value)) (λ d. (sym one d, sym two d)) knows.words;
        }

-- the puts of a value
pub value_puts_are : (o t word kind payload : ℕ) → ArePuts o (value_acts o t word kind payload)
value_puts_are o t word kind payload = by (kind == box_kind)
  where
    by : (x : Bool) → ArePuts o (cond x (PutTable o t word kind ∷ PutTable o t (word + 1) payload ∷ []) (PutTable o t (word + 1) payload ∷ PutTable o t word kind ∷ []))
    by true = (refl, (refl, tt))
    by false = (refl, (refl, tt))

-- ---- one after the other

-- where the pass held no fewer references between the two than after them
pub keeps_fewer : (u v w : View) → v.shape ≡ w.shape → ((c : ℕ) → references_held w.shape c w.log ≤ references_held v.shape c v.log) → KeepsValues u v → KeepsValues v w → KeepsValues u w
keeps_fewer u v w shape less first then b value held still knows =
    let fewer = less (box_id b) in
    let some_ = still.1 in
    let mid : HoldsBox b v = (subst (λ (z : Shape). IsBoxIn z b) (sym shape) still.0, omega (arith, fewer, some_)) in
    then b value mid still (first b value held mid knows)

-- where all that the pass holds a reference for stays, what it knows stays
pub own_keeps : (v w : View) → KeepsOwn v w → KeepsValues v w
own_keeps v w keeps b value held still knows =
    let n = box_id b in
    let r = keeps 4 n (λ four. (held.1, knows.kind, knows.payload)) in
    let own = r.0 refl in
    let now = reads_boxed w 4 n refl in
    let was = reads_boxed v 4 n refl in
    let one : known_box_word w.shape n 1 w.log ≡ known_box_word v.shape n 1 v.log = sym now.0 ∙ (r.1 ∙ was.0) in
    let two : known_box_word w.shape n 2 w.log ≡ known_box_word v.shape n 2 v.log = sym now.1 ∙ (r.2 ∙ was.1) in
    record {
      kind = own.1;
      payload = own.2;
      words = subst (λ (z : ℕ × ℕ). IsStored z.0 z.1 (Plain value)) (λ d. (sym one d, sym two d)) knows.words;
    }
