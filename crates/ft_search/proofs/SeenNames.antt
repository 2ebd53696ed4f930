-- A box whose name a look-up without the lock has read, between two loads of a version that found the same even number, is one
-- of the bank.
use Rattle.std.proofs.Common.{◌≡◌, ◌≢◌, ℕ, ◌/◌, ◌<◌, eqb, Bool, true, false, cond, List, [], ◌∷◌, refl, sym, ap, ◌∙◌, subst, arith}
use Rattle.std.proofs.Math.Bridge.{le_prop}
use Rattle.std.proofs.Math.Logic.{∥∥₁_elim}
use mathlib.Core.Logic.{dite}
use native.Mathlib.Decide.{ℕ_discrete}
use Rattle.ft_trace.specs.declared.Act.{Act}
use Rattle.ft_trace.specs.declared.Act.TheVariants.{Commit, GivePlace, TakePlace}
use Rattle.ft_trace.specs.declared.Shape.{Shape}
use Rattle.ft_trace.specs.declared.View.{View}
use Rattle.ft_trace.specs.Addresses.{maker_of, place_in, place_bit_of, place_word_of, IsBoxName}
use Rattle.ft_trace.specs.Bits.{bit}
use Rattle.ft_trace.specs.Boxes.{place_use, place_use_next}
use Rattle.ft_trace.specs.BoxTraces.{was_stored}
use Rattle.ft_trace.specs.SeenBoxes.{SawBox}
use Rattle.ft_trace.specs.Traces.{Event, did, forked, joined, sent, IsReachable, Valid}
use Rattle.ft_trace.proofs.Cases.{miss}
use Rattle.ft_trace.proofs.EarlierMoments.{was}
use Rattle.ft_trace.proofs.SeenNames.{seen_were_stored}
use Rattle.ft_search.proofs.BoxLoads.{IsLogged, logged_before}

-- ---- places that a pass has used

either_same : (s : Bool) (n : ℕ) → cond s n n ≡ n
either_same true n = refl
either_same false n = refl

-- 1 where a place that had no use was taken
abbrev taken : Bool → Bool → ℕ
taken s t = cond s (cond t 1 0) 0

-- a place comes to be used by being taken
pub place_named : (k : Shape) (b : ℕ) (l : List Act) → IsLogged k l → place_use b l ≢ 0 → IsBoxName k b
place_named k b [] x some_ = absurd (some_ refl)
place_named k b (TakePlace c f ∷ l) x some_ =
    dite (ℕ_discrete c b)
    (λ (e : c ≡ b). let w = was k x.0 x.3 x.1 x.2 x.4 [] (TakePlace c f) l x.5 in subst (IsBoxName k) e (w.may tt).0)
    (λ ne. place_named k b l (logged_before k (TakePlace c f) l x) (λ z. some_ (miss c b (cond (eqb (bit (place_bit_of c) f) 1) (cond (eqb (place_use b l) 2) 2 1) (place_use b l)) (place_use b l) ne ∙ z)))
place_named k b (Commit c r f s ∷ l) x some_ = place_named k b l (logged_before k (Commit c r f s) l x) (λ z. some_ (ap (λ (n : ℕ). cond (eqb n 1) 2 n) z))
place_named k b (GivePlace c ∷ l) x some_ = place_named k b l (logged_before k (GivePlace c) l x) (λ z. some_ (ap (λ (n : ℕ). cond (eqb c b) (cond (eqb n 1) 0 n) n) z ∙ either_same (eqb c b) 0))
place_named k b (a ∷ l) x some_ = place_named k b l (logged_before k a l x) some_

-- one action alone doesn't store a box
never_two : (b : ℕ) (a : Act) → place_use_next b a 0 ≢ 2
never_two b (TakePlace c f) e = by (eqb c b) (eqb (bit (place_bit_of c) f) 1) e
  where
    by : (s t : Bool) → taken s t ≢ 2
    by true true e = absurd (cc)
    by true false e = absurd (cc)
    by false t e = absurd (cc)
never_two b (GivePlace c) e =
    let none = either_same (eqb c b) 0 in
    absurd (omega (arith, none, e))
never_two b (Commit c r f s) e = absurd (cc)
never_two b a e = absurd (cc)

pub stored_named : (k : Shape) (b : ℕ) (es : List Event) → Valid k es → was_stored b es ≡ true → IsBoxName k b
stored_named k b [] valid stored = absurd (cc)
stored_named k b (did id v a ∷ es) valid stored =
    dite (ℕ_discrete (place_use b v.log) 0)
    (λ (z : place_use b v.log ≡ 0).
    stored_named k b es valid.0
    (sym (miss (place_use_next b a (place_use b v.log)) 2 true (was_stored b es) (λ e. never_two b a (ap (place_use_next b a) (sym z) ∙ e))) ∙ stored))
    (λ some_. place_named k b v.log (es, id, v, valid.0, valid.1.0, refl) some_)
stored_named k b (forked id v ∷ es) valid stored = stored_named k b es valid.0 stored
stored_named k b (sent id v given ∷ es) valid stored = stored_named k b es valid.0 stored
stored_named k b (joined id v other w ∷ es) valid stored = stored_named k b es valid.0 stored

-- ---- of a pass

pub saw_is_box : (v : View) → ∥ IsReachable v ∥₁ → (b : ℕ) → SawBox v.shape b v.log → IsBoxName v.shape b
saw_is_box v possible b saw =
    let k = v.shape in
    let name : IsReachable v → IsBoxName k b = λ x. stored_named k b x.0 x.2.0 (seen_were_stored k b x.0 x.2.0 x.1 v x.2.1 saw) in (
      ∥∥₁_elim {P = maker_of b < k.passes} possible le_prop (λ x. (name x).0),
      ∥∥₁_elim {P = place_in b < k.heap} possible le_prop (λ x. (name x).1),
      ∥∥₁_elim {P = place_word_of b < k.heap / 64} possible le_prop (λ x. (name x).2),
    )
