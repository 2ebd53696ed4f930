-- From what was loaded to the entry that follows.
use Rattle.std.proofs.Common.{◌≡◌, ◌⊎◌, inl, inr, ℕ, zero, suc, ◌+◌, ◌-◌, ◌<◌, ◌≤◌, Bool, true, false, true≢false, cond, List, [], ◌∷◌, length, Option, Some, None, refl, sym, ap, ◌∙◌, subst, arith}
use Rattle.std.specs.Prelude.{filter, slice_index_or}
use Rattle.std.specs.List.{find}
use Rattle.std.proofs.Math.Decide.{dec_lt}
use Rattle.std.proofs.lemmas.Bool.{lt-ltb, le-ltb}
use mathlib.Core.Logic.{dite}
use Rattle.ft_model.specs.declared.data.Key.{Key}
use Rattle.ft_model.specs.declared.data.Key.TheVariants as key
use Rattle.ft_model.specs.Cursors.{is_after}
use Rattle.ft_layout.specs.Tables.{UsedEntry, is_live, hash_of, slot_with, entry_word}
use Rattle.ft_layout.specs.declared.slot.Stored.{Stored}
use Rattle.ft_layout.specs.Words.{IsEntry, key_kind, gone_kind}
use Rattle.ft_keys.specs.declared.walk.Way.{Way}
use Rattle.ft_keys.specs.Ways.{IsTableOf}
use Rattle.ft_iter.specs.Seeking.{is_there, IsFirstAfter, IsFirstThere, FindsNext, SameMarks, Seeks}

module _ {A : Type 0} (f g : A → Bool) where
  -- neither there nor looked for
  abbrev pub Fails : A → Type 0
  Fails x = (g x ≡ false) ⊎ (f x ≡ false)

  pub none-found : (xs : List A) → ((q : ℕ) (any : A) → q < length xs → Fails (slice_index_or xs q any)) → find f (filter g xs) ≡ None
  none-found [] fails = refl
  none-found (x ∷ xs) fails =
      let more = none-found xs (λ q any low. fails (suc q) any (omega (arith, low))) in
      by (g x) refl (fails 0 x (omega arith)) more
    where
      here : (b : Bool) → f x ≡ b → f x ≡ false → find f (filter g xs) ≡ None → cond b (Some x) (find f (filter g xs)) ≡ None
      here true is lost more = absurd (true≢false (sym is ∙ lost))
      here false is lost more = more

      by : (b : Bool) → g x ≡ b → Fails x → find f (filter g xs) ≡ None → find f (cond b (x ∷ filter g xs) (filter g xs)) ≡ None
      by true is (inl lost) more = absurd (true≢false (sym is ∙ lost))
      by true is (inr lost) more = here (f x) refl lost more
      by false is fail more = more

  pub first-found : (xs : List A) (place : ℕ) (any : A) → place < length xs → g (slice_index_or xs place any) ≡ true → f (slice_index_or xs place any) ≡ true
      → ((q : ℕ) → q < place → Fails (slice_index_or xs q any)) → find f (filter g xs) ≡ Some (slice_index_or xs place any)
  first-found [] place any low there is fails = absurd (omega (arith, low))
  first-found (x ∷ xs) zero any low there is fails = ap (λ (b : Bool). find f (cond b (x ∷ filter g xs) (filter g xs))) there ∙ ap (λ (b : Bool). cond b (Some x) (find f (filter g xs))) is
  first-found (x ∷ xs) (suc place) any low there is fails =
      let more = first-found xs place any (omega (arith, low)) there is (λ q below. fails (suc q) (omega (arith, below))) in
      by (g x) refl (fails 0 (omega arith)) more
    where
      here : (b : Bool) → f x ≡ b → f x ≡ false → find f (filter g xs) ≡ Some (slice_index_or xs place any) → cond b (Some x) (find f (filter g xs)) ≡ Some (slice_index_or xs place any)
      here true is' lost more = absurd (true≢false (sym is' ∙ lost))
      here false is' lost more = more

      by : (b : Bool) → g x ≡ b → Fails x → find f (filter g xs) ≡ Some (slice_index_or xs place any) → find f (cond b (x ∷ filter g xs) (filter g xs)) ≡ Some (slice_index_or xs place any)
      by true is' (inl lost) more = absurd (true≢false (sym is' ∙ lost))
      by true is' (inr lost) more = here (f x) refl lost more
      by false is' fail more = more

-- ---- one entry

kind-there : (k : Key) (kind : ℕ) → kind ≡ key_kind k → is_there kind ≡ true
kind-there (key.Int n) kind is = ap is_there is
kind-there (key.Text sym) kind is = ap is_there is

kind-gone : (k : Key) (kind : ℕ) → kind ≡ gone_kind k → is_there kind ≡ false
kind-gone (key.Int n) kind is = ap is_there is
kind-gone (key.Text sym) kind is = ap is_there is

said : (word : ℕ → ℕ) (hash : ℕ) (k : Key) (serial : ℕ) (stored : Option Stored) → IsEntry word (slot_with hash k serial stored) → (is_there (word 2) ≡ is_live (record { key = k; serial = serial; stored = stored })) × (word 6 ≡ serial)
said word hash k serial (Some stored) is = (kind-there k (word 2) is.key.kind_is, is.serial)
said word hash k serial None is = (kind-gone k (word 2) is.key_is.kind_is, is.serial_is)

module _ (mask : ℕ) (words : List ℕ) (fill : ℕ) (way : Way) (texts : List ℕ) (used : List UsedEntry) (table : IsTableOf way texts mask used words) (filled : length used ≡ fill) where
  entry : (place : ℕ) (any : UsedEntry) → place < fill → (is_there (entry_word mask words place 2) ≡ is_live (slice_index_or used place any)) × (entry_word mask words place 6 ≡ (slice_index_or used place any).serial)
  entry place any low =
      let e = slice_index_or used place any in
      said (entry_word mask words place) (hash_of texts e.key) e.key e.serial e.stored (table.entries place any (omega (arith, low, filled)))

  rising : (i j : ℕ) (any : UsedEntry) → i ≤ j → j < fill → (slice_index_or used i any).serial ≤ (slice_index_or used j any).serial
  rising i j any low small =
      dite (dec_lt i j)
      (λ (less : i < j). let r = table.rising i j any less (omega (arith, small, filled)) in omega (arith, r))
      (λ more. let same : i ≡ j = omega (arith, more, low) in subst (λ (z : ℕ). (slice_index_or used i any).serial ≤ (slice_index_or used z any).serial) same (omega arith))

  -- from the first place after the last serial
  module _ (last from : ℕ) (low : from ≤ fill) (first : IsFirstAfter mask words fill last from) where
    before : (q : ℕ) (any : UsedEntry) → q < from → is_after (Some last) (slice_index_or used q any).serial ≡ false
    before q any below =
        let p = from - 1 in
        let at : p + 1 ≡ from = omega (arith, below) in
        let most = first.0 p at in
        let e = (entry p any (omega (arith, below, low))).1 in
        let r = rising q p any (omega (arith, below)) (omega (arith, below, low)) in
        le-ltb last (slice_index_or used q any).serial (omega (arith, most, e, r))

    later : (q : ℕ) (any : UsedEntry) → from ≤ q → q < fill → is_after (Some last) (slice_index_or used q any).serial ≡ true
    later q any more small =
        let least = first.1 (omega (arith, more, small)) in
        let e = (entry from any (omega (arith, more, small))).1 in
        let r = rising from q any more small in
        lt-ltb last (slice_index_or used q any).serial (omega (arith, least, e, r))

  -- what is found, by the places after which nothing is to be passed over
  pub follows : (last : Option ℕ) (from : ℕ) (place : Option ℕ) → ((q : ℕ) (any : UsedEntry) → q < from → is_after last (slice_index_or used q any).serial ≡ false)
      → ((q : ℕ) (any : UsedEntry) → from ≤ q → q < fill → is_after last (slice_index_or used q any).serial ≡ true) → IsFirstThere mask words from fill place → FindsNext used last place
  follows last from (Some place) early late first = (
    omega (arith, first.1, filled),
    λ any. first-found (λ e. is_after last e.serial) is_live used place any (omega (arith, first.1, filled)) (sym (entry place any first.1).0 ∙ first.2) (late place any first.0 first.1)
        (λ q below. dite (dec_lt q from) (λ (less : q < from). inr (early q any less)) (λ more. inl (sym (entry q any (let f = first.1 in omega (arith, below, f))).0 ∙ first.3 q (omega (arith, more)) below))),
  )
  follows last from None early late first =
      none-found (λ e. is_after last e.serial) is_live used
      (λ q any small. dite (dec_lt q from) (λ (less : q < from). inr (early q any less)) (λ more. inl (sym (entry q any (omega (arith, small, filled))).0 ∙ first q (omega (arith, more)) (omega (arith, small, filled)))))

-- of words with the same marks
module _ (mask : ℕ) (words read : List ℕ) (same : SameMarks mask words read) where
  first-read : (fill last place : ℕ) → IsFirstAfter mask words fill last place → IsFirstAfter mask read fill last place
  first-read fill last place first = (
    λ before at. subst (λ (z : ℕ). z ≤ last) (sym (same before 6 (inr refl))) (first.0 before at),
    λ small. subst (λ (z : ℕ). last < z) (sym (same place 6 (inr refl))) (first.1 small),
  )

  there-read : (from fill : ℕ) (place : Option ℕ) → IsFirstThere mask words from fill place → IsFirstThere mask read from fill place
  there-read from fill (Some place) first =
      (first.0, first.1, ap is_there (same place 2 (inl refl)) ∙ first.2, λ other more below. ap is_there (same other 2 (inl refl)) ∙ first.3 other more below)
  there-read from fill None first = λ other more below. ap is_there (same other 2 (inl refl)) ∙ first other more below

pub seeks-after : (mask : ℕ) (words : List ℕ) (fill last from : ℕ) (place : Option ℕ) → from ≤ fill → IsFirstAfter mask words fill last from → IsFirstThere mask words from fill place → Seeks mask words fill (Some last) place
seeks-after mask words fill last from place low first there read same way texts used table filled =
    let first' = first-read mask words read same fill last from first in
    follows mask read fill way texts used table filled (Some last) from place (before mask read fill way texts used table filled last from low first') (later mask read fill way texts used table filled last from low first') (there-read mask words read same from fill place there)

pub seeks-first : (mask : ℕ) (words : List ℕ) (fill : ℕ) (place : Option ℕ) → IsFirstThere mask words 0 fill place → Seeks mask words fill None place
seeks-first mask words fill place there read same way texts used table filled =
    follows mask read fill way texts used table filled None 0 place (λ q any below. absurd (omega (arith, below))) (λ q any more small. refl) (there-read mask words read same 0 fill place there)
