-- One slot of a search, and the slots before it.
use Rattle.std.proofs.Common.{◌≡◌, ◌≢◌, ℕ, ◌+◌, List, [], ◌∷◌, ◌++◌, drop, slice_get, Some, None, refl, sym, ap, ◌∙◌, subst, arith, All, append_assoc, append-nil}
use Rattle.std.proofs.lemmas.List.Elements.{All-append, All-push}
use Rattle.ft_model.specs.declared.data.Key.{Key}
use Rattle.ft_layout.specs.Words.{key_kind, gone_kind}
use Rattle.ft_layout.specs.Tables.{index_word, entry_word}
use Rattle.ft_layout.proofs.WordLaws.{gone_is}
use Rattle.ft_keys.specs.declared.search.Found.{Found}
use Rattle.ft_keys.specs.declared.search.Found.TheVariants.{At, Was, Free, Spent}
use Rattle.ft_keys.specs.Searches.{HadKey, Passes, EndsAt}
use Rattle.ft_keys.specs.TableChanges.{FirstFree}

-- the list begins with what stands first in it
pub front-of : (left : List ℕ) (slot : ℕ) → Some slot ≡ slice_get left 0 → left ≡ slot ∷ drop 1 left
front-of [] slot first = absurd cc
front-of (x ∷ left) slot first = let same : slot ≡ x = cc in ap (λ s. s ∷ left) (sym same)

module _ (mask : ℕ) (words : List ℕ) (key : Key) where
  -- the slots so far were passed, and these are left
  abbrev pub Passed : List ℕ → List ℕ → Type 0
  Passed first left = (passed : List ℕ) × (first ≡ passed ++ left) × All (Passes mask words key) passed

  -- what ended after slots that were passed ended after all of them
  pub ended-after : (first middle left passed : List ℕ) (found : Found) → first ≡ passed ++ middle → All (Passes mask words key) passed → EndsAt mask words key middle left found → EndsAt mask words key first left found
  ended-after first middle left passed (At slot place) front passes ends =
      (passed ++ ends.0, front ∙ ap (λ m. passed ++ m) ends.1 ∙ sym (append_assoc passed ends.0 (slot ∷ left)), All-append (Passes mask words key) passed ends.0 passes ends.2, ends.3, ends.4)
  ended-after first middle left passed (Was slot place) front passes ends =
      (passed ++ ends.0, front ∙ ap (λ m. passed ++ m) ends.1 ∙ sym (append_assoc passed ends.0 (slot ∷ left)), All-append (Passes mask words key) passed ends.0 passes ends.2, ends.3, ends.4)
  ended-after first middle left passed (Free slot) front passes ends =
      (passed ++ ends.0, ends.1, front ∙ ap (λ m. passed ++ m) ends.2 ∙ sym (append_assoc passed ends.0 left), ends.3, All-append (Passes mask words key) passed ends.0 passes ends.4, ends.5)
  ended-after first middle left passed Spent front passes ends =
      (ends.0, subst (All (Passes mask words key)) (sym front) (All-append (Passes mask words key) passed middle passes ends.1))

  -- the slot of a deleted entry is passed
  was-passed : (slot place : ℕ) → index_word words slot ≡ place + 1 → HadKey mask words place key → Passes mask words key slot
  was-passed slot place here had = record {
    was_used = λ none. omega arith;
    other = λ names.
        let same : place ≡ names.0 = let at = names.2 in omega arith in
        let kind : gone_kind key ≡ key_kind key = sym had.0 ∙ ap (λ p. entry_word mask words p 2) same ∙ names.3.0 in
        let more = gone_is key in
        omega arith;
  }

  -- where a search ended at a deleted entry, that slot is passed too
  pub passed-was : (first middle left : List ℕ) (slot place : ℕ) → Passed first middle → EndsAt mask words key middle left (Was slot place) → Passed first left
  passed-was first middle left slot place p e = (
    p.0 ++ (e.0 ++ slot ∷ []),
    p.1 ∙ (ap (λ m. p.0 ++ m) (e.1 ∙ sym (append_assoc e.0 (slot ∷ []) left)) ∙ sym (append_assoc p.0 (e.0 ++ slot ∷ []) left)),
    All-append (Passes mask words key) p.0 (e.0 ++ slot ∷ []) p.2 (All-push (Passes mask words key) e.0 slot e.2 (was-passed slot place e.3 e.4)),
  )

-- an empty list has nothing first in it
pub none-left : (left : List ℕ) → None ≡ slice_get left 0 → left ≡ []
none-left [] first = refl
none-left (x ∷ left) first = absurd cc

-- ---- the first slot that was never used

-- the slots so far were used, and these are left
abbrev pub AreUsed : List ℕ → List ℕ → List ℕ → Type 0
AreUsed words first left = (passed : List ℕ) × (first ≡ passed ++ left) × All (λ slot. index_word words slot ≢ 0) passed

pub used-free : (words first left : List ℕ) (slot : ℕ) → left ≡ slot ∷ drop 1 left → AreUsed words first left → index_word words slot ≡ 0 → FirstFree words first (Some slot)
used-free words first left slot front used none = (used.0, drop 1 left, used.1 ∙ ap (λ l. used.0 ++ l) front, used.2, none)

pub used-all : (words first left : List ℕ) → left ≡ [] → AreUsed words first left → FirstFree words first None
used-all words first left end used = subst (All (λ slot. index_word words slot ≢ 0)) (sym (used.1 ∙ ap (λ l. used.0 ++ l) end ∙ append-nil used.0)) used.2

pub used-more : (words first middle left : List ℕ) (slot value : ℕ) → middle ≡ slot ∷ left → value ≢ 0 → AreUsed words first middle → value ≡ index_word words slot → AreUsed words first left
used-more words first middle left slot value front some used is =
    (used.0 ++ slot ∷ [], used.1 ∙ ap (λ m. used.0 ++ m) front ∙ sym (append_assoc used.0 (slot ∷ []) left), All-push (λ s. index_word words s ≢ 0) used.0 slot used.2 (λ none. some (is ∙ none)))
