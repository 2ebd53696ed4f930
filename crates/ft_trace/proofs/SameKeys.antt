-- Keys that words can represent are one key exactly where their words are the same; and what is found in a list.
use Rattle.std.proofs.Common.{◌≡◌, Bool, true, false, not, cond, List, [], ◌∷◌, Some, None, refl, sym, ap, ◌∙◌, subst}
use Rattle.std.specs.Prelude.{All, find, filter, is_some, ◌||◌}
use Rattle.std.specs.List.{list_any}
use Rattle.std.proofs.lemmas.List.Elements.{All-head, All-tail}
use Rattle.ft_model.specs.declared.data.Key.{Key}
use Rattle.ft_model.specs.Keys.{same_key}
use Rattle.ft_model.proofs.KeyLemmas.{same_key-true, same_key-refl}
use Rattle.ft_layout.specs.Words.{FitsKey, key_kind, key_payload}
use Rattle.ft_layout.proofs.WordLaws as words
use Rattle.ft_trace.specs.Kinds.{is_key}
use Rattle.ft_trace.proofs.Tellings.{key_is, key_words}

bools : (a b : Bool) → (a ≡ true → b ≡ true) → (b ≡ true → a ≡ true) → a ≡ b
bools true b one other = sym (one refl)
bools false true one other = other refl
bools false false one other = refl

pub same_keys : (a b : Key) → FitsKey a → FitsKey b → is_key a b ≡ same_key a b
same_keys a b f g =
    bools (is_key a b) (same_key a b)
    (λ e. let w = key_words a b e in let same : a ≡ b = words.same_key a b f g w.0 w.1 in ap (same_key a) (sym same) ∙ same_key-refl a)
    (λ e. let same = same_key-true a b e in key_is a b (ap key_kind same) (ap key_payload same))

module _ {X : Type 0} (test other : X → Bool) (P : X → Type 0) (same : (x : X) → P x → test x ≡ other x) where
  pub same_find : (xs : List X) → All P xs → find test xs ≡ find other xs
  same_find [] each = refl
  same_find (x ∷ xs) each = (λ d. cond (same x (All-head P x xs each) d) (Some x) (same_find xs (All-tail P x xs each) d))

pub found_has : {X : Type 0} (test : X → Bool) (P : X → Type 0) (xs : List X) (x : X) → All P xs → find test xs ≡ Some x → P x
found_has test P [] x each e = absurd (cc)
found_has {X} test P (y ∷ ys) x each e =
    elim (test y) as (λ b. test y ≡ b → P x) [
      | true ↦ λ yes. let same : Some y ≡ Some x = sym (ap (λ (b : Bool). cond b (Some y) (find test ys)) yes) ∙ e in let is : y ≡ x = cc in subst P is (All-head P y ys each)
      | false ↦ λ no. found_has test P ys x (All-tail P y ys each) (sym (ap (λ (b : Bool). cond b (Some y) (find test ys)) no) ∙ e)
    ] refl

pub any_found : {X : Type 0} (test : X → Bool) (xs : List X) → list_any test xs ≡ is_some (find test xs)
any_found test [] = refl
any_found {X} test (x ∷ xs) =
    elim (test x) as (λ b. test x ≡ b → list_any test (x ∷ xs) ≡ is_some (find test (x ∷ xs))) [
      | true ↦ λ e. ap (λ (b : Bool). b || list_any test xs) e ∙ sym (ap (λ (b : Bool). is_some (cond b (Some x) (find test xs))) e)
      | false ↦ λ e. ap (λ (b : Bool). b || list_any test xs) e ∙ (any_found test xs ∙ sym (ap (λ (b : Bool). is_some (cond b (Some x) (find test xs))) e))
    ] refl

-- what was taken out is found no more
pub none_left : {X : Type 0} (test gone : X → Bool) (P : X → Type 0) → ((x : X) → P x → test x ≡ gone x) → (xs : List X) → All P xs → find test (filter (λ x. not (gone x)) xs) ≡ None
none_left test gone P same [] each = refl
none_left {X} test gone P same (x ∷ xs) each =
    elim (gone x) as (λ b. gone x ≡ b → find test (filter (λ x. not (gone x)) (x ∷ xs)) ≡ None) [
      | true ↦ λ e. ap (λ (b : Bool). find test (cond (not b) (x ∷ filter (λ x. not (gone x)) xs) (filter (λ x. not (gone x)) xs))) e ∙ none_left test gone P same xs (All-tail P x xs each)
      | false ↦ λ e.
          ap (λ (b : Bool). find test (cond (not b) (x ∷ filter (λ x. not (gone x)) xs) (filter (λ x. not (gone x)) xs))) e
          ∙ (ap (λ (b : Bool). cond b (Some x) (find test (filter (λ x. not (gone x)) xs))) (same x (All-head P x xs each) ∙ e) ∙ none_left test gone P same xs (All-tail P x xs each))
    ] refl
