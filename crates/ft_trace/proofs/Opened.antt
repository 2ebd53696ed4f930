-- That the entries whose versions a write makes odd are those under whose keys it changes something.
use Rattle.std.proofs.Common.{◌≡◌, ◌≢◌, ℕ, ◌%◌, ◌<◌, false, true≢false, List, [], ◌∷◌, ◌++◌, Option, Some, None, find, refl, sym, ap, ◌∙◌, subst, arith}
use Rattle.std.specs.Prelude.{All, is_some}
use Rattle.std.specs.Option.{option_map_or}
use Rattle.std.proofs.lemmas.List.Elements.{All-nil, All-cons, All-head, All-tail}
use mathlib.Core.Logic.{dite}
use native.Mathlib.Decide.{ℕ_discrete}
use Rattle.ft_model.specs.declared.content.Content.TheVariants as content
use Rattle.ft_model.specs.declared.content.DictPair.{DictPair}
use Rattle.ft_model.specs.declared.content.Element.{Element}
use Rattle.ft_model.specs.declared.data.Key.{Key}
use Rattle.ft_model.specs.Contents.{DictContent, SetContent, is_at, has_key, has_element}
use Rattle.ft_model.specs.Keys.{same_key}
use Rattle.ft_layout.specs.Words.{FitsKey}
use Rattle.ft_trace.specs.Carefuls.{Pairs, IsOf, OpensChanged}
use Rattle.ft_trace.specs.FitCalls.{FitsValue}
use Rattle.ft_trace.specs.Kinds.{is_key, pair_words, element_words, under}
use Rattle.ft_trace.specs.Pictures.{entry_field}
use Rattle.ft_trace.proofs.SameKeys.{same_keys, same_find, any_found}

-- where one version alone is odd, and something else is under the key of its entry
pub only_opens : (n m : ℕ) (zs : List ℕ) (c d : Pairs) (p : ℕ) (key : Key) → ((q : ℕ) → q < m → q ≢ p → entry_field n zs q 0 % 2 ≡ 0) → IsOf n zs p key → d key ≢ c key → OpensChanged n m zs c d
only_opens n m zs c d p key shut mine other q less odd =
    dite (ℕ_discrete q p)
    (λ (e : q ≡ p). (key, subst (λ (z : ℕ). IsOf n zs z key) (sym e) mine, other))
    (λ ne. let two = shut q less ne in absurd (omega (arith, two, odd)))

-- where none is
pub shut_opens : (n m : ℕ) (zs : List ℕ) (c d : Pairs) → ((q : ℕ) → q < m → entry_field n zs q 0 % 2 ≡ 0) → OpensChanged n m zs c d
shut_opens n m zs c d shut q less odd = let two = shut q less in absurd (omega (arith, two, odd))

-- ---- nothing is under a key that isn't there

none_of : {X : Type 0} (o : Option X) → is_some o ≡ false → o ≡ None
none_of None e = refl
none_of (Some x) e = absurd (true≢false e)

pub dict_lacks : (pairs : DictContent) (key : Key) → FitsKey key → All (λ pair. FitsKey pair.key × FitsValue pair.value) pairs.pairs → has_key pairs.pairs key ≡ false → under (content.Dict pairs) key ≡ []
dict_lacks pairs key fits each missing =
    ap (λ (z : Option DictPair). option_map_or pair_words z [])
    (same_find (λ pair. is_key pair.key key) (is_at key) (λ pair. FitsKey pair.key × FitsValue pair.value) (λ pair f. same_keys pair.key key f.0 fits) pairs.pairs each
    ∙ none_of (find (is_at key) pairs.pairs) (sym (any_found (is_at key) pairs.pairs) ∙ missing))

pub set_lacks : (elements : SetContent) (key : Key) → FitsKey key → All (λ element. FitsKey element.key) elements.elements → has_element elements.elements key ≡ false → under (content.Set elements) key ≡ []
set_lacks elements key fits each missing =
    ap (λ (z : Option Element). option_map_or element_words z [])
    (same_find (λ element. is_key element.key key) (λ element. same_key element.key key) (λ element. FitsKey element.key) (λ element f. same_keys element.key key f fits) elements.elements each
    ∙ none_of (find (λ (element : Element). same_key element.key key) elements.elements) (sym (any_found (λ (element : Element). same_key element.key key) elements.elements) ∙ missing))

-- what holds of all of a list with one more holds of the list
pub All-front : {X : Type 0} (P : X → Type 0) (front : List X) (one : X) → All P (front ++ one ∷ []) → All P front
All-front P [] one each = All-nil P
All-front P (x ∷ front) one each = All-cons P x front (All-head P x (front ++ one ∷ []) each) (All-front P front one (All-tail P x (front ++ one ∷ []) each))
