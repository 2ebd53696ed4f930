-- What becomes of a dict's pairs and a set's elements as used entries are added, change and are deleted.
use Rattle.std.proofs.Common.{◌≡◌, ◌≢◌, ℕ, zero, suc, ◌+◌, ◌-◌, ◌<◌, take, drop, true, false, not, List, [], ◌∷◌, ◌++◌, length, get_or, set, map, filter, Option, Some, refl, sym, ap, ◌∙◌, subst, arith}
use Rattle.std.specs.Prelude.{All, IsTrue, remove, slice_get}
use Rattle.std.specs.Option.{option_map}
use Rattle.std.proofs.lemmas.Option.{get_or_from_slice_get, slice_get-get_or}
use Rattle.std.proofs.lemmas.List.{append-nil, drop_all, length-map, length-set, length_push, get_or-map}
use Rattle.std.proofs.lemmas.List.Elements.{All-set, All-push}
use Rattle.ft_model.specs.declared.data.Key.{Key}
use Rattle.ft_model.specs.declared.data.Value.{Value}
use Rattle.ft_model.specs.declared.content.DictPair.{DictPair}
use Rattle.ft_model.specs.declared.content.Element.{Element}
use Rattle.ft_model.specs.declared.data.Value.TheVariants.{Nothing}
use Rattle.ft_model.specs.Keys.{same_key}
use Rattle.ft_model.specs.Answers.{without_last, without_first}
use Rattle.ft_model.specs.Contents.{DictContent, SetContent, IsDict, IsSet, has_key, dict_get, dict_set, dict_del, has_element, set_add, set_discard}
use Rattle.ft_model.proofs.Dicts.{set_found}
use Rattle.ft_layout.specs.Tables.{UsedEntry, is_live, deleted}
use Rattle.ft_layout.specs.Containers.{used_pair, used_element, AreDictEntries, AreSetEntries}
use Rattle.ft_layout.proofs.LiveLaws.{IsKth, rank-first, rank-last, live-stands, live-added}
use Rattle.ft_layout.proofs.ContentLaws.{pair_back, element_back}
use Rattle.ft_layout.proofs.KeyedLists.{none_at, there_at, found_at, find_it, without, length-remove}

-- an entry that a list has at a place
pub there : {X : Type 0} (xs : List X) (i : ℕ) (x : X) → slice_get xs i ≡ Some x → (i < length xs) × ((d : X) → get_or xs i d ≡ x)
there {X} xs i x e = (low xs i e, λ d. get_or_from_slice_get xs i x d e)
  where
    low : (xs : List X) (i : ℕ) → slice_get xs i ≡ Some x → i < length xs
    low [] i e = absurd cc
    low (y ∷ ys) zero e = omega arith
    low (y ∷ ys) (suc i) e = let h = low ys i e in omega arith

-- no key of a live entry is none of what live entries stand for
absent : {Y : Type 0} (of : Y → UsedEntry) (used : List UsedEntry) (ys : List Y) (key : Key) → filter is_live used ≡ map of ys → All (λ entry. entry.key ≢ key) (filter is_live used) → All (λ y. (of y).key ≢ key) ys
absent of used ys key live none k d low same =
    let long : length (filter is_live used) ≡ length ys = ap length live ∙ length-map ys of in
    let e : get_or (map of ys) k (of d) ≡ of (get_or ys k d) = get_or-map of ys k d (of d) low in
    none k (of d) (omega (arith, long)) (ap (λ (us : List UsedEntry). (get_or us k (of d)).key) live ∙ (ap (λ (u : UsedEntry). u.key) e ∙ same))

-- ---- dicts

abbrev with_pairs : ℕ → List DictPair → DictContent
with_pairs next pairs = record { next = next; pairs = pairs }

abbrev added_pair : DictContent → Key → Value → DictPair
added_pair dict key value = record { serial = dict.next; key = key; value = value }

abbrev with_value : DictPair → Value → DictPair
with_value pair value = record { serial = pair.serial; key = pair.key; value = value }

module _ (used : List UsedEntry) (dict : DictContent) (are : AreDictEntries used dict) where
  module _ (key : Key) (none : All (λ entry. entry.key ≢ key) (filter is_live used)) where
    pub missing_key : has_key dict.pairs key ≡ false
    missing_key = none_at (λ (p : DictPair). p.key) dict.pairs key (absent used_pair used dict.pairs key are.live none)

    pub added_key : (value : Value) → AreDictEntries (used ++ used_pair (added_pair dict key value) ∷ []) (dict_set dict key value) × (length (dict_set dict key value).pairs ≡ length dict.pairs + 1) × ((dict_set dict key value).next ≡ dict.next + 1)
    added_key value =
        let pair = added_pair dict key value in
        let is : with_pairs (dict.next + 1) (dict.pairs ++ pair ∷ []) ≡ dict_set dict key value = rw missing_key refl in
        subst (λ (d : DictContent). AreDictEntries (used ++ used_pair pair ∷ []) d × (length d.pairs ≡ length dict.pairs + 1) × (d.next ≡ dict.next + 1)) is (
          record {
            live = live-added used_pair (λ p. refl) used dict.pairs are.live pair;
            below = All-push (λ (u : UsedEntry). u.serial < dict.next + 1) used (used_pair pair) (λ k d low. let b = are.below k d low in omega arith) (omega arith);
          },
          length_push dict.pairs pair,
          refl,
        )

  module _ (is_dict : IsDict dict.next dict.pairs) (place : ℕ) where
    pair_at : (entry : UsedEntry) (at : slice_get used place ≡ Some entry) (live : IsTrue (is_live entry)) → (k : ℕ) × IsKth used_pair used place dict.pairs k
    pair_at entry at live = live-stands used_pair (λ p. refl) used dict.pairs are.live place (there used place entry at).0 (λ any. subst (λ (u : UsedEntry). IsTrue (is_live u)) (sym ((there used place entry at).1 any)) live)

    module _ (pair : DictPair) (at : slice_get used place ≡ Some (used_pair pair)) where
      stands : (k : ℕ) × IsKth used_pair used place dict.pairs k
      stands = pair_at (used_pair pair) at refl

      abbrev k : ℕ
      k = stands.0

      here : (d : DictPair) → get_or dict.pairs k d ≡ pair
      here d = pair_back (get_or dict.pairs k d) pair (stands.1.is d (used_pair d) ∙ (there used place (used_pair pair) at).1 (used_pair d))

      here_key : (d : DictPair) → (get_or dict.pairs k d).key ≡ pair.key
      here_key d = ap (λ (p : DictPair). p.key) (here d)

      pub value_at : dict_get dict.pairs pair.key ≡ Some pair.value
      value_at = ap (λ (o : Option DictPair). option_map (λ p. p.value) o) (find_it (λ (p : DictPair). p.key) dict.pairs pair.key is_dict.distinct k stands.1.low here_key pair ∙ ap Some (here pair))

      pub changed_value : (value : Value) → AreDictEntries (set used place (used_pair (with_value pair value))) (dict_set dict pair.key value) × (length (dict_set dict pair.key value).pairs ≡ length dict.pairs) × ((dict_set dict pair.key value).next ≡ dict.next)
      changed_value value =
          let new = with_value pair value in
          let is : with_pairs dict.next (set dict.pairs k new) ≡ dict_set dict pair.key value = set_found dict pair.key value k pair is_dict (found_at (λ (p : DictPair). p.key) dict.pairs pair.key is_dict.distinct k stands.1.low here_key pair) (sym (here pair)) in
          let low : pair.serial < dict.next = subst (λ (u : UsedEntry). u.serial < dict.next) ((there used place (used_pair pair) at).1 (used_pair pair)) (are.below place (used_pair pair) (there used place (used_pair pair) at).0) in
          subst (λ (d : DictContent). AreDictEntries (set used place (used_pair new)) d × (length d.pairs ≡ length dict.pairs) × (d.next ≡ dict.next)) is (
            record { live = stands.1.changed new; below = All-set (λ (u : UsedEntry). u.serial < dict.next) used place (used_pair new) low are.below },
            length-set dict.pairs k new,
            refl,
          )

      pub deleted_key : AreDictEntries (set used place (deleted (used_pair pair))) (dict_del dict pair.key) × (length (dict_del dict pair.key).pairs + 1 ≡ length dict.pairs)
      deleted_key =
          let is : filter (λ (p : DictPair). not (same_key p.key pair.key)) dict.pairs ≡ remove dict.pairs k = without (λ (p : DictPair). p.key) dict.pairs pair.key is_dict.distinct k stands.1.low here_key in
          let low : pair.serial < dict.next = subst (λ (u : UsedEntry). u.serial < dict.next) ((there used place (used_pair pair) at).1 (used_pair pair)) (are.below place (used_pair pair) (there used place (used_pair pair) at).0) in (
            record {
              live = stands.1.deleted (deleted (used_pair pair)) refl ∙ ap (map used_pair) (sym is);
              below = All-set (λ (u : UsedEntry). u.serial < dict.next) used place (deleted (used_pair pair)) low are.below;
            },
            ap (λ (ps : List DictPair). length ps + 1) is ∙ length-remove dict.pairs k stands.1.low,
          )

      -- the last live entry is the last pair's
      pub last_pair : ((j : ℕ) (any : UsedEntry) → place < j → j < length used → is_live (get_or used j any) ≡ false) → (slice_get dict.pairs (length dict.pairs - 1) ≡ Some pair) × (dict_del dict pair.key ≡ without_last dict)
      last_pair none =
          let entry : is_live (get_or used place (used_pair pair)) ≡ true = ap is_live ((there used place (used_pair pair) at).1 (used_pair pair)) in
          let long : length (filter is_live used) ≡ k + 1 = rank-last is_live used place (used_pair pair) (there used place (used_pair pair) at).0 entry none ∙ ap (λ (i : ℕ). i + 1) (sym stands.1.before) in
          let count : length (filter is_live used) ≡ length dict.pairs = ap length are.live ∙ length-map dict.pairs used_pair in
          let end : k ≡ length dict.pairs - 1 = omega (arith, long, count) in
          let is : filter (λ (p : DictPair). not (same_key p.key pair.key)) dict.pairs ≡ remove dict.pairs k = without (λ (p : DictPair). p.key) dict.pairs pair.key is_dict.distinct k stands.1.low here_key in
          let past : drop (suc k) dict.pairs ≡ [] = drop_all (suc k) dict.pairs (omega (arith, long, count)) in
          let cut : remove dict.pairs k ≡ take (length dict.pairs - 1) dict.pairs = ap (λ (ps : List DictPair). take k dict.pairs ++ ps) past ∙ (append-nil (take k dict.pairs) ∙ ap (λ (n : ℕ). take n dict.pairs) end) in (
            ap (λ (n : ℕ). slice_get dict.pairs n) (sym end) ∙ (slice_get-get_or dict.pairs k pair stands.1.low ∙ ap Some (here pair)),
            ap (with_pairs dict.next) (is ∙ cut),
          )

    pub live_pair : (entry : UsedEntry) → slice_get used place ≡ Some entry → IsTrue (is_live entry) → (pair : DictPair) × (entry ≡ used_pair pair)
    live_pair entry at live =
        let s = pair_at entry at live in
        let d : DictPair = record { serial = 0; key = entry.key; value = Nothing } in
        (get_or dict.pairs s.0 d, sym ((there used place entry at).1 entry) ∙ sym (s.1.is d entry))

-- ---- sets

abbrev with_elements : ℕ → List Element → SetContent
with_elements next elements = record { next = next; elements = elements }

abbrev added_element : SetContent → Key → Element
added_element content key = record { serial = content.next; key = key }

module _ (used : List UsedEntry) (content : SetContent) (are : AreSetEntries used content) where
  module _ (key : Key) (none : All (λ entry. entry.key ≢ key) (filter is_live used)) where
    pub missing_element : has_element content.elements key ≡ false
    missing_element = none_at (λ (e : Element). e.key) content.elements key (absent used_element used content.elements key are.live none)

    pub added_element_is : AreSetEntries (used ++ used_element (added_element content key) ∷ []) (set_add content key) × (length (set_add content key).elements ≡ length content.elements + 1) × ((set_add content key).next ≡ content.next + 1)
    added_element_is =
        let element = added_element content key in
        let is : with_elements (content.next + 1) (content.elements ++ element ∷ []) ≡ set_add content key = rw missing_element refl in
        subst (λ (c : SetContent). AreSetEntries (used ++ used_element element ∷ []) c × (length c.elements ≡ length content.elements + 1) × (c.next ≡ content.next + 1)) is (
          record {
            live = live-added used_element (λ p. refl) used content.elements are.live element;
            below = All-push (λ (u : UsedEntry). u.serial < content.next + 1) used (used_element element) (λ k d low. let b = are.below k d low in omega arith) (omega arith);
          },
          length_push content.elements element,
          refl,
        )

  module _ (is_set : IsSet content.next content.elements) (place : ℕ) where
    element_at : (entry : UsedEntry) (at : slice_get used place ≡ Some entry) (live : IsTrue (is_live entry)) → (k : ℕ) × IsKth used_element used place content.elements k
    element_at entry at live = live-stands used_element (λ p. refl) used content.elements are.live place (there used place entry at).0 (λ any. subst (λ (u : UsedEntry). IsTrue (is_live u)) (sym ((there used place entry at).1 any)) live)

    module _ (element : Element) (at : slice_get used place ≡ Some (used_element element)) where
      stands_element : (k : ℕ) × IsKth used_element used place content.elements k
      stands_element = element_at (used_element element) at refl

      abbrev n : ℕ
      n = stands_element.0

      here_element : (d : Element) → get_or content.elements n d ≡ element
      here_element d = element_back (get_or content.elements n d) element (stands_element.1.is d (used_element d) ∙ (there used place (used_element element) at).1 (used_element d))

      here_element_key : (d : Element) → (get_or content.elements n d).key ≡ element.key
      here_element_key d = ap (λ (e : Element). e.key) (here_element d)

      pub present_element : has_element content.elements element.key ≡ true
      present_element = there_at (λ (e : Element). e.key) content.elements element.key is_set.distinct n stands_element.1.low here_element_key element

      pub kept_element : set_add content element.key ≡ content
      kept_element = rw present_element refl

      pub deleted_element : AreSetEntries (set used place (deleted (used_element element))) (set_discard content element.key) × (length (set_discard content element.key).elements + 1 ≡ length content.elements)
      deleted_element =
          let is : filter (λ (e : Element). not (same_key e.key element.key)) content.elements ≡ remove content.elements n = without (λ (e : Element). e.key) content.elements element.key is_set.distinct n stands_element.1.low here_element_key in
          let low : element.serial < content.next = subst (λ (u : UsedEntry). u.serial < content.next) ((there used place (used_element element) at).1 (used_element element)) (are.below place (used_element element) (there used place (used_element element) at).0) in (
            record {
              live = stands_element.1.deleted (deleted (used_element element)) refl ∙ ap (map used_element) (sym is);
              below = All-set (λ (u : UsedEntry). u.serial < content.next) used place (deleted (used_element element)) low are.below;
            },
            ap (λ (es : List Element). length es + 1) is ∙ length-remove content.elements n stands_element.1.low,
          )

      -- the first live entry is the first element's
      pub first_out : ((j : ℕ) (any : UsedEntry) → j < place → is_live (get_or used j any) ≡ false) → (slice_get content.elements 0 ≡ Some element) × (set_discard content element.key ≡ without_first content)
      first_out none =
          let zero_th : n ≡ 0 = stands_element.1.before ∙ rank-first is_live used place (there used place (used_element element) at).0 none in
          let is : filter (λ (e : Element). not (same_key e.key element.key)) content.elements ≡ remove content.elements n = without (λ (e : Element). e.key) content.elements element.key is_set.distinct n stands_element.1.low here_element_key in (
            ap (λ (i : ℕ). slice_get content.elements i) (sym zero_th) ∙ (slice_get-get_or content.elements n element stands_element.1.low ∙ ap Some (here_element element)),
            ap (with_elements content.next) (is ∙ ap (remove content.elements) zero_th),
          )

    pub live_element : (entry : UsedEntry) → slice_get used place ≡ Some entry → IsTrue (is_live entry) → (element : Element) × (entry ≡ used_element element)
    live_element entry at live =
        let s = element_at entry at live in
        let d : Element = record { serial = 0; key = entry.key } in
        (get_or content.elements s.0 d, sym ((there used place entry at).1 entry) ∙ sym (s.1.is d entry))
