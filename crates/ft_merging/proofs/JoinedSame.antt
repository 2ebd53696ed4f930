-- What a dict or a set has once another one is joined to it that has nothing new, and how many keys it may have.
use Rattle.std.proofs.Common.{◌≡◌, ℕ, ◌+◌, ◌-◌, ◌≤◌, true, false, List, [], ◌∷◌, map, ◌++◌, length, filter, Option, Some, None, refl, sym, ap, ◌∙◌, subst, arith, le-ltb}
use Rattle.ft_model.specs.declared.content.Content.{Content}
use Rattle.ft_model.specs.declared.content.Content.TheVariants as content
use Rattle.ft_model.specs.declared.content.DictPair.{DictPair}
use Rattle.ft_model.specs.declared.script.Kind.{Kind}
use Rattle.ft_model.specs.declared.script.Kind.TheVariants as kind
use Rattle.ft_model.specs.Classes.{most_elements, most_pairs}
use Rattle.ft_model.specs.Contents.{DictContent, SetContent, dict_update, elements_from, set_or, those_not_in}
use Rattle.ft_model.specs.TableUses.{passes_cap}
use Rattle.ft_model.specs.Worlds.{dict_of, kind_of, length_of, set_of}
use Rattle.ft_layout.specs.Containers.{IsDictWords, IsSetWords, StandsAs, used_element, used_pair}
use Rattle.ft_layout.specs.Tables.{is_live}
use Rattle.ft_layout.proofs.ContentLaws.{stands_for_dict}
use Rattle.ft_keys.specs.declared.walk.Way.{Way}
use Rattle.ft_keys.specs.declared.walk.Way.TheVariants as way
use Rattle.ft_trace.specs.declared.Shape.{Shape}
use Rattle.ft_trace.specs.declared.View.{View}
use Rattle.ft_trace.specs.Acts.{has_lock}
use Rattle.ft_trace.specs.Holds.{held_unboxed, known_state}
use Rattle.ft_trace.specs.Kinds.{IsKeyed}
use Rattle.ft_trace.specs.Traces.{IsReachable}
use Rattle.ft_trace.specs.Pictures.{root_in, Represents}
use Rattle.ft_trace.specs.ContainerStates.{kind_in}
use Rattle.ft_trace.proofs.DictWrites as dict
use Rattle.ft_trace.proofs.SetKnown as set
use Rattle.ft_search.specs.Rounds.{kind_by}
use Rattle.ft_search.proofs.FoundInContents.{IsOfWay, of_way}
use Rattle.ft_merging.specs.Joining.{joined, new_keys}
use Rattle.ft_merging.proofs.Ending.{Laws}
use Rattle.ft_merging.proofs.JoinedContents.{or_itself, or_none}
use Rattle.ft_merging.proofs.JoinedPairs.{update_bare, update_itself, update_next}

pub no_length : {X : Type 0} (xs : List X) → length xs ≡ 0 → xs ≡ []
no_length [] none = refl
no_length (x ∷ xs) none = absurd (omega (arith, none))

no_map : {X Y : Type 0} (f : X → Y) (xs : List X) → map f xs ≡ [] → length xs ≡ 0
no_map f [] e = refl
no_map f (x ∷ xs) e = absurd (cc)

-- ---- contents

-- one that has no keys
pub none_joined : (d others : Content) → kind_of others ≡ kind_of d → length_of others ≡ 0 → joined d others ≡ d
none_joined (content.Dict base) (content.Dict others) same none = ap (λ (es : List DictPair). content.Dict (dict_update base es)) (no_length others.pairs none)
none_joined (content.Set base) (content.Set others) same none = ap content.Set (ap (set_or base) (no_length others.elements none) ∙ or_none base)
none_joined (content.List values) others same none = refl
none_joined (content.Deque deque) others same none = refl
none_joined (content.Dict base) (content.Set others) same none = absurd (cc)
none_joined (content.Dict base) (content.List others) same none = absurd (cc)
none_joined (content.Dict base) (content.Deque others) same none = absurd (cc)
none_joined (content.Set base) (content.Dict others) same none = absurd (cc)
none_joined (content.Set base) (content.List others) same none = absurd (cc)
none_joined (content.Set base) (content.Deque others) same none = absurd (cc)

-- one that has no new keys, to one that has none
pub bare_joined : (d others : Content) → length_of d ≡ 0 → new_keys d others ≡ 0 → joined d others ≡ d
bare_joined (content.Dict base) others bare none =
    let next = update_next_same base others none in
    ap content.Dict (update_bare base (dict_of others).pairs (no_length base.pairs bare) next)
  where
    update_next_same : (b : DictContent) (e : Content) → (dict_update b (dict_of e).pairs).next - b.next ≡ 0 → (dict_update b (dict_of e).pairs).next ≡ b.next
    update_next_same b e z = let up = update_next (dict_of e).pairs b in omega (arith, z, up)
bare_joined (content.Set base) others bare none =
    let ys = those_not_in base.elements (set_of others).elements in
    let empty : ys ≡ [] = no_length ys (omega (arith, none)) in
    ap content.Set ((λ i. record { next = base.next + length (empty i); elements = base.elements ++ elements_from base.next (empty i) }) ∙ or_none base)
bare_joined (content.List values) others bare none = refl
bare_joined (content.Deque deque) others bare none = refl

-- ---- as a pass knows a container whose lock it has

keyed_way : (kind : Kind) → IsKeyed kind → (by : Way) × (kind ≡ kind_by by)
keyed_way kind.Dict keyed = (way.Dict, refl)
keyed_way kind.Set keyed = (way.Set, refl)
keyed_way kind.List keyed = absurd keyed
keyed_way (kind.Deque bound) keyed = absurd keyed

module _ (k : Shape) (o : ℕ) (v : View) (shape : v.shape ≡ k) (possible : ∥ IsReachable v ∥₁) (keyed : IsKeyed (kind_in k.starts o)) (mine : has_lock o v.log ≡ true) (stands : Represents k.texts (held_unboxed o v) (known_state o v)) where
  abbrev words : List ℕ
  words = 0 ∷ 0 ∷ (held_unboxed o v).table

  known_way : (by : Way) × IsOfWay by (known_state o v).content
  known_way = let w = keyed_way (kind_in k.starts o) keyed in (w.0, of_way w.0 v o possible mine (ap (λ (z : Shape). kind_in z.starts o) shape ∙ w.1))

  stands_as : (d : Content) → (known_state o v).content ≡ d → StandsAs k.texts (held_unboxed o v).block words (known_state o v).table d
  stands_as d is = subst (λ (z : Content). StandsAs k.texts (held_unboxed o v).block words (known_state o v).table z) is stands

  -- it has no more keys than the largest table holds
  pub known_cap : Laws → passes_cap (known_state o v).content ≡ false
  known_cap laws = by known_way.0 known_way.1
    where
      pairs : (class : Option ℕ) (d : DictContent) → IsDictWords k.texts (held_unboxed o v).block words class (known_state o v).table.fill d → length d.pairs ≤ most_pairs
      pairs None d says = let none = no_map used_pair d.pairs (sym says.entries.live ∙ ap (filter is_live) says.table) in omega (arith, none)
      pairs (Some class) d says = dict.dict_short laws.pairs k.texts (held_unboxed o v).block class (known_state o v).table.fill says.head.root.1.0 d (held_unboxed o v).table says

      elements : (class : Option ℕ) (d : SetContent) → IsSetWords k.texts (held_unboxed o v).block words class (known_state o v).table.fill d → length d.elements ≤ most_elements
      elements None d says = let none = no_map used_element d.elements (sym says.entries.live ∙ ap (filter is_live) says.table) in omega (arith, none)
      elements (Some class) d says = set.set_short laws.elements k.texts (held_unboxed o v).block class (known_state o v).table.fill says.head.root.1.0 d (held_unboxed o v).table says

      by : (w : Way) → IsOfWay w (known_state o v).content → passes_cap (known_state o v).content ≡ false
      by way.Dict is = ap passes_cap is.1 ∙ le-ltb most_pairs (length is.0.pairs) (pairs (known_state o v).table.class is.0 (stands_as (content.Dict is.0) is.1))
      by way.Set is = ap passes_cap is.1 ∙ le-ltb most_elements (length is.0.elements) (elements (known_state o v).table.class is.0 (stands_as (content.Set is.0) is.1))

  -- it has none, where it has no table
  pub known_bare : root_in (held_unboxed o v) ≡ 0 → length_of (known_state o v).content ≡ 0
  known_bare bare = by known_way.0 known_way.1
    where
      pairs : (class : Option ℕ) (d : DictContent) → IsDictWords k.texts (held_unboxed o v).block words class (known_state o v).table.fill d → length d.pairs ≡ 0
      pairs None d says = no_map used_pair d.pairs (sym says.entries.live ∙ ap (filter is_live) says.table)
      pairs (Some class) d says = absurd (let r = says.head.root.1.2 in omega (arith, r, bare))

      elements : (class : Option ℕ) (d : SetContent) → IsSetWords k.texts (held_unboxed o v).block words class (known_state o v).table.fill d → length d.elements ≡ 0
      elements None d says = no_map used_element d.elements (sym says.entries.live ∙ ap (filter is_live) says.table)
      elements (Some class) d says = absurd (let r = says.head.root.1.2 in omega (arith, r, bare))

      by : (w : Way) → IsOfWay w (known_state o v).content → length_of (known_state o v).content ≡ 0
      by way.Dict is = ap length_of is.1 ∙ pairs (known_state o v).table.class is.0 (stands_as (content.Dict is.0) is.1)
      by way.Set is = ap length_of is.1 ∙ elements (known_state o v).table.class is.0 (stands_as (content.Set is.0) is.1)

  -- one that is named twice
  pub known_itself : joined (known_state o v).content (known_state o v).content ≡ (known_state o v).content
  known_itself = by known_way.0 known_way.1
    where
      twice : (d : Content) → (known_state o v).content ≡ d → joined d d ≡ d → joined (known_state o v).content (known_state o v).content ≡ (known_state o v).content
      twice d is same = subst (λ (z : Content). joined z z ≡ z) (sym is) same

      by : (w : Way) → IsOfWay w (known_state o v).content → joined (known_state o v).content (known_state o v).content ≡ (known_state o v).content
      by way.Dict is = twice (content.Dict is.0) is.1 (ap content.Dict (update_itself is.0 (stands_for_dict k.texts (held_unboxed o v).block words (known_state o v).table.class (known_state o v).table.fill is.0 (stands_as (content.Dict is.0) is.1))))
      by way.Set is = twice (content.Set is.0) is.1 (ap content.Set (or_itself is.0))
