-- Used entries, put one after the other into a dict or a set: what each leaves, and what all of them come to.
use Rattle.std.proofs.Common.{◌≡◌, ◌≢◌, ℕ, zero, suc, ◌+◌, ◌-◌, ◌^◌, ◌<◌, Bool, true, false, not, List, [], ◌∷◌, ◌++◌, map, length, filter, find, cond, Option, Some, None, refl, sym, ap, ◌∙◌, subst, arith}
use Rattle.std.specs.Prelude.{◌&&◌, ◌||◌, All, AllPairs, is_some, option_map, if◌then◌else◌}
use Rattle.std.proofs.lemmas.List.{append-nil, append_assoc, length-append, length-map}
use Rattle.ft_model.specs.declared.content.Content.{Content}
use Rattle.ft_model.specs.declared.content.Content.TheVariants as content
use Rattle.ft_model.specs.declared.content.DictPair.{DictPair}
use Rattle.ft_model.specs.declared.content.Element.{Element}
use Rattle.ft_model.specs.declared.data.Key.{Key}
use Rattle.ft_model.specs.declared.data.Value.{Value}
use Rattle.ft_model.specs.declared.script.Kind.{Kind}
use Rattle.ft_model.specs.declared.script.Kind.TheVariants as kind
use Rattle.ft_model.specs.Contents.{DictContent, SetContent, dict_set, elements_from, has_element, has_key, is_at, set_add, set_or, those_not_in, with_value}
use Rattle.ft_model.specs.Keys.{same_key}
use Rattle.ft_model.specs.Worlds.{kind_of, length_of, serial_of}
use Rattle.ft_model.proofs.DictLaws.{set-others}
use Rattle.ft_model.proofs.KeyLemmas.{same_key-refl, same_key-true}
use Rattle.ft_model.proofs.SetLaws.{add_members}
use Rattle.ft_layout.specs.declared.slot.Stored.{Stored}
use Rattle.ft_layout.specs.declared.slot.Stored.TheVariants.{Boxed, Empty, Plain}
use Rattle.ft_layout.specs.Containers.{used_element}
use Rattle.ft_layout.specs.Tables.{UsedEntry, is_live}
use Rattle.ft_trace.proofs.GrownDicts as dict
use Rattle.ft_trace.proofs.SameKeys.{any_found}
use Rattle.ft_trace.proofs.SetGrowing as set
use Rattle.ft_new_keys.specs.KeyGrowth.{holds}
use Rattle.ft_new_keys.specs.Placing.{StoresAs, with_key}
use Rattle.ft_merging.specs.Internal.JoiningSteps.{Apart, AreLeft, NoneOf, StoresIn, joined_used, lacking, with_used}
use Rattle.ft_search.specs.Held.{IsHeldAt}
use Rattle.ft_trace.specs.Kinds.{under}

or_false : (b : Bool) → (b || false) ≡ b
or_false true = refl
or_false false = refl

-- ---- one key

-- a key that is put changes nothing of whether another one is there
other_key : (a b : Key) → a ≢ b → same_key a b ≡ false
other_key a b ne = by (same_key a b) refl
  where
    by : (z : Bool) → same_key a b ≡ z → same_key a b ≡ false
    by true e = absurd (ne (same_key-true a b e))
    by false e = e

some_map : {X Y : Type 0} (f : X → Y) (o : Option X) → is_some (option_map f o) ≡ is_some o
some_map f (Some x) = refl
some_map f None = refl

pub holds_other : (d : Content) (key : Key) (stored : Stored) (other : Key) → StoresAs (kind_of d) stored → key ≢ other → holds (with_key d key stored) other ≡ holds d other
holds_other (content.Dict pairs) key (Plain value) other stores ne =
    any_found (is_at other) (dict_set pairs key value).pairs
    ∙ (sym (some_map (λ (p : DictPair). p.value) (find (is_at other) (dict_set pairs key value).pairs))
    ∙ (ap is_some (set-others pairs (dict_set pairs key value) key value refl other (λ e. ne (sym e)))
    ∙ (some_map (λ (p : DictPair). p.value) (find (is_at other) pairs.pairs)
    ∙ sym (any_found (is_at other) pairs.pairs))))
holds_other (content.Set elements) key Empty other stores ne = add_members elements key other ∙ (ap (λ (b : Bool). has_element elements.elements other || b) (other_key key other ne) ∙ or_false (has_element elements.elements other))
holds_other (content.Dict pairs) key Empty other stores ne = absurd stores
holds_other (content.Dict pairs) key (Boxed block) other stores ne = absurd stores
holds_other (content.Set elements) key (Plain value) other stores ne = absurd stores
holds_other (content.Set elements) key (Boxed block) other stores ne = absurd stores
holds_other (content.List values) key stored other stores ne = absurd stores
holds_other (content.Deque deque) key stored other stores ne = absurd stores

-- it is one more, where it wasn't there
pub counts_more : (d : Content) (key : Key) (stored : Stored) → StoresAs (kind_of d) stored → holds d key ≡ false → (length_of (with_key d key stored) ≡ length_of d + 1) × (serial_of (with_key d key stored) ≡ serial_of d + 1)
counts_more (content.Dict pairs) key (Plain value) stores missing = (dict.added_length pairs key value missing, dict.added_next pairs key value missing)
counts_more (content.Set elements) key Empty stores missing = (set.added_length elements key missing, set.added_next elements key missing)
counts_more (content.Dict pairs) key Empty stores missing = absurd stores
counts_more (content.Dict pairs) key (Boxed block) stores missing = absurd stores
counts_more (content.Set elements) key (Plain value) stores missing = absurd stores
counts_more (content.Set elements) key (Boxed block) stores missing = absurd stores
counts_more (content.List values) key stored stores missing = absurd stores
counts_more (content.Deque deque) key stored stores missing = absurd stores

-- an element that is there stays
set_there : (elements : SetContent) (key : Key) → has_element elements.elements key ≡ true → set_add elements key ≡ elements
set_there elements key there = ap (λ (b : Bool). if b then elements else record { next = elements.next + 1; elements = elements.elements ++ record { serial = elements.next; key = key } ∷ [] }) there

pub dict_there : (pairs : DictContent) (key : Key) (value : Value) → has_key pairs.pairs key ≡ true → dict_set pairs key value ≡ record { next = pairs.next; pairs = with_value pairs.pairs key value }
dict_there pairs key value there = ap (λ (b : Bool). if b then record { next = pairs.next; pairs = with_value pairs.pairs key value } else record { next = pairs.next + 1; pairs = pairs.pairs ++ record { serial = pairs.next; key = key; value = value } ∷ [] }) there

pub counts_same : (d : Content) (key : Key) (stored : Stored) → StoresAs (kind_of d) stored → holds d key ≡ true → (length_of (with_key d key stored) ≡ length_of d) × (serial_of (with_key d key stored) ≡ serial_of d)
counts_same (content.Dict pairs) key (Plain value) stores there =
    let is = dict_there pairs key value there in
    (ap (λ (z : DictContent). length z.pairs) is ∙ length-map pairs.pairs (λ (pair : DictPair). if is_at key pair then record pair { value = value } else pair), ap (λ (z : DictContent). z.next) is)
counts_same (content.Set elements) key Empty stores there = let is = set_there elements key there in (ap (λ (z : SetContent). length z.elements) is, ap (λ (z : SetContent). z.next) is)
counts_same (content.Dict pairs) key Empty stores there = absurd stores
counts_same (content.Dict pairs) key (Boxed block) stores there = absurd stores
counts_same (content.Set elements) key (Plain value) stores there = absurd stores
counts_same (content.Set elements) key (Boxed block) stores there = absurd stores
counts_same (content.List values) key stored stores there = absurd stores
counts_same (content.Deque deque) key stored stores there = absurd stores

-- of a set nothing changes
pub set_same : (d : Content) (key : Key) (stored : Stored) → kind_of d ≡ kind.Set → holds d key ≡ true → with_key d key stored ≡ d
set_same (content.Set elements) key stored sets there = ap content.Set (set_there elements key there)
set_same (content.Dict pairs) key stored sets there = absurd (cc)
set_same (content.List values) key stored sets there = absurd (cc)
set_same (content.Deque deque) key stored sets there = absurd (cc)

-- what is under a key stays there, where a new one is put
pub new_still : (d : Content) (key : Key) (stored : Stored) → StoresAs (kind_of d) stored → IsHeldAt d key None → (a : Key) → under d a ≢ [] → under (with_key d key stored) a ≢ []
new_still (content.Dict pairs) key (Plain value) stores absent a some = dict.under_still pairs key value absent a some
new_still (content.Set elements) key Empty stores absent a some = set.under_still elements key absent a some
new_still (content.Dict pairs) key Empty stores absent a some = absurd stores
new_still (content.Dict pairs) key (Boxed block) stores absent a some = absurd stores
new_still (content.Set elements) key (Plain value) stores absent a some = absurd stores
new_still (content.Set elements) key (Boxed block) stores absent a some = absurd stores
new_still (content.List values) key stored stores absent a some = absurd stores
new_still (content.Deque deque) key stored stores absent a some = absurd stores

-- a list that can't have something has nothing
pub empty_of : (l : List ℕ) → (l ≢ [] → ⊥) → l ≡ []
empty_of [] never = refl
empty_of (x ∷ l) never = absurd (never (λ bare. absurd (cc)))

pub kind_with : (d : Content) (key : Key) (stored : Stored) → StoresAs (kind_of d) stored → kind_of (with_key d key stored) ≡ kind_of d
kind_with (content.Dict pairs) key (Plain value) stores = refl
kind_with (content.Set elements) key Empty stores = refl
kind_with (content.Dict pairs) key Empty stores = absurd stores
kind_with (content.Dict pairs) key (Boxed block) stores = absurd stores
kind_with (content.Set elements) key (Plain value) stores = absurd stores
kind_with (content.Set elements) key (Boxed block) stores = absurd stores
kind_with (content.List values) key stored stores = absurd stores
kind_with (content.Deque deque) key stored stores = absurd stores

-- ---- entries that are left

pub rest_none : (e : UsedEntry) (es : List UsedEntry) → is_live e ≡ true → AllPairs Apart (e ∷ es) → NoneOf e.key es
rest_none e es live apart i d low = λ is. apart 0 (suc i) d (omega arith) (omega (arith, low)) live is

rest_apart : (e : UsedEntry) (es : List UsedEntry) → AllPairs Apart (e ∷ es) → AllPairs Apart es
rest_apart e es apart i j d less low = apart (suc i) (suc j) d (omega (arith, less)) (omega (arith, low))

rest_stores : (k : Kind) (e : UsedEntry) (es : List UsedEntry) → All (StoresIn k) (e ∷ es) → All (StoresIn k) es
rest_stores k e es all i d low = all (suc i) d (omega (arith, low))

abbrev counted : Bool → ℕ
counted b = if b then 1 else 0

lacking_other : (d : Content) (key : Key) (stored : Stored) → StoresAs (kind_of d) stored → (es : List UsedEntry) → NoneOf key es → lacking (with_key d key stored) es ≡ lacking d es
lacking_other d key stored stores [] none = refl
lacking_other d key stored stores (e ∷ es) none =
    let rest = lacking_other d key stored stores es (λ i x low. none (suc i) x (omega (arith, low))) in
    let here = by (is_live e) refl in
    λ i. here i + rest i
  where
    by : (b : Bool) → is_live e ≡ b → counted (is_live e && not (holds (with_key d key stored) e.key)) ≡ counted (is_live e && not (holds d e.key))
    by true live = ap (λ (z : Bool). counted (is_live e && not z)) (holds_other d key stored e.key stores (none 0 e (omega arith) live))
    by false dead = ap (λ (z : Bool). counted (z && not (holds (with_key d key stored) e.key))) dead ∙ sym (ap (λ (z : Bool). counted (z && not (holds d e.key))) dead)

module _ (k : Kind) (d goal : Content) (kind_eq : kind_of d ≡ k) (fill end : ℕ) (key : Key) (serial : ℕ) (es : List UsedEntry) where
  -- one that was deleted
  pub left_dead : AreLeft k d goal fill end (record { key = key; serial = serial; stored = None } ∷ es) → AreLeft k d goal fill end es
  left_dead l =
      let fits = l.fits in
      let few = l.few in
      let serials = l.serials in
      record {
        comes = l.comes;
        fits = omega (arith, fits);
        few = omega (arith, few);
        serials = omega (arith, serials);
        apart = rest_apart (record { key = key; serial = serial; stored = None }) es l.apart;
        stores = rest_stores k (record { key = key; serial = serial; stored = None }) es l.stores;
      }

  module _ (stored : Stored) (l : AreLeft k d goal fill end (record { key = key; serial = serial; stored = Some stored } ∷ es)) where
    abbrev one : UsedEntry
    one = record { key = key; serial = serial; stored = Some stored }

    pub left_stores : StoresAs (kind_of d) stored
    left_stores = subst (λ (z : Kind). StoresAs z stored) (sym kind_eq) (l.stores 0 one (omega arith) stored refl)

    same_lacking : lacking (with_key d key stored) es ≡ lacking d es
    same_lacking = lacking_other d key stored left_stores es (rest_none one es refl l.apart)

    -- its key is there
    pub left_there : holds d key ≡ true → AreLeft k (with_key d key stored) goal fill end es
    left_there there =
        let counts = counts_same d key stored left_stores there in
        let first : lacking d (one ∷ es) ≡ 0 + lacking d es = ap (λ (b : Bool). counted (not b) + lacking d es) there in
        let same = same_lacking in
        let n = counts.0 in
        let s = counts.1 in
        let fits = l.fits in
        let few = l.few in
        let serials = l.serials in
        record {
          comes = l.comes;
          fits = omega (arith, fits, first, same);
          few = omega (arith, few, first, same, n);
          serials = omega (arith, serials, first, same, s);
          apart = rest_apart one es l.apart;
          stores = rest_stores k one es l.stores;
        }

    -- it is new
    pub left_new : holds d key ≡ false → AreLeft k (with_key d key stored) goal (fill + 1) end es × (fill < end) × (length_of d < 65536) × (serial_of d + 1 < 2 ^ 63)
    left_new missing =
        let counts = counts_more d key stored left_stores missing in
        let first : lacking d (one ∷ es) ≡ 1 + lacking d es = ap (λ (b : Bool). counted (not b) + lacking d es) missing in
        let same = same_lacking in
        let n = counts.0 in
        let s = counts.1 in
        let fits = l.fits in
        let few = l.few in
        let serials = l.serials in (
          record {
            comes = l.comes;
            fits = omega (arith, fits, first, same);
            few = omega (arith, few, first, same, n);
            serials = omega (arith, serials, first, same, s);
            apart = rest_apart one es l.apart;
            stores = rest_stores k one es l.stores;
          },
          omega (arith, fits, first),
          omega (arith, few, first),
          omega (arith, serials, first),
        )

-- ---- all of them

-- as many keys more, and as many serials
abbrev Counted : Content → List UsedEntry → Type 0
Counted d used = (length_of (joined_used d used) ≡ length_of d + lacking d used) × (serial_of (joined_used d used) ≡ serial_of d + lacking d used)

counts_dead : (d : Content) (e : UsedEntry) (es : List UsedEntry) → e.stored ≡ None → Counted d es → Counted d (e ∷ es)
counts_dead d e es dead rest =
    let same : joined_used d (e ∷ es) ≡ joined_used d es = ap (λ (z : Option Stored). joined_used (with_used d e.key z) es) dead in
    let first : lacking d (e ∷ es) ≡ 0 + lacking d es = ap (λ (z : Option Stored). counted (is_some z && not (holds d e.key)) + lacking d es) dead in
    let a = ap length_of same in
    let b = ap serial_of same in
    let r0 = rest.0 in
    let r1 = rest.1 in
    (omega (arith, a, first, r0), omega (arith, b, first, r1))

counts_live : (d : Content) (e : UsedEntry) (es : List UsedEntry) (s : Stored) → e.stored ≡ Some s → StoresAs (kind_of d) s → NoneOf e.key es → (b : Bool) → holds d e.key ≡ b → Counted (with_key d e.key s) es → Counted d (e ∷ es)
counts_live d e es s live ok none true has rest =
    let is : is_live e ≡ true = ap is_some live in
    let same : joined_used d (e ∷ es) ≡ joined_used (with_key d e.key s) es = ap (λ (z : Option Stored). joined_used (with_used d e.key z) es) live in
    let others = lacking_other d e.key s ok es none in
    let first : lacking d (e ∷ es) ≡ 0 + lacking d es = (λ i. counted (is i && not (has i)) + lacking d es) in
    let l = ap length_of same in
    let m = ap serial_of same in
    let r0 = rest.0 in
    let r1 = rest.1 in
    let c = counts_same d e.key s ok has in
    let c0 = c.0 in
    let c1 = c.1 in
    (omega (arith, first, l, r0, others, c0), omega (arith, first, m, r1, others, c1))
counts_live d e es s live ok none false has rest =
    let is : is_live e ≡ true = ap is_some live in
    let same : joined_used d (e ∷ es) ≡ joined_used (with_key d e.key s) es = ap (λ (z : Option Stored). joined_used (with_used d e.key z) es) live in
    let others = lacking_other d e.key s ok es none in
    let first : lacking d (e ∷ es) ≡ 1 + lacking d es = (λ i. counted (is i && not (has i)) + lacking d es) in
    let l = ap length_of same in
    let m = ap serial_of same in
    let r0 = rest.0 in
    let r1 = rest.1 in
    let c = counts_more d e.key s ok has in
    let c0 = c.0 in
    let c1 = c.1 in
    (omega (arith, first, l, r0, others, c0), omega (arith, first, m, r1, others, c1))

pub joined_counts : (k : Kind) (used : List UsedEntry) (d : Content) → kind_of d ≡ k → AllPairs Apart used → All (StoresIn k) used → (length_of (joined_used d used) ≡ length_of d + lacking d used) × (serial_of (joined_used d used) ≡ serial_of d + lacking d used)
joined_counts k [] d kind_eq apart stores = (omega arith, omega arith)
joined_counts k (e ∷ es) d kind_eq apart stores = by (λ x eq. joined_counts k es x eq (rest_apart e es apart) (rest_stores k e es stores)) e.stored refl
  where
    by : ((x : Content) → kind_of x ≡ k → Counted x es) → (s : Option Stored) → e.stored ≡ s → Counted d (e ∷ es)
    by rest None dead = counts_dead d e es dead (rest d kind_eq)
    by rest (Some s) live =
        let ok : StoresAs (kind_of d) s = subst (λ (z : Kind). StoresAs z s) (sym kind_eq) (stores 0 e (omega arith) s live) in
        counts_live d e es s live ok (rest_none e es (ap is_some live) apart) (holds d e.key) refl (rest (with_key d e.key s) (kind_with d e.key s ok ∙ kind_eq))

-- ---- sets

-- those that aren't there are the same once another key is
new_others : (set : SetContent) (key : Key) (es : List Element) → All (λ (e : Element). key ≢ e.key) es → those_not_in (set_add set key).elements es ≡ those_not_in set.elements es
new_others set key [] none = refl
new_others set key (e ∷ es) none =
    let rest = new_others set key es (λ i x low. none (suc i) x (omega (arith, low))) in
    let here : has_element (set_add set key).elements e.key ≡ has_element set.elements e.key = add_members set key e.key ∙ (ap (λ (b : Bool). has_element set.elements e.key || b) (other_key key e.key (none 0 e (omega arith))) ∙ or_false (has_element set.elements e.key)) in
    λ i. cond (not (here i)) (e ∷ rest i) (rest i)

-- the elements of the other one may be added one by one
or_step : (base : SetContent) (e : Element) (es : List Element) → All (λ (x : Element). e.key ≢ x.key) es → set_or base (e ∷ es) ≡ set_or (set_add base e.key) es
or_step base e es none = by (has_element base.elements e.key) refl
  where
    by : (b : Bool) → has_element base.elements e.key ≡ b → set_or base (e ∷ es) ≡ set_or (set_add base e.key) es
    by true there =
        let list : those_not_in base.elements (e ∷ es) ≡ those_not_in base.elements es = ap (λ (b : Bool). cond (not b) (e ∷ those_not_in base.elements es) (those_not_in base.elements es)) there in
        let same = sym (set_there base e.key there) in
        (λ i. record { next = base.next + length (list i); elements = base.elements ++ elements_from base.next (list i) }) ∙ ap (λ (z : SetContent). set_or z es) same
    by false missing =
        let list : those_not_in base.elements (e ∷ es) ≡ e ∷ those_not_in base.elements es = ap (λ (b : Bool). cond (not b) (e ∷ those_not_in base.elements es) (those_not_in base.elements es)) missing in
        let added = set.added_is base e.key missing in
        let others = new_others base e.key es none in
        let ys = those_not_in base.elements es in
        let new : Element = record { serial = base.next; key = e.key } in
        let one : set_or base (e ∷ es) ≡ record { next = base.next + suc (length ys); elements = base.elements ++ (new ∷ elements_from (base.next + 1) ys) } = λ i. record { next = base.next + length (list i); elements = base.elements ++ elements_from base.next (list i) } in
        let two : set_or (set_add base e.key) es ≡ record { next = base.next + 1 + length ys; elements = (base.elements ++ new ∷ []) ++ elements_from (base.next + 1) ys } = λ i. record { next = (added i).next + length (others i); elements = (added i).elements ++ elements_from (added i).next (others i) } in
        let n : base.next + suc (length ys) ≡ base.next + 1 + length ys = omega arith in
        let l : base.elements ++ (new ∷ elements_from (base.next + 1) ys) ≡ (base.elements ++ new ∷ []) ++ elements_from (base.next + 1) ys = sym (append_assoc base.elements (new ∷ []) (elements_from (base.next + 1) ys)) in
        one ∙ ((λ i. record { next = n i; elements = l i }) ∙ sym two)

-- no elements
pub or_none : (set : SetContent) → set_or set [] ≡ set
or_none set = let l = append-nil set.elements in let n : set.next + 0 ≡ set.next = omega arith in λ i. record { next = n i; elements = l i }

-- keys of entries that are there are those of the elements
keys_differ : (key : Key) (es : List UsedEntry) (xs : List Element) → NoneOf key es → filter is_live es ≡ map used_element xs → All (λ (y : Element). key ≢ y.key) xs
keys_differ key [] [] none all = λ i d low. absurd (omega (arith, low))
keys_differ key [] (x ∷ xs) none all = absurd (cc)
keys_differ key (e ∷ es) xs none all = go (λ ys eq. keys_differ key es ys (λ i d low. none (suc i) d (omega (arith, low))) eq) (is_live e) refl xs all
  where
    first : (x : Element) (ys : List Element) → key ≢ x.key → All (λ (y : Element). key ≢ y.key) ys → All (λ (y : Element). key ≢ y.key) (x ∷ ys)
    first x ys here rest zero d low = here
    first x ys here rest (suc i) d low = rest i d (omega (arith, low))

    go : ((ys : List Element) → filter is_live es ≡ map used_element ys → All (λ (y : Element). key ≢ y.key) ys) → (b : Bool) → is_live e ≡ b → (ys : List Element) → filter is_live (e ∷ es) ≡ map used_element ys → All (λ (y : Element). key ≢ y.key) ys
    go rest false dead ys eq = rest ys (sym (ap (λ (z : Bool). cond z (e ∷ filter is_live es) (filter is_live es)) dead) ∙ eq)
    go rest true live [] eq = λ i d low. absurd (omega (arith, low))
    go rest true live (x ∷ ys) eq =
        let both : e ∷ filter is_live es ≡ used_element x ∷ map used_element ys = sym (ap (λ (z : Bool). cond z (e ∷ filter is_live es) (filter is_live es)) live) ∙ eq in
        let head : e ≡ used_element x = cc in
        let tail : filter is_live es ≡ map used_element ys = cc in
        first x ys (λ same. none 0 e (omega arith) live (same ∙ sym (ap (λ (z : UsedEntry). z.key) head))) (rest ys tail)

pub from_length : (next : ℕ) (es : List Element) → length (elements_from next es) ≡ length es
from_length next [] = refl
from_length next (e ∷ es) = ap suc (from_length (next + 1) es)

-- as many more as serials were drawn
pub or_length : (base : SetContent) (others : List Element) → length (set_or base others).elements ≡ length base.elements + ((set_or base others).next - base.next)
or_length base others =
    let ys = those_not_in base.elements others in
    let a = length-append base.elements (elements_from base.next ys) in
    let b = from_length base.next ys in
    omega (arith, a, b)

-- the used entries of a set come to its elements
pub joined_elements : (used : List UsedEntry) (base : SetContent) (others : List Element) → AllPairs Apart used → filter is_live used ≡ map used_element others → joined_used (content.Set base) used ≡ content.Set (set_or base others)
joined_elements [] base [] apart live = ap content.Set (sym (or_none base))
joined_elements [] base (x ∷ xs) apart live = absurd (cc)
joined_elements (e ∷ es) base others apart live = by (λ s xs eq. joined_elements es s xs (rest_apart e es apart) eq) e.stored refl others live
  where
    by : ((s : SetContent) (xs : List Element) → filter is_live es ≡ map used_element xs → joined_used (content.Set s) es ≡ content.Set (set_or s xs)) → (s : Option Stored) → e.stored ≡ s → (xs : List Element) → filter is_live (e ∷ es) ≡ map used_element xs → joined_used (content.Set base) (e ∷ es) ≡ content.Set (set_or base xs)
    by rest None dead xs all = ap (λ (z : Option Stored). joined_used (with_used (content.Set base) e.key z) es) dead ∙ rest base xs (sym (ap (λ (z : Option Stored). cond (is_some z) (e ∷ filter is_live es) (filter is_live es)) dead) ∙ all)
    by rest (Some s) is [] all = absurd (let here : e ∷ filter is_live es ≡ [] = sym (ap (λ (z : Option Stored). cond (is_some z) (e ∷ filter is_live es) (filter is_live es)) is) ∙ all in cc)
    by rest (Some s) is (x ∷ xs) all =
        let both : e ∷ filter is_live es ≡ used_element x ∷ map used_element xs = sym (ap (λ (z : Option Stored). cond (is_some z) (e ∷ filter is_live es) (filter is_live es)) is) ∙ all in
        let head : e ≡ used_element x = cc in
        let tail : filter is_live es ≡ map used_element xs = cc in
        let same : e.key ≡ x.key = ap (λ (z : UsedEntry). z.key) head in
        let none : All (λ (y : Element). x.key ≢ y.key) xs = keys_differ x.key es xs (subst (λ (z : Key). NoneOf z es) same (rest_none e es (ap is_some is) apart)) tail in
        ap (λ (z : Option Stored). joined_used (with_used (content.Set base) e.key z) es) is ∙ (ap (λ (z : Key). joined_used (content.Set (set_add base z)) es) same ∙ (rest (set_add base x.key) xs tail ∙ ap content.Set (sym (or_step base x xs none))))

-- ---- a set that is named twice

pub later : (a b : Bool) → b ≡ true → (a || b) ≡ true
later true b e = refl
later false b e = e

none_new : (all es : List Element) → ((key : Key) → has_element es key ≡ true → has_element all key ≡ true) → those_not_in all es ≡ []
none_new all [] each = refl
none_new all (e ∷ es) each =
    let here : has_element all e.key ≡ true = each e.key (ap (λ (b : Bool). b || has_element es e.key) (same_key-refl e.key)) in
    ap (λ (b : Bool). cond (not b) (e ∷ those_not_in all es) (those_not_in all es)) here ∙ none_new all es (λ key there. each key (later (same_key e.key key) (has_element es key) there))

pub or_itself : (set : SetContent) → set_or set set.elements ≡ set
or_itself set =
    let none = none_new set.elements set.elements (λ key there. there) in
    (λ i. record { next = set.next + length (none i); elements = set.elements ++ elements_from set.next (none i) }) ∙ or_none set
