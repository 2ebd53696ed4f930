-- Words stand for one content at most.
use Rattle.std.proofs.Common.{◌≡◌, ◌≢◌, ℕ, ◌<◌, List, [], ◌∷◌, length, get_or, map, filter, Option, Some, None, refl, sym, ap, ◌∙◌, subst, arith}
use Rattle.std.specs.Prelude.{All, AllPairs}
use Rattle.std.proofs.lemmas.List.{same_lists, length-map, get_or-map}
use Rattle.std.proofs.lemmas.List.Kept.{AllPairs-filter}
use Rattle.std.proofs.lemmas.List.Elements.{All-filter}
use Rattle.ft_model.specs.declared.data.Key.{Key}
use Rattle.ft_model.specs.declared.data.Value.{Value}
use Rattle.ft_model.specs.declared.content.DictPair.{DictPair}
use Rattle.ft_model.specs.declared.content.Element.{Element}
use Rattle.ft_model.specs.Contents.{DictContent, SetContent, IsDict, IsSet}
use Rattle.ft_layout.specs.declared.slot.Pair.{Pair}
use Rattle.ft_layout.specs.declared.slot.Stored.{Stored}
use Rattle.ft_layout.specs.declared.slot.Stored.TheVariants.{Plain}
use Rattle.ft_layout.specs.Tables.{UsedEntry, is_live, hash_of, slot_with, slot_of, IsTable, IsListTable, entry_word, item_word}
use Rattle.ft_layout.specs.Containers.{IsRoot, block_word, IsBlank, IsBlock, used_pair, used_element, InDictTable, InSetTable, InListTable, IsDictWords, IsSetWords, IsListWords}
use Rattle.ft_layout.proofs.WordLaws.{entry_is_one, stored_is_one}

-- ---- used entries

abbrev used_with : Key → ℕ → Option Stored → UsedEntry
used_with key serial stored = record { key = key; serial = serial; stored = stored }

-- what the words of a used entry say tells the entry
from_slot : (m n : ℕ) (a b : Key) (p q : ℕ) (x y : Option Stored) → slot_with m a p x ≡ slot_with n b q y → used_with a p x ≡ used_with b q y
from_slot m n a b p q (Some x) (Some y) e =
    let pair : record { hash = m; key = a; value = x; serial = p } ≡ record { hash = n; key = b; value = y; serial = q } = cc in
    ap (λ (r : Pair). used_with r.key r.serial (Some r.value)) pair
from_slot m n a b p q None None e =
    let k : a ≡ b = cc in
    let s : p ≡ q = cc in
    ap (λ (z : Key). used_with z p None) k ∙ ap (λ (z : ℕ). used_with b z None) s
from_slot m n a b p q (Some x) None e = absurd cc
from_slot m n a b p q None (Some y) e = absurd cc

module _ (walk walk' : ℕ → List ℕ) (room room' : ℕ) (texts texts' : List ℕ) (mask : ℕ) (words : List ℕ) where
  -- a table's words and fill tell its used entries
  pub used_is_one : (us vs : List UsedEntry) → IsTable walk room texts mask us words → IsTable walk' room' texts' mask vs words → length us ≡ length vs → us ≡ vs
  used_is_one us vs f g same =
      same_lists us vs same (λ k d low.
      let u = get_or us k d in
      let v = get_or vs k d in
      let slots : slot_of texts u ≡ slot_of texts' v = entry_is_one (entry_word mask words k) (slot_of texts u) (slot_of texts' v) (f.entries k d low) (g.entries k d (omega arith)) in
      from_slot (hash_of texts u.key) (hash_of texts' v.key) u.key v.key u.serial v.serial u.stored v.stored slots)

-- ---- roots

-- a root names tables of one class
pub root_is_one : (root : ℕ) (a b : Option ℕ) → IsRoot root a → IsRoot root b → a ≡ b
root_is_one root None None f g = refl
root_is_one root (Some a) (Some b) f g = let e : a ≡ b = let x = f.1 in let y = g.1 in omega arith in ap Some e
root_is_one root None (Some b) f g = absurd (let y = g.1 in omega arith)
root_is_one root (Some a) None f g = absurd (let x = f.1 in omega arith)

-- ---- pairs and elements

pub pair_back : (a b : DictPair) → used_pair a ≡ used_pair b → a ≡ b
pair_back a b e =
    let k : a.key ≡ b.key = ap (λ (u : UsedEntry). u.key) e in
    let s : a.serial ≡ b.serial = ap (λ (u : UsedEntry). u.serial) e in
    let t : Some (Plain a.value) ≡ Some (Plain b.value) = ap (λ (u : UsedEntry). u.stored) e in
    let v : a.value ≡ b.value = cc in
    let of : ℕ → Key → Value → DictPair = λ n x y. record { serial = n; key = x; value = y } in
    ap (λ (n : ℕ). of n a.key a.value) s ∙ (ap (λ (x : Key). of b.serial x a.value) k ∙ ap (λ (y : Value). of b.serial b.key y) v)

pub element_back : (a b : Element) → used_element a ≡ used_element b → a ≡ b
element_back a b e =
    let k : a.key ≡ b.key = ap (λ (u : UsedEntry). u.key) e in
    let s : a.serial ≡ b.serial = ap (λ (u : UsedEntry). u.serial) e in
    let of : ℕ → Key → Element = λ n x. record { serial = n; key = x } in
    ap (λ (n : ℕ). of n a.key) s ∙ ap (λ (x : Key). of b.serial x) k

-- a list is reported by what a function gives that tells its arguments apart
map_back : {X Y : Type 0} (f : X → Y) → ((a b : X) → f a ≡ f b → a ≡ b) → (xs ys : List X) → map f xs ≡ map f ys → xs ≡ ys
map_back f back [] [] e = refl
map_back {X} {Y} f back (x ∷ xs) (y ∷ ys) e =
    let head : f x ≡ f y = cc in
    let tail : map f xs ≡ map f ys = cc in
    ap (λ (z : X). z ∷ xs) (back x y head) ∙ ap (λ (zs : List X). y ∷ zs) (map_back f back xs ys tail)
map_back f back [] (y ∷ ys) e = absurd cc
map_back f back (x ∷ xs) [] e = absurd cc

-- ---- dicts

abbrev dict_with : ℕ → List DictPair → DictContent
dict_with next pairs = record { next = next; pairs = pairs }

same_used_dict : (texts texts' words : List ℕ) (class : Option ℕ) (us vs : List UsedEntry) → InDictTable texts words class us → InDictTable texts' words class vs → length us ≡ length vs → us ≡ vs
same_used_dict texts texts' words None us vs f g same = f ∙ sym g
same_used_dict texts texts' words (Some class) us vs f g same = used_is_one _ _ _ _ texts texts' _ words us vs f g same

module _ (texts block words : List ℕ) (class class' : Option ℕ) (fill fill' : ℕ) (dict dict' : DictContent) where
  pub one_dict : IsDictWords texts block words class fill dict → IsDictWords texts block words class' fill' dict' → (class ≡ class') × (fill ≡ fill') × (dict ≡ dict')
  one_dict f g =
      let same_class : class ≡ class' = root_is_one (block_word block 2) class class' f.head.root g.head.root in
      let same_fill : fill ≡ fill' = sym f.head.fill_is ∙ g.head.fill_is in
      let table : InDictTable texts words class g.used = subst (λ (c : Option ℕ). InDictTable texts words c g.used) (sym same_class) g.table in
      let used : f.used ≡ g.used = same_used_dict texts texts words class f.used g.used f.table table (f.filled ∙ (same_fill ∙ sym g.filled)) in
      let pairs : dict.pairs ≡ dict'.pairs = map_back used_pair pair_back dict.pairs dict'.pairs (sym f.entries.live ∙ (ap (filter is_live) used ∙ g.entries.live)) in
      let next : dict.next ≡ dict'.next = sym f.head.next_is ∙ g.head.next_is in
      (same_class, same_fill, ap (λ (n : ℕ). dict_with n dict.pairs) next ∙ ap (dict_with dict'.next) pairs)

-- ---- sets

abbrev set_with : ℕ → List Element → SetContent
set_with next elements = record { next = next; elements = elements }

same_used_set : (texts texts' words : List ℕ) (class : Option ℕ) (us vs : List UsedEntry) → InSetTable texts words class us → InSetTable texts' words class vs → length us ≡ length vs → us ≡ vs
same_used_set texts texts' words None us vs f g same = f ∙ sym g
same_used_set texts texts' words (Some class) us vs f g same = used_is_one _ _ _ _ texts texts' _ words us vs f g same

module _ (texts block words : List ℕ) (class class' : Option ℕ) (fill fill' : ℕ) (content content' : SetContent) where
  pub one_set : IsSetWords texts block words class fill content → IsSetWords texts block words class' fill' content' → (class ≡ class') × (fill ≡ fill') × (content ≡ content')
  one_set f g =
      let same_class : class ≡ class' = root_is_one (block_word block 2) class class' f.head.root g.head.root in
      let same_fill : fill ≡ fill' = sym f.head.fill_is ∙ g.head.fill_is in
      let table : InSetTable texts words class g.used = subst (λ (c : Option ℕ). InSetTable texts words c g.used) (sym same_class) g.table in
      let used : f.used ≡ g.used = same_used_set texts texts words class f.used g.used f.table table (f.filled ∙ (same_fill ∙ sym g.filled)) in
      let elements : content.elements ≡ content'.elements = map_back used_element element_back content.elements content'.elements (sym f.entries.live ∙ (ap (filter is_live) used ∙ g.entries.live)) in
      let next : content.next ≡ content'.next = sym f.head.next_is ∙ g.head.next_is in
      (same_class, same_fill, ap (λ (n : ℕ). set_with n content.elements) next ∙ ap (set_with content'.next) elements)

-- ---- lists

same_values : (mask : ℕ) (words : List ℕ) (us vs : List Value) → IsListTable mask us words → IsListTable mask vs words → length us ≡ length vs → us ≡ vs
same_values mask words us vs f g same =
    same_lists us vs same (λ k d low.
    let u = get_or us k d in
    let v = get_or vs k d in
    let e : Plain u ≡ Plain v = stored_is_one (item_word words k 1) (item_word words k 2) (Plain u) (Plain v) (f.items k d low) (g.items k d (omega arith)) in
    cc)

same_items : (words : List ℕ) (class : Option ℕ) (us vs : List Value) → InListTable words class us → InListTable words class vs → length us ≡ length vs → us ≡ vs
same_items words None us vs f g same = f ∙ sym g
same_items words (Some class) us vs f g same = same_values _ words us vs f g same

module _ (block words : List ℕ) (class class' : Option ℕ) (values values' : List Value) where
  pub one_list : IsListWords block words class values → IsListWords block words class' values' → (class ≡ class') × (values ≡ values')
  one_list f g =
      let same_class : class ≡ class' = root_is_one (block_word block 2) class class' f.head.root g.head.root in
      let table : InListTable words class values' = subst (λ (c : Option ℕ). InListTable words c values') (sym same_class) g.table in
      (same_class, same_items words class values values' f.table table (sym f.head.count_is ∙ g.head.count_is))

-- ---- what words stand for is a content

-- what holds of each two of a list holds of each two that a function makes into them
pairs_back : {X Y : Type 0} (R : X → X → Type 0) (S : Y → Y → Type 0) (f : Y → X) → ((a b : Y) → R (f a) (f b) → S a b) → (xs : List X) (ys : List Y) → xs ≡ map f ys → AllPairs R xs → AllPairs S ys
pairs_back R S f back xs ys e all i j d less low =
    let long : length xs ≡ length ys = ap length e ∙ length-map ys f in
    let at : (k : ℕ) → k < length ys → get_or xs k (f d) ≡ f (get_or ys k d) = λ k small. ap (λ (zs : List _). get_or zs k (f d)) e ∙ get_or-map f ys k d (f d) small in
    back (get_or ys i d) (get_or ys j d) (rw (sym (at i (omega arith)), sym (at j low)) (all i j (f d) less (omega arith)))

all_back : {X Y : Type 0} (P : X → Type 0) (Q : Y → Type 0) (f : Y → X) → ((a : Y) → P (f a) → Q a) → (xs : List X) (ys : List Y) → xs ≡ map f ys → All P xs → All Q ys
all_back P Q f back xs ys e all k d low =
    let at : get_or xs k (f d) ≡ f (get_or ys k d) = ap (λ (zs : List _). get_or zs k (f d)) e ∙ get_or-map f ys k d (f d) low in
    back (get_or ys k d) (rw (sym at) (all k (f d) (let long : length xs ≡ length ys = ap length e ∙ length-map ys f in omega arith)))

-- keys differ and serials rise among the entries of a table, or of none
abbrev InOrder : List UsedEntry → Type 0
InOrder us = AllPairs (λ a b. a.key ≢ b.key) (filter is_live us) × AllPairs (λ a b. a.serial < b.serial) us

none_in_order : (us : List UsedEntry) → us ≡ [] → InOrder us
none_in_order us none = subst InOrder (sym none) (λ i j d less low. absurd (omega arith), λ i j d less low. absurd (omega arith))

dict_in_order : (texts words : List ℕ) (class : Option ℕ) (us : List UsedEntry) → InDictTable texts words class us → InOrder us
dict_in_order texts words None us f = none_in_order us f
dict_in_order texts words (Some class) us f = (f.distinct, f.rising)

set_in_order : (texts words : List ℕ) (class : Option ℕ) (us : List UsedEntry) → InSetTable texts words class us → InOrder us
set_in_order texts words None us f = none_in_order us f
set_in_order texts words (Some class) us f = (f.distinct, f.rising)

pub stands_for_dict : (texts block words : List ℕ) (class : Option ℕ) (fill : ℕ) (dict : DictContent) → IsDictWords texts block words class fill dict → IsDict dict.next dict.pairs
stands_for_dict texts block words class fill dict f =
    let table = dict_in_order texts words class f.used f.table in
    record {
      distinct = pairs_back (λ a b. a.key ≢ b.key) (λ a b. a.key ≢ b.key) used_pair (λ a b ne. ne) (filter is_live f.used) dict.pairs f.entries.live table.0;
      rising = pairs_back (λ a b. a.serial < b.serial) (λ a b. a.serial < b.serial) used_pair (λ a b lt. lt) (filter is_live f.used) dict.pairs f.entries.live (AllPairs-filter (λ a b. a.serial < b.serial) is_live f.used table.1);
      below = all_back (λ entry. entry.serial < dict.next) (λ pair. pair.serial < dict.next) used_pair (λ a lt. lt) (filter is_live f.used) dict.pairs f.entries.live (All-filter is_live (λ entry. entry.serial < dict.next) f.used f.entries.below);
    }

pub stands_for_set : (texts block words : List ℕ) (class : Option ℕ) (fill : ℕ) (content : SetContent) → IsSetWords texts block words class fill content → IsSet content.next content.elements
stands_for_set texts block words class fill content f =
    let table = set_in_order texts words class f.used f.table in
    record {
      distinct = pairs_back (λ a b. a.key ≢ b.key) (λ a b. a.key ≢ b.key) used_element (λ a b ne. ne) (filter is_live f.used) content.elements f.entries.live table.0;
      rising = pairs_back (λ a b. a.serial < b.serial) (λ a b. a.serial < b.serial) used_element (λ a b lt. lt) (filter is_live f.used) content.elements f.entries.live (AllPairs-filter (λ a b. a.serial < b.serial) is_live f.used table.1);
      below = all_back (λ entry. entry.serial < content.next) (λ element. element.serial < content.next) used_element (λ a lt. lt) (filter is_live f.used) content.elements f.entries.live (All-filter is_live (λ entry. entry.serial < content.next) f.used f.entries.below);
    }

-- ---- what stands for nothing

pub no_table : (block : List ℕ) → IsBlank block → IsBlock block None 0 0 0
no_table block blank = subst (λ (b : List ℕ). IsBlock b None 0 0 0) (sym blank) (record { size = refl; root = refl; count_is = refl; fill_is = refl; next_is = refl; spare = (refl, refl) })

pub no_dict : (texts block words : List ℕ) → IsBlank block → IsDictWords texts block words None 0 (dict_with 0 [])
no_dict texts block words blank = record { head = no_table block blank; used = []; table = refl; filled = refl; entries = record { live = refl; below = λ k d low. absurd (omega arith) } }

pub no_set : (texts block words : List ℕ) → IsBlank block → IsSetWords texts block words None 0 (set_with 0 [])
no_set texts block words blank = record { head = no_table block blank; used = []; table = refl; filled = refl; entries = record { live = refl; below = λ k d low. absurd (omega arith) } }

pub no_list : (block words : List ℕ) → IsBlank block → IsListWords block words None []
no_list block words blank = record { head = no_table block blank; table = refl }
