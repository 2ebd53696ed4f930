-- Elements that go to a fresh table, one after the other: what each leaves, and what all of them come to.
use Rattle.std.proofs.Common.{◌≡◌, ◌≢◌, ℕ, zero, suc, ◌+◌, ◌<◌, ◌≤◌, Bool, true, false, List, [], ◌∷◌, ◌++◌, map, length, filter, take, drop, cond, get_or, Option, Some, None, refl, sym, ap, ◌∙◌, subst, arith}
use Rattle.std.specs.Prelude.{◌&&◌, All, AllPairs, not, slice_index_or, if◌then◌else◌}
use Rattle.std.proofs.lemmas.List.{append-nil, append_assoc, length-append, take-append-drop, take_more, get_or_append_left}
use Rattle.std.proofs.lemmas.List.Elements.{filter-append}
use Rattle.ft_model.specs.declared.content.Content.TheVariants as content
use Rattle.ft_model.specs.declared.content.Element.{Element}
use Rattle.ft_model.specs.declared.data.Key.{Key}
use Rattle.ft_model.specs.declared.script.Kind.TheVariants as kind
use Rattle.ft_model.specs.Contents.{IsSet, SetContent, elements_from, has_element, those_not_in}
use Rattle.ft_model.specs.Worlds.{set_of}
use Rattle.ft_layout.specs.declared.slot.Pair.{Pair}
use Rattle.ft_layout.specs.declared.slot.Stored.{Stored}
use Rattle.ft_layout.specs.declared.slot.Stored.TheVariants.{Empty}
use Rattle.ft_layout.specs.Containers.{class_mask, used_element}
use Rattle.ft_layout.specs.Tables.{IsSetTable, UsedEntry, hash_of, is_live, set_room}
use Rattle.ft_layout.specs.Words.{stored_kind}
use Rattle.ft_keys.specs.TableChanges.{AddsPair}
use Rattle.ft_keys.specs.declared.walk.Way.TheVariants as way
use Rattle.ft_trace.specs.declared.Shape.{Shape}
use Rattle.ft_trace.specs.declared.View.{View}
use Rattle.ft_trace.specs.Addresses.{class_of, slots}
use Rattle.ft_trace.specs.Holds.{held_unboxed, in_hand, known_state}
use Rattle.ft_trace.specs.Kinds.{rows}
use Rattle.ft_trace.specs.Pictures.{ContainerWords, entry_offset, entry_field}
use Rattle.ft_trace.specs.ContainerStates.{ContainerState}
use Rattle.ft_bank.specs.declared.table.Table.{Table}
use Rattle.ft_bank.specs.TableNames.{table_id, IsTableIn}
use Rattle.ft_search.proofs.Puts.{table_class}
use Rattle.ft_new_keys.specs.Fresh.{HasZeroWords, IsFilledWith}
use Rattle.ft_new_keys.proofs.FilledTables.{BlankHolds, blank_table, room_of_way, table_plain}
use Rattle.ft_parting.specs.Internal.Choosing.{HasChosen, IsChosen, apart_pair, at_serials, chosen, is_apart, serial_at}

-- ---- lists

pub serials_append : (first : Option ℕ) (n : ℕ) (xs ys : List UsedEntry) → at_serials first n (xs ++ ys) ≡ at_serials first n xs ++ at_serials first (n + length xs) ys
serials_append first n [] ys = let e : n ≡ n + 0 = omega arith in ap (λ (m : ℕ). at_serials first m ys) e
serials_append first n (x ∷ xs) ys =
    let e : n + 1 + length xs ≡ n + suc (length xs) = omega arith in
    ap (λ (l : List Element). record { serial = serial_at first n x.serial; key = x.key } ∷ l) (serials_append first (n + 1) xs ys ∙ ap (λ (m : ℕ). at_serials first (n + 1) xs ++ at_serials first m ys) e)

pub serials_length : (first : Option ℕ) (n : ℕ) (xs : List UsedEntry) → length (at_serials first n xs) ≡ length xs
serials_length first n [] = refl
serials_length first n (x ∷ xs) = ap suc (serials_length first (n + 1) xs)

-- two parts of the used entries
pub chosen_append : (others : List Element) (first : Option ℕ) (xs ys : List UsedEntry) → chosen others first (xs ++ ys) ≡ chosen others first xs ++ at_serials first (length (chosen others first xs)) (filter (is_apart others) ys)
chosen_append others first xs ys =
    ap (at_serials first 0) (filter-append (is_apart others) xs ys)
    ∙ (serials_append first 0 (filter (is_apart others) xs) (filter (is_apart others) ys)
    ∙ ap (λ (m : ℕ). chosen others first xs ++ at_serials first m (filter (is_apart others) ys)) (let e = serials_length first 0 (filter (is_apart others) xs) in omega (arith, e)))

-- one that comes between is related to those before it
before_it : (R : Element → Element → Type 0) (xs ys : List Element) (x : Element) → AllPairs R (xs ++ x ∷ ys) → All (λ a. R a x) xs
before_it R xs ys x pairs i d low =
    subst (λ (z : Element × Element). R z.0 z.1) (λ j. (get_or_append_left xs (x ∷ ys) d i low j, here xs d j))
    (pairs i (length xs) d low (let n = length-append xs (x ∷ ys) in omega (arith, n)))
  where
    here : (zs : List Element) (d : Element) → get_or (zs ++ x ∷ ys) (length zs) d ≡ x
    here [] d = refl
    here (z ∷ zs) d = here zs d

-- what is so of each element is so of its entry
live_each : (P : UsedEntry → Type 0) (xs : List Element) → All (λ a. P (used_element a)) xs → All P (filter is_live (map used_element xs))
live_each P [] each i d low = absurd (omega (arith, low))
live_each P (x ∷ xs) each zero d low = each 0 x (omega arith)
live_each P (x ∷ xs) each (suc i) d low = live_each P xs (λ j y less. each (suc j) y (omega (arith, less))) i d (omega (arith, low))

map_each : (P : UsedEntry → Type 0) (xs : List Element) → All (λ a. P (used_element a)) xs → All P (map used_element xs)
map_each P [] each i d low = absurd (omega (arith, low))
map_each P (x ∷ xs) each zero d low = each 0 x (omega arith)
map_each P (x ∷ xs) each (suc i) d low = map_each P xs (λ j y less. each (suc j) y (omega (arith, less))) i d (omega (arith, low))

map_last : (xs : List Element) (x : Element) → map used_element (xs ++ x ∷ []) ≡ map used_element xs ++ used_element x ∷ []
map_last [] x = refl
map_last (y ∷ xs) x = ap (λ (l : List UsedEntry). used_element y ∷ l) (map_last xs x)

length_map : (xs : List Element) → length (map used_element xs) ≡ length xs
length_map [] = refl
length_map (x ∷ xs) = ap suc (length_map xs)

-- ---- what all of them come to

apart_live : (others : List Element) (used : List UsedEntry) (es : List Element) → filter is_live used ≡ map used_element es → filter (is_apart others) used ≡ map used_element (those_not_in others es)
apart_live others [] [] live = refl
apart_live others [] (x ∷ xs) live = absurd (cc)
apart_live others (u ∷ used) es live = go (λ ys eq. apart_live others used ys eq) (is_live u) refl es live
  where
    go : ((ys : List Element) → filter is_live used ≡ map used_element ys → filter (is_apart others) used ≡ map used_element (those_not_in others ys)) → (b : Bool) → is_live u ≡ b → (ys : List Element) → filter is_live (u ∷ used) ≡ map used_element ys → filter (is_apart others) (u ∷ used) ≡ map used_element (those_not_in others ys)
    go rest false dead ys eq =
        ap (λ (z : Bool). cond (z && not (has_element others u.key)) (u ∷ filter (is_apart others) used) (filter (is_apart others) used)) dead
        ∙ rest ys (sym (ap (λ (z : Bool). cond z (u ∷ filter is_live used) (filter is_live used)) dead) ∙ eq)
    go rest true there [] eq = absurd (let no : u ∷ filter is_live used ≡ [] = sym (ap (λ (z : Bool). cond z (u ∷ filter is_live used) (filter is_live used)) there) ∙ eq in cc)
    go rest true there (x ∷ xs) eq =
        let both : u ∷ filter is_live used ≡ used_element x ∷ map used_element xs = sym (ap (λ (z : Bool). cond z (u ∷ filter is_live used) (filter is_live used)) there) ∙ eq in
        let head : u ≡ used_element x = cc in
        let tail : filter is_live used ≡ map used_element xs = cc in
        let r = rest xs tail in
        ap (λ (z : Bool). cond (z && not (has_element others u.key)) (u ∷ filter (is_apart others) used) (filter (is_apart others) used)) there
        ∙ ((λ i. cond (not (has_element others (head i).key)) (head i ∷ r i) (r i)) ∙ by (has_element others x.key))
      where
        by : (b : Bool) → cond (not b) (used_element x ∷ map used_element (those_not_in others xs)) (map used_element (those_not_in others xs)) ≡ map used_element (cond (not b) (x ∷ those_not_in others xs) (those_not_in others xs))
        by true = refl
        by false = refl

own_serials : (n : ℕ) (es : List Element) → at_serials None n (map used_element es) ≡ es
own_serials n [] = refl
own_serials n (x ∷ xs) = ap (λ (l : List Element). x ∷ l) (own_serials (n + 1) xs)

new_serials : (next n m : ℕ) (es : List Element) → m ≡ next + n → at_serials (Some next) n (map used_element es) ≡ elements_from m es
new_serials next n m [] is = refl
new_serials next n m (x ∷ xs) is =
    let r = new_serials next (n + 1) (m + 1) xs (omega (arith, is)) in
    λ i. record { serial = sym is i; key = x.key } ∷ r i

pub chosen_own : (others : List Element) (used : List UsedEntry) (es : List Element) → filter is_live used ≡ map used_element es → chosen others None used ≡ those_not_in others es
chosen_own others used es live = ap (at_serials None 0) (apart_live others used es live) ∙ own_serials 0 (those_not_in others es)

pub chosen_new : (others : List Element) (next : ℕ) (used : List UsedEntry) (es : List Element) → filter is_live used ≡ map used_element es → chosen others (Some next) used ≡ elements_from next (those_not_in others es)
chosen_new others next used es live = ap (at_serials (Some next) 0) (apart_live others used es live) ∙ new_serials next 0 next (those_not_in others es) (omega arith)

-- ---- one more entry

pub some_apart : (texts : List ℕ) (others : List Element) (e : UsedEntry) (pair : Pair) → apart_pair texts others e ≡ Some pair → (is_apart others e ≡ true) × (pair.hash ≡ hash_of texts e.key) × (pair.key ≡ e.key) × (pair.serial ≡ e.serial)
some_apart texts others e pair is = by (is_apart others e) refl
  where
    by : (b : Bool) → is_apart others e ≡ b → (is_apart others e ≡ true) × (pair.hash ≡ hash_of texts e.key) × (pair.key ≡ e.key) × (pair.serial ≡ e.serial)
    by true there =
        let all : Some (record { hash = hash_of texts e.key; key = e.key; value = Empty; serial = e.serial }) ≡ Some pair = sym (ap (λ (b : Bool). if b then Some (record { hash = hash_of texts e.key; key = e.key; value = Empty; serial = e.serial }) else None) there) ∙ is in
        let one : record { hash = hash_of texts e.key; key = e.key; value = Empty; serial = e.serial } ≡ pair = cc in
        (there, ap (λ (z : Pair). z.hash) (sym one), ap (λ (z : Pair). z.key) (sym one), ap (λ (z : Pair). z.serial) (sym one))
    by false out = absurd (let no : None ≡ Some pair = sym (ap (λ (b : Bool). if b then Some (record { hash = hash_of texts e.key; key = e.key; value = Empty; serial = e.serial }) else None) out) ∙ is in cc)

none_apart : (texts : List ℕ) (others : List Element) (e : UsedEntry) → apart_pair texts others e ≡ None → is_apart others e ≡ false
none_apart texts others e is = by (is_apart others e) refl
  where
    by : (b : Bool) → is_apart others e ≡ b → is_apart others e ≡ false
    by true there = absurd (let no : Some (record { hash = hash_of texts e.key; key = e.key; value = Empty; serial = e.serial }) ≡ None = sym (ap (λ (b : Bool). if b then Some (record { hash = hash_of texts e.key; key = e.key; value = Empty; serial = e.serial }) else None) there) ∙ is in cc)
    by false out = out

module _ (k : Shape) (s : ℕ) (from : Table) (t : ℕ) (table : Table) (first : Option ℕ) (start : ℕ) (used : List UsedEntry) (mine : List Element) (place count : ℕ) (v : View) (c : IsChosen k s from t table first start used mine place count v) (low : place < length used) (any : UsedEntry) where
  abbrev others : List Element
  others = (set_of (known_state t v).content).elements

  abbrev e : UsedEntry
  e = slice_index_or used place any

  abbrev placed : List Element
  placed = chosen others first (take place used)

  -- where nothing goes over, nothing changes
  next_out : is_apart others e ≡ false → chosen others first (take (place + 1) used) ≡ placed
  next_out out =
      ap (chosen others first) (take_more used place any low)
      ∙ (chosen_append others first (take place used) (e ∷ [])
      ∙ (ap (λ (b : Bool). placed ++ at_serials first (length placed) (cond b (e ∷ []) [])) out ∙ append-nil placed))

  pub chosen_stays : (z : View) → held_unboxed s z ≡ held_unboxed s v → known_state s z ≡ known_state s v → known_state t z ≡ known_state t v → in_hand (table_id table) z ≡ in_hand (table_id table) v → apart_pair k.texts others e ≡ None → IsChosen k s from t table first start used mine (place + 1) count z
  chosen_stays z words mine_known other_known hand is =
      let same = next_out (none_apart k.texts others e is) in
      record {
        source = subst (λ (x : ContainerWords). IsSetTable k.texts (class_mask (class_of (table_id from))) used (0 ∷ 0 ∷ x.table)) (sym words) c.source;
        filled = c.filled ∙ ap (λ (x : ContainerState). x.table.fill) (sym mine_known);
        started = c.started;
        next = c.next;
        is_set = subst (λ (x : ContainerState). IsSet c.next (mine ++ chosen (set_of x.content).elements first used)) (sym other_known) c.is_set;
        room = subst (λ (x : ContainerState). length (mine ++ chosen (set_of x.content).elements first used) ≤ rows kind.Set (class_of (table_id table))) (sym other_known) c.room;
        has = subst (λ (x : ContainerState). HasChosen k table (mine ++ chosen (set_of x.content).elements first (take (place + 1) used)) count z) (sym other_known) (subst (λ (l : List Element). HasChosen k table (mine ++ l) count z) (sym same) (record {
          counted = c.has.counted;
          made = subst (λ (ws : List ℕ). IsSetTable k.texts (class_mask (class_of (table_id table))) (map used_element (mine ++ placed)) (0 ∷ 0 ∷ ws)) (sym hand) c.has.made;
          versions = λ p less. ap (λ (ws : List ℕ). entry_field (slots (class_of (table_id table))) ws p 0) hand ∙ c.has.versions p less;
        }));
      }

  module _ (pair : Pair) (is : apart_pair k.texts others e ≡ Some pair) where
    abbrev new : Element
    new = record { serial = serial_at first (length placed) e.serial; key = e.key }

    -- one more goes over
    next_in : chosen others first (take (place + 1) used) ≡ placed ++ new ∷ []
    next_in =
        ap (chosen others first) (take_more used place any low)
        ∙ (chosen_append others first (take place used) (e ∷ [])
        ∙ ap (λ (b : Bool). placed ++ at_serials first (length placed) (cond b (e ∷ []) [])) (some_apart k.texts others e pair is).0)

    abbrev rest : List Element
    rest = at_serials first (length (chosen others first (take (place + 1) used))) (filter (is_apart others) (drop (place + 1) used))

    -- and then come those that are left
    whole : mine ++ chosen others first used ≡ (mine ++ placed) ++ new ∷ rest
    whole =
        ap (λ (l : List UsedEntry). mine ++ chosen others first l) (sym (take-append-drop (place + 1) used))
        ∙ (ap (λ (l : List Element). mine ++ l) (chosen_append others first (take (place + 1) used) (drop (place + 1) used) ∙ (ap (λ (l : List Element). l ++ rest) next_in ∙ append_assoc placed (new ∷ []) rest))
        ∙ sym (append_assoc mine placed (new ∷ rest)))

    pub chosen_room : count < rows kind.Set (class_of (table_id table))
    chosen_room =
        let all = ap length whole in
        let n = length-append (mine ++ placed) (new ∷ rest) in
        let r = c.room in
        let h = c.has.counted in
        omega (arith, all, n, r, h)

    pub chosen_count : count ≡ start + length placed
    chosen_count = let h = c.has.counted in let n = length-append mine placed in let b = c.started in omega (arith, h, n, b)

    -- its words were put
    pub chosen_more : (z : View) (put : Pair) → put.hash ≡ hash_of k.texts e.key → put.key ≡ e.key → put.value ≡ Empty → put.serial ≡ serial_at first (length placed) e.serial → held_unboxed s z ≡ held_unboxed s v → known_state s z ≡ known_state s v → known_state t z ≡ known_state t v
        → AddsPair way.Set (class_mask (class_of (table_id table))) count put (0 ∷ 0 ∷ in_hand (table_id table) v) (0 ∷ 0 ∷ in_hand (table_id table) z)
        → ((p : ℕ) → entry_field (slots (class_of (table_id table))) (in_hand (table_id table) z) p 0 ≡ entry_field (slots (class_of (table_id table))) (in_hand (table_id table) v) p 0)
        → IsChosen k s from t table first start used mine (place + 1) (count + 1) z
    chosen_more z put hash key value serial words mine_known other_known adds versions =
        let pairs : IsSet c.next ((mine ++ placed) ++ new ∷ rest) = subst (IsSet c.next) whole c.is_set in
        let long = length_map (mine ++ placed) in
        let h = c.has.counted in
        let apart = live_each (λ (entry : UsedEntry). entry.key ≢ put.key) (mine ++ placed) (subst (λ (x : Key). All (λ (a : Element). a.key ≢ x) (mine ++ placed)) (sym key) (before_it (λ (a b : Element). a.key ≢ b.key) (mine ++ placed) rest new pairs.distinct)) in
        let lower = map_each (λ (entry : UsedEntry). entry.serial < put.serial) (mine ++ placed) (subst (λ (x : ℕ). All (λ (a : Element). a.serial < x) (mine ++ placed)) (sym serial) (before_it (λ (a b : Element). a.serial < b.serial) (mine ++ placed) rest new pairs.rising)) in
        let added = adds k.texts (map used_element (mine ++ placed)) c.has.made (omega (arith, long, h)) (hash ∙ ap (hash_of k.texts) (sym key)) apart lower in
        let entry : map used_element (mine ++ placed) ++ (record { key = put.key; serial = put.serial; stored = Some put.value }) ∷ [] ≡ map used_element (mine ++ chosen others first (take (place + 1) used)) =
        (λ i. map used_element (mine ++ placed) ++ (record { key = key i; serial = serial i; stored = Some (value i) }) ∷ [])
        ∙ (sym (map_last (mine ++ placed) new) ∙ ap (map used_element) (append_assoc mine placed (new ∷ []) ∙ ap (λ (l : List Element). mine ++ l) (sym next_in))) in
        let last = ap (λ (l : List Element). length (mine ++ l)) next_in in
        let n1 = length-append mine (placed ++ new ∷ []) in
        let n2 = length-append placed (new ∷ []) in
        let n3 = length-append mine placed in
        record {
          source = subst (λ (x : ContainerWords). IsSetTable k.texts (class_mask (class_of (table_id from))) used (0 ∷ 0 ∷ x.table)) (sym words) c.source;
          filled = c.filled ∙ ap (λ (x : ContainerState). x.table.fill) (sym mine_known);
          started = c.started;
          next = c.next;
          is_set = subst (λ (x : ContainerState). IsSet c.next (mine ++ chosen (set_of x.content).elements first used)) (sym other_known) c.is_set;
          room = subst (λ (x : ContainerState). length (mine ++ chosen (set_of x.content).elements first used) ≤ rows kind.Set (class_of (table_id table))) (sym other_known) c.room;
          has = subst (λ (x : ContainerState). HasChosen k table (mine ++ chosen (set_of x.content).elements first (take (place + 1) used)) (count + 1) z) (sym other_known) (record {
            counted = omega (arith, h, last, n1, n2, n3);
            made = subst (λ (l : List UsedEntry). IsSetTable k.texts (class_mask (class_of (table_id table))) l (0 ∷ 0 ∷ in_hand (table_id table) z)) entry added;
            versions = λ p less. versions p ∙ c.has.versions p less;
          });
        }

-- ---- before the first entry, and after the last one

pub blank_has : BlankHolds → (k : Shape) (table : Table) (v : View) → IsTableIn k table → HasZeroWords (class_of (table_id table)) (in_hand (table_id table) v) → HasChosen k table [] 0 v
blank_has holds k table v table_in blank = record {
  counted = refl;
  made = holds _ (set_room (class_mask (class_of (table_id table)))) k.texts (class_mask (class_of (table_id table))) (0 ∷ 0 ∷ in_hand (table_id table) v) (blank_table (class_of (table_id table)) (table_class k table table_in) (in_hand (table_id table) v) blank);
  versions = λ p less. blank.zeros (entry_offset (slots (class_of (table_id table))) p 0);
}

pub has_fills : (k : Shape) (table : Table) (v : View) (set : SetContent) (count : ℕ) → IsTableIn k table → IsSet set.next set.elements → HasChosen k table set.elements count v → IsFilledWith k.texts (class_of (table_id table)) (content.Set set) (in_hand (table_id table) v)
has_fills k table v set count table_in rule has = record {
  says = λ block head. record {
    head = head;
    used = map used_element set.elements;
    table = has.made;
    filled = length_map set.elements;
    entries = record { live = all_live set.elements; below = map_each (λ (entry : UsedEntry). entry.serial < set.next) set.elements rule.below };
  };
  versions = has.versions;
  plain = λ place low.
      let class = class_of (table_id table) in
      let all = room_of_way way.Set class (table_class k table table_in) in
      table_plain _ (set_room (class_mask class)) k.texts class (in_hand (table_id table) v) (map used_element set.elements) has.made
      (map_each (λ (e : UsedEntry). (stored : Stored) × (e.stored ≡ Some stored) × (stored_kind stored ≢ 4)) set.elements (λ i d few. (Empty, refl, λ z. omega (arith, z))))
      place (omega (arith, low, all));
}
  where
    all_live : (es : List Element) → filter is_live (map used_element es) ≡ map used_element es
    all_live [] = refl
    all_live (x ∷ xs) = ap (λ (l : List UsedEntry). used_element x ∷ l) (all_live xs)
