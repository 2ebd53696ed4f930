-- That an item of a list may be put while others read it, on lists of words alone.
use Rattle.std.proofs.Common.{zero, Option, None, ◌≡◌, ◌≢◌, ℕ, suc, ◌+◌, ◌*◌, ◌%◌, ◌<◌, ◌≤◌, true, false, List, [], ◌∷◌, length, refl, sym, ap, ◌∙◌, subst, arith, Some, length-set, get_or-set_same, get_or-set_other}
use Rattle.std.specs.Prelude.{slice_index, slice_index_or, slice_get, slice_set}
use Rattle.std.specs.Option.{option_map_or}
use Rattle.std.proofs.Math.Decide.{dec_lt}
use mathlib.Core.Logic.{dite}
use native.Mathlib.Decide.{ℕ_discrete}
use Rattle.ft_model.specs.declared.data.Value.{Value}
use Rattle.ft_model.specs.declared.data.Value.TheVariants as value
use Rattle.ft_model.specs.declared.content.Content.TheVariants as content
use Rattle.ft_model.specs.declared.script.Kind.TheVariants as kind
use Rattle.ft_model.specs.Classes.{IsClass}
use Rattle.ft_layout.specs.declared.slot.Stored.{Stored}
use Rattle.ft_layout.specs.declared.slot.Stored.TheVariants.{Empty, Plain}
use Rattle.ft_layout.specs.Words.{FitsStored, stored_kind, stored_payload}
use Rattle.ft_layout.specs.Tables.{item_word, IsListTable}
use Rattle.ft_layout.specs.Tables as layout
use Rattle.ft_layout.specs.WordChanges.{ChangesItem, SaysStored, with_item}
use Rattle.ft_layout.specs.Containers.{class_mask, IsListWords}
use Rattle.ft_layout.proofs.Powers.{slots_range}
use Rattle.ft_layout.proofs.WordLaws.{same_stored}
use Rattle.ft_trace.specs.Addresses.{class_of, slots, size}
use Rattle.ft_trace.specs.Pictures.{item_offset, item_field}
use Rattle.ft_trace.specs.ItemWords.{said_at, value_words, words_at, ItemCareful, ItemClear}
use Rattle.ft_trace.specs.Kinds.{rows, version_at}
use Rattle.ft_trace.specs.OddVersions.{Shut, Timely}
use Rattle.ft_trace.specs.WholeWrites.{to_table, MayPut, MayPuts, to_value}
use Rattle.ft_trace.proofs.Cases.{off}
use Rattle.ft_trace.proofs.ValuePlaces.{plain_kind, item_far}
use Rattle.ft_trace.specs.ItemWrites.{item_puts, item_closed}
use Rattle.ft_trace.proofs.ByKind.{items_fit}
use Rattle.ft_trace.proofs.Known.{after_header, past_header}
use Rattle.ft_trace.proofs.Untouched.{there_is}

-- the version of an item is made odd
pub item_open : (n : ℕ) (ws : List ℕ) (values : List Value) (p : ℕ) → item_field ws p 0 % 2 ≡ 0 → ItemCareful n ws values (item_offset p 0) (item_field ws p 0 + 1)
item_open n ws values p even = record {
  odd = λ q w less some few e. absurd (omega (arith, some, few, e));
  version = λ q less e. let same : p ≡ q = omega (arith, e) in let v : item_field ws q 0 ≡ item_field ws p 0 = ap (λ (z : ℕ). item_field ws z 0) (sym same) in omega (arith, v);
  closes = λ q less e two. absurd (omega (arith, two, even));
}

-- a word of an item whose version is odd
pub item_word_put : (n : ℕ) (ws : List ℕ) (values : List Value) (p w x : ℕ) → 0 < w → w < 4 → item_field ws p 0 % 2 ≡ 1 → ItemCareful n ws values (item_offset p w) x
item_word_put n ws values p w x some few odd = record {
  odd = λ q u less more low e. let same : p ≡ q = omega (arith, some, few, more, low, e) in subst (λ (z : ℕ). item_field ws z 0 % 2 ≡ 1) same odd;
  version = λ q less e. absurd (omega (arith, some, few, e));
  closes = λ q less e two. absurd (omega (arith, some, few, e));
}

-- its version is made even where it says what the list has
pub item_close : (n : ℕ) (ws : List ℕ) (values : List Value) (p x : ℕ) → x ≡ item_field ws p 0 + 1 → words_at values p ≡ said_at ws p → ItemCareful n ws values (item_offset p 0) x
item_close n ws values p x is says = record {
  odd = λ q w less some few e. absurd (omega (arith, some, few, e));
  version = λ q less e. let same : p ≡ q = omega (arith, e) in let v : item_field ws q 0 ≡ item_field ws p 0 = ap (λ (z : ℕ). item_field ws z 0) (sym same) in omega (arith, v, is);
  closes = λ q less e two. let same : p ≡ q = omega (arith, e) in subst (λ (z : ℕ). words_at values z ≡ said_at ws z) same says;
}

module _ (t : ℕ) (is_class : IsClass (class_of t)) (b ws : List ℕ) (values news : List Value) (p : ℕ) (value : Value) (names : slice_index b 0 ≡ suc t) (long : length ws ≡ size (class_of t)) (low : p < slots (class_of t)) (shut : Shut (version_at kind.List (class_of t)) (rows kind.List (class_of t)) ws)
    (same : (q : ℕ) → q ≢ p → words_at news q ≡ words_at values q) (here : words_at news p ≡ value_words value) (short : length news ≤ slots (class_of t)) where
  abbrev c : ℕ
  c = class_of t

  abbrev ver : ℕ
  ver = item_field ws p 0

  abbrev a1 : List ℕ
  a1 = slice_set ws (item_offset p 0) (ver + 1)

  abbrev a2 : List ℕ
  a2 = slice_set a1 (item_offset p 1) (stored_kind (Plain value))

  abbrev a3 : List ℕ
  a3 = slice_set a2 (item_offset p 2) (stored_payload (Plain value))

  abbrev a4 : List ℕ
  a4 = slice_set a3 (item_offset p 0) (ver + 2)

  even : ver % 2 ≡ 0
  even = shut p low

  fits : 4 * slots c ≤ size c
  fits = items_fit c is_class

  inside : (w : ℕ) → w < 4 → item_offset p w < size c
  inside w few = let f = fits in omega (arith, f, low, few)

  long1 : length a1 ≡ size c
  long1 = length-set ws (item_offset p 0) (ver + 1) ∙ long

  long2 : length a2 ≡ size c
  long2 = length-set a1 (item_offset p 1) (stored_kind (Plain value)) ∙ long1

  long3 : length a3 ≡ size c
  long3 = length-set a2 (item_offset p 2) (stored_payload (Plain value)) ∙ long2

  in_list : (l : List ℕ) → length l ≡ size c → (w : ℕ) → w < 4 → item_offset p w < length l
  in_list l e w few = let i = inside w few in omega (arith, e, i)

  ver1 : item_field a1 p 0 ≡ ver + 1
  ver1 = get_or-set_same ws (item_offset p 0) (ver + 1) 0 (in_list ws long 0 (omega arith))

  ver2 : item_field a2 p 0 ≡ ver + 1
  ver2 = get_or-set_other a1 (item_offset p 1) (item_offset p 0) (stored_kind (Plain value)) 0 (λ e. omega arith) ∙ ver1

  ver3 : item_field a3 p 0 ≡ ver + 1
  ver3 = get_or-set_other a2 (item_offset p 2) (item_offset p 0) (stored_payload (Plain value)) 0 (λ e. omega arith) ∙ ver2

  kind3 : item_field a3 p 1 ≡ stored_kind (Plain value)
  kind3 = get_or-set_other a2 (item_offset p 2) (item_offset p 1) (stored_payload (Plain value)) 0 (λ e. omega arith) ∙ get_or-set_same a1 (item_offset p 1) (stored_kind (Plain value)) 0 (in_list a1 long1 1 (omega arith))

  payload3 : item_field a3 p 2 ≡ stored_payload (Plain value)
  payload3 = get_or-set_same a2 (item_offset p 2) (stored_payload (Plain value)) 0 (in_list a2 long2 2 (omega arith))

  says3 : words_at news p ≡ said_at a3 p
  says3 = here ∙ (λ d. sym kind3 d ∷ sym payload3 d ∷ [])

  else3 : (i : ℕ) → i ≢ item_offset p 0 → i ≢ item_offset p 1 → i ≢ item_offset p 2 → slice_index a3 i ≡ slice_index ws i
  else3 i n0 n1 n2 = get_or-set_other a2 (item_offset p 2) i (stored_payload (Plain value)) 0 n2 ∙ (get_or-set_other a1 (item_offset p 1) i (stored_kind (Plain value)) 0 n1 ∙ get_or-set_other ws (item_offset p 0) i (ver + 1) 0 n0)

  early_time : (w x : ℕ) → w < 4 → (w ≡ 0 → x % 2 ≡ 1) → Timely (version_at kind.List c) (rows kind.List c) (item_offset p w) x false
  early_time w x few odd = record { before = λ q less e one. refl; later = λ q less e two. absurd (let o = odd (omega (arith, few, e)) in omega (arith, two, o)) }

  pub item_early : (box : Option ℕ) → MayPuts kind.List t (content.List values) false (record { block = b; table = ws }) (item_puts ws p box value)
  item_early box =
      let odd1 : item_field a1 p 0 % 2 ≡ 1 = let e = ver1 in let v = even in omega (arith, e, v) in
      let second : MayPut kind.List t (content.List values) false (record { block = b; table = a1 }) (to_value box (item_offset p 1) (item_offset p 2) (stored_kind (Plain value)) (stored_payload (Plain value))) = (names, (p, low, refl, omega arith, odd1), plain_kind value, λ e. off e) in
      let first : MayPut kind.List t (content.List values) false (record { block = b; table = ws }) (to_table (item_offset p 0) (ver + 1)) = (names, inside 0 (omega arith), item_open (slots c) ws values p even, early_time 0 (ver + 1) (omega arith) (λ _. let v = even in omega (arith, v)), item_far c p) in
      (first, (second, tt))

  pub item_clear : words_at values p ≢ value_words value → ItemClear (slots c) a3 values news
  item_clear other = record {
    keeps = λ q less two.
        dite (ℕ_discrete q p)
        (λ (e : q ≡ p). let v : item_field a3 q 0 ≡ ver + 1 = ap (λ (z : ℕ). item_field a3 z 0) e ∙ ver3 in let old = even in absurd (omega (arith, v, two, old)))
        (λ ne. same q ne);
    opens = λ q less odd.
        dite (ℕ_discrete q p)
        (λ (e : q ≡ p). subst (λ (z : ℕ). words_at news z ≢ words_at values z) (sym e) (λ as_before. other (sym as_before ∙ here)))
        (λ ne.
        let v : item_field a3 q 0 ≡ item_field ws q 0 = else3 (item_offset q 0) (λ e. ne (omega (arith, e))) (λ e. omega arith) (λ e. omega arith) in
        let old = shut q less in
        absurd (omega (arith, v, old, odd)));
    short = short;
  }

  pub item_late : MayPuts kind.List t (content.List news) true (record { block = b; table = a3 }) (item_closed ws p)
  item_late =
      let v3 = ver3 in
      let old = even in
      ((names, inside 0 (omega arith), item_close (slots c) a3 news p (ver + 2) (omega (arith, v3)) says3, record { before = λ q less e one. absurd (omega (arith, one, old)); later = λ q less e two. refl }, item_far c p), tt)

  pub item_shut : Shut (version_at kind.List c) (rows kind.List c) a4
  item_shut q less =
      dite (ℕ_discrete q p)
      (λ (e : q ≡ p).
      let v : item_field a4 q 0 ≡ ver + 2 = ap (λ (z : ℕ). item_field a4 z 0) e ∙ get_or-set_same a3 (item_offset p 0) (ver + 2) 0 (in_list a3 long3 0 (omega arith)) in
      let old = even in
      omega (arith, v, old))
      (λ ne.
      let v : item_field a4 q 0 ≡ item_field ws q 0 = get_or-set_other a3 (item_offset p 0) (item_offset q 0) (ver + 2) 0 (λ e. ne (omega (arith, e))) ∙ else3 (item_offset q 0) (λ e. ne (omega (arith, e))) (λ e. omega arith) (λ e. omega arith) in
      let old = shut q less in
      omega (arith, v, old))

-- ---- what the words stand for then, by the laws of tables of lists

-- a version that is put changes nothing that a list's table holds
abbrev pub VersionsChangeNothing : Type 0
VersionsChangeNothing = (mask : ℕ) (values : List Value) (words : List ℕ) (place version : ℕ) → IsListTable mask values words → IsListTable mask values (slice_set words (layout.item_at place 0) version)

-- the words of a value that are put into an item say so
abbrev pub PutsChangeOneItem : Type 0
PutsChangeOneItem = (mask : ℕ) (values : List Value) (words : List ℕ) (place : ℕ) (stored : Stored) → 7 ≤ mask → IsListTable mask values words → place ≤ mask → FitsStored stored → ChangesItem place words (with_item words place stored) × SaysStored (with_item words place stored) place stored

module _ (versions : VersionsChangeNothing) (one : PutsChangeOneItem) (c : ℕ) (is_class : IsClass c) (ws : List ℕ) (p a : ℕ) (low : p < slots c) (values : List Value) (value : Value) (fits : FitsStored (Plain value)) (table : IsListTable (class_mask c) values (0 ∷ 0 ∷ ws)) where
  mask_low : p ≤ class_mask c
  unfolding slots
  mask_low = omega (arith, low)

  mask_up : 7 ≤ class_mask c
  mask_up = let r = slots_range c is_class in let l = r.0 in omega (arith, l)

  version_put : (l : List ℕ) (x : ℕ) (vs : List Value) → IsListTable (class_mask c) vs (0 ∷ 0 ∷ l) → IsListTable (class_mask c) vs (0 ∷ 0 ∷ slice_set l (item_offset p 0) x)
  version_put l x vs is = subst (λ (z : List ℕ). IsListTable (class_mask c) vs z) (after_header l (layout.item_at p 0) (item_offset p 0) x (omega arith)) (versions (class_mask c) vs (0 ∷ 0 ∷ l) p x is)

  abbrev opened : List ℕ
  opened = slice_set ws (item_offset p 0) a

  abbrev filled : List ℕ
  filled = slice_set (slice_set opened (item_offset p 1) (stored_kind (Plain value))) (item_offset p 2) (stored_payload (Plain value))

  pub open_table : IsListTable (class_mask c) values (0 ∷ 0 ∷ opened)
  open_table = version_put ws a values table

  same_words : with_item (0 ∷ 0 ∷ opened) p (Plain value) ≡ 0 ∷ 0 ∷ filled
  same_words =
      ap (λ (l : List ℕ). slice_set l (layout.item_at p 2) (stored_payload (Plain value))) (after_header opened (layout.item_at p 1) (item_offset p 1) (stored_kind (Plain value)) (omega arith))
      ∙ after_header (slice_set opened (item_offset p 1) (stored_kind (Plain value))) (layout.item_at p 2) (item_offset p 2) (stored_payload (Plain value)) (omega arith)

  pub item_said : ChangesItem p (0 ∷ 0 ∷ opened) (0 ∷ 0 ∷ filled) × SaysStored (0 ∷ 0 ∷ filled) p (Plain value)
  item_said = subst (λ (l : List ℕ). ChangesItem p (0 ∷ 0 ∷ opened) l × SaysStored l p (Plain value)) same_words (one (class_mask c) values (0 ∷ 0 ∷ opened) p (Plain value) mask_up open_table mask_low fits)

  -- a list that the words of the open item stand for is that of the closed one
  pub item_closed_stands : (block : List ℕ) (x : ℕ) (news : List Value) → IsListWords block (0 ∷ 0 ∷ filled) (Some c) news → IsListWords block (0 ∷ 0 ∷ slice_set filled (item_offset p 0) x) (Some c) news
  item_closed_stands block x news says = record { head = says.head; table = version_put filled x news says.table }

-- ---- what the words of a list's table say at each index

pub none_at : (values : List Value) (p : ℕ) → length values ≤ p → slice_get values p ≡ None
none_at [] p high = refl
none_at (x ∷ xs) zero high = absurd (omega (arith, high))
none_at (x ∷ xs) (suc p) high = none_at xs p (omega (arith, high))

-- words of a value are those of no other, nor of nothing
pub other_words : (values : List Value) (p : ℕ) (put : Value) → FitsStored (Plain put) → ((any : Value) → p < length values → FitsStored (Plain (slice_index_or values p any))) → slice_get values p ≢ Some put → words_at values p ≢ value_words put
other_words values p put ok each differs same =
    dite (dec_lt p (length values))
    (λ (inside : p < length values).
    let found = there_is values p value.Nothing inside in
    let had : Value = slice_index_or values p value.Nothing in
    let words : value_words had ≡ value_words put = sym (ap (λ (z : Option Value). option_map_or value_words z (0 ∷ 0 ∷ [])) found) ∙ same in
    let one : Plain had ≡ Plain put = same_stored (Plain had) (Plain put) (each value.Nothing inside) ok (ap (λ (l : List ℕ). slice_index l 0) words) (ap (λ (l : List ℕ). slice_index l 1) words) in
    let is : had ≡ put = cc in
    differs (found ∙ ap (λ (z : Value). Some z) is))
    (λ past.
    let words : 0 ∷ 0 ∷ [] ≡ value_words put = sym (ap (λ (z : Option Value). option_map_or value_words z (0 ∷ 0 ∷ [])) (none_at values p (omega (arith, past)))) ∙ same in
    let one : Empty ≡ Plain put = same_stored Empty (Plain put) tt ok (ap (λ (l : List ℕ). slice_index l 0) words) (ap (λ (l : List ℕ). slice_index l 1) words) in
    absurd (cc))

pub items_says : (c : ℕ) → IsClass c → (values : List Value) (ws : List ℕ) → IsListTable (class_mask c) values (0 ∷ 0 ∷ ws) → (p : ℕ) → p < slots c → words_at values p ≡ said_at ws p
unfolding slots
items_says c is_class values ws table p low =
    let r = (slots_range c is_class).0 in
    let word : (w : ℕ) → item_word (0 ∷ 0 ∷ ws) p w ≡ item_field ws p w = λ w. past_header ws (layout.item_at p w) (item_offset p w) (omega arith) in
    let w1 = word 1 in
    let w2 = word 2 in
    dite (dec_lt p (length values))
    (λ (inside : p < length values).
    let any : Value = value.Nothing in
    let is = table.items p any inside in
    let k = is.kind_is in
    let l = is.payload_is in
    ap (λ (z : Option Value). option_map_or value_words z (0 ∷ 0 ∷ [])) (there_is values p any inside) ∙ (λ d. (sym k ∙ w1) d ∷ (sym l ∙ w2) d ∷ []))
    (λ past.
    let is = table.unused p (omega (arith, past)) (omega (arith, low, r)) in
    let k = is.kind_is in
    let l = is.payload_is in
    ap (λ (z : Option Value). option_map_or value_words z (0 ∷ 0 ∷ [])) (none_at values p (omega (arith, past))) ∙ (λ d. (sym k ∙ w1) d ∷ (sym l ∙ w2) d ∷ []))
