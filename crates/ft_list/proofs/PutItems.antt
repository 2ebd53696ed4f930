-- The words of a list's table once an item was put, and what they say.
use Rattle.std.proofs.Common.{◌≡◌, ◌≢◌, ◌⊎◌, ℕ, zero, suc, ◌%◌, ◌<◌, ◌≤◌, List, [], ◌∷◌, length, Option, Some, None, refl, sym, ap, ◌∙◌, subst, inl, inr, arith, length-set, get_or-set_same, get_or-set_other}
use Rattle.std.specs.Prelude.{slice_index, slice_index_or, slice_set, slice_get}
use Rattle.std.specs.Option.{option_map_or}
use Rattle.std.proofs.lemmas.Bool.{cases_lt, cases_eq}
use Rattle.ft_model.specs.declared.data.Value.{Value}
use Rattle.ft_model.specs.declared.data.Value.TheVariants as value
use Rattle.ft_layout.specs.declared.slot.Stored.{Stored}
use Rattle.ft_layout.specs.Words.{FitsStored, stored_kind, stored_payload}
use Rattle.ft_layout.specs.Tables.{IsListTable}
use Rattle.ft_layout.specs.Tables as layout
use Rattle.ft_layout.specs.WordChanges.{ChangesItem, SaysStored}
use Rattle.ft_layout.specs.Containers.{class_mask}
use Rattle.ft_trace.specs.Addresses.{slots}
use Rattle.ft_trace.specs.Pictures.{ContainerWords, item_offset, item_field}
use Rattle.ft_trace.specs.ItemWords.{said_at, value_words, words_at}
use Rattle.ft_trace.proofs.ItemPuts.{VersionsChangeNothing}
use Rattle.ft_trace.proofs.Known.{after_header, past_header}
use Rattle.ft_trace.proofs.Untouched.{there_is}
use Rattle.ft_list.specs.ListItemWrites.{with_word, PutsItem, IsChanging, stored_words}

-- ---- one item is put

module _ (old : ContainerWords) (place x kind payload : ℕ) (low : item_offset place 3 ≤ length old.table) where
  abbrev one : ContainerWords
  one = with_word old place 0 x

  abbrev two : ContainerWords
  two = with_word one place 1 kind

  abbrev three : ContainerWords
  three = with_word two place 2 payload

  pub version_one : item_field one.table place 0 ≡ x
  version_one = get_or-set_same old.table (item_offset place 0) x 0 (omega (arith, low))

  pub version_two : item_field two.table place 0 ≡ x
  version_two = get_or-set_other one.table (item_offset place 1) (item_offset place 0) kind 0 (λ e. omega (arith, e)) ∙ version_one

  long_one : length one.table ≡ length old.table
  long_one = length-set old.table (item_offset place 0) x

  long_two : length two.table ≡ length old.table
  long_two = length-set one.table (item_offset place 1) kind ∙ long_one

  rest_three : (i : ℕ) → (i < item_offset place 0) ⊎ (item_offset place 3 ≤ i) → slice_index three.table i ≡ slice_index old.table i
  rest_three i (inl before) = get_or-set_other two.table (item_offset place 2) i payload 0 (λ e. omega (arith, e, before)) ∙ (get_or-set_other one.table (item_offset place 1) i kind 0 (λ e. omega (arith, e, before)) ∙ get_or-set_other old.table (item_offset place 0) i x 0 (λ e. omega (arith, e, before)))
  rest_three i (inr past) = get_or-set_other two.table (item_offset place 2) i payload 0 (λ e. omega (arith, e, past)) ∙ (get_or-set_other one.table (item_offset place 1) i kind 0 (λ e. omega (arith, e, past)) ∙ get_or-set_other old.table (item_offset place 0) i x 0 (λ e. omega (arith, e, past)))

  pub item_put : (stored : Stored) → kind ≡ stored_kind stored → payload ≡ stored_payload stored → x % 2 ≡ 1 → stored_words stored ≢ said_at old.table place → PutsItem place stored old three
  item_put stored k p odd other =
      let l1 = long_one in
      let l2 = long_two in
      let v = get_or-set_other two.table (item_offset place 2) (item_offset place 0) payload 0 (λ e. omega (arith, e)) ∙ version_two in
      record {
        block = refl;
        size = length-set two.table (item_offset place 2) payload ∙ long_two;
        rest = rest_three;
        kind = get_or-set_other two.table (item_offset place 2) (item_offset place 1) payload 0 (λ e. omega (arith, e)) ∙ (get_or-set_same one.table (item_offset place 1) kind 0 (omega (arith, l1, low)) ∙ k);
        payload = get_or-set_same two.table (item_offset place 2) payload 0 (omega (arith, l2, low)) ∙ p;
        version = inl (ap (λ (z : ℕ). z % 2) v ∙ odd, other);
      }

-- ---- what a list's table says

-- a word of an item, counted with the header and without
pub header_word : (ws : List ℕ) (p w : ℕ) → layout.item_word (0 ∷ 0 ∷ ws) p w ≡ item_field ws p w
header_word ws p w = past_header ws (layout.item_at p w) (item_offset p w) (omega arith)

pub past_end : (values : List Value) (p : ℕ) → length values ≤ p → slice_get values p ≡ None
past_end [] p past = refl
past_end (x ∷ xs) zero past = absurd (omega (arith, past))
past_end (x ∷ xs) (suc p) past = past_end xs p (omega (arith, past))

-- an item's words are those of the value at its index, and of nothing past the length
pub table_says : (mask : ℕ) (values : List Value) (ws : List ℕ) (p : ℕ) → IsListTable mask values (0 ∷ 0 ∷ ws) → p ≤ mask → words_at values p ≡ said_at ws p
table_says mask values ws p table low = elim (cases_lt p (length values)) [
  | inl less ↦
      let is = table.items p value.Nothing less in
      let found : slice_get values p ≡ Some (slice_index_or values p value.Nothing) = there_is values p value.Nothing less in
      ap (λ (z : Option Value). option_map_or value_words z (0 ∷ 0 ∷ [])) found
      ∙ (λ d. (sym is.kind_is ∙ header_word ws p 1) d ∷ (sym is.payload_is ∙ header_word ws p 2) d ∷ [])
  | inr past ↦
      let is = table.unused p past low in
      ap (λ (z : Option Value). option_map_or value_words z (0 ∷ 0 ∷ [])) (past_end values p past)
      ∙ (λ d. (sym is.kind_is ∙ header_word ws p 1) d ∷ (sym is.payload_is ∙ header_word ws p 2) d ∷ [])
]

-- the words that the item at a place stores, and the others as they were
module _ (mask : ℕ) (values : List Value) (old new : ContainerWords) (place : ℕ) (stored : Stored) (puts : PutsItem place stored old new) (table : IsListTable mask values (0 ∷ 0 ∷ old.table)) (low : place ≤ mask) (fits : FitsStored stored) where
  rest : (i : ℕ) → (i < layout.item_at place 0) ⊎ (layout.item_at place 4 ≤ i) → slice_index (0 ∷ 0 ∷ new.table) i ≡ slice_index (0 ∷ 0 ∷ old.table) i
  rest zero out = refl
  rest (suc zero) out = refl
  rest (suc (suc i)) (inl before) = puts.rest i (inl (omega (arith, before)))
  rest (suc (suc i)) (inr past) = puts.rest i (inr (omega (arith, past)))

  pub put_changes : ChangesItem place (0 ∷ 0 ∷ old.table) (0 ∷ 0 ∷ new.table)
  put_changes = record {
    size = ap (λ (n : ℕ). suc (suc n)) puts.size;
    rest = rest;
  }

  pub put_says : SaysStored (0 ∷ 0 ∷ new.table) place stored
  put_says = record {
    says = record { fits = fits; kind_is = header_word new.table place 1 ∙ puts.kind; payload_is = header_word new.table place 2 ∙ puts.payload };
    spare = header_word new.table place 3 ∙ (puts.rest (item_offset place 3) (inr (omega arith)) ∙ (sym (header_word old.table place 3) ∙ table.spare place low));
  }

-- ---- while a list is written

module _ (class : ℕ) (before now : List Value) (first past : ℕ) (ws : List ℕ) (changing : IsChanging class before now first past ws) where
  mask_low : (p : ℕ) → p < slots class → p ≤ class_mask class
  unfolding slots
  mask_low p low = omega (arith, low)

  pub says : (p : ℕ) → p < slots class → words_at now p ≡ said_at ws p
  says p low = table_says (class_mask class) now ws p changing.table (mask_low p low)

  -- an item more that was put, in the range that may be odd
  pub changing_put : (block other : List ℕ) (zs : List ℕ) (place : ℕ) (stored : Stored) (next : List Value) → PutsItem place stored (record { block = block; table = ws }) (record { block = other; table = zs }) → first ≤ place → place < past → place < slots class → IsListTable (class_mask class) next (0 ∷ 0 ∷ zs) → IsChanging class before next first past zs
  changing_put block other zs place stored next puts from to low table =
      let says_next : (q : ℕ) → q < slots class → words_at next q ≡ said_at zs q = λ q less. table_says (class_mask class) next zs q table (mask_low q less) in
      let same : (q w : ℕ) → q ≢ place → w < 3 → item_field zs q w ≡ item_field ws q w = λ q w ne few. puts.rest (item_offset q w) (elim (cases_lt q place) [ inl less ↦ inl (omega (arith, less, few)) | inr more ↦ inr (omega (arith, more, few, ne)) ]) in
      record {
        table = table;
        shut = λ q less even. elim (cases_eq q place) [
          | inl here ↦ elim puts.version [
            | inl opened ↦ absurd (let odd = opened.0 in let e : item_field zs q 0 ≡ item_field zs place 0 = ap (λ (z : ℕ). item_field zs z 0) here in omega (arith, e, odd, even))
            | inr same_table ↦ says_next q less ∙ (ap (λ (l : List ℕ). said_at l q) same_table ∙ (sym (says q less) ∙ changing.shut q less (ap (λ (l : List ℕ). item_field l q 0 % 2) (sym same_table) ∙ even)))
          ]
          | inr else_ ↦ says_next q less ∙ ((λ d. same q 1 else_ (omega arith) d ∷ same q 2 else_ (omega arith) d ∷ []) ∙ (sym (says q less) ∙ changing.shut q less (ap (λ (n : ℕ). n % 2) (sym (same q 0 else_ (omega arith))) ∙ even)))
        ];
        odd = λ q less one. elim (cases_eq q place) [
          | inl here ↦ (omega (arith, here, from), omega (arith, here, to))
          | inr else_ ↦ changing.odd q less (ap (λ (n : ℕ). n % 2) (sym (same q 0 else_ (omega arith))) ∙ one)
        ];
      }

  -- the version of the first item that may be odd is made even, once the list says what it is to have
  pub changing_closed : VersionsChangeNothing → (b : List ℕ) (new : ContainerWords) (version : ℕ) → before ≡ now → version % 2 ≡ 0 → item_offset first 0 < length ws → new ≡ with_word (record { block = b; table = ws }) first 0 version → IsChanging class before now (suc first) past new.table
  changing_closed versions b new version same even low is =
      let zs = slice_set ws (item_offset first 0) version in
      let else_ : (q : ℕ) → q ≢ first → item_field zs q 0 ≡ item_field ws q 0 = λ q ne. get_or-set_other ws (item_offset first 0) (item_offset q 0) version 0 (λ e. ne (omega (arith, e))) in
      subst (λ (x : ContainerWords). IsChanging class before now (suc first) past x.table) (sym is)
      (record {
        table = subst (λ (z : List ℕ). IsListTable (class_mask class) now z) (after_header ws (layout.item_at first 0) (item_offset first 0) version (omega arith)) (versions (class_mask class) now (0 ∷ 0 ∷ ws) first version changing.table);
        shut = λ q less two. ap (λ (vs : List Value). words_at vs q) (sym same);
        odd = λ q less one. elim (cases_eq q first) [
          | inl here ↦ absurd (let e : item_field zs q 0 ≡ version = ap (λ (z : ℕ). item_field zs z 0) here ∙ get_or-set_same ws (item_offset first 0) version 0 low in omega (arith, e, even, one))
          | inr differ ↦ let o = changing.odd q less (ap (λ (n : ℕ). n % 2) (sym (else_ q differ)) ∙ one) in (let a = o.0 in omega (arith, a, differ), o.1)
        ];
      })

  -- the list has what it is to have, and versions alone are to be made even
  pub changing_only : IsChanging class now now first past ws
  changing_only = record { table = changing.table; shut = λ q less two. refl; odd = changing.odd }

  -- no version is odd
  pub all_shut : past ≤ first → (p : ℕ) → p < slots class → item_field ws p 0 % 2 ≡ 0
  all_shut none p less = elim (cases_eq (item_field ws p 0 % 2) 1) [
    | inl one ↦ let o = changing.odd p less one in absurd (let a = o.0 in let b = o.1 in omega (arith, none, a, b))
    | inr two ↦ omega (arith, two)
  ]
