-- The words of a list's table while its items are put: from what the list had to what it is to have.
use Rattle.std.proofs.Common.{◌≡◌, ◌≢◌, ℕ, zero, suc, ◌+◌, ◌%◌, ◌<◌, ◌≤◌, List, [], ◌∷◌, length, Option, Some, None, refl, sym, ap, ◌∙◌, subst, inl, inr, arith}
use Rattle.std.specs.Prelude.{slice_index_or, slice_get, slice_set}
use Rattle.std.specs.List.{insert, remove}
use Rattle.std.specs.Option.{option_map_or}
use Rattle.std.proofs.lemmas.Bool.{cases_lt, cases_eq}
use Rattle.ft_model.specs.declared.data.Value.{Value}
use Rattle.ft_model.specs.declared.data.Value.TheVariants as value
use Rattle.ft_layout.specs.declared.slot.Stored.{Stored}
use Rattle.ft_layout.specs.declared.slot.Stored.TheVariants.{Empty, Plain}
use Rattle.ft_layout.specs.Words.{FitsStored, IsStored, IsItem, stored_kind, stored_payload}
use Rattle.ft_layout.specs.Tables.{IsListTable}
use Rattle.ft_layout.specs.Tables as layout
use Rattle.ft_layout.specs.Containers.{class_mask}
use Rattle.ft_model.specs.Classes.{IsClass}
use Rattle.ft_layout.proofs.Powers.{slots_range}
use Rattle.ft_trace.specs.Addresses.{slots}
use Rattle.ft_trace.specs.Pictures.{ContainerWords, item_offset, item_field}
use Rattle.ft_trace.specs.ItemWords.{value_words, words_at, said_at, OpensChangedItems}
use Rattle.ft_trace.proofs.Cases.{miss, here}
use Rattle.ft_trace.proofs.Untouched.{there_is}
use Rattle.ft_list.specs.ListItemWrites.{PutsItem, IsChanging, IsPutting, stored_item, but_at, stored_words}
use Rattle.ft_list.specs.Internal.Moving.{IsMoving, IsMovingDown}
use Rattle.ft_list.proofs.PutItems.{header_word, past_end}

by : (found : Option Value) → stored_words (option_map_or Plain found Empty) ≡ option_map_or value_words found (0 ∷ 0 ∷ [])
by None = refl
by (Some value) = refl

-- the words of an item, with the header and without
pub at_words : (ws : List ℕ) (p : ℕ) (s : Stored) → IsItem (layout.item_word (0 ∷ 0 ∷ ws) p) s → IsStored (item_field ws p 1) (item_field ws p 2) s
at_words ws p s is = record { fits = is.fits; kind_is = sym (header_word ws p 1) ∙ is.kind_is; payload_is = sym (header_word ws p 2) ∙ is.payload_is }

from_words : (ws : List ℕ) (p : ℕ) (s : Stored) → IsStored (item_field ws p 1) (item_field ws p 2) s → IsItem (layout.item_word (0 ∷ 0 ∷ ws) p) s
from_words ws p s is = record { fits = is.fits; kind_is = header_word ws p 1 ∙ is.kind_is; payload_is = header_word ws p 2 ∙ is.payload_is }

-- the words at an index are those of what is stored there
pub words_stored : (values : List Value) (p : ℕ) → stored_words (stored_item values p) ≡ words_at values p
words_stored values p = by (slice_get values p)

pub stored_some : (values : List Value) (p : ℕ) (any : Value) → p < length values → stored_item values p ≡ Plain (slice_index_or values p any)
stored_some values p any low = ap (λ (z : Option Value). option_map_or Plain z Empty) (there_is values p any low)

pub stored_none : (values : List Value) (p : ℕ) → length values ≤ p → stored_item values p ≡ Empty
stored_none values p past = ap (λ (z : Option Value). option_map_or Plain z Empty) (past_end values p past)

-- the words say what the list is to have, and the items whose versions are odd are those that change
abbrev pub Changed : ℕ → List Value → List Value → ℕ → ℕ → List ℕ → Type 0
Changed class before news first past ws = IsChanging class before news first past ws × OpensChangedItems (slots class) ws before news

module _ (class : ℕ) (is_class : IsClass class) where
  mask_is : class_mask class + 1 ≡ slots class
  unfolding slots
  mask_is = let r = (slots_range class is_class).0 in omega (arith, r)

  pub list_few : (values : List Value) (words : List ℕ) → IsListTable (class_mask class) values words → length values ≤ slots class
  list_few values words table = let m = mask_is in let f = table.fill in omega (arith, m, f)

  -- nothing was put yet
  pub putting_starts : (values : List Value) (ws : List ℕ) (first past : ℕ) → IsListTable (class_mask class) values (0 ∷ 0 ∷ ws) → ((p : ℕ) → p < slots class → item_field ws p 0 % 2 ≡ 0) → IsPutting class values first past (stored_item values) ws
  putting_starts values ws first past table shut = record {
    size = let s = table.size in omega (arith, s);
    spare = λ p low. let m = mask_is in sym (header_word ws p 3) ∙ table.spare p (omega (arith, low, m));
    items = λ p low. let m = mask_is in elim (cases_lt p (length values)) [
      | inl less ↦ subst (λ (z : Stored). IsStored (item_field ws p 1) (item_field ws p 2) z) (sym (stored_some values p value.Nothing less)) (at_words ws p (Plain (slice_index_or values p value.Nothing)) (table.items p value.Nothing less))
      | inr past_it ↦ subst (λ (z : Stored). IsStored (item_field ws p 1) (item_field ws p 2) z) (sym (stored_none values p past_it)) (at_words ws p Empty (table.unused p past_it (omega (arith, low, m))))
    ];
    shut = λ p low two. words_stored values p;
    opens = λ p low one. let two = shut p low in absurd (omega (arith, one, two));
    odd = λ p low one. let two = shut p low in absurd (omega (arith, one, two));
  }

  -- an item was put where the list stores what it had
  pub putting_put : (before : List Value) (first past : ℕ) (now : ℕ → Stored) (old new : ContainerWords) (place : ℕ) (stored : Stored) → IsPutting class before first past now old.table → PutsItem place stored old new → FitsStored stored → first ≤ place → place < past → now place ≡ stored_item before place → IsPutting class before first past (but_at now place stored) new.table
  putting_put before first past now old new place stored putting puts fits from to fresh =
      let same : (q w : ℕ) → q ≢ place → w < 4 → item_field new.table q w ≡ item_field old.table q w = λ q w ne few. puts.rest (item_offset q w) (elim (cases_lt q place) [ inl less ↦ inl (omega (arith, less, few)) | inr more ↦ inr (omega (arith, more, few, ne)) ]) in
      let now_else : (q : ℕ) → q ≢ place → but_at now place stored q ≡ now q = λ q ne. miss q place stored (now q) ne in
      let now_here : (q : ℕ) → q ≡ place → but_at now place stored q ≡ stored = λ q e. here q place stored (now q) e in
      record {
        size = let s = puts.size in let z = putting.size in omega (arith, s, z);
        spare = λ q low. elim (cases_eq q place) [
          | inl e ↦ puts.rest (item_offset q 3) (inr (omega (arith, e))) ∙ putting.spare q low
          | inr ne ↦ same q 3 ne (omega arith) ∙ putting.spare q low
        ];
        items = λ q low. elim (cases_eq q place) [
          | inl e ↦ subst (λ (z : Stored). IsStored (item_field new.table q 1) (item_field new.table q 2) z) (sym (now_here q e)) (subst (λ (n : ℕ). IsStored (item_field new.table n 1) (item_field new.table n 2) stored) (sym e) (record { fits = fits; kind_is = puts.kind; payload_is = puts.payload }))
          | inr ne ↦ subst (λ (z : Stored). IsStored (item_field new.table q 1) (item_field new.table q 2) z) (sym (now_else q ne)) (subst (λ (x : ℕ × ℕ). IsStored x.0 x.1 (now q)) (λ d. (sym (same q 1 ne (omega arith)) d, sym (same q 2 ne (omega arith)) d)) (putting.items q low))
        ];
        shut = λ q low two. elim (cases_eq q place) [
          | inl e ↦ elim puts.version [
            | inl opened ↦ absurd (let one = opened.0 in let v : item_field new.table q 0 ≡ item_field new.table place 0 = ap (λ (z : ℕ). item_field new.table z 0) e in omega (arith, v, one, two))
            | inr table ↦
                let was = putting.items q low in
                let k1 : stored_kind stored ≡ stored_kind (now q) = sym puts.kind ∙ (ap (λ (l : List ℕ). item_field l place 1) table ∙ (ap (λ (n : ℕ). item_field old.table n 1) (sym e) ∙ was.kind_is)) in
                let p1 : stored_payload stored ≡ stored_payload (now q) = sym puts.payload ∙ (ap (λ (l : List ℕ). item_field l place 2) table ∙ (ap (λ (n : ℕ). item_field old.table n 2) (sym e) ∙ was.payload_is)) in
                ap stored_words (now_here q e) ∙ ((λ d. k1 d ∷ p1 d ∷ []) ∙ putting.shut q low (ap (λ (l : List ℕ). item_field l q 0 % 2) (sym table) ∙ two))
          ]
          | inr ne ↦ ap stored_words (now_else q ne) ∙ putting.shut q low (ap (λ (n : ℕ). n % 2) (sym (same q 0 ne (omega arith))) ∙ two)
        ];
        opens = λ q low one. elim (cases_eq q place) [
          | inl e ↦ elim puts.version [
            | inl opened ↦ λ as_before.
                let was = putting.items place (subst (λ (n : ℕ). n < slots class) e low) in
                let words : words_at before place ≡ said_at old.table place = sym (words_stored before place) ∙ (ap stored_words (sym fresh) ∙ (λ d. sym was.kind_is d ∷ sym was.payload_is d ∷ [])) in
                opened.1 (ap stored_words (sym (now_here q e)) ∙ (as_before ∙ (ap (λ (n : ℕ). words_at before n) e ∙ words)))
            | inr table ↦ λ as_before.
                let was = putting.items q low in
                let k1 : stored_kind (now q) ≡ stored_kind stored = sym was.kind_is ∙ (ap (λ (n : ℕ). item_field old.table n 1) e ∙ (ap (λ (l : List ℕ). item_field l place 1) (sym table) ∙ puts.kind)) in
                let p1 : stored_payload (now q) ≡ stored_payload stored = sym was.payload_is ∙ (ap (λ (n : ℕ). item_field old.table n 2) e ∙ (ap (λ (l : List ℕ). item_field l place 2) (sym table) ∙ puts.payload)) in
                putting.opens q low (ap (λ (l : List ℕ). item_field l q 0 % 2) (sym table) ∙ one) ((λ d. k1 d ∷ p1 d ∷ []) ∙ (ap stored_words (sym (now_here q e)) ∙ as_before))
          ]
          | inr ne ↦ λ as_before. putting.opens q low (ap (λ (n : ℕ). n % 2) (sym (same q 0 ne (omega arith))) ∙ one) (ap stored_words (sym (now_else q ne)) ∙ as_before)
        ];
        odd = λ q low one. elim (cases_eq q place) [
          | inl e ↦ (omega (arith, e, from), omega (arith, e, to))
          | inr ne ↦ putting.odd q low (ap (λ (n : ℕ). n % 2) (sym (same q 0 ne (omega arith))) ∙ one)
        ];
      }

  -- an item was put again, whose version is odd, and stores something else than the list had
  pub putting_again : (before : List Value) (first past : ℕ) (now : ℕ → Stored) (old new : ContainerWords) (place : ℕ) (stored : Stored) → IsPutting class before first past now old.table → PutsItem place stored old new → FitsStored stored → item_field old.table place 0 % 2 ≡ 1 → stored_words stored ≢ words_at before place → IsPutting class before first past (but_at now place stored) new.table
  putting_again before first past now old new place stored putting puts fits was other =
      let same : (q w : ℕ) → q ≢ place → w < 4 → item_field new.table q w ≡ item_field old.table q w = λ q w ne few. puts.rest (item_offset q w) (elim (cases_lt q place) [ inl less ↦ inl (omega (arith, less, few)) | inr more ↦ inr (omega (arith, more, few, ne)) ]) in
      let now_else : (q : ℕ) → q ≢ place → but_at now place stored q ≡ now q = λ q ne. miss q place stored (now q) ne in
      let now_here : (q : ℕ) → q ≡ place → but_at now place stored q ≡ stored = λ q e. here q place stored (now q) e in
      let odd_now : item_field new.table place 0 % 2 ≡ 1 = elim puts.version [
        | inl opened ↦ opened.0
        | inr table ↦ ap (λ (l : List ℕ). item_field l place 0 % 2) table ∙ was
      ] in
      record {
        size = let s = puts.size in let z = putting.size in omega (arith, s, z);
        spare = λ q low. elim (cases_eq q place) [
          | inl e ↦ puts.rest (item_offset q 3) (inr (omega (arith, e))) ∙ putting.spare q low
          | inr ne ↦ same q 3 ne (omega arith) ∙ putting.spare q low
        ];
        items = λ q low. elim (cases_eq q place) [
          | inl e ↦ subst (λ (z : Stored). IsStored (item_field new.table q 1) (item_field new.table q 2) z) (sym (now_here q e)) (subst (λ (n : ℕ). IsStored (item_field new.table n 1) (item_field new.table n 2) stored) (sym e) (record { fits = fits; kind_is = puts.kind; payload_is = puts.payload }))
          | inr ne ↦ subst (λ (z : Stored). IsStored (item_field new.table q 1) (item_field new.table q 2) z) (sym (now_else q ne)) (subst (λ (x : ℕ × ℕ). IsStored x.0 x.1 (now q)) (λ d. (sym (same q 1 ne (omega arith)) d, sym (same q 2 ne (omega arith)) d)) (putting.items q low))
        ];
        shut = λ q low two. elim (cases_eq q place) [
          | inl e ↦ absurd (let v : item_field new.table q 0 ≡ item_field new.table place 0 = ap (λ (z : ℕ). item_field new.table z 0) e in omega (arith, v, odd_now, two))
          | inr ne ↦ ap stored_words (now_else q ne) ∙ putting.shut q low (ap (λ (n : ℕ). n % 2) (sym (same q 0 ne (omega arith))) ∙ two)
        ];
        opens = λ q low one. elim (cases_eq q place) [
          | inl e ↦ λ as_before. other (ap stored_words (sym (now_here q e)) ∙ (as_before ∙ ap (λ (n : ℕ). words_at before n) e))
          | inr ne ↦ λ as_before. putting.opens q low (ap (λ (n : ℕ). n % 2) (sym (same q 0 ne (omega arith))) ∙ one) (ap stored_words (sym (now_else q ne)) ∙ as_before)
        ];
        odd = λ q low one. elim (cases_eq q place) [
          | inl e ↦ putting.odd q low (ap (λ (n : ℕ). item_field old.table n 0 % 2) e ∙ was)
          | inr ne ↦ putting.odd q low (ap (λ (n : ℕ). n % 2) (sym (same q 0 ne (omega arith))) ∙ one)
        ];
      }

  -- all items are those that the list is to have
  pub putting_ends : (before news : List Value) (first past : ℕ) (now : ℕ → Stored) (ws : List ℕ) → IsPutting class before first past now ws → length news ≤ slots class → ((p : ℕ) → p < slots class → now p ≡ stored_item news p) → Changed class before news first past ws
  putting_ends before news first past now ws putting few all =
      let m = mask_is in
      let size = putting.size in (
        record {
          table = record {
            size = omega (arith, size);
            head = refl;
            spare = λ p low. header_word ws p 3 ∙ putting.spare p (omega (arith, low, m));
            fill = omega (arith, few, m);
            items = λ p any less. from_words ws p (Plain (slice_index_or news p any)) (subst (λ (z : Stored). IsStored (item_field ws p 1) (item_field ws p 2) z) (all p (omega (arith, less, few)) ∙ stored_some news p any less) (putting.items p (omega (arith, less, few))));
            unused = λ p past_it low. from_words ws p Empty (subst (λ (z : Stored). IsStored (item_field ws p 1) (item_field ws p 2) z) (all p (omega (arith, low, m)) ∙ stored_none news p past_it) (putting.items p (omega (arith, low, m))));
          };
          shut = λ p low two. sym (words_stored news p) ∙ (ap stored_words (sym (all p low)) ∙ putting.shut p low two);
          odd = putting.odd;
        },
        λ p low one as_before. putting.opens p low one (ap stored_words (all p low) ∙ (words_stored news p ∙ as_before)),
      )

-- ---- what a list stores once one of its values is another

get_set_same : (values : List Value) (p : ℕ) (value : Value) → p < length values → slice_get (slice_set values p value) p ≡ Some value
get_set_same [] p value low = absurd (omega (arith, low))
get_set_same (x ∷ xs) zero value low = refl
get_set_same (x ∷ xs) (suc p) value low = get_set_same xs p value (omega (arith, low))

get_set_other : (values : List Value) (p q : ℕ) (value : Value) → q ≢ p → slice_get (slice_set values p value) q ≡ slice_get values q
get_set_other [] p q value ne = refl
get_set_other (x ∷ xs) zero zero value ne = absurd (ne refl)
get_set_other (x ∷ xs) zero (suc q) value ne = refl
get_set_other (x ∷ xs) (suc p) zero value ne = refl
get_set_other (x ∷ xs) (suc p) (suc q) value ne = get_set_other xs p q value (λ e. ne (ap suc e))

pub stored_set : (values : List Value) (p q : ℕ) (value : Value) → p < length values → but_at (stored_item values) p (Plain value) q ≡ stored_item (slice_set values p value) q
stored_set values p q value low = elim (cases_eq q p) [
  | inl e ↦ here q p (Plain value) (stored_item values q) e ∙ sym (ap (λ (n : ℕ). stored_item (slice_set values p value) n) e ∙ ap (λ (z : Option Value). option_map_or Plain z Empty) (get_set_same values p value low))
  | inr ne ↦ miss q p (Plain value) (stored_item values q) ne ∙ sym (ap (λ (z : Option Value). option_map_or Plain z Empty) (get_set_other values p q value ne))
]

-- ---- items that are put in order

module _ (class : ℕ) (is_class : IsClass class) (values news : List Value) (first past : ℕ) where
  pub moving_starts : (at : ℕ) (ws : List ℕ) → IsPutting class values first past (stored_item values) ws → ((p : ℕ) → p < at → stored_item values p ≡ stored_item news p) → IsMoving class values news first past at ws
  moving_starts at ws putting same = record { now = stored_item values; putting = putting; done = same; rest = λ p from. refl }

  -- what the next item stores
  pub moving_finds : (at : ℕ) (ws : List ℕ) → IsMoving class values news first past at ws → at < slots class → IsStored (item_field ws at 1) (item_field ws at 2) (stored_item values at)
  moving_finds at ws moving low = subst (λ (z : Stored). IsStored (item_field ws at 1) (item_field ws at 2) z) (moving.rest at (omega arith)) (moving.putting.items at low)

  pub moving_further : (at q : ℕ) (ws : List ℕ) → IsMoving class values news first past at ws → at ≤ q → q < slots class → IsStored (item_field ws q 1) (item_field ws q 2) (stored_item values q)
  moving_further at q ws moving from low = subst (λ (z : Stored). IsStored (item_field ws q 1) (item_field ws q 2) z) (moving.rest q from) (moving.putting.items q low)

  pub moving_next : (at : ℕ) (old new : ContainerWords) (stored : Stored) → IsMoving class values news first past at old.table → PutsItem at stored old new → FitsStored stored → stored ≡ stored_item news at → first ≤ at → at < past → IsMoving class values news first past (at + 1) new.table
  moving_next at old new stored moving puts fits is from to = record {
    now = but_at moving.now at stored;
    putting = putting_put class is_class values first past moving.now old new at stored moving.putting puts fits from to (moving.rest at (omega arith));
    done = λ p low. elim (cases_eq p at) [
      | inl e ↦ here p at stored (moving.now p) e ∙ (is ∙ ap (λ (n : ℕ). stored_item news n) (sym e))
      | inr ne ↦ miss p at stored (moving.now p) ne ∙ moving.done p (omega (arith, low, ne))
    ];
    rest = λ p more. miss p at stored (moving.now p) (λ e. omega (arith, more, e)) ∙ moving.rest p (omega (arith, more));
  }

  pub moving_ends : (at : ℕ) (ws : List ℕ) → IsMoving class values news first past at ws → length news ≤ slots class → ((p : ℕ) → at ≤ p → stored_item values p ≡ stored_item news p) → Changed class values news first past ws
  moving_ends at ws moving few same = putting_ends class is_class values news first past moving.now ws moving.putting few
      (λ p low. elim (cases_lt p at) [ inl less ↦ moving.done p less | inr more ↦ moving.rest p more ∙ same p more ])

-- ---- what a list stores after an insertion, and after a removal

get_insert_low : (values : List Value) (i q : ℕ) (value : Value) → q < i → i ≤ length values → slice_get (insert values i value) q ≡ slice_get values q
get_insert_low [] i q value less low = absurd (omega (arith, less, low))
get_insert_low (x ∷ xs) zero q value less low = absurd (omega (arith, less))
get_insert_low (x ∷ xs) (suc i) zero value less low = refl
get_insert_low (x ∷ xs) (suc i) (suc q) value less low = get_insert_low xs i q value (omega (arith, less)) (omega (arith, low))

get_insert_here : (values : List Value) (i : ℕ) (value : Value) → i ≤ length values → slice_get (insert values i value) i ≡ Some value
get_insert_here [] zero value low = refl
get_insert_here [] (suc i) value low = absurd (omega (arith, low))
get_insert_here (x ∷ xs) zero value low = refl
get_insert_here (x ∷ xs) (suc i) value low = get_insert_here xs i value (omega (arith, low))

get_insert_past : (values : List Value) (i q : ℕ) (value : Value) → i ≤ q → i ≤ length values → slice_get (insert values i value) (suc q) ≡ slice_get values q
get_insert_past [] zero zero value from low = refl
get_insert_past [] zero (suc q) value from low = refl
get_insert_past [] (suc i) q value from low = absurd (omega (arith, low))
get_insert_past (x ∷ xs) zero q value from low = refl
get_insert_past (x ∷ xs) (suc i) zero value from low = absurd (omega (arith, from))
get_insert_past (x ∷ xs) (suc i) (suc q) value from low = get_insert_past xs i q value (omega (arith, from)) (omega (arith, low))

get_remove_low : (values : List Value) (i q : ℕ) → q < i → i < length values → slice_get (remove values i) q ≡ slice_get values q
get_remove_low [] i q less low = absurd (omega (arith, low))
get_remove_low (x ∷ xs) zero q less low = absurd (omega (arith, less))
get_remove_low (x ∷ xs) (suc i) zero less low = refl
get_remove_low (x ∷ xs) (suc i) (suc q) less low = get_remove_low xs i q (omega (arith, less)) (omega (arith, low))

get_remove_past : (values : List Value) (i q : ℕ) → i ≤ q → i < length values → slice_get (remove values i) q ≡ slice_get values (suc q)
get_remove_past [] i q from low = absurd (omega (arith, low))
get_remove_past (x ∷ xs) zero q from low = refl
get_remove_past (x ∷ xs) (suc i) zero from low = absurd (omega (arith, from))
get_remove_past (x ∷ xs) (suc i) (suc q) from low = get_remove_past xs i q (omega (arith, from)) (omega (arith, low))

pub long_remove : (values : List Value) (i : ℕ) → i < length values → length (remove values i) + 1 ≡ length values
long_remove [] i low = absurd (omega (arith, low))
long_remove (x ∷ xs) zero low = omega arith
long_remove (x ∷ xs) (suc i) low = let e = long_remove xs i (omega (arith, low)) in omega (arith, e)

pub stored_by : (values news : List Value) (p q : ℕ) → slice_get news q ≡ slice_get values p → stored_item values p ≡ stored_item news q
stored_by values news p q e = ap (λ (z : Option Value). option_map_or Plain z Empty) (sym e)

pub insert_low : (values : List Value) (i : ℕ) (value : Value) (q : ℕ) → i ≤ length values → q < i → stored_item values q ≡ stored_item (insert values i value) q
insert_low values i value q low less = stored_by values (insert values i value) q q (get_insert_low values i q value less low)

pub insert_here : (values : List Value) (i : ℕ) (value : Value) → i ≤ length values → Plain value ≡ stored_item (insert values i value) i
insert_here values i value low = ap (λ (z : Option Value). option_map_or Plain z Empty) (sym (get_insert_here values i value low))

pub insert_past : (values : List Value) (i : ℕ) (value : Value) (q : ℕ) → i ≤ length values → i ≤ q → stored_item values q ≡ stored_item (insert values i value) (q + 1)
insert_past values i value q low from = let n : suc q ≡ q + 1 = omega arith in stored_by values (insert values i value) q (suc q) (get_insert_past values i q value from low) ∙ ap (λ (z : ℕ). stored_item (insert values i value) z) n

pub remove_low : (values : List Value) (i q : ℕ) → i < length values → q < i → stored_item values q ≡ stored_item (remove values i) q
remove_low values i q low less = stored_by values (remove values i) q q (get_remove_low values i q less low)

pub remove_past : (values : List Value) (i q : ℕ) → i < length values → i ≤ q → stored_item values (q + 1) ≡ stored_item (remove values i) q
remove_past values i q low from = let n : suc q ≡ q + 1 = omega arith in ap (λ (z : ℕ). stored_item values z) (sym n) ∙ stored_by values (remove values i) (suc q) q (get_remove_past values i q from low)

-- ---- items that are put in order from the last one down

module _ (class : ℕ) (is_class : IsClass class) (values news : List Value) (first past : ℕ) where
  pub down_finds : (at : ℕ) (ws : List ℕ) → IsMovingDown class values news first past (at + 1) ws → at < slots class → IsStored (item_field ws at 1) (item_field ws at 2) (stored_item values at)
  down_finds at ws moving low = subst (λ (z : Stored). IsStored (item_field ws at 1) (item_field ws at 2) z) (moving.rest at (omega arith)) (moving.putting.items at low)

  pub down_next : (at : ℕ) (old new : ContainerWords) (stored : Stored) → IsMovingDown class values news first past (at + 1) old.table → PutsItem at stored old new → FitsStored stored → stored ≡ stored_item news at → first ≤ at → at < past → IsMovingDown class values news first past at new.table
  down_next at old new stored moving puts fits is from to = record {
    now = but_at moving.now at stored;
    putting = putting_put class is_class values first past moving.now old new at stored moving.putting puts fits from to (moving.rest at (omega arith));
    done = λ p up. elim (cases_eq p at) [
      | inl e ↦ here p at stored (moving.now p) e ∙ (is ∙ ap (λ (n : ℕ). stored_item news n) (sym e))
      | inr ne ↦ miss p at stored (moving.now p) ne ∙ moving.done p (omega (arith, up, ne))
    ];
    rest = λ p less. miss p at stored (moving.now p) (λ e. omega (arith, less, e)) ∙ moving.rest p (omega (arith, less));
  }

-- one item is taken out of a list of that many
module _ (class : ℕ) (is_class : IsClass class) (values : List Value) (place count : ℕ) where
  none_past : place < length values → length values ≡ count → (p : ℕ) → count ≤ p → stored_item values p ≡ stored_item (remove values place) p
  none_past low long p up =
      let l = long_remove values place low in
      stored_none values p (omega (arith, up, long)) ∙ sym (stored_none (remove values place) p (omega (arith, up, long, l)))

  pub down_starts : (at : ℕ) (ws : List ℕ) → IsPutting class values place count (stored_item values) ws → place < length values → length values ≡ at → IsMovingDown class values (remove values place) place count at ws
  down_starts at ws putting low long = record {
    now = stored_item values;
    putting = putting;
    done = λ p up. let l = long_remove values place low in stored_none values p (omega (arith, up, long)) ∙ sym (stored_none (remove values place) p (omega (arith, up, long, l)));
    rest = λ p less. refl;
  }

  pub down_ends : (ws : List ℕ) → IsMovingDown class values (remove values place) place count place ws → place < length values → length values ≡ count → IsMoving class values (remove values place) place count count ws
  down_ends ws moving low long = record {
    now = moving.now;
    putting = moving.putting;
    done = λ p less. elim (cases_lt p place) [
      | inl before ↦ moving.rest p before ∙ remove_low values place p low before
      | inr from ↦ moving.done p from
    ];
    rest = λ p up. moving.done p (omega (arith, up, low, long)) ∙ sym (none_past low long p up);
  }
