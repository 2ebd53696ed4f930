-- The words of a table that is filled with what a list has.
use Rattle.std.proofs.Common.{◌≡◌, ◌≢◌, ℕ, ◌+◌, ◌<◌, ◌≤◌, List, [], ◌∷◌, length, Option, sym, ap, ◌∙◌, subst, inl, inr, arith, length-set, get_or-set_same, get_or-set_other}
use Rattle.std.specs.Prelude.{slice_set}
use Rattle.std.proofs.lemmas.Bool.{cases_eq}
use Rattle.ft_model.specs.declared.data.Value.{Value}
use Rattle.ft_model.specs.Classes.{IsClass}
use Rattle.ft_layout.specs.Containers.{class_mask}
use Rattle.ft_layout.specs.Tables.{table_length}
use Rattle.ft_layout.proofs.FieldLaws.{sizes_of_class}
use Rattle.ft_trace.specs.Addresses.{slots, places, size}
use Rattle.ft_trace.specs.Pictures.{item_offset, item_field}
use Rattle.ft_trace.specs.ItemWords.{ItemSound, words_at, said_at}
use Rattle.ft_trace.proofs.ByKind.{items_fit}
use Rattle.ft_bank.specs.declared.table.Table.{Table}
use Rattle.ft_list.specs.ListItemWrites.{IsPutting, stored_item}
use Rattle.ft_list.specs.Internal.NewListTables.{CopiesItem, IsCopied, IsFilled, with_new_item}
use Rattle.ft_list.proofs.ItemWordsPut.{words_stored}

-- ---- one item

module _ (ws : List ℕ) (place kind payload : ℕ) (low : item_offset place 3 < length ws) where
  abbrev one : List ℕ
  one = slice_set ws (item_offset place 0) 0

  abbrev two : List ℕ
  two = slice_set one (item_offset place 1) kind

  abbrev three : List ℕ
  three = slice_set two (item_offset place 2) payload

  abbrev four : List ℕ
  four = with_new_item ws place kind payload

  long_one : length one ≡ length ws
  long_one = length-set ws (item_offset place 0) 0

  long_two : length two ≡ length ws
  long_two = length-set one (item_offset place 1) kind ∙ long_one

  long_three : length three ≡ length ws
  long_three = length-set two (item_offset place 2) payload ∙ long_two

  pub long_four : length four ≡ length ws
  long_four = length-set three (item_offset place 3) 0 ∙ long_three

  -- each word of another item is as it was
  pub else_four : (q w : ℕ) → q ≢ place → w < 4 → item_field four q w ≡ item_field ws q w
  else_four q w ne few =
      get_or-set_other three (item_offset place 3) (item_offset q w) 0 0 (λ e. ne (omega (arith, e, few)))
      ∙ (get_or-set_other two (item_offset place 2) (item_offset q w) payload 0 (λ e. ne (omega (arith, e, few)))
      ∙ (get_or-set_other one (item_offset place 1) (item_offset q w) kind 0 (λ e. ne (omega (arith, e, few)))
      ∙ get_or-set_other ws (item_offset place 0) (item_offset q w) 0 0 (λ e. ne (omega (arith, e, few)))))

  pub version_four : item_field four place 0 ≡ 0
  version_four =
      get_or-set_other three (item_offset place 3) (item_offset place 0) 0 0 (λ e. omega (arith, e))
      ∙ (get_or-set_other two (item_offset place 2) (item_offset place 0) payload 0 (λ e. omega (arith, e))
      ∙ (get_or-set_other one (item_offset place 1) (item_offset place 0) kind 0 (λ e. omega (arith, e))
      ∙ get_or-set_same ws (item_offset place 0) 0 0 (omega (arith, low))))

  pub kind_four : item_field four place 1 ≡ kind
  kind_four =
      get_or-set_other three (item_offset place 3) (item_offset place 1) 0 0 (λ e. omega (arith, e))
      ∙ (get_or-set_other two (item_offset place 2) (item_offset place 1) payload 0 (λ e. omega (arith, e))
      ∙ (let l = long_one in get_or-set_same one (item_offset place 1) kind 0 (omega (arith, low, l))))

  pub payload_four : item_field four place 2 ≡ payload
  payload_four =
      get_or-set_other three (item_offset place 3) (item_offset place 2) 0 0 (λ e. omega (arith, e))
      ∙ (let l = long_two in get_or-set_same two (item_offset place 2) payload 0 (omega (arith, low, l)))

  pub spare_four : item_field four place 3 ≡ 0
  spare_four = let l = long_three in get_or-set_same three (item_offset place 3) 0 0 (omega (arith, low, l))

-- ---- all items

module _ (old : Option Table) (from : List ℕ) (class : ℕ) (is_class : IsClass class) where
  pub copied_none : (ws : List ℕ) → length ws ≡ size class → IsCopied old from class 0 ws
  copied_none ws long = record {
    long = long;
    version = λ p low. absurd (omega (arith, low));
    copies = λ p low. absurd (omega (arith, low));
    spare = λ p low. absurd (omega (arith, low));
  }

  pub copied_next : (place : ℕ) (ws : List ℕ) (kind payload : ℕ) → IsCopied old from class place ws → place < slots class → CopiesItem old from place kind payload → IsCopied old from class (place + 1) (with_new_item ws place kind payload)
  copied_next place ws kind payload is low copies =
      let f = items_fit class is_class in
      let l = is.long in
      let there : item_offset place 3 < length ws = omega (arith, f, l, low) in
      let new = with_new_item ws place kind payload in
      record {
        long = long_four ws place kind payload there ∙ is.long;
        version = λ p less. elim (cases_eq p place) [
          | inl e ↦ ap (λ (n : ℕ). item_field new n 0) e ∙ version_four ws place kind payload there
          | inr ne ↦ else_four ws place kind payload there p 0 ne (omega arith) ∙ is.version p (omega (arith, less, ne))
        ];
        copies = λ p less. elim (cases_eq p place) [
          | inl e ↦
              subst (λ (n : ℕ). CopiesItem old from n (item_field new n 1) (item_field new n 2)) (sym e)
              (subst (λ (x : ℕ × ℕ). CopiesItem old from place x.0 x.1) (λ d. (sym (kind_four ws place kind payload there) d, sym (payload_four ws place kind payload there) d)) copies)
          | inr ne ↦
              subst (λ (x : ℕ × ℕ). CopiesItem old from p x.0 x.1) (λ d. (sym (else_four ws place kind payload there p 1 ne (omega arith)) d, sym (else_four ws place kind payload there p 2 ne (omega arith)) d))
              (is.copies p (omega (arith, less, ne)))
        ];
        spare = λ p less. elim (cases_eq p place) [
          | inl e ↦ ap (λ (n : ℕ). item_field new n 3) e ∙ spare_four ws place kind payload there
          | inr ne ↦ else_four ws place kind payload there p 3 ne (omega arith) ∙ is.spare p (omega (arith, less, ne))
        ];
      }

module _ (class : ℕ) (is_class : IsClass class) (values : List Value) where
  -- a table is as long as its class says
  pub words_of_class : size class + 2 ≡ table_length (class_mask class)
  unfolding slots places
  words_of_class = let s = sizes_of_class class is_class in let d = s.0 in let m = s.2 in omega (arith, d, m)

  module _ (ws : List ℕ) (is : IsFilled class values (slots class) ws) where
    pub filled_says : (p : ℕ) → p < slots class → words_at values p ≡ said_at ws p
    filled_says p low =
        let s = is.items p low in
        sym (words_stored values p) ∙ (λ d. sym s.kind_is d ∷ sym s.payload_is d ∷ [])

    -- the table of a list that puts no item yet
    pub filled_putting : (first past : ℕ) → IsPutting class values first past (stored_item values) ws
    filled_putting first past = record {
      size = ap (λ (n : ℕ). n + 2) is.long ∙ words_of_class;
      spare = is.spare;
      items = is.items;
      shut = λ p low two. words_stored values p;
      opens = λ p low one. let z = is.version p low in absurd (omega (arith, one, z));
      odd = λ p low one. let z = is.version p low in absurd (omega (arith, one, z));
    }

    -- and readers find in it what the list has
    pub filled_sound : length values ≤ slots class → ItemSound (slots class) ws values
    filled_sound room = record { right = λ p low two. filled_says p low; short = room }
