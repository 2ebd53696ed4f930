-- What a list's table holds after one of its items changed, and how items move by one.
use Rattle.std.proofs.Common.{◌≡◌, ◌≢◌, ℕ, zero, suc, ◌+◌, ◌<◌, ◌≤◌, List, [], ◌∷◌, ◌++◌, length, get_or, set, refl, sym, ap, ◌∙◌, subst, inl, inr, arith}
use Rattle.std.specs.Prelude.{Some, slice_get, insert, remove}
use Rattle.std.proofs.lemmas.Bool.{cases_lt, cases_eq}
use Rattle.std.proofs.lemmas.List.{length-set, length_push, get_or-set_same, get_or-set_other, get_or_append_left, get_or_push}
use Rattle.ft_model.specs.declared.data.Value.{Value}
use Rattle.ft_layout.specs.declared.slot.Stored.{Stored}
use Rattle.ft_layout.specs.declared.slot.Stored.TheVariants.{Empty, Plain}
use Rattle.ft_layout.specs.Words.{IsItem}
use Rattle.ft_layout.specs.Tables.{item_at, item_word, IsListTable}
use Rattle.ft_layout.specs.WordChanges.{IsBlankTable, ChangesItem, SaysStored}
use Rattle.ft_layout.specs.Containers.{class_mask, IsBlock, IsListWords}
use Rattle.ft_layout.proofs.FollowLaws.{there}

pub item_moves : (f g : ℕ → ℕ) → ((w : ℕ) → 1 ≤ w → w < 3 → g w ≡ f w) → (s : Stored) → IsItem f s → IsItem g s
item_moves f g same s is = record { fits = is.fits; kind_is = same 1 (omega arith) (omega arith) ∙ is.kind_is; payload_is = same 2 (omega arith) (omega arith) ∙ is.payload_is }

pub empty_list_table : (mask : ℕ) (words : List ℕ) → IsBlankTable mask words → IsListTable mask [] words
empty_list_table mask words blank = record {
  size = blank.size;
  head = blank.zeros 0 (inl (omega arith));
  spare = λ place low. blank.zeros (item_at place 3) (inr (omega arith));
  fill = omega arith;
  items = λ place any low. absurd (omega arith);
  unused = λ place past low. record { fits = tt; kind_is = blank.zeros (item_at place 1) (inr (omega arith)); payload_is = blank.zeros (item_at place 2) (inr (omega arith)) };
}

-- ---- one item changes

module _ (mask : ℕ) (values : List Value) (old new : List ℕ) (table : IsListTable mask values old) (place : ℕ) (changes : ChangesItem place old new) where
  still : (p w : ℕ) → p ≢ place → w < 4 → item_word new p w ≡ item_word old p w
  still p w ne small =
      changes.rest (item_at p w)
      (elim (cases_lt p place) [
        | inl before ↦ inl (omega arith)
        | inr past ↦ inr (omega arith)
      ])

  -- other items are as they were, and the one at the place is as the words say
  changed_list : (news : List Value) → length news ≤ mask + 1 → ((p : ℕ) (any : Value) → p ≢ place → p < length news → (p < length values) × (get_or news p any ≡ get_or values p any)) → ((p : ℕ) → p ≢ place → length news ≤ p → length values ≤ p)
      → (stored : Stored) → SaysStored new place stored → ((any : Value) → place < length news → stored ≡ Plain (get_or news place any)) → (length news ≤ place → stored ≡ Empty) → IsListTable mask news new
  changed_list news fits kept rest stored now here none = record {
    size = changes.size ∙ table.size;
    head = changes.rest 0 (inl (omega arith)) ∙ table.head;
    spare = λ p low. elim (cases_eq p place) [
      | inl same ↦ rw same now.spare
      | inr differ ↦ still p 3 differ (omega arith) ∙ table.spare p low
    ];
    fill = fits;
    items = λ p any low. elim (cases_eq p place) [
      | inl same ↦ subst (λ (q : ℕ). IsItem (item_word new q) (Plain (get_or news q any))) (sym same) (subst (λ (s : Stored). IsItem (item_word new place) s) (here any (omega arith)) now.says)
      | inr differ ↦
          let k = kept p any differ low in
          subst (λ (v : Value). IsItem (item_word new p) (Plain v)) (sym k.1) (item_moves (item_word old p) (item_word new p) (λ w _ few. still p w differ (omega (arith, few))) (Plain (get_or values p any)) (table.items p any k.0))
    ];
    unused = λ p past low. elim (cases_eq p place) [
      | inl same ↦ subst (λ (q : ℕ). IsItem (item_word new q) Empty) (sym same) (subst (λ (s : Stored). IsItem (item_word new place) s) (none (omega arith)) now.says)
      | inr differ ↦ item_moves (item_word old p) (item_word new p) (λ w _ few. still p w differ (omega (arith, few))) Empty (table.unused p (rest p differ past) low)
    ];
  }

  pub put_item : (value : Value) → place < length values → SaysStored new place (Plain value) → IsListTable mask (set values place value) new
  put_item value low now =
      let long = length-set values place value in
      let fill = table.fill in
      changed_list (set values place value) (omega (arith, long, fill))
      (λ p any differ less. (omega (arith, long, less), get_or-set_other values place p value any differ))
      (λ p differ past. omega (arith, long, past))
      (Plain value) now
      (λ any _. ap Plain (sym (get_or-set_same values place value any low)))
      (λ past. absurd (omega (arith, long, past)))

  pub append_item : (value : Value) → place ≡ length values → length values ≤ mask → SaysStored new place (Plain value) → IsListTable mask (values ++ value ∷ []) new
  append_item value at room now =
      let long = length_push values value in
      changed_list (values ++ value ∷ []) (omega (arith, long))
      (λ p any differ less. let low : p < length values = omega (arith, long, at) in (low, get_or_append_left values (value ∷ []) any p low))
      (λ p differ past. omega (arith, long, past))
      (Plain value) now
      (λ any _. ap Plain (sym (get_or_push values value any place (sym at))))
      (λ past. absurd (omega (arith, long, past, at)))

-- the last item is taken out
pub drop_item : (mask : ℕ) (values : List Value) (value : Value) (old new : List ℕ) → IsListTable mask (values ++ value ∷ []) old → ChangesItem (length values) old new → SaysStored new (length values) Empty → IsListTable mask values new
drop_item mask values value old new table changes now =
    let long = length_push values value in
    let fill = table.fill in
    changed_list mask (values ++ value ∷ []) old new table (length values) changes values (omega (arith, long, fill))
    (λ p any differ less. (omega (arith, long), sym (get_or_append_left values (value ∷ []) any p less)))
    (λ p differ past. omega (arith, long, past))
    Empty now
    (λ any low. absurd (omega arith))
    (λ _. refl)

-- ---- items move by one

-- `insert` at a place, where the item there was moved up, and after the item there was put over the one before
insert_up : {X : Type 0} (xs : List X) (i : ℕ) (x y : X) → slice_get xs i ≡ Some x → set (insert xs (suc i) x) i y ≡ insert xs i y
insert_up [] i x y e = absurd cc
insert_up (z ∷ xs) zero x y e = let same : x ≡ z = cc in ap (λ (v : _). y ∷ v ∷ xs) same
insert_up (z ∷ xs) (suc i) x y e = ap (λ (ys : List _). z ∷ ys) (insert_up xs i x y e)

insert_down : {X : Type 0} (xs : List X) (i : ℕ) (x y : X) → slice_get xs i ≡ Some x → set (insert xs i y) i x ≡ insert xs (suc i) x
insert_down [] i x y e = absurd cc
insert_down (z ∷ xs) zero x y e = let same : x ≡ z = cc in ap (λ (v : _). x ∷ v ∷ xs) (sym same) ∙ ap (λ (v : _). v ∷ x ∷ xs) same
insert_down (z ∷ xs) (suc i) x y e = ap (λ (ys : List _). z ∷ ys) (insert_down xs i x y e)

pub insert_last : {X : Type 0} (xs : List X) (x : X) → insert xs (length xs) x ≡ xs ++ x ∷ []
insert_last [] x = refl
insert_last (y ∷ xs) x = ap (λ (ys : List _). y ∷ ys) (insert_last xs x)

pub insert_removed : {X : Type 0} (xs : List X) (i : ℕ) (x : X) → slice_get xs i ≡ Some x → insert (remove xs i) i x ≡ xs
insert_removed [] i x e = absurd cc
insert_removed (y ∷ xs) zero x e = let same : x ≡ y = cc in ap (λ (v : _). v ∷ xs) same
insert_removed (y ∷ xs) (suc i) x e = ap (λ (ys : List _). y ∷ ys) (insert_removed xs i x e)

-- an insertion makes a list one longer
length-insert : {X : Type 0} (xs : List X) (i : ℕ) (x : X) → i ≤ length xs → length (insert xs i x) ≡ length xs + 1
length-insert [] zero x low = omega arith
length-insert [] (suc i) x low = absurd (omega arith)
length-insert (y ∷ xs) zero x low = omega arith
length-insert (y ∷ xs) (suc i) x low = let rest = length-insert xs i x (omega arith) in omega arith

module _ (mask : ℕ) (values : List Value) (old new : List ℕ) (place : ℕ) (item value : Value) (at : slice_get values place ≡ Some item) where
  next : place + 1 ≡ suc place
  next = omega arith

  low : place < length values
  low = (there values place item at).0

  pub move_up : IsListTable mask (insert values (place + 1) item) old → ChangesItem place old new → SaysStored new place (Plain value) → IsListTable mask (insert values place value) new
  move_up table changes now =
      let long = length-insert values (place + 1) item (omega (arith, low)) in
      let put = put_item mask (insert values (place + 1) item) old new table place changes value (omega (arith, long, low)) now in
      subst (λ (vs : List Value). IsListTable mask vs new) (ap (λ (n : ℕ). set (insert values n item) place value) next ∙ insert_up values place item value at) put

  pub move_down : IsListTable mask (insert values place value) old → ChangesItem place old new → SaysStored new place (Plain item) → IsListTable mask (insert values (place + 1) item) new
  move_down table changes now =
      let long = length-insert values place value (omega (arith, low)) in
      let put = put_item mask (insert values place value) old new table place changes item (omega (arith, long, low)) now in
      subst (λ (vs : List Value). IsListTable mask vs new) (insert_down values place item value at ∙ ap (λ (n : ℕ). insert values n item) (sym next)) put

-- ---- blocks and tables of lists

pub item_put : (block words new : List ℕ) (class : ℕ) (values : List Value) (place : ℕ) (value : Value) → IsListWords block words (Some class) values → place < length values → ChangesItem place words new → SaysStored new place (Plain value) → IsListWords block new (Some class) (set values place value)
item_put block words new class values place value says low changes now = record {
  head = record { size = says.head.size; root = says.head.root; count_is = says.head.count_is ∙ sym (length-set values place value); fill_is = says.head.fill_is; next_is = says.head.next_is; spare = says.head.spare };
  table = put_item (class_mask class) values words new says.table place changes value low now;
}

pub item_appended : (block words other new : List ℕ) (class : ℕ) (values : List Value) (value : Value) → IsListWords block words (Some class) values → length values ≤ class_mask class → IsBlock other (Some class) (length values + 1) 0 0 → ChangesItem (length values) words new → SaysStored new (length values) (Plain value) → IsListWords other new (Some class) (values ++ value ∷ [])
item_appended block words other new class values value says room head changes now = record {
  head = record { size = head.size; root = head.root; count_is = head.count_is ∙ sym (length_push values value); fill_is = head.fill_is; next_is = head.next_is; spare = head.spare };
  table = append_item (class_mask class) values words new says.table (length values) changes value refl room now;
}

pub item_dropped : (block words other new : List ℕ) (class : ℕ) (values : List Value) (value : Value) → IsListWords block words (Some class) (values ++ value ∷ []) → IsBlock other (Some class) (length values) 0 0 → ChangesItem (length values) words new → SaysStored new (length values) Empty → IsListWords other new (Some class) values
item_dropped block words other new class values value says head changes now = record { head = head; table = drop_item (class_mask class) values value words new says.table changes now }
