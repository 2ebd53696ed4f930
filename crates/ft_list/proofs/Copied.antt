-- A table that is filled with the words of the one before: it reads the same, and names the same boxes as often.
use Rattle.std.proofs.Common.{◌≡◌, ℕ, zero, suc, ◌<◌, ◌≤◌, eqb, cond, List, ◌∷◌, Option, Some, None, refl, sym, ap, ◌∙◌, subst, arith}
use Rattle.std.specs.Prelude.{slice_index}
use mathlib.Core.Logic.{dite}
use native.Mathlib.Decide.{ℕ_discrete}
use Rattle.ft_model.specs.declared.data.Value.{Value}
use Rattle.ft_model.specs.declared.script.Kind.{Kind}
use Rattle.ft_model.specs.declared.script.Kind.TheVariants as kind
use Rattle.ft_layout.specs.declared.slot.Stored.{Stored}
use Rattle.ft_layout.specs.declared.slot.Stored.TheVariants.{Empty}
use Rattle.ft_layout.specs.Words.{IsStored}
use Rattle.ft_trace.specs.declared.Shape.{Shape}
use Rattle.ft_trace.specs.declared.View.{View}
use Rattle.ft_trace.specs.Addresses.{container_count, class_of, slots}
use Rattle.ft_trace.specs.Boxes.{known_box_word, named_in_root, names_box, names_box_at}
use Rattle.ft_trace.specs.ContainerStates.{kind_in}
use Rattle.ft_trace.specs.Holds.{held_words, held_unboxed, in_hand, hand_unboxed}
use Rattle.ft_trace.specs.Pictures.{item_field, item_offset, root_in}
use Rattle.ft_trace.specs.Sums.{sum_to}
use Rattle.ft_trace.specs.Traces.{IsReachable}
use Rattle.ft_trace.specs.Unboxed.{unboxed_rows, unboxed_table}
use Rattle.ft_trace.proofs.Cases.{miss}
use Rattle.ft_trace.proofs.ReadTables.{read_item, read_version, rows_at, rows_long, value_low}
use Rattle.ft_trace.proofs.Sums.{sum_same}
use Rattle.ft_bank.specs.declared.table.Table.{Table}
use Rattle.ft_bank.specs.BoxSteps.{kind_read, payload_read}
use Rattle.ft_bank.specs.SameBoxes.{named_in_words}
use Rattle.ft_bank.specs.TableNames.{table_id, IsTableIn}
use Rattle.ft_search.proofs.Owning.{plain_seen}
use Rattle.ft_list.specs.ListItemWrites.{known_items, stored_item}
use Rattle.ft_list.specs.Internal.NewListTables.{CopiesItem, IsCopied, IsFilled, KnowsList}
use Rattle.ft_list.proofs.Cares.{table_class}
use Rattle.ft_list.proofs.GrownLists.{knows_content, list_bare}
use Rattle.ft_list.proofs.ItemValues.{item_reads}
use Rattle.ft_list.proofs.ItemWordsPut.{putting_starts, list_few, stored_none}
use Rattle.ft_list.proofs.Lists.{list_known, list_shut}

-- a longer sum whose last terms are 0
sum_longer : (f g : ℕ → ℕ) (n m : ℕ) → m ≤ n → ((i : ℕ) → i < m → f i ≡ g i) → ((i : ℕ) → m ≤ i → i < n → f i ≡ 0) → sum_to f n ≡ sum_to g m
sum_longer f g zero m low same none = let z : m ≡ 0 = omega (arith, low) in sym (ap (sum_to g) z)
sum_longer f g (suc n) m low same none =
    dite (ℕ_discrete m (suc n))
    (λ (e : m ≡ suc n). sum_same f g (suc n) (λ i less. same i (omega (arith, less, e))) ∙ ap (sum_to g) (sym e))
    (λ ne.
    let a = none n (omega (arith, low, ne)) (omega arith) in
    let b = sum_longer f g n m (omega (arith, low, ne)) same (λ i up less. none i up (omega (arith, less))) in
    omega (arith, a, b))

-- a place lies below a number or not
below : {A : Type 0} (p n : ℕ) → (p < n → A) → (n ≤ p → A) → A
below p zero f g = g (omega arith)
below p (suc n) f g =
    dite (ℕ_discrete p n)
    (λ (e : p ≡ n). f (omega (arith, e)))
    (λ ne. below p n (λ less. f (omega (arith, less))) (λ up. g (omega (arith, up, ne))))

-- ---- the table that is filled

module _ (k : Shape) (o : ℕ) (table : Table) (v : View) (shape : v.shape ≡ k) (possible : ∥ IsReachable v ∥₁) (table_in : IsTableIn k table) where
  abbrev c : ℕ
  c = class_of (table_id table)

  abbrev ws : List ℕ
  ws = in_hand (table_id table) v

  abbrev T : List ℕ
  T = (held_words o v).table

  abbrev values : List Value
  values = known_items o v

  abbrev box : ℕ → ℕ → ℕ
  box b i = known_box_word v.shape b i v.log

  -- what an item reads whose words were copied
  item_of : (old : Option Table) → KnowsList k o old v → (p kd payload : ℕ) → CopiesItem old T p kd payload → IsStored (kind_read v kd payload) (payload_read v kd payload) (stored_item values p)
  item_of None list p kd payload is =
      let bare = list_bare k o v list (knows_content k o None v shape possible list) in
      let none : stored_item values p ≡ Empty = stored_none values p (omega (arith, bare)) in
      subst (λ (z : ℕ × ℕ × Stored). IsStored (kind_read v z.0 z.1) (payload_read v z.0 z.1) z.2) (λ d. (sym is.0 d, sym is.1 d, sym none d)) (plain_seen v Empty (λ e. omega (arith, e)) tt)
  item_of (Some q) list p kd payload is =
      let is_kind : kind_in v.shape.starts o ≡ kind.List = ap (λ (z : Shape). kind_in z.starts o) shape ∙ list.kind in
      let low : o < container_count v.shape = subst (λ (z : Shape). o < container_count z) (sym shape) list.container in
      let content = knows_content k o (Some q) v shape possible list in
      let q_in = list.table_in q refl in
      let words = (list_known k.texts v o (table_id q) content list.stands list.root).0 in
      let class = table_class k q q_in in
      let few = list_few (class_of (table_id q)) class values (0 ∷ 0 ∷ (held_unboxed o v).table) words.table in
      below p (slots (class_of (table_id q)))
      (λ less.
      let at = is.0 less in
      let reads = item_reads k o q p v shape list.container list.kind list.locked q_in list.root less in
      let stands = (putting_starts (class_of (table_id q)) class values (held_unboxed o v).table 0 0 words.table (list_shut v o (table_id q) possible low list.locked list.even is_kind list.root)).items p less in
      subst (λ (z : ℕ × ℕ). IsStored z.0 z.1 (stored_item values p)) (λ d. ((reads.0 ∙ (λ e. kind_read v (sym at.0 e) (sym at.1 e))) d, (reads.1 ∙ (λ e. payload_read v (sym at.0 e) (sym at.1 e))) d)) stands)
      (λ up.
      let at = is.1 up in
      let none : stored_item values p ≡ Empty = stored_none values p (omega (arith, few, up)) in
      subst (λ (z : ℕ × ℕ × Stored). IsStored (kind_read v z.0 z.1) (payload_read v z.0 z.1) z.2) (λ d. (sym at.0 d, sym at.1 d, sym none d)) (plain_seen v Empty (λ e. omega (arith, e)) tt))

  -- it reads what the list has
  pub copied_filled : (old : Option Table) → KnowsList k o old v → IsCopied old T c (slots c) ws → IsFilled c values (slots c) (hand_unboxed o (table_id table) v)
  copied_filled old list copied =
      let is_kind : kind_in v.shape.starts o ≡ kind.List = ap (λ (z : Shape). kind_in z.starts o) shape ∙ list.kind in
      let as_list : hand_unboxed o (table_id table) v ≡ unboxed_rows box kind.List c (slots c) ws = ap (λ (z : Kind). unboxed_table box z (suc (table_id table)) ws) is_kind in
      let long = copied.long in
      subst (IsFilled c values (slots c)) (sym as_list)
      (record {
        long = rows_long box kind.List c (slots c) ws ∙ copied.long;
        version = λ p less. read_version box c (slots c) ws kind.List refl p less ∙ copied.version p less;
        items = λ p less.
            let fits = value_low kind.List c p (table_class k table table_in) less in
            let next : suc (item_offset p 1) ≡ item_offset p 2 = omega arith in
            let r = rows_at box kind.List c (slots c) p ws less (omega (arith, fits, long)) in
            let U = unboxed_rows box kind.List c (slots c) ws in
            let one : item_field U p 1 ≡ kind_read v (item_field ws p 1) (item_field ws p 2) = r.0 ∙ (λ d. kind_read v (item_field ws p 1) (slice_index ws (next d))) in
            let two : item_field U p 2 ≡ payload_read v (item_field ws p 1) (item_field ws p 2) = ap (slice_index U) (sym next) ∙ (r.1 ∙ (λ d. payload_read v (item_field ws p 1) (slice_index ws (next d)))) in
            subst (λ (z : ℕ × ℕ). IsStored z.0 z.1 (stored_item values p)) (λ d. (sym one d, sym two d)) (item_of old list p (item_field ws p 1) (item_field ws p 2) (copied.copies p less));
        spare = λ p less. read_item box c (slots c) ws p 3 (omega arith) (λ e. omega (arith, e)) (λ e. omega (arith, e)) ∙ copied.spare p less;
      })

  -- it names each box as often as the old one
  names_of : (old : Option Table) → KnowsList k o old v → ((q : Table) → old ≡ Some q → slots (class_of (table_id q)) ≤ slots c) → IsCopied old T c (slots c) ws → (b : ℕ) → named_in_root b kind.List (suc (table_id table)) ws ≡ named_in_root b kind.List (root_in (held_words o v)) T
  names_of None list wider copied b =
      let bare = list.root in
      sum_longer (names_box_at b kind.List c ws) (λ i. 0) (slots c) 0 (omega arith) (λ i less. absurd (omega (arith, less)))
      (λ p up less.
      let at = copied.copies p less in
      let zero_ : item_field ws p 1 ≡ 0 = at.0 in
      miss (item_field ws p 1) 4 (cond (eqb (slice_index ws (suc (item_offset p 1))) b) 1 0) 0 (λ e. omega (arith, e, zero_)))
      ∙ sym (ap (λ (r : ℕ). named_in_root b kind.List r T) bare)
  names_of (Some q) list wider copied b =
      sum_longer (names_box_at b kind.List c ws) (names_box_at b kind.List (class_of (table_id q)) T) (slots c) (slots (class_of (table_id q))) (wider q refl)
      (λ p less.
      let w = wider q refl in
      let at = (copied.copies p (omega (arith, less, w))).0 less in
      let next : suc (item_offset p 1) ≡ item_offset p 2 = omega arith in
      let two : slice_index ws (suc (item_offset p 1)) ≡ slice_index T (suc (item_offset p 1)) = ap (slice_index ws) next ∙ (at.1 ∙ sym (ap (slice_index T) next)) in
      λ d. names_box b (at.0 d) (two d))
      (λ p up less.
      let at = (copied.copies p less).1 up in
      let zero_ : item_field ws p 1 ≡ 0 = at.0 in
      miss (item_field ws p 1) 4 (cond (eqb (slice_index ws (suc (item_offset p 1))) b) 1 0) 0 (λ e. omega (arith, e, zero_)))
      ∙ sym (ap (λ (r : ℕ). named_in_root b kind.List r T) list.root)

  pub copied_names : (old : Option Table) → KnowsList k o old v → ((q : Table) → old ≡ Some q → slots (class_of (table_id q)) ≤ slots c) → IsCopied old T c (slots c) ws → (b : ℕ) → named_in_root b (kind_in v.shape.starts o) (suc (table_id table)) ws ≡ named_in_words b (kind_in v.shape.starts o) (held_words o v)
  copied_names old list wider copied b =
      let is_kind : kind_in v.shape.starts o ≡ kind.List = ap (λ (z : Shape). kind_in z.starts o) shape ∙ list.kind in
      subst (λ (z : Kind). named_in_root b z (suc (table_id table)) ws ≡ named_in_root b z (root_in (held_words o v)) T) (sym is_kind) (names_of old list wider copied b)
