-- The items of another list whose values a list shares: what a pass knows of their words, and of the boxes that they name.
use Rattle.std.proofs.Common.{◌≡◌, ◌≢◌, ℕ, suc, ◌+◌, ◌<◌, ◌≤◌, true, false, List, length, sym, ap, ◌∙◌, subst, Option, Some, None, refl, inl, inr, arith}
use Rattle.std.proofs.lemmas.Bool.{cases_eq}
use Rattle.std.specs.Prelude.{slice_index}
use Rattle.ft_model.specs.declared.data.Value.{Value}
use Rattle.ft_model.specs.declared.data.Value.TheVariants as value
use Rattle.ft_model.specs.declared.script.Kind.{Kind}
use Rattle.ft_model.specs.declared.script.Kind.TheVariants as kind
use Rattle.ft_layout.specs.declared.slot.Stored.TheVariants.{Plain}
use Rattle.ft_layout.specs.Words.{IsStored, stored_kind}
use Rattle.ft_trace.specs.declared.Shape.{Shape}
use Rattle.ft_trace.specs.declared.View.{View}
use Rattle.ft_trace.specs.Acts.{has_lock, is_writing}
use Rattle.ft_trace.specs.Addresses.{container_count, class_of, slots}
use Rattle.ft_trace.specs.Boxes.{references_held, value_at, KeepsBox}
use Rattle.ft_trace.specs.ContainerStates.{kind_in}
use Rattle.ft_trace.specs.Holds.{held_words, held_unboxed}
use Rattle.ft_trace.specs.Kinds.{rows}
use Rattle.ft_trace.specs.Pictures.{ContainerWords, item_field, item_offset, root_in}
use Rattle.ft_trace.specs.Traces.{IsReachable}
use Rattle.ft_bank.specs.declared.table.Table.{Table}
use Rattle.ft_bank.specs.SameBoxes.{SameReferences}
use Rattle.ft_bank.specs.TableNames.{table_id, root_for, IsTableIn}
use Rattle.ft_bank.proofs.NamedBoxes.{named_keeps}
use Rattle.ft_search.proofs.Overs.{boxed_held, held_same}
use Rattle.ft_bank.specs.BoxSteps.{kind_read, payload_read}
use Rattle.ft_bank.specs.Whole.{OnlyBoxed, OnlyWritten}
use Rattle.ft_list.proofs.ItemValues.{item_reads}
use Rattle.ft_list.specs.ListItemWrites.{known_items, stored_item}
use Rattle.ft_list.specs.declared.addition.Addition.{Addition}
use Rattle.ft_list.specs.declared.addition.Addition.TheVariants.{One, All}
use Rattle.ft_list.specs.Internal.Additions.{GivesItems, IsAddition}
use Rattle.ft_list.specs.Internal.NewListTables.{HasRooted, IsCopied, KnowsList}
use Rattle.ft_table_calls.specs.Adding.{OnlyFilled}
use Rattle.ft_bank.proofs.KnownAfterWrites.{work_knows}
use Rattle.ft_model.specs.Worlds.{list_of}
use Rattle.ft_trace.specs.ContainerStates.{ContainerState}
use Rattle.ft_list.proofs.AddedStored.{SameGiven}
use Rattle.ft_list.proofs.Additions.{knows_of}
use Rattle.ft_list.proofs.Extending.{knows_gives}
use Rattle.ft_list.proofs.Rooted.{rooted_raw}
use Rattle.ft_list.specs.HeldValues.{SharesItems}
use Rattle.ft_list.specs.Internal.Carrying.{CarriesValue, HoldsSpare, KeepsOtherItems}
use Rattle.ft_list.proofs.ItemWordsPut.{stored_none, stored_some}

-- where a bank's shape is that of the views the references may be counted by it
pub refs_of : (k : Shape) (v w : View) → v.shape ≡ k → w.shape ≡ k → ((b : ℕ) → references_held k b w.log ≡ references_held k b v.log) → SameReferences v w
refs_of k v w first then_ same b = ap (λ (z : Shape). references_held z b w.log) then_ ∙ (same b ∙ ap (λ (z : Shape). references_held z b v.log) (sym first))

pub spare_same : (k : Shape) (v w : View) → v.shape ≡ k → w.shape ≡ k → SameReferences v w → HoldsSpare k v → HoldsSpare k w
spare_same k v w first then_ same spare b = let e = held_same k v w first then_ same b in let s = spare b in omega (arith, e, s)

-- an item of a list stores something
plain_some : (x : Value) → stored_kind (Plain x) ≢ 0
plain_some value.Nothing e = omega (arith, e)
plain_some (value.Int n) e = omega (arith, e)
plain_some (value.Text s) e = omega (arith, e)

pub item_some : (values : List Value) (p : ℕ) → p < length values → stored_kind (stored_item values p) ≢ 0
item_some values p low e = plain_some _ (sym (ap stored_kind (stored_some values p value.Nothing low)) ∙ e)

-- the list whose item names a box keeps it, for a pass that has its lock
pub item_keeps : (k : Shape) (m : ℕ) (table : Table) (place : ℕ) (v : View) → v.shape ≡ k → m < container_count k → kind_in k.starts m ≡ kind.List → has_lock m v.log ≡ true → root_in (held_words m v) ≡ suc (table_id table) → place < slots (class_of (table_id table)) → ∥ IsReachable v ∥₁ → item_field (held_words m v).table place 1 ≡ 4 → KeepsBox k (item_field (held_words m v).table place 2) v.log
item_keeps k m table place v shape inside list mine names low possible four =
    let t = table_id table in
    let T = (held_words m v).table in
    let is_kind : kind_in v.shape.starts m ≡ kind.List = ap (λ (z : Shape). kind_in z.starts m) shape ∙ list in
    let here : m < container_count v.shape = subst (λ (z : Shape). m < container_count z) (sym shape) inside in
    let in_rows : place < rows (kind_in v.shape.starts m) (class_of t) = subst (λ (z : Kind). place < rows z (class_of t)) (sym is_kind) low in
    let is_place : value_at (kind_in v.shape.starts m) (class_of t) place ≡ item_offset place 1 = ap (λ (z : Kind). value_at z (class_of t) place) is_kind in
    let stands : slice_index T (value_at (kind_in v.shape.starts m) (class_of t) place) ≡ 4 = ap (slice_index T) is_place ∙ four in
    let next : suc (value_at (kind_in v.shape.starts m) (class_of t) place) ≡ item_offset place 2 = let e = is_place in omega (arith, e) in
    subst (λ (z : Shape × ℕ). KeepsBox z.0 (slice_index T z.1) v.log) (λ d. (shape d, next d)) (named_keeps v m t place possible here mine names in_rows stands)

-- after steps with boxes the words of an item read what the list has there
pub item_given : (k : Shape) (o m : ℕ) (table : Table) (place : ℕ) (value : ℕ × ℕ) (v w : View) → v.shape ≡ k → OnlyBoxed v w → GivesItems k o m v → IsTableIn k table → root_in (held_unboxed m v) ≡ suc (table_id table) → place < length (known_items m v) → value.0 ≡ item_field (held_words m v).table place 1 → value.1 ≡ item_field (held_words m v).table place 2 → IsStored (kind_read w value.0 value.1) (payload_read w value.0 value.1) (stored_item (known_items m v) place)
item_given k o m table place value v w shape boxed gives in_bank names less kind_is payload_is =
    let here = gives.stores (table_id table) place names less in
    let same : held_words m w ≡ held_words m v = boxed_held v w m boxed in
    let same_read : held_unboxed m w ≡ held_unboxed m v = boxed.unboxed m (subst (λ (z : Shape). m < container_count z) (sym shape) gives.container) gives.locked in
    let r = item_reads k m table place w (boxed.work.pass.shape ∙ shape) gives.container gives.kind (boxed.work.pass.locks m ∙ gives.locked) in_bank (ap root_in same ∙ names) here.0 in
    let kind_now : value.0 ≡ item_field (held_words m w).table place 1 = kind_is ∙ sym (ap (λ (x : ContainerWords). item_field x.table place 1) same) in
    let payload_now : value.1 ≡ item_field (held_words m w).table place 2 = payload_is ∙ sym (ap (λ (x : ContainerWords). item_field x.table place 2) same) in
    record {
      fits = here.1.fits;
      kind_is = (λ d. kind_read w (kind_now d) (payload_now d)) ∙ (sym r.0 ∙ (ap (λ (x : ContainerWords). item_field x.table place 1) same_read ∙ here.1.kind_is));
      payload_is = (λ d. payload_read w (kind_now d) (payload_now d)) ∙ (sym r.1 ∙ (ap (λ (x : ContainerWords). item_field x.table place 2) same_read ∙ here.1.payload_is));
    }

-- ---- while the items are put

-- the words of the list that gives its items, where a pass put an item past those of the list o
pub given_kept : (o m place count : ℕ) (v w : View) → m < container_count v.shape → has_lock m v.log ≡ true → (m ≢ o → is_writing m v.log ≡ false) → OnlyWritten o v w → KeepsOtherItems o place v w → (m ≡ o → count ≤ place) → (p word : ℕ) → p < count → 0 < word → word < 4 → item_field (held_words m w).table p word ≡ item_field (held_words m v).table p word
given_kept o m place count v w low mine quiet only keeps past p word less some_ few =
    elim (cases_eq m o) [
      | inl e ↦ subst (λ (q : ℕ). item_field (held_words q w).table p word ≡ item_field (held_words q v).table p word) (sym e) (keeps p word (λ z. let far = past e in omega (arith, far, less, z)) some_ few)
      | inr ne ↦ ap (λ (x : ContainerWords). item_field x.table p word) (only.others m low ne mine (quiet ne)).0
    ]

-- one item more is shared
pub shares_next : (o first m place : ℕ) (value : ℕ × ℕ) (u v w : View) → SharesItems o first m place u v → KeepsOtherItems o (first + place) v w → (item_field (held_words o w).table (first + place) 1 ≡ value.0) × (item_field (held_words o w).table (first + place) 2 ≡ value.1) → value.0 ≡ item_field (held_words m u).table place 1 → value.1 ≡ item_field (held_words m u).table place 2 → SharesItems o first m (place + 1) u w
shares_next o first m place value u v w shares keeps put kind_is payload_is p low =
    elim (cases_eq p place) [
      | inl e ↦ subst (λ (q : ℕ). (item_field (held_words o w).table (first + q) 1 ≡ item_field (held_words m u).table q 1) × (item_field (held_words o w).table (first + q) 2 ≡ item_field (held_words m u).table q 2)) (sym e) (put.0 ∙ kind_is, put.1 ∙ payload_is)
      | inr ne ↦ (let n = shares p (omega (arith, low, ne)) in (
        keeps (first + p) 1 (λ z. ne (omega (arith, z))) (omega arith) (omega arith) ∙ n.0,
        keeps (first + p) 2 (λ z. ne (omega (arith, z))) (omega arith) (omega arith) ∙ n.1,
      ))
    ]

-- an item past the last one reads nothing, so that it has the words that are put
pub past_put : (o place : ℕ) (values others : List Value) (p : ℕ) (value old : ℕ × ℕ) (v w : View) → p < length others → IsStored (kind_read v value.0 value.1) (payload_read v value.0 value.1) (stored_item others p) → IsStored (item_field (held_unboxed o v).table place 1) (item_field (held_unboxed o v).table place 2) (stored_item values place) → length values ≤ place → CarriesValue o place value old v w → (item_field (held_words o w).table place 1 ≡ value.0) × (item_field (held_words o w).table place 2 ≡ value.1)
past_put o place values others p value old v w low reads stands past (inl put) = put
past_put o place values others p value old v w low reads stands past (inr same) =
    absurd (item_some others p low (sym reads.kind_is ∙ (same.2 ∙ (stands.kind_is ∙ ap stored_kind (stored_none values place past)))))

-- the table whose items are given, where there is one
pub from_there : (k : Shape) (o m place : ℕ) (v : View) (from : Option Table) → GivesItems k o m v → ((t : Table) → from ≡ Some t → IsTableIn k t) → root_in (held_unboxed m v) ≡ root_for from → place < length (known_items m v) → (t : Table) × IsTableIn k t × (root_in (held_unboxed m v) ≡ suc (table_id t))
from_there k o m place v None gives tables root low = let none = gives.bare root in absurd (omega (arith, none, low))
from_there k o m place v (Some t) gives tables root low = (t, tables t refl, root)

-- ---- a list that gets another table

-- each item has the words there that it had
pub copied_words : (k : Shape) (o : ℕ) (old : Option Table) (v : View) (class past : ℕ) (words : List ℕ) → KnowsList k o old v → v.shape ≡ k → ∥ IsReachable v ∥₁ → IsCopied old (held_words o v).table class past words → length (known_items o v) ≤ past → (p : ℕ) → p < length (known_items o v) → (item_field words p 1 ≡ item_field (held_words o v).table p 1) × (item_field words p 2 ≡ item_field (held_words o v).table p 2)
copied_words k o None v class past words list shape possible copied few p low =
    let none = (knows_gives k o v (knows_of k o None v list) shape possible o).bare list.root in
    absurd (omega (arith, none, low))
copied_words k o (Some t) v class past words list shape possible copied few p low =
    let less = ((knows_gives k o v (knows_of k o (Some t) v list) shape possible o).stores (table_id t) p list.root low).0 in
    (copied.copies p (omega (arith, low, few))).0 less

-- what is added has the same words once the list has the other table, where its own items are added as well
pub given_rooted : (k : Shape) (o root count : ℕ) (addition : Addition) (v x s : View) → v.shape ≡ k → IsAddition k count addition v → OnlyFilled v x → HasRooted o root x s → ((p : ℕ) → p < length (known_items o x) → (item_field (held_words o s).table p 1 ≡ item_field (held_words o x).table p 1) × (item_field (held_words o s).table p 2 ≡ item_field (held_words o x).table p 2)) → SameGiven addition v s
given_rooted k o root count (One place value stored) v x s shape is filled rooted items = tt
given_rooted k o root count (All other more) v x s shape is filled rooted items = λ p low.
    let list = is.1 in
    let here : other < container_count v.shape = subst (λ (z : Shape). other < container_count z) (sym shape) list.container in
    let first : held_words other x ≡ held_words other v = (filled.keeps other here list.locked list.even).0 in
    let knows : known_items other x ≡ known_items other v = ap (λ (z : ContainerState). list_of z.content) (work_knows v x other filled.work) in
    let less : p < length (known_items other x) = let n = is.0 in let m = ap length knows in omega (arith, n, m, low) in
    let then_ : (item_field (held_words other s).table p 1 ≡ item_field (held_words other x).table p 1) × (item_field (held_words other s).table p 2 ≡ item_field (held_words other x).table p 2) =
    elim (cases_eq other o) [
      | inl e ↦ subst (λ (q : ℕ). p < length (known_items q x) → (item_field (held_words q s).table p 1 ≡ item_field (held_words q x).table p 1) × (item_field (held_words q s).table p 2 ≡ item_field (held_words q x).table p 2)) (sym e) (items p) less
      | inr ne ↦ (let same = rooted_raw o root x s rooted other ne (subst (λ (z : Shape). other < container_count z) (sym filled.work.pass.shape) here) (filled.work.pass.locks other ∙ list.locked) (filled.work.pass.writes other ∙ list.even) in
          (ap (λ (y : ContainerWords). item_field y.table p 1) same, ap (λ (y : ContainerWords). item_field y.table p 2) same))
    ] in
    (then_.0 ∙ ap (λ (y : ContainerWords). item_field y.table p 1) first, then_.1 ∙ ap (λ (y : ContainerWords). item_field y.table p 2) first)
