-- What is added to a list that a pass writes: the items of a list are read from its table while they are put.
use Rattle.std.proofs.Common.{◌≡◌, ◌≢◌, ℕ, zero, suc, ◌+◌, ◌<◌, ◌≤◌, List, [], ◌∷◌, ◌++◌, length, refl, sym, ap, ◌∙◌, subst, arith, inl, inr}
use Rattle.std.specs.Prelude.{Some, slice_set}
use Rattle.std.proofs.lemmas.Bool.{cases_eq}
use Rattle.std.proofs.lemmas.List.{get_or_append_left, get_or-append-add, length-append}
use Rattle.std.proofs.lemmas.List.Edits.{length-insert}
use Rattle.ft_model.specs.declared.content.Content.TheVariants as content
use Rattle.ft_model.specs.declared.data.Value.{Value}
use Rattle.ft_model.specs.declared.data.Value.TheVariants as value
use Rattle.ft_model.specs.Classes.{IsClass}
use Rattle.ft_model.specs.Worlds.{list_of}
use Rattle.ft_layout.specs.declared.slot.Stored.{Stored}
use Rattle.ft_layout.specs.declared.slot.Stored.TheVariants.{Plain}
use Rattle.ft_layout.specs.Containers.{IsBlock}
use Rattle.ft_layout.specs.Words.{IsStored, stored_kind, stored_payload}
use Rattle.ft_layout.proofs.Powers.{slots_range}
use Rattle.ft_trace.specs.declared.Shape.{Shape}
use Rattle.ft_trace.specs.declared.View.{View}
use Rattle.ft_trace.specs.Acts.{has_lock, is_writing}
use Rattle.ft_trace.specs.Addresses.{container_count, class_of, slots}
use Rattle.ft_trace.specs.Holds.{held_unboxed, known_state}
use Rattle.ft_trace.specs.Traces.{IsReachable}
use Rattle.ft_trace.specs.Pictures.{ContainerWords, root_in, Represents, item_field}
use Rattle.ft_trace.specs.ContainerStates.{ContainerState, kind_in}
use Rattle.ft_bank.specs.declared.table.Table.{Table}
use Rattle.ft_bank.specs.TableNames.{table_id}
use Rattle.ft_bank.specs.Whole.{OnlyLoaded, OnlyWritten}
use Rattle.ft_bank.specs.WriteSteps.{with_block}
use Rattle.ft_bank.proofs.KnownAfterWrites.{work_knows}
use Rattle.ft_list.specs.declared.addition.Addition.{Addition}
use Rattle.ft_list.specs.declared.addition.Addition.TheVariants.{One, All}
use Rattle.ft_list.specs.ListWrites.{MayWriteList}
use Rattle.ft_list.specs.ListItemWrites.{WritesList, IsPutting, known_items, stored_item}
use Rattle.ft_list.specs.Internal.Moving.{IsMoving}
use Rattle.ft_search.specs.Boxed.{KeepsOwn}
use Rattle.ft_list.specs.Internal.Additions.{CanStore, count_in, first_in, with_added, KnowsItems, IsAddition, IsAdditionTo, GivesItems}
use Rattle.ft_list.proofs.Lists.{list_content, list_known, list_rooted}
use Rattle.ft_list.proofs.FinishedWrites.{with_count}
use Rattle.ft_list.proofs.ItemWordsPut.{at_words, list_few, moving_ends, stored_none, stored_some, Changed}

-- ---- what two lists store, one after the other

pub append_low : (xs ys : List Value) (p : ℕ) → p < length xs → stored_item xs p ≡ stored_item (xs ++ ys) p
append_low xs ys p low =
    let e = length-append xs ys in
    stored_some xs p value.Nothing low
    ∙ (ap Plain (sym (get_or_append_left xs ys value.Nothing p low)) ∙ sym (stored_some (xs ++ ys) p value.Nothing (omega (arith, e, low))))

pub append_high : (xs ys : List Value) (p : ℕ) → p < length ys → stored_item ys p ≡ stored_item (xs ++ ys) (length xs + p)
append_high xs ys p low =
    let e = length-append xs ys in
    stored_some ys p value.Nothing low
    ∙ (ap Plain (sym (get_or-append-add xs ys p value.Nothing)) ∙ sym (stored_some (xs ++ ys) (length xs + p) value.Nothing (omega (arith, e, low))))

pub none_alike : (xs ys : List Value) → length xs ≡ 0 → length ys ≡ 0 → xs ≡ ys
none_alike [] [] one other = refl
none_alike [] (y ∷ ys) one other = absurd (omega (arith, other))
none_alike (x ∷ xs) ys one other = absurd (omega (arith, one))

-- ---- a list whose lock the pass has

class_few : (class : ℕ) → IsClass class → slots class ≤ 65536
unfolding slots
class_few class is = (slots_range class is).1

module _ (k : Shape) (m : ℕ) (v : View) (list : KnowsItems k m v) (shape : v.shape ≡ k) (possible : ∥ IsReachable v ∥₁) where
  pub knows_list : (known_state m v).content ≡ content.List (known_items m v)
  knows_list = list_content v m possible list.locked (ap (λ (z : Shape). kind_in z.starts m) shape ∙ list.kind)

  room_at : (t : ℕ) → root_in (held_unboxed m v) ≡ suc t → (length (known_items m v) ≤ slots (class_of t)) × (length (known_items m v) ≤ 65536)
  room_at t names =
      let says = (list_known k.texts v m t knows_list list.stands names).0 in
      let is_class = says.head.root.1.0 in
      let few = list_few (class_of t) is_class (known_items m v) (0 ∷ 0 ∷ (held_unboxed m v).table) says.table in
      let most = class_few (class_of t) is_class in
      (few, omega (arith, few, most))

  stored_there : (t p : ℕ) → root_in (held_unboxed m v) ≡ suc t → p < length (known_items m v) → (p < slots (class_of t)) × IsStored (item_field (held_unboxed m v).table p 1) (item_field (held_unboxed m v).table p 2) (stored_item (known_items m v) p)
  stored_there t p names low =
      let says = (list_known k.texts v m t knows_list list.stands names).0 in
      let few = (room_at t names).0 in (
        omega (arith, few, low),
        subst (λ (z : Stored). IsStored (item_field (held_unboxed m v).table p 1) (item_field (held_unboxed m v).table p 2) z) (sym (stored_some (known_items m v) p value.Nothing low))
            (at_words (held_unboxed m v).table p _ (says.table.items p value.Nothing low)),
      )

  bare_there : root_in (held_unboxed m v) ≡ 0 → length (known_items m v) ≡ 0
  bare_there none = elim (cases_eq (length (known_items m v)) 0) [ inl e ↦ e | inr ne ↦ absurd (list_rooted k.texts v m knows_list list.stands ne none) ]

  pub knows_few : length (known_items m v) ≤ 65536
  knows_few = at (root_in (held_unboxed m v)) refl
    where
      at : (root : ℕ) → root_in (held_unboxed m v) ≡ root → length (known_items m v) ≤ 65536
      at zero none = let e = bare_there none in omega (arith, e)
      at (suc t) names = (room_at t names).1

  pub knows_gives : (o : ℕ) → GivesItems k o m v
  knows_gives o = record { container = list.container; kind = list.kind; locked = list.locked; quiet = λ ne. list.even; stores = stored_there; bare = bare_there }

pub knows_from : (k : Shape) (o : ℕ) (v : View) → MayWriteList k o v → KnowsItems k o v
knows_from k o v may = record { container = may.container; kind = may.kind; locked = may.locked; even = may.even o; stands = may.stands }

pub knows_then : (k : Shape) (o : ℕ) (v w : View) → held_unboxed o w ≡ held_unboxed o v → known_state o w ≡ known_state o v → has_lock o w.log ≡ has_lock o v.log → is_writing o w.log ≡ is_writing o v.log → KnowsItems k o v → KnowsItems k o w
knows_then k o v w same_words same_content lock writes list = record {
  container = list.container;
  kind = list.kind;
  locked = lock ∙ list.locked;
  even = writes ∙ list.even;
  stands = subst (λ (x : ContainerWords × ContainerState). Represents k.texts x.0 x.1) (λ d. (sym same_words d, sym same_content d)) list.stands;
}

-- ---- an addition

pub added_on : (addition : Addition) (v w : View) → ((p : ℕ) → known_state p w ≡ known_state p v) → (values : List Value) → with_added addition w values ≡ with_added addition v values
added_on (One place value stored) v w same values = refl
added_on (All other more) v w same values = ap (λ (x : ContainerState). values ++ list_of x.content) (same other)

-- or of those whose items it adds
pub news_on : (k : Shape) (count : ℕ) (addition : Addition) (v w : View) → ((p : ℕ) → KnowsItems k p v → known_state p w ≡ known_state p v) → IsAddition k count addition v → (values : List Value) → with_added addition w values ≡ with_added addition v values
news_on k count (One place value stored) v w same is values = refl
news_on k count (All other more) v w same is values = ap (λ (x : ContainerState). values ++ list_of x.content) (same other is.1)

pub added_long : (k : Shape) (count : ℕ) (addition : Addition) (v : View) (values : List Value) → IsAddition k count addition v → count ≡ length values → length (with_added addition v values) ≡ count + count_in addition
added_long k count (One place value stored) v values is long =
    let low = is.0 in
    length-insert values place value (omega (arith, low, long)) ∙ ap (λ (n : ℕ). n + 1) (sym long)
added_long k count (All other more) v values is long = length-append values (known_items other v) ∙ (λ d. sym long d + sym is.0 d)

-- the first item that changes is one of the list's, or comes after them
pub first_low : (k : Shape) (count : ℕ) (addition : Addition) (v : View) → IsAddition k count addition v → first_in addition count ≤ count
first_low k count (One place value stored) v is = is.0
first_low k count (All other more) v is = omega arith

pub added_few : (k : Shape) (count : ℕ) (addition : Addition) (v : View) → v.shape ≡ k → ∥ IsReachable v ∥₁ → IsAddition k count addition v → count_in addition ≤ 65536
added_few k count (One place value stored) v shape possible is = omega arith
added_few k count (All other more) v shape possible is = let f = knows_few k other v is.1 shape possible in let e = is.0 in omega (arith, e, f)

-- what the pass may store it may store still, where it keeps its references
pub store_kept : (value : Value) (stored : Stored) (v w : View) → KeepsOwn v w → CanStore value stored v → CanStore value stored w
store_kept value stored v w keeps is =
    let x = keeps (stored_kind stored) (stored_payload stored) is.own in
    record { fits = is.fits; own = x.0; reads = record { fits = is.reads.fits; kind_is = x.1 ∙ is.reads.kind_is; payload_is = x.2 ∙ is.reads.payload_is } }

-- where the pass knows the same of each list that it doesn't write
pub addition_on : (k : Shape) (count : ℕ) (addition : Addition) (v w : View) → KeepsOwn v w → ((p : ℕ) → KnowsItems k p v → (held_unboxed p w ≡ held_unboxed p v) × (known_state p w ≡ known_state p v) × (has_lock p w.log ≡ has_lock p v.log) × (is_writing p w.log ≡ is_writing p v.log)) → IsAddition k count addition v → IsAddition k count addition w
addition_on k count (One place value stored) v w keeps same is = (is.0, store_kept value stored v w keeps is.1)
addition_on k count (All other more) v w keeps same is =
    let x = same other is.1 in
    (is.0 ∙ ap (λ (z : ContainerState). length (list_of z.content)) (sym x.1), knows_then k other v w x.0 x.1 x.2 x.3 is.1)

-- ---- once the pass writes the list o, whose table has its items

module _ (k : Shape) (o : ℕ) (table : Table) (v s : View) (list : WritesList k o table s) (first past : ℕ)
    (putting : IsPutting (class_of (table_id table)) (known_items o v) first past (stored_item (known_items o v)) (held_unboxed o s).table)
    (few : length (known_items o v) ≤ slots (class_of (table_id table)))
    (known_same : (p : ℕ) → known_state p s ≡ known_state p v)
    (shape : s.shape ≡ k) (possible : ∥ IsReachable s ∥₁)
    (others : (p : ℕ) → p ≢ o → KnowsItems k p v → (held_unboxed p s ≡ held_unboxed p v) × (has_lock p s.log ≡ has_lock p v.log) × (is_writing p s.log ≡ is_writing p v.log)) where
  abbrev class : ℕ
  class = class_of (table_id table)

  items_same : (p : ℕ) → known_items p s ≡ known_items p v
  items_same p = ap (λ (z : ContainerState). list_of z.content) (known_same p)

  gives_itself : GivesItems k o o s
  gives_itself = record {
    container = list.container;
    kind = list.kind;
    locked = list.locked;
    quiet = λ ne. absurd (ne refl);
    stores = λ t p names low.
        let same : table_id table ≡ t = let e : suc (table_id table) ≡ suc t = sym list.root ∙ names in omega (arith, e) in
        let items = items_same o in
        let long : length (known_items o s) ≡ length (known_items o v) = ap length items in
        let less : p < slots class = omega (arith, low, long, few) in (
          subst (λ (n : ℕ). p < slots (class_of n)) same less,
          subst (λ (l : List Value). IsStored (item_field (held_unboxed o s).table p 1) (item_field (held_unboxed o s).table p 2) (stored_item l p)) (sym items) (putting.items p less),
        );
    bare = λ none. absurd (let r = list.root in omega (arith, r, none));
  }

  gives_other : (m : ℕ) → KnowsItems k m v → GivesItems k o m s
  gives_other m is = elim (cases_eq m o) [
    | inl e ↦ subst (λ (q : ℕ). GivesItems k o q s) (sym e) gives_itself
    | inr ne ↦ (let x = others m ne is in knows_gives k m s (knows_then k m v s x.0 (known_same m) x.1 x.2 is) shape possible o)
  ]

  pub addition_begun : (count : ℕ) (addition : Addition) → KeepsOwn v s → IsAddition k count addition v → IsAdditionTo k o count addition s
  addition_begun count (One place value stored) keeps is = (is.0, store_kept value stored v s keeps is.1)
  addition_begun count (All other more) keeps is = (is.0 ∙ ap length (sym (items_same other)), gives_other other is.1)

pub gives_loaded : (k : Shape) (o m : ℕ) (v w : View) → v.shape ≡ k → OnlyLoaded v w → GivesItems k o m v → GivesItems k o m w
gives_loaded k o m v w shape l gives =
    let h = l.unboxed m (subst (λ (z : Shape). m < container_count z) (sym shape) gives.container) gives.locked in
    let c : known_state m w ≡ known_state m v = work_knows v w m l.work in
    let long : length (known_items m w) ≡ length (known_items m v) = ap (λ (z : ContainerState). length (list_of z.content)) c in
    record {
      container = gives.container;
      kind = gives.kind;
      locked = l.work.pass.locks m ∙ gives.locked;
      quiet = λ ne. l.work.pass.writes m ∙ gives.quiet ne;
      stores = λ t p names low.
          let x = gives.stores t p (sym (ap root_in h) ∙ names) (omega (arith, low, long)) in (
            x.0,
            subst (λ (z : ContainerWords × ContainerState). IsStored (item_field z.0.table p 1) (item_field z.0.table p 2) (stored_item (list_of z.1.content) p)) (λ d. (sym h d, sym c d)) x.1,
          );
      bare = λ none. long ∙ gives.bare (sym (ap root_in h) ∙ none);
    }

-- ---- while the items are put

module _ (k : Shape) (o m : ℕ) (table : Table) (v w : View) (shape : v.shape ≡ k) (only : OnlyWritten o v w) (before : WritesList k o table v) (after : WritesList k o table w) (gives : GivesItems k o m v) where
  there : m < container_count v.shape
  there = subst (λ (z : Shape). m < container_count z) (sym shape) gives.container

  held_same : m ≢ o → held_unboxed m w ≡ held_unboxed m v
  held_same ne = (only.others m there ne gives.locked (gives.quiet ne)).1

  pub root_put : root_in (held_unboxed m w) ≡ root_in (held_unboxed m v)
  root_put = elim (cases_eq m o) [
    | inl e ↦ (subst (λ (q : ℕ). root_in (held_unboxed q w) ≡ root_in (held_unboxed q v)) (sym e) (after.root ∙ sym before.root))
    | inr ne ↦ ap root_in (held_same ne)
  ]

  pub gives_put : (values others : List Value) (first past at : ℕ) → IsMoving (class_of (table_id table)) values (values ++ others) first past at (held_unboxed o w).table → known_items o v ≡ values → length values ≤ at → length values ≤ slots (class_of (table_id table)) → GivesItems k o m w
  gives_put values others first past at moving items done few = record {
    container = gives.container;
    kind = gives.kind;
    locked = only.work.pass.locks m ∙ gives.locked;
    quiet = λ ne. only.work.pass.writes m ∙ gives.quiet ne;
    stores = elim (cases_eq m o) [
      | inl e ↦ subst (λ (q : ℕ). (t p : ℕ) → root_in (held_unboxed q w) ≡ suc t → p < length (known_items q w) → (p < slots (class_of t)) × IsStored (item_field (held_unboxed q w).table p 1) (item_field (held_unboxed q w).table p 2) (stored_item (known_items q w) p)) (sym e)
          (λ t p names low.
          let same : table_id table ≡ t = let x : suc (table_id table) ≡ suc t = sym after.root ∙ names in omega (arith, x) in
          let all : known_items o w ≡ values = ap (λ (z : ContainerState). list_of z.content) (work_knows v w o only.work) ∙ items in
          let long : length (known_items o w) ≡ length values = ap length all in
          let less : p < slots (class_of (table_id table)) = omega (arith, low, long, few) in (
            subst (λ (n : ℕ). p < slots (class_of n)) same less,
            subst (λ (z : Stored). IsStored (item_field (held_unboxed o w).table p 1) (item_field (held_unboxed o w).table p 2) z)
                (moving.done p (omega (arith, low, long, done)) ∙ (sym (append_low values others p (omega (arith, low, long))) ∙ ap (λ (l : List Value). stored_item l p) (sym all)))
                (moving.putting.items p less),
          ))
      | inr ne ↦ λ t p names low.
          let h = held_same ne in
          let c : known_state m w ≡ known_state m v = work_knows v w m only.work in
          let long : length (known_items m w) ≡ length (known_items m v) = ap (λ (z : ContainerState). length (list_of z.content)) c in
          let x = gives.stores t p (sym (ap root_in h) ∙ names) (omega (arith, low, long)) in (
            x.0,
            subst (λ (z : ContainerWords × ContainerState). IsStored (item_field z.0.table p 1) (item_field z.0.table p 2) (stored_item (list_of z.1.content) p)) (λ d. (sym h d, sym c d)) x.1,
          )
    ];
    bare = λ none. ap (λ (z : ContainerState). length (list_of z.content)) (work_knows v w m only.work) ∙ gives.bare (sym root_put ∙ none);
  }

-- ---- once they are put, and then the length

module _ (class : ℕ) (is_class : IsClass class) (values news : List Value) (first total : ℕ) (put said : ContainerWords) (moving : IsMoving class values news first total total put.table) (is : said ≡ with_block put 1 total) (short : length values ≤ total) (long : length news ≡ total) (room : total ≤ slots class) where
  pub added_changing : Changed class values news first total said.table
  added_changing =
      moving_ends class is_class values news first total total said.table (subst (λ (w : ContainerWords). IsMoving class values news first total total w.table) (sym is) moving) (omega (arith, long, room))
      (λ p more. stored_none values p (omega (arith, more, short)) ∙ sym (stored_none news p (omega (arith, more, long))))

  pub added_head : IsBlock put.block (Some class) (length values) 0 0 → IsBlock said.block (Some class) (length news) 0 0
  added_head head =
      subst (λ (w : ContainerWords). IsBlock w.block (Some class) (length news) 0 0) (sym is)
      (subst (λ (n : ℕ). IsBlock (slice_set put.block 1 total) (Some class) n 0 0) (sym long) (with_count put.block (Some class) (length values) total head))
