-- What a call that adds items to a list does, by the table that the list has.
use Rattle.std.proofs.Common.{◌≡◌, ◌≢◌, ℕ, suc, ◌+◌, ◌<◌, ◌≤◌, Bool, true, false, List, length, Option, Some, None, refl, sym, ap, ◌∙◌, subst, arith, le-ltb, lt-ltb}
use Rattle.std.specs.Prelude.{nat_lt, IfSome, IfNone}
use Rattle.ft_model.specs.declared.call.Call.{Call}
use Rattle.ft_model.specs.declared.call.Call.TheVariants as call
use Rattle.ft_model.specs.declared.call.ListCall.{ListCall}
use Rattle.ft_model.specs.declared.content.Content.TheVariants as content
use Rattle.ft_model.specs.declared.data.Value.{Value}
use Rattle.ft_model.specs.declared.reply.Reply.TheVariants as reply
use Rattle.ft_model.specs.Classes.{list_class, list_items, most_items}
use Rattle.ft_model.specs.TableUses.{StoredWorld, CanLackMemory, list_takes, takes_in, would_pass}
use Rattle.ft_model.specs.Worlds.{list_of}
use Rattle.ft_model.proofs.ClassRooms.{list_fits}
use Rattle.ft_trace.specs.declared.Shape.{Shape}
use Rattle.ft_trace.specs.declared.View.{View}
use Rattle.ft_trace.specs.Acts.{owes, stage}
use Rattle.ft_trace.specs.Addresses.{container_count, class_of, slots}
use Rattle.ft_trace.specs.ContainerStates.{ContainerState, kinds_in}
use Rattle.ft_trace.specs.Holds.{known_state}
use Rattle.ft_trace.specs.Traces.{IsReachable}
use Rattle.ft_bank.specs.declared.table.Table.{Table}
use Rattle.ft_bank.specs.TableNames.{table_id, root_for, IsTableIn}
use Rattle.ft_bank.specs.WriteSteps.{MayHave}
use Rattle.ft_bank.specs.Takings.{KeepsBut}
use Rattle.ft_bank.specs.Whole.{OnlyLoaded, SamePass}
use Rattle.ft_bank.proofs.KnownAfterWrites.{work_knows}
use Rattle.ft_table_calls.specs.declared.adding.Added.{Added}
use Rattle.ft_table_calls.specs.Adding.{IsAdded}
use Rattle.ft_bank.proofs.TableAddresses.{class_is}
use Rattle.ft_list.specs.ListItemWrites.{known_items}
use Rattle.ft_list.specs.ListWrites.{Adds, Changes, Grows}
use Rattle.ft_list.specs.ListGrowth.{AddsItems}
use Rattle.ft_list.specs.Internal.NewListTables.{KnowsList, MayAdd, MayGrowList, list_use_of}
use Rattle.ft_list.proofs.ListCallFacts.{adds_changes, adds_grows, lacks_table, passes_most}
use Rattle.ft_list.specs.declared.addition.Addition.{Addition}
use Rattle.ft_list.specs.Internal.Additions.{with_added, KnowsItems, IsAddition}
use Rattle.ft_list.proofs.AddedStored.{keeps_boxes}
use Rattle.ft_list.proofs.Extending.{addition_on, news_on}
use Rattle.ft_list.proofs.GrownLists.{knows_content, knows_on}
use Rattle.ft_list.proofs.LookRounds.{slots_are}
use Rattle.ft_list.proofs.Wanted.{list_use, wanted_some}
use Rattle.ft_list.proofs.WholeListWrites.{grows_from}
use Rattle.ft_search.proofs.Changing.{no_keys}
use Rattle.ft_search.proofs.Puts.{few_same}
use Rattle.ft_bank.proofs.DoneBoxes.{stays_settled_same}

module _ (k : Shape) (o : ℕ) (old : Option Table) (v : View) (list : KnowsList k o old v) (shape : v.shape ≡ k) (possible : ∥ IsReachable v ∥₁) (lc : ListCall) (total : ℕ) (news : List Value) (adds : Adds o lc (known_items o v) news v) (long : length news ≡ total) where
  abbrev values : List Value
  values = known_items o v

  low : o < container_count v.shape
  low = subst (λ (z : Shape). o < container_count z) (sym shape) list.container

  is_list : (known_state o v).content ≡ content.List values
  is_list = knows_content k o old v shape possible list

  few_is : total ≤ most_items → nat_lt most_items (length news) ≡ false
  few_is few = let n = long in le-ltb most_items (length news) (omega (arith, n, few))

  wanted_is : list_takes (known_state o v).table (length news) ≡ list_takes (list_use_of old) total
  wanted_is = λ d. list_takes (list_use k o old v list is_list (no_keys v o possible list.locked) d) (long d)

  pub room_changes : total ≤ most_items → list_takes (list_use_of old) total ≡ None → Changes o lc reply.Done values news v
  room_changes few none = adds_changes o lc values news v low list.locked is_list adds (few_is few) (wanted_is ∙ none)

  pub taken_grows : (class : ℕ) → total ≤ most_items → list_takes (list_use_of old) total ≡ Some class → Grows o lc values news class v
  taken_grows class few is = adds_grows o lc values news v low list.locked is_list adds class (few_is few) (wanted_is ∙ is)

  pub no_table_lacks : (class : ℕ) → total ≤ most_items → list_takes (list_use_of old) total ≡ Some class → (stored : StoredWorld) → MayHave v stored → CanLackMemory stored.world (call.List o lc) × (would_pass stored.world (call.List o lc) ≡ false) × (takes_in stored (call.List o lc) ≡ Some class)
  no_table_lacks class few is stored has = lacks_table o lc values news v low list.locked is_list adds stored has class (few_is few) (wanted_is ∙ is)

  pub over_passes : most_items < total → (stored : StoredWorld) → MayHave v stored → CanLackMemory stored.world (call.List o lc) × (would_pass stored.world (call.List o lc) ≡ true)
  over_passes more stored has = let n = long in passes_most o lc values news v low list.locked is_list adds stored has (lt-ltb most_items (length news) (omega (arith, n, more)))

-- what a pass knows of a list with its table
pub knows_of : (k : Shape) (o : ℕ) (old : Option Table) (v : View) → KnowsList k o old v → KnowsItems k o v
knows_of k o old v list = record { container = list.container; kind = list.kind; locked = list.locked; even = list.even; stands = list.stands }

-- ---- the table that is taken

module _ (k : Shape) (old : Option Table) (table : Table) (class total : ℕ) (few : total ≤ most_items) (wanted : list_takes (list_use_of old) total ≡ Some class) (table_in : IsTableIn k table) (of_class : table.class ≡ class) where
  is_wanted : (list_class total ≡ class) × ((t : Table) → old ≡ Some t → list_items t.class < total)
  is_wanted = wanted_some old total class wanted

  holds : total ≤ list_items class
  holds = subst (λ (c : ℕ). total ≤ list_items c) is_wanted.0 (list_fits total few).1

  pub taken_room : total ≤ slots (class_of (table_id table))
  taken_room =
      let s = slots_are k table table_in in
      let h = holds in
      let same : list_items table.class ≡ list_items class = ap list_items of_class in
      omega (arith, s, h, same)

  -- it is another one than the list has
  pub taken_other : (t : Table) → old ≡ Some t → IsTableIn k t → table_id t ≢ table_id table
  taken_other t is t_in e =
      let c : t.class ≡ class = sym (class_is t t_in.2) ∙ (ap class_of e ∙ (class_is table table_in.2 ∙ of_class)) in
      let same : list_items t.class ≡ list_items class = ap list_items c in
      let less = is_wanted.1 t is in
      let h = holds in
      omega (arith, same, less, h)

  -- with room for more
  pub taken_wider : ((t : Table) → old ≡ Some t → IsTableIn k t) → (t : Table) → old ≡ Some t → slots (class_of (table_id t)) ≤ slots (class_of (table_id table))
  taken_wider tables t is =
      let s = slots_are k table table_in in
      let r = slots_are k t (tables t is) in
      let same : list_items table.class ≡ list_items class = ap list_items of_class in
      let less = is_wanted.1 t is in
      let h = holds in
      omega (arith, s, r, same, less, h)

  pub taken_root : ((t : Table) → old ≡ Some t → IsTableIn k t) → root_for old ≢ suc (table_id table)
  taken_root tables e = at old refl e
    where
      at : (any : Option Table) → old ≡ any → root_for any ≡ suc (table_id table) → ⊥
      at None is e = omega (arith, e)
      at (Some t) is e = taken_other t is (tables t is) (omega (arith, e))

-- ---- the root that was read

pub root_named : (result : Option Table) (root : ℕ) → IfSome result (λ t. root ≡ suc (table_id t)) → IfNone result (root ≡ 0) → root ≡ root_for result
root_named None root some_one none = none
root_named (Some t) root some_one none = some_one

-- ---- after a taking

module _ (F : ℕ → Type 0) (v u : View) (same : SamePass v u) (keeps : KeepsBut F v u) where
  -- what the bank may have then, it may have had before
  pub tried_has : (stored : StoredWorld) → MayHave u stored → MayHave v stored
  tried_has stored has = record {
    agrees = λ p low mine. has.agrees p (subst (λ (z : Shape). p < container_count z) (sym same.shape) low) (same.locks p ∙ mine) ∙ (keeps.held.words p low mine).1;
    containers = has.containers ∙ ap container_count same.shape;
    kinds = has.kinds ∙ ap (λ (z : Shape). kinds_in z.starts) same.shape;
    order = has.order;
    unsplit = has.unsplit;
    words = has.words;
  }

  pub tried_grows : (o : ℕ) (lc : ListCall) (before news : List Value) (class : ℕ) → Grows o lc before news class v → Grows o lc before news class u
  tried_grows o lc before news class is = grows_from v u tried_has (λ p mine. same.locks p ∙ mine) o lc before news class is

  pub tried_knows : (k : Shape) (o : ℕ) (old : Option Table) → v.shape ≡ k → KnowsList k o old v → KnowsList k o old u
  tried_knows k o old shape list =
      let w = keeps.held.words o (subst (λ (z : Shape). o < container_count z) (sym shape) list.container) list.locked in
      knows_on k o old v u w.2 w.1 (same.locks o) (same.writes o) list

  pub tried_addition : (k : Shape) (count : ℕ) (addition : Addition) → v.shape ≡ k → ∥ IsReachable v ∥₁ → IsAddition k count addition v → IsAddition k count addition u
  tried_addition k count addition shape possible is = addition_on k count addition v u (keeps_boxes v u possible keeps.boxes)
      (λ p list. let w = keeps.held.words p (subst (λ (z : Shape). p < container_count z) (sym shape) list.container) list.locked in (w.2, w.1, same.locks p, same.writes p)) is

  pub tried_news : (k : Shape) (count : ℕ) (addition : Addition) → v.shape ≡ k → IsAddition k count addition v → (values : List Value) → with_added addition u values ≡ with_added addition v values
  tried_news k count addition shape is values = news_on k count addition v u (λ p list. (keeps.held.words p (subst (λ (z : Shape). p < container_count z) (sym shape) list.container) list.locked).1) is values

  pub tried_items : (k : Shape) (o : ℕ) (old : Option Table) → v.shape ≡ k → KnowsList k o old v → known_items o u ≡ known_items o v
  tried_items k o old shape list = ap (λ (z : ContainerState). list_of z.content) (keeps.held.words o (subst (λ (z : Shape). o < container_count z) (sym shape) list.container) list.locked).1

  -- it may put the table into the root
  pub tried_may : (k : Shape) (o : ℕ) (old : Option Table) (table : Table) (class : ℕ) → v.shape ≡ k → MayAdd k o old v → IsTableIn k table → table.class ≡ class → stage (table_id table) u.log ≡ 1 → owes u.log ≡ suc class → MayGrowList k o old table u
  tried_may k o old table class shape may table_in of_class fresh owed = record {
    list = tried_knows k o old shape may.list;
    even = λ p. same.writes p ∙ may.even p;
    used = keeps.held.used ∙ may.used;
    owed = owed ∙ ap suc (sym (class_is table table_in.2 ∙ of_class));
    fresh = fresh;
    table_in = table_in;
    settled = (stays_settled_same v u keeps.boxes.made).settled may.settled;
    few = few_same v u keeps.boxes.references may.few;
    left = subst (λ (n : ℕ). 0 < n) (sym keeps.held.left) may.left;
  }

-- ---- what the call comes to, seen from before its loads

pub adds_items : (k : Shape) (o n : ℕ) (old : Option Table) (v u w : View) (total : ℕ) (called : Call) (what : Added) → OnlyLoaded v u → KnowsList k o old u → u.shape ≡ k → ∥ IsReachable u ∥₁ → total ≡ length (known_items o v) + n → IsAdded k (list_takes (list_use_of old) total) (nat_lt most_items total) called reply.Done u w what → AddsItems k o called n v w what
adds_items k o n old v u w total called what loaded list shape possible total_is is =
    let same : known_state o u ≡ known_state o v = work_knows v u o loaded.work in
    let table = list_use k o old u list (knows_content k o old u shape possible list) (no_keys u o possible list.locked) in
    let takes : list_takes (list_use_of old) total ≡ list_takes (known_state o v).table (length (known_items o v) + n) =
    λ d. list_takes ((sym table ∙ ap (λ (z : ContainerState). z.table) same) d) (total_is d) in
    let over : nat_lt most_items total ≡ nat_lt most_items (length (known_items o v) + n) = ap (λ (z : ℕ). nat_lt most_items z) total_is in
    (u, loaded, subst (λ (z : Option ℕ × Bool). IsAdded k z.0 z.1 called reply.Done u w what) (λ d. (takes d, over d)) is)
