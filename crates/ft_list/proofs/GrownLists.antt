-- Lists that get another table: that the root may be put, and what the words of the list are then.
use Rattle.std.proofs.Common.{◌≡◌, ◌≢◌, ℕ, suc, ◌<◌, ◌≤◌, true, true≢false, List, ◌∷◌, length, Option, Some, None, refl, sym, ap, ◌∙◌, subst, inl, inr, arith, length-set, get_or-set_same, get_or-set_other}
use Rattle.std.specs.Prelude.{is_some, slice_index, slice_index_or, slice_set}
use Rattle.std.proofs.lemmas.Bool.{cases_eq}
use Rattle.std.specs.Option.{unwrap_or}
use Rattle.ft_model.specs.declared.content.Content.{Content}
use Rattle.ft_model.specs.declared.content.Content.TheVariants as content
use Rattle.ft_model.specs.declared.script.Kind.{Kind}
use Rattle.ft_model.specs.declared.script.Kind.TheVariants as kind
use Rattle.ft_model.specs.declared.data.Value.TheVariants as value
use Rattle.ft_layout.specs.declared.slot.Stored.{Stored}
use Rattle.ft_layout.specs.declared.slot.Stored.TheVariants.{Plain}
use Rattle.ft_layout.specs.Words.{IsStored}
use Rattle.ft_layout.specs.Containers.{IsRoot, IsBlock, IsListWords, StandsAs}
use Rattle.ft_trace.specs.declared.Act.TheVariants.{StartWrite}
use Rattle.ft_trace.specs.declared.Shape.{Shape}
use Rattle.ft_trace.specs.declared.View.{View}
use Rattle.ft_trace.specs.Acts.{has_lock, is_writing, mem, view_after, stage}
use Rattle.ft_trace.specs.Addresses.{container_count, class_of, slots}
use Rattle.ft_trace.specs.Holds.{held_words, held_unboxed, known_state, in_hand, hand_unboxed}
use Rattle.ft_trace.specs.Kinds.{rows, version_at, SoundAs}
use Rattle.ft_trace.specs.OddVersions.{Shut}
use Rattle.ft_trace.specs.Traces.{IsReachable}
use Rattle.ft_trace.specs.Pictures.{ContainerWords, root_in, Represents, item_field, table_words}
use Rattle.ft_trace.specs.ContainerStates.{ContainerState, kind_in}
use Rattle.ft_trace.proofs.Cases.{hit}
use Rattle.ft_bank.specs.declared.table.Table.{Table}
use Rattle.ft_bank.specs.TableNames.{table_id, IsTableIn}
use Rattle.ft_bank.specs.WriteSteps.{MayPutRoot}
use Rattle.ft_bank.proofs.TableAddresses.{class_is}
use Rattle.ft_bank.specs.Whole.{OnlyLoaded}
use Rattle.ft_table_calls.specs.Adding.{OnlyFilled}
use Rattle.ft_list.specs.ListItemWrites.{known_items, stored_item}
use Rattle.ft_list.specs.Internal.NewListTables.{KnowsList, MayAdd, MayGrowList, IsFilled}
use Rattle.ft_list.specs.ListWrites.{MayBeginList}
use Rattle.ft_list.proofs.Cares.{table_class}
use Rattle.ft_list.proofs.Filling.{filled_sound}
use Rattle.ft_list.proofs.Lists.{list_content, list_known, list_rooted, list_shut}
use Rattle.ft_list.proofs.ItemWordsPut.{at_words, list_few, stored_some}
use Rattle.ft_search.proofs.Puts.{few_same}
use Rattle.ft_bank.specs.SameBoxes.{named_in_words}
use Rattle.ft_bank.proofs.DoneBoxes.{stays_settled_same}
use Rattle.ft_list.proofs.TakenNames.{taken_unnamed}
use Rattle.ft_trace.specs.Boxes.{named_in_root}

-- ---- what a pass knows of a list stays, where it knows the same words and the same content

pub knows_on : (k : Shape) (o : ℕ) (old : Option Table) (v w : View) → held_unboxed o w ≡ held_unboxed o v → known_state o w ≡ known_state o v → has_lock o w.log ≡ has_lock o v.log → is_writing o w.log ≡ is_writing o v.log → KnowsList k o old v → KnowsList k o old w
knows_on k o old v w same_words same_content lock writes list = record {
  container = list.container;
  kind = list.kind;
  locked = lock ∙ list.locked;
  even = writes ∙ list.even;
  stands = subst (λ (x : ContainerWords × ContainerState). Represents k.texts x.0 x.1) (λ d. (sym same_words d, sym same_content d)) list.stands;
  table_in = list.table_in;
  root = ap root_in same_words ∙ list.root;
}

-- after words were put into a fresh table
pub knows_filled : (k : Shape) (o : ℕ) (old : Option Table) (v w : View) → v.shape ≡ k → OnlyFilled v w → KnowsList k o old v → KnowsList k o old w
knows_filled k o old v w shape only list =
    let low : o < container_count v.shape = subst (λ (z : Shape). o < container_count z) (sym shape) list.container in
    let x = only.keeps o low list.locked list.even in
    knows_on k o old v w x.2 x.1 (only.work.pass.locks o) (only.work.pass.writes o) list

pub grow_filled : (k : Shape) (o : ℕ) (old : Option Table) (table : Table) (v w : View) → v.shape ≡ k → OnlyFilled v w → MayGrowList k o old table v → MayGrowList k o old table w
grow_filled k o old table v w shape only may = record {
  list = knows_filled k o old v w shape only may.list;
  even = λ p. only.work.pass.writes p ∙ may.even p;
  used = only.work.used ∙ may.used;
  owed = only.work.owes ∙ may.owed;
  fresh = only.work.hands (table_id table) ∙ may.fresh;
  table_in = may.table_in;
  settled = (stays_settled_same v w only.made).settled may.settled;
  few = few_same v w only.references may.few;
  left = subst (λ (n : ℕ). 0 < n) (sym only.work.left) may.left;
}

-- who may add may begin a write
pub add_begins : (k : Shape) (o : ℕ) (old : Option Table) (v : View) → MayAdd k o old v → MayBeginList k o v
add_begins k o old v may = record {
  container = may.list.container;
  kind = may.list.kind;
  locked = may.list.locked;
  even = may.even;
  stands = may.list.stands;
  owes = may.owes;
  settled = may.settled;
  few = may.few;
  left = may.left;
}

-- ---- the root

-- a block with another root
pub with_other_root : (b : List ℕ) (class : Option ℕ) (k : Shape) (table : Table) (count : ℕ) → IsBlock b class count 0 0 → IsTableIn k table → IsBlock (slice_set b 0 (suc (table_id table))) (Some (class_of (table_id table))) count 0 0
with_other_root b class k table count h table_in =
    let size_is = h.size in
    let names : slice_index (slice_set b 0 (suc (table_id table))) 0 ≡ suc (table_id table) = get_or-set_same b 0 (suc (table_id table)) 0 (omega (arith, size_is)) in
    let other : (i : ℕ) → i ≢ 0 → slice_index (slice_set b 0 (suc (table_id table))) i ≡ slice_index b i = λ i ne. get_or-set_other b 0 i (suc (table_id table)) 0 ne in
    let c = class_is table table_in.2 in
    record {
      size = length-set b 0 (suc (table_id table)) ∙ h.size;
      root = subst (λ (r : ℕ). IsRoot r (Some (class_of (table_id table)))) (sym names) (table.number, (table_class k table table_in, table_in.2, omega (arith, c)));
      count_is = other 1 (λ e. absurd (omega (arith, e))) ∙ h.count_is;
      fill_is = other 2 (λ e. absurd (omega (arith, e))) ∙ h.fill_is;
      next_is = other 3 (λ e. absurd (omega (arith, e))) ∙ h.next_is;
      spare = (other 4 (λ e. absurd (omega (arith, e))) ∙ h.spare.0, other 5 (λ e. absurd (omega (arith, e))) ∙ h.spare.1);
    }

-- the block of a list
pub list_head : (texts : List ℕ) (v : View) (o : ℕ) → (known_state o v).content ≡ content.List (known_items o v) → Represents texts (held_unboxed o v) (known_state o v) → IsBlock (held_unboxed o v).block (known_state o v).table.class (length (known_items o v)) 0 0
list_head texts v o is stands =
    let says : IsListWords (held_unboxed o v).block (0 ∷ 0 ∷ (held_unboxed o v).table) (known_state o v).table.class (known_items o v) × ((known_state o v).table.fill ≡ 0) = subst (λ (z : Content). StandsAs texts (held_unboxed o v).block (0 ∷ 0 ∷ (held_unboxed o v).table) (known_state o v).table z) is stands in
    says.0.head

module _ (k : Shape) (o : ℕ) (old : Option Table) (table : Table) (v : View) (may : MayGrowList k o old table v) (shape : v.shape ≡ k) (possible : ∥ IsReachable v ∥₁) where
  abbrev c : ℕ
  c = class_of (table_id table)

  abbrev ws : List ℕ
  ws = in_hand (table_id table) v

  list_kind : kind_in v.shape.starts o ≡ kind.List
  list_kind = ap (λ (z : Shape). kind_in z.starts o) shape ∙ may.list.kind

  low : o < container_count v.shape
  low = subst (λ (z : Shape). o < container_count z) (sym shape) may.list.container

  pub grow_content : (known_state o v).content ≡ content.List (known_items o v)
  grow_content = list_content v o possible may.list.locked list_kind

  the_one : (t : Table) → Some table ≡ Some t → table ≡ t
  the_one t e = ap (λ (z : Option Table). unwrap_or z table) e

  -- the table is filled with what the list has, and names each box as often as the old one
  module _ (filled : IsFilled c (known_items o v) (slots c) (hand_unboxed o (table_id table) v)) (names : (b : ℕ) → named_in_root b (kind_in v.shape.starts o) (suc (table_id table)) ws ≡ named_in_words b (kind_in v.shape.starts o) (held_words o v)) (room : length (known_items o v) ≤ slots c) where
    sound_here : SoundAs (kind_in v.shape.starts o) v.shape.texts c (hand_unboxed o (table_id table) v) (known_state o v).content
    sound_here =
        subst (λ (z : Kind). SoundAs z v.shape.texts c (hand_unboxed o (table_id table) v) (known_state o v).content) (sym list_kind)
        (filled_sound c (table_class k table may.table_in) (known_items o v) (hand_unboxed o (table_id table) v) filled room)

    young_here : (p : ℕ) → p < rows (kind_in v.shape.starts o) c → slice_index (hand_unboxed o (table_id table) v) (version_at (kind_in v.shape.starts o) c p) ≡ 0
    young_here = subst (λ (z : Kind). (p : ℕ) → p < rows z c → slice_index (hand_unboxed o (table_id table) v) (version_at z c p) ≡ 0) (sym list_kind) filled.version

    shut_here : (t : ℕ) → root_in (held_unboxed o v) ≡ suc t → Shut (version_at (kind_in v.shape.starts o) (class_of t)) (rows (kind_in v.shape.starts o) (class_of t)) (held_unboxed o v).table
    shut_here t names = subst (λ (z : Kind). Shut (version_at z (class_of t)) (rows z (class_of t)) (held_unboxed o v).table) (sym list_kind) (list_shut v o t possible low may.list.locked may.list.even list_kind names)

    pub may_root : (f : ℕ) → MayPutRoot (view_after (StartWrite o f) v) o (Some table)
    may_root f = record {
      odd = hit o true (is_writing o v.log);
      fresh = λ t e. subst (λ (z : Table). stage (table_id z) v.log ≡ 1) (the_one t e) may.fresh;
      sound = λ t e. subst (λ (z : Table). SoundAs (kind_in v.shape.starts o) v.shape.texts (class_of (table_id z)) (hand_unboxed o (table_id z) v) (known_state o v).content) (the_one t e) sound_here;
      young = λ t p e row.
          let here = subst (λ (z : Table). (q : ℕ) → q < rows (kind_in v.shape.starts o) (class_of (table_id z)) → slice_index (hand_unboxed o (table_id z) v) (version_at (kind_in v.shape.starts o) (class_of (table_id z)) q) ≡ 0) (the_one t e) young_here p row in
          (omega (arith, here), (λ late. here));
      shut = shut_here;
      spare = λ some_one. may.used;
      early = λ e. absurd (true≢false (ap is_some e));
      references = record {
        few = may.few;
        enough = λ b. let same = names b in omega (arith, same);
        known = λ b old_none some_. absurd (some_ (names b ∙ old_none));
        stored = λ b taken. names b ∙ taken_unnamed v o b possible low may.list.locked may.even taken;
      };
    }

-- ---- what the table of a list stores

pub list_stores : (k : Shape) (o : ℕ) (table : Table) (v : View) → KnowsList k o (Some table) v → (known_state o v).content ≡ content.List (known_items o v) → (p : ℕ) → p < length (known_items o v) → (p < slots (class_of (table_id table))) × IsStored (item_field (held_unboxed o v).table p 1) (item_field (held_unboxed o v).table p 2) (stored_item (known_items o v) p)
list_stores k o table v list is p less =
    let class = class_of (table_id table) in
    let is_class = table_class k table (list.table_in table refl) in
    let words = (list_known k.texts v o (table_id table) is list.stands list.root).0 in
    let few = list_few class is_class (known_items o v) (0 ∷ 0 ∷ (held_unboxed o v).table) words.table in (
      omega (arith, few, less),
      subst (λ (z : Stored). IsStored (item_field (held_unboxed o v).table p 1) (item_field (held_unboxed o v).table p 2) z) (sym (stored_some (known_items o v) p value.Nothing less))
          (at_words (held_unboxed o v).table p (Plain (slice_index_or (known_items o v) p value.Nothing)) (words.table.items p value.Nothing less)),
    )

-- a list without a table stores nothing
pub list_bare : (k : Shape) (o : ℕ) (v : View) → KnowsList k o None v → (known_state o v).content ≡ content.List (known_items o v) → length (known_items o v) ≡ 0
list_bare k o v list is = elim (cases_eq (length (known_items o v)) 0) [ inl e ↦ e | inr ne ↦ absurd (list_rooted k.texts v o is list.stands ne list.root) ]

-- a pass of a bank knows that it is one
pub knows_content : (k : Shape) (o : ℕ) (old : Option Table) (v : View) → v.shape ≡ k → ∥ IsReachable v ∥₁ → KnowsList k o old v → (known_state o v).content ≡ content.List (known_items o v)
knows_content k o old v shape possible list = list_content v o possible list.locked (ap (λ (z : Shape). kind_in z.starts o) shape ∙ list.kind)

-- loads leave the words of a table in hand
pub hand_loaded : (t : ℕ) (v w : View) → OnlyLoaded v w → in_hand t w ≡ in_hand t v
hand_loaded t v w l = ap (λ (z : Shape). table_words z t (mem z w.log)) l.work.pass.shape ∙ ap (λ (ws : List ℕ). table_words v.shape t ws) l.words

-- no version is odd in the table of a list that nobody writes
pub knows_shut : (k : Shape) (o : ℕ) (old : Option Table) (v : View) → v.shape ≡ k → ∥ IsReachable v ∥₁ → KnowsList k o old v → (t : ℕ) → root_in (held_unboxed o v) ≡ suc t → Shut (version_at (kind_in v.shape.starts o) (class_of t)) (rows (kind_in v.shape.starts o) (class_of t)) (held_unboxed o v).table
knows_shut k o old v shape possible list t names =
    let is_kind : kind_in v.shape.starts o ≡ kind.List = ap (λ (z : Shape). kind_in z.starts o) shape ∙ list.kind in
    let low : o < container_count v.shape = subst (λ (z : Shape). o < container_count z) (sym shape) list.container in
    subst (λ (z : Kind). Shut (version_at z (class_of t)) (rows z (class_of t)) (held_unboxed o v).table) (sym is_kind) (list_shut v o t possible low list.locked list.even is_kind names)
