-- The beginning and the end of a write that takes elements out of a set.
use Rattle.std.proofs.Common.{◌≡◌, ◌≢◌, ℕ, suc, ◌+◌, ◌%◌, ◌<◌, ◌≤◌, Bool, true, false, List, [], ◌∷◌, filter, cond, ne_eqb, Option, Some, None, refl, sym, ap, ◌∙◌, subst, arith}
use Rattle.std.specs.Prelude.{map, not, slice_index}
use Rattle.ft_model.specs.declared.call.Call.{Call}
use Rattle.ft_model.specs.declared.content.Content.{Content}
use Rattle.ft_model.specs.declared.content.Content.TheVariants as content
use Rattle.ft_model.specs.declared.content.Element.{Element}
use Rattle.ft_model.specs.declared.data.Key.{Key}
use Rattle.ft_model.specs.declared.reply.Reply.{Reply}
use Rattle.ft_model.specs.declared.script.Kind.{Kind}
use Rattle.ft_model.specs.declared.script.Kind.TheVariants as kind
use Rattle.ft_model.specs.Classes.{set_entries}
use Rattle.ft_model.specs.Contents.{SetContent, has_element}
use Rattle.ft_model.specs.TableUses.{StoredWorld, TableUse}
use Rattle.ft_model.specs.Worlds.{kind_of, set_of}
use Rattle.ft_hash.specs.Probes.{set_slots}
use Rattle.ft_layout.specs.Containers.{class_mask, used_element, IsSetWords}
use Rattle.ft_layout.specs.Tables.{is_live, set_room}
use Rattle.ft_layout.specs.Words.{FitsKey}
use Rattle.ft_layout.proofs.KindLaws.{head_of}
use Rattle.ft_layout.proofs.WordLaws.{kind_range}
use Rattle.ft_trace.specs.declared.Act.TheVariants.{StartWrite}
use Rattle.ft_trace.specs.declared.Shape.{Shape}
use Rattle.ft_trace.specs.declared.View.{View}
use Rattle.ft_trace.specs.Acts.{has_committed, has_lock, is_writing, view_after}
use Rattle.ft_trace.specs.Addresses.{class_of, container_count, slots}
use Rattle.ft_trace.specs.Carefuls.{IsDead, HasLiveKey, OpensChanged}
use Rattle.ft_trace.specs.Holds.{held_unboxed, known_state}
use Rattle.ft_trace.specs.Kinds.{ClearAs, rows, under, version_at}
use Rattle.ft_trace.specs.OddVersions.{Shut}
use Rattle.ft_trace.specs.Traces.{IsReachable}
use Rattle.ft_trace.specs.Pictures.{ContainerWords, root_in, Represents}
use Rattle.ft_trace.specs.ContainerStates.{ContainerState, kind_in, kinds_in}
use Rattle.ft_trace.proofs.Cases.{hit}
use Rattle.ft_trace.proofs.FitCalls.{set_fits_words}
use Rattle.ft_trace.proofs.Known.{class_known}
use Rattle.ft_trace.proofs.LookReplies.{element_there}
use Rattle.ft_trace.proofs.SetKnown as set
use Rattle.ft_trace.proofs.Tellings.{word_is}
use Rattle.ft_bank.specs.declared.table.Table.{Table}
use Rattle.ft_bank.specs.TableNames.{table_id}
use Rattle.ft_bank.specs.Whole.{OnlyLoaded, OnlyWritten}
use Rattle.ft_bank.specs.WriteSteps.{MayHave}
use Rattle.ft_bank.proofs.KnownAfterWrites.{work_knows}
use Rattle.ft_search.specs.Held.{IsHeldAt}
use Rattle.ft_search.specs.OneEntryWrites.{HasTable, KnowsEntries, Leaves, MayWriteEntries}
use Rattle.ft_search.proofs.Changing.{shut_known}
use Rattle.ft_search.proofs.ReadyCommits.{leaves_later, may_commit, writes_begun}
use Rattle.ft_search.proofs.FoundInContents.{set_known}
use Rattle.ft_search.proofs.Puts.{table_class}
use Rattle.ft_merging.specs.Thinning.{stays, thinned, thinned_state}
use Rattle.ft_merging.specs.Internal.ThinningSteps.{IsThinned, spared}
use Rattle.ft_merging.specs.Internal.EntriesAtOnce.{IsMidway, MayFinishAll, version_of}
use Rattle.ft_merging.proofs.Ending.{Laws, clear_of}
use Rattle.ft_merging.proofs.Thinned.{spared_own, thinned_all}

-- what the pass knows is a set
pub is_set : (k : Shape) (v : View) (s : ℕ) → v.shape ≡ k → ∥ IsReachable v ∥₁ → has_lock s v.log ≡ true → kind_in k.starts s ≡ kind.Set → (known_state s v).content ≡ content.Set (set_of (known_state s v).content)
is_set k v s shape possible mine is =
    let p = set_known v s possible mine (ap (λ (z : Shape). kind_in z.starts s) shape ∙ is) in
    p.1 ∙ sym (ap (λ (z : Content). content.Set (set_of z)) p.1)

-- ---- another set

-- its element was found, or it wasn't
pub found_there : (k : Shape) (v : View) (t : ℕ) (table : Table) (key : Key) (a b : ℕ) → v.shape ≡ k → ∥ IsReachable v ∥₁ → KnowsEntries k t v → HasTable k t table v → kind_in k.starts t ≡ kind.Set → FitsKey key → IsHeldAt (known_state t v).content key (Some (a, b)) → has_element (set_of (known_state t v).content).elements key ≡ true
found_there k v t table key a b shape possible may has is fits there =
    let others = set_of (known_state t v).content in
    let set_is = is_set k v t shape possible may.locked is in
    let here : IsHeldAt (content.Set others) key (Some (a, b)) = subst (λ (z : Content). IsHeldAt z key (Some (a, b))) set_is there in
    let stands : Represents k.texts (held_unboxed t v) (record { content = content.Set others; table = (known_state t v).table }) = subst (λ (z : Content). Represents k.texts (held_unboxed t v) (record { content = z; table = (known_state t v).table })) set_is may.stands in
    let says : IsSetWords k.texts (held_unboxed t v).block (0 ∷ 0 ∷ (held_unboxed t v).table) (Some (class_of (table_id table))) (known_state t v).table.fill others = subst (λ (z : Option ℕ). IsSetWords k.texts (held_unboxed t v).block (0 ∷ 0 ∷ (held_unboxed t v).table) z (known_state t v).table.fill others) (class_known k.texts (held_unboxed t v) (known_state t v) (table_id table) may.stands has.root) stands in
    element_there others key fits (set_fits_words k.texts (held_unboxed t v).block (0 ∷ 0 ∷ (held_unboxed t v).table) (class_of (table_id table)) (known_state t v).table.fill others says)
    (λ none. absurd (let e = sym here.1 ∙ none in cc))

pub missing_there : (k : Shape) (v : View) (t : ℕ) (key : Key) → v.shape ≡ k → ∥ IsReachable v ∥₁ → KnowsEntries k t v → kind_in k.starts t ≡ kind.Set → IsHeldAt (known_state t v).content key None → has_element (set_of (known_state t v).content).elements key ≡ false
missing_there k v t key shape possible may is none = subst (λ (z : Content). IsHeldAt z key None) (is_set k v t shape possible may.locked is) none

-- it may be read on, while the first one is written
pub other_stays : (k : Shape) (s t : ℕ) (v w : View) → v.shape ≡ k → OnlyWritten s v w → s ≢ t → KnowsEntries k t v → KnowsEntries k t w
other_stays k s t v w shape only ne may =
    let same : held_unboxed t v ≡ held_unboxed t w = sym (only.others t (subst (λ (z : Shape). t < container_count z) (sym shape) may.container) (λ e. ne (sym e)) may.locked may.even).1 in
    let knows : known_state t v ≡ known_state t w = sym (work_knows v w t only.work) in
    record {
      container = may.container;
      keyed = may.keyed;
      locked = only.work.pass.locks t ∙ may.locked;
      even = only.work.pass.writes t ∙ may.even;
      stands = subst (λ (z : ContainerWords × ContainerState). Represents k.texts z.0 z.1) (λ d. (same d, knows d)) may.stands;
    }

pub other_begun : (k : Shape) (s t : ℕ) (v u : View) (f : ℕ) → u ≡ view_after (StartWrite s f) v → s ≢ t → KnowsEntries k t v → KnowsEntries k t u
other_begun k s t v u f begun ne may = record {
  container = may.container;
  keyed = may.keyed;
  locked = ap (λ (z : View). has_lock t z.log) begun ∙ may.locked;
  even = ap (λ (z : View). is_writing t z.log) begun ∙ (ap (λ (b : Bool). cond b true (is_writing t v.log)) (ne_eqb s t ne) ∙ may.even);
  stands = subst (λ (z : View). Represents k.texts (held_unboxed t z) (known_state t z)) (sym begun) may.stands;
}

-- ---- whether an element stays

pub stays_found : (kept found : Bool) (others : SetContent) (key : Key) → found ≡ has_element others.elements key → found ≡ kept → stays kept others key ≡ true
stays_found true found others key is same = sym is ∙ same
stays_found false found others key is same = ap not (sym is ∙ same)

pub goes_found : (kept found : Bool) (others : SetContent) (key : Key) → found ≡ has_element others.elements key → found ≢ kept → stays kept others key ≡ false
goes_found true true others key is ne = absurd (ne refl)
goes_found true false others key is ne = sym is
goes_found false true others key is ne = ap not (sym is)
goes_found false false others key is ne = absurd (ne refl)

-- ---- a set that has a table

module _ (k : Shape) (s : ℕ) (table : Table) (kept : Bool) (others : SetContent) (v u : View) (f : ℕ) (shape : v.shape ≡ k) (possible : ∥ IsReachable v ∥₁) (may : MayWriteEntries k s v) (is : kind_in k.starts s ≡ kind.Set) (has : HasTable k s table v) (begun : u ≡ view_after (StartWrite s f) v) where
  abbrev t : ℕ
  t = table_id table

  abbrev first : SetContent
  first = set_of (known_state s v).content

  pub first_known : (known_state s v).content ≡ content.Set first
  first_known = is_set k v s shape possible may.locked is

  held_back : held_unboxed s v ≡ held_unboxed s u
  held_back = sym (ap (held_unboxed s) begun)

  known_back : known_state s v ≡ known_state s u
  known_back = sym (ap (known_state s) begun)

  first_stands : Represents k.texts (held_unboxed s v) (record { content = content.Set first; table = (known_state s v).table })
  first_stands = subst (λ (z : Content). Represents k.texts (held_unboxed s v) (record { content = z; table = (known_state s v).table })) first_known may.stands

  pub first_says : IsSetWords k.texts (held_unboxed s v).block (0 ∷ 0 ∷ (held_unboxed s v).table) (Some (class_of t)) (known_state s v).table.fill first
  first_says = subst (λ (z : Option ℕ). IsSetWords k.texts (held_unboxed s v).block (0 ∷ 0 ∷ (held_unboxed s v).table) z (known_state s v).table.fill first) (class_known k.texts (held_unboxed s v) (known_state s v) t may.stands has.root) first_stands

  pub fill_fits : set.FirstEntriesAreElements → (known_state s v).table.fill ≤ set_entries (class_of t)
  fill_fits elements =
      let f = first_says.filled in
      let g = first_says.table.fill in
      let r = set.room_is elements k.texts (held_unboxed s v).block (class_of t) (known_state s v).table.fill (table_class k table has.table_in) first (held_unboxed s v).table first_says in
      omega (arith, f, g, r)

  pub evens : (p : ℕ) → p < rows (kind_in k.starts s) (class_of t) → version_of t (held_unboxed s v) p % 2 ≡ 0
  evens p less =
      let shut : Shut (version_at kind.Set (class_of t)) (rows kind.Set (class_of t)) (held_unboxed s v).table = subst (λ (z : Kind). Shut (version_at z (class_of t)) (rows z (class_of t)) (held_unboxed s v).table) (ap kind_of first_known) (shut_known k v s t shape possible may.container may.locked (may.even s) has.root) in
      shut p (subst (λ (z : Kind). p < rows z (class_of t)) is less)

  -- an entry that was never used isn't there
  pub unused : set.FirstEntriesAreElements → (p : ℕ) (key : Key) → p < set_entries (class_of t) → (known_state s v).table.fill ≤ p → HasLiveKey (slots (class_of t)) (held_unboxed s v).table p key → ⊥
  unused elements p key less up live =
      let class = table_class k table has.table_in in
      let filled = first_says.filled in
      let room = set.room_is elements k.texts (held_unboxed s v).block (class_of t) (known_state s v).table.fill class first (held_unboxed s v).table first_says in
      let none = (first_says.table.unused p (omega (arith, filled, up)) (omega (arith, room, less))).kind in
      let word = word_is (λ hash. set_slots hash (class_mask (class_of t)) (class_mask (class_of t) + 14)) (set_room (class_mask (class_of t))) k.texts (class_of t) class first_says.used (held_unboxed s v).table first_says.table p 2 in
      let kind = live.0 in
      let some = (kind_range key).0 in
      absurd (omega (arith, none, word, kind, some))

  -- what it has once those are out that don't stay
  abbrev pub thinned_to : ContainerState
  thinned_to = record { content = content.Set (thinned kept others first); table = (known_state s v).table }

  -- before the first deletion
  pub thinned_begins : set.FirstEntriesAreElements → IsThinned k s table kept others first thinned_to (known_state s v).table.fill 0 u
  thinned_begins elements = record {
    mid = first;
    midway = record {
      writes = writes_begun k s table v u f shape begun may has;
      early = ap (λ (z : View). has_committed s z.log) begun ∙ hit s false (has_committed s v.log);
      stands = subst (λ (z : ContainerWords). Represents k.texts z (record { content = content.Set first; table = (known_state s v).table })) held_back first_stands;
      same = λ p key less even live. ap (λ (z : Content). under z key) (sym first_known ∙ ap (λ (z : ContainerState). z.content) known_back);
      opens = subst (λ (z : ContainerWords). OpensChanged (slots (class_of t)) (rows (kind_in k.starts s) (class_of t)) z.table (under (known_state s u).content) (under (content.Set first))) held_back (λ p less odd. let e = evens p less in absurd (omega (arith, e, odd)));
      gone = subst (λ (z : ContainerWords). (p : ℕ) (key : Key) → p < rows (kind_in k.starts s) (class_of t) → version_of t z p % 2 ≡ 1 → IsDead (slots (class_of t)) z.table p key → under (content.Set first) key ≡ []) held_back (λ p key less odd dead. let e = evens p less in absurd (omega (arith, e, odd)));
      opened = subst (λ (z : ContainerWords). (p : ℕ) → p < rows (kind_in k.starts s) (class_of t) → version_of t z p % 2 ≡ 1 → p < (known_state s v).table.fill) held_back (λ p less odd. let e = evens p less in absurd (omega (arith, e, odd)));
    };
    first_is = ap (λ (z : ContainerState). z.content) (sym known_back) ∙ first_known;
    fits = set_fits_words k.texts (held_unboxed s v).block (0 ∷ 0 ∷ (held_unboxed s v).table) (class_of t) (known_state s v).table.fill first first_says;
    comes = ap (λ (es : List Element). content.Set (record { next = first.next; elements = es })) (spared_own kept others first first.elements (λ key there. there));
    even = subst (λ (z : ContainerWords). (p : ℕ) → p < rows (kind_in k.starts s) (class_of t) → 0 ≤ p → p < (known_state s v).table.fill → version_of t z p % 2 ≡ 0) held_back (λ p less up low. evens p less);
    done = λ p key less none ok live. absurd (omega (arith, none));
    rest = subst (λ (z : ContainerWords). (p : ℕ) (key : Key) → p < rows (kind_in k.starts s) (class_of t) → (known_state s v).table.fill ≤ p → FitsKey key → HasLiveKey (slots (class_of t)) z.table p key → spared kept others first key ≡ true) held_back
        (λ p key less up ok live. absurd (unused elements p key (subst (λ (z : Kind). p < rows z (class_of t)) is less) up live));
  }

  -- after the last one
  module _ (laws : Laws) (w : View) (only : OnlyWritten s u w) (last : ℕ) (left : SetContent) (table_left : TableUse) (th : IsThinned k s table kept others first (record { content = content.Set left; table = table_left }) last last w) (called : Call) (said : Reply) (leaves : Leaves s called said (record { content = content.Set left; table = table_left }) v) where
    abbrev after : ContainerState
    after = record { content = content.Set left; table = table_left }

    known_now : known_state s w ≡ known_state s v
    known_now = work_knows u w s only.work ∙ sym known_back

    midway : IsMidway k s table after w
    midway = subst (λ (z : Content). IsMidway k s table (record { content = z; table = table_left }) w) (thinned_all k s table kept others first after last last w is th laws.elements refl) th.midway

    here : ClearAs kind.Set k.texts (class_of t) (held_unboxed s w).table (known_state s v).content (content.Set left)
    here =
        clear_of laws k.texts (held_unboxed s w) t (table_class k table has.table_in) midway.writes.root (content.Set left) after refl tt midway.stands (known_state s v).content
        (λ p key low even live. midway.same p key (subst (λ (z : Kind). p < rows z (class_of t)) (sym is) low) even live ∙ ap (λ (z : ContainerState). under z.content key) known_now)
        (subst (λ (z : Kind × ContainerState). OpensChanged (slots (class_of t)) (rows z.0 (class_of t)) (held_unboxed s w).table (under z.1.content) (under (content.Set left))) (λ d. (is d, known_now d)) midway.opens)

    clears : (q : ℕ) → root_in (held_unboxed s w) ≡ suc q → ClearAs (kind_in v.shape.starts s) v.shape.texts (class_of q) (held_unboxed s w).table (known_state s v).content after.content
    clears q names =
        let same : t ≡ q = let e : suc t ≡ suc q = sym midway.writes.root ∙ names in omega (arith, e) in
        let kind_now : kind.Set ≡ kind_in v.shape.starts s = sym (ap (λ (z : Shape). kind_in z.starts s) shape ∙ is) in
        let texts_now : k.texts ≡ v.shape.texts = sym (ap (λ (z : Shape). z.texts) shape) in
        let class_now : class_of t ≡ class_of q = ap class_of same in
        subst (λ (z : Kind × List ℕ × ℕ). ClearAs z.0 z.1 z.2 (held_unboxed s w).table (known_state s v).content (content.Set left)) (λ d. (kind_now d, texts_now d, class_now d)) here

    pub thinned_finishes : MayFinishAll k s table table_left.fill called said w
    thinned_finishes = record {
      may = may_commit s v u w f begun only called said after leaves (subst (λ (z : Shape). s < container_count z) (sym shape) may.container) may.left may.owes may.boxes.stored clears;
      changed = leaves.changed;
      left = after;
      left_is = (leaves_later s v u w f begun only called said after leaves).left_is;
      used = refl;
      midway = midway;
    }

-- ---- a set that has none

-- it has no elements
pub none_thinned : (k : Shape) (v : View) (s : ℕ) (kept : Bool) (others : ContainerState) → v.shape ≡ k → ∥ IsReachable v ∥₁ → MayWriteEntries k s v → kind_in k.starts s ≡ kind.Set → root_in (held_unboxed s v) ≡ 0 → thinned_state kept others (known_state s v) ≡ known_state s v
none_thinned k v s kept others shape possible may is bare =
    let set_is = is_set k v s shape possible may.locked is in
    let first = set_of (known_state s v).content in
    let stands : Represents k.texts (held_unboxed s v) (record { content = content.Set first; table = (known_state s v).table }) = subst (λ (z : Content). Represents k.texts (held_unboxed s v) (record { content = z; table = (known_state s v).table })) set_is may.stands in
    let none = no_elements k.texts (held_unboxed s v).block (0 ∷ 0 ∷ (held_unboxed s v).table) (known_state s v).table.class (known_state s v).table.fill first stands bare in
    let f : List Element → List Element = filter (λ (element : Element). stays kept (set_of others.content) element.key) in
    let same : f first.elements ≡ first.elements = ap f none ∙ sym none in
    λ i. record { content = (let e : content.Set (record { next = first.next; elements = f first.elements }) ≡ (known_state s v).content = ap (λ (z : List Element). content.Set (record { next = first.next; elements = z })) same ∙ sym set_is in e) i; table = (known_state s v).table }
  where
    no_elements : (texts block words : List ℕ) (class : Option ℕ) (fill : ℕ) (elements : SetContent) → IsSetWords texts block words class fill elements → slice_index block 0 ≡ 0 → elements.elements ≡ []
    no_elements texts block words None fill elements says bare =
        let none : map used_element elements.elements ≡ [] = sym says.entries.live ∙ ap (filter is_live) says.table in
        empty_map elements.elements none
      where
        empty_map : (es : List Element) → map used_element es ≡ [] → es ≡ []
        empty_map [] e = refl
        empty_map (x ∷ xs) e = absurd (cc)
    no_elements texts block words (Some class) fill elements says bare = absurd (let r = says.head.root.1.2 in omega (arith, r, bare))

-- ---- after loads

module _ (v u : View) (l : OnlyLoaded v u) where
  had : (stored : StoredWorld) → MayHave u stored → MayHave v stored
  had stored has = record {
    agrees = λ p low mine. has.agrees p (subst (λ (z : Shape). p < container_count z) (sym l.work.pass.shape) low) (l.work.pass.locks p ∙ mine) ∙ work_knows v u p l.work;
    containers = has.containers ∙ ap container_count l.work.pass.shape;
    kinds = has.kinds ∙ ap (λ (z : Shape). kinds_in z.starts) l.work.pass.shape;
    order = has.order;
    unsplit = has.unsplit;
    words = has.words;
  }

  -- a call leaves the same
  pub leaves_loaded : (o : ℕ) (called : Call) (said : Reply) (left : ContainerState) → Leaves o called said left v → Leaves o called said left u
  leaves_loaded o called said left x = record {
    write = x.write;
    changed = x.changed;
    words = x.words;
    locks = λ p e. l.work.pass.locks p ∙ x.locks p e;
    replied = λ stored has. x.replied stored (had stored has);
    declared = λ stored has. x.declared stored (had stored has);
    fits = λ stored has. x.fits stored (had stored has);
    left_is = λ stored has. x.left_is stored (had stored has);
  }

-- how many entries of its table are used
pub fill_known : (k : Shape) (o : ℕ) (v : View) → MayWriteEntries k o v → slice_index (held_unboxed o v).block 2 ≡ (known_state o v).table.fill
fill_known k o v may = (head_of k.texts (held_unboxed o v).block (0 ∷ 0 ∷ (held_unboxed o v).table) (known_state o v).table (known_state o v).content may.stands).fill_is
