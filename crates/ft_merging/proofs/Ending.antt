-- That the versions of the entries that a write put may be made even after its commit, one after the other.
use Rattle.std.proofs.Common.{◌≡◌, ◌≢◌, ◌⊎◌, ℕ, zero, suc, ◌+◌, ◌%◌, ◌<◌, ◌≤◌, Bool, true, List, [], ◌∷◌, length, Option, Some, refl, sym, ap, ◌∙◌, subst, inl, inr, ⊎_elim, arith, get_or-set_same, get_or-set_other}
use Rattle.std.specs.Prelude.{slice_index, slice_set}
use mathlib.Core.Logic.{dite}
use native.Mathlib.Decide.{ℕ_discrete}
use Rattle.std.proofs.Math.Decide.{dec_lt}
use Rattle.ft_model.specs.declared.call.Call.{Call}
use Rattle.ft_model.specs.declared.content.Content.{Content}
use Rattle.ft_model.specs.declared.content.Content.TheVariants as content
use Rattle.ft_model.specs.declared.data.Key.{Key}
use Rattle.ft_model.specs.declared.reply.Reply.{Reply}
use Rattle.ft_model.specs.declared.script.Kind.{Kind}
use Rattle.ft_model.specs.Classes.{IsClass, set_entries}
use Rattle.ft_model.specs.Contents.{DictContent, SetContent}
use Rattle.ft_model.specs.Worlds.{kind_of}
use Rattle.ft_hash.specs.Probes.{dict_slots, set_slots}
use Rattle.ft_hash.proofs.Walks.{dict_slots-within, set_slots-within}
use Rattle.ft_layout.specs.Tables.{dict_room, set_room, IsDictTable, IsSetTable}
use Rattle.ft_layout.specs.Tables as layout
use Rattle.ft_layout.specs.Containers.{class_mask, IsDictWords, IsSetWords}
use Rattle.ft_layout.proofs.Powers.{slots_range}
use Rattle.ft_trace.specs.declared.Act.TheVariants.{Commit, StopWrite}
use Rattle.ft_trace.specs.declared.Shape.{Shape}
use Rattle.ft_trace.specs.declared.Snap.{Snap}
use Rattle.ft_trace.specs.declared.View.{View}
use Rattle.ft_trace.specs.Acts.{has_lock, has_committed, is_writing, view_after, seen_writes}
use Rattle.ft_trace.specs.Addresses.{container_count, class_of, slots, places}
use Rattle.ft_trace.specs.Boxes.{references_held, IsSettled}
use Rattle.ft_trace.specs.Carefuls.{said_of, IsDead, HasLiveKey, OpensChanged}
use Rattle.ft_trace.specs.Holds.{held_unboxed, known_state}
use Rattle.ft_trace.specs.Kinds.{under, rows, version_at, CarefulAs, ClearAs, IsKeyed}
use Rattle.ft_trace.specs.OddVersions.{Shut, Timely}
use Rattle.ft_trace.specs.Traces.{IsReachable}
use Rattle.ft_trace.specs.Pictures.{ContainerWords, root_in, entry_offset, entry_field, Represents}
use Rattle.ft_trace.specs.ContainerStates.{ContainerState, kind_in, changes}
use Rattle.ft_trace.proofs.ByKind.{keyed_low}
use Rattle.ft_trace.proofs.DictWrites as dict
use Rattle.ft_trace.proofs.EntryPuts.{entry_close}
use Rattle.ft_trace.proofs.Known.{after_header, class_known, table_is_long}
use Rattle.ft_trace.proofs.SetKnown as set
use Rattle.ft_bank.specs.declared.table.Table.{Table}
use Rattle.ft_bank.specs.TableNames.{table_id}
use Rattle.ft_bank.specs.Whole.{EndsWrite, OnlyLoaded, OnlyPut}
use Rattle.ft_bank.specs.WriteSteps.{Committed, IsCareful, IsShut, with_table}
use Rattle.ft_bank.specs.SameBoxes.{SameReferences}
use Rattle.ft_bank.proofs.KnownAfterWrites.{loaded_put, work_knows, write_ends}
use Rattle.ft_search.specs.OneEntryWrites.{raised_at}
use Rattle.ft_search.proofs.Changing.{kind_is}
use Rattle.ft_search.proofs.Puts.{entry_refs, few_same, keyed_version, table_class, writes_on}
use Rattle.ft_merging.specs.Internal.EntriesAtOnce.{IsClosing, MayFinishAll, NoneDead, version_of}

-- ---- what words say that stand for a dict or a set

-- what is known of the first used entries, as it is cited
pub record Laws : Type 0 where
  pub pairs : dict.FirstEntriesArePairs
  pub elements : set.FirstEntriesAreElements

module _ (laws : Laws) (texts : List ℕ) (x : ContainerWords) (t : ℕ) (is_class : IsClass (class_of t)) (names : root_in x ≡ suc t) where
  abbrev c : ℕ
  c = class_of t

  abbrev n : ℕ
  n = slots c

  dict_says : (pairs : DictContent) (kept : ContainerState) → kept.content ≡ content.Dict pairs → Represents texts x kept → IsDictWords texts x.block (0 ∷ 0 ∷ x.table) (Some c) kept.table.fill pairs
  dict_says pairs kept is stands =
      let here : Represents texts x (record { content = content.Dict pairs; table = kept.table }) = subst (λ (z : Content). Represents texts x (record { content = z; table = kept.table })) is stands in
      subst (λ (z : Option ℕ). IsDictWords texts x.block (0 ∷ 0 ∷ x.table) z kept.table.fill pairs) (class_known texts x kept t stands names) here

  pub set_says : (elements : SetContent) (kept : ContainerState) → kept.content ≡ content.Set elements → Represents texts x kept → IsSetWords texts x.block (0 ∷ 0 ∷ x.table) (Some c) kept.table.fill elements
  set_says elements kept is stands =
      let here : Represents texts x (record { content = content.Set elements; table = kept.table }) = subst (λ (z : Content). Represents texts x (record { content = z; table = kept.table })) is stands in
      subst (λ (z : Option ℕ). IsSetWords texts x.block (0 ∷ 0 ∷ x.table) z kept.table.fill elements) (class_known texts x kept t stands names) here

  -- a live entry says what there is
  right_of : (d : Content) (kept : ContainerState) → kept.content ≡ d → IsKeyed (kind_of d) → Represents texts x kept → (p : ℕ) (key : Key) → p < rows (kind_of d) c → HasLiveKey n x.table p key → under d key ≡ said_of n x.table p
  right_of (content.Dict pairs) kept is keyed stands p key low live = dict.dict_right laws.pairs texts x.block c kept.table.fill is_class pairs x.table (dict_says pairs kept is stands) p key low live
  right_of (content.Set elements) kept is keyed stands p key low live = set.set_right laws.elements texts x.block c kept.table.fill is_class elements x.table (set_says elements kept is stands) p key low live
  right_of (content.List values) kept is keyed stands p key low live = absurd keyed
  right_of (content.Deque deque) kept is keyed stands p key low live = absurd keyed

  -- what may be committed that leaves this
  pub clear_of : (d : Content) (kept : ContainerState) → kept.content ≡ d → IsKeyed (kind_of d) → Represents texts x kept → (before : Content) → ((p : ℕ) (key : Key) → p < rows (kind_of d) c → entry_field n x.table p 0 % 2 ≡ 0 → HasLiveKey n x.table p key → under d key ≡ under before key) → OpensChanged n (rows (kind_of d) c) x.table (under before) (under d) → ClearAs (kind_of d) texts c x.table before d
  clear_of (content.Dict pairs) kept is keyed stands before same opens = record { keeps = λ p key low even live. same p key low even live; opens = opens; adds = λ key fits none some. dict.dict_reached laws.pairs texts x.block c kept.table.fill is_class pairs x.table (dict_says pairs kept is stands) key fits some }
  clear_of (content.Set elements) kept is keyed stands before same opens = record { keeps = λ p key low even live. same p key low even live; opens = opens; adds = λ key fits none some. set.set_reached laws.elements texts x.block c kept.table.fill is_class elements x.table (set_says elements kept is stands) key fits some }
  clear_of (content.List values) kept is keyed stands before same opens = absurd keyed
  clear_of (content.Deque deque) kept is keyed stands before same opens = absurd keyed

  -- a version may be made even
  close_of : (d : Content) (kept : ContainerState) → kept.content ≡ d → IsKeyed (kind_of d) → Represents texts x kept → (p : ℕ) → p < rows (kind_of d) c → entry_field n x.table p 0 % 2 ≡ 1 → ((key : Key) → IsDead n x.table p key → under d key ≡ []) → CarefulAs (kind_of d) c x.table d (entry_offset n p 0) (entry_field n x.table p 0 + 1)
  close_of (content.Dict pairs) kept is keyed stands p low odd gone = entry_close n (places c) x.table (under (content.Dict pairs)) p (entry_field n x.table p 0 + 1) refl (omega (arith, odd)) (λ key live. right_of (content.Dict pairs) kept is keyed stands p key low live) gone
  close_of (content.Set elements) kept is keyed stands p low odd gone = entry_close n (set_entries c) x.table (under (content.Set elements)) p (entry_field n x.table p 0 + 1) refl (omega (arith, odd)) (λ key live. right_of (content.Set elements) kept is keyed stands p key low live) gone
  close_of (content.List values) kept is keyed stands p low odd gone = absurd keyed
  close_of (content.Deque deque) kept is keyed stands p low odd gone = absurd keyed

  -- a version that is put into an entry changes nothing
  version_put : dict.EntryVersionsChangeNothing → (d : Content) (kept : ContainerState) → kept.content ≡ d → IsKeyed (kind_of d) → Represents texts x kept → (p y : ℕ) → Represents texts (with_table x (entry_offset n p 0) y) kept
  unfolding slots
  version_put versions (content.Dict pairs) kept is keyed stands p y =
      let says = dict_says pairs kept is stands in
      let r = (slots_range c is_class).0 in
      let table : IsDictTable texts (class_mask c) says.used (0 ∷ 0 ∷ slice_set x.table (entry_offset n p 0) y) = subst (λ (z : List ℕ). IsDictTable texts (class_mask c) says.used z) (after_header x.table (layout.entry_at (class_mask c) p 0) (entry_offset n p 0) y (omega (arith, r)))
      (versions (λ hash. dict_slots hash (class_mask c) (class_mask c + 14)) (dict_room (class_mask c)) texts (class_mask c) says.used (0 ∷ 0 ∷ x.table) p y (λ hash. dict_slots-within hash (class_mask c) (class_mask c + 14)) says.table) in
      let now : IsDictWords texts x.block (0 ∷ 0 ∷ slice_set x.table (entry_offset n p 0) y) (Some c) kept.table.fill pairs = record { head = says.head; used = says.used; table = table; filled = says.filled; entries = says.entries } in
      let here : Represents texts (with_table x (entry_offset n p 0) y) (record { content = content.Dict pairs; table = kept.table }) = subst (λ (z : Option ℕ). IsDictWords texts x.block (0 ∷ 0 ∷ slice_set x.table (entry_offset n p 0) y) z kept.table.fill pairs) (sym (class_known texts x kept t stands names)) now in
      subst (λ (z : Content). Represents texts (with_table x (entry_offset n p 0) y) (record { content = z; table = kept.table })) (sym is) here
  version_put versions (content.Set elements) kept is keyed stands p y =
      let says = set_says elements kept is stands in
      let r = (slots_range c is_class).0 in
      let table : IsSetTable texts (class_mask c) says.used (0 ∷ 0 ∷ slice_set x.table (entry_offset n p 0) y) = subst (λ (z : List ℕ). IsSetTable texts (class_mask c) says.used z) (after_header x.table (layout.entry_at (class_mask c) p 0) (entry_offset n p 0) y (omega (arith, r)))
      (versions (λ hash. set_slots hash (class_mask c) (class_mask c + 14)) (set_room (class_mask c)) texts (class_mask c) says.used (0 ∷ 0 ∷ x.table) p y (λ hash. set_slots-within hash (class_mask c) (class_mask c + 14)) says.table) in
      let now : IsSetWords texts x.block (0 ∷ 0 ∷ slice_set x.table (entry_offset n p 0) y) (Some c) kept.table.fill elements = record { head = says.head; used = says.used; table = table; filled = says.filled; entries = says.entries } in
      let here : Represents texts (with_table x (entry_offset n p 0) y) (record { content = content.Set elements; table = kept.table }) = subst (λ (z : Option ℕ). IsSetWords texts x.block (0 ∷ 0 ∷ slice_set x.table (entry_offset n p 0) y) z kept.table.fill elements) (sym (class_known texts x kept t stands names)) now in
      subst (λ (z : Content). Represents texts (with_table x (entry_offset n p 0) y) (record { content = z; table = kept.table })) (sym is) here
  version_put versions (content.List values) kept is keyed stands p y = absurd keyed
  version_put versions (content.Deque deque) kept is keyed stands p y = absurd keyed

-- ---- one version

-- a version is even or odd
pub parity : (a : ℕ) → (a % 2 ≡ 0) ⊎ (a % 2 ≡ 1)
parity a = dite (ℕ_discrete (a % 2) 0) (λ (e : a % 2 ≡ 0). inl e) (λ ne. inr (by (a % 2) (omega arith) ne))
  where
    by : (r : ℕ) → r < 2 → r ≢ 0 → r ≡ 1
    by zero low ne = absurd (ne refl)
    by (suc zero) low ne = refl
    by (suc (suc r)) low ne = absurd (omega (arith, low))

-- the words of the other entries, and all but the version of this one
pub raised_else : (t : ℕ) (x : ContainerWords) (p q w : ℕ) → w < 8 → (q ≢ p) ⊎ (0 < w) → entry_field (slots (class_of t)) (raised_at t p x).table q w ≡ entry_field (slots (class_of t)) x.table q w
raised_else t x p q w few other =
    get_or-set_other x.table (entry_offset (slots (class_of t)) p 0) (entry_offset (slots (class_of t)) q w) (entry_field (slots (class_of t)) x.table p 0 + 1) 0
    (λ e. ⊎_elim (λ (ne : q ≢ p). ne (omega (arith, e, few))) (λ (some : 0 < w). omega (arith, e, few, some)) other)

pub raised_here : (t : ℕ) (x : ContainerWords) (p : ℕ) → entry_offset (slots (class_of t)) p 0 < length x.table → version_of t (raised_at t p x) p ≡ version_of t x p + 1
raised_here t x p low = get_or-set_same x.table (entry_offset (slots (class_of t)) p 0) (entry_field (slots (class_of t)) x.table p 0 + 1) 0 low

module _ (t m : ℕ) (x : ContainerWords) (p : ℕ) (low : entry_offset (slots (class_of t)) p 0 < length x.table) (odd : version_of t x p % 2 ≡ 1) where
  -- an entry whose version is odd then is another one, whose words are as they were
  still_odd : (q : ℕ) → version_of t (raised_at t p x) q % 2 ≡ 1 → q ≢ p
  still_odd q now same =
      let here : version_of t (raised_at t p x) q ≡ version_of t x p + 1 = ap (version_of t (raised_at t p x)) same ∙ raised_here t x p low in
      omega (arith, here, now, odd)

  was_odd : (q : ℕ) → version_of t (raised_at t p x) q % 2 ≡ 1 → version_of t x q % 2 ≡ 1
  was_odd q now = let e = raised_else t x p q 0 (omega arith) (inl (still_odd q now)) in omega (arith, e, now)

  pub raised_dead : (kept : ContainerState) → NoneDead t m x kept → NoneDead t m (raised_at t p x) kept
  raised_dead kept none q key less now dead =
      none q key less (was_odd q now)
      (sym (raised_else t x p q 2 (omega arith) (inr (omega arith))) ∙ dead.0, sym (raised_else t x p q 3 (omega arith) (inr (omega arith))) ∙ dead.1)

  pub raised_opened : (fill : ℕ) → ((q : ℕ) → q < m → version_of t x q % 2 ≡ 1 → q < fill) → (q : ℕ) → q < m → version_of t (raised_at t p x) q % 2 ≡ 1 → q < fill
  raised_opened fill opened q less now = opened q less (was_odd q now)

  pub raised_shut : ((q : ℕ) → q < m → q < p → version_of t x q % 2 ≡ 0) → (q : ℕ) → q < m → q < p + 1 → version_of t (raised_at t p x) q % 2 ≡ 0
  raised_shut shut q less up =
      dite (dec_lt q p)
      (λ (before : q < p).
      let old = shut q less before in
      let e = raised_else t x p q 0 (omega arith) (inl (λ same. omega (arith, same, before))) in
      omega (arith, old, e))
      (λ past.
      let same : q ≡ p = omega (arith, past, up) in
      let here : version_of t (raised_at t p x) q ≡ version_of t x p + 1 = ap (version_of t (raised_at t p x)) same ∙ raised_here t x p low in
      omega (arith, here, odd))

-- ---- what the pass knows

-- loads leave what a container reads whose lock the pass has
pub read_same : (k : Shape) (o : ℕ) (v w : View) → v.shape ≡ k → o < container_count k → has_lock o v.log ≡ true → OnlyLoaded v w → held_unboxed o w ≡ held_unboxed o v
read_same k o v w shape low mine only = only.unboxed o (subst (λ (z : Shape). o < container_count z) (sym shape) low) mine

module _ (k : Shape) (o : ℕ) (table : Table) (from fill : ℕ) (v w : View) (shape : v.shape ≡ k) (only : OnlyLoaded v w) (closing : IsClosing k o table from fill v) where
  abbrev lt : ℕ
  lt = table_id table

  abbrev lm : ℕ
  lm = rows (kind_in k.starts o) (class_of lt)

  held_same : held_unboxed o w ≡ held_unboxed o v
  held_same = read_same k o v w shape closing.writes.container closing.writes.locked only

  held_back : held_unboxed o v ≡ held_unboxed o w
  held_back = sym held_same

  pub closing_loaded : IsClosing k o table from fill w
  closing_loaded = record {
    writes = writes_on k o table v w shape (loaded_put v w o only) only.boxes.references (ap root_in held_same) closing.writes;
    late = only.work.committed o ∙ closing.late;
    stands = subst (λ (y : ContainerWords × ContainerState). Represents k.texts y.0 y.1) (λ d. (held_back d, sym (work_knows v w o only.work) d)) closing.stands;
    gone = subst (λ (y : ContainerWords × ContainerState). NoneDead lt lm y.0 y.1) (λ d. (held_back d, sym (work_knows v w o only.work) d)) closing.gone;
    opened = subst (λ (y : ContainerWords). (p : ℕ) → p < lm → version_of lt y p % 2 ≡ 1 → p < fill) held_back closing.opened;
    shut = subst (λ (y : ContainerWords). (p : ℕ) → p < lm → p < from → version_of lt y p % 2 ≡ 0) held_back closing.shut;
  }

module _ (laws : Laws) (k : Shape) (o : ℕ) (table : Table) (place fill : ℕ) (v : View) (shape : v.shape ≡ k) (possible : ∥ IsReachable v ∥₁) (low : place < rows (kind_in k.starts o) (class_of (table_id table))) (closing : IsClosing k o table place fill v) where
  abbrev ct : ℕ
  ct = table_id table

  abbrev cn : ℕ
  cn = slots (class_of ct)

  abbrev cm : ℕ
  cm = rows (kind_in k.starts o) (class_of ct)

  abbrev at : ℕ
  at = entry_offset cn place 0

  kind_eq : kind_of (known_state o v).content ≡ kind_in k.starts o
  kind_eq = kind_is k v o shape possible closing.writes.locked

  is_keyed : IsKeyed (kind_of (known_state o v).content)
  is_keyed = subst IsKeyed (sym kind_eq) closing.writes.keyed

  class_is : IsClass (class_of ct)
  class_is = table_class k table closing.writes.table_in

  inside : at < length (held_unboxed o v).table
  inside = subst (λ (z : ℕ). at < z) (sym (table_is_long v o ct closing.writes.root)) (keyed_low (kind_in k.starts o) closing.writes.keyed (class_of ct) place 0 low (omega arith))

  -- the version may be made even
  pub closing_care : version_of ct (held_unboxed o v) place % 2 ≡ 1 → IsCareful v o ct at (entry_field cn (held_unboxed o v).table place 0 + 1)
  closing_care odd =
      let care = close_of laws k.texts (held_unboxed o v) ct class_is closing.writes.root (known_state o v).content (known_state o v) refl is_keyed closing.stands place (subst (λ (z : Kind). place < rows z (class_of ct)) (sym kind_eq) low) odd (λ key dead. closing.gone place key low odd dead) in
      record {
        care = subst (λ (z : Kind). CarefulAs z (class_of ct) (held_unboxed o v).table (known_state o v).content at (entry_field cn (held_unboxed o v).table place 0 + 1)) (kind_eq ∙ sym (ap (λ (z : Shape). kind_in z.starts o) shape)) care;
        timely = subst (λ (b : Bool). Timely (version_at (kind_in v.shape.starts o) (class_of ct)) (rows (kind_in v.shape.starts o) (class_of ct)) at (entry_field cn (held_unboxed o v).table place 0 + 1) b) (sym closing.late)
            (record { before = λ q less is one. absurd (omega (arith, one, odd)); later = λ q less is two. refl });
        references = entry_refs v o ct place 0 (entry_field cn (held_unboxed o v).table place 0 + 1) (subst (λ (z : Shape). IsKeyed (kind_in z.starts o)) (sym shape) closing.writes.keyed) (omega arith) (λ e. absurd (omega (arith, e))) (λ e. absurd (omega (arith, e))) closing.writes.few;
      }

  pub closing_raised : dict.EntryVersionsChangeNothing → (z : View) → OnlyPut o v z → SameReferences v z → held_unboxed o z ≡ raised_at ct place (held_unboxed o v) → version_of ct (held_unboxed o v) place % 2 ≡ 1 → IsClosing k o table (place + 1) fill z
  closing_raised versions z only references held_is odd =
      let back : raised_at ct place (held_unboxed o v) ≡ held_unboxed o z = sym held_is in
      let knows = sym (work_knows v z o only.work) in
      record {
        writes = writes_on k o table v z shape only references (ap root_in held_is) closing.writes;
        late = only.work.committed o ∙ closing.late;
        stands = subst (λ (y : ContainerWords × ContainerState). Represents k.texts y.0 y.1) (λ d. (back d, knows d)) (version_put laws k.texts (held_unboxed o v) ct class_is closing.writes.root versions (known_state o v).content (known_state o v) refl is_keyed closing.stands place (entry_field cn (held_unboxed o v).table place 0 + 1));
        gone = subst (λ (y : ContainerWords × ContainerState). NoneDead ct cm y.0 y.1) (λ d. (back d, knows d)) (raised_dead ct cm (held_unboxed o v) place inside odd (known_state o v) closing.gone);
        opened = subst (λ (y : ContainerWords). (p : ℕ) → p < cm → version_of ct y p % 2 ≡ 1 → p < fill) back (raised_opened ct cm (held_unboxed o v) place inside odd fill closing.opened);
        shut = subst (λ (y : ContainerWords). (p : ℕ) → p < cm → p < place + 1 → version_of ct y p % 2 ≡ 0) back (raised_shut ct cm (held_unboxed o v) place inside odd closing.shut);
      }

  -- it is even
  pub closing_even : version_of ct (held_unboxed o v) place % 2 ≡ 0 → IsClosing k o table (place + 1) fill v
  closing_even even = record {
    writes = closing.writes;
    late = closing.late;
    stands = closing.stands;
    gone = closing.gone;
    opened = closing.opened;
    shut = λ p less up.
        dite (dec_lt p place)
        (λ (before : p < place). closing.shut p less before)
        (λ past. let same : place ≡ p = omega (arith, past, up) in subst (λ (q : ℕ). version_of ct (held_unboxed o v) q % 2 ≡ 0) same even);
  }

-- ---- the commit

module _ (k : Shape) (o : ℕ) (table : Table) (fill : ℕ) (called : Call) (said : Reply) (u : View) (m : MayFinishAll k o table fill called said u) (number : ℕ) (snap : Snap) (w : View) (is : w ≡ view_after (Commit called said number snap) u) (committed : Committed u w called) where
  abbrev ft : ℕ
  ft = table_id table

  abbrev fm : ℕ
  fm = rows (kind_in k.starts o) (class_of ft)

  held_then : held_unboxed o u ≡ held_unboxed o w
  held_then = sym (ap (held_unboxed o) is)

  known_then : m.left ≡ known_state o w
  known_then = sym (committed.left o ∙ m.left_is committed.found committed.has)

  pub closing_begins : IsClosing k o table 0 fill w
  closing_begins =
      let b = m.midway in
      record {
        writes = record {
          container = b.writes.container;
          keyed = b.writes.keyed;
          table_in = b.writes.table_in;
          locked = ap (λ (z : View). has_lock o z.log) is ∙ b.writes.locked;
          odd = ap (λ (z : View). is_writing o z.log) is ∙ b.writes.odd;
          root = ap (λ (z : View). root_in (held_unboxed o z)) is ∙ b.writes.root;
          settled = subst (λ (z : View). IsSettled z.log) (sym is) (let s = b.writes.settled in record { unmade = s.unmade; counted = s.counted; whole = s.whole; given = s.given });
          few = few_same u w (λ x. ap (λ (z : View). references_held z.shape x z.log) is) b.writes.few;
        };
        late = ap (λ (z : View). has_committed o z.log) is;
        stands = subst (λ (y : ContainerWords × ContainerState). Represents k.texts y.0 y.1) (λ d. (held_then d, known_then d)) b.stands;
        gone = subst (λ (y : ContainerWords × ContainerState). NoneDead ft fm y.0 y.1) (λ d. (held_then d, known_then d)) b.gone;
        opened = subst (λ (y : ContainerWords × ℕ). (p : ℕ) → p < fm → version_of ft y.0 p % 2 ≡ 1 → p < y.1) (λ d. (held_then d, m.used d)) b.opened;
        shut = λ p less none. absurd (omega (arith, none));
      }

  pub closing_ends : (z : View) → OnlyPut o w z → IsClosing k o table fill fill z → u.shape ≡ k → (stop : ℕ) (x : View) → seen_writes u ≤ number → x ≡ view_after (StopWrite o stop) z → EndsWrite called said number u x
  closing_ends z only closing shape stop x seen stopped =
      let at : o ≡ changes called = sym m.changed in
      let stands : Represents u.shape.texts (held_unboxed o z) (known_state o z) = subst (λ (y : Shape). Represents y.texts (held_unboxed o z) (known_state o z)) (sym shape) closing.stands in
      write_ends called said number stop snap u w z x seen is committed m.may.left
      (subst (λ (p : ℕ). OnlyPut p w z) at only)
      (subst (λ (p : ℕ). root_in (held_unboxed p z) ≡ root_in (held_unboxed p u)) at (closing.writes.root ∙ sym m.midway.writes.root))
      (subst (λ (p : ℕ). Represents u.shape.texts (held_unboxed p z) (known_state p z)) at stands)
      (subst (λ (p : ℕ). x ≡ view_after (StopWrite p stop) z) at stopped)

-- no version is odd then
pub closing_shut : (k : Shape) (o : ℕ) (table : Table) (fill : ℕ) (v : View) → v.shape ≡ k → IsClosing k o table fill fill v → IsShut o v
closing_shut k o table fill v shape closing q names =
    let t = table_id table in
    let same : t ≡ q = let e : suc t ≡ suc q = sym closing.writes.root ∙ names in omega (arith, e) in
    let m = rows (kind_in k.starts o) (class_of t) in
    let here : Shut (version_at (kind_in k.starts o) (class_of t)) m (held_unboxed o v).table =
    λ p less.
    let even : version_of t (held_unboxed o v) p % 2 ≡ 0 = ⊎_elim (λ (e : version_of t (held_unboxed o v) p % 2 ≡ 0). e) (λ (odd : version_of t (held_unboxed o v) p % 2 ≡ 1). closing.shut p less (closing.opened p less odd)) (parity (version_of t (held_unboxed o v) p)) in
    subst (λ (i : ℕ). slice_index (held_unboxed o v).table i % 2 ≡ 0) (sym (keyed_version (kind_in k.starts o) closing.writes.keyed (class_of t) p)) even in
    subst (λ (y : Shape × ℕ). Shut (version_at (kind_in y.0.starts o) (class_of y.1)) (rows (kind_in y.0.starts o) (class_of y.1)) (held_unboxed o v).table) (λ d. (sym shape d, same d)) here
