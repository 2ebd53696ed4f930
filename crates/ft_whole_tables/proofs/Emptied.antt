-- A clear of a dict or a set: that it may be committed, and what the container and its words are then.
use Rattle.std.proofs.Common.{◌≡◌, ◌≢◌, ℕ, suc, ◌+◌, ◌%◌, ◌<◌, ◌≤◌, true, false, true≢false, List, [], ◌∷◌, length, Option, Some, None, refl, sym, ap, ◌∙◌, subst, arith, length-set, get_or-set_same, get_or-set_other}
use Rattle.std.specs.Prelude.{◌==◌, IfNone, IfSome, cond, is_some, filter, map, slice_index, slice_set}
use Rattle.std.proofs.lemmas.List.Elements.{All-nil}
use Rattle.std.proofs.Math.Logic.{∥∥₁_elim}
use Rattle.std.proofs.Math.Nat.{ℕ_set}
use Rattle.ft_model.specs.declared.call.Call.{Call}
use Rattle.ft_model.specs.declared.content.Content.{Content}
use Rattle.ft_model.specs.declared.content.Content.TheVariants as content
use Rattle.ft_model.specs.declared.content.DictPair.{DictPair}
use Rattle.ft_model.specs.declared.content.Element.{Element}
use Rattle.ft_model.specs.declared.reply.Reply.TheVariants as reply
use Rattle.ft_model.specs.Contents.{DictContent, SetContent}
use Rattle.ft_model.specs.TableUses.{StoredWorld, TableUse, no_table}
use Rattle.ft_model.specs.Worlds.{kind_of, length_of, serial_of}
use Rattle.ft_layout.specs.Containers.{IsBlock, IsDictWords, IsRoot, IsSetWords, StandsAs, used_element, used_pair}
use Rattle.ft_layout.specs.Tables.{UsedEntry, is_live}
use Rattle.ft_layout.proofs.KindLaws.{head_of}
use Rattle.ft_trace.specs.declared.Act.TheVariants.{Commit, PutRoot, StartWrite, StopWrite}
use Rattle.ft_trace.specs.declared.Shape.{Shape}
use Rattle.ft_trace.specs.declared.Snap.{Snap}
use Rattle.ft_trace.specs.declared.View.{View}
use Rattle.ft_trace.specs.Acts.{has_lock, is_writing, owes, view_after, seen_writes, stage, stage_next, used}
use Rattle.ft_trace.specs.Addresses.{container_count, class_of, IsTableName}
use Rattle.ft_trace.specs.Boxes.{named_in_root, place_use, references_held, use_taken, IsDoneWithBoxes, IsSettled}
use Rattle.ft_trace.specs.Holds.{held_words, held_unboxed, in_hand, known_state}
use Rattle.ft_trace.specs.Kinds.{IsKeyed, version_at}
use Rattle.ft_trace.specs.Traces.{IsReachable}
use Rattle.ft_trace.specs.Pictures.{ContainerWords, root_in, Represents}
use Rattle.ft_trace.specs.ContainerStates.{ContainerState, changes, kind_in, may_empty, reply_in, kinds_in}
use Rattle.ft_trace.proofs.Cases.{hit, miss}
use Rattle.ft_trace.proofs.Clearing.{held_shut}
use Rattle.ft_bank.specs.declared.table.Table.{Table}
use Rattle.ft_bank.specs.TableNames.{table_id, root_for}
use Rattle.ft_bank.specs.SameBoxes.{MovesReferences, SameReferences, StaysSettled, named_in_words}
use Rattle.ft_bank.specs.Whole.{EndsWrite, OnlyBoxed, OnlyPut, OnlyWritten, Wrote}
use Rattle.ft_bank.specs.WriteSteps.{Committed, IsShut, KeepsUnwritten, MayCommit, MayHave, MayPutRoot, with_block, with_unboxed_root}
use Rattle.ft_bank.proofs.DoneBoxes.{none_named, same_named}
use Rattle.ft_bank.proofs.KnownAfterWrites.{boxed_written, put_same, put_written, work_knows, write_ends, written_then}
use Rattle.ft_bank.proofs.TableAddresses.{named}
use Rattle.ft_bank.proofs.WordsPut.{taken_words}
use Rattle.ft_table_calls.specs.Dropping.{HoldsNamed}
use Rattle.ft_table_calls.proofs.Dropped.{dropped_named, holds_named}
use Rattle.ft_table_calls.proofs.Rooting.{rooted_write}
use Rattle.ft_search.specs.OneEntryWrites.{HasTable, Leaves, MayWriteEntries}
use Rattle.ft_search.proofs.Calling.{plain_replied}
use Rattle.ft_search.proofs.Changing.{kind_is}
use Rattle.ft_search.proofs.Puts.{few_done, shut_reads}
use Rattle.ft_whole_tables.specs.Clearing.{cleared, cleared_kept}
use Rattle.ft_model.specs.declared.data.Key.{Key}

-- ---- the root that was read

pub root_named : (old : Option Table) (root : ℕ) → IfSome old (λ t. root ≡ suc (table_id t)) → IfNone old (root ≡ 0) → root ≡ root_for old
root_named None root named none = none
root_named (Some t) root named none = named

-- ---- words of an empty dict or set

-- a block whose root names no table, and that counts nothing; the next serial stays
pub no_counts : (b : List ℕ) (class : Option ℕ) (count fill next : ℕ) → IsBlock b class count fill next → IsBlock (slice_set (slice_set (slice_set b 0 0) 1 0) 2 0) None 0 0 next
no_counts b class count fill next h =
    let size_is = h.size in
    let one = slice_set b 0 0 in
    let two = slice_set one 1 0 in
    let long = length-set b 0 0 in
    let longer = length-set one 1 0 in
    let first : slice_index (slice_set two 2 0) 0 ≡ 0 = get_or-set_other two 2 0 0 0 (λ e. absurd (omega (arith, e))) ∙ (get_or-set_other one 1 0 0 0 (λ e. absurd (omega (arith, e))) ∙ get_or-set_same b 0 0 0 (omega (arith, size_is))) in
    let second : slice_index (slice_set two 2 0) 1 ≡ 0 = get_or-set_other two 2 1 0 0 (λ e. absurd (omega (arith, e))) ∙ get_or-set_same one 1 0 0 (omega (arith, size_is, long)) in
    let other : (i : ℕ) → i ≢ 0 → i ≢ 1 → i ≢ 2 → slice_index (slice_set two 2 0) i ≡ slice_index b i = λ i x y z. get_or-set_other two 2 i 0 0 z ∙ (get_or-set_other one 1 i 0 0 y ∙ get_or-set_other b 0 i 0 0 x) in
    record {
      size = length-set two 2 0 ∙ (longer ∙ (long ∙ h.size));
      root = subst (λ (r : ℕ). IsRoot r None) (sym first) refl;
      count_is = second;
      fill_is = get_or-set_same two 2 0 0 (omega (arith, size_is, long, longer));
      next_is = other 3 (λ e. absurd (omega (arith, e))) (λ e. absurd (omega (arith, e))) (λ e. absurd (omega (arith, e))) ∙ h.next_is;
      spare = (
        other 4 (λ e. absurd (omega (arith, e))) (λ e. absurd (omega (arith, e))) (λ e. absurd (omega (arith, e))) ∙ h.spare.0,
        other 5 (λ e. absurd (omega (arith, e))) (λ e. absurd (omega (arith, e))) (λ e. absurd (omega (arith, e))) ∙ h.spare.1,
      );
    }

-- they stand for what a clear leaves
pub empty_stands : (texts : List ℕ) (words : ContainerWords) (c : Content) → IsKeyed (kind_of c) → IsBlock words.block None 0 0 (serial_of c) → Represents texts words (record { content = cleared c; table = no_table })
empty_stands texts words (content.Dict dict) keyed head = record { head = head; used = []; table = refl; filled = refl; entries = record { live = refl; below = All-nil (λ (entry : UsedEntry). entry.serial < dict.next) } }
empty_stands texts words (content.Set set) keyed head = record { head = head; used = []; table = refl; filled = refl; entries = record { live = refl; below = All-nil (λ (entry : UsedEntry). entry.serial < set.next) } }
empty_stands texts words (content.List values) keyed head = absurd keyed
empty_stands texts words (content.Deque deque) keyed head = absurd keyed

no_pairs : (used : List UsedEntry) (pairs : List DictPair) → used ≡ [] → filter is_live used ≡ map used_pair pairs → pairs ≡ []
no_pairs used [] none live = refl
no_pairs used (pair ∷ pairs) none live = let e = sym (ap (λ (l : List UsedEntry). filter is_live l) none) ∙ live in absurd (cc)

no_elements : (used : List UsedEntry) (elements : List Element) → used ≡ [] → filter is_live used ≡ map used_element elements → elements ≡ []
no_elements used [] none live = refl
no_elements used (element ∷ elements) none live = let e = sym (ap (λ (l : List UsedEntry). filter is_live l) none) ∙ live in absurd (cc)

dict_bare : (texts block words : List ℕ) (class : Option ℕ) (fill : ℕ) (keys : List Key) (dict : DictContent) → keys ≡ [] → IsDictWords texts block words class fill dict → slice_index block 0 ≡ 0 → cleared_kept (record { content = content.Dict dict; table = record { class = class; fill = fill; keys = keys } }) ≡ record { content = content.Dict dict; table = record { class = class; fill = fill; keys = keys } }
dict_bare texts block words None fill keys dict none says bare =
    let nothing = no_pairs says.used dict.pairs says.table says.entries.live in
    let zero_fill : 0 ≡ fill = ap length (sym says.table) ∙ says.filled in
    λ i. record { content = content.Dict (record { next = dict.next; pairs = sym nothing i }); table = record { class = None; fill = zero_fill i; keys = sym none i } }
dict_bare texts block words (Some class) fill keys dict none says bare = absurd (let is = says.head.root.1.2 in omega (arith, is, bare))

set_bare : (texts block words : List ℕ) (class : Option ℕ) (fill : ℕ) (keys : List Key) (set : SetContent) → keys ≡ [] → IsSetWords texts block words class fill set → slice_index block 0 ≡ 0 → cleared_kept (record { content = content.Set set; table = record { class = class; fill = fill; keys = keys } }) ≡ record { content = content.Set set; table = record { class = class; fill = fill; keys = keys } }
set_bare texts block words None fill keys set none says bare =
    let nothing = no_elements says.used set.elements says.table says.entries.live in
    let zero_fill : 0 ≡ fill = ap length (sym says.table) ∙ says.filled in
    λ i. record { content = content.Set (record { next = set.next; elements = sym nothing i }); table = record { class = None; fill = zero_fill i; keys = sym none i } }
set_bare texts block words (Some class) fill keys set none says bare = absurd (let is = says.head.root.1.2 in omega (arith, is, bare))

-- where the root names no table, a clear leaves the same
pub bare_stays : (texts : List ℕ) (words : ContainerWords) (kept : ContainerState) → kept.table.keys ≡ [] → IsKeyed (kind_of kept.content) → Represents texts words kept → root_in words ≡ 0 → cleared_kept kept ≡ kept
bare_stays texts words kept unshared keyed stands bare = by kept.content kept.table unshared keyed stands
  where
    by : (c : Content) (table : TableUse) → table.keys ≡ [] → IsKeyed (kind_of c) → StandsAs texts words.block (0 ∷ 0 ∷ words.table) table c → cleared_kept (record { content = c; table = table }) ≡ record { content = c; table = table }
    by (content.Dict dict) table none is s = dict_bare texts words.block (0 ∷ 0 ∷ words.table) table.class table.fill table.keys dict none s bare
    by (content.Set set) table none is s = set_bare texts words.block (0 ∷ 0 ∷ words.table) table.class table.fill table.keys set none s bare
    by (content.List values) table none is s = absurd is
    by (content.Deque deque) table none is s = absurd is

-- ---- the root becomes 0

-- no version of an entry is odd before the write
known_shut : (k : Shape) (v : View) (o : ℕ) → v.shape ≡ k → ∥ IsReachable v ∥₁ → MayWriteEntries k o v → IsShut o v
known_shut k v o shape possible may t names p row =
    let here = subst (λ (z : Shape). o < container_count z) (sym shape) may.container in
    shut_reads v o t names
    (λ q fits. ∥∥₁_elim {P = slice_index (held_words o v).table (version_at (kind_in v.shape.starts o) (class_of t) q) % 2 ≡ 0} possible (ℕ_set _ _) (λ (x : IsReachable v). held_shut v o t here x may.locked (may.even o) names q fits))
    p row

pub may_put_none : (k : Shape) (o : ℕ) (v s : View) (f : ℕ) → v.shape ≡ k → ∥ IsReachable v ∥₁ → MayWriteEntries k o v → used v.log ≡ false → s ≡ view_after (StartWrite o f) v → MayPutRoot s o None
may_put_none k o v s f shape possible may free is =
    subst (λ (u : View). MayPutRoot u o None) (sym is)
    (record {
      odd = hit o true (is_writing o v.log);
      fresh = λ t e. absurd (true≢false (ap is_some (sym e)));
      sound = λ t e. absurd (true≢false (ap is_some (sym e)));
      young = λ t p e. absurd (true≢false (ap is_some (sym e)));
      shut = known_shut k v o shape possible may;
      spare = λ some_one. free;
      early = λ e. hit o false _;
      references = record {
        few = few_done k v shape may.boxes;
        enough = λ b. omega arith;
        known = λ b none some_one. absurd (some_one refl);
        stored = λ b taken. refl;
      };
    })

-- the root names no table then
pub rooted_bare : (k : Shape) (o f : ℕ) (v s r : View) → MayWriteEntries k o v → s ≡ view_after (StartWrite o f) v → held_unboxed o r ≡ with_unboxed_root (held_unboxed o s) o None s → root_in (held_words o r) ≡ 0
rooted_bare k o f v s r may started held =
    let size_is = ap (λ (z : View). length (held_unboxed o z).block) started
    ∙ (head_of k.texts (held_unboxed o v).block (0 ∷ 0 ∷ (held_unboxed o v).table) (known_state o v).table (known_state o v).content may.stands).size in
    ap root_in held ∙ get_or-set_same (held_unboxed o s).block 0 0 0 (omega (arith, size_is))

-- the references that the pass has right after that
module _ (k : Shape) (o : ℕ) (table : Table) (f : ℕ) (v s r : View) (shape : v.shape ≡ k) (may : MayWriteEntries k o v) (table_is : HasTable k o table v) (started : s ≡ view_after (StartWrite o f) v) (rooted : r ≡ view_after (PutRoot o 0 (root_in (held_words o s))) s) (moves : MovesReferences o s r) (bare : root_in (held_words o r) ≡ 0) where
  abbrev t : ℕ
  t = table_id table

  shape_started : s.shape ≡ k
  shape_started = ap (λ (z : View). z.shape) started ∙ shape

  shape_rooted : r.shape ≡ s.shape
  shape_rooted = ap (λ (z : View). z.shape) rooted

  names_table : root_in (held_words o s) ≡ suc t
  names_table = ap (λ (z : View). root_in (held_words o z)) started ∙ table_is.root

  -- the table is the pass's, to be retired
  pub table_out : stage t r.log ≡ 3
  table_out =
      let n = stage t s.log in
      ap (λ (z : View). stage t z.log) rooted
      ∙ (ap (λ (root : ℕ). stage_next t (PutRoot o 0 root) n) names_table
      ∙ (miss 0 (suc t) 0 (cond (suc t == suc t) 3 n) (λ e. absurd (omega (arith, e))) ∙ hit (suc t) 3 n))

  in_hand_then : in_hand t r ≡ (held_words o s).table
  in_hand_then =
      let low = subst (λ (z : Shape). o < container_count z) (sym shape_started) may.container in
      let name = subst (λ (z : Shape). IsTableName z t) (sym shape_started) (named k table table_is.table_in) in
      ap (in_hand t) rooted ∙ taken_words s o t 0 (root_in (held_words o s)) low name names_table

  no_box : (b : ℕ) → named_in_words b (kind_in r.shape.starts o) (held_words o r) ≡ 0
  no_box b = none_named b (kind_in r.shape.starts o) (held_words o r) bare

  pub table_named_held : HoldsNamed k o t r
  table_named_held = holds_named k o t s r shape_started shape_rooted moves names_table in_hand_then no_box

  pub table_settled : IsSettled r.log
  table_settled =
      let x = may.boxes.settled in
      subst (λ (z : View). IsSettled z.log) (sym (rooted ∙ ap (λ (z : View). view_after (PutRoot o 0 (root_in (held_words o z))) z) started))
      (record { unmade = x.unmade; counted = x.counted; whole = x.whole; given = x.given })

  -- once they are dropped it holds none
  pub table_dropped : (d : View) → d.shape ≡ r.shape → ((b : ℕ) → references_held k b d.log + named_in_root b (kind_in k.starts o) (suc t) (in_hand t r) ≡ references_held k b r.log) → (b : ℕ) → references_held k b d.log ≡ 0
  table_dropped d same dropped b =
      ap (λ (z : Shape). references_held z b d.log) (sym (same ∙ (shape_rooted ∙ shape_started)))
      ∙ (dropped_named k o t s r d shape_started shape_rooted same moves names_table in_hand_then no_box dropped b
      ∙ (ap (λ (z : Shape). references_held z b s.log) shape_started ∙ (ap (λ (z : View). references_held k b z.log) started ∙ may.boxes.none b)))

-- ---- the whole write of a dict or a set that has a table

-- The pass knew v; it made the version of the container o odd, put 0 into its root, where a table was named, dropped the
-- references that its words had, and put into its block that nothing is there: then it knows u.
pub record Emptying (k : Shape) (o : ℕ) (table : Table) (called : Call) (f : ℕ) (v s r d u : View) : Type 0 where
  pub may : MayWriteEntries k o v
  pub shape : v.shape ≡ k
  pub possible : ∥ IsReachable v ∥₁
  pub table_is : HasTable k o table v
  pub leaves : Leaves o called reply.Done (cleared_kept (known_state o v)) v
  pub empties : may_empty called ≡ true
  pub started : s ≡ view_after (StartWrite o f) v
  pub rooted : r ≡ view_after (PutRoot o 0 (root_in (held_unboxed o s))) s
  pub root_held : held_unboxed o r ≡ with_unboxed_root (held_unboxed o s) o None s
  pub keeps : KeepsUnwritten s r
  pub moves : MovesReferences o s r
  pub drops : OnlyBoxed r d
  pub made : StaysSettled r d
  pub dropped : (b : ℕ) → references_held k b d.log + named_in_root b (kind_in k.starts o) (suc (table_id table)) (in_hand (table_id table) r) ≡ references_held k b r.log
  pub puts : OnlyPut o d u
  pub words : held_unboxed o u ≡ with_block (with_block (held_unboxed o d) 1 0) 2 0

module _ (k : Shape) (o : ℕ) (table : Table) (called : Call) (f : ℕ) (v s r d u : View) (e : Emptying k o table called f v s r d u) where
  both_rooted : r ≡ view_after (PutRoot o 0 (root_in (held_unboxed o v))) (view_after (StartWrite o f) v)
  both_rooted = e.rooted ∙ ap (λ (z : View). view_after (PutRoot o 0 (root_in (held_unboxed o z))) z) e.started

  shape_bare : r.shape ≡ v.shape
  shape_bare = ap (λ (z : View). z.shape) both_rooted

  rooted_words : root_in (held_words o r) ≡ 0
  rooted_words = rooted_bare k o f v s r e.may e.started e.root_held

  -- the pass holds no references once they are dropped
  none_held : (b : ℕ) → references_held k b d.log ≡ 0
  none_held = table_dropped k o table f v s r e.shape e.may e.table_is e.started e.rooted e.moves rooted_words d e.drops.work.pass.shape e.dropped

  -- what the pass did since the root was put
  written : OnlyWritten o r u
  written =
      written_then o r d u
      (boxed_written o r d e.drops e.made (λ b. let none = ap (λ (z : Shape). references_held z b d.log) (e.drops.work.pass.shape ∙ (shape_bare ∙ e.shape)) ∙ none_held b in omega (arith, none)))
      (put_written o d u e.puts)

  known_then : (p : ℕ) → known_state p u ≡ known_state p v
  known_then p = work_knows r u p written.work ∙ ap (λ (z : View). known_state p z) both_rooted

  shape_then : u.shape ≡ v.shape
  shape_then = written.work.pass.shape ∙ shape_bare

  locks_then : (p : ℕ) → has_lock p u.log ≡ has_lock p v.log
  locks_then p = written.work.pass.locks p ∙ ap (λ (z : View). has_lock p z.log) both_rooted

  -- the drops leave what the words read
  drops_read : held_unboxed o d ≡ held_unboxed o r
  drops_read =
      e.drops.unboxed o (subst (λ (z : Shape). o < container_count z) (sym (shape_bare ∙ e.shape)) e.may.container)
      (ap (λ (z : View). has_lock o z.log) both_rooted ∙ e.may.locked)

  -- the kind of its content
  keyed : IsKeyed (kind_of (known_state o v).content)
  keyed = subst IsKeyed (sym (kind_is k v o e.shape e.possible e.may.locked)) e.may.keyed

  -- its block
  head_then : IsBlock (held_unboxed o u).block None 0 0 (serial_of (known_state o v).content)
  head_then =
      subst (λ (x : ContainerWords). IsBlock x.block None 0 0 (serial_of (known_state o v).content)) (sym (e.words ∙ ap (λ (x : ContainerWords). with_block (with_block x 1 0) 2 0) (drops_read ∙ e.root_held)))
      (subst (λ (z : View). IsBlock (with_block (with_block (with_unboxed_root (held_unboxed o z) o None z) 1 0) 2 0).block None 0 0 (serial_of (known_state o v).content)) (sym e.started)
      (no_counts (held_unboxed o v).block (known_state o v).table.class (length_of (known_state o v).content) (known_state o v).table.fill (serial_of (known_state o v).content)
      (head_of k.texts (held_unboxed o v).block (0 ∷ 0 ∷ (held_unboxed o v).table) (known_state o v).table (known_state o v).content e.may.stands)))

  root_then : root_in (held_unboxed o u) ≡ 0
  root_then = head_then.root

  -- the bank may have the same
  has_before : (stored : StoredWorld) → MayHave u stored → MayHave v stored
  has_before stored has = record {
    agrees = λ p low mine. has.agrees p (subst (λ (z : Shape). p < container_count z) (sym shape_then) low) (locks_then p ∙ mine) ∙ known_then p;
    containers = has.containers ∙ ap container_count shape_then;
    kinds = has.kinds ∙ ap (λ (z : Shape). kinds_in z.starts) shape_then;
    order = has.order;
    unsplit = has.unsplit;
    words = has.words;
  }

  -- the pass has taken no place for a box that no write has stored
  untaken : (b : ℕ) → place_use b u.log ≢ use_taken
  untaken b x = e.may.boxes.stored b (ap (λ (z : View). place_use b z.log) (sym both_rooted) ∙ written.made.places b x)

  pub emptying_commits : MayCommit u called reply.Done
  emptying_commits =
      let l = e.leaves in
      let at : o ≡ changes called = sym l.changed in
      let owed : owes u.log ≡ 0 = written.work.owes ∙ (ap (λ (z : View). owes z.log) both_rooted ∙ e.may.owes) in
      let odd : is_writing o u.log ≡ true = written.work.pass.writes o ∙ (ap (λ (z : View). is_writing o z.log) both_rooted ∙ hit o true (is_writing o v.log)) in
      let bare : root_in (held_unboxed (changes called) u) ≡ 0 = subst (λ (n : ℕ). root_in (held_unboxed n u) ≡ 0) at root_then in
      record {
        write = l.write;
        container = subst (λ (n : ℕ). n < container_count u.shape) at (subst (λ (z : Shape). o < container_count z) (sym (shape_then ∙ e.shape)) e.may.container);
        odd = subst (λ (n : ℕ). is_writing n u.log ≡ true) at odd;
        left = subst (λ (n : ℕ). 0 < n) (sym (written.work.left ∙ ap (λ (z : View). z.left) both_rooted)) e.may.left;
        words = l.words;
        locks = λ p x. locks_then p ∙ l.locks p x;
        reply_is = λ stored has. plain_replied called reply.Done (reply_in stored called) l.write (l.replied stored (has_before stored has));
        declared = λ stored has. l.declared stored (has_before stored has);
        fits = λ stored has. l.fits stored (has_before stored has);
        clear = λ stored t has names. absurd (omega (arith, bare, names));
        takes = λ stored class has x. absurd (omega (arith, x, owed));
        empties = λ x. e.empties;
        stores = λ stored has. ((λ b x. absurd (untaken b x)), (λ b c x other. absurd (untaken b x)));
      }

  -- after the commit
  module _ (number : ℕ) (snap : Snap) (c : View) (made : c ≡ view_after (Commit called reply.Done number snap) u) (committed : Committed u c called) where
    held_on : held_unboxed o c ≡ held_unboxed o u
    held_on = ap (λ (z : View). held_unboxed o z) made

    kept_then : known_state o c ≡ cleared_kept (known_state o v)
    kept_then = committed.left o ∙ e.leaves.left_is committed.found (has_before committed.found committed.has)

    pub emptying_stands : Represents k.texts (held_unboxed o c) (known_state o c)
    emptying_stands =
        subst (λ (z : ContainerState). Represents k.texts (held_unboxed o c) z) (sym kept_then)
        (empty_stands k.texts (held_unboxed o c) (known_state o v).content keyed (subst (λ (x : ContainerWords). IsBlock x.block None 0 0 (serial_of (known_state o v).content)) (sym held_on) head_then))

    pub emptying_root : root_in (held_unboxed o c) ≡ 0
    emptying_root = ap root_in held_on ∙ root_then

    pub emptying_shut : IsShut o c
    emptying_shut t names = let none = emptying_root in absurd (omega (arith, none, names))

    -- the whole write
    module _ (g : ℕ) (w : View) (seen : seen_writes u ≤ number) (stopped : w ≡ view_after (StopWrite o g) c) where
      some_old : root_in (held_unboxed o v) ≢ 0
      some_old x = let n = e.table_is.root in omega (arith, x, n)

      stands_u : Represents u.shape.texts (held_unboxed o c) (known_state o c)
      stands_u = subst (λ (z : Shape). Represents z.texts (held_unboxed o c) (known_state o c)) (sym (shape_then ∙ e.shape)) emptying_stands

      at_change : o ≡ changes called
      at_change = sym e.leaves.changed

      emptying_ends : EndsWrite called reply.Done number u w
      emptying_ends =
          write_ends called reply.Done number g snap u c c w seen made committed emptying_commits.left (put_same c (changes called))
          (subst (λ (n : ℕ). root_in (held_unboxed n c) ≡ root_in (held_unboxed n u)) at_change (ap root_in held_on))
          (subst (λ (n : ℕ). Represents u.shape.texts (held_unboxed n c) (known_state n c)) at_change stands_u)
          (subst (λ (n : ℕ). w ≡ view_after (StopWrite n g) c) at_change stopped)

      pub emptying_wrote : Wrote called reply.Done number v w
      emptying_wrote =
          rooted_write called reply.Done number f 0 v r u w
          (subst (λ (n : ℕ). r ≡ view_after (PutRoot n 0 (root_in (held_unboxed n v))) (view_after (StartWrite n f) v)) at_change both_rooted)
          (subst (λ (n : ℕ). is_writing n v.log ≡ false) at_change (e.may.even o))
          (subst (λ (n : ℕ). root_in (held_unboxed n v) ≢ 0) at_change some_old)
          (subst (λ (n : ℕ). KeepsUnwritten (view_after (StartWrite n f) v) r) at_change (subst (λ (z : View). KeepsUnwritten z r) e.started e.keeps))
          (subst (λ (n : ℕ). MovesReferences n (view_after (StartWrite n f) v) r) at_change (subst (λ (z : View). MovesReferences o z r) e.started e.moves))
          (subst (λ (n : ℕ). OnlyWritten n r u) at_change written)
          (subst (λ (n : ℕ). root_in (held_unboxed n u) ≡ 0) at_change root_then)
          emptying_ends

      pub emptying_bare : root_in (held_unboxed o w) ≡ 0
      emptying_bare = ap (λ (z : View). root_in (held_unboxed o z)) stopped ∙ emptying_root

      -- the pass holds no references, as before
      pub emptying_references : SameReferences v w
      emptying_references =
          let bare_d : root_in (held_words o d) ≡ 0 = ap root_in drops_read ∙ rooted_words in
          let shape_d = e.drops.work.pass.shape ∙ (shape_bare ∙ e.shape) in
          let before : IsDoneWithBoxes v.shape v.log = subst (λ (z : Shape). IsDoneWithBoxes z v.log) (sym e.shape) e.may.boxes in
          let bare_words : (x : View) → root_in (held_words o x) ≡ 0 → (b : ℕ) → named_in_words b (kind_in x.shape.starts o) (held_words o x) ≡ 0 = λ x none b. none_named b (kind_in x.shape.starts o) (held_words o x) none in
          let put = same_named o d u e.puts.moves (λ b. bare_words u root_then b ∙ sym (bare_words d bare_d b)) in
          let ended = same_named o u w (subst (λ (n : ℕ). MovesReferences n u w) (sym at_change) emptying_ends.moves) (λ b. bare_words w emptying_bare b ∙ sym (bare_words u root_then b)) in
          λ b. ended b ∙ (put b ∙ (ap (λ (z : Shape). references_held z b d.log) shape_d ∙ (none_held b ∙ sym (before.none b))))
