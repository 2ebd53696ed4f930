-- A clear of a list: that it may be committed, and what the list and its words are then.
use Rattle.std.proofs.Common.{◌≡◌, ◌≢◌, ℕ, ◌<◌, ◌≤◌, true, false, true≢false, List, [], length, Option, Some, None, refl, sym, ap, ◌∙◌, subst, inr, arith, length-set, get_or-set_same, get_or-set_other}
use Rattle.std.specs.Prelude.{is_some, slice_index, slice_set}
use Rattle.ft_model.specs.declared.call.Call.{Call}
use Rattle.ft_model.specs.declared.call.Call.TheVariants as call
use Rattle.ft_model.specs.declared.call.ListCall.TheVariants as list
use Rattle.ft_model.specs.declared.content.Content.TheVariants as content
use Rattle.ft_model.specs.declared.data.Value.{Value}
use Rattle.ft_model.specs.declared.reply.Reply.TheVariants as reply
use Rattle.ft_model.specs.TableUses.{no_table}
use Rattle.ft_layout.specs.Containers.{IsRoot, IsBlock}
use Rattle.ft_trace.specs.Boxes.{place_use, use_taken}
use Rattle.ft_trace.specs.declared.Act.TheVariants.{Commit, PutBlock, StartWrite, StopWrite}
use Rattle.ft_trace.specs.declared.Snap.{Snap}
use Rattle.ft_trace.specs.declared.Shape.{Shape}
use Rattle.ft_trace.specs.declared.View.{View}
use Rattle.ft_trace.specs.Acts.{has_lock, is_writing, owes, view_after, seen_writes, used}
use Rattle.ft_trace.specs.Addresses.{container_count}
use Rattle.ft_trace.specs.Holds.{held_unboxed, known_state, held_words}
use Rattle.ft_trace.specs.Traces.{IsReachable}
use Rattle.ft_trace.specs.Pictures.{ContainerWords, root_in, Represents}
use Rattle.ft_trace.specs.ContainerStates.{ContainerState}
use Rattle.ft_trace.proofs.Cases.{hit}
use Rattle.ft_trace.proofs.Known.{declared_at}
use Rattle.ft_trace.proofs.Naming.{named_locked}
use Rattle.ft_bank.specs.declared.table.Table.{Table}
use Rattle.ft_bank.specs.Whole.{OnlyWritten, Wrote}
use Rattle.ft_bank.specs.WriteSteps.{Committed, IsShut, KeepsUnwritten, MayCommit, MayPutRoot, with_block, with_unboxed_root}
use Rattle.ft_bank.proofs.KnownAfterWrites.{put_by, put_same, work_knows, write_ends, written_then, put_written}
use Rattle.ft_table_calls.proofs.Rooting.{rooted_write}
use Rattle.ft_search.specs.OneEntryWrites.{Leaves}
use Rattle.ft_list.specs.ListItemWrites.{known_items}
use Rattle.ft_list.specs.Internal.NewListTables.{KnowsList, MayAdd, HasRooted}
use Rattle.ft_list.proofs.Commits.{content_after, in_tables, in_world, list_there}
use Rattle.ft_list.proofs.Extending.{none_alike}
use Rattle.ft_list.proofs.GrownLists.{knows_content, knows_shut, list_bare, list_head}
use Rattle.ft_list.proofs.Wanted.{list_use}
use Rattle.ft_search.proofs.Changing.{no_keys}
use Rattle.ft_bank.specs.SameBoxes.{HoldsFew, MovesReferences}

-- the call
abbrev pub clear_of : ℕ → Call
clear_of o = call.List o list.Clear

-- what it leaves
abbrev pub empty_kept : ContainerState
empty_kept = record { content = content.List []; table = no_table }

module _ (o : ℕ) (values : List Value) (u : View) (low : o < container_count u.shape) (mine : has_lock o u.log ≡ true) (is_list : (known_state o u).content ≡ content.List values) where
  -- a pass that writes a list whose root names no table may commit it
  pub may_clear : is_writing o u.log ≡ true → 0 < u.left → owes u.log ≡ 0 → root_in (held_unboxed o u) ≡ 0 → ((b : ℕ) → place_use b u.log ≢ use_taken) → MayCommit u (clear_of o) reply.Done
  may_clear odd left none bare untaken = record {
    write = refl;
    container = low;
    odd = odd;
    left = left;
    words = tt;
    locks = named_locked o None u.log mine tt;
    reply_is = λ stored has. inr refl;
    declared = λ stored has. record {
      one = declared_at stored.world o (content.List values) (in_world o list.Clear reply.Done values [] u low mine is_list stored has) (list_there o list.Clear reply.Done values [] u low mine is_list stored has);
      both = tt;
      room = tt;
    };
    fits = λ stored has. refl;
    clear = λ stored t has names. absurd (omega (arith, bare, names));
    takes = λ stored class has e. absurd (omega (arith, e, none));
    empties = λ e. refl;
    stores = λ stored has. ((λ b e. absurd (untaken b e)), (λ b c e other. absurd (untaken b e)));
  }

  -- the list is empty then, and has no table
  pub clear_kept : (c : View) → Committed u c (clear_of o) → known_state o c ≡ empty_kept
  clear_kept c committed =
      let stored = committed.found in
      let has = committed.has in
      let left = content_after o list.Clear reply.Done values [] u low mine is_list stored has refl in
      let table = get_or-set_same stored.tables o no_table no_table (in_tables o list.Clear reply.Done values [] u low mine is_list stored has) in
      committed.left o ∙ (λ d. record { content = left d; table = table d })

-- the words of an empty list without a table
pub bare_stands : (texts : List ℕ) (words : ContainerWords) (kept : ContainerState) → kept ≡ empty_kept → IsBlock words.block None 0 0 0 → Represents texts words kept
bare_stands texts words kept is head = subst (Represents texts words) (sym is) (record { head = head; table = refl }, refl)

-- a block whose root names no table, and that counts nothing
pub with_no_root : (b : List ℕ) (class : Option ℕ) (count : ℕ) → IsBlock b class count 0 0 → IsBlock (slice_set (slice_set b 0 0) 1 0) None 0 0 0
with_no_root b class count h =
    let size_is = h.size in
    let one = slice_set b 0 0 in
    let long = length-set b 0 0 in
    let first : slice_index (slice_set one 1 0) 0 ≡ 0 = get_or-set_other one 1 0 0 0 (λ e. absurd (omega (arith, e))) ∙ get_or-set_same b 0 0 0 (omega (arith, size_is)) in
    let other : (i : ℕ) → i ≢ 0 → i ≢ 1 → slice_index (slice_set one 1 0) i ≡ slice_index b i = λ i a c. get_or-set_other one 1 i 0 0 c ∙ get_or-set_other b 0 i 0 0 a in
    record {
      size = length-set one 1 0 ∙ (long ∙ h.size);
      root = subst (λ (r : ℕ). IsRoot r None) (sym first) refl;
      count_is = get_or-set_same one 1 0 0 (omega (arith, size_is, long));
      fill_is = other 2 (λ e. absurd (omega (arith, e))) (λ e. absurd (omega (arith, e))) ∙ h.fill_is;
      next_is = other 3 (λ e. absurd (omega (arith, e))) (λ e. absurd (omega (arith, e))) ∙ h.next_is;
      spare = (
        other 4 (λ e. absurd (omega (arith, e))) (λ e. absurd (omega (arith, e))) ∙ h.spare.0,
        other 5 (λ e. absurd (omega (arith, e))) (λ e. absurd (omega (arith, e))) ∙ h.spare.1,
      );
    }

-- its root may become 0
pub may_put_none : (k : Shape) (o : ℕ) (old : Option Table) (v : View) (f : ℕ) → v.shape ≡ k → ∥ IsReachable v ∥₁ → KnowsList k o old v → used v.log ≡ false → HoldsFew v → MayPutRoot (view_after (StartWrite o f) v) o None
may_put_none k o old v f shape possible list free few = record {
  odd = hit o true (is_writing o v.log);
  fresh = λ t e. absurd (true≢false (ap is_some (sym e)));
  sound = λ t e. absurd (true≢false (ap is_some (sym e)));
  young = λ t p e. absurd (true≢false (ap is_some (sym e)));
  shut = knows_shut k o old v shape possible list;
  spare = λ some_one. free;
  early = λ e. hit o false _;
  references = record { few = few; enough = λ b. omega arith; known = λ b old_none some_. absurd (some_ refl); stored = λ b taken. refl };
}

-- ---- the whole write of a list that has a table

module _ (k : Shape) (o : ℕ) (table : Table) (v s u : View) (may : MayAdd k o (Some table) v) (untaken : (b : ℕ) → place_use b v.log ≢ use_taken) (shape : v.shape ≡ k) (possible : ∥ IsReachable v ∥₁) (h : HasRooted o 0 v s) (root_held : held_unboxed o s ≡ with_unboxed_root (held_unboxed o v) o None v) (counted : u ≡ view_after (PutBlock o 1 0) s) (count_held : held_unboxed o u ≡ with_block (held_unboxed o s) 1 0) (keeps : KeepsUnwritten s u) (moves : MovesReferences o s u) where
  puts : OnlyWritten o h.rooted u
  puts = written_then o h.rooted s u h.only (put_written o s u (put_by (PutBlock o 1 0) s u o tt counted keeps moves))

  known_then : (p : ℕ) → known_state p u ≡ known_state p v
  known_then p = work_knows h.rooted u p puts.work ∙ ap (λ (z : View). known_state p z) h.did

  is_list : (known_state o v).content ≡ content.List (known_items o v)
  is_list = knows_content k o (Some table) v shape possible may.list

  low_then : o < container_count u.shape
  low_then = subst (λ (z : Shape). o < container_count z) (sym (puts.work.pass.shape ∙ (ap (λ (z : View). z.shape) h.did ∙ shape))) may.list.container

  mine_then : has_lock o u.log ≡ true
  mine_then = puts.work.pass.locks o ∙ (ap (λ (z : View). has_lock o z.log) h.did ∙ may.list.locked)

  list_then : (known_state o u).content ≡ content.List (known_items o v)
  list_then = ap (λ (z : ContainerState). z.content) (known_then o) ∙ is_list

  -- its block
  head_then : IsBlock (held_unboxed o u).block None 0 0 0
  head_then =
      subst (λ (x : ContainerWords). IsBlock x.block None 0 0 0) (sym (count_held ∙ ap (λ (x : ContainerWords). with_block x 1 0) root_held))
      (with_no_root (held_unboxed o v).block (known_state o v).table.class (length (known_items o v)) (list_head k.texts v o is_list may.list.stands))

  pub root_then : root_in (held_unboxed o u) ≡ 0
  root_then = head_then.root

  pub clear_may_commit : MayCommit u (clear_of o) reply.Done
  clear_may_commit =
      may_clear o (known_items o v) u low_then mine_then list_then
      (puts.work.pass.writes o ∙ (ap (λ (z : View). is_writing o z.log) h.did ∙ hit o true (is_writing o v.log)))
      (subst (λ (n : ℕ). 0 < n) (sym (puts.work.left ∙ ap (λ (z : View). z.left) h.did)) may.left)
      (puts.work.owes ∙ (ap (λ (z : View). owes z.log) h.did ∙ may.owes))
      root_then
      (λ b e. untaken b (ap (λ (z : View). place_use b z.log) (sym h.did) ∙ puts.made.places b e))

  -- after the commit
  module _ (number g : ℕ) (snap : Snap) (c w : View) (made : c ≡ view_after (Commit (clear_of o) reply.Done number snap) u) (committed : Committed u c (clear_of o)) where
    held_on : held_unboxed o c ≡ held_unboxed o u
    held_on = ap (λ (z : View). held_unboxed o z) made

    pub clear_stands : (texts : List ℕ) → Represents texts (held_unboxed o c) (known_state o c)
    clear_stands texts =
        bare_stands texts (held_unboxed o c) (known_state o c) (clear_kept o (known_items o v) u low_then mine_then list_then c committed) (subst (λ (x : ContainerWords). IsBlock x.block None 0 0 0) (sym held_on) head_then)

    pub clear_root : root_in (held_unboxed o c) ≡ 0
    clear_root = ap root_in held_on ∙ root_then

    pub clear_shut : IsShut o c
    clear_shut t names = let none = clear_root in absurd (omega (arith, none, names))

    pub clear_wrote : seen_writes u ≤ number → w ≡ view_after (StopWrite o g) c → Wrote (clear_of o) reply.Done number v w
    clear_wrote seen stopped =
        let some_old : root_in (held_words o v) ≢ 0 = λ e. let n = may.list.root in omega (arith, e, n) in
        rooted_write (clear_of o) reply.Done number h.start 0 v h.rooted u w h.did may.list.even some_old h.keeps h.moves puts root_then
        (write_ends (clear_of o) reply.Done number g snap u c c w seen made committed clear_may_commit.left (put_same c o) (ap root_in held_on) (clear_stands u.shape.texts) stopped)

-- ---- a list that has none is as it was

pub bare_leaves : (k : Shape) (o : ℕ) (v : View) → MayAdd k o None v → v.shape ≡ k → ∥ IsReachable v ∥₁ → Leaves o (clear_of o) reply.Done (known_state o v) v
bare_leaves k o v may shape possible =
    let knows = may.list in
    let low : o < container_count v.shape = subst (λ (z : Shape). o < container_count z) (sym shape) knows.container in
    let is_list = knows_content k o None v shape possible knows in
    let values = known_items o v in
    let empty : [] ≡ values = none_alike [] values refl (list_bare k o v knows is_list) in
    let no_use = list_use k o None v knows is_list (no_keys v o possible knows.locked) in
    record {
      write = refl;
      changed = refl;
      words = tt;
      locks = named_locked o None v.log knows.locked tt;
      replied = λ stored has. refl;
      declared = λ stored has. record {
        one = declared_at stored.world o (content.List values) (in_world o list.Clear reply.Done values [] v low knows.locked is_list stored has) (list_there o list.Clear reply.Done values [] v low knows.locked is_list stored has);
        both = tt;
        room = tt;
      };
      fits = λ stored has. refl;
      left_is = λ stored has.
          let left = content_after o list.Clear reply.Done values [] v low knows.locked is_list stored has refl in
          let table = get_or-set_same stored.tables o no_table no_table (in_tables o list.Clear reply.Done values [] v low knows.locked is_list stored has) in
          (λ d. record { content = (left ∙ (ap content.List empty ∙ sym is_list)) d; table = (table ∙ sym no_use) d });
    }
