-- That a call on a dict or a set may be committed whose words are put, and what holds from then on.
use Rattle.std.proofs.Common.{◌≡◌, ◌≢◌, ℕ, suc, ◌+◌, ◌%◌, ◌^◌, ◌<◌, ◌≤◌, true, false, true≢false, List, refl, sym, ap, ◌∙◌, subst, arith}
use Rattle.std.specs.Prelude.{slice_index}
use Rattle.std.proofs.Math.Logic.{∥∥₁_elim}
use Rattle.std.proofs.Math.Nat.{ℕ_set}
use Rattle.ft_model.specs.declared.call.Call.{Call}
use Rattle.ft_model.specs.declared.content.Content.{Content}
use Rattle.ft_model.specs.declared.reply.Reply.{Reply}
use Rattle.ft_model.specs.declared.script.Kind.{Kind}
use Rattle.ft_model.specs.declared.script.Kind.TheVariants as kind
use Rattle.ft_model.specs.TableUses.{StoredWorld, after_stored}
use Rattle.ft_model.specs.Worlds.{kind_of}
use Rattle.ft_trace.specs.declared.Act.TheVariants.{StartWrite, Commit, StopWrite}
use Rattle.ft_trace.specs.declared.Shape.{Shape}
use Rattle.ft_trace.specs.declared.Snap.{Snap}
use Rattle.ft_trace.specs.declared.View.{View}
use Rattle.ft_trace.specs.Acts.{has_lock, is_writing, has_emptied, owes, view_after, seen_writes}
use Rattle.ft_trace.specs.Addresses.{container_count, class_of, slots}
use Rattle.ft_trace.specs.Boxes.{place_use, references_held, use_taken, IsSettled, StoresTaken}
use Rattle.ft_trace.specs.Holds.{held_words, held_unboxed, known_state}
use Rattle.ft_trace.specs.Kinds.{rows, version_at, CarefulAs, ClearAs, IsKeyed, under}
use Rattle.ft_trace.specs.OddVersions.{Shut, Timely}
use Rattle.ft_trace.specs.Traces.{IsReachable}
use Rattle.ft_trace.specs.Pictures.{ContainerWords, root_in, entry_offset, entry_field, Represents}
use Rattle.ft_trace.specs.ContainerStates.{ContainerState, state_at, kind_in, changes, reply_in, kinds_in}
use Rattle.ft_trace.specs.WholeWrites.{Put, with_puts}
use Rattle.ft_trace.proofs.Cases.{hit}
use Rattle.ft_trace.proofs.Clearing.{held_shut}
use Rattle.ft_bank.specs.declared.table.Table.{Table}
use Rattle.ft_bank.specs.SameBoxes.{HoldsFew}
use Rattle.ft_bank.specs.TableNames.{table_id}
use Rattle.ft_bank.specs.WriteSteps.{Committed, IsCareful, IsShut, MayCommit, MayHave}
use Rattle.ft_bank.specs.Whole.{OnlyPut, OnlyWritten, EndsWrite, Wrote}
use Rattle.ft_bank.proofs.KnownAfterWrites.{work_knows, put_same, put_written, plain_write, write_ends}
use Rattle.ft_search.specs.OneEntryWrites.{HasTable, Leaves, MayBeginEntries, MayFinish, MayWriteEntries, WritesEntries, raised_at}
use Rattle.ft_search.proofs.Calling.{plain_replied}
use Rattle.ft_search.proofs.Changing.{Changing}
use Rattle.ft_search.proofs.Puts.{entry_refs, few_done, shut_reads}
use Rattle.ft_trace.proofs.Opened.{shut_opens}

-- ---- from the start of a write to its commit

module _ (o : ℕ) (v s u : View) (f : ℕ) (begun : s ≡ view_after (StartWrite o f) v) (puts : OnlyWritten o s u) where
  same_known : (p : ℕ) → known_state p u ≡ known_state p v
  same_known p = work_knows s u p puts.work ∙ ap (λ (z : View). known_state p z) begun

  same_shape : u.shape ≡ v.shape
  same_shape = puts.work.pass.shape ∙ ap (λ (z : View). z.shape) begun

  pub has_before : (stored : StoredWorld) → MayHave u stored → MayHave v stored
  has_before stored has = record {
    agrees = λ p low mine. has.agrees p (subst (λ (z : Shape). p < container_count z) (sym same_shape) low) (puts.work.pass.locks p ∙ (ap (λ (z : View). has_lock p z.log) begun ∙ mine)) ∙ same_known p;
    containers = has.containers ∙ ap container_count same_shape;
    kinds = has.kinds ∙ ap (λ (z : Shape). kinds_in z.starts) same_shape;
    order = has.order;
    unsplit = has.unsplit;
    words = has.words;
  }

  -- a call leaves the same
  pub leaves_later : (called : Call) (said : Reply) (left : ContainerState) → Leaves o called said left v → Leaves o called said left u
  leaves_later called said left l = record {
    write = l.write;
    changed = l.changed;
    words = l.words;
    locks = λ p e. puts.work.pass.locks p ∙ (ap (λ (z : View). has_lock p z.log) begun ∙ l.locks p e);
    replied = λ stored has. l.replied stored (has_before stored has);
    declared = λ stored has. l.declared stored (has_before stored has);
    fits = λ stored has. l.fits stored (has_before stored has);
    left_is = λ stored has. l.left_is stored (has_before stored has);
  }

  -- where its words say what it leaves, it may be committed
  pub commits_storing : (called : Call) (said : Reply) (left : ContainerState) → Leaves o called said left v → o < container_count v.shape → 0 < v.left → owes v.log ≡ 0 → ((stored : StoredWorld) → MayHave u stored → StoresTaken u.shape stored.world u.log called)
      → ((t : ℕ) → root_in (held_unboxed o u) ≡ suc t → ClearAs (kind_in v.shape.starts o) v.shape.texts (class_of t) (held_unboxed o u).table (known_state o v).content left.content)
      → MayCommit u called said
  commits_storing called said left l low some none stores clear =
      let late = leaves_later called said left l in
      let odd : is_writing o u.log ≡ true = puts.work.pass.writes o ∙ (ap (λ (z : View). is_writing o z.log) begun ∙ hit o true (is_writing o v.log)) in
      let empty : has_emptied o u.log ≡ false = puts.work.emptied o ∙ (ap (λ (z : View). has_emptied o z.log) begun ∙ hit o false (has_emptied o v.log)) in
      let owed : owes u.log ≡ 0 = puts.work.owes ∙ (ap (λ (z : View). owes z.log) begun ∙ none) in
      let clears : (stored : StoredWorld) (t : ℕ) → MayHave u stored → root_in (held_unboxed o u) ≡ suc t → ClearAs (kind_in u.shape.starts o) u.shape.texts (class_of t) (held_unboxed o u).table (known_state o u).content (state_at (after_stored stored called) o).content =
      λ stored t has names. subst (λ (z : Shape × ContainerState × ContainerState). ClearAs (kind_in z.0.starts o) z.0.texts (class_of t) (held_unboxed o u).table z.1.content z.2.content)
      (sym (λ d. (same_shape d, same_known o d, late.left_is stored has d))) (clear t names) in
      let at : o ≡ changes called = sym l.changed in
      record {
        write = l.write;
        container = subst (λ (n : ℕ). n < container_count u.shape) at (subst (λ (z : Shape). o < container_count z) (sym same_shape) low);
        odd = subst (λ (n : ℕ). is_writing n u.log ≡ true) at odd;
        left = subst (λ (n : ℕ). 0 < n) (sym (puts.work.left ∙ ap (λ (z : View). z.left) begun)) some;
        words = l.words;
        reply_is = λ stored has. plain_replied called said (reply_in stored called) l.write (late.replied stored has);
        declared = late.declared;
        fits = late.fits;
        clear = subst (λ (n : ℕ). (stored : StoredWorld) (t : ℕ) → MayHave u stored → root_in (held_unboxed n u) ≡ suc t → ClearAs (kind_in u.shape.starts n) u.shape.texts (class_of t) (held_unboxed n u).table (known_state n u).content (state_at (after_stored stored called) n).content) at clears;
        takes = λ stored class has e. absurd (omega (arith, e, owed));
        locks = late.locks;
        empties = λ e. absurd (true≢false (sym e ∙ subst (λ (n : ℕ). has_emptied n u.log ≡ false) at empty));
        stores = stores;
      }

  -- a place that the pass has taken then it had taken before
  pub taken_before : (b : ℕ) → place_use b u.log ≡ use_taken → place_use b v.log ≡ use_taken
  taken_before b e = ap (λ (z : View). place_use b z.log) (sym begun) ∙ puts.made.places b e

  -- where it had taken none, the call has no box to store
  pub stores_none : ((b : ℕ) → place_use b v.log ≢ use_taken) → (called : Call) (stored : StoredWorld) → StoresTaken u.shape stored.world u.log called
  stores_none none called stored = ((λ b e. absurd (none b (taken_before b e))), (λ b c e other. absurd (none b (taken_before b e))))

  pub may_commit : (called : Call) (said : Reply) (left : ContainerState) → Leaves o called said left v → o < container_count v.shape → 0 < v.left → owes v.log ≡ 0 → ((b : ℕ) → place_use b v.log ≢ use_taken)
      → ((t : ℕ) → root_in (held_unboxed o u) ≡ suc t → ClearAs (kind_in v.shape.starts o) v.shape.texts (class_of t) (held_unboxed o u).table (known_state o v).content left.content)
      → MayCommit u called said
  may_commit called said left l low some none untaken clear = commits_storing called said left l low some none (λ stored has. stores_none untaken called stored) clear

  pub whole_root : (called : Call) (said : Reply) (number : ℕ) (w : View) → changes called ≡ o → EndsWrite called said number u w → root_in (held_unboxed o u) ≡ root_in (held_unboxed o v) → root_in (held_unboxed o w) ≡ root_in (held_unboxed o v)
  whole_root called said number w changed ends root = subst (λ (n : ℕ). root_in (held_unboxed n w) ≡ root_in (held_unboxed n u)) changed ends.root ∙ root

  -- the whole write
  pub whole_write : (called : Call) (said : Reply) (number : ℕ) (w : View) → changes called ≡ o → is_writing o v.log ≡ false → EndsWrite called said number u w → root_in (held_unboxed o u) ≡ root_in (held_unboxed o v) → Wrote called said number v w
  whole_write called said number w changed even ends root =
      let at : o ≡ changes called = sym changed in
      plain_write called said number f v s u w
      (subst (λ (n : ℕ). s ≡ view_after (StartWrite n f) v) at begun)
      (subst (λ (n : ℕ). is_writing n v.log ≡ false) at even)
      (subst (λ (n : ℕ). OnlyWritten n s u) at puts)
      ends
      (subst (λ (n : ℕ). root_in (held_unboxed n u) ≡ root_in (held_unboxed n v)) at root)

-- ---- from the commit on

module _ (o : ℕ) (table : Table) (place : ℕ) (called : Call) (said : Reply) (u : View) (m : MayFinish o table place called said u) where
  abbrev t : ℕ
  t = table_id table

  abbrev n : ℕ
  n = slots (class_of t)

  left_known : (w : View) → Committed u w called → known_state o w ≡ m.left
  left_known w committed = committed.left o ∙ m.left_is committed.found committed.has

  -- the version of the entry may be made even
  pub close_care : IsKeyed (kind_in u.shape.starts o) → HoldsFew u → (number : ℕ) (snap : Snap) (w : View) → w ≡ view_after (Commit called said number snap) u → Committed u w called → IsCareful w o t (entry_offset n place 0) (entry_field n (held_unboxed o w).table place 0 + 1)
  close_care keyed few number snap w is committed =
      let made : View = view_after (Commit called said number snap) u in
      let odd = m.odd in
      let now : known_state o made ≡ m.left = subst (λ (z : View). known_state o z ≡ m.left) is (left_known w committed) in
      let care : CarefulAs (kind_in u.shape.starts o) (class_of t) (held_unboxed o u).table (known_state o made).content (entry_offset n place 0) (entry_field n (held_unboxed o u).table place 0 + 1) =
      subst (λ (z : ContainerState). CarefulAs (kind_in u.shape.starts o) (class_of t) (held_unboxed o u).table z.content (entry_offset n place 0) (entry_field n (held_unboxed o u).table place 0 + 1)) (sym now) m.close in
      let timely : Timely (version_at (kind_in u.shape.starts o) (class_of t)) (rows (kind_in u.shape.starts o) (class_of t)) (entry_offset n place 0) (entry_field n (held_unboxed o u).table place 0 + 1) true =
      record { before = λ q less at one. absurd (omega (arith, one, odd)); later = λ q less at two. refl } in
      let all : IsCareful made o t (entry_offset n place 0) (entry_field n (held_unboxed o made).table place 0 + 1) = record { care = care; timely = timely; references = entry_refs made o t place 0 (entry_field n (held_unboxed o made).table place 0 + 1) keyed (omega arith) (λ e. absurd (omega (arith, e))) (λ e. absurd (omega (arith, e))) few } in
      subst (λ (z : View). IsCareful z o t (entry_offset n place 0) (entry_field n (held_unboxed o z).table place 0 + 1)) (sym is) all

  module _ (number : ℕ) (snap : Snap) (w z : View) (is : w ≡ view_after (Commit called said number snap) u) (committed : Committed u w called) (only : OnlyPut o w z) (raised : held_unboxed o z ≡ raised_at t place (held_unboxed o w)) where
    words_are : held_unboxed o z ≡ raised_at t place (held_unboxed o u)
    words_are = raised ∙ ap (λ (x : View). raised_at t place (held_unboxed o x)) is

    shape_is : z.shape ≡ u.shape
    shape_is = only.work.pass.shape ∙ ap (λ (x : View). x.shape) is

    -- the words stand for what the call leaves
    pub stands_then : Represents u.shape.texts (held_unboxed o z) (known_state o z)
    stands_then = subst (λ (x : ContainerWords × ContainerState). Represents u.shape.texts x.0 x.1) (sym (λ d. (words_are d, (work_knows w z o only.work ∙ left_known w committed) d))) m.stands

    pub shut_then : root_in (held_unboxed o z) ≡ suc t → IsShut o z
    shut_then root q names =
        let same : t ≡ q = let e : suc t ≡ suc q = sym root ∙ names in omega (arith, e) in
        let here : Shut (version_at (kind_in z.shape.starts o) (class_of t)) (rows (kind_in z.shape.starts o) (class_of t)) (held_unboxed o z).table =
        subst (λ (x : Shape × ContainerWords). Shut (version_at (kind_in x.0.starts o) (class_of t)) (rows (kind_in x.0.starts o) (class_of t)) x.1.table) (sym (λ d. (shape_is d, words_are d))) m.shut in
        subst (λ (r : ℕ). Shut (version_at (kind_in z.shape.starts o) (class_of r)) (rows (kind_in z.shape.starts o) (class_of r)) (held_unboxed o z).table) same here

    pub ends_then : (stop : ℕ) (x : View) → seen_writes u ≤ number → root_in (held_unboxed o z) ≡ root_in (held_unboxed o u) → x ≡ view_after (StopWrite o stop) z → EndsWrite called said number u x
    ends_then stop x seen root stopped =
        let at : o ≡ changes called = sym m.changed in
        write_ends called said number stop snap u w z x seen is committed m.may.left
        (subst (λ (p : ℕ). OnlyPut p w z) at only)
        (subst (λ (p : ℕ). root_in (held_unboxed p z) ≡ root_in (held_unboxed p u)) at root)
        (subst (λ (p : ℕ). Represents u.shape.texts (held_unboxed p z) (known_state p z)) at stands_then)
        (subst (λ (p : ℕ). x ≡ view_after (StopWrite p stop) z) at stopped)

-- ---- a write that changes nothing

clear_same : (kind : Kind) → IsKeyed kind → (texts : List ℕ) (c : ℕ) (ws : List ℕ) (d : Content) → Shut (version_at kind c) (rows kind c) ws → ClearAs kind texts c ws d d
clear_same kind.Dict keyed texts c ws d shut = record { keeps = λ p key low even live. refl; opens = shut_opens (slots c) (rows kind.Dict c) ws (under d) (under d) shut; adds = λ key fits none some. absurd (some none) }
clear_same kind.Set keyed texts c ws d shut = record { keeps = λ p key low even live. refl; opens = shut_opens (slots c) (rows kind.Set c) ws (under d) (under d) shut; adds = λ key fits none some. absurd (some none) }
clear_same kind.List keyed texts c ws d shut = absurd keyed
clear_same (kind.Deque bound) keyed texts c ws d shut = absurd keyed

module _ (k : Shape) (o : ℕ) (v s : View) (f : ℕ) (may : MayWriteEntries k o v) (shape : v.shape ≡ k) (begun : s ≡ view_after (StartWrite o f) v) (called : Call) (said : Reply) (leaves : Leaves o called said (known_state o v) v) where
  low' : o < container_count v.shape
  low' = subst (λ (z : Shape). o < container_count z) (sym shape) may.container

  keyed' : IsKeyed (kind_in v.shape.starts o)
  keyed' = subst (λ (z : Shape). IsKeyed (kind_in z.starts o)) (sym shape) may.keyed

  -- no version is odd before the write
  shut_before : ∥ IsReachable v ∥₁ → (q : ℕ) → root_in (held_unboxed o v) ≡ suc q → Shut (version_at (kind_in v.shape.starts o) (class_of q)) (rows (kind_in v.shape.starts o) (class_of q)) (held_unboxed o v).table
  shut_before possible q root =
      shut_reads v o q root
      (λ p row. ∥∥₁_elim {P = slice_index (held_words o v).table (version_at (kind_in v.shape.starts o) (class_of q) p) % 2 ≡ 0} possible (ℕ_set _ _) (λ x. held_shut v o q low' x may.locked (may.even o) root p row))

  pub nothing_commits : ∥ IsReachable v ∥₁ → MayCommit s called said
  nothing_commits possible =
      let same : held_unboxed o v ≡ held_unboxed o s = sym (ap (λ (z : View). held_unboxed o z) begun) in
      may_commit o v s s f begun (put_written o s s (put_same s o)) called said (known_state o v) leaves low' may.left may.owes may.boxes.stored
      (λ t names. clear_same (kind_in v.shape.starts o) keyed' v.shape.texts (class_of t) (held_unboxed o s).table (known_state o v).content
      (subst (λ (z : ContainerWords). Shut (version_at (kind_in v.shape.starts o) (class_of t)) (rows (kind_in v.shape.starts o) (class_of t)) z.table) same (shut_before possible t (ap root_in same ∙ names))))

  module _ (number : ℕ) (snap : Snap) (w : View) (is : w ≡ view_after (Commit called said number snap) s) (committed : Committed s w called) where
    same_held : held_unboxed o w ≡ held_unboxed o v
    same_held = ap (λ (z : View). held_unboxed o z) is ∙ ap (λ (z : View). held_unboxed o z) begun

    same_kept : known_state o w ≡ known_state o v
    same_kept = committed.left o ∙ (leaves_later o v s s f begun (put_written o s s (put_same s o)) called said (known_state o v) leaves).left_is committed.found committed.has

    pub nothing_stands : Represents k.texts (held_unboxed o w) (known_state o w)
    nothing_stands = subst (λ (x : ContainerWords × ContainerState). Represents k.texts x.0 x.1) (sym (λ d. (same_held d, same_kept d))) may.stands

    shape_now : w.shape ≡ v.shape
    shape_now = ap (λ (z : View). z.shape) is ∙ ap (λ (z : View). z.shape) begun

    pub nothing_shut : ∥ IsReachable v ∥₁ → IsShut o w
    nothing_shut possible q names p less =
        let root : root_in (held_unboxed o v) ≡ suc q = ap root_in (sym same_held) ∙ names in
        let row : p < rows (kind_in v.shape.starts o) (class_of q) = subst (λ (x : Shape). p < rows (kind_in x.starts o) (class_of q)) shape_now less in
        let before = shut_before possible q root p row in
        subst (λ (x : Shape × ContainerWords). slice_index x.1.table (version_at (kind_in x.0.starts o) (class_of q) p) % 2 ≡ 0) (sym (λ d. (shape_now d, same_held d))) before

    pub nothing_wrote : ∥ IsReachable v ∥₁ → (stop : ℕ) (x : View) → seen_writes s ≤ number → x ≡ view_after (StopWrite o stop) w → Wrote called said number v x
    nothing_wrote possible stop x seen stopped =
        let at : o ≡ changes called = sym leaves.changed in
        let stands : Represents s.shape.texts (held_unboxed o w) (known_state o w) = subst (λ (z : Shape). Represents z.texts (held_unboxed o w) (known_state o w)) (sym (ap (λ (z : View). z.shape) begun ∙ shape)) nothing_stands in
        let ends : EndsWrite called said number s x =
        write_ends called said number stop snap s w w x seen is committed (nothing_commits possible).left
        (subst (λ (p : ℕ). OnlyPut p w w) at (put_same w o))
        (subst (λ (p : ℕ). root_in (held_unboxed p w) ≡ root_in (held_unboxed p s)) at (ap (λ (z : View). root_in (held_unboxed o z)) is))
        (subst (λ (p : ℕ). Represents s.shape.texts (held_unboxed p w) (known_state p w)) at stands)
        (subst (λ (p : ℕ). x ≡ view_after (StopWrite p stop) w) at stopped) in
        whole_write o v s s f begun (put_written o s s (put_same s o)) called said number x leaves.changed (may.even o) ends (ap (λ (z : View). root_in (held_unboxed o z)) begun)

-- ---- a write that changes one entry

module _ (k : Shape) (o : ℕ) (table : Table) (v s u : View) (f : ℕ) (may : MayBeginEntries k o v) (shape : v.shape ≡ k) (begun : s ≡ view_after (StartWrite o f) v) (only : OnlyWritten o s u) (place : ℕ) (early : List Put) (left : ContainerState) (change : Changing k.texts (table_id table) (held_unboxed o v) (known_state o v) place early left)
    (kind_eq : kind_of (known_state o v).content ≡ kind_in k.starts o) (words : held_unboxed o u ≡ with_puts (held_unboxed o v) early) (root : root_in (held_unboxed o u) ≡ suc (table_id table)) (called : Call) (said : Reply) (leaves : Leaves o called said left v)
    (stores : (stored : StoredWorld) → MayHave u stored → StoresTaken u.shape stored.world u.log called) where
  abbrev c' : ℕ
  c' = class_of (table_id table)

  abbrev at' : ℕ
  at' = entry_offset (slots c') place 0

  low'' : o < container_count v.shape
  low'' = subst (λ (z : Shape). o < container_count z) (sym shape) may.container

  kind_v : kind_of (known_state o v).content ≡ kind_in v.shape.starts o
  kind_v = kind_eq ∙ sym (ap (λ (z : Shape). kind_in z.starts o) shape)

  kind_u : kind_of (known_state o v).content ≡ kind_in u.shape.starts o
  kind_u = kind_v ∙ sym (ap (λ (z : Shape). kind_in z.starts o) (same_shape o v s u f begun only))

  texts_u : k.texts ≡ u.shape.texts
  texts_u = sym (ap (λ (z : Shape). z.texts) (same_shape o v s u f begun only ∙ shape))

  clears : (t : ℕ) → root_in (held_unboxed o u) ≡ suc t → ClearAs (kind_in v.shape.starts o) v.shape.texts (class_of t) (held_unboxed o u).table (known_state o v).content left.content
  clears t names =
      let same : table_id table ≡ t = let e : suc (table_id table) ≡ suc t = sym root ∙ names in omega (arith, e) in
      subst (λ (n : ℕ). ClearAs (kind_in v.shape.starts o) v.shape.texts (class_of n) (held_unboxed o u).table (known_state o v).content left.content) same
      (subst (λ (z : Kind × List ℕ × ContainerWords). ClearAs z.0 z.1 c' z.2.table (known_state o v).content left.content) (λ d. (kind_v d, sym (ap (λ (z : Shape). z.texts) shape) d, sym words d)) change.clear)

  pub entry_finishes : MayFinish o table place called said u
  entry_finishes = record {
    may = commits_storing o v s u f begun only called said left leaves low'' may.left may.owes stores clears;
    changed = leaves.changed;
    left = left;
    left_is = (leaves_later o v s u f begun only called said left leaves).left_is;
    odd = subst (λ (x : ContainerWords). entry_field (slots c') x.table place 0 % 2 ≡ 1) (sym words) change.odd;
    close = subst (λ (z : Kind × ContainerWords). CarefulAs z.0 c' z.1.table left.content at' (entry_field (slots c') z.1.table place 0 + 1)) (λ d. (kind_u d, sym words d)) change.close;
    stands = subst (λ (z : List ℕ × ContainerWords). Represents z.0 (raised_at (table_id table) place z.1) left) (λ d. (texts_u d, sym words d)) change.stands;
    shut = subst (λ (z : Kind × ContainerWords). Shut (version_at z.0 c') (rows z.0 c') (raised_at (table_id table) place z.1).table) (λ d. (kind_u d, sym words d)) change.shut;
  }

pub settled_begun : (o : ℕ) (v s : View) (f : ℕ) → s ≡ view_after (StartWrite o f) v → IsSettled v.log → IsSettled s.log
settled_begun o v s f begun x = subst (λ (z : View). IsSettled z.log) (sym begun) (record { unmade = x.unmade; counted = x.counted; whole = x.whole; given = x.given })

-- who may write the container may begin to
pub begins_entries : (k : Shape) (o : ℕ) (v : View) → v.shape ≡ k → MayWriteEntries k o v → MayBeginEntries k o v
begins_entries k o v shape may = record {
  container = may.container;
  keyed = may.keyed;
  locked = may.locked;
  even = may.even;
  stands = may.stands;
  owes = may.owes;
  settled = may.boxes.settled;
  few = few_done k v shape may.boxes;
  left = may.left;
}

-- the pass writes the container once it has begun
pub begun_writes : (k : Shape) (o : ℕ) (table : Table) (v s : View) (f : ℕ) → s ≡ view_after (StartWrite o f) v → MayBeginEntries k o v → HasTable k o table v → WritesEntries k o table s
begun_writes k o table v s f begun may has = record {
  container = may.container;
  keyed = may.keyed;
  table_in = has.table_in;
  locked = ap (λ (z : View). has_lock o z.log) begun ∙ may.locked;
  odd = ap (λ (z : View). is_writing o z.log) begun ∙ hit o true (is_writing o v.log);
  root = ap (λ (z : View). root_in (held_unboxed o z)) begun ∙ has.root;
  settled = settled_begun o v s f begun may.settled;
  few = λ b. subst (λ (n : ℕ). n < 2 ^ 31) (sym (ap (λ (z : View). references_held z.shape b z.log) begun)) (may.few b);
}

pub writes_begun : (k : Shape) (o : ℕ) (table : Table) (v s : View) (f : ℕ) → v.shape ≡ k → s ≡ view_after (StartWrite o f) v → MayWriteEntries k o v → HasTable k o table v → WritesEntries k o table s
writes_begun k o table v s f shape begun may has = begun_writes k o table v s f begun (begins_entries k o v shape may) has
