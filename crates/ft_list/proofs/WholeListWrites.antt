-- A whole write of a list, from the version made odd to its end.
use Rattle.std.proofs.Common.{◌≡◌, ◌≢◌, ℕ, ◌<◌, Bool, true, false, List, length, Some, sym, ap, ◌∙◌, subst, arith, []}
use Rattle.std.specs.Prelude.{if◌then◌else◌, None}
use Rattle.std.specs.Option.{unwrap_or}
use Rattle.ft_model.specs.declared.call.Call.{Call}
use Rattle.ft_model.specs.declared.call.Call.TheVariants as call
use Rattle.ft_model.specs.declared.call.ListCall.{ListCall}
use Rattle.ft_model.specs.declared.content.Content.TheVariants as content
use Rattle.ft_model.specs.declared.data.Value.{Value}
use Rattle.ft_model.specs.declared.reply.Reply.{Reply}
use Rattle.ft_model.specs.declared.reply.Reply.TheVariants as reply
use Rattle.ft_model.specs.Calls.{is_changing_list}
use Rattle.ft_model.specs.TableUses.{StoredWorld}
use Rattle.ft_layout.specs.Containers.{IsBlock}
use Rattle.ft_trace.specs.declared.Act.TheVariants.{StartWrite}
use Rattle.ft_trace.specs.declared.Shape.{Shape}
use Rattle.ft_trace.specs.declared.View.{View}
use Rattle.ft_trace.specs.Addresses.{container_count, class_of}
use Rattle.ft_trace.specs.Acts.{has_lock, is_writing, has_emptied, owes, view_after}
use Rattle.ft_trace.specs.Boxes.{place_use, use_taken, StoresTaken}
use Rattle.ft_trace.specs.ContainerStates.{ContainerState, changes, kinds_in}
use Rattle.ft_trace.specs.Pictures.{root_in}
use Rattle.ft_trace.specs.Holds.{held_unboxed, known_state}
use Rattle.ft_trace.proofs.Cases.{hit}
use Rattle.ft_bank.specs.declared.table.Table.{Table}
use Rattle.ft_bank.specs.TableNames.{table_id}
use Rattle.ft_bank.specs.WriteSteps.{MayHave}
use Rattle.ft_bank.specs.Whole.{OnlyWritten, EndsWrite, Wrote}
use Rattle.ft_bank.proofs.KnownAfterWrites.{work_knows, plain_write}
use Rattle.ft_list.specs.ListItemWrites.{WritesList, MayFinishItems}
use Rattle.ft_list.specs.ListWrites.{MayBeginList, IsListWrite, Changes, Grows}
use Rattle.ft_list.proofs.Commits.{may_finish}
use Rattle.ft_list.proofs.ItemWordsPut.{Changed}

-- ---- what a call does, seen from later

-- where what the bank may have now it may have had before
module _ (v u : View) (before : (stored : StoredWorld) → MayHave u stored → MayHave v stored) (locks_too : (p : ℕ) → has_lock p v.log ≡ true → has_lock p u.log ≡ true) where
  pub write_from : (o : ℕ) (lc : ListCall) (said : Reply) (values news : List Value) → IsListWrite o lc said values news v → IsListWrite o lc said values news u
  write_from o lc said values news is = record {
    changing = is.changing;
    raises = is.raises;
    cursor = is.cursor;
    fits = is.fits;
    locks = λ p named. locks_too p (is.locks p named);
    answered = λ stored has. is.answered stored (before stored has);
    other = λ stored has. is.other stored (before stored has);
    caps = λ stored has. is.caps stored (before stored has);
  }

  pub grows_from : (o : ℕ) (lc : ListCall) (values news : List Value) (class : ℕ) → Grows o lc values news class v → Grows o lc values news class u
  grows_from o lc values news class is = record {
    write = write_from o lc reply.Done values news is.write;
    takes = λ stored has. is.takes stored (before stored has);
    table = λ stored has. is.table stored (before stored has);
  }

-- where it knows the same contents
module _ (v u : View) (same_known : (p : ℕ) → known_state p u ≡ known_state p v) (same_shape : u.shape ≡ v.shape) (same_locks : (p : ℕ) → has_lock p v.log ≡ true → has_lock p u.log ≡ true) where
  pub has_before : (stored : StoredWorld) → MayHave u stored → MayHave v stored
  has_before stored has = record {
    agrees = λ p low mine. has.agrees p (subst (λ (z : Shape). p < container_count z) (sym same_shape) low) (same_locks p mine) ∙ same_known p;
    containers = has.containers ∙ ap container_count same_shape;
    kinds = has.kinds ∙ ap (λ (z : Shape). kinds_in z.starts) same_shape;
    order = has.order;
    unsplit = has.unsplit;
    words = has.words;
  }

  pub write_on : (o : ℕ) (lc : ListCall) (said : Reply) (values news : List Value) → IsListWrite o lc said values news v → IsListWrite o lc said values news u
  write_on = write_from v u has_before same_locks

  pub grows_on : (o : ℕ) (lc : ListCall) (values news : List Value) (class : ℕ) → Grows o lc values news class v → Grows o lc values news class u
  grows_on = grows_from v u has_before same_locks

-- ---- a write that leaves the list's table

module _ (k : Shape) (o : ℕ) (table : Table) (v s u : View) (f : ℕ) (may : MayBeginList k o v) (begun : s ≡ view_after (StartWrite o f) v) (puts : OnlyWritten o s u) where
  same_known : (p : ℕ) → known_state p u ≡ known_state p v
  same_known p = work_knows s u p puts.work ∙ ap (λ (z : View). known_state p z) begun

  same_shape : u.shape ≡ v.shape
  same_shape = puts.work.pass.shape ∙ ap (λ (z : View). z.shape) begun

  same_locks : (p : ℕ) → has_lock p u.log ≡ has_lock p v.log
  same_locks p = puts.work.pass.locks p ∙ ap (λ (z : View). has_lock p z.log) begun

  locks_on : (p : ℕ) → has_lock p v.log ≡ true → has_lock p u.log ≡ true
  locks_on p mine = same_locks p ∙ mine

  -- a place that the pass has taken then it had taken before
  pub taken_before : (b : ℕ) → place_use b u.log ≡ use_taken → place_use b v.log ≡ use_taken
  taken_before b e = ap (λ (z : View). place_use b z.log) (sym begun) ∙ puts.made.places b e

  pub earlier_has : (stored : StoredWorld) → MayHave u stored → MayHave v stored
  earlier_has stored has = has_before v u same_known same_shape locks_on stored has

  -- where it had taken none, the call has no box to store
  pub stores_none : ((b : ℕ) → place_use b v.log ≢ use_taken) → (called : Call) (stored : StoredWorld) → StoresTaken u.shape stored.world u.log called
  stores_none none called stored = ((λ b e. absurd (none b (taken_before b e))), (λ b c e other. absurd (none b (taken_before b e))))

  pub still_changes : (lc : ListCall) (said : Reply) (values news : List Value) → Changes o lc said values news v → Changes o lc said values news u
  still_changes lc said values news call_is = record {
    write = write_on v u same_known same_shape locks_on o lc said values news call_is.write;
    table = λ stored has. call_is.table stored (has_before v u same_known same_shape locks_on stored has);
  }

  pub finishing : (first past : ℕ) (lc : ListCall) (called : Call) (said : Reply) (values news : List Value) → called ≡ call.List o lc → Changes o lc said values news v → (known_state o v).content ≡ content.List values → (known_state o v).table ≡ record { class = Some (class_of (table_id table)); fill = 0; keys = [] } → WritesList k o table u → u.shape ≡ k → Changed (class_of (table_id table)) values news first past (held_unboxed o u).table → IsBlock (held_unboxed o u).block (Some (class_of (table_id table))) (length news) 0 0
      → ((stored : StoredWorld) → MayHave u stored → StoresTaken u.shape stored.world u.log called)
      → MayFinishItems o table called said first past u
  finishing first past lc called said values news is call_is is_list kept list shape changing head stores =
      let none : owes u.log ≡ 0 = puts.work.owes ∙ (ap (λ (z : View). owes z.log) begun ∙ may.owes) in
      let low : o < container_count v.shape = subst (λ (z : Shape). o < container_count z) (sym shape ∙ same_shape) may.container in
      subst (λ (z : Call). MayFinishItems o table z said first past u) (sym is)
      (may_finish k o table first past lc said values news u list shape (ap (λ (z : ContainerState). z.content) (same_known o) ∙ is_list)
      (write_on v u same_known same_shape locks_on o lc said values news call_is.write)
      (λ stored has.
      let old = has_before v u same_known same_shape locks_on stored has in
      call_is.table stored old ∙ (ap (λ (z : ContainerState). z.table) (old.agrees o low may.locked) ∙ kept))
      (λ stored class has e. absurd (omega (arith, e, none)))
      changing
      (subst (λ (n : ℕ). 0 < n) (sym (puts.work.left ∙ ap (λ (z : View). z.left) begun)) may.left)
      (puts.work.emptied o ∙ (ap (λ (z : View). has_emptied o z.log) begun ∙ hit o false (has_emptied o v.log)))
      head
      (subst (λ (z : Call). (stored : StoredWorld) → MayHave u stored → StoresTaken u.shape stored.world u.log z) is stores))

  pub list_wrote : (lc : ListCall) (called : Call) (said : Reply) (number : ℕ) (w : View) → called ≡ call.List o lc → is_changing_list lc ≡ true → EndsWrite called said number u w → root_in (held_unboxed o u) ≡ root_in (held_unboxed o v) → Wrote called said number v w
  list_wrote lc called said number w is changing ends root =
      let at : o ≡ changes called = sym (ap changes is ∙ ap (λ (b : Bool). unwrap_or (if b then Some o else None) 0) changing) in
      plain_write called said number f v s u w
      (subst (λ (n : ℕ). s ≡ view_after (StartWrite n f) v) at begun)
      (subst (λ (n : ℕ). is_writing n v.log ≡ false) at (may.even o))
      (subst (λ (n : ℕ). OnlyWritten n s u) at puts)
      ends
      (subst (λ (n : ℕ). root_in (held_unboxed n u) ≡ root_in (held_unboxed n v)) at root)

  -- the root stays
  pub root_wrote : (lc : ListCall) (called : Call) (said : Reply) (number : ℕ) (w : View) → called ≡ call.List o lc → is_changing_list lc ≡ true → EndsWrite called said number u w → root_in (held_unboxed o u) ≡ root_in (held_unboxed o v) → root_in (held_unboxed o w) ≡ root_in (held_unboxed o v)
  root_wrote lc called said number w is changing ends root =
      let at : changes called ≡ o = ap changes is ∙ ap (λ (b : Bool). unwrap_or (if b then Some o else None) 0) changing in
      subst (λ (n : ℕ). root_in (held_unboxed n w) ≡ root_in (held_unboxed n u)) at ends.root ∙ root
