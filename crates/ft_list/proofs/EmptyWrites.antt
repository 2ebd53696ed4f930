-- A whole write of a list without a table, which puts nothing.
use Rattle.std.proofs.Common.{◌≡◌, ◌≢◌, ℕ, ◌<◌, ◌≤◌, Bool, true, List, Option, Some, None, sym, ap, ◌∙◌, subst, arith}
use Rattle.std.specs.Prelude.{◌&&◌, not, IfSome, if◌then◌else◌}
use Rattle.std.specs.Option.{unwrap_or}
use Rattle.ft_model.specs.declared.call.Call.{Call}
use Rattle.ft_model.specs.declared.call.Call.TheVariants as call
use Rattle.ft_model.specs.declared.call.ListCall.{ListCall}
use Rattle.ft_model.specs.declared.content.Content.TheVariants as content
use Rattle.ft_model.specs.declared.data.Value.{Value}
use Rattle.ft_model.specs.declared.reply.Reply.{Reply}
use Rattle.ft_model.specs.TableUses.{StoredWorld, after_stored}
use Rattle.ft_model.specs.Worlds.{no_hands, IsDeclared}
use Rattle.ft_trace.specs.declared.Act.TheVariants.{StartWrite, StopWrite, Commit}
use Rattle.ft_trace.specs.declared.Shape.{Shape}
use Rattle.ft_trace.specs.declared.Snap.{Snap}
use Rattle.ft_trace.specs.declared.View.{View}
use Rattle.ft_trace.specs.Acts.{has_lock, view_after, seen_writes}
use Rattle.ft_trace.specs.Addresses.{container_count}
use Rattle.ft_trace.specs.Boxes.{place_use, use_taken}
use Rattle.ft_trace.specs.Holds.{held_unboxed, known_state}
use Rattle.ft_trace.specs.Pictures.{ContainerWords, root_in, Represents}
use Rattle.ft_trace.specs.ContainerStates.{ContainerState, state_at, changes}
use Rattle.ft_trace.proofs.Known.{declared_at}
use Rattle.ft_bank.specs.Whole.{Wrote, OnlyPut}
use Rattle.ft_bank.specs.WriteSteps.{MayHave, MayCommit, Committed, IsShut}
use Rattle.ft_bank.proofs.KnownAfterWrites.{put_same, write_ends}
use Rattle.ft_search.specs.OneEntryWrites.{Leaves}
use Rattle.ft_search.proofs.ReadyCommits.{leaves_later, may_commit, whole_write}
use Rattle.ft_list.specs.ListWrites.{MayBeginList, Changes}
use Rattle.ft_list.proofs.Commits.{list_there, in_world, content_after}
use Rattle.ft_list.proofs.ListMidst.{reply_changes}
use Rattle.ft_list.proofs.Written.{written_same}

module _ (o : ℕ) (lc : ListCall) (said : Reply) (values : List Value) (v : View) (low : o < container_count v.shape) (mine : has_lock o v.log ≡ true) (is_list : (known_state o v).content ≡ content.List values) (c : Changes o lc said values values v) where
  abbrev called : Call
  called = call.List o lc

  changed : changes called ≡ o
  changed = ap (λ (b : Bool). unwrap_or (if b then Some o else None) 0) c.write.changing

  -- the list is as it was
  left_same : (stored : StoredWorld) → MayHave v stored → state_at (after_stored stored called) o ≡ known_state o v
  left_same stored has =
      let inside = content_after o lc said values values v low mine is_list stored has (c.write.answered stored has) ∙ sym is_list in
      let table = c.table stored has ∙ ap (λ (z : ContainerState). z.table) (has.agrees o low mine) in
      λ d. record { content = inside d; table = table d }

  declared : (stored : StoredWorld) → MayHave v stored → IsDeclared stored.world no_hands called
  declared stored has = record {
    one = declared_at stored.world o (content.List values) (in_world o lc said values values v low mine is_list stored has) (list_there o lc said values values v low mine is_list stored has);
    both = c.write.other stored has;
    room = subst (λ (z : Option ℕ). IfSome z (λ (n : ℕ). n < 0)) (sym c.write.cursor) tt;
  }

  pub leaves_same : Leaves o called said (known_state o v) v
  leaves_same = record {
    write = (λ d. c.write.changing d && not (c.write.raises d));
    changed = changed;
    words = c.write.fits;
    locks = c.write.locks;
    replied = reply_changes o lc said values v low mine is_list values c;
    declared = declared;
    fits = c.write.caps;
    left_is = left_same;
  }

-- from the version made odd to its end
module _ (k : Shape) (o : ℕ) (v s : View) (f : ℕ) (may : MayBeginList k o v) (untaken : (b : ℕ) → place_use b v.log ≢ use_taken) (shape : v.shape ≡ k) (begun : s ≡ view_after (StartWrite o f) v) (bare : root_in (held_unboxed o v) ≡ 0) (called : Call) (said : Reply) (leaves : Leaves o called said (known_state o v) v) where
  bare_then : root_in (held_unboxed o s) ≡ 0
  bare_then = ap (λ (z : View). root_in (held_unboxed o z)) begun ∙ bare

  pub nothing_commits : MayCommit s called said
  nothing_commits =
      may_commit o v s s f begun (written_same o s) called said (known_state o v) leaves (subst (λ (z : Shape). o < container_count z) (sym shape) may.container) may.left may.owes untaken
      (λ t names. absurd (let r = bare_then in omega (arith, r, names)))

  module _ (number : ℕ) (snap : Snap) (w : View) (done : w ≡ view_after (Commit called said number snap) s) (committed : Committed s w called) where
    same_held : held_unboxed o w ≡ held_unboxed o v
    same_held = ap (λ (z : View). held_unboxed o z) done ∙ ap (λ (z : View). held_unboxed o z) begun

    same_kept : known_state o w ≡ known_state o v
    same_kept = committed.left o ∙ (leaves_later o v s s f begun (written_same o s) called said (known_state o v) leaves).left_is committed.found committed.has

    pub nothing_stands : Represents k.texts (held_unboxed o w) (known_state o w)
    nothing_stands = subst (λ (z : ContainerWords × ContainerState). Represents k.texts z.0 z.1) (sym (λ d. (same_held d, same_kept d))) may.stands

    pub nothing_shut : IsShut o w
    nothing_shut t names = absurd (let r : root_in (held_unboxed o w) ≡ 0 = ap root_in same_held ∙ bare in omega (arith, r, names))

    pub nothing_wrote : (stop : ℕ) (x : View) → seen_writes s ≤ number → x ≡ view_after (StopWrite o stop) w → Wrote called said number v x
    nothing_wrote stop x seen stopped =
        let at : o ≡ changes called = sym leaves.changed in
        let stands : Represents s.shape.texts (held_unboxed o w) (known_state o w) = subst (λ (z : Shape). Represents z.texts (held_unboxed o w) (known_state o w)) (sym (ap (λ (z : View). z.shape) begun ∙ shape)) nothing_stands in
        let ends = write_ends called said number stop snap s w w x seen done committed nothing_commits.left
        (subst (λ (n : ℕ). OnlyPut n w w) at (put_same w o))
        (subst (λ (n : ℕ). root_in (held_unboxed n w) ≡ root_in (held_unboxed n s)) at (ap (λ (z : View). root_in (held_unboxed o z)) done))
        (subst (λ (n : ℕ). Represents s.shape.texts (held_unboxed n w) (known_state n w)) at stands)
        (subst (λ (n : ℕ). x ≡ view_after (StopWrite n stop) w) at stopped) in
        whole_write o v s s f begun (written_same o s) called said number x leaves.changed (may.even o) ends (ap (λ (z : View). root_in (held_unboxed o z)) begun)
