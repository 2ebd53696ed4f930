-- A whole write in which a list gets another table.
use Rattle.std.proofs.Common.{◌≡◌, ◌≢◌, ℕ, suc, ◌<◌, Bool, true, false, List, length, Option, Some, sym, ap, ◌∙◌, subst, arith, ne_eqb}
use Rattle.std.specs.Prelude.{if◌then◌else◌, ◌==◌, None}
use Rattle.std.specs.Option.{unwrap_or}
use Rattle.ft_model.specs.declared.call.Call.{Call}
use Rattle.ft_model.specs.declared.call.Call.TheVariants as call
use Rattle.ft_model.specs.declared.call.ListCall.{ListCall}
use Rattle.ft_model.specs.declared.content.Content.TheVariants as content
use Rattle.ft_model.specs.declared.data.Value.{Value}
use Rattle.ft_model.specs.declared.reply.Reply.TheVariants as reply
use Rattle.ft_model.specs.Calls.{is_changing_list}
use Rattle.ft_model.specs.TableUses.{StoredWorld}
use Rattle.ft_layout.specs.Containers.{IsBlock}
use Rattle.ft_trace.specs.declared.Act.TheVariants.{StartWrite, PutRoot}
use Rattle.ft_trace.specs.declared.Shape.{Shape}
use Rattle.ft_trace.specs.declared.View.{View}
use Rattle.ft_trace.specs.Addresses.{class_of}
use Rattle.ft_trace.specs.Acts.{has_lock, is_writing, has_emptied, owes, view_after}
use Rattle.ft_trace.specs.Boxes.{place_use, use_taken, StoresTaken}
use Rattle.ft_trace.specs.ContainerStates.{ContainerState, changes}
use Rattle.ft_trace.specs.Pictures.{root_in}
use Rattle.ft_trace.specs.Holds.{held_unboxed, known_state, held_words}
use Rattle.ft_trace.proofs.Cases.{hit}
use Rattle.ft_bank.specs.declared.table.Table.{Table}
use Rattle.ft_bank.specs.TableNames.{table_id}
use Rattle.ft_bank.specs.WriteSteps.{MayHave, KeepsUnwritten}
use Rattle.ft_bank.specs.Whole.{OnlyWritten, EndsWrite, Wrote}
use Rattle.ft_bank.proofs.KnownAfterWrites.{work_knows}
use Rattle.ft_table_calls.specs.Adding.{OnlyFilled}
use Rattle.ft_table_calls.proofs.Rooting.{rooted_write, filled_wrote}
use Rattle.ft_list.specs.ListItemWrites.{WritesList, MayFinishItems}
use Rattle.ft_list.specs.ListWrites.{Grows}
use Rattle.ft_list.specs.Internal.NewListTables.{MayGrowList}
use Rattle.ft_list.proofs.Commits.{may_finish}
use Rattle.ft_list.proofs.WholeListWrites.{grows_on, has_before}
use Rattle.ft_list.proofs.ItemWordsPut.{Changed}
use Rattle.ft_bank.specs.SameBoxes.{MovesReferences}

-- a write of the list o changes it
pub list_changes : (o : ℕ) (lc : ListCall) (called : Call) → called ≡ call.List o lc → is_changing_list lc ≡ true → changes called ≡ o
list_changes o lc called is changing = ap changes is ∙ ap (λ (b : Bool). unwrap_or (if b then Some o else None) 0) changing

module _ (k : Shape) (o : ℕ) (old : Option Table) (table : Table) (v r u : View) (f : ℕ) (may : MayGrowList k o old table v) (is : r ≡ view_after (PutRoot o (suc (table_id table)) (root_in (held_unboxed o v))) (view_after (StartWrite o f) v)) (puts : OnlyWritten o r u) where
  known_then : (p : ℕ) → known_state p u ≡ known_state p v
  known_then p = work_knows r u p puts.work ∙ ap (λ (z : View). known_state p z) is

  shape_then : u.shape ≡ v.shape
  shape_then = puts.work.pass.shape ∙ ap (λ (z : View). z.shape) is

  locks_then : (p : ℕ) → has_lock p v.log ≡ true → has_lock p u.log ≡ true
  locks_then p mine = puts.work.pass.locks p ∙ (ap (λ (z : View). has_lock p z.log) is ∙ mine)

  not_emptied : has_emptied o u.log ≡ false
  not_emptied =
      let after : has_emptied o r.log ≡ (suc (table_id table) == 0) = ap (λ (z : View). has_emptied o z.log) is ∙ hit o (suc (table_id table) == 0) _ in
      puts.work.emptied o ∙ (after ∙ ne_eqb (suc (table_id table)) 0 (λ e. absurd (omega (arith, e))))

  pub grow_finishing : (first past : ℕ) (lc : ListCall) (called : Call) (values news : List Value) → called ≡ call.List o lc → Grows o lc values news (class_of (table_id table)) v → (known_state o v).content ≡ content.List values → WritesList k o table u → u.shape ≡ k → Changed (class_of (table_id table)) values news first past (held_unboxed o u).table → IsBlock (held_unboxed o u).block (Some (class_of (table_id table))) (length news) 0 0
      → ((stored : StoredWorld) → MayHave u stored → StoresTaken u.shape stored.world u.log called)
      → MayFinishItems o table called reply.Done first past u
  grow_finishing first past lc called values news names grows is_list list shape changing head stores =
      let class = class_of (table_id table) in
      let g = grows_on v u known_then shape_then locks_then o lc values news class grows in
      let owed : owes u.log ≡ suc class = puts.work.owes ∙ (ap (λ (z : View). owes z.log) is ∙ may.owed) in
      subst (λ (z : Call). MayFinishItems o table z reply.Done first past u) (sym names)
      (may_finish k o table first past lc reply.Done values news u list shape (ap (λ (z : ContainerState). z.content) (known_then o) ∙ is_list)
      g.write g.table
      (λ stored c has e. let same : class ≡ c = omega (arith, e, owed) in g.takes stored has ∙ ap (λ (n : ℕ). Some n) same)
      changing
      (subst (λ (n : ℕ). 0 < n) (sym (puts.work.left ∙ ap (λ (z : View). z.left) is)) may.left)
      not_emptied
      head
      (subst (λ (z : Call). (stored : StoredWorld) → MayHave u stored → StoresTaken u.shape stored.world u.log z) names stores))

  -- a place that the pass has taken then it had taken before
  pub taken_before_root : (b : ℕ) → place_use b u.log ≡ use_taken → place_use b v.log ≡ use_taken
  taken_before_root b e = ap (λ (z : View). place_use b z.log) (sym is) ∙ puts.made.places b e

  -- what the bank may have then it may have had before
  pub earlier_root : (stored : StoredWorld) → MayHave u stored → MayHave v stored
  earlier_root stored has = has_before v u known_then shape_then locks_then stored has

  pub grow_wrote : (lc : ListCall) (called : Call) (number : ℕ) (before w : View) → called ≡ call.List o lc → is_changing_list lc ≡ true → OnlyFilled before v → held_words o v ≡ held_words o before → root_in (held_words o v) ≢ suc (table_id table) → KeepsUnwritten (view_after (StartWrite o f) v) r → MovesReferences o (view_after (StartWrite o f) v) r → root_in (held_words o u) ≡ suc (table_id table) → EndsWrite called reply.Done number u w → Wrote called reply.Done number before w
  grow_wrote lc called number before w names changing only same new keeps moves root ends =
      let at = list_changes o lc called names changing in
      filled_wrote called reply.Done number before v w only
      (subst (λ (n : ℕ). held_words n v ≡ held_words n before) (sym at) same)
      (subst (λ (n : ℕ). r ≡ view_after (PutRoot n (suc (table_id table)) (root_in (held_words n v))) (view_after (StartWrite n f) v) → is_writing n v.log ≡ false → root_in (held_words n v) ≢ suc (table_id table) → KeepsUnwritten (view_after (StartWrite n f) v) r → MovesReferences n (view_after (StartWrite n f) v) r → OnlyWritten n r u → root_in (held_words n u) ≡ suc (table_id table) → EndsWrite called reply.Done number u w → Wrote called reply.Done number v w) at
      (rooted_write called reply.Done number f (suc (table_id table)) v r u w)
      is may.list.even new keeps moves puts root ends)
