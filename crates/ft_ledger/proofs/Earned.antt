-- A MemoryError of a class that stands where the ledger says has its cause.
use Rattle.std.proofs.Common.{◌≡◌, ℕ, true, false, List, length, take, Some, None, refl, sym, subst, ◌∙◌, arith}
use Rattle.std.specs.Prelude.{◌⊎◌, slice_get, if◌then◌else◌}
use Rattle.std.specs.Option.{option_map_or}
use Rattle.std.proofs.lemmas.Bool.{eqb-true}
use Rattle.std.proofs.lemmas.Option.{none-some}
use Rattle.ft_model.specs.declared.call.Call.{Call}
use Rattle.ft_model.specs.declared.entry.Entry.{Entry}
use Rattle.ft_model.specs.declared.entry.Storage.TheVariants as storage
use Rattle.ft_model.specs.declared.reply.Reply.{Reply}
use Rattle.ft_model.specs.declared.reply.Reply.TheVariants as reply
use Rattle.ft_model.specs.declared.reply.Raise.TheVariants as raise
use Rattle.ft_model.specs.declared.script.ScriptParts.{ScriptParts}
use Rattle.ft_model.specs.declared.script.Start.{Start}
use Rattle.ft_model.specs.Classes.{IsClass}
use Rattle.ft_model.specs.Histories.{EachAt, IsEarnedAt, entries_of, writes}
use Rattle.ft_model.specs.Scripts.{IsScript}
use Rattle.ft_model.specs.TableUses.{CanLackLeaving, CanLackMemory, IsClassEarned, IsEarnedReply, IsFitting, IsFittingReply, StoredWorld, Supply, stored_after, stored_by, supply_of, table_count, takes, takes_in}
use Rattle.ft_model.specs.Worlds.{starts_of}
use Rattle.ft_ledger.specs.Ledgers.{Ledger, HasLedgerErrors, collected, is_out_of, lacks_in, ledger_after, raises_else, wanted}
use Rattle.ft_ledger.specs.LedgerLaws.{AreAnswered, IsEarnedElse, EarnsElse, IsUsedUp}
use Rattle.ft_ledger.proofs.AddingUp.{even_before, ledger_reply, none_else}
use Rattle.ft_ledger.proofs.Counts.{collected_more}
use Rattle.ft_ledger.proofs.TableClasses.{takes_class}
use Rattle.ft_ledger.proofs.TakingCalls.{can_lack}

-- what a MemoryError says by the ledger
record Lacks (stored : StoredWorld) (ledger : Ledger) (entry : Entry) (class : ℕ) : Type 0 where
  takes : takes_in stored entry.call ≡ Some class
  out : table_count (collected entry.thread ledger).free class ≡ 0

lacks_is : (stored : StoredWorld) (ledger : Ledger) (entry : Entry) (class : ℕ) → lacks_in stored ledger entry ≡ Some class → Lacks stored ledger entry class
lacks_is stored ledger entry class lacks =
    let mid = collected entry.thread ledger in
    elim (wanted stored entry) as (λ o. wanted stored entry ≡ o → option_map_or (λ c. if is_out_of mid c then Some c else None) o None ≡ Some class → Lacks stored ledger entry class) [
      | None ↦ λ none some. absurd (none-some class some)
      | Some new ↦ λ wants.
          elim (is_out_of mid new) as (λ b. is_out_of mid new ≡ b → (if b then Some new else None) ≡ Some class → Lacks stored ledger entry class) [
            | true ↦ λ out same.
                let is : new ≡ class = cc in
                record {
                  takes = (none_else (raises_else entry.reply) (takes_in stored entry.call) new wants).1 ∙ same;
                  out = subst (λ c. table_count mid.free c ≡ 0) is (eqb-true (table_count mid.free new) 0 out);
                }
            | false ↦ λ some none. absurd (none-some class none)
          ] refl
    ] refl lacks

-- all causes, from those of classes and the others
all_earned : (starts : List Start) (supply : Supply) (calls : List Call) (mine : List Entry) (called : Call) (said : Reply) → IsEarnedElse starts supply calls mine called said
    → ((class : ℕ) → said ≡ reply.Raised (raise.Memory class) → (CanLackMemory (stored_by starts calls).world called ⊎ CanLackLeaving starts (stored_by starts calls).world called) × IsClassEarned starts supply.tables supply.threads calls class)
    → IsEarnedReply starts supply calls mine called said
all_earned starts supply calls mine called (reply.Raised (raise.Memory class)) earned why = let cause = why class refl in (cause.0, earned, cause.1)
all_earned starts supply calls mine called _ earned why = earned

fits : (stored : StoredWorld) (called : Call) (said : Reply) (class : ℕ) → said ≡ reply.Raised (raise.Memory class) → takes_in stored called ≡ Some class → IsFittingReply stored called said
fits stored called said class is takes = subst (IsFittingReply stored called) (sym is) takes

module _ (script : ScriptParts) (entries : List Entry) (rule : IsScript script) (are : AreAnswered script entries) (errors : HasLedgerErrors script entries) where
  module _ (place : ℕ) (entry : Entry) (at : slice_get entries place ≡ Some entry) (class : ℕ) (memory : entry.reply ≡ reply.Raised (raise.Memory class)) where
    before : List Entry
    before = take place entries

    lacks_here : Lacks (stored_after script (writes before)) (ledger_after script before) entry class
    unfolding before
    lacks_here = lacks_is (stored_after script (writes (take place entries))) (ledger_after script (take place entries)) entry class ((ledger_reply script entries errors place entry at class).0 memory)

    pub used_up : IsUsedUp script (take place entries) class
    unfolding before
    used_up =
        let even = even_before script entries rule are errors place in
        let is : IsClass class = takes_class (stored_after script (writes (take place entries))) entry.call class lacks_here.takes in
        let more = collected_more entry.thread (ledger_after script (take place entries)) class even.kept.classes is even.kept.counts in
        let out = lacks_here.out in
        let sum = even.sum class is in
        let taken = even.taken class is in
        record {
          is_class = is;
          none_free = omega (arith, more, out);
          all_used = omega (arith, more, out, sum);
          all_taken = omega (arith, more, out, taken);
        }

    pub fitting : IsFitting storage.Tables script (writes (take place entries)) entry
    unfolding before
    fitting = fits (stored_after script (writes (take place entries))) entry.call entry.reply class memory lacks_here.takes

    cause : (CanLackMemory (stored_after script (writes (take place entries))).world entry.call ⊎ CanLackLeaving (starts_of script.containers) (stored_after script (writes (take place entries))).world entry.call)
        × IsClassEarned (starts_of script.containers) script.tables (length script.threads) (writes (take place entries)) class
    unfolding before
    cause =
        let used = used_up in
        let all = used.all_taken in (
          can_lack (starts_of script.containers) (writes (take place entries)) entry.call class lacks_here.takes,
          record { is_class = used.is_class; all_taken = omega (arith, all) },
        )

  pub all_are_earned : EarnsElse script entries → EachAt entries (IsEarnedAt storage.Tables script entries)
  all_are_earned others place entry at =
      all_earned (starts_of script.containers) (supply_of script) (writes (take place entries)) (entries_of entry.thread (take place entries)) entry.call entry.reply
      (others place entry at)
      (λ class memory. cause place entry at class memory)
