-- Callers that are done, and the entries of all of them.
use Rattle.std.specs.Prelude.{◌≡◌, suc, List, [], ◌∷◌, length}
use Rattle.ft_model.specs.declared.call.Call.{Call}
use Rattle.ft_model.specs.declared.entry.Entry.{Entry as NamedEntry}
use Rattle.ft_model.specs.declared.entry.Storage.TheVariants as storage
use Rattle.ft_model.specs.declared.script.ScriptParts.{ScriptParts}
use Rattle.ft_model.specs.Numbers.{AreDone, AreNumberedLists, IsHistoryOf}
use Rattle.ft_trace.specs.declared.Shape.{Shape}
use Rattle.ft_trace.specs.Acts.{announces, told_in}
use Rattle.ft_trace.specs.Boxes.{HasMergedBoxes}
use Rattle.ft_trace.specs.Owners.{found_owners, had_locks}
use Rattle.ft_bank.specs.Passes.{view}
use Rattle.ft_bank.specs.PassSections.{stack_of}
use Rattle.ft_bank_history.specs.Marks.{HaveScriptCalls}
use Rattle.ft_bank_history.specs.Numbering.{HaveNamedEntries, AskOwnCursors, IsFor}
use Rattle.ft_engine.specs.declared.caller.Caller.{Caller}
use Rattle.ft_engine.specs.Callers.{IsIdle, taken_of, thread_of}
use Rattle.ft_engine.specs.Keeping.{WasAnswered}

-- the caller has made its last call: it is in no call and in no section, is offline, and has merged its boxes
pub record IsCallerDone (c : Caller) : Type 0 where
  pub idle : IsIdle c
  pub sections : (stack_of c.pass).sections ≡ []
  pub offline : announces (view c.pass).log ≡ 0
  pub merged : HasMergedBoxes (view c.pass).log

-- The first of these lists has the entries that the caller was answered, and the others those of the callers that it
-- took in, in the order of the threads.
abbrev pub WereAnswered : Caller → List (List NamedEntry) → Type 0
WereAnswered c [] = ⊥
WereAnswered c (mine ∷ others) =
    WasAnswered c mine
    × HaveNamedEntries (suc (thread_of c)) others (taken_of c) (had_locks (view c.pass).number (view c.pass).log)
    (found_owners (view c.pass).log) (told_in (view c.pass).log)

-- The lists are those of the script's threads: the bank was made for it, and no thread asks a cursor that it doesn't
-- have. (profile)
pub record AreOfScript (script : ScriptParts) (k : Shape) (lists : List (List NamedEntry)) : Type 0 where
  pub shape : IsFor script k
  pub cursors : AskOwnCursors script lists
  pub count : length lists ≡ length script.threads

-- numbered entries of the script, with containers on tables; where all calls are made, its threads are done
abbrev pub AreNumberedFor : ScriptParts → List (List NamedEntry) → Type 0
AreNumberedFor script lists =
    ∥ ((calls : List Call) × AreNumberedLists storage.Tables script calls lists
    × (HaveScriptCalls script lists → AreDone script calls lists)) ∥₁

-- a legal history of the script, with containers on tables, in which MemoryErrors fit
abbrev pub IsLegalFor : ScriptParts → List NamedEntry → Type 0
IsLegalFor script history = ∥ ((calls : List Call) × IsHistoryOf storage.Tables script calls history) ∥₁
