-- What callers were answered, beside the writes that the bank has so far: at every moment, whatever other callers have
-- done by then.
use Rattle.std.specs.Prelude.{List}
use Rattle.ft_model.specs.declared.entry.Entry.{Entry as NamedEntry}
use Rattle.ft_bank.specs.Passes.{view}
use Rattle.ft_bank_history.specs.SoFar.{AreAllRightSoFar, AreRightSoFar}
use Rattle.ft_engine.specs.declared.caller.Caller.{Caller}
use Rattle.ft_engine.specs.Callers.{thread_of}

-- Each entry of the caller has the reply of the plain containers after as many writes as its stamp says, and the stamp
-- of a write is its number. (profile)
abbrev pub IsAnsweredRight : Caller → List NamedEntry → Type 0
IsAnsweredRight c mine = AreRightSoFar (view c.pass) (thread_of c) mine

-- so has each entry of those that it took in, by the same writes
abbrev pub AreAnswersRight : Caller → List (List NamedEntry) → Type 0
AreAnswersRight c lists = AreAllRightSoFar (view c.pass) (thread_of c) lists
