-- What the entries of a session are after a step, for whoever keeps them.
use Rattle.std.specs.Prelude.{◌≡◌, ℕ, Bool, true, false, List, [], ◌∷◌, ◌++◌, map, reverse}
use Rattle.ft_model.specs.declared.call.Call.{Call}
use Rattle.ft_model.specs.declared.entry.Entry.{Entry}
use Rattle.ft_trace.specs.OwnCursors.{plain_entry}
use Rattle.ft_bank.specs.Passes.{view}
use Rattle.ft_engine.specs.declared.caller.Caller.{Caller}
use Rattle.ft_engine.specs.declared.engine.Engine.{Engine}
use Rattle.ft_engine.specs.Callers.{IsIdle, pass_of, thread_of}
use Rattle.ft_engine.specs.Keeping.{WasAnswered, named_entry}
use Rattle.ft_engine.specs.Refusals.{IsCause}
use Rattle.ft_facade.specs.declared.stepping.Stepped.{Stepped}
use Rattle.ft_facade.specs.declared.stepping.Stepped.TheVariants as stepped

-- the entries of the caller's pass are just these, the oldest first; whose thread, index and mark they have isn't said
abbrev pub HasJust : List Entry → Caller → Type 0
HasJust mine c = (view (pass_of c)).entries ≡ reverse (map plain_entry mine)

-- What the caller was answered after a step, of a caller that was answered these entries: a call that is done is one
-- entry more, with its reply, stamp and mark, and no other answer makes one.
abbrev pub HasStepped : Call → Stepped → ℕ → List Entry → Caller → Type 0
HasStepped called (stepped.Done said stamp mark) thread mine d =
    WasAnswered d (mine ++ named_entry thread mine called said stamp mark ∷ [])
HasStepped called stepped.Again thread mine d = WasAnswered d mine
HasStepped called stepped.NoMemory thread mine d = HasJust mine d
HasStepped called (stepped.Refused cause) thread mine d = WasAnswered d mine
HasStepped called stepped.Offline thread mine d = WasAnswered d mine

-- whoever kept just the entries that the caller was answered has them again with that of this step
abbrev pub KeepsEntries : Call → Stepped → Caller → Caller → Type 0
KeepsEntries called s c d = (mine : List Entry) → WasAnswered c mine → HasStepped called s (thread_of c) mine d

-- the same after any number of calls: whoever kept the entries before them has those and the ones of these calls
abbrev pub KeepsSome : Caller → Caller → Type 0
KeepsSome c d = (mine : List Entry) → WasAnswered c mine → (more : List Entry) × WasAnswered d (mine ++ more)

-- the same after more than one call: the last of them is this one, and others may have come before it
abbrev pub KeepsMore : Call → Stepped → Caller → Caller → Type 0
KeepsMore called s c d =
    (mine : List Entry) → WasAnswered c mine
    → (before : List Entry) × HasStepped called s (thread_of c) (mine ++ before) d

-- where the call was refused nothing has changed, and the cause holds; the same offline, without a cause
abbrev pub IsRefusedOnly : Engine → Call → Stepped → Caller → Caller → Type 0
IsRefusedOnly e called (stepped.Refused cause) c d = (d ≡ c) × IsCause e c called cause
IsRefusedOnly e called stepped.Offline c d = d ≡ c
IsRefusedOnly e called (stepped.Done said stamp mark) c d = Unit {0}
IsRefusedOnly e called stepped.Again c d = Unit {0}
IsRefusedOnly e called stepped.NoMemory c d = Unit {0}

-- the call was made, or tried
abbrev pub IsNotRefused : Stepped → Type 0
IsNotRefused (stepped.Refused cause) = ⊥
IsNotRefused stepped.Offline = ⊥
IsNotRefused (stepped.Done said stamp mark) = Unit {0}
IsNotRefused stepped.Again = Unit {0}
IsNotRefused stepped.NoMemory = Unit {0}

-- whether the answer is that the session was offline
abbrev pub says_offline : Stepped → Bool
says_offline stepped.Offline = true
says_offline _ = false

-- the call is done
abbrev pub IsDone : Stepped → Type 0
IsDone (stepped.Done said stamp mark) = Unit {0}
IsDone stepped.Again = ⊥
IsDone stepped.NoMemory = ⊥
IsDone (stepped.Refused cause) = ⊥
IsDone stepped.Offline = ⊥

-- the same call doesn't come next
abbrev pub IsNotAgain : Stepped → Type 0
IsNotAgain stepped.Again = ⊥
IsNotAgain (stepped.Done said stamp mark) = Unit {0}
IsNotAgain stepped.NoMemory = Unit {0}
IsNotAgain (stepped.Refused cause) = Unit {0}
IsNotAgain stepped.Offline = Unit {0}

-- after a call that is done, or was given up, none is in flight
abbrev pub IsIdleAfter : Stepped → Caller → Type 0
IsIdleAfter (stepped.Done said stamp mark) c = IsIdle c
IsIdleAfter stepped.Again c = Unit {0}
IsIdleAfter stepped.NoMemory c = IsIdle c
IsIdleAfter (stepped.Refused cause) c = Unit {0}
IsIdleAfter stepped.Offline c = Unit {0}
