-- What steps leave of the entries that a caller was answered, one after the other.
use Rattle.std.proofs.Common.{◌≡◌, ℕ, List, [], ◌∷◌, ◌++◌, map, reverse, Option, Some, None, IfNone, IfSome, refl, subst, sym, ap, ◌∙◌}
use Rattle.std.proofs.lemmas.List.{append-nil}
use Rattle.ft_model.specs.declared.call.Call.{Call}
use Rattle.ft_model.specs.declared.entry.Entry.{Entry}
use Rattle.ft_trace.specs.OwnCursors.{plain_entry}
use Rattle.ft_bank.specs.Passes.{view}
use Rattle.ft_engine.specs.declared.caller.Caller.{Caller}
use Rattle.ft_engine.specs.declared.caller.Flight.{Flight}
use Rattle.ft_engine.specs.declared.caller.Flight.TheVariants as flight
use Rattle.ft_engine.specs.declared.engine.Engine.{Engine}
use Rattle.ft_engine.specs.Answering.{MakesNoEntry}
use Rattle.ft_engine.specs.Callers.{flight_of, pass_of, thread_of}
use Rattle.ft_engine.specs.Keeping.{WasAnswered, named_entry, pending}
use Rattle.ft_facade.specs.declared.stepping.Stepped.{Stepped}
use Rattle.ft_facade.specs.declared.stepping.Stepped.TheVariants as stepped
use Rattle.ft_facade.specs.Kept.{HasJust, HasStepped, IsDone, IsNotRefused, IsRefusedOnly, KeepsEntries, KeepsMore, KeepsSome}

-- what was made wasn't refused
pub made_not_refused : (e : Engine) (called : Call) (s : Stepped) (c d : Caller) → IsNotRefused s → IsRefusedOnly e called s c d
made_not_refused e called (stepped.Done said stamp mark) c d made = tt
made_not_refused e called stepped.Again c d made = tt
made_not_refused e called stepped.NoMemory c d made = tt
made_not_refused e called (stepped.Refused cause) c d made = absurd made
made_not_refused e called stepped.Offline c d made = absurd made

-- a caller that gives up a call for want of memory keeps its entries
pub refused_has_just : (c d : Caller) (called : Call) (mine : List Entry) → flight_of c ≡ flight.Refused called
    → MakesNoEntry (view (pass_of c)) (view (pass_of d)) → WasAnswered c mine → HasJust mine d
refused_has_just c d called mine is none was =
    none.entries ∙ (was.0.same ∙ ap (λ (f : Flight). pending f ++ reverse (map plain_entry mine)) is)

-- a step after moments at which nothing was answered
pub kept_after : (called : Call) (s : Stepped) (c m d : Caller) → thread_of m ≡ thread_of c
    → ((mine : List Entry) → WasAnswered c mine → WasAnswered m mine) → KeepsEntries called s m d → KeepsEntries called s c d
kept_after called s c m d same before kept mine was =
    subst (λ (t : ℕ). HasStepped called s t mine d) same (kept mine (before mine was))

-- ---- more than one call

over : (xs ys zs : List Entry) → (xs ++ ys) ++ zs ≡ xs ++ (ys ++ zs)
over [] ys zs = refl
over (x ∷ xs) ys zs = ap (λ (l : List Entry). x ∷ l) (over xs ys zs)

pub some_none : (c : Caller) → KeepsSome c c
some_none c mine was = ([], subst (λ (l : List Entry). WasAnswered c l) (sym (append-nil mine)) was)

pub some_of_done : (called : Call) (s : Stepped) (c d : Caller) → IsDone s → KeepsEntries called s c d → KeepsSome c d
some_of_done called (stepped.Done said stamp mark) c d done kept =
    λ mine was. (named_entry (thread_of c) mine called said stamp mark ∷ [], kept mine was)
some_of_done called stepped.Again c d done kept = absurd done
some_of_done called stepped.NoMemory c d done kept = absurd done
some_of_done called (stepped.Refused cause) c d done kept = absurd done
some_of_done called stepped.Offline c d done kept = absurd done

pub some_after : (c m d : Caller) → KeepsSome c m → KeepsSome m d → KeepsSome c d
some_after c m d first second mine was =
    let a = first mine was in
    let b = second (mine ++ a.0) a.1 in
    (a.0 ++ b.0, subst (λ (l : List Entry). WasAnswered d l) (over mine a.0 b.0) b.1)

pub more_of : (called : Call) (s : Stepped) (c d : Caller) → KeepsEntries called s c d → KeepsMore called s c d
more_of called s c d kept mine was =
    ([], subst (λ (l : List Entry). HasStepped called s (thread_of c) l d) (sym (append-nil mine)) (kept mine was))

pub more_after : (called : Call) (s : Stepped) (c m d : Caller) → thread_of m ≡ thread_of c → KeepsSome c m → KeepsMore called s m d → KeepsMore called s c d
more_after called s c m d same first second mine was =
    let a = first mine was in
    let b = second (mine ++ a.0) a.1 in (
      a.0 ++ b.0,
      subst (λ (t : ℕ). HasStepped called s t (mine ++ (a.0 ++ b.0)) d) same
          (subst (λ (l : List Entry). HasStepped called s (thread_of m) l d) (over mine a.0 b.0) b.1),
    )

-- a step that isn't done says the same of any call
other_call : (one other : Call) (s : Stepped) (t : ℕ) (mine : List Entry) (d : Caller) → (IsDone s → ⊥) → HasStepped one s t mine d → HasStepped other s t mine d
other_call one other (stepped.Done said stamp mark) t mine d undone has = absurd (undone tt)
other_call one other stepped.Again t mine d undone has = has
other_call one other stepped.NoMemory t mine d undone has = has
other_call one other (stepped.Refused cause) t mine d undone has = has
other_call one other stepped.Offline t mine d undone has = has

pub kept_of_other : (one other : Call) (s : Stepped) (c d : Caller) → (IsDone s → ⊥) → KeepsEntries one s c d → KeepsEntries other s c d
kept_of_other one other s c d undone kept mine was = other_call one other s (thread_of c) mine d undone (kept mine was)

-- ---- a call that is done, and then one that makes room for it

-- where the second is done too, there are some entries more
pub some_after_two : (answer : Option Stepped) (one other : Call) (s t : Stepped) (c m d : Caller) → IsDone s → KeepsEntries one s c m
    → KeepsEntries other t m d → IfNone answer (IsDone t) → IfNone answer (KeepsSome c d)
some_after_two None one other s t c m d done first second both = some_after c m d (some_of_done one s c m done first) (some_of_done other t m d both second)
some_after_two (Some said) one other s t c m d done first second both = tt

-- where it isn't, it says what it would say of the first
pub more_after_two : (answer : Option Stepped) (one other : Call) (s t : Stepped) (c m d : Caller) → IsDone s → KeepsEntries one s c m
    → KeepsEntries other t m d → thread_of m ≡ thread_of c → IfSome answer (λ said. (said ≡ t) × (IsDone t → ⊥))
    → IfSome answer (λ said. KeepsMore one said c d)
more_after_two None one other s t c m d done first second same told = tt
more_after_two (Some said) one other s t c m d done first second same told =
    more_after one said c m d same (some_of_done one s c m done first) (more_of one said m d
    (subst (λ (u : Stepped). KeepsEntries one u m d) (sym told.0) (kept_of_other other one t m d told.1 second)))
