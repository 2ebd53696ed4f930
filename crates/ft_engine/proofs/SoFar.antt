-- What callers were answered is right by the writes so far.
use Rattle.std.proofs.Common.{◌≡◌, ◌∙◌, ◌++◌, List, ap, map, reverse, sym, subst}
use Rattle.std.proofs.lemmas.List.{reverse-reverse}
use Rattle.ft_model.specs.declared.call.Call.{Call}
use Rattle.ft_model.specs.declared.entry.Entry.{Entry as NamedEntry}
use Rattle.ft_trace.specs.declared.Entry.{Entry}
use Rattle.ft_trace.specs.OwnCursors.{plain_entry}
use Rattle.ft_bank.specs.Passes.{view}
use Rattle.ft_bank_history.proofs.SoFar.{lists_right_so_far, right_so_far}
use Rattle.ft_section.specs.declared.answers.Look.{Look}
use Rattle.ft_section.specs.declared.answers.Look.TheVariants as look
use Rattle.ft_engine.specs.declared.caller.Caller.{Caller}
use Rattle.ft_engine.specs.declared.caller.Flight.{Flight}
use Rattle.ft_engine.specs.declared.calling.Called.{Called}
use Rattle.ft_engine.specs.declared.calling.Called.TheVariants as called
use Rattle.ft_engine.specs.Attempts.{flight_after, flight_looked}
use Rattle.ft_engine.specs.Callers.{IsIdle, thread_of}
use Rattle.ft_engine.specs.Calling.{last_of}
use Rattle.ft_engine.specs.DoneCallers.{WereAnswered}
use Rattle.ft_engine.specs.Flights.{IsFlightAnswered}
use Rattle.ft_engine.specs.Keeping.{WasAnswered}
use Rattle.ft_engine.specs.SoFar.{AreAnswersRight, IsAnsweredRight}
use Rattle.ft_engine.proofs.Keeping.{unanswered_pending}
use Rattle.ft_engine.proofs.KeptLists.{all_kept, found_of, had_of, told_by_all}

-- where no call in flight has its answer, the entries are all of the pass
pub answers_right : (c : Caller) (mine : List NamedEntry) → (IsFlightAnswered c.flight → ⊥) → WasAnswered c mine → IsAnsweredRight c mine
answers_right c mine free kept =
    let all : (view c.pass).entries ≡ reverse (map plain_entry mine) = kept.0.same ∙ ap (λ (es : List Entry). es ++ reverse (map plain_entry mine)) (unanswered_pending c.flight free) in
    right_so_far (view c.pass) (thread_of c) mine (record {
      same = sym (ap reverse all ∙ reverse-reverse (map plain_entry mine));
      own = kept.0.own;
      indexes = kept.0.indexes;
      counted = kept.0.counted;
    })

pub all_answers_right : (c : Caller) (lists : List (List NamedEntry)) → IsIdle c → WereAnswered c lists → AreAnswersRight c lists
all_answers_right c lists idle are = lists_right_so_far (view c.pass) (thread_of c) lists (had_of c) (found_of c) (told_by_all c) (all_kept c lists idle are)

-- ---- after a look, and after a call

looked_open : (asked : Call) (l : Look) → IsFlightAnswered (flight_looked asked l) → ⊥
looked_open asked (look.Done said stamp) answered = answered
looked_open asked (look.Contended first second) answered = answered
looked_open asked look.NoMemory answered = answered

pub look_open : (asked : Call) (l : Look) (f : Flight) → f ≡ flight_looked asked l → IsFlightAnswered f → ⊥
look_open asked l f is answered = looked_open asked l (subst IsFlightAnswered is answered)

pub call_open : (asked : Call) (answer : Called) (f : Flight) → flight_after asked (last_of answer) f → IsFlightAnswered f → ⊥
call_open asked (called.Done said stamp mark) f is answered = subst IsFlightAnswered is answered
call_open asked called.NoMemory f is answered = subst IsFlightAnswered is answered
