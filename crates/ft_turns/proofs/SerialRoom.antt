-- Whatever turns were made, the next call has room for its serials.
use Rattle.std.proofs.Common.{ℕ, ◌≤◌, List, Option, length, sym, subst}
use Rattle.std.specs.Prelude.{fold}
use Rattle.std.proofs.lemmas.List.{length_push}
use Rattle.ft_model.specs.declared.call.Call.{Call}
use Rattle.ft_model.specs.declared.cursor.Cursor.{Cursor}
use Rattle.ft_model.specs.declared.script.ScriptParts.{ScriptParts}
use Rattle.ft_model.specs.Scripts.{IsScript}
use Rattle.ft_model.specs.Worlds.{starts_of, IsDeclared, HasRoom}
use Rattle.ft_model.specs.Answers.{answer}
use Rattle.ft_model.specs.Histories.{calls_of}
use Rattle.ft_model.proofs.FewSerials.{FewAfter, few_start, few_call, few_contents, room_for}
use Rattle.ft_history.proofs.FewEntries.{few_of_script}
use Rattle.ft_turns.specs.AnsweredTurns.{Progress, start_progress, answered_turn}
use Rattle.ft_turns.proofs.ProgressWords.{hands_of, next_entry}
use Rattle.ft_turns.proofs.AnsweringSteps.{IsKeptByAnswers, answered_turns_keep}
use Rattle.ft_turns.proofs.Going.{IsGoing, CallsOf, going_waits, going_answers, going_finishes, going_start}
use Rattle.ft_turns.proofs.Indexed.{IsIndexed, indexed_steps, indexed_start}

-- there are few keys and serials after as many answers as there are entries
abbrev IsRoomy : Progress → Type 0
IsRoomy progress = FewAfter (length progress.entries) progress.world

roomy_steps : (script : ScriptParts) → CallsOf script → IsKeptByAnswers script (λ progress. IsGoing script progress × IsRoomy progress)
roomy_steps script calls_ok =
    record {
      threads = λ progress both. both.0.owned.threads;
      waits = λ progress thread called fixed containers found try finds both. (going_waits script calls_ok progress thread called fixed containers found try finds both.0, both.1);
      answers = λ progress thread called containers try finds both. (
        going_answers script calls_ok progress thread called containers try finds both.0,
        subst (λ n. FewAfter n (answer progress.world (hands_of progress thread) called).world) (sym (length_push progress.entries (next_entry progress thread called))) (few_call (length progress.entries) progress.world (hands_of progress thread) called both.1),
      );
      finishes = λ progress thread called containers try finds both. (going_finishes script calls_ok progress thread called containers try finds both.0, both.1);
    }

pub room_now : (script : ScriptParts) → IsScript script → CallsOf script → (turns : List ℕ) (hands : List (Option Cursor)) (called : Call) → IsDeclared (fold (answered_turn script) (start_progress script) turns).world hands called → HasRoom (fold (answered_turn script) (start_progress script) turns).world called
room_now script rule calls_ok turns hands called declared =
    let progress = fold (answered_turn script) (start_progress script) turns in
    let roomy : IsGoing script progress × IsRoomy progress = answered_turns_keep script (λ p. IsGoing script p × IsRoomy p) (roomy_steps script calls_ok) (start_progress script) turns (going_start script, few_start (starts_of script.containers)) in
    let indexed : IsGoing script progress × IsIndexed script progress = answered_turns_keep script (λ p. IsGoing script p × IsIndexed script p) (indexed_steps script calls_ok) (start_progress script) turns (going_start script, indexed_start script calls_ok) in
    let few : length progress.entries ≤ 500000 = few_of_script script progress.entries rule (λ thread. subst (λ n. n ≤ length (calls_of script thread)) (sym (indexed.1.own thread)) (indexed.1.bound thread)) in
    room_for progress.world hands (length progress.entries) called few (few_contents (length progress.entries) progress.world roomy.1) declared
