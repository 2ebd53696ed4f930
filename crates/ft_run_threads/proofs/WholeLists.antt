-- What the lists of all threads of a script come to, where each has just the calls of its thread.
use Rattle.std.proofs.Common.{◌≡◌, ◌≢◌, ℕ, zero, suc, ◌+◌, ◌-◌, List, [], ◌∷◌, ◌++◌, length, map, refl, sym, ap, ◌∙◌, subst, arith, None, Some, inl, inr}
use Rattle.std.specs.List.{flat_map}
use Rattle.std.specs.List.Sorted.{IsPermutation}
use Rattle.std.specs.Prelude.{IsTrue, max, slice_get}
use Rattle.std.proofs.Math.Logic.{∥∥₁_map}
use Rattle.std.proofs.Math.Nat.{max-zero}
use Rattle.std.proofs.lemmas.List.{length_push}
use Rattle.std.proofs.lemmas.List.Sorted.{length_permutation}
use mathlib.Core.Logic.{dite}
use native.Mathlib.Decide.{ℕ_discrete}
use native.Mathlib.Nat.{suc-max-suc}
use Rattle.ft_model.specs.declared.entry.Entry.{Entry}
use Rattle.ft_model.specs.declared.entry.Storage.TheVariants as storage
use Rattle.ft_model.specs.declared.reply.Shown.{Shown}
use Rattle.ft_model.specs.declared.script.ScriptParts.{ScriptParts}
use Rattle.ft_model.specs.declared.script.Start.{Start}
use Rattle.ft_model.specs.Answers.{shown_of}
use Rattle.ft_model.specs.Histories.{calls_of}
use Rattle.ft_model.specs.Numbers.{IsHistoryOf}
use Rattle.ft_model.specs.Scripts.{IsScript}
use Rattle.ft_model.specs.Worlds.{empty_world}
use Rattle.ft_trace.specs.declared.Entry.{Entry as PassEntry}
use Rattle.ft_trace.specs.declared.Shape.{Shape}
use Rattle.ft_trace.specs.Acts.{announces, told_in, presence_of}
use Rattle.ft_trace.specs.Owners.{found_owners, had_locks}
use Rattle.ft_trace.specs.Boxes.{HasMergedBoxes}
use Rattle.ft_bank.specs.Passes.{view}
use Rattle.ft_bank.specs.PassSections.{Stack, stack_of}
use Rattle.ft_bank_history.specs.Numbering.{HaveNamedEntries}
use Rattle.ft_engine.specs.declared.caller.Caller.{Caller}
use Rattle.ft_engine.specs.declared.engine.Engine.{Engine}
use Rattle.ft_engine.specs.Callers.{IsCallerOf, IsIdle, pass_of, taken_of, thread_of}
use Rattle.ft_bank_history.specs.Marks.{HaveScriptCalls}
use Rattle.ft_engine.specs.DoneCallers.{WereAnswered, AreOfScript, IsLegalFor}
use Rattle.ft_engine.specs.Contents.{IsLegalWith}
use Rattle.ft_engine.specs.Keeping.{WasAnswered}
use Rattle.ft_engine.specs.Resting.{IsAsBefore}
use Rattle.ft_engine.proofs.ReadContents.{push_found}
use Rattle.ft_run_threads.specs.declared.workers.Worker.{Worker}
use Rattle.ft_run_threads.specs.Workers.{HasTakenIn, HasWorked, IsBankFor}
use Rattle.ft_run_threads.proofs.ScriptFacts.{calls_past, own_asked}
use Rattle.ft_engine.proofs.KeptLists.{all_length}
use Rattle.ft_engine.specs.Presences.{WereOnline}
use Rattle.ft_bank.specs.Closings.{AreToldOnline, HasBeenOnline}

-- ---- one list more

pub made_push : (script : ScriptParts) (lists : List (List Entry)) (mine : List Entry) → HaveScriptCalls script lists → map (λ e. e.call) mine ≡ calls_of script (length lists) → HaveScriptCalls script (lists ++ mine ∷ [])
made_push script lists mine made is thread other at =
    elim (push_found lists mine other thread at) [
      | inl found ↦ made thread other found
      | inr last ↦ subst (λ (l : List Entry). map (λ (e : Entry). e.call) l ≡ calls_of script thread) last.1 (is ∙ ap (calls_of script) (sym last.0))
    ]

-- ---- workers that are taken in

-- a worker that is done has kept its own list, and no other
own_kept : (w : Worker) → WasAnswered w.caller w.entries.items → taken_of w.caller ≡ [] → WereAnswered w.caller (w.entries.items ∷ [])
own_kept w kept none =
    let v = view (pass_of w.caller) in
    (kept, subst (λ (taken : List (List PassEntry)). HaveNamedEntries (suc (thread_of w.caller)) [] taken (had_locks v.number v.log) (found_owners v.log) (told_in v.log)) (sym none) tt)

no_lists : (script : ScriptParts) → HaveScriptCalls script []
no_lists script thread mine at = absurd (let none : None ≡ Some mine = at in cc)

alone_online : (w : Worker) → HasBeenOnline (presence_of (view (pass_of w.caller)).log) → taken_of w.caller ≡ [] → WereOnline w.caller
alone_online w over none = record { own = over; taken = subst (AreToldOnline (told_in (view (pass_of w.caller)).log) (suc (thread_of w.caller))) (sym none) tt }

-- the first worker
pub first_taken : (e : Engine) (script : ScriptParts) (w : Worker) → HasWorked e script 0 w → IsTrue w.done → HasTakenIn e script w.caller (w.entries.items ∷ [])
first_taken e script w is done =
    record {
      caller = is.member.caller;
      done = is.done done;
      thread = is.member.thread;
      parts = is.member.parts;
      kept = own_kept w (is.kept done) is.member.taken;
      made = made_push script [] w.entries.items (no_lists script) (is.made done);
      online = alone_online w (is.online done) is.member.taken;
    }

-- the next one, after the first caller has joined it
pub next_taken : (e : Engine) (script : ScriptParts) (c d : Caller) (w : Worker) (lists : List (List Entry)) → HasTakenIn e script c lists → HasWorked e script (length lists) w → IsTrue w.done
    → IsCallerOf e d → thread_of d ≡ thread_of c → IsIdle d → announces (view (pass_of d)).log ≡ announces (view (pass_of c)).log → (HasMergedBoxes (view (pass_of c)).log → HasMergedBoxes (view (pass_of d)).log) → stack_of (pass_of d) ≡ stack_of (pass_of c)
    → (view (pass_of d)).parts ≡ (view (pass_of c)).parts + (view (pass_of w.caller)).parts
    → ((mine theirs : List (List Entry)) → WereAnswered c mine → WereAnswered w.caller theirs → thread_of w.caller ≡ thread_of c + length mine → WereAnswered d (mine ++ theirs))
    → (WereOnline c → WereOnline w.caller → thread_of w.caller ≡ suc (thread_of c + length (taken_of c)) → WereOnline d) → HasTakenIn e script d (lists ++ w.entries.items ∷ [])
next_taken e script c d w lists old is done caller thread idle announced merged sections parts kept online =
    let both = old.parts in
    let one = is.member.parts in
    let number : thread_of w.caller ≡ thread_of c + length lists = let t = is.member.thread in let first = old.thread in omega (arith, t, first) in
    record {
      caller = caller;
      done = record { idle = idle; sections = ap (λ (s : Stack). s.sections) sections ∙ old.done.sections; offline = announced ∙ old.done.offline; merged = merged old.done.merged };
      thread = thread ∙ old.thread;
      parts = let more : length (lists ++ w.entries.items ∷ []) ≡ length lists + 1 = length_push lists w.entries.items in omega (arith, parts, both, one, more);
      kept = kept lists (w.entries.items ∷ []) old.kept (own_kept w (is.kept done) is.member.taken) number;
      made = made_push script lists w.entries.items old.made (is.made done);
      online =
          let many = all_length c lists old.kept in
          online old.online (alone_online w (is.online done) is.member.taken) (omega (arith, number, many));
    }

-- the first caller, when it has read what the containers have
pub still_taken : (e : Engine) (script : ScriptParts) (c d : Caller) (lists : List (List Entry)) → HasTakenIn e script c lists → IsCallerOf e d → IsAsBefore c d → (WereAnswered c lists → WereAnswered d lists) → (WereOnline c → WereOnline d) → HasTakenIn e script d lists
still_taken e script c d lists old caller before kept online =
    let same = before.same in
    record {
      caller = caller;
      done = record { idle = same.flight ∙ old.done.idle; sections = ap (λ (s : Stack). s.sections) same.sections ∙ old.done.sections; offline = before.announced ∙ old.done.offline; merged = same.merged old.done.merged };
      thread = ap (λ (n : ℕ). n - 1) same.number ∙ old.thread;
      parts = same.parts ∙ old.parts;
      kept = kept old.kept;
      made = old.made;
      online = online old.online;
    }

-- ---- no thread

no_calls : (mine : List Entry) → map (λ e. e.call) mine ≡ [] → mine ≡ []
no_calls [] is = refl
no_calls (e ∷ mine) is = absurd (let n : suc (length (map (λ (x : Entry). x.call) mine)) ≡ 0 = ap length is in omega (arith, n))

none_flat : (lists : List (List Entry)) → ((t : ℕ) (mine : List Entry) → slice_get lists t ≡ Some mine → mine ≡ []) → flat_map (λ (mine : List Entry). mine) lists ≡ []
none_flat [] each = refl
none_flat (mine ∷ lists) each = ap (λ (l : List Entry). l ++ flat_map (λ (own : List Entry). own) lists) (each 0 mine refl) ∙ none_flat lists (λ t own at. each (suc t) own at)

no_entries : (history : List Entry) → length history ≡ 0 → history ≡ []
no_entries [] none = refl
no_entries (e ∷ history) none = absurd (omega (arith, none))

no_place : (P : ℕ → Entry → Type 0) (place : ℕ) (e : Entry) → slice_get [] place ≡ Some e → P place e
no_place P place e at = absurd (let none : None ≡ Some e = at in cc)

pub empty_history : (script : ScriptParts) → length script.threads ≡ 0 → IsHistoryOf storage.Tables script [] []
empty_history script none =
    record {
      legal = record {
        order = λ k d from within. absurd (let w = within in omega (arith, w));
        chronicle = record {
          whole = record { calls = λ t. sym (calls_past script t (omega (arith, none))); indexes = λ t. refl };
          answered = no_place _;
          awaited = no_place _;
          marked = no_place _;
          kept = no_place _;
          counted = no_place _;
          earned = no_place _;
        };
      };
      fitting = no_place _;
      written = refl;
    }

-- where there is no thread, no call was made
pub nothing_made : (script : ScriptParts) (lists : List (List Entry)) (history : List Entry) → length script.threads ≡ 0 → HaveScriptCalls script lists → IsPermutation (flat_map (λ mine. mine) lists) history → history ≡ []
nothing_made script lists history none made moved =
    let flat : flat_map (λ (mine : List Entry). mine) lists ≡ [] = none_flat lists (λ t mine at. no_calls mine (made t mine at ∙ calls_past script t (omega (arith, none)))) in
    let long = length_permutation (flat_map (λ (mine : List Entry). mine) lists) history moved in
    no_entries history (long ∙ ap length flat)

pub max_some : (n : ℕ) → (n ≢ 0) → max n 1 ≡ n
max_some zero some = absurd (some refl)
max_some (suc n) some = suc-max-suc n 0 ∙ ap suc (max-zero n)

-- ---- all threads

module _ (script : ScriptParts) (k : Shape) (lists : List (List Entry)) (is : IsScript script) (bank : IsBankFor script k) (all : length lists ≡ k.passes) (made : HaveScriptCalls script lists) where
  pub of_script : (length script.threads ≢ 0) → AreOfScript script k lists
  of_script some =
      let few : max (length script.threads) 1 ≡ length script.threads = max_some (length script.threads) some in
      record {
        shape = record { starts = bank.starts; tables = bank.tables; heap = bank.heap; passes = bank.passes ∙ few };
        cursors = own_asked script lists is made;
        count = all ∙ (bank.passes ∙ few);
      }

  -- with what the containers have then
  pub ended_with : (history : List Entry) (all : List Shown) → IsPermutation (flat_map (λ mine. mine) lists) history → (IsScript script → AreOfScript script k lists → HaveScriptCalls script lists → IsLegalWith script history all) → (history ≡ [] → ∥ (all ≡ map shown_of (empty_world k.starts)) ∥₁) → IsLegalWith script history all
  ended_with history all moved closed nothing =
      dite (ℕ_discrete (length script.threads) 0)
      (λ (none : length script.threads ≡ 0).
      let nil = nothing_made script lists history none made moved in
      ∥∥₁_map (nothing nil)
      (λ same. (
        [],
        subst (IsHistoryOf storage.Tables script []) (sym nil) (empty_history script none),
        same ∙ ap (λ (starts : List Start). map shown_of (empty_world starts)) bank.starts,
      )))
      (λ some. closed is (of_script some) made)

  pub ended_legal : (history : List Entry) → IsPermutation (flat_map (λ mine. mine) lists) history → (IsScript script → AreOfScript script k lists → HaveScriptCalls script lists → IsLegalFor script history) → IsLegalFor script history
  ended_legal history moved closed =
      dite (ℕ_discrete (length script.threads) 0)
      (λ (none : length script.threads ≡ 0).
      subst (IsLegalFor script) (sym (nothing_made script lists history none made moved)) ∣ ([], empty_history script none) ∣₁)
      (λ some. closed is (of_script some) made)
