-- What the lines above a place say, and what names and strings stand for there. (profile)
use Rattle.std.specs.Prelude.{ℕ, Bool, false, ◌==◌, List, [], ◌∷◌, ◌++◌, map, replicate, position, slice_get, Option, Some, None, Result, Ok, Err, if◌then◌else◌}
use Rattle.std.specs.Option.{unwrap_or, option_map_or}
use Rattle.std.specs.List.{zip}
use Rattle.std.specs.Str.{bytes_eq}
use Rattle.ft_model.specs.Classes.{class_count}
use Rattle.ft_model.specs.Scripts.{default_tables}
use Rattle.ft_model.specs.declared.call.Call.{Call}
use Rattle.ft_model.specs.declared.script.Declaration.{Declaration}
use Rattle.ft_model.specs.declared.script.Thread.{Thread}
use Rattle.ft_model.specs.declared.script.ScriptParts.{ScriptParts}
use Rattle.ft_script.specs.Awaits.{has_awaits}
use Rattle.ft_script.specs.declared.fault.Fault.{Fault}
use Rattle.ft_script.specs.declared.fault.Fault.TheVariants as fault

-- ---- drafts

-- what the lines above a place say
pub record Draft : Type 0 where
  -- whether `version 2` stands above, so that threads may await others
  pub awaits : Bool
  pub containers : List Declaration
  -- the numbers of tables that lines name, from class 3 on, and of places in the heap
  pub tables : List (Option ℕ)
  pub heap : Option ℕ
  -- the threads whose calls have ended
  pub threads : List Thread
  -- the name of the thread whose calls stand here, its cursors and calls, and how many of its sections are open
  pub name : Option (List ℕ)
  pub cursors : List (List ℕ)
  pub calls : List Call
  pub depth : ℕ
  -- how many calls all threads have
  pub called : ℕ
  -- the distinct strings, and the threads that `order` lines name
  pub strings : List (List ℕ)
  pub order : List ℕ

-- ---- results

infixl 10 ◌>>=◌
abbrev pub ◌>>=◌ : {A B : Type 0} → Result A Fault → (A → Result B Fault) → Result B Fault
(Ok x) >>= f = f x
(Err e) >>= f = Err e

abbrev pub or_fault : {X : Type 0} → Fault → Option X → Result X Fault
or_fault found None = Err found
or_fault found (Some x) = Ok x

-- ---- places

-- where a container stands among those declared
abbrev pub container_place : List Declaration → List ℕ → Option ℕ
container_place containers name = position (λ container. bytes_eq container.name name) containers

abbrev pub thread_place : List Thread → List ℕ → Option ℕ
thread_place threads name = position (λ thread. bytes_eq thread.name name) threads

abbrev pub text_place : List (List ℕ) → List ℕ → Option ℕ
text_place texts text = position (λ other. bytes_eq text other) texts

-- ---- the first draft, and the end of a thread

-- nothing is declared
abbrev pub empty_draft : Draft
empty_draft = record {
  awaits = false;
  containers = [];
  tables = replicate class_count None;
  heap = None;
  threads = [];
  name = None;
  cursors = [];
  calls = [];
  depth = 0;
  called = 0;
  strings = [];
  order = [];
}

-- a thread's name, without its cursors and calls
abbrev pub only_named : Thread → Thread
only_named thread = record { name = thread.name; cursors = []; calls = [] }

-- what declares all that a script has, but for the calls of its threads
abbrev pub draft_with_all : ScriptParts → Draft
draft_with_all script =
    record empty_draft {
      awaits = has_awaits script.threads;
      containers = script.containers;
      threads = map only_named script.threads;
      strings = script.strings;
    }

-- and the cursors of a thread
abbrev pub draft_at : ScriptParts → ℕ → Draft
draft_at script thread =
    record (draft_with_all script) {
      cursors = option_map_or (λ found. found.cursors) (slice_get script.threads thread) [];
    }

-- the script of all lines: where none says otherwise there are as many tables of a class as a script has without a line
-- for it, and 64 places in each heap
abbrev pub script_of : Draft → ScriptParts
script_of draft = record {
  shared = [];
  containers = draft.containers;
  threads = draft.threads;
  strings = draft.strings;
  tables = map (λ both. unwrap_or both.0 both.1) (zip draft.tables default_tables);
  heap = unwrap_or draft.heap 64;
  order = draft.order;
}

-- the calls of a thread end, if one's calls stand here: each `begin` has its `end`
unfoldable pub end_thread : Draft → Result Draft Fault
end_thread draft = elim draft.name [
  | None ↦ Ok draft
  | Some name ↦
      if draft.depth == 0
      then Ok (record draft {
        threads = draft.threads
            ++ record { name = name; cursors = draft.cursors; calls = draft.calls } ∷ [];
        name = None;
        cursors =
            [];
        calls = [];
      })
      else Err fault.BeginWithoutEnd
]
