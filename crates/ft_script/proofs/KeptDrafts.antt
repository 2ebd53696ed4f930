-- What a draft keeps, so that it becomes a script.
use Rattle.std.proofs.Common.{◌≡◌, ◌≢◌, ℕ, ◌+◌, ◌%◌, ◌<◌, ◌≤◌, Bool, true, false, eqb, ltb, not, List, [], ◌∷◌, ◌++◌, length, map, Option, Some, None, Result, Ok, refl, sym, ap, ◌∙◌, subst, arith}
use Rattle.std.specs.Prelude.{All, AllPairs, Any, IfSome, IfNone, IfOk, sum}
use Rattle.std.proofs.lemmas.Bool.{ltb-true, eqb-true}
use Rattle.std.proofs.lemmas.List.{length-append, append-nil, map-append}
use Rattle.std.specs.List.{flat_map}
use Rattle.std.proofs.lemmas.List.Concat.{flat_map-append}
use Rattle.std.proofs.lemmas.List.Sums.{sum_by-append}
use Rattle.std.proofs.lemmas.List.Elements.{All-push, All-weaker, All-nil}
use Rattle.ft_model.specs.declared.call.Call.{Call}
use Rattle.ft_model.specs.declared.script.Declaration.{Declaration}
use Rattle.ft_model.specs.declared.script.Thread.{Thread}
use Rattle.ft_model.specs.declared.script.ScriptParts.{ScriptParts}
use Rattle.ft_model.specs.Names.{is_container_name, is_thread_name}
use Rattle.ft_model.specs.Landed.{is_landed_kind}
use Rattle.ft_model.specs.Scripts.{AreAwaitsOf, AreMade, IsAwaitOf, IsCallOf, IsThread, cursor_of}
use Rattle.ft_model.specs.Classes.{class_count}
use Rattle.ft_script.specs.Drafts.{Draft}
use Rattle.ft_script.specs.declared.fault.Fault.{Fault}
use Rattle.ft_script.specs.Drafts.{script_of, end_thread, thread_place}
use Rattle.ft_script.specs.ScriptLines.{thread_line}
use Rattle.ft_script.specs.ScriptTexts.{AreNumbered, HasMadeCursors, call_makes, call_mentions, thread_mentions}
use Rattle.ft_script.specs.Transcripts.{IsWideCall}
use Rattle.ft_script.proofs.AwaitedCalls.{awaits_push}
use Rattle.ft_script.proofs.MoreCalls.{call_grows}
use Rattle.ft_script.proofs.DistinctNames.{absent, differ_push}
use Rattle.std.specs.Option.{is_some}
use Rattle.ft_script.proofs.Kept.{IsTable, IsCursors, cond_holds, some_holds}
use Rattle.ft_script.proofs.KeptLines.{IsLandedCall, depth_after_all, nested_from}

-- a name that a further thread may have
pub record IsNew (threads : List Thread) (name : List ℕ) : Type 0 where
  pub form : is_thread_name name ≡ true
  pub differs : All (λ thread. thread.name ≢ name) threads
  pub room : length threads < 64

-- each cursor is made by a call
abbrev pub AllMade : List (List ℕ) → List Call → Type 0
AllMade cursors calls = (n : ℕ) → n < length cursors → Any (λ called. cursor_of called ≡ Some n) calls

abbrev pub calls_in : List Thread → ℕ
calls_in threads = sum (map (λ thread. length thread.calls) threads)

-- each integer of the thread's calls is of 64 bits
abbrev pub HasWideCalls : Thread → Type 0
HasWideCalls thread = All IsWideCall thread.calls

-- a container that may start so: of a kind that is read, with no keys that it shares
pub record IsPlainStart (container : Declaration) : Type 0 where
  pub kind : is_landed_kind container.start.kind ≡ true
  pub keys : container.start.keys ≡ []

pub record IsDraft (d : Draft) : Type 0 where
  pub few_containers : length d.containers ≤ 256
  pub container_names : All (λ container. is_container_name container.name ≡ true) d.containers
  pub containers_differ : AllPairs (λ a b. a.name ≢ b.name) d.containers
  pub few_threads : length d.threads ≤ 64
  pub threads_are : All (IsThread (script_of d)) d.threads
  pub threads_differ : AllPairs (λ a b. a.name ≢ b.name) d.threads
  pub few_calls : d.called ≤ 500000
  pub counted : calls_in d.threads + length d.calls ≡ d.called
  pub table : IsTable d.strings
  pub classes : length d.tables ≡ class_count
  pub counts : All (λ count. IfSome count (λ n. (1 ≤ n) × (n ≤ 1024))) d.tables
  pub places : IfSome d.heap (λ n. (64 ≤ n) × (n ≤ 4096) × (n % 64 ≡ 0))
  pub few_turns : length d.order ≤ 1000000
  pub turns : All (λ thread. thread < length d.threads) d.order
  pub named : IfSome d.name (IsNew d.threads)
  pub idle : IfNone d.name ((d.cursors ≡ []) × (d.calls ≡ []))
  pub cursors_are : IsCursors d.cursors
  pub calls_are : All (IsCallOf (script_of d) (length d.cursors)) d.calls
  pub made : AreMade d.calls
  pub all_made : AllMade d.cursors d.calls
  pub nested : depth_after_all 0 d.calls ≡ Ok d.depth
  pub wide : All IsWideCall d.calls
  pub landed : All IsLandedCall d.calls
  pub starts : All IsPlainStart d.containers
  pub wide_threads : All HasWideCalls d.threads
  pub mentioned : AreNumbered 0 (flat_map thread_mentions d.threads ++ flat_map call_mentions d.calls) (length d.strings)
  pub makes : AreNumbered 0 (flat_map call_makes d.calls) (length d.cursors)
  pub made_threads : All HasMadeCursors d.threads
  pub awaits_are : AreAwaitsOf d.threads
  pub own_awaits : All (IsAwaitOf d.threads (length d.threads)) d.calls

-- a thread stays one where the script has more
pub thread_grows : (script larger : ScriptParts) (more : List Declaration) → larger.containers ≡ script.containers ++ more → length script.strings ≤ length larger.strings → (thread : Thread) → IsThread script thread → IsThread larger thread
thread_grows script larger more same strings thread h =
    let n : ℕ = length thread.cursors in
    record {
      name = h.name;
      few_cursors = h.few_cursors;
      cursor_names = h.cursor_names;
      cursors_differ = h.cursors_differ;
      calls = All-weaker (IsCallOf script n) (IsCallOf larger n) (λ called g. call_grows script larger more n n called same strings (omega arith) g) thread.calls h.calls;
      made = h.made;
      nested = h.nested;
      landed = h.landed;
    }

pub no_names : IsCursors []
no_names = record { few = omega arith; form = All-nil (λ cursor. is_container_name cursor ≡ true); differ = λ i j d low high. absurd (omega arith) }

pub none_made : AreMade []
none_made place number is = absurd cc

calls_push : (threads : List Thread) (thread : Thread) → calls_in (threads ++ thread ∷ []) ≡ calls_in threads + length thread.calls
calls_push threads thread =
    let size : Thread → ℕ = λ t. length t.calls in
    let last : sum (map size (thread ∷ [])) ≡ length thread.calls = omega arith in
    ap sum (map-append size threads (thread ∷ [])) ∙ sum_by-append (λ (n : ℕ). n) (map size threads) (map size (thread ∷ [])) ∙ ap (λ (n : ℕ). calls_in threads + n) last

-- ---- the end of a thread's calls

abbrev open_at : ℕ → Result ℕ Fault
open_at n = Ok n

pub passed : (b : Bool) → not b ≡ false → b ≡ true
passed true h = refl
passed false h = absurd cc

pub no_place : {X : Type 0} (o : Option X) → is_some o ≡ false → o ≡ None
no_place None h = refl
no_place (Some x) h = absurd cc

pub same_containers : (script : ScriptParts) → script.containers ≡ script.containers ++ []
same_containers script = sym (append-nil script.containers)

ended : (d : Draft) (name : List ℕ) → IsDraft d → d.name ≡ Some name → d.depth ≡ 0 →
    IsDraft (record d { threads = d.threads ++ record { name = name; cursors = d.cursors; calls = d.calls } ∷ []; name = None; cursors = []; calls = [] })
ended d name h named closed =
    let thread : Thread = record { name = name; cursors = d.cursors; calls = d.calls } in
    let next : Draft = record d { threads = d.threads ++ thread ∷ []; name = None; cursors = []; calls = [] } in
    let new : IsNew d.threads name = subst (λ (o : Option (List ℕ)). IfSome o (IsNew d.threads)) named h.named in
    let longer : length (d.threads ++ thread ∷ []) ≡ length d.threads + 1 = length-append d.threads (thread ∷ []) in
    let grown = λ (t : Thread) (g : IsThread (script_of d) t). thread_grows (script_of d) (script_of next) [] (same_containers (script_of d)) (omega arith) t g in
    let nested : depth_after_all 0 d.calls ≡ Ok 0 = h.nested ∙ ap (λ (n : ℕ). open_at n) closed in
    let own : IsThread (script_of d) thread = record {
      name = new.form;
      few_cursors = h.cursors_are.few;
      cursor_names = h.cursors_are.form;
      cursors_differ = h.cursors_are.differ;
      calls = h.calls_are;
      made = h.made;
      nested = nested_from 0 d.calls nested h.landed;
      landed = h.landed;
    } in
    record {
      few_containers = h.few_containers;
      container_names = h.container_names;
      containers_differ = h.containers_differ;
      few_threads = (let room : length d.threads < 64 = new.room in omega arith);
      threads_are = All-push (IsThread (script_of next)) d.threads thread (All-weaker (IsThread (script_of d)) (IsThread (script_of next)) grown d.threads h.threads_are) (grown thread own);
      threads_differ = differ_push (λ (t : Thread). t.name) d.threads thread h.threads_differ new.differs;
      few_calls = h.few_calls;
      counted = (let all : calls_in (d.threads ++ thread ∷ []) ≡ calls_in d.threads + length d.calls = calls_push d.threads thread in let was : calls_in d.threads + length d.calls ≡ d.called = h.counted in omega arith);
      table = h.table;
      classes = h.classes;
      counts = h.counts;
      places = h.places;
      few_turns = h.few_turns;
      turns = All-weaker (λ t. t < length d.threads) (λ t. t < length (d.threads ++ thread ∷ [])) (λ t low. omega arith) d.order h.turns;
      named = tt;
      idle = (refl, refl);
      cursors_are = no_names;
      calls_are = All-nil (IsCallOf (script_of next) 0);
      made = none_made;
      all_made = λ n low. absurd (omega arith);
      nested = ap (λ (n : ℕ). open_at n) (sym closed);
      wide = All-nil IsWideCall;
      landed = All-nil IsLandedCall;
      starts = h.starts;
      wide_threads = All-push HasWideCalls d.threads thread h.wide_threads h.wide;
      mentioned = subst (λ (l : List ℕ). AreNumbered 0 l (length d.strings)) (sym (append-nil (flat_map thread_mentions (d.threads ++ thread ∷ [])) ∙ flat_map-append thread_mentions d.threads (thread ∷ []) ∙ ap (λ (l : List ℕ). flat_map thread_mentions d.threads ++ l) (append-nil (thread_mentions thread)))) h.mentioned;
      makes = refl;
      made_threads = All-push HasMadeCursors d.threads thread h.made_threads h.makes;
      awaits_are = awaits_push d.threads thread h.awaits_are h.own_awaits;
      own_awaits = All-nil (IsAwaitOf next.threads (length next.threads));
    }

pub end_thread_keeps : (d : Draft) → IsDraft d → IfOk (end_thread d) IsDraft
unfolding end_thread
end_thread_keeps d h =
    some_holds d.name _ _ IsDraft
    (λ name named. cond_holds (eqb d.depth 0) _ _ IsDraft (λ closed. ended d name h named (eqb-true d.depth 0 closed)) (λ _. tt))
    (λ _. h)

-- ---- the line of a thread

begun : (d : Draft) (name : List ℕ) → IsDraft d → d.name ≡ None → IsNew d.threads name → IsDraft (record d { name = Some name; depth = 0 })
begun d name h none new =
    let next : Draft = record d { name = Some name; depth = 0 } in
    let idle : (d.cursors ≡ []) × (d.calls ≡ []) = subst (λ (o : Option (List ℕ)). IfNone o ((d.cursors ≡ []) × (d.calls ≡ []))) none h.idle in
    let grown = λ (t : Thread) (g : IsThread (script_of d) t). thread_grows (script_of d) (script_of next) [] (same_containers (script_of d)) (omega arith) t g in
    let threads_are : All (IsThread (script_of next)) d.threads = All-weaker (IsThread (script_of d)) (IsThread (script_of next)) grown d.threads h.threads_are in
    let calls_are : All (IsCallOf (script_of next) (length d.cursors)) d.calls = subst (λ (l : List Call). All (IsCallOf (script_of next) (length d.cursors)) l) (sym idle.1) (All-nil (IsCallOf (script_of next) (length d.cursors))) in
    let nested : depth_after_all 0 d.calls ≡ Ok 0 = subst (λ (l : List Call). depth_after_all 0 l ≡ Ok 0) (sym idle.1) refl in
    let awaits_are : AreAwaitsOf next.threads = h.awaits_are in
    search

pub thread_line_keeps : (d : Draft) (words : List (List ℕ)) → IsDraft d → d.name ≡ None → IfOk (thread_line d words) IsDraft
unfolding thread_line
thread_line_keeps d [] h none = tt
thread_line_keeps d (name ∷ []) h none =
    cond_holds (not (is_thread_name name)) _ _ IsDraft (λ _. tt) (λ form.
    cond_holds (is_some (thread_place d.threads name)) _ _ IsDraft (λ _. tt) (λ new.
    cond_holds (ltb (length d.threads) 64) _ _ IsDraft
    (λ room. begun d name h none (record { form = passed (is_thread_name name) form; differs = absent (λ (t : Thread). t.name) d.threads name (no_place (thread_place d.threads name) new); room = ltb-true (length d.threads) 64 room }))
    (λ _. tt)))
thread_line_keeps d (name ∷ other ∷ words) h none = tt
