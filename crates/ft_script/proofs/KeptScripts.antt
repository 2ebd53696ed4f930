-- The lines of a text make a draft that becomes a script.
use Rattle.std.proofs.Common.{◌≡◌, ◌⊎◌, ℕ, ◌+◌, ◌%◌, ◌<◌, ◌≤◌, true, false, eqb, List, [], ◌∷◌, ◌++◌, length, Option, Some, None, Result, Ok, Err, refl, sym, ◌∙◌, subst, inl, inr, arith, zip, map, replicate, suc, ap, cond}
use Rattle.std.specs.Prelude.{IfSome, IfNone, IfOk, All, min}
use Rattle.std.specs.List.{flat_map}
use Rattle.std.specs.Option.{unwrap_or, is_some}
use Rattle.std.specs.Str.{IsUtf8}
use Rattle.std.proofs.lemmas.List.{append-nil, length-map}
use Rattle.std.proofs.lemmas.List.Elements.{All-nil, All-replicate, All-append, All-cons, All-weaker}
use Rattle.std.proofs.lemmas.Bool.{and_from, false≢true}
use Rattle.std.proofs.lemmas.Option.{get_or_from_slice_get, slice_get_within}
use Rattle.ft_model.specs.declared.script.ScriptParts.{ScriptParts}
use Rattle.ft_model.specs.Names.{IsString, is_container_name}
use Rattle.ft_model.specs.declared.call.Call.{Call}
use Rattle.ft_model.specs.declared.call.Call.TheVariants as call
use Rattle.ft_model.specs.declared.script.Declaration.{Declaration}
use Rattle.ft_model.specs.declared.script.Kind.{Kind}
use Rattle.ft_model.specs.declared.script.Kind.TheVariants as of
use Rattle.ft_model.specs.declared.script.Start.{Start}
use Rattle.ft_model.specs.Landed.{is_landed_kind, is_landed_start, shares_none}
use Rattle.ft_model.specs.Scripts.{HasBound, HasStartKeys, IsAwaitOf, IsCallOf, IsScript, IsShared, IsStartOf, IsThread, default_tables}
use Rattle.ft_model.specs.Classes.{class_count}
use Rattle.ft_script.specs.Drafts.{Draft}
use Rattle.ft_script.specs.declared.fault.Fault.{Fault}
use Rattle.ft_script.specs.declared.fault.ScriptFault.{ScriptFault}
use Rattle.ft_script.specs.Lines.{ends_thread, is_comment, lines_of, words_of}
use Rattle.ft_script.specs.Drafts.{empty_draft, end_thread, or_fault, script_of}
use Rattle.ft_script.specs.ScriptLines.{open_line, read_line, words_line}
use Rattle.ft_script.specs.ReadScripts.{line_after, read_lines, reported_at}
use Rattle.ft_script.specs.ScriptTexts.{AreNumbered, HasMadeCursors, HasText, call_mentions, thread_mentions}
use Rattle.ft_script.specs.Transcripts.{IsWideCall}
use Rattle.ft_script.proofs.Encoded.{AreEncoded, BeginsNoThread, begins_no_thread, line_good, lines_encoded}
use Rattle.ft_script.proofs.Kept.{AreGoodWords, IsTable, bind_holds, cond_holds, or_holds, some_holds}
use Rattle.ft_script.proofs.KeptDrafts.{HasWideCalls, IsPlainStart, IsDraft, calls_in, end_thread_keeps, no_names, none_made, IsNew}
use Rattle.ft_script.proofs.KeptLines.{IsLandedCall}
use Rattle.ft_script.proofs.KeptStatements.{both_hold, statement_keeps}
use Rattle.std.proofs.lemmas.Slice.Zip.{length-zip}
use Rattle.ft_script.specs.Internal.Outcomes.{HasFewThreads, LeavesDraft, reported}
use Rattle.ft_model.specs.declared.script.Thread.{Thread}
use Rattle.ft_script.specs.declared.fault.LineError.{LineError}
use Rattle.ft_script.specs.declared.fault.LineError.TheVariants as error

-- ---- lines

found_holds : {A : Type 0} (o : Option A) (P : A → Type 0) (x : A) → o ≡ Some x → IfSome o P → P x
found_holds {A = A} o P x is h = let held : IfSome (Some x) P = subst (λ (p : Option A). IfSome p P) is h in held

words_line_keeps : (d : Draft) (line : List ℕ) → IsDraft d → IsUtf8 line → (d.name ≡ None) ⊎ (ends_thread line ≡ false) → IfOk (words_line d line) IsDraft
unfolding words_line
words_line_keeps d line h encoded apart =
    bind_holds (or_fault _ (words_of line)) _ (λ words. words_of line ≡ Some words) IsDraft (or_holds _ (words_of line) (λ words. words_of line ≡ Some words) (λ words is. is)) (λ words is.
    statement_keeps d words h (found_holds (words_of line) AreGoodWords words is (line_good line encoded))
    (elim apart [ inl none ↦ inl none | inr going ↦ inr (found_holds (words_of line) BeginsNoThread words is (begins_no_thread line going)) ]))

end_thread_names : (d : Draft) → IfOk (end_thread d) (λ e. e.name ≡ None)
unfolding end_thread
end_thread_names d =
    some_holds d.name _ _ (λ e. e.name ≡ None) (λ name named. cond_holds (eqb d.depth 0) _ _ (λ e. e.name ≡ None) (λ _. refl) (λ _. tt)) (λ none. none)

open_line_keeps : (d : Draft) (line : List ℕ) → IsDraft d → IsUtf8 line → IfOk (open_line d line) IsDraft
unfolding open_line
open_line_keeps d line h encoded =
    cond_holds (ends_thread line) _ _ IsDraft
    (λ _. bind_holds (end_thread d) _ (λ e. IsDraft e × (e.name ≡ None)) IsDraft (both_hold (end_thread d) IsDraft (λ e. e.name ≡ None) (end_thread_keeps d h) (end_thread_names d)) (λ ended g. words_line_keeps ended line g.0 encoded (inl g.1)))
    (λ going. words_line_keeps d line h encoded (inr going))

pub read_line_keeps : (d : Draft) (line : List ℕ) → IsDraft d → IsUtf8 line → IfOk (read_line d line) IsDraft
unfolding read_line
read_line_keeps d line h encoded = cond_holds (is_comment line) _ _ IsDraft (λ _. h) (λ _. open_line_keeps d line h encoded)

-- a draft has no more threads than a script
few_names : (threads : List Thread) (name : Option (List ℕ)) → length threads ≤ 64 → IfSome name (IsNew threads) → length threads + cond (is_some name) 1 0 ≤ 64
few_names threads None few new = omega arith
few_names threads (Some name) few new = let room : length threads < 64 = new.room in omega arith

pub has_few_threads : (d : Draft) → IsDraft d → HasFewThreads d
has_few_threads d h = few_names d.threads d.name h.few_threads h.named

pub kept_on : (read : Result (Unit {0}) LineError) (number : ℕ) (d next : Draft) (line : List ℕ) (done : Unit {0}) → reported read number ≡ Ok done → LeavesDraft read next (read_line d line) → IsDraft d → IsUtf8 line → IsDraft next
kept_on (Ok x) number d next line done is leaves h encoded = subst (λ (r : Result Draft Fault). IfOk r IsDraft) leaves (read_line_keeps d line h encoded)
kept_on (Err error.Memory) number d next line done is leaves h encoded = absurd cc
kept_on (Err (error.Fault found)) number d next line done is leaves h encoded = absurd cc

reported_holds : {A : Type 0} (number : ℕ) (r : Result A Fault) (P : A → Type 0) → IfOk r P → IfOk (reported_at number r) P
reported_holds number (Ok x) P h = h
reported_holds number (Err e) P h = tt

then_holds : {A B E : Type 0} (r : Result A E) (f : A → Result B E) (P : A → Type 0) (Q : B → Type 0) → IfOk r P → ((x : A) → P x → IfOk (f x) Q) → IfOk (elim r [ Ok x ↦ f x | Err e ↦ Err e ]) Q
then_holds (Ok x) f P Q h then = then x h
then_holds (Err e) f P Q h then = tt

-- a draft in which no thread is open
abbrev IsEnded : Draft → Type 0
IsEnded d = IsDraft d × (d.name ≡ None)

read_lines_keep : (lines : List (List ℕ)) (number : ℕ) (d : Draft) → IsDraft d → AreEncoded lines → IfOk (read_lines number d lines) IsEnded
unfolding read_lines
read_lines_keep [] number d h encoded = reported_holds number (end_thread d) IsEnded (both_hold (end_thread d) IsDraft (λ e. e.name ≡ None) (end_thread_keeps d h) (end_thread_names d))
read_lines_keep (line ∷ lines) number d h encoded =
    then_holds (reported_at number (read_line d line)) (λ next. read_lines (line_after number) next lines) IsDraft IsEnded (reported_holds number (read_line d line) IsDraft (read_line_keeps d line h encoded.0)) (λ next g. read_lines_keep lines (line_after number) next g encoded.1)

-- ---- the first draft and the script

no_strings_yet : IsTable []
no_strings_yet = record { few = omega arith; strings = All-nil IsString; differ = λ i j d low high. absurd (omega arith) }

pub empty_is_draft : IsDraft empty_draft
empty_is_draft =
    record {
      few_containers = omega arith;
      container_names = All-nil (λ container. is_container_name container.name ≡ true);
      containers_differ = λ i j d low high. absurd (omega arith);
      few_threads = omega arith;
      threads_are = All-nil (IsThread (script_of empty_draft));
      threads_differ = λ i j d low high. absurd (omega arith);
      few_calls = omega arith;
      counted = omega arith;
      table = no_strings_yet;
      classes = refl;
      counts = All-replicate (λ count. IfSome count (λ n. (1 ≤ n) × (n ≤ 1024))) class_count None tt;
      places = tt;
      few_turns = omega arith;
      turns = All-nil (λ thread. thread < 0);
      named = tt;
      idle = (refl, refl);
      cursors_are = no_names;
      calls_are = All-nil (IsCallOf (script_of empty_draft) 0);
      made = none_made;
      all_made = λ n low. absurd (omega arith);
      nested = refl;
      wide = All-nil IsWideCall;
      landed = All-nil IsLandedCall;
      starts = All-nil IsPlainStart;
      wide_threads = All-nil HasWideCalls;
      mentioned = refl;
      makes = refl;
      made_threads = All-nil HasMadeCursors;
      awaits_are = λ number thread at. absurd cc;
      own_awaits = All-nil (IsAwaitOf [] 0);
    }

abbrev IsCount : ℕ → Type 0
IsCount n = (1 ≤ n) × (n ≤ 1024)

count_or_default : (count : Option ℕ) (default : ℕ) → IfSome count IsCount → IsCount default → IsCount (unwrap_or count default)
count_or_default None default h fine = fine
count_or_default (Some n) default h fine = h

defaults_are_counts : All IsCount default_tables
defaults_are_counts = All-append IsCount (replicate 10 4) (replicate 4 1) (All-replicate IsCount 10 4 (omega arith, omega arith)) (All-replicate IsCount 4 1 (omega arith, omega arith))

abbrev counted_or : Option ℕ × ℕ → ℕ
counted_or both = unwrap_or both.0 both.1

-- the counts that lines name, and the others as they are without a line
counts_are : (counts : List (Option ℕ)) (defaults : List ℕ) → All (λ count. IfSome count IsCount) counts → All IsCount defaults → All IsCount (map counted_or (zip counts defaults))
counts_are [] defaults h fine = All-nil IsCount
counts_are (count ∷ counts) [] h fine = All-nil IsCount
counts_are (count ∷ counts) (default ∷ defaults) h fine =
    All-cons IsCount (unwrap_or count default) (map counted_or (zip counts defaults))
    (count_or_default count default (h 0 count (omega arith)) (fine 0 default (omega arith)))
    (counts_are counts defaults (λ k d low. h (suc k) d (omega arith)) (λ k d low. fine (suc k) d (omega arith)))

heap_or_least : (heap : Option ℕ) → IfSome heap (λ n. (64 ≤ n) × (n ≤ 4096) × (n % 64 ≡ 0)) → (64 ≤ unwrap_or heap 64) × (unwrap_or heap 64 ≤ 4096) × (unwrap_or heap 64 % 64 ≡ 0)
heap_or_least None h = (omega arith, omega arith, refl)
heap_or_least (Some n) h = h

landed_start : (start : Start) → is_landed_kind start.kind ≡ true → start.keys ≡ [] → is_landed_start start ≡ true
landed_start start kind none = and_from (is_landed_kind start.kind) (shares_none start.keys) kind (ap shares_none none)

has_bound : (kind : Kind) → is_landed_kind kind ≡ true → HasBound kind
has_bound of.Dict landed = tt
has_bound of.List landed = tt
has_bound of.Set landed = tt
has_bound (of.Deque bound) landed = absurd (false≢true landed)

start_is : (script : ScriptParts) (container : Declaration) → IsPlainStart container → IsStartOf script container.start
start_is script container h =
    record {
      keys = subst (HasStartKeys script.shared container.start) (sym h.keys) tt;
      bound = has_bound container.start.kind h.kind;
      landed = landed_start container.start h.kind h.keys;
    }

script_is : (d : Draft) → IsDraft d → IsScript (script_of d)
script_is d h =
    let heap = heap_or_least d.heap h.places in
    let all : calls_in d.threads + length d.calls ≡ d.called = h.counted in
    let most : d.called ≤ 500000 = h.few_calls in
    record {
      starts = All-weaker IsPlainStart (λ (c : Declaration). IsStartOf (script_of d) c.start) (start_is (script_of d)) d.containers h.starts;
      few_shared = omega arith;
      shared = All-nil (IsShared (script_of d));
      shared_differ = λ i j each low high. absurd (omega arith);
      awaits = h.awaits_are;
      few_containers = h.few_containers;
      container_names = h.container_names;
      containers_differ = h.containers_differ;
      few_threads = h.few_threads;
      threads = h.threads_are;
      threads_differ = h.threads_differ;
      few_calls = omega arith;
      few_strings = h.table.few;
      strings = h.table.strings;
      strings_differ = h.table.differ;
      classes = length-map (zip d.tables default_tables) counted_or ∙ length-zip d.tables default_tables ∙ ap (λ (n : ℕ). min n 14) h.classes;
      tables = counts_are d.tables default_tables h.counts defaults_are_counts;
      least_heap = heap.0;
      greatest_heap = heap.1;
      heap_steps = heap.2;
      few_turns = h.few_turns;
      turns = h.turns;
    }

-- the lines of a text in UTF-8 come to a draft that becomes a script
read_is_draft : (bytes : List ℕ) (draft : Draft) → IsUtf8 bytes → read_lines 1 empty_draft (lines_of bytes) ≡ Ok draft → IsEnded draft
read_is_draft bytes draft encoded read =
    let kept : IfOk (read_lines 1 empty_draft (lines_of bytes)) IsEnded = read_lines_keep (lines_of bytes) 1 empty_draft empty_is_draft (lines_encoded bytes encoded) in
    subst (λ (r : Result Draft ScriptFault). IfOk r IsEnded) read kept

has_text : (d : Draft) → IsEnded d → HasText (script_of d)
has_text d h =
    let idle : (d.cursors ≡ []) × (d.calls ≡ []) = subst (λ (o : Option (List ℕ)). IfNone o ((d.cursors ≡ []) × (d.calls ≡ []))) h.1 h.0.idle in
    let front : List ℕ = flat_map thread_mentions d.threads in
    record {
      rule = script_is d h.0;
      wide = h.0.wide_threads;
      shared = refl;
      mentioned = subst (λ (l : List ℕ). AreNumbered 0 l (length d.strings)) (ap (λ (l : List Call). front ++ flat_map call_mentions l) idle.1 ∙ append-nil front) h.0.mentioned;
      made = h.0.made_threads;
    }

-- what they come to is a script that has a text
pub read_has_text : (bytes : List ℕ) (draft : Draft) (parts : ScriptParts) → IsUtf8 bytes → read_lines 1 empty_draft (lines_of bytes) ≡ Ok draft → parts ≡ script_of draft → HasText parts
read_has_text bytes draft parts encoded read made =
    subst (λ (p : ScriptParts). HasText p) (sym made) (has_text draft (read_is_draft bytes draft encoded read))
