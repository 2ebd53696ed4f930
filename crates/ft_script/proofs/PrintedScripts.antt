-- The text of a script is read as the script.
use Rattle.std.proofs.Common.{◌≡◌, ◌≢◌, ◌⊎◌, cond, ℕ, pos, negsuc, zero, suc, ◌+◌, ◌-◌, ◌%◌, ◌^◌, ◌<◌, ◌≤◌, Bool, true, false, eqb, leb, ltb, ◌&&◌, List, [], ◌∷◌, ◌++◌, length, get_or, map, take, sum, replicate, set, Option, Some, None, Result, Ok, Err, refl, sym, ap, ◌∙◌, subst, inl, inr, arith, append_assoc}
use Rattle.std.specs.Prelude.{All, AllPairs, Any, IsSomeAnd, codes, int_le, slice_get, slice_set}
use Rattle.std.specs.List.{AllByRecursion, flat_map, sum_by, zip}
use Rattle.std.specs.Fmt.{decimal}
use Rattle.std.specs.Option.{is_some, option_map_or, unwrap_or}
use Rattle.std.specs.Str.{bytes_eq}
use Rattle.std.specs.Cmp.Lexicographic.{bytes_decides}
use Rattle.std.proofs.Math.Seq.{get_or-append_seam, set-append_seam, take-append_seam}
use Rattle.std.proofs.lemmas.Bool.{and_parts, and_from, le-leb, lt-ltb, ne_eqb, false≢true}
use Rattle.std.proofs.lemmas.List.{append-nil, get_or_append_left, length-append, length-map, map-append, take_all}
use Rattle.std.proofs.lemmas.List.Elements.{recursion_from_All, All-from_recursion}
use Rattle.std.proofs.lemmas.List.Concat.{flat_map-append}
use Rattle.std.proofs.lemmas.List.Sums.{sum-map, sum_by-cons}
use Rattle.std.proofs.lemmas.Option.{slice_get-get_or}
use Rattle.ft_model.specs.declared.call.Call.{Call}
use Rattle.ft_model.specs.declared.call.Call.TheVariants as call
use Rattle.ft_model.specs.declared.data.Key.{Key}
use Rattle.ft_model.specs.declared.script.Declaration.{Declaration}
use Rattle.ft_model.specs.declared.script.Kind.{Kind}
use Rattle.ft_model.specs.declared.script.Kind.TheVariants as kind
use Rattle.ft_model.specs.declared.script.SharedKeys.{SharedKeys}
use Rattle.ft_model.specs.declared.script.Start.{Start}
use Rattle.ft_model.specs.declared.script.ScriptParts.{ScriptParts}
use Rattle.ft_model.specs.declared.script.Thread.{Thread}
use Rattle.ft_model.specs.Histories.{cursors_of}
use Rattle.ft_model.specs.Landed.{is_landed_call, is_landed_kind, is_landed_start, shares_none}
use Rattle.ft_model.specs.Names.{is_container_name, is_thread_name}
use Rattle.ft_model.specs.Scripts.{AreMade, AreNested, IsAwaitOf, IsCallOf, IsScript, IsThread, cursor_of, default_tables}
use Rattle.ft_script.specs.declared.call_words.CallWord.{CallWord}
use Rattle.ft_script.specs.declared.fault.Fault.{Fault}
use Rattle.ft_script.specs.declared.fault.ScriptFault.{ScriptFault}
use Rattle.ft_script.specs.Arguments.{read_index}
use Rattle.ft_script.specs.Awaits.{MayAwait, has_awaited, has_awaits}
use Rattle.ft_script.specs.CallWords.{call_word_of}
use Rattle.ft_script.specs.Drafts.{Draft, ◌>>=◌, container_place, empty_draft, end_thread, or_fault, script_of, thread_place}
use Rattle.ft_script.specs.Forms.{call_form}
use Rattle.ft_script.specs.LineWords.{is_wide}
use Rattle.ft_script.specs.ReadScripts.{read_script}
use Rattle.ft_script.specs.ScriptLines.{call_line, container_line, counted_call, declaration, depth_after, first_line, heap_line, just_call, order_line, other_statement, plain_statement, read_call, read_class, read_turn, read_turns, statement, tables_at, tables_by_words, tables_line, thread_line, thread_statement, unordered_statement, version_line}
use Rattle.ft_script.specs.ScriptTexts.{AreNumbered, HasMadeCursors, HasText, number_listed, call_makes, call_mentions, container_words, kind_word, order_lines, script_lines, script_text, tables_lines, thread_lines, thread_mentions, threads_lines, version_lines}
use Rattle.ft_script.specs.Texts.{argument_text, call_words, thread_name}
use Rattle.ft_script.specs.Transcripts.{IsWideCall}
use Rattle.ft_script.proofs.AwaitedCalls.{script_awaits}
use Rattle.ft_script.proofs.CallTexts.{Declares, IsCallWord, IsKnown, call_read, cursors_at, standing, words_are}
use Rattle.ft_script.proofs.EntryTexts.{declares, thread_form, thread_name_at, thread_place_at}
use Rattle.ft_script.proofs.LineTexts.{AreLineWords, AreSaying, IsLineWord, container_plain, decimal_plain, plain_word, said_back, saying_append, text_encoded, thread_plain}
use Rattle.ft_script.proofs.LineReading.{no_turns, turns_cons}
use Rattle.ft_script.proofs.Numbering.{and_none, numbered_join, numbered_split, numbered_up}
use Rattle.ft_script.proofs.PartTexts.{bytes_differ, bytes_same, index_signed, position_at, position_none}
use Rattle.ft_script.proofs.SaidLines.{opens, said_script, say_on, spoken, statements}

-- ---- what stands where

-- an element between others
at_seam : {X : Type 0} (all before after : List X) (x d : X) → all ≡ before ++ x ∷ after → get_or all (length before) d ≡ x
at_seam all before after x d is = ap (λ l. get_or l (length before) d) is ∙ get_or-append_seam before x after d

within : {X : Type 0} (all before after : List X) (x : X) → all ≡ before ++ x ∷ after → length before < length all
within all before after x is =
    let whole : length all ≡ length before + length (x ∷ after) = ap length is ∙ length-append before (x ∷ after) in
    omega arith

holds_at : {X : Type 0} (P : X → Type 0) (all before after : List X) (x : X) → All P all → all ≡ before ++ x ∷ after → P x
holds_at P all before after x h is = subst P (at_seam all before after x x is) (h (length before) x (within all before after x is))

moved_seam : {X : Type 0} (all before after : List X) (x : X) → all ≡ before ++ x ∷ after → all ≡ (before ++ x ∷ []) ++ after
moved_seam all before after x is = is ∙ sym (append_assoc before (x ∷ []) after)

-- no name stands twice
no_name_before : {X : Type 0} (name : X → List ℕ) (all before after : List X) (x : X) → AllPairs (λ a b. name a ≢ name b) all → all ≡ before ++ x ∷ after → All (λ earlier. bytes_eq (name earlier) (name x) ≡ false) before
no_name_before name all before after x differ is k d low =
    let whole = within all before after x is in
    let at : get_or all k d ≡ get_or before k d = ap (λ l. get_or l k d) is ∙ get_or_append_left before (x ∷ after) d k low in
    bytes_differ (name (get_or before k d)) (name x) (λ same. differ k (length before) d low whole (ap name at ∙ same ∙ ap name (sym (at_seam all before after x d is))))

-- a word is no other than a call's
abbrev IsCalled : List ℕ → Type 0
IsCalled word = (found : CallWord) × (call_word_of word ≡ Some found)

no_other : (word other : List ℕ) → IsCalled word → call_word_of other ≡ None → bytes_eq word other ≡ false
no_other word other called none =
    bytes_differ word other (λ same. (let bad : Some called.0 ≡ None = sym called.1 ∙ ap call_word_of same ∙ none in absurd cc))

thread_is_none : call_word_of (codes "thread") ≡ None
unfolding call_word_of
thread_is_none = refl

order_is_none : call_word_of (codes "order") ≡ None
unfolding call_word_of
order_is_none = refl

abbrev good : Draft → Result Draft Fault
good draft = Ok draft

wide_count : (n : ℕ) → n < 2 ^ 63 → is_wide (pos n) ≡ true
wide_count n low = and_from (int_le (negsuc (2 ^ 63 - 1)) (pos n)) (int_le (pos n) (pos (2 ^ 63 - 1))) refl (le-leb n (2 ^ 63 - 1) (omega arith))

-- ---- the version

-- nothing is declared yet
abbrev headed : Bool → Draft
headed awaits = record empty_draft { awaits = awaits }

version_said : spoken empty_draft (codes "version" ∷ codes "2" ∷ []) ≡ Ok (headed true)
unfolding statement other_statement unordered_statement plain_statement declaration first_line version_line
version_said = refl

version_read : (awaits : Bool) (lines : List (List (List ℕ))) → statements empty_draft (version_lines awaits ++ lines) ≡ statements (headed awaits) lines
version_read false lines = refl
version_read true lines = say_on empty_draft (headed true) (codes "version" ∷ codes "2" ∷ []) lines version_said

-- ---- containers

abbrev declaring : Bool → List Declaration → Draft
declaring awaits containers = record (headed awaits) { containers = containers }

container_said : (awaits : Bool) (containers : List Declaration) (of_kind : Kind) (name : List ℕ) → is_landed_kind of_kind ≡ true → spoken (declaring awaits containers) (kind_word of_kind ∷ name ∷ []) ≡ container_line (declaring awaits containers) of_kind (name ∷ [])
unfolding statement other_statement unordered_statement plain_statement declaration
container_said awaits containers kind.Dict name landed = refl
container_said awaits containers kind.List name landed = refl
container_said awaits containers kind.Set name landed = refl
container_said awaits containers (kind.Deque bound) name landed = absurd (false≢true landed)

container_added : (awaits : Bool) (containers : List Declaration) (of_kind : Kind) (name : List ℕ) → is_container_name name ≡ true → container_place containers name ≡ None → length containers < 256 →
    container_line (declaring awaits containers) of_kind (name ∷ []) ≡ Ok (declaring awaits (containers ++ record { start = record { kind = of_kind; keys = [] }; name = name } ∷ []))
unfolding container_line
container_added awaits containers of_kind name form new room = rw (form, new, lt-ltb (length containers) 256 room) refl

no_keys : (keys : List Key) → shares_none keys ≡ true → [] ≡ keys
no_keys [] h = refl
no_keys (key ∷ keys) h = absurd (false≢true h)

abbrev declared : Kind → List ℕ → List Key → Declaration
declared of_kind name keys = record { start = record { kind = of_kind; keys = keys }; name = name }

container_read : (awaits : Bool) (containers : List Declaration) (container : Declaration) → is_container_name container.name ≡ true → is_landed_start container.start ≡ true → container_place containers container.name ≡ None → length containers < 256 →
    spoken (declaring awaits containers) (container_words container) ≡ Ok (declaring awaits (containers ++ container ∷ []))
container_read awaits containers container form landed new room =
    let parts = and_parts (is_landed_kind container.start.kind) (shares_none container.start.keys) landed in
    container_said awaits containers container.start.kind container.name parts.0
    ∙ container_added awaits containers container.start.kind container.name form new room
    ∙ ap (λ (keys : List Key). good (declaring awaits (containers ++ declared container.start.kind container.name keys ∷ []))) (no_keys container.start.keys parts.1)

containers_read : (awaits : Bool) (script : ScriptParts) → IsScript script → (before after : List Declaration) (lines : List (List (List ℕ))) → script.containers ≡ before ++ after →
    statements (declaring awaits before) (map container_words after ++ lines) ≡ statements (declaring awaits script.containers) lines
containers_read awaits script rule before [] lines is = ap (λ (l : List Declaration). statements (declaring awaits l) lines) (sym (append-nil before) ∙ sym is)
containers_read awaits script rule before (container ∷ after) lines is =
    let low = within script.containers before after container is in
    let few : length script.containers ≤ 256 = rule.few_containers in
    let form = holds_at (λ (c : Declaration). is_container_name c.name ≡ true) script.containers before after container rule.container_names is in
    let landed = holds_at (λ (c : Declaration). is_landed_start c.start ≡ true) script.containers before after container (λ k d below. (rule.starts k d below).landed) is in
    let new : container_place before container.name ≡ None = position_none (λ (c : Declaration). bytes_eq c.name container.name) before container (λ k below. no_name_before (λ (c : Declaration). c.name) script.containers before after container rule.containers_differ is k container below) in
    say_on (declaring awaits before) (declaring awaits (before ++ container ∷ [])) (container_words container) (map container_words after ++ lines) (container_read awaits before container form landed new (omega arith))
    ∙ containers_read awaits script rule (before ++ container ∷ []) after lines (moved_seam script.containers before after container is)

-- ---- tables

abbrev some_count : ℕ → Option ℕ
some_count n = Some n

abbrev tabled : Bool → List Declaration → List (Option ℕ) → Draft
tabled awaits containers tables = record (headed awaits) { containers = containers; tables = tables }

class_place_of : (class place : ℕ) → class ≡ 3 + place → place < 14 → read_class (decimal class) ≡ Ok place
unfolding read_class
class_place_of class place is low =
    let from : 3 ≤ class = omega arith in
    let to : class ≤ 16 = omega arith in
    let rest : class - 3 ≡ place = omega arith in
    rw (index_signed (pos class) (wide_count class (omega arith)), le-leb 3 class from, le-leb class 16 to, rest) refl

tables_said : (awaits : Bool) (containers : List Declaration) (tables : List (Option ℕ)) (class count : List ℕ) → spoken (tabled awaits containers tables) (codes "tables" ∷ class ∷ count ∷ []) ≡ (read_class class >>= λ place. tables_at (tabled awaits containers tables) place count)
unfolding statement other_statement unordered_statement plain_statement declaration tables_line tables_by_words
tables_said awaits containers tables class count = refl

table_set : (awaits : Bool) (containers : List Declaration) (tables : List (Option ℕ)) (place count : ℕ) → slice_get tables place ≡ Some None → 1 ≤ count → count ≤ 1024 → tables_at (tabled awaits containers tables) place (decimal count) ≡ Ok (tabled awaits containers (slice_set tables place (Some count)))
unfolding tables_at
table_set awaits containers tables place count none low high = rw (none, index_signed (pos count) (wide_count count (omega arith)), le-leb 1 count low, le-leb count 1024 high) refl

get_seam : (before after : List (Option ℕ)) (x : Option ℕ) → slice_get (before ++ x ∷ after) (length before) ≡ Some x
get_seam [] after x = refl
get_seam (y ∷ before) after x = get_seam before after x

tables_read : (awaits : Bool) (containers : List Declaration) (before after : List ℕ) (class : ℕ) (lines : List (List (List ℕ))) → class ≡ 3 + length before → length before + length after ≤ 14 → All (λ count. (1 ≤ count) × (count ≤ 1024)) after →
    statements (tabled awaits containers (map some_count before ++ replicate (length after) None)) (tables_lines class after ++ lines) ≡ statements (tabled awaits containers (map some_count (before ++ after))) lines
tables_read awaits containers before [] class lines is few are =
    ap (λ (l : List (Option ℕ)). statements (tabled awaits containers l) lines) (append-nil (map some_count before) ∙ ap (map some_count) (sym (append-nil before)))
tables_read awaits containers before (count ∷ after) class lines is few are =
    let front : List (Option ℕ) = map some_count before in
    let rest : List (Option ℕ) = replicate (length after) None in
    let place : ℕ = length before in
    let long : length front ≡ place = length-map before some_count in
    let range = are 0 count (omega arith) in
    let none : slice_get (front ++ None ∷ rest) place ≡ Some None = ap (slice_get (front ++ None ∷ rest)) (sym long) ∙ get_seam front rest None in
    let next : slice_set (front ++ None ∷ rest) place (Some count) ≡ map some_count (before ++ count ∷ []) ++ rest =
    ap (λ (i : ℕ). slice_set (front ++ None ∷ rest) i (Some count)) (sym long) ∙ set-append_seam front None rest (Some count)
    ∙ sym (append_assoc front (Some count ∷ []) rest) ∙ ap (λ (l : List (Option ℕ)). l ++ rest) (sym (map-append some_count before (count ∷ []))) in
    let longer : length (before ++ count ∷ []) ≡ length before + 1 = length-append before (count ∷ []) in
    say_on (tabled awaits containers (front ++ None ∷ rest)) (tabled awaits containers (map some_count (before ++ count ∷ []) ++ rest)) (codes "tables" ∷ decimal class ∷ decimal count ∷ []) (tables_lines (class + 1) after ++ lines)
    (tables_said awaits containers (front ++ None ∷ rest) (decimal class) (decimal count)
    ∙ ap (λ (r : Result ℕ Fault). r >>= λ p. tables_at (tabled awaits containers (front ++ None ∷ rest)) p (decimal count)) (class_place_of class place is (omega arith))
    ∙ table_set awaits containers (front ++ None ∷ rest) place count none range.0 range.1 ∙ ap (λ (l : List (Option ℕ)). good (tabled awaits containers l)) next)
    ∙ tables_read awaits containers (before ++ count ∷ []) after (class + 1) lines (omega arith) (omega arith) (λ k d low. are (suc k) d (omega arith))
    ∙ ap (λ (l : List ℕ). statements (tabled awaits containers (map some_count l)) lines) (append_assoc before (count ∷ []) after)

-- ---- the heap

-- the draft above all threads
abbrev ready : ScriptParts → Draft
ready script = record (headed (has_awaits script.threads)) { containers = script.containers; tables = map some_count script.tables; heap = Some script.heap }

heap_read : (script : ScriptParts) → IsScript script → spoken (tabled (has_awaits script.threads) script.containers (map some_count script.tables)) (codes "heap" ∷ decimal script.heap ∷ []) ≡ Ok (ready script)
unfolding statement other_statement unordered_statement plain_statement declaration heap_line
heap_read script rule =
    let high : script.heap ≤ 4096 = rule.greatest_heap in
    rw (index_signed (pos script.heap) (wide_count script.heap (omega arith)), le-leb 64 script.heap rule.least_heap, le-leb script.heap 4096 high, rule.heap_steps) refl

-- ---- numbers that are known

first_known : (known number all : ℕ) → AreNumbered known (number ∷ []) all → number < all
first_known known number all (inl h) = let same : known ≡ all = h.1 in omega arith
first_known known number all (inr h) = let same : known + 1 ≡ all = h.1 in let is : number ≡ known = h.0 in omega arith

abbrev listed : Option ℕ → List ℕ
listed o = number_listed o

abbrev some_thread : Thread → Option Thread
some_thread thread = Some thread

abbrev some_call : Call → Option Call
some_call called = Some called

made_known : (known number all : ℕ) (called : Call) → cursor_of called ≡ Some number → AreNumbered known (call_makes called) all → number < all
made_known known number all called is h = first_known known number all (subst (λ (o : Option ℕ). AreNumbered known (listed o) all) is h)

-- a cursor that one of some calls makes is known after them
known_after : (calls : List Call) (known all number : ℕ) → AreNumbered known (flat_map call_makes calls) all → Any (λ earlier. cursor_of earlier ≡ Some number) calls → number < all
known_after [] known all number h any = absurd (let low : any.0 < 0 = any.2 in omega arith)
known_after (called ∷ calls) known all number h (zero, maker, low, at, makes) =
    let parts = numbered_split known (call_makes called) (flat_map call_makes calls) all h in
    let here : number < parts.0 = made_known known number parts.0 called (ap cursor_of at ∙ makes) parts.1 in
    let up : parts.0 ≤ all = numbered_up parts.0 (flat_map call_makes calls) all parts.2 in
    omega arith
known_after (called ∷ calls) known all number h (suc k, maker, low, at, makes) =
    let parts = numbered_split known (call_makes called) (flat_map call_makes calls) all h in
    known_after calls parts.0 all number parts.2 (k, maker, omega arith, at, makes)

-- what an `await` names stands above, where these threads do
abbrev IsReached : ScriptParts → Bool → List Thread → Call → Type 0
IsReached script awaits threads (call.Await other index) =
    (awaits ≡ true) × (other < length script.threads) × (1 ≤ index)
    × (thread_place threads (thread_name script other) ≡ Some other)
IsReached script awaits threads other = Unit {0}

next_is_known : (script : ScriptParts) (base : Draft) (calls before after : List Call) (called : Call) (made : ℕ) → AreMade calls → calls ≡ before ++ called ∷ after → AreNumbered 0 (flat_map call_makes before) made → IsReached script base.awaits base.threads called → IsKnown script base made called
next_is_known script base calls before after (call.Next number) made are is numbered reached =
    let here : slice_get calls (length before) ≡ Some (call.Next number) = slice_get-get_or calls (length before) (call.Next number) (within calls before after (call.Next number) is) ∙ ap some_call (at_seam calls before after (call.Next number) (call.Next number) is) in
    let front : take (length before) calls ≡ before = ap (take (length before)) is ∙ take-append_seam before (call.Next number ∷ after) in
    known_after before 0 made number numbered (subst (λ (l : List Call). Any (λ earlier. cursor_of earlier ≡ Some number) l) front (are (length before) number here))
next_is_known script base calls before after (call.Await other index) made are is numbered reached = reached
next_is_known script base calls before after other made are is numbered reached = tt

abbrev IsReachedIn : ScriptParts → List Thread → Call → Type 0
IsReachedIn script threads called = IsReached script (has_awaits script.threads) threads called × (has_awaited threads called ≡ true)

has_index : (found : Option Thread) (named : Thread) (index : ℕ) → found ≡ Some named → IsSomeAnd found (λ (t : Thread). index ≤ length t.calls) → index ≤ length named.calls
has_index None named index is h = absurd h
has_index (Some t) named index is h = let same : t ≡ named = cc in subst (λ (u : Thread). index ≤ length u.calls) same h

-- the threads before one are those that it may await
reached_by : (script : ScriptParts) → IsScript script → (before after : List Thread) (called : Call) → script.threads ≡ before ++ after → IsAwaitOf script.threads (length before) called → MayAwait (has_awaits script.threads) (length script.threads) called → IsReachedIn script before called
reached_by script rule before after (call.Await other index) is h may =
    let below : other < length before = h.0 in
    let d : Thread = record { name = []; cursors = []; calls = [] } in
    let name : List ℕ = thread_name script other in
    let same : (k : ℕ) → k < length before → get_or script.threads k d ≡ get_or before k d = λ k low. ap (λ (l : List Thread). get_or l k d) is ∙ get_or_append_left before after d k low in
    let named : name ≡ (get_or before other d).name = thread_name_at script other d may.1 ∙ ap (λ (t : Thread). t.name) (same other below) in
    let place : thread_place before name ≡ Some other =
    position_at (λ (t : Thread). bytes_eq t.name name) before other d below
    (λ k low. bytes_differ (get_or before k d).name name (λ e. (let under : k < other = low in rule.threads_differ k other d low may.1 (ap (λ (t : Thread). t.name) (same k (omega arith)) ∙ e ∙ named ∙ ap (λ (t : Thread). t.name) (sym (same other below))))))
    (bytes_same (get_or before other d).name name (sym named)) in
    let many : index ≤ length (get_or before other d).calls = has_index (slice_get script.threads other) (get_or before other d) index (slice_get-get_or script.threads other d may.1 ∙ ap (λ (t : Thread). some_thread t) (same other below)) h.2 in
    let had : has_awaited before (call.Await other index) ≡ true = ap (λ (o : Option Thread). option_map_or (λ (t : Thread). leb index (length t.calls)) o false) (slice_get-get_or before other d below) ∙ le-leb index (length (get_or before other d).calls) many in
    ((may.0, may.1, may.2, place), had)
reached_by script rule before after called is h may = (tt, refl)

-- ---- calls

-- what stands above a thread's line
abbrev above : ScriptParts → List Thread → ℕ → ℕ → Draft
above script threads known count = record (ready script) { threads = threads; strings = take known script.strings; called = count }

-- and above a call of the thread at a place
abbrev begun : ScriptParts → List Thread → List ℕ → List Call → ℕ → ℕ → Draft
begun script threads name calls depth count = record (ready script) { threads = threads; name = Some name; calls = calls; depth = depth; called = count }

abbrev inside : ScriptParts → ℕ → List Thread → List ℕ → List Call → ℕ → ℕ → ℕ → ℕ → Draft
inside script place threads name calls depth count known made = standing script place (begun script threads name calls depth count) known made

record IsTold (draft next : Draft) (word : List ℕ) (words : List (List ℕ)) (called : Call) : Type 0 where
  found : CallWord
  is : call_word_of word ≡ Some found
  read : read_call draft found words ≡ Ok (called, next)

told_by : (draft next : Draft) (word : List ℕ) (words : List (List ℕ)) (called : Call) (found : Option CallWord) → call_word_of word ≡ found → just_call draft (word ∷ words) ≡ Ok (called, next) → IsTold draft next word words called
unfolding just_call
told_by draft next word words called None is read = absurd (let bad : ◌≡◌ {A = Result (Call × Draft) Fault} (Err _) (Ok (called, next)) = rw is at read in cc)
told_by draft next word words called (Some found) is read = record { found = found; is = is; read = rw is at read }

call_stated : (d e : Draft) (word : List ℕ) (words : List (List ℕ)) (called : Call) (found : CallWord) (depth : ℕ) → bytes_eq word (codes "order") ≡ false → bytes_eq word (codes "thread") ≡ false → is_some d.name ≡ true → length d.order ≡ 0 →
    call_word_of word ≡ Some found → d.called < 500000 → read_call d found words ≡ Ok (called, e) → depth_after d.depth called ≡ Ok depth → has_awaited e.threads called ≡ true → spoken d (word ∷ words) ≡ Ok (record e { calls = e.calls ++ called ∷ []; called = d.called + 1; depth = depth })
unfolding statement other_statement unordered_statement plain_statement thread_statement call_line counted_call
call_stated d e word words called found depth order thread named none is low read deep had = rw (order, thread, none, named, is, lt-ltb d.called 500000 low, read, deep, had) refl

-- the open sections after a call
next_depth : (depth : ℕ) (called : Call) (calls : List Call) → is_landed_call called ≡ true → AreNested depth (called ∷ calls) → (next : ℕ) × (depth_after depth called ≡ Ok next) × AreNested next calls
unfolding depth_after
next_depth depth (call.Begin first second) calls landed h = (depth + 1, rw (lt-ltb depth 16 h.0) refl, h.1)
next_depth depth call.End calls landed h = (depth - 1, rw (ne_eqb depth 0 (λ none. (let some : 0 < depth = h.0 in omega arith))) refl, h.1)
next_depth depth (call.Dict place inner) calls landed h = (depth, refl, h)
next_depth depth (call.List place inner) calls landed h = (depth, refl, h)
next_depth depth (call.Set place inner) calls landed h = (depth, refl, h)
next_depth depth (call.Deque place inner) calls landed h = (depth, refl, h)
next_depth depth (call.Next number) calls landed h = (depth, refl, h)
next_depth depth call.Quiesce calls landed h = (depth, refl, h)
next_depth depth (call.Await other index) calls landed h = (depth, rw h.0 refl, h.1)
next_depth depth call.Dump calls landed h = (depth, refl, h)

-- a thread of the script, at a place below some others
record IsPlaced (script : ScriptParts) (place : ℕ) (thread : Thread) : Type 0 where
  facts : Declares script place
  cursors : cursors_at script place ≡ thread.cursors
  counted : cursors_of script place ≡ length thread.cursors
  rule : IsThread script thread
  wide : All IsWideCall thread.calls

module _ (script : ScriptParts) (place : ℕ) (thread : Thread) (h : IsPlaced script place thread) (threads : List Thread) (reached : All (IsReachedIn script threads) thread.calls) where
  abbrev at : List Call → ℕ → ℕ → ℕ → ℕ → Draft
  at calls depth count known made = inside script place threads thread.name calls depth count known made

  call_step : (before after : List Call) (called : Call) (depth count known made next_known next_made : ℕ) → thread.calls ≡ before ++ called ∷ after → count < 500000 → (next : ℕ) → depth_after depth called ≡ Ok next → AreNumbered 0 (flat_map call_makes before) made →
      AreNumbered known (call_mentions called) next_known → AreNumbered made (call_makes called) next_made → spoken (at before depth count known made) (call_words script place called) ≡ Ok (at (before ++ called ∷ []) next (count + 1) next_known next_made)
  call_step before after called depth count known made next_known next_made is low next deep numbered mentioned makes =
      let of_thread = holds_at (IsCallOf script (length thread.cursors)) thread.calls before after called h.rule.calls is in
      let of_script : IsCallOf script (cursors_of script place) called = subst (λ (n : ℕ). IsCallOf script n called) (sym h.counted) of_thread in
      let landed = holds_at (λ (c : Call). is_landed_call c ≡ true) thread.calls before after called h.rule.landed is in
      let wide = holds_at IsWideCall thread.calls before after called h.wide is in
      let base : Draft = begun script threads thread.name before depth count in
      let above_it = holds_at (IsReachedIn script threads) thread.calls before after called reached is in
      let read = call_read script place h.facts base known made next_known next_made called of_script landed wide (next_is_known script base thread.calls before after called made h.rule.made is numbered above_it.0) mentioned makes in
      let told = told_by (at before depth count known made) (standing script place base next_known next_made) (call_form called).word (map (argument_text script place) (call_form called).arguments) called (call_word_of (call_form called).word) refl read in
      call_stated (at before depth count known made) (standing script place base next_known next_made) (call_form called).word (map (argument_text script place) (call_form called).arguments) called told.found next
      (no_other (call_form called).word (codes "order") (told.found, told.is) order_is_none) (no_other (call_form called).word (codes "thread") (told.found, told.is) thread_is_none) refl refl told.is low told.read deep above_it.1

  calls_read : (before after : List Call) (depth count known made all_known all_made : ℕ) (lines : List (List (List ℕ))) → thread.calls ≡ before ++ after → AreNested depth after → count + length after ≤ 500000 → AreNumbered 0 (flat_map call_makes before) made →
      AreNumbered made (flat_map call_makes after) all_made → AreNumbered known (flat_map call_mentions after) all_known →
      statements (at before depth count known made) (map (call_words script place) after ++ lines) ≡ statements (at thread.calls 0 (count + length after) all_known all_made) lines
  calls_read before [] depth count known made all_known all_made lines is nested few numbered makes mentioned =
      let none : count ≡ count + 0 = omega arith in
      ap (λ (l : List Call). statements (at l depth count known made) lines) (sym (is ∙ append-nil before))
      ∙ ap (λ (n : ℕ). statements (at thread.calls n count known made) lines) nested
      ∙ ap (λ (n : ℕ). statements (at thread.calls 0 n known made) lines) none
      ∙ ap (λ (n : ℕ). statements (at thread.calls 0 (count + 0) n made) lines) mentioned
      ∙ ap (λ (n : ℕ). statements (at thread.calls 0 (count + 0) all_known n) lines) makes
  calls_read before (called ∷ after) depth count known made all_known all_made lines is nested few numbered makes mentioned =
      let landed = holds_at (λ (c : Call). is_landed_call c ≡ true) thread.calls before after called h.rule.landed is in
      let deep = next_depth depth called after landed nested in
      let cursors = numbered_split made (call_makes called) (flat_map call_makes after) all_made makes in
      let strings = numbered_split known (call_mentions called) (flat_map call_mentions after) all_known mentioned in
      let longer : (count + 1) + length after ≡ count + length (called ∷ after) = omega arith in
      let made_by : AreNumbered 0 (flat_map call_makes (before ++ called ∷ [])) cursors.0 =
      subst (λ (l : List ℕ). AreNumbered 0 l cursors.0) (sym (flat_map-append call_makes before (called ∷ [])))
      (numbered_join 0 made cursors.0 (flat_map call_makes before) (call_makes called ++ []) numbered (and_none made cursors.0 (call_makes called) cursors.1)) in
      say_on (at before depth count known made) (at (before ++ called ∷ []) deep.0 (count + 1) strings.0 cursors.0) (call_words script place called) (map (call_words script place) after ++ lines)
      (call_step before after called depth count known made strings.0 cursors.0 is (omega arith) deep.0 deep.1 numbered strings.1 cursors.1)
      ∙ calls_read (before ++ called ∷ []) after deep.0 (count + 1) strings.0 cursors.0 all_known all_made lines (moved_seam thread.calls before after called is) deep.2 (omega arith) made_by cursors.2 strings.2
      ∙ ap (λ (n : ℕ). statements (at thread.calls 0 n all_known all_made) lines) longer

-- ---- threads

thread_begins : (script : ScriptParts) (d : Draft) (place : ℕ) (before : List Thread) (name : List ℕ) (known count : ℕ) → end_thread d ≡ Ok (above script before known count) → is_thread_name name ≡ true → thread_place before name ≡ None → length before < 64 →
    spoken d (codes "thread" ∷ name ∷ []) ≡ Ok (inside script place before name [] 0 count known 0)
unfolding statement other_statement unordered_statement thread_line
thread_begins script d place before name known count ended form new room = rw (ended, form, new, lt-ltb (length before) 64 room) refl

thread_ends : (script : ScriptParts) (place : ℕ) (before : List Thread) (name : List ℕ) (calls : List Call) (count known made : ℕ) →
    end_thread (inside script place before name calls 0 count known made) ≡ Ok (above script (before ++ record { name = name; cursors = take made (cursors_at script place); calls = calls } ∷ []) known count)
unfolding end_thread
thread_ends script place before name calls count known made = refl

abbrev calls_of : Thread → ℕ
calls_of thread = length thread.calls

calls_in : (threads : List Thread) → sum (map calls_of threads) ≡ sum_by calls_of threads
calls_in threads = sum-map calls_of threads

placed : (script : ScriptParts) → HasText script → (before after : List Thread) (thread : Thread) → script.threads ≡ before ++ thread ∷ after → IsPlaced script (length before) thread
placed script text before after thread is =
    let low = within script.threads before after thread is in
    let found : slice_get script.threads (length before) ≡ Some thread = slice_get-get_or script.threads (length before) thread low ∙ ap some_thread (at_seam script.threads before after thread thread is) in
    record {
      facts = declares script (length before) text.rule low;
      cursors = ap (λ (o : Option Thread). option_map_or (λ (t : Thread). t.cursors) o []) found;
      counted = ap (λ (o : Option Thread). option_map_or (λ (t : Thread). length t.cursors) o 0) found;
      rule = holds_at (IsThread script) script.threads before after thread text.rule.threads is;
      wide = holds_at (λ (t : Thread). All IsWideCall t.calls) script.threads before after thread text.wide is;
    }

-- what a thread awaits stands above it
all_reached : (script : ScriptParts) → IsScript script → (before after : List Thread) (thread : Thread) → script.threads ≡ before ++ thread ∷ after → All (IsReachedIn script before) thread.calls
all_reached script rule before after thread is k d low =
    let found : slice_get script.threads (length before) ≡ Some thread = slice_get-get_or script.threads (length before) thread (within script.threads before after thread is) ∙ ap some_thread (at_seam script.threads before after thread thread is) in
    let called : Call = get_or thread.calls k d in
    reached_by script rule before (thread ∷ after) called is (rule.awaits (length before) thread found k d low) (script_awaits script (length before) k thread called rule found (slice_get-get_or thread.calls k d low))

-- the lines of some threads are read, and leave a draft that ends with them
record AreRead (script : ScriptParts) (d : Draft) (lines rest : List (List (List ℕ))) : Type 0 where
  next : Draft
  count : ℕ
  ended : end_thread next ≡ Ok (above script script.threads (length script.strings) count)
  read : statements d (lines ++ rest) ≡ statements next rest

threads_read : (script : ScriptParts) → HasText script → (before after : List Thread) (place : ℕ) (d : Draft) (known count : ℕ) (rest : List (List (List ℕ))) → script.threads ≡ before ++ after → place ≡ length before → end_thread d ≡ Ok (above script before known count) →
    AreNumbered known (flat_map thread_mentions after) (length script.strings) → count + sum_by calls_of after ≤ 500000 → AreRead script d (threads_lines script place after) rest
threads_read script text before [] place d known count rest is here ended mentioned few = record {
  next = d;
  count = count;
  ended = ended ∙ ap (λ (l : List Thread). good (above script l known count)) (sym (is ∙ append-nil before)) ∙ ap (λ (n : ℕ). good (above script script.threads n count)) mentioned;
  read = refl;
}
threads_read script text before (thread ∷ after) place d known count rest is here ended mentioned few =
    let at : IsPlaced script place thread = subst (λ (n : ℕ). IsPlaced script n thread) (sym here) (placed script text before after thread is) in
    let low = within script.threads before after thread is in
    let most : length script.threads ≤ 64 = text.rule.few_threads in
    let new : thread_place before thread.name ≡ None = position_none (λ (t : Thread). bytes_eq t.name thread.name) before thread (λ k below. no_name_before (λ (t : Thread). t.name) script.threads before after thread text.rule.threads_differ is k thread below) in
    let made : HasMadeCursors thread = holds_at HasMadeCursors script.threads before after thread text.made is in
    let strings = numbered_split known (thread_mentions thread) (flat_map thread_mentions after) (length script.strings) mentioned in
    let cursors : take (length thread.cursors) (cursors_at script place) ≡ thread.cursors = ap (take (length thread.cursors)) at.cursors ∙ take_all (length thread.cursors) thread.cursors (omega arith) in
    let all : sum_by calls_of (thread ∷ after) ≡ length thread.calls + sum_by calls_of after = sum_by-cons calls_of thread after in
    let more : List (List (List ℕ)) = threads_lines script (place + 1) after in
    let own : Draft = inside script place before thread.name thread.calls 0 (count + length thread.calls) strings.0 (length thread.cursors) in
    let own_ended : end_thread own ≡ Ok (above script (before ++ thread ∷ []) strings.0 (count + length thread.calls)) =
    thread_ends script place before thread.name thread.calls (count + length thread.calls) strings.0 (length thread.cursors)
    ∙ ap (λ (l : List (List ℕ)). good (above script (before ++ record { name = thread.name; cursors = l; calls = thread.calls } ∷ []) strings.0 (count + length thread.calls))) cursors in
    let longer : length (before ++ thread ∷ []) ≡ length before + 1 = length-append before (thread ∷ []) in
    let others = threads_read script text (before ++ thread ∷ []) after (place + 1) own strings.0 (count + length thread.calls) rest (moved_seam script.threads before after thread is) (omega arith) own_ended strings.2 (omega arith) in
    record {
      next = others.next;
      count = others.count;
      ended = others.ended;
      read =
          ap (statements d) (append_assoc (thread_lines script place thread) more rest)
          ∙ say_on d (inside script place before thread.name [] 0 count known 0) (codes "thread" ∷ thread.name ∷ []) (map (call_words script place) thread.calls ++ (more ++ rest)) (thread_begins script d place before thread.name known count ended at.rule.name new (omega arith))
          ∙ calls_read script place thread at before (all_reached script text.rule before after thread is) [] thread.calls 0 count known 0 strings.0 (length thread.cursors) (more ++ rest) refl at.rule.nested (omega arith) refl made strings.1
          ∙ others.read;
    }

-- ---- the order

abbrev ordered : ScriptParts → ℕ → List ℕ → Draft
ordered script count turns = record (above script script.threads (length script.strings) count) { order = turns }

turn_read : (script : ScriptParts) (count : ℕ) (turns : List ℕ) (turn : ℕ) → IsScript script → turn < length script.threads → length turns < 1000000 → read_turn (ordered script count turns) (thread_name script turn) ≡ Ok (ordered script count (turns ++ turn ∷ []))
unfolding read_turn
turn_read script count turns turn rule low room = rw (thread_form script turn rule low, thread_place_at script turn rule low, lt-ltb (length turns) 1000000 room) refl

turns_read : (script : ScriptParts) (count : ℕ) → IsScript script → (before after : List ℕ) → script.order ≡ before ++ after → read_turns (ordered script count before) (map (thread_name script) after) ≡ Ok (ordered script count script.order)
turns_read script count rule before [] is = no_turns (ordered script count before) ∙ ap (λ (l : List ℕ). good (ordered script count l)) (sym (is ∙ append-nil before))
turns_read script count rule before (turn ∷ after) is =
    let low = within script.order before after turn is in
    let few : length script.order ≤ 1000000 = rule.few_turns in
    let known = holds_at (λ (t : ℕ). t < length script.threads) script.order before after turn rule.turns is in
    turns_cons (ordered script count before) (thread_name script turn) (map (thread_name script) after) (Ok (ordered script count (before ++ turn ∷ []))) (turn_read script count before turn rule known (omega arith))
    ∙ turns_read script count rule (before ++ turn ∷ []) after (moved_seam script.order before after turn is)

order_said : (d e : Draft) (name : List ℕ) (names : List (List ℕ)) → end_thread d ≡ Ok e → spoken d (codes "order" ∷ name ∷ names) ≡ read_turns e (name ∷ names)
unfolding statement order_line
order_said d e name names ended = rw ended refl

nothing_open : (script : ScriptParts) (count : ℕ) (turns : List ℕ) → end_thread (ordered script count turns) ≡ Ok (ordered script count turns)
unfolding end_thread
nothing_open script count turns = refl

order_read : (script : ScriptParts) (count : ℕ) (d : Draft) (turns : List ℕ) → IsScript script → end_thread d ≡ Ok (ordered script count []) → script.order ≡ turns → statements d (order_lines script turns) ≡ Ok (ordered script count script.order)
order_read script count d [] rule ended is = ended ∙ ap (λ (l : List ℕ). good (ordered script count l)) (sym is)
order_read script count d (turn ∷ turns) rule ended is =
    say_on d (ordered script count script.order) (codes "order" ∷ map (thread_name script) (turn ∷ turns)) []
    (order_said d (ordered script count []) (thread_name script turn) (map (thread_name script) turns) ended ∙ turns_read script count rule [] (turn ∷ turns) is)
    ∙ nothing_open script count script.order

-- ---- all lines

record ComesTo (script : ScriptParts) : Type 0 where
  count : ℕ
  read : statements empty_draft (script_lines script) ≡ Ok (ordered script count script.order)

first_ends : (script : ScriptParts) → end_thread (ready script) ≡ Ok (above script [] 0 0)
unfolding end_thread
first_ends script = refl

all_read : (script : ScriptParts) → HasText script → ComesTo script
all_read script text =
    let rule : IsScript script = text.rule in
    let order : List (List (List ℕ)) = order_lines script script.order in
    let threads : List (List (List ℕ)) = threads_lines script 0 script.threads in
    let heap : List (List ℕ) = codes "heap" ∷ decimal script.heap ∷ [] in
    let few : sum_by calls_of script.threads ≤ 500000 = (let most : sum (map calls_of script.threads) ≤ 500000 = rule.few_calls in let same = calls_in script.threads in omega arith) in
    let classes : length script.tables ≡ 14 = rule.classes in
    let awaits : Bool = has_awaits script.threads in
    let of_threads = threads_read script text [] script.threads 0 (ready script) 0 0 order refl refl (first_ends script) text.mentioned (omega arith) in
    record {
      count = of_threads.count;
      read =
          version_read awaits (map container_words script.containers ++ (tables_lines 3 script.tables ++ heap ∷ (threads ++ order)))
          ∙ containers_read awaits script rule [] script.containers (tables_lines 3 script.tables ++ heap ∷ (threads ++ order)) refl
          ∙ ap (λ (n : ℕ). statements (tabled awaits script.containers (replicate n None)) (tables_lines 3 script.tables ++ heap ∷ (threads ++ order))) (sym classes)
          ∙ tables_read awaits script.containers [] script.tables 3 (heap ∷ (threads ++ order)) refl (omega arith) rule.tables
          ∙ say_on (tabled awaits script.containers (map some_count script.tables)) (ready script) heap (threads ++ order) (heap_read script rule)
          ∙ of_threads.read
          ∙ order_read script of_threads.count of_threads.next script.order rule of_threads.ended refl;
    }

abbrev counted : Option ℕ × ℕ → ℕ
counted both = unwrap_or both.0 both.1

counts_named : (counts defaults : List ℕ) → length counts ≡ length defaults → map counted (zip (map some_count counts) defaults) ≡ counts
counts_named [] defaults same = refl
counts_named (count ∷ counts) [] same = absurd (omega arith)
counts_named (count ∷ counts) (default ∷ defaults) same = ap (λ (l : List ℕ). count ∷ l) (counts_named counts defaults (omega arith))

abbrev parts : ScriptParts → List (List ℕ) → List ℕ → ScriptParts
parts script strings tables = record script { shared = []; strings = strings; tables = tables }

abbrev sharing : ScriptParts → List SharedKeys → ScriptParts
sharing script shared = record script { shared = shared }

script_back : (script : ScriptParts) (count : ℕ) → HasText script → script_of (ordered script count script.order) ≡ script
script_back script count text =
    let classes : length script.tables ≡ 14 = text.rule.classes in
    ap (λ (l : List (List ℕ)). parts script l (map counted (zip (map some_count script.tables) default_tables))) (take_all (length script.strings) script.strings (omega arith))
    ∙ ap (parts script script.strings) (counts_named script.tables default_tables classes)
    ∙ ap (sharing script) (sym text.shared)

-- ---- the words of all lines

kind_plain : (of_kind : Kind) → IsLineWord (kind_word of_kind)
kind_plain kind.Dict = plain_word (codes "dict") (refl, refl, refl)
kind_plain kind.List = plain_word (codes "list") (refl, refl, refl)
kind_plain kind.Set = plain_word (codes "set") (refl, refl, refl)
kind_plain (kind.Deque bound) = plain_word (codes "deque") (refl, refl, refl)

versions_say : (awaits : Bool) → AreSaying (version_lines awaits)
versions_say false = tt
versions_say true = ((plain_word (codes "version") (refl, refl, refl), (plain_word (codes "2") (refl, refl, refl), tt)), tt)

containers_say : (containers : List Declaration) → AllByRecursion (λ container. is_container_name container.name ≡ true) containers → AreSaying (map container_words containers)
containers_say [] h = tt
containers_say (container ∷ containers) h = ((kind_plain container.start.kind, (plain_word container.name (container_plain container.name h.0), tt)), containers_say containers h.1)

tables_say : (class : ℕ) (counts : List ℕ) → class + length counts ≤ 17 → AllByRecursion (λ count. (1 ≤ count) × (count ≤ 1024)) counts → AreSaying (tables_lines class counts)
tables_say class [] few h = tt
tables_say class (count ∷ counts) few h =
    let high : count ≤ 1024 = h.0.1 in
    ((plain_word (codes "tables") (refl, refl, refl), (plain_word (decimal class) (decimal_plain class (omega arith)), (plain_word (decimal count) (decimal_plain count (omega arith)), tt))), tables_say (class + 1) counts (omega arith) h.1)

line_words : (words : List (List ℕ)) → AllByRecursion IsCallWord words → AreLineWords words
line_words [] h = tt
line_words (word ∷ words) h = (h.0.2, line_words words h.1)

calls_say : (script : ScriptParts) (place : ℕ) (cursors : ℕ) (calls : List Call) → Declares script place → cursors_of script place ≡ cursors → AllByRecursion (IsCallOf script cursors) calls → AllByRecursion IsWideCall calls → AreSaying (map (call_words script place) calls)
calls_say script place cursors [] facts counted h wide = tt
calls_say script place cursors (called ∷ calls) facts counted h wide =
    (line_words (call_words script place called) (words_are script place facts called (subst (λ (n : ℕ). IsCallOf script n called) (sym counted) h.0) wide.0), calls_say script place cursors calls facts counted h.1 wide.1)

threads_say : (script : ScriptParts) → HasText script → (before after : List Thread) (place : ℕ) → script.threads ≡ before ++ after → place ≡ length before → AreSaying (threads_lines script place after)
threads_say script text before [] place is here = tt
threads_say script text before (thread ∷ after) place is here =
    let at : IsPlaced script place thread = subst (λ (n : ℕ). IsPlaced script n thread) (sym here) (placed script text before after thread is) in
    let longer : length (before ++ thread ∷ []) ≡ length before + 1 = length-append before (thread ∷ []) in
    saying_append (thread_lines script place thread) (threads_lines script (place + 1) after)
    ((plain_word (codes "thread") (refl, refl, refl), (plain_word thread.name (thread_plain thread.name at.rule.name), tt)), calls_say script place (length thread.cursors) thread.calls at.facts at.counted (recursion_from_All (IsCallOf script (length thread.cursors)) thread.calls at.rule.calls) (recursion_from_All IsWideCall thread.calls at.wide))
    (threads_say script text (before ++ thread ∷ []) after (place + 1) (moved_seam script.threads before after thread is) (omega arith))

names_say : (script : ScriptParts) → IsScript script → (turns : List ℕ) → AllByRecursion (λ turn. turn < length script.threads) turns → AreLineWords (map (thread_name script) turns)
names_say script rule [] h = tt
names_say script rule (turn ∷ turns) h = (plain_word (thread_name script turn) (thread_plain (thread_name script turn) (thread_form script turn rule h.0)), names_say script rule turns h.1)

order_says : (script : ScriptParts) → IsScript script → (turns : List ℕ) → AllByRecursion (λ turn. turn < length script.threads) turns → AreSaying (order_lines script turns)
order_says script rule [] h = tt
order_says script rule (turn ∷ turns) h = ((plain_word (codes "order") (refl, refl, refl), names_say script rule (turn ∷ turns) h), tt)

script_says : (script : ScriptParts) → HasText script → AreSaying (script_lines script)
script_says script text =
    let rule : IsScript script = text.rule in
    let high : script.heap ≤ 4096 = rule.greatest_heap in
    let classes : length script.tables ≡ 14 = rule.classes in
    let rest : List (List (List ℕ)) = threads_lines script 0 script.threads ++ order_lines script script.order in
    let heap : List (List ℕ) = codes "heap" ∷ decimal script.heap ∷ [] in
    saying_append (version_lines (has_awaits script.threads)) (map container_words script.containers ++ (tables_lines 3 script.tables ++ heap ∷ rest)) (versions_say (has_awaits script.threads))
    (saying_append (map container_words script.containers) (tables_lines 3 script.tables ++ heap ∷ rest)
    (containers_say script.containers (recursion_from_All (λ container. is_container_name container.name ≡ true) script.containers rule.container_names))
    (saying_append (tables_lines 3 script.tables) (heap ∷ rest)
    (tables_say 3 script.tables (omega arith) (recursion_from_All (λ count. (1 ≤ count) × (count ≤ 1024)) script.tables rule.tables)) (
      (plain_word (codes "heap") (refl, refl, refl), (plain_word (decimal script.heap) (decimal_plain script.heap (omega arith)), tt)),
      saying_append (threads_lines script 0 script.threads) (order_lines script script.order) (threads_say script text [] script.threads 0 refl refl)
          (order_says script rule script.order (recursion_from_All (λ turn. turn < length script.threads) script.order rule.turns)),
    )))

abbrev whole_script : ScriptParts → Result ScriptParts ScriptFault
whole_script script = Ok script

pub text_read : (script : ScriptParts) → HasText script → read_script (script_text script) ≡ Ok script
text_read script text =
    let says = script_says script text in
    let to = all_read script text in
    said_script (script_text script) (script_lines script) (ordered script to.count script.order) (text_encoded (script_lines script) says) (said_back (script_lines script) says) to.read
    ∙ ap whole_script (script_back script to.count text)
