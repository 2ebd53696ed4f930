-- What the statements of lines keep of a draft.
use Rattle.std.proofs.Common.{◌≡◌, ◌≢◌, ◌⊎◌, ℕ, ◌+◌, ◌%◌, ◌<◌, ◌≤◌, true, eqb, ltb, not, ◌&&◌, List, [], ◌∷◌, ◌++◌, length, set, get_or, Option, Some, None, Result, Ok, Err, ℤ, pos, negsuc, refl, sym, ap, ◌∙◌, subst, inl, inr, arith}
use Rattle.std.specs.Prelude.{All, Any, IfSome, IfNone, IfOk, codes, int_le, slice_get}
use Rattle.std.specs.List.{AllPairs, flat_map}
use Rattle.std.specs.Option.{is_some}
use Rattle.std.specs.Str.{bytes_eq}
use Rattle.std.proofs.lemmas.Bool.{cases_lt, and_parts, eqb-true, leb-true, ltb-true, true≢false}
use Rattle.std.proofs.lemmas.List.Concat.{flat_map-append}
use Rattle.std.proofs.lemmas.List.{append_assoc, append-nil, get_or_append_left, get_or_push, length-append, length-set, take_at, take-append-le}
use Rattle.std.proofs.lemmas.List.Elements.{All-push, All-set, All-weaker}
use Rattle.std.proofs.lemmas.List.Quantifiers.{Any-push}
use Rattle.std.proofs.lemmas.Option.{get_or_from_slice_get, slice_get-get_or, slice_get_within}
use Rattle.ft_model.specs.declared.call.Call.{Call}
use Rattle.ft_model.specs.declared.call.Call.TheVariants as call
use Rattle.ft_model.specs.declared.script.Declaration.{Declaration}
use Rattle.ft_model.specs.declared.script.Kind.{Kind}
use Rattle.ft_model.specs.declared.script.Kind.TheVariants as kind
use Rattle.ft_model.specs.Classes.{class_count}
use Rattle.ft_model.specs.Names.{is_container_name, is_thread_name}
use Rattle.ft_model.specs.Landed.{is_landed_kind}
use Rattle.ft_model.specs.Scripts.{AreMade, IsAwaitOf, IsCallOf, IsThread, NamesOf, cursor_of}
use Rattle.ft_script.specs.declared.call_words.CallWord.{CallWord}
use Rattle.ft_script.specs.Drafts.{Draft}
use Rattle.ft_script.specs.declared.fault.Fault.{Fault}
use Rattle.ft_script.specs.Awaits.{has_awaited}
use Rattle.ft_script.specs.CallWords.{call_word_of}
use Rattle.ft_script.specs.LineWords.{natural_of}
use Rattle.ft_script.specs.Drafts.{or_fault, container_place, script_of, thread_place}
use Rattle.ft_script.specs.Arguments.{read_index}
use Rattle.ft_script.specs.ScriptLines.{call_line, read_call, read_class, container_line, counted_call, declaration, depth_after, first_line, heap_line, is_first, is_reported, order_line, other_statement, past_limit, plain_statement, statement, tables_at, tables_line, tables_by_words, thread_statement, read_turn, read_turns, unordered_statement, version_line}
use Rattle.ft_script.specs.ScriptTexts.{AreNumbered, call_makes, call_mentions, thread_mentions}
use Rattle.ft_script.specs.Transcripts.{IsWideCall}
use Rattle.ft_script.proofs.Encoded.{BeginsNoThread}
use Rattle.ft_script.proofs.MoreCalls.{call_grows}
use Rattle.ft_script.proofs.Kept.{AreGoodWords, anything, bind_holds, cond_holds, or_holds}
use Rattle.ft_script.proofs.AwaitedCalls.{await_read}
use Rattle.ft_script.proofs.KeptAwaits.{Awaits, read_awaits}
use Rattle.ft_script.proofs.KeptCalls.{CallRead, Called, call_keeps}
use Rattle.ft_script.proofs.KeptDrafts.{AllMade, IsPlainStart, IsDraft, calls_in, no_place, passed, same_containers, thread_grows, thread_line_keeps}
use Rattle.ft_script.proofs.KeptLines.{IsLandedCall, after_push, depth_after_all}
use Rattle.ft_script.proofs.DistinctNames.{absent, differ_push, place_within}
use Rattle.ft_script.proofs.Numbering.{numbered_join}

-- ---- a draft that has more

threads_grow : (d e : Draft) (more : List Declaration) → e.containers ≡ d.containers ++ more → length d.strings ≤ length e.strings → All (IsThread (script_of d)) d.threads → All (IsThread (script_of e)) d.threads
threads_grow d e more containers strings are = All-weaker (IsThread (script_of d)) (IsThread (script_of e)) (λ thread h. thread_grows (script_of d) (script_of e) more containers strings thread h) d.threads are

calls_grow : (d e : Draft) (more : List Declaration) (a b : ℕ) → e.containers ≡ d.containers ++ more → length d.strings ≤ length e.strings → a ≤ b → All (IsCallOf (script_of d) a) d.calls → All (IsCallOf (script_of e) b) d.calls
calls_grow d e more a b containers strings le are = All-weaker (IsCallOf (script_of d) a) (IsCallOf (script_of e) b) (λ called h. call_grows (script_of d) (script_of e) more a b called containers strings le h) d.calls are

-- ---- declarations

container_added : (d : Draft) (container : Declaration) → IsDraft d → IsPlainStart container → is_container_name container.name ≡ true → All (λ other. other.name ≢ container.name) d.containers → length d.containers < 256 → IsDraft (record d { containers = d.containers ++ container ∷ [] })
container_added d container h start form differs room =
    let next : Draft = record d { containers = d.containers ++ container ∷ [] } in
    let longer : length (d.containers ++ container ∷ []) ≡ length d.containers + 1 = length-append d.containers (container ∷ []) in
    let few : length (d.containers ++ container ∷ []) ≤ 256 = omega arith in
    let names : All (λ c. is_container_name c.name ≡ true) (d.containers ++ container ∷ []) = All-push (λ c. is_container_name c.name ≡ true) d.containers container h.container_names form in
    let differ : AllPairs (λ a b. a.name ≢ b.name) (d.containers ++ container ∷ []) = differ_push (λ (c : Declaration). c.name) d.containers container h.containers_differ differs in
    let starts : All IsPlainStart (d.containers ++ container ∷ []) = All-push IsPlainStart d.containers container h.starts start in
    let threads_are : All (IsThread (script_of next)) d.threads = threads_grow d next (container ∷ []) refl (omega arith) h.threads_are in
    let calls_are : All (IsCallOf (script_of next) (length d.cursors)) d.calls = calls_grow d next (container ∷ []) (length d.cursors) (length d.cursors) refl (omega arith) (omega arith) h.calls_are in
    search

container_line_keeps : (d : Draft) (kind : Kind) (words : List (List ℕ)) → is_landed_kind kind ≡ true → IsDraft d → IfOk (container_line d kind words) IsDraft
unfolding container_line
container_line_keeps d kind [] landed h = tt
container_line_keeps d kind (name ∷ []) landed h =
    cond_holds (not (is_container_name name)) _ _ IsDraft (λ _. tt) (λ form.
    cond_holds (is_some (container_place d.containers name)) _ _ IsDraft (λ _. tt) (λ new.
    cond_holds (ltb (length d.containers) 256) _ _ IsDraft
    (λ room. container_added d (record { start = record { kind = kind; keys = [] }; name = name }) h (record { kind = landed; keys = refl }) (passed (is_container_name name) form) (absent (λ (c : Declaration). c.name) d.containers name (no_place (container_place d.containers name) new)) (ltb-true (length d.containers) 256 room))
    (λ _. tt)))
container_line_keeps d kind (name ∷ other ∷ words) landed h = tt

-- an integer between two numbers is a number
between : (low high : ℕ) (n : ℤ) → (int_le (pos low) n && int_le n (pos high)) ≡ true → (low ≤ natural_of n) × (natural_of n ≤ high)
between low high (pos n) h = let parts = and_parts _ _ h in (leb-true _ _ parts.0, leb-true _ _ parts.1)
between low high (negsuc n) h = absurd cc

abbrev IsCount : Option ℕ → Type 0
IsCount count = IfSome count (λ n. (1 ≤ n) × (n ≤ 1024))

abbrev IsHeap : ℕ → Type 0
IsHeap n = (64 ≤ n) × (n ≤ 4096) × (n % 64 ≡ 0)

-- a draft stays one with other tables, another heap and another order that are right
draft_with : (d : Draft) (tables : List (Option ℕ)) (heap : Option ℕ) (order : List ℕ) → IsDraft d → length tables ≡ class_count → All IsCount tables → IfSome heap IsHeap → length order ≤ 1000000 → All (λ t. t < length d.threads) order → IsDraft (record d { tables = tables; heap = heap; order = order })
draft_with d tables heap order h classes counts places few_turns turns =
    let next : Draft = record d { tables = tables; heap = heap; order = order } in
    let threads_are : All (IsThread (script_of next)) d.threads = threads_grow d next [] (same_containers (script_of d)) (omega arith) h.threads_are in
    let calls_are : All (IsCallOf (script_of next) (length d.cursors)) d.calls = calls_grow d next [] (length d.cursors) (length d.cursors) (same_containers (script_of d)) (omega arith) (omega arith) h.calls_are in
    search

tables_reported : (d : Draft) (place count : ℕ) → IsDraft d → 1 ≤ count → count ≤ 1024 → IsDraft (record d { tables = set d.tables place (Some count) })
tables_reported d place count h least greatest =
    draft_with d (set d.tables place (Some count)) d.heap d.order h (length-set d.tables place (Some count) ∙ h.classes) (All-set IsCount d.tables place (Some count) (least, greatest) h.counts) h.places h.few_turns h.turns

tables_at_keeps : (d : Draft) (place : ℕ) (count : List ℕ) → IsDraft d → IfOk (tables_at d place count) IsDraft
unfolding tables_at
tables_at_keeps d place count h =
    cond_holds (is_reported (slice_get d.tables place)) _ _ IsDraft (λ _. tt) (λ _.
    bind_holds (read_index count) _ (λ _. Unit {0}) IsDraft (anything (read_index count)) (λ n _.
    cond_holds (int_le (pos 1) n && int_le n (pos 1024)) _ _ IsDraft (λ is. let limits = between 1 1024 n is in tables_reported d place (natural_of n) h limits.0 limits.1) (λ _. tt)))

tables_by_words_keeps : (d : Draft) (class count : List ℕ) → IsDraft d → IfOk (tables_by_words d class count) IsDraft
unfolding tables_by_words
tables_by_words_keeps d class count h = bind_holds (read_class class) _ (λ _. Unit {0}) IsDraft (anything (read_class class)) (λ place _. tables_at_keeps d place count h)

tables_line_keeps : (d : Draft) (words : List (List ℕ)) → IsDraft d → IfOk (tables_line d words) IsDraft
unfolding tables_line
tables_line_keeps d [] h = tt
tables_line_keeps d (class ∷ []) h = tt
tables_line_keeps d (class ∷ count ∷ []) h = tables_by_words_keeps d class count h
tables_line_keeps d (class ∷ count ∷ other ∷ words) h = tt

heap_reported : (d : Draft) (count : ℕ) → IsDraft d → 64 ≤ count → count ≤ 4096 → count % 64 ≡ 0 → IsDraft (record d { heap = Some count })
heap_reported d count h least greatest steps = draft_with d d.tables (Some count) d.order h h.classes h.counts (least, greatest, steps) h.few_turns h.turns

heap_line_keeps : (d : Draft) (words : List (List ℕ)) → IsDraft d → IfOk (heap_line d words) IsDraft
unfolding heap_line
heap_line_keeps d [] h = tt
heap_line_keeps d (count ∷ []) h =
    cond_holds (is_some d.heap) _ _ IsDraft (λ _. tt) (λ _.
    bind_holds (read_index count) _ (λ _. Unit {0}) IsDraft (anything (read_index count)) (λ n _.
    cond_holds (int_le (pos 64) n && int_le n (pos 4096) && eqb (natural_of n % 64) 0) _ _ IsDraft
    (λ is.
    let parts = and_parts (int_le (pos 64) n && int_le n (pos 4096)) (eqb (natural_of n % 64) 0) is in
    let limits = between 64 4096 n parts.0 in
    heap_reported d (natural_of n) h limits.0 limits.1 (eqb-true (natural_of n % 64) 0 parts.1))
    (λ _. tt)))
heap_line_keeps d (count ∷ other ∷ words) h = tt

version_said : (d : Draft) → IsDraft d → IsDraft (record d { awaits = true })
version_said d h =
    let next : Draft = record d { awaits = true } in
    let threads_are : All (IsThread (script_of next)) d.threads = threads_grow d next [] (same_containers (script_of d)) (omega arith) h.threads_are in
    let calls_are : All (IsCallOf (script_of next) (length d.cursors)) d.calls = calls_grow d next [] (length d.cursors) (length d.cursors) (same_containers (script_of d)) (omega arith) (omega arith) h.calls_are in
    search

version_line_keeps : (d : Draft) (words : List (List ℕ)) → IsDraft d → IfOk (version_line d words) IsDraft
unfolding version_line
version_line_keeps d [] h = tt
version_line_keeps d (word ∷ []) h = cond_holds (bytes_eq word (codes "2")) _ _ IsDraft (λ _. version_said d h) (λ _. tt)
version_line_keeps d (word ∷ other ∷ words) h = tt

first_line_keeps : (d : Draft) (word : List ℕ) (words : List (List ℕ)) → IsDraft d → IfOk (first_line d word words) IsDraft
unfolding first_line
first_line_keeps d word words h = cond_holds (bytes_eq word (codes "version") && is_first d) _ _ IsDraft (λ _. version_line_keeps d words h) (λ _. tt)

declaration_keeps : (d : Draft) (word : List ℕ) (words : List (List ℕ)) → IsDraft d → IfOk (declaration d word words) IsDraft
unfolding declaration
declaration_keeps d word words h =
    cond_holds (bytes_eq word (codes "dict")) _ _ IsDraft (λ _. container_line_keeps d kind.Dict words refl h) (λ _.
    cond_holds (bytes_eq word (codes "list")) _ _ IsDraft (λ _. container_line_keeps d kind.List words refl h) (λ _.
    cond_holds (bytes_eq word (codes "set")) _ _ IsDraft (λ _. container_line_keeps d kind.Set words refl h) (λ _.
    cond_holds (bytes_eq word (codes "tables")) _ _ IsDraft (λ _. tables_line_keeps d words h) (λ _.
    cond_holds (bytes_eq word (codes "heap")) _ _ IsDraft (λ _. heap_line_keeps d words h) (λ _. first_line_keeps d word words h)))))

-- ---- the order of threads

turn_added : (d : Draft) (thread : ℕ) → IsDraft d → thread < length d.threads → length d.order < 1000000 → IsDraft (record d { order = d.order ++ thread ∷ [] })
turn_added d thread h low room =
    let longer : length (d.order ++ thread ∷ []) ≡ length d.order + 1 = length-append d.order (thread ∷ []) in
    draft_with d d.tables d.heap (d.order ++ thread ∷ []) h h.classes h.counts h.places (omega arith) (All-push (λ t. t < length d.threads) d.order thread h.turns low)

turn_keeps : (d : Draft) (name : List ℕ) → IsDraft d → IfOk (read_turn d name) IsDraft
unfolding read_turn
turn_keeps d name h =
    cond_holds (not (is_thread_name name)) _ _ IsDraft (λ _. tt) (λ _.
    bind_holds (or_fault _ (thread_place d.threads name)) _ (λ thread. thread < length d.threads) IsDraft
    (or_holds _ (thread_place d.threads name) (λ thread. thread < length d.threads) (λ thread found. place_within (λ t. bytes_eq t.name name) d.threads thread found))
    (λ thread low. cond_holds (ltb (length d.order) 1000000) _ _ IsDraft (λ room. turn_added d thread h low (ltb-true (length d.order) 1000000 room)) (λ _. tt)))

turns_keep : (names : List (List ℕ)) (d : Draft) → IsDraft d → IfOk (read_turns d names) IsDraft
unfolding read_turns
turns_keep [] d h = h
turns_keep (name ∷ names) d h = bind_holds (read_turn d name) _ IsDraft IsDraft (turn_keeps d name h) (λ next g. turns_keep names next g)

order_line_keeps : (d : Draft) (words : List (List ℕ)) → IsDraft d → IfOk (order_line d words) IsDraft
unfolding order_line
order_line_keeps d [] h = tt
order_line_keeps d (name ∷ names) h = turns_keep (name ∷ names) d h

-- ---- calls

-- a call is added, and where it moves a cursor one before it makes the cursor
made_push : (calls : List Call) (last : Call) → AreMade calls → ((number : ℕ) → last ≡ call.Next number → Any (λ earlier. cursor_of earlier ≡ Some number) calls) → AreMade (calls ++ last ∷ [])
made_push calls last made own place number at =
    let next : Call = call.Next number in
    let all : List Call = calls ++ last ∷ [] in
    let longer : length all ≡ length calls + 1 = length-append calls (last ∷ []) in
    let low : place < length all = slice_get_within all place next at in
    let read : get_or all place next ≡ next = get_or_from_slice_get all place next next at in
    elim (cases_lt place (length calls)) [
      | inl lt ↦
          let here : get_or calls place next ≡ next = sym (get_or_append_left calls (last ∷ []) next place lt) ∙ read in
          let above : slice_get calls place ≡ Some next = slice_get-get_or calls place next lt ∙ ap (λ (c : Call). Some c) here in
          subst (λ (l : List Call). Any (λ earlier. cursor_of earlier ≡ Some number) l) (sym (take-append-le place calls (last ∷ []) (omega arith))) (made place number above)
      | inr le ↦
          let same : length calls ≡ place = omega arith in
          let is : last ≡ next = sym (get_or_push calls last next place same) ∙ read in
          subst (λ (l : List Call). Any (λ earlier. cursor_of earlier ≡ Some number) l) (sym (take_at calls (last ∷ []) place same)) (own number is)
    ]

any_before : {X : Type 0} (P : X → Type 0) (xs : List X) (y : X) → Any P xs → Any P (xs ++ y ∷ [])
any_before P xs y any = (any.0, any.1, omega (arith, any.2, length-append xs (y ∷ [])), get_or_append_left xs (y ∷ []) any.1 any.0 any.2 ∙ any.3, any.4)

-- a call that moves a cursor makes none
moves_only : (number k : ℕ) (called : Call) → called ≡ call.Next number → cursor_of called ≡ Some k → ⊥
moves_only number k called is made = let none : None ≡ Some k = ap cursor_of (sym is) ∙ made in absurd cc

within_cursors : (d : Draft) (n number : ℕ) (called : Call) → called ≡ call.Next number → NamesOf d.containers n called → number < n
within_cursors d n number called is names = subst (λ (c : Call). NamesOf d.containers n c) is names

busy : {X : Type 0} (P : Type 0) (o : Option X) → is_some o ≡ true → IfNone o P
busy P None some = absurd cc
busy P (Some x) some = tt

itself : {A : Type 0} (r : Result A Fault) → IfOk r (λ x. r ≡ Ok x)
itself (Ok x) = refl
itself (Err e) = tt

pub both_hold : {A : Type 0} (r : Result A Fault) (P Q : A → Type 0) → IfOk r P → IfOk r Q → IfOk r (λ x. P x × Q x)
both_hold (Ok x) P Q p q = (p, q)
both_hold (Err e) P Q p q = tt

past_keeps : (read : Result (Call × Draft) Fault) → IfOk (past_limit read) IsDraft
past_keeps (Ok read) = tt
past_keeps (Err found) = tt

one_more : (f : Call → List ℕ) (calls : List Call) (called : Call) → flat_map f (calls ++ called ∷ []) ≡ flat_map f calls ++ f called
one_more f calls called = flat_map-append f calls (called ∷ []) ∙ ap (λ (l : List ℕ). flat_map f calls ++ l) (append-nil (f called))

call_added : (d e : Draft) (called : Call) (depth : ℕ) → IsDraft d → d.called < 500000 → is_some d.name ≡ true → CallRead d e called → IsAwaitOf d.threads (length d.threads) called → depth_after d.depth called ≡ Ok depth →
    IsDraft (record e { calls = e.calls ++ called ∷ []; called = d.called + 1; depth = depth })
call_added d e called depth h room named read awaited deeper =
    let all : List Call = d.calls ++ called ∷ [] in
    let next : Draft = record d { strings = read.strings; cursors = read.cursors; calls = all; called = d.called + 1; depth = depth } in
    let longer : length all ≡ length d.calls + 1 = length-append d.calls (called ∷ []) in
    let n : ℕ = length read.cursors in
    let moved : (number : ℕ) → called ≡ call.Next number → Any (λ earlier. cursor_of earlier ≡ Some number) d.calls = λ number is. elim (read.fresh number (within_cursors d n number called is read.names)) [ inl low ↦ h.all_made number low | inr made ↦ absurd (moves_only number number called is made) ] in
    let few_calls : d.called + 1 ≤ 500000 = omega arith in
    let counted : calls_in d.threads + length all ≡ d.called + 1 = let was : calls_in d.threads + length d.calls ≡ d.called = h.counted in omega arith in
    let threads_are : All (IsThread (script_of next)) d.threads = threads_grow d next [] (same_containers (script_of d)) read.more h.threads_are in
    let idle : IfNone d.name ((read.cursors ≡ []) × (all ≡ [])) = busy _ d.name named in
    let calls_are : All (IsCallOf (script_of next) n) all = All-push (IsCallOf (script_of next) n) d.calls called (calls_grow d next [] (length d.cursors) n (same_containers (script_of d)) read.more read.further h.calls_are) (record { names = read.names; strings = read.said }) in
    let made : AreMade all = made_push d.calls called h.made moved in
    let all_made : AllMade read.cursors all = λ k low. elim (read.fresh k low) [ inl old ↦ any_before (λ c. cursor_of c ≡ Some k) d.calls called (h.all_made k old) | inr made ↦ Any-push (λ c. cursor_of c ≡ Some k) d.calls called made ] in
    let nested : depth_after_all 0 all ≡ Ok depth = after_push 0 d.calls called d.depth depth h.nested deeper in
    let wide : All IsWideCall all = All-push IsWideCall d.calls called h.wide read.wide in
    let landed : All IsLandedCall all = All-push IsLandedCall d.calls called h.landed read.landed in
    let front : List ℕ = flat_map thread_mentions d.threads in
    let mentioned : AreNumbered 0 (front ++ flat_map call_mentions all) (length read.strings) =
    subst (λ (l : List ℕ). AreNumbered 0 l (length read.strings)) (append_assoc front (flat_map call_mentions d.calls) (call_mentions called) ∙ ap (λ (l : List ℕ). front ++ l) (sym (one_more call_mentions d.calls called)))
    (numbered_join 0 (length d.strings) (length read.strings) (front ++ flat_map call_mentions d.calls) (call_mentions called) h.mentioned read.mentioned) in
    let own_awaits : All (IsAwaitOf d.threads (length d.threads)) all = All-push (IsAwaitOf d.threads (length d.threads)) d.calls called h.own_awaits awaited in
    let makes : AreNumbered 0 (flat_map call_makes all) n =
    subst (λ (l : List ℕ). AreNumbered 0 l n) (sym (one_more call_makes d.calls called)) (numbered_join 0 (length d.cursors) n (flat_map call_makes d.calls) (call_makes called) h.makes read.makes) in
    let is : IsDraft next = search in
    subst (λ (x : Draft). IsDraft (record x { calls = x.calls ++ called ∷ []; called = d.called + 1; depth = depth })) (sym read.is) is

counted_call_keeps : (d : Draft) (word : CallWord) (words : List (List ℕ)) → IsDraft d → AreGoodWords words → is_some d.name ≡ true → d.called < 500000 → IfOk (counted_call d word words) IsDraft
unfolding counted_call
counted_call_keeps d word words h good named room =
    bind_holds (read_call d word words) _ (λ read. Called d read × Awaits d read) IsDraft (both_hold (read_call d word words) (Called d) (Awaits d) (call_keeps d word words h.table h.cursors_are good) (read_awaits d word words)) (λ read g.
    bind_holds (depth_after d.depth read.0) _ (λ depth. depth_after d.depth read.0 ≡ Ok depth) IsDraft (itself (depth_after d.depth read.0)) (λ depth deeper.
    cond_holds (has_awaited read.1.threads read.0) _ _ IsDraft
    (λ has. call_added d read.1 read.0 depth h room named g.0 (await_read d.awaits d.threads read.0 g.1 (ap (λ (e : Draft). has_awaited e.threads read.0) (sym g.0.is) ∙ has)) deeper) (λ _. tt)))

call_line_keeps : (d : Draft) (word : CallWord) (words : List (List ℕ)) → IsDraft d → AreGoodWords words → is_some d.name ≡ true → IfOk (call_line d word words) IsDraft
unfolding call_line
call_line_keeps d word words h good named =
    cond_holds (ltb d.called 500000) _ _ IsDraft (λ room. counted_call_keeps d word words h good named (ltb-true d.called 500000 room)) (λ _. past_keeps (read_call d word words))

thread_statement_keeps : (d : Draft) (word : List ℕ) (words : List (List ℕ)) → IsDraft d → AreGoodWords words → is_some d.name ≡ true → IfOk (thread_statement d word words) IsDraft
unfolding thread_statement
thread_statement_keeps d word words h good named =
    bind_holds (or_fault _ (call_word_of word)) _ (λ _. Unit {0}) IsDraft (anything (or_fault _ (call_word_of word))) (λ found _. call_line_keeps d found words h good named)

-- ---- statements

plain_statement_keeps : (d : Draft) (word : List ℕ) (words : List (List ℕ)) → IsDraft d → AreGoodWords words → IfOk (plain_statement d word words) IsDraft
unfolding plain_statement
plain_statement_keeps d word words h good =
    cond_holds (is_some d.name) _ _ IsDraft (λ named. thread_statement_keeps d word words h good named) (λ _. declaration_keeps d word words h)

-- a `thread` line stands in no thread, since it ends the calls above it
unordered_keeps : (d : Draft) (word : List ℕ) (words : List (List ℕ)) → IsDraft d → AreGoodWords words → (d.name ≡ None) ⊎ BeginsNoThread (word ∷ words) → IfOk (unordered_statement d word words) IsDraft
unfolding unordered_statement
unordered_keeps d word words h good apart =
    cond_holds (bytes_eq word (codes "thread")) _ _ IsDraft
    (λ thread. thread_line_keeps d words h (elim apart [ inl none ↦ none | inr other ↦ absurd (true≢false (sym thread ∙ other)) ]))
    (λ _. plain_statement_keeps d word words h good)

other_keeps : (d : Draft) (word : List ℕ) (words : List (List ℕ)) → IsDraft d → AreGoodWords words → (d.name ≡ None) ⊎ BeginsNoThread (word ∷ words) → IfOk (other_statement d word words) IsDraft
unfolding other_statement
other_keeps d word words h good apart = cond_holds (eqb (length d.order) 0) _ _ IsDraft (λ _. unordered_keeps d word words h good apart) (λ _. tt)

pub statement_keeps : (d : Draft) (words : List (List ℕ)) → IsDraft d → AreGoodWords words → (d.name ≡ None) ⊎ BeginsNoThread words → IfOk (statement d words) IsDraft
unfolding statement
statement_keeps d [] h good apart = h
statement_keeps d (word ∷ words) h good apart =
    cond_holds (bytes_eq word (codes "order")) _ _ IsDraft (λ _. order_line_keeps d words h) (λ _. other_keeps d word words h good.1 apart)
