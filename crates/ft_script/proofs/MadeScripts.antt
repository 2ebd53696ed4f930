-- What the generator makes is read as the script that it is the text of.
use Rattle.std.proofs.Common.{◌≡◌, cond, ℕ, pos, negsuc, zero, suc, ◌+◌, ◌-◌, ◌*◌, ◌/◌, ◌%◌, ◌^◌, ◌<◌, ◌≤◌, Bool, true, false, eqb, leb, ltb, ◌&&◌, List, [], ◌∷◌, ◌++◌, length, take, map, Option, Some, None, Result, Ok, refl, sym, ap, ◌∙◌, subst, arith, lit<, append_assoc}
use Rattle.std.specs.Prelude.{codes, option_map, int_le, replicate, slice_set}
use Rattle.std.specs.List.{list_all, flat_map, join_with_byte, range_with_len, AllByRecursion}
use Rattle.std.specs.Fmt.{decimal}
use Rattle.std.specs.Str.{IsAscii, IsUtf8, bytes_eq}
use Rattle.std.specs.Str.Lossy.{utf8_valid_len}
use Rattle.std.proofs.lemmas.Bool.{and_parts, and_from, leb-true, le-leb, lt-ltb, le-ltb, ne_eqb}
use Rattle.std.proofs.lemmas.List.{append-nil, map-append}
use Rattle.std.proofs.lemmas.List.FromFn.{length-map-range_with_len}
use Rattle.std.proofs.lemmas.List.Folds.{list_all-append}
use Rattle.std.proofs.lemmas.Str.{IsUtf8-append, IsUtf8-from_ascii, IsUtf8-nil, utf8_valid_len-IsUtf8}
use Rattle.ft_model.specs.declared.data.Key.TheVariants as key
use Rattle.ft_model.specs.declared.data.Value.TheVariants as value
use Rattle.ft_model.specs.declared.call.Call.{Call}
use Rattle.ft_model.specs.declared.call.Call.TheVariants as call
use Rattle.ft_model.specs.declared.call.DictCall.TheVariants as dict
use Rattle.ft_model.specs.declared.call.ListCall.TheVariants as list
use Rattle.ft_model.specs.declared.call.SetCall.TheVariants as set
use Rattle.ft_model.specs.declared.script.Declaration.{Declaration}
use Rattle.ft_model.specs.declared.script.Thread.{Thread}
use Rattle.ft_model.specs.Classes.{class_count}
use Rattle.ft_model.specs.Names.{is_digit}
use Rattle.ft_script.specs.declared.call_words.CallWord.{CallWord}
use Rattle.ft_script.specs.declared.call_words.CallWord.TheVariants.{Quiesce, On}
use Rattle.ft_script.specs.declared.call_words.Operation.TheVariants as of
use Rattle.ft_script.specs.Drafts.{Draft}
use Rattle.ft_script.specs.declared.fault.ScriptFault.{ScriptFault}
use Rattle.ft_script.specs.declared.lines.Place.{Place}
use Rattle.ft_script.specs.declared.lines.Place.TheVariants as place
use Rattle.ft_script.specs.Arguments.{read_container, just_index, read_index, just_key_and_value, read_key_and_value, just_key, read_key, just_nothing, just_value, read_value}
use Rattle.ft_script.specs.Awaits.{is_await}
use Rattle.ft_script.specs.CallWords.{call_word_of}
use Rattle.ft_script.specs.Drafts.{empty_draft, end_thread, script_of}
use Rattle.ft_script.specs.Generator.{call_by, calls_above, head_words, made_call, made_calls, made_head, made_script, made_text, made_thread, number_at, share, thread_words}
use Rattle.ft_script.specs.Lines.{ends_thread, is_comment, byte_joined, lines_of, place_after, with_first, words_from, words_of}
use Rattle.ft_script.specs.ScriptLines.{call_at, call_line, read_call, read_class, container_call, container_line, counted_call, declaration, depth_after, dict_call, heap_line, list_call, open_line, other_statement, plain_statement, read_line, set_call, statement, tables_at, tables_line, tables_by_words, thread_line, thread_statement, unordered_statement, words_line}
use Rattle.ft_script.specs.ReadScripts.{line_after, read_lines, read_script, reported_at}
use Rattle.ft_script.specs.Texts.{call_words, line}
use Rattle.ft_script.specs.LineWords.{integer_of, is_wide}
use Rattle.ft_script.proofs.AwaitedCalls.{unawaited}
use Rattle.ft_script.proofs.CallTexts.{word_back}
use Rattle.ft_script.proofs.LineTexts.{AreLineWords, AreSaying, IsPlain, decimal_plain, plain_word, said_back, saying_append, text_encoded}
use Rattle.ft_script.proofs.SaidLines.{said_script, say_on, spoken, statements}
use Rattle.ft_script.proofs.PartTexts.{decimal_word, index_signed, numbers_are_no_strings, numbers_are_not_none}
use Rattle.ft_script.proofs.WordCuts.{from_byte}
use Rattle.ft_script.proofs.WordLemmas.{AreDigits}

-- ---- calls

-- what stands above a line of a thread of this name, which has these calls so far, as all threads have that many
abbrev within : List ℕ → List Thread → List Call → ℕ → Draft
within name threads calls count = record empty_draft {
  containers = made_head.containers;
  tables = slice_set (replicate class_count None) 9 (Some 16);
  heap = Some 4096;
  threads = threads;
  name = Some name;
  calls = calls;
  called = count;
}

stated : (name : List ℕ) (threads : List Thread) (calls : List Call) (count : ℕ) (word : List ℕ) (words : List (List ℕ)) (found : CallWord) (called : Call) →
    bytes_eq word (codes "order") ≡ false → bytes_eq word (codes "thread") ≡ false → call_word_of word ≡ Some found → is_await called ≡ false → read_call (within name threads calls count) found words ≡ Ok (called, within name threads calls count) →
    depth_after 0 called ≡ Ok 0 → count < 500000 → spoken (within name threads calls count) (word ∷ words) ≡ Ok (within name threads (calls ++ called ∷ []) (count + 1))
unfolding statement other_statement unordered_statement plain_statement thread_statement call_line counted_call
stated name threads calls count word words found called order thread is none read depth low = rw (order, thread, is, lt-ltb count 500000 low, read, depth, unawaited threads called none) refl

record IsGoodCall (called : Call) : Type 0 where
  plain : AllByRecursion IsPlain (call_words made_head 0 called)
  reads : (name : List ℕ) (threads : List Thread) (calls : List Call) (count : ℕ) → count < 500000 → spoken (within name threads calls count) (call_words made_head 0 called) ≡ Ok (within name threads (calls ++ called ∷ []) (count + 1))

good_by : (called : Call) (word : List ℕ) (words : List (List ℕ)) (found : CallWord) → call_words made_head 0 called ≡ word ∷ words → AllByRecursion IsPlain (word ∷ words) →
    bytes_eq word (codes "order") ≡ false → bytes_eq word (codes "thread") ≡ false → call_word_of word ≡ Some found → is_await called ≡ false →
    depth_after 0 called ≡ Ok 0 → ((name : List ℕ) (threads : List Thread) (calls : List Call) (count : ℕ) → read_call (within name threads calls count) found words ≡ Ok (called, within name threads calls count)) → IsGoodCall called
good_by called word words found are plain order thread is none depth read = record {
  plain = subst (AllByRecursion IsPlain) (sym are) plain;
  reads = λ name threads calls count low. ap (spoken (within name threads calls count)) are ∙ stated name threads calls count word words found called order thread is none (read name threads calls count) depth low;
}

-- ---- numbers below 1000

wide : (k : ℕ) → k < 1000 → is_wide (pos k) ≡ true
wide k low = and_from (int_le (negsuc (2 ^ 63 - 1)) (pos k)) (int_le (pos k) (pos (2 ^ 63 - 1))) refl (le-leb k (2 ^ 63 - 1) (omega arith))

number_word : (k : ℕ) → k < 1000 → IsPlain (decimal k)
number_word k low = decimal_plain k (omega arith)

key_read : (draft : Draft) (k : ℕ) → k < 1000 → read_key draft (decimal k) ≡ Ok (key.Int (pos k), draft)
unfolding read_key
key_read draft k low = rw (numbers_are_no_strings (decimal k) (decimal_word k (omega arith)).1, index_signed (pos k) (wide k low)) refl

value_read : (draft : Draft) (k : ℕ) → k < 1000 → read_value draft (decimal k) ≡ Ok (value.Int (pos k), draft)
unfolding read_value
value_read draft k low = rw (numbers_are_not_none (decimal k) (decimal_word k (omega arith)).1, key_read draft k low) refl

good_set : (k : ℕ) → k < 1000 → IsGoodCall (call.Dict 0 (dict.Set (key.Int (pos k)) (value.Int (pos k))))
unfolding read_call container_call read_container call_at dict_call just_key_and_value read_key_and_value depth_after
good_set k low = good_by _ (codes "set") (codes "d" ∷ decimal k ∷ decimal k ∷ []) (On of.Set) refl ((refl, refl, refl), ((refl, refl, refl), (number_word k low, (number_word k low, tt)))) refl refl (word_back (On of.Set)) refl refl
    (λ name threads calls count. rw (key_read (within name threads calls count) k low, value_read (within name threads calls count) k low) refl)

good_get : (k : ℕ) → k < 1000 → IsGoodCall (call.Dict 0 (dict.Get (key.Int (pos k))))
unfolding read_call container_call read_container call_at dict_call just_key depth_after
good_get k low = good_by _ (codes "get") (codes "d" ∷ decimal k ∷ []) (On of.Get) refl ((refl, refl, refl), ((refl, refl, refl), (number_word k low, tt))) refl refl (word_back (On of.Get)) refl refl
    (λ name threads calls count. rw (key_read (within name threads calls count) k low) refl)

good_del : (k : ℕ) → k < 1000 → IsGoodCall (call.Dict 0 (dict.Del (key.Int (pos k))))
unfolding read_call container_call read_container call_at dict_call just_key depth_after
good_del k low = good_by _ (codes "del") (codes "d" ∷ decimal k ∷ []) (On of.Del) refl ((refl, refl, refl), ((refl, refl, refl), (number_word k low, tt))) refl refl (word_back (On of.Del)) refl refl
    (λ name threads calls count. rw (key_read (within name threads calls count) k low) refl)

good_append : (k : ℕ) → k < 1000 → IsGoodCall (call.List 1 (list.Append (value.Int (pos k))))
unfolding read_call container_call read_container call_at list_call just_value depth_after
good_append k low = good_by _ (codes "append") (codes "l" ∷ decimal k ∷ []) (On of.Append) refl ((refl, refl, refl), ((refl, refl, refl), (number_word k low, tt))) refl refl (word_back (On of.Append)) refl refl
    (λ name threads calls count. rw (value_read (within name threads calls count) k low) refl)

good_item : (k : ℕ) → k < 1000 → IsGoodCall (call.List 1 (list.Get (pos k)))
unfolding read_call container_call read_container call_at list_call just_index depth_after
good_item k low = good_by _ (codes "get") (codes "l" ∷ decimal k ∷ []) (On of.Get) refl ((refl, refl, refl), ((refl, refl, refl), (number_word k low, tt))) refl refl (word_back (On of.Get)) refl refl
    (λ name threads calls count. rw (index_signed (pos k) (wide k low)) refl)

good_add : (k : ℕ) → k < 1000 → IsGoodCall (call.Set 2 (set.Add (key.Int (pos k))))
unfolding read_call container_call read_container call_at set_call just_key depth_after
good_add k low = good_by _ (codes "add") (codes "s" ∷ decimal k ∷ []) (On of.Add) refl ((refl, refl, refl), ((refl, refl, refl), (number_word k low, tt))) refl refl (word_back (On of.Add)) refl refl
    (λ name threads calls count. rw (key_read (within name threads calls count) k low) refl)

good_discard : (k : ℕ) → k < 1000 → IsGoodCall (call.Set 2 (set.Discard (key.Int (pos k))))
unfolding read_call container_call read_container call_at set_call just_key depth_after
good_discard k low = good_by _ (codes "discard") (codes "s" ∷ decimal k ∷ []) (On of.Discard) refl ((refl, refl, refl), ((refl, refl, refl), (number_word k low, tt))) refl refl (word_back (On of.Discard)) refl refl
    (λ name threads calls count. rw (key_read (within name threads calls count) k low) refl)

good_quiesce : IsGoodCall call.Quiesce
unfolding read_call just_nothing depth_after
good_quiesce = good_by _ (codes "quiesce") [] Quiesce refl ((refl, refl, refl), tt) refl refl (word_back Quiesce) refl refl (λ name threads calls count. refl)

pick : {A : Type 0} (b : Bool) (x y : A) (P : A → Type 0) → P x → P y → P (cond b x y)
pick true x y P h k = h
pick false x y P h k = k

good_call : (rest k : ℕ) → k < 1000 → IsGoodCall (call_by rest k)
good_call rest k low =
    pick (eqb rest 0) _ _ IsGoodCall (good_set k low) (
    pick (eqb rest 1) _ _ IsGoodCall (good_get k low) (
    pick (eqb rest 2) _ _ IsGoodCall (good_del k low) (
    pick (eqb rest 3) _ _ IsGoodCall (good_append k low) (
    pick (eqb rest 4) _ _ IsGoodCall (good_item k low) (
    pick (eqb rest 5) _ _ IsGoodCall (good_add k low) (
    pick (eqb rest 6) _ _ IsGoodCall (good_discard k low) good_quiesce))))))

good_calls : (f : ℕ → ℕ) (places : List ℕ) → AllByRecursion IsGoodCall (map (λ draws. made_call (f draws)) places)
good_calls f [] = tt
good_calls f (draws ∷ places) = (good_call (f draws / 2 ^ 33 % 8) (f draws / 2 ^ 33 / 8 % 1000) (omega arith), good_calls f places)

-- ---- lines, one after the other

-- some lines are read from a draft on, and lead to this one
abbrev LeadTo : Draft → List (List (List ℕ)) → Draft → Type 0
LeadTo draft lines final = statements draft lines ≡ Ok final

calls_read : (calls : List Call) (name : List ℕ) (threads : List Thread) (so_far : List Call) (count : ℕ) (rest : List (List (List ℕ))) (final : Draft) → AllByRecursion IsGoodCall calls → count + length calls ≤ 500000 →
    LeadTo (within name threads (so_far ++ calls) (count + length calls)) rest final → LeadTo (within name threads so_far count) (map (call_words made_head 0) calls ++ rest) final
calls_read [] name threads so_far count rest final good few then =
    let same : count ≡ count + length {A = Call} [] = omega arith in
    ap (λ (l : List Call). statements (within name threads l count) rest) (sym (append-nil so_far)) ∙ ap (λ (n : ℕ). statements (within name threads (so_far ++ []) n) rest) same ∙ then
calls_read (called ∷ calls) name threads so_far count rest final good few then =
    let longer : count + length (called ∷ calls) ≡ (count + 1) + length calls = omega arith in
    let goes_on : LeadTo (within name threads ((so_far ++ called ∷ []) ++ calls) ((count + 1) + length calls)) rest final =
    ap (λ (l : List Call). statements (within name threads l ((count + 1) + length calls)) rest) (append_assoc so_far (called ∷ []) calls)
    ∙ ap (λ (n : ℕ). statements (within name threads (so_far ++ called ∷ calls) n) rest) (sym longer) ∙ then in
    say_on (within name threads so_far count) (within name threads (so_far ++ called ∷ []) (count + 1)) (call_words made_head 0 called) (map (call_words made_head 0) calls ++ rest) (good.0.reads name threads so_far count (omega arith))
    ∙ calls_read calls name threads (so_far ++ called ∷ []) (count + 1) rest final good.1 (omega arith) goes_on

-- ---- threads

-- the draft above all threads, and between a thread's calls and the next thread's line
abbrev above : List Thread → ℕ → Draft
above threads count = record empty_draft {
  containers = made_head.containers;
  tables = slice_set (replicate class_count None) 9 (Some 16);
  heap = Some 4096;
  threads = threads;
  called = count;
}

abbrev thread_of : List ℕ → List Call → Thread
thread_of name calls = record { name = name; cursors = []; calls = calls }

-- the line of a thread of this name
abbrev opening : List ℕ → List (List ℕ)
opening name = codes "thread" ∷ name ∷ []

calls_end : (name : List ℕ) (threads : List Thread) (calls : List Call) (count : ℕ) → end_thread (within name threads calls count) ≡ Ok (above (threads ++ thread_of name calls ∷ []) count)
unfolding end_thread
calls_end name threads calls count = refl

-- the four threads
begins_a : (count : ℕ) → spoken (above [] count) (opening (codes "A")) ≡ Ok (within (codes "A") [] [] count)
unfolding end_thread statement other_statement unordered_statement thread_line
begins_a count = refl

begins_b : (a : List Call) (count : ℕ) → spoken (within (codes "A") [] a count) (opening (codes "B")) ≡ Ok (within (codes "B") (thread_of (codes "A") a ∷ []) [] count)
unfolding end_thread statement other_statement unordered_statement thread_line
begins_b a count = refl

begins_c : (a b : List Call) (count : ℕ) → spoken (within (codes "B") (thread_of (codes "A") a ∷ []) b count) (opening (codes "C")) ≡ Ok (within (codes "C") (thread_of (codes "A") a ∷ thread_of (codes "B") b ∷ []) [] count)
unfolding end_thread statement other_statement unordered_statement thread_line
begins_c a b count = refl

begins_d : (a b c : List Call) (count : ℕ) → spoken (within (codes "C") (thread_of (codes "A") a ∷ thread_of (codes "B") b ∷ []) c count) (opening (codes "D")) ≡ Ok (within (codes "D") (thread_of (codes "A") a ∷ thread_of (codes "B") b ∷ thread_of (codes "C") c ∷ []) [] count)
unfolding end_thread statement other_statement unordered_statement thread_line
begins_d a b c count = refl

abbrev four : List Call → List Call → List Call → List Call → List Thread
four a b c d = thread_of (codes "A") a ∷ thread_of (codes "B") b ∷ thread_of (codes "C") c ∷ thread_of (codes "D") d ∷ []

threads_read : (a b c d : List Call) → AllByRecursion IsGoodCall a → AllByRecursion IsGoodCall b → AllByRecursion IsGoodCall c → AllByRecursion IsGoodCall d → ((length a + length b) + length c) + length d ≤ 500000 →
    LeadTo (above [] 0) (flat_map thread_words (four a b c d)) (above (four a b c d) (((length a + length b) + length c) + length d))
threads_read a b c d ga gb gc gd few =
    let final : Draft = above (four a b c d) (((length a + length b) + length c) + length d) in
    let first : length a ≡ 0 + length a = omega arith in
    let only_a : List Thread = thread_of (codes "A") a ∷ [] in
    let up_to_b : List Thread = thread_of (codes "A") a ∷ thread_of (codes "B") b ∷ [] in
    let up_to_c : List Thread = thread_of (codes "A") a ∷ thread_of (codes "B") b ∷ thread_of (codes "C") c ∷ [] in
    let after_d : List (List (List ℕ)) = [] in
    let after_c : List (List (List ℕ)) = thread_words (thread_of (codes "D") d) ++ after_d in
    let after_b : List (List (List ℕ)) = thread_words (thread_of (codes "C") c) ++ after_c in
    let after_a : List (List (List ℕ)) = thread_words (thread_of (codes "B") b) ++ after_b in
    let of_d : LeadTo (within (codes "D") up_to_c [] ((length a + length b) + length c)) (map (call_words made_head 0) d ++ after_d) final =
    calls_read d (codes "D") up_to_c [] ((length a + length b) + length c) after_d final gd few (calls_end (codes "D") up_to_c d (((length a + length b) + length c) + length d)) in
    let of_c : LeadTo (within (codes "C") up_to_b [] (length a + length b)) (map (call_words made_head 0) c ++ after_c) final =
    calls_read c (codes "C") up_to_b [] (length a + length b) after_c final gc (omega arith)
    (say_on _ _ (opening (codes "D")) (map (call_words made_head 0) d ++ after_d) (begins_d a b c ((length a + length b) + length c)) ∙ of_d) in
    let of_b : LeadTo (within (codes "B") only_a [] (length a)) (map (call_words made_head 0) b ++ after_b) final =
    calls_read b (codes "B") only_a [] (length a) after_b final gb (omega arith)
    (say_on _ _ (opening (codes "C")) (map (call_words made_head 0) c ++ after_c) (begins_c a b (length a + length b)) ∙ of_c) in
    let of_a : LeadTo (within (codes "A") [] [] 0) (map (call_words made_head 0) a ++ after_a) final =
    calls_read a (codes "A") [] [] 0 after_a final ga (omega arith)
    (ap (λ (n : ℕ). statements (within (codes "A") [] a n) after_a) (sym first) ∙ say_on _ _ (opening (codes "B")) (map (call_words made_head 0) b ++ after_b) (begins_b a (length a)) ∙ of_b) in
    say_on _ _ (opening (codes "A")) (map (call_words made_head 0) a ++ after_a) (begins_a 0) ∙ of_a

-- ---- the lines above all threads

abbrev containers_before : ℕ → List Declaration
containers_before n = take n made_head.containers

-- a draft of the head, as its lines are read
abbrev heading : List (Option ℕ) → List Declaration → Draft
heading tables containers = record empty_draft { containers = containers; tables = tables; heap = Some 4096 }

abbrev sixteen : List (Option ℕ)
sixteen = slice_set (replicate class_count None) 9 (Some 16)

heap_read : spoken empty_draft (codes "heap" ∷ codes "4096" ∷ []) ≡ Ok (heading (replicate class_count None) [])
unfolding statement other_statement unordered_statement plain_statement declaration heap_line read_index integer_of
heap_read = refl

tables_read : spoken (heading (replicate class_count None) []) (codes "tables" ∷ codes "12" ∷ codes "16" ∷ []) ≡ Ok (heading sixteen [])
unfolding statement other_statement unordered_statement plain_statement declaration tables_line tables_by_words read_class tables_at read_index integer_of
tables_read = refl

dict_read : spoken (heading sixteen []) (codes "dict" ∷ codes "d" ∷ []) ≡ Ok (heading sixteen (containers_before 1))
unfolding statement other_statement unordered_statement plain_statement declaration container_line
dict_read = refl

list_read : spoken (heading sixteen (containers_before 1)) (codes "list" ∷ codes "l" ∷ []) ≡ Ok (heading sixteen (containers_before 2))
unfolding statement other_statement unordered_statement plain_statement declaration container_line
list_read = refl

set_read : spoken (heading sixteen (containers_before 2)) (codes "set" ∷ codes "s" ∷ []) ≡ Ok (above [] 0)
unfolding statement other_statement unordered_statement plain_statement declaration container_line
set_read = refl

head_read : (rest : List (List (List ℕ))) (final : Draft) → LeadTo (above [] 0) rest final → LeadTo empty_draft (head_words ++ rest) final
head_read rest final then =
    let set_line : List (List ℕ) = codes "set" ∷ codes "s" ∷ [] in
    let list_line : List (List ℕ) = codes "list" ∷ codes "l" ∷ [] in
    let dict_line : List (List ℕ) = codes "dict" ∷ codes "d" ∷ [] in
    let table_line : List (List ℕ) = codes "tables" ∷ codes "12" ∷ codes "16" ∷ [] in
    say_on _ _ (codes "heap" ∷ codes "4096" ∷ []) (table_line ∷ dict_line ∷ list_line ∷ set_line ∷ rest) heap_read ∙ say_on _ _ table_line (dict_line ∷ list_line ∷ set_line ∷ rest) tables_read
    ∙ say_on _ _ dict_line (list_line ∷ set_line ∷ rest) dict_read ∙ say_on _ _ list_line (set_line ∷ rest) list_read ∙ say_on _ _ set_line rest set_read ∙ then

-- ---- the whole text

dealt_by : (q r : ℕ) → r < 4 → (((q + cond (ltb 0 r) 1 0) + (q + cond (ltb 1 r) 1 0)) + (q + cond (ltb 2 r) 1 0)) + (q + cond (ltb 3 r) 1 0) ≡ q * 4 + r
dealt_by q zero low = omega arith
dealt_by q (suc zero) low = omega arith
dealt_by q (suc (suc zero)) low = omega arith
dealt_by q (suc (suc (suc zero))) low = omega arith
dealt_by q (suc (suc (suc (suc r)))) low = absurd (omega arith)

dealt : (calls : ℕ) → ((share calls 0 + share calls 1) + share calls 2) + share calls 3 ≡ calls
dealt calls = dealt_by (calls / 4) (calls % 4) (omega arith) ∙ omega arith

abbrev calls_by : ℕ → ℕ → List Call
calls_by calls place = made_calls (number_at calls (calls_above calls place)) (share calls place)

count_of : (calls place : ℕ) → length (calls_by calls place) ≡ share calls place
count_of calls place = length-map-range_with_len (λ draws. made_call (number_at (number_at calls (calls_above calls place)) (draws + 1))) 0 (share calls place)

good_share : (calls place : ℕ) → AllByRecursion IsGoodCall (calls_by calls place)
good_share calls place = good_calls (λ draws. number_at (number_at calls (calls_above calls place)) (draws + 1)) (range_with_len 0 (share calls place))

says_by : (words : List (List ℕ)) → AllByRecursion IsPlain words → AreLineWords words
says_by [] h = tt
says_by (word ∷ words) h = (plain_word word h.0, says_by words h.1)

calls_say : (calls : List Call) → AllByRecursion IsGoodCall calls → AreSaying (map (call_words made_head 0) calls)
calls_say [] good = tt
calls_say (called ∷ calls) good = (says_by (call_words made_head 0 called) good.0.plain, calls_say calls good.1)

thread_says : (name : List ℕ) (calls : List Call) → IsPlain name → AllByRecursion IsGoodCall calls → AreSaying (thread_words (thread_of name calls))
thread_says name calls h good = (says_by (opening name) ((refl, refl, refl), (h, tt)), calls_say calls good)

head_says : AreSaying head_words
head_says = (
  says_by (codes "heap" ∷ codes "4096" ∷ []) ((refl, refl, refl), ((refl, refl, refl), tt)),
  (
    says_by (codes "tables" ∷ codes "12" ∷ codes "16" ∷ []) ((refl, refl, refl), ((refl, refl, refl), ((refl, refl, refl), tt))),
    (
      says_by (codes "dict" ∷ codes "d" ∷ []) ((refl, refl, refl), ((refl, refl, refl), tt)),
      (
        says_by (codes "list" ∷ codes "l" ∷ []) ((refl, refl, refl), ((refl, refl, refl), tt)),
        (says_by (codes "set" ∷ codes "s" ∷ []) ((refl, refl, refl), ((refl, refl, refl), tt)), tt),
      ),
    ),
  ),
)

made_says : (calls : ℕ) → AreSaying (head_words ++ flat_map thread_words (made_script calls).threads)
made_says calls =
    let words : ℕ → List (List (List ℕ)) = λ place. thread_words (made_thread calls place) in
    let d : AreSaying (words 3 ++ []) = saying_append (words 3) [] (thread_says (codes "D") (calls_by calls 3) (refl, refl, refl) (good_share calls 3)) tt in
    let c : AreSaying (words 2 ++ (words 3 ++ [])) = saying_append (words 2) (words 3 ++ []) (thread_says (codes "C") (calls_by calls 2) (refl, refl, refl) (good_share calls 2)) d in
    let b : AreSaying (words 1 ++ (words 2 ++ (words 3 ++ []))) = saying_append (words 1) (words 2 ++ (words 3 ++ [])) (thread_says (codes "B") (calls_by calls 1) (refl, refl, refl) (good_share calls 1)) c in
    let a : AreSaying (words 0 ++ (words 1 ++ (words 2 ++ (words 3 ++ [])))) = saying_append (words 0) (words 1 ++ (words 2 ++ (words 3 ++ []))) (thread_says (codes "A") (calls_by calls 0) (refl, refl, refl) (good_share calls 0)) b in
    saying_append head_words (words 0 ++ (words 1 ++ (words 2 ++ (words 3 ++ [])))) head_says a

few_of : (calls : ℕ) → calls ≤ 500000 → ((length (calls_by calls 0) + length (calls_by calls 1)) + length (calls_by calls 2)) + length (calls_by calls 3) ≤ 500000
few_of calls few =
    rw (count_of calls 0, count_of calls 1, count_of calls 2, count_of calls 3) (let all : ((share calls 0 + share calls 1) + share calls 2) + share calls 3 ≡ calls = dealt calls in omega arith)

made_read : (calls : ℕ) → calls ≤ 500000 → (count : ℕ) × LeadTo empty_draft (head_words ++ flat_map thread_words (made_script calls).threads) (above (made_script calls).threads count)
made_read calls few =
    let a = calls_by calls 0 in
    let b = calls_by calls 1 in
    let c = calls_by calls 2 in
    let d = calls_by calls 3 in (
      ((length a + length b) + length c) + length d,
      head_read (flat_map thread_words (four a b c d)) _ (threads_read a b c d (good_share calls 0) (good_share calls 1) (good_share calls 2) (good_share calls 3) (few_of calls few)),
    )

pub made_scripts : (calls : ℕ) → calls ≤ 500000 → read_script (made_text calls) ≡ Ok (made_script calls)
made_scripts calls few =
    let lines : List (List (List ℕ)) = head_words ++ flat_map thread_words (made_script calls).threads in
    let read = made_read calls few in
    said_script (made_text calls) lines (above (made_script calls).threads read.0) (text_encoded lines (made_says calls)) (said_back lines (made_says calls)) read.1
