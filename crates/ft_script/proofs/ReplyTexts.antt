-- Replies that are printed, and read back.
use Rattle.std.proofs.Common.{◌≡◌, ◌≢◌, cond, ℕ, pos, negsuc, ◌-◌, ◌^◌, ◌<◌, ◌≤◌, Bool, true, false, not, List, [], ◌∷◌, ◌++◌, length, map, Some, None, Result, Ok, refl, sym, ap, ◌∙◌, subst, inl, inr, arith, append_assoc}
use Rattle.std.specs.Prelude.{All, AllPairs, codes}
use Rattle.std.specs.List.{list_all, flat_map}
use Rattle.std.specs.Fmt.{decimal}
use Rattle.std.specs.Str.{bytes_eq}
use Rattle.std.proofs.Math.Seq.{take-append_seam}
use Rattle.std.proofs.lemmas.Bool.{and_from, le-leb, ne_eqb}
use Rattle.std.proofs.lemmas.List.{length-append}
use Rattle.std.proofs.lemmas.List.Elements.{All-head, All-tail}
use Rattle.std.proofs.lemmas.List.Folds.{list_all-append}
use Rattle.ft_model.specs.declared.data.Key.{Key}
use Rattle.ft_model.specs.declared.data.Value.{Value}
use Rattle.ft_model.specs.declared.data.Value.TheVariants as value
use Rattle.ft_model.specs.declared.reply.Raise.{Raise}
use Rattle.ft_model.specs.declared.reply.Raise.TheVariants as raise
use Rattle.ft_model.specs.declared.reply.Reply.{Reply}
use Rattle.ft_model.specs.declared.reply.Reply.TheVariants as reply
use Rattle.ft_model.specs.declared.script.ScriptParts.{ScriptParts}
use Rattle.ft_model.specs.Parts.{IsReplyOf}
use Rattle.ft_model.specs.Scripts.{IsKeyOf, IsValueOf}
use Rattle.ft_model.specs.Classes.{least_class, greatest_class}
use Rattle.ft_script.specs.declared.fault.Fault.{Fault}
use Rattle.ft_script.specs.declared.reply_words.ReplyWord.{ReplyWord}
use Rattle.ft_script.specs.declared.reply_words.ReplyWord.TheVariants as word
use Rattle.ft_script.specs.Internal.Candidates.{known_key, known_value, known_pair, read_each, read_pairs, reply_word_text, read_reply_word, read_suspended, read_runtime_error, read_class_error, read_memory_error, has_pairs, read_braced, but_last, worded_reply, counted_reply, shown_reply, first_reply, read_reply}
use Rattle.ft_script.specs.Drafts.{◌>>=◌}
use Rattle.ft_script.specs.Texts.{key_text, value_text, pair_text, listed, raise_text, reply_text}
use Rattle.ft_script.specs.Internal.Tokens.{tokens_of}
use Rattle.ft_script.specs.Transcripts.{IsWideKey, IsWideValue, IsWideReply, IsReadableReply}
use Rattle.ft_script.specs.LineWords.{is_wide}
use Rattle.ft_script.proofs.PartTexts.{BeginsNumber, BeginsShown, number_shown, decimal_word, u32_decimal, key_back, value_back, pair_back, key_is_cut, value_is_cut, key_begins, value_begins}
use Rattle.ft_script.proofs.Printed.{each_listed, listed-cons}
use Rattle.ft_script.proofs.ReplyLoops.{fronted, each_first, each_nothing, pairs_first}
use Rattle.ft_script.proofs.TokenTexts.{Ends, is_feedless, IsCut, IsTail, cut_tail, tail_tail, nothing, after_space, after_comma, after_colon, between_marks, word_is_cut}

-- ---- the tokens of a reply

abbrev pub pair_tokens : List (List ℕ) → Key × Value → List (List ℕ)
pair_tokens strings pair = key_text strings pair.0 ∷ codes ":" ∷ value_text strings pair.1 ∷ []

abbrev pub raise_tokens : Raise → List (List ℕ)
raise_tokens raise.NoKey = codes "KeyError" ∷ []
raise_tokens raise.NoIndex = codes "IndexError" ∷ []
raise_tokens raise.NoValue = codes "ValueError" ∷ []
raise_tokens raise.Size = codes "RuntimeError" ∷ codes "size" ∷ []
raise_tokens raise.Keys = codes "RuntimeError" ∷ codes "keys" ∷ []
raise_tokens raise.Moved = codes "RuntimeError" ∷ codes "moved" ∷ []
raise_tokens (raise.Memory class) = codes "MemoryError" ∷ decimal class ∷ []
raise_tokens raise.Over = codes "MemoryError" ∷ codes "over" ∷ []
raise_tokens raise.Heap = codes "MemoryError" ∷ codes "heap" ∷ []

abbrev pub reply_tokens : List (List ℕ) → Reply → List (List ℕ)
reply_tokens strings reply.Done = codes "ok" ∷ []
reply_tokens strings (reply.Value found) = value_text strings found ∷ []
reply_tokens strings (reply.Pair first second) = pair_tokens strings (first, second)
reply_tokens strings (reply.Truth true) = codes "True" ∷ []
reply_tokens strings (reply.Truth false) = codes "False" ∷ []
reply_tokens strings (reply.Count count) = decimal count ∷ []
reply_tokens strings (reply.Dict pairs) = codes "{" ∷ flat_map (pair_tokens strings) pairs ++ codes "}" ∷ []
reply_tokens strings (reply.List items) = codes "[" ∷ map (value_text strings) items ++ codes "]" ∷ []
reply_tokens strings (reply.Set []) = codes "set()" ∷ []
reply_tokens strings (reply.Set (element ∷ elements)) = codes "{" ∷ map (key_text strings) (element ∷ elements) ++ codes "}" ∷ []
reply_tokens strings (reply.World world) = codes "world" ∷ []
reply_tokens strings reply.Stop = codes "StopIteration" ∷ []
reply_tokens strings reply.Entered = codes "entered" ∷ []
reply_tokens strings reply.Kept = codes "kept" ∷ []
reply_tokens strings (reply.Suspended count) = codes "suspended" ∷ decimal count ∷ []
reply_tokens strings (reply.Raised raised) = raise_tokens raised

-- ---- cutting

-- what is listed
record AreCut (text : List ℕ) (tokens : List (List ℕ)) : Type 0 where
  cut : (rest : List ℕ) → Ends rest → tokens_of (text ++ rest) ≡ tokens ++ tokens_of rest
  feedless : is_feedless text ≡ true

module _ {X : Type 0} (text : X → List ℕ) (tokens : X → List (List ℕ)) (P : X → Type 0) (each : (x : X) → P x → IsCut (text x) (tokens x)) where
  listed_tail : (xs : List X) → All P xs → IsTail (each_listed text xs) (flat_map tokens xs)
  listed_tail [] all = nothing
  listed_tail (x ∷ xs) all = tail_tail (44 ∷ 32 ∷ text x) (each_listed text xs) (tokens x) (flat_map tokens xs) (after_comma (text x) (tokens x) (each x (All-head P x xs all))) (listed_tail xs (All-tail P x xs all))

  listed_cut : (xs : List X) → All P xs → AreCut (listed (map text xs)) (flat_map tokens xs)
  listed_cut [] all = record { cut = λ rest ends. refl; feedless = refl }
  listed_cut (x ∷ xs) all =
      let h : IsCut (text x ++ each_listed text xs) (tokens x ++ flat_map tokens xs) = cut_tail (text x) (each_listed text xs) (tokens x) (flat_map tokens xs) (each x (All-head P x xs all)) (listed_tail xs (All-tail P x xs all)) in
      let e : listed (map text (x ∷ xs)) ≡ text x ++ each_listed text xs = listed-cons text x xs in
      record {
        cut = λ rest ends. ap (λ (t : List ℕ). tokens_of (t ++ rest)) e ∙ h.cut rest ends;
        feedless = ap is_feedless e ∙ h.feedless;
      }

singly : {X : Type 0} (text : X → List ℕ) (xs : List X) → flat_map (λ x. text x ∷ []) xs ≡ map text xs
singly text [] = refl
singly text (x ∷ xs) = ap (λ (l : List (List ℕ)). text x ∷ l) (singly text xs)

pair_is_cut : (strings : List (List ℕ)) (pair : Key × Value) → IsWideKey pair.0 × IsWideValue pair.1 → IsCut (pair_text strings pair) (pair_tokens strings pair)
pair_is_cut strings pair wide =
    let k : List ℕ = key_text strings pair.0 in
    let v : List ℕ = value_text strings pair.1 in
    let h : IsCut (k ++ (58 ∷ 32 ∷ v)) (pair_tokens strings pair) = cut_tail k (58 ∷ 32 ∷ v) (k ∷ []) (codes ":" ∷ v ∷ []) (key_is_cut strings pair.0 wide.0) (after_colon v (v ∷ []) (value_is_cut strings pair.1 wide.1)) in
    subst (λ (t : List ℕ). IsCut t (pair_tokens strings pair)) (sym (append_assoc k (codes ": ") v)) h

two_words : (first second : List ℕ) → IsCut first (first ∷ []) → IsCut second (second ∷ []) → IsCut (first ++ 32 ∷ second) (first ∷ second ∷ [])
two_words first second hf hs = cut_tail first (32 ∷ second) (first ∷ []) (second ∷ []) hf (after_space second (second ∷ []) hs)

decimal_is_cut : (n : ℕ) → n < 2 ^ 64 → IsCut (decimal n) (decimal n ∷ [])
decimal_is_cut n low = word_is_cut (decimal n) (decimal_word n low).0

raise_is_cut : (counted : Bool) (raised : Raise) → IsReadableReply counted (reply.Raised raised) → IsCut (raise_text raised) (raise_tokens raised)
raise_is_cut counted raise.NoKey h = word_is_cut (codes "KeyError") (refl, refl)
raise_is_cut counted raise.NoIndex h = word_is_cut (codes "IndexError") (refl, refl)
raise_is_cut counted raise.NoValue h = word_is_cut (codes "ValueError") (refl, refl)
raise_is_cut counted raise.Size h = two_words (codes "RuntimeError") (codes "size") (word_is_cut (codes "RuntimeError") (refl, refl)) (word_is_cut (codes "size") (refl, refl))
raise_is_cut counted raise.Keys h = two_words (codes "RuntimeError") (codes "keys") (word_is_cut (codes "RuntimeError") (refl, refl)) (word_is_cut (codes "keys") (refl, refl))
raise_is_cut counted raise.Moved h = absurd h
raise_is_cut counted (raise.Memory class) h = let high : class ≤ greatest_class = h.1 in two_words (codes "MemoryError") (decimal class) (word_is_cut (codes "MemoryError") (refl, refl)) (decimal_is_cut class (omega arith))
raise_is_cut counted raise.Over h = two_words (codes "MemoryError") (codes "over") (word_is_cut (codes "MemoryError") (refl, refl)) (word_is_cut (codes "over") (refl, refl))
raise_is_cut counted raise.Heap h = two_words (codes "MemoryError") (codes "heap") (word_is_cut (codes "MemoryError") (refl, refl)) (word_is_cut (codes "heap") (refl, refl))

pub reply_is_cut : (script : ScriptParts) (counted : Bool) (said : Reply) → IsWideReply said → IsReadableReply counted said → IsCut (reply_text script said) (reply_tokens script.strings said)
reply_is_cut script counted reply.Done wide h = word_is_cut (codes "ok") (refl, refl)
reply_is_cut script counted (reply.Value found) wide h = value_is_cut script.strings found wide
reply_is_cut script counted (reply.Pair first second) wide h = pair_is_cut script.strings (first, second) wide
reply_is_cut script counted (reply.Truth true) wide h = word_is_cut (codes "True") (refl, refl)
reply_is_cut script counted (reply.Truth false) wide h = word_is_cut (codes "False") (refl, refl)
reply_is_cut script counted (reply.Count count) wide h = let low : count < 2 ^ 63 = h.1 in decimal_is_cut count (omega arith)
reply_is_cut script counted (reply.Dict pairs) wide h =
    let all = listed_cut (pair_text script.strings) (pair_tokens script.strings) (λ pair. IsWideKey pair.0 × IsWideValue pair.1) (pair_is_cut script.strings) pairs wide in
    between_marks 123 125 (listed (map (pair_text script.strings) pairs)) (flat_map (pair_tokens script.strings) pairs) refl refl refl refl refl refl all.cut all.feedless
reply_is_cut script counted (reply.List items) wide h =
    let all = listed_cut (value_text script.strings) (λ found. value_text script.strings found ∷ []) IsWideValue (value_is_cut script.strings) items wide in
    let e = singly (value_text script.strings) items in
    between_marks 91 93 (listed (map (value_text script.strings) items)) (map (value_text script.strings) items) refl refl refl refl refl refl (λ rest ends. all.cut rest ends ∙ ap (λ (l : List (List ℕ)). l ++ tokens_of rest) e) all.feedless
reply_is_cut script counted (reply.Set []) wide h = word_is_cut (codes "set()") (refl, refl)
reply_is_cut script counted (reply.Set (element ∷ elements)) wide h =
    let all = listed_cut (key_text script.strings) (λ found. key_text script.strings found ∷ []) IsWideKey (key_is_cut script.strings) (element ∷ elements) wide in
    let e = singly (key_text script.strings) (element ∷ elements) in
    between_marks 123 125 (listed (map (key_text script.strings) (element ∷ elements))) (map (key_text script.strings) (element ∷ elements)) refl refl refl refl refl refl (λ rest ends. all.cut rest ends ∙ ap (λ (l : List (List ℕ)). l ++ tokens_of rest) e) all.feedless
reply_is_cut script counted (reply.World world) wide h = absurd h
reply_is_cut script counted reply.Stop wide h = word_is_cut (codes "StopIteration") (refl, refl)
reply_is_cut script counted reply.Entered wide h = word_is_cut (codes "entered") (refl, refl)
reply_is_cut script counted reply.Kept wide h = word_is_cut (codes "kept") (refl, refl)
reply_is_cut script counted (reply.Suspended count) wide h = let low : count < 2 ^ 32 = wide in two_words (codes "suspended") (decimal count) (word_is_cut (codes "suspended") (refl, refl)) (decimal_is_cut count (omega arith))
reply_is_cut script counted (reply.Raised raised) wide h = raise_is_cut counted raised h

-- ---- reading back

word_back : (w : ReplyWord) → read_reply_word (reply_word_text w) ≡ Some w
unfolding read_reply_word
word_back word.Done = refl
word_back word.True = refl
word_back word.False = refl
word_back word.Stop = refl
word_back word.Entered = refl
word_back word.Kept = refl
word_back word.Suspended = refl
word_back word.KeyError = refl
word_back word.IndexError = refl
word_back word.ValueError = refl
word_back word.RuntimeError = refl
word_back word.MemoryError = refl
word_back word.NoElements = refl
word_back word.Brace = refl
word_back word.Bracket = refl

no_word : (token : List ℕ) → BeginsShown token → read_reply_word token ≡ None
unfolding read_reply_word
no_word [] h = absurd h
no_word (b ∷ bytes) (inl low) =
    rw (ne_eqb 111 b (λ e. omega arith), ne_eqb 84 b (λ e. omega arith), ne_eqb 70 b (λ e. omega arith), ne_eqb 83 b (λ e. omega arith), ne_eqb 101 b (λ e. omega arith), ne_eqb 107 b (λ e. omega arith), ne_eqb 115 b (λ e. omega arith), ne_eqb 75 b (λ e. omega arith), ne_eqb 73 b (λ e. omega arith), ne_eqb 86 b (λ e. omega arith), ne_eqb 82 b (λ e. omega arith), ne_eqb 77 b (λ e. omega arith), ne_eqb 123 b (λ e. omega arith), ne_eqb 91 b (λ e. omega arith)) refl
no_word (b ∷ bytes) (inr is) = rw is refl

by_word : (strings : List (List ℕ)) (counted : Bool) (w : ReplyWord) (tokens : List (List ℕ)) → read_reply strings counted (reply_word_text w ∷ tokens) ≡ worded_reply strings w tokens
unfolding read_reply first_reply
by_word strings counted w tokens = rw (word_back w) refl

by_none : (strings : List (List ℕ)) (counted : Bool) (first : List ℕ) (tokens : List (List ℕ)) → BeginsShown first → read_reply strings counted (first ∷ tokens) ≡ shown_reply strings counted first tokens
unfolding read_reply first_reply
by_none strings counted first tokens h = rw (no_word first h) refl

each_back : {X : Type 0} (read : List ℕ → Result X Fault) (text : X → List ℕ) (P : X → Type 0) → ((x : X) → P x → read (text x) ≡ Ok x) → (xs : List X) → All P xs → read_each read (map text xs) ≡ Ok xs
each_back read text P each [] all = each_nothing read
each_back {X = X} read text P each (x ∷ xs) all =
    each_first read (text x) (map text xs) (Ok x) (each x (All-head P x xs all)) ∙ ap (λ (r : Result (List X) Fault). fronted r x) (each_back read text P each xs (All-tail P x xs all))

abbrev IsPairOf : ℕ → Key × Value → Type 0
IsPairOf n pair = (IsKeyOf n pair.0 × IsValueOf n pair.1) × (IsWideKey pair.0 × IsWideValue pair.1)

pairs_back : (strings : List (List ℕ)) → AllPairs (λ a b. a ≢ b) strings → (pairs : List (Key × Value)) → All (IsPairOf (length strings)) pairs → read_pairs strings (flat_map (pair_tokens strings) pairs) ≡ Ok pairs
unfolding read_pairs
pairs_back strings differ [] all = refl
pairs_back strings differ (pair ∷ pairs) all =
    let P : Key × Value → Type 0 = IsPairOf (length strings) in
    let h : P pair = All-head P pair pairs all in
    pairs_first strings (key_text strings pair.0) (codes ":") (value_text strings pair.1) (flat_map (pair_tokens strings) pairs) (Ok pair) (pair_back strings pair.0 pair.1 differ h.0.0 h.1.0 h.0.1 h.1.1)
    ∙ ap (λ (r : Result (List (Key × Value)) Fault). fronted r pair) (pairs_back strings differ pairs (All-tail P pair pairs all))

front_back : (tokens : List (List ℕ)) (close : List ℕ) → but_last (tokens ++ close ∷ []) ≡ tokens
front_back tokens close =
    let n : length (tokens ++ close ∷ []) - 1 ≡ length tokens = omega (arith, length-append tokens (close ∷ [])) in
    rw n (take-append_seam tokens (close ∷ []))

pairs_have : (strings : List (List ℕ)) (pairs : List (Key × Value)) → has_pairs (flat_map (pair_tokens strings) pairs) ≡ true
pairs_have strings [] = refl
pairs_have strings (pair ∷ pairs) = refl

no_colon : (token : List ℕ) → BeginsShown token → bytes_eq token (codes ":") ≡ false
no_colon [] h = absurd h
no_colon (b ∷ bytes) (inl low) = rw (ne_eqb b 58 (λ e. omega arith)) refl
no_colon (b ∷ bytes) (inr is) = rw is refl

elements_have : (strings : List (List ℕ)) (element : Key) (elements : List Key) → All IsWideKey (element ∷ elements) → has_pairs (map (key_text strings) (element ∷ elements)) ≡ false
elements_have strings element [] wide = refl
elements_have strings element (next ∷ elements) wide = no_colon (key_text strings next) (key_begins strings next (All-head IsWideKey next elements (All-tail IsWideKey element (next ∷ elements) wide)))

abbrev dict_reply : List (Key × Value) → Result Reply Fault
dict_reply pairs = Ok (reply.Dict pairs)

abbrev set_reply : List Key → Result Reply Fault
set_reply elements = Ok (reply.Set elements)

abbrev list_reply : List Value → Result Reply Fault
list_reply items = Ok (reply.List items)

braced_by : (strings tokens : List (List ℕ)) (pairs : Bool) → has_pairs tokens ≡ pairs → read_braced strings tokens ≡ cond pairs (read_pairs strings tokens >>= dict_reply) (read_each (known_key strings) tokens >>= set_reply)
unfolding read_braced
braced_by strings tokens pairs is = rw is refl

worded_brace : (strings tokens : List (List ℕ)) → worded_reply strings word.Brace tokens ≡ read_braced strings (but_last tokens)
unfolding worded_reply
worded_brace strings tokens = refl

worded_bracket : (strings tokens : List (List ℕ)) → worded_reply strings word.Bracket tokens ≡ (read_each (known_value strings) (but_last tokens) >>= list_reply)
unfolding worded_reply
worded_bracket strings tokens = refl

all_both : {X : Type 0} (P Q : X → Type 0) (xs : List X) → All P xs → All Q xs → All (λ x. P x × Q x) xs
all_both P Q xs p q k d low = (p k d low, q k d low)

dict_back : (strings : List (List ℕ)) (counted : Bool) (pairs : List (Key × Value)) → AllPairs (λ a b. a ≢ b) strings → IsReplyOf (length strings) (reply.Dict pairs) → IsWideReply (reply.Dict pairs) → read_reply strings counted (reply_tokens strings (reply.Dict pairs)) ≡ Ok (reply.Dict pairs)
dict_back strings counted pairs differ of wide =
    let tokens : List (List ℕ) = flat_map (pair_tokens strings) pairs in
    by_word strings counted word.Brace (tokens ++ codes "}" ∷ []) ∙ worded_brace strings (tokens ++ codes "}" ∷ []) ∙ ap (read_braced strings) (front_back tokens (codes "}"))
    ∙ braced_by strings tokens true (pairs_have strings pairs)
    ∙ ap (λ (r : Result (List (Key × Value)) Fault). r >>= dict_reply) (pairs_back strings differ pairs (λ k d low. (of k d low, wide k d low)))

set_back : (strings : List (List ℕ)) (counted : Bool) (element : Key) (elements : List Key) → AllPairs (λ a b. a ≢ b) strings → All (IsKeyOf (length strings)) (element ∷ elements) → All IsWideKey (element ∷ elements) → read_reply strings counted (reply_tokens strings (reply.Set (element ∷ elements))) ≡ Ok (reply.Set (element ∷ elements))
set_back strings counted element elements differ of wide =
    let keys : List Key = element ∷ elements in
    let tokens : List (List ℕ) = map (key_text strings) keys in
    let P : Key → Type 0 = λ k. IsKeyOf (length strings) k × IsWideKey k in
    by_word strings counted word.Brace (tokens ++ codes "}" ∷ []) ∙ worded_brace strings (tokens ++ codes "}" ∷ []) ∙ ap (read_braced strings) (front_back tokens (codes "}"))
    ∙ braced_by strings tokens false (elements_have strings element elements wide)
    ∙ ap (λ (r : Result (List Key) Fault). r >>= set_reply) (each_back (known_key strings) (key_text strings) P (λ k h. key_back strings k differ h.0 h.1) keys (λ k d low. (of k d low, wide k d low)))

list_back : (strings : List (List ℕ)) (counted : Bool) (items : List Value) → AllPairs (λ a b. a ≢ b) strings → All (IsValueOf (length strings)) items → All IsWideValue items → read_reply strings counted (reply_tokens strings (reply.List items)) ≡ Ok (reply.List items)
list_back strings counted items differ of wide =
    let tokens : List (List ℕ) = map (value_text strings) items in
    let P : Value → Type 0 = λ v. IsValueOf (length strings) v × IsWideValue v in
    by_word strings counted word.Bracket (tokens ++ codes "]" ∷ []) ∙ worded_bracket strings (tokens ++ codes "]" ∷ [])
    ∙ ap (λ (l : List (List ℕ)). read_each (known_value strings) l >>= list_reply) (front_back tokens (codes "]"))
    ∙ ap (λ (r : Result (List Value) Fault). r >>= list_reply) (each_back (known_value strings) (value_text strings) P (λ v h. value_back strings v differ h.0 h.1) items (λ k d low. (of k d low, wide k d low)))

counted_is : (counted : Bool) (found : Value) → IsReadableReply counted (reply.Value found) → counted_reply counted found ≡ reply.Value found
counted_is true value.Nothing h = refl
counted_is true (value.Int (pos n)) h = absurd (let bad : true ≡ false = h n refl in cc)
counted_is true (value.Int (negsuc n)) h = refl
counted_is true (value.Text symbol) h = refl
counted_is false found h = refl

abbrev one_reply : Bool → Value → Result Reply Fault
one_reply counted found = Ok (counted_reply counted found)

shown_one : (strings : List (List ℕ)) (counted : Bool) (first : List ℕ) (found : Value) → known_value strings first ≡ Ok found → shown_reply strings counted first [] ≡ Ok (counted_reply counted found)
unfolding shown_reply
shown_one strings counted first found is = ap (λ (r : Result Value Fault). r >>= one_reply counted) is

abbrev pair_reply : Key × Value → Result Reply Fault
pair_reply pair = Ok (reply.Pair pair.0 pair.1)

shown_two : (strings : List (List ℕ)) (counted : Bool) (first colon second : List ℕ) (pair : Key × Value) → known_pair strings first second ≡ Ok pair → shown_reply strings counted first (colon ∷ second ∷ []) ≡ Ok (reply.Pair pair.0 pair.1)
unfolding shown_reply
shown_two strings counted first colon second pair is = ap (λ (r : Result (Key × Value) Fault). r >>= pair_reply) is

abbrev done : Reply → Result Reply Fault
done said = Ok said

worded_suspended : (strings : List (List ℕ)) (count : ℕ) → count < 2 ^ 32 → worded_reply strings word.Suspended (decimal count ∷ []) ≡ Ok (reply.Suspended count)
unfolding worded_reply read_suspended
worded_suspended strings count low = rw (u32_decimal count low) refl

no_over : (token : List ℕ) → BeginsNumber token → bytes_eq token (codes "over") ≡ false
no_over [] h = absurd h
no_over (b ∷ bytes) h = let high : b ≤ 57 = h.1 in rw (ne_eqb b 111 (λ e. omega arith)) refl

no_heap : (token : List ℕ) → BeginsNumber token → bytes_eq token (codes "heap") ≡ false
no_heap [] h = absurd h
no_heap (b ∷ bytes) h = let high : b ≤ 57 = h.1 in rw (ne_eqb b 104 (λ e. omega arith)) refl

class_back : (class : ℕ) → least_class ≤ class → class ≤ greatest_class → read_class_error (decimal class) ≡ Ok (raise.Memory class)
unfolding read_class_error
class_back class low high = rw (u32_decimal class (omega arith), le-leb least_class class low, le-leb class greatest_class high) refl

memory_back : (class : ℕ) → least_class ≤ class → class ≤ greatest_class → read_memory_error (decimal class ∷ []) ≡ Ok (raise.Memory class)
unfolding read_memory_error
memory_back class low high =
    let begins : BeginsNumber (decimal class) = (decimal_word class (omega arith)).1 in
    rw (no_over (decimal class) begins, no_heap (decimal class) begins) (class_back class low high)

abbrev raised_reply : Raise → Result Reply Fault
raised_reply raised = Ok (reply.Raised raised)

worded_memory : (strings tokens : List (List ℕ)) (raised : Raise) → read_memory_error tokens ≡ Ok raised → worded_reply strings word.MemoryError tokens ≡ Ok (reply.Raised raised)
unfolding worded_reply
worded_memory strings tokens raised is = ap (λ (r : Result Raise Fault). r >>= raised_reply) is

over_back : read_memory_error (codes "over" ∷ []) ≡ Ok raise.Over
unfolding read_memory_error
over_back = refl

heap_back : read_memory_error (codes "heap" ∷ []) ≡ Ok raise.Heap
unfolding read_memory_error
heap_back = refl

worded_runtime : (strings tokens : List (List ℕ)) (raised : Raise) → read_runtime_error tokens ≡ Ok raised → worded_reply strings word.RuntimeError tokens ≡ Ok (reply.Raised raised)
unfolding worded_reply
worded_runtime strings tokens raised is = ap (λ (r : Result Raise Fault). r >>= raised_reply) is

size_back : read_runtime_error (codes "size" ∷ []) ≡ Ok raise.Size
unfolding read_runtime_error
size_back = refl

keys_back : read_runtime_error (codes "keys" ∷ []) ≡ Ok raise.Keys
unfolding read_runtime_error
keys_back = refl

raise_back : (strings : List (List ℕ)) (counted : Bool) (raised : Raise) → IsReadableReply counted (reply.Raised raised) → read_reply strings counted (raise_tokens raised) ≡ Ok (reply.Raised raised)
unfolding worded_reply
raise_back strings counted raise.NoKey h = by_word strings counted word.KeyError []
raise_back strings counted raise.NoIndex h = by_word strings counted word.IndexError []
raise_back strings counted raise.NoValue h = by_word strings counted word.ValueError []
raise_back strings counted raise.Size h = by_word strings counted word.RuntimeError (codes "size" ∷ []) ∙ worded_runtime strings (codes "size" ∷ []) raise.Size size_back
raise_back strings counted raise.Keys h = by_word strings counted word.RuntimeError (codes "keys" ∷ []) ∙ worded_runtime strings (codes "keys" ∷ []) raise.Keys keys_back
raise_back strings counted raise.Moved h = absurd h
raise_back strings counted (raise.Memory class) h = by_word strings counted word.MemoryError (decimal class ∷ []) ∙ worded_memory strings (decimal class ∷ []) (raise.Memory class) (memory_back class h.0 h.1)
raise_back strings counted raise.Over h = by_word strings counted word.MemoryError (codes "over" ∷ []) ∙ worded_memory strings (codes "over" ∷ []) raise.Over over_back
raise_back strings counted raise.Heap h = by_word strings counted word.MemoryError (codes "heap" ∷ []) ∙ worded_memory strings (codes "heap" ∷ []) raise.Heap heap_back

count_wide : (n : ℕ) → n < 2 ^ 63 → is_wide (pos n) ≡ true
count_wide n low = le-leb n (2 ^ 63 - 1) (omega arith)

pub reply_back : (strings : List (List ℕ)) (counted : Bool) (said : Reply) → AllPairs (λ a b. a ≢ b) strings → IsReplyOf (length strings) said → IsWideReply said → IsReadableReply counted said → read_reply strings counted (reply_tokens strings said) ≡ Ok said
unfolding worded_reply
reply_back strings counted reply.Done differ of wide h = by_word strings counted word.Done []
reply_back strings counted (reply.Value found) differ of wide h =
    by_none strings counted (value_text strings found) [] (value_begins strings found wide) ∙ shown_one strings counted (value_text strings found) found (value_back strings found differ of wide) ∙ ap done (counted_is counted found h)
reply_back strings counted (reply.Pair first second) differ of wide h =
    by_none strings counted (key_text strings first) (codes ":" ∷ value_text strings second ∷ []) (key_begins strings first wide.0)
    ∙ shown_two strings counted (key_text strings first) (codes ":") (value_text strings second) (first, second) (pair_back strings first second differ of.0 wide.0 of.1 wide.1)
reply_back strings counted (reply.Truth true) differ of wide h = by_word strings counted word.True []
reply_back strings counted (reply.Truth false) differ of wide h = by_word strings counted word.False []
reply_back strings counted (reply.Count count) differ of wide h =
    let w : is_wide (pos count) ≡ true = count_wide count h.1 in
    let is : counted ≡ true = h.0 in
    by_none strings counted (decimal count) [] (value_begins strings (value.Int (pos count)) w)
    ∙ shown_one strings counted (decimal count) (value.Int (pos count)) (value_back strings (value.Int (pos count)) differ tt w) ∙ rw is refl
reply_back strings counted (reply.Dict pairs) differ of wide h = dict_back strings counted pairs differ of wide
reply_back strings counted (reply.List items) differ of wide h = list_back strings counted items differ of wide
reply_back strings counted (reply.Set []) differ of wide h = by_word strings counted word.NoElements []
reply_back strings counted (reply.Set (element ∷ elements)) differ of wide h = set_back strings counted element elements differ of wide
reply_back strings counted (reply.World world) differ of wide h = absurd h
reply_back strings counted reply.Stop differ of wide h = by_word strings counted word.Stop []
reply_back strings counted reply.Entered differ of wide h = by_word strings counted word.Entered []
reply_back strings counted reply.Kept differ of wide h = by_word strings counted word.Kept []
reply_back strings counted (reply.Suspended count) differ of wide h = by_word strings counted word.Suspended (decimal count ∷ []) ∙ worded_suspended strings count wide
reply_back strings counted (reply.Raised raised) differ of wide h = raise_back strings counted raised h

-- ---- no token of a reply is `waited`

abbrev is_other : List ℕ → Bool
is_other token = not (bytes_eq token (codes "waited"))

abbrev pub NoneWaited : List (List ℕ) → Type 0
NoneWaited tokens = list_all is_other tokens ≡ true

shown_other : (token : List ℕ) → BeginsShown token → is_other token ≡ true
shown_other [] h = absurd h
shown_other (b ∷ bytes) (inl low) = rw (ne_eqb b 119 (λ e. omega arith)) refl
shown_other (b ∷ bytes) (inr is) = rw is refl

number_other : (n : ℕ) → n < 2 ^ 64 → is_other (decimal n) ≡ true
number_other n low = shown_other (decimal n) (number_shown (decimal n) (decimal_word n low).1)

mapped_other : {X : Type 0} (text : X → List ℕ) (P : X → Type 0) → ((x : X) → P x → BeginsShown (text x)) → (xs : List X) → All P xs → NoneWaited (map text xs)
mapped_other text P begins [] all = refl
mapped_other text P begins (x ∷ xs) all = and_from (is_other (text x)) (list_all is_other (map text xs)) (shown_other (text x) (begins x (All-head P x xs all))) (mapped_other text P begins xs (All-tail P x xs all))

pairs_other : (strings : List (List ℕ)) (pairs : List (Key × Value)) → IsWideReply (reply.Dict pairs) → NoneWaited (flat_map (pair_tokens strings) pairs)
pairs_other strings [] wide = refl
pairs_other strings (pair ∷ pairs) wide =
    let P : Key × Value → Type 0 = λ p. IsWideKey p.0 × IsWideValue p.1 in
    let h : P pair = All-head P pair pairs wide in
    and_from (is_other (key_text strings pair.0)) _ (shown_other (key_text strings pair.0) (key_begins strings pair.0 h.0))
    (and_from (is_other (value_text strings pair.1)) (list_all is_other (flat_map (pair_tokens strings) pairs)) (shown_other (value_text strings pair.1) (value_begins strings pair.1 h.1)) (pairs_other strings pairs (All-tail P pair pairs wide)))

closed_other : (tokens : List (List ℕ)) (close : List ℕ) → NoneWaited tokens → is_other close ≡ true → NoneWaited (tokens ++ close ∷ [])
closed_other tokens close h is = list_all-append is_other tokens (close ∷ []) ∙ and_from (list_all is_other tokens) (list_all is_other (close ∷ [])) h (and_from (is_other close) true is refl)

raise_other : (counted : Bool) (raised : Raise) → IsReadableReply counted (reply.Raised raised) → NoneWaited (raise_tokens raised)
raise_other counted raise.NoKey h = refl
raise_other counted raise.NoIndex h = refl
raise_other counted raise.NoValue h = refl
raise_other counted raise.Size h = refl
raise_other counted raise.Keys h = refl
raise_other counted raise.Moved h = absurd h
raise_other counted (raise.Memory class) h = let high : class ≤ greatest_class = h.1 in and_from (is_other (decimal class)) true (number_other class (omega arith)) refl
raise_other counted raise.Over h = refl
raise_other counted raise.Heap h = refl

pub reply_other : (strings : List (List ℕ)) (counted : Bool) (said : Reply) → IsWideReply said → IsReadableReply counted said → NoneWaited (reply_tokens strings said)
reply_other strings counted reply.Done wide h = refl
reply_other strings counted (reply.Value found) wide h = and_from (is_other (value_text strings found)) true (shown_other (value_text strings found) (value_begins strings found wide)) refl
reply_other strings counted (reply.Pair first second) wide h =
    and_from (is_other (key_text strings first)) _ (shown_other (key_text strings first) (key_begins strings first wide.0)) (and_from (is_other (value_text strings second)) true (shown_other (value_text strings second) (value_begins strings second wide.1)) refl)
reply_other strings counted (reply.Truth true) wide h = refl
reply_other strings counted (reply.Truth false) wide h = refl
reply_other strings counted (reply.Count count) wide h = let low : count < 2 ^ 63 = h.1 in and_from (is_other (decimal count)) true (number_other count (omega arith)) refl
reply_other strings counted (reply.Dict pairs) wide h = closed_other (flat_map (pair_tokens strings) pairs) (codes "}") (pairs_other strings pairs wide) refl
reply_other strings counted (reply.List items) wide h = closed_other (map (value_text strings) items) (codes "]") (mapped_other (value_text strings) IsWideValue (value_begins strings) items wide) refl
reply_other strings counted (reply.Set []) wide h = refl
reply_other strings counted (reply.Set (element ∷ elements)) wide h = closed_other (map (key_text strings) (element ∷ elements)) (codes "}") (mapped_other (key_text strings) IsWideKey (key_begins strings) (element ∷ elements) wide) refl
reply_other strings counted (reply.World world) wide h = absurd h
reply_other strings counted reply.Stop wide h = refl
reply_other strings counted reply.Entered wide h = refl
reply_other strings counted reply.Kept wide h = refl
reply_other strings counted (reply.Suspended count) wide h = let low : count < 2 ^ 32 = wide in and_from (is_other (decimal count)) true (number_other count (omega arith)) refl
reply_other strings counted (reply.Raised raised) wide h = raise_other counted raised h
