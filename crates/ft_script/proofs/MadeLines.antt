-- The lines that the generator adds, one after the other.
use Rattle.std.proofs.Common.{◌≡◌, ℕ, zero, suc, ◌+◌, ◌≤◌, List, [], ◌∷◌, ◌++◌, map, sum, sym, ap, ◌∙◌, arith, append_assoc}
use Rattle.std.specs.Prelude.{codes}
use Rattle.std.specs.List.{flat_map, range_with_len, sum_by}
use Rattle.std.proofs.lemmas.List.{append-nil, map-append, map-id}
use Rattle.std.proofs.lemmas.List.Concat.{flat_map-append}
use Rattle.std.proofs.lemmas.List.FromFn.{map-range_with_len_more}
use Rattle.std.proofs.lemmas.List.Sums.{sum-map, sum_by_push}
use Rattle.ft_model.specs.declared.call.Call.{Call}
use Rattle.ft_model.specs.declared.script.Thread.{Thread}
use Rattle.ft_script.specs.Generator.{made_call, made_calls, made_head, made_thread, drawn_after, number_at, share, calls_above, thread_words}
use Rattle.ft_script.specs.Texts.{call_words, line}

abbrev call_lines : List Call → List ℕ
call_lines calls = flat_map line (map (call_words made_head 0) calls)

one_more : (first draws : ℕ) → number_at first (draws + 1) ≡ drawn_after (number_at first draws)
one_more first draws = let next : draws + 1 ≡ suc draws = omega arith in ap (number_at first) next

pub number_drawn : (first draws before after : ℕ) → before ≡ number_at first draws → after ≡ drawn_after before → after ≡ number_at first (draws + 1)
number_drawn first draws before after is drawn = drawn ∙ ap drawn_after is ∙ sym (one_more first draws)

calls_more : (first draws : ℕ) → made_calls first (draws + 1) ≡ made_calls first draws ++ made_call (number_at first (draws + 1)) ∷ []
calls_more first draws = map-range_with_len_more (λ i. made_call (number_at first (i + 1))) 0 draws draws (omega arith)

lines_more : (calls : List Call) (called : Call) → call_lines (calls ++ called ∷ []) ≡ call_lines calls ++ line (call_words made_head 0 called)
lines_more calls called =
    ap (flat_map line) (map-append (call_words made_head 0) calls (called ∷ []))
    ∙ flat_map-append line (map (call_words made_head 0) calls) (call_words made_head 0 called ∷ [])
    ∙ ap (λ (l : List ℕ). call_lines calls ++ l) (append-nil (line (call_words made_head 0 called)))

pub call_added : (first draws number : ℕ) (start before after : List ℕ) → number ≡ number_at first (draws + 1) → before ≡ start ++ call_lines (made_calls first draws) → after ≡ before ++ line (call_words made_head 0 (made_call number)) → after ≡ start ++ call_lines (made_calls first (draws + 1))
call_added first draws number start before after is so_far added =
    added ∙ ap (λ (l : List ℕ). l ++ line (call_words made_head 0 (made_call number))) so_far
    ∙ append_assoc start (call_lines (made_calls first draws)) (line (call_words made_head 0 (made_call number)))
    ∙ ap (λ (n : ℕ). start ++ (call_lines (made_calls first draws) ++ line (call_words made_head 0 (made_call n)))) is
    ∙ ap (λ (l : List ℕ). start ++ l) (sym (ap call_lines (calls_more first draws) ∙ lines_more (made_calls first draws) (made_call (number_at first (draws + 1)))))

-- ---- threads

number_on : (first draws more : ℕ) → number_at (number_at first draws) more ≡ number_at first (draws + more)
number_on first draws zero = let none : draws ≡ draws + 0 = omega arith in ap (number_at first) none
number_on first draws (suc more) =
    let next : suc (draws + more) ≡ draws + suc more = omega arith in
    ap drawn_after (number_on first draws more) ∙ ap (number_at first) next

sum_is : (counts : List ℕ) → sum counts ≡ sum_by (λ n. n) counts
sum_is counts = ap sum (sym (map-id counts)) ∙ sum-map (λ (n : ℕ). n) counts

sum_more : (counts : List ℕ) (count : ℕ) → sum (counts ++ count ∷ []) ≡ sum counts + count
sum_more counts count = sum_is (counts ++ count ∷ []) ∙ sum_by_push (λ (n : ℕ). n) counts count ∙ ap (λ (n : ℕ). n + count) (sym (sum_is counts))

above_more : (calls place : ℕ) → calls_above calls (place + 1) ≡ calls_above calls place + share calls place
above_more calls place =
    ap sum (map-range_with_len_more (share calls) 0 place place (omega arith)) ∙ sum_more (map (share calls) (range_with_len 0 place)) (share calls place)

-- the number after a thread's calls, and before those of the next
pub number_past : (calls place count before after : ℕ) → before ≡ number_at calls (calls_above calls place) → count ≡ share calls place → after ≡ number_at before count → after ≡ number_at calls (calls_above calls (place + 1))
number_past calls place count before after is many drawn =
    drawn ∙ ap (number_at before) many ∙ ap (λ (n : ℕ). number_at n (share calls place)) is ∙ number_on calls (calls_above calls place) (share calls place) ∙ ap (number_at calls) (sym (above_more calls place))

abbrev pub thread_text : List Thread → List ℕ
thread_text threads = flat_map line (flat_map thread_words threads)

abbrev threads_to : ℕ → ℕ → List Thread
threads_to calls place = map (made_thread calls) (range_with_len 0 place)

text_more : (threads : List Thread) (thread : Thread) → thread_text (threads ++ thread ∷ []) ≡ thread_text threads ++ flat_map line (thread_words thread)
text_more threads thread =
    ap (flat_map line) (flat_map-append thread_words threads (thread ∷ []) ∙ ap (λ (l : List (List (List ℕ))). flat_map thread_words threads ++ l) (append-nil (thread_words thread)))
    ∙ flat_map-append line (flat_map thread_words threads) (thread_words thread)

abbrev thread_by : ℕ → ℕ → ℕ → Thread
thread_by place first count = record { name = (65 + place) ∷ []; cursors = []; calls = made_calls first count }

pub thread_added : (calls place first count : ℕ) (start before after : List ℕ) → first ≡ number_at calls (calls_above calls place) → count ≡ share calls place → before ≡ start ++ thread_text (threads_to calls place) → after ≡ before ++ flat_map line (thread_words (thread_by place first count)) →
    after ≡ start ++ thread_text (threads_to calls (place + 1))
thread_added calls place first count start before after from many so_far added =
    added ∙ ap (λ (l : List ℕ). l ++ flat_map line (thread_words (thread_by place first count))) so_far
    ∙ append_assoc start (thread_text (threads_to calls place)) (flat_map line (thread_words (thread_by place first count)))
    ∙ ap (λ (n : ℕ). start ++ (thread_text (threads_to calls place) ++ flat_map line (thread_words (thread_by place n count)))) from
    ∙ ap (λ (n : ℕ). start ++ (thread_text (threads_to calls place) ++ flat_map line (thread_words (thread_by place (number_at calls (calls_above calls place)) n)))) many
    ∙ ap (λ (l : List ℕ). start ++ l) (sym (ap thread_text (map-range_with_len_more (made_thread calls) 0 place place (omega arith)) ∙ text_more (threads_to calls place) (made_thread calls place)))

both_ends : (a b : ℕ) → a ≤ b → b ≤ a → a ≡ b
both_ends a b low high = omega arith

-- a thread's line stands above its calls
pub thread_line_added : (letter first counter count : ℕ) (old o1 o2 o3 new : List ℕ) → counter ≤ count → count ≤ counter → o1 ≡ old ++ codes "thread " → o2 ≡ o1 ++ letter ∷ [] → o3 ≡ o2 ++ 10 ∷ [] → new ≡ o3 ++ call_lines (made_calls first counter) →
    new ≡ old ++ flat_map line (thread_words (record { name = letter ∷ []; cursors = []; calls = made_calls first count }))
thread_line_added letter first counter count old o1 o2 o3 new low high e1 e2 e3 e4 =
    rw (e4, e3, e2, e1, both_ends counter count low high) (simp append_assoc)

pub last_number : (first counter count number : ℕ) → counter ≤ count → count ≤ counter → number ≡ number_at first counter → number ≡ number_at first count
last_number first counter count number low high is = is ∙ ap (number_at first) (both_ends counter count low high)
