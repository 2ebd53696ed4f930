-- Each entry is right, each number stands once, and who stands for all passes has all entries.
use Rattle.std.proofs.Common.{◌≡◌, ◌≢◌, ℕ, zero, suc, ◌+◌, ◌<◌, eqb, ltb, Bool, true≢false, cond, List, [], ◌∷◌, ◌++◌, length, refl, sym, ap, ◌∙◌, subst, inl, inr, arith, le_trans}
use Rattle.std.proofs.lemmas.Bool.Decides.{nat_tests}
use Rattle.std.proofs.lemmas.Bool.{le-ltb}
use mathlib.Core.Option.{some}
use lib.ListN.{get_elem?}
use Rattle.ft_trace.specs.declared.Shape.{Shape}
use Rattle.ft_trace.specs.declared.View.{View}
use Rattle.ft_trace.specs.declared.Act.{Act}
use Rattle.ft_trace.specs.declared.Act.TheVariants.{Commit, Answer, AnswerCursor}
use Rattle.ft_model.specs.declared.call.Call.{Call}
use Rattle.ft_trace.specs.declared.Entry.{Entry}
use Rattle.std.specs.List.{flat_map}
use Rattle.ft_trace.specs.Acts.{place, Reports, starter, view_after, entries_next, maker, made, both, spent, sender, note, all_entries}
use Rattle.ft_model.specs.declared.script.Start.{Start}
use Rattle.ft_model.specs.Histories.{IsReplied}
use Rattle.ft_model.specs.TableUses.{stored_newest}
use Rattle.ft_model.specs.Answers.{answer}
use Rattle.ft_model.specs.Worlds.{no_hands}
use Rattle.ft_trace.specs.ContainerStates.{first_writes, reply_in}
use Rattle.ft_trace.specs.Traces.{Event, did, forked, joined, sent, run, word, writes_of, history, May, Valid}
use Rattle.ft_trace.specs.Entries.{total, IsNumber, Right, AllRight, number_count, Numbered}
use Rattle.ft_trace.proofs.AllEntries.{next_all, has_none, both_all}
use Rattle.ft_trace.proofs.Sizes.{set_views, one_more, one_view}
use Rattle.ft_trace.proofs.Stamps.{all_writes, writes_stay, grows_by}
use Rattle.ft_trace.proofs.CursorAnswers.{hands_with, moved_reads, moved_replied, moved_reply}
use Rattle.ft_trace.proofs.Contents.{count, counted}
use Rattle.ft_trace.proofs.Totals.{weight, parts_total, entries_total, total_two, total_alone, trace_entries}

number_stays : (b : Act) (cs : List Call) (n : ℕ) (c : Call) → IsNumber cs n c → IsNumber (writes_of b cs) n c
number_stays (Commit d r f s) cs n c is = inr is
number_stays act cs n c is = is

right_stays : (starts : List Start) (b : Act) (cs : List Call) (e : Entry) → Right starts cs e → Right starts (writes_of b cs) e
right_stays starts b cs e r = record {
  wrote = r.wrote;
  write = λ w. number_stays b cs e.stamp e.call (r.write w);
  low = le_trans r.low (grows_by b cs);
  hands = r.hands;
  reply = subst (λ (l : List Call). IsReplied e.call e.reply (answer (stored_newest starts l).world r.hands e.call).reply) (sym (writes_stay e.stamp b cs r.low)) r.reply;
}

all_stay : (starts : List Start) (b : Act) (cs : List Call) (es : List Entry) → AllRight starts cs es → AllRight starts (writes_of b cs) es
all_stay starts b cs [] all = tt
all_stay starts b cs (e ∷ es) all = (right_stays starts b cs e all.0, all_stay starts b cs es all.1)

all-append : (starts : List Start) (cs : List Call) (xs ys : List Entry) → AllRight starts cs xs → AllRight starts cs ys → AllRight starts cs (xs ++ ys)
all-append starts cs [] ys a b = b
all-append starts cs (x ∷ xs) ys a b = (a.0, all-append starts cs xs ys a.1 b)

right_next : (k : Shape) (es : List Event) → count k es ≡ length (history es) → (v : View) (b : Act) → Reports b (word k es (place b)) → May k (run k es) (history es) v b → (fs : List Entry) → AllRight k.starts (writes_of b (history es)) fs → AllRight k.starts (writes_of b (history es)) (entries_next b fs)
right_next k es count v (Commit c r f s) found may fs all =
    let is : f ≡ length (history es) = found ∙ count in
    let all_of : first_writes f (c ∷ history es) ≡ history es = writes_stay f (Commit c r f s) (history es) (omega (arith, is)) ∙ (ap (λ (z : ℕ). first_writes z (history es)) is ∙ all_writes (history es)) in
    (record { wrote = sym may.0; write = λ _. inl (is, refl); low = omega (arith, is); hands = no_hands; reply = subst (λ (l : List Call). IsReplied c r (reply_in (stored_newest k.starts l) c)) (sym all_of) may.4 }, all)
right_next k es count v (Answer c x n) found may fs all = (record { wrote = sym may.0; write = λ no. absurd (true≢false (sym no)); low = (let low = may.1 in omega arith); hands = no_hands; reply = may.2 }, all)
right_next k es count v (AnswerCursor c x n m had left) found may fs all = (record { wrote = sym (moved_reads c m may.0 x); write = λ no. absurd (true≢false (sym no)); low = (let low = may.1 in omega arith); hands = hands_with m had; reply = moved_replied c m may.0 x _ (moved_reply _ c m had x left may.2) }, all)
right_next k es count v act found may fs all = all

-- each entry of each pass is right
pub all_right : (k : Shape) (es : List Event) → Valid k es → (j : ℕ) (u : View) → get_elem? (run k es).views j ≡ some u → AllRight k.starts (history es) (all_entries u)
all_right k [] valid = one_view (λ j u. AllRight k.starts [] (all_entries u)) (starter k) tt
all_right k (did id v a ∷ es) valid =
    let old = all_right k es valid.0 in
    let P : ℕ → View → Type 0 = λ j u. AllRight k.starts (writes_of a (history es)) (all_entries u) in
    set_views P _ id (view_after a v)
    (subst (AllRight k.starts (writes_of a (history es))) (next_all a v.entries (flat_map (λ (l : List Entry). l) v.lists)) (right_next k es (counted k es valid.0) v a valid.1.2 valid.1.3 (all_entries v) (all_stay k.starts a (history es) (all_entries v) (old id v valid.1.0))))
    (λ j u _ e. all_stay k.starts a (history es) (all_entries u) (old j u e))
all_right k (forked id v ∷ es) valid =
    let old = all_right k es valid.0 in
    let P : ℕ → View → Type 0 = λ j u. AllRight k.starts (history es) (all_entries u) in
    one_more P _ (made v) tt (set_views P _ id (maker v) (old id v valid.1.0) (λ j u _ e. old j u e))
all_right k (sent id v given ∷ es) valid =
    let old = all_right k es valid.0 in
    let P : ℕ → View → Type 0 = λ j u. AllRight k.starts (history es) (all_entries u) in
    one_more P _ (note given v) tt (set_views P _ id (sender given v) (old id v valid.1.0) (λ j u _ e. old j u e))
all_right k (joined id v other w ∷ es) valid =
    let old = all_right k es valid.0 in
    let P : ℕ → View → Type 0 = λ j u. AllRight k.starts (history es) (all_entries u) in
    set_views P _ other spent tt
    (λ j u _. set_views P _ id (both v w)
    (subst (AllRight k.starts (history es)) (sym (both_all v w (has_none k es valid.0 other w valid.1.2).entries)) (all-append k.starts (history es) (all_entries v) (all_entries w) (old id v valid.1.0) (old other w valid.1.2)))
    (λ j u _ e. old j u e) j u)

below_next : (m n : ℕ) → cond (eqb m n) 1 0 + cond (ltb n m) 1 0 ≡ cond (ltb n (suc m)) 1 0
below_next m n = grind (arith, nat_tests)

once_by : (k : Shape) (es : List Event) → count k es ≡ length (history es) → (b : Act) → Reports b (word k es (place b)) → (n : ℕ)
    → total (number_count n) (trace_entries es) ≡ cond (ltb n (length (history es))) 1 0 → total (number_count n) (entries_next b (trace_entries es)) ≡ cond (ltb n (length (writes_of b (history es)))) 1 0
once_by k es count (Commit c r f s) found n old =
    let is : f ≡ length (history es) = found ∙ count in
    let pick : Bool → ℕ = λ b. cond b 1 0 in
    let next : pick (eqb (length (history es)) n) + pick (ltb n (length (history es))) ≡ pick (ltb n (suc (length (history es)))) = below_next (length (history es)) n in
    let here : pick (eqb f n) ≡ pick (eqb (length (history es)) n) = ap (λ (z : ℕ). pick (eqb z n)) is in
    let all : pick (eqb f n) + total (number_count n) (trace_entries es) ≡ pick (ltb n (suc (length (history es)))) = omega (arith, next, here, old) in
    all
once_by k es count (Answer c x m) found n old = omega arith
once_by k es count (AnswerCursor c x m z had left) found n old = omega arith
once_by k es count act found n old = old

-- each number below the counter is that of one entry
pub once : (k : Shape) (es : List Event) → Valid k es → (n : ℕ) → total (number_count n) (trace_entries es) ≡ cond (ltb n (length (history es))) 1 0
once k [] valid n = sym (ap (λ (b : Bool). cond b 1 0) (le-ltb n 0 (omega arith)))
once k (did id v a ∷ es) valid n = once_by k es (counted k es valid.0) a valid.1.2 n (once k es valid.0 n)
once k (forked id v ∷ es) valid n = once k es valid.0 n
once k (sent id v given ∷ es) valid n = once k es valid.0 n
once k (joined id v other w ∷ es) valid n = once k es valid.0 n

-- a pass stands for itself at least
pub record Stood (u : View) : Type 0 where
  pub live : u.number ≢ 0 → 0 < u.parts

stood : (k : Shape) (es : List Event) → Valid k es → 0 < k.passes → (j : ℕ) (u : View) → get_elem? (run k es).views j ≡ some u → Stood u
stood k [] valid some_pass = one_view (λ j u. Stood u) (starter k) (record { live = λ _. some_pass })
stood k (did id v a ∷ es) valid some_pass =
    let old = stood k es valid.0 some_pass in
    set_views (λ j u. Stood u) _ id (view_after a v) (record { live = (old id v valid.1.0).live }) (λ j u _ e. old j u e)
stood k (forked id v ∷ es) valid some_pass =
    let old = stood k es valid.0 some_pass in
    let may = valid.1.3 in
    one_more (λ j u. Stood u) _ (made v) (record { live = λ _. omega arith }) (set_views (λ j u. Stood u) _ id (maker v) (record { live = λ _. omega arith }) (λ j u _ e. old j u e))
stood k (sent id v given ∷ es) valid some_pass =
    let old = stood k es valid.0 some_pass in
    one_more (λ j u. Stood u) _ (note given v) (record { live = λ live. absurd (live refl) }) (set_views (λ j u. Stood u) _ id (sender given v) (record { live = (old id v valid.1.0).live }) (λ j u _ e. old j u e))
stood k (joined id v other w ∷ es) valid some_pass =
    let old = stood k es valid.0 some_pass in
    let mine = (old id v valid.1.0).live valid.1.3 in
    set_views (λ j u. Stood u) _ other spent (record { live = λ live. absurd (live refl) })
    (λ j u _. set_views (λ j u. Stood u) _ id (both v w) (record { live = λ _. omega arith }) (λ j u _ e. old j u e) j u)

zero_or : (n : ℕ) → (n ≢ 0 → ⊥) → n ≡ 0
zero_or zero never = refl
zero_or (suc n) never = absurd (never (λ e. omega arith))

-- who stands for all passes has the whole history
pub closes : (k : Shape) (es : List Event) → Valid k es → 0 < k.passes → (id : ℕ) (v : View) → get_elem? (run k es).views id ≡ some v → v.parts ≡ k.passes → Numbered k.starts (history es) (all_entries v)
closes k es valid some_pass id v at all = record {
  right = all_right k es valid id v at;
  once = λ n.
      let h : Entry → ℕ = number_count n in
      let alone = total_alone (weight h) (run k es).views id v at (λ j u ne e.
      let two = total_two (λ (z : View). z.parts) (run k es).views id j v u (λ x. ne (sym x)) at e in
      let sum = parts_total k es valid in
      let s = stood k es valid some_pass j u e in
      let none : u.number ≡ 0 = zero_or u.number (λ live. let more = s.live live in omega arith) in
      let empty = has_none k es valid j u e in
      (λ d. total h (empty.entries none d ++ flat_map (λ (l : List Entry). l) (empty.lists none d)))) in
      sym alone ∙ (entries_total h k es valid ∙ once k es valid n);
}
