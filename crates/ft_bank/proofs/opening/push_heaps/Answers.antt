use Rattle.std.proofs.Common.{◌≡◌, ℕ, ◌+◌, ◌-◌, ◌*◌, ◌/◌, ◌%◌, ◌≤◌, ◌<◌, List, length, ◌∷◌, ◌++◌, sym, ap, ◌∙◌, arith}
use Rattle.std.proofs.lemmas.List.{length-map}
use Rattle.ft_model.specs.Worlds.{start_as}
use Rattle.ft_layout.specs.Starts.{heap_start}
use Rattle.ft_trace.specs.Addresses.{heap_first, heap_words, listed}
use Rattle.ft_bank.specs.Shapes.{plan}
use Rattle.ft_bank.proofs.StartWords.{heap_long, heaps_long, heaps_word, listed_next, listed_none, snoc_over}
use Rattle.ft_bank.proofs.opening.push_heaps.Goals as goal

pub loop-at-preserved : goal.loop-at-preserved
loop-at-preserved c =
    let k = plan c.args.shape.now in
    let xs = c.loop-at.words.items in
    let i = c.loop-at.at in
    let all = k.passes * heap_words k in
    let rest = listed (heaps_word k) (i + 1) (all - (i + 1)) in
    let many = length-map c.args.shape.now.kinds.items start_as in
    let count : c.len-containers.result ≡ length k.starts = omega (arith, many, c.len-containers.ensures, c.args.shape.now.kinds.ok.0) in
    let a : c.heap_start.result - c.heap_start-first.result ≡ all =
    (λ d. (c.heap_start.ensures.is ∙ (λ e. heap_start (count e) k.heap k.passes)) d - (c.heap_start-first.ensures.is ∙ (λ e. heap_start (count e) k.heap 0)) d) ∙ heaps_long k in
    let each : c.from-heap.result / 64 + 4 * c.from-heap.result ≡ heap_words k = ap (λ (n : ℕ). n / 64 + 4 * n) c.from-heap.ensures ∙ heap_long k in
    let low : i < all = (let t = c.loop-at-test.true in omega (arith, t, a)) in
    let word : c.heap_word.result ≡ heaps_word k i = c.heap_word.ensures ∙ ap (λ (n : ℕ). heap_first k (i % n)) each in
    let next = ap (λ (z : ℕ). z ∷ rest) word ∙ sym (listed_next (heaps_word k) i all low) in
    ap (λ (l : List ℕ). l ++ rest) c.in_ok-push.ensures.items ∙ (snoc_over xs rest c.heap_word.result ∙ (ap (λ (l : List ℕ). xs ++ l) next ∙ c.loop-at.invariant))

pub returns : goal.returns
returns c =
    let k = plan c.args.shape.now in
    let all = k.passes * heap_words k in
    let many = length-map c.args.shape.now.kinds.items start_as in
    let count : c.len-containers.result ≡ length k.starts = omega (arith, many, c.len-containers.ensures, c.args.shape.now.kinds.ok.0) in
    let a : c.heap_start.result - c.heap_start-first.result ≡ all =
    (λ d. (c.heap_start.ensures.is ∙ (λ e. heap_start (count e) k.heap k.passes)) d - (c.heap_start-first.ensures.is ∙ (λ e. heap_start (count e) k.heap 0)) d) ∙ heaps_long k in
    let end : all ≤ c.loop-at.at = (let t = c.loop-at-test.false in omega (arith, t, a)) in
    listed_none (heaps_word k) c.loop-at.words.items c.loop-at.at all _ end c.loop-at.invariant
