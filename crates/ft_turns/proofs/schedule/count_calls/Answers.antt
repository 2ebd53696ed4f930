use Rattle.std.proofs.Common.{◌≡◌, ◌≤◌, take, length, get_or, arith, ap, ◌∙◌}
use Rattle.std.specs.List.{sum_by}
use Rattle.std.proofs.lemmas.List.Sums.{sum_by_more_le, sum-map}
use Rattle.ft_model.specs.declared.script.Thread.{Thread}
use Rattle.ft_turns.proofs.schedule.count_calls.Goals as goal

pub overflow_add-count : goal.overflow_add-count
overflow_add-count c =
    let threads = c.as_slice-thread-items.result.now in
    let i = c.loop-thread.thread-index in
    let count : c.loop-thread.count ≡ sum_by (λ (t : Thread). length t.calls) (take i threads) = c.loop-thread.invariant ∙ sum-map (λ (t : Thread). length t.calls) (take i threads) in
    let all : sum_by (λ (t : Thread). length t.calls) threads ≤ 500000 = rw (← sum-map (λ (t : Thread). length t.calls) threads, c.as_slice-thread-items.ensures) c.requires.few_calls in
    let one : c.len-count.result ≡ length (get_or threads i c.thread-item.result).calls = c.len-count.ensures ∙ ap (λ (t : Thread). length t.calls) c.thread-item.is in
    let more = sum_by_more_le (λ (t : Thread). length t.calls) threads i c.thread-item.result c.loop-thread-test.true in
    omega (arith, count, all, one, more)
