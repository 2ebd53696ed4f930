use Rattle.std.proofs.Common.{◌≡◌, ◌++◌, length, take, drop, ◌∙◌, subst, sym}
use Rattle.std.proofs.lemmas.List.{with_items_is}
use Rattle.ft_run_threads.specs.Workers.{AreFrom, HasWorked, IsAtStart}
use Rattle.ft_run_threads.proofs.WorkerLemmas.{each_from, from_each}
use Rattle.ft_run_threads.proofs.running.run_workers.Goals as goal

pub work_on_board-requires-clause-workers : goal.work_on_board-requires-clause-workers
work_on_board-requires-clause-workers g c κs within =
    let e = c.in_ok-engine.engine in
    let script = c.args.script.now in
    each_from (IsAtStart e script) c.as_mut_slice.result.now (subst (AreFrom (IsAtStart e script) 0) (sym c.as_mut_slice.ensures.value) c.in_ok-engine.ensures.workers)

pub close_all-requires-clause-workers : goal.close_all-requires-clause-workers
close_all-requires-clause-workers g c =
    let e = c.in_ok-engine.engine in
    let script = c.args.script.now in
    let made = c.work_on_board.new.workers in
    let before = c.in_ok-engine.workers in
    let whole : length made ≡ before.len = c.in_ok-work_on_board.ensures.count ∙ c.as_mut_slice.ensures.len in
    let same : take before.len (made ++ drop (length made) before.items) ≡ made = with_items_is before made whole in
    subst (AreFrom (HasWorked e script) 0) (sym same) (from_each (HasWorked e script) made c.in_ok-work_on_board.ensures.workers)
