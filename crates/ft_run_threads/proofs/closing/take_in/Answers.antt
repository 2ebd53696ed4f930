use Rattle.std.specs.declared.alloc.Global.{Global}
use Rattle.std.proofs.Common.{◌≡◌, ℕ, ◌+◌, ◌++◌, [], ◌∷◌, length, map, sym, ap, subst, ◌∙◌, arith}
use Rattle.std.specs.Prelude.{IsTrue, Vec}
use Rattle.std.proofs.lemmas.List.{length-map, length_push, map-append}
use Rattle.ft_model.specs.declared.entry.Entry.{Entry}
use Rattle.ft_engine.specs.Callers.{pass_of}
use Rattle.ft_run_threads.specs.Workers.{HasTakenIn, HasWorked}
use Rattle.ft_run_threads.proofs.WholeLists.{next_taken}
use Rattle.ft_run_threads.proofs.WorkerLemmas.{not_not}
use Rattle.ft_run_threads.proofs.closing.take_in.Goals as goal

pub returns-clause-tokens : goal.returns-clause-tokens
returns-clause-tokens c low =
    let more : length c.push.new.self.items ≡ length c.args.lists.now.items + 1 = ap length c.in_ok-push.ensures.items ∙ length_push c.args.lists.now.items c.args.worker.entries in
    let sum = c.join.ensures.tokens in
    let some = (pass_of c.args.worker.caller).awake in
    omega (arith, low, more, sum, some)

pub returns-clause-taken : goal.returns-clause-taken
returns-clause-taken c =
    let e = c.args.engine.now in
    let script = c.args.script.now in
    let before = c.args.lists.now.items in
    let w = c.args.worker in
    let d = c.join.new.caller in
    let x = c.join.ensures in
    let items = λ (list : Vec Entry Global). list.items in
    let same : map items c.push.new.self.items ≡ map items before ++ w.entries.items ∷ [] = ap (map items) c.in_ok-push.ensures.items ∙ map-append items before (w.entries ∷ []) in
    let worked = subst (λ (n : ℕ). HasWorked e script n w) (sym (length-map before items)) c.requires.worker in
    let done : IsTrue w.done = not_not w.done c.if-not-worker.false in
    subst (HasTakenIn e script d) (sym same)
    (next_taken e script c.args.caller.now d w (map items before) c.requires.taken worked done x.caller x.thread x.idle x.announced x.merged x.sections x.parts x.kept x.online)
