use Rattle.std.proofs.Common.{ℕ, ◌+◌, ap, arith, get_or, refl, subst}
use Rattle.std.proofs.lemmas.Option.{slice_get-get_or}
use lib.IntN.{pos}
use Rattle.ft_model.specs.declared.call.Call.{Call}
use Rattle.ft_model.specs.declared.call.Call.TheVariants as call
use Rattle.ft_model.specs.declared.call.DictCall.TheVariants as dict
use Rattle.ft_model.specs.declared.data.Key.TheVariants as key
use Rattle.ft_model.specs.declared.entry.Entry.{Entry}
use Rattle.ft_engine.specs.declared.calling.Called.{Called}
use Rattle.ft_run_threads.specs.declared.workers.Worker.{Worker}
use Rattle.ft_run_threads.specs.Workers.{HasEnded, IsOnline}
use Rattle.ft_run_threads.proofs.Between.{answered, has_made, may, noted_online}
use Rattle.ft_run_threads.proofs.working.make.Goals as goal

pub make_call-requires-clause-may : goal.make_call-requires-clause-may
make_call-requires-clause-may g c =
    let calls = c.args.calls.now in
    may c.args.engine.now c.args.thread calls c.args.place c.args.worker.now c.requires.worker c.requires.calls _ (slice_get-get_or calls c.args.place _ c.requires.place) c.requires.awaits

pub publish-published-requires-clause-idle : goal.publish-published-requires-clause-idle
publish-published-requires-clause-idle g c =
    let calls = c.args.calls.now in
    let none : Call = call.Dict 0 (dict.Get (key.Int (pos 0))) in
    let called : Call = get_or calls c.args.place none in
    (subst (λ (a : Called). HasEnded called a c.args.worker.now.caller c.make_call.new.caller) c.in-Done.is c.make_call.ensures.ended).0

pub publish-published-requires-clause-made : goal.publish-published-requires-clause-made
publish-published-requires-clause-made g c =
    let w = c.args.worker.now in
    let e = c.args.engine.now in
    let i = c.args.thread in
    let calls = c.args.calls.now in
    let none : Call = call.Dict 0 (dict.Get (key.Int (pos 0))) in
    let called : Call = get_or calls c.args.place none in
    let d = c.make_call.new.caller in
    let x : Worker = record { caller = d; entries = c.push_reserved.new.self; done = w.done } in
    let ended = subst (λ (a : Called). HasEnded called a w.caller d) c.in-Done.is c.make_call.ensures.ended in
    let row : ℕ → Entry = λ n. record { thread = n; index = c.args.place + 1; stamp = c.in-Done.stamp.number; wrote = c.in-Done.stamp.wrote; call = called; reply = c.in-Done.reply; waited = c.in-Done.waited } in
    let on : IsOnline e i calls (c.args.place + 1) x = answered e i calls c.args.place w x called c.in-Done.reply c.in-Done.stamp c.in-Done.waited c.requires.worker (slice_get-get_or calls c.args.place none c.requires.place)
    c.make_call.ensures.caller c.make_call.ensures.same ended.0 (ended.1 w.entries.items c.requires.worker.0.kept)
    (row c.thread-number.result) (ap row c.thread-number.ensures) c.push_reserved.ensures.items c.push_reserved.ensures.capacity in
    let made = has_made e i calls (c.args.place + 1) x on (let low = c.requires.place in omega (arith, low)) in
    omega (arith, made)

pub returns-clause-made : goal.returns-clause-made
returns-clause-made g c went =
    let w = c.args.worker.now in
    let e = c.args.engine.now in
    let i = c.args.thread in
    let calls = c.args.calls.now in
    let none : Call = call.Dict 0 (dict.Get (key.Int (pos 0))) in
    let called : Call = get_or calls c.args.place none in
    let d = c.make_call.new.caller in
    let x : Worker = record { caller = d; entries = c.push_reserved.new.self; done = w.done } in
    let y : Worker = record { caller = c.publish-published.new.caller; entries = c.push_reserved.new.self; done = w.done } in
    let ended = subst (λ (a : Called). HasEnded called a w.caller d) c.in-Done.is c.make_call.ensures.ended in
    let row : ℕ → Entry = λ n. record { thread = n; index = c.args.place + 1; stamp = c.in-Done.stamp.number; wrote = c.in-Done.stamp.wrote; call = called; reply = c.in-Done.reply; waited = c.in-Done.waited } in
    let on : IsOnline e i calls (c.args.place + 1) x = answered e i calls c.args.place w x called c.in-Done.reply c.in-Done.stamp c.in-Done.waited c.requires.worker (slice_get-get_or calls c.args.place none c.requires.place)
    c.make_call.ensures.caller c.make_call.ensures.same ended.0 (ended.1 w.entries.items c.requires.worker.0.kept)
    (row c.thread-number.result) (ap row c.thread-number.ensures) c.push_reserved.ensures.items c.push_reserved.ensures.capacity in
    noted_online e i calls (c.args.place + 1) x y on c.publish-published.ensures refl
