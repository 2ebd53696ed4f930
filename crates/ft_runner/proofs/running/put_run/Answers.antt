use Rattle.std.proofs.Common.{ℕ, List, ◌++◌, length, refl, subst, true, false}
use Rattle.std.specs.List.{flat_map}
use Rattle.std.specs.Prelude.{Some}
use Rattle.ft_model.specs.Histories.{world_at, writes}
use Rattle.ft_script.specs.Texts.{entry_line}
use Rattle.ft_runner.specs.LeftBanks.{LeavesBank}
use Rattle.ft_runner.specs.Transfers.{PutsPrefix, Receives}
use Rattle.ft_runner.proofs.ReportLemmas.{run_failed, run_short, run_written}
use Rattle.ft_runner.proofs.RunHistories.{entries_made, lines_made, run_made, shown_made}
use Rattle.ft_runner.proofs.running.put_run.Goals as goal

pub write_all-requires-clause-entries : goal.write_all-requires-clause-entries
write_all-requires-clause-entries g c =
    let run = c.args.run in
    let from = c.requires.read in
    rw (c.deref.ensures.value) (entries_made from.0 c.args.script.now from.1 run.history.items c.requires.run.legal)

pub write_all-requires-clause-contents : goal.write_all-requires-clause-contents
write_all-requires-clause-contents g c =
    let run = c.args.run in
    let from = c.requires.read in
    rw (c.deref-2.ensures.value) (shown_made from.0 c.args.script.now from.1 run.history.items c.requires.run.legal run.contents.items c.requires.run.contents)

pub returns-in-Ok : goal.returns-in-Ok
returns-in-Ok g c command bytes read order =
    let sink = g.K.Sink in
    let a = sink.stream c.args.sink.now in
    let b = sink.stream c.write_all.new.sink in
    let script = c.args.script.now in
    let run = c.args.run in
    let history = run.history.items in
    let is = c.requires.run in
    let lines = flat_map (entry_line script) history in
    let shown = rw (c.deref.ensures.value, c.deref-2.ensures.value) at c.in-Ok.ensures in
    let all = subst (λ (text : List ℕ). Receives a (lines ++ text) false b) (lines_made bytes script read history is.legal run.contents.items is.contents) shown in
    let made = run_made bytes script read history is.legal command order is.fitting in
    let left : LeavesBank bytes history (Some run.closed) = (run.closed, refl, record { script = script; read = read; bank = is.bank; entries = is.entries }) in
    run_written command bytes script history (world_at script history (length (writes history))) made a b run.history refl (Some run.closed) left all

pub returns-in-Err-Failed : goal.returns-in-Err-Failed
returns-in-Err-Failed g c command bytes read order =
    let sink = g.K.Sink in
    let a = sink.stream c.args.sink.now in
    let b = sink.stream c.write_all.new.sink in
    let script = c.args.script.now in
    let run = c.args.run in
    let history = run.history.items in
    let is = c.requires.run in
    let lines = flat_map (entry_line script) history in
    let shown = rw (c.deref.ensures.value, c.deref-2.ensures.value) at (rw c.in-Err-Failed.field-0-is at c.in-Err-Failed.ensures) in
    let part = subst (λ (text : List ℕ). PutsPrefix a (lines ++ text) true b) (lines_made bytes script read history is.legal run.contents.items is.contents) shown in
    let made = run_made bytes script read history is.legal command order is.fitting in
    let left : LeavesBank bytes history (Some run.closed) = (run.closed, refl, record { script = script; read = read; bank = is.bank; entries = is.entries }) in
    run_failed command bytes script history (world_at script history (length (writes history))) made a b run.history refl (Some run.closed) left part

pub returns-in-Err-Memory : goal.returns-in-Err-Memory
returns-in-Err-Memory g c command bytes read order =
    let sink = g.K.Sink in
    let a = sink.stream c.args.sink.now in
    let b = sink.stream c.write_all.new.sink in
    let script = c.args.script.now in
    let run = c.args.run in
    let history = run.history.items in
    let is = c.requires.run in
    let lines = flat_map (entry_line script) history in
    let shown = rw (c.deref.ensures.value, c.deref-2.ensures.value) at (rw c.in-Err-Memory.field-0-is at c.in-Err-Memory.ensures) in
    let part = subst (λ (text : List ℕ). PutsPrefix a (lines ++ text) false b) (lines_made bytes script read history is.legal run.contents.items is.contents) shown in
    let made = run_made bytes script read history is.legal command order is.fitting in
    run_short command bytes script history (world_at script history (length (writes history))) made a b part
