use Rattle.ft_runner.specs.Findings.{broken_line}
use Rattle.ft_runner.proofs.ReportLemmas.{broken_found, legal_begun, legal_found, reported}
use Rattle.ft_runner.proofs.checking.put_verdict.Goals as goal

pub returns-in-Ok : goal.returns-in-Ok
returns-in-Ok g c bytes found =
    let sink = g.K.Sink in
    legal_found bytes (sink.stream c.args.sink.now) (sink.stream c.put_all.new.sink) c.new.result c.new.ensures.items (rw c.in-Legal.is at found) c.in-Ok.ensures

pub returns-in-Err : goal.returns-in-Err
returns-in-Err g c bytes found =
    let sink = g.K.Sink in
    legal_begun bytes (sink.stream c.args.sink.now) (sink.stream c.put_all.new.sink) c.new-in-Err.result c.new-in-Err.ensures.items (rw c.in-Legal.is at found) c.in-Err.ensures

pub returns-in-Not : goal.returns-in-Not
returns-in-Not g c bytes found =
    let sink = g.K.Sink in
    let a = sink.stream c.args.sink.now in
    let b = sink.stream c.put_broken.new.sink in
    broken_found bytes a b c.in-Not.place c.in-Not.rule (rw c.in-Not.is at found) (reported a b (broken_line c.in-Not.place c.in-Not.rule) c.put_broken.result c.put_broken.ensures)
