use Rattle.ft_runner.proofs.checking.check_text.Goals as goal

pub returns-in-Ok : goal.returns-in-Ok
returns-in-Ok g c = c.put_verdict.ensures c.args.bytes.now c.in-Ok.ensures.found

pub returns-in-Err : goal.returns-in-Err
returns-in-Err g c =
    let sink = g.K.Sink in
    c.in-Err.ensures.refused (sink.stream c.args.sink.now)
