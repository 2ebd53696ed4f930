use Rattle.std.proofs.Common.{◌++◌, Err, true, false}
use Rattle.std.proofs.lemmas.Result.{err_from_is_err_and}
use Rattle.std.specs.Fmt.{decimal}
use Rattle.ft_runner.proofs.StreamLemmas.{Receives-then, PutsText-then, PutsPrefix-longer}
use Rattle.ft_runner.proofs.errors.put_number.Goals as goal

pub returns-in_err-put_all-2 : goal.returns-in_err-put_all-2
returns-in_err-put_all-2 g c =
    let sink = g.E.Sink in
    let a = sink.stream c.args.errors.now in
    let b = sink.stream c.put_all.new.sink in
    let d = sink.stream c.put_all-2.new.sink in
    let r = err_from_is_err_and c.from_residual-in_err-put_all-2.result c.from_residual-in_err-put_all-2.ensures.1 in
    let part = rw (c.as_bytes.ensures.value, c.format.ensures.text) at c.in_err-put_all-2.ensures in
    rw r.1 (PutsPrefix-longer a d (c.args.before.now ++ decimal c.args.number) c.args.after.now true (PutsText-then a b d c.args.before.now (decimal c.args.number) (Err r.0) c.in_ok-put_all.ensures part))

pub returns : goal.returns
returns g c =
    let sink = g.E.Sink in
    let a = sink.stream c.args.errors.now in
    let b = sink.stream c.put_all.new.sink in
    let d = sink.stream c.put_all-2.new.sink in
    let e = sink.stream c.put_all-3.new.sink in
    let digits = rw (c.as_bytes.ensures.value, c.format.ensures.text) at c.in_ok-put_all-2.ensures in
    PutsText-then a d e (c.args.before.now ++ decimal c.args.number) c.args.after.now c.put_all-3.result (Receives-then a b d c.args.before.now (decimal c.args.number) false c.in_ok-put_all.ensures digits) c.put_all-3.ensures
