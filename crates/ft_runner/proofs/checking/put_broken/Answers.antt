use Rattle.std.proofs.Common.{◌++◌, Err, true, false}
use Rattle.std.specs.Fmt.{decimal}
use Rattle.std.specs.Prelude.{codes}
use Rattle.std.proofs.lemmas.Result.{err_from_is_err_and}
use Rattle.ft_runner.specs.Findings.{rule_word}
use Rattle.ft_runner.proofs.StreamLemmas.{Receives-then, PutsText-then, PutsPrefix-longer}
use Rattle.ft_runner.proofs.checking.put_broken.Goals as goal

pub returns-in_err-put_number : goal.returns-in_err-put_number
returns-in_err-put_number g c =
    let sink = g.K.Sink in
    let a = sink.stream c.args.sink.now in
    let b = sink.stream c.put_number.new.errors in
    let r = err_from_is_err_and c.from_residual.result c.from_residual.ensures.1 in
    let front = codes "not legal at " ++ decimal c.args.place ++ codes ": " in
    let word = rule_word c.args.rule in
    rw r.1 (PutsPrefix-longer a b (front ++ word) (codes "\n") true (PutsPrefix-longer a b front word true c.in_err-put_number.ensures))

pub returns-in_err-put_all : goal.returns-in_err-put_all
returns-in_err-put_all g c =
    let sink = g.K.Sink in
    let a = sink.stream c.args.sink.now in
    let b = sink.stream c.put_number.new.errors in
    let d = sink.stream c.put_all.new.sink in
    let r = err_from_is_err_and c.from_residual-in_err-put_all.result c.from_residual-in_err-put_all.ensures.1 in
    let front = codes "not legal at " ++ decimal c.args.place ++ codes ": " in
    let word = rule_word c.args.rule in
    let part = rw (c.as_bytes.ensures.value, c.rule_word.ensures) at c.in_err-put_all.ensures in
    rw r.1 (PutsPrefix-longer a d (front ++ word) (codes "\n") true (PutsText-then a b d front word (Err r.0) c.in_ok-put_number.ensures part))

pub returns : goal.returns
returns g c =
    let sink = g.K.Sink in
    let a = sink.stream c.args.sink.now in
    let b = sink.stream c.put_number.new.errors in
    let d = sink.stream c.put_all.new.sink in
    let e = sink.stream c.put_all-2.new.sink in
    let front = codes "not legal at " ++ decimal c.args.place ++ codes ": " in
    let word = rule_word c.args.rule in
    let middle = rw (c.as_bytes.ensures.value, c.rule_word.ensures) at c.in_ok-put_all.ensures in
    PutsText-then a d e (front ++ word) (codes "\n") c.put_all-2.result (Receives-then a b d front word false c.in_ok-put_number.ensures middle) c.put_all-2.ensures
