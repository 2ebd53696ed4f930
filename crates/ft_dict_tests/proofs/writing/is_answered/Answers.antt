use Rattle.ft_dict_tests.proofs.Readers.{entered, looked}
use Rattle.ft_dict_tests.proofs.writing.is_answered.Goals as goal

pub returns : goal.returns
returns c =
    let b = c.args.bank.now in
    let p = c.args.reader.now in
    let q = c.enter.new.pass in
    let d = c.enter.ensures.did in
    record { pass = looked b q c.look_get.new.pass (entered b p q c.requires.pass c.enter.ensures.pass _ d.0 d.1) c.look_get.ensures.pass 0 _ _ c.look_get.result c.look_get.ensures.looked }
