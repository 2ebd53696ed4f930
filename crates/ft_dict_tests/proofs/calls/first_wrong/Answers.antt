use Rattle.ft_dict_tests.proofs.calls.first_wrong.Goals as goal

pub loop-place-preserved : goal.loop-place-preserved
loop-place-preserved g c objects =
    let done = c.is_made.ensures c.if-not-is_made.false in
    c.attempt-step.ensures.may done.0 done.1 done.2 objects
