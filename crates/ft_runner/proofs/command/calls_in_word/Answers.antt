use Rattle.std.proofs.Common.{◌≡◌, ◌∙◌, true, sym}
use Rattle.ft_script.specs.LineWords.{is_positive}
use Rattle.ft_runner.proofs.CallCounts.{great_calls}
use Rattle.ft_runner.proofs.command.calls_in_word.Goals as goal

pub returns-in_err-calls : goal.returns-in_err-calls
returns-in_err-calls c =
    let positive : is_positive c.args.word.now ≡ true = sym (rw c.as_bytes.ensures.value at c.is_positive.ensures) ∙ c.if-not-is_positive.false in
    c.from_residual.ensures ∙ great_calls c.args.word.now positive c.parse.result c.parse.ensures.value.0 (sym c.ok.ensures.value ∙ c.in_err-calls.was)
