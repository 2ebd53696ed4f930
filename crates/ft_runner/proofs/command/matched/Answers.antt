use Rattle.std.proofs.Common.{◌∙◌, Some, None, refl, sym, codes, option_map}
use Rattle.clap.specs.Words.{first_value, found_of}
use Rattle.ft_runner.proofs.MatchedRows.{matched_is}
use Rattle.ft_runner.proofs.command.matched.Goals as goal

pub returns-in-None : goal.returns-in-None
returns-in-None c =
    let met = c.in_ok-name.ensures in
    let found = found_of c.in_ok-name.arguments.now in
    c.named.ensures ∙ sym (matched_is c.args.matches.now c.in_ok-name.name.now found met.name met.rows None (first_value found (codes "mode")) c.in-None.ensures refl)

pub returns-in-Some : goal.returns-in-Some
returns-in-Some c =
    let met = c.in_ok-name.ensures in
    let found = found_of c.in_ok-name.arguments.now in
    c.made_command.ensures ∙ sym (matched_is c.args.matches.now c.in_ok-name.name.now found met.name met.rows (Some c.in-Some.calls.now) (option_map (λ mode. mode.now) c.get_str-in-Some.result) c.in-Some.ensures c.get_str-in-Some.ensures)
