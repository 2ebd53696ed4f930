use Rattle.std.proofs.Common.{◌≡◌, ◌∙◌, ℕ, sym, ap, eqb, take, Result, Err}
use Rattle.std.specs.Prelude.{count_by}
use Rattle.std.specs.Str.{valid_up_to}
use Rattle.ft_model.specs.declared.script.ScriptParts.{ScriptParts}
use Rattle.ft_script.specs.declared.fault.ScriptFault.{ScriptFault}
use Rattle.ft_script.specs.ReadScripts.{line_after, bad_line}
use Rattle.ft_script.proofs.WholeText.{script_bad}
use Rattle.ft_script.proofs.parser.check_encoding.Goals as goal

abbrev refused : ScriptFault → Result ScriptParts ScriptFault
refused found = Err found

pub returns-in-Err-clause-fault : goal.returns-in-Err-clause-fault
returns-in-Err-clause-fault c =
    let bytes = c.args.bytes.now in
    let error = c.in-Err.ensures in
    let line : c.bad_line.result ≡ bad_line bytes = c.bad_line.ensures ∙ ap (λ (n : ℕ). line_after (count_by (λ (b : ℕ). eqb b 10) (take n bytes))) (c.valid_up_to.ensures ∙ error.valid_len) in
    script_bad bytes (valid_up_to c.in-Err.error) c.bad_line.result error.cases.0 error.cases.1 error.valid_len line ∙ ap refused (sym c.at.ensures)
