use Rattle.std.proofs.Common.{◌∙◌, sym, ap, inl, inr, Result, Ok}
use Rattle.std.proofs.lemmas.Result.{err_from_is_err_and}
use Rattle.ft_model.specs.declared.script.ScriptParts.{ScriptParts}
use Rattle.ft_script.specs.declared.fault.ScriptFault.{ScriptFault}
use Rattle.ft_script.specs.Internal.Outcomes.{draft_of}
use Rattle.ft_script.proofs.KeptScripts.{read_has_text}
use Rattle.ft_script.proofs.WholeText.{script_read, script_refused}
use Rattle.ft_script.proofs.parser.parse.Goals as goal

abbrev done : ScriptParts → Result ScriptParts ScriptFault
done parts = Ok parts

pub new-requires : goal.new-requires
new-requires c = (read_has_text c.args.bytes.now (draft_of c.in_ok-draft.draft) _ c.in_ok-check_encoding.ensures.ok c.in_ok-draft.ensures.read c.in_ok-into_parts.ensures).rule

pub returns-in_err-draft-clause-fault : goal.returns-in_err-draft-clause-fault
returns-in_err-draft-clause-fault c =
    let p = err_from_is_err_and c.from_residual-in_err-draft.result c.from_residual-in_err-draft.ensures.1 in
    rw (p.1, p.2) (elim c.in_err-draft.ensures.fault [
      | inl memory ↦ inl memory
      | inr found ↦ inr (script_refused c.args.bytes.now c.in_err-draft.field-0.0 c.in_ok-check_encoding.ensures.ok found)
    ])

pub returns-clause-read : goal.returns-clause-read
returns-clause-read c =
    script_read c.args.bytes.now (Ok (draft_of c.in_ok-draft.draft)) c.new.result c.in_ok-check_encoding.ensures.ok c.in_ok-draft.ensures.read (ap done (sym (c.new.ensures ∙ c.in_ok-into_parts.ensures)))
