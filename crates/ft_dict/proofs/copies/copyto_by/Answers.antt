use Rattle.ft_model.specs.declared.call.Call.TheVariants as call
use Rattle.ft_model.specs.declared.call.DictCall.TheVariants as dict
use Rattle.ft_model.specs.TableUses.{copy_takes}
use Rattle.ft_model.specs.Worlds.{length_of}
use Rattle.ft_trace.specs.Holds.{known_state}
use Rattle.ft_bank.specs.Passes.{shape_of, view}
use Rattle.ft_replacing.proofs.Comings.{replaced_cursors}
use Rattle.ft_dict.proofs.CopiedDicts.{copies}
use Rattle.ft_dict.proofs.copies.copyto_by.Goals as goal

pub copy_into-requires-clause-replaces : goal.copy_into-requires-clause-replaces
copy_into-requires-clause-replaces c =
    let a = c.args in
    copies (shape_of a.bank.now) a.d a.e (view a.pass.now) c.requires.pass.1 a.pass.now.possible c.requires.may c.requires.other c.requires.dict c.requires.other_dict

pub returns-clause-cursors : goal.returns-clause-cursors
returns-clause-cursors c =
    let a = c.args in
    replaced_cursors (shape_of a.bank.now) (copy_takes (length_of (known_state a.d (view a.pass.now)).content)) (call.Dict a.d (dict.CopyTo a.e)) (view a.pass.now) (view c.copy_into.new.pass) c.copy_into.result c.copy_into.ensures.replaced

pub returns-clause-copied : goal.returns-clause-copied
returns-clause-copied c = (c.copy_into.ensures.replaced, c.copy_into.ensures.shares)
