use Rattle.std.proofs.Common.{refl, sym, ap, ◌∙◌, subst}
use Rattle.ft_model.specs.declared.call.Call.{Call}
use Rattle.ft_model.specs.declared.call.Call.TheVariants as call
use Rattle.ft_model.specs.declared.call.DictCall.{DictCall}
use Rattle.ft_model.specs.declared.call.DictCall.TheVariants as dict
use Rattle.ft_model.specs.declared.reply.Reply.TheVariants as reply
use Rattle.ft_model.specs.TableUses.{copy_takes}
use Rattle.ft_model.specs.Worlds.{length_of}
use Rattle.ft_trace.specs.Holds.{known_state}
use Rattle.ft_bank.specs.Answered.{Answered}
use Rattle.ft_bank.specs.Passes.{shape_of, view}
use Rattle.ft_table_calls.proofs.GrowthMidst.{making_added, making_given}
use Rattle.ft_merging.proofs.JoinedCalls.{joins_cursors}
use Rattle.ft_reads.proofs.CopyMidst.{making_copied}
use Rattle.ft_replacing.proofs.Comings.{replaced_making}
use Rattle.ft_dict.specs.DictMaking.{DictCallMakes}
use Rattle.ft_dict.proofs.DictTries.{dict_made, dict_read}
use Rattle.ft_dict.proofs.making.make_dict.Goals as goal

-- ---- reads

pub returns-in-Get-clause-making : goal.returns-in-Get-clause-making
returns-in-Get-clause-making c = let e = c.get_locked.ensures in dict_read c.requires.making e.pass e.sections e.answered

pub returns-in-GetOr-clause-making : goal.returns-in-GetOr-clause-making
returns-in-GetOr-clause-making c = let e = c.getd_locked.ensures in dict_read c.requires.making e.pass e.sections e.answered

pub returns-in-Has-clause-making : goal.returns-in-Has-clause-making
returns-in-Has-clause-making c = let e = c.has_locked.ensures in dict_read c.requires.making e.pass e.sections e.answered

pub returns-in-Len-clause-making : goal.returns-in-Len-clause-making
returns-in-Len-clause-making c =
    let e = c.len_locked.ensures in
    let is = c.requires.call ∙ ap (λ (dc : DictCall). call.Dict c.args.d dc) c.in-Len.is in
    dict_read c.requires.making e.pass e.sections (subst (λ (x : Call). Answered x c.len_locked.result.0 c.len_locked.result.1.number (view c.args.pass.now) (view c.len_locked.new.pass)) is e.answered)

-- ---- calls that may take a table

pub returns-in-Set-clause-made : goal.returns-in-Set-clause-made
returns-in-Set-clause-made c = subst (λ (dc : DictCall). DictCallMakes (shape_of c.args.bank.now) c.args.d dc c.set_value.result (view c.args.pass.now) (view c.set_value.new.pass)) (sym c.in-Set.is) c.set_value.ensures.made

pub returns-in-SetDefault-clause-made : goal.returns-in-SetDefault-clause-made
returns-in-SetDefault-clause-made c = subst (λ (dc : DictCall). DictCallMakes (shape_of c.args.bank.now) c.args.d dc c.set_default.result (view c.args.pass.now) (view c.set_default.new.pass)) (sym c.in-SetDefault.is) c.set_default.ensures.made

pub returns-in-Update-clause-making : goal.returns-in-Update-clause-making
returns-in-Update-clause-making c =
    let e = c.update_by.ensures in
    making_added c.args.bank.now c.args.pass.now c.update_by.new.pass c.requires.making e.pass e.stack e.added.0.0 e.added.0.1 _ _ _ (call.Dict c.args.d (dict.Update c.in-Update.other)) _ c.update_by.result (λ n l sections. refl) e.added.0.2

pub returns-in-Update-clause-made : goal.returns-in-Update-clause-made
returns-in-Update-clause-made c =
    let k = shape_of c.args.bank.now in
    let d = c.args.d in
    let v = view c.args.pass.now in
    let w = view c.update_by.new.pass in
    let added = c.update_by.ensures.added in
    subst (λ (dc : DictCall). DictCallMakes k d dc c.after.result v w) (sym c.in-Update.is)
    (c.update_by.result, sym c.after.ensures, added, joins_cursors k d c.in-Update.other (call.Dict d (dict.Update c.in-Update.other)) v w c.update_by.result added)

pub returns-in-CopyTo-clause-making : goal.returns-in-CopyTo-clause-making
returns-in-CopyTo-clause-making c =
    let a = c.args in
    let e = c.copyto_by.ensures in
    replaced_making a.bank.now a.pass.now c.copyto_by.new.pass c.requires.making e.pass e.stack (shape_of a.bank.now) (copy_takes (length_of (known_state a.d (view a.pass.now)).content)) (call.Dict a.d (dict.CopyTo c.in-CopyTo.other)) c.copyto_by.result (λ n l sections. refl) e.copied.0

-- ---- calls that make one whole write, or none

pub returns-in-Del-clause-making : goal.returns-in-Del-clause-making
returns-in-Del-clause-making c = let e = c.del_locked.ensures in dict_made c.requires.making e.pass e.stack e.made

pub returns-in-Pop-clause-making : goal.returns-in-Pop-clause-making
returns-in-Pop-clause-making c = let e = c.pop_locked.ensures in dict_made c.requires.making e.pass e.stack e.made

pub returns-in-PopOr-clause-making : goal.returns-in-PopOr-clause-making
returns-in-PopOr-clause-making c = let e = c.popd_locked.ensures in dict_made c.requires.making e.pass e.stack e.made

pub returns-in-PopItem-clause-making : goal.returns-in-PopItem-clause-making
returns-in-PopItem-clause-making c = let e = c.popitem_locked.ensures in dict_made c.requires.making e.pass e.stack e.made

pub returns-in-Eq-clause-making : goal.returns-in-Eq-clause-making
returns-in-Eq-clause-making c = let e = c.compare_locked.ensures in dict_made c.requires.making e.pass e.stack e.made

pub returns-in-Clear-clause-making : goal.returns-in-Clear-clause-making
returns-in-Clear-clause-making c =
    let e = c.clear_by.ensures in
    let x = e.cleared.1 in
    making_given c.args.bank.now c.args.pass.now c.clear_by.new.pass c.requires.making e.pass e.stack x.0 x.1 (call.Dict c.args.d dict.Clear) reply.Done c.clear_by.result.number x.2

pub returns-in-Some-clause-making : goal.returns-in-Some-clause-making
returns-in-Some-clause-making c =
    let e = c.items_locked.ensures in
    making_copied c.args.bank.now c.args.pass.now c.items_locked.new.pass (call.Dict c.args.d dict.Items) c.items_locked.result (λ n l sections. refl) c.requires.making e.pass e.stack e.copied
