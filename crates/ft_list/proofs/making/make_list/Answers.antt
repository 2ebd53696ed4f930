use Rattle.std.proofs.Common.{rules, ℤ, sym, ap, ◌∙◌, subst}
use mir.Syntax.{w64}
use mir.Val.{SFits, to_z, of_z}
use Rattle.std.proofs.Math.Facts.{to_z-of_z}
use Rattle.ft_model.specs.declared.call.Call.TheVariants as call
use Rattle.ft_model.specs.declared.call.ListCall.{ListCall}
use Rattle.ft_model.specs.declared.call.ListCall.TheVariants as list
use Rattle.ft_bank.specs.Passes.{shape_of, view}
use Rattle.ft_model.specs.declared.call.Call.{Call}
use Rattle.ft_bank.specs.Answered.{Answered}
use Rattle.ft_list.specs.ListMaking.{ListCallMakes}
use Rattle.ft_list.proofs.ListTries.{list_added, list_cleared, list_copied, list_made, list_read}
use Rattle.ft_list.proofs.making.make_list.Goals as goal

pub returns-in-Extend-clause-making : goal.returns-in-Extend-clause-making
returns-in-Extend-clause-making c = let e = c.extend_by.ensures in list_added (shape_of c.args.bank.now) c.args.l _ (list.Extend c.in-Extend.other) c.extend_by.result c.requires.making e.pass e.stack e.added

pub returns-in-Del-clause-making : goal.returns-in-Del-clause-making
returns-in-Del-clause-making c = let e = c.del_locked.ensures in list_made c.requires.making e.pass e.stack e.made

pub returns-in-Pop-clause-making : goal.returns-in-Pop-clause-making
returns-in-Pop-clause-making c = let e = c.pop_locked.ensures in list_made c.requires.making e.pass e.stack e.made

pub returns-in-Remove-clause-making : goal.returns-in-Remove-clause-making
returns-in-Remove-clause-making c = let e = c.remove_locked.ensures in list_made c.requires.making e.pass e.stack e.made

pub returns-in-Reverse-clause-making : goal.returns-in-Reverse-clause-making
returns-in-Reverse-clause-making c = let e = c.reverse_locked.ensures in list_made c.requires.making e.pass e.stack e.made

pub returns-in-Clear-clause-making : goal.returns-in-Clear-clause-making
returns-in-Clear-clause-making c = let e = c.clear_by.ensures in list_cleared c.requires.making e.pass e.stack e.cleared

pub returns-in-Index-clause-making : goal.returns-in-Index-clause-making
returns-in-Index-clause-making c = let e = c.index_locked.ensures in list_made c.requires.making e.pass e.stack e.made

pub returns-in-Count-clause-making : goal.returns-in-Count-clause-making
returns-in-Count-clause-making c = let e = c.count_locked.ensures in list_made c.requires.making e.pass e.stack e.made

pub returns-in-Has-clause-making : goal.returns-in-Has-clause-making
returns-in-Has-clause-making c = let e = c.has_locked.ensures in list_made c.requires.making e.pass e.stack e.made

pub returns-in-Eq-clause-making : goal.returns-in-Eq-clause-making
returns-in-Eq-clause-making c = let e = c.eq_locked.ensures in list_made c.requires.making e.pass e.stack e.made

pub returns-in-Get-clause-making : goal.returns-in-Get-clause-making
returns-in-Get-clause-making c = let e = c.get_locked.ensures in list_read c.requires.making e.pass e.sections e.answered

pub returns-in-Some-clause-making : goal.returns-in-Some-clause-making
returns-in-Some-clause-making c = let e = c.slice_locked.ensures in list_copied c.args.l (list.Slice (to_z w64 (of_z w64 c.in-Slice.start)) (to_z w64 (of_z w64 c.in-Slice.end))) c.slice_locked.result c.requires.making e.pass e.stack e.copied

pub returns-in-Some-alloc-clause-making : goal.returns-in-Some-alloc-clause-making
returns-in-Some-alloc-clause-making c = let e = c.items_locked.ensures in list_copied c.args.l list.Items c.items_locked.result c.requires.making e.pass e.stack e.copied

pub returns-in-Len-clause-making : goal.returns-in-Len-clause-making
returns-in-Len-clause-making c =
    let e = c.len_locked.ensures in
    let is = c.requires.call ∙ ap (λ (lc : ListCall). call.List c.args.l lc) c.in-Len.is in
    list_read c.requires.making e.pass e.sections (subst (λ (x : Call). Answered x c.len_locked.result.0 c.len_locked.result.1.number (view c.args.pass.now) (view c.len_locked.new.pass)) is e.answered)

pub returns-in-Insert-clause-made : goal.returns-in-Insert-clause-made
returns-in-Insert-clause-made c =
    let k = shape_of c.args.bank.now in
    let l = c.args.l in
    let v = view c.args.pass.now in
    let w = view c.insert.new.pass in
    let fits : SFits w64 c.in-Insert.index = search rules in
    let same = to_z-of_z {w = w64} {z = c.in-Insert.index} fits in
    subst (λ (lc : ListCall). ListCallMakes k l lc c.insert.result v w) (sym c.in-Insert.is)
    (subst (λ (i : ℤ). ListCallMakes k l (list.Insert i c.in-Insert.value) c.insert.result v w) same c.insert.ensures.made)
