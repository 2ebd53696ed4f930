use Rattle.std.proofs.Common.{refl, sym, ap, ◌∙◌, subst}
use Rattle.ft_model.specs.declared.call.Call.{Call}
use Rattle.ft_model.specs.declared.call.Call.TheVariants as call
use Rattle.ft_model.specs.declared.call.SetCall.{SetCall}
use Rattle.ft_model.specs.declared.call.SetCall.TheVariants as set
use Rattle.ft_model.specs.declared.reply.Reply.TheVariants as reply
use Rattle.ft_bank.specs.Answered.{Answered}
use Rattle.ft_bank.specs.Passes.{shape_of, view}
use Rattle.ft_table_calls.proofs.GrowthMidst.{making_added, making_given}
use Rattle.ft_merging.proofs.JoinedCalls.{joins_cursors}
use Rattle.ft_parting.proofs.PartedSets.{parts_cursors}
use Rattle.ft_reads.proofs.CopyMidst.{making_copied}
use Rattle.ft_set.specs.SetMaking.{SetCallMakes}
use Rattle.ft_set.proofs.SetTries.{set_made, set_read}
use Rattle.ft_set.proofs.making.make_set.Goals as goal

-- ---- reads

pub returns-in-Has-clause-making : goal.returns-in-Has-clause-making
returns-in-Has-clause-making c = let e = c.has_locked.ensures in set_read c.requires.making e.pass e.sections e.answered

pub returns-in-Len-clause-making : goal.returns-in-Len-clause-making
returns-in-Len-clause-making c =
    let e = c.len_locked.ensures in
    let is = c.requires.call ∙ ap (λ (sc : SetCall). call.Set c.args.s sc) c.in-Len.is in
    set_read c.requires.making e.pass e.sections (subst (λ (x : Call). Answered x c.len_locked.result.0 c.len_locked.result.1.number (view c.args.pass.now) (view c.len_locked.new.pass)) is e.answered)

-- ---- calls that may take a table

pub returns-in-Add-clause-made : goal.returns-in-Add-clause-made
returns-in-Add-clause-made c = subst (λ (sc : SetCall). SetCallMakes (shape_of c.args.bank.now) c.args.s sc c.add.result (view c.args.pass.now) (view c.add.new.pass)) (sym c.in-Add.is) c.add.ensures.made

pub returns-in-Or-clause-making : goal.returns-in-Or-clause-making
returns-in-Or-clause-making c =
    let e = c.or_by.ensures in
    making_added c.args.bank.now c.args.pass.now c.or_by.new.pass c.requires.making e.pass e.stack e.added.0.0 e.added.0.1 _ _ _ (call.Set c.args.s (set.Or c.in-Or.other)) _ c.or_by.result (λ n l sections. refl) e.added.0.2

pub returns-in-Or-clause-made : goal.returns-in-Or-clause-made
returns-in-Or-clause-made c =
    let k = shape_of c.args.bank.now in
    let s = c.args.s in
    let v = view c.args.pass.now in
    let w = view c.or_by.new.pass in
    let added = c.or_by.ensures.added in
    subst (λ (sc : SetCall). SetCallMakes k s sc c.after.result v w) (sym c.in-Or.is)
    (c.or_by.result, sym c.after.ensures, added, joins_cursors k s c.in-Or.other (call.Set s (set.Or c.in-Or.other)) v w c.or_by.result added)

pub returns-in-Xor-clause-making : goal.returns-in-Xor-clause-making
returns-in-Xor-clause-making c =
    let e = c.xor_by.ensures in
    making_added c.args.bank.now c.args.pass.now c.xor_by.new.pass c.requires.making e.pass e.stack e.added.0 e.added.1 _ _ _ (call.Set c.args.s (set.Xor c.in-Xor.other)) _ c.xor_by.result (λ n l sections. refl) e.added.2

pub returns-in-Xor-clause-made : goal.returns-in-Xor-clause-made
returns-in-Xor-clause-made c =
    let k = shape_of c.args.bank.now in
    let s = c.args.s in
    let v = view c.args.pass.now in
    let w = view c.xor_by.new.pass in
    let added = c.xor_by.ensures.added in
    subst (λ (sc : SetCall). SetCallMakes k s sc c.after-in-Xor.result v w) (sym c.in-Xor.is)
    (c.xor_by.result, sym c.after-in-Xor.ensures, added, parts_cursors k s c.in-Xor.other (call.Set s (set.Xor c.in-Xor.other)) v w c.xor_by.result added)

-- ---- calls that make one whole write, or none

pub returns-in-And-clause-making : goal.returns-in-And-clause-making
returns-in-And-clause-making c = let e = c.and_locked.ensures in set_made c.requires.making e.pass e.stack e.made

pub returns-in-Sub-clause-making : goal.returns-in-Sub-clause-making
returns-in-Sub-clause-making c = let e = c.sub_locked.ensures in set_made c.requires.making e.pass e.stack e.made

pub returns-in-Remove-clause-making : goal.returns-in-Remove-clause-making
returns-in-Remove-clause-making c = let e = c.remove_locked.ensures in set_made c.requires.making e.pass e.stack e.made

pub returns-in-Pop-clause-making : goal.returns-in-Pop-clause-making
returns-in-Pop-clause-making c = let e = c.pop_locked.ensures in set_made c.requires.making e.pass e.stack e.made

pub returns-in-Eq-clause-making : goal.returns-in-Eq-clause-making
returns-in-Eq-clause-making c = let e = c.compare_locked.ensures in set_made c.requires.making e.pass e.stack e.made

pub returns-in-Subset-clause-making : goal.returns-in-Subset-clause-making
returns-in-Subset-clause-making c = let e = c.compare_locked-in-Subset.ensures in set_made c.requires.making e.pass e.stack e.made

pub returns-in-Disjoint-clause-making : goal.returns-in-Disjoint-clause-making
returns-in-Disjoint-clause-making c = let e = c.compare_locked-in-Disjoint.ensures in set_made c.requires.making e.pass e.stack e.made

pub returns-in-Clear-clause-making : goal.returns-in-Clear-clause-making
returns-in-Clear-clause-making c =
    let e = c.clear_by.ensures in
    let x = e.cleared.1 in
    making_given c.args.bank.now c.args.pass.now c.clear_by.new.pass c.requires.making e.pass e.stack x.0 x.1 (call.Set c.args.s set.Clear) reply.Done c.clear_by.result.number x.2

pub returns-in-Some-clause-making : goal.returns-in-Some-clause-making
returns-in-Some-clause-making c =
    let e = c.items_locked.ensures in
    making_copied c.args.bank.now c.args.pass.now c.items_locked.new.pass (call.Set c.args.s set.Items) c.items_locked.result (λ n l sections. refl) c.requires.making e.pass e.stack e.copied
