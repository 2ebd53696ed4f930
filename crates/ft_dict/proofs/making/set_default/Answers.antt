use Rattle.std.proofs.Common.{sym, ◌∙◌, inl, inr}
use Rattle.ft_model.specs.declared.call.Call.TheVariants as call
use Rattle.ft_model.specs.declared.call.DictCall.TheVariants as dict
use Rattle.ft_bank.specs.Passes.{shape_of, view}
use Rattle.ft_new_keys.proofs.Cursors.{puts_cursors}
use Rattle.ft_dict.proofs.DictTries.{default_boxed, dict_put}
use Rattle.ft_dict.proofs.making.set_default.Goals as goal

pub returns-then-is_boxed-clause-making : goal.returns-then-is_boxed-clause-making
returns-then-is_boxed-clause-making c =
    let a = c.args in
    let r = c.setdefault_boxed-added.result in
    let e = c.setdefault_boxed-added.ensures in
    default_boxed a.bank.now a.pass.now c.setdefault_boxed-added.new.pass a.d c.requires.making e.pass e.stack e.boxes (shape_of a.bank.now) a.key a.default r.1 r.0 e.put

pub returns-then-is_boxed-clause-made : goal.returns-then-is_boxed-clause-made
returns-then-is_boxed-clause-made c =
    let r = c.setdefault_boxed-added.result in
    let e = c.setdefault_boxed-added.ensures in
    (r.1, (r.0, sym c.after.ensures, inr (sym c.is_boxed.ensures ∙ c.if-is_boxed.true, e.put), e.cursors))

pub returns-clause-making : goal.returns-clause-making
returns-clause-making c =
    let a = c.args in
    let r = c.setdefault_by-added.result in
    let e = c.setdefault_by-added.ensures in
    dict_put (shape_of a.bank.now) a.d a.key (dict.SetDefault a.key a.default) r.1 r.0 c.requires.making e.pass e.stack e.added.1

pub returns-clause-made : goal.returns-clause-made
returns-clause-made c =
    let a = c.args in
    let r = c.setdefault_by-added.result in
    let added = c.setdefault_by-added.ensures.added in
    let put = puts_cursors (shape_of a.bank.now) a.d a.key (call.Dict a.d (dict.SetDefault a.key a.default)) r.1 (view a.pass.now) (view c.setdefault_by-added.new.pass) r.0 added.1 in
    (r.1, (r.0, sym c.after-2.ensures, inl (sym c.is_boxed.ensures ∙ c.if-is_boxed.false, added), put))
