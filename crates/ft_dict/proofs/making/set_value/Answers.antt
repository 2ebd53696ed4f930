use Rattle.std.proofs.Common.{sym, ◌∙◌, inl, inr}
use Rattle.ft_model.specs.declared.call.Call.TheVariants as call
use Rattle.ft_model.specs.declared.call.DictCall.TheVariants as dict
use Rattle.ft_model.specs.declared.reply.Reply.TheVariants as reply
use Rattle.ft_bank.specs.Passes.{shape_of, view}
use Rattle.ft_new_keys.proofs.Cursors.{puts_cursors}
use Rattle.ft_dict.proofs.DictTries.{dict_boxed, dict_put}
use Rattle.ft_dict.proofs.making.set_value.Goals as goal

pub returns-then-is_boxed-clause-making : goal.returns-then-is_boxed-clause-making
returns-then-is_boxed-clause-making c =
    let a = c.args in
    let e = c.set_boxed.ensures in
    dict_boxed a.bank.now a.pass.now c.set_boxed.new.pass a.d (dict.Set a.key a.value) c.requires.making e.pass e.stack e.boxes (shape_of a.bank.now) a.key a.value reply.Done c.set_boxed.result e.put

pub returns-then-is_boxed-clause-made : goal.returns-then-is_boxed-clause-made
returns-then-is_boxed-clause-made c =
    let e = c.set_boxed.ensures in
    (c.set_boxed.result, sym c.after.ensures, inr (sym c.is_boxed.ensures ∙ c.if-is_boxed.true, e.put), e.cursors)

pub returns-clause-making : goal.returns-clause-making
returns-clause-making c = let e = c.set_by.ensures in dict_put (shape_of c.args.bank.now) c.args.d c.args.key (dict.Set c.args.key c.args.value) reply.Done c.set_by.result c.requires.making e.pass e.stack e.added

pub returns-clause-made : goal.returns-clause-made
returns-clause-made c =
    let a = c.args in
    let added = c.set_by.ensures.added in
    let put = puts_cursors (shape_of a.bank.now) a.d a.key (call.Dict a.d (dict.Set a.key a.value)) reply.Done (view a.pass.now) (view c.set_by.new.pass) c.set_by.result added in
    (c.set_by.result, sym c.after-2.ensures, inl (sym c.is_boxed.ensures ∙ c.if-is_boxed.false, added), put)
