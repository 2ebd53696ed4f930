use Rattle.std.proofs.Common.{refl, sym}
use Rattle.ft_model.specs.declared.call.Call.TheVariants as call
use Rattle.ft_model.specs.declared.call.SetCall.TheVariants as set
use Rattle.ft_model.specs.declared.reply.Reply.TheVariants as reply
use Rattle.ft_bank.specs.Passes.{shape_of, view}
use Rattle.ft_table_calls.proofs.GrowthMidst.{making_added}
use Rattle.ft_new_keys.proofs.Cursors.{puts_cursors}
use Rattle.ft_set.proofs.making.add.Goals as goal

pub returns-clause-making : goal.returns-clause-making
returns-clause-making c =
    let e = c.add_by.ensures in
    making_added c.args.bank.now c.args.pass.now c.add_by.new.pass c.requires.making e.pass e.stack e.added.0 e.added.1 _ _ _ (call.Set c.args.s (set.Add c.args.key)) _ c.add_by.result (λ n l sections. refl) e.added.2

pub returns-clause-made : goal.returns-clause-made
returns-clause-made c =
    let a = c.args in
    let added = c.add_by.ensures.added in
    (c.add_by.result, sym c.after.ensures, added, puts_cursors (shape_of a.bank.now) a.s a.key (call.Set a.s (set.Add a.key)) reply.Done (view a.pass.now) (view c.add_by.new.pass) c.add_by.result added)
