use Rattle.ft_model.specs.declared.call.ListCall.TheVariants as list
use Rattle.ft_bank.specs.Passes.{shape_of}
use Rattle.ft_list.proofs.ListTries.{list_added, list_boxed}
use Rattle.ft_list.proofs.making.append.Goals as goal

pub returns-then-is_boxed-clause-making : goal.returns-then-is_boxed-clause-making
returns-then-is_boxed-clause-making c =
    let a = c.args in
    let e = c.append_boxed.ensures in
    list_boxed a.bank.now a.pass.now c.append_boxed.new.pass a.l (list.Append a.value) c.requires.making e.pass e.stack e.boxes (shape_of a.bank.now) _ a.value c.append_boxed.result e.added

pub returns-clause-making : goal.returns-clause-making
returns-clause-making c = let e = c.append_by.ensures in list_added (shape_of c.args.bank.now) c.args.l _ (list.Append c.args.value) c.append_by.result c.requires.making e.pass e.stack e.added
