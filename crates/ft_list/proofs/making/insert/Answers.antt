use Rattle.ft_model.specs.declared.call.ListCall.TheVariants as list
use Rattle.ft_bank.specs.Passes.{shape_of}
use Rattle.ft_list.proofs.ListTries.{list_added, list_boxed}
use Rattle.ft_list.proofs.making.insert.Goals as goal

pub returns-then-is_boxed-clause-making : goal.returns-then-is_boxed-clause-making
returns-then-is_boxed-clause-making c =
    let a = c.args in
    let e = c.insert_boxed.ensures in
    list_boxed a.bank.now a.pass.now c.insert_boxed.new.pass a.l (list.Insert _ a.value) c.requires.making e.pass e.stack e.boxes (shape_of a.bank.now) _ a.value c.insert_boxed.result e.added

pub returns-clause-making : goal.returns-clause-making
returns-clause-making c = let e = c.insert_by.ensures in list_added (shape_of c.args.bank.now) c.args.l _ (list.Insert _ c.args.value) c.insert_by.result c.requires.making e.pass e.stack e.added
