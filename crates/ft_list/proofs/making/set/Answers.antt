use Rattle.std.proofs.Common.{ℤ, sym, ◌∙◌, subst, inr}
use mir.Syntax.{w64}
use mir.Val.{to_z, of_z}
use Rattle.std.proofs.Math.Facts.{to_z-of_z}
use Rattle.ft_bank.specs.Passes.{shape_of, view}
use Rattle.ft_table_calls.specs.declared.made.Made.{Made}
use Rattle.ft_table_calls.specs.declared.made.Made.TheVariants.{Done as done}
use Rattle.ft_list.specs.ListMaking.{SetsItem}
use Rattle.ft_list.proofs.ListTries.{list_made, list_set_boxed}
use Rattle.ft_list.proofs.making.set.Goals as goal

pub returns-then-is_boxed-clause-making : goal.returns-then-is_boxed-clause-making
returns-then-is_boxed-clause-making c =
    let a = c.args in
    let e = c.set_boxed.ensures in
    list_set_boxed a.bank.now a.pass.now c.set_boxed.new.pass a.l _ a.value c.requires.making e.pass e.stack e.boxes (shape_of a.bank.now) _ _ e.made

pub returns-then-is_boxed-clause-made : goal.returns-then-is_boxed-clause-made
returns-then-is_boxed-clause-made c =
    let a = c.args in
    let k = shape_of a.bank.now in
    let v = view a.pass.now in
    let w = view c.set_boxed.new.pass in
    let z = to_z w64 (of_z w64 a.index) in
    subst (λ (m : Made). SetsItem k a.l a.index a.value m v w) (sym c.done.ensures)
    (subst (λ (i : ℤ). SetsItem k a.l i a.value (done c.set_boxed.result.0 c.set_boxed.result.1) v w) (to_z-of_z {w = w64} {z = a.index} c.ranges.index) (inr (sym c.is_boxed.ensures ∙ c.if-is_boxed.true, c.set_boxed.ensures.made)))

pub returns-clause-making : goal.returns-clause-making
returns-clause-making c = let e = c.set_locked.ensures in list_made c.requires.making e.pass e.stack e.made
