use Rattle.std.proofs.Common.{◌≡◌, ◌+◌, ℕ, Bool, Some, true, false, refl, sym, ap, ◌∙◌, subst, arith}
use Rattle.std.proofs.lemmas.Bool.{le-ltb}
use Rattle.std.specs.Prelude.{Option, nat_lt}
use Rattle.ft_table_calls.proofs.Unmade.{not_made}
use Rattle.ft_model.specs.declared.call.Call.{Call}
use Rattle.ft_model.specs.Classes.{most_items}
use Rattle.ft_model.specs.TableUses.{CanLackMemory, list_takes, would_pass}
use Rattle.ft_bank.specs.Passes.{shape_of, view}
use Rattle.ft_list.specs.ListItemWrites.{known_items}
use Rattle.ft_table_calls.specs.declared.adding.Added.{Added}
use Rattle.ft_list.specs.HeldValues.{IsAddedStoring}
use Rattle.ft_list.specs.Internal.Additions.{count_in, stored_in, with_added}
use Rattle.ft_list.specs.Internal.NewListTables.{list_use_of}
use Rattle.ft_list.proofs.Additions.{knows_of, over_passes}
use Rattle.ft_list.proofs.Extending.{added_few, added_long, knows_few}
use Rattle.ft_list.proofs.adding.add_to.Goals as goal

pub overflow_add-total : goal.overflow_add-total
overflow_add-total c =
    let a = c.args in
    let k = shape_of a.bank.now in
    let v = view a.pass.now in
    let f = knows_few k a.l v (knows_of k a.l a.old v c.requires.may.list) c.requires.pass.1 a.pass.now.possible in
    let g = added_few k a.count a.addition v c.requires.pass.1 a.pass.now.possible c.requires.addition in
    let n = c.requires.count in
    let e = c.added_count.ensures in
    omega (arith, f, g, n, e)

pub class_wanted-requires : goal.class_wanted-requires
class_wanted-requires c = record { table = λ t is. (c.requires.may.list.table_in t is).0 }

pub answer_over-requires-clause-over : goal.answer_over-requires-clause-over
answer_over-requires-clause-over c stored has =
    let a = c.args in
    let k = shape_of a.bank.now in
    let v = view a.pass.now in
    let r = c.requires.call in
    let values = known_items a.l v in
    let news = with_added a.addition v values in
    let total = a.count + count_in a.addition in
    let e = c.added_count.ensures in
    let past = c.if-total.true in
    subst (λ (z : Call). CanLackMemory stored.world z × (would_pass stored.world z ≡ true)) (sym r.1)
    (over_passes k a.l a.old v c.requires.may.list c.requires.pass.1 a.pass.now.possible r.0 total news r.2 (added_long k a.count a.addition v values c.requires.addition c.requires.count) (omega (arith, e, past)) stored has)

pub returns-in-Some-clause-added : goal.returns-in-Some-clause-added
returns-in-Some-clause-added c =
    let a = c.args in
    let k = shape_of a.bank.now in
    let total = a.count + count_in a.addition in
    let e = c.added_count.ensures in
    let few = c.if-total.false in
    let takes : Some c.in-Some.class ≡ list_takes (list_use_of a.old) total = sym c.in-Some.is ∙ (c.class_wanted.ensures.class ∙ ap (λ (n : ℕ). list_takes (list_use_of a.old) (a.count + n)) e) in
    let over : false ≡ nat_lt most_items total = sym (le-ltb most_items total (omega (arith, e, few))) in
    subst (λ (x : Option ℕ × Bool × Added). IsAddedStoring k x.0 x.1 (stored_in a.addition) a.called.now (view a.pass.now) (view c.add_in_taken.new.pass) x.2)
    (λ d. (takes d, over d, sym c.anew.ensures d)) c.add_in_taken.ensures.added

pub returns-then-total-clause-named : goal.returns-then-total-clause-named
returns-then-total-clause-named c made = not_made _ refl made

pub returns-in-Some-clause-named : goal.returns-in-Some-clause-named
returns-in-Some-clause-named c made = c.add_in_taken.ensures.named (made.0, sym c.anew.ensures ∙ made.1)
