use Rattle.std.proofs.Common.{◌≡◌, ℕ, not, ◌&&◌, ◌||◌, None, length, sym, ap, subst, ◌∙◌, eqb, ltb}
use Rattle.std.specs.Prelude.{IfSome}
use Rattle.ft_model.specs.declared.call.Call.TheVariants as call
use Rattle.ft_model.specs.declared.call.DequeCall.{DequeCall}
use Rattle.ft_model.specs.declared.script.Kind.TheVariants as kind
use Rattle.ft_model.specs.Calls.{other_deque}
use Rattle.ft_model.specs.Deques.{DequeContent}
use Rattle.ft_model.specs.TableUses.{would_pass}
use Rattle.ft_model.specs.Worlds.{IsOfKind, deque_at}
use Rattle.ft_history.specs.Internal.Accounts.{length_with_items}
use Rattle.ft_history.proofs.PassingLemmas.{deque_append_passes, deque_append_left_passes, deque_extend_passes, deque_extend_left_passes}
use Rattle.ft_history.proofs.passing.deque_would_pass.Goals as goal

pub returns-in-Append : goal.returns-in-Append
returns-in-Append c =
    ap (λ n. ltb 65536 n) c.length_with_items.ensures
    ∙ ap (λ (q : DequeContent). ltb 65536 (length_with_items q 1)) c.deque-deque.ensures
    ∙ deque_append_passes c.args.world.now c.args.place c.requires.one c.in-Append.value
    ∙ ap (λ (called : DequeCall). would_pass c.args.world.now (call.Deque c.args.place called)) (sym c.in-Append.is)

pub returns-in-AppendLeft : goal.returns-in-AppendLeft
returns-in-AppendLeft c =
    ap (λ n. ltb 65536 n) c.length_with_items-in-AppendLeft.ensures
    ∙ ap (λ (q : DequeContent). ltb 65536 (length_with_items q 1)) c.deque-deque.ensures
    ∙ deque_append_left_passes c.args.world.now c.args.place c.requires.one c.in-AppendLeft.value
    ∙ ap (λ (called : DequeCall). would_pass c.args.world.now (call.Deque c.args.place called)) (sym c.in-AppendLeft.is)

pub returns-in-Extend : goal.returns-in-Extend
returns-in-Extend c =
    let other : ℕ = c.in-Extend.other in
    let both : IsOfKind c.args.world.now (kind.Deque None) other = subst (λ (called : DequeCall). IfSome (other_deque called) (λ o. IsOfKind c.args.world.now (kind.Deque None) o)) c.in-Extend.is c.requires.both in
    let count : c.len-count.result ≡ length (deque_at c.args.world.now other).items = c.len-count.ensures.length ∙ ap (λ (q : DequeContent). length q.items) c.deque.ensures in
    c.one_passes.ensures
    ∙ ap (λ n. ltb 65536 n || (not (eqb c.args.place other) && ltb 65536 c.len-count.result)) (c.length_with_items-after.ensures ∙ ap (λ (q : DequeContent). length_with_items q c.len-count.result) c.deque-deque.ensures)
    ∙ ap (λ n. ltb 65536 (length_with_items (deque_at c.args.world.now c.args.place) n) || (not (eqb c.args.place other) && ltb 65536 n)) count
    ∙ deque_extend_passes c.args.world.now c.args.place c.requires.one other both
    ∙ ap (λ (called : DequeCall). would_pass c.args.world.now (call.Deque c.args.place called)) (sym c.in-Extend.is)

pub returns-in-ExtendLeft : goal.returns-in-ExtendLeft
returns-in-ExtendLeft c =
    let other : ℕ = c.in-ExtendLeft.other in
    let both : IsOfKind c.args.world.now (kind.Deque None) other = subst (λ (called : DequeCall). IfSome (other_deque called) (λ o. IsOfKind c.args.world.now (kind.Deque None) o)) c.in-ExtendLeft.is c.requires.both in
    let count : c.len-count-in-ExtendLeft.result ≡ length (deque_at c.args.world.now other).items = c.len-count-in-ExtendLeft.ensures.length ∙ ap (λ (q : DequeContent). length q.items) c.deque-in-ExtendLeft.ensures in
    c.one_passes-in-ExtendLeft.ensures
    ∙ ap (λ n. ltb 65536 n || (not (eqb c.args.place other) && ltb 65536 c.len-count-in-ExtendLeft.result)) (c.length_with_items-after-in-ExtendLeft.ensures ∙ ap (λ (q : DequeContent). length_with_items q c.len-count-in-ExtendLeft.result) c.deque-deque.ensures)
    ∙ ap (λ n. ltb 65536 (length_with_items (deque_at c.args.world.now c.args.place) n) || (not (eqb c.args.place other) && ltb 65536 n)) count
    ∙ deque_extend_left_passes c.args.world.now c.args.place c.requires.one other both
    ∙ ap (λ (called : DequeCall). would_pass c.args.world.now (call.Deque c.args.place called)) (sym c.in-ExtendLeft.is)
