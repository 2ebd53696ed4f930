use Rattle.std.proofs.Common.{ℕ, ◌+◌, not, ◌&&◌, ◌||◌, List, length, sym, ap, subst, ◌∙◌, eqb, ltb}
use Rattle.std.specs.Prelude.{IfSome}
use Rattle.ft_model.specs.declared.call.Call.TheVariants as call
use Rattle.ft_model.specs.declared.call.ListCall.{ListCall}
use Rattle.ft_model.specs.declared.data.Value.{Value}
use Rattle.ft_model.specs.declared.script.Kind.TheVariants as kind
use Rattle.ft_model.specs.Calls.{other_list}
use Rattle.ft_model.specs.TableUses.{would_pass}
use Rattle.ft_model.specs.Worlds.{IsOfKind, list_at}
use Rattle.ft_history.proofs.PassingLemmas.{list_append_passes, list_insert_passes, list_extend_passes}
use Rattle.ft_history.proofs.passing.list_would_pass.Goals as goal

pub returns-in-Append : goal.returns-in-Append
returns-in-Append c =
    ap (λ n. ltb 65536 (n + 1)) c.len.ensures.length
    ∙ ap (λ (items : List Value). ltb 65536 (length items + 1)) c.list-list.ensures
    ∙ list_append_passes c.args.world.now c.args.place c.requires.one c.in-Append.value
    ∙ ap (λ (called : ListCall). would_pass c.args.world.now (call.List c.args.place called)) (sym c.in-Append.is)

pub returns-in-Insert : goal.returns-in-Insert
returns-in-Insert c =
    ap (λ n. ltb 65536 (n + 1)) c.len-in-Insert.ensures.length
    ∙ ap (λ (items : List Value). ltb 65536 (length items + 1)) c.list-list.ensures
    ∙ list_insert_passes c.args.world.now c.args.place c.requires.one c.in-Insert.index c.in-Insert.value
    ∙ ap (λ (called : ListCall). would_pass c.args.world.now (call.List c.args.place called)) (sym c.in-Insert.is)

pub returns-in-Extend : goal.returns-in-Extend
returns-in-Extend c =
    let other : ℕ = c.in-Extend.other in
    let both : IsOfKind c.args.world.now kind.List other = subst (λ (called : ListCall). IfSome (other_list called) (λ o. IsOfKind c.args.world.now kind.List o)) c.in-Extend.is c.requires.both in
    c.one_passes.ensures
    ∙ ap (λ n. ltb 65536 (n + c.len-count.result) || (not (eqb c.args.place other) && ltb 65536 c.len-count.result)) (c.len-in-Extend.ensures.length ∙ ap (λ (items : List Value). length items) c.list-list.ensures)
    ∙ ap (λ n. ltb 65536 (length (list_at c.args.world.now c.args.place) + n) || (not (eqb c.args.place other) && ltb 65536 n)) (c.len-count.ensures.length ∙ ap (λ (items : List Value). length items) c.list.ensures)
    ∙ list_extend_passes c.args.world.now c.args.place c.requires.one other both
    ∙ ap (λ (called : ListCall). would_pass c.args.world.now (call.List c.args.place called)) (sym c.in-Extend.is)
