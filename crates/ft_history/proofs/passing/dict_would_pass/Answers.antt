use Rattle.std.proofs.Common.{ℕ, ◌+◌, not, ◌&&◌, ◌||◌, length, sym, ap, subst, ◌∙◌, cond, eqb, ltb}
use Rattle.ft_model.specs.declared.call.Call.TheVariants as call
use Rattle.ft_model.specs.declared.call.DictCall.{DictCall}
use Rattle.ft_model.specs.declared.script.Kind.TheVariants as kind
use Rattle.ft_model.specs.Calls.{other_dict}
use Rattle.ft_model.specs.Contents.{DictContent, has_key, dict_update}
use Rattle.ft_model.specs.TableUses.{would_pass}
use Rattle.ft_model.specs.Worlds.{IsOfKind, dict_at}
use Rattle.std.specs.Prelude.{IfSome}
use Rattle.ft_history.proofs.PassingLemmas.{dict_set_passes, dict_default_passes, dict_update_passes, dict_copy_passes}
use Rattle.ft_history.proofs.passing.dict_would_pass.Goals as goal

pub returns-in-Set : goal.returns-in-Set
returns-in-Set c =
    ap (λ n. ltb 43690 n) c.length_with_key.ensures
    ∙ ap (λ (d : DictContent). ltb 43690 (length d.pairs + cond (has_key d.pairs c.in-Set.key) 0 1)) c.dict-dict.ensures
    ∙ dict_set_passes c.args.world.now c.args.place c.requires.one c.in-Set.key c.in-Set.value
    ∙ ap (λ (called : DictCall). would_pass c.args.world.now (call.Dict c.args.place called)) (sym c.in-Set.is)

pub returns-in-SetDefault : goal.returns-in-SetDefault
returns-in-SetDefault c =
    ap (λ n. ltb 43690 n) c.length_with_key-in-SetDefault.ensures
    ∙ ap (λ (d : DictContent). ltb 43690 (length d.pairs + cond (has_key d.pairs c.in-SetDefault.key) 0 1)) c.dict-dict.ensures
    ∙ dict_default_passes c.args.world.now c.args.place c.requires.one c.in-SetDefault.key c.in-SetDefault.default
    ∙ ap (λ (called : DictCall). would_pass c.args.world.now (call.Dict c.args.place called)) (sym c.in-SetDefault.is)

pub returns-in-Update : goal.returns-in-Update
returns-in-Update c =
    let other : ℕ = c.in-Update.other in
    let both : IsOfKind c.args.world.now kind.Dict other = subst (λ (called : DictCall). IfSome (other_dict called) (λ o. IsOfKind c.args.world.now kind.Dict o)) c.in-Update.is c.requires.both in
    c.one_passes.ensures
    ∙ ap (λ n. ltb 43690 n || (not (eqb c.args.place other) && ltb 43690 c.len-count.result)) c.length_with_keys.ensures
    ∙ ap (λ n. ltb 43690 (length (dict_update c.dict-dict.result.now c.dict-others.result.now.pairs).pairs) || (not (eqb c.args.place other) && ltb 43690 n)) c.len-count.ensures.length
    ∙ ap (λ (d : DictContent). ltb 43690 (length (dict_update d c.dict-others.result.now.pairs).pairs) || (not (eqb c.args.place other) && ltb 43690 (length c.dict-others.result.now.pairs))) c.dict-dict.ensures
    ∙ ap (λ (d : DictContent). ltb 43690 (length (dict_update (dict_at c.args.world.now c.args.place) d.pairs).pairs) || (not (eqb c.args.place other) && ltb 43690 (length d.pairs))) c.dict-others.ensures
    ∙ dict_update_passes c.args.world.now c.args.place c.requires.one other both
    ∙ ap (λ (called : DictCall). would_pass c.args.world.now (call.Dict c.args.place called)) (sym c.in-Update.is)

pub returns-in-CopyTo : goal.returns-in-CopyTo
returns-in-CopyTo c =
    let other : ℕ = c.in-CopyTo.other in
    let both : IsOfKind c.args.world.now kind.Dict other = subst (λ (called : DictCall). IfSome (other_dict called) (λ o. IsOfKind c.args.world.now kind.Dict o)) c.in-CopyTo.is c.requires.both in
    ap (λ n. ltb 43690 n) c.len.ensures.length
    ∙ ap (λ (d : DictContent). ltb 43690 (length d.pairs)) c.dict-dict.ensures
    ∙ dict_copy_passes c.args.world.now c.args.place c.requires.one other both
    ∙ ap (λ (called : DictCall). would_pass c.args.world.now (call.Dict c.args.place called)) (sym c.in-CopyTo.is)
