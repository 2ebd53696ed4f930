use Rattle.std.proofs.Common.{ℕ, ◌+◌, not, ◌&&◌, ◌||◌, length, sym, ap, subst, ◌∙◌, cond, eqb, ltb}
use Rattle.std.specs.Prelude.{IfSome}
use Rattle.ft_model.specs.declared.call.Call.TheVariants as call
use Rattle.ft_model.specs.declared.call.SetCall.{SetCall}
use Rattle.ft_model.specs.declared.script.Kind.TheVariants as kind
use Rattle.ft_model.specs.Calls.{other_set}
use Rattle.ft_model.specs.Contents.{SetContent, has_element, those_not_in}
use Rattle.ft_model.specs.TableUses.{would_pass}
use Rattle.ft_model.specs.Worlds.{IsOfKind, set_at}
use Rattle.ft_history.proofs.PassingLemmas.{set_add_passes, set_or_passes, set_xor_passes}
use Rattle.ft_history.proofs.passing.set_would_pass.Goals as goal

pub returns-in-Add : goal.returns-in-Add
returns-in-Add c =
    ap (λ n. ltb 39321 n) c.length_with_element.ensures
    ∙ ap (λ (s : SetContent). ltb 39321 (length s.elements + cond (has_element s.elements c.in-Add.key) 0 1)) c.set-set.ensures
    ∙ set_add_passes c.args.world.now c.args.place c.requires.one c.in-Add.key
    ∙ ap (λ (called : SetCall). would_pass c.args.world.now (call.Set c.args.place called)) (sym c.in-Add.is)

pub returns-in-Or : goal.returns-in-Or
returns-in-Or c =
    let other : ℕ = c.in-Or.other in
    let world = c.args.world.now in
    let both : IsOfKind world kind.Set other = subst (λ (called : SetCall). IfSome (other_set called) (λ o. IsOfKind world kind.Set o)) c.in-Or.is c.requires.both in
    c.one_passes.ensures
    ∙ ap (λ n. ltb 39321 (n + c.new_elements.result) || (not (eqb c.args.place other) && ltb 39321 c.len-count.result)) (c.len.ensures.length ∙ ap (λ (s : SetContent). length s.elements) c.set-set.ensures)
    ∙ ap (λ n. ltb 39321 (length (set_at world c.args.place).elements + n) || (not (eqb c.args.place other) && ltb 39321 c.len-count.result))
    (c.new_elements.ensures.elements ∙ ap (λ (s : SetContent). length (those_not_in s.elements c.set-others.result.now.elements)) c.set-set.ensures ∙ ap (λ (s : SetContent). length (those_not_in (set_at world c.args.place).elements s.elements)) c.set-others.ensures)
    ∙ ap (λ n. ltb 39321 (length (set_at world c.args.place).elements + length (those_not_in (set_at world c.args.place).elements (set_at world other).elements)) || (not (eqb c.args.place other) && ltb 39321 n)) (c.len-count.ensures.length ∙ ap (λ (s : SetContent). length s.elements) c.set-others.ensures)
    ∙ set_or_passes world c.args.place c.requires.one other both
    ∙ ap (λ (called : SetCall). would_pass world (call.Set c.args.place called)) (sym c.in-Or.is)

pub returns-in-Xor : goal.returns-in-Xor
returns-in-Xor c =
    let other : ℕ = c.in-Xor.other in
    let world = c.args.world.now in
    let both : IsOfKind world kind.Set other = subst (λ (called : SetCall). IfSome (other_set called) (λ o. IsOfKind world kind.Set o)) c.in-Xor.is c.requires.both in
    c.one_passes-in-Xor.ensures
    ∙ ap (λ n. ltb 39321 (n + c.new_elements-in-Xor-2.result) || (not (eqb c.args.place other) && ltb 39321 c.len-count-in-Xor.result))
    (c.new_elements-in-Xor.ensures.elements ∙ ap (λ (s : SetContent). length (those_not_in c.set-others-in-Xor.result.now.elements s.elements)) c.set-set.ensures ∙ ap (λ (s : SetContent). length (those_not_in s.elements (set_at world c.args.place).elements)) c.set-others-in-Xor.ensures)
    ∙ ap (λ n. ltb 39321 (length (those_not_in (set_at world other).elements (set_at world c.args.place).elements) + n) || (not (eqb c.args.place other) && ltb 39321 c.len-count-in-Xor.result))
    (c.new_elements-in-Xor-2.ensures.elements ∙ ap (λ (s : SetContent). length (those_not_in s.elements c.set-others-in-Xor.result.now.elements)) c.set-set.ensures ∙ ap (λ (s : SetContent). length (those_not_in (set_at world c.args.place).elements s.elements)) c.set-others-in-Xor.ensures)
    ∙ ap (λ n. ltb 39321 (length (those_not_in (set_at world other).elements (set_at world c.args.place).elements) + length (those_not_in (set_at world c.args.place).elements (set_at world other).elements)) || (not (eqb c.args.place other) && ltb 39321 n)) (c.len-count-in-Xor.ensures.length ∙ ap (λ (s : SetContent). length s.elements) c.set-others-in-Xor.ensures)
    ∙ set_xor_passes world c.args.place c.requires.one other both
    ∙ ap (λ (called : SetCall). would_pass world (call.Set c.args.place called)) (sym c.in-Xor.is)
