use Rattle.std.proofs.Common.{None, ◌≡◌, ◌<◌, ℕ, ◌⊎◌, true, inl, inr, ap, ◌∙◌, subst, sym}
use Rattle.std.proofs.lemmas.Result.{IfErr-weaker, on_ok_weaker}
use Rattle.ft_bank.specs.Passes.{view}
use Rattle.ft_bank.specs.PassSections.{Stack, stack_of}
use Rattle.ft_section.proofs.Gains.{later_found}
use Rattle.ft_section.proofs.Releases.{only_then}
use Rattle.std.specs.Prelude.{Option}
use Rattle.ft_trace.specs.declared.Shape.{Shape}
use Rattle.ft_trace.specs.Addresses.{container_count}
use Rattle.ft_section.specs.Floors.{FindsSame, owner_of, owner_or, first_found}
use Rattle.ft_section.proofs.FloorLogs.{owner_none}
use Rattle.ft_trace.proofs.Owning.{locks_only_then, locks_only_weaker}
use Rattle.ft_section.proofs.locks.take_both.Goals as goal

pub returns-clause-locked : goal.returns-clause-locked
returns-clause-locked c =
    only_then (view c.args.pass.now) (view c.take_lower.new.pass) (view c.take_upper.new.pass) c.take_lower.ensures.locked c.take_upper.ensures.locked
    (λ p had has. c.take_lower.ensures.keeps p had)

pub returns-clause-found : goal.returns-clause-found
returns-clause-found c =
    let u = view c.args.pass.now in
    let v = view c.take_lower.new.pass in
    let w = view c.take_upper.new.pass in
    let upper = ap (λ (s : Stack). s.own.upper) c.take_lower.ensures.stack.1 in
    IfErr-weaker c.take_upper.result _ _ (λ e f. (inr (f.0 ∙ upper), later_found u v w e.0 e.1 c.take_lower.ensures.locked f.1)) c.take_upper.ensures.found

-- nobody had the lower one, so the upper one decides
pub returns-clause-known : goal.returns-clause-known
returns-clause-known c has =
    let u = view c.args.pass.now in
    let v = view c.take_lower.new.pass in
    let lower = c.args.lower in
    let upper = c.args.upper in
    let first : None ≡ owner_or lower (owner_of lower u) None = ap first_found (sym c.in_ok-take_lower.was) ∙ c.take_lower.ensures.known has in
    let here : (stack_of c.take_lower.new.pass).own.upper ≡ upper = ap (λ (s : Stack). s.own.upper) c.take_lower.ensures.stack.1 in
    let finds = c.in_ok-take_lower.ensures.finds has in
    let low : upper < container_count u.shape = subst (λ (k : Shape). upper < container_count k) (sym c.requires.inside.0.1) c.requires.containers.1 in
    let owner : owner_of upper v ≡ owner_of upper u = finds.1 upper low in
    c.take_upper.ensures.known finds.0 ∙ (ap (λ (o : ℕ). owner_or o (owner_of o v) None) here ∙ (ap (λ (q : Option ℕ). owner_or upper q None) owner
    ∙ sym (owner_none lower (owner_of lower u) (owner_or upper (owner_of upper u) None) first)))

pub returns-clause-only : goal.returns-clause-only
returns-clause-only c =
    let u = view c.args.pass.now in
    let v = view c.take_lower.new.pass in
    let w = view c.take_upper.new.pass in
    let P : ℕ → Type 0 = λ r. (r ≡ c.args.lower) ⊎ (r ≡ c.args.upper) in
    let upper : (stack_of c.take_lower.new.pass).own.upper ≡ c.args.upper = ap (λ (s : Stack). s.own.upper) c.take_lower.ensures.stack.1 in
    locks_only_then P u v w c.take_upper.ensures.locked.number
    (locks_only_weaker (λ r. r ≡ c.args.lower) P u v (λ r e. inl e) c.take_lower.ensures.only)
    (locks_only_weaker (λ r. r ≡ (stack_of c.take_lower.new.pass).own.upper) P v w (λ r e. inr (e ∙ upper)) c.take_upper.ensures.only)

pub returns-clause-finds : goal.returns-clause-finds
returns-clause-finds c =
    let u = view c.args.pass.now in
    let v = view c.take_lower.new.pass in
    let w = view c.take_upper.new.pass in
    let first : FindsSame u v = c.in_ok-take_lower.ensures.finds in
    let shapes : u.shape ≡ v.shape = c.requires.inside.0.1 ∙ sym c.take_lower.ensures.inside.0.1 in
    on_ok_weaker c.take_upper.result
    (λ (second : FindsSame v w) floor.
    let f = first floor in
    let s = second f.0 in
    (s.0, λ o low. s.1 o (subst (λ (k : Shape). o < container_count k) shapes low) ∙ f.1 o low, s.2 ∙ f.2))
    c.take_upper.ensures.finds
