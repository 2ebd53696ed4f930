use Rattle.std.proofs.Common.{◌≡◌, ◌⊎◌, ℕ, inl, inr, ⊎_elim, ap, sym, subst, ◌∙◌}
use Rattle.ft_bank.specs.Passes.{view}
use Rattle.ft_bank.specs.declared.sections.Taking.{Taking}
use Rattle.ft_bank.specs.PassSections.{Stack, stack_of, taken_in}
use Rattle.ft_section.specs.Locking.{KeepsLower, with_own, waiting, first_mark}
use Rattle.ft_section.specs.Floors.{first_owned, got_by}
use Rattle.ft_section.proofs.Goings.{found_then}
use Rattle.ft_section.proofs.Releases.{only_then}
use Rattle.ft_section.specs.LockTakings.{IsOf}
use Rattle.ft_trace.proofs.Owning.{locks_only_then, locks_only_weaker, same_locks_only}
use Rattle.ft_section.proofs.calls.take_for.Goals as goal

pub returns-in-Err-clause-locked : goal.returns-in-Err-clause-locked
returns-in-Err-clause-locked c =
    only_then (view c.args.pass.now) (view c.take_both.new.pass) (view c.wait.new.pass) c.take_both.ensures.locked c.wait.ensures.locked (λ p had has. c.take_both.ensures.keeps p had)

pub returns-in-Err-clause-found : goal.returns-in-Err-clause-found
returns-in-Err-clause-found c =
    let f = c.in-Err.ensures.found in
    let order = c.in_order-lower.ensures in (
      ⊎_elim (λ (e : c.in-Err.o ≡ c.in_order-lower.result.0). inl (e ∙ order.0)) (λ (e : c.in-Err.o ≡ c.in_order-lower.result.1). inr (e ∙ order.1)) f.0,
      found_then (view c.args.pass.now) (view c.take_both.new.pass) (view c.wait.new.pass) c.in-Err.o c.in-Err.owner f.1 c.wait.ensures.locked,
    )

pub returns-in-Ok-clause-within : goal.returns-in-Ok-clause-within
returns-in-Ok-clause-within c =
    let order = c.in_order-lower.ensures in
    locks_only_weaker (λ r. (r ≡ c.in_order-lower.result.0) ⊎ (r ≡ c.in_order-lower.result.1)) (λ r. IsOf r c.args.objects) (view c.args.pass.now) (view c.take_both.new.pass)
    (λ r e. ⊎_elim (λ (z : r ≡ c.in_order-lower.result.0). inl (z ∙ order.0)) (λ (z : r ≡ c.in_order-lower.result.1). inr (z ∙ order.1)) e) c.take_both.ensures.only

pub returns-in-Err-clause-within : goal.returns-in-Err-clause-within
returns-in-Err-clause-within c =
    let order = c.in_order-lower.ensures in
    let P : ℕ → Type 0 = λ r. IsOf r c.args.objects in
    let u = view c.args.pass.now in
    let v = view c.take_both.new.pass in
    let w = view c.wait.new.pass in
    locks_only_then P u v w c.wait.ensures.locked.number
    (locks_only_weaker (λ r. (r ≡ c.in_order-lower.result.0) ⊎ (r ≡ c.in_order-lower.result.1)) P u v
    (λ r e. ⊎_elim (λ (z : r ≡ c.in_order-lower.result.0). inl (z ∙ order.0)) (λ (z : r ≡ c.in_order-lower.result.1). inr (z ∙ order.1)) e) c.take_both.ensures.only)
    (same_locks_only P v w c.wait.ensures.owners)

pub returns-in-Err-clause-waiting : goal.returns-in-Err-clause-waiting
returns-in-Err-clause-waiting c =
    let order = c.in_order-lower.ensures in
    let stack = c.wait.ensures.stack in
    let own = ap (λ (s : Stack). s.own) stack in
    let named = c.take_both.ensures.containers in
    let lower = ap (λ (t : Taking). t.lower) own ∙ (named.0 ∙ order.0) in
    let upper = ap (λ (t : Taking). t.upper) own ∙ (named.1 ∙ order.1) in
    let took = ap (λ (t : Taking). t.took_upper) own ∙ c.in-Err.ensures.none in
    record {
      waits = record {
        inside = c.wait.ensures.inside;
        owner = first_mark (stack_of c.take_both.new.pass).mark c.in-Err.owner;
        mark = ap (λ (s : Stack). s.mark) stack;
        suspended = c.wait.ensures.suspended;
        own = inr (lower, upper, took);
      };
      stack = stack ∙ ap (λ (s : Stack). waiting s c.in-Err.owner) (c.take_both.ensures.stack ∙ ap (λ (t : Taking). with_own (stack_of c.args.pass.now) t) (sym own));
      kept = subst (λ (l : ℕ). KeepsLower l c.in-Err.o c.args.pass.now c.wait.new.pass) order.0 (λ r. ap (taken_in r) own ∙ c.in-Err.ensures.kept r);
      within = returns-in-Err-clause-within c;
      known = λ has. ap got_by (c.in-Err.ensures.known has ∙ (λ i. first_owned (order.0 i) (order.1 i) (view c.args.pass.now)));
    }
