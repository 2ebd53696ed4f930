use Rattle.std.proofs.Common.{◌≡◌, ℕ, sym, ap, ◌∙◌, subst, inl, inr}
use mathlib.Core.Logic.{dite}
use native.Mathlib.Decide.{ℕ_discrete}
use Rattle.ft_trace.specs.Boxes.{made_state}
use Rattle.ft_bank.specs.BoxSteps.{box_id}
use Rattle.ft_bank.specs.Passes.{view}
use Rattle.ft_boxes.specs.Merging.{FoundCounts}
use Rattle.ft_boxes.proofs.Heaps.{counts_then, loaded_keeps, loaded_then}
use Rattle.ft_boxes.proofs.merging.merge_if_idle.Goals as goal

pub returns-then-is_idle-clause-only : goal.returns-then-is_idle-clause-only
returns-then-is_idle-clause-only c =
    (loaded_then (view c.args.pass.now) (view c.is_idle.new.pass) (view c.merge.new.pass) c.args.pass.now.possible c.is_idle.ensures.only c.merge.ensures.only c.merge.ensures.values).0

pub returns-then-is_idle-clause-values : goal.returns-then-is_idle-clause-values
returns-then-is_idle-clause-values c =
    (loaded_then (view c.args.pass.now) (view c.is_idle.new.pass) (view c.merge.new.pass) c.args.pass.now.possible c.is_idle.ensures.only c.merge.ensures.only c.merge.ensures.values).1

pub returns-then-is_idle-clause-merges : goal.returns-then-is_idle-clause-merges
returns-then-is_idle-clause-merges c b =
    let v = view c.args.pass.now in
    let x = view c.is_idle.new.pass in
    let w = view c.merge.new.pass in
    let n = box_id c.args.b in
    let same = c.is_idle.ensures.only.boxes.made in
    dite (ℕ_discrete b n)
    (λ (e : b ≡ n).
    let found = counts_then n 0 v x w (c.is_idle.ensures.own c.if-is_idle.true).1 c.merge.ensures.only in
    inr (ap (λ (m : ℕ). made_state m w.log) e ∙ c.merge.ensures.merged, subst (λ (m : ℕ). FoundCounts m 0 v w) (sym e) found))
    (λ ne. inl (c.merge.ensures.others.state b ne ∙ same.state b, c.merge.ensures.others.local b ne ∙ same.local b))

pub returns-else-is_idle-clause-values : goal.returns-else-is_idle-clause-values
returns-else-is_idle-clause-values c = loaded_keeps (view c.args.pass.now) (view c.is_idle.new.pass) c.args.pass.now.possible c.is_idle.ensures.only
