use Rattle.std.proofs.Common.{ℕ, Some, None, ◌++◌, length, ap, ◌∙◌, subst, arith}
use Rattle.ft_keys.specs.Loads.{TriesOne}
use Rattle.ft_keys.proofs.Shown.{runs-append, index-loads-append}
use Rattle.ft_keys.proofs.Loading.{so-far-more, so-far-ended, loads-cost}
use Rattle.ft_keys.proofs.Reaching.{walk-long}
use Rattle.ft_keys.proofs.search.find.Goals as goal

pub returns-in-Some-clause-searches : goal.returns-in-Some-clause-searches
returns-in-Some-clause-searches g c =
    let mask = c.args.walk.now.mask in
    let key = c.args.key in
    let first = c.args.walk.now.left in
    let middle = c.slots.walk.left in
    let left = c.try_slot.new.walk.left in
    let found = c.in-Some.found in
    let so = c.slots.invariant.loads in
    let one = c.in-Some.ensures.loads in
    let tries = subst (λ (m : ℕ). TriesOne m key middle left (Some found) one.0) c.slots.invariant.same_mask one.2 in
    record {
      calls = one.0 ++ so.0;
      runs = runs-append g.W.Words.gave c.args.words.now c.slots.words c.try_slot.new.words so.0 one.0 so.1 one.1;
      loads = so-far-ended mask key first middle left found so.0 one.0 so.2 tries;
      steps = let all = index-loads-append so.0 one.0 in let a = so.3 in let b = one.3 in omega arith;
    }

pub returns-in-Some-clause-cost : goal.returns-in-Some-clause-cost
returns-in-Some-clause-cost g c =
    let search = returns-in-Some-clause-searches g c in
    let few = loads-cost c.args.walk.now.mask c.args.key c.args.walk.now.left c.try_slot.new.walk.left c.in-Some.found search.calls search.loads in
    let steps = search.steps in
    omega arith

pub returns-in-Some-clause-first : goal.returns-in-Some-clause-first
returns-in-Some-clause-first g c way hash whole =
    let long = walk-long way hash c.args.walk.now.mask in
    let same = ap length whole in
    let few = returns-in-Some-clause-cost g c in
    omega arith

pub slots-preserved : goal.slots-preserved
slots-preserved g c =
    let mask = c.args.walk.now.mask in
    let key = c.args.key in
    let first = c.args.walk.now.left in
    let middle = c.slots.walk.left in
    let left = c.try_slot.new.walk.left in
    let so = c.slots.invariant.loads in
    let one = c.in_default.ensures.loads in
    let tries = subst (λ (m : ℕ). TriesOne m key middle left None one.0) c.slots.invariant.same_mask one.2 in
    record {
      can = (c.try_slot.ensures.can.0, λ may. c.try_slot.ensures.can.1 (c.slots.invariant.can.1 may), c.try_slot.ensures.can.2 ∙ c.slots.invariant.can.2);
      same_mask = c.try_slot.ensures.mask.0 ∙ c.slots.invariant.same_mask;
      count = c.try_slot.ensures.count ∙ c.slots.invariant.count;
      loads = (
        one.0 ++ so.0,
        runs-append g.W.Words.gave c.args.words.now c.slots.words c.try_slot.new.words so.0 one.0 so.1 one.1,
        so-far-more mask key first middle left so.0 one.0 so.2 tries,
        (let all = index-loads-append so.0 one.0 in let a = so.3 in let b = one.3 in omega arith),
      );
    }
