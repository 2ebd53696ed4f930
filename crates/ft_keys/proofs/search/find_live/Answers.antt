use Rattle.std.proofs.Common.{◌≡◌, ℕ, ◌+◌, ◌≤◌, List, length, ap, ◌∙◌, subst, arith}
use Rattle.ft_hash.specs.Probes.{IsMask}
use Rattle.ft_keys.specs.declared.walk.Way.{Way}
use Rattle.ft_keys.specs.declared.search.Found.{Found}
use Rattle.ft_keys.specs.declared.search.Found.TheVariants.{At, Was, Free, Spent}
use Rattle.ft_keys.specs.Ways.{walk_slots}
use Rattle.ft_keys.specs.WalkCosts.{most_loads}
use Rattle.ft_keys.specs.Loads.{Searches}
use Rattle.ft_keys.proofs.Loading.{live-ended, live-passed, loads-was}
use Rattle.ft_keys.proofs.Reaching.{walk-long}
use Rattle.ft_keys.proofs.search.find_live.Goals as goal

cost-of-walk : (way : Way) (hash mask : ℕ) (first : List ℕ) (before later : ℕ) → first ≡ walk_slots way hash mask → later ≤ before + length first → later ≤ before + most_loads way mask
cost-of-walk way hash mask first before later whole few = let long = walk-long way hash mask in let same = ap length whole in omega arith

pub returns-in-At-clause-shows : goal.returns-in-At-clause-shows
returns-in-At-clause-shows g c =
    let mask = c.args.walk.now.mask in
    let key = c.args.key in
    let middle = c.entries.walk.left in
    let left = c.find.new.walk.left in
    let found : Found = At c.in-At.slot c.in-At.place in
    let is : IsMask mask = subst IsMask c.entries.invariant.same_mask c.find.ensures.mask.1 in
    let search = subst (λ (m : ℕ). Searches g.W.Words.gave m key middle left found c.entries.words c.find.new.words c.entries.steps c.find.new.steps) c.entries.invariant.same_mask c.in-At.ensures.searches in
    live-ended g.W.Words.gave mask key c.args.walk.now.left middle left found c.args.words.now c.entries.words c.find.new.words c.args.steps.now c.entries.steps c.find.new.steps is c.key_fits.ensures c.entries.invariant.shows search

pub returns-in-At-clause-first : goal.returns-in-At-clause-first
returns-in-At-clause-first g c way hash whole =
    let cost = c.find.ensures.cost in
    let so = c.entries.invariant.cost in
    cost-of-walk way hash c.args.walk.now.mask c.args.walk.now.left c.args.steps.now c.find.new.steps whole (omega arith)

pub returns-in-Free-clause-shows : goal.returns-in-Free-clause-shows
returns-in-Free-clause-shows g c =
    let mask = c.args.walk.now.mask in
    let key = c.args.key in
    let middle = c.entries.walk.left in
    let left = c.find.new.walk.left in
    let found : Found = Free c.in-Free.slot in
    let is : IsMask mask = subst IsMask c.entries.invariant.same_mask c.find.ensures.mask.1 in
    let search = subst (λ (m : ℕ). Searches g.W.Words.gave m key middle left found c.entries.words c.find.new.words c.entries.steps c.find.new.steps) c.entries.invariant.same_mask c.in-Free.ensures.searches in
    live-ended g.W.Words.gave mask key c.args.walk.now.left middle left found c.args.words.now c.entries.words c.find.new.words c.args.steps.now c.entries.steps c.find.new.steps is c.key_fits.ensures c.entries.invariant.shows search

pub returns-in-Free-clause-first : goal.returns-in-Free-clause-first
returns-in-Free-clause-first g c way hash whole =
    let cost = c.find.ensures.cost in
    let so = c.entries.invariant.cost in
    cost-of-walk way hash c.args.walk.now.mask c.args.walk.now.left c.args.steps.now c.find.new.steps whole (omega arith)

pub returns-in-Spent-clause-shows : goal.returns-in-Spent-clause-shows
returns-in-Spent-clause-shows g c =
    let mask = c.args.walk.now.mask in
    let key = c.args.key in
    let middle = c.entries.walk.left in
    let left = c.find.new.walk.left in
    let found : Found = Spent in
    let is : IsMask mask = subst IsMask c.entries.invariant.same_mask c.find.ensures.mask.1 in
    let search = subst (λ (m : ℕ). Searches g.W.Words.gave m key middle left found c.entries.words c.find.new.words c.entries.steps c.find.new.steps) c.entries.invariant.same_mask c.in-Spent.ensures.searches in
    live-ended g.W.Words.gave mask key c.args.walk.now.left middle left found c.args.words.now c.entries.words c.find.new.words c.args.steps.now c.entries.steps c.find.new.steps is c.key_fits.ensures c.entries.invariant.shows search

pub returns-in-Spent-clause-first : goal.returns-in-Spent-clause-first
returns-in-Spent-clause-first g c way hash whole =
    let cost = c.find.ensures.cost in
    let so = c.entries.invariant.cost in
    cost-of-walk way hash c.args.walk.now.mask c.args.walk.now.left c.args.steps.now c.find.new.steps whole (omega arith)

pub entries-preserved : goal.entries-preserved
entries-preserved g c =
    let mask = c.args.walk.now.mask in
    let key = c.args.key in
    let first = c.args.walk.now.left in
    let middle = c.entries.walk.left in
    let left = c.find.new.walk.left in
    let slot = c.in-Was.field-0 in
    let place = c.in-Was.field-1 in
    let search = subst (λ (m : ℕ). Searches g.W.Words.gave m key middle left (Was slot place) c.entries.words c.find.new.words c.entries.steps c.find.new.steps) c.entries.invariant.same_mask c.in-Was.ensures.searches in
    record {
      can = (c.find.ensures.can.0, λ may. c.find.ensures.can.1 (c.entries.invariant.can.1 may), c.find.ensures.can.2 ∙ c.entries.invariant.can.2);
      same_mask = c.find.ensures.mask.0 ∙ c.entries.invariant.same_mask;
      count = c.find.ensures.count ∙ c.entries.invariant.count;
      shows = live-passed g.W.Words.gave mask key first middle left slot place c.args.words.now c.entries.words c.find.new.words c.args.steps.now c.entries.steps c.find.new.steps c.entries.invariant.shows search;
      cost =
          let was = loads-was mask key middle left slot place search.calls search.loads in
          let steps = search.steps in
          let so = c.entries.invariant.cost in
          omega arith;
    }
