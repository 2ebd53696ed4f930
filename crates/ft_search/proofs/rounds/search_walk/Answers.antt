use Rattle.std.proofs.lemmas.Option.{none-some}
use Rattle.std.proofs.Common.{ℕ, List, [], ◌++◌, Some, None, refl, sym, ◌∙◌}
use Rattle.ft_trace.specs.declared.Act.{Act}
use Rattle.ft_bank.specs.Passes.{shape_of}
use Rattle.ft_bank.specs.TableNames.{table_id}
use Rattle.ft_search.specs.SearchCosts.{MayWalkOn, SpendsSearch}
use Rattle.ft_search.specs.Rounds.{Walked, TurnsAfter}
use Rattle.ft_search.proofs.Running.{same_trans, at_same}
use Rattle.ft_search.proofs.Spending.{spends_on}
use Rattle.ft_search.proofs.Walking.{turns_on}
use Rattle.ft_search.proofs.rounds.search_walk.Goals as goal

pub walk-init : goal.walk-init
walk-init c =
    record {
      can = c.next_slot.ensures.can;
      same = c.next_slot.ensures.same;
      mask = c.next_slot.ensures.same.mask ∙ c.requires.mask;
      front = c.in-Next.ensures.next.1;
      low = c.in-Next.ensures.next.0;
      turns = λ earlier w. c.in-Next.ensures.turns c.args.key earlier w;
      spends = c.in-Next.ensures.spends;
    }

pub returns-in-Ended-clause-turns : goal.returns-in-Ended-clause-turns
returns-in-Ended-clause-turns c earlier w = c.in-Ended.ensures.turns c.args.key earlier w

pub returns-in-Ended-clause-spends : goal.returns-in-Ended-clause-spends
returns-in-Ended-clause-spends c walked acts may =
    let h = c.in-Ended.ensures.spends walked acts may in
    (h.0, h.1, h.2, λ no. absurd (none-some c.in-Ended.looked (sym no)))

pub returns-in-Ended-try_slot-clause-turns : goal.returns-in-Ended-try_slot-clause-turns
returns-in-Ended-try_slot-clause-turns c earlier w =
    let s0 = c.args.words.now in
    let s1 = c.walk.words in
    let s2 = c.try_slot.new.words in
    let key = c.args.key in
    let old = c.walk.invariant.turns earlier w in
    let turns = at_same (λ k o t. (earlier : List Act) → Walked k o t key earlier c.walk.walk.left → TurnsAfter k o t key earlier c.try_slot.new.walk.left (Some c.in-Ended-try_slot.looked) s1.pass.now s2.pass.now) s0 s1 c.walk.invariant.same c.in-Ended-try_slot.ensures.turns in
    turns_on (shape_of s0.bank.now) s0.o (table_id s0.table) key old.0 earlier [] (Some c.in-Ended-try_slot.looked) s0.pass.now s1.pass.now s2.pass.now old.1 old.2 (turns (old.0 ++ earlier) old.3)

pub returns-in-Ended-try_slot-clause-spends : goal.returns-in-Ended-try_slot-clause-spends
returns-in-Ended-try_slot-clause-spends c walked acts may =
    let s0 = c.args.words.now in
    let s1 = c.walk.words in
    let s2 = c.try_slot.new.words in
    let t = table_id s0.table in
    let old = c.walk.invariant.spends walked acts may in
    let spends = at_same (λ k o t. (walked : List ℕ) (acts : List Act) → MayWalkOn t walked acts c.walk.walk.left → SpendsSearch t walked acts c.try_slot.new.walk.left (Some c.in-Ended-try_slot.looked) s1.pass.now s2.pass.now) s0 s1 c.walk.invariant.same c.in-Ended-try_slot.ensures.spends in
    let h = spends_on t walked old.0 acts c.try_slot.new.walk.left (Some c.in-Ended-try_slot.looked) s0.pass.now s1.pass.now s2.pass.now old.1 (spends walked (old.0 ++ acts) (old.3 refl)) in
    (h.0, h.1, h.2, λ no. absurd (none-some c.in-Ended-try_slot.looked (sym no)))

pub walk-preserved : goal.walk-preserved
walk-preserved c =
    let s0 = c.args.words.now in
    let s1 = c.walk.words in
    let s2 = c.try_slot.new.words in
    let t = table_id s0.table in
    let key = c.args.key in
    record {
      can = c.try_slot.ensures.can;
      same = same_trans s0 s1 s2 c.walk.invariant.same c.try_slot.ensures.same;
      mask = c.try_slot.ensures.same.mask ∙ (c.walk.invariant.mask ∙ sym c.try_slot.ensures.mask);
      front = c.in-Next-try_slot.ensures.next.1;
      low = c.in-Next-try_slot.ensures.next.0;
      turns = λ earlier w.
          let old = c.walk.invariant.turns earlier w in
          let turns = at_same (λ k o t. (earlier : List Act) → Walked k o t key earlier c.walk.walk.left → TurnsAfter k o t key earlier c.try_slot.new.walk.left None s1.pass.now s2.pass.now) s0 s1 c.walk.invariant.same c.in-Next-try_slot.ensures.turns in
          turns_on (shape_of s0.bank.now) s0.o t key old.0 earlier c.try_slot.new.walk.left None s0.pass.now s1.pass.now s2.pass.now old.1 old.2 (turns (old.0 ++ earlier) old.3);
      spends = λ walked acts may.
          let old = c.walk.invariant.spends walked acts may in
          let spends = at_same (λ k o t. (walked : List ℕ) (acts : List Act) → MayWalkOn t walked acts c.walk.walk.left → SpendsSearch t walked acts c.try_slot.new.walk.left None s1.pass.now s2.pass.now) s0 s1 c.walk.invariant.same c.in-Next-try_slot.ensures.spends in
          spends_on t walked old.0 acts c.try_slot.new.walk.left None s0.pass.now s1.pass.now s2.pass.now old.1 (spends walked (old.0 ++ acts) (old.3 refl));
    }
