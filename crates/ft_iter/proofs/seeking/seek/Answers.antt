use Rattle.std.proofs.Common.{ℕ, Option, Some, None, sym, subst}
use Rattle.ft_iter.specs.Seeking.{Probed, FewProbes, FewHalvings, FewPassed, IsFirstAfter, IsFirstThere, Seeks}
use Rattle.ft_iter.proofs.Probing.{probed-as, probed-both, few-both, few-passed}
use Rattle.ft_iter.proofs.FollowingEntries.{seeks-after, seeks-first}
use Rattle.ft_iter.proofs.seeking.seek.Goals as goal

pub returns-in-Some-clause-seeks : goal.returns-in-Some-clause-seeks
returns-in-Some-clause-seeks g c =
    let gave = g.W.Words.gave in
    let mask = g.W.Words.mask c.args.words.now in
    let fill = c.args.fill in
    let last = c.in-Some.last in
    let from = c.first_after-from.result in
    let start = c.args.words.now in
    let between = c.first_after-from.new.words in
    let end = c.first_there.new.words in
    let found = c.first_there.result in
    let one = c.first_after-from.ensures.probed in
    let two = subst (λ (m : ℕ). Probed gave m between end c.first_after-from.new.steps c.first_there.new.steps FewPassed (λ ws. IsFirstThere m ws from fill found)) c.first_after-from.ensures.can.2 c.first_there.ensures.probed in
    let both = probed-both gave mask start between end c.args.steps.now c.first_after-from.new.steps c.first_there.new.steps (FewHalvings fill) FewPassed (FewProbes fill) (λ ws. IsFirstAfter mask ws fill last from) (λ ws. IsFirstThere mask ws from fill found) (few-both fill) one two in
    subst (λ (z : Option ℕ). Probed gave mask start end c.args.steps.now c.first_there.new.steps (FewProbes fill) (λ ws. Seeks mask ws fill z found)) (sym c.in-Some.is)
    (probed-as gave mask start end c.args.steps.now c.first_there.new.steps (FewProbes fill) (FewProbes fill) (λ ws. IsFirstAfter mask ws fill last from × IsFirstThere mask ws from fill found) (λ ws. Seeks mask ws fill (Some last) found) (λ calls few. few)
    (λ ws p. seeks-after mask ws fill last from found c.first_after-from.ensures.low p.0 p.1) both)

pub returns-in-None-clause-seeks : goal.returns-in-None-clause-seeks
returns-in-None-clause-seeks g c =
    let gave = g.W.Words.gave in
    let mask = g.W.Words.mask c.args.words.now in
    let fill = c.args.fill in
    let start = c.args.words.now in
    let end = c.first_there-in-None.new.words in
    let found = c.first_there-in-None.result in
    subst (λ (z : Option ℕ). Probed gave mask start end c.args.steps.now c.first_there-in-None.new.steps (FewProbes fill) (λ ws. Seeks mask ws fill z found)) (sym c.in-None.is)
    (probed-as gave mask start end c.args.steps.now c.first_there-in-None.new.steps FewPassed (FewProbes fill) (λ ws. IsFirstThere mask ws 0 fill found) (λ ws. Seeks mask ws fill None found) (few-passed fill)
    (λ ws p. seeks-first mask ws fill found p) c.first_there-in-None.ensures.probed)
