use Rattle.std.proofs.Common.{◌∙◌, refl, take, arith}
use Rattle.ft_bank.specs.Passes.{view}
use Rattle.ft_bank.specs.PassSections.{noted_in}
use Rattle.ft_section.proofs.Notes.{noted_all, noted_none}
use Rattle.ft_section.proofs.Releases.{let_none, let_as}
use Rattle.ft_section.proofs.Sweeping.{may_go, gone}
use Rattle.ft_section.proofs.letting.let_all_go.Goals as goal

pub loop-section-init : goal.loop-section-init
loop-section-init c = record { stack = (refl, refl); go = let_none (view c.args.pass.now) }

pub let_taking_go-requires : goal.let_taking_go-requires
let_taking_go-requires c =
    may_go c.args.bank.now c.args.pass.now c.loop-section.pass c.args.sections.now c.loop-section.section-index _ c.loop-section-test.true c.requires c.loop-section.invariant.stack c.loop-section.invariant.go

pub loop-section-preserved : goal.loop-section-preserved
loop-section-preserved c =
    let k = c.let_taking_go.ensures.stack in
    let j = c.loop-section.invariant.stack in
    record {
      stack = (k.0 ∙ j.0, k.1 ∙ j.1);
      go = gone c.args.pass.now c.loop-section.pass c.let_taking_go.new.pass c.args.sections.now c.loop-section.section-index _ c.loop-section-test.true c.loop-section.invariant.go c.let_taking_go.ensures.go;
    }

pub returns : goal.returns
returns c =
    let xs = c.args.sections.now in
    let i = c.loop-section.section-index in
    record {
      stack = c.loop-section.invariant.stack;
      go = let_as (view c.args.pass.now) (view c.loop-section.pass) (λ o. noted_in o (take i xs)) (λ o. noted_in o xs)
          (λ o. let a = noted_all o xs i in let z = noted_none o xs i c.loop-section-test.false in omega (arith, a, z)) c.loop-section.invariant.go;
    }
