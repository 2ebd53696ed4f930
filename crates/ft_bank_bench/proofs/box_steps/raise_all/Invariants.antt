use Rattle.ft_bank.specs.BoxSteps.{box_id, IsBoxIn}
use Rattle.ft_bank.specs.Passes.{shape_of, view}
use Rattle.ft_trace.specs.SeenBoxes.{SawBox}
use Rattle.ft_bank_bench.specs.Counting.{MayCount}
use Rattle.ft_bank_bench.proofs.box_steps.raise_all.Given as goal

abbrev pub invariant-loop : goal.invariant-loop
invariant-loop l = record {
  counts : MayCount l.bank l.pass;
  name : IsBoxIn (shape_of l.bank) l.b;
  saw : SawBox (shape_of l.bank) (box_id l.b) (view l.pass).log;
}
