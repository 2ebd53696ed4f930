use Rattle.std.proofs.Common.{◌≡◌}
use Rattle.ft_bank.specs.Passes.{view}
use Rattle.ft_section.specs.declared.answers.Objects.TheVariants.{One}
use Rattle.ft_section.specs.Ready.{MayTry}
use Rattle.ft_reuse_tests.proofs.banks.fill_list.Given as goal

abbrev pub invariant-loop-value : goal.invariant-loop-value
invariant-loop-value l = record {
  may : MayTry l.bank l.pass (One l.l);
  next : (view l.pass).next ≡ (view l.fn.pass).next;
}
