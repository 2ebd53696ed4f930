use Rattle.std.proofs.Math.Logic.{∥∥₁_map}
use Rattle.ft_runner.specs.Findings.{stored}
use Rattle.ft_runner.proofs.RunHistories.{contents_made, fitting_made, legal_made}
use Rattle.ft_runner.proofs.running.script_run.Goals as goal

pub returns-clause-run : goal.returns-clause-run
returns-clause-run c =
    let script = c.args.script.now in
    let history = c.args.history.items in
    let made = ∥∥₁_map c.requires.legal (λ x. (x.0, x.1)) in
    record {
      legal = c.legal_can_be_told.ensures stored script history (legal_made script history made);
      fitting = fitting_made script history made;
      contents = contents_made script history c.args.contents.items c.requires.legal;
      bank = c.requires.bank;
      entries = c.requires.entries;
    }
