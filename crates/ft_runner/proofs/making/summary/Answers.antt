use Rattle.std.proofs.Common.{◌∙◌, ap, ap₂, length, sym, refl}
use Rattle.ft_model.specs.Histories.{world_at, writes}
use Rattle.ft_script.specs.ReadScripts.{read_script}
use Rattle.ft_runner.specs.Internal.Summaries.{shown_length_in}
use Rattle.ft_runner.specs.Making.{summary_text}
use Rattle.ft_runner.proofs.ShownLengths.{lengths_shown}
use Rattle.ft_runner.proofs.making.summary.Goals as goal

pub returns : goal.returns
returns c =
    let run = c.in_ok-run.run' in
    let history = run.history.items in
    let came = c.in_ok-run.ensures in
    let script = c.in-Ok.script in
    let read = ap read_script (sym (c.deref.ensures.value ∙ c.in_ok-made.ensures)) ∙ c.in-Ok.ensures.read in
    record {
      script = script;
      read = read;
      legal = came.run.legal;
      order = came.order;
      fitting = came.run.fitting;
      left = (run.closed, refl, record { script = script; read = read; bank = came.run.bank; entries = came.run.entries });
      written = c.in_ok-text.ensures
          ∙ (ap₂ (λ entries contents. summary_text c.args.calls entries (shown_length_in contents)) c.deref-2.ensures.value (c.deref-3.ensures.value ∙ came.run.contents)
          ∙ ap (summary_text c.args.calls history) (lengths_shown (world_at script history (length (writes history)))));
    }
