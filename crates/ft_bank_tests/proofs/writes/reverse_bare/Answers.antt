use Rattle.std.proofs.Common.{sym, ap, ◌∙◌}
use Rattle.ft_trace.specs.declared.Act.TheVariants.{ReadBlock}
use Rattle.ft_trace.specs.Pictures.{root_in}
use Rattle.ft_bank.specs.Passes.{view}
use Rattle.ft_bank.proofs.KnownAfterWrites.{loaded_by, loaded_held}
use Rattle.ft_bank_tests.proofs.writes.reverse_bare.Goals as goal

pub returns-then-read_block-ne0-clause-none : goal.returns-then-read_block-ne0-clause-none
returns-then-read_block-ne0-clause-none c none =
    loaded_by (ReadBlock c.args.l 0 c.read_block.result) (view c.args.pass.now) (view c.read_block.new.pass) tt c.read_block.ensures.did.1

pub returns-clause-reversed : goal.returns-clause-reversed
returns-clause-reversed c =
    let v = view c.args.pass.now in
    let w = view c.read_block.new.pass in
    let only = loaded_by (ReadBlock c.args.l 0 c.read_block.result) v w tt c.read_block.ensures.did.1 in
    record {
      loaded = w;
      only = only;
      bare = ap root_in (loaded_held v w c.args.l only) ∙ (sym (c.read_block.ensures.held c.requires.may.locked) ∙ c.if-read_block-ne0.false);
      wrote = c.reverse.ensures.wrote;
      still_bare = c.reverse.ensures.still_bare;
      raised = c.reverse.ensures.raised;
      merged = λ merged. c.reverse.ensures.merged (λ b own. merged b (sym (only.boxes.made.state b) ∙ own));
    }
