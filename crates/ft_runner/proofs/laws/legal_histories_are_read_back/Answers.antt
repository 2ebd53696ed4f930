use Rattle.ft_model.specs.Histories.{writes, world_at}
use Rattle.ft_runner.proofs.ReadableWorlds.{lines_of_world}
use Rattle.ft_runner.proofs.WrittenTexts.{is_found_legal, is_read_back}
use Rattle.std.proofs.Common.{length}
use Rattle.ft_runner.proofs.laws.legal_histories_are_read_back.Goals as goal

pub returns : goal.returns
returns c text script history read ended legal =
    (lines_of_world script (world_at script history (length (writes history))), is_read_back text script read ended history legal, is_found_legal text script read ended history legal)
