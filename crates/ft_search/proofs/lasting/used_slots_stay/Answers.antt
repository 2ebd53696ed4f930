use Rattle.ft_bank.specs.Passes.{view}
use Rattle.ft_search.proofs.IndexWordsStay.{slots_stay}
use Rattle.ft_search.proofs.lasting.used_slots_stay.Goals as goal

pub returns : goal.returns
returns c = slots_stay (view c.args.pass.now) c.args.pass.now.possible
