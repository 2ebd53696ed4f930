use Rattle.std.proofs.Common.{sym, ap, ◌∙◌}
use Rattle.ft_keys.specs.declared.walk.Way.{Way}
use Rattle.ft_trace.specs.Addresses.{places}
use Rattle.ft_trace.specs.Kinds.{rows}
use Rattle.ft_search.specs.Rounds.{kind_by}
use Rattle.ft_search.proofs.rounds.entries_of.Goals as goal

pub returns-in-Dict : goal.returns-in-Dict
unfolding places
returns-in-Dict c = c.dict_entries.ensures ∙ sym (ap (λ (way : Way). rows (kind_by way) c.args.class) c.in-Dict.is)
