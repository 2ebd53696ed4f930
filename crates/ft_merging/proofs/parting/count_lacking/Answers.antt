use Rattle.std.proofs.Common.{sym, ◌∙◌}
use Rattle.ft_keys.specs.declared.walk.Way.TheVariants as way
use Rattle.ft_trace.specs.Holds.{known_state}
use Rattle.ft_bank.specs.Passes.{shape_of, view}
use Rattle.ft_search.proofs.Changing.{kind_is}
use Rattle.ft_merging.proofs.Joined.{joined_more}
use Rattle.ft_merging.proofs.JoinedPairs.{source_known}
use Rattle.ft_merging.proofs.parting.count_lacking.Goals as goal

pub returns-clause-count : goal.returns-clause-count
returns-clause-count c =
    let a = c.args in
    let k = shape_of a.bank.now in
    let v = view a.pass.now in
    let s = source_known (record { pairs = c.used_entries_follow_a_dict.ensures.first; elements = c.used_entries_follow_a_set.ensures.first }) k a.t a.table v c.requires.pass.1 a.pass.now.possible c.requires.other way.Set c.requires.other_set in
    c.count_new.ensures.count s.used s.table_is s.filled
    ∙ sym (joined_more k way.Set a.t a.table v s (known_state a.s v).content (kind_is k v a.s c.requires.pass.1 a.pass.now.possible c.requires.may.locked ∙ c.requires.set)).1
