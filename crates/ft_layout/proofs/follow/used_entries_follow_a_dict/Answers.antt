use Rattle.std.proofs.Common.{Some, ◌∙◌}
use Rattle.ft_layout.proofs.FollowLaws.{last_pair, live_pair, value_at, missing_key, changed_value, added_key, deleted_key}
use Rattle.ft_layout.proofs.WordsFollow.{first_pair, live_pairs}
use Rattle.ft_layout.proofs.follow.used_entries_follow_a_dict.Goals as goal

pub returns-clause-live : goal.returns-clause-live
returns-clause-live c = λ used dict place entry are is at live.
    let pair = live_pair used dict are is place entry at live in
    (pair.0, pair.1, value_at used dict are is place pair.0 (at ∙ λ i. Some (pair.1 i)))

pub returns-clause-missing : goal.returns-clause-missing
returns-clause-missing c = λ used dict key are none. missing_key used dict are key none

pub returns-clause-changed : goal.returns-clause-changed
returns-clause-changed c = λ used dict place pair value are is at. changed_value used dict are is place pair at value

pub returns-clause-added : goal.returns-clause-added
returns-clause-added c = λ used dict key value are none. added_key used dict are key none value

pub returns-clause-deleted : goal.returns-clause-deleted
returns-clause-deleted c = λ used dict place pair are is at. deleted_key used dict are is place pair at

pub returns-clause-live_alone : goal.returns-clause-live_alone
returns-clause-live_alone c = live_pairs

pub returns-clause-first : goal.returns-clause-first
returns-clause-first c = first_pair

pub returns-clause-last : goal.returns-clause-last
returns-clause-last c = λ used dict place pair are is at none. last_pair used dict are is place pair at none
