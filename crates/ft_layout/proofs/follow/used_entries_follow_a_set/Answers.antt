use Rattle.std.proofs.Common.{Some, ◌∙◌}
use Rattle.ft_layout.proofs.FollowLaws.{first_out, live_element, present_element, kept_element, missing_element, added_element_is, deleted_element}
use Rattle.ft_layout.proofs.WordsFollow.{first_element, live_elements}
use Rattle.ft_layout.proofs.follow.used_entries_follow_a_set.Goals as goal

pub returns-clause-live : goal.returns-clause-live
returns-clause-live c = λ used set place entry are is at live.
    let element = live_element used set are is place entry at live in
    let here = at ∙ λ i. Some (element.1 i) in
    (element.0, element.1, present_element used set are is place element.0 here, kept_element used set are is place element.0 here)

pub returns-clause-missing : goal.returns-clause-missing
returns-clause-missing c = λ used set key are none. missing_element used set are key none

pub returns-clause-added : goal.returns-clause-added
returns-clause-added c = λ used set key are none. added_element_is used set are key none

pub returns-clause-deleted : goal.returns-clause-deleted
returns-clause-deleted c = λ used set place element are is at. deleted_element used set are is place element at

pub returns-clause-live_alone : goal.returns-clause-live_alone
returns-clause-live_alone c = live_elements

pub returns-clause-first : goal.returns-clause-first
returns-clause-first c = first_element

pub returns-clause-first_of_all : goal.returns-clause-first_of_all
returns-clause-first_of_all c = λ used set place element are is at none. first_out used set are is place element at none
