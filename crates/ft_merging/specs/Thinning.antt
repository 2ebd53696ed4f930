-- Sets of which some elements are taken out.
use Rattle.std.specs.Prelude.{Bool, not, filter, if◌then◌else◌}
use Rattle.ft_model.specs.declared.content.Content.TheVariants as content
use Rattle.ft_model.specs.declared.data.Key.{Key}
use Rattle.ft_model.specs.Contents.{SetContent, has_element}
use Rattle.ft_model.specs.Worlds.{set_of}
use Rattle.ft_trace.specs.ContainerStates.{ContainerState}

-- whether an element stays where those stay that another set has, or those that it hasn't (Python manual, Set Types)
abbrev pub stays : Bool → SetContent → Key → Bool
stays kept others key = if kept then has_element others.elements key else not (has_element others.elements key)

-- the set with those that stay, as they were
abbrev pub thinned : Bool → SetContent → SetContent → SetContent
thinned kept others set =
    record { next = set.next; elements = filter (λ element. stays kept others element.key) set.elements }

-- and it keeps its table (profile)
abbrev pub thinned_state : Bool → ContainerState → ContainerState → ContainerState
thinned_state kept others set =
    record { content = content.Set (thinned kept (set_of others.content) (set_of set.content)); table = set.table }
