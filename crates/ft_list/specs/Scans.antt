-- What loads of a list's words show of all of its items.
use Rattle.std.specs.Prelude.{◌≡◌, List}
use Rattle.ft_model.specs.declared.data.Value.{Value}
use Rattle.ft_model.specs.declared.script.Kind.TheVariants as kind
use Rattle.ft_model.specs.Worlds.{kind_of, list_of}
use Rattle.ft_trace.specs.declared.Shape.{Shape}
use Rattle.ft_trace.specs.Pictures.{ContainerWords, Represents}
use Rattle.ft_trace.specs.ContainerStates.{ContainerState}

-- where these words stand for a list, this is so of its items
abbrev pub IsOfItems : Shape → (List Value → Type 0) → ContainerWords → Type 0
IsOfItems k holds x =
    (kept : ContainerState) → kind_of kept.content ≡ kind.List → Represents k.texts x kept
    → holds (list_of kept.content)
