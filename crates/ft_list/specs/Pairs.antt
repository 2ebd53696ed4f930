-- What loads of the words of two lists show of the items of both.
use Rattle.std.specs.Prelude.{◌≡◌, List}
use Rattle.ft_model.specs.declared.data.Value.{Value}
use Rattle.ft_model.specs.declared.script.Kind.TheVariants as kind
use Rattle.ft_model.specs.Worlds.{kind_of, list_of}
use Rattle.ft_trace.specs.declared.Shape.{Shape}
use Rattle.ft_trace.specs.Pictures.{ContainerWords, Represents}
use Rattle.ft_trace.specs.ContainerStates.{ContainerState}

-- where these words stand for two lists, this is so of the items of both
abbrev pub AreOfItems : Shape → (List Value → List Value → Type 0) → ContainerWords → ContainerWords → Type 0
AreOfItems k holds x y =
    (one other : ContainerState) → kind_of one.content ≡ kind.List → kind_of other.content ≡ kind.List
    → Represents k.texts x one → Represents k.texts y other → holds (list_of one.content) (list_of other.content)
