-- What loads of the words of a dict or a set show of what it has.
use Rattle.std.specs.Prelude.{◌≡◌}
use Rattle.ft_model.specs.declared.script.Kind.TheVariants as kind
use Rattle.ft_model.specs.Contents.{DictContent, SetContent}
use Rattle.ft_model.specs.Worlds.{dict_of, kind_of, set_of}
use Rattle.ft_trace.specs.declared.Shape.{Shape}
use Rattle.ft_trace.specs.Pictures.{ContainerWords, Represents}
use Rattle.ft_trace.specs.ContainerStates.{ContainerState}

-- where these words stand for a dict, this is so of it
abbrev pub IsOfDict : Shape → (DictContent → Type 0) → ContainerWords → Type 0
IsOfDict k holds x =
    (kept : ContainerState) → kind_of kept.content ≡ kind.Dict → Represents k.texts x kept
    → holds (dict_of kept.content)

-- where these words stand for a set, this is so of it
abbrev pub IsOfSet : Shape → (SetContent → Type 0) → ContainerWords → Type 0
IsOfSet k holds x =
    (kept : ContainerState) → kind_of kept.content ≡ kind.Set → Represents k.texts x kept → holds (set_of kept.content)
