-- What the containers are shown to have is as long as what they have.
use Rattle.std.proofs.Common.{◌≡◌, ℕ, zero, suc, List, [], ◌∷◌, map, refl}
use Rattle.std.proofs.lemmas.List.{length-map}
use Rattle.ft_model.specs.declared.content.Content.{Content}
use Rattle.ft_model.specs.declared.content.Content.TheVariants as content
use Rattle.ft_model.specs.declared.content.DictPair.{DictPair}
use Rattle.ft_model.specs.declared.content.Element.{Element}
use Rattle.ft_model.specs.Answers.{shown_of}
use Rattle.ft_model.specs.Worlds.{length_of}
use Rattle.ft_runner.specs.Internal.Summaries.{shown_length, shown_length_in}
use Rattle.ft_runner.specs.Making.{length_in}

as_long : (there : Content) → shown_length (shown_of there) ≡ length_of there
as_long (content.Dict dict) = length-map dict.pairs (λ (pair : DictPair). (pair.key, pair.value))
as_long (content.List items) = refl
as_long (content.Set set) = length-map set.elements (λ (element : Element). element.key)
as_long (content.Deque deque) = refl

as_long_in : (world : List Content) (container : ℕ) → shown_length_in (map shown_of world) container ≡ length_in world container
as_long_in [] container = refl
as_long_in (there ∷ world) zero = as_long there
as_long_in (there ∷ world) (suc container) = as_long_in world container

pub lengths_shown : (world : List Content) → shown_length_in (map shown_of world) ≡ length_in world
lengths_shown world = λ d container. as_long_in world container d
