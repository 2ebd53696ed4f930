-- The world at the start is one of its script.
use Rattle.std.proofs.Common.{◌≡◌, ℕ, zero, suc, List, [], ◌∷◌, length, refl, sym, ap, ◌∙◌, subst, arith}
use Rattle.std.specs.Prelude.{All}
use Rattle.ft_model.specs.declared.content.Content.{Content}
use Rattle.ft_model.specs.declared.script.Declaration.{Declaration}
use Rattle.ft_model.specs.declared.script.Kind.{Kind}
use Rattle.ft_model.specs.declared.script.Kind.TheVariants as kind
use Rattle.ft_model.specs.declared.script.ScriptParts.{ScriptParts}
use Rattle.ft_model.specs.Parts.{IsContentOf, IsWorldOf}
use Rattle.ft_model.specs.Worlds.{empty_content, start_world}

empty_is : (strings : ℕ) (of_kind : Kind) → IsContentOf strings (empty_content of_kind)
empty_is strings kind.Dict = λ i d low. absurd (omega arith)
empty_is strings kind.List = λ i d low. absurd (omega arith)
empty_is strings kind.Set = λ i d low. absurd (omega arith)
empty_is strings (kind.Deque bound) = λ i d low. absurd (omega arith)

all_empty : (strings : ℕ) (containers : List Declaration) → All (IsContentOf strings) (start_world containers)
all_empty strings [] i d low = absurd (omega arith)
all_empty strings (c ∷ containers) zero d low = empty_is strings c.start.kind
all_empty strings (c ∷ containers) (suc i) d low = all_empty strings containers i d (omega arith)

as_many : (containers : List Declaration) → length (start_world containers) ≡ length containers
as_many [] = refl
as_many (c ∷ containers) = let rest : length (start_world containers) ≡ length containers = as_many containers in omega arith

pub start_is : (script : ScriptParts) (world : List Content) → world ≡ start_world script.containers → IsWorldOf script world
start_is script world is = record {
  containers = ap length is ∙ as_many script.containers;
  strings = subst (All (IsContentOf (length script.strings))) (sym is) (all_empty (length script.strings) script.containers);
}
