-- Comparisons of two dicts or two sets: the call that each is, the kind of both, and whether it is so.
use Rattle.std.specs.Prelude.{◌≡◌, ℕ, Bool}
use Rattle.ft_model.specs.declared.call.Call.{Call}
use Rattle.ft_model.specs.declared.call.Call.TheVariants as call
use Rattle.ft_model.specs.declared.call.DictCall.TheVariants as dict
use Rattle.ft_model.specs.declared.call.SetCall.TheVariants as set
use Rattle.ft_model.specs.declared.content.Content.{Content}
use Rattle.ft_model.specs.declared.script.Kind.{Kind}
use Rattle.ft_model.specs.declared.script.Kind.TheVariants as kind
use Rattle.ft_model.specs.Contents.{is_disjoint, is_subset, same_elements, same_pairs}
use Rattle.ft_model.specs.Worlds.{dict_of, kind_of, set_of}
use Rattle.ft_trace.specs.declared.Shape.{Shape}
use Rattle.ft_trace.specs.ContainerStates.{ContainerState}
use Rattle.ft_trace.specs.Pictures.{ContainerWords, Represents}
use Rattle.ft_whole_tables.specs.declared.comparisons.Comparison.{Comparison}
use Rattle.ft_whole_tables.specs.declared.comparisons.Comparison.TheVariants.{SameDicts, SameSets, Subset, Disjoint}

-- the kind of both containers
abbrev pub kind_compared : Comparison → Kind
kind_compared SameDicts = kind.Dict
kind_compared SameSets = kind.Set
kind_compared Subset = kind.Set
kind_compared Disjoint = kind.Set

-- the call on the first container that names the second
abbrev pub compared : Comparison → ℕ → ℕ → Call
compared SameDicts o m = call.Dict o (dict.Eq m)
compared SameSets o m = call.Set o (set.Eq m)
compared Subset o m = call.Set o (set.Subset m)
compared Disjoint o m = call.Set o (set.Disjoint m)

-- Whether it is so of what the two have: the same keys with equal values; the same elements; each element of the first
-- is one of the second; none is (Python manual, Mapping Types, Set Types).
abbrev pub is_so_of : Comparison → Content → Content → Bool
is_so_of SameDicts one other = same_pairs (dict_of one).pairs (dict_of other).pairs
is_so_of SameSets one other = same_elements (set_of one).elements (set_of other).elements
is_so_of Subset one other = is_subset (set_of one).elements (set_of other).elements
is_so_of Disjoint one other = is_disjoint (set_of one).elements (set_of other).elements

-- where these words stand for two containers of the kind, this is whether it is so of what they have
abbrev pub IsComparedAs : Shape → Comparison → Bool → ContainerWords → ContainerWords → Type 0
IsComparedAs k how is_so x y =
    (one : ContainerState) → kind_of one.content ≡ kind_compared how → Represents k.texts x one
    → (other : ContainerState) → kind_of other.content ≡ kind_compared how → Represents k.texts y other
    → is_so ≡ is_so_of how one.content other.content
