-- What a bank's containers start as: none is a deque, and no dict shares its keys.
use Rattle.std.proofs.Common.{◌≡◌, ℕ, true, []}
use Rattle.std.proofs.lemmas.Bool.{false≢true}
use Rattle.ft_model.specs.declared.script.Kind.{Kind}
use Rattle.ft_model.specs.declared.script.Kind.TheVariants as kind
use Rattle.ft_model.specs.Landed.{is_landed_kind}
use Rattle.ft_model.specs.Worlds.{start_in}
use Rattle.ft_model.proofs.LandedCalls.{landed_parts, landed_in}
use Rattle.ft_trace.specs.declared.Shape.{Shape}
use Rattle.ft_trace.specs.ContainerStates.{kind_in}
use Rattle.ft_trace.specs.Kinds.{HasVersions}
use Rattle.ft_trace.specs.Traces.{Fits}

landed_kind : (kind : Kind) → is_landed_kind kind ≡ true → HasVersions kind
landed_kind kind.Dict landed = tt
landed_kind kind.List landed = tt
landed_kind kind.Set landed = tt
landed_kind (kind.Deque bound) landed = absurd (false≢true landed)

-- each container's entries or items have versions
pub has_versions : (k : Shape) → Fits k → (o : ℕ) → HasVersions (kind_in k.starts o)
has_versions k limits o = landed_kind (kind_in k.starts o) (landed_parts (start_in k.starts o) (landed_in k.starts limits.landed o)).0

-- and it starts with no keys that it shares
pub starts_unsplit : (k : Shape) → Fits k → (o : ℕ) → (start_in k.starts o).keys ≡ []
starts_unsplit k limits o = (landed_parts (start_in k.starts o) (landed_in k.starts limits.landed o)).1
