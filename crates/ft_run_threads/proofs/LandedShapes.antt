-- The bank of a script has its containers as they start, since no dict of a script shares keys yet and none is a deque.
use Rattle.std.proofs.Common.{◌≡◌, true, List, [], ◌∷◌, map, refl, sym}
use Rattle.std.specs.List.{All}
use Rattle.std.proofs.lemmas.List.Elements.{All-head, All-tail, All-map, All-weaker}
use Rattle.ft_model.specs.declared.script.Declaration.{Declaration}
use Rattle.ft_model.specs.declared.script.Kind.{Kind}
use Rattle.ft_model.specs.declared.script.Start.{Start}
use Rattle.ft_model.specs.declared.script.ScriptParts.{ScriptParts}
use Rattle.ft_model.specs.Landed.{is_landed_kind, is_landed_start}
use Rattle.ft_model.specs.Scripts.{IsScript, IsStartOf}
use Rattle.ft_model.specs.Worlds.{start_as, starts_of}
use Rattle.ft_model.proofs.LandedCalls.{landed_parts}

abbrev StartsLanded : Declaration → Type 0
StartsLanded declaration = is_landed_start declaration.start ≡ true

unshared : (start : Start) → is_landed_start start ≡ true → start_as start.kind ≡ start
unshared start landed = let none = (landed_parts start landed).1 in λ d. record { kind = start.kind; keys = sym none d }

pub starts_kept : (containers : List Declaration) → All StartsLanded containers → map start_as (map (λ (declaration : Declaration). declaration.start.kind) containers) ≡ starts_of containers
starts_kept [] each = refl
starts_kept (declaration ∷ containers) each =
    let one = unshared declaration.start (All-head StartsLanded declaration containers each) in
    let rest = starts_kept containers (All-tail StartsLanded declaration containers each) in
    λ d. one d ∷ rest d

pub kinds_landed : (containers : List Declaration) → All StartsLanded containers → All (λ kind. is_landed_kind kind ≡ true) (map (λ (declaration : Declaration). declaration.start.kind) containers)
kinds_landed containers each =
    All-map (λ (kind : Kind). is_landed_kind kind ≡ true) (λ (declaration : Declaration). declaration.start.kind) containers
    (All-weaker StartsLanded (λ (declaration : Declaration). is_landed_kind declaration.start.kind ≡ true) (λ declaration landed. (landed_parts declaration.start landed).0) containers each)

-- each container of a script starts so
pub script_landed : (script : ScriptParts) → IsScript script → All StartsLanded script.containers
script_landed script is =
    All-weaker (λ (declaration : Declaration). IsStartOf script declaration.start) StartsLanded (λ declaration start. start.landed) script.containers is.starts
