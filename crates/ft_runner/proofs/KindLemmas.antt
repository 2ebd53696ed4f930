-- Kinds of error of the parser of the command line.
use Rattle.std.proofs.Common.{◌≡◌, ◌≢◌, [], ◌∷◌, length, codes, refl, ap, arith}
use Rattle.clap.specs.Kinds.{Kinds, or_else}
use Rattle.clap.specs.Walk.{Text}
use Rattle.clap.specs.declared.error.kind.ErrorKind.{ErrorKind}

pub nonempty : (first : ErrorKind) (kinds : Kinds) → first ∷ kinds ≢ []
nonempty first kinds none = let n : length (first ∷ kinds) ≡ 0 = ap length none in omega arith

pub neither : (a b : Kinds) → or_else a b ≡ [] → (a ≡ []) × (b ≡ [])
neither [] b none = (refl, none)
neither (first ∷ kinds) b none = absurd (nonempty first kinds none)

-- the mark that ends options
abbrev pub dashes : Text
dashes = codes "--"
