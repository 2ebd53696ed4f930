-- The keys of a bank: its strings are numbered, and each has its hash in the bank's shape. (profile)
use Rattle.std.specs.Prelude.{◌<◌, length}
use Rattle.ft_model.specs.declared.data.Key.{Key}
use Rattle.ft_model.specs.declared.data.Key.TheVariants as key
use Rattle.ft_trace.specs.declared.Shape.{Shape}

-- a key that is an integer, or a string of the bank
abbrev pub IsKeyIn : Shape → Key → Type 0
IsKeyIn k (key.Int n) = Unit {0}
IsKeyIn k (key.Text sym) = sym.0 < length k.texts
