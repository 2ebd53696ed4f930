-- What the sizes of an engine mean for its bank.
use Rattle.std.specs.Prelude.{ℕ, List, ◌++◌, replicate}
use Rattle.ft_model.specs.declared.script.Kind.{Kind}
use Rattle.ft_model.specs.declared.script.Kind.TheVariants as kind

-- the kinds of so many containers by their numbers: the dicts come first, then the lists, then the sets (profile)
abbrev pub kinds_of : ℕ → ℕ → ℕ → List Kind
kinds_of dicts lists sets = (replicate dicts kind.Dict ++ replicate lists kind.List) ++ replicate sets kind.Set
