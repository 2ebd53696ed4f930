-- When two keys are the same, and two values: of one kind, with one payload. (Python manual, Mapping Types: keys that
-- compare equal are one key)
use Rattle.std.specs.Prelude.{Bool, true, false, nat_eq}
use Rattle.std.specs.Ordering.{int_eq}
use Rattle.ft_model.specs.declared.data.Key.{Key}
use Rattle.ft_model.specs.declared.data.Key.TheVariants as key
use Rattle.ft_model.specs.declared.data.Value.{Value}
use Rattle.ft_model.specs.declared.data.Value.TheVariants as value

abbrev pub same_key : Key → Key → Bool
same_key (key.Int x) (key.Int y) = int_eq x y
same_key (key.Text s) (key.Text t) = nat_eq s.0 t.0
same_key (key.Int x) (key.Text t) = false
same_key (key.Text s) (key.Int y) = false

-- whether two values are equal; `None` equals itself alone (Python manual, Comparisons)
abbrev pub is_value : Value → Value → Bool
is_value value.Nothing value.Nothing = true
is_value (value.Int x) (value.Int y) = int_eq x y
is_value (value.Text s) (value.Text t) = nat_eq s.0 t.0
is_value value.Nothing (value.Int y) = false
is_value value.Nothing (value.Text t) = false
is_value (value.Int x) value.Nothing = false
is_value (value.Int x) (value.Text t) = false
is_value (value.Text s) value.Nothing = false
is_value (value.Text s) (value.Int y) = false

-- the value that a key is
abbrev pub as_value : Key → Value
as_value (key.Int n) = value.Int n
as_value (key.Text sym) = value.Text sym
