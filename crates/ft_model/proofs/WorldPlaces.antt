-- What stands at a place of a world.
use Rattle.std.proofs.Common.{◌≡◌, ℕ, zero, suc, ◌<◌, List, [], ◌∷◌, length, get_or, set, Some, None, sym, ap, ◌∙◌, arith}
use Rattle.std.specs.Prelude.{Result, Ok, Err, OnOk, option_map, slice_get}
use Rattle.std.proofs.lemmas.List.{set-get_or, get_or_default}
use Rattle.ft_model.specs.declared.data.Value.{Value}
use Rattle.ft_model.specs.declared.content.Content.{Content}
use Rattle.ft_model.specs.declared.content.Content.TheVariants as content
use Rattle.ft_model.specs.declared.script.Kind.{Kind}
use Rattle.ft_model.specs.Worlds.{kind_of, list_of, list_at}

pub stands : (world : List Content) (place : ℕ) (there d : Content) → get_or world place d ≡ there → set world place there ≡ world
stands world place there d is = ap (λ (c : Content). set world place c) (sym is) ∙ set-get_or world place d

pub list-stands : (world : List Content) (place : ℕ) (items : List Value) (d : Content) → place < length world → get_or world place d ≡ content.List items → list_at world place ≡ items
list-stands world place items d low is = ap list_of (get_or_default world place (content.List []) d low ∙ is)

pub on_ok : {T E : Type 0} {P Q : Type 0} → (r : Result T E) → OnOk r P → (P → Q) → OnOk r Q
on_ok (Ok x) h f = f h
on_ok (Err e) h f = tt

-- a container of a kind is declared
pub is_there : (world : List Content) (kind : Kind) (place : ℕ) → option_map kind_of (slice_get world place) ≡ Some kind → place < length world
is_there [] kind place h = absurd (let none : None ≡ Some kind = h in cc)
is_there (first ∷ world) kind zero h = omega arith
is_there (first ∷ world) kind (suc place) h = let low = is_there world kind place h in omega arith
