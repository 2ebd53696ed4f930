-- What containers and tables come to by a list of writes, from either end of it.
use Rattle.ft_model.specs.declared.script.Start.{Start}
use Rattle.std.proofs.Common.{◌≡◌, ℕ, ◌+◌, cond, Option, List, [], ◌∷◌, ◌++◌, refl, sym, ap, ◌∙◌}
use Rattle.std.specs.Prelude.{fold, reverse}
use Rattle.std.specs.List.{count_by}
use Rattle.std.proofs.lemmas.List.Sums.{fold_push, sum_by_push}
use Rattle.std.proofs.lemmas.Grind.{reverse_onto}
use Rattle.ft_model.specs.declared.call.Call.{Call}
use Rattle.ft_model.specs.Answers.{after_write, world_by}
use Rattle.ft_model.specs.TableUses.{StoredWorld, empty_stored, takes_in, after_stored, stored_by, stored_newest, takings, is_class, takes_by, takes_newest}

pub newest_stored : (kinds : List Start) (calls : List Call) → stored_newest kinds calls ≡ stored_by kinds (reverse calls)
newest_stored kinds [] = refl
newest_stored kinds (called ∷ calls) =
    ap (λ (stored : StoredWorld). after_stored stored called) (newest_stored kinds calls)
    ∙ sym (fold_push after_stored (empty_stored kinds) (reverse calls) called)
    ∙ ap (λ (all : List Call). fold after_stored (empty_stored kinds) all) (sym (reverse_onto calls called []))

takings_push : (stored : StoredWorld) (calls : List Call) (called : Call) → takings stored (calls ++ called ∷ []) ≡ takings stored calls ++ takes_in (fold after_stored stored calls) called ∷ []
takings_push stored [] called = refl
takings_push stored (first ∷ calls) called = ap (λ (rest : List (Option ℕ)). takes_in stored first ∷ rest) (takings_push (after_stored stored first) calls called)

-- one write more takes one table more, or none
pub takes_push : (kinds : List Start) (class : ℕ) (calls : List Call) (called : Call) → takes_by kinds class (calls ++ called ∷ []) ≡ takes_by kinds class calls + cond (is_class class (takes_in (stored_by kinds calls) called)) 1 0
takes_push kinds class calls called =
    ap (count_by (is_class class)) (takings_push (empty_stored kinds) calls called)
    ∙ sum_by_push (λ taking. cond (is_class class taking) 1 0) (takings (empty_stored kinds) calls) (takes_in (stored_by kinds calls) called)

pub newest_takes : (kinds : List Start) (class : ℕ) (calls : List Call) → takes_newest kinds class calls ≡ takes_by kinds class (reverse calls)
newest_takes kinds class [] = refl
newest_takes kinds class (called ∷ calls) =
    ap (λ (n : ℕ). n + cond (is_class class (takes_in (stored_newest kinds calls) called)) 1 0) (newest_takes kinds class calls)
    ∙ ap (λ (stored : StoredWorld). takes_by kinds class (reverse calls) + cond (is_class class (takes_in stored called)) 1 0) (newest_stored kinds calls)
    ∙ sym (takes_push kinds class (reverse calls) called)
    ∙ ap (λ (all : List Call). takes_by kinds class all) (sym (reverse_onto calls called []))

world_from : (stored : StoredWorld) (calls : List Call) → (fold after_stored stored calls).world ≡ fold after_write stored.world calls
world_from stored [] = refl
world_from stored (called ∷ calls) = world_from (after_stored stored called) calls

pub stored_world : (kinds : List Start) (calls : List Call) → (stored_by kinds calls).world ≡ world_by kinds calls
stored_world kinds calls = world_from (empty_stored kinds) calls
