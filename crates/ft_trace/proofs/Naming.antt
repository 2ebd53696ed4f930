-- The containers that a call names, and the locks that a pass has of them.
use Rattle.std.proofs.Common.{◌≡◌, ◌⊎◌, ⊎_elim, inl, inr, ℕ, Bool, true, false, eq-eqb, ne_eqb, List, [], ◌∷◌, Option, Some, None, sym, ap, ◌∙◌, subst}
use Rattle.std.specs.Prelude.{◌==◌, ◌||◌, IfSome, if◌then◌else◌}
use Rattle.std.specs.List.{list_any}
use mathlib.Core.Logic.{dite}
use native.Mathlib.Decide.{ℕ_discrete}
use Rattle.ft_trace.specs.declared.Act.{Act}
use Rattle.ft_trace.specs.Acts.{has_lock}
use Rattle.ft_model.specs.Calls.{one_or_two}
use Rattle.ft_trace.proofs.Cases.{off}

-- where one container is named
pub one_named : (o p : ℕ) → list_any (λ (named : ℕ). named == p) (o ∷ []) ≡ true → o ≡ p
one_named o p e = dite (ℕ_discrete o p) (λ (same : o ≡ p). same) (λ ne. off (sym (ap (λ (b : Bool). b || false) (ne_eqb o p ne)) ∙ e))

-- a pass that has its lock has the locks of all that are named
pub one_locked : (o : ℕ) (log : List Act) → has_lock o log ≡ true → (p : ℕ) → list_any (λ (named : ℕ). named == p) (o ∷ []) ≡ true → has_lock p log ≡ true
one_locked o log mine p e = subst (λ (z : ℕ). has_lock z log ≡ true) (one_named o p e) mine

-- where two containers are named
two_named : (o q p : ℕ) → list_any (λ (named : ℕ). named == p) (o ∷ q ∷ []) ≡ true → (o ≡ p) ⊎ (q ≡ p)
two_named o q p e =
    dite (ℕ_discrete o p)
    (λ (same : o ≡ p). inl same)
    (λ ne. inr (one_named q p (sym (ap (λ (b : Bool). b || list_any (λ (named : ℕ). named == p) (q ∷ [])) (ne_eqb o p ne)) ∙ e)))

-- a pass that has the locks of one container, and of another where one is named, has the locks of all that are named
pub named_locked : (o : ℕ) (other : Option ℕ) (log : List Act) → has_lock o log ≡ true → IfSome other (λ q. has_lock q log ≡ true) → (p : ℕ) → list_any (λ (named : ℕ). named == p) (one_or_two o other) ≡ true → has_lock p log ≡ true
named_locked o None log mine theirs p e = one_locked o log mine p e
named_locked o (Some q) log mine theirs p e =
    let named : Bool → Bool = λ b. list_any (λ (named : ℕ). named == p) (if b then o ∷ [] else o ∷ q ∷ []) in
    dite (ℕ_discrete o q)
    (λ (same : o ≡ q). one_locked o log mine p (sym (ap named (eq-eqb o q same)) ∙ e))
    (λ ne. ⊎_elim (λ (is : o ≡ p). subst (λ (z : ℕ). has_lock z log ≡ true) is mine) (λ (is : q ≡ p). subst (λ (z : ℕ). has_lock z log ≡ true) is theirs) (two_named o q p (sym (ap named (ne_eqb o q ne)) ∙ e)))
