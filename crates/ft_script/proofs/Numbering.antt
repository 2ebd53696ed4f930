-- Numbers that are given in the order of first mention.
use Rattle.std.proofs.Common.{◌≡◌, ℕ, ◌+◌, ◌<◌, ◌≤◌, List, [], ◌∷◌, ◌++◌, refl, inl, inr, sym, subst, arith}
use Rattle.std.proofs.lemmas.List.{append-nil}
use Rattle.ft_script.specs.ScriptTexts.{AreNumbered}

-- where the numbers of a list are known
pub numbered_split : (known : ℕ) (front rest : List ℕ) (all : ℕ) → AreNumbered known (front ++ rest) all → (between : ℕ) × AreNumbered known front between × AreNumbered between rest all
numbered_split known [] rest all h = (known, refl, h)
numbered_split known (number ∷ front) rest all (inl h) = let more = numbered_split known front rest all h.1 in (more.0, inl (h.0, more.1), more.2)
numbered_split known (number ∷ front) rest all (inr h) = let more = numbered_split (known + 1) front rest all h.1 in (more.0, inr (h.0, more.1), more.2)

pub numbered_join : (known between all : ℕ) (front rest : List ℕ) → AreNumbered known front between → AreNumbered between rest all → AreNumbered known (front ++ rest) all
numbered_join known between all [] rest h more = subst (λ (k : ℕ). AreNumbered k rest all) (sym h) more
numbered_join known between all (number ∷ front) rest (inl h) more = inl (h.0, numbered_join known between all front rest h.1 more)
numbered_join known between all (number ∷ front) rest (inr h) more = inr (h.0, numbered_join (known + 1) between all front rest h.1 more)

pub alone : (known : ℕ) (numbers : List ℕ) (all : ℕ) → AreNumbered known (numbers ++ []) all → AreNumbered known numbers all
alone known numbers all h = subst (λ (l : List ℕ). AreNumbered known l all) (append-nil numbers) h

pub and_none : (known all : ℕ) (numbers : List ℕ) → AreNumbered known numbers all → AreNumbered known (numbers ++ []) all
and_none known all numbers h = subst (λ (l : List ℕ). AreNumbered known l all) (sym (append-nil numbers)) h

pub both_and_none : (known all : ℕ) (front rest : List ℕ) → AreNumbered known (front ++ rest) all → AreNumbered known (front ++ (rest ++ [])) all
both_and_none known all front rest h = subst (λ (l : List ℕ). AreNumbered known (front ++ l) all) (sym (append-nil rest)) h

pub numbered_up : (known : ℕ) (numbers : List ℕ) (all : ℕ) → AreNumbered known numbers all → known ≤ all
numbered_up known [] all h = omega arith
numbered_up known (number ∷ numbers) all (inl h) = numbered_up known numbers all h.1
numbered_up known (number ∷ numbers) all (inr h) = let up : known + 1 ≤ all = numbered_up (known + 1) numbers all h.1 in omega arith
