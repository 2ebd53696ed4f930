-- The line `---` in bytes that go on, and what is too long.
use Rattle.std.proofs.Common.{◌≡◌, ◌∙◌, ℕ, ◌+◌, ◌-◌, ◌<◌, ◌≤◌, ◌==◌, ◌&&◌, ◌||◌, List, ◌++◌, Option, Some, None, length, take, drop, sym, ap, ap₂, arith, inl, inr}
use Rattle.std.proofs.lemmas.Bool.{cases_lt, true≢false}
use Rattle.std.proofs.lemmas.List.{drop-append-le, get_or_append_left, length-append, length-drop, take-append-le}
use Rattle.ft_runner.specs.Checking.{begins_line, is_separator, is_separator_at, HasNoSeparator, IsSeparator, IsSeparatorOf, IsPastLimit, IsScriptFew, IsScriptLong, IsScriptPart, IsWithinLimits}
use Rattle.ft_runner.specs.Internal.Filling.{IsSettled}

-- ---- bytes that go on

-- the four bytes from the place on are there, and stay
pub separator_stays : (bytes more : List ℕ) (place : ℕ) → place + 4 ≤ length bytes → is_separator_at (bytes ++ more) place ≡ is_separator_at bytes place
separator_stays bytes more place low =
    let four : take 4 (drop place (bytes ++ more)) ≡ take 4 (drop place bytes) = ap (take 4) (drop-append-le place bytes more (omega arith)) ∙ take-append-le 4 (drop place bytes) more (omega (arith, length-drop place bytes)) in
    let before : begins_line (bytes ++ more) place ≡ begins_line bytes place = ap (λ b. place == 0 || b == 10) (get_or_append_left bytes more 0 (place - 1) (omega arith)) in
    ap₂ (λ b line. b && is_separator line) before four

-- ---- there is one such line, or none

pub no_separator : (bytes : List ℕ) (place : ℕ) → HasNoSeparator bytes → IsSeparator bytes place → ⊥
no_separator bytes place none separator = true≢false (sym separator.here ∙ none place separator.inside)

pub one_separator : (bytes : List ℕ) (p q : ℕ) → IsSeparator bytes p → IsSeparator bytes q → p ≡ q
one_separator bytes p q one other =
    elim (cases_lt p q) [
      | inl before ↦ absurd (true≢false (sym one.here ∙ other.first p before))
      | inr after ↦ elim (cases_lt q p) [
        | inl before ↦ absurd (true≢false (sym other.here ∙ one.first q before))
        | inr not_before ↦ omega arith
      ]
    ]

pub one_script : (bytes a b : List ℕ) → IsScriptPart bytes a → IsScriptPart bytes b → a ≡ b
one_script bytes a b (inl one) (inl other) = one.1 ∙ sym other.1
one_script bytes a b (inl one) (inr other) = absurd (no_separator bytes other.0 one.0 other.1)
one_script bytes a b (inr one) (inl other) = absurd (no_separator bytes one.0 other.0 one.1)
one_script bytes a b (inr one) (inr other) = one.2 ∙ ap (λ p. take p bytes) (one_separator bytes one.0 other.0 one.1 other.1) ∙ sym other.2

-- ---- limits

-- what is settled of the script stays so, whatever follows
pub IsScriptLong-stays : (bytes more : List ℕ) → IsSettled bytes → IsScriptLong bytes → IsScriptLong (bytes ++ more)
IsScriptLong-stays bytes more settled long = (omega (arith, long.0, length-append bytes more), λ place low. settled more place low ∙ long.1 place low)

separator_settled : (bytes more : List ℕ) (place : ℕ) → IsSettled bytes → place ≤ 4194304 → IsSeparator bytes place → IsSeparator (bytes ++ more) place
separator_settled bytes more place settled low separator =
    record {
      inside = omega (arith, separator.inside, length-append bytes more);
      here = settled more place low ∙ separator.here;
      first = λ earlier before. settled more earlier (omega (arith, before, low)) ∙ separator.first earlier before;
    }

pub IsScriptFew-stays : (bytes more : List ℕ) → IsSettled bytes → 4194304 < length bytes → IsScriptFew bytes → IsScriptFew (bytes ++ more)
IsScriptFew-stays bytes more settled far (inl few) = absurd (omega (arith, few, far))
IsScriptFew-stays bytes more settled far (inr separator) = inr (separator.0, separator.1, separator_settled bytes more separator.0 settled separator.1 separator.2)

pub IsSeparatorOf-stays : (bytes more : List ℕ) (separator : Option ℕ) → IsSettled bytes → 4194304 < length bytes → IsScriptFew bytes → IsSeparatorOf bytes separator → IsSeparatorOf (bytes ++ more) separator
IsSeparatorOf-stays bytes more separator settled far (inl few) is = absurd (omega (arith, few, far))
IsSeparatorOf-stays bytes more None settled far (inr at) none = absurd (no_separator bytes at.0 none at.2)
IsSeparatorOf-stays bytes more (Some place) settled far (inr at) separator = separator_settled bytes more place settled (omega (arith, one_separator bytes place at.0 separator at.2, at.1)) separator

pub past_within : (bytes : List ℕ) → IsPastLimit bytes → IsWithinLimits bytes → ⊥
past_within bytes (inl long) within = omega (arith, within.few)
past_within bytes (inr script) within =
    elim within.script_few [
      | inl few ↦ omega (arith, script.0)
      | inr separator ↦ true≢false (sym separator.2.here ∙ script.1 separator.0 separator.1)
    ]
