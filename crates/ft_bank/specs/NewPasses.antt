-- The passes of a bank that was made just now.
use Rattle.std.specs.Prelude.{◌≡◌, ℕ, zero, suc, ◌+◌, ◌*◌, List, [], ◌∷◌, false}
use Rattle.ft_trace.specs.declared.Shape.{Shape}
use Rattle.ft_trace.specs.declared.View.{View}
use Rattle.ft_bank.specs.Passes.{shape_of, view, IsPassOf}
use Rattle.ft_bank.specs.PassSections.{stack_of, no_sections}
use Rattle.ft_bank.specs.declared.bank.Bank.{Bank}
use Rattle.ft_bank.specs.declared.pass.Pass.{Pass}

-- the number that the next pass would have, which pass 0 alone keeps
abbrev pub next_of : Shape → ℕ → ℕ
next_of k zero = suc k.passes
next_of k (suc i) = 0

-- what pass i knows before its first step: it has its calls and one token, and has done nothing (profile)
abbrev pub opening_view : Shape → ℕ → View
opening_view k i =
    record {
      number = suc i;
      next = next_of k i;
      parts = 1;
      left = k.calls;
      shape = k;
      log = [];
      entries = [];
      lists = [];
      tokens = 1;
      learnt = 0;
      has_floor = false;
      floor = [];
      told = [];
    }

-- the pass is pass i of the bank, before its first step
abbrev pub IsOpening : Bank → ℕ → Pass → Type 0
IsOpening b i p = IsPassOf b p × (view p ≡ opening_view (shape_of b) i) × (stack_of p ≡ no_sections)

-- they are the passes of the bank in their order, from pass i on
abbrev pub AreOpening : Bank → ℕ → List Pass → Type 0
AreOpening b i [] = Unit {0}
AreOpening b i (p ∷ ps) = IsOpening b i p × AreOpening b (suc i) ps

-- What the first pass knows that has made i others: what is left of the bank's tokens, parts and calls is its own.
-- (profile)
pub record HasMade (k : Shape) (i : ℕ) (v : View) : Type 0 where
  pub number : v.number ≡ 1
  pub next : v.next ≡ 2 + i
  pub parts : v.parts + i ≡ k.passes
  pub left : v.left + i * k.calls ≡ k.passes * k.calls
  pub shape : v.shape ≡ k
  pub log : v.log ≡ []
  pub entries : v.entries ≡ []
  pub lists : v.lists ≡ []
  pub tokens : v.tokens + i ≡ k.passes
  pub learnt : v.learnt ≡ 0
  pub has_floor : v.has_floor ≡ false
  pub floor : v.floor ≡ []
  pub told : v.told ≡ []
