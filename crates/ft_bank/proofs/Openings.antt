-- The first pass makes the others.
use Rattle.std.proofs.Common.{◌≡◌, ℕ, suc, ◌+◌, ◌*◌, ◌<◌, ◌≤◌, List, [], ◌∷◌, ◌++◌, length, ap, ◌∙◌, refl, false, subst, arith}
use Rattle.std.proofs.Math.Nat.{suc-mul, mul-le-mul_right}
use Rattle.ft_trace.specs.declared.Shape.{Shape}
use Rattle.ft_trace.specs.declared.View.{View}
use Rattle.ft_trace.specs.Acts.{starter, maker, made}
use Rattle.ft_trace.specs.Traces.{MayFork}
use Rattle.ft_bank.specs.NewPasses.{next_of, opening_view, IsOpening, AreOpening, HasMade}
use Rattle.ft_bank.specs.declared.bank.Bank.{Bank}
use Rattle.ft_bank.specs.declared.pass.Pass.{Pass}

-- the calls that are left for the passes to come
room : (c i n : ℕ) → i + 1 ≤ n → i * c + c ≤ n * c
room c i n low = let s = suc-mul i c in let m = mul-le-mul_right c (at_least i n low) in omega (arith, s, m)
  where
    at_least : (i n : ℕ) → i + 1 ≤ n → suc i ≤ n
    at_least i n low = omega (arith, low)

pub starts : (k : Shape) → HasMade k 0 (starter k)
starts k = record { number = refl; next = refl; parts = omega arith; left = omega arith; shape = refl; log = refl; entries = refl; lists = refl; tokens = omega arith; learnt = refl; has_floor = refl; floor = refl; told = refl }

module _ (k : Shape) (i : ℕ) (v : View) (h : HasMade k i v) where
  calls : v.shape.calls ≡ k.calls
  calls = ap (λ (z : Shape). z.calls) h.shape

  pub may_make : i + 1 < k.passes → MayFork v
  may_make low = record {
    live = (λ e. let n = h.number in omega (arith, e, n));
    next = (λ e. let n = h.next in omega (arith, e, n));
    parts = (let n = h.parts in omega (arith, n, low));
    left = (let n = h.left in let r = room k.calls i k.passes (omega (arith, low)) in omega (arith, n, r, calls));
    few = (let n = h.next in let p : v.shape.passes ≡ k.passes = ap (λ (z : Shape). z.passes) h.shape in omega (arith, n, p, low));
    tokens = (let n = h.tokens in omega (arith, n, low));
  }

  pub has_made : i + 1 < k.passes → HasMade k (i + 1) (maker v)
  has_made low = record {
    number = h.number;
    next = (let n = h.next in omega (arith, n));
    parts = (let n = h.parts in omega (arith, n, low));
    left = (let n = h.left in let r = room k.calls i k.passes (omega (arith, low)) in let s : (i + 1) * k.calls ≡ i * k.calls + k.calls = ap (λ (z : ℕ). z * k.calls) (one_up i) ∙ suc-mul i k.calls in omega (arith, n, r, s, calls));
    shape = h.shape;
    log = h.log;
    entries = h.entries;
    lists = h.lists;
    tokens = (let n = h.tokens in omega (arith, n, low));
    learnt = h.learnt;
    has_floor = refl;
    floor = refl;
    told = h.told;
  }
    where
      one_up : (n : ℕ) → n + 1 ≡ suc n
      one_up n = omega arith

  pub made_is : made v ≡ opening_view k (i + 1)
  made_is =
      let n : v.next ≡ suc (i + 1) = (let x = h.next in omega (arith, x)) in
      let z : 0 ≡ next_of k (i + 1) = no_next k i in
      λ d. record { number = n d; next = z d; parts = 1; left = calls d; shape = h.shape d; log = []; entries = []; lists = []; tokens = 1; learnt = 0; has_floor = false; floor = []; told = [] }
    where
      suc_is : (i : ℕ) → suc i ≡ i + 1
      suc_is i = omega arith

      no_next : (k : Shape) (i : ℕ) → 0 ≡ next_of k (i + 1)
      no_next k i = ap (next_of k) (suc_is i)

  pub first_is : i + 1 ≡ k.passes → v ≡ opening_view k 0
  first_is all =
      let next : v.next ≡ suc k.passes = (let x = h.next in omega (arith, x, all)) in
      let parts : v.parts ≡ 1 = (let x = h.parts in omega (arith, x, all)) in
      let tokens : v.tokens ≡ 1 = (let x = h.tokens in omega (arith, x, all)) in
      let p : k.passes * k.calls ≡ i * k.calls + k.calls = ap (λ (z : ℕ). z * k.calls) (passes_is i k.passes all) ∙ suc-mul i k.calls in
      let left : v.left ≡ k.calls = (let x = h.left in omega (arith, x, p)) in
      λ d. record { number = h.number d; next = next d; parts = parts d; left = left d; shape = h.shape d; log = h.log d; entries = h.entries d; lists = h.lists d; tokens = tokens d; learnt = h.learnt d; has_floor = h.has_floor d; floor = h.floor d; told = h.told d }
    where
      passes_is : (i n : ℕ) → i + 1 ≡ n → n ≡ suc i
      passes_is i n all = omega (arith, all)

-- one pass more
pub are_more : (b : Bank) (i : ℕ) (passes : List Pass) (p : Pass) → AreOpening b i passes → IsOpening b (i + length passes) p → AreOpening b i (passes ++ p ∷ [])
are_more b i [] p all one = (subst (λ (n : ℕ). IsOpening b n p) (plus_none i) one, tt)
  where
    plus_none : (n : ℕ) → n + 0 ≡ n
    plus_none n = omega arith
are_more b i (q ∷ passes) p all one = (all.0, are_more b (suc i) passes p all.1 (subst (λ (n : ℕ). IsOpening b n p) (over i (length passes)) one))
  where
    over : (i n : ℕ) → i + suc n ≡ suc i + n
    over i n = omega arith

pub length_snoc : {A : Type 0} (xs : List A) (x : A) → length (xs ++ x ∷ []) ≡ length xs + 1
length_snoc [] x = omega arith
length_snoc (y ∷ xs) x = let h = length_snoc xs x in omega (arith, h)
