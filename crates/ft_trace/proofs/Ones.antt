-- The bits of a class, counted over its sixteen free words: those of no table are never set.
use Rattle.std.proofs.Common.{◌≡◌, ◌≢◌, ℕ, zero, suc, ltb, lt-ltb, ◌+◌, ◌-◌, ◌*◌, ◌/◌, ◌%◌, ◌^◌, ◌<◌, ◌≤◌, Bool, List, [], ◌∷◌, refl, sym, ap, ◌∙◌, subst, arith}
use mathlib.Core.Logic.{dite}
use native.Mathlib.Decide.{ℕ_discrete}
use native.Mathlib.Nat.{zero-div}
use Rattle.std.proofs.Math.Nat.{div-div-eq-div-mul, pow-suc}
use Rattle.ft_trace.specs.declared.Shape.{Shape}
use Rattle.ft_trace.specs.declared.View.{View}
use Rattle.ft_trace.specs.declared.Act.{Act}
use Rattle.ft_trace.specs.declared.Act.TheVariants.{ReadFree, TakeTable, GiveTable}
use Rattle.ft_trace.specs.Bits.{bit, full}
use Rattle.ft_model.specs.Classes.{IsClass}
use Rattle.ft_layout.specs.Starts.{tables_of_class}
use Rattle.ft_trace.specs.Addresses.{Word, tables_in, count_of_class, bits, class_of, number_of, free_word_of, free_bit_of, least, IsTableName}
use Rattle.ft_trace.proofs.Announcing.{fits}
use Rattle.ft_trace.specs.Acts.{place, word_after}
use Rattle.ft_trace.specs.Entries.{total}
use Rattle.ft_trace.specs.Sums.{sum_to}
use Rattle.ft_trace.specs.Counts.{ones, word_bits, taking, giving}
use Rattle.ft_trace.specs.Traces.{Event, did, forked, joined, sent, run, word, history, May, Valid}
use Rattle.ft_trace.proofs.Addresses.{bt_low, num_is, class_of_number, number_of_number, bits_first}
use Rattle.ft_trace.proofs.Bits.{off_else, on_else}
use Rattle.ft_trace.proofs.OneWord.{stays, moves, loaded}
use Rattle.ft_trace.proofs.Counts.{sum_same, counts_stand, bit_of, set_bits}

full_off : (n b : ℕ) → n ≤ b → bit b (full n) ≡ 0
unfolding bit
full_off zero b low = ap (λ (z : ℕ). z % 2) (zero-div (2 ^ b))
full_off (suc n) zero low = absurd (omega arith)
full_off (suc n) (suc b) low =
    let two : 2 * 2 ^ b ≡ 2 ^ suc b = (let p = pow-suc 2 b in omega (arith, p)) in
    let half : (full n * 2 + 1) / 2 ≡ full n = omega arith in
    let e : (full n * 2 + 1) / 2 ^ suc b ≡ full n / 2 ^ b = ap (λ (z : ℕ). (full n * 2 + 1) / z) (sym two) ∙ (sym (div-div-eq-div-mul (full n * 2 + 1) 2 (2 ^ b)) ∙ ap (λ (z : ℕ). z / 2 ^ b) half) in
    ap (λ (z : ℕ). z % 2) e ∙ full_off n b (omega arith)

-- a bit of a free word that is of no table
pub record IsNone (k : Shape) (t : ℕ) : Type 0 where
  pub class : IsClass (class_of t)
  pub number : number_of t < 1024
  pub none : tables_in k (class_of t) ≤ number_of t

none_low : (k : Shape) (t : ℕ) → IsNone k t → free_word_of t < 224
unfolding free_word_of
none_low k t is = let l = is.class.least in let h = is.class.greatest in let n = is.number in omega (arith, l, h, n)

none_is : (k : Shape) (t : ℕ) → IsNone k t → (number_of t ≡ 64 * (free_word_of t % 16) + free_bit_of t) × (3 + free_word_of t / 16 ≡ class_of t)
unfolding free_word_of free_bit_of
none_is k t is = let l = is.class.least in let n = is.number in (omega (arith, l, n), omega (arith, l, n))

none_apart : (k : Shape) (q t : ℕ) → IsTableName k q → IsNone k t → free_word_of q ≡ free_word_of t → free_bit_of q ≡ free_bit_of t → ⊥
none_apart k q t is it same bit_same =
    let a = num_is k q is in
    let b = none_is k t it in
    let a0 = a.0 in
    let b0 = b.0 in
    let n : number_of q ≡ number_of t = omega (arith, a0, b0, same, bit_same) in
    let c : class_of q ≡ class_of t = sym a.1 ∙ (ap (λ (z : ℕ). 3 + z / 16) same ∙ b.1) in
    let count : tables_in k (class_of q) ≡ tables_in k (class_of t) = ap (tables_in k) c in
    let low = is.1 in
    let none = it.none in
    absurd (omega (arith, n, count, low, none))

module _ (k : Shape) (es : List Event) (id : ℕ) (v : View) (t : ℕ) (none : IsNone k t) where
  far : (a : Act) → May k (run k es) (history es) v a → place a ≢ bits (free_word_of t) → bit_of k (did id v a ∷ es) t ≡ bit_of k es t
  far a may ne = ap (bit (free_bit_of t)) (stays k es id v a may (bits (free_word_of t)) (none_low k t none) ne)

  near_ : (q : ℕ) (a : Act) → IsTableName k q → place a ≡ bits (free_word_of q) → May k (run k es) (history es) v a → ((n : ℕ) → free_bit_of q ≢ free_bit_of t → bit (free_bit_of t) (word_after v.number a n) ≡ bit (free_bit_of t) n) → bit_of k (did id v a ∷ es) t ≡ bit_of k es t
  near_ q a table is may does =
      dite (ℕ_discrete (free_word_of q) (free_word_of t))
      (λ (e : free_word_of q ≡ free_word_of t).
      let p : place a ≡ bits (free_word_of t) = is ∙ ap bits e in
      let m : word k (did id v a ∷ es) (bits (free_word_of t)) ≡ word_after v.number a (word k es (bits (free_word_of t))) = subst (λ (x : Word). word k (did id v a ∷ es) x ≡ word_after v.number a (word k es x)) p (moves k es id v a may) in
      ap (bit (free_bit_of t)) m ∙ does (word k es (bits (free_word_of t))) (λ n. none_apart k q t table none e n))
      (λ apart. far a may (λ e. apart (let z : bits (free_word_of q) ≡ bits (free_word_of t) = sym is ∙ e in cc)))

  unused_by : (a : Act) → May k (run k es) (history es) v a → bit_of k (did id v a ∷ es) t ≡ bit_of k es t
  unused_by (TakeTable p f s) may = near_ p (TakeTable p f s) may.0 refl may (λ n apart. off_else (free_bit_of p) (free_bit_of t) n (bt_low p) (bt_low t) apart)
  unused_by (GiveTable p) may = near_ p (GiveTable p) may.0 refl may (λ n apart. on_else (free_bit_of p) (free_bit_of t) n (bt_low p) apart)
  unused_by (ReadFree w f) may = ap (bit (free_bit_of t)) (loaded k es id v (ReadFree w f) (λ n. refl) (bits (free_word_of t)))
  unused_by act may = far act may (λ e. absurd (cc))

pub unused : (k : Shape) (es : List Event) → Valid k es → (t : ℕ) → IsNone k t → bit_of k es t ≡ 0
unused k [] valid t none =
    let n = none_is k t none in
    let n0 = n.0 in
    let b = bt_low t in
    let few = none.none in
    let same : tables_of_class k.tables (3 + free_word_of t / 16) ≡ tables_in k (class_of t) = ap (tables_of_class k.tables) n.1 in
    let d = tables_of_class k.tables (3 + free_word_of t / 16) - 64 * (free_word_of t % 16) in
    let small : d ≤ free_bit_of t = omega (arith, n0, few, same) in
    let is : least (ltb d 64) d ≡ d = ap (λ (z : Bool). least z d) (lt-ltb d 64 (omega (arith, small, b))) in
    ap (bit (free_bit_of t)) (bits_first k (free_word_of t) (none_low k t none)) ∙ (ap (λ (z : ℕ). bit (free_bit_of t) (full z)) is ∙ full_off d (free_bit_of t) small)
unused k (did id v a ∷ es) valid t none = unused_by k es id v t none a valid.1.3 ∙ unused k es valid.0 t none
unused k (forked id v ∷ es) valid t none = unused k es valid.0 t none
unused k (sent id v given ∷ es) valid t none = unused k es valid.0 t none
unused k (joined id v other w ∷ es) valid t none = unused k es valid.0 t none

sum_split : (f : ℕ → ℕ) (a b : ℕ) → sum_to f (a + b) ≡ sum_to f a + sum_to (λ i. f (a + i)) b
sum_split f a zero = let e : a + 0 ≡ a = omega arith in let z : sum_to f (a + 0) ≡ sum_to f a = ap (sum_to f) e in omega (arith, z)
sum_split f a (suc b) = let e : a + suc b ≡ suc (a + b) = omega arith in let z : sum_to f (a + suc b) ≡ f (a + b) + sum_to f (a + b) = ap (sum_to f) e in let h = sum_split f a b in omega (arith, z, h)

sum_parts : (f : ℕ → ℕ) (m : ℕ) → sum_to (λ j. sum_to (λ b. f (64 * j + b)) 64) m ≡ sum_to f (64 * m)
sum_parts f zero = refl
sum_parts f (suc m) =
    let h = sum_parts f m in
    let s = sum_split f (64 * m) 64 in
    let e : 64 * suc m ≡ 64 * m + 64 = omega arith in
    let z : sum_to f (64 * suc m) ≡ sum_to f (64 * m + 64) = ap (sum_to f) e in
    let x : sum_to (λ j. sum_to (λ b. f (64 * j + b)) 64) (suc m) ≡ sum_to (λ b. f (64 * m + b)) 64 + sum_to (λ j. sum_to (λ b. f (64 * j + b)) 64) m = refl in
    omega (arith, h, s, z, x)

-- nothing from a on
sum_cut : (f : ℕ → ℕ) (a n : ℕ) → a ≤ n → ((i : ℕ) → a ≤ i → i < n → f i ≡ 0) → sum_to f n ≡ sum_to f a
sum_cut f a zero low none = let e : 0 ≡ a = omega arith in ap (sum_to f) e
sum_cut f a (suc n) low none =
    dite (ℕ_discrete a (suc n)) (λ (e : a ≡ suc n). sym (ap (sum_to f) e))
    (λ ne.
    let h = sum_cut f a n (omega (arith, low, ne)) (λ i up less. none i up (omega arith)) in
    let z = none n (omega (arith, low, ne)) (omega arith) in
    omega (arith, h, z))

word_of : (c j b : ℕ) → IsClass c → j < 16 → b < 64 → free_word_of (65536 * c + (64 * j + b)) ≡ 16 * (c - 3) + j
unfolding free_word_of
word_of c j b is less low =
    let a = class_of_number c (64 * j + b) (omega arith) in
    let n = number_of_number c (64 * j + b) (omega arith) in
    let l = is.least in
    omega (arith, a, n, l, less, low)

bit_is : (c j b : ℕ) → j < 16 → b < 64 → free_bit_of (65536 * c + (64 * j + b)) ≡ b
unfolding free_bit_of
bit_is c j b less low = let n = number_of_number c (64 * j + b) (omega arith) in omega (arith, n, less, low)

none_in : (k : Shape) (c i : ℕ) → IsClass c → tables_in k c ≤ i → i < 1024 → IsNone k (65536 * c + i)
none_in k c i is up low =
    let a = class_of_number c i low in
    let n = number_of_number c i low in
    let count : tables_in k (class_of (65536 * c + i)) ≡ tables_in k c = ap (tables_in k) a in
    record { class = subst IsClass (sym a) is; number = omega (arith, n, low); none = omega (arith, n, count, up) }

pub words_are : (k : Shape) (es : List Event) → Valid k es → (c : ℕ) → IsClass c → word_bits k es c ≡ set_bits k es c
words_are k es valid c low =
    let F : ℕ → ℕ = λ i. bit_of k es (65536 * c + i) in
    let G : ℕ → ℕ = λ j. ones (word k es (bits (16 * (c - 3) + j))) in
    let H : ℕ → ℕ = λ j. sum_to (λ b. F (64 * j + b)) 64 in
    let each : sum_to G 16 ≡ sum_to H 16 = sum_same G H 16 (λ j in_class. sum_same (λ b. bit b (word k es (bits (16 * (c - 3) + j)))) (λ b. F (64 * j + b)) 64 (λ b less. ap (λ (z : ℕ). bit z (word k es (bits (16 * (c - 3) + j)))) (sym (bit_is c j b in_class less)) ∙ ap (λ (z : ℕ). bit (free_bit_of (65536 * c + (64 * j + b))) (word k es (bits z))) (sym (word_of c j b low in_class less)))) in
    each
    ∙ (sum_parts F 16
    ∙ sum_cut F (tables_in k c) (64 * 16) ((fits k es valid).tables c low) (λ i up less. unused k es valid (65536 * c + i) (none_in k c i low up less)))

-- the bank's rule: the set bits of a class are as many as its count word says, and one for each taking and giving in flight
pub words_stand : (k : Shape) (es : List Event) → Valid k es → (c : ℕ) → IsClass c → word_bits k es c ≡ word k es (count_of_class c) + total (taking c) (run k es).views + total (giving c) (run k es).views
words_stand k es valid c low = words_are k es valid c low ∙ counts_stand k es valid c low
