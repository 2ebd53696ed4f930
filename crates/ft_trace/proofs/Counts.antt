-- The count word of a class: its set bits, less the takings and givings in flight.
use Rattle.std.proofs.Common.{◌≡◌, ◌≢◌, ◌⊎◌, ℕ, zero, suc, eqb, ◌+◌, ◌-◌, ◌*◌, ◌<◌, ◌≤◌, cond, List, [], ◌∷◌, refl, sym, ap, ◌∙◌, subst, inl, inr, ⊎_elim, arith}
use mathlib.Core.Option.{some, some-ne-none, some-injective}
use mathlib.Core.Logic.{dite}
use native.Mathlib.Decide.{ℕ_discrete}
use lib.ListN.{get_elem?}
use prog.Atomic.{either}
use Rattle.ft_trace.specs.declared.Shape.{Shape}
use Rattle.ft_trace.specs.declared.View.{View}
use Rattle.ft_trace.specs.declared.Act.{Act}
use Rattle.ft_trace.specs.declared.Act.TheVariants.{LowerCount, RaiseCount, ReadCount, ReadFree, TakeTable, GiveTable}
use Rattle.ft_trace.specs.Bits.{bit}
use Rattle.ft_trace.specs.Addresses.{tables_in, count_of_class, bits, class_of, number_of, free_word_of, free_bit_of, IsTableName}
use Rattle.ft_trace.specs.Acts.{place, stage, flight, flight_next, view_after, maker, made, both, spent, sender, note}
use Rattle.ft_trace.specs.Entries.{total}
use Rattle.ft_trace.specs.Sums.{sum_to}
use Rattle.ft_trace.specs.Counts.{taking, giving}
use Rattle.ft_trace.specs.Traces.{Event, did, forked, joined, sent, run, word, history, May, Valid}
use Rattle.ft_model.specs.Classes.{IsClass}
use Rattle.ft_trace.proofs.Announcing.{fits}
use Rattle.ft_trace.proofs.Cases.{miss, here, same_or}
use Rattle.ft_trace.proofs.Addresses.{bt_low, class_of_number, number_of_number, table_is, bit_first, count_first}
use Rattle.ft_trace.proofs.Bits.{off_same, on_same, off_else, on_else, bit_small}
use Rattle.ft_trace.proofs.OneWord.{stays, moves, loaded}
use Rattle.ft_trace.proofs.OddVersions.{one_up}
use Rattle.ft_trace.proofs.TablePlaces.{placed, other_bit, bit_stays}
use Rattle.ft_trace.proofs.Totals.{total_set, total_forked, total_joined}

-- the bit of a table, 1 where it is free
abbrev pub bit_of : Shape → List Event → ℕ → ℕ
bit_of k es t = bit (free_bit_of t) (word k es (bits (free_word_of t)))

-- how many bits of the class are set
abbrev pub set_bits : Shape → List Event → ℕ → ℕ
set_bits k es c = sum_to (λ i. bit_of k es (65536 * c + i)) (tables_in k c)

pub sum_same : (f g : ℕ → ℕ) (n : ℕ) → ((i : ℕ) → i < n → f i ≡ g i) → sum_to f n ≡ sum_to g n
sum_same f g zero same = refl
sum_same f g (suc n) same = let a = same n (omega arith) in let b = sum_same f g n (λ i low. same i (omega arith)) in omega (arith, a, b)

-- where one is another
pub sum_one : (f g : ℕ → ℕ) (n j : ℕ) → j < n → ((i : ℕ) → i < n → i ≢ j → f i ≡ g i) → sum_to f n + g j ≡ sum_to g n + f j
sum_one f g zero j low same = absurd (omega arith)
sum_one f g (suc n) j low same =
    dite (ℕ_discrete j n)
    (λ (e : j ≡ n).
    let rest = sum_same f g n (λ i less. same i (omega arith) (λ x. omega arith)) in
    let a : f j ≡ f n = ap f e in
    let b : g j ≡ g n = ap g e in
    omega (arith, rest, a, b))
    (λ ne.
    let rest = sum_one f g n j (omega arith) (λ i less apart. same i (omega arith) apart) in
    let last = same n (omega arith) (λ e. ne (sym e)) in
    omega (arith, rest, last))

pub sum_low : (f : ℕ → ℕ) (n : ℕ) → ((i : ℕ) → i < n → f i < 2) → sum_to f n ≤ n
sum_low f zero low = omega arith
sum_low f (suc n) low = let a = low n (omega arith) in let b = sum_low f n (λ i less. low i (omega arith)) in omega (arith, a, b)

sum_ones : (f : ℕ → ℕ) (n : ℕ) → ((i : ℕ) → i < n → f i ≡ 1) → sum_to f n ≡ n
sum_ones f zero one = refl
sum_ones f (suc n) one = let a = one n (omega arith) in let b = sum_ones f n (λ i less. one i (omega arith)) in omega (arith, a, b)

-- what a number of flight counts for the class
abbrev low_in : ℕ → ℕ → ℕ
low_in c n = cond (eqb n (2 * c + 1)) 1 0

abbrev set_in : ℕ → ℕ → ℕ
set_in c n = cond (eqb n (2 * c + 2)) 1 0

abbrev pub busy : ℕ → ℕ → ℕ
busy c n = low_in c n + set_in c n

pub busy_is : (c n : ℕ) → (n ≡ 2 * c + 1) ⊎ (n ≡ 2 * c + 2) → busy c n ≡ 1
busy_is c n =
    ⊎_elim
    (λ (e : n ≡ 2 * c + 1). let a : low_in c n ≡ 1 = here n (2 * c + 1) 1 0 e in let b : set_in c n ≡ 0 = miss n (2 * c + 2) 1 0 (λ z. omega (arith, e, z)) in omega (arith, a, b))
    (λ (e : n ≡ 2 * c + 2). let a : low_in c n ≡ 0 = miss n (2 * c + 1) 1 0 (λ z. omega (arith, e, z)) in let b : set_in c n ≡ 1 = here n (2 * c + 2) 1 0 e in omega (arith, a, b))

pub busy_not : (c n : ℕ) → n ≢ 2 * c + 1 → n ≢ 2 * c + 2 → busy c n ≡ 0
busy_not c n x y = let a : low_in c n ≡ 0 = miss n (2 * c + 1) 1 0 x in let b : set_in c n ≡ 0 = miss n (2 * c + 2) 1 0 y in omega (arith, a, b)

busy_low : (c n : ℕ) → busy c n ≤ 1
busy_low c n =
    dite (ℕ_discrete n (2 * c + 1)) (λ (e : n ≡ 2 * c + 1). let b = busy_is c n (inl e) in omega (arith, b))
    (λ x. dite (ℕ_discrete n (2 * c + 2)) (λ (e : n ≡ 2 * c + 2). let b = busy_is c n (inr e) in omega (arith, b)) (λ y. let b = busy_not c n x y in omega (arith, b)))

abbrev pub busy_in : ℕ → View → ℕ
busy_in c u = busy c (flight u.log)

-- a table of the class
pub of_class : (k : Shape) (c i : ℕ) → tables_in k c ≤ 1024 → IsClass c → i < tables_in k c → IsTableName k (65536 * c + i)
of_class k c i small low less =
    let a = class_of_number c i (omega arith) in
    let b = number_of_number c i (omega arith) in
    let room : i < tables_in k (class_of (65536 * c + i)) = subst (λ (z : ℕ). i < tables_in k z) (sym a) less in
    (subst IsClass (sym a) low, omega (arith, b, room), omega (arith, b, less, small))

module _ (k : Shape) (es : List Event) (id : ℕ) (v : View) (c : ℕ) (small : tables_in k c ≤ 1024) (low : IsClass c) where
  abbrev S : ℕ
  S = set_bits k es c

  abbrev S' : Act → ℕ
  S' a = set_bits k (did id v a ∷ es) c

  abbrev C : ℕ
  C = word k es (count_of_class c)

  abbrev C' : Act → ℕ
  C' a = word k (did id v a ∷ es) (count_of_class c)

  abbrev B : ℕ
  B = busy c (flight v.log)

  abbrev B' : Act → ℕ
  B' a = busy c (flight_next a (flight v.log))

  -- as many bits more as the count and what is in flight are more
  abbrev Evenly : Act → Type 0
  Evenly a = S' a + (C + B) ≡ S + (C' a + B' a)

  abbrev Step : Act → Type 0
  Step a = Valid k (did id v a ∷ es) → C + B ≤ 1024 → Evenly a

  -- on no free word
  no_bit : (a : Act) → May k (run k es) (history es) v a → ((w : ℕ) → place a ≢ bits w) → S' a ≡ S
  no_bit a may apart = sum_same (λ i. bit_of k (did id v a ∷ es) (65536 * c + i)) (λ i. bit_of k es (65536 * c + i)) (tables_in k c) (λ i less. bit_stays k es id v (65536 * c + i) (of_class k c i small low less) a may (apart (free_word_of (65536 * c + i))))

  -- on the bit of the table p
  one_bit : (a : Act) (p : ℕ) → IsTableName k p → ((t : ℕ) → IsTableName k t → p ≢ t → bit_of k (did id v a ∷ es) t ≡ bit_of k es t) → ((class_of p ≡ c) × (S' a + bit_of k es p ≡ S + bit_of k (did id v a ∷ es) p)) ⊎ ((class_of p ≢ c) × (S' a ≡ S))
  one_bit a p is else =
      let f : ℕ → ℕ = λ i. bit_of k (did id v a ∷ es) (65536 * c + i) in
      let g : ℕ → ℕ = λ i. bit_of k es (65536 * c + i) in
      let split = table_is p in
      dite (ℕ_discrete (class_of p) c)
      (λ (e : class_of p ≡ c).
      let j : 65536 * c + number_of p ≡ p = omega (arith, split, e) in
      let s = sum_one f g (tables_in k c) (number_of p) (subst (λ (z : ℕ). number_of p < tables_in k z) e is.1) (λ i less ne. else (65536 * c + i) (of_class k c i small low less) (λ z. ne (omega (arith, z, j)))) in
      let x : f (number_of p) ≡ bit_of k (did id v a ∷ es) p = ap (bit_of k (did id v a ∷ es)) j in
      let y : g (number_of p) ≡ bit_of k es p = ap (bit_of k es) j in
      inl (e, omega (arith, s, x, y)))
      (λ far. inr (far, sum_same f g (tables_in k c) (λ i less. else (65536 * c + i) (of_class k c i small low less) (λ z. far (ap class_of z ∙ class_of_number c i (omega arith))))))

  take_else : (p f : ℕ) (s : _) → May k (run k es) (history es) v (TakeTable p f s) → (t : ℕ) → IsTableName k t → p ≢ t → bit_of k (did id v (TakeTable p f s) ∷ es) t ≡ bit_of k es t
  take_else p f s may t is ne = other_bit k es id v t is p may.0 (TakeTable p f s) ne refl may (λ n apart. off_else (free_bit_of p) (free_bit_of t) n (bt_low p) (bt_low t) apart)

  give_else : (p : ℕ) → May k (run k es) (history es) v (GiveTable p) → (t : ℕ) → IsTableName k t → p ≢ t → bit_of k (did id v (GiveTable p) ∷ es) t ≡ bit_of k es t
  give_else p may t is ne = other_bit k es id v t is p may.0 (GiveTable p) ne refl may (λ n apart. on_else (free_bit_of p) (free_bit_of t) n (bt_low p) apart)

  by_lower : (d old f : ℕ) → Step (LowerCount d old f)
  by_lower d old f ok room =
      let A : Act = LowerCount d old f in
      let may = ok.1.3 in
      let found : f ≡ word k es (count_of_class d) = ok.1.2 in
      let s = no_bit A may (λ w e. absurd (cc)) in
      let up = may.1 in
      let b : B ≡ 0 = busy_not c (flight v.log) (λ z. let y = may.2 in omega (arith, z, y)) (λ z. let y = may.2 in omega (arith, z, y)) in
      dite (ℕ_discrete f old)
      (λ (e : f ≡ old).
      let n : flight_next A (flight v.log) ≡ 2 * d + 1 = here f old (2 * d + 1) (flight v.log) e in
      dite (ℕ_discrete d c)
      (λ (same : d ≡ c).
      let m : C' A ≡ either (eqb (word k es (count_of_class d)) old) (old - 1) (word k es (count_of_class d)) = ap (λ (z : ℕ). word k (did id v A ∷ es) (count_of_class z)) (sym same) ∙ moves k es id v A may in
      let x : either (eqb (word k es (count_of_class d)) old) (old - 1) (word k es (count_of_class d)) ≡ old - 1 = here (word k es (count_of_class d)) old (old - 1) (word k es (count_of_class d)) (sym found ∙ e) in
      let w : word k es (count_of_class d) ≡ C = ap (λ (z : ℕ). word k es (count_of_class z)) same in
      let b' : B' A ≡ 1 = busy_is c (flight_next A (flight v.log)) (inl (omega (arith, n, same))) in
      omega (arith, s, up, b, b', m, x, w, found, e))
      (λ ne.
      let stay = stays k es id v A may (count_of_class c) low (λ z. ne (cc)) in
      let b' : B' A ≡ 0 = busy_not c (flight_next A (flight v.log)) (λ z. ne (omega (arith, n, z))) (λ z. omega (arith, n, z)) in
      omega (arith, s, b, b', stay)))
      (λ no.
      let n : flight_next A (flight v.log) ≡ flight v.log = miss f old (2 * d + 1) (flight v.log) no in
      let b' : B' A ≡ B = ap (busy c) n in
      dite (ℕ_discrete d c)
      (λ (same : d ≡ c).
      let m : C' A ≡ either (eqb (word k es (count_of_class d)) old) (old - 1) (word k es (count_of_class d)) = ap (λ (z : ℕ). word k (did id v A ∷ es) (count_of_class z)) (sym same) ∙ moves k es id v A may in
      let x : either (eqb (word k es (count_of_class d)) old) (old - 1) (word k es (count_of_class d)) ≡ word k es (count_of_class d) = miss (word k es (count_of_class d)) old (old - 1) (word k es (count_of_class d)) (λ z. no (found ∙ z)) in
      let w : word k es (count_of_class d) ≡ C = ap (λ (z : ℕ). word k es (count_of_class z)) same in
      omega (arith, s, b', m, x, w))
      (λ ne. let stay = stays k es id v A may (count_of_class c) low (λ z. ne (cc)) in omega (arith, s, b', stay)))

  -- the count has room
  raised : (f : ℕ) → Valid k (did id v (RaiseCount c f) ∷ es) → C + B ≤ 1024 → (B ≡ 1) × (C' (RaiseCount c f) ≡ C + 1)
  raised f ok room =
      let b : B ≡ 1 = busy_is c (flight v.log) ok.1.3.1 in
      (b, moves k es id v (RaiseCount c f) ok.1.3 ∙ one_up C (omega (arith, room, b)))

  by_raise : (d f : ℕ) → Step (RaiseCount d f)
  by_raise d f =
      same_or (λ (z : ℕ). Step (RaiseCount z f)) d c
      (λ ok room.
      let A : Act = RaiseCount c f in
      let s = no_bit A ok.1.3 (λ w e. absurd (cc)) in
      let r = raised f ok room in
      let b = r.0 in
      let m = r.1 in
      let b' : B' A ≡ 0 = busy_not c 0 (λ z. omega arith) (λ z. omega arith) in
      omega (arith, s, b, m, b'))
      (λ ne ok room.
      let A : Act = RaiseCount d f in
      let s = no_bit A ok.1.3 (λ w e. absurd (cc)) in
      let stay = stays k es id v A ok.1.3 (count_of_class c) low (λ z. ne (cc)) in
      let b : B ≡ 0 = ⊎_elim
      (λ (e : flight v.log ≡ 2 * d + 1). busy_not c (flight v.log) (λ z. ne (omega (arith, e, z))) (λ z. omega (arith, e, z)))
      (λ (e : flight v.log ≡ 2 * d + 2). busy_not c (flight v.log) (λ z. omega (arith, e, z)) (λ z. ne (omega (arith, e, z)))) ok.1.3.1 in
      let b' : B' A ≡ 0 = busy_not c 0 (λ z. omega arith) (λ z. omega arith) in
      omega (arith, s, stay, b, b'))

  by_take : (p f : ℕ) (s : _) → Step (TakeTable p f s)
  by_take p f s ok room =
      let A : Act = TakeTable p f s in
      let may = ok.1.3 in
      let stay = stays k es id v A may (count_of_class c) low (λ z. absurd (cc)) in
      let was : bit (free_bit_of p) f ≡ bit_of k es p = ap (bit (free_bit_of p)) ok.1.2 in
      let now : bit_of k (did id v A ∷ es) p ≡ 0 = ap (bit (free_bit_of p)) (moves k es id v A may) ∙ off_same (free_bit_of p) (word k es (bits (free_word_of p))) (bt_low p) in
      let small_bit = bit_small (free_bit_of p) f in
      let fl : flight v.log ≡ 2 * class_of p + 1 = may.3 in
      dite (ℕ_discrete (bit (free_bit_of p) f) 1)
      (λ (one : bit (free_bit_of p) f ≡ 1).
      let b' : B' A ≡ 0 = ap (busy c) (here (bit (free_bit_of p) f) 1 0 (flight v.log) one) ∙ busy_not c 0 (λ z. omega arith) (λ z. omega arith) in
      ⊎_elim
      (λ (h : (class_of p ≡ c) × (S' A + bit_of k es p ≡ S + bit_of k (did id v A ∷ es) p)).
      let b : B ≡ 1 = busy_is c (flight v.log) (inl (fl ∙ ap (λ (z : ℕ). 2 * z + 1) h.0)) in
      let x = h.1 in
      omega (arith, stay, was, now, one, b', b, x))
      (λ (h : (class_of p ≢ c) × (S' A ≡ S)).
      let b : B ≡ 0 = busy_not c (flight v.log) (λ z. h.0 (omega (arith, fl, z))) (λ z. omega (arith, fl, z)) in
      let x = h.1 in
      omega (arith, stay, b', b, x))
      (one_bit A p may.0 (take_else p f s may)))
      (λ no.
      let b' : B' A ≡ B = ap (busy c) (miss (bit (free_bit_of p) f) 1 0 (flight v.log) no) in
      ⊎_elim
      (λ (h : (class_of p ≡ c) × (S' A + bit_of k es p ≡ S + bit_of k (did id v A ∷ es) p)).
      let x = h.1 in
      let zero_is : bit (free_bit_of p) f ≡ 0 = omega (arith, small_bit, no) in
      omega (arith, stay, was, now, zero_is, b', x))
      (λ (h : (class_of p ≢ c) × (S' A ≡ S)). let x = h.1 in omega (arith, stay, b', x))
      (one_bit A p may.0 (take_else p f s may)))

  by_give : (p : ℕ) → Step (GiveTable p)
  by_give p ok room =
      let A : Act = GiveTable p in
      let may = ok.1.3 in
      let its = placed k es ok.0 p may.0 in
      let stay = stays k es id v A may (count_of_class c) low (λ z. absurd (cc)) in
      let some_stage : stage p v.log ≢ 0 = ⊎_elim (λ (x : (stage p v.log ≡ 1) × _). λ z. let y = x.0 in absurd (omega (arith, y, z))) (λ (x : (stage p v.log ≡ 4) × _). λ z. let y = x.0 in absurd (omega (arith, y, z))) may.1 in
      let mine = its.hands id v ok.1.0 some_stage in
      let small_bit = bit_small (free_bit_of p) (word k es (bits (free_word_of p))) in
      let not_one : bit_of k es p ≢ 1 = λ b. some_stage (sym mine.0 ∙ its.free_is b) in
      let was : bit_of k es p ≡ 0 = omega (arith, small_bit, not_one) in
      let now : bit_of k (did id v A ∷ es) p ≡ 1 = ap (bit (free_bit_of p)) (moves k es id v A may) ∙ on_same (free_bit_of p) (word k es (bits (free_word_of p))) (bt_low p) in
      let idle = may.2 in
      let b : B ≡ 0 = busy_not c (flight v.log) (λ z. omega (arith, idle, z)) (λ z. omega (arith, idle, z)) in
      ⊎_elim
      (λ (h : (class_of p ≡ c) × (S' A + bit_of k es p ≡ S + bit_of k (did id v A ∷ es) p)).
      let b' : B' A ≡ 1 = busy_is c (2 * class_of p + 2) (inr (ap (λ (z : ℕ). 2 * z + 2) h.0)) in
      let x = h.1 in
      omega (arith, stay, was, now, b, b', x))
      (λ (h : (class_of p ≢ c) × (S' A ≡ S)).
      let b' : B' A ≡ 0 = busy_not c (2 * class_of p + 2) (λ z. omega (arith, z)) (λ z. h.0 (omega (arith, z))) in
      let x = h.1 in
      omega (arith, stay, b, b', x))
      (one_bit A p may.0 (give_else p may))

  pub evenly : (a : Act) → Step a
  evenly (LowerCount d old f) = by_lower d old f
  evenly (RaiseCount d f) = by_raise d f
  evenly (TakeTable p f s) = by_take p f s
  evenly (GiveTable p) = by_give p
  evenly (ReadCount d f) = λ ok room.
      let s = no_bit (ReadCount d f) ok.1.3 (λ w e. absurd (cc)) in
      let m = loaded k es id v (ReadCount d f) (λ n. refl) (count_of_class c) in
      omega (arith, s, m)
  evenly (ReadFree w f) = λ ok room.
      let s : S' (ReadFree w f) ≡ S = sum_same (λ i. bit_of k (did id v (ReadFree w f) ∷ es) (65536 * c + i)) (λ i. bit_of k es (65536 * c + i)) (tables_in k c) (λ i less. ap (bit (free_bit_of (65536 * c + i))) (loaded k es id v (ReadFree w f) (λ n. refl) (bits (free_word_of (65536 * c + i))))) in
      let m = stays k es id v (ReadFree w f) ok.1.3 (count_of_class c) low (λ e. absurd (cc)) in
      omega (arith, s, m)
  evenly act = λ ok room.
      let s = no_bit act ok.1.3 (λ w e. absurd (cc)) in
      let m = stays k es id v act ok.1.3 (count_of_class c) low (λ e. absurd (cc)) in
      omega (arith, s, m)

pub total_at : (f : View → ℕ) (l : List View) (i : ℕ) (v : View) → get_elem? l i ≡ some v → f v ≤ total f l
total_at f [] i v e = absurd (some-ne-none v (sym e))
total_at f (x ∷ xs) zero v e = let same : f x ≡ f v = ap f (some-injective x v e) in omega (arith, same)
total_at f (x ∷ xs) (suc i) v e = let t = total_at f xs i v e in omega (arith, t)

pub bits_low : (k : Shape) (es : List Event) (c : ℕ) → set_bits k es c ≤ tables_in k c
bits_low k es c = sum_low (λ i. bit_of k es (65536 * c + i)) (tables_in k c) (λ i less. bit_small (free_bit_of (65536 * c + i)) (word k es (bits (free_word_of (65536 * c + i)))))

few : (k : Shape) (es : List Event) → Valid k es → (c : ℕ) → IsClass c → tables_in k c ≤ 1024
few k es valid c low = (fits k es valid).tables c low

pub counted_bits : (k : Shape) (es : List Event) → Valid k es → (c : ℕ) → IsClass c → set_bits k es c ≡ word k es (count_of_class c) + total (busy_in c) (run k es).views
counted_bits k [] valid c low =
    let small = few k [] valid c low in
    let a = sum_ones (λ i. bit_of k [] (65536 * c + i)) (tables_in k c) (λ i less. bit_first k (65536 * c + i) (of_class k c i small low less)) in
    let b : word k [] (count_of_class c) ≡ (tables_in k c) = count_first k c low in
    let z : busy c 0 ≡ 0 = busy_not c 0 (λ z. omega arith) (λ z. omega arith) in
    omega (arith, a, b, z)
counted_bits k (did id v a ∷ es) valid c low =
    let small = few k es valid.0 c low in
    let old = counted_bits k es valid.0 c low in
    let top = bits_low k es c in
    let part = total_at (busy_in c) (run k es).views id v valid.1.0 in
    let t = total_set (busy_in c) (run k es).views id v (view_after a v) valid.1.0 in
    let e = evenly k es id v c small low a valid (omega (arith, old, top, part, small)) in
    omega (arith, old, t, e, part)
counted_bits k (forked id v ∷ es) valid c low =
    let z : busy c 0 ≡ 0 = busy_not c 0 (λ z. omega arith) (λ z. omega arith) in
    counted_bits k es valid.0 c low ∙ ap (λ (n : ℕ). word k es (count_of_class c) + n) (sym (total_forked (busy_in c) (run k es).views id v (maker v) (made v) valid.1.0 (omega (arith, z))))
counted_bits k (sent id v given ∷ es) valid c low =
    let z : busy c 0 ≡ 0 = busy_not c 0 (λ z. omega arith) (λ z. omega arith) in
    counted_bits k es valid.0 c low ∙ ap (λ (n : ℕ). word k es (count_of_class c) + n) (sym (total_forked (busy_in c) (run k es).views id v (sender given v) (note given v) valid.1.0 (omega (arith, z))))
counted_bits k (joined id v other w ∷ es) valid c low =
    let z : busy c 0 ≡ 0 = busy_not c 0 (λ z. omega arith) (λ z. omega arith) in
    let none : busy_in c w ≡ 0 = ap (busy c) valid.1.5.3 ∙ z in
    counted_bits k es valid.0 c low ∙ ap (λ (n : ℕ). word k es (count_of_class c) + n) (sym (total_joined (busy_in c) (run k es).views id other v w (both v w) spent valid.1.0 valid.1.1 valid.1.2 (omega (arith, z, none))))

-- the sum of two numbers of each
total_both : (f g : View → ℕ) (l : List View) → total (λ (u : View). f u + g u) l ≡ total f l + total g l
total_both f g [] = refl
total_both f g (x ∷ xs) = let t = total_both f g xs in omega (arith, t)

-- the set bits of a class, its count, the takings in flight, the givings in flight
pub counts_stand : (k : Shape) (es : List Event) → Valid k es → (c : ℕ) → IsClass c → set_bits k es c ≡ word k es (count_of_class c) + total (taking c) (run k es).views + total (giving c) (run k es).views
counts_stand k es valid c low = let a = counted_bits k es valid c low in let b = total_both (taking c) (giving c) (run k es).views in omega (arith, a, b)

pub count_low : (k : Shape) (es : List Event) → Valid k es → (c : ℕ) → IsClass c → word k es (count_of_class c) ≤ tables_in k c
count_low k es valid c low = let a = counted_bits k es valid c low in let b = bits_low k es c in omega (arith, a, b)

-- a raise finds less than there are tables
pub raise_room : (k : Shape) (es : List Event) (id : ℕ) (v : View) (c f : ℕ) → Valid k (did id v (RaiseCount c f) ∷ es) → (word k es (count_of_class c) < (tables_in k c)) × (word k (did id v (RaiseCount c f) ∷ es) (count_of_class c) ≡ word k es (count_of_class c) + 1)
raise_room k es id v c f valid =
    let low = valid.1.3.0 in
    let small = few k es valid.0 c low in
    let old = counted_bits k es valid.0 c low in
    let top = bits_low k es c in
    let part = total_at (busy_in c) (run k es).views id v valid.1.0 in
    let r = raised k es id v c small low f valid (omega (arith, old, top, part, small)) in
    let b = r.0 in
    (omega (arith, old, top, part, b), r.1)
