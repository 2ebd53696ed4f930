-- Each table is free, or in one hand, or named by one root.
use Rattle.std.proofs.Common.{◌≡◌, ◌≢◌, ℕ, suc, eqb, ◌+◌, ◌-◌, ◌%◌, ◌<◌, cond, List, [], ◌∷◌, refl, sym, ap, ◌∙◌, subst, ⊎_elim, arith}
use mathlib.Core.Option.{some}
use mathlib.Core.Logic.{dite}
use native.Mathlib.Decide.{ℕ_discrete}
use lib.ListN.{get_elem?}
use Rattle.ft_trace.specs.declared.Snap.{Snap}
use Rattle.ft_trace.specs.declared.Shape.{Shape}
use Rattle.ft_trace.specs.declared.View.{View}
use Rattle.ft_trace.specs.declared.Act.{Act}
use Rattle.ft_trace.specs.declared.Act.TheVariants.{PutBlock, PutRoot, ReadBlock, ReadRoot, ReadFree, TakeTable, GiveTable, Retire, TookOver}
use Rattle.ft_trace.specs.Bits.{bit}
use Rattle.ft_trace.specs.Addresses.{Word, bits, block, IsTableName, free_word_of, free_bit_of, container_count}
use Rattle.ft_trace.specs.Acts.{place, word_after, Reports, stage, stage_next, is_handed, hands_over, starter, view_after, maker, made, both, spent, sender, note}
use Rattle.ft_trace.specs.Traces.{Event, did, forked, joined, sent, run, word, history, May, Valid}
use Rattle.ft_trace.specs.Ages.{aged, age, gone_to, whose}
use Rattle.ft_trace.proofs.Sizes.{set_views, one_more, one_view}
use Rattle.ft_trace.proofs.Bits.{off_same, on_same, off_else, on_else, bit_small}
use Rattle.ft_trace.proofs.Addresses.{fw_low, bt_low, same_bit, bit_first, block_first}
use Rattle.ft_trace.proofs.Cases.{hit, miss, here, same_or}
use Rattle.ft_trace.proofs.OneWord.{stays, moves, loaded}
use Rattle.ft_trace.proofs.HandedOver.{either_way, where_true, where_false, handed_is}

-- the seat that has it, where one has
abbrev pub keeper : List Event → ℕ → ℕ
keeper [] t = 0
keeper (did id v a ∷ es) t = gone_to id a t (keeper es t)
keeper (forked id v ∷ es) t = keeper es t
keeper (joined id v other w ∷ es) t = cond (is_handed t (hands_over w.log)) id (keeper es t)
keeper (sent id v given ∷ es) t = keeper es t

abbrev pub root : Shape → List Event → ℕ → ℕ
root k es o = word k es (block o 0)

-- what the action is to the root of o
module _ (k : Shape) (es : List Event) (id : ℕ) (v : View) (o : ℕ) (low : o < container_count k) (F : Act → Type 0) (put : (r old : ℕ) → F (PutRoot o r old))
    (other : (a : Act) → (May k (run k es) (history es) v a → root k (did id v a ∷ es) o ≡ root k es o) → F a) where
  pub on_root : (a : Act) → F a
  on_root (PutRoot p r old) = same_or (λ (z : ℕ). F (PutRoot z r old)) p o (put r old) (λ ne. other (PutRoot p r old) (λ may. stays k es id v (PutRoot p r old) may (block o 0) (low, omega arith) (λ e. ne (cc))))
  on_root (PutBlock p i x) = other (PutBlock p i x) (λ may. stays k es id v (PutBlock p i x) may (block o 0) (low, omega arith) (λ e. may.3 (cc)))
  on_root (ReadBlock p i f) = other (ReadBlock p i f) (λ may. loaded k es id v (ReadBlock p i f) (λ n. refl) (block o 0))
  on_root (ReadRoot p f) = other (ReadRoot p f) (λ may. loaded k es id v (ReadRoot p f) (λ n. refl) (block o 0))
  on_root act = other act (λ may. stays k es id v act may (block o 0) (low, omega arith) (λ e. absurd (cc)))

-- a root names a table of the bank
pub root_table : (k : Shape) (es : List Event) → Valid k es → (o : ℕ) → o < container_count k → (t : ℕ) → root k es o ≡ suc t → IsTableName k t
root_table k [] valid o low t = λ e. let z : root k [] o ≡ 0 = block_first k o 0 low (omega arith) in absurd (omega (arith, z, e))
root_table k (did id v a ∷ es) valid o low t =
    let F : Act → Type 0 = λ b. May k (run k es) (history es) v b → root k (did id v b ∷ es) o ≡ suc t → IsTableName k t in
    on_root k es id v o low F (λ r old may e. (may.3 t (sym (moves k es id v (PutRoot o r old) may) ∙ e)).0) (λ b same may e. root_table k es valid.0 o low t (sym (same may) ∙ e)) a valid.1.3
root_table k (forked id v ∷ es) valid o low t = root_table k es valid.0 o low t
root_table k (sent id v given ∷ es) valid o low t = root_table k es valid.0 o low t
root_table k (joined id v other w ∷ es) valid o low t = root_table k es valid.0 o low t

-- the action is nothing to where t is
pub record Calm (k : Shape) (es : List Event) (id : ℕ) (v : View) (t : ℕ) (a : Act) : Type 0 where
  pub stage : (n : ℕ) → stage_next t a n ≡ n
  pub age : (g : ℕ) → aged a t g ≡ g
  pub whose : (w : ℕ) → gone_to id a t w ≡ w
  pub free : bit (free_bit_of t) (word k (did id v a ∷ es) (bits (free_word_of t))) ≡ bit (free_bit_of t) (word k es (bits (free_word_of t)))
  pub roots : (o : ℕ) → o < container_count k → root k (did id v a ∷ es) o ≡ suc t → root k es o ≡ suc t
  pub roots_back : (o : ℕ) → o < container_count k → root k es o ≡ suc t → root k (did id v a ∷ es) o ≡ suc t

module _ (k : Shape) (es : List Event) (id : ℕ) (v : View) (t : ℕ) (table : IsTableName k t) where
  abbrev After : Act → ℕ
  After a = bit (free_bit_of t) (word k (did id v a ∷ es) (bits (free_word_of t)))

  abbrev Before : ℕ
  Before = bit (free_bit_of t) (word k es (bits (free_word_of t)))

  -- an action on no root
  pub no_root : (a : Act) → May k (run k es) (history es) v a → ((o : ℕ) → place a ≢ block o 0) → (o : ℕ) → o < container_count k → root k (did id v a ∷ es) o ≡ root k es o
  no_root a may apart o low = stays k es id v a may (block o 0) (low, omega arith) (apart o)

  calm_by : (a : Act) → ((n : ℕ) → stage_next t a n ≡ n) → ((g : ℕ) → aged a t g ≡ g) → ((w : ℕ) → gone_to id a t w ≡ w) → After a ≡ Before → ((o : ℕ) → o < container_count k → root k (did id v a ∷ es) o ≡ root k es o) → Calm k es id v t a
  calm_by a s g w b r = record { stage = s; age = g; whose = w; free = b; roots = λ o low e. sym (r o low) ∙ e; roots_back = λ o low e. r o low ∙ e }

  pub bit_stays : (a : Act) → May k (run k es) (history es) v a → place a ≢ bits (free_word_of t) → After a ≡ Before
  bit_stays a may ne = ap (bit (free_bit_of t)) (stays k es id v a may (bits (free_word_of t)) (fw_low k t table) ne)

  -- another table's bit
  pub other_bit : (q : ℕ) → IsTableName k q → (a : Act) → q ≢ t → place a ≡ bits (free_word_of q) → May k (run k es) (history es) v a → ((n : ℕ) → free_bit_of q ≢ free_bit_of t → bit (free_bit_of t) (word_after v.number a n) ≡ bit (free_bit_of t) n) → After a ≡ Before
  other_bit q is_q a ne is may does =
      dite (ℕ_discrete (free_word_of q) (free_word_of t))
      (λ (e : free_word_of q ≡ free_word_of t).
      let p : place a ≡ bits (free_word_of t) = is ∙ ap bits e in
      let m : word k (did id v a ∷ es) (bits (free_word_of t)) ≡ word_after v.number a (word k es (bits (free_word_of t))) = subst (λ (x : Word). word k (did id v a ∷ es) x ≡ word_after v.number a (word k es x)) p (moves k es id v a may) in
      ap (bit (free_bit_of t)) m ∙ does (word k es (bits (free_word_of t))) (λ n. ne (same_bit k q t is_q table e n)))
      (λ far. bit_stays a may (λ e. far (let z : bits (free_word_of q) ≡ bits (free_word_of t) = sym is ∙ e in cc)))

  module _ (F : Act → Type 0) (take : (f : ℕ) (s : Snap) → bit (free_bit_of t) f ≡ 1 → F (TakeTable t f s)) (give : F (GiveTable t)) (put : (o old : ℕ) → F (PutRoot o (suc t) old)) (drop : (o r : ℕ) → r ≢ suc t → F (PutRoot o r (suc t))) (retire : (f : ℕ) → F (Retire t f)) (other : (a : Act) → Calm k es id v t a → F a) where
    abbrev G : Act → Type 0
    G a = Reports a (word k es (place a)) → May k (run k es) (history es) v a → F a

    by_take : (f : ℕ) (s : Snap) → G (TakeTable t f s)
    by_take f s found may =
        let a : Act = TakeTable t f s in
        dite (ℕ_discrete (bit (free_bit_of t) f) 1) (take f s)
        (λ ne.
        let zero : bit (free_bit_of t) (word k es (bits (free_word_of t))) ≡ 0 = (let z : bit (free_bit_of t) f ≡ bit (free_bit_of t) (word k es (bits (free_word_of t))) = ap (bit (free_bit_of t)) found in let s = bit_small (free_bit_of t) f in omega arith) in
        other a (calm_by a (λ n. hit t (cond (eqb (bit (free_bit_of t) f) 1) 1 n) n ∙ miss (bit (free_bit_of t) f) 1 1 n ne) (λ g. hit t (cond (eqb (bit (free_bit_of t) f) 1) (g + 1) g) g ∙ miss (bit (free_bit_of t) f) 1 (g + 1) g ne) (λ w. hit t (cond (eqb (bit (free_bit_of t) f) 1) id w) w ∙ miss (bit (free_bit_of t) f) 1 id w ne)
        (ap (bit (free_bit_of t)) (moves k es id v a may) ∙ (off_same (free_bit_of t) (word k es (bits (free_word_of t))) (bt_low t) ∙ sym zero)) (no_root a may (λ o e. absurd (cc)))))

    pub on_table : (a : Act) → G a
    on_table (TakeTable p f s) =
        same_or (λ (z : ℕ). G (TakeTable z f s)) p t (by_take f s)
        (λ ne found may.
        let a : Act = TakeTable p f s in
        other a (calm_by a (λ n. miss p t (cond (eqb (bit (free_bit_of t) f) 1) 1 n) n ne) (λ g. miss p t (cond (eqb (bit (free_bit_of t) f) 1) (g + 1) g) g ne) (λ w. miss p t (cond (eqb (bit (free_bit_of t) f) 1) id w) w ne)
        (other_bit p may.0 a ne refl may (λ n apart. off_else (free_bit_of p) (free_bit_of t) n (bt_low p) (bt_low t) apart)) (no_root a may (λ o e. absurd (cc)))))
    on_table (GiveTable p) =
        same_or (λ (z : ℕ). G (GiveTable z)) p t (λ found may. give)
        (λ ne found may.
        let a : Act = GiveTable p in
        other a (calm_by a (λ n. miss p t 0 n ne) (λ g. miss p t (g + 5 - g % 5) g ne) (λ w. refl) (other_bit p may.0 a ne refl may (λ n apart. on_else (free_bit_of p) (free_bit_of t) n (bt_low p) apart)) (no_root a may (λ o e. absurd (cc)))))
    on_table (Retire p f) =
        same_or (λ (z : ℕ). G (Retire z f)) p t (λ found may. retire f)
        (λ ne found may.
        let a : Act = Retire p f in
        other a (calm_by a (λ n. miss p t 4 n ne) (λ g. miss p t (g + 1) g ne) (λ w. refl) (bit_stays a may (λ e. absurd (cc))) (no_root a may (λ o e. absurd (cc)))))
    on_table (PutRoot o r old) =
        same_or (λ (z : ℕ). G (PutRoot o z old)) r (suc t) (λ found may. put o old)
        (λ ne.
        same_or (λ (z : ℕ). G (PutRoot o r z)) old (suc t) (λ found may. drop o r ne)
        (λ far found may.
        let a : Act = PutRoot o r old in
        let now : root k (did id v a ∷ es) o ≡ r = moves k es id v a may in
        let elsewhere : (q : ℕ) → q < container_count k → q ≢ o → root k (did id v a ∷ es) q ≡ root k es q = λ q low apart. stays k es id v a may (block q 0) (low, omega arith) (λ e. apart (cc)) in
        other a (record {
          stage = λ n. miss r (suc t) 0 (cond (eqb old (suc t)) 3 n) ne ∙ miss old (suc t) 3 n far;
          age = λ g. miss r (suc t) (g + 1) (cond (eqb old (suc t)) (g + 1) g) ne ∙ miss old (suc t) (g + 1) g far;
          whose = λ w. miss r (suc t) o (cond (eqb old (suc t)) id w) ne ∙ miss old (suc t) id w far;
          free = bit_stays a may (λ e. absurd (cc));
          roots = λ q low e. dite (ℕ_discrete q o) (λ (x : q ≡ o). absurd (ne (sym now ∙ (ap (root k (did id v a ∷ es)) (sym x) ∙ e)))) (λ apart. sym (elsewhere q low apart) ∙ e);
          roots_back = λ q low e. dite (ℕ_discrete q o) (λ (x : q ≡ o). absurd (far (may.2 ∙ (ap (root k es) (sym x) ∙ e)))) (λ apart. elsewhere q low apart ∙ e);
        })))
    on_table (PutBlock p i x) = λ found may. other (PutBlock p i x) (calm_by (PutBlock p i x) (λ n. refl) (λ g. refl) (λ w. refl) (bit_stays (PutBlock p i x) may (λ e. absurd (cc))) (no_root (PutBlock p i x) may (λ o e. may.3 (cc))))
    on_table (ReadBlock p i f) = λ found may. other (ReadBlock p i f) (calm_by (ReadBlock p i f) (λ n. refl) (λ g. refl) (λ w. refl) (bit_stays (ReadBlock p i f) may (λ e. absurd (cc))) (λ o low. loaded k es id v (ReadBlock p i f) (λ n. refl) (block o 0)))
    on_table (ReadRoot p f) = λ found may. other (ReadRoot p f) (calm_by (ReadRoot p f) (λ n. refl) (λ g. refl) (λ w. refl) (bit_stays (ReadRoot p f) may (λ e. absurd (cc))) (λ o low. loaded k es id v (ReadRoot p f) (λ n. refl) (block o 0)))
    on_table (ReadFree w f) = λ found may. other (ReadFree w f) (calm_by (ReadFree w f) (λ n. refl) (λ g. refl) (λ w. refl) (ap (bit (free_bit_of t)) (loaded k es id v (ReadFree w f) (λ n. refl) (bits (free_word_of t)))) (no_root (ReadFree w f) may (λ o e. absurd (cc))))
    on_table (TookOver hs had found told) = λ found may. absurd may
    on_table act = λ found may. other act (calm_by act (λ n. refl) (λ g. refl) (λ w. refl) (bit_stays act may (λ e. absurd (cc))) (no_root act may (λ o e. absurd (cc))))

-- no pass has a table that is current
stage_by : (t : ℕ) (a : Act) (n : ℕ) → n ≢ 2 → stage_next t a n ≢ 2
stage_by t (TakeTable p f s) n ne =
    dite (ℕ_discrete p t)
    (λ (e : p ≡ t) z. dite (ℕ_discrete (bit (free_bit_of t) f) 1) (λ (b : bit (free_bit_of t) f ≡ 1). let x : 1 ≡ 2 = sym (here p t (cond (eqb (bit (free_bit_of t) f) 1) 1 n) n e ∙ here (bit (free_bit_of t) f) 1 1 n b) ∙ z in absurd (omega (arith, x)))
    (λ b. ne (sym (here p t (cond (eqb (bit (free_bit_of t) f) 1) 1 n) n e ∙ miss (bit (free_bit_of t) f) 1 1 n b) ∙ z)))
    (λ far z. ne (sym (miss p t (cond (eqb (bit (free_bit_of t) f) 1) 1 n) n far) ∙ z))
stage_by t (GiveTable p) n ne = dite (ℕ_discrete p t) (λ (e : p ≡ t) z. let x : 0 ≡ 2 = sym (here p t 0 n e) ∙ z in absurd (omega (arith, x))) (λ far z. ne (sym (miss p t 0 n far) ∙ z))
stage_by t (Retire p f) n ne = dite (ℕ_discrete p t) (λ (e : p ≡ t) z. let x : 4 ≡ 2 = sym (here p t 4 n e) ∙ z in absurd (omega (arith, x))) (λ far z. ne (sym (miss p t 4 n far) ∙ z))
stage_by t (PutRoot o r old) n ne =
    dite (ℕ_discrete r (suc t)) (λ (e : r ≡ suc t) z. let x : 0 ≡ 2 = sym (here r (suc t) 0 (cond (eqb old (suc t)) 3 n) e) ∙ z in absurd (omega (arith, x)))
    (λ far z.
    dite (ℕ_discrete old (suc t)) (λ (e : old ≡ suc t). let x : 3 ≡ 2 = sym (miss r (suc t) 0 (cond (eqb old (suc t)) 3 n) far ∙ here old (suc t) 3 n e) ∙ z in absurd (omega (arith, x)))
    (λ off. ne (sym (miss r (suc t) 0 (cond (eqb old (suc t)) 3 n) far ∙ miss old (suc t) 3 n off) ∙ z)))
stage_by t (TookOver hs had found told) n ne =
    either_way (is_handed t hs) (λ there z. let x : 4 ≡ 2 = sym (where_true (is_handed t hs) 4 n there) ∙ z in absurd (omega (arith, x)))
    (λ none z. ne (sym (where_false (is_handed t hs) 4 n none) ∙ z))
stage_by t act n ne = ne

pub not_current : (t : ℕ) (l : List Act) → stage t l ≢ 2
not_current t [] = λ e. absurd (omega (arith, e))
not_current t (a ∷ l) = stage_by t a (stage t l) (not_current t l)

pub record Placed (k : Shape) (es : List Event) (t : ℕ) : Type 0 where
  pub free_is : bit (free_bit_of t) (word k es (bits (free_word_of t))) ≡ 1 → age es t % 5 ≡ 0
  pub is_free : age es t % 5 ≡ 0 → bit (free_bit_of t) (word k es (bits (free_word_of t))) ≡ 1
  pub hands : (j : ℕ) (u : View) → get_elem? (run k es).views j ≡ some u → stage t u.log ≢ 0 → (age es t % 5 ≡ stage t u.log) × (keeper es t ≡ j)
  pub roots : (o : ℕ) → o < container_count k → root k es o ≡ suc t → (age es t % 5 ≡ 2) × (whose es t ≡ o)
  pub current : age es t % 5 ≡ 2 → (whose es t < container_count k) × (root k es (whose es t) ≡ suc t)

abbrev Hand : List Event → ℕ → ℕ → View → Type 0
Hand es t j u = stage t u.log ≢ 0 → (age es t % 5 ≡ stage t u.log) × (keeper es t ≡ j)

pub placed : (k : Shape) (es : List Event) → Valid k es → (t : ℕ) → IsTableName k t → Placed k es t
placed k [] valid t table = record {
  free_is = λ _. refl;
  is_free = λ _. bit_first k t table;
  hands = one_view (Hand [] t) (starter k) (λ no. absurd (no refl));
  roots = λ o low e. let z : root k [] o ≡ 0 = block_first k o 0 low (omega arith) in absurd (omega (arith, z, e));
  current = λ e. absurd (omega (arith, e));
}
placed k (did id v a ∷ es) valid t table =
    let old = placed k es valid.0 t table in
    let g = age es t in
    let w = whose es t in
    let y = keeper es t in
    let n = stage t v.log in
    let F : Act → Type 0 = λ b. Valid k (did id v b ∷ es) → Placed k (did id v b ∷ es) t in
    on_table k es id v t table F
    (λ f s one ok.
    let A : Act = TakeTable t f s in
    let was : g % 5 ≡ 0 = old.free_is (ap (bit (free_bit_of t)) (sym ok.1.2) ∙ one) in
    let now : aged A t g ≡ g + 1 = hit t (cond (eqb (bit (free_bit_of t) f) 1) (g + 1) g) g ∙ here (bit (free_bit_of t) f) 1 (g + 1) g one in
    let whom : gone_to id A t y ≡ id = hit t (cond (eqb (bit (free_bit_of t) f) 1) id y) y ∙ here (bit (free_bit_of t) f) 1 id y one in
    let mine : stage_next t A n ≡ 1 = hit t (cond (eqb (bit (free_bit_of t) f) 1) 1 n) n ∙ here (bit (free_bit_of t) f) 1 1 n one in
    record {
      free_is = λ b. absurd (let z : bit (free_bit_of t) (word k (did id v A ∷ es) (bits (free_word_of t))) ≡ 0 = ap (bit (free_bit_of t)) (moves k es id v A ok.1.3) ∙ off_same (free_bit_of t) (word k es (bits (free_word_of t))) (bt_low t) in omega (arith, z, b));
      is_free = λ z. absurd (omega (arith, z, now, was));
      hands = set_views (Hand (did id v A ∷ es) t) _ id (view_after A v) (λ _. (omega (arith, now, was, mine), whom)) (λ j u _ e some_one. absurd (some_one (let h = (old.hands j u e some_one).0 in omega (arith, h, was))));
      roots = λ o low e. let h = (old.roots o low (sym (no_root k es id v t table A ok.1.3 (λ p x. absurd (cc)) o low) ∙ e)).0 in absurd (omega (arith, h, was));
      current = λ z. absurd (omega (arith, z, now, was));
    })
    (λ ok.
    let A : Act = GiveTable t in
    let may = ok.1.3 in
    let mine : n ≢ 0 = ⊎_elim (λ (x : (n ≡ 1) × _). λ z. let y = x.0 in absurd (omega (arith, y, z))) (λ (x : (n ≡ 4) × _). λ z. let y = x.0 in absurd (omega (arith, y, z))) may.1 in
    let h = old.hands id v ok.1.0 mine in
    let not_two : n ≢ 2 = not_current t v.log in
    let now : aged A t g ≡ g + 5 - g % 5 = hit t (g + 5 - g % 5) g in
    let zero : aged A t g % 5 ≡ 0 = omega (arith, now) in
    record {
      free_is = λ _. zero;
      is_free = λ _. ap (bit (free_bit_of t)) (moves k es id v A may) ∙ on_same (free_bit_of t) (word k es (bits (free_word_of t))) (bt_low t);
      hands = set_views (Hand (did id v A ∷ es) t) _ id (view_after A v) (λ no. absurd (no (hit t 0 n))) (λ j u ne e theirs. absurd (ne (sym (old.hands j u e theirs).1 ∙ h.1)));
      roots = λ o low e. let r = (old.roots o low (sym (no_root k es id v t table A may (λ p x. absurd (cc)) o low) ∙ e)).0 in absurd (not_two (sym h.0 ∙ r));
      current = λ z. absurd (omega (arith, z, zero));
    })
    (λ o past ok.
    let A : Act = PutRoot o (suc t) past in
    let may = ok.1.3 in
    let mine : n ≡ 1 = (may.3 t refl).1 in
    let h = old.hands id v ok.1.0 (λ z. absurd (omega (arith, mine, z))) in
    let was = h.0 in
    let now : aged A t g ≡ g + 1 = hit (suc t) (g + 1) (cond (eqb past (suc t)) (g + 1) g) in
    let whom : gone_to id A t w ≡ o = hit (suc t) o (cond (eqb past (suc t)) id w) in
    let word_now : root k (did id v A ∷ es) o ≡ suc t = moves k es id v A may in
    let stay : word k (did id v A ∷ es) (bits (free_word_of t)) ≡ word k es (bits (free_word_of t)) = stays k es id v A may (bits (free_word_of t)) (fw_low k t table) (λ e. absurd (cc)) in
    let two : aged A t g % 5 ≡ 2 = omega (arith, now, was, mine) in
    record {
      free_is = λ b. absurd (let z = old.free_is (ap (bit (free_bit_of t)) (sym stay) ∙ b) in omega (arith, z, was, mine));
      is_free = λ z. absurd (omega (arith, z, two));
      hands = set_views (Hand (did id v A ∷ es) t) _ id (view_after A v) (λ no. absurd (no (hit (suc t) 0 (cond (eqb past (suc t)) 3 n)))) (λ j u ne e theirs. absurd (ne (sym (old.hands j u e theirs).1 ∙ h.1)));
      roots = λ q low e.
          dite (ℕ_discrete q o) (λ (same : q ≡ o). (two, whom ∙ sym same))
          (λ ne. let r = (old.roots q low (sym (stays k es id v A may (block q 0) (low, omega arith) (λ x. ne (cc))) ∙ e)).0 in absurd (omega (arith, r, was, mine)));
      current = λ _. (subst (λ (z : ℕ). z < container_count k) (sym whom) may.0, ap (root k (did id v A ∷ es)) whom ∙ word_now);
    })
    (λ o r ne ok.
    let A : Act = PutRoot o r (suc t) in
    let may = ok.1.3 in
    let p = old.roots o may.0 (sym may.2) in
    let was = p.0 in
    let now : aged A t g ≡ g + 1 = miss r (suc t) (g + 1) (cond (eqb (suc t) (suc t)) (g + 1) g) ne ∙ hit (suc t) (g + 1) g in
    let whom : gone_to id A t y ≡ id = miss r (suc t) o (cond (eqb (suc t) (suc t)) id y) ne ∙ hit (suc t) id y in
    let mine : stage_next t A n ≡ 3 = miss r (suc t) 0 (cond (eqb (suc t) (suc t)) 3 n) ne ∙ hit (suc t) 3 n in
    let stay : word k (did id v A ∷ es) (bits (free_word_of t)) ≡ word k es (bits (free_word_of t)) = stays k es id v A may (bits (free_word_of t)) (fw_low k t table) (λ e. absurd (cc)) in
    record {
      free_is = λ b. absurd (let z = old.free_is (ap (bit (free_bit_of t)) (sym stay) ∙ b) in omega (arith, z, was));
      is_free = λ z. absurd (omega (arith, z, now, was));
      hands = set_views (Hand (did id v A ∷ es) t) _ id (view_after A v) (λ _. (omega (arith, now, was, mine), whom)) (λ j u _ e theirs. absurd (not_current t u.log (sym (old.hands j u e theirs).0 ∙ was)));
      roots = λ q low e.
          dite (ℕ_discrete q o) (λ (same : q ≡ o). absurd (ne (sym (moves k es id v A may) ∙ (ap (root k (did id v A ∷ es)) (sym same) ∙ e))))
          (λ apart. absurd (apart (sym (old.roots q low (sym (stays k es id v A may (block q 0) (low, omega arith) (λ x. apart (cc))) ∙ e)).1 ∙ p.1)));
      current = λ z. absurd (omega (arith, z, now, was));
    })
    (λ f ok.
    let A : Act = Retire t f in
    let may = ok.1.3 in
    let three : n ≡ 3 = may.1 in
    let h = old.hands id v ok.1.0 (λ z. absurd (omega (arith, three, z))) in
    let was = h.0 in
    let now : aged A t g ≡ g + 1 = hit t (g + 1) g in
    let mine : stage_next t A n ≡ 4 = hit t 4 n in
    let stay : word k (did id v A ∷ es) (bits (free_word_of t)) ≡ word k es (bits (free_word_of t)) = stays k es id v A may (bits (free_word_of t)) (fw_low k t table) (λ e. absurd (cc)) in
    record {
      free_is = λ b. absurd (let z = old.free_is (ap (bit (free_bit_of t)) (sym stay) ∙ b) in omega (arith, z, was, three));
      is_free = λ z. absurd (omega (arith, z, now, was, three));
      hands = set_views (Hand (did id v A ∷ es) t) _ id (view_after A v) (λ _. (omega (arith, now, was, three, mine), h.1)) (λ j u ne e theirs. absurd (ne (sym (old.hands j u e theirs).1 ∙ h.1)));
      roots = λ o low e. let r = (old.roots o low (sym (no_root k es id v t table A may (λ p x. absurd (cc)) o low) ∙ e)).0 in absurd (omega (arith, r, was, three));
      current = λ z. absurd (omega (arith, z, now, was, three));
    })
    (λ b c ok.
    let gs = c.age g in
    let ws = c.whose w in
    let ys = c.whose y in
    record {
      free_is = λ e. ap (λ (z : ℕ). z % 5) gs ∙ old.free_is (sym c.free ∙ e);
      is_free = λ e. c.free ∙ old.is_free (ap (λ (z : ℕ). z % 5) (sym gs) ∙ e);
      hands = set_views (Hand (did id v b ∷ es) t) _ id (view_after b v)
          (λ some_one. let h = old.hands id v ok.1.0 (λ z. some_one (c.stage n ∙ z)) in (ap (λ (z : ℕ). z % 5) gs ∙ (h.0 ∙ sym (c.stage n)), ys ∙ h.1))
          (λ j u _ e some_one. let h = old.hands j u e some_one in (ap (λ (z : ℕ). z % 5) gs ∙ h.0, ys ∙ h.1));
      roots = λ o low e. let h = old.roots o low (c.roots o low e) in (ap (λ (z : ℕ). z % 5) gs ∙ h.0, ws ∙ h.1);
      current = λ e.
          let h = old.current (ap (λ (z : ℕ). z % 5) (sym gs) ∙ e) in
          (subst (λ (z : ℕ). z < container_count k) (sym ws) h.0, ap (root k (did id v b ∷ es)) ws ∙ c.roots_back w h.0 h.1);
    })
    a valid.1.2 valid.1.3 valid
placed k (forked id v ∷ es) valid t table =
    let old = placed k es valid.0 t table in
    record { free_is = old.free_is; is_free = old.is_free; hands = one_more (Hand es t) _ (made v) (λ no. absurd (no refl)) (set_views (Hand es t) _ id (maker v) (old.hands id v valid.1.0) (λ j u _ e. old.hands j u e)); roots = old.roots; current = old.current }
placed k (sent id v given ∷ es) valid t table =
    let old = placed k es valid.0 t table in
    record { free_is = old.free_is; is_free = old.is_free; hands = one_more (Hand es t) _ (note given v) (λ no. absurd (no refl)) (set_views (Hand es t) _ id (sender given v) (old.hands id v valid.1.0) (λ j u _ e. old.hands j u e)); roots = old.roots; current = old.current }
placed k (joined id v other w ∷ es) valid t table =
    let old = placed k es valid.0 t table in
    let now = joined id v other w ∷ es in
    let b = is_handed t (hands_over w.log) in
    let n = stage t v.log in
    let mine : Hand now t id (both v w) =
    either_way b
    (λ there _.
    let four = (handed_is t w.log there).0 in
    let h = (old.hands other w valid.1.2 (λ z. absurd (omega (arith, z, four)))).0 in
    (h ∙ (four ∙ sym (where_true b 4 n there)), where_true b id (keeper es t) there))
    (λ none some_one.
    let h = old.hands id v valid.1.0 (λ z. some_one (where_false b 4 n none ∙ z)) in
    (h.0 ∙ sym (where_false b 4 n none), where_false b id (keeper es t) none ∙ h.1)) in
    let theirs : (j : ℕ) (u : View) → j ≢ other → get_elem? (run k es).views j ≡ some u → Hand now t j u = λ j u apart e some_one.
    let h = old.hands j u e some_one in
    either_way b
    (λ there.
    let four = (handed_is t w.log there).0 in
    absurd (apart (sym h.1 ∙ (old.hands other w valid.1.2 (λ z. absurd (omega (arith, z, four)))).1)))
    (λ none. (h.0, where_false b id (keeper es t) none ∙ h.1)) in
    record {
      free_is = old.free_is;
      is_free = old.is_free;
      hands = set_views (Hand now t) _ other spent (λ no. absurd (no refl))
          (λ j u apart e. set_views (λ i z. i ≢ other → Hand now t i z) _ id (both v w) (λ _. mine) (λ i z _ at far. theirs i z far at) j u e apart);
      roots = old.roots;
      current = old.current;
    }
