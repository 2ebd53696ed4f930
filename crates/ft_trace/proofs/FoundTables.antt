-- No table that a pass has found in a root since it last announced is free.
use Rattle.std.proofs.Common.{◌≡◌, ◌≢◌, ◌⊎◌, ℕ, suc, eqb, ltb, ◌+◌, ◌%◌, ◌<◌, ◌≤◌, Bool, true, false, cond, List, [], ◌∷◌, refl, sym, ap, ◌∙◌, subst, inl, inr, ⊎_elim, arith, le_trans}
use Rattle.std.proofs.lemmas.Bool.{ltb-false, eqb-true}
use mathlib.Core.Option.{some}
use mathlib.Core.Logic.{dite}
use native.Mathlib.Decide.{ℕ_discrete}
use lib.ListN.{get_elem?}
use Rattle.ft_trace.specs.declared.Shape.{Shape}
use Rattle.ft_trace.specs.declared.View.{View}
use Rattle.ft_trace.specs.declared.Act.{Act}
use Rattle.ft_trace.specs.declared.Handed.{Handed}
use Rattle.ft_trace.specs.declared.Owner.{Owner}
use Rattle.ft_trace.specs.declared.Told.{Told}
use Rattle.ft_trace.specs.declared.Act.TheVariants.{TakeTable, GiveTable, PutRoot, Retire, ReadAnnounced, ReadRoot, Announce, TookOver}
use Rattle.ft_trace.specs.Bits.{bit}
use Rattle.ft_trace.specs.Addresses.{write_number, announced_of, bits, IsTableName, free_word_of, free_bit_of}
use Rattle.ft_trace.specs.Acts.{stage, stage_next, goal, goal_next, announces, reads, reads_next, clear, clear_next, is_handed, hands_over, starter, view_after, maker, made, both, spent, sender, note}
use Rattle.ft_trace.specs.Ages.{aged, age, all_acts}
use Rattle.ft_trace.specs.Traces.{Event, did, forked, joined, sent, run, word, Valid}
use Rattle.ft_trace.proofs.Sizes.{set_views, one_more, one_view}
use Rattle.ft_trace.proofs.Cases.{hit, miss, here, off, same_or}
use Rattle.ft_trace.proofs.Announcing.{heard, fits}
use Rattle.ft_trace.proofs.HandedOver.{either_way, where_true, where_false, handed_is, goal_of, no_goal}
use Rattle.ft_trace.proofs.TablePlaces.{on_table, placed}

-- what the action is to the goal of t and to those who have passed it
pub record Mild (t : ℕ) (a : Act) : Type 0 where
  pub stage : (n : ℕ) → stage_next t a n ≡ 4 → n ≡ 4
  pub goal : (g : ℕ) → goal_next t a g ≡ g
  pub clear : (p g : ℕ) (b : Bool) → clear_next t p g a b ≡ b

three : (b c : Bool) (x n : ℕ) → x ≢ 4 → cond b (cond c x n) n ≡ 4 → n ≡ 4
three true true x n ne e = absurd (ne e)
three true false x n ne e = e
three false c x n ne e = e

two : (b c : Bool) (x y n : ℕ) → x ≢ 4 → y ≢ 4 → cond b x (cond c y n) ≡ 4 → n ≡ 4
two true c x y n ne far e = absurd (ne e)
two false true x y n ne far e = absurd (far e)
two false false x y n ne far e = e

one : (b : Bool) (x n : ℕ) → x ≢ 4 → cond b x n ≡ 4 → n ≡ 4
one true x n ne e = absurd (ne e)
one false x n ne e = e

on_goal : (t : ℕ) (F : Act → Type 0) → ((f : ℕ) → F (Retire t f)) → ((q f : ℕ) → F (ReadAnnounced q f)) → ((hs : List Handed) (had found : List Owner) (told : List Told) → F (TookOver hs had found told)) → ((a : Act) → Mild t a → F a) → (a : Act) → F a
on_goal t F retire hear took other (Retire p f) = same_or (λ (z : ℕ). F (Retire z f)) p t (retire f) (λ ne. other (Retire p f) (record { stage = λ n e. sym (miss p t 4 n ne) ∙ e; goal = λ g. miss p t (f + 1) g ne; clear = λ q g b. miss p t false b ne }))
on_goal t F retire hear took other (ReadAnnounced q f) = hear q f
on_goal t F retire hear took other (TakeTable p f s) = other (TakeTable p f s) (record { stage = λ n e. three (eqb p t) (eqb (bit (free_bit_of t) f) 1) 1 n (λ z. absurd (omega (arith, z))) e; goal = λ g. refl; clear = λ p g b. refl })
on_goal t F retire hear took other (GiveTable p) = other (GiveTable p) (record { stage = λ n e. one (eqb p t) 0 n (λ z. absurd (omega (arith, z))) e; goal = λ g. refl; clear = λ p g b. refl })
on_goal t F retire hear took other (PutRoot o r old) = other (PutRoot o r old) (record { stage = λ n e. two (eqb r (suc t)) (eqb old (suc t)) 0 3 n (λ z. absurd (omega (arith, z))) (λ z. absurd (omega (arith, z))) e; goal = λ g. refl; clear = λ p g b. refl })
on_goal t F retire hear took other (TookOver hs had found told) = took hs had found told
on_goal t F retire hear took other act = other act (record { stage = λ n e. e; goal = λ g. refl; clear = λ p g b. refl })

-- what the log of the pass that has retired t says of it stands in the log of all
pub record Linked (t : ℕ) (es : List Event) (u : View) : Type 0 where
  pub goal_is : stage t u.log ≡ 4 → goal t (all_acts es) ≡ goal t u.log
  pub clear_is : stage t u.log ≡ 4 → (p : ℕ) → clear t p u.log ≡ true → clear t p (all_acts es) ≡ true

more : (a b c x y : Bool) → (x ≡ true → y ≡ true) → cond a (cond b true (cond c x true)) x ≡ true → cond a (cond b true (cond c y true)) y ≡ true
more true true c x y up e = refl
more true false true x y up e = up e
more true false false x y up e = refl
more false b c x y up e = up e

raise : (a b c x : Bool) → x ≡ true → cond a (cond b true (cond c x true)) x ≡ true
raise true true c x e = refl
raise true false true x e = e
raise true false false x e = refl
raise false b c x e = e

none_yet : (t : ℕ) (es : List Event) (u : View) → u.log ≡ [] → Linked t es u
none_yet t es u e = record { goal_is = λ z. let x : 0 ≡ 4 = ap (stage t) (sym e) ∙ z in absurd (omega (arith, x)); clear_is = λ z. let x : 0 ≡ 4 = ap (stage t) (sym e) ∙ z in absurd (omega (arith, x)) }

pub linked : (k : Shape) (es : List Event) → Valid k es → (t : ℕ) → IsTableName k t → (j : ℕ) (u : View) → get_elem? (run k es).views j ≡ some u → Linked t es u
linked k [] valid t table = one_view (λ j u. Linked t [] u) (starter k) (none_yet t [] (starter k) refl)
linked k (did id v a ∷ es) valid t table =
    let old = linked k es valid.0 t table in
    let m = old id v valid.1.0 in
    let its = placed k es valid.0 t table in
    let G = all_acts es in
    let F : Act → Type 0 = λ b. Valid k (did id v b ∷ es) → (j : ℕ) (u : View) → get_elem? (run k (did id v b ∷ es)).views j ≡ some u → Linked t (did id v b ∷ es) u in
    on_goal t F
    (λ f ok.
    let three = ok.1.3.1 in
    let mine = (its.hands id v ok.1.0 (λ z. absurd (omega (arith, z, three)))).1 in
    set_views (λ j u. Linked t (did id v (Retire t f) ∷ es) u) _ id (view_after (Retire t f) v)
    (record { goal_is = λ _. hit t (f + 1) (goal t G) ∙ sym (hit t (f + 1) (goal t v.log)); clear_is = λ _ p x. off (sym (hit t false (clear t p v.log)) ∙ x) })
    (λ j u ne e.
    let theirs : stage t u.log ≡ 4 → ⊥ = λ z. ne (sym (its.hands j u e (λ y. absurd (omega (arith, y, z)))).1 ∙ mine) in
    record { goal_is = λ z. absurd (theirs z); clear_is = λ z. absurd (theirs z) }))
    (λ q f ok.
    set_views (λ j u. Linked t (did id v (ReadAnnounced q f) ∷ es) u) _ id (view_after (ReadAnnounced q f) v)
    (record {
      goal_is = m.goal_is;
      clear_is = λ z p x. subst (λ (y : ℕ). clear_next t p y (ReadAnnounced q f) (clear t p G) ≡ true) (sym (m.goal_is z)) (more (eqb q p) (eqb f 0) (ltb f (goal t v.log)) (clear t p v.log) (clear t p G) (m.clear_is z p) x);
    })
    (λ j u ne e. let o = old j u e in record { goal_is = o.goal_is; clear_is = λ z p x. raise (eqb q p) (eqb f 0) (ltb f (goal t G)) (clear t p G) (o.clear_is z p x) }))
    (λ hs had found told ok. absurd ok.1.3)
    (λ b c ok.
    set_views (λ j u. Linked t (did id v b ∷ es) u) _ id (view_after b v)
    (record {
      goal_is = λ z. c.goal (goal t G) ∙ (m.goal_is (c.stage (stage t v.log) z) ∙ sym (c.goal (goal t v.log)));
      clear_is = λ z p x. c.clear p (goal t G) (clear t p G) ∙ m.clear_is (c.stage (stage t v.log) z) p (sym (c.clear p (goal t v.log) (clear t p v.log)) ∙ x);
    })
    (λ j u ne e. let o = old j u e in record { goal_is = λ z. c.goal (goal t G) ∙ o.goal_is z; clear_is = λ z p x. c.clear p (goal t G) (clear t p G) ∙ o.clear_is z p x }))
    a valid
linked k (forked id v ∷ es) valid t table =
    let old = linked k es valid.0 t table in
    let m = old id v valid.1.0 in
    one_more (λ j u. Linked t (forked id v ∷ es) u) _ (made v) (none_yet t (forked id v ∷ es) (made v) refl) (set_views (λ j u. Linked t (forked id v ∷ es) u) _ id (maker v) (record { goal_is = m.goal_is; clear_is = m.clear_is }) (λ j u _ e. let o = old j u e in record { goal_is = o.goal_is; clear_is = o.clear_is }))
linked k (sent id v given ∷ es) valid t table =
    let old = linked k es valid.0 t table in
    let m = old id v valid.1.0 in
    one_more (λ j u. Linked t (sent id v given ∷ es) u) _ (note given v) (none_yet t (sent id v given ∷ es) (note given v) refl) (set_views (λ j u. Linked t (sent id v given ∷ es) u) _ id (sender given v) (record { goal_is = m.goal_is; clear_is = m.clear_is }) (λ j u _ e. let o = old j u e in record { goal_is = o.goal_is; clear_is = o.clear_is }))
linked k (joined id v other w ∷ es) valid t table =
    let old = linked k es valid.0 t table in
    let m = old id v valid.1.0 in
    let o = old other w valid.1.2 in
    let now = joined id v other w ∷ es in
    let b = is_handed t (hands_over w.log) in
    let n = stage t v.log in
    let was : b ≡ false → stage t (both v w).log ≡ 4 → n ≡ 4 = λ none z. sym (where_false b 4 n none) ∙ z in
    let mine : Linked t now (both v w) = record {
      goal_is = λ z.
          either_way b (λ there. o.goal_is (handed_is t w.log there).0 ∙ sym (goal_of t w.log (goal t v.log) there))
          (λ none. m.goal_is (was none z) ∙ sym (no_goal t (hands_over w.log) (goal t v.log) none));
      clear_is = λ z p x.
          either_way b (λ there. off (sym (where_true b false (clear t p v.log) there) ∙ x))
          (λ none. m.clear_is (was none z) p (sym (where_false b false (clear t p v.log) none) ∙ x));
    } in
    set_views (λ j u. Linked t now u) _ other spent (none_yet t now spent refl)
    (λ j u _. set_views (λ j u. Linked t now u) _ id (both v w) mine (λ j u _ e. let l = old j u e in record { goal_is = l.goal_is; clear_is = l.clear_is }) j u)

-- r: the pass has found t in a root since it announced a
pub record Safe (k : Shape) (t : ℕ) (G : List Act) (g : ℕ) (r : Bool) (a number : ℕ) : Type 0 where
  pub read_is : r ≡ true → (2 ≤ g % 5) × (g % 5 ≡ 4 → a < goal t G) × (0 < a) × (number ≤ k.passes) × (number ≢ 0)
  pub clear_is : g % 5 ≡ 4 → clear t number G ≡ true → r ≡ true → ⊥

abbrev pub SafeAt : Shape → ℕ → List Event → View → Type 0
SafeAt k t es u = Safe k t (all_acts es) (age es t) (reads t u.log) (announces u.log) u.number

loaded : (a b c x : Bool) → cond a (cond b true (cond c x true)) x ≡ true → ((a ≡ true) × (b ≡ true)) ⊎ ((a ≡ true) × (c ≡ false)) ⊎ (x ≡ true)
loaded true true c x e = inl (refl, refl)
loaded true false true x e = inr (inr e)
loaded true false false x e = inr (inl (refl, refl))
loaded false b c x e = inr (inr e)

not_read : (k : Shape) (t : ℕ) (G : List Act) (g : ℕ) (r : Bool) (a number : ℕ) → (r ≡ true → ⊥) → Safe k t G g r a number
not_read k t G g r a number never = record { read_is = λ r. absurd (never r); clear_is = λ g c r. never r }

-- an action that does not move t
safe_calm : (k : Shape) (es : List Event) (id : ℕ) (v : View) (t : ℕ) → IsTableName k t → ((j : ℕ) (u : View) → get_elem? (run k es).views j ≡ some u → SafeAt k t es u) → (b : Act) → aged b t (age es t) ≡ age es t → Valid k (did id v b ∷ es) → (j : ℕ) (u : View) → get_elem? (run k (did id v b ∷ es)).views j ≡ some u → SafeAt k t (did id v b ∷ es) u
safe_calm k es id v t table old (ReadRoot o f) same ok =
    let A : Act = ReadRoot o f in
    let m = old id v ok.1.0 in
    let may = ok.1.3 in
    set_views (λ j u. SafeAt k t (did id v A ∷ es) u) _ id (view_after A v)
    (dite (ℕ_discrete f (suc t))
    (λ (is : f ≡ suc t).
    let current = ((placed k es ok.0 t table).roots o may.0 (sym ok.1.2 ∙ is)).0 in
    record { read_is = λ _. (omega (arith, current), (λ z. absurd (omega (arith, z, current))), may.1, may.2, ok.1.1); clear_is = λ z. absurd (omega (arith, z, current)) })
    (λ far. let e : reads t (A ∷ v.log) ≡ reads t v.log = miss f (suc t) true (reads t v.log) far in record { read_is = λ r. m.read_is (sym e ∙ r); clear_is = λ g c r. m.clear_is g c (sym e ∙ r) }))
    (λ j u _ e. let x = old j u e in record { read_is = x.read_is; clear_is = x.clear_is })
safe_calm k es id v t table old (Announce p x) same ok =
    set_views (λ j u. SafeAt k t (did id v (Announce p x) ∷ es) u) _ id (view_after (Announce p x) v) (record { read_is = λ e. off e; clear_is = λ g c e. off e })
    (λ j u _ e. let o = old j u e in record { read_is = o.read_is; clear_is = o.clear_is })
safe_calm k es id v t table old (ReadAnnounced q f) same ok =
    let A : Act = ReadAnnounced q f in
    let G = all_acts es in
    let hear = heard k es ok.0 in
    let lift : (j : ℕ) (u : View) → get_elem? (run k es).views j ≡ some u → Safe k t (A ∷ G) (age es t) (reads t u.log) (announces u.log) u.number = λ j u e.
    let o = old j u e in
    record {
      read_is = o.read_is;
      clear_is = λ four c r.
          let h = o.read_is r in
          let word_is = (hear j u e).word_is h.4 (le_trans h.3 (fits k es ok.0).passes) in
          let bound = h.1 four in
          let some_ann = h.2 in
          let of : q ≡ u.number → f ≡ announces u.log = λ z. ok.1.2 ∙ (ap (λ (y : ℕ). word k es (announced_of y)) z ∙ word_is) in
          ⊎_elim
          (λ (x : (eqb q u.number ≡ true) × (eqb f 0 ≡ true)). let z : f ≡ 0 = eqb-true f 0 x.1 in let y = of (eqb-true q u.number x.0) in absurd (omega arith))
          (λ rest. ⊎_elim
          (λ (x : (eqb q u.number ≡ true) × (ltb f (goal t G) ≡ false)). let z = ltb-false f (goal t G) x.1 in let y = of (eqb-true q u.number x.0) in absurd (omega arith))
          (λ (x : clear t u.number G ≡ true). o.clear_is four x r)
          rest)
          (loaded (eqb q u.number) (eqb f 0) (ltb f (goal t G)) (clear t u.number G) c);
    } in
    set_views (λ j u. SafeAt k t (did id v A ∷ es) u) _ id (view_after A v) (lift id v ok.1.0) (λ j u _ e. lift j u e)
safe_calm k es id v t table old (Retire q f) same ok =
    let A : Act = Retire q f in
    let G = all_acts es in
    let ne : q ≢ t = λ (e : q ≡ t). let z : age es t + 1 ≡ age es t = sym (here q t (age es t + 1) (age es t) e) ∙ same in absurd (omega (arith, z)) in
    let gl : goal t (A ∷ G) ≡ goal t G = miss q t (f + 1) (goal t G) ne in
    let cl : (p : ℕ) → clear t p (A ∷ G) ≡ clear t p G = λ p. miss q t false (clear t p G) ne in
    let lift : (j : ℕ) (u : View) → get_elem? (run k es).views j ≡ some u → Safe k t (A ∷ G) (aged A t (age es t)) (reads t u.log) (announces u.log) u.number = λ j u e.
    let o = old j u e in
    subst (λ (z : ℕ). Safe k t (A ∷ G) z (reads t u.log) (announces u.log) u.number) (sym same)
    (record { read_is = λ r. let h = o.read_is r in (h.0, (λ four. let x = h.1 four in omega (arith, x, gl)), h.2, h.3, h.4); clear_is = λ four c r. o.clear_is four (sym (cl u.number) ∙ c) r }) in
    set_views (λ j u. SafeAt k t (did id v A ∷ es) u) _ id (view_after A v) (lift id v ok.1.0) (λ j u _ e. lift j u e)
safe_calm k es id v t table old (TookOver hs had found told) same ok = absurd ok.1.3
safe_calm k es id v t table old act same ok =
    let lift : (j : ℕ) (u : View) → get_elem? (run k es).views j ≡ some u → Safe k t (act ∷ all_acts es) (aged act t (age es t)) (reads t u.log) (announces u.log) u.number = λ j u e.
    let o = old j u e in
    subst (λ (z : ℕ). Safe k t (act ∷ all_acts es) z (reads t u.log) (announces u.log) u.number) (sym same) (record { read_is = o.read_is; clear_is = o.clear_is }) in
    set_views (λ j u. SafeAt k t (did id v act ∷ es) u) _ id (view_after act v) (lift id v ok.1.0) (λ j u _ e. lift j u e)

pub safe : (k : Shape) (es : List Event) → Valid k es → (t : ℕ) → IsTableName k t → (j : ℕ) (u : View) → get_elem? (run k es).views j ≡ some u → SafeAt k t es u
safe k [] valid t table = one_view (λ j u. SafeAt k t [] u) (starter k) (record { read_is = λ e. off e; clear_is = λ g c e. off e })
safe k (did id v a ∷ es) valid t table =
    let old = safe k es valid.0 t table in
    let its = placed k es valid.0 t table in
    let link = linked k es valid.0 t table id v valid.1.0 in
    let hear = heard k es valid.0 in
    let G = all_acts es in
    let g = age es t in
    let n = stage t v.log in
    let F : Act → Type 0 = λ b. Valid k (did id v b ∷ es) → (j : ℕ) (u : View) → get_elem? (run k (did id v b ∷ es)).views j ≡ some u → SafeAt k t (did id v b ∷ es) u in
    -- where no pass can have read t
    let none : (b : Act) → Valid k (did id v b ∷ es) → ((r : Bool) → reads_next t b r ≡ r) → ((j : ℕ) (u : View) → get_elem? (run k es).views j ≡ some u → reads t u.log ≡ true → ⊥) → (j : ℕ) (u : View) → get_elem? (run k (did id v b ∷ es)).views j ≡ some u → SafeAt k t (did id v b ∷ es) u = λ b ok same never.
    set_views (λ j u. SafeAt k t (did id v b ∷ es) u) _ id (view_after b v) (not_read k t (b ∷ G) (aged b t g) (reads t (b ∷ v.log)) (announces (b ∷ v.log)) v.number (λ r. never id v ok.1.0 (sym (same (reads t v.log)) ∙ r))) (λ j u _ e. not_read k t (b ∷ G) (aged b t g) (reads t u.log) (announces u.log) u.number (never j u e)) in
    on_table k es id v t table F
    (λ f s one ok.
    let was : g % 5 ≡ 0 = its.free_is (ap (bit (free_bit_of t)) (sym ok.1.2) ∙ one) in
    none (TakeTable t f s) ok (λ r. refl) (λ j u e r. let h = ((old j u e).read_is r).0 in absurd (omega (arith, h, was))))
    (λ ok.
    none (GiveTable t) ok (λ r. refl)
    (λ j u e r.
    let h = (old j u e).read_is r in
    ⊎_elim
    (λ (x : (n ≡ 1) × _). let one = x.0 in let was = (its.hands id v ok.1.0 (λ z. absurd (omega (arith, one, z)))).0 in let two = h.0 in absurd (omega (arith, was, one, two)))
    (λ (x : (n ≡ 4) × ((p : ℕ) → 0 < p → p ≤ k.passes → clear t p v.log ≡ true)).
    let four = x.0 in
    let was = (its.hands id v ok.1.0 (λ z. absurd (omega (arith, four, z)))).0 in
    let live = h.4 in
    (old j u e).clear_is (was ∙ four) (link.clear_is four u.number (x.1 u.number (omega arith) h.3)) r)
    ok.1.3.1))
    (λ o past ok.
    let one = (ok.1.3.3 t refl).1 in
    let was = (its.hands id v ok.1.0 (λ z. absurd (omega (arith, one, z)))).0 in
    none (PutRoot o (suc t) past) ok (λ r. refl) (λ j u e r. let h = ((old j u e).read_is r).0 in absurd (omega (arith, h, was, one))))
    (λ o r ne ok.
    let A : Act = PutRoot o r (suc t) in
    let was = (its.roots o ok.1.3.0 (sym ok.1.3.2)).0 in
    let now : aged A t g ≡ g + 1 = miss r (suc t) (g + 1) (cond (eqb (suc t) (suc t)) (g + 1) g) ne ∙ hit (suc t) (g + 1) g in
    let lift : (j : ℕ) (u : View) → get_elem? (run k es).views j ≡ some u → Safe k t (A ∷ G) (aged A t g) (reads t u.log) (announces u.log) u.number = λ j u e.
    let o = old j u e in
    record { read_is = λ r. let h = o.read_is r in (omega (arith, now, was), (λ z. absurd (omega (arith, z, now, was))), h.2, h.3, h.4); clear_is = λ z. absurd (omega (arith, z, now, was)) } in
    set_views (λ j u. SafeAt k t (did id v A ∷ es) u) _ id (view_after A v) (lift id v ok.1.0) (λ j u _ e. lift j u e))
    (λ f ok.
    let A : Act = Retire t f in
    let three = ok.1.3.1 in
    let was = (its.hands id v ok.1.0 (λ z. absurd (omega (arith, three, z)))).0 in
    let now : aged A t g ≡ g + 1 = hit t (g + 1) g in
    let found : f ≡ word k es write_number = ok.1.2 in
    let goal_is : goal t (A ∷ G) ≡ f + 1 = hit t (f + 1) (goal t G) in
    let lift : (j : ℕ) (u : View) → get_elem? (run k es).views j ≡ some u → Safe k t (A ∷ G) (aged A t g) (reads t u.log) (announces u.log) u.number = λ j u e.
    let o = old j u e in
    let bound = (hear j u e).low in
    record { read_is = λ r. let h = o.read_is r in (omega (arith, now, was, three), (λ _. omega (arith, goal_is, found, bound)), h.2, h.3, h.4); clear_is = λ z c. off (sym (hit t false (clear t u.number G)) ∙ c) } in
    set_views (λ j u. SafeAt k t (did id v A ∷ es) u) _ id (view_after A v) (lift id v ok.1.0) (λ j u _ e. lift j u e))
    (λ b c ok. safe_calm k es id v t table old b (c.age g) ok)
    a valid.1.2 valid.1.3 valid
safe k (forked id v ∷ es) valid t table =
    let old = safe k es valid.0 t table in
    let m = old id v valid.1.0 in
    one_more (λ j u. SafeAt k t (forked id v ∷ es) u) _ (made v) (record { read_is = λ e. off e; clear_is = λ g c e. off e }) (set_views (λ j u. SafeAt k t (forked id v ∷ es) u) _ id (maker v) (record { read_is = m.read_is; clear_is = m.clear_is }) (λ j u _ e. let o = old j u e in record { read_is = o.read_is; clear_is = o.clear_is }))
safe k (sent id v given ∷ es) valid t table =
    let old = safe k es valid.0 t table in
    let m = old id v valid.1.0 in
    one_more (λ j u. SafeAt k t (sent id v given ∷ es) u) _ (note given v) (record { read_is = λ e. off e; clear_is = λ g c e. off e }) (set_views (λ j u. SafeAt k t (sent id v given ∷ es) u) _ id (sender given v) (record { read_is = m.read_is; clear_is = m.clear_is }) (λ j u _ e. let o = old j u e in record { read_is = o.read_is; clear_is = o.clear_is }))
safe k (joined id v other w ∷ es) valid t table =
    let old = safe k es valid.0 t table in
    let m = old id v valid.1.0 in
    set_views (λ j u. SafeAt k t (joined id v other w ∷ es) u) _ other spent (record { read_is = λ e. off e; clear_is = λ g c e. off e })
    (λ j u _. set_views (λ j u. SafeAt k t (joined id v other w ∷ es) u) _ id (both v w) (record { read_is = m.read_is; clear_is = m.clear_is }) (λ j u _ e. let o = old j u e in record { read_is = o.read_is; clear_is = o.clear_is }) j u)

-- a table that a pass has found in a root since it last announced is not free
pub not_free : (k : Shape) (es : List Event) → Valid k es → (t : ℕ) → IsTableName k t → (j : ℕ) (u : View) → get_elem? (run k es).views j ≡ some u → reads t u.log ≡ true → bit (free_bit_of t) (word k es (bits (free_word_of t))) ≢ 1
not_free k es valid t table j u at r free =
    let a = ((safe k es valid t table j u at).read_is r).0 in
    let b = (placed k es valid t table).free_is free in
    absurd (omega (arith, a, b))
