-- That a table that was taken out of a root can be retired and given back: here by the one pass of a bank, which goes offline for it.
use Rattle.std.proofs.Common.{◌≡◌, ℕ, eqb, eq-eqb, ltb, ◌*◌, ◌^◌, ◌<◌, ◌≤◌, Bool, true, cond, refl, ap, ◌∙◌, inr, arith}
use Rattle.ft_trace.specs.declared.Shape.{Shape}
use Rattle.ft_trace.specs.declared.View.{View}
use Rattle.ft_trace.specs.declared.Act.TheVariants.{Retire, Announce, ReadAnnounced, GiveTable}
use Rattle.ft_trace.specs.Addresses.{write_number, announced_of, bits, IsTableName, free_word_of}
use Rattle.ft_trace.specs.Acts.{stage, debt, flight, clear, goal, view_after}
use Rattle.ft_trace.specs.Traces.{IsReachable, IsAwake}
use Rattle.ft_trace.proofs.Cases.{hit}
use Rattle.ft_trace.proofs.Announcing.{heard}
use Rattle.ft_trace.proofs.Budgets.{goals_room}
use Rattle.ft_trace.proofs.NextActions.{next_possible}

module _ (v : View) (t : ℕ) (first : v.number ≡ 1) (possible : IsReachable v) (one : v.shape.passes ≡ 1) (token : 0 < v.tokens) (small : v.shape.passes * v.shape.calls < 2 ^ 46) (table : IsTableName v.shape t) (three : stage t v.log ≡ 3) (owed : 0 < debt v.log) (idle : flight v.log ≡ 0) where
  abbrev k : Shape
  k = v.shape

  live : IsAwake v
  live = ((λ none. absurd (omega (arith, none, first))), token)

  abbrev r1 : ℕ → View
  r1 f = view_after (Retire t f) v

  abbrev r2 : ℕ → View
  r2 f = view_after (Announce v.number 0) (r1 f)

  abbrev r3 : ℕ → ℕ → View
  r3 f h = view_after (ReadAnnounced v.number h) (r2 f)

  step1 : (f : ℕ) × IsReachable (r1 f)
  step1 = next_possible v live possible (λ f. Retire t f) write_number (λ f. refl) (λ f. refl)
      (λ es id knows. let g = goals_room k es (omega (arith, one)) knows.0 in (table, three, omega (arith, g, one, small), owed))

  step2 : (f : ℕ) → IsReachable (r1 f) → (n : ℕ) × IsReachable (r2 f)
  step2 f q = next_possible (r1 f) live q (λ _. Announce v.number 0) (announced_of v.number) (λ _. refl) (λ _. tt) (λ es id knows. (refl, omega (arith, first, one), omega arith, omega (arith, first), omega (arith, first)))

  -- it finds itself offline
  step3 : (f : ℕ) → IsReachable (r2 f) → (h : ℕ) × (IsReachable (r3 f h) × (h ≡ 0))
  unfolding next_possible
  step3 f q =
      let n = next_possible (r2 f) live q (λ h. ReadAnnounced v.number h) (announced_of v.number) (λ _. refl) (λ _. refl) (λ es id knows. let z : v.number ≤ k.passes = omega (arith, first, one) in (z, omega (arith, first), omega (arith, first))) in
      let w = (heard k q.0 q.2.0 q.1 (r2 f) q.2.1).word_is live.0 (omega (arith, first, one)) in
      (n.0, (n.1, w))

  passed : (f h : ℕ) → h ≡ 0 → (p : ℕ) → 0 < p → p ≤ k.passes → clear t p (r3 f h).log ≡ true
  passed f h none p pos low =
      let same : v.number ≡ p = omega (arith, first, one) in
      let g = goal t (r2 f).log in
      let b = clear t p (r2 f).log in
      by (eqb v.number p) (eqb h 0) (ltb h g) b (ap (λ (z : ℕ). eqb z p) same ∙ eq-eqb p p refl) (ap (λ (z : ℕ). eqb z 0) none)
    where
      by : (a c d e : Bool) → a ≡ true → c ≡ true → cond a (cond c true (cond d e true)) e ≡ true
      by a c d e x y = ap (λ (z : Bool). cond z (cond c true (cond d e true)) e) x ∙ ap (λ (z : Bool). cond z true (cond d e true)) y

  pub cycle_possible : (f h : ℕ) × IsReachable (view_after (GiveTable t) (r3 f h))
  cycle_possible =
      let a = step1 in
      let b = step2 a.0 a.1 in
      let d = step3 a.0 b.1 in
      let f = a.0 in
      let h = d.0 in
      let four : stage t (r3 f h).log ≡ 4 = hit t 4 (stage t v.log) in (
        f,
        h,
        (next_possible (r3 f h) live d.1.0 (λ _. GiveTable t) (bits (free_word_of t)) (λ _. refl) (λ _. tt)
            (λ es id knows. (table, inr (four, passed f h d.1.1), idle))).1,
      )
