-- What stops a look-up that goes by the version of a container: a write of it.
use Rattle.std.proofs.Common.{◌≡◌, ◌≢◌, ◌⊎◌, ℕ, ◌+◌, ◌%◌, ◌<◌, List, [], ◌∷◌, ◌++◌, refl, sym, ap, ◌∙◌, subst, inl, inr, ⊎_elim, arith, append_assoc}
use mathlib.Core.Option.{some}
use mathlib.Core.Logic.{dite}
use native.Mathlib.Decide.{ℕ_discrete}
use lib.ListN.{get_elem?}
use Rattle.ft_trace.specs.declared.Act.{Act}
use Rattle.ft_trace.specs.declared.Act.TheVariants.{StartWrite, StopWrite, Version}
use Rattle.ft_trace.specs.declared.Shape.{Shape}
use Rattle.ft_trace.specs.Addresses.{container_count}
use Rattle.ft_trace.specs.StoppedLookUps.{ReadersOfContainersAreStoppedByWrites}
use Rattle.ft_trace.specs.Traces.{Event, did, forked, joined, sent, run, history, May, Valid}
use Rattle.ft_trace.proofs.EarlierMoments.{was, valid_rest}
use Rattle.ft_trace.proofs.OddVersions.{version, Writer, versioned, on_seq, one_up}
use Rattle.ft_trace.proofs.OneWord.{moves}

-- one event leaves the version or makes it one more
one_step : (k : Shape) (es : List Event) (e : Event) → Valid k (e ∷ es) → (o : ℕ) → o < container_count k → (version k (e ∷ es) o ≡ version k es o) ⊎ (version k (e ∷ es) o ≡ version k es o + 1)
one_step k es (did id v a) valid o low =
    let n = version k es o in
    let F : Act → Type 0 = λ b. May k (run k es) (history es) v b → (version k (did id v b ∷ es) o ≡ n) ⊎ (version k (did id v b ∷ es) o ≡ n + 1) in
    on_seq k es id v o low F
    (λ f may. inr (moves k es id v (StartWrite o f) may ∙ one_up n may.3))
    (λ f may. inr (moves k es id v (StopWrite o f) may ∙ one_up n may.4))
    (λ b keeps same may. inl (same may))
    a valid.1.3
one_step k es (forked id v) valid o low = inl refl
one_step k es (sent id v given) valid o low = inl refl
one_step k es (joined id v other w) valid o low = inl refl

record Rise (k : Shape) (newer older : List Event) (o : ℕ) : Type 0 where
  upper : List Event
  lower : List Event
  split : newer ≡ upper ++ lower
  writer : Writer (run k (lower ++ older)).views o

-- from an even version to another it was odd, and so a pass wrote
rise : (k : Shape) (newer older : List Event) → Valid k (newer ++ older) → (o : ℕ) → o < container_count k → version k older o % 2 ≡ 0 → version k (newer ++ older) o ≢ version k older o → Rise k newer older o
rise k [] older valid o low even ne = absurd (ne refl)
rise k (e ∷ newer) older valid o low even ne =
    let before : Valid k (newer ++ older) = valid_rest k (e ∷ []) (newer ++ older) valid in
    dite (ℕ_discrete (version k (newer ++ older) o) (version k older o))
    (λ (same : version k (newer ++ older) o ≡ version k older o).
    ⊎_elim
    (λ (l : version k (e ∷ (newer ++ older)) o ≡ version k (newer ++ older) o). absurd (ne (l ∙ same)))
    (λ (l : version k (e ∷ (newer ++ older)) o ≡ version k (newer ++ older) o + 1). record {
      upper = [];
      lower = e ∷ newer;
      split = refl;
      writer = (versioned k (e ∷ (newer ++ older)) valid o low).busy (omega (arith, l, same, even));
    })
    (one_step k (newer ++ older) e valid o low))
    (λ apart.
    let r = rise k newer older before o low even apart in
    record { upper = e ∷ r.upper; lower = r.lower; split = ap (λ (l : List Event). e ∷ l) r.split; writer = r.writer })

-- between two loads
between : (k : Shape) (newer older : List Event) → Valid k (newer ++ older) → (o a b : ℕ) → o < container_count k → a ≡ version k older o → b ≡ version k (newer ++ older) o → (a % 2 ≢ 0) ⊎ (b ≢ a) → Rise k newer older o
between k newer older valid o a b low first second moved =
    let old = valid_rest k newer older valid in
    let at_once : a % 2 ≢ 0 → Rise k newer older o = λ odd. record { upper = newer; lower = []; split = sym (append_none newer); writer = (versioned k older old o low).busy (omega (arith, odd, first)) } in
    ⊎_elim at_once
    (λ (differ : b ≢ a).
    dite (ℕ_discrete (a % 2) 0)
    (λ (even : a % 2 ≡ 0). rise k newer older valid o low (omega (arith, even, first)) (λ e. differ (omega (arith, e, first, second))))
    (λ odd. at_once odd))
    moved
  where
    append_none : (l : List Event) → l ++ [] ≡ l
    append_none [] = refl
    append_none (x ∷ xs) = ap (λ (l : List Event). x ∷ l) (append_none xs)

pub readers_of_containers : ReadersOfContainersAreStoppedByWrites
readers_of_containers k es valid o a b low j u at s =
    let top = was k es valid j u at s.newer (Version o b) (s.mid ++ Version o a ∷ s.rest) s.is in
    let w = was k top.older top.valid j top.view top.at s.mid (Version o a) s.rest top.log in
    let gave1 : a ≡ version k w.older o = w.tells in
    let gave2 : b ≡ version k top.older o = top.tells in
    let r = between k w.newer w.older (subst (Valid k) (sym w.split) top.valid) o a b low gave1 (gave2 ∙ ap (λ (l : List Event). version k l o) (sym w.split)) s.moved in
    let join : r.upper ++ (r.lower ++ w.older) ≡ top.older = sym (append_assoc r.upper r.lower w.older) ∙ (ap (λ (l : List Event). l ++ w.older) (sym r.split) ∙ w.split) in
    record {
      later = top.newer;
      upper = r.upper;
      lower = r.lower;
      first = w.older;
      is = sym (ap (λ (l : List Event). top.newer ++ l) join ∙ top.split);
      one = w.view;
      two = top.view;
      at_first = (w.at, w.log);
      at_second = (subst (λ (l : List Event). get_elem? (run k l).views j ≡ some top.view) (sym join) top.at, top.log);
      seat = r.writer.0;
      view = r.writer.1;
      at = r.writer.2;
      writing = r.writer.3;
    }
