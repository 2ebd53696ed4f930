-- No word wraps.
use Rattle.ft_trace.specs.Addresses.{container_count}
use Rattle.std.proofs.Common.{◌≡◌, ◌≢◌, ℕ, eqb, ◌+◌, ◌*◌, ◌%◌, ◌<◌, ◌≤◌, Bool, true, false, true≢false, cond, List, [], ◌∷◌, length, refl, sym, ap, ◌∙◌, arith}
use mathlib.Core.Option.{some}
use mathlib.Core.Logic.{dite}
use native.Mathlib.Decide.{ℕ_discrete}
use lib.ListN.{get_elem?}
use Rattle.ft_model.specs.declared.call.Call.{Call}
use Rattle.ft_model.specs.declared.reply.Reply.{Reply}
use Rattle.ft_trace.specs.declared.Snap.{Snap}
use Rattle.ft_trace.specs.declared.Shape.{Shape}
use Rattle.ft_trace.specs.declared.View.{View}
use Rattle.ft_trace.specs.declared.Act.{Act}
use Rattle.ft_trace.specs.declared.Act.TheVariants.{StartWrite, Commit, StopWrite}
use Rattle.ft_trace.specs.Acts.{has_lock, is_writing, is_writing_next, has_committed, has_committed_next, starter, view_after, maker, made, both, spent, sender, note}
use Rattle.ft_trace.specs.Traces.{Event, did, forked, joined, sent, run, writes_of, history, Valid}
use Rattle.ft_trace.proofs.Sizes.{set_at, set_views, one_more, one_view}
use Rattle.ft_trace.proofs.Cases.{hit, off}
use Rattle.ft_trace.proofs.Addresses.{version_first}
use Rattle.ft_trace.proofs.OneWord.{moves}
use Rattle.ft_trace.proofs.Locks.{one_holder}
use Rattle.ft_trace.proofs.OddVersions.{version, versioned, writer_has, one_up, on_seq}
use Rattle.ft_trace.proofs.Contents.{count, counted}
use Rattle.ft_trace.proofs.Totals.{left_total}

pub counter_room : (k : Shape) (es : List Event) → Valid k es → count k es ≤ k.passes * k.calls
counter_room k es valid = let a = counted k es valid in let b = left_total k es valid in omega arith

-- a version is at most twice the counter, plus 1 while a pass writes that has not committed yet
pub record Roomy (k : Shape) (es : List Event) (o : ℕ) : Type 0 where
  pub odd : version k es o ≤ 2 * count k es + 1
  pub even : version k es o % 2 ≡ 0 → version k es o ≤ 2 * count k es
  pub written : (j : ℕ) (u : View) → get_elem? (run k es).views j ≡ some u → is_writing o u.log ≡ true → has_committed o u.log ≡ true → version k es o + 1 ≤ 2 * count k es

-- a commit, and all else that leaves the version
commits : (F : Act → Type 0) → ((c : Call) (r : Reply) (f : ℕ) (s : Snap) → F (Commit c r f s)) → ((a : Act) → ((cs : List Call) → writes_of a cs ≡ cs) → ((o : ℕ) → is_writing_next o a (is_writing o []) ≡ is_writing o [] → (b : Bool) → has_committed_next o a b ≡ b) → F a) → (a : Act) → F a
commits F commit other (Commit c r f s) = commit c r f s
commits F commit other (StartWrite p f) = other (StartWrite p f) (λ cs. refl) (λ o same b. by (eqb p o) b same)
  where
    by : (x b : Bool) → cond x true false ≡ false → cond x false b ≡ b
    by true b e = absurd (true≢false e)
    by false b e = refl
commits F commit other act = other act (λ cs. refl) (λ o same b. refl)

pub roomy : (k : Shape) (es : List Event) → Valid k es → (o : ℕ) → o < container_count k → Roomy k es o
roomy k [] valid o low =
    let v : version k [] o ≡ 0 = version_first k o low in
    record { odd = omega (arith, v); even = λ _. omega (arith, v); written = one_view (λ j u. is_writing o u.log ≡ true → has_committed o u.log ≡ true → version k [] o + 1 ≤ 2 * count k []) (starter k) (λ e. off e) }
roomy k (did id v a ∷ es) valid o low =
    let old = roomy k es valid.0 o low in
    let V = version k es o in
    let C = count k es in
    let V' : Act → ℕ = λ b. version k (did id v b ∷ es) o in
    let C' : Act → ℕ = λ b. count k (did id v b ∷ es) in
    let F : Act → Type 0 = λ b. Valid k (did id v b ∷ es) → Roomy k (did id v b ∷ es) o in
    let W : Act → ℕ → View → Type 0 = λ b j u. is_writing o u.log ≡ true → has_committed o u.log ≡ true → V' b + 1 ≤ 2 * C' b in
    let counts : (b : Act) → Valid k (did id v b ∷ es) → writes_of b (history es) ≡ history es → C' b ≡ C = λ b ok past. counted k (did id v b ∷ es) ok ∙ (ap (λ (cs : List Call). length cs) past ∙ sym (counted k es valid.0)) in
    -- no other pass writes
    let others : (j : ℕ) (u : View) → j ≢ id → get_elem? (run k es).views j ≡ some u → has_lock o v.log ≡ true → is_writing o u.log ≡ true → ⊥ = λ j u ne e mine theirs. ne (one_holder k es valid.0 o low j id u v e valid.1.0 (writer_has k es valid.0 o j u e theirs) mine) in
    on_seq k es id v o low F
    (λ f ok.
    let may = ok.1.3 in
    let up : V' (StartWrite o f) ≡ V + 1 = moves k es id v (StartWrite o f) may ∙ one_up V may.3 in
    let c : C' (StartWrite o f) ≡ C = counts (StartWrite o f) ok refl in
    let odd : V' (StartWrite o f) % 2 ≡ 0 → ⊥ = λ e. true≢false (sym (hit o true (is_writing o v.log)) ∙ (versioned k (did id v (StartWrite o f) ∷ es) ok o low).idle e id (view_after (StartWrite o f) v) (set_at (run k es).views id v (view_after (StartWrite o f) v) ok.1.0)) in
    let was : V % 2 ≡ 0 = dite (ℕ_discrete (V % 2) 0) (λ e. e) (λ ne. absurd (odd (omega (arith, ne, ap (λ (n : ℕ). n % 2) up)))) in
    let h = old.even was in
    record {
      odd = omega (arith, up, c);
      even = λ e. absurd (odd e);
      written = set_views (W (StartWrite o f)) _ id (view_after (StartWrite o f) v) (λ w d. off (sym (hit o false (has_committed o v.log)) ∙ d)) (λ j u ne e w d. absurd (others j u ne e may.1 w));
    })
    (λ f ok.
    let may = ok.1.3 in
    let up : V' (StopWrite o f) ≡ V + 1 = moves k es id v (StopWrite o f) may ∙ one_up V may.4 in
    let c : C' (StopWrite o f) ≡ C = counts (StopWrite o f) ok refl in
    let h = old.written id v valid.1.0 may.1 may.2 in
    record {
      odd = omega (arith, up, c);
      even = λ _. omega (arith, up, c);
      written = set_views (W (StopWrite o f)) _ id (view_after (StopWrite o f) v) (λ w d. off (sym (hit o false (is_writing o v.log)) ∙ w)) (λ j u ne e w d. absurd (others j u ne e (writer_has k es valid.0 o id v valid.1.0 may.1) w));
    })
    (λ b keeps stay ok.
    let G : Act → Type 0 = λ b. Valid k (did id v b ∷ es) → ((x : Bool) → is_writing_next o b x ≡ x) → V' b ≡ V → Roomy k (did id v b ∷ es) o in
    commits G
    (λ c r f s ok keeps same.
    let up : C' (Commit c r f s) ≡ C + 1 = moves k es id v (Commit c r f s) ok.1.3 ∙ one_up C ok.1.3.2 in
    let h = old.odd in
    record { odd = omega (arith, same, up); even = λ e. let was : V % 2 ≡ 0 = ap (λ (n : ℕ). n % 2) (sym same) ∙ e in let g = old.even was in omega (arith, same, up); written = λ j u e w d. omega (arith, same, up) })
    (λ b past doing ok keeps v_same.
    let c_same = counts b ok (past (history es)) in
    let d_same = doing o (keeps false) in
    record {
      odd = (let h = old.odd in omega (arith, v_same, c_same));
      even = λ e. let was : V % 2 ≡ 0 = ap (λ (n : ℕ). n % 2) (sym v_same) ∙ e in let h = old.even was in omega (arith, v_same, c_same);
      written = set_views (W b) _ id (view_after b v)
          (λ w d. let h = old.written id v valid.1.0 (sym (keeps (is_writing o v.log)) ∙ w) (sym (d_same (has_committed o v.log)) ∙ d) in omega (arith, v_same, c_same))
          (λ j u _ e w d. let h = old.written j u e w d in omega (arith, v_same, c_same));
    })
    b ok keeps (stay ok.1.3))
    a valid
roomy k (forked id v ∷ es) valid o low =
    let old = roomy k es valid.0 o low in
    let W : ℕ → View → Type 0 = λ j u. is_writing o u.log ≡ true → has_committed o u.log ≡ true → version k es o + 1 ≤ 2 * count k es in
    record { odd = old.odd; even = old.even; written = one_more W _ (made v) (λ e. off e) (set_views W _ id (maker v) (old.written id v valid.1.0) (λ j u _ e. old.written j u e)) }
roomy k (sent id v given ∷ es) valid o low =
    let old = roomy k es valid.0 o low in
    let W : ℕ → View → Type 0 = λ j u. is_writing o u.log ≡ true → has_committed o u.log ≡ true → version k es o + 1 ≤ 2 * count k es in
    record { odd = old.odd; even = old.even; written = one_more W _ (note given v) (λ e. off e) (set_views W _ id (sender given v) (old.written id v valid.1.0) (λ j u _ e. old.written j u e)) }
roomy k (joined id v other w ∷ es) valid o low =
    let old = roomy k es valid.0 o low in
    let W : ℕ → View → Type 0 = λ j u. is_writing o u.log ≡ true → has_committed o u.log ≡ true → version k es o + 1 ≤ 2 * count k es in
    record { odd = old.odd; even = old.even; written = set_views W _ other spent (λ e. off e) (λ j u _. set_views W _ id (both v w) (old.written id v valid.1.0) (λ j u _ e. old.written j u e) j u) }

-- a version has room for two steps
pub version_room : (k : Shape) (es : List Event) → Valid k es → (o : ℕ) → o < container_count k → version k es o ≤ 2 * (k.passes * k.calls) + 1
version_room k es valid o low = let a = (roomy k es valid o low).odd in let b = counter_room k es valid in omega arith
