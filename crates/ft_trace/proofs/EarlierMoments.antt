-- What a pass's log says of earlier moments of the trace.
use Rattle.std.proofs.Common.{◌≡◌, ◌≢◌, ℕ, suc, eqb, Bool, true, cond, List, [], ◌∷◌, ◌++◌, length, set, refl, sym, ap, ◌∙◌, subst, append_assoc}
use mathlib.Core.Option.{some}
use mathlib.Core.Logic.{dite}
use native.Mathlib.Decide.{ℕ_discrete}
use lib.ListN.{get_elem?}
use Rattle.ft_trace.specs.declared.Shape.{Shape}
use Rattle.ft_trace.specs.declared.View.{View}
use Rattle.ft_trace.specs.declared.Act.{Act}
use Rattle.ft_trace.specs.declared.Act.TheVariants.{ReadRoot, Announce, TookOver}
use Rattle.ft_trace.specs.Acts.{place, Reports, reads, reads_next, hands_over, tells, starter, view_after, maker, made, both, spent, sender, note}
use Rattle.ft_trace.specs.Owners.{had_locks, found_owners}
use Rattle.ft_trace.specs.Ages.{age, seen, seen_next}
use Rattle.ft_trace.specs.LoggedLookUps.{Online}
use Rattle.ft_trace.specs.Traces.{Event, did, forked, joined, sent, run, word, history, May, Valid}
use Rattle.ft_trace.proofs.Sizes.{set_views, one_more, one_view}
use Rattle.ft_trace.proofs.Cases.{hit, miss, here}

-- what was read stays read while nothing is announced
reads_on : (t : ℕ) (a : Act) (l : List Act) → Online (a ∷ l) → (b : Bool) → b ≡ true → (reads_next t a b ≡ true) × Online l
reads_on t (Announce p x) l on b e = absurd on
reads_on t (ReadRoot o f) l on b e = (dite (ℕ_discrete f (suc t)) (λ (z : f ≡ suc t). here f (suc t) true b z) (λ ne. miss f (suc t) true b ne ∙ e), on)
reads_on t act l on b e = (e, on)

pub online_rest : (a : Act) (l : List Act) → Online (a ∷ l) → Online l
online_rest (Announce p x) l on = absurd on
online_rest act l on = on

pub online_after : (xs ys : List Act) → Online (xs ++ ys) → Online ys
online_after [] ys on = on
online_after (x ∷ xs) ys on = online_after xs ys (online_rest x (xs ++ ys) on)

pub online_one : (a : Act) (l m : List Act) → Online (a ∷ l) → Online m → Online (a ∷ m)
online_one (Announce p x) l m on rest = on
online_one act l m on rest = rest

pub online_before : (xs ys : List Act) → Online (xs ++ ys) → Online xs
online_before [] ys on = tt
online_before (x ∷ xs) ys on = online_one x (xs ++ ys) xs on (online_before xs ys (online_rest x (xs ++ ys) on))

pub still_reads : (t : ℕ) (xs rest : List Act) → Online xs → reads t rest ≡ true → reads t (xs ++ rest) ≡ true
still_reads t [] rest on r = r
still_reads t (x ∷ xs) rest on r = (reads_on t x xs on (reads t (xs ++ rest)) (still_reads t xs rest (reads_on t x xs on true refl).1 r)).0

-- an action that is a step of the pass's own
abbrev pub IsStep : Act → Type 0
IsStep (TookOver tables had found told) = ⊥
IsStep act = Unit {0}

-- each event leaves f, before which the pass at seat j had done some of these since its log was rest
abbrev pub Leaves : Shape → (List Event → ℕ) → ℕ → List Act → List Act → Type 0
Leaves k f j newer rest = (e : Event) (now : List Event) → Valid k (e ∷ now) → (u : View) → get_elem? (run k now).views j ≡ some u → (zs ys : List Act) → zs ++ ys ≡ newer → u.log ≡ ys ++ rest → f (e ∷ now) ≡ f now

-- The pass at seat j did a when its log was rest, or took tables over at a join. The trace at that moment is `older`.
pub record Was (k : Shape) (es : List Event) (j : ℕ) (xs : List Act) (a : Act) (rest : List Act) : Type 0 where
  pub newer : List Event
  pub older : List Event
  pub view : View
  pub split : newer ++ older ≡ es
  pub valid : Valid k older
  pub at : get_elem? (run k older).views j ≡ some view
  pub log : view.log ≡ rest
  pub tells : Reports a (word k older (place a))
  pub live : view.number ≢ 0
  pub may : IsStep a → May k (run k older) (history older) view a
  -- what it had found in roots by then, and when, is the same where it has announced nothing since
  pub seen : Online (xs ++ a ∷ []) → (t : ℕ) → reads t rest ≡ true → seen older j t ≡ seen es j t
  -- what each event since then leaves, by what the pass had done before it, is as it was
  pub kept : (f : List Event → ℕ) → Leaves k f j (xs ++ a ∷ []) rest → f es ≡ f older

later : (k : Shape) (es : List Event) (e : Event) → Valid k (e ∷ es) → (j : ℕ) (u : View) → get_elem? (run k es).views j ≡ some u → (xs : List Act) (a : Act) (rest : List Act) → u.log ≡ xs ++ a ∷ rest → ((t : ℕ) → seen es j t ≡ seen (e ∷ es) j t) → Was k es j xs a rest → Was k (e ∷ es) j xs a rest
later k es e valid j u there xs a rest log same w = record { kept = λ f leaves. leaves e es valid u there [] (xs ++ a ∷ []) refl (log ∙ sym (append_assoc xs (a ∷ []) rest)) ∙ w.kept f leaves; newer = e ∷ w.newer; older = w.older; view = w.view; split = ap (λ (l : List Event). e ∷ l) w.split; valid = w.valid; at = w.at; log = w.log; tells = w.tells; live = w.live; may = w.may; seen = λ on t r. w.seen on t r ∙ same t }

-- the pass's own next action
seen_own : (id : ℕ) (v : View) (a : Act) (es : List Event) (t : ℕ) → reads t v.log ≡ true → seen es id t ≡ seen (did id v a ∷ es) id t
seen_own id v (ReadRoot o f) es t r =
    let s = seen es id t in
    let g = age es t in
    sym (hit id (cond (eqb f (suc t)) (cond (reads t v.log) s g) s) s ∙ dite (ℕ_discrete f (suc t)) (λ (z : f ≡ suc t). here f (suc t) (cond (reads t v.log) s g) s z ∙ ap (λ (b : Bool). cond b s g) r) (λ ne. miss f (suc t) (cond (reads t v.log) s g) s ne))
seen_own id v act es t r = sym (hit id (seen es id t) (seen es id t))

own_next : (k : Shape) (es : List Event) (id : ℕ) (v : View) (b x : Act) → Valid k (did id v b ∷ es) → (xs : List Act) (a : Act) (rest : List Act) → b ≡ x → v.log ≡ xs ++ a ∷ rest → Was k es id xs a rest → Was k (did id v b ∷ es) id (x ∷ xs) a rest
own_next k es id v b x valid xs a rest same log w = record {
  kept = λ f leaves.
      leaves (did id v b) es valid v valid.1.0 (x ∷ []) (xs ++ a ∷ []) refl (log ∙ sym (append_assoc xs (a ∷ []) rest))
      ∙ w.kept f (λ e now ok u there zs ys split is. leaves e now ok u there (x ∷ zs) ys (ap (λ (l : List Act). x ∷ l) split) is);
  newer = did id v b ∷ w.newer;
  older = w.older;
  view = w.view;
  split = ap (λ (l : List Event). did id v b ∷ l) w.split;
  valid = w.valid;
  at = w.at;
  log = w.log;
  tells = w.tells;
  live = w.live;
  may = w.may;
  seen = λ on t r.
      let on' = online_rest x (xs ++ a ∷ []) on in
      let deep : reads t (xs ++ a ∷ rest) ≡ true = still_reads t xs (a ∷ rest) (online_before xs (a ∷ []) on') (still_reads t (a ∷ []) rest (online_after xs (a ∷ []) on') r) in
      w.seen on' t r ∙ seen_own id v b es t (ap (reads t) log ∙ deep);
}

abbrev Each : Shape → List Event → ℕ → View → Type 0
Each k es j u = (xs : List Act) (a : Act) (rest : List Act) → u.log ≡ xs ++ a ∷ rest → Was k es j xs a rest

no_log : (k : Shape) (es : List Event) (j : ℕ) (xs : List Act) (a : Act) (rest : List Act) → [] ≡ xs ++ a ∷ rest → Was k es j xs a rest
no_log k es j [] a rest e = absurd (cc)
no_log k es j (x ∷ xs) a rest e = absurd (cc)

by_front : (k : Shape) (es : List Event) (id : ℕ) (v : View) (b : Act) → Valid k (did id v b ∷ es) → Each k es id v → (xs : List Act) (a : Act) (rest : List Act) → b ∷ v.log ≡ xs ++ a ∷ rest → Was k (did id v b ∷ es) id xs a rest
by_front k es id v b valid before [] a rest e =
    let same : b ≡ a = cc in
    let log : v.log ≡ rest = cc in
    subst (λ (z : Act). Was k (did id v b ∷ es) id [] z rest) same (record { kept = λ f leaves. leaves (did id v b) es valid v valid.1.0 (b ∷ []) [] refl log; newer = did id v b ∷ []; older = es; view = v; split = refl; valid = valid.0; at = valid.1.0; log = log; tells = valid.1.2; live = valid.1.1; may = λ _. valid.1.3; seen = λ on t r. seen_own id v b es t (ap (reads t) log ∙ r) })
by_front k es id v b valid before (x ∷ xs) a rest e = own_next k es id v b x valid xs a rest (cc) (cc) (before xs a rest (cc))

-- what a join adds to the log
by_join : (k : Shape) (es : List Event) (id : ℕ) (v : View) (other : ℕ) (w : View) → Valid k (joined id v other w ∷ es) → Each k es id v → Each k (joined id v other w ∷ es) id (both v w)
by_join k es id v other w valid before [] a rest e =
    let same : TookOver (hands_over w.log) (had_locks w.number w.log) (found_owners w.log) (tells w) ≡ a = cc in
    let log : v.log ≡ rest = cc in
    subst (λ (z : Act). Was k (joined id v other w ∷ es) id [] z rest) same (record { kept = λ f leaves. leaves (joined id v other w) es valid v valid.1.0 (TookOver (hands_over w.log) (had_locks w.number w.log) (found_owners w.log) (tells w) ∷ []) [] refl log; newer = joined id v other w ∷ []; older = es; view = v; split = refl; valid = valid.0; at = valid.1.0; log = log; tells = tt; live = valid.1.3; may = λ no. absurd no; seen = λ on t r. refl })
by_join k es id v other w valid before (x ∷ xs) a rest e =
    let log : v.log ≡ xs ++ a ∷ rest = cc in
    let was = before xs a rest log in
    record {
      kept = λ f leaves.
          leaves (joined id v other w) es valid v valid.1.0 (x ∷ []) (xs ++ a ∷ []) refl (log ∙ sym (append_assoc xs (a ∷ []) rest))
          ∙ was.kept f (λ e now ok u there zs ys split is. leaves e now ok u there (x ∷ zs) ys (ap (λ (l : List Act). x ∷ l) split) is);
      newer = joined id v other w ∷ was.newer;
      older = was.older;
      view = was.view;
      split = ap (λ (l : List Event). joined id v other w ∷ l) was.split;
      valid = was.valid;
      at = was.at;
      log = was.log;
      tells = was.tells;
      live = was.live;
      may = was.may;
      seen = λ on t r. was.seen (online_rest x (xs ++ a ∷ []) on) t r;
    }

-- each action in a log was done
pub was : (k : Shape) (es : List Event) → Valid k es → (j : ℕ) (u : View) → get_elem? (run k es).views j ≡ some u → (xs : List Act) (a : Act) (rest : List Act) → u.log ≡ xs ++ a ∷ rest → Was k es j xs a rest
was k [] valid = one_view (Each k []) (starter k) (no_log k [] 0)
was k (did id v b ∷ es) valid =
    let old = was k es valid.0 in
    set_views (Each k (did id v b ∷ es)) _ id (view_after b v)
    (by_front k es id v b valid (old id v valid.1.0))
    (λ j u ne e xs a rest is. later k es (did id v b) valid j u e xs a rest is (λ t. sym (miss id j (seen_next b (reads t v.log) t (age es t) (seen es j t)) (seen es j t) (λ z. ne (sym z)))) (old j u e xs a rest is))
was k (forked id v ∷ es) valid =
    let old = was k es valid.0 in
    one_more (Each k (forked id v ∷ es)) _ (made v) (no_log k (forked id v ∷ es) (length (set (run k es).views id (maker v))))
    (set_views (Each k (forked id v ∷ es)) _ id (maker v) (λ xs a rest is. later k es (forked id v) valid id v valid.1.0 xs a rest is (λ t. refl) (old id v valid.1.0 xs a rest is)) (λ j u _ e xs a rest is. later k es (forked id v) valid j u e xs a rest is (λ t. refl) (old j u e xs a rest is)))
was k (sent id v given ∷ es) valid =
    let old = was k es valid.0 in
    one_more (Each k (sent id v given ∷ es)) _ (note given v) (no_log k (sent id v given ∷ es) (length (set (run k es).views id (sender given v))))
    (set_views (Each k (sent id v given ∷ es)) _ id (sender given v) (λ xs a rest is. later k es (sent id v given) valid id v valid.1.0 xs a rest is (λ t. refl) (old id v valid.1.0 xs a rest is)) (λ j u _ e xs a rest is. later k es (sent id v given) valid j u e xs a rest is (λ t. refl) (old j u e xs a rest is)))
was k (joined id v other w ∷ es) valid =
    let old = was k es valid.0 in
    set_views (Each k (joined id v other w ∷ es)) _ other spent (no_log k (joined id v other w ∷ es) other)
    (λ j u _. set_views (Each k (joined id v other w ∷ es)) _ id (both v w) (by_join k es id v other w valid (old id v valid.1.0)) (λ j u _ e xs a rest is. later k es (joined id v other w) valid j u e xs a rest is (λ t. refl) (old j u e xs a rest is)) j u)

-- the rest of a valid trace is valid
pub valid_rest : (k : Shape) (newer older : List Event) → Valid k (newer ++ older) → Valid k older
valid_rest k [] older valid = valid
valid_rest k (e ∷ newer) older valid = valid_rest k newer older valid.0
