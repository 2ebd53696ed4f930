-- The steps of delayed reuse: that they may be made, and what they leave.
use Rattle.std.proofs.Common.{◌≡◌, ℕ, ◌+◌, ◌*◌, ◌^◌, ◌<◌, ◌≤◌, true, List, [], ◌∷◌, ◌++◌, refl, sym, ap, ◌∙◌, subst, ⊎_elim, arith, append-nil}
use mathlib.Core.Logic.{dite}
use Rattle.std.proofs.Math.Decide.{dec_lt}
use Rattle.std.proofs.Math.Logic.{∥∥₁_elim}
use Rattle.ft_trace.specs.declared.Act.TheVariants.{PutHeader, ReadHeader, Retire, Announce, ReadAnnounced, WriteNumber}
use Rattle.ft_trace.specs.declared.Shape.{Shape}
use Rattle.ft_trace.specs.declared.View.{View}
use Rattle.ft_trace.specs.Addresses.{write_number, IsTableName}
use Rattle.ft_trace.specs.Acts.{stage, goal, has_goal, debt, view_after}
use Rattle.ft_trace.specs.Traces.{Event, did, forked, joined, sent, word, Valid, IsReachable, Ready, Sure}
use Rattle.ft_trace.proofs.Announcing.{on_write_number, fits}
use Rattle.ft_trace.proofs.Budgets.{goals_room, number_low}
use Rattle.ft_trace.proofs.Cases.{miss}
use Rattle.ft_trace.proofs.Headers.{goals_stand}
use Rattle.ft_trace.proofs.EarlierMoments.{was}
use Rattle.ft_trace.proofs.OddVersions.{one_up}
use Rattle.ft_trace.proofs.OneWord.{stays, moves}
use Rattle.ft_bank.specs.declared.table.Table.{Table}
use Rattle.ft_bank.specs.Reuse.{HasLoaded, MayAnnounce}
use Rattle.ft_bank.specs.Rules.{Acted}
use Rattle.ft_bank.specs.TableNames.{table_id}
use Rattle.ft_bank.specs.Takings.{KeepsHeld, KeepsBut, Each, NotTable}
use Rattle.ft_bank.specs.SameBoxes.{SameBoxes}
use Rattle.ft_bank.proofs.BoxedSteps.{same_boxes}
use Rattle.ft_bank.proofs.Freeing.{IsAside, keeps_held, keeps_but}

-- the number of a pass is that of one of the shape's passes
pub number_small : (v : View) → ∥ IsReachable v ∥₁ → v.number ≤ 64
number_small v p =
    dite (dec_lt 64 v.number)
    (λ (big : 64 < v.number).
    absurd
    (∥∥₁_elim {P = ⊥} p (hlevel)
    (λ (x : IsReachable v).
    let f = fits v.shape x.0 x.2.0 in
    let n = number_low v.shape x.0 f.some_pass x.2.0 x.1 v x.2.1 in
    let m = f.passes in
    omega (arith, n, m, big))))
    (λ no. omega (arith, no))

-- the write number never falls
rises_one : (k : Shape) (e : Event) (es : List Event) → Valid k (e ∷ es) → word k es write_number ≤ word k (e ∷ es) write_number
rises_one k (did id v a) es valid =
    on_write_number k es id v (λ b. Valid k (did id v b ∷ es) → word k es write_number ≤ word k (did id v b ∷ es) write_number)
    (λ p x ok. let s = stays k es id v (Announce p x) ok.1.3 write_number tt (λ e. absurd (cc)) in omega (arith, s))
    (λ t f ok. let up = moves k es id v (Retire t f) ok.1.3 ∙ one_up (word k es write_number) ok.1.3.2 in omega (arith, up))
    (λ b calm ok. let s = (calm ok.1.3).drawn in omega (arith, s))
    a valid
rises_one k (forked id v) es valid = omega arith
rises_one k (sent id v given) es valid = omega arith
rises_one k (joined id v other w) es valid = omega arith

rises : (k : Shape) (newer older : List Event) → Valid k (newer ++ older) → word k older write_number ≤ word k (newer ++ older) write_number
rises k [] older valid = omega arith
rises k (e ∷ newer) older valid = let a = rises k newer older valid.0 in let b = rises_one k e (newer ++ older) valid in omega (arith, a, b)

-- the write number is 1 at the start
pub number_some : (v : View) (n : ℕ) → Acted v (WriteNumber n) → 0 < n
number_some v n d =
    let k = v.shape in
    let all : d.0 ++ [] ≡ d.0 = append-nil d.0 in
    let up = rises k d.0 [] (subst (Valid k) (sym all) d.2.0) in
    let end : word k (d.0 ++ []) write_number ≡ word k d.0 write_number = ap (λ (z : List Event). word k z write_number) all in
    let first : word k [] write_number ≡ 1 = refl in
    let found = d.2.1.2 in
    omega (arith, up, end, first, found)

may_low : (v : View) (x : ℕ) → MayAnnounce x v.log → Sure v (λ es. x ≤ word v.shape es write_number)
may_low v x may es id knows =
    ⊎_elim (λ (none : x ≡ 0). omega (arith, none))
    (λ (l : HasLoaded x v.log).
    let k = v.shape in
    let w = was k es knows.0 id v knows.1 l.newer (WriteNumber x) l.rest l.is in
    let found : x ≡ word k w.older write_number = w.tells in
    let up : word k w.older write_number ≤ word k es write_number = subst (λ (z : List Event). word k w.older write_number ≤ word k z write_number) w.split (rises k w.newer w.older (subst (Valid k) (sym w.split) knows.0)) in
    omega (arith, found, up)) may

pub announce_ready : (v : View) (j p x : ℕ) → p ≡ v.number → 0 < p → MayAnnounce x v.log → Ready v j (λ n. Announce p x)
announce_ready v j p x own some_one may es id knows small =
    let f = fits v.shape es knows.0 in
    let n = number_low v.shape es f.some_pass knows.0 id v knows.1 in
    let m = f.passes in
    (tt, (own, omega (arith, own, n), may_low v x may es id knows, some_one, omega (arith, own, n, m)))

pub announced_ready : (v : View) (j p : ℕ) → p < v.shape.passes → Ready v j (λ n. ReadAnnounced (p + 1) n)
announced_ready v j p low es id knows small = let m = (fits v.shape es knows.0).passes in (refl, (omega (arith, low), omega arith, omega (arith, low, m)))

pub retire_ready : (v : View) (j t : ℕ) → v.shape.passes * v.shape.calls < 2 ^ 46 → IsTableName v.shape t → stage t v.log ≡ 3 → 0 < debt v.log → Ready v j (λ n. Retire t n)
retire_ready v j t few table out owes es id knows small =
    let f = fits v.shape es knows.0 in
    let r = goals_room v.shape es f.some_pass knows.0 in
    let m = f.passes in
    (refl, (table, out, omega (arith, r, few, m), owes))

pub goal_ready : (v : View) (j t x : ℕ) → IsTableName v.shape t → stage t v.log ≡ 4 → x ≡ goal t v.log → Ready v j (λ n. PutHeader t x)
goal_ready v j t x table retired is es id knows small = (tt, (table, retired, is))

pub header_ready : (v : View) (j t : ℕ) → IsTableName v.shape t → Ready v j (λ n. ReadHeader t n)
header_ready v j t table es id knows small = (refl, table)

pub header_found : (v : View) (t n : ℕ) → IsTableName v.shape t → has_goal t v.log ≡ true → Acted v (ReadHeader t n) → (stage t v.log ≡ 4) × (n ≡ goal t v.log)
header_found v t n table has d = let h = goals_stand v.shape d.0 d.2.0 t table d.1 v d.2.1.0 has in (h.0, d.2.1.2 ∙ h.1)

write_number_aside : (f : ℕ) → IsAside (WriteNumber f)
write_number_aside f = record {
  lock = λ o b. refl;
  writing = λ o b. refl;
  committed = λ o b. refl;
  emptied = λ o b. refl;
  used = λ b. refl;
  left = λ n. refl;
  entry = λ es. refl;
  writes = λ cs. refl;
  apart = λ k es o z. z;
  inside = λ t' i e. absurd (cc);
  boxes = record { lock = λ o b. refl; unput = λ z. z; references = λ k b n before after. refl; state = λ b n. refl; local = λ b n. refl; taken = λ b l n. refl; places = λ b n. refl; uses = λ b n. refl; raised = λ b n. refl };
  box = λ b i e. absurd (cc);
}

pub write_number_keeps : (v : View) (f : ℕ) → Acted v (WriteNumber f) → KeepsBut Each v (view_after (WriteNumber f) v)
write_number_keeps v f d = keeps_but Each v (WriteNumber f) (write_number_aside f) (λ t' n' of. refl) d (λ n'. refl) (λ n'. refl)

announce_aside : (p x : ℕ) → IsAside (Announce p x)
announce_aside p x = record {
  lock = λ o b. refl;
  writing = λ o b. refl;
  committed = λ o b. refl;
  emptied = λ o b. refl;
  used = λ b. refl;
  left = λ n. refl;
  entry = λ es. refl;
  writes = λ cs. refl;
  apart = λ k es o z. z;
  inside = λ t' i e. absurd (cc);
  boxes = record { lock = λ o b. refl; unput = λ z. z; references = λ k b n before after. refl; state = λ b n. refl; local = λ b n. refl; taken = λ b l n. refl; places = λ b n. refl; uses = λ b n. refl; raised = λ b n. refl };
  box = λ b i e. absurd (cc);
}

pub announce_keeps : (v : View) (p x : ℕ) → Acted v (Announce p x) → KeepsHeld Each v (view_after (Announce p x) v)
announce_keeps v p x d = keeps_held Each v (Announce p x) (announce_aside p x) (λ t n of. refl) d

pub announce_boxes : (v : View) (p x : ℕ) → Acted v (Announce p x) → SameBoxes v (view_after (Announce p x) v)
announce_boxes v p x d = same_boxes v (Announce p x) (announce_aside p x).boxes d (announce_aside p x).box

announced_aside : (p f : ℕ) → IsAside (ReadAnnounced p f)
announced_aside p f = record {
  lock = λ o b. refl;
  writing = λ o b. refl;
  committed = λ o b. refl;
  emptied = λ o b. refl;
  used = λ b. refl;
  left = λ n. refl;
  entry = λ es. refl;
  writes = λ cs. refl;
  apart = λ k es o z. z;
  inside = λ t' i e. absurd (cc);
  boxes = record { lock = λ o b. refl; unput = λ z. z; references = λ k b n before after. refl; state = λ b n. refl; local = λ b n. refl; taken = λ b l n. refl; places = λ b n. refl; uses = λ b n. refl; raised = λ b n. refl };
  box = λ b i e. absurd (cc);
}

pub announced_keeps : (v : View) (p f : ℕ) → Acted v (ReadAnnounced p f) → KeepsBut Each v (view_after (ReadAnnounced p f) v)
announced_keeps v p f d = keeps_but Each v (ReadAnnounced p f) (announced_aside p f) (λ t' n' of. refl) d (λ n'. refl) (λ n'. refl)

retire_aside : (t f : ℕ) → IsAside (Retire t f)
retire_aside t f = record {
  lock = λ o b. refl;
  writing = λ o b. refl;
  committed = λ o b. refl;
  emptied = λ o b. refl;
  used = λ b. refl;
  left = λ n. refl;
  entry = λ es. refl;
  writes = λ cs. refl;
  apart = λ k es o z. z;
  inside = λ t' i e. absurd (cc);
  boxes = record { lock = λ o b. refl; unput = λ z. z; references = λ k b n before after. refl; state = λ b n. refl; local = λ b n. refl; taken = λ b l n. refl; places = λ b n. refl; uses = λ b n. refl; raised = λ b n. refl };
  box = λ b i e. absurd (cc);
}

pub retire_keeps : (v : View) (q : Table) (f : ℕ) → Acted v (Retire (table_id q) f) → KeepsHeld (NotTable q) v (view_after (Retire (table_id q) f) v)
retire_keeps v q f d = keeps_held (NotTable q) v (Retire (table_id q) f) (retire_aside (table_id q) f) (λ t n of. miss (table_id q) t 4 n (λ e. of (sym e))) d

pub retire_boxes : (v : View) (t f : ℕ) → Acted v (Retire t f) → SameBoxes v (view_after (Retire t f) v)
retire_boxes v t f d = same_boxes v (Retire t f) (retire_aside t f).boxes d (retire_aside t f).box

put_goal_aside : (t x : ℕ) → IsAside (PutHeader t x)
put_goal_aside t x = record {
  lock = λ o b. refl;
  writing = λ o b. refl;
  committed = λ o b. refl;
  emptied = λ o b. refl;
  used = λ b. refl;
  left = λ n. refl;
  entry = λ es. refl;
  writes = λ cs. refl;
  apart = λ k es o z. z;
  inside = λ t' i e. absurd (cc);
  boxes = record { lock = λ o b. refl; unput = λ z. z; references = λ k b n before after. refl; state = λ b n. refl; local = λ b n. refl; taken = λ b l n. refl; places = λ b n. refl; uses = λ b n. refl; raised = λ b n. refl };
  box = λ b i e. absurd (cc);
}

pub put_goal_keeps : (v : View) (t x : ℕ) → Acted v (PutHeader t x) → KeepsBut Each v (view_after (PutHeader t x) v)
put_goal_keeps v t x d = keeps_but Each v (PutHeader t x) (put_goal_aside t x) (λ t' n' of. refl) d (λ n'. refl) (λ n'. refl)

header_aside : (t f : ℕ) → IsAside (ReadHeader t f)
header_aside t f = record {
  lock = λ o b. refl;
  writing = λ o b. refl;
  committed = λ o b. refl;
  emptied = λ o b. refl;
  used = λ b. refl;
  left = λ n. refl;
  entry = λ es. refl;
  writes = λ cs. refl;
  apart = λ k es o z. z;
  inside = λ t' i e. absurd (cc);
  boxes = record { lock = λ o b. refl; unput = λ z. z; references = λ k b n before after. refl; state = λ b n. refl; local = λ b n. refl; taken = λ b l n. refl; places = λ b n. refl; uses = λ b n. refl; raised = λ b n. refl };
  box = λ b i e. absurd (cc);
}

pub header_keeps : (v : View) (t f : ℕ) → Acted v (ReadHeader t f) → KeepsBut Each v (view_after (ReadHeader t f) v)
header_keeps v t f d = keeps_but Each v (ReadHeader t f) (header_aside t f) (λ t' n' of. refl) d (λ n'. refl) (λ n'. refl)
