-- What callers have still that rest, take tokens and are woken.
use Rattle.std.proofs.Common.{◌≡◌, ◌≢◌, ◌≤◌, ◌+◌, ℕ, Bool, true, false, cond, [], refl, sym, ap, ◌∙◌, subst, arith, le_trans, append-nil, inl, inr}
use Rattle.std.specs.Prelude.{max, if◌then◌else◌, ◌⊎◌}
use Rattle.std.proofs.Math.Logic.{∥∥₁_elim}
use Rattle.std.proofs.Math.Nat.{le-max_left, le-max_right, max-le, ℕ_set}
use Rattle.ft_trace.specs.Boxes.{HasMergedBoxes, IsSettled}
use Rattle.ft_trace.specs.declared.Act.TheVariants.{ReadCounter, TakeFloor}
use Rattle.ft_trace.specs.declared.Shape.{Shape}
use Rattle.ft_trace.specs.declared.Snap.{Snap}
use Rattle.ft_trace.specs.declared.View.{View}
use Rattle.ft_trace.specs.Acts.{announces, both, floor_known, floor_words, has_lock, note, view_after, seen_writes, sender, shown, spent, presence_of}
use Rattle.ft_trace.specs.Floors.{at_floor}
use Rattle.ft_trace.specs.Traces.{IsFree, IsQuiet, IsReachable, run}
use Rattle.ft_trace.proofs.Cases.{here}
use Rattle.ft_trace.proofs.Floored.{floored, tokens_total}
use Rattle.ft_trace.proofs.Seeing.{seen_up}
use Rattle.ft_trace.proofs.Totals.{total_set}
use Rattle.ft_bank.specs.declared.tokens.Tokens.{Tokens}
use Rattle.ft_bank.specs.Floors.{carried, rests, stack_at_rest}
use Rattle.ft_bank.specs.Passes.{view, IsPassOf}
use Rattle.ft_bank.specs.PassSections.{Stack, nothing_taken, noted_in, stack_of, taken_in}
use Rattle.ft_bank.specs.SameBoxes.{HoldsFew}
use Rattle.ft_bank.specs.Slips.{slip_with}
use Rattle.ft_search.proofs.Puts.{few_done}
use Rattle.ft_section.specs.Ready.{IsReady, IsStill}
use Rattle.ft_engine.specs.declared.caller.Caller.{Caller}
use Rattle.ft_engine.specs.declared.engine.Engine.{Engine}
use Rattle.ft_engine.specs.declared.resting.RestingCaller.{RestingCaller}
use Rattle.ft_engine.specs.Callers.{IsCallerOf}
use Rattle.ft_engine.specs.Resting.{HandsOn, HasFloor, IsAsBefore, IsRestDone, IsWoken, RestsAs}
use Rattle.ft_engine.proofs.Callers.{HasSame, ready_of, steady_caller, steady_kept, steady_work}
use Rattle.ft_engine.proofs.GivingUp.{in_call_of}
use Rattle.ft_engine.proofs.KeptLists.{TakesIn}
use Rattle.ft_engine.proofs.PassesAfter.{same_done, IsSteady}

-- ---- what a pass knows

add_none : (n : ℕ) → n + 0 ≡ n
add_none n = omega arith

-- whoever took tokens in has seen what it had seen
seen_both : (v t : View) → seen_writes v ≤ seen_writes (both v t)
seen_both v t =
    let theirs = seen_writes t in
    max-le (le_trans (le-max_left v.learnt theirs) (le-max_left (max v.learnt theirs) (shown v.log))) (le-max_right (max v.learnt theirs) (shown v.log))

-- and what their giver had seen
seen_given : (v t : View) → t.learnt ≤ seen_writes (both v t)
seen_given v t =
    let theirs = seen_writes t in
    le_trans (le_trans (le-max_left t.learnt (shown t.log)) (le-max_right v.learnt theirs)) (le-max_left (max v.learnt theirs) (shown v.log))

-- the pass has taken tokens
pub gathered_steady : (v t : View) (n : ℕ) → t ≡ slip_with t.tokens t.learnt t.floor t.told → IsStill v → IsSteady v (view_after (ReadCounter n) (both v t))
gathered_steady v t n blank s =
    let u = slip_with t.tokens t.learnt t.floor t.told in
    subst (λ (z : View). IsSteady v (view_after (ReadCounter n) (both v z))) (sym blank)
    (record {
      number = refl;
      next = refl;
      parts = add_none v.parts;
      shape = refl;
      lists = append-nil v.lists;
      entries = refl;
      left = add_none v.left;
      locks = λ o. refl;
      begun = refl;
      cursors = λ k. refl;
      owners = record { had = refl; found = refl };
      seen = le_trans (seen_both v u) (seen_up (ReadCounter n) (both v u));
      merged = λ merged. merged;
      still = record { even = s.even; hands = s.hands; used = s.used; owes = s.owes; flight = s.flight; boxes = same_done s.boxes (λ b. refl) (λ b. refl) (λ b. refl) (λ b. refl) (λ b. refl) (λ b. refl); stands = s.stands };
    })

-- it has taken the floor
pub floored_steady : (v : View) (n : ℕ) (snap : Snap) → IsStill v → IsSteady v (view_after (TakeFloor n snap) v)
floored_steady v n snap s = record {
  number = refl;
  next = refl;
  parts = refl;
  shape = refl;
  lists = refl;
  entries = refl;
  left = refl;
  locks = λ o. refl;
  begun = refl;
  cursors = λ k. refl;
  owners = record { had = refl; found = refl };
  seen = seen_up (TakeFloor n snap) v;
  merged = λ merged. merged;
  still = record { even = s.even; hands = s.hands; used = s.used; owes = s.owes; flight = s.flight; boxes = same_done s.boxes (λ b. refl) (λ b. refl) (λ b. refl) (λ b. refl) (λ b. refl) (λ b. refl); stands = s.stands };
}

-- it had given its tokens away, has taken others, and the floor
pub woken_steady : (v t : View) (k n : ℕ) (snap : Snap) → t ≡ slip_with t.tokens t.learnt t.floor t.told → IsStill v → IsSteady v (view_after (TakeFloor n snap) (both (sender k v) t))
woken_steady v t k n snap blank s =
    let u = slip_with t.tokens t.learnt t.floor t.told in
    subst (λ (z : View). IsSteady v (view_after (TakeFloor n snap) (both (sender k v) z))) (sym blank)
    (record {
      number = refl;
      next = refl;
      parts = add_none v.parts;
      shape = refl;
      lists = append-nil v.lists;
      entries = refl;
      left = add_none v.left;
      locks = λ o. refl;
      begun = refl;
      cursors = λ j. refl;
      owners = record { had = refl; found = refl };
      seen = le_trans (seen_both (sender k v) u) (seen_up (TakeFloor n snap) (both (sender k v) u));
      merged = λ merged. merged;
      still = record { even = s.even; hands = s.hands; used = s.used; owes = s.owes; flight = s.flight; boxes = same_done s.boxes (λ b. refl) (λ b. refl) (λ b. refl) (λ b. refl) (λ b. refl) (λ b. refl); stands = s.stands };
    })

-- ---- a caller

pub still_of : (e : Engine) (c : Caller) → IsCallerOf e c → IsStill (view c.pass)
still_of e c is = (in_call_of e.bank c.pass c.cursors.items c.flight is.inside).1.still

-- so it may take the steps of a look
pub settled_of : (e : Engine) (c : Caller) → IsCallerOf e c → IsSettled (view c.pass).log
settled_of e c is = (still_of e c is).boxes.settled

pub few_of : (e : Engine) (c : Caller) → IsCallerOf e c → HoldsFew (view c.pass)
few_of e c is = few_done (view c.pass).shape (view c.pass) refl (still_of e c is).boxes

-- a pass may rest whatever its caller is in
pub quiet_of : (e : Engine) (c : Caller) → IsCallerOf e c → IsQuiet (view c.pass)
quiet_of e c is = let s = still_of e c is in (s.even, (λ t one. not_one (s.hands t) one), s.flight)
  where
    not_one : {n : ℕ} → (n ≡ 0) ⊎ (n ≡ 4) → n ≡ 1 → ⊥
    not_one (inl a) b = omega (arith, a, b)
    not_one (inr a) b = omega (arith, a, b)

pub as_before : (c d : Caller) → HasSame c d → stack_of d.pass ≡ stack_of c.pass → IsSteady (view c.pass) (view d.pass) → announces (view d.pass).log ≡ announces (view c.pass).log → presence_of (view d.pass).log ≡ presence_of (view c.pass).log → IsAsBefore c d
as_before c d same stack steady announced presence = record { same = steady_work c d same stack steady; announced = announced; presence = presence; kept = λ mine kept. steady_kept c d mine steady stack same.flight kept }

-- ---- rest

pub hands_on : (c : Caller) (t : Tokens) → carried t ≡ note (view c.pass).tokens (view c.pass) → HandsOn c t
hands_on c t is =
    let v = view c.pass in
    record {
      tokens = ap (λ (z : View). z.tokens) is;
      seen = ap (λ (z : View). z.learnt) is;
      words = λ has.
          ap (λ (z : View). z.floor) is
          ∙ (here v.tokens v.tokens (floor_known v) [] refl ∙ ap (λ (b : Bool). cond b (floor_words v.shape v.number v.log) v.floor) has);
    }

-- no pass has more tokens than there are
pub tokens_low : (v : View) → IsReachable v → v.tokens ≤ v.shape.passes
tokens_low v p =
    let cut = total_set (λ (u : View). u.tokens) (run v.shape p.0).views p.1 v spent p.2.1 in
    let all = tokens_total v.shape p.0 p.2.0 in
    omega (arith, cut, all)

-- who has the floor has all tokens
pub hands_all : (k : Shape) (c : Caller) (t : Tokens) → (view c.pass).shape ≡ k → carried t ≡ note (view c.pass).tokens (view c.pass) → HasFloor c → (carried t).tokens ≡ k.passes
hands_all k c t shape is has =
    let v = view c.pass in
    ap (λ (z : View). z.tokens) is
    ∙ (∥∥₁_elim c.pass.possible (ℕ_set v.tokens v.shape.passes) (λ p. ((floored v.shape p.0 p.2.0 p.1 v p.2.1).has has).0) ∙ ap (λ (z : Shape). z.passes) shape)

-- ---- waking

module _ (e : Engine) (c : Caller) (r : RestingCaller) (t : Tokens) (d : Caller) (n : ℕ) (snap : Snap) (is : IsCallerOf e c) (at_rest : RestsAs c r) (seen : view d.pass ≡ view_after (TakeFloor n snap) (both (rests r.pass) (carried t))) (stack : stack_of d.pass ≡ stack_at_rest r.pass) (same : HasSame c d) where
  woken_view : view d.pass ≡ view_after (TakeFloor n snap) (both (sender (view c.pass).tokens (view c.pass)) (carried t))
  woken_view = seen ∙ ap (λ (z : View). view_after (TakeFloor n snap) (both z (carried t))) at_rest.pass

  woken_is_steady : IsSteady (view c.pass) (view d.pass)
  woken_is_steady = subst (IsSteady (view c.pass)) (sym woken_view) (woken_steady (view c.pass) (carried t) (view c.pass).tokens n snap t.blank (still_of e c is))

  woken_stack : stack_of d.pass ≡ stack_of c.pass
  woken_stack = stack ∙ at_rest.sections

  pub woken_caller : IsPassOf e.bank d.pass → IsCallerOf e d
  woken_caller pass = steady_caller e c d is same pass woken_stack woken_is_steady

  pub woken_before : IsAsBefore c d
  woken_before = as_before c d same woken_stack woken_is_steady (ap (λ (z : View). announces z.log) woken_view) (ap (λ (z : View). presence_of z.log) woken_view)

pub woken_has : (r : View) (t : Tokens) (d : Caller) (n : ℕ) (snap : Snap) → view d.pass ≡ view_after (TakeFloor n snap) (both r (carried t)) → ((carried t).floor ≢ [] → snap.words ≡ (carried t).floor) → IsWoken t d
woken_has r t d n snap is brought =
    let now : floor_words (view d.pass).shape (view d.pass).number (view d.pass).log ≡ snap.words = ap (λ (z : View). floor_words z.shape z.number z.log) is in
    record {
      floor = ap (λ (z : View). z.has_floor) is;
      now = now ∙ sym (ap (λ (z : View). at_floor z.log) is);
      words = λ some_words. now ∙ brought some_words;
      seen = subst (λ (z : View). (carried t).learnt ≤ seen_writes z) (sym is) (le_trans (seen_given r (carried t)) (seen_up (TakeFloor n snap) (both r (carried t))));
    }

-- ---- a caller that rests is taken in

no_lock : (b : Bool) → ◌≡◌ {A = ℕ} 0 (if b then 1 else 0) → b ≡ false
no_lock true e = absurd (omega (arith, e))
no_lock false e = refl

pub rest_free : (e : Engine) (c : Caller) (r : RestingCaller) → IsCallerOf e c → RestsAs c r → IsRestDone r → IsFree (rests r.pass)
rest_free e c r is at_rest done =
    let v = view c.pass in
    let ready : IsReady e.bank c.pass = ready_of e c is (sym at_rest.flight ∙ done.idle) in
    let s = ready.inside.1.still in
    let none = sym (ap (λ (z : Stack). z.sections) at_rest.sections) ∙ done.sections in
    let locks : (o : ℕ) → has_lock o v.log ≡ false = λ o.
    no_lock (has_lock o v.log) (sym (ap (λ sections. noted_in o sections + taken_in o nothing_taken) none) ∙ (sym (ap (λ own. noted_in o (stack_of c.pass).sections + taken_in o own) ready.own) ∙ ready.inside.1.locks o)) in
    let offline = sym (ap (λ (z : View). announces z.log) at_rest.pass) ∙ done.offline in
    subst IsFree (sym at_rest.pass) (locks, s.hands, s.used, s.flight, s.owes, offline, s.boxes, subst (λ (z : View). HasMergedBoxes z.log) at_rest.pass done.merged)

pub rest_in : (v w : View) (c : Caller) (r : RestingCaller) (n : ℕ) → RestsAs c r → w ≡ view_after (ReadCounter n) (both v (rests r.pass)) → TakesIn v (view c.pass) w
rest_in v w c r n at_rest is =
    let u = view c.pass in
    subst (TakesIn v u) (sym (is ∙ ap (λ (z : View). view_after (ReadCounter n) (both v z)) at_rest.pass)) (record { number = refl; entries = refl; lists = refl; had = refl; found = refl; told = refl; presence = refl; cursors = λ k. refl })
