-- What a try for a lock leaves.
use Rattle.std.proofs.Common.{◌≡◌, ◌≢◌, ◌<◌, ◌+◌, ◌==◌, ℕ, Bool, true, false, cond, List, [], ◌∷◌, ◌++◌, inl, inr, ⊎_elim, refl, sym, ap, ◌∙◌, subst, arith, append_assoc}
use Rattle.std.proofs.lemmas.Bool.{true≢false, eqb-true, ne_eqb}
use Rattle.std.specs.Prelude.{if◌then◌else◌}
use Rattle.ft_bank.specs.Locks.{KeepsOthers, KnowsSame}
use Rattle.ft_bank.specs.SameBoxes.{SameMade}
use Rattle.ft_section.specs.Locking.{OnlyLocked, TookLocks, FoundOwner, at_one}
use Rattle.ft_section.proofs.InCalls.{one_if, counted}
use Rattle.ft_trace.specs.declared.Act.{Act}
use Rattle.ft_trace.specs.declared.Act.TheVariants.{Lock}
use Rattle.ft_trace.specs.declared.Snap.{Snap}
use Rattle.ft_trace.specs.declared.View.{View}
use Rattle.ft_trace.specs.Addresses.{container_count}
use Rattle.ft_trace.specs.Acts.{has_lock, view_after}
use Rattle.ft_trace.specs.Holds.{held_unboxed, known_state}
use Rattle.ft_trace.specs.Owners.{is_owner_in, had_locks, found_owners, FindsMore, LocksOnly}
use Rattle.ft_trace.specs.Pictures.{Represents}
use Rattle.ft_trace.proofs.Cases.{miss}
use Rattle.ft_trace.proofs.Owning.{one_or, is_first, found_stays, grown_finds_more}

-- a try for a lock that the pass doesn't have
only_tried : (v : View) (o f : ℕ) (s : Snap) → has_lock o v.log ≡ false → KeepsOthers o v (view_after (Lock o f s) v) → OnlyLocked v (view_after (Lock o f s) v)
only_tried v o f s free keeps =
    let w : View = view_after (Lock o f s) v in
    let grew : w.log ≡ (Lock o f s ∷ []) ++ v.log = refl in
    let made : SameMade v w = record { state = λ b. refl; local = λ b. refl; taken = λ b. refl; places = λ b. refl; uses = λ b. refl; raised = λ b. refl } in
    let knows : (p : ℕ) → p < container_count v.shape → has_lock p v.log ≡ true → has_lock p w.log ≡ true → KnowsSame p v w = λ p low had has. keeps p low (λ e. true≢false (sym had ∙ (ap (λ (z : ℕ). has_lock z v.log) e ∙ free))) had in
    search

gains : (b h : Bool) → (b ≡ true → h ≡ false) → one_if (cond b true h) ≡ one_if h + one_if b
gains true true apart = absurd (true≢false (apart refl))
gains true false apart = refl
gains false h apart = omega arith

stays : (b h : Bool) → h ≡ true → cond b true h ≡ true
stays true h had = refl
stays false h had = had

-- the lock that was taken now, if one was
pub at_one_is : (o : ℕ) (now : Bool) (r : ℕ) → (if now then at_one o r else 0) ≢ 0 → o ≡ r
at_one_is o true r some_one = eqb-true o r (counted (o == r) some_one)
at_one_is o false r some_one = absurd (some_one refl)

only_one : (v : View) (o : ℕ) (s : Snap) → LocksOnly (λ p. at_one o p ≢ 0) v (view_after (Lock o 0 s) v)
only_one v o s p q is =
    ⊎_elim (λ (z : ((o == p) ≡ true) × ((v.number == q) ≡ true)). inr (sym (eqb-true v.number q z.1), λ none. let e : at_one o p ≡ 1 = ap one_if z.0 in omega (arith, e, none)))
    (λ (z : is_owner_in p q (had_locks v.number v.log) ≡ true). inl z)
    (one_or p q (o == p) (v.number == q) (is_owner_in p q (had_locks v.number v.log)) is)

-- the lock was free
pub took_lock : (v : View) (o : ℕ) (s : Snap) → has_lock o v.log ≡ false → o < container_count v.shape → KeepsOthers o v (view_after (Lock o 0 s) v) → Represents v.shape.texts (held_unboxed o (view_after (Lock o 0 s) v)) (known_state o (view_after (Lock o 0 s) v)) → TookLocks (at_one o) v (view_after (Lock o 0 s) v)
took_lock v o s free low keeps stands =
    let same : (p : ℕ) → at_one o p ≢ 0 → o ≡ p = λ p some_one. eqb-true o p (counted (o == p) some_one) in
    record {
      locked = only_tried v o 0 s free keeps;
      keeps = λ p had. stays (o == p) (has_lock p v.log) had;
      count = λ p. gains (o == p) (has_lock p v.log) (λ e. subst (λ (z : ℕ). has_lock z v.log ≡ false) (eqb-true o p e) free);
      low = λ p some_one. subst (λ (z : ℕ). z < container_count v.shape) (same p some_one) low;
      stands = λ p some_one. subst (λ (z : ℕ). Represents v.shape.texts (held_unboxed z (view_after (Lock o 0 s) v)) (known_state z (view_after (Lock o 0 s) v))) (same p some_one) stands;
      begun = refl;
      only = only_one v o s;
    }

same_has : (b c h : Bool) → c ≡ false → cond b (cond c true h) h ≡ h
same_has true true h e = absurd (true≢false e)
same_has true false h e = refl
same_has false c h e = refl

-- another pass has it
pub tried_lock : (v : View) (o f : ℕ) (s : Snap) → has_lock o v.log ≡ false → f ≢ 0 → KeepsOthers o v (view_after (Lock o f s) v) → TookLocks (λ p. 0) v (view_after (Lock o f s) v)
tried_lock v o f s free found keeps =
    let same : (p : ℕ) → has_lock p (view_after (Lock o f s) v).log ≡ has_lock p v.log = λ p. same_has (o == p) (f == 0) (has_lock p v.log) (ne_eqb f 0 found) in
    record {
      locked = only_tried v o f s free keeps;
      keeps = λ p had. same p ∙ had;
      count = λ p. let e = ap one_if (same p) in omega (arith, e);
      low = λ p some_one. absurd (some_one refl);
      stands = λ p some_one. absurd (some_one refl);
      begun = refl;
      only = λ p q is. inl (sym (ap (is_owner_in p q) (miss f 0 (record { container = o; pass = v.number } ∷ had_locks v.number v.log) (had_locks v.number v.log) found)) ∙ is);
    }

-- what was found in a later part of a call was found in the call
pub later_found : (u v w : View) (o q : ℕ) → OnlyLocked u v → FoundOwner o q v w → FoundOwner o q u w
later_found u v w o q l f =
    record {
      newer = f.newer;
      snap = f.snap;
      older = f.older ++ l.newer;
      is = f.is ∙ ap (λ (x : List Act). f.newer ++ Lock o (q + 1) f.snap ∷ x) (ap (λ (x : List Act). f.older ++ x) l.grew ∙ sym (append_assoc f.older l.newer u.log));
      other = λ e. f.other (e ∙ sym l.number);
    }

-- what was found is found for good
pub found_is : (o q : ℕ) (v w : View) → FoundOwner o q v w → is_owner_in o (q + 1) (found_owners w.log) ≡ true
found_is o q v w f =
    let rest = found_owners (f.older ++ v.log) in
    let here : found_owners (Lock o (q + 1) f.snap ∷ (f.older ++ v.log)) ≡ record { container = o; pass = q + 1 } ∷ rest =
    miss (q + 1) 0 rest (record { container = o; pass = q + 1 } ∷ rest) (λ e. absurd (omega (arith, e))) in
    ap (λ (l : List Act). is_owner_in o (q + 1) (found_owners l)) f.is
    ∙ found_stays o (q + 1) f.newer (Lock o (q + 1) f.snap ∷ (f.older ++ v.log)) (ap (is_owner_in o (q + 1)) here ∙ is_first o (q + 1) rest)

-- and what had been found before
pub locked_finds_more : (v w : View) → OnlyLocked v w → FindsMore v w
locked_finds_more v w l = grown_finds_more v w l.newer l.grew
