-- What a pass with the floor finds is what its log says beforehand.
use Rattle.std.proofs.Common.{◌≡◌, ◌≢◌, ◌<◌, ℕ, Bool, true, false, cond, refl, sym, ap, ◌∙◌, subst, get_or-set_other}
use mathlib.Core.Logic.{dite}
use native.Mathlib.Decide.{ℕ_discrete}
use Rattle.std.specs.Prelude.{Option, Some, None, if◌then◌else◌}
use Rattle.std.proofs.lemmas.Bool.{eq-eqb, ne_eqb}
use Rattle.ft_bank.proofs.Floors.{floor_found}
use Rattle.ft_section.specs.declared.answers.Began.TheVariants as began
use Rattle.ft_section.specs.declared.answers.Got.TheVariants as got
use Rattle.ft_section.specs.declared.answers.Resumed.TheVariants as resumed
use Rattle.ft_section.specs.declared.answers.Stamp.{Stamp}
use Rattle.ft_section.specs.Floors.{floor_word, owner_named, owner_of, owner_or, began_by, got_by, resumed_by, FindsSame}
use Rattle.ft_trace.specs.declared.Act.TheVariants.{Lock, ReadCounter}
use Rattle.ft_trace.specs.declared.Snap.{Snap}
use Rattle.ft_trace.specs.declared.View.{View}
use Rattle.ft_trace.specs.Acts.{has_lock, view_after, floor_words}
use Rattle.ft_trace.specs.Addresses.{Word, counter, lock_of, at, container_count, Inside}
use Rattle.ft_trace.specs.Traces.{IsReachable}
use Rattle.ft_trace.proofs.Addresses.{at_apart}

-- the number that a load of the counter gave
pub counter_known : (v : View) (n : ℕ) → ∥ IsReachable (view_after (ReadCounter n) v) ∥₁ → v.has_floor ≡ true → n ≡ floor_word counter v
counter_known v n possible has = floor_found v (ReadCounter n) n (floor_word counter v) (λ p. p.0) possible has

-- whose lock it was, where the pass lacked it
pub tried_known : (v : View) (o f : ℕ) (s : Snap) → has_lock o v.log ≡ false → ∥ IsReachable (view_after (Lock o f s) v) ∥₁ → v.has_floor ≡ true → owner_named f ≡ owner_of o v
tried_known v o f s free possible has =
    let found : f ≡ floor_word (lock_of o) v = floor_found v (Lock o f s) f (floor_word (lock_of o) v) (λ p. p.0) possible has in
    ap owner_named found ∙ sym (ap (λ (b : Bool). if b then None else owner_named (floor_word (lock_of o) v)) free)

-- a pass has its own locks itself
pub own_known : (v : View) (o : ℕ) → has_lock o v.log ≡ true → owner_of o v ≡ None
own_known v o had = ap (λ (b : Bool). if b then None else owner_named (floor_word (lock_of o) v)) had

-- the word of another container's lock, and the counter, are as they were
other_floor : (v : View) (o f : ℕ) (s : Snap) (x : Word) → o < container_count v.shape → Inside v.shape x → x ≢ lock_of o → floor_word x (view_after (Lock o f s) v) ≡ floor_word x v
other_floor v o f s x low inside apart =
    get_or-set_other (floor_words v.shape v.number v.log) (at v.shape (lock_of o)) (at v.shape x) _ 0 (λ e. apart (at_apart v.shape x (lock_of o) inside low e))

one_lock : (o p : ℕ) → lock_of p ≡ lock_of o → p ≡ o
one_lock o p e = cc

lock_counter : (o : ℕ) → counter ≢ lock_of o
lock_counter o e = cc

-- once it has taken a lock that was free
pub took_finds : (v : View) (o : ℕ) (s : Snap) → has_lock o v.log ≡ false → o < container_count v.shape → ∥ IsReachable (view_after (Lock o 0 s) v) ∥₁ → FindsSame v (view_after (Lock o 0 s) v)
took_finds v o s free low possible has =
    let w = view_after (Lock o 0 s) v in
    let owners : (p : ℕ) → p < container_count v.shape → owner_of p w ≡ owner_of p v = λ p in_bank.
    dite (ℕ_discrete o p)
    (λ (e : o ≡ p).
    let here : has_lock p w.log ≡ true = ap (λ (b : Bool). cond b true (has_lock p v.log)) (eq-eqb o p e) in
    own_known w p here ∙ subst (λ (z : ℕ). None ≡ owner_of z v) e (tried_known v o 0 s free possible has))
    (λ ne.
    let here : has_lock p w.log ≡ has_lock p v.log = ap (λ (b : Bool). cond b true (has_lock p v.log)) (ne_eqb o p ne) in
    let same : floor_word (lock_of p) w ≡ floor_word (lock_of p) v = other_floor v o 0 s (lock_of p) low in_bank (λ e. ne (sym (one_lock o p e))) in
    ap (λ (b : Bool). if b then None else owner_named (floor_word (lock_of p) w)) here ∙ ap (λ (n : ℕ). if has_lock p v.log then None else owner_named n) same) in
    (has, owners, other_floor v o 0 s counter low tt (lock_counter o))

-- nobody has the lock of o, so the rest decides
pub owner_none : (o : ℕ) (owner : Option ℕ) (rest : Option (ℕ × ℕ)) → None ≡ owner_or o owner None → owner_or o owner rest ≡ rest
owner_none o None rest none = refl
owner_none o (Some q) rest none = absurd cc

-- a `begin` waits where its locks do
pub not_yet_began : (n o q : ℕ) (first : Option (ℕ × ℕ)) → got.NotYet o q ≡ got_by first → began.NotYet o q ≡ began_by n first
not_yet_began n o q None is = absurd cc
not_yet_began n o q (Some found) is = cc

-- and is entered where they are there
pub entered_had : (n : ℕ) (s : Stamp) (first : Option (ℕ × ℕ)) → began.Entered s ≡ began_by n first → got.Have ≡ got_by first
entered_had n s None is = refl
entered_had n s (Some found) is = absurd cc

-- the innermost section is there where nobody else has its locks, and waits where somebody has
pub back_had : (m mark : Option ℕ) (first : Option (ℕ × ℕ)) → resumed.Back mark ≡ resumed_by m first → first ≡ None
back_had m mark None is = refl
back_had m mark (Some found) is = absurd cc

pub not_yet_back : (m : Option ℕ) (o q : ℕ) (first : Option (ℕ × ℕ)) → resumed.NotYet o q ≡ resumed_by m first → first ≡ Some (o, q)
not_yet_back m o q None is = absurd cc
not_yet_back m o q (Some found) is =
    let a : o ≡ found.0 = cc in
    let b : q ≡ found.1 = cc in
    λ i. Some (sym a i, sym b i)
