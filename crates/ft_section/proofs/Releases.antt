-- What letting locks go leaves.
use Rattle.std.proofs.Common.{◌≡◌, ◌≢◌, ◌<◌, ◌+◌, ◌==◌, ◌||◌, ◌&&◌, ℕ, Bool, true, false, cond, List, [], ◌∷◌, ◌++◌, map, inl, inr, ⊎_elim, refl, sym, ap, ◌∙◌, subst, arith, append_assoc}
use Rattle.std.specs.Prelude.{if◌then◌else◌}
use Rattle.std.proofs.lemmas.Bool.{false≢true, eqb-true, eq-eqb, ne_eqb}
use Rattle.ft_bank.specs.declared.sections.OpenSection.{OpenSection}
use Rattle.ft_bank.specs.declared.sections.Taking.{Taking}
use Rattle.ft_bank.specs.SameBoxes.{SameMade}
use Rattle.ft_bank.proofs.BoxedSteps.{made_same, made_then}
use Rattle.ft_bank.specs.PassSections.{noted_in, taken_in}
use Rattle.ft_section.specs.Ready.{AreBegun, IsBegun}
use Rattle.ft_section.specs.Locking.{OnlyLocked, LetGo, at_one}
use Rattle.ft_section.proofs.Notes.{noted-append}
use Rattle.ft_section.proofs.InCalls.{one_if, has_counted, counted_has}
use Rattle.ft_trace.specs.declared.Act.{Act}
use Rattle.ft_trace.specs.declared.Act.TheVariants.{Unlock}
use Rattle.ft_trace.specs.declared.Shape.{Shape}
use Rattle.ft_trace.specs.declared.View.{View}
use Rattle.ft_trace.specs.Addresses.{container_count}
use Rattle.ft_trace.specs.Acts.{has_lock, view_after}
use Rattle.ft_trace.specs.BegunSections.{Begun, begun, without, is_among}
use Rattle.ft_trace.proofs.Owning.{same_owners, owners_then}

-- one lock after others
pub only_then : (u v w : View) → OnlyLocked u v → OnlyLocked v w → ((p : ℕ) → has_lock p u.log ≡ true → has_lock p w.log ≡ true → has_lock p v.log ≡ true) → OnlyLocked u w
only_then u v w l m between =
    record {
      newer = m.newer ++ l.newer;
      grew = m.grew ∙ (ap (λ (x : List Act). m.newer ++ x) l.grew ∙ sym (append_assoc m.newer l.newer u.log));
      number = m.number ∙ l.number;
      next = m.next ∙ l.next;
      parts = m.parts ∙ l.parts;
      left = m.left ∙ l.left;
      shape = m.shape ∙ l.shape;
      entries = m.entries ∙ l.entries;
      cursors = λ n. m.cursors n ∙ l.cursors n;
      tokens = m.tokens ∙ l.tokens;
      learnt = m.learnt ∙ l.learnt;
      lists = m.lists ∙ l.lists;
      floor = m.floor ∙ l.floor;
      since = m.since ∙ l.since;
      writes = λ p. m.writes p ∙ l.writes p;
      committed = λ p. m.committed p ∙ l.committed p;
      emptied = λ p. m.emptied p ∙ l.emptied p;
      hands = λ t. m.hands t ∙ l.hands t;
      announced = m.announced ∙ l.announced;
      used = m.used ∙ l.used;
      debt = m.debt ∙ l.debt;
      owes = m.owes ∙ l.owes;
      flight = m.flight ∙ l.flight;
      references = λ b. m.references b ∙ l.references b;
      made = made_then u v w l.made m.made;
      stays_online = λ is. m.stays_online (l.stays_online is);
      knows = λ p low had has.
          let then_has = between p had has in
          let a = l.knows p low had then_has in
          let b = m.knows p (subst (λ (k : Shape). p < container_count k) (sym l.shape) low) then_has has in
          (b.0 ∙ a.0, b.1 ∙ a.1, b.2 ∙ a.2);
    }

pub only_same : (v : View) → OnlyLocked v v
only_same v =
    let grew : v.log ≡ [] ++ v.log = refl in
    let made = made_same v in
    search

only_unlocked : (v : View) (o : ℕ) → OnlyLocked v (view_after (Unlock o) v)
only_unlocked v o =
    let grew : (view_after (Unlock o) v).log ≡ (Unlock o ∷ []) ++ v.log = refl in
    let made : SameMade v (view_after (Unlock o) v) = record { state = λ b. refl; local = λ b. refl; taken = λ b. refl; places = λ b. refl; uses = λ b. refl; raised = λ b. refl } in
    search

-- a section that has the lock of o isn't one that no section notes
begun_apart : (o : ℕ) (sections : List OpenSection) (s : OpenSection) (b : Begun) → noted_in o sections ≡ 0 → IsBegun sections s b → IsBegun sections s (without o b)
begun_apart o sections s b none is =
    record {
      containers = is.containers;
      kept = λ marks.
          let k = is.kept marks in
          let apart : (p : ℕ) → noted_in p sections ≡ 1 → (p == o) ≡ false = λ p one. ne_eqb p o (λ e. let z = ap (λ (x : ℕ). noted_in x sections) e in omega (arith, z, one, none)) in
          let among : is_among o b.containers ≡ false = is.containers o ∙ (ap (λ (x : Bool). x || (s.locks.upper == o)) (apart s.locks.lower k.1) ∙ apart s.locks.upper k.2) in
          (ap (λ (x : Bool). cond x false b.held) among ∙ k.0, k.1, k.2);
    }

begun_after : (o : ℕ) (bs : List Begun) (sections : List OpenSection) → noted_in o sections ≡ 0 → AreBegun sections bs → AreBegun sections (map (without o) bs)
begun_after o [] sections none a = a
begun_after o (b ∷ bs) sections none a =
    ⊎_elim (λ (nil : sections ≡ []). inl nil)
    (λ (x : (outer : List OpenSection) × (s : OpenSection) × (sections ≡ outer ++ s ∷ []) × IsBegun sections s b × AreBegun outer bs).
    let cut = ap (noted_in o) x.2 ∙ noted-append o x.0 (x.1 ∷ []) in
    let outer_none : noted_in o x.0 ≡ 0 = omega (arith, cut, none) in
    inr (x.0, x.1, x.2, begun_apart o sections x.1 b none x.3, begun_after o bs x.0 outer_none x.4)) a

go_count : (b h : Bool) → (b ≡ true → h ≡ true) → one_if (cond b false h) + one_if b ≡ one_if h
go_count true true had = refl
go_count true false had = absurd (false≢true (had refl))
go_count false h had = omega arith

pub at_self : (o : ℕ) → at_one o o ≢ 0
at_self o none = let e : at_one o o ≡ 1 = ap one_if (eq-eqb o o refl) in omega (arith, e, none)

-- one lock is let go
pub let_one : (v : View) (o : ℕ) → has_lock o v.log ≡ true → LetGo (at_one o) v (view_after (Unlock o) v)
let_one v o has =
    record {
      locked = only_unlocked v o;
      owners = record { had = refl; found = refl };
      count = λ p. go_count (o == p) (has_lock p v.log) (λ e. subst (λ (z : ℕ). has_lock z v.log ≡ true) (eqb-true o p e) has);
      begun = λ sections a apart. begun_after o (begun v.log) sections (apart o (λ e. at_self o e)) a;
    }

-- no lock is let go
pub let_none : (v : View) → LetGo (λ o. 0) v v
let_none v = record { locked = only_same v; owners = same_owners v; count = λ o. omega arith; begun = λ sections a apart. a }

-- some locks after others
pub let_then : (u v w : View) (f g : ℕ → ℕ) → LetGo f u v → LetGo g v w → LetGo (λ o. f o + g o) u w
let_then u v w f g l m =
    record {
      owners = owners_then u v w l.owners m.owners;
      locked = only_then u v w l.locked m.locked (λ p had has. has_counted p v (λ zero_v. let c = m.count p in let h = counted_has p w has in omega (arith, c, h, zero_v)));
      count = λ o. let a = l.count o in let b = m.count o in omega (arith, a, b);
      begun = λ sections a apart. m.begun sections (l.begun sections a (λ o some_one. apart o (λ e. some_one (omega (arith, e))))) (λ o some_one. apart o (λ e. some_one (omega (arith, e))));
    }

-- the same number, said otherwise
pub let_as : (u v : View) (f g : ℕ → ℕ) → ((o : ℕ) → f o ≡ g o) → LetGo f u v → LetGo g u v
let_as u v f g same l =
    record {
      locked = l.locked;
      owners = l.owners;
      count = λ o. let a = l.count o in let b = same o in omega (arith, a, b);
      begun = λ sections a apart. l.begun sections a (λ o some_one. apart o (λ e. some_one (same o ∙ e)));
    }

if_both : (a b : Bool) → (if a then one_if b else 0) ≡ one_if (a && b)
if_both true b = refl
if_both false b = refl

-- the locks of a taking, one after the other
pub two_taken : (o : ℕ) (t : Taking) → (if t.took_lower then at_one t.lower o else 0) + (if t.took_upper then at_one t.upper o else 0) ≡ taken_in o t
two_taken o t = let a = if_both t.took_lower (t.lower == o) in let b = if_both t.took_upper (t.upper == o) in omega (arith, a, b)
