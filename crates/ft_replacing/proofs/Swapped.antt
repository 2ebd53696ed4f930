-- A whole write that puts 0 into a root and drops references before the commit, and puts the root of another table after
-- it.
use Rattle.std.proofs.Common.{◌≡◌, ◌≢◌, ℕ, suc, ◌+◌, ◌<◌, ◌≤◌, le_trans, true, false, cond, ◌∷◌, sym, ap, ◌∙◌, subst, arith, inr}
use Rattle.std.specs.Prelude.{◌==◌, max}
use Rattle.std.proofs.Math.Nat.{le-max_right}
use mathlib.Core.Logic.{dite}
use native.Mathlib.Decide.{ℕ_discrete}
use Rattle.ft_model.specs.declared.call.Call.{Call}
use Rattle.ft_model.specs.declared.reply.Reply.{Reply}
use Rattle.ft_trace.specs.declared.Act.TheVariants.{StartWrite, PutRoot, Commit, StopWrite}
use Rattle.ft_trace.specs.declared.Snap.{Snap}
use Rattle.ft_trace.specs.declared.Shape.{Shape}
use Rattle.ft_trace.specs.declared.View.{View}
use Rattle.ft_trace.specs.Acts.{debt, debt_next, is_writing, view_after, seen_writes, shown, stage, stage_next, presence_after_entry}
use Rattle.ft_trace.specs.Addresses.{container_count}
use Rattle.ft_trace.specs.Boxes.{place_use, references_held}
use Rattle.ft_trace.specs.Holds.{held_words, held_unboxed, known_state}
use Rattle.ft_trace.specs.Pictures.{root_in, Represents}
use Rattle.ft_trace.specs.ContainerStates.{changes, kind_in, kinds_in}
use Rattle.ft_trace.proofs.Cases.{hit, miss}
use Rattle.ft_trace.proofs.Untouched.{untouched_in}
use Rattle.ft_bank.specs.SameBoxes.{LosesReferences, MovesReferences, SameMade, StaysSettled, named_in_words, times_raised}
use Rattle.ft_bank.specs.Whole.{OnlyPut, OnlyWritten, Wrote, write_entry}
use Rattle.ft_bank.specs.WriteSteps.{Committed, KeepsUnwritten}
use Rattle.ft_bank.proofs.DoneBoxes.{none_taken, settled_same}
use Rattle.ft_bank.proofs.KnownAfterWrites.{work_knows}

-- The pass knew v; it made the version of a container odd, put 0 into its root, and dropped references: then it knows d.
-- After the commit it put the root of the table t, and words: then it knows u.
module _ (called : Call) (said : Reply) (number f t g : ℕ) (snap : Snap) (v d u : View) where
  abbrev at : ℕ
  at = changes called

  abbrev old : ℕ
  old = root_in (held_words at v)

  abbrev begun : View
  begun = view_after (StartWrite at f) v

  abbrev bare : View
  bare = view_after (PutRoot at 0 old) begun

  abbrev made : View
  made = view_after (Commit called said number snap) d

  abbrev rooted : View
  rooted = view_after (PutRoot at (suc t) 0) made

  abbrev done : View
  done = view_after (StopWrite at g) u

  others_start : (p : ℕ) → p ≢ at → is_writing p bare.log ≡ is_writing p v.log
  others_start p ne = miss at p true (is_writing p v.log) (λ e. ne (sym e))

  all_write : is_writing at v.log ≡ false → OnlyWritten at bare d → OnlyPut at rooted u → (p : ℕ) → is_writing p done.log ≡ is_writing p v.log
  all_write quiet drops puts p =
      dite (ℕ_discrete p at)
      (λ (e : p ≡ at). subst (λ (q : ℕ). is_writing q done.log ≡ is_writing q v.log) (sym e) (hit at false (is_writing at u.log) ∙ sym quiet))
      (λ ne. miss at p false (is_writing p u.log) (λ e. ne (sym e)) ∙ (puts.work.pass.writes p ∙ (drops.work.pass.writes p ∙ others_start p ne)))

  -- the table is in the pass's hand or in none, as if the root had been put once
  hand_once : (q : ℕ) → old ≢ suc t → stage_next q (PutRoot at (suc t) 0) (stage_next q (PutRoot at 0 old) (stage q v.log)) ≡ cond (old == suc t) (stage q v.log) (stage_next q (PutRoot at (suc t) old) (stage q v.log))
  hand_once q new =
      let one = cond (old == suc q) 3 (stage q v.log) in
      let first : stage_next q (PutRoot at 0 old) (stage q v.log) ≡ one = miss 0 (suc q) 0 one (λ e. absurd (omega (arith, e))) in
      ap (λ (z : ℕ). cond (suc t == suc q) 0 (cond (0 == suc q) 3 z)) first
      ∙ (ap (λ (z : ℕ). cond (suc t == suc q) 0 z) (miss 0 (suc q) 3 one (λ e. absurd (omega (arith, e))))
      ∙ sym (miss old (suc t) (stage q v.log) (stage_next q (PutRoot at (suc t) old) (stage q v.log)) new))

  debt_once : old ≢ suc t → debt_next (PutRoot at (suc t) 0) (debt_next (PutRoot at 0 old) (debt v.log)) ≡ cond (old == suc t) (debt v.log) (debt_next (PutRoot at (suc t) old) (debt v.log))
  debt_once new =
      let n = debt_next (PutRoot at 0 old) (debt v.log) in
      hit 0 n (n + 1) ∙ sym (miss old (suc t) (debt v.log) (debt_next (PutRoot at (suc t) old) (debt v.log)) new)

  -- how many values name the box
  abbrev names : ℕ → View → ℕ
  names b w = named_in_words b (kind_in w.shape.starts at) (held_words at w)

  swapped_loses : MovesReferences at begun bare → OnlyWritten at bare d → MovesReferences at made rooted → OnlyPut at rooted u → LosesReferences at v done
  swapped_loses moves drops moved puts b =
      let one : references_held d.shape b d.log + names b d + times_raised b v.log ≤ references_held v.shape b v.log + names b v + times_raised b d.log = subst (λ (m : ℕ). references_held d.shape b d.log + names b d + times_raised b v.log ≤ m + times_raised b d.log) (moves b) (drops.loses b) in
      let two : references_held rooted.shape b rooted.log + names b rooted ≡ references_held d.shape b d.log + names b d = moved b in
      let three : references_held done.shape b done.log + names b done ≡ references_held rooted.shape b rooted.log + names b rooted = puts.moves b in
      let four : times_raised b done.log ≡ times_raised b d.log = puts.made.raised b in
      omega (arith, one, two, three, four)

  -- the write has stored each box whose place the pass had taken
  swapped_settles : StaysSettled bare d → SameMade rooted u → StaysSettled v done
  swapped_settles drops puts = record {
    settled = λ x. settled_same d.log done.log puts.state puts.local puts.taken puts.places (drops.settled (record { unmade = x.unmade; counted = x.counted; whole = x.whole; given = x.given }));
    places = λ b taken. absurd (none_taken (place_use b d.log) (sym (puts.uses b) ∙ taken));
  }

  swapped_at : is_writing at v.log ≡ false → old ≢ suc t → seen_writes d ≤ number → 0 < v.left → KeepsUnwritten begun bare → MovesReferences at begun bare → OnlyWritten at bare d → Committed d made called → KeepsUnwritten made rooted → MovesReferences at made rooted → OnlyPut at rooted u → root_in (held_words at u) ≡ suc t → Represents u.shape.texts (held_unboxed at u) (known_state at u) → Wrote called said number v done
  swapped_at quiet new low some keeps moves drops committed kept moved puts root stands =
      let w0 = drops.work in
      let p0 = w0.pass in
      let w1 = puts.work in
      let p1 = w1.pass in
      let shape : u.shape ≡ v.shape = p1.shape ∙ p0.shape in
      let inside : (p : ℕ) → p < container_count v.shape → p < container_count d.shape = λ p below. subst (λ (k : Shape). p < container_count k) (sym p0.shape) below in
      let shows_it : number < seen_writes u = let shown_at = le_trans (le-max_right (shown d.log) (number + 1)) (le-max_right d.learnt (max (shown d.log) (number + 1))) in let up = le_trans shown_at p1.seen in omega (arith, up) in
      let low_v : seen_writes v ≤ number = le_trans p0.seen low in
      record {
        pass = record {
          number = p1.number ∙ p0.number;
          next = p1.next ∙ p0.next;
          parts = p1.parts ∙ p0.parts;
          shape = shape;
          locks = λ p. p1.locks p ∙ p0.locks p;
          writes = all_write quiet drops puts;
          announced = p1.announced ∙ p0.announced;
          flight = p1.flight ∙ p0.flight;
          begun = p1.begun ∙ p0.begun;
          cursors = λ n. p1.cursors n ∙ p0.cursors n;
          tokens = p1.tokens ∙ p0.tokens;
          learnt = p1.learnt ∙ p0.learnt;
          lists = p1.lists ∙ p0.lists;
          floor = p1.floor ∙ p0.floor;
          since = p1.since ∙ p0.since;
          owners = record { had = p1.owners.had ∙ p0.owners.had; found = p1.owners.found ∙ p0.owners.found };
          seen = omega (arith, low_v, shows_it);
          grown = λ old was. inr (p1.grown old (inr (inr (p0.grown old (inr (inr was))))));
          stays_online = λ is. p1.stays_online (ap presence_after_entry (p0.stays_online is));
        };
        seen = low_v;
        shows = shows_it;
        left = let l = w1.left in let m = w0.left in omega (arith, l, m, some);
        entries = w1.entries ∙ ap (λ es. write_entry called said number ∷ es) w0.entries;
        hands = λ q.
            w1.hands q
            ∙ (ap (stage_next q (PutRoot at (suc t) 0)) (w0.hands q)
            ∙ (hand_once q new
            ∙ sym (ap (λ (z : ℕ). cond (old == z) (stage q v.log) (stage_next q (PutRoot at z old) (stage q v.log))) root)));
        debt = w1.debt ∙ (ap (debt_next (PutRoot at (suc t) 0)) w0.debt ∙ (debt_once new ∙ sym (ap (λ (z : ℕ). cond (old == z) (debt v.log) (debt_next (PutRoot at z old) (debt v.log))) root)));
        used = w1.used ∙ hit 0 false true;
        owes = w1.owes;
        tables = w1.tables ∙ w0.tables;
        made = swapped_settles drops.made puts.made;
        loses = swapped_loses moves drops moved puts;
        others = λ p below ne mine still.
            let quiet_p = others_start p ne ∙ still in
            let mine_d = p0.locks p ∙ mine in
            let quiet_d = p0.writes p ∙ quiet_p in
            let put = puts.others p (inside p below) ne mine_d quiet_d in
            let root_put = kept p (inside p below) mine_d quiet_d in
            let dropped = drops.others p below ne mine quiet_p in
            let root_out = keeps p below mine quiet_p in (
              put.0 ∙ (root_put.0 ∙ (dropped.0 ∙ root_out.0)),
              work_knows rooted u p w1 ∙ (committed.left p ∙ (untouched_in committed.found called p (λ e. ne (sym e)) ∙ (committed.has.agrees p (inside p below) mine_d ∙ work_knows bare d p w0))),
              put.1 ∙ (root_put.2 ∙ (dropped.1 ∙ root_out.2)),
            );
        found = committed.found;
        has = record {
          agrees = λ p below mine. committed.has.agrees p (inside p below) (p0.locks p ∙ mine) ∙ work_knows bare d p w0;
          containers = committed.has.containers ∙ ap container_count p0.shape;
          kinds = committed.has.kinds ∙ ap (λ (k : Shape). kinds_in k.starts) p0.shape;
          order = committed.has.order;
          unsplit = committed.has.unsplit;
          words = committed.has.words;
        };
        content = work_knows rooted u at w1 ∙ committed.left at;
        stands = subst (λ (k : Shape). Represents k.texts (held_unboxed at u) (known_state at u)) shape stands;
      }

  pub swapped_write : (s r c z w : View) → s ≡ begun → r ≡ bare → c ≡ made → z ≡ view_after (PutRoot at (suc t) 0) c → w ≡ done → is_writing at v.log ≡ false → old ≢ suc t → seen_writes d ≤ number → 0 < v.left → KeepsUnwritten s r → MovesReferences at s r → OnlyWritten at r d → Committed d c called → KeepsUnwritten c z → MovesReferences at c z → OnlyPut at z u → root_in (held_words at u) ≡ suc t → Represents u.shape.texts (held_unboxed at u) (known_state at u) → Wrote called said number v w
  swapped_write s r c z w s_is r_is c_is z_is w_is quiet new low some keeps moves drops committed kept moved puts root stands =
      let z_at : z ≡ rooted = z_is ∙ ap (view_after (PutRoot at (suc t) 0)) c_is in
      subst (Wrote called said number v) (sym w_is)
      (swapped_at quiet new low some
      (subst (λ (y : View × View). KeepsUnwritten y.0 y.1) (λ i. (s_is i, r_is i)) keeps)
      (subst (λ (y : View × View). MovesReferences at y.0 y.1) (λ i. (s_is i, r_is i)) moves)
      (subst (λ (y : View). OnlyWritten at y d) r_is drops)
      (subst (λ (y : View). Committed d y called) c_is committed)
      (subst (λ (y : View × View). KeepsUnwritten y.0 y.1) (λ i. (c_is i, z_at i)) kept)
      (subst (λ (y : View × View). MovesReferences at y.0 y.1) (λ i. (c_is i, z_at i)) moved)
      (subst (λ (y : View). OnlyPut at y u) z_at puts)
      root
      stands)
