-- Whole writes that put another root, and what a pass did before that in tables that are fresh in its hand.
use Rattle.std.proofs.Common.{◌≡◌, ◌≢◌, ℕ, suc, ◌+◌, ◌<◌, ◌≤◌, le_trans, true, false, cond, ◌∷◌, refl, sym, ap, ◌∙◌, subst, arith, inr}
use Rattle.std.specs.Prelude.{◌==◌}
use mathlib.Core.Logic.{dite}
use native.Mathlib.Decide.{ℕ_discrete}
use Rattle.ft_model.specs.declared.call.Call.{Call}
use Rattle.ft_model.specs.declared.reply.Reply.{Reply}
use Rattle.ft_trace.specs.declared.Act.{Act}
use Rattle.ft_trace.specs.declared.Act.TheVariants.{StartWrite, PutRoot, PutFresh}
use Rattle.ft_trace.specs.declared.Shape.{Shape}
use Rattle.ft_trace.specs.declared.View.{View}
use Rattle.ft_trace.specs.Acts.{is_writing, stage, stage_next, debt, debt_next, view_after}
use Rattle.ft_trace.specs.Addresses.{container_count}
use Rattle.ft_trace.specs.Holds.{held_words, held_unboxed, known_state}
use Rattle.ft_trace.specs.Pictures.{root_in, Represents}
use Rattle.ft_trace.specs.Boxes.{references_held}
use Rattle.ft_trace.specs.ContainerStates.{changes, kind_in, kinds_in}
use Rattle.ft_trace.proofs.Cases.{hit, miss}
use Rattle.ft_bank.specs.Whole.{SameWork, OnlyLoaded, OnlyWritten, EndsWrite, Wrote, hand_after, debt_after, write_entry}
use Rattle.ft_bank.specs.SameBoxes.{MovesReferences, SameReferences, SameMade, named_in_words, times_raised}
use Rattle.ft_bank.specs.WriteSteps.{KeepsUnwritten}
use Rattle.ft_bank.proofs.BoxedSteps.{made_same, made_then}
use Rattle.ft_bank.proofs.DoneBoxes.{settled_then, stays_settled_same}
use Rattle.ft_bank.proofs.KnownAfterWrites.{calm, same_work, work_then, work_knows, pass_then, loaded_held}
use Rattle.ft_table_calls.specs.Adding.{OnlyFilled}

-- ---- words of fresh tables

-- a put into a fresh table
abbrev pub IsFill : Act → Type 0
IsFill (PutFresh t i x) = Unit {0}
IsFill act = ⊥

fill_only : (a : Act) (v : View) → IsFill a → SameWork v (view_after a v) × SameReferences v (view_after a v) × SameMade v (view_after a v)
fill_only (PutFresh t i x) v ok = (calm (PutFresh t i x) v tt, (λ b. refl), record { state = λ b. refl; local = λ b. refl; taken = λ b. refl; places = λ b. refl; uses = λ b. refl; raised = λ b. refl })
fill_only a v ok = absurd ok

pub filled_by : (a : Act) (v w : View) → IsFill a → w ≡ view_after a v → KeepsUnwritten v w → OnlyFilled v w
filled_by a v w ok is keeps =
    let only = fill_only a v ok in
    record { work = subst (SameWork v) (sym is) only.0; references = subst (SameReferences v) (sym is) only.1; made = subst (SameMade v) (sym is) only.2; keeps = keeps }

pub filled_same : (v : View) → OnlyFilled v v
filled_same v = record { work = same_work v; references = λ b. refl; made = made_same v; keeps = λ p low mine quiet. (refl, refl, refl) }

pub loaded_filled : (v w : View) → OnlyLoaded v w → OnlyFilled v w
loaded_filled v w l = record { work = l.work; references = l.boxes.references; made = l.boxes.made; keeps = λ p low mine quiet. (loaded_held v w p l, work_knows v w p l.work, l.unboxed p low mine) }

pub filled_then : (u v w : View) → OnlyFilled u v → OnlyFilled v w → OnlyFilled u w
filled_then u v w a b = record {
  work = work_then u v w a.work b.work;
  references = λ c. b.references c ∙ a.references c;
  made = made_then u v w a.made b.made;
  keeps = λ p low mine quiet.
      let x = a.keeps p low mine quiet in
      let y = b.keeps p (subst (λ (k : Shape). p < container_count k) (sym a.work.pass.shape) low) (a.work.pass.locks p ∙ mine) (a.work.pass.writes p ∙ quiet) in
      (y.0 ∙ x.0, y.1 ∙ x.1, y.2 ∙ x.2);
}

-- a whole write after such steps, seen from before them
module _ (called : Call) (said : Reply) (n : ℕ) (v u w : View) (l : OnlyFilled v u) where
  abbrev o : ℕ
  o = changes called

  pub filled_wrote : held_words o u ≡ held_words o v → Wrote called said n u w → Wrote called said n v w
  filled_wrote words x =
      let s = l.work.pass.shape in
      let root : root_in (held_words o u) ≡ root_in (held_words o v) = ap root_in words in
      record {
        pass = pass_then v u w l.work.pass x.pass;
        left = sym l.work.left ∙ x.left;
        entries = x.entries ∙ ap (λ es. write_entry called said n ∷ es) l.work.entries;
        hands = λ t. x.hands t ∙ (λ d. hand_after o (root d) (root_in (held_words o w)) t (l.work.hands t d));
        debt = x.debt ∙ (λ d. debt_after o (root d) (root_in (held_words o w)) (l.work.debt d));
        used = x.used;
        owes = x.owes;
        tables = x.tables ∙ l.work.tables;
        made = settled_then v u w (stays_settled_same v u l.made) x.made;
        loses = λ b. subst (λ (m : ℕ × ℕ). references_held w.shape b w.log + named_in_words b (kind_in w.shape.starts o) (held_words o w) + m.0 ≤ m.1 + times_raised b w.log) (λ d. (l.made.raised b d, l.references b d + named_in_words b (kind_in (s d).starts o) (words d))) (x.loses b);
        seen = le_trans l.work.pass.seen x.seen;
        shows = x.shows;
        others = λ p low ne mine quiet.
            let low' = subst (λ (k : Shape). p < container_count k) (sym s) low in
            let e = x.others p low' ne (l.work.pass.locks p ∙ mine) (l.work.pass.writes p ∙ quiet) in
            let k = l.keeps p low mine quiet in
            (e.0 ∙ k.0, e.1 ∙ k.1, e.2 ∙ k.2);
        found = x.found;
        has = record {
          agrees = λ p low mine. x.has.agrees p (subst (λ (k : Shape). p < container_count k) (sym s) low) (l.work.pass.locks p ∙ mine) ∙ work_knows v u p l.work;
          containers = x.has.containers ∙ ap container_count s;
          order = x.has.order;
          kinds = x.has.kinds ∙ ap (λ (k : Shape). kinds_in k.starts) s;
          unsplit = x.has.unsplit;
          words = x.has.words;
        };
        content = x.content;
        stands = subst (λ (k : Shape). Represents k.texts (held_unboxed o w) (known_state o w)) s x.stands;
      }

-- ---- another root

-- The pass made the version of a container odd, put another root, and then words of the container; and ended the write.
module _ (called : Call) (said : Reply) (number f root : ℕ) (v r u w : View) where
  abbrev at : ℕ
  at = changes called

  abbrev old : ℕ
  old = root_in (held_words at v)

  abbrev begun : View
  begun = view_after (StartWrite at f) v

  abbrev rooted : View
  rooted = view_after (PutRoot at root old) begun

  others_start : (p : ℕ) → p ≢ at → is_writing p rooted.log ≡ is_writing p v.log
  others_start p ne = miss at p true (is_writing p v.log) (λ e. ne (sym e))

  all_write : is_writing at v.log ≡ false → OnlyWritten at rooted u → EndsWrite called said number u w → (p : ℕ) → is_writing p w.log ≡ is_writing p v.log
  all_write quiet puts ends p =
      dite (ℕ_discrete p at)
      (λ (e : p ≡ at). subst (λ (q : ℕ). is_writing q w.log ≡ is_writing q v.log) (sym e) (ends.even ∙ sym quiet))
      (λ ne. ends.writes p ne ∙ (puts.work.pass.writes p ∙ others_start p ne))

  rooted_at : is_writing at v.log ≡ false → old ≢ root → KeepsUnwritten begun rooted → MovesReferences at begun rooted → OnlyWritten at rooted u → root_in (held_words at u) ≡ root → EndsWrite called said number u w → Wrote called said number v w
  rooted_at quiet new keeps moves puts is ends =
      let w1 = puts.work in
      let p1 = w1.pass in
      let whole : root_in (held_words at w) ≡ root = ends.root ∙ is in
      record {
        pass = record {
          number = ends.same_number ∙ p1.number;
          next = ends.next ∙ p1.next;
          parts = ends.parts ∙ p1.parts;
          shape = ends.shape ∙ p1.shape;
          locks = λ p. ends.locks p ∙ p1.locks p;
          writes = all_write quiet puts ends;
          announced = ends.announced ∙ p1.announced;
          flight = ends.flight ∙ p1.flight;
          begun = ends.begun ∙ p1.begun;
          cursors = λ n. ends.cursors n ∙ p1.cursors n;
          seen = let low = le_trans p1.seen ends.seen in let more = ends.shows in omega (arith, low, more);
          grown = λ old was. ends.grown old (p1.grown old (inr (inr was)));
          stays_online = λ is. ends.stays_online (p1.stays_online is);
          tokens = ends.tokens ∙ p1.tokens;
          lists = ends.lists ∙ p1.lists;
          floor = ends.floor ∙ p1.floor;
          since = ends.since ∙ p1.since;
          owners = record { had = ends.owners.had ∙ p1.owners.had; found = ends.owners.found ∙ p1.owners.found };
          learnt = ends.learnt ∙ p1.learnt;
        };
        left = sym w1.left ∙ ends.left;
        entries = ends.entries ∙ ap (λ es. write_entry called said number ∷ es) w1.entries;
        hands = λ t. ends.hands t ∙ (w1.hands t ∙ sym (ap (λ (z : ℕ). hand_after at old z t (stage t v.log)) whole ∙ miss old root (stage t v.log) (stage_next t (PutRoot at root old) (stage t v.log)) new));
        debt = ends.debt ∙ (w1.debt ∙ sym (ap (λ (z : ℕ). debt_after at old z (debt v.log)) whole ∙ miss old root (debt v.log) (debt_next (PutRoot at root old) (debt v.log)) new));
        used = ends.used;
        owes = ends.owes;
        tables = ends.tables ∙ w1.tables;
        made = settled_then v rooted w (stays_settled_same v rooted (record { state = λ b. refl; local = λ b. refl; taken = λ b. refl; places = λ b. refl; uses = λ b. refl; raised = λ b. refl })) (settled_then rooted u w puts.made ends.made);
        loses = λ b.
            let one : references_held u.shape b u.log + named_in_words b (kind_in u.shape.starts at) (held_words at u) + times_raised b v.log ≤ references_held v.shape b v.log + named_in_words b (kind_in v.shape.starts at) (held_words at v) + times_raised b u.log = subst (λ (m : ℕ). references_held u.shape b u.log + named_in_words b (kind_in u.shape.starts at) (held_words at u) + times_raised b v.log ≤ m + times_raised b u.log) (moves b) (puts.loses b) in
            let two = ends.moves b in
            let three = ends.raised b in
            omega (arith, one, two, three);
        seen = le_trans p1.seen ends.seen;
        shows = ends.shows;
        others = λ p low ne mine quiet'.
            let low' = subst (λ (k : Shape). p < container_count k) (sym p1.shape) low in
            let e = ends.others p low' ne (p1.locks p ∙ mine) ((p1.writes p ∙ others_start p ne) ∙ quiet') in
            let put = puts.others p low ne mine (others_start p ne ∙ quiet') in
            let k = keeps p low mine (others_start p ne ∙ quiet') in (
              e.0 ∙ (put.0 ∙ k.0),
              e.1 ∙ work_knows rooted u p w1,
              e.2 ∙ (put.1 ∙ k.2),
            );
        found = ends.found;
        has = record {
          agrees = λ p low mine. ends.has.agrees p (subst (λ (k : Shape). p < container_count k) (sym p1.shape) low) (p1.locks p ∙ mine) ∙ work_knows rooted u p w1;
          containers = ends.has.containers ∙ ap container_count p1.shape;
          order = ends.has.order;
          kinds = ends.has.kinds ∙ ap (λ (k : Shape). kinds_in k.starts) p1.shape;
          unsplit = ends.has.unsplit;
          words = ends.has.words;
        };
        content = ends.content;
        stands = subst (λ (k : Shape). Represents k.texts (held_unboxed at w) (known_state at w)) p1.shape ends.stands;
      }

  pub rooted_write : r ≡ rooted → is_writing at v.log ≡ false → old ≢ root → KeepsUnwritten begun r → MovesReferences at begun r → OnlyWritten at r u → root_in (held_words at u) ≡ root → EndsWrite called said number u w → Wrote called said number v w
  rooted_write is quiet new keeps moves puts root_is ends =
      rooted_at quiet new (subst (KeepsUnwritten begun) is keeps) (subst (MovesReferences at begun) is moves) (subst (λ (y : View). OnlyWritten at y u) is puts) root_is ends

-- the table that the root named is the pass's then, to be retired
pub taken_out : (called : Call) (said : Reply) (number t new : ℕ) (v w : View) → Wrote called said number v w → root_in (held_words (changes called) v) ≡ suc t → root_in (held_words (changes called) w) ≡ new → suc t ≢ new → (stage t w.log ≡ 3) × (0 < debt w.log)
taken_out called said number t new v w wrote before after other =
    let o = changes called in
    let n = stage t v.log in
    let d = debt v.log in
    let hand : stage t w.log ≡ 3 =
    wrote.hands t ∙ ((λ i. hand_after o (before i) (after i) t n)
    ∙ (miss (suc t) new n (stage_next t (PutRoot o new (suc t)) n) other
    ∙ (miss new (suc t) 0 (cond (suc t == suc t) 3 n) (λ e. other (sym e)) ∙ hit (suc t) 3 n))) in
    let owed : debt w.log ≡ d + 1 =
    wrote.debt ∙ ((λ i. debt_after o (before i) (after i) d)
    ∙ (miss (suc t) new d (debt_next (PutRoot o new (suc t)) d) other ∙ miss (suc t) 0 d (d + 1) (λ e. absurd (omega (arith, e))))) in
    (hand, omega (arith, owed))
