-- What a call answers that was made under its locks, and that the pass is in the midst of its call still.
use Rattle.std.proofs.Common.{◌≡◌, ◌<◌, ◌≤◌, ℕ, ◌+◌, true, false, true≢false, List, ◌∷◌, ◌++◌, refl, sym, ap, ◌∙◌, subst, inl, inr, ⊎_elim, append_assoc, le_trans}
use mathlib.Core.Logic.{dite}
use native.Mathlib.Decide.{ℕ_discrete}
use Rattle.ft_model.specs.declared.call.Call.{Call}
use Rattle.ft_model.specs.declared.call.Call.TheVariants as call
use Rattle.ft_model.specs.declared.reply.Reply.{Reply}
use Rattle.ft_model.specs.Answers.{is_write}
use Rattle.ft_model.specs.Histories.{IsReplied}
use Rattle.ft_model.specs.TableUses.{StoredWorld}
use Rattle.ft_trace.specs.declared.Act.{Act}
use Rattle.ft_trace.specs.declared.Act.TheVariants.{ReadCounter, Answer}
use Rattle.ft_trace.specs.declared.Entry.{Entry}
use Rattle.ft_trace.specs.declared.Shape.{Shape}
use Rattle.ft_trace.specs.declared.View.{View}
use Rattle.ft_trace.specs.Acts.{has_lock, stage, debt, view_after}
use Rattle.ft_trace.specs.Addresses.{container_count}
use Rattle.ft_trace.specs.Boxes.{references_held, IsDoneWithBoxes}
use Rattle.ft_trace.specs.Holds.{held_words, held_unboxed, known_state}
use Rattle.ft_trace.specs.Pictures.{ContainerWords, root_in, Represents}
use Rattle.ft_trace.specs.Kinds.{IsKeyed}
use Rattle.ft_trace.specs.ContainerStates.{ContainerState, changes, kind_in, reply_in, kinds_in}
use Rattle.ft_trace.proofs.Cases.{hit}
use Rattle.ft_bank.specs.declared.bank.Bank.{Bank}
use Rattle.ft_bank.specs.declared.pass.Pass.{Pass}
use Rattle.ft_bank.specs.Answered.{Answered}
use Rattle.ft_bank.specs.Passes.{view, IsPassOf}
use Rattle.ft_bank.specs.PassSections.{stack_of}
use Rattle.ft_bank.specs.Whole.{OnlyLoaded, Wrote, write_entry, hand_after, debt_after}
use Rattle.ft_bank.specs.WriteSteps.{MayHave}
use Rattle.ft_bank.specs.SameBoxes.{SameReferences, named_in_words, times_raised}
use Rattle.ft_bank.proofs.BoxedSteps.{boxes_same}
use Rattle.ft_bank.proofs.DoneBoxes.{done_stays, settled_then, stays_settled_same}
use Rattle.ft_bank.proofs.LastLoads.{last_older}
use Rattle.ft_bank.proofs.KnownAfterWrites.{loaded_held, loaded_then, work_knows, pass_then, same_work}
use Rattle.ft_section.specs.declared.answers.Stamp.{Stamp}
use Rattle.ft_section.specs.Ready.{IsStill, IsMaking}
use Rattle.ft_section.proofs.MidstOfCall.{making_stays}
use Rattle.ft_search.specs.MadeCalls.{IsReplyTo, IsShownBy, KeepsTables, MadeAs}
use Rattle.ft_search.specs.OneEntryWrites.{Leaves, MayWriteEntries}
use Rattle.ft_search.proofs.ReadMidst.{LeavesSections, making_read}

-- a write is a call on a container, which replies as the plain one does
pub plain_replied : (called : Call) (said plain : Reply) → is_write called said ≡ true → plain ≡ said → IsReplied called said plain
plain_replied (call.Dict o dc) said plain write is = inr (sym is)
plain_replied (call.List o lc) said plain write is = inr (sym is)
plain_replied (call.Set o sc) said plain write is = inr (sym is)
plain_replied (call.Next cursor) said plain write is = inr (sym is)
plain_replied (call.Begin one other) said plain write is = absurd (true≢false (sym write))
plain_replied call.End said plain write is = absurd (true≢false (sym write))
plain_replied call.Quiesce said plain write is = absurd (true≢false (sym write))
plain_replied (call.Deque o qc) said plain write is = inr (sym is)
plain_replied (call.Await thread index) said plain write is = absurd (true≢false (sym write))
plain_replied call.Dump said plain write is = absurd (true≢false (sym write))

-- ---- after loads

module _ (v u : View) (l : OnlyLoaded v u) where
  pub has_loaded : (stored : StoredWorld) → MayHave v stored → MayHave u stored
  has_loaded stored has = record {
    agrees = λ p low mine. has.agrees p (subst (λ (k : Shape). p < container_count k) l.work.pass.shape low) (sym (l.work.pass.locks p) ∙ mine) ∙ sym (work_knows v u p l.work);
    containers = has.containers ∙ sym (ap container_count l.work.pass.shape);
    order = has.order;
    kinds = has.kinds ∙ sym (ap (λ (k : Shape). kinds_in k.starts) l.work.pass.shape);
    unsplit = has.unsplit;
    words = has.words;
  }

  pub replied_loaded : (called : Call) (said : Reply) → IsReplyTo called said u → IsReplyTo called said v
  replied_loaded called said replied stored has = replied stored (has_loaded stored has)

  module _ (called : Call) (said : Reply) (n : ℕ) (w : View) where
    abbrev o : ℕ
    o = changes called

    pub loaded_wrote : Wrote called said n u w → Wrote called said n v w
    loaded_wrote x =
        let h = loaded_held v u o l in
        let s = l.work.pass.shape in
        record {
          pass = pass_then v u w l.work.pass x.pass;
          seen = le_trans l.work.pass.seen x.seen;
          shows = x.shows;
          left = sym l.work.left ∙ x.left;
          entries = x.entries ∙ ap (λ (es : List Entry). write_entry called said n ∷ es) l.work.entries;
          hands = λ t. x.hands t ∙ (λ d. hand_after o (root_in (h d)) (root_in (held_unboxed o w)) t (l.work.hands t d));
          debt = x.debt ∙ (λ d. debt_after o (root_in (h d)) (root_in (held_unboxed o w)) (l.work.debt d));
          used = x.used;
          owes = x.owes;
          tables = x.tables ∙ l.work.tables;
          made = settled_then v u w (stays_settled_same v u l.boxes.made) x.made;
          loses = λ b. subst (λ (m : ℕ × ℕ). references_held w.shape b w.log + named_in_words b (kind_in w.shape.starts o) (held_words o w) + m.0 ≤ m.1 + times_raised b w.log) (λ d. (l.boxes.made.raised b d, l.boxes.references b d + named_in_words b (kind_in (s d).starts o) (h d))) (x.loses b);
          others = λ p low ne mine quiet.
              let e = x.others p (subst (λ (k : Shape). p < container_count k) (sym s) low) ne (l.work.pass.locks p ∙ mine) (l.work.pass.writes p ∙ quiet) in
              (e.0 ∙ loaded_held v u p l, e.1 ∙ work_knows v u p l.work, e.2 ∙ l.unboxed p low mine);
          found = x.found;
          has = record {
            agrees = λ p low mine. x.has.agrees p (subst (λ (k : Shape). p < container_count k) (sym s) low) (l.work.pass.locks p ∙ mine) ∙ work_knows v u p l.work;
            containers = x.has.containers ∙ ap container_count s;
            order = x.has.order;
            kinds = x.has.kinds ∙ ap (λ (k : Shape). kinds_in k.starts) s;
            unsplit = x.has.unsplit;
            words = x.has.words;
          };
          content = x.content;
          stands = subst (λ (k : Shape). Represents k.texts (held_unboxed o w) (known_state o w)) s x.stands;
        }

    pub loaded_answered : (part : List Act) → u.log ≡ part ++ v.log → Answered called said n u w → Answered called said n v w
    loaded_answered part log x = record {
      before = x.before;
      loaded = loaded_then v u x.before l x.loaded;
      part = x.part ++ part;
      own = x.own ∙ (ap (λ (z : List Act). x.part ++ z) log ∙ sym (append_assoc x.part part v.log));
      counted = last_older n x.part part x.counted;
      answered = x.answered;
      seen = le_trans l.work.pass.seen x.seen;
    }

  -- a call that was made after loads
  pub made_loaded : (called : Call) (said : Reply) (stamp : Stamp) (w : View) (part : List Act) → u.log ≡ part ++ v.log → MadeAs called said stamp u w → MadeAs called said stamp v w
  made_loaded called said stamp w part log m = record {
    made = ⊎_elim (λ x. inl (x.0, loaded_wrote called said stamp.number w x.1)) (λ x. inr (x.0, loaded_answered called said stamp.number w part log x.1)) m.made;
    replied = replied_loaded called said m.replied;
    wrote = m.wrote;
    tables = record { hands = λ t. m.tables.hands t ∙ l.work.hands t; debt = m.tables.debt ∙ l.work.debt; references = λ b. m.tables.references b ∙ l.boxes.references b };
  }

-- ---- how a call was made

-- as a write that leaves the root
pub wrote_as : (called : Call) (said : Reply) (n : ℕ) (v w : View) → is_write called said ≡ true → IsReplyTo called said v → Wrote called said n v w → root_in (held_unboxed (changes called) w) ≡ root_in (held_unboxed (changes called) v) → SameReferences v w → MadeAs called said (record { number = n; wrote = true }) v w
wrote_as called said n v w write replied x root references =
    let o = changes called in
    let old = root_in (held_unboxed o v) in
    record {
      made = inl (refl, x);
      replied = replied;
      wrote = sym write;
      tables = record {
        hands = λ t. x.hands t ∙ (ap (λ (z : ℕ). hand_after o old z t (stage t v.log)) root ∙ hit old (stage t v.log) _);
        debt = x.debt ∙ (ap (λ (z : ℕ). debt_after o old z (debt v.log)) root ∙ hit old (debt v.log) _);
        references = references;
      };
    }

-- as an entry that isn't a write
pub answered_as : (called : Call) (said : Reply) (n : ℕ) (v w : View) → is_write called said ≡ false → IsReplyTo called said v → w ≡ view_after (Answer called said n) (view_after (ReadCounter n) v) → Answered called said n v w → MadeAs called said (record { number = n; wrote = false }) v w
answered_as called said n v w read replied is x = record {
  made = inr (refl, x);
  replied = replied;
  wrote = sym read;
  tables = record { hands = λ t. ap (λ (z : View). stage t z.log) is; debt = ap (λ (z : View). debt z.log) is; references = λ b. ap (λ (z : View). references_held z.shape b z.log) is };
}

-- ---- the pass is in the midst of its call

wrote_still : (called : Call) (said : Reply) (n : ℕ) (v w : View) → IsStill v → Wrote called said n v w → KeepsTables v w → IsStill w
wrote_still called said n v w s x keeps =
    let o = changes called in
    record {
      even = λ p. x.pass.writes p ∙ s.even p;
      hands = λ t. ⊎_elim (λ (e : stage t v.log ≡ 0). inl (keeps.hands t ∙ e)) (λ (e : stage t v.log ≡ 4). inr (keeps.hands t ∙ e)) (s.hands t);
      used = x.used;
      owes = x.owes;
      flight = x.pass.flight ∙ s.flight;
      boxes = done_stays v w x.made (λ b. keeps.references b ∙ s.boxes.none b) s.boxes;
      stands = λ p low has.
          let shape = x.pass.shape in
          let low' : p < container_count v.shape = subst (λ (k : Shape). p < container_count k) shape low in
          let mine : has_lock p v.log ≡ true = sym (x.pass.locks p) ∙ has in
          let then_stands : Represents v.shape.texts (held_unboxed p w) (known_state p w) =
          dite (ℕ_discrete p o)
          (λ (e : p ≡ o). subst (λ (q : ℕ). Represents v.shape.texts (held_unboxed q w) (known_state q w)) (sym e) x.stands)
          (λ ne.
          let e = x.others p low' ne mine (s.even p) in
          subst (λ (y : ContainerWords × ContainerState). Represents v.shape.texts y.0 y.1) (λ d. (sym e.2 d, sym e.1 d)) (s.stands p low' mine)) in
          subst (λ (k : Shape). Represents k.texts (held_unboxed p w) (known_state p w)) (sym shape) then_stands;
    }

pub making_made : (b : Bank) (p q : Pass) (called : Call) (said : Reply) (stamp : Stamp) → LeavesSections called → IsMaking b p → IsPassOf b q → stack_of q ≡ stack_of p → MadeAs called said stamp (view p) (view q) → IsMaking b q
making_made b p q called said stamp leaves m pass stack made =
    ⊎_elim
    (λ x. making_stays b p q m pass stack x.1.pass.shape x.1.pass.locks x.1.pass.begun (wrote_still called said stamp.number (view p) (view q) m.inside.1.still x.1 made.tables))
    (λ x. making_read b p q called said stamp.number leaves m pass stack x.1)
    made.made

-- ---- entries that aren't writes

pub loaded_same : (v : View) → OnlyLoaded v v
loaded_same v = record { work = same_work v; words = refl; unboxed = λ p low mine. refl; boxes = boxes_same v }

pub shown_replied : (called : Call) (said : Reply) (v : View) (n : ℕ) → IsShownBy called said v → (stored : StoredWorld) → MayHave (view_after (ReadCounter n) v) stored → IsReplied called said (reply_in stored called)
shown_replied called said v n x stored has = x.plain stored (x.replied stored (record { agrees = has.agrees; containers = has.containers; order = has.order; kinds = has.kinds; unsplit = has.unsplit; words = has.words }))

-- ---- after loads, for whoever looked for a key first

pub written_made : (o : ℕ) (left : ContainerState) (called : Call) (said : Reply) (n : ℕ) (stamp : Stamp) (v u w : View) (part : List Act) → OnlyLoaded v u → u.log ≡ part ++ v.log → Leaves o called said left u → Wrote called said n u w → root_in (held_unboxed o w) ≡ root_in (held_unboxed o u) → SameReferences u w → stamp ≡ record { number = n; wrote = true } → MadeAs called said stamp v w
written_made o left called said n stamp v u w part loaded log leaves wrote root references is =
    made_loaded v u loaded called said stamp w part log
    (subst (λ (z : Stamp). MadeAs called said z u w) (sym is)
    (wrote_as called said n u w leaves.write leaves.replied wrote (subst (λ (p : ℕ). root_in (held_unboxed p w) ≡ root_in (held_unboxed p u)) (sym leaves.changed) root) references))

pub answer_loaded : (called : Call) (said given : Reply) (stamp : Stamp) (v u w : View) (part : List Act) → OnlyLoaded v u → u.log ≡ part ++ v.log → given ≡ said → MadeAs called said stamp u w → MadeAs called given stamp v w
answer_loaded called said given stamp v u w part loaded log is made = subst (λ (z : Reply). MadeAs called z stamp v w) (sym is) (made_loaded v u loaded called said stamp w part log made)

-- ---- before the call

pub making_may : (b : Bank) (p : Pass) (k : Shape) (o : ℕ) → IsMaking b p → (view p).shape ≡ k → o < container_count k → IsKeyed (kind_in k.starts o) → has_lock o (view p).log ≡ true → 0 < (view p).left → MayWriteEntries k o (view p)
making_may b p k o m shape low keyed mine left = record {
  container = low;
  keyed = keyed;
  locked = mine;
  even = m.inside.1.still.even;
  stands = subst (λ (z : Shape). Represents z.texts (held_unboxed o (view p)) (known_state o (view p))) shape (m.inside.1.still.stands o (subst (λ (z : Shape). o < container_count z) (sym shape) low) mine);
  owes = m.inside.1.still.owes;
  boxes = subst (λ (z : Shape). IsDoneWithBoxes z (view p).log) shape m.inside.1.still.boxes;
  left = left;
}
