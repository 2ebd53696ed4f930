-- Calls under locks: what a pass in the midst of a call may do with a list, and that it is in the midst of its call still
-- once it has.
use Rattle.std.proofs.Common.{◌≡◌, ℕ, ◌<◌, ◌≤◌, Bool, true, false, List, ◌++◌, Some, None, refl, sym, ap, ◌∙◌, subst, inr}
use Rattle.std.specs.Prelude.{◌&&◌, not, if◌then◌else◌}
use Rattle.std.specs.Option.{unwrap_or}
use Rattle.ft_model.specs.declared.call.Call.{Call}
use Rattle.ft_model.specs.declared.call.Call.TheVariants as call
use Rattle.ft_model.specs.declared.call.ListCall.{ListCall}
use Rattle.ft_model.specs.declared.content.Content.TheVariants as content
use Rattle.ft_model.specs.declared.data.Value.{Value}
use Rattle.ft_model.specs.declared.reply.Reply.{Reply}
use Rattle.ft_model.specs.declared.script.Kind.TheVariants as kind
use Rattle.ft_model.specs.Answers.{answer_list, is_write}
use Rattle.ft_model.specs.Calls.{is_changing_list}
use Rattle.ft_model.specs.Answers.{Answer as Given}
use Rattle.ft_model.specs.TableUses.{StoredWorld}
use Rattle.ft_model.specs.Worlds.{no_hands}
use Rattle.ft_trace.specs.declared.Act.{Act}
use Rattle.ft_trace.specs.declared.Act.TheVariants.{Answer, ReadCounter}
use Rattle.ft_trace.specs.declared.Shape.{Shape}
use Rattle.ft_trace.specs.declared.View.{View}
use Rattle.ft_trace.specs.Acts.{has_lock, stage, debt, view_after, shown}
use Rattle.ft_trace.specs.Addresses.{container_count}
use Rattle.ft_trace.specs.Holds.{held_unboxed, known_state}
use Rattle.ft_trace.specs.Traces.{IsReachable}
use Rattle.ft_trace.specs.Pictures.{root_in}
use Rattle.ft_trace.specs.ContainerStates.{kind_in, changes, reply_in}
use Rattle.ft_bank.specs.declared.bank.Bank.{Bank}
use Rattle.ft_bank.specs.declared.pass.Pass.{Pass}
use Rattle.ft_bank.specs.Answered.{Answered}
use Rattle.ft_bank.specs.Passes.{shape_of, view}
use Rattle.ft_bank.specs.Reads.{IsShown}
use Rattle.ft_bank.specs.Whole.{OnlyLoaded, Wrote}
use Rattle.ft_bank.specs.WriteSteps.{MayHave}
use Rattle.ft_bank.proofs.KnownAfterWrites.{loaded_by, loaded_held, loaded_then, work_knows}
use Rattle.ft_section.specs.declared.answers.Stamp.{Stamp}
use Rattle.ft_section.specs.Ready.{IsMaking}
use Rattle.ft_search.proofs.Asking.{held_shown, answered_locked}
use Rattle.ft_search.proofs.Calling.{loaded_answered, loaded_wrote, replied_loaded, wrote_as as written}
use Rattle.ft_search.proofs.Lengths.{IsPlain}
use Rattle.ft_search.proofs.ReadMidst.{making_stands}
use Rattle.ft_list.specs.ListWrites.{MayWriteList, Changes, Raises}
use Rattle.ft_list.specs.ListItemWrites.{known_items}
use Rattle.ft_search.specs.MadeCalls.{IsReplyTo, KeepsTables, MadeAs}
use Rattle.ft_list.proofs.Commits.{list_is}
use Rattle.ft_list.proofs.Lists.{content_of}
use Rattle.ft_list.proofs.WholeListWrites.{has_before}
use Rattle.ft_list.proofs.Raising.{raised, and_false}
use Rattle.ft_trace.specs.Boxes.{IsDoneWithBoxes, references_held}
use Rattle.ft_bank.specs.SameBoxes.{SameReferences}

-- ---- before the call

pub may_write : (b : Bank) (p : Pass) (o : ℕ) → IsMaking b p → o < container_count (shape_of b) → kind_in (shape_of b).starts o ≡ kind.List → has_lock o (view p).log ≡ true → 0 < (view p).left → MayWriteList (shape_of b) o (view p)
may_write b p o m low is mine left =
    let same = m.inside.0.1 in
    record {
      container = low;
      kind = is;
      locked = mine;
      even = m.inside.1.still.even;
      stands = making_stands b p (shape_of b).texts o m (ap (λ (k : Shape). k.texts) same) (subst (λ (k : Shape). o < container_count k) (sym same) low) mine;
      owes = m.inside.1.still.owes;
      boxes = subst (λ (z : Shape). IsDoneWithBoxes z (view p).log) same m.inside.1.still.boxes;
      left = left;
    }

-- ---- the reply

module _ (o : ℕ) (lc : ListCall) (said : Reply) (values : List Value) (v : View) (low : o < container_count v.shape) (mine : has_lock o v.log ≡ true) (is_list : (known_state o v).content ≡ content.List values) where
  -- it is that of the plain list with the items that the pass knows
  pub reply_of_list : ((stored : StoredWorld) → MayHave v stored → (answer_list stored.world no_hands o values lc).reply ≡ said) → IsReplyTo (call.List o lc) said v
  reply_of_list replied stored has = ap (λ (l : List Value). (answer_list stored.world no_hands o l lc).reply) (list_is o lc said values values v low mine is_list stored has) ∙ replied stored has

  pub reply_changes : (news : List Value) → Changes o lc said values news v → IsReplyTo (call.List o lc) said v
  reply_changes news c = reply_of_list (λ stored has. ap (λ (z : Given). z.reply) (c.write.answered stored has))

  pub reply_raises : Raises o lc said values → IsReplyTo (call.List o lc) said v
  reply_raises r = reply_of_list (λ stored has. ap (λ (z : Given). z.reply) (r.answered stored.world))

-- ---- tables in hand

pub tables_answered : (called : Call) (said : Reply) (n : ℕ) (v w : View) → Answered called said n v w → KeepsTables v w
tables_answered called said n v w x = record {
  hands = λ t. ap (λ (z : View). stage t z.log) x.answered ∙ x.loaded.work.hands t;
  debt = ap (λ (z : View). debt z.log) x.answered ∙ x.loaded.work.debt;
  references = λ b. ap (λ (z : View). references_held z.shape b z.log) x.answered ∙ x.loaded.boxes.references b;
}

-- ---- the call as one made

-- as a call that isn't one
pub made_read : (called : Call) (said : Reply) (stamp : Stamp) (v w : View) → IsReplyTo called said v → is_write called said ≡ false → stamp.wrote ≡ false → Answered called said stamp.number v w → MadeAs called said stamp v w
made_read called said stamp v w replied read wrote x = record {
  made = inr (wrote, x);
  replied = replied;
  wrote = wrote ∙ sym read;
  tables = tables_answered called said stamp.number v w x;
}

-- a list that a pass with its lock has, where the call is a write that leaves its table, or raises
module _ (k : Shape) (o : ℕ) (lc : ListCall) (said : Reply) (v u w : View) (shape : u.shape ≡ k) (possible : ∥ IsReachable u ∥₁) (may : MayWriteList k o u) (loaded : OnlyLoaded v u) where
  abbrev called : Call
  called = call.List o lc

  inside : o < container_count u.shape
  inside = subst (λ (z : Shape). o < container_count z) (sym shape) may.container

  is_list : (known_state o u).content ≡ content.List (known_items o u)
  is_list = content_of k o u shape possible may

  pub wrote_as : (n : ℕ) (news : List Value) → Changes o lc said (known_items o u) news u → Wrote called said n u w → root_in (held_unboxed o w) ≡ root_in (held_unboxed o u) → SameReferences u w → MadeAs called said (record { number = n; wrote = true }) v w
  wrote_as n news c x root references =
      let at : o ≡ changes called = sym (ap (λ (b : Bool). unwrap_or (if b then Some o else None) 0) c.write.changing) in
      written called said n v w (λ d. c.write.changing d && not (c.write.raises d))
      (replied_loaded v u loaded called said (reply_changes o lc said (known_items o u) u inside may.locked is_list news c))
      (loaded_wrote v u loaded called said n w x)
      (subst (λ (p : ℕ). root_in (held_unboxed p w) ≡ root_in (held_unboxed p v)) at (root ∙ ap root_in (loaded_held v u o loaded)))
      (λ b. references b ∙ loaded.boxes.references b)

  pub raised_as : (stamp : Stamp) (part : List Act) → u.log ≡ part ++ v.log → Raises o lc said (known_items o u) → stamp.wrote ≡ false → Answered called said stamp.number u w → MadeAs called said stamp v w
  raised_as stamp part log r wrote x =
      made_read called said stamp v w (replied_loaded v u loaded called said (reply_raises o lc said (known_items o u) u inside may.locked is_list r))
      (ap (λ (b : Bool). is_changing_list lc && not b) (raised said r.raises) ∙ and_false (is_changing_list lc)) wrote
      (loaded_answered v u loaded called said stamp.number w part log x)

-- ---- calls that read, with the stamp that is loaded under the lock

module _ (called : Call) (said : Reply) (plain : IsPlain called said) (v u : View) (loaded : OnlyLoaded v u) (replied : IsReplyTo called said v) where
  pub read_shown : (n : ℕ) → 0 < v.left → IsShown (view_after (ReadCounter n) u) called said n
  read_shown n left =
      let both = loaded_then v u (view_after (ReadCounter n) u) loaded (loaded_by (ReadCounter n) u (view_after (ReadCounter n) u) tt refl) in
      let had = has_before v (view_after (ReadCounter n) u) (λ p. work_knows v (view_after (ReadCounter n) u) p both.work) both.work.pass.shape (λ p mine. both.work.pass.locks p ∙ mine) in
      held_shown v u n loaded left called said plain.reads plain.cursor
      (λ stored has. plain.replied (reply_in stored called) (sym (replied stored (had stored has))))
      (λ stored. plain.cause stored (view_after (ReadCounter n) u) n)

  pub read_made : (z : View) (given reply : Reply) (stamp : Stamp) (part : List Act) → u.log ≡ part ++ v.log → z ≡ view_after (Answer called given stamp.number) (view_after (ReadCounter stamp.number) u) → given ≡ said → reply ≡ given → stamp.wrote ≡ false → v.learnt ≤ shown v.log → ∥ IsReachable z ∥₁ → MadeAs called reply stamp v z
  read_made z given reply stamp part own did is same wrote settled possible =
      subst (λ (r : Reply). MadeAs called r stamp v z) (sym (same ∙ is))
      (made_read called said stamp v z replied plain.reads wrote (answered_locked v u z called said stamp.number part loaded own (did ∙ ap (λ (r : Reply). view_after (Answer called r stamp.number) (view_after (ReadCounter stamp.number) u)) is) settled possible))
