-- What the tries of calls on containers come to, in the words that all calls share.
use Rattle.std.proofs.Common.{◌≡◌, ◌≤◌, ◌<◌, ◌+◌, ◌-◌, ℕ, zero, suc, Bool, true, false, true≢false, List, [], ◌∷◌, ◌++◌, refl, sym, ap, ◌∙◌, subst, arith, ⊎_elim, inr, le_trans}
use Rattle.std.specs.Prelude.{Option, Some, None}
use Rattle.ft_model.specs.declared.call.Call.{Call}
use Rattle.ft_model.specs.declared.reply.Raise.TheVariants as raise
use Rattle.ft_model.specs.declared.reply.Reply.{Reply}
use Rattle.ft_model.specs.declared.reply.Reply.TheVariants as reply
use Rattle.ft_trace.specs.declared.Act.{Act}
use Rattle.ft_trace.specs.declared.Act.TheVariants.{Answer, PutHeader, Retire}
use Rattle.ft_trace.specs.declared.Entry.{Entry}
use Rattle.ft_trace.specs.declared.Shape.{Shape}
use Rattle.ft_trace.specs.declared.View.{View}
use Rattle.ft_trace.specs.Acts.{announces, view_after, seen_writes, presence_after_entry}
use Rattle.ft_trace.specs.Floors.{at_floor}
use Rattle.ft_trace.specs.Hands.{cursor_in}
use Rattle.ft_trace.proofs.Seeing.{seen_up}
use Rattle.ft_trace.specs.Owners.{SameOwners}
use Rattle.ft_trace.proofs.Owning.{owners_then}
use Rattle.ft_bank.specs.declared.takings.Took.{Took}
use Rattle.ft_bank.specs.declared.takings.Took.TheVariants as took
use Rattle.ft_bank.specs.Answered.{Answered}
use Rattle.ft_bank.specs.SameBoxes.{SameReferences}
use Rattle.ft_bank.specs.LastLoads.{IsLastLoad}
use Rattle.ft_bank.specs.Logs.{HasGrown, StaysOnline}
use Rattle.ft_bank.specs.Whole.{OnlyBoxed, OnlyLoaded, SamePass, SameWork, Wrote}
use Rattle.ft_bank.proofs.KnownAfterWrites.{loaded_boxed}
use Rattle.ft_section.specs.declared.answers.Objects.{Objects}
use Rattle.ft_section.specs.declared.answers.Stamp.{Stamp}
use Rattle.ft_section.specs.declared.answers.Step.{Step}
use Rattle.ft_section.specs.declared.answers.Step.TheVariants as step
use Rattle.ft_section.specs.Locking.{FoundOwner, OnlyLocked}
use Rattle.ft_section.specs.LockTakings.{IsOf}
use Rattle.ft_search.specs.KeyLooks.{AnsweredByLook}
use Rattle.ft_search.specs.MadeCalls.{MadeAs}
use Rattle.ft_search.proofs.Calling.{loaded_same}
use Rattle.ft_table_calls.specs.declared.adding.Added.{Added}
use Rattle.ft_table_calls.specs.declared.adding.Added.TheVariants as added
use Rattle.ft_table_calls.specs.declared.made.Made.{Made}
use Rattle.ft_table_calls.specs.declared.made.Made.TheVariants as made
use Rattle.ft_table_calls.specs.Adding.{GaveUp, IsAdded, IsAddedWith, Retires, TriedTaking, WroteWith}
use Rattle.ft_table_calls.specs.TriesUnderLocks.{IsMade, IsRead, IsTry, UnderLocks, made_after}
use Rattle.ft_reads.specs.Clears.{IsClear, IsCleared}
use Rattle.ft_reads.specs.Copies.{IsCopy}
use Rattle.ft_engine.specs.Answering.{MakesEntry, MakesNoEntry, FoundWordsChanged, StaysPass, copies}
use Rattle.ft_engine.specs.Keeping.{made_entry}
use Rattle.ft_engine.proofs.Within.{HasWithin, answered_owners, loaded_owners, made_owners, retired_owners, tried_owners, within_then, wrote_owners}
use Rattle.ft_engine.proofs.SectionCalls.{nothing_entry, nothing_then, only_nothing, same_nothing}

-- what a try comes to, but for the sections
abbrev pub Outcome : Call → Objects → View → View → Step → Type 0
Outcome called objects v w (step.Done said stamp) = MakesEntry called said stamp v w × HasWithin objects v w
Outcome called objects v w (step.NotYet o owner) = OnlyLocked v w × IsOf o objects × FoundOwner o owner v w
Outcome called objects v w (step.Moved a b) = MakesNoEntry v w × HasWithin objects v w × FoundWordsChanged a b v w
Outcome called objects v w step.NoMemory = MakesNoEntry v w × HasWithin objects v w × (copies called ≡ true)

-- ---- parts of calls

stays_same : (v w : View) → SamePass v w → StaysPass v w
stays_same v w p = record { number = p.number; next = p.next; parts = p.parts; shape = p.shape; lists = p.lists; online = λ on. subst (λ (n : ℕ). 0 < n) (sym p.announced) on; floor = p.floor; since = p.since; seen = p.seen; grown = p.grown; stays_online = p.stays_online }

pub loaded_nothing : (v w : View) → OnlyLoaded v w → MakesNoEntry v w
loaded_nothing v w l = record { pass = stays_same v w l.work.pass; entries = l.work.entries; left = l.work.left; cursors = l.work.pass.cursors }

entry_as : (called : Call) (said : Reply) (stamp : Stamp) (b : Bool) → stamp.wrote ≡ b → record { call = called; reply = said; stamp = stamp.number; wrote = b } ≡ made_entry called said stamp
entry_as called said stamp b is = ap (λ (x : Bool). record { call = called; reply = said; stamp = stamp.number; wrote = x }) (sym is)

pub wrote_entry : (called : Call) (said : Reply) (stamp : Stamp) (v w : View) → stamp.wrote ≡ true → Wrote called said stamp.number v w → MakesEntry called said stamp v w
wrote_entry called said stamp v w is x = record {
  pass = stays_same v w x.pass;
  entries = x.entries ∙ ap (λ (e : Entry). e ∷ v.entries) (entry_as called said stamp true is);
  left = x.left;
  seen = x.seen;
  loaded = λ read. absurd (true≢false (sym is ∙ read));
  shows = λ _. x.shows;
  cursors = λ number other. x.pass.cursors number;
}

-- an entry that isn't a write, after steps that leave what the pass is at
entry_adds : (called : Call) (said : Reply) (stamp : Stamp) (v u w : View) (part : List Act) → stamp.wrote ≡ false → 0 < v.left → SameWork v u → u.log ≡ part ++ v.log → IsLastLoad stamp.number part → w ≡ view_after (Answer called said stamp.number) u → seen_writes v ≤ stamp.number → MakesEntry called said stamp v w
entry_adds called said stamp v u w part is left l own counted answered least =
    record {
      pass = record {
        number = ap (λ (z : View). z.number) answered ∙ l.pass.number;
        next = ap (λ (z : View). z.next) answered ∙ l.pass.next;
        parts = ap (λ (z : View). z.parts) answered ∙ l.pass.parts;
        shape = ap (λ (z : View). z.shape) answered ∙ l.pass.shape;
        lists = ap (λ (z : View). z.lists) answered ∙ l.pass.lists;
        online = λ on. subst (λ (n : ℕ). 0 < n) (sym (ap (λ (z : View). announces z.log) answered ∙ l.pass.announced)) on;
        floor = ap (λ (z : View). z.has_floor) answered ∙ l.pass.floor;
        since = ap (λ (z : View). at_floor z.log) answered ∙ l.pass.since;
        seen = subst (λ (z : View). seen_writes v ≤ seen_writes z) (sym answered) (le_trans l.pass.seen (seen_up (Answer called said stamp.number) u));
        grown = subst (λ (z : View). HasGrown v z) (sym answered) (λ old was. inr (l.pass.grown old was));
        stays_online = subst (λ (z : View). StaysOnline v z) (sym answered) (λ here. ap presence_after_entry (l.pass.stays_online here));
      };
      entries = ap (λ (z : View). z.entries) answered ∙ (ap (λ (e : Entry). e ∷ u.entries) (entry_as called said stamp false is) ∙ ap (λ (es : List Entry). made_entry called said stamp ∷ es) l.entries);
      left =
          let a : w.left ≡ u.left - 1 = ap (λ (z : View). z.left) answered in
          let b = l.left in
          let e : v.left ≡ suc w.left = omega (arith, a, b, left) in e;
      seen = least;
      loaded = λ _. record {
        later = [];
        answer = Answer called said stamp.number;
        part = part;
        own = ap (λ (z : View). z.log) answered ∙ ap (λ (log : List Act). Answer called said stamp.number ∷ log) own;
        answers = (refl, refl);
        loaded = counted;
      };
      shows = λ wrote. absurd (true≢false (sym wrote ∙ is));
      cursors = λ number other. ap (λ (z : View). cursor_in number z.log) answered ∙ l.pass.cursors number;
    }

pub answered_adds : (called : Call) (said : Reply) (stamp : Stamp) (v w : View) → stamp.wrote ≡ false → 0 < v.left → Answered called said stamp.number v w → MakesEntry called said stamp v w
answered_adds called said stamp v w is left x = entry_adds called said stamp v x.before w x.part is left x.loaded.work x.own x.counted x.answered x.seen

-- after the steps of a look
pub look_adds : (called : Call) (said : Reply) (stamp : Stamp) (v w : View) → stamp.wrote ≡ false → 0 < v.left → AnsweredByLook called said stamp.number v w → MakesEntry called said stamp v w
look_adds called said stamp v w is left x = entry_adds called said stamp v x.before w x.part is left x.looked.boxed.work x.own x.counted x.answered x.seen

made_adds : (called : Call) (said : Reply) (stamp : Stamp) (v w : View) → 0 < v.left → MadeAs called said stamp v w → MakesEntry called said stamp v w
made_adds called said stamp v w left m =
    ⊎_elim (λ x. wrote_entry called said stamp v w x.0 x.1) (λ x. answered_adds called said stamp v w x.0 left x.1) m.made

-- ---- calls that may take a table

tried_nothing : (k : Shape) (class : ℕ) (result : Took) (v w : View) → TriedTaking k class result v w → MakesNoEntry v w
tried_nothing k class result v w t = record { pass = stays_same v w t.same; entries = t.keeps.held.entries; left = t.keeps.held.left; cursors = t.same.cursors }

unfloored : (f : Bool) → (f ≡ true → ⊥) → f ≡ false
unfloored true never = absurd (never refl)
unfloored false never = refl

-- a taking that found words changed
moved_by : (k : Shape) (class a b : ℕ) (v w : View) → TriedTaking k class (took.Moved a b) v w → FoundWordsChanged a b v w
moved_by k class a b v w t = record {
  before = v;
  earlier = same_nothing v;
  class = class;
  after = w;
  tried = record { mid = t.mid; freed = t.freed; collected = t.collected; acts = t.acts; did = t.did; taking = t.taking; has = t.has; same = t.same; keeps = t.keeps; floor = t.floor; hands = t.hands };
  later = same_nothing w;
  floor = unfloored v.has_floor t.floor;
}

-- the same with what came before and after it
pub moved_then : (a b : ℕ) (u v w z : View) → MakesNoEntry u v → FoundWordsChanged a b v w → MakesNoEntry w z → FoundWordsChanged a b u z
moved_then a b u v w z first m last = record {
  before = m.before;
  earlier = nothing_then u v m.before first m.earlier;
  class = m.class;
  after = m.after;
  tried = m.tried;
  later = nothing_then m.after w z m.later last;
  floor = sym first.pass.floor ∙ m.floor;
}

pub retired_nothing : (root : ℕ) (v w : View) → Retires root v w → MakesNoEntry v w
retired_nothing zero v w is = subst (MakesNoEntry v) (sym is) (record { pass = record { number = refl; next = refl; parts = refl; shape = refl; lists = refl; online = λ on. on; floor = refl; since = refl; seen = omega arith; grown = λ old was. was; stays_online = λ is. is }; entries = refl; left = refl; cursors = λ n. refl })
retired_nothing (suc t) v w (n, is) =
    subst (MakesNoEntry v) (sym is)
    (record {
      pass = record { number = refl; next = refl; parts = refl; shape = refl; lists = refl; online = λ on. on; floor = refl; since = refl; seen = le_trans (seen_up (Retire t n) v) (seen_up (PutHeader t (n + 1)) (view_after (Retire t n) v)); grown = λ old was. inr (inr was); stays_online = λ is. is };
      entries = refl;
      left = refl;
      cursors = λ number. refl;
    })

pub before_adds : (called : Call) (said : Reply) (stamp : Stamp) (u v w : View) → MakesNoEntry u v → MakesEntry called said stamp v w → MakesEntry called said stamp u w
before_adds called said stamp u v w before adds = nothing_entry called said stamp u v w w before adds.seen adds (same_nothing w)

-- a write after steps that add nothing, and before such
write_adds : (called : Call) (said : Reply) (stamp : Stamp) (u v w z : View) → stamp.wrote ≡ true → MakesNoEntry u v → Wrote called said stamp.number v w → MakesNoEntry w z → MakesEntry called said stamp u z
write_adds called said stamp u v w z is before x after = nothing_entry called said stamp u v w z before x.seen (wrote_entry called said stamp v w is x) after

with_adds : (R : View → View → Type 0) (k : Shape) (takes : Option ℕ) (called : Call) (said : Reply) (stamp : Stamp) (v w : View) → stamp.wrote ≡ true → WroteWith R k takes called said stamp.number v w → MakesEntry called said stamp v w
with_adds R k None called said stamp v w is x = wrote_entry called said stamp v w is x.wrote
with_adds R k (Some class) called said stamp v w is x =
    write_adds called said stamp v x.taken x.done w is (tried_nothing k class (took.Taken x.table) v x.taken x.tried) x.wrote (retired_nothing _ x.done w x.retired)

with_owners : (R : View → View → Type 0) (k : Shape) (takes : Option ℕ) (called : Call) (said : Reply) (n : ℕ) (v w : View) → WroteWith R k takes called said n v w → SameOwners v w
with_owners R k None called said n v w x = wrote_owners called said n v w x.wrote
with_owners R k (Some class) called said n v w x =
    owners_then v x.taken w (tried_owners k class (took.Taken x.table) v x.taken x.tried)
    (owners_then x.taken x.done w (wrote_owners called said n x.taken x.done x.wrote) (retired_owners _ x.done w x.retired))

-- ---- what calls come to under their locks

abbrev pub Comes : Call → View → View → Made → Type 0
Comes called v w (made.Done said stamp) = MakesEntry called said stamp v w × SameOwners v w
Comes called v w (made.Moved a b) = MakesNoEntry v w × SameOwners v w × FoundWordsChanged a b v w
Comes called v w made.NoMemory = MakesNoEntry v w × SameOwners v w × (copies called ≡ true)

pub read_comes : (called : Call) (v w : View) (came : Made) → 0 < v.left → IsRead called came v w → Comes called v w came
read_comes called v w (made.Done said stamp) left x = (answered_adds called said stamp v w x.1 left x.0, answered_owners called said stamp.number v w x.0)
read_comes called v w (made.Moved a b) left x = absurd x
read_comes called v w made.NoMemory left x = absurd x

pub made_comes : (called : Call) (v w : View) (came : Made) → 0 < v.left → IsMade called came v w → Comes called v w came
made_comes called v w (made.Done said stamp) left x = (made_adds called said stamp v w left x, made_owners called said stamp v w x)
made_comes called v w (made.Moved a b) left x = absurd x
made_comes called v w made.NoMemory left x = absurd x

pub copy_comes : (called : Call) (v w : View) (came : Made) → copies called ≡ true → 0 < v.left → IsCopy called came v w → Comes called v w came
copy_comes called v w (made.Done said stamp) copying left x = made_comes called v w (made.Done said stamp) left x
copy_comes called v w (made.Moved a b) copying left x = absurd x
copy_comes called v w made.NoMemory copying left x = (loaded_nothing v w x.0, loaded_owners v w x.0, copying)

added_comes : (R : View → View → Type 0) (k : Shape) (takes : Option ℕ) (over : Bool) (called : Call) (said : Reply) (v w : View) (what : Added) → 0 < v.left → IsAddedWith R k takes over called said v w what → Comes called v w (made_after what said)
added_comes R k takes over called said v w (added.Made stamp) left x = (with_adds R k takes called said stamp v w x.1 x.2, with_owners R k takes called said stamp.number v w x.2)
added_comes R k takes over called said v w (added.NoTable class stamp) left x =
    let n = tried_nothing k class took.AllTaken v x.3.0 x.3.1 in
    let adds = answered_adds called (reply.Raised (raise.Memory class)) stamp x.3.0 w x.1 (subst (λ (z : ℕ). 0 < z) (sym n.left) left) x.3.2 in
    (before_adds called (reply.Raised (raise.Memory class)) stamp v x.3.0 w n adds, owners_then v x.3.0 w (tried_owners k class took.AllTaken v x.3.0 x.3.1) (answered_owners called (reply.Raised (raise.Memory class)) stamp.number x.3.0 w x.3.2))
added_comes R k takes over called said v w (added.Over stamp) left x = (answered_adds called (reply.Raised raise.Over) stamp v w x.1 left x.2, answered_owners called (reply.Raised raise.Over) stamp.number v w x.2)
added_comes R k takes over called said v w (added.NoPlace stamp) left x = absurd x
added_comes R k takes over called said v w (added.Moved a b) left x = (tried_nothing k x.1.0 (took.Moved a b) v w x.1.2, tried_owners k x.1.0 (took.Moved a b) v w x.1.2, moved_by k x.1.0 a b v w x.1.2)

-- ---- calls that may take a table, and store a value in a box

pub boxed_nothing : (v w : View) → OnlyBoxed v w → MakesNoEntry v w
boxed_nothing v w l = record { pass = stays_same v w l.work.pass; entries = l.work.entries; left = l.work.left; cursors = l.work.pass.cursors }

-- between steps that make no entry
pub around_comes : (called : Call) (came : Made) (v u w z : View) → MakesNoEntry v u → SameOwners v u → Comes called u w came → MakesNoEntry w z → SameOwners w z → Comes called v z came
around_comes called (made.Done r s) v u w z n o comes m p = (nothing_entry called r s v u w z n comes.0.seen comes.0 m, owners_then v u z o (owners_then u w z comes.1 p))
around_comes called (made.Moved a b) v u w z n o comes m p = (nothing_then v u z n (nothing_then u w z comes.0 m), owners_then v u z o (owners_then u w z comes.1 p), moved_then a b v u w z n comes.2 m)
around_comes called made.NoMemory v u w z n o comes m p = (nothing_then v u z n (nothing_then u w z comes.0 m), owners_then v u z o (owners_then u w z comes.1 p), comes.2)

-- after steps with boxes and before such
pub held_comes : (R : View → View → Type 0) (k : Shape) (takes : Option ℕ) (over : Bool) (called : Call) (said : Reply) (v x y w : View) (what : Added) → 0 < v.left → OnlyBoxed v x → IsAddedWith R k takes over called said x y what → OnlyBoxed y w → Comes called v w (made_after what said)
held_comes R k takes over called said v x y w what left before is after =
    let n = boxed_nothing v x before in
    around_comes called (made_after what said) v x y w n before.work.pass.owners (added_comes R k takes over called said x y what (subst (λ (z : ℕ). 0 < z) (sym n.left) left) is) (boxed_nothing y w after) after.work.pass.owners

-- after loads
pub loaded_comes : (k : Shape) (takes : Option ℕ) (over : Bool) (called : Call) (said : Reply) (v u w : View) (what : Added) → 0 < v.left → OnlyLoaded v u → IsAdded k takes over called said u w what → Comes called v w (made_after what said)
loaded_comes k takes over called said v u w what left l x =
    held_comes SameReferences k takes over called said v u w w what left (loaded_boxed v u l) x (loaded_boxed w w (loaded_same w))

-- an entry that isn't a write
pub boxed_answered_comes : (called : Call) (said : Reply) (stamp : Stamp) (v u w : View) → 0 < v.left → stamp.wrote ≡ false → OnlyBoxed v u → Answered called said stamp.number u w → Comes called v w (made.Done said stamp)
boxed_answered_comes called said stamp v u w left unwritten before a =
    let n = boxed_nothing v u before in
    around_comes called (made.Done said stamp) v u w w n before.work.pass.owners (answered_adds called said stamp u w unwritten (subst (λ (z : ℕ). 0 < z) (sym n.left) left) a, answered_owners called said stamp.number u w a) (same_nothing w) (record { had = refl; found = refl })

pub boxed_wrote_comes : (called : Call) (said : Reply) (stamp : Stamp) (v u w : View) → stamp.wrote ≡ true → OnlyBoxed v u → Wrote called said stamp.number u w → Comes called v w (made.Done said stamp)
boxed_wrote_comes called said stamp v u w wrote before x =
    around_comes called (made.Done said stamp) v u w w (boxed_nothing v u before) before.work.pass.owners (wrote_entry called said stamp u w wrote x, wrote_owners called said stamp.number u w x) (same_nothing w) (record { had = refl; found = refl })

-- a clear
gave_up_adds : (called : Call) (said : Reply) (stamp : Stamp) (v u w : View) → stamp.wrote ≡ true → OnlyLoaded v u → GaveUp called said stamp.number u w → MakesEntry called said stamp v w
gave_up_adds called said stamp v u w is l x = write_adds called said stamp v u x.done w is (loaded_nothing v u l) x.wrote (retired_nothing _ x.done w x.retired)

gave_up_owners : (called : Call) (said : Reply) (n : ℕ) (v u w : View) → OnlyLoaded v u → GaveUp called said n u w → SameOwners v w
gave_up_owners called said n v u w l x =
    owners_then v u w (loaded_owners v u l) (owners_then u x.done w (wrote_owners called said n u x.done x.wrote) (retired_owners _ x.done w x.retired))

pub cleared_comes : (called : Call) (stamp : Stamp) (v w : View) → IsCleared called stamp v w → Comes called v w (made.Done reply.Done stamp)
cleared_comes called stamp v w x = (gave_up_adds called reply.Done stamp v x.1.0 w x.0 x.1.1 x.1.2, gave_up_owners called reply.Done stamp.number v x.1.0 w x.1.1 x.1.2)

pub clear_comes : (called : Call) (v w : View) (came : Made) → IsClear called came v w → Comes called v w came
clear_comes called v w (made.Done said stamp) x = subst (λ (r : Reply). Comes called v w (made.Done r stamp)) (sym x.0) (cleared_comes called stamp v w x.1)
clear_comes called v w (made.Moved a b) x = absurd x
clear_comes called v w made.NoMemory x = absurd x

-- ---- their tries

module _ (called : Call) (objects : Objects) (F : Made → View → View → Type 0) (v w : View) (left : 0 < v.left) (each : (came : Made) (u z : View) → 0 < u.left → F came u z → Comes called u z came) where
  came_to : (came : Made) (x : UnderLocks objects (F came) v w) → Comes called x.before x.after came
  came_to came x = each came x.before x.after (subst (λ (n : ℕ). 0 < n) (sym x.took.left) left) x.did

  within : (came : Made) (x : UnderLocks objects (F came) v w) → x.after.number ≡ x.before.number → SameOwners x.before x.after → HasWithin objects v w
  within came x number owners = within_then objects v x.before x.after w x.took x.within number owners x.gone x.owners

  nothing : (came : Made) (x : UnderLocks objects (F came) v w) → MakesNoEntry x.before x.after → MakesNoEntry v w
  nothing came x none = nothing_then v x.before w (only_nothing v x.before x.took) (nothing_then x.before x.after w none (only_nothing x.after w x.gone))

  pub try_outcome : (result : Step) → IsTry objects F v w result → Outcome called objects v w result
  try_outcome (step.Done said stamp) x =
      let came = made.Done said stamp in
      let c = came_to came x in
      (nothing_entry called said stamp v x.before x.after w (only_nothing v x.before x.took) c.0.seen c.0 (only_nothing x.after w x.gone), within came x c.0.pass.number c.1)
  try_outcome (step.NotYet o owner) x = x
  try_outcome (step.Moved a b) x =
      let came = made.Moved a b in
      let c = came_to came x in
      (nothing came x c.0, within came x c.0.pass.number c.1, moved_then a b v x.before x.after w (only_nothing v x.before x.took) c.2 (only_nothing x.after w x.gone))
  try_outcome step.NoMemory x = let c = came_to made.NoMemory x in (nothing made.NoMemory x c.0, within made.NoMemory x c.0.pass.number c.1, c.2)
