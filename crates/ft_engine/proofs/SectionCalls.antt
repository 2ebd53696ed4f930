-- What `begin`, `end` and `quiesce` come to, as their pass has it.
use Rattle.std.proofs.Common.{◌≡◌, ◌≢◌, ⊎_elim, ◌≤◌, ◌<◌, ◌-◌, ℕ, zero, suc, Bool, true, false, true≢false, List, [], ◌∷◌, ◌++◌, map, reverse, length, drop, refl, sym, ap, ◌∙◌, subst, arith, inl, inr, le_trans, append_assoc}
use Rattle.std.specs.Prelude.{Option, Some, None, ◌⊎◌, option_map, slice_index_or, if◌then◌else◌}
use Rattle.std.proofs.lemmas.Bool.{ne_eqb}
use Rattle.std.proofs.lemmas.List.{map-append, reverse-append, same_from_push}
use Rattle.ft_model.specs.declared.call.Call.{Call}
use Rattle.ft_model.specs.declared.call.Call.TheVariants as call
use Rattle.ft_model.specs.declared.cursor.Cursor.{Cursor}
use Rattle.ft_model.specs.declared.reply.Reply.{Reply}
use Rattle.ft_model.specs.declared.reply.Reply.TheVariants as reply
use Rattle.ft_model.specs.Histories.{IsCountedAs}
use Rattle.ft_trace.specs.declared.Act.{Act}
use Rattle.ft_trace.specs.declared.Act.TheVariants.{Announce, Answer, ReadCounter, WriteNumber}
use Rattle.ft_trace.specs.declared.Entry.{Entry}
use Rattle.ft_trace.specs.declared.View.{View}
use Rattle.ft_trace.specs.Acts.{announces, has_lock, view_after, seen_writes, presence_after_entry, presence_after_announcing, presence_of}
use Rattle.ft_trace.specs.Boxes.{HasMergedBoxes, local_count, made_state, state_default, state_merged}
use Rattle.ft_trace.specs.Floors.{at_floor}
use Rattle.ft_trace.specs.Hands.{cursor_in}
use Rattle.ft_trace.specs.BegunSections.{begun}
use Rattle.ft_trace.proofs.Seeing.{seen_up}
use Rattle.ft_bank.specs.declared.bank.Bank.{Bank}
use Rattle.ft_bank.specs.declared.pass.Pass.{Pass}
use Rattle.ft_bank.specs.declared.sections.OpenSection.{OpenSection}
use Rattle.ft_bank.specs.declared.sections.Taking.{Taking}
use Rattle.ft_bank.specs.Logs.{HasGrown, StaysOnline}
use Rattle.ft_bank.specs.Passes.{view, IsPassOf}
use Rattle.ft_bank.specs.PassSections.{Stack, stack_of}
use Rattle.ft_bank.specs.Whole.{OnlyBoxed}
use Rattle.ft_bank.proofs.LastLoads.{last_older}
use Rattle.ft_bank.proofs.Logs.{grown_by, newer_part}
use Rattle.ft_boxes.specs.Merging.{FoundCounts, LeavesNoIdleBox, MergesIdleBoxes}
use Rattle.ft_qsbr.specs.Collecting.{Collected, loads_of}
use Rattle.ft_section.specs.declared.answers.Ended.{Ended}
use Rattle.ft_section.specs.declared.answers.Ended.TheVariants as ended
use Rattle.ft_section.specs.declared.answers.Objects.{Objects}
use Rattle.ft_section.specs.declared.answers.Stamp.{Stamp}
use Rattle.ft_section.specs.AnswerFacts.{stamp_of}
use Rattle.ft_section.specs.Locking.{KeepsLocks, OnlyLocked, with_own}
use Rattle.ft_section.specs.Ready.{InCall, IsReady, IsStill, MayResume}
use Rattle.ft_section.specs.Sectioning.{answered_view, begin_of, ended_by, reply_of}
use Rattle.ft_section.specs.LockTakings.{HasBoth, HasLocks}
use Rattle.ft_section.proofs.Goings.{only_sees}
use Rattle.ft_section.proofs.MidstOfCall.{in_call_stays}
use Rattle.ft_model.specs.Worlds.{container_of}
use Rattle.ft_trace.specs.Owners.{FindsMore, SameOwners}
use Rattle.ft_trace.proofs.Owning.{finds_more_then, grown_finds_more, owners_then}
use Rattle.ft_engine.specs.Answering.{HasLoaded, MakesEntry, MakesNoEntry, HasAnswer, KnewNone, StaysPass}
use Rattle.ft_engine.specs.Flights.{objects_of}
use Rattle.ft_table_calls.specs.TriesUnderLocks.{objects_by}
use Rattle.ft_engine.specs.Keeping.{made_entry, section_marks}
use Rattle.ft_engine.specs.Stacks.{Opens}
use Rattle.ft_engine.proofs.WaitCounts.{last_of}
use Rattle.ft_engine.proofs.Within.{walked_none}
use Rattle.ft_engine.proofs.PassesAfter.{IsCalm, ready_calm, same_done, stays_online}
use Rattle.ft_qsbr.proofs.PassesStay.{collection_leaves, presence_stays}

-- ---- locks alone

pub only_stays : (v w : View) → OnlyLocked v w → StaysPass v w
only_stays v w only = record {
  number = only.number;
  next = only.next;
  parts = only.parts;
  shape = only.shape;
  lists = only.lists;
  online = λ on. subst (λ (n : ℕ). 0 < n) (sym only.announced) on;
  floor = only.floor;
  since = only.since;
  seen = only_sees v w only;
  grown = grown_by only.newer v w only.grew;
  stays_online = only.stays_online;
}

pub only_nothing : (v w : View) → OnlyLocked v w → MakesNoEntry v w
only_nothing v w only = record { pass = only_stays v w only; entries = only.entries; left = only.left; cursors = only.cursors }

pub stays_then : (u v w : View) → StaysPass u v → StaysPass v w → StaysPass u w
stays_then u v w a b = record {
  number = b.number ∙ a.number;
  next = b.next ∙ a.next;
  parts = b.parts ∙ a.parts;
  shape = b.shape ∙ a.shape;
  lists = b.lists ∙ a.lists;
  online = λ on. b.online (a.online on);
  floor = b.floor ∙ a.floor;
  since = b.since ∙ a.since;
  seen = le_trans a.seen b.seen;
  grown = λ old was. b.grown old (a.grown old was);
  stays_online = λ is. b.stays_online (a.stays_online is);
}

pub nothing_then : (u v w : View) → MakesNoEntry u v → MakesNoEntry v w → MakesNoEntry u w
nothing_then u v w a b = record {
  pass = stays_then u v w a.pass b.pass;
  entries = b.entries ∙ a.entries;
  left = b.left ∙ a.left;
  cursors = λ number. b.cursors number ∙ a.cursors number;
}

pub same_nothing : (v : View) → MakesNoEntry v v
same_nothing v = record { pass = record { number = refl; next = refl; parts = refl; shape = refl; lists = refl; online = λ on. on; floor = refl; since = refl; seen = omega arith; grown = λ old was. was; stays_online = λ is. is }; entries = refl; left = refl; cursors = λ number. refl }

-- what was loaded for an answer was so in a longer time
pub loaded_in : (called : Call) (n : ℕ) (u v w z : View) → StaysPass u v → HasLoaded called n v w → StaysPass w z → HasLoaded called n u z
loaded_in called n u v w z before l after =
    let a = newer_part u v before.grown in
    let b = newer_part w z after.grown in
    let all : w.log ≡ l.later ++ l.answer ∷ ((l.part ++ a.0) ++ u.log) = l.own
    ∙ ap (λ (log : List Act). l.later ++ l.answer ∷ log) (ap (λ (log : List Act). l.part ++ log) a.1 ∙ sym (append_assoc l.part a.0 u.log)) in
    record {
      later = b.0 ++ l.later;
      answer = l.answer;
      part = l.part ++ a.0;
      own = b.1 ∙ (ap (λ (log : List Act). b.0 ++ log) all ∙ sym (append_assoc b.0 l.later (l.answer ∷ ((l.part ++ a.0) ++ u.log))));
      answers = l.answers;
      loaded = last_older n l.part a.0 l.loaded;
    }

-- what comes before and after the entry adds none
pub nothing_entry : (called : Call) (said : Reply) (stamp : Stamp) (u v w z : View) → MakesNoEntry u v → seen_writes v ≤ stamp.number → MakesEntry called said stamp v w → MakesNoEntry w z → MakesEntry called said stamp u z
nothing_entry called said stamp u v w z before seen made after = record {
  pass = stays_then u v z before.pass (stays_then v w z made.pass after.pass);
  entries = after.entries ∙ (made.entries ∙ ap (λ (es : List Entry). made_entry called said stamp ∷ es) before.entries);
  left = sym before.left ∙ (made.left ∙ sym (ap suc after.left));
  seen = le_trans before.pass.seen seen;
  loaded = λ read. loaded_in called stamp.number u v w z before.pass (made.loaded read) after.pass;
  shows = λ wrote. let first = made.shows wrote in let more = after.pass.seen in omega (arith, first, more);
  cursors = λ number other. after.cursors number ∙ (made.cursors number other ∙ before.cursors number);
}

-- ---- the entry of a section

answered_pass : (called : Call) (said : Reply) (n : ℕ) (v : View) → StaysPass v (answered_view called said n v)
answered_pass called said n v = record {
  number = refl;
  next = refl;
  parts = refl;
  shape = refl;
  lists = refl;
  online = λ on. on;
  floor = refl;
  since = refl;
  seen = le_trans (seen_up (ReadCounter n) v) (seen_up (Answer called said n) (view_after (ReadCounter n) v));
  grown = λ old was. inr (inr was);
  stays_online = λ is. ap presence_after_entry is;
}

answered_loaded : (called : Call) (said : Reply) (n : ℕ) (v : View) → HasLoaded called n v (answered_view called said n v)
answered_loaded called said n v = record {
  later = [];
  answer = Answer called said n;
  part = ReadCounter n ∷ [];
  own = refl;
  answers = (refl, refl);
  loaded = record { newer = []; rest = []; is = refl; none = refl };
}

answered_entries : (called : Call) (said : Reply) (stamp : Stamp) (v : View) → stamp.wrote ≡ false → (answered_view called said stamp.number v).entries ≡ made_entry called said stamp ∷ v.entries
answered_entries called said stamp v read = ap (λ (b : Bool). record { call = called; reply = said; stamp = stamp.number; wrote = b } ∷ v.entries) (sym read)

answered_left : (called : Call) (said : Reply) (n : ℕ) (v : View) → 0 < v.left → v.left ≡ suc (answered_view called said n v).left
answered_left called said n v left = let e : v.left ≡ suc (v.left - 1) = omega (arith, left) in e

answered_entry : (called : Call) (said : Reply) (stamp : Stamp) (v : View) → stamp.wrote ≡ false → 0 < v.left → seen_writes v ≤ stamp.number → MakesEntry called said stamp v (answered_view called said stamp.number v)
answered_entry called said stamp v read left seen = record {
  pass = answered_pass called said stamp.number v;
  entries = answered_entries called said stamp v read;
  left = answered_left called said stamp.number v left;
  seen = seen;
  loaded = λ _. answered_loaded called said stamp.number v;
  shows = λ wrote. absurd (true≢false (sym wrote ∙ read));
  cursors = λ number other. refl;
}

pub entry_by : (called : Call) (said : Reply) (stamp : Stamp) (v w : View) → stamp.wrote ≡ false → 0 < v.left → seen_writes v ≤ stamp.number → w ≡ answered_view called said stamp.number v → MakesEntry called said stamp v w
entry_by called said stamp v w read left seen is = subst (MakesEntry called said stamp v) (sym is) (answered_entry called said stamp v read left seen)

-- a call that names no containers needs no locks
pub no_containers : (hands : List (Option Cursor)) (called : Call) (p : Pass) → objects_of hands called ≡ None → KnewNone hands called p
no_containers hands called p none objects is = absurd (let e : None ≡ Some objects = sym none ∙ is in cc)

-- ---- begin

begin_same : (first : ℕ) (second : Option ℕ) → begin_of (objects_by first second) ≡ call.Begin first second
begin_same first None = refl
begin_same first (Some other) = refl

push_marks : (xs : List OpenSection) (x : OpenSection) → reverse (map (λ section. section.marks) (xs ++ x ∷ [])) ≡ x.marks ∷ reverse (map (λ section. section.marks) xs)
push_marks xs x = ap reverse (map-append (λ section. section.marks) xs (x ∷ [])) ∙ reverse-append (map (λ section. section.marks) xs) (x.marks ∷ [])

abbrev pub Enters : Objects → ℕ → View → View → Type 0
Enters objects n v w =
    (u : View) × OnlyLocked v u × KeepsLocks v u × HasLocks u objects × (w ≡ answered_view (begin_of objects) reply.Entered n u)

-- whom the `begin` found it found for good
pub enters_found : (objects : Objects) (n : ℕ) (v w : View) → Enters objects n v w → FindsMore v w
enters_found objects n v w enters =
    finds_more_then v enters.0 w (grown_finds_more v enters.0 enters.1.newer enters.1.grew) (subst (FindsMore enters.0) (sym enters.4) (λ o q has. has))

pub begin_answer : (b : Bank) (p q : Pass) (first : ℕ) (second : Option ℕ) (stamp : Stamp) → 0 < (view p).left → Enters (objects_by first second) stamp.number (view p) (view q) → seen_writes (view p) ≤ stamp.number → stamp.wrote ≡ false → Opens (objects_by first second) (stack_of p) (stack_of q) → MayResume b q → HasAnswer b (call.Begin first second) reply.Entered stamp p q
begin_answer b p q first second stamp left enters seen read opens resume =
    let v = view p in
    let u = enters.0 in
    let here : OpenSection = record { locks = opens.0; marks = 0 } in
    let is : view q ≡ answered_view (call.Begin first second) reply.Entered stamp.number u =
    enters.4 ∙ ap (λ (c : Call). answered_view c reply.Entered stamp.number u) (begin_same first second) in
    let sections = ap (λ (s : Stack). s.sections) opens.2 in
    let c = call.Begin first second in
    record {
      entry = record {
        pass = stays_then v u (view q) (only_stays v u enters.1) (subst (StaysPass u) (sym is) (answered_pass c reply.Entered stamp.number u));
        entries = ap (λ (z : View). z.entries) is ∙ (answered_entries c reply.Entered stamp u read ∙ ap (λ (es : List Entry). made_entry c reply.Entered stamp ∷ es) enters.1.entries);
        left = sym enters.1.left ∙ (answered_left c reply.Entered stamp.number u (subst (λ (n : ℕ). 0 < n) (sym enters.1.left) left) ∙ sym (ap (λ (z : View). suc z.left) is));
        seen = seen;
        loaded = λ _. loaded_in c stamp.number v u (view q) (view q) (only_stays v u enters.1) (subst (HasLoaded c stamp.number u) (sym is) (answered_loaded c reply.Entered stamp.number u)) (same_nothing (view q)).pass;
        shows = λ wrote. absurd (true≢false (sym wrote ∙ read));
        cursors = λ number other. ap (λ (z : View). cursor_in number z.log) is ∙ enters.1.cursors number;
      };
      resume = resume;
      top = λ _ outer top cut.
          let same = same_from_push (stack_of p).sections outer here top (sym sections ∙ cut) in
          let has : HasBoth u here.locks = (subst (λ (o : ℕ). has_lock o u.log ≡ true) (sym opens.1.lower) enters.3.0, subst (λ (o : ℕ). has_lock o u.log ≡ true) (sym opens.1.upper) enters.3.1) in
          let now : HasBoth (view q) here.locks = (ap (λ (z : View). has_lock here.locks.lower z.log) is ∙ has.0, ap (λ (z : View). has_lock here.locks.upper z.log) is ∙ has.1) in
          subst (λ (x : OpenSection). HasBoth (view q) x.locks) same.1 now;
      stack = opens;
      walked = λ number. ap (option_map container_of) (ap (λ (z : View). cursor_in number z.log) is ∙ enters.1.cursors number);
      collected = tt;
      marks = ap (λ (xs : List OpenSection). reverse (map (λ section. section.marks) xs)) sections ∙ push_marks (stack_of p).sections here;
      mark = ap (λ (s : Stack). s.mark) opens.2;
      ends = tt;
    }

-- ---- end

counted_by : (marks : ℕ) (stamp : Stamp) → IsCountedAs marks (reply_of (ended_by marks stamp))
counted_by zero stamp = refl
counted_by (suc n) stamp =
    subst (λ (b : Bool). IsCountedAs (suc n) (reply_of (if b then ended.Kept stamp else ended.Suspended (suc n) stamp))) (sym (ne_eqb (suc n) 0 (λ e. absurd (omega (arith, e))))) (let one : 1 ≤ suc n = omega arith in (one, refl))

-- how an `end` counts, and which section it closes
abbrev pub Ends : Ended → Stack → Stack → Type 0
Ends result s t =
    (outer : List OpenSection) (top : OpenSection) → s.sections ≡ outer ++ top ∷ []
    → (result ≡ ended_by top.marks (stamp_of result)) × (t ≡ record s { sections = outer })

pub end_answer : (b : Bank) (p q : Pass) (result : Ended) → 0 < (view p).left → 0 < length (stack_of p).sections → OnlyLocked (answered_view call.End (reply_of result) (stamp_of result).number (view p)) (view q) → seen_writes (view p) ≤ (stamp_of result).number → (stamp_of result).wrote ≡ false → Ends result (stack_of p) (stack_of q) → MayResume b q → HasAnswer b call.End (reply_of result) (stamp_of result) p q
end_answer b p q result left depth only seen read closes resume =
    let v = view p in
    let n = (stamp_of result).number in
    let mid = answered_view call.End (reply_of result) n v in
    let made = answered_entry call.End (reply_of result) (stamp_of result) v read left seen in
    let r = split (last_of (stack_of p).sections) in
    let x = closes r.0 r.1 r.2 in
    let marks = ap (λ (xs : List OpenSection). reverse (map (λ section. section.marks) xs)) r.2 ∙ push_marks r.0 r.1 in
    let entry = nothing_entry call.End (reply_of result) (stamp_of result) v v mid (view q) (same_nothing v) seen made (only_nothing mid (view q) only) in
    record {
      entry = entry;
      walked = walked_none call.End (reply_of result) (stamp_of result) v (view q) refl entry;
      collected = tt;
      resume = resume;
      top = λ none. absurd (true≢false (sym none));
      stack = (r.0, r.1, r.2, x.1);
      marks = ap section_marks x.1 ∙ sym (ap (drop 1) marks);
      mark = ap (λ (s : Stack). s.mark) x.1;
      ends = subst (λ (l : List ℕ). IsCountedAs (slice_index_or l 0 0) (reply_of result)) (sym marks)
          (subst (λ (e : Ended). IsCountedAs r.1.marks (reply_of e)) (sym x.0) (counted_by r.1.marks (stamp_of result)));
    }
  where
    split : ((stack_of p).sections ≡ []) ⊎ ((outer : List OpenSection) × (top : OpenSection) × ((stack_of p).sections ≡ outer ++ top ∷ [])) → (outer : List OpenSection) × (top : OpenSection) × ((stack_of p).sections ≡ outer ++ top ∷ [])
    split (inl none) = absurd (let e = ap length none in omega (arith, e, depth))
    split (inr r) = r

-- ---- quiesce

-- a pass between two calls may take up its innermost section, which it has
pub ready_resumes : (b : Bank) (p : Pass) → IsReady b p → MayResume b p
ready_resumes b p r = record { inside = r.inside; own = λ outer top split. inl r.own; none = λ nil. r.own }

answered_still : (called : Call) (said : Reply) (n : ℕ) (v : View) → IsStill v → IsStill (answered_view called said n v)
answered_still called said n v s = record { even = s.even; hands = s.hands; used = s.used; owes = s.owes; flight = s.flight; boxes = same_done s.boxes (λ b. refl) (λ b. refl) (λ b. refl) (λ b. refl) (λ b. refl) (λ b. refl); stands = s.stands }

-- a call that opens and closes no section
pub ready_answered : (called : Call) (said : Reply) (b : Bank) (q r : Pass) (n : ℕ) → begun (answered_view called said n (view q)).log ≡ begun (view q).log → IsReady b q → IsPassOf b r → stack_of r ≡ stack_of q → view r ≡ answered_view called said n (view q) → IsReady b r
ready_answered called said b q r n level ready pass stack is =
    let v = view q in
    let locks : (o : ℕ) → has_lock o (view r).log ≡ has_lock o v.log = λ o. ap (λ (z : View). has_lock o z.log) is in
    record {
      inside = (pass, subst (InCall (view r)) (sym stack) (in_call_stays v (view r) (stack_of q) ready.inside.1 (ap (λ (z : View). z.shape) is) locks (ap (λ (z : View). begun z.log) is ∙ level) (subst IsStill (sym is) (answered_still called said n v ready.inside.1.still))));
      own = ap (λ (s : Stack). s.own) stack ∙ ready.own;
      mark = ap (λ (s : Stack). s.mark) stack ∙ ready.mark;
      top = λ outer top split.
          let t = ready.top outer top (sym (ap (λ (s : Stack). s.sections) stack) ∙ split) in
          (locks top.locks.lower ∙ t.0, locks top.locks.upper ∙ t.1);
    }

pub answered_owners : (called : Call) (said : Reply) (n : ℕ) (v u w : View) → IsCalm v u → w ≡ answered_view called said n u → SameOwners v w
answered_owners called said n v u w calm is = owners_then v u w calm.owners (subst (SameOwners u) (sym is) (record { had = refl; found = refl }))

-- the entry of a call that takes no lock, after the pass has done nothing but announce, load and learn
pub calm_entry : (called : Call) (said : Reply) (stamp : Stamp) (v u w : View) → IsCalm v u → (0 < announces v.log → 0 < announces u.log) → StaysOnline v u → 0 < v.left → w ≡ answered_view called said stamp.number u → stamp.wrote ≡ false → seen_writes u ≤ stamp.number → MakesEntry called said stamp v w
calm_entry called said stamp v u w calm on stays left is read seen =
    let made = answered_entry called said stamp u read (subst (λ (n : ℕ). 0 < n) (sym calm.left) left) seen in
    let quiet : StaysPass v u = record { number = calm.number; next = calm.next; parts = calm.parts; shape = calm.shape; lists = calm.lists; online = on; floor = calm.floor; since = calm.since; seen = calm.seen; grown = calm.grown; stays_online = stays } in
    record {
      pass = record {
        number = ap (λ (z : View). z.number) is ∙ calm.number;
        next = ap (λ (z : View). z.next) is ∙ calm.next;
        parts = ap (λ (z : View). z.parts) is ∙ calm.parts;
        shape = ap (λ (z : View). z.shape) is ∙ calm.shape;
        lists = ap (λ (z : View). z.lists) is ∙ calm.lists;
        online = λ was. subst (λ (z : View). 0 < announces z.log) (sym is) (on was);
        floor = ap (λ (z : View). z.has_floor) is ∙ calm.floor;
        since = ap (λ (z : View). at_floor z.log) is ∙ calm.since;
        seen = subst (λ (z : View). seen_writes v ≤ seen_writes z) (sym is) (le_trans calm.seen made.pass.seen);
        grown = subst (λ (z : View). HasGrown v z) (sym is) (λ old was. inr (inr (calm.grown old was)));
        stays_online = subst (λ (z : View). StaysOnline v z) (sym is) (λ here. ap presence_after_entry (stays here));
      };
      entries = ap (λ (z : View). z.entries) is ∙ (made.entries ∙ ap (λ (es : List Entry). made_entry called said stamp ∷ es) calm.entries);
      left = sym calm.left ∙ (made.left ∙ sym (ap (λ (z : View). suc z.left) is));
      seen = le_trans calm.seen seen;
      loaded = λ _. loaded_in called stamp.number v u w w quiet (subst (HasLoaded called stamp.number u) (sym is) (made.loaded read)) (same_nothing w).pass;
      shows = λ wrote. absurd (true≢false (sym wrote ∙ read));
      cursors = λ number other. ap (λ (z : View). cursor_in number z.log) is ∙ calm.cursors number;
    }

-- a pass that announces anew and collects stays online
quiesced_online : (v w : View) (n freed : ℕ) → Collected (view_after (Announce v.number n) (view_after (WriteNumber n) v)) w freed → 0 < announces w.log → StaysOnline v w
quiesced_online v w n freed x on here =
    let acts = x.acts ++ loads_of x.numbers in
    let u = view_after (Announce v.number n) (view_after (WriteNumber n) v) in
    let some : 0 < n = subst (λ (k : ℕ). 0 < k) x.keeps.announces on in
    ap (λ (z : View). presence_of z.log) x.did
    ∙ (presence_stays acts u (collection_leaves x.acts x.numbers x.givings)
    ∙ (ap (presence_after_announcing n) here ∙ stays_online n some))

-- what a pass is after a `quiesce`, that knew x when its idle boxes were merged
pub idle_merged : (v x : View) → MergesIdleBoxes v x → HasMergedBoxes v.log → HasMergedBoxes x.log
idle_merged v x merges merged b = ⊎_elim (λ (e : (made_state b x.log ≡ made_state b v.log) × (local_count b x.log ≡ local_count b v.log)). λ own. merged b (sym e.0 ∙ own)) (λ (e : (made_state b x.log ≡ state_merged) × FoundCounts b 0 v x). λ own. other (sym e.0 ∙ own)) (merges b)
  where
    other : state_merged ≢ state_default
    other e = omega (arith, e)

pub quiesce_answer : (b : Bank) (p q r : Pass) (x : View) (stamp : Stamp) → IsReady b p → 0 < (view p).left → IsPassOf b q → stack_of q ≡ stack_of p → IsCalm (view p) (view q) → StaysPass (view p) x → OnlyBoxed (view p) x → MergesIdleBoxes (view p) x → LeavesNoIdleBox (view p) x → (n : ℕ) × (freed : ℕ) × Collected (view_after (Announce x.number n) (view_after (WriteNumber n) x)) (view q) freed → 0 < announces (view q).log → IsPassOf b r → stack_of r ≡ stack_of q → view r ≡ answered_view call.Quiesce reply.Done stamp.number (view q) → stamp.wrote ≡ false → seen_writes (view q) ≤ stamp.number → HasAnswer b call.Quiesce reply.Done stamp p r
quiesce_answer b p q r x stamp ready left pass_q stack_q calm first boxed merges idle did on pass_r stack_r is read seen =
    let v = view p in
    let u = view q in
    let made = answered_entry call.Quiesce reply.Done stamp u read (subst (λ (n : ℕ). 0 < n) (sym calm.left) left) seen in
    let stack = stack_r ∙ stack_q in
    let now = ready_answered call.Quiesce reply.Done b q r stamp.number refl (ready_calm b p q ready pass_q stack_q calm) pass_r stack_r is in
    record {
      entry = calm_entry call.Quiesce reply.Done stamp v u (view r) calm (λ _. on) (λ here. quiesced_online x u did.0 did.1 did.2 on (first.stays_online here)) left is read seen;
      resume = ready_resumes b r now;
      top = λ none. absurd (true≢false (sym none));
      stack = stack ∙ ap (λ (t : Taking). with_own (stack_of p) t) ready.own;
      walked = λ number. ap (option_map container_of) (ap (λ (z : View). cursor_in number z.log) is ∙ calm.cursors number);
      collected = record { start = v; earlier = (same_nothing v).pass; merged = x; boxed = boxed; merges = merges; idle = idle; number = did.0; after = u; freed = did.1; collected = did.2; later = subst (StaysPass u) (sym is) made.pass };
      marks = ap section_marks stack;
      mark = ap (λ (s : Stack). s.mark) stack;
      ends = tt;
    }

-- ---- await

pub await_answer : (b : Bank) (p q r : Pass) (thread index : ℕ) (stamp : Stamp) → IsReady b p → 0 < (view p).left → IsPassOf b q → stack_of q ≡ stack_of p → IsCalm (view p) (view q) → (0 < announces (view p).log → 0 < announces (view q).log) → StaysOnline (view p) (view q) → IsPassOf b r → stack_of r ≡ stack_of q → view r ≡ answered_view (call.Await thread index) reply.Done stamp.number (view q) → stamp.wrote ≡ false → seen_writes (view q) ≤ stamp.number → HasAnswer b (call.Await thread index) reply.Done stamp p r
await_answer b p q r thread index stamp ready left pass_q stack_q calm on stays pass_r stack_r is read seen =
    let stack = stack_r ∙ stack_q in
    let now = ready_answered (call.Await thread index) reply.Done b q r stamp.number refl (ready_calm b p q ready pass_q stack_q calm) pass_r stack_r is in
    record {
      entry = calm_entry (call.Await thread index) reply.Done stamp (view p) (view q) (view r) calm on stays left is read seen;
      resume = ready_resumes b r now;
      top = λ none. absurd (true≢false (sym none));
      stack = stack ∙ ap (λ (t : Taking). with_own (stack_of p) t) ready.own;
      walked = λ number. ap (option_map container_of) (ap (λ (z : View). cursor_in number z.log) is ∙ calm.cursors number);
      collected = tt;
      marks = ap section_marks stack;
      mark = ap (λ (s : Stack). s.mark) stack;
      ends = tt;
    }
