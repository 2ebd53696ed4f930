-- A look comes before the try of its call: the pass may try the call after it, and what the try comes to is what both do.
use Rattle.std.proofs.Common.{◌≡◌, ◌<◌, ◌+◌, ℕ, false, true≢false, List, [], ◌∷◌, ◌++◌, refl, sym, ap, ◌∙◌, subst, inl, inr, ⊎_elim, append_assoc}
use Rattle.std.specs.Prelude.{◌==◌, ◌||◌, Option, Some, None, is_some, option_map, if◌then◌else◌}
use Rattle.ft_model.specs.declared.call.Call.{Call}
use Rattle.ft_model.specs.declared.call.Call.TheVariants as call
use Rattle.ft_model.specs.declared.cursor.Cursor.{Cursor}
use Rattle.ft_model.specs.declared.reply.Reply.{Reply}
use Rattle.ft_model.specs.Calls.{moved_cursor, other_dict, other_list, other_set, other_deque}
use Rattle.ft_model.specs.Worlds.{container_of}
use Rattle.ft_trace.specs.declared.Act.{Act}
use Rattle.ft_trace.specs.declared.Act.TheVariants.{Lock}
use Rattle.ft_trace.specs.declared.View.{View}
use Rattle.ft_trace.specs.Acts.{has_lock}
use Rattle.ft_trace.specs.Owners.{SameOwners}
use Rattle.ft_trace.proofs.Owning.{grown_finds_more, owners_then}
use Rattle.ft_bank.specs.declared.bank.Bank.{Bank}
use Rattle.ft_bank.specs.declared.pass.Pass.{Pass}
use Rattle.ft_bank.specs.Passes.{view, DidNothing, IsPassOf}
use Rattle.ft_bank.specs.PassSections.{Stack, stack_of, taken_in, nothing_taken}
use Rattle.ft_bank.proofs.BoxedSteps.{boxes_same}
use Rattle.ft_bank.proofs.KnownAfterWrites.{same_work}
use Rattle.ft_section.specs.declared.answers.Got.{Got}
use Rattle.ft_section.specs.declared.answers.Got.TheVariants as got
use Rattle.ft_section.specs.declared.answers.Look.{Look}
use Rattle.ft_section.specs.declared.answers.Look.TheVariants as look
use Rattle.ft_section.specs.declared.answers.Objects.{Objects}
use Rattle.ft_section.specs.declared.answers.Stamp.{Stamp}
use Rattle.ft_section.specs.declared.answers.Step.{Step}
use Rattle.ft_section.specs.declared.answers.Step.TheVariants as step
use Rattle.ft_section.specs.Floors.{KnewOwners}
use Rattle.ft_section.specs.Locking.{FoundOwner, OnlyLocked, at_one, waiting, with_own}
use Rattle.ft_section.specs.Ready.{AreSuspended, InCall, IsMaking, IsReady, IsWaiting, MayTry, NotesTop}
use Rattle.ft_section.specs.LockTakings.{IsOwnFor, lower_of, upper_of}
use Rattle.ft_section.specs.Trying.{HasLetGo, SectionsAfter}
use Rattle.ft_section.proofs.Goings.{notes_top}
use Rattle.ft_section.proofs.MidstOfCall.{in_call_stays}
use Rattle.ft_section.proofs.Resumes.{none_some}
use Rattle.ft_search.specs.LookSteps.{OnlyLooked}
use Rattle.ft_search.proofs.LookSteps.{loads_looked}
use Rattle.ft_search.proofs.ReadMidst.{LeavesSections, making_looked, still_looked}
use Rattle.ft_engine.specs.Answering.{HasCollectedFor, MakesEntry, MakesNoEntry, IsEndOf, IsTryOfCall, KnewLocks, IsLookedIfAny, settled}
use Rattle.ft_bank_history.specs.Marks.{walked_after}
use Rattle.ft_engine.specs.Asked.{IsOnContainers}
use Rattle.ft_engine.specs.Contentions.{may_look}
use Rattle.ft_engine.specs.Flights.{is_begin, objects_of}
use Rattle.ft_table_calls.specs.TriesUnderLocks.{objects_by}
use Rattle.ft_engine.specs.Keeping.{marks_after, section_marks}
use Rattle.ft_engine.specs.Stacks.{StackAfter}
use Rattle.ft_engine.proofs.Outcomes.{Outcome, before_adds, boxed_nothing, look_adds, moved_then}
use Rattle.ft_engine.proofs.Within.{WalkedBy, for_then, looked_owners, looks_still, same_for, walked_none, within_for}
use Rattle.ft_engine.proofs.SectionCalls.{nothing_entry, nothing_then, only_nothing, same_nothing}
use Rattle.ft_engine.proofs.OwnAnswers.{for_before}

-- a call on containers begins and ends no section
pub record IsPlain (called : Call) : Type 0 where
  pub sections : LeavesSections called
  pub begins : is_begin called ≡ false
  pub marks : (l : List ℕ) → marks_after called l ≡ l
  pub ends : (l : List ℕ) (said : Reply) → IsEndOf called l said
  pub leaves : (s : Stack) → StackAfter called s (with_own s nothing_taken)
  pub none : (v w : View) → HasCollectedFor called v w

pub plain_call : (called : Call) → IsOnContainers called → IsPlain called
plain_call (call.Dict o dc) on = record { sections = λ n log sections. refl; begins = refl; marks = λ marks. refl; ends = λ marks said. tt; leaves = λ s. refl; none = λ v w. tt }
plain_call (call.List o lc) on = record { sections = λ n log sections. refl; begins = refl; marks = λ marks. refl; ends = λ marks said. tt; leaves = λ s. refl; none = λ v w. tt }
plain_call (call.Set o sc) on = record { sections = λ n log sections. refl; begins = refl; marks = λ marks. refl; ends = λ marks said. tt; leaves = λ s. refl; none = λ v w. tt }
plain_call (call.Deque o qc) on = record { sections = λ n log sections. refl; begins = refl; marks = λ marks. refl; ends = λ marks said. tt; leaves = λ s. refl; none = λ v w. tt }
plain_call (call.Next number) on = absurd on
plain_call (call.Begin first second) on = absurd on
plain_call call.End on = absurd on
plain_call call.Quiesce on = absurd on
plain_call (call.Await thread index) on = absurd on
plain_call call.Dump on = absurd on

-- it names its containers itself, and not by a cursor
pub named_objects : (called : Call) → IsOnContainers called → (objects : Objects) × ((hands : List (Option Cursor)) → objects_of hands called ≡ Some objects)
named_objects (call.Dict o dc) on = (objects_by o (other_dict dc), λ hands. refl)
named_objects (call.List o lc) on = (objects_by o (other_list lc), λ hands. refl)
named_objects (call.Set o sc) on = (objects_by o (other_set sc), λ hands. refl)
named_objects (call.Deque o qc) on = (objects_by o (other_deque qc), λ hands. refl)
named_objects (call.Next number) on = absurd on
named_objects (call.Begin first second) on = absurd on
named_objects call.End on = absurd on
named_objects call.Quiesce on = absurd on
named_objects (call.Await thread index) on = absurd on
named_objects call.Dump on = absurd on

some_same : (x y : Step) → Some x ≡ Some y → x ≡ y
some_same x y e = cc

-- ---- what a try comes to

pub one_objects : (x y : Objects) → Some x ≡ Some y → x ≡ y
one_objects x y e = cc

pub tried_of : (b : Bank) (p q : Pass) (hands : List (Option Cursor)) (called : Call) (objects : Objects) → IsPlain called → objects_of hands called ≡ Some objects → (result : Step) → SectionsAfter b objects p q result → Outcome called objects (view p) (view q) result → WalkedBy called (view p) (view q) result → IsTryOfCall b hands called p q result
tried_of b p q hands called objects plain names (step.Done said stamp) after came walked = (
  record {
    entry = came.0;
    resume = after.0.resume;
    top = λ begins. absurd (true≢false (sym begins ∙ plain.begins));
    stack = subst (StackAfter called (stack_of p)) (sym after.0.stack) (plain.leaves (stack_of p));
    marks = ap section_marks after.0.stack ∙ sym (plain.marks (section_marks (stack_of p)));
    mark = ap (λ (s : Stack). s.mark) after.0.stack;
    ends = plain.ends (section_marks (stack_of p)) said;
    walked = walked;
    collected = plain.none (view p) (view q);
  },
  λ named is locked. subst (λ (x : Objects). KnewOwners x (view p) got.Have) (one_objects objects named (sym names ∙ is)) after.1,
  within_for hands called objects (view p) (view q) names came.1.only came.1.found,
)
tried_of b p q hands called objects plain names (step.NotYet o owner) after came walked = (
  objects,
  names,
  record { entry = only_nothing (view p) (view q) came.0; waits = after.waits; stack = after.stack; kept = after.kept; found = (came.1, came.2) },
  λ locked. after.known,
  within_for hands called objects (view p) (view q) names after.within (grown_finds_more (view p) (view q) came.0.newer came.0.grew),
)
tried_of b p q hands called objects plain names (step.Moved first second) after came walked = (objects, names, record { entry = came.0; gone = after.0 }, λ locked. after.1, within_for hands called objects (view p) (view q) names came.1.only came.1.found, came.2)
tried_of b p q hands called objects plain names step.NoMemory after came walked = (record { entry = came.0; gone = after.0 }, within_for hands called objects (view p) (view q) names came.1.only came.1.found, came.2)

-- a call that moves no cursor
pub outcome_walked : (called : Call) (objects : Objects) (v w : View) (result : Step) → moved_cursor called ≡ None → Outcome called objects v w result → WalkedBy called v w result
outcome_walked called objects v w (step.Done said stamp) none came = walked_none called said stamp v w none came.0
outcome_walked called objects v w (step.NotYet o owner) none came = tt
outcome_walked called objects v w (step.Moved first second) none came = tt
outcome_walked called objects v w step.NoMemory none came = tt

-- what was found after loads was found after what came before them
found_before : (u v w : View) (o q : ℕ) (part : List Act) → v.log ≡ part ++ u.log → v.number ≡ u.number → FoundOwner o q v w → FoundOwner o q u w
found_before u v w o q part log number f = record {
  newer = f.newer;
  snap = f.snap;
  older = f.older ++ part;
  is = f.is ∙ ap (λ (z : List Act). f.newer ++ Lock o (q + 1) f.snap ∷ z) (ap (λ (z : List Act). f.older ++ z) log ∙ sym (append_assoc f.older part u.log));
  other = λ e. f.other (e ∙ sym number);
}

-- what a pass knew after loads it knew before them
knew_before : (called : Call) (objects : Objects) (p q : Pass) (answer : Got) → (may_look called ≡ false → view q ≡ view p) → KnewLocks called objects q answer → KnewLocks called objects p answer
knew_before called objects p q answer same knew locked = subst (λ (v : View). KnewOwners objects v answer) (same locked) (knew locked)

pub try_after : (b : Bank) (hands : List (Option Cursor)) (called : Call) (p q r : Pass) (part : List Act) (result : Step) → MakesNoEntry (view p) (view q) → SameOwners (view p) (view q) → (view q).log ≡ part ++ (view p).log → stack_of q ≡ stack_of p → ((o : ℕ) → has_lock o (view q).log ≡ has_lock o (view p).log) → (may_look called ≡ false → view q ≡ view p) → IsTryOfCall b hands called q r result → IsTryOfCall b hands called p r result
try_after b hands called p q r part (step.Done said stamp) before owners log stack locks same x = (
  record {
    entry = before_adds called said stamp (view p) (view q) (view r) before x.0.entry;
    resume = x.0.resume;
    top = x.0.top;
    stack = subst (λ (s : Stack). StackAfter called s (stack_of r)) stack x.0.stack;
    marks = x.0.marks ∙ ap (λ (s : Stack). marks_after called (section_marks s)) stack;
    mark = x.0.mark ∙ ap (λ (s : Stack). s.mark) stack;
    ends = subst (λ (s : Stack). IsEndOf called (section_marks s) said) stack x.0.ends;
    walked = λ n. x.0.walked n ∙ ap (λ (z : Option Cursor). walked_after n called (option_map container_of z)) (before.cursors n);
    collected = for_before called (view p) (view q) (view r) before.pass x.0.collected;
  },
  λ named is. knew_before called named p q got.Have same (x.1 named is),
  for_then hands called (view p) (view q) (view r) x.0.entry.pass.number (same_for hands called (view p) (view q) owners) x.2,
)
try_after b hands called p q r part (step.NotYet o owner) before owners log stack locks same x = (
  x.0,
  x.1,
  record {
    entry = nothing_then (view p) (view q) (view r) before x.2.entry;
    waits = x.2.waits;
    stack = x.2.stack ∙ ap (λ (s : Stack). waiting (with_own s (stack_of r).own) owner) stack;
    kept = λ n. x.2.kept n ∙ (λ i. taken_in n (stack i).own + (if (o == lower_of x.0) || locks (lower_of x.0) i then 0 else at_one (lower_of x.0) n));
    found = (x.2.found.0, found_before (view p) (view q) (view r) o owner part log before.pass.number x.2.found.1);
  },
  knew_before called x.0 p q (got.NotYet o owner) same x.3,
  for_then hands called (view p) (view q) (view r) x.2.entry.pass.number (same_for hands called (view p) (view q) owners) x.4,
)
try_after b hands called p q r part (step.Moved first second) before owners log stack locks same x = (
  x.0,
  x.1,
  record {
    entry = nothing_then (view p) (view q) (view r) before x.2.entry;
    gone = record { stack = x.2.gone.stack ∙ ap (λ (s : Stack). with_own s nothing_taken) stack; may = x.2.gone.may; resume = x.2.gone.resume };
  },
  knew_before called x.0 p q got.Have same x.3,
  for_then hands called (view p) (view q) (view r) x.2.entry.pass.number (same_for hands called (view p) (view q) owners) x.4,
  moved_then first second (view p) (view q) (view r) (view r) before x.5 (same_nothing (view r)),
)
try_after b hands called p q r part step.NoMemory before owners log stack locks same x = (
  record {
    entry = nothing_then (view p) (view q) (view r) before x.0.entry;
    gone = record { stack = x.0.gone.stack ∙ ap (λ (s : Stack). with_own s nothing_taken) stack; may = x.0.gone.may; resume = x.0.gone.resume };
  },
  for_then hands called (view p) (view q) (view r) x.0.entry.pass.number (same_for hands called (view p) (view q) owners) x.1,
  x.2,
)

-- ---- what the pass is in after a look

ready_making : (b : Bank) (p : Pass) → IsReady b p → IsMaking b p
ready_making b p r = record { inside = r.inside; free = λ none. notes_top b p r; waited = λ q e. absurd (none_some q (sym r.mark ∙ e)) }

waiting_making : (b : Bank) (p : Pass) (objects : Objects) → IsWaiting b p objects → IsMaking b p
waiting_making b p objects w = record { inside = w.inside; free = λ none. absurd (none_some w.owner (sym none ∙ w.mark)); waited = λ q e. w.suspended }

pub may_making : (b : Bank) (p : Pass) (objects : Objects) → MayTry b p objects → IsMaking b p
may_making b p objects may = ⊎_elim (λ (r : IsReady b p). ready_making b p r) (λ (w : IsWaiting b p objects). waiting_making b p objects w) may

pub may_pass : (b : Bank) (p : Pass) (objects : Objects) → MayTry b p objects → IsPassOf b p
may_pass b p objects may = (may_making b p objects may).inside.0

module _ (b : Bank) (p q : Pass) (pass : IsPassOf b q) (stack : stack_of q ≡ stack_of p) (l : OnlyLooked (view p) (view q)) where
  pub steps_in : InCall (view p) (stack_of p) → InCall (view q) (stack_of q)
  steps_in i = subst (InCall (view q)) (sym stack) (in_call_stays (view p) (view q) (stack_of p) i l.boxed.work.pass.shape l.boxed.work.pass.locks l.boxed.work.pass.begun (still_looked (view p) (view q) l i.still))

  pub steps_making : IsMaking b p → IsMaking b q
  steps_making m = record {
    inside = (pass, steps_in m.inside.1);
    free = λ none. subst (λ (s : Stack). NotesTop s.sections) (sym stack) (m.free (sym (ap (λ (s : Stack). s.mark) stack) ∙ none));
    waited = λ a e. subst (λ (s : Stack). AreSuspended s.sections) (sym stack) (m.waited a (sym (ap (λ (s : Stack). s.mark) stack) ∙ e));
  }

  pub steps_ready : IsReady b p → IsReady b q
  steps_ready r = record {
    inside = (pass, steps_in r.inside.1);
    own = ap (λ (s : Stack). s.own) stack ∙ r.own;
    mark = ap (λ (s : Stack). s.mark) stack ∙ r.mark;
    top = λ outer top split.
        let t = r.top outer top (sym (ap (λ (s : Stack). s.sections) stack) ∙ split) in
        (l.boxed.work.pass.locks top.locks.lower ∙ t.0, l.boxed.work.pass.locks top.locks.upper ∙ t.1);
  }

  pub steps_may : (objects : Objects) → MayTry b p objects → MayTry b q objects
  steps_may objects may =
      ⊎_elim
      (λ (r : IsReady b p). inl (steps_ready r))
      (λ (w : IsWaiting b p objects). inr (record {
        inside = (pass, steps_in w.inside.1);
        owner = w.owner;
        mark = ap (λ (s : Stack). s.mark) stack ∙ w.mark;
        suspended = subst (λ (s : Stack). AreSuspended s.sections) (sym stack) w.suspended;
        own = subst (λ (s : Stack). IsOwnFor (lower_of objects) (upper_of objects) s.own) (sym stack) w.own;
      })) may

looked_none : (p q : Pass) → DidNothing p q → OnlyLooked (view p) (view q)
looked_none p q same = subst (OnlyLooked (view p)) (sym same.1) (loads_looked (view p) (view p) p.possible (record { work = same_work (view p); words = refl; unboxed = λ o low has. refl; boxes = boxes_same (view p) }))

pub looked_making : (b : Bank) (p q : Pass) (called : Call) (objects : Objects) (found : Option Look) → IsPlain called → MayTry b p objects → IsPassOf b q → stack_of q ≡ stack_of p → IsLookedIfAny called p q found → IsMaking b q
looked_making b p q called objects None plain may pass stack x = steps_making b p q pass stack (looked_none p q x) (may_making b p objects may)
looked_making b p q called objects (Some (look.Done said stamp)) plain may pass stack x = making_looked b p q called said stamp.number plain.sections (may_making b p objects may) pass stack x.0
looked_making b p q called objects (Some (look.Contended first second)) plain may pass stack x = steps_making b p q pass stack x.2 (may_making b p objects may)
looked_making b p q called objects (Some look.NoMemory) plain may pass stack x = steps_making b p q pass stack x.0 (may_making b p objects may)

-- it is to be made under its locks
pub looked_loaded : (p q : Pass) (called : Call) (found : Option Look) → settled found ≡ None → IsLookedIfAny called p q found → (part : List Act) × ((view q).log ≡ part ++ (view p).log) × OnlyLooked (view p) (view q)
looked_loaded p q called None none x = ([], ap (λ (v : View). v.log) x.1, looked_none p q x)
looked_loaded p q called (Some (look.Done said stamp)) none x = absurd (let e : Some (step.Done said stamp) ≡ None = none in cc)
looked_loaded p q called (Some (look.Contended first second)) none x = (x.0, x.1, x.2)
looked_loaded p q called (Some look.NoMemory) none x = absurd (let e : Some step.NoMemory ≡ None = none in cc)

after_nothing : (called : Call) (said : Reply) (stamp : Stamp) (u v w : View) → MakesEntry called said stamp u v → MakesNoEntry v w → MakesEntry called said stamp u w
after_nothing called said stamp u v w made after = nothing_entry called said stamp u u v w (same_nothing u) made.seen made after

-- it has its answer by the look
pub looked_tried : (b : Bank) (p q r : Pass) (hands : List (Option Cursor)) (called : Call) (found : Option Look) (result : Step) → IsPlain called → 0 < (view p).left → may_look called ≡ is_some found → settled found ≡ Some result → IsLookedIfAny called p q found → stack_of q ≡ stack_of p → OnlyLocked (view q) (view r) → SameOwners (view q) (view r) → HasLetGo b q r → IsTryOfCall b hands called p r result
looked_tried b p q r hands called None result plain left made is x stack gone owners let_go = absurd (let e : None ≡ Some result = is in cc)
looked_tried b p q r hands called (Some (look.Contended first second)) result plain left made is x stack gone owners let_go = absurd (let e : None ≡ Some result = is in cc)
looked_tried b p q r hands called (Some (look.Done said stamp)) result plain left made is x stack gone owners let_go =
    let same : step.Done said stamp ≡ result = some_same (step.Done said stamp) result is in
    let entry = after_nothing called said stamp (view p) (view q) (view r) (look_adds called said stamp (view p) (view q) x.1 left x.0) (only_nothing (view q) (view r) gone) in
    subst (IsTryOfCall b hands called p r) same (
      record {
        entry = entry;
        resume = let_go.resume;
        top = λ begins. absurd (true≢false (sym begins ∙ plain.begins));
        stack = subst (StackAfter called (stack_of p)) (sym (let_go.stack ∙ ap (λ (s : Stack). with_own s nothing_taken) stack)) (plain.leaves (stack_of p));
        marks = ap section_marks let_go.stack ∙ (ap section_marks stack ∙ sym (plain.marks (section_marks (stack_of p))));
        mark = ap (λ (s : Stack). s.mark) let_go.stack ∙ ap (λ (s : Stack). s.mark) stack;
        ends = plain.ends (section_marks (stack_of p)) said;
        walked = walked_none called said stamp (view p) (view r) (looks_still called made) entry;
        collected = plain.none (view p) (view r);
      },
      λ named names locked. absurd (true≢false (sym made ∙ locked)),
      same_for hands called (view p) (view r) (owners_then (view p) (view q) (view r) (looked_owners called said stamp.number (view p) (view q) x.0) owners),
    )
looked_tried b p q r hands called (Some look.NoMemory) result plain left made is x stack gone owners let_go =
    let same : step.NoMemory ≡ result = some_same step.NoMemory result is in
    subst (IsTryOfCall b hands called p r) same (
      record {
        entry = nothing_then (view p) (view q) (view r) (boxed_nothing (view p) (view q) x.0.boxed) (only_nothing (view q) (view r) gone);
        gone = record { stack = let_go.stack ∙ ap (λ (s : Stack). with_own s nothing_taken) stack; may = let_go.may; resume = let_go.resume };
      },
      same_for hands called (view p) (view r) (owners_then (view p) (view q) (view r) x.0.boxed.work.pass.owners owners),
      x.1,
    )

-- ---- the call under its locks comes after

nothing_pass : (b : Bank) (q r : Pass) → IsPassOf b q → DidNothing q r → IsPassOf b r
nothing_pass b q r pass same = (same.0 ∙ pass.0, ap (λ (v : View). v.shape) same.1 ∙ pass.1)

pub looked_may : (b : Bank) (p q r : Pass) (called : Call) (objects : Objects) (found : Option Look) → settled found ≡ None → IsLookedIfAny called p q found → IsPassOf b q → stack_of q ≡ stack_of p → DidNothing q r → MayTry b p objects → MayTry b r objects
looked_may b p q r called objects found none x pass stack same may =
    let l = looked_loaded p q called found none x in
    steps_may b q r (nothing_pass b q r pass same) same.2 (looked_none q r same) objects (steps_may b p q pass stack l.2 objects may)

pub looked_left : (p q r : Pass) (called : Call) (found : Option Look) → settled found ≡ None → IsLookedIfAny called p q found → DidNothing q r → 0 < (view p).left → 0 < (view r).left
looked_left p q r called found none x same left =
    let l = looked_loaded p q called found none x in
    subst (λ (n : ℕ). 0 < n) (sym (ap (λ (v : View). v.left) same.1 ∙ l.2.boxed.work.left)) left

-- a call that isn't looked first
unlooked : (called : Call) (p q r : Pass) (found : Option Look) → may_look called ≡ is_some found → IsLookedIfAny called p q found → DidNothing q r → may_look called ≡ false → view r ≡ view p
unlooked called p q r None made x same locked = same.1 ∙ x.1
unlooked called p q r (Some answer) made x same locked = absurd (true≢false (sym made ∙ locked))

pub looked_then : (b : Bank) (hands : List (Option Cursor)) (called : Call) (p q r s : Pass) (found : Option Look) (result : Step) → may_look called ≡ is_some found → settled found ≡ None → IsLookedIfAny called p q found → stack_of q ≡ stack_of p → DidNothing q r → IsTryOfCall b hands called r s result → IsTryOfCall b hands called p s result
looked_then b hands called p q r s found result made none x stack same tried =
    let l = looked_loaded p q called found none x in
    try_after b hands called p r s l.0 result (subst (MakesNoEntry (view p)) (sym same.1) (boxed_nothing (view p) (view q) l.2.boxed)) (subst (SameOwners (view p)) (sym same.1) l.2.boxed.work.pass.owners) (ap (λ (v : View). v.log) same.1 ∙ l.1) (same.2 ∙ stack)
    (λ o. ap (λ (v : View). has_lock o v.log) same.1 ∙ l.2.boxed.work.pass.locks o) (unlooked called p q r found made x same) tried
