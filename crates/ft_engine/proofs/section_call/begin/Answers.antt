use Rattle.std.proofs.Common.{◌∙◌, refl, subst}
use Rattle.ft_model.specs.declared.call.Call.TheVariants as call
use Rattle.ft_trace.proofs.Owning.{grown_finds_more}
use Rattle.ft_bank.specs.Passes.{view}
use Rattle.ft_bank.specs.PassSections.{stack_of}
use Rattle.ft_section.specs.declared.answers.Objects.{Objects}
use Rattle.ft_section.specs.declared.answers.Got.TheVariants as got
use Rattle.ft_section.specs.Floors.{KnewOwners, first_owned}
use Rattle.ft_section.specs.Locking.{LocksWithin}
use Rattle.ft_section.specs.LockTakings.{IsOf, lower_of, upper_of}
use Rattle.ft_section.specs.Trying.{WaitsFor}
use Rattle.ft_section.proofs.FloorLogs.{entered_had}
use Rattle.ft_table_calls.specs.TriesUnderLocks.{objects_by}
use Rattle.ft_engine.specs.Stacks.{Opens}
use Rattle.ft_engine.proofs.LooksBefore.{one_objects}
use Rattle.ft_engine.proofs.SectionCalls.{Enters, begin_answer, enters_found, only_nothing}
use Rattle.ft_engine.proofs.Within.{within_for}
use Rattle.ft_engine.proofs.section_call.begin.Goals as goal

pub returns-in-Entered : goal.returns-in-Entered
returns-in-Entered c hands =
    let e = c.in-Entered.ensures in
    let p = c.args.pass.now in
    let q = c.try_begin.new.pass in (
      begin_answer c.args.bank.now p q c.args.first c.args.second c.in-Entered.stamp c.requires.left
          (subst (λ (x : Objects). Enters x c.in-Entered.stamp.number (view p) (view q)) c.named_objects.ensures e.entry) e.seen e.read
          (subst (λ (x : Objects). Opens x (stack_of p) (stack_of q)) c.named_objects.ensures e.section) e.resume,
      λ named names locked. subst (λ (x : Objects). KnewOwners x (view p) got.Have) (c.named_objects.ensures ∙ one_objects (objects_by c.args.first c.args.second) named names)
          (λ has. entered_had _ c.in-Entered.stamp (first_owned (lower_of c.named_objects.result) (upper_of c.named_objects.result) (view p)) (e.known has)),
      within_for hands (call.Begin c.args.first c.args.second) (objects_by c.args.first c.args.second) (view p) (view q) refl (subst (λ (x : Objects). LocksWithin x (view p) (view q)) c.named_objects.ensures e.within) (enters_found c.named_objects.result c.in-Entered.stamp.number (view p) (view q) e.entry),
    )

pub returns-in-NotYet : goal.returns-in-NotYet
returns-in-NotYet c hands =
    let e = c.in-NotYet.ensures in
    let w = subst (λ (x : Objects). WaitsFor c.args.bank.now x c.in-NotYet.object c.in-NotYet.owner c.args.pass.now c.try_begin.new.pass) c.named_objects.ensures e.waiting in (
      objects_by c.args.first c.args.second,
      refl,
      record {
        entry = only_nothing (view c.args.pass.now) (view c.try_begin.new.pass) e.locked;
        waits = w.waits;
        stack = w.stack;
        kept = w.kept;
        found = (subst (IsOf c.in-NotYet.object) c.named_objects.ensures e.found.0, e.found.1);
      },
      λ locked. w.known,
      within_for hands (call.Begin c.args.first c.args.second) (objects_by c.args.first c.args.second) (view c.args.pass.now) (view c.try_begin.new.pass) refl w.within (grown_finds_more (view c.args.pass.now) (view c.try_begin.new.pass) e.locked.newer e.locked.grew),
    )
