use Rattle.std.proofs.Common.{◌≡◌, ◌↔◌, ◌-◌, ◌<◌, ℕ, Bool, false, IsTrue, List, length, get_or, refl, sym, ap, subst, ◌∙◌, arith}
use Rattle.std.proofs.lemmas.Bool.{false≢true}
use Rattle.std.proofs.lemmas.Option.{slice_get_read}
use Rattle.ft_model.specs.declared.entry.Entry.{Entry}
use Rattle.ft_model.specs.declared.entry.Rule.TheVariants as rule
use Rattle.ft_model.specs.declared.script.ScriptParts.{ScriptParts}
use Rattle.ft_model.specs.Histories.{IsKept, IsCounted, IsCountedAs, IfEnds}
use Rattle.ft_history.specs.declared.progress.ThreadProgress.{ThreadProgress}
use Rattle.ft_history.specs.declared.progress.OpenSection.{OpenSection}
use Rattle.ft_history.specs.declared.writers.LastWrites.{LastWrites}
use Rattle.ft_history.specs.declared.state.State.{State}
use Rattle.ft_history.specs.Internal.States.{all_begun, after_begun, inner_begun, IsKeptSince, IsProgress}
use Rattle.ft_history.specs.Internal.Steps.{IsState}
use Rattle.ft_history.proofs.Judged.{holds_more}
use Rattle.ft_history.proofs.LateRules.{marked_iff, kept_iff, counted_iff}
use Rattle.ft_history.proofs.judging.late_rule.Goals as goal

-- what is false isn't so
refuted : {P : Type 0} (r : Bool) → r ≡ false → IsTrue r ↔ P → ¬ P
refuted r off is p = false≢true (sym off ∙ is.1 p)

-- the state's progress of the entry's thread
there : (parts : ScriptParts) (entries : List Entry) (place thread : ℕ) (state : State) (progress : ThreadProgress) → IsState parts entries place state → thread < length state.threads.items → progress ≡ get_or state.threads.items thread progress → IsProgress parts entries thread place progress
there parts entries place thread state progress is_state low read = is_state.progress thread progress (slice_get_read state.threads.items _ thread progress refl low read)

kept : (parts : ScriptParts) (entries : List Entry) (place : ℕ) (entry : Entry) (state : State) (progress : ThreadProgress) (r : Bool) (containers : List LastWrites) (sections : List OpenSection) → containers ≡ state.containers.items → sections ≡ progress.sections.items
    → IsState parts entries place state → IsProgress parts entries entry.thread place progress → IsTrue r ↔ IfEnds (all_begun sections) entry.call (λ section. IsKeptSince containers entry.thread section entry.reply) → IsTrue r ↔ IsKept entries place entry
kept parts entries place entry state progress r containers sections one other is_state so_far is =
    kept_iff parts entries place entry progress state.containers.items r is_state.containers is_state.lasts so_far
    (subst (λ ss. IsTrue r ↔ IfEnds (all_begun ss) entry.call (λ section. IsKeptSince state.containers.items entry.thread section entry.reply)) other
    (subst (λ ws. IsTrue r ↔ IfEnds (all_begun sections) entry.call (λ section. IsKeptSince ws entry.thread section entry.reply)) one is))

counted : (parts : ScriptParts) (entries : List Entry) (place : ℕ) (entry : Entry) (progress : ThreadProgress) (r : Bool) (sections : List OpenSection) → sections ≡ progress.sections.items → IsProgress parts entries entry.thread place progress
    → IsTrue r ↔ IfEnds (all_begun sections) entry.call (λ section. IsCountedAs (progress.marks - section.marks) entry.reply) → IsTrue r ↔ IsCounted entries place entry
counted parts entries place entry progress r sections same so_far is = counted_iff parts entries place entry progress r so_far (subst (λ ss. IsTrue r ↔ IfEnds (all_begun ss) entry.call (λ section. IsCountedAs (progress.marks - section.marks) entry.reply)) same is)

pub returns-then-not-has_awaited : goal.returns-then-not-has_awaited
returns-then-not-has_awaited c = λ entries place at users is_state first.
    record { before = first; broken = refuted c.has_awaited.result c.if-not-has_awaited.true (c.has_awaited.ensures entries place c.args.parts.now is_state) }

pub returns-then-not-is_marked_right : goal.returns-then-not-is_marked_right
returns-then-not-is_marked_right c = λ entries place at users is_state first.
    let parts = c.args.parts.now in
    let progress : ThreadProgress = c.index-progress.result.now in
    let so_far = there parts entries place c.args.entry.now.thread c.args.state.now progress is_state (omega (arith, c.requires.thread, c.args.state.now.threads.ok.0)) c.index-progress.ensures in
    let inner = λ (at marks : ℕ). c.inner_containers.ensures at marks ∙ ap (λ ss. inner_begun (after_begun at marks c.args.entry.now.call (all_begun ss))) c.deref.ensures.value in
    let awaited = (c.has_awaited.ensures entries place parts is_state).0 c.if-not-has_awaited.false in
    record { before = holds_more c.args.storage parts entries place c.args.entry.now 4 rule.Await refl first awaited; broken = refuted c.is_marked_right.result c.if-not-is_marked_right.true (marked_iff parts entries place c.args.entry.now progress c.args.users.now _ _ c.is_marked_right.result users so_far c.containers_needed-own.ensures inner c.is_marked_right.ensures) }

pub returns-then-not-is_kept_right : goal.returns-then-not-is_kept_right
returns-then-not-is_kept_right c = λ entries place at users is_state first.
    let parts = c.args.parts.now in
    let progress : ThreadProgress = c.index-progress.result.now in
    let entry = c.args.entry.now in
    let so_far = there parts entries place entry.thread c.args.state.now progress is_state (omega (arith, c.requires.thread, c.args.state.now.threads.ok.0)) c.index-progress.ensures in
    let inner = λ (at marks : ℕ). c.inner_containers.ensures at marks ∙ ap (λ ss. inner_begun (after_begun at marks entry.call (all_begun ss))) c.deref.ensures.value in
    let marked = (marked_iff parts entries place entry progress c.args.users.now _ _ c.is_marked_right.result users so_far c.containers_needed-own.ensures inner c.is_marked_right.ensures).0 c.if-not-is_marked_right.false in
    let awaited = (c.has_awaited.ensures entries place parts is_state).0 c.if-not-has_awaited.false in
    let awaits = holds_more c.args.storage parts entries place entry 4 rule.Await refl first awaited in
    record {
      before = holds_more c.args.storage parts entries place entry 5 rule.Mark refl awaits marked;
      broken = refuted c.is_kept_right.result c.if-not-is_kept_right.true (kept parts entries place entry c.args.state.now progress c.is_kept_right.result _ _ c.deref-2.ensures.value c.deref-3.ensures.value is_state so_far c.is_kept_right.ensures);
    }

pub returns-then-not-is_counted_right : goal.returns-then-not-is_counted_right
returns-then-not-is_counted_right c = λ entries place at users is_state first.
    let parts = c.args.parts.now in
    let progress : ThreadProgress = c.index-progress.result.now in
    let entry = c.args.entry.now in
    let so_far = there parts entries place entry.thread c.args.state.now progress is_state (omega (arith, c.requires.thread, c.args.state.now.threads.ok.0)) c.index-progress.ensures in
    let inner = λ (at marks : ℕ). c.inner_containers.ensures at marks ∙ ap (λ ss. inner_begun (after_begun at marks entry.call (all_begun ss))) c.deref.ensures.value in
    let marked = (marked_iff parts entries place entry progress c.args.users.now _ _ c.is_marked_right.result users so_far c.containers_needed-own.ensures inner c.is_marked_right.ensures).0 c.if-not-is_marked_right.false in
    let is_kept = (kept parts entries place entry c.args.state.now progress c.is_kept_right.result _ _ c.deref-2.ensures.value c.deref-3.ensures.value is_state so_far c.is_kept_right.ensures).0 c.if-not-is_kept_right.false in
    let awaited = (c.has_awaited.ensures entries place parts is_state).0 c.if-not-has_awaited.false in
    let awaits = holds_more c.args.storage parts entries place entry 4 rule.Await refl first awaited in
    record {
      before = holds_more c.args.storage parts entries place entry 6 rule.Kept refl (holds_more c.args.storage parts entries place entry 5 rule.Mark refl awaits marked) is_kept;
      broken = refuted c.is_counted_right.result c.if-not-is_counted_right.true (counted parts entries place entry progress c.is_counted_right.result _ c.deref-4.ensures.value so_far c.is_counted_right.ensures);
    }

pub returns-then-not-has_cause : goal.returns-then-not-has_cause
returns-then-not-has_cause c = λ entries place at users is_state first.
    let parts = c.args.parts.now in
    let progress : ThreadProgress = c.index-progress.result.now in
    let entry = c.args.entry.now in
    let so_far = there parts entries place entry.thread c.args.state.now progress is_state (omega (arith, c.requires.thread, c.args.state.now.threads.ok.0)) c.index-progress.ensures in
    let inner = λ (at marks : ℕ). c.inner_containers.ensures at marks ∙ ap (λ ss. inner_begun (after_begun at marks entry.call (all_begun ss))) c.deref.ensures.value in
    let marked = (marked_iff parts entries place entry progress c.args.users.now _ _ c.is_marked_right.result users so_far c.containers_needed-own.ensures inner c.is_marked_right.ensures).0 c.if-not-is_marked_right.false in
    let is_kept = (kept parts entries place entry c.args.state.now progress c.is_kept_right.result _ _ c.deref-2.ensures.value c.deref-3.ensures.value is_state so_far c.is_kept_right.ensures).0 c.if-not-is_kept_right.false in
    let is_counted = (counted parts entries place entry progress c.is_counted_right.result _ c.deref-4.ensures.value so_far c.is_counted_right.ensures).0 c.if-not-is_counted_right.false in
    let awaited = (c.has_awaited.ensures entries place parts is_state).0 c.if-not-has_awaited.false in
    let awaits = holds_more c.args.storage parts entries place entry 4 rule.Await refl first awaited in
    record {
      before = holds_more c.args.storage parts entries place entry 7 rule.Suspended refl (holds_more c.args.storage parts entries place entry 6 rule.Kept refl (holds_more c.args.storage parts entries place entry 5 rule.Mark refl awaits marked) is_kept) is_counted;
      broken = refuted c.has_cause.result c.if-not-has_cause.true (c.has_cause.ensures entries place is_state);
    }

pub returns : goal.returns
returns c = λ entries place at users is_state.
    let parts = c.args.parts.now in
    let progress : ThreadProgress = c.index-progress.result.now in
    let entry = c.args.entry.now in
    let so_far = there parts entries place entry.thread c.args.state.now progress is_state (omega (arith, c.requires.thread, c.args.state.now.threads.ok.0)) c.index-progress.ensures in
    let inner = λ (at marks : ℕ). c.inner_containers.ensures at marks ∙ ap (λ ss. inner_begun (after_begun at marks entry.call (all_begun ss))) c.deref.ensures.value in
    record {
      awaits = (c.has_awaited.ensures entries place parts is_state).0 c.if-not-has_awaited.false;
      mark = (marked_iff parts entries place entry progress c.args.users.now _ _ c.is_marked_right.result users so_far c.containers_needed-own.ensures inner c.is_marked_right.ensures).0 c.if-not-is_marked_right.false;
      kept = (kept parts entries place entry c.args.state.now progress c.is_kept_right.result _ _ c.deref-2.ensures.value c.deref-3.ensures.value is_state so_far c.is_kept_right.ensures).0 c.if-not-is_kept_right.false;
      suspended = (counted parts entries place entry progress c.is_counted_right.result _ c.deref-4.ensures.value so_far c.is_counted_right.ensures).0 c.if-not-is_counted_right.false;
      memory = (c.has_cause.ensures entries place is_state).0 c.if-not-has_cause.false;
    }
