use Rattle.std.proofs.Common.{◌≡◌, ℕ, ◌&&◌, ◌<◌, List, length, get_or, refl, sym, ap, ◌∙◌, arith, cond, ◌==◌, ◌+◌}
use Rattle.std.specs.Prelude.{Some, slice_get}
use Rattle.std.specs.List.{list_any}
use Rattle.std.proofs.lemmas.Bool.{false≢true}
use Rattle.std.proofs.lemmas.Option.{slice_get_read}
use Rattle.ft_model.specs.Histories.{names}
use Rattle.ft_history.specs.declared.progress.ThreadProgress.{ThreadProgress}
use Rattle.ft_history.specs.declared.writers.LastWrites.{LastWrites}
use Rattle.ft_history.specs.Internal.States.{after_one}
use Rattle.ft_history.proofs.judging.go_after.Goals as goal

-- the thread whose call it is
its_thread : (threads : List ThreadProgress) (thread count : ℕ) (progress : ThreadProgress) → thread < count → count ≡ length threads → progress ≡ get_or threads thread progress → slice_get threads thread ≡ Some progress
its_thread threads thread count progress low long read = slice_get_read threads _ thread progress refl (omega arith) read

pub go_through-requires-clause-room : goal.go_through-requires-clause-room
go_through-requires-clause-room c =
    let threads = c.args.state.now.threads in
    c.requires.room c.index_mut-progress.result.now (its_thread threads.items c.args.entry.now.thread _ c.index_mut-progress.result.now c.requires.thread threads.ok.0 c.index_mut-progress.ensures.value)

pub go_through-requires-clause-made : goal.go_through-requires-clause-made
go_through-requires-clause-made c =
    let threads = c.args.state.now.threads in
    (c.requires.few c.index_mut-progress.result.now (its_thread threads.items c.args.entry.now.thread _ c.index_mut-progress.result.now c.requires.thread threads.ok.0 c.index_mut-progress.ensures.value)).0

pub go_through-requires-clause-marks : goal.go_through-requires-clause-marks
go_through-requires-clause-marks c =
    let threads = c.args.state.now.threads in
    (c.requires.few c.index_mut-progress.result.now (its_thread threads.items c.args.entry.now.thread _ c.index_mut-progress.result.now c.requires.thread threads.ok.0 c.index_mut-progress.ensures.value)).1

pub go_through-requires-clause-boxed : goal.go_through-requires-clause-boxed
go_through-requires-clause-boxed c =
    let threads = c.args.state.now.threads in
    (c.requires.few c.index_mut-progress.result.now (its_thread threads.items c.args.entry.now.thread _ c.index_mut-progress.result.now c.requires.thread threads.ok.0 c.index_mut-progress.ensures.value)).2

pub returns-then-entry : goal.returns-then-entry
returns-then-entry c =
    let threads = c.args.state.now.threads in
    let entry = c.args.entry.now in
    let before : ThreadProgress = c.index_mut-progress.result.now in
    let after : ThreadProgress = c.go_through.new.progress in
    let low : entry.thread < length threads.items = omega (arith, c.requires.thread, threads.ok.0) in (
      before,
      after,
      record {
        at = slice_get_read threads.items _ entry.thread before refl low c.index_mut-progress.ensures.value;
        threads = refl;
        right = c.in_ok-right.ensures.right;
        world = c.in_ok-right.ensures.world;
        hands = c.in_ok-right.ensures.hands;
        made = c.in_ok-right.ensures.made;
        marks = c.in_ok-right.ensures.marks;
        boxed = c.in_ok-right.ensures.boxed;
        sections = c.in_ok-right.ensures.sections;
        writes = ap (λ b. c.args.state.now.writes + cond b 1 0) (sym c.if-entry.true);
        containers = sym c.note_write.new.containers.ok.0 ∙ c.note_write.ensures.length ∙ c.args.state.now.containers.ok.0;
        lasts = λ container other.
            let old : LastWrites = get_or c.args.state.now.containers.items container other in
            c.note_write.ensures.noted container other
            ∙ ap (λ (ns : List ℕ). cond (list_any (λ n. n == container) ns) (after_one old entry.thread c.args.place) old) c.containers.ensures
            ∙ ap (λ b. cond (b && names container entry.call) (after_one old entry.thread c.args.place) old) (sym c.if-entry.true);
        taking = λ wrote. c.note_taking.ensures c.args.state.now.world c.size_of_own-size.ensures;
        same = λ quiet. absurd (false≢true (sym quiet ∙ c.if-entry.true));
      },
    )

pub returns-else-entry : goal.returns-else-entry
returns-else-entry c =
    let threads = c.args.state.now.threads in
    let entry = c.args.entry.now in
    let before : ThreadProgress = c.index_mut-progress.result.now in
    let after : ThreadProgress = c.go_through.new.progress in
    let low : entry.thread < length threads.items = omega (arith, c.requires.thread, threads.ok.0) in (
      before,
      after,
      record {
        at = slice_get_read threads.items _ entry.thread before refl low c.index_mut-progress.ensures.value;
        threads = refl;
        right = c.in_ok-right.ensures.right;
        world = c.in_ok-right.ensures.world;
        hands = c.in_ok-right.ensures.hands;
        made = c.in_ok-right.ensures.made;
        marks = c.in_ok-right.ensures.marks;
        boxed = c.in_ok-right.ensures.boxed;
        sections = c.in_ok-right.ensures.sections;
        writes = let none : c.args.state.now.writes ≡ c.args.state.now.writes + 0 = omega arith in none ∙ ap (λ b. c.args.state.now.writes + cond b 1 0) (sym c.if-entry.false);
        containers = refl;
        lasts = λ container other. ap (λ b. cond (b && names container entry.call) (after_one (get_or c.args.state.now.containers.items container other) entry.thread c.args.place) (get_or c.args.state.now.containers.items container other)) (sym c.if-entry.false);
        taking = λ wrote. absurd (false≢true (sym c.if-entry.false ∙ wrote));
        same = λ quiet. refl;
      },
    )
