use Rattle.std.proofs.Common.{◌≡◌, ◌↔◌, ◌<◌, IsTrue, List, [], take, length, refl, sym, ap, subst, ◌∙◌, arith}
use Rattle.std.proofs.lemmas.List.{append-nil}
use Rattle.std.proofs.lemmas.Option.{slice_get_read}
use Rattle.ft_model.specs.declared.call.Call.{Call}
use Rattle.ft_model.specs.declared.entry.Entry.{Entry}
use Rattle.ft_model.specs.declared.entry.Storage.{Storage}
use Rattle.ft_model.specs.Boxings.{boxings}
use Rattle.ft_model.specs.Histories.{writes, entries_of}
use Rattle.ft_model.specs.TableUses.{IsEarned}
use Rattle.ft_model.specs.Worlds.{starts_of}
use Rattle.ft_history.specs.declared.progress.ThreadProgress.{ThreadProgress}
use Rattle.ft_history.specs.Internal.States.{IsProgress}
use Rattle.ft_model.proofs.StoredLaws.{stored_world}
use Rattle.ft_history.proofs.judging.has_cause.Goals as goal

pub returns-in-Tables : goal.returns-in-Tables
returns-in-Tables c = λ entries place is_state.
    let calls : List Call = writes (take place entries) in
    let thread = c.args.entry.now.thread in
    let mine : List Entry = entries_of thread (take place entries) in
    let progress : ThreadProgress = c.index.result.now in
    let low : thread < length c.args.state.now.threads.items = omega (arith, c.requires.thread, c.args.state.now.threads.ok.0) in
    let so_far : IsProgress c.args.parts.now entries thread place progress = is_state.progress thread progress (slice_get_read c.args.state.now.threads.items _ thread progress refl low c.index.ensures) in
    subst (λ (s : Storage). IsTrue c.is_earned.result ↔ IsEarned s c.args.parts.now calls mine c.args.entry.now) (sym c.in-Tables.is)
    (c.is_earned.ensures calls mine (is_state.world ∙ sym (stored_world (starts_of c.args.parts.now.containers) calls)) is_state.account
    (so_far.boxed [] ∙ ap (λ (cs : List Call). boxings (starts_of c.args.parts.now.containers) cs mine) (append-nil calls)))
