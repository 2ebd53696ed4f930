use Rattle.std.proofs.Common.{◌≡◌, ◌<◌, ◌≤◌, length, get_or, None, ap, ◌∙◌}
use Rattle.std.specs.Prelude.{slice_get}
use Rattle.ft_model.specs.Histories.{calls_of}
use Rattle.ft_turns.proofs.TurnSteps.{call_left, no_call_left}
use Rattle.ft_run_turns.proofs.Seated.{spent_goes_on}
use Rattle.ft_run_turns.proofs.trying.try_next.Goals as goal

pub try_call-requires-clause-call : goal.try_call-requires-clause-call
try_call-requires-clause-call c =
    let t = c.index-as_slice-thread.result in
    let found = c.in-Some.ensures.lookup in
    let place : c.len-place.result ≡ length c.args.entries.now.items = c.len-place.ensures ∙ c.args.entries.now.ok.0 in
    let read : t ≡ get_or c.args.script.now.threads c.args.thread t = c.index-as_slice-thread.is ∙ ap (λ ts. get_or ts c.args.thread t) c.as_slice.ensures in
    let below : c.len-place.result < length t.calls = rw (c.as_slice-calls.ensures, ← c.index-as_slice-thread.is) at found.3.0 in
    let called : c.in-Some.call.now ≡ get_or t.calls c.len-place.result c.in-Some.call.now = rw (c.as_slice-calls.ensures, ← c.index-as_slice-thread.is) at found.1 in
    rw (← place) (call_left c.args.script.now c.args.thread t c.len-place.result c.in-Some.call.now c.requires.thread read below called)

pub returns-in-None-clause-turn : goal.returns-in-None-clause-turn
returns-in-None-clause-turn c =
    let t = c.index-as_slice-thread.result in
    let place : c.len-place.result ≡ length c.args.entries.now.items = c.len-place.ensures ∙ c.args.entries.now.ok.0 in
    let read : t ≡ get_or c.args.script.now.threads c.args.thread t = c.index-as_slice-thread.is ∙ ap (λ ts. get_or ts c.args.thread t) c.as_slice.ensures in
    let past : length t.calls ≤ c.len-place.result = rw (c.as_slice-calls.ensures, ← c.index-as_slice-thread.is) at c.in-None.ensures.lookup.3 in
    let none : slice_get (calls_of c.args.script.now c.args.thread) (length c.args.entries.now.items) ≡ None = rw (← place) (no_call_left c.args.script.now c.args.thread t c.len-place.result c.requires.thread read past) in
    spent_goes_on c.args.script.now c.args.thread c.args.caller.now c.args.entries.now.items none
