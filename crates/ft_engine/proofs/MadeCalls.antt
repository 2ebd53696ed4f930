-- What whole looks and whole calls promise, from what their one try comes to, or from the last of their tries.
use Rattle.std.proofs.Common.{◌≡◌, ◌<◌, ◌+◌, ◌∙◌, ◌≢◌, ℕ, refl, List, [], true, false, sym, ap, arith, subst, inl, true≢false}
use Rattle.std.specs.Prelude.{Option, None}
use Rattle.ft_model.specs.declared.call.Call.{Call}
use Rattle.ft_model.specs.declared.cursor.Cursor.{Cursor}
use Rattle.ft_model.specs.declared.entry.Entry.{Entry as NamedEntry}
use Rattle.ft_model.specs.declared.reply.Reply.{Reply}
use Rattle.ft_bank.specs.declared.pass.Pass.{Pass}
use Rattle.ft_bank.specs.Passes.{view, IsPassOf}
use Rattle.ft_bank.specs.PassSections.{stack_of}
use Rattle.ft_bank_history.proofs.SoFar.{memory_errors_are_found}
use Rattle.ft_section.specs.declared.answers.Look.{Look}
use Rattle.ft_section.specs.declared.answers.Look.TheVariants as look
use Rattle.ft_section.specs.declared.answers.Objects.{Objects}
use Rattle.ft_section.specs.declared.answers.Stamp.{Stamp}
use Rattle.ft_section.specs.declared.answers.Step.{Step}
use Rattle.ft_section.specs.declared.answers.Step.TheVariants as step
use Rattle.ft_section.specs.Ready.{MayTry}
use Rattle.ft_engine.specs.declared.attempts.Tried.TheVariants as tried
use Rattle.ft_engine.specs.declared.caller.Caller.{Caller}
use Rattle.ft_engine.specs.declared.caller.Flight.TheVariants as flight
use Rattle.ft_engine.specs.declared.calling.Called.{Called}
use Rattle.ft_engine.specs.declared.calling.Called.TheVariants as called
use Rattle.ft_engine.specs.declared.engine.Engine.{Engine}
use Rattle.ft_engine.specs.Answering.{HasLooked, IsLooked, IsTryOfCall, copies}
use Rattle.ft_engine.specs.AtOnce.{CameAtOnce, IsPlainCall}
use Rattle.ft_engine.specs.Attempts.{MayAttempt, after_look, entries_with_answer, entries_with_look, flight_looked}
use Rattle.ft_engine.specs.Callers.{IsCallerOf, IsIdle, thread_of}
use Rattle.ft_engine.specs.Calling.{IsBetween, IsTried, last_of}
use Rattle.ft_engine.specs.Contentions.{may_look}
use Rattle.ft_engine.specs.Keeping.{WasAnswered}
use Rattle.ft_engine.specs.MadeCalls.{IsCallFor, IsLookFor}
use Rattle.ft_engine.proofs.AtOnce.{done_at_once, moved_at_once, not_looked, refused_at_once, waits_at_once}
use Rattle.ft_engine.proofs.AtRest.{still_of}
use Rattle.ft_engine.proofs.Callers.{ready_of}
use Rattle.ft_engine.proofs.Keeping.{no_answer_idle}
use Rattle.ft_engine.proofs.LookCalls.{after_caller, after_flight, after_kept, after_pass, after_same}
use Rattle.ft_engine.proofs.Retrying.{done_called, done_kept, done_same, more_between, none_between, tried_own}
use Rattle.ft_engine.proofs.SoFar.{answers_right, call_open, look_open}
use Rattle.ft_engine.proofs.Uncontended.{look_stands}

-- ---- looks

pub look_for : (e : Engine) (c : Caller) (q : Pass) (asked : Call) (answer : Look) → IsCallerOf e c → MayAttempt e c asked → IsIdle c → may_look asked ≡ true → IsPassOf e.bank q → stack_of q ≡ stack_of c.pass → IsLooked asked (view c.pass) (view q) answer → IsLookFor e asked answer c (after_look asked answer (record c { pass = q }))
look_for e c q asked answer is may idle looks pass stack looked =
    let free = no_answer_idle c.flight idle in
    let some = may.left free in
    let d : Caller = after_look asked answer (record c { pass = q }) in
    let the_pass : d.pass ≡ q = after_pass asked answer (record c { pass = q }) in
    let flies : d.flight ≡ flight_looked asked answer = after_flight e c q asked is idle some looks pass stack answer in
    let kept : (mine : List NamedEntry) → WasAnswered c mine → WasAnswered d (entries_with_look (thread_of c) asked answer mine) = λ mine k. after_kept e c q asked is idle some looks pass stack answer mine looked k in
    record {
      caller = after_caller e c q asked is idle some looks pass stack answer looked;
      same = after_same e c q asked is idle some looks pass stack answer looked;
      flight = flies;
      sections = ap stack_of the_pass ∙ stack;
      kept = kept;
      looked = subst (λ (p : Pass). IsLooked asked (view c.pass) (view p) answer) (sym the_pass) looked;
      floor = λ has. look_stands e.bank c.pass q c.cursors.items asked answer (may.names free) (still_of e c is).even pass.1 looked has;
      right = λ mine k. answers_right d (entries_with_look (thread_of c) asked answer mine) (look_open asked answer d.flight flies) (kept mine k);
    }

-- a look that copies nothing is not refused memory
pub looked_some : (asked : Call) (p q : Pass) (answer : Look) → copies asked ≡ false → IsLooked asked (view p) (view q) answer → answer ≢ look.NoMemory
looked_some asked p q answer none looked is =
    let copying : copies asked ≡ true = (subst (IsLooked asked (view p) (view q)) is looked).1 in
    true≢false (sym copying ∙ none)

-- ---- calls

-- the last try ended the call
pub call_for : (e : Engine) (asked : Call) (answer : Called) (b c d : Caller) → IsBetween e asked b c → IsTried e asked (last_of answer) c d → IsCallFor e asked answer b d
call_for e asked answer b c d before x =
    let kept : (mine : List NamedEntry) → WasAnswered b mine → WasAnswered d (entries_with_answer (thread_of b) asked (last_of answer) mine) = λ mine k. done_kept e asked (last_of answer) b c d mine before x k in
    record {
      caller = x.caller;
      same = done_same e asked (last_of answer) b c d before x;
      flight = x.flight;
      kept = kept;
      called = done_called e asked answer b c d before x;
      own = tried_own e asked b c d (last_of answer) before x;
      right = λ mine k. answers_right d (entries_with_answer (thread_of b) asked (last_of answer) mine) (call_open asked answer d.flight x.flight) (kept mine k);
      found_none = memory_errors_are_found (view d.pass);
    }

-- ---- calls that were tried at once

pub came_done : (e : Engine) (asked : Call) (c d : Caller) (said : Reply) (stamp : Stamp) → CameAtOnce e asked c d (step.Done said stamp) → IsCallFor e asked (called.Done said stamp None) c (record d { made = d.made + 1 })
came_done e asked c d said stamp x =
    let t : IsTried e asked (tried.Done said stamp None) c (record d { made = d.made + 1 }) = subst (λ (y : Caller). IsTried e asked (tried.Done said stamp None) c (record y { made = y.made + 1 })) (sym x.same)
    (done_at_once e c d.pass asked said stamp x.caller x.idle x.none x.may x.plain x.tried) in
    call_for e asked (called.Done said stamp None) c c (record d { made = d.made + 1 }) (none_between e asked c x.caller x.may) t

pub came_refused : (e : Engine) (asked : Call) (c d : Caller) → CameAtOnce e asked c d step.NoMemory → IsCallFor e asked called.NoMemory c (record d { flight = flight.Refused asked })
came_refused e asked c d x =
    let t : IsTried e asked tried.NoMemory c (record d { flight = flight.Refused asked }) = subst (λ (y : Caller). IsTried e asked tried.NoMemory c (record y { flight = flight.Refused asked })) (sym x.same)
    (refused_at_once e c d.pass asked x.caller x.idle x.may x.plain x.tried) in
    call_for e asked called.NoMemory c c (record d { flight = flight.Refused asked }) (none_between e asked c x.caller x.may) t

pub came_waits : (e : Engine) (asked : Call) (c d : Caller) (o owner : ℕ) → CameAtOnce e asked c d (step.NotYet o owner) → IsBetween e asked c (record d { flight = flight.Tried asked })
came_waits e asked c d o owner x =
    let t : IsTried e asked (tried.NotYet o owner) c (record d { flight = flight.Tried asked }) = subst (λ (y : Caller). IsTried e asked (tried.NotYet o owner) c (record y { flight = flight.Tried asked })) (sym x.same)
    (waits_at_once e c d.pass asked o owner x.caller x.idle x.may x.plain x.looked x.tried) in
    more_between e asked c c (record d { flight = flight.Tried asked }) (tried.NotYet o owner) (none_between e asked c x.caller x.may) tt t

pub came_moved : (e : Engine) (asked : Call) (c d : Caller) (first second : ℕ) → CameAtOnce e asked c d (step.Moved first second) → IsBetween e asked c (record d { flight = flight.Tried asked })
came_moved e asked c d first second x =
    let t : IsTried e asked (tried.Moved first second) c (record d { flight = flight.Tried asked }) = subst (λ (y : Caller). IsTried e asked (tried.Moved first second) c (record y { flight = flight.Tried asked })) (sym x.same)
    (moved_at_once e c d.pass asked first second x.caller x.idle x.may x.plain x.tried) in
    more_between e asked c c (record d { flight = flight.Tried asked }) (tried.Moved first second) (none_between e asked c x.caller x.may) tt t

-- ---- calls that take their locks from the start

-- a caller that is in no call and has no section open may take any lock
pub may_lock : (e : Engine) (c : Caller) (objects : Objects) → IsCallerOf e c → IsIdle c → MayTry e.bank c.pass objects
may_lock e c objects is idle = inl (ready_of e c is idle)

-- the pass has an entry left
pub some_left : (e : Engine) (c : Caller) (asked : Call) → IsCallerOf e c → IsIdle c → MayAttempt e c asked → 0 < (view c.pass).left
some_left e c asked is idle may =
    let some = may.left (no_answer_idle c.flight idle) in
    let left = is.left in
    omega (arith, some, left)

-- what the try of a free caller came to
pub came_from : (e : Engine) (asked : Call) (c : Caller) (q : Pass) (came : Step) → IsCallerOf e c → MayAttempt e c asked → IsIdle c → (stack_of c.pass).sections ≡ [] → IsPlainCall asked → HasLooked asked (view c.pass) (view q) came → ((hands : List (Option Cursor)) → IsTryOfCall e.bank hands asked c.pass q came) → CameAtOnce e asked c (record c { pass = q }) came
came_from e asked c q came is may idle none plain looked tries = record { caller = is; may = may; idle = idle; none = none; plain = plain; same = refl; looked = looked; tried = tries }

-- the same of a call that isn't looked first
pub locked_came : (e : Engine) (asked : Call) (c : Caller) (q : Pass) (came : Step) → IsCallerOf e c → MayAttempt e c asked → IsIdle c → (stack_of c.pass).sections ≡ [] → IsPlainCall asked → may_look asked ≡ false → ((hands : List (Option Cursor)) → IsTryOfCall e.bank hands asked c.pass q came) → CameAtOnce e asked c (record c { pass = q }) came
locked_came e asked c q came is may idle none plain locks tries = came_from e asked c q came is may idle none plain (not_looked asked (view c.pass) (view q) came locks) tries
