use Rattle.std.specs.declared.alloc.Global.{Global}
use Rattle.std.proofs.Common.{◌≡◌, ◌++◌, [], ◌∷◌, length, map, sym, ap, subst, ◌∙◌}
use Rattle.std.specs.Prelude.{Vec}
use Rattle.std.proofs.lemmas.List.{length-map, map-append}
use Rattle.ft_model.specs.declared.entry.Entry.{Entry}
use Rattle.ft_run_threads.specs.Workers.{HasTakenIn}
use Rattle.ft_run_turns.specs.Internal.CallerSeats.{IsEndSeat, vec_lists}
use Rattle.ft_run_turns.proofs.Ended.{end_next, end_rest, end_taken}
use Rattle.ft_run_turns.proofs.ending.take_in.Goals as goal

pub join_resting-requires-clause-last : goal.join_resting-requires-clause-last
join_resting-requires-clause-last c =
    let e = c.args.engine.now in
    let script = c.args.script.now in
    let lists = vec_lists c.args.lists.now.items in
    let long : length lists ≡ length c.args.lists.now.items = length-map c.args.lists.now.items (λ (list : Vec Entry Global). list.items) in
    let end = subst (λ n. IsEndSeat e script n c.args.seat) (sym long) c.requires.seat in
    end_next e script c.args.caller.now lists c.in-Some.seat c.requires.taken (subst (IsEndSeat e script (length lists)) c.in-Some.is end).0

pub join_resting-requires-clause-done : goal.join_resting-requires-clause-done
join_resting-requires-clause-done c =
    let e = c.args.engine.now in
    let script = c.args.script.now in
    let n = length c.args.lists.now.items in
    let end = subst (IsEndSeat e script n) c.in-Some.is c.requires.seat in
    end_rest e script n c.in-Some.seat c.requires.script end.0 end.1

pub join_resting-requires-clause-other : goal.join_resting-requires-clause-other
join_resting-requires-clause-other c =
    let end = subst (IsEndSeat c.args.engine.now c.args.script.now (length c.args.lists.now.items)) c.in-Some.is c.requires.seat in
    (end.0.resting, (end.0.caller, end.0.is, end.0.rests))

pub returns-clause-taken : goal.returns-clause-taken
returns-clause-taken c =
    let e = c.args.engine.now in
    let script = c.args.script.now in
    let before = c.args.lists.now.items in
    let lists = vec_lists before in
    let s = c.in-Some.seat in
    let d = c.join_resting.new.caller in
    let x = c.join_resting.ensures in
    let items = λ (list : Vec Entry Global). list.items in
    let long : length lists ≡ length before = length-map before items in
    let end = subst (λ n. IsEndSeat e script n c.args.seat) (sym long) c.requires.seat in
    let is = subst (IsEndSeat e script (length lists)) c.in-Some.is end in
    let same : vec_lists c.push.new.self.items ≡ lists ++ s.entries.items ∷ [] = ap (map items) c.in_ok-push.ensures.items ∙ map-append items before (s.entries ∷ []) in
    subst (HasTakenIn e script d) (sym same)
    (end_taken e script c.args.caller.now d s lists c.requires.script c.requires.taken is.0 is.1 x.caller x.thread x.idle x.announced x.merged x.sections x.parts x.kept x.online)

pub returns-clause-floor : goal.returns-clause-floor
returns-clause-floor c has = c.join_resting.ensures.floor.floor ∙ has
