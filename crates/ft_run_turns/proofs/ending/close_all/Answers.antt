use Rattle.std.proofs.Common.{◌≡◌, length, ap, ◌∙◌}
use Rattle.std.proofs.lemmas.List.{length-map}
use Rattle.ft_bank.specs.Closings.{found_in, had_in, lists_in as passes_in, told_of}
use Rattle.ft_bank.specs.Passes.{shape_of}
use Rattle.ft_engine.specs.Callers.{bank_of}
use Rattle.ft_run_threads.proofs.WholeLists.{ended_legal, ended_with}
use Rattle.ft_run_threads.proofs.Entries.{pass_entries}
use Rattle.ft_run_turns.specs.Internal.CallerSeats.{seat_entries, vec_lists}
use Rattle.ft_run_turns.proofs.Ended.{ends}
use Rattle.ft_run_turns.proofs.Ordered.{ended_order, moved_lists}
use Rattle.ft_run_turns.proofs.ending.close_all.Goals as goal

pub gather_in-requires-clause-seats : goal.gather_in-requires-clause-seats
gather_in-requires-clause-seats c = ends c.args.engine c.args.script.now c.args.seats.items c.requires.seats c.requires.made

pub close-requires-clause-all : goal.close-requires-clause-all
close-requires-clause-all c =
    c.in_ok-contents.ensures.taken.parts
    ∙ (ap (λ lists. length (vec_lists lists)) c.deref.ensures.value ∙ (ap length c.in_ok-caller.ensures.lists ∙ (length-map c.args.seats.items seat_entries ∙ c.requires.count)))

pub returns-clause-order : goal.returns-clause-order
returns-clause-order c =
    let e = c.args.engine in
    let script = c.args.script.now in
    let seats = c.args.seats.items in
    let ended = c.in_ok-caller.ensures in
    let lists = vec_lists c.in_ok-caller.lists.items in
    let history = c.in_ok-history.history.items in
    let all : length lists ≡ (shape_of (bank_of e)).passes = ap length ended.lists ∙ (length-map seats seat_entries ∙ c.requires.count) in
    ended_order e script seats c.args.tokens lists history c.requires.script c.requires.bank c.requires.turned all ended.lists ended.taken.made (moved_lists c.in_ok-caller.lists.items history c.in_ok-history.ensures.entries)
    (c.in_ok-history.ensures.numbered script)

pub returns-clause-legal : goal.returns-clause-legal
returns-clause-legal c =
    let e = c.args.engine in
    let script = c.args.script.now in
    let ended = c.in_ok-caller.ensures in
    let lists = vec_lists c.in_ok-caller.lists.items in
    let history = c.in_ok-history.history.items in
    let all : length lists ≡ (shape_of (bank_of e)).passes = ap length ended.lists ∙ (length-map c.args.seats.items seat_entries ∙ c.requires.count) in
    ended_legal script (shape_of (bank_of e)) lists c.requires.script c.requires.bank all ended.taken.made history (moved_lists c.in_ok-caller.lists.items history c.in_ok-history.ensures.entries) (c.in_ok-history.ensures.legal script)

pub returns-clause-contents : goal.returns-clause-contents
returns-clause-contents c =
    let e = c.args.engine in
    let script = c.args.script.now in
    let ended = c.in_ok-caller.ensures in
    let lists = vec_lists c.in_ok-caller.lists.items in
    let history = c.in_ok-history.history.items in
    let contents = c.in_ok-contents.contents.items in
    let read = c.in_ok-contents.ensures in
    let closed = c.in_ok-history.ensures in
    let all : length lists ≡ (shape_of (bank_of e)).passes = ap length ended.lists ∙ (length-map c.args.seats.items seat_entries ∙ c.requires.count) in
    ended_with script (shape_of (bank_of e)) lists c.requires.script c.requires.bank all ended.taken.made history contents (moved_lists c.in_ok-caller.lists.items history closed.entries)
    (λ rule of made. closed.contents script contents rule of made read.floor read.shown)
    (λ nil. closed.nothing contents nil read.floor read.shown)

pub returns-clause-entries : goal.returns-clause-entries
returns-clause-entries c =
    let closed = c.in_ok-history.closed in
    let lists = vec_lists c.in_ok-caller.lists.items in
    let history = c.in_ok-history.history.items in
    pass_entries c.args.script.now lists (passes_in closed) (had_in closed) (found_in closed) (told_of closed) history c.in_ok-history.ensures.closed (returns-clause-legal c) (moved_lists c.in_ok-caller.lists.items history c.in_ok-history.ensures.entries)

pub returns-clause-online : goal.returns-clause-online
returns-clause-online c = c.in_ok-history.ensures.online c.in_ok-contents.ensures.taken.online
