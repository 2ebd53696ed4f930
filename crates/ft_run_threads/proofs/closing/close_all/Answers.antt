use Rattle.std.specs.declared.alloc.Global.{Global}
use Rattle.std.proofs.Common.{◌≡◌, arith, List, length, map, sym, subst}
use Rattle.std.specs.List.Sorted.{IsPermutation}
use Rattle.std.specs.Prelude.{Vec}
use Rattle.std.proofs.lemmas.List.{length-map}
use Rattle.std.proofs.lemmas.List.Folds.{flat_map-map}
use Rattle.ft_model.specs.declared.entry.Entry.{Entry}
use Rattle.ft_bank.specs.Closings.{found_in, had_in, lists_in, told_of}
use Rattle.ft_bank.specs.Passes.{shape_of}
use Rattle.ft_engine.specs.Callers.{bank_of}
use Rattle.ft_run_threads.proofs.WholeLists.{ended_legal, ended_with}
use Rattle.ft_run_threads.proofs.Entries.{pass_entries}
use Rattle.ft_run_threads.proofs.closing.close_all.Goals as goal

pub returns-clause-legal : goal.returns-clause-legal
returns-clause-legal c =
    let taken = c.loop-worker.invariant.0 in
    let lists = map (λ list. list.items) c.loop-worker.lists.items in
    let history = c.in_ok-history.history.items in
    let all : length lists ≡ (shape_of (bank_of c.args.engine)).passes =
    let none = c.in-None.ensures.steps.0 in
    let left = c.loop-worker.invariant.3 in
    let long = length-map c.loop-worker.lists.items (λ (list : Vec Entry Global). list.items) in
    let sum = c.loop-worker.invariant.2 in
    omega (arith, none, left, long, sum) in
    let moved = subst (λ (l : List Entry). IsPermutation l history) (sym (flat_map-map (λ (mine : List Entry). mine) (λ (list : Vec Entry Global). list.items) c.loop-worker.lists.items)) c.in_ok-history.ensures.entries in
    ended_legal c.args.script.now (shape_of (bank_of c.args.engine)) lists c.parts-parts.ensures.rule c.requires.bank all taken.made history moved (c.in_ok-history.ensures.legal c.args.script.now)

pub returns-clause-contents : goal.returns-clause-contents
returns-clause-contents c =
    let e = c.args.engine in
    let script = c.args.script.now in
    let items = λ (list : Vec Entry Global). list.items in
    let lists = map items c.loop-worker.lists.items in
    let history = c.in_ok-history.history.items in
    let contents = c.in_ok-contents.contents.items in
    let read = c.in_ok-contents.ensures in
    let closed = c.in_ok-history.ensures in
    let all : length lists ≡ (shape_of (bank_of e)).passes =
    let none = c.in-None.ensures.steps.0 in
    let left = c.loop-worker.invariant.3 in
    let long = length-map c.loop-worker.lists.items items in
    let sum = c.loop-worker.invariant.2 in
    omega (arith, none, left, long, sum) in
    let moved = subst (λ (l : List Entry). IsPermutation l history) (sym (flat_map-map (λ (mine : List Entry). mine) items c.loop-worker.lists.items)) closed.entries in
    ended_with script (shape_of (bank_of e)) lists c.parts-parts.ensures.rule c.requires.bank all c.loop-worker.invariant.0.made history contents moved
    (λ rule of made. closed.contents script contents rule of made read.floor read.shown)
    (λ nil. closed.nothing contents nil read.floor read.shown)

pub returns-clause-entries : goal.returns-clause-entries
returns-clause-entries c =
    let lists = map (λ list. list.items) c.loop-worker.lists.items in
    let history = c.in_ok-history.history.items in
    let moved = subst (λ (l : List Entry). IsPermutation l history) (sym (flat_map-map (λ (mine : List Entry). mine) (λ (list : Vec Entry Global). list.items) c.loop-worker.lists.items)) c.in_ok-history.ensures.entries in
    pass_entries c.args.script.now lists (lists_in c.in_ok-history.closed) (had_in c.in_ok-history.closed) (found_in c.in_ok-history.closed) (told_of c.in_ok-history.closed) history c.in_ok-history.ensures.closed (returns-clause-legal c) moved

pub returns-clause-online : goal.returns-clause-online
returns-clause-online c = c.in_ok-history.ensures.online c.in_ok-contents.ensures.taken.online
