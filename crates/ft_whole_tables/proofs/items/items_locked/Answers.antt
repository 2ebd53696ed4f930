use Rattle.std.proofs.Common.{sym, subst}
use Rattle.std.specs.Prelude.{Result, IfOk}
use Rattle.std.specs.declared.alloc.AllocError.{AllocError}
use Rattle.std.proofs.lemmas.Result.{err_from_is_err_and}
use Rattle.ft_model.specs.declared.call.Call.{Call}
use Rattle.ft_model.specs.declared.reply.Reply.{Reply}
use Rattle.ft_trace.specs.Holds.{held_unboxed}
use Rattle.ft_bank.specs.Passes.{shape_of, view}
use Rattle.ft_bank.specs.Whole.{OnlyLoaded}
use Rattle.ft_search.specs.MadeCalls.{IsShownBy, MadeAs}
use Rattle.ft_search.proofs.Calling.{answer_loaded}
use Rattle.ft_search.proofs.Running.{did_log}
use Rattle.ft_reads.proofs.Agreeing.{reads_loaded}
use Rattle.ft_reads.specs.Copies.{IsCopied}
use Rattle.ft_whole_tables.specs.Items.{items_call, IsAllIn, IsItemsReply}
use Rattle.ft_whole_tables.proofs.Copied.{items_shown, items_taken}
use Rattle.ft_whole_tables.proofs.KnownContents.{read_may, read_shows, shown_then}
use Rattle.ft_whole_tables.proofs.items.items_locked.Goals as goal
use Rattle.ft_whole_tables.proofs.items.items_locked.Goals.{After-copy_all}

loaded : (c : After-copy_all) → OnlyLoaded (view c.args.pass.now) (view c.copy_all.new.pass)
loaded c = reads_loaded (shape_of c.args.bank.now) c.args.c (IsAllIn c.args.way (shape_of c.args.bank.now) c.copy_all.result) c.args.pass.now c.copy_all.new.pass c.copy_all.ensures.reads

shows : (c : After-copy_all) → IsAllIn c.args.way (shape_of c.args.bank.now) c.copy_all.result (held_unboxed c.args.c (view c.args.pass.now))
shows c = read_shows (shape_of c.args.bank.now) c.args.c (IsAllIn c.args.way (shape_of c.args.bank.now) c.copy_all.result) c.args.pass.now c.copy_all.new.pass c.requires.pass.1 c.copy_all.ensures.reads c.requires.may

pub answer_made-requires-clause-left : goal.answer_made-requires-clause-left
answer_made-requires-clause-left c =
    let k = shape_of c.args.bank.now in
    (read_may k c.args.c (IsAllIn c.args.way k c.copy_all.result) c.args.pass.now c.copy_all.new.pass c.requires.pass.1 c.copy_all.ensures.reads c.requires.may).left

pub answer_made-requires-clause-shown : goal.answer_made-requires-clause-shown
answer_made-requires-clause-shown c =
    let a = c.args in
    let k = shape_of a.bank.now in
    let v = view a.pass.now in
    let w = view c.copy_all.new.pass in
    let said = c.in_ok-said.said in
    let before = (goal.at.answer_made-requires-clause-shown c).After-copy_all in
    let all = subst (λ (r : Result Reply AllocError). IfOk r (IsItemsReply a.way)) c.in_ok-said.was c.copy_all.ensures.of_kind in
    subst (λ (z : Call). IsShownBy z said w) (sym c.copying_call-called.ensures)
    (shown_then (items_call a.way a.c) said v w (loaded before)
    (items_shown a.way k a.c v c.requires.pass.1 a.pass.now.possible c.requires.may c.requires.kind said all (subst (λ (r : Result Reply AllocError). IsAllIn a.way k r (held_unboxed a.c v)) c.in_ok-said.was (shows before))))

pub returns-in_err-said-clause-copied : goal.returns-in_err-said-clause-copied
returns-in_err-said-clause-copied c =
    let a = c.args in
    let k = shape_of a.bank.now in
    let v = view a.pass.now in
    let before = (goal.at.returns-in_err-said-clause-copied c).After-copy_all in
    let failed = err_from_is_err_and c.from_residual.result c.from_residual.ensures.1 in
    let takes = items_taken a.way k a.c v c.requires.pass.1 a.pass.now.possible c.requires.may c.requires.kind c.in_err-said.field-0.0 (subst (λ (r : Result Reply AllocError). IsAllIn a.way k r (held_unboxed a.c v)) c.in_err-said.was (shows before)) in
    subst (λ z. IsCopied (items_call a.way a.c) v (view c.copy_all.new.pass) z) (sym failed.1) (loaded before, takes)

pub returns-clause-copied : goal.returns-clause-copied
returns-clause-copied c =
    let a = c.args in
    let p = a.pass.now in
    let q = c.copy_all.new.pass in
    let r = c.copy_all.ensures.reads in
    let z = c.answer_made in
    answer_loaded (items_call a.way a.c) c.in_ok-said.said z.result.0 z.result.1 (view p) (view q) (view z.new.pass) r.0 (loaded (goal.at.returns-clause-copied c).After-copy_all) (did_log r.0 p q r.2) z.ensures.said
    (subst (λ (y : Call). MadeAs y c.in_ok-said.said z.result.1 (view q) (view z.new.pass)) c.copying_call-called.ensures z.ensures.made)
