use Rattle.std.proofs.Common.{sym, subst}
use Rattle.ft_model.specs.declared.call.Call.{Call}
use Rattle.ft_model.specs.declared.reply.Reply.TheVariants as reply
use Rattle.ft_bank.specs.Passes.{shape_of, view}
use Rattle.ft_bank.specs.Whole.{OnlyLoaded}
use Rattle.ft_search.specs.MadeCalls.{IsShownBy, MadeAs}
use Rattle.ft_search.proofs.Calling.{answer_loaded}
use Rattle.ft_search.proofs.Running.{did_log}
use Rattle.ft_search.proofs.Spotting.{may_loaded}
use Rattle.ft_reads.proofs.Both.{both_loaded}
use Rattle.ft_whole_tables.specs.Comparisons.{IsComparedAs, compared}
use Rattle.ft_whole_tables.proofs.Compared.{compared_shown}
use Rattle.ft_whole_tables.proofs.KnownContents.{both_show, shown_then}
use Rattle.ft_whole_tables.proofs.comparisons.compare_locked.Goals as goal
use Rattle.ft_whole_tables.proofs.comparisons.compare_locked.Goals.{After-holds_between-is_so}

loaded : (c : After-holds_between-is_so) → OnlyLoaded (view c.args.pass.now) (view c.holds_between-is_so.new.pass)
loaded c = both_loaded (shape_of c.args.bank.now) c.args.c c.args.other (IsComparedAs (shape_of c.args.bank.now) c.args.how c.holds_between-is_so.result) c.args.pass.now c.holds_between-is_so.new.pass c.holds_between-is_so.ensures.reads

shown : (c : After-holds_between-is_so) → IsShownBy (compared c.args.how c.args.c c.args.other) (reply.Truth c.holds_between-is_so.result) (view c.holds_between-is_so.new.pass)
shown c =
    let a = c.args in
    let k = shape_of a.bank.now in
    let v = view a.pass.now in
    let is_so = c.holds_between-is_so.result in
    let q = c.holds_between-is_so.new.pass in
    let shows = both_show k a.c a.other (IsComparedAs k a.how is_so) a.pass.now q c.requires.pass.1 c.holds_between-is_so.ensures.reads c.requires.may c.requires.other in
    shown_then (compared a.how a.c a.other) (reply.Truth is_so) v (view q) (loaded c)
    (compared_shown k a.how a.c a.other v c.requires.pass.1 a.pass.now.possible c.requires.may c.requires.other c.requires.kind c.requires.other_kind is_so shows)

pub answer_made-requires-clause-left : goal.answer_made-requires-clause-left
answer_made-requires-clause-left c = (may_loaded (shape_of c.args.bank.now) c.args.c (view c.args.pass.now) (view c.holds_between-is_so.new.pass) c.requires.pass.1 (loaded (goal.at.answer_made-requires-clause-left c).After-holds_between-is_so) c.requires.may).left

pub answer_made-requires-clause-shown : goal.answer_made-requires-clause-shown
answer_made-requires-clause-shown c =
    subst (λ (z : Call). IsShownBy z (reply.Truth c.holds_between-is_so.result) (view c.holds_between-is_so.new.pass)) (sym c.call_of-called.ensures)
    (shown (goal.at.answer_made-requires-clause-shown c).After-holds_between-is_so)

pub returns-clause-made : goal.returns-clause-made
returns-clause-made c =
    let r = c.holds_between-is_so.ensures.reads in
    let p = c.args.pass.now in
    let q = c.holds_between-is_so.new.pass in
    let answered = c.answer_made in
    answer_loaded (compared c.args.how c.args.c c.args.other) (reply.Truth c.holds_between-is_so.result) answered.result.0 answered.result.1 (view p) (view q) (view answered.new.pass) r.0 (loaded (goal.at.returns-clause-made c).After-holds_between-is_so) (did_log r.0 p q r.2) answered.ensures.said
    (subst (λ (z : Call). MadeAs z (reply.Truth c.holds_between-is_so.result) answered.result.1 (view q) (view answered.new.pass)) c.call_of-called.ensures answered.ensures.made)
