use Rattle.std.proofs.Common.{◌∙◌, ap, sym}
use Rattle.std.proofs.lemmas.Result.{err_from_is_err_and}
use Rattle.ft_script.proofs.ReplyLoops.{good, pairs_begin, three_on, three_end, pairs_short, pairs_done}
use Rattle.ft_script.proofs.TokenLists.{shown}
use Rattle.ft_script.proofs.replies.pairs_of.Goals as goal

pub loop-rest-init : goal.loop-rest-init
loop-rest-init c = rw c.new-pairs.ensures.items (pairs_begin c.args.strings.now (shown c.args.tokens.now))

pub loop-rest-preserved : goal.loop-rest-preserved
loop-rest-preserved c =
    rw c.in_ok-push.ensures.items (three_on c.args.strings.now c.loop-rest.pairs.items c.in_ok-known_pair.field-0 c.loop-rest.rest.now _ _ _ c.in-len3-up.len_at_least c.in_ok-known_pair.ensures c.loop-rest.invariant)

pub returns-in_err-known_pair : goal.returns-in_err-known_pair
returns-in_err-known_pair c =
    let p = err_from_is_err_and c.from_residual.result c.from_residual.ensures.1 in
    rw (p.1, p.2) (three_end c.args.strings.now c.in_err-known_pair.field-0.0 c.loop-rest.pairs.items c.loop-rest.rest.now _ _ _ c.in-len3-up.len_at_least c.in_err-known_pair.ensures c.loop-rest.invariant)

pub returns-then-not-is_empty : goal.returns-then-not-is_empty
returns-then-not-is_empty c =
    rw c.into.ensures (pairs_short c.args.strings.now c.loop-rest.pairs.items c.loop-rest.rest.now _ c.in_default.len_below (sym c.is_empty.ensures ∙ c.if-not-is_empty.true) c.loop-rest.invariant)

pub returns : goal.returns
returns c = pairs_done c.args.strings.now c.loop-rest.pairs.items c.loop-rest.rest.now _ (sym c.is_empty.ensures ∙ c.if-not-is_empty.false) c.loop-rest.invariant ∙ ap good (sym c.from_vec.ensures)
