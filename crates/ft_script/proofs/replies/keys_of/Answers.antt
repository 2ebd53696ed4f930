use Rattle.std.proofs.Common.{◌∙◌, ap, sym}
use Rattle.std.proofs.lemmas.Result.{err_from_is_err_and}
use Rattle.ft_script.specs.Internal.Candidates.{known_key}
use Rattle.ft_script.proofs.ReplyLoops.{good, each_begins, each_on, each_end, each_done}
use Rattle.ft_script.proofs.TokenLists.{shown}
use Rattle.ft_script.proofs.replies.keys_of.Goals as goal

pub loop-token-init : goal.loop-token-init
loop-token-init c = rw c.new-keys.ensures.items (each_begins (known_key c.args.strings.now) (shown c.args.tokens.now))

pub loop-token-preserved : goal.loop-token-preserved
loop-token-preserved c =
    rw c.in_ok-push.ensures.items (each_on (known_key c.args.strings.now) c.loop-token.keys.items c.in_ok-known_key.field-0 c.args.tokens.now c.loop-token.token-index _ _ c.loop-token-test.true c.in_ok-known_key.ensures c.loop-token.invariant)

pub returns-in_err-known_key : goal.returns-in_err-known_key
returns-in_err-known_key c =
    let p = err_from_is_err_and c.from_residual.result c.from_residual.ensures.1 in
    rw (p.1, p.2) (each_end (known_key c.args.strings.now) c.in_err-known_key.field-0.0 c.loop-token.keys.items c.args.tokens.now c.loop-token.token-index _ _ c.loop-token-test.true c.in_err-known_key.ensures c.loop-token.invariant)

pub returns : goal.returns
returns c =
    each_done (known_key c.args.strings.now) c.loop-token.keys.items c.args.tokens.now c.loop-token.token-index _ c.loop-token-test.false c.loop-token.invariant ∙ ap good (sym c.from_vec.ensures)
