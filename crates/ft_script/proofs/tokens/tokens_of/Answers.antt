use Rattle.std.proofs.Common.{ℕ, List, Bor, map, ◌∙◌, arith}
use Rattle.ft_script.specs.Internal.Tokens.{tokens_of}
use Rattle.ft_script.proofs.TokenCuts.{cut_on, cut_plain_on, cut_done, start_within}
use Rattle.ft_script.proofs.tokens.tokens_of.Goals as goal

abbrev shown : List (Bor (List ℕ)) → List (List ℕ)
shown tokens = map (λ (token : Bor (List ℕ)). token.now) tokens

pub loop-i-preserved-then-goes_on : goal.loop-i-preserved-then-goes_on
loop-i-preserved-then-goes_on c =
    let plain = c.goes_on.ensures.0 c.if-goes_on.true in
    record {
      same = cut_plain_on c.args.line.now (shown c.loop-i.tokens.items) c.loop-i.place c.loop-i.start c.loop-i.i (tokens_of c.args.line.now) c.loop-i-test.true c.loop-i.invariant.low plain.0 plain.1 plain.2 c.loop-i.invariant.same;
      low = omega arith;
    }

pub loop-i-preserved : goal.loop-i-preserved
loop-i-preserved c =
    let line = c.args.line.now in
    let on = cut_on line (shown c.loop-i.tokens.items) c.loop-i.place c.place_after-next.result c.token_ends-ends.result c.loop-i.start c.loop-i.i c.token_start-start.result (tokens_of line) c.loop-i-test.true c.loop-i.invariant.low c.place_after-next.ensures c.token_ends-ends.ensures c.token_start-start.ensures c.loop-i.invariant.same in
    record {
      same = rw c.in_ok-add_word.ensures on;
      low = start_within c.loop-i.place c.token_ends-ends.result c.loop-i.start c.loop-i.i c.token_start-start.result c.loop-i.invariant.low c.token_start-start.ensures;
    }

pub returns : goal.returns
returns c =
    let line = c.args.line.now in
    c.in_ok-add_word-2.ensures ∙ rw c.is_open.ensures (cut_done line (shown c.loop-i.tokens.items) c.loop-i.place c.loop-i.start c.loop-i.i (tokens_of line) c.loop-i-test.false c.loop-i.invariant.same)
