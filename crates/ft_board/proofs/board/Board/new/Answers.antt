use Rattle.std.proofs.Common.{◌≡◌, ◌<◌, ◌∙◌, List, length, get_or, ap, subst, arith}
use Rattle.ft_model.specs.declared.script.Thread.{Thread}
use Rattle.ft_board.proofs.Counting.{room}
use Rattle.ft_board.proofs.board.Board.new.Goals as goal

pub reserve_all-requires : goal.reserve_all-requires
reserve_all-requires g c =
    let owns = c.args.script.now.threads in
    let k = c.loop-own.own-index in
    let d = c.own-item.result in
    let items : c.as_slice-own-items.result.now ≡ owns = c.as_slice-own-items.ensures ∙ ap (λ parts. parts.threads) c.parts.ensures.parts in
    let is : d ≡ get_or owns k d = subst (λ (all : List Thread). d ≡ get_or all k d) items c.own-item.is in
    let short : k < length owns = subst (λ (all : List Thread). k < length all) items c.loop-own-test.true in
    let same : length c.as_slice.result.now ≡ length (get_or owns k d).calls = ap length c.as_slice.ensures ∙ ap (λ (own : Thread). length own.calls) is in
    let few = c.parts.ensures.rule.few_calls in
    record { few = λ thread index. let counted = c.loop-own.invariant thread index in let within = room thread index owns k d short in omega (arith, counted, within, same, few) }
