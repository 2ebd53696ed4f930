use Rattle.std.proofs.Common.{◌+◌, length, sym, ap, ◌∙◌}
use Rattle.ft_history.proofs.UpdatedDicts.{length-dict_update}
use Rattle.ft_history.proofs.passing.length_with_keys.Goals as goal

pub returns : goal.returns
returns c =
    ap (λ n. n + c.new_keys.result) c.len.ensures.length
    ∙ ap (λ n. length c.args.dict.now.pairs + n) c.new_keys.ensures.keys
    ∙ sym (length-dict_update c.args.other.now.pairs c.args.dict.now c.new_keys.ensures.is_dict.distinct)
