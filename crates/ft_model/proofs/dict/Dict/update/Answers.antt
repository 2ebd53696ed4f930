use Rattle.std.proofs.Common.{arith, ◌≡◌, ap, ◌∙◌}
use Rattle.std.proofs.lemmas.Grind.{common_steps}
use Rattle.ft_model.specs.Contents.{DictContent, dict_get, dict_update}
use Rattle.ft_model.proofs.DictLaws.{update_reads}
use Rattle.ft_model.proofs.dict.Dict.update.Goals as goal

pub returns-clause-reads : goal.returns-clause-reads
returns-clause-reads c = λ key.
    let grown : c.loop-pair.grown ≡ dict_update c.args.self.now c.args.other.now.pairs = grind (arith, common_steps) in
    ap (λ (d : DictContent). dict_get d.pairs key) grown ∙ update_reads c.args.other.now.pairs c.args.self.now c.pairs-pair-items.ensures.is_dict.distinct key
