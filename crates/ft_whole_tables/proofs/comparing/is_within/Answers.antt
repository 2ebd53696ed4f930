use Rattle.std.proofs.Common.{◌≡◌, false, not, sym, ap, ◌∙◌}
use Rattle.std.specs.List.{list_any}
use Rattle.ft_model.specs.declared.content.Element.{Element}
use Rattle.ft_model.specs.Contents.{has_element, is_subset}
use Rattle.ft_model.specs.Worlds.{set_of}
use Rattle.ft_bank.specs.Passes.{shape_of}
use Rattle.ft_reads.proofs.Both.{both_map}
use Rattle.ft_whole_tables.specs.Comparing.{AreOfSets, is_met}
use Rattle.ft_whole_tables.proofs.Paired.{all_not}
use Rattle.ft_whole_tables.proofs.comparing.is_within.Goals as goal

pub returns-clause-reads : goal.returns-clause-reads
returns-clause-reads c =
    let a = c.args in
    let k = shape_of a.bank.now in
    let found = c.any_meets.result in
    both_map k a.s a.other (AreOfSets k (λ set others. found ≡ list_any (λ (e : Element). is_met false others e.key) set.elements)) (AreOfSets k (λ set others. not found ≡ is_subset set.elements others.elements)) a.pass.now c.any_meets.new.pass c.any_meets.ensures.reads
    (λ x y holds one is stands two is' stands'. ap not (holds one is stands two is' stands') ∙ sym (all_not (λ (e : Element). has_element (set_of two.content).elements e.key) (set_of one.content).elements))
