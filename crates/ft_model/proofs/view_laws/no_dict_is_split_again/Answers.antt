use Rattle.std.proofs.Common.{ap, ◌∙◌}
use Rattle.std.proofs.lemmas.List.Sums.{fold-append}
use Rattle.ft_model.specs.TableUses.{StoredWorld, after_stored, empty_stored, stored_by, table_at}
use Rattle.ft_model.proofs.SplitLaws.{never_again}
use Rattle.ft_model.proofs.view_laws.no_dict_is_split_again.Goals as goal

pub returns : goal.returns
returns c starts before after place none = ap (λ (s : StoredWorld). (table_at s.tables place).keys) (fold-append after_stored (empty_stored starts) before after) ∙ never_again after (stored_by starts before) place none
