use Rattle.std.proofs.Common.{ap, ◌∙◌, replicate}
use Rattle.ft_model.specs.TableUses.{no_table}
use Rattle.ft_history.proofs.AccountLemmas.{account_at_start}
use Rattle.ft_history.proofs.account.start_account.Goals as goal

pub returns : goal.returns
returns c = account_at_start c.args.parts.now _ c.requires (c.in_ok-no_tables.ensures ∙ ap (λ n. replicate n no_table) c.len.ensures) (c.in_ok-vec.ensures.items_if_clones_equal (λ y same. same))
