use Rattle.std.proofs.Common.{ℕ, Vec, Global}
use Rattle.ft_texts.proofs.TextLemmas.{added}
use Rattle.ft_texts.proofs.texts.Texts.add.Goals as goal

pub returns-clause-ok : goal.returns-clause-ok
returns-clause-ok c =
    added (λ (v : Vec ℕ Global). v.items) c.args.text.now c.self.inside.texts.keys c.insert.new.self.keys c.in_ok-text.text c.args.self.now c.requires.new c.self.view_is c.in_ok-text.ensures.items c.in_ok-insert.ensures.keys
