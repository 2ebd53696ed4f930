use Rattle.std.proofs.Common.{ℕ, Vec, Global}
use Rattle.ft_script.proofs.StringLemmas.{added}
use Rattle.ft_script.proofs.strings.Strings.add.Goals as goal

pub returns : goal.returns
returns c =
    added (λ (v : Vec ℕ Global). v.items) c.args.text.now c.self.inside.texts.keys c.insert.new.self.keys c.in_ok-text.text c.args.self.now c.requires.new c.self.view_is c.in_ok-text.ensures.items c.in_ok-insert.ensures.keys
