use Rattle.ft_engine.proofs.MayCalls.{at_element, had_element}
use Rattle.ft_engine.proofs.engine.Engine.may_at_element.Goals as goal

pub returns : goal.returns
returns c =
    let a = c.args in (
      λ yes.
          let x = c.may_name.ensures.0 yes in
          (x.0, at_element a.self.now a.caller.now x.0 x.1 c.requires.online a.s a.key x.2 x.3),
      λ may.
          let y = had_element a.self.now a.caller.now a.s a.key may.0 may.1 in
          c.may_name.ensures.1 (may.0, y.0, y.1, y.2),
    )
