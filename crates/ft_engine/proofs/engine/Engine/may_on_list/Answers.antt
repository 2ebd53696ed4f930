use Rattle.ft_engine.proofs.MayCalls.{on_list, had_list}
use Rattle.ft_engine.proofs.engine.Engine.may_on_list.Goals as goal

pub returns : goal.returns
returns c =
    let a = c.args in (
      λ yes.
          let x = c.may_name.ensures.0 yes in
          (x.0, on_list a.self.now a.caller.now x.0 x.1 c.requires.online a.l x.2),
      λ may.
          let y = had_list a.self.now a.caller.now a.l may.0 may.1 in
          c.may_name.ensures.1 (may.0, y.0, y.1, tt),
    )
