use Rattle.std.proofs.Common.{◌∙◌}
use Rattle.ft_engine.proofs.engine.Engine.note_resting.Goals as goal

pub returns-clause-caller : goal.returns-clause-caller
returns-clause-caller c =
    let e = c.note_resting.ensures in
    let was = c.requires.caller.1 in
    let rests = was.2 in (
      e.resting.0,
      (
        was.0,
        was.1,
        record {
          pass = e.resting.1 ∙ rests.pass;
          sections = e.sections ∙ rests.sections;
          cursors = rests.cursors;
          calls = rests.calls;
          made = rests.made;
          flight = rests.flight;
        },
      ),
    )
