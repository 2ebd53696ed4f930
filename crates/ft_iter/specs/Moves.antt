-- What one `next` comes to.
use Rattle.std.specs.Prelude.{◌≡◌}
use Rattle.ft_model.specs.Cursors.{CursorStep}
use Rattle.ft_model.specs.declared.cursor_calls.Advanced.{Advanced}

-- it answers so and leaves this cursor
abbrev pub IsStep : Advanced → CursorStep → Type 0
IsStep advanced step = (advanced.reply ≡ step.reply) × (advanced.cursor ≡ step.cursor)
