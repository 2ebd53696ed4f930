-- What the parser of command lines has met.
use Rattle.std.specs.Prelude.{List, ℕ, Option, Some, None, codes, option_and_then}
use Rattle.clap.specs.Words.{Row, first_of}
use Rattle.ft_runner.specs.declared.command.Subcommand.{Subcommand}
use Rattle.ft_runner.specs.Commands.{made_command, named}

-- the subcommand of a name, and of the values of its arguments
abbrev pub matched_by : List ℕ → Option (List ℕ) → Option (List ℕ) → Option Subcommand
matched_by name None mode = named name
matched_by name (Some calls) mode = made_command calls mode

-- the subcommand of a name and the rows of its arguments
abbrev pub matched : Option (List ℕ × List Row) → Option Subcommand
matched = option_and_then (λ met. matched_by met.0 (first_of (codes "calls") met.1) (first_of (codes "mode") met.1))
