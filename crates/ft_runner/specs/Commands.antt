-- The command line of the tool. (profile)
use Rattle.std.specs.Prelude.{ℕ, Bool, true, false, ◌&&◌, nat_le, List, [], ◌∷◌, Option, Some, None, codes, option_map, if◌then◌else◌}
use Rattle.std.specs.Str.{bytes_eq}
use Rattle.std.specs.Str.Parse.{digits_value}
use Rattle.clap.specs.Simple.{Shape, new_rule, new_shape, on_top}
use Rattle.clap.specs.Words.{App, Rule, new_app, with_subcommand}
use Rattle.ft_runner.specs.declared.command.Subcommand.{Subcommand}
use Rattle.ft_runner.specs.declared.command.Subcommand.TheVariants as subcommand
use Rattle.ft_script.specs.LineWords.{is_positive}

-- the subcommand of a word that takes no arguments
abbrev pub named : List ℕ → Option Subcommand
named word =
    if bytes_eq (codes "run") word then Some subcommand.Run else (
    if bytes_eq (codes "turns") word then Some subcommand.Turns else (
    if bytes_eq (codes "check") word then Some subcommand.Check else None))

-- the most calls that a script is made of
abbrev pub most_made : ℕ
most_made = 100000

-- the number of calls that a word is: a digit from 1 to 9, and then digits
abbrev pub calls_in_word : List ℕ → Option ℕ
calls_in_word word =
    if is_positive word && nat_le (digits_value 10 word) most_made then Some (digits_value 10 word) else None

-- what `make` is asked for by its number of calls, and by a mode where one is given
abbrev pub made_command : List ℕ → Option (List ℕ) → Option Subcommand
made_command calls None = option_map (λ count. subcommand.Make count) (calls_in_word calls)
made_command calls (Some mode) =
    if bytes_eq (codes "turns") mode then option_map (λ count. subcommand.MakeTurns count) (calls_in_word calls)
    else None

-- the commands that read a script and run it
abbrev pub runs_script : Subcommand → Bool
runs_script subcommand.Run = true
runs_script subcommand.Turns = true
runs_script subcommand.Check = false
runs_script (subcommand.Make calls) = false
runs_script (subcommand.MakeTurns calls) = false

-- words without the first mark that ends options
abbrev pub without_mark : List (List ℕ) → List (List ℕ)
without_mark [] = []
without_mark (word ∷ words) = if bytes_eq word (codes "--") then words else word ∷ without_mark words

-- the command of a subcommand's word and its arguments
abbrev pub commanded : List ℕ → List (List ℕ) → Option Subcommand
commanded word [] = named word
commanded word (calls ∷ []) = if bytes_eq (codes "make") word then made_command calls None else None
commanded word (calls ∷ mode ∷ []) = if bytes_eq (codes "make") word then made_command calls (Some mode) else None
commanded word others = None

-- the command that the words are: the program's name, a subcommand's and its arguments, among which one mark that ends
-- options may stand
abbrev pub command_of : List (List ℕ) → Option Subcommand
command_of (program ∷ word ∷ words) = commanded word (without_mark words)
command_of others = None

-- the same as the parser of command lines gets it: one of the subcommands is required, and there is no help and no
-- version
abbrev pub without_help : Shape → Shape
without_help shape =
    record shape {
      disable_help_flag = true;
      disable_version_flag = true;
      disable_help_subcommand = true;
      subcommand_required = true;
    }

-- `make` has a number of calls, and maybe a mode
abbrev pub calls_rule : Rule
calls_rule = record (new_rule (codes "calls")) { required = true }

abbrev pub mode_rule : Rule
mode_rule = new_rule (codes "mode")

abbrev pub make_shape : Shape
make_shape = record (new_shape (codes "make")) { rules = calls_rule ∷ mode_rule ∷ [] }

abbrev pub tool : App
tool =
    with_subcommand (with_subcommand
    (with_subcommand (with_subcommand (on_top without_help (new_app (codes "ftpy"))) (new_shape (codes "run")))
    (new_shape (codes "turns"))) (new_shape (codes "check"))) make_shape
