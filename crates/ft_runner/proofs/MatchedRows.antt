-- From what the parser of the command line has met to the command.
use Rattle.std.proofs.Common.{◌≡◌, ◌∙◌, List, Option, Some, None, sym, ap, ap₂, codes}
use Rattle.std.specs.Prelude.{Box, is_some, option_map, unwrap_or}
use Rattle.std.specs.Box.{box_value}
use Rattle.std.proofs.lemmas.Bool.{true≢false}
use Rattle.clap.specs.Words.{Row, Text, first_value, found_of, rows_of, subcommand_name_of, subcommand_rows, subcommand_rows_of}
use Rattle.clap.specs.declared.parser.matches.ArgMatches.{ArgMatches}
use Rattle.clap.specs.declared.parser.matches.Found.{Found}
use Rattle.clap.specs.declared.parser.matches.SubCommand.{SubCommand}
use Rattle.clap.specs.declared.parser.matches.ArgMatches.TheViews.{out-ArgMatches, out-SubCommand}
use Rattle.clap.proofs.WalkLemmas.{first_value-rows}
use Rattle.ft_runner.specs.Internal.Matched.{matched, matched_by}

some_is : {X : Type 0} (x y : X) → Some x ≡ Some y → x ≡ y
some_is x y same = ap (λ found. unwrap_or found x) same

-- the name and the rows of a subcommand that was met
rows_met : {Z : Type 0} (met : Option (Box SubCommand Z)) (name : Text) (rows : List Row) → Some name ≡ option_map (λ b. (out-SubCommand (box_value b)).name.now) met → Some rows ≡ option_map (λ p. p.1) (subcommand_rows met) → subcommand_rows met ≡ Some (name, rows)
rows_met None name rows named has = absurd (true≢false (ap is_some named))
rows_met (Some met) name rows named has =
    sym (ap₂ (λ (n : Text) (rs : List Row). Some (n, rs)) (some_is name (out-SubCommand (box_value met)).name.now named) (some_is rows (rows_of (found_of (out-SubCommand (box_value met)).matches)) has))

module _ (m : ArgMatches) (name : Text) (found : Found) (named : Some name ≡ subcommand_name_of m) (has : Some (rows_of found) ≡ option_map (λ p. p.1) (subcommand_rows (out-ArgMatches m).subcommand)) where
  -- the command of what was met, by the texts of its arguments
  pub matched_is : (calls mode : Option Text) → calls ≡ first_value found (codes "calls") → mode ≡ first_value found (codes "mode") → matched (subcommand_rows_of m) ≡ matched_by name calls mode
  matched_is calls mode is_calls is_mode =
      ap matched (rows_met (out-ArgMatches m).subcommand name (rows_of found) named has)
      ∙ ap₂ (matched_by name) (sym (is_calls ∙ first_value-rows found (codes "calls"))) (sym (is_mode ∙ first_value-rows found (codes "mode")))
