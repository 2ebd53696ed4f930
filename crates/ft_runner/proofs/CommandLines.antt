-- Which words the parser of the command line takes.
use Rattle.std.proofs.Common.{◌≡◌, ◌≢◌, ◌≤◌, ℕ, Bool, true, false, zero, suc, List, [], ◌∷◌, length, Option, Some, None, codes, refl, sym, subst, ap, ap₂, inl, inr, ◌⊎◌, ◌∙◌, arith, if◌then◌else◌, option_map}
use Rattle.std.specs.Prelude.{find, slice_get, is_some, fold}
use Rattle.std.specs.Option.{option_map_or}
use Rattle.std.specs.Str.{chars, bytes_eq}
use Rattle.std.proofs.lemmas.Slice.Eq.{bytes_eq-Decides}
use Rattle.std.proofs.lemmas.Bool.{true≢false, false≢true}
use Rattle.clap.specs.Lexer.{long_of, short_of}
use Rattle.clap.specs.Kinds.{Kinds, or_else}
use Rattle.clap.specs.Walk.{Held, first_of, Names, Text, Walk, nothing_held, walk, walk_from, walked, idle, plain, after_flag, bundle_met, bundle_step, long_or_other, short_or_plain, subcommand_met, answers_to, finished, settled}
use Rattle.clap.specs.Simple.{App, Shape, built, entered, label_of, names_of, new_shape, rows_at, subcommand_of}
use Rattle.clap.specs.Faults.{bundle_fault, bundle_step_fault, check_fault, defaults_fault, entered_fault, flag_word_fault, flags_fault, fault_of, level_fault, settle_fault, step_fault, stray_fault, turn_fault, walk_fault}
use Rattle.clap.specs.declared.error.kind.ErrorKind.TheVariants as kind
use Rattle.clap.proofs.FaultLemmas.{stopped_fault}
use Rattle.clap.proofs.WalkLemmas.{walk_stopped}
use Rattle.ft_script.specs.LineWords.{is_positive}
use Rattle.ft_runner.specs.Commands.{calls_in_word, command_of, commanded, made_command, named, tool, without_mark}
use Rattle.ft_runner.specs.Internal.Matched.{matched, matched_by}
use Rattle.ft_runner.specs.declared.command.Subcommand.{Subcommand}
use Rattle.ft_runner.specs.declared.command.Subcommand.TheVariants as subcommand
use Rattle.ft_runner.proofs.KindLemmas.{dashes, neither, nonempty}
use Rattle.ft_runner.proofs.MakeLines.{IsBare, IsGiven, given, make_fault, make_leaf, mode_taken, not_empty, number_bare, number_taken}

-- ---- kinds of error

stray : (shape : Shape) → stray_fault shape ≢ []
stray shape =
    elim shape.is_leaf as (λ b. (if b then kind.UnknownArgument ∷ [] else kind.UnknownArgument ∷ kind.InvalidSubcommand ∷ []) ≢ []) [
      | true ↦ nonempty kind.UnknownArgument []
      | false ↦ nonempty kind.UnknownArgument (kind.InvalidSubcommand ∷ [])
    ]

none_some : {X : Type 0} {x : X} → None ≡ Some x → ⊥
none_some same = false≢true (ap is_some same)

-- ---- a command without arguments

module _ (shape : Shape) (names : Names) where
  abbrev bare : Shape
  bare = record shape { rules = [] }

  abbrev again : Bool
  again = shape.args_override_self

  -- no flag is known, and a word that is none is no value of anything
  flag_refused : (k : ℕ) (first : Option ℕ) (word flags : Text) (held : Held)
      → or_else (bundle_step_fault [] again first flags 0 held (flags_fault [] again k)) (step_fault bare 1 (after_flag [] idle word (bundle_step [] first flags 0 plain held (bundle_met [] k)).0 (bundle_step [] first flags 0 plain held (bundle_met [] k)).1).0 (after_flag [] idle word (bundle_step [] first flags 0 plain held (bundle_met [] k)).0 (bundle_step [] first flags 0 plain held (bundle_met [] k)).1).1) ≢ []
  flag_refused k None word flags held = stray bare
  flag_refused k (Some first) word flags held = nonempty kind.UnknownArgument []

  flags_refused : (k : ℕ) (word flags : Text) (held : Held)
      → or_else (flags_fault [] again k flags 0 held) (step_fault bare 1 (after_flag [] idle word (bundle_met [] k flags 0 plain held).0 (bundle_met [] k flags 0 plain held).1).0 (after_flag [] idle word (bundle_met [] k flags 0 plain held).0 (bundle_met [] k flags 0 plain held).1).1) ≢ []
  unfolding flags_fault bundle_met
  flags_refused zero word flags held = stray bare
  flags_refused (suc k) word flags held = flag_refused k (slice_get (chars flags) 0) word flags held

  short_refused : (word : Text) (short : Option Text)
      → or_else (option_map_or (λ flags. bundle_fault [] again flags nothing_held) short []) (step_fault bare 1 (short_or_plain [] idle word short nothing_held).0 (short_or_plain [] idle word short nothing_held).1) ≢ []
  short_refused word None = stray bare
  short_refused word (Some flags) = flags_refused (length flags) word flags nothing_held

  long_refused : (word : Text) (long : Option (Text × Option Text))
      → or_else (flag_word_fault [] again long word nothing_held) (step_fault bare 1 (long_or_other [] idle word long nothing_held).0 (long_or_other [] idle word long nothing_held).1) ≢ []
  long_refused word None = short_refused word (short_of word)
  long_refused word (Some long) = nonempty kind.UnknownArgument []

  -- a word that names no subcommand
  word_refused : (word : Text) (others : List Text) → subcommand_met names idle word ≡ None → bytes_eq word dashes ≡ false → walk_fault bare names (walk_from nothing_held) (word ∷ others) ≢ []
  unfolding walk_fault
  word_refused word others met other none =
      let turn : turn_fault bare names (walk_from nothing_held) word ≢ [] = rw (met, other) (long_refused word (long_of word)) in
      turn (neither (turn_fault bare names (walk_from nothing_held) word) _ none).0

  -- a word after the mark that ends options
  marked_refused : (mark word : Text) (others : List Text) → subcommand_met names idle mark ≡ None → bytes_eq mark dashes ≡ true → walk_fault bare names (walk_from nothing_held) (mark ∷ word ∷ others) ≢ []
  unfolding walk_fault walked
  marked_refused mark word others met is = rw (met, is) (λ none. stray bare (neither (stray_fault bare) _ none).0)

-- ---- a subcommand

-- nothing stands after a subcommand but the mark that ends options
abbrev is_end : List Text → Bool
is_end [] = true
is_end (mark ∷ []) = bytes_eq mark dashes
is_end (mark ∷ word ∷ words) = false

abbrev leaf : Text → Shape
leaf name = record (new_shape name) { disable_help_flag = true; disable_version_flag = true; disable_help_subcommand = true; is_built = true }

abbrev leaf_fault : Text → List Text → Kinds
leaf_fault name words = level_fault (leaf name) [] nothing_held words false []

ends : (name : Text) (words : List Text) → is_end words ≡ true → leaf_fault name words ≡ []
unfolding walk_fault walked defaults_fault
ends name [] end = refl
ends name (mark ∷ []) end = rw end refl
ends name (mark ∷ word ∷ words) end = absurd (false≢true end)

goes_on : (name : Text) (words : List Text) → is_end words ≡ false → leaf_fault name words ≢ []
goes_on name [] more none = true≢false more
goes_on name (mark ∷ []) more none = word_refused (leaf name) [] mark [] refl more (neither _ _ none).0
goes_on name (mark ∷ word ∷ words) more none =
    elim (bytes_eq mark dashes) as (λ b. bytes_eq mark dashes ≡ b → ⊥) [
      | true ↦ λ is. marked_refused (leaf name) [] mark word words refl is (neither _ _ none).0
      | false ↦ λ other. word_refused (leaf name) [] mark (word ∷ words) refl other (neither _ _ none).0
    ] refl

-- ---- the tool

abbrev app : App
app = built tool

abbrev names : Names
names = names_of app

abbrev start : Walk
start = walk_from nothing_held

-- what the walk over the words, and where it ends, come to
abbrev whole : Kinds → Walk → Kinds
whole walking end =
    or_else walking
    (or_else (entered_fault app end.stopped)
    (or_else (settle_fault [] false end.held)
    (or_else (defaults_fault (settled [] end.held).rows []) (check_fault app.top (finished [] end.held) (is_some (entered app end.stopped))))))

-- a word that the parser takes for a subcommand's name
record IsMet (word name : Text) (shape : Shape) : Type 0 where
  met : subcommand_met names idle word ≡ Some name
  found : find (λ sub. answers_to name (label_of sub)) app.subs ≡ Some shape
  no_help : bytes_eq name (codes "help") ≡ false

-- the name of a subcommand that takes no arguments
record IsKnown (word : Text) : Type 0 where
  name : Text
  command : Subcommand
  is : named word ≡ Some command
  names_it : named name ≡ Some command
  no_make : bytes_eq (codes "make") word ≡ false
  met : IsMet word name (leaf name)

record IsMake (word : Text) : Type 0 where
  is : bytes_eq (codes "make") word ≡ true
  no_name : named word ≡ None
  met : IsMet word (codes "make") make_leaf

record IsUnknown (word : Text) : Type 0 where
  is : named word ≡ None
  no_make : bytes_eq (codes "make") word ≡ false
  met : subcommand_met names idle word ≡ None

same_word : (a word : Text) → bytes_eq a word ≡ true → word ≡ a
same_word a word same = sym ((bytes_eq-Decides a word).0 same)

run_known : IsKnown (codes "run")
run_known = record { name = codes "run"; command = subcommand.Run; is = refl; names_it = refl; no_make = refl; met = record { met = refl; found = refl; no_help = refl } }

turns_known : IsKnown (codes "turns")
turns_known = record { name = codes "turns"; command = subcommand.Turns; is = refl; names_it = refl; no_make = refl; met = record { met = refl; found = refl; no_help = refl } }

check_known : IsKnown (codes "check")
check_known = record { name = codes "check"; command = subcommand.Check; is = refl; names_it = refl; no_make = refl; met = record { met = refl; found = refl; no_help = refl } }

make_met : IsMake (codes "make")
make_met = record { is = refl; no_name = refl; met = record { met = refl; found = refl; no_help = refl } }

known_or_not : (word : Text) → IsKnown word ⊎ (IsMake word ⊎ IsUnknown word)
known_or_not word =
    elim (bytes_eq (codes "run") word) as (λ b. bytes_eq (codes "run") word ≡ b → IsKnown word ⊎ (IsMake word ⊎ IsUnknown word)) [
      | true ↦ λ run. inl (subst IsKnown (sym (same_word (codes "run") word run)) run_known)
      | false ↦ λ no_run. elim (bytes_eq (codes "turns") word) as (λ b. bytes_eq (codes "turns") word ≡ b → IsKnown word ⊎ (IsMake word ⊎ IsUnknown word)) [
        | true ↦ λ turns. inl (subst IsKnown (sym (same_word (codes "turns") word turns)) turns_known)
        | false ↦ λ no_turns. elim (bytes_eq (codes "check") word) as (λ b. bytes_eq (codes "check") word ≡ b → IsKnown word ⊎ (IsMake word ⊎ IsUnknown word)) [
          | true ↦ λ check. inl (subst IsKnown (sym (same_word (codes "check") word check)) check_known)
          | false ↦ λ no_check. elim (bytes_eq (codes "make") word) as (λ b. bytes_eq (codes "make") word ≡ b → IsKnown word ⊎ (IsMake word ⊎ IsUnknown word)) [
            | true ↦ λ make. inr (inl (subst IsMake (sym (same_word (codes "make") word make)) make_met))
            | false ↦ λ no_make. inr (inr (record { is = rw (no_run, no_turns, no_check) refl; no_make = no_make; met = rw (no_run, no_turns, no_check, no_make) refl }))
          ] refl
        ] refl
      ] refl
    ] refl

module _ (word name : Text) (shape : Shape) (known : IsMet word name shape) (words : List Text) where
  abbrev entered_walk : Walk
  entered_walk = record start { stopped = Some (name, words) }

  first_step : walked [] names start word ≡ record start { stopped = Some (name, []) }
  unfolding walked
  first_step = rw known.met refl

  abbrev walk_on : Walk → Walk
  walk_on w = fold (walked [] names) w words

  walk_is : walk [] names nothing_held (word ∷ words) ≡ entered_walk
  walk_is = ap (λ (w : Walk). walk_on w) first_step ∙ sym (walk_stopped [] names start name [] words)

  walking_is : walk_fault app.top names start (word ∷ words) ≡ []
  unfolding walk_fault
  walking_is = rw (known.met, known.no_help) (ap (λ (w : Walk). walk_fault app.top names w words) first_step ∙ stopped_fault app.top names start (name, []) words)

  abbrev shape_fault : Kinds
  shape_fault = level_fault shape [] nothing_held words false []

  met_fault : (program : Text) → fault_of tool (program ∷ word ∷ words) ≡ or_else shape_fault []
  unfolding defaults_fault
  met_fault program =
      let entered_is : whole [] entered_walk ≡ or_else shape_fault [] = rw known.found refl in
      ap₂ whole walking_is walk_is ∙ entered_is

  met_rows : (program : Text) → subcommand_of tool (program ∷ word ∷ words) ≡ Some (rows_at shape words)
  met_rows program = ap (λ (w : Walk). entered app w.stopped) walk_is ∙ rw known.found refl

unknown_mark : (program word : Text) (words : List Text) → IsUnknown word → bytes_eq word dashes ≡ true → fault_of tool (program ∷ word ∷ words) ≢ []
unfolding walk_fault walked defaults_fault
unknown_mark program word [] unknown is none =
    let some : fault_of tool (program ∷ word ∷ []) ≢ [] = rw (unknown.met, is) (nonempty kind.MissingSubcommand []) in
    some none
unknown_mark program word (more ∷ words) unknown is none = marked_refused app.top names word more words unknown.met is (neither _ _ none).0

unknown_fault : (program word : Text) (words : List Text) → IsUnknown word → fault_of tool (program ∷ word ∷ words) ≢ []
unknown_fault program word words unknown none =
    elim (bytes_eq word dashes) as (λ b. bytes_eq word dashes ≡ b → ⊥) [
      | true ↦ λ is. unknown_mark program word words unknown is none
      | false ↦ λ other. word_refused app.top names word words unknown.met other (neither _ _ none).0
    ] refl

no_words : (program : List Text) → length program ≤ 1 → fault_of tool program ≢ []
unfolding walk_fault defaults_fault
no_words [] few = nonempty kind.MissingSubcommand []
no_words (program ∷ []) few = nonempty kind.MissingSubcommand []
no_words (program ∷ word ∷ words) few = absurd (omega arith)

-- ---- arguments

-- no values stand after a subcommand exactly where nothing or the mark does
end_values : (words : List Text) → is_end words ≡ true → without_mark words ≡ []
end_values [] end = refl
end_values (mark ∷ []) end = rw end refl
end_values (mark ∷ word ∷ words) end = absurd (false≢true end)

more_values : (words : List Text) → is_end words ≡ false → without_mark words ≢ []
more_values [] more none = true≢false more
more_values (mark ∷ []) more none = not_empty mark [] (rw more at none)
more_values (mark ∷ word ∷ words) more none =
    elim (bytes_eq mark dashes) as (λ b. bytes_eq mark dashes ≡ b → ⊥) [
      | true ↦ λ is. not_empty word words (rw is at none)
      | false ↦ λ other. not_empty mark (without_mark (word ∷ words)) (rw other at none)
    ] refl

-- and then there are no rows
end_rows : (name : Text) (words : List Text) → is_end words ≡ true → first_of (codes "calls") (rows_at (leaf name) words).1 ≡ None
unfolding walked
end_rows name [] end = refl
end_rows name (mark ∷ []) end = rw end refl
end_rows name (mark ∷ word ∷ words) end = absurd (false≢true end)

-- ---- the command

-- where it takes no arguments
alone : (word : Text) (command : Subcommand) (values : List Text) → bytes_eq (codes "make") word ≡ false → commanded word values ≡ Some command → values ≡ []
alone word command [] no_make is = refl
alone word command (a ∷ []) no_make is = absurd (none_some (rw no_make at is))
alone word command (a ∷ b ∷ []) no_make is = absurd (none_some (rw no_make at is))
alone word command (a ∷ b ∷ c ∷ values) no_make is = absurd (none_some is)

-- a number of calls that is one
number_of : (calls : Text) (make : ℕ → Subcommand) (command : Subcommand) → option_map make (calls_in_word calls) ≡ Some command → is_positive calls ≡ true
number_of calls make command is =
    elim (is_positive calls) as (λ b. is_positive calls ≡ b → is_positive calls ≡ true) [
      | true ↦ λ positive. positive
      | false ↦ λ other. absurd (none_some (rw other at is))
    ] refl

turns_bare : (mode : Text) → bytes_eq (codes "turns") mode ≡ true → IsBare mode
turns_bare mode is = subst IsBare (sym (same_word (codes "turns") mode is)) (record { long = refl; short = refl })

make_taken : (word : Text) (command : Subcommand) (words values : List Text) → without_mark words ≡ values → IsMake word → commanded word values ≡ Some command → make_fault words ≡ []
make_taken word command words [] left make is = absurd (none_some (sym make.no_name ∙ is))
make_taken word command words (calls ∷ []) left make is =
    let made_command : option_map (λ count. subcommand.Make count) (calls_in_word calls) ≡ Some command = rw make.is at is in
    number_taken calls words (number_bare calls (number_of calls (λ count. subcommand.Make count) command made_command)) left
make_taken word command words (calls ∷ mode ∷ []) left make is =
    elim (bytes_eq (codes "turns") mode) as (λ b. bytes_eq (codes "turns") mode ≡ b → make_fault words ≡ []) [
      | true ↦ λ turns.
          let made_command : option_map (λ count. subcommand.MakeTurns count) (calls_in_word calls) ≡ Some command = rw (make.is, turns) at is in
          mode_taken calls mode words (number_bare calls (number_of calls (λ count. subcommand.MakeTurns count) command made_command)) (turns_bare mode turns) left
      | false ↦ λ other. absurd (none_some (rw (make.is, other) at is))
    ] refl
make_taken word command words (a ∷ b ∷ c ∷ values) left make is = absurd (none_some is)

-- words that are a command are taken
pub command_taken : (words : List Text) (command : Subcommand) → command_of words ≡ Some command → fault_of tool words ≡ []
command_taken [] command is = absurd (none_some is)
command_taken (program ∷ []) command is = absurd (none_some is)
command_taken (program ∷ word ∷ words) command is =
    elim (known_or_not word) [
      | inl known ↦
          elim (is_end words) as (λ b. is_end words ≡ b → fault_of tool (program ∷ word ∷ words) ≡ []) [
            | true ↦ λ end. met_fault word known.name (leaf known.name) known.met words program ∙ ap (λ (kinds : Kinds). or_else kinds []) (ends known.name words end)
            | false ↦ λ more. absurd (more_values words more (alone word command (without_mark words) known.no_make is))
          ] refl
      | inr (inl make) ↦ met_fault word (codes "make") make_leaf make.met words program ∙ ap (λ (kinds : Kinds). or_else kinds []) (make_taken word command words (without_mark words) refl make is)
      | inr (inr unknown) ↦ absurd (none_some (sym unknown.is ∙ ap (commanded word) (sym (alone word command (without_mark words) unknown.no_make is)) ∙ is))
    ]

-- and what is met of them is the command, where they are taken
make_met_is : (word : Text) (words : List Text) → IsMake word → IsGiven words → matched (Some (rows_at make_leaf words)) ≡ commanded word (without_mark words)
make_met_is word words make given =
    ap₂ (λ calls mode. matched_by (codes "make") calls mode) given.first given.second ∙ sym (values given.mode) ∙ ap (commanded word) (sym given.values)
  where
    values : (mode : Option Text) → commanded word (option_map_or (λ more. given.calls ∷ more ∷ []) mode (given.calls ∷ [])) ≡ made_command given.calls mode
    values None = rw make.is refl
    values (Some mode) = rw make.is refl

pub taken_command : (words : List Text) → fault_of tool words ≡ [] → matched (subcommand_of tool words) ≡ command_of words
taken_command [] none = absurd (no_words [] (omega arith) none)
taken_command (program ∷ []) none = absurd (no_words (program ∷ []) (omega arith) none)
taken_command (program ∷ word ∷ words) none =
    elim (known_or_not word) [
      | inl known ↦
          elim (is_end words) as (λ b. is_end words ≡ b → matched (subcommand_of tool (program ∷ word ∷ words)) ≡ command_of (program ∷ word ∷ words)) [
            | true ↦ λ end.
                let rows = ap matched (met_rows word known.name (leaf known.name) known.met words program) in
                let no_calls : matched (Some (rows_at (leaf known.name) words)) ≡ named known.name = ap (λ calls. matched_by known.name calls (first_of (codes "mode") (rows_at (leaf known.name) words).1)) (end_rows known.name words end) in
                rows ∙ no_calls ∙ known.names_it ∙ sym known.is ∙ ap (commanded word) (sym (end_values words end))
            | false ↦ λ more. absurd (goes_on known.name words more (neither _ _ (sym (met_fault word known.name (leaf known.name) known.met words program) ∙ none)).0)
          ] refl
      | inr (inl make) ↦
          ap matched (met_rows word (codes "make") make_leaf make.met words program)
          ∙ make_met_is word words make (given words (neither _ _ (sym (met_fault word (codes "make") make_leaf make.met words program) ∙ none)).0)
      | inr (inr unknown) ↦ absurd (unknown_fault program word words unknown none)
    ]
