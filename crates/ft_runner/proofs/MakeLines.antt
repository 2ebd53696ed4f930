-- Which words the parser of the command line takes after `make`.
use Rattle.std.proofs.Common.{◌≡◌, ◌≢◌, ℕ, Bool, true, false, zero, suc, List, [], ◌∷◌, ◌++◌, length, Option, Some, None, codes, refl, sym, ap, ◌∙◌, ap₂, subst, arith}
use Rattle.std.specs.List.{list_all}
use Rattle.ft_model.specs.Names.{is_digit}
use Rattle.std.specs.Prelude.{◌&&◌, drop, nat_le, fold, slice_get, slice_index_or, ◌==◌}
use Rattle.std.specs.Str.{chars, bytes_eq}
use Rattle.std.proofs.lemmas.Bool.{and_parts, leb-true, ne_eqb, false≢true}
use Rattle.std.proofs.lemmas.List.{append-nil}
use Rattle.clap.specs.Lexer.{long_of, short_of}
use Rattle.clap.specs.Kinds.{Kinds, or_else}
use Rattle.std.specs.Option.{option_map_or}
use Rattle.clap.specs.Walk.{Held, Row, Rule, Text, Walk, after_flag, bundle_met, bundle_step, first_of, finished, idle, settled, long_or_other, nothing_held, plain, rows_after, short_or_plain, used, value, walk, walk_from, walked}
use Rattle.clap.specs.Simple.{Shape, filled, with_index}
use Rattle.clap.specs.Faults.{bundle_fault, bundle_step_fault, check_fault, defaults_fault, settle_fault, flag_word_fault, flags_fault, level_fault, turn_fault, walk_fault}
use Rattle.clap.specs.declared.error.kind.ErrorKind.TheVariants as kind
use Rattle.ft_script.specs.LineWords.{is_positive}
use Rattle.ft_runner.specs.Commands.{calls_rule, make_shape, mode_rule, without_mark}
use Rattle.ft_runner.proofs.KindLemmas.{dashes, neither, nonempty}

-- ---- the command, built

abbrev calls_built : Rule
calls_built = with_index 1 (filled calls_rule)

abbrev mode_built : Rule
mode_built = with_index 2 (filled mode_rule)

abbrev rules : List Rule
rules = calls_built ∷ mode_built ∷ []

abbrev pub make_leaf : Shape
make_leaf = record make_shape { rules = rules; disable_help_flag = true; disable_version_flag = true; disable_help_subcommand = true; is_built = true }

-- ---- how far the words have come

pub data Stage : Type 0 where
  empty : Stage
  one : Text → Stage
  two : Text → Text → Stage

abbrev pub texts : Stage → List Text
texts empty = []
texts (one a) = a ∷ []
texts (two a b) = a ∷ b ∷ []

-- what is held of the arguments
abbrev held_at : Stage → Held
held_at empty = nothing_held
held_at (one a) = record { rows = []; pending = Some (codes "calls", a ∷ []); skip = 0 }
held_at (two a b) = record { rows = used calls_built (a ∷ []) []; pending = Some (codes "mode", b ∷ []); skip = 0 }

abbrev position_at : Stage → ℕ
position_at empty = 1
position_at (one a) = 2
position_at (two a b) = 3

abbrev pub walk_at : Stage → Bool → Walk
walk_at stage trailing = record (walk_from (held_at stage)) { position = position_at stage; is_trailing = trailing }

-- ---- lists

pub not_empty : (word : Text) (words : List Text) → word ∷ words ≢ []
not_empty word words same = let n : length (word ∷ words) ≡ 0 = ap length same in omega arith

head_same : (a b : Text) (xs ys : List Text) → a ∷ xs ≡ b ∷ ys → a ≡ b
head_same a b xs ys same = ap (λ (words : List Text). slice_index_or words 0 []) same

tail_same : (a b : Text) (xs ys : List Text) → a ∷ xs ≡ b ∷ ys → xs ≡ ys
tail_same a b xs ys same = ap (λ (words : List Text). drop 1 words) same

-- ---- one more word

-- there is no room for a third value
full : (a b : Text) (trailing : Bool) → (Rattle.clap.specs.Faults.stray_fault make_leaf) ≢ []
full a b trailing = nonempty kind.UnknownArgument []

module _ (word : Text) where
  marked_turn : (stage : Stage) → bytes_eq word dashes ≡ true → (turn_fault make_leaf [] (walk_at stage false) word ≡ []) × (walked rules [] (walk_at stage false) word ≡ walk_at stage true)
  unfolding walked
  marked_turn empty is = (rw is refl, rw is refl)
  marked_turn (one a) is = (rw is refl, rw is refl)
  marked_turn (two a b) is = (rw is refl, rw is refl)

  first_trails : (turn_fault make_leaf [] (walk_at empty true) word ≡ []) × (walked rules [] (walk_at empty true) word ≡ walk_at (one word) true)
  unfolding walked
  first_trails = (refl, refl)

  second_trails : (a : Text) → (turn_fault make_leaf [] (walk_at (one a) true) word ≡ []) × (walked rules [] (walk_at (one a) true) word ≡ walk_at (two a word) true)
  unfolding walked
  second_trails a = (refl, refl)

  third_trails : (a b : Text) → turn_fault make_leaf [] (walk_at (two a b) true) word ≢ []
  third_trails a b = nonempty kind.UnknownArgument []

  -- a word that is no flag
  record IsPlain (held : Held) : Type 0 where
    fault : flag_word_fault rules false (long_of word) word held ≡ []
    met : long_or_other rules idle word (long_of word) held ≡ (held, value)

  first_plain : bytes_eq word dashes ≡ false → IsPlain (held_at empty) → (turn_fault make_leaf [] (walk_at empty false) word ≡ []) × (walked rules [] (walk_at empty false) word ≡ walk_at (one word) false)
  unfolding walked
  first_plain other is = (rw (other, is.met, is.fault) refl, rw (other, is.met) refl)

  second_plain : (a : Text) → bytes_eq word dashes ≡ false → IsPlain (held_at (one a)) → (turn_fault make_leaf [] (walk_at (one a) false) word ≡ []) × (walked rules [] (walk_at (one a) false) word ≡ walk_at (two a word) false)
  unfolding walked
  second_plain a other is = (rw (other, is.met, is.fault) refl, rw (other, is.met) refl)

  third_plain : (a b : Text) → bytes_eq word dashes ≡ false → IsPlain (held_at (two a b)) → turn_fault make_leaf [] (walk_at (two a b) false) word ≢ []
  third_plain a b other is = rw (other, is.met, is.fault) (nonempty kind.UnknownArgument [])

  -- a word that looks like flags is refused, or the parser finds no flag in it
  flag_plain : (held : Held) (k : ℕ) (first : Option ℕ) (flags : Text) → bundle_step_fault rules false first flags 0 held (flags_fault rules false k) ≡ [] → bundle_step rules first flags 0 plain held (bundle_met rules k) ≡ (held, plain)
  flag_plain held k None flags passes = refl
  flag_plain held k (Some first) flags passes = absurd (nonempty kind.UnknownArgument [] passes)

  flags_plain : (held : Held) (k : ℕ) (flags : Text) → flags_fault rules false k flags 0 held ≡ [] → bundle_met rules k flags 0 plain held ≡ (held, plain)
  unfolding flags_fault bundle_met
  flags_plain held zero flags passes = refl
  flags_plain held (suc k) flags passes = flag_plain held k (slice_get (chars flags) 0) flags passes

  module _ (rows : List Row) (pending : Option (Text × List Text)) where
    abbrev held : Held
    held = record { rows = rows; pending = pending; skip = 0 }

    short_plain : (short : Option Text) → option_map_or (λ flags. bundle_fault rules false flags held) short [] ≡ [] → short_or_plain rules idle word short held ≡ (held, value)
    short_plain None passes = refl
    short_plain (Some flags) passes = ap (λ met. after_flag rules idle word met.0 met.1) (flags_plain held (length flags) flags passes)

    long_plain : (long : Option (Text × Option Text)) → flag_word_fault rules false long word held ≡ [] → long_or_other rules idle word long held ≡ (held, value)
    long_plain None passes = short_plain (short_of word) passes
    long_plain (Some long) passes = absurd (nonempty kind.UnknownArgument [] passes)

  plain_there : (stage : Stage) → flag_word_fault rules false (long_of word) word (held_at stage) ≡ [] → IsPlain (held_at stage)
  plain_there empty passes = record { fault = passes; met = long_plain [] None (long_of word) passes }
  plain_there (one a) passes = record { fault = passes; met = long_plain [] (Some (codes "calls", a ∷ [])) (long_of word) passes }
  plain_there (two a b) passes = record { fault = passes; met = long_plain (used calls_built (a ∷ []) []) (Some (codes "mode", b ∷ [])) (long_of word) passes }

  -- what the turn of a word that isn't the mark says of it
  turn_plain : (stage : Stage) → bytes_eq word dashes ≡ false → turn_fault make_leaf [] (walk_at stage false) word ≡ [] → IsPlain (held_at stage)
  turn_plain empty other passes = plain_there empty (neither _ _ (rw other at passes)).0
  turn_plain (one a) other passes = plain_there (one a) (neither _ _ (rw other at passes)).0
  turn_plain (two a b) other passes = plain_there (two a b) (neither _ _ (rw other at passes)).0

-- ---- all words

-- where the walk ends, and the values that it has met
record Ends (stage : Stage) (trailing : Bool) (words values : List Text) : Type 0 where
  last : Stage
  trails : Bool
  walks : fold (walked rules []) (walk_at stage trailing) words ≡ walk_at last trails
  met : texts stage ++ values ≡ texts last

-- one word more before the others
ends_after : (stage next : Stage) (trailing trails : Bool) (word : Text) (words values : List Text) → walked rules [] (walk_at stage trailing) word ≡ walk_at next trails → Ends next trails words values → (all : List Text) → texts stage ++ all ≡ texts next ++ values → Ends stage trailing (word ∷ words) all
ends_after stage next trailing trails word words values step ends all same =
    record {
      last = ends.last;
      trails = ends.trails;
      walks = ap (λ (w : Walk). fold (walked rules []) w words) step ∙ ends.walks;
      met = same ∙ ends.met;
    }

rest_fault : (stage next : Stage) (trailing trails : Bool) (word : Text) (words : List Text) → walked rules [] (walk_at stage trailing) word ≡ walk_at next trails → walk_fault make_leaf [] (walk_at stage trailing) (word ∷ words) ≡ [] → walk_fault make_leaf [] (walk_at next trails) words ≡ []
unfolding walk_fault
rest_fault stage next trailing trails word words step passes = sym (ap (λ (w : Walk). walk_fault make_leaf [] w words) step) ∙ (neither _ _ passes).1

head_fault : (stage : Stage) (trailing : Bool) (word : Text) (words : List Text) → walk_fault make_leaf [] (walk_at stage trailing) (word ∷ words) ≡ [] → turn_fault make_leaf [] (walk_at stage trailing) word ≡ []
unfolding walk_fault
head_fault stage trailing word words passes = (neither _ _ passes).0

-- after the mark all words are values
trailed : (stage : Stage) (words : List Text) → walk_fault make_leaf [] (walk_at stage true) words ≡ [] → Ends stage true words words
trailed stage [] passes = record { last = stage; trails = true; walks = refl; met = append-nil (texts stage) }
trailed empty (word ∷ words) passes =
    let step = (first_trails word).1 in
    ends_after empty (one word) true true word words words step (trailed (one word) words (rest_fault empty (one word) true true word words step passes)) (word ∷ words) refl
trailed (one a) (word ∷ words) passes =
    let step = (second_trails word a).1 in
    ends_after (one a) (two a word) true true word words words step (trailed (two a word) words (rest_fault (one a) (two a word) true true word words step passes)) (word ∷ words) refl
trailed (two a b) (word ∷ words) passes = absurd (third_trails word a b (head_fault (two a b) true word words passes))

mark_more : (word : Text) (words : List Text) → bytes_eq word dashes ≡ false → without_mark (word ∷ words) ≡ word ∷ without_mark words
mark_more word words other = rw other refl

-- and before it those that are no flags
walked_on : (stage : Stage) (words : List Text) → walk_fault make_leaf [] (walk_at stage false) words ≡ [] → Ends stage false words (without_mark words)
walked_on stage [] passes = record { last = stage; trails = false; walks = refl; met = append-nil (texts stage) }
walked_on stage (word ∷ words) passes =
    elim (bytes_eq word dashes) as (λ b. bytes_eq word dashes ≡ b → Ends stage false (word ∷ words) (without_mark (word ∷ words))) [
      | true ↦ λ is.
          let step = (marked_turn word stage is).1 in
          let all : without_mark (word ∷ words) ≡ words = rw is refl in
          ends_after stage stage false true word words words step (trailed stage words (rest_fault stage stage false true word words step passes)) (without_mark (word ∷ words)) (ap (λ (values : List Text). texts stage ++ values) all)
      | false ↦ λ other. go (λ next others. walked_on next words others) stage other (turn_plain word stage other (head_fault stage false word words passes)) passes
    ] refl
  where
    go : ((next : Stage) → walk_fault make_leaf [] (walk_at next false) words ≡ [] → Ends next false words (without_mark words)) → (stage : Stage) → bytes_eq word dashes ≡ false → IsPlain word (held_at stage) → walk_fault make_leaf [] (walk_at stage false) (word ∷ words) ≡ [] → Ends stage false (word ∷ words) (without_mark (word ∷ words))
    go on empty other is passes =
        let step = (first_plain word other is).1 in
        ends_after empty (one word) false false word words (without_mark words) step (on (one word) (rest_fault empty (one word) false false word words step passes)) (without_mark (word ∷ words)) (mark_more word words other)
    go on (one a) other is passes =
        let step = (second_plain word a other is).1 in
        ends_after (one a) (two a word) false false word words (without_mark words) step (on (two a word) (rest_fault (one a) (two a word) false false word words step passes)) (without_mark (word ∷ words)) (ap (λ (values : List Text). a ∷ values) (mark_more word words other))
    go on (two a b) other is passes = absurd (third_plain word a b other is (head_fault (two a b) false word words passes))

-- ---- the whole level

abbrev pub make_fault : List Text → Kinds
make_fault words = level_fault make_leaf [] nothing_held words false []

-- what was given where the parser takes the words
pub record IsGiven (words : List Text) : Type 0 where
  pub calls : Text
  pub mode : Option Text
  pub values : without_mark words ≡ option_map_or (λ more. calls ∷ more ∷ []) mode (calls ∷ [])
  pub first : first_of (codes "calls") (rows_after rules [] words) ≡ Some calls
  pub second : first_of (codes "mode") (rows_after rules [] words) ≡ mode

-- what is checked where a walk has ended
abbrev end_fault : Held → Kinds
end_fault end = or_else (settle_fault rules false end) (or_else (defaults_fault (settled rules end).rows rules) (check_fault make_leaf (finished rules end) false))

-- a number of calls has to be there
number_missing : end_fault (held_at empty) ≢ []
unfolding defaults_fault
number_missing = nonempty kind.MissingRequiredArgument []

number_given : (a : Text) → end_fault (held_at (one a)) ≡ []
unfolding defaults_fault
number_given a = refl

mode_given : (a b : Text) → end_fault (held_at (two a b)) ≡ []
unfolding defaults_fault
mode_given a b = refl

rows_one : (a : Text) → (first_of (codes "calls") (finished rules (held_at (one a))) ≡ Some a) × (first_of (codes "mode") (finished rules (held_at (one a))) ≡ None)
rows_one a = (refl, refl)

rows_two : (a b : Text) → (first_of (codes "calls") (finished rules (held_at (two a b))) ≡ Some a) × (first_of (codes "mode") (finished rules (held_at (two a b))) ≡ Some b)
rows_two a b = (refl, refl)

end_is : (words : List Text) (last : Stage) (trails : Bool) → fold (walked rules []) (walk_at empty false) words ≡ walk_at last trails → (walk rules [] nothing_held words).held ≡ held_at last
end_is words last trails walks = ap (λ (w : Walk). w.held) walks

-- the values that were met, by where the walk ended
given_by : (words : List Text) (last : Stage) (trails : Bool) → fold (walked rules []) (walk_at empty false) words ≡ walk_at last trails → without_mark words ≡ texts last → end_fault (walk rules [] nothing_held words).held ≡ [] → IsGiven words
given_by words empty trails walks values passes = absurd (number_missing (sym (ap end_fault (end_is words empty trails walks)) ∙ passes))
given_by words (one a) trails walks values passes =
    let rows : rows_after rules [] words ≡ finished rules (held_at (one a)) = ap (finished rules) (end_is words (one a) trails walks) in
    record { calls = a; mode = None; values = values; first = ap (first_of (codes "calls")) rows ∙ (rows_one a).0; second = ap (first_of (codes "mode")) rows ∙ (rows_one a).1 }
given_by words (two a b) trails walks values passes =
    let rows : rows_after rules [] words ≡ finished rules (held_at (two a b)) = ap (finished rules) (end_is words (two a b) trails walks) in
    record { calls = a; mode = Some b; values = values; first = ap (first_of (codes "calls")) rows ∙ (rows_two a b).0; second = ap (first_of (codes "mode")) rows ∙ (rows_two a b).1 }

-- words that are taken are the number of calls and maybe a mode, but for the mark
pub given : (words : List Text) → make_fault words ≡ [] → IsGiven words
given words passes =
    let ends = walked_on empty words (neither _ _ passes).0 in
    given_by words ends.last ends.trails ends.walks ends.met (neither _ _ passes).1

-- ---- words that are taken

-- a word that doesn't begin as a flag
pub record IsBare (word : Text) : Type 0 where
  pub long : long_of word ≡ None
  pub short : short_of word ≡ None

bare_plain : (word : Text) (stage : Stage) → IsBare word → IsPlain word (held_at stage)
bare_plain word stage bare = plain_there word stage (rw (bare.long, bare.short) refl)

-- the words from here on are taken, and the walk ends there
record IsTaken (stage : Stage) (trailing : Bool) (words : List Text) (last : Stage) : Type 0 where
  passes : walk_fault make_leaf [] (walk_at stage trailing) words ≡ []
  trails : Bool
  walks : fold (walked rules []) (walk_at stage trailing) words ≡ walk_at last trails

taken_after : (stage next last : Stage) (trailing trails : Bool) (word : Text) (words : List Text) → (turn_fault make_leaf [] (walk_at stage trailing) word ≡ []) × (walked rules [] (walk_at stage trailing) word ≡ walk_at next trails) → IsTaken next trails words last → IsTaken stage trailing (word ∷ words) last
unfolding walk_fault
taken_after stage next last trailing trails word words step taken =
    record {
      passes = ap₂ or_else step.0 (ap (λ (w : Walk). walk_fault make_leaf [] w words) step.1) ∙ taken.passes;
      trails = taken.trails;
      walks = ap (λ (w : Walk). fold (walked rules []) w words) step.1 ∙ taken.walks;
    }

taken_end : (stage : Stage) (trailing : Bool) → IsTaken stage trailing [] stage
unfolding walk_fault
taken_end stage trailing = record { passes = refl; trails = trailing; walks = refl }

-- the last of the values was met
after_last : (stage : Stage) (words : List Text) → without_mark words ≡ [] → IsTaken stage false words stage
after_last stage [] none_left = taken_end stage false
after_last stage (word ∷ words) none_left =
    elim (bytes_eq word dashes) as (λ b. bytes_eq word dashes ≡ b → IsTaken stage false (word ∷ words) stage) [
      | true ↦ λ is.
          let end : words ≡ [] = rw is at none_left in
          taken_after stage stage stage false true word words (marked_turn word stage is) (subst (λ (ws : List Text). IsTaken stage true ws stage) (sym end) (taken_end stage true))
      | false ↦ λ other. absurd (not_empty word (without_mark words) (rw other at none_left))
    ] refl

-- one value is left, and it is the second
after_first : (a b : Text) (words : List Text) → IsBare b → without_mark words ≡ b ∷ [] → IsTaken (one a) false words (two a b)
after_first a b [] bare left = absurd (not_empty b [] (sym left))
after_first a b (word ∷ words) bare left =
    elim (bytes_eq word dashes) as (λ c. bytes_eq word dashes ≡ c → IsTaken (one a) false (word ∷ words) (two a b)) [
      | true ↦ λ is.
          let end : words ≡ b ∷ [] = rw is at left in
          taken_after (one a) (one a) (two a b) false true word words (marked_turn word (one a) is) (subst (λ (ws : List Text). IsTaken (one a) true ws (two a b)) (sym end) (taken_after (one a) (two a b) (two a b) true true b [] (second_trails b a) (taken_end (two a b) true)))
      | false ↦ λ other.
          let parts : word ∷ without_mark words ≡ b ∷ [] = rw other at left in
          let same : word ≡ b = head_same word b (without_mark words) [] parts in
          let rest : without_mark words ≡ [] = tail_same word b (without_mark words) [] parts in
          subst (λ (w : Text). IsTaken (one a) false (w ∷ words) (two a b)) (sym same) (taken_after (one a) (two a b) (two a b) false false b words (second_plain b a (ap (λ (w : Text). bytes_eq w dashes) (sym same) ∙ other) (bare_plain b (one a) bare)) (after_last (two a b) words rest))
    ] refl

-- the first value, and what follows it
after_start : (a : Text) (rest : List Text) (last : Stage) (words : List Text) → IsBare a → without_mark words ≡ a ∷ rest → IsTaken (one a) true rest last → ((more : List Text) → without_mark more ≡ rest → IsTaken (one a) false more last) → IsTaken empty false words last
after_start a rest last [] bare left trailing plainly = absurd (not_empty a rest (sym left))
after_start a rest last (word ∷ words) bare left trailing plainly =
    elim (bytes_eq word dashes) as (λ c. bytes_eq word dashes ≡ c → IsTaken empty false (word ∷ words) last) [
      | true ↦ λ is.
          let end : words ≡ a ∷ rest = rw is at left in
          taken_after empty empty last false true word words (marked_turn word empty is) (subst (λ (ws : List Text). IsTaken empty true ws last) (sym end) (taken_after empty (one a) last true true a rest (first_trails a) trailing))
      | false ↦ λ other.
          let parts : word ∷ without_mark words ≡ a ∷ rest = rw other at left in
          let same : word ≡ a = head_same word a (without_mark words) rest parts in
          subst (λ (w : Text). IsTaken empty false (w ∷ words) last) (sym same) (taken_after empty (one a) last false false a words (first_plain a (ap (λ (w : Text). bytes_eq w dashes) (sym same) ∙ other) (bare_plain a empty bare)) (plainly words (tail_same word a (without_mark words) rest parts)))
    ] refl

taken_level : (words : List Text) (last : Stage) → IsTaken empty false words last → end_fault (held_at last) ≡ [] → make_fault words ≡ []
taken_level words last taken passes = ap₂ or_else taken.passes (ap end_fault (end_is words last taken.trails taken.walks) ∙ passes)

-- a number of calls alone, but for the mark, is taken
pub number_taken : (a : Text) (words : List Text) → IsBare a → without_mark words ≡ a ∷ [] → make_fault words ≡ []
number_taken a words bare left =
    taken_level words (one a) (after_start a [] (one a) words bare left (taken_end (one a) true) (λ more none_left. after_last (one a) more none_left)) (number_given a)

-- and so is a mode after it
pub mode_taken : (a b : Text) (words : List Text) → IsBare a → IsBare b → without_mark words ≡ a ∷ b ∷ [] → make_fault words ≡ []
mode_taken a b words bare bare' left =
    let trailing : IsTaken (one a) true (b ∷ []) (two a b) = taken_after (one a) (two a b) (two a b) true true b [] (second_trails b a) (taken_end (two a b) true) in
    taken_level words (two a b) (after_start a (b ∷ []) (two a b) words bare left trailing (λ more one_left. after_first a b more bare' one_left)) (mode_given a b)

-- a number is no flag
pub number_bare : (word : Text) → is_positive word ≡ true → IsBare word
number_bare [] positive = absurd (false≢true positive)
number_bare (b ∷ bytes) positive =
    let digit : nat_le 49 b ≡ true = (and_parts (nat_le 49 b) (nat_le b 57) (and_parts (nat_le 49 b && nat_le b 57) (list_all is_digit bytes) positive).0).0 in
    let other : (b == 45) ≡ false = ne_eqb b 45 (λ same. absurd (omega (arith, same, leb-true 49 b digit))) in
    record { long = rw other refl; short = rw other refl }
