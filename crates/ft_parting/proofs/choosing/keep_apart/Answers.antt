use Rattle.std.proofs.Common.{◌≡◌, ◌≤◌, not, List, [], length, Option, Some, None, refl, sym, ◌∙◌, subst, arith}
use Rattle.std.proofs.lemmas.List.{take_all}
use Rattle.ft_model.specs.declared.content.Element.{Element}
use Rattle.ft_model.specs.declared.script.Kind.TheVariants as kind
use Rattle.ft_model.specs.Contents.{IsSet, has_element, those_not_in}
use Rattle.ft_model.specs.Worlds.{set_of}
use Rattle.ft_model.proofs.Sets.{IsSet-filter}
use Rattle.ft_layout.specs.Tables.{UsedEntry}
use Rattle.ft_trace.specs.Addresses.{class_of}
use Rattle.ft_trace.specs.Holds.{known_state}
use Rattle.ft_trace.specs.Kinds.{rows}
use Rattle.ft_bank.specs.declared.table.Table.{Table}
use Rattle.ft_bank.specs.Passes.{shape_of, view}
use Rattle.ft_bank.specs.TableNames.{table_id}
use Rattle.ft_new_keys.specs.KeyGrowth.{KnowsKeyed}
use Rattle.ft_new_keys.proofs.Grown.{same_filled}
use Rattle.ft_parting.specs.Internal.Choosing.{HasChosen, IsChosen, chosen}
use Rattle.ft_parting.proofs.Chosen.{none_there, set_rule, set_words}
use Rattle.ft_parting.proofs.Choices.{blank_has, chosen_own}
use Rattle.ft_parting.proofs.choosing.keep_apart.Goals as goal
use Rattle.ft_parting.proofs.choosing.keep_apart.Goals.{In-Some}

keyed : (c : In-Some) → KnowsKeyed (shape_of c.args.bank.now) c.args.s (Some c.in-Some.own) (view c.args.pass.now)
keyed c = subst (λ (z : Option Table). KnowsKeyed (shape_of c.args.bank.now) c.args.s z (view c.args.pass.now)) c.in-Some.is c.requires.keyed

pub choose_all-requires-clause-keyed : goal.choose_all-requires-clause-keyed
choose_all-requires-clause-keyed c = keyed (goal.at.choose_all-requires-clause-keyed c).In-Some

abbrev used : In-Some → List UsedEntry
used c = (set_words (shape_of c.args.bank.now) c.args.s (view c.args.pass.now) c.requires.pass.1 c.args.pass.now.possible c.requires.set c.in-Some.own (keyed c)).used

-- those that it keeps
kept : (c : In-Some) → chosen (set_of (known_state c.args.t (view c.args.pass.now)).content).elements None (used c) ≡ those_not_in (set_of (known_state c.args.t (view c.args.pass.now)).content).elements (set_of (known_state c.args.s (view c.args.pass.now)).content).elements
kept c =
    let a = c.args in
    let v = view a.pass.now in
    let says = set_words (shape_of a.bank.now) a.s v c.requires.pass.1 a.pass.now.possible c.requires.set c.in-Some.own (keyed c) in
    chosen_own (set_of (known_state a.t v).content).elements says.used (set_of (known_state a.s v).content).elements says.entries.live

-- before the first one
begins : (c : In-Some) → HasChosen (shape_of c.args.bank.now) c.args.table [] 0 (view c.args.pass.now) → IsChosen (shape_of c.args.bank.now) c.args.s c.in-Some.own c.args.t c.args.table None 0 (used c) [] 0 0 (view c.args.pass.now)
begins c none =
    let a = c.args in
    let k = shape_of a.bank.now in
    let v = view a.pass.now in
    let others = (set_of (known_state a.t v).content).elements in
    let mine = set_of (known_state a.s v).content in
    let says = set_words k a.s v c.requires.pass.1 a.pass.now.possible c.requires.set c.in-Some.own (keyed c) in
    let same = kept c in
    record {
      source = says.table;
      filled = says.filled;
      started = refl;
      next = mine.next;
      is_set = subst (IsSet mine.next) (sym same) (IsSet-filter mine.next mine.elements (λ (element : Element). not (has_element others element.key)) (set_rule k a.s v c.requires.pass.1 a.pass.now.possible c.requires.set a.old c.requires.keyed));
      room = subst (λ (l : List Element). length l ≤ rows kind.Set (class_of (table_id a.table))) (sym same) c.requires.room;
      has = none;
    }

pub choose_all-requires-clause-chosen : goal.choose_all-requires-clause-chosen
choose_all-requires-clause-chosen c =
    let a = c.args in
    let d = (goal.at.choose_all-requires-clause-chosen c).In-Some in
    (used d, [], begins d (blank_has c.changed_words_are_of_a_table.ensures.blank (shape_of a.bank.now) a.table (view a.pass.now) c.requires.table c.requires.blank))

pub returns-in-Some-clause-kept : goal.returns-in-Some-clause-kept
returns-in-Some-clause-kept c =
    let a = c.args in
    let k = shape_of a.bank.now in
    let v = view a.pass.now in
    let w = view c.choose_all.new.pass in
    let d = (goal.at.returns-in-Some-clause-kept c).In-Some in
    let done = c.choose_all.ensures.chosen (used d) [] (begins d (blank_has c.changed_words_are_of_a_table.ensures.blank k a.table v c.requires.table c.requires.blank)) in
    let says = set_words k a.s v c.requires.pass.1 a.pass.now.possible c.requires.set c.in-Some.own (keyed d) in
    let other = (same_filled k a.t a.other v w c.requires.pass.1 c.choose_all.ensures.only c.requires.other_keyed).1 in
    let all = take_all a.fill (used d) (let f = says.filled in let g = c.requires.fill in omega (arith, f, g)) in
    subst (λ (l : List Element). HasChosen k a.table l c.choose_all.result w) ((λ i. chosen (set_of (other i).content).elements None (all i)) ∙ kept d) done.has

-- ---- without a table

pub returns-in-None-clause-kept : goal.returns-in-None-clause-kept
returns-in-None-clause-kept c =
    let a = c.args in
    let k = shape_of a.bank.now in
    let v = view a.pass.now in
    let bare = subst (λ (z : Option Table). KnowsKeyed k a.s z v) c.in-None.is c.requires.keyed in
    subst (λ (l : List Element). HasChosen k a.table (those_not_in (set_of (known_state a.t v).content).elements l) 0 v) (sym (none_there k a.s v c.requires.pass.1 a.pass.now.possible c.requires.set bare))
    (blank_has c.changed_words_are_of_a_table.ensures.blank k a.table v c.requires.table c.requires.blank)
