use Rattle.std.proofs.Common.{◌≡◌, ◌≤◌, ℕ, List, ◌∷◌, ◌++◌, length, Some, sym, ap, ◌∙◌, subst, arith}
use Rattle.std.proofs.lemmas.List.{append-nil, length-append, take_all}
use Rattle.ft_model.specs.declared.content.Content.{Content}
use Rattle.ft_model.specs.declared.content.Content.TheVariants as content
use Rattle.ft_model.specs.declared.content.Element.{Element}
use Rattle.ft_model.specs.declared.script.Kind.TheVariants as kind
use Rattle.ft_model.specs.Contents.{IsSet, SetContent, elements_from, those_not_in}
use Rattle.ft_model.specs.Worlds.{serial_of, set_of}
use Rattle.ft_model.proofs.Sets.{IsSet-xor}
use Rattle.ft_layout.specs.Tables.{UsedEntry}
use Rattle.ft_trace.specs.Addresses.{class_of}
use Rattle.ft_trace.specs.Holds.{held_unboxed, known_state}
use Rattle.ft_trace.specs.Kinds.{rows}
use Rattle.ft_trace.specs.ContainerStates.{ContainerState}
use Rattle.ft_bank.specs.Passes.{shape_of, view}
use Rattle.ft_bank.specs.TableNames.{table_id}
use Rattle.ft_table_calls.specs.Adding.{OnlyFilled}
use Rattle.ft_table_calls.proofs.Rooting.{filled_then}
use Rattle.ft_new_keys.specs.KeyGrowth.{KnowsKeyed}
use Rattle.ft_new_keys.proofs.Grown.{knows_filled, same_filled}
use Rattle.ft_new_keys.proofs.Keyed.{counts_known}
use Rattle.ft_merging.specs.Parting.{parted}
use Rattle.ft_merging.proofs.ThinningEnds.{is_set}
use Rattle.ft_parting.specs.Internal.Choosing.{HasChosen, IsChosen, chosen}
use Rattle.ft_parting.proofs.Chosen.{set_rule, set_words}
use Rattle.ft_parting.proofs.Choices.{chosen_new, has_fills}
use Rattle.ft_parting.proofs.choosing.fill_parted.Goals as goal
use Rattle.ft_parting.proofs.choosing.fill_parted.Goals.{After-blank, After-keep_apart-stay}

-- what the pass knows stays
one : (c : After-blank) → (known_state c.args.s (view c.blank.new.pass) ≡ known_state c.args.s (view c.args.pass.now)) × (known_state c.args.t (view c.blank.new.pass) ≡ known_state c.args.t (view c.args.pass.now))
one c =
    let a = c.args in
    let k = shape_of a.bank.now in
    ((same_filled k a.s a.old (view a.pass.now) (view c.blank.new.pass) c.requires.pass.1 c.blank.ensures.only c.requires.keyed).1, (same_filled k a.t (Some a.other) (view a.pass.now) (view c.blank.new.pass) c.requires.pass.1 c.blank.ensures.only c.requires.other_keyed).1)

pub keep_apart-stay-requires-clause-keyed : goal.keep_apart-stay-requires-clause-keyed
keep_apart-stay-requires-clause-keyed c = let a = c.args in knows_filled (shape_of a.bank.now) a.s a.old (view a.pass.now) (view c.blank.new.pass) c.requires.pass.1 c.blank.ensures.only c.requires.keyed

pub keep_apart-stay-requires-clause-other_keyed : goal.keep_apart-stay-requires-clause-other_keyed
keep_apart-stay-requires-clause-other_keyed c = let a = c.args in knows_filled (shape_of a.bank.now) a.t (Some a.other) (view a.pass.now) (view c.blank.new.pass) c.requires.pass.1 c.blank.ensures.only c.requires.other_keyed

pub keep_apart-stay-requires-clause-fill : goal.keep_apart-stay-requires-clause-fill
keep_apart-stay-requires-clause-fill c =
    let a = c.args in
    let v = view a.pass.now in
    sym c.requires.counts.1
    ∙ ((c.words_are_of_one_content.ensures.head (shape_of a.bank.now).texts (held_unboxed a.s v).block (0 ∷ 0 ∷ (held_unboxed a.s v).table) (known_state a.s v).table (known_state a.s v).content c.requires.keyed.stands).fill_is
    ∙ ap (λ (z : ContainerState). z.table.fill) (sym (one (goal.at.keep_apart-stay-requires-clause-fill c).After-blank).0))

pub keep_apart-stay-requires-clause-fresh : goal.keep_apart-stay-requires-clause-fresh
keep_apart-stay-requires-clause-fresh c = c.blank.ensures.only.work.hands (table_id c.args.table) ∙ c.requires.fresh

pub keep_apart-stay-requires-clause-room : goal.keep_apart-stay-requires-clause-room
keep_apart-stay-requires-clause-room c =
    let a = c.args in
    let v = view a.pass.now in
    let s = one (goal.at.keep_apart-stay-requires-clause-room c).After-blank in
    let mine = set_of (known_state a.s v).content in
    let others = set_of (known_state a.t v).content in
    let n = length-append (those_not_in others.elements mine.elements) (elements_from mine.next (those_not_in mine.elements others.elements)) in
    let r = c.requires.room in
    subst (λ (z : ContainerState × ContainerState). length (those_not_in (set_of z.1.content).elements (set_of z.0.content).elements) ≤ rows kind.Set (class_of (table_id a.table))) (sym (λ i. (s.0 i, s.1 i))) (omega (arith, n, r))

-- ---- the elements of the other one

both : (c : After-keep_apart-stay) → OnlyFilled (view c.args.pass.now) (view c.keep_apart-stay.new.pass)
both c = filled_then (view c.args.pass.now) (view c.blank.new.pass) (view c.keep_apart-stay.new.pass) c.blank.ensures.only c.keep_apart-stay.ensures.only

two : (c : After-keep_apart-stay) → (known_state c.args.s (view c.keep_apart-stay.new.pass) ≡ known_state c.args.s (view c.args.pass.now)) × (known_state c.args.t (view c.keep_apart-stay.new.pass) ≡ known_state c.args.t (view c.args.pass.now))
two c =
    let a = c.args in
    let k = shape_of a.bank.now in
    ((same_filled k a.s a.old (view a.pass.now) (view c.keep_apart-stay.new.pass) c.requires.pass.1 (both c) c.requires.keyed).1, (same_filled k a.t (Some a.other) (view a.pass.now) (view c.keep_apart-stay.new.pass) c.requires.pass.1 (both c) c.requires.other_keyed).1)

pub choose_all-requires-clause-keyed : goal.choose_all-requires-clause-keyed
choose_all-requires-clause-keyed c = let a = c.args in knows_filled (shape_of a.bank.now) a.t (Some a.other) (view a.pass.now) (view c.keep_apart-stay.new.pass) c.requires.pass.1 (both (goal.at.choose_all-requires-clause-keyed c).After-keep_apart-stay) c.requires.other_keyed

pub choose_all-requires-clause-other_keyed : goal.choose_all-requires-clause-other_keyed
choose_all-requires-clause-other_keyed c = let a = c.args in knows_filled (shape_of a.bank.now) a.s a.old (view a.pass.now) (view c.keep_apart-stay.new.pass) c.requires.pass.1 (both (goal.at.choose_all-requires-clause-other_keyed c).After-keep_apart-stay) c.requires.keyed

pub choose_all-requires-clause-fill : goal.choose_all-requires-clause-fill
choose_all-requires-clause-fill c = c.requires.others ∙ ap (λ (z : ContainerState). z.table.fill) (sym (two (goal.at.choose_all-requires-clause-fill c).After-keep_apart-stay).1)

pub choose_all-requires-clause-fresh : goal.choose_all-requires-clause-fresh
choose_all-requires-clause-fresh c = (both (goal.at.choose_all-requires-clause-fresh c).After-keep_apart-stay).work.hands (table_id c.args.table) ∙ c.requires.fresh

keyed_then : (c : After-keep_apart-stay) → KnowsKeyed (shape_of c.args.bank.now) c.args.t (Some c.args.other) (view c.keep_apart-stay.new.pass)
keyed_then c = let a = c.args in knows_filled (shape_of a.bank.now) a.t (Some a.other) (view a.pass.now) (view c.keep_apart-stay.new.pass) c.requires.pass.1 (both c) c.requires.other_keyed

abbrev used : After-keep_apart-stay → List UsedEntry
used c = (set_words (shape_of c.args.bank.now) c.args.t (view c.keep_apart-stay.new.pass) c.keep_apart-stay.ensures.pass.1 c.keep_apart-stay.new.pass.possible c.requires.other_set c.args.other (keyed_then c)).used

-- the new ones, as serials are drawn for them
news : (c : After-keep_apart-stay) → chosen (set_of (known_state c.args.s (view c.keep_apart-stay.new.pass)).content).elements (Some c.args.counts.next) (used c) ≡ elements_from c.args.counts.next (those_not_in (set_of (known_state c.args.s (view c.args.pass.now)).content).elements (set_of (known_state c.args.t (view c.args.pass.now)).content).elements)
news c =
    let a = c.args in
    let w = view c.keep_apart-stay.new.pass in
    let says = set_words (shape_of a.bank.now) a.t w c.keep_apart-stay.ensures.pass.1 c.keep_apart-stay.new.pass.possible c.requires.other_set a.other (keyed_then c) in
    let k = two c in
    chosen_new (set_of (known_state a.s w).content).elements a.counts.next says.used (set_of (known_state a.t w).content).elements says.entries.live
    ∙ (λ i. elements_from a.counts.next (those_not_in (set_of (k.0 i).content).elements (set_of (k.1 i).content).elements))

-- the next serial
next_is : (c : After-keep_apart-stay) → c.args.counts.next ≡ serial_of (known_state c.args.s (view c.args.pass.now)).content
next_is c =
    let a = c.args in
    (counts_known c.words_are_of_one_content.ensures.head (shape_of a.bank.now) a.s a.old (view a.pass.now) a.counts c.requires.keyed c.requires.counts).1

serial_set : (d : Content) (set : SetContent) → d ≡ content.Set set → serial_of d ≡ (set_of d).next
serial_set d set is = ap serial_of is ∙ sym (ap (λ (z : Content). (set_of z).next) is)

-- what there is then
abbrev all : After-keep_apart-stay → SetContent
all c = parted (known_state c.args.s (view c.args.pass.now)).content (known_state c.args.t (view c.args.pass.now)).content

abbrev mine : After-keep_apart-stay → List Element
mine c = those_not_in (set_of (known_state c.args.t (view c.args.pass.now)).content).elements (set_of (known_state c.args.s (view c.args.pass.now)).content).elements

whole : (c : After-keep_apart-stay) → mine c ++ chosen (set_of (known_state c.args.s (view c.keep_apart-stay.new.pass)).content).elements (Some c.args.counts.next) (used c) ≡ (all c).elements
whole c =
    let a = c.args in
    let v = view a.pass.now in
    let s = (known_state a.s v).content in
    let next = next_is c ∙ serial_set s (set_of s) (is_set (shape_of a.bank.now) v a.s c.requires.pass.1 a.pass.now.possible c.requires.keyed.locked c.requires.set) in
    ap (λ (l : List Element). mine c ++ l) (news c ∙ ap (λ (n : ℕ). elements_from n (those_not_in (set_of s).elements (set_of (known_state a.t v).content).elements)) next)

rule : (c : After-keep_apart-stay) → IsSet (all c).next (all c).elements
rule c =
    let a = c.args in
    let k = shape_of a.bank.now in
    let v = view a.pass.now in
    let s = set_of (known_state a.s v).content in
    let t = set_of (known_state a.t v).content in
    IsSet-xor s.next t.next s.elements t.elements (set_rule k a.s v c.requires.pass.1 a.pass.now.possible c.requires.set a.old c.requires.keyed) (set_rule k a.t v c.requires.pass.1 a.pass.now.possible c.requires.other_set (Some a.other) c.requires.other_keyed)

-- before the first one of the other one's
begins : (c : After-keep_apart-stay) → known_state c.args.s (view c.blank.new.pass) ≡ known_state c.args.s (view c.args.pass.now) → known_state c.args.t (view c.blank.new.pass) ≡ known_state c.args.t (view c.args.pass.now) → IsChosen (shape_of c.args.bank.now) c.args.t c.args.other c.args.s c.args.table (Some c.args.counts.next) c.keep_apart-stay.result (used c) (mine c) 0 c.keep_apart-stay.result (view c.keep_apart-stay.new.pass)
begins c own other =
    let a = c.args in
    let k = shape_of a.bank.now in
    let w = view c.keep_apart-stay.new.pass in
    let says = set_words k a.t w c.keep_apart-stay.ensures.pass.1 c.keep_apart-stay.new.pass.possible c.requires.other_set a.other (keyed_then c) in
    let same = whole c in
    let has : HasChosen k a.table (mine c) c.keep_apart-stay.result w = subst (λ (z : ContainerState × ContainerState). HasChosen k a.table (those_not_in (set_of z.1.content).elements (set_of z.0.content).elements) c.keep_apart-stay.result w) (λ i. (own i, other i)) c.keep_apart-stay.ensures.kept in
    record {
      source = says.table;
      filled = says.filled;
      started = sym has.counted;
      next = (all c).next;
      is_set = subst (IsSet (all c).next) (sym same) (rule c);
      room = subst (λ (l : List Element). length l ≤ rows kind.Set (class_of (table_id a.table))) (sym same) c.requires.room;
      has = subst (λ (l : List Element). HasChosen k a.table l c.keep_apart-stay.result w) (sym (append-nil (mine c))) has;
    }

pub choose_all-requires-clause-chosen : goal.choose_all-requires-clause-chosen
choose_all-requires-clause-chosen c =
    let at = goal.at.choose_all-requires-clause-chosen c in
    let d = at.After-keep_apart-stay in
    let s = one at.After-blank in
    (used d, mine d, begins d s.0 s.1)

pub returns-clause-only : goal.returns-clause-only
returns-clause-only c =
    let v = view c.args.pass.now in
    filled_then v (view c.keep_apart-stay.new.pass) (view c.choose_all.new.pass) (both (goal.at.returns-clause-only c).After-keep_apart-stay) c.choose_all.ensures.only

pub returns-clause-filled : goal.returns-clause-filled
returns-clause-filled c =
    let a = c.args in
    let at = goal.at.returns-clause-filled c in
    let d = at.After-keep_apart-stay in
    let k = shape_of a.bank.now in
    let w = view c.keep_apart-stay.new.pass in
    let z = view c.choose_all.new.pass in
    let s = one at.After-blank in
    let done = c.choose_all.ensures.chosen (used d) (mine d) (begins d s.0 s.1) in
    let own = (same_filled k a.s a.old w z c.keep_apart-stay.ensures.pass.1 c.choose_all.ensures.only (knows_filled k a.s a.old (view a.pass.now) w c.requires.pass.1 (both d) c.requires.keyed)).1 in
    let f = done.filled in
    let says = set_words k a.t w c.keep_apart-stay.ensures.pass.1 c.keep_apart-stay.new.pass.possible c.requires.other_set a.other (keyed_then d) in
    let fill : length (used d) ≡ a.others = says.filled ∙ (ap (λ (x : ContainerState). x.table.fill) (two d).1 ∙ sym c.requires.others) in
    let all_used = take_all a.others (used d) (omega (arith, fill)) in
    has_fills k a.table z (all d) c.choose_all.result c.requires.table (rule d)
    (subst (λ (l : List Element). HasChosen k a.table l c.choose_all.result z) ((λ i. mine d ++ chosen (set_of (own i).content).elements (Some a.counts.next) (all_used i)) ∙ whole d) done.has)
