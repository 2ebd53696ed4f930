use Rattle.std.proofs.Common.{◌≡◌, ◌+◌, ◌<◌, ◌≤◌, ℕ, Bool, true, false, length, Option, Some, None, refl, sym, ap, ◌∙◌, subst, arith, le-ltb, lt-ltb}
use Rattle.std.specs.Prelude.{if◌then◌else◌}
use Rattle.ft_model.specs.declared.content.Content.TheVariants as content
use Rattle.ft_model.specs.declared.reply.Reply.TheVariants as reply
use Rattle.ft_model.specs.Classes.{most_elements, set_class}
use Rattle.ft_model.specs.Contents.{SetContent, those_not_in}
use Rattle.ft_model.specs.TableUses.{outgrows_set, passes_cap}
use Rattle.ft_model.specs.Worlds.{set_of}
use Rattle.ft_table_calls.specs.Adding.{IsAdded}
use Rattle.ft_trace.specs.Holds.{known_state}
use Rattle.ft_bank.specs.Passes.{shape_of, view}
use Rattle.ft_new_keys.specs.KeyGrowth.{use_of}
use Rattle.ft_new_keys.proofs.Keyed.{use_known}
use Rattle.ft_merging.specs.Parting.{part_takes, parted}
use Rattle.ft_merging.proofs.ThinningEnds.{is_set}
use Rattle.ft_merging.proofs.PartedHere.{part_draws}
use Rattle.ft_parting.proofs.PartedSets.{parted_length}
use Rattle.ft_parting.proofs.parting.part_more.Goals as goal
use Rattle.ft_parting.proofs.parting.part_more.Goals.{After-words_are_of_one_content}

is_first : (c : After-words_are_of_one_content) → (known_state c.args.merge.now.o (view c.args.pass.now)).content ≡ content.Set (set_of (known_state c.args.merge.now.o (view c.args.pass.now)).content)
is_first c = is_set (shape_of c.args.bank.now) (view c.args.pass.now) c.args.merge.now.o c.requires.pass.1 c.args.pass.now.possible c.requires.may.keyed.locked c.requires.merge.way

-- how many elements there are then
many : (c : After-words_are_of_one_content) → length (parted (known_state c.args.merge.now.o (view c.args.pass.now)).content (known_state c.args.merge.now.t (view c.args.pass.now)).content).elements ≡ c.args.stay + c.args.merge.now.more
many c =
    let a = c.args in
    let v = view a.pass.now in
    parted_length (known_state a.merge.now.o v).content (known_state a.merge.now.t v).content (set_of (known_state a.merge.now.o v).content) a.stay a.merge.now.more (is_first c) c.requires.stay c.requires.merge.more

few : (c : After-words_are_of_one_content) → c.args.stay + c.args.merge.now.more ≤ most_elements → passes_cap (content.Set (parted (known_state c.args.merge.now.o (view c.args.pass.now)).content (known_state c.args.merge.now.t (view c.args.pass.now)).content)) ≡ false
few c low = let m = many c in le-ltb most_elements (length (parted (known_state c.args.merge.now.o (view c.args.pass.now)).content (known_state c.args.merge.now.t (view c.args.pass.now)).content).elements) (omega (arith, low, m))

over : (c : After-words_are_of_one_content) → most_elements < c.args.stay + c.args.merge.now.more → passes_cap (content.Set (parted (known_state c.args.merge.now.o (view c.args.pass.now)).content (known_state c.args.merge.now.t (view c.args.pass.now)).content)) ≡ true
over c high = let m = many c in lt-ltb most_elements (length (parted (known_state c.args.merge.now.o (view c.args.pass.now)).content (known_state c.args.merge.now.t (view c.args.pass.now)).content).elements) (omega (arith, high, m))

-- a set with that many elements
abbrev staying : After-words_are_of_one_content → SetContent
staying c = record { next = 0; elements = those_not_in (set_of (known_state c.args.merge.now.t (view c.args.pass.now)).content).elements (set_of (known_state c.args.merge.now.o (view c.args.pass.now)).content).elements }

takes : (c : After-words_are_of_one_content) → part_takes (known_state c.args.merge.now.o (view c.args.pass.now)) (known_state c.args.merge.now.t (view c.args.pass.now)).content ≡ (if outgrows_set (use_of c.args.old c.args.merge.now.counts.fill) c.args.merge.now.more then Some (set_class (length (staying c).elements + c.args.merge.now.more)) else None)
takes c =
    let a = c.args in
    let v = view a.pass.now in
    let d = (known_state a.merge.now.o v).content in
    let table = use_known c.words_are_of_one_content.ensures.head (shape_of a.bank.now) a.merge.now.o a.old v a.merge.now.counts c.requires.may.keyed c.requires.merge.counts a.pass.now.possible in
    let drawn = part_draws d (known_state a.merge.now.t v).content (set_of d) (is_first c) ∙ sym c.requires.merge.more in
    let all = many c ∙ ap (λ (n : ℕ). n + a.merge.now.more) c.requires.stay in
    λ i. if outgrows_set (table i) (drawn i) then Some (set_class (all i)) else None

pub answer_over-requires-clause-over : goal.answer_over-requires-clause-over
answer_over-requires-clause-over c found has =
    let d = (goal.at.answer_over-requires-clause-over c).After-words_are_of_one_content in
    let m = c.most_keys.ensures.most (content.Set (staying d)) refl in
    (c.requires.parts.lacks found has, c.requires.parts.over found has ∙ over d (omega (arith, m)))

pub returns-then-count-most_keys-clause-added : goal.returns-then-count-most_keys-clause-added
returns-then-count-most_keys-clause-added c =
    let d = (goal.at.returns-then-count-most_keys-clause-added c).After-words_are_of_one_content in
    let m = c.most_keys.ensures.most (content.Set (staying d)) refl in
    (over d (omega (arith, m)), c.answer_over.ensures.wrote, c.answer_over.ensures.answered)

pub class_wanted-requires-clause-table : goal.class_wanted-requires-clause-table
class_wanted-requires-clause-table c t is = (c.requires.may.keyed.table_in t is).0

pub part_in_taken-requires-clause-count : goal.part_in_taken-requires-clause-count
part_in_taken-requires-clause-count c = sym (many (goal.at.part_in_taken-requires-clause-count c).After-words_are_of_one_content)

pub part_in_taken-requires-clause-few : goal.part_in_taken-requires-clause-few
part_in_taken-requires-clause-few c =
    let d = (goal.at.part_in_taken-requires-clause-few c).After-words_are_of_one_content in
    let m = c.most_keys.ensures.most (content.Set (staying d)) refl in
    few d (omega (arith, m))

pub part_in_taken-requires-clause-takes : goal.part_in_taken-requires-clause-takes
part_in_taken-requires-clause-takes c =
    let d = (goal.at.part_in_taken-requires-clause-takes c).After-words_are_of_one_content in
    takes d ∙ (sym (c.class_wanted.ensures.class (content.Set (staying d)) refl (sym c.requires.stay)) ∙ c.in-Some.is)

pub part_in_old-requires-clause-few : goal.part_in_old-requires-clause-few
part_in_old-requires-clause-few c =
    let d = (goal.at.part_in_old-requires-clause-few c).After-words_are_of_one_content in
    let m = c.most_keys.ensures.most (content.Set (staying d)) refl in
    few d (omega (arith, m))

pub part_in_old-requires-clause-room : goal.part_in_old-requires-clause-room
part_in_old-requires-clause-room c =
    let d = (goal.at.part_in_old-requires-clause-room c).After-words_are_of_one_content in
    takes d ∙ (sym (c.class_wanted.ensures.class (content.Set (staying d)) refl (sym c.requires.stay)) ∙ c.in-None.is)

pub returns-in-Some-clause-added : goal.returns-in-Some-clause-added
returns-in-Some-clause-added c =
    let a = c.args in
    let d = (goal.at.returns-in-Some-clause-added c).After-words_are_of_one_content in
    let m = c.most_keys.ensures.most (content.Set (staying d)) refl in
    let t = takes d ∙ (sym (c.class_wanted.ensures.class (content.Set (staying d)) refl (sym c.requires.stay)) ∙ c.in-Some.is) in
    let f = few d (omega (arith, m)) in
    subst (λ (z : Option ℕ × Bool). IsAdded (shape_of a.bank.now) z.0 z.1 a.called.now reply.Done (view a.pass.now) (view c.part_in_taken.new.pass) c.part_in_taken.result) (λ i. (sym t i, sym f i)) c.part_in_taken.ensures.added

pub returns-in-None-clause-added : goal.returns-in-None-clause-added
returns-in-None-clause-added c =
    let a = c.args in
    let d = (goal.at.returns-in-None-clause-added c).After-words_are_of_one_content in
    let m = c.most_keys.ensures.most (content.Set (staying d)) refl in
    let t = takes d ∙ (sym (c.class_wanted.ensures.class (content.Set (staying d)) refl (sym c.requires.stay)) ∙ c.in-None.is) in
    let f = few d (omega (arith, m)) in
    subst (λ (z : Option ℕ × Bool). IsAdded (shape_of a.bank.now) z.0 z.1 a.called.now reply.Done (view a.pass.now) (view c.part_in_old.new.pass) c.part_in_old.result) (λ i. (sym t i, sym f i)) c.part_in_old.ensures.added
