use Rattle.std.proofs.Common.{◌≡◌, ◌+◌, ◌<◌, ◌≤◌, ℕ, Bool, true, false, Option, sym, ◌∙◌, subst, arith}
use Rattle.ft_model.specs.declared.content.Content.{Content}
use Rattle.ft_model.specs.declared.reply.Reply.TheVariants as reply
use Rattle.ft_model.specs.TableUses.{passes_cap}
use Rattle.ft_model.specs.Worlds.{kind_of, length_of}
use Rattle.ft_table_calls.specs.Adding.{IsAdded}
use Rattle.ft_trace.specs.Holds.{known_state}
use Rattle.ft_bank.specs.Passes.{shape_of, view}
use Rattle.ft_search.specs.Rounds.{kind_by}
use Rattle.ft_search.proofs.Changing.{kind_is}
use Rattle.ft_new_keys.specs.KeyGrowth.{keys_take, most_of, use_of}
use Rattle.ft_new_keys.proofs.Keyed.{counts_known, use_known}
use Rattle.ft_merging.specs.Joining.{join_takes, joined}
use Rattle.ft_merging.proofs.JoinedCalls.{cap_joined, many_joined, over_joined}
use Rattle.ft_merging.proofs.JoinedPairs.{source_known}
use Rattle.ft_merging.proofs.joining.join_more.Goals as goal
use Rattle.ft_merging.proofs.joining.join_more.Goals.{After-words_are_of_one_content}

kinds : (c : After-words_are_of_one_content) → kind_of (known_state c.args.merge.now.o (view c.args.pass.now)).content ≡ kind_by c.args.way
kinds c =
    let a = c.args in
    kind_is (shape_of a.bank.now) (view a.pass.now) a.merge.now.o c.requires.pass.1 a.pass.now.possible c.requires.may.keyed.locked ∙ c.requires.merge.way

count : (c : After-words_are_of_one_content) → c.args.merge.now.counts.count ≡ length_of (known_state c.args.merge.now.o (view c.args.pass.now)).content
count c =
    let a = c.args in
    (counts_known c.words_are_of_one_content.ensures.head (shape_of a.bank.now) a.merge.now.o a.old (view a.pass.now) a.merge.now.counts c.requires.may.keyed c.requires.merge.counts).0

-- how many keys there are then
many : (c : After-words_are_of_one_content) → length_of (joined (known_state c.args.merge.now.o (view c.args.pass.now)).content (known_state c.args.merge.now.t (view c.args.pass.now)).content) ≡ c.args.merge.now.counts.count + c.args.merge.now.more
many c =
    let a = c.args in
    let k = shape_of a.bank.now in
    let v = view a.pass.now in
    let s = source_known (record { pairs = c.used_entries_follow_a_dict.ensures.first; elements = c.used_entries_follow_a_set.ensures.first }) k a.merge.now.t a.merge.now.table v c.requires.pass.1 a.pass.now.possible c.requires.merge.other a.way c.requires.merge.other_way in
    let m = many_joined k a.way a.merge.now.t a.merge.now.table v s (known_state a.merge.now.o v).content (kinds c) in
    let n = count c in
    let r = c.requires.merge.more in
    omega (arith, m, n, r)

takes : (c : After-words_are_of_one_content) (result : Option ℕ) → ((content : Content) → kind_of content ≡ kind_by c.args.way → length_of content ≡ c.args.merge.now.counts.count → result ≡ keys_take content (use_of c.args.old c.args.merge.now.counts.fill) c.args.merge.now.more) → join_takes (known_state c.args.merge.now.o (view c.args.pass.now)) (known_state c.args.merge.now.t (view c.args.pass.now)).content ≡ result
takes c result wanted =
    let a = c.args in
    let v = view a.pass.now in
    let x = known_state a.merge.now.o v in
    let table = use_known c.words_are_of_one_content.ensures.head (shape_of a.bank.now) a.merge.now.o a.old v a.merge.now.counts c.requires.may.keyed c.requires.merge.counts a.pass.now.possible in
    (λ i. keys_take x.content (table i) (sym c.requires.merge.more i)) ∙ sym (wanted x.content (kinds c) (sym (count c)))

few : (c : After-words_are_of_one_content) → c.args.merge.now.counts.count + c.args.merge.now.more ≤ most_of (known_state c.args.merge.now.o (view c.args.pass.now)).content → passes_cap (joined (known_state c.args.merge.now.o (view c.args.pass.now)).content (known_state c.args.merge.now.t (view c.args.pass.now)).content) ≡ false
few c low = cap_joined (known_state c.args.merge.now.o (view c.args.pass.now)).content (known_state c.args.merge.now.t (view c.args.pass.now)).content _ (many c) low

over : (c : After-words_are_of_one_content) → most_of (known_state c.args.merge.now.o (view c.args.pass.now)).content < c.args.merge.now.counts.count + c.args.merge.now.more → passes_cap (joined (known_state c.args.merge.now.o (view c.args.pass.now)).content (known_state c.args.merge.now.t (view c.args.pass.now)).content) ≡ true
over c high = over_joined (known_state c.args.merge.now.o (view c.args.pass.now)).content (known_state c.args.merge.now.t (view c.args.pass.now)).content _ (many c) high

pub answer_over-requires-clause-over : goal.answer_over-requires-clause-over
answer_over-requires-clause-over c found has =
    let d = (goal.at.answer_over-requires-clause-over c).After-words_are_of_one_content in
    let m = c.most_keys.ensures.most (known_state c.args.merge.now.o (view c.args.pass.now)).content (kinds d) in
    (c.requires.joins.lacks found has, c.requires.joins.over found has ∙ over d (omega (arith, m)))

pub returns-then-merge-most_keys-clause-added : goal.returns-then-merge-most_keys-clause-added
returns-then-merge-most_keys-clause-added c =
    let d = (goal.at.returns-then-merge-most_keys-clause-added c).After-words_are_of_one_content in
    let m = c.most_keys.ensures.most (known_state c.args.merge.now.o (view c.args.pass.now)).content (kinds d) in
    (over d (omega (arith, m)), c.answer_over.ensures.wrote, c.answer_over.ensures.answered)

pub class_wanted-requires-clause-table : goal.class_wanted-requires-clause-table
class_wanted-requires-clause-table c t is = (c.requires.may.keyed.table_in t is).0

pub join_in_taken-requires-clause-few : goal.join_in_taken-requires-clause-few
join_in_taken-requires-clause-few c =
    let d = (goal.at.join_in_taken-requires-clause-few c).After-words_are_of_one_content in
    let m = c.most_keys.ensures.most (known_state c.args.merge.now.o (view c.args.pass.now)).content (kinds d) in
    few d (omega (arith, m))

pub join_in_taken-requires-clause-takes : goal.join_in_taken-requires-clause-takes
join_in_taken-requires-clause-takes c = takes (goal.at.join_in_taken-requires-clause-takes c).After-words_are_of_one_content c.class_wanted.result c.class_wanted.ensures.class ∙ c.in-Some.is

pub join_in_old-requires-clause-few : goal.join_in_old-requires-clause-few
join_in_old-requires-clause-few c =
    let d = (goal.at.join_in_old-requires-clause-few c).After-words_are_of_one_content in
    let m = c.most_keys.ensures.most (known_state c.args.merge.now.o (view c.args.pass.now)).content (kinds d) in
    few d (omega (arith, m))

pub join_in_old-requires-clause-room : goal.join_in_old-requires-clause-room
join_in_old-requires-clause-room c = takes (goal.at.join_in_old-requires-clause-room c).After-words_are_of_one_content c.class_wanted.result c.class_wanted.ensures.class ∙ c.in-None.is

pub returns-in-Some-clause-added : goal.returns-in-Some-clause-added
returns-in-Some-clause-added c =
    let a = c.args in
    let d = (goal.at.returns-in-Some-clause-added c).After-words_are_of_one_content in
    let m = c.most_keys.ensures.most (known_state a.merge.now.o (view a.pass.now)).content (kinds d) in
    let t = takes d c.class_wanted.result c.class_wanted.ensures.class ∙ c.in-Some.is in
    let f = few d (omega (arith, m)) in
    subst (λ (z : Option ℕ × Bool). IsAdded (shape_of a.bank.now) z.0 z.1 a.called.now reply.Done (view a.pass.now) (view c.join_in_taken.new.pass) c.join_in_taken.result) (λ i. (sym t i, sym f i)) c.join_in_taken.ensures.added

pub returns-in-None-clause-added : goal.returns-in-None-clause-added
returns-in-None-clause-added c =
    let a = c.args in
    let d = (goal.at.returns-in-None-clause-added c).After-words_are_of_one_content in
    let m = c.most_keys.ensures.most (known_state a.merge.now.o (view a.pass.now)).content (kinds d) in
    let t = takes d c.class_wanted.result c.class_wanted.ensures.class ∙ c.in-None.is in
    let f = few d (omega (arith, m)) in
    subst (λ (z : Option ℕ × Bool). IsAdded (shape_of a.bank.now) z.0 z.1 a.called.now reply.Done (view a.pass.now) (view c.join_in_old.new.pass) c.join_in_old.result) (λ i. (sym t i, sym f i)) c.join_in_old.ensures.added

pub returns-then-merge-most_keys-clause-shares : goal.returns-then-merge-most_keys-clause-shares
returns-then-merge-most_keys-clause-shares c dicts made = absurd (let no = made.1 in cc)

pub returns-in-Some-clause-shares : goal.returns-in-Some-clause-shares
returns-in-Some-clause-shares c dicts made = c.join_in_taken.ensures.shares dicts made

pub returns-in-None-clause-shares : goal.returns-in-None-clause-shares
returns-in-None-clause-shares c dicts made = c.join_in_old.ensures.shares dicts made
