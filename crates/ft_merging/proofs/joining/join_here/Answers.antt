use Rattle.std.proofs.Common.{◌≡◌, ◌+◌, ◌≤◌, refl, sym, ap, ◌∙◌, subst, arith}
use Rattle.ft_model.specs.declared.reply.Reply.TheVariants as reply
use Rattle.ft_trace.specs.declared.View.{View}
use Rattle.ft_trace.specs.Addresses.{class_of}
use Rattle.ft_trace.specs.Boxes.{references_held}
use Rattle.ft_trace.specs.Holds.{held_words, held_unboxed, known_state}
use Rattle.ft_trace.specs.Kinds.{rows}
use Rattle.ft_trace.specs.ContainerStates.{ContainerState, kind_in}
use Rattle.ft_bank.specs.Passes.{shape_of, view}
use Rattle.ft_bank.specs.TableNames.{table_id}
use Rattle.ft_bank.proofs.TableAddresses.{class_is}
use Rattle.ft_bank.proofs.KnownAfterWrites.{work_knows}
use Rattle.ft_search.proofs.ReadyCommits.{whole_root, whole_write}
use Rattle.ft_new_keys.proofs.FinishedKeys.{since_start}
use Rattle.ft_new_keys.proofs.Placed.{refs_then}
use Rattle.ft_merging.specs.Joining.{joined}
use Rattle.ft_merging.specs.Internal.JoiningSteps.{IsJoining}
use Rattle.ft_merging.proofs.Joined.{joined_finishes}
use Rattle.ft_merging.proofs.JoinedCalls.{few_rows, made_here}
use Rattle.ft_merging.proofs.JoinedRoom.{stays_table}
use Rattle.ft_merging.proofs.JoinedStarts.{here_begins, here_room, here_table}
use Rattle.ft_merging.proofs.SharedKeys.{shares_from}
use Rattle.ft_merging.proofs.joining.join_here.Goals as goal
use Rattle.ft_merging.proofs.joining.join_here.Goals.{After-start_write}

shape : (c : After-start_write) → (view c.start_write.new.pass).shape ≡ shape_of c.args.bank.now
shape c = ap (λ (z : View). z.shape) c.start_write.ensures.1 ∙ c.requires.pass.1

room : (c : After-start_write) → c.args.merge.now.counts.fill + c.args.merge.now.more ≤ rows (kind_in (shape_of c.args.bank.now).starts c.args.merge.now.o) (class_of (table_id c.args.own))
room c =
    let a = c.args in
    here_room c.words_are_of_one_content.ensures.head (record { pairs = c.used_entries_follow_a_dict.ensures.first; elements = c.used_entries_follow_a_set.ensures.first }) (shape_of a.bank.now) a.merge.now.o a.way a.own a.merge.now.t a.merge.now.table a.merge.now.counts a.merge.now.more (view a.pass.now) (view c.start_write.new.pass) c.start_write.result c.requires.pass.1 a.pass.now.possible c.requires.merge.two c.requires.may c.requires.merge.other c.requires.merge.way c.requires.merge.other_way
    c.requires.merge.counts c.requires.merge.more c.requires.few c.requires.merge.serials c.requires.room c.start_write.ensures.1 (shape c) c.start_write.new.pass.possible

pub overflow_add-end : goal.overflow_add-end
overflow_add-end c =
    let a = c.args in
    let k = shape_of a.bank.now in
    let few = few_rows k a.own (kind_in k.starts a.merge.now.o) (a.merge.now.counts.fill + a.merge.now.more) (c.requires.may.keyed.table_in a.own refl) c.requires.may.keyed.keyed (room (goal.at.overflow_add-end c).After-start_write) in
    omega (arith, few)

pub join_table-number-requires-clause-joining : goal.join_table-number-requires-clause-joining
join_table-number-requires-clause-joining c =
    let a = c.args in
    let s = (goal.at.join_table-number-requires-clause-joining c).After-start_write in
    here_begins c.words_are_of_one_content.ensures.head (record { pairs = c.used_entries_follow_a_dict.ensures.first; elements = c.used_entries_follow_a_set.ensures.first }) (shape_of a.bank.now) a.merge.now.o a.way a.own a.merge.now.t a.merge.now.table a.merge.now.counts a.merge.now.more (view a.pass.now) (view c.start_write.new.pass) c.start_write.result c.requires.pass.1 a.pass.now.possible c.requires.merge.two c.requires.may c.requires.merge.other c.requires.merge.way c.requires.merge.other_way
    c.requires.merge.counts c.requires.merge.more c.requires.few c.requires.merge.serials c.requires.room c.start_write.ensures.1 (shape s) c.start_write.new.pass.possible

pub join_table-number-requires-clause-finishes : goal.join_table-number-requires-clause-finishes
join_table-number-requires-clause-finishes c w counts only joining =
    let a = c.args in
    let k = shape_of a.bank.now in
    let v = view a.pass.now in
    let u = view c.start_write.new.pass in
    let begun = c.start_write.ensures.1 in
    let at = (goal.at.join_table-number-requires-clause-finishes c).After-start_write in
    let may = c.requires.may in
    let none = may.owes in
    let table = here_table c.words_are_of_one_content.ensures.head (record { pairs = c.used_entries_follow_a_dict.ensures.first; elements = c.used_entries_follow_a_set.ensures.first }) k a.merge.now.o a.way a.own a.merge.now.t a.merge.now.table a.merge.now.counts a.merge.now.more v u c.start_write.result c.requires.pass.1 a.pass.now.possible c.requires.merge.two may c.requires.merge.other c.requires.merge.way c.requires.merge.other_way
    c.requires.merge.counts c.requires.merge.more c.requires.few c.requires.merge.serials c.requires.room begun (shape at) c.start_write.new.pass.possible in
    joined_finishes (record { pairs = c.used_entries_follow_a_dict.ensures.first; elements = c.used_entries_follow_a_set.ensures.first }) k a.merge.now.o a.way a.own a.merge.now.t a.merge.now.table (a.merge.now.counts.fill + a.merge.now.more) a.merge.now.others counts v w (since_start a.merge.now.o v u w c.start_write.result begun only) c.requires.pass.1 may.keyed.container may.left may.boxes.stored a.called.now c.requires.joins c.requires.few
    (λ found class has owed. absurd (omega (arith, none, owed)))
    (stays_table (known_state a.merge.now.o v) (known_state a.merge.now.t v).content a.own a.merge.now.counts.fill a.merge.now.more table c.requires.room c.requires.merge.more (class_is a.own (may.keyed.table_in a.own refl).2))
    (subst (λ (z : ContainerState × ContainerState). IsJoining k a.merge.now.o a.way a.own a.merge.now.t a.merge.now.table (joined z.0.content z.1.content) (a.merge.now.counts.fill + a.merge.now.more) a.merge.now.others counts w) (λ i. (ap (known_state a.merge.now.o) begun i, ap (known_state a.merge.now.t) begun i)) joining)
    (c.requires.merge.others ∙ sym (ap (λ (z : ContainerState). z.table.fill) (work_knows u w a.merge.now.t only.work ∙ ap (known_state a.merge.now.t) begun)))

pub returns-clause-added : goal.returns-clause-added
returns-clause-added c =
    let a = c.args in
    let k = shape_of a.bank.now in
    let v = view a.pass.now in
    let u = view c.start_write.new.pass in
    let w = view c.join_table-number.new.pass in
    let e = c.join_table-number.ensures.ends in
    let begun = c.start_write.ensures.1 in
    let may = c.requires.may in
    let changed = c.requires.joins.changed in
    let root = e.2 ∙ sym may.keyed.root in
    made_here k a.merge.now.o a.called.now v w c.written.result c.join_table-number.result c.written.ensures changed
    (whole_write a.merge.now.o v u e.0 c.start_write.result begun e.1 a.called.now reply.Done c.join_table-number.result w changed may.keyed.even e.3 root)
    (refs_then v u w (λ b. ap (λ (z : View). references_held z.shape b z.log) begun) c.join_table-number.ensures.references)
    (whole_root a.merge.now.o v u e.0 c.start_write.result begun e.1 a.called.now reply.Done c.join_table-number.result w changed e.3 root)

pub returns-clause-shares : goal.returns-clause-shares
returns-clause-shares c dicts =
    let m = c.args.merge.now in
    let begun = c.start_write.ensures.1 in
    shares_from m.o m.t (view c.args.pass.now) (view c.start_write.new.pass) (view c.join_table-number.new.pass) (ap (held_words m.t) begun) (ap (held_unboxed m.t) begun) (ap (known_state m.o) begun) (ap (known_state m.t) begun) (c.join_table-number.ensures.shares dicts)
