use Rattle.std.proofs.Common.{◌≡◌, ◌+◌, ◌≤◌, ℕ, false, Some, sym, ap, ◌∙◌, subst, arith}
use Rattle.ft_model.specs.declared.reply.Reply.TheVariants as reply
use Rattle.ft_model.specs.declared.script.Kind.{Kind}
use Rattle.ft_model.specs.TableUses.{passes_cap}
use Rattle.ft_model.specs.Worlds.{kind_of, length_of}
use Rattle.ft_trace.specs.Addresses.{class_of}
use Rattle.ft_trace.specs.Holds.{held_words, held_unboxed, known_state}
use Rattle.ft_trace.specs.Kinds.{rows}
use Rattle.ft_trace.specs.Pictures.{root_in}
use Rattle.ft_trace.specs.ContainerStates.{ContainerState, kind_in}
use Rattle.ft_bank.specs.Passes.{shape_of, view}
use Rattle.ft_bank.specs.TableNames.{table_id}
use Rattle.ft_bank.proofs.KnownAfterWrites.{put_written, work_knows, written_then}
use Rattle.ft_bank.specs.Whole.{OnlyWritten}
use Rattle.ft_search.specs.Rounds.{kind_by}
use Rattle.ft_search.proofs.Changing.{kind_is}
use Rattle.ft_search.proofs.Overs.{held_same}
use Rattle.ft_new_keys.specs.KeyGrowth.{MayGrowKeyed}
use Rattle.ft_new_keys.proofs.FinishedKeys.{since_root}
use Rattle.ft_new_keys.proofs.Grown.{filled_has, grow_begins, grow_filled, grown_wrote, knows_filled, same_filled, words_filled}
use Rattle.ft_new_keys.proofs.Keyed.{counts_known}
use Rattle.ft_new_keys.proofs.Placed.{refs_then}
use Rattle.ft_merging.specs.Joining.{JoinsKeys, join_takes, joined}
use Rattle.ft_merging.specs.Merging.{MayMerge}
use Rattle.ft_merging.specs.Internal.JoiningSteps.{IsJoining}
use Rattle.ft_merging.proofs.Joined.{joined_finishes}
use Rattle.ft_merging.proofs.JoinedCalls.{few_rows, joins_later, many_joined, new_room}
use Rattle.ft_merging.proofs.JoinedNew.{new_begins, other_on, others_on}
use Rattle.ft_merging.proofs.JoinedPairs.{source_known}
use Rattle.ft_merging.proofs.JoinedReads.{Source}
use Rattle.ft_merging.proofs.JoinedRoom.{taken_table}
use Rattle.ft_merging.proofs.Merged.{merge_later}
use Rattle.ft_merging.proofs.SharedKeys.{shares_from}
use Rattle.ft_merging.proofs.joining.join_in_new.Goals as goal
use Rattle.ft_merging.proofs.joining.join_in_new.Goals.{After-move_entries, After-put_counts, After-words_are_of_one_content}

-- ---- before the table is filled

many : (c : After-words_are_of_one_content) → c.args.merge.now.counts.count ≡ length_of (known_state c.args.merge.now.o (view c.args.pass.now)).content
many c =
    let a = c.args in
    (counts_known c.words_are_of_one_content.ensures.head (shape_of a.bank.now) a.merge.now.o a.old (view a.pass.now) a.merge.now.counts c.requires.may.keyed c.requires.merge.counts).0

kinds : (c : After-words_are_of_one_content) → kind_of (known_state c.args.merge.now.o (view c.args.pass.now)).content ≡ kind_by c.args.way
kinds c =
    let a = c.args in
    kind_is (shape_of a.bank.now) (view a.pass.now) a.merge.now.o c.requires.pass.1 a.pass.now.possible c.requires.may.keyed.locked ∙ c.requires.merge.way

source : (c : After-words_are_of_one_content) → Source (shape_of c.args.bank.now) c.args.way c.args.merge.now.t c.args.merge.now.table (view c.args.pass.now)
source c =
    let a = c.args in
    source_known (record { pairs = c.used_entries_follow_a_dict.ensures.first; elements = c.used_entries_follow_a_set.ensures.first }) (shape_of a.bank.now) a.merge.now.t a.merge.now.table (view a.pass.now) c.requires.pass.1 a.pass.now.possible c.requires.merge.other a.way c.requires.merge.other_way

-- it has room for all
room : (c : After-words_are_of_one_content) → c.args.merge.now.counts.count + c.args.merge.now.more ≤ rows (kind_by c.args.way) (class_of (table_id c.args.new))
room c =
    let a = c.args in
    let v = view a.pass.now in
    let n = many c in
    let m = c.requires.merge.more in
    let r = new_room (shape_of a.bank.now) a.way a.merge.now.t a.merge.now.table v (source c) (known_state a.merge.now.o v) (class_of (table_id a.new)) (kinds c) c.requires.few c.requires.takes in
    omega (arith, n, m, r)

row : (c : After-words_are_of_one_content) → c.args.merge.now.counts.count + c.args.merge.now.more ≤ rows (kind_in (shape_of c.args.bank.now).starts c.args.merge.now.o) (class_of (table_id c.args.new))
row c = subst (λ (z : Kind). c.args.merge.now.counts.count + c.args.merge.now.more ≤ rows z (class_of (table_id c.args.new))) (sym c.requires.merge.way) (room c)

pub move_entries-requires-clause-room : goal.move_entries-requires-clause-room
move_entries-requires-clause-room c =
    let at = (goal.at.move_entries-requires-clause-room c).After-words_are_of_one_content in
    let n = many at in
    let r = room at in
    omega (arith, n, r)

pub overflow_add-end : goal.overflow_add-end
overflow_add-end c =
    let a = c.args in
    let k = shape_of a.bank.now in
    let few = few_rows k a.new (kind_in k.starts a.merge.now.o) (a.merge.now.counts.count + a.merge.now.more) c.requires.may.table_in c.requires.may.keyed.keyed (row (goal.at.overflow_add-end c).After-words_are_of_one_content) in
    omega (arith, few)

-- ---- after it

grow : (c : After-move_entries) → MayGrowKeyed (shape_of c.args.bank.now) c.args.merge.now.o c.args.old c.args.new (view c.move_entries.new.pass)
grow c =
    let a = c.args in
    grow_filled (shape_of a.bank.now) a.merge.now.o a.old a.new (view a.pass.now) (view c.move_entries.new.pass) c.requires.pass.1 c.move_entries.ensures.only c.requires.may

same : (c : After-move_entries) → (held_unboxed c.args.merge.now.o (view c.move_entries.new.pass) ≡ held_unboxed c.args.merge.now.o (view c.args.pass.now)) × (known_state c.args.merge.now.o (view c.move_entries.new.pass) ≡ known_state c.args.merge.now.o (view c.args.pass.now))
same c =
    let a = c.args in
    same_filled (shape_of a.bank.now) a.merge.now.o a.old (view a.pass.now) (view c.move_entries.new.pass) c.requires.pass.1 c.move_entries.ensures.only c.requires.may.keyed

other : (c : After-move_entries) → known_state c.args.merge.now.t (view c.move_entries.new.pass) ≡ known_state c.args.merge.now.t (view c.args.pass.now)
other c =
    let a = c.args in
    (same_filled (shape_of a.bank.now) a.merge.now.t (Some a.merge.now.table) (view a.pass.now) (view c.move_entries.new.pass) c.requires.pass.1 c.move_entries.ensures.only c.requires.merge.other).1

merge : (c : After-move_entries) → MayMerge (shape_of c.args.bank.now) (kind_by c.args.way) c.args.merge.now (view c.move_entries.new.pass)
merge c =
    let a = c.args in
    let m = a.merge.now in
    let k = shape_of a.bank.now in
    let v = view a.pass.now in
    let u = view c.move_entries.new.pass in
    merge_later k (kind_by a.way) m v u (same c).0 (same c).1 (other c) (knows_filled k m.t (Some m.table) v u c.requires.pass.1 c.move_entries.ensures.only c.requires.merge.other) c.requires.merge

cap : (c : After-move_entries) → passes_cap (joined (known_state c.args.merge.now.o (view c.move_entries.new.pass)).content (known_state c.args.merge.now.t (view c.move_entries.new.pass)).content) ≡ false
cap c = (λ i. passes_cap (joined ((same c).1 i).content (other c i).content)) ∙ c.requires.few

takes : (c : After-move_entries) → join_takes (known_state c.args.merge.now.o (view c.move_entries.new.pass)) (known_state c.args.merge.now.t (view c.move_entries.new.pass)).content ≡ Some (class_of (table_id c.args.new))
takes c = (λ i. join_takes ((same c).1 i) (other c i).content) ∙ c.requires.takes

joins : (c : After-move_entries) → JoinsKeys c.args.merge.now.o c.args.merge.now.t c.args.called.now (view c.move_entries.new.pass)
joins c =
    let a = c.args in
    joins_later a.merge.now.o a.merge.now.t a.called.now (view a.pass.now) (view c.move_entries.new.pass) (filled_has (view a.pass.now) (view c.move_entries.new.pass) c.move_entries.ensures.only) c.move_entries.ensures.only.work.pass.locks (same c).1 (other c) c.requires.joins

pub begin_in-requires-clause-may : goal.begin_in-requires-clause-may
begin_in-requires-clause-may c = grow_begins (shape_of c.args.bank.now) c.args.merge.now.o c.args.old c.args.new (view c.move_entries.new.pass) c.move_entries.ensures.pass.1 (grow (goal.at.begin_in-requires-clause-may c).After-move_entries)

-- ---- once its root names the table

counted_only : (c : After-put_counts) → OnlyWritten c.args.merge.now.o (view c.begin_in.new.pass) (view c.put_counts.new.pass)
counted_only c = put_written c.args.merge.now.o (view c.begin_in.new.pass) (view c.put_counts.new.pass) c.put_counts.ensures.only

pub join_table-requires-clause-other : goal.join_table-requires-clause-other
join_table-requires-clause-other c =
    let a = c.args in
    let f = (goal.at.join_table-requires-clause-other c).After-move_entries in
    let w = (goal.at.join_table-requires-clause-other c).After-words_are_of_one_content in
    let at = goal.at.join_table-requires-clause-other c in
    let x = view c.move_entries.new.pass in
    other_on c.words_are_of_one_content.ensures.head (record { pairs = c.used_entries_follow_a_dict.ensures.first; elements = c.used_entries_follow_a_set.ensures.first }) (shape_of a.bank.now) a.merge.now.o a.way a.old a.new a.merge.now.t a.merge.now.table a.merge.now.counts a.merge.now.more x (view c.begin_in.new.pass) (view c.put_counts.new.pass) c.move_entries.ensures.pass.1 c.move_entries.new.pass.possible (merge f).two (grow f) (merge f).other (merge f).way (merge f).other_way
    c.move_entries.ensures.moved (merge f).counts (merge f).more (cap f) (merge f).serials (row w) c.begin_in.ensures.begins c.begin_in.ensures.words (counted_only at.After-put_counts) c.put_counts.ensures.words c.put_counts.ensures.writes c.put_counts.ensures.pass.1 c.put_counts.new.pass.possible

pub join_table-requires-clause-joining : goal.join_table-requires-clause-joining
join_table-requires-clause-joining c =
    let a = c.args in
    let f = (goal.at.join_table-requires-clause-joining c).After-move_entries in
    let w = (goal.at.join_table-requires-clause-joining c).After-words_are_of_one_content in
    let at = goal.at.join_table-requires-clause-joining c in
    let x = view c.move_entries.new.pass in
    new_begins c.words_are_of_one_content.ensures.head (record { pairs = c.used_entries_follow_a_dict.ensures.first; elements = c.used_entries_follow_a_set.ensures.first }) (shape_of a.bank.now) a.merge.now.o a.way a.old a.new a.merge.now.t a.merge.now.table a.merge.now.counts a.merge.now.more x (view c.begin_in.new.pass) (view c.put_counts.new.pass) c.move_entries.ensures.pass.1 c.move_entries.new.pass.possible (merge f).two (grow f) (merge f).other (merge f).way (merge f).other_way
    c.move_entries.ensures.moved (merge f).counts (merge f).more (cap f) (merge f).serials (row w) c.begin_in.ensures.begins c.begin_in.ensures.words (counted_only at.After-put_counts) c.put_counts.ensures.words c.put_counts.ensures.writes c.put_counts.ensures.pass.1 c.put_counts.new.pass.possible

-- the pass knows the same contents as after the filling
knows_on : (c : After-put_counts) (p : ℕ) → known_state p (view c.put_counts.new.pass) ≡ known_state p (view c.move_entries.new.pass)
knows_on c p = work_knows (view c.begin_in.new.pass) (view c.put_counts.new.pass) p c.put_counts.ensures.only.work ∙ (let b = c.begin_in.ensures.begins in work_knows b.rooted (view c.begin_in.new.pass) p b.only.work ∙ ap (known_state p) b.is)

pub join_table-requires-clause-finishes : goal.join_table-requires-clause-finishes
join_table-requires-clause-finishes c w counts_then only joining =
    let a = c.args in
    let k = shape_of a.bank.now in
    let f = (goal.at.join_table-requires-clause-finishes c).After-move_entries in
    let p = (goal.at.join_table-requires-clause-finishes c).After-put_counts in
    let b = (goal.at.join_table-requires-clause-finishes c).After-words_are_of_one_content in
    let begun = c.begin_in.ensures.begins in
    let x = view c.move_entries.new.pass in
    let y = view c.begin_in.new.pass in
    let z = view c.put_counts.new.pass in
    let owes = (grow f).owed in
    let n = many b in
    let m = c.requires.merge.more in
    let all = many_joined k a.way a.merge.now.t a.merge.now.table (view a.pass.now) (source b) (known_state a.merge.now.o (view a.pass.now)).content (kinds b) in
    let long : length_of (joined (known_state a.merge.now.o x).content (known_state a.merge.now.t x).content) ≡ a.merge.now.counts.count + a.merge.now.more = (λ i. length_of (joined ((same f).1 i).content (other f i).content)) ∙ omega (arith, n, m, all) in
    joined_finishes (record { pairs = c.used_entries_follow_a_dict.ensures.first; elements = c.used_entries_follow_a_set.ensures.first }) k a.merge.now.o a.way a.new a.merge.now.t a.merge.now.table (a.merge.now.counts.count + a.merge.now.more) a.merge.now.others counts_then x w
    (since_root a.merge.now.o (table_id a.new) (root_in (held_words a.merge.now.o x)) x begun.rooted w begun.found begun.is (written_then a.merge.now.o begun.rooted y w begun.only (written_then a.merge.now.o y z w (counted_only p) only))) c.move_entries.ensures.pass.1 c.requires.may.keyed.container (grow f).left (grow f).boxes.stored a.called.now (joins f) (cap f)
    (λ found class has owed.
    let is : class_of (table_id a.new) ≡ class = omega (arith, owed, owes) in
    (joins f).takes found has ∙ (takes f ∙ ap (λ (q : ℕ). Some q) is))
    (taken_table (known_state a.merge.now.o x) (known_state a.merge.now.t x).content (class_of (table_id a.new)) (a.merge.now.counts.count + a.merge.now.more) (takes f) long)
    (subst (λ (q : ContainerState × ContainerState). IsJoining k a.merge.now.o a.way a.new a.merge.now.t a.merge.now.table (joined q.0.content q.1.content) (a.merge.now.counts.count + a.merge.now.more) a.merge.now.others counts_then w) (λ i. (knows_on p a.merge.now.o i, knows_on p a.merge.now.t i)) joining)
    (c.requires.merge.others ∙ sym (ap (λ (q : ContainerState). q.table.fill) (work_knows z w a.merge.now.t only.work ∙ (knows_on p a.merge.now.t ∙ other f))))

pub returns-clause-wrote : goal.returns-clause-wrote
returns-clause-wrote c =
    let a = c.args in
    let o = a.merge.now.o in
    let v = view a.pass.now in
    let x = view c.move_entries.new.pass in
    let y = view c.begin_in.new.pass in
    let z = view c.put_counts.new.pass in
    let f = (goal.at.returns-clause-wrote c).After-move_entries in
    let p = (goal.at.returns-clause-wrote c).After-put_counts in
    let e = c.join_table.ensures.ends in
    let words = words_filled (shape_of a.bank.now) o a.old v x c.requires.pass.1 c.move_entries.ensures.only c.requires.may.keyed in
    grown_wrote o a.new a.called.now reply.Done c.join_table.result v x y e.0 (view c.join_table.new.pass) c.requires.joins.changed c.move_entries.ensures.only words (λ is. c.requires.apart (sym (ap root_in words) ∙ is)) (grow f).keyed.even c.begin_in.ensures.begins (written_then o y z e.0 (counted_only p) e.1) e.2 e.3

pub returns-clause-root : goal.returns-clause-root
returns-clause-root c =
    let a = c.args in
    let e = c.join_table.ensures.ends in
    subst (λ (n : ℕ). root_in (held_unboxed n (view c.join_table.new.pass)) ≡ root_in (held_unboxed n e.0)) c.requires.joins.changed e.3.root ∙ e.2

pub returns-clause-references : goal.returns-clause-references
returns-clause-references c =
    let a = c.args in
    let v = view a.pass.now in
    let x = view c.move_entries.new.pass in
    let y = view c.begin_in.new.pass in
    let z = view c.put_counts.new.pass in
    let begun = refs_then v x y c.move_entries.ensures.only.references c.begin_in.ensures.references in
    refs_then v z (view c.join_table.new.pass) (refs_then v y z begun c.put_counts.ensures.references) c.join_table.ensures.references

-- the pass holds no reference
pub join_table-requires-clause-none : goal.join_table-requires-clause-none
join_table-requires-clause-none c b =
    let a = c.args in
    let v = view a.pass.now in
    let x = view c.move_entries.new.pass in
    let y = view c.begin_in.new.pass in
    let z = view c.put_counts.new.pass in
    let all = refs_then v y z (refs_then v x y c.move_entries.ensures.only.references c.begin_in.ensures.references) c.put_counts.ensures.references in
    held_same (shape_of a.bank.now) v z c.requires.pass.1 c.put_counts.ensures.pass.1 all b ∙ c.requires.may.boxes.none b

pub returns-clause-shares : goal.returns-clause-shares
returns-clause-shares c dicts =
    let a = c.args in
    let k = shape_of a.bank.now in
    let m = a.merge.now in
    let at = goal.at.returns-clause-shares c in
    let f = at.After-move_entries in
    let p = at.After-put_counts in
    let v = view a.pass.now in
    let x = view c.move_entries.new.pass in
    let only = c.move_entries.ensures.only in
    let words = others_on c.words_are_of_one_content.ensures.head (record { pairs = c.used_entries_follow_a_dict.ensures.first; elements = c.used_entries_follow_a_set.ensures.first }) k m.o a.way a.old a.new m.t m.table m.counts m.more x (view c.begin_in.new.pass) (view c.put_counts.new.pass) c.move_entries.ensures.pass.1 c.move_entries.new.pass.possible (merge f).two (grow f) (merge f).other (merge f).way (merge f).other_way
    c.move_entries.ensures.moved (merge f).counts (merge f).more (cap f) (merge f).serials (row at.After-words_are_of_one_content) c.begin_in.ensures.begins c.begin_in.ensures.words (counted_only p) c.put_counts.ensures.words c.put_counts.ensures.writes c.put_counts.ensures.pass.1 c.put_counts.new.pass.possible in
    shares_from m.o m.t v (view c.put_counts.new.pass) (view c.join_table.new.pass)
    (words.0 ∙ words_filled k m.t (Some m.table) v x c.requires.pass.1 only c.requires.merge.other)
    (words.1 ∙ (same_filled k m.t (Some m.table) v x c.requires.pass.1 only c.requires.merge.other).0)
    (knows_on p m.o ∙ (same f).1) (knows_on p m.t ∙ other f) (c.join_table.ensures.shares dicts)
