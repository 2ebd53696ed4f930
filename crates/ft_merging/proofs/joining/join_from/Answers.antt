use Rattle.std.proofs.Common.{◌≡◌, ◌+◌, ◌^◌, ◌<◌, ◌∷◌, Some, refl, sym, ap, ◌∙◌, subst, arith}
use Rattle.ft_model.specs.Worlds.{kind_of, length_of, serial_of}
use Rattle.ft_trace.specs.Holds.{held_unboxed, known_state}
use Rattle.ft_trace.specs.Kinds.{IsKeyed}
use Rattle.ft_trace.specs.Pictures.{ContainerWords}
use Rattle.ft_trace.specs.ContainerStates.{ContainerState}
use Rattle.ft_bank.specs.Passes.{shape_of, view}
use Rattle.ft_bank.specs.Whole.{OnlyLoaded}
use Rattle.ft_bank.proofs.KnownAfterWrites.{loaded_held, loaded_then, work_knows}
use Rattle.ft_search.specs.Rounds.{kind_by}
use Rattle.ft_search.proofs.Changing.{kind_is}
use Rattle.ft_search.proofs.Spotting.{may_loaded}
use Rattle.ft_new_keys.specs.KeyGrowth.{KnowsKeyed}
use Rattle.ft_new_keys.specs.Placing.{AreCounts}
use Rattle.ft_new_keys.proofs.Keyed.{counts_known}
use Rattle.ft_new_keys.proofs.Present.{may_add}
use Rattle.ft_new_keys.proofs.Taken.{has_loaded}
use Rattle.ft_new_keys.proofs.Wanted.{most_few}
use Rattle.ft_merging.specs.Joining.{new_keys}
use Rattle.ft_merging.proofs.Ending.{read_same}
use Rattle.ft_merging.proofs.Joined.{cap_few, joined_more}
use Rattle.ft_merging.proofs.JoinedCalls.{few_rows, joins_by, joins_later}
use Rattle.ft_merging.proofs.JoinedSame.{known_cap}
use Rattle.ft_merging.proofs.JoinedPairs.{source_known}
use Rattle.ft_merging.proofs.JoinedReads.{Source, knows_loaded}
use Rattle.ft_merging.proofs.SharedKeys.{shares_from}
use Rattle.ft_merging.proofs.joining.join_from.Goals as goal
use Rattle.ft_merging.proofs.joining.join_from.Goals.{After-own_table-old}

pub own_table-old-requires-clause-may : goal.own_table-old-requires-clause-may
own_table-old-requires-clause-may c =
    let v = view c.args.pass.now in
    let u = view c.read_counts-others.new.pass in
    let w = view c.read_counts-counts.new.pass in
    let z = view c.count_new-more.new.pass in
    may_loaded (shape_of c.args.bank.now) c.args.o v z c.requires.pass.1 (loaded_then v w z (loaded_then v u w c.read_counts-others.ensures.only c.read_counts-counts.ensures.only) c.count_new-more.ensures.only) c.requires.may

-- ---- the loads

one : (c : After-own_table-old) → OnlyLoaded (view c.args.pass.now) (view c.read_counts-counts.new.pass)
one c = loaded_then (view c.args.pass.now) (view c.read_counts-others.new.pass) (view c.read_counts-counts.new.pass) c.read_counts-others.ensures.only c.read_counts-counts.ensures.only

two : (c : After-own_table-old) → OnlyLoaded (view c.read_counts-counts.new.pass) (view c.own_table-old.new.pass)
two c = loaded_then (view c.read_counts-counts.new.pass) (view c.count_new-more.new.pass) (view c.own_table-old.new.pass) c.count_new-more.ensures.only c.own_table-old.ensures.only

all : (c : After-own_table-old) → OnlyLoaded (view c.args.pass.now) (view c.own_table-old.new.pass)
all c = loaded_then (view c.args.pass.now) (view c.read_counts-counts.new.pass) (view c.own_table-old.new.pass) (one c) (two c)

-- ---- how many are new

mid : (c : After-own_table-old) → KnowsKeyed (shape_of c.args.bank.now) c.args.t (Some c.args.table) (view c.read_counts-counts.new.pass)
mid c = knows_loaded (shape_of c.args.bank.now) c.args.t (Some c.args.table) (view c.args.pass.now) (view c.read_counts-counts.new.pass) c.requires.pass.1 (one c) c.requires.other

source : (c : After-own_table-old) → Source (shape_of c.args.bank.now) c.args.way c.args.t c.args.table (view c.read_counts-counts.new.pass)
source c =
    let a = c.args in
    source_known (record { pairs = c.used_entries_follow_a_dict.ensures.first; elements = c.used_entries_follow_a_set.ensures.first }) (shape_of a.bank.now) a.t a.table (view c.read_counts-counts.new.pass) c.read_counts-counts.ensures.pass.1 c.read_counts-counts.new.pass.possible (mid c) a.way c.requires.other_way

kinds : (c : After-own_table-old) → kind_of (known_state c.args.o (view c.read_counts-counts.new.pass)).content ≡ kind_by c.args.way
kinds c =
    let a = c.args in
    kind_is (shape_of a.bank.now) (view c.read_counts-counts.new.pass) a.o c.read_counts-counts.ensures.pass.1 c.read_counts-counts.new.pass.possible ((one c).work.pass.locks a.o ∙ c.requires.may.locked) ∙ c.requires.way

more : (c : After-own_table-old) → c.count_new-more.result ≡ new_keys (known_state c.args.o (view c.own_table-old.new.pass)).content (known_state c.args.t (view c.own_table-old.new.pass)).content
more c =
    let a = c.args in
    let s = source c in
    let x = view c.read_counts-counts.new.pass in
    let u = view c.own_table-old.new.pass in
    c.count_new-more.ensures.count s.used s.table_is s.filled
    ∙ (sym (joined_more (shape_of a.bank.now) a.way a.t a.table x s (known_state a.o x).content (kinds c)).1
    ∙ (λ i. new_keys (sym (work_knows x u a.o (two c).work) i).content (sym (work_knows x u a.t (two c).work) i).content))

pub join_more-requires-clause-may : goal.join_more-requires-clause-may
join_more-requires-clause-may c =
    let a = c.args in
    let d = (goal.at.join_more-requires-clause-may c).After-own_table-old in
    let k = shape_of a.bank.now in
    may_add k a.o c.own_table-old.result (view a.pass.now) (view c.own_table-old.new.pass) (all d) c.requires.used c.requires.idle (may_loaded k a.o (view a.pass.now) (view c.own_table-old.new.pass) c.requires.pass.1 (all d) c.requires.may) c.own_table-old.ensures.knows

counts : (c : After-own_table-old) → AreCounts (held_unboxed c.args.o (view c.own_table-old.new.pass)).block c.read_counts-counts.result
counts c =
    let a = c.args in
    let k = shape_of a.bank.now in
    let v0 = view c.read_counts-others.new.pass in
    let v1 = view c.read_counts-counts.new.pass in
    let may = c.requires.may in
    let first = read_same k a.o v0 v1 c.read_counts-others.ensures.pass.1 may.container (c.read_counts-others.ensures.only.work.pass.locks a.o ∙ may.locked) c.read_counts-counts.ensures.only in
    let then_ = read_same k a.o v1 (view c.own_table-old.new.pass) c.read_counts-counts.ensures.pass.1 may.container ((one c).work.pass.locks a.o ∙ may.locked) (two c) in
    subst (λ (z : ContainerWords). AreCounts z.block c.read_counts-counts.result) (sym first ∙ sym then_) c.read_counts-counts.ensures.counts

full : (c : After-own_table-old) → c.read_counts-others.result.fill ≡ (known_state c.args.t (view c.args.pass.now)).table.fill
full c =
    let a = c.args in
    let v = view a.pass.now in
    sym c.read_counts-others.ensures.counts.1 ∙ (c.words_are_of_one_content.ensures.head (shape_of a.bank.now).texts (held_unboxed a.t v).block (0 ∷ 0 ∷ (held_unboxed a.t v).table) (known_state a.t v).table (known_state a.t v).content c.requires.other.stands).fill_is

pub join_more-requires-clause-merge : goal.join_more-requires-clause-merge
join_more-requires-clause-merge c =
    let a = c.args in
    let d = (goal.at.join_more-requires-clause-merge c).After-own_table-old in
    let v = view a.pass.now in
    let u = view c.own_table-old.new.pass in
    record {
      two = c.requires.two;
      other = knows_loaded (shape_of a.bank.now) a.t (Some a.table) v u c.requires.pass.1 (all d) c.requires.other;
      way = c.requires.way;
      other_way = c.requires.other_way;
      others = full d ∙ ap (λ (z : ContainerState). z.table.fill) (sym (work_knows v u a.t (all d).work));
      counts = counts d;
      more = more d;
      serials = subst (λ (z : ContainerState). serial_of z.content + 65536 < 2 ^ 63) (sym (work_knows v u a.o (all d).work)) c.requires.serials;
    }

pub join_more-requires-clause-few : goal.join_more-requires-clause-few
join_more-requires-clause-few c =
    let a = c.args in
    let d = (goal.at.join_more-requires-clause-few c).After-own_table-old in
    let k = shape_of a.bank.now in
    let v = view a.pass.now in
    let u = view c.own_table-old.new.pass in
    let n = (counts_known c.words_are_of_one_content.ensures.head k a.o c.own_table-old.result u c.read_counts-counts.result c.own_table-old.ensures.knows (counts d)).0 in
    let same = ap (λ (z : ContainerState). length_of z.content) (work_knows v u a.o (all d).work) in
    let cap = cap_few (known_state a.o v).content (known_cap k a.o v c.requires.pass.1 a.pass.now.possible c.requires.may.keyed c.requires.may.locked c.requires.may.stands (record { pairs = c.used_entries_follow_a_dict.ensures.first; elements = c.used_entries_follow_a_set.ensures.first })) in
    let most = most_few (known_state a.o v).content in
    let s = source_known (record { pairs = c.used_entries_follow_a_dict.ensures.first; elements = c.used_entries_follow_a_set.ensures.first }) k a.t a.table v c.requires.pass.1 a.pass.now.possible c.requires.other a.way c.requires.other_way in
    let rows_few = few_rows k a.table (kind_by a.way) (known_state a.t v).table.fill (c.requires.other.table_in a.table refl) (subst IsKeyed c.requires.other_way c.requires.other.keyed) s.few in
    let less = c.count_new-more.ensures.few in
    let f = full d in
    omega (arith, n, same, cap, most, rows_few, less, f)

pub join_more-requires-clause-joins : goal.join_more-requires-clause-joins
join_more-requires-clause-joins c =
    let a = c.args in
    let d = (goal.at.join_more-requires-clause-joins c).After-own_table-old in
    let v = view a.pass.now in
    let u = view c.own_table-old.new.pass in
    joins_later a.o a.t a.called.now v u (has_loaded (shape_of a.bank.now) a.o c.own_table-old.result v u (all d) (read_same (shape_of a.bank.now) a.o v u c.requires.pass.1 c.requires.may.container c.requires.may.locked (all d))) (all d).work.pass.locks (work_knows v u a.o (all d).work) (work_knows v u a.t (all d).work) c.requires.joins

pub returns-clause-added : goal.returns-clause-added
returns-clause-added c =
    let a = c.args in
    let k = shape_of a.bank.now in
    let v = view a.pass.now in
    let u = view c.own_table-old.new.pass in
    let w = view c.join_more.new.pass in
    let l = all (goal.at.returns-clause-added c).After-own_table-old in
    let r = c.requires.other in (
      joins_by k a.o a.t a.called.now v u w c.join_more.result l c.join_more.ensures.added,
      (λ dicts made. shares_from a.o a.t v u w (loaded_held v u a.t l) (read_same k a.t v u c.requires.pass.1 r.container r.locked l) (work_knows v u a.o l.work) (work_knows v u a.t l.work) (c.join_more.ensures.shares (sym c.requires.other_way ∙ dicts) made)),
    )
