use Rattle.std.proofs.Common.{◌≡◌, ◌+◌, ◌<◌, ◌^◌, ◌∷◌, length, Some, sym, ap, ◌∙◌, subst, arith}
use Rattle.std.specs.Prelude.{slice_index}
use Rattle.ft_model.specs.Contents.{those_not_in}
use Rattle.ft_model.specs.Worlds.{serial_of, set_of}
use Rattle.ft_trace.specs.Holds.{held_unboxed, known_state}
use Rattle.ft_trace.specs.Pictures.{ContainerWords}
use Rattle.ft_trace.specs.ContainerStates.{ContainerState}
use Rattle.ft_bank.specs.Passes.{shape_of, view}
use Rattle.ft_bank.specs.Whole.{OnlyLoaded}
use Rattle.ft_bank.proofs.KnownAfterWrites.{loaded_then, work_knows}
use Rattle.ft_search.proofs.Spotting.{may_loaded}
use Rattle.ft_new_keys.specs.Placing.{AreCounts}
use Rattle.ft_new_keys.proofs.Present.{may_add}
use Rattle.ft_new_keys.proofs.Taken.{has_loaded}
use Rattle.ft_merging.proofs.Ending.{read_same}
use Rattle.ft_merging.specs.Joining.{new_keys}
use Rattle.ft_merging.proofs.ThinningEnds.{is_set}
use Rattle.ft_merging.proofs.JoinedReads.{knows_loaded}
use Rattle.ft_merging.proofs.JoinedSame.{known_cap}
use Rattle.ft_parting.proofs.PartedSets.{few_apart, new_length, parts_by, parts_later}
use Rattle.ft_parting.proofs.parting.part_from.Goals as goal
use Rattle.ft_parting.proofs.parting.part_from.Goals.{After-own_table-old, After-count_lacking-more, After-count_staying-stay}

-- ---- the loads

one : (c : After-own_table-old) → OnlyLoaded (view c.args.pass.now) (view c.own_table-old.new.pass)
one c =
    let v = view c.args.pass.now in
    let w = view c.read_counts-counts.new.pass in
    loaded_then v w (view c.own_table-old.new.pass) (loaded_then v (view c.read_counts-others.new.pass) w c.read_counts-others.ensures.only c.read_counts-counts.ensures.only) c.own_table-old.ensures.only

two : (c : After-count_lacking-more) → OnlyLoaded (view c.args.pass.now) (view c.own_table-old.new.pass) → OnlyLoaded (view c.args.pass.now) (view c.count_lacking-more.new.pass)
two c before = loaded_then (view c.args.pass.now) (view c.own_table-old.new.pass) (view c.count_lacking-more.new.pass) before c.count_lacking-more.ensures.only

three : (c : After-count_staying-stay) → OnlyLoaded (view c.args.pass.now) (view c.count_lacking-more.new.pass) → OnlyLoaded (view c.args.pass.now) (view c.count_staying-stay.new.pass)
three c before = loaded_then (view c.args.pass.now) (view c.count_lacking-more.new.pass) (view c.count_staying-stay.new.pass) before c.count_staying-stay.ensures.only

-- how many entries the other one has used, as its block counts them
others_fill : (c : After-own_table-old) → c.read_counts-others.result.fill ≡ (known_state c.args.t (view c.args.pass.now)).table.fill
others_fill c =
    let a = c.args in
    let v = view a.pass.now in
    sym c.read_counts-others.ensures.counts.1 ∙ (c.words_are_of_one_content.ensures.head (shape_of a.bank.now).texts (held_unboxed a.t v).block (0 ∷ 0 ∷ (held_unboxed a.t v).table) (known_state a.t v).table (known_state a.t v).content c.requires.other.stands).fill_is

-- and the first one
own_fill : (c : After-own_table-old) → c.read_counts-counts.result.fill ≡ (known_state c.args.s (view c.args.pass.now)).table.fill
own_fill c =
    let a = c.args in
    let v = view a.pass.now in
    let u = view c.read_counts-others.new.pass in
    sym c.read_counts-counts.ensures.counts.1
    ∙ (ap (λ (x : ContainerWords). slice_index x.block 2) (read_same (shape_of a.bank.now) a.s v u c.requires.pass.1 c.requires.may.container c.requires.may.locked c.read_counts-others.ensures.only)
    ∙ (c.words_are_of_one_content.ensures.head (shape_of a.bank.now).texts (held_unboxed a.s v).block (0 ∷ 0 ∷ (held_unboxed a.s v).table) (known_state a.s v).table (known_state a.s v).content c.requires.may.stands).fill_is)

pub count_lacking-more-requires-clause-may : goal.count_lacking-more-requires-clause-may
count_lacking-more-requires-clause-may c =
    let a = c.args in
    may_loaded (shape_of a.bank.now) a.s (view a.pass.now) (view c.own_table-old.new.pass) c.requires.pass.1 (one (goal.at.count_lacking-more-requires-clause-may c).After-own_table-old) c.requires.may

pub count_lacking-more-requires-clause-other : goal.count_lacking-more-requires-clause-other
count_lacking-more-requires-clause-other c =
    let a = c.args in
    knows_loaded (shape_of a.bank.now) a.t (Some a.table) (view a.pass.now) (view c.own_table-old.new.pass) c.requires.pass.1 (one (goal.at.count_lacking-more-requires-clause-other c).After-own_table-old) c.requires.other

pub count_lacking-more-requires-clause-fill : goal.count_lacking-more-requires-clause-fill
count_lacking-more-requires-clause-fill c =
    let a = c.args in
    let d = (goal.at.count_lacking-more-requires-clause-fill c).After-own_table-old in
    others_fill d ∙ ap (λ (z : ContainerState). z.table.fill) (sym (work_knows (view a.pass.now) (view c.own_table-old.new.pass) a.t (one d).work))

pub count_staying-stay-requires-clause-keyed : goal.count_staying-stay-requires-clause-keyed
count_staying-stay-requires-clause-keyed c =
    let a = c.args in
    knows_loaded (shape_of a.bank.now) a.s c.own_table-old.result (view c.own_table-old.new.pass) (view c.count_lacking-more.new.pass) c.own_table-old.ensures.pass.1 c.count_lacking-more.ensures.only c.own_table-old.ensures.knows

pub count_staying-stay-requires-clause-other : goal.count_staying-stay-requires-clause-other
count_staying-stay-requires-clause-other c =
    let a = c.args in
    let at = goal.at.count_staying-stay-requires-clause-other c in
    may_loaded (shape_of a.bank.now) a.t (view a.pass.now) (view c.count_lacking-more.new.pass) c.requires.pass.1 (two at.After-count_lacking-more (one at.After-own_table-old)) c.requires.other_may

pub count_staying-stay-requires-clause-fill : goal.count_staying-stay-requires-clause-fill
count_staying-stay-requires-clause-fill c =
    let a = c.args in
    let at = goal.at.count_staying-stay-requires-clause-fill c in
    own_fill at.After-own_table-old ∙ ap (λ (z : ContainerState). z.table.fill) (sym (work_knows (view a.pass.now) (view c.count_lacking-more.new.pass) a.s (two at.After-count_lacking-more (one at.After-own_table-old)).work))

-- ---- what there is then

pub part_more-requires-clause-may : goal.part_more-requires-clause-may
part_more-requires-clause-may c =
    let a = c.args in
    let at = goal.at.part_more-requires-clause-may c in
    let k = shape_of a.bank.now in
    let v = view a.pass.now in
    let m = view c.count_lacking-more.new.pass in
    let w = view c.count_staying-stay.new.pass in
    let all = three at.After-count_staying-stay (two at.After-count_lacking-more (one at.After-own_table-old)) in
    let late = loaded_then (view c.own_table-old.new.pass) m w c.count_lacking-more.ensures.only c.count_staying-stay.ensures.only in
    may_add k a.s c.own_table-old.result v w all c.requires.used c.requires.idle (may_loaded k a.s v w c.requires.pass.1 all c.requires.may) (knows_loaded k a.s c.own_table-old.result (view c.own_table-old.new.pass) w c.own_table-old.ensures.pass.1 late c.own_table-old.ensures.knows)

stays : (c : After-count_staying-stay) → OnlyLoaded (view c.args.pass.now) (view c.count_lacking-more.new.pass) → c.count_staying-stay.result ≡ length (those_not_in (set_of (known_state c.args.t (view c.args.pass.now)).content).elements (set_of (known_state c.args.s (view c.args.pass.now)).content).elements)
stays c before =
    let a = c.args in
    let mine = work_knows (view a.pass.now) (view c.count_lacking-more.new.pass) a.s before.work in
    let other = work_knows (view a.pass.now) (view c.count_lacking-more.new.pass) a.t before.work in
    c.count_staying-stay.ensures.count ∙ (λ i. length (those_not_in (set_of (other i).content).elements (set_of (mine i).content).elements))

news : (c : After-count_lacking-more) → OnlyLoaded (view c.args.pass.now) (view c.own_table-old.new.pass) → c.count_lacking-more.result ≡ new_keys (known_state c.args.s (view c.args.pass.now)).content (known_state c.args.t (view c.args.pass.now)).content
news c before =
    let a = c.args in
    let mine = work_knows (view a.pass.now) (view c.own_table-old.new.pass) a.s before.work in
    let other = work_knows (view a.pass.now) (view c.own_table-old.new.pass) a.t before.work in
    c.count_lacking-more.ensures.count ∙ (λ i. new_keys (mine i).content (other i).content)

pub part_more-requires-clause-stay : goal.part_more-requires-clause-stay
part_more-requires-clause-stay c =
    let a = c.args in
    let at = goal.at.part_more-requires-clause-stay c in
    let before = two at.After-count_lacking-more (one at.After-own_table-old) in
    let all = three at.After-count_staying-stay before in
    let mine = work_knows (view a.pass.now) (view c.count_staying-stay.new.pass) a.s all.work in
    let other = work_knows (view a.pass.now) (view c.count_staying-stay.new.pass) a.t all.work in
    stays at.After-count_staying-stay before ∙ (λ i. length (those_not_in (set_of (sym other i).content).elements (set_of (sym mine i).content).elements))

pub part_more-requires-clause-merge : goal.part_more-requires-clause-merge
part_more-requires-clause-merge c =
    let a = c.args in
    let at = goal.at.part_more-requires-clause-merge c in
    let k = shape_of a.bank.now in
    let v = view a.pass.now in
    let w = view c.count_staying-stay.new.pass in
    let before = one at.After-own_table-old in
    let all = three at.After-count_staying-stay (two at.After-count_lacking-more before) in
    let mine = work_knows v w a.s all.work in
    let other = work_knows v w a.t all.work in
    record {
      two = c.requires.two;
      other = knows_loaded k a.t (Some a.table) v w c.requires.pass.1 all c.requires.other;
      way = c.requires.set;
      other_way = c.requires.other_set;
      others = others_fill at.After-own_table-old ∙ ap (λ (z : ContainerState). z.table.fill) (sym other);
      counts = subst (λ (z : ContainerWords). AreCounts z.block c.read_counts-counts.result) (read_same k a.s v (view c.read_counts-others.new.pass) c.requires.pass.1 c.requires.may.container c.requires.may.locked c.read_counts-others.ensures.only ∙ sym (read_same k a.s v w c.requires.pass.1 c.requires.may.container c.requires.may.locked all)) c.read_counts-counts.ensures.counts;
      more = news at.After-count_lacking-more before ∙ (λ i. new_keys (sym mine i).content (sym other i).content);
      serials = subst (λ (z : ContainerState). serial_of z.content + 65536 < 2 ^ 63) (sym mine) c.requires.serials;
    }

pub part_more-requires-clause-few : goal.part_more-requires-clause-few
part_more-requires-clause-few c =
    let a = c.args in
    let at = goal.at.part_more-requires-clause-few c in
    let k = shape_of a.bank.now in
    let v = view a.pass.now in
    let before = one at.After-own_table-old in
    let stay = stays at.After-count_staying-stay (two at.After-count_lacking-more before) in
    let s = set_of (known_state a.s v).content in
    let t = set_of (known_state a.t v).content in
    let s_is = is_set k v a.s c.requires.pass.1 a.pass.now.possible c.requires.may.locked c.requires.set in
    let t_is = is_set k v a.t c.requires.pass.1 a.pass.now.possible c.requires.other_may.locked c.requires.other_set in
    let more = news at.After-count_lacking-more before ∙ new_length (known_state a.s v).content (known_state a.t v).content s s_is in
    let f1 = few_apart (known_state a.s v).content s t.elements s_is (known_cap k a.s v c.requires.pass.1 a.pass.now.possible c.requires.may.keyed c.requires.may.locked c.requires.may.stands (record { pairs = c.used_entries_follow_a_dict.ensures.first; elements = c.used_entries_follow_a_set.ensures.first })) in
    let f2 = few_apart (known_state a.t v).content t s.elements t_is (known_cap k a.t v c.requires.pass.1 a.pass.now.possible c.requires.other_may.keyed c.requires.other_may.locked c.requires.other_may.stands (record { pairs = c.used_entries_follow_a_dict.ensures.first; elements = c.used_entries_follow_a_set.ensures.first })) in
    omega (arith, stay, more, f1, f2)

pub part_more-requires-clause-parts : goal.part_more-requires-clause-parts
part_more-requires-clause-parts c =
    let a = c.args in
    let at = goal.at.part_more-requires-clause-parts c in
    let v = view a.pass.now in
    let w = view c.count_staying-stay.new.pass in
    let all = three at.After-count_staying-stay (two at.After-count_lacking-more (one at.After-own_table-old)) in
    parts_later a.s a.t a.called.now v w (has_loaded (shape_of a.bank.now) a.s c.own_table-old.result v w all (read_same (shape_of a.bank.now) a.s v w c.requires.pass.1 c.requires.may.container c.requires.may.locked all)) all.work.pass.locks (work_knows v w a.s all.work) (work_knows v w a.t all.work) c.requires.parts

pub returns-clause-added : goal.returns-clause-added
returns-clause-added c =
    let a = c.args in
    let at = goal.at.returns-clause-added c in
    let all = three at.After-count_staying-stay (two at.After-count_lacking-more (one at.After-own_table-old)) in
    parts_by (shape_of a.bank.now) a.s a.t a.called.now (view a.pass.now) (view c.count_staying-stay.new.pass) (view c.part_more.new.pass) c.part_more.result all c.part_more.ensures.added
