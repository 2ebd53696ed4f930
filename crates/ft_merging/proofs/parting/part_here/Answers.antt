use Rattle.std.proofs.Common.{◌≡◌, ◌+◌, ◌≤◌, ℕ, ◌∷◌, false, Some, None, refl, sym, ap, ◌∙◌, subst, arith, []}
use Rattle.ft_model.specs.declared.content.Content.TheVariants as content
use Rattle.ft_model.specs.declared.reply.Reply.TheVariants as reply
use Rattle.ft_model.specs.declared.script.Kind.{Kind}
use Rattle.ft_model.specs.declared.script.Kind.TheVariants as kind
use Rattle.ft_model.specs.TableUses.{TableUse, passes_cap}
use Rattle.ft_model.specs.Worlds.{set_of}
use Rattle.ft_layout.specs.Containers.{IsSetWords}
use Rattle.ft_keys.specs.declared.walk.Way.TheVariants as way
use Rattle.ft_trace.specs.declared.View.{View}
use Rattle.ft_trace.specs.Boxes.{references_held}
use Rattle.ft_trace.specs.Addresses.{class_of}
use Rattle.ft_trace.specs.Holds.{held_unboxed, known_state}
use Rattle.ft_trace.specs.Kinds.{rows}
use Rattle.ft_trace.specs.ContainerStates.{ContainerState}
use Rattle.ft_bank.specs.Passes.{shape_of, view}
use Rattle.ft_bank.specs.SameBoxes.{SameReferences}
use Rattle.ft_bank.specs.TableNames.{table_id}
use Rattle.ft_bank.specs.Whole.{OnlyWritten}
use Rattle.ft_bank.proofs.TableAddresses.{class_is}
use Rattle.ft_bank.proofs.KnownAfterWrites.{work_knows, written_then}
use Rattle.ft_search.specs.OneEntryWrites.{HasTable, KnowsEntries, MayWriteEntries}
use Rattle.ft_search.proofs.Changing.{kind_is}
use Rattle.ft_search.proofs.ReadyCommits.{whole_root, whole_write}
use Rattle.ft_search.proofs.Puts.{table_class}
use Rattle.ft_new_keys.specs.KeyGrowth.{keys_take}
use Rattle.ft_new_keys.proofs.Keyed.{use_known}
use Rattle.ft_new_keys.proofs.Placed.{refs_then, use_with}
use Rattle.ft_merging.specs.Joining.{join_takes, joined}
use Rattle.ft_merging.specs.Parting.{parted}
use Rattle.ft_merging.specs.Internal.JoiningSteps.{IsJoining}
use Rattle.ft_merging.specs.Internal.ThinningSteps.{IsThinned}
use Rattle.ft_merging.proofs.Ending.{Laws}
use Rattle.ft_merging.proofs.ThinningEnds.{fill_fits, first_says, is_set, other_begun, other_stays, thinned_finishes}
use Rattle.ft_merging.proofs.JoinedCalls.{few_rows}
use Rattle.ft_merging.proofs.JoinedRoom.{keys_room}
use Rattle.ft_merging.proofs.JoinedStarts.{here_begins, knows_begun, may_write}
use Rattle.ft_merging.proofs.Parted.{parting_begins}
use Rattle.ft_merging.proofs.PartedHere.{join_fits, join_stays, parts_here}
use Rattle.ft_merging.proofs.parting.part_here.Goals as goal
use Rattle.ft_merging.proofs.parting.part_here.Goals.{After-start_write, After-join_all, After-thin_all}

-- ---- before the write

may : (c : After-start_write) → MayWriteEntries (shape_of c.args.bank.now) c.args.merge.now.o (view c.args.pass.now)
may c = may_write (shape_of c.args.bank.now) c.args.merge.now.o (Some c.args.own) (view c.args.pass.now) c.requires.may

has : (c : After-start_write) → HasTable (shape_of c.args.bank.now) c.args.merge.now.o c.args.own (view c.args.pass.now)
has c = record { table_in = c.requires.may.keyed.table_in c.args.own refl; root = c.requires.may.keyed.root }

is_first : (c : After-start_write) → (known_state c.args.merge.now.o (view c.args.pass.now)).content ≡ content.Set (set_of (known_state c.args.merge.now.o (view c.args.pass.now)).content)
is_first c = is_set (shape_of c.args.bank.now) (view c.args.pass.now) c.args.merge.now.o c.requires.pass.1 c.args.pass.now.possible c.requires.may.keyed.locked c.requires.merge.way

table_is : (c : After-start_write) → (known_state c.args.merge.now.o (view c.args.pass.now)).table ≡ use_with (class_of (table_id c.args.own)) c.args.merge.now.counts.fill
table_is c =
    let a = c.args in
    let same = class_is a.own (c.requires.may.keyed.table_in a.own refl).2 in
    use_known c.words_are_of_one_content.ensures.head (shape_of a.bank.now) a.merge.now.o (Some a.own) (view a.pass.now) a.merge.now.counts c.requires.may.keyed c.requires.merge.counts a.pass.now.possible ∙ (λ i. record { class = Some (sym same i); fill = a.merge.now.counts.fill; keys = [] })

none : (c : After-start_write) → join_takes (known_state c.args.merge.now.o (view c.args.pass.now)) (known_state c.args.merge.now.t (view c.args.pass.now)).content ≡ None
none c =
    let a = c.args in
    let v = view a.pass.now in
    join_stays (known_state a.merge.now.o v) (known_state a.merge.now.t v).content (set_of (known_state a.merge.now.o v).content) (is_first c) c.requires.room

low : (c : After-start_write) → c.args.merge.now.counts.fill ≤ rows kind.Set (class_of (table_id c.args.own))
low c =
    let a = c.args in
    let v = view a.pass.now in
    let f = fill_fits (shape_of a.bank.now) a.merge.now.o a.own false (set_of (known_state a.merge.now.t v).content) v (view c.start_write.new.pass) c.start_write.result c.requires.pass.1 a.pass.now.possible (may c) c.requires.merge.way (has c) c.start_write.ensures.1 c.used_entries_follow_a_set.ensures.first in
    subst (λ (z : TableUse). z.fill ≤ rows kind.Set (class_of (table_id a.own))) (table_is c) f

room : (c : After-start_write) → c.args.merge.now.counts.fill + c.args.merge.now.more ≤ rows kind.Set (class_of (table_id c.args.own))
room c =
    let a = c.args in
    let v = view a.pass.now in
    let d = (known_state a.merge.now.o v).content in
    let same = class_is a.own (c.requires.may.keyed.table_in a.own refl).2 in
    let uses = use_known c.words_are_of_one_content.ensures.head (shape_of a.bank.now) a.merge.now.o (Some a.own) v a.merge.now.counts c.requires.may.keyed c.requires.merge.counts a.pass.now.possible in
    subst (λ (n : ℕ). a.merge.now.counts.fill + a.merge.now.more ≤ rows kind.Set n) (sym same)
    (keys_room d way.Set a.own a.merge.now.counts.fill a.merge.now.more (kind_is (shape_of a.bank.now) v a.merge.now.o c.requires.pass.1 a.pass.now.possible c.requires.may.keyed.locked ∙ c.requires.merge.way) (subst (λ (n : ℕ). a.merge.now.counts.fill ≤ rows kind.Set n) same (low c))
    ((λ i. keys_take d (sym uses i) (c.requires.merge.more i)) ∙ none c))

cap : (c : After-start_write) → passes_cap (joined (known_state c.args.merge.now.o (view c.args.pass.now)).content (known_state c.args.merge.now.t (view c.args.pass.now)).content) ≡ false
cap c =
    let a = c.args in
    let k = shape_of a.bank.now in
    let v = view a.pass.now in
    let x = held_unboxed a.merge.now.o v in
    let class = class_of (table_id a.own) in
    let says = first_says k a.merge.now.o a.own false (set_of (known_state a.merge.now.t v).content) v (view c.start_write.new.pass) c.start_write.result c.requires.pass.1 a.pass.now.possible (may c) c.requires.merge.way (has c) c.start_write.ensures.1 in
    let here = subst (λ (z : TableUse). IsSetWords k.texts x.block (0 ∷ 0 ∷ x.table) (Some class) z.fill (set_of (known_state a.merge.now.o v).content)) (table_is c) says in
    join_fits k.texts x.block (0 ∷ 0 ∷ x.table) class a.merge.now.counts.fill a.merge.now.more (set_of (known_state a.merge.now.o v).content) (known_state a.merge.now.o v).content (known_state a.merge.now.t v).content (table_class k a.own (has c).table_in) here (is_first c) c.requires.merge.more (room c)

pub overflow_add-end : goal.overflow_add-end
overflow_add-end c =
    let a = c.args in
    let d = (goal.at.overflow_add-end c).After-start_write in
    let few = few_rows (shape_of a.bank.now) a.own kind.Set (a.merge.now.counts.fill + a.merge.now.more) (has d).table_in tt (room d) in
    omega (arith, few)

-- ---- the elements of the other one

shape : (c : After-start_write) → (view c.start_write.new.pass).shape ≡ shape_of c.args.bank.now
shape c = ap (λ (z : View). z.shape) c.start_write.ensures.1 ∙ c.requires.pass.1

pub join_all-requires-clause-other : goal.join_all-requires-clause-other
join_all-requires-clause-other c =
    let a = c.args in
    knows_begun (shape_of a.bank.now) a.merge.now.o a.merge.now.t (Some a.merge.now.table) (view a.pass.now) (view c.start_write.new.pass) c.start_write.result c.start_write.ensures.1 c.requires.merge.two c.requires.merge.other

pub join_all-requires-clause-fill : goal.join_all-requires-clause-fill
join_all-requires-clause-fill c = c.requires.merge.others ∙ sym (ap (λ (z : View). (known_state c.args.merge.now.t z).table.fill) c.start_write.ensures.1)

pub join_all-requires-clause-joining : goal.join_all-requires-clause-joining
join_all-requires-clause-joining c =
    let a = c.args in
    let d = (goal.at.join_all-requires-clause-joining c).After-start_write in
    here_begins c.words_are_of_one_content.ensures.head (record { pairs = c.used_entries_follow_a_dict.ensures.first; elements = c.used_entries_follow_a_set.ensures.first }) (shape_of a.bank.now) a.merge.now.o way.Set a.own a.merge.now.t a.merge.now.table a.merge.now.counts a.merge.now.more (view a.pass.now) (view c.start_write.new.pass) c.start_write.result c.requires.pass.1 a.pass.now.possible c.requires.merge.two c.requires.may c.requires.merge.other c.requires.merge.way c.requires.merge.other_way
    c.requires.merge.counts c.requires.merge.more (cap d) c.requires.merge.serials (none d) c.start_write.ensures.1 (shape d) c.start_write.new.pass.possible

-- ---- those that both had

-- what the pass knows is as it was
knows : (c : After-join_all) (p : ℕ) → known_state p (view c.join_all.new.pass) ≡ known_state p (view c.args.pass.now)
knows c p = work_knows (view c.start_write.new.pass) (view c.join_all.new.pass) p c.join_all.ensures.only.work ∙ ap (known_state p) c.start_write.ensures.1

pub thin_all-requires-clause-fill : goal.thin_all-requires-clause-fill
thin_all-requires-clause-fill c = low (goal.at.thin_all-requires-clause-fill c).After-start_write

other_known : (c : After-start_write) → KnowsEntries (shape_of c.args.bank.now) c.args.merge.now.t (view c.args.pass.now)
other_known c =
    let o = c.requires.merge.other in
    record { container = o.container; keyed = o.keyed; locked = o.locked; even = o.even; stands = o.stands }

pub thin_all-requires-clause-other : goal.thin_all-requires-clause-other
thin_all-requires-clause-other c ne =
    let a = c.args in
    let at = goal.at.thin_all-requires-clause-other c in
    let d = at.After-start_write in
    let k = shape_of a.bank.now in
    let u = view c.start_write.new.pass in
    other_stays k a.merge.now.o a.merge.now.t u (view c.join_all.new.pass) (shape d) c.join_all.ensures.only ne (other_begun k a.merge.now.o a.merge.now.t (view a.pass.now) u c.start_write.result c.start_write.ensures.1 ne (other_known d))

-- what the first one has at the end
abbrev to : After-join_all → ContainerState
to c = record { content = content.Set (parted (known_state c.args.merge.now.o (view c.args.pass.now)).content (known_state c.args.merge.now.t (view c.args.pass.now)).content); table = use_with (class_of (table_id c.args.own)) (c.args.merge.now.counts.fill + c.args.merge.now.more) }

abbrev Thinned : (c : After-join_all) → ℕ → View → Type 0
Thinned c place w = IsThinned (shape_of c.args.bank.now) c.args.merge.now.o c.args.own false (set_of (known_state c.args.merge.now.t w).content) (set_of (known_state c.args.merge.now.o w).content) (to c) c.args.merge.now.counts.fill place w

-- before the first one goes
begins : (c : After-join_all) → MayWriteEntries (shape_of c.args.bank.now) c.args.merge.now.o (view c.args.pass.now) → HasTable (shape_of c.args.bank.now) c.args.merge.now.o c.args.own (view c.args.pass.now) → (known_state c.args.merge.now.o (view c.args.pass.now)).table ≡ use_with (class_of (table_id c.args.own)) c.args.merge.now.counts.fill → Thinned c 0 (view c.join_all.new.pass)
begins c m h table =
    let a = c.args in
    let k = shape_of a.bank.now in
    let v = view a.pass.now in
    let u = view c.start_write.new.pass in
    let w = view c.join_all.new.pass in
    let begun = c.start_write.ensures.1 in
    let e = c.join_all.ensures in
    let j = subst (λ (z : ContainerState × ContainerState). IsJoining k a.merge.now.o way.Set a.own a.merge.now.t a.merge.now.table (joined z.0.content z.1.content) (a.merge.now.counts.fill + a.merge.now.more) a.merge.now.others c.join_all.result w) (λ i. (ap (known_state a.merge.now.o) begun i, ap (known_state a.merge.now.t) begun i)) e.joining in
    subst (λ (z : ContainerState × ContainerState). IsThinned k a.merge.now.o a.own false (set_of z.0.content) (set_of z.1.content) (to c) a.merge.now.counts.fill 0 w) (sym (λ i. (knows c a.merge.now.t i, knows c a.merge.now.o i)))
    (parting_begins c.used_entries_follow_a_set.ensures.first k a.merge.now.o a.merge.now.t a.own a.merge.now.table v u w c.start_write.result c.requires.pass.1 a.pass.now.possible m c.requires.merge.way h begun e.only a.merge.now.counts.fill (a.merge.now.counts.fill + a.merge.now.more) a.merge.now.others c.join_all.result (ap (λ (z : TableUse). z.fill) (sym table))
    j (c.requires.merge.others ∙ sym (ap (λ (z : ContainerState). z.table.fill) (knows c a.merge.now.t))) (e.keeps refl))

pub thin_all-requires-clause-thinned : goal.thin_all-requires-clause-thinned
thin_all-requires-clause-thinned c =
    let at = goal.at.thin_all-requires-clause-thinned c in
    let d = at.After-start_write in
    (to at.After-join_all, begins at.After-join_all (may d) (has d) (table_is d))

-- ---- the end

only : (c : After-thin_all) → OnlyWritten c.args.merge.now.o (view c.start_write.new.pass) (view c.thin_all.new.pass)
only c = written_then c.args.merge.now.o (view c.start_write.new.pass) (view c.join_all.new.pass) (view c.thin_all.new.pass) c.join_all.ensures.only c.thin_all.ensures.only

pub finish_entries-requires-clause-fill : goal.finish_entries-requires-clause-fill
finish_entries-requires-clause-fill c =
    let d = (goal.at.finish_entries-requires-clause-fill c).After-start_write in
    subst (λ (z : Kind). c.args.merge.now.counts.fill + c.args.merge.now.more ≤ rows z (class_of (table_id c.args.own))) (sym c.requires.merge.way) (room d)

pub finish_entries-requires-clause-may : goal.finish_entries-requires-clause-may
finish_entries-requires-clause-may c =
    let a = c.args in
    let at = goal.at.finish_entries-requires-clause-may c in
    let d = at.After-start_write in
    let b = at.After-join_all in
    let k = shape_of a.bank.now in
    let v = view a.pass.now in
    let u = view c.start_write.new.pass in
    let w = view c.thin_all.new.pass in
    let laws : Laws = record { pairs = c.used_entries_follow_a_dict.ensures.first; elements = c.used_entries_follow_a_set.ensures.first } in
    let th = subst (λ (z : ContainerState × ContainerState). IsThinned k a.merge.now.o a.own false (set_of z.0.content) (set_of z.1.content) (to b) a.merge.now.counts.fill a.merge.now.counts.fill w) (λ i. (knows b a.merge.now.t i, knows b a.merge.now.o i)) (c.thin_all.ensures.thinned (to b) (begins b (may d) (has d) (table_is d))) in
    thinned_finishes k a.merge.now.o a.own false (set_of (known_state a.merge.now.t v).content) v u c.start_write.result c.requires.pass.1 a.pass.now.possible (may d) c.requires.merge.way (has d) c.start_write.ensures.1
    laws w (only at.After-thin_all) a.merge.now.counts.fill (parted (known_state a.merge.now.o v).content (known_state a.merge.now.t v).content) (use_with (class_of (table_id a.own)) (a.merge.now.counts.fill + a.merge.now.more)) th a.called.now reply.Done
    (parts_here a.merge.now.o a.merge.now.t a.called.now v (class_of (table_id a.own)) a.merge.now.counts.fill a.merge.now.more (set_of (known_state a.merge.now.o v).content) c.requires.parts (is_first d) (table_is d) c.requires.merge.more c.requires.room c.requires.few)

pub returns-clause-wrote : goal.returns-clause-wrote
returns-clause-wrote c =
    let a = c.args in
    let at = goal.at.returns-clause-wrote c in
    let d = at.After-start_write in
    let b = at.After-join_all in
    let th = c.thin_all.ensures.thinned (to b) (begins b (may d) (has d) (table_is d)) in
    whole_write a.merge.now.o (view a.pass.now) (view c.start_write.new.pass) (view c.thin_all.new.pass) c.start_write.result c.start_write.ensures.1 (only at.After-thin_all) a.called.now reply.Done c.finish_entries.result (view c.finish_entries.new.pass) c.requires.parts.changed c.requires.may.keyed.even c.finish_entries.ensures.ends
    (th.midway.writes.root ∙ sym c.requires.may.keyed.root)

pub returns-clause-root : goal.returns-clause-root
returns-clause-root c =
    let a = c.args in
    let at = goal.at.returns-clause-root c in
    let d = at.After-start_write in
    let b = at.After-join_all in
    let th = c.thin_all.ensures.thinned (to b) (begins b (may d) (has d) (table_is d)) in
    whole_root a.merge.now.o (view a.pass.now) (view c.start_write.new.pass) (view c.thin_all.new.pass) c.start_write.result c.start_write.ensures.1 (only at.After-thin_all) a.called.now reply.Done c.finish_entries.result (view c.finish_entries.new.pass) c.requires.parts.changed c.finish_entries.ensures.ends
    (th.midway.writes.root ∙ sym c.requires.may.keyed.root)

pub returns-clause-references : goal.returns-clause-references
returns-clause-references c =
    let a = c.args in
    let v = view a.pass.now in
    let s = view c.start_write.new.pass in
    let j = view c.join_all.new.pass in
    let u = view c.thin_all.new.pass in
    let begun : SameReferences v s = λ b. ap (λ (z : View). references_held z.shape b z.log) c.start_write.ensures.1 in
    refs_then v u (view c.finish_entries.new.pass) (refs_then v j u (refs_then v s j begun c.join_all.ensures.references) c.thin_all.ensures.references) c.finish_entries.ensures.references
