use Rattle.std.proofs.Common.{◌≡◌, ◌≤◌, ℕ, sym, ap, ◌∙◌, subst, arith}
use Rattle.ft_model.specs.declared.script.Kind.{Kind}
use Rattle.ft_model.specs.Classes.{set_entries}
use Rattle.ft_trace.specs.declared.View.{View}
use Rattle.ft_trace.specs.Addresses.{class_of}
use Rattle.ft_trace.specs.Boxes.{references_held}
use Rattle.ft_trace.specs.Kinds.{rows}
use Rattle.ft_bank.specs.SameBoxes.{SameReferences}
use Rattle.ft_bank.specs.TableNames.{table_id}
use Rattle.ft_model.specs.declared.reply.Reply.TheVariants as reply
use Rattle.ft_model.specs.Worlds.{set_of}
use Rattle.ft_trace.specs.Holds.{known_state}
use Rattle.ft_trace.specs.ContainerStates.{ContainerState}
use Rattle.ft_bank.specs.Passes.{shape_of, view}
use Rattle.ft_search.proofs.Spotting.{may_knows}
use Rattle.ft_search.proofs.ReadyCommits.{whole_root, whole_write}
use Rattle.ft_new_keys.proofs.Placed.{refs_then}
use Rattle.ft_merging.specs.Thinning.{thinned, thinned_state}
use Rattle.ft_merging.specs.Internal.ThinningSteps.{IsThinned}
use Rattle.ft_merging.specs.Internal.EntriesAtOnce.{MayFinishAll}
use Rattle.ft_merging.proofs.Ending.{Laws}
use Rattle.ft_merging.proofs.ThinningEnds.{fill_fits, other_begun, thinned_begins, thinned_finishes}
use Rattle.ft_merging.proofs.thinning.thin_table.Goals as goal
use Rattle.ft_merging.proofs.thinning.thin_table.Goals.{After-start_write}

laws : (c : After-start_write) → Laws
laws c = record { pairs = c.used_entries_follow_a_dict.ensures.first; elements = c.used_entries_follow_a_set.ensures.first }

-- what the pass knows is as it was
knows : (c : After-start_write) → (p : ℕ) → known_state p (view c.start_write.new.pass) ≡ known_state p (view c.args.pass.now)
knows c p = ap (known_state p) c.start_write.ensures.1

pub thin_all-requires-clause-other : goal.thin_all-requires-clause-other
thin_all-requires-clause-other c ne =
    let a = c.args in
    other_begun (shape_of a.bank.now) a.s a.t (view a.pass.now) (view c.start_write.new.pass) c.start_write.result c.start_write.ensures.1 ne (may_knows (shape_of a.bank.now) a.t (view a.pass.now) c.requires.other)

-- before the first deletion, as the words are that the pass knows then
begins : (c : After-start_write) → IsThinned (shape_of c.args.bank.now) c.args.s c.args.table c.args.kept (set_of (known_state c.args.t (view c.start_write.new.pass)).content) (set_of (known_state c.args.s (view c.start_write.new.pass)).content) (thinned_state c.args.kept (known_state c.args.t (view c.args.pass.now)) (known_state c.args.s (view c.args.pass.now))) c.args.fill 0 (view c.start_write.new.pass)
begins c =
    let a = c.args in
    let v = view a.pass.now in
    let u = view c.start_write.new.pass in
    subst (λ (z : ContainerState × ContainerState × ℕ). IsThinned (shape_of a.bank.now) a.s a.table a.kept (set_of z.0.content) (set_of z.1.content) (thinned_state a.kept (known_state a.t v) (known_state a.s v)) z.2 0 u) (sym (λ i. (knows c a.t i, knows c a.s i, c.requires.fill i)))
    (thinned_begins (shape_of a.bank.now) a.s a.table a.kept (set_of (known_state a.t v).content) v u c.start_write.result c.requires.pass.1 a.pass.now.possible c.requires.may c.requires.set c.requires.table c.start_write.ensures.1 (laws c).elements)

pub thin_all-requires-clause-thinned : goal.thin_all-requires-clause-thinned
thin_all-requires-clause-thinned c =
    let a = c.args in
    let v = view a.pass.now in
    (thinned_state a.kept (known_state a.t v) (known_state a.s v), begins (goal.at.thin_all-requires-clause-thinned c).After-start_write)

pub finish_entries-requires-clause-may : goal.finish_entries-requires-clause-may
finish_entries-requires-clause-may c =
    let a = c.args in
    let d = (goal.at.finish_entries-requires-clause-may c).After-start_write in
    let k = shape_of a.bank.now in
    let v = view a.pass.now in
    let u = view c.start_write.new.pass in
    let w = view c.thin_all.new.pass in
    let to = thinned_state a.kept (known_state a.t v) (known_state a.s v) in
    let ends = subst (λ (z : ContainerState × ContainerState). IsThinned k a.s a.table a.kept (set_of z.0.content) (set_of z.1.content) to a.fill a.fill w) (λ i. (knows d a.t i, knows d a.s i)) (c.thin_all.ensures.thinned to (begins d)) in
    subst (λ (n : ℕ). MayFinishAll k a.s a.table n a.called.now reply.Done w) (sym c.requires.fill)
    (thinned_finishes k a.s a.table a.kept (set_of (known_state a.t v).content) v u c.start_write.result c.requires.pass.1 a.pass.now.possible c.requires.may c.requires.set c.requires.table c.start_write.ensures.1
    (laws d) w c.thin_all.ensures.only a.fill (thinned a.kept (set_of (known_state a.t v).content) (set_of (known_state a.s v).content)) (known_state a.s v).table ends a.called.now reply.Done c.requires.leaves)

pub returns-clause-wrote : goal.returns-clause-wrote
returns-clause-wrote c =
    let a = c.args in
    whole_write a.s (view a.pass.now) (view c.start_write.new.pass) (view c.thin_all.new.pass) c.start_write.result c.start_write.ensures.1 c.thin_all.ensures.only a.called.now reply.Done c.finish_entries.result (view c.finish_entries.new.pass) c.requires.leaves.changed (c.requires.may.even a.s) c.finish_entries.ensures.ends
    ((c.thin_all.ensures.thinned (thinned_state a.kept (known_state a.t (view a.pass.now)) (known_state a.s (view a.pass.now))) (begins (goal.at.returns-clause-wrote c).After-start_write)).midway.writes.root ∙ sym c.requires.table.root)

pub returns-clause-references : goal.returns-clause-references
returns-clause-references c =
    let a = c.args in
    let v = view a.pass.now in
    let s = view c.start_write.new.pass in
    let u = view c.thin_all.new.pass in
    let begun : SameReferences v s = λ b. ap (λ (z : View). references_held z.shape b z.log) c.start_write.ensures.1 in
    refs_then v u (view c.finish_entries.new.pass) (refs_then v s u begun c.thin_all.ensures.references) c.finish_entries.ensures.references

pub returns-clause-root : goal.returns-clause-root
returns-clause-root c =
    let a = c.args in
    whole_root a.s (view a.pass.now) (view c.start_write.new.pass) (view c.thin_all.new.pass) c.start_write.result c.start_write.ensures.1 c.thin_all.ensures.only a.called.now reply.Done c.finish_entries.result (view c.finish_entries.new.pass) c.requires.leaves.changed c.finish_entries.ensures.ends
    ((c.thin_all.ensures.thinned (thinned_state a.kept (known_state a.t (view a.pass.now)) (known_state a.s (view a.pass.now))) (begins (goal.at.returns-clause-root c).After-start_write)).midway.writes.root ∙ sym c.requires.table.root)

fits : (c : After-start_write) → c.args.fill ≤ set_entries (class_of (table_id c.args.table))
fits c =
    let a = c.args in
    let f = fill_fits (shape_of a.bank.now) a.s a.table a.kept (set_of (known_state a.t (view a.pass.now)).content) (view a.pass.now) (view c.start_write.new.pass) c.start_write.result c.requires.pass.1 a.pass.now.possible c.requires.may c.requires.set c.requires.table c.start_write.ensures.1 (laws c).elements in
    let e = c.requires.fill in
    omega (arith, f, e)

pub thin_all-requires-clause-fill : goal.thin_all-requires-clause-fill
thin_all-requires-clause-fill c = fits (goal.at.thin_all-requires-clause-fill c).After-start_write

pub finish_entries-requires-clause-fill : goal.finish_entries-requires-clause-fill
finish_entries-requires-clause-fill c =
    let d = (goal.at.finish_entries-requires-clause-fill c).After-start_write in
    subst (λ (z : Kind). c.args.fill ≤ rows z (class_of (table_id c.args.table))) (sym c.requires.set) (fits d)
