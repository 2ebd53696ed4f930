use Rattle.std.proofs.Common.{◌≡◌, ℕ, refl, sym, ap, ◌∙◌, subst}
use Rattle.std.specs.Prelude.{slice_index}
use Rattle.ft_model.specs.declared.reply.Reply.TheVariants as reply
use Rattle.ft_trace.specs.declared.Act.TheVariants.{ReadBlock}
use Rattle.ft_trace.specs.Holds.{held_unboxed, known_state}
use Rattle.ft_trace.specs.Pictures.{ContainerWords, root_in}
use Rattle.ft_trace.specs.ContainerStates.{ContainerState}
use Rattle.ft_bank.specs.Passes.{shape_of, view}
use Rattle.ft_bank.specs.Whole.{OnlyLoaded}
use Rattle.ft_bank.proofs.KnownAfterWrites.{loaded_by, loaded_held, loaded_then, work_knows}
use Rattle.ft_search.specs.OneEntryWrites.{Leaves, MayWriteEntries}
use Rattle.ft_search.proofs.Calling.{loaded_wrote}
use Rattle.ft_search.proofs.Spotting.{may_loaded}
use Rattle.ft_merging.specs.Thinning.{thinned_state}
use Rattle.ft_merging.proofs.Ending.{read_same}
use Rattle.ft_merging.proofs.ThinningEnds.{fill_known, leaves_loaded, none_thinned}
use Rattle.ft_merging.proofs.thinning.thin_by.Goals as goal
use Rattle.ft_merging.proofs.thinning.thin_by.Goals.{After-read_block-fill}

first : (c : After-read_block-fill) → OnlyLoaded (view c.args.pass.now) (view c.read_block-root.new.pass)
first c = loaded_by (ReadBlock c.args.s 0 c.read_block-root.result) (view c.args.pass.now) (view c.read_block-root.new.pass) tt c.read_block-root.ensures.did.1

only : (c : After-read_block-fill) → OnlyLoaded (view c.args.pass.now) (view c.read_block-fill.new.pass)
only c =
    loaded_then (view c.args.pass.now) (view c.read_block-root.new.pass) (view c.read_block-fill.new.pass) (first c)
    (loaded_by (ReadBlock c.args.s 2 c.read_block-fill.result) (view c.read_block-root.new.pass) (view c.read_block-fill.new.pass) tt c.read_block-fill.ensures.did.1)

may : (c : After-read_block-fill) → MayWriteEntries (shape_of c.args.bank.now) c.args.s (view c.read_block-fill.new.pass)
may c = may_loaded (shape_of c.args.bank.now) c.args.s (view c.args.pass.now) (view c.read_block-fill.new.pass) c.requires.pass.1 (only c) c.requires.may

knows : (c : After-read_block-fill) (p : ℕ) → known_state p (view c.read_block-fill.new.pass) ≡ known_state p (view c.args.pass.now)
knows c p = work_knows (view c.args.pass.now) (view c.read_block-fill.new.pass) p (only c).work

same : (c : After-read_block-fill) → held_unboxed c.args.s (view c.read_block-fill.new.pass) ≡ held_unboxed c.args.s (view c.args.pass.now)
same c = read_same (shape_of c.args.bank.now) c.args.s (view c.args.pass.now) (view c.read_block-fill.new.pass) c.requires.pass.1 c.requires.may.container c.requires.may.locked (only c)

leaves : (c : After-read_block-fill) → Leaves c.args.s c.args.called.now reply.Done (thinned_state c.args.kept (known_state c.args.t (view c.args.pass.now)) (known_state c.args.s (view c.args.pass.now))) (view c.read_block-fill.new.pass)
leaves c = leaves_loaded (view c.args.pass.now) (view c.read_block-fill.new.pass) (only c) c.args.s c.args.called.now reply.Done (thinned_state c.args.kept (known_state c.args.t (view c.args.pass.now)) (known_state c.args.s (view c.args.pass.now))) c.requires.leaves

filled : (c : After-read_block-fill) → c.read_block-fill.result ≡ (known_state c.args.s (view c.read_block-fill.new.pass)).table.fill
filled c =
    let v = view c.args.pass.now in
    let u = view c.read_block-root.new.pass in
    let s = c.args.s in
    c.read_block-fill.ensures.held ((first c).work.pass.locks s ∙ c.requires.may.locked)
    ∙ (ap (λ (x : ContainerWords). slice_index x.block 2) (loaded_held v u s (first c))
    ∙ (fill_known (shape_of c.args.bank.now) s v c.requires.may ∙ ap (λ (z : ContainerState). z.table.fill) (sym (knows c s))))

root_is : (c : After-read_block-fill) → c.read_block-root.result ≡ root_in (held_unboxed c.args.s (view c.args.pass.now))
root_is c = c.read_block-root.ensures.held c.requires.may.locked

leaves_now : (c : After-read_block-fill) → Leaves c.args.s c.args.called.now reply.Done (thinned_state c.args.kept (known_state c.args.t (view c.read_block-fill.new.pass)) (known_state c.args.s (view c.read_block-fill.new.pass))) (view c.read_block-fill.new.pass)
leaves_now c = subst (λ (z : ContainerState × ContainerState). Leaves c.args.s c.args.called.now reply.Done (thinned_state c.args.kept z.0 z.1) (view c.read_block-fill.new.pass)) (sym (λ i. (knows c c.args.t i, knows c c.args.s i))) (leaves c)

-- ---- where there is a table

pub thin_table-requires-clause-may : goal.thin_table-requires-clause-may
thin_table-requires-clause-may c = may (goal.at.thin_table-requires-clause-may c).After-read_block-fill

pub thin_table-requires-clause-other : goal.thin_table-requires-clause-other
thin_table-requires-clause-other c =
    let a = c.args in
    may_loaded (shape_of a.bank.now) a.t (view a.pass.now) (view c.read_block-fill.new.pass) c.requires.pass.1 (only (goal.at.thin_table-requires-clause-other c).After-read_block-fill) c.requires.other

pub thin_table-requires-clause-table : goal.thin_table-requires-clause-table
thin_table-requires-clause-table c =
    let d = (goal.at.thin_table-requires-clause-table c).After-read_block-fill in
    record {
      table_in = c.in-Some.ensures.in_bank (shape_of c.args.bank.now) (λ t e. c.read_block-root.ensures.table t refl e);
      root = ap root_in (same d) ∙ (sym (root_is d) ∙ c.in-Some.ensures.named);
    }

pub thin_table-requires-clause-fill : goal.thin_table-requires-clause-fill
thin_table-requires-clause-fill c = filled (goal.at.thin_table-requires-clause-fill c).After-read_block-fill

pub thin_table-requires-clause-leaves : goal.thin_table-requires-clause-leaves
thin_table-requires-clause-leaves c = leaves_now (goal.at.thin_table-requires-clause-leaves c).After-read_block-fill

pub returns-in-Some-clause-wrote : goal.returns-in-Some-clause-wrote
returns-in-Some-clause-wrote c =
    let a = c.args in
    loaded_wrote (view a.pass.now) (view c.read_block-fill.new.pass) (only (goal.at.returns-in-Some-clause-wrote c).After-read_block-fill) a.called.now reply.Done c.thin_table.result (view c.thin_table.new.pass) c.thin_table.ensures.wrote

pub returns-in-Some-clause-references : goal.returns-in-Some-clause-references
returns-in-Some-clause-references c b =
    c.thin_table.ensures.references b ∙ (only (goal.at.returns-in-Some-clause-references c).After-read_block-fill).boxes.references b

pub returns-in-Some-clause-root : goal.returns-in-Some-clause-root
returns-in-Some-clause-root c = c.thin_table.ensures.root ∙ ap root_in (same (goal.at.returns-in-Some-clause-root c).After-read_block-fill)

-- ---- where there is none

pub write_nothing-requires-clause-may : goal.write_nothing-requires-clause-may
write_nothing-requires-clause-may c = may (goal.at.write_nothing-requires-clause-may c).After-read_block-fill

pub write_nothing-requires-clause-leaves : goal.write_nothing-requires-clause-leaves
write_nothing-requires-clause-leaves c =
    let a = c.args in
    let d = (goal.at.write_nothing-requires-clause-leaves c).After-read_block-fill in
    let u = view c.read_block-fill.new.pass in
    let bare : root_in (held_unboxed a.s u) ≡ 0 = ap root_in (same d) ∙ (sym (root_is d) ∙ c.in-None.ensures.none (shape_of a.bank.now) (λ t e. c.read_block-root.ensures.table t refl e)) in
    subst (λ (z : ContainerState). Leaves a.s a.called.now reply.Done z u) (none_thinned (shape_of a.bank.now) u a.s a.kept (known_state a.t u) ((only d).work.pass.shape ∙ c.requires.pass.1) c.read_block-fill.new.pass.possible (may d) c.requires.set bare) (leaves_now d)

pub returns-in-None-clause-wrote : goal.returns-in-None-clause-wrote
returns-in-None-clause-wrote c =
    let a = c.args in
    loaded_wrote (view a.pass.now) (view c.read_block-fill.new.pass) (only (goal.at.returns-in-None-clause-wrote c).After-read_block-fill) a.called.now reply.Done c.write_nothing.result (view c.write_nothing.new.pass) c.write_nothing.ensures.wrote

pub returns-in-None-clause-references : goal.returns-in-None-clause-references
returns-in-None-clause-references c b =
    c.write_nothing.ensures.references b ∙ (only (goal.at.returns-in-None-clause-references c).After-read_block-fill).boxes.references b

pub returns-in-None-clause-root : goal.returns-in-None-clause-root
returns-in-None-clause-root c = c.write_nothing.ensures.root ∙ ap root_in (same (goal.at.returns-in-None-clause-root c).After-read_block-fill)
