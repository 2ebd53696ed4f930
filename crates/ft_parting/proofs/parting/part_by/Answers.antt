use Rattle.std.proofs.Common.{ℕ, None, Option, sym, ap, ◌∙◌, subst}
use Rattle.ft_trace.specs.Holds.{known_state}
use Rattle.ft_bank.specs.declared.table.Table.{Table}
use Rattle.ft_bank.specs.Passes.{shape_of, view}
use Rattle.ft_bank.proofs.KnownAfterWrites.{work_knows}
use Rattle.ft_search.specs.OneEntryWrites.{MayWriteEntries}
use Rattle.ft_search.proofs.Calling.{loaded_same}
use Rattle.ft_search.proofs.Changing.{kind_is}
use Rattle.ft_search.proofs.Spotting.{may_loaded}
use Rattle.ft_new_keys.specs.KeyGrowth.{KnowsKeyed}
use Rattle.ft_new_keys.proofs.Taken.{has_loaded}
use Rattle.ft_merging.proofs.Ending.{read_same}
use Rattle.ft_merging.specs.Joining.{joined}
use Rattle.ft_merging.specs.Parting.{PartsSets}
use Rattle.ft_merging.proofs.JoinedSame.{known_bare, known_itself, none_joined}
use Rattle.ft_parting.proofs.PartedSets.{none_drawn, parts_by, parts_later, parts_then}
use Rattle.ft_parting.proofs.parting.part_by.Goals as goal
use Rattle.ft_parting.proofs.parting.part_by.Goals.{After-own_table}

-- ---- a set that is named twice

pub part_thin-requires-clause-none : goal.part_thin-requires-clause-none
part_thin-requires-clause-none c =
    let a = c.args in
    let v = view a.pass.now in
    let d = (known_state a.s v).content in
    none_drawn d (known_state a.t v).content (ap (λ (p : ℕ). joined d (known_state p v).content) (sym c.if-s-t.true)
    ∙ known_itself (shape_of a.bank.now) a.s v c.requires.pass.1 a.pass.now.possible c.requires.may.keyed c.requires.may.locked c.requires.may.stands)

pub returns-then-s-t-clause-added : goal.returns-then-s-t-clause-added
returns-then-s-t-clause-added c = let v = view c.args.pass.now in (v, loaded_same v, c.part_thin.ensures.added)

-- ---- after the load of the root

parts : (c : After-own_table) → PartsSets c.args.s c.args.t c.args.called.now (view c.own_table.new.pass)
parts c =
    let a = c.args in
    let v = view a.pass.now in
    let u = view c.own_table.new.pass in
    let l = c.own_table.ensures.only in
    parts_later a.s a.t a.called.now v u (has_loaded (shape_of a.bank.now) a.s None v u l (read_same (shape_of a.bank.now) a.s v u c.requires.pass.1 c.requires.may.container c.requires.may.locked l)) l.work.pass.locks (work_knows v u a.s l.work) (work_knows v u a.t l.work) c.requires.parts

may : (c : After-own_table) → MayWriteEntries (shape_of c.args.bank.now) c.args.s (view c.own_table.new.pass)
may c = may_loaded (shape_of c.args.bank.now) c.args.s (view c.args.pass.now) (view c.own_table.new.pass) c.requires.pass.1 c.own_table.ensures.only c.requires.may

other : (c : After-own_table) → MayWriteEntries (shape_of c.args.bank.now) c.args.t (view c.own_table.new.pass)
other c = may_loaded (shape_of c.args.bank.now) c.args.t (view c.args.pass.now) (view c.own_table.new.pass) c.requires.pass.1 c.own_table.ensures.only c.requires.other

pub part_from-requires-clause-may : goal.part_from-requires-clause-may
part_from-requires-clause-may c = may (goal.at.part_from-requires-clause-may c).After-own_table

pub part_from-requires-clause-other_may : goal.part_from-requires-clause-other_may
part_from-requires-clause-other_may c = other (goal.at.part_from-requires-clause-other_may c).After-own_table

pub part_from-requires-clause-other : goal.part_from-requires-clause-other
part_from-requires-clause-other c = subst (λ (z : Option Table). KnowsKeyed (shape_of c.args.bank.now) c.args.t z (view c.own_table.new.pass)) c.in-Some.is c.own_table.ensures.knows

pub part_from-requires-clause-parts : goal.part_from-requires-clause-parts
part_from-requires-clause-parts c = parts (goal.at.part_from-requires-clause-parts c).After-own_table

pub returns-in-Some-clause-added : goal.returns-in-Some-clause-added
returns-in-Some-clause-added c =
    let a = c.args in
    parts_then (shape_of a.bank.now) a.s a.t a.called.now (view a.pass.now) (view c.own_table.new.pass) (view c.part_from.new.pass) c.part_from.result c.own_table.ensures.only c.part_from.ensures.added

-- ---- another one without a table

pub part_thin-requires-in-None-clause-may : goal.part_thin-requires-in-None-clause-may
part_thin-requires-in-None-clause-may c = may (goal.at.part_thin-requires-in-None-clause-may c).After-own_table

pub part_thin-requires-in-None-clause-other : goal.part_thin-requires-in-None-clause-other
part_thin-requires-in-None-clause-other c = other (goal.at.part_thin-requires-in-None-clause-other c).After-own_table

pub part_thin-requires-in-None-clause-parts : goal.part_thin-requires-in-None-clause-parts
part_thin-requires-in-None-clause-parts c = parts (goal.at.part_thin-requires-in-None-clause-parts c).After-own_table

pub part_thin-requires-in-None-clause-none : goal.part_thin-requires-in-None-clause-none
part_thin-requires-in-None-clause-none c =
    let a = c.args in
    let k = shape_of a.bank.now in
    let u = view c.own_table.new.pass in
    let e = c.own_table.ensures in
    let bare = subst (λ (z : Option Table). KnowsKeyed k a.t z u) c.in-None.is e.knows in
    let d = (known_state a.s u).content in
    none_drawn d (known_state a.t u).content
    (none_joined d (known_state a.t u).content
    (kind_is k u a.t e.pass.1 c.own_table.new.pass.possible bare.locked ∙ (c.requires.other_set ∙ sym (kind_is k u a.s e.pass.1 c.own_table.new.pass.possible (e.only.work.pass.locks a.s ∙ c.requires.may.locked) ∙ c.requires.set)))
    (known_bare k a.t u e.pass.1 c.own_table.new.pass.possible bare.keyed bare.locked bare.stands bare.root))

pub returns-in-None-clause-added : goal.returns-in-None-clause-added
returns-in-None-clause-added c =
    let a = c.args in
    parts_by (shape_of a.bank.now) a.s a.t a.called.now (view a.pass.now) (view c.own_table.new.pass) (view c.part_thin-in-None.new.pass) c.part_thin-in-None.result c.own_table.ensures.only c.part_thin-in-None.ensures.added
