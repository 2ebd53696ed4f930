use Rattle.std.proofs.Common.{sym, ap, ◌∙◌}
use Rattle.ft_model.specs.Contents.{has_element}
use Rattle.ft_model.specs.Worlds.{set_of}
use Rattle.ft_trace.specs.ContainerStates.{ContainerState}
use Rattle.ft_bank.specs.Passes.{shape_of, view}
use Rattle.ft_bank.proofs.KnownAfterWrites.{work_knows}
use Rattle.ft_search.proofs.Calling.{loaded_same}
use Rattle.ft_merging.proofs.ThinningEnds.{found_there, missing_there}
use Rattle.ft_merging.proofs.thinning.is_in.Goals as goal

pub returns-then-s-t-clause-only : goal.returns-then-s-t-clause-only
returns-then-s-t-clause-only c = loaded_same (view c.args.pass.now)

pub returns-then-s-t-clause-found : goal.returns-then-s-t-clause-found
returns-then-s-t-clause-found c = sym (c.requires.own c.if-s-t.true)

pub seek_by-requires-clause-knows : goal.seek_by-requires-clause-knows
seek_by-requires-clause-knows c = c.requires.other c.if-s-t.false

pub returns-in-At-clause-found : goal.returns-in-At-clause-found
returns-in-At-clause-found c =
    let a = c.args in
    let e = c.seek_by.ensures in
    let s = c.in-At.ensures.spot in
    sym (ap (λ (z : ContainerState). has_element (set_of z.content).elements a.key) (sym (work_knows (view a.pass.now) (view c.seek_by.new.pass) a.t e.keeps.work))
    ∙ found_there (shape_of a.bank.now) (view c.seek_by.new.pass) a.t _ a.key _ _ e.pass.1 c.seek_by.new.pass.possible e.knows s.0 c.requires.set c.requires.fits s.2)

pub returns-in-Free-clause-found : goal.returns-in-Free-clause-found
returns-in-Free-clause-found c =
    let a = c.args in
    let e = c.seek_by.ensures in
    sym (ap (λ (z : ContainerState). has_element (set_of z.content).elements a.key) (sym (work_knows (view a.pass.now) (view c.seek_by.new.pass) a.t e.keeps.work))
    ∙ missing_there (shape_of a.bank.now) (view c.seek_by.new.pass) a.t a.key e.pass.1 c.seek_by.new.pass.possible e.knows c.requires.set c.in-Free.ensures.spot.3)

pub returns-in-Bare-clause-found : goal.returns-in-Bare-clause-found
returns-in-Bare-clause-found c =
    let a = c.args in
    let e = c.seek_by.ensures in
    sym (ap (λ (z : ContainerState). has_element (set_of z.content).elements a.key) (sym (work_knows (view a.pass.now) (view c.seek_by.new.pass) a.t e.keeps.work))
    ∙ missing_there (shape_of a.bank.now) (view c.seek_by.new.pass) a.t a.key e.pass.1 c.seek_by.new.pass.possible e.knows c.requires.set c.in-Bare.ensures.spot.1)
