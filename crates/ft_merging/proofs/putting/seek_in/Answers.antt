use Rattle.std.proofs.Common.{sym, subst}
use Rattle.ft_trace.specs.Holds.{held_unboxed}
use Rattle.ft_bank.specs.Passes.{shape_of, view}
use Rattle.ft_search.specs.declared.spots.Spot.{Spot}
use Rattle.ft_search.proofs.LoadedLooks.{looks_did}
use Rattle.ft_merging.specs.Internal.JoiningSteps.{IsSought}
use Rattle.ft_merging.proofs.JoinedSearch.{sought}
use Rattle.ft_merging.proofs.putting.seek_in.Goals as goal

pub read_by-found-requires-clause-knows : goal.read_by-found-requires-clause-knows
read_by-found-requires-clause-knows c = (c.requires.writes.locked, c.requires.writes.root)

pub returns-clause-only : goal.returns-clause-only
returns-clause-only c = let p = c.read_by-found.ensures.looks in looks_did p.0 c.args.pass.now c.read_by-found.new.pass p.1 p.2

pub returns-clause-spot : goal.returns-clause-spot
returns-clause-spot c mid same stands =
    let a = c.args in
    let k = shape_of a.bank.now in
    let x = held_unboxed a.o (view a.pass.now) in
    let r = c.read_by-found.ensures in
    let s = r.searched in
    let w = c.requires.writes in
    subst (λ (z : Spot). IsSought k a.way a.own a.key x mid.content z) (sym c.spot_of.ensures)
    (sought c.used_entries_follow_a_dict.ensures.missing c.used_entries_follow_a_set.ensures.missing c.used_entries_follow_a_dict.ensures.first c.used_entries_follow_a_set.ensures.first c.searches_end_at_the_first_free_slot.ensures k x a.way a.own w.table_in w.root a.key c.requires.fits r.low s.0 mid same stands
    c.read_by-found.result.0 c.read_by-found.result.1 r.within s.2 s.3 s.1)
