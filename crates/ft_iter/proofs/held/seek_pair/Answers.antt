use Rattle.std.proofs.Common.{◌++◌}
use Rattle.ft_bank.specs.Passes.{shape_of, view}
use Rattle.ft_search.proofs.Running.{did_trans, same_trans}
use Rattle.ft_search.proofs.LoadedLooks.{looks_append, looks_did}
use Rattle.ft_iter.proofs.BoxedPairs.{none-after, known-after, given-after}
use Rattle.ft_iter.proofs.held.seek_pair.Goals as goal

pub pair_in-requires-clause-known : goal.pair_in-requires-clause-known
pair_in-requires-clause-known g c =
    let a = c.args.words.now in
    let r = c.requires in
    let l = c.seek_held-found.ensures.looks in
    let q = c.seek_held-found.new.words.pass.now in
    known-after (view a.pass.now) (view q) a.o (shape_of a.bank.now) a.table a.mask c.args.fill c.args.after (looks_did l.0 a.pass.now q l.1 l.2)
    r.can.pass.1 r.can.container r.keyed r.can.table r.can.mask r.knows r.few c.in-Some.entry c.in-Some.ensures.finds q.possible

pub returns-in-Some-clause-same : goal.returns-in-Some-clause-same
returns-in-Some-clause-same g c =
    same_trans c.args.words.now c.seek_held-found.new.words c.pair_in.new.words c.seek_held-found.ensures.same c.pair_in.ensures.same

pub returns-in-Some-clause-looks : goal.returns-in-Some-clause-looks
returns-in-Some-clause-looks g c =
    let l = c.seek_held-found.ensures.looks in
    let m = c.pair_in.ensures.looks in
    (m.0 ++ l.0, looks_append m.0 l.0 m.1 l.1, did_trans m.0 l.0 c.args.words.now.pass.now c.seek_held-found.new.words.pass.now c.pair_in.new.words.pass.now l.2 m.2)

pub returns-in-Some-clause-gives : goal.returns-in-Some-clause-gives
returns-in-Some-clause-gives g c =
    let a = c.args.words.now in
    let r = c.requires in
    let l = c.seek_held-found.ensures.looks in
    let q = c.seek_held-found.new.words.pass.now in
    given-after (view a.pass.now) (view q) a.o (shape_of a.bank.now) a.table a.mask c.args.fill c.args.after (looks_did l.0 a.pass.now q l.1 l.2)
    r.can.pass.1 r.can.container r.keyed r.can.table r.can.mask r.knows r.few c.in-Some.entry c.in-Some.ensures.finds c.pair_in.result c.pair_in.ensures.says

pub returns-in-None-clause-gives : goal.returns-in-None-clause-gives
returns-in-None-clause-gives g c =
    let a = c.args.words.now in
    let r = c.requires in
    let l = c.seek_held-found.ensures.looks in
    let q = c.seek_held-found.new.words.pass.now in
    none-after (view a.pass.now) (view q) a.o (shape_of a.bank.now) a.table a.mask c.args.fill c.args.after (looks_did l.0 a.pass.now q l.1 l.2)
    r.can.pass.1 r.can.container r.keyed r.can.table r.can.mask r.knows c.in-None.ensures.finds
