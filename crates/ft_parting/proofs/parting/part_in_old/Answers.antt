use Rattle.std.proofs.Common.{ℕ, Bool, Option, None, sym, ◌∙◌, subst}
use Rattle.ft_model.specs.declared.reply.Reply.TheVariants as reply
use Rattle.ft_model.specs.Worlds.{set_of}
use Rattle.ft_keys.specs.declared.walk.Way.TheVariants as way
use Rattle.ft_trace.specs.Holds.{known_state}
use Rattle.ft_bank.specs.declared.table.Table.{Table}
use Rattle.ft_bank.specs.Passes.{shape_of, view}
use Rattle.ft_table_calls.specs.Adding.{IsAdded}
use Rattle.ft_search.proofs.Changing.{kind_is}
use Rattle.ft_new_keys.specs.KeyGrowth.{MayAddKey, keys_take}
use Rattle.ft_new_keys.proofs.Keyed.{use_known}
use Rattle.ft_merging.specs.Joining.{new_keys}
use Rattle.ft_merging.proofs.ThinningEnds.{is_set}
use Rattle.ft_merging.proofs.JoinedCalls.{made_here}
use Rattle.ft_merging.proofs.JoinedRoom.{bare_none}
use Rattle.ft_merging.proofs.JoinedStarts.{may_write}
use Rattle.ft_merging.proofs.PartedHere.{join_stays}
use Rattle.ft_parting.proofs.parting.part_in_old.Goals as goal

pub part_here-requires-clause-may : goal.part_here-requires-clause-may
part_here-requires-clause-may c = subst (λ (z : Option Table). MayAddKey (shape_of c.args.bank.now) c.args.merge.now.o z (view c.args.pass.now)) c.in-Some.is c.requires.may

pub returns-in-Some-clause-added : goal.returns-in-Some-clause-added
returns-in-Some-clause-added c =
    let a = c.args in
    let n = c.part_here.ensures in
    made_here (shape_of a.bank.now) a.merge.now.o a.called.now (view a.pass.now) (view c.part_here.new.pass) c.written.result c.part_here.result c.written.ensures c.requires.parts.changed n.wrote n.references n.root

-- ---- without a table none is new

pub part_thin-requires-clause-may : goal.part_thin-requires-clause-may
part_thin-requires-clause-may c = may_write (shape_of c.args.bank.now) c.args.merge.now.o c.args.old (view c.args.pass.now) c.requires.may

pub part_thin-requires-clause-other : goal.part_thin-requires-clause-other
part_thin-requires-clause-other c =
    let o = c.requires.merge.other in
    let m = c.requires.may in
    record { container = o.container; keyed = o.keyed; locked = o.locked; even = m.even; stands = o.stands; owes = m.owes; boxes = m.boxes; left = m.left }

pub part_thin-requires-clause-none : goal.part_thin-requires-clause-none
part_thin-requires-clause-none c =
    let a = c.args in
    let k = shape_of a.bank.now in
    let v = view a.pass.now in
    let d = (known_state a.merge.now.o v).content in
    let e = (known_state a.merge.now.t v).content in
    let may = subst (λ (z : Option Table). MayAddKey k a.merge.now.o z v) c.in-None.is c.requires.may in
    let kinds = kind_is k v a.merge.now.o c.requires.pass.1 a.pass.now.possible may.keyed.locked ∙ c.requires.merge.way in
    let table = use_known c.words_are_of_one_content.ensures.head k a.merge.now.o None v a.merge.now.counts may.keyed c.requires.merge.counts a.pass.now.possible in
    let joins = join_stays (known_state a.merge.now.o v) e (set_of d) (is_set k v a.merge.now.o c.requires.pass.1 a.pass.now.possible may.keyed.locked c.requires.merge.way) c.requires.room in
    bare_none d way.Set a.merge.now.counts.fill (new_keys d e) kinds ((λ i. keys_take d (sym table i) (new_keys d e)) ∙ joins)

pub returns-in-None-clause-added : goal.returns-in-None-clause-added
returns-in-None-clause-added c =
    let a = c.args in
    subst (λ (z : Option ℕ × Bool). IsAdded (shape_of a.bank.now) z.0 z.1 a.called.now reply.Done (view a.pass.now) (view c.part_thin.new.pass) c.part_thin.result) (λ i. (c.requires.room i, c.requires.few i)) c.part_thin.ensures.added
