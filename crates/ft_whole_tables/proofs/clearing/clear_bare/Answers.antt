use Rattle.std.proofs.Common.{subst, sym}
use Rattle.ft_trace.specs.Kinds.{IsKeyed}
use Rattle.ft_trace.specs.Holds.{held_unboxed, known_state}
use Rattle.ft_trace.specs.ContainerStates.{ContainerState}
use Rattle.ft_model.specs.declared.reply.Reply.TheVariants as reply
use Rattle.ft_bank.specs.Passes.{shape_of, view}
use Rattle.ft_search.specs.OneEntryWrites.{Leaves}
use Rattle.ft_search.proofs.Changing.{kind_is, no_keys}
use Rattle.ft_whole_tables.proofs.Emptied.{bare_stays}
use Rattle.ft_whole_tables.proofs.clearing.clear_bare.Goals as goal

pub write_nothing-requires-clause-leaves : goal.write_nothing-requires-clause-leaves
write_nothing-requires-clause-leaves c =
    let a = c.args in
    let k = shape_of a.bank.now in
    let v = view a.pass.now in
    subst (λ (z : ContainerState). Leaves a.o a.called.now reply.Done z v)
    (bare_stays k.texts (held_unboxed a.o v) (known_state a.o v) (no_keys v a.o a.pass.now.possible c.requires.may.locked) (subst IsKeyed (sym (kind_is k v a.o c.requires.pass.1 a.pass.now.possible c.requires.may.locked)) c.requires.may.keyed) c.requires.may.stands c.requires.bare)
    c.requires.leaves
