use Rattle.ft_layout.specs.declared.slot.Stored.TheVariants.{Plain}
use Rattle.ft_layout.specs.Words.{stored_kind, stored_payload}
use Rattle.ft_trace.proofs.ValuePlaces.{plain_kind}
use Rattle.ft_bank.specs.Passes.{shape_of, view}
use Rattle.ft_search.proofs.Overs.{plain_refs}
use Rattle.ft_search.proofs.Unboxing.{reads_plain}
use Rattle.ft_search.proofs.valuing.put_value.Goals as goal

pub put_stored-requires-clause-own : goal.put_stored-requires-clause-own
put_stored-requires-clause-own c four = absurd (plain_kind c.args.value four)

pub put_stored-requires-clause-may : goal.put_stored-requires-clause-may
put_stored-requires-clause-may c = (c.args.value, c.requires.may)

pub returns-clause-references : goal.returns-clause-references
returns-clause-references c =
    let stored = Plain c.args.value in
    plain_refs (shape_of c.args.bank.now) (view c.args.pass.now) (view c.put_stored.new.pass) (stored_kind stored) (stored_payload stored) c.requires.pass.1 c.put_stored.ensures.pass.1 (plain_kind c.args.value) c.put_stored.ensures.references

pub returns-clause-words : goal.returns-clause-words
returns-clause-words c =
    let stored = Plain c.args.value in
    let r = reads_plain (view c.args.pass.now) (stored_kind stored) (stored_payload stored) (plain_kind c.args.value) in
    c.put_stored.ensures.words c.args.value r.0 r.1
