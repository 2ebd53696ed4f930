use Rattle.std.proofs.Common.{◌≡◌, ℕ, Some, ap, ◌∙◌, subst, arith}
use Rattle.std.specs.Prelude.{◌↔◌}
use Rattle.ft_layout.specs.Words.{IsKey}
use Rattle.ft_trace.specs.Addresses.{class_of, slots}
use Rattle.ft_trace.specs.Holds.{held_unboxed}
use Rattle.ft_trace.specs.Pictures.{ContainerWords, entry_field, root_in}
use Rattle.ft_bank.specs.Passes.{shape_of, view}
use Rattle.ft_bank.specs.TableNames.{table_id}
use Rattle.ft_bank.proofs.KnownAfterWrites.{loaded_held, loaded_then}
use Rattle.ft_merging.proofs.Ending.{read_same}
use Rattle.ft_merging.proofs.reading.key_at.Goals as goal

pub word_of-payload-requires-clause-knows : goal.word_of-payload-requires-clause-knows
word_of-payload-requires-clause-knows c =
    let a = c.args in
    let e = c.word_of-kind.ensures in (
      e.only.work.pass.locks a.o ∙ c.requires.knows.0,
      ap root_in (loaded_held (view a.pass.now) (view c.word_of-kind.new.pass) a.o e.only) ∙ c.requires.knows.1,
    )

pub returns-clause-only : goal.returns-clause-only
returns-clause-only c = loaded_then (view c.args.pass.now) (view c.word_of-kind.new.pass) (view c.word_of-payload.new.pass) c.word_of-kind.ensures.only c.word_of-payload.ensures.only

pub returns-clause-key : goal.returns-clause-key
returns-clause-key c key =
    let a = c.args in
    let n = slots (class_of (table_id a.table)) in
    let x = held_unboxed a.o (view a.pass.now) in
    let same = read_same (shape_of a.bank.now) a.o (view a.pass.now) (view c.word_of-kind.new.pass) c.requires.pass.1 c.requires.container c.requires.knows.0 c.word_of-kind.ensures.only in
    let payload : c.word_of-payload.result ≡ entry_field n x.table a.place 3 = c.word_of-payload.ensures.found ∙ ap (λ (y : ContainerWords). entry_field n y.table a.place 3) same in
    subst (λ (z : ℕ × ℕ). IsKey z.0 z.1 key ↔ (c.key_of.result ≡ Some key)) (λ d. (c.word_of-kind.ensures.found d, payload d)) (c.key_of.ensures key)

pub word_of-kind-requires-clause-no_value : goal.word_of-kind-requires-clause-no_value
word_of-kind-requires-clause-no_value c = ((λ e. absurd (omega (arith, e))), (λ e. absurd (omega (arith, e))))

pub word_of-payload-requires-clause-no_value : goal.word_of-payload-requires-clause-no_value
word_of-payload-requires-clause-no_value c = ((λ e. absurd (omega (arith, e))), (λ e. absurd (omega (arith, e))))
