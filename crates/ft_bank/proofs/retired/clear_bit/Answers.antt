use Rattle.std.proofs.Common.{ℕ, refl, sym, ap, ◌∙◌}
use Rattle.std.specs.Prelude.{slice_index, slice_set}
use Rattle.ft_trace.specs.Addresses.{free_bit_of}
use Rattle.ft_trace.specs.Bits.{bit_off}
use Rattle.ft_bank.specs.TableNames.{table_id}
use Rattle.ft_bank.proofs.Freeing.{off_at}
use Rattle.ft_bank.proofs.retired.clear_bit.Goals as goal

pub returns : goal.returns
returns c =
    let t = c.args.table in
    let words = c.args.words.now in
    let i = c.word_of.result in
    ap (slice_set words i) (sym (off_at t (table_id t) (slice_index words i) c.requires.number refl))
    ∙ ap (λ (n : ℕ). slice_set words n (bit_off (free_bit_of (table_id t)) (slice_index words n))) c.word_of.ensures.is
