use Rattle.std.proofs.Common.{◌≤◌, ℕ, length, take, drop, ap, ◌∙◌, arith}
use Rattle.std.proofs.Math.Seq.{take-length}
use Rattle.ft_bank.specs.Passes.{shape_of}
use Rattle.ft_reads.specs.Copies.{AreCopied}
use Rattle.ft_reads.proofs.Agreeing.{reads_block}
use Rattle.ft_list.proofs.Scanning.{after_count, copied_same}
use Rattle.ft_list.proofs.copies.copy_items.Goals as goal

pub returns-clause-reads : goal.returns-clause-reads
returns-clause-reads c =
    let a = c.args in
    let k = shape_of a.bank.now in
    let count = c.read_block-count.result in
    let e = c.read_block-count.ensures in
    let made = c.copy_part.result in
    let p = a.pass.now in
    let q = c.read_block-count.new.pass in
    after_count k a.l count (λ items. count ≤ length items → AreCopied made (drop 0 (take count items))) (AreCopied made) p q c.copy_part.new.pass
    (reads_block k a.l 1 count p q (omega arith) e.did e.held) c.copy_part.ensures.reads
    (λ items long copied. copied_same (drop 0 (take count items)) items made (ap (λ (n : ℕ). take n items) long ∙ take-length items) (copied (omega (arith, long))))
