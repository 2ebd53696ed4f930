use Rattle.std.proofs.Common.{◌≡◌, ◌≤◌, ℕ, length, take, drop, ap, ◌∙◌, arith}
use mir.Syntax.{w64}
use Rattle.std.proofs.Math.Facts.{to_z-of_z}
use Rattle.ft_model.specs.Lists.{clamped_in, list_slice}
use Rattle.ft_bank.specs.Passes.{shape_of}
use Rattle.ft_reads.specs.Copies.{AreCopied}
use Rattle.ft_reads.proofs.Agreeing.{reads_block}
use Rattle.ft_list.proofs.Scanning.{after_count, copied_same, clamped_low}
use Rattle.ft_list.proofs.copies.copy_slice.Goals as goal

pub returns-clause-reads : goal.returns-clause-reads
returns-clause-reads c =
    let a = c.args in
    let k = shape_of a.bank.now in
    let count = c.read_block-count.result in
    let e = c.read_block-count.ensures in
    let made = c.copy_part.result in
    let first = c.clamp.result in
    let past = c.clamp-2.result in
    let p = a.pass.now in
    let q = c.read_block-count.new.pass in
    let start : first ≡ clamped_in count a.start = c.clamp.ensures ∙ ap (clamped_in count) (to_z-of_z {w = w64} {z = a.start} c.ranges.start) in
    let end : past ≡ clamped_in count a.end = c.clamp-2.ensures ∙ ap (clamped_in count) (to_z-of_z {w = w64} {z = a.end} c.ranges.end) in
    after_count k a.l count (λ items. past ≤ length items → AreCopied made (drop first (take past items))) (λ items. AreCopied made (list_slice items a.start a.end)) p q c.copy_part.new.pass
    (reads_block k a.l 1 count p q (omega arith) e.did e.held) c.copy_part.ensures.reads
    (λ items long copied.
    let low = clamped_low count a.end in
    copied_same (drop first (take past items)) (list_slice items a.start a.end) made
    (λ d. drop ((start ∙ ap (λ (n : ℕ). clamped_in n a.start) long) d) (take ((end ∙ ap (λ (n : ℕ). clamped_in n a.end) long) d) items))
    (copied (omega (arith, low, end, long))))
