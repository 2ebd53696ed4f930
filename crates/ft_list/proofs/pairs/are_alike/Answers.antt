use Rattle.std.proofs.Common.{◌≡◌, ◌+◌, ◌<◌, true, false, length, sym, ap, ◌∙◌, arith}
use Rattle.std.specs.Prelude.{slice_index_or}
use Rattle.ft_model.specs.declared.data.Value.TheVariants.{Nothing}
use Rattle.ft_model.specs.Lists.{same_items}
use Rattle.ft_bank.specs.Passes.{shape_of}
use Rattle.ft_list.proofs.Both.{AlikeYet, both_counted, both_more, so_of_both}
use Rattle.ft_reads.proofs.Equal.{items_equal, items_differ, differs_not, differs_so}
use Rattle.ft_reads.proofs.Agreeing.{reads_block}
use Rattle.ft_list.proofs.ValueLists.{alike_more, alike, unlike, unlike_length}
use Rattle.ft_list.proofs.pairs.are_alike.Goals as goal

pub loop-place-init : goal.loop-place-init
loop-place-init c =
    let a = c.args in
    let k = shape_of a.bank.now in
    let count = c.read_block-count.result in
    let other = c.read_block-other_count.result in
    let p = a.pass.now in
    let q = c.read_block-count.new.pass in
    let r = c.read_block-other_count.new.pass in
    let e = c.read_block-count.ensures in
    let f = c.read_block-other_count.ensures in
    let same = c.if-count-other_count.false in
    record {
      pass = (f.did.0 ∙ (e.did.0 ∙ c.requires.pass.0), ap (λ v. v.shape) f.did.1 ∙ (ap (λ v. v.shape) e.did.1 ∙ c.requires.pass.1));
      reads = so_of_both k a.l a.m (λ xs ys. (count ≡ length xs) × (other ≡ length ys)) (AlikeYet count 0) p r
          (both_counted k a.l a.m count other p q r (reads_block k a.l 1 count p q (omega arith) e.did e.held) (reads_block k a.m 1 other q r (omega arith) f.did f.held))
          (λ xs ys long. (long.0, same ∙ long.1, λ n less. absurd (omega (arith, less))));
    }

pub loop-place-preserved : goal.loop-place-preserved
loop-place-preserved c =
    let a = c.args in
    let k = shape_of a.bank.now in
    let count = c.read_block-count.result in
    let place = c.loop-place.place in
    let test = c.loop-place-test.true in
    let item = c.read_item-item.result in
    let other = c.read_item-other.result in
    record {
      pass = c.read_item-other.ensures.pass;
      reads = both_more k a.l a.m (AlikeYet count place) (AlikeYet count (place + 1)) place item other a.pass.now c.loop-place.pass c.read_item-item.new.pass c.read_item-other.new.pass c.loop-place.invariant.reads c.read_item-item.ensures.reads c.read_item-other.ensures.reads
          (λ xs ys so early late.
          let low : place < length xs = let long = so.0 in omega (arith, test, long) in
          let high : place < length ys = let long = so.1 in omega (arith, test, long) in
          (so.0, so.1, alike_more xs ys place so.2 (items_equal item other (slice_index_or xs place Nothing) (slice_index_or ys place Nothing) (early low) (late high) (differs_not c.ne.ensures c.if-ne.false))));
    }

pub returns-then-count-other_count-clause-reads : goal.returns-then-count-other_count-clause-reads
returns-then-count-other_count-clause-reads c =
    let a = c.args in
    let k = shape_of a.bank.now in
    let count = c.read_block-count.result in
    let other = c.read_block-other_count.result in
    let p = a.pass.now in
    let q = c.read_block-count.new.pass in
    let r = c.read_block-other_count.new.pass in
    let e = c.read_block-count.ensures in
    let f = c.read_block-other_count.ensures in
    so_of_both k a.l a.m (λ xs ys. (count ≡ length xs) × (other ≡ length ys)) (λ xs ys. false ≡ same_items xs ys) p r
    (both_counted k a.l a.m count other p q r (reads_block k a.l 1 count p q (omega arith) e.did e.held) (reads_block k a.m 1 other q r (omega arith) f.did f.held))
    (λ xs ys long. sym (unlike_length xs ys (λ same. c.if-count-other_count.true (long.0 ∙ (same ∙ sym long.1)))))

pub returns-then-ne-clause-reads : goal.returns-then-ne-clause-reads
returns-then-ne-clause-reads c =
    let a = c.args in
    let k = shape_of a.bank.now in
    let count = c.read_block-count.result in
    let place = c.loop-place.place in
    let test = c.loop-place-test.true in
    let item = c.read_item-item.result in
    let other = c.read_item-other.result in
    both_more k a.l a.m (AlikeYet count place) (λ xs ys. false ≡ same_items xs ys) place item other a.pass.now c.loop-place.pass c.read_item-item.new.pass c.read_item-other.new.pass c.loop-place.invariant.reads c.read_item-item.ensures.reads c.read_item-other.ensures.reads
    (λ xs ys so early late.
    let low : place < length xs = let long = so.0 in omega (arith, test, long) in
    let high : place < length ys = let long = so.1 in omega (arith, test, long) in
    sym (unlike xs ys place low high (items_differ item other (slice_index_or xs place Nothing) (slice_index_or ys place Nothing) (early low) (late high) (differs_so c.ne.ensures c.if-ne.true))))

pub returns-clause-reads : goal.returns-clause-reads
returns-clause-reads c =
    let a = c.args in
    let k = shape_of a.bank.now in
    let count = c.read_block-count.result in
    let place = c.loop-place.place in
    let past = c.loop-place-test.false in
    so_of_both k a.l a.m (AlikeYet count place) (λ xs ys. true ≡ same_items xs ys) a.pass.now c.loop-place.pass c.loop-place.invariant.reads
    (λ xs ys so. sym (alike xs ys (sym so.0 ∙ so.1) (λ p less. so.2 p (let long = so.0 in omega (arith, less, past, long)))))
