use Rattle.std.proofs.Common.{◌≡◌, ◌+◌, ◌<◌, length, Some, None, sym, ap, ◌∙◌, arith}
use Rattle.std.specs.Prelude.{slice_index_or}
use Rattle.ft_model.specs.declared.data.Value.TheVariants.{Nothing}
use Rattle.ft_model.specs.Lists.{index_of}
use Rattle.ft_bank.specs.Passes.{shape_of}
use Rattle.ft_reads.proofs.Agreeing.{reads_block}
use Rattle.ft_list.proofs.Scanning.{NoneYet, counted, one_more, so_of_items}
use Rattle.ft_reads.proofs.Equal.{item_is, item_differs}
use Rattle.ft_list.proofs.ValueLists.{none_more, first_at, first_none}
use Rattle.ft_list.proofs.scans.first_equal.Goals as goal

pub loop-place-init : goal.loop-place-init
loop-place-init c =
    let a = c.args in
    let k = shape_of a.bank.now in
    let count = c.read_block-count.result in
    let e = c.read_block-count.ensures in
    let p = a.pass.now in
    let q = c.read_block-count.new.pass in
    record {
      pass = (e.did.0 ∙ c.requires.pass.0, ap (λ v. v.shape) e.did.1 ∙ c.requires.pass.1);
      reads = so_of_items k a.l (λ items. count ≡ length items) (NoneYet a.value count 0) p q (counted k a.l count p q (reads_block k a.l 1 count p q (omega arith) e.did e.held)) (λ items is. (is, λ n less. absurd (omega (arith, less))));
    }

pub loop-place-preserved : goal.loop-place-preserved
loop-place-preserved c =
    let a = c.args in
    let k = shape_of a.bank.now in
    let count = c.read_block-count.result in
    let place = c.loop-place.place in
    let test = c.loop-place-test.true in
    record {
      pass = c.read_item-found.ensures.pass;
      reads = one_more k a.l (NoneYet a.value count place) (NoneYet a.value count (place + 1)) place c.read_item-found.result a.pass.now c.loop-place.pass c.read_item-found.new.pass c.loop-place.invariant.reads c.read_item-found.ensures.reads
          (λ items so found. (so.0, none_more items a.value place so.1 (item_differs c.read_item-found.result (slice_index_or items place Nothing) a.value (found (let long = so.0 in omega (arith, test, long))) (sym c.eq.ensures ∙ c.if-eq.false))));
    }

pub returns-then-eq-clause-reads : goal.returns-then-eq-clause-reads
returns-then-eq-clause-reads c =
    let a = c.args in
    let k = shape_of a.bank.now in
    let count = c.read_block-count.result in
    let place = c.loop-place.place in
    let test = c.loop-place-test.true in
    one_more k a.l (NoneYet a.value count place) (λ items. Some place ≡ index_of items a.value) place c.read_item-found.result a.pass.now c.loop-place.pass c.read_item-found.new.pass c.loop-place.invariant.reads c.read_item-found.ensures.reads
    (λ items so found.
    let low : place < length items = let long = so.0 in omega (arith, test, long) in
    sym (first_at items a.value place low so.1 (item_is c.read_item-found.result (slice_index_or items place Nothing) a.value (found low) (sym c.eq.ensures ∙ c.if-eq.true))))

pub returns-clause-reads : goal.returns-clause-reads
returns-clause-reads c =
    let a = c.args in
    let k = shape_of a.bank.now in
    let count = c.read_block-count.result in
    let place = c.loop-place.place in
    let past = c.loop-place-test.false in
    so_of_items k a.l (NoneYet a.value count place) (λ items. None ≡ index_of items a.value) a.pass.now c.loop-place.pass c.loop-place.invariant.reads
    (λ items so. sym (first_none items a.value (λ p less. so.1 p (let long = so.0 in omega (arith, less, past, long)))))
