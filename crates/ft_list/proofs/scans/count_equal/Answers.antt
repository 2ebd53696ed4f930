use Rattle.std.proofs.Common.{◌≡◌, ℕ, ◌+◌, ◌<◌, List, length, take, refl, sym, ap, ◌∙◌, arith}
use Rattle.std.specs.Prelude.{slice_index_or}
use Rattle.std.proofs.Math.Seq.{take-length}
use Rattle.ft_model.specs.declared.data.Value.{Value}
use Rattle.ft_model.specs.declared.data.Value.TheVariants.{Nothing}
use Rattle.ft_model.specs.Lists.{count_of}
use Rattle.ft_bank.specs.Passes.{shape_of}
use Rattle.ft_reads.proofs.Equal.{item_is, item_differs}
use Rattle.ft_reads.proofs.Agreeing.{reads_block}
use Rattle.ft_list.proofs.Scanning.{EqualYet, counted, one_more, so_of_items}
use Rattle.ft_list.proofs.ValueLists.{count_yes, count_no}
use Rattle.ft_list.proofs.scans.count_equal.Goals as goal
use Rattle.ft_list.proofs.scans.count_equal.Goals.{then-eq, else-eq}

pub loop-place-init : goal.loop-place-init
loop-place-init c =
    let a = c.args in
    let k = shape_of a.bank.now in
    let count = c.read_block-count.result in
    let e = c.read_block-count.ensures in
    let p = a.pass.now in
    let q = c.read_block-count.new.pass in
    record {
      pass = (e.did.0 ∙ c.requires.pass.0, ap (λ v. v.shape) e.did.1 ∙ c.requires.pass.1);
      few = omega arith;
      reads = so_of_items k a.l (λ items. count ≡ length items) (EqualYet a.value count 0 0) p q (counted k a.l count p q (reads_block k a.l 1 count p q (omega arith) e.did e.held)) (λ items is. (is, refl));
    }

pub loop-place-preserved : goal.loop-place-preserved
loop-place-preserved c =
    let a = c.args in
    let k = shape_of a.bank.now in
    let count = c.read_block-count.result in
    let place = c.loop-place.place in
    let equal = c.loop-place.equal in
    let test = c.loop-place-test.true in
    let few = c.loop-place.invariant.few in
    let step = one_more k a.l (EqualYet a.value count place equal) (EqualYet a.value count (place + 1) c.if-eq.equal) place c.read_item-found.result a.pass.now c.loop-place.pass c.read_item-found.new.pass c.loop-place.invariant.reads c.read_item-found.ensures.reads in
    record {
      pass = c.read_item-found.ensures.pass;
      few = elim c.if-eq.branch [ then-eq w ↦ let e = w.equal-is in omega (arith, e, few) | else-eq w ↦ let e = w.equal-is in omega (arith, e, few) ];
      reads = step (λ items so found.
          let low : place < length items = let long = so.0 in omega (arith, test, long) in
          let item = slice_index_or items place Nothing in (
            so.0,
            elim c.if-eq.branch [
              | then-eq w ↦ w.equal-is ∙ (ap (λ (n : ℕ). n + 1) so.1 ∙ sym (count_yes items a.value place low (item_is c.read_item-found.result item a.value (found low) (sym c.eq.ensures ∙ w.if-eq.true))))
              | else-eq w ↦ w.equal-is ∙ (so.1 ∙ sym (count_no items a.value place low (item_differs c.read_item-found.result item a.value (found low) (sym c.eq.ensures ∙ w.if-eq.false))))
            ],
          ));
    }

pub returns-clause-reads : goal.returns-clause-reads
returns-clause-reads c =
    let a = c.args in
    let k = shape_of a.bank.now in
    let count = c.read_block-count.result in
    let place = c.loop-place.place in
    let equal = c.loop-place.equal in
    let past = c.loop-place-test.false in
    let end = c.loop-place.auto.place-end in
    so_of_items k a.l (EqualYet a.value count place equal) (λ items. equal ≡ count_of items a.value) a.pass.now c.loop-place.pass c.loop-place.invariant.reads
    (λ items so.
    let at : place ≡ length items = let long = so.0 in omega (arith, past, end, long) in
    so.1 ∙ ap (λ (l : List Value). count_of l a.value) (ap (λ (n : ℕ). take n items) at ∙ take-length items))
