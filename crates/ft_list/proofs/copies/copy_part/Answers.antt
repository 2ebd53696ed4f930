use Rattle.std.proofs.Common.{◌≡◌, ◌≤◌, ◌<◌, ◌+◌, ◌++◌, ◌∷◌, ℕ, [], length, take, drop, refl, sym, ap, subst, ◌∙◌, arith, inl, inr}
use Rattle.std.specs.Prelude.{slice_index_or, Ok}
use Rattle.std.specs.Option.{unwrap_or}
use Rattle.std.proofs.lemmas.Bool.{cases_lt}
use Rattle.std.proofs.lemmas.List.{length-drop, length-take-le}
use Rattle.std.proofs.lemmas.Result.{err_from_is_err_and}
use Rattle.ft_model.specs.declared.data.Value.TheVariants.{Nothing}
use Rattle.ft_bank.specs.Passes.{shape_of}
use Rattle.ft_reads.specs.Copies.{AreCopied}
use Rattle.ft_list.proofs.Scanning.{one_more, so_of_items, nothing_read}
use Rattle.ft_list.proofs.ValueLists.{part_more, part_none, part_short}
use Rattle.ft_list.proofs.copies.copy_part.Goals as goal

pub loop-place-init : goal.loop-place-init
loop-place-init c =
    let a = c.args in
    record {
      pass = c.requires.pass;
      from = omega arith;
      to = inl refl;
      reads = nothing_read (shape_of a.bank.now) a.l (λ items. a.past ≤ length items → c.new-part.result.items ≡ drop a.first (take a.first items)) a.pass.now (λ items low. c.new-part.ensures.items ∙ sym (part_none items a.first));
    }

pub loop-place-preserved : goal.loop-place-preserved
loop-place-preserved c =
    let a = c.args in
    let place = c.loop-place.place in
    let test = c.loop-place-test.true in
    let from = c.loop-place.invariant.from in
    let item = c.read_item-item.result in
    record {
      pass = c.read_item-item.ensures.pass;
      from = omega (arith, from);
      to = inr (omega (arith, test));
      reads = one_more (shape_of a.bank.now) a.l (λ items. a.past ≤ length items → c.loop-place.part.items ≡ drop a.first (take place items)) (λ items. a.past ≤ length items → c.push.new.self.items ≡ drop a.first (take (place + 1) items)) place item a.pass.now c.loop-place.pass c.read_item-item.new.pass c.loop-place.invariant.reads c.read_item-item.ensures.reads
          (λ items so found low.
          let inside : place < length items = omega (arith, test, low) in
          let value : c.unwrap_or.result ≡ slice_index_or items place Nothing = c.unwrap_or.ensures ∙ ap (λ o. unwrap_or o Nothing) (found inside) in
          c.in_ok-push.ensures.items ∙ ((λ d. so low d ++ value d ∷ []) ∙ sym (part_more items a.first place from inside)));
    }

pub returns-in_err-push-clause-reads : goal.returns-in_err-push-clause-reads
returns-in_err-push-clause-reads c =
    let a = c.args in
    let place = c.loop-place.place in
    let from = c.loop-place.invariant.from in
    let test = c.loop-place-test.true in
    let failed = err_from_is_err_and c.from_residual.result c.from_residual.ensures.1 in
    one_more (shape_of a.bank.now) a.l (λ items. a.past ≤ length items → c.loop-place.part.items ≡ drop a.first (take place items)) (λ items. a.past ≤ length items → AreCopied c.from_residual.result (drop a.first (take a.past items))) place c.read_item-item.result a.pass.now c.loop-place.pass c.read_item-item.new.pass c.loop-place.invariant.reads c.read_item-item.ensures.reads
    (λ items so found low.
    let some : 0 < length (drop a.first (take a.past items)) =
    let n = length-take-le a.past items low in let m = length-drop a.first (take a.past items) in omega (arith, n, m, from, test) in
    subst (λ r. AreCopied r (drop a.first (take a.past items))) (sym failed.1) (tt, some))

pub returns-clause-reads : goal.returns-clause-reads
returns-clause-reads c =
    let a = c.args in
    let place = c.loop-place.place in
    let past = c.loop-place-test.false in
    let end = c.loop-place.auto.place-end in
    so_of_items (shape_of a.bank.now) a.l (λ items. a.past ≤ length items → c.loop-place.part.items ≡ drop a.first (take place items)) (λ items. a.past ≤ length items → AreCopied (Ok c.loop-place.part) (drop a.first (take a.past items))) a.pass.now c.loop-place.pass c.loop-place.invariant.reads
    (λ items so low. (
      elim (cases_lt a.past a.first) [
        | inl none ↦ elim c.loop-place.invariant.to [
          | inl at ↦ so low ∙ (ap (λ (n : ℕ). drop a.first (take n items)) at ∙ (part_none items a.first ∙ sym (part_short items a.first a.past (omega (arith, none)) low)))
          | inr less ↦ let from = c.loop-place.invariant.from in absurd (omega (arith, none, less, from))
        ]
        | inr some ↦ let near = end some in so low ∙ ap (λ (n : ℕ). drop a.first (take n items)) (omega (arith, past, near))
      ],
      tt,
    ))
