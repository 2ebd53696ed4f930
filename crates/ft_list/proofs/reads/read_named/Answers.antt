use Rattle.std.proofs.Common.{◌≡◌, ◌<◌, ℕ, ℤ, Option, Some, None, sym, ap, ◌∙◌, subst, arith}
use Rattle.std.specs.Prelude.{slice_index, slice_index_or, option_map}
use mir.Syntax.{w64}
use mir.Val.{to_z, of_z}
use Rattle.std.proofs.Math.Facts.{to_z-of_z}
use Rattle.ft_model.specs.declared.data.Value.TheVariants as value
use Rattle.ft_model.specs.Lists.{index_in}
use Rattle.ft_model.specs.Worlds.{list_of}
use Rattle.ft_bank.specs.Passes.{shape_of}
use Rattle.ft_list.specs.Indexes.{IsItemAt, IsItemNamed}
use Rattle.ft_reads.specs.Reads.{Reads}
use Rattle.ft_list.proofs.Indexes.{named_by}
use Rattle.ft_reads.proofs.Agreeing.{reads_map, reads_then, reads_block}
use Rattle.ft_list.proofs.reads.read_named.Goals as goal

pub returns-in-Some-clause-reads : goal.returns-in-Some-clause-reads
returns-in-Some-clause-reads c =
    let a = c.args in
    let k = shape_of a.bank.now in
    let z = to_z w64 (of_z w64 a.index) in
    let same : z ≡ a.index = to_z-of_z {w = w64} {z = a.index} c.ranges.index in
    let count = c.read_block-count.result in
    let e = c.read_block-count.ensures in
    let found = c.read_item.result in
    let place = c.in-Some.place in
    let p = a.pass.now in
    let q = c.read_block-count.new.pass in
    let r = c.read_item.new.pass in
    let at : index_in count z ≡ Some place = sym c.place_in.ensures.answer ∙ c.in-Some.is in
    let within : place < count = c.in-Some.ensures.within in
    subst (λ (i : ℤ). Reads k a.l (IsItemNamed k i found) p r) same
    (reads_map k a.l (λ x. (count ≡ slice_index x.block 1) × IsItemAt k place found x) (IsItemNamed k z found) p r
    (λ x both. named_by k x z count found both.0 (λ kept is stands many. both.1 kept is stands (omega (arith, within, many)) ∙ ap (λ (o : Option ℕ). option_map (λ (i : ℕ). slice_index_or (list_of kept.content) i value.Nothing) o) (sym at)))
    (reads_then k a.l (λ x. count ≡ slice_index x.block 1) (IsItemAt k place found) p q r (reads_block k a.l 1 count p q (omega arith) e.did e.held) c.read_item.ensures.reads))

pub returns-in-None-clause-reads : goal.returns-in-None-clause-reads
returns-in-None-clause-reads c =
    let a = c.args in
    let k = shape_of a.bank.now in
    let z = to_z w64 (of_z w64 a.index) in
    let same : z ≡ a.index = to_z-of_z {w = w64} {z = a.index} c.ranges.index in
    let count = c.read_block-count.result in
    let e = c.read_block-count.ensures in
    let p = a.pass.now in
    let q = c.read_block-count.new.pass in
    let at : index_in count z ≡ None = sym c.place_in.ensures.answer ∙ c.in-None.is in
    subst (λ (i : ℤ). Reads k a.l (IsItemNamed k i None) p q) same
    (reads_map k a.l (λ x. count ≡ slice_index x.block 1) (IsItemNamed k z None) p q
    (λ x block. named_by k x z count None block (λ kept is stands many. ap (λ (o : Option ℕ). option_map (λ (i : ℕ). slice_index_or (list_of kept.content) i value.Nothing) o) (sym at)))
    (reads_block k a.l 1 count p q (omega arith) e.did e.held))
