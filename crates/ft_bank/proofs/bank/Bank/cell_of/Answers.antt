use Rattle.std.proofs.Common.{ℕ, List, length, ap, ◌∙◌, arith}
use Rattle.ft_bank.specs.Passes.{shape_of}
use Rattle.ft_bank.proofs.TableAddresses.{start_found, size_found, starts_long, cell_sum}
use Rattle.ft_bank.proofs.bank.Bank.cell_of.Goals as goal

pub index-requires : goal.index-requires
index-requires c =
    let b = c.args.self.now in
    let long = ap (λ (l : List ℕ). length l) b.starting ∙ starts_long (shape_of b) 3 14 in
    omega (arith, long, b.starts.ok.0, c.requires.table.0.greatest, c.requires.table.0.least)

pub overflow_add-result : goal.overflow_add-result
overflow_add-result c =
    let b = c.args.self.now in
    let k = shape_of b in
    let t = c.args.t in
    let start = start_found k b.starts.items t.class c.index.result.now b.starting c.requires.table.0 c.index.ensures in
    let size = size_found b.sizes.items t.class c.index-2.result.now b.sizing c.requires.table.0 c.index-2.ensures in
    let s = cell_sum k t c.index.result.now c.index-2.result.now c.from.result c.requires.table start size c.from.ensures in
    omega (arith, s.1, b.low)

pub overflow_add-result-2 : goal.overflow_add-result-2
overflow_add-result-2 c =
    let b = c.args.self.now in
    let k = shape_of b in
    let t = c.args.t in
    let start = start_found k b.starts.items t.class c.index.result.now b.starting c.requires.table.0 c.index.ensures in
    let size = size_found b.sizes.items t.class c.index-2.result.now b.sizing c.requires.table.0 c.index-2.ensures in
    let s = cell_sum k t c.index.result.now c.index-2.result.now c.from.result c.requires.table start size c.from.ensures in
    omega (arith, s.1, b.low)

pub returns-clause-is : goal.returns-clause-is
returns-clause-is c =
    let b = c.args.self.now in
    let k = shape_of b in
    let t = c.args.t in
    let start = start_found k b.starts.items t.class c.index.result.now b.starting c.requires.table.0 c.index.ensures in
    let size = size_found b.sizes.items t.class c.index-2.result.now b.sizing c.requires.table.0 c.index-2.ensures in
    let s = cell_sum k t c.index.result.now c.index-2.result.now c.from.result c.requires.table start size c.from.ensures in
    s.0

pub returns-clause-low : goal.returns-clause-low
returns-clause-low c =
    let b = c.args.self.now in
    let k = shape_of b in
    let t = c.args.t in
    let start = start_found k b.starts.items t.class c.index.result.now b.starting c.requires.table.0 c.index.ensures in
    let size = size_found b.sizes.items t.class c.index-2.result.now b.sizing c.requires.table.0 c.index-2.ensures in
    let s = cell_sum k t c.index.result.now c.index-2.result.now c.from.result c.requires.table start size c.from.ensures in
    s.1

pub returns-clause-place : goal.returns-clause-place
returns-clause-place c =
    let b = c.args.self.now in
    let k = shape_of b in
    let t = c.args.t in
    let start = start_found k b.starts.items t.class c.index.result.now b.starting c.requires.table.0 c.index.ensures in
    let size = size_found b.sizes.items t.class c.index-2.result.now b.sizing c.requires.table.0 c.index-2.ensures in
    cell_sum k t c.index.result.now c.index-2.result.now c.from.result c.requires.table start size c.from.ensures
