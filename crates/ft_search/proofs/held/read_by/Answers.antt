use Rattle.std.proofs.Common.{◌≢◌, ℕ, List, ◌∷◌, sym, ap, ◌∙◌, subst, arith}
use Rattle.ft_keys.specs.Searches.{IsWithin, Searched}
use Rattle.ft_keys.specs.Ways.{walk_slots}
use Rattle.ft_keys.specs.declared.search.Found.TheVariants.{Was}
use Rattle.ft_trace.specs.declared.Shape.{Shape}
use Rattle.ft_trace.specs.ContainerStates.{kind_in}
use Rattle.ft_trace.specs.Kinds.{IsKeyed}
use Rattle.ft_bank.specs.Passes.{shape_of, view}
use Rattle.ft_trace.specs.Holds.{held_unboxed}
use Rattle.ft_search.specs.Held.{ReadsEntry}
use Rattle.ft_search.proofs.SearchedReads.{searched_reads, way_keyed}
use Rattle.ft_search.proofs.held.read_by.Goals as goal

pub returns-clause-low : goal.returns-clause-low
returns-clause-low c = let e = c.requires.hash in omega (arith, e)

pub returns-clause-searched : goal.returns-clause-searched
returns-clause-searched c =
    let a = c.args in
    let v = view a.pass.now in
    let words : List ℕ = 0 ∷ 0 ∷ (held_unboxed a.o v).table in
    let found = c.read_held.result.0 in
    let s = c.read_held.ensures.searched in
    let keyed : IsKeyed (kind_in v.shape.starts a.o) = subst IsKeyed (sym (ap (λ (k : Shape). kind_in k.starts a.o) c.requires.pass.1 ∙ c.requires.way)) (way_keyed a.way) in
    let read = searched_reads v a.o (shape_of a.bank.now) a.table c.mask_of-mask.result a.hash a.way a.key s.0 found keyed c.requires.table c.mask_of-mask.ensures c.requires.knows.1 c.key_fits.ensures s.1 in
    subst (λ (z : ℕ × ℕ). (left : List ℕ) × Searched z.0 words a.key (walk_slots a.way z.1 z.0) left found × ((slot place : ℕ) → found ≢ Was slot place) × ReadsEntry z.0 words found c.read_held.result.1)
    (λ d. (c.mask_of-mask.ensures d, c.requires.hash d)) (s.0, read, s.2, s.3)

pub returns-clause-within : goal.returns-clause-within
returns-clause-within c = subst (λ (z : ℕ). IsWithin z c.read_held.result.0) c.mask_of-mask.ensures c.read_held.ensures.within
