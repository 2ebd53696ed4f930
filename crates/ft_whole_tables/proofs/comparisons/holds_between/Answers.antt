use Rattle.std.proofs.Common.{sym, subst}
use Rattle.ft_bank.specs.Passes.{shape_of}
use Rattle.ft_reads.specs.Pairs.{ReadsBoth}
use Rattle.ft_whole_tables.specs.declared.comparisons.Comparison.{Comparison}
use Rattle.ft_whole_tables.specs.Comparisons.{IsComparedAs}
use Rattle.ft_whole_tables.proofs.comparisons.holds_between.Goals as goal

pub returns-in-SameDicts-clause-reads : goal.returns-in-SameDicts-clause-reads
returns-in-SameDicts-clause-reads c =
    let a = c.args in
    let k = shape_of a.bank.now in
    subst (λ (how : Comparison). ReadsBoth k a.c a.other (IsComparedAs k how c.are_same_dicts.result) a.pass.now c.are_same_dicts.new.pass) (sym c.in-SameDicts.is) c.are_same_dicts.ensures.reads

pub returns-in-SameSets-clause-reads : goal.returns-in-SameSets-clause-reads
returns-in-SameSets-clause-reads c =
    let a = c.args in
    let k = shape_of a.bank.now in
    subst (λ (how : Comparison). ReadsBoth k a.c a.other (IsComparedAs k how c.are_same_sets.result) a.pass.now c.are_same_sets.new.pass) (sym c.in-SameSets.is) c.are_same_sets.ensures.reads

pub returns-in-Subset-clause-reads : goal.returns-in-Subset-clause-reads
returns-in-Subset-clause-reads c =
    let a = c.args in
    let k = shape_of a.bank.now in
    subst (λ (how : Comparison). ReadsBoth k a.c a.other (IsComparedAs k how c.is_within.result) a.pass.now c.is_within.new.pass) (sym c.in-Subset.is) c.is_within.ensures.reads

pub returns-in-Disjoint-clause-reads : goal.returns-in-Disjoint-clause-reads
returns-in-Disjoint-clause-reads c =
    let a = c.args in
    let k = shape_of a.bank.now in
    subst (λ (how : Comparison). ReadsBoth k a.c a.other (IsComparedAs k how c.is_apart.result) a.pass.now c.is_apart.new.pass) (sym c.in-Disjoint.is) c.is_apart.ensures.reads
