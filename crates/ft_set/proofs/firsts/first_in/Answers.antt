use Rattle.std.proofs.Common.{ℕ, Option, None, Some, sym, subst}
use Rattle.ft_trace.specs.Kinds.{IsKeyed}
use Rattle.ft_bank.specs.Passes.{shape_of}
use Rattle.ft_bank.specs.TableNames.{table_id}
use Rattle.ft_reads.specs.Reads.{Reads}
use Rattle.ft_reads.proofs.Agreeing.{reads_map, reads_then}
use Rattle.ft_whole_tables.specs.TableEntries.{IsKeyAt, OfUsed}
use Rattle.ft_whole_tables.specs.Places.{IsFirst}
use Rattle.ft_set.specs.declared.firsts.First.{First}
use Rattle.ft_set.specs.Firsts.{IsFirstIn}
use Rattle.ft_set.proofs.Popping.{first_found, first_none}
use Rattle.ft_set.proofs.firsts.first_in.Goals as goal

pub first_place-requires-clause-keyed : goal.first_place-requires-clause-keyed
first_place-requires-clause-keyed c = subst IsKeyed (sym c.requires.set) tt

pub key_at-found-requires-clause-keyed : goal.key_at-found-requires-clause-keyed
key_at-found-requires-clause-keyed c = subst IsKeyed (sym c.requires.set) tt

pub returns-in-Some-clause-reads : goal.returns-in-Some-clause-reads
returns-in-Some-clause-reads c =
    let a = c.args in
    let k = shape_of a.bank.now in
    let t = table_id a.table in
    let place = c.in-Some.place in
    let found = c.key_at-found.result in
    let p = a.pass.now in
    let q = c.first_place.new.pass in
    let r = c.key_at-found.new.pass in
    let here : Reads k a.s (OfUsed k t (IsFirst a.fill (Some place))) p q = subst (λ (z : Option ℕ). Reads k a.s (OfUsed k t (IsFirst a.fill z)) p q) c.in-Some.is c.first_place.ensures.reads in
    reads_map k a.s (λ x. OfUsed k t (IsFirst a.fill (Some place)) x × IsKeyAt k t place found x) (IsFirstIn k a.table a.fill c.first_with.result) p r
    (λ x both. subst (λ (z : Option First). IsFirstIn k a.table a.fill z x) (sym c.first_with.ensures) (first_found c.used_entries_follow_a_set.ensures.live k a.table a.fill place x c.requires.table found c.key_at-found.ensures.within both.0 both.1))
    (reads_then k a.s (OfUsed k t (IsFirst a.fill (Some place))) (IsKeyAt k t place found) p q r here c.key_at-found.ensures.reads)

pub returns-in-None-clause-reads : goal.returns-in-None-clause-reads
returns-in-None-clause-reads c =
    let a = c.args in
    let k = shape_of a.bank.now in
    let t = table_id a.table in
    let p = a.pass.now in
    let q = c.first_place.new.pass in
    let here : Reads k a.s (OfUsed k t (IsFirst a.fill None)) p q = subst (λ (z : Option ℕ). Reads k a.s (OfUsed k t (IsFirst a.fill z)) p q) c.in-None.is c.first_place.ensures.reads in
    reads_map k a.s (OfUsed k t (IsFirst a.fill None)) (IsFirstIn k a.table a.fill None) p q (λ x none. first_none k a.table a.fill x none) here
