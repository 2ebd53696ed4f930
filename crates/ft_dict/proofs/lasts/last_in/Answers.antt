use Rattle.std.proofs.Common.{ℕ, Option, None, Some, sym, subst}
use Rattle.ft_trace.specs.Kinds.{IsKeyed}
use Rattle.ft_bank.specs.Passes.{shape_of}
use Rattle.ft_bank.specs.TableNames.{table_id}
use Rattle.ft_reads.specs.Reads.{Reads}
use Rattle.ft_reads.proofs.Agreeing.{reads_map, reads_then}
use Rattle.ft_whole_tables.specs.TableEntries.{IsPlainAt, OfUsed}
use Rattle.ft_whole_tables.specs.Places.{IsLast}
use Rattle.ft_dict.specs.declared.lasts.Last.{Last}
use Rattle.ft_dict.specs.Lasts.{IsLastIn}
use Rattle.ft_dict.proofs.Popping.{last_found, last_none}
use Rattle.ft_dict.proofs.lasts.last_in.Goals as goal

pub last_place-requires-clause-keyed : goal.last_place-requires-clause-keyed
last_place-requires-clause-keyed c = subst IsKeyed (sym c.requires.dict) tt

pub returns-in-Some-clause-reads : goal.returns-in-Some-clause-reads
returns-in-Some-clause-reads c =
    let a = c.args in
    let k = shape_of a.bank.now in
    let t = table_id a.table in
    let place = c.in-Some.place in
    let found = c.value_at-found.result in
    let p = a.pass.now in
    let q = c.last_place.new.pass in
    let r = c.value_at-found.new.pass in
    let here : Reads k a.d (OfUsed k t (IsLast a.fill (Some place))) p q = subst (λ (z : Option ℕ). Reads k a.d (OfUsed k t (IsLast a.fill z)) p q) c.in-Some.is c.last_place.ensures.reads in
    reads_map k a.d (λ x. OfUsed k t (IsLast a.fill (Some place)) x × IsPlainAt k t place found x) (IsLastIn k a.table a.fill c.last_with.result) p r
    (λ x both. subst (λ (z : Option Last). IsLastIn k a.table a.fill z x) (sym c.last_with.ensures) (last_found c.used_entries_follow_a_dict.ensures.live k a.table a.fill place x c.requires.table found c.value_at-found.ensures.within both.0 both.1))
    (reads_then k a.d (OfUsed k t (IsLast a.fill (Some place))) (IsPlainAt k t place found) p q r here c.value_at-found.ensures.reads)

pub returns-in-None-clause-reads : goal.returns-in-None-clause-reads
returns-in-None-clause-reads c =
    let a = c.args in
    let k = shape_of a.bank.now in
    let t = table_id a.table in
    let p = a.pass.now in
    let q = c.last_place.new.pass in
    let here : Reads k a.d (OfUsed k t (IsLast a.fill None)) p q = subst (λ (z : Option ℕ). Reads k a.d (OfUsed k t (IsLast a.fill z)) p q) c.in-None.is c.last_place.ensures.reads in
    reads_map k a.d (OfUsed k t (IsLast a.fill None)) (IsLastIn k a.table a.fill None) p q (λ x none. last_none k a.table a.fill x none) here
