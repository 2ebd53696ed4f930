use Rattle.std.proofs.Common.{◌<◌, Option, None, Some, sym, subst}
use Rattle.std.specs.Prelude.{option_map, IfSome}
use Rattle.ft_model.specs.declared.data.Key.{Key}
use Rattle.ft_model.specs.declared.data.Value.{Value}
use Rattle.ft_layout.specs.Words.{FitsKey}
use Rattle.ft_model.specs.declared.script.Kind.{Kind}
use Rattle.ft_trace.specs.Addresses.{class_of, places}
use Rattle.ft_trace.specs.Kinds.{rows, IsKeyed}
use Rattle.ft_bank.specs.Passes.{shape_of}
use Rattle.ft_bank.specs.TableNames.{table_id}
use Rattle.ft_search.proofs.Puts.{table_class}
use Rattle.ft_reads.specs.Reads.{Reads}
use Rattle.ft_reads.proofs.Agreeing.{reads_map, reads_then}
use Rattle.ft_whole_tables.specs.TableEntries.{IsKeyAt, IsPlainAt, IsSeenAt}
use Rattle.ft_whole_tables.proofs.EntryRows.{missing_read, value_read, within_pair}
use Rattle.ft_whole_tables.proofs.entries.value_at.Goals as goal
use Rattle.ft_whole_tables.proofs.entries.value_at.Goals.{In-Some}

within : (c : In-Some) → (c.args.place < places (class_of (table_id c.args.table))) × FitsKey c.in-Some.key
within c = subst (λ (f : Option Key). IfSome f (λ key. (c.args.place < places (class_of (table_id c.args.table))) × FitsKey key)) c.in-Some.is c.key_at.ensures.within

pub key_at-requires-clause-keyed : goal.key_at-requires-clause-keyed
key_at-requires-clause-keyed c = subst IsKeyed (sym c.requires.kind) tt

pub seen_at-seen-requires-clause-keyed : goal.seen_at-seen-requires-clause-keyed
seen_at-seen-requires-clause-keyed c = subst IsKeyed (sym c.requires.kind) tt

pub seen_at-seen-requires-clause-place : goal.seen_at-seen-requires-clause-place
seen_at-seen-requires-clause-place c =
    let d = (goal.at.seen_at-seen-requires-clause-place c).In-Some in
    subst (λ (kd : Kind). c.args.place < rows kd (class_of (table_id c.args.table))) (sym c.requires.kind) (within d).0

pub returns-in-Some-clause-within : goal.returns-in-Some-clause-within
returns-in-Some-clause-within c =
    let a = c.args in
    let key = c.in-Some.key in
    subst (λ (f : Option (Key × Value)). IfSome f (λ pair. (a.place < places (class_of (table_id a.table))) × FitsKey pair.0)) (sym c.with_value.ensures)
    (within_pair (a.place < places (class_of (table_id a.table))) key c.value_of.result (within (goal.at.returns-in-Some-clause-within c).In-Some))

pub returns-in-Some-clause-reads : goal.returns-in-Some-clause-reads
returns-in-Some-clause-reads c =
    let a = c.args in
    let k = shape_of a.bank.now in
    let t = table_id a.table in
    let key = c.in-Some.key in
    let seen = c.seen_at-seen.result in
    let p = a.pass.now in
    let q = c.key_at.new.pass in
    let z = c.seen_at-seen.new.pass in
    let here : Reads k a.d (IsKeyAt k t a.place (Some key)) p q = subst (λ (f : Option Key). Reads k a.d (IsKeyAt k t a.place f) p q) c.in-Some.is c.key_at.ensures.reads in
    let all : Reads k a.d (IsPlainAt k t a.place (option_map {U = Key × Value} (λ (v : Value). (key, v)) c.value_of.result)) p z =
    reads_map k a.d (λ x. IsKeyAt k t a.place (Some key) x × IsSeenAt t a.place seen x) (IsPlainAt k t a.place (option_map {U = Key × Value} (λ (v : Value). (key, v)) c.value_of.result)) p z
    (λ x both. value_read k t a.place seen x key (table_class k a.table c.requires.table) both.0 both.1 c.value_of.result c.value_of.ensures)
    (reads_then k a.d (IsKeyAt k t a.place (Some key)) (IsSeenAt t a.place seen) p q z here c.seen_at-seen.ensures.reads) in
    subst (λ (f : Option (Key × Value)). Reads k a.d (IsPlainAt k t a.place f) p z) (sym c.with_value.ensures) all

pub returns-in-None-clause-reads : goal.returns-in-None-clause-reads
returns-in-None-clause-reads c =
    let a = c.args in
    let k = shape_of a.bank.now in
    let t = table_id a.table in
    let p = a.pass.now in
    let q = c.key_at.new.pass in
    let here : Reads k a.d (IsKeyAt k t a.place None) p q = subst (λ (f : Option Key). Reads k a.d (IsKeyAt k t a.place f) p q) c.in-None.is c.key_at.ensures.reads in
    reads_map k a.d (IsKeyAt k t a.place None) (IsPlainAt k t a.place None) p q (λ x at. missing_read k t a.place x at) here
