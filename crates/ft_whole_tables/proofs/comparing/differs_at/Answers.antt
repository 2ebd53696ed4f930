use Rattle.std.proofs.Common.{◌<◌, not, Option, Some, sym, ap, subst}
use Rattle.std.specs.Prelude.{IfSome}
use Rattle.ft_model.specs.declared.data.Key.{Key}
use Rattle.ft_model.specs.declared.data.Value.{Value}
use Rattle.ft_layout.specs.Words.{FitsKey}
use Rattle.ft_trace.specs.Addresses.{class_of, places}
use Rattle.ft_trace.specs.Kinds.{IsKeyed}
use Rattle.ft_bank.specs.Passes.{shape_of}
use Rattle.ft_bank.specs.TableNames.{table_id}
use Rattle.ft_reads.specs.Reads.{Reads}
use Rattle.ft_whole_tables.specs.TableEntries.{IsPlainAt}
use Rattle.ft_whole_tables.proofs.Meeting.{differs_none, differs_some}
use Rattle.ft_whole_tables.proofs.comparing.differs_at.Goals as goal

pub hash_at-hash-requires-clause-keyed : goal.hash_at-hash-requires-clause-keyed
hash_at-hash-requires-clause-keyed c = subst IsKeyed (sym c.requires.kind) tt

pub find_value-found-requires-clause-key : goal.find_value-found-requires-clause-key
find_value-found-requires-clause-key c = (subst (λ f. IfSome f (λ pair. (c.args.place < places (class_of (table_id c.args.table))) × FitsKey pair.0)) c.in-Some.is c.value_at.ensures.within).1

pub hash_at-hash-requires-clause-place : goal.hash_at-hash-requires-clause-place
hash_at-hash-requires-clause-place c = (subst (λ f. IfSome f (λ pair. (c.args.place < places (class_of (table_id c.args.table))) × FitsKey pair.0)) c.in-Some.is c.value_at.ensures.within).0

pub returns-in-None-clause-reads : goal.returns-in-None-clause-reads
returns-in-None-clause-reads c =
    let a = c.args in
    let k = shape_of a.bank.now in
    let t = table_id a.table in
    let p = a.pass.now in
    let q = c.value_at.new.pass in
    differs_none k a.d a.other t a.place p q (subst (λ (f : Option (Key × Value)). Reads k a.d (IsPlainAt k t a.place f) p q) c.in-None.is c.value_at.ensures.reads)

pub returns-in-Some-clause-reads : goal.returns-in-Some-clause-reads
returns-in-Some-clause-reads c =
    let a = c.args in
    let k = shape_of a.bank.now in
    let t = table_id a.table in
    let key = c.in-Some.key in
    let value = c.in-Some.value in
    let p = a.pass.now in
    let q = c.value_at.new.pass in
    let r = c.hash_at-hash.new.pass in
    let z = c.find_value-found.new.pass in
    let here : Reads k a.d (IsPlainAt k t a.place (Some (key, value))) p q = subst (λ (f : Option (Key × Value)). Reads k a.d (IsPlainAt k t a.place f) p q) c.in-Some.is c.value_at.ensures.reads in
    differs_some k a.d a.other t a.place key value c.hash_at-hash.result c.find_value-found.result (not c.is_that.result) p q r z (ap not c.is_that.ensures) here c.hash_at-hash.ensures.reads c.find_value-found.ensures.reads
