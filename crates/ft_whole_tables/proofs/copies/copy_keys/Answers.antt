use Rattle.std.proofs.Common.{◌≡◌, ◌<◌, ◌+◌, ◌++◌, ℕ, [], length, take, refl, sym, ap, ◌∙◌, subst, arith}
use Rattle.std.specs.Prelude.{Ok}
use Rattle.std.specs.List.{cons_option, filter_map}
use Rattle.std.proofs.lemmas.List.{take_all}
use Rattle.std.proofs.lemmas.Result.{err_from_is_err_and}
use Rattle.ft_bank.specs.Passes.{shape_of}
use Rattle.ft_bank.specs.TableNames.{table_id}
use Rattle.ft_reads.specs.Copies.{AreCopied}
use Rattle.ft_whole_tables.specs.TableEntries.{live_key}
use Rattle.ft_whole_tables.proofs.Gathered.{gathered_more, gathered_some}
use Rattle.ft_whole_tables.proofs.Paired.{no_entry}
use Rattle.ft_whole_tables.proofs.Scanning.{scan_key, scan_map, scan_none}
use Rattle.ft_whole_tables.proofs.copies.copy_keys.Goals as goal

pub loop-place-init : goal.loop-place-init
loop-place-init c =
    let a = c.args in
    record {
      pass = c.requires.pass;
      stack = refl;
      reads = scan_none (shape_of a.bank.now) a.s (table_id a.table) (λ used. a.fill ≡ length used → c.new-keys.result.items ≡ filter_map live_key (take 0 used)) a.pass.now (λ used filled. c.new-keys.ensures.items);
    }

pub loop-place-preserved : goal.loop-place-preserved
loop-place-preserved c =
    let a = c.args in
    let place = c.loop-place.place in
    let test = c.loop-place-test.true in
    let e = c.key_at-found.ensures in
    record {
      pass = e.pass;
      stack = e.stack ∙ c.loop-place.invariant.stack;
      reads = scan_key (shape_of a.bank.now) a.s (table_id a.table) (λ used. a.fill ≡ length used → c.loop-place.keys.items ≡ filter_map live_key (take place used)) (λ used. a.fill ≡ length used → c.push_found.new.items.items ≡ filter_map live_key (take (place + 1) used)) place c.key_at-found.result a.pass.now c.loop-place.pass c.key_at-found.new.pass c.loop-place.invariant.reads e.reads
          (λ used so is filled.
          let low : place < length used = omega (arith, test, filled) in
          c.in_ok-push_found.ensures.ok ∙ ((λ i. so filled i ++ cons_option (is no_entry low i) []) ∙ sym (gathered_more live_key used place no_entry low)));
    }

pub returns-in_err-push_found-clause-reads : goal.returns-in_err-push_found-clause-reads
returns-in_err-push_found-clause-reads c =
    let a = c.args in
    let place = c.loop-place.place in
    let test = c.loop-place-test.true in
    let failed = err_from_is_err_and c.from_residual.result c.from_residual.ensures.1 in
    scan_key (shape_of a.bank.now) a.s (table_id a.table) (λ used. a.fill ≡ length used → c.loop-place.keys.items ≡ filter_map live_key (take place used)) (λ used. a.fill ≡ length used → AreCopied c.from_residual.result (filter_map live_key used)) place c.key_at-found.result a.pass.now c.loop-place.pass c.key_at-found.new.pass c.loop-place.invariant.reads c.key_at-found.ensures.reads
    (λ used so is filled.
    let low : place < length used = omega (arith, test, filled) in
    subst (λ r. AreCopied r (filter_map live_key used)) (sym failed.1) (tt, gathered_some live_key used place no_entry low c.key_at-found.result (is no_entry low) c.in_err-push_found.ensures.err))

pub returns-clause-reads : goal.returns-clause-reads
returns-clause-reads c =
    let a = c.args in
    let place = c.loop-place.place in
    let past = c.loop-place-test.false in
    let end = c.loop-place.auto.place-end in
    scan_map (shape_of a.bank.now) a.s (table_id a.table) (λ used. a.fill ≡ length used → c.loop-place.keys.items ≡ filter_map live_key (take place used)) (λ used. a.fill ≡ length used → AreCopied (Ok c.loop-place.keys) (filter_map live_key used)) a.pass.now c.loop-place.pass c.loop-place.invariant.reads
    (λ used so filled.
    let at : place ≡ length used = omega (arith, filled, past, end) in
    (so filled ∙ ap (filter_map live_key) (ap (λ (n : ℕ). take n used) at ∙ take_all (length used) used (omega arith)), tt))
