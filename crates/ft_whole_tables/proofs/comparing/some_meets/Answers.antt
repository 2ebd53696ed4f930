use Rattle.std.proofs.Common.{◌≡◌, ℕ, ◌+◌, ◌<◌, true, false, length, take, take_all, refl, sym, ap, ◌∙◌, arith}
use Rattle.std.specs.List.{filter_map, list_any}
use Rattle.ft_bank.specs.Passes.{shape_of}
use Rattle.ft_bank.specs.TableNames.{table_id}
use Rattle.ft_whole_tables.specs.Comparing.{MeetsAt, WithSet, is_met}
use Rattle.ft_whole_tables.specs.TableEntries.{live_key}
use Rattle.ft_whole_tables.proofs.Meeting.{set_map, set_then}
use Rattle.ft_whole_tables.proofs.Paired.{any_at, any_more, both_none, no_entry}
use Rattle.ft_whole_tables.proofs.comparing.some_meets.Goals as goal

pub loop-place-init : goal.loop-place-init
loop-place-init c =
    let a = c.args in
    let k = shape_of a.bank.now in
    record {
      pass = c.requires.pass;
      stack = refl;
      reads = both_none k a.s a.other (WithSet k (table_id a.table) (λ used others. a.fill ≡ length used → false ≡ list_any (is_met a.wanted others) (filter_map live_key (take 0 used)))) a.pass.now (λ x y names way used table kept is stands filled. refl);
    }

pub loop-place-preserved : goal.loop-place-preserved
loop-place-preserved c =
    let a = c.args in
    let k = shape_of a.bank.now in
    let place = c.loop-place.place in
    let test = c.loop-place-test.true in
    let e = c.meets_at.ensures in
    record {
      pass = e.pass;
      stack = e.stack ∙ c.loop-place.invariant.stack;
      reads = set_then k a.s a.other (table_id a.table) (λ used others. a.fill ≡ length used → false ≡ list_any (is_met a.wanted others) (filter_map live_key (take c.loop-place.place used))) (MeetsAt a.wanted place c.meets_at.result) (λ used others. a.fill ≡ length used → false ≡ list_any (is_met a.wanted others) (filter_map live_key (take (place + 1) used))) a.pass.now c.loop-place.pass c.meets_at.new.pass c.loop-place.invariant.reads e.reads
          (λ used others so here filled.
          let low : place < length used = omega (arith, test, filled) in
          any_more live_key (is_met a.wanted others) used place no_entry low (so filled) (sym c.if-meets_at.false ∙ here no_entry low));
    }

pub returns-then-meets_at-clause-reads : goal.returns-then-meets_at-clause-reads
returns-then-meets_at-clause-reads c =
    let a = c.args in
    let k = shape_of a.bank.now in
    let place = c.loop-place.place in
    let test = c.loop-place-test.true in
    let e = c.meets_at.ensures in
    set_then k a.s a.other (table_id a.table) (λ used others. a.fill ≡ length used → false ≡ list_any (is_met a.wanted others) (filter_map live_key (take c.loop-place.place used))) (MeetsAt a.wanted place c.meets_at.result) (λ used others. a.fill ≡ length used → true ≡ list_any (is_met a.wanted others) (filter_map live_key used)) a.pass.now c.loop-place.pass c.meets_at.new.pass c.loop-place.invariant.reads e.reads
    (λ used others so here filled.
    let low : place < length used = omega (arith, test, filled) in
    any_at live_key (is_met a.wanted others) used place no_entry low (sym c.if-meets_at.true ∙ here no_entry low))

pub returns-clause-reads : goal.returns-clause-reads
returns-clause-reads c =
    let a = c.args in
    let k = shape_of a.bank.now in
    let place = c.loop-place.place in
    let past = c.loop-place-test.false in
    let end = c.loop-place.auto.place-end in
    set_map k a.s a.other (table_id a.table) (λ used others. a.fill ≡ length used → false ≡ list_any (is_met a.wanted others) (filter_map live_key (take c.loop-place.place used))) (λ used others. a.fill ≡ length used → false ≡ list_any (is_met a.wanted others) (filter_map live_key used)) a.pass.now c.loop-place.pass c.loop-place.invariant.reads
    (λ used others so filled.
    let at : place ≡ length used = omega (arith, filled, past, end) in
    so filled ∙ ap (λ l. list_any (is_met a.wanted others) (filter_map live_key l)) (ap (λ (n : ℕ). take n used) at ∙ take_all (length used) used (omega arith)))
