use Rattle.std.proofs.Common.{◌≡◌, ℕ, ◌+◌, ◌<◌, true, false, length, take, take_all, refl, sym, ap, ◌∙◌, arith}
use Rattle.std.specs.List.{filter_map, list_any}
use Rattle.ft_bank.specs.Passes.{shape_of}
use Rattle.ft_bank.specs.TableNames.{table_id}
use Rattle.ft_whole_tables.specs.Comparing.{DiffersAt, WithDict, lacks_value}
use Rattle.ft_whole_tables.specs.TableEntries.{plain_pair}
use Rattle.ft_whole_tables.proofs.Meeting.{dict_map, dict_then}
use Rattle.ft_whole_tables.proofs.Paired.{any_at, any_more, both_none, no_entry}
use Rattle.ft_whole_tables.proofs.comparing.some_differs.Goals as goal

pub loop-place-init : goal.loop-place-init
loop-place-init c =
    let a = c.args in
    let k = shape_of a.bank.now in
    record {
      pass = c.requires.pass;
      stack = refl;
      reads = both_none k a.d a.other (WithDict k (table_id a.table) (λ used others. a.fill ≡ length used → false ≡ list_any (lacks_value others) (filter_map plain_pair (take 0 used)))) a.pass.now (λ x y names way used table kept is stands filled. refl);
    }

pub loop-place-preserved : goal.loop-place-preserved
loop-place-preserved c =
    let a = c.args in
    let k = shape_of a.bank.now in
    let place = c.loop-place.place in
    let test = c.loop-place-test.true in
    let e = c.differs_at.ensures in
    record {
      pass = e.pass;
      stack = e.stack ∙ c.loop-place.invariant.stack;
      reads = dict_then k a.d a.other (table_id a.table) (λ used others. a.fill ≡ length used → false ≡ list_any (lacks_value others) (filter_map plain_pair (take c.loop-place.place used))) (DiffersAt place c.differs_at.result) (λ used others. a.fill ≡ length used → false ≡ list_any (lacks_value others) (filter_map plain_pair (take (place + 1) used))) a.pass.now c.loop-place.pass c.differs_at.new.pass c.loop-place.invariant.reads e.reads
          (λ used others so here filled.
          let low : place < length used = omega (arith, test, filled) in
          any_more plain_pair (lacks_value others) used place no_entry low (so filled) (sym c.if-differs_at.false ∙ here no_entry low));
    }

pub returns-then-differs_at-clause-reads : goal.returns-then-differs_at-clause-reads
returns-then-differs_at-clause-reads c =
    let a = c.args in
    let k = shape_of a.bank.now in
    let place = c.loop-place.place in
    let test = c.loop-place-test.true in
    let e = c.differs_at.ensures in
    dict_then k a.d a.other (table_id a.table) (λ used others. a.fill ≡ length used → false ≡ list_any (lacks_value others) (filter_map plain_pair (take c.loop-place.place used))) (DiffersAt place c.differs_at.result) (λ used others. a.fill ≡ length used → true ≡ list_any (lacks_value others) (filter_map plain_pair used)) a.pass.now c.loop-place.pass c.differs_at.new.pass c.loop-place.invariant.reads e.reads
    (λ used others so here filled.
    let low : place < length used = omega (arith, test, filled) in
    any_at plain_pair (lacks_value others) used place no_entry low (sym c.if-differs_at.true ∙ here no_entry low))

pub returns-clause-reads : goal.returns-clause-reads
returns-clause-reads c =
    let a = c.args in
    let k = shape_of a.bank.now in
    let place = c.loop-place.place in
    let past = c.loop-place-test.false in
    let end = c.loop-place.auto.place-end in
    dict_map k a.d a.other (table_id a.table) (λ used others. a.fill ≡ length used → false ≡ list_any (lacks_value others) (filter_map plain_pair (take c.loop-place.place used))) (λ used others. a.fill ≡ length used → false ≡ list_any (lacks_value others) (filter_map plain_pair used)) a.pass.now c.loop-place.pass c.loop-place.invariant.reads
    (λ used others so filled.
    let at : place ≡ length used = omega (arith, filled, past, end) in
    so filled ∙ ap (λ l. list_any (lacks_value others) (filter_map plain_pair l)) (ap (λ (n : ℕ). take n used) at ∙ take_all (length used) used (omega arith)))
