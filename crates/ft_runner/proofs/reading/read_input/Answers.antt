use Rattle.std.proofs.Common.{List, ℕ, [], false, subst, true, Ok, arith}
use Rattle.std.proofs.lemmas.Result.{err_from_is_err_and}
use Rattle.ft_runner.specs.Checking.{IsSeparatorOf, IsScriptFew, IsScriptLong}
use Rattle.ft_runner.specs.Internal.Filling.{EndsScript, Fills}
use Rattle.ft_runner.proofs.InputLemmas.{long_input, long_script, stops_second, whole_input}
use Rattle.ft_runner.proofs.OpenLines.{few_fits, fit_in_time}
use Rattle.ft_runner.proofs.StreamLemmas.{GivesBytes-none}
use Rattle.ft_runner.proofs.reading.read_input.Goals as goal

pub returns-in_default : goal.returns-in_default
returns-in_default g c =
    let source = g.S.Source in
    record {
      came = [];
      gives = GivesBytes-none (source.stream c.args.source.now);
      too_long = λ long. absurd cc;
      fits = λ failed. absurd cc;
      few = omega arith;
      in_time = fit_in_time [] (few_fits [] (omega arith));
    }

pub returns-then-not-is_script_few : goal.returns-then-not-is_script_few
returns-then-not-is_script_few g c =
    let source = g.S.Source in
    let read = c.in_ok-ended.ensures in
    long_script (source.stream c.args.source.now) (source.stream c.read_script_part.new.source) c.read_script_part.new.bytes.items c.in_ok-ended.ended read.0 read.1 (subst IsScriptLong c.deref-2.ensures.value c.if-not-is_script_few.ensures)

pub returns-in_err-fill : goal.returns-in_err-fill
returns-in_err-fill g c =
    let source = g.S.Source in
    let a = source.stream c.args.source.now in
    let b = source.stream c.read_script_part.new.source in
    let d = source.stream c.fill.new.source in
    let bytes = c.read_script_part.new.bytes.items in
    let read = c.in_ok-ended.ensures in
    let ends : EndsScript false bytes b = rw c.if-ended.false at read.1 in
    let r = err_from_is_err_and c.from_residual-in_err-fill.result c.from_residual-in_err-fill.ensures.1 in
    rw (r.1, r.2) (stops_second a b d bytes read.0 ends (subst IsScriptFew c.deref-2.ensures.value c.if-not-is_script_few.ensures) c.in_err-fill.field-0.0 c.fill.new.bytes.items c.in_err-fill.ensures)

pub returns-then-branch : goal.returns-then-branch
returns-then-branch g c =
    let source = g.S.Source in
    let a = source.stream c.args.source.now in
    let b = source.stream c.read_script_part.new.source in
    let d = source.stream c.fill.new.source in
    let bytes = c.read_script_part.new.bytes.items in
    let read = c.in_ok-ended.ensures in
    let ends : EndsScript false bytes b = rw c.if-ended.false at read.1 in
    let filled : Fills b bytes 67108864 (Ok true) c.fill.new.bytes.items d = rw c.if-branch.true at c.in_ok-fill.ensures in
    whole_input a b d bytes read.0 ends (subst IsScriptFew c.deref-2.ensures.value c.if-not-is_script_few.ensures) c.fill.new.bytes.items c.separator_of-separator.result (subst (λ (text : List ℕ). IsSeparatorOf text c.separator_of-separator.result) c.deref.ensures.value c.separator_of-separator.ensures) filled

pub returns : goal.returns
returns g c =
    let source = g.S.Source in
    let a = source.stream c.args.source.now in
    let b = source.stream c.read_script_part.new.source in
    let d = source.stream c.fill.new.source in
    let bytes = c.read_script_part.new.bytes.items in
    let read = c.in_ok-ended.ensures in
    let ends : EndsScript false bytes b = rw c.if-ended.false at read.1 in
    let filled : Fills b bytes 67108864 (Ok false) c.fill.new.bytes.items d = rw c.if-branch.false at c.in_ok-fill.ensures in
    long_input a b d bytes read.0 ends (subst IsScriptFew c.deref-2.ensures.value c.if-not-is_script_few.ensures) c.fill.new.bytes.items filled
