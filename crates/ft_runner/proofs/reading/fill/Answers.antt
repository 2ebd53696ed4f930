use Rattle.std.proofs.Common.{◌≤◌, [], true, false, Ok, sym, arith, length}
use Rattle.std.proofs.lemmas.List.{append-nil}
use Rattle.std.proofs.lemmas.Result.{err_from_is_err_and}
use Rattle.ft_runner.specs.Internal.Filling.{TakesPiece}
use Rattle.ft_runner.proofs.InputLemmas.{fills_end, fills_more, fills_stop, taken_few}
use Rattle.ft_runner.proofs.StreamLemmas.{GivesBytes-none}
use Rattle.ft_runner.proofs.reading.fill.Goals as goal

pub loop-source-init : goal.loop-source-init
loop-source-init g c =
    let source = g.S.Source in
    record {
      came = ([], sym (append-nil c.args.bytes.now.items), GivesBytes-none (source.stream c.args.source.now));
      few = c.requires.few;
      buffer = c.requires.room;
    }

pub returns-in_err-take_piece : goal.returns-in_err-take_piece
returns-in_err-take_piece g c =
    let source = g.S.Source in
    let inv = c.loop-source.invariant in
    let r = err_from_is_err_and c.from_residual.result c.from_residual.ensures.1 in
    rw (r.1, r.2) (fills_stop (source.stream c.args.source.now) (source.stream c.loop-source.source) (source.stream c.take_piece.new.source) c.args.bytes.now.items inv.came.0 c.loop-source.bytes.items c.take_piece.new.bytes.items c.args.most inv.came.1 inv.came.2 (omega (arith, c.loop-source-test.true, c.loop-source.bytes.ok.0)) c.in_err-take_piece.field-0.0 c.in_err-take_piece.ensures)

pub returns-then-branch : goal.returns-then-branch
returns-then-branch g c =
    let source = g.S.Source in
    let inv = c.loop-source.invariant in
    let b = source.stream c.loop-source.source in
    let d = source.stream c.take_piece.new.source in
    let taken : TakesPiece b c.loop-source.bytes.items (Ok true) c.take_piece.new.bytes.items d = rw c.if-branch.true at c.in_ok-take_piece.ensures in
    fills_end (source.stream c.args.source.now) b d c.args.bytes.now.items inv.came.0 c.loop-source.bytes.items c.take_piece.new.bytes.items c.args.most inv.came.1 inv.came.2 (omega (arith, c.loop-source-test.true, c.loop-source.bytes.ok.0)) taken

pub loop-source-preserved : goal.loop-source-preserved
loop-source-preserved g c =
    let source = g.S.Source in
    let inv = c.loop-source.invariant in
    let b = source.stream c.loop-source.source in
    let d = source.stream c.take_piece.new.source in
    let low : length c.loop-source.bytes.items ≤ c.args.most = omega (arith, c.loop-source-test.true, c.loop-source.bytes.ok.0) in
    let taken : TakesPiece b c.loop-source.bytes.items (Ok false) c.take_piece.new.bytes.items d = rw c.if-branch.false at c.in_ok-take_piece.ensures in
    record {
      came = fills_more (source.stream c.args.source.now) b d c.args.bytes.now.items inv.came.0 c.loop-source.bytes.items c.take_piece.new.bytes.items c.args.most inv.came.1 inv.came.2 low false taken;
      few = (taken_few b d c.loop-source.bytes.items c.take_piece.new.bytes.items c.args.most low taken).0;
      buffer = omega (arith, c.take_piece.auto.buffer, inv.buffer);
    }

pub returns : goal.returns
returns g c =
    let inv = c.loop-source.invariant in
    (inv.came.0, inv.came.1, inv.came.2, (omega (arith, c.loop-source-test.false, c.loop-source.bytes.ok.0), inv.few))
