use Rattle.std.proofs.Common.{true, false, Ok, subst, arith}
use Rattle.std.proofs.lemmas.Result.{err_from_is_err_and}
use Rattle.ft_runner.specs.Internal.Filling.{Fills, HasOpenLine, HasNoOpenLine, TakesPiece}
use Rattle.ft_runner.proofs.InputLemmas.{ends_first, ends_open, reading_first, reading_on, settles, stops_first, stops_open}
use Rattle.ft_runner.proofs.reading.read_script_part.Goals as goal

pub returns-in_err-fill : goal.returns-in_err-fill
returns-in_err-fill g c =
    let source = g.S.Source in
    let r = err_from_is_err_and c.from_residual.result c.from_residual.ensures.1 in
    rw (r.1, r.2) (stops_first (source.stream c.args.source.now) (source.stream c.fill.new.source) c.in_err-fill.field-0.0 c.args.bytes.now.items c.fill.new.bytes.items c.requires.start c.in_err-fill.ensures)

pub returns-then-branch : goal.returns-then-branch
returns-then-branch g c =
    let source = g.S.Source in
    let a = source.stream c.args.source.now in
    let b = source.stream c.fill.new.source in
    let filled : Fills a c.args.bytes.now.items 4194304 (Ok true) c.fill.new.bytes.items b = rw c.if-branch.true at c.in_ok-fill.ensures in
    ends_first a b c.args.bytes.now.items c.fill.new.bytes.items c.requires.start filled

pub loop-source-init : goal.loop-source-init
loop-source-init g c =
    let source = g.S.Source in
    let a = source.stream c.args.source.now in
    let b = source.stream c.fill.new.source in
    let filled : Fills a c.args.bytes.now.items 4194304 (Ok false) c.fill.new.bytes.items b = rw c.if-branch.false at c.in_ok-fill.ensures in
    record {
      reading = reading_first a b c.args.bytes.now.items c.fill.new.bytes.items c.requires.start filled;
      buffer = omega (arith, c.fill.auto.buffer, c.requires.room);
    }

pub returns-in_err-take_piece : goal.returns-in_err-take_piece
returns-in_err-take_piece g c =
    let source = g.S.Source in
    let bytes = c.loop-source.bytes.items in
    let begun : HasOpenLine bytes = subst HasOpenLine c.deref.ensures.value c.loop-source-test.ensures in
    let r = err_from_is_err_and c.from_residual-in_err-take_piece.result c.from_residual-in_err-take_piece.ensures.1 in
    rw (r.1, r.2) (stops_open (source.stream c.args.source.now) (source.stream c.loop-source.source) (source.stream c.take_piece.new.source) bytes c.loop-source.invariant.reading begun c.in_err-take_piece.field-0.0 c.take_piece.new.bytes.items c.in_err-take_piece.ensures)

pub returns-then-branch-2 : goal.returns-then-branch-2
returns-then-branch-2 g c =
    let source = g.S.Source in
    let b = source.stream c.loop-source.source in
    let d = source.stream c.take_piece.new.source in
    let bytes = c.loop-source.bytes.items in
    let begun : HasOpenLine bytes = subst HasOpenLine c.deref.ensures.value c.loop-source-test.ensures in
    let taken : TakesPiece b bytes (Ok true) c.take_piece.new.bytes.items d = rw c.if-branch-2.true at c.in_ok-take_piece.ensures in
    ends_open (source.stream c.args.source.now) b d bytes c.loop-source.invariant.reading begun c.take_piece.new.bytes.items taken

pub loop-source-preserved : goal.loop-source-preserved
loop-source-preserved g c =
    let source = g.S.Source in
    let b = source.stream c.loop-source.source in
    let d = source.stream c.take_piece.new.source in
    let bytes = c.loop-source.bytes.items in
    let begun : HasOpenLine bytes = subst HasOpenLine c.deref.ensures.value c.loop-source-test.ensures in
    let taken : TakesPiece b bytes (Ok false) c.take_piece.new.bytes.items d = rw c.if-branch-2.false at c.in_ok-take_piece.ensures in
    record {
      reading = reading_on (source.stream c.args.source.now) b d bytes c.loop-source.invariant.reading begun c.take_piece.new.bytes.items taken;
      buffer = omega (arith, c.take_piece.auto.buffer, c.loop-source.invariant.buffer);
    }

pub returns : goal.returns
returns g c =
    let source = g.S.Source in
    let bytes = c.loop-source.bytes.items in
    settles (source.stream c.args.source.now) (source.stream c.loop-source.source) bytes c.loop-source.invariant.reading (subst HasNoOpenLine c.deref.ensures.value c.loop-source-test.ensures)
