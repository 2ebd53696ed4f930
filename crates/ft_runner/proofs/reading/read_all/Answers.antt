use Rattle.std.proofs.Common.{◌≡◌, ℕ, List, [], ◌++◌, false, sym, subst, arith, length, take, drop, ap, ◌∙◌, ◌+◌}
use Rattle.std.proofs.lemmas.Bool.{lt-ltb, le-ltb}
use Rattle.std.proofs.lemmas.List.{append-nil, with_items_is, length-append, length-take-le}
use Rattle.ft_runner.specs.Transfers.{GivesBytes}
use Rattle.ft_runner.proofs.StreamLemmas.{GivesBytes-none, GivesBytes-then, GivesBytes-fails}
use Rattle.ft_runner.proofs.reading.read_all.Goals as goal

pub loop-init : goal.loop-init
loop-init g c =
    let source = g.S.Source in
    record {
      gives = rw c.new-bytes.ensures.items (GivesBytes-none (source.stream c.args.source.now));
      few = rw c.new-bytes.ensures.items (omega arith);
      turns = omega arith;
      buffer = c.in-Ok.ensures;
    }

pub returns-in-Err : goal.returns-in-Err
returns-in-Err g c =
    let source = g.S.Source in
    record {
      came = c.loop.bytes.items;
      gives = GivesBytes-fails (source.stream c.args.source.now) (source.stream c.loop.source) (source.stream c.take.new.self) c.loop.bytes.items c.loop.invariant.gives c.in-Err.ensures.failed c.in-Err.ensures.faults;
      too_long = sym (le-ltb 4194304 (length c.loop.bytes.items) c.loop.invariant.few);
      few = omega (arith, c.loop.invariant.few);
    }

pub returns-then-count-eq0 : goal.returns-then-count-eq0
returns-then-count-eq0 g c =
    let source = g.S.Source in
    let a = source.stream c.args.source.now in
    let b = source.stream c.loop.source in
    let d = source.stream c.take.new.self in
    let none : GivesBytes b [] false d = record { content = rw c.if-count-eq0.true at c.in-Ok-take.ensures.bytes; faults = c.in-Ok-take.ensures.faults } in
    record {
      gives = subst (λ (bytes : List ℕ). GivesBytes a bytes false d) (append-nil c.loop.bytes.items) (GivesBytes-then a b d c.loop.bytes.items [] false c.loop.invariant.gives none);
      few = c.loop.invariant.few;
      ended = c.in-Ok-take.ensures.end c.if-count-eq0.true (omega (arith, c.loop.invariant.buffer));
    }

pub returns-then-count-len : goal.returns-then-count-len
returns-then-count-len g c =
    let source = g.S.Source in
    let a = source.stream c.args.source.now in
    let b = source.stream c.loop.source in
    let d = source.stream c.take.new.self in
    let piece = take c.in-Ok-take.count c.take.new.buf in
    record {
      came = c.loop.bytes.items ++ piece;
      gives = GivesBytes-then a b d c.loop.bytes.items piece false c.loop.invariant.gives (record { content = c.in-Ok-take.ensures.bytes; faults = c.in-Ok-take.ensures.faults });
      too_long = sym (lt-ltb 4194304 (length (c.loop.bytes.items ++ piece)) (omega (arith, length-append c.loop.bytes.items piece, length-take-le c.in-Ok-take.count c.take.new.buf (omega (arith, c.take.auto.buf, c.in-Ok-take.ensures.count)))));
      few = omega (arith, length-append c.loop.bytes.items piece, length-take-le c.in-Ok-take.count c.take.new.buf (omega (arith, c.take.auto.buf, c.in-Ok-take.ensures.count)), c.in-Ok-take.ensures.count, c.take.auto.buf, c.deref_mut.ensures.len, c.loop.invariant.buffer, c.loop.buffer.ok.0, c.loop.invariant.few);
    }

pub returns-in_default-extend_from_slice : goal.returns-in_default-extend_from_slice
returns-in_default-extend_from_slice g c =
    let source = g.S.Source in
    let a = source.stream c.args.source.now in
    let b = source.stream c.loop.source in
    let d = source.stream c.take.new.self in
    let piece = take c.in-Ok-take.count c.take.new.buf in
    record {
      came = c.loop.bytes.items ++ piece;
      gives = GivesBytes-then a b d c.loop.bytes.items piece false c.loop.invariant.gives (record { content = c.in-Ok-take.ensures.bytes; faults = c.in-Ok-take.ensures.faults });
      too_long = sym (le-ltb 4194304 (length (c.loop.bytes.items ++ piece)) (omega (arith, length-append c.loop.bytes.items piece, length-take-le c.in-Ok-take.count c.take.new.buf (omega (arith, c.take.auto.buf, c.in-Ok-take.ensures.count)))));
      few = omega (arith, length-append c.loop.bytes.items piece, length-take-le c.in-Ok-take.count c.take.new.buf (omega (arith, c.take.auto.buf, c.in-Ok-take.ensures.count)), c.in-Ok-take.ensures.count, c.take.auto.buf, c.deref_mut.ensures.len, c.loop.invariant.buffer, c.loop.buffer.ok.0, c.loop.invariant.few);
    }

pub loop-preserved : goal.loop-preserved
loop-preserved g c =
    let source = g.S.Source in
    let a = source.stream c.args.source.now in
    let b = source.stream c.loop.source in
    let d = source.stream c.take.new.self in
    let old = c.loop.bytes.items in
    let read = c.take.new.buf in
    let piece = take c.in-Ok-take.count read in
    let whole : length read ≡ c.loop.buffer.len = omega (arith, c.take.auto.buf, c.deref_mut.ensures.len) in
    let same : take c.loop.buffer.len (read ++ drop (length read) c.loop.buffer.items) ≡ read = with_items_is c.loop.buffer read whole in
    let there : c.deref.result.now ≡ read = c.deref.ensures.value ∙ same in
    let items : c.extend_from_slice.new.self.items ≡ old ++ piece = rw there at c.in-Ok-extend_from_slice.ensures.items in
    let size : length piece ≡ c.in-Ok-take.count = length-take-le c.in-Ok-take.count read (omega (arith, c.take.auto.buf, c.in-Ok-take.ensures.count)) in
    let count : length c.extend_from_slice.new.self.items ≡ length old + c.in-Ok-take.count = ap length items ∙ omega (arith, length-append old piece, size) in
    record {
      gives = rw items (GivesBytes-then a b d old piece false c.loop.invariant.gives (record { content = c.in-Ok-take.ensures.bytes; faults = c.in-Ok-take.ensures.faults }));
      few = omega (arith, count, c.loop.invariant.few);
      turns = omega (arith, count, c.loop.invariant.turns);
      buffer = omega (arith, ap length same, whole, c.loop.invariant.buffer, c.loop.buffer.ok.0);
    }
