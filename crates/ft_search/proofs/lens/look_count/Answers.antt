use Rattle.std.proofs.Common.{◌≡◌, ◌≢◌, ◌⊎◌, ◌%◌, inl, inr, arith}
use Rattle.ft_search.proofs.Lengths.{count_acts, count_did, count_stops, count_shows}
use Rattle.ft_search.proofs.lens.look_count.Goals as goal
use Rattle.ft_search.proofs.lens.look_count.Goals.{then-closed-opened-via-then-closed-opened, then-closed-opened-via-else-closed-opened+then-opened-ne0}

pub returns-then-closed-opened-clause-looked : goal.returns-then-closed-opened-clause-looked
returns-then-closed-opened-clause-looked c =
    let o = c.args.o in
    let why : (c.seq-opened.result % 2 ≢ 0) ⊎ (c.seq-closed.result ≢ c.seq-opened.result) = elim c.then-closed-opened.branch [ then-closed-opened-via-then-closed-opened w ↦ inr w.if-closed-opened.true | then-closed-opened-via-else-closed-opened+then-opened-ne0 w ↦ inl w.if-opened-ne0.true ] in (
      count_acts o c.seq-closed.result c.stamp-number.result c.read_block-count.result c.seq-opened.result,
      tt,
      count_did o c.seq-closed.result c.stamp-number.result c.read_block-count.result c.seq-opened.result c.args.pass.now c.seq-opened.new.pass c.read_block-count.new.pass c.stamp-number.new.pass c.seq-closed.new.pass c.seq-opened.ensures c.read_block-count.ensures.did c.stamp-number.ensures.did c.seq-closed.ensures,
      count_stops o c.seq-closed.result c.stamp-number.result c.read_block-count.result c.seq-opened.result why,
    )

pub returns-clause-looked : goal.returns-clause-looked
returns-clause-looked c =
    let o = c.args.o in
    let same : c.seq-closed.result ≡ c.seq-opened.result = omega (arith, c.if-closed-opened.false) in
    let even : c.seq-opened.result % 2 ≡ 0 = omega (arith, c.if-opened-ne0.false) in (
      count_acts o c.seq-closed.result c.stamp-number.result c.read_block-count.result c.seq-opened.result,
      tt,
      count_did o c.seq-closed.result c.stamp-number.result c.read_block-count.result c.seq-opened.result c.args.pass.now c.seq-opened.new.pass c.read_block-count.new.pass c.stamp-number.new.pass c.seq-closed.new.pass c.seq-opened.ensures c.read_block-count.ensures.did c.stamp-number.ensures.did c.seq-closed.ensures,
      count_shows o c.seq-closed.result c.stamp-number.result c.read_block-count.result c.seq-opened.result same even,
    )
