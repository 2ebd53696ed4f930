use Rattle.std.proofs.Common.{◌≡◌, ◌≢◌, ◌⊎◌, ◌%◌, ℤ, inl, inr, subst, arith}
use mir.Syntax.{w64}
use mir.Val.{to_z, of_z}
use Rattle.std.proofs.Math.Facts.{to_z-of_z}
use Rattle.ft_bank.specs.Passes.{shape_of}
use Rattle.ft_list.specs.Indexes.{IsItemNamed}
use Rattle.ft_list.proofs.Indexes.{between_acts, between_did, between_looks, between_stops, between_shows}
use Rattle.ft_reads.specs.Reads.{ShowsRead}
use Rattle.ft_list.proofs.indexing.read_between.Goals as goal
use Rattle.ft_list.proofs.indexing.read_between.Goals.{then-closed-opened-via-then-closed-opened, then-closed-opened-via-else-closed-opened+then-opened-ne0}

pub returns-then-closed-opened-clause-looked : goal.returns-then-closed-opened-clause-looked
returns-then-closed-opened-clause-looked c =
    let o = c.args.l in
    let r = c.read_named-found.ensures.reads in
    let why : (c.seq-opened.result % 2 ≢ 0) ⊎ (c.seq-closed.result ≢ c.seq-opened.result) = elim c.then-closed-opened.branch [ then-closed-opened-via-then-closed-opened w ↦ inr w.if-closed-opened.true | then-closed-opened-via-else-closed-opened+then-opened-ne0 w ↦ inl w.if-opened-ne0.true ] in (
      between_acts o c.seq-closed.result c.stamp-number.result r.0 c.seq-opened.result,
      between_looks o c.seq-closed.result c.stamp-number.result r.0 c.seq-opened.result r.1,
      between_did o c.seq-closed.result c.stamp-number.result r.0 c.seq-opened.result c.args.pass.now c.seq-opened.new.pass c.read_named-found.new.pass c.stamp-number.new.pass c.seq-closed.new.pass c.seq-opened.ensures r.2 c.stamp-number.ensures.did c.seq-closed.ensures,
      between_stops o c.seq-closed.result c.stamp-number.result r.0 c.seq-opened.result why,
    )

pub returns-clause-looked : goal.returns-clause-looked
returns-clause-looked c =
    let o = c.args.l in
    let r = c.read_named-found.ensures.reads in
    let same : c.seq-closed.result ≡ c.seq-opened.result = omega (arith, c.if-closed-opened.false) in
    let even : c.seq-opened.result % 2 ≡ 0 = omega (arith, c.if-opened-ne0.false) in
    let k = shape_of c.args.bank.now in
    let found = c.read_named-found.result in
    let index : to_z w64 (of_z w64 c.args.index) ≡ c.args.index = to_z-of_z {w = w64} {z = c.args.index} c.ranges.index in
    let shows = subst (λ (i : ℤ). ShowsRead k o r.0 (IsItemNamed k i found)) index r.3 in (
      between_acts o c.seq-closed.result c.stamp-number.result r.0 c.seq-opened.result,
      between_looks o c.seq-closed.result c.stamp-number.result r.0 c.seq-opened.result r.1,
      between_did o c.seq-closed.result c.stamp-number.result r.0 c.seq-opened.result c.args.pass.now c.seq-opened.new.pass c.read_named-found.new.pass c.stamp-number.new.pass c.seq-closed.new.pass c.seq-opened.ensures r.2 c.stamp-number.ensures.did c.seq-closed.ensures,
      between_shows k o c.seq-closed.result c.stamp-number.result r.0 c.seq-opened.result c.args.index found same even shows,
    )
