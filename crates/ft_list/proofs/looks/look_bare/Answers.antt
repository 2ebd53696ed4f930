use Rattle.std.proofs.Common.{◌≡◌, ◌≢◌, ◌⊎◌, ◌%◌, List, [], ◌∷◌, inl, inr, arith}
use Rattle.std.specs.Prelude.{pos}
use Rattle.ft_model.specs.declared.data.Key.TheVariants as key
use Rattle.ft_trace.specs.declared.Act.{Act}
use Rattle.ft_trace.specs.declared.Act.TheVariants.{ReadRoot}
use Rattle.ft_bank.specs.Passes.{shape_of}
use Rattle.ft_search.proofs.LookSteps.{looked_by}
use Rattle.ft_search.proofs.Rounding.{bare_moved, bare_acts, bare_did, bare_stops}
use Rattle.ft_list.proofs.LookRounds.{bare_past}
use Rattle.ft_list.proofs.looks.look_bare.Goals as goal
use Rattle.ft_list.proofs.looks.look_bare.Goals.{then-closed-opened-via-then-closed-opened, then-closed-opened-via-else-closed-opened+then-opened-ne0}

pub returns-then-root-ne0-clause-ended : goal.returns-then-root-ne0-clause-ended
returns-then-root-ne0-clause-ended c index =
    bare_moved (shape_of c.args.bank.now) c.args.o (key.Int (pos 0)) c.args.pass.now c.seq-opened.new.pass c.read_root-root.new.pass c.requires.last.0
    c.seq-opened.result c.read_root-root.result c.requires.last.1 c.seq-opened.ensures c.read_root-root.ensures.did c.if-root-ne0.true
    c.read_root-root.ensures.table c.read_root-root.ensures.changed

pub returns-then-closed-opened-clause-ended : goal.returns-then-closed-opened-clause-ended
returns-then-closed-opened-clause-ended c index =
    let o = c.args.o in
    let none : c.read_root-root.result ≡ 0 = omega (arith, c.if-root-ne0.false) in
    let why : (c.seq-opened.result % 2 ≢ 0) ⊎ (c.seq-closed.result ≢ c.seq-opened.result) = elim c.then-closed-opened.branch [ then-closed-opened-via-then-closed-opened w ↦ inr w.if-closed-opened.true | then-closed-opened-via-else-closed-opened+then-opened-ne0 w ↦ inl w.if-opened-ne0.true ] in
    let old : List Act = ReadRoot o 0 ∷ [] in
    let acts = bare_acts o c.seq-closed.result c.stamp-number.result c.read_root-root.result c.seq-opened.result in
    let did = bare_did o c.seq-closed.result c.stamp-number.result c.read_root-root.result c.seq-opened.result c.args.pass.now c.seq-opened.new.pass c.read_root-root.new.pass c.stamp-number.new.pass c.seq-closed.new.pass c.seq-opened.ensures c.read_root-root.ensures.did c.stamp-number.ensures.did c.seq-closed.ensures in (
      acts,
      tt,
      looked_by acts c.args.pass.now c.seq-closed.new.pass tt did,
      did,
      inl (inr (bare_stops o c.seq-closed.result c.stamp-number.result c.read_root-root.result c.seq-opened.result old none why)),
    )

pub returns-clause-ended : goal.returns-clause-ended
returns-clause-ended c index =
    let o = c.args.o in
    let none : c.read_root-root.result ≡ 0 = omega (arith, c.if-root-ne0.false) in
    let same : c.seq-closed.result ≡ c.seq-opened.result = omega (arith, c.if-closed-opened.false) in
    let even : c.seq-opened.result % 2 ≡ 0 = omega (arith, c.if-opened-ne0.false) in
    bare_past (shape_of c.args.bank.now) o c.seq-closed.result c.stamp-number.result c.read_root-root.result c.seq-opened.result index c.args.pass.now c.seq-closed.new.pass
    (bare_did o c.seq-closed.result c.stamp-number.result c.read_root-root.result c.seq-opened.result c.args.pass.now c.seq-opened.new.pass c.read_root-root.new.pass c.stamp-number.new.pass c.seq-closed.new.pass c.seq-opened.ensures c.read_root-root.ensures.did c.stamp-number.ensures.did c.seq-closed.ensures)
    none same even
