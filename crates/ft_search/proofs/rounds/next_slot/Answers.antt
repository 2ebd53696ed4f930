use Rattle.std.proofs.lemmas.Option.{none-some}
use Rattle.std.proofs.Common.{[], ◌∷◌, refl, sym}
use Rattle.ft_trace.specs.declared.Act.TheVariants.{ReadCounter}
use Rattle.ft_keys.proofs.SlotTries.{front-of, none-left}
use Rattle.ft_bank.specs.Passes.{shape_of}
use Rattle.ft_bank.specs.TableNames.{table_id}
use Rattle.ft_search.specs.declared.looks.Looked.TheVariants.{Absent}
use Rattle.ft_search.proofs.Bounding.{walks_more}
use Rattle.ft_search.proofs.LookSteps.{in_round_by}
use Rattle.ft_search.proofs.Running.{did_none}
use Rattle.ft_search.proofs.SearchEnds.{closes_full}
use Rattle.ft_search.proofs.rounds.next_slot.Goals as goal

pub returns-in-Some-clause-next : goal.returns-in-Some-clause-next
returns-in-Some-clause-next c = (c.in-Some.ensures.within, front-of c.args.walk.now.left c.in-Some.slot c.in-Some.ensures.next)

pub returns-in-Some-clause-turns : goal.returns-in-Some-clause-turns
returns-in-Some-clause-turns c key earlier w =
    let p = c.args.words.now.pass.now in
    ([], in_round_by [] p p tt tt (did_none p), did_none p, w)

pub returns-in-Some-clause-spends : goal.returns-in-Some-clause-spends
returns-in-Some-clause-spends c walked acts may = ([], did_none c.args.words.now.pass.now, (c.args.walk.now.left, may.0), λ _. may)

pub returns-in-None-clause-turns : goal.returns-in-None-clause-turns
returns-in-None-clause-turns c key earlier w =
    let s = c.args.words.now in
    let n = c.stamp-number.result in
    let left = c.args.walk.now.left in
    (ReadCounter n ∷ [], in_round_by (ReadCounter n ∷ []) s.pass.now c.stamp-number.new.self.pass.now tt tt c.stamp-number.ensures.did, c.stamp-number.ensures.did, closes_full (shape_of s.bank.now) s.o (table_id s.table) key n left earlier w (none-left left c.in-None.ensures.next))

pub returns-in-None-clause-spends : goal.returns-in-None-clause-spends
returns-in-None-clause-spends c walked acts may =
    let t = table_id c.args.words.now.table in
    let n = c.stamp-number.result in
    let left = c.args.walk.now.left in (
      ReadCounter n ∷ [],
      c.stamp-number.ensures.did,
      (left, walks_more t walked (ReadCounter n ∷ []) acts left (λ u. refl) may.0),
      λ no. absurd (none-some (Absent n) (sym no)),
    )
