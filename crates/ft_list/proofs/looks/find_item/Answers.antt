use Rattle.std.proofs.Common.{◌≡◌, ◌<◌, ℕ, List, [], ◌∷◌, ◌++◌, sym, ap, ◌∙◌, subst, append_assoc}
use Rattle.ft_trace.specs.declared.Act.{Act}
use Rattle.ft_trace.specs.declared.Act.TheVariants.{ReadRoot}
use Rattle.ft_trace.specs.Acts.{announces}
use Rattle.ft_bank.specs.Passes.{shape_of, view}
use Rattle.ft_list.specs.ItemLooks.{ShowsFound}
use Rattle.ft_list.proofs.LookRounds.{found_in, falls}
use Rattle.ft_search.proofs.Running.{did_trans, did_log}
use Rattle.ft_search.proofs.LookSteps.{looked_by, looked_few, looked_then, steps_announce, steps_append}
use Rattle.ft_list.proofs.looks.find_item.Goals as goal

pub rounds-init : goal.rounds-init
rounds-init c =
    let did = c.read_root-root.ensures.did in
    record {
      pass = (did.0 ∙ c.requires.pass.0, ap (λ v. v.shape) did.1 ∙ c.requires.pass.1);
      table = c.read_root-root.ensures.table;
      made = ([], tt, looked_by (ReadRoot c.args.o c.read_root-root.result ∷ []) c.args.pass.now c.read_root-root.new.pass tt did, did);
    }

pub look_round-requires-clause-online : goal.look_round-requires-clause-online
look_round-requires-clause-online c =
    let m = c.rounds.invariant.made in
    let acts : List Act = ReadRoot c.args.o c.rounds.root ∷ m.0 in
    let same : announces (view c.rounds.pass).log ≡ announces (view c.args.pass.now).log = ap announces (did_log acts c.args.pass.now c.rounds.pass m.3) ∙ steps_announce acts (view c.args.pass.now).log m.1 in
    subst (λ (z : ℕ). 0 < z) (sym same) c.requires.online

pub look_round-requires-clause-last : goal.look_round-requires-clause-last
look_round-requires-clause-last c =
    let m = c.rounds.invariant.made in
    (m.0 ++ (view c.args.pass.now).log, did_log (ReadRoot c.args.o c.rounds.root ∷ m.0) c.args.pass.now c.rounds.pass m.3)

pub look_round-requires-clause-settled : goal.look_round-requires-clause-settled
look_round-requires-clause-settled c = c.rounds.invariant.made.2.made.settled c.requires.settled

pub look_round-requires-clause-few : goal.look_round-requires-clause-few
look_round-requires-clause-few c = looked_few (view c.args.pass.now) (view c.rounds.pass) c.rounds.invariant.made.2 c.requires.few

pub returns-in-Ended-clause-keeps : goal.returns-in-Ended-clause-keeps
returns-in-Ended-clause-keeps c =
    let e = c.in-Ended.ensures.ended in
    looked_then (view c.args.pass.now) (view c.rounds.pass) (view c.look_round.new.pass) c.rounds.invariant.made.2 e.2

pub returns-in-Ended-clause-looked : goal.returns-in-Ended-clause-looked
returns-in-Ended-clause-looked c =
    let m = c.rounds.invariant.made in
    let old : List Act = ReadRoot c.args.o c.rounds.root ∷ m.0 in
    let e = c.in-Ended.ensures.ended in
    let k = shape_of c.args.bank.now in
    let log = (view c.look_round.new.pass).log in
    let one : List Act = ReadRoot c.args.o c.rounds.root ∷ [] in (
      e.0 ++ old,
      steps_append e.0 old e.1 m.1,
      did_trans e.0 old c.args.pass.now c.rounds.pass c.look_round.new.pass m.3 e.3,
      subst (λ (z : List Act). ShowsFound k c.args.o c.args.index z log c.in-Ended.found) (append_assoc e.0 one m.0) (found_in k c.args.o c.args.index (e.0 ++ one) m.0 log c.in-Ended.found e.4),
    )

pub rounds-smaller : goal.rounds-smaller
rounds-smaller c = falls (shape_of c.args.bank.now) c.args.o c.args.index c.rounds.root c.in-Moved.next c.rounds.pass c.look_round.new.pass c.in-Moved.ensures.ended

pub rounds-preserved : goal.rounds-preserved
rounds-preserved c =
    let m = c.rounds.invariant.made in
    let old : List Act = ReadRoot c.args.o c.rounds.root ∷ m.0 in
    let e = c.in-Moved.ensures.ended in
    record {
      pass = c.look_round.ensures.pass;
      table = λ t is. (e.4 t is).0;
      made = (
        e.0 ++ old,
        steps_append e.0 old e.1.0.0 m.1,
        looked_then (view c.args.pass.now) (view c.rounds.pass) (view c.look_round.new.pass) m.2 e.1.1,
        did_trans (ReadRoot c.args.o c.in-Moved.next ∷ e.0) old c.args.pass.now c.rounds.pass c.look_round.new.pass m.3 e.2,
      );
    }
