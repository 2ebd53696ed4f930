use Rattle.std.proofs.Common.{List, [], ◌∷◌, subst}
use Rattle.ft_layout.specs.declared.slot.Ref.{Ref}
use Rattle.ft_trace.specs.declared.Act.{Act}
use Rattle.ft_trace.specs.declared.Act.TheVariants.{ReadBox, ReadCounter, ReadTable}
use Rattle.ft_bank.specs.BoxSteps.{box_id}
use Rattle.ft_bank.specs.Passes.{view}
use Rattle.ft_bank.specs.Series.{DidAll}
use Rattle.ft_bank.specs.TableNames.{table_id}
use Rattle.ft_bank.specs.Whole.{OnlyLoaded}
use Rattle.ft_boxes.specs.References.{box_of as box_held}
use Rattle.ft_search.proofs.LoadedLooks.{looks_did}
use Rattle.ft_search.proofs.RaisedReads.{loaded_holds, loaded_settled, loaded_only, loaded_less, loaded_places, loaded_values}
use Rattle.ft_search.proofs.Running.{did_trans}
use Rattle.ft_search.proofs.raising.read_held.Goals as goal
use Rattle.ft_search.proofs.raising.read_held.Goals.{After-read_word-closed}

module _ (c : After-read_word-closed) where
  abbrev loads : List Act
  loads = ReadTable (table_id c.args.table) c.args.version c.read_word-closed.result ∷ (ReadCounter c.stamp-number.result ∷ (ReadBox (box_id (box_held c.args.held)) 2 c.read_box-value.result ∷ (ReadBox (box_id (box_held c.args.held)) 1 c.read_box-kind.result ∷ [])))

  abbrev loads_of : Ref → List Act
  loads_of r = ReadTable (table_id c.args.table) c.args.version c.read_word-closed.result ∷ (ReadCounter c.stamp-number.result ∷ (ReadBox (box_id r) 2 c.read_box-value.result ∷ (ReadBox (box_id r) 1 c.read_box-kind.result ∷ [])))

  read_did : DidAll (loads_of c.at-b.result) c.args.pass.now c.read_word-closed.new.pass
  read_did =
      let p = c.args.pass.now in
      let q = c.read_box-kind.new.pass in
      let r = c.read_box-value.new.pass in
      let s = c.stamp-number.new.pass in
      let t = c.read_word-closed.new.pass in
      let b = box_id c.at-b.result in
      let one : List Act = ReadBox b 1 c.read_box-kind.result ∷ [] in
      let two : List Act = ReadBox b 2 c.read_box-value.result ∷ one in
      let three : List Act = ReadCounter c.stamp-number.result ∷ two in
      did_trans (ReadTable (table_id c.args.table) c.args.version c.read_word-closed.result ∷ []) three p s t
      (did_trans (ReadCounter c.stamp-number.result ∷ []) two p r s (did_trans (ReadBox b 2 c.read_box-value.result ∷ []) one p q r c.read_box-kind.ensures.did c.read_box-value.ensures.did) c.stamp-number.ensures.did)
      c.read_word-closed.ensures.did

  did : DidAll loads c.args.pass.now c.read_word-closed.new.pass
  did = subst (λ (r : Ref). DidAll (loads_of r) c.args.pass.now c.read_word-closed.new.pass) c.at-b.ensures read_did

  only : OnlyLoaded (view c.args.pass.now) (view c.read_word-closed.new.pass)
  only = looks_did loads c.args.pass.now c.read_word-closed.new.pass tt did

pub release-requires-clause-held : goal.release-requires-clause-held
release-requires-clause-held c = let a = (goal.at.release-requires-clause-held c).After-read_word-closed in loaded_holds (view c.args.pass.now) (view c.read_word-closed.new.pass) (only a) (box_held c.args.held) c.requires.held

pub release-requires-clause-settled : goal.release-requires-clause-settled
release-requires-clause-settled c = let a = (goal.at.release-requires-clause-settled c).After-read_word-closed in loaded_settled (view c.args.pass.now) (view c.read_word-closed.new.pass) (only a) c.requires.settled

pub returns-clause-did : goal.returns-clause-did
returns-clause-did c =
    let a = (goal.at.returns-clause-did c).After-read_word-closed in
    let steps = c.release.ensures.steps in
    (steps.0, steps.1, did_trans steps.0 (loads a) c.args.pass.now c.read_word-closed.new.pass c.release.new.pass (did a) steps.2)

pub returns-clause-only : goal.returns-clause-only
returns-clause-only c =
    let a = (goal.at.returns-clause-only c).After-read_word-closed in
    loaded_only (view c.args.pass.now) (view c.read_word-closed.new.pass) (only a) (view c.release.new.pass) (box_held c.args.held) c.release.ensures.only c.release.ensures.less c.release.ensures.places c.release.ensures.values

pub returns-clause-less : goal.returns-clause-less
returns-clause-less c =
    let a = (goal.at.returns-clause-less c).After-read_word-closed in
    loaded_less (view c.args.pass.now) (view c.read_word-closed.new.pass) (only a) (view c.release.new.pass) (box_held c.args.held) c.release.ensures.only c.release.ensures.less c.release.ensures.places c.release.ensures.values

pub returns-clause-places : goal.returns-clause-places
returns-clause-places c =
    let a = (goal.at.returns-clause-places c).After-read_word-closed in
    loaded_places (view c.args.pass.now) (view c.read_word-closed.new.pass) (only a) (view c.release.new.pass) (box_held c.args.held) c.release.ensures.only c.release.ensures.less c.release.ensures.places c.release.ensures.values

pub returns-clause-values : goal.returns-clause-values
returns-clause-values c =
    let a = (goal.at.returns-clause-values c).After-read_word-closed in
    loaded_values (view c.args.pass.now) (view c.read_word-closed.new.pass) (only a) (view c.release.new.pass) (box_held c.args.held) c.release.ensures.only c.release.ensures.less c.release.ensures.places c.release.ensures.values c.args.pass.now.possible
