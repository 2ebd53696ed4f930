use Rattle.std.proofs.Common.{arith, ◌≡◌, ◌<◌, ℕ, List, [], ◌∷◌, ◌++◌, refl, sym, ap, ◌∙◌, subst, inl}
use Rattle.ft_trace.specs.declared.Act.{Act}
use Rattle.ft_trace.specs.declared.Act.TheVariants.{ReadTable, ReadCounter}
use Rattle.ft_trace.specs.Addresses.{class_of, size}
use Rattle.ft_trace.specs.LoggedReads.{Among}
use Rattle.ft_trace.specs.Pictures.{item_offset}
use Rattle.ft_trace.specs.SeenBoxes.{SawBox}
use Rattle.ft_bank.specs.Passes.{shape_of, view}
use Rattle.ft_bank.specs.Series.{DidAll}
use Rattle.ft_bank.specs.TableNames.{table_id}
use Rattle.ft_search.specs.LookSteps.{InRound, SeesInBox}
use Rattle.ft_search.specs.declared.raising.SeenBox.TheVariants as box
use Rattle.ft_search.proofs.LookSteps.{in_round_by, in_round_then, looked_few}
use Rattle.ft_search.proofs.Running.{did_log, did_trans}
use Rattle.ft_list.specs.ItemLooks.{SeesWholeItem, StopsInItem}
use Rattle.ft_list.proofs.Cares.{few_slots, inside}
use Rattle.ft_list.proofs.LookRounds.{saw_item, stopped_item, whole_item}
use Rattle.ft_list.proofs.looks.see_item.Goals as goal
use Rattle.ft_list.proofs.looks.see_item.Goals.{After-load_word-value}

-- the three loads before the value
module _ (c : After-load_word-value) where
  abbrev load : ℕ → ℕ → Act
  load w f = ReadTable (table_id c.args.table) (item_offset c.args.index w) f

  abbrev words : List Act
  words = load 2 c.load_word-value.result ∷ (load 1 c.load_word-kind.result ∷ (load 0 c.load_word-opened.result ∷ []))

  words_did : DidAll words c.args.pass.now c.load_word-value.new.pass
  words_did =
      let p = c.args.pass.now in
      let q = c.load_word-opened.new.pass in
      let r = c.load_word-kind.new.pass in
      let one : List Act = load 0 c.load_word-opened.result ∷ [] in
      did_trans (load 2 c.load_word-value.result ∷ []) (load 1 c.load_word-kind.result ∷ one) p r c.load_word-value.new.pass
      (did_trans (load 1 c.load_word-kind.result ∷ []) one p q r c.load_word-opened.ensures.did c.load_word-kind.ensures.did) c.load_word-value.ensures.did

  words_round : InRound words c.args.pass.now c.load_word-value.new.pass
  words_round = in_round_by words c.args.pass.now c.load_word-value.new.pass tt tt words_did

pub word_at-requires-clause-place : goal.word_at-requires-clause-place
word_at-requires-clause-place c =
    let f = few_slots (shape_of c.args.bank.now) c.args.table c.requires.table in
    let low = c.requires.index in
    omega (arith, f, low)

pub see_in_box-requires-clause-version : goal.see_in_box-requires-clause-version
see_in_box-requires-clause-version c =
    subst (λ (z : ℕ). z < size (class_of (table_id c.args.table))) (sym c.word_at.ensures) (inside (shape_of c.args.bank.now) c.args.table c.requires.table c.args.index 0 c.requires.index (omega arith))

pub see_in_box-requires-clause-settled : goal.see_in_box-requires-clause-settled
see_in_box-requires-clause-settled c = let a = (goal.at.see_in_box-requires-clause-settled c).After-load_word-value in (words_round a).1.made.settled c.requires.settled

pub see_in_box-requires-clause-few : goal.see_in_box-requires-clause-few
see_in_box-requires-clause-few c = let a = (goal.at.see_in_box-requires-clause-few c).After-load_word-value in looked_few (view c.args.pass.now) (view c.load_word-value.new.pass) (words_round a).1 c.requires.few

pub see_in_box-requires-clause-saw : goal.see_in_box-requires-clause-saw
see_in_box-requires-clause-saw c even =
    let a = (goal.at.see_in_box-requires-clause-saw c).After-load_word-value in
    let four : load a 1 c.load_word-kind.result ≡ load a 1 4 = ap (load a 1) c.if-kind-eq-BOX_KIND.true in
    let older = (view c.args.pass.now).log in
    subst (λ (n : ℕ). SawBox (shape_of c.args.bank.now) c.load_word-value.result (ReadTable (table_id c.args.table) n c.load_word-opened.result ∷ (view c.load_word-value.new.pass).log)) (sym c.word_at.ensures)
    (saw_item (table_id c.args.table) c.args.index c.load_word-opened.result c.load_word-value.result c.requires.index (shape_of c.args.bank.now) c.args.o (view c.load_word-value.new.pass).log older c.requires.container c.requires.list even
    (did_log (words a) c.args.pass.now c.load_word-value.new.pass (words_did a) ∙ (λ d. load a 2 c.load_word-value.result ∷ (four d ∷ (load a 0 c.load_word-opened.result ∷ older)))) c.requires.named)

pub returns-in-Read-clause-looks : goal.returns-in-Read-clause-looks
returns-in-Read-clause-looks c =
    let a = (goal.at.returns-in-Read-clause-looks c).After-load_word-value in
    let p = c.args.pass.now in
    let q = c.load_word-value.new.pass in
    let r = c.see_in_box.new.pass in
    let t = table_id c.args.table in
    let h = c.in-Read.ensures.looks in
    let four : load a 1 c.load_word-kind.result ≡ load a 1 4 = ap (load a 1) c.if-kind-eq-BOX_KIND.true in
    let sees : SeesInBox t (item_offset c.args.index 0) c.load_word-opened.result c.load_word-value.result h.0 (box.Read c.in-Read.found) = subst (λ (n : ℕ). SeesInBox t n c.load_word-opened.result c.load_word-value.result h.0 (box.Read c.in-Read.found)) c.word_at.ensures h.3 in (
      h.0 ++ words a,
      in_round_then h.0 (words a) p q r (words_round a) (h.1, c.see_in_box.ensures.keeps),
      did_trans h.0 (words a) p q r (words_did a) h.2,
      subst (λ (x : Act). SeesWholeItem t c.args.index (record { opened = c.load_word-opened.result; kind = c.in-Read.found.kind; value = c.in-Read.found.value; number = c.in-Read.found.number; closed = c.in-Read.found.closed }) (h.0 ++ load a 2 c.load_word-value.result ∷ (x ∷ (load a 0 c.load_word-opened.result ∷ [])))) (sym four)
          (whole_item t c.args.index c.load_word-opened.result c.load_word-value.result c.requires.index h.0 c.in-Read.found sees),
    )

pub returns-in-Stopped-clause-looks : goal.returns-in-Stopped-clause-looks
returns-in-Stopped-clause-looks c =
    let a = (goal.at.returns-in-Stopped-clause-looks c).After-load_word-value in
    let p = c.args.pass.now in
    let q = c.load_word-value.new.pass in
    let r = c.see_in_box.new.pass in
    let t = table_id c.args.table in
    let h = c.in-Stopped.ensures.looks in
    let four : load a 1 c.load_word-kind.result ≡ load a 1 4 = ap (load a 1) c.if-kind-eq-BOX_KIND.true in
    let x = c.in-Stopped.first in
    let y = c.in-Stopped.found in
    let sees : SeesInBox t (item_offset c.args.index 0) c.load_word-opened.result c.load_word-value.result h.0 (box.Stopped x y) = subst (λ (n : ℕ). SeesInBox t n c.load_word-opened.result c.load_word-value.result h.0 (box.Stopped x y)) c.word_at.ensures h.3 in (
      h.0 ++ words a,
      in_round_then h.0 (words a) p q r (words_round a) (h.1, c.see_in_box.ensures.keeps),
      did_trans h.0 (words a) p q r (words_did a) h.2,
      subst (λ (z : Act). StopsInItem t c.args.index x y (h.0 ++ load a 2 c.load_word-value.result ∷ (z ∷ (load a 0 c.load_word-opened.result ∷ [])))) (sym four)
          (stopped_item t c.args.index c.load_word-opened.result c.load_word-value.result c.requires.index h.0 x y sees),
    )

pub returns-clause-looks : goal.returns-clause-looks
returns-clause-looks c =
    let a = (goal.at.returns-clause-looks c).After-load_word-value in
    let p = c.args.pass.now in
    let q = c.load_word-value.new.pass in
    let r = c.stamp-number.new.pass in
    let s = c.load_word-closed.new.pass in
    let stamped : Act = ReadCounter c.stamp-number.result in
    let closed : Act = load a 0 c.load_word-closed.result in
    let kind_load : Act = load a 1 c.load_word-kind.result in
    let value_load : Act = load a 2 c.load_word-value.result in
    let mid : List Act = value_load ∷ (kind_load ∷ []) in
    let all : List Act = closed ∷ (stamped ∷ words a) in
    let did : DidAll all p s = did_trans (closed ∷ []) (stamped ∷ words a) p r s (did_trans (stamped ∷ []) (words a) p q r (words_did a) c.stamp-number.ensures.did) c.load_word-closed.ensures.did in
    let kind_among : Among kind_load mid = record { newer = value_load ∷ []; rest = []; is = refl } in (
      all,
      in_round_by all p s tt tt did,
      did,
      record { dropped = []; drops = tt; mid = mid; is = refl; value = inl ((c.load_word-kind.result, c.if-kind-eq-BOX_KIND.false, kind_among), kind_among, record { newer = []; rest = kind_load ∷ []; is = refl }) },
    )
