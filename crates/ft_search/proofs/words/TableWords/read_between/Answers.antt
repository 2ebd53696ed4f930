use Rattle.std.proofs.Common.{◌≡◌, ◌<◌, ℕ, List, [], ◌∷◌, ◌++◌, refl, sym, ap, ◌∙◌, subst, inl}
use Rattle.ft_trace.specs.declared.Act.{Act}
use Rattle.ft_trace.specs.declared.Act.TheVariants.{ReadTable, ReadCounter}
use Rattle.ft_trace.specs.Addresses.{class_of, slots}
use Rattle.ft_trace.specs.ContainerStates.{kind_in}
use Rattle.ft_trace.specs.Kinds.{rows}
use Rattle.ft_trace.specs.LoggedReads.{Among}
use Rattle.ft_trace.specs.Pictures.{entry_offset}
use Rattle.ft_bank.specs.Passes.{view}
use Rattle.ft_bank.specs.Series.{DidAll}
use Rattle.ft_bank.specs.TableNames.{table_id}
use Rattle.ft_search.specs.declared.words.TableWords.{TableWords}
use Rattle.ft_search.specs.LookSteps.{InRound}
use Rattle.ft_search.specs.Rounds.{boxed_acts, NamesBox, SeesEntry}
use Rattle.ft_search.specs.SearchCosts.{LoadsNoIndex}
use Rattle.ft_search.specs.TableWords.{SamePlace}
use Rattle.ft_search.proofs.Bounding.{both_none, word_none}
use Rattle.ft_search.proofs.LookSteps.{in_round_by, in_round_then}
use Rattle.ft_search.proofs.Running.{at_same, back_same, did_log, did_trans, same_trans}
use Rattle.ft_search.proofs.words.TableWords.read_between.Goals as goal
use Rattle.ft_search.proofs.words.TableWords.read_between.Goals.{After-word-value}

-- the four loads before the value
module _ (c : After-word-value) where
  abbrev s0 : TableWords
  s0 = c.args.self.now

  abbrev s4 : TableWords
  s4 = c.word-value.new.self

  abbrev t : ℕ
  t = table_id s0.table

  abbrev load : ℕ → ℕ → Act
  load w f = ReadTable t (entry_offset (slots (class_of t)) c.args.place w) f

  abbrev words : List Act
  words = load 5 c.word-value.result ∷ (load 4 c.word-kind.result ∷ (load 2 c.word-key_kind.result ∷ (load 0 c.word-opened.result ∷ [])))

  same3 : SamePlace s0 c.word-kind.new.self
  same3 = same_trans s0 c.word-key_kind.new.self c.word-kind.new.self (same_trans s0 c.word-opened.new.self c.word-key_kind.new.self c.word-opened.ensures.same c.word-key_kind.ensures.same) c.word-kind.ensures.same

  same4 : SamePlace s0 s4
  same4 = same_trans s0 c.word-kind.new.self s4 same3 c.word-value.ensures.same

  -- a load by one of the same place is one of this table
  load_here : (s r : TableWords) (w f : ℕ) → SamePlace s0 s → DidAll (ReadTable (table_id s.table) (entry_offset (slots (class_of (table_id s.table))) c.args.place w) f ∷ []) s.pass.now r.pass.now → DidAll (load w f ∷ []) s.pass.now r.pass.now
  load_here s r w f same did = at_same (λ _ _ n. DidAll (ReadTable n (entry_offset (slots (class_of n)) c.args.place w) f ∷ []) s.pass.now r.pass.now) s0 s same did

  words_did : DidAll words s0.pass.now s4.pass.now
  words_did =
      let s1 = c.word-opened.new.self in
      let s2 = c.word-key_kind.new.self in
      let s3 = c.word-kind.new.self in
      let same2 = same_trans s0 s1 s2 c.word-opened.ensures.same c.word-key_kind.ensures.same in
      let l1 : List Act = load 0 c.word-opened.result ∷ [] in
      let l2 : List Act = load 2 c.word-key_kind.result ∷ l1 in
      let l3 : List Act = load 4 c.word-kind.result ∷ l2 in
      did_trans (load 5 c.word-value.result ∷ []) l3 s0.pass.now s3.pass.now s4.pass.now
      (did_trans (load 4 c.word-kind.result ∷ []) l2 s0.pass.now s2.pass.now s3.pass.now
      (did_trans (load 2 c.word-key_kind.result ∷ []) l1 s0.pass.now s1.pass.now s2.pass.now c.word-opened.ensures.did (load_here s1 s2 2 c.word-key_kind.result c.word-opened.ensures.same c.word-key_kind.ensures.did))
      (load_here s2 s3 4 c.word-kind.result same2 c.word-kind.ensures.did))
      (load_here s3 s4 5 c.word-value.result same3 c.word-value.ensures.did)

  words_round : InRound words s0.pass.now s4.pass.now
  words_round = in_round_by words s0.pass.now s4.pass.now tt tt words_did

  words_none : LoadsNoIndex words
  words_none =
      let place = c.args.place in
      both_none (load 5 c.word-value.result ∷ []) (load 4 c.word-kind.result ∷ (load 2 c.word-key_kind.result ∷ (load 0 c.word-opened.result ∷ []))) (word_none t place 5 c.word-value.result)
      (both_none (load 4 c.word-kind.result ∷ []) (load 2 c.word-key_kind.result ∷ (load 0 c.word-opened.result ∷ [])) (word_none t place 4 c.word-kind.result)
      (both_none (load 2 c.word-key_kind.result ∷ []) (load 0 c.word-opened.result ∷ []) (word_none t place 2 c.word-key_kind.result) (word_none t place 0 c.word-opened.result)))

-- ---- in its box

pub read_boxed-requires-clause-row : goal.read_boxed-requires-clause-row
read_boxed-requires-clause-row c =
    let a = (goal.at.read_boxed-requires-clause-row c).After-word-value in
    back_same (λ k o n. c.args.place < rows (kind_in k.starts o) (class_of n)) (s0 a) (s4 a) (same4 a) c.requires.row

pub read_boxed-requires-clause-named : goal.read_boxed-requires-clause-named
read_boxed-requires-clause-named c =
    let a = (goal.at.read_boxed-requires-clause-named c).After-word-value in
    let place = c.args.place in
    let named : NamesBox (s0 a).o (t a) place c.word-opened.result c.word-key_kind.result c.word-value.result (view (s4 a).pass.now).log = (
      (view (s0 a).pass.now).log,
      did_log (words a) (s0 a).pass.now (s4 a).pass.now (words_did a) ∙ (λ d. load a 5 c.word-value.result ∷ (load a 4 (c.if-kind-eq-BOX_KIND.true d) ∷ (load a 2 c.word-key_kind.result ∷ (load a 0 c.word-opened.result ∷ (view (s0 a).pass.now).log)))),
      c.requires.can.named,
    ) in
    back_same (λ _ o n. NamesBox o n place c.word-opened.result c.word-key_kind.result c.word-value.result (view (s4 a).pass.now).log) (s0 a) (s4 a) (same4 a) named

pub returns-then-kind-eq-BOX_KIND-clause-looks : goal.returns-then-kind-eq-BOX_KIND-clause-looks
returns-then-kind-eq-BOX_KIND-clause-looks c =
    let a = (goal.at.returns-then-kind-eq-BOX_KIND-clause-looks c).After-word-value in
    let place = c.args.place in
    let s5 = c.read_boxed.new.self in
    let h = c.read_boxed.ensures.looks in
    let four : load a 4 c.word-kind.result ≡ load a 4 4 = ap (load a 4) c.if-kind-eq-BOX_KIND.true in
    let here : SeesEntry (t a) place (h.0 ++ boxed_acts (t a) place c.word-opened.result c.word-key_kind.result c.word-value.result) c.read_boxed.result = at_same (λ _ _ n. SeesEntry n place (h.0 ++ boxed_acts n place c.word-opened.result c.word-key_kind.result c.word-value.result) c.read_boxed.result) (s0 a) (s4 a) (same4 a) h.4 in (
      h.0 ++ words a,
      in_round_then h.0 (words a) (s0 a).pass.now (s4 a).pass.now s5.pass.now (words_round a) h.1,
      did_trans h.0 (words a) (s0 a).pass.now (s4 a).pass.now s5.pass.now (words_did a) h.2,
      both_none h.0 (words a) h.3 (words_none a),
      subst (λ (x : Act). SeesEntry (t a) place (h.0 ++ load a 5 c.word-value.result ∷ (x ∷ (load a 2 c.word-key_kind.result ∷ (load a 0 c.word-opened.result ∷ [])))) c.read_boxed.result) (sym four) here,
    )

-- ---- in place

pub returns-clause-looks : goal.returns-clause-looks
returns-clause-looks c =
    let a = (goal.at.returns-clause-looks c).After-word-value in
    let place = c.args.place in
    let p = (s0 a).pass.now in
    let s5 = c.stamp-number.new.self in
    let s6 = c.word-closed.new.self in
    let stamped : Act = ReadCounter c.stamp-number.result in
    let closed : Act = load a 0 c.word-closed.result in
    let kind_load : Act = load a 4 c.word-kind.result in
    let value_load : Act = load a 5 c.word-value.result in
    let mid : List Act = value_load ∷ (kind_load ∷ []) in
    let all : List Act = closed ∷ (stamped ∷ words a) in
    let did : DidAll all p s6.pass.now = did_trans (closed ∷ []) (stamped ∷ words a) p s5.pass.now s6.pass.now
    (did_trans (stamped ∷ []) (words a) p (s4 a).pass.now s5.pass.now (words_did a) c.stamp-number.ensures.did)
    (load_here a s5 s6 0 c.word-closed.result (same_trans (s0 a) (s4 a) s5 (same4 a) c.stamp-number.ensures.same) c.word-closed.ensures.did) in
    let kind_among : Among kind_load mid = record { newer = value_load ∷ []; rest = []; is = refl } in (
      all,
      in_round_by all p s6.pass.now tt tt did,
      did,
      both_none (closed ∷ []) (stamped ∷ words a) (word_none (t a) place 0 c.word-closed.result) (words_none a),
      record {
        dropped = [];
        drops = tt;
        mid = mid;
        is = refl;
        value = inl ((c.word-kind.result, c.if-kind-eq-BOX_KIND.false, kind_among), kind_among, record { newer = []; rest = kind_load ∷ []; is = refl });
      },
    )
