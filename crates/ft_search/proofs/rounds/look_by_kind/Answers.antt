use Rattle.std.proofs.Common.{◌≡◌, ◌≢◌, ℕ, List, [], ◌∷◌, ◌++◌, sym, ◌∙◌, subst}
use Rattle.ft_layout.specs.Words.{key_kind, gone_kind, key_payload}
use Rattle.ft_trace.specs.declared.Act.{Act}
use Rattle.ft_trace.specs.declared.Act.TheVariants.{ReadTable}
use Rattle.ft_trace.specs.Addresses.{class_of, slots}
use Rattle.ft_trace.specs.Kinds.{rows}
use Rattle.ft_trace.specs.ContainerStates.{kind_in}
use Rattle.ft_trace.specs.LoggedLookUps.{Passed}
use Rattle.ft_trace.specs.Pictures.{entry_offset}
use Rattle.ft_bank.specs.Passes.{shape_of}
use Rattle.ft_bank.specs.TableNames.{table_id}
use Rattle.ft_search.specs.Rounds.{same_acts, met_acts, live_acts, Walked, TurnsAfter}
use Rattle.ft_search.proofs.Bounding.{word_none, both_none}
use Rattle.ft_search.proofs.LookSteps.{in_round_by}
use Rattle.ft_search.proofs.Running.{did_trans, same_trans, at_same, two_words}
use Rattle.ft_search.proofs.SearchEnds.{kind_passed, changed_passed}
use Rattle.ft_search.proofs.Walking.{walked_more, goes_on, turns_on}
use Rattle.ft_search.proofs.rounds.look_by_kind.Goals as goal

abbrev word : ℕ → ℕ → ℕ → ℕ → Act
word t place w f = ReadTable t (entry_offset (slots (class_of t)) place w) f

pub returns-then-word-payload_of-clause-turns : goal.returns-then-word-payload_of-clause-turns
returns-then-word-payload_of-clause-turns c slot earlier left w =
    let s0 = c.args.words.now in
    let s1 = c.word-kind.new.self in
    let s2 = c.word.new.self in
    let k = shape_of s0.bank.now in
    let t = table_id s0.table in
    let key = c.args.key in
    let place = c.args.place in
    let m = rows (kind_in k.starts s0.o) (class_of t) in
    let kind = c.word-kind.result in
    let found = c.word.result in
    let live : kind ≡ key_kind key = c.if-kind-kind_of.true ∙ c.kind_of.ensures in
    let apart : found ≢ key_payload key = λ is. c.if-word-payload_of.true (is ∙ sym c.payload_of.ensures) in
    let part = same_acts t slot place key earlier in
    let passed : Passed (word t place 3 found ∷ (word t place 2 kind ∷ part)) t m slot key = subst (λ (z : ℕ). Passed (word t place 3 found ∷ (word t place 2 z ∷ part)) t m slot key) (sym live) (changed_passed k s0.o t key slot place earlier found apart) in
    let new : List Act = word t place 3 found ∷ (word t place 2 kind ∷ []) in
    let did = two_words s0 s1 s2 place 2 kind 3 found c.word-kind.ensures.same c.word-kind.ensures.did c.word.ensures.did in
    goes_on k s0.o t key slot left new part s0.pass.now s2.pass.now (in_round_by new s0.pass.now s2.pass.now tt tt did) did w passed

pub returns-then-word-payload_of-clause-index : goal.returns-then-word-payload_of-clause-index
returns-then-word-payload_of-clause-index c =
    let s0 = c.args.words.now in
    let t = table_id s0.table in
    let place = c.args.place in
    let kind = c.word-kind.result in
    let found = c.word.result in (
      word t place 3 found ∷ (word t place 2 kind ∷ []),
      two_words s0 c.word-kind.new.self c.word.new.self place 2 kind 3 found c.word-kind.ensures.same c.word-kind.ensures.did c.word.ensures.did,
      both_none (word t place 3 found ∷ []) (word t place 2 kind ∷ []) (word_none t place 3 found) (word_none t place 2 kind),
    )

pub returns-then-kind-kind_of-clause-turns : goal.returns-then-kind-kind_of-clause-turns
returns-then-kind-kind_of-clause-turns c slot earlier left w =
    let s0 = c.args.words.now in
    let s1 = c.word-kind.new.self in
    let s2 = c.word.new.self in
    let s3 = c.look_at.new.words in
    let k = shape_of s0.bank.now in
    let o = s0.o in
    let t = table_id s0.table in
    let key = c.args.key in
    let place = c.args.place in
    let result = c.look_at.result in
    let kind = c.word-kind.result in
    let found = c.word.result in
    let live : kind ≡ key_kind key = c.if-kind-kind_of.true ∙ c.kind_of.ensures in
    let own : found ≡ key_payload key = c.if-word-payload_of.false ∙ c.payload_of.ensures in
    let part = same_acts t slot place key earlier in
    let new : List Act = word t place 3 found ∷ (word t place 2 kind ∷ []) in
    let whole : new ++ part ≡ live_acts t slot place key earlier = λ d. word t place 3 (own d) ∷ (word t place 2 (live d) ∷ part) in
    let same = same_trans s0 s1 s2 c.word-kind.ensures.same c.word.ensures.same in
    let turns = at_same
    (λ k o t. (slot : ℕ) (earlier : List Act) (left : List ℕ) → Walked k o t key (live_acts t slot place key earlier) (slot ∷ left) → TurnsAfter k o t key (live_acts t slot place key earlier) left result s2.pass.now s3.pass.now)
    s0 s2 same c.look_at.ensures.turns in
    let here : Walked k o t key (live_acts t slot place key earlier) (slot ∷ left) = subst (λ (z : List Act). Walked k o t key z (slot ∷ left)) whole (walked_more k o t key (slot ∷ left) new part w) in
    let did = two_words s0 s1 s2 place 2 kind 3 found c.word-kind.ensures.same c.word-kind.ensures.did c.word.ensures.did in
    turns_on k o t key new part left result s0.pass.now s2.pass.now s3.pass.now (in_round_by new s0.pass.now s2.pass.now tt tt did) did
    (subst (λ (z : List Act). TurnsAfter k o t key z left result s2.pass.now s3.pass.now) (sym whole) (turns slot earlier left here))

pub returns-then-kind-kind_of-clause-index : goal.returns-then-kind-kind_of-clause-index
returns-then-kind-kind_of-clause-index c =
    let s0 = c.args.words.now in
    let s1 = c.word-kind.new.self in
    let s2 = c.word.new.self in
    let s3 = c.look_at.new.words in
    let t = table_id s0.table in
    let place = c.args.place in
    let kind = c.word-kind.result in
    let found = c.word.result in
    let new : List Act = word t place 3 found ∷ (word t place 2 kind ∷ []) in
    let more = c.look_at.ensures.index in (
      more.0 ++ new,
      did_trans more.0 new s0.pass.now s2.pass.now s3.pass.now (two_words s0 s1 s2 place 2 kind 3 found c.word-kind.ensures.same c.word-kind.ensures.did c.word.ensures.did) more.1,
      both_none more.0 new more.2 (both_none (word t place 3 found ∷ []) (word t place 2 kind ∷ []) (word_none t place 3 found) (word_none t place 2 kind)),
    )

pub returns-then-kind-gone_kind_of-clause-turns : goal.returns-then-kind-gone_kind_of-clause-turns
returns-then-kind-gone_kind_of-clause-turns c slot earlier left w =
    let s0 = c.args.words.now in
    let s1 = c.word-kind.new.self in
    let s2 = c.look_at_deleted.new.words in
    let k = shape_of s0.bank.now in
    let o = s0.o in
    let t = table_id s0.table in
    let key = c.args.key in
    let place = c.args.place in
    let result = c.look_at_deleted.result in
    let kind = c.word-kind.result in
    let gone : kind ≡ gone_kind key = c.if-kind-gone_kind_of.true ∙ c.gone_kind_of.ensures in
    let part = same_acts t slot place key earlier in
    let new : List Act = word t place 2 kind ∷ [] in
    let whole : new ++ part ≡ met_acts t slot place key (gone_kind key) earlier = λ d. word t place 2 (gone d) ∷ part in
    let turns = at_same
    (λ k o t. (slot : ℕ) (earlier : List Act) (left : List ℕ) → Walked k o t key (met_acts t slot place key (gone_kind key) earlier) (slot ∷ left) → TurnsAfter k o t key (met_acts t slot place key (gone_kind key) earlier) left result s1.pass.now s2.pass.now)
    s0 s1 c.word-kind.ensures.same (c.look_at_deleted.ensures.turns key) in
    let here : Walked k o t key (met_acts t slot place key (gone_kind key) earlier) (slot ∷ left) = subst (λ (z : List Act). Walked k o t key z (slot ∷ left)) whole (walked_more k o t key (slot ∷ left) new part w) in
    turns_on k o t key new part left result s0.pass.now s1.pass.now s2.pass.now (in_round_by new s0.pass.now s1.pass.now tt tt c.word-kind.ensures.did) c.word-kind.ensures.did
    (subst (λ (z : List Act). TurnsAfter k o t key z left result s1.pass.now s2.pass.now) (sym whole) (turns slot earlier left here))

pub returns-then-kind-gone_kind_of-clause-index : goal.returns-then-kind-gone_kind_of-clause-index
returns-then-kind-gone_kind_of-clause-index c =
    let s0 = c.args.words.now in
    let s1 = c.word-kind.new.self in
    let s2 = c.look_at_deleted.new.words in
    let t = table_id s0.table in
    let new : List Act = word t c.args.place 2 c.word-kind.result ∷ [] in
    let more = c.look_at_deleted.ensures.index in
    (more.0 ++ new, did_trans more.0 new s0.pass.now s1.pass.now s2.pass.now c.word-kind.ensures.did more.1, both_none more.0 new more.2 (word_none t c.args.place 2 c.word-kind.result))

pub returns-clause-turns : goal.returns-clause-turns
returns-clause-turns c slot earlier left w =
    let s0 = c.args.words.now in
    let k = shape_of s0.bank.now in
    let t = table_id s0.table in
    let key = c.args.key in
    let kind = c.word-kind.result in
    let live : kind ≢ key_kind key = λ is. c.if-kind-kind_of.false (is ∙ sym c.kind_of.ensures) in
    let dead : kind ≢ gone_kind key = λ is. c.if-kind-gone_kind_of.false (is ∙ sym c.gone_kind_of.ensures) in
    let new : List Act = word t c.args.place 2 kind ∷ [] in
    goes_on k s0.o t key slot left new (same_acts t slot c.args.place key earlier) s0.pass.now c.word-kind.new.self.pass.now (in_round_by new s0.pass.now c.word-kind.new.self.pass.now tt tt c.word-kind.ensures.did) c.word-kind.ensures.did w
    (kind_passed k s0.o t key slot c.args.place earlier kind live dead)

pub returns-clause-index : goal.returns-clause-index
returns-clause-index c =
    let t = table_id c.args.words.now.table in
    (word t c.args.place 2 c.word-kind.result ∷ [], c.word-kind.ensures.did, word_none t c.args.place 2 c.word-kind.result)
