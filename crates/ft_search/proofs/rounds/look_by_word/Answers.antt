use Rattle.std.proofs.Common.{◌≡◌, ◌≢◌, ◌-◌, ℕ, suc, List, [], ◌∷◌, ◌++◌, refl, sym, ◌∙◌, subst, arith}
use Rattle.ft_layout.specs.Words.{key_payload}
use Rattle.ft_trace.specs.declared.Act.{Act}
use Rattle.ft_trace.specs.declared.Act.TheVariants.{ReadTable}
use Rattle.ft_trace.specs.Addresses.{class_of, slots}
use Rattle.ft_trace.specs.Kinds.{rows}
use Rattle.ft_trace.specs.ContainerStates.{kind_in}
use Rattle.ft_trace.specs.LoggedLookUps.{Passed}
use Rattle.ft_trace.specs.Pictures.{entry_offset}
use Rattle.ft_bank.specs.Passes.{shape_of}
use Rattle.ft_bank.specs.TableNames.{table_id}
use Rattle.ft_search.specs.Rounds.{same_acts, Walked, TurnsAfter}
use Rattle.ft_search.proofs.Bounding.{word_none, both_none}
use Rattle.ft_search.proofs.LookSteps.{in_round_by}
use Rattle.ft_search.proofs.Running.{did_none, did_trans, at_same}
use Rattle.ft_search.proofs.SearchEnds.{payload_passed}
use Rattle.ft_search.proofs.Walking.{beyond_passed, walked_more, goes_on, turns_on}
use Rattle.ft_search.proofs.rounds.look_by_word.Goals as goal

suc_place : (word : ℕ) → word ≢ 0 → suc (word - 1) ≡ word
suc_place word some = omega (arith, some)

pub returns-then-word-entries-clause-turns : goal.returns-then-word-entries-clause-turns
returns-then-word-entries-clause-turns c slot earlier left w =
    let s = c.args.words.now in
    let k = shape_of s.bank.now in
    let t = table_id s.table in
    let m = rows (kind_in k.starts s.o) (class_of t) in
    let high = c.if-word-entries.true in
    let all = c.requires.entries in
    goes_on k s.o t c.args.key slot left [] (ReadTable t slot c.args.word ∷ earlier) s.pass.now s.pass.now (in_round_by [] s.pass.now s.pass.now tt tt (did_none s.pass.now)) (did_none s.pass.now) w
    (beyond_passed t m slot c.args.key c.args.word earlier (omega (arith, high, all)))

pub returns-then-word-entries-clause-index : goal.returns-then-word-entries-clause-index
returns-then-word-entries-clause-index c = ([], did_none c.args.words.now.pass.now, λ t. refl)

pub returns-then-word-payload_of-clause-turns : goal.returns-then-word-payload_of-clause-turns
returns-then-word-payload_of-clause-turns c slot earlier left w =
    let s = c.args.words.now in
    let k = shape_of s.bank.now in
    let t = table_id s.table in
    let key = c.args.key in
    let place = c.args.word - 1 in
    let m = rows (kind_in k.starts s.o) (class_of t) in
    let found = c.word.result in
    let load : Act = ReadTable t (entry_offset (slots (class_of t)) place 3) found in
    let is = suc_place c.args.word c.requires.word in
    let apart : found ≢ key_payload key = λ e. c.if-word-payload_of.true (e ∙ sym c.payload_of.ensures) in
    goes_on k s.o t key slot left (load ∷ []) (ReadTable t slot c.args.word ∷ earlier) s.pass.now c.word.new.self.pass.now (in_round_by (load ∷ []) s.pass.now c.word.new.self.pass.now tt tt c.word.ensures.did) c.word.ensures.did w
    (subst (λ (z : ℕ). Passed (load ∷ (ReadTable t slot z ∷ earlier)) t m slot key) is (payload_passed k s.o t key slot place earlier found apart))

pub returns-then-word-payload_of-clause-index : goal.returns-then-word-payload_of-clause-index
returns-then-word-payload_of-clause-index c =
    let t = table_id c.args.words.now.table in
    let place = c.args.word - 1 in
    (ReadTable t (entry_offset (slots (class_of t)) place 3) c.word.result ∷ [], c.word.ensures.did, word_none t place 3 c.word.result)

pub returns-clause-turns : goal.returns-clause-turns
returns-clause-turns c slot earlier left w =
    let s0 = c.args.words.now in
    let s1 = c.word.new.self in
    let s2 = c.look_by_kind.new.words in
    let k = shape_of s0.bank.now in
    let o = s0.o in
    let t = table_id s0.table in
    let key = c.args.key in
    let place = c.args.word - 1 in
    let result = c.look_by_kind.result in
    let found = c.word.result in
    let is = suc_place c.args.word c.requires.word in
    let own : found ≡ key_payload key = c.if-word-payload_of.false ∙ c.payload_of.ensures in
    let at = entry_offset (slots (class_of t)) place 3 in
    let part : List Act = ReadTable t slot c.args.word ∷ earlier in
    let new : List Act = ReadTable t at found ∷ [] in
    let whole : new ++ part ≡ same_acts t slot place key earlier = λ d. ReadTable t at (own d) ∷ (ReadTable t slot (sym is d) ∷ earlier) in
    let turns = at_same
    (λ k o t. (slot : ℕ) (earlier : List Act) (left : List ℕ) → Walked k o t key (same_acts t slot place key earlier) (slot ∷ left) → TurnsAfter k o t key (same_acts t slot place key earlier) left result s1.pass.now s2.pass.now)
    s0 s1 c.word.ensures.same c.look_by_kind.ensures.turns in
    let here : Walked k o t key (same_acts t slot place key earlier) (slot ∷ left) = subst (λ (z : List Act). Walked k o t key z (slot ∷ left)) whole (walked_more k o t key (slot ∷ left) new part w) in
    turns_on k o t key new part left result s0.pass.now s1.pass.now s2.pass.now (in_round_by new s0.pass.now s1.pass.now tt tt c.word.ensures.did) c.word.ensures.did
    (subst (λ (z : List Act). TurnsAfter k o t key z left result s1.pass.now s2.pass.now) (sym whole) (turns slot earlier left here))

pub returns-clause-index : goal.returns-clause-index
returns-clause-index c =
    let s0 = c.args.words.now in
    let s1 = c.word.new.self in
    let s2 = c.look_by_kind.new.words in
    let t = table_id s0.table in
    let place = c.args.word - 1 in
    let new : List Act = ReadTable t (entry_offset (slots (class_of t)) place 3) c.word.result ∷ [] in
    let more = c.look_by_kind.ensures.index in
    (more.0 ++ new, did_trans more.0 new s0.pass.now s1.pass.now s2.pass.now c.word.ensures.did more.1, both_none more.0 new more.2 (word_none t place 3 c.word.result))
