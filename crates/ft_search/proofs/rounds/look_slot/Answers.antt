use Rattle.std.proofs.lemmas.Option.{none-some}
use Rattle.std.proofs.Common.{◌≡◌, ◌⊎◌, ℕ, List, [], ◌∷◌, ◌++◌, refl, sym, subst, ⊎_elim}
use Rattle.ft_trace.specs.declared.Act.{Act}
use Rattle.ft_trace.specs.declared.Act.TheVariants.{ReadTable, ReadCounter}
use Rattle.ft_trace.specs.LoggedLookUps.{ReadsNoRoot}
use Rattle.ft_bank.specs.Passes.{shape_of}
use Rattle.ft_bank.specs.TableNames.{table_id}
use Rattle.ft_search.specs.declared.looks.Looked.TheVariants.{Absent}
use Rattle.ft_search.specs.KeyLooks.{AreLooks}
use Rattle.ft_search.specs.Rounds.{Walked, TurnsAfter}
use Rattle.ft_search.proofs.Bounding.{used_slot, free_slot}
use Rattle.ft_search.proofs.LookSteps.{in_round_by}
use Rattle.ft_search.proofs.Running.{at_same}
use Rattle.ft_search.proofs.SearchEnds.{closes_free}
use Rattle.ft_search.proofs.Spending.{spends_on, spent_slot}
use Rattle.ft_search.proofs.Walking.{walked_more, turns_on}
use Rattle.ft_search.proofs.rounds.look_slot.Goals as goal

-- what the loads of the slot were before the last
before_loads : (t slot : ℕ) (before : List Act) → (before ≡ []) ⊎ ((n : ℕ) × (before ≡ ReadCounter n ∷ (ReadTable t slot 0 ∷ []))) → AreLooks before × ReadsNoRoot before
before_loads t slot before how =
    ⊎_elim (λ (is : before ≡ []). subst (λ (l : List Act). AreLooks l × ReadsNoRoot l) (sym is) (tt, tt))
    (λ (h : (n : ℕ) × (before ≡ ReadCounter n ∷ (ReadTable t slot 0 ∷ []))). subst (λ (l : List Act). AreLooks l × ReadsNoRoot l) (sym h.1) (tt, tt))
    how

pub returns-in-Used-clause-turns : goal.returns-in-Used-clause-turns
returns-in-Used-clause-turns c earlier left w =
    let s0 = c.args.words.now in
    let s1 = c.load_slot.new.words in
    let s2 = c.look_by_word.new.words in
    let k = shape_of s0.bank.now in
    let o = s0.o in
    let t = table_id s0.table in
    let key = c.args.key in
    let slot = c.args.slot in
    let word = c.in-Used.word in
    let result = c.look_by_word.result in
    let h = c.in-Used.ensures.loads in
    let new : List Act = ReadTable t slot word ∷ h.1 in
    let loads = before_loads t slot h.1 h.3 in
    let turns = at_same
    (λ k o t. (slot : ℕ) (earlier : List Act) (left : List ℕ) → Walked k o t key (ReadTable t slot word ∷ earlier) (slot ∷ left) → TurnsAfter k o t key (ReadTable t slot word ∷ earlier) left result s1.pass.now s2.pass.now)
    s0 s1 c.load_slot.ensures.same c.look_by_word.ensures.turns in
    turns_on k o t key new earlier left result s0.pass.now s1.pass.now s2.pass.now (in_round_by new s0.pass.now s1.pass.now loads.0 loads.1 h.2) h.2
    (turns slot (h.1 ++ earlier) left (walked_more k o t key (slot ∷ left) new earlier w))

pub returns-in-Used-clause-spends : goal.returns-in-Used-clause-spends
returns-in-Used-clause-spends c walked acts left may =
    let s0 = c.args.words.now in
    let s1 = c.load_slot.new.words in
    let s2 = c.look_by_word.new.words in
    let t = table_id s0.table in
    let slot = c.args.slot in
    let word = c.in-Used.word in
    let h = c.in-Used.ensures.loads in
    let new : List Act = ReadTable t slot word ∷ h.1 in
    let more = c.look_by_word.ensures.index in
    spends_on t walked new acts left c.look_by_word.result s0.pass.now s1.pass.now s2.pass.now h.2
    (spent_slot t walked more.0 (new ++ acts) left c.look_by_word.result s1.pass.now s2.pass.now more.2 more.1 (used_slot t walked slot left word h.1 acts h.0 h.3 may))

pub returns-in-Free-clause-turns : goal.returns-in-Free-clause-turns
returns-in-Free-clause-turns c earlier left w =
    let s0 = c.args.words.now in
    let k = shape_of s0.bank.now in
    let t = table_id s0.table in
    let slot = c.args.slot in
    let n = c.in-Free.number in
    let first : List Act = ReadTable t slot 0 ∷ [] in
    (ReadTable t slot 0 ∷ (ReadCounter n ∷ first), in_round_by (ReadTable t slot 0 ∷ (ReadCounter n ∷ first)) s0.pass.now c.load_slot.new.words.pass.now tt tt c.in-Free.ensures.loads, c.in-Free.ensures.loads, closes_free k s0.o t c.args.key n slot (slot ∷ left) left (ReadTable t slot 0 ∷ earlier) (walked_more k s0.o t c.args.key (slot ∷ left) first earlier w) refl)

pub returns-in-Free-clause-spends : goal.returns-in-Free-clause-spends
returns-in-Free-clause-spends c walked acts left may =
    let t = table_id c.args.words.now.table in
    let slot = c.args.slot in
    let n = c.in-Free.number in (
      ReadTable t slot 0 ∷ (ReadCounter n ∷ (ReadTable t slot 0 ∷ [])),
      c.in-Free.ensures.loads,
      (slot ∷ left, free_slot t walked slot left n acts may),
      λ no. absurd (none-some (Absent n) (sym no)),
    )
