use Rattle.std.proofs.lemmas.Option.{none-some}
use Rattle.std.proofs.Common.{◌≡◌, ◌≢◌, ℕ, List, [], ◌∷◌, ◌++◌, drop, length, refl, sym, ap, ◌∙◌, subst, arith}
use Rattle.ft_trace.specs.declared.Act.{Act}
use Rattle.ft_model.specs.declared.data.Key.{Key}
use Rattle.ft_bank.specs.Passes.{shape_of}
use Rattle.ft_bank.specs.TableNames.{table_id}
use Rattle.ft_search.specs.Rounds.{ended_in, Walked, TurnsAfter}
use Rattle.ft_search.specs.SearchCosts.{MayWalkOn, SpendsSearch}
use Rattle.ft_search.proofs.Running.{at_same}
use Rattle.ft_search.proofs.Spending.{spends_on}
use Rattle.ft_search.proofs.Walking.{turns_on}
use Rattle.ft_search.proofs.rounds.try_slot.Goals as goal

cons_some : (x : ℕ) (l : List ℕ) → x ∷ l ≢ []
cons_some x l e = absurd (cc)

pub pass-requires : goal.pass-requires
pass-requires c none = cons_some c.args.slot (drop 1 c.args.walk.now.left) (sym c.requires.front ∙ none)

pub returns-in-Some-clause-fewer : goal.returns-in-Some-clause-fewer
returns-in-Some-clause-fewer c ended = absurd (none-some c.in-Some.looked (sym ended))

pub returns-in-None-clause-fewer : goal.returns-in-None-clause-fewer
returns-in-None-clause-fewer c ended = let a = ap length c.requires.front in let b = ap (λ z. length z.left) c.pass.ensures in omega (arith, a, b)

pub returns-in-Some-clause-turns : goal.returns-in-Some-clause-turns
returns-in-Some-clause-turns c earlier w =
    let s = c.args.words.now in
    c.in-Some.ensures.turns earlier (drop 1 c.args.walk.now.left) (subst (Walked (shape_of s.bank.now) s.o (table_id s.table) c.args.key earlier) c.requires.front w)

pub returns-in-Some-clause-spends : goal.returns-in-Some-clause-spends
returns-in-Some-clause-spends c walked acts may =
    let h = c.in-Some.ensures.spends walked acts (drop 1 c.args.walk.now.left) (subst (MayWalkOn (table_id c.args.words.now.table) walked acts) c.requires.front may) in
    (h.0, h.1, h.2, λ no. absurd (none-some c.in-Some.looked (sym no)))

pub returns-in-None-clause-turns : goal.returns-in-None-clause-turns
returns-in-None-clause-turns c earlier w =
    let s0 = c.args.words.now in
    let s1 = c.look_slot.new.words in
    let s2 = c.next_slot.new.words in
    let k = shape_of s0.bank.now in
    let t = table_id s0.table in
    let key = c.args.key in
    let left = c.args.walk.now.left in
    let later = c.pass.new.self.left in
    let result = ended_in c.next_slot.result in
    let next : drop 1 left ≡ later = sym (ap (λ z. z.left) c.pass.ensures) in
    let h = c.in-None.ensures.turns earlier (drop 1 left) (subst (Walked k s0.o t key earlier) c.requires.front w) in
    let turns = at_same (λ k o t. (key : Key) (earlier : List Act) → Walked k o t key earlier later → TurnsAfter k o t key earlier later result s1.pass.now s2.pass.now) s0 s1 c.look_slot.ensures.same c.next_slot.ensures.turns in
    turns_on k s0.o t key h.0 earlier later result s0.pass.now s1.pass.now s2.pass.now h.1 h.2 (turns key (h.0 ++ earlier) (subst (Walked k s0.o t key (h.0 ++ earlier)) next h.3))

pub returns-in-None-clause-spends : goal.returns-in-None-clause-spends
returns-in-None-clause-spends c walked acts may =
    let s0 = c.args.words.now in
    let s1 = c.look_slot.new.words in
    let s2 = c.next_slot.new.words in
    let t = table_id s0.table in
    let left = c.args.walk.now.left in
    let later = c.pass.new.self.left in
    let result = ended_in c.next_slot.result in
    let next : drop 1 left ≡ later = sym (ap (λ z. z.left) c.pass.ensures) in
    let h = c.in-None.ensures.spends walked acts (drop 1 left) (subst (MayWalkOn t walked acts) c.requires.front may) in
    let spends = at_same (λ k o t. (walked : List ℕ) (acts : List Act) → MayWalkOn t walked acts later → SpendsSearch t walked acts later result s1.pass.now s2.pass.now) s0 s1 c.look_slot.ensures.same c.next_slot.ensures.spends in
    spends_on t walked h.0 acts later result s0.pass.now s1.pass.now s2.pass.now h.1 (spends walked (h.0 ++ acts) (subst (MayWalkOn t walked (h.0 ++ acts)) next (h.3 refl)))
