use Rattle.std.proofs.Common.{◌≡◌, ◌≢◌, ◌<◌, ℕ, suc, List, [], ◌∷◌, ◌++◌, refl, sym, ap, ◌∙◌, subst, arith}
use Rattle.ft_keys.specs.Ways.{walk_slots}
use Rattle.ft_trace.specs.declared.Act.{Act}
use Rattle.ft_trace.specs.declared.Act.TheVariants.{ReadRoot}
use Rattle.ft_trace.specs.Acts.{reads, announces}
use Rattle.ft_trace.specs.Addresses.{IsTableName}
use Rattle.ft_trace.specs.LoggedLookUps.{IsNew}
use Rattle.ft_bank.specs.Passes.{shape_of, view}
use Rattle.ft_bank.specs.Series.{DidAll}
use Rattle.ft_bank.specs.TableNames.{table_id}
use Rattle.ft_search.proofs.LookSteps.{looked_by, looked_then, steps_announce, steps_online}
use Rattle.ft_search.proofs.Running.{did_trans, did_log, at_same}
use Rattle.ft_search.proofs.Spending.{searched_round, round_more}
use Rattle.ft_search.proofs.rounds.search_table.Goals as goal

pub root-again-requires-clause-online : goal.root-again-requires-clause-online
root-again-requires-clause-online c =
    let s0 = c.args.words.now in
    let s1 = c.search-looked.new.words in
    let m = c.search-looked.ensures.closes in
    let same : announces (view s1.pass.now).log ≡ announces (view s0.pass.now).log = ap announces (did_log m.0 s0.pass.now s1.pass.now m.2) ∙ steps_announce m.0 (view s0.pass.now).log m.1.0.0 in
    subst (λ (z : ℕ). 0 < z) (sym same) c.requires.online

pub returns-then-again-root-clause-ended : goal.returns-then-again-root-clause-ended
returns-then-again-root-clause-ended c =
    let s0 = c.args.words.now in
    let s1 = c.search-looked.new.words in
    let s2 = c.root-again.new.self in
    let t = table_id s0.table in
    let r = c.root-again.result in
    let m = c.search-looked.ensures.closes in
    let same = c.search-looked.ensures.same in
    let log : (view s1.pass.now).log ≡ m.0 ++ (view s0.pass.now).log = did_log m.0 s0.pass.now s1.pass.now m.2 in
    let read : DidAll (ReadRoot s0.o r ∷ []) s1.pass.now s2.pass.now = at_same (λ _ o _. DidAll (ReadRoot o r ∷ []) s1.pass.now s2.pass.now) s0 s1 same c.root-again.ensures.did in
    let table : (u : ℕ) → r ≡ suc u → IsTableName (shape_of s0.bank.now) u = at_same (λ k _ _. (u : ℕ) → r ≡ suc u → IsTableName k u) s0 s1 same c.root-again.ensures.table in
    let new : IsNew s0.o r (view s1.pass.now).log = at_same (λ _ o _. IsNew o r (view s1.pass.now).log) s0 s1 same c.root-again.ensures.changed in
    let ne : r ≢ suc t = λ e. c.if-again-root.true (e ∙ sym c.requires.root) in
    let last : (view s0.pass.now).log ≡ ReadRoot s0.o (suc t) ∷ c.requires.last.0 = c.requires.last.1 ∙ ap (λ (z : ℕ). ReadRoot s0.o z ∷ c.requires.last.0) c.requires.root in (
      m.0,
      (m.1.0, looked_then (view s0.pass.now) (view s1.pass.now) (view s2.pass.now) m.1.1 (looked_by (ReadRoot s0.o r ∷ []) s1.pass.now s2.pass.now tt read)),
      did_trans (ReadRoot s0.o r ∷ []) m.0 s0.pass.now s1.pass.now s2.pass.now m.2 read,
      ne,
      λ u e. (table u e, sym (ap (reads u) log) ∙ new u (suc t) m.0 c.requires.last.0 e (λ x. ne (sym x)) (log ∙ ap (λ (z : List Act). m.0 ++ z) last) m.1.0.1),
    )

pub returns-clause-ended : goal.returns-clause-ended
returns-clause-ended c =
    let s0 = c.args.words.now in
    let s1 = c.search-looked.new.words in
    let s2 = c.root-again.new.self in
    let t = table_id s0.table in
    let r = c.root-again.result in
    let m = c.search-looked.ensures.closes in
    let again : r ≡ suc t = omega (arith, c.if-again-root.false, c.requires.root) in
    let read : DidAll (ReadRoot s0.o r ∷ []) s1.pass.now s2.pass.now = at_same (λ _ o _. DidAll (ReadRoot o r ∷ []) s1.pass.now s2.pass.now) s0 s1 c.search-looked.ensures.same c.root-again.ensures.did in
    let whole : DidAll (ReadRoot s0.o (suc t) ∷ m.0) s0.pass.now s2.pass.now = subst (λ (z : ℕ). DidAll (ReadRoot s0.o z ∷ m.0) s0.pass.now s2.pass.now) again (did_trans (ReadRoot s0.o r ∷ []) m.0 s0.pass.now s1.pass.now s2.pass.now m.2 read) in
    (m.0, (m.1.0, looked_then (view s0.pass.now) (view s1.pass.now) (view s2.pass.now) m.1.1 (looked_by (ReadRoot s0.o r ∷ []) s1.pass.now s2.pass.now tt read)), whole, m.3)

pub returns-then-again-root-clause-spends : goal.returns-then-again-root-clause-spends
returns-then-again-root-clause-spends c =
    let s0 = c.args.words.now in
    let s1 = c.search-looked.new.words in
    let s2 = c.root-again.new.self in
    let r = c.root-again.result in
    let m = c.search-looked.ensures.closes in
    let spent = c.search-looked.ensures.spends in
    let read : DidAll (ReadRoot s0.o r ∷ []) s1.pass.now s2.pass.now = at_same (λ _ o _. DidAll (ReadRoot o r ∷ []) s1.pass.now s2.pass.now) s0 s1 c.search-looked.ensures.same c.root-again.ensures.did in
    let round = searched_round s0 s1 c.args.way c.args.hash c.args.root (walk_slots c.args.way c.args.hash s0.mask) spent.1 m.0 spent.0 c.requires.last.0 c.requires.can.can c.search-looked.ensures.can.can c.requires.way c.requires.root
    refl c.requires.last.1 (steps_online m.0 m.1.0.0) m.2 spent.2 spent.3 in
    (m.0, did_trans (ReadRoot s0.o r ∷ []) m.0 s0.pass.now s1.pass.now s2.pass.now m.2 read, round)

pub returns-clause-spends : goal.returns-clause-spends
returns-clause-spends c =
    let s0 = c.args.words.now in
    let s1 = c.search-looked.new.words in
    let s2 = c.root-again.new.self in
    let r = c.root-again.result in
    let m = c.search-looked.ensures.closes in
    let spent = c.search-looked.ensures.spends in
    let read : DidAll (ReadRoot s0.o r ∷ []) s1.pass.now s2.pass.now = at_same (λ _ o _. DidAll (ReadRoot o r ∷ []) s1.pass.now s2.pass.now) s0 s1 c.search-looked.ensures.same c.root-again.ensures.did in
    let round = searched_round s0 s1 c.args.way c.args.hash c.args.root (walk_slots c.args.way c.args.hash s0.mask) spent.1 m.0 spent.0 c.requires.last.0 c.requires.can.can c.search-looked.ensures.can.can c.requires.way c.requires.root
    refl c.requires.last.1 (steps_online m.0 m.1.0.0) m.2 spent.2 spent.3 in
    (ReadRoot s0.o r ∷ m.0, did_trans (ReadRoot s0.o r ∷ []) m.0 s0.pass.now s1.pass.now s2.pass.now m.2 read, round_more c.args.way c.args.root (ReadRoot s0.o r ∷ []) m.0 (λ u. refl) round)
