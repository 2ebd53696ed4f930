use Rattle.std.proofs.Common.{ℕ, [], ◌∷◌, refl, subst, inr}
use Rattle.ft_trace.specs.declared.Act.TheVariants.{ReadTable, ReadCounter}
use Rattle.ft_bank.specs.Series.{DidAll}
use Rattle.ft_bank.specs.TableNames.{table_id}
use Rattle.ft_search.proofs.Running.{did_trans, same_trans, at_same}
use Rattle.ft_search.proofs.rounds.load_slot.Goals as goal

pub returns-then-again-ne0-clause-loads : goal.returns-then-again-ne0-clause-loads
returns-then-again-ne0-clause-loads c =
    let s0 = c.args.words.now in
    let s1 = c.slot_word-word.new.self in
    let s2 = c.stamp-number.new.self in
    let s3 = c.slot_word-again.new.self in
    let t = table_id s0.table in
    let slot = c.args.slot in
    let n = c.stamp-number.result in
    let first : DidAll (ReadTable t slot 0 ∷ []) s0.pass.now s1.pass.now = subst (λ (z : ℕ). DidAll (ReadTable t slot z ∷ []) s0.pass.now s1.pass.now) c.if-word-ne0.false c.slot_word-word.ensures.did in
    let waited : DidAll (ReadCounter n ∷ (ReadTable t slot 0 ∷ [])) s0.pass.now s2.pass.now = did_trans (ReadCounter n ∷ []) (ReadTable t slot 0 ∷ []) s0.pass.now s1.pass.now s2.pass.now first c.stamp-number.ensures.did in
    let same = same_trans s0 s1 s2 c.slot_word-word.ensures.same c.stamp-number.ensures.same in
    let last : DidAll (ReadTable t slot c.slot_word-again.result ∷ []) s2.pass.now s3.pass.now = at_same (λ _ _ u. DidAll (ReadTable u slot c.slot_word-again.result ∷ []) s2.pass.now s3.pass.now) s0 s2 same c.slot_word-again.ensures.did in (
      c.if-again-ne0.true,
      ReadCounter n ∷ (ReadTable t slot 0 ∷ []),
      did_trans (ReadTable t slot c.slot_word-again.result ∷ []) (ReadCounter n ∷ (ReadTable t slot 0 ∷ [])) s0.pass.now s2.pass.now s3.pass.now waited last,
      inr (n, refl),
    )
