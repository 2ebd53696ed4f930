-- Passes that rest, tokens on their way, and what who has the floor knows.
use Rattle.std.proofs.Common.{◌≡◌, ◌≢◌, ℕ, ◌<◌, ◌≤◌, true, false, List, [], ◌∷◌, set, refl, sym, ap, ◌∙◌, arith, inl, le_trans}
use Rattle.std.proofs.Math.Nat.{le-max_left, le-max_right, ℕ_set}
use Rattle.std.proofs.Math.Logic.{∥∥₁_elim}
use Rattle.atomic_table.proofs.Lists.{at_longer}
use Rattle.ft_trace.specs.declared.Told.{Told}
use Rattle.ft_trace.specs.declared.View.{View}
use Rattle.ft_trace.specs.declared.Act.{Act}
use Rattle.ft_trace.specs.declared.Snap.{Snap}
use Rattle.ft_trace.specs.declared.Act.TheVariants.{TakeFloor}
use Rattle.ft_trace.specs.Acts.{view_after, sender, note, shown}
use Rattle.ft_trace.specs.Floors.{FoundNext, FoundAsKnown}
use Rattle.ft_trace.specs.Traces.{sent, run, IsReachable, IsFree, IsQuiet}
use Rattle.ft_trace.proofs.Cases.{miss}
use Rattle.ft_trace.proofs.Sizes.{set_at}
use Rattle.ft_trace.proofs.Seeing.{seen_low}
use Rattle.ft_trace.proofs.Floored.{floored, floor_tells}
use Rattle.ft_bank.specs.Slips.{slip_with}
use Rattle.ft_bank.specs.Rules.{Acted}
use Rattle.ft_bank.proofs.Allowed.{same_settled}
use Rattle.ft_bank.proofs.DoneBoxes.{done_at_first, merged_at_first}

-- who gives tokens away may still be there
pub sender_possible : (v : View) (given : ℕ) → v.number ≢ 0 → given ≤ v.tokens → (given ≡ v.tokens → 0 < v.tokens → IsQuiet v) → IsReachable v → IsReachable (sender given v)
sender_possible v given live low quiet p =
    let es = p.0 in
    let at = set_at (run v.shape es).views p.1 v (sender given v) p.2.1 in
    (sent p.1 v given ∷ es, p.1, ((p.2.0, (p.2.1, live, low, quiet)), at_longer (set (run v.shape es).views p.1 (sender given v)) (note given v ∷ []) p.1 (sender given v) at))

pub no_words : (v : View) → 0 < v.tokens → (sender v.tokens v).floor ≡ []
no_words v token = miss v.tokens 0 v.floor [] (λ e. omega (arith, e, token))

pub no_floor : (v : View) → 0 < v.tokens → (sender v.tokens v).has_floor ≡ false
no_floor v token = miss v.tokens 0 v.has_floor false (λ e. omega (arith, e, token))

pub tokens_free : (tokens n : ℕ) (words : List ℕ) (told : List Told) → IsFree (slip_with tokens n words told)
tokens_free tokens n words told = ((λ o. refl), (λ t. inl refl), refl, refl, refl, refl, done_at_first, merged_at_first)

-- taking the floor loads the counter
pub floor_settles : (v : View) (n : ℕ) (s : Snap) (w : View) → w ≡ view_after (TakeFloor n s) v → Acted v (TakeFloor n s) → w.learnt ≤ shown w.log
floor_settles v n s w same d =
    let low = seen_low v.shape d.0 d.2.0 d.1 v d.2.1.0 in
    let found : n ≡ _ = d.2.1.2 in
    same_settled w (view_after (TakeFloor n s) v) same (le_trans (le_trans (le-max_left v.learnt (shown v.log)) (omega (arith, low, found))) (le-max_right (shown v.log) n))

-- the words that the tokens brought are those that are there
pub floor_brought : (v : View) (n : ℕ) (s : Snap) → Acted v (TakeFloor n s) → v.floor ≢ [] → s.words ≡ v.floor
floor_brought v n s d some_words = ap (λ (z : Snap). z.words) d.2.1.3.1 ∙ sym ((floored v.shape d.0 d.2.0 d.1 v d.2.1.0).given some_words).1

-- What an action of a pass with the floor found, as the action says it, is what the log before it gives for its word.
pub floor_found : (v : View) (a : Act) (f word : ℕ) → (FoundNext v.shape v.number a v.log (FoundAsKnown v.shape v.number v.log) → f ≡ word) → ∥ IsReachable (view_after a v) ∥₁ → (view_after a v).has_floor ≡ true → f ≡ word
floor_found v a f word says possible has = ∥∥₁_elim possible (ℕ_set f word) (λ p. says (floor_tells v.shape p.0 p.2.0 p.1 (view_after a v) p.2.1 has))
