-- One more action of a pass that may do it is possible.
use Rattle.std.proofs.Common.{◌≡◌, ℕ, ◌∷◌, sym, subst}
use Rattle.ft_trace.specs.declared.View.{View}
use Rattle.ft_trace.specs.declared.Act.{Act}
use Rattle.ft_trace.specs.Addresses.{Word}
use Rattle.ft_trace.specs.Acts.{place, Reports, view_after}
use Rattle.ft_trace.specs.Traces.{did, run, word, history, May, IsReachable, Sure, IsAwake}
use Rattle.ft_trace.proofs.Sizes.{set_at}

unfoldable pub next_possible : (v : View) → IsAwake v → IsReachable v → (act : ℕ → Act) (x : Word) → ((n : ℕ) → place (act n) ≡ x) → ((n : ℕ) → Reports (act n) n) → Sure v (λ es. May v.shape (run v.shape es) (history es) v (act (word v.shape es x))) → (n : ℕ) × IsReachable (view_after (act n) v)
next_possible v live p act x is tells may =
    let k = v.shape in
    let es = p.0 in
    let n = word k es x in
    let a = act n in
    let found : Reports a (word k es (place a)) = subst (λ (z : Word). Reports a (word k es z)) (sym (is n)) (tells n) in
    (n, (did p.1 v a ∷ es, p.1, ((p.2.0, (p.2.1, live.0, found, may es p.1 p.2, live.1)), set_at (run k es).views p.1 v (view_after a v) p.2.1)))
