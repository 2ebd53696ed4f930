-- A pass with no token is quiet, so who has the floor finds each version even but its own.
use Rattle.std.proofs.Common.{◌≡◌, ◌≢◌, ℕ, ◌%◌, Bool, true, false, cond, List, [], ◌∷◌, refl, sym, ap, ◌∙◌, arith}
use Rattle.std.specs.Prelude.{slice_index}
use mathlib.Core.Option.{some-injective}
use mathlib.Core.Logic.{dite}
use native.Mathlib.Decide.{ℕ_discrete}
use lib.ListN.{get_elem?}
use Rattle.ft_trace.specs.declared.View.{View}
use Rattle.ft_trace.specs.Addresses.{version_of, at}
use Rattle.ft_trace.specs.Acts.{is_writing, floor_words, is_handed, hands_over, stage, starter, view_after, maker, made, both, spent, sender, note}
use Rattle.ft_trace.specs.Floors.{RestingPassesAreQuiet, FloorVersionsAreEven, KnownVersionsAreEven}
use Rattle.ft_trace.specs.Traces.{did, forked, joined, sent, run, IsQuiet}
use Rattle.ft_trace.proofs.Sizes.{set_views, one_more, one_view}
use Rattle.ft_trace.proofs.Cases.{off}
use Rattle.ft_trace.proofs.OddVersions.{version, versioned}
use Rattle.ft_trace.proofs.Floored.{floored, tokens_alone}

abbrev Rested : ℕ → View → Type 0
Rested j u = u.tokens ≡ 0 → IsQuiet u

-- who takes another in is as quiet as it was
four_or : (b : Bool) (n : ℕ) → n ≢ 1 → cond b 4 n ≢ 1
four_or true n ne e = omega (arith, e)
four_or false n ne e = ne e

quiet_both : (v w : View) → IsQuiet v → IsQuiet (both v w)
quiet_both v w q = (q.0, (λ t. four_or (is_handed t (hands_over w.log)) (stage t v.log) (q.1 t)), q.2)

pub resting_quiet : RestingPassesAreQuiet
resting_quiet k [] valid = one_view Rested (starter k) (λ _. ((λ o. refl), (λ t e. omega (arith, e)), refl))
resting_quiet k (did id v a ∷ es) valid =
    let token = valid.1.4 in
    set_views Rested _ id (view_after a v) (λ none. absurd (omega (arith, none, token))) (λ j u _ e. resting_quiet k es valid.0 j u e)
resting_quiet k (forked id v ∷ es) valid =
    let some_left = valid.1.6 in
    one_more Rested _ (made v) (λ none. absurd (omega (arith, none)))
    (set_views Rested _ id (maker v) (λ none. absurd (omega (arith, none, some_left))) (λ j u _ e. resting_quiet k es valid.0 j u e))
resting_quiet k (sent id v given ∷ es) valid =
    let old = resting_quiet k es valid.0 in
    let low = valid.1.2 in
    one_more Rested _ (note given v) (λ _. ((λ o. refl), (λ t e. omega (arith, e)), refl))
    (set_views Rested _ id (sender given v)
    (λ none.
    dite (ℕ_discrete v.tokens 0)
    (λ (e : v.tokens ≡ 0). old id v valid.1.0 e)
    (λ some_token. valid.1.3 (omega (arith, none, low)) (omega (arith, some_token))))
    (λ j u _ e. old j u e))
resting_quiet k (joined id v other w ∷ es) valid =
    let old = resting_quiet k es valid.0 in
    set_views Rested _ other spent (λ _. ((λ o. refl), (λ t e. omega (arith, e)), refl))
    (λ j u _. set_views Rested _ id (both v w) (λ none. quiet_both v w (old id v valid.1.0 (omega (arith, none)))) (λ j u _ e. old j u e) j u)

-- ---- versions

pub versions_even : FloorVersionsAreEven
versions_even k es valid j u seat has o low quiet =
    let f = (floored k es valid j u seat).has has in
    let now : slice_index (floor_words k u.number u.log) (at k (version_of o)) ≡ version k es o = ap (λ (ws : List ℕ). slice_index ws (at k (version_of o))) f.1 in
    dite (ℕ_discrete (version k es o % 2) 0)
    (λ (even : version k es o % 2 ≡ 0). ap (λ (n : ℕ). n % 2) now ∙ even)
    (λ odd.
    let h = (versioned k es valid o low).busy (omega (arith, odd)) in
    dite (ℕ_discrete h.0 j)
    (λ (same : h.0 ≡ j).
    let is : h.1 ≡ u = some-injective h.1 u (sym h.2 ∙ (ap (get_elem? (run k es).views) same ∙ seat)) in
    off (sym quiet ∙ (ap (λ (z : View). is_writing o z.log) (sym is) ∙ h.3)))
    (λ apart.
    let none = tokens_alone k es valid j h.0 u h.1 seat h.2 (λ e. apart (sym e)) f.0 in
    off (sym ((resting_quiet k es valid h.0 h.1 h.2 none).0 o) ∙ h.3)))

pub known_versions_even : KnownVersionsAreEven
known_versions_even v p = versions_even v.shape p.0 p.2.0 p.1 v p.2.1
