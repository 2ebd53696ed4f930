-- The words of a container whose lock a pass has, and which it does not write, stand for the history.
use Rattle.ft_trace.specs.Addresses.{container_count}
use Rattle.std.proofs.Common.{◌≡◌, ℕ, ◌%◌, ◌<◌, true, false, true≢false, sym, ap, ◌∙◌, arith}
use mathlib.Core.Option.{some, some-injective}
use mathlib.Core.Logic.{dite}
use native.Mathlib.Decide.{ℕ_discrete}
use lib.ListN.{get_elem?}
use Rattle.std.proofs.Common.{List}
use Rattle.ft_trace.specs.declared.Shape.{Shape}
use Rattle.ft_trace.specs.declared.View.{View}
use Rattle.ft_trace.specs.Acts.{has_lock, is_writing}
use Rattle.ft_trace.specs.Traces.{Event, run, history, StandsFor, Valid}
use Rattle.ft_trace.proofs.Locks.{one_holder}
use Rattle.ft_trace.proofs.OddVersions.{version, versioned, writer_has}
use Rattle.ft_trace.proofs.Standing.{stands}

pub holder_even : (k : Shape) (es : List Event) → Valid k es → (o : ℕ) → o < container_count k → (j : ℕ) (u : View) → get_elem? (run k es).views j ≡ some u → has_lock o u.log ≡ true → is_writing o u.log ≡ false → version k es o % 2 ≡ 0
holder_even k es valid o low j u at mine quiet =
    dite (ℕ_discrete (version k es o % 2) 0) (λ e. e)
    (λ ne.
    let h = (versioned k es valid o low).busy (omega (arith, ne)) in
    let same : h.0 ≡ j = one_holder k es valid o low h.0 j h.1 u h.2 at (writer_has k es valid o h.0 h.1 h.2 h.3) mine in
    let is : h.1 ≡ u = some-injective h.1 u (sym h.2 ∙ (ap (get_elem? (run k es).views) same ∙ at)) in
    absurd (true≢false (sym h.3 ∙ (ap (λ (z : View). is_writing o z.log) is ∙ quiet))))

pub holder_stands : (k : Shape) (es : List Event) → Valid k es → (o : ℕ) → o < container_count k → (j : ℕ) (u : View) → get_elem? (run k es).views j ≡ some u → has_lock o u.log ≡ true → is_writing o u.log ≡ false → StandsFor k (run k es) (history es) o
holder_stands k es valid o low j u at mine quiet = stands k es valid o low (holder_even k es valid o low j u at mine quiet)
