-- No dict of a bank is split yet, so that none shares keys after any writes.
use Rattle.std.proofs.Common.{◌≡◌, ℕ, true, List, [], ◌∷◌, length, refl, ap, ◌∙◌, arith}
use Rattle.std.proofs.Math.Logic.{∥∥₁_elim}
use Rattle.std.proofs.Math.Nat.{ℕ_set}
use Rattle.ft_model.specs.declared.data.Key.{Key}
use Rattle.ft_model.specs.declared.call.Call.{Call}
use Rattle.ft_model.specs.TableUses.{table_at, stored_newest}
use Rattle.ft_model.proofs.LandedCalls.{newest_unsplit}
use Rattle.ft_trace.specs.declared.Shape.{Shape}
use Rattle.ft_trace.specs.declared.View.{View}
use Rattle.ft_trace.specs.Acts.{has_lock}
use Rattle.ft_trace.specs.ContainerStates.{ContainerState}
use Rattle.ft_trace.specs.Holds.{known_state}
use Rattle.ft_trace.specs.Traces.{Event, history, Valid, IsReachable}
use Rattle.ft_trace.proofs.Announcing.{fits}
use Rattle.ft_trace.proofs.Held.{content_known}

pub tables_unsplit : (k : Shape) (es : List Event) → Valid k es → (calls : List Call) (o : ℕ) → (table_at (stored_newest k.starts calls).tables o).keys ≡ []
tables_unsplit k es valid calls o = newest_unsplit k.starts (fits k es valid).landed calls o

-- a pass knows it of a container whose lock it has
pub known_unsplit : (v : View) (o : ℕ) → has_lock o v.log ≡ true → IsReachable v → (known_state o v).table.keys ≡ []
known_unsplit v o mine p =
    ap (λ (z : ContainerState). z.table.keys) (content_known v o mine p.0 p.1 p.2)
    ∙ tables_unsplit v.shape p.0 p.2.0 (history p.0) o

no_keys : (keys : List Key) → length keys ≡ 0 → keys ≡ []
no_keys [] none = refl
no_keys (key ∷ keys) none = absurd (omega (arith, none))

-- also where no more is known than that some trace has the pass
pub known_unsplit_in_some : (v : View) (o : ℕ) → has_lock o v.log ≡ true → ∥ IsReachable v ∥₁ → (known_state o v).table.keys ≡ []
known_unsplit_in_some v o mine possible =
    no_keys (known_state o v).table.keys
    (∥∥₁_elim {P = length (known_state o v).table.keys ≡ 0} possible (ℕ_set _ _) (λ p. ap length (known_unsplit v o mine p)))
