-- The sessions of a new engine, one after the other.
use Rattle.std.proofs.Common.{◌≡◌, ℕ, zero, suc, ◌+◌, List, [], ◌∷◌, ◌++◌, length, All, subst, sym, ap, ◌∙◌, arith}
use Rattle.std.proofs.lemmas.Bool.{false≢true}
use Rattle.ft_engine.specs.declared.caller.Caller.{Caller}
use Rattle.ft_engine.specs.declared.engine.Engine.{Engine}
use Rattle.ft_engine.specs.Callers.{IsCallerOf}
use Rattle.ft_facade.specs.declared.session.Session.{Session}
use Rattle.ft_facade.specs.Sessions.{AreFreshSessions, IsFreshSession, IsSession, StaysInPlace, with_caller}

pub fresh_push : (e : Engine) (room i : ℕ) (xs : List Session) (s : Session) → AreFreshSessions e room i xs → IsFreshSession e room (i + length xs) s
    → AreFreshSessions e room i (xs ++ s ∷ [])
fresh_push e room i [] s are new = (subst (λ (k : ℕ). IsFreshSession e room k s) (let p : i + 0 ≡ i = omega arith in p) new, tt)
fresh_push e room i (x ∷ xs) s are new =
    (are.0, fresh_push e room (suc i) xs s are.1 (subst (λ (k : ℕ). IsFreshSession e room k s) (let p : i + suc (length xs) ≡ suc i + length xs = omega arith in p) new))

is_session : (e : Engine) (room i : ℕ) (s : Session) → IsFreshSession e room i s → IsSession s
is_session e room i s fresh =
    record {
      caller = subst (λ (f : Engine). IsCallerOf f s.caller) (sym fresh.engine) fresh.caller.caller;
      online = λ on. absurd (false≢true (sym fresh.offline ∙ on));
      idle = λ off. fresh.caller.flight;
    }

pub are_sessions : (e : Engine) (room i : ℕ) (xs : List Session) → AreFreshSessions e room i xs → All IsSession xs
are_sessions e room i [] are k d low = absurd (omega (arith, low))
are_sessions e room i (x ∷ xs) are zero d low = is_session e room i x are.0
are_sessions e room i (x ∷ xs) are (suc k) d low = are_sessions e room (suc i) xs are.1 k d (omega (arith, low))

-- but for its caller the session is the same after two steps that leave the rest
pub same_after : (s m d : Session) → m ≡ with_caller s m.caller → d ≡ with_caller m d.caller → d ≡ with_caller s d.caller
same_after s m d first second = second ∙ ap (λ (x : Session). with_caller x d.caller) first

pub place_after : (c m d : Caller) → StaysInPlace c m → StaysInPlace m d → StaysInPlace c d
place_after c m d first second =
    record {
      thread = second.thread ∙ first.thread;
      next = second.next ∙ first.next;
      parts = second.parts ∙ first.parts;
      taken = second.taken ∙ first.taken;
    }
