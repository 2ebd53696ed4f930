-- What the one try of a call that is made at once comes to, once its step is counted.
use Rattle.std.proofs.Common.{◌≡◌, ◌+◌, ℕ, sym, subst}
use Rattle.std.specs.Prelude.{Option, Some, None, IfSome, IfNone, true}
use Rattle.ft_model.specs.declared.call.Call.{Call}
use Rattle.ft_model.specs.declared.reply.Reply.TheVariants as reply
use Rattle.ft_section.specs.declared.answers.Step.{Step}
use Rattle.ft_section.specs.declared.answers.Step.TheVariants as step
use Rattle.ft_engine.specs.declared.caller.Caller.{Caller}
use Rattle.ft_engine.specs.declared.engine.Engine.{Engine}
use Rattle.ft_engine.specs.AtOnce.{CameAtOnce}
use Rattle.ft_engine.specs.MadeCalls.{IsCallFor}
use Rattle.ft_engine.specs.QuickTries.{IsTriedAtOnce, wrote_alone}
use Rattle.ft_engine.proofs.MadeCalls.{came_done}

pub tried_from : (e : Engine) (asked : Call) (c b d : Caller) (came rest : Step) (made : Option ℕ) → CameAtOnce e asked c b came → IfSome made (λ number. (came ≡ step.Done reply.Done (record { number = number; wrote = true })) × (d ≡ record b { made = b.made + 1 })) → IfNone made ((rest ≡ came) × (d ≡ b)) → IsTriedAtOnce e asked made rest c d
tried_from e asked c b d came rest (Some number) x some none =
    subst (IsCallFor e asked (wrote_alone number) c) (sym some.1)
    (came_done e asked c b reply.Done (record { number = number; wrote = true }) (subst (CameAtOnce e asked c b) some.0 x))
tried_from e asked c b d came rest None x some none =
    subst (λ (y : Caller). CameAtOnce e asked c y rest) (sym none.1) (subst (CameAtOnce e asked c b) (sym none.0) x)

-- the same of the call that it is, with a number or without one
pub some_as : (e : Engine) (asked same : Call) (c d after : Caller) (made : Option ℕ) (rest : Step) (number : ℕ) → same ≡ asked → after ≡ d → made ≡ Some number → IsTriedAtOnce e asked made rest c d → IsCallFor e same (wrote_alone number) c after
some_as e asked same c d after made rest number is now some x =
    subst (λ (a : Call). IsCallFor e a (wrote_alone number) c after) (sym is)
    (subst (IsCallFor e asked (wrote_alone number) c) (sym now)
    (subst (λ (m : Option ℕ). IsTriedAtOnce e asked m rest c d) some x))

pub none_as : (e : Engine) (asked same : Call) (c d after : Caller) (made : Option ℕ) (rest left : Step) → same ≡ asked → after ≡ d → left ≡ rest → made ≡ None → IsTriedAtOnce e asked made rest c d → CameAtOnce e same c after left
none_as e asked same c d after made rest left is now came none x =
    subst (λ (a : Call). CameAtOnce e a c after left) (sym is)
    (subst (λ (y : Caller). CameAtOnce e asked c y left) (sym now)
    (subst (CameAtOnce e asked c d) (sym came)
    (subst (λ (m : Option ℕ). IsTriedAtOnce e asked m rest c d) none x)))
