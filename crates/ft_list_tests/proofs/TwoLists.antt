-- Calls on the two lists of a small bank, one after the other.
use Rattle.std.proofs.Common.{◌≡◌, ℕ, zero, suc, List, [], ◌∷◌, Option, Some, None, refl, ap, ◌∙◌, subst}
use Rattle.std.specs.Prelude.{IfSome}
use Rattle.ft_model.specs.declared.reply.Reply.{Reply}
use Rattle.ft_model.specs.declared.script.Start.{Start}
use Rattle.ft_model.specs.Worlds.{start_as}
use Rattle.ft_model.specs.declared.script.Kind.TheVariants as kind
use Rattle.ft_trace.specs.ContainerStates.{kind_in}
use Rattle.ft_bank.specs.declared.bank.Bank.{Bank}
use Rattle.ft_bank.specs.declared.pass.Pass.{Pass}
use Rattle.ft_section.specs.declared.answers.Objects.{Objects}
use Rattle.ft_section.specs.declared.answers.Stamp.{Stamp}
use Rattle.ft_section.specs.declared.answers.Step.{Step}
use Rattle.ft_section.specs.declared.answers.Step.TheVariants as step
use Rattle.ft_section.specs.Trying.{SectionsAfter}
use Rattle.ft_list_tests.specs.TestCalls.{MayTryAny}

-- whatever number it has, a container of a bank with two lists is one
two_lists : (l : ℕ) → kind_in (start_as kind.List ∷ start_as kind.List ∷ []) l ≡ kind.List
two_lists zero = refl
two_lists (suc zero) = refl
two_lists (suc (suc l)) = refl

pub list_in : (starts : List Start) → starts ≡ start_as kind.List ∷ start_as kind.List ∷ [] → (l : ℕ) → kind_in starts l ≡ kind.List
list_in starts is l = ap (λ (z : List Start). kind_in z l) is ∙ two_lists l

-- after a call that was made any other may be tried
pub may_again : (b : Bank) (objects : Objects) (p q : Pass) (asked : Step) (result : Option (Reply × Stamp)) → SectionsAfter b objects p q asked → IfSome result (λ (made : Reply × Stamp). asked ≡ step.Done made.0 made.1) → IfSome result (λ (made : Reply × Stamp). MayTryAny b q)
may_again b objects p q asked None after made = tt
may_again b objects p q asked (Some made) after is = (subst (SectionsAfter b objects p q) is after).0.may
