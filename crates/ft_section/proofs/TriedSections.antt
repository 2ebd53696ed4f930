-- What the try of a call leaves of the pass's sections.
use Rattle.std.proofs.Common.{◌≡◌, ap, ◌∙◌}
use Rattle.ft_bank.specs.declared.bank.Bank.{Bank}
use Rattle.ft_bank.specs.declared.pass.Pass.{Pass}
use Rattle.ft_bank.specs.PassSections.{Stack, stack_of, nothing_taken}
use Rattle.ft_section.specs.declared.answers.Objects.{Objects}
use Rattle.ft_section.specs.Locking.{with_own}
use Rattle.ft_section.specs.Ready.{MayTry, MayResume}
use Rattle.ft_section.specs.Trying.{HasHadLocks, HasTaken}

-- it took the locks of its call, did what leaves its sections, and let go of the locks
pub let_gone : {objects : Objects} (b : Bank) (p q r s : Pass) → HasTaken objects p q → stack_of r ≡ stack_of q → stack_of s ≡ with_own (stack_of r) nothing_taken → ((objects : Objects) → MayTry b s objects) → MayResume b s → HasHadLocks b objects p s
let_gone b p q r s took same gone may resume = (
  record {
    stack = gone ∙ (ap (λ (x : Stack). with_own x nothing_taken) same ∙ ap (λ (x : Stack). with_own x nothing_taken) took.stack);
    may = may;
    resume = resume;
  },
  took.known,
)
