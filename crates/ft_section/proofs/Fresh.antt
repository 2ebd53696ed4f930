-- A pass of a new bank has no lock, no section and no table.
use Rattle.std.proofs.Common.{ℕ, inl, refl, sym, ap, ◌∙◌, subst}
use Rattle.std.proofs.lemmas.Bool.{false≢true}
use Rattle.std.proofs.lemmas.List.Elements.{All-nil}
use Rattle.ft_bank.specs.declared.bank.Bank.{Bank}
use Rattle.ft_bank.specs.declared.pass.Pass.{Pass}
use Rattle.ft_bank.specs.NewPasses.{IsOpening, opening_view}
use Rattle.ft_bank.specs.Passes.{shape_of, view}
use Rattle.ft_bank.specs.PassSections.{Stack, no_sections}
use Rattle.ft_bank.proofs.DoneBoxes.{done_at_first}
use Rattle.ft_section.specs.Ready.{InCall, IsReady}
use Rattle.ft_section.specs.LockTakings.{IsLockTaking}
use Rattle.ft_section.proofs.Resumes.{push_some, none_some}
use Rattle.ft_trace.specs.declared.Shape.{Shape}
use Rattle.ft_trace.specs.declared.View.{View}

fresh_in_call : (k : Shape) (i : ℕ) → InCall (opening_view k i) no_sections
fresh_in_call k i =
    record {
      still = record {
        even = λ o. refl;
        hands = λ t. inl refl;
        used = refl;
        owes = refl;
        flight = refl;
        boxes = done_at_first;
        stands = λ o low has. absurd (false≢true has);
      };
      locks = λ o. refl;
      low = λ o has. absurd (false≢true has);
      sections = All-nil (λ x. IsLockTaking k x.locks);
      begun = refl;
      marked = λ q e. absurd (none_some q e);
    }

pub fresh_ready : (b : Bank) (i : ℕ) (p : Pass) → IsOpening b i p → IsReady b p
fresh_ready b i p opening =
    record {
      inside = (opening.0, subst (InCall (view p)) (sym opening.2) (subst (λ (v : View). InCall v no_sections) (sym opening.1) (fresh_in_call (shape_of b) i)));
      own = ap (λ (s : Stack). s.own) opening.2;
      mark = ap (λ (s : Stack). s.mark) opening.2;
      top = λ outer top split. absurd (push_some outer top (sym split ∙ ap (λ (s : Stack). s.sections) opening.2));
    }
