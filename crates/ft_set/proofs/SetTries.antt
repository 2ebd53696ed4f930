-- Calls on sets under their locks: what the pass may do, and that it is in the midst of its call still.
use Rattle.std.proofs.Common.{◌≡◌, ◌<◌, ℕ, true, refl, sym, subst}
use Rattle.ft_model.specs.declared.call.Call.TheVariants as call
use Rattle.ft_model.specs.declared.call.SetCall.{SetCall}
use Rattle.ft_model.specs.declared.reply.Reply.{Reply}
use Rattle.ft_model.specs.declared.script.Kind.{Kind}
use Rattle.ft_model.specs.declared.script.Kind.TheVariants as kind
use Rattle.ft_trace.specs.Acts.{has_lock}
use Rattle.ft_trace.specs.Addresses.{container_count}
use Rattle.ft_trace.specs.ContainerStates.{kind_in}
use Rattle.ft_trace.specs.Kinds.{IsKeyed}
use Rattle.ft_bank.specs.declared.bank.Bank.{Bank}
use Rattle.ft_bank.specs.declared.pass.Pass.{Pass}
use Rattle.ft_bank.specs.Answered.{Answered}
use Rattle.ft_bank.specs.Passes.{shape_of, view, IsPassOf}
use Rattle.ft_bank.specs.PassSections.{stack_of}
use Rattle.ft_section.specs.declared.answers.Stamp.{Stamp}
use Rattle.ft_section.specs.Ready.{IsMaking}
use Rattle.ft_search.specs.MadeCalls.{MadeAs}
use Rattle.ft_search.specs.OneEntryWrites.{MayWriteEntries}
use Rattle.ft_search.proofs.Calling.{making_made, making_may}
use Rattle.ft_search.proofs.ReadMidst.{making_read}

-- ---- before the call

pub may_enter : (b : Bank) (p : Pass) (o : ℕ) → IsMaking b p → o < container_count (shape_of b) → kind_in (shape_of b).starts o ≡ kind.Set → has_lock o (view p).log ≡ true → 0 < (view p).left → MayWriteEntries (shape_of b) o (view p)
may_enter b p o m low is mine left = making_may b p (shape_of b) o m m.inside.0.1 low (subst (λ (z : Kind). IsKeyed z) (sym is) tt) mine left

-- ---- after it

pub set_made : {b : Bank} {p q : Pass} {o : ℕ} {sc : SetCall} {said : Reply} {stamp : Stamp} → IsMaking b p → IsPassOf b q → stack_of q ≡ stack_of p → MadeAs (call.Set o sc) said stamp (view p) (view q) → IsMaking b q
set_made {b = b} {p = p} {q = q} {o = o} {sc = sc} {said = said} {stamp = stamp} m pass stack x = making_made b p q (call.Set o sc) said stamp (λ n l sections. refl) m pass stack x

pub set_read : {b : Bank} {p q : Pass} {o : ℕ} {sc : SetCall} {said : Reply} {n : ℕ} → IsMaking b p → IsPassOf b q → stack_of q ≡ stack_of p → Answered (call.Set o sc) said n (view p) (view q) → IsMaking b q
set_read {b = b} {p = p} {q = q} {o = o} {sc = sc} {said = said} {n = n} m pass stack x = making_read b p q (call.Set o sc) said n (λ n l sections. refl) m pass stack x
