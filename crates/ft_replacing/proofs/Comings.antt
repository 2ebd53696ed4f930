-- What a call comes to that puts another table in the place of a container's own: it leaves the cursors of its pass,
-- and the pass may let the call's locks go.
use Rattle.std.proofs.Common.{◌≡◌, ℕ, Option, Some, None, false, ◌∙◌}
use Rattle.ft_model.specs.declared.call.Call.{Call}
use Rattle.ft_model.specs.declared.reply.Reply.TheVariants as reply
use Rattle.ft_trace.specs.declared.Shape.{Shape}
use Rattle.ft_trace.specs.declared.View.{View}
use Rattle.ft_bank.specs.declared.bank.Bank.{Bank}
use Rattle.ft_bank.specs.declared.pass.Pass.{Pass}
use Rattle.ft_bank.specs.Passes.{view, IsPassOf}
use Rattle.ft_bank.specs.PassSections.{stack_of}
use Rattle.ft_section.specs.Ready.{IsMaking}
use Rattle.ft_search.proofs.ReadMidst.{LeavesSections}
use Rattle.ft_table_calls.specs.declared.adding.Added.{Added}
use Rattle.ft_table_calls.specs.declared.adding.Added.TheVariants as added
use Rattle.ft_table_calls.specs.Adding.{KeepsCursors}
use Rattle.ft_table_calls.proofs.Cursors.{added_cursors, given_cursors}
use Rattle.ft_table_calls.proofs.GrowthMidst.{making_added, making_given}
use Rattle.ft_replacing.specs.Replacing.{IsReplaced}

pub replaced_cursors : (k : Shape) (takes : Option ℕ) (called : Call) (v w : View) (what : Added) → IsReplaced k takes called v w what → KeepsCursors v w
replaced_cursors k None called v w (added.Made stamp) x = λ number. given_cursors called reply.Done stamp.number x.1.0 w x.1.2 number ∙ x.1.1.work.pass.cursors number
replaced_cursors k None called v w (added.NoTable class stamp) x = absurd x
replaced_cursors k None called v w (added.Over stamp) x = absurd x
replaced_cursors k None called v w (added.NoPlace stamp) x = absurd x
replaced_cursors k None called v w (added.Moved a b) x = absurd x
replaced_cursors k (Some class) called v w what x = λ number. added_cursors _ k (Some class) false called reply.Done x.0 w what x.2 number ∙ x.1.work.pass.cursors number

pub replaced_making : (b : Bank) (p q : Pass) → IsMaking b p → IsPassOf b q → stack_of q ≡ stack_of p → (k : Shape) (takes : Option ℕ) (called : Call) (what : Added) → LeavesSections called → IsReplaced k takes called (view p) (view q) what → IsMaking b q
replaced_making b p q making pass stack k None called (added.Made stamp) leaves x = making_given b p q making pass stack x.1.0 x.1.1 called reply.Done stamp.number x.1.2
replaced_making b p q making pass stack k None called (added.NoTable class stamp) leaves x = absurd x
replaced_making b p q making pass stack k None called (added.Over stamp) leaves x = absurd x
replaced_making b p q making pass stack k None called (added.NoPlace stamp) leaves x = absurd x
replaced_making b p q making pass stack k None called (added.Moved first second) leaves x = absurd x
replaced_making b p q making pass stack k (Some class) called what leaves x = making_added b p q making pass stack x.0 x.1 k (Some class) false called reply.Done what leaves x.2
