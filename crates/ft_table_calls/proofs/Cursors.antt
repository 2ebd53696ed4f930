-- A call that may take a table leaves the cursors of its pass.
use Rattle.std.proofs.Common.{ℕ, Bool, Option, Some, None, ap, ◌∙◌}
use Rattle.ft_model.specs.declared.call.Call.{Call}
use Rattle.ft_model.specs.declared.reply.Reply.{Reply}
use Rattle.ft_trace.specs.declared.Shape.{Shape}
use Rattle.ft_trace.specs.declared.View.{View}
use Rattle.ft_trace.specs.Hands.{cursor_in}
use Rattle.ft_trace.specs.Holds.{held_words}
use Rattle.ft_trace.specs.Pictures.{root_in}
use Rattle.ft_trace.specs.ContainerStates.{changes}
use Rattle.ft_bank.specs.Answered.{Answered}
use Rattle.ft_table_calls.specs.declared.adding.Added.{Added}
use Rattle.ft_table_calls.specs.declared.adding.Added.TheVariants as added
use Rattle.ft_table_calls.specs.Adding.{Grew, GaveUp, IsAddedWith, KeepsCursors, WroteWith}
use Rattle.ft_table_calls.proofs.GrowthMidst.{retired_same}

module _ (called : Call) (said : Reply) (stamp : ℕ) (v w : View) where
  pub answered_cursors : Answered called said stamp v w → KeepsCursors v w
  answered_cursors a number = ap (λ (u : View). cursor_in number u.log) a.answered ∙ a.loaded.work.pass.cursors number

  pub given_cursors : GaveUp called said stamp v w → KeepsCursors v w
  given_cursors gave number = (retired_same (root_in (held_words (changes called) v)) gave.done w gave.retired).cursors number ∙ gave.wrote.pass.cursors number

  grew_cursors : (R : View → View → Type 0) (k : Shape) (class : ℕ) → Grew R k class called said stamp v w → KeepsCursors v w
  grew_cursors R k class grew number =
      (retired_same (root_in (held_words (changes called) grew.taken)) grew.done w grew.retired).cursors number
      ∙ (grew.wrote.pass.cursors number ∙ grew.tried.same.cursors number)

  written_cursors : (R : View → View → Type 0) (k : Shape) (takes : Option ℕ) → WroteWith R k takes called said stamp v w → KeepsCursors v w
  written_cursors R k None x number = x.wrote.pass.cursors number
  written_cursors R k (Some class) x number = grew_cursors R k class x number

pub added_cursors : (R : View → View → Type 0) (k : Shape) (takes : Option ℕ) (over : Bool) (called : Call) (said : Reply) (v w : View) (what : Added) → IsAddedWith R k takes over called said v w what → KeepsCursors v w
added_cursors R k takes over called said v w (added.Made stamp) x = written_cursors called said stamp.number v w R k takes x.2
added_cursors R k takes over called said v w (added.NoTable class stamp) x =
    let y = x.3 in
    λ number. answered_cursors called _ stamp.number y.0 w y.2 number ∙ y.1.same.cursors number
added_cursors R k takes over called said v w (added.Over stamp) x = answered_cursors called _ stamp.number v w x.2
added_cursors R k takes over called said v w (added.NoPlace stamp) x = absurd x
added_cursors R k takes over called said v w (added.Moved a b) x = x.1.2.same.cursors
