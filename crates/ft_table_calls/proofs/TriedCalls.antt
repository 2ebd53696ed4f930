-- Tries of calls that leave the cursors of their pass, whatever they answer.
use Rattle.std.proofs.Common.{◌∙◌}
use Rattle.ft_model.specs.declared.reply.Reply.{Reply}
use Rattle.ft_trace.specs.declared.View.{View}
use Rattle.ft_section.specs.declared.answers.Objects.{Objects}
use Rattle.ft_section.specs.declared.answers.Step.{Step}
use Rattle.ft_section.specs.declared.answers.Step.TheVariants as step
use Rattle.ft_table_calls.specs.declared.adding.Added.{Added}
use Rattle.ft_table_calls.specs.declared.made.Made.{Made}
use Rattle.ft_table_calls.specs.declared.made.Made.TheVariants as made
use Rattle.ft_table_calls.specs.Adding.{KeepsCursors}
use Rattle.ft_table_calls.specs.TriesUnderLocks.{ComesTo, IsTry, UnderLocks}

module _ (objects : Objects) (F : Made → View → View → Type 0) (v w : View) (keeps : (made : Made) (b a : View) → F made b a → KeepsCursors b a) where
  under : (made : Made) → UnderLocks objects (F made) v w → KeepsCursors v w
  under made x number = x.gone.cursors number ∙ (keeps made x.before x.after x.did number ∙ x.took.cursors number)

  pub try_keeps : (r : Step) → IsTry objects F v w r → KeepsCursors v w
  try_keeps (step.Done said stamp) x = under (made.Done said stamp) x
  try_keeps (step.NotYet p q) x = x.0.cursors
  try_keeps (step.Moved a b) x = under (made.Moved a b) x
  try_keeps step.NoMemory x = under made.NoMemory x

pub added_keeps : (objects : Objects) (F : View → View → Added → Type 0) (said : Reply) (v w : View) (r : Step) → IsTry objects (ComesTo F said) v w r → KeepsCursors v w
added_keeps objects F said v w r x = try_keeps objects (ComesTo F said) v w (λ made b a y. y.3) r x
