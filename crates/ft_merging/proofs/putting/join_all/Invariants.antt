use Rattle.std.proofs.Common.{◌≡◌, ◌≤◌}
use Rattle.ft_model.specs.declared.script.Kind.TheVariants as kind
use Rattle.ft_trace.specs.Holds.{held_unboxed, known_state}
use Rattle.ft_bank.specs.Passes.{shape_of, view, IsPassOf}
use Rattle.ft_bank.specs.PassSections.{stack_of}
use Rattle.ft_bank.specs.SameBoxes.{SameReferences}
use Rattle.ft_bank.specs.TableNames.{table_id}
use Rattle.ft_bank.specs.Whole.{OnlyWritten}
use Rattle.ft_search.specs.Rounds.{kind_by}
use Rattle.ft_merging.specs.Joining.{joined}
use Rattle.ft_merging.specs.Internal.JoiningSteps.{IsJoining, KeepsBelow, SharesBelow}
use Rattle.ft_merging.proofs.putting.join_all.Given as goal

abbrev pub invariant-loop-place : goal.invariant-loop-place
invariant-loop-place l = record {
  pass : IsPassOf l.bank l.pass;
  stack : stack_of l.pass ≡ stack_of l.initial.pass;
  only : OnlyWritten l.o (view l.initial.pass) (view l.pass);
  joining : IsJoining (shape_of l.bank) l.o l.way l.own l.t l.table (joined (known_state l.o (view l.initial.pass)).content (known_state l.t (view l.initial.pass)).content) l.end l.place l.counts (view l.pass);
  references : SameReferences (view l.initial.pass) (view l.pass);
  more : l.fn.first.fill ≤ l.counts.fill;
  keeps : kind_by l.way ≡ kind.Set → KeepsBelow (table_id l.own) l.fn.first.fill (held_unboxed l.o (view l.initial.pass)) (held_unboxed l.o (view l.pass));
  shares : kind_by l.way ≡ kind.Dict → SharesBelow l.o l.t l.table l.place (view l.pass);
}
