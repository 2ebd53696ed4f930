use Rattle.std.proofs.Common.{◌≡◌, ◌+◌, ◌≤◌, ◌∷◌, List, drop, length}
use Rattle.ft_layout.specs.Containers.{class_mask}
use Rattle.ft_layout.specs.Tables.{UsedEntry}
use Rattle.ft_keys.specs.Ways.{IsTableOf}
use Rattle.ft_trace.specs.Addresses.{class_of}
use Rattle.ft_trace.specs.Holds.{held_unboxed, known_state}
use Rattle.ft_bank.specs.Passes.{shape_of, view, IsPassOf}
use Rattle.ft_bank.specs.PassSections.{stack_of}
use Rattle.ft_bank.specs.TableNames.{table_id}
use Rattle.ft_bank.specs.Whole.{OnlyLoaded}
use Rattle.ft_merging.specs.Internal.JoiningSteps.{lacking}
use Rattle.ft_merging.proofs.counting.count_new.Given as goal

abbrev pub invariant-loop-place : goal.invariant-loop-place
invariant-loop-place l = record {
  pass : IsPassOf l.bank l.pass;
  stack : stack_of l.pass ≡ stack_of l.initial.pass;
  only : OnlyLoaded (view l.initial.pass) (view l.pass);
  few : l.count ≤ l.place;
  counted : (used : List UsedEntry) → IsTableOf l.way (shape_of l.bank).texts (class_mask (class_of (table_id l.table))) used (0 ∷ 0 ∷ (held_unboxed l.t (view l.initial.pass)).table) → length used ≡ (known_state l.t (view l.initial.pass)).table.fill
      → l.count + lacking (known_state l.o (view l.initial.pass)).content (drop l.place used) ≡ lacking (known_state l.o (view l.initial.pass)).content used;
}
