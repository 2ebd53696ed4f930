use Rattle.std.proofs.Common.{◌≡◌, ℕ, ◌+◌, ◌<◌, ◌++◌, false}
use Rattle.ft_trace.specs.Acts.{has_committed}
use Rattle.ft_trace.specs.Addresses.{class_of}
use Rattle.ft_trace.specs.Holds.{held_words, held_unboxed}
use Rattle.ft_trace.specs.Pictures.{item_field, root_in}
use Rattle.ft_bank.specs.Passes.{shape_of, view, IsPassOf}
use Rattle.ft_bank.specs.PassSections.{stack_of}
use Rattle.ft_bank.specs.SameBoxes.{SameReferences}
use Rattle.ft_bank.specs.TableNames.{table_id, root_for}
use Rattle.ft_bank.specs.Whole.{OnlyWritten}
use Rattle.ft_list.specs.ListItemWrites.{WritesList, known_items}
use Rattle.ft_list.specs.HeldValues.{SharesItems}
use Rattle.ft_list.specs.Internal.Moving.{IsMoving}
use Rattle.ft_list.specs.Internal.Additions.{GivesItems}
use Rattle.ft_list.proofs.addition.put_from.Given as goal

abbrev pub invariant-loop-place : goal.invariant-loop-place
invariant-loop-place l =
    record {
      pass : IsPassOf l.bank l.pass;
      stack : stack_of l.pass ≡ stack_of l.initial.pass;
      list : WritesList (shape_of l.bank) l.o l.table (view l.pass);
      early : has_committed l.o (view l.pass).log ≡ false;
      only : OnlyWritten l.o (view l.initial.pass) (view l.pass);
      given : (p word : ℕ) → p < l.more → 0 < word → word < 4 → item_field (held_words l.m (view l.pass)).table p word ≡ item_field (held_words l.m (view l.initial.pass)).table p word;
      shares : SharesItems l.o l.count l.m l.place (view l.initial.pass) (view l.pass);
      references : SameReferences (view l.initial.pass) (view l.pass);
      block : (held_unboxed l.o (view l.pass)).block ≡ (held_unboxed l.o (view l.initial.pass)).block;
      gives : GivesItems (shape_of l.bank) l.o l.m (view l.pass);
      root : root_in (held_unboxed l.m (view l.pass)) ≡ root_for l.from;
      moving : IsMoving (class_of (table_id l.table)) (known_items l.o (view l.initial.pass)) (known_items l.o (view l.initial.pass) ++ known_items l.m (view l.initial.pass)) l.count (l.count + l.more) (l.count + l.place) (held_unboxed l.o (view l.pass)).table;
    }
