-- What clauses say of a pass.
use Rattle.std.specs.Prelude.{◌≡◌, ℕ, Option}
use Rattle.ft_model.specs.declared.cursor.Cursor.{Cursor}
use Rattle.ft_trace.specs.declared.Shape.{Shape}
use Rattle.ft_trace.specs.declared.View.{View}
use Rattle.ft_trace.specs.declared.Act.{Act}
use Rattle.ft_trace.specs.Acts.{view_after}
use Rattle.ft_trace.specs.Hands.{cursor_in}
use Rattle.ft_bank.specs.Shapes.{plan}
use Rattle.ft_bank.specs.declared.bank.Bank.{Bank}
use Rattle.ft_bank.specs.declared.pass.Pass.{Pass}
use Rattle.ft_bank.specs.PassSections.{stack_of}

-- the bank's shape
abbrev pub shape_of : Bank → Shape
shape_of b = plan b.shape

-- what the pass knows
abbrev pub view : Pass → View
view p = p.seat.me.0

-- the word of bits of its own heap in which the pass looks first for a free place
abbrev pub heap_word_of : Pass → ℕ
heap_word_of p = p.heap_word

-- the pass is one of the bank's
abbrev pub IsPassOf : Bank → Pass → Type 0
IsPassOf b p = (p.seat.table_id ≡ b.table.shared.table_id) × (p.seat.me.0.shape ≡ plan b.shape)

-- the pass has done this, and nothing else; its sections stay
abbrev pub Did : Act → Pass → Pass → Type 0
Did a p q =
    (q.seat.table_id ≡ p.seat.table_id) × (q.seat.me.0 ≡ view_after a p.seat.me.0) × (stack_of q ≡ stack_of p)

-- the pass is of the same bank, and knows the same
abbrev pub KeepsAll : Pass → Pass → Type 0
KeepsAll p q = (q.seat.table_id ≡ p.seat.table_id) × (q.seat.me.0 ≡ p.seat.me.0)

-- the cursor that the pass has under a number by its own calls (Python manual, Iterator Types: a cursor is its
-- thread's)
abbrev pub cursor_under : Pass → ℕ → Option Cursor
cursor_under p number = cursor_in number (view p).log

-- the pass has done nothing
abbrev pub DidNothing : Pass → Pass → Type 0
DidNothing p q =
    (q.seat.table_id ≡ p.seat.table_id) × (q.seat.me.0 ≡ p.seat.me.0) × (stack_of q ≡ stack_of p)
