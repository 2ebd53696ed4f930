use Rattle.std.proofs.Common.{◌∙◌, Bool, eqb, length, ℕ, List, sym, ap}
use Rattle.ft_script.proofs.PrintedLines.{order_printed}
use Rattle.ft_script.proofs.script_text.push_order.Goals as goal

abbrev is_none : List ℕ → Bool
is_none turns = eqb (length turns) 0

pub returns : goal.returns
returns c =
    order_printed c.args.out.now.items c.extend_from_slice.new.self.items c.push_names.new.out.items c.push.new.self.items c.args.script.now c.args.script.now.order
    (ap is_none (sym c.as_slice-turns.ensures) ∙ sym c.is_empty.ensures ∙ c.if-is_empty.false)
    c.in_ok-extend_from_slice.ensures.items (rw c.as_slice-turns.ensures at c.in_ok-push_names.ensures) c.in_ok-push.ensures.items
