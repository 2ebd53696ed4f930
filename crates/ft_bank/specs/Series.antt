-- Several actions of a pass, one after the other.
use Rattle.std.specs.Prelude.{◌≡◌, List, [], ◌∷◌}
use Rattle.ft_trace.specs.declared.View.{View}
use Rattle.ft_trace.specs.declared.Act.{Act}
use Rattle.ft_trace.specs.Acts.{view_after}
use Rattle.ft_bank.specs.declared.pass.Pass.{Pass}
use Rattle.ft_bank.specs.PassSections.{stack_of}

-- what a pass knows after these actions, the newest of them first
abbrev pub noted_all : List Act → View → View
noted_all [] v = v
noted_all (a ∷ l) v = view_after a (noted_all l v)

-- the pass has done these, newest first, and nothing else; its sections stay
abbrev pub DidAll : List Act → Pass → Pass → Type 0
DidAll l p q =
    (q.seat.table_id ≡ p.seat.table_id) × (q.seat.me.0 ≡ noted_all l p.seat.me.0) × (stack_of q ≡ stack_of p)
