-- What clauses say of passes that rest and of tokens on their way.
use Rattle.std.specs.Prelude.{◌≡◌}
use Rattle.ft_trace.specs.declared.View.{View}
use Rattle.ft_bank.specs.Shapes.{plan}
use Rattle.ft_bank.specs.PassSections.{Stack}
use Rattle.ft_bank.specs.declared.bank.Bank.{Bank}
use Rattle.ft_bank.specs.declared.tokens.Resting.{Resting}
use Rattle.ft_bank.specs.declared.tokens.Tokens.{Tokens}

-- what a pass that rests knows
abbrev pub rests : Resting → View
rests r = r.seat.me.0

-- what tokens bring: how many they are, what their giver had seen, and the words where it had the floor (profile)
abbrev pub carried : Tokens → View
carried t = t.seat.me.0

-- the pass is one of the bank's
abbrev pub IsRestingOf : Bank → Resting → Type 0
IsRestingOf b r = (r.seat.table_id ≡ b.table.shared.table_id) × (r.seat.me.0.shape ≡ plan b.shape)

-- the tokens are of the bank's passes
abbrev pub AreTokensOf : Bank → Tokens → Type 0
AreTokensOf b t = t.seat.table_id ≡ b.table.shared.table_id

-- what the pass keeps of its sections
abbrev pub stack_at_rest : Resting → Stack
stack_at_rest r = record { sections = r.sections.value; own = r.own; mark = r.mark }
