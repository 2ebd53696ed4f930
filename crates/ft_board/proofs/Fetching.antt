-- What is fetched, told of the states of a call by equations.
use Rattle.std.proofs.Common.{◌≡◌, ℕ, sym, subst, Option}
use Rattle.atomic_table.specs.Seated.{TableId}
use Rattle.ft_board.specs.declared.desk.Fetched.{Fetched}
use Rattle.ft_board.specs.declared.desk.State.{State}
use Rattle.ft_board.specs.Boards.{Fetches, IsStateOf}

pub fetches : (s t before after : State) (answer found : Option Fetched) → before ≡ s → after ≡ t → found ≡ answer
    → Fetches s t answer → Fetches before after found
fetches s t before after answer found b a f is =
    subst (λ (r : Option Fetched). Fetches before after r) (sym f)
    (subst (λ (r : State). Fetches before r answer) (sym a) (subst (λ (r : State). Fetches r t answer) (sym b) is))

-- what has come of a call, told of other names for the same
pub fits : (bank : TableId) (Stopped : ℕ → Type 0) (thread index t i : ℕ) (before after : State) → t ≡ thread → i ≡ index → after ≡ before
    → IsStateOf bank Stopped thread index before → IsStateOf bank Stopped t i after
fits bank Stopped thread index t i before after same_thread same_index same is =
    subst (λ (r : State). IsStateOf bank Stopped t i r) (sym same)
    (subst (λ (n : ℕ). IsStateOf bank Stopped n i before) (sym same_thread) (subst (λ (n : ℕ). IsStateOf bank Stopped thread n before) (sym same_index) is))
