use Rattle.std.proofs.Common.{subst, ◌≡◌, ◌∙◌, ℕ, Some, None, refl, sym, ap, append-nil}
use Rattle.std.proofs.lemmas.List.Elements.{All-pop}
use Rattle.ft_board.specs.declared.desk.Fetched.TheVariants as fetched
use Rattle.ft_board.specs.declared.desk.State.{State}
use Rattle.ft_board.specs.declared.desk.State.TheVariants as state
use Rattle.ft_board.specs.Boards.{IsNoteFor, IsStateOf}
use Rattle.ft_board.proofs.Fetching.{fetches, fits}
use Rattle.ft_board.proofs.desk.Desk.fetch.Goals as goal
use Rattle.ft_board.proofs.desk.Desk.fetch.Goals.{in-NotYet, in-Published+in-Some, in-Published+in-None, in-Stopped}

pub returns-clause-state : goal.returns-clause-state
returns-clause-state g c =
    let before = c.args.self.now.2 in
    let after = c.match-self.self-inside.state in
    let found = c.match-self.result in
    let seen : before ≡ c.self.inside.state = sym (ap (λ (v : ℕ × ℕ × State). v.2) c.self.view_is) in
    elim c.match-self.branch [
      | in-NotYet w ↦ fetches state.NotYet state.NotYet before after None found (seen ∙ w.in-NotYet.is) (ap (λ d. d.state) w.self-inside-is ∙ w.in-NotYet.is) w.result-is refl
      | in-Published+in-Some w ↦
          fetches (state.Published w.in-Published.notes) (state.Published w.pop.new.self) before after (Some (fetched.Got w.in-Some.note)) found (seen ∙ w.in-Published.is) (ap (λ d. d.state) w.self-inside-is) w.result-is w.in-Some.ensures.items
      | in-Published+in-None w ↦
          fetches (state.Published w.in-Published.notes) (state.Published w.pop.new.self) before after None found (seen ∙ w.in-Published.is) (ap (λ d. d.state) w.self-inside-is) w.result-is (sym (w.in-None.ensures.items ∙ append-nil w.pop.new.self.items))
      | in-Stopped w ↦ fetches state.Stopped state.Stopped before after (Some fetched.Stopped) found (seen ∙ w.in-Stopped.is) (ap (λ d. d.state) w.self-inside-is ∙ w.in-Stopped.is) w.result-is (refl, refl)
    ]

pub invariant_of-self : goal.invariant_of-self
invariant_of-self g c =
    let bank = g.N.Naming.bank in
    let Stopped : ℕ → Type 0 = g.N.Naming.stopped in
    let inside = c.self.inside in
    let after = c.match-self.self-inside in
    let was : IsStateOf bank Stopped inside.thread inside.index inside.state = c.self.invariant in
    elim c.match-self.branch [
      | in-NotYet w ↦ fits bank Stopped inside.thread inside.index after.thread after.index inside.state after.state (ap (λ d. d.thread) w.self-inside-is) (ap (λ d. d.index) w.self-inside-is) (ap (λ d. d.state) w.self-inside-is) was
      | in-Published+in-Some w ↦
          fits bank Stopped inside.thread inside.index after.thread after.index (state.Published w.pop.new.self) after.state (ap (λ d. d.thread) w.self-inside-is) (ap (λ d. d.index) w.self-inside-is) (ap (λ d. d.state) w.self-inside-is)
          ((All-pop (IsNoteFor bank inside.thread inside.index) w.in-Published.notes.items w.pop.new.self.items w.pop.result w.pop.ensures.items (subst (IsStateOf bank Stopped inside.thread inside.index) w.in-Published.is was)).0)
      | in-Published+in-None w ↦
          fits bank Stopped inside.thread inside.index after.thread after.index (state.Published w.pop.new.self) after.state (ap (λ d. d.thread) w.self-inside-is) (ap (λ d. d.index) w.self-inside-is) (ap (λ d. d.state) w.self-inside-is)
          ((All-pop (IsNoteFor bank inside.thread inside.index) w.in-Published.notes.items w.pop.new.self.items w.pop.result w.pop.ensures.items (subst (IsStateOf bank Stopped inside.thread inside.index) w.in-Published.is was)).0)
      | in-Stopped w ↦ fits bank Stopped inside.thread inside.index after.thread after.index inside.state after.state (ap (λ d. d.thread) w.self-inside-is) (ap (λ d. d.index) w.self-inside-is) (ap (λ d. d.state) w.self-inside-is) was
    ]
