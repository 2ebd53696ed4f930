use Rattle.std.proofs.Common.{◌≡◌, true, [], Option, Some, None, refl, sym, ap, subst, inl, inr, ◌∙◌, map}
use Rattle.std.specs.Prelude.{string_bytes}
use Rattle.std.proofs.lemmas.Bool.{false≢true}
use Rattle.clap.specs.Kinds.{IsAmong, Kinds}
use Rattle.clap.specs.Words.{App, is_simple, kind_of, subcommand_of}
use Rattle.clap.specs.Faults.{fault_of, is_simple_and_free}
use Rattle.ft_runner.specs.Commands.{command_of, tool}
use Rattle.ft_runner.specs.Internal.Matched.{matched}
use Rattle.ft_runner.specs.declared.command.Subcommand.{Subcommand}
use Rattle.ft_runner.proofs.CommandLines.{command_taken, taken_command}
use Rattle.ft_runner.proofs.command.read_command.Goals as goal

pub returns-in-Ok : goal.returns-in-Ok
returns-in-Ok c =
    let words = map string_bytes c.args.words.now in
    let app = c.in_ok-command.ensures in
    let none : fault_of tool words ≡ [] = ap (λ (a : App). fault_of a words) (sym app) ∙ c.in-Ok.ensures.kinds (ap is_simple_and_free app) in
    let met = (c.in-Ok.ensures.matches (ap is_simple app)).1 ∙ ap (λ (a : App). subcommand_of a words) app in
    c.matched.ensures ∙ ap matched met ∙ taken_command words none

pub returns-in-Err-2 : goal.returns-in-Err-2
returns-in-Err-2 c =
    let words = map string_bytes c.args.words.now in
    let app = c.in_ok-command.ensures in
    elim (command_of words) as (λ (found : Option Subcommand). command_of words ≡ found → None ≡ found) [
      | None ↦ λ is. refl
      | Some command ↦ λ is. elim (c.in-Err.ensures.kinds (ap is_simple_and_free app)) [
        | inl memory ↦
            let same : c.eq.result ≡ true = rw (c.kind.ensures, memory) at c.eq.ensures in
            absurd (false≢true (sym c.if-eq.false ∙ same))
        | inr among ↦
            let kinds = ap (λ (a : App). fault_of a words) app ∙ command_taken words command is in
            absurd (subst (λ (ks : Kinds). IsAmong (kind_of c.in-Err.error) ks) kinds among)
      ]
    ] refl
