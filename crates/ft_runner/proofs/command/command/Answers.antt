use Rattle.std.proofs.Common.{◌≡◌, ◌∙◌, ap, ap₂, codes, false, []}
use Rattle.std.proofs.lemmas.Result.{IfOk-weaker}
use Rattle.clap.specs.Simple.{new_app, new_shape, on_top}
use Rattle.clap.specs.Words.{AddsSubcommand, App, app_of, with_subcommand}
use Rattle.clap.specs.declared.builder.command.Command.{Command}
use Rattle.clap.specs.declared.builder.command.Command.TheViews.{out-Command}
use Rattle.ft_runner.specs.Commands.{make_shape, tool, without_help}
use Rattle.ft_runner.proofs.command.command.Goals as goal

-- one more subcommand
one_more : (old sub new : Command) (app more : App) → AddsSubcommand old sub new → (out-Command sub).has_globals ≡ false → app_of old ≡ app → app_of sub ≡ more → app_of new ≡ with_subcommand app more.top
one_more old sub new app more adds local is is_more = adds.shape local ∙ ap₂ with_subcommand is (ap (λ (a : App). a.top) is_more)

pub returns : goal.returns
returns c =
    let bare = on_top without_help (new_app (codes "ftpy")) in
    let make : App = record { top = make_shape; subs = [] } in
    let run = one_more c.program.result c.new.result c.in_ok-subcommand.field-0 bare (new_app (codes "run")) c.in_ok-subcommand.ensures c.new.ensures.local c.program.ensures c.new.ensures.app in
    let both = with_subcommand bare (new_shape (codes "run")) in
    let turns = one_more c.in_ok-subcommand.field-0 c.new-2.result c.in_ok-subcommand-2.field-0 both (new_app (codes "turns")) c.in_ok-subcommand-2.ensures c.new-2.ensures.local run c.new-2.ensures.app in
    let three = with_subcommand both (new_shape (codes "turns")) in
    let check = one_more c.in_ok-subcommand-2.field-0 c.new-3.result c.in_ok-subcommand-3.field-0 three (new_app (codes "check")) c.in_ok-subcommand-3.ensures c.new-3.ensures.local turns c.new-3.ensures.app in
    let all = with_subcommand three (new_shape (codes "check")) in
    IfOk-weaker c.subcommand-4.result (AddsSubcommand c.in_ok-subcommand-3.field-0 c.in_ok-make.make) (λ command. app_of command ≡ tool) (λ command adds. one_more c.in_ok-subcommand-3.field-0 c.in_ok-make.make command all make adds c.in_ok-make.ensures.1 check c.in_ok-make.ensures.0) c.subcommand-4.ensures
