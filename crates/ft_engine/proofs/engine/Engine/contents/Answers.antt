use Rattle.std.proofs.Common.{◌≡◌, ◌∙◌, [], ap, length, map, sym}
use Rattle.std.specs.Prelude.{IfOk, Ok, Err}
use Rattle.ft_model.specs.Worlds.{start_as}
use Rattle.ft_trace.specs.Addresses.{container_count}
use Rattle.ft_bank.specs.Passes.{shape_of}
use Rattle.ft_engine.specs.Contents.{AreShownIn, ReadsFirst}
use Rattle.ft_engine.proofs.ReadContents.{only_read, read_caller, shown_known}
use Rattle.ft_engine.proofs.engine.Engine.contents.Goals as goal

pub returns-clause-caller : goal.returns-clause-caller
returns-clause-caller c = read_caller c.args.self.now c.args.caller.now c.read_all.new.pass [] c.requires.caller c.read_all.ensures.pass c.read_all.ensures.loaded

pub returns-clause-read : goal.returns-clause-read
returns-clause-read c = only_read c.args.self.now c.args.caller.now c.read_all.new.pass [] c.requires.caller c.read_all.ensures.pass c.read_all.ensures.loaded

pub read_all-requires-clause-kinds : goal.read_all-requires-clause-kinds
read_all-requires-clause-kinds c = c.args.self.now.starts_are ∙ ap (map start_as) (sym c.deref.ensures.value)

pub returns-clause-shown : goal.returns-clause-shown
returns-clause-shown c =
    let e = c.args.self.now in
    let caller = c.args.caller.now in
    let k = shape_of e.bank in
    let p = caller.pass in
    let q = c.read_all.new.pass in
    elim c.read_all.result as (λ made. IfOk made (λ all. length all.items ≡ container_count k) → IfOk made (λ all. ReadsFirst k all.items p q) → IfOk made (λ all. AreShownIn (record caller { pass = q }) all.items)) [
      | Ok all ↦ λ count reads. shown_known e caller q all.items c.requires.caller c.read_all.ensures.pass reads c.requires.floor count
      | Err failed ↦ λ count reads. tt
    ] c.read_all.ensures.count c.read_all.ensures.all
