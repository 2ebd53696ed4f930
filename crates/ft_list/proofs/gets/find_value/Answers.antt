use Rattle.std.proofs.Common.{Some, None, sym, ◌∙◌, ⊎_elim}
use Rattle.std.proofs.Math.Logic.{∥∥₁_elim}
use Rattle.std.proofs.lemmas.Option.{none-some}
use Rattle.ft_bank.specs.Passes.{shape_of, view}
use Rattle.ft_search.proofs.Running.{did_log}
use Rattle.ft_list.proofs.Asking.{past_shown, found_shown, item_either, contended_after}
use Rattle.ft_list.proofs.gets.find_value.Goals as goal

pub returns-in-Past-clause-found : goal.returns-in-Past-clause-found
returns-in-Past-clause-found c =
    let v = view c.args.pass.now in
    let w = view c.find_item.new.pass in
    let e = c.find_item.ensures in
    let m = c.in-Past.ensures.looked in
    let own = did_log m.0 c.args.pass.now c.find_item.new.pass m.2 in (
      e.keeps,
      past_shown v w (shape_of c.args.bank.now) c.args.l c.args.index c.in-Past.number m.0 e.keeps m.1 own m.3.1 e.pass.1
          c.requires.container c.requires.left c.requires.list m.3.0,
      (m.0, own, m.3.1, m.3.2),
    )

pub returns-in-Contended-clause-found : goal.returns-in-Contended-clause-found
returns-in-Contended-clause-found c =
    let e = c.find_item.ensures in
    let m = c.in-Contended.ensures.looked in
    contended_after (view c.args.pass.now) (view c.find_item.new.pass) c.args.l c.args.index c.in-Contended.first c.in-Contended.second m.0 e.keeps
    m.1 (did_log m.0 c.args.pass.now c.find_item.new.pass m.2) m.3

pub returns-in-Some-clause-found : goal.returns-in-Some-clause-found
returns-in-Some-clause-found c =
    let v = view c.args.pass.now in
    let w = view c.find_item.new.pass in
    let e = c.find_item.ensures in
    let m = c.in-Item.ensures.looked in
    let own = did_log m.0 c.args.pass.now c.find_item.new.pass m.2 in (
      e.keeps,
      found_shown v w (shape_of c.args.bank.now) c.args.l c.args.index c.in-Item.number m.0 e.keeps m.1 own m.3.1 e.pass.1
          c.requires.container c.requires.left c.requires.list c.in-Item.kind c.in-Item.payload m.3.0
          c.found_of.result (λ value is. (c.found_of.ensures.value value).1 is) (λ is. c.found_of.ensures.none.1 is) c.in-Some.found c.in-Some.is,
      (m.0, own, m.3.1, m.3.2),
    )

pub unreachable-requires : goal.unreachable-requires
unreachable-requires c =
    let v = view c.args.pass.now in
    let w = view c.find_item.new.pass in
    let e = c.find_item.ensures in
    let m = c.in-Item.ensures.looked in
    let own = did_log m.0 c.args.pass.now c.find_item.new.pass m.2 in
    ∥∥₁_elim c.number-number.ensures.possible (λ a b. absurd a)
    (λ possible.
    ⊎_elim
    (λ r. none-some (Some r.0) (sym c.in-None.is ∙ (c.found_of.ensures.value r.0).0 r.1))
    (λ r. none-some None (sym c.in-None.is ∙ c.found_of.ensures.none.0 r))
    (item_either v w (shape_of c.args.bank.now) c.args.l c.args.index c.in-Item.number m.0 e.keeps m.1 own m.3.1 e.pass.1
    c.requires.container c.requires.left c.requires.list c.in-Item.kind c.in-Item.payload m.3.0 possible))
