use Rattle.std.proofs.Common.{sym, ◌∙◌}
use Rattle.std.proofs.Math.Logic.{∥∥₁_elim}
use Rattle.std.proofs.lemmas.Option.{none-some}
use Rattle.ft_bank.specs.Passes.{shape_of, view}
use Rattle.ft_search.proofs.Asking.{key_absent, key_here, value_here, contended_after}
use Rattle.ft_search.proofs.Running.{did_log}
use Rattle.ft_dict.proofs.looks.find_value.Goals as goal

pub returns-in-Some-clause-found : goal.returns-in-Some-clause-found
returns-in-Some-clause-found c =
    let v = view c.args.pass.now in
    let w = view c.look_up.new.pass in
    let k = shape_of c.args.bank.now in
    let e = c.look_up.ensures in
    let n = c.in-Here.number in
    let m = c.in-Here.ensures.looked in
    let own = did_log m.0 c.args.pass.now c.look_up.new.pass m.2 in
    let stored = (c.value_of.ensures c.in-Some.value).1 c.in-Some.is in (
      e.keeps,
      key_here v w k c.args.d c.args.key n m.0 e.keeps m.1 own m.3.1 e.pass.1 c.requires.container c.requires.left e.key
          c.in-Here.kind c.in-Here.payload m.3.0 c.requires.dict c.in-Some.value stored,
      (m.0, own, m.3.1, m.3.2),
    )

pub returns-in-Absent-clause-found : goal.returns-in-Absent-clause-found
returns-in-Absent-clause-found c =
    let v = view c.args.pass.now in
    let w = view c.look_up.new.pass in
    let e = c.look_up.ensures in
    let m = c.in-Absent.ensures.looked in
    let own = did_log m.0 c.args.pass.now c.look_up.new.pass m.2 in (
      e.keeps,
      key_absent v w (shape_of c.args.bank.now) c.args.d c.args.key c.in-Absent.number m.0 e.keeps m.1 own m.3.1 e.pass.1
          c.requires.container c.requires.left e.key c.requires.dict m.3.0,
      (m.0, own, m.3.1, m.3.2),
    )

pub returns-in-Contended-clause-found : goal.returns-in-Contended-clause-found
returns-in-Contended-clause-found c =
    let e = c.look_up.ensures in
    let m = c.in-Contended.ensures.looked in
    contended_after (view c.args.pass.now) (view c.look_up.new.pass) (shape_of c.args.bank.now) c.args.d c.args.key c.in-Contended.first c.in-Contended.second m.0 c.requires.pass.1 e.keeps
    m.1 (did_log m.0 c.args.pass.now c.look_up.new.pass m.2) m.3

pub unreachable-requires : goal.unreachable-requires
unreachable-requires c =
    let v = view c.args.pass.now in
    let w = view c.look_up.new.pass in
    let e = c.look_up.ensures in
    let m = c.in-Here.ensures.looked in
    let own = did_log m.0 c.args.pass.now c.look_up.new.pass m.2 in
    ∥∥₁_elim c.look_up.new.pass.possible (λ a b. absurd a)
    (λ possible.
    let r = value_here v w (shape_of c.args.bank.now) c.args.d c.args.key c.in-Here.number m.0 e.keeps m.1 own m.3.1 e.pass.1
    c.requires.container c.requires.left e.key c.in-Here.kind c.in-Here.payload m.3.0 possible c.requires.dict in
    none-some r.0 (sym c.in-None.is ∙ (c.value_of.ensures r.0).0 r.1))
