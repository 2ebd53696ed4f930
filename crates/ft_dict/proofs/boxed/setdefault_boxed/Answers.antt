use Rattle.std.proofs.Common.{◌≡◌, true, sym, ap, ◌∙◌, inl}
use Rattle.ft_trace.specs.ContainerStates.{ContainerState}
use Rattle.ft_trace.specs.Holds.{known_state}
use Rattle.ft_bank.specs.Passes.{shape_of, view}
use Rattle.ft_bank.proofs.KnownAfterWrites.{work_knows}
use Rattle.ft_new_keys.specs.KeyGrowth.{holds}
use Rattle.ft_dict.proofs.BoxedPuts.{default_boxed_loaded, default_loaded}
use Rattle.ft_dict.proofs.boxed.setdefault_boxed.Goals as goal

pub returns-in-At-clause-put : goal.returns-in-At-clause-put
returns-in-At-clause-put c =
    let a = c.args in
    let v = view a.pass.now in
    let u = view c.seek_key.new.pass in
    let r = c.default_there.result in
    let e = c.default_there.ensures in
    let only = c.seek_key.ensures.keeps in
    let all = default_loaded (shape_of a.bank.now) a.d a.key a.default r.1 v u (view c.default_there.new.pass) r.0 only e.added in
    let there : holds (known_state a.d v).content a.key ≡ true = ap (λ (z : ContainerState). holds z.content a.key) (sym (work_knows v u a.d only.work)) ∙ e.there in
    (all.0, inl (there, all.1))

pub returns-in-Free-clause-put : goal.returns-in-Free-clause-put
returns-in-Free-clause-put c =
    let a = c.args in
    let r = c.add_default.result in
    default_boxed_loaded (shape_of a.bank.now) a.d a.key (view a.pass.now) (view c.seek_key.new.pass) (view c.add_default.new.pass) c.seek_key.ensures.keeps a.default r.1 r.0 c.add_default.ensures.put

pub returns-in-Bare-clause-put : goal.returns-in-Bare-clause-put
returns-in-Bare-clause-put c =
    let a = c.args in
    let r = c.add_default-in-Bare.result in
    default_boxed_loaded (shape_of a.bank.now) a.d a.key (view a.pass.now) (view c.seek_key.new.pass) (view c.add_default-in-Bare.new.pass) c.seek_key.ensures.keeps a.default r.1 r.0 c.add_default-in-Bare.ensures.put
