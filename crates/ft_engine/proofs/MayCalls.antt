-- A caller that is in no call and has one left may make the calls that name what is there.
use Rattle.std.proofs.Common.{◌<◌, ℕ, refl, sym, subst}
use Rattle.std.specs.Prelude.{Some}
use Rattle.ft_model.specs.declared.call.Call.{Call}
use Rattle.ft_model.specs.declared.data.Key.{Key}
use Rattle.ft_model.specs.declared.script.Kind.TheVariants as kind
use Rattle.ft_trace.specs.Acts.{announces}
use Rattle.ft_bank.specs.Passes.{shape_of, view}
use Rattle.ft_bank.specs.PassSections.{stack_of}
use Rattle.ft_engine.specs.declared.caller.Caller.{Caller}
use Rattle.ft_engine.specs.declared.caller.Flight.{Flight}
use Rattle.ft_engine.specs.declared.engine.Engine.{Engine}
use Rattle.ft_engine.specs.Asked.{FitsSections, HasKeyIn, IsCallIn}
use Rattle.ft_engine.specs.Attempts.{MayAttempt}
use Rattle.ft_engine.specs.Callers.{IsIdle, IsOfKindIn, left_of}
use Rattle.ft_engine.specs.Flights.{AllowsCall}
use Rattle.ft_engine.specs.MayCalls.{MayAtElement, MayAtKey, MayOnList}
use Rattle.ft_engine.proofs.Keeping.{no_answer_idle}

module _ (e : Engine) (c : Caller) (idle : IsIdle c) (left : 0 < left_of c) (online : 0 < announces (view c.pass).log) where
  may_call : (asked : Call) → IsCallIn (shape_of e.bank) c.cursors.items asked → FitsSections (stack_of c.pass) asked → MayAttempt e c asked
  may_call asked names fits = record {
    next = subst (λ (f : Flight). AllowsCall f asked) (sym idle) tt;
    names = λ free. names;
    left = λ free. left;
    sections = λ free. fits;
    online = online;
  }

  pub at_key : (d : ℕ) (key : Key) → IsOfKindIn (shape_of e.bank) kind.Dict d → HasKeyIn (shape_of e.bank) (Some key) → MayAtKey e c d key
  at_key d key is has = record {
    get = may_call _ ((is, tt), tt, has, refl) tt;
    has = may_call _ ((is, tt), tt, has, refl) tt;
    len = may_call _ ((is, tt), tt, tt, refl) tt;
    set = λ value. may_call _ ((is, tt), tt, has, refl) tt;
    del = may_call _ ((is, tt), tt, has, refl) tt;
    pop = may_call _ ((is, tt), tt, has, refl) tt;
    setdefault = λ default. may_call _ ((is, tt), tt, has, refl) tt;
  }

  pub on_list : (l : ℕ) → IsOfKindIn (shape_of e.bank) kind.List l → MayOnList e c l
  on_list l is = record {
    get = λ index. may_call _ ((is, tt), tt, refl) tt;
    len = may_call _ ((is, tt), tt, refl) tt;
    append = λ value. may_call _ ((is, tt), tt, refl) tt;
    set = λ index value. may_call _ ((is, tt), tt, refl) tt;
    pop = λ index. may_call _ ((is, tt), tt, refl) tt;
  }

  pub at_element : (s : ℕ) (key : Key) → IsOfKindIn (shape_of e.bank) kind.Set s → HasKeyIn (shape_of e.bank) (Some key) → MayAtElement e c s key
  at_element s key is has = record {
    has = may_call _ ((is, tt), tt, has) tt;
    len = may_call _ ((is, tt), tt, tt) tt;
    add = may_call _ ((is, tt), tt, has) tt;
    discard = may_call _ ((is, tt), tt, has) tt;
  }

-- ---- what such a test has found

pub had_key : (e : Engine) (c : Caller) (d : ℕ) (key : Key) → IsIdle c → MayAtKey e c d key → (0 < left_of c) × IsOfKindIn (shape_of e.bank) kind.Dict d × HasKeyIn (shape_of e.bank) (Some key)
had_key e c d key idle may =
    let free = no_answer_idle c.flight idle in
    (may.get.left free, (may.get.names free).0.0, (may.get.names free).2)

pub had_list : (e : Engine) (c : Caller) (l : ℕ) → IsIdle c → MayOnList e c l → (0 < left_of c) × IsOfKindIn (shape_of e.bank) kind.List l
had_list e c l idle may =
    let free = no_answer_idle c.flight idle in
    (may.len.left free, (may.len.names free).0.0)

pub had_element : (e : Engine) (c : Caller) (s : ℕ) (key : Key) → IsIdle c → MayAtElement e c s key → (0 < left_of c) × IsOfKindIn (shape_of e.bank) kind.Set s × HasKeyIn (shape_of e.bank) (Some key)
had_element e c s key idle may =
    let free = no_answer_idle c.flight idle in
    (may.has.left free, (may.has.names free).0.0, (may.has.names free).2)
