-- A pass that has looked may look again.
use Rattle.std.proofs.Common.{◌≡◌, ℕ, ℤ, pos, negsuc, [], ◌∷◌, sym, subst, ⊎_elim}
use Rattle.ft_model.specs.declared.call.Call.{Call}
use Rattle.ft_model.specs.declared.reply.Reply.{Reply}
use Rattle.ft_trace.specs.declared.Act.TheVariants.{Announce, Answer, WriteNumber}
use Rattle.ft_trace.specs.declared.Shape.{Shape}
use Rattle.ft_trace.specs.declared.View.{View}
use Rattle.ft_trace.specs.Acts.{view_after}
use Rattle.ft_trace.specs.Boxes.{IsSettled}
use Rattle.ft_trace.specs.Pictures.{ContainerWords}
use Rattle.ft_trace.specs.Traces.{IsReachable}
use Rattle.ft_bank.specs.declared.bank.Bank.{Bank}
use Rattle.ft_bank.specs.declared.pass.Pass.{Pass}
use Rattle.ft_bank.specs.Answered.{Answered}
use Rattle.ft_bank.specs.Passes.{view, IsPassOf}
use Rattle.ft_bank.specs.SameBoxes.{HoldsFew}
use Rattle.ft_bank.specs.Series.{DidAll}
use Rattle.ft_bank.specs.Whole.{OnlyLoaded}
use Rattle.ft_section.specs.declared.answers.Look.{Look}
use Rattle.ft_section.specs.declared.answers.Look.TheVariants as look
use Rattle.ft_search.specs.KeyLooks.{AnsweredByLook}
use Rattle.ft_search.specs.Lengths.{IsGlanceOf, IsStopped}
use Rattle.ft_search.specs.LookSteps.{OnlyLooked}
use Rattle.ft_search.proofs.LookSteps.{looked_few, loads_looked}
use Rattle.ft_reads.specs.Glances.{IsCopyGlanceOf}
use Rattle.ft_reads.specs.Pairs.{IsGlanceOfBoth}
use Rattle.ft_list.specs.Indexes.{IsLookGetOf}
use Rattle.ft_list_tests.specs.TestCalls.{MayLook}

-- what it needs of its boxes
abbrev pub IsCalm : View → Type 0
IsCalm v = IsSettled v.log × HoldsFew v

looked : (v w : View) → OnlyLooked v w → IsCalm v → IsCalm w
looked v w x calm = (x.made.settled calm.0, looked_few v w x calm.1)

answered : (called : Call) (said : Reply) (n : ℕ) (u w : View) → w ≡ view_after (Answer called said n) u → IsCalm u → IsCalm w
answered called said n u w is calm =
    let s = calm.0 in
    subst IsCalm (sym is) (record { unmade = s.unmade; counted = s.counted; whole = s.whole; given = s.given }, λ b. calm.1 b)

-- the pass has gone online
pub entered : (b : Bank) (p q : Pass) (m n : ℕ) → MayLook b p → IsPassOf b q → DidAll (Announce m n ∷ (WriteNumber n ∷ [])) p q → MayLook b q
entered b p q m n may pass did =
    let s = may.settled in record {
      pass = pass;
      settled = subst (λ (z : View). IsSettled z.log) (sym did.1) (record { unmade = s.unmade; counted = s.counted; whole = s.whole; given = s.given });
      few = subst HoldsFew (sym did.1) (λ c. may.few c);
    }

module _ (b : Bank) (p q : Pass) (may : MayLook b p) (pass : IsPassOf b q) where
  calm : IsCalm (view p)
  calm = (may.settled, may.few)

  after : IsCalm (view q) → MayLook b q
  after c = record { pass = pass; settled = c.0; few = c.1 }

  by_loads : OnlyLoaded (view p) (view q) → MayLook b q
  by_loads x = after (looked (view p) (view q) (loads_looked (view p) (view q) p.possible x) calm)

  by_answer : (called : Call) (said : Reply) (n : ℕ) → Answered called said n (view p) (view q) → MayLook b q
  by_answer called said n x = after (answered called said n x.before (view q) x.answered (looked (view p) x.before (loads_looked (view p) x.before p.possible x.loaded) calm))

  by_look : (called : Call) (said : Reply) (n : ℕ) → AnsweredByLook called said n (view p) (view q) → MayLook b q
  by_look called said n x = after (answered called said n x.before (view q) x.answered (looked (view p) x.before x.looked calm))

  pub glanced : (o : ℕ) (called : Call) (answer : Look) → IsGlanceOf o called (view p) (view q) answer → MayLook b q
  glanced o called (look.Done said stamp) x = by_answer called said stamp.number x.0
  glanced o called (look.Contended first second) x = by_loads x.loaded
  glanced o called look.NoMemory x = absurd x

  pub got : (l : ℕ) (index : ℤ) (called : Call) (answer : Look) → IsLookGetOf l index (view p) (view q) answer → MayLook b q
  got l (pos index) called (look.Done said stamp) x = by_look _ said stamp.number x.0
  got l (pos index) called (look.Contended first second) x = after (looked (view p) (view q) x.looked calm)
  got l (pos index) called look.NoMemory x = absurd x
  got l (negsuc below) called answer x = glanced l _ answer x

  pub copied : (k : Shape) (o : ℕ) (some : ContainerWords → Type 0) (called : Call) (answer : Look) → IsCopyGlanceOf k o some called (view p) (view q) answer → MayLook b q
  copied k o some called (look.Done said stamp) x = by_answer called said stamp.number x.0
  copied k o some called (look.Contended first second) x = by_loads x.loaded
  copied k o some called look.NoMemory x = by_loads x.0

  pub compared : (o m : ℕ) (called : Call) (answer : Look) → IsGlanceOfBoth o m called (view p) (view q) answer → MayLook b q
  compared o m called (look.Done said stamp) x = by_answer called said stamp.number x.0
  compared o m called (look.Contended first second) x =
      ⊎_elim (λ (y : IsStopped o first second (view p) (view q)). by_loads y.loaded) (λ (y : IsStopped m first second (view p) (view q)). by_loads y.loaded) x
  compared o m called look.NoMemory x = absurd x
