-- What tries of calls on any container come to, in the words that all calls share.
use Rattle.std.proofs.Common.{◌≡◌, ℕ, List, true}
use Rattle.std.specs.Prelude.{Option, None, Some}
use Rattle.ft_model.specs.declared.call.Call.{Call}
use Rattle.ft_model.specs.declared.cursor.Cursor.{Cursor}
use Rattle.ft_model.specs.declared.script.Kind.{Kind}
use Rattle.ft_model.specs.Calls.{moved_cursor}
use Rattle.ft_trace.specs.declared.Shape.{Shape}
use Rattle.ft_trace.specs.declared.View.{View}
use Rattle.ft_trace.specs.Pictures.{ContainerWords}
use Rattle.ft_trace.specs.Traces.{IsReachable}
use Rattle.ft_bank.specs.declared.bank.Bank.{Bank}
use Rattle.ft_bank.specs.declared.pass.Pass.{Pass}
use Rattle.ft_bank.specs.Passes.{view}
use Rattle.ft_section.specs.declared.answers.Look.{Look}
use Rattle.ft_section.specs.declared.answers.Look.TheVariants as look
use Rattle.ft_section.specs.declared.answers.Objects.{Objects}
use Rattle.ft_section.specs.declared.answers.Step.{Step}
use Rattle.ft_search.proofs.LookSteps.{loads_are_steps, loads_looked}
use Rattle.ft_section.specs.LockTakings.{AreIn}
use Rattle.ft_section.specs.Trying.{SectionsAfter}
use Rattle.ft_table_calls.specs.TriesUnderLocks.{objects_by}
use Rattle.ft_reads.proofs.Both.{are_in}
use Rattle.ft_reads.specs.Glances.{IsCopyGlanceOf}
use Rattle.ft_engine.specs.Answering.{IsLooked, IsTryOfCall, copies}
use Rattle.ft_engine.specs.Asked.{AreOfKindIn, IsOnContainers}
use Rattle.ft_engine.specs.Flights.{objects_of}
use Rattle.ft_engine.proofs.ListLooks.{StopsAt, answered_by_look}
use Rattle.ft_engine.proofs.LooksBefore.{outcome_walked, plain_call, tried_of}
use Rattle.ft_engine.proofs.Outcomes.{Outcome}

-- ---- the try of a call that makes no cursor

pub container_tried : (b : Bank) (p q : Pass) (hands : List (Option Cursor)) (called : Call) (objects : Objects) (result : Step) → IsOnContainers called → moved_cursor called ≡ None → objects_of hands called ≡ Some objects → SectionsAfter b objects p q result → Outcome called objects (view p) (view q) result → IsTryOfCall b hands called p q result
container_tried b p q hands called objects result on still names after came = tried_of b p q hands called objects (plain_call called on) names result after came (outcome_walked called objects (view p) (view q) result still came)

-- the bank has the containers that it names
pub all_in : (k : Shape) (kind : Kind) (o : ℕ) (other : Option ℕ) → AreOfKindIn k kind o other → AreIn k (objects_by o other)
all_in k kind o None x = (x.0.0, x.0.0)
all_in k kind o (Some p) x = are_in k o p x.0.0 x.1.0

-- ---- looks

pub copy_looked : (k : Shape) (o : ℕ) (some : ContainerWords → Type 0) (called : Call) (v w : View) (answer : Look) → ∥ IsReachable v ∥₁ → copies called ≡ true → StopsAt v.shape o called → IsCopyGlanceOf k o some called v w answer → IsLooked called v w answer
copy_looked k o some called v w (look.Done said stamp) possible copying stops x = (answered_by_look called said stamp.number v w possible x.0, x.1)
copy_looked k o some called v w (look.Contended a b) possible copying stops x = (x.part, x.own, loads_looked v w possible x.loaded, stops a b x.part x.stops, loads_are_steps x.part x.looks)
copy_looked k o some called v w look.NoMemory possible copying stops x = (loads_looked v w possible x.0, copying)
