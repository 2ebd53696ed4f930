-- What looks at lists answer, in the words that all looks share.
use Rattle.std.proofs.Common.{◌≡◌, ℕ, ℤ, pos, negsuc, List, inl, inr, ⊎_elim, subst, sym}
use Rattle.std.specs.Prelude.{◌⊎◌}
use Rattle.ft_model.specs.declared.call.Call.{Call}
use Rattle.ft_model.specs.declared.call.Call.TheVariants as call
use Rattle.ft_model.specs.declared.call.ListCall.{ListCall}
use Rattle.ft_model.specs.declared.call.ListCall.TheVariants as list
use Rattle.ft_model.specs.declared.reply.Reply.{Reply}
use Rattle.ft_trace.specs.declared.Act.{Act}
use Rattle.ft_trace.specs.declared.Shape.{Shape}
use Rattle.ft_trace.specs.declared.View.{View}
use Rattle.ft_trace.specs.Traces.{IsReachable}
use Rattle.ft_bank.specs.Answered.{Answered}
use Rattle.ft_section.specs.declared.answers.Look.{Look}
use Rattle.ft_section.specs.declared.answers.Look.TheVariants as look
use Rattle.ft_search.specs.KeyLooks.{AnsweredByLook}
use Rattle.ft_search.specs.Lengths.{IsGlanceOf, IsStopped, StopsAtVersion}
use Rattle.ft_search.proofs.LookSteps.{loads_are_steps, loads_looked}
use Rattle.ft_list.specs.Indexes.{IsLookGetOf}
use Rattle.ft_list.specs.ItemLooks.{IsGetOf}
use Rattle.ft_reads.specs.Pairs.{IsGlanceOfBoth}
use Rattle.ft_engine.specs.Answering.{IsLooked}
use Rattle.ft_engine.specs.Contentions.{StopsCall}

-- an entry that follows loads alone
pub answered_by_look : (called : Call) (said : Reply) (n : ℕ) (v w : View) → ∥ IsReachable v ∥₁ → Answered called said n v w → AnsweredByLook called said n v w
answered_by_look called said n v w possible x = record { before = x.before; looked = loads_looked v x.before possible x.loaded; part = x.part; own = x.own; counted = x.counted; answered = x.answered; seen = x.seen }

-- what stops a look at one container stops the call
abbrev pub StopsAt : Shape → ℕ → Call → Type 0
StopsAt k o called = (a b : ℕ) (part : List Act) → StopsAtVersion o a b part → StopsCall k called a b part

pub glance_looked : (o : ℕ) (called : Call) (v w : View) (answer : Look) → ∥ IsReachable v ∥₁ → StopsAt v.shape o called → IsGlanceOf o called v w answer → IsLooked called v w answer
glance_looked o called v w (look.Done said stamp) possible stops x = (answered_by_look called said stamp.number v w possible x.0, x.1)
glance_looked o called v w (look.Contended a b) possible stops x = (x.part, x.own, loads_looked v w possible x.loaded, stops a b x.part x.stops, loads_are_steps x.part x.looks)
glance_looked o called v w look.NoMemory possible stops x = absurd x

item_looked : (o index : ℕ) (v w : View) (answer : Look) → IsGetOf o index v w answer → IsLooked (call.List o (list.Get (pos index))) v w answer
item_looked o index v w (look.Done said stamp) x = (x.0, x.1)
item_looked o index v w (look.Contended a b) x = (x.part, x.own, x.looked, x.stops, x.looks)
item_looked o index v w look.NoMemory x = absurd x

pub get_looked : (o : ℕ) (index : ℤ) (v w : View) (answer : Look) → ∥ IsReachable v ∥₁ → IsLookGetOf o index v w answer → IsLooked (call.List o (list.Get index)) v w answer
get_looked o (pos index) v w answer possible x = item_looked o index v w answer x
get_looked o (negsuc below) v w answer possible x = glance_looked o (call.List o (list.Get (negsuc below))) v w answer possible (λ a b part s. s) x

pub both_looked : (o m : ℕ) (called : Call) (v w : View) (answer : Look) → ∥ IsReachable v ∥₁ → ((a b : ℕ) (part : List Act) → StopsAtVersion o a b part ⊎ StopsAtVersion m a b part → StopsCall v.shape called a b part) → IsGlanceOfBoth o m called v w answer → IsLooked called v w answer
both_looked o m called v w (look.Done said stamp) possible stops x = (answered_by_look called said stamp.number v w possible x.0, x.1)
both_looked o m called v w (look.Contended a b) possible stops x =
    ⊎_elim (λ (y : IsStopped o a b v w). (y.part, y.own, loads_looked v w possible y.loaded, stops a b y.part (inl y.stops), loads_are_steps y.part y.looks)) (λ (y : IsStopped m a b v w). (y.part, y.own, loads_looked v w possible y.loaded, stops a b y.part (inr y.stops), loads_are_steps y.part y.looks)) x
both_looked o m called v w look.NoMemory possible stops x = absurd x

pub list_looked : (o : ℕ) (given lc : ListCall) (v w : View) (answer : Look) → given ≡ lc → IsLooked (call.List o lc) v w answer → IsLooked (call.List o given) v w answer
list_looked o given lc v w answer is x = subst (λ (z : ListCall). IsLooked (call.List o z) v w answer) (sym is) x
