-- What callers that go online or offline, or that meet, leave as it was.
use Rattle.std.specs.Prelude.{◌≡◌, ◌≤◌}
use Rattle.ft_trace.specs.Acts.{seen_writes}
use Rattle.ft_trace.specs.Boxes.{HasMergedBoxes}
use Rattle.ft_bank.specs.Passes.{view}
use Rattle.ft_bank.specs.PassSections.{stack_of}
use Rattle.ft_engine.specs.declared.caller.Caller.{Caller}

-- It is the same caller, and has made no call: it has the same open sections, cursors and entries, has as many calls
-- left, has no other call in flight, and has taken in the same callers. It has seen no fewer writes. Where it had merged
-- all its boxes it has so still. (profile)
pub record SameCallerWork (c d : Caller) : Type 0 where
  pub number : (view d.pass).number ≡ (view c.pass).number
  pub next : (view d.pass).next ≡ (view c.pass).next
  pub parts : (view d.pass).parts ≡ (view c.pass).parts
  pub entries : (view d.pass).entries ≡ (view c.pass).entries
  pub taken : (view d.pass).lists ≡ (view c.pass).lists
  pub sections : stack_of d.pass ≡ stack_of c.pass
  pub cursors : d.cursors.items ≡ c.cursors.items
  pub calls : d.calls ≡ c.calls
  pub made : d.made ≡ c.made
  pub flight : d.flight ≡ c.flight
  pub seen : seen_writes (view c.pass) ≤ seen_writes (view d.pass)
  pub merged : HasMergedBoxes (view c.pass).log → HasMergedBoxes (view d.pass).log
