-- What a pass is between its rounds.
use Rattle.std.specs.Prelude.{◌≡◌, ℕ, false}
use Rattle.ft_trace.specs.declared.View.{View}
use Rattle.ft_trace.specs.Acts.{is_writing}
use Rattle.ft_trace.specs.Traces.{IsFree}

-- the pass has no lock and no table, is offline and in the midst of nothing
pub record IsIdlePass (v : View) : Type 0 where
  pub free : IsFree v
  pub even : (o : ℕ) → is_writing o v.log ≡ false

-- the same pass, later, with the calls and the entries that it had
pub record IsOnwards (v w : View) : Type 0 where
  pub next : w.next ≡ v.next
  pub parts : w.parts ≡ v.parts
  pub left : w.left ≡ v.left
  pub entries : w.entries ≡ v.entries
