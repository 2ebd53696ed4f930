-- What a pass has to do with the one box of a test, which stands at place 5 of the first pass's heap.
use Rattle.std.specs.Prelude.{◌≡◌, ◌≢◌, ℕ, ◌<◌, List}
use Rattle.ft_trace.specs.declared.Act.{Act}
use Rattle.ft_trace.specs.declared.Shape.{Shape}
use Rattle.ft_trace.specs.Boxes.{made_state, local_count, taken_out, references_held, state_default}

-- the name of the box
abbrev pub one_box : ℕ
one_box = 5

-- the bank has the place of the box
pub record HasPlace (k : Shape) : Type 0 where
  pub passes : 0 < k.passes
  pub heap : k.heap ≡ 64

-- It made the box, which no other count names: its local count is this, and it holds as many references.
pub record HasBox (k : Shape) (count : ℕ) (log : List Act) : Type 0 where
  pub own : made_state one_box log ≡ state_default
  pub local : local_count one_box log ≡ count
  pub whole : taken_out one_box log ≡ 0
  pub held : references_held k one_box log ≡ count

-- it shares the box with others, and holds this many references
pub record SharesBox (k : Shape) (count : ℕ) (log : List Act) : Type 0 where
  pub shared : made_state one_box log ≢ state_default
  pub held : references_held k one_box log ≡ count
