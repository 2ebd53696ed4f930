-- The shape of a bank: its limits, and the plain data that traces have for it. (profile)
use Rattle.std.specs.Prelude.{◌≡◌, ◌≤◌, ◌<◌, ◌^◌, true, length, map, All}
use Rattle.ft_model.specs.Landed.{is_landed_kind}
use Rattle.ft_model.specs.Worlds.{start_as}
use Rattle.ft_layout.specs.Starts.{IsHeap, AreTables}
use Rattle.ft_trace.specs.declared.Shape.{Shape as Plan}
use Rattle.ft_bank.specs.declared.shape.Shape.{Shape}

-- the shape as traces have it
abbrev pub plan : Shape → Plan
plan s =
    record {
      starts = map start_as s.kinds.items;
      texts = s.texts.items;
      tables = s.tables.items;
      heap = s.heap;
      passes = s.passes;
      calls = s.calls;
    }

-- The shape keeps the limits of a bank, and has no deque yet.
pub record IsShape (s : Shape) : Type 0 where
  pub containers : length s.kinds.items ≤ 256
  pub landed : All (λ kind. is_landed_kind kind ≡ true) s.kinds.items
  pub texts : length s.texts.items ≤ 65536
  pub tables : AreTables s.tables.items
  pub heap : IsHeap s.heap
  pub passes : (1 ≤ s.passes) × (s.passes ≤ 64)
  pub calls : s.calls < 2 ^ 32
