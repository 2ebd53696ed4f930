-- Loads, and nothing, as parts of a write.
use Rattle.std.proofs.Common.{ℕ}
use Rattle.ft_trace.specs.declared.View.{View}
use Rattle.ft_bank.specs.Whole.{OnlyLoaded, OnlyWritten}
use Rattle.ft_bank.proofs.KnownAfterWrites.{loaded_put, put_same, put_written}

pub loaded_written : (o : ℕ) (v w : View) → OnlyLoaded v w → OnlyWritten o v w
loaded_written o v w l = put_written o v w (loaded_put v w o l)

pub written_same : (o : ℕ) (v : View) → OnlyWritten o v v
written_same o v = put_written o v v (put_same v o)
