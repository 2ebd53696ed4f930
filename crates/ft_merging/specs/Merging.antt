-- What a pass has read of two containers, one of which gets keys of the other one.
use Rattle.std.specs.Prelude.{◌≡◌, ◌≢◌, ◌+◌, ◌^◌, ◌<◌, Some}
use Rattle.ft_model.specs.declared.script.Kind.{Kind}
use Rattle.ft_model.specs.Worlds.{serial_of}
use Rattle.ft_trace.specs.declared.Shape.{Shape}
use Rattle.ft_trace.specs.declared.View.{View}
use Rattle.ft_trace.specs.Holds.{held_unboxed, known_state}
use Rattle.ft_trace.specs.ContainerStates.{kind_in}
use Rattle.ft_new_keys.specs.KeyGrowth.{KnowsKeyed}
use Rattle.ft_new_keys.specs.Placing.{AreCounts}
use Rattle.ft_merging.specs.declared.merging.Merge.{Merge}
use Rattle.ft_merging.specs.Joining.{new_keys}

-- The two are not one container and are of this kind. The pass has the lock of the other one, which has this table with
-- that many used entries; of the first one these are the counts, and that many keys are new to it, with serials left
-- for them. (profile)
pub record MayMerge (k : Shape) (kind : Kind) (merge : Merge) (v : View) : Type 0 where
  pub two : merge.o ≢ merge.t
  pub other : KnowsKeyed k merge.t (Some merge.table) v
  pub way : kind_in k.starts merge.o ≡ kind
  pub other_way : kind_in k.starts merge.t ≡ kind
  pub others : merge.others ≡ (known_state merge.t v).table.fill
  pub counts : AreCounts (held_unboxed merge.o v).block merge.counts
  pub more : merge.more ≡ new_keys (known_state merge.o v).content (known_state merge.t v).content
  pub serials : serial_of (known_state merge.o v).content + 65536 < 2 ^ 63
