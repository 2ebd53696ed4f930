-- What a pass has read of two containers, later.
use Rattle.std.proofs.Common.{◌≡◌, ◌+◌, ◌^◌, ◌<◌, Some, sym, ap, ◌∙◌, subst}
use Rattle.ft_model.specs.declared.script.Kind.{Kind}
use Rattle.ft_model.specs.Worlds.{serial_of}
use Rattle.ft_trace.specs.declared.Shape.{Shape}
use Rattle.ft_trace.specs.declared.View.{View}
use Rattle.ft_trace.specs.Holds.{held_unboxed, known_state}
use Rattle.ft_trace.specs.Pictures.{ContainerWords}
use Rattle.ft_trace.specs.ContainerStates.{ContainerState}
use Rattle.ft_new_keys.specs.KeyGrowth.{KnowsKeyed}
use Rattle.ft_new_keys.specs.Placing.{AreCounts}
use Rattle.ft_merging.specs.declared.merging.Merge.{Merge}
use Rattle.ft_merging.specs.Joining.{new_keys}
use Rattle.ft_merging.specs.Merging.{MayMerge}

-- it is so later too, where the pass holds and knows the same
pub merge_later : (k : Shape) (kind : Kind) (merge : Merge) (v u : View) → held_unboxed merge.o u ≡ held_unboxed merge.o v → known_state merge.o u ≡ known_state merge.o v → known_state merge.t u ≡ known_state merge.t v → KnowsKeyed k merge.t (Some merge.table) u → MayMerge k kind merge v → MayMerge k kind merge u
merge_later k kind merge v u words mine others knows may = record {
  two = may.two;
  other = knows;
  way = may.way;
  other_way = may.other_way;
  others = may.others ∙ ap (λ (z : ContainerState). z.table.fill) (sym others);
  counts = subst (λ (z : ContainerWords). AreCounts z.block merge.counts) (sym words) may.counts;
  more = may.more ∙ (λ i. new_keys (sym mine i).content (sym others i).content);
  serials = subst (λ (z : ContainerState). serial_of z.content + 65536 < 2 ^ 63) (sym mine) may.serials;
}
