-- Steps on fresh tables keep what a pass knows of the values in its boxes.
use Rattle.std.proofs.Common.{◌≡◌, ℕ, refl}
use Rattle.ft_trace.specs.declared.Act.TheVariants.{PutFresh, ReadTable}
use Rattle.ft_trace.specs.declared.View.{View}
use Rattle.ft_trace.specs.Acts.{view_after}
use Rattle.ft_boxes.specs.References.{KeepsValues}
use Rattle.ft_boxes.proofs.Steps.{keeps_by}

-- a load
pub keeps_load : (v w : View) (t i f : ℕ) → w ≡ view_after (ReadTable t i f) v → KeepsValues v w
keeps_load v w t i f is = keeps_by v w (ReadTable t i f) (λ k b j n which. refl) is

-- a put
pub keeps_fresh : (v w : View) (t i x : ℕ) → w ≡ view_after (PutFresh t i x) v → KeepsValues v w
keeps_fresh v w t i x is = keeps_by v w (PutFresh t i x) (λ k b j n which. refl) is
