-- A fresh table whose values all stand in place, for a dict or a set that gets it.
use Rattle.std.proofs.Common.{◌≡◌, ℕ, ◌<◌, sym, ap, ◌∙◌, subst}
use Rattle.std.specs.Prelude.{slice_index}
use Rattle.ft_model.specs.declared.content.Content.{Content}
use Rattle.ft_model.specs.declared.script.Kind.{Kind}
use Rattle.ft_model.specs.Worlds.{kind_of}
use Rattle.ft_trace.specs.declared.Shape.{Shape}
use Rattle.ft_trace.specs.declared.View.{View}
use Rattle.ft_trace.specs.Addresses.{class_of}
use Rattle.ft_trace.specs.Boxes.{known_box_word}
use Rattle.ft_trace.specs.ContainerStates.{kind_in}
use Rattle.ft_trace.specs.Holds.{hand_unboxed, in_hand}
use Rattle.ft_trace.specs.Kinds.{rows, IsKeyed}
use Rattle.ft_table_calls.proofs.PlainTables.{ArePlain, plain_reads}
use Rattle.ft_search.proofs.Puts.{keyed_value}
use Rattle.ft_new_keys.specs.Fresh.{IsFilledWith}
use Rattle.ft_replacing.specs.Sharing.{NamesLocked}

module _ (k : Shape) (o t : ℕ) (left : Content) (v : View) (shape : v.shape ≡ k) (keyed : IsKeyed (kind_in k.starts o)) (kind_is : kind_of left ≡ kind_in k.starts o) (filled : IsFilledWith k.texts (class_of t) left (in_hand t v)) where
  plain : ArePlain (kind_in k.starts o) (class_of t) (in_hand t v) (rows (kind_in k.starts o) (class_of t))
  plain p low four =
      filled.plain p (subst (λ (z : Kind). p < rows z (class_of t)) (sym kind_is) low)
      (ap (slice_index (in_hand t v)) (sym (keyed_value (kind_in k.starts o) keyed (class_of t) p)) ∙ four)

  -- it reads as it stands
  pub plain_filled : IsFilledWith k.texts (class_of t) left (hand_unboxed o t v)
  plain_filled =
      let at : ArePlain (kind_in v.shape.starts o) (class_of t) (in_hand t v) (rows (kind_in v.shape.starts o) (class_of t)) = subst (λ (z : Shape). ArePlain (kind_in z.starts o) (class_of t) (in_hand t v) (rows (kind_in z.starts o) (class_of t))) (sym shape) plain in
      subst (IsFilledWith k.texts (class_of t) left) (sym (plain_reads (λ n i. known_box_word v.shape n i v.log) (kind_in v.shape.starts o) t (in_hand t v) at)) filled

  -- and names no box
  pub plain_named : NamesLocked k o t v
  plain_named p low four = absurd (plain p low four)
