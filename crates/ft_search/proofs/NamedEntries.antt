-- That a dict or a set names the box which the words of one of its entries name.
use Rattle.std.proofs.Common.{◌≡◌, ◌≢◌, ℕ, suc, ◌<◌, sym, ap, ◌∙◌, subst, arith}
use Rattle.std.specs.Prelude.{slice_index}
use mathlib.Core.Logic.{dite}
use native.Mathlib.Decide.{ℕ_discrete}
use Rattle.ft_model.specs.declared.script.Kind.{Kind}
use Rattle.ft_trace.specs.declared.Shape.{Shape}
use Rattle.ft_trace.specs.declared.View.{View}
use Rattle.ft_trace.specs.Acts.{mem}
use Rattle.ft_trace.specs.Addresses.{class_of, slots}
use Rattle.ft_trace.specs.Boxes.{names_box, names_box_at, named_in_root, named_in_container, value_at}
use Rattle.ft_trace.specs.ContainerStates.{kind_in}
use Rattle.ft_trace.specs.Holds.{held_words}
use Rattle.ft_trace.specs.Kinds.{rows, IsKeyed}
use Rattle.ft_trace.specs.Pictures.{entry_field, entry_offset, root_in}
use Rattle.ft_trace.proofs.Cases.{miss}
use Rattle.ft_trace.proofs.PlainPuts.{named_is}
use Rattle.ft_trace.proofs.Sums.{sum_at}
use Rattle.ft_trace.proofs.Unboxed.{named_row}
use Rattle.ft_search.proofs.Overs.{boxed_names, plain_names}
use Rattle.ft_search.proofs.Puts.{keyed_value}

-- words that name a box are those of that box
pub box_named : (b kind payload : ℕ) → names_box b kind payload ≡ 1 → (kind ≡ 4) × (payload ≡ b)
box_named b kind payload one =
    dite (ℕ_discrete kind 4)
    (λ (four : kind ≡ 4). dite (ℕ_discrete payload b)
    (λ (same : payload ≡ b). (four, same))
    (λ ne. let none = boxed_names b kind payload four in let zero_ : names_box b kind payload ≡ 0 = none ∙ miss payload b 1 0 ne in absurd (omega (arith, one, zero_))))
    (λ ne. let none = plain_names b kind payload ne in absurd (omega (arith, one, none)))

pub entry_named : (k : Shape) (v : View) (o t p b : ℕ) → v.shape ≡ k → IsKeyed (kind_in k.starts o) → root_in (held_words o v) ≡ suc t → p < rows (kind_in v.shape.starts o) (class_of t) → entry_field (slots (class_of t)) (held_words o v).table p 4 ≡ 4 → entry_field (slots (class_of t)) (held_words o v).table p 5 ≡ b → named_in_container v.shape b o (mem v.shape v.log) ≢ 0
entry_named k v o t p b shape keyed names low four is none =
    let kd : Kind = kind_in v.shape.starts o in
    let keyed_v : IsKeyed kd = subst (λ (z : Shape). IsKeyed (kind_in z.starts o)) (sym shape) keyed in
    let class = class_of t in
    let table = (held_words o v).table in
    let at = keyed_value kd keyed_v class p in
    let next : suc (value_at kd class p) ≡ entry_offset (slots class) p 5 = omega (arith, at) in
    let one : names_box_at b kd class table p ≡ 1 = named_row b kd class table p (ap (slice_index table) at ∙ four) (ap (slice_index table) next ∙ is) in
    let s = sum_at (names_box_at b kd class table) (rows kd class) p low in
    let e = named_is v.shape o b (mem v.shape v.log) in
    let r : named_in_root b kd (root_in (held_words o v)) table ≡ named_in_root b kd (suc t) table = ap (λ (x : ℕ). named_in_root b kd x table) names in
    omega (arith, one, s, e, r, none)
