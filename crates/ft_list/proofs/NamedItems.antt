-- That a list names the box which the words of one of its items name.
use Rattle.std.proofs.Common.{◌≡◌, ◌≢◌, ℕ, suc, ◌<◌, sym, ap, ◌∙◌, subst, arith}
use Rattle.std.specs.Prelude.{slice_index}
use mathlib.Core.Logic.{dite}
use native.Mathlib.Decide.{ℕ_discrete}
use Rattle.ft_model.specs.declared.script.Kind.{Kind}
use Rattle.ft_model.specs.declared.script.Kind.TheVariants as kind
use Rattle.ft_trace.specs.declared.View.{View}
use Rattle.ft_trace.specs.Acts.{mem}
use Rattle.ft_trace.specs.Addresses.{class_of, slots}
use Rattle.ft_trace.specs.Boxes.{names_box, names_box_at, named_in_root, named_in_container, value_at}
use Rattle.ft_trace.specs.ContainerStates.{kind_in}
use Rattle.ft_trace.specs.Holds.{held_words}
use Rattle.ft_trace.specs.Kinds.{rows}
use Rattle.ft_trace.specs.Pictures.{item_field, item_offset, root_in}
use Rattle.ft_trace.proofs.PlainPuts.{named_is}
use Rattle.ft_trace.proofs.Sums.{sum_at}
use Rattle.ft_trace.proofs.Unboxed.{named_row}
use Rattle.ft_search.proofs.Overs.{boxed_names, plain_names}
use Rattle.ft_trace.proofs.Cases.{miss}

-- words that name a box are those of that box
pub box_named : (b kind payload : ℕ) → names_box b kind payload ≡ 1 → (kind ≡ 4) × (payload ≡ b)
box_named b kind payload one =
    dite (ℕ_discrete kind 4)
    (λ (four : kind ≡ 4). dite (ℕ_discrete payload b)
    (λ (same : payload ≡ b). (four, same))
    (λ ne. let none = boxed_names b kind payload four in let zero_ : names_box b kind payload ≡ 0 = none ∙ miss payload b 1 0 ne in absurd (omega (arith, one, zero_))))
    (λ ne. let none = plain_names b kind payload ne in absurd (omega (arith, one, none)))

pub item_named : (v : View) (o t p b : ℕ) → kind_in v.shape.starts o ≡ kind.List → root_in (held_words o v) ≡ suc t → p < slots (class_of t) → item_field (held_words o v).table p 1 ≡ 4 → item_field (held_words o v).table p 2 ≡ b → named_in_container v.shape b o (mem v.shape v.log) ≢ 0
item_named v o t p b is_kind names low four is none =
    let kd : Kind = kind_in v.shape.starts o in
    let class = class_of t in
    let table = (held_words o v).table in
    let next : suc (value_at kind.List class p) ≡ item_offset p 2 = omega arith in
    let one : names_box_at b kind.List class table p ≡ 1 = named_row b kind.List class table p four (ap (λ (i : ℕ). slice_index table i) next ∙ is) in
    let here : names_box_at b kd class table p ≡ 1 = ap (λ (z : Kind). names_box_at b z class table p) is_kind ∙ one in
    let less : p < rows kd class = subst (λ (z : Kind). p < rows z class) (sym is_kind) low in
    let s = sum_at (names_box_at b kd class table) (rows kd class) p less in
    let e = named_is v.shape o b (mem v.shape v.log) in
    let r : named_in_root b kd (root_in (held_words o v)) table ≡ named_in_root b kd (suc t) table = ap (λ (x : ℕ). named_in_root b kd x table) names in
    omega (arith, here, s, e, r, none)
