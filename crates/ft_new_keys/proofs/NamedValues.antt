-- The boxes that a container names whose lock a pass has: their names, and that there is a value in each.
use Rattle.std.proofs.Common.{◌≡◌, ◌≢◌, ℕ, suc, ◌/◌, ◌%◌, ◌<◌, ◌≤◌, true, inl, refl, sym, ap, subst, arith}
use Rattle.std.specs.Prelude.{slice_index}
use Rattle.std.proofs.Math.Bridge.{le_prop}
use Rattle.std.proofs.Math.Logic.{∥∥₁_elim}
use Rattle.ft_layout.specs.declared.slot.Stored.TheVariants.{Plain}
use Rattle.ft_layout.specs.Words.{stored_kind}
use Rattle.ft_model.specs.declared.data.Value.{Value}
use Rattle.ft_model.specs.declared.data.Value.TheVariants as value
use Rattle.ft_model.specs.declared.script.Kind.{Kind}
use Rattle.ft_trace.specs.declared.Shape.{Shape}
use Rattle.ft_trace.specs.declared.View.{View}
use Rattle.ft_trace.specs.Addresses.{class_of, container_count, maker_of, place_in}
use Rattle.ft_trace.specs.Acts.{has_lock, mem}
use Rattle.ft_trace.specs.Boxes.{value_at, names_box_at, named_in_root, named_in_container, known_box_word}
use Rattle.ft_trace.specs.BoxWords.{IsBoxedValue}
use Rattle.ft_trace.specs.ContainerStates.{kind_in}
use Rattle.ft_trace.specs.Holds.{held_words}
use Rattle.ft_trace.specs.Kinds.{rows}
use Rattle.ft_trace.specs.Pictures.{root_in}
use Rattle.ft_trace.specs.Traces.{run, IsReachable}
use Rattle.ft_trace.proofs.BoxedValues.{boxes_have_values}
use Rattle.ft_trace.proofs.BoxKnown.{box_known}
use Rattle.ft_trace.proofs.BoxValues.{box_there}
use Rattle.ft_trace.proofs.NamedBoxes.{named_known, named_low}
use Rattle.ft_trace.proofs.PlainPuts.{named_is}
use Rattle.ft_trace.proofs.Sums.{sum_at}
use Rattle.ft_trace.proofs.Unboxed.{named_row}
use Rattle.ft_bank.proofs.NamedBoxes.{named_is_box, named_is_known}

plain_some : (v : Value) → 1 ≤ stored_kind (Plain v)
plain_some value.Nothing = omega arith
plain_some (value.Int n) = omega arith
plain_some (value.Text s) = omega arith

boxed_some : (kind payload : ℕ) → IsBoxedValue kind payload → 1 ≤ kind
boxed_some kind payload is = let e = is.words.kind_is in let p = plain_some is.stored in omega (arith, e, p)

module _ (v : View) (o t p : ℕ) (possible : ∥ IsReachable v ∥₁) (low : o < container_count v.shape) (mine : has_lock o v.log ≡ true) (names : root_in (held_words o v) ≡ suc t) (less : p < rows (kind_in v.shape.starts o) (class_of t)) (four : slice_index (held_words o v).table (value_at (kind_in v.shape.starts o) (class_of t) p) ≡ 4) where
  abbrev k : Shape
  k = v.shape

  abbrev kd : Kind
  kd = kind_in v.shape.starts o

  abbrev b : ℕ
  b = slice_index (held_words o v).table (suc (value_at (kind_in v.shape.starts o) (class_of t) p))

  named_some : named_in_container k b o (mem k v.log) ≢ 0
  named_some z =
      let table = (held_words o v).table in
      let one = named_row b kd (class_of t) table p four refl in
      let s = sum_at (names_box_at b kd (class_of t) table) (rows kd (class_of t)) p less in
      let e = named_is k o b (mem k v.log) in
      let r : named_in_root b kd (root_in (held_words o v)) table ≡ named_in_root b kd (suc t) table = ap (λ (x : ℕ). named_in_root b kd x table) names in
      omega (arith, one, s, e, r, z)

  some_now : (x : IsReachable v) → 1 ≤ known_box_word k b 1 v.log
  some_now x =
      let es = x.0 in
      let n = named_known k es x.2.0 x.1 v x.2.1 b o low mine in
      let m = named_low k b o (run k es).words low in
      let up = box_there k b es x.2.0 (λ z. named_some (omega (arith, n, m, z))) in
      let name = named_is_box v o t p possible low mine names less four in
      let sure = (named_is_known v o t p possible low mine names less four).0 in
      let known = box_known k es x.2.0 x.1 v x.2.1 b 1 name (inl refl) sure in
      subst (λ (n : ℕ). 1 ≤ n) (sym known) (boxed_some _ _ (boxes_have_values k b es x.2.0 up))

  -- there is a value in it
  pub named_has_value : 1 ≤ known_box_word k b 1 v.log
  named_has_value = ∥∥₁_elim {P = 1 ≤ known_box_word k b 1 v.log} possible le_prop some_now

  -- and its name fits a word
  pub named_fits : k.passes ≤ 64 → k.heap ≤ 4096 → (b / 65536 < 64) × (b % 65536 < 4096)
  unfolding maker_of place_in
  named_fits passes heap =
      let name = named_is_box v o t p possible low mine names less four in
      let maker : b / 65536 < k.passes = name.0 in
      let place : b % 65536 < k.heap = name.1 in
      (omega (arith, maker, passes), omega (arith, place, heap))
