-- The boxes that a container names whose lock a pass has are boxes of the bank, whose values the pass knows.
use Rattle.std.proofs.Common.{◌≡◌, ◌≢◌, ℕ, suc, ◌/◌, ◌<◌, true, true≢false, refl, sym, ap, ◌∙◌, inr, arith}
use Rattle.std.specs.Prelude.{slice_index}
use Rattle.std.proofs.Math.Bridge.{le_prop}
use Rattle.std.proofs.Math.Logic.{∥∥₁_elim}
use Rattle.ft_model.specs.declared.script.Kind.{Kind}
use Rattle.ft_trace.specs.declared.Shape.{Shape}
use Rattle.ft_trace.specs.declared.View.{View}
use Rattle.ft_trace.specs.Addresses.{class_of, container_count, maker_of, place_in, place_word_of, IsBoxName}
use Rattle.ft_trace.specs.Acts.{has_lock, mem}
use Rattle.ft_trace.specs.Boxes.{value_at, names_box_at, named_in_root, named_in_container, knows_box_word, KeepsBox}
use Rattle.ft_trace.specs.BoxTraces.{references}
use Rattle.ft_trace.specs.ContainerStates.{kind_in}
use Rattle.ft_trace.specs.Holds.{held_words}
use Rattle.ft_trace.specs.Kinds.{rows}
use Rattle.ft_trace.specs.Pictures.{root_in}
use Rattle.ft_trace.specs.Traces.{run, IsReachable}
use Rattle.ft_trace.proofs.BoxKnown.{named_sure}
use Rattle.ft_trace.proofs.BoxValues.{box_name, box_there}
use Rattle.ft_trace.proofs.NamedBoxes.{named_known, named_low}
use Rattle.ft_trace.proofs.PlainPuts.{named_is}
use Rattle.ft_trace.proofs.Sums.{sum_at}
use Rattle.ft_trace.proofs.Unboxed.{named_row}
use Rattle.ft_bank.proofs.ValuesPut.{is_true}

positive : (n : ℕ) → n ≢ 0 → 0 < n
positive n ne = omega (arith, ne)

module _ (v : View) (o t p : ℕ) (possible : ∥ IsReachable v ∥₁) (low : o < container_count v.shape) (mine : has_lock o v.log ≡ true) (names : root_in (held_words o v) ≡ suc t) (less : p < rows (kind_in v.shape.starts o) (class_of t)) (four : slice_index (held_words o v).table (value_at (kind_in v.shape.starts o) (class_of t) p) ≡ 4) where
  abbrev k : Shape
  k = v.shape

  abbrev kd : Kind
  kd = kind_in v.shape.starts o

  abbrev pub named_box : ℕ
  named_box = slice_index (held_words o v).table (suc (value_at (kind_in v.shape.starts o) (class_of t) p))

  named_some : named_in_container k named_box o (mem k v.log) ≢ 0
  named_some z =
      let table = (held_words o v).table in
      let one = named_row named_box kd (class_of t) table p four refl in
      let s = sum_at (names_box_at named_box kd (class_of t) table) (rows kd (class_of t)) p less in
      let e = named_is k o named_box (mem k v.log) in
      let r : named_in_root named_box kd (root_in (held_words o v)) table ≡ named_in_root named_box kd (suc t) table = ap (λ (x : ℕ). named_in_root named_box kd x table) names in
      omega (arith, one, s, e, r, z)

  -- so the lock keeps it
  pub named_keeps : KeepsBox k named_box v.log
  named_keeps = inr (o, low, mine, let some_ = named_some in positive (named_in_container k named_box o (mem k v.log)) some_)

  sure_now : (x : IsReachable v) → (knows_box_word k named_box 1 v.log ≡ true) × (knows_box_word k named_box 2 v.log ≡ true)
  sure_now x = named_sure k x.0 x.2.0 x.1 v x.2.1 named_box o low mine named_some

  name_now : (x : IsReachable v) → IsBoxName k named_box
  name_now x =
      let es = x.0 in
      let n = named_known k es x.2.0 x.1 v x.2.1 named_box o low mine in
      let m = named_low k named_box o (run k es).words low in
      let some_ : references k named_box es ≢ 0 = λ z. named_some (omega (arith, n, m, z)) in
      let up = box_there k named_box es x.2.0 some_ in
      box_name k named_box es x.2.0 (λ z. absurd (omega (arith, up, z)))

  pub named_is_box : IsBoxName k named_box
  named_is_box = (
    ∥∥₁_elim {P = maker_of named_box < k.passes} possible le_prop (λ x. (name_now x).0),
    ∥∥₁_elim {P = place_in named_box < k.heap} possible le_prop (λ x. (name_now x).1),
    ∥∥₁_elim {P = place_word_of named_box < k.heap / 64} possible le_prop (λ x. (name_now x).2),
  )

  pub named_is_known : (knows_box_word k named_box 1 v.log ≡ true) × (knows_box_word k named_box 2 v.log ≡ true)
  named_is_known = (
    is_true (knows_box_word k named_box 1 v.log) (λ e. ∥∥₁_elim {P = ⊥} possible (λ a b. absurd a) (λ x. true≢false (sym (sure_now x).0 ∙ e))),
    is_true (knows_box_word k named_box 2 v.log) (λ e. ∥∥₁_elim {P = ⊥} possible (λ a b. absurd a) (λ x. true≢false (sym (sure_now x).1 ∙ e))),
  )
