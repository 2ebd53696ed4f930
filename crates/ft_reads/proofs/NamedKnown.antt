-- Boxes that a container names whose lock a pass has: the pass knows their values, and knows the same after loads.
use Rattle.std.proofs.Common.{◌≡◌, ◌≢◌, ◌⊎◌, ℕ, ◌/◌, ◌<◌, true, true≢false, sym, ◌∙◌, subst, inl, inr, arith}
use Rattle.std.proofs.Math.Bridge.{le_prop}
use Rattle.std.proofs.Math.Logic.{∥∥₁_elim}
use Rattle.ft_trace.specs.declared.Shape.{Shape}
use Rattle.ft_trace.specs.declared.View.{View}
use Rattle.ft_trace.specs.Acts.{has_lock, mem}
use Rattle.ft_trace.specs.Addresses.{container_count, maker_of, place_in, place_word_of, IsBoxName}
use Rattle.ft_trace.specs.Boxes.{named_in_root, known_box_word, knows_box_word}
use Rattle.ft_trace.specs.BoxTraces.{references}
use Rattle.ft_trace.specs.ContainerStates.{kind_in}
use Rattle.ft_trace.specs.Holds.{held_words}
use Rattle.ft_trace.specs.Pictures.{root_in}
use Rattle.ft_trace.specs.Traces.{run, IsReachable}
use Rattle.ft_trace.proofs.BoxKnown.{named_sure}
use Rattle.ft_trace.proofs.BoxValues.{box_name, box_there}
use Rattle.ft_trace.proofs.NamedBoxes.{named_known, named_low}
use Rattle.ft_trace.proofs.PlainPuts.{named_is}
use Rattle.ft_bank.specs.declared.pass.Pass.{Pass}
use Rattle.ft_bank.specs.Passes.{view}
use Rattle.ft_bank.specs.Whole.{OnlyLoaded}
use Rattle.ft_bank.proofs.ValuesPut.{is_true}

module _ (v : View) (c b : ℕ) (possible : ∥ IsReachable v ∥₁) (low : c < container_count v.shape) (mine : has_lock c v.log ≡ true) (names : named_in_root b (kind_in v.shape.starts c) (root_in (held_words c v)) (held_words c v).table ≢ 0) where
  abbrev k : Shape
  k = v.shape

  sure_now : (x : IsReachable v) → (knows_box_word k b 1 v.log ≡ true) × (knows_box_word k b 2 v.log ≡ true)
  sure_now x = named_sure k x.0 x.2.0 x.1 v x.2.1 b c low mine (λ z. names (sym (named_is k c b (mem k v.log)) ∙ z))

  name_now : (x : IsReachable v) → IsBoxName k b
  name_now x =
      let es = x.0 in
      let n = named_known k es x.2.0 x.1 v x.2.1 b c low mine in
      let m = named_low k b c (run k es).words low in
      let e = named_is k c b (mem k v.log) in
      let some_ : references k b es ≢ 0 = λ z. names (omega (arith, n, m, e, z)) in
      let up = box_there k b es x.2.0 some_ in
      box_name k b es x.2.0 (λ z. absurd (omega (arith, up, z)))

  pub root_names_box : IsBoxName k b
  root_names_box = (
    ∥∥₁_elim {P = maker_of b < k.passes} possible le_prop (λ x. (name_now x).0),
    ∥∥₁_elim {P = place_in b < k.heap} possible le_prop (λ x. (name_now x).1),
    ∥∥₁_elim {P = place_word_of b < k.heap / 64} possible le_prop (λ x. (name_now x).2),
  )

  pub root_names_known : (knows_box_word k b 1 v.log ≡ true) × (knows_box_word k b 2 v.log ≡ true)
  root_names_known = (
    is_true (knows_box_word k b 1 v.log) (λ e. ∥∥₁_elim {P = ⊥} possible (λ a b. absurd a) (λ x. true≢false (sym (sure_now x).0 ∙ e))),
    is_true (knows_box_word k b 2 v.log) (λ e. ∥∥₁_elim {P = ⊥} possible (λ a b. absurd a) (λ x. true≢false (sym (sure_now x).1 ∙ e))),
  )

-- after loads it knows the same of such a box
pub known_same : (k : Shape) (c b i : ℕ) (p : Pass) (w : View) → (view p).shape ≡ k → OnlyLoaded (view p) w → c < container_count k → has_lock c (view p).log ≡ true → (i ≡ 1) ⊎ (i ≡ 2)
    → named_in_root b (kind_in k.starts c) (root_in (held_words c (view p))) (held_words c (view p)).table ≢ 0
    → known_box_word w.shape b i w.log ≡ known_box_word (view p).shape b i (view p).log
known_same k c b i p w shape l low mine which names =
    let v = view p in
    let here : c < container_count v.shape = subst (λ (z : Shape). c < container_count z) (sym shape) low in
    let some_ : named_in_root b (kind_in v.shape.starts c) (root_in (held_words c v)) (held_words c v).table ≢ 0 =
    subst (λ (z : Shape). named_in_root b (kind_in z.starts c) (root_in (held_words c v)) (held_words c v).table ≢ 0) (sym shape) names in
    let known = root_names_known v c b p.possible here mine some_ in
    (l.boxes.knows b i (root_names_box v c b p.possible here mine some_) which (by i which known.0 known.1)).1
  where
    by : (i : ℕ) → (i ≡ 1) ⊎ (i ≡ 2) → knows_box_word (view p).shape b 1 (view p).log ≡ true → knows_box_word (view p).shape b 2 (view p).log ≡ true → knows_box_word (view p).shape b i (view p).log ≡ true
    by i (inl e) one two = subst (λ (z : ℕ). knows_box_word (view p).shape b z (view p).log ≡ true) (sym e) one
    by i (inr e) one two = subst (λ (z : ℕ). knows_box_word (view p).shape b z (view p).log ≡ true) (sym e) two
