-- That the version of an item has room for one more write.
use Rattle.std.proofs.Common.{◌≡◌, ℕ, suc, ◌*◌, ◌^◌, ◌<◌, true, List, ap, ◌∙◌, refl, arith}
use Rattle.std.specs.Prelude.{slice_index}
use Rattle.std.proofs.Math.Bridge.{le_prop}
use Rattle.std.proofs.Math.Logic.{∥∥₁_elim}
use Rattle.ft_model.specs.declared.script.Kind.{Kind}
use Rattle.ft_trace.specs.declared.View.{View}
use Rattle.ft_trace.specs.Addresses.{container_count, class_of}
use Rattle.ft_trace.specs.Acts.{has_lock}
use Rattle.ft_trace.specs.Boxes.{known_box_word}
use Rattle.ft_trace.specs.ContainerStates.{kind_in}
use Rattle.ft_trace.specs.Pictures.{root_in}
use Rattle.ft_trace.specs.Kinds.{rows, version_at}
use Rattle.ft_trace.specs.Holds.{held_words, held_unboxed}
use Rattle.ft_trace.specs.Traces.{IsReachable}
use Rattle.ft_trace.specs.Unboxed.{unboxed_table}
use Rattle.ft_trace.proofs.Held.{table_known}
use Rattle.ft_trace.proofs.Lows.{lows}
use Rattle.ft_trace.proofs.NoWrap.{counter_room}
use Rattle.ft_trace.proofs.ReadTables.{read_version}

pub version_room : (v : View) (o t p : ℕ) → ∥ IsReachable v ∥₁ → o < container_count v.shape → has_lock o v.log ≡ true → root_in (held_unboxed o v) ≡ suc t → p < rows (kind_in v.shape.starts o) (class_of t) → v.shape.passes * v.shape.calls < 2 ^ 46 → slice_index (held_unboxed o v).table (version_at (kind_in v.shape.starts o) (class_of t) p) < 2 ^ 63
version_room v o t p possible low mine names row few =
    ∥∥₁_elim {P = slice_index (held_unboxed o v).table (version_at (kind_in v.shape.starts o) (class_of t) p) < 2 ^ 63} possible le_prop
    (λ (x : IsReachable v).
    let k = v.shape in
    let table = table_known v o low t mine names x.0 x.1 x.2 in
    let high = (lows k x.0 x.2.0 o low t table.1).odd p row in
    let count = counter_room k x.0 x.2.0 in
    let kd : Kind = kind_in k.starts o in
    let box : ℕ → ℕ → ℕ = λ b i. known_box_word k b i v.log in
    let read : slice_index (held_unboxed o v).table (version_at kd (class_of t) p) ≡ slice_index (held_words o v).table (version_at kd (class_of t) p) =
    ap (λ (r : ℕ). slice_index (unboxed_table box kd r (held_words o v).table) (version_at kd (class_of t) p)) names ∙ read_version box (class_of t) (rows kd (class_of t)) (held_words o v).table kd refl p row in
    let same = read ∙ ap (λ (l : List ℕ). slice_index l (version_at (kind_in k.starts o) (class_of t) p)) table.0 in
    let low : slice_index (held_unboxed o v).table (version_at (kind_in k.starts o) (class_of t) p) < 2 ^ 63 = omega (arith, high, count, same, few) in
    low)
