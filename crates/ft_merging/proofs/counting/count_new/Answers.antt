use Rattle.std.proofs.Common.{◌≡◌, ◌+◌, ◌≤◌, ◌∷◌, ℕ, Bool, true, false, not, None, sym, ap, ◌∙◌, subst, arith}
use Rattle.std.specs.Prelude.{◌&&◌, pos, slice_index_or, if◌then◌else◌}
use Rattle.std.proofs.lemmas.List.{at_drop_more}
use Rattle.ft_model.specs.declared.data.Key.TheVariants.{Int}
use Rattle.ft_layout.specs.Containers.{class_mask}
use Rattle.ft_layout.specs.Tables.{UsedEntry, is_live}
use Rattle.ft_keys.specs.Ways.{IsTableOf}
use Rattle.ft_trace.specs.Addresses.{class_of}
use Rattle.ft_trace.specs.Holds.{known_state}
use Rattle.ft_trace.specs.Pictures.{ContainerWords}
use Rattle.ft_trace.specs.ContainerStates.{ContainerState}
use Rattle.ft_bank.specs.Passes.{shape_of, view}
use Rattle.ft_bank.specs.TableNames.{table_id}
use Rattle.ft_bank.proofs.KnownAfterWrites.{loaded_then, work_knows}
use Rattle.ft_new_keys.specs.KeyGrowth.{holds}
use Rattle.ft_merging.specs.Internal.JoiningSteps.{lacking}
use Rattle.ft_merging.proofs.Ending.{read_same}
use Rattle.ft_merging.proofs.counting.count_new.Goals as goal
use Rattle.ft_merging.proofs.counting.count_new.Goals.{After-is_new_at, then-is_new_at, else-is_new_at}

abbrev one_if : Bool → ℕ
one_if b = if b then 1 else 0

any : UsedEntry
any = record { key = Int (pos 0); serial = 0; stored = None }

pub loop-place-preserved : goal.loop-place-preserved
loop-place-preserved c =
    let a = c.args in
    let i = c.loop-place.invariant in
    let e = c.is_new_at.ensures in
    let v = view a.pass.now in
    let u = view c.loop-place.pass in
    let w = view c.is_new_at.new.pass in
    let more : c.if-is_new_at.count ≡ c.loop-place.count + one_if c.is_new_at.result = elim c.if-is_new_at.branch [
      | then-is_new_at b ↦ b.count-is ∙ ap (λ (z : Bool). c.loop-place.count + one_if z) (sym b.if-is_new_at.true)
      | else-is_new_at b ↦ b.count-is ∙ (plus_none c.loop-place.count ∙ ap (λ (z : Bool). c.loop-place.count + one_if z) (sym b.if-is_new_at.false))
    ] in
    let few : one_if c.is_new_at.result ≤ 1 = at_most c.is_new_at.result in
    let low = i.few in
    let other = read_same (shape_of a.bank.now) a.t v u c.requires.pass.1 c.requires.other.container c.requires.other.locked i.only in
    let mine = work_knows v u a.o i.only.work in
    let fill = work_knows v u a.t i.only.work in
    record {
      pass = e.pass;
      stack = e.stack ∙ i.stack;
      only = loaded_then v u w i.only e.only;
      few = omega (arith, more, few, low);
      counted = λ used says filled.
          let was = i.counted used says filled in
          let here = e.new used (subst (λ (x : ContainerWords). IsTableOf a.way (shape_of a.bank.now).texts (class_mask (class_of (table_id a.table))) used (0 ∷ 0 ∷ x.table)) (sym other) says) (filled ∙ ap (λ (z : ContainerState). z.table.fill) (sym fill)) any in
          let d = (known_state a.o v).content in
          let is : c.is_new_at.result ≡ (is_live (slice_index_or used c.loop-place.place any) && not (holds d (slice_index_or used c.loop-place.place any).key)) = here ∙ ap (λ (z : ContainerState). is_live (slice_index_or used c.loop-place.place any) && not (holds z.content (slice_index_or used c.loop-place.place any).key)) mine in
          let inside = c.loop-place-test.true in
          let all = c.requires.fill in
          let next = at_drop_more (lacking d) used c.loop-place.place any (omega (arith, inside, filled, all)) in
          let flag = ap one_if is in
          omega (arith, was, next, flag, more);
    }
  where
    plus_none : (n : ℕ) → n ≡ n + 0
    plus_none n = omega arith

    at_most : (b : Bool) → one_if b ≤ 1
    at_most true = omega arith
    at_most false = omega arith
