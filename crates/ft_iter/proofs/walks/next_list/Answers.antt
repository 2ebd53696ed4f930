use Rattle.std.proofs.Common.{◌≡◌, ◌+◌, ◌^◌, ◌<◌, ◌≤◌, ℤ, false, Option, Some, None, refl, sym, ap, ◌∙◌, subst, arith}
use Rattle.std.specs.Prelude.{slice_get}
use Rattle.std.proofs.lemmas.Int.{to_z-of_z}
use mir.Syntax.{w64}
use mir.Val.{SFits}
use Rattle.std.proofs.Math.Decide.{dec_lt}
use mathlib.Core.Logic.{dite}
use Rattle.ft_model.specs.declared.content.Content.{Content}
use Rattle.ft_model.specs.declared.cursor.Cursor.TheVariants as cursor
use Rattle.ft_model.specs.declared.cursor_calls.Advanced.{Advanced}
use Rattle.ft_model.specs.declared.data.Value.{Value}
use Rattle.ft_model.specs.declared.reply.Reply.TheVariants as reply
use Rattle.ft_model.specs.Cursors.{list_walk, list_next}
use Rattle.ft_model.specs.Worlds.{list_of}
use Rattle.ft_trace.specs.declared.Shape.{Shape}
use Rattle.ft_trace.specs.Holds.{held_unboxed, known_state}
use Rattle.ft_trace.specs.ContainerStates.{kind_in}
use Rattle.ft_bank.specs.Passes.{shape_of, view}
use Rattle.ft_list.specs.Indexes.{IsItemNamed, item_named}
use Rattle.ft_reads.specs.Reads.{Reads}
use Rattle.ft_list.proofs.Indexes.{reads_held}
use Rattle.ft_iter.specs.Moves.{IsStep}
use Rattle.ft_iter.proofs.ListSteps.{named-at, list-short, far-none}
use Rattle.ft_iter.proofs.walks.next_list.Goals as goal

pub returns-in_default-clause-next : goal.returns-in_default-clause-next
returns-in_default-clause-next c items is =
    let o = c.args.container in
    let v = view c.args.pass.now in
    let index = c.args.index in
    let r = c.stop_list-in_default.result in
    let short = list-short (shape_of c.args.bank.now).texts (held_unboxed o v) (known_state o v) items c.requires.stands is in
    let far : 2 ^ 16 ≤ index = dite (dec_lt index (2 ^ 16)) (λ (low : index < 2 ^ 16). absurd (c.in_default.ensures (record { sfits = omega (arith, low) }))) (λ high. omega (arith, high)) in
    subst (λ b. IsStep r (list_next items o index b)) (sym c.if-ended.false)
    (subst (λ (z : Option Value). IsStep r (list_walk z o index)) (sym (far-none items index short far)) c.stop_list-in_default.ensures)

pub returns-in-Some-clause-next : goal.returns-in-Some-clause-next
returns-in-Some-clause-next c items is =
    let o = c.args.container in
    let v = view c.args.pass.now in
    let index = c.args.index in
    let k = shape_of c.args.bank.now in
    let list = ap (λ (z : Shape). kind_in z.starts o) c.requires.pass.1 ∙ c.requires.list in
    let fits : SFits w64 c.in-Ok.place = subst (λ (z : ℤ). SFits w64 z) (sym c.in-Ok.ensures.1) c.in-Ok.ensures.0 in
    let reads = subst (λ (z : ℤ). Reads k o (IsItemNamed k z c.read_named.result) c.args.pass.now c.read_named.new.pass) (to_z-of_z w64 c.in-Ok.place fits) c.read_named.ensures.reads in
    let found = reads_held k o c.in-Ok.place c.read_named.result c.args.pass.now c.read_named.new.pass reads c.requires.pass.1 c.requires.container list c.requires.locked c.requires.stands in
    let at : Some c.in-Some.value ≡ slice_get items index =
    sym c.in-Some.is ∙ (found ∙ (ap (λ (z : Content). item_named (list_of z) c.in-Ok.place) is ∙ (ap (item_named items) c.in-Ok.ensures.1 ∙ named-at items index))) in
    let r : Advanced = record { reply = reply.Value c.in-Some.value; cursor = cursor.List o (index + 1) false } in
    subst (λ b. IsStep r (list_next items o index b)) (sym c.if-ended.false)
    (subst (λ (z : Option Value). IsStep r (list_walk z o index)) at (refl, refl))

pub returns-in-None-clause-next : goal.returns-in-None-clause-next
returns-in-None-clause-next c items is =
    let o = c.args.container in
    let v = view c.args.pass.now in
    let index = c.args.index in
    let k = shape_of c.args.bank.now in
    let r = c.stop_list-in-None.result in
    let list = ap (λ (z : Shape). kind_in z.starts o) c.requires.pass.1 ∙ c.requires.list in
    let fits : SFits w64 c.in-Ok.place = subst (λ (z : ℤ). SFits w64 z) (sym c.in-Ok.ensures.1) c.in-Ok.ensures.0 in
    let reads = subst (λ (z : ℤ). Reads k o (IsItemNamed k z c.read_named.result) c.args.pass.now c.read_named.new.pass) (to_z-of_z w64 c.in-Ok.place fits) c.read_named.ensures.reads in
    let found = reads_held k o c.in-Ok.place c.read_named.result c.args.pass.now c.read_named.new.pass reads c.requires.pass.1 c.requires.container list c.requires.locked c.requires.stands in
    let at : None ≡ slice_get items index =
    sym c.in-None.is ∙ (found ∙ (ap (λ (z : Content). item_named (list_of z) c.in-Ok.place) is ∙ (ap (item_named items) c.in-Ok.ensures.1 ∙ named-at items index))) in
    subst (λ b. IsStep r (list_next items o index b)) (sym c.if-ended.false)
    (subst (λ (z : Option Value). IsStep r (list_walk z o index)) at c.stop_list-in-None.ensures)
