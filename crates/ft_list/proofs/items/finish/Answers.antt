use Rattle.std.proofs.Common.{◌≡◌, ℕ, List, sym, ap, ◌∙◌, subst}
use Rattle.std.specs.Prelude.{slice_index}
use Rattle.ft_model.specs.declared.data.Value.{Value}
use Rattle.ft_model.specs.Worlds.{list_of}
use Rattle.ft_trace.specs.declared.View.{View}
use Rattle.ft_trace.specs.Addresses.{class_of}
use Rattle.ft_trace.specs.declared.Act.TheVariants.{StopWrite}
use Rattle.ft_trace.specs.Acts.{view_after}
use Rattle.ft_trace.specs.ContainerStates.{ContainerState, changes}
use Rattle.ft_trace.specs.Pictures.{item_field, root_in, Represents}
use Rattle.ft_trace.specs.Holds.{held_words, held_unboxed, known_state}
use Rattle.ft_bank.specs.Passes.{shape_of, view}
use Rattle.ft_bank.specs.TableNames.{table_id}
use Rattle.ft_bank.specs.Whole.{OnlyPut}
use Rattle.ft_bank.proofs.DoneBoxes.{none_taken}
use Rattle.ft_bank.proofs.KnownAfterWrites.{write_ends}
use Rattle.ft_list.specs.ListItemWrites.{IsChanging, known_items}
use Rattle.ft_list.proofs.FinishedWrites.{kept_after, stands_at_end, list_is_shut}
use Rattle.ft_list.proofs.PutItems.{changing_only}
use Rattle.ft_trace.specs.Boxes.{place_use, references_held}
use Rattle.ft_list.proofs.items.finish.Goals as goal

pub close_items-requires-clause-changing : goal.close_items-requires-clause-changing
close_items-requires-clause-changing c =
    let a = c.args in
    let m = c.requires.may in
    let class = class_of (table_id a.table) in
    let u = view a.pass.now in
    let w = view c.commit-number.new.pass in
    let d = c.commit-number.ensures.did in
    let items : m.after ≡ known_items a.o w = sym (ap (λ (z : ContainerState). list_of z.content) (kept_after a.o a.table a.called.now a.said.now a.first a.past u w m c.commit-number.ensures.committed)) in
    let words : (held_unboxed a.o u).table ≡ (held_unboxed a.o w).table = sym (ap (λ (z : View). (held_unboxed a.o z).table) d.1.1) in
    subst (λ (l : List Value). IsChanging class l l a.first a.past (held_unboxed a.o w).table) items
    (subst (λ (ws : List ℕ). IsChanging class m.after m.after a.first a.past ws) words (changing_only class m.before m.after a.first a.past (held_unboxed a.o u).table m.changing))

pub stop_write-requires-clause-stands : goal.stop_write-requires-clause-stands
stop_write-requires-clause-stands c =
    let a = c.args in
    let u = view a.pass.now in
    let e = c.close_items.ensures in
    stands_at_end a.bank.now.shape.texts.items a.o a.table a.called.now a.said.now a.first a.past u (view c.commit-number.new.pass) (view c.close_items.new.pass) c.requires.may c.commit-number.ensures.committed
    (ap (λ (v : View). held_unboxed a.o v) c.commit-number.ensures.did.1.1) e.only.work e.block e.closed

pub stop_write-requires-clause-shut : goal.stop_write-requires-clause-shut
stop_write-requires-clause-shut c =
    let a = c.args in
    let w = view c.commit-number.new.pass in
    let e = c.close_items.ensures in
    list_is_shut (shape_of a.bank.now) a.o a.table (view c.close_items.new.pass) (known_items a.o w) (known_items a.o w) a.past e.list e.pass.1 e.closed

pub returns-clause-ends : goal.returns-clause-ends
returns-clause-ends c =
    let a = c.args in
    let m = c.requires.may in
    let called = a.called.now in
    let u = view a.pass.now in
    let w = view c.commit-number.new.pass in
    let z = view c.close_items.new.pass in
    let d = c.commit-number.ensures.did in
    let e = c.close_items.ensures in
    let at : a.o ≡ changes called = sym m.changed in
    let root : root_in (held_unboxed a.o z) ≡ root_in (held_unboxed a.o u) = ap (λ (b : List ℕ). slice_index b 0) (e.block ∙ ap (λ (v : View). (held_unboxed a.o v).block) d.1.1) in
    let stands : Represents u.shape.texts (held_unboxed a.o z) (known_state a.o z) = stands_at_end u.shape.texts a.o a.table called a.said.now a.first a.past u w z m c.commit-number.ensures.committed (ap (λ (v : View). held_unboxed a.o v) d.1.1) e.only.work e.block e.closed in
    write_ends called a.said.now c.commit-number.result c.stop_write.result d.0 u w z (view c.stop_write.new.pass)
    c.commit-number.ensures.seen
    d.1.1
    c.commit-number.ensures.committed
    m.may.left
    (subst (λ (n : ℕ). OnlyPut n w z) at e.only)
    (subst (λ (n : ℕ). root_in (held_unboxed n z) ≡ root_in (held_unboxed n u)) at root)
    (subst (λ (n : ℕ). Represents u.shape.texts (held_unboxed n z) (known_state n z)) at stands)
    (subst (λ (n : ℕ). view c.stop_write.new.pass ≡ view_after (StopWrite n c.stop_write.result) z) at c.stop_write.ensures.1)

pub returns-clause-references : goal.returns-clause-references
returns-clause-references c b =
    let held = λ (z : View). references_held z.shape b z.log in
    ap held c.stop_write.ensures.1 ∙ (c.close_items.ensures.references b ∙ ap held c.commit-number.ensures.did.1.1)

-- the write has stored each box whose place the pass had taken
pub returns-clause-stored : goal.returns-clause-stored
returns-clause-stored c b taken =
    let used = λ (z : View). place_use b z.log in
    let was : place_use b (view c.commit-number.new.pass).log ≡ 1 = sym (ap used c.stop_write.ensures.1 ∙ c.close_items.ensures.only.made.uses b) ∙ taken in
    none_taken (place_use b (view c.args.pass.now).log) (sym (ap used c.commit-number.ensures.did.1.1) ∙ was)

pub returns-clause-values : goal.returns-clause-values
returns-clause-values c place word some_ few =
    let field = λ (z : View). item_field (held_words c.args.o z).table place word in
    ap field c.stop_write.ensures.1 ∙ (c.close_items.ensures.values place word some_ few ∙ ap field c.commit-number.ensures.did.1.1)
