use Rattle.std.proofs.Common.{◌≡◌, ◌<◌, ℕ, ◌+◌, refl, sym, ◌∙◌, subst, arith}
use Rattle.ft_trace.specs.Acts.{mem}
use Rattle.ft_trace.specs.Addresses.{class_of, container_count, slots}
use Rattle.ft_trace.specs.declared.Shape.{Shape}
use Rattle.ft_trace.specs.Holds.{held_words, in_hand}
use Rattle.ft_trace.specs.Pictures.{ContainerWords}
use Rattle.ft_trace.proofs.Pieces.{table_long}
use Rattle.ft_bank.specs.Passes.{shape_of, view}
use Rattle.ft_bank.specs.TableNames.{table_id}
use Rattle.ft_search.proofs.Owning.{keeps_loaded, keeps_then}
use Rattle.ft_table_calls.proofs.Rooting.{filled_same, filled_then, loaded_filled}
use Rattle.ft_list.specs.Internal.NewListTables.{CopiesItem, IsCopied}
use Rattle.ft_list.proofs.Cares.{table_class}
use Rattle.ft_list.proofs.Filling.{copied_none, copied_next}
use Rattle.ft_list.proofs.GrownLists.{hand_loaded, knows_filled}
use Rattle.ft_list.proofs.LookRounds.{slots_are}
use Rattle.ft_list.proofs.growth.fill.Goals as goal

pub loop-place-init : goal.loop-place-init
loop-place-init c =
    let a = c.args in
    let k = shape_of a.bank.now in
    let v = view a.pass.now in record {
      pass = c.requires.pass;
      stack = refl;
      only = filled_same v;
      keeps = λ kind payload own. (own, refl, refl);
      copied = copied_none a.old (held_words a.o v).table (class_of (table_id a.table)) (table_class k a.table c.requires.table) (in_hand (table_id a.table) v) (table_long v.shape (table_id a.table) (mem v.shape v.log));
    }

pub old_value-value-requires-clause-list : goal.old_value-value-requires-clause-list
old_value-value-requires-clause-list c =
    let a = c.args in
    knows_filled (shape_of a.bank.now) a.o a.old (view a.pass.now) (view c.loop-place.pass) c.requires.pass.1 c.loop-place.invariant.only c.requires.list

pub fill_item-requires-clause-place : goal.fill_item-requires-clause-place
fill_item-requires-clause-place c =
    let a = c.args in
    let s = slots_are (shape_of a.bank.now) a.table c.requires.table in
    let t = c.loop-place-test.true in
    let e = c.list_items-place-end.ensures in
    omega (arith, s, t, e)

pub loop-place-preserved : goal.loop-place-preserved
loop-place-preserved c =
    let a = c.args in
    let k = shape_of a.bank.now in
    let v = view a.pass.now in
    let x = view c.loop-place.pass in
    let y = view c.old_value-value.new.pass in
    let z = view c.fill_item.new.pass in
    let i = c.loop-place.invariant in
    let f = c.old_value-value.ensures in
    let e = c.fill_item.ensures in
    let class = class_of (table_id a.table) in
    let place = c.loop-place.place in
    let s = slots_are k a.table c.requires.table in
    let t = c.loop-place-test.true in
    let n = c.list_items-place-end.ensures in
    let low : place < slots class = omega (arith, s, t, n) in
    let T = (held_words a.o v).table in
    let same : held_words a.o x ≡ held_words a.o v = (i.only.keeps a.o (subst (λ (q : Shape). a.o < container_count q) (sym c.requires.pass.1) c.requires.list.container) c.requires.list.locked c.requires.list.even).0 in
    let copies : CopiesItem a.old T place c.old_value-value.result.0 c.old_value-value.result.1 =
    subst (λ (q : ContainerWords). CopiesItem a.old q.table place c.old_value-value.result.0 c.old_value-value.result.1) same f.copies in
    let hand : in_hand (table_id a.table) y ≡ in_hand (table_id a.table) x = hand_loaded (table_id a.table) x y f.only in
    let next = copied_next a.old T class (table_class k a.table c.requires.table) place (in_hand (table_id a.table) y) c.old_value-value.result.0 c.old_value-value.result.1
    (subst (IsCopied a.old T class place) (sym hand) i.copied) low copies in
    record {
      pass = e.pass;
      stack = e.stack ∙ (f.stack ∙ i.stack);
      only = filled_then v y z (filled_then v x y i.only (loaded_filled x y f.only)) e.filled;
      keeps = keeps_then v y z (keeps_then v x y i.keeps (keeps_loaded x y c.loop-place.pass.possible f.only)) e.keeps;
      copied = subst (IsCopied a.old T class (place + 1)) (sym e.words) next;
    }

pub returns-clause-copied : goal.returns-clause-copied
returns-clause-copied c =
    let a = c.args in
    let s = slots_are (shape_of a.bank.now) a.table c.requires.table in
    let t = c.loop-place-test.false in
    let e = c.loop-place.auto.place-end in
    let n = c.list_items-place-end.ensures in
    let at : c.loop-place.place ≡ slots (class_of (table_id a.table)) = omega (arith, s, t, e, n) in
    subst (λ (m : ℕ). IsCopied a.old (held_words a.o (view a.pass.now)).table (class_of (table_id a.table)) m (in_hand (table_id a.table) (view c.loop-place.pass))) at c.loop-place.invariant.copied
