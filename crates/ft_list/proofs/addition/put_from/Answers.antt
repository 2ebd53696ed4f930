use Rattle.std.proofs.Common.{◌≡◌, ℕ, ◌+◌, ◌^◌, ◌<◌, true, List, ◌++◌, length, refl, sym, ap, ◌∙◌, subst, arith}
use Rattle.ft_model.specs.declared.data.Value.{Value}
use Rattle.ft_model.specs.Worlds.{list_of}
use Rattle.ft_layout.specs.Words.{IsStored}
use Rattle.ft_trace.specs.declared.Shape.{Shape}
use Rattle.ft_trace.specs.Acts.{has_lock}
use Rattle.ft_trace.specs.Addresses.{class_of, container_count}
use Rattle.ft_trace.specs.Boxes.{references_held}
use Rattle.ft_trace.proofs.ReferencesOfPuts.{names_low}
use Rattle.ft_trace.specs.Holds.{held_words, held_unboxed}
use Rattle.ft_trace.specs.Pictures.{ContainerWords, item_field, root_in}
use Rattle.ft_trace.specs.ContainerStates.{ContainerState}
use Rattle.ft_bank.specs.BoxSteps.{kind_read, payload_read}
use Rattle.ft_bank.specs.Passes.{shape_of, view}
use Rattle.ft_bank.specs.SameBoxes.{HoldsFew}
use Rattle.ft_bank.specs.TableNames.{table_id}
use Rattle.ft_bank.proofs.KnownAfterWrites.{written_then, work_knows, loaded_held, raised_written}
use Rattle.ft_search.proofs.Overs.{boxed_held, held_same}
use Rattle.ft_list.specs.HeldValues.{SharesItems}
use Rattle.ft_list.specs.ListItemWrites.{known_items, stored_item}
use Rattle.ft_list.specs.Internal.Carrying.{KeepsOtherItems}
use Rattle.ft_list.specs.Internal.Moving.{IsMoving}
use Rattle.ft_list.proofs.Cares.{table_class, few_slots, list_unboxed, writes_done, writes_loaded}
use Rattle.ft_list.proofs.Extending.{append_low, append_high, gives_loaded, gives_put, root_put}
use Rattle.ft_list.proofs.ItemWordsPut.{moving_finds, moving_starts, moving_next}
use Rattle.ft_list.proofs.SharedItems.{from_there, given_kept, past_put, refs_of, shares_next}
use Rattle.ft_list.proofs.Written.{written_same, loaded_written}
use Rattle.ft_list.proofs.addition.put_from.Goals as goal

pub loop-place-init : goal.loop-place-init
loop-place-init c =
    let a = c.args in
    let v = view a.pass.now in
    let values = known_items a.o v in
    let others = known_items a.m v in
    let class = class_of (table_id a.table) in
    let n = c.requires.count in
    let start = moving_starts class (table_class (shape_of a.bank.now) a.table c.requires.list.table_in) values (values ++ others) a.count (a.count + a.more) (a.count + 0) (held_unboxed a.o v).table c.requires.before (λ p less. append_low values others p (omega (arith, less, n))) in
    record {
      pass = c.requires.pass;
      stack = refl;
      list = c.requires.list;
      early = c.requires.early;
      only = written_same a.o v;
      references = λ b. refl;
      block = refl;
      gives = c.requires.gives;
      root = c.requires.root;
      given = λ p word less some_ few. refl;
      shares = λ p low. absurd (omega (arith, low));
      moving = start;
    }

pub given_words-value-requires-clause-place : goal.given_words-value-requires-clause-place
given_words-value-requires-clause-place c =
    let a = c.args in
    let test = c.loop-place-test.true in
    let n = c.requires.more in
    let long : length (known_items a.m (view c.loop-place.pass)) ≡ length (known_items a.m (view a.pass.now)) = ap (λ (z : ContainerState). length (list_of z.content)) (work_knows (view a.pass.now) (view c.loop-place.pass) a.m c.loop-place.invariant.only.work) in
    omega (arith, test, n, long)

-- what the other list gives once the words of an item were read
pub share_given-requires-clause-gives : goal.share_given-requires-clause-gives
share_given-requires-clause-gives c =
    (c.args.o, gives_loaded (shape_of c.args.bank.now) c.args.o c.args.m (view c.loop-place.pass) (view c.given_words-value.new.pass) c.loop-place.invariant.pass.1 c.given_words-value.ensures.only c.loop-place.invariant.gives)

pub share_given-requires-clause-from : goal.share_given-requires-clause-from
share_given-requires-clause-from c =
    let a = c.args in
    let k = shape_of a.bank.now in
    let x = view c.loop-place.pass in
    let y = view c.given_words-value.new.pass in
    let i = c.loop-place.invariant in
    let l = c.given_words-value.ensures.only in
    let gives = gives_loaded k a.o a.m x y i.pass.1 l i.gives in
    let test = c.loop-place-test.true in
    let n = c.requires.more in
    let long : length (known_items a.m y) ≡ length (known_items a.m (view a.pass.now)) = ap (λ (z : ContainerState). length (list_of z.content)) (work_knows x y a.m l.work ∙ work_knows (view a.pass.now) x a.m i.only.work) in
    from_there k a.o a.m c.loop-place.place y a.from gives c.requires.from (ap root_in (loaded_held x y a.m l) ∙ i.root) (omega (arith, test, n, long))

-- the pass writes the list still
pub carry_item-old-requires-clause-list : goal.carry_item-old-requires-clause-list
carry_item-old-requires-clause-list c =
    let a = c.args in
    let k = shape_of a.bank.now in
    let y = view c.given_words-value.new.pass in
    let s = view c.share_given.new.pass in
    let h = c.share_given.ensures in
    let list = writes_loaded k a.o a.table (view c.loop-place.pass) y c.loop-place.invariant.pass.1 c.given_words-value.ensures.only c.loop-place.invariant.list in
    let few : HoldsFew s = λ b.
    let one = names_low b c.given_words-value.result.0 c.given_words-value.result.1 in
    let spare = h.spare b in
    let less : references_held k b s.log < 2 ^ 31 = omega (arith, one, spare) in
    subst (λ (z : Shape). references_held z b s.log < 2 ^ 31) (sym h.pass.1) less in
    writes_done k a.o a.table y s h.only.work (h.stays.settled list.settled) few (ap root_in (boxed_held y s a.o h.only)) list

pub overflow_add-count : goal.overflow_add-count
overflow_add-count c =
    let f = few_slots (shape_of c.args.bank.now) c.args.table c.requires.list.table_in in
    let r = c.requires.room in
    let test = c.loop-place-test.true in
    omega (arith, f, r, test)

pub loop-place-preserved : goal.loop-place-preserved
loop-place-preserved c =
    let a = c.args in
    let k = shape_of a.bank.now in
    let v = view a.pass.now in
    let x = view c.loop-place.pass in
    let y = view c.given_words-value.new.pass in
    let s = view c.share_given.new.pass in
    let z = view c.carry_item-old.new.pass in
    let w = view c.let_go.new.pass in
    let place = c.loop-place.place in
    let given = c.given_words-value.result in
    let old = c.carry_item-old.result in
    let i = c.loop-place.invariant in
    let f = c.given_words-value.ensures in
    let h = c.share_given.ensures in
    let e = c.carry_item-old.ensures in
    let g = c.let_go.ensures in
    let values = known_items a.o v in
    let others = known_items a.m v in
    let class = class_of (table_id a.table) in
    let is_class = table_class k a.table c.requires.list.table_in in
    let test = c.loop-place-test.true in
    let n = c.requires.count in
    let m = c.requires.more in
    let r = c.requires.room in
    let shared = raised_written a.o y s h.only h.stays h.gains in
    let both = written_then a.o x s w (written_then a.o x y s (loaded_written a.o x y f.only) shared) (written_then a.o s z w e.only g.only) in
    -- its words read the same until the item is put
    let low : a.o < container_count y.shape = subst (λ (q : Shape). a.o < container_count q) (sym f.pass.1) i.list.container in
    let mine : has_lock a.o y.log ≡ true = f.only.work.pass.locks a.o ∙ i.list.locked in
    let same : held_unboxed a.o s ≡ held_unboxed a.o x = h.only.unboxed a.o low mine ∙ list_unboxed k a.o a.table x y i.pass.1 f.only i.list in
    let raw : (q : ℕ) → held_words q s ≡ held_words q x = λ q. boxed_held y s q h.only ∙ loaded_held x y q f.only in
    let known : (p : ℕ) → known_items p x ≡ known_items p v = λ p. ap (λ (q : ContainerState). list_of q.content) (work_knows v x p i.only.work) in
    let known_y : known_items a.m y ≡ others = ap (λ (q : ContainerState). list_of q.content) (work_knows x y a.m f.only.work) ∙ known a.m in
    let reads : IsStored (kind_read s given.0 given.1) (payload_read s given.0 given.1) (stored_item others place) = subst (λ (l : List Value). IsStored (kind_read s given.0 given.1) (payload_read s given.0 given.1) (stored_item l place)) known_y h.reads in
    let stored : stored_item others place ≡ stored_item (values ++ others) (a.count + place) = append_high values others place (omega (arith, test, m)) ∙ ap (λ (q : ℕ). stored_item (values ++ others) (q + place)) (sym n) in
    let before : IsMoving class values (values ++ others) a.count (a.count + a.more) (a.count + place) (held_unboxed a.o s).table = subst (λ (q : ContainerWords). IsMoving class values (values ++ others) a.count (a.count + a.more) (a.count + place) q.table) (sym same) i.moving in
    let moved = moving_next class is_class values (values ++ others) a.count (a.count + a.more) (a.count + place) (held_unboxed a.o s) (held_unboxed a.o z) (stored_item others place) before (e.puts (stored_item others place) reads) reads.fits stored (omega arith) (omega (arith, test)) in
    let next : a.count + place + 1 ≡ a.count + (place + 1) = omega arith in
    let moving_z = subst (λ (q : ℕ). IsMoving class values (values ++ others) a.count (a.count + a.more) q (held_unboxed a.o z).table) next moved in
    let moving = subst (λ (q : ContainerWords). IsMoving class values (values ++ others) a.count (a.count + a.more) (a.count + (place + 1)) q.table) (sym g.held) moving_z in
    -- the words as they stand
    let found = moving_finds class is_class values (values ++ others) a.count (a.count + a.more) (a.count + place) (held_unboxed a.o s).table before (omega (arith, r, test)) in
    let put = past_put a.o (a.count + place) values others place given old s z (omega (arith, test, m)) reads found (omega (arith, n)) e.carries in
    let after : (q : ℕ) → item_field (held_words a.o w).table (a.count + place) q ≡ item_field (held_words a.o z).table (a.count + place) q = λ q. ap (λ (b : ContainerWords). item_field b.table (a.count + place) q) g.words in
    let keeps : KeepsOtherItems a.o (a.count + place) x w = λ p word ne some_ few. ap (λ (b : ContainerWords). item_field b.table p word) g.words ∙ (e.others p word ne some_ few ∙ ap (λ (b : ContainerWords). item_field b.table p word) (raw a.o)) in
    record {
      pass = g.pass;
      stack = g.stack ∙ (e.stack ∙ (h.stack ∙ (f.stack ∙ i.stack)));
      list = g.list;
      early = g.only.work.committed a.o ∙ (e.only.work.committed a.o ∙ (h.only.work.committed a.o ∙ (f.only.work.committed a.o ∙ i.early)));
      only = written_then a.o v x w i.only both;
      references = λ b.
          refs_of k x w i.pass.1 g.pass.1 (λ d. let one = held_same k x y i.pass.1 f.pass.1 f.only.boxes.references d in let two = h.references d in let three = e.references d in let four = g.references d in omega (arith, one, two, three, four)) b
          ∙ i.references b;
      block = ap (λ (q : ContainerWords). q.block) g.held ∙ (e.block ∙ (ap (λ (q : ContainerWords). q.block) same ∙ i.block));
      gives = gives_put k a.o a.m a.table x w i.pass.1 both i.list g.list i.gives values others a.count (a.count + a.more) (a.count + (place + 1)) moving (known a.o) (omega (arith, n)) (omega (arith, n, r));
      root = root_put k a.o a.m a.table x w i.pass.1 both i.list g.list i.gives ∙ i.root;
      given = λ p word less some_ few.
          given_kept a.o a.m (a.count + place) a.more x w (subst (λ (q : Shape). a.m < container_count q) (sym i.pass.1) i.gives.container) i.gives.locked i.gives.quiet both keeps
          (λ is. let long : a.more ≡ a.count = m ∙ (ap (λ (q : ℕ). length (known_items q v)) is ∙ sym n) in omega (arith, long)) p word less some_ few
          ∙ i.given p word less some_ few;
      shares = shares_next a.o a.count a.m place given v x w i.shares keeps (after 1 ∙ put.0, after 2 ∙ put.1)
          (f.kind ∙ i.given place 1 test (omega arith) (omega arith))
          (f.payload ∙ i.given place 2 test (omega arith) (omega arith));
      moving = moving;
    }

pub returns-clause-shares : goal.returns-clause-shares
returns-clause-shares c =
    let a = c.args in
    let at : c.loop-place.place ≡ a.more = let t = c.loop-place-test.false in let e = c.loop-place.auto.place-end in omega (arith, t, e) in
    subst (λ (n : ℕ). SharesItems a.o a.count a.m n (view a.pass.now) (view c.loop-place.pass)) at c.loop-place.invariant.shares

pub returns-clause-moved : goal.returns-clause-moved
returns-clause-moved c =
    let a = c.args in
    let v = view a.pass.now in
    let at : c.loop-place.place ≡ a.more = let t = c.loop-place-test.false in let e = c.loop-place.auto.place-end in omega (arith, t, e) in
    subst (λ (n : ℕ). IsMoving (class_of (table_id a.table)) (known_items a.o v) (known_items a.o v ++ known_items a.m v) a.count (a.count + a.more) (a.count + n) (held_unboxed a.o (view c.loop-place.pass)).table) at c.loop-place.invariant.moving
