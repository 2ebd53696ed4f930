use Rattle.std.proofs.Common.{◌≡◌, ℕ, ◌+◌, ◌-◌, ◌<◌, refl, sym, ap, ◌∙◌, subst, arith}
use Rattle.std.specs.List.{remove}
use Rattle.ft_layout.specs.declared.slot.Stored.{Stored}
use Rattle.ft_layout.specs.declared.slot.Stored.TheVariants.{Empty}
use Rattle.ft_layout.specs.Words.{IsStored}
use Rattle.ft_trace.specs.declared.Shape.{Shape}
use Rattle.ft_trace.specs.Addresses.{class_of, slots}
use Rattle.ft_trace.specs.Boxes.{references_held}
use Rattle.ft_trace.specs.Pictures.{ContainerWords}
use Rattle.ft_trace.specs.Holds.{held_unboxed}
use Rattle.ft_bank.specs.BoxSteps.{kind_read, payload_read}
use Rattle.ft_bank.specs.Passes.{shape_of, view}
use Rattle.ft_bank.specs.TableNames.{table_id}
use Rattle.ft_bank.proofs.KnownAfterWrites.{written_then}
use Rattle.ft_search.proofs.Overs.{plain_names}
use Rattle.ft_search.proofs.Owning.{own_plain, plain_seen}
use Rattle.ft_list.specs.ListItemWrites.{stored_item}
use Rattle.ft_list.specs.Internal.Moving.{IsMoving, IsMovingDown}
use Rattle.ft_list.proofs.Cares.{table_class}
use Rattle.ft_list.proofs.ItemWordsPut.{down_starts, down_finds, down_next, down_ends, stored_none, remove_past}
use Rattle.ft_list.proofs.Written.{written_same}
use Rattle.ft_list.proofs.writes.shift_down.Goals as goal

pub loop-done-init : goal.loop-done-init
loop-done-init c =
    let a = c.args in
    let v = view a.pass.now in
    let is_class = table_class (shape_of a.bank.now) a.table c.requires.list.table_in in
    let p = c.requires.place.0 in
    record {
      pass = c.requires.pass;
      stack = refl;
      list = c.requires.list;
      early = c.requires.early;
      only = written_same a.o v;
      own = own_plain v 0 0 (λ e. omega (arith, e));
      spare = λ b. let s = c.requires.spare b in omega (arith, s);
      references = λ b. let none = plain_names b 0 0 (λ e. omega (arith, e)) in omega (arith, none);
      block = refl;
      from = (omega arith, omega (arith, p));
      moving = λ values long putting.
          let at : a.count ≡ a.place + (a.count - a.place) = omega (arith, p) in
          let none : stored_item values a.count ≡ Empty = stored_none values a.count (omega (arith, long)) in (
            subst (λ (n : ℕ). IsStored (kind_read v 0 0) (payload_read v 0 0) (stored_item values n)) at
                (subst (λ (z : Stored). IsStored (kind_read v 0 0) (payload_read v 0 0) z) (sym none) (plain_seen v Empty (λ e. omega (arith, e)) tt)),
            subst (λ (n : ℕ). IsMovingDown (class_of (table_id a.table)) values (remove values a.place) a.place a.count n (held_unboxed a.o v).table) at
                (down_starts (class_of (table_id a.table)) is_class values a.place a.count a.count (held_unboxed a.o v).table putting (omega (arith, p, long)) (omega (arith, long))),
          );
    }

pub carry_item-carried-requires-clause-place : goal.carry_item-carried-requires-clause-place
carry_item-carried-requires-clause-place c =
    let test = c.loop-done-test.true in
    let p = c.requires.place in
    let n = c.loop-done.invariant.from.0 in
    omega (arith, test, p, n)

pub loop-done-preserved : goal.loop-done-preserved
loop-done-preserved c =
    let a = c.args in
    let v = view a.pass.now in
    let x = view c.loop-done.pass in
    let z = view c.carry_item-carried.new.pass in
    let done = c.loop-done.done in
    let i = c.loop-done.invariant in
    let e = c.carry_item-carried.ensures in
    let class = class_of (table_id a.table) in
    let is_class = table_class (shape_of a.bank.now) a.table c.requires.list.table_in in
    let test = c.loop-done-test.true in
    let p = c.requires.place in
    let n = i.from.0 in
    let at = a.place + (a.count - 1 - done) in
    let low : at < slots class = omega (arith, test, p, n) in
    let was : a.place + (a.count - done) ≡ at + 1 = omega (arith, test, p, n) in
    let then_ : at ≡ a.place + (a.count - (done + 1)) = omega (arith, test, p, n) in
    record {
      pass = e.pass;
      stack = e.stack ∙ i.stack;
      list = e.list;
      early = e.only.work.committed a.o ∙ i.early;
      only = written_then a.o v x z i.only e.only;
      own = e.own;
      spare = e.spare;
      references = λ b. let one = e.references b in let two = i.references b in omega (arith, one, two);
      block = e.block ∙ i.block;
      from = (omega (arith, n), omega (arith, test));
      moving = λ values long putting.
          let m = i.moving values long putting in
          let news = remove values a.place in
          let down = subst (λ (q : ℕ). IsMovingDown class values news a.place a.count q (held_unboxed a.o x).table) was m.1 in
          let carried : IsStored (kind_read x c.loop-done.carried.0 c.loop-done.carried.1) (payload_read x c.loop-done.carried.0 c.loop-done.carried.1) (stored_item news at) =
          subst (λ (y : Stored). IsStored (kind_read x c.loop-done.carried.0 c.loop-done.carried.1) (payload_read x c.loop-done.carried.0 c.loop-done.carried.1) y)
          (ap (stored_item values) was ∙ remove_past values a.place at (let q = p.0 in omega (arith, q, long)) (omega arith)) m.0 in
          let found = down_finds class is_class values news a.place a.count at (held_unboxed a.o x).table down low in
          let stood : IsStored (kind_read z c.carry_item-carried.result.0 c.carry_item-carried.result.1) (payload_read z c.carry_item-carried.result.0 c.carry_item-carried.result.1) (stored_item values at) =
          record { fits = found.fits; kind_is = e.found.0 ∙ found.kind_is; payload_is = e.found.1 ∙ found.payload_is } in (
            subst (λ (q : ℕ). IsStored (kind_read z c.carry_item-carried.result.0 c.carry_item-carried.result.1) (payload_read z c.carry_item-carried.result.0 c.carry_item-carried.result.1) (stored_item values q)) then_ stood,
            subst (λ (q : ℕ). IsMovingDown class values news a.place a.count q (held_unboxed a.o z).table) then_
                (down_next class is_class values news a.place a.count at (held_unboxed a.o x) (held_unboxed a.o z) (stored_item news at) down (e.puts (stored_item news at) carried) carried.fits refl (omega arith) (omega (arith, test, p, n))),
          );
    }

pub returns-clause-only : goal.returns-clause-only
returns-clause-only c = written_then c.args.o (view c.args.pass.now) (view c.loop-done.pass) (view c.let_go.new.pass) c.loop-done.invariant.only c.let_go.ensures.only

pub returns-clause-references : goal.returns-clause-references
returns-clause-references c b =
    let one = c.let_go.ensures.references b in
    let two = c.loop-done.invariant.references b in
    let k = shape_of c.args.bank.now in
    let whole : references_held k b (view c.let_go.new.pass).log ≡ references_held k b (view c.args.pass.now).log = omega (arith, one, two) in
    ap (λ (z : Shape). references_held z b (view c.let_go.new.pass).log) c.let_go.ensures.pass.1
    ∙ (whole ∙ sym (ap (λ (z : Shape). references_held z b (view c.args.pass.now).log) c.requires.pass.1))

pub returns-clause-block : goal.returns-clause-block
returns-clause-block c = ap (λ (x : ContainerWords). x.block) c.let_go.ensures.held ∙ c.loop-done.invariant.block

pub returns-clause-moved : goal.returns-clause-moved
returns-clause-moved c values long putting =
    let a = c.args in
    let t = c.loop-done-test.false in
    let p = c.requires.place in
    let from = c.loop-done.invariant.from in
    let at : a.place + (a.count - c.loop-done.done) ≡ a.place = omega (arith, t, from) in
    let class = class_of (table_id a.table) in
    let is_class = table_class (shape_of a.bank.now) a.table c.requires.list.table_in in
    let news = remove values a.place in
    subst (λ (x : ContainerWords). IsMoving class values news a.place a.count a.count x.table) (sym c.let_go.ensures.held)
    (down_ends class is_class values a.place a.count (held_unboxed a.o (view c.loop-done.pass)).table
    (subst (λ (n : ℕ). IsMovingDown class values news a.place a.count n (held_unboxed a.o (view c.loop-done.pass)).table) at (c.loop-done.invariant.moving values long putting).1)
    (let q = p.0 in omega (arith, q, long)) (omega (arith, long)))
