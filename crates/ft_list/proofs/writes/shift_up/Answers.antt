use Rattle.std.proofs.Common.{◌≡◌, ℕ, ◌+◌, ◌<◌, ◌≤◌, length, refl, sym, ap, ◌∙◌, subst, arith, inl, inr}
use Rattle.std.proofs.lemmas.Bool.{cases_eq}
use Rattle.std.specs.List.{insert}
use Rattle.ft_layout.specs.declared.slot.Stored.{Stored}
use Rattle.ft_layout.specs.declared.slot.Stored.TheVariants.{Plain}
use Rattle.ft_layout.specs.Words.{IsStored}
use Rattle.ft_trace.specs.Addresses.{class_of, slots}
use Rattle.ft_trace.specs.Pictures.{ContainerWords, item_field}
use Rattle.ft_trace.specs.Holds.{held_unboxed}
use Rattle.ft_bank.specs.BoxSteps.{kind_read, payload_read}
use Rattle.ft_bank.specs.Passes.{shape_of, view}
use Rattle.ft_bank.specs.TableNames.{table_id}
use Rattle.ft_bank.proofs.KnownAfterWrites.{written_then}
use Rattle.ft_list.specs.ListItemWrites.{stored_item}
use Rattle.ft_list.specs.Internal.Moving.{IsMoving}
use Rattle.ft_list.proofs.Cares.{table_class, few_slots}
use Rattle.ft_list.proofs.ItemWordsPut.{moving_starts, moving_finds, moving_next, insert_low, insert_here, insert_past}
use Rattle.ft_layout.proofs.WordLaws.{stored_is_one}
use Rattle.ft_list.proofs.CarriedWords.{carried_same, words_end, words_kept, words_next}
use Rattle.ft_list.proofs.Written.{written_same}
use Rattle.ft_list.proofs.writes.shift_up.Goals as goal

pub overflow_add-at-end : goal.overflow_add-at-end
overflow_add-at-end c =
    let f = few_slots (shape_of c.args.bank.now) c.args.table c.requires.list.table_in in
    let p = c.requires.place in
    omega (arith, f, p)

pub loop-at-init : goal.loop-at-init
loop-at-init c =
    let a = c.args in
    let v = view a.pass.now in
    let is_class = table_class (shape_of a.bank.now) a.table c.requires.list.table_in in
    let p = c.requires.place.0 in
    record {
      pass = c.requires.pass;
      stack = refl;
      list = c.requires.list;
      early = c.requires.early;
      only = written_same a.o v;
      own = c.requires.own;
      spare = c.requires.spare;
      references = λ b. refl;
      block = refl;
      from = omega arith;
      moving = λ value reads values long putting.
          let low : a.place ≤ length values = omega (arith, p, long) in (
            subst (λ (z : Stored). IsStored (kind_read v a.given.0 a.given.1) (payload_read v a.given.0 a.given.1) z) (insert_here values a.place value low) reads,
            moving_starts (class_of (table_id a.table)) is_class values (insert values a.place value) a.place (a.count + 1) a.place (held_unboxed a.o v).table putting (λ q less. insert_low values a.place value q low less),
            inl (refl, refl, λ q up less. absurd (omega (arith, up, less))),
          );
    }

pub carry_item-carried-requires-clause-place : goal.carry_item-carried-requires-clause-place
carry_item-carried-requires-clause-place c = let test = c.loop-at-test.true in let p = c.requires.place in omega (arith, test, p)

pub loop-at-preserved : goal.loop-at-preserved
loop-at-preserved c =
    let a = c.args in
    let v = view a.pass.now in
    let x = view c.loop-at.pass in
    let z = view c.carry_item-carried.new.pass in
    let at = c.loop-at.at in
    let i = c.loop-at.invariant in
    let e = c.carry_item-carried.ensures in
    let class = class_of (table_id a.table) in
    let is_class = table_class (shape_of a.bank.now) a.table c.requires.list.table_in in
    let test = c.loop-at-test.true in
    let p = c.requires.place in
    let low : at < slots class = omega (arith, test, p) in
    record {
      pass = e.pass;
      stack = e.stack ∙ i.stack;
      list = e.list;
      early = e.only.work.committed a.o ∙ i.early;
      only = written_then a.o v x z i.only e.only;
      own = e.own;
      spare = e.spare;
      references = λ b. let one = e.references b in let two = i.references b in omega (arith, one, two);
      block = e.block ∙ i.block;
      from = let n = i.from in omega (arith, n);
      moving = λ value reads values long putting.
          let m = i.moving value reads values long putting in
          let news = insert values a.place value in
          let less : a.place ≤ length values = let q = p.0 in omega (arith, q, long) in
          let found = moving_finds class is_class values news a.place (a.count + 1) at (held_unboxed a.o x).table m.1 low in
          let stood : IsStored (kind_read z c.carry_item-carried.result.0 c.carry_item-carried.result.1) (payload_read z c.carry_item-carried.result.0 c.carry_item-carried.result.1) (stored_item values at) =
          record { fits = found.fits; kind_is = e.found.0 ∙ found.kind_is; payload_is = e.found.1 ∙ found.payload_is } in (
            subst (λ (y : Stored). IsStored (kind_read z c.carry_item-carried.result.0 c.carry_item-carried.result.1) (payload_read z c.carry_item-carried.result.0 c.carry_item-carried.result.1) y) (insert_past values a.place value at less i.from) stood,
            moving_next class is_class values news a.place (a.count + 1) at (held_unboxed a.o x) (held_unboxed a.o z) (stored_item news at) m.1 (e.puts (stored_item news at) m.0) m.0.fits refl i.from test,
            words_next a.o values a.place value a.given at c.loop-at.carried c.carry_item-carried.result x z i.from m.2 e.carries e.others
                (λ same kind_is payload_is.
                -- what is carried reads as the value
                let carried : stored_item news at ≡ Plain value = elim (cases_eq at a.place) [
                  | inl is ↦ ap (stored_item news) is ∙ sym (insert_here values a.place value less)
                  | inr ne ↦ carried_same values a.place at value less (let f = i.from in omega (arith, f, ne)) same
                ] in
                let there : IsStored (item_field (held_unboxed a.o x).table at 1) (item_field (held_unboxed a.o x).table at 2) (stored_item news at) =
                record { fits = m.0.fits; kind_is = sym kind_is ∙ m.0.kind_is; payload_is = sym payload_is ∙ m.0.payload_is } in
                stored_is_one _ _ (stored_item values at) (stored_item news at) found there ∙ carried),
          );
    }

pub returns-clause-only : goal.returns-clause-only
returns-clause-only c = written_then c.args.o (view c.args.pass.now) (view c.loop-at.pass) (view c.let_go.new.pass) c.loop-at.invariant.only c.let_go.ensures.only

pub returns-clause-references : goal.returns-clause-references
returns-clause-references c b = let one = c.let_go.ensures.references b in let two = c.loop-at.invariant.references b in omega (arith, one, two)

pub returns-clause-block : goal.returns-clause-block
returns-clause-block c = ap (λ (x : ContainerWords). x.block) c.let_go.ensures.held ∙ c.loop-at.invariant.block

pub returns-clause-moved : goal.returns-clause-moved
returns-clause-moved c value reads values long putting =
    let a = c.args in
    let at : c.loop-at.at ≡ a.count + 1 = let t = c.loop-at-test.false in let e = c.loop-at.auto.at-end in let p = c.requires.place.0 in let h = e (omega (arith, p)) in omega (arith, t, h) in
    let class = class_of (table_id a.table) in
    let news = insert values a.place value in
    subst (λ (x : ContainerWords). IsMoving class values news a.place (a.count + 1) (a.count + 1) x.table) (sym c.let_go.ensures.held)
    (subst (λ (n : ℕ). IsMoving class values news a.place (a.count + 1) n (held_unboxed a.o (view c.loop-at.pass)).table) at (c.loop-at.invariant.moving value reads values long putting).1)

pub returns-clause-named : goal.returns-clause-named
returns-clause-named c value reads values long putting =
    let a = c.args in
    let p = c.requires.place.0 in
    let past : a.count < c.loop-at.at = let t = c.loop-at-test.false in omega (arith, t) in
    let h = words_end a.o values a.place value a.given c.loop-at.at c.loop-at.carried (view c.loop-at.pass) (omega (arith, p, long)) (omega (arith, past, long)) (c.loop-at.invariant.moving value reads values long putting).2 in
    words_kept a.o values a.place value a.given.0 a.given.1 (view c.loop-at.pass) (view c.let_go.new.pass) (λ q word some_ few. ap (λ (x : ContainerWords). item_field x.table q word) c.let_go.ensures.words) h
