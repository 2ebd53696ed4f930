use Rattle.std.proofs.Common.{◌≡◌, ℕ, ◌/◌, refl, sym, ◌∙◌, subst, arith}
use Rattle.ft_trace.specs.Addresses.{class_of}
use Rattle.ft_trace.specs.Holds.{held_unboxed}
use Rattle.ft_bank.specs.Passes.{shape_of, view}
use Rattle.ft_bank.specs.TableNames.{table_id}
use Rattle.ft_bank.proofs.KnownAfterWrites.{written_then}
use Rattle.ft_search.proofs.Overs.{held_same}
use Rattle.ft_list.specs.ListItemWrites.{IsPutting, stored_item}
use Rattle.ft_list.specs.Internal.Reversing.{IsTurning}
use Rattle.ft_list.proofs.Cares.{table_class}
use Rattle.ft_list.proofs.Turned.{turning_starts}
use Rattle.ft_list.proofs.Written.{written_same}
use Rattle.ft_list.proofs.turning.turn.Goals as goal

pub loop-at-init : goal.loop-at-init
loop-at-init c =
    let a = c.args in
    let v = view a.pass.now in
    let class = class_of (table_id a.table) in
    record {
      pass = c.requires.pass;
      stack = refl;
      list = c.requires.list;
      early = c.requires.early;
      only = written_same a.o v;
      references = λ b. refl;
      block = refl;
      turning = λ values long putting. turning_starts class (table_class (shape_of a.bank.now) a.table c.requires.list.table_in) values (held_unboxed a.o v).table
          (subst (λ (n : ℕ). IsPutting class values 0 n (stored_item values) (held_unboxed a.o v).table) (sym long) putting);
    }

pub loop-at-preserved : goal.loop-at-preserved
loop-at-preserved c =
    let a = c.args in
    let v = view a.pass.now in
    let x = view c.loop-at.pass in
    let z = view c.swap.new.pass in
    let i = c.loop-at.invariant in
    let e = c.swap.ensures in
    record {
      pass = e.pass;
      stack = e.stack ∙ i.stack;
      list = e.list;
      early = e.only.work.committed a.o ∙ i.early;
      only = written_then a.o v x z i.only e.only;
      references = λ b. e.references b ∙ i.references b;
      block = e.block ∙ i.block;
      turning = λ values long putting. e.turned values long (i.turning values long putting);
    }

pub returns-clause-turned : goal.returns-clause-turned
returns-clause-turned c values long putting =
    let a = c.args in
    let at : c.loop-at.at ≡ a.count / 2 = let t = c.loop-at-test.false in let e = c.loop-at.auto.at-end in omega (arith, t, e) in
    subst (λ (n : ℕ). IsTurning (class_of (table_id a.table)) values n (held_unboxed a.o (view c.loop-at.pass)).table) at (c.loop-at.invariant.turning values long putting)

pub swap-requires-clause-spare : goal.swap-requires-clause-spare
swap-requires-clause-spare c b =
    let same = held_same (shape_of c.args.bank.now) (view c.args.pass.now) (view c.loop-at.pass) c.requires.pass.1 c.loop-at.invariant.pass.1 c.loop-at.invariant.references b in
    let s = c.requires.spare b in
    omega (arith, same, s)
