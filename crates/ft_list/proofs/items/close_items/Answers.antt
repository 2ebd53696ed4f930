use Rattle.std.proofs.Common.{◌≡◌, ℕ, suc, ◌+◌, ◌<◌, length, refl, sym, ap, ◌∙◌, subst, arith}
use Rattle.ft_model.specs.Worlds.{list_of}
use Rattle.ft_trace.specs.Addresses.{class_of, slots}
use Rattle.ft_trace.specs.ContainerStates.{ContainerState}
use Rattle.ft_trace.specs.Pictures.{ContainerWords, item_offset}
use Rattle.ft_trace.specs.ItemWords.{words_at}
use Rattle.ft_trace.specs.Holds.{held_unboxed}
use Rattle.ft_bank.specs.Passes.{shape_of, view}
use Rattle.ft_bank.specs.TableNames.{table_id}
use Rattle.ft_bank.proofs.KnownAfterWrites.{work_knows, put_then}
use Rattle.ft_list.specs.ListItemWrites.{IsChanging, known_items}
use Rattle.ft_list.proofs.Cares.{long_enough}
use Rattle.ft_list.proofs.PutItems.{says, changing_closed}
use Rattle.ft_list.proofs.items.close_items.Goals as goal

pub close_item-requires-clause-says : goal.close_item-requires-clause-says
close_item-requires-clause-says c =
    let a = c.args in
    let v = view a.pass.now in
    let w = view c.loop-place.pass in
    let i = c.loop-place.invariant in
    let class = class_of (table_id a.table) in
    let here : c.loop-place.place < slots class = let t = c.loop-place-test.true in let p = c.requires.places in omega (arith, t, p) in
    ap (λ (z : ContainerState). words_at (list_of z.content) c.loop-place.place) (work_knows v w a.o i.only.work)
    ∙ says class (known_items a.o v) (known_items a.o v) c.loop-place.place a.past (held_unboxed a.o w).table i.changing c.loop-place.place here

pub loop-place-preserved : goal.loop-place-preserved
loop-place-preserved c =
    let a = c.args in
    let v = view a.pass.now in
    let w = view c.loop-place.pass in
    let z = view c.close_item.new.pass in
    let i = c.loop-place.invariant in
    let e = c.close_item.ensures in
    let class = class_of (table_id a.table) in
    let here : c.loop-place.place < slots class = let t = c.loop-place-test.true in let p = c.requires.places in omega (arith, t, p) in
    let low : item_offset c.loop-place.place 0 < length (held_unboxed a.o w).table = let l = long_enough (shape_of a.bank.now) a.o a.table w i.list c.loop-place.place here in omega (arith, l) in
    let laws = c.versions_change_nothing.ensures in
    let next : c.loop-place.place + 1 ≡ suc c.loop-place.place = omega arith in
    record {
      pass = e.pass;
      stack = e.stack ∙ i.stack;
      list = e.list;
      late = e.only.work.committed a.o ∙ i.late;
      only = put_then v w z a.o i.only e.only;
      references = λ b. e.references b ∙ i.references b;
      block = ap (λ (x : ContainerWords). x.block) e.item.words ∙ i.block;
      values = λ q m some_ few. e.values q m some_ few ∙ i.values q m some_ few;
      changing = subst (λ (n : ℕ). IsChanging class (known_items a.o v) (known_items a.o v) n a.past (held_unboxed a.o z).table) (sym next)
          (changing_closed class (known_items a.o v) (known_items a.o v) c.loop-place.place a.past (held_unboxed a.o w).table i.changing
          (λ mask values words place version table. laws.items mask values words _ (laws.item words place version) table)
          (held_unboxed a.o w).block (held_unboxed a.o z) e.item.version refl e.item.even low e.item.words);
    }
