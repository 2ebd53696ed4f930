use Rattle.std.proofs.Common.{◌≡◌, ◌<◌, ◌≤◌, ◌+◌, ℕ, List, Option, None, refl, sym, ap, ◌∙◌, subst, arith}
use Rattle.ft_model.specs.declared.call.Call.{Call}
use Rattle.ft_model.specs.declared.data.Value.{Value}
use Rattle.ft_model.specs.declared.reply.Reply.TheVariants as reply
use Rattle.ft_model.specs.Classes.{list_items}
use Rattle.ft_model.specs.TableUses.{list_takes}
use Rattle.ft_trace.specs.declared.Shape.{Shape}
use Rattle.ft_trace.specs.Addresses.{container_count}
use Rattle.ft_trace.specs.Holds.{held_words, known_state}
use Rattle.ft_trace.specs.Pictures.{root_in}
use Rattle.ft_bank.specs.declared.table.Table.{Table}
use Rattle.ft_bank.specs.Passes.{shape_of, view}
use Rattle.ft_bank.specs.TableNames.{root_for}
use Rattle.ft_search.specs.OneEntryWrites.{Leaves}
use Rattle.ft_list.specs.ListWrites.{Changes}
use Rattle.ft_list.specs.ListItemWrites.{known_items}
use Rattle.ft_list.specs.Internal.Additions.{count_in, with_added}
use Rattle.ft_list.specs.Internal.NewListTables.{list_use_of}
use Rattle.ft_list.proofs.Additions.{room_changes}
use Rattle.ft_list.proofs.Extending.{added_long, none_alike}
use Rattle.ft_list.proofs.GrownLists.{add_begins, knows_content}
use Rattle.ft_list.proofs.LookRounds.{slots_are}
use Rattle.ft_list.proofs.EmptyWrites.{leaves_same}
use Rattle.ft_list.proofs.Wanted.{wanted_bare, wanted_room}
use Rattle.ft_list.proofs.AddedStored.{gives_none, names_none, stores_untaken}
use Rattle.ft_list.proofs.GrowWrites.{list_changes}
use Rattle.ft_list.proofs.adding.add_in_room.Goals as goal

pub add_items-number-requires-clause-table : goal.add_items-number-requires-clause-table
add_items-number-requires-clause-table c =
    let list = c.requires.may.list in
    record { table_in = list.table_in c.in-Some.table c.in-Some.is; root = list.root ∙ ap root_for c.in-Some.is }

pub add_items-number-requires-clause-room : goal.add_items-number-requires-clause-room
add_items-number-requires-clause-room c =
    let a = c.args in
    let t = c.in-Some.table in
    let n = a.count + count_in a.addition in
    let holds : n ≤ list_items t.class = wanted_room t n (subst (λ (z : Option Table). list_takes (list_use_of z) n ≡ None) c.in-Some.is c.requires.room) in
    let s = slots_are (shape_of a.bank.now) t (c.requires.may.list.table_in t c.in-Some.is) in
    omega (arith, s, holds)

pub add_items-number-requires-clause-call : goal.add_items-number-requires-clause-call
add_items-number-requires-clause-call c =
    let a = c.args in
    let k = shape_of a.bank.now in
    let v = view a.pass.now in
    let values = known_items a.l v in
    let x = c.requires.call in
    (x.0, x.1, room_changes k a.l a.old v c.requires.may.list c.requires.pass.1 a.pass.now.possible x.0 (a.count + count_in a.addition) (with_added a.addition v values) x.2 (added_long k a.count a.addition v values c.requires.addition c.requires.count) c.requires.few c.requires.room)

pub write_nothing-number-requires-clause-bare : goal.write_nothing-number-requires-clause-bare
write_nothing-number-requires-clause-bare c = c.requires.may.list.root ∙ ap root_for c.in-None.is

pub write_nothing-number-requires-clause-leaves : goal.write_nothing-number-requires-clause-leaves
write_nothing-number-requires-clause-leaves c =
    let a = c.args in
    let k = shape_of a.bank.now in
    let v = view a.pass.now in
    let values = known_items a.l v in
    let news = with_added a.addition v values in
    let n = a.count + count_in a.addition in
    let x = c.requires.call in
    let list = c.requires.may.list in
    let long = added_long k a.count a.addition v values c.requires.addition c.requires.count in
    let none : n ≡ 0 = wanted_bare n (subst (λ (z : Option Table). list_takes (list_use_of z) n ≡ None) c.in-None.is c.requires.room) in
    let count = c.requires.count in
    let same : news ≡ values = none_alike news values (long ∙ none) (omega (arith, none, count)) in
    let changes = subst (λ (l : List Value). Changes a.l x.0 reply.Done values l v) same (room_changes k a.l a.old v list c.requires.pass.1 a.pass.now.possible x.0 n news x.2 long c.requires.few c.requires.room) in
    subst (λ (z : Call). Leaves a.l z reply.Done (known_state a.l v) v) (sym x.1)
    (leaves_same a.l x.0 reply.Done values v (subst (λ (z : Shape). a.l < container_count z) (sym c.requires.pass.1) list.container) list.locked (knows_content k a.l a.old v c.requires.pass.1 a.pass.now.possible list) changes)

pub add_items-number-requires-clause-may : goal.add_items-number-requires-clause-may
add_items-number-requires-clause-may c = add_begins (shape_of c.args.bank.now) c.args.l c.args.old (view c.args.pass.now) c.requires.may

pub write_nothing-number-requires-clause-may : goal.write_nothing-number-requires-clause-may
write_nothing-number-requires-clause-may c = add_begins (shape_of c.args.bank.now) c.args.l c.args.old (view c.args.pass.now) c.requires.may

-- no item is added where there is no table
pub write_nothing-number-requires-clause-untaken : goal.write_nothing-number-requires-clause-untaken
write_nothing-number-requires-clause-untaken c =
    let a = c.args in
    let n = a.count + count_in a.addition in
    let none : n ≡ 0 = wanted_bare n (subst (λ (z : Option Table). list_takes (list_use_of z) n ≡ None) c.in-None.is c.requires.room) in
    stores_untaken a.addition a.called.now (view a.pass.now) (omega (arith, none)) c.requires.stores

pub returns-in-None-clause-added : goal.returns-in-None-clause-added
returns-in-None-clause-added c =
    let a = c.args in
    let k = shape_of a.bank.now in
    let v = view a.pass.now in
    let w = view c.write_nothing-number.new.pass in
    let n = a.count + count_in a.addition in
    let none : n ≡ 0 = wanted_bare n (subst (λ (z : Option Table). list_takes (list_use_of z) n ≡ None) c.in-None.is c.requires.room) in
    let x = c.requires.call in
    let e = c.write_nothing-number.ensures in
    let at = list_changes a.l x.0 a.called.now x.1 x.2.changing in (
      refl,
      refl,
      record {
        wrote = e.wrote;
        root = subst (λ (q : ℕ). root_in (held_words q w) ≡ root_in (held_words q v)) (sym at) e.root;
        references = gives_none k a.addition v w (omega (arith, none)) c.requires.pass.1 e.pass.1 e.references;
      },
    )

pub returns-in-None-clause-named : goal.returns-in-None-clause-named
returns-in-None-clause-named c made =
    let a = c.args in
    let v = view a.pass.now in
    let n = a.count + count_in a.addition in
    let none : n ≡ 0 = wanted_bare n (subst (λ (z : Option Table). list_takes (list_use_of z) n ≡ None) c.in-None.is c.requires.room) in
    let zero : count_in a.addition ≡ 0 = omega (arith, none) in (
      names_none a.l (known_items a.l v) a.addition v (view c.write_nothing-number.new.pass) zero,
      (λ b taken. stores_untaken a.addition a.called.now v zero c.requires.stores b (c.write_nothing-number.ensures.wrote.made.places b taken)),
    )

pub returns-in-Some-clause-added : goal.returns-in-Some-clause-added
returns-in-Some-clause-added c =
    let a = c.args in
    let x = c.requires.call in
    let e = c.add_items-number.ensures in
    let at = list_changes a.l x.0 a.called.now x.1 x.2.changing in (
      refl,
      refl,
      record {
        wrote = e.wrote;
        root = subst (λ (q : ℕ). root_in (held_words q (view c.add_items-number.new.pass)) ≡ root_in (held_words q (view a.pass.now))) (sym at) e.root;
        references = e.references;
      },
    )

pub returns-in-Some-clause-named : goal.returns-in-Some-clause-named
returns-in-Some-clause-named c made = (c.add_items-number.ensures.named, c.add_items-number.ensures.stored)
