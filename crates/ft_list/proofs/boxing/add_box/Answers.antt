use Rattle.std.proofs.Common.{◌≡◌, ℕ, ◌+◌, ◌<◌, List, length, refl, sym, ap, ◌∙◌, subst, arith}
use Rattle.std.specs.List.{insert}
use Rattle.ft_model.specs.declared.data.Value.{Value}
use Rattle.ft_layout.specs.declared.slot.Stored.TheVariants.{Boxed}
use Rattle.ft_trace.specs.declared.Shape.{Shape}
use Rattle.ft_trace.specs.Boxes.{references_held}
use Rattle.ft_trace.specs.Pictures.{root_in}
use Rattle.ft_bank.specs.Passes.{shape_of, view}
use Rattle.ft_bank.specs.BoxSteps.{box_id}
use Rattle.ft_bank.proofs.KnownAfterWrites.{loaded_held}
use Rattle.ft_search.proofs.Overs.{boxed_names, other_way}
use Rattle.ft_trace.proofs.ReferencesOfPuts.{names_low}
use Rattle.ft_search.specs.HeldValues.{HoldsValue}
use Rattle.ft_list.specs.HeldValues.{HasWordsFrom}
use Rattle.ft_list.specs.ListItemWrites.{known_items}
use Rattle.ft_list.specs.ListWrites.{Adds, MayBeginList}
use Rattle.ft_list.specs.Internal.NewListTables.{KnowsList}
use Rattle.ft_list.proofs.AddedHeld.{adds_on, adds_stored, held_added, unmade_holds}
use Rattle.ft_list.proofs.HeldWrites.{begins_on, box_own, box_reads, box_stores, holds_loaded, items_on, loaded_reads}
use Rattle.ft_list.proofs.boxing.add_box.Goals as goal
use Rattle.ft_list.proofs.boxing.add_box.Goals.{After-table_at_root-old}

module _ (c : After-table_at_root-old) where
  may_then : MayBeginList (shape_of c.args.bank.now) c.args.l (view c.table_at_root-old.new.pass)
  may_then =
      let k = shape_of c.args.bank.now in
      let v = view c.args.pass.now in
      let r = view c.table_at_root-old.new.pass in
      let l = c.table_at_root-old.ensures.only in
      begins_on k c.args.l v r c.requires.pass.1 l.work (loaded_reads k c.args.l v r c.requires.pass.1 l c.requires.may) l c.requires.may

  list_then : KnowsList (shape_of c.args.bank.now) c.args.l c.table_at_root-old.result (view c.table_at_root-old.new.pass)
  list_then =
      let e = c.table_at_root-old.ensures in
      let may = may_then in
      record {
        container = may.container;
        kind = may.kind;
        locked = may.locked;
        even = may.even c.args.l;
        stands = may.stands;
        table_in = e.table;
        root = ap root_in (loaded_held (view c.args.pass.now) (view c.table_at_root-old.new.pass) c.args.l e.only) ∙ e.root;
      }

  holds_then : HoldsValue c.args.item.at c.args.item.value (view c.table_at_root-old.new.pass)
  holds_then = holds_loaded c.args.item.at c.args.item.value (view c.args.pass.now) (view c.table_at_root-old.new.pass) c.args.pass.now.possible c.table_at_root-old.ensures.only c.requires.held

  items_then : known_items c.args.l (view c.table_at_root-old.new.pass) ≡ known_items c.args.l (view c.args.pass.now)
  items_then = items_on c.args.l (view c.args.pass.now) (view c.table_at_root-old.new.pass) c.table_at_root-old.ensures.only.work

pub add_to-added-requires-clause-may : goal.add_to-added-requires-clause-may
add_to-added-requires-clause-may c =
    let d = (goal.at.add_to-added-requires-clause-may c).After-table_at_root-old in
    let may = may_then d in
    let l = c.table_at_root-old.ensures.only in
    record {
      list = list_then d;
      even = may.even;
      used = l.work.used ∙ c.requires.used;
      owes = may.owes;
      idle = l.work.pass.flight ∙ c.requires.idle;
      settled = may.settled;
      few = may.few;
      left = may.left;
    }

pub add_to-added-requires-clause-spare : goal.add_to-added-requires-clause-spare
add_to-added-requires-clause-spare c b =
    let r = view c.table_at_root-old.new.pass in
    let id = box_id c.args.item.at in
    let one = (holds_then (goal.at.add_to-added-requires-clause-spare c).After-table_at_root-old).one b in
    let shape = ap (λ (z : Shape). references_held z b r.log) c.table_at_root-old.ensures.pass.1 in
    let names = boxed_names b 4 id refl in
    let way = other_way b id in
    let low = names_low b 4 id in
    omega (arith, one, shape, names, way, low)

pub add_to-added-requires-clause-addition : goal.add_to-added-requires-clause-addition
add_to-added-requires-clause-addition c =
    let d = (goal.at.add_to-added-requires-clause-addition c).After-table_at_root-old in
    let b = c.args.item.at in
    let value = c.args.item.value in
    let r = view c.table_at_root-old.new.pass in
    let h = holds_then d in
    let here = subst (λ (z : Shape). (b.pass < z.passes) × (b.place < z.heap)) c.table_at_root-old.ensures.pass.1 h.name in
    let one = here.0 in
    let two = here.1 in
    let heap = c.args.bank.now.fits.heap.1 in
    let passes = c.args.bank.now.fits.passes.1 in
    (c.requires.count.1, record { fits = (omega (arith, one, passes), omega (arith, two, heap)); own = box_own b value r h; reads = box_reads b value r h })

pub add_to-added-requires-clause-stores : goal.add_to-added-requires-clause-stores
add_to-added-requires-clause-stores c =
    let h = holds_then (goal.at.add_to-added-requires-clause-stores c).After-table_at_root-old in
    box_stores c.args.item.at c.args.item.value (view c.table_at_root-old.new.pass) h c.args.l c.args.called.now c.requires.boxed c.requires.boxing

pub add_to-added-requires-clause-count : goal.add_to-added-requires-clause-count
add_to-added-requires-clause-count c = c.requires.count.0 ∙ sym (ap length (items_then (goal.at.add_to-added-requires-clause-count c).After-table_at_root-old))

pub add_to-added-requires-clause-call : goal.add_to-added-requires-clause-call
add_to-added-requires-clause-call c =
    let a = c.args in
    let v = view a.pass.now in
    let r = view c.table_at_root-old.new.pass in
    let x = c.requires.call in
    let items = items_then (goal.at.add_to-added-requires-clause-call c).After-table_at_root-old in (
      x.0,
      x.1,
      subst (λ (z : List Value). Adds a.l x.0 z (insert z a.item.place a.item.value) r) (sym items)
          (adds_on v r c.table_at_root-old.ensures.only.work a.l x.0 (known_items a.l v) (insert (known_items a.l v) a.item.place a.item.value) x.2),
    )

pub drop_unmade-requires-clause-held : goal.drop_unmade-requires-clause-held
drop_unmade-requires-clause-held c unmade =
    let a = c.args in
    let k = shape_of a.bank.now in
    let d = (goal.at.drop_unmade-requires-clause-held c).After-table_at_root-old in
    let may = may_then d in
    let v = view a.pass.now in
    let r = view c.table_at_root-old.new.pass in
    let x = view c.add_to-added.new.pass in
    unmade_holds k a.l a.item.place a.item.value a.item.at a.called.now v r x x c.requires.pass.1 c.table_at_root-old.ensures.only (holds_then d) may.settled may.even _ _ c.add_to-added.result unmade c.add_to-added.ensures.added

pub returns-clause-added : goal.returns-clause-added
returns-clause-added c =
    let a = c.args in
    let k = shape_of a.bank.now in
    let d = (goal.at.returns-clause-added c).After-table_at_root-old in
    let may = may_then d in
    let v = view a.pass.now in
    let r = view c.table_at_root-old.new.pass in
    let x = view c.add_to-added.new.pass in
    let w = view c.drop_unmade.new.pass in
    let e = c.add_to-added.ensures in
    let place = a.item.place in
    let value = a.item.value in
    let b = a.item.at in
    let called = a.called.now in
    let what = c.add_to-added.result in
    let count : a.count + 1 ≡ length (known_items a.l v) + 1 = ap (λ (n : ℕ). n + 1) c.requires.count.0 in
    let adds = adds_stored k a.l (Boxed b) c.table_at_root-old.result v r x (a.count + 1) called what c.table_at_root-old.ensures.only (list_then d) c.table_at_root-old.ensures.pass.1 c.table_at_root-old.new.pass.possible count e.added in
    held_added k a.l place value b called v r x w c.requires.pass.1 c.table_at_root-old.ensures.only (holds_then d) may.settled may.even _ _ what e.added adds
    (λ made. let n = e.named made in (subst (λ (l : List Value). HasWordsFrom a.l l place value 4 (box_id b) x) (items_then d) (n.0 refl), n.1))
    c.drop_unmade.ensures.drops
