use Rattle.std.proofs.Common.{◌≡◌, ◌<◌, ℕ, ◌+◌, List, length, refl, sym, ap, ◌∙◌, subst, arith}
use Rattle.ft_model.specs.declared.call.Call.TheVariants as call
use Rattle.ft_model.specs.declared.call.ListCall.TheVariants as list
use Rattle.ft_model.specs.declared.reply.Reply.TheVariants as reply
use Rattle.ft_layout.specs.declared.slot.Stored.TheVariants.{Empty}
use Rattle.ft_trace.specs.declared.Shape.{Shape}
use Rattle.ft_trace.specs.Addresses.{container_count}
use Rattle.ft_trace.specs.Pictures.{ContainerWords, item_field}
use Rattle.ft_model.specs.declared.data.Value.{Value}
use Rattle.ft_bank.specs.Passes.{shape_of, view}
use Rattle.ft_bank.proofs.KnownAfterWrites.{loaded_held, loaded_then}
use Rattle.ft_table_calls.proofs.Cursors.{added_cursors}
use Rattle.ft_list.specs.HeldValues.{GivesReference, SharesItems}
use Rattle.ft_list.specs.ListItemWrites.{known_items}
use Rattle.ft_list.proofs.Additions.{adds_items}
use Rattle.ft_list.proofs.ListCallFacts.{extend_adds}
use Rattle.ft_list.proofs.Extending.{knows_few, knows_from, knows_list}
use Rattle.ft_list.proofs.GrownLists.{knows_content}
use Rattle.ft_list.proofs.Lists.{items_loaded, may_loaded}
use Rattle.ft_search.proofs.Overs.{held_same}
use Rattle.ft_search.proofs.Puts.{few_done, few_same}
use Rattle.ft_bank.proofs.DoneBoxes.{stays_settled_same}
use Rattle.ft_list.proofs.AddedStored.{plain_added}
use Rattle.ft_list.proofs.adding.extend_by.Goals as goal

pub count_of-more-requires-clause-may : goal.count_of-more-requires-clause-may
count_of-more-requires-clause-may c =
    let a = c.args in
    may_loaded (shape_of a.bank.now) a.m (view a.pass.now) (view c.count_of-count.new.pass) c.requires.pass.1 c.count_of-count.ensures.only c.requires.other

pub root_table-old-requires-clause-may : goal.root_table-old-requires-clause-may
root_table-old-requires-clause-may c =
    let a = c.args in
    may_loaded (shape_of a.bank.now) a.l (view c.count_of-count.new.pass) (view c.count_of-more.new.pass) c.count_of-count.ensures.pass.1 c.count_of-more.ensures.only c.count_of-count.ensures.may

pub add_to-requires-clause-may : goal.add_to-requires-clause-may
add_to-requires-clause-may c =
    let a = c.args in
    let l = loaded_then (view a.pass.now) (view c.count_of-count.new.pass) (view c.root_table-old.new.pass) c.count_of-count.ensures.only (loaded_then (view c.count_of-count.new.pass) (view c.count_of-more.new.pass) (view c.root_table-old.new.pass) c.count_of-more.ensures.only c.root_table-old.ensures.only) in
    record {
      list = c.root_table-old.ensures.list;
      even = λ p. l.work.pass.writes p ∙ c.requires.may.even p;
      used = l.work.used ∙ c.requires.used;
      owes = l.work.owes ∙ c.requires.may.owes;
      idle = l.work.pass.flight ∙ c.requires.idle;
      settled = (stays_settled_same (view a.pass.now) (view c.root_table-old.new.pass) l.boxes.made).settled c.requires.may.boxes.settled;
      few = few_same (view a.pass.now) (view c.root_table-old.new.pass) l.boxes.references (few_done (shape_of a.bank.now) (view a.pass.now) c.requires.pass.1 c.requires.may.boxes);
      left = subst (λ (n : ℕ). 0 < n) (sym l.work.left) c.requires.may.left;
    }

pub add_to-requires-clause-addition : goal.add_to-requires-clause-addition
add_to-requires-clause-addition c =
    let a = c.args in
    let k = shape_of a.bank.now in
    let x = view c.count_of-count.new.pass in
    let y = view c.count_of-more.new.pass in
    let u = view c.root_table-old.new.pass in
    let e = c.count_of-more.ensures in
    (e.count ∙ sym (ap length (items_loaded a.m y u c.root_table-old.ensures.only ∙ items_loaded a.m x y e.only)), knows_from k a.m u (may_loaded k a.m y u e.pass.1 c.root_table-old.ensures.only e.may))

pub add_to-requires-clause-count : goal.add_to-requires-clause-count
add_to-requires-clause-count c =
    let a = c.args in
    let v = view a.pass.now in
    let x = view c.count_of-count.new.pass in
    let y = view c.count_of-more.new.pass in
    let u = view c.root_table-old.new.pass in
    c.count_of-count.ensures.count ∙ sym (ap length (items_loaded a.l y u c.root_table-old.ensures.only ∙ (items_loaded a.l x y c.count_of-more.ensures.only ∙ items_loaded a.l v x c.count_of-count.ensures.only)))

pub add_to-requires-clause-call : goal.add_to-requires-clause-call
add_to-requires-clause-call c =
    let a = c.args in
    let k = shape_of a.bank.now in
    let y = view c.count_of-more.new.pass in
    let u = view c.root_table-old.new.pass in
    let e = c.root_table-old.ensures in
    let shape : u.shape ≡ k = e.pass.1 in
    let possible = c.root_table-old.new.pass.possible in
    let other = knows_from k a.m u (may_loaded k a.m y u c.count_of-more.ensures.pass.1 e.only c.count_of-more.ensures.may) in
    let inside : (p : ℕ) → p < container_count k → p < container_count u.shape = λ p low. subst (λ (z : Shape). p < container_count z) (sym shape) low in (
      list.Extend a.m,
      refl,
      extend_adds a.l a.m (known_items a.l u) (known_items a.m u) u (inside a.l e.list.container) (inside a.m other.container) e.list.locked other.locked (knows_content k a.l c.root_table-old.result u shape possible e.list) (knows_list k a.m u other shape possible) (knows_few k a.m u other shape possible),
    )

pub returns-clause-added : goal.returns-clause-added
returns-clause-added c =
    let a = c.args in
    let v = view a.pass.now in
    let x = view c.count_of-count.new.pass in
    let y = view c.count_of-more.new.pass in
    let u = view c.root_table-old.new.pass in
    let e = c.root_table-old.ensures in
    let f = c.count_of-more.ensures in
    let more : c.count_of-more.result ≡ length (known_items a.m v) = f.count ∙ ap length (items_loaded a.m v x c.count_of-count.ensures.only) in
    adds_items (shape_of a.bank.now) a.l (length (known_items a.m v)) c.root_table-old.result v u (view c.add_to.new.pass) (c.count_of-count.result + c.count_of-more.result) (call.List a.l (list.Extend a.m)) c.add_to.result
    (loaded_then v x u c.count_of-count.ensures.only (loaded_then x y u f.only e.only)) e.list e.pass.1 c.root_table-old.new.pass.possible (λ d. c.count_of-count.ensures.count d + more d) (plain_added (shape_of a.bank.now) _ _ Empty _ u (view c.add_to.new.pass) c.add_to.result e.pass.1 (λ four. omega (arith, four)) c.add_to.ensures.added)

pub returns-clause-cursors : goal.returns-clause-cursors
returns-clause-cursors c number =
    let a = c.args in
    let e = c.root_table-old.ensures in
    let u = view c.root_table-old.new.pass in
    added_cursors (GivesReference (shape_of a.bank.now) Empty) (shape_of a.bank.now) _ _ _ reply.Done u (view c.add_to.new.pass) c.add_to.result c.add_to.ensures.added number
    ∙ (e.only.work.pass.cursors number ∙ (c.count_of-more.ensures.only.work.pass.cursors number ∙ c.count_of-count.ensures.only.work.pass.cursors number))

pub add_to-requires-clause-stores : goal.add_to-requires-clause-stores
add_to-requires-clause-stores c b taken =
    let a = c.args in
    let l = loaded_then (view a.pass.now) (view c.count_of-count.new.pass) (view c.root_table-old.new.pass) c.count_of-count.ensures.only (loaded_then (view c.count_of-count.new.pass) (view c.count_of-more.new.pass) (view c.root_table-old.new.pass) c.count_of-more.ensures.only c.root_table-old.ensures.only) in
    c.requires.may.boxes.stored b (sym (l.boxes.made.uses b) ∙ taken)

pub add_to-requires-clause-spare : goal.add_to-requires-clause-spare
add_to-requires-clause-spare c b =
    let a = c.args in
    let l = loaded_then (view a.pass.now) (view c.count_of-count.new.pass) (view c.root_table-old.new.pass) c.count_of-count.ensures.only (loaded_then (view c.count_of-count.new.pass) (view c.count_of-more.new.pass) (view c.root_table-old.new.pass) c.count_of-more.ensures.only c.root_table-old.ensures.only) in
    let same = held_same (shape_of a.bank.now) (view a.pass.now) (view c.root_table-old.new.pass) c.requires.pass.1 (l.work.pass.shape ∙ c.requires.pass.1) l.boxes.references b in
    let none = c.requires.may.boxes.none b in
    omega (arith, same, none)

pub returns-clause-shares : goal.returns-clause-shares
returns-clause-shares c made p low =
    let a = c.args in
    let v = view a.pass.now in
    let x = view c.count_of-count.new.pass in
    let y = view c.count_of-more.new.pass in
    let u = view c.root_table-old.new.pass in
    let e = c.root_table-old.ensures.only in
    let f = c.count_of-more.ensures.only in
    let g = c.count_of-count.ensures.only in
    let l = loaded_then v x u g (loaded_then x y u f e) in
    let more : c.count_of-more.result ≡ length (known_items a.m v) = c.count_of-more.ensures.count ∙ ap length (items_loaded a.m v x g) in
    let same = loaded_held v u a.m l in
    let items : known_items a.l u ≡ known_items a.l v = items_loaded a.l v u l in
    let n = (subst (λ (z : List Value). SharesItems a.l (length z) a.m c.count_of-more.result u (view c.add_to.new.pass)) items (c.add_to.ensures.named made).0) p (omega (arith, low, more)) in
    (n.0 ∙ ap (λ (q : ContainerWords). item_field q.table p 1) same, n.1 ∙ ap (λ (q : ContainerWords). item_field q.table p 2) same)
