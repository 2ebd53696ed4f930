use Rattle.std.proofs.Common.{◌≡◌, ℕ, ◌+◌, ◌≤◌, true, List, length, Some, sym, ap, ◌∙◌, subst, arith}
use Rattle.ft_model.specs.declared.data.Value.{Value}
use Rattle.ft_model.specs.declared.reply.Reply.TheVariants as reply
use Rattle.ft_layout.specs.Containers.{IsBlock}
use Rattle.ft_trace.specs.Boxes.{references_held}
use Rattle.ft_trace.specs.declared.Act.TheVariants.{PutBlock}
use Rattle.ft_trace.specs.declared.View.{View}
use Rattle.ft_trace.specs.Acts.{has_lock, is_writing}
use Rattle.ft_trace.specs.Addresses.{class_of, slots}
use Rattle.ft_trace.specs.Holds.{held_words, held_unboxed, known_state}
use Rattle.ft_trace.proofs.Cases.{miss}
use Rattle.ft_bank.specs.Passes.{shape_of, view}
use Rattle.ft_bank.specs.TableNames.{table_id}
use Rattle.ft_bank.specs.Whole.{OnlyWritten}
use Rattle.ft_bank.proofs.KnownAfterWrites.{put_by, put_written, written_then}
use Rattle.ft_search.proofs.Overs.{held_same}
use Rattle.ft_list.specs.ListItemWrites.{IsPutting, known_items, stored_item}
use Rattle.ft_list.specs.Internal.Moving.{IsMoving}
use Rattle.ft_list.specs.Internal.Additions.{count_in, first_in, with_added}
use Rattle.ft_list.proofs.Cares.{table_class, writes_on}
use Rattle.ft_list.proofs.Extending.{added_changing, added_head, added_long, added_on, addition_begun, first_low}
use Rattle.ft_list.proofs.FinishedWrites.{root_stays}
use Rattle.ft_trace.specs.Pictures.{ContainerWords}
use Rattle.ft_search.proofs.Owning.{keeps_begun}
use Rattle.ft_list.specs.Internal.Additions.{NamesAdded}
use Rattle.ft_list.proofs.AddedStored.{given_same, names_from, names_kept, stores_added, words_kept_all}
use Rattle.ft_list.proofs.GrowWrites.{list_changes}
use Rattle.ft_list.proofs.WholeListWrites.{earlier_has, finishing, list_wrote, root_wrote, taken_before}
use Rattle.ft_list.proofs.writes.add_items.Goals as goal
use Rattle.ft_list.proofs.writes.add_items.Goals.{After-put_block}

pub put_added-requires-clause-addition : goal.put_added-requires-clause-addition
put_added-requires-clause-addition c =
    let a = c.args in
    let v = view a.pass.now in
    let b = c.begin.ensures in
    let begun = b.did.1.1 in
    addition_begun (shape_of a.bank.now) a.o a.table v (view c.begin.new.pass) b.list a.count a.count (b.putting a.count a.count) b.few (λ p. ap (λ (z : View). known_state p z) begun) b.pass.1 c.begin.new.pass.possible
    (λ p ne list. (ap (λ (z : View). held_unboxed p z) begun, ap (λ (z : View). has_lock p z.log) begun, ap (λ (z : View). is_writing p z.log) begun ∙ miss a.o p true (is_writing p v.log) (λ e. ne (sym e))))
    a.count a.addition (keeps_begun v (view c.begin.new.pass) a.o b.did.0 begun) c.requires.addition

pub put_added-requires-clause-count : goal.put_added-requires-clause-count
put_added-requires-clause-count c = c.requires.count ∙ sym (ap (λ (z : View). length (known_items c.args.o z)) c.begin.ensures.did.1.1)

pub put_added-requires-clause-before : goal.put_added-requires-clause-before
put_added-requires-clause-before c =
    let a = c.args in
    let items : known_items a.o (view c.begin.new.pass) ≡ known_items a.o (view a.pass.now) = ap (λ (z : View). known_items a.o z) c.begin.ensures.did.1.1 in
    let first = first_in a.addition a.count in
    let past = a.count + count_in a.addition in
    subst (λ (l : List Value). IsPutting (class_of (table_id a.table)) l first past (stored_item l) (held_unboxed a.o (view c.begin.new.pass)).table) (sym items) (c.begin.ensures.putting first past)

-- the item names the box once the length is put
names_put : (c : After-put_block) → NamesAdded c.args.o (known_items c.args.o (view c.args.pass.now)) c.args.addition (view c.args.pass.now) (view c.put_block.new.pass)
names_put c =
    let a = c.args in
    let y = view c.put_added.new.pass in
    let u = view c.put_block.new.pass in
    let items : known_items a.o (view c.begin.new.pass) ≡ known_items a.o (view a.pass.now) = ap (λ (z : View). known_items a.o z) c.begin.ensures.did.1.1 in
    let s = view c.begin.new.pass in
    let given = given_same (shape_of a.bank.now) a.count a.addition (view a.pass.now) s c.requires.addition (λ p list. ap (λ (z : View). held_words p z) c.begin.ensures.did.1.1) in
    subst (λ (l : List Value). NamesAdded a.o l a.addition (view a.pass.now) u) items
    (names_from a.o (known_items a.o s) a.addition (view a.pass.now) s u given
    (names_kept a.o (known_items a.o s) a.addition s y u (words_kept_all a.o y u (ap (λ (x : ContainerWords). x.table) c.put_block.ensures.held)) c.put_added.ensures.named))

pub returns-clause-named : goal.returns-clause-named
returns-clause-named c =
    names_kept c.args.o (known_items c.args.o (view c.args.pass.now)) c.args.addition (view c.args.pass.now) (view c.put_block.new.pass) (view c.finish.new.pass) c.finish.ensures.values (names_put (goal.at.returns-clause-named c).After-put_block)

pub finish-requires-clause-may : goal.finish-requires-clause-may
finish-requires-clause-may c =
    let a = c.args in
    let k = shape_of a.bank.now in
    let v = view a.pass.now in
    let s = view c.begin.new.pass in
    let y = view c.put_added.new.pass in
    let u = view c.put_block.new.pass in
    let b = c.begin.ensures in
    let e = c.put_added.ensures in
    let values = known_items a.o v in
    let news = with_added a.addition v values in
    let class = class_of (table_id a.table) in
    let is_class = table_class k a.table c.requires.table.table_in in
    let counted : count_in a.addition ≡ c.added_count.result = sym c.added_count.ensures in
    let total = a.count + c.added_count.result in
    let first = c.first_place.result in
    let begun = b.did.1.1 in
    let items : known_items a.o s ≡ values = ap (λ (z : View). known_items a.o z) begun in
    let after : with_added a.addition s (known_items a.o s) ≡ news = ap (λ (l : List Value). with_added a.addition s l) items ∙ added_on a.addition v s (λ p. ap (λ (z : View). known_state p z) begun) values in
    let moved : IsMoving class values news first total total (held_unboxed a.o y).table =
    subst (λ (x : List Value × List Value × ℕ × ℕ). IsMoving class x.0 x.1 x.2 (a.count + x.3) (a.count + x.3) (held_unboxed a.o y).table) (λ d. (items d, after d, sym c.first_place.ensures d, counted d)) e.moved in
    let long : length news ≡ total = added_long k a.count a.addition v values c.requires.addition c.requires.count ∙ ap (λ (n : ℕ). a.count + n) counted in
    let n = c.requires.count in
    let short : length values ≤ total = omega (arith, n) in
    let room : total ≤ slots class = subst (λ (n : ℕ). a.count + n ≤ slots class) counted c.requires.room in
    let held_is = c.put_block.ensures.unboxed in
    let last = put_by (PutBlock a.o 1 total) y u a.o tt c.put_block.ensures.did.1 c.put_block.ensures.keeps c.put_block.ensures.moves in
    let only : OnlyWritten a.o s u = written_then a.o s y u e.only (put_written a.o y u last) in
    let changing = added_changing class is_class values news first total (held_unboxed a.o y) (held_unboxed a.o u) moved held_is short long room in
    let head = added_head class is_class values news first total (held_unboxed a.o y) (held_unboxed a.o u) moved held_is short long room (subst (λ (l : List ℕ). IsBlock l (Some class) (length values) 0 0) (sym e.block) b.head) in
    let list = writes_on k a.o a.table y u e.pass.1 last.work c.put_block.ensures.boxes.references last.made (root_stays _ _ _ _ (omega arith) held_is) e.list in
    let call_is = c.requires.call in
    finishing k a.o a.table v s u b.did.0 c.requires.may begun only first total call_is.0 a.called.now reply.Done values news call_is.1 call_is.2 b.content b.table list (ap (λ (z : View). z.shape) c.put_block.ensures.did.1 ∙ e.pass.1) changing head
    (stores_added a.called.now v u (taken_before k a.o a.table v s u b.did.0 c.requires.may begun only) (earlier_has k a.o a.table v s u b.did.0 c.requires.may begun only) k a.o a.table (ap (λ (z : View). z.shape) c.put_block.ensures.did.1 ∙ e.pass.1) list (list_changes a.o call_is.0 a.called.now call_is.1 call_is.2.write.changing)
    a.addition values a.count n (first_low k a.count a.addition v c.requires.addition) c.requires.room c.requires.stores (view a.pass.now) (names_put (goal.at.finish-requires-clause-may c).After-put_block))

pub returns-clause-wrote : goal.returns-clause-wrote
returns-clause-wrote c =
    let a = c.args in
    let k = shape_of a.bank.now in
    let s = view c.begin.new.pass in
    let y = view c.put_added.new.pass in
    let u = view c.put_block.new.pass in
    let d = c.begin.ensures.did in
    let e = c.put_added.ensures in
    let last = put_by (PutBlock a.o 1 (a.count + c.added_count.result)) y u a.o tt c.put_block.ensures.did.1 c.put_block.ensures.keeps c.put_block.ensures.moves in
    let call_is = c.requires.call in
    list_wrote k a.o a.table (view a.pass.now) s u d.0 c.requires.may d.1.1 (written_then a.o s y u e.only (put_written a.o y u last)) call_is.0 a.called.now reply.Done c.finish.result (view c.finish.new.pass) call_is.1 call_is.2.write.changing c.finish.ensures.ends
    ((root_stays _ _ _ _ (omega arith) c.put_block.ensures.unboxed) ∙ (e.list.root ∙ sym c.requires.table.root))

pub returns-clause-root : goal.returns-clause-root
returns-clause-root c =
    let a = c.args in
    let k = shape_of a.bank.now in
    let s = view c.begin.new.pass in
    let y = view c.put_added.new.pass in
    let u = view c.put_block.new.pass in
    let d = c.begin.ensures.did in
    let e = c.put_added.ensures in
    let last = put_by (PutBlock a.o 1 (a.count + c.added_count.result)) y u a.o tt c.put_block.ensures.did.1 c.put_block.ensures.keeps c.put_block.ensures.moves in
    let call_is = c.requires.call in
    root_wrote k a.o a.table (view a.pass.now) s u d.0 c.requires.may d.1.1 (written_then a.o s y u e.only (put_written a.o y u last)) call_is.0 a.called.now reply.Done c.finish.result (view c.finish.new.pass) call_is.1 call_is.2.write.changing c.finish.ensures.ends
    ((root_stays _ _ _ _ (omega arith) c.put_block.ensures.unboxed) ∙ (e.list.root ∙ sym c.requires.table.root))

pub returns-clause-references : goal.returns-clause-references
returns-clause-references c b =
    let k = shape_of c.args.bank.now in
    let s = view c.begin.new.pass in
    let y = view c.put_added.new.pass in
    let u = view c.put_block.new.pass in
    let begun = held_same k (view c.args.pass.now) s c.requires.pass.1 c.begin.ensures.pass.1 (λ n. ap (λ (z : View). references_held z.shape n z.log) c.begin.ensures.did.1.1) b in
    let put = c.put_added.ensures.references b in
    let then_ : u.shape ≡ k = ap (λ (z : View). z.shape) c.put_block.ensures.did.1 ∙ c.put_added.ensures.pass.1 in
    let block = held_same k y u c.put_added.ensures.pass.1 then_ c.put_block.ensures.boxes.references b in
    let done = held_same k u (view c.finish.new.pass) then_ c.finish.ensures.pass.1 c.finish.ensures.references b in
    omega (arith, begun, put, block, done)

pub put_added-requires-clause-spare : goal.put_added-requires-clause-spare
put_added-requires-clause-spare c b =
    let k = shape_of c.args.bank.now in
    let begun = held_same k (view c.args.pass.now) (view c.begin.new.pass) c.requires.pass.1 c.begin.ensures.pass.1 (λ n. ap (λ (z : View). references_held z.shape n z.log) c.begin.ensures.did.1.1) b in
    let s = c.requires.spare b in
    omega (arith, begun, s)
