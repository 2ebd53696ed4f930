use Rattle.std.proofs.Common.{◌≡◌, ℕ, ◌+◌, ◌<◌, ◌≤◌, List, length, Some, sym, ap, ◌∙◌, subst, arith, suc}
use Rattle.ft_model.specs.declared.data.Value.{Value}
use Rattle.ft_model.specs.Worlds.{list_of}
use Rattle.ft_layout.specs.Containers.{IsBlock}
use Rattle.ft_trace.specs.declared.Act.TheVariants.{PutBlock}
use Rattle.ft_trace.specs.declared.Shape.{Shape}
use Rattle.ft_trace.specs.declared.View.{View}
use Rattle.ft_trace.specs.Addresses.{class_of, container_count, slots}
use Rattle.ft_trace.specs.Holds.{held_unboxed, in_hand, known_state, held_words}
use Rattle.ft_trace.specs.Pictures.{ContainerWords, root_in}
use Rattle.ft_trace.specs.ContainerStates.{ContainerState}
use Rattle.ft_bank.specs.Passes.{shape_of, view}
use Rattle.ft_bank.specs.TableNames.{table_id}
use Rattle.ft_bank.specs.Whole.{OnlyWritten}
use Rattle.ft_bank.proofs.KnownAfterWrites.{put_by, written_then, work_knows, put_written}
use Rattle.ft_search.proofs.Overs.{held_same}
use Rattle.ft_list.specs.ListWrites.{Grows}
use Rattle.ft_list.specs.ListItemWrites.{IsPutting, known_items, stored_item}
use Rattle.ft_list.specs.Internal.Moving.{IsMoving}
use Rattle.ft_list.specs.Internal.Additions.{count_in, first_in, with_added}
use Rattle.ft_list.specs.Internal.NewListTables.{IsCopied}
use Rattle.ft_list.proofs.Cares.{few_slots, table_class, writes_on}
use Rattle.ft_list.proofs.Extending.{added_changing, added_head, added_long, added_on, addition_begun, addition_on, first_low}
use Rattle.ft_list.proofs.FinishedWrites.{root_stays}
use Rattle.ft_list.proofs.GrownLists.{grow_filled}
use Rattle.ft_list.proofs.GrowWrites.{earlier_root, taken_before_root, grow_finishing, grow_wrote, list_changes}
use Rattle.ft_list.proofs.WholeListWrites.{grows_on, has_before}
use Rattle.ft_list.proofs.Rooted.{rooted_known, rooted_other}
use Rattle.ft_list.specs.Internal.Additions.{NamesAdded}
use Rattle.ft_list.proofs.AddedStored.{names_from, names_kept, stores_added, words_kept_all}
use Rattle.ft_list.proofs.SharedItems.{given_rooted}
use Rattle.ft_list.proofs.growth.add_in.Goals as goal
use Rattle.ft_list.proofs.growth.add_in.Goals.{After-put_block}

pub begin_in-requires-clause-may : goal.begin_in-requires-clause-may
begin_in-requires-clause-may c =
    let a = c.args in
    grow_filled (shape_of a.bank.now) a.o a.old a.table (view a.pass.now) (view c.fill.new.pass) c.requires.pass.1 c.fill.ensures.only c.requires.may

pub begin_in-requires-clause-copied : goal.begin_in-requires-clause-copied
begin_in-requires-clause-copied c =
    let a = c.args in
    let class = class_of (table_id a.table) in
    let w = view c.fill.new.pass in
    let l = c.requires.may.list in
    let same : held_words a.o w ≡ held_words a.o (view a.pass.now) = (c.fill.ensures.only.keeps a.o (subst (λ (z : Shape). a.o < container_count z) (sym c.requires.pass.1) l.container) l.locked l.even).0 in
    subst (λ (x : ContainerWords). IsCopied a.old x.table class (slots class) (in_hand (table_id a.table) w)) (sym same) c.fill.ensures.copied

pub begin_in-requires-clause-room : goal.begin_in-requires-clause-room
begin_in-requires-clause-room c =
    let a = c.args in
    let n : length (known_items a.o (view c.fill.new.pass)) ≡ length (known_items a.o (view a.pass.now)) = ap (λ (u : ContainerState). length (list_of u.content)) (work_knows (view a.pass.now) (view c.fill.new.pass) a.o c.fill.ensures.only.work) in
    let r = c.requires.room in
    let m = c.requires.count in
    omega (arith, n, r, m)

pub put_added-requires-clause-addition : goal.put_added-requires-clause-addition
put_added-requires-clause-addition c =
    let a = c.args in
    let k = shape_of a.bank.now in
    let v = view a.pass.now in
    let x = view c.fill.new.pass in
    let s = view c.begin_in.new.pass in
    let g = c.fill.ensures.only in
    let b = c.begin_in.ensures in
    let h = b.rooted in
    let known_now : (p : ℕ) → known_state p s ≡ known_state p x = rooted_known a.o (suc (table_id a.table)) x s h in
    let inside : (p : ℕ) → p < container_count k → p < container_count x.shape = λ p low. subst (λ (z : Shape). p < container_count z) (sym (g.work.pass.shape ∙ c.requires.pass.1)) low in
    let filled = addition_on k a.count a.addition v x c.fill.ensures.keeps
    (λ p list. let y = g.keeps p (subst (λ (z : Shape). p < container_count z) (sym c.requires.pass.1) list.container) list.locked list.even in (y.2, y.1, g.work.pass.locks p, g.work.pass.writes p)) c.requires.addition in
    let n : length (known_items a.o x) ≡ length (known_items a.o v) = ap (λ (u : ContainerState). length (list_of u.content)) (work_knows v x a.o g.work) in
    let r = c.requires.room in
    let m = c.requires.count in
    addition_begun k a.o a.table x s b.list a.count a.count (b.putting a.count a.count) (omega (arith, n, r, m)) known_now b.pass.1 c.begin_in.new.pass.possible
    (λ p ne list. rooted_other a.o (suc (table_id a.table)) x s h p ne (inside p list.container) list.locked list.even)
    a.count a.addition b.keeps filled

pub put_added-requires-clause-count : goal.put_added-requires-clause-count
put_added-requires-clause-count c =
    let a = c.args in
    c.requires.count
    ∙ sym (ap (λ (u : ContainerState). length (list_of u.content))
    (rooted_known a.o (suc (table_id a.table)) (view c.fill.new.pass) (view c.begin_in.new.pass) c.begin_in.ensures.rooted a.o ∙ work_knows (view a.pass.now) (view c.fill.new.pass) a.o c.fill.ensures.only.work))

pub put_added-requires-clause-before : goal.put_added-requires-clause-before
put_added-requires-clause-before c =
    let a = c.args in
    let items : known_items a.o (view c.begin_in.new.pass) ≡ known_items a.o (view c.fill.new.pass) = ap (λ (z : ContainerState). list_of z.content) (rooted_known a.o (suc (table_id a.table)) (view c.fill.new.pass) (view c.begin_in.new.pass) c.begin_in.ensures.rooted a.o) in
    let first = first_in a.addition a.count in
    let past = a.count + count_in a.addition in
    subst (λ (l : List Value). IsPutting (class_of (table_id a.table)) l first past (stored_item l) (held_unboxed a.o (view c.begin_in.new.pass)).table) (sym items) (c.begin_in.ensures.putting first past)

pub put_added-requires-clause-spare : goal.put_added-requires-clause-spare
put_added-requires-clause-spare c b =
    let k = shape_of c.args.bank.now in
    let first = held_same k (view c.args.pass.now) (view c.fill.new.pass) c.requires.pass.1 c.fill.ensures.pass.1 c.fill.ensures.only.references b in
    let second = held_same k (view c.fill.new.pass) (view c.begin_in.new.pass) c.fill.ensures.pass.1 c.begin_in.ensures.pass.1 c.begin_in.ensures.references b in
    let s = c.requires.spare b in
    omega (arith, first, second, s)

pub overflow_add-past : goal.overflow_add-past
overflow_add-past c =
    let f = few_slots (shape_of c.args.bank.now) c.args.table c.requires.may.table_in in
    let r = c.requires.room in
    let e = c.added_count.ensures in
    omega (arith, f, r, e)

-- the item names the box once the length is put
names_put : (c : After-put_block) → NamesAdded c.args.o (known_items c.args.o (view c.args.pass.now)) c.args.addition (view c.args.pass.now) (view c.put_block.new.pass)
names_put c =
    let a = c.args in
    let y = view c.put_added.new.pass in
    let u = view c.put_block.new.pass in
    let s = view c.begin_in.new.pass in
    let items : known_items a.o s ≡ known_items a.o (view a.pass.now) =
    ap (λ (z : ContainerState). list_of z.content) (rooted_known a.o (suc (table_id a.table)) (view c.fill.new.pass) s c.begin_in.ensures.rooted a.o ∙ work_knows (view a.pass.now) (view c.fill.new.pass) a.o c.fill.ensures.only.work) in
    let v = view a.pass.now in
    let given = given_rooted (shape_of a.bank.now) a.o (suc (table_id a.table)) a.count a.addition v (view c.fill.new.pass) s c.requires.pass.1 c.requires.addition c.fill.ensures.only c.begin_in.ensures.rooted c.begin_in.ensures.items in
    subst (λ (l : List Value). NamesAdded a.o l a.addition v u) items
    (names_from a.o (known_items a.o s) a.addition v s u given
    (names_kept a.o (known_items a.o s) a.addition s y u (words_kept_all a.o y u (ap (λ (z : ContainerWords). z.table) c.put_block.ensures.held)) c.put_added.ensures.named))

pub returns-clause-named : goal.returns-clause-named
returns-clause-named c =
    names_kept c.args.o (known_items c.args.o (view c.args.pass.now)) c.args.addition (view c.args.pass.now) (view c.put_block.new.pass) (view c.finish.new.pass) c.finish.ensures.values (names_put (goal.at.returns-clause-named c).After-put_block)

pub finish-requires-clause-may : goal.finish-requires-clause-may
finish-requires-clause-may c =
    let a = c.args in
    let k = shape_of a.bank.now in
    let v = view a.pass.now in
    let x = view c.fill.new.pass in
    let s = view c.begin_in.new.pass in
    let y = view c.put_added.new.pass in
    let u = view c.put_block.new.pass in
    let g = c.fill.ensures.only in
    let b = c.begin_in.ensures in
    let e = c.put_added.ensures in
    let values = known_items a.o x in
    let olds = known_items a.o v in
    let news = with_added a.addition x values in
    let class = class_of (table_id a.table) in
    let is_class = table_class k a.table c.requires.may.table_in in
    let counted : count_in a.addition ≡ c.added_count.result = sym c.added_count.ensures in
    let total = a.count + c.added_count.result in
    let first = c.first_place.result in
    let h = b.rooted in
    let known_now : (p : ℕ) → known_state p s ≡ known_state p x = rooted_known a.o (suc (table_id a.table)) x s h in
    let knows_x : (p : ℕ) → known_state p x ≡ known_state p v = λ p. work_knows v x p g.work in
    let same : values ≡ olds = ap (λ (z : ContainerState). list_of z.content) (knows_x a.o) in
    let news_is : news ≡ with_added a.addition v olds = ap (λ (l : List Value). with_added a.addition x l) same ∙ added_on a.addition v x knows_x olds in
    let items : known_items a.o s ≡ values = ap (λ (z : ContainerState). list_of z.content) (known_now a.o) in
    let after : with_added a.addition s (known_items a.o s) ≡ news = ap (λ (l : List Value). with_added a.addition s l) items ∙ added_on a.addition x s known_now values in
    let moved : IsMoving class values news first total total (held_unboxed a.o y).table =
    subst (λ (z : List Value × List Value × ℕ × ℕ). IsMoving class z.0 z.1 z.2 (a.count + z.3) (a.count + z.3) (held_unboxed a.o y).table) (λ d. (items d, after d, sym c.first_place.ensures d, counted d)) e.moved in
    let long : length news ≡ total = ap length news_is ∙ (added_long k a.count a.addition v olds c.requires.addition c.requires.count ∙ ap (λ (n : ℕ). a.count + n) counted) in
    let n : a.count ≡ length values = c.requires.count ∙ ap length (sym same) in
    let short : length values ≤ total = omega (arith, n) in
    let room : total ≤ slots class = subst (λ (n : ℕ). a.count + n ≤ slots class) counted c.requires.room in
    let held_is = c.put_block.ensures.unboxed in
    let last = put_by (PutBlock a.o 1 total) y u a.o tt c.put_block.ensures.did.1 c.put_block.ensures.keeps c.put_block.ensures.moves in
    let only : OnlyWritten a.o h.rooted u = written_then a.o h.rooted s u h.only (written_then a.o s y u e.only (put_written a.o y u last)) in
    let changing = added_changing class is_class values news first total (held_unboxed a.o y) (held_unboxed a.o u) moved held_is short long room in
    let head = added_head class is_class values news first total (held_unboxed a.o y) (held_unboxed a.o u) moved held_is short long room (subst (λ (l : List ℕ). IsBlock l (Some class) (length values) 0 0) (sym e.block) b.head) in
    let list = writes_on k a.o a.table y u e.pass.1 last.work c.put_block.ensures.boxes.references last.made (root_stays _ _ _ _ (omega arith) held_is) e.list in
    let call_is = c.requires.call in
    let may = grow_filled k a.o a.old a.table v x c.requires.pass.1 g c.requires.may in
    let grows : Grows a.o call_is.0 values news class x =
    subst (λ (z : List Value × List Value). Grows a.o call_is.0 z.0 z.1 class x) (λ d. (sym same d, sym news_is d))
    (grows_on v x knows_x g.work.pass.shape (λ p mine. g.work.pass.locks p ∙ mine) a.o call_is.0 olds (with_added a.addition v olds) class call_is.2) in
    grow_finishing k a.o a.old a.table x h.rooted u h.start may h.did only first total call_is.0 a.called.now values news call_is.1 grows b.content list (ap (λ (z : View). z.shape) c.put_block.ensures.did.1 ∙ e.pass.1) changing head
    (stores_added a.called.now v u (λ b taken. sym (g.made.uses b) ∙ taken_before_root k a.o a.old a.table x h.rooted u h.start may h.did only b taken)
    (λ world has. has_before v x knows_x g.work.pass.shape (λ p mine. g.work.pass.locks p ∙ mine) world (earlier_root k a.o a.old a.table x h.rooted u h.start may h.did only world has))
    k a.o a.table (ap (λ (z : View). z.shape) c.put_block.ensures.did.1 ∙ e.pass.1) list (list_changes a.o call_is.0 a.called.now call_is.1 call_is.2.write.changing)
    a.addition olds a.count c.requires.count (first_low k a.count a.addition v c.requires.addition) c.requires.room c.requires.stores v (names_put (goal.at.finish-requires-clause-may c).After-put_block))

pub returns-clause-wrote : goal.returns-clause-wrote
returns-clause-wrote c =
    let a = c.args in
    let k = shape_of a.bank.now in
    let v = view a.pass.now in
    let x = view c.fill.new.pass in
    let s = view c.begin_in.new.pass in
    let y = view c.put_added.new.pass in
    let u = view c.put_block.new.pass in
    let g = c.fill.ensures.only in
    let h = c.begin_in.ensures.rooted in
    let e = c.put_added.ensures in
    let last = put_by (PutBlock a.o 1 (a.count + c.added_count.result)) y u a.o tt c.put_block.ensures.did.1 c.put_block.ensures.keeps c.put_block.ensures.moves in
    let call_is = c.requires.call in
    let may = grow_filled k a.o a.old a.table v x c.requires.pass.1 g c.requires.may in
    let same : held_words a.o x ≡ held_words a.o v = (g.keeps a.o (subst (λ (z : Shape). a.o < container_count z) (sym c.requires.pass.1) c.requires.may.list.container) c.requires.may.list.locked c.requires.may.list.even).0 in
    grow_wrote k a.o a.old a.table x h.rooted u h.start may h.did (written_then a.o h.rooted s u h.only (written_then a.o s y u e.only (put_written a.o y u last))) call_is.0 a.called.now c.finish.result v (view c.finish.new.pass) call_is.1 call_is.2.write.changing g same
    (λ is. c.requires.other (sym (ap root_in same) ∙ is)) h.keeps h.moves (root_stays _ _ _ _ (omega arith) c.put_block.ensures.unboxed ∙ e.list.root) c.finish.ensures.ends

pub returns-clause-root : goal.returns-clause-root
returns-clause-root c =
    let a = c.args in
    let call_is = c.requires.call in
    let at = list_changes a.o call_is.0 a.called.now call_is.1 call_is.2.write.changing in
    subst (λ (n : ℕ). root_in (held_unboxed n (view c.finish.new.pass)) ≡ root_in (held_unboxed n (view c.put_block.new.pass))) at c.finish.ensures.ends.root
    ∙ (root_stays _ _ _ _ (omega arith) c.put_block.ensures.unboxed ∙ c.put_added.ensures.list.root)

pub returns-clause-references : goal.returns-clause-references
returns-clause-references c b =
    let k = shape_of c.args.bank.now in
    let v = view c.args.pass.now in
    let x = view c.fill.new.pass in
    let s = view c.begin_in.new.pass in
    let y = view c.put_added.new.pass in
    let u = view c.put_block.new.pass in
    let fill = held_same k v x c.requires.pass.1 c.fill.ensures.pass.1 c.fill.ensures.only.references b in
    let begun = held_same k x s c.fill.ensures.pass.1 c.begin_in.ensures.pass.1 c.begin_in.ensures.references b in
    let put = c.put_added.ensures.references b in
    let then_ : u.shape ≡ k = ap (λ (z : View). z.shape) c.put_block.ensures.did.1 ∙ c.put_added.ensures.pass.1 in
    let block = held_same k y u c.put_added.ensures.pass.1 then_ c.put_block.ensures.boxes.references b in
    let done = held_same k u (view c.finish.new.pass) then_ c.finish.ensures.pass.1 c.finish.ensures.references b in
    omega (arith, fill, begun, put, block, done)
