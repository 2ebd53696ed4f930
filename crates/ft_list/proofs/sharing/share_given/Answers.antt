use Rattle.std.proofs.Common.{◌≡◌, ℕ, ◌+◌, ◌<◌, eqb, cond, sym, ap, ◌∙◌, subst, arith}
use Rattle.ft_layout.specs.Words.{IsStored}
use Rattle.ft_trace.specs.declared.Shape.{Shape}
use Rattle.ft_trace.specs.declared.View.{View}
use Rattle.ft_trace.specs.Addresses.{IsBoxName}
use Rattle.ft_trace.specs.Boxes.{references_held, KeepsBox}
use Rattle.ft_trace.specs.Holds.{held_words}
use Rattle.ft_trace.specs.Pictures.{ContainerWords, item_field, root_in}
use Rattle.ft_bank.specs.BoxSteps.{kind_read, payload_read}
use Rattle.ft_trace.proofs.Cases.{hit}
use Rattle.ft_bank.specs.Passes.{shape_of, view}
use Rattle.ft_bank.specs.TableNames.{table_id}
use Rattle.ft_bank.proofs.KnownAfterWrites.{loaded_boxed}
use Rattle.ft_search.specs.Boxed.{IsKnownBox}
use Rattle.ft_search.proofs.Calling.{loaded_same}
use Rattle.ft_search.proofs.Overs.{boxed_held}
use Rattle.ft_list.specs.ListItemWrites.{known_items, stored_item}
use Rattle.ft_list.proofs.ItemValues.{item_known}
use Rattle.ft_list.proofs.SharedItems.{item_given, item_keeps}
use Rattle.ft_list.proofs.sharing.share_given.Goals as goal
use Rattle.ft_list.proofs.sharing.share_given.Goals.{After-raise_named}

-- the box is there, and is kept
pub raise_named-requires-clause-name : goal.raise_named-requires-clause-name
raise_named-requires-clause-name c =
    let a = c.args in
    let k = shape_of a.bank.now in
    let v = view a.pass.now in
    let g = c.requires.gives.1 in
    let f = c.requires.from in
    let low = (g.stores (table_id f.0) a.place f.2 c.requires.place).0 in
    subst (λ (z : Shape × ℕ). IsBoxName z.0 z.1) (λ d. (c.requires.pass.1 d, sym c.requires.payload d))
    (item_known k a.m f.0 a.place v c.requires.pass.1 g.container g.kind g.locked f.1 f.2 low a.pass.now.possible (sym c.requires.kind ∙ c.if-value-eq-BOX_KIND.true)).0

pub raise_named-requires-clause-kept : goal.raise_named-requires-clause-kept
raise_named-requires-clause-kept c =
    let a = c.args in
    let k = shape_of a.bank.now in
    let v = view a.pass.now in
    let g = c.requires.gives.1 in
    let f = c.requires.from in
    let low = (g.stores (table_id f.0) a.place f.2 c.requires.place).0 in
    subst (λ (b : ℕ). KeepsBox k b v.log) (sym c.requires.payload)
    (item_keeps k a.m f.0 a.place v c.requires.pass.1 g.container g.kind g.locked f.2 low a.pass.now.possible (sym c.requires.kind ∙ c.if-value-eq-BOX_KIND.true))

pub returns-then-value-eq-BOX_KIND-clause-own : goal.returns-then-value-eq-BOX_KIND-clause-own
returns-then-value-eq-BOX_KIND-clause-own c four =
    let a = c.args in
    let k = shape_of a.bank.now in
    let v = view a.pass.now in
    let w = view c.raise_named.new.pass in
    let e = c.raise_named.ensures in
    let g = c.requires.gives.1 in
    let f = c.requires.from in
    let low = (g.stores (table_id f.0) a.place f.2 c.requires.place).0 in
    let same : held_words a.m w ≡ held_words a.m v = boxed_held v w a.m e.only in
    let kind_is : item_field (held_words a.m w).table a.place 1 ≡ 4 = ap (λ (x : ContainerWords). item_field x.table a.place 1) same ∙ (sym c.requires.kind ∙ four) in
    let known = item_known k a.m f.0 a.place w e.pass.1 g.container g.kind (e.only.work.pass.locks a.m ∙ g.locked) f.1 (ap root_in same ∙ f.2) low c.raise_named.new.pass.possible kind_is in
    let is : item_field (held_words a.m w).table a.place 2 ≡ a.value.1 = ap (λ (x : ContainerWords). item_field x.table a.place 2) same ∙ sym c.requires.payload in
    let there = subst (λ (b : ℕ). IsKnownBox w b) is known in
    let more = e.references a.value.1 in
    (subst (λ (z : Shape). 0 < references_held z a.value.1 w.log) (sym e.pass.1) (one_more k v w a.value.1 more), there.1, there.2)
  where
    one_more : (k : Shape) (v w : View) (b : ℕ) → references_held k b w.log ≡ references_held k b v.log + cond (eqb b b) 1 0 → 0 < references_held k b w.log
    one_more k v w b more = let one = hit {A = ℕ} b 1 0 in omega (arith, more, one)

-- what the item reads
reads_at : (c : After-raise_named) → IsStored (kind_read (view c.raise_named.new.pass) c.args.value.0 c.args.value.1) (payload_read (view c.raise_named.new.pass) c.args.value.0 c.args.value.1) (stored_item (known_items c.args.m (view c.args.pass.now)) c.args.place)
reads_at c =
    let e = c.raise_named.ensures in
    item_given (shape_of c.args.bank.now) c.requires.gives.0 c.args.m c.requires.from.0 c.args.place c.args.value (view c.args.pass.now) (view c.raise_named.new.pass) c.requires.pass.1 e.only c.requires.gives.1 c.requires.from.1 c.requires.from.2 c.requires.place c.requires.kind c.requires.payload

pub returns-then-value-eq-BOX_KIND-clause-reads : goal.returns-then-value-eq-BOX_KIND-clause-reads
returns-then-value-eq-BOX_KIND-clause-reads c = reads_at (goal.at.returns-then-value-eq-BOX_KIND-clause-reads c).After-raise_named

pub returns-else-value-eq-BOX_KIND-clause-reads : goal.returns-else-value-eq-BOX_KIND-clause-reads
returns-else-value-eq-BOX_KIND-clause-reads c =
    let v = view c.args.pass.now in
    item_given (shape_of c.args.bank.now) c.requires.gives.0 c.args.m c.requires.from.0 c.args.place c.args.value v v c.requires.pass.1 (loaded_boxed v v (loaded_same v)) c.requires.gives.1 c.requires.from.1 c.requires.from.2 c.requires.place c.requires.kind c.requires.payload
