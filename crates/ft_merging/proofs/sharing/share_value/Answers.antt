use Rattle.std.proofs.Common.{◌≡◌, ℕ, ◌+◌, ◌<◌, eqb, cond, sym, ap, ◌∙◌, subst, arith}
use Rattle.ft_trace.specs.declared.Shape.{Shape}
use Rattle.ft_trace.specs.declared.View.{View}
use Rattle.ft_trace.specs.Addresses.{class_of, container_count, slots, IsBoxName}
use Rattle.ft_trace.specs.Boxes.{references_held, KeepsBox}
use Rattle.ft_trace.specs.Holds.{held_words, held_unboxed}
use Rattle.ft_trace.specs.Pictures.{ContainerWords, entry_field}
use Rattle.ft_trace.proofs.Cases.{hit}
use Rattle.ft_bank.specs.BoxSteps.{kind_read, payload_read}
use Rattle.ft_bank.specs.Passes.{shape_of, view}
use Rattle.ft_bank.specs.TableNames.{table_id}
use Rattle.ft_bank.specs.Whole.{OnlyBoxed}
use Rattle.ft_bank.proofs.KnownAfterWrites.{boxed_then, loaded_boxed, loaded_held, loaded_put, put_written, raised_written, written_then}
use Rattle.ft_search.specs.Boxed.{IsKnownBox}
use Rattle.ft_search.proofs.Overs.{boxed_held}
use Rattle.ft_merging.proofs.SharedValues.{entry_keeps, entry_known, entry_reads, knows_boxed}
use Rattle.ft_merging.proofs.sharing.share_value.Goals as goal
use Rattle.ft_merging.proofs.sharing.share_value.Goals.{After-raise_named, After-value_words-value}

-- the loads, and the raise after them
loads : (c : After-value_words-value) → OnlyBoxed (view c.args.pass.now) (view c.value_words-value.new.pass)
loads c = loaded_boxed (view c.args.pass.now) (view c.value_words-value.new.pass) c.value_words-value.ensures.only

both : (c : After-raise_named) → OnlyBoxed (view c.args.pass.now) (view c.raise_named.new.pass)
both c =
    let v = view c.args.pass.now in
    let u = view c.value_words-value.new.pass in
    boxed_then v u (view c.raise_named.new.pass) (loaded_boxed v u c.value_words-value.ensures.only) c.raise_named.ensures.only

-- the words of the value, where it names a box
kind_is : (c : After-value_words-value) → (w : View) → held_words c.args.from.o w ≡ held_words c.args.from.o (view c.args.pass.now) → entry_field (slots (class_of (table_id c.args.from.table))) (held_words c.args.from.o w).table c.args.from.place 4 ≡ c.value_words-value.result.0
kind_is c w same = ap (λ (x : ContainerWords). entry_field (slots (class_of (table_id c.args.from.table))) x.table c.args.from.place 4) same ∙ sym c.value_words-value.ensures.kind

payload_is : (c : After-value_words-value) → (w : View) → held_words c.args.from.o w ≡ held_words c.args.from.o (view c.args.pass.now) → entry_field (slots (class_of (table_id c.args.from.table))) (held_words c.args.from.o w).table c.args.from.place 5 ≡ c.value_words-value.result.1
payload_is c w same = ap (λ (x : ContainerWords). entry_field (slots (class_of (table_id c.args.from.table))) x.table c.args.from.place 5) same ∙ sym c.value_words-value.ensures.payload

pub raise_named-requires-clause-name : goal.raise_named-requires-clause-name
raise_named-requires-clause-name c =
    let a = c.args in
    let k = shape_of a.bank.now in
    let d = (goal.at.raise_named-requires-clause-name c).After-value_words-value in
    let u = view c.value_words-value.new.pass in
    let same = loaded_held (view a.pass.now) u a.from.o c.value_words-value.ensures.only in
    let there = entry_known k a.from.o a.from.table a.from.place u c.value_words-value.ensures.pass.1 (knows_boxed k a.from.o a.from.table (view a.pass.now) u c.requires.pass.1 (loads d) c.requires.other) c.requires.from c.value_words-value.new.pass.possible (kind_is d u same ∙ c.if-value-eq-BOX_KIND.true) in
    subst (λ (z : Shape × ℕ). IsBoxName z.0 z.1) (λ i. (c.value_words-value.ensures.pass.1 i, payload_is d u same i)) there.0

pub raise_named-requires-clause-kept : goal.raise_named-requires-clause-kept
raise_named-requires-clause-kept c =
    let a = c.args in
    let k = shape_of a.bank.now in
    let d = (goal.at.raise_named-requires-clause-kept c).After-value_words-value in
    let u = view c.value_words-value.new.pass in
    let same = loaded_held (view a.pass.now) u a.from.o c.value_words-value.ensures.only in
    subst (λ (b : ℕ). KeepsBox k b u.log) (payload_is d u same)
    (entry_keeps k a.from.o a.from.table a.from.place u c.value_words-value.ensures.pass.1 (knows_boxed k a.from.o a.from.table (view a.pass.now) u c.requires.pass.1 (loads d) c.requires.other) c.requires.from c.value_words-value.new.pass.possible (kind_is d u same ∙ c.if-value-eq-BOX_KIND.true))

one_more : (k : Shape) (v w : View) (b : ℕ) → references_held k b w.log ≡ references_held k b v.log + cond (eqb b b) 1 0 → 0 < references_held k b w.log
one_more k v w b more = let one = hit {A = ℕ} b 1 0 in omega (arith, more, one)

pub put_named-requires-clause-own : goal.put_named-requires-clause-own
put_named-requires-clause-own c four =
    let a = c.args in
    let k = shape_of a.bank.now in
    let at = goal.at.put_named-requires-clause-own c in
    let d = at.After-value_words-value in
    let v = view a.pass.now in
    let u = view c.value_words-value.new.pass in
    let w = view c.raise_named.new.pass in
    let e = c.raise_named.ensures in
    let only = both at.After-raise_named in
    let same = boxed_held v w a.from.o only in
    let known = entry_known k a.from.o a.from.table a.from.place w e.pass.1 (knows_boxed k a.from.o a.from.table v w c.requires.pass.1 only c.requires.other) c.requires.from c.raise_named.new.pass.possible (kind_is d w same ∙ four) in
    let there = subst (λ (b : ℕ). IsKnownBox w b) (payload_is d w same) known in
    let b = c.value_words-value.result.1 in
    (subst (λ (z : Shape). 0 < references_held z b w.log) (sym e.pass.1) (one_more k u w b (e.references b)), there.1, there.2)

-- it reads as the value that was put
reads : (c : After-raise_named) → (kind_read (view c.raise_named.new.pass) c.value_words-value.result.0 c.value_words-value.result.1 ≡ entry_field (slots (class_of (table_id c.args.to.table))) (held_unboxed c.args.to.o (view c.raise_named.new.pass)).table c.args.to.place 4) × (payload_read (view c.raise_named.new.pass) c.value_words-value.result.0 c.value_words-value.result.1 ≡ entry_field (slots (class_of (table_id c.args.to.table))) (held_unboxed c.args.to.o (view c.raise_named.new.pass)).table c.args.to.place 5)
reads c =
    let a = c.args in
    let k = shape_of a.bank.now in
    let v = view a.pass.now in
    let u = view c.value_words-value.new.pass in
    let w = view c.raise_named.new.pass in
    let n = slots (class_of (table_id a.from.table)) in
    let only = boxed_then v u w (loaded_boxed v u c.value_words-value.ensures.only) c.raise_named.ensures.only in
    let same = boxed_held v w a.from.o only in
    let other = c.requires.other in
    let t_same : held_unboxed a.from.o w ≡ held_unboxed a.from.o v = only.unboxed a.from.o (subst (λ (z : Shape). a.from.o < container_count z) (sym c.requires.pass.1) other.container) other.locked in
    let o_same : held_unboxed a.to.o w ≡ held_unboxed a.to.o v = only.unboxed a.to.o (subst (λ (z : Shape). a.to.o < container_count z) (sym c.requires.pass.1) c.requires.writes.container) c.requires.writes.locked in
    let r = entry_reads k a.from.o a.from.table a.from.place w c.raise_named.ensures.pass.1 (knows_boxed k a.from.o a.from.table v w c.requires.pass.1 only other) c.requires.from in
    let kind_now : entry_field n (held_words a.from.o w).table a.from.place 4 ≡ c.value_words-value.result.0 = ap (λ (x : ContainerWords). entry_field n x.table a.from.place 4) same ∙ sym c.value_words-value.ensures.kind in
    let payload_now : entry_field n (held_words a.from.o w).table a.from.place 5 ≡ c.value_words-value.result.1 = ap (λ (x : ContainerWords). entry_field n x.table a.from.place 5) same ∙ sym c.value_words-value.ensures.payload in (
      sym (λ d. kind_read w (kind_now d) (payload_now d)) ∙ (sym r.0 ∙ (ap (λ (x : ContainerWords). entry_field n x.table a.from.place 4) t_same ∙ (sym c.requires.kind ∙ ap (λ (x : ContainerWords). entry_field (slots (class_of (table_id a.to.table))) x.table a.to.place 4) (sym o_same)))),
      sym (λ d. payload_read w (kind_now d) (payload_now d)) ∙ (sym r.1 ∙ (ap (λ (x : ContainerWords). entry_field n x.table a.from.place 5) t_same ∙ (sym c.requires.payload ∙ ap (λ (x : ContainerWords). entry_field (slots (class_of (table_id a.to.table))) x.table a.to.place 5) (sym o_same)))),
    )

pub put_named-requires-clause-kind : goal.put_named-requires-clause-kind
put_named-requires-clause-kind c = (reads (goal.at.put_named-requires-clause-kind c).After-raise_named).0

pub put_named-requires-clause-payload : goal.put_named-requires-clause-payload
put_named-requires-clause-payload c = (reads (goal.at.put_named-requires-clause-payload c).After-raise_named).1

pub returns-then-value-eq-BOX_KIND-clause-only : goal.returns-then-value-eq-BOX_KIND-clause-only
returns-then-value-eq-BOX_KIND-clause-only c =
    let o = c.args.to.o in
    let v = view c.args.pass.now in
    let u = view c.value_words-value.new.pass in
    let w = view c.raise_named.new.pass in
    let z = view c.put_named.new.pass in
    let e = c.raise_named.ensures in
    written_then o v w z (written_then o v u w (put_written o v u (loaded_put v u o c.value_words-value.ensures.only)) (raised_written o u w e.only (record { settled = λ s. e.settled; places = e.places }) e.gains)) c.put_named.ensures.only

pub returns-then-value-eq-BOX_KIND-clause-others : goal.returns-then-value-eq-BOX_KIND-clause-others
returns-then-value-eq-BOX_KIND-clause-others c other word ne low =
    let a = c.args in
    let d = (goal.at.returns-then-value-eq-BOX_KIND-clause-others c).After-raise_named in
    c.put_named.ensures.others other word ne low
    ∙ ap (λ (x : ContainerWords). entry_field (slots (class_of (table_id a.to.table))) x.table other word) (boxed_held (view a.pass.now) (view c.raise_named.new.pass) a.to.o (both d))

pub returns-else-value-eq-BOX_KIND-clause-others : goal.returns-else-value-eq-BOX_KIND-clause-others
returns-else-value-eq-BOX_KIND-clause-others c other word ne low =
    let a = c.args in
    ap (λ (x : ContainerWords). entry_field (slots (class_of (table_id a.to.table))) x.table other word) (loaded_held (view a.pass.now) (view c.value_words-value.new.pass) a.to.o c.value_words-value.ensures.only)
