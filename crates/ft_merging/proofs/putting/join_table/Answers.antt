use Rattle.std.proofs.Common.{◌≡◌, ◌<◌, ℕ, suc, sym, ap, ◌∙◌, subst, arith, inl, inr, ⊎_elim}
use Rattle.ft_trace.specs.declared.Shape.{Shape}
use Rattle.ft_trace.specs.declared.View.{View}
use Rattle.ft_trace.specs.Addresses.{class_of, container_count, slots}
use Rattle.ft_trace.specs.BoxWords.{box_kind}
use Rattle.ft_trace.specs.Carefuls.{HasLiveKey}
use Rattle.ft_trace.specs.Holds.{held_words, held_unboxed}
use Rattle.ft_trace.specs.Pictures.{ContainerWords, entry_field, root_in}
use Rattle.ft_bank.specs.Passes.{shape_of, view}
use Rattle.ft_bank.specs.BoxSteps.{box_id}
use Rattle.ft_bank.specs.TableNames.{table_id}
use Rattle.ft_bank.proofs.KnownAfterWrites.{work_knows}
use Rattle.ft_search.specs.HeldValues.{NamesBoxAt}
use Rattle.ft_merging.specs.Joining.{HaveEqual}
use Rattle.ft_merging.proofs.SharedKeys.{equal_same, live_used, names_on}
use Rattle.ft_new_keys.proofs.Placed.{refs_then}
use Rattle.ft_merging.proofs.putting.join_table.Goals as goal

pub finish_entries-requires-clause-may : goal.finish_entries-requires-clause-may
finish_entries-requires-clause-may c = c.requires.finishes (view c.join_all.new.pass) c.join_all.result c.join_all.ensures.only c.join_all.ensures.joining

pub finish_entries-requires-clause-fill : goal.finish_entries-requires-clause-fill
finish_entries-requires-clause-fill c = c.join_all.ensures.joining.room

pub returns-clause-ends : goal.returns-clause-ends
returns-clause-ends c = (view c.join_all.new.pass, c.join_all.ensures.only, c.join_all.ensures.joining.midway.writes.root, c.finish_entries.ensures.ends)

pub returns-clause-references : goal.returns-clause-references
returns-clause-references c =
    refs_then (view c.args.pass.now) (view c.join_all.new.pass) (view c.finish_entries.new.pass) c.join_all.ensures.references c.finish_entries.ensures.references

pub returns-clause-shares : goal.returns-clause-shares
returns-clause-shares c dicts key b fits named =
    let a = c.args in
    let k = shape_of a.bank.now in
    let v = view a.pass.now in
    let u = view c.join_all.new.pass in
    let w = view c.finish_entries.new.pass in
    let e = c.join_all.ensures in
    let f = c.finish_entries.ensures in
    let r = c.requires.other in
    let tid = table_id a.table in
    let words = e.only.others a.t (subst (λ (z : Shape). a.t < container_count z) (sym c.requires.pass.1) r.container) (λ eq. c.requires.two (sym eq)) r.locked r.even in
    let mine = work_knows v u a.o e.only.work in
    let other = work_knows v u a.t e.only.work in
    let there = r.root in
    let root = named.root in
    let same : named.table ≡ tid = omega (arith, there, root) in
    let live_v : HasLiveKey (slots (class_of tid)) (held_unboxed a.t v).table named.place key = subst (λ (i : ℕ). HasLiveKey (slots (class_of i)) (held_unboxed a.t v).table named.place key) same named.live in
    let live_u : HasLiveKey (slots (class_of tid)) (held_unboxed a.t u).table named.place key = subst (λ (x : ContainerWords). HasLiveKey (slots (class_of tid)) x.table named.place key) (sym words.1) live_v in
    let four_v : entry_field (slots (class_of tid)) (held_words a.t v).table named.place 4 ≡ box_kind = subst (λ (i : ℕ). entry_field (slots (class_of i)) (held_words a.t v).table named.place 4 ≡ box_kind) same named.kind in
    let box_v : entry_field (slots (class_of tid)) (held_words a.t v).table named.place 5 ≡ box_id b = subst (λ (i : ℕ). entry_field (slots (class_of i)) (held_words a.t v).table named.place 5 ≡ box_id b) same named.payload in
    let low = live_used c.used_entries_follow_a_dict.ensures.first k a.t tid v c.requires.pass.1 a.pass.now.possible r.locked r.stands r.root (c.requires.other_way ∙ dicts) named.place key live_v in
    let full = c.requires.fill in
    let shares = e.shares dicts named.place key b (omega (arith, low, full)) fits live_u (ap (λ (x : ContainerWords). entry_field (slots (class_of tid)) x.table named.place 4) words.0 ∙ four_v) (ap (λ (x : ContainerWords). entry_field (slots (class_of tid)) x.table named.place 5) words.0 ∙ box_v) in
    let finishes = c.requires.finishes u c.join_all.result e.only e.joining in
    let writes = e.joining.midway.writes in
    let root_w : root_in (held_words a.o w) ≡ suc (table_id a.own) = subst (λ (n : ℕ). root_in (held_words n w) ≡ root_in (held_words n u)) finishes.changed f.ends.root ∙ writes.root in
    ⊎_elim (λ (n : NamesBoxAt a.o key b u). inl (names_on k a.o (table_id a.own) u w e.pass.1 f.pass.1 writes.keyed writes.root root_w key b n (λ word some_ few. f.keeps n.place word some_ few)))
    (λ (x : HaveEqual a.o a.t key u). inr (equal_same a.o a.t key u v (sym mine) (sym other) x)) shares
