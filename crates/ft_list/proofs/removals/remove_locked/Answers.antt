use Rattle.std.proofs.Common.{◌≡◌, ◌<◌, List, length, Some, None, refl, sym, ap, ◌∙◌, subst, arith}
use Rattle.std.specs.List.{remove}
use Rattle.std.proofs.lemmas.Option.{none-some}
use Rattle.ft_model.specs.declared.call.ListCall.TheVariants as list
use Rattle.ft_model.specs.declared.data.Value.{Value}
use Rattle.ft_model.specs.declared.reply.Reply.TheVariants as reply
use Rattle.ft_model.specs.declared.reply.Raise.TheVariants as raise
use Rattle.ft_model.specs.Lists.{index_of}
use Rattle.ft_trace.specs.declared.Shape.{Shape}
use Rattle.ft_trace.specs.Addresses.{container_count}
use Rattle.ft_bank.specs.Passes.{shape_of, view}
use Rattle.ft_bank.proofs.KnownAfterWrites.{loaded_then}
use Rattle.ft_list.specs.ListItemWrites.{known_items}
use Rattle.ft_list.proofs.ListCallFacts.{remove_changes}
use Rattle.ft_list.proofs.Lists.{content_of, items_loaded}
use Rattle.ft_list.proofs.Raising.{remove_raises}
use Rattle.ft_list.proofs.Scanning.{items_hold, scan_loaded, scan_may, scan_log}
use Rattle.ft_list.proofs.ListMidst.{wrote_as, raised_as}
use Rattle.ft_list.proofs.ValueLists.{first_low}
use Rattle.ft_list.proofs.removals.remove_locked.Goals as goal

pub table_of-table-requires-clause-may : goal.table_of-table-requires-clause-may
table_of-table-requires-clause-may c =
    let a = c.args in
    let k = shape_of a.bank.now in
    scan_may k a.l (λ items. c.first_equal.result ≡ index_of items a.value) a.pass.now c.first_equal.new.pass c.first_equal.ensures.reads c.requires.pass.1 c.requires.may

pub table_of-table-requires-clause-some : goal.table_of-table-requires-clause-some
table_of-table-requires-clause-some c none =
    let a = c.args in
    let k = shape_of a.bank.now in
    let p = a.pass.now in
    let q = c.first_equal.new.pass in
    let r = c.first_equal.ensures.reads in
    let is = items_hold k a.l (λ items. c.first_equal.result ≡ index_of items a.value) p q r c.requires.pass.1 c.requires.may in
    let low = first_low (known_items a.l (view p)) a.value c.in-Some.place (sym is ∙ c.in-Some.is) in
    let same = items_loaded a.l (view p) (view q) (scan_loaded k a.l (λ items. c.first_equal.result ≡ index_of items a.value) p q r c.requires.pass.1 c.requires.may) in
    let long = ap length same in
    omega (arith, low, none, long)

pub remove_item-number-requires-clause-place : goal.remove_item-number-requires-clause-place
remove_item-number-requires-clause-place c =
    let a = c.args in
    let k = shape_of a.bank.now in
    let p = a.pass.now in
    let q = c.first_equal.new.pass in
    let r = c.first_equal.ensures.reads in
    let found = c.first_equal.result in
    let is = items_hold k a.l (λ items. found ≡ index_of items a.value) p q r c.requires.pass.1 c.requires.may in
    let loaded = scan_loaded k a.l (λ items. found ≡ index_of items a.value) p q r c.requires.pass.1 c.requires.may in
    let n = view c.count_of-count.new.pass in
    let e = c.count_of-count.ensures in
    let values = known_items a.l n in
    let items : values ≡ known_items a.l (view p) = e.items ∙ (c.table_of-table.ensures.items ∙ items_loaded a.l (view p) (view q) loaded) in
    let means : index_of values a.value ≡ Some c.in-Some.place = ap (λ (l : List Value). index_of l a.value) items ∙ (sym is ∙ c.in-Some.is) in
    let low : a.l < container_count n.shape = subst (λ (z : Shape). a.l < container_count z) (sym e.pass.1) e.may.container in
    let inside = first_low values a.value c.in-Some.place means in
    let count : c.count_of-count.result ≡ length values = e.count ∙ sym (ap length e.items) in
    omega (arith, inside, count)

pub remove_item-number-requires-clause-call : goal.remove_item-number-requires-clause-call
remove_item-number-requires-clause-call c =
    let a = c.args in
    let k = shape_of a.bank.now in
    let p = a.pass.now in
    let q = c.first_equal.new.pass in
    let r = c.first_equal.ensures.reads in
    let found = c.first_equal.result in
    let is = items_hold k a.l (λ items. found ≡ index_of items a.value) p q r c.requires.pass.1 c.requires.may in
    let loaded = scan_loaded k a.l (λ items. found ≡ index_of items a.value) p q r c.requires.pass.1 c.requires.may in
    let n = view c.count_of-count.new.pass in
    let e = c.count_of-count.ensures in
    let values = known_items a.l n in
    let items : values ≡ known_items a.l (view p) = e.items ∙ (c.table_of-table.ensures.items ∙ items_loaded a.l (view p) (view q) loaded) in
    let means : index_of values a.value ≡ Some c.in-Some.place = ap (λ (l : List Value). index_of l a.value) items ∙ (sym is ∙ c.in-Some.is) in
    let low : a.l < container_count n.shape = subst (λ (z : Shape). a.l < container_count z) (sym e.pass.1) e.may.container in
    (list.Remove a.value, refl, remove_changes a.l a.value values c.in-Some.place n low e.may.locked (content_of k a.l n e.pass.1 c.count_of-count.new.pass.possible e.may) c.value_fits.ensures means)

pub raise-stamp-requires-clause-may : goal.raise-stamp-requires-clause-may
raise-stamp-requires-clause-may c =
    let a = c.args in
    let k = shape_of a.bank.now in
    scan_may k a.l (λ items. c.first_equal.result ≡ index_of items a.value) a.pass.now c.first_equal.new.pass c.first_equal.ensures.reads c.requires.pass.1 c.requires.may

pub raise-stamp-requires-clause-call : goal.raise-stamp-requires-clause-call
raise-stamp-requires-clause-call c =
    let a = c.args in
    let k = shape_of a.bank.now in
    let p = a.pass.now in
    let q = c.first_equal.new.pass in
    let r = c.first_equal.ensures.reads in
    let found = c.first_equal.result in
    let is = items_hold k a.l (λ items. found ≡ index_of items a.value) p q r c.requires.pass.1 c.requires.may in
    let loaded = scan_loaded k a.l (λ items. found ≡ index_of items a.value) p q r c.requires.pass.1 c.requires.may in
    let none : index_of (known_items a.l (view q)) a.value ≡ None = ap (λ (l : List Value). index_of l a.value) (items_loaded a.l (view p) (view q) loaded) ∙ (sym is ∙ c.in-None.is) in
    (list.Remove a.value, refl, remove_raises a.l a.value (known_items a.l (view q)) none)

pub returns-in-Some-clause-made : goal.returns-in-Some-clause-made
returns-in-Some-clause-made c =
    let a = c.args in
    let k = shape_of a.bank.now in
    let p = a.pass.now in
    let q = c.first_equal.new.pass in
    let r = c.first_equal.ensures.reads in
    let found = c.first_equal.result in
    let is = items_hold k a.l (λ items. found ≡ index_of items a.value) p q r c.requires.pass.1 c.requires.may in
    let loaded = scan_loaded k a.l (λ items. found ≡ index_of items a.value) p q r c.requires.pass.1 c.requires.may in
    let n = view c.count_of-count.new.pass in
    let e = c.count_of-count.ensures in
    let values = known_items a.l n in
    let items : values ≡ known_items a.l (view p) = e.items ∙ (c.table_of-table.ensures.items ∙ items_loaded a.l (view p) (view q) loaded) in
    let means : index_of values a.value ≡ Some c.in-Some.place = ap (λ (l : List Value). index_of l a.value) items ∙ (sym is ∙ c.in-Some.is) in
    let low : a.l < container_count n.shape = subst (λ (z : Shape). a.l < container_count z) (sym e.pass.1) e.may.container in
    let only = loaded_then (view p) (view q) n loaded (loaded_then (view q) (view c.table_of-table.new.pass) n c.table_of-table.ensures.only e.only) in
    wrote_as k a.l (list.Remove a.value) reply.Done (view p) n (view c.remove_item-number.new.pass) e.pass.1 c.count_of-count.new.pass.possible e.may only c.remove_item-number.result (remove values c.in-Some.place)
    (remove_changes a.l a.value values c.in-Some.place n low e.may.locked (content_of k a.l n e.pass.1 c.count_of-count.new.pass.possible e.may) c.value_fits.ensures means) c.remove_item-number.ensures.wrote c.remove_item-number.ensures.root c.remove_item-number.ensures.references

pub returns-in-Some-clause-raises : goal.returns-in-Some-clause-raises
returns-in-Some-clause-raises c none =
    let a = c.args in
    let k = shape_of a.bank.now in
    let p = a.pass.now in
    let q = c.first_equal.new.pass in
    let r = c.first_equal.ensures.reads in
    let found = c.first_equal.result in
    let is = items_hold k a.l (λ items. found ≡ index_of items a.value) p q r c.requires.pass.1 c.requires.may in
    let loaded = scan_loaded k a.l (λ items. found ≡ index_of items a.value) p q r c.requires.pass.1 c.requires.may in
    absurd (none-some c.in-Some.place (sym none ∙ (sym is ∙ c.in-Some.is)))

pub returns-in-None-clause-made : goal.returns-in-None-clause-made
returns-in-None-clause-made c =
    let a = c.args in
    let k = shape_of a.bank.now in
    let p = a.pass.now in
    let q = c.first_equal.new.pass in
    let r = c.first_equal.ensures.reads in
    let found = c.first_equal.result in
    let is = items_hold k a.l (λ items. found ≡ index_of items a.value) p q r c.requires.pass.1 c.requires.may in
    let loaded = scan_loaded k a.l (λ items. found ≡ index_of items a.value) p q r c.requires.pass.1 c.requires.may in
    let none : index_of (known_items a.l (view q)) a.value ≡ None = ap (λ (l : List Value). index_of l a.value) (items_loaded a.l (view p) (view q) loaded) ∙ (sym is ∙ c.in-None.is) in
    raised_as k a.l (list.Remove a.value) (reply.Raised raise.NoValue) (view p) (view q) (view c.raise-stamp.new.pass) c.first_equal.ensures.pass.1 q.possible (scan_may k a.l (λ items. found ≡ index_of items a.value) p q r c.requires.pass.1 c.requires.may) loaded
    c.raise-stamp.result r.0 (scan_log k a.l (λ items. found ≡ index_of items a.value) p q r c.requires.pass.1 c.requires.may) (remove_raises a.l a.value (known_items a.l (view q)) none) c.raise-stamp.ensures.wrote c.raise-stamp.ensures.answered

pub returns-in-None-clause-done : goal.returns-in-None-clause-done
returns-in-None-clause-done c place some =
    let a = c.args in
    let k = shape_of a.bank.now in
    let p = a.pass.now in
    let q = c.first_equal.new.pass in
    let r = c.first_equal.ensures.reads in
    let found = c.first_equal.result in
    let is = items_hold k a.l (λ items. found ≡ index_of items a.value) p q r c.requires.pass.1 c.requires.may in
    let loaded = scan_loaded k a.l (λ items. found ≡ index_of items a.value) p q r c.requires.pass.1 c.requires.may in
    absurd (none-some place (sym c.in-None.is ∙ (is ∙ some)))
