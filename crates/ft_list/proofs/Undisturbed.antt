-- While a pass has the floor, no item that it reads without the lock changes.
use Rattle.std.proofs.Common.{◌≡◌, ◌<◌, ◌%◌, ℕ, suc, refl, sym, ap, ◌∙◌, subst, ⊎_elim, arith}
use Rattle.ft_model.specs.declared.script.Kind.{Kind}
use Rattle.ft_model.specs.declared.script.Kind.TheVariants as kind
use Rattle.ft_trace.specs.declared.Act.TheVariants.{ReadRoot, ReadTable, Version}
use Rattle.ft_trace.specs.Addresses.{cell, class_of, slots, version_of}
use Rattle.ft_trace.specs.Boxes.{value_at}
use Rattle.ft_trace.specs.Kinds.{IsItems, rows, version_at}
use Rattle.ft_trace.specs.LoggedReads.{Among}
use Rattle.ft_trace.specs.Traces.{word}
use Rattle.ft_trace.specs.Pictures.{item_offset}
use Rattle.ft_trace.specs.ContainerStates.{kind_in}
use Rattle.ft_search.specs.KeyLooks.{StopsAtContainer}
use Rattle.ft_search.proofs.Undisturbed.{both_same, count_stays, even_now, even_row, not_moved}
use Rattle.ft_list.specs.Floors.{FloorItemsStand}
use Rattle.ft_list.specs.ItemLooks.{StopsAtItem, StopsAtItemBox, StopsItemByVersion}

items_at : (kind : Kind) → IsItems kind → (c index : ℕ) → (version_at kind c index ≡ item_offset index 0) × (item_offset index 1 ≡ value_at kind c index)
items_at kind.Dict is c index = absurd is
items_at kind.Set is c index = absurd is
items_at kind.List is c index = (refl, refl)
items_at (kind.Deque bound) is c index = absurd is

items_rows : (kind : Kind) → IsItems kind → (c : ℕ) → rows kind c ≡ slots c
items_rows kind.Dict is c = absurd is
items_rows kind.Set is c = absurd is
items_rows kind.List is c = refl
items_rows (kind.Deque bound) is c = absurd is

pub floor_items_stand : FloorItemsStand
floor_items_stand w part p l o index a b low items stops =
    ⊎_elim
    (λ (v : StopsItemByVersion o index a b part).
    ⊎_elim
    (λ (x : (t : ℕ) × Among (ReadRoot o (suc t)) part × StopsAtItem t index a b part).
    let t = x.0 in
    let e = x.2 in
    let n = item_offset index 0 in
    let k = kind_in w.shape.starts o in
    let found = both_same w part p l e.newer e.mid e.rest (ReadTable t n a) (ReadTable t n b) tt tt e.is in
    let even = even_row w part p l o t index low x.1 (subst (λ (z : ℕ). index < z) (sym (items_rows k items (class_of t))) e.low) in
    not_moved (word w.shape p.0 (cell t n)) a b (ap (λ (z : ℕ). word w.shape p.0 (cell t z) % 2) (sym (items_at k items (class_of t) index).0) ∙ even) found.1 found.0 e.moved)
    (λ (x : StopsAtContainer o a b part).
    let found = both_same w part p l x.newer x.mid x.rest (Version o a) (Version o b) tt tt x.is in
    not_moved (word w.shape p.0 (version_of o)) a b (even_now w part p l o low) found.1 found.0 x.moved) v)
    (λ (x : (t : ℕ) × Among (ReadRoot o (suc t)) part × StopsAtItemBox t index a b part).
    let t = x.0 in
    let e = x.2 in
    let n = item_offset index in
    let k = kind_in w.shape.starts o in
    count_stays w part p l o t index (n 1) (n 2) e.box a b e.newer e.mid e.rest (ReadTable t (n 0) e.version) (ReadTable t (n 0) e.version) low x.1
    (subst (λ (z : ℕ). index < z) (sym (items_rows k items (class_of t))) e.low)
    (items_at k items (class_of t) index).1
    (omega arith) e.is e.names e.count) stops
