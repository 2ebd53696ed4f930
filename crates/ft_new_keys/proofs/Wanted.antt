-- Which table a dict or a set takes for one more key, by the table that it has.
use Rattle.std.proofs.Common.{◌≡◌, ◌≢◌, ℕ, ◌+◌, ◌*◌, ◌^◌, ◌<◌, ◌≤◌, Bool, true, false, true≢false, length, Option, Some, None, refl, sym, ap, ◌∙◌, subst, arith, le-ltb, ltb-false, []}
use Rattle.std.specs.Prelude.{is_some, nat_lt, if◌then◌else◌}
use Rattle.std.specs.Option.{unwrap_or}
use Rattle.ft_model.specs.declared.content.Content.{Content}
use Rattle.ft_model.specs.declared.content.Content.TheVariants as content
use Rattle.ft_model.specs.Classes.{dict_class, dict_entries, set_class, set_entries}
use Rattle.ft_model.specs.TableUses.{TableUse, grown_table, outgrows_dict, outgrows_set}
use Rattle.ft_model.specs.Worlds.{kind_of, length_of}
use Rattle.ft_model.proofs.ClassRooms.{dict_fits, set_fits}
use Rattle.ft_keys.specs.declared.walk.Way.{Way}
use Rattle.ft_keys.specs.declared.walk.Way.TheVariants as way
use Rattle.ft_trace.specs.Addresses.{class_of, places}
use Rattle.ft_trace.specs.Kinds.{rows}
use Rattle.ft_bank.specs.declared.table.Table.{Table}
use Rattle.ft_bank.specs.TableNames.{table_id}
use Rattle.ft_search.specs.Rounds.{kind_by}
use Rattle.ft_new_keys.specs.KeyGrowth.{key_takes, most_of, use_of}

if_some : (b : Bool) (x c : ℕ) → (if b then Some x else None) ≡ Some c → (b ≡ true) × (x ≡ c)
if_some true x c e = (refl, ap (λ (z : Option ℕ). unwrap_or z 0) e)
if_some false x c e = absurd (true≢false (sym (ap is_some e)))

if_none : (b : Bool) (x : ℕ) → (if b then Some x else None) ≡ None → b ≡ false
if_none true x e = absurd (true≢false (ap is_some e))
if_none false x e = refl

-- where it takes none it has room
pub takes_none : (d : Content) (by : Way) (t : Table) (fill : ℕ) → kind_of d ≡ kind_by by → key_takes d (use_of (Some t) fill) ≡ None → fill < rows (kind_by by) t.class
unfolding places
takes_none (content.Dict pairs) way.Dict t fill same none =
    let full : nat_lt (dict_entries t.class) (fill + 1) ≡ false = if_none (outgrows_dict (use_of (Some t) fill) 1) (dict_class (length pairs.pairs + 1)) none in
    let room = ltb-false (dict_entries t.class) (fill + 1) full in
    omega (arith, room)
takes_none (content.Set elements) way.Set t fill same none =
    let full : nat_lt (3 * 2 ^ t.class) (5 * (fill + 1)) ≡ false = if_none (outgrows_set (use_of (Some t) fill) 1) (set_class (length elements.elements + 1)) none in
    let room = ltb-false (3 * 2 ^ t.class) (5 * (fill + 1)) full in
    omega (arith, room)
takes_none (content.Dict pairs) way.Set t fill same none = absurd (cc)
takes_none (content.Set elements) way.Dict t fill same none = absurd (cc)
takes_none (content.List values) way.Dict t fill same none = absurd (cc)
takes_none (content.Deque deque) way.Dict t fill same none = absurd (cc)
takes_none (content.List values) way.Set t fill same none = absurd (cc)
takes_none (content.Deque deque) way.Set t fill same none = absurd (cc)

-- without a table it takes one
pub bare_takes : (d : Content) (by : Way) (fill : ℕ) → kind_of d ≡ kind_by by → key_takes d (use_of None fill) ≢ None
bare_takes (content.Dict pairs) way.Dict fill same none = true≢false (if_none true (dict_class (length pairs.pairs + 1)) none)
bare_takes (content.Set elements) way.Set fill same none = true≢false (if_none true (set_class (length elements.elements + 1)) none)
bare_takes (content.Dict pairs) way.Set fill same none = absurd (cc)
bare_takes (content.Set elements) way.Dict fill same none = absurd (cc)
bare_takes (content.List values) way.Dict fill same none = absurd (cc)
bare_takes (content.Deque deque) way.Dict fill same none = absurd (cc)
bare_takes (content.List values) way.Set fill same none = absurd (cc)
bare_takes (content.Deque deque) way.Set fill same none = absurd (cc)

-- the table that it takes has room for what it has and the new key
pub takes_room : (d : Content) (by : Way) (was : TableUse) (class : ℕ) → kind_of d ≡ kind_by by → length_of d < most_of d → key_takes d was ≡ Some class → length_of d < rows (kind_by by) class
unfolding places
takes_room (content.Dict pairs) way.Dict was class same few takes =
    let is = (if_some (outgrows_dict was 1) (dict_class (length pairs.pairs + 1)) class takes).1 in
    let fits = (dict_fits (length pairs.pairs + 1) (omega (arith, few))).1 in
    subst (λ (c : ℕ). length pairs.pairs < dict_entries c) is (omega (arith, fits))
takes_room (content.Set elements) way.Set was class same few takes =
    let is = (if_some (outgrows_set was 1) (set_class (length elements.elements + 1)) class takes).1 in
    let fits = (set_fits (length elements.elements + 1) (omega (arith, few))).1 in
    subst (λ (c : ℕ). length elements.elements < set_entries c) is (omega (arith, fits))
takes_room (content.Dict pairs) way.Set was class same few takes = absurd (cc)
takes_room (content.Set elements) way.Dict was class same few takes = absurd (cc)
takes_room (content.List values) way.Dict was class same few takes = absurd (cc)
takes_room (content.Deque deque) way.Dict was class same few takes = absurd (cc)
takes_room (content.List values) way.Set was class same few takes = absurd (cc)
takes_room (content.Deque deque) way.Set was class same few takes = absurd (cc)

-- ---- the table that it has then

pub stays_use : (d : Content) (t : Table) (fill : ℕ) (was : TableUse) → was ≡ use_of (Some t) fill → key_takes d was ≡ None → class_of (table_id t) ≡ t.class → grown_table was (key_takes d was) 1 (length_of d + 1) ≡ record { class = Some (class_of (table_id t)); fill = fill + 1; keys = [] }
stays_use d t fill was is none same =
    ap (λ (z : Option ℕ). grown_table was z 1 (length_of d + 1)) none ∙ (λ i. record { class = (ap (λ (z : TableUse). z.class) is ∙ ap (λ (n : ℕ). Some n) (sym same)) i; fill = (is i).fill + 1; keys = (is i).keys })

pub grown_use : (d : Content) (class : ℕ) (was : TableUse) → key_takes d was ≡ Some class → grown_table was (key_takes d was) 1 (length_of d + 1) ≡ record { class = Some class; fill = length_of d + 1; keys = [] }
grown_use d class was takes = ap (λ (z : Option ℕ). grown_table was z 1 (length_of d + 1)) takes

-- ---- how many keys there may be

pub most_few : (d : Content) → most_of d ≤ 65536
most_few (content.Dict pairs) = omega arith
most_few (content.Set elements) = omega arith
most_few (content.List values) = omega arith
most_few (content.Deque deque) = omega arith

pub passes_not : (d : Content) → length_of d < most_of d → nat_lt (most_of d) (length_of d + 1) ≡ false
passes_not d few = le-ltb (most_of d) (length_of d + 1) (omega (arith, few))
