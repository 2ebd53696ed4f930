-- Which table a dict or a set has once another one is joined to it, and that it has room.
use Rattle.std.proofs.Common.{◌≡◌, ℕ, zero, suc, ◌+◌, ◌*◌, ◌^◌, ◌<◌, ◌≤◌, Bool, true, false, true≢false, length, Option, Some, None, refl, sym, ap, ◌∙◌, subst, arith, lt-ltb, ltb-false, []}
use Rattle.std.specs.Prelude.{◌&&◌, is_some, nat_lt, if◌then◌else◌}
use Rattle.std.specs.Option.{unwrap_or}
use Rattle.ft_model.specs.declared.content.Content.{Content}
use Rattle.ft_model.specs.declared.content.Content.TheVariants as content
use Rattle.ft_model.specs.Classes.{dict_class, dict_entries, set_class, set_entries}
use Rattle.ft_model.specs.TableUses.{TableUse, grown_table, outgrows_dict, outgrows_set, passes_cap}
use Rattle.ft_model.specs.Worlds.{kind_of, length_of, serial_of}
use Rattle.ft_model.proofs.ClassRooms.{dict_fits, set_fits}
use Rattle.ft_keys.specs.declared.walk.Way.{Way}
use Rattle.ft_keys.specs.declared.walk.Way.TheVariants as way
use Rattle.ft_trace.specs.Addresses.{class_of, places}
use Rattle.ft_trace.specs.Kinds.{rows}
use Rattle.ft_trace.specs.ContainerStates.{ContainerState}
use Rattle.ft_bank.specs.declared.table.Table.{Table}
use Rattle.ft_bank.specs.TableNames.{table_id}
use Rattle.ft_search.specs.Rounds.{kind_by}
use Rattle.ft_new_keys.specs.KeyGrowth.{keys_take, most_of, use_of}
use Rattle.ft_new_keys.proofs.Placed.{use_with}
use Rattle.ft_merging.specs.Joining.{join_takes, joined, joined_state, new_keys}

none_if : (b : Bool) (x : ℕ) → (if b then Some x else None) ≡ None → b ≡ false
none_if true x e = absurd (true≢false (ap is_some e))
none_if false x e = refl

some_if : (b : Bool) (x c : ℕ) → (if b then Some x else None) ≡ Some c → x ≡ c
some_if true x c e = ap (λ (z : Option ℕ). unwrap_or z 0) e
some_if false x c e = absurd (true≢false (sym (ap is_some e)))

-- either none is more, or they aren't too many
more_or : (more : ℕ) (b : Bool) → (nat_lt 0 more && b) ≡ false → (nat_lt 0 more ≡ false → more ≡ 0) → (more ≡ 0 → ⊥) → b ≡ false
more_or more b is none some = by (nat_lt 0 more) refl
  where
    by : (c : Bool) → nat_lt 0 more ≡ c → b ≡ false
    by true e = sym (ap (λ (z : Bool). z && b) e) ∙ is
    by false e = absurd (some (none e))

-- where it takes no table its own has room
pub keys_room : (d : Content) (by : Way) (t : Table) (fill more : ℕ) → kind_of d ≡ kind_by by → fill ≤ rows (kind_by by) t.class → keys_take d (use_of (Some t) fill) more ≡ None → fill + more ≤ rows (kind_by by) t.class
unfolding places
keys_room (content.Dict pairs) way.Dict t fill zero same low none = omega (arith, low)
keys_room (content.Dict pairs) way.Dict t fill (suc more) same low none =
    let full : nat_lt (dict_entries t.class) (fill + suc more) ≡ false = more_or (suc more) _ (none_if (outgrows_dict (use_of (Some t) fill) (suc more)) (dict_class (length pairs.pairs + suc more)) none) (λ e. absurd (let z = ltb-false 0 (suc more) e in omega (arith, z))) (λ e. omega (arith, e)) in
    let room = ltb-false (dict_entries t.class) (fill + suc more) full in
    omega (arith, room)
keys_room (content.Set elements) way.Set t fill zero same low none = omega (arith, low)
keys_room (content.Set elements) way.Set t fill (suc more) same low none =
    let full : nat_lt (3 * 2 ^ t.class) (5 * (fill + suc more)) ≡ false = more_or (suc more) _ (none_if (outgrows_set (use_of (Some t) fill) (suc more)) (set_class (length elements.elements + suc more)) none) (λ e. absurd (let z = ltb-false 0 (suc more) e in omega (arith, z))) (λ e. omega (arith, e)) in
    let room = ltb-false (3 * 2 ^ t.class) (5 * (fill + suc more)) full in
    omega (arith, room)
keys_room (content.Dict pairs) way.Set t fill more same low none = absurd (cc)
keys_room (content.Set elements) way.Dict t fill more same low none = absurd (cc)
keys_room (content.List values) way.Dict t fill more same low none = absurd (cc)
keys_room (content.Deque deque) way.Dict t fill more same low none = absurd (cc)
keys_room (content.List values) way.Set t fill more same low none = absurd (cc)
keys_room (content.Deque deque) way.Set t fill more same low none = absurd (cc)

-- and a new one has
pub taken_room : (d : Content) (by : Way) (was : TableUse) (class more : ℕ) → kind_of d ≡ kind_by by → length_of d + more ≤ most_of d → keys_take d was more ≡ Some class → length_of d + more ≤ rows (kind_by by) class
unfolding places
taken_room (content.Dict pairs) way.Dict was class more same few takes =
    let is = some_if (outgrows_dict was more) (dict_class (length pairs.pairs + more)) class takes in
    let fits = (dict_fits (length pairs.pairs + more) few).1 in
    subst (λ (c : ℕ). length pairs.pairs + more ≤ dict_entries c) is fits
taken_room (content.Set elements) way.Set was class more same few takes =
    let is = some_if (outgrows_set was more) (set_class (length elements.elements + more)) class takes in
    let fits = (set_fits (length elements.elements + more) few).1 in
    subst (λ (c : ℕ). length elements.elements + more ≤ set_entries c) is fits
taken_room (content.Dict pairs) way.Set was class more same few takes = absurd (cc)
taken_room (content.Set elements) way.Dict was class more same few takes = absurd (cc)
taken_room (content.List values) way.Dict was class more same few takes = absurd (cc)
taken_room (content.Deque deque) way.Dict was class more same few takes = absurd (cc)
taken_room (content.List values) way.Set was class more same few takes = absurd (cc)
taken_room (content.Deque deque) way.Set was class more same few takes = absurd (cc)

-- a container without a table takes one for a new key
pub bare_none : (d : Content) (by : Way) (fill more : ℕ) → kind_of d ≡ kind_by by → keys_take d (use_of None fill) more ≡ None → more ≡ 0
bare_none d by fill zero same none = refl
bare_none (content.Dict pairs) way.Dict fill (suc more) same none = absurd (true≢false (none_if true (dict_class (length pairs.pairs + suc more)) (sym (by_true (suc more) (omega arith)) ∙ none)))
  where
    by_true : (n : ℕ) → 0 < n → (if nat_lt 0 n && true then Some (dict_class (length pairs.pairs + suc more)) else None) ≡ Some (dict_class (length pairs.pairs + suc more))
    by_true n some = ap (λ (b : Bool). if b && true then Some (dict_class (length pairs.pairs + suc more)) else None) (lt-ltb 0 n some)
bare_none (content.Set elements) way.Set fill (suc more) same none = absurd (true≢false (none_if true (set_class (length elements.elements + suc more)) (sym (by_true (suc more) (omega arith)) ∙ none)))
  where
    by_true : (n : ℕ) → 0 < n → (if nat_lt 0 n && true then Some (set_class (length elements.elements + suc more)) else None) ≡ Some (set_class (length elements.elements + suc more))
    by_true n some = ap (λ (b : Bool). if b && true then Some (set_class (length elements.elements + suc more)) else None) (lt-ltb 0 n some)
bare_none (content.Dict pairs) way.Set fill (suc more) same none = absurd (cc)
bare_none (content.Set elements) way.Dict fill (suc more) same none = absurd (cc)
bare_none (content.List values) way.Dict fill (suc more) same none = absurd (cc)
bare_none (content.Deque deque) way.Dict fill (suc more) same none = absurd (cc)
bare_none (content.List values) way.Set fill (suc more) same none = absurd (cc)
bare_none (content.Deque deque) way.Set fill (suc more) same none = absurd (cc)

-- ---- the table that it has then

pub stays_table : (kept : ContainerState) (others : Content) (own : Table) (fill more : ℕ) → kept.table ≡ use_of (Some own) fill → join_takes kept others ≡ None → more ≡ new_keys kept.content others → class_of (table_id own) ≡ own.class → (joined_state kept others).table ≡ use_with (class_of (table_id own)) (fill + more)
stays_table kept others own fill more is none more_is same =
    ap (λ (z : Option ℕ). grown_table kept.table z (new_keys kept.content others) (length_of (joined kept.content others))) none
    ∙ (λ i. record { class = (ap (λ (z : TableUse). z.class) is ∙ ap (λ (n : ℕ). Some n) (sym same)) i; fill = (is i).fill + sym more_is i; keys = (is i).keys })

pub taken_table : (kept : ContainerState) (others : Content) (class count : ℕ) → join_takes kept others ≡ Some class → length_of (joined kept.content others) ≡ count → (joined_state kept others).table ≡ use_with class count
taken_table kept others class count takes all =
    ap (λ (z : Option ℕ). grown_table kept.table z (new_keys kept.content others) (length_of (joined kept.content others))) takes ∙ (λ i. record { class = Some class; fill = all i; keys = [] })

-- ---- where nothing is new

pub same_kept : (kept : ContainerState) (others : Content) → joined kept.content others ≡ kept.content → (joined_state kept others ≡ kept) × (join_takes kept others ≡ None)
same_kept kept others same =
    let n : new_keys kept.content others ≡ 0 = let s = ap serial_of same in omega (arith, s) in
    let none : join_takes kept others ≡ None = ap (keys_take kept.content kept.table) n ∙ takes_none kept.content kept.table in
    let fill : kept.table.fill + new_keys kept.content others ≡ kept.table.fill = omega (arith, n) in
    let table : (joined_state kept others).table ≡ kept.table = ap (λ (z : Option ℕ). grown_table kept.table z (new_keys kept.content others) (length_of (joined kept.content others))) none ∙ (λ i. record { class = kept.table.class; fill = fill i; keys = kept.table.keys }) in
    ((λ i. record { content = same i; table = table i }), none)
  where
    takes_none : (d : Content) (was : TableUse) → keys_take d was 0 ≡ None
    takes_none (content.Dict pairs) was = refl
    takes_none (content.Set elements) was = refl
    takes_none (content.List values) was = refl
    takes_none (content.Deque deque) was = refl

-- whether there are too many, by how many there are
pub cap_is : (d : Content) → passes_cap d ≡ nat_lt (most_of d) (length_of d)
cap_is (content.Dict pairs) = refl
cap_is (content.Set elements) = refl
cap_is (content.List values) = refl
cap_is (content.Deque deque) = refl

pub most_joined : (d others : Content) → most_of (joined d others) ≡ most_of d
most_joined (content.Dict pairs) others = refl
most_joined (content.Set elements) others = refl
most_joined (content.List values) others = refl
most_joined (content.Deque deque) others = refl

pub kind_joined : (d others : Content) → kind_of (joined d others) ≡ kind_of d
kind_joined (content.Dict pairs) others = refl
kind_joined (content.Set elements) others = refl
kind_joined (content.List values) others = refl
kind_joined (content.Deque deque) others = refl
