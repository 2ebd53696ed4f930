-- Where the words of a table lie, as searches count them and as the bank does.
use Rattle.std.proofs.Common.{◌≡◌, ℕ, zero, suc, ◌+◌, ◌*◌, ◌/◌, ◌^◌, ◌<◌, ◌≤◌, Bool, true, false, List, [], ◌∷◌, ◌++◌, drop, refl, sym, ap, ◌∙◌, arith}
use Rattle.std.specs.Prelude.{nat_le, if◌then◌else◌}
use Rattle.std.specs.List.{range_with_len}
use Rattle.std.proofs.Math.Nat.{pow-suc}
use Rattle.std.proofs.Math.Pow.{pow_mono}
use Rattle.ft_model.specs.Classes.{IsClass, dict_entries}
use Rattle.ft_layout.specs.Tables.{dict_room}
use Rattle.ft_layout.specs.Containers.{class_mask}
use Rattle.ft_trace.specs.declared.Shape.{Shape}
use Rattle.ft_trace.specs.Addresses.{class_of, slots, places, size}
use Rattle.ft_trace.specs.Pictures.{entry_offset}
use Rattle.ft_hash.specs.Probes.{IsMask, position, run_slots}
use Rattle.ft_model.specs.declared.data.Key.{Key}
use Rattle.ft_layout.specs.Tables.{hash_of}
use Rattle.ft_keys.specs.declared.walk.Way.{Way}
use Rattle.ft_keys.specs.declared.walk.Way.TheVariants as way
use Rattle.ft_keys.specs.Ways.{slots_at, slots_from, walk_slots}
use Rattle.ft_keys.proofs.Ways.{slots-all, slots-more}
use Rattle.ft_trace.specs.Pictures.{walk_of}
use Rattle.ft_trace.specs.Kinds.{rows}
use Rattle.ft_search.specs.Rounds.{kind_by}
use Rattle.ft_bank.specs.declared.table.Table.{Table}
use Rattle.ft_bank.specs.TableNames.{table_id, IsTableIn}
use Rattle.ft_bank.proofs.TableAddresses.{class_is}

-- a table has some slots
pow_some : (c : ℕ) → 0 < 2 ^ c
pow_some zero = omega arith
pow_some (suc c) = let h = pow_some c in let p = pow-suc 2 c in omega (arith, h, p)

pub slots_is : (k : Shape) (t : Table) (mask : ℕ) → IsTableIn k t → mask ≡ class_mask t.class → slots (class_of (table_id t)) ≡ mask + 1
unfolding slots
slots_is k t mask is last =
    let c = class_is t is.2 in
    let e : 2 ^ class_of (table_id t) ≡ 2 ^ t.class = ap (λ (z : ℕ). 2 ^ z) c in
    let p = pow_some t.class in
    omega (arith, e, p, last)

pub places_is : (k : Shape) (t : Table) (mask : ℕ) → IsTableIn k t → mask ≡ class_mask t.class → places (class_of (table_id t)) ≡ dict_room mask
unfolding places
places_is k t mask is last =
    let c = class_is t is.2 in
    let p = pow_some t.class in
    let e : 2 ^ t.class ≡ mask + 1 = omega (arith, p, last) in
    ap dict_entries c ∙ ap (λ (z : ℕ). 2 * z / 3) e

pub slot_in : (k : Shape) (t : Table) (mask slot : ℕ) → IsTableIn k t → mask ≡ class_mask t.class → slot ≤ mask → slot < size (class_of (table_id t))
slot_in k t mask slot is last low = let e = slots_is k t mask is last in omega (arith, e, low)

pub entry_in : (k : Shape) (t : Table) (mask place word : ℕ) → IsTableIn k t → mask ≡ class_mask t.class → place < dict_room mask → word < 8 → 8 * place + word + mask + 1 < size (class_of (table_id t))
entry_in k t mask place word is last low small = let e = slots_is k t mask is last in let p = places_is k t mask is last in omega (arith, e, p, low, small)

-- where a word of an entry lies
pub entry_is : (k : Shape) (t : Table) (mask place word : ℕ) → IsTableIn k t → mask ≡ class_mask t.class → 8 * place + word + mask + 1 ≡ entry_offset (slots (class_of (table_id t))) place word
entry_is k t mask place word is last = let e = slots_is k t mask is last in omega (arith, e)

-- ---- the slots and entries of a table, by the way in which it is searched

pub mask_is : (class mask : ℕ) → IsClass class → mask ≡ class_mask class → IsMask mask
mask_is class mask is last =
    let least = pow_mono {i = 3} {j = class} is.least in
    let most = pow_mono {i = class} {j = 16} is.greatest in
    let some = pow_some class in
    record { least = omega (arith, least, last); most = omega (arith, most, last); power = (class, let e : mask + 1 ≡ 2 ^ class = omega (arith, some, last) in e) }

pub room_for : (way : Way) (class mask : ℕ) → mask ≡ class_mask class → rows (kind_by way) class ≤ dict_room mask
unfolding places
room_for way.Dict class mask last = let some = pow_some class in omega (arith, some, last)
room_for way.Set class mask last = let some = pow_some class in omega (arith, some, last)

pub walk_is : (way : Way) (texts : List ℕ) (class : ℕ) (key : Key) → walk_slots way (hash_of texts key) (class_mask class) ≡ walk_of (kind_by way) texts class key
unfolding walk_of
walk_is way.Dict texts class key = refl
walk_is way.Set texts class key = refl

pub slots_of_class : (c : ℕ) → slots c ≡ class_mask c + 1
unfolding slots
slots_of_class c = let p = pow_some c in omega (arith, p)

-- ---- the first slot of a walk

run_first : (mask slot : ℕ) → run_slots mask slot ≡ slot ∷ drop 1 (run_slots mask slot)
unfolding run_slots
run_first mask slot = by (nat_le (slot + 9) mask)
  where
    by : (b : Bool) → (if b then range_with_len slot 10 else slot ∷ []) ≡ slot ∷ drop 1 (if b then range_with_len slot 10 else slot ∷ [])
    by true = refl
    by false = refl

slots_first : (way : Way) (mask slot : ℕ) → slots_at way mask slot ≡ slot ∷ drop 1 (slots_at way mask slot)
slots_first way.Dict mask slot = refl
slots_first way.Set mask slot = run_first mask slot

pub walk_first : (way : Way) (hash mask : ℕ) → walk_slots way hash mask ≡ position hash mask 0 ∷ drop 1 (walk_slots way hash mask)
walk_first way hash mask =
    let p = position hash mask 0 in
    let row = slots_at way mask p in
    let later = slots_from way hash mask 1 in
    let whole : walk_slots way hash mask ≡ p ∷ (drop 1 row ++ later) = sym (slots-all way hash mask) ∙ (slots-more way hash mask 0 (omega arith) ∙ ap (λ (z : List ℕ). z ++ later) (slots_first way mask p)) in
    whole ∙ ap (λ (z : List ℕ). p ∷ z) (sym (ap (drop 1) whole))
