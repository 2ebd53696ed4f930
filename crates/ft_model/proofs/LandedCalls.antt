-- What holds where starts are landed: no dict is split.
use Rattle.std.proofs.Common.{◌≡◌, ℕ, suc, zero, ◌-◌, true, List, [], ◌∷◌, length, map, set, Option, refl, sym, ap, subst, ◌∙◌, arith}
use Rattle.std.specs.Prelude.{All, fold}
use Rattle.std.proofs.lemmas.Bool.{false≢true, and_parts}
use Rattle.std.proofs.lemmas.List.Elements.{All-map}
use Rattle.ft_model.specs.declared.data.Key.{Key}
use Rattle.ft_model.specs.declared.call.Call.{Call}
use Rattle.ft_model.specs.declared.call.Call.TheVariants as call
use Rattle.ft_model.specs.declared.call.TableChange.{TableChange}
use Rattle.ft_model.specs.declared.call.TableChange.TheVariants as change
use Rattle.ft_model.specs.declared.script.Declaration.{Declaration}
use Rattle.ft_model.specs.declared.script.Start.{Start}
use Rattle.ft_model.specs.declared.script.ScriptParts.{ScriptParts}
use Rattle.ft_model.specs.Calls.{dict_change, list_change, set_change, deque_change}
use Rattle.ft_model.specs.Landed.{is_landed_kind, shares_none, is_landed_start, AreLanded}
use Rattle.ft_model.specs.Scripts.{IsScript}
use Rattle.ft_model.specs.Worlds.{WorldContent, start_in, starts_of, dict_at, set_at}
use Rattle.ft_model.specs.Answers.{after_write}
use Rattle.ft_model.specs.TableUses.{TableUse, StoredWorld, empty_stored, no_table, table_at, is_split, takes_out, can_leave_split, CanLackLeaving, change_leaves, grown_table, copy_leaves, takes_in, leaves_tables, after_stored, stored_by, stored_newest}
use Rattle.ft_model.proofs.TableOrder.{grown-keys, copied-keys}
use Rattle.ft_model.proofs.SplitDicts.{unsplit_leaves}

-- ---- starts

-- the starts of a script are
pub script_starts : (script : ScriptParts) → IsScript script → AreLanded (starts_of script.containers)
script_starts script is = All-map (λ start. is_landed_start start ≡ true) (λ (c : Declaration). c.start) script.containers (λ k d low. (is.starts k d low).landed)

no_keys : (keys : List Key) → shares_none keys ≡ true → keys ≡ []
no_keys [] none = refl
no_keys (key ∷ keys) none = absurd (false≢true none)

-- a start shares no keys, and is no deque
pub landed_parts : (start : Start) → is_landed_start start ≡ true → (is_landed_kind start.kind ≡ true) × (start.keys ≡ [])
landed_parts start landed = let parts = and_parts (is_landed_kind start.kind) (shares_none start.keys) landed in (parts.0, no_keys start.keys parts.1)

-- what starts at a place does neither
pub landed_in : (starts : List Start) → AreLanded starts → (place : ℕ) → is_landed_start (start_in starts place) ≡ true
landed_in [] each place = refl
landed_in (first ∷ starts) each zero = each zero first (omega arith)
landed_in (first ∷ starts) each (suc place) = landed_in starts (λ k d low. each (suc k) d (omega arith)) place

-- so no call can take a pair out of a split dict
pub none_leaves : (starts : List Start) → AreLanded starts → (world : WorldContent) (called : Call) → CanLackLeaving starts world called → ⊥
none_leaves starts each world called can = by called can.leaves
  where
    by : (called : Call) → can_leave_split starts called ≡ true → ⊥
    by (call.Dict place c) leaves =
        let shares = (and_parts (takes_out c) (is_split (start_in starts place).keys) leaves).1 in
        false≢true (ap is_split (sym (landed_parts (start_in starts place) (landed_in starts each place)).1) ∙ shares)
    by _ leaves = false≢true leaves

-- ---- tables

-- no dict is split
abbrev pub AreUnsplit : List TableUse → Type 0
AreUnsplit tables = (place : ℕ) → (table_at tables place).keys ≡ []

put_unsplit : (tables : List TableUse) (at : ℕ) (table : TableUse) → AreUnsplit tables → table.keys ≡ [] → AreUnsplit (set tables at table)
put_unsplit [] at table each none place = each place
put_unsplit (first ∷ tables) zero table each none zero = none
put_unsplit (first ∷ tables) zero table each none (suc place) = each (suc place)
put_unsplit (first ∷ tables) (suc at) table each none zero = each zero
put_unsplit (first ∷ tables) (suc at) table each none (suc place) = put_unsplit tables at table (λ p. each (suc p)) none place

change_unsplit : (tables : List TableUse) (place : ℕ) (t : TableChange) (grown copied : TableUse) → AreUnsplit tables → grown.keys ≡ [] → copied.keys ≡ [] → AreUnsplit (change_leaves tables place t grown copied)
change_unsplit tables place change.Stays grown copied each more copy = each
change_unsplit tables place change.Grows grown copied each more copy = put_unsplit tables place grown each more
change_unsplit tables place (change.CopiesTo other) grown copied each more copy = put_unsplit tables other copied each copy
change_unsplit tables place change.GivesUp grown copied each more copy = put_unsplit tables place no_table each refl

leaves_unsplit : (old new : WorldContent) (tables : List TableUse) (called : Call) (takes : Option ℕ) → AreUnsplit tables → AreUnsplit (leaves_tables old new tables called takes)
leaves_unsplit old new tables (call.Dict place c) takes each =
    let before = dict_at old place in
    let after = dict_at new place in
    let count = length before.pairs in
    subst AreUnsplit (sym (unsplit_leaves tables place c before after takes (each place)))
    (change_unsplit tables place (dict_change c) (grown_table (table_at tables place) takes (after.next - before.next) (length after.pairs)) (copy_leaves count) each (grown-keys (table_at tables place) takes (after.next - before.next) (length after.pairs) (each place)) (copied-keys count))
leaves_unsplit old new tables (call.List place c) takes each = change_unsplit tables place (list_change c) (grown_table (table_at tables place) takes 0 0) no_table each (grown-keys (table_at tables place) takes 0 0 (each place)) refl
leaves_unsplit old new tables (call.Set place c) takes each =
    let added = (set_at new place).next - (set_at old place).next in
    let count = length (set_at new place).elements in
    change_unsplit tables place (set_change c) (grown_table (table_at tables place) takes added count) no_table each (grown-keys (table_at tables place) takes added count (each place)) refl
leaves_unsplit old new tables (call.Deque place c) takes each = change_unsplit tables place (deque_change c) (grown_table (table_at tables place) takes 0 0) no_table each (grown-keys (table_at tables place) takes 0 0 (each place)) refl
leaves_unsplit old new tables (call.Next cursor) takes each = each
leaves_unsplit old new tables (call.Begin first second) takes each = each
leaves_unsplit old new tables call.End takes each = each
leaves_unsplit old new tables call.Quiesce takes each = each
leaves_unsplit old new tables (call.Await thread index) takes each = each
leaves_unsplit old new tables call.Dump takes each = each

-- after whatever writes
pub after_unsplit : (stored : StoredWorld) (called : Call) → AreUnsplit stored.tables → AreUnsplit (after_stored stored called).tables
after_unsplit stored called each = leaves_unsplit stored.world (after_write stored.world called) stored.tables called (takes_in stored called) each

pub start_unsplit : (starts : List Start) → AreLanded starts → AreUnsplit (empty_stored starts).tables
start_unsplit [] each place = refl
start_unsplit (first ∷ starts) each zero = (landed_parts first (each zero first (omega arith))).1
start_unsplit (first ∷ starts) each (suc place) = start_unsplit starts (λ k d low. each (suc k) d (omega arith)) place

pub newest_unsplit : (starts : List Start) → AreLanded starts → (calls : List Call) → AreUnsplit (stored_newest starts calls).tables
newest_unsplit starts each [] = start_unsplit starts each
newest_unsplit starts each (called ∷ calls) = after_unsplit (stored_newest starts calls) called (newest_unsplit starts each calls)

pub stored_unsplit : (starts : List Start) → AreLanded starts → (calls : List Call) → AreUnsplit (stored_by starts calls).tables
stored_unsplit starts each calls = by calls (empty_stored starts) (start_unsplit starts each)
  where
    by : (calls : List Call) (stored : StoredWorld) → AreUnsplit stored.tables → AreUnsplit (fold after_stored stored calls).tables
    by [] stored is = is
    by (called ∷ calls) stored is = by calls (after_stored stored called) (after_unsplit stored called is)
