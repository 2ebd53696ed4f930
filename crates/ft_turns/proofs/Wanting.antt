-- The locks that a thread tries to take: at most two, in order, of containers that there are.
use Rattle.std.proofs.Common.{◌≡◌, ◌≢◌, ℕ, ◌<◌, Bool, true, false, List, [], ◌∷◌, length, Option, None, Some, refl, arith}
use Rattle.std.specs.Prelude.{if◌then◌else◌, ◌==◌, nat_lt, slice_get, All, IfSome}
use Rattle.std.specs.List.{fold}
use Rattle.std.specs.Option.{option_map}
use Rattle.std.proofs.lemmas.Bool.Decides.{nat_tests}
use Rattle.std.proofs.lemmas.Option.{slice_get_within}
use Rattle.std.proofs.lemmas.List.Elements.{All-head, All-tail}
use Rattle.ft_model.specs.declared.call.Call.{Call}
use Rattle.ft_model.specs.declared.call.Call.TheVariants as call
use Rattle.ft_model.specs.declared.script.Declaration.{Declaration}
use Rattle.ft_model.specs.declared.script.Kind.{Kind}
use Rattle.ft_model.specs.declared.script.Kind.TheVariants as kind
use Rattle.ft_model.specs.declared.script.ScriptParts.{ScriptParts}
use Rattle.ft_model.specs.Calls.{one_or_two, containers_of, other_dict, other_list, other_set, other_deque}
use Rattle.ft_model.specs.Scripts.{IsDeclaredAs, IsCallOf, NamesOf}
use Rattle.ft_turns.specs.Orders.{lower_first, locks_taken, makes}

-- at most two containers, which differ and are there
abbrev pub AreTwo : ℕ → List ℕ → Type 0
AreTwo n [] = Unit {0}
AreTwo n (x ∷ []) = x < n
AreTwo n (x ∷ y ∷ []) = (x < n) × (y < n) × (x ≢ y)
AreTwo n (x ∷ y ∷ z ∷ rest) = ⊥

-- the same in order
abbrev pub AreRising : ℕ → List ℕ → Type 0
AreRising n [] = Unit {0}
AreRising n (x ∷ []) = x < n
AreRising n (x ∷ y ∷ []) = (x < y) × (y < n)
AreRising n (x ∷ y ∷ z ∷ rest) = ⊥

rising_two : (b : Bool) (n x y : ℕ) → nat_lt y x ≡ b → AreTwo n (x ∷ y ∷ []) → AreRising n (if b then y ∷ x ∷ [] else x ∷ y ∷ [])
rising_two true n x y is two = (grind (arith, nat_tests, is), two.0)
rising_two false n x y is two = (grind (arith, nat_tests, is, two.2), two.1)

pub rising : (n : ℕ) (containers : List ℕ) → AreTwo n containers → AreRising n (lower_first containers)
rising n [] two = tt
rising n (x ∷ []) two = two
rising n (x ∷ y ∷ []) two = rising_two (nat_lt y x) n x y refl two
rising n (x ∷ y ∷ z ∷ rest) two = absurd two

two_at : (b : Bool) (n first second : ℕ) → (first == second) ≡ b → first < n → second < n → AreTwo n (if b then first ∷ [] else first ∷ second ∷ [])
two_at true n first second is one two = one
two_at false n first second is one two = (one, two, grind (arith, nat_tests, is))

one_or_two_are : (n first : ℕ) (second : Option ℕ) → first < n → IfSome second (λ place. place < n) → AreTwo n (one_or_two first second)
one_or_two_are n first None one two = one
one_or_two_are n first (Some second) one two = two_at (first == second) n first second refl one two

declared_at : (found : Option Declaration) (containers : List Declaration) (kind : Kind) (place : ℕ) → slice_get containers place ≡ found → option_map (λ (one : Declaration). one.start.kind) found ≡ Some kind → place < length containers
declared_at None containers kind place is named = absurd (cc)
declared_at (Some one) containers kind place is named = slice_get_within containers place one is

declared : (containers : List Declaration) (kind : Kind) (place : ℕ) → IsDeclaredAs containers kind place → place < length containers
declared containers kind.Dict place is = declared_at (slice_get containers place) containers kind.Dict place refl is
declared containers kind.List place is = declared_at (slice_get containers place) containers kind.List place refl is
declared containers kind.Set place is = declared_at (slice_get containers place) containers kind.Set place refl is
declared containers (kind.Deque _) place is = declared_at (slice_get containers place) containers (kind.Deque is.0) place refl is.1

other_declared : (containers : List Declaration) (kind : Kind) (other : Option ℕ) → IfSome other (λ place. IsDeclaredAs containers kind place) → IfSome other (λ place. place < length containers)
other_declared containers kind None is = tt
other_declared containers kind (Some place) is = declared containers kind place is

pub named_are_two : (containers : List Declaration) (cursors : ℕ) (called : Call) → NamesOf containers cursors called → AreTwo (length containers) (containers_of called)
named_are_two containers cursors (call.Dict place dict_call) named = one_or_two_are (length containers) place (other_dict dict_call) (declared containers kind.Dict place named.container) (other_declared containers kind.Dict (other_dict dict_call) named.second)
named_are_two containers cursors (call.List place list_call) named = one_or_two_are (length containers) place (other_list list_call) (declared containers kind.List place named.container) (other_declared containers kind.List (other_list list_call) named.second)
named_are_two containers cursors (call.Set place set_call) named = one_or_two_are (length containers) place (other_set set_call) (declared containers kind.Set place named.container) (other_declared containers kind.Set (other_set set_call) named.second)
named_are_two containers cursors (call.Deque place deque_call) named = one_or_two_are (length containers) place (other_deque deque_call) (declared containers (kind.Deque None) place named.container) (other_declared containers (kind.Deque None) (other_deque deque_call) named.second)
named_are_two containers cursors (call.Next number) named = tt
named_are_two containers cursors (call.Begin first second) named = one_or_two_are (length containers) first second named.0 named.1
named_are_two containers cursors call.End named = tt
named_are_two containers cursors call.Quiesce named = tt
named_are_two containers cursors (call.Await other index) named = tt
named_are_two containers cursors call.Dump named = tt

cursor_at : (made : Bool) (n : ℕ) (containers others : List ℕ) → AreTwo n containers → AreTwo n others → AreTwo n (if made then others else containers)
cursor_at true n containers others one two = two
cursor_at false n containers others one two = one

cursors_are_two : (script : ScriptParts) (cursors number : ℕ) (containers : List ℕ) (calls : List Call) → AreTwo (length script.containers) containers → All (IsCallOf script cursors) calls → AreTwo (length script.containers) (fold (λ containers called. if makes number called then containers_of called else containers) containers calls)
cursors_are_two script cursors number containers [] two all = two
cursors_are_two script cursors number containers (called ∷ calls) two all =
    cursors_are_two script cursors number (if makes number called then containers_of called else containers) calls
    (cursor_at (makes number called) (length script.containers) containers (containers_of called) two (named_are_two script.containers cursors called (All-head (IsCallOf script cursors) called calls all).names))
    (All-tail (IsCallOf script cursors) called calls all)

taken_at : (none : Bool) (n : ℕ) (containers : List ℕ) → AreTwo n containers → AreTwo n (if none then [] else containers)
taken_at true n containers two = tt
taken_at false n containers two = two

-- the locks that a call takes are of at most two containers
pub taken_are_two : (script : ScriptParts) (cursors : ℕ) (before : List Call) (called : Call) → All (IsCallOf script cursors) before → IsCallOf script cursors called → AreTwo (length script.containers) (locks_taken before called)
taken_are_two script cursors before (call.Next number) all this = cursors_are_two script cursors number [] before tt all
taken_are_two script cursors before (call.Dict place dict_call) all this = taken_at _ (length script.containers) (containers_of (call.Dict place dict_call)) (named_are_two script.containers cursors (call.Dict place dict_call) this.names)
taken_are_two script cursors before (call.List place list_call) all this = taken_at _ (length script.containers) (containers_of (call.List place list_call)) (named_are_two script.containers cursors (call.List place list_call) this.names)
taken_are_two script cursors before (call.Set place set_call) all this = taken_at _ (length script.containers) (containers_of (call.Set place set_call)) (named_are_two script.containers cursors (call.Set place set_call) this.names)
taken_are_two script cursors before (call.Deque place deque_call) all this = taken_at _ (length script.containers) (containers_of (call.Deque place deque_call)) (named_are_two script.containers cursors (call.Deque place deque_call) this.names)
taken_are_two script cursors before (call.Begin first second) all this = taken_at _ (length script.containers) (containers_of (call.Begin first second)) (named_are_two script.containers cursors (call.Begin first second) this.names)
taken_are_two script cursors before call.End all this = tt
taken_are_two script cursors before call.Quiesce all this = tt
taken_are_two script cursors before (call.Await other index) all this = tt
taken_are_two script cursors before call.Dump all this = tt
