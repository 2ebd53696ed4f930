-- A worked script keeps the rule of scripts.
use Rattle.std.proofs.Common.{◌≡◌, ◌≢◌, ℕ, zero, suc, ◌<◌, ◌≤◌, true, List, [], ◌∷◌, Some, refl, subst, arith}
use Rattle.std.specs.Prelude.{All, AllPairs, slice_get}
use Rattle.std.specs.List.{AllByRecursion}
use Rattle.std.proofs.lemmas.List.Elements.{All-from_recursion, All-nil}
use Rattle.std.proofs.lemmas.List.Kept.{AllPairs-cons}
use Rattle.std.proofs.lemmas.Option.{none-some}
use Rattle.ft_model.specs.declared.call.Call.{Call}
use Rattle.ft_model.specs.declared.call.Call.TheVariants as call
use Rattle.ft_model.specs.declared.script.Declaration.{Declaration}
use Rattle.ft_model.specs.declared.script.SharedKeys.{SharedKeys}
use Rattle.ft_model.specs.declared.script.Thread.{Thread}
use Rattle.ft_model.specs.Landed.{is_landed_call}
use Rattle.ft_model.specs.Limits.{most_tables}
use Rattle.ft_model.specs.Names.{is_container_name, IsString}
use Rattle.ft_model.specs.Scripts.{AreAwaitsOf, AreMade, IsAwaitOf, IsCallOf, IsScript, IsShared, IsStartOf, IsThread}
use Rattle.ft_ledger.specs.Rows.{set_zero, six_keys, sixth_key, thread_named}

one_pair : {X : Type 0} (R : X → X → Type 0) (x : X) → AllPairs R (x ∷ [])
one_pair R x i j d less low = absurd (omega arith)

no_pair : {X : Type 0} (R : X → X → Type 0) → AllPairs R []
no_pair R i j d less low = absurd (omega arith)

-- ---- calls

set_is_call : (k : ℕ) → IsCallOf sixth_key 0 (set_zero 0 k)
set_is_call k = record { names = record { container = refl; second = tt; made = tt }; strings = (tt, tt) }

-- calls of which none moves a cursor
abbrev MovesNone : Call → Type 0
MovesNone called = (number : ℕ) → called ≢ call.Next number

none_moved : (calls : List Call) → AllByRecursion MovesNone calls → (place number : ℕ) → slice_get calls place ≡ Some (call.Next number) → ⊥
none_moved [] none place number at = none-some (call.Next number) at
none_moved (first ∷ calls) none zero number at = none.0 number (let same : first ≡ call.Next number = cc in same)
none_moved (first ∷ calls) none (suc place) number at = none_moved calls none.1 place number at

made : (calls : List Call) → AllByRecursion MovesNone calls → AreMade calls
made calls none place number at = absurd (none_moved calls none place number at)

set_moves : (k : ℕ) → MovesNone (set_zero 0 k)
set_moves k number same = cc

quiesce_moves : MovesNone call.Quiesce
quiesce_moves number same = cc

-- ---- threads

abbrev setter : Thread
setter = thread_named 65 six_keys

abbrev other : Thread
other = thread_named 66 (call.Quiesce ∷ [])

setter_is : IsThread sixth_key setter
setter_is =
    record {
      name = refl;
      few_cursors = omega arith;
      cursor_names = All-nil _;
      cursors_differ = no_pair (λ (a b : List ℕ). a ≢ b);
      calls = All-from_recursion (IsCallOf sixth_key 0) six_keys (set_is_call 1, (set_is_call 2, (set_is_call 3, (set_is_call 4, (set_is_call 5, (set_is_call 6, tt))))));
      made = made six_keys (set_moves 1, (set_moves 2, (set_moves 3, (set_moves 4, (set_moves 5, (set_moves 6, tt))))));
      nested = refl;
      landed = All-from_recursion (λ called. is_landed_call called ≡ true) six_keys (refl, (refl, (refl, (refl, (refl, (refl, tt))))));
    }

other_is : IsThread sixth_key other
other_is =
    record {
      name = refl;
      few_cursors = omega arith;
      cursor_names = All-nil _;
      cursors_differ = no_pair (λ (a b : List ℕ). a ≢ b);
      calls = All-from_recursion (IsCallOf sixth_key 0) other.calls (record { names = tt; strings = tt }, tt);
      made = made other.calls (quiesce_moves, tt);
      nested = refl;
      landed = All-from_recursion (λ called. is_landed_call called ≡ true) other.calls (refl, tt);
    }

awaits : AreAwaitsOf sixth_key.threads
awaits zero thread at =
    subst (λ (t : Thread). All (IsAwaitOf sixth_key.threads 0) t.calls) (let some : Some setter ≡ Some thread = at in let same : setter ≡ thread = cc in same)
    (All-from_recursion (IsAwaitOf sixth_key.threads 0) six_keys (tt, (tt, (tt, (tt, (tt, (tt, tt)))))))
awaits (suc zero) thread at =
    subst (λ (t : Thread). All (IsAwaitOf sixth_key.threads 1) t.calls) (let some : Some other ≡ Some thread = at in let same : other ≡ thread = cc in same)
    (All-from_recursion (IsAwaitOf sixth_key.threads 1) other.calls (tt, tt))
awaits (suc (suc number)) thread at = absurd (none-some thread at)

letters_differ : (a b : ℕ) → a < b → a ∷ [] ≢ b ∷ []
letters_differ a b low same = let first : a ≡ b = cc in omega arith

names_differ : AllPairs (λ (a b : Thread). a.name ≢ b.name) sixth_key.threads
names_differ = AllPairs-cons (λ (a b : Thread). a.name ≢ b.name) setter (other ∷ []) (All-from_recursion (λ (b : Thread). setter.name ≢ b.name) (other ∷ []) (letters_differ 65 66 (omega arith), tt)) (one_pair (λ (a b : Thread). a.name ≢ b.name) other)

-- ---- the script

has_some : (n : ℕ) → 1 ≤ n → n ≤ 4 → (1 ≤ n) × (n ≤ most_tables)
has_some n low high = (low, omega arith)

pub sixth_is_script : IsScript sixth_key
sixth_is_script =
    let four = has_some 4 (omega arith) (omega arith) in
    let one = has_some 1 (omega arith) (omega arith) in
    record {
      few_containers = omega arith;
      container_names = All-from_recursion (λ (c : Declaration). is_container_name c.name ≡ true) sixth_key.containers (refl, tt);
      containers_differ = one_pair (λ (a b : Declaration). a.name ≢ b.name) _;
      starts = All-from_recursion (λ (c : Declaration). IsStartOf sixth_key c.start) sixth_key.containers (record { keys = tt; bound = tt; landed = refl }, tt);
      few_shared = omega arith;
      shared = All-nil (IsShared sixth_key);
      shared_differ = no_pair (λ (a b : SharedKeys). a.name ≢ b.name);
      few_threads = omega arith;
      threads = All-from_recursion (IsThread sixth_key) sixth_key.threads (setter_is, (other_is, tt));
      threads_differ = names_differ;
      awaits = awaits;
      few_calls = omega arith;
      few_strings = omega arith;
      strings = All-nil IsString;
      strings_differ = no_pair (λ (a b : List ℕ). a ≢ b);
      classes = refl;
      tables = All-from_recursion (λ count. (1 ≤ count) × (count ≤ most_tables)) sixth_key.tables (four, (four, (four, (four, (four, (four, (four, (four, (four, (four, (one, (one, (one, (one, tt))))))))))))));
      least_heap = omega arith;
      greatest_heap = omega arith;
      heap_steps = refl;
      few_turns = omega arith;
      turns = All-from_recursion (λ thread. thread < 2) sixth_key.order (omega arith, (omega arith, (omega arith, (omega arith, (omega arith, (omega arith, tt))))));
    }
