-- What is kept of the writes on a container, one entry further.
use Rattle.std.proofs.Common.{◌≡◌, ℕ, ◌+◌, ◌<◌, ◌≤◌, Bool, true, false, not, ◌&&◌, ◌||◌, List, [], ◌∷◌, ◌++◌, length, take, drop, Option, Some, None, refl, sym, ap, ◌∙◌, arith, cond, eqb, leb, inl, inr}
use Rattle.std.specs.Prelude.{slice_get, IfSome}
use Rattle.std.specs.List.{list_any}
use Rattle.std.proofs.lemmas.Bool.{cases_lt, le-leb, lt-leb, eqb-true, leb-true, false≢true}
use Rattle.std.proofs.lemmas.List.{drop-append-le, drop_all, length-append, length-take-le}
use Rattle.std.proofs.lemmas.List.Folds.{list_any-append}
use Rattle.std.proofs.lemmas.Option.{slice_get_within, IfSome_then}
use Rattle.ft_model.specs.declared.entry.Entry.{Entry}
use Rattle.ft_model.specs.Histories.{disturbs, names}
use Rattle.ft_history.specs.declared.writers.LastWrites.{LastWrites}
use Rattle.ft_history.specs.declared.writers.Write.{Write}
use Rattle.ft_history.specs.Internal.States.{other_than, after_one, is_from, is_written_since, AreLastWrites}
use Rattle.ft_history.proofs.HistoryPlaces.{take_next}

or_false : (b : Bool) → (b || false) ≡ b
or_false true = refl
or_false false = refl

-- a test of what stands from a place on, with one more element
any_drop_push : {X : Type 0} (p : X → Bool) (xs : List X) (x : X) (n : ℕ) → list_any p (drop n (xs ++ x ∷ [])) ≡ (list_any p (drop n xs) || (leb n (length xs) && p x))
any_drop_push {X} p xs x n =
    elim (cases_lt (length xs) n) [
      | inl past ↦
          let all : drop n (xs ++ x ∷ []) ≡ [] = drop_all n (xs ++ x ∷ []) (omega (arith, length-append xs (x ∷ []))) in
          let none : drop n xs ≡ [] = drop_all n xs (omega arith) in
          simp (all, none, lt-leb n (length xs) past)
      | inr within ↦
          ap (list_any p) (drop-append-le n xs (x ∷ []) within) ∙ list_any-append p (drop n xs) (x ∷ []) ∙
          ap (λ b. list_any p (drop n xs) || b) (or_false (p x) ∙ sym (ap (λ b. b && p x) (le-leb n (length xs) within)))
    ]

pub any_since : (entries : List Entry) (place : ℕ) (entry : Entry) (p : Entry → Bool) (since : ℕ) → slice_get entries place ≡ Some entry → list_any p (drop since (take (place + 1) entries)) ≡ (list_any p (drop since (take place entries)) || (leb since place && p entry))
any_since entries place entry p since at =
    let long : length (take place entries) ≡ place = length-take-le place entries (let low = slice_get_within entries place entry at in omega arith) in
    ap (λ (es : List Entry). list_any p (drop since es)) (take_next entries place entry at) ∙ any_drop_push p (take place entries) entry since ∙
    ap (λ n. list_any p (drop since (take place entries)) || (leb since n && p entry)) long

-- ---- what one write changes

none_since : (since place : ℕ) (at : Option ℕ) → IfSome at (λ p. p < place) → place ≤ since → is_from since at ≡ false
none_since since place None within past = refl
none_since since place (Some p) within past = lt-leb since p (omega arith)

said_none : (writer place : ℕ) (other : Option ℕ) (thread since : ℕ) → other ≡ None → is_written_since (after_one (record { last = None; other = other }) writer place) thread since ≡ (leb since place && not (eqb writer thread))
said_none writer place other thread since first =
    elim (eqb writer thread) as (λ b. cond b (is_from since other) (leb since place) ≡ (leb since place && not b)) [
      | true ↦ ap (is_from since) first ∙ sym (and_false (leb since place))
      | false ↦ sym (and_true (leb since place))
    ]
  where
    and_false : (b : Bool) → (b && false) ≡ false
    and_false true = refl
    and_false false = refl

    and_true : (b : Bool) → (b && true) ≡ b
    and_true true = refl
    and_true false = refl

and_true : (b : Bool) → (b && true) ≡ b
and_true true = refl
and_true false = refl

and_false : (b : Bool) → (b && false) ≡ false
and_false true = refl
and_false false = refl

or_absorbs : (a b : Bool) → (a ≡ true → b ≡ true) → (a || b) ≡ b
or_absorbs true b so = sym (so refl)
or_absorbs false b so = refl

-- what is said to be written from a place on is written before the place up to which it is said
said_before : (since place : ℕ) (at : Option ℕ) → IfSome at (λ p. p < place) → is_from since at ≡ true → leb since place ≡ true
said_before since place None within said = absurd (false≢true said)
said_before since place (Some p) within said = le-leb since place (let low = leb-true since p said in omega arith)

said_some : (last : Write) (other : Option ℕ) (writer place thread since : ℕ) → last.place < place → IfSome other (λ p. p < place)
    → is_written_since (after_one (record { last = Some last; other = other }) writer place) thread since ≡ (is_written_since (record { last = Some last; other = other }) thread since || (leb since place && not (eqb writer thread)))
said_some last other writer place thread since last_before other_before =
    let said : Bool = cond (eqb last.thread thread) (is_from since other) (leb since last.place) in
    elim (eqb writer thread) as (λ b. eqb writer thread ≡ b → cond b (is_from since (cond (eqb last.thread writer) other (Some last.place))) (leb since place) ≡ (said || (leb since place && not b))) [
      | true ↦ λ mine.
          let same : writer ≡ thread = eqb-true writer thread mine in
          ap (λ w. is_from since (cond (eqb last.thread w) other (Some last.place))) same
          ∙ elim (eqb last.thread thread) as (λ b. is_from since (cond b other (Some last.place)) ≡ cond b (is_from since other) (leb since last.place)) [ true ↦ refl | false ↦ refl ]
          ∙ sym (ap (λ b. said || b) (and_false (leb since place)) ∙ or_false said)
      | false ↦ λ others.
          sym (ap (λ b. said || b) (and_true (leb since place)) ∙ or_absorbs said (leb since place) (λ yes.
          elim (eqb last.thread thread) as (λ b. cond b (is_from since other) (leb since last.place) ≡ true → leb since place ≡ true) [
            | true ↦ λ from. said_before since place other other_before from
            | false ↦ λ from. le-leb since place (let low = leb-true since last.place from in omega arith)
          ] yes))
    ] refl

said : (writes : LastWrites) (writer place thread since : ℕ) → IfSome writes.last (λ write. write.place < place) → IfSome writes.other (λ p. p < place) → (writes.last ≡ None → writes.other ≡ None)
    → is_written_since (after_one writes writer place) thread since ≡ (is_written_since writes thread since || (leb since place && not (eqb writer thread)))
said writes writer place thread since last_before other_before first =
    elim writes.last as (λ l. writes.last ≡ l → IfSome l (λ write. write.place < place) → is_written_since (after_one (record { last = l; other = writes.other }) writer place) thread since ≡ (is_written_since (record { last = l; other = writes.other }) thread since || (leb since place && not (eqb writer thread)))) [
      | None ↦ λ none _. said_none writer place writes.other thread since (first none)
      | Some last ↦ λ _ before. said_some last writes.other writer place thread since before other_before
    ] refl last_before

other_low : (thread place : ℕ) (last : Option Write) (other : Option ℕ) → IfSome last (λ write. write.place < place) → IfSome other (λ p. p < place) → IfSome (other_than thread last other) (λ p. p < place + 1)
other_low thread place None other last_before other_before = IfSome_then other other_before (λ p low. let l : p < place + 1 = omega arith in l)
other_low thread place (Some last) other last_before other_before =
    elim (eqb last.thread thread) as (λ b. IfSome (cond b other (Some last.place)) (λ p. p < place + 1)) [
      | true ↦ IfSome_then other other_before (λ p low. let l : p < place + 1 = omega arith in l)
      | false ↦ omega arith
    ]

module _ (entries : List Entry) (place container : ℕ) (entry : Entry) (at : slice_get entries place ≡ Some entry) (writes : LastWrites) (so_far : AreLastWrites entries place container writes) where
  -- one place further, where the entry doesn't write on the container
  pub last_after_other : (entry.wrote && names container entry.call) ≡ false → AreLastWrites entries (place + 1) container writes
  last_after_other calm =
      record {
        since = λ thread since.
            any_since entries place entry (disturbs thread (container ∷ [])) since at ∙
            ap (λ b. list_any (disturbs thread (container ∷ [])) (drop since (take place entries)) || (leb since place && b)) (calm_for thread) ∙
            ap (λ b. list_any (disturbs thread (container ∷ [])) (drop since (take place entries)) || b) (and_false (leb since place)) ∙ or_false _ ∙ so_far.since thread since;
        last = IfSome_then writes.last so_far.last (λ write low. let l : write.place < place + 1 = omega arith in l);
        other = IfSome_then writes.other so_far.other (λ p low. let l : p < place + 1 = omega arith in l);
        first = so_far.first;
      }
    where
      calm_for : (thread : ℕ) → disturbs thread (container ∷ []) entry ≡ false
      calm_for thread =
          elim entry.wrote as (λ w. (w && names container entry.call) ≡ false → ((w && not (eqb entry.thread thread)) && (names container entry.call || false)) ≡ false) [
            | true ↦ λ unnamed. ap (λ b. not (eqb entry.thread thread) && (b || false)) unnamed ∙ and_false _
            | false ↦ λ _. refl
          ] calm

  -- one place further, where it does
  pub last_after_write : entry.wrote ≡ true → names container entry.call ≡ true → AreLastWrites entries (place + 1) container (after_one writes entry.thread place)
  last_after_write wrote named =
      record {
        since = λ thread since.
            any_since entries place entry (disturbs thread (container ∷ [])) since at ∙
            ap (λ b. list_any (disturbs thread (container ∷ [])) (drop since (take place entries)) || (leb since place && b)) (disturbed_by thread) ∙
            ap (λ b. b || (leb since place && not (eqb entry.thread thread))) (so_far.since thread since) ∙
            sym (said writes entry.thread place thread since so_far.last so_far.other so_far.first);
        last = omega arith;
        other = other_low entry.thread place writes.last writes.other so_far.last so_far.other;
        first = λ none. absurd (let some : Some (let w : Write = record { thread = entry.thread; place = place } in w) ≡ None = none in cc);
      }
    where
      disturbed_by : (thread : ℕ) → disturbs thread (container ∷ []) entry ≡ not (eqb entry.thread thread)
      disturbed_by thread = ap (λ w. (w && not (eqb entry.thread thread)) && (names container entry.call || false)) wrote ∙ ap (λ b. not (eqb entry.thread thread) && (b || false)) named ∙ and_true _

-- at the start nothing is written
pub last_at_start : (entries : List Entry) (container : ℕ) (writes : LastWrites) → writes.last ≡ None → writes.other ≡ None → AreLastWrites entries 0 container writes
last_at_start entries container writes none other =
    record {
      since = λ thread since. ap (list_any (disturbs thread (container ∷ []))) (drop_all since [] (omega arith)) ∙ sym (rw none refl);
      last = rw none tt;
      other = rw other tt;
      first = λ _. other;
    }

-- ---- the containers of a section

any_exchange : (entries : List Entry) (thread : ℕ) (container : ℕ) (containers : List ℕ) → list_any (disturbs thread (container ∷ containers)) entries ≡ (list_any (disturbs thread (container ∷ [])) entries || list_any (disturbs thread containers) entries)
any_exchange [] thread container containers = refl
any_exchange (entry ∷ entries) thread container containers =
    ap (λ b. disturbs thread (container ∷ containers) entry || b) (any_exchange entries thread container containers) ∙
    mixed (entry.wrote && not (eqb entry.thread thread)) (names container entry.call) (list_any (λ o. names o entry.call) containers) (list_any (disturbs thread (container ∷ [])) entries) (list_any (disturbs thread containers) entries)
  where
    mixed : (w n r a b : Bool) → ((w && (n || r)) || (a || b)) ≡ (((w && (n || false)) || a) || ((w && r) || b))
    mixed true true true a b = refl
    mixed true true false a b = refl
    mixed true false true true b = refl
    mixed true false true false b = refl
    mixed true false false a b = refl
    mixed false n r a b = refl

no_containers : (entries : List Entry) (thread : ℕ) → list_any (disturbs thread []) entries ≡ false
no_containers [] thread = refl
no_containers (entry ∷ entries) thread = rw and_false (no_containers entries thread)

-- another thread's write on one of the containers is one on the first, or on another
pub any_of_containers : (entries : List Entry) (thread : ℕ) (containers : List ℕ) → list_any (disturbs thread containers) entries ≡ list_any (λ container. list_any (disturbs thread (container ∷ [])) entries) containers
any_of_containers entries thread [] = no_containers entries thread
any_of_containers entries thread (container ∷ containers) = any_exchange entries thread container containers ∙ ap (λ b. list_any (disturbs thread (container ∷ [])) entries || b) (any_of_containers entries thread containers)
