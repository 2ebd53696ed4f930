-- What stands before a place of a history, one entry further.
use Rattle.std.proofs.Common.{◌≡◌, ℕ, zero, suc, ◌+◌, ◌<◌, Bool, true, false, List, [], ◌∷◌, ◌++◌, map, length, take, drop, Some, refl, sym, ap, subst, ◌∙◌, arith, cond, inl, inr, ◌≤◌}
use Rattle.std.specs.List.{filter, fold}
use Rattle.std.specs.Prelude.{slice_get, ◌⊎◌}
use Rattle.std.proofs.Math.Numerals.{add-one}
use Rattle.std.proofs.lemmas.List.{take_more, drop_more, take-append-drop, map-append, take_at, length-append, length_push}
use Rattle.std.proofs.lemmas.Bool.{cases_lt}
use Rattle.std.proofs.lemmas.List.Elements.{filter-append}
use Rattle.std.proofs.lemmas.Option.{slice_get_within, get_or_from_slice_get, slice_get_cases}
use Rattle.ft_model.specs.declared.call.Call.{Call}
use Rattle.ft_model.specs.declared.entry.Entry.{Entry}
use Rattle.ft_model.specs.declared.script.ScriptParts.{ScriptParts}
use Rattle.ft_history.specs.Internal.States.{world_before}
use Rattle.ft_model.specs.Worlds.{start_world}
use Rattle.ft_model.specs.Answers.{after_write}
use Rattle.ft_model.specs.Histories.{writes, world_at}

-- ---- lists

module _ {X : Type 0} (xs : List X) (i : ℕ) (x : X) (at : slice_get xs i ≡ Some x) where
  pub take_next : take (i + 1) xs ≡ take i xs ++ x ∷ []
  take_next = take_more xs i x (slice_get_within xs i x at) ∙ ap (λ (y : X). take i xs ++ y ∷ []) (get_or_from_slice_get xs i x x at)

  pub drop_here : drop i xs ≡ x ∷ drop (i + 1) xs
  drop_here = drop_more xs i x (slice_get_within xs i x at) ∙ ap (λ (y : X). y ∷ drop (i + 1) xs) (get_or_from_slice_get xs i x x at)

  pub filter_next : (p : X → Bool) → filter p (take (i + 1) xs) ≡ filter p (take i xs) ++ cond (p x) (x ∷ []) []
  filter_next p = ap (filter p) take_next ∙ filter-append p (take i xs) (x ∷ [])

-- what passes, in two parts
pub filter_parts : {X : Type 0} (p : X → Bool) (xs : List X) (i : ℕ) → filter p xs ≡ filter p (take i xs) ++ filter p (drop i xs)
filter_parts p xs i = ap (filter p) (sym (take-append-drop i xs)) ∙ filter-append p (take i xs) (drop i xs)

pub slice_get_at : {X : Type 0} (xs ys : List X) (y : X) → slice_get (xs ++ y ∷ ys) (length xs) ≡ Some y
slice_get_at [] ys y = refl
slice_get_at (x ∷ xs) ys y = slice_get_at xs ys y

pub slice_get_left : {X : Type 0} (xs ys : List X) (i : ℕ) → i < length xs → slice_get (xs ++ ys) i ≡ slice_get xs i
slice_get_left [] ys i low = absurd (omega arith)
slice_get_left (x ∷ xs) ys zero low = refl
slice_get_left (x ∷ xs) ys (suc i) low = slice_get_left xs ys i (omega arith)

-- an element of a list with one more is one of the list, or that one
pub slice_get_push : {X : Type 0} (xs : List X) (x : X) (i : ℕ) (y : X) → slice_get (xs ++ x ∷ []) i ≡ Some y → (slice_get xs i ≡ Some y) ⊎ ((i ≡ length xs) × (x ≡ y))
slice_get_push {X} xs x i y at =
    elim (cases_lt i (length xs)) [
      | inl low ↦ inl (sym (slice_get_left xs (x ∷ []) i low) ∙ at)
      | inr past ↦
          let within = slice_get_within (xs ++ x ∷ []) i y at in
          let end : i ≡ length xs = omega (arith, length_push xs x) in
          let both : Some x ≡ Some y = sym (slice_get_at xs [] x) ∙ ap (slice_get (xs ++ x ∷ [])) (sym end) ∙ at in
          inr (end, let same : x ≡ y = cc in same)
    ]

-- what holds at the start and goes on over each element holds before every place
pub by_places : {X : Type 0} (P : ℕ → Type 0) (xs : List X) → P 0 → ((n : ℕ) (x : X) → slice_get xs n ≡ Some x → P n → P (n + 1)) → (n : ℕ) → n ≤ length xs → P n
by_places P xs start next zero within = start
by_places P xs start next (suc n) within =
    elim (slice_get_cases xs n).1 [
      | inl found ↦ subst P (add-one n) (next n found.0 found.2 (by_places P xs start next n (omega arith)))
      | inr past ↦ absurd (omega (arith, past.0))
    ]

-- ---- writes

pub writes-append : (xs ys : List Entry) → writes (xs ++ ys) ≡ writes xs ++ writes ys
writes-append xs ys = ap (map (λ (e : Entry). e.call)) (filter-append (λ (e : Entry). e.wrote) xs ys) ∙ map-append (λ (e : Entry). e.call) (filter (λ (e : Entry). e.wrote) xs) (filter (λ (e : Entry). e.wrote) ys)

pub writes_parts : (entries : List Entry) (place : ℕ) → writes entries ≡ writes (take place entries) ++ writes (drop place entries)
writes_parts entries place = ap writes (sym (take-append-drop place entries)) ∙ writes-append (take place entries) (drop place entries)

pub writes_before : (entries : List Entry) (place : ℕ) → take (length (writes (take place entries))) (writes entries) ≡ writes (take place entries)
writes_before entries place = ap (take (length (writes (take place entries)))) (writes_parts entries place) ∙ take_at (writes (take place entries)) (writes (drop place entries)) _ refl

pub world_at-before : (script : ScriptParts) (entries : List Entry) (place : ℕ) → world_at script entries (length (writes (take place entries))) ≡ world_before script entries place
world_at-before script entries place = ap (fold after_write (start_world script.containers)) (writes_before entries place)

pub writes_next : (entries : List Entry) (place : ℕ) (entry : Entry) → slice_get entries place ≡ Some entry → writes (take (place + 1) entries) ≡ writes (take place entries) ++ cond entry.wrote (entry.call ∷ []) []
writes_next entries place entry at =
    ap writes (take_next entries place entry at) ∙ writes-append (take place entries) (entry ∷ []) ∙
    ap (λ (cs : List Call). writes (take place entries) ++ cs) (elim entry.wrote as (λ b. map (λ (e : Entry). e.call) (cond b (entry ∷ []) []) ≡ cond b (entry.call ∷ []) []) [ true ↦ refl | false ↦ refl ])

pub count_next : (entries : List Entry) (place : ℕ) (entry : Entry) → slice_get entries place ≡ Some entry → length (writes (take (place + 1) entries)) ≡ length (writes (take place entries)) + cond entry.wrote 1 0
count_next entries place entry at =
    let done = writes (take place entries) in
    ap length (writes_next entries place entry at) ∙ length-append done (cond entry.wrote (entry.call ∷ []) []) ∙
    ap (λ n. length done + n) (elim entry.wrote as (λ b. length (cond b (entry.call ∷ []) []) ≡ cond b 1 0) [ true ↦ refl | false ↦ refl ])
