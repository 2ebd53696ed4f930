-- A table that was taken out of a root is free before it stands in a root again.
use Rattle.std.proofs.Common.{◌≡◌, ◌≢◌, ◌⊎◌, ℕ, suc, eqb, ◌+◌, ◌%◌, ◌≤◌, cond, List, [], ◌∷◌, ◌++◌, refl, sym, ap, ◌∙◌, inl, inr, ⊎_elim, arith}
use mathlib.Core.Logic.{dite}
use native.Mathlib.Decide.{ℕ_discrete}
use Rattle.ft_trace.specs.declared.Act.{Act}
use Rattle.ft_trace.specs.declared.Act.TheVariants.{PutRoot}
use Rattle.ft_trace.specs.declared.Shape.{Shape}
use Rattle.ft_trace.specs.Addresses.{bits, IsTableName, free_word_of, free_bit_of}
use Rattle.ft_trace.specs.Ages.{aged, age}
use Rattle.ft_trace.specs.Bits.{bit}
use Rattle.ft_trace.specs.TraceLaws.{TablesAreFreeBeforeRoots}
use Rattle.ft_trace.specs.Traces.{Event, did, word, Valid}
use Rattle.ft_trace.proofs.Ages.{ages_one}
use Rattle.ft_trace.proofs.Cases.{hit, miss}
use Rattle.ft_trace.proofs.TablePlaces.{placed, root_table}
use Rattle.ft_trace.proofs.EarlierMoments.{valid_rest}

-- a moment at which the table was free since then
abbrev WasFree : Shape → List Event → List Event → ℕ → Type 0
WasFree k newer older t =
    (later sooner : List Event) × (newer ≡ later ++ sooner)
    × (bit (free_bit_of t) (word k (sooner ++ older) (bits (free_word_of t))) ≡ 1)

-- taken out of a root or retired
abbrev IsOut : ℕ → Type 0
IsOut g = (g % 5 ≡ 3) ⊎ (g % 5 ≡ 4)

still_out : (g h : ℕ) → IsOut g → g ≤ h → h ≤ g + 1 → h % 5 ≢ 0 → IsOut h
still_out g h out up small free =
    dite (ℕ_discrete (h % 5) 3) (λ (three : h % 5 ≡ 3). inl three)
    (λ other. inr (⊎_elim (λ (x : g % 5 ≡ 3). omega (arith, x, up, small, free, other)) (λ (x : g % 5 ≡ 4). omega (arith, x, up, small, free, other)) out))

free_or_out : (k : Shape) (newer older : List Event) → Valid k (newer ++ older) → (t : ℕ) → IsTableName k t → age older t % 5 ≡ 3 → WasFree k newer older t ⊎ IsOut (age (newer ++ older) t)
free_or_out k [] older valid t table three = inr (inl three)
free_or_out k (e ∷ newer) older valid t table three =
    ⊎_elim
    (λ (f : WasFree k newer older t). inl (e ∷ f.0, f.1, ap (λ (l : List Event). e ∷ l) f.2, f.3))
    (λ (out : IsOut (age (newer ++ older) t)).
    let step = ages_one e (newer ++ older) t in
    let h = age (e ∷ newer ++ older) t in
    dite (ℕ_discrete (h % 5) 0)
    (λ (zero_is : h % 5 ≡ 0). inl ([], e ∷ newer, refl, (placed k (e ∷ newer ++ older) valid t table).is_free zero_is))
    (λ used. ⊎_elim (λ (small : h ≤ age (newer ++ older) t + 1). inr (still_out (age (newer ++ older) t) h out step.up small used)) (λ (zero_is : h % 5 ≡ 0). absurd (used zero_is)) step.small))
    (free_or_out k newer older valid.0 t table three)

pub tables_are_free_before_roots : TablesAreFreeBeforeRoots
tables_are_free_before_roots k newer es id v o r t ne valid p low names =
    let A : Act = PutRoot o r (suc t) in
    let older : List Event = did id v A ∷ es in
    let before = valid_rest k newer older valid in
    let may = before.1.3 in
    let table = root_table k es before.0 o may.0 t (sym may.2) in
    let g = age es t in
    let was = ((placed k es before.0 t table).roots o may.0 (sym may.2)).0 in
    let now : aged A t g ≡ g + 1 = miss r (suc t) (g + 1) (cond (eqb (suc t) (suc t)) (g + 1) g) ne ∙ hit (suc t) (g + 1) g in
    let current = ((placed k (newer ++ older) valid t table).roots p low names).0 in
    ⊎_elim (λ (f : WasFree k newer older t). f)
    (λ (out : IsOut (age (newer ++ older) t)). absurd (⊎_elim (λ (x : age (newer ++ older) t % 5 ≡ 3). omega (arith, x, current)) (λ (x : age (newer ++ older) t % 5 ≡ 4). omega (arith, x, current)) out))
    (free_or_out k newer older valid t table (omega (arith, now, was)))
