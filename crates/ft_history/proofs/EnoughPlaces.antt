-- A thread that puts a value in a box at a place has put fewer in boxes before it than it makes such calls in all.
use Rattle.std.proofs.Common.{◌≡◌, ◌≢◌, ℕ, zero, suc, ◌+◌, ◌≤◌, Bool, true, false, ◌&&◌, cond, List, [], ◌∷◌, ◌++◌, length, take, drop, Some, refl, sym, ap, subst, ◌∙◌, arith, inl, inr, ◌==◌}
use Rattle.std.specs.Prelude.{filter, slice_get}
use Rattle.std.specs.List.{count_by}
use Rattle.std.proofs.lemmas.Bool.{cases_eq, eq-eqb}
use Rattle.std.proofs.lemmas.List.{append-nil}
use Rattle.std.proofs.lemmas.List.Sums.{sum_by-append, sum_by-cons}
use Rattle.std.proofs.lemmas.Option.{slice_get_cases, slice_get_within}
use Rattle.ft_model.specs.declared.call.Call.{Call}
use Rattle.ft_model.specs.declared.entry.Entry.{Entry}
use Rattle.ft_model.specs.declared.script.ScriptParts.{ScriptParts}
use Rattle.ft_model.specs.declared.script.Start.{Start}
use Rattle.ft_model.specs.Answers.{world_by}
use Rattle.ft_model.specs.Boxings.{boxes, boxings, has_boxed}
use Rattle.ft_model.specs.Histories.{writes, entries_of, EachAt, IsAnswered}
use Rattle.ft_model.specs.Worlds.{starts_of}
use Rattle.ft_history.specs.EnoughTables.{would_box}
use Rattle.ft_history.specs.Internal.States.{HasBoxed, world_before}
use Rattle.ft_history.proofs.HistoryPlaces.{drop_here, filter_parts, writes_before, writes_parts}
use Rattle.ft_history.proofs.ProgressLemmas.{boxed_mine, boxed_other}

-- a write that put a value in a box is a call that would
fewer : (wrote boxed : Bool) → cond {A = ℕ} (wrote && boxed) 1 0 ≤ cond {A = ℕ} boxed 1 0
fewer true boxed = omega arith
fewer false true = omega arith
fewer false false = omega arith

few_boxings : (starts : List Start) (calls : List Call) (mine : List Entry) → boxings starts calls mine ≤ count_by (would_box starts calls) mine
few_boxings starts calls [] = omega arith
few_boxings starts calls (entry ∷ mine) =
    let one = fewer entry.wrote (would_box starts calls entry) in
    let left = sum_by-cons (λ (e : Entry). cond {A = ℕ} (has_boxed starts calls e) 1 0) entry mine in
    let right = sum_by-cons (λ (e : Entry). cond {A = ℕ} (would_box starts calls e) 1 0) entry mine in
    omega (arith, one, left, right, few_boxings starts calls mine)

module _ (script : ScriptParts) (history : List Entry) (answered : EachAt history (IsAnswered script history)) where
  next_count : (thread place boxed : ℕ) (entry : Entry) → slice_get history place ≡ Some entry → HasBoxed script history thread place boxed → (n : ℕ) × HasBoxed script history thread (place + 1) n
  next_count thread place boxed entry at has =
      elim (cases_eq entry.thread thread) [
        | inl same ↦
            let n : ℕ = boxed + cond (entry.wrote && boxes (world_before script history place) entry.call) 1 0 in
            (n, subst (λ t. HasBoxed script history t (place + 1) n) same (boxed_mine script history place entry at boxed n (subst (λ t. HasBoxed script history t place boxed) (sym same) has) (answered place entry at).stamp refl))
        | inr other ↦ (boxed, boxed_other script history place entry at thread boxed other has)
      ]

  -- how many of a thread's writes before a place put a value in a box is the same, whatever writes follow
  counted : (thread place : ℕ) → place ≤ length history → (n : ℕ) × HasBoxed script history thread place n
  counted thread zero low = (0, λ later. refl)
  counted thread (suc place) low =
      elim (slice_get_cases history place).1 [
        | inl found ↦
            let before = counted thread place (omega (arith, low)) in
            let after = next_count thread place before.0 found.0 found.2 before.1 in
            let next : place + 1 ≡ suc place = omega arith in
            (after.0, subst (λ k. HasBoxed script history thread k after.0) next after.1)
        | inr past ↦ absurd (omega (arith, past.0, low))
      ]

  same_boxings : (thread place : ℕ) → place ≤ length history → boxings (starts_of script.containers) (writes (take place history)) (entries_of thread (take place history)) ≡ boxings (starts_of script.containers) (writes history) (entries_of thread (take place history))
  same_boxings thread place low =
      let of = λ (calls : List Call). boxings (starts_of script.containers) calls (entries_of thread (take place history)) in
      let is = counted thread place low in
      ap of (sym (append-nil (writes (take place history)))) ∙ sym (is.1 []) ∙ is.1 (writes (drop place history)) ∙ ap of (sym (writes_parts history place))

  pub one_more_box : (place : ℕ) (entry : Entry) → slice_get history place ≡ Some entry → boxes (world_by (starts_of script.containers) (writes (take place history))) entry.call ≡ true
      → boxings (starts_of script.containers) (writes (take place history)) (entries_of entry.thread (take place history)) + 1 ≤ count_by (would_box (starts_of script.containers) (writes history)) (entries_of entry.thread history)
  one_more_box place entry at boxed =
      let starts = starts_of script.containers in
      let thread = entry.thread in
      let mine = entries_of thread (take place history) in
      let own = λ (e : Entry). e.thread == thread in
      let rest : List Entry = filter own (drop (place + 1) history) in
      let test = λ (e : Entry). cond {A = ℕ} (would_box starts (writes history) e) 1 0 in
      let calls : take entry.stamp (writes history) ≡ writes (take place history) = ap (λ n. take n (writes history)) (answered place entry at).stamp ∙ writes_before history place in
      let this : test entry ≡ 1 = ap (λ (cs : List Call). cond {A = ℕ} (boxes (world_by starts cs) entry.call) 1 0) calls ∙ ap (λ b. cond {A = ℕ} b 1 0) boxed in
      let parts : entries_of thread history ≡ mine ++ entry ∷ rest =
      filter_parts own history place
      ∙ ap (λ (es : List Entry). mine ++ filter own es) (drop_here history place entry at)
      ∙ ap (λ b. mine ++ cond b (entry ∷ rest) rest) (eq-eqb thread thread refl) in
      let all = ap (count_by (would_box starts (writes history))) parts in
      let sum = sum_by-append test mine (entry ∷ rest) in
      let last = sum_by-cons test entry rest in
      let same = same_boxings thread place (let within = slice_get_within history place entry at in omega (arith, within)) in
      omega (arith, all, sum, last, this, same, few_boxings starts (writes history) mine)
