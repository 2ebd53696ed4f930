-- That a taking and a giving of a table are possible in each of their steps, and end with nothing in flight.
use Rattle.std.proofs.Common.{◌≡◌, ◌⊎◌, ℕ, ◌+◌, ◌*◌, ◌<◌, ◌∷◌, refl, ◌∙◌, inl}
use mathlib.Core.Logic.{dite}
use native.Mathlib.Decide.{ℕ_discrete}
use Rattle.ft_trace.specs.declared.Snap.{Snap}
use Rattle.ft_trace.specs.declared.View.{View}
use Rattle.ft_trace.specs.declared.Act.TheVariants.{LowerCount, RaiseCount, ReadCount, ReadFree, TakeTable}
use Rattle.ft_trace.specs.Bits.{bit}
use Rattle.ft_model.specs.Classes.{IsClass}
use Rattle.ft_trace.specs.Addresses.{count_of_class, bits, class_of, free_word_of, free_bit_of, IsTableName}
use Rattle.ft_trace.specs.Acts.{stage, flight, owes, view_after}
use Rattle.ft_trace.specs.Grants.{Ends}
use Rattle.ft_trace.specs.Traces.{did, run, word, history, snap, IsReachable, IsAwake}
use Rattle.ft_trace.proofs.Sizes.{set_at}
use Rattle.ft_trace.proofs.Cases.{miss, here}
use Rattle.ft_trace.proofs.NextActions.{next_possible}

module _ (v : View) (live : IsAwake v) (possible : IsReachable v) where
  pub count_possible : (c : ℕ) → IsClass c → (f : ℕ) × IsReachable (view_after (ReadCount c f) v)
  count_possible c low = next_possible v live possible (λ f. ReadCount c f) (count_of_class c) (λ _. refl) (λ _. refl) (λ es id knows. low)

  pub lower_possible : (c old : ℕ) → IsClass c → 0 < old → flight v.log ≡ 0 → owes v.log ≡ 0 → (f : ℕ) × IsReachable (view_after (LowerCount c old f) v)
  lower_possible c old low up idle none = next_possible v live possible (λ f. LowerCount c old f) (count_of_class c) (λ _. refl) (λ _. refl) (λ es id knows. (low, up, idle, none))

  pub free_possible : (w : ℕ) → w < 224 → (f : ℕ) × IsReachable (view_after (ReadFree w f) v)
  free_possible w low = next_possible v live possible (λ f. ReadFree w f) (bits w) (λ _. refl) (λ _. refl) (λ es id knows. low)

  pub take_possible : (t : ℕ) → IsTableName v.shape t → stage t v.log ≡ 0 → flight v.log ≡ 2 * class_of t + 1 → (f : ℕ) × (s : Snap) × IsReachable (view_after (TakeTable t f s) v)
  take_possible t table none fl =
      let es = possible.0 in
      let id = possible.1 in
      let knows = possible.2 in
      let k = v.shape in
      let f = word k es (bits (free_word_of t)) in
      let s = snap (run k es) (history es) in
      (f, s, (did id v (TakeTable t f s) ∷ es, id, ((knows.0, (knows.1, live.0, refl, (table, none, refl, fl), live.1)), set_at (run k es).views id v (view_after (TakeTable t f s) v) knows.1)))

  pub raise_possible : (c : ℕ) → IsClass c → (flight v.log ≡ 2 * c + 1) ⊎ (flight v.log ≡ 2 * c + 2) → (f : ℕ) × IsReachable (view_after (RaiseCount c f) v)
  raise_possible c low fl = next_possible v live possible (λ f. RaiseCount c f) (count_of_class c) (λ _. refl) (λ _. refl) (λ es id knows. (low, fl))

-- from a count that was found above 0: lowered, and a bit taken, or raised again
pub taking_ends : (v : View) → IsAwake v → IsReachable v → (t old : ℕ) → IsTableName v.shape t → 0 < old → flight v.log ≡ 0 → owes v.log ≡ 0 → stage t v.log ≡ 0 → Ends v
taking_ends v live possible t old table up idle none mine =
    let c = class_of t in
    let a = lower_possible v live possible c old table.0 up idle none in
    let f = a.0 in
    let v1 = view_after (LowerCount c old f) v in
    dite (ℕ_discrete f old)
    (λ (e : f ≡ old).
    let fl : flight v1.log ≡ 2 * c + 1 = here f old (2 * c + 1) (flight v.log) e in
    let b = take_possible v1 live a.1 t table mine fl in
    let g = b.0 in
    let v2 = view_after (TakeTable t g b.1) v1 in
    dite (ℕ_discrete (bit (free_bit_of t) g) 1)
    (λ (one : bit (free_bit_of t) g ≡ 1). record { view = v2; possible = b.2; idle = here (bit (free_bit_of t) g) 1 0 (flight v1.log) one })
    (λ no. let d = raise_possible v2 live b.2 c table.0 (inl (miss (bit (free_bit_of t) g) 1 0 (flight v1.log) no ∙ fl)) in record { view = view_after (RaiseCount c d.0) v2; possible = d.1; idle = refl }))
    (λ no. record { view = v1; possible = a.1; idle = miss f old (2 * c + 1) (flight v.log) no ∙ idle })
