-- What taking the locks of one container or of two comes to, by who has them.
use Rattle.std.proofs.Common.{◌≡◌, ◌≢◌, ℕ, ◌+◌, ◌<◌, ◌≤◌, Bool, true, false, List, [], ◌∷◌, Option, None, Some, refl, sym, ap, subst, ◌∙◌, arith, inl, inr}
use Rattle.std.specs.Prelude.{slice_set, ◌⊎◌, ◌||◌, ◌==◌, if◌then◌else◌}
use Rattle.std.specs.Option.{option_map}
use Rattle.std.proofs.lemmas.Bool.{eqb-true, eqb-false, eq-eqb, ne_eqb}
use Rattle.std.proofs.lemmas.Option.{none-some, same_Some}
use Rattle.std.proofs.lemmas.List.{get_or-set_other}
use Rattle.ft_section.specs.Floors.{owner_or}
use Rattle.ft_turns.specs.Orders.{Locking, holder_of, also_taken, take_locks}
use Rattle.ft_turns.proofs.LockLemmas.{by_lock, occ, occ-nil, occ-cons}
use Rattle.ft_turn_laws.specs.Placings.{times, pair_of}

pub times_occ : (o : ℕ) (xs : List ℕ) → times o xs ≡ occ o xs
times_occ o [] = sym (occ-nil o)
times_occ o (x ∷ xs) = ap (λ n. (if x == o then 1 else 0) + n) (times_occ o xs) ∙ sym (occ-cons o x xs)

-- Of a lock with this holder: another one that has it beside the thread, and whether the thread has it.
abbrev pub IsHeld : ℕ → Option ℕ → Option ℕ → Bool → Type 0
IsHeld thread holder other mine =
    ((holder ≡ None) × (other ≡ None) × (mine ≡ false))
    ⊎ (((holder ≡ Some thread) × (other ≡ None) × (mine ≡ true))
    ⊎ ((q : ℕ) × (holder ≡ Some q) × (q ≢ thread) × (other ≡ Some q) × (mine ≡ false)))

-- whom the taking finds, and what it has taken before
pub record Finds (lower : ℕ) (mine : Bool) (first : Option (ℕ × ℕ)) (locking : Locking) : Type 0 where
  pub found : locking.found ≡ option_map (λ x. x.1) first
  pub taken : (c q : ℕ) → first ≡ Some (c, q) → locking.taken ≡ (if (c == lower) || mine then [] else lower ∷ [])

-- the last lock
pub last_one : (thread : ℕ) (holders : List (Option ℕ)) (o : ℕ) (other : Option ℕ) (mine : Bool) → IsHeld thread (holder_of holders o) other mine
    → ((take_locks thread holders (o ∷ [])).found ≡ other) × ((q : ℕ) → other ≡ Some q → (take_locks thread holders (o ∷ [])).taken ≡ [])
last_one thread holders o other mine (inl free) =
    by_lock thread holders o [] (λ r. (r.found ≡ other) × ((q : ℕ) → other ≡ Some q → r.taken ≡ []))
    (λ none. (sym free.1, λ q some. absurd (none-some q (sym free.1 ∙ some))))
    (λ own. absurd (none-some thread (sym free.0 ∙ own)))
    (λ who differs is. absurd (none-some who (sym free.0 ∙ is)))
last_one thread holders o other mine (inr (inl own)) =
    by_lock thread holders o [] (λ r. (r.found ≡ other) × ((q : ℕ) → other ≡ Some q → r.taken ≡ []))
    (λ none. absurd (none-some thread (sym none ∙ own.0)))
    (λ is. (sym own.1, λ q some. refl))
    (λ who differs is. absurd (differs (same_Some who thread (sym is ∙ own.0))))
last_one thread holders o other mine (inr (inr another)) =
    by_lock thread holders o [] (λ r. (r.found ≡ other) × ((q : ℕ) → other ≡ Some q → r.taken ≡ []))
    (λ none. absurd (none-some another.0 (sym none ∙ another.1)))
    (λ own. absurd (another.2 (same_Some another.0 thread (sym another.1 ∙ own))))
    (λ who differs is. (sym is ∙ (another.1 ∙ sym another.3), λ q some. refl))

-- the last of the containers with its owner
last_found : (o : ℕ) (other : Option ℕ) → other ≡ option_map (λ x. x.1) (owner_or o other None)
last_found o None = refl
last_found o (Some q) = refl

last_is : (o c q : ℕ) (other : Option ℕ) → owner_or o other None ≡ Some (c, q) → (o ≡ c) × (other ≡ Some q)
last_is o c q None some = absurd (none-some (c, q) some)
last_is o c q (Some p) some = let same = same_Some (o, p) (c, q) some in (ap (λ x. x.0) same, ap (λ x. Some x.1) same)

-- one container alone
pub one_lock : (thread : ℕ) (holders : List (Option ℕ)) (lower : ℕ) (other : Option ℕ) (mine : Bool) → IsHeld thread (holder_of holders lower) other mine
    → Finds lower mine (owner_or lower other (owner_or lower other None)) (take_locks thread holders (lower ∷ []))
one_lock thread holders lower other mine held =
    let last = last_one thread holders lower other mine held in
    elim other as (λ o. other ≡ o → Finds lower mine (owner_or lower o (owner_or lower o None)) (take_locks thread holders (lower ∷ []))) [
      | None ↦ λ none. record { found = last.0 ∙ none; taken = λ c q some. absurd (none-some (c, q) some) }
      | Some q ↦ λ is. record {
        found = last.0 ∙ is;
        taken = λ c p some. last.1 q is ∙ sym (ap (λ b. if b || mine then [] else lower ∷ []) (eq-eqb c lower (sym (ap (λ x. x.0) (same_Some (lower, q) (c, p) some)))));
      }
    ] refl

module _ (thread : ℕ) (holders : List (Option ℕ)) (lower upper : ℕ) (other_lower other_upper : Option ℕ) (mine_lower mine_upper : Bool) (below : lower < upper) (here : IsHeld thread (holder_of holders upper) other_upper mine_upper) where
  abbrev first : Option ℕ → Option (ℕ × ℕ)
  first o = owner_or lower o (owner_or upper other_upper None)

  not_lower : (c : ℕ) → upper ≡ c → (c == lower) ≡ false
  not_lower c is = ne_eqb c lower (λ e. absurd (omega arith))

  after_free : other_lower ≡ None → mine_lower ≡ false → Finds lower mine_lower (first other_lower) (also_taken lower (take_locks thread (slice_set holders lower (Some thread)) (upper ∷ [])))
  after_free none lacks =
      let set_holders = slice_set holders lower (Some thread) in
      let kept : holder_of set_holders upper ≡ holder_of holders upper = get_or-set_other holders lower upper (Some thread) None (λ e. absurd (omega arith)) in
      let last = last_one thread set_holders upper other_upper mine_upper (subst (λ h. IsHeld thread h other_upper mine_upper) (sym kept) here) in
      record {
        found = last.0 ∙ (last_found upper other_upper ∙ ap (λ o. option_map (λ x. x.1) (first o)) (sym none));
        taken = λ c q some.
            let is = last_is upper c q other_upper (ap first (sym none) ∙ some) in
            ap (λ rest. lower ∷ rest) (last.1 q is.1)
            ∙ sym (ap (λ b. if b || mine_lower then [] else lower ∷ []) (not_lower c is.0) ∙ ap (λ b. if b then [] else lower ∷ []) lacks);
      }

  after_own : other_lower ≡ None → mine_lower ≡ true → Finds lower mine_lower (first other_lower) (take_locks thread holders (upper ∷ []))
  after_own none has =
      let last = last_one thread holders upper other_upper mine_upper here in
      record {
        found = last.0 ∙ (last_found upper other_upper ∙ ap (λ o. option_map (λ x. x.1) (first o)) (sym none));
        taken = λ c q some.
            let is = last_is upper c q other_upper (ap first (sym none) ∙ some) in
            last.1 q is.1
            ∙ sym (ap (λ b. if b || mine_lower then [] else lower ∷ []) (not_lower c is.0) ∙ ap (λ b. if b then [] else lower ∷ []) has);
      }

  stopped : (who : ℕ) → other_lower ≡ Some who → Finds lower mine_lower (first other_lower) (record { holders = holders; taken = []; found = Some who })
  stopped who is =
      record {
        found = ap (λ o. option_map (λ x. x.1) (first o)) (sym is);
        taken = λ c q some.
            let same : c ≡ lower = sym (ap (λ x. x.0) (same_Some (lower, who) (c, q) (ap first (sym is) ∙ some))) in
            sym (ap (λ b. if b || mine_lower then [] else lower ∷ []) (eq-eqb c lower same));
      }

  -- two containers
  pub two_locks : IsHeld thread (holder_of holders lower) other_lower mine_lower → Finds lower mine_lower (first other_lower) (take_locks thread holders (lower ∷ upper ∷ []))
  two_locks (inl free) =
      by_lock thread holders lower (upper ∷ []) (Finds lower mine_lower (first other_lower))
      (λ none. after_free free.1 free.2)
      (λ own. absurd (none-some thread (sym free.0 ∙ own)))
      (λ who differs is. absurd (none-some who (sym free.0 ∙ is)))
  two_locks (inr (inl own)) =
      by_lock thread holders lower (upper ∷ []) (Finds lower mine_lower (first other_lower))
      (λ none. absurd (none-some thread (sym none ∙ own.0)))
      (λ is. after_own own.1 own.2)
      (λ who differs is. absurd (differs (same_Some who thread (sym is ∙ own.0))))
  two_locks (inr (inr another)) =
      by_lock thread holders lower (upper ∷ []) (Finds lower mine_lower (first other_lower))
      (λ none. absurd (none-some another.0 (sym none ∙ another.1)))
      (λ own. absurd (another.2 (same_Some another.0 thread (sym another.1 ∙ own))))
      (λ who differs is. stopped who (another.3 ∙ (sym another.1 ∙ is)))

-- so of one or of two, the lower one first
pub finds : (thread : ℕ) (holders : List (Option ℕ)) (lower upper : ℕ) (other : ℕ → Option ℕ) (mine : ℕ → Bool) → lower ≤ upper
    → IsHeld thread (holder_of holders lower) (other lower) (mine lower) → IsHeld thread (holder_of holders upper) (other upper) (mine upper)
    → Finds lower (mine lower) (owner_or lower (other lower) (owner_or upper (other upper) None)) (take_locks thread holders (pair_of lower upper))
finds thread holders lower upper other mine order at_lower at_upper =
    elim (lower == upper) as (λ b. (lower == upper) ≡ b → Finds lower (mine lower) (owner_or lower (other lower) (owner_or upper (other upper) None)) (take_locks thread holders (if b then lower ∷ [] else lower ∷ upper ∷ []))) [
      | true ↦ λ same.
          subst (λ o. Finds lower (mine lower) (owner_or lower (other lower) (owner_or o (other o) None)) (take_locks thread holders (lower ∷ []))) (eqb-true lower upper same)
          (one_lock thread holders lower (other lower) (mine lower) at_lower)
      | false ↦ λ differ.
          let apart = eqb-false lower upper differ in
          let below : lower < upper = omega arith in
          two_locks thread holders lower upper (other lower) (other upper) (mine lower) (mine upper) below at_upper at_lower
    ] refl
