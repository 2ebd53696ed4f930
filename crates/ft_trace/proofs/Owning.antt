-- Lists of owners, and what a pass has had and found.
use Rattle.std.proofs.Common.{◌≡◌, ◌≢◌, ℕ, eqb, ◌⊎◌, Bool, true, false, cond, List, [], ◌∷◌, ◌++◌, inl, inr, ⊎_elim, refl, sym, ap, ◌∙◌, subst}
use mathlib.Core.Logic.{dite}
use native.Mathlib.Decide.{ℕ_discrete}
use Rattle.ft_trace.specs.declared.Act.{Act}
use Rattle.ft_trace.specs.declared.Act.TheVariants.{Lock, Unlock, TookOver}
use Rattle.ft_trace.specs.declared.Owner.{Owner}
use Rattle.ft_trace.specs.declared.View.{View}
use Rattle.ft_trace.specs.Acts.{has_lock, has_lock_next}
use Rattle.ft_trace.specs.Owners.{is_owner_in, had_locks, had_locks_next, found_owners, found_owners_next, SameOwners, LocksOnly, FindsMore}
use Rattle.ft_trace.proofs.Cases.{hit, miss, here, off}

-- ---- lists of owners

module _ (o q : ℕ) where
  abbrev Is : List Owner → Type 0
  Is owners = is_owner_in o q owners ≡ true

  more : (a b x y : Bool) → (x ≡ true → y ≡ true) → cond a (cond b true x) x ≡ true → cond a (cond b true y) y ≡ true
  more true true x y up e = refl
  more true false x y up e = up e
  more false b x y up e = up e

  later : (a b x : Bool) → x ≡ true → cond a (cond b true x) x ≡ true
  later true true x e = refl
  later true false x e = e
  later false b x e = e

  pub one_or : (a b x : Bool) → cond a (cond b true x) x ≡ true → ((a ≡ true) × (b ≡ true)) ⊎ (x ≡ true)
  one_or true true x e = inl (refl, refl)
  one_or true false x e = inr e
  one_or false b x e = inr e

  pub in_left : (xs ys : List Owner) → Is xs → Is (xs ++ ys)
  in_left [] ys e = off e
  in_left (x ∷ xs) ys e = more (eqb x.container o) (eqb x.pass q) (is_owner_in o q xs) (is_owner_in o q (xs ++ ys)) (in_left xs ys) e

  pub in_right : (xs ys : List Owner) → Is ys → Is (xs ++ ys)
  in_right [] ys e = e
  in_right (x ∷ xs) ys e = later (eqb x.container o) (eqb x.pass q) (is_owner_in o q (xs ++ ys)) (in_right xs ys e)

  pub in_either : (xs ys : List Owner) → Is (xs ++ ys) → Is xs ⊎ Is ys
  in_either [] ys e = inr e
  in_either (x ∷ xs) ys e =
      ⊎_elim (λ (z : (eqb x.container o ≡ true) × (eqb x.pass q ≡ true)). inl (both_here x xs z.0 z.1))
      (λ (z : Is (xs ++ ys)). ⊎_elim (λ (l : Is xs). inl (later (eqb x.container o) (eqb x.pass q) (is_owner_in o q xs) l)) (λ (r : Is ys). inr r) (in_either xs ys z))
      (one_or (eqb x.container o) (eqb x.pass q) (is_owner_in o q (xs ++ ys)) e)
    where
      both_here : (x : Owner) (xs : List Owner) → eqb x.container o ≡ true → eqb x.pass q ≡ true → Is (x ∷ xs)
      both_here x xs a b = ap (λ (z : Bool). cond z (cond (eqb x.pass q) true (is_owner_in o q xs)) (is_owner_in o q xs)) a ∙ ap (λ (z : Bool). cond z true (is_owner_in o q xs)) b

  pub is_first : (owners : List Owner) → Is (record { container = o; pass = q } ∷ owners)
  is_first owners = hit o (cond (eqb q q) true (is_owner_in o q owners)) (is_owner_in o q owners) ∙ hit q true (is_owner_in o q owners)

  -- one more lock, or one more owner
  by_free : (f : ℕ) (one : Owner) (owners : List Owner) → Is owners → Is (cond (eqb f 0) (one ∷ owners) owners)
  by_free f one owners e =
      dite (ℕ_discrete f 0)
      (λ (free : f ≡ 0). ap (is_owner_in o q) (here f 0 (one ∷ owners) owners free) ∙ later (eqb one.container o) (eqb one.pass q) (is_owner_in o q owners) e)
      (λ (taken : f ≢ 0). ap (is_owner_in o q) (miss f 0 (one ∷ owners) owners taken) ∙ e)

  by_taken : (f : ℕ) (one : Owner) (owners : List Owner) → Is owners → Is (cond (eqb f 0) owners (one ∷ owners))
  by_taken f one owners e =
      dite (ℕ_discrete f 0)
      (λ (free : f ≡ 0). ap (is_owner_in o q) (here f 0 owners (one ∷ owners) free) ∙ e)
      (λ (taken : f ≢ 0). ap (is_owner_in o q) (miss f 0 owners (one ∷ owners) taken) ∙ later (eqb one.container o) (eqb one.pass q) (is_owner_in o q owners) e)

  -- what a pass has had it has had for good
  pub had_grows : (number : ℕ) (a : Act) (owners : List Owner) → Is owners → Is (had_locks_next number a owners)
  had_grows number (Lock p f s) owners e = by_free f (record { container = p; pass = number }) owners e
  had_grows number (TookOver tables had found told) owners e = in_right had owners e
  had_grows number act owners e = e

  pub had_stays : (number : ℕ) (newer l : List Act) → Is (had_locks number l) → Is (had_locks number (newer ++ l))
  had_stays number [] l e = e
  had_stays number (a ∷ newer) l e = had_grows number a (had_locks number (newer ++ l)) (had_stays number newer l e)

  -- and whom it has found it has found for good
  pub found_grows : (a : Act) (owners : List Owner) → Is owners → Is (found_owners_next a owners)
  found_grows (Lock p f s) owners e = by_taken f (record { container = p; pass = f }) owners e
  found_grows (TookOver tables had found told) owners e = in_right found owners e
  found_grows act owners e = e

  pub found_stays : (newer l : List Act) → Is (found_owners l) → Is (found_owners (newer ++ l))
  found_stays [] l e = e
  found_stays (a ∷ newer) l e = found_grows a (found_owners (newer ++ l)) (found_stays newer l e)

-- a pass has had each lock that it has
module _ (o number : ℕ) where
  has_had_next : (a : Act) (b : Bool) (owners : List Owner) → (b ≡ true → is_owner_in o number owners ≡ true) → has_lock_next o a b ≡ true → is_owner_in o number (had_locks_next number a owners) ≡ true
  has_had_next (Lock p f s) b owners old has =
      dite (ℕ_discrete p o)
      (λ (same : p ≡ o).
      dite (ℕ_discrete f 0)
      (λ (free : f ≡ 0). ap (is_owner_in o number) (here f 0 (record { container = p; pass = number } ∷ owners) owners free) ∙ subst (λ (z : ℕ). is_owner_in o number (record { container = z; pass = number } ∷ owners) ≡ true) (sym same) (is_first o number owners))
      (λ (taken : f ≢ 0). had_grows o number number (Lock p f s) owners (old (sym (here p o (cond (eqb f 0) true b) b same ∙ miss f 0 true b taken) ∙ has))))
      (λ (apart : p ≢ o). had_grows o number number (Lock p f s) owners (old (sym (miss p o (cond (eqb f 0) true b) b apart) ∙ has)))
  has_had_next (Unlock p) b owners old has =
      dite (ℕ_discrete p o) (λ (same : p ≡ o). off (sym (here p o false b same) ∙ has)) (λ (apart : p ≢ o). old (sym (miss p o false b apart) ∙ has))
  has_had_next (TookOver tables had found told) b owners old has = in_right o number had owners (old has)
  has_had_next act b owners old has = old has

  pub has_had : (l : List Act) → has_lock o l ≡ true → is_owner_in o number (had_locks number l) ≡ true
  has_had [] has = off has
  has_had (a ∷ l) has = has_had_next a (has_lock o l) (had_locks number l) (has_had l) has

-- ---- what stays

pub same_owners : (v : View) → SameOwners v v
same_owners v = record { had = refl; found = refl }

pub owners_then : (u v w : View) → SameOwners u v → SameOwners v w → SameOwners u w
owners_then u v w a b = record { had = b.had ∙ a.had; found = b.found ∙ a.found }

pub same_locks_only : (P : ℕ → Type 0) (v w : View) → SameOwners v w → LocksOnly P v w
same_locks_only P v w same o q is = inl (sym (ap (is_owner_in o q) same.had) ∙ is)

pub locks_only_then : (P : ℕ → Type 0) (u v w : View) → w.number ≡ v.number → LocksOnly P u v → LocksOnly P v w → LocksOnly P u w
locks_only_then P u v w number a b o q is =
    ⊎_elim (λ old. ⊎_elim (λ z. inl z) (λ (z : (q ≡ v.number) × P o). inr (z.0 ∙ sym number, z.1)) (a o q old)) (λ z. inr z) (b o q is)

pub locks_only_weaker : (P Q : ℕ → Type 0) (v w : View) → ((o : ℕ) → P o → Q o) → LocksOnly P v w → LocksOnly Q v w
locks_only_weaker P Q v w leads a o q is = ⊎_elim (λ z. inl z) (λ (z : (q ≡ w.number) × P o). inr (z.0, leads o z.1)) (a o q is)

pub same_finds_more : (v w : View) → SameOwners v w → FindsMore v w
same_finds_more v w same o q is = ap (is_owner_in o q) same.found ∙ is

pub finds_more_then : (u v w : View) → FindsMore u v → FindsMore v w → FindsMore u w
finds_more_then u v w a b o q is = b o q (a o q is)

-- a log that has grown
pub grown_finds_more : (v w : View) (newer : List Act) → w.log ≡ newer ++ v.log → FindsMore v w
grown_finds_more v w newer grew o q is = ap (λ (l : List Act). is_owner_in o q (found_owners l)) grew ∙ found_stays o q newer v.log is
