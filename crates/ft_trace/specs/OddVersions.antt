-- When versions of entries or items may be odd, and how far they rise. `at` says where the version of each of m of them
-- lies.
use Rattle.std.specs.Prelude.{◌≡◌, ℕ, ◌+◌, ◌*◌, ◌%◌, ◌<◌, ◌≤◌, List, Bool, true, false, slice_index}

-- none is open
abbrev pub Shut : (ℕ → ℕ) → ℕ → List ℕ → Type 0
Shut at m ws = (p : ℕ) → p < m → slice_index ws (at p) % 2 ≡ 0

-- one is opened before the commit of the write, and closed after it
pub record Timely (at : ℕ → ℕ) (m i x : ℕ) (committed : Bool) : Type 0 where
  pub before : (p : ℕ) → p < m → i ≡ at p → x % 2 ≡ 1 → committed ≡ false
  pub later : (p : ℕ) → p < m → i ≡ at p → x % 2 ≡ 0 → committed ≡ true

-- no version is above twice the counter, plus 1 while its write has not committed
pub record Low (at : ℕ → ℕ) (m : ℕ) (ws : List ℕ) (count : ℕ) (committed : Bool) : Type 0 where
  pub even : (p : ℕ) → p < m → slice_index ws (at p) % 2 ≡ 0 → slice_index ws (at p) ≤ 2 * count
  pub odd : (p : ℕ) → p < m → slice_index ws (at p) ≤ 2 * count + 1
  pub written : committed ≡ true → (p : ℕ) → p < m → slice_index ws (at p) ≤ 2 * count
