-- A put of a value word, for readers without the lock.
use Rattle.std.specs.Prelude.{◌≡◌, ◌≢◌, ℕ, ◌%◌, ◌<◌, List}
use Rattle.ft_model.specs.declared.data.Key.{Key}
use Rattle.ft_model.specs.declared.data.Value.{Value}
use Rattle.ft_trace.specs.Pictures.{index_field, entry_field, item_field}
use Rattle.ft_trace.specs.Carefuls.{Pairs, Sound}
use Rattle.ft_trace.specs.ItemWords.{ItemSound}

-- the tables differ in the value of the entry p alone
pub record SameButValue (n m p : ℕ) (ws zs : List ℕ) : Type 0 where
  pub index : (s : ℕ) → s < n → index_field zs s ≡ index_field ws s
  pub words : (q w : ℕ) → q < m → w < 8 → w ≢ 4 → w ≢ 5 → entry_field n zs q w ≡ entry_field n ws q w
  pub others : (q w : ℕ) → q < m → q ≢ p → w < 8 → entry_field n zs q w ≡ entry_field n ws q w

pub record SameButItem (n p : ℕ) (ws zs : List ℕ) : Type 0 where
  pub versions : (q : ℕ) → q < n → item_field zs q 0 ≡ item_field ws q 0
  pub others : (q w : ℕ) → q < n → q ≢ p → w < 4 → item_field zs q w ≡ item_field ws q w

-- What holds of a table at every moment holds whatever the value of an entry or item reads whose version is odd.
abbrev pub OddValuesMayBeAny : Type 0
OddValuesMayBeAny =
    ((walk : Key → List ℕ) (n m p : ℕ) (ws zs : List ℕ) (c : Pairs) → Sound walk n m ws c → SameButValue n m p ws zs
    → entry_field n ws p 0 % 2 ≡ 1 → Sound walk n m zs c)
    × ((n p : ℕ) (ws zs : List ℕ) (values : List Value) → ItemSound n ws values → SameButItem n p ws zs
    → item_field ws p 0 % 2 ≡ 1 → ItemSound n zs values)
