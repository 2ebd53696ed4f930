-- What a writer may do to a table of a dict or set while others read it without the lock. Entries have versions; one is
-- odd while its entry is being written. (profile)
use Rattle.std.specs.Prelude.{◌≡◌, ◌≢◌, ◌⊎◌, ℕ, suc, ◌+◌, ◌%◌, ◌<◌, ◌≤◌, List, [], ◌∷◌}
use Rattle.ft_model.specs.declared.data.Key.{Key}
use Rattle.ft_layout.specs.Words.{FitsKey, key_kind, gone_kind, key_payload}
use Rattle.ft_trace.specs.Pictures.{index_field, entry_offset, entry_field, Met}

-- what a content has under each key, in words: the value's kind and payload, and the serial; nothing where the key is
-- not there
abbrev pub Pairs : Type 0
Pairs = Key → List ℕ

-- what an entry says of its key
abbrev pub said_of : ℕ → List ℕ → ℕ → List ℕ
said_of n ws p = entry_field n ws p 4 ∷ entry_field n ws p 5 ∷ entry_field n ws p 6 ∷ []

-- the entry has the key, and the key was deleted
abbrev pub HasLiveKey : ℕ → List ℕ → ℕ → Key → Type 0
HasLiveKey n ws p key = (entry_field n ws p 2 ≡ key_kind key) × (entry_field n ws p 3 ≡ key_payload key)

abbrev pub IsDead : ℕ → List ℕ → ℕ → Key → Type 0
IsDead n ws p key = (entry_field n ws p 2 ≡ gone_kind key) × (entry_field n ws p 3 ≡ key_payload key)

-- the walk of the key meets an entry of it, which is live or being written
pub record Reached (n m : ℕ) (ws walk : List ℕ) (key : Key) : Type 0 where
  pub place : ℕ
  pub low : place < m
  pub mine : HasLiveKey n ws place key ⊎ IsDead n ws place key
  pub met : Met n ws walk (suc place)
  pub alive : (entry_field n ws place 2 ≡ key_kind key) ⊎ (entry_field n ws place 0 % 2 ≡ 1)

-- the entry is of this key, which is there or was deleted
abbrev pub IsOf : ℕ → List ℕ → ℕ → Key → Type 0
IsOf n ws p key = HasLiveKey n ws p key ⊎ IsDead n ws p key

-- each entry whose version is odd is of a key under which d has something else than c
abbrev pub OpensChanged : ℕ → ℕ → List ℕ → Pairs → Pairs → Type 0
OpensChanged n m ws c d =
    (p : ℕ) → p < m → entry_field n ws p 0 % 2 ≡ 1 → (key : Key) × IsOf n ws p key × (d key ≢ c key)

-- what holds of a table that a root names at every moment, also while its container is written: a live entry with an
-- even version says what the content has under its key; an index word names an entry with a key; the walk of each key
-- of the content that fits its words meets its entry
pub record Sound (walk : Key → List ℕ) (n m : ℕ) (ws : List ℕ) (c : Pairs) : Type 0 where
  pub right : (p : ℕ) (key : Key) → p < m → entry_field n ws p 0 % 2 ≡ 0 → HasLiveKey n ws p key
      → c key ≡ said_of n ws p
  pub named : (s p : ℕ) → s < n → p < m → index_field ws s ≡ suc p → entry_field n ws p 2 ≢ 0
  pub reached : (key : Key) → FitsKey key → c key ≢ [] → Reached n m ws (walk key) key

-- word i may become x
pub record Careful (n m : ℕ) (ws : List ℕ) (c : Pairs) (i x : ℕ) : Type 0 where
  -- an index word is put over 0 alone, and names an entry with a key
  pub index : (s : ℕ) → s < n → i ≡ s → index_field ws s ≡ 0
  pub names : (s : ℕ) → s < n → i ≡ s → (p : ℕ) → p < m → x ≡ suc p → entry_field n ws p 2 ≢ 0
  -- words of an entry are put while its version is odd, hash and key's payload before its kind
  pub odd : (p w : ℕ) → p < m → 0 < w → w < 8 → i ≡ entry_offset n p w → entry_field n ws p 0 % 2 ≡ 1
  pub key : (p w : ℕ) → p < m → (w ≡ 1) ⊎ (w ≡ 3) → i ≡ entry_offset n p w → entry_field n ws p 2 ≡ 0
  -- a kind is put last, and changes from live to deleted alone
  pub kind : (p : ℕ) → p < m → i ≡ entry_offset n p 2 → x ≢ 0
  pub dies : (p : ℕ) → p < m → i ≡ entry_offset n p 2 → entry_field n ws p 2 ≢ 0 → (entry_field n ws p 2 < 3)
      × (x ≡ entry_field n ws p 2 + 2)
  -- versions go up by one; that of a deleted entry stays even
  pub version : (p : ℕ) → p < m → i ≡ entry_offset n p 0 → x ≡ suc (entry_field n ws p 0)
  pub opens : (p : ℕ) → p < m → i ≡ entry_offset n p 0 → x % 2 ≡ 1 → entry_field n ws p 2 < 3
  -- an entry is closed where it says what the content has
  pub closes : (p : ℕ) (key : Key) → p < m → i ≡ entry_offset n p 0 → x % 2 ≡ 0 → HasLiveKey n ws p key
      → c key ≡ said_of n ws p
  pub shuts : (p : ℕ) (key : Key) → p < m → i ≡ entry_offset n p 0 → x % 2 ≡ 0 → IsDead n ws p key → c key ≡ []

-- a write may be committed that leaves d of the content c: it changes nothing that an entry with an even version says,
-- it changes what is under the key of each entry with an odd one, and a key that it adds, and that fits its words, has
-- its entry
pub record Clear (walk : Key → List ℕ) (n m : ℕ) (ws : List ℕ) (c d : Pairs) : Type 0 where
  pub keeps : (p : ℕ) (key : Key) → p < m → entry_field n ws p 0 % 2 ≡ 0 → HasLiveKey n ws p key → d key ≡ c key
  pub opens : OpensChanged n m ws c d
  pub adds : (key : Key) → FitsKey key → c key ≡ [] → d key ≢ [] → Reached n m ws (walk key) key

-- what stays between two moments in which one root names the table
pub record Later (n m : ℕ) (ws zs : List ℕ) : Type 0 where
  pub index : (s : ℕ) → s < n → index_field ws s ≢ 0 → index_field zs s ≡ index_field ws s
  pub kind : (p : ℕ) → p < m → entry_field n ws p 2 ≢ 0
      → (entry_field n zs p 2 ≡ entry_field n ws p 2) ⊎ ((entry_field n ws p 2 < 3)
      × (entry_field n zs p 2 ≡ entry_field n ws p 2 + 2))
  pub hash : (p : ℕ) → p < m → entry_field n ws p 2 ≢ 0 → entry_field n zs p 1 ≡ entry_field n ws p 1
  pub key : (p : ℕ) → p < m → entry_field n ws p 2 ≢ 0 → entry_field n zs p 3 ≡ entry_field n ws p 3
  pub version : (p : ℕ) → p < m → entry_field n ws p 0 ≤ entry_field n zs p 0
  pub same : (p w : ℕ) → p < m → 0 < w → w < 8 → entry_field n ws p 0 % 2 ≡ 0
      → entry_field n zs p 0 ≡ entry_field n ws p 0
      → entry_field n zs p w ≡ entry_field n ws p w
  pub gone : (p : ℕ) → p < m → 3 ≤ entry_field n ws p 2 → entry_field n ws p 0 % 2 ≡ 0
      → entry_field n zs p 0 ≡ entry_field n ws p 0
