-- What the pairs of a dict and the elements of a set have in common: a key and a serial.
use Rattle.std.specs.Prelude.{◌≡◌, ◌≢◌, ℕ, ◌<◌, Bool, List, map, Option, option_map, AllPairs}
use Rattle.std.specs.List.{find}
use Rattle.std.specs.BTreeMap.{BTreeMap, keys, values}
use Rattle.std.specs.HashMap.{HashMap, get_by}
use Rattle.ft_model.specs.declared.data.Key.{Key}
use Rattle.ft_model.specs.Keys.{same_key}

module _ {A : Type 0} (key : A → Key) where
  -- whether the member has the key (Python manual, Mapping Types)
  abbrev pub is_member : Key → A → Bool
  is_member wanted member = same_key (key member) wanted

  module _ (serial : A → ℕ) where
    -- the serial at the key, if a member has the key (profile)
    abbrev pub serial_at : List A → Key → Option ℕ
    serial_at members wanted = option_map serial (find (is_member wanted) members)

    -- keys are distinct (Python manual, Mapping Types and Set Types), and serials rise (profile)
    pub record AreMembers (members : List A) : Type 0 where
      pub distinct : AllPairs (λ a b. key a ≢ key b) members
      pub rising : AllPairs (λ a b. serial a < serial b) members

    -- each member stands at its serial, and the table has the serial of each key (profile)
    pub record AreKept {S : Type 0} (members : BTreeMap ℕ A) (serials : HashMap Key ℕ S) : Type 0 where
      pub are : AreMembers (values members)
      pub placed : keys members ≡ map serial (values members)
      pub found : (wanted : Key) → get_by (same_key wanted) serials ≡ serial_at (values members) wanted
