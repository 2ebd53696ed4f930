-- What loads of the entries of a table show of a dict or a set.
use Rattle.std.specs.Prelude.{◌≡◌, ℕ, suc, ◌<◌, List, ◌∷◌, length, Option, Some, None, option_map, slice_index_or}
use Rattle.ft_layout.specs.declared.slot.Stored.{Stored}
use Rattle.ft_layout.specs.declared.slot.Stored.TheVariants.{Plain}
use Rattle.ft_layout.specs.Containers.{AreDictEntries, AreSetEntries, class_mask}
use Rattle.ft_layout.specs.Tables.{UsedEntry, hash_of}
use Rattle.ft_keys.specs.declared.walk.Way.{Way}
use Rattle.ft_keys.specs.Ways.{IsTableOf}
use Rattle.ft_model.specs.declared.content.Content.{Content}
use Rattle.ft_model.specs.declared.content.Content.TheVariants as content
use Rattle.ft_model.specs.declared.data.Key.{Key}
use Rattle.ft_model.specs.declared.data.Value.{Value}
use Rattle.ft_trace.specs.declared.Shape.{Shape}
use Rattle.ft_trace.specs.Addresses.{class_of, size, slots}
use Rattle.ft_trace.specs.Carefuls.{HasLiveKey}
use Rattle.ft_trace.specs.Pictures.{ContainerWords, entry_field, root_in}
use Rattle.ft_search.specs.declared.boxed.SeenValue.{SeenValue}

-- the key of a used entry, where it is there; with its value, as pairs of a dict have them
abbrev pub live_key : UsedEntry → Option Key
live_key entry = option_map (λ stored. entry.key) entry.stored

abbrev pub plain_with : Key → Option Stored → Option (Key × Value)
plain_with key (Some (Plain value)) = Some (key, value)
plain_with key stored = None

abbrev pub plain_pair : UsedEntry → Option (Key × Value)
plain_pair entry = plain_with entry.key entry.stored

-- where the root names the table t, which has these used entries, this holds of them
abbrev pub OfUsed : Shape → ℕ → (List UsedEntry → Type 0) → ContainerWords → Type 0
OfUsed k t holds x =
    root_in x ≡ suc t → (way : Way) (used : List UsedEntry)
    → IsTableOf way k.texts (class_mask (class_of t)) used (0 ∷ 0 ∷ x.table) → holds used

-- the entry at this place, where it is a used one, has this key and is there, or it isn't there
abbrev pub KeyIs : ℕ → Option Key → List UsedEntry → Type 0
KeyIs place found used = (any : UsedEntry) → place < length used → found ≡ live_key (slice_index_or used place any)

abbrev pub HashIs : List ℕ → ℕ → ℕ → List UsedEntry → Type 0
HashIs texts place hash used =
    (any : UsedEntry) → place < length used → hash ≡ hash_of texts (slice_index_or used place any).key

abbrev pub PlainIs : ℕ → Option (Key × Value) → List UsedEntry → Type 0
PlainIs place found used = (any : UsedEntry) → place < length used → found ≡ plain_pair (slice_index_or used place any)

-- where the root names the table t, this is the key of the entry at the place, in words and among used entries
abbrev pub IsKeyAt : Shape → ℕ → ℕ → Option Key → ContainerWords → Type 0
IsKeyAt k t place found x =
    OfUsed k t (KeyIs place found) x
    × (root_in x ≡ suc t → (key : Key) → found ≡ Some key → HasLiveKey (slots (class_of t)) x.table place key)

-- and this is its key and its value
abbrev pub IsPlainAt : Shape → ℕ → ℕ → Option (Key × Value) → ContainerWords → Type 0
IsPlainAt k t place found x =
    OfUsed k t (PlainIs place found) x
    × (root_in x ≡ suc t → (key : Key) (value : Value) → found ≡ Some (key, value)
    → HasLiveKey (slots (class_of t)) x.table place key)

-- where the root names the table t, which has as many words as its class says, this is what the value of the entry at
-- the place reads
abbrev pub IsSeenAt : ℕ → ℕ → SeenValue → ContainerWords → Type 0
IsSeenAt t place seen x =
    root_in x ≡ suc t → length x.table ≡ size (class_of t)
    → (seen.kind ≡ entry_field (slots (class_of t)) x.table place 4)
    × (seen.value ≡ entry_field (slots (class_of t)) x.table place 5)

-- these are the used entries of what a dict or a set has
abbrev pub AreEntriesOf : List UsedEntry → Content → Type 0
AreEntriesOf used (content.Dict dict) = AreDictEntries used dict
AreEntriesOf used (content.Set set) = AreSetEntries used set
AreEntriesOf used (content.List values) = ⊥
AreEntriesOf used (content.Deque deque) = ⊥
