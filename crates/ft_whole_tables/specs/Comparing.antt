-- What loads of the words of two dicts, or of two sets, show of both.
use Rattle.std.specs.Prelude.{◌≡◌, ℕ, Bool, false, not, ◌<◌, if◌then◌else◌}
use Rattle.std.specs.Prelude.{List, length, Option, slice_index_or}
use Rattle.std.specs.Option.{option_map_or}
use Rattle.ft_layout.specs.Tables.{UsedEntry, hash_of}
use Rattle.ft_model.specs.declared.data.Key.{Key}
use Rattle.ft_model.specs.declared.data.Value.{Value}
use Rattle.ft_model.specs.Contents.{DictContent, SetContent, dict_get, has_element}
use Rattle.ft_model.specs.Keys.{is_value}
use Rattle.ft_trace.specs.declared.Shape.{Shape}
use Rattle.ft_trace.specs.Pictures.{ContainerWords}
use Rattle.ft_whole_tables.specs.ShownContents.{IsOfDict, IsOfSet}
use Rattle.ft_whole_tables.specs.TableEntries.{OfUsed, live_key, plain_pair}

-- where these words stand for two dicts, or for two sets, this is so of them
abbrev pub AreOfDicts : Shape → (DictContent → DictContent → Type 0) → ContainerWords → ContainerWords → Type 0
AreOfDicts k holds x y = IsOfDict k (λ dict. IsOfDict k (holds dict) y) x

abbrev pub AreOfSets : Shape → (SetContent → SetContent → Type 0) → ContainerWords → ContainerWords → Type 0
AreOfSets k holds x y = IsOfSet k (λ set. IsOfSet k (holds set) y) x

-- where the root of one names the table t, and the words of the other stand for a dict, or for a set, this is so of the
-- used entries of the one and of the other
abbrev pub WithDict : Shape → ℕ → (List UsedEntry → DictContent → Type 0) → ContainerWords → ContainerWords → Type 0
WithDict k t holds x y = OfUsed k t (λ used. IsOfDict k (holds used) y) x

abbrev pub WithSet : Shape → ℕ → (List UsedEntry → SetContent → Type 0) → ContainerWords → ContainerWords → Type 0
WithSet k t holds x y = OfUsed k t (λ used. IsOfSet k (holds used) y) x

-- ---- sets

-- the key is an element as wanted: it is one, or it is none
abbrev pub is_met : Bool → SetContent → Key → Bool
is_met wanted set key = if wanted then has_element set.elements key else not (has_element set.elements key)

abbrev pub MeetsAt : Bool → ℕ → Bool → List UsedEntry → SetContent → Type 0
MeetsAt wanted place found used set =
    (any : UsedEntry) → place < length used
    → found ≡ option_map_or (is_met wanted set) (live_key (slice_index_or used place any)) false

-- ---- dicts

-- where this is the key's hash, the words stand for a dict that has this value at the key, or none
abbrev pub IsValueIn : Shape → ℕ → Key → Option Value → ContainerWords → Type 0
IsValueIn k hash key found x = hash ≡ hash_of k.texts key → IsOfDict k (λ dict. dict_get dict.pairs key ≡ found) x

-- the dict hasn't this value at this key (Python manual, Mapping Types)
abbrev pub lacks_value : DictContent → Key × Value → Bool
lacks_value dict pair = not (option_map_or (λ value. is_value value pair.1) (dict_get dict.pairs pair.0) false)

abbrev pub DiffersAt : ℕ → Bool → List UsedEntry → DictContent → Type 0
DiffersAt place found used dict =
    (any : UsedEntry) → place < length used
    → found ≡ option_map_or (lacks_value dict) (plain_pair (slice_index_or used place any)) false
