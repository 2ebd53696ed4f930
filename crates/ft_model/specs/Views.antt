-- The keys and items of dicts as sets. (Python manual, Dictionary view objects:
-- keys views are set-like, with the operations of sets. In which order keys come: profile)
use Rattle.std.specs.Prelude.{Bool, not, List, ◌++◌, map, filter}
use Rattle.ft_model.specs.declared.data.Key.{Key}
use Rattle.ft_model.specs.declared.data.Value.{Value}
use Rattle.ft_model.specs.declared.content.DictPair.{DictPair}
use Rattle.ft_model.specs.Contents.{has_key, has_pair}

-- ---- keys

-- `d.keys()`, in order (Python manual, Dictionary view objects)
abbrev pub keys_in : List DictPair → List Key
keys_in pairs = map (λ pair. pair.key) pairs

-- `d.keys() & e.keys()`: those that both have, in the order of the first (profile)
abbrev pub keys_and : List DictPair → List DictPair → List Key
keys_and pairs others = keys_in (filter (λ pair. has_key others pair.key) pairs)

-- `d.keys() - e.keys()`: those that the second hasn't, in the order of the first (profile)
abbrev pub keys_sub : List DictPair → List DictPair → List Key
keys_sub pairs others = keys_in (filter (λ pair. not (has_key others pair.key)) pairs)

-- `d.keys() | e.keys()`: those of the first, then those of the second that the first hasn't (profile)
abbrev pub keys_or : List DictPair → List DictPair → List Key
keys_or pairs others = keys_in pairs ++ keys_sub others pairs

-- `d.keys() ^ e.keys()`: those of the first that the second hasn't, then those of the second that the first hasn't
-- (profile)
abbrev pub keys_xor : List DictPair → List DictPair → List Key
keys_xor pairs others = keys_sub pairs others ++ keys_sub others pairs

-- ---- items

-- `(k, v) in d.items()`: the key is there, with an equal value (Python manual, Dictionary view objects)
abbrev pub has_item : List DictPair → Key → Value → Bool
has_item pairs key value = has_pair pairs (record { serial = 0; key = key; value = value })
