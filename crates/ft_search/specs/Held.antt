-- What a pass with the lock of a container reads of a key.
use Rattle.std.specs.Prelude.{◌≡◌, ℕ, suc, List, [], ◌∷◌, Option, Some, None, false, true}
use Rattle.ft_model.specs.declared.content.Content.{Content}
use Rattle.ft_model.specs.declared.content.Content.TheVariants as content
use Rattle.ft_model.specs.declared.data.Key.{Key}
use Rattle.ft_model.specs.Contents.{has_key, has_element}
use Rattle.ft_layout.specs.Tables.{entry_word}
use Rattle.ft_keys.specs.declared.search.Found.{Found}
use Rattle.ft_keys.specs.declared.search.Found.TheVariants as found
use Rattle.ft_trace.specs.declared.View.{View}
use Rattle.ft_trace.specs.Acts.{has_lock}
use Rattle.ft_trace.specs.Holds.{held_unboxed}
use Rattle.ft_trace.specs.Kinds.{under}
use Rattle.ft_trace.specs.Pictures.{root_in}

-- the pass has the lock of the container o, whose root names the table t
abbrev pub KnowsTable : ℕ → ℕ → View → Type 0
KnowsTable o t v = (has_lock o v.log ≡ true) × (root_in (held_unboxed o v) ≡ suc t)

-- the kind and the payload of the value were read, where a search ended at an entry
abbrev pub ReadsEntry : ℕ → List ℕ → Found → Option (ℕ × ℕ) → Type 0
ReadsEntry mask words (found.At slot place) (Some read) =
    (read.0 ≡ entry_word mask words place 4) × (read.1 ≡ entry_word mask words place 5)
ReadsEntry mask words (found.At slot place) None = ⊥
ReadsEntry mask words found (Some read) = ⊥
ReadsEntry mask words found None = Unit {0}

-- The content has these words under the key, a kind and a payload and then the serial; or it has not the key. A list
-- has no keys.
abbrev pub IsHeldAt : Content → Key → Option (ℕ × ℕ) → Type 0
IsHeldAt (content.List values) key read = ⊥
IsHeldAt (content.Deque deque) key read = ⊥
IsHeldAt (content.Dict dict) key (Some read) =
    (serial : ℕ) × (under (content.Dict dict) key ≡ read.0 ∷ read.1 ∷ serial ∷ [])
IsHeldAt (content.Dict dict) key None = has_key dict.pairs key ≡ false
IsHeldAt (content.Set set) key (Some read) =
    (serial : ℕ) × (under (content.Set set) key ≡ read.0 ∷ read.1 ∷ serial ∷ [])
IsHeldAt (content.Set set) key None = has_element set.elements key ≡ false
