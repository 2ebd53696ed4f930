-- What holds of a table while others read it without the lock, by the kind of the container whose root names it.
use Rattle.std.specs.Prelude.{ℕ, ◌==◌, ◌&&◌, Bool, List, [], ◌∷◌}
use Rattle.std.specs.List.{find}
use Rattle.std.specs.Option.{option_map_or}
use Rattle.ft_model.specs.declared.data.Key.{Key}
use Rattle.ft_model.specs.declared.content.DictPair.{DictPair}
use Rattle.ft_model.specs.declared.content.Element.{Element}
use Rattle.ft_model.specs.declared.content.Content.{Content}
use Rattle.ft_model.specs.declared.content.Content.TheVariants as content
use Rattle.ft_model.specs.declared.script.Kind.{Kind}
use Rattle.ft_model.specs.declared.script.Kind.TheVariants as kind
use Rattle.ft_model.specs.Worlds.{list_of}
use Rattle.ft_layout.specs.declared.slot.Stored.TheVariants.{Empty, Plain}
use Rattle.ft_layout.specs.Words.{key_kind, key_payload, stored_kind, stored_payload}
use Rattle.ft_model.specs.Classes.{set_entries}
use Rattle.ft_trace.specs.Addresses.{slots, places}
use Rattle.ft_trace.specs.Pictures.{walk_of, entry_offset, item_offset}
use Rattle.ft_trace.specs.Carefuls.{Sound, Careful, Clear, Later}
use Rattle.ft_trace.specs.ItemWords.{ItemSound, ItemCareful, ItemClear, ItemLater}

-- whether words of a key say this key
abbrev pub is_key : Key → Key → Bool
is_key a b = (key_kind a == key_kind b) && (key_payload a == key_payload b)

abbrev pub pair_words : DictPair → List ℕ
pair_words pair = stored_kind (Plain pair.value) ∷ stored_payload (Plain pair.value) ∷ pair.serial ∷ []

abbrev pub element_words : Element → List ℕ
element_words element = stored_kind Empty ∷ stored_payload Empty ∷ element.serial ∷ []

-- what a content has under a key, in words; a list and a deque have nothing under keys
abbrev pub under : Content → Key → List ℕ
under (content.Dict dict) key = option_map_or pair_words (find (λ pair. is_key pair.key key) dict.pairs) []
under (content.Set set) key = option_map_or element_words (find (λ element. is_key element.key key) set.elements) []
under (content.List values) key = []
under (content.Deque deque) key = []

-- How many entries or items with a version a table of this class has, and where the version of each lies. The items of
-- a deque have none, so none is read without the lock.
abbrev pub rows : Kind → ℕ → ℕ
rows kind.List class = slots class
rows kind.Dict class = places class
rows kind.Set class = set_entries class
rows (kind.Deque bound) class = 0

abbrev pub version_at : Kind → ℕ → ℕ → ℕ
version_at kind.List class p = item_offset p 0
version_at kind.Dict class p = entry_offset (slots class) p 0
version_at kind.Set class p = entry_offset (slots class) p 0
version_at (kind.Deque bound) class p = 0

abbrev pub SoundAs : Kind → List ℕ → ℕ → List ℕ → Content → Type 0
SoundAs kind.List texts class ws c = ItemSound (slots class) ws (list_of c)
SoundAs kind.Dict texts class ws c = Sound (walk_of kind.Dict texts class) (slots class) (places class) ws (under c)
SoundAs kind.Set texts class ws c = Sound (walk_of kind.Set texts class) (slots class) (set_entries class) ws (under c)
SoundAs (kind.Deque bound) texts class ws c = Unit {0}

abbrev pub CarefulAs : Kind → ℕ → List ℕ → Content → ℕ → ℕ → Type 0
CarefulAs kind.List class ws c i x = ItemCareful (slots class) ws (list_of c) i x
CarefulAs kind.Dict class ws c i x = Careful (slots class) (places class) ws (under c) i x
CarefulAs kind.Set class ws c i x = Careful (slots class) (set_entries class) ws (under c) i x
CarefulAs (kind.Deque bound) class ws c i x = Unit {0}

abbrev pub ClearAs : Kind → List ℕ → ℕ → List ℕ → Content → Content → Type 0
ClearAs kind.List texts class ws c d = ItemClear (slots class) ws (list_of c) (list_of d)
ClearAs kind.Dict texts class ws c d =
    Clear (walk_of kind.Dict texts class) (slots class) (places class) ws (under c) (under d)
ClearAs kind.Set texts class ws c d =
    Clear (walk_of kind.Set texts class) (slots class) (set_entries class) ws (under c) (under d)
ClearAs (kind.Deque bound) texts class ws c d = Unit {0}

abbrev pub LaterAs : Kind → ℕ → List ℕ → List ℕ → Type 0
LaterAs kind.List class ws zs = ItemLater (slots class) ws zs
LaterAs kind.Dict class ws zs = Later (slots class) (places class) ws zs
LaterAs kind.Set class ws zs = Later (slots class) (set_entries class) ws zs
LaterAs (kind.Deque bound) class ws zs = Unit {0}

-- the kinds whose tables have entries under keys, and the one whose tables have items
abbrev pub IsKeyed : Kind → Type 0
IsKeyed kind.Dict = Unit {0}
IsKeyed kind.Set = Unit {0}
IsKeyed kind.List = ⊥
IsKeyed (kind.Deque bound) = ⊥

abbrev pub IsItems : Kind → Type 0
IsItems kind.Dict = ⊥
IsItems kind.Set = ⊥
IsItems kind.List = Unit {0}
IsItems (kind.Deque bound) = ⊥

-- the kinds whose entries or items have versions
abbrev pub HasVersions : Kind → Type 0
HasVersions kind.Dict = Unit {0}
HasVersions kind.Set = Unit {0}
HasVersions kind.List = Unit {0}
HasVersions (kind.Deque bound) = ⊥
