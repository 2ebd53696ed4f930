-- A new key of a dict or a set: what its entry stores, what the container has then, and what the block counts.
use Rattle.std.specs.Prelude.{◌≡◌, ℕ, List, slice_index, slice_set}
use Rattle.ft_model.specs.declared.content.Content.{Content}
use Rattle.ft_model.specs.declared.content.Content.TheVariants as content
use Rattle.ft_model.specs.declared.data.Key.{Key}
use Rattle.ft_model.specs.declared.script.Kind.{Kind}
use Rattle.ft_model.specs.declared.script.Kind.TheVariants as kind
use Rattle.ft_model.specs.Contents.{dict_set, set_add}
use Rattle.ft_layout.specs.declared.slot.Stored.{Stored}
use Rattle.ft_layout.specs.declared.slot.Stored.TheVariants.{Empty, Plain}
use Rattle.ft_new_keys.specs.declared.counts.Counts.{Counts}

-- what the entry of a key stores, by the kind of the container: a dict has a value there, a set nothing
abbrev pub StoresAs : Kind → Stored → Type 0
StoresAs kind.Dict (Plain value) = Unit {0}
StoresAs kind.Set Empty = Unit {0}
StoresAs kind stored = ⊥

-- what a dict or a set has once a key is in it that was not there (Python manual, Mapping Types, Set Types)
abbrev pub with_key : Content → Key → Stored → Content
with_key (content.Dict dict) key (Plain value) = content.Dict (dict_set dict key value)
with_key (content.Set set) key stored = content.Set (set_add set key)
with_key content key stored = content

-- ---- words

-- The block says how many pairs or elements there are, how many entries were used, and the next serial. (profile)
abbrev pub AreCounts : List ℕ → Counts → Type 0
AreCounts block counts =
    (slice_index block 1 ≡ counts.count) × (slice_index block 2 ≡ counts.fill) × (slice_index block 3 ≡ counts.next)

-- a block with these
abbrev pub counted : List ℕ → ℕ → ℕ → ℕ → List ℕ
counted block count fill next = slice_set (slice_set (slice_set block 1 count) 2 fill) 3 next
