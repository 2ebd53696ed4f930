-- What a pass with the lock of a dict reads at a key.
use Rattle.std.specs.Prelude.{◌≡◌, ℕ, false, [], ◌∷◌, Option, Some, None}
use Rattle.ft_layout.specs.declared.slot.Stored.TheVariants.{Plain}
use Rattle.ft_layout.specs.Words.{IsStored}
use Rattle.ft_model.specs.declared.content.Content.{Content}
use Rattle.ft_model.specs.declared.content.Content.TheVariants as content
use Rattle.ft_model.specs.declared.data.Key.{Key}
use Rattle.ft_model.specs.declared.data.Value.{Value}
use Rattle.ft_model.specs.Contents.{DictContent, has_key}
use Rattle.ft_trace.specs.Kinds.{under}

-- the content is that of a dict, which has the words of this value under the key; or has not the key (profile)
abbrev pub HasValue : Content → Key → Option Value → Type 0
HasValue c key (Some value) =
    (pairs : DictContent) × (c ≡ content.Dict pairs)
    × ((kind payload serial : ℕ) × (under (content.Dict pairs) key ≡ kind ∷ payload ∷ serial ∷ [])
    × IsStored kind payload (Plain value))
HasValue c key None = (pairs : DictContent) × (c ≡ content.Dict pairs) × (has_key pairs.pairs key ≡ false)
