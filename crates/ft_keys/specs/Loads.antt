-- What a search loaded and what it was answered, slot by slot. No list of words is spoken of, as the loads may be of
-- many moments. Calls stand newest first.
use Rattle.std.specs.Prelude.{◌≡◌, ◌≢◌, ◌⊎◌, ℕ, suc, ◌+◌, ◌<◌, List, [], ◌∷◌, ◌++◌, Option, Some, None}
use Rattle.ft_model.specs.declared.data.Key.{Key}
use Rattle.ft_layout.specs.Words.{key_kind, gone_kind, key_payload}
use Rattle.ft_layout.specs.Tables.{dict_room}
use Rattle.ft_keys.specs.declared.words.Access.{Access}
use Rattle.ft_keys.specs.declared.words.Access.TheVariants.{Index, Entry}
use Rattle.ft_keys.specs.declared.search.Found.{Found}
use Rattle.ft_keys.specs.declared.search.Found.TheVariants.{At, Was, Free, Spent}
use Rattle.ft_keys.specs.declared.search.Compared.{Compared}
use Rattle.ft_keys.specs.declared.search.Compared.TheVariants.{Unused, Live, Gone, Other}
use Rattle.ft_keys.specs.Accesses.{Runs, index_loads}

-- the loads of a slot that names the entry at a place: its index word, and that entry's payload and kind
abbrev pub entry_loads : ℕ → ℕ → ℕ → ℕ → List Access
entry_loads slot place kind payload = Entry place 2 kind ∷ (Entry place 3 payload ∷ (Index slot (suc place) ∷ []))

-- By these loads the slot was used, and not for the key: its index word names no entry of the table, or one with another
-- payload, or one of another kind.
abbrev pub PassesSlot : ℕ → Key → ℕ → List Access → Type 0
PassesSlot mask key slot loads =
    ((word : ℕ) × (dict_room mask < word) × (loads ≡ Index slot word ∷ []))
    ⊎ (((place payload : ℕ) × (place < dict_room mask) × (payload ≢ key_payload key)
    × (loads ≡ Entry place 3 payload ∷ (Index slot (suc place) ∷ [])))
    ⊎ ((place kind payload : ℕ) × (place < dict_room mask) × (kind ≢ key_kind key) × (kind ≢ gone_kind key)
    × (loads ≡ entry_loads slot place kind payload)))

-- By these loads the slot names the entry at the place, which has the key's payload and this kind.
abbrev pub NamesEntry : ℕ → Key → ℕ → ℕ → ℕ → List Access → Type 0
NamesEntry mask key slot place kind loads =
    (place < dict_room mask) × (loads ≡ entry_loads slot place kind (key_payload key))

-- what the loads of one slot came to
abbrev pub LoadsSlot : ℕ → Key → ℕ → List Access → Compared → Type 0
LoadsSlot mask key slot loads Unused = loads ≡ Index slot 0 ∷ []
LoadsSlot mask key slot loads (Live place) = NamesEntry mask key slot place (key_kind key) loads
LoadsSlot mask key slot loads (Gone place) = NamesEntry mask key slot place (gone_kind key) loads
LoadsSlot mask key slot loads Other = PassesSlot mask key slot loads

-- these slots were tried in this order, and each was passed
abbrev pub TriesSlots : ℕ → Key → List ℕ → List Access → Type 0
TriesSlots mask key [] loads = loads ≡ []
TriesSlots mask key (slot ∷ slots) loads =
    (one later : List Access) × PassesSlot mask key slot one × TriesSlots mask key slots later × (loads ≡ later ++ one)

-- the slots that it had not passed when it ended, where these are left: one never used is tried again
abbrev pub unpassed : Found → List ℕ → List ℕ
unpassed (At slot place) left = slot ∷ left
unpassed (Was slot place) left = slot ∷ left
unpassed (Free slot) left = left
unpassed Spent left = left

-- how many index words the last slot took
abbrev pub last_loads : Found → ℕ
last_loads Spent = 0
last_loads found = 1

-- the last loads, by which a search ended so
abbrev pub EndsWith : ℕ → Key → List ℕ → Found → List Access → Type 0
EndsWith mask key left (At slot place) loads = NamesEntry mask key slot place (key_kind key) loads
EndsWith mask key left (Was slot place) loads = NamesEntry mask key slot place (gone_kind key) loads
EndsWith mask key left (Free slot) loads = (rest : List ℕ) × (left ≡ slot ∷ rest) × (loads ≡ Index slot 0 ∷ [])
EndsWith mask key left Spent loads = (left ≡ []) × (loads ≡ [])

-- one slot was tried: the search ended there, or it passed it
abbrev pub TriesOne : ℕ → Key → List ℕ → List ℕ → Option Found → List Access → Type 0
TriesOne mask key first left (Some found) loads = (first ≡ unpassed found left) × EndsWith mask key left found loads
TriesOne mask key first left None loads = (slot : ℕ) × (first ≡ slot ∷ left) × PassesSlot mask key slot loads

-- All that a search loaded that had the first slots to try, and has left these: it passed the slots before the one
-- where it ended, each by its own loads.
pub record Loads (mask : ℕ) (key : Key) (first left : List ℕ) (found : Found) (calls : List Access) : Type 0 where
  pub passed : List ℕ
  pub split : first ≡ passed ++ unpassed found left
  pub earlier : List Access
  pub tries : TriesSlots mask key passed earlier
  pub last : List Access
  pub ends : EndsWith mask key left found last
  pub is : calls ≡ last ++ earlier

-- Such loads led from one state of the words to the other, and those of index words are counted.
pub record Searches {S : Type 0} (gave : S → Access → S → Type 0) (mask : ℕ) (key : Key) (first left : List ℕ)
    (found : Found) (start end : S) (before after : ℕ) : Type 0 where
  pub calls : List Access
  pub runs : Runs gave start calls end
  pub loads : Loads mask key first left found calls
  pub steps : after ≡ before + index_loads calls
