-- Puts with care, on lists of words alone: by the kind of the container.
use Rattle.std.proofs.Common.{◌≡◌, ℕ, ◌+◌, ◌*◌, ◌<◌, ◌≤◌, List, length, arith}
use Rattle.std.specs.Prelude.{slice_index, slice_set}
use Rattle.ft_model.specs.declared.content.Content.{Content}
use Rattle.ft_model.specs.declared.script.Kind.{Kind}
use Rattle.ft_model.specs.declared.script.Kind.TheVariants as kind
use Rattle.ft_model.specs.Worlds.{list_of}
use Rattle.ft_model.specs.Classes.{IsClass, set_entries}
use Rattle.ft_layout.proofs.Powers.{slots_range}
use Rattle.ft_trace.specs.Addresses.{slots, places, size}
use Rattle.ft_trace.specs.Pictures.{walk_of, entry_offset}
use Rattle.ft_trace.specs.Carefuls.{Sound, Later}
use Rattle.ft_trace.specs.ItemWords.{ItemSound, ItemLater}
use Rattle.ft_trace.specs.Kinds.{under, rows, version_at, SoundAs, CarefulAs, ClearAs, LaterAs, IsKeyed, IsItems}
use Rattle.ft_trace.proofs.Carefuls.{CarefulWords, put_later, later_self, later_trans, careful_sound, clear_sound}
use Rattle.ft_trace.proofs.Items.{ItemCarefulWords, item_self, item_trans, item_put_later, item_careful_sound, item_clear_sound}

pub as_self : (kind : Kind) (c : ℕ) (ws : List ℕ) → LaterAs kind c ws ws
as_self kind.List c ws = item_self (slots c) ws
as_self kind.Dict c ws = later_self (slots c) (places c) ws
as_self kind.Set c ws = later_self (slots c) (set_entries c) ws
as_self (kind.Deque bound) c ws = tt

pub as_trans : (kind : Kind) (c : ℕ) (ws ys zs : List ℕ) → LaterAs kind c ws ys → LaterAs kind c ys zs → LaterAs kind c ws zs
as_trans kind.List c ws ys zs a b = item_trans (slots c) ws ys zs a b
as_trans kind.Dict c ws ys zs a b = later_trans (slots c) (places c) ws ys zs a b
as_trans kind.Set c ws ys zs a b = later_trans (slots c) (set_entries c) ws ys zs a b
as_trans (kind.Deque bound) c ws ys zs a b = tt

-- what is asked of a put but for what the content has
abbrev pub CarefulWordsAs : Kind → ℕ → List ℕ → ℕ → ℕ → Type 0
CarefulWordsAs kind.List class ws i x = ItemCarefulWords (slots class) ws i x
CarefulWordsAs kind.Dict class ws i x = CarefulWords (slots class) (places class) ws i x
CarefulWordsAs kind.Set class ws i x = CarefulWords (slots class) (set_entries class) ws i x
CarefulWordsAs (kind.Deque bound) class ws i x = Unit {0}

pub as_later : (kind : Kind) (c : ℕ) (ws : List ℕ) (i x : ℕ) → length ws ≡ size c → i < size c → CarefulWordsAs kind c ws i x → LaterAs kind c ws (slice_set ws i x)
as_later kind.List c ws i x long low care = item_put_later (slots c) (size c) ws i x long low care
as_later kind.Dict c ws i x long low care = put_later (slots c) (places c) (size c) ws i x long low care
as_later kind.Set c ws i x long low care = put_later (slots c) (set_entries c) (size c) ws i x long low care
as_later (kind.Deque bound) c ws i x long low care = tt

pub as_sound : (kind : Kind) (texts : List ℕ) (c : ℕ) (ws : List ℕ) (d : Content) (i x : ℕ) → length ws ≡ size c → i < size c → CarefulAs kind c ws d i x → SoundAs kind texts c ws d → SoundAs kind texts c (slice_set ws i x) d
as_sound kind.List texts c ws d i x long low care old = item_careful_sound (slots c) (size c) ws (list_of d) i x long low care old
as_sound kind.Dict texts c ws d i x long low care old = careful_sound (slots c) (places c) (size c) ws (under d) i x long low care (walk_of kind.Dict texts c) old
as_sound kind.Set texts c ws d i x long low care old = careful_sound (slots c) (set_entries c) (size c) ws (under d) i x long low care (walk_of kind.Set texts c) old
as_sound (kind.Deque bound) texts c ws d i x long low care old = tt

pub as_clear : (kind : Kind) (texts : List ℕ) (c : ℕ) (ws : List ℕ) (d e : Content) → ClearAs kind texts c ws d e → SoundAs kind texts c ws d → SoundAs kind texts c ws e
as_clear kind.List texts c ws d e clear old = item_clear_sound (slots c) ws (list_of d) (list_of e) clear old
as_clear kind.Dict texts c ws d e clear old = clear_sound (walk_of kind.Dict texts c) (slots c) (places c) ws (under d) (under e) clear old
as_clear kind.Set texts c ws d e clear old = clear_sound (walk_of kind.Set texts c) (slots c) (set_entries c) ws (under d) (under e) clear old
as_clear (kind.Deque bound) texts c ws d e clear old = tt

-- the version of a row is put over by one more
pub as_version : (kind : Kind) (c : ℕ) (ws : List ℕ) (i x : ℕ) → CarefulWordsAs kind c ws i x → (p : ℕ) → p < rows kind c → i ≡ version_at kind c p → x ≡ slice_index ws (version_at kind c p) + 1
as_version kind.List c ws i x care p low e = let v = care.version p low e in omega (arith, v)
as_version kind.Dict c ws i x care p low e = let v = care.version p low e in omega (arith, v)
as_version kind.Set c ws i x care p low e = let v = care.version p low e in omega (arith, v)
as_version (kind.Deque bound) c ws i x care p low e = absurd (omega (arith, low))

-- items lie in the table too
pub items_fit : (c : ℕ) → IsClass c → 4 * slots c ≤ size c
unfolding slots places
items_fit c is = let r = slots_range c is in let l = r.0 in omega (arith, l)

-- a set's table has fewer entries than a dict's
pub sets_fit : (c : ℕ) → set_entries c ≤ places c
unfolding places
sets_fit c = omega arith

pub row_low : (kind : Kind) (c p : ℕ) → IsClass c → p < rows kind c → version_at kind c p < size c
row_low kind.List c p is low = let f = items_fit c is in omega (arith, f)
row_low kind.Dict c p is low = omega arith
row_low kind.Set c p is low = let few = sets_fit c in omega (arith, low, few)
row_low (kind.Deque bound) c p is low = absurd (omega (arith, low))

pub keyed_later : (kind : Kind) → IsKeyed kind → (c : ℕ) (ws zs : List ℕ) → LaterAs kind c ws zs → Later (slots c) (rows kind c) ws zs
keyed_later kind.Dict is c ws zs l = l
keyed_later kind.Set is c ws zs l = l
keyed_later kind.List is c ws zs l = absurd is
keyed_later (kind.Deque bound) is c ws zs l = absurd is

pub keyed_sound : (kind : Kind) → IsKeyed kind → (texts : List ℕ) (c : ℕ) (ws : List ℕ) (d : Content) → SoundAs kind texts c ws d → Sound (walk_of kind texts c) (slots c) (rows kind c) ws (under d)
keyed_sound kind.Dict is texts c ws d s = s
keyed_sound kind.Set is texts c ws d s = s
keyed_sound kind.List is texts c ws d s = absurd is
keyed_sound (kind.Deque bound) is texts c ws d s = absurd is

pub items_later : (kind : Kind) → IsItems kind → (c : ℕ) (ws zs : List ℕ) → LaterAs kind c ws zs → ItemLater (slots c) ws zs
items_later kind.List is c ws zs l = l
items_later kind.Dict is c ws zs l = absurd is
items_later kind.Set is c ws zs l = absurd is
items_later (kind.Deque bound) is c ws zs l = absurd is

pub items_sound : (kind : Kind) → IsItems kind → (texts : List ℕ) (c : ℕ) (ws : List ℕ) (d : Content) → SoundAs kind texts c ws d → ItemSound (slots c) ws (list_of d)
items_sound kind.List is texts c ws d s = s
items_sound kind.Dict is texts c ws d s = absurd is
items_sound kind.Set is texts c ws d s = absurd is
items_sound (kind.Deque bound) is texts c ws d s = absurd is

-- the entries that are read lie in the table
pub keyed_fit : (kind : Kind) → IsKeyed kind → (c : ℕ) → rows kind c ≤ places c
keyed_fit kind.Dict is c = omega arith
keyed_fit kind.Set is c = sets_fit c
keyed_fit kind.List is c = absurd is
keyed_fit (kind.Deque bound) is c = absurd is

pub keyed_low : (kind : Kind) → IsKeyed kind → (c p w : ℕ) → p < rows kind c → w < 8 → entry_offset (slots c) p w < size c
keyed_low kind is c p w low few = let f = keyed_fit kind is c in omega (arith, low, few, f)
