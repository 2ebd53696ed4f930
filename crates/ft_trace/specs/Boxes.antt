-- Boxes with biased counts: what a pass knows of those that it made, and which references it holds. A box has two
-- counts, one that its maker alone writes and one that all passes share; what they add up to is how many references
-- there are. (PEP 703, "Biased Reference Counting"; the rest is of the profile)
use Rattle.std.specs.Prelude.{◌≡◌, ◌≢◌, ◌⊎◌, ℕ, zero, suc, ◌+◌, ◌-◌, ◌%◌, ◌^◌, ◌<◌, ◌≤◌, ◌==◌, Bool, true, false, cond, List, [], ◌∷◌, slice_index}
use Rattle.ft_model.specs.declared.call.Call.{Call}
use Rattle.ft_model.specs.declared.content.Content.{Content}
use Rattle.ft_model.specs.declared.script.Kind.{Kind}
use Rattle.ft_model.specs.declared.script.Kind.TheVariants as kind
use Rattle.ft_model.specs.Boxings.{boxes}
use Rattle.ft_trace.specs.declared.Act.{Act}
use Rattle.ft_trace.specs.declared.Act.TheVariants.{Lock, TakeTable, PutTable, PutRoot, Commit, TakePlace, PutBox, PublishBox, ReadBox, RaiseLocal, DropLocal, ClearLocal, MergeCounts, RaiseShared, RaiseKept, DropShared, GivePlace}
use Rattle.ft_trace.specs.declared.Shape.{Shape}
use Rattle.ft_trace.specs.Bits.{bit}
use Rattle.ft_layout.specs.Starts.{kind_word, payload_word, local_word}
use Rattle.ft_trace.specs.BoxWords.{box_kind, dead_word, lowered_word, IsBoxedValue}
use Rattle.ft_trace.specs.Addresses.{slots, class_of, container_count, place_bit_of, box_word, at}
use Rattle.ft_trace.specs.Acts.{has_lock, mem}
use Rattle.ft_trace.specs.ContainerStates.{kind_in, changes}
use Rattle.ft_trace.specs.Pictures.{entry_offset, item_offset, root_of, inner}
use Rattle.ft_trace.specs.Kinds.{rows}
use Rattle.ft_trace.specs.Sums.{sum_to}

-- ---- the states of a box, in the order in which a box goes through them

-- its place is free; of a pass: it makes no box there
abbrev pub state_none : ℕ
state_none = 0

-- the maker has the place and puts the box's words
abbrev pub state_making : ℕ
state_making = 1

-- it is counted in two parts: by its maker in the local count, by all others in the shared one (PEP 703: default)
abbrev pub state_default : ℕ
state_default = 2

-- it is counted in the shared count alone (PEP 703: merged)
abbrev pub state_merged : ℕ
state_merged = 3

-- ---- words that name a box

-- where the kind of the value of an entry or item lies; its payload is the next word
abbrev pub value_at : Kind → ℕ → ℕ → ℕ
value_at kind.List class p = item_offset p 1
value_at kind.Dict class p = entry_offset (slots class) p 4
value_at kind.Set class p = entry_offset (slots class) p 4
value_at (kind.Deque bound) class p = item_offset p 1

-- the kind of the value in row p of a table of o with these words, where its root names t; and its payload
abbrev pub row_kind : Shape → ℕ → ℕ → List ℕ → ℕ → ℕ
row_kind k o t table p = slice_index table (value_at (kind_in k.starts o) (class_of t) p)

abbrev pub row_payload : Shape → ℕ → ℕ → List ℕ → ℕ → ℕ
row_payload k o t table p = slice_index table (suc (value_at (kind_in k.starts o) (class_of t) p))

-- 1 where a value of this kind and payload names the box b, else 0
abbrev pub names_box : ℕ → ℕ → ℕ → ℕ
names_box b kind payload = cond (kind == box_kind) (cond (payload == b) 1 0) 0

abbrev pub names_box_at : ℕ → Kind → ℕ → List ℕ → ℕ → ℕ
names_box_at b kind class ws p =
    names_box b (slice_index ws (value_at kind class p)) (slice_index ws (suc (value_at kind class p)))

-- how many values of a table with this root name it; those of a deque name none
abbrev pub named_in_root : ℕ → Kind → ℕ → List ℕ → ℕ
named_in_root b kind zero ws = 0
named_in_root b kind (suc t) ws = sum_to (names_box_at b kind (class_of t) ws) (rows kind (class_of t))

-- of the container o, in these words of the bank; and of all containers
abbrev pub named_in_container : Shape → ℕ → ℕ → List ℕ → ℕ
named_in_container k b o ws = named_in_root b (kind_in k.starts o) (root_of k o ws) (inner k (root_of k o ws) ws)

abbrev pub named_in_all : Shape → ℕ → List ℕ → ℕ
named_in_all k b ws = sum_to (λ o. named_in_container k b o ws) (container_count k)

-- ---- what a pass knows of a box that it made

-- the state in which its maker left it
abbrev pub made_state_next : ℕ → Act → ℕ → ℕ
made_state_next b (TakePlace c f) n = cond (c == b) (cond (bit (place_bit_of c) f == 1) state_making n) n
made_state_next b (PublishBox c) n = cond (c == b) state_default n
made_state_next b (MergeCounts c d f) n = cond (c == b) state_merged n
made_state_next b act n = n

abbrev pub made_state : ℕ → List Act → ℕ
made_state b [] = state_none
made_state b (a ∷ l) = made_state_next b a (made_state b l)

-- its local count; no such count, 2 ^ 64, from the taking of its place until it is put
abbrev pub local_count_next : ℕ → Act → ℕ → ℕ
local_count_next b (TakePlace c f) n = cond (c == b) (cond (bit (place_bit_of c) f == 1) (2 ^ 64) n) n
local_count_next b (PutBox c i x) n = cond (c == b) (cond (i == local_word) x n) n
local_count_next b (RaiseLocal c x) n = cond (c == b) x n
local_count_next b (DropLocal c x) n = cond (c == b) x n
local_count_next b (ClearLocal c) n = cond (c == b) 0 n
local_count_next b act n = n

abbrev pub local_count : ℕ → List Act → ℕ
local_count b [] = 0
local_count b (a ∷ l) = local_count_next b a (local_count b l)

-- what a merge has taken out of the local count and not yet added to the shared one
abbrev pub taken_out_next : ℕ → Act → ℕ → ℕ → ℕ
taken_out_next b (ClearLocal c) l n = cond (c == b) l n
taken_out_next b (MergeCounts c d f) l n = cond (c == b) 0 n
taken_out_next b (PublishBox c) l n = cond (c == b) 0 n
taken_out_next b act l n = n

abbrev pub taken_out : ℕ → List Act → ℕ
taken_out b [] = 0
taken_out b (a ∷ l) = taken_out_next b a (local_count b l) (taken_out b l)

-- how often the pass has its place to give back: once from the step by which it brought the shared word to that of a
-- dead box, until it gives the place back
abbrev pub place_to_give_next : ℕ → Act → ℕ → ℕ
place_to_give_next b (MergeCounts c d f) n = cond (c == b) (cond ((f + d) % 2 ^ 64 == dead_word) 1 n) n
place_to_give_next b (DropShared c f) n = cond (c == b) (cond (lowered_word f == dead_word) 1 n) n
place_to_give_next b (GivePlace c) n = cond (c == b) 0 n
place_to_give_next b act n = n

abbrev pub place_to_give : ℕ → List Act → ℕ
place_to_give b [] = 0
place_to_give b (a ∷ l) = place_to_give_next b a (place_to_give b l)

-- What a pass has done with the place of a box in its own heap: nothing that lasts; it has taken the place, and no write
-- of its has put a value there, now or before; or a write of its has. A place in which no write has put a value is like
-- new once it is given back.
abbrev pub use_none : ℕ
use_none = 0

abbrev pub use_taken : ℕ
use_taken = 1

abbrev pub use_stored : ℕ
use_stored = 2

abbrev pub place_use_next : ℕ → Act → ℕ → ℕ
place_use_next b (TakePlace c f) n =
    cond (c == b) (cond (bit (place_bit_of c) f == 1) (cond (n == use_stored) use_stored use_taken) n) n
place_use_next b (Commit c r f s) n = cond (n == use_taken) use_stored n
place_use_next b (GivePlace c) n = cond (c == b) (cond (n == use_taken) use_none n) n
place_use_next b act n = n

abbrev pub place_use : ℕ → List Act → ℕ
place_use b [] = use_none
place_use b (a ∷ l) = place_use_next b a (place_use b l)

-- ---- the references that a pass holds for a box

-- A put into a table that a root names, or of a root, gives the pass the references of what the container's words named
-- before it, and takes those of what they name after it.
abbrev pub references_held_next : Shape → ℕ → List ℕ → List ℕ → Act → ℕ → ℕ
references_held_next k b before after (PutTable o t i x) n =
    n + named_in_container k b o before - named_in_container k b o after
references_held_next k b before after (PutRoot o r old) n =
    n + named_in_container k b o before - named_in_container k b o after
references_held_next k b before after (PublishBox c) n = cond (c == b) (n + 1) n
references_held_next k b before after (RaiseLocal c x) n = cond (c == b) (n + 1) n
references_held_next k b before after (DropLocal c x) n = cond (c == b) (n - 1) n
references_held_next k b before after (RaiseShared c old f) n = cond (c == b) (cond (f == old) (n + 1) n) n
references_held_next k b before after (RaiseKept c f) n = cond (c == b) (n + 1) n
references_held_next k b before after (DropShared c f) n = cond (c == b) (n - 1) n
references_held_next k b before after act n = n

abbrev pub references_held : Shape → ℕ → List Act → ℕ
references_held k b [] = 0
references_held k b (a ∷ l) = references_held_next k b (mem k l) (mem k (a ∷ l)) a (references_held k b l)

-- ---- what a pass knows of the value in a box

-- How many things keep the box for the pass: references that it holds, that it is the maker, and values that name it of
-- containers whose locks it has. While there is one, nobody else changes the box's value.
abbrev pub times_kept : Shape → ℕ → List Act → ℕ
times_kept k b l =
    references_held k b l
    + (cond (made_state b l == state_making) 1 0
    + (cond (made_state b l == state_default) 1 0
    + sum_to (λ o. cond (has_lock o l) (named_in_container k b o (mem k l)) 0) (container_count k)))

-- word i of the box, as the pass found or put it last
abbrev pub known_box_word_next : Shape → ℕ → ℕ → Act → ℕ → ℕ
known_box_word_next k b i (Lock o f s) n = slice_index s.words (at k (box_word b i))
known_box_word_next k b i (TakeTable t f s) n = slice_index s.words (at k (box_word b i))
known_box_word_next k b i (PutBox c j x) n = cond (c == b) (cond (j == i) x n) n
known_box_word_next k b i (ReadBox c j f) n = cond (c == b) (cond (j == i) f n) n
known_box_word_next k b i act n = n

abbrev pub known_box_word : Shape → ℕ → ℕ → List Act → ℕ
known_box_word k b i [] = 0
known_box_word k b i (a ∷ l) = known_box_word_next k b i a (known_box_word k b i l)

-- and whether it must still be so: something has kept the box ever since
abbrev pub knows_box_word_next : ℕ → ℕ → Act → Bool → Bool
knows_box_word_next b i (Lock o f s) x = true
knows_box_word_next b i (TakeTable t f s) x = true
knows_box_word_next b i (PutBox c j y) x = cond (c == b) (cond (j == i) true x) x
knows_box_word_next b i (ReadBox c j f) x = cond (c == b) (cond (j == i) true x) x
knows_box_word_next b i act x = x

abbrev pub knows_box_word : Shape → ℕ → ℕ → List Act → Bool
knows_box_word k b i [] = false
knows_box_word k b i (a ∷ l) =
    cond (times_kept k b (a ∷ l) == 0) false (knows_box_word_next b i a (knows_box_word k b i l))

-- ---- conditions

-- the pass knows the two words of the box's value, which are those of a value that a box may have
abbrev pub HasPutValue : Shape → ℕ → List Act → Type 0
HasPutValue k b l =
    (knows_box_word k b kind_word l ≡ true) × (knows_box_word k b payload_word l ≡ true)
    × IsBoxedValue (known_box_word k b kind_word l) (known_box_word k b payload_word l)

-- A put may be made only with the references that its words need, and so that the pass holds less than 2 ^ 32 then.
-- Where the container named a box in no word before it, the pass knows the box's value.
abbrev pub HasReferences : Shape → List Act → Act → ℕ → Type 0
HasReferences k l a o =
    (b : ℕ) → (named_in_container k b o (mem k (a ∷ l)) ≤ references_held k b l + named_in_container k b o (mem k l))
    × (references_held k b (a ∷ l) < 2 ^ 32)
    × (named_in_container k b o (mem k l) ≡ 0 → named_in_container k b o (mem k (a ∷ l)) ≢ 0
    → (knows_box_word k b kind_word l ≡ true) × (knows_box_word k b payload_word l ≡ true))

-- the pass holds a reference for the box, or has the lock of a container that names it
abbrev pub KeepsBox : Shape → ℕ → List Act → Type 0
KeepsBox k b l =
    (0 < references_held k b l)
    ⊎ ((o : ℕ) × (o < container_count k) × (has_lock o l ≡ true) × (0 < named_in_container k b o (mem k l)))

-- A root may be put only to a table that names no box which no write of the pass has stored yet.
abbrev pub NamesStored : Shape → List Act → Act → ℕ → Type 0
NamesStored k l a o = (b : ℕ) → place_use b l ≡ use_taken → named_in_container k b o (mem k (a ∷ l)) ≡ 0

-- A box that no write of the pass has stored yet is stored by this call: a value of the container that it changes names
-- the box, the call puts a value in a box, and there is no other such box.
abbrev pub StoresTaken : Shape → List Content → List Act → Call → Type 0
StoresTaken k world l call =
    ((b : ℕ) → place_use b l ≡ use_taken
    → (named_in_container k b (changes call) (mem k l) ≢ 0) × (boxes world call ≡ true))
    × ((b c : ℕ) → place_use b l ≡ use_taken → place_use c l ≡ use_taken → b ≡ c)

-- What a pass has to do with its own boxes between two calls: it is in the midst of making none and of merging none, and
-- has no place to give back; each box that it has in the default state has a local count above 0, since a box is merged
-- as soon as that falls to 0. (PEP 703, "Biased Reference Counting"; the profile)
pub record IsSettled (l : List Act) : Type 0 where
  pub unmade : (b : ℕ) → made_state b l ≢ state_making
  pub counted : (b : ℕ) → made_state b l ≡ state_default → 0 < local_count b l
  pub whole : (b : ℕ) → made_state b l ≡ state_default → taken_out b l ≡ 0
  pub given : (b : ℕ) → place_to_give b l ≡ 0

-- Besides, it holds no reference, and each box that it made was stored by a write, or its place given back.
pub record IsDoneWithBoxes (k : Shape) (l : List Act) : Type 0 where
  pub settled : IsSettled l
  pub none : (b : ℕ) → references_held k b l ≡ 0
  pub stored : (b : ℕ) → place_use b l ≢ use_taken

-- it has merged each box that it made
abbrev pub HasMergedBoxes : List Act → Type 0
HasMergedBoxes l = (b : ℕ) → made_state b l ≢ state_default
