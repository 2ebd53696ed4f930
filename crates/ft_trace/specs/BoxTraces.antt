-- What a trace says of each box: its state, its shared count, and how its counts go with its references.
use Rattle.std.specs.Prelude.{◌≡◌, ◌≢◌, ℕ, ◌+◌, ◌-◌, ◌*◌, ◌/◌, ◌%◌, ◌^◌, ◌<◌, ◌≤◌, ◌==◌, Bool, true, false, cond, List, [], ◌∷◌}
use Rattle.ft_trace.specs.declared.Shape.{Shape}
use Rattle.ft_trace.specs.declared.View.{View}
use Rattle.ft_trace.specs.declared.Act.{Act}
use Rattle.ft_trace.specs.declared.Act.TheVariants.{TakePlace, PublishBox, MergeCounts, RaiseShared, RaiseKept, DropShared, GivePlace}
use Rattle.ft_trace.specs.Bits.{bit}
use Rattle.ft_layout.specs.Starts.{shared_word}
use Rattle.ft_trace.specs.Addresses.{heap_bits, box_word, maker_of, place_word_of, place_bit_of, IsBoxName}
use Rattle.ft_trace.specs.Entries.{total}
use Rattle.ft_trace.specs.Boxes.{state_none, state_making, state_default, state_merged, made_state, local_count, taken_out, place_to_give, references_held, named_in_all, place_use, use_stored}
use Rattle.ft_trace.specs.Traces.{Event, did, forked, joined, sent, run, word}
use Rattle.ft_trace.specs.BoxWords.{count_unit, dead_word, merged_bits}

-- its state
abbrev pub box_state_next : ℕ → Act → ℕ → ℕ
box_state_next b (TakePlace c f) n = cond (c == b) (cond (bit (place_bit_of c) f == 1) state_making n) n
box_state_next b (PublishBox c) n = cond (c == b) state_default n
box_state_next b (MergeCounts c d f) n = cond (c == b) state_merged n
box_state_next b (GivePlace c) n = cond (c == b) state_none n
box_state_next b act n = n

abbrev pub box_state : ℕ → List Event → ℕ
box_state b [] = state_none
box_state b (did id v a ∷ es) = box_state_next b a (box_state b es)
box_state b (forked id v ∷ es) = box_state b es
box_state b (joined id v other w ∷ es) = box_state b es
box_state b (sent id v given ∷ es) = box_state b es

-- Its shared count may be below 0. Here it is kept with this number added, so that it never is.
abbrev pub shared_zero : ℕ
shared_zero = 2 ^ 61

-- the shared count, with shared_zero added
abbrev pub shared_count_next : ℕ → Act → ℕ → ℕ
shared_count_next b (PublishBox c) n = cond (c == b) shared_zero n
shared_count_next b (RaiseShared c old f) n = cond (c == b) (cond (f == old) (n + 1) n) n
shared_count_next b (RaiseKept c f) n = cond (c == b) (n + 1) n
shared_count_next b (DropShared c f) n = cond (c == b) (n - 1) n
shared_count_next b (MergeCounts c d f) n = cond (c == b) (n + d / count_unit) n
shared_count_next b act n = n

abbrev pub shared_count : ℕ → List Event → ℕ
shared_count b [] = 0
shared_count b (did id v a ∷ es) = shared_count_next b a (shared_count b es)
shared_count b (forked id v ∷ es) = shared_count b es
shared_count b (joined id v other w ∷ es) = shared_count b es
shared_count b (sent id v given ∷ es) = shared_count b es

-- a write of its maker has put a value there, now or before
abbrev pub was_stored : ℕ → List Event → Bool
was_stored b [] = false
was_stored b (did id v a ∷ es) = cond (place_use b (a ∷ v.log) == use_stored) true (was_stored b es)
was_stored b (forked id v ∷ es) = was_stored b es
was_stored b (joined id v other w ∷ es) = was_stored b es
was_stored b (sent id v given ∷ es) = was_stored b es

-- ---- what is added up over all views

-- how many passes make it: 1 or 0 of each, and how many have it in the default state
abbrev pub making_box : ℕ → View → ℕ
making_box b u = cond (made_state b u.log == state_making) 1 0

abbrev pub has_in_default : ℕ → View → ℕ
has_in_default b u = cond (made_state b u.log == state_default) 1 0

-- of a box in the default state, the local count
abbrev pub in_local_count : ℕ → View → ℕ
in_local_count b u = cond (made_state b u.log == state_default) (local_count b u.log) 0

-- what a merge has taken out of it
abbrev pub in_merge : ℕ → View → ℕ
in_merge b u = cond (made_state b u.log == state_default) (taken_out b u.log) 0

-- and both: the part of the count that its maker has
abbrev pub maker_part : ℕ → View → ℕ
maker_part b u = cond (made_state b u.log == state_default) (local_count b u.log + taken_out b u.log) 0

abbrev pub references_held_by : Shape → ℕ → View → ℕ
references_held_by k b u = references_held k b u.log

abbrev pub place_to_give_by : ℕ → View → ℕ
place_to_give_by b u = place_to_give b u.log

-- the references of a box: the words that name it, and those that passes hold
abbrev pub references : Shape → ℕ → List Event → ℕ
references k b es = named_in_all k b (run k es).words + total (references_held_by k b) (run k es).views

-- ---- what holds of each box

-- how its numbers go together: its state, its shared count, how many passes make it and how many have it in the default
-- state, the maker's part of its count, its references, and how many passes have its place to give back
pub record CountsAgree (state shared makers owners part total_references givers : ℕ) : Type 0 where
  pub small : state ≤ state_merged
  pub making : state ≡ state_making → makers ≡ 1
  pub unmade : state ≢ state_making → makers ≡ 0
  pub default : state ≡ state_default → owners ≡ 1
  pub other : state ≢ state_default → owners ≡ 0
  pub none : state < state_default → total_references ≡ 0
  pub balance : state_default ≤ state → part + shared ≡ total_references + shared_zero
  pub idle : state ≢ state_default → part ≡ 0
  pub dead : state ≡ state_merged → total_references ≡ 0 → givers ≡ 1
  pub live : state ≢ state_merged → givers ≡ 0
  pub more : total_references ≢ 0 → givers ≡ 0

-- the shared word of a box in the default state with this shared count, and of a merged one
abbrev pub default_word_of : ℕ → ℕ
default_word_of shared = (count_unit * shared + 2 ^ 63) % 2 ^ 64

abbrev pub merged_word_of : ℕ → ℕ
merged_word_of shared = (count_unit * shared + merged_bits + 2 ^ 63) % 2 ^ 64

-- its shared word, by its state and its shared count: that of a dead box where there is none
pub record IsSharedWord (state shared found : ℕ) : Type 0 where
  pub none : state < state_default → found ≡ dead_word
  pub default : state ≡ state_default → found ≡ default_word_of shared
  pub merged : state ≡ state_merged → found ≡ merged_word_of shared

-- the bit of its place, 1 where the place is free
abbrev pub place_bit : Shape → ℕ → List Event → ℕ
place_bit k b es = bit (place_bit_of b) (word k es (heap_bits (maker_of b) (place_word_of b)))

-- what holds of a box at every moment
pub record BoxInvariant (k : Shape) (b : ℕ) (es : List Event) : Type 0 where
  pub counts : CountsAgree (box_state b es) (shared_count b es) (total (making_box b) (run k es).views)
      (total (has_in_default b) (run k es).views) (total (maker_part b) (run k es).views) (references k b es)
      (total (place_to_give_by b) (run k es).views)
  pub word : IsBoxName k b → IsSharedWord (box_state b es) (shared_count b es) (word k es (box_word b shared_word))
  pub free : IsBoxName k b → box_state b es ≡ state_none → place_bit k b es ≡ 1
  pub taken : IsBoxName k b → box_state b es ≢ state_none → place_bit k b es ≡ 0
