-- What holds of boxes in every valid trace.
use Rattle.std.specs.Prelude.{◌≡◌, ◌≢◌, ◌⊎◌, ℕ, suc, ◌+◌, ◌%◌, ◌^◌, ◌<◌, ◌≤◌, false, true, List, ◌∷◌, ◌++◌}
use mathlib.Core.Option.{some}
use lib.ListN.{get_elem?}
use Rattle.ft_trace.specs.declared.Shape.{Shape}
use Rattle.ft_trace.specs.declared.View.{View}
use Rattle.ft_trace.specs.declared.Act.{Act}
use Rattle.ft_trace.specs.declared.Act.TheVariants.{RaiseShared}
use Rattle.ft_trace.specs.Addresses.{box_word, maker_of, version_of, class_of, container_count, IsBoxName}
use Rattle.ft_trace.specs.Acts.{has_lock, is_writing, mem}
use Rattle.ft_trace.specs.ContainerStates.{kind_in}
use Rattle.ft_trace.specs.Pictures.{picture, root_of, inner}
use Rattle.ft_trace.specs.Kinds.{rows}
use Rattle.ft_trace.specs.Entries.{total}
use Rattle.ft_trace.specs.Boxes.{row_kind, row_payload, made_state, place_use, references_held, use_taken, known_box_word, state_default, state_making, state_merged, state_none}
use Rattle.ft_trace.specs.BoxTraces.{box_state, was_stored, shared_count, maker_part, place_to_give_by, references, place_bit, default_word_of, merged_word_of, shared_zero}
use Rattle.ft_trace.specs.HeldBoxes.{HeldSince, SameValue}
use Rattle.ft_trace.specs.SeenBoxes.{SawBox}
use Rattle.ft_trace.specs.Unboxed.{unboxed, unboxed_picture}
use Rattle.ft_trace.specs.Traces.{Event, did, run, word, history, StandsFor, Valid}
use Rattle.ft_layout.specs.Starts.{kind_word, local_word, payload_word, shared_word}
use Rattle.ft_trace.specs.BoxWords.{box_kind, dead_word, IsBoxedValue}

-- The counts of a box in the default state add up to its references: what its maker has in the local count or took out
-- of it in a merge, and the shared count, to which shared_zero is added here. Of a merged box the shared count is the
-- references. Where a place is free or a box is being made, the shared word is that of a dead box, and there is no
-- reference.
abbrev pub ReferencesAreCounted : Type 0
ReferencesAreCounted =
    (k : Shape) (b : ℕ) (es : List Event) → Valid k es → IsBoxName k b
    → (box_state b es < state_default → (word k es (box_word b shared_word) ≡ dead_word) × (references k b es ≡ 0))
    × (box_state b es ≡ state_default → (word k es (box_word b shared_word) ≡ default_word_of (shared_count b es))
    × (total (maker_part b) (run k es).views + shared_count b es ≡ references k b es + shared_zero))
    × (box_state b es ≡ state_merged → (word k es (box_word b shared_word) ≡ merged_word_of (shared_count b es))
    × (shared_count b es ≡ references k b es + shared_zero))
    × (box_state b es ≤ state_merged)
    × (state_default ≤ box_state b es → (2 ^ 60 ≤ shared_count b es) × (shared_count b es < shared_zero + 2 ^ 40))

-- a box whose shared word is that of a dead one has no reference, and a merged box without a reference is dead
abbrev pub DeadBoxesHaveNoReference : Type 0
DeadBoxesHaveNoReference =
    (k : Shape) (b : ℕ) (es : List Event) → Valid k es → IsBoxName k b
    → (word k es (box_word b shared_word) ≡ dead_word → references k b es ≡ 0)
    × (box_state b es ≡ state_merged → references k b es ≡ 0 → word k es (box_word b shared_word) ≡ dead_word)

-- A place is free exactly where its bit is 1. One that isn't free and whose box was merged has references, but where
-- the one pass that brought the shared word to that of a dead box has still to give the place back.
abbrev pub PlacesAreGivenBackOnce : Type 0
PlacesAreGivenBackOnce =
    (k : Shape) (b : ℕ) (es : List Event) → Valid k es → IsBoxName k b
    → (box_state b es ≡ state_none → place_bit k b es ≡ 1)
    × (box_state b es ≢ state_none → place_bit k b es ≡ 0)
    × (box_state b es ≡ state_merged → references k b es ≡ 0 → total (place_to_give_by b) (run k es).views ≡ 1)
    × (references k b es ≢ 0 → total (place_to_give_by b) (run k es).views ≡ 0)

-- A place that isn't free is one in which a write of its maker has put a value, now or before; or the maker has taken it
-- and has neither given it back nor stored it by a write.
abbrev pub PlacesInUseWereStored : Type 0
PlacesInUseWereStored =
    (k : Shape) (b : ℕ) (es : List Event) → Valid k es → IsBoxName k b → place_bit k b es ≡ 0
    → (was_stored b es ≡ true)
    ⊎ ((j : ℕ) × (u : View) × (get_elem? (run k es).views j ≡ some u) × (u.number ≡ suc (maker_of b))
    × (place_use b u.log ≡ use_taken))

-- a box whose name was read in a container was stored by a write of its maker
abbrev pub SeenBoxesWereStored : Type 0
SeenBoxesWereStored =
    (k : Shape) (b : ℕ) (es : List Event) → Valid k es → (j : ℕ) (u : View) → get_elem? (run k es).views j ≡ some u
    → SawBox k b u.log → was_stored b es ≡ true

-- A box that no write of its maker has stored is its maker's alone: where that one holds no reference for it and doesn't
-- write a container that names it, there is none.
abbrev pub TakenPlacesAreTheMakers : Type 0
TakenPlacesAreTheMakers =
    (k : Shape) (b : ℕ) (es : List Event) → Valid k es → (j : ℕ) (u : View) → get_elem? (run k es).views j ≡ some u
    → place_use b u.log ≡ use_taken → ((o : ℕ) → is_writing o u.log ≡ false) → references_held k b u.log ≡ 0
    → references k b es ≡ 0

-- a raise of the shared count that succeeds is one of a box that is in the default state or has references
abbrev pub RaisesAreOfLiveBoxes : Type 0
RaisesAreOfLiveBoxes =
    (k : Shape) (b old : ℕ) (es : List Event) (id : ℕ) (v : View) → Valid k (did id v (RaiseShared b old old) ∷ es)
    → (box_state b es ≡ state_default) ⊎ ((box_state b es ≡ state_merged) × (references k b es ≢ 0))

-- no action of another pass writes the local count of a box that its maker makes or has in the default state
abbrev pub LocalCountsAreTheMakers : Type 0
LocalCountsAreTheMakers =
    (k : Shape) (es : List Event) (id : ℕ) (v : View) (a : Act) → Valid k (did id v a ∷ es) → (b : ℕ) → IsBoxName k b
    → (j : ℕ) (u : View) → j ≢ id → get_elem? (run k es).views j ≡ some u
    → (made_state b u.log ≡ state_making) ⊎ (made_state b u.log ≡ state_default)
    → word k (did id v a ∷ es) (box_word b local_word) ≡ word k es (box_word b local_word)

-- a box for which there is a reference keeps its value
abbrev pub ReferencedValuesStay : Type 0
ReferencedValuesStay =
    (k : Shape) (es : List Event) (id : ℕ) (v : View) (a : Act) → Valid k (did id v a ∷ es) → (b : ℕ)
    → references k b es ≢ 0
    → (word k (did id v a ∷ es) (box_word b kind_word) ≡ word k es (box_word b kind_word))
    × (word k (did id v a ∷ es) (box_word b payload_word) ≡ word k es (box_word b payload_word))

-- also as long as a pass holds one
abbrev pub HeldValuesStay : Type 0
HeldValuesStay =
    (k : Shape) (b : ℕ) (es : List Event) → Valid k es → (j : ℕ) (u : View) → get_elem? (run k es).views j ≡ some u
    → (newer rest : List Act) → u.log ≡ newer ++ rest → HeldSince k b newer rest → SameValue k b es j rest

-- a box that is there has a value: its maker put the two words of one before it published the box
abbrev pub BoxesHaveValues : Type 0
BoxesHaveValues =
    (k : Shape) (b : ℕ) (es : List Event) → Valid k es → state_default ≤ box_state b es
    → IsBoxedValue (word k es (box_word b kind_word)) (word k es (box_word b payload_word))

-- what a container's words read through boxes is changed by its writer alone: drops, merges and makings of boxes by
-- others, and places given back, leave it
abbrev pub OthersLeaveWhatIsRead : Type 0
OthersLeaveWhatIsRead =
    (k : Shape) (es : List Event) (id : ℕ) (v : View) (a : Act) → Valid k (did id v a ∷ es) → (o : ℕ)
    → o < container_count k → (is_writing o v.log ≡ true → ⊥)
    → unboxed_picture k o (run k (did id v a ∷ es)).words ≡ unboxed_picture k o (run k es).words

-- while the version is even the words, read through boxes, stand for the content at the counter
abbrev pub WordsStandThroughBoxes : Type 0
WordsStandThroughBoxes =
    (k : Shape) (es : List Event) → Valid k es → (o : ℕ) → o < container_count k → word k es (version_of o) % 2 ≡ 0
    → StandsFor k (run k es) (history es) o

-- a pass that has the lock of a container knows what its words read
abbrev pub HoldersKnowWhatIsRead : Type 0
HoldersKnowWhatIsRead =
    (k : Shape) (es : List Event) → Valid k es → (j : ℕ) (u : View) → get_elem? (run k es).views j ≡ some u → (o : ℕ)
    → o < container_count k → has_lock o u.log ≡ true
    → unboxed (λ b i. known_box_word k b i u.log) (kind_in k.starts o) (picture k o (mem k u.log))
    ≡ unboxed_picture k o (run k es).words

-- While an even version of a container stays, what its words read stays, and so does the value in each box that they
-- name. So what was read of a box between two equal even loads of the version is its value, without a reference.
abbrev pub QuietBoxesStay : Type 0
QuietBoxesStay =
    (k : Shape) (newer older : List Event) → Valid k (newer ++ older) → (o : ℕ) → o < container_count k
    → word k older (version_of o) % 2 ≡ 0 → word k (newer ++ older) (version_of o) ≡ word k older (version_of o)
    → (unboxed_picture k o (run k (newer ++ older)).words ≡ unboxed_picture k o (run k older).words)
    × ((t p i : ℕ) → root_of k o (run k older).words ≡ suc t → p < rows (kind_in k.starts o) (class_of t)
    → row_kind k o t (inner k (root_of k o (run k older).words) (run k older).words) p ≡ box_kind
    → (i ≡ kind_word) ⊎ (i ≡ payload_word)
    → word k (newer ++ older)
    (box_word (row_payload k o t (inner k (root_of k o (run k older).words) (run k older).words) p) i)
    ≡ word k older (box_word (row_payload k o t (inner k (root_of k o (run k older).words) (run k older).words) p) i))
