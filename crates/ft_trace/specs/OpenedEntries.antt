-- Which versions of entries and items a write makes odd: those of what it changes, and no other. So readers without the
-- lock who look for something else are not disturbed.
use Rattle.std.specs.Prelude.{◌≡◌, ℕ, suc, ◌%◌, ◌<◌, true, List, ◌∷◌, ◌++◌, slice_index}
use Rattle.ft_model.specs.declared.call.Call.{Call}
use Rattle.ft_model.specs.declared.content.Content.{Content}
use Rattle.ft_model.specs.declared.reply.Reply.{Reply}
use Rattle.ft_model.specs.declared.script.Kind.{Kind}
use Rattle.ft_model.specs.declared.script.Kind.TheVariants as kind
use Rattle.ft_model.specs.Worlds.{list_of}
use Rattle.ft_trace.specs.declared.Act.TheVariants.{Commit, PutTable, StopWrite}
use Rattle.ft_trace.specs.declared.Shape.{Shape}
use Rattle.ft_trace.specs.declared.Snap.{Snap}
use Rattle.ft_trace.specs.declared.View.{View}
use Rattle.ft_trace.specs.Acts.{is_writing}
use Rattle.ft_trace.specs.Addresses.{block, class_of, slots}
use Rattle.ft_trace.specs.Carefuls.{OpensChanged}
use Rattle.ft_trace.specs.ContainerStates.{container_after, kind_in, changes}
use Rattle.ft_trace.specs.ItemWords.{OpensChangedItems}
use Rattle.ft_trace.specs.Kinds.{rows, version_at, under}
use Rattle.ft_trace.specs.Pictures.{table_words}
use Rattle.ft_trace.specs.Traces.{Event, did, run, history, word, Valid}

-- each odd version in a table is that of an entry under whose key, or of an item at whose index, d has something else
-- than c
abbrev pub OpensChangedAs : Kind → ℕ → List ℕ → Content → Content → Type 0
OpensChangedAs kind.List class ws c d = OpensChangedItems (slots class) ws (list_of c) (list_of d)
OpensChangedAs kind.Dict class ws c d = OpensChanged (slots class) (rows kind.Dict class) ws (under c) (under d)
OpensChangedAs kind.Set class ws c d = OpensChanged (slots class) (rows kind.Set class) ws (under c) (under d)
OpensChangedAs (kind.Deque bound) class ws c d = Unit {0}

-- the same of the table t of the container o, and of what a call does to the container after these events
abbrev pub OpensChangedBy : Shape → List Event → ℕ → ℕ → Call → Type 0
OpensChangedBy k es o t call =
    OpensChangedAs (kind_in k.starts o) (class_of t) (table_words k t (run k es).words)
    (container_after k.starts (history es) o).content (container_after k.starts (call ∷ history es) o).content

-- at each commit, each odd version in the table that the root of the changed container names is that of an entry or
-- item that the call changes
abbrev pub CommitsChangeTheOpened : Type 0
CommitsChangeTheOpened =
    (k : Shape) (newer es : List Event) (id : ℕ) (v : View) (c : Call) (r : Reply) (f : ℕ) (s : Snap)
    → Valid k (newer ++ did id v (Commit c r f s) ∷ es)
    → (t : ℕ) → word k es (block (changes c) 0) ≡ suc t → OpensChangedBy k es (changes c) t c

-- the root of the container o names the table t, and the version of the entry or item at this place is odd there
abbrev pub IsOpen : Shape → List Event → ℕ → ℕ → ℕ → Type 0
IsOpen k es o t p =
    (word k es (block o 0) ≡ suc t)
    × (slice_index (table_words k t (run k es).words) (version_at (kind_in k.starts o) (class_of t) p) % 2 ≡ 1)

-- Where a step made a version odd in the table of a container, and the write of that container has ended since, the pass
-- that wrote it committed a call in between, while the version was odd: a call that changes what is under the key of
-- each open entry, or at the index of each open item.
abbrev pub OpenedAreCommitted : Type 0
OpenedAreCommitted =
    (k : Shape) (newer es : List Event) (id j : ℕ) (v w : View) (o t i x p g : ℕ)
    → Valid k (did j w (StopWrite o g) ∷ (newer ++ did id v (PutTable o t i x) ∷ es))
    → p < rows (kind_in k.starts o) (class_of t) → i ≡ version_at (kind_in k.starts o) (class_of t) p → x % 2 ≡ 1
    → (later sooner : List Event) × (h : ℕ) × (u : View) × (c : Call) × (r : Reply) × (f : ℕ) × (s : Snap)
    × (newer ≡ later ++ did h u (Commit c r f s) ∷ sooner)
    × IsOpen k (sooner ++ did id v (PutTable o t i x) ∷ es) o t p
    × (is_writing o u.log ≡ true)
    × (changes c ≡ o)
    × OpensChangedBy k (sooner ++ did id v (PutTable o t i x) ∷ es) o t c
