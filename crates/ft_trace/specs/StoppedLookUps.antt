-- What stops a look-up of one key or one index that is made without the lock: a write under way that changes what is
-- there.
use Rattle.std.specs.Prelude.{◌≡◌, ◌≢◌, ◌⊎◌, ℕ, suc, ◌%◌, ◌<◌, true, false, List, ◌∷◌, ◌++◌, slice_index}
use Rattle.ft_model.specs.declared.call.Call.{Call}
use Rattle.ft_model.specs.declared.data.Key.{Key}
use Rattle.ft_model.specs.declared.reply.Reply.{Reply}
use Rattle.ft_model.specs.Worlds.{list_of}
use Rattle.ft_layout.specs.Words.{key_kind, gone_kind, key_payload}
use Rattle.ft_trace.specs.declared.Act.{Act}
use Rattle.ft_trace.specs.declared.Act.TheVariants.{Commit, ReadTable, Version}
use Rattle.ft_trace.specs.declared.Shape.{Shape}
use Rattle.ft_trace.specs.declared.Snap.{Snap}
use Rattle.ft_trace.specs.declared.View.{View}
use Rattle.ft_trace.specs.Acts.{is_writing, has_committed}
use Rattle.ft_trace.specs.Addresses.{block, class_of, container_count, slots}
use Rattle.ft_trace.specs.ContainerStates.{container_after, kind_in, changes}
use Rattle.ft_trace.specs.ItemWords.{words_at}
use Rattle.ft_trace.specs.Kinds.{rows, version_at, under, IsKeyed, IsItems}
use Rattle.ft_trace.specs.LoggedReads.{Among}
use Rattle.ft_trace.specs.LoggedLookUps.{LookUpWindow}
use Rattle.ft_trace.specs.Pictures.{entry_offset, table_words, walk_of}
use Rattle.ft_trace.specs.TraceLaws.{HasView}
use Rattle.ft_trace.specs.Traces.{Event, did, run, history, word, Valid}

-- ---- the look-up

-- While a look-up searched the table t of the container o, two loads of the version of the entry or item at p gave a
-- and then b; a is odd, or they differ.
pub record Stopped (k : Shape) (log : List Act) (o t p a b : ℕ) : Type 0 where
  pub walk : List Act
  pub window : LookUpWindow log o t walk
  pub newer : List Act
  pub mid : List Act
  pub rest : List Act
  pub is : walk ≡ newer ++ ReadTable t (version_at (kind_in k.starts o) (class_of t) p) b
      ∷ (mid ++ ReadTable t (version_at (kind_in k.starts o) (class_of t) p) a ∷ rest)
  pub moved : (a % 2 ≢ 0) ⊎ (b ≢ a)

-- the search met the entry at p: a slot of the key's probe named it, and after that its payload was read as the key's;
-- and its kind was read as the key's, or as that of the key once it is deleted
pub record MetKey (k : Shape) (o t p : ℕ) (key : Key) (read : List Act) : Type 0 where
  pub slot : ℕ
  pub passed : List ℕ
  pub left : List ℕ
  pub probe : walk_of (kind_in k.starts o) k.texts (class_of t) key ≡ passed ++ slot ∷ left
  pub payload : Among (ReadTable t (entry_offset (slots (class_of t)) p 3) (key_payload key)) read
  pub named : Among (ReadTable t slot (suc p)) payload.rest
  pub kind : Among (ReadTable t (entry_offset (slots (class_of t)) p 2) (key_kind key)) read
      ⊎ Among (ReadTable t (entry_offset (slots (class_of t)) p 2) (gone_kind key)) read

-- Two loads of the version of the container gave a and then b; a is odd, or they differ.
pub record StoppedByVersion (log : List Act) (o a b : ℕ) : Type 0 where
  pub newer : List Act
  pub mid : List Act
  pub rest : List Act
  pub is : log ≡ newer ++ Version o b ∷ (mid ++ Version o a ∷ rest)
  pub moved : (a % 2 ≢ 0) ⊎ (b ≢ a)

-- ---- the write

-- the root of o names t, and the version of the entry or item at p there is x, which is odd
abbrev pub IsOpenAs : Shape → List Event → ℕ → ℕ → ℕ → ℕ → Type 0
IsOpenAs k es o t p x =
    (word k es (block o 0) ≡ suc t)
    × (slice_index (table_words k t (run k es).words) (version_at (kind_in k.starts o) (class_of t) p) ≡ x)
    × (x % 2 ≡ 1)

-- At some moment from the first of the two loads to the second the version was x, which is odd. Before the first load
-- the log of the pass at seat j was `since`, and before the second one it had that load and `mid` besides.
pub record IsOpenMeanwhile (k : Shape) (es : List Event) (j o t p a x : ℕ) (mid since : List Act) : Type 0 where
  pub later : List Event
  pub upper : List Event
  pub lower : List Event
  pub first : List Event
  pub is : es ≡ later ++ (upper ++ (lower ++ first))
  pub one : View
  pub two : View
  pub at_first : HasView k first j one × (one.log ≡ since)
  pub at_second : HasView k (upper ++ (lower ++ first)) j two
      × (two.log ≡ mid ++ ReadTable t (version_at (kind_in k.starts o) (class_of t) p) a ∷ since)
  pub open_here : IsOpenAs k (lower ++ first) o t p x

-- A pass that writes o committed a call while the version was x: one that changes o, and makes this change of it.
pub record IsCommitted (k : Shape) (es : List Event) (o t p x : ℕ) (Changes : List Event → Call → Type 0) : Type 0 where
  pub later : List Event
  pub sooner : List Event
  pub seat : ℕ
  pub view : View
  pub call : Call
  pub reply : Reply
  pub number : ℕ
  pub snap : Snap
  pub is : es ≡ later ++ did seat view (Commit call reply number snap) ∷ sooner
  pub open_here : IsOpenAs k sooner o t p x
  pub writing : is_writing o view.log ≡ true
  pub changes_container : changes call ≡ o
  pub change : Changes sooner call

-- The version is x still, and the pass that writes o has not committed since it began. Once it has, the trace has the
-- commit.
pub record IsUncommitted (k : Shape) (es : List Event) (o t p x : ℕ) : Type 0 where
  pub open_here : IsOpenAs k es o t p x
  pub seat : ℕ
  pub view : View
  pub at : HasView k es seat view
  pub writing : is_writing o view.log ≡ true
  pub early : has_committed o view.log ≡ false

-- the write for which the version was x
abbrev pub IsWritten : Shape → List Event → ℕ → ℕ → ℕ → ℕ → (List Event → Call → Type 0) → Type 0
IsWritten k es o t p x Changes = IsCommitted k es o t p x Changes ⊎ IsUncommitted k es o t p x

-- the call changes what the container has under the key, or at the index
abbrev pub ChangesKey : Shape → ℕ → Key → List Event → Call → Type 0
ChangesKey k o key es call =
    under (container_after k.starts (call ∷ history es) o).content key
    ≢ under (container_after k.starts (history es) o).content key

abbrev pub ChangesIndex : Shape → ℕ → ℕ → List Event → Call → Type 0
ChangesIndex k o p es call =
    words_at (list_of (container_after k.starts (call ∷ history es) o).content) p
    ≢ words_at (list_of (container_after k.starts (history es) o).content) p

-- At some moment from the first load of the container's version to the second a pass wrote the container. Before the
-- first load the log of the pass at seat j was `since`, and before the second one it had that load and `mid` besides.
pub record IsWrittenMeanwhile (k : Shape) (es : List Event) (j o a : ℕ) (mid since : List Act) : Type 0 where
  pub later : List Event
  pub upper : List Event
  pub lower : List Event
  pub first : List Event
  pub is : es ≡ later ++ (upper ++ (lower ++ first))
  pub one : View
  pub two : View
  pub at_first : HasView k first j one × (one.log ≡ since)
  pub at_second : HasView k (upper ++ (lower ++ first)) j two × (two.log ≡ mid ++ Version o a ∷ since)
  pub seat : ℕ
  pub view : View
  pub at : HasView k (lower ++ first) seat view
  pub writing : is_writing o view.log ≡ true

-- ---- the laws

-- A look-up that two loads of the version of the key's entry stop is stopped by a write under way between them: the
-- version was odd for it, and while it was the pass committed a call that changes what is under this key, or has not
-- committed yet.
abbrev pub ReadersOfKeysAreStoppedByWrites : Type 0
ReadersOfKeysAreStoppedByWrites =
    (k : Shape) (es : List Event) → Valid k es → (o t p a b : ℕ) (key : Key) → o < container_count k
    → IsKeyed (kind_in k.starts o) → p < rows (kind_in k.starts o) (class_of t) → (j : ℕ) (u : View)
    → HasView k es j u → (s : Stopped k u.log o t p a b) → MetKey k o t p key s.rest
    → (x : ℕ) × IsOpenMeanwhile k es j o t p a x s.mid (s.rest ++ s.window.rest)
    × IsWritten k es o t p x (ChangesKey k o key)

-- and one that two loads of the version of the item stop, by a write that changes what is at this index
abbrev pub ReadersOfItemsAreStoppedByWrites : Type 0
ReadersOfItemsAreStoppedByWrites =
    (k : Shape) (es : List Event) → Valid k es → (o t p a b : ℕ) → o < container_count k
    → IsItems (kind_in k.starts o) → p < rows (kind_in k.starts o) (class_of t) → (j : ℕ) (u : View)
    → HasView k es j u → (s : Stopped k u.log o t p a b)
    → (x : ℕ) × IsOpenMeanwhile k es j o t p a x s.mid (s.rest ++ s.window.rest)
    × IsWritten k es o t p x (ChangesIndex k o p)

-- and one that two loads of the version of the container stop, as where its root reads 0, by a write of the container
abbrev pub ReadersOfContainersAreStoppedByWrites : Type 0
ReadersOfContainersAreStoppedByWrites =
    (k : Shape) (es : List Event) → Valid k es → (o a b : ℕ) → o < container_count k → (j : ℕ) (u : View)
    → HasView k es j u → (s : StoppedByVersion u.log o a b) → IsWrittenMeanwhile k es j o a s.mid s.rest
