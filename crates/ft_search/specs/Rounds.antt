-- What one round of a look-up comes to: a search of the table that a root named, or a look where it named none.
use Rattle.std.specs.Prelude.{◌≡◌, ◌≢◌, ◌⊎◌, ℕ, suc, ◌%◌, ◌<◌, ◌≤◌, false, List, [], ◌∷◌, ◌++◌, drop, All, Option, Some, None}
use Rattle.ft_model.specs.declared.data.Key.{Key}
use Rattle.ft_layout.specs.Words.{key_kind, key_payload}
use Rattle.ft_model.specs.declared.script.Kind.{Kind}
use Rattle.ft_model.specs.declared.script.Kind.TheVariants as kind
use Rattle.ft_keys.specs.declared.walk.Way.{Way}
use Rattle.ft_keys.specs.declared.walk.Way.TheVariants as way
use Rattle.ft_trace.specs.declared.Act.{Act}
use Rattle.ft_trace.specs.declared.Act.TheVariants.{ReadRoot, ReadTable, ReadCounter}
use Rattle.ft_trace.specs.declared.View.{View}
use Rattle.ft_trace.specs.Traces.{IsReachable}
use Rattle.ft_trace.specs.declared.Shape.{Shape}
use Rattle.ft_trace.specs.Acts.{reads}
use Rattle.ft_trace.specs.Addresses.{class_of, container_count, slots, IsTableName}
use Rattle.ft_trace.specs.Pictures.{entry_offset, walk_of}
use Rattle.ft_trace.specs.Kinds.{rows, IsKeyed}
use Rattle.ft_trace.specs.ContainerStates.{kind_in}
use Rattle.ft_trace.specs.BoxWords.{box_kind}
use Rattle.ft_trace.specs.LoggedLookUps.{Passed, LookUpWindow, IsReadAsBox}
use Rattle.ft_trace.specs.LookReplies.{IsValueRead}
use Rattle.ft_bank.specs.declared.pass.Pass.{Pass}
use Rattle.ft_bank.specs.LastLoads.{IsLastLoad}
use Rattle.ft_bank.specs.Passes.{view}
use Rattle.ft_bank.specs.Series.{DidAll}
use Rattle.ft_boxes.specs.Counting.{AreBoxSteps}
use Rattle.ft_search.specs.declared.looks.Looked.{Looked}
use Rattle.ft_search.specs.declared.looks.Looked.TheVariants.{Here, Absent, Contended}
use Rattle.ft_search.specs.declared.rounds.Further.{Further}
use Rattle.ft_search.specs.declared.rounds.Further.TheVariants as further
use Rattle.ft_search.specs.declared.rounds.Loaded.{Loaded}
use Rattle.ft_search.specs.declared.rounds.Loaded.TheVariants.{Used, Free}
use Rattle.ft_search.specs.declared.rounds.Round.{Round}
use Rattle.ft_search.specs.declared.rounds.Round.TheVariants.{Ended, Moved}
use Rattle.ft_search.specs.declared.reading.EntryRead.{EntryRead}
use Rattle.ft_search.specs.declared.reading.EntryRead.TheVariants.{Whole, Stopped}
use Rattle.ft_search.specs.declared.reading.SeenEntry.{SeenEntry}
use Rattle.ft_search.specs.LookSteps.{AreLookSteps, InRound, IsCountMoved, OnlyLooked, WasNamed}
use Rattle.ft_search.specs.KeyLooks.{ShowsHere, ShowsAbsent, StopsInTable, ShowsLooked}

-- the kind of the containers that are searched this way
abbrev pub kind_by : Way → Kind
kind_by way.Dict = kind.Dict
kind_by way.Set = kind.Set

-- the loads by which an entry was read to name a box, newest first: its payload, its kind, the key's, its version
abbrev pub boxed_acts : ℕ → ℕ → ℕ → ℕ → ℕ → List Act
boxed_acts t place opened key_kind payload =
    ReadTable t (entry_offset (slots (class_of t)) place 5) payload
    ∷ (ReadTable t (entry_offset (slots (class_of t)) place 4) box_kind
    ∷ (ReadTable t (entry_offset (slots (class_of t)) place 2) key_kind
    ∷ (ReadTable t (entry_offset (slots (class_of t)) place 0) opened ∷ [])))

-- they are the last that the pass did; before them it read that the root of o names the table, and has announced nothing
-- since
abbrev pub NamesBox : ℕ → ℕ → ℕ → ℕ → ℕ → ℕ → List Act → Type 0
NamesBox o t place opened key_kind payload log =
    (older : List Act) × (log ≡ boxed_acts t place opened key_kind payload ++ older) × WasNamed o t older

-- These read an entry: between two loads of its version the kind of its key, its value, and then the counter. After the
-- second one the count of the box was dropped from which the value was read.
pub record SeesWhole (t place : ℕ) (read : SeenEntry) (acts : List Act) : Type 0 where
  pub dropped : List Act
  pub drops : AreBoxSteps dropped
  pub mid : List Act
  pub is : acts
      ≡ dropped ++ ReadTable t (entry_offset (slots (class_of t)) place 0) read.closed ∷ (ReadCounter read.number
      ∷ (mid ++ ReadTable t (entry_offset (slots (class_of t)) place 2) read.key_kind
      ∷ (ReadTable t (entry_offset (slots (class_of t)) place 0) read.opened ∷ [])))
  pub value : IsValueRead t place read.kind read.value mid

-- the version of the entry was loaded twice and was odd, or had changed
pub record IsVersionMoved (t place a b : ℕ) (acts : List Act) : Type 0 where
  pub mid : List Act
  pub is : acts
      ≡ ReadTable t (entry_offset (slots (class_of t)) place 0) b ∷ (mid
      ++ ReadTable t (entry_offset (slots (class_of t)) place 0) a ∷ [])
  pub moved : (a % 2 ≢ 0) ⊎ (b ≢ a)

-- between two loads of the entry's version that gave the same even number its value was read to name a box; the count of the
-- box moved after that, or the box was dead
pub record IsBoxMoved (t place a b : ℕ) (acts : List Act) : Type 0 where
  pub box : ℕ
  pub version : ℕ
  pub even : version % 2 ≡ 0
  pub raised : List Act
  pub mid : List Act
  pub is : acts
      ≡ raised ++ ReadTable t (entry_offset (slots (class_of t)) place 0) version ∷ (mid
      ++ ReadTable t (entry_offset (slots (class_of t)) place 0) version ∷ [])
  pub names : IsReadAsBox t (entry_offset (slots (class_of t)) place 4) (entry_offset (slots (class_of t)) place 5) box mid
  pub count : IsCountMoved box a b raised

-- what these show of an entry
abbrev pub SeesEntry : ℕ → ℕ → List Act → EntryRead → Type 0
SeesEntry t place acts (Whole read) = SeesWhole t place read acts
SeesEntry t place acts (Stopped a b) = IsVersionMoved t place a b acts ⊎ IsBoxMoved t place a b acts

-- these slots of the key's probe are left, and the others were passed by right
pub record Walked (k : Shape) (o t : ℕ) (key : Key) (part : List Act) (left : List ℕ) : Type 0 where
  pub container : o < container_count k
  pub keyed : IsKeyed (kind_in k.starts o)
  pub passed : List ℕ
  pub split : walk_of (kind_in k.starts o) k.texts (class_of t) key ≡ passed ++ left
  pub rightly : All (λ slot. Passed part t (rows (kind_in k.starts o) (class_of t)) slot key) passed

-- what these loads of the table t show of the key, once the root is read again and still names the table
abbrev pub ClosesAt : Shape → ℕ → ℕ → Key → List Act → Looked → Type 0
ClosesAt k o t key part (Here value_kind value n) =
    ((w : View) → w.shape ≡ k → ∥ IsReachable w ∥₁ → LookUpWindow w.log o t part
    → ShowsHere k o key value_kind value n w.log)
    × IsLastLoad n part
ClosesAt k o t key part (Absent n) =
    ((log : List Act) → LookUpWindow log o t part → ShowsAbsent k o key n log) × IsLastLoad n part
ClosesAt k o t key part (Contended a b) = StopsInTable k o t key a b part

-- how a search ends a look-up, where it does
abbrev pub ended_in : Further → Option Looked
ended_in (further.Ended looked) = Some looked
ended_in (further.Next slot) = None

-- the slot that is tried next is the first of those that are left
abbrev pub IsNext : ℕ → List ℕ → Further → Type 0
IsNext mask left (further.Ended looked) = Unit {0}
IsNext mask left (further.Next slot) = (slot ≤ mask) × (left ≡ slot ∷ drop 1 left)

-- the index word of a slot was loaded: the slot was used, maybe only when it was loaded again, or it was found never used
-- before and after the counter
abbrev pub LoadsSlot : ℕ → ℕ → Pass → Pass → Loaded → Type 0
LoadsSlot t slot p q (Used word) =
    (word ≢ 0) × (before : List Act) × DidAll (ReadTable t slot word ∷ before) p q
    × ((before ≡ []) ⊎ ((n : ℕ) × (before ≡ ReadCounter n ∷ (ReadTable t slot 0 ∷ []))))
LoadsSlot t slot p q (Free n) = DidAll (ReadTable t slot 0 ∷ (ReadCounter n ∷ (ReadTable t slot 0 ∷ []))) p q

-- the loads by which a search met an entry with the payload of the key, newest first, after earlier loads
abbrev pub same_acts : ℕ → ℕ → ℕ → Key → List Act → List Act
same_acts t slot place key earlier =
    ReadTable t (entry_offset (slots (class_of t)) place 3) (key_payload key) ∷ (ReadTable t slot (suc place) ∷ earlier)

-- and after them that of the kind of its key
abbrev pub met_acts : ℕ → ℕ → ℕ → Key → ℕ → List Act → List Act
met_acts t slot place key found earlier =
    ReadTable t (entry_offset (slots (class_of t)) place 2) found ∷ same_acts t slot place key earlier

-- and then that of the payload once more, where the entry is there with the key
abbrev pub live_acts : ℕ → ℕ → ℕ → Key → List Act → List Act
live_acts t slot place key earlier =
    ReadTable t (entry_offset (slots (class_of t)) place 3) (key_payload key)
    ∷ met_acts t slot place key (key_kind key) earlier

-- after these loads of the table t the walk goes on, with these slots left, or the look-up ends so
abbrev pub Turns : Shape → ℕ → ℕ → Key → List Act → List ℕ → Option Looked → Type 0
Turns k o t key part left None = Walked k o t key part left
Turns k o t key part left (Some looked) = ClosesAt k o t key part looked

-- the pass loaded more of the table, after which the walk goes on or the look-up ends so
abbrev pub TurnsAfter : Shape → ℕ → ℕ → Key → List Act → List ℕ → Option Looked → Pass → Pass → Type 0
TurnsAfter k o t key earlier left result p q =
    (part : List Act) × InRound part p q × DidAll part p q × Turns k o t key (part ++ earlier) left result

-- after these loads the root was read again: it names the table as before, or it has changed to r, which names none or
-- a table that the pass had not found since it last announced
abbrev pub IsFresh : Shape → ℕ → List Act → Type 0
IsFresh k r log = (u : ℕ) → r ≡ suc u → IsTableName k u × (reads u log ≡ false)

-- a round over the table t, which the last read of the root named
abbrev pub EndsTable : Shape → ℕ → Key → ℕ → Pass → Pass → Round → Type 0
EndsTable k o key t p q (Ended looked) =
    (part : List Act) × InRound part p q × DidAll (ReadRoot o (suc t) ∷ part) p q × ClosesAt k o t key part looked
EndsTable k o key t p q (Moved r) =
    (part : List Act) × InRound part p q × DidAll (ReadRoot o r ∷ part) p q × (r ≢ suc t) × IsFresh k r (part ++ (view p).log)

-- a round at this root, which was read last
abbrev pub EndsRound : Shape → ℕ → Key → ℕ → Pass → Pass → Round → Type 0
EndsRound k o key root p q (Ended looked) =
    (part : List Act) × AreLookSteps part × OnlyLooked (view p) (view q) × DidAll part p q
    × ShowsLooked k o key (part ++ ReadRoot o root ∷ []) (view q).log looked
EndsRound k o key root p q (Moved r) =
    (part : List Act) × InRound part p q × DidAll (ReadRoot o r ∷ part) p q × (r ≢ root) × IsFresh k r (part ++ (view p).log)
