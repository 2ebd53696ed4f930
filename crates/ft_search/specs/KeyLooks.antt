-- What a look-up of one key without the lock loads, and what its log then shows. (profile)
use Rattle.std.specs.Prelude.{◌≡◌, ◌≢◌, ◌⊎◌, ℕ, suc, ◌%◌, ◌<◌, ◌≤◌, false, List, [], ◌∷◌, ◌++◌}
use Rattle.ft_model.specs.declared.data.Key.{Key}
use Rattle.ft_layout.specs.Words.{key_kind, gone_kind, key_payload}
use Rattle.ft_trace.specs.declared.Act.{Act}
use Rattle.ft_trace.specs.declared.Act.TheVariants.{Answer, ReadBlock, ReadRoot, ReadTable, ReadCounter, ReadBox, Version}
use Rattle.ft_trace.specs.declared.Shape.{Shape}
use Rattle.ft_trace.specs.Addresses.{class_of, slots}
use Rattle.ft_trace.specs.Pictures.{entry_offset}
use Rattle.ft_trace.specs.Kinds.{rows}
use Rattle.ft_trace.specs.ContainerStates.{kind_in}
use Rattle.ft_trace.specs.LoggedReads.{Among}
use Rattle.ft_trace.specs.Acts.{seen_writes, view_after}
use Rattle.ft_trace.specs.LoggedLookUps.{Hit, Bare, IsReadAsBox}
use Rattle.ft_trace.specs.LookReplies.{IsValueRead, IsAbsent}
use Rattle.ft_search.specs.declared.looks.Looked.{Looked}
use Rattle.ft_search.specs.declared.looks.Looked.TheVariants as looked
use Rattle.ft_section.specs.declared.answers.Look.{Look}
use Rattle.ft_section.specs.declared.answers.Look.TheVariants as look
use Rattle.ft_model.specs.declared.call.Call.{Call}
use Rattle.ft_trace.specs.declared.View.{View}
use Rattle.ft_model.specs.declared.reply.Reply.{Reply}
use Rattle.ft_bank.specs.LastLoads.{IsLastBetween, IsLastLoad}
use Rattle.ft_search.specs.LookSteps.{AreLookSteps, IsCountMoved, OnlyLooked}

-- only loads of versions, words of blocks, tables and boxes, and the counter
abbrev pub AreLooks : List Act → Type 0
AreLooks [] = Unit {0}
AreLooks (Version o f ∷ l) = AreLooks l
AreLooks (ReadBlock o i f ∷ l) = AreLooks l
AreLooks (ReadRoot o f ∷ l) = AreLooks l
AreLooks (ReadTable t i f ∷ l) = AreLooks l
AreLooks (ReadCounter f ∷ l) = AreLooks l
AreLooks (ReadBox b i f ∷ l) = AreLooks l
AreLooks (act ∷ l) = ⊥

-- The log shows that the key was there when the counter was n: the search met its entry, and between two loads of the
-- entry's version that found the same even number these words of the value were read.
pub record ShowsHere (k : Shape) (o : ℕ) (key : Key) (value_kind value n : ℕ) (log : List Act) : Type 0 where
  pub t : ℕ
  pub place : ℕ
  pub low : place < rows (kind_in k.starts o) (class_of t)
  pub hit : Hit log o t place key n
  pub read : IsValueRead t place value_kind value hit.mid

-- The log shows that the key was not there when the counter was n: in the table that the root named each slot of the
-- key's probe was passed by right, up to one never used or all of them; or the root named no table.
abbrev pub ShowsAbsent : Shape → ℕ → Key → ℕ → List Act → Type 0
ShowsAbsent k o key n log = ((t : ℕ) × IsAbsent k log o t key n) ⊎ Bare log o n

-- Two loads of the version of one entry of the table of o gave a and then b, and a is odd or they differ. Before that
-- the entry was read to be the key's, or to be a deleted one of it.
pub record StopsAtEntry (k : Shape) (o t : ℕ) (key : Key) (a b : ℕ) (part : List Act) : Type 0 where
  pub place : ℕ
  pub low : place < rows (kind_in k.starts o) (class_of t)
  pub newer : List Act
  pub mid : List Act
  pub rest : List Act
  pub is : part ≡ newer ++ ReadTable t (entry_offset (slots (class_of t)) place 0) b ∷ (mid
      ++ ReadTable t (entry_offset (slots (class_of t)) place 0) a ∷ rest)
  pub moved : (a % 2 ≢ 0) ⊎ (b ≢ a)
  pub payload_read : Among (ReadTable t (entry_offset (slots (class_of t)) place 3) (key_payload key)) rest
  pub kind_read : Among (ReadTable t (entry_offset (slots (class_of t)) place 2) (key_kind key)) rest
      ⊎ Among (ReadTable t (entry_offset (slots (class_of t)) place 2) (gone_kind key)) rest

-- Between two loads of the version of one entry of the table of o that gave the same even number its value was read to name
-- a box. After that the count of the box moved from a to b when it should be raised, or a and b are both the word of a dead
-- box, which was found there. Before that the entry was read to be the key's.
pub record StopsAtBox (k : Shape) (o t : ℕ) (key : Key) (a b : ℕ) (part : List Act) : Type 0 where
  pub place : ℕ
  pub low : place < rows (kind_in k.starts o) (class_of t)
  pub box : ℕ
  pub version : ℕ
  pub even : version % 2 ≡ 0
  pub newer : List Act
  pub mid : List Act
  pub rest : List Act
  pub is : part ≡ newer ++ ReadTable t (entry_offset (slots (class_of t)) place 0) version ∷ (mid
      ++ ReadTable t (entry_offset (slots (class_of t)) place 0) version ∷ rest)
  pub names : IsReadAsBox t (entry_offset (slots (class_of t)) place 4) (entry_offset (slots (class_of t)) place 5) box mid
  pub count : IsCountMoved box a b newer
  pub payload_read : Among (ReadTable t (entry_offset (slots (class_of t)) place 3) (key_payload key)) rest
  pub kind_read : Among (ReadTable t (entry_offset (slots (class_of t)) place 2) (key_kind key)) rest

-- the version of the key's own entry stopped the look-up, or the count of the box that it names
abbrev pub StopsInTable : Shape → ℕ → ℕ → Key → ℕ → ℕ → List Act → Type 0
StopsInTable k o t key a b part = StopsAtEntry k o t key a b part ⊎ StopsAtBox k o t key a b part

-- Two loads of the version of the container gave a and then b, and a is odd or they differ. Between them its root was
-- read 0.
pub record StopsAtContainer (o a b : ℕ) (part : List Act) : Type 0 where
  pub newer : List Act
  pub mid : List Act
  pub rest : List Act
  pub is : part ≡ newer ++ Version o b ∷ (mid ++ Version o a ∷ rest)
  pub moved : (a % 2 ≢ 0) ⊎ (b ≢ a)
  pub bare : Among (ReadRoot o 0) mid

-- Two loads of one version gave a and then b, and a is odd or they differ: the version of an entry of the key in a
-- table that the root named, or the container's where the root was read 0.
abbrev pub StopsByVersion : Shape → ℕ → Key → ℕ → ℕ → List Act → Type 0
StopsByVersion k o key a b part =
    ((t : ℕ) × Among (ReadRoot o (suc t)) part × StopsAtEntry k o t key a b part) ⊎ StopsAtContainer o a b part

-- a version stopped the look-up, or the count of the box that the key's entry names in a table that the root named
abbrev pub Stops : Shape → ℕ → Key → ℕ → ℕ → List Act → Type 0
Stops k o key a b part =
    StopsByVersion k o key a b part ⊎ ((t : ℕ) × Among (ReadRoot o (suc t)) part × StopsAtBox k o t key a b part)

-- The last of these loads read that the root of o names a table; or else the newest load of the counter gave n between
-- two loads of the container's version that gave the same even number.
abbrev pub EndsLook : ℕ → ℕ → List Act → Type 0
EndsLook o n part =
    ((t : ℕ) × (older : List Act) × (part ≡ ReadRoot o (suc t) ∷ older)) ⊎ IsLastBetween o n part

-- a look-up came to this, by its own loads (`part`) and those before (`log` has both), at what it loaded last as the
-- counter
abbrev pub ShowsLooked : Shape → ℕ → Key → List Act → List Act → Looked → Type 0
ShowsLooked k o key part log (looked.Here value_kind value n) =
    ShowsHere k o key value_kind value n log × IsLastLoad n part × EndsLook o n part
ShowsLooked k o key part log (looked.Absent n) =
    ShowsAbsent k o key n log × IsLastLoad n part × EndsLook o n part
ShowsLooked k o key part log (looked.Contended a b) = Stops k o key a b part

-- The pass took only steps of look-ups, and the version of the key's own entry stopped this one, or the count of the box that
-- the entry names; or the container's version, where its root was read 0.
pub record IsKeyContended (o : ℕ) (key : Key) (a b : ℕ) (v w : View) : Type 0 where
  pub looked : OnlyLooked v w
  pub part : List Act
  pub looks : AreLookSteps part
  pub own : w.log ≡ part ++ v.log
  pub stops : Stops v.shape o key a b part

-- The pass took only steps of look-ups, and then gave this reply to the call, with the number that the counter had when it
-- loaded it last; it has done nothing else. The number is at least all writes that the pass had seen. (profile)
pub record AnsweredByLook (called : Call) (said : Reply) (number : ℕ) (v w : View) : Type 0 where
  pub before : View
  pub looked : OnlyLooked v before
  pub part : List Act
  pub own : before.log ≡ part ++ v.log
  pub counted : IsLastLoad number part
  pub answered : w ≡ view_after (Answer called said number) before
  pub seen : seen_writes v ≤ number

-- What a call answers that looks up a key without the lock. It gave a reply, which is the one that its entry has, at the
-- counter that it loaded last; after that it read that the root names a table, or else it loaded that counter between
-- two loads of the container's version that gave the same even number. Or it was contended. It takes no memory.
abbrev pub IsLookOf : ℕ → Key → Call → View → View → Look → Type 0
IsLookOf o key called v w (look.Done said stamp) =
    (x : AnsweredByLook called said stamp.number v w) × (stamp.wrote ≡ false) × EndsLook o stamp.number x.part
IsLookOf o key called v w (look.Contended a b) = IsKeyContended o key a b v w
IsLookOf o key called v w look.NoMemory = ⊥
