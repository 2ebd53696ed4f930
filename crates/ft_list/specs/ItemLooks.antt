-- What a look-up of one item without the lock loads, and what its log then shows. (profile)
use Rattle.std.specs.Prelude.{◌≡◌, ◌≢◌, ◌⊎◌, ℕ, suc, pos, false, ◌%◌, ◌<◌, ◌≤◌, List, [], ◌∷◌, ◌++◌}
use Rattle.ft_model.specs.declared.call.Call.TheVariants as call
use Rattle.ft_model.specs.declared.call.ListCall.TheVariants as list
use Rattle.ft_trace.specs.declared.Act.{Act}
use Rattle.ft_trace.specs.declared.Act.TheVariants.{ReadRoot, ReadTable, ReadCounter}
use Rattle.ft_trace.specs.declared.Shape.{Shape}
use Rattle.ft_trace.specs.declared.View.{View}
use Rattle.ft_trace.specs.Addresses.{class_of, slots}
use Rattle.ft_trace.specs.Pictures.{item_offset}
use Rattle.ft_trace.specs.LoggedReads.{Among}
use Rattle.ft_trace.specs.LoggedLookUps.{LookUpWindow, Bare, IsReadAsBox, ItemHit, ItemPast}
use Rattle.ft_trace.specs.LookReplies.{IsItemRead, item_reply}
use Rattle.ft_trace.specs.Traces.{IsReachable}
use Rattle.ft_bank.specs.declared.pass.Pass.{Pass}
use Rattle.ft_bank.specs.LastLoads.{IsLastLoad}
use Rattle.ft_bank.specs.Passes.{view}
use Rattle.ft_bank.specs.Reads.{IsShown}
use Rattle.ft_bank.specs.Series.{DidAll}
use Rattle.ft_boxes.specs.Counting.{AreBoxSteps}
use Rattle.ft_search.specs.KeyLooks.{AnsweredByLook, EndsLook, StopsAtContainer}
use Rattle.ft_search.specs.LookSteps.{AreLookSteps, InRound, IsCountMoved, OnlyLooked}
use Rattle.ft_search.specs.Rounds.{IsFresh}
use Rattle.ft_section.specs.declared.answers.Look.{Look}
use Rattle.ft_section.specs.declared.answers.Look.TheVariants as look
use Rattle.ft_list.specs.declared.gets.AtIndex.{AtIndex}
use Rattle.ft_list.specs.declared.gets.AtIndex.TheVariants.{Found as AtFound, Contended as AtContended}
use Rattle.ft_list.specs.declared.looks.LookedItem.{LookedItem}
use Rattle.ft_list.specs.declared.looks.LookedItem.TheVariants.{Item, Past, Contended}
use Rattle.ft_list.specs.declared.looks.ItemRound.{ItemRound}
use Rattle.ft_list.specs.declared.looks.ItemRound.TheVariants.{Ended, Moved}
use Rattle.ft_list.specs.declared.looks.ItemRead.{ItemRead}
use Rattle.ft_list.specs.declared.looks.ItemRead.TheVariants.{Whole, Stopped}
use Rattle.ft_list.specs.declared.looks.SeenItem.{SeenItem}

-- These read an item: between two loads of its version its value, and then the counter. After the second one the count of
-- the box was dropped from which the value was read.
pub record SeesWholeItem (t index : ℕ) (read : SeenItem) (acts : List Act) : Type 0 where
  pub dropped : List Act
  pub drops : AreBoxSteps dropped
  pub mid : List Act
  pub is : acts
      ≡ dropped ++ ReadTable t (item_offset index 0) read.closed ∷ (ReadCounter read.number
      ∷ (mid ++ ReadTable t (item_offset index 0) read.opened ∷ []))
  pub value : IsItemRead t index read.kind read.value mid

-- The log shows what the item at this index was when the counter was n: between two loads of its version that found the
-- same even number its value was read as these, in its words or in the box that they name.
pub record ShowsItem (o index kind payload n : ℕ) (log : List Act) : Type 0 where
  pub t : ℕ
  pub low : index < slots (class_of t)
  pub hit : ItemHit log o t index n
  pub read : IsItemRead t index kind payload hit.mid

-- The log shows that the list had no item at this index when the counter was n: its root named a table that has none,
-- or no table.
abbrev pub ShowsPast : ℕ → ℕ → ℕ → List Act → Type 0
ShowsPast o index n log = ((t : ℕ) × (slots (class_of t) ≤ index) × ItemPast log o t n) ⊎ Bare log o n

-- two loads of the version of this very item of the table gave a and then b, and a is odd or they differ
pub record StopsAtItem (t index a b : ℕ) (part : List Act) : Type 0 where
  pub low : index < slots (class_of t)
  pub newer : List Act
  pub mid : List Act
  pub rest : List Act
  pub is : part ≡ newer ++ ReadTable t (item_offset index 0) b ∷ (mid ++ ReadTable t (item_offset index 0) a ∷ rest)
  pub moved : (a % 2 ≢ 0) ⊎ (b ≢ a)

-- Between two loads of the version of this very item of the table that gave the same even number its value was read to name
-- a box. After that the count of the box moved from a to b when it should be raised, or a and b are both the word of a dead
-- box, which was found there.
pub record StopsAtItemBox (t index a b : ℕ) (part : List Act) : Type 0 where
  pub low : index < slots (class_of t)
  pub box : ℕ
  pub version : ℕ
  pub even : version % 2 ≡ 0
  pub newer : List Act
  pub mid : List Act
  pub rest : List Act
  pub is : part
      ≡ newer ++ ReadTable t (item_offset index 0) version ∷ (mid
      ++ ReadTable t (item_offset index 0) version ∷ rest)
  pub names : IsReadAsBox t (item_offset index 1) (item_offset index 2) box mid
  pub count : IsCountMoved box a b newer

-- the version of the item stopped the look-up, or the count of the box that it names
abbrev pub StopsInItem : ℕ → ℕ → ℕ → ℕ → List Act → Type 0
StopsInItem t index a b part = StopsAtItem t index a b part ⊎ StopsAtItemBox t index a b part

-- what these show of an item
abbrev pub SeesItem : ℕ → ℕ → List Act → ItemRead → Type 0
SeesItem t index acts (Whole read) = SeesWholeItem t index read acts
SeesItem t index acts (Stopped a b) = StopsInItem t index a b acts

-- Two loads of one version gave a and then b, and a is odd or they differ: the version of this very item in a table
-- that the root named, or that of the list where its root was read 0.
abbrev pub StopsItemByVersion : ℕ → ℕ → ℕ → ℕ → List Act → Type 0
StopsItemByVersion o index a b part =
    ((t : ℕ) × Among (ReadRoot o (suc t)) part × StopsAtItem t index a b part) ⊎ StopsAtContainer o a b part

-- a version stopped the look-up, or the count of the box that the item names in a table that the root named
abbrev pub StopsItemLook : ℕ → ℕ → ℕ → ℕ → List Act → Type 0
StopsItemLook o index a b part =
    StopsItemByVersion o index a b part ⊎ ((t : ℕ) × Among (ReadRoot o (suc t)) part × StopsAtItemBox t index a b part)

-- A look-up came to this, by its own loads (`part`) and those before (`log` has both), at what it loaded last as the
-- counter. It is contended by the version of that very item, in a table that its root was read to name, or by the count of
-- the box that the item names; or by the version of the list, whose root was read 0 between.
abbrev pub ShowsFound : Shape → ℕ → ℕ → List Act → List Act → LookedItem → Type 0
ShowsFound k o index part log (Item kind payload n) =
    ShowsItem o index kind payload n log × IsLastLoad n part × EndsLook o n part
ShowsFound k o index part log (Past n) = ShowsPast o index n log × IsLastLoad n part × EndsLook o n part
ShowsFound k o index part log (Contended a b) = StopsItemLook o index a b part

-- what these loads show once the root is read again and still names the table t
abbrev pub ItemClosesAt : Shape → ℕ → ℕ → ℕ → List Act → LookedItem → Type 0
ItemClosesAt k o t index part (Item kind payload n) =
    ((w : View) → w.shape ≡ k → ∥ IsReachable w ∥₁ → LookUpWindow w.log o t part
    → ShowsItem o index kind payload n w.log)
    × IsLastLoad n part
ItemClosesAt k o t index part (Past n) =
    ((log : List Act) → LookUpWindow log o t part → ShowsPast o index n log) × IsLastLoad n part
ItemClosesAt k o t index part (Contended a b) = StopsInItem t index a b part

-- a round over the table t, which the last read of the root named
abbrev pub EndsItemTable : Shape → ℕ → ℕ → ℕ → Pass → Pass → ItemRound → Type 0
EndsItemTable k o index t p q (Ended found) =
    (part : List Act) × InRound part p q × DidAll (ReadRoot o (suc t) ∷ part) p q × ItemClosesAt k o t index part found
EndsItemTable k o index t p q (Moved r) =
    (part : List Act) × InRound part p q × DidAll (ReadRoot o r ∷ part) p q × (r ≢ suc t) × IsFresh k r (part ++ (view p).log)

-- a round at this root, which was read last
abbrev pub EndsItemRound : Shape → ℕ → ℕ → ℕ → Pass → Pass → ItemRound → Type 0
EndsItemRound k o index root p q (Ended found) =
    (part : List Act) × AreLookSteps part × OnlyLooked (view p) (view q) × DidAll part p q
    × ShowsFound k o index (part ++ ReadRoot o root ∷ []) (view q).log found
EndsItemRound k o index root p q (Moved r) =
    (part : List Act) × InRound part p q × DidAll (ReadRoot o r ∷ part) p q × (r ≢ root) × IsFresh k r (part ++ (view p).log)

-- The pass took only steps of look-ups, and the version of this very item stopped this one, or the count of the box that the
-- item names; or the version of the list, where its root was read 0.
pub record IsItemContended (o index a b : ℕ) (v w : View) : Type 0 where
  pub looked : OnlyLooked v w
  pub part : List Act
  pub looks : AreLookSteps part
  pub own : w.log ≡ part ++ v.log
  pub stops : StopsItemLook o index a b part

-- what a look-up found at this index: a value or none, which `l[i]` may be answered with; or it was contended
abbrev pub IsItemFoundAt : ℕ → ℕ → View → View → AtIndex → Type 0
IsItemFoundAt o index v w (AtFound found n) =
    OnlyLooked v w × IsShown w (call.List o (list.Get (pos index))) (item_reply found) n
    × ((part : List Act) × (w.log ≡ part ++ v.log) × IsLastLoad n part × EndsLook o n part)
IsItemFoundAt o index v w (AtContended a b) = IsItemContended o index a b v w

-- What `l[i]` answers without the lock at an index that isn't negative. It gave a reply, which is the one that its
-- entry has, at the counter that it loaded last; after that it read that the root names a table, or else it loaded that
-- counter between two loads of the list's version that gave the same even number. Or it was contended. It takes no
-- memory.
abbrev pub IsGetOf : ℕ → ℕ → View → View → Look → Type 0
IsGetOf o index v w (look.Done said stamp) =
    (x : AnsweredByLook (call.List o (list.Get (pos index))) said stamp.number v w) × (stamp.wrote ≡ false)
    × EndsLook o stamp.number x.part
IsGetOf o index v w (look.Contended a b) = IsItemContended o index a b v w
IsGetOf o index v w look.NoMemory = ⊥
