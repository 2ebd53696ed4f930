-- How many index words of a table a search loads.
use Rattle.std.specs.Prelude.{◌≡◌, ◌≢◌, ℕ, zero, suc, false, ◌+◌, ◌==◌, ◌&&◌, ◌<◌, ◌≤◌, nat_lt, List, [], ◌∷◌, ◌++◌, if◌then◌else◌, All, Option, None}
use Rattle.ft_layout.specs.Containers.{class_mask}
use Rattle.ft_keys.specs.declared.walk.Way.{Way}
use Rattle.ft_keys.specs.declared.words.Access.{Access}
use Rattle.ft_keys.specs.declared.words.Access.TheVariants.{Index}
use Rattle.ft_keys.specs.Accesses.{Follows}
use Rattle.ft_keys.specs.WalkCosts.{most_loads, free_loads, TriedAgainOnce}
use Rattle.ft_trace.specs.declared.Act.{Act}
use Rattle.ft_trace.specs.declared.Act.TheVariants.{ReadRoot, ReadTable}
use Rattle.ft_trace.specs.declared.View.{View}
use Rattle.ft_trace.specs.Acts.{reads}
use Rattle.ft_trace.specs.Addresses.{class_of, slots}
use Rattle.ft_bank.specs.declared.pass.Pass.{Pass}
use Rattle.ft_bank.specs.Series.{DidAll}
use Rattle.ft_search.specs.declared.looks.Looked.{Looked}
use Rattle.ft_search.specs.LookSteps.{AreRoundSteps}
use Rattle.ft_search.specs.declared.rounds.Round.{Round}
use Rattle.ft_search.specs.declared.rounds.Round.TheVariants.{Ended, Moved}

-- 1 for a load of an index word of the table t, and else 0
abbrev pub index_read : ℕ → Act → ℕ
index_read t (ReadTable u i f) = if (u == t) && nat_lt i (slots (class_of t)) then 1 else 0
index_read t act = 0

-- how many of these are loads of index words of the table t
abbrev pub index_reads : ℕ → List Act → ℕ
index_reads t [] = 0
index_reads t (act ∷ acts) = index_read t act + index_reads t acts

-- Of each table these load at most as many index words as one search may: two for each slot and 13 more of a dict's,
-- eleven for each slot and 130 more of a set's. (profile)
abbrev pub AreFewReads : Way → List Act → Type 0
AreFewReads way acts = (t : ℕ) → index_reads t acts ≤ most_loads way (class_mask (class_of t))

-- ---- a look-up without the lock

-- What one round loads after the root was read: at most as many index words as one search may, second loads of a slot
-- counted, of the table alone that the root named. (profile)
abbrev pub IsRound : Way → ℕ → List Act → Type 0
IsRound way root acts = AreFewReads way acts × ((t : ℕ) → root ≢ suc t → index_reads t acts ≡ 0)

-- That many rounds of a look-up in the container o, newest first, up to a read of its root: after each one the root was
-- read again, and was another one. It named no table, or one that no earlier round found there, so there are at most
-- two rounds for each table, and one more. (profile)
abbrev pub AreMovedRounds : Way → ℕ → ℕ → ℕ → List Act → Type 0
AreMovedRounds way o zero root acts = acts ≡ ReadRoot o root ∷ []
AreMovedRounds way o (suc n) root acts =
    (before : ℕ) × (round earlier : List Act) × AreMovedRounds way o n before earlier × AreRoundSteps round
    × IsRound way before round × (root ≢ before) × ((t : ℕ) → root ≡ suc t → reads t (round ++ earlier) ≡ false)
    × (acts ≡ ReadRoot o root ∷ (round ++ earlier))

-- All that a look-up in the container o loads: rounds, each of which but the last one found that the root had changed.
-- (profile)
pub record AreRounds (way : Way) (o : ℕ) (acts : List Act) : Type 0 where
  pub moved : ℕ
  pub root : ℕ
  pub earlier : List Act
  pub rounds : AreMovedRounds way o moved root earlier
  pub last : List Act
  pub few : IsRound way root last
  pub is : acts ≡ last ++ earlier

-- the loads of a look-up are all that the pass did since, and such rounds
abbrev pub LoadsRounds : Way → ℕ → View → View → Type 0
LoadsRounds way o v w = (part : List Act) × (w.log ≡ part ++ v.log) × AreRounds way o part

-- what the pass did in one round, which began when the root had been read, is a round's; if the root has changed it was
-- read last
abbrev pub SpendsRound : Way → ℕ → ℕ → Pass → Pass → Round → Type 0
SpendsRound way o root p q (Ended looked) = (part : List Act) × DidAll part p q × IsRound way root part
SpendsRound way o root p q (Moved r) =
    (part : List Act) × DidAll (ReadRoot o r ∷ part) p q × IsRound way root part

-- ---- one walk

-- the loads of index words of the table t among these
abbrev pub indexed : ℕ → List Act → List Access
indexed t [] = []
indexed t (ReadTable u i f ∷ acts) =
    if (u == t) && nat_lt i (slots (class_of t)) then Index i f ∷ indexed t acts else indexed t acts
indexed t (act ∷ acts) = indexed t acts

-- none of these is a load of an index word
abbrev pub LoadsNoIndex : List Act → Type 0
LoadsNoIndex acts = (t : ℕ) → indexed t acts ≡ []

-- Of index words these loaded those of the table t alone, on a walk of which these slots are left, each once; one that
-- was found never used was loaded again once at most.
pub record WalksOn (t : ℕ) (walk : List ℕ) (acts : List Act) (left : List ℕ) : Type 0 where
  pub follows : Follows walk (indexed t acts) left
  pub once : TriedAgainOnce (indexed t acts)
  pub low : All (λ slot. slot < slots (class_of t)) left
  pub others : (u : ℕ) → u ≢ t → indexed u acts ≡ []

-- and the walk may go on: the last slot was found used
abbrev pub MayWalkOn : ℕ → List ℕ → List Act → List ℕ → Type 0
MayWalkOn t walk acts left = WalksOn t walk acts left × (free_loads (indexed t acts) ≡ 0)

-- the pass loaded more on the walk, which goes on after it with these slots left, or not
abbrev pub SpendsSearch : ℕ → List ℕ → List Act → List ℕ → Option Looked → Pass → Pass → Type 0
SpendsSearch t walk earlier left result p q =
    (part : List Act) × DidAll part p q × ((rest : List ℕ) × WalksOn t walk (part ++ earlier) rest)
    × (result ≡ None → MayWalkOn t walk (part ++ earlier) left)
