-- Where a root is 0 while its container is being written.
use Rattle.std.specs.Prelude.{◌≡◌, ◌≢◌, ◌⊎◌, ℕ, suc, ◌<◌, ◌%◌, true, List, [], ◌∷◌, ◌++◌}
use Rattle.ft_model.specs.declared.call.Call.{Call}
use Rattle.ft_model.specs.declared.reply.Reply.{Reply}
use Rattle.ft_trace.specs.declared.Act.{Act}
use Rattle.ft_trace.specs.declared.Act.TheVariants.{StartWrite, StopWrite, Commit}
use Rattle.ft_trace.specs.declared.Shape.{Shape}
use Rattle.ft_trace.specs.declared.Snap.{Snap}
use Rattle.ft_trace.specs.declared.View.{View}
use Rattle.ft_trace.specs.Acts.{is_writing, has_emptied}
use Rattle.ft_trace.specs.Addresses.{block, bits, container_count, IsTableName, free_bit_of, free_word_of}
use Rattle.ft_trace.specs.Ages.{age}
use Rattle.ft_trace.specs.Bits.{bit}
use Rattle.ft_trace.specs.LoggedReads.{IsNothing}
use Rattle.ft_trace.specs.ContainerStates.{container_after, changes, may_empty}
use Rattle.ft_trace.specs.Traces.{Event, did, word, history, Valid}
use Rattle.ft_trace.specs.TraceLaws.{HasView}

-- none of these makes the version of o odd or even
abbrev pub OfOneWrite : ℕ → List Act → Type 0
OfOneWrite o [] = Unit {0}
OfOneWrite o (StartWrite p f ∷ log) = (p ≢ o) × OfOneWrite o log
OfOneWrite o (StopWrite p f ∷ log) = (p ≢ o) × OfOneWrite o log
OfOneWrite o (act ∷ log) = OfOneWrite o log

-- the pass with this log made the version of o odd when o had no table and nothing in it, and has not made it even
-- since
pub record BeganBare (k : Shape) (es : List Event) (o j : ℕ) (log : List Act) : Type 0 where
  pub newer : List Event
  pub older : List Event
  pub view : View
  pub found : ℕ
  pub split : newer ++ did j view (StartWrite o found) ∷ older ≡ es
  pub own : List Act
  pub is : log ≡ own ++ StartWrite o found ∷ view.log
  pub one : OfOneWrite o own
  pub nothing : IsNothing (container_after k.starts (history older) o)

-- A root that is 0 while the version is odd: the pass that writes put 0 there in this write, or the container had no
-- table and nothing in it when the write began. A call that is committed after that put is one that may give up its
-- table first: a clear, a copy, a symmetric difference.
abbrev pub ZeroRootsHaveCauses : Type 0
ZeroRootsHaveCauses =
    (k : Shape) (es : List Event) → Valid k es → (o : ℕ) → o < container_count k → (j : ℕ) (u : View) → HasView k es j u
    → (is_writing o u.log ≡ true → word k es (block o 0) ≡ 0
    → (has_emptied o u.log ≡ true) ⊎ BeganBare k es o j u.log)
    × ((newer rest : List Act) (c : Call) (r : Reply) (f : ℕ) (s : Snap) → u.log ≡ newer ++ Commit c r f s ∷ rest
    → changes c ≡ o → has_emptied o rest ≡ true → may_empty c ≡ true)

-- a retired table is not free, and no root names it
abbrev pub RetiredTablesAreApart : Type 0
RetiredTablesAreApart =
    (k : Shape) (es : List Event) → Valid k es → (t : ℕ) → IsTableName k t → age es t % 5 ≡ 4
    → (bit (free_bit_of t) (word k es (bits (free_word_of t))) ≢ 1)
    × ((o : ℕ) → o < container_count k → word k es (block o 0) ≢ suc t)
