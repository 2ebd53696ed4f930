-- What `make` writes. (profile)
use Rattle.std.specs.Prelude.{◌≡◌, ℕ, Bool, true, false, List, [], ◌∷◌, ◌++◌, length, count_by, slice_get, codes, Option, None, Ok}
use Rattle.std.specs.Fmt.{decimal}
use Rattle.std.specs.List.{flat_map}
use Rattle.std.specs.Option.{option_map_or}
use Rattle.ft_bank.specs.declared.closed.Closed.{Closed}
use Rattle.ft_model.specs.declared.content.Content.{Content}
use Rattle.ft_model.specs.declared.entry.Entry.{Entry}
use Rattle.ft_model.specs.declared.reply.Reply.{Reply}
use Rattle.ft_model.specs.declared.reply.Reply.TheVariants as reply
use Rattle.ft_model.specs.declared.reply.Raise.TheVariants as raise
use Rattle.ft_model.specs.declared.script.ScriptParts.{ScriptParts}
use Rattle.ft_model.specs.Answers.{is_memory}
use Rattle.ft_model.specs.Histories.{writes, world_at, IsLegal}
use Rattle.ft_model.specs.Numbers.{AreFitting}
use Rattle.ft_model.specs.Worlds.{length_of}
use Rattle.ft_script.specs.Generator.{made_text}
use Rattle.ft_script.specs.ReadScripts.{read_script}
use Rattle.ft_run_turns.specs.OrderedHistories.{IsOrderRunFor}
use Rattle.ft_runner.specs.Findings.{stored}
use Rattle.ft_runner.specs.LeftBanks.{LeavesBank}

-- ---- the summary

abbrev pub is_key_error : Reply → Bool
is_key_error (reply.Raised raise.NoKey) = true
is_key_error _ = false

abbrev pub is_index_error : Reply → Bool
is_index_error (reply.Raised raise.NoIndex) = true
is_index_error _ = false

-- how many pairs, items or elements a container has
abbrev pub length_in : List Content → ℕ → ℕ
length_in world container = option_map_or length_of (slice_get world container) 0

-- a line of the summary for each: the calls, the writes, the replies of three kinds, and how much the dict, the list
-- and the set have in the end, which are containers 0, 1 and 2
abbrev pub summary_rows : ℕ → List Entry → (ℕ → ℕ) → List (List ℕ × ℕ)
summary_rows calls history lengths =
    (codes "calls", calls)
    ∷ (codes "writes", count_by (λ entry. entry.wrote) history)
    ∷ (codes "KeyError", count_by (λ entry. is_key_error entry.reply) history)
    ∷ (codes "IndexError", count_by (λ entry. is_index_error entry.reply) history)
    ∷ (codes "MemoryError", count_by (λ entry. is_memory entry.reply) history)
    ∷ (codes "d", lengths 0) ∷ (codes "l", lengths 1) ∷ (codes "s", lengths 2) ∷ []

-- a word and a number
abbrev pub row_text : List ℕ × ℕ → List ℕ
row_text row = row.0 ++ 32 ∷ decimal row.1 ++ 10 ∷ []

abbrev pub summary_text : ℕ → List Entry → (ℕ → ℕ) → List ℕ
summary_text calls history lengths = flat_map row_text (summary_rows calls history lengths)

-- ---- what is made

-- the text is the script of this many calls; no history is reported, and no bank is left
abbrev pub IsMadeScript : ℕ → List Entry → Option Closed → List ℕ → Type 0
IsMadeScript calls history closed text = (text ≡ made_text calls) × (history ≡ []) × (closed ≡ None)

-- the text is the summary of this history, to which the made script of this many calls comes in the order of its turns;
-- what is left of the bank is that of this run
pub record IsSummary (calls : ℕ) (history : List Entry) (closed : Option Closed) (text : List ℕ) : Type 0 where
  pub script : ScriptParts
  pub read : read_script (made_text calls) ≡ Ok script
  pub legal : IsLegal stored script history
  pub order : IsOrderRunFor script history
  -- each MemoryError of a class stands on a call that would take a table of that class there
  pub fitting : AreFitting stored script history
  pub left : LeavesBank (made_text calls) history closed
  pub written : text ≡ summary_text calls history (length_in (world_at script history (length (writes history))))
