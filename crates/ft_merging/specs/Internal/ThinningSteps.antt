-- A set in the midst of a write that takes some of its elements out.
use Rattle.std.specs.Prelude.{◌≡◌, ℕ, ◌%◌, ◌<◌, ◌≤◌, ◌||◌, Bool, true, filter, not}
use Rattle.ft_model.specs.declared.content.Content.TheVariants as content
use Rattle.ft_model.specs.declared.data.Key.{Key}
use Rattle.ft_model.specs.Contents.{SetContent, has_element}
use Rattle.ft_layout.specs.Words.{FitsKey}
use Rattle.ft_trace.specs.declared.Shape.{Shape}
use Rattle.ft_trace.specs.declared.View.{View}
use Rattle.ft_trace.specs.Addresses.{class_of, slots}
use Rattle.ft_trace.specs.Carefuls.{HasLiveKey}
use Rattle.ft_trace.specs.FitCalls.{FitsContent}
use Rattle.ft_trace.specs.Holds.{held_unboxed, known_state}
use Rattle.ft_trace.specs.Kinds.{rows}
use Rattle.ft_trace.specs.ContainerStates.{ContainerState, kind_in}
use Rattle.ft_bank.specs.declared.table.Table.{Table}
use Rattle.ft_bank.specs.TableNames.{table_id}
use Rattle.ft_merging.specs.Thinning.{stays}
use Rattle.ft_merging.specs.Internal.EntriesAtOnce.{IsMidway, version_of}

-- what stays of a set that had this at first: what is new there, and what stays of that
abbrev pub spared : Bool → SetContent → SetContent → Key → Bool
spared kept others first key = not (has_element first.elements key) || stays kept others key

-- Of the set, which had this at first, the elements are out that don't stay and whose entries come before this place;
-- those of entries from the last place on all stay. Once all are looked at it has this. (profile)
pub record IsThinned (k : Shape) (s : ℕ) (table : Table) (kept : Bool) (others first : SetContent) (to : ContainerState)
    (last place : ℕ) (v : View) : Type 0 where
  pub mid : SetContent
  pub midway : IsMidway k s table (record { content = content.Set mid; table = to.table }) v
  pub first_is : (known_state s v).content ≡ content.Set first
  pub fits : FitsContent (content.Set first)
  pub comes : content.Set (record {
    next = mid.next;
    elements = filter (λ element. spared kept others first element.key) mid.elements;
  }) ≡ to.content
  pub even : (p : ℕ) → p < rows (kind_in k.starts s) (class_of (table_id table)) → place ≤ p → p < last
      → version_of (table_id table) (held_unboxed s v) p % 2 ≡ 0
  pub done : (p : ℕ) (key : Key) → p < rows (kind_in k.starts s) (class_of (table_id table)) → p < place → FitsKey key
      → HasLiveKey (slots (class_of (table_id table))) (held_unboxed s v).table p key
      → spared kept others first key ≡ true
  pub rest : (p : ℕ) (key : Key) → p < rows (kind_in k.starts s) (class_of (table_id table)) → last ≤ p → FitsKey key
      → HasLiveKey (slots (class_of (table_id table))) (held_unboxed s v).table p key
      → spared kept others first key ≡ true
