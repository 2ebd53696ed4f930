-- Calls that add a key to a dict or a set: what a pass is to have and to know for that, what they ask of the plain
-- containers, and when the container gets another table.
use Rattle.std.specs.Prelude.{◌≡◌, ℕ, suc, ◌+◌, ◌<◌, ◌≤◌, Bool, true, false, nat_lt, List, ◌∷◌, length, Option, Some, None, if◌then◌else◌, []}
use Rattle.ft_model.specs.declared.call.Call.{Call}
use Rattle.ft_model.specs.declared.content.Content.{Content}
use Rattle.ft_model.specs.declared.content.Content.TheVariants as content
use Rattle.ft_model.specs.declared.data.Key.{Key}
use Rattle.ft_model.specs.declared.reply.Reply.{Reply}
use Rattle.ft_model.specs.Answers.{is_write}
use Rattle.ft_model.specs.Contents.{has_key, has_element}
use Rattle.ft_model.specs.Classes.{most_pairs, most_elements, most_items, dict_class, set_class}
use Rattle.ft_model.specs.TableUses.{StoredWorld, TableUse, CanLackMemory, outgrows_dict, outgrows_set, grown_table, takes_in, would_pass, after_stored}
use Rattle.ft_model.specs.Worlds.{length_of, no_hands, IsDeclared}
use Rattle.ft_layout.specs.declared.slot.Stored.{Stored}
use Rattle.ft_layout.specs.Containers.{class_mask}
use Rattle.ft_layout.specs.Tables.{hash_of}
use Rattle.ft_keys.specs.declared.walk.Way.{Way}
use Rattle.ft_keys.specs.TableChanges.{FirstFree}
use Rattle.ft_keys.specs.Ways.{walk_slots}
use Rattle.ft_trace.specs.declared.Act.TheVariants.{StartWrite, PutRoot}
use Rattle.ft_trace.specs.declared.Shape.{Shape}
use Rattle.ft_trace.specs.declared.View.{View}
use Rattle.ft_trace.specs.Acts.{has_lock, is_writing, owes, stage, used, flight, view_after}
use Rattle.ft_trace.specs.Addresses.{container_count, class_of}
use Rattle.ft_trace.specs.Boxes.{named_in_root, references_held, IsDoneWithBoxes, IsSettled}
use Rattle.ft_trace.specs.FitCalls.{FitsCall}
use Rattle.ft_trace.specs.Holds.{held_words, held_unboxed, known_state}
use Rattle.ft_trace.specs.Kinds.{IsKeyed}
use Rattle.ft_trace.specs.BegunSections.{HasLocksOf}
use Rattle.ft_trace.specs.Pictures.{root_in, Represents}
use Rattle.ft_trace.specs.ContainerStates.{state_at, kind_in, changes}
use Rattle.ft_bank.specs.declared.table.Table.{Table}
use Rattle.ft_bank.specs.TableNames.{table_id, root_for, words_for, IsTableIn}
use Rattle.ft_bank.specs.SameBoxes.{HoldsFew, MovesReferences}
use Rattle.ft_bank.specs.Whole.{OnlyLoaded, OnlyWritten}
use Rattle.ft_bank.specs.WriteSteps.{KeepsUnwritten, MayHave}
use Rattle.ft_table_calls.specs.declared.adding.Added.{Added}
use Rattle.ft_table_calls.specs.Adding.{IsAdded}
use Rattle.ft_search.specs.MadeCalls.{IsReplyTo}
use Rattle.ft_new_keys.specs.Placing.{with_key}

-- ---- the pass

-- The pass has the lock of the container o, a dict or a set, whose root names this table or none; no version is odd
-- there, and its words stand for what the pass knows of it. (profile)
pub record KnowsKeyed (k : Shape) (o : ℕ) (old : Option Table) (v : View) : Type 0 where
  pub container : o < container_count k
  pub keyed : IsKeyed (kind_in k.starts o)
  pub locked : has_lock o v.log ≡ true
  pub even : is_writing o v.log ≡ false
  pub stands : Represents k.texts (held_unboxed o v) (known_state o v)
  pub table_in : (t : Table) → old ≡ Some t → IsTableIn k t
  pub root : root_in (held_unboxed o v) ≡ root_for old

-- Besides it writes no container, is in the midst of no taking or giving of a table, and of no other write that took a
-- table out of a root; it has lowered no count of a class that it hasn't raised again, holds no reference for a box and
-- makes none, and it has a call left. (profile)
pub record MayAddKey (k : Shape) (o : ℕ) (old : Option Table) (v : View) : Type 0 where
  pub keyed : KnowsKeyed k o old v
  pub even : (p : ℕ) → is_writing p v.log ≡ false
  pub used : used v.log ≡ false
  pub owes : owes v.log ≡ 0
  pub idle : flight v.log ≡ 0
  pub boxes : IsDoneWithBoxes k v.log
  pub left : 0 < v.left

-- Or it has taken this table, which is fresh in its hand, and has raised no count since. (profile)
pub record MayGrowKeyed (k : Shape) (o : ℕ) (old : Option Table) (table : Table) (v : View) : Type 0 where
  pub keyed : KnowsKeyed k o old v
  pub even : (p : ℕ) → is_writing p v.log ≡ false
  pub used : used v.log ≡ false
  pub owed : owes v.log ≡ suc (class_of (table_id table))
  pub fresh : stage (table_id table) v.log ≡ 1
  pub table_in : IsTableIn k table
  pub boxes : IsDoneWithBoxes k v.log
  pub left : 0 < v.left

-- It has such a table and may put it into the root: it may hold few references for boxes, where what it has to do with its
-- own boxes is settled. (profile)
pub record MayBeginKeyed (k : Shape) (o : ℕ) (old : Option Table) (table : Table) (v : View) : Type 0 where
  pub keyed : KnowsKeyed k o old v
  pub even : (p : ℕ) → is_writing p v.log ≡ false
  pub used : used v.log ≡ false
  pub fresh : stage (table_id table) v.log ≡ 1
  pub table_in : IsTableIn k table
  pub settled : IsSettled v.log
  pub few : HoldsFew v

-- The pass made the version of the container odd and put this table into its root. Then it dropped the references that
-- the words had no longer. (profile)
pub record BeginsIn (o : ℕ) (table : Table) (v w : View) : Type 0 where
  pub found : ℕ
  pub rooted : View
  pub is : rooted ≡ view_after (PutRoot o (suc (table_id table)) (root_in (held_words o v)))
      (view_after (StartWrite o found) v)
  pub keeps : KeepsUnwritten (view_after (StartWrite o found) v) rooted
  pub moves : MovesReferences o (view_after (StartWrite o found) v) rooted
  pub only : OnlyWritten o rooted w

-- how often the table that the pass took out of the root of the container o, if it took one out, names the box
abbrev pub named_in_old : Shape → ℕ → Option Table → View → ℕ → ℕ
named_in_old k o old v b = named_in_root b (kind_in k.starts o) (root_for old) (words_for old v)

-- the pass holds the references of the boxes that this table names (profile)
abbrev pub HoldsOld : Shape → ℕ → Option Table → View → Type 0
HoldsOld k o old v = (b : ℕ) → named_in_old k o old v b ≤ references_held k b v.log

-- the slot is the first one for the key in a table with these words, after their header, that was never used
abbrev pub IsFreeFor : List ℕ → Way → ℕ → Key → List ℕ → ℕ → Type 0
IsFreeFor texts way class key words slot =
    (slot ≤ class_mask class)
    × FirstFree (0 ∷ 0 ∷ words) (walk_slots way (hash_of texts key) (class_mask class)) (Some slot)

-- ---- the call

-- the table that a dict or a set has, or none, with that many used entries
abbrev pub use_of : Option Table → ℕ → TableUse
use_of None fill = record { class = None; fill = fill; keys = [] }
use_of (Some t) fill = record { class = Some t.class; fill = fill; keys = [] }

-- the class that a dict or a set takes for that many more keys, if its table has no room for them (profile)
abbrev pub keys_take : Content → TableUse → ℕ → Option ℕ
keys_take (content.Dict dict) table more =
    if outgrows_dict table more then Some (dict_class (length dict.pairs + more)) else None
keys_take (content.Set set) table more =
    if outgrows_set table more then Some (set_class (length set.elements + more)) else None
keys_take (content.List values) table more = None
keys_take (content.Deque deque) table more = None

-- and for one more key
abbrev pub key_takes : Content → TableUse → Option ℕ
key_takes content table = keys_take content table 1

-- how many pairs, elements or items it has at most
abbrev pub most_of : Content → ℕ
most_of (content.Dict dict) = most_pairs
most_of (content.Set set) = most_elements
most_of (content.List values) = most_items
most_of (content.Deque deque) = most_items

-- A call adds this key, which is not there, to the container o: the plain containers reply so to it, and o has the key
-- then and the table that it takes, whatever else the bank has that agrees with what the pass knows; the pass has the
-- locks of the containers that it names. (Python manual, Mapping Types, Set Types)
pub record AddsKey (o : ℕ) (called : Call) (said : Reply) (key : Key) (stored : Stored) (v : View) : Type 0 where
  pub write : is_write called said ≡ true
  pub changed : changes called ≡ o
  pub words : FitsCall called
  pub locks : HasLocksOf called v.log
  pub replied : IsReplyTo called said v
  pub declared : (found : StoredWorld) → MayHave v found → IsDeclared found.world no_hands called
  pub lacks : (found : StoredWorld) → MayHave v found → CanLackMemory found.world called
  pub over : (found : StoredWorld) → MayHave v found
      → would_pass found.world called
      ≡ nat_lt (most_of (known_state o v).content) (length_of (known_state o v).content + 1)
  pub takes : (found : StoredWorld) → MayHave v found
      → takes_in found called ≡ key_takes (known_state o v).content (known_state o v).table
  pub left_is : (found : StoredWorld) → MayHave v found → state_at (after_stored found called) o ≡ record {
    content = with_key (known_state o v).content key stored;
    table = grown_table (known_state o v).table (key_takes (known_state o v).content (known_state o v).table) 1
        (length_of (known_state o v).content + 1);
  }

-- whether a dict or a set has the key (Python manual, Mapping Types, Set Types)
abbrev pub holds : Content → Key → Bool
holds (content.Dict dict) key = has_key dict.pairs key
holds (content.Set set) key = has_element set.elements key
holds (content.List values) key = false
holds (content.Deque deque) key = false

-- What a call comes to under the lock that puts this key into the container o, where it may be there: after loads, by
-- whether it is, and where it isn't by the class of the table that the container takes for one more key, and by whether
-- it would have more keys than the largest table holds.
abbrev pub PutsKey : Shape → ℕ → Key → Call → Reply → View → View → Added → Type 0
PutsKey k o key called said v w what =
    (u : View) × OnlyLoaded v u
    × IsAdded k
    (if holds (known_state o v).content key then None else key_takes (known_state o v).content (known_state o v).table)
    (if holds (known_state o v).content key then false
    else nat_lt (most_of (known_state o v).content) (length_of (known_state o v).content + 1))
    called said u w what

-- What such a call comes to under the lock whose key isn't there: after loads, by the class of the table that the
-- container takes for one more key, if it takes one, and by whether it would have more keys than the largest table
-- holds.
abbrev pub AddsOne : Shape → ℕ → Call → Reply → View → View → Added → Type 0
AddsOne k o called said v w what =
    (u : View) × OnlyLoaded v u
    × IsAdded k (key_takes (known_state o v).content (known_state o v).table)
    (nat_lt (most_of (known_state o v).content) (length_of (known_state o v).content + 1)) called said u w what
