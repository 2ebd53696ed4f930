-- A value that a call puts into a dict, and which stands in a box for which the pass holds the one reference.
use Rattle.std.specs.Prelude.{◌≡◌, ℕ, suc, ◌==◌, cond, true, false}
use Rattle.ft_model.specs.declared.call.Call.{Call}
use Rattle.ft_model.specs.declared.data.Key.{Key}
use Rattle.ft_model.specs.declared.data.Value.{Value}
use Rattle.ft_model.specs.declared.reply.Reply.{Reply}
use Rattle.ft_model.specs.Boxings.{boxes}
use Rattle.ft_model.specs.TableUses.{StoredWorld}
use Rattle.ft_layout.specs.declared.slot.Ref.{Ref}
use Rattle.ft_layout.specs.declared.slot.Stored.{Stored}
use Rattle.ft_layout.specs.declared.slot.Stored.TheVariants.{Plain}
use Rattle.ft_layout.specs.Words.{IsStored, stored_kind, stored_payload}
use Rattle.ft_trace.specs.declared.Shape.{Shape}
use Rattle.ft_trace.specs.declared.View.{View}
use Rattle.ft_trace.specs.Addresses.{class_of, slots}
use Rattle.ft_trace.specs.Boxes.{names_box, place_use, references_held, use_taken}
use Rattle.ft_trace.specs.BoxWords.{box_kind}
use Rattle.ft_trace.specs.Carefuls.{HasLiveKey}
use Rattle.ft_trace.specs.Holds.{held_words, held_unboxed, known_state}
use Rattle.ft_trace.specs.Pictures.{entry_field, root_in}
use Rattle.ft_bank.specs.declared.table.Table.{Table}
use Rattle.ft_bank.specs.BoxSteps.{box_id, kind_read, payload_read, IsBoxIn}
use Rattle.ft_bank.specs.TableNames.{table_id}
use Rattle.ft_bank.specs.WriteSteps.{MayHave}
use Rattle.ft_boxes.specs.References.{KnowsValue}
use Rattle.ft_search.specs.OneEntryWrites.{IsLiveEntry, Leaves, are_of_value, with_value_at}

-- The pass holds one reference, which is for this box, and knows that the value stands in it. A place that it has taken,
-- and in which no write of it has stored a value yet, is that of the box.
pub record HoldsValue (b : Ref) (value : Value) (v : View) : Type 0 where
  pub name : IsBoxIn v.shape b
  pub one : (c : ℕ) → references_held v.shape c v.log ≡ cond (c == box_id b) 1 0
  pub knows : KnowsValue b value v
  pub taken : (c : ℕ) → place_use c v.log ≡ use_taken → c ≡ box_id b

-- Each box whose place the pass has taken, and which no write of it has stored yet, is the one that these words name. Where
-- there is one, the call puts a value in a box, whatever the bank has that agrees with what the pass knows. (profile)
pub record StoresBox (stored : Stored) (called : Call) (v : View) : Type 0 where
  pub named : (b : ℕ) → place_use b v.log ≡ use_taken → names_box b (stored_kind stored) (stored_payload stored) ≡ 1
  pub boxing : (b : ℕ) → place_use b v.log ≡ use_taken → (world : StoredWorld) → MayHave v world
      → boxes world.world called ≡ true

-- The call puts another value at a key of the dict o than the one that is there, in the entry at this place; what is to be
-- stored there reads as that value. (Python manual, Mapping Types)
pub record ChangesValue (k : Shape) (o : ℕ) (table : Table) (place : ℕ) (stored : Stored) (called : Call)
    (said : Reply) (v : View) : Type 0 where
  pub key : Key
  pub value : Value
  pub entry : IsLiveEntry k o table place key v
  pub reads : IsStored (kind_read v (stored_kind stored) (stored_payload stored))
      (payload_read v (stored_kind stored) (stored_payload stored)) (Plain value)
  pub other : are_of_value (entry_field (slots (class_of (table_id table))) (held_unboxed o v).table place 4)
      (entry_field (slots (class_of (table_id table))) (held_unboxed o v).table place 5) value ≡ false
  pub leaves : Leaves o called said (record {
    content = with_value_at (known_state o v).content key value;
    table = (known_state o v).table;
  })
      v

-- The key is in this entry of the table that the root of the dict o names, and the value there names this box.
pub record NamesBoxAt (o : ℕ) (key : Key) (b : Ref) (v : View) : Type 0 where
  pub table : ℕ
  pub place : ℕ
  pub root : root_in (held_words o v) ≡ suc table
  pub live : HasLiveKey (slots (class_of table)) (held_unboxed o v).table place key
  pub kind : entry_field (slots (class_of table)) (held_words o v).table place 4 ≡ box_kind
  pub payload : entry_field (slots (class_of table)) (held_words o v).table place 5 ≡ box_id b
