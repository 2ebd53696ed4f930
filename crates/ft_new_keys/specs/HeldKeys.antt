-- A new key of a dict whose value stands in a box: what the pass has of the box, and what its call comes to.
use Rattle.std.specs.Prelude.{◌≡◌, ℕ, suc, ◌+◌, ◌<◌, ◌==◌, Bool, cond, true, false, nat_lt, Option, Some, None}
use Rattle.ft_model.specs.declared.call.Call.{Call}
use Rattle.ft_model.specs.declared.data.Key.{Key}
use Rattle.ft_model.specs.declared.data.Value.{Value}
use Rattle.ft_model.specs.declared.reply.Reply.{Reply}
use Rattle.ft_model.specs.Boxings.{boxes}
use Rattle.ft_model.specs.TableUses.{StoredWorld}
use Rattle.ft_model.specs.Worlds.{length_of}
use Rattle.ft_layout.specs.declared.slot.Ref.{Ref}
use Rattle.ft_layout.specs.declared.slot.Stored.{Stored}
use Rattle.ft_layout.specs.declared.slot.Stored.TheVariants.{Plain}
use Rattle.ft_trace.specs.declared.Shape.{Shape}
use Rattle.ft_trace.specs.declared.View.{View}
use Rattle.ft_trace.specs.Acts.{is_writing, owes, stage, used, flight}
use Rattle.ft_trace.specs.Addresses.{class_of}
use Rattle.ft_trace.specs.Boxes.{place_use, references_held, use_taken, IsDoneWithBoxes, IsSettled}
use Rattle.ft_trace.specs.Holds.{known_state}
use Rattle.ft_bank.specs.declared.table.Table.{Table}
use Rattle.ft_bank.specs.BoxSteps.{box_id, IsBoxIn}
use Rattle.ft_bank.specs.TableNames.{table_id, IsTableIn}
use Rattle.ft_bank.specs.Whole.{OnlyBoxed, OnlyLoaded}
use Rattle.ft_bank.specs.WriteSteps.{MayHave}
use Rattle.ft_boxes.specs.References.{KnowsValue}
use Rattle.ft_section.specs.declared.answers.Stamp.{Stamp}
use Rattle.ft_search.specs.HeldValues.{NamesBoxAt}
use Rattle.ft_table_calls.specs.declared.adding.Added.{Added}
use Rattle.ft_table_calls.specs.declared.adding.Added.TheVariants as added
use Rattle.ft_table_calls.specs.Adding.{IsAddedWith}
use Rattle.ft_new_keys.specs.KeyGrowth.{KnowsKeyed, key_takes, most_of}

-- ---- the pass

-- how many references for the box c a new value needs that is to stand in this box, or in its place
abbrev pub needed_for : Option Ref → ℕ → ℕ
needed_for None c = 0
needed_for (Some b) c = cond (c == box_id b) 1 0

-- The pass holds the reference for the box in which a new value is to stand, if it is to stand in one, and no other, and
-- knows that the value stands there. A place that it has taken, and in which no write of it has stored a value yet, is that
-- of the box. What it has to do with its own boxes is settled. (profile)
pub record HoldsFor (boxed : Option Ref) (stored : Stored) (v : View) : Type 0 where
  pub settled : IsSettled v.log
  pub held : (c : ℕ) → references_held v.shape c v.log ≡ needed_for boxed c
  pub knows : (b : Ref) → boxed ≡ Some b → IsBoxIn v.shape b
      × ((value : Value) × (stored ≡ Plain value) × KnowsValue b value v)
  pub taken : (c : ℕ) → place_use c v.log ≡ use_taken → needed_for boxed c ≡ 1

-- where the value is to stand in a box, the call puts one in a box, whatever the bank has that agrees with what the pass
-- knows (profile)
abbrev pub PutsInBox : Option Ref → Call → View → Type 0
PutsInBox boxed called v =
    (b : Ref) → boxed ≡ Some b → (world : StoredWorld) → MayHave v world → boxes world.world called ≡ true

-- The pass may add a key, whatever boxes it holds references for: it writes no container, is in the midst of no taking or
-- giving of a table, and of no other write that took a table out of a root; it has lowered no count of a class that it
-- hasn't raised again, and has a call left. (profile)
pub record MayPutKey (k : Shape) (o : ℕ) (old : Option Table) (v : View) : Type 0 where
  pub keyed : KnowsKeyed k o old v
  pub even : (p : ℕ) → is_writing p v.log ≡ false
  pub used : used v.log ≡ false
  pub owes : owes v.log ≡ 0
  pub idle : flight v.log ≡ 0
  pub left : 0 < v.left

-- Or it has taken this table, which is fresh in its hand, and has raised no count since. (profile)
pub record MayPutInNew (k : Shape) (o : ℕ) (old : Option Table) (table : Table) (v : View) : Type 0 where
  pub keyed : KnowsKeyed k o old v
  pub even : (p : ℕ) → is_writing p v.log ≡ false
  pub used : used v.log ≡ false
  pub owed : owes v.log ≡ suc (class_of (table_id table))
  pub fresh : stage (table_id table) v.log ≡ 1
  pub table_in : IsTableIn k table
  pub left : 0 < v.left

-- ---- the call

-- the pass is done with boxes, and the entry of the key names this box, if there is one
pub record KeyInBox (k : Shape) (o : ℕ) (key : Key) (boxed : Option Ref) (v : View) : Type 0 where
  pub boxes : IsDoneWithBoxes k v.log
  pub names : (b : Ref) → boxed ≡ Some b → NamesBoxAt o key b v

-- What a call comes to under the lock that adds this key, by the class of the table that the container takes, if it takes
-- one, and by whether it would have too many keys: after the write the entry of the key names the box, if there is one.
-- (profile)
abbrev pub IsPut : Shape → ℕ → Key → Option Ref → Option ℕ → Bool → Call → Reply → View → View → Added → Type 0
IsPut k o key boxed takes over called said v w what =
    IsAddedWith (λ x y. KeyInBox k o key boxed y) k takes over called said v w what

-- and after loads, by what the pass knows of the container
abbrev pub PutsOne : Shape → ℕ → Key → Option Ref → Call → Reply → View → View → Added → Type 0
PutsOne k o key boxed called said v w what =
    (u : View) × OnlyLoaded v u
    × IsPut k o key boxed (key_takes (known_state o v).content (known_state o v).table)
    (nat_lt (most_of (known_state o v).content) (length_of (known_state o v).content + 1)) called said u w what

-- Such a call whose value stands in this box came to that; where the write wasn't made, the pass dropped the reference for
-- the box then. It is done with boxes, and the entry of the key names the box where the write was made.
pub record AddsHeldKey (k : Shape) (o : ℕ) (key : Key) (b : Ref) (called : Call) (said : Reply) (v w : View)
    (what : Added) : Type 0 where
  pub after : View
  pub put : PutsOne k o key (Some b) called said v after what
  pub dropped : OnlyBoxed after w
  pub boxes : IsDoneWithBoxes k w.log
  pub names : (stamp : Stamp) → what ≡ added.Made stamp → NamesBoxAt o key b w
