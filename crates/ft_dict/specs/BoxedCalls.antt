-- Calls that put a value in a dict which belongs in a box: the pass that calls makes the box.
use Rattle.std.specs.Prelude.{◌≡◌, ◌≢◌, ◌⊎◌, ℕ, ◌+◌, nat_lt, Bool, true, false, Some, if◌then◌else◌}
use Rattle.ft_model.specs.declared.call.Call.{Call}
use Rattle.ft_model.specs.declared.call.Call.TheVariants as call
use Rattle.ft_model.specs.declared.call.DictCall.TheVariants as dict
use Rattle.ft_model.specs.declared.data.Key.{Key}
use Rattle.ft_model.specs.declared.data.Value.{Value}
use Rattle.ft_model.specs.declared.reply.Reply.{Reply}
use Rattle.ft_model.specs.declared.reply.Reply.TheVariants as reply
use Rattle.ft_model.specs.declared.reply.Raise.TheVariants as raise
use Rattle.ft_model.specs.Boxings.{is_boxed}
use Rattle.ft_model.specs.Contents.{dict_get}
use Rattle.ft_model.specs.Worlds.{dict_of, length_of}
use Rattle.ft_layout.specs.declared.slot.Ref.{Ref}
use Rattle.ft_trace.specs.declared.Shape.{Shape}
use Rattle.ft_trace.specs.declared.View.{View}
use Rattle.ft_trace.specs.ContainerStates.{ContainerState}
use Rattle.ft_trace.specs.Holds.{known_state}
use Rattle.ft_bank.specs.Whole.{OnlyBoxed}
use Rattle.ft_search.specs.HeldValues.{NamesBoxAt}
use Rattle.ft_table_calls.specs.declared.adding.Added.{Added}
use Rattle.ft_table_calls.specs.declared.adding.Added.TheVariants as added
use Rattle.ft_table_calls.specs.declared.made.Made.{Made}
use Rattle.ft_table_calls.specs.Adding.{AnsweredFull, WasMade}
use Rattle.ft_table_calls.specs.TriesUnderLocks.{ComesTo}
use Rattle.ft_new_keys.specs.KeyGrowth.{PutsKey, holds, most_of}
use Rattle.ft_dict.specs.HeldSets.{PutsHeld}
use Rattle.ft_dict.specs.Values.{SetsDefault, default_reply}

-- whether a dict would have more keys than the largest table holds, once it has this key
abbrev pub has_too_many : ContainerState → Key → Bool
has_too_many x key = if holds x.content key then false else nat_lt (most_of x.content) (length_of x.content + 1)

-- where the call was made: the entry of the key names a box, unless the dict had an equal value at the key
abbrev pub NamesBoxWhereMade : ℕ → Key → Value → View → View → Added → Type 0
NamesBoxWhereMade o key value v w what =
    WasMade what → dict_get (dict_of (known_state o v).content).pairs key ≢ Some value
    → (b : Ref) × NamesBoxAt o key b w

-- What a call comes to under the lock that puts this value, which belongs in a box, at this key of the dict o. The
-- dict would have too many keys; or the pass found its own heap full; or it made a box, and it came to what it comes
-- to with one. (profile)
abbrev pub PutsBoxed : Shape → ℕ → Key → Value → Call → Reply → View → View → Added → Type 0
PutsBoxed k o key value called said v w (added.Over stamp) = PutsKey k o key called said v w (added.Over stamp)
PutsBoxed k o key value called said v w (added.NoPlace stamp) =
    (has_too_many (known_state o v) key ≡ false) × AnsweredFull called (reply.Raised raise.Heap) stamp v w
PutsBoxed k o key value called said v w what =
    (has_too_many (known_state o v) key ≡ false)
    × ((u : View) × OnlyBoxed v u × PutsHeld k o key called said u w what × NamesBoxWhereMade o key value v w what)

-- What `d[k] = v` comes to: the value is put in a box where it belongs in one, and else in place. (profile)
abbrev pub SetsValue : Shape → ℕ → Key → Value → View → View → Added → Type 0
SetsValue k o key value v w what =
    ((is_boxed value ≡ false) × PutsKey k o key (call.Dict o (dict.Set key value)) reply.Done v w what)
    ⊎ ((is_boxed value ≡ true) × PutsBoxed k o key value (call.Dict o (dict.Set key value)) reply.Done v w what)

-- What `d.setdefault(k, v)` comes to with this reply, where v belongs in a box: one is made where the key isn't there,
-- and none where it is. (profile)
abbrev pub SetsDefaultBoxed : Shape → ℕ → Key → Value → Reply → View → View → Added → Type 0
SetsDefaultBoxed k o key default said v w what =
    (said ≡ default_reply (known_state o v).content key default)
    × (((holds (known_state o v).content key ≡ true)
    × PutsKey k o key (call.Dict o (dict.SetDefault key default)) said v w what)
    ⊎ ((holds (known_state o v).content key ≡ false)
    × PutsBoxed k o key default (call.Dict o (dict.SetDefault key default)) said v w what))

-- and for any v
abbrev pub PutsDefault : Shape → ℕ → Key → Value → Reply → View → View → Added → Type 0
PutsDefault k o key default said v w what =
    ((is_boxed default ≡ false) × SetsDefault k o key default said v w what)
    ⊎ ((is_boxed default ≡ true) × SetsDefaultBoxed k o key default said v w what)

-- It came to that with some reply, which it gives where it is made; the cursors stay.
abbrev pub ComesToDefault : Shape → ℕ → Key → Value → Made → View → View → Type 0
ComesToDefault k o key default made v w = (said : Reply) × ComesTo (PutsDefault k o key default said) said made v w
