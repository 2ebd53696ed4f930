-- What each call on dicts comes to that a pass makes which has the locks of its dicts.
use Rattle.std.specs.Prelude.{◌≡◌, ℕ, ◌<◌, Bool, true, false, Option, Some, None, IfSome}
use Rattle.ft_model.specs.declared.call.Call.{Call}
use Rattle.ft_model.specs.declared.call.Call.TheVariants as call
use Rattle.ft_model.specs.declared.call.DictCall.{DictCall}
use Rattle.ft_model.specs.declared.call.DictCall.TheVariants as dict
use Rattle.ft_model.specs.declared.data.Key.{Key}
use Rattle.ft_model.specs.declared.reply.Reply.TheVariants as reply
use Rattle.ft_model.specs.declared.script.Kind.TheVariants as kind
use Rattle.ft_model.specs.Calls.{cursor_of_dict, other_dict}
use Rattle.ft_model.specs.Landed.{is_landed_dict}
use Rattle.ft_trace.specs.declared.Shape.{Shape}
use Rattle.ft_trace.specs.declared.View.{View}
use Rattle.ft_trace.specs.Addresses.{container_count}
use Rattle.ft_trace.specs.ContainerStates.{kind_in}
use Rattle.ft_bank.specs.KeyHashes.{IsKeyIn}
use Rattle.ft_table_calls.specs.declared.made.Made.{Made}
use Rattle.ft_table_calls.specs.TriesUnderLocks.{ComesTo, IsMade, IsRead}
use Rattle.ft_merging.specs.Joining.{JoinsBy}
use Rattle.ft_reads.specs.Clears.{IsClear}
use Rattle.ft_reads.specs.Copies.{IsCopy}
use Rattle.ft_dict.specs.BoxedCalls.{ComesToDefault, SetsValue}
use Rattle.ft_dict.specs.DictCopies.{CopiesTo}

-- a dict of the bank
abbrev pub IsDictIn : Shape → ℕ → Type 0
IsDictIn k o = (o < container_count k) × (kind_in k.starts o ≡ kind.Dict)

-- the key that a call on a dict names, if it names one (Python manual, Mapping Types)
abbrev pub key_of_dict : DictCall → Option Key
key_of_dict (dict.Get key) = Some key
key_of_dict (dict.GetOr key default) = Some key
key_of_dict (dict.Set key value) = Some key
key_of_dict (dict.Del key) = Some key
key_of_dict (dict.Pop key) = Some key
key_of_dict (dict.PopOr key default) = Some key
key_of_dict dict.PopItem = None
key_of_dict (dict.SetDefault key default) = Some key
key_of_dict (dict.Has key) = Some key
key_of_dict dict.Len = None
key_of_dict dict.Items = None
key_of_dict (dict.Update other) = None
key_of_dict dict.Clear = None
key_of_dict (dict.CopyTo other) = None
key_of_dict (dict.Eq other) = None
key_of_dict (dict.Iter cursor) = None
key_of_dict (dict.KeysAnd other) = None
key_of_dict (dict.KeysSub other) = None
key_of_dict (dict.KeysOr other) = None
key_of_dict (dict.KeysXor other) = None
key_of_dict (dict.ItemsHas key value) = Some key
key_of_dict (dict.Reversed cursor) = None

-- whether a call on a dict copies pairs
abbrev pub copies_dict : DictCall → Bool
copies_dict dict.Items = true
copies_dict other = false

-- The call names dicts and a key of the bank, makes no cursor, and is none that the bank can't make; where it copies
-- there is an allocator.
abbrev pub FitsDict : Bool → Shape → Call → Type 0
FitsDict allocates k (call.Dict o dc) =
    IsDictIn k o × IfSome (other_dict dc) (λ p. IsDictIn k p) × IfSome (key_of_dict dc) (λ key. IsKeyIn k key)
    × (cursor_of_dict dc ≡ None) × (is_landed_dict dc ≡ true) × (copies_dict dc ≡ true → allocates ≡ true)
FitsDict allocates k other = ⊥

-- The call sets the value at a key, and names a dict and a key of the bank.
abbrev pub FitsSetting : Shape → Call → Type 0
FitsSetting k (call.Dict o (dict.Set key value)) = IsDictIn k o × IsKeyIn k key
FitsSetting k other = ⊥

-- what a call on the dict o comes to
abbrev pub DictCallMakes : Shape → ℕ → DictCall → Made → View → View → Type 0
DictCallMakes k o (dict.Get key) made v w = IsRead (call.Dict o (dict.Get key)) made v w
DictCallMakes k o (dict.GetOr key default) made v w = IsRead (call.Dict o (dict.GetOr key default)) made v w
DictCallMakes k o (dict.Has key) made v w = IsRead (call.Dict o (dict.Has key)) made v w
DictCallMakes k o dict.Len made v w = IsRead (call.Dict o dict.Len) made v w
DictCallMakes k o (dict.Set key value) made v w =
    ComesTo (SetsValue k o key value) reply.Done made v w
DictCallMakes k o (dict.SetDefault key default) made v w = ComesToDefault k o key default made v w
DictCallMakes k o (dict.Update other) made v w =
    ComesTo (JoinsBy k o other (call.Dict o (dict.Update other))) reply.Done made v w
DictCallMakes k o (dict.CopyTo other) made v w = ComesTo (CopiesTo k o other) reply.Done made v w
DictCallMakes k o (dict.Del key) made v w = IsMade (call.Dict o (dict.Del key)) made v w
DictCallMakes k o (dict.Pop key) made v w = IsMade (call.Dict o (dict.Pop key)) made v w
DictCallMakes k o (dict.PopOr key default) made v w = IsMade (call.Dict o (dict.PopOr key default)) made v w
DictCallMakes k o dict.PopItem made v w = IsMade (call.Dict o dict.PopItem) made v w
DictCallMakes k o dict.Clear made v w = IsClear (call.Dict o dict.Clear) made v w
DictCallMakes k o dict.Items made v w = IsCopy (call.Dict o dict.Items) made v w
DictCallMakes k o (dict.Eq other) made v w = IsMade (call.Dict o (dict.Eq other)) made v w
DictCallMakes k o other made v w = ⊥

-- the same of a call of whatever kind
abbrev pub MakesDict : Shape → Call → Made → View → View → Type 0
MakesDict k (call.Dict o dc) made v w = DictCallMakes k o dc made v w
MakesDict k other made v w = ⊥
