-- What each call on sets comes to that a pass makes which has the locks of its sets.
use Rattle.std.specs.Prelude.{◌≡◌, ℕ, ◌<◌, Bool, true, false, Option, Some, None, IfSome}
use Rattle.ft_model.specs.declared.call.Call.{Call}
use Rattle.ft_model.specs.declared.call.Call.TheVariants as call
use Rattle.ft_model.specs.declared.call.SetCall.{SetCall}
use Rattle.ft_model.specs.declared.call.SetCall.TheVariants as set
use Rattle.ft_model.specs.declared.data.Key.{Key}
use Rattle.ft_model.specs.declared.reply.Reply.TheVariants as reply
use Rattle.ft_model.specs.declared.script.Kind.TheVariants as kind
use Rattle.ft_model.specs.Calls.{cursor_of_set, other_set}
use Rattle.ft_trace.specs.declared.Shape.{Shape}
use Rattle.ft_trace.specs.declared.View.{View}
use Rattle.ft_trace.specs.Addresses.{container_count}
use Rattle.ft_trace.specs.ContainerStates.{kind_in}
use Rattle.ft_bank.specs.KeyHashes.{IsKeyIn}
use Rattle.ft_table_calls.specs.declared.made.Made.{Made}
use Rattle.ft_table_calls.specs.TriesUnderLocks.{ComesTo, IsMade, IsRead}
use Rattle.ft_new_keys.specs.KeyGrowth.{PutsKey}
use Rattle.ft_merging.specs.Joining.{JoinsBy}
use Rattle.ft_merging.specs.Parting.{PartsBy}
use Rattle.ft_reads.specs.Clears.{IsClear}
use Rattle.ft_reads.specs.Copies.{IsCopy}

-- a set of the bank
abbrev pub IsSetIn : Shape → ℕ → Type 0
IsSetIn k o = (o < container_count k) × (kind_in k.starts o ≡ kind.Set)

-- the element that a call on a set names, if it names one (Python manual, Set Types)
abbrev pub key_of_set : SetCall → Option Key
key_of_set (set.Add key) = Some key
key_of_set (set.Discard key) = Some key
key_of_set (set.Remove key) = Some key
key_of_set set.Pop = None
key_of_set (set.Has key) = Some key
key_of_set set.Len = None
key_of_set set.Items = None
key_of_set (set.Eq other) = None
key_of_set (set.Or other) = None
key_of_set (set.And other) = None
key_of_set (set.Sub other) = None
key_of_set (set.Xor other) = None
key_of_set (set.Subset other) = None
key_of_set (set.Disjoint other) = None
key_of_set set.Clear = None
key_of_set (set.Iter cursor) = None

-- whether a call on a set copies elements
abbrev pub copies_set : SetCall → Bool
copies_set set.Items = true
copies_set other = false

-- The call names sets and a key of the bank, and makes no cursor; where it copies there is an allocator.
abbrev pub FitsSet : Bool → Shape → Call → Type 0
FitsSet allocates k (call.Set o sc) =
    IsSetIn k o × IfSome (other_set sc) (λ p. IsSetIn k p) × IfSome (key_of_set sc) (λ key. IsKeyIn k key)
    × (cursor_of_set sc ≡ None) × (copies_set sc ≡ true → allocates ≡ true)
FitsSet allocates k other = ⊥

-- The call adds or discards one element, and names a set and a key of the bank.
abbrev pub FitsElement : Shape → Call → Type 0
FitsElement k (call.Set o (set.Add key)) = IsSetIn k o × IsKeyIn k key
FitsElement k (call.Set o (set.Discard key)) = IsSetIn k o × IsKeyIn k key
FitsElement k other = ⊥

-- what a call on the set o comes to
abbrev pub SetCallMakes : Shape → ℕ → SetCall → Made → View → View → Type 0
SetCallMakes k o (set.Has key) made v w = IsRead (call.Set o (set.Has key)) made v w
SetCallMakes k o set.Len made v w = IsRead (call.Set o set.Len) made v w
SetCallMakes k o (set.Add key) made v w =
    ComesTo (PutsKey k o key (call.Set o (set.Add key)) reply.Done) reply.Done made v w
SetCallMakes k o (set.Or other) made v w = ComesTo (JoinsBy k o other (call.Set o (set.Or other))) reply.Done made v w
SetCallMakes k o (set.Xor other) made v w = ComesTo (PartsBy k o other (call.Set o (set.Xor other))) reply.Done made v w
SetCallMakes k o (set.And other) made v w = IsMade (call.Set o (set.And other)) made v w
SetCallMakes k o (set.Sub other) made v w = IsMade (call.Set o (set.Sub other)) made v w
SetCallMakes k o (set.Discard key) made v w = IsMade (call.Set o (set.Discard key)) made v w
SetCallMakes k o (set.Remove key) made v w = IsMade (call.Set o (set.Remove key)) made v w
SetCallMakes k o set.Pop made v w = IsMade (call.Set o set.Pop) made v w
SetCallMakes k o set.Clear made v w = IsClear (call.Set o set.Clear) made v w
SetCallMakes k o set.Items made v w = IsCopy (call.Set o set.Items) made v w
SetCallMakes k o (set.Eq other) made v w = IsMade (call.Set o (set.Eq other)) made v w
SetCallMakes k o (set.Subset other) made v w = IsMade (call.Set o (set.Subset other)) made v w
SetCallMakes k o (set.Disjoint other) made v w = IsMade (call.Set o (set.Disjoint other)) made v w
SetCallMakes k o (set.Iter cursor) made v w = ⊥

-- the same of a call of whatever kind
abbrev pub MakesSet : Shape → Call → Made → View → View → Type 0
MakesSet k (call.Set o sc) made v w = SetCallMakes k o sc made v w
MakesSet k other made v w = ⊥
