-- What each call on a list comes to that a pass makes which has its locks.
use Rattle.std.specs.Prelude.{◌≡◌, ◌⊎◌, ℕ, ℤ, ◌<◌, Bool, true, false, None, IfSome, length}
use Rattle.ft_model.specs.declared.call.Call.{Call}
use Rattle.ft_model.specs.declared.call.Call.TheVariants as call
use Rattle.ft_model.specs.declared.call.ListCall.{ListCall}
use Rattle.ft_model.specs.declared.call.ListCall.TheVariants as list
use Rattle.ft_model.specs.declared.data.Value.{Value}
use Rattle.ft_model.specs.declared.reply.Reply.TheVariants as reply
use Rattle.ft_model.specs.Boxings.{is_boxed}
use Rattle.ft_model.specs.Lists.{clamped_in}
use Rattle.ft_model.specs.declared.script.Kind.TheVariants as kind
use Rattle.ft_model.specs.Calls.{cursor_of_list, other_list}
use Rattle.ft_trace.specs.declared.Shape.{Shape}
use Rattle.ft_trace.specs.declared.View.{View}
use Rattle.ft_trace.specs.Addresses.{container_count}
use Rattle.ft_trace.specs.ContainerStates.{kind_in}
use Rattle.ft_table_calls.specs.declared.adding.Added.{Added}
use Rattle.ft_table_calls.specs.declared.made.Made.{Made}
use Rattle.ft_table_calls.specs.declared.made.Made.TheVariants as made
use Rattle.ft_table_calls.specs.TriesUnderLocks.{ComesTo, IsMade, IsRead}
use Rattle.ft_reads.specs.Clears.{IsClear}
use Rattle.ft_reads.specs.Copies.{IsCopy}
use Rattle.ft_list.specs.BoxedCalls.{AddsBoxed, SetsBoxed}
use Rattle.ft_list.specs.ListGrowth.{AddsItems, ExtendsBy}
use Rattle.ft_list.specs.ListItemWrites.{known_items}

-- a list of the bank
abbrev pub IsListIn : Shape → ℕ → Type 0
IsListIn k o = (o < container_count k) × (kind_in k.starts o ≡ kind.List)

-- whether a call on a list copies items
abbrev pub copies_list : ListCall → Bool
copies_list list.Items = true
copies_list (list.Slice first last) = true
copies_list other = false

-- The call names lists of the bank, and makes no cursor; where it copies there is an allocator.
abbrev pub FitsList : Bool → Shape → Call → Type 0
FitsList allocates k (call.List o lc) =
    IsListIn k o × IfSome (other_list lc) (λ p. IsListIn k p) × (cursor_of_list lc ≡ None)
    × (copies_list lc ≡ true → allocates ≡ true)
FitsList allocates k other = ⊥

-- The call appends an item, and names a list of the bank.
abbrev pub FitsAppend : Shape → Call → Type 0
FitsAppend k (call.List o (list.Append value)) = IsListIn k o
FitsAppend k other = ⊥

-- What `l.append(v)` and `l.insert(i, v)` come to: the value is put in a box where it belongs in one, and else in place.
-- (profile)
abbrev pub AppendsTo : Shape → ℕ → Value → View → View → Added → Type 0
AppendsTo k o value v w what =
    ((is_boxed value ≡ false) × AddsItems k o (call.List o (list.Append value)) 1 v w what)
    ⊎ ((is_boxed value ≡ true)
    × AddsBoxed k o (length (known_items o v)) value (call.List o (list.Append value)) v w what)

abbrev pub InsertsInto : Shape → ℕ → ℤ → Value → View → View → Added → Type 0
InsertsInto k o index value v w what =
    ((is_boxed value ≡ false) × AddsItems k o (call.List o (list.Insert index value)) 1 v w what)
    ⊎ ((is_boxed value ≡ true)
    × AddsBoxed k o (clamped_in (length (known_items o v)) index) value (call.List o (list.Insert index value)) v w
    what)

-- what `l[i] = v` comes to, where v belongs in a box; and for any value
abbrev pub IsSetBoxed : Shape → ℕ → ℤ → Value → Made → View → View → Type 0
IsSetBoxed k o index value (made.Done said stamp) v w = SetsBoxed k o index value said stamp v w
IsSetBoxed k o index value (made.Moved a b) v w = ⊥
IsSetBoxed k o index value made.NoMemory v w = ⊥

abbrev pub SetsItem : Shape → ℕ → ℤ → Value → Made → View → View → Type 0
SetsItem k o index value came v w =
    ((is_boxed value ≡ false) × IsMade (call.List o (list.Set index value)) came v w)
    ⊎ ((is_boxed value ≡ true) × IsSetBoxed k o index value came v w)

-- what a call on the list o comes to
abbrev pub ListCallMakes : Shape → ℕ → ListCall → Made → View → View → Type 0
ListCallMakes k o (list.Append value) came v w =
    ComesTo (AppendsTo k o value) reply.Done came v w
ListCallMakes k o (list.Insert index value) came v w =
    ComesTo (InsertsInto k o index value) reply.Done came v w
ListCallMakes k o (list.Extend other) came v w = ComesTo (ExtendsBy k o other) reply.Done came v w
ListCallMakes k o (list.Get index) came v w = IsRead (call.List o (list.Get index)) came v w
ListCallMakes k o (list.Set index value) came v w = SetsItem k o index value came v w
ListCallMakes k o (list.Del index) came v w = IsMade (call.List o (list.Del index)) came v w
ListCallMakes k o (list.Pop index) came v w = IsMade (call.List o (list.Pop index)) came v w
ListCallMakes k o (list.Remove value) came v w = IsMade (call.List o (list.Remove value)) came v w
ListCallMakes k o (list.Index value) came v w = IsMade (call.List o (list.Index value)) came v w
ListCallMakes k o (list.Count value) came v w = IsMade (call.List o (list.Count value)) came v w
ListCallMakes k o (list.Has value) came v w = IsMade (call.List o (list.Has value)) came v w
ListCallMakes k o list.Reverse came v w = IsMade (call.List o list.Reverse) came v w
ListCallMakes k o (list.Slice first last) came v w = IsCopy (call.List o (list.Slice first last)) came v w
ListCallMakes k o list.Clear came v w = IsClear (call.List o list.Clear) came v w
ListCallMakes k o list.Len came v w = IsRead (call.List o list.Len) came v w
ListCallMakes k o list.Items came v w = IsCopy (call.List o list.Items) came v w
ListCallMakes k o (list.Eq other) came v w = IsMade (call.List o (list.Eq other)) came v w
ListCallMakes k o (list.Iter cursor) came v w = ⊥
ListCallMakes k o (list.Reversed cursor) came v w = ⊥

-- the same of a call of whatever kind
abbrev pub MakesList : Shape → Call → Made → View → View → Type 0
MakesList k (call.List o lc) came v w = ListCallMakes k o lc came v w
MakesList k other came v w = ⊥
