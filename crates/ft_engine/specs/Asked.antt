-- What a call asks of the bank's containers, of the caller's cursors and of its open sections.
use Rattle.std.specs.Prelude.{◌≡◌, ℕ, ◌<◌, List, length, Option, IfSome, is_some, true}
use Rattle.ft_model.specs.declared.call.Call.{Call}
use Rattle.ft_model.specs.declared.call.Call.TheVariants as call
use Rattle.ft_model.specs.declared.cursor.Cursor.{Cursor}
use Rattle.ft_model.specs.declared.data.Key.{Key}
use Rattle.ft_model.specs.declared.script.Kind.{Kind}
use Rattle.ft_model.specs.declared.script.Kind.TheVariants as kind
use Rattle.ft_model.specs.Calls.{cursor_of_dict, cursor_of_list, cursor_of_set, other_dict, other_list, other_set}
use Rattle.ft_model.specs.Worlds.{cursor_at}
use Rattle.ft_trace.specs.declared.Shape.{Shape}
use Rattle.ft_trace.specs.Addresses.{container_count}
use Rattle.ft_bank.specs.KeyHashes.{IsKeyIn}
use Rattle.ft_bank.specs.PassSections.{Stack}
use Rattle.ft_dict.specs.DictMaking.{key_of_dict}
use Rattle.ft_set.specs.SetMaking.{key_of_set}
use Rattle.ft_engine.specs.Callers.{IsOfKindIn}
use Rattle.ft_model.specs.Landed.{is_landed_dict, is_landed_list}

-- the call is one on a dict, a list, a set or a deque
abbrev pub IsOnContainers : Call → Type 0
IsOnContainers (call.Dict o dc) = Unit {0}
IsOnContainers (call.List o lc) = Unit {0}
IsOnContainers (call.Set o sc) = Unit {0}
IsOnContainers (call.Deque o qc) = Unit {0}
IsOnContainers (call.Next number) = ⊥
IsOnContainers (call.Begin first second) = ⊥
IsOnContainers call.End = ⊥
IsOnContainers call.Quiesce = ⊥
IsOnContainers (call.Await thread index) = ⊥
IsOnContainers call.Dump = ⊥

-- the container that a call names, and the other one, are there and of this kind
abbrev pub AreOfKindIn : Shape → Kind → ℕ → Option ℕ → Type 0
AreOfKindIn k kind o other = IsOfKindIn k kind o × IfSome other (λ p. IsOfKindIn k kind p)

-- there is room for the cursor that a call makes
abbrev pub HasRoomFor : List (Option Cursor) → Option ℕ → Type 0
HasRoomFor hands cursor = IfSome cursor (λ number. number < length hands)

-- a key that a call names is an integer, or a string of the bank
abbrev pub HasKeyIn : Shape → Option Key → Type 0
HasKeyIn k key = IfSome key (λ named. IsKeyIn k named)

-- the containers, cursors and strings that a call names are there, and the bank can make the call: no call of a deque,
-- no `await`, no dump and no view or reversed cursor so far (profile)
abbrev pub IsCallIn : Shape → List (Option Cursor) → Call → Type 0
IsCallIn k hands (call.Dict o dc) =
    AreOfKindIn k kind.Dict o (other_dict dc) × HasRoomFor hands (cursor_of_dict dc) × HasKeyIn k (key_of_dict dc)
    × (is_landed_dict dc ≡ true)
IsCallIn k hands (call.List o lc) =
    AreOfKindIn k kind.List o (other_list lc) × HasRoomFor hands (cursor_of_list lc) × (is_landed_list lc ≡ true)
IsCallIn k hands (call.Set o sc) =
    AreOfKindIn k kind.Set o (other_set sc) × HasRoomFor hands (cursor_of_set sc) × HasKeyIn k (key_of_set sc)
IsCallIn k hands (call.Deque o qc) = ⊥
IsCallIn k hands (call.Next number) = (number < length hands) × (is_some (cursor_at hands number) ≡ true)
IsCallIn k hands (call.Begin first second) =
    (first < container_count k) × IfSome second (λ other. other < container_count k)
IsCallIn k hands call.End = Unit {0}
IsCallIn k hands call.Quiesce = Unit {0}
IsCallIn k hands (call.Await thread index) = ⊥
IsCallIn k hands call.Dump = ⊥

-- at most 16 sections are open at once, and an `end` ends one (profile)
abbrev pub FitsSections : Stack → Call → Type 0
FitsSections s (call.Begin first second) = length s.sections < 16
FitsSections s call.End = 0 < length s.sections
FitsSections s (call.Dict o dc) = Unit {0}
FitsSections s (call.List o lc) = Unit {0}
FitsSections s (call.Set o sc) = Unit {0}
FitsSections s (call.Deque o qc) = Unit {0}
FitsSections s (call.Next number) = Unit {0}
FitsSections s call.Quiesce = Unit {0}
FitsSections s (call.Await thread index) = Unit {0}
FitsSections s call.Dump = Unit {0}
