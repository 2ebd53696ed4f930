-- What a note tells of its maker: the entries that it had made stand before how many writes it had seen. So a call that
-- was told of them, and has a stamp that is not below that number, comes after them.
use Rattle.std.specs.Prelude.{◌≡◌, ℕ, suc, ◌-◌, ◌<◌, ◌≤◌, All, List, length, map, reverse, slice_get, Some}
use Rattle.ft_model.specs.declared.call.Call.{Call}
use Rattle.ft_model.specs.declared.call.Call.TheVariants as call
use Rattle.ft_model.specs.declared.entry.Entry.{Entry as NamedEntry}
use Rattle.ft_model.specs.declared.reply.Reply.TheVariants as reply
use Rattle.ft_model.specs.Numbers.{number_after as named_number}
use Rattle.ft_trace.specs.declared.Entry.{Entry}
use Rattle.ft_trace.specs.declared.Shape.{Shape}
use Rattle.ft_trace.specs.declared.Told.{Told}
use Rattle.ft_trace.specs.declared.View.{View}
use Rattle.ft_trace.specs.Acts.{all_lists, seen_writes, told_in, tells}
use Rattle.ft_trace.specs.Causes.{IsToldOf, WasTold}
use Rattle.ft_trace.specs.OwnCursors.{plain_entry}
use Rattle.ft_trace.specs.OwnOrder.{number_after}
use Rattle.ft_trace.specs.Replies.{after_answer}
use Rattle.ft_trace.specs.TraceLaws.{HasView}
use Rattle.ft_trace.specs.Traces.{Event, Valid, IsReachable, IsAwake}

-- ---- what is told of one pass

-- the first entries of a pass that the one tells, in their order, are those that the other tells of it, and each of them
-- stands before as many writes as the one says
abbrev pub TellsFirst : Told → Told → Type 0
TellsFirst one other =
    (i : ℕ) (e : Entry) → i < length one.entries → slice_get (reverse other.entries) i ≡ Some e
    → (slice_get (reverse one.entries) i ≡ Some e) × (number_after e ≤ one.seen)

-- all of these that tell of one pass do
abbrev pub AgreeOnPasses : List Told → Type 0
AgreeOnPasses told =
    (m n : ℕ) (a b : Told) → slice_get told m ≡ Some a → slice_get told n ≡ Some b → a.pass ≡ b.pass → TellsFirst a b

-- What one view tells of a pass it has seen itself, and it agrees with what any other view tells of that pass.
abbrev pub ToldEntriesAreSeen : Type 0
ToldEntriesAreSeen =
    (k : Shape) (es : List Event) → Valid k es → (j l : ℕ) (u w : View) → HasView k es j u → HasView k es l w
    → (m n : ℕ) (a b : Told) → slice_get (tells u) m ≡ Some a → slice_get (tells w) n ≡ Some b → a.pass ≡ b.pass
    → (a.seen ≤ seen_writes u) × TellsFirst a b

-- ---- awaits

-- where the call is an `await`, these told it of the call that it names
abbrev pub IsAwaitTold : List Told → Call → ℕ → Type 0
IsAwaitTold told (call.Await thread index) stamp = WasTold told thread index stamp
IsAwaitTold told called stamp = Unit {0}

abbrev pub AreAwaitsTold : List Told → List Entry → Type 0
AreAwaitsTold told entries = All (λ e. IsAwaitTold told e.call e.stamp) entries

-- each `await` that a pass has made was told of the call that it names, and so was each of those that it took in
abbrev pub AwaitsWereTold : Type 0
AwaitsWereTold =
    (k : Shape) (es : List Event) → Valid k es → (j : ℕ) (u : View) → HasView k es j u
    → All (AreAwaitsTold (told_in u.log)) (all_lists u)

-- Where one of these tells all the entries of a pass, which its caller kept, then an `await` that was told of the one with
-- an index has a stamp that says that it knows of it.
abbrev pub AwaitedEntriesAreKnown : Type 0
AwaitedEntriesAreKnown =
    (told : List Told) → AgreeOnPasses told → (n : ℕ) (all : Told) → slice_get told n ≡ Some all
    → (mine : List NamedEntry) → map plain_entry mine ≡ reverse all.entries
    → (thread index stamp : ℕ) → all.pass ≡ suc thread → WasTold told thread index stamp
    → (named : NamedEntry) → slice_get mine (index - 1) ≡ Some named → named_number named ≤ stamp

-- A pass with a call left that was told of a call may load the counter and answer an `await` of it with that stamp.
abbrev pub AwaitsMayBeAnswered : Type 0
AwaitsMayBeAnswered =
    (v : View) (thread index : ℕ) → IsAwake v → IsReachable v → 0 < v.left → IsToldOf (told_in v.log) thread index
    → (number : ℕ) × IsReachable (after_answer v (call.Await thread index) reply.Done number)
