-- What containers have after a history of writes, newest first, and which tables.
use Rattle.std.specs.Prelude.{ℕ, cond, nat_lt, List, [], ◌∷◌, length, map, slice_index_or, Bool, true, false, ◌||◌}
use Rattle.ft_model.specs.declared.call.Call.{Call}
use Rattle.ft_model.specs.declared.call.Call.TheVariants as call
use Rattle.ft_model.specs.declared.call.SetCall.{SetCall}
use Rattle.ft_model.specs.declared.call.SetCall.TheVariants as set
use Rattle.ft_model.specs.declared.content.Content.{Content}
use Rattle.ft_model.specs.declared.content.Content.TheVariants as content
use Rattle.ft_model.specs.declared.reply.Reply.{Reply}
use Rattle.ft_model.specs.declared.script.Kind.{Kind}
use Rattle.ft_model.specs.declared.script.Start.{Start}
use Rattle.ft_model.specs.Worlds.{no_hands, start_in}
use Rattle.ft_model.specs.Answers.{answer}
use Rattle.ft_model.specs.declared.call.TableChange.{TableChange}
use Rattle.ft_model.specs.declared.call.TableChange.TheVariants as change
use Rattle.ft_model.specs.Calls.{dict_change, list_change, set_change, deque_change}
use Rattle.std.specs.Option.{unwrap_or}
use Rattle.ft_model.specs.TablesInOrder.{changed_by}
use Rattle.ft_model.specs.TableUses.{TableUse, StoredWorld, table_at, stored_newest}

-- what a container has, and its table
pub record ContainerState : Type 0 where
  pub content : Content
  pub table : TableUse

abbrev pub state_at : StoredWorld → ℕ → ContainerState
state_at stored o =
    record { content = slice_index_or stored.world o (content.List []); table = table_at stored.tables o }

abbrev pub container_after : List Start → List Call → ℕ → ContainerState
container_after starts calls o = state_at (stored_newest starts calls) o

-- the first n of these writes, newest first
abbrev pub first_writes : ℕ → List Call → List Call
first_writes n [] = []
first_writes n (called ∷ calls) = cond (nat_lt (length calls) n) (called ∷ calls) (first_writes n calls)

-- the kind of a container
abbrev pub kind_in : List Start → ℕ → Kind
kind_in starts o = (start_in starts o).kind

-- the kinds of all containers
abbrev pub kinds_in : List Start → List Kind
kinds_in starts = map (λ start. start.kind) starts

-- the container that a call changes, if it is a write
abbrev pub changes : Call → ℕ
changes called = unwrap_or (changed_by called) 0

-- what the plain containers reply to a call that asks no cursor
abbrev pub reply_in : StoredWorld → Call → Reply
reply_in stored called = (answer stored.world no_hands called).reply

-- Whether a call is one that takes keys or items away and may put 0 into the root before its write: a clear, a copy,
-- and a symmetric difference.
abbrev pub gives_up_root : TableChange → Bool
gives_up_root change.Stays = false
gives_up_root change.Grows = false
gives_up_root (change.CopiesTo other) = true
gives_up_root change.GivesUp = true

abbrev pub is_xor : SetCall → Bool
is_xor (set.Add key) = false
is_xor (set.Discard key) = false
is_xor (set.Remove key) = false
is_xor set.Pop = false
is_xor (set.Has key) = false
is_xor set.Len = false
is_xor set.Items = false
is_xor (set.Eq other) = false
is_xor (set.Or other) = false
is_xor (set.And other) = false
is_xor (set.Sub other) = false
is_xor (set.Xor other) = true
is_xor (set.Subset other) = false
is_xor (set.Disjoint other) = false
is_xor set.Clear = false
is_xor (set.Iter cursor) = false

abbrev pub may_empty : Call → Bool
may_empty (call.Dict o dict_call) = gives_up_root (dict_change dict_call)
may_empty (call.List o list_call) = gives_up_root (list_change list_call)
may_empty (call.Set o set_call) = gives_up_root (set_change set_call) || is_xor set_call
may_empty (call.Deque o deque_call) = gives_up_root (deque_change deque_call)
may_empty (call.Next cursor) = false
may_empty (call.Begin one other) = false
may_empty call.End = false
may_empty call.Quiesce = false
may_empty (call.Await thread index) = false
may_empty call.Dump = false
