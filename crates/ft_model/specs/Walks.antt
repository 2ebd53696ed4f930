-- Whole walks of cursors: what one `next` after the other gives while nothing changes, and what a dump shows.
use Rattle.std.specs.Prelude.{◌≡◌, ℕ, zero, suc, List, [], ◌∷◌, ◌++◌, map, length}
use Rattle.ft_model.specs.declared.call.Call.{Call}
use Rattle.ft_model.specs.declared.call.Call.TheVariants as call
use Rattle.ft_model.specs.declared.call.DictCall.TheVariants as dict
use Rattle.ft_model.specs.declared.call.ListCall.TheVariants as list
use Rattle.ft_model.specs.declared.call.SetCall.TheVariants as set
use Rattle.ft_model.specs.declared.call.DequeCall.TheVariants as deque
use Rattle.ft_model.specs.declared.reply.Reply.{Reply}
use Rattle.ft_model.specs.declared.reply.Reply.TheVariants as reply
use Rattle.ft_model.specs.declared.reply.Shown.{Shown}
use Rattle.ft_model.specs.declared.reply.Shown.TheVariants as shown
use Rattle.ft_model.specs.declared.content.Content.{Content}
use Rattle.ft_model.specs.declared.content.DictPair.{DictPair}
use Rattle.ft_model.specs.declared.cursor.Cursor.{Cursor}
use Rattle.ft_model.specs.declared.data.Value.{Value}
use Rattle.ft_model.specs.declared.script.Kind.{Kind}
use Rattle.ft_model.specs.declared.script.Kind.TheVariants as kind
use Rattle.ft_model.specs.Contents.{SetContent}
use Rattle.ft_model.specs.Answers.{cursor_step}

-- ---- walks

-- what so many `next` reply, one after the other (Python manual, Iterator Types)
abbrev pub walked : ℕ → List Content → Cursor → List Reply
walked zero world cursor = []
walked (suc steps) world cursor =
    (cursor_step world cursor).reply ∷ walked steps world (cursor_step world cursor).cursor

-- a whole walk gives all of these, in their order, and then its end (Python manual, Iterator Types: StopIteration)
abbrev pub GivesAll : List Content → Cursor → List Reply → Type 0
GivesAll world cursor all = walked (suc (length all)) world cursor ≡ all ++ reply.Stop ∷ []

-- the pairs of a dict, and the items of a list, as `next` gives them
abbrev pub given_pairs : List DictPair → List Reply
given_pairs pairs = map (λ pair. reply.Pair pair.key pair.value) pairs

abbrev pub given_items : List Value → List Reply
given_items items = map (λ item. reply.Value item) items

-- ---- sets of keys

-- the keys of a dict as a set, in the order of its pairs (Python manual, Dictionary view objects)
abbrev pub key_set : List DictPair → SetContent
key_set pairs =
    record { next = 0; elements = map (λ pair. record { serial = pair.serial; key = pair.key }) pairs }

-- ---- dumps

-- the call that asks a container of this kind for all that it has
abbrev pub items_call : Kind → ℕ → Call
items_call kind.Dict place = call.Dict place dict.Items
items_call kind.List place = call.List place list.Items
items_call kind.Set place = call.Set place set.Items
items_call (kind.Deque bound) place = call.Deque place deque.Items

-- what that call replies, where a dump shows this
abbrev pub as_reply : Shown → Reply
as_reply (shown.Dict pairs) = reply.Dict pairs
as_reply (shown.List items) = reply.List items
as_reply (shown.Set elements) = reply.Set elements
