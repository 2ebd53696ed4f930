-- What a content keeps to, whichever calls were made: the rule of its kind, and how many keys and serials there can be
-- after a number of calls.
use Rattle.std.specs.Prelude.{ℕ, ◌*◌, ◌≤◌, length}
use Rattle.ft_model.specs.declared.content.Content.{Content}
use Rattle.ft_model.specs.declared.content.Content.TheVariants as content
use Rattle.ft_model.specs.Contents.{IsDict, IsSet}
use Rattle.ft_model.specs.Deques.{IsDeque}

-- a content keeps the rule of its kind: keys or elements are distinct, and serials rise and are below the next one; a
-- list has no rule, and a deque no more items than its bound (Python manual, Mapping Types, Set Types and
-- collections.deque; serials: profile)
abbrev pub IsContent : Content → Type 0
IsContent (content.Dict dict) = IsDict dict.next dict.pairs
IsContent (content.List items) = Unit {0}
IsContent (content.Set set) = IsSet set.next set.elements
IsContent (content.Deque deque) = IsDeque deque.bound deque.items

-- after that many calls there are no more keys than calls, since a call brings one new key at most, and no more serials
-- than their square, since a call draws no more than there are keys; a list has neither, and a deque was changed no
-- more often than calls were made (profile)
abbrev pub HasFewSerials : ℕ → Content → Type 0
HasFewSerials calls (content.Dict dict) = (length dict.pairs ≤ calls) × (dict.next ≤ calls * calls)
HasFewSerials calls (content.List items) = Unit {0}
HasFewSerials calls (content.Set set) = (length set.elements ≤ calls) × (set.next ≤ calls * calls)
HasFewSerials calls (content.Deque deque) = deque.moves ≤ calls
