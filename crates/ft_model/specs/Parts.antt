-- What is a script's: the containers, threads, cursors and strings that an entry or a world names are declared there.
use Rattle.std.specs.Prelude.{◌≡◌, ℕ, ◌<◌, List, length, All, IfSome}
use Rattle.ft_model.specs.declared.reply.Reply.{Reply}
use Rattle.ft_model.specs.declared.reply.Reply.TheVariants as reply
use Rattle.ft_model.specs.declared.reply.Shown.{Shown}
use Rattle.ft_model.specs.declared.reply.Shown.TheVariants as shown
use Rattle.ft_model.specs.declared.content.Content.{Content}
use Rattle.ft_model.specs.declared.content.Content.TheVariants as content
use Rattle.ft_model.specs.declared.entry.Entry.{Entry}
use Rattle.ft_model.specs.declared.script.ScriptParts.{ScriptParts}
use Rattle.ft_model.specs.Histories.{cursors_of}
use Rattle.ft_model.specs.Scripts.{IsKeyOf, IsValueOf, IsCallOf}

-- each string that is shown of a container is declared, of that many (profile)
abbrev pub IsShownOf : ℕ → Shown → Type 0
IsShownOf strings (shown.Dict pairs) = All (λ pair. IsKeyOf strings pair.0 × IsValueOf strings pair.1) pairs
IsShownOf strings (shown.List items) = All (IsValueOf strings) items
IsShownOf strings (shown.Set elements) = All (IsKeyOf strings) elements

-- each string that a reply names is declared, of that many (profile)
abbrev pub IsReplyOf : ℕ → Reply → Type 0
IsReplyOf strings (reply.Value value) = IsValueOf strings value
IsReplyOf strings (reply.Pair key value) = IsKeyOf strings key × IsValueOf strings value
IsReplyOf strings (reply.Dict pairs) = All (λ pair. IsKeyOf strings pair.0 × IsValueOf strings pair.1) pairs
IsReplyOf strings (reply.List items) = All (IsValueOf strings) items
IsReplyOf strings (reply.Set elements) = All (IsKeyOf strings) elements
IsReplyOf strings (reply.World world) = All (IsShownOf strings) world
IsReplyOf strings _ = Unit {0}

-- and so is each that a container has (profile)
abbrev pub IsContentOf : ℕ → Content → Type 0
IsContentOf strings (content.Dict dict) =
    All (λ pair. IsKeyOf strings pair.key × IsValueOf strings pair.value) dict.pairs
IsContentOf strings (content.List items) = All (IsValueOf strings) items
IsContentOf strings (content.Set set) = All (λ element. IsKeyOf strings element.key) set.elements
IsContentOf strings (content.Deque deque) = All (IsValueOf strings) deque.items

-- an entry names threads, containers, cursors and strings of the script (profile)
pub record IsEntryOf (script : ScriptParts) (entry : Entry) : Type 0 where
  pub thread : entry.thread < length script.threads
  pub call : IsCallOf script (cursors_of script entry.thread) entry.call
  pub reply : IsReplyOf (length script.strings) entry.reply
  pub mark : IfSome entry.waited (λ thread. thread < length script.threads)

-- a world has a content for each container of the script, with its strings (profile)
pub record IsWorldOf (script : ScriptParts) (world : List Content) : Type 0 where
  pub containers : length world ≡ length script.containers
  pub strings : All (IsContentOf (length script.strings)) world
