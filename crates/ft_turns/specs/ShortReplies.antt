-- That no number of a reply is greater than what it counts can be.
use Rattle.std.specs.Prelude.{◌<◌, ◌^◌}
use Rattle.ft_model.specs.declared.entry.Entry.{Entry}
use Rattle.ft_model.specs.declared.reply.Reply.{Reply}
use Rattle.ft_model.specs.declared.reply.Reply.TheVariants as reply

-- a count is of what stands in memory, so it is below 2^63, and the number of calls that waited is below 2^32 (profile)
abbrev pub IsShortReply : Reply → Type 0
IsShortReply (reply.Count count) = count < 2 ^ 63
IsShortReply (reply.Suspended count) = count < 2 ^ 32
IsShortReply other = Unit {0}

abbrev pub HasShortReply : Entry → Type 0
HasShortReply entry = IsShortReply entry.reply
