-- What is counted of a history, and of what the containers are shown to have after it.
use Rattle.std.specs.Prelude.{ℕ, Bool, List, length, slice_get}
use Rattle.std.specs.Option.{option_map_or}
use Rattle.ft_model.specs.declared.entry.Entry.{Entry}
use Rattle.ft_model.specs.declared.reply.Shown.{Shown}
use Rattle.ft_model.specs.declared.reply.Shown.TheVariants as shown
use Rattle.ft_model.specs.Answers.{is_memory}
use Rattle.ft_runner.specs.declared.making.Counted.{Counted}
use Rattle.ft_runner.specs.declared.making.Counted.TheVariants as counted
use Rattle.ft_runner.specs.Making.{is_index_error, is_key_error}

abbrev pub is_counted : Counted → Entry → Bool
is_counted counted.Writes entry = entry.wrote
is_counted counted.KeyErrors entry = is_key_error entry.reply
is_counted counted.IndexErrors entry = is_index_error entry.reply
is_counted counted.MemoryErrors entry = is_memory entry.reply

-- how many pairs, items or elements are shown
abbrev pub shown_length : Shown → ℕ
shown_length (shown.Dict pairs) = length pairs
shown_length (shown.List items) = length items
shown_length (shown.Set elements) = length elements

abbrev pub shown_length_in : List Shown → ℕ → ℕ
shown_length_in contents container = option_map_or shown_length (slice_get contents container) 0
