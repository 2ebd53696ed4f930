-- How many words a table of each class has. How many entries or items it has stands with the rules of growth. (profile)
use Rattle.std.specs.Prelude.{ℕ, ◌+◌, ◌*◌, ◌^◌}
use Rattle.ft_model.specs.Classes.{dict_entries}

-- two words of a header, one for each slot, and eight for each entry of a dict, which has the most words
abbrev pub table_size : ℕ → ℕ
table_size class = 2 + 2 ^ class + 8 * dict_entries class
