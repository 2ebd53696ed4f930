-- The words of a table while its entries get new serials.
use Rattle.std.specs.Prelude.{ℕ, zero, suc, ◌+◌, List, slice_set}
use Rattle.ft_trace.specs.Pictures.{entry_offset}

-- the words of a table with n index slots once its first entries have serials from this one on (profile)
abbrev pub renumbered : ℕ → ℕ → ℕ → List ℕ → List ℕ
renumbered n next zero words = words
renumbered n next (suc p) words = slice_set (renumbered n next p words) (entry_offset n p 6) (next + p)
