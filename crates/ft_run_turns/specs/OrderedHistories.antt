-- Histories of scripts whose calls are made in the order of their turns.
use Rattle.std.specs.Prelude.{List}
use Rattle.ft_model.specs.declared.entry.Entry.{Entry}
use Rattle.ft_model.specs.declared.entry.Storage.TheVariants as storage
use Rattle.ft_model.specs.declared.script.ScriptParts.{ScriptParts}
use Rattle.ft_turns.specs.Orders.{IsOrderRun}

-- the entries of a history are those of the turns, with containers on tables
abbrev pub IsOrderRunFor : ScriptParts → List Entry → Type 0
IsOrderRunFor script history = ∥ IsOrderRun storage.Tables script history ∥₁
