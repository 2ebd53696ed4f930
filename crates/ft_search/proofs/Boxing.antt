-- A pass that writes the entries of a dict or a set writes its table, and the other way round.
use Rattle.std.proofs.Common.{ℕ}
use Rattle.ft_trace.specs.declared.Shape.{Shape}
use Rattle.ft_trace.specs.declared.View.{View}
use Rattle.ft_trace.specs.ContainerStates.{kind_in}
use Rattle.ft_trace.specs.Kinds.{IsKeyed}
use Rattle.ft_bank.specs.declared.table.Table.{Table}
use Rattle.ft_search.specs.Boxed.{WritesTable}
use Rattle.ft_search.specs.OneEntryWrites.{WritesEntries}

pub table_of : (k : Shape) (o : ℕ) (table : Table) (v : View) → WritesEntries k o table v → WritesTable k o table v
table_of k o table v w = record { container = w.container; table_in = w.table_in; locked = w.locked; odd = w.odd; root = w.root; settled = w.settled; few = w.few }

pub entries_of_table : (k : Shape) (o : ℕ) (table : Table) (v : View) → IsKeyed (kind_in k.starts o) → WritesTable k o table v → WritesEntries k o table v
entries_of_table k o table v keyed w = record { container = w.container; keyed = keyed; table_in = w.table_in; locked = w.locked; odd = w.odd; root = w.root; settled = w.settled; few = w.few }
