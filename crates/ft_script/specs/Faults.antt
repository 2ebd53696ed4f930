-- The faults of a script's text, and how they are reported. (profile)
use Rattle.std.specs.Prelude.{ℕ, ◌==◌, List, [], Option, Some, None, codes, if◌then◌else◌}
use Rattle.ft_script.specs.declared.fault.Fault.{Fault}
use Rattle.ft_script.specs.declared.fault.Fault.TheVariants as fault
use Rattle.ft_script.specs.declared.fault.ScriptFault.{ScriptFault}
use Rattle.ft_script.specs.declared.fault.Which.{Which}
use Rattle.ft_script.specs.declared.fault.Which.TheVariants as which

-- memory ran out; the line says nothing
abbrev pub no_memory : ScriptFault
no_memory = record { line = 1; kind = 14; which = None }

-- the number that a fault is reported by
abbrev pub fault_kind : Fault → ℕ
fault_kind fault.Encoding = 1
fault_kind fault.UnknownWord = 2
fault_kind fault.WordCount = 3
fault_kind fault.Number = 4
fault_kind fault.String = 5
fault_kind fault.Name = 6
fault_kind fault.NameTwice = 7
fault_kind fault.WrongKind = 8
fault_kind fault.EndWithoutBegin = 9
fault_kind fault.BeginWithoutEnd = 10
fault_kind fault.TooDeep = 11
fault_kind (fault.Limit limit) = 12
fault_kind fault.OrderName = 13
fault_kind fault.Await = 15

abbrev pub which_of : Fault → Option Which
which_of fault.Encoding = None
which_of fault.UnknownWord = None
which_of fault.WordCount = None
which_of fault.Number = None
which_of fault.String = None
which_of fault.Name = None
which_of fault.NameTwice = None
which_of fault.WrongKind = None
which_of fault.EndWithoutBegin = None
which_of fault.BeginWithoutEnd = None
which_of fault.TooDeep = None
which_of (fault.Limit limit) = Some limit
which_of fault.OrderName = None
which_of fault.Await = None

-- a fault at a line
abbrev pub fault_at : ℕ → Fault → ScriptFault
fault_at line found = record { line = line; kind = fault_kind found; which = which_of found }

abbrev pub limit_text : Which → List ℕ
limit_text which.Threads = codes "limit threads"
limit_text which.Containers = codes "limit containers"
limit_text which.Calls = codes "limit calls"
limit_text which.Strings = codes "limit strings"
limit_text which.StringBytes = codes "limit string bytes"
limit_text which.Class = codes "limit class"
limit_text which.Tables = codes "limit tables"
limit_text which.Heap = codes "limit heap"
limit_text which.Cursors = codes "limit cursors"
limit_text which.Order = codes "limit order"

abbrev pub some_limit_text : Option Which → List ℕ
some_limit_text None = codes "limit"
some_limit_text (Some limit) = limit_text limit

-- what the number says
abbrev pub kind_text : ℕ → Option Which → List ℕ
kind_text kind limit =
    if kind == 1 then codes "not UTF-8" else (
    if kind == 2 then codes "unknown word" else (
    if kind == 3 then codes "wrong count of words" else (
    if kind == 4 then codes "bad number" else (
    if kind == 5 then codes "bad string" else (
    if kind == 6 then codes "name" else (
    if kind == 7 then codes "name twice" else (
    if kind == 8 then codes "wrong kind" else (
    if kind == 9 then codes "end without begin" else (
    if kind == 10 then codes "begin without end" else (
    if kind == 11 then codes "section too deep" else (
    if kind == 12 then some_limit_text limit else (
    if kind == 13 then codes "order name" else (
    if kind == 14 then codes "want of memory" else (
    if kind == 15 then codes "await" else []))))))))))))))
