-- Where no section is open, none ends.
use Rattle.std.specs.Prelude.{[]}
use Rattle.ft_model.specs.declared.call.Call.{Call}
use Rattle.ft_model.specs.declared.call.Call.TheVariants as call
use Rattle.ft_model.specs.Histories.{Section, IfEnds}

pub none_ends : (called : Call) (P : Section → Type 0) → IfEnds [] called P
none_ends (call.Dict container dict_call) P = tt
none_ends (call.List container list_call) P = tt
none_ends (call.Set container set_call) P = tt
none_ends (call.Deque container deque_call) P = tt
none_ends (call.Next cursor) P = tt
none_ends (call.Begin first second) P = tt
none_ends call.End P = tt
none_ends call.Quiesce P = tt
none_ends (call.Await other index) P = tt
none_ends call.Dump P = tt
