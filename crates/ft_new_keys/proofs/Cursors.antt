-- A call that puts a key into a dict or a set leaves the cursors of its pass.
use Rattle.std.proofs.Common.{ℕ, ◌+◌, false, None, ◌∙◌}
use Rattle.std.specs.Prelude.{nat_lt, if◌then◌else◌}
use Rattle.ft_model.specs.declared.call.Call.{Call}
use Rattle.ft_model.specs.declared.data.Key.{Key}
use Rattle.ft_model.specs.declared.reply.Reply.{Reply}
use Rattle.ft_model.specs.Worlds.{length_of}
use Rattle.ft_trace.specs.declared.Shape.{Shape}
use Rattle.ft_trace.specs.declared.View.{View}
use Rattle.ft_trace.specs.Holds.{known_state}
use Rattle.ft_table_calls.specs.declared.adding.Added.{Added}
use Rattle.ft_table_calls.specs.Adding.{KeepsCursors}
use Rattle.ft_table_calls.proofs.Cursors.{added_cursors}
use Rattle.ft_new_keys.specs.KeyGrowth.{PutsKey, holds, key_takes, most_of}

pub puts_cursors : (k : Shape) (o : ℕ) (key : Key) (called : Call) (said : Reply) (v w : View) (what : Added) → PutsKey k o key called said v w what → KeepsCursors v w
puts_cursors k o key called said v w what x number =
    let c = (known_state o v).content in
    added_cursors _ k (if holds c key then None else key_takes c (known_state o v).table)
    (if holds c key then false else nat_lt (most_of c) (length_of c + 1)) called said x.0 w what x.2 number
    ∙ x.1.work.pass.cursors number
