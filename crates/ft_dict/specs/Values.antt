-- What calls on a dict answer that put a value at a key.
use Rattle.std.specs.Prelude.{◌≡◌, ℕ}
use Rattle.std.specs.Option.{unwrap_or}
use Rattle.ft_model.specs.declared.call.Call.TheVariants as call
use Rattle.ft_model.specs.declared.call.DictCall.TheVariants as dict
use Rattle.ft_model.specs.declared.content.Content.{Content}
use Rattle.ft_model.specs.declared.data.Key.{Key}
use Rattle.ft_model.specs.declared.data.Value.{Value}
use Rattle.ft_model.specs.declared.reply.Reply.{Reply}
use Rattle.ft_model.specs.declared.reply.Reply.TheVariants as reply
use Rattle.ft_model.specs.Contents.{dict_get}
use Rattle.ft_model.specs.Worlds.{dict_of}
use Rattle.ft_trace.specs.declared.Shape.{Shape}
use Rattle.ft_trace.specs.declared.View.{View}
use Rattle.ft_trace.specs.Holds.{known_state}
use Rattle.ft_table_calls.specs.declared.adding.Added.{Added}
use Rattle.ft_new_keys.specs.KeyGrowth.{PutsKey}

-- what `d.setdefault(k, v)` replies: the value at the key where it is there, else the default, which is stored then
-- (Python manual, Mapping Types)
abbrev pub default_reply : Content → Key → Value → Reply
default_reply content key default = reply.Value (unwrap_or (dict_get (dict_of content).pairs key) default)

-- what it comes to under the lock, with this reply
abbrev pub SetsDefault : Shape → ℕ → Key → Value → Reply → View → View → Added → Type 0
SetsDefault k d key default said v w what =
    (said ≡ default_reply (known_state d v).content key default)
    × PutsKey k d key (call.Dict d (dict.SetDefault key default)) said v w what
