-- What calls ask whether a key is in a dict or a set. (Python manual, Mapping Types, Set Types)
use Rattle.std.specs.Prelude.{ℕ}
use Rattle.ft_keys.specs.declared.walk.Way.{Way}
use Rattle.ft_keys.specs.declared.walk.Way.TheVariants as way
use Rattle.ft_model.specs.declared.call.Call.{Call}
use Rattle.ft_model.specs.declared.call.Call.TheVariants as call
use Rattle.ft_model.specs.declared.call.DictCall.TheVariants as dict
use Rattle.ft_model.specs.declared.call.SetCall.TheVariants as set
use Rattle.ft_model.specs.declared.data.Key.{Key}

-- the call that asks whether a key is in a dict, or in a set
abbrev pub has_call : Way → ℕ → Key → Call
has_call way.Dict c key = call.Dict c (dict.Has key)
has_call way.Set c key = call.Set c (set.Has key)
