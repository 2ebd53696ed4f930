-- What the test of a caller says of the calls that name one container and one key, or one container alone.
use Rattle.std.specs.Prelude.{ℕ, ℤ, Option}
use Rattle.ft_model.specs.declared.call.Call.TheVariants as calls
use Rattle.ft_model.specs.declared.call.DictCall.TheVariants as dict
use Rattle.ft_model.specs.declared.call.ListCall.TheVariants as list
use Rattle.ft_model.specs.declared.call.SetCall.TheVariants as set
use Rattle.ft_model.specs.declared.data.Key.{Key}
use Rattle.ft_model.specs.declared.data.Value.{Value}
use Rattle.ft_engine.specs.declared.caller.Caller.{Caller}
use Rattle.ft_engine.specs.declared.engine.Engine.{Engine}
use Rattle.ft_engine.specs.Attempts.{MayAttempt}

-- the calls on this dict that name this key, and its length, may be tried
pub record MayAtKey (e : Engine) (c : Caller) (d : ℕ) (key : Key) : Type 0 where
  pub get : MayAttempt e c (calls.Dict d (dict.Get key))
  pub has : MayAttempt e c (calls.Dict d (dict.Has key))
  pub len : MayAttempt e c (calls.Dict d dict.Len)
  pub set : (value : Value) → MayAttempt e c (calls.Dict d (dict.Set key value))
  pub del : MayAttempt e c (calls.Dict d (dict.Del key))
  pub pop : MayAttempt e c (calls.Dict d (dict.Pop key))
  pub setdefault : (default : Value) → MayAttempt e c (calls.Dict d (dict.SetDefault key default))

-- the calls on this list that name an index or an item, and its length, may be tried
pub record MayOnList (e : Engine) (c : Caller) (l : ℕ) : Type 0 where
  pub get : (index : ℤ) → MayAttempt e c (calls.List l (list.Get index))
  pub len : MayAttempt e c (calls.List l list.Len)
  pub append : (value : Value) → MayAttempt e c (calls.List l (list.Append value))
  pub set : (index : ℤ) (value : Value) → MayAttempt e c (calls.List l (list.Set index value))
  pub pop : (index : Option ℤ) → MayAttempt e c (calls.List l (list.Pop index))

-- the calls on this set that name this element, and its length, may be tried
pub record MayAtElement (e : Engine) (c : Caller) (s : ℕ) (key : Key) : Type 0 where
  pub has : MayAttempt e c (calls.Set s (set.Has key))
  pub len : MayAttempt e c (calls.Set s set.Len)
  pub add : MayAttempt e c (calls.Set s (set.Add key))
  pub discard : MayAttempt e c (calls.Set s (set.Discard key))
