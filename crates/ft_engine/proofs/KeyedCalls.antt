-- What calls on dicts and sets come to, and looks at them, in the words that all calls share.
use Rattle.std.proofs.Common.{◌≡◌, ⊎_elim, ◌<◌, ℕ, true, false, List, refl, sym, subst}
use Rattle.std.specs.Prelude.{Option, None, Some}
use Rattle.ft_model.specs.declared.call.Call.{Call}
use Rattle.ft_model.specs.declared.call.Call.TheVariants as call
use Rattle.ft_model.specs.declared.call.DictCall.{DictCall}
use Rattle.ft_model.specs.declared.call.DictCall.TheVariants as dict
use Rattle.ft_model.specs.declared.call.SetCall.{SetCall}
use Rattle.ft_model.specs.declared.call.SetCall.TheVariants as set
use Rattle.ft_model.specs.declared.data.Key.{Key}
use Rattle.ft_model.specs.declared.data.Value.{Value}
use Rattle.ft_model.specs.declared.reply.Reply.{Reply}
use Rattle.ft_model.specs.declared.reply.Reply.TheVariants as reply
use Rattle.ft_model.specs.declared.script.Kind.TheVariants as kind
use Rattle.ft_model.specs.Calls.{cursor_of_dict, cursor_of_set, other_dict, other_set}
use Rattle.ft_model.specs.Landed.{is_landed_dict}
use Rattle.ft_trace.specs.declared.Act.{Act}
use Rattle.ft_trace.specs.declared.Shape.{Shape}
use Rattle.ft_trace.specs.declared.View.{View}
use Rattle.ft_bank.specs.Whole.{OnlyBoxed}
use Rattle.ft_bank.proofs.KnownAfterWrites.{boxed_then}
use Rattle.ft_section.specs.declared.answers.Look.{Look}
use Rattle.ft_section.specs.declared.answers.Look.TheVariants as look
use Rattle.ft_section.specs.declared.answers.Step.{Step}
use Rattle.ft_table_calls.specs.declared.adding.Added.{Added}
use Rattle.ft_table_calls.specs.declared.adding.Added.TheVariants as added
use Rattle.ft_table_calls.specs.declared.made.Made.{Made}
use Rattle.ft_table_calls.specs.TriesUnderLocks.{ComesTo, IsTry, made_after, objects_by}
use Rattle.ft_search.specs.KeyLooks.{IsLookOf, Stops}
use Rattle.ft_new_keys.specs.HeldKeys.{KeyInBox}
use Rattle.ft_new_keys.specs.KeyGrowth.{PutsKey}
use Rattle.ft_dict.specs.DictCopies.{CopiesTo}
use Rattle.ft_dict.specs.DictMaking.{FitsDict, DictCallMakes, key_of_dict}
use Rattle.ft_dict.specs.BoxedCalls.{ComesToDefault, PutsBoxed, SetsValue}
use Rattle.ft_dict.specs.HeldSets.{PutsHeld}
use Rattle.ft_set.specs.SetMaking.{FitsSet, SetCallMakes, key_of_set}
use Rattle.ft_merging.specs.Joining.{JoinsBy}
use Rattle.ft_merging.specs.Parting.{PartsBy}
use Rattle.ft_replacing.specs.Replacing.{IsReplaced}
use Rattle.ft_engine.specs.Answering.{IsLooked}
use Rattle.ft_engine.specs.Asked.{AreOfKindIn, HasKeyIn}
use Rattle.ft_engine.specs.Contentions.{StopsCall}
use Rattle.ft_engine.proofs.Outcomes.{Comes, Outcome, boxed_answered_comes, clear_comes, cleared_comes, copy_comes, held_comes, loaded_comes, made_comes, read_comes, try_outcome}

replaced_comes : (k : Shape) (takes : Option ℕ) (called : Call) (v w : View) (what : Added) → 0 < v.left → IsReplaced k takes called v w what → Comes called v w (made_after what reply.Done)
replaced_comes k None called v w (added.Made stamp) left x = cleared_comes called stamp v w x
replaced_comes k None called v w (added.NoTable class stamp) left x = absurd x
replaced_comes k None called v w (added.Over stamp) left x = absurd x
replaced_comes k None called v w (added.NoPlace stamp) left x = absurd x
replaced_comes k None called v w (added.Moved a b) left x = absurd x
replaced_comes k (Some class) called v w what left x = loaded_comes k (Some class) false called reply.Done v x.0 w what left x.1 x.2

-- ---- what each call that makes no cursor comes to

module _ (k : Shape) (o : ℕ) (came : Made) (u z : View) (left : 0 < u.left) where
  puts : (key : Key) (called : Call) (said : Reply) → ComesTo (PutsKey k o key called said) said came u z → Comes called u z came
  puts key called said x = subst (Comes called u z) x.1 (loaded_comes k _ _ called said u x.2.0 z x.0 left x.2.1 x.2.2)

  joins : (t : ℕ) (called : Call) → ComesTo (JoinsBy k o t called) reply.Done came u z → Comes called u z came
  joins t called x = subst (Comes called u z) x.1 (loaded_comes k _ _ called reply.Done u x.2.0.0 z x.0 left x.2.0.1 x.2.0.2)

  parts : (t : ℕ) (called : Call) → ComesTo (PartsBy k o t called) reply.Done came u z → Comes called u z came
  parts t called x = subst (Comes called u z) x.1 (loaded_comes k _ _ called reply.Done u x.2.0 z x.0 left x.2.1 x.2.2)

  -- a value in a box
  puts_held : (key : Key) (called : Call) (said : Reply) (mid : View) (what : Added) → OnlyBoxed u mid → PutsHeld k o key called said mid z what → Comes called u z (made_after what said)
  puts_held key called said mid what before h = held_comes (λ x y. KeyInBox k o key h.box y) k _ _ called said u h.before h.after z what left (boxed_then u mid h.before before h.boxed) h.put h.dropped

  puts_boxed : (key : Key) (value : Value) (called : Call) (said : Reply) (what : Added) → PutsBoxed k o key value called said u z what → Comes called u z (made_after what said)
  puts_boxed key value called said (added.Made stamp) x = puts_held key called said x.1.0 (added.Made stamp) x.1.1 x.1.2
  puts_boxed key value called said (added.NoTable class stamp) x = puts_held key called said x.1.0 (added.NoTable class stamp) x.1.1 x.1.2
  puts_boxed key value called said (added.Over stamp) x = loaded_comes k None _ called said u x.0 z (added.Over stamp) left x.1 x.2
  puts_boxed key value called said (added.NoPlace stamp) x = let f = x.1 in boxed_answered_comes called _ stamp u f.before z left f.unwritten f.boxed f.answered
  puts_boxed key value called said (added.Moved a b) x = puts_held key called said x.1.0 (added.Moved a b) x.1.1 x.1.2

  sets : (key : Key) (value : Value) → ComesTo (SetsValue k o key value) reply.Done came u z → Comes (call.Dict o (dict.Set key value)) u z came
  sets key value x =
      let called = call.Dict o (dict.Set key value) in
      subst (Comes called u z) x.1
      (⊎_elim
      (λ y. loaded_comes k _ _ called reply.Done u y.1.0 z x.0 left y.1.1 y.1.2)
      (λ y. puts_boxed key value called reply.Done x.0 y.1)
      x.2)

  defaults : (key : Key) (default : Value) → ComesToDefault k o key default came u z → Comes (call.Dict o (dict.SetDefault key default)) u z came
  defaults key default x =
      let called = call.Dict o (dict.SetDefault key default) in
      let y = x.1 in
      subst (Comes called u z) y.1
      (⊎_elim
      (λ p. loaded_comes k _ _ called x.0 u p.1.1.0 z y.0 left p.1.1.1 p.1.1.2)
      (λ p.
      ⊎_elim
      (λ q. loaded_comes k _ _ called x.0 u q.1.0 z y.0 left q.1.1 q.1.2)
      (λ q. puts_boxed key default called x.0 y.0 q.1)
      p.1.1)
      y.2)

  copies_to : (e : ℕ) → ComesTo (CopiesTo k o e) reply.Done came u z → Comes (call.Dict o (dict.CopyTo e)) u z came
  copies_to e x = subst (Comes (call.Dict o (dict.CopyTo e)) u z) x.1 (replaced_comes k _ (call.Dict o (dict.CopyTo e)) u z x.0 left x.2.0)

  dict_comes : (dc : DictCall) → cursor_of_dict dc ≡ None → is_landed_dict dc ≡ true → DictCallMakes k o dc came u z → Comes (call.Dict o dc) u z came
  dict_comes (dict.Get key) none landed x = read_comes (call.Dict o (dict.Get key)) u z came left x
  dict_comes (dict.GetOr key default) none landed x = read_comes (call.Dict o (dict.GetOr key default)) u z came left x
  dict_comes (dict.Has key) none landed x = read_comes (call.Dict o (dict.Has key)) u z came left x
  dict_comes dict.Len none landed x = read_comes (call.Dict o dict.Len) u z came left x
  dict_comes (dict.Set key value) none landed x = sets key value x
  dict_comes (dict.SetDefault key default) none landed x = defaults key default x
  dict_comes (dict.Update e) none landed x = joins e (call.Dict o (dict.Update e)) x
  dict_comes (dict.CopyTo e) none landed x = copies_to e x
  dict_comes (dict.Del key) none landed x = made_comes (call.Dict o (dict.Del key)) u z came left x
  dict_comes (dict.Pop key) none landed x = made_comes (call.Dict o (dict.Pop key)) u z came left x
  dict_comes (dict.PopOr key default) none landed x = made_comes (call.Dict o (dict.PopOr key default)) u z came left x
  dict_comes dict.PopItem none landed x = made_comes (call.Dict o dict.PopItem) u z came left x
  dict_comes dict.Clear none landed x = clear_comes (call.Dict o dict.Clear) u z came x
  dict_comes dict.Items none landed x = copy_comes (call.Dict o dict.Items) u z came refl left x
  dict_comes (dict.Eq e) none landed x = made_comes (call.Dict o (dict.Eq e)) u z came left x
  dict_comes (dict.Iter n) none landed x = absurd cc
  dict_comes (dict.KeysAnd e) none landed x = absurd cc
  dict_comes (dict.KeysSub e) none landed x = absurd cc
  dict_comes (dict.KeysOr e) none landed x = absurd cc
  dict_comes (dict.KeysXor e) none landed x = absurd cc
  dict_comes (dict.ItemsHas key value) none landed x = absurd cc
  dict_comes (dict.Reversed n) none landed x = absurd cc

  set_comes : (sc : SetCall) → cursor_of_set sc ≡ None → SetCallMakes k o sc came u z → Comes (call.Set o sc) u z came
  set_comes (set.Has key) none x = read_comes (call.Set o (set.Has key)) u z came left x
  set_comes set.Len none x = read_comes (call.Set o set.Len) u z came left x
  set_comes (set.Add key) none x = puts key (call.Set o (set.Add key)) reply.Done x
  set_comes (set.Or t) none x = joins t (call.Set o (set.Or t)) x
  set_comes (set.Xor t) none x = parts t (call.Set o (set.Xor t)) x
  set_comes (set.And t) none x = made_comes (call.Set o (set.And t)) u z came left x
  set_comes (set.Sub t) none x = made_comes (call.Set o (set.Sub t)) u z came left x
  set_comes (set.Discard key) none x = made_comes (call.Set o (set.Discard key)) u z came left x
  set_comes (set.Remove key) none x = made_comes (call.Set o (set.Remove key)) u z came left x
  set_comes set.Pop none x = made_comes (call.Set o set.Pop) u z came left x
  set_comes set.Clear none x = clear_comes (call.Set o set.Clear) u z came x
  set_comes set.Items none x = copy_comes (call.Set o set.Items) u z came refl left x
  set_comes (set.Eq t) none x = made_comes (call.Set o (set.Eq t)) u z came left x
  set_comes (set.Subset t) none x = made_comes (call.Set o (set.Subset t)) u z came left x
  set_comes (set.Disjoint t) none x = made_comes (call.Set o (set.Disjoint t)) u z came left x
  set_comes (set.Iter n) none x = absurd cc

pub dict_outcome : (k : Shape) (d : ℕ) (v w : View) (r : Step) → 0 < v.left → (dc : DictCall) → cursor_of_dict dc ≡ None → is_landed_dict dc ≡ true → IsTry (objects_by d (other_dict dc)) (DictCallMakes k d dc) v w r → Outcome (call.Dict d dc) (objects_by d (other_dict dc)) v w r
dict_outcome k d v w r left dc none landed x = try_outcome (call.Dict d dc) (objects_by d (other_dict dc)) (DictCallMakes k d dc) v w left (λ came u z some y. dict_comes k d came u z some dc none landed y) r x

pub set_outcome : (k : Shape) (s : ℕ) (v w : View) (r : Step) → 0 < v.left → (sc : SetCall) → cursor_of_set sc ≡ None → IsTry (objects_by s (other_set sc)) (SetCallMakes k s sc) v w r → Outcome (call.Set s sc) (objects_by s (other_set sc)) v w r
set_outcome k s v w r left sc none x = try_outcome (call.Set s sc) (objects_by s (other_set sc)) (SetCallMakes k s sc) v w left (λ came u z some y. set_comes k s came u z some sc none y) r x

-- ---- what the call names

pub fits_dict : (k : Shape) (d : ℕ) (dc : DictCall) → AreOfKindIn k kind.Dict d (other_dict dc) → HasKeyIn k (key_of_dict dc) → cursor_of_dict dc ≡ None → is_landed_dict dc ≡ true → FitsDict true k (call.Dict d dc)
fits_dict k d dc names key none landed = (names.0, names.1, key, none, landed, λ copies. refl)

pub fits_set : (k : Shape) (s : ℕ) (sc : SetCall) → AreOfKindIn k kind.Set s (other_set sc) → HasKeyIn k (key_of_set sc) → cursor_of_set sc ≡ None → FitsSet true k (call.Set s sc)
fits_set k s sc names key none = (names.0, names.1, key, none, λ copies. refl)

-- ---- looks

pub key_looked : (o : ℕ) (key : Key) (called : Call) (v w : View) (answer : Look) → ((a b : ℕ) (part : List Act) → Stops v.shape o key a b part → StopsCall v.shape called a b part) → IsLookOf o key called v w answer → IsLooked called v w answer
key_looked o key called v w (look.Done said stamp) stops x = (x.0, x.1)
key_looked o key called v w (look.Contended a b) stops x = (x.part, x.own, x.looked, stops a b x.part x.stops, x.looks)
key_looked o key called v w look.NoMemory stops x = absurd x

-- by the call that was given
pub dict_looked : (d : ℕ) (given dc : DictCall) (v w : View) (answer : Look) → given ≡ dc → IsLooked (call.Dict d dc) v w answer → IsLooked (call.Dict d given) v w answer
dict_looked d given dc v w answer is x = subst (λ (z : DictCall). IsLooked (call.Dict d z) v w answer) (sym is) x

pub set_looked : (s : ℕ) (given sc : SetCall) (v w : View) (answer : Look) → given ≡ sc → IsLooked (call.Set s sc) v w answer → IsLooked (call.Set s given) v w answer
set_looked s given sc v w answer is x = subst (λ (z : SetCall). IsLooked (call.Set s z) v w answer) (sym is) x
