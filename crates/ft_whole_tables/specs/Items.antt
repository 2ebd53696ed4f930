-- What calls reply that copy all that a dict or a set has. (Python manual, Mapping Types, Set Types)
use Rattle.std.specs.Prelude.{◌≡◌, ℕ, ◌<◌, List, length, map, Result, IfOk, OnErr}
use Rattle.std.specs.declared.alloc.AllocError.{AllocError}
use Rattle.std.specs.List.{filter_map}
use Rattle.ft_layout.specs.Tables.{UsedEntry}
use Rattle.ft_keys.specs.declared.walk.Way.{Way}
use Rattle.ft_keys.specs.declared.walk.Way.TheVariants as way
use Rattle.ft_model.specs.declared.call.Call.{Call}
use Rattle.ft_model.specs.declared.call.Call.TheVariants as call
use Rattle.ft_model.specs.declared.call.DictCall.TheVariants as dict
use Rattle.ft_model.specs.declared.call.SetCall.TheVariants as set
use Rattle.ft_model.specs.declared.content.Element.{Element}
use Rattle.ft_model.specs.declared.data.Key.{Key}
use Rattle.ft_model.specs.declared.data.Value.{Value}
use Rattle.ft_model.specs.declared.reply.Reply.{Reply}
use Rattle.ft_model.specs.declared.reply.Reply.TheVariants as reply
use Rattle.ft_model.specs.Answers.{items_of}
use Rattle.ft_model.specs.Contents.{DictContent, SetContent}
use Rattle.ft_trace.specs.declared.Shape.{Shape}
use Rattle.ft_trace.specs.Pictures.{ContainerWords}
use Rattle.ft_reads.specs.Copies.{HasSome}
use Rattle.ft_whole_tables.specs.ShownContents.{IsOfDict, IsOfSet}
use Rattle.ft_whole_tables.specs.TableEntries.{live_key, plain_pair}

-- the call that copies all pairs of a dict or all elements of a set
abbrev pub items_call : Way → ℕ → Call
items_call way.Dict c = call.Dict c dict.Items
items_call way.Set c = call.Set c set.Items

-- the reply has pairs of a dict, or elements of a set
abbrev pub IsItemsReply : Way → Reply → Type 0
IsItemsReply way.Dict said = (pairs : List (Key × Value)) × (said ≡ reply.Dict pairs)
IsItemsReply way.Set said = (keys : List Key) × (said ≡ reply.Set keys)

-- the reply with the pairs, or with the keys, of the used entries that are there
abbrev pub reply_of_used : Way → List UsedEntry → Reply
reply_of_used way.Dict used = reply.Dict (filter_map plain_pair used)
reply_of_used way.Set used = reply.Set (filter_map live_key used)

-- the reply was made; or there was no memory for it, and it has one pair or element at least
abbrev pub IsAllOf : Result Reply AllocError → Reply → Type 0
IsAllOf made all = IfOk made (λ said. said ≡ all) × OnErr made (HasSome all)

-- where these words stand for a dict, or for a set, all that it has was copied so
abbrev pub IsAllIn : Way → Shape → Result Reply AllocError → ContainerWords → Type 0
IsAllIn way.Dict k made = IsOfDict k (λ (dict : DictContent). IsAllOf made (reply.Dict (items_of dict.pairs)))
IsAllIn way.Set k made =
    IsOfSet k (λ (set : SetContent). IsAllOf made (reply.Set (map (λ (element : Element). element.key) set.elements)))

-- where these words stand for a dict it has a pair, where they stand for a set it has an element
abbrev pub HasEntry : Way → Shape → ContainerWords → Type 0
HasEntry way.Dict k = IsOfDict k (λ (dict : DictContent). 0 < length dict.pairs)
HasEntry way.Set k = IsOfSet k (λ (set : SetContent). 0 < length set.elements)
