-- From what loads of the words of a dict or a set show to what the call replies that copies all that it has.
use Rattle.std.proofs.Common.{◌≡◌, ◌≢◌, ◌<◌, ℕ, suc, List, [], ◌∷◌, length, map, refl, sym, ap, ◌∙◌, subst, inr, arith}
use Rattle.std.specs.Prelude.{Option, Result, Ok, Err, slice_index}
use Rattle.std.specs.Global.{Vec}
use Rattle.std.specs.List.{filter_map}
use Rattle.std.specs.declared.alloc.AllocError.{AllocError}
use Rattle.ft_layout.specs.Tables.{UsedEntry}
use Rattle.ft_keys.specs.declared.walk.Way.{Way}
use Rattle.ft_keys.specs.declared.walk.Way.TheVariants as way
use Rattle.ft_model.specs.declared.call.Call.TheVariants as call
use Rattle.ft_model.specs.declared.call.DictCall.TheVariants as dict
use Rattle.ft_model.specs.declared.call.SetCall.TheVariants as set
use Rattle.ft_model.specs.declared.content.DictPair.{DictPair}
use Rattle.ft_model.specs.declared.content.Element.{Element}
use Rattle.ft_model.specs.declared.data.Key.{Key}
use Rattle.ft_model.specs.declared.data.Value.{Value}
use Rattle.ft_model.specs.declared.reply.Reply.{Reply}
use Rattle.ft_model.specs.declared.reply.Reply.TheVariants as reply
use Rattle.ft_model.specs.Answers.{items_of}
use Rattle.ft_model.specs.Contents.{DictContent, SetContent}
use Rattle.ft_model.specs.TableUses.{StoredWorld}
use Rattle.ft_model.specs.Worlds.{dict_of, kind_of, set_of}
use Rattle.ft_trace.specs.declared.Shape.{Shape}
use Rattle.ft_trace.specs.declared.View.{View}
use Rattle.ft_trace.specs.Holds.{held_unboxed}
use Rattle.ft_trace.specs.Traces.{IsReachable}
use Rattle.ft_trace.specs.Pictures.{ContainerWords, Represents, root_in}
use Rattle.ft_trace.specs.ContainerStates.{state_at, kind_in, reply_in}
use Rattle.ft_search.specs.MadeCalls.{IsShownBy}
use Rattle.ft_search.specs.OneEntryWrites.{MayWriteEntries}
use Rattle.ft_search.specs.Rounds.{kind_by}
use Rattle.ft_search.proofs.Lengths.{IsPlain}
use Rattle.ft_bank.specs.WriteSteps.{MayHave}
use Rattle.ft_bank.specs.declared.pass.Pass.{Pass}
use Rattle.ft_reads.specs.Copies.{AreCopied, HasSome, TakesMemory}
use Rattle.ft_reads.specs.Reads.{Reads}
use Rattle.ft_reads.proofs.Agreeing.{reads_map}
use Rattle.ft_whole_tables.specs.Items.{items_call, reply_of_used, HasEntry, IsAllIn, IsAllOf, IsItemsReply}
use Rattle.ft_whole_tables.specs.TableEntries.{OfUsed, live_key, plain_pair}
use Rattle.ft_whole_tables.proofs.Gathered.{elements_gathered, no_dict, no_set, of_dict, of_set, pairs_gathered}
use Rattle.ft_whole_tables.proofs.KnownContents.{dict_there, had_kind, had_stands, set_there}

-- ---- from copies of entries to replies

-- a reply of what was copied of used entries, by a word for such replies
module _ {X : Type 0} (say : List X → Reply) (some : (xs : List X) → 0 < length xs → HasSome (say xs)) (pick : UsedEntry → Option X) (k : Shape) (c t fill : ℕ) (made : Result (Vec X) AllocError) (p q : Pass) (reads : Reads k c (OfUsed k t (λ used. fill ≡ length used → AreCopied made (filter_map pick used))) p q) where
  abbrev then : Result Reply AllocError → Type 0
  then result = Reads k c (OfUsed k t (λ used. fill ≡ length used → IsAllOf result (say (filter_map pick used)))) p q

  by : (result : Result Reply AllocError) → ((xs : List X) → AreCopied made xs → IsAllOf result (say xs)) → then result
  by result f = reads_map k c (OfUsed k t (λ used. fill ≡ length used → AreCopied made (filter_map pick used))) (OfUsed k t (λ used. fill ≡ length used → IsAllOf result (say (filter_map pick used)))) p q
      (λ x of_used names way used table filled. f (filter_map pick used) (of_used names way used table filled)) reads

  pub said_copied : (items : Vec X) → made ≡ Ok items → (said : List X) → said ≡ items.items → then (Ok (say said))
  said_copied items was said from = by (Ok (say said)) (λ xs copied. (ap say (from ∙ (subst (λ (r : Result (Vec X) AllocError). AreCopied r xs) was copied).0), tt))

  pub said_failed : (error : AllocError) → made ≡ Err error → (result : Result Reply AllocError) (e : AllocError) → result ≡ Err e → then result
  said_failed error was result e is = by result (λ xs copied. subst (λ (r : Result Reply AllocError). IsAllOf r (say xs)) (sym is) (tt, some xs (subst (λ (r : Result (Vec X) AllocError). AreCopied r xs) was copied).1))

-- ---- from entries to all of them

pub used_reply : (way : Way) (used : List UsedEntry) → IsItemsReply way (reply_of_used way used)
used_reply way.Dict used = (filter_map plain_pair used, refl)
used_reply way.Set used = (filter_map live_key used, refl)

pub all_of_used : (way : Way) (k : Shape) (t fill : ℕ) (x : ContainerWords) (made : Result Reply AllocError) → root_in x ≡ suc t → fill ≡ slice_index x.block 2 → OfUsed k t (λ used. fill ≡ length used → IsAllOf made (reply_of_used way used)) x → IsAllIn way k made x
all_of_used way.Dict k t fill x made names filled of_used =
    of_dict k t fill x (λ used. IsAllOf made (reply.Dict (filter_map plain_pair used))) names filled of_used (λ (dict : DictContent). IsAllOf made (reply.Dict (items_of dict.pairs)))
    (λ used dict are is held_unboxed. subst (λ (l : List (Key × Value)). IsAllOf made (reply.Dict l)) (pairs_gathered used dict are) held_unboxed)
all_of_used way.Set k t fill x made names filled of_used =
    of_set k t fill x (λ used. IsAllOf made (reply.Set (filter_map live_key used))) names filled of_used (λ (set : SetContent). IsAllOf made (reply.Set (map (λ (e : Element). e.key) set.elements)))
    (λ used set are is held_unboxed. subst (λ (l : List Key). IsAllOf made (reply.Set l)) (elements_gathered used set are) held_unboxed)

-- where there is no table, there is nothing
pub none_there : (way : Way) (k : Shape) (x : ContainerWords) (said : Reply) → root_in x ≡ 0 → said ≡ reply_of_used way [] → IsAllIn way k (Ok said) x
none_there way.Dict k x said bare is =
    no_dict k x bare (λ (dict : DictContent). IsAllOf (Ok said) (reply.Dict (items_of dict.pairs))) (λ dict nothing. (is ∙ ap (λ (l : List DictPair). reply.Dict (items_of l)) (sym nothing), tt))
none_there way.Set k x said bare is =
    no_set k x bare (λ (set : SetContent). IsAllOf (Ok said) (reply.Set (map (λ (e : Element). e.key) set.elements))) (λ set nothing. (is ∙ ap (λ (l : List Element). reply.Set (map (λ (e : Element). e.key) l)) (sym nothing), tt))

-- ---- the reply

pub all_replied : (way : Way) (k : Shape) (c : ℕ) (made : Result Reply AllocError) (x : ContainerWords) (stored : StoredWorld) → kind_of (state_at stored c).content ≡ kind_by way → Represents k.texts x (state_at stored c) → IsAllIn way k made x → IsAllOf made (reply_in stored (items_call way c))
all_replied way.Dict k c made x stored is stands shows =
    subst (λ (z : DictContent). IsAllOf made (reply.Dict (items_of z.pairs))) (sym (dict_there stored.world c is)) (shows (state_at stored c) is stands)
all_replied way.Set k c made x stored is stands shows =
    subst (λ (z : SetContent). IsAllOf made (reply.Set (map (λ (e : Element). e.key) z.elements))) (sym (set_there stored.world c is)) (shows (state_at stored c) is stands)

some_mapped : {X Y : Type 0} (f : X → Y) (xs : List X) → 0 < length (map f xs) → 0 < length xs
some_mapped f [] none = none
some_mapped f (x ∷ xs) some = omega arith

-- there is one at least where there was no memory for them
pub some_there : (way : Way) (k : Shape) (error : AllocError) (x : ContainerWords) → IsAllIn way k (Err error) x → HasEntry way k x
some_there way.Dict k error x shows = λ kept is stands. some_mapped (λ (pair : DictPair). (pair.key, pair.value)) (dict_of kept.content).pairs (shows kept is stands).1
some_there way.Set k error x shows = λ kept is stands. some_mapped (λ (e : Element). e.key) (set_of kept.content).elements (shows kept is stands).1

pub items_plain : (way : Way) (c : ℕ) (said : Reply) → IsItemsReply way said → IsPlain (items_call way c) said
items_plain way.Dict c said all = subst (IsPlain (call.Dict c dict.Items)) (sym all.1) (record { reads = refl; cursor = refl; adds = refl; memory = refl; replied = λ plain is. inr is; cause = λ stored log n. refl })
items_plain way.Set c said all = subst (IsPlain (call.Set c set.Items)) (sym all.1) (record { reads = refl; cursor = refl; adds = refl; memory = refl; replied = λ plain is. inr is; cause = λ stored log n. refl })

pub not_kept : (way : Way) (said : Reply) → IsItemsReply way said → said ≢ reply.Kept
not_kept way.Dict said all kept = let e = sym all.1 ∙ kept in absurd (cc)
not_kept way.Set said all kept = let e = sym all.1 ∙ kept in absurd (cc)

-- ---- under the lock

module _ (way : Way) (k : Shape) (c : ℕ) (v : View) (shape : v.shape ≡ k) (possible : ∥ IsReachable v ∥₁) (may : MayWriteEntries k c v) (is : kind_in k.starts c ≡ kind_by way) where
  all_now : (made : Result Reply AllocError) → IsAllIn way k made (held_unboxed c v) → (stored : StoredWorld) → MayHave v stored → IsAllOf made (reply_in stored (items_call way c))
  all_now made shows stored has = all_replied way k c made (held_unboxed c v) stored (had_kind k c v shape possible may stored has ∙ is) (had_stands k c v shape possible may stored has) shows

  -- a copy without memory takes some
  pub items_taken : (error : AllocError) → IsAllIn way k (Err error) (held_unboxed c v) → TakesMemory (items_call way c) v
  items_taken error shows stored has = (all_now (Err error) shows stored has).1

  pub items_shown : (said : Reply) → IsItemsReply way said → IsAllIn way k (Ok said) (held_unboxed c v) → IsShownBy (items_call way c) said v
  items_shown said all shows =
      let plain = items_plain way c said all in
      record {
        read = plain.reads;
        cursor = plain.cursor;
        plain = λ stored same. plain.replied (reply_in stored (items_call way c)) (sym same);
        replied = λ stored has. sym (all_now (Ok said) shows stored has).0;
        cause = plain.cause;
      }
