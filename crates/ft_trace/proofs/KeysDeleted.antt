-- That a key may be taken out of a dict by a pass that has its lock, as a whole write.
use Rattle.std.proofs.Common.{◌≡◌, ℕ, ◌-◌, Bool, [], ◌∷◌, length, Option, refl, ap, ◌∙◌, inr, List, sym}
use Rattle.std.specs.Prelude.{◌&&◌, ◌==◌, find, All, if◌then◌else◌}
use Rattle.std.specs.Option.{option_map_or}
use Rattle.ft_model.specs.declared.call.Call.TheVariants as call
use Rattle.ft_model.specs.declared.call.DictCall.TheVariants as dict
use Rattle.ft_model.specs.declared.content.Content.TheVariants as content
use Rattle.ft_model.specs.declared.content.DictPair.{DictPair}
use Rattle.ft_model.specs.declared.data.Key.{Key}
use Rattle.ft_model.specs.declared.reply.Raise.TheVariants as raise
use Rattle.ft_model.specs.declared.reply.Reply.TheVariants as reply
use Rattle.ft_model.specs.Answers.{answer_dict, puts, shows, after_write}
use Rattle.ft_model.specs.Contents.{DictContent, dict_del, empty_dict, is_at}
use Rattle.ft_model.specs.Worlds.{dict_of, no_hands, dict_at}
use Rattle.ft_model.specs.TableUses.{TableUse, table_at, takes_in, stored_newest}
use Rattle.ft_layout.specs.Words.{FitsKey, key_kind, key_payload}
use Rattle.ft_trace.specs.Addresses.{class_of, slots}
use Rattle.ft_trace.specs.FitCalls.{FitsValue}
use Rattle.ft_trace.specs.Holds.{held_unboxed, known_state}
use Rattle.ft_trace.specs.Kinds.{is_key, pair_words, under}
use Rattle.ft_trace.specs.WholeWrites.{at_commit}
use Rattle.ft_trace.specs.DeleteWrites.{dict_del_write, KeysMayBeDeleted}
use Rattle.ft_trace.proofs.FitCalls.{dict_fits_words}
use Rattle.ft_trace.proofs.Known.{in_bank}
use Rattle.ft_model.proofs.SplitDicts.{unsplit_leaves}
use Rattle.ft_trace.proofs.KnownContents.{known_says, content_there}
use Rattle.ft_trace.proofs.SameKeys.{same_keys, none_left}
use Rattle.ft_trace.proofs.DictWrites.{EntryVersionsChangeNothing, FirstEntriesArePairs, dict_clear, dict_right}
use Rattle.ft_trace.proofs.EntryDeletes.{delete_possible}
use Rattle.ft_trace.proofs.Naming.{one_locked}
use Rattle.ft_trace.specs.Carefuls.{said_of}

-- nothing is under a key that was taken out, nor under one with its words
pub none_under : (pairs : DictContent) (key other : Key) → FitsKey key → All (λ pair. FitsKey pair.key × FitsValue pair.value) pairs.pairs → (key_kind other ≡ key_kind key) × (key_payload other ≡ key_payload key) → under (content.Dict (dict_del pairs key)) other ≡ []
none_under pairs key other fits each same =
    ap (λ (z : ℕ × ℕ). option_map_or pair_words (find (λ (pair : DictPair). (key_kind pair.key == z.0) && (key_payload pair.key == z.1)) (dict_del pairs key).pairs) []) (λ d. (same.0 d, same.1 d))
    ∙ ap (λ (z : Option DictPair). option_map_or pair_words z []) (none_left (λ pair. is_key pair.key key) (is_at key) (λ pair. FitsKey pair.key × FitsValue pair.value) (λ pair f. same_keys pair.key key f.0 fits) pairs.pairs each)

pub keys_may_be_deleted : EntryVersionsChangeNothing → FirstEntriesArePairs → KeysMayBeDeleted
keys_may_be_deleted versions first v o t place key pairs may is_dict names low live fits there now =
    let news = dict_del pairs key in
    let fill = (known_state o v).table.fill in
    let at = at_commit v o (dict_del_write v o t place key pairs) in
    let says = known_says v o t (content.Dict pairs) may is_dict names in
    delete_possible versions v o t place (length pairs.pairs - 1) key (content.Dict pairs) (content.Dict news) tt tt (call.Dict o (dict.Del key)) may is_dict names low live now
    (λ a same. none_under pairs key a fits (dict_fits_words v.shape.texts (held_unboxed o v).block (0 ∷ 0 ∷ (held_unboxed o v).table) (class_of t) fill pairs says) same)
    (dict_clear first v.shape.texts at.block (held_unboxed o v).block (class_of t) fill fill (in_bank v o t may.low may.possible may.mine names).0 pairs news (held_unboxed o v).table at.table says now)
    (λ e. let x : said_of (slots (class_of t)) (held_unboxed o v).table place ≡ [] = sym (dict_right first v.shape.texts (held_unboxed o v).block (class_of t) fill (in_bank v o t may.low may.possible may.mine names).0 pairs (held_unboxed o v).table says place key low live) ∙ e in absurd (cc))
    (record { of = refl; wrote = refl; fits = fits; locks = one_locked o v.log may.mine; replied = λ r e. inr e; declared = λ world one. record { one = one; both = tt; room = tt } })
    (λ calls agree.
    let world = (stored_newest v.shape.starts calls).world in
    ap (λ (z : DictContent). answer_dict world no_hands o z (dict.Del key)) (ap dict_of (content_there v o (content.Dict pairs) may.low may.mine is_dict calls agree (content.Dict empty_dict)))
    ∙ ap (λ (z : Bool). if z then puts world no_hands o (content.Dict news) reply.Done else shows world no_hands (reply.Raised raise.NoKey)) there)
    (λ stored no_keys. (refl, ap (λ (z : List TableUse). table_at z o) (unsplit_leaves stored.tables o (dict.Del key) (dict_at stored.world o) (dict_at (after_write stored.world (call.Dict o (dict.Del key))) o) (takes_in stored (call.Dict o (dict.Del key))) no_keys)))
