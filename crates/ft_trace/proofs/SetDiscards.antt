-- That a key may be taken out of a set by a pass that has its lock, as a whole write.
use Rattle.std.proofs.Common.{◌≡◌, ℕ, ◌-◌, [], ◌∷◌, length, Option, refl, ap, ◌∙◌, inr, sym}
use Rattle.std.specs.Prelude.{◌&&◌, ◌==◌, find, All}
use Rattle.std.specs.Option.{option_map_or}
use Rattle.ft_model.specs.declared.call.Call.TheVariants as call
use Rattle.ft_model.specs.declared.call.SetCall.TheVariants as set
use Rattle.ft_model.specs.declared.content.Content.TheVariants as content
use Rattle.ft_model.specs.declared.content.Element.{Element}
use Rattle.ft_model.specs.declared.data.Key.{Key}
use Rattle.ft_model.specs.Answers.{answer_set}
use Rattle.ft_model.specs.Contents.{SetContent, set_discard, empty_set}
use Rattle.ft_model.specs.Keys.{same_key}
use Rattle.ft_model.specs.Worlds.{set_of, no_hands}
use Rattle.ft_model.specs.TableUses.{stored_newest}
use Rattle.ft_layout.specs.Words.{FitsKey, key_kind, key_payload}
use Rattle.ft_trace.specs.Addresses.{class_of, slots}
use Rattle.ft_trace.specs.Holds.{held_unboxed, known_state}
use Rattle.ft_trace.specs.Kinds.{is_key, element_words, under}
use Rattle.ft_trace.specs.WholeWrites.{at_commit}
use Rattle.ft_trace.specs.SetWrites.{set_discard_write, ElementsMayBeDiscarded}
use Rattle.ft_trace.proofs.FitCalls.{set_fits_words}
use Rattle.ft_trace.proofs.Known.{in_bank}
use Rattle.ft_trace.proofs.KnownContents.{known_says, content_there}
use Rattle.ft_trace.proofs.SameKeys.{same_keys, none_left}
use Rattle.ft_trace.proofs.DictWrites.{EntryVersionsChangeNothing}
use Rattle.ft_trace.proofs.EntryDeletes.{delete_possible}
use Rattle.ft_trace.proofs.Naming.{one_locked}
use Rattle.ft_trace.proofs.SetKnown.{FirstEntriesAreElements, set_clear, set_right}
use Rattle.ft_trace.specs.Carefuls.{said_of}

-- nothing is under a key that was taken out, nor under one with its words
pub none_under : (elements : SetContent) (key other : Key) → FitsKey key → All (λ element. FitsKey element.key) elements.elements → (key_kind other ≡ key_kind key) × (key_payload other ≡ key_payload key) → under (content.Set (set_discard elements key)) other ≡ []
none_under elements key other fits each same =
    ap (λ (z : ℕ × ℕ). option_map_or element_words (find (λ (element : Element). (key_kind element.key == z.0) && (key_payload element.key == z.1)) (set_discard elements key).elements) []) (λ d. (same.0 d, same.1 d))
    ∙ ap (λ (z : Option Element). option_map_or element_words z []) (none_left (λ element. is_key element.key key) (λ element. same_key element.key key) (λ element. FitsKey element.key) (λ element f. same_keys element.key key f fits) elements.elements each)

pub elements_may_be_discarded : EntryVersionsChangeNothing → FirstEntriesAreElements → ElementsMayBeDiscarded
elements_may_be_discarded versions first v o t place key elements may is_set names low live fits now =
    let news = set_discard elements key in
    let fill = (known_state o v).table.fill in
    let at = at_commit v o (set_discard_write v o t place key elements) in
    let says = known_says v o t (content.Set elements) may is_set names in
    delete_possible versions v o t place (length elements.elements - 1) key (content.Set elements) (content.Set news) tt tt (call.Set o (set.Discard key)) may is_set names low live now
    (λ a same. none_under elements key a fits (set_fits_words v.shape.texts (held_unboxed o v).block (0 ∷ 0 ∷ (held_unboxed o v).table) (class_of t) fill elements says) same)
    (set_clear first v.shape.texts at.block (held_unboxed o v).block (class_of t) fill fill (in_bank v o t may.low may.possible may.mine names).0 elements news (held_unboxed o v).table at.table says now)
    (λ e. let x : said_of (slots (class_of t)) (held_unboxed o v).table place ≡ [] = sym (set_right first v.shape.texts (held_unboxed o v).block (class_of t) fill (in_bank v o t may.low may.possible may.mine names).0 elements (held_unboxed o v).table says place key low live) ∙ e in absurd (cc))
    (record { of = refl; wrote = refl; fits = fits; locks = one_locked o v.log may.mine; replied = λ r e. inr e; declared = λ world one. record { one = one; both = tt; room = tt } })
    (λ calls agree. ap (λ (z : SetContent). answer_set (stored_newest v.shape.starts calls).world no_hands o z (set.Discard key)) (ap set_of (content_there v o (content.Set elements) may.low may.mine is_set calls agree (content.Set empty_set))))
    (λ stored no_keys. (refl, refl))
