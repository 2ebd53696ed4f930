-- The laws.
use Rattle.std.proofs.Common.{◌≡◌, ℕ, ◌%◌, List, [], ◌∷◌, ◌++◌, sym, ap, ◌∙◌, subst, inl, inr, ⊎_elim, arith, le_trans, suc}
use mathlib.Core.Logic.{dite}
use native.Mathlib.Decide.{ℕ_discrete}
use Rattle.ft_trace.specs.Acts.{stage}
use Rattle.std.specs.Prelude.{cond, nat_lt}
use Rattle.ft_trace.specs.declared.View.{View}
use Rattle.ft_trace.specs.Ages.{age, whose}
use Rattle.ft_trace.proofs.EarlierMoments.{valid_rest}
use Rattle.ft_trace.specs.Entries.{number_count}
use Rattle.ft_trace.specs.Traces.{run, history}
use Rattle.ft_trace.specs.TraceLaws.{StoredTablesAreInOrder, WordsLieApart, PairsAreUnderTheirKeys, ElementsAreUnderTheirKeys, OnePassIsAlone, StampsRise, MemoryErrorsAreEarned, LocksNameHolders, VersionsAreOddInWrites, EvenTablesAreShut, NumbersAreOnce, EntriesAreRight, OneHasAllEntries, EvenWordsStand, ZeroRootsHaveNothing, HoldersKnow, TablesAreSomewhere, TablesAreInOnePlace, CountsStand, TablesAreOwed, EmptyClassesAreEarned, AnnouncedNumbersAreLow, FoundTablesAreKept, GivenUpTablesRest, TablesAreSound, TableWordsStay, HitsAreRight, MissesAreRight, BareRootsAreRight, ItemsAreRight, ListsFitTheirTables, LooksAreRight, LooksAtBothAreRight, ChangedRootsAreNew, NumbersHaveRoom, NextSerialsAreLow, CallsAreCounted}
use Rattle.ft_trace.proofs.Locks.{names, holder, one_holder}
use Rattle.ft_trace.proofs.OddVersions.{versioned, writer_has, writing_is_odd}
use Rattle.ft_trace.proofs.Contents.{counted, tab}
use Rattle.ft_trace.proofs.Standing.{stands}
use Rattle.ft_trace.proofs.Totals.{entries_total, parts_total, total_two}
use Rattle.ft_trace.specs.Unboxed.{unboxed_picture}
use Rattle.ft_trace.proofs.Addresses.{in_part, at_apart}
use Rattle.ft_trace.proofs.Orders.{in_order}
use Rattle.ft_model.specs.TableUses.{stored_newest}
use Rattle.ft_model.proofs.TableOrder.{order-caps}
use Rattle.ft_trace.proofs.Under.{find_first, find_none}
use Rattle.std.specs.List.{find}
use Rattle.std.specs.Option.{option_map_or}
use Rattle.std.proofs.Common.{Option}
use Rattle.ft_model.specs.declared.content.DictPair.{DictPair}
use Rattle.ft_model.specs.declared.content.Element.{Element}
use Rattle.ft_trace.specs.Kinds.{is_key, pair_words, element_words}
use Rattle.ft_trace.proofs.RisingStamps.{commit_rises, answer_rises, moved_rises, loads_rise, empty_earned}
use Rattle.ft_trace.proofs.ClosedEntries.{all_right, once, closes}
use Rattle.ft_trace.proofs.Announcing.{fits, heard}
use Rattle.ft_trace.proofs.Pieces.{block_at}
use Rattle.ft_trace.proofs.TablePlaces.{root_table, placed, not_current, keeper}
use Rattle.ft_trace.proofs.Hands.{handed}
use Rattle.ft_trace.proofs.FoundTables.{safe, not_free}
use Rattle.ft_trace.proofs.Rests.{rests, one_root}
use Rattle.ft_trace.proofs.Evens.{quiet_shut}
use Rattle.ft_trace.proofs.NoTable.{no_table_stands}
use Rattle.ft_trace.proofs.Held.{root_known, words_known, content_known, own_table_known}
use Rattle.ft_trace.proofs.Sounds.{LaterIn, sound_at, laters}
use Rattle.ft_trace.proofs.Ones.{words_stand}
use Rattle.ft_trace.proofs.Owed as owed_in
use Rattle.ft_trace.proofs.Hits as hits
use Rattle.ft_trace.proofs.Misses as misses
use Rattle.ft_trace.proofs.ItemHits as items
use Rattle.ft_trace.proofs.Optimistic.{looked_at_both, bare_at, looked_at}
use Rattle.ft_trace.proofs.Anew.{is_new}
use Rattle.ft_trace.proofs.NoWrap.{counter_room, version_room}
use Rattle.ft_trace.proofs.Serials.{next_low}
use Rattle.ft_trace.proofs.CallsLeft.{all_counted}
use Rattle.ft_trace.proofs.Budgets.{goals_room, some_part}
use Rattle.std.proofs.Common.{eqb, ◌+◌, ◌%◌}
use Rattle.ft_trace.specs.Acts.{debt}
use Rattle.ft_trace.specs.Pictures.{root_in}
use Rattle.ft_trace.specs.Holds.{held_words}
use Rattle.ft_trace.specs.Grants.{after_clear, ListsMayBeCleared, ClearedTablesMayBeGivenBack, TakingsEnd}
use Rattle.ft_trace.proofs.Cases.{miss, here}
use Rattle.ft_trace.proofs.Clearing.{clear_possible}
use Rattle.ft_trace.proofs.OnePassReuse.{cycle_possible}
use Rattle.ft_trace.proofs.Grants.{taking_ends}

pub locks_name_their_holders : LocksNameHolders
locks_name_their_holders k es valid o low = (names k es valid o low, holder k es valid o low, one_holder k es valid o low)

pub versions_are_odd_in_writes : VersionsAreOddInWrites
versions_are_odd_in_writes k es valid o low = ((versioned k es valid o low).busy, λ j u at w. (writer_has k es valid o j u at w, writing_is_odd k es valid o low j u at w))

pub tables_are_shut_while_versions_are_even : EvenTablesAreShut
tables_are_shut_while_versions_are_even = quiet_shut

pub numbers_are_of_one_write : NumbersAreOnce
numbers_are_of_one_write k es valid n = entries_total (number_count n) k es valid ∙ (once k es valid n ∙ ap (λ (z : ℕ). cond (nat_lt n z) 1 0) (sym (counted k es valid)))

pub entries_are_right : EntriesAreRight
entries_are_right = all_right

pub stamps_rise : StampsRise
stamps_rise k es valid j u at newer rest = (commit_rises k es valid j u at newer rest, answer_rises k es valid j u at newer rest, moved_rises k es valid j u at newer rest, λ mid m n is. loads_rise k es valid j u at newer mid rest m n is)

pub memory_errors_are_earned : MemoryErrorsAreEarned
memory_errors_are_earned = empty_earned

pub one_pass_has_all_entries : OneHasAllEntries
one_pass_has_all_entries k es valid j u at all = closes k es valid (fits k es valid).some_pass j u at all

pub calls_are_counted : CallsAreCounted
calls_are_counted k es valid j u at all = all_counted k es valid (fits k es valid).some_pass j u at all

pub words_stand_while_versions_are_even : EvenWordsStand
words_stand_while_versions_are_even = stands

pub zero_roots_have_nothing : ZeroRootsHaveNothing
zero_roots_have_nothing k es valid o low even none = no_table_stands k.texts (unboxed_picture k o (run k es).words) _ (block_at k o (run k es).words 0 (omega arith) ∙ none) (stands k es valid o low even)

pub holders_know : HoldersKnow
holders_know v es j knows = (λ o low mine. (words_known v o low mine es j knows, content_known v o mine es j knows), λ t table has. own_table_known v t table has es j knows)

pub tables_are_somewhere : TablesAreSomewhere
tables_are_somewhere k es valid t table =
    let p = placed k es valid t table in
    dite (ℕ_discrete (age es t % 5) 0) (λ z. inl (p.is_free z))
    (λ free. dite (ℕ_discrete (age es t % 5) 2) (λ two. let c = p.current two in inr (inl (whose es t, c.0, c.1)))
    (λ other. dite (ℕ_discrete (age es t % 5) 4) (λ four. inr (inr (inr four)))
    (λ out. let h = handed k es valid t table free other out in inr (inr (inl (keeper es t, h.by, h.at, λ z. free (sym h.has ∙ z)))))))

pub tables_are_in_one_place : TablesAreInOnePlace
tables_are_in_one_place k es valid t table =
    let p = placed k es valid t table in (
      one_root k es valid t table,
      λ i j u w at there mine theirs. sym (p.hands i u at mine).1 ∙ (p.hands j w there theirs).1,
      λ o i u low names at. dite (ℕ_discrete (stage t u.log) 0) (λ e. e) (λ ne. absurd (not_current t u.log (sym (p.hands i u at ne).0 ∙ (p.roots o low names).0))),
      λ free. (
        λ o low names. let a = p.free_is free in let b = (p.roots o low names).0 in absurd (omega (arith, a, b)),
        λ i u at. dite (ℕ_discrete (stage t u.log) 0) (λ e. e) (λ ne. absurd (ne (sym (p.hands i u at ne).0 ∙ p.free_is free))),
      ),
    )

pub counts_stand : CountsStand
counts_stand = words_stand

pub tables_are_owed : TablesAreOwed
tables_are_owed k es valid c is = let a = owed_in.owed k es valid c is in let b = owed_in.took_low k es valid c in omega (arith, a, b)

pub empty_classes_are_earned : EmptyClassesAreEarned
empty_classes_are_earned k es valid j u at c is newer rest log none = let a = owed_in.earned_since k es valid j u at c is newer rest log none in let b = owed_in.took_low k es valid c in omega (arith, a, b)

pub announced_numbers_are_low : AnnouncedNumbersAreLow
announced_numbers_are_low k es valid j u at live low = let h = heard k es valid j u at in (h.word_is live (le_trans low (fits k es valid).passes), h.low)

pub found_tables_are_kept : FoundTablesAreKept
found_tables_are_kept k es valid t table j u at =
    let s = safe k es valid t table j u at in
    (not_free k es valid t table j u at, λ r. ((s.read_is r).0, (s.read_is r).1), s.clear_is)

pub given_up_tables_rest : GivenUpTablesRest
given_up_tables_rest k e es valid t table fresh current = rests k es e valid t table fresh current

pub tables_are_sound : TablesAreSound
tables_are_sound = sound_at

pub table_words_stay : TableWordsStay
table_words_stay k newer older valid o low t names same =
    let was = valid_rest k newer older valid in
    let table = root_table k older was o low t names in
    let r = (placed k older was t table).roots o low names in
    subst (λ (z : ℕ). LaterIn k z t (tab k older t) (tab k (newer ++ older) t)) r.1 (laters k newer older valid t table r.0 same)

pub hits_are_right : HitsAreRight
hits_are_right k es valid o t p key n low keyed small j u at h =
    let r = hits.hit_at k es valid o t p key n low keyed small j u at h in
    (r.0, (λ none. some_words r.1 none), hits.hit_word k es valid o t p key n low keyed small j u at h, λ b f named. hits.hit_boxed k es valid o t p key n low keyed small j u at h b named f)
  where
    some_words : {x : ℕ} {xs l : List ℕ} → l ≡ x ∷ xs → l ≡ [] → ⊥
    some_words a b = let z = sym a ∙ b in absurd (cc)

pub misses_are_right : MissesAreRight
misses_are_right k es valid o t key n fits low keyed j u at = ⊎_elim (λ h. misses.miss_at k es valid o t key n fits low keyed j u at h) (λ h. misses.full_at k es valid o t key n fits low keyed j u at h)

pub bare_roots_are_right : BareRootsAreRight
bare_roots_are_right = bare_at

pub items_are_right : ItemsAreRight
items_are_right k es valid o t p n low is small j u at h = ((items.item_hit_at k es valid o t p n low is small j u at h).0, items.item_word k es valid o t p n low is small j u at h, λ b f named. items.item_boxed k es valid o t p n low is small j u at h b named f)

pub lists_fit_their_tables : ListsFitTheirTables
lists_fit_their_tables k es valid o t n low is j u at h = items.item_past_at k es valid o t n low is j u at h

pub looks_are_right : LooksAreRight
looks_are_right = looked_at

pub looks_at_both_are_right : LooksAtBothAreRight
looks_at_both_are_right = looked_at_both

pub changed_roots_are_new : ChangedRootsAreNew
changed_roots_are_new = is_new

pub numbers_have_room : NumbersHaveRoom
numbers_have_room k es valid = (counter_room k es valid, goals_room k es (fits k es valid).some_pass valid, λ o low. version_room k es valid o low)

pub next_serials_are_low : NextSerialsAreLow
next_serials_are_low k es valid o = let low = next_low k es valid o in let count = counted k es valid in omega (arith, low, count)

pub lists_may_be_cleared : ListsMayBeCleared
lists_may_be_cleared v o values m is = clear_possible v o values m.live m.possible m.few m.low m.mine m.quiet m.spare m.none m.room m.few_references m.stored is

pub cleared_tables_may_be_given_back : ClearedTablesMayBeGivenBack
cleared_tables_may_be_given_back v o t values m is first one idle names =
    let a = clear_possible v o values m.live m.possible m.few m.low m.mine m.quiet m.spare m.none m.room m.few_references m.stored is in
    let w = after_clear v o a.0 a.1 a.2 a.3 in
    let n = stage t v.log in
    let three : stage t w.log ≡ 3 = miss 0 (suc t) 0 (cond (eqb (root_in (held_words o v)) (suc t)) 3 n) (λ e. omega (arith, e)) ∙ here (root_in (held_words o v)) (suc t) 3 n names in
    let more : debt w.log ≡ debt v.log + 1 = miss (root_in (held_words o v)) 0 (debt v.log) (debt v.log + 1) (λ e. omega (arith, e, names)) in
    let table = root_table v.shape m.possible.0 m.possible.2.0 o m.low t (sym (root_known v o m.low m.mine m.possible.0 m.possible.1 m.possible.2) ∙ names) in
    let c = cycle_possible w t first a.4 one m.live.1 m.few table three (omega (arith, more)) idle in
    (a.0, a.1, a.2, a.3, c.0, c.1, c.2)

pub takings_end : TakingsEnd
takings_end = taking_ends

pub pairs_are_under_their_keys : PairsAreUnderTheirKeys
pairs_are_under_their_keys dict key = (
  λ before pair after split none hits. ap (λ (z : Option DictPair). option_map_or pair_words z []) (ap (find (λ (p : DictPair). is_key p.key key)) split ∙ find_first (λ (p : DictPair). is_key p.key key) before pair after none hits),
  λ none. ap (λ (z : Option DictPair). option_map_or pair_words z []) (find_none (λ (p : DictPair). is_key p.key key) dict.pairs none),
)

pub elements_are_under_their_keys : ElementsAreUnderTheirKeys
elements_are_under_their_keys set key = (
  λ before element after split none hits. ap (λ (z : Option Element). option_map_or element_words z []) (ap (find (λ (p : Element). is_key p.key key)) split ∙ find_first (λ (p : Element). is_key p.key key) before element after none hits),
  λ none. ap (λ (z : Option Element). option_map_or element_words z []) (find_none (λ (p : Element). is_key p.key key) set.elements none),
)

pub one_pass_is_alone : OnePassIsAlone
one_pass_is_alone k es valid j u at live all i w there ne = dite (ℕ_discrete w.number 0) (λ e. e)
    (λ alive.
    let two = total_two (λ (z : View). z.parts) (run k es).views j i u w (λ x. ne (sym x)) at there in
    let sum = parts_total k es valid in
    let more = some_part k es (fits k es valid).some_pass valid i w there alive in
    absurd (omega (arith, two, sum, more, all)))

pub words_lie_apart : WordsLieApart
words_lie_apart k x y a b = (in_part k x a, at_apart k x y a b)

pub stored_tables_are_in_order : StoredTablesAreInOrder
stored_tables_are_in_order k es valid = let order = in_order k es valid in (order, order-caps (stored_newest k.starts (history es)) order)
