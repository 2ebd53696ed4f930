-- What holds of a legal history whose containers are on tables: they have no more than the largest table holds, so that
-- what replies count is low.
use Rattle.std.proofs.Common.{◌≡◌, ◌∙◌, ℕ, zero, suc, ◌+◌, ◌≤◌, false, List, [], ◌∷◌, length, get_or, take, None, Some, refl, sym, ap, subst, inl, inr, arith, ◌⊎◌}
use Rattle.std.specs.Prelude.{All, slice_get}
use Rattle.std.specs.List.{between}
use Rattle.std.proofs.lemmas.Bool.{ltb-false}
use Rattle.std.proofs.lemmas.List.Edits.{length-between}
use Rattle.std.proofs.lemmas.List.Elements.{All-head, All-tail}
use Rattle.std.proofs.lemmas.List.Sums.{count_by-le-length}
use Rattle.std.proofs.lemmas.Option.{slice_get_within}
use Rattle.ft_model.specs.declared.call.Call.{Call}
use Rattle.ft_model.specs.declared.call.Call.TheVariants as call
use Rattle.ft_model.specs.declared.content.Content.{Content}
use Rattle.ft_model.specs.declared.content.Content.TheVariants as content
use Rattle.ft_model.specs.declared.entry.Entry.{Entry}
use Rattle.ft_model.specs.declared.entry.Storage.TheVariants as storage
use Rattle.ft_model.specs.declared.reply.Reply.TheVariants as reply
use Rattle.ft_model.specs.declared.script.ScriptParts.{ScriptParts}
use Rattle.ft_model.specs.Answers.{answer, world_by}
use Rattle.ft_model.specs.Calls.{containers_of}
use Rattle.ft_model.specs.Classes.{most_elements, most_items, most_pairs}
use Rattle.ft_model.specs.Contents.{empty_dict, empty_set}
use Rattle.ft_model.specs.Histories.{hands_at, is_marked, marks_between, sections_at, writes, world_at, IfEnds, IfInnermost, IsAnswered, IsCountedBy, IsLegal, IsReplied, Section}
use Rattle.ft_model.specs.Scripts.{IsScript}
use Rattle.ft_model.specs.TableUses.{passes_cap, stored_after}
use Rattle.ft_model.specs.Deques.{empty_deque}
use Rattle.ft_model.specs.Worlds.{deque_of, dict_of, list_of, set_of, starts_of}
use Rattle.ft_model.proofs.LegalTables.{order-legal}
use Rattle.ft_model.proofs.StoredLaws.{stored_world}
use Rattle.ft_model.proofs.TableOrder.{order-caps}
use Rattle.ft_history.proofs.Matching.{match_of, section_ended}
use Rattle.ft_history.proofs.HistoryPlaces.{writes_before}
use Rattle.ft_history.proofs.Unbroken.{next_of_legal}
use Rattle.ft_turns.specs.Internal.Counting.{counted_in}
use Rattle.ft_turns.specs.ShortReplies.{IsShortReply}

-- ---- contents

abbrev IsCapped : Content → Type 0
IsCapped there = passes_cap there ≡ false

at_or : (world : List Content) (place : ℕ) (d : Content) → IsCapped d → All IsCapped world → IsCapped (get_or world place d)
at_or [] place d default each = default
at_or (first ∷ world) zero d default each = All-head IsCapped first world each
at_or (first ∷ world) (suc place) d default each = at_or world place d default (All-tail IsCapped first world each)

dict_low : (there : Content) → IsCapped there → length (dict_of there).pairs ≤ 65536
dict_low (content.Dict dict) capped = let le : length dict.pairs ≤ 43690 = ltb-false most_pairs (length dict.pairs) capped in omega (arith, le)
dict_low (content.List items) capped = omega arith
dict_low (content.Set set) capped = omega arith
dict_low (content.Deque deque) capped = omega arith

list_low : (there : Content) → IsCapped there → length (list_of there) ≤ 65536
list_low (content.Dict dict) capped = omega arith
list_low (content.List items) capped = let le : length items ≤ 65536 = ltb-false most_items (length items) capped in omega (arith, le)
list_low (content.Set set) capped = omega arith
list_low (content.Deque deque) capped = omega arith

set_low : (there : Content) → IsCapped there → length (set_of there).elements ≤ 65536
set_low (content.Dict dict) capped = omega arith
set_low (content.List items) capped = omega arith
set_low (content.Set set) capped = let le : length set.elements ≤ 39321 = ltb-false most_elements (length set.elements) capped in omega (arith, le)
set_low (content.Deque deque) capped = omega arith

deque_low : (there : Content) → IsCapped there → length (deque_of there).items ≤ 65536
deque_low (content.Dict dict) capped = omega arith
deque_low (content.List items) capped = omega arith
deque_low (content.Set set) capped = omega arith
deque_low (content.Deque deque) capped = let le : length deque.items ≤ 65536 = ltb-false most_items (length deque.items) capped in omega (arith, le)

counted_capped : (world : List Content) → All IsCapped world → (called : Call) → counted_in world called ≤ 65536
counted_capped world each (call.Dict place dict_call) = dict_low (get_or world place (content.Dict empty_dict)) (at_or world place (content.Dict empty_dict) refl each)
counted_capped world each (call.List place list_call) = list_low (get_or world place (content.List [])) (at_or world place (content.List []) refl each)
counted_capped world each (call.Set place set_call) = set_low (get_or world place (content.Set empty_set)) (at_or world place (content.Set empty_set) refl each)
counted_capped world each (call.Deque place deque_call) = deque_low (get_or world place (content.Deque (empty_deque None))) (at_or world place (content.Deque (empty_deque None)) refl each)
counted_capped world each other = omega arith

-- ---- the world that an entry finds

stored_here : (script : ScriptParts) (entries : List Entry) (place stamp : ℕ) → stamp ≡ length (writes (take place entries)) → (stored_after script (writes (take place entries))).world ≡ world_at script entries stamp
stored_here script entries place stamp is =
    let starts = starts_of script.containers in
    stored_world starts (writes (take place entries)) ∙ ap (world_by starts) (sym (writes_before entries place)) ∙ ap (world_at script entries) (sym is)

-- where a call counts, it counts no more than the largest table holds
pub counted_low : (script : ScriptParts) (entries : List Entry) → IsScript script → IsLegal storage.Tables script entries → (place : ℕ) (entry : Entry) → slice_get entries place ≡ Some entry → counted_in (world_at script entries entry.stamp) entry.call ≤ 65536
counted_low script entries rule legal place entry at =
    let same = stored_here script entries place entry.stamp (legal.chronicle.answered place entry at).stamp in
    let capped = order-caps (stored_after script (writes (take place entries))) (order-legal script entries place rule legal) in
    counted_capped (world_at script entries entry.stamp) (subst (All IsCapped) same capped) entry.call

-- ---- the calls that waited

few_marked : (entries : List Entry) (thread place : ℕ) (section : Section) → place ≤ length entries → marks_between entries thread place section ≤ length entries
few_marked entries thread place section within =
    let part = between (section.begun + 1) place entries in
    omega (arith, count_by-le-length (is_marked thread) part, length-between entries (section.begun + 1) place within)

-- an `end` counts no more than there are entries
pub short_end : (script : ScriptParts) (entries : List Entry) → IsScript script → IsLegal storage.Tables script entries → length entries ≤ 500000 → (place : ℕ) (entry : Entry) → slice_get entries place ≡ Some entry → entry.call ≡ call.End → IsShortReply entry.reply
short_end script entries rule legal few place entry at ends =
    let answered : IsAnswered script entries place entry = legal.chronicle.answered place entry at in
    let plain = (answer (world_at script entries entry.stamp) (hands_at script entries entry.thread place) entry.call).reply in
    let replied : (entry.reply ≡ reply.Kept) ⊎ ((count : ℕ) × (entry.reply ≡ reply.Suspended count)) = subst (λ (called : Call). IsReplied called entry.reply plain) ends answered.reply in
    elim replied [
      | inl kept ↦ subst IsShortReply (sym kept) tt
      | inr suspended ↦
          let matched = match_of script rule entries (next_of_legal storage.Tables script entries legal) place entry at ends in
          let section : Section = record { containers = containers_of matched.1.call; begun = matched.0 } in
          let stack = section_ended entries matched.0 place matched.1 entry matched.2 in
          let P : Section → Type 0 = λ inner. IsCountedBy entries entry.thread place inner entry.reply in
          let counted : IsCountedBy entries entry.thread place section entry.reply = subst (λ (inner : List Section). IfInnermost inner P) stack (subst (λ (called : Call). IfEnds (sections_at entries entry.thread place) called P) ends (legal.chronicle.counted place entry at)) in
          let count : IsCountedBy entries entry.thread place section (reply.Suspended suspended.0) = subst (IsCountedBy entries entry.thread place section) suspended.1 counted in
          let most = few_marked entries entry.thread place section (let low = slice_get_within entries place entry at in omega (arith, low)) in
          subst IsShortReply (sym suspended.1) (omega (arith, count.1, most, few))
    ]
