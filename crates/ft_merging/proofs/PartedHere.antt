-- A set that parts with another one in the table that it has: the room there, and what the call leaves then.
use Rattle.std.proofs.Common.{◌≡◌, ℕ, ◌+◌, ◌-◌, ◌≤◌, Bool, true, false, true≢false, List, length, filter, Option, Some, None, refl, sym, ap, ◌∙◌, subst, arith, le-ltb}
use Rattle.std.specs.Prelude.{is_some, if◌then◌else◌}
use Rattle.std.proofs.lemmas.List.{length-map}
use Rattle.ft_model.specs.declared.call.Call.{Call}
use Rattle.ft_model.specs.declared.content.Content.{Content}
use Rattle.ft_model.specs.declared.content.Content.TheVariants as content
use Rattle.ft_model.specs.declared.reply.Reply.TheVariants as reply
use Rattle.ft_model.specs.Classes.{IsClass, most_elements, set_class, set_entries}
use Rattle.ft_model.specs.Contents.{SetContent, set_or}
use Rattle.ft_model.specs.TableUses.{grown_table, outgrows_set, passes_cap}
use Rattle.ft_model.specs.Worlds.{set_of}
use Rattle.ft_model.proofs.KnownKeys.{length-filter-le}
use Rattle.ft_layout.specs.Containers.{used_element, IsSetWords}
use Rattle.ft_layout.specs.Tables.{UsedEntry, is_live}
use Rattle.ft_layout.proofs.Powers.{slots_range}
use Rattle.ft_trace.specs.declared.View.{View}
use Rattle.ft_trace.specs.Holds.{known_state}
use Rattle.ft_trace.specs.ContainerStates.{ContainerState}
use Rattle.ft_search.specs.OneEntryWrites.{Leaves}
use Rattle.ft_new_keys.proofs.Placed.{use_with}
use Rattle.ft_merging.specs.Joining.{join_takes, joined, new_keys}
use Rattle.ft_merging.specs.Parting.{PartsSets, part_takes, parted, parted_state}
use Rattle.ft_merging.proofs.JoinedContents.{or_length}

if_none : (b : Bool) (x y : ℕ) → (if b then Some x else None) ≡ None → (if b then Some y else None) ≡ None
if_none true x y e = absurd (true≢false (ap is_some e))
if_none false x y e = refl

-- where it takes no table to part, it takes none to join
pub join_stays : (kept : ContainerState) (others : Content) (first : SetContent) → kept.content ≡ content.Set first → part_takes kept others ≡ None → join_takes kept others ≡ None
join_stays kept others first is none =
    subst (λ (z : Content). join_takes (record { content = z; table = kept.table }) others ≡ None) (sym is)
    (if_none (outgrows_set kept.table ((set_or first (set_of others).elements).next - first.next)) (set_class (length (parted (content.Set first) others).elements)) (set_class (length first.elements + ((set_or first (set_of others).elements).next - first.next)))
    (subst (λ (z : Content). part_takes (record { content = z; table = kept.table }) others ≡ None) is none))

-- as many serials are drawn
pub part_draws : (d others : Content) (first : SetContent) → d ≡ content.Set first → (parted d others).next - (set_of d).next ≡ new_keys d others
part_draws d others first is = ap (λ (z : Content). (parted z others).next - (set_of z).next) is ∙ sym (ap (λ (z : Content). new_keys z others) is)

-- so few that both fit in
pub join_fits : (texts block words : List ℕ) (class fill more : ℕ) (first : SetContent) (d others : Content) → IsClass class → IsSetWords texts block words (Some class) fill first → d ≡ content.Set first → more ≡ new_keys d others → fill + more ≤ set_entries class → passes_cap (joined d others) ≡ false
join_fits texts block words class fill more first d others is_class says is more_is room =
    let many : length (filter is_live says.used) ≡ length first.elements = ap (λ (l : List UsedEntry). length l) says.entries.live ∙ length-map first.elements used_element in
    let few = length-filter-le is_live says.used in
    let filled = says.filled in
    let all = or_length first (set_of others).elements in
    let news : more ≡ (set_or first (set_of others).elements).next - first.next = more_is ∙ ap (λ (z : Content). new_keys z others) is in
    let range = (slots_range class is_class).1 in
    ap (λ (z : Content). passes_cap (joined z others)) is
    ∙ le-ltb most_elements (length (set_or first (set_of others).elements).elements) (omega (arith, many, few, filled, all, news, room, range))

-- what the call leaves
pub parts_here : (s t : ℕ) (called : Call) (v : View) (class fill more : ℕ) (first : SetContent) → PartsSets s t called v → (known_state s v).content ≡ content.Set first → (known_state s v).table ≡ use_with class fill → more ≡ new_keys (known_state s v).content (known_state t v).content → part_takes (known_state s v) (known_state t v).content ≡ None → passes_cap (content.Set (parted (known_state s v).content (known_state t v).content)) ≡ false
    → Leaves s called reply.Done (record { content = content.Set (parted (known_state s v).content (known_state t v).content); table = use_with class (fill + more) }) v
parts_here s t called v class fill more first parts is table more_is none few =
    let kept = known_state s v in
    let others = (known_state t v).content in
    let drawn = part_draws kept.content others first is in
    let left : (parted_state kept others).table ≡ use_with class (fill + more) =
    ap (λ (z : Option ℕ). grown_table kept.table z ((parted kept.content others).next - (set_of kept.content).next) (length (parted kept.content others).elements)) none
    ∙ (λ i. record { class = (table i).class; fill = (table i).fill + (drawn ∙ sym more_is) i; keys = (table i).keys }) in
    record {
      write = parts.write;
      changed = parts.changed;
      words = parts.words;
      locks = parts.locks;
      replied = parts.replied;
      declared = parts.declared;
      fits = λ found has. parts.over found has ∙ few;
      left_is = λ found has. parts.left_is found has ∙ (λ i. record { content = content.Set (parted kept.content others); table = left i });
    }
