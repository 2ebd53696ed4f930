-- What `s |= t` and `s ^= t` leave of the first set, in the words of the plain containers.
use Rattle.std.proofs.Common.{◌≡◌, ℕ, ◌+◌, ◌-◌, ◌<◌, false, List, [], ◌∷◌, length, Some, None, refl, sym, ap, ◌∙◌, subst, get_or-set_same, get_or-set_other}
use Rattle.std.specs.Prelude.{◌==◌, cond, map, slice_index_or, slice_set, if◌then◌else◌}
use Rattle.std.specs.List.{list_any}
use mathlib.Core.Logic.{dite}
use native.Mathlib.Decide.{ℕ_discrete}
use Rattle.ft_model.specs.declared.call.Call.TheVariants as call
use Rattle.ft_model.specs.declared.call.SetCall.TheVariants as set
use Rattle.ft_model.specs.declared.content.Content.{Content}
use Rattle.ft_model.specs.declared.content.Content.TheVariants as content
use Rattle.ft_model.specs.declared.content.Element.{Element}
use Rattle.ft_model.specs.declared.script.Kind.TheVariants as kind
use Rattle.ft_model.specs.Classes.{set_class}
use Rattle.ft_model.specs.Contents.{SetContent, empty_set, set_or, set_xor}
use Rattle.ft_model.specs.TableUses.{StoredWorld, grown_table, no_table, outgrows_set, passes_cap, set_takes, table_at}
use Rattle.ft_model.specs.Worlds.{IsOfKind, length_of, serial_of, set_at, set_of}
use Rattle.ft_trace.specs.declared.Shape.{Shape}
use Rattle.ft_trace.specs.declared.View.{View}
use Rattle.ft_trace.specs.Addresses.{container_count}
use Rattle.ft_trace.specs.Holds.{known_state}
use Rattle.ft_trace.specs.Traces.{IsReachable}
use Rattle.ft_trace.specs.ContainerStates.{kind_in}
use Rattle.ft_trace.proofs.Known.{declared_at}
use Rattle.ft_trace.proofs.Naming.{named_locked}
use Rattle.ft_bank.specs.WriteSteps.{MayHave}
use Rattle.ft_search.specs.OneEntryWrites.{MayWriteEntries}
use Rattle.ft_new_keys.specs.KeyGrowth.{keys_take}
use Rattle.ft_merging.specs.Joining.{JoinsKeys, join_takes, joined, new_keys}
use Rattle.ft_merging.specs.Parting.{PartsSets}
use Rattle.ft_merging.proofs.ThinningEnds.{is_set}
use Rattle.ft_merging.proofs.JoinedContents.{or_length}
use Rattle.ft_merging.proofs.Pairs.{named_cap}
use Rattle.ft_set.proofs.Leaving.{many, many_tables, set_is, table_is, there}

-- ---- what such a call leaves, whatever it makes of the two

module _ (f : SetContent → List Element → SetContent) (k : Shape) (s t : ℕ) (v : View) (shape : v.shape ≡ k) (possible : ∥ IsReachable v ∥₁) (may : MayWriteEntries k s v) (other : MayWriteEntries k t v) (is : kind_in k.starts s ≡ kind.Set) (other_is : kind_in k.starts t ≡ kind.Set) where
  abbrev elements : SetContent
  elements = set_of (known_state s v).content

  abbrev others : SetContent
  others = set_of (known_state t v).content

  abbrev news : SetContent
  news = f elements others.elements

  low : s < container_count v.shape
  low = subst (λ (z : Shape). s < container_count z) (sym shape) may.container

  other_low : t < container_count v.shape
  other_low = subst (λ (z : Shape). t < container_count z) (sym shape) other.container

  known_is : (known_state s v).content ≡ content.Set elements
  known_is = is_set k v s shape possible may.locked is

  other_known : (known_state t v).content ≡ content.Set others
  other_known = is_set k v t shape possible other.locked other_is

  module _ (found : StoredWorld) (has : MayHave v found) where
    one : set_at found.world s ≡ elements
    one = set_is s v elements low may.locked known_is found has

    two : set_at found.world t ≡ others
    two = set_is t v others other_low other.locked other_known found has

    abbrev after : List Content
    after = slice_set found.world s (content.Set (f (set_at found.world s) (set_at found.world t).elements))

    -- where the first one stands then, and the other one
    pub left_at : (e : Content) → slice_index_or after s e ≡ content.Set news
    left_at e = get_or-set_same found.world s (content.Set (f (set_at found.world s) (set_at found.world t).elements)) e (many s v elements low may.locked known_is found has) ∙ (λ i. content.Set (f (one i) (two i).elements))

    other_at : passes_cap (known_state t v).content ≡ false → passes_cap (content.Set news) ≡ false → passes_cap (slice_index_or after t (content.List [])) ≡ false
    other_at few few_now =
        dite (ℕ_discrete t s)
        (λ (e : t ≡ s). ap (λ (n : ℕ). passes_cap (slice_index_or after n (content.List []))) e ∙ (ap passes_cap (left_at (content.List [])) ∙ few_now))
        (λ ne. ap passes_cap (get_or-set_other found.world s t (content.Set (f (set_at found.world s) (set_at found.world t).elements)) (content.List []) (λ e. ne e) ∙ (there t v others other_low other.locked other_known found has ∙ sym other_known)) ∙ few)

    -- whether one of them has too many
    pub over_at : passes_cap (known_state t v).content ≡ false → list_any passes_cap (map (λ (place : ℕ). slice_index_or after place (content.List [])) (cond (s == t) (s ∷ []) (s ∷ t ∷ []))) ≡ passes_cap (content.Set news)
    over_at few = named_cap (λ (place : ℕ). slice_index_or after place (content.List [])) s t (s == t) (passes_cap (content.Set news)) (ap passes_cap (left_at (content.List []))) (other_at few)

    -- the serials that were drawn, how many elements there are, and the table that there was
    pub drawn_at : (set_at after s).next - (set_at found.world s).next ≡ news.next - elements.next
    drawn_at = λ i. (set_of (left_at (content.Set empty_set) i)).next - (one i).next

    pub all_at : length (set_at after s).elements ≡ length news.elements
    all_at = ap (λ (z : Content). length (set_of z).elements) (left_at (content.Set empty_set))

    pub takes_at : (if outgrows_set (table_at found.tables s) ((set_at after s).next - (set_at found.world s).next) then Some (set_class (length (set_at after s).elements)) else None) ≡ set_takes (known_state s v).table elements news
    takes_at = λ i. if outgrows_set (table_is s v elements low may.locked known_is found has i) (drawn_at i) then Some (set_class (all_at i)) else None

    pub table_then : slice_index_or (slice_set found.tables s (grown_table (table_at found.tables s) (if outgrows_set (table_at found.tables s) ((set_at after s).next - (set_at found.world s).next) then Some (set_class (length (set_at after s).elements)) else None) ((set_at after s).next - (set_at found.world s).next) (length (set_at after s).elements))) s no_table ≡ grown_table (known_state s v).table (set_takes (known_state s v).table elements news) (news.next - elements.next) (length news.elements)
    table_then =
        get_or-set_same found.tables s _ no_table (many_tables s v elements low may.locked known_is found has)
        ∙ (λ i. grown_table (table_is s v elements low may.locked known_is found has i) (takes_at i) (drawn_at i) (all_at i))

  -- both are declared
  pub both_declared : (found : StoredWorld) → MayHave v found → IsOfKind found.world kind.Set s × IsOfKind found.world kind.Set t
  both_declared found has = (
    declared_at found.world s (content.Set elements) (many s v elements low may.locked known_is found has) (there s v elements low may.locked known_is found has),
    declared_at found.world t (content.Set others) (many t v others other_low other.locked other_known found has) (there t v others other_low other.locked other_known found has),
  )

module _ (k : Shape) (s t : ℕ) (v : View) (shape : v.shape ≡ k) (possible : ∥ IsReachable v ∥₁) (may : MayWriteEntries k s v) (other : MayWriteEntries k t v) (is : kind_in k.starts s ≡ kind.Set) (other_is : kind_in k.starts t ≡ kind.Set) (few : passes_cap (known_state t v).content ≡ false) where
  -- ---- those of the other one are added

  abbrev mine : SetContent
  mine = set_of (known_state s v).content

  abbrev all : SetContent
  all = set_or mine (set_of (known_state t v).content).elements

  mine_is : (known_state s v).content ≡ content.Set mine
  mine_is = is_set k v s shape possible may.locked is

  joined_is : content.Set all ≡ joined (known_state s v).content (known_state t v).content
  joined_is = ap (λ (z : Content). joined z (known_state t v).content) (sym mine_is)

  count_is : length all.elements ≡ length_of (joined (known_state s v).content (known_state t v).content)
  count_is = ap length_of joined_is

  drawn_is : all.next - mine.next ≡ new_keys (known_state s v).content (known_state t v).content
  drawn_is = λ i. serial_of (joined_is i) - serial_of (sym mine_is i)

  takes_is : set_takes (known_state s v).table mine all ≡ join_takes (known_state s v) (known_state t v).content
  takes_is =
      let count : length all.elements ≡ length mine.elements + (all.next - mine.next) = or_length mine (set_of (known_state t v).content).elements in
      ap (λ (n : ℕ). if outgrows_set (known_state s v).table (all.next - mine.next) then Some (set_class n) else None) count
      ∙ (λ i. keys_take (sym mine_is i) (known_state s v).table (serial_of (joined (sym mine_is i) (known_state t v).content) - serial_of (sym mine_is i)))

  pub or_joins : JoinsKeys s t (call.Set s (set.Or t)) v
  or_joins = record {
    write = refl;
    changed = refl;
    words = tt;
    locks = named_locked s (Some t) v.log may.locked other.locked;
    replied = λ found has. refl;
    declared = λ found has.
        let both = both_declared set_or k s t v shape possible may other is other_is found has in
        record { one = both.0; both = both.1; room = tt };
    lacks = λ found has. record { adds = refl; raises_nothing = refl };
    over = λ found has. over_at set_or k s t v shape possible may other is other_is found has few ∙ ap passes_cap joined_is;
    takes = λ found has. takes_at set_or k s t v shape possible may other is other_is found has ∙ takes_is;
    left_is = λ found has.
        let c = left_at set_or k s t v shape possible may other is other_is found has (content.List []) ∙ joined_is in
        let table = table_then set_or k s t v shape possible may other is other_is found has ∙ (λ i. grown_table (known_state s v).table (takes_is i) (drawn_is i) (count_is i)) in
        λ i. record { content = c i; table = table i };
  }

  -- ---- those that both have go, and the new ones of the other one are added

  pub xor_parts : PartsSets s t (call.Set s (set.Xor t)) v
  xor_parts = record {
    write = refl;
    changed = refl;
    words = tt;
    locks = named_locked s (Some t) v.log may.locked other.locked;
    empties = refl;
    replied = λ found has. refl;
    declared = λ found has.
        let both = both_declared set_xor k s t v shape possible may other is other_is found has in
        record { one = both.0; both = both.1; room = tt };
    lacks = λ found has. record { adds = refl; raises_nothing = refl };
    over = λ found has. over_at set_xor k s t v shape possible may other is other_is found has few;
    takes = λ found has. takes_at set_xor k s t v shape possible may other is other_is found has;
    left_is = λ found has. λ i. record {
      content = left_at set_xor k s t v shape possible may other is other_is found has (content.List []) i;
      table = table_then set_xor k s t v shape possible may other is other_is found has i;
    };
  }
