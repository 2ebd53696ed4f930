-- What `d.update(e)` leaves of the first dict, in the words of the plain containers.
use Rattle.std.proofs.Common.{◌≡◌, ℕ, ◌+◌, ◌-◌, ◌<◌, false, List, [], length, Some, None, refl, sym, ap, ◌∙◌, get_or-set_same, get_or-set_other}
use Rattle.std.specs.Prelude.{◌==◌, slice_index_or, if◌then◌else◌}
use mathlib.Core.Logic.{dite}
use native.Mathlib.Decide.{ℕ_discrete}
use Rattle.ft_model.specs.declared.call.Call.{Call}
use Rattle.ft_model.specs.declared.call.Call.TheVariants as call
use Rattle.ft_model.specs.declared.call.DictCall.TheVariants as dict
use Rattle.ft_model.specs.declared.content.Content.{Content}
use Rattle.ft_model.specs.declared.content.Content.TheVariants as content
use Rattle.ft_model.specs.declared.script.Kind.TheVariants as kind
use Rattle.ft_model.specs.Answers.{after_write}
use Rattle.ft_model.specs.Classes.{dict_class}
use Rattle.ft_model.specs.Contents.{DictContent, dict_update, empty_dict}
use Rattle.ft_model.specs.TableUses.{StoredWorld, after_stored, grown_table, no_table, outgrows_dict, passes_cap, table_at, takes_in, would_pass, TableUse}
use Rattle.ft_model.specs.Worlds.{dict_at, dict_of, length_of, serial_of}
use Rattle.ft_trace.specs.declared.Shape.{Shape}
use Rattle.ft_trace.specs.declared.View.{View}
use Rattle.ft_trace.specs.Addresses.{container_count}
use Rattle.ft_trace.specs.Holds.{known_state}
use Rattle.ft_trace.specs.Traces.{IsReachable}
use Rattle.ft_trace.specs.ContainerStates.{state_at, kind_in}
use Rattle.ft_trace.proofs.Known.{declared_at}
use Rattle.ft_trace.proofs.Naming.{named_locked}
use Rattle.ft_bank.specs.WriteSteps.{MayHave}
use Rattle.ft_search.specs.OneEntryWrites.{MayWriteEntries}
use Rattle.ft_new_keys.specs.KeyGrowth.{keys_take}
use Rattle.ft_merging.specs.Joining.{JoinsKeys, join_takes, joined, joined_state, new_keys}
use Rattle.ft_merging.proofs.JoinedPairs.{update_length}
use Rattle.ft_merging.proofs.Pairs.{named_cap}
use Rattle.ft_dict.proofs.Deleted.{known_dict}
use Rattle.ft_dict.proofs.Leaving.{dict_is, many, many_tables, table_is, there}
use Rattle.ft_model.proofs.SplitDicts.{unsplit_takes, unsplit_leaves}

module _ (k : Shape) (d e : ℕ) (v : View) (shape : v.shape ≡ k) (possible : ∥ IsReachable v ∥₁) (may : MayWriteEntries k d v) (other : MayWriteEntries k e v) (is : kind_in k.starts d ≡ kind.Dict) (other_is : kind_in k.starts e ≡ kind.Dict) (few : passes_cap (known_state e v).content ≡ false) where
  abbrev called : Call
  called = call.Dict d (dict.Update e)

  first : (pairs : DictContent) × ((known_state d v).content ≡ content.Dict pairs) × (d < container_count v.shape)
  first = known_dict k v d shape possible may is

  second : (pairs : DictContent) × ((known_state e v).content ≡ content.Dict pairs) × (e < container_count v.shape)
  second = known_dict k v e shape possible other other_is

  abbrev pairs : DictContent
  pairs = first.0

  abbrev others : DictContent
  others = second.0

  abbrev news : DictContent
  news = dict_update pairs others.pairs

  low : d < container_count v.shape
  low = first.2

  other_low : e < container_count v.shape
  other_low = second.2

  known_is : (known_state d v).content ≡ content.Dict pairs
  known_is = first.1

  other_known : (known_state e v).content ≡ content.Dict others
  other_known = second.1

  joined_is : content.Dict news ≡ joined (known_state d v).content (known_state e v).content
  joined_is = λ i. joined (sym known_is i) (sym other_known i)

  module _ (found : StoredWorld) (has : MayHave v found) where
    one : dict_at found.world d ≡ pairs
    one = dict_is d v pairs low may.locked known_is found has

    two : dict_at found.world e ≡ others
    two = dict_is e v others other_low other.locked other_known found has

    abbrev after : List Content
    after = after_write found.world called

    -- where the first one stands then, and the other one
    left_at : (any : Content) → slice_index_or after d any ≡ content.Dict news
    left_at any = get_or-set_same found.world d (content.Dict (dict_update (dict_at found.world d) (dict_at found.world e).pairs)) any (many d v pairs low may.locked known_is found has) ∙ (λ i. content.Dict (dict_update (one i) (two i).pairs))

    other_at : passes_cap (content.Dict news) ≡ false → passes_cap (slice_index_or after e (content.List [])) ≡ false
    other_at few_now =
        dite (ℕ_discrete e d)
        (λ (same : e ≡ d). ap (λ (n : ℕ). passes_cap (slice_index_or after n (content.List []))) same ∙ (ap passes_cap (left_at (content.List [])) ∙ few_now))
        (λ ne. ap passes_cap (get_or-set_other found.world d e (content.Dict (dict_update (dict_at found.world d) (dict_at found.world e).pairs)) (content.List []) (λ same. ne same) ∙ (there e v others other_low other.locked other_known found has ∙ sym other_known)) ∙ few)

    over : would_pass found.world called ≡ passes_cap (joined (known_state d v).content (known_state e v).content)
    over = named_cap (λ (place : ℕ). slice_index_or after place (content.List [])) d e (d == e) (passes_cap (content.Dict news)) (ap passes_cap (left_at (content.List []))) other_at ∙ ap passes_cap joined_is

    drawn : (dict_at after d).next - (dict_at found.world d).next ≡ new_keys (known_state d v).content (known_state e v).content
    drawn = (λ i. (dict_of (left_at (content.Dict empty_dict) i)).next - (one i).next) ∙ (λ i. serial_of (joined_is i) - serial_of (sym known_is i))

    all : length (dict_at after d).pairs ≡ length_of (joined (known_state d v).content (known_state e v).content)
    all = ap (λ (z : Content). length (dict_of z).pairs) (left_at (content.Dict empty_dict)) ∙ ap length_of joined_is

    had : table_at found.tables d ≡ (known_state d v).table
    had = table_is d v pairs low may.locked known_is found has

    takes : takes_in found called ≡ join_takes (known_state d v) (known_state e v).content
    takes =
        let count : length news.pairs ≡ length pairs.pairs + (news.next - pairs.next) = update_length pairs others.pairs in
        let c = all ∙ (ap length_of (sym joined_is) ∙ count) in
        let t1 = had in
        let d1 : (dict_at after d).next - (dict_at found.world d).next ≡ news.next - pairs.next = λ i. (dict_of (left_at (content.Dict empty_dict) i)).next - (one i).next in
        unsplit_takes (table_at found.tables d) (dict.Update e) (dict_at found.world d) (dict_at after d) (has.unsplit d)
        ∙ ((λ i. if outgrows_dict (t1 i) (d1 i) then Some (dict_class (c i)) else None) ∙ (λ i. keys_take (sym known_is i) (known_state d v).table (serial_of (joined (sym known_is i) (sym other_known i)) - serial_of (sym known_is i))))

    left_is : state_at (after_stored found called) d ≡ joined_state (known_state d v) (known_state e v).content
    left_is =
        let c = left_at (content.List []) ∙ joined_is in
        let t1 = had in
        let n = drawn in
        let a = all in
        let class = takes in
        let table : table_at (after_stored found called).tables d ≡ grown_table (known_state d v).table (join_takes (known_state d v) (known_state e v).content) (new_keys (known_state d v).content (known_state e v).content) (length_of (joined (known_state d v).content (known_state e v).content)) =
        ap (λ (z : List TableUse). table_at z d) (unsplit_leaves found.tables d (dict.Update e) (dict_at found.world d) (dict_at after d) (takes_in found called) (has.unsplit d))
        ∙ (get_or-set_same found.tables d (grown_table (table_at found.tables d) (takes_in found called) ((dict_at after d).next - (dict_at found.world d).next) (length (dict_at after d).pairs)) no_table (many_tables d v pairs low may.locked known_is found has)
        ∙ (λ i. grown_table (t1 i) (class i) (n i) (a i))) in
        λ i. record { content = c i; table = table i }

  pub update_joins : JoinsKeys d e called v
  update_joins = record {
    write = refl;
    changed = refl;
    words = tt;
    locks = named_locked d (Some e) v.log may.locked other.locked;
    replied = λ found has. refl;
    declared = λ found has. record {
      one = declared_at found.world d (content.Dict pairs) (many d v pairs low may.locked known_is found has) (there d v pairs low may.locked known_is found has);
      both = declared_at found.world e (content.Dict others) (many e v others other_low other.locked other_known found has) (there e v others other_low other.locked other_known found has);
      room = tt;
    };
    lacks = λ found has. record { adds = refl; raises_nothing = refl };
    over = over;
    takes = takes;
    left_is = left_is;
  }
