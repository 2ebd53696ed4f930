-- What a copy of one dict to another one leaves of that one, in the words of the plain containers.
use Rattle.std.proofs.Common.{◌≡◌, ℕ, ◌<◌, ◌≤◌, le-ltb, Bool, true, false, List, [], ◌∷◌, map, length, Some, refl, sym, ap, ◌∙◌, subst, inl, inr, get_or-set_same, get_or-set_other}
use Rattle.std.specs.Prelude.{◌==◌, ◌||◌, slice_index_or, if◌then◌else◌}
use Rattle.std.specs.List.{list_any}
use Rattle.std.proofs.lemmas.Bool.{cases_eq}
use Rattle.ft_model.specs.declared.call.Call.{Call}
use Rattle.ft_model.specs.declared.call.Call.TheVariants as call
use Rattle.ft_model.specs.declared.call.DictCall.TheVariants as dict
use Rattle.ft_model.specs.declared.content.Content.{Content}
use Rattle.ft_model.specs.declared.content.Content.TheVariants as content
use Rattle.ft_model.specs.declared.script.Kind.TheVariants as kind
use Rattle.ft_model.specs.Answers.{after_write}
use Rattle.ft_model.specs.Classes.{most_pairs}
use Rattle.ft_model.specs.Contents.{DictContent, dict_copy}
use Rattle.ft_model.specs.TableUses.{StoredWorld, copy_leaves, copy_takes, no_table, passes_cap, takes_in, would_pass, after_stored, TableUse, table_at}
use Rattle.ft_model.specs.Worlds.{dict_at, length_of}
use Rattle.ft_model.proofs.Copies.{length-pairs_from}
use Rattle.ft_layout.specs.Containers.{StandsAs}
use Rattle.ft_trace.specs.declared.Shape.{Shape}
use Rattle.ft_trace.specs.declared.View.{View}
use Rattle.ft_trace.specs.Addresses.{container_count}
use Rattle.ft_trace.specs.Holds.{held_unboxed, known_state}
use Rattle.ft_trace.specs.Traces.{IsReachable}
use Rattle.ft_trace.specs.ContainerStates.{state_at, kind_in}
use Rattle.ft_trace.proofs.Known.{declared_at}
use Rattle.ft_trace.proofs.Naming.{named_locked}
use Rattle.ft_bank.specs.WriteSteps.{MayHave}
use Rattle.ft_search.specs.OneEntryWrites.{MayWriteEntries}
use Rattle.ft_replacing.specs.Replacing.{Replaces, copied, replaced_table}
use Rattle.ft_replacing.proofs.Replaced.{pairs_few}
use Rattle.ft_dict.proofs.Deleted.{known_dict}
use Rattle.ft_dict.proofs.Leaving.{dict_is, many, many_tables, there}
use Rattle.ft_model.proofs.SplitDicts.{unsplit_takes, unsplit_leaves}

module _ (k : Shape) (d e : ℕ) (v : View) (shape : v.shape ≡ k) (possible : ∥ IsReachable v ∥₁) (may : MayWriteEntries k d v) (other : MayWriteEntries k e v) (is : kind_in k.starts d ≡ kind.Dict) (other_is : kind_in k.starts e ≡ kind.Dict) where
  abbrev called : Call
  called = call.Dict d (dict.CopyTo e)

  one : (pairs : DictContent) × ((known_state d v).content ≡ content.Dict pairs) × (d < container_count v.shape)
  one = known_dict k v d shape possible may is

  two : (pairs : DictContent) × ((known_state e v).content ≡ content.Dict pairs) × (e < container_count v.shape)
  two = known_dict k v e shape possible other other_is

  abbrev pairs : DictContent
  pairs = one.0

  abbrev given : DictContent
  given = two.0

  abbrev left : Content
  left = content.Dict (dict_copy given pairs.pairs)

  few : length pairs.pairs ≤ most_pairs
  few =
      pairs_few k.texts (held_unboxed d v).block (0 ∷ 0 ∷ (held_unboxed d v).table) (known_state d v).table pairs
      (subst (λ (z : Content). StandsAs k.texts (held_unboxed d v).block (0 ∷ 0 ∷ (held_unboxed d v).table) (known_state d v).table z) one.1 may.stands)

  long : length_of left ≡ length pairs.pairs
  long = length-pairs_from given.next pairs.pairs

  module _ (stored : StoredWorld) (has : MayHave v stored) where
    abbrev world : List Content
    world = stored.world

    abbrev after : List Content
    after = after_write world called

    first : dict_at world d ≡ pairs
    first = dict_is d v pairs one.2 may.locked one.1 stored has

    second : dict_at world e ≡ given
    second = dict_is e v given two.2 other.locked two.1 stored has

    at_second : (any : Content) → slice_index_or after e any ≡ left
    at_second any =
        get_or-set_same world e (content.Dict (dict_copy (dict_at world e) (dict_at world d).pairs)) any (many e v given two.2 other.locked two.1 stored has)
        ∙ (λ i. content.Dict (dict_copy (second i) (first i).pairs))

    pass_second : passes_cap (slice_index_or after e (content.List [])) ≡ false
    pass_second = ap passes_cap (at_second (content.List [])) ∙ le-ltb most_pairs (length_of left) (subst (λ (n : ℕ). n ≤ most_pairs) (sym long) few)

    pass_first : passes_cap (slice_index_or after d (content.List [])) ≡ false
    pass_first = elim (cases_eq d e) [
      | inl same ↦ subst (λ (n : ℕ). passes_cap (slice_index_or after n (content.List [])) ≡ false) (sym same) pass_second
      | inr ne ↦
          ap passes_cap
          (get_or-set_other world e d (content.Dict (dict_copy (dict_at world e) (dict_at world d).pairs)) (content.List []) ne
          ∙ there d v pairs one.2 may.locked one.1 stored has)
          ∙ le-ltb most_pairs (length pairs.pairs) few
    ]

    none_passes : (b : Bool) → list_any passes_cap (map (λ place. slice_index_or after place (content.List [])) (if b then d ∷ [] else d ∷ e ∷ [])) ≡ false
    none_passes true = (λ i. pass_first i || false)
    none_passes false = (λ i. pass_first i || (pass_second i || false))

    passes_not : would_pass world called ≡ false
    passes_not = none_passes (d == e)

    takes : takes_in stored called ≡ copy_takes (length pairs.pairs)
    takes =
        unsplit_takes (table_at stored.tables d) (dict.CopyTo e) (dict_at world d) (dict_at after d) (has.unsplit d)
        ∙ ap (λ (z : DictContent). copy_takes (length z.pairs)) first

    kept : state_at (after_stored stored called) e ≡ record { content = left; table = copy_leaves (length pairs.pairs) }
    kept =
        let c = at_second (content.List []) in
        let t =
        ap (λ (z : List TableUse). table_at z e) (unsplit_leaves stored.tables d (dict.CopyTo e) (dict_at world d) (dict_at after d) (takes_in stored called) (has.unsplit d))
        ∙ (get_or-set_same stored.tables e (copy_leaves (length (dict_at world d).pairs)) no_table (many_tables e v given two.2 other.locked two.1 stored has) ∙ ap (λ (z : DictContent). copy_leaves (length z.pairs)) first) in
        λ i. record { content = c i; table = t i }

  copies_by : Replaces e called left (copy_takes (length pairs.pairs)) v
  copies_by = record {
    write = refl;
    changed = refl;
    words = tt;
    locks = named_locked d (Some e) v.log may.locked other.locked;
    empties = refl;
    replied = λ stored has. refl;
    declared = λ stored has. record {
      one = declared_at stored.world d (content.Dict pairs) (many d v pairs one.2 may.locked one.1 stored has) (there d v pairs one.2 may.locked one.1 stored has);
      both = declared_at stored.world e (content.Dict given) (many e v given two.2 other.locked two.1 stored has) (there e v given two.2 other.locked two.1 stored has);
      room = tt;
    };
    lacks = λ stored has. record { adds = refl; raises_nothing = refl };
    fits = passes_not;
    takes_is = takes;
    left_is = λ stored has. kept stored has ∙ ap (λ (n : ℕ). record { content = left; table = replaced_table (copy_takes (length pairs.pairs)) n }) (sym long);
  }

  pub copies : Replaces e called (copied (known_state e v).content (known_state d v).content) (copy_takes (length_of (known_state d v).content)) v
  copies = subst (λ (z : Content × Content). Replaces e called (copied z.0 z.1) (copy_takes (length_of z.1)) v) (λ i. (sym two.1 i, sym one.1 i)) copies_by
