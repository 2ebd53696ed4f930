-- What calls on two sets leave of the first one, in the words of the plain containers.
use Rattle.std.proofs.Common.{◌≡◌, ℕ, ◌<◌, true, false, [], Some, refl, sym, ◌∙◌, subst, get_or-set_same}
use Rattle.std.specs.Prelude.{slice_index_or, slice_set}
use Rattle.ft_model.specs.declared.call.Call.TheVariants as call
use Rattle.ft_model.specs.declared.call.SetCall.TheVariants as set
use Rattle.ft_model.specs.declared.content.Content.TheVariants as content
use Rattle.ft_model.specs.declared.reply.Reply.TheVariants as reply
use Rattle.ft_model.specs.declared.script.Kind.TheVariants as kind
use Rattle.ft_model.specs.Contents.{SetContent, set_and, set_sub}
use Rattle.ft_model.specs.TableUses.{StoredWorld}
use Rattle.ft_model.specs.Worlds.{set_at, set_of}
use Rattle.ft_trace.specs.declared.Shape.{Shape}
use Rattle.ft_trace.specs.declared.View.{View}
use Rattle.ft_trace.specs.Addresses.{container_count}
use Rattle.ft_trace.specs.Holds.{known_state}
use Rattle.ft_trace.specs.Traces.{IsReachable}
use Rattle.ft_trace.specs.ContainerStates.{kind_in}
use Rattle.ft_trace.proofs.Known.{declared_at}
use Rattle.ft_trace.proofs.Naming.{named_locked}
use Rattle.ft_bank.specs.WriteSteps.{MayHave}
use Rattle.ft_merging.specs.Thinning.{thinned_state}
use Rattle.ft_merging.proofs.ThinningEnds.{is_set}
use Rattle.ft_search.specs.OneEntryWrites.{Leaves, MayWriteEntries}
use Rattle.ft_set.proofs.Leaving.{many, set_is, table_is, there}

module _ (k : Shape) (s t : ℕ) (v : View) (shape : v.shape ≡ k) (possible : ∥ IsReachable v ∥₁) (may : MayWriteEntries k s v) (other : MayWriteEntries k t v) (is : kind_in k.starts s ≡ kind.Set) (other_is : kind_in k.starts t ≡ kind.Set) where
  abbrev elements : SetContent
  elements = set_of (known_state s v).content

  abbrev others : SetContent
  others = set_of (known_state t v).content

  low : s < container_count v.shape
  low = subst (λ (z : Shape). s < container_count z) (sym shape) may.container

  other_low : t < container_count v.shape
  other_low = subst (λ (z : Shape). t < container_count z) (sym shape) other.container

  known_is : (known_state s v).content ≡ content.Set elements
  known_is = is_set k v s shape possible may.locked is

  other_known : (known_state t v).content ≡ content.Set others
  other_known = is_set k v t shape possible other.locked other_is

  module _ (stored : StoredWorld) (has : MayHave v stored) where
    one : set_at stored.world s ≡ elements
    one = set_is s v elements low may.locked known_is stored has

    two : set_at stored.world t ≡ others
    two = set_is t v others other_low other.locked other_known stored has

    -- where the first one stands, once it has this
    pub content_then : (f : SetContent → SetContent → SetContent) → slice_index_or (slice_set stored.world s (content.Set (f (set_at stored.world s) (set_at stored.world t)))) s (content.List []) ≡ content.Set (f elements others)
    content_then f =
        get_or-set_same stored.world s (content.Set (f (set_at stored.world s) (set_at stored.world t))) (content.List []) (many s v elements low may.locked known_is stored has)
        ∙ (λ i. content.Set (f (one i) (two i)))

  -- `s &= t`
  pub and_leaves : Leaves s (call.Set s (set.And t)) reply.Done (thinned_state true (known_state t v) (known_state s v)) v
  and_leaves = record {
    write = refl;
    changed = refl;
    words = tt;
    locks = named_locked s (Some t) v.log may.locked other.locked;
    replied = λ stored has. refl;
    declared = λ stored has. record {
      one = declared_at stored.world s (content.Set elements) (many s v elements low may.locked known_is stored has) (there s v elements low may.locked known_is stored has);
      both = declared_at stored.world t (content.Set others) (many t v others other_low other.locked other_known stored has) (there t v others other_low other.locked other_known stored has);
      room = tt;
    };
    fits = λ stored has. refl;
    left_is = λ stored has.
        let c = content_then stored has (λ x y. set_and x y.elements) in
        let e = table_is s v elements low may.locked known_is stored has in
        λ i. record { content = c i; table = e i };
  }

  -- `s -= t`
  pub sub_leaves : Leaves s (call.Set s (set.Sub t)) reply.Done (thinned_state false (known_state t v) (known_state s v)) v
  sub_leaves = record {
    write = refl;
    changed = refl;
    words = tt;
    locks = named_locked s (Some t) v.log may.locked other.locked;
    replied = λ stored has. refl;
    declared = λ stored has. record {
      one = declared_at stored.world s (content.Set elements) (many s v elements low may.locked known_is stored has) (there s v elements low may.locked known_is stored has);
      both = declared_at stored.world t (content.Set others) (many t v others other_low other.locked other_known stored has) (there t v others other_low other.locked other_known stored has);
      room = tt;
    };
    fits = λ stored has. refl;
    left_is = λ stored has.
        let c = content_then stored has (λ x y. set_sub x y.elements) in
        let e = table_is s v elements low may.locked known_is stored has in
        λ i. record { content = c i; table = e i };
  }
