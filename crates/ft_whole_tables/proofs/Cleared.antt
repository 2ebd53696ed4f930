-- What the plain containers answer to the call that clears a dict or a set.
use Rattle.std.proofs.Common.{◌≡◌, ℕ, ◌<◌, true, List, [], length, None, refl, sym, ap, ◌∙◌, subst, get_or-set_same}
use Rattle.std.specs.Prelude.{slice_index_or}
use Rattle.ft_keys.specs.declared.walk.Way.{Way}
use Rattle.ft_keys.specs.declared.walk.Way.TheVariants as way
use Rattle.ft_model.specs.declared.content.Content.{Content}
use Rattle.ft_model.specs.declared.content.Content.TheVariants as content
use Rattle.ft_model.specs.declared.reply.Reply.TheVariants as reply
use Rattle.ft_model.specs.declared.script.Kind.{Kind}
use Rattle.ft_model.specs.declared.script.Kind.TheVariants as kind
use Rattle.ft_model.specs.Answers.{after_write}
use Rattle.ft_model.specs.Contents.{DictContent, SetContent, dict_clear, set_clear}
use Rattle.ft_model.specs.TableUses.{StoredWorld, after_stored, no_table, table_at, TableUse, takes_in}
use Rattle.ft_model.specs.Worlds.{dict_at, dict_of, kind_of, set_at, set_of, IsOfKind}
use Rattle.ft_trace.specs.declared.Shape.{Shape}
use Rattle.ft_trace.specs.declared.View.{View}
use Rattle.ft_trace.specs.Addresses.{container_count}
use Rattle.ft_trace.specs.Holds.{known_state}
use Rattle.ft_trace.specs.Traces.{IsReachable}
use Rattle.ft_trace.specs.ContainerStates.{ContainerState, kind_in, state_at}
use Rattle.ft_trace.proofs.Known.{declared_at}
use Rattle.ft_trace.proofs.Naming.{named_locked}
use Rattle.ft_bank.specs.WriteSteps.{MayHave}
use Rattle.ft_search.specs.OneEntryWrites.{Leaves, MayWriteEntries}
use Rattle.ft_search.specs.Rounds.{kind_by}
use Rattle.ft_trace.specs.ContainerStates.{may_empty}
use Rattle.ft_whole_tables.specs.Clearing.{clear_call, cleared, cleared_kept}
use Rattle.ft_whole_tables.proofs.KnownContents.{dict_there, had_kind, set_there}
use Rattle.ft_model.specs.declared.call.DictCall.TheVariants as dict
use Rattle.ft_model.proofs.SplitDicts.{unsplit_leaves}

pub clear_empties : (way : Way) (c : ℕ) → may_empty (clear_call way c) ≡ true
clear_empties way.Dict c = refl
clear_empties way.Set c = refl

-- ---- what is left

cleared_dict : (x : Content) → kind_of x ≡ kind.Dict → content.Dict (dict_clear (dict_of x)) ≡ cleared x
cleared_dict (content.Dict dict) is = refl
cleared_dict (content.List values) is = absurd (cc)
cleared_dict (content.Deque deque) is = absurd (cc)
cleared_dict (content.Set set) is = absurd (cc)

cleared_set : (x : Content) → kind_of x ≡ kind.Set → content.Set (set_clear (set_of x)) ≡ cleared x
cleared_set (content.Dict dict) is = absurd (cc)
cleared_set (content.List values) is = absurd (cc)
cleared_set (content.Deque deque) is = absurd (cc)
cleared_set (content.Set set) is = refl

content_left : (way : Way) (world : List Content) (c : ℕ) → c < length world → kind_of (slice_index_or world c (content.List [])) ≡ kind_by way → slice_index_or (after_write world (clear_call way c)) c (content.List []) ≡ cleared (slice_index_or world c (content.List []))
content_left way.Dict world c low is =
    get_or-set_same world c (content.Dict (dict_clear (dict_at world c))) (content.List []) low
    ∙ (ap (λ (z : DictContent). content.Dict (dict_clear z)) (dict_there world c is) ∙ cleared_dict (slice_index_or world c (content.List [])) is)
content_left way.Set world c low is =
    get_or-set_same world c (content.Set (set_clear (set_at world c))) (content.List []) low
    ∙ (ap (λ (z : SetContent). content.Set (set_clear z)) (set_there world c is) ∙ cleared_set (slice_index_or world c (content.List [])) is)

table_left : (way : Way) (stored : StoredWorld) (c : ℕ) → (table_at stored.tables c).keys ≡ [] → c < length stored.tables → table_at (after_stored stored (clear_call way c)).tables c ≡ no_table
table_left way.Dict stored c none low =
    let old = dict_at stored.world c in
    let new = dict_at (after_write stored.world (clear_call way.Dict c)) c in
    ap (λ (z : List TableUse). table_at z c) (unsplit_leaves stored.tables c dict.Clear old new (takes_in stored (clear_call way.Dict c)) none) ∙ get_or-set_same stored.tables c no_table no_table low
table_left way.Set stored c none low = get_or-set_same stored.tables c no_table no_table low

-- ---- the write

module _ (way : Way) (k : Shape) (c : ℕ) (v : View) (shape : v.shape ≡ k) (possible : ∥ IsReachable v ∥₁) (may : MayWriteEntries k c v) (is : kind_in k.starts c ≡ kind_by way) (stored : StoredWorld) (has : MayHave v stored) where
  low : c < container_count v.shape
  low = subst (λ (z : Shape). c < container_count z) (sym shape) may.container

  many : c < length stored.world
  many = subst (λ (n : ℕ). c < n) (sym has.containers) low

  many_tables : c < length stored.tables
  many_tables = subst (λ (n : ℕ). c < n) (sym (has.order.as_many ∙ has.containers)) low

  here : kind_of (state_at stored c).content ≡ kind_by way
  here = had_kind k c v shape possible may stored has ∙ is

  named : IsOfKind stored.world (kind_by way) c
  named = subst (λ (z : Kind). IsOfKind stored.world z c) here (declared_at stored.world c (state_at stored c).content many refl)

  left_is : state_at (after_stored stored (clear_call way c)) c ≡ cleared_kept (known_state c v)
  left_is =
      let content = content_left way stored.world c many here ∙ ap (λ (z : ContainerState). cleared z.content) (has.agrees c low may.locked) in
      let table = table_left way stored c (has.unsplit c) many_tables in
      λ i. record { content = content i; table = table i }

pub clear_leaves : (way : Way) (k : Shape) (c : ℕ) (v : View) → v.shape ≡ k → ∥ IsReachable v ∥₁ → MayWriteEntries k c v → kind_in k.starts c ≡ kind_by way → Leaves c (clear_call way c) reply.Done (cleared_kept (known_state c v)) v
clear_leaves way.Dict k c v shape possible may is = record {
  write = refl;
  changed = refl;
  words = tt;
  locks = named_locked c None v.log may.locked tt;
  replied = λ stored has. refl;
  declared = λ stored has. record { one = named way.Dict k c v shape possible may is stored has; both = tt; room = tt };
  fits = λ stored has. refl;
  left_is = left_is way.Dict k c v shape possible may is;
}
clear_leaves way.Set k c v shape possible may is = record {
  write = refl;
  changed = refl;
  words = tt;
  locks = named_locked c None v.log may.locked tt;
  replied = λ stored has. refl;
  declared = λ stored has. record { one = named way.Set k c v shape possible may is stored has; both = tt; room = tt };
  fits = λ stored has. refl;
  left_is = left_is way.Set k c v shape possible may is;
}
