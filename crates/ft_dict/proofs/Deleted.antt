-- What calls that take a key out of a dict leave of it and reply.
use Rattle.std.proofs.lemmas.List.{length-map}
use Rattle.std.proofs.Common.{◌≡◌, ℕ, ◌+◌, ◌<◌, Bool, true, false, [], ◌∷◌, ◌++◌, length, Option, Some, None, refl, sym, ap, ◌∙◌, subst, inr}
use Rattle.std.specs.Prelude.{is_some, if◌then◌else◌}
use Rattle.std.specs.Option.{option_map_or}
use Rattle.ft_model.specs.declared.call.Call.TheVariants as call
use Rattle.ft_model.specs.declared.call.DictCall.TheVariants as dict
use Rattle.ft_model.specs.declared.content.Content.{Content}
use Rattle.ft_model.specs.declared.content.Content.TheVariants as content
use Rattle.ft_model.specs.declared.content.DictPair.{DictPair}
use Rattle.ft_model.specs.declared.data.Key.{Key}
use Rattle.ft_model.specs.declared.data.Value.{Value}
use Rattle.ft_model.specs.declared.reply.Reply.TheVariants as reply
use Rattle.ft_model.specs.declared.reply.Raise.TheVariants as raise
use Rattle.ft_model.specs.Answers.{puts, shows}
use Rattle.ft_model.specs.Contents.{DictContent, dict_get, dict_del, dict_set, has_key, is_at, with_value}
use Rattle.ft_model.specs.TableUses.{StoredWorld}
use Rattle.ft_model.specs.Worlds.{no_hands}
use Rattle.ft_layout.specs.Words.{FitsKey}
use Rattle.ft_model.specs.declared.script.Kind.TheVariants as kind
use Rattle.ft_trace.specs.declared.Shape.{Shape}
use Rattle.ft_trace.specs.declared.View.{View}
use Rattle.ft_trace.specs.Traces.{IsReachable}
use Rattle.ft_trace.specs.Acts.{has_lock}
use Rattle.ft_trace.specs.Addresses.{container_count}
use Rattle.ft_trace.specs.FitCalls.{FitsValue}
use Rattle.ft_trace.specs.Holds.{known_state}
use Rattle.ft_trace.specs.Kinds.{under}
use Rattle.ft_trace.specs.ContainerStates.{ContainerState, kind_in}
use Rattle.ft_trace.proofs.LookReplies as looked
use Rattle.ft_trace.proofs.SameKeys.{any_found}
use Rattle.ft_bank.specs.WriteSteps.{MayHave}
use Rattle.ft_search.specs.MadeCalls.{IsShownBy}
use Rattle.ft_search.specs.Held.{IsHeldAt}
use Rattle.ft_search.specs.OneEntryWrites.{Leaves, MayWriteEntries, with_value_at, without_key}
use Rattle.ft_search.proofs.FoundInContents.{dict_known}
use Rattle.ft_dict.specs.Locked.{HasValue}
use Rattle.ft_dict.proofs.Leaving.{dict_is, each_fits, leaves_same, leaves_stay, replies, shows_puts}
use Rattle.ft_dict.proofs.Reading.{got, not_found, some_words}

-- a pass that may write a dict knows that it is one
pub known_dict : (k : Shape) (v : View) (d : ℕ) → v.shape ≡ k → ∥ IsReachable v ∥₁ → MayWriteEntries k d v → kind_in k.starts d ≡ kind.Dict → (pairs : DictContent) × ((known_state d v).content ≡ content.Dict pairs) × (d < container_count v.shape)
known_dict k v d shape possible may is =
    let p = dict_known v d possible may.locked (ap (λ (z : Shape). kind_in z.starts d) shape ∙ is) in
    (p.0, p.1, subst (λ (z : Shape). d < container_count z) (sym shape) may.container)

module _ (d : ℕ) (v : View) (pairs : DictContent) (low : d < container_count v.shape) (mine : has_lock d v.log ≡ true) (is_dict : (known_state d v).content ≡ content.Dict pairs) (key : Key) (fits : FitsKey key) where
  -- a key that was found
  pub has_there : (kind payload : ℕ) → IsHeldAt (content.Dict pairs) key (Some (kind, payload)) → (stored : StoredWorld) → MayHave v stored → has_key pairs.pairs key ≡ true
  has_there kind payload held stored has =
      let p = looked.there pairs key fits (each_fits d v pairs low mine is_dict stored has) (some_words (under (content.Dict pairs) key) kind payload held.0 held.1) in
      any_found (is_at key) pairs.pairs ∙ ap (λ (z : Option DictPair). is_some z) p.1

  pub value_there : (value : Value) → HasValue (known_state d v).content key (Some value) → (stored : StoredWorld) → MayHave v stored → dict_get pairs.pairs key ≡ Some value
  value_there value h stored has = ap (λ (z : DictContent). dict_get z.pairs key) (sym (dict_is d v pairs low mine is_dict stored has)) ∙ got v d key (Some value) low mine fits stored has (Some value) h

  -- what a deletion leaves, as writes of entries have it
  abbrev left : ContainerState
  left = record { content = without_key (known_state d v).content key; table = (known_state d v).table }

  left_is : record { content = content.Dict (dict_del pairs key); table = (known_state d v).table } ≡ left
  left_is = λ i. record { content = without_key (sym is_dict i) key; table = (known_state d v).table }

  pub del_leaves : (kind payload : ℕ) → IsHeldAt (known_state d v).content key (Some (kind, payload)) → Leaves d (call.Dict d (dict.Del key)) reply.Done left v
  del_leaves kind payload held =
      let h = subst (λ (z : Content). IsHeldAt z key (Some (kind, payload))) is_dict held in
      subst (λ (z : ContainerState). Leaves d (call.Dict d (dict.Del key)) reply.Done z v) left_is
      (leaves_stay d v pairs (dict_del pairs key) (dict.Del key) reply.Done low mine is_dict refl refl refl refl refl fits
      (λ stored has. ap (λ (b : Bool). if b then puts stored.world no_hands d (content.Dict (dict_del pairs key)) reply.Done else shows stored.world no_hands (reply.Raised raise.NoKey)) (has_there kind payload h stored has)))

  pub pop_leaves : (value : Value) → HasValue (known_state d v).content key (Some value) → Leaves d (call.Dict d (dict.Pop key)) (reply.Value value) left v
  pop_leaves value h =
      subst (λ (z : ContainerState). Leaves d (call.Dict d (dict.Pop key)) (reply.Value value) z v) left_is
      (leaves_stay d v pairs (dict_del pairs key) (dict.Pop key) (reply.Value value) low mine is_dict refl refl refl refl refl fits
      (λ stored has. ap (λ (z : Option Value). option_map_or (λ value. puts stored.world no_hands d (content.Dict (dict_del pairs key)) (reply.Value value)) z (shows stored.world no_hands (reply.Raised raise.NoKey))) (value_there value h stored has)))

  pub popd_leaves : (default value : Value) → FitsValue default → HasValue (known_state d v).content key (Some value) → Leaves d (call.Dict d (dict.PopOr key default)) (reply.Value value) left v
  popd_leaves default value fit h =
      subst (λ (z : ContainerState). Leaves d (call.Dict d (dict.PopOr key default)) (reply.Value value) z v) left_is
      (leaves_stay d v pairs (dict_del pairs key) (dict.PopOr key default) (reply.Value value) low mine is_dict refl refl refl refl refl (fits, fit)
      (λ stored has. ap (λ (z : Option Value). option_map_or (λ value. puts stored.world no_hands d (content.Dict (dict_del pairs key)) (reply.Value value)) z (shows stored.world no_hands (reply.Value default))) (value_there value h stored has)))

  -- a key that isn't there
  module _ (none : IsHeldAt (known_state d v).content key None) where
    missing : has_key pairs.pairs key ≡ false
    missing = subst (λ (z : Content). IsHeldAt z key None) is_dict none

    pub default_leaves : (default : Value) → FitsValue default → Leaves d (call.Dict d (dict.PopOr key default)) (reply.Value default) (known_state d v) v
    default_leaves default fit =
        let same : record { content = content.Dict pairs; table = (known_state d v).table } ≡ known_state d v = λ i. record { content = sym is_dict i; table = (known_state d v).table } in
        subst (λ (z : ContainerState). Leaves d (call.Dict d (dict.PopOr key default)) (reply.Value default) z v) same
        (leaves_stay d v pairs pairs (dict.PopOr key default) (reply.Value default) low mine is_dict refl refl refl refl refl (fits, fit)
        (λ stored has.
        ap (λ (z : Option Value). option_map_or (λ value. puts stored.world no_hands d (content.Dict (dict_del pairs key)) (reply.Value value)) z (shows stored.world no_hands (reply.Value default))) (not_found pairs.pairs key missing)
        ∙ shows_puts d v pairs low mine is_dict stored has (reply.Value default)))

    pub del_raises : IsShownBy (call.Dict d (dict.Del key)) (reply.Raised raise.NoKey) v
    del_raises = record {
      read = refl;
      cursor = refl;
      plain = λ stored is. inr (sym is);
      replied = λ stored has.
          replies d v pairs low mine is_dict stored has (dict.Del key) (reply.Raised raise.NoKey) (shows stored.world no_hands (reply.Raised raise.NoKey))
          (ap (λ (b : Bool). if b then puts stored.world no_hands d (content.Dict (dict_del pairs key)) reply.Done else shows stored.world no_hands (reply.Raised raise.NoKey)) missing) refl;
      cause = λ stored log n. refl;
    }

    pub pop_raises : IsShownBy (call.Dict d (dict.Pop key)) (reply.Raised raise.NoKey) v
    pop_raises = record {
      read = refl;
      cursor = refl;
      plain = λ stored is. inr (sym is);
      replied = λ stored has.
          replies d v pairs low mine is_dict stored has (dict.Pop key) (reply.Raised raise.NoKey) (shows stored.world no_hands (reply.Raised raise.NoKey))
          (ap (λ (z : Option Value). option_map_or (λ value. puts stored.world no_hands d (content.Dict (dict_del pairs key)) (reply.Value value)) z (shows stored.world no_hands (reply.Raised raise.NoKey))) (not_found pairs.pairs key missing)) refl;
      cause = λ stored log n. refl;
    }

-- ---- calls that put a value at a key that is there

module _ (d : ℕ) (v : View) (pairs : DictContent) (low : d < container_count v.shape) (mine : has_lock d v.log ≡ true) (is_dict : (known_state d v).content ≡ content.Dict pairs) (key : Key) (fits : FitsKey key) where
  pub set_same : (value : Value) → has_key pairs.pairs key ≡ true → ((dict_set pairs key value).next ≡ pairs.next) × (length (dict_set pairs key value).pairs ≡ length pairs.pairs)
  set_same value there =
      let other : DictContent = record { next = pairs.next + 1; pairs = pairs.pairs ++ record { serial = pairs.next; key = key; value = value } ∷ [] } in
      let same : DictContent = record { next = pairs.next; pairs = with_value pairs.pairs key value } in (
        ap (λ (b : Bool). (if b then same else other).next) there,
        ap (λ (b : Bool). length (if b then same else other).pairs) there ∙ length-map pairs.pairs _,
      )

  pub set_leaves : (value : Value) (kind payload : ℕ) → FitsValue value → IsHeldAt (known_state d v).content key (Some (kind, payload)) → Leaves d (call.Dict d (dict.Set key value)) reply.Done (record { content = with_value_at (known_state d v).content key value; table = (known_state d v).table }) v
  set_leaves value kind payload fit held =
      let h = subst (λ (z : Content). IsHeldAt z key (Some (kind, payload))) is_dict held in
      let same : record { content = content.Dict (dict_set pairs key value); table = (known_state d v).table } ≡ record { content = with_value_at (known_state d v).content key value; table = (known_state d v).table } = λ i. record { content = with_value_at (sym is_dict i) key value; table = (known_state d v).table } in
      subst (λ (z : ContainerState). Leaves d (call.Dict d (dict.Set key value)) reply.Done z v) same
      (leaves_same d v pairs (dict_set pairs key value) (dict.Set key value) reply.Done low mine is_dict refl refl refl refl refl (fits, fit)
      (λ stored has. let s = set_same value (has_there d v pairs low mine is_dict key fits kind payload h stored has) in (s.0, s.1, refl)))

  pub setdefault_leaves : (default value : Value) → FitsValue default → HasValue (known_state d v).content key (Some value) → Leaves d (call.Dict d (dict.SetDefault key default)) (reply.Value value) (known_state d v) v
  setdefault_leaves default value fit h =
      let same : record { content = content.Dict pairs; table = (known_state d v).table } ≡ known_state d v = λ i. record { content = sym is_dict i; table = (known_state d v).table } in
      subst (λ (z : ContainerState). Leaves d (call.Dict d (dict.SetDefault key default)) (reply.Value value) z v) same
      (leaves_same d v pairs pairs (dict.SetDefault key default) (reply.Value value) low mine is_dict refl refl refl refl refl (fits, fit)
      (λ stored has. (
        refl,
        refl,
        ap (λ (z : Option Value). option_map_or (λ value. shows stored.world no_hands (reply.Value value)) z (puts stored.world no_hands d (content.Dict (dict_set pairs key default)) (reply.Value default))) (value_there d v pairs low mine is_dict key fits value h stored has)
            ∙ shows_puts d v pairs low mine is_dict stored has (reply.Value value),
      )))
