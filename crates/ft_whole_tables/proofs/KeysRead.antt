-- From what a pass with the lock of a dict or a set reads at a key to what it answers whether the key is there.
use Rattle.std.proofs.Common.{◌≡◌, ◌≢◌, ◌<◌, ℕ, true, List, [], ◌∷◌, Option, Some, None, refl, inr, sym, ap, ◌∙◌, subst}
use Rattle.std.specs.Prelude.{is_some}
use Rattle.ft_keys.specs.declared.walk.Way.{Way}
use Rattle.ft_keys.specs.declared.walk.Way.TheVariants as way
use Rattle.ft_layout.specs.Words.{FitsKey}
use Rattle.ft_model.specs.declared.call.Call.TheVariants as call
use Rattle.ft_model.specs.declared.call.DictCall.TheVariants as dict
use Rattle.ft_model.specs.declared.call.SetCall.TheVariants as set
use Rattle.ft_model.specs.declared.content.Content.{Content}
use Rattle.ft_model.specs.declared.content.Content.TheVariants as content
use Rattle.ft_model.specs.declared.data.Key.{Key}
use Rattle.ft_model.specs.declared.reply.Reply.TheVariants as reply
use Rattle.ft_model.specs.declared.script.Kind.TheVariants as kind
use Rattle.ft_model.specs.Contents.{DictContent, SetContent, has_element, has_key, is_at}
use Rattle.ft_model.specs.TableUses.{StoredWorld}
use Rattle.ft_model.specs.Worlds.{dict_of, kind_of, set_of}
use Rattle.ft_trace.specs.declared.Act.TheVariants.{ReadCounter}
use Rattle.ft_trace.specs.declared.Shape.{Shape}
use Rattle.ft_trace.specs.declared.View.{View}
use Rattle.ft_trace.specs.Acts.{has_lock, view_after}
use Rattle.ft_trace.specs.Addresses.{container_count}
use Rattle.ft_trace.specs.FitCalls.{FitsContent}
use Rattle.ft_trace.specs.Holds.{known_state}
use Rattle.ft_trace.specs.Kinds.{under}
use Rattle.ft_trace.specs.Traces.{IsReachable}
use Rattle.ft_trace.specs.ContainerStates.{ContainerState, kind_in, reply_in, state_at}
use Rattle.ft_trace.proofs.LookReplies as looked
use Rattle.ft_trace.proofs.SameKeys.{any_found}
use Rattle.ft_bank.specs.Reads.{IsShown}
use Rattle.ft_bank.specs.Whole.{OnlyLoaded}
use Rattle.ft_bank.specs.WriteSteps.{MayHave}
use Rattle.ft_bank.proofs.KnownAfterWrites.{work_knows}
use Rattle.ft_search.specs.Held.{IsHeldAt}
use Rattle.ft_search.specs.Rounds.{kind_by}
use Rattle.ft_search.proofs.Asking.{held_shown}
use Rattle.ft_search.proofs.Changing.{kind_is}
use Rattle.ft_search.proofs.ReadMidst.{LeavesSections}
use Rattle.ft_whole_tables.specs.Membership.{has_call}
use Rattle.ft_whole_tables.proofs.KnownContents.{dict_there, set_there}

some_words : (words : List ℕ) (a b c : ℕ) → words ≡ a ∷ b ∷ c ∷ [] → words ≢ []
some_words words a b c is none = let e = sym is ∙ none in absurd (cc)

dict_has : (x : Content) (key : Key) (read : Option (ℕ × ℕ)) → kind_of x ≡ kind.Dict → FitsKey key → FitsContent x → IsHeldAt x key read → has_key (dict_of x).pairs key ≡ is_some read
dict_has (content.Dict dict) key (Some words) is fits each h = any_found (is_at key) dict.pairs ∙ ap is_some (looked.there dict key fits each (some_words (under (content.Dict dict) key) words.0 words.1 h.0 h.1)).1
dict_has (content.Dict dict) key None is fits each h = h
dict_has (content.List values) key read is fits each h = absurd h
dict_has (content.Deque deque) key read is fits each h = absurd h
dict_has (content.Set set) key read is fits each h = absurd (cc)

set_has : (x : Content) (key : Key) (read : Option (ℕ × ℕ)) → kind_of x ≡ kind.Set → FitsKey key → FitsContent x → IsHeldAt x key read → has_element (set_of x).elements key ≡ is_some read
set_has (content.Set set) key (Some words) is fits each h = looked.element_there set key fits each (some_words (under (content.Set set) key) words.0 words.1 h.0 h.1)
set_has (content.Set set) key None is fits each h = h
set_has (content.List values) key read is fits each h = absurd h
set_has (content.Deque deque) key read is fits each h = absurd h
set_has (content.Dict dict) key read is fits each h = absurd (cc)

pub has_sections : (way : Way) (c : ℕ) (key : Key) → LeavesSections (has_call way c key)
has_sections way.Dict c key = λ n l sections. refl
has_sections way.Set c key = λ n l sections. refl

module _ (k : Shape) (c : ℕ) (key : Key) (read : Option (ℕ × ℕ)) (v u : View) (shape : v.shape ≡ k) (possible : ∥ IsReachable v ∥₁) (low : c < container_count k) (locked : has_lock c v.log ≡ true) (fits : FitsKey key) (left : 0 < v.left) (loaded : OnlyLoaded v u) (held : IsHeldAt (known_state c v).content key read) (n : ℕ) where
  abbrev w : View
  w = view_after (ReadCounter n) u

  module _ (stored : StoredWorld) (may : MayHave w stored) where
    within : c < container_count w.shape
    within = subst (λ (z : Shape). c < container_count z) (sym (loaded.work.pass.shape ∙ shape)) low

    here : (state_at stored c).content ≡ (known_state c v).content
    here = ap (λ (z : ContainerState). z.content) (may.agrees c within (loaded.work.pass.locks c ∙ locked)) ∙ ap (λ (z : ContainerState). z.content) (work_knows v u c loaded.work)

    kind_here : kind_of (state_at stored c).content ≡ kind_in k.starts c
    kind_here = ap kind_of here ∙ kind_is k v c shape possible locked

    each : FitsContent (state_at stored c).content
    each = may.words c (content.List []) (subst (λ (z : ℕ). c < z) (sym may.containers) within)

    held_here : IsHeldAt (state_at stored c).content key read
    held_here = subst (λ (z : Content). IsHeldAt z key read) (sym here) held

    replied : (way : Way) → kind_in k.starts c ≡ kind_by way → reply_in stored (has_call way c key) ≡ reply.Truth (is_some read)
    replied way.Dict is =
        let at = kind_here ∙ is in
        ap (λ (z : DictContent). reply.Truth (has_key z.pairs key)) (dict_there stored.world c at) ∙ ap reply.Truth (dict_has (state_at stored c).content key read at fits each held_here)
    replied way.Set is =
        let at = kind_here ∙ is in
        ap (λ (z : SetContent). reply.Truth (has_element z.elements key)) (set_there stored.world c at) ∙ ap reply.Truth (set_has (state_at stored c).content key read at fits each held_here)

  pub has_shown : (way : Way) → kind_in k.starts c ≡ kind_by way → IsShown w (has_call way c key) (reply.Truth (is_some read)) n
  has_shown way.Dict is = held_shown v u n loaded left (call.Dict c (dict.Has key)) (reply.Truth (is_some read)) refl refl (λ stored may. inr (sym (replied stored may way.Dict is))) (λ stored. refl)
  has_shown way.Set is = held_shown v u n loaded left (call.Set c (set.Has key)) (reply.Truth (is_some read)) refl refl (λ stored may. inr (sym (replied stored may way.Set is))) (λ stored. refl)
