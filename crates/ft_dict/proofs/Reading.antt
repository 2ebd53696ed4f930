-- From what a pass with the lock of a dict reads at a key to what it may answer.
use Rattle.std.proofs.Common.{◌≡◌, ◌≢◌, ℕ, ◌<◌, true, false, cond, List, [], ◌∷◌, length, find, Option, Some, None, refl, sym, ap, ◌∙◌, subst, inr}
use Rattle.std.specs.Prelude.{slice_index, slice_index_or, option_map, ◌||◌}
use Rattle.std.specs.List.{list_any}
use Rattle.std.specs.Option.{unwrap_or}
use Rattle.ft_model.specs.Answers.{is_write}
use Rattle.ft_model.specs.Contents.{DictContent, dict_get, has_key, is_at, empty_dict}
use Rattle.ft_model.specs.Calls.{moved_cursor}
use Rattle.ft_model.specs.Histories.{IsReplied}
use Rattle.ft_model.specs.TableUses.{StoredWorld, stored_newest}
use Rattle.ft_model.specs.Worlds.{dict_of, dict_at}
use Rattle.ft_model.specs.declared.call.Call.{Call}
use Rattle.ft_model.specs.declared.call.Call.TheVariants as call
use Rattle.ft_model.specs.declared.call.DictCall.TheVariants as dict
use Rattle.ft_model.specs.declared.content.Content.TheVariants as content
use Rattle.ft_model.specs.declared.content.DictPair.{DictPair}
use Rattle.ft_model.specs.declared.data.Key.{Key}
use Rattle.ft_model.specs.declared.data.Value.{Value}
use Rattle.ft_model.specs.declared.reply.Reply.{Reply}
use Rattle.ft_model.specs.declared.reply.Reply.TheVariants as reply
use Rattle.ft_layout.specs.declared.slot.Stored.TheVariants.{Plain}
use Rattle.ft_layout.specs.Words.{FitsKey, IsStored}
use Rattle.ft_layout.proofs.WordLaws.{stored_is_one}
use Rattle.ft_trace.specs.declared.Act.TheVariants.{ReadCounter}
use Rattle.ft_trace.specs.declared.View.{View}
use Rattle.ft_trace.specs.Acts.{has_lock, view_after}
use Rattle.ft_trace.specs.Addresses.{container_count}
use Rattle.ft_trace.specs.Causes.{HasCause}
use Rattle.ft_trace.specs.FitCalls.{FitsContent}
use Rattle.ft_trace.specs.Holds.{known_state}
use Rattle.ft_trace.specs.Kinds.{under}
use Rattle.ft_trace.specs.LookReplies.{key_reply, DictReplies}
use Rattle.ft_trace.specs.Traces.{IsReachable, history}
use Rattle.ft_trace.specs.ContainerStates.{ContainerState, reply_in}
use Rattle.ft_trace.proofs.FitCalls.{contents_fit}
use Rattle.ft_trace.proofs.Held.{content_known}
use Rattle.ft_trace.proofs.Known.{at_any}
use Rattle.ft_trace.proofs.LookReplies.{replies, value_there}
use Rattle.ft_trace.proofs.Untouched.{as_many}
use Rattle.ft_bank.specs.Reads.{IsShown}
use Rattle.ft_bank.specs.Whole.{OnlyLoaded}
use Rattle.ft_bank.specs.WriteSteps.{MayHave}
use Rattle.ft_bank.proofs.KnownAfterWrites.{work_knows}
use Rattle.ft_search.proofs.Asking.{held_shown}
use Rattle.ft_dict.specs.Locked.{HasValue}

-- a key that no pair has is found at none
pub not_found : (pairs : List DictPair) (key : Key) → has_key pairs key ≡ false → dict_get pairs key ≡ None
not_found pairs key none = ap (option_map (λ (pair : DictPair). pair.value)) (missing pairs none)
  where
    missing : (pairs : List DictPair) → list_any (is_at key) pairs ≡ false → find (is_at key) pairs ≡ None
    missing [] e = refl
    missing (pair ∷ pairs) e =
        elim (is_at key pair) as (λ b. (b || list_any (is_at key) pairs) ≡ false → cond b (Some pair) (find (is_at key) pairs) ≡ None) [
          | true ↦ λ yes. absurd (cc)
          | false ↦ λ no. missing pairs no
        ] e

pub some_words : (words : List ℕ) (a b c : ℕ) → words ≡ a ∷ b ∷ c ∷ [] → words ≢ []
some_words words a b c is none = let e = sym is ∙ none in absurd (cc)

one_value : (kind payload : ℕ) (a b : Value) → IsStored kind payload (Plain a) → IsStored kind payload (Plain b) → a ≡ b
one_value kind payload a b f g = let same = stored_is_one kind payload (Plain a) (Plain b) f g in cc

-- the pairs of a dict that a pass knows fit their words
pub fit_known : (v : View) (d : ℕ) (pairs : DictContent) → IsReachable v → d < container_count v.shape → has_lock d v.log ≡ true → (known_state d v).content ≡ content.Dict pairs → FitsContent (content.Dict pairs)
fit_known v d pairs p low mine is =
    let world = (stored_newest v.shape.starts (history p.0)).world in
    let many : d < length world = subst (λ (z : ℕ). d < z) (sym (as_many v.shape.starts (history p.0))) low in
    subst FitsContent (sym (ap (λ (z : ContainerState). z.content) (content_known v d mine p.0 p.1 p.2)) ∙ is) (contents_fit v.shape p.0 p.2.0 d (content.List []) many)

-- and so the words under a key are those of a value
pub value_known : (v : View) (d : ℕ) (key : Key) (pairs : DictContent) (kind payload serial : ℕ) → IsReachable v → d < container_count v.shape → has_lock d v.log ≡ true → (known_state d v).content ≡ content.Dict pairs → FitsKey key → under (content.Dict pairs) key ≡ kind ∷ payload ∷ serial ∷ [] → (value : Value) × IsStored kind payload (Plain value)
value_known v d key pairs kind payload serial p low mine is fits words =
    let r = value_there pairs key fits (fit_known v d pairs p low mine is) (some_words (under (content.Dict pairs) key) kind payload serial words) kind payload (ap (λ (l : List ℕ). slice_index l 0) words) (ap (λ (l : List ℕ). slice_index l 1) words) in
    (r.0, r.1)

-- ---- in each stored world that the bank may have

module _ (w : View) (d : ℕ) (key : Key) (found : Option Value) (low : d < container_count w.shape) (mine : has_lock d w.log ≡ true) (fits : FitsKey key) (stored : StoredWorld) (may : MayHave w stored) where
  many : d < length stored.world
  many = subst (λ (z : ℕ). d < z) (sym may.containers) low

  there : (pairs : DictContent) → (known_state d w).content ≡ content.Dict pairs → slice_index_or stored.world d (content.List []) ≡ content.Dict pairs
  there pairs is = ap (λ (z : ContainerState). z.content) (may.agrees d low mine) ∙ is

  dict_is : (pairs : DictContent) → (known_state d w).content ≡ content.Dict pairs → dict_at stored.world d ≡ pairs
  dict_is pairs is = ap dict_of (at_any stored.world d (content.Dict empty_dict) (content.List []) many ∙ there pairs is)

  pub got : (z : Option Value) → HasValue (known_state d w).content key z → dict_get (dict_at stored.world d).pairs key ≡ z
  got (Some value) h =
      let pairs = h.0 in
      let words = h.2.3 in
      let each : FitsContent (content.Dict pairs) = subst FitsContent (there pairs h.1) (may.words d (content.List []) many) in
      let r = value_there pairs key fits each (some_words (under (content.Dict pairs) key) h.2.0 h.2.1 h.2.2 words) h.2.0 h.2.1 (ap (λ (l : List ℕ). slice_index l 0) words) (ap (λ (l : List ℕ). slice_index l 1) words) in
      ap (λ (z : DictContent). dict_get z.pairs key) (dict_is pairs h.1) ∙ (r.2 ∙ ap Some (one_value h.2.0 h.2.1 r.0 value r.1 h.2.4))
  got None h = ap (λ (z : DictContent). dict_get z.pairs key) (dict_is h.0 h.1) ∙ not_found h.0.pairs key h.2

  pub dict_replies : HasValue (known_state d w).content key found → DictReplies stored d key found
  dict_replies h = replies stored d key found (got found h)

-- ---- replies with the stamp that is loaded then

module _ (v u : View) (d : ℕ) (key : Key) (found : Option Value) (loaded : OnlyLoaded v u) (low : d < container_count v.shape) (mine : has_lock d v.log ≡ true) (fits : FitsKey key) (left : 0 < v.left) (has : HasValue (known_state d v).content key found) (n : ℕ) where
  abbrev w : View
  w = view_after (ReadCounter n) u

  replied : (stored : StoredWorld) → MayHave w stored → DictReplies stored d key found
  replied stored may =
      dict_replies w d key found (subst (λ k. d < container_count k) (sym loaded.work.pass.shape) low) (loaded.work.pass.locks d ∙ mine) fits stored may
      (subst (λ (z : ContainerState). HasValue z.content key found) (sym (work_knows v u d loaded.work)) has)

  plain : (call : Call) (said : Reply) → is_write call said ≡ false → moved_cursor call ≡ None → ((stored : StoredWorld) → MayHave w stored → IsReplied call said (reply_in stored call)) → ((stored : StoredWorld) → HasCause stored w call said n) → IsShown w call said n
  plain call said reads none right cause = held_shown v u n loaded left call said reads none right cause

  pub get_shown : IsShown w (call.Dict d (dict.Get key)) (key_reply found) n
  get_shown = by found refl
    where
      by : (z : Option Value) → found ≡ z → IsShown w (call.Dict d (dict.Get key)) (key_reply found) n
      by (Some value) e = subst (λ (z : Option Value). IsShown w (call.Dict d (dict.Get key)) (key_reply z) n) (sym e) (plain (call.Dict d (dict.Get key)) (reply.Value value) refl refl (λ stored may. inr (sym ((replied stored may).get ∙ ap key_reply e))) (λ stored. refl))
      by None e = subst (λ (z : Option Value). IsShown w (call.Dict d (dict.Get key)) (key_reply z) n) (sym e) (plain (call.Dict d (dict.Get key)) (key_reply None) refl refl (λ stored may. inr (sym ((replied stored may).get ∙ ap key_reply e))) (λ stored. refl))

  pub get_or_shown : (default : Value) → IsShown w (call.Dict d (dict.GetOr key default)) (reply.Value (unwrap_or found default)) n
  get_or_shown default = plain (call.Dict d (dict.GetOr key default)) (reply.Value (unwrap_or found default)) refl refl (λ stored may. inr (sym ((replied stored may).get_or default))) (λ stored. refl)
