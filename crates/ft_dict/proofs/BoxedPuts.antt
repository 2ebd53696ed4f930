-- What a call on a dict comes to that puts a value in a box, once the pass has made the box or found its heap full, and what
-- the plain dict says of it.
use Rattle.std.proofs.Common.{◌≡◌, ◌⊎◌, ℕ, ◌+◌, ◌<◌, ◌≤◌, ◌∷◌, Bool, true, false, true≢false, Option, Some, None, refl, sym, ap, ◌∙◌, subst, inl, inr, arith, lt-ltb, le-ltb}
use Rattle.std.proofs.Math.Logic.{∥∥₁_elim}
use Rattle.std.specs.Prelude.{nat_lt, is_some, if◌then◌else◌}
use Rattle.std.specs.Option.{option_map_or}
use Rattle.ft_model.specs.declared.call.Call.{Call}
use Rattle.ft_model.specs.declared.call.Call.TheVariants as call
use Rattle.ft_model.specs.declared.call.DictCall.TheVariants as dict
use Rattle.ft_model.specs.declared.content.Content.{Content}
use Rattle.ft_model.specs.declared.content.Content.TheVariants as content
use Rattle.ft_model.specs.declared.content.DictPair.{DictPair}
use Rattle.ft_model.specs.declared.data.Key.{Key}
use Rattle.ft_model.specs.declared.data.Value.{Value}
use Rattle.ft_model.specs.declared.reply.Reply.{Reply}
use Rattle.ft_model.specs.declared.reply.Reply.TheVariants as reply
use Rattle.ft_model.specs.Boxings.{boxes, is_boxed}
use Rattle.ft_model.specs.Classes.{most_pairs}
use Rattle.ft_model.specs.Contents.{DictContent, dict_get, dict_set, has_key, is_at}
use Rattle.ft_model.specs.TableUses.{StoredWorld, CanLackMemory, would_pass}
use Rattle.ft_model.specs.Worlds.{dict_of, length_of}
use Rattle.ft_layout.specs.Words.{FitsKey}
use Rattle.ft_trace.specs.declared.Shape.{Shape}
use Rattle.ft_trace.specs.declared.View.{View}
use Rattle.ft_trace.specs.Acts.{has_lock}
use Rattle.ft_trace.specs.Addresses.{container_count}
use Rattle.ft_trace.specs.Causes.{CanLackPlace}
use Rattle.ft_trace.specs.ContainerStates.{ContainerState}
use Rattle.ft_trace.specs.FitCalls.{FitsValue}
use Rattle.ft_trace.specs.Holds.{held_unboxed, known_state}
use Rattle.ft_trace.specs.Kinds.{under}
use Rattle.ft_trace.specs.Pictures.{Represents}
use Rattle.ft_trace.specs.Traces.{IsReachable}
use Rattle.ft_trace.proofs.LookReplies as looked
use Rattle.ft_trace.proofs.SameKeys.{any_found}
use Rattle.ft_bank.specs.Whole.{OnlyBoxed, OnlyLoaded}
use Rattle.ft_bank.specs.WriteSteps.{MayHave}
use Rattle.ft_bank.proofs.KnownAfterWrites.{boxed_then, loaded_boxed, loaded_then, work_knows}
use Rattle.ft_search.specs.Held.{IsHeldAt}
use Rattle.ft_table_calls.specs.declared.adding.Added.{Added}
use Rattle.ft_table_calls.specs.declared.adding.Added.TheVariants as added
use Rattle.ft_table_calls.specs.Adding.{IsAdded}
use Rattle.ft_new_keys.specs.declared.counts.Counts.{Counts}
use Rattle.ft_new_keys.specs.KeyGrowth.{PutsKey, holds, key_takes, most_of}
use Rattle.ft_new_keys.specs.Placing.{AreCounts}
use Rattle.ft_new_keys.proofs.Keyed.{Heads}
use Rattle.ft_dict.specs.BoxedCalls.{NamesBoxWhereMade, PutsBoxed, SetsDefaultBoxed, has_too_many}
use Rattle.ft_dict.specs.HeldSets.{PutsHeld}
use Rattle.ft_dict.specs.Values.{SetsDefault, default_reply}
use Rattle.ft_dict.proofs.Deleted.{set_same}
use Rattle.ft_dict.proofs.Leaving.{dict_is, leaves_same}
use Rattle.ft_dict.proofs.NewKeys.{set_adds, setdefault_adds}
use Rattle.ft_dict.proofs.Reading.{fit_known, some_words}

-- ---- seen from before some loads

module _ (k : Shape) (o : ℕ) (key : Key) (v u w : View) (what : Added) (only : OnlyLoaded v u) where
  same : known_state o u ≡ known_state o v
  same = work_knows v u o only.work

  pub puts_loaded : (called : Call) (said : Reply) → PutsKey k o key called said u w what → PutsKey k o key called said v w what
  puts_loaded called said x =
      (x.0, loaded_then v u x.0 only x.1, subst (λ (z : ContainerState). IsAdded k (if holds z.content key then None else key_takes z.content z.table) (has_too_many z key) called said x.0 w what) same x.2)

pub default_loaded : (k : Shape) (o : ℕ) (key : Key) (default : Value) (said : Reply) (v u w : View) (what : Added) → OnlyLoaded v u → SetsDefault k o key default said u w what → SetsDefault k o key default said v w what
default_loaded k o key default said v u w what only x = (
  x.0 ∙ ap (λ (z : ContainerState). default_reply z.content key default) (work_knows v u o only.work),
  puts_loaded k o key v u w what only (call.Dict o (dict.SetDefault key default)) said x.1,
)

-- the box that the entry names, where the dict was known the same
names_known : (o : ℕ) (key : Key) (value : Value) (v u w : View) (what : Added) → known_state o u ≡ known_state o v → NamesBoxWhereMade o key value u w what → NamesBoxWhereMade o key value v w what
names_known o key value v u w what same names is_made other = names is_made (λ equal. other (ap (λ (z : ContainerState). dict_get (dict_of z.content).pairs key) (sym same) ∙ equal))

module _ (k : Shape) (o : ℕ) (key : Key) (v u w : View) (only : OnlyLoaded v u) where
  stays : known_state o u ≡ known_state o v
  stays = work_knows v u o only.work

  few_still : has_too_many (known_state o u) key ≡ false → has_too_many (known_state o v) key ≡ false
  few_still few = ap (λ (z : ContainerState). has_too_many z key) (sym stays) ∙ few

  puts_boxed_loaded : (value : Value) (called : Call) (said : Reply) (what : Added) → PutsBoxed k o key value called said u w what → PutsBoxed k o key value called said v w what
  puts_boxed_loaded value called said (added.Made stamp) x =
      (few_still x.0, (x.1.0, boxed_then v u x.1.0 (loaded_boxed v u only) x.1.1, x.1.2, names_known o key value v u w (added.Made stamp) stays x.1.3))
  puts_boxed_loaded value called said (added.NoTable class stamp) x =
      (few_still x.0, (x.1.0, boxed_then v u x.1.0 (loaded_boxed v u only) x.1.1, x.1.2, names_known o key value v u w (added.NoTable class stamp) stays x.1.3))
  puts_boxed_loaded value called said (added.Over stamp) x = puts_loaded k o key v u w (added.Over stamp) only called said x
  puts_boxed_loaded value called said (added.NoPlace stamp) x =
      let f = x.1 in
      (few_still x.0, record { said_is = f.said_is; unwritten = f.unwritten; before = f.before; boxed = boxed_then v u f.before (loaded_boxed v u only) f.boxed; full = f.full; answered = f.answered })
  puts_boxed_loaded value called said (added.Moved a b) x =
      (few_still x.0, (x.1.0, boxed_then v u x.1.0 (loaded_boxed v u only) x.1.1, x.1.2, names_known o key value v u w (added.Moved a b) stays x.1.3))

  pub default_boxed_loaded : (default : Value) (said : Reply) (what : Added) → SetsDefaultBoxed k o key default said u w what → SetsDefaultBoxed k o key default said v w what
  default_boxed_loaded default said what x = (x.0 ∙ ap (λ (z : ContainerState). default_reply z.content key default) stays, either x.1)
    where
      called : Call
      called = call.Dict o (dict.SetDefault key default)

      held : (b : Bool) → holds (known_state o u).content key ≡ b → holds (known_state o v).content key ≡ b
      held b is = ap (λ (z : ContainerState). holds z.content key) (sym stays) ∙ is

      either : ((holds (known_state o u).content key ≡ true) × PutsKey k o key called said u w what) ⊎ ((holds (known_state o u).content key ≡ false) × PutsBoxed k o key default called said u w what)
          → ((holds (known_state o v).content key ≡ true) × PutsKey k o key called said v w what) ⊎ ((holds (known_state o v).content key ≡ false) × PutsBoxed k o key default called said v w what)
      either (inl y) = inl (held true y.0, puts_loaded k o key v u w what only called said y.1)
      either (inr y) = inr (held false y.0, puts_boxed_loaded default called said what y.1)

-- ---- with a box

module _ (k : Shape) (o : ℕ) (key : Key) (called : Call) (said : Reply) (v x u w : View) (loaded : OnlyLoaded v x) (made : OnlyBoxed x u) where
  pub both : OnlyBoxed v u
  both = boxed_then v x u (loaded_boxed v x loaded) made

  pub state : known_state o u ≡ known_state o v
  state = work_knows v u o both.work

  pub with_box : (value : Value) (what : Added) → has_too_many (known_state o v) key ≡ false → PutsHeld k o key called said u w what → NamesBoxWhereMade o key value u w what → PutsBoxed k o key value called said v w what
  with_box value (added.Made stamp) few is names = (few, (u, both, is, names_known o key value v u w (added.Made stamp) state names))
  with_box value (added.NoTable class stamp) few is names = (few, (u, both, is, names_known o key value v u w (added.NoTable class stamp) state names))
  with_box value (added.Over stamp) few is names = absurd (true≢false (sym is.put.0 ∙ (ap (λ (z : ContainerState). has_too_many z key) state ∙ few)))
  with_box value (added.NoPlace stamp) few is names = absurd is.put
  with_box value (added.Moved a b) few is names = (few, (u, both, is, names_known o key value v u w (added.Moved a b) state names))

-- ---- how many pairs there are

module _ (v : View) (d : ℕ) (pairs : DictContent) (possible : ∥ IsReachable v ∥₁) (low : d < container_count v.shape) (mine : has_lock d v.log ≡ true) (is_dict : (known_state d v).content ≡ content.Dict pairs) (key : Key) (fits : FitsKey key) where
  -- a key whose words are there
  pub there_known : (kind payload : ℕ) → IsHeldAt (content.Dict pairs) key (Some (kind, payload)) → has_key pairs.pairs key ≡ true
  there_known kind payload held = by (has_key pairs.pairs key) refl
    where
      found : IsReachable v → has_key pairs.pairs key ≡ true
      found p =
          let words = some_words (under (content.Dict pairs) key) kind payload held.0 held.1 in
          any_found (is_at key) pairs.pairs ∙ ap (λ (z : Option DictPair). is_some z) (looked.there pairs key fits (fit_known v d pairs p low mine is_dict) words).1

      by : (b : Bool) → has_key pairs.pairs key ≡ b → has_key pairs.pairs key ≡ true
      by true e = e
      by false e = absurd (∥∥₁_elim {P = ⊥} possible (λ a b. absurd a) (λ p. true≢false (sym (found p) ∙ e)))

pub count_known : Heads → (texts : Shape) (o : ℕ) (v : View) (counts : Counts) → Represents texts.texts (held_unboxed o v) (known_state o v) → AreCounts (held_unboxed o v).block counts → counts.count ≡ length_of (known_state o v).content
count_known heads k o v counts stands are =
    sym are.0 ∙ (heads k.texts (held_unboxed o v).block (0 ∷ 0 ∷ (held_unboxed o v).table) (known_state o v).table (known_state o v).content stands).count_is

-- by whether the key is there, and whether one more is too many
over_of : (b n : Bool) → (if b then false else n) ≡ true → (b ≡ false) × (n ≡ true)
over_of true n e = absurd (true≢false (sym e))
over_of false n e = (refl, e)

few_of : (b n : Bool) → n ≡ false → (if b then false else n) ≡ false
few_of true n e = refl
few_of false n e = e

module _ (x : ContainerState) (pairs : DictContent) (is_dict : x.content ≡ content.Dict pairs) (key : Key) (count : ℕ) (many : count ≡ length_of x.content) where
  one_more : nat_lt (most_of x.content) (length_of x.content + 1) ≡ nat_lt most_pairs (count + 1)
  one_more = (λ i. nat_lt (most_of (is_dict i)) (sym many i + 1))

  -- there is room for one more
  pub few_more : count < most_pairs → nat_lt (most_of x.content) (length_of x.content + 1) ≡ false
  few_more low = one_more ∙ le-ltb most_pairs (count + 1) (omega (arith, low))

  pub few_pairs : count < most_pairs → has_too_many x key ≡ false
  few_pairs low = few_of (holds x.content key) (nat_lt (most_of x.content) (length_of x.content + 1)) (few_more low)

  -- or none
  pub many_more : most_pairs ≤ count → nat_lt (most_of x.content) (length_of x.content + 1) ≡ true
  many_more high = one_more ∙ lt-ltb most_pairs (count + 1) (omega (arith, high))

  -- and the key isn't there
  pub many_pairs : most_pairs ≤ count → holds x.content key ≡ false → has_too_many x key ≡ true
  many_pairs high not = ap (λ (b : Bool). if b then false else nat_lt (most_of x.content) (length_of x.content + 1)) not ∙ many_more high

-- ---- what the plain dict says

module _ (d : ℕ) (v : View) (pairs : DictContent) (low : d < container_count v.shape) (mine : has_lock d v.log ≡ true) (is_dict : (known_state d v).content ≡ content.Dict pairs) (key : Key) (value : Value) (fits : FitsKey key) (fit : FitsValue value) where
  abbrev full : Bool
  full = nat_lt (most_of (known_state d v).content) (length_of (known_state d v).content + 1)

  missing : holds (known_state d v).content key ≡ false → has_key pairs.pairs key ≡ false
  missing not = ap (λ (z : Content). holds z key) (sym is_dict) ∙ not

  -- of `d[k] = v`
  pub set_passes : has_too_many (known_state d v) key ≡ true → (found : StoredWorld) → MayHave v found → CanLackMemory found.world (call.Dict d (dict.Set key value)) × (would_pass found.world (call.Dict d (dict.Set key value)) ≡ true)
  set_passes many found has =
      let o = over_of (holds (known_state d v).content key) full many in
      let adds = set_adds d v pairs low mine is_dict key value fits fit (missing o.0) in
      (adds.lacks found has, adds.over found has ∙ o.1)

  pub set_lacks : is_boxed value ≡ true → has_too_many (known_state d v) key ≡ false → (found : StoredWorld) → MayHave v found → CanLackPlace found.world (call.Dict d (dict.Set key value)) × (would_pass found.world (call.Dict d (dict.Set key value)) ≡ false)
  set_lacks boxed few found has = (record { boxes = boxed; raises_nothing = refl }, by (holds (known_state d v).content key) refl few)
    where
      by : (b : Bool) → holds (known_state d v).content key ≡ b → (if b then false else full) ≡ false → would_pass found.world (call.Dict d (dict.Set key value)) ≡ false
      by true there e =
          let has_it : has_key pairs.pairs key ≡ true = ap (λ (z : Content). holds z key) (sym is_dict) ∙ there in
          let s = set_same d v pairs low mine is_dict key fits value has_it in
          (leaves_same d v pairs (dict_set pairs key value) (dict.Set key value) reply.Done low mine is_dict refl refl refl refl refl (fits, fit) (λ stored may. (s.0, s.1, refl))).fits found has
      by false not e = (set_adds d v pairs low mine is_dict key value fits fit (missing not)).over found has ∙ e

  -- of `d.setdefault(k, v)`, where the key isn't there
  module _ (not : holds (known_state d v).content key ≡ false) where
    pub default_passes : full ≡ true → (found : StoredWorld) → MayHave v found → CanLackMemory found.world (call.Dict d (dict.SetDefault key value)) × (would_pass found.world (call.Dict d (dict.SetDefault key value)) ≡ true)
    default_passes many found has =
        let adds = setdefault_adds d v pairs low mine is_dict key value fits fit (missing not) in
        (adds.lacks found has, adds.over found has ∙ many)

    pub default_lacks : is_boxed value ≡ true → full ≡ false → (found : StoredWorld) → MayHave v found → CanLackPlace found.world (call.Dict d (dict.SetDefault key value)) × (would_pass found.world (call.Dict d (dict.SetDefault key value)) ≡ false)
    default_lacks boxed few found has =
        let adds = setdefault_adds d v pairs low mine is_dict key value fits fit (missing not) in
        let pairs_are = dict_is d v pairs low mine is_dict found has in
        let stores : boxes found.world (call.Dict d (dict.SetDefault key value)) ≡ true =
        (λ i. option_map_or is_boxed (if has_key (pairs_are i).pairs key then None else Some value) false)
        ∙ (ap (λ (x : Bool). option_map_or is_boxed (if x then None else Some value) false) (missing not) ∙ boxed) in
        (record { boxes = stores; raises_nothing = (adds.lacks found has).raises_nothing }, adds.over found has ∙ few)
