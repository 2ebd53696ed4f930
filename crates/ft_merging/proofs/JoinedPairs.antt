-- What the used entries of a dict come to that are put into another one, and updates that change nothing.
use Rattle.std.proofs.Common.{◌≡◌, ◌≢◌, ℕ, zero, suc, ◌+◌, ◌-◌, ◌<◌, ◌≤◌, Bool, true, false, List, [], ◌∷◌, map, length, filter, get_or, cond, Option, Some, None, refl, sym, ap, ◌∙◌, subst, arith}
use Rattle.std.specs.Prelude.{◌||◌, All, AllPairs, is_some}
use Rattle.ft_model.specs.declared.content.Content.{Content}
use Rattle.ft_model.specs.declared.content.Content.TheVariants as content
use Rattle.ft_model.specs.declared.content.DictPair.{DictPair}
use Rattle.ft_model.specs.declared.data.Key.{Key}
use Rattle.ft_model.specs.declared.data.Value.{Value}
use Rattle.ft_model.specs.declared.script.Kind.TheVariants as kind
use Rattle.ft_model.specs.Contents.{DictContent, IsDict, dict_set, dict_update, has_key, is_at}
use Rattle.ft_model.specs.Worlds.{kind_of}
use Rattle.ft_model.proofs.KeyLemmas.{same_key-refl, same_key-true}
use Rattle.ft_layout.specs.declared.slot.Stored.{Stored}
use Rattle.ft_layout.specs.declared.slot.Stored.TheVariants.{Plain}
use Rattle.ft_layout.specs.Containers.{IsDictWords, used_pair}
use Rattle.ft_layout.specs.Tables.{UsedEntry, is_live}
use Rattle.ft_keys.specs.declared.walk.Way.{Way}
use Rattle.ft_keys.specs.declared.walk.Way.TheVariants as way
use Rattle.ft_trace.specs.declared.Shape.{Shape}
use Rattle.ft_trace.specs.declared.View.{View}
use Rattle.ft_trace.specs.Addresses.{class_of}
use Rattle.ft_trace.specs.Holds.{held_unboxed, known_state}
use Rattle.ft_trace.specs.Traces.{IsReachable}
use Rattle.ft_trace.specs.Pictures.{Represents}
use Rattle.ft_trace.specs.ContainerStates.{kind_in}
use Rattle.ft_trace.proofs.DictWrites as words
use Rattle.ft_trace.proofs.GrownDicts as dict
use Rattle.ft_trace.proofs.Known.{class_known}
use Rattle.ft_bank.specs.declared.table.Table.{Table}
use Rattle.ft_bank.specs.TableNames.{table_id}
use Rattle.ft_search.specs.Rounds.{kind_by}
use Rattle.ft_search.proofs.FoundInContents.{of_way}
use Rattle.ft_search.proofs.Puts.{table_class}
use Rattle.ft_new_keys.specs.KeyGrowth.{KnowsKeyed}
use Rattle.ft_new_keys.specs.Placing.{StoresAs}
use Rattle.ft_merging.specs.Joining.{joined}
use Rattle.ft_merging.specs.Internal.JoiningSteps.{StoresIn, joined_used, with_used}
use Rattle.ft_merging.proofs.Ending.{Laws}
use Rattle.ft_merging.proofs.JoinedContents.{counts_same, dict_there, later}
use Rattle.ft_merging.proofs.JoinedReads.{Source, apart_used, set_source}
use Rattle.ft_search.proofs.SameValues.{same_value}

-- an entry that is there is the pair's
live_is : (e : UsedEntry) (es : List UsedEntry) (s : Stored) → e.stored ≡ Some s → filter is_live (e ∷ es) ≡ e ∷ filter is_live es
live_is e es s is = ap (λ (z : Option Stored). cond (is_some z) (e ∷ filter is_live es) (filter is_live es)) is

dead_is : (e : UsedEntry) (es : List UsedEntry) → e.stored ≡ None → filter is_live (e ∷ es) ≡ filter is_live es
dead_is e es is = ap (λ (z : Option Stored). cond (is_some z) (e ∷ filter is_live es) (filter is_live es)) is

-- the used entries of a dict come to its pairs
pub joined_pairs : (used : List UsedEntry) (base : DictContent) (others : List DictPair) → filter is_live used ≡ map used_pair others → joined_used (content.Dict base) used ≡ content.Dict (dict_update base others)
joined_pairs [] base [] live = refl
joined_pairs [] base (x ∷ xs) live = absurd (cc)
joined_pairs (e ∷ es) base others live = by (λ s xs eq. joined_pairs es s xs eq) e.stored refl others live
  where
    by : ((s : DictContent) (xs : List DictPair) → filter is_live es ≡ map used_pair xs → joined_used (content.Dict s) es ≡ content.Dict (dict_update s xs)) → (s : Option Stored) → e.stored ≡ s → (xs : List DictPair) → filter is_live (e ∷ es) ≡ map used_pair xs → joined_used (content.Dict base) (e ∷ es) ≡ content.Dict (dict_update base xs)
    by rest None dead xs all = ap (λ (z : Option Stored). joined_used (with_used (content.Dict base) e.key z) es) dead ∙ rest base xs (sym (dead_is e es dead) ∙ all)
    by rest (Some s) is [] all = absurd (let here : e ∷ filter is_live es ≡ [] = sym (live_is e es s is) ∙ all in cc)
    by rest (Some s) is (x ∷ xs) all =
        let both : e ∷ filter is_live es ≡ used_pair x ∷ map used_pair xs = sym (live_is e es s is) ∙ all in
        let head : e ≡ used_pair x = cc in
        let tail : filter is_live es ≡ map used_pair xs = cc in
        ap (λ (z : UsedEntry). joined_used (with_used (content.Dict base) z.key z.stored) es) head ∙ rest (dict_set base x.key x.value) xs tail

dict_stores : (used : List UsedEntry) (es : List DictPair) → filter is_live used ≡ map used_pair es → All (StoresIn kind.Dict) used
dict_stores [] es live = λ i d low. absurd (omega (arith, low))
dict_stores (e ∷ used) es live = first (λ ys eq. dict_stores used ys eq) e.stored refl es live
  where
    here : StoresIn kind.Dict e → All (StoresIn kind.Dict) used → All (StoresIn kind.Dict) (e ∷ used)
    here one rest zero d low = one
    here one rest (suc i) d low = rest i d (omega (arith, low))

    first : ((ys : List DictPair) → filter is_live used ≡ map used_pair ys → All (StoresIn kind.Dict) used) → (s : Option Stored) → e.stored ≡ s → (ys : List DictPair) → filter is_live (e ∷ used) ≡ map used_pair ys → All (StoresIn kind.Dict) (e ∷ used)
    first rest None dead ys eq = here (λ s is. absurd (let no = sym dead ∙ is in cc)) (rest ys (sym (dead_is e used dead) ∙ eq))
    first rest (Some s) is [] eq = absurd (let no : e ∷ filter is_live used ≡ [] = sym (live_is e used s is) ∙ eq in cc)
    first rest (Some s) is (y ∷ ys) eq =
        let both : e ∷ filter is_live used ≡ used_pair y ∷ map used_pair ys = sym (live_is e used s is) ∙ eq in
        let head : e ≡ used_pair y = cc in
        let tail : filter is_live used ≡ map used_pair ys = cc in
        let plain : e.stored ≡ Some (Plain y.value) = ap (λ (z : UsedEntry). z.stored) head in
        here (λ t there. subst (λ (z : Stored). StoresAs kind.Dict z) (let same : Some (Plain y.value) ≡ Some t = sym plain ∙ there in let one : Plain y.value ≡ t = cc in one) tt) (rest ys tail)

pub dict_source : words.FirstEntriesArePairs → (k : Shape) (t : ℕ) (table : Table) (v : View) → KnowsKeyed k t (Some table) v → (others : DictContent) → (known_state t v).content ≡ content.Dict others → Source k way.Dict t table v
dict_source pairs k t table v knows others is =
    let c = class_of (table_id table) in
    let table_in = knows.table_in table refl in
    let class = class_known k.texts (held_unboxed t v) (known_state t v) (table_id table) knows.stands knows.root in
    let stands : Represents k.texts (held_unboxed t v) (record { content = content.Dict others; table = (known_state t v).table }) = subst (λ (z : Content). Represents k.texts (held_unboxed t v) (record { content = z; table = (known_state t v).table })) is knows.stands in
    let says : IsDictWords k.texts (held_unboxed t v).block (0 ∷ 0 ∷ (held_unboxed t v).table) (Some c) (known_state t v).table.fill others = subst (λ (z : Option ℕ). IsDictWords k.texts (held_unboxed t v).block (0 ∷ 0 ∷ (held_unboxed t v).table) z (known_state t v).table.fill others) class stands in
    record {
      used = says.used;
      table_is = says.table;
      filled = says.filled;
      apart = apart_used says.used says.table.distinct;
      stores = dict_stores says.used others.pairs says.entries.live;
      few = let f = says.filled in let g = says.table.fill in let r = words.room_is pairs k.texts (held_unboxed t v).block c (known_state t v).table.fill (table_class k table table_in) others (held_unboxed t v).table says in omega (arith, f, g, r);
      comes = λ d kind_eq. comes d kind_eq says.used says.entries.live ∙ ap (joined d) (sym is);
    }
  where
    comes : (d : Content) → kind_of d ≡ kind.Dict → (used : List UsedEntry) → filter is_live used ≡ map used_pair others.pairs → joined_used d used ≡ joined d (content.Dict others)
    comes (content.Dict base) kind_eq used live = joined_pairs used base others.pairs live
    comes (content.Set elements) kind_eq used live = absurd (cc)
    comes (content.List values) kind_eq used live = absurd (cc)
    comes (content.Deque deque) kind_eq used live = absurd (cc)

-- of a container whose lock the pass has
pub source_known : Laws → (k : Shape) (t : ℕ) (table : Table) (v : View) → v.shape ≡ k → ∥ IsReachable v ∥₁ → KnowsKeyed k t (Some table) v → (by : Way) → kind_in k.starts t ≡ kind_by by → Source k by t table v
source_known laws k t table v shape possible knows way.Dict kind_eq = let d = of_way way.Dict v t possible knows.locked (ap (λ (z : Shape). kind_in z.starts t) shape ∙ kind_eq) in dict_source laws.pairs k t table v knows d.0 d.1
source_known laws k t table v shape possible knows way.Set kind_eq = let d = of_way way.Set v t possible knows.locked (ap (λ (z : Shape). kind_in z.starts t) shape ∙ kind_eq) in set_source laws.elements k t table v knows d.0 d.1

-- ---- a dict that is updated with itself

-- the pair is there, and no other at its key
abbrev IsOwn : List DictPair → DictPair → Type 0
IsOwn pairs e = (has_key pairs e.key ≡ true) × All (λ (p : DictPair). is_at e.key p ≡ true → p.value ≡ e.value) pairs

each_own : (pairs : List DictPair) → AllPairs (λ a b. a.key ≢ b.key) pairs → All (IsOwn pairs) pairs
each_own [] distinct = λ i d low. absurd (omega (arith, low))
each_own (x ∷ xs) distinct = by (each_own xs (λ i j d less low. distinct (suc i) (suc j) d (omega (arith, less)) (omega (arith, low))))
  where
    -- the first one among all of them
    first : All (λ (p : DictPair). is_at x.key p ≡ true → p.value ≡ x.value) (x ∷ xs)
    first zero d low = λ at. refl
    first (suc j) d low = λ at. absurd (distinct 0 (suc j) d (omega arith) low (sym (same_key-true _ x.key at)))

    others : (i : ℕ) (d : DictPair) → i < length xs → All (λ (p : DictPair). is_at (get_or xs i d).key p ≡ true → p.value ≡ (get_or xs i d).value) xs → All (λ (p : DictPair). is_at (get_or xs i d).key p ≡ true → p.value ≡ (get_or xs i d).value) (x ∷ xs)
    others i d low rest zero c less = λ at. absurd (distinct 0 (suc i) d (omega arith) (omega (arith, low)) (same_key-true x.key (get_or xs i d).key at))
    others i d low rest (suc j) c less = rest j c (omega (arith, less))

    by : All (IsOwn xs) xs → All (IsOwn (x ∷ xs)) (x ∷ xs)
    by rest zero d low = (ap (λ (b : Bool). b || has_key xs x.key) (same_key-refl x.key), first)
    by rest (suc i) d low =
        let r = rest i d (omega (arith, low)) in
        (later (is_at (get_or xs i d).key x) (has_key xs (get_or xs i d).key) r.0, others i d (omega (arith, low)) r.1)

update_own : (d : DictContent) (es : List DictPair) → All (IsOwn d.pairs) es → dict_update d es ≡ d
update_own d [] all = refl
update_own d (e ∷ es) all =
    let here = all 0 e (omega arith) in
    let same : dict_set d e.key e.value ≡ d = dict_there d e.key e.value here.0 ∙ (λ i. record { next = d.next; pairs = same_value d.pairs e.key e.value here.1 i }) in
    ap (λ (z : DictContent). dict_update z es) same ∙ update_own d es (λ i x low. all (suc i) x (omega (arith, low)))

pub update_itself : (d : DictContent) → IsDict d.next d.pairs → dict_update d d.pairs ≡ d
update_itself d in_order = update_own d d.pairs (each_own d.pairs in_order.distinct)

-- ---- an update that draws no serial

set_next : (d : DictContent) (key : Key) (value : Value) → d.next ≤ (dict_set d key value).next
set_next d key value = by (has_key d.pairs key) refl
  where
    by : (b : Bool) → has_key d.pairs key ≡ b → d.next ≤ (dict_set d key value).next
    by true there = let is = ap (λ (z : DictContent). z.next) (dict_there d key value there) in omega (arith, is)
    by false missing = let is = dict.added_next d key value missing in omega (arith, is)

pub update_next : (es : List DictPair) (d : DictContent) → d.next ≤ (dict_update d es).next
update_next [] d = omega arith
update_next (e ∷ es) d = let first = set_next d e.key e.value in let rest = update_next es (dict_set d e.key e.value) in omega (arith, first, rest)

-- of one that has no keys, it is one with nothing
pub update_bare : (d : DictContent) (others : List DictPair) → d.pairs ≡ [] → (dict_update d others).next ≡ d.next → dict_update d others ≡ d
update_bare d [] bare same = refl
update_bare d (e ∷ es) bare same =
    let first : (dict_set d e.key e.value).next ≡ d.next + 1 = dict.added_next d e.key e.value (ap (λ (z : List DictPair). has_key z e.key) bare) in
    let rest = update_next es (dict_set d e.key e.value) in
    absurd (omega (arith, first, rest, same))

-- as many pairs more as serials were drawn
update_counts : (es : List DictPair) (d : DictContent) → length (dict_update d es).pairs + d.next ≡ length d.pairs + (dict_update d es).next
update_counts [] d = refl
update_counts (e ∷ es) d = let rest = update_counts es (dict_set d e.key e.value) in let here = one (has_key d.pairs e.key) refl in omega (arith, rest, here)
  where
    one : (b : Bool) → has_key d.pairs e.key ≡ b → length (dict_set d e.key e.value).pairs + d.next ≡ length d.pairs + (dict_set d e.key e.value).next
    one true there = let c = counts_same (content.Dict d) e.key (Plain e.value) tt there in let n = c.0 in let m = c.1 in omega (arith, n, m)
    one false missing = let n = dict.added_length d e.key e.value missing in let m = dict.added_next d e.key e.value missing in omega (arith, n, m)

pub update_length : (d : DictContent) (es : List DictPair) → length (dict_update d es).pairs ≡ length d.pairs + ((dict_update d es).next - d.next)
update_length d es = let c = update_counts es d in let up = update_next es d in omega (arith, c, up)
