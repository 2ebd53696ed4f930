-- Loops over the entries of one dict or set that look at another one, step by step.
use Rattle.std.proofs.Common.{◌≡◌, ◌≢◌, ℕ, zero, suc, ◌+◌, ◌<◌, Bool, true, false, true≢false, not, List, [], ◌∷◌, ◌++◌, length, map, take, Option, Some, None, refl, sym, ap, ◌∙◌, arith}
use Rattle.std.specs.Prelude.{pos, ◌||◌, ◌&&◌, cond, is_some, option_map, slice_index_or, AllPairs}
use Rattle.std.specs.List.{cons_option, filter_map, find, list_all, list_any}
use Rattle.std.specs.Option.{option_map_or}
use Rattle.ft_layout.specs.declared.slot.Stored.{Stored}
use Rattle.ft_layout.specs.declared.slot.Stored.TheVariants.{Boxed, Empty, Plain}
use Rattle.ft_layout.specs.Containers.{StandsAs}
use Rattle.ft_layout.specs.Tables.{UsedEntry}
use Rattle.ft_layout.specs.Words.{IsStored}
use Rattle.ft_layout.proofs.ContentLaws.{stands_for_dict}
use Rattle.ft_model.specs.declared.content.Content.{Content}
use Rattle.ft_model.specs.declared.content.Content.TheVariants as content
use Rattle.ft_model.specs.declared.content.DictPair.{DictPair}
use Rattle.ft_model.specs.declared.data.Key.{Key}
use Rattle.ft_model.specs.declared.data.Key.TheVariants as key
use Rattle.ft_model.specs.declared.data.Value.{Value}
use Rattle.ft_model.specs.declared.script.Kind.TheVariants as kind
use Rattle.ft_model.specs.Answers.{items_of}
use Rattle.ft_model.specs.Contents.{DictContent, IsDict, dict_get, has_element, has_pair, is_at}
use Rattle.ft_model.specs.Keys.{is_value, same_key}
use Rattle.ft_model.specs.Worlds.{dict_of, kind_of, set_of}
use Rattle.ft_model.proofs.DictLaws.{absent_in, distinct_tail}
use Rattle.ft_model.proofs.KeyLemmas.{same_key-true}
use Rattle.ft_trace.specs.declared.Shape.{Shape}
use Rattle.ft_trace.specs.Pictures.{ContainerWords, Represents}
use Rattle.ft_trace.specs.ContainerStates.{ContainerState, kind_in}
use Rattle.ft_trace.specs.Unboxed.{unboxed}
use Rattle.ft_bank.specs.declared.pass.Pass.{Pass}
use Rattle.ft_reads.specs.Pairs.{ReadsBoth}
use Rattle.ft_search.proofs.Running.{did_none}
use Rattle.ft_whole_tables.proofs.WordReads.{none_held}
use Rattle.ft_whole_tables.specs.Comparing.{lacks_value}
use Rattle.ft_whole_tables.specs.TableEntries.{live_key, plain_pair, plain_with}
use Rattle.ft_whole_tables.specs.FoundKeys.{IsAtKey}
use Rattle.ft_whole_tables.proofs.Gathered.{gathered_more}
use Rattle.ft_whole_tables.proofs.EntryRows.{pair_in}

-- ---- whether some is so

any_append : {X : Type 0} (f : X → Bool) (xs ys : List X) → list_any f (xs ++ ys) ≡ (list_any f xs || list_any f ys)
any_append f [] ys = refl
any_append f (x ∷ xs) ys = by (f x) (any_append f xs ys)
  where
    by : (b : Bool) → list_any f (xs ++ ys) ≡ (list_any f xs || list_any f ys) → (b || list_any f (xs ++ ys)) ≡ ((b || list_any f xs) || list_any f ys)
    by true e = refl
    by false e = e

any_option : {X : Type 0} (f : X → Bool) (z : Option X) → list_any f (cons_option z []) ≡ option_map_or f z false
any_option f None = refl
any_option f (Some x) = by (f x)
  where
    by : (b : Bool) → (b || false) ≡ b
    by true = refl
    by false = refl

module _ {X : Type 0} (h : UsedEntry → Option X) (f : X → Bool) where
  -- one entry more, of which it isn't so
  pub any_more : (used : List UsedEntry) (place : ℕ) (any : UsedEntry) → place < length used → false ≡ list_any f (filter_map h (take place used)) → false ≡ option_map_or f (h (slice_index_or used place any)) false → false ≡ list_any f (filter_map h (take (place + 1) used))
  any_more used place any low none here =
      sym
      (ap (list_any f) (gathered_more h used place any low)
      ∙ (any_append f (filter_map h (take place used)) (cons_option (h (slice_index_or used place any)) [])
      ∙ ((λ i. sym none i || list_any f (cons_option (h (slice_index_or used place any)) []))
      ∙ (any_option f (h (slice_index_or used place any)) ∙ sym here))))

  -- an entry of which it is
  pub any_at : (used : List UsedEntry) (place : ℕ) (any : UsedEntry) → place < length used → true ≡ option_map_or f (h (slice_index_or used place any)) false → true ≡ list_any f (filter_map h used)
  any_at [] place any low here = absurd (omega (arith, low))
  any_at (e ∷ used) zero any low here = by (h e) here
    where
      by : (z : Option X) → true ≡ option_map_or f z false → true ≡ list_any f (cons_option z (filter_map h used))
      by None e' = absurd (true≢false e')
      by (Some x) e' = ap (λ (b : Bool). b || list_any f (filter_map h used)) e'
  any_at (e ∷ used) (suc place) any low here = by (h e) (any_at used place any (omega (arith, low)) here)
    where
      later : (b : Bool) → true ≡ list_any f (filter_map h used) → true ≡ (b || list_any f (filter_map h used))
      later true e' = refl
      later false e' = e'

      by : (z : Option X) → true ≡ list_any f (filter_map h used) → true ≡ list_any f (cons_option z (filter_map h used))
      by None e' = e'
      by (Some x) e' = later (f x) e'

pub any_map : {X Y : Type 0} (f : Y → Bool) (g : X → Y) (xs : List X) → list_any f (map g xs) ≡ list_any (λ x. f (g x)) xs
any_map f g [] = refl
any_map f g (x ∷ xs) = ap (λ (b : Bool). f (g x) || b) (any_map f g xs)

-- all are so where of none it isn't
pub all_not : {X : Type 0} (g : X → Bool) (xs : List X) → list_all g xs ≡ not (list_any (λ x. not (g x)) xs)
all_not g [] = refl
all_not g (x ∷ xs) = by (g x) (all_not g xs)
  where
    by : (b : Bool) → list_all g xs ≡ not (list_any (λ y. not (g y)) xs) → (b && list_all g xs) ≡ not (not b || list_any (λ y. not (g y)) xs)
    by true e = e
    by false e = refl

-- ---- an entry's key

pub key_same : (e : UsedEntry) (key : Key) → Some key ≡ live_key e → key ≡ e.key
key_same e key is = by e.stored is
  where
    by : (stored : Option Stored) → Some key ≡ option_map (λ (s : Stored). e.key) stored → key ≡ e.key
    by (Some s) same = cc
    by None same = absurd (cc)

pub pair_same : (e : UsedEntry) (key : Key) (value : Value) → Some (key, value) ≡ plain_pair e → key ≡ e.key
pair_same e key value is = by e.stored is
  where
    by : (stored : Option Stored) → Some (key, value) ≡ plain_with e.key stored → key ≡ e.key
    by (Some (Plain v)) same = ap (λ (z : Option (Key × Value)). (pair_in z (key, value)).0) same
    by (Some Empty) same = absurd (cc)
    by (Some (Boxed box)) same = absurd (cc)
    by None same = absurd (cc)

-- ---- what was found in the other one

pub at_set : (c : Content) (key : Key) (read : Option (ℕ × ℕ)) → kind_of c ≡ kind.Set → IsAtKey c key read → has_element (set_of c).elements key ≡ is_some read
at_set (content.Set set) key read is at = at
at_set (content.Dict dict) key read is at = absurd (cc)
at_set (content.List values) key read is at = absurd (cc)
at_set (content.Deque deque) key read is at = absurd (cc)

-- ---- dicts

-- a pair is there where its key has its value, as keys are distinct
abbrev AreDistinct : List DictPair → Type 0
AreDistinct pairs = AllPairs (λ (a b : DictPair). a.key ≢ b.key) pairs

has_is : (pairs : List DictPair) → AreDistinct pairs → (wanted : DictPair) → has_pair pairs wanted ≡ option_map_or (λ (v : Value). is_value v wanted.value) (dict_get pairs wanted.key) false
has_is [] distinct wanted = refl
has_is (pair ∷ pairs) distinct wanted =
    let rest = has_is pairs (distinct_tail pair pairs distinct) wanted in
    elim (same_key pair.key wanted.key) as (λ b. same_key pair.key wanted.key ≡ b → ((b && is_value pair.value wanted.value) || has_pair pairs wanted) ≡ option_map_or (λ (v : Value). is_value v wanted.value) (option_map (λ (p : DictPair). p.value) (cond b (Some pair) (find (is_at wanted.key) pairs))) false) [
      | true ↦ λ here.
          let alone : dict_get pairs wanted.key ≡ None = absent_in pairs wanted.key (λ j d low is. distinct zero (suc j) d (omega arith) (omega arith) (same_key-true pair.key wanted.key here ∙ is)) in
          let none : has_pair pairs wanted ≡ false = rest ∙ ap (λ (z : Option Value). option_map_or (λ (v : Value). is_value v wanted.value) z false) alone in
          ap (λ (b : Bool). is_value pair.value wanted.value || b) none ∙ or_false (is_value pair.value wanted.value)
      | false ↦ λ past. rest
    ] refl
  where
    or_false : (b : Bool) → (b || false) ≡ b
    or_false true = refl
    or_false false = refl

any_same : {X : Type 0} (f g : X → Bool) (xs : List X) → ((x : X) → f x ≡ g x) → list_any f xs ≡ list_any g xs
any_same f g [] same = refl
any_same f g (x ∷ xs) same = λ i. same x i || any_same f g xs same i

pub none_lacks : (pairs : List DictPair) (other : DictContent) → AreDistinct other.pairs → list_all (has_pair other.pairs) pairs ≡ not (list_any (lacks_value other) (items_of pairs))
none_lacks pairs other distinct =
    all_not (has_pair other.pairs) pairs
    ∙ ap not
    (any_same (λ p. not (has_pair other.pairs p)) (λ (p : DictPair). lacks_value other (p.key, p.value)) pairs (λ p. ap not (has_is other.pairs distinct p))
    ∙ sym (any_map (lacks_value other) (λ (p : DictPair). (p.key, p.value)) pairs))

pub dict_is : (k : Shape) (x : ContainerWords) (kept : ContainerState) → kind_of kept.content ≡ kind.Dict → Represents k.texts x kept → IsDict (dict_of kept.content).next (dict_of kept.content).pairs
dict_is k x kept is stands = by kept.content is stands
  where
    by : (c : Content) → kind_of c ≡ kind.Dict → StandsAs k.texts x.block (0 ∷ 0 ∷ x.table) kept.table c → IsDict (dict_of c).next (dict_of c).pairs
    by (content.Dict dict) e s = stands_for_dict k.texts x.block (0 ∷ 0 ∷ x.table) kept.table.class kept.table.fill dict s
    by (content.List values) e s = absurd (cc)
    by (content.Deque deque) e s = absurd (cc)
    by (content.Set set) e s = absurd (cc)

-- a key and what was read at it there
pub at_dict : (c : Content) (key : Key) (read : Option (ℕ × ℕ)) → kind_of c ≡ kind.Dict → IsAtKey c key read → (found : Option Value) → (read ≡ None → found ≡ None) → ((kind payload : ℕ) → read ≡ Some (kind, payload) → (value : Value) → IsStored kind payload (Plain value) → found ≡ Some value) → dict_get (dict_of c).pairs key ≡ found
at_dict (content.Dict dict) key None is at found none some = at ∙ sym (none refl)
at_dict (content.Dict dict) key (Some read) is at found none some = at.1 ∙ sym (some read.0 read.1 refl at.0 at.2)
at_dict (content.Set set) key read is at found none some = absurd (cc)
at_dict (content.List values) key read is at found none some = absurd (cc)
at_dict (content.Deque deque) key read is at found none some = absurd (cc)

-- ---- reads of two containers

pub both_swap : (k : Shape) (o m : ℕ) (P : ContainerWords → ContainerWords → Type 0) (p q : Pass) → ReadsBoth k m o P p q → ReadsBoth k o m (λ x y. P y x) p q
both_swap k o m P p q r = (r.0, r.1, r.2, (λ x y box more f g. r.3 y x more box g f), r.4)

pub both_none : (k : Shape) (o m : ℕ) (P : ContainerWords → ContainerWords → Type 0) (p : Pass) → ((x y : ContainerWords) → P x y) → ReadsBoth k o m P p p
both_none k o m P p all = ([], tt, did_none p, (λ x y box more f g. all (unboxed box (kind_in k.starts o) x) (unboxed more (kind_in k.starts m) y)), none_held k p)

-- an entry for places that no list has
pub no_entry : UsedEntry
no_entry = record { key = key.Int (pos 0); serial = 0; stored = None }
