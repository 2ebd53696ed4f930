-- From the words of a container to what the plain container gives next.
use Rattle.std.proofs.Common.{◌≡◌, ◌⊎◌, inl, inr, ℕ, suc, ◌+◌, ◌*◌, ◌/◌, ◌≤◌, Bool, true, false, cond, List, [], ◌∷◌, map, Option, Some, None, refl, sym, ap, ◌∙◌, subst, arith}
use Rattle.std.specs.Prelude.{filter, option_map, slice_index}
use Rattle.std.specs.List.{find}
use Rattle.ft_model.specs.declared.content.Content.{Content}
use Rattle.ft_model.specs.declared.content.Content.TheVariants as content
use Rattle.ft_model.specs.declared.script.Kind.{Kind}
use Rattle.ft_model.specs.declared.script.Kind.TheVariants as kind
use Rattle.ft_model.specs.Contents.{DictContent, SetContent}
use Rattle.ft_model.specs.Cursors.{is_after}
use Rattle.ft_layout.specs.declared.slot.Pair.{Pair}
use Rattle.ft_layout.specs.Containers.{class_mask, used_pair, used_element, IsDictWords, IsSetWords, StandsAs}
use Rattle.ft_layout.specs.Tables.{UsedEntry, is_live, dict_room}
use Rattle.ft_keys.specs.declared.walk.Way.TheVariants as way
use Rattle.ft_trace.specs.Acts.{has_lock}
use Rattle.ft_trace.specs.Holds.{known_state}
use Rattle.ft_trace.specs.Addresses.{class_of, slots}
use Rattle.ft_trace.specs.Kinds.{IsKeyed, rows}
use Rattle.ft_model.specs.Worlds.{kind_of}
use Rattle.ft_trace.specs.Traces.{IsReachable}
use Rattle.ft_trace.specs.Pictures.{ContainerWords, root_in, Represents}
use Rattle.ft_trace.specs.ContainerStates.{ContainerState, kind_in}
use Rattle.ft_trace.specs.declared.Shape.{Shape}
use Rattle.ft_trace.specs.declared.View.{View}
use Rattle.ft_trace.proofs.Known.{class_known}
use Rattle.ft_bank.specs.declared.table.Table.{Table}
use Rattle.ft_bank.specs.TableNames.{table_id, IsTableIn}
use Rattle.ft_bank.proofs.TableAddresses.{class_is}
use Rattle.ft_search.proofs.FoundInContents.{dict_known, set_known}
use Rattle.ft_search.proofs.WordPlaces.{places_is, slots_is}
use Rattle.ft_iter.specs.Following.{IsNextOf}
use Rattle.ft_iter.specs.Seeking.{GivesPair}

find-map : {A B : Type 0} (f : B → Bool) (g : A → B) (xs : List A) → find f (map g xs) ≡ option_map g (find (λ x. f (g x)) xs)
find-map f g [] = refl
find-map f g (x ∷ xs) = by (f (g x)) (find-map f g xs)
  where
    by : (b : Bool) → find f (map g xs) ≡ option_map g (find (λ z. f (g z)) xs) → cond b (Some (g x)) (find f (map g xs)) ≡ option_map g (cond b (Some x) (find (λ z. f (g z)) xs))
    by true more = refl
    by false more = more

none-mapped : {A B : Type 0} (f : B → Bool) (g : A → B) (xs : List A) → map g xs ≡ [] → None ≡ option_map g (find (λ x. f (g x)) xs)
none-mapped f g [] is = refl
none-mapped f g (x ∷ xs) is = absurd (cc)

set-in-dict : (n : ℕ) → 3 * n / 5 ≤ 2 * n / 3
set-in-dict n = omega arith

-- ---- what is stored is a dict or a set

abbrev pub IsKeyedContent : Content → Type 0
IsKeyedContent c = ((dict : DictContent) × (c ≡ content.Dict dict)) ⊎ ((set : SetContent) × (c ≡ content.Set set))

pub keyed-known : (v : View) (o : ℕ) → ∥ IsReachable v ∥₁ → has_lock o v.log ≡ true → IsKeyed (kind_in v.shape.starts o) → IsKeyedContent (known_state o v).content
keyed-known v o possible mine keyed = by (kind_in v.shape.starts o) refl keyed
  where
    by : (k : Kind) → kind_in v.shape.starts o ≡ k → IsKeyed k → IsKeyedContent (known_state o v).content
    by kind.Dict is keyed' = inl (dict_known v o possible mine is)
    by kind.Set is keyed' = inr (set_known v o possible mine is)
    by kind.List is keyed' = absurd keyed'
    by (kind.Deque bound) is keyed' = absurd keyed'

-- ---- where there is no table

dict-bare : (texts block words : List ℕ) (class : Option ℕ) (fill : ℕ) (dict : DictContent) (last : Option ℕ) → IsDictWords texts block words class fill dict → slice_index block 0 ≡ 0 → IsNextOf (content.Dict dict) last None
dict-bare texts block words None fill dict last says bare = none-mapped (λ (e : UsedEntry). is_after last e.serial) used_pair dict.pairs (sym says.entries.live ∙ ap (filter is_live) says.table)
dict-bare texts block words (Some class) fill dict last says bare = absurd (let is = says.head.root.1.2 in omega (arith, is, bare))

set-bare : (texts block words : List ℕ) (class : Option ℕ) (fill : ℕ) (set : SetContent) (last : Option ℕ) → IsSetWords texts block words class fill set → slice_index block 0 ≡ 0 → IsNextOf (content.Set set) last None
set-bare texts block words None fill set last says bare = none-mapped (λ (e : UsedEntry). is_after last e.serial) used_element set.elements (sym says.entries.live ∙ ap (filter is_live) says.table)
set-bare texts block words (Some class) fill set last says bare = absurd (let is = says.head.root.1.2 in omega (arith, is, bare))

-- ---- by the words that are held

module _ (texts : List ℕ) (x : ContainerWords) (kept : ContainerState) (stands : Represents texts x kept) where
  abbrev words : List ℕ
  words = 0 ∷ 0 ∷ x.table

  pub bare-next : (last : Option ℕ) → IsKeyedContent kept.content → slice_index x.block 0 ≡ 0 → IsNextOf kept.content last None
  bare-next last (inl d) bare = subst (λ (c : Content). IsNextOf c last None) (sym d.1) (dict-bare texts x.block words kept.table.class kept.table.fill d.0 last (subst (λ (c : Content). StandsAs texts x.block words kept.table c) d.1 stands) bare)
  bare-next last (inr s) bare = subst (λ (c : Content). IsNextOf c last None) (sym s.1) (set-bare texts x.block words kept.table.class kept.table.fill s.0 last (subst (λ (c : Content). StandsAs texts x.block words kept.table c) s.1 stands) bare)

  module _ (k : Shape) (table : Table) (in_bank : IsTableIn k table) (names : root_in x ≡ suc (table_id table)) where
    abbrev mask : ℕ
    mask = class_mask table.class

    class-is : kept.table.class ≡ Some table.class
    class-is = class_known texts x kept (table_id table) stands names ∙ ap Some (class_is table in_bank.2)

    dict-says : (d : (dict : DictContent) × (kept.content ≡ content.Dict dict)) → IsDictWords texts x.block words (Some table.class) kept.table.fill d.0
    dict-says d = subst (λ (z : Option ℕ). IsDictWords texts x.block words z kept.table.fill d.0) class-is (subst (λ (c : Content). StandsAs texts x.block words kept.table c) d.1 stands)

    set-says : (s : (set : SetContent) × (kept.content ≡ content.Set set)) → IsSetWords texts x.block words (Some table.class) kept.table.fill s.0
    set-says s = subst (λ (z : Option ℕ). IsSetWords texts x.block words z kept.table.fill s.0) class-is (subst (λ (c : Content). StandsAs texts x.block words kept.table c) s.1 stands)

    pub fill-low : IsKeyedContent kept.content → slice_index x.block 2 ≤ dict_room mask
    fill-low (inl d) = let says = dict-says d in let few = says.table.fill in let is = says.filled in let fill = says.head.fill_is in omega (arith, few, is, fill)
    fill-low (inr s) = let says = set-says s in let few = says.table.fill in let is = says.filled in let fill = says.head.fill_is in let low = set-in-dict (mask + 1) in omega (arith, few, is, fill, low)

    -- each of them has a version
    pub fill-rows : (kd : Kind) → kind_of kept.content ≡ kd → IsKeyedContent kept.content → slice_index x.block 2 ≤ rows kd (class_of (table_id table))
    unfolding slots
    fill-rows kd of (inl d) =
        let says = dict-says d in
        let few = says.table.fill in
        let is = says.filled in
        let fill = says.head.fill_is in
        let e = places_is k table mask in_bank refl in
        subst (λ (z : Kind). slice_index x.block 2 ≤ rows z (class_of (table_id table))) (sym (ap kind_of d.1) ∙ of) (omega (arith, few, is, fill, e))
    fill-rows kd of (inr s) =
        let says = set-says s in
        let few = says.table.fill in
        let is = says.filled in
        let fill = says.head.fill_is in
        let e = slots_is k table mask in_bank refl in
        subst (λ (z : Kind). slice_index x.block 2 ≤ rows z (class_of (table_id table))) (sym (ap kind_of s.1) ∙ of) (omega (arith, few, is, fill, e))

    pub next-held : (last : Option ℕ) (given : Option Pair) → IsKeyedContent kept.content → GivesPair mask words (slice_index x.block 2) last given → IsNextOf kept.content last given
    next-held last given (inl d) gives =
        let says = dict-says d in
        let g = gives way.Dict texts says.used says.table (says.filled ∙ sym says.head.fill_is) in
        subst (λ (c : Content). IsNextOf c last given) (sym d.1)
        (sym g ∙ (ap (find (λ (e : UsedEntry). is_after last e.serial)) says.entries.live ∙ find-map (λ (e : UsedEntry). is_after last e.serial) used_pair d.0.pairs))
    next-held last given (inr s) gives =
        let says = set-says s in
        let g = gives way.Set texts says.used says.table (says.filled ∙ sym says.head.fill_is) in
        subst (λ (c : Content). IsNextOf c last given) (sym s.1)
        (sym g ∙ (ap (find (λ (e : UsedEntry). is_after last e.serial)) says.entries.live ∙ find-map (λ (e : UsedEntry). is_after last e.serial) used_element s.0.elements))
