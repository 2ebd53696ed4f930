-- A set in the midst of a write that takes some of its elements out: what each deletion leaves, and what all of them come to.
use Rattle.std.proofs.Common.{◌≡◌, ◌≢◌, ℕ, suc, ◌+◌, ◌-◌, ◌*◌, ◌%◌, ◌<◌, ◌≤◌, Bool, true, false, List, [], ◌∷◌, length, filter, find, cond, Option, Some, refl, sym, ap, ◌∙◌, subst, arith, length-set, get_or-set_same, get_or-set_other, inl, inr, ⊎_elim}
use Rattle.std.specs.Prelude.{All, ◌||◌, not, slice_index, slice_set, slice_get}
use Rattle.std.specs.List.{list_any}
use Rattle.std.specs.Option.{option_map_or}
use mathlib.Core.Logic.{dite}
use native.Mathlib.Decide.{ℕ_discrete}
use Rattle.std.proofs.Math.Decide.{dec_lt}
use Rattle.std.proofs.lemmas.Option.{get_or_from_slice_get, slice_get_within}
use Rattle.ft_model.specs.declared.content.Content.{Content}
use Rattle.ft_model.specs.declared.content.Content.TheVariants as content
use Rattle.ft_model.specs.declared.content.Element.{Element}
use Rattle.ft_model.specs.declared.data.Key.{Key}
use Rattle.ft_model.specs.declared.script.Kind.{Kind}
use Rattle.ft_model.specs.declared.script.Kind.TheVariants as kind
use Rattle.ft_model.specs.Classes.{IsClass, set_entries}
use Rattle.ft_model.specs.Contents.{SetContent, IsSet, has_element, set_discard}
use Rattle.ft_model.specs.Keys.{same_key}
use Rattle.ft_model.specs.TableUses.{TableUse}
use Rattle.ft_model.proofs.KeyLemmas.{same_key-refl, same_key-true}
use Rattle.ft_hash.specs.Probes.{set_slots}
use Rattle.ft_hash.proofs.Walks.{set_slots-within}
use Rattle.ft_layout.specs.Words.{FitsKey, IsEntry, gone_kind}
use Rattle.ft_layout.specs.Tables.{UsedEntry, hash_of, set_room, slot_of, IsSetTable}
use Rattle.ft_layout.specs.Tables as layout
use Rattle.ft_layout.specs.WordChanges.{with_deleted}
use Rattle.ft_layout.specs.Containers.{class_mask, used_element, IsBlock, IsSetWords}
use Rattle.ft_layout.proofs.ContentLaws.{stands_for_set}
use Rattle.ft_layout.proofs.Powers.{slots_range}
use Rattle.ft_layout.proofs.WordLaws.{gone_is, kind_range}
use Rattle.ft_layout.proofs.WordLaws as words
use Rattle.ft_trace.specs.declared.Shape.{Shape}
use Rattle.ft_trace.specs.declared.View.{View}
use Rattle.ft_trace.specs.Addresses.{class_of, slots, size}
use Rattle.ft_trace.specs.Carefuls.{HasLiveKey, IsDead, said_of, OpensChanged}
use Rattle.ft_trace.specs.Holds.{held_unboxed, known_state}
use Rattle.ft_trace.specs.Kinds.{element_words, is_key, rows, under}
use Rattle.ft_trace.specs.Pictures.{ContainerWords, root_in, entry_offset, entry_field, Represents}
use Rattle.ft_trace.specs.ContainerStates.{ContainerState, kind_in}
use Rattle.ft_trace.specs.WholeWrites.{to_block, to_table, with_puts, MayPut, MayPuts}
use Rattle.ft_trace.proofs.ByKind.{keyed_low}
use Rattle.ft_trace.proofs.EntryPuts.{dead_is, dead_kind, dead_open, dead_others, dead_now}
use Rattle.ft_trace.proofs.FitCalls.{set_fits_words}
use Rattle.ft_trace.proofs.Known.{after_header, class_known}
use Rattle.ft_trace.proofs.LookReplies.{element_there}
use Rattle.ft_trace.proofs.SetKnown as set
use Rattle.ft_trace.proofs.SetDiscards as discarded
use Rattle.ft_trace.proofs.Tellings.{key_is, key_words, live_tells, right_is_live, word_is}
use Rattle.ft_trace.proofs.ValuePlaces.{set_entry_far}
use Rattle.ft_bank.specs.declared.table.Table.{Table}
use Rattle.ft_bank.specs.TableNames.{table_id}
use Rattle.ft_bank.specs.Whole.{OnlyLoaded, OnlyWritten}
use Rattle.ft_bank.proofs.KnownAfterWrites.{loaded_put, work_knows}
use Rattle.ft_search.specs.OneEntryWrites.{WritesEntries, deletion}
use Rattle.ft_search.proofs.Changing.{with_count}
use Rattle.ft_search.proofs.Laws.{SetLaws}
use Rattle.ft_search.proofs.Puts.{table_class, writes_on}
use Rattle.ft_merging.specs.Thinning.{stays}
use Rattle.ft_merging.specs.Internal.ThinningSteps.{IsThinned, spared}
use Rattle.ft_merging.specs.Internal.EntriesAtOnce.{IsMidway, NoneDead, version_of}
use Rattle.ft_merging.proofs.Ending.{read_same}

-- ---- elements

-- one that doesn't stay may be taken out first
discard_stays : (f : Key → Bool) (key : Key) → f key ≡ false → (es : List Element) → filter (λ (e : Element). f e.key) (filter (λ (e : Element). not (same_key e.key key)) es) ≡ filter (λ (e : Element). f e.key) es
discard_stays f key out [] = refl
discard_stays f key out (e ∷ es) =
    let rest = discard_stays f key out es in
    elim (same_key e.key key) as (λ b. same_key e.key key ≡ b → filter (λ (x : Element). f x.key) (cond (not b) (e ∷ filter (λ (x : Element). not (same_key x.key key)) es) (filter (λ (x : Element). not (same_key x.key key)) es)) ≡ filter (λ (x : Element). f x.key) (e ∷ es)) [
      | true ↦ λ yes. rest ∙ sym (ap (λ (b : Bool). cond b (e ∷ filter (λ (x : Element). f x.key) es) (filter (λ (x : Element). f x.key) es)) (ap f (same_key-true e.key key yes) ∙ out))
      | false ↦ λ no. ap (λ (z : List Element). cond (f e.key) (e ∷ z) z) rest
    ] refl

-- what isn't there isn't among fewer
none_filtered : (test keep : Element → Bool) (es : List Element) → option_map_or element_words (find test es) [] ≡ [] → option_map_or element_words (find test (filter keep es)) [] ≡ []
none_filtered test keep [] none = refl
none_filtered test keep (e ∷ es) none =
    elim (test e) as (λ b. test e ≡ b → option_map_or element_words (cond b (Some e) (find test es)) [] ≡ [] → option_map_or element_words (find test (filter keep (e ∷ es))) [] ≡ []) [
      | true ↦ λ yes same. absurd (cc)
      | false ↦ λ no same.
          let rest = none_filtered test keep es same in
          elim (keep e) as (λ b. option_map_or element_words (find test (cond b (e ∷ filter keep es) (filter keep es))) [] ≡ []) [
            | true ↦ ap (λ (b : Bool). option_map_or element_words (cond b (Some e) (find test (filter keep es))) []) no ∙ rest
            | false ↦ rest
          ]
    ] refl none

-- what is there is found
pub found_words : (test : Element → Bool) (es : List Element) → list_any test es ≡ true → option_map_or element_words (find test es) [] ≢ []
found_words test [] some = absurd (cc)
found_words test (e ∷ es) some =
    elim (test e) as (λ b. (b || list_any test es) ≡ true → option_map_or element_words (cond b (Some e) (find test es)) [] ≢ []) [
      | true ↦ λ yes none. absurd (cc)
      | false ↦ λ yes. found_words test es yes
    ] some

later : (a b : Bool) → b ≡ true → (a || b) ≡ true
later true b e = refl
later false b e = e

-- where each stays, all are left
all_stay : (f : Key → Bool) (es : List Element) → All (λ (e : Element). FitsKey e.key) es → ((key : Key) → FitsKey key → list_any (λ (e : Element). is_key e.key key) es ≡ true → f key ≡ true) → filter (λ (e : Element). f e.key) es ≡ es
all_stay f [] fits each = refl
all_stay f (e ∷ es) fits each =
    let here = each e.key (fits 0 e (omega arith)) (ap (λ (b : Bool). b || list_any (λ (x : Element). is_key x.key e.key) es) (key_is e.key e.key refl refl)) in
    let rest = all_stay f es (λ i d low. fits (suc i) d (omega (arith, low))) (λ key ok there. each key ok (later (is_key e.key key) (list_any (λ (x : Element). is_key x.key key) es) there)) in
    ap (λ (b : Bool). cond b (e ∷ filter (λ (x : Element). f x.key) es) (filter (λ (x : Element). f x.key) es)) here ∙ ap (λ (z : List Element). e ∷ z) rest

-- one of those that were there stays, or it goes, and a new one stays
pub spared_stays : (kept : Bool) (others first : SetContent) (key : Key) → stays kept others key ≡ true → spared kept others first key ≡ true
spared_stays kept others first key is = later (not (has_element first.elements key)) (stays kept others key) is

pub spared_goes : (kept : Bool) (others first : SetContent) (key : Key) → has_element first.elements key ≡ true → stays kept others key ≡ false → spared kept others first key ≡ false
spared_goes kept others first key there out = ap (λ (b : Bool). not b || stays kept others key) there ∙ out

pub spared_own : (kept : Bool) (others first : SetContent) (es : List Element) → ((key : Key) → has_element es key ≡ true → has_element first.elements key ≡ true) → filter (λ (e : Element). spared kept others first e.key) es ≡ filter (λ (e : Element). stays kept others e.key) es
spared_own kept others first [] each = refl
spared_own kept others first (e ∷ es) each =
    let there = each e.key (ap (λ (b : Bool). b || has_element es e.key) (same_key-refl e.key)) in
    let here : spared kept others first e.key ≡ stays kept others e.key = ap (λ (b : Bool). not b || stays kept others e.key) there in
    let rest = spared_own kept others first es (λ key is. each key (later (same_key e.key key) (has_element es key) is)) in
    λ i. cond (here i) (e ∷ rest i) (rest i)

-- ---- an entry of a set whose other entries may be written too

module _ (laws : SetLaws) (texts : List ℕ) (x : ContainerWords) (tab : TableUse) (t : ℕ) (is_class : IsClass (class_of t)) (elements : SetContent) (says : IsSetWords texts x.block (0 ∷ 0 ∷ x.table) (Some (class_of t)) tab.fill elements) (p : ℕ) (key : Key) (low : p < set_entries (class_of t)) (live : HasLiveKey (slots (class_of t)) x.table p key) (fits : FitsKey key) where
  abbrev c : ℕ
  c = class_of t

  abbrev n : ℕ
  n = slots c

  abbrev walk : ℕ → List ℕ
  walk hash = set_slots hash (class_mask c) (class_mask c + 14)

  within : (hash : ℕ) → All (λ slot. slot ≤ class_mask c) (walk hash)
  within hash = set_slots-within hash (class_mask c) (class_mask c + 14)

  in_order : IsSet elements.next elements.elements
  in_order = stands_for_set texts x.block (0 ∷ 0 ∷ x.table) (Some c) tab.fill elements says

  -- the element whose entry it is
  mine : (item : Element) × (slice_get says.used p ≡ Some (used_element item)) × (item.key ≡ key)
  mine =
      let room : set_room (class_mask c) ≡ set_entries c = set.room_is laws.first texts x.block c tab.fill is_class elements x.table says in
      let tells = live_tells walk (set_room (class_mask c)) texts c is_class says.used x.table says.table p key (omega (arith, room, low)) live in
      let l = laws.lives says.used elements p tells.entry says.entries in_order tells.at tells.live in
      let w = key_words tells.entry.key key tells.mine in
      (l.0, tells.at ∙ ap (λ (z : UsedEntry). Some z) l.1, ap (λ (z : UsedEntry). z.key) (sym l.1) ∙ words.same_key tells.entry.key key tells.fits fits w.0 w.1)

  -- it is a used one
  pub used_place : p < tab.fill
  used_place = let inside = slice_get_within says.used p (used_element mine.0) mine.1 in let all = says.filled in omega (arith, inside, all)

  pub right : under (content.Set elements) key ≡ said_of n x.table p
  right = set.set_right laws.first texts x.block c tab.fill is_class elements x.table says p key low live

  pub there : under (content.Set elements) key ≢ []
  there none = absurd (let e = sym right ∙ none in cc)

  -- it has the key's hash
  pub hash_here : entry_field n x.table p 1 ≡ hash_of texts key
  hash_here =
      let any : UsedEntry = used_element mine.0 in
      let inside = slice_get_within says.used p any mine.1 in
      sym (word_is walk (set_room (class_mask c)) texts c is_class says.used x.table says.table p 1)
      ∙ (says.table.hashes p any inside ∙ ap (hash_of texts) (ap (λ (z : UsedEntry). z.key) (get_or_from_slice_get says.used p any any mine.1) ∙ mine.2))

  -- it stores nothing
  pub stores_none : entry_field n x.table p 4 ≢ 4
  stores_none four =
      let any : UsedEntry = used_element mine.0 in
      let word : ℕ → ℕ = layout.entry_word (class_mask c) (0 ∷ 0 ∷ x.table) p in
      let is : IsEntry word (slot_of texts any) = subst (λ (z : UsedEntry). IsEntry word (slot_of texts z)) (get_or_from_slice_get says.used p any any mine.1) (says.table.entries p any (slice_get_within says.used p any mine.1)) in
      let z : 0 ≡ 4 = sym is.value.kind_is ∙ (word_is walk (set_room (class_mask c)) texts c is_class says.used x.table says.table p 4 ∙ four) in
      omega (arith, z)

  module _ (class_eq : tab.class ≡ Some c) (names : root_in x ≡ suc t) (long : n + 8 * set_entries c ≤ length x.table) (even : entry_field n x.table p 0 % 2 ≡ 0) where
    abbrev m : ℕ
    m = set_entries c

    abbrev news : SetContent
    news = set_discard elements key

    abbrev ver : ℕ
    ver = entry_field n x.table p 0

    abbrev block : List ℕ
    block = slice_set x.block 1 (slice_index x.block 1 - 1)

    abbrev opened : List ℕ
    opened = slice_set x.table (entry_offset n p 0) (ver + 1)

    abbrev put : List ℕ
    put = slice_set opened (entry_offset n p 2) (gone_kind key)

    abbrev after : ContainerWords
    after = record { block = block; table = put }

    pub now_odd : entry_field n put p 0 ≡ ver + 1
    now_odd = get_or-set_other opened (entry_offset n p 2) (entry_offset n p 0) (gone_kind key) 0 (λ e. absurd (omega (arith, e))) ∙ get_or-set_same x.table (entry_offset n p 0) (ver + 1) 0 (omega (arith, low, long))

    shorter : length (set_discard elements mine.0.key).elements + 1 ≡ length elements.elements
    shorter = (laws.shrinks says.used elements p mine.0 says.entries in_order mine.1).1

    pub some : 0 < slice_index x.block 1
    some = let s = shorter in let h : slice_index x.block 1 ≡ length elements.elements = says.head.count_is in omega (arith, s, h)

    opened_says : IsSetWords texts x.block (0 ∷ 0 ∷ opened) (Some c) tab.fill elements
    unfolding slots
    opened_says =
        let r = (slots_range c is_class).0 in
        let table : IsSetTable texts (class_mask c) says.used (0 ∷ 0 ∷ opened) = subst (λ (z : List ℕ). IsSetTable texts (class_mask c) says.used z) (after_header x.table (layout.entry_at (class_mask c) p 0) (entry_offset n p 0) (ver + 1) (omega (arith, r)))
        (laws.versions walk (set_room (class_mask c)) texts (class_mask c) says.used (0 ∷ 0 ∷ x.table) p (ver + 1) within says.table) in
        record { head = says.head; used = says.used; table = table; filled = says.filled; entries = says.entries }

    head : IsBlock block (Some c) (length (set_discard elements mine.0.key).elements) tab.fill elements.next
    head =
        let s = shorter in
        let h : slice_index x.block 1 ≡ length elements.elements = says.head.count_is in
        let e : slice_index x.block 1 - 1 ≡ length (set_discard elements mine.0.key).elements = omega (arith, s, h) in
        subst (λ (z : ℕ). IsBlock block (Some c) z tab.fill elements.next) e (with_count x.block (Some c) (length elements.elements) (slice_index x.block 1 - 1) tab.fill elements.next says.head)

    same_words : with_deleted (class_mask c) (0 ∷ 0 ∷ opened) p key ≡ 0 ∷ 0 ∷ put
    unfolding slots
    same_words = let r = (slots_range c is_class).0 in after_header opened (layout.entry_at (class_mask c) p 2) (entry_offset n p 2) (gone_kind key) (omega (arith, r))

    pub now_says : IsSetWords texts block (0 ∷ 0 ∷ put) (Some c) tab.fill news
    unfolding opened_says
    now_says =
        let used : slice_get opened_says.used p ≡ Some (used_element mine.0) = mine.1 in
        let made = laws.deletes texts x.block (0 ∷ 0 ∷ opened) block c tab.fill elements opened_says p mine.0 used head in
        let moved : IsSetWords texts block (with_deleted (class_mask c) (0 ∷ 0 ∷ opened) p key) (Some c) tab.fill news = subst (λ (z : Key). IsSetWords texts block (with_deleted (class_mask c) (0 ∷ 0 ∷ opened) p z) (Some c) tab.fill (set_discard elements z)) mine.2 made in
        subst (λ (z : List ℕ). IsSetWords texts block z (Some c) tab.fill news) same_words moved

    pub now_stands : Represents texts after (record { content = content.Set news; table = tab })
    now_stands = subst (λ (z : Option ℕ). IsSetWords texts block (0 ∷ 0 ∷ put) z tab.fill news) (sym class_eq) now_says

    pub now_root : root_in after ≡ root_in x
    now_root = get_or-set_other x.block 1 0 (slice_index x.block 1 - 1) 0 (λ e. absurd (omega (arith, e)))

    inside : (w : ℕ) → w < 8 → entry_offset n p w < size c
    inside w few = keyed_low kind.Set tt c p w low few

    -- its words may be put, whatever the set had before the write
    pub may_delete : (before : Content) → MayPuts kind.Set t before false x (deletion t p key x)
    may_delete before =
        let q1 : MayPut kind.Set t before false x (to_block 1 (slice_index x.block 1 - 1)) = (omega arith, omega arith) in
        let q2 : MayPut kind.Set t before false (record { block = block; table = x.table }) (to_table (entry_offset n p 0) (ver + 1)) = (now_root ∙ names, inside 0 (omega arith), dead_open n m x.table p key low long even live (under before), record { before = λ q less at one. refl; later = λ q less at two. absurd (omega (arith, two, even)) }, set_entry_far c p 0 (omega arith) (λ z. absurd (omega (arith, z))) (λ z. absurd (omega (arith, z)))) in
        let q3 : MayPut kind.Set t before false (record { block = block; table = opened }) (to_table (entry_offset n p 2) (gone_kind key)) = (now_root ∙ names, inside 2 (omega arith), dead_kind n m x.table p key low long even live (under before), record { before = λ q less at one. refl; later = λ q less at two. absurd (omega (arith, at)) }, set_entry_far c p 2 (omega arith) (λ z. absurd (omega (arith, z))) (λ z. absurd (omega (arith, z)))) in
        (q1, (q2, (q3, tt)))

    -- the words of the other entries
    pub others_same : (q w : ℕ) → q ≢ p → w < 8 → entry_field n put q w ≡ entry_field n x.table q w
    others_same q w ne few = dead_others n m x.table p key low long even live q w ne few

    pub other_live : (q : ℕ) (a : Key) → q ≢ p → HasLiveKey n put q a → HasLiveKey n x.table q a
    other_live q a ne l = (sym (others_same q 2 ne (omega arith)) ∙ l.0, sym (others_same q 3 ne (omega arith)) ∙ l.1)

    -- the entry isn't there any more
    pub not_live : (a : Key) → HasLiveKey n put p a → ⊥
    not_live a l =
        let kind : entry_field n put p 2 ≡ gone_kind key = get_or-set_same opened (entry_offset n p 2) (gone_kind key) 0 (let e = length-set x.table (entry_offset n p 0) (ver + 1) in omega (arith, low, long, e)) in
        let g = gone_is key in
        let b = (kind_range key).0 in
        let h = (kind_range a).1 in
        let e = l.0 in
        omega (arith, kind, g, b, h, e)

    -- what is under the key of another entry stays
    pub others_under : (q : ℕ) (a : Key) → q < m → q ≢ p → HasLiveKey n put q a → under (content.Set news) a ≡ under (content.Set elements) a
    others_under q a less ne l =
        let e4 = others_same q 4 ne (omega arith) in
        let e5 = others_same q 5 ne (omega arith) in
        let e6 = others_same q 6 ne (omega arith) in
        let said : said_of n put q ≡ said_of n x.table q = λ i. e4 i ∷ (e5 i ∷ (e6 i ∷ [])) in
        set.set_right laws.first texts block c tab.fill is_class news put now_says q a less l
        ∙ (said ∙ sym (set.set_right laws.first texts x.block c tab.fill is_class elements x.table says q a less (other_live q a ne l)))

    -- an entry with an even version says what it said
    pub keeps_under : (q : ℕ) (a : Key) → q < m → entry_field n put q 0 % 2 ≡ 0 → HasLiveKey n put q a → under (content.Set news) a ≡ under (content.Set elements) a
    keeps_under q a less two l =
        others_under q a less (λ (e : q ≡ p). let o = now_odd in let v : entry_field n put q 0 ≡ entry_field n put p 0 = ap (λ (z : ℕ). entry_field n put z 0) e in absurd (omega (arith, o, v, two, even))) l

    pub now_dead : IsDead n put p key
    now_dead = dead_now n m x.table p key low long even live

    -- and no deleted one that is being written has a key that is there
    pub dead_under : NoneDead t m x (record { content = content.Set elements; table = tab }) → NoneDead t m after (record { content = content.Set news; table = tab })
    dead_under none q a less odd dead =
        dite (ℕ_discrete q p)
        (λ (e : q ≡ p).
        let here : IsDead n put p a = subst (λ (z : ℕ). IsDead n put z a) e dead in
        discarded.none_under elements key a fits (set_fits_words texts x.block (0 ∷ 0 ∷ x.table) c tab.fill elements says) (dead_is n m x.table p key low long even live a here))
        (λ ne.
        let v = others_same q 0 ne (omega arith) in
        let was = none q a less (omega (arith, v, odd)) (sym (others_same q 2 ne (omega arith)) ∙ dead.0, sym (others_same q 3 ne (omega arith)) ∙ dead.1) in
        none_filtered (λ (element : Element). is_key element.key a) (λ (element : Element). not (same_key element.key key)) elements.elements was)

-- ---- what the pass knows

pub midway_loaded : (k : Shape) (o : ℕ) (table : Table) (mid : ContainerState) (v w : View) → v.shape ≡ k → OnlyLoaded v w → IsMidway k o table mid v → IsMidway k o table mid w
midway_loaded k o table mid v w shape only b =
    let back : held_unboxed o v ≡ held_unboxed o w = sym (read_same k o v w shape b.writes.container b.writes.locked only) in
    let knows : known_state o v ≡ known_state o w = sym (work_knows v w o only.work) in
    let t = table_id table in
    let m = rows (kind_in k.starts o) (class_of t) in
    record {
      writes = writes_on k o table v w shape (loaded_put v w o only) only.boxes.references (ap root_in (sym back)) b.writes;
      early = only.work.committed o ∙ b.early;
      stands = subst (λ (y : ContainerWords). Represents k.texts y mid) back b.stands;
      same = subst (λ (y : ContainerWords × ContainerState). (p : ℕ) (key : Key) → p < m → version_of t y.0 p % 2 ≡ 0 → HasLiveKey (slots (class_of t)) y.0.table p key → under mid.content key ≡ under y.1.content key) (λ d. (back d, knows d)) b.same;
      opens = subst (λ (y : ContainerWords × ContainerState). OpensChanged (slots (class_of t)) m y.0.table (under y.1.content) (under mid.content)) (λ d. (back d, knows d)) b.opens;
      gone = subst (λ (y : ContainerWords). NoneDead t m y mid) back b.gone;
      opened = subst (λ (y : ContainerWords). (p : ℕ) → p < m → version_of t y p % 2 ≡ 1 → p < mid.table.fill) back b.opened;
    }

module _ (k : Shape) (s : ℕ) (table : Table) (kept : Bool) (others first : SetContent) (to : ContainerState) (last place : ℕ) (v w : View) (shape : v.shape ≡ k) (only : OnlyLoaded v w) (th : IsThinned k s table kept others first to last place v) where
  abbrev lt : ℕ
  lt = table_id table

  abbrev lm : ℕ
  lm = rows (kind_in k.starts s) (class_of lt)

  back' : held_unboxed s v ≡ held_unboxed s w
  back' = sym (read_same k s v w shape th.midway.writes.container th.midway.writes.locked only)

  knows' : known_state s v ≡ known_state s w
  knows' = sym (work_knows v w s only.work)

  pub thinned_loaded : IsThinned k s table kept others first to last place w
  thinned_loaded = record {
    mid = th.mid;
    midway = midway_loaded k s table (record { content = content.Set th.mid; table = to.table }) v w shape only th.midway;
    first_is = ap (λ (y : ContainerState). y.content) (sym knows') ∙ th.first_is;
    fits = th.fits;
    comes = th.comes;
    even = subst (λ (y : ContainerWords). (p : ℕ) → p < lm → place ≤ p → p < last → version_of lt y p % 2 ≡ 0) back' th.even;
    done = subst (λ (y : ContainerWords). (p : ℕ) (key : Key) → p < lm → p < place → FitsKey key → HasLiveKey (slots (class_of lt)) y.table p key → spared kept others first key ≡ true) back' th.done;
    rest = subst (λ (y : ContainerWords). (p : ℕ) (key : Key) → p < lm → last ≤ p → FitsKey key → HasLiveKey (slots (class_of lt)) y.table p key → spared kept others first key ≡ true) back' th.rest;
  }

module _ (k : Shape) (s : ℕ) (table : Table) (kept : Bool) (others first : SetContent) (to : ContainerState) (last place : ℕ) (v : View) (is : kind_in k.starts s ≡ kind.Set) (th : IsThinned k s table kept others first to last place v) where
  abbrev vt : ℕ
  vt = table_id table

  abbrev vn : ℕ
  vn = slots (class_of vt)

  abbrev vm : ℕ
  vm = set_entries (class_of vt)

  abbrev words_now : ContainerWords
  words_now = held_unboxed s v

  abbrev tab : TableUse
  tab = to.table

  class_is : IsClass (class_of vt)
  class_is = table_class k table th.midway.writes.table_in

  abbrev now : ContainerState
  now = record { content = content.Set th.mid; table = tab }

  class_some : tab.class ≡ Some (class_of vt)
  class_some = class_known k.texts words_now now vt th.midway.stands th.midway.writes.root

  says_now : IsSetWords k.texts words_now.block (0 ∷ 0 ∷ words_now.table) (Some (class_of vt)) tab.fill th.mid
  says_now = subst (λ (z : Option ℕ). IsSetWords k.texts words_now.block (0 ∷ 0 ∷ words_now.table) z tab.fill th.mid) class_some th.midway.stands

  row : (p : ℕ) → p < vm → p < rows (kind_in k.starts s) (class_of vt)
  row p less = subst (λ (z : Kind). p < rows z (class_of vt)) (sym is) less

  unrow : (p : ℕ) → p < rows (kind_in k.starts s) (class_of vt) → p < vm
  unrow p less = subst (λ (z : Kind). p < rows z (class_of vt)) is less

  -- ---- the entry at this place, where a key is there

  module _ (laws : SetLaws) (low : place < vm) (early : place < last) (key : Key) (live : HasLiveKey vn words_now.table place key) (fits : FitsKey key) where
    even_here : version_of vt words_now place % 2 ≡ 0
    even_here = th.even place (row place low) (omega arith) early

    pub hash_is : entry_field vn words_now.table place 1 ≡ hash_of k.texts key
    hash_is = hash_here laws k.texts words_now tab vt class_is th.mid says_now place key low live fits

    -- it was there before the write
    pub was_there : has_element first.elements key ≡ true
    was_there = element_there first key fits th.fits (λ none. there laws k.texts words_now tab vt class_is th.mid says_now place key low live fits (th.midway.same place key (row place low) even_here live ∙ (ap (λ (z : Content). under z key) th.first_is ∙ none)))

    pub may_go : MayPuts (kind_in k.starts s) vt (known_state s v).content false words_now (deletion vt place key words_now)
    may_go =
        subst (λ (z : Kind). MayPuts z vt (known_state s v).content false words_now (deletion vt place key words_now)) (sym is)
        (may_delete laws k.texts words_now tab vt class_is th.mid says_now place key low live fits class_some th.midway.writes.root (set.set_is_long v s vt th.midway.writes.root) even_here (known_state s v).content)

    pub some_there : 0 < slice_index words_now.block 1
    some_there = some laws k.texts words_now tab vt class_is th.mid says_now place key low live fits class_some th.midway.writes.root (set.set_is_long v s vt th.midway.writes.root) even_here

    -- its value names no box
    pub plain_there : entry_field vn words_now.table place 4 ≢ 4
    plain_there = stores_none laws k.texts words_now tab vt class_is th.mid says_now place key low live fits

    module _ (z : View) (only : OnlyWritten s v z) (writes : WritesEntries k s table z) (puts : held_unboxed s z ≡ with_puts words_now (deletion vt place key words_now)) (out : spared kept others first key ≡ false) where
      abbrev long : vn + 8 * vm ≤ length words_now.table
      long = set.set_is_long v s vt th.midway.writes.root

      abbrev words_then : ContainerWords
      words_then = with_puts words_now (deletion vt place key words_now)

      back : words_then ≡ held_unboxed s z
      back = sym puts

      knows : known_state s v ≡ known_state s z
      knows = sym (work_knows v z s only.work)

      abbrev mid_then : Content
      mid_then = content.Set (set_discard th.mid key)

      apart : (p : ℕ) → version_of vt words_then p % 2 ≡ 0 → p ≢ place
      apart p two e =
          let o = now_odd laws k.texts words_now tab vt class_is th.mid says_now place key low live fits class_some th.midway.writes.root long even_here in
          let v : version_of vt words_then p ≡ version_of vt words_then place = ap (version_of vt words_then) e in
          let w = even_here in
          omega (arith, o, v, w, two)

      same_word : (p w : ℕ) → p ≢ place → w < 8 → entry_field vn words_then.table p w ≡ entry_field vn words_now.table p w
      same_word p w ne few = others_same laws k.texts words_now tab vt class_is th.mid says_now place key low live fits class_some th.midway.writes.root long even_here p w ne few

      live_before : (p : ℕ) (a : Key) → p ≢ place → HasLiveKey vn words_then.table p a → HasLiveKey vn words_now.table p a
      live_before p a ne l = other_live laws k.texts words_now tab vt class_is th.mid says_now place key low live fits class_some th.midway.writes.root long even_here p a ne l

      same_then : (p : ℕ) (a : Key) → p < rows (kind_in k.starts s) (class_of vt) → version_of vt words_then p % 2 ≡ 0 → HasLiveKey vn words_then.table p a → under mid_then a ≡ under (known_state s v).content a
      same_then p a less two l =
          let ne = apart p two in
          let e = same_word p 0 ne (omega arith) in
          keeps_under laws k.texts words_now tab vt class_is th.mid says_now place key low live fits class_some th.midway.writes.root long even_here p a (unrow p less) two l
          ∙ th.midway.same p a less (omega (arith, e, two)) (live_before p a ne l)

      gone_then : NoneDead vt (rows (kind_in k.starts s) (class_of vt)) words_then (record { content = mid_then; table = tab })
      gone_then p a less odd dead =
          dead_under laws k.texts words_now tab vt class_is th.mid says_now place key low live fits class_some th.midway.writes.root long even_here
          (λ q b small. th.midway.gone q b (row q small)) p a (unrow p less) odd dead

      -- an entry with an odd version is of a key under which the set had something else
      opens_then : OpensChanged vn (rows (kind_in k.starts s) (class_of vt)) words_then.table (under (known_state s v).content) (under mid_then)
      opens_then p less odd =
          dite (ℕ_discrete p place)
          (λ (e : p ≡ place).
          let dead : IsDead vn words_then.table p key = subst (λ (q : ℕ). IsDead vn words_then.table q key) (sym e) (now_dead laws k.texts words_now tab vt class_is th.mid says_now place key low live fits class_some th.midway.writes.root long even_here) in
          let none = gone_then p key less odd dead in
          let some = there laws k.texts words_now tab vt class_is th.mid says_now place key low live fits in
          (key, inr dead, λ same. some (th.midway.same place key (row place low) even_here live ∙ (sym same ∙ none))))
          (λ ne.
          let e = same_word p 0 ne (omega arith) in
          let odd_before : version_of vt words_now p % 2 ≡ 1 = omega (arith, e, odd) in
          let old = th.midway.opens p less odd_before in
          ⊎_elim
          (λ (l : HasLiveKey vn words_now.table p old.0).
          let here : HasLiveKey vn words_then.table p old.0 = (same_word p 2 ne (omega arith) ∙ l.0, same_word p 3 ne (omega arith) ∙ l.1) in
          let stays_under = others_under laws k.texts words_now tab vt class_is th.mid says_now place key low live fits class_some th.midway.writes.root long even_here p old.0 (unrow p less) ne here in
          (old.0, inl here, λ same. old.2 (sym stays_under ∙ same)))
          (λ (dead : IsDead vn words_now.table p old.0).
          let here : IsDead vn words_then.table p old.0 = (same_word p 2 ne (omega arith) ∙ dead.0, same_word p 3 ne (omega arith) ∙ dead.1) in
          (old.0, inr here, λ same. old.2 (th.midway.gone p old.0 less odd_before dead ∙ (sym (gone_then p old.0 less odd here) ∙ same))))
          old.1)

      opened_then : (p : ℕ) → p < rows (kind_in k.starts s) (class_of vt) → version_of vt words_then p % 2 ≡ 1 → p < tab.fill
      opened_then p less odd =
          dite (ℕ_discrete p place)
          (λ (e : p ≡ place). let u = used_place laws k.texts words_now tab vt class_is th.mid says_now place key low live fits in omega (arith, e, u))
          (λ ne. let e = same_word p 0 ne (omega arith) in th.midway.opened p less (omega (arith, e, odd)))

      even_then : (p : ℕ) → p < rows (kind_in k.starts s) (class_of vt) → place + 1 ≤ p → p < last → version_of vt words_then p % 2 ≡ 0
      even_then p less up before =
          let e = same_word p 0 (λ (same : p ≡ place). omega (arith, same, up)) (omega arith) in
          let old = th.even p less (omega (arith, up)) before in
          omega (arith, e, old)

      done_then : (p : ℕ) (a : Key) → p < rows (kind_in k.starts s) (class_of vt) → p < place + 1 → FitsKey a → HasLiveKey vn words_then.table p a → spared kept others first a ≡ true
      done_then p a less up ok l =
          dite (ℕ_discrete p place)
          (λ (e : p ≡ place). absurd (not_live laws k.texts words_now tab vt class_is th.mid says_now place key low live fits class_some th.midway.writes.root long even_here a (subst (λ (q : ℕ). HasLiveKey vn words_then.table q a) e l)))
          (λ ne. th.done p a less (before p place ne up) ok (live_before p a ne l))
        where
          before : (a b : ℕ) → a ≢ b → a < b + 1 → a < b
          before a b ne up = dite (dec_lt a b) (λ (less : a < b). less) (λ past. absurd (ne (omega (arith, past, up))))

      rest_then : (p : ℕ) (a : Key) → p < rows (kind_in k.starts s) (class_of vt) → last ≤ p → FitsKey a → HasLiveKey vn words_then.table p a → spared kept others first a ≡ true
      rest_then p a less up ok l = th.rest p a less up ok (live_before p a (λ (e : p ≡ place). omega (arith, e, up, early)) l)

      midway_then : IsMidway k s table (record { content = mid_then; table = tab }) z
      midway_then = record {
        writes = writes;
        early = only.work.committed s ∙ th.midway.early;
        stands = subst (λ (y : ContainerWords). Represents k.texts y (record { content = mid_then; table = tab })) back (now_stands laws k.texts words_now tab vt class_is th.mid says_now place key low live fits class_some th.midway.writes.root long even_here);
        same = subst (λ (y : ContainerWords × ContainerState). (p : ℕ) (a : Key) → p < rows (kind_in k.starts s) (class_of vt) → version_of vt y.0 p % 2 ≡ 0 → HasLiveKey vn y.0.table p a → under mid_then a ≡ under y.1.content a) (λ d. (back d, knows d)) same_then;
        opens = subst (λ (y : ContainerWords × ContainerState). OpensChanged vn (rows (kind_in k.starts s) (class_of vt)) y.0.table (under y.1.content) (under mid_then)) (λ d. (back d, knows d)) opens_then;
        gone = subst (λ (y : ContainerWords). NoneDead vt (rows (kind_in k.starts s) (class_of vt)) y (record { content = mid_then; table = tab })) back gone_then;
        opened = subst (λ (y : ContainerWords). (p : ℕ) → p < rows (kind_in k.starts s) (class_of vt) → version_of vt y p % 2 ≡ 1 → p < tab.fill) back opened_then;
      }

      pub thinned_goes : IsThinned k s table kept others first to last (place + 1) z
      thinned_goes = record {
        mid = set_discard th.mid key;
        midway = midway_then;
        first_is = ap (λ (y : ContainerState). y.content) (sym knows) ∙ th.first_is;
        fits = th.fits;
        comes = ap (λ (es : List Element). content.Set (record { next = th.mid.next; elements = es })) (discard_stays (spared kept others first) key out th.mid.elements) ∙ th.comes;
        even = subst (λ (y : ContainerWords). (p : ℕ) → p < rows (kind_in k.starts s) (class_of vt) → place + 1 ≤ p → p < last → version_of vt y p % 2 ≡ 0) back even_then;
        done = subst (λ (y : ContainerWords). (p : ℕ) (a : Key) → p < rows (kind_in k.starts s) (class_of vt) → p < place + 1 → FitsKey a → HasLiveKey vn y.table p a → spared kept others first a ≡ true) back done_then;
        rest = subst (λ (y : ContainerWords). (p : ℕ) (a : Key) → p < rows (kind_in k.starts s) (class_of vt) → last ≤ p → FitsKey a → HasLiveKey vn y.table p a → spared kept others first a ≡ true) back rest_then;
      }

  -- ---- where it stays, or none is there

  pub thinned_stays : ((key : Key) → FitsKey key → HasLiveKey vn words_now.table place key → spared kept others first key ≡ true) → IsThinned k s table kept others first to last (place + 1) v
  thinned_stays each = record {
    mid = th.mid;
    midway = th.midway;
    first_is = th.first_is;
    fits = th.fits;
    comes = th.comes;
    even = λ p less up before. th.even p less (omega (arith, up)) before;
    done = λ p key less up ok live.
        dite (dec_lt p place)
        (λ (before : p < place). th.done p key less before ok live)
        (λ past. let same : p ≡ place = omega (arith, past, up) in each key ok (subst (λ (q : ℕ). HasLiveKey vn words_now.table q key) same live));
    rest = th.rest;
  }

  -- ---- once all entries were looked at

  pub thinned_all : set.FirstEntriesAreElements → place ≡ last → content.Set th.mid ≡ to.content
  thinned_all first_element all =
      ap (λ (es : List Element). content.Set (record { next = th.mid.next; elements = es })) (sym all_left) ∙ th.comes
    where
      all_left : filter (λ element. spared kept others first element.key) th.mid.elements ≡ th.mid.elements
      all_left =
          all_stay (spared kept others first) th.mid.elements (set_fits_words k.texts words_now.block (0 ∷ 0 ∷ words_now.table) (class_of vt) tab.fill th.mid says_now)
          (λ key ok there.
          let walk : ℕ → List ℕ = λ hash. set_slots hash (class_mask (class_of vt)) (class_mask (class_of vt) + 14) in
          let r = right_is_live walk (set_room (class_mask (class_of vt))) k.texts (class_of vt) class_is says_now.used words_now.table says_now.table used_element th.mid.elements (λ test. first_element says_now.used th.mid test says_now.entries) key (found_words (λ (e : Element). is_key e.key key) th.mid.elements there) in
          let inside = r.1 in
          let room : set_room (class_mask (class_of vt)) ≡ vm = set.room_is first_element k.texts words_now.block (class_of vt) tab.fill class_is th.mid words_now.table says_now in
          let few = says_now.table.fill in
          let low = row r.0 (omega (arith, inside, few, room)) in
          dite (dec_lt r.0 last)
          (λ (before : r.0 < last). th.done r.0 key low (omega (arith, before, all)) ok r.2)
          (λ past. th.rest r.0 key low (omega (arith, past)) ok r.2))
