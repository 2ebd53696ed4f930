-- A fresh table that is filled with what a dict or a set has.
use Rattle.std.proofs.Common.{◌≡◌, ◌≢◌, ℕ, zero, suc, ◌+◌, ◌*◌, ◌<◌, ◌≤◌, List, [], ◌∷◌, length, filter, Option, Some, None, refl, sym, ap, ◌∙◌, subst, inl, inr, arith, length-set, get_or-set_same, get_or-set_other}
use Rattle.std.specs.Prelude.{All, map, slice_index, slice_index_or, slice_set}
use mathlib.Core.Logic.{dite}
use Rattle.std.proofs.Math.Decide.{dec_lt}
use Rattle.std.proofs.lemmas.Bool.{cases_eq, cases_lt}
use Rattle.std.proofs.lemmas.List.{get_or_past, length-map}
use Rattle.ft_model.specs.declared.content.Content.{Content}
use Rattle.ft_model.specs.declared.content.Content.TheVariants as content
use Rattle.ft_model.specs.declared.script.Kind.{Kind}
use Rattle.ft_model.specs.Classes.{IsClass}
use Rattle.ft_model.specs.Contents.{DictContent, SetContent}
use Rattle.ft_model.specs.Worlds.{kind_of, length_of}
use Rattle.ft_layout.specs.declared.slot.Stored.{Stored}
use Rattle.ft_layout.specs.declared.slot.Stored.TheVariants.{Empty, Plain}
use Rattle.ft_layout.specs.WordChanges.{IsBlankTable}
use Rattle.ft_layout.specs.Words.{IsEntry, stored_kind}
use Rattle.ft_layout.specs.Containers.{class_mask, used_pair, used_element, AreDictEntries, AreSetEntries, StandsAs}
use Rattle.ft_layout.specs.Tables.{UsedEntry, is_live, dict_room, set_room, table_length, entry_word, hash_of, slot_with, IsTable}
use Rattle.ft_layout.proofs.FieldLaws.{sizes_of_class}
use Rattle.ft_keys.specs.declared.walk.Way.{Way}
use Rattle.ft_keys.specs.declared.walk.Way.TheVariants as way
use Rattle.ft_keys.specs.declared.words.Access.{Access}
use Rattle.ft_keys.specs.Accesses.{Runs, AreAnswered, FitsOld, Tells, TellsOld, after, put_by}
use Rattle.ft_keys.specs.TableChanges.{Moves, Rebuilds}
use Rattle.ft_keys.specs.Puts.{PutBelow}
use Rattle.ft_keys.specs.Ways.{room, IsTableOf}
use Rattle.ft_trace.specs.declared.Shape.{Shape}
use Rattle.ft_trace.specs.declared.View.{View}
use Rattle.ft_trace.specs.Addresses.{class_of, slots, places, size}
use Rattle.ft_trace.specs.Holds.{held_unboxed, known_state, in_hand}
use Rattle.ft_trace.specs.Kinds.{rows, IsKeyed}
use Rattle.ft_trace.specs.Traces.{IsReachable}
use Rattle.ft_trace.specs.Pictures.{entry_offset, entry_field}
use Rattle.ft_trace.specs.ContainerStates.{kind_in}
use Rattle.ft_trace.proofs.Known.{class_known}
use Rattle.ft_trace.proofs.ValuePlaces.{plain_kind}
use Rattle.ft_bank.specs.declared.table.Table.{Table}
use Rattle.ft_bank.specs.Passes.{view}
use Rattle.ft_bank.specs.PassSections.{stack_of}
use Rattle.ft_bank.specs.TableNames.{table_id}
use Rattle.ft_bank.proofs.TableAddresses.{class_is}
use Rattle.ft_boxes.specs.References.{KeepsValues}
use Rattle.ft_boxes.proofs.Steps.{keeps_self, keeps_then}
use Rattle.ft_table_calls.specs.Adding.{OnlyFilled}
use Rattle.ft_table_calls.proofs.Rooting.{filled_same, filled_then}
use Rattle.ft_search.specs.Rounds.{kind_by}
use Rattle.ft_search.proofs.Changing.{kind_is, no_keys}
use Rattle.ft_search.proofs.KnownTableWords.{entry_after_header}
use Rattle.ft_search.proofs.WordPlaces.{slots_of_class}
use Rattle.ft_new_keys.specs.declared.fresh.FreshWords.{FreshWords}
use Rattle.ft_new_keys.specs.Fresh.{FreshMade, fresh_words, old_words, BlankBelow, HasZeroWords, IsFilledWith}
use Rattle.ft_new_keys.specs.KeyGrowth.{KnowsKeyed}
use Rattle.ft_new_keys.proofs.Placed.{use_with}
use Rattle.ft_model.specs.declared.data.Key.{Key}

-- ---- calls, one after the other

pub record FreshRan (s : FreshWords) (calls : List Access) (t : FreshWords) : Type 0 where
  pub bank : t.bank ≡ s.bank
  pub pass : t.pass.ghost_name ≡ s.pass.ghost_name
  pub stack : stack_of t.pass.now ≡ stack_of s.pass.now
  pub o : t.o ≡ s.o
  pub old : t.old ≡ s.old
  pub old_mask : t.old_mask ≡ s.old_mask
  pub table : t.table ≡ s.table
  pub mask : t.mask ≡ s.mask
  pub in_place : t.in_place ≡ s.in_place
  pub only : OnlyFilled (view s.pass.now) (view t.pass.now)
  pub values : KeepsValues (view s.pass.now) (view t.pass.now)
  pub words : fresh_words t ≡ after s.mask calls (fresh_words s)
  pub words_old : old_words t ≡ old_words s
  pub fits : AreAnswered s.mask calls (fresh_words s)
  pub fits_old : FitsOld s.old_mask calls (old_words s)

pub ran_fresh : (s : FreshWords) (calls : List Access) (t : FreshWords) → Runs FreshMade s calls t → FreshRan s calls t
ran_fresh s [] t r = subst (λ (z : FreshWords). FreshRan s [] z) r (record { bank = refl; pass = refl; stack = refl; o = refl; old = refl; old_mask = refl; table = refl; mask = refl; in_place = refl; only = filled_same (view s.pass.now); values = keeps_self (view s.pass.now); words = refl; words_old = refl; fits = tt; fits_old = tt })
ran_fresh s (a ∷ calls) t r =
    let m = r.0 in
    let x = ran_fresh s calls m r.1 in
    let g = r.2 in
    let tells : Tells s.mask a (after s.mask calls (fresh_words s)) = subst (λ (z : ℕ × List ℕ). Tells z.0 a z.1) (λ d. (x.mask d, x.words d)) g.tells in
    let tells_old : TellsOld s.old_mask a (old_words s) = subst (λ (z : ℕ × List ℕ). TellsOld z.0 a z.1) (λ d. (x.old_mask d, x.words_old d)) g.tells_old in
    record {
      bank = g.bank ∙ x.bank;
      pass = g.pass ∙ x.pass;
      stack = g.stack ∙ x.stack;
      o = g.o ∙ x.o;
      old = g.old ∙ x.old;
      old_mask = g.old_mask ∙ x.old_mask;
      table = g.table ∙ x.table;
      mask = g.mask ∙ x.mask;
      in_place = g.in_place ∙ x.in_place;
      only = filled_then (view s.pass.now) (view m.pass.now) (view t.pass.now) x.only g.only;
      values = keeps_then (view s.pass.now) (view m.pass.now) (view t.pass.now) (sym x.only.work.pass.shape) x.only.references x.values g.values;
      words = g.left ∙ (λ d. put_by (x.mask d) a (x.words d));
      words_old = g.left_old ∙ x.words_old;
      fits = (x.fits, tells);
      fits_old = (x.fits_old, tells_old);
    }

-- ---- the sizes of a table

pub table_is_long : (class : ℕ) → IsClass class → size class + 2 ≡ table_length (class_mask class)
unfolding slots places
table_is_long class is_class = let s = sizes_of_class class is_class in let d = s.0 in let m = s.2 in omega (arith, d, m)

pub room_of_way : (by : Way) (class : ℕ) → IsClass class → room by (class_mask class) ≡ rows (kind_by by) class
unfolding places
room_of_way way.Dict class is_class = (sizes_of_class class is_class).0
room_of_way way.Set class is_class = (sizes_of_class class is_class).1

-- where a word of an entry is, as searches count it and as the bank does
pub word_here : (class : ℕ) (l : List ℕ) (place w : ℕ) → entry_word (class_mask class) (0 ∷ 0 ∷ l) place w ≡ entry_field (slots class) l place w
word_here class l place w =
    entry_after_header l (class_mask class) place w
    ∙ ap (slice_index l) (let n = slots_of_class class in let e : 8 * place + w + class_mask class + 1 ≡ entry_offset (slots class) place w = omega (arith, n) in e)

-- ---- a blank table

pub blank_next : (class n : ℕ) (words : List ℕ) → BlankBelow class n words → n < size class → BlankBelow class (n + 1) (slice_set words n 0)
blank_next class n words is low =
    let long = is.long in
    record {
      long = length-set words n 0 ∙ is.long;
      zeros = λ i less. elim (cases_eq i n) [
        | inl e ↦ ap (slice_index (slice_set words n 0)) e ∙ get_or-set_same words n 0 0 (omega (arith, low, long))
        | inr ne ↦ get_or-set_other words n i 0 0 ne ∙ is.zeros i (omega (arith, less, ne))
      ];
    }

pub blank_all : (class : ℕ) (words : List ℕ) → BlankBelow class (size class) words → HasZeroWords class words
blank_all class words is = record {
  long = is.long;
  zeros = λ i. elim (cases_lt i (size class)) [
    | inl low ↦ is.zeros i low
    | inr past ↦ let long = is.long in get_or_past words i 0 (omega (arith, long, past))
  ];
}

pub blank_table : (class : ℕ) → IsClass class → (words : List ℕ) → HasZeroWords class words → IsBlankTable (class_mask class) (0 ∷ 0 ∷ words)
blank_table class is_class words is = record {
  size = let l = is.long in let t = table_is_long class is_class in omega (arith, l, t);
  zeros = λ i which. at i;
}
  where
    at : (i : ℕ) → slice_index (0 ∷ 0 ∷ words) i ≡ 0
    at zero = refl
    at (suc zero) = refl
    at (suc (suc i)) = is.zeros i

-- ---- what words stand for

abbrev pub BlankHolds : Type 0
BlankHolds = (walk : ℕ → List ℕ) (room : ℕ) (texts : List ℕ) (mask : ℕ) (words : List ℕ) → IsBlankTable mask words → IsTable walk room texts mask [] words

abbrev pub LivePairs : Type 0
LivePairs = (used : List UsedEntry) (dict : DictContent) → AreDictEntries used dict → AreDictEntries (filter is_live used) dict × (length (filter is_live used) ≡ length dict.pairs)

abbrev pub LiveElements : Type 0
LiveElements = (used : List UsedEntry) (set : SetContent) → AreSetEntries used set → AreSetEntries (filter is_live used) set × (length (filter is_live used) ≡ length set.elements)

abbrev pub KeepsVersions : Type 0
KeepsVersions = (mask limit : ℕ) (words : List ℕ) (calls : List Access) (place : ℕ) → PutBelow mask limit calls → entry_word mask (after mask calls words) place 0 ≡ entry_word mask words place 0

-- a container without a table is filled by no entry
pub bare_filled : BlankHolds → (texts block old : List ℕ) (class fill : ℕ) (keys : List Key) (d : Content) (words : List ℕ) → IsClass class → IsKeyed (kind_of d) → StandsAs texts block old (record { class = None; fill = fill; keys = keys }) d → HasZeroWords class words → IsFilledWith texts class d words
bare_filled holds texts block old class fill keys (content.Dict pairs) words is_class keyed is blank =
    let none : length pairs.pairs ≡ 0 = sym (length-map pairs.pairs _) ∙ (ap length (sym is.entries.live) ∙ ap (λ (l : List UsedEntry). length (filter is_live l)) is.table) in
    record {
      says = λ head_block head. record {
        head = head;
        used = [];
        table = holds _ (dict_room (class_mask class)) texts (class_mask class) (0 ∷ 0 ∷ words) (blank_table class is_class words blank);
        filled = sym none;
        entries = subst (λ (l : List UsedEntry). AreDictEntries l pairs) is.table is.entries;
      };
      versions = λ place low. blank.zeros (entry_offset (slots class) place 0);
      plain = λ place low four. let z = blank.zeros (entry_offset (slots class) place 4) in omega (arith, z, four);
    }
bare_filled holds texts block old class fill keys (content.Set elements) words is_class keyed is blank =
    let none : length elements.elements ≡ 0 = sym (length-map elements.elements _) ∙ (ap length (sym is.entries.live) ∙ ap (λ (l : List UsedEntry). length (filter is_live l)) is.table) in
    record {
      says = λ head_block head. record {
        head = head;
        used = [];
        table = holds _ (set_room (class_mask class)) texts (class_mask class) (0 ∷ 0 ∷ words) (blank_table class is_class words blank);
        filled = sym none;
        entries = subst (λ (l : List UsedEntry). AreSetEntries l elements) is.table is.entries;
      };
      versions = λ place low. blank.zeros (entry_offset (slots class) place 0);
      plain = λ place low four. let z = blank.zeros (entry_offset (slots class) place 4) in omega (arith, z, four);
    }
bare_filled holds texts block old class fill keys (content.List values) words is_class keyed is blank = absurd keyed
bare_filled holds texts block old class fill keys (content.Deque deque) words is_class keyed is blank = absurd keyed

-- what these entries store stands in place
abbrev ArePlainEntries : List UsedEntry → Type 0
ArePlainEntries used = All (λ (e : UsedEntry). (stored : Stored) × (e.stored ≡ Some stored) × (stored_kind stored ≢ 4)) used

mapped_plain : {Y : Type 0} (of : Y → UsedEntry) → ((y : Y) → (stored : Stored) × ((of y).stored ≡ Some stored) × (stored_kind stored ≢ 4)) → (ys : List Y) → ArePlainEntries (map of ys)
mapped_plain of plain [] k d low = absurd (omega (arith, low))
mapped_plain of plain (y ∷ ys) zero d low = plain y
mapped_plain of plain (y ∷ ys) (suc k) d low = mapped_plain of plain ys k d (omega (arith, low))

-- no value of a table with such entries names a box
module _ (walk : ℕ → List ℕ) (room : ℕ) (texts : List ℕ) (class : ℕ) (l : List ℕ) where
  live_plain : (used : List UsedEntry) → IsTable walk room texts (class_mask class) used (0 ∷ 0 ∷ l) → ArePlainEntries used → (place : ℕ) (any : UsedEntry) → place < length used → entry_field (slots class) l place 4 ≢ 4
  live_plain used table plain place any low four =
      let p = plain place any low in
      let entry = slice_index_or used place any in
      let is : IsEntry (entry_word (class_mask class) (0 ∷ 0 ∷ l) place) (slot_with (hash_of texts entry.key) entry.key entry.serial (Some p.0)) =
      subst (λ (s : Option Stored). IsEntry (entry_word (class_mask class) (0 ∷ 0 ∷ l) place) (slot_with (hash_of texts entry.key) entry.key entry.serial s)) p.1 (table.entries place any low) in
      p.2 (sym is.value.kind_is ∙ (word_here class l place 4 ∙ four))

  never_plain : (used : List UsedEntry) → IsTable walk room texts (class_mask class) used (0 ∷ 0 ∷ l) → (place : ℕ) → length used ≤ place → place < room → entry_field (slots class) l place 4 ≢ 4
  never_plain used table place past low four =
      let none = (table.unused place past low).value.kind_is in
      let z : 0 ≡ 4 = sym none ∙ (word_here class l place 4 ∙ four) in
      omega (arith, z)

  pub table_plain : (used : List UsedEntry) → IsTable walk room texts (class_mask class) used (0 ∷ 0 ∷ l) → ArePlainEntries used → (place : ℕ) → place < room → entry_field (slots class) l place 4 ≢ 4
  table_plain [] table plain place low = never_plain [] table place (omega arith) low
  table_plain (e ∷ used) table plain place low =
      dite (dec_lt place (length (e ∷ used)))
      (λ less. live_plain (e ∷ used) table plain place e less)
      (λ past. never_plain (e ∷ used) table place (omega (arith, past)) low)

-- and one with a table by those of its entries that are there
module _ (holds : BlankHolds) (pairs_live : LivePairs) (elements_live : LiveElements) (keeps : KeepsVersions) (texts block old_table : List ℕ) (old_class class fill limit : ℕ) (calls : List Access) (words made : List ℕ) (is_class : IsClass class) (is_old : IsClass old_class) (blank : HasZeroWords class words)
    (below : PutBelow (class_mask class) limit calls) (is_made : 0 ∷ 0 ∷ made ≡ after (class_mask class) calls (0 ∷ 0 ∷ words)) where
  abbrev mask : ℕ
  mask = class_mask class

  pub zero_versions : (place : ℕ) → entry_field (slots class) made place 0 ≡ 0
  zero_versions place =
      sym (word_here class made place 0)
      ∙ (ap (λ (l : List ℕ). entry_word mask l place 0) is_made
      ∙ (keeps mask limit (0 ∷ 0 ∷ words) calls place below
      ∙ (word_here class words place 0 ∙ blank.zeros (entry_offset (slots class) place 0))))

  pub copied : (d : Content) (by : Way) (result : ℕ) → kind_of d ≡ kind_by by → StandsAs texts block (0 ∷ 0 ∷ old_table) (use_with old_class fill) d → length_of d ≤ rows (kind_by by) class
      → Rebuilds by mask fill result (class_mask old_class) (0 ∷ 0 ∷ old_table) (0 ∷ 0 ∷ words) (after mask calls (0 ∷ 0 ∷ words)) → IsFilledWith texts class d made
  copied (content.Dict pairs) way.Dict result same is few rebuilds =
      let live = pairs_live is.used pairs is.entries in
      let r = room_of_way way.Dict class is_class in
      let many = live.1 in
      let done = rebuilds texts is.used (holds _ (dict_room mask) texts mask (0 ∷ 0 ∷ words) (blank_table class is_class words blank)) is.table is.filled (omega (arith, r, many, few)) in
      let table = subst (λ (l : List ℕ). IsTableOf way.Dict texts mask (filter is_live is.used) l) (sym is_made) done.0 in
      record {
        says = λ head_block head. record {
          head = head;
          used = filter is_live is.used;
          table = table;
          filled = live.1;
          entries = live.0;
        };
        versions = λ place low. zero_versions place;
        plain = λ place low.
            table_plain _ (dict_room mask) texts class made (map used_pair pairs.pairs) (subst (λ (u : List UsedEntry). IsTableOf way.Dict texts mask u (0 ∷ 0 ∷ made)) is.entries.live table)
            (mapped_plain used_pair (λ p. (Plain p.value, refl, plain_kind p.value)) pairs.pairs) place (omega (arith, low, r));
      }
  copied (content.Set elements) way.Set result same is few rebuilds =
      let live = elements_live is.used elements is.entries in
      let r = room_of_way way.Set class is_class in
      let many = live.1 in
      let done = rebuilds texts is.used (holds _ (set_room mask) texts mask (0 ∷ 0 ∷ words) (blank_table class is_class words blank)) is.table is.filled (omega (arith, r, many, few)) in
      let table = subst (λ (l : List ℕ). IsTableOf way.Set texts mask (filter is_live is.used) l) (sym is_made) done.0 in
      record {
        says = λ head_block head. record {
          head = head;
          used = filter is_live is.used;
          table = table;
          filled = live.1;
          entries = live.0;
        };
        versions = λ place low. zero_versions place;
        plain = λ place low.
            table_plain _ (set_room mask) texts class made (map used_element elements.elements) (subst (λ (u : List UsedEntry). IsTableOf way.Set texts mask u (0 ∷ 0 ∷ made)) is.entries.live table)
            (mapped_plain used_element (λ e. (Empty, refl, λ z. omega (arith, z))) elements.elements) place (omega (arith, low, r));
      }
  copied (content.Dict pairs) way.Set result same is few rebuilds = absurd (cc)
  copied (content.Set elements) way.Dict result same is few rebuilds = absurd (cc)
  copied (content.List values) way.Dict result same is few rebuilds = absurd (cc)
  copied (content.Deque deque) way.Dict result same is few rebuilds = absurd (cc)
  copied (content.List values) way.Set result same is few rebuilds = absurd (cc)
  copied (content.Deque deque) way.Set result same is few rebuilds = absurd (cc)

-- so calls that rebuild the old one fill the fresh one
fill_room : (texts b l : List ℕ) (class fill : ℕ) (d : Content) → IsKeyed (kind_of d) → IsClass class → StandsAs texts b (0 ∷ 0 ∷ l) (use_with class fill) d → fill ≤ rows (kind_of d) class
fill_room texts b l class fill (content.Dict pairs) keyed is_class is = let f = is.table.fill in let e = is.filled in let r = room_of_way way.Dict class is_class in omega (arith, f, e, r)
fill_room texts b l class fill (content.Set elements) keyed is_class is = let f = is.table.fill in let e = is.filled in let r = room_of_way way.Set class is_class in omega (arith, f, e, r)
fill_room texts b l class fill (content.List values) keyed is_class is = absurd keyed
fill_room texts b l class fill (content.Deque deque) keyed is_class is = absurd keyed

module _ (k : Shape) (o : ℕ) (old : Table) (v : View) (keyed : KnowsKeyed k o (Some old) v) (shape : v.shape ≡ k) (possible : ∥ IsReachable v ∥₁) (by : Way) (kind_eq : kind_in k.starts o ≡ kind_by by) where
  abbrev d : Content
  d = (known_state o v).content

  abbrev fill : ℕ
  fill = (known_state o v).table.fill

  content_kind : kind_of d ≡ kind_in k.starts o
  content_kind = kind_is k v o shape possible keyed.locked

  old_says : StandsAs k.texts (held_unboxed o v).block (0 ∷ 0 ∷ (held_unboxed o v).table) (use_with old.class fill) d
  old_says =
      let class = class_known k.texts (held_unboxed o v) (known_state o v) (table_id old) keyed.stands keyed.root ∙ ap (λ (n : ℕ). Some n) (class_is old (keyed.table_in old refl).2) in
      subst (λ (z : Option ℕ × List Key). StandsAs k.texts (held_unboxed o v).block (0 ∷ 0 ∷ (held_unboxed o v).table) (record { class = z.0; fill = fill; keys = z.1 }) d) (λ i. (class i, no_keys v o possible keyed.locked i)) keyed.stands

  pub old_fits : fill ≤ rows (kind_in k.starts o) (class_of (table_id old))
  old_fits =
      let table_in = keyed.table_in old refl in
      subst (λ (z : Kind × ℕ). fill ≤ rows z.0 z.1) (λ i. (content_kind i, sym (class_is old table_in.2) i))
      (fill_room k.texts (held_unboxed o v).block (held_unboxed o v).table old.class fill d (subst IsKeyed (sym content_kind) keyed.keyed) table_in.0 old_says)

  pub filled_by : BlankHolds → LivePairs → LiveElements → KeepsVersions → (s t : FreshWords) (class most result : ℕ) → IsClass class → s.mask ≡ class_mask class → s.old_mask ≡ class_mask old.class → HasZeroWords class (in_hand (table_id s.table) (view s.pass.now)) → old_words s ≡ 0 ∷ 0 ∷ (held_unboxed o v).table → length_of d ≤ rows (kind_by by) class
      → (n : ℕ) → n ≡ fill → Moves FreshMade s.mask s t most result (Rebuilds by s.mask n result) → IsFilledWith k.texts class d (in_hand (table_id s.table) (view t.pass.now))
  filled_by holds pairs_live elements_live keeps s t class most result is_class last old_last blank words few n same_fill moves =
      let r = ran_fresh s moves.calls t moves.runs in
      let made : 0 ∷ 0 ∷ in_hand (table_id s.table) (view t.pass.now) ≡ after s.mask moves.calls (fresh_words s) = ap (λ (z : Table). 0 ∷ 0 ∷ in_hand (table_id z) (view t.pass.now)) (sym r.table) ∙ r.words in
      let done = moves.done (fresh_words s) (old_words s) s.old_mask r.fits r.fits_old in
      copied holds pairs_live elements_live keeps k.texts (held_unboxed o v).block (held_unboxed o v).table old.class class fill result moves.calls (in_hand (table_id s.table) (view s.pass.now)) (in_hand (table_id s.table) (view t.pass.now)) is_class (keyed.table_in old refl).0 blank
      (subst (λ (m : ℕ). PutBelow m result moves.calls) last moves.below)
      (made ∙ ap (λ (m : ℕ). after m moves.calls (fresh_words s)) last)
      d by result (content_kind ∙ kind_eq) old_says few
      (subst (λ (z : ℕ × ℕ × ℕ × List ℕ). Rebuilds by z.0 z.1 result z.2 z.3 (fresh_words s) (after z.0 moves.calls (fresh_words s))) (λ i. (last i, same_fill i, old_last i, words i)) done)
