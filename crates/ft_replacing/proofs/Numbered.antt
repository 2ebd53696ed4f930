-- A fresh table that has the pairs of a dict, once they have new serials.
use Rattle.std.proofs.Common.{◌≡◌, ◌≢◌, ℕ, zero, suc, ◌+◌, ◌<◌, ◌≤◌, Bool, true, false, List, [], ◌∷◌, map, length, get_or, filter, Some, refl, sym, ap, ◌∙◌, subst, inl, inr, arith, length-set, get_or-set_same, get_or-set_other}
use Rattle.std.specs.Prelude.{AllPairs, slice_index, if◌then◌else◌}
use Rattle.std.proofs.lemmas.Bool.{cases_eq}
use Rattle.std.proofs.lemmas.List.{get_or-map, length-map}
use Rattle.ft_model.specs.declared.content.Content.TheVariants as content
use Rattle.ft_model.specs.declared.content.DictPair.{DictPair}
use Rattle.ft_model.specs.declared.data.Key.{Key}
use Rattle.ft_model.specs.declared.data.Value.TheVariants as value
use Rattle.ft_model.specs.Classes.{IsClass}
use Rattle.ft_model.specs.Contents.{DictContent, dict_copy, pairs_from}
use Rattle.ft_model.proofs.Copies.{length-pairs_from, get-pairs_from}
use Rattle.ft_model.proofs.KnownKeys.{length-filter-le}
use Rattle.ft_hash.specs.Probes.{dict_slots}
use Rattle.ft_hash.proofs.Walks.{dict_slots-within}
use Rattle.ft_layout.specs.Containers.{class_mask, used_pair}
use Rattle.ft_layout.specs.Tables.{UsedEntry, is_live, hash_of, slot_of, index_word, entry_word, IsDictTable}
use Rattle.ft_layout.specs.Tables as layout
use Rattle.ft_layout.specs.Words.{IsEntry}
use Rattle.ft_layout.proofs.TableLaws.{meets_moves}
use Rattle.ft_trace.specs.Addresses.{slots}
use Rattle.ft_trace.specs.Pictures.{entry_offset}
use Rattle.ft_search.proofs.KnownTableWords.{after_header}
use Rattle.ft_search.proofs.WordPlaces.{slots_of_class}
use Rattle.ft_new_keys.specs.Fresh.{IsFilledWith}
use Rattle.ft_new_keys.specs.Placing.{counted}
use Rattle.ft_new_keys.proofs.FilledTables.{word_here}
use Rattle.ft_new_keys.proofs.Placed.{counted_head}
use Rattle.ft_replacing.specs.Internal.Numbering.{renumbered}

-- ---- the words

pub numbered_long : (n next count : ℕ) (words : List ℕ) → length (renumbered n next count words) ≡ length words
numbered_long n next zero words = refl
numbered_long n next (suc p) words = length-set (renumbered n next p words) (entry_offset n p 6) (next + p) ∙ numbered_long n next p words

-- a word that is no serial of theirs
pub numbered_other : (n next count : ℕ) (words : List ℕ) (i : ℕ) → ((p : ℕ) → p < count → i ≢ entry_offset n p 6) → slice_index (renumbered n next count words) i ≡ slice_index words i
numbered_other n next zero words i ne = refl
numbered_other n next (suc p) words i ne = get_or-set_other (renumbered n next p words) (entry_offset n p 6) i (next + p) 0 (ne p (omega arith)) ∙ numbered_other n next p words i (λ q low. ne q (omega (arith, low)))

-- a serial
pub numbered_here : (n next count : ℕ) (words : List ℕ) (p : ℕ) → p < count → entry_offset n p 6 < length words → slice_index (renumbered n next count words) (entry_offset n p 6) ≡ next + p
numbered_here n next zero words p low inside = absurd (omega (arith, low))
numbered_here n next (suc q) words p low inside = elim (cases_eq p q) [
  | inl e ↦
      let long = numbered_long n next q words in
      ap (λ (z : ℕ). slice_index (renumbered n next (suc q) words) (entry_offset n z 6)) e
      ∙ (get_or-set_same (renumbered n next q words) (entry_offset n q 6) (next + q) 0 (omega (arith, e, long, inside)) ∙ ap (λ (z : ℕ). next + z) (sym e))
  | inr ne ↦ get_or-set_other (renumbered n next q words) (entry_offset n q 6) (entry_offset n p 6) (next + q) 0 (λ e. absurd (ne (omega (arith, e)))) ∙ numbered_here n next q words p (omega (arith, low, ne)) inside
]

-- ---- used entries

full_at : (b : Bool) (u : UsedEntry) (used rest : List UsedEntry) → (length rest ≡ length used → rest ≡ used) → length rest ≤ length used → length (if b then u ∷ rest else rest) ≡ suc (length used) → (if b then u ∷ rest else rest) ≡ u ∷ used
full_at true u used rest more few e = ap (λ (l : List UsedEntry). u ∷ l) (more (omega (arith, e)))
full_at false u used rest more few e = absurd (omega (arith, e, few))

-- where as many are there as were used, each is
pub full_live : (used : List UsedEntry) → length (filter is_live used) ≡ length used → filter is_live used ≡ used
full_live [] e = refl
full_live (u ∷ used) e = full_at (is_live u) u used (filter is_live used) (full_live used) (length-filter-le is_live used) e

pub pairs_live : (pairs : List DictPair) → filter is_live (map used_pair pairs) ≡ map used_pair pairs
pairs_live [] = refl
pairs_live (pair ∷ pairs) = ap (λ (l : List UsedEntry). used_pair pair ∷ l) (pairs_live pairs)

-- ---- the table

module _ (texts : List ℕ) (class next : ℕ) (is_class : IsClass class) (words : List ℕ) (pairs : List DictPair) (table : IsDictTable texts (class_mask class) (map used_pair pairs) (0 ∷ 0 ∷ words)) where
  abbrev n : ℕ
  n = slots class

  abbrev mask : ℕ
  mask = class_mask class

  abbrev made : List ℕ
  made = renumbered n next (length pairs) words

  abbrev before : List UsedEntry
  before = map used_pair pairs

  abbrev news : List UsedEntry
  news = map used_pair (pairs_from next pairs)

  many : length news ≡ length pairs
  many = length-map (pairs_from next pairs) used_pair ∙ length-pairs_from next pairs

  many_before : length before ≡ length pairs
  many_before = length-map pairs used_pair

  abbrev some : Key → DictPair
  some key = record { serial = 0; key = key; value = value.Nothing }

  abbrev numbered : DictPair → ℕ → DictPair
  numbered pair serial = record { serial = serial; key = pair.key; value = pair.value }

  before_at : (place : ℕ) (any : UsedEntry) → place < length pairs → get_or before place any ≡ used_pair (get_or pairs place (some any.key))
  before_at place any low = get_or-map used_pair pairs place (some any.key) any low

  news_at : (place : ℕ) (any : UsedEntry) → place < length pairs → get_or news place any ≡ used_pair (numbered (get_or pairs place (some any.key)) (next + place))
  news_at place any low =
      let long = length-pairs_from next pairs in
      get_or-map used_pair (pairs_from next pairs) place (some any.key) any (omega (arith, low, long)) ∙ ap used_pair (get-pairs_from next pairs place (some any.key) low)

  key_at : (place : ℕ) (any : UsedEntry) → place < length pairs → (get_or news place any).key ≡ (get_or before place any).key
  key_at place any low = ap (λ (z : UsedEntry). z.key) (news_at place any low) ∙ sym (ap (λ (z : UsedEntry). z.key) (before_at place any low))

  serial_at : (place : ℕ) (any : UsedEntry) → place < length pairs → (get_or news place any).serial ≡ next + place
  serial_at place any low = ap (λ (z : UsedEntry). z.serial) (news_at place any low)

  -- words of entries but serials
  word_same : (place w : ℕ) → w < 8 → w ≢ 6 → entry_word mask (0 ∷ 0 ∷ words) place w ≡ entry_word mask (0 ∷ 0 ∷ made) place w
  word_same place w few ne =
      word_here class words place w
      ∙ (sym (numbered_other n next (length pairs) words (entry_offset n place w) (λ p low e. ne (omega (arith, e, few)))) ∙ sym (word_here class made place w))

  index_same : (slot : ℕ) → slot ≤ mask → index_word (0 ∷ 0 ∷ made) slot ≡ index_word (0 ∷ 0 ∷ words) slot
  index_same slot low =
      let wide = slots_of_class class in
      after_header made slot
      ∙ (numbered_other n next (length pairs) words slot (λ p less e. absurd (omega (arith, e, low, wide))) ∙ sym (after_header words slot))

  serial_here : (place : ℕ) → place < length pairs → entry_word mask (0 ∷ 0 ∷ made) place 6 ≡ next + place
  serial_here place low =
      let wide = slots_of_class class in
      let size = table.size in
      let fill = table.fill in
      let long = many_before in
      word_here class made place 6 ∙ numbered_here n next (length pairs) words place low (omega (arith, wide, size, fill, long, low))

  live_moves : (pair : DictPair) (place : ℕ) → place < length pairs → IsEntry (entry_word mask (0 ∷ 0 ∷ words) place) (slot_of texts (used_pair pair)) → IsEntry (entry_word mask (0 ∷ 0 ∷ made) place) (slot_of texts (used_pair (numbered pair (next + place))))
  live_moves pair place low is =
      let same = word_same place in
      record {
        hash = sym (same 1 (omega arith) (λ e. absurd (omega (arith, e)))) ∙ is.hash;
        key = record { fits = is.key.fits; kind_is = sym (same 2 (omega arith) (λ e. absurd (omega (arith, e)))) ∙ is.key.kind_is; payload_is = sym (same 3 (omega arith) (λ e. absurd (omega (arith, e)))) ∙ is.key.payload_is };
        value = record { fits = is.value.fits; kind_is = sym (same 4 (omega arith) (λ e. absurd (omega (arith, e)))) ∙ is.value.kind_is; payload_is = sym (same 5 (omega arith) (λ e. absurd (omega (arith, e)))) ∙ is.value.payload_is };
        serial = serial_here place low;
      }

  pub numbered_table : IsDictTable texts mask news (0 ∷ 0 ∷ made)
  numbered_table =
      let all = many in
      let all_before = many_before in
      record {
        size = ap (λ (z : ℕ). suc (suc z)) (numbered_long n next (length pairs) words) ∙ table.size;
        head = refl;
        spare = λ place low. sym (word_same place 7 (omega arith) (λ e. absurd (omega (arith, e)))) ∙ table.spare place low;
        fill = let f = table.fill in omega (arith, f, all, all_before);
        entries = λ place any low.
            let less : place < length pairs = omega (arith, low, all) in
            subst (λ (z : UsedEntry). IsEntry (entry_word mask (0 ∷ 0 ∷ made) place) (slot_of texts z)) (sym (news_at place any less))
            (live_moves (get_or pairs place (some any.key)) place less
            (subst (λ (z : UsedEntry). IsEntry (entry_word mask (0 ∷ 0 ∷ words) place) (slot_of texts z)) (before_at place any less) (table.entries place any (omega (arith, less, all_before)))));
        unused = λ place past low.
            let is = table.unused place (omega (arith, past, all, all_before)) low in
            let same = word_same place in
            record {
              kind = sym (same 2 (omega arith) (λ e. absurd (omega (arith, e)))) ∙ is.kind;
              payload = sym (same 3 (omega arith) (λ e. absurd (omega (arith, e)))) ∙ is.payload;
              value = record { fits = is.value.fits; kind_is = sym (same 4 (omega arith) (λ e. absurd (omega (arith, e)))) ∙ is.value.kind_is; payload_is = sym (same 5 (omega arith) (λ e. absurd (omega (arith, e)))) ∙ is.value.payload_is };
            };
        hashes = λ place any low.
            let less : place < length pairs = omega (arith, low, all) in
            sym (word_same place 1 (omega arith) (λ e. absurd (omega (arith, e)))) ∙ (table.hashes place any (omega (arith, less, all_before)) ∙ ap (hash_of texts) (sym (key_at place any less)));
        distinct =
            let old = subst (AllPairs (λ a b. a.key ≢ b.key)) (pairs_live pairs) table.distinct in
            subst (AllPairs (λ a b. a.key ≢ b.key)) (sym (pairs_live (pairs_from next pairs)))
            (λ i j d lt low same.
            let less : j < length pairs = omega (arith, low, all) in
            old i j d lt (omega (arith, less, all_before)) (sym (key_at i d (omega (arith, lt, less))) ∙ (same ∙ key_at j d less)));
        rising = λ i j d lt low.
            let less : j < length pairs = omega (arith, low, all) in
            let a = serial_at i d (omega (arith, lt, less)) in
            let b = serial_at j d less in
            omega (arith, a, b, lt);
        names = λ slot low. let same = index_same slot low in let old = table.names slot low in omega (arith, same, old, all, all_before);
        once = λ slot other low less named e. table.once slot other low less (λ none. named (index_same slot low ∙ none)) (sym (index_same slot low) ∙ (e ∙ index_same other less));
        met = λ place any low.
            let less : place < length pairs = omega (arith, low, all) in
            subst (λ (z : Key). layout.Meets (0 ∷ 0 ∷ made) (dict_slots (hash_of texts z) mask (mask + 14)) place) (sym (key_at place any less))
            (meets_moves mask (0 ∷ 0 ∷ words) (0 ∷ 0 ∷ made) (λ s small some_name. index_same s small) (dict_slots (hash_of texts (get_or before place any).key) mask (mask + 14)) place (dict_slots-within (hash_of texts (get_or before place any).key) mask (mask + 14))
            (table.met place any (omega (arith, less, all_before))));
      }

-- ---- what they stand for

pub numbered_filled : (texts : List ℕ) (class next : ℕ) → IsClass class → (words : List ℕ) (pairs given : DictContent) → given.next ≡ next → IsFilledWith texts class (content.Dict pairs) words → IsFilledWith texts class (content.Dict (dict_copy given pairs.pairs)) (renumbered (slots class) next (length pairs.pairs) words)
numbered_filled texts class next is_class words pairs given is filled =
    let count = length pairs.pairs in
    let made = pairs_from given.next pairs.pairs in
    let long = length-pairs_from given.next pairs.pairs in
    record {
      says = λ block head.
          let old = filled.says (counted block count count pairs.next) (counted_head block (Some class) (length made) (length made) (given.next + count) count count pairs.next head) in
          let there : length (filter is_live old.used) ≡ length old.used = ap length old.entries.live ∙ (length-map pairs.pairs used_pair ∙ sym old.filled) in
          let used : old.used ≡ map used_pair pairs.pairs = sym (full_live old.used there) ∙ old.entries.live in
          record {
            head = head;
            used = map used_pair made;
            table = subst (λ (z : ℕ). IsDictTable texts (class_mask class) (map used_pair made) (0 ∷ 0 ∷ renumbered (slots class) z count words)) is
                (numbered_table texts class given.next is_class words pairs.pairs (subst (λ (z : List UsedEntry). IsDictTable texts (class_mask class) z (0 ∷ 0 ∷ words)) used old.table));
            filled = length-map made used_pair;
            entries = record {
              live = pairs_live made;
              below = λ k d low.
                  let more : k < count = let m = length-map made used_pair in omega (arith, low, m, long) in
                  let s = serial_at texts class given.next is_class words pairs.pairs (subst (λ (z : List UsedEntry). IsDictTable texts (class_mask class) z (0 ∷ 0 ∷ words)) used old.table) k d more in
                  omega (arith, s, more);
            };
          };
      versions = λ place low. numbered_other (slots class) next count words (entry_offset (slots class) place 0) (λ p less e. absurd (omega (arith, e))) ∙ filled.versions place low;
      plain = λ place low four. filled.plain place low (sym (numbered_other (slots class) next count words (entry_offset (slots class) place 4) (λ p less e. absurd (omega (arith, e)))) ∙ four);
    }
