-- A table of a dict whose entries get new serials, whatever they store.
use Rattle.std.proofs.Common.{◌≡◌, ◌≢◌, ℕ, zero, suc, ◌+◌, ◌<◌, ◌≤◌, List, [], ◌∷◌, map, length, Option, Some, None, refl, sym, ap, ◌∙◌, subst, arith}
use Rattle.std.specs.Prelude.{IsTrue, slice_index_or}
use Rattle.ft_model.specs.declared.content.DictPair.{DictPair}
use Rattle.ft_model.specs.declared.data.Key.{Key}
use Rattle.ft_model.specs.Contents.{pairs_from}
use Rattle.ft_hash.specs.Probes.{dict_slots}
use Rattle.ft_hash.proofs.Walks.{dict_slots-within}
use Rattle.ft_layout.specs.declared.slot.Stored.{Stored}
use Rattle.ft_layout.specs.Containers.{class_mask, used_pair}
use Rattle.ft_layout.specs.Tables.{UsedEntry, is_live, hash_of, slot_of, slot_with, index_word, entry_word, IsDictTable, Meets}
use Rattle.ft_layout.specs.Words.{IsEntry}
use Rattle.ft_layout.proofs.LiveLaws.{distinct-live, distinct-used}
use Rattle.ft_layout.proofs.TableLaws.{meets_moves}
use Rattle.ft_trace.specs.Addresses.{slots}
use Rattle.ft_trace.specs.Pictures.{entry_offset}
use Rattle.ft_search.proofs.KnownTableWords.{after_header}
use Rattle.ft_search.proofs.WordPlaces.{slots_of_class}
use Rattle.ft_new_keys.proofs.FilledTables.{word_here}
use Rattle.ft_new_keys.proofs.RawTables.{AllRead}
use Rattle.ft_replacing.specs.Internal.Numbering.{renumbered}
use Rattle.ft_replacing.specs.Sharing.{numbered_from}
use Rattle.ft_replacing.proofs.Numbered.{numbered_here, numbered_long, numbered_other}

abbrev pub with_serial : UsedEntry → ℕ → UsedEntry
with_serial entry serial = record { key = entry.key; serial = serial; stored = entry.stored }

pub numbered_many : (next : ℕ) (used : List UsedEntry) → length (numbered_from next used) ≡ length used
numbered_many next [] = refl
numbered_many next (e ∷ es) = let r = numbered_many (next + 1) es in omega (arith, r)

pub numbered_at : (next place : ℕ) (used : List UsedEntry) (any other : UsedEntry) → place < length used → slice_index_or (numbered_from next used) place any ≡ with_serial (slice_index_or used place other) (next + place)
numbered_at next place [] any other low = absurd (omega (arith, low))
numbered_at next zero (e ∷ es) any other low = let z : next ≡ next + 0 = omega arith in ap (with_serial e) z
numbered_at next (suc p) (e ∷ es) any other low =
    let z : next + 1 + p ≡ next + suc p = omega arith in
    numbered_at (next + 1) p es any other (omega (arith, low)) ∙ ap (with_serial (slice_index_or es p other)) z

-- the entries of pairs
pub numbered_pairs : (next : ℕ) (pairs : List DictPair) → numbered_from next (map used_pair pairs) ≡ map used_pair (pairs_from next pairs)
numbered_pairs next [] = refl
numbered_pairs next (pair ∷ pairs) = ap (λ (l : List UsedEntry). with_serial (used_pair pair) next ∷ l) (numbered_pairs (next + 1) pairs)

-- they read what others do, with the same serials
pub numbered_read : (box : ℕ → ℕ → ℕ) (next : ℕ) (rs es : List UsedEntry) → AllRead box rs es → AllRead box (numbered_from next rs) (numbered_from next es)
numbered_read box next [] [] h = tt
numbered_read box next (r ∷ rs) (e ∷ es) h = (record { key = h.0.key; serial = refl; stored = h.0.stored }, numbered_read box (next + 1) rs es h.1)
numbered_read box next [] (e ∷ es) h = absurd h
numbered_read box next (r ∷ rs) [] h = absurd h

module _ (texts : List ℕ) (class next : ℕ) (words : List ℕ) (used : List UsedEntry) (table : IsDictTable texts (class_mask class) used (0 ∷ 0 ∷ words)) where
  abbrev n : ℕ
  n = slots class

  abbrev mask : ℕ
  mask = class_mask class

  abbrev made : List ℕ
  made = renumbered n next (length used) words

  abbrev news : List UsedEntry
  news = numbered_from next used

  many : length news ≡ length used
  many = numbered_many next used

  at : (place : ℕ) (any : UsedEntry) → place < length used → slice_index_or news place any ≡ with_serial (slice_index_or used place any) (next + place)
  at place any low = numbered_at next place used any any low

  -- words of entries but serials
  word_same : (place w : ℕ) → w < 8 → w ≢ 6 → entry_word mask (0 ∷ 0 ∷ made) place w ≡ entry_word mask (0 ∷ 0 ∷ words) place w
  word_same place w few ne =
      word_here class made place w
      ∙ (numbered_other n next (length used) words (entry_offset n place w) (λ p low e. ne (omega (arith, e, few))) ∙ sym (word_here class words place w))

  index_same : (slot : ℕ) → slot ≤ mask → index_word (0 ∷ 0 ∷ made) slot ≡ index_word (0 ∷ 0 ∷ words) slot
  index_same slot low =
      let wide = slots_of_class class in
      after_header made slot
      ∙ (numbered_other n next (length used) words slot (λ p less e. absurd (omega (arith, e, low, wide))) ∙ sym (after_header words slot))

  serial_here : (place : ℕ) → place < length used → entry_word mask (0 ∷ 0 ∷ made) place 6 ≡ next + place
  serial_here place low =
      let wide = slots_of_class class in
      let size = table.size in
      let fill = table.fill in
      word_here class made place 6 ∙ numbered_here n next (length used) words place low (omega (arith, wide, size, fill, low))

  slot_moves : (place hash : ℕ) (key : Key) (serial : ℕ) (stored : Option Stored) → place < length used → IsEntry (entry_word mask (0 ∷ 0 ∷ words) place) (slot_with hash key serial stored) → IsEntry (entry_word mask (0 ∷ 0 ∷ made) place) (slot_with hash key (next + place) stored)
  slot_moves place hash key serial (Some s) low is =
      let same = word_same place in
      record {
        hash = same 1 (omega arith) (λ z. omega (arith, z)) ∙ is.hash;
        key = record { fits = is.key.fits; kind_is = same 2 (omega arith) (λ z. omega (arith, z)) ∙ is.key.kind_is; payload_is = same 3 (omega arith) (λ z. omega (arith, z)) ∙ is.key.payload_is };
        value = record { fits = is.value.fits; kind_is = same 4 (omega arith) (λ z. omega (arith, z)) ∙ is.value.kind_is; payload_is = same 5 (omega arith) (λ z. omega (arith, z)) ∙ is.value.payload_is };
        serial = serial_here place low;
      }
  slot_moves place hash key serial None low is =
      let same = word_same place in
      record {
        key_is = record { fits = is.key_is.fits; kind_is = same 2 (omega arith) (λ z. omega (arith, z)) ∙ is.key_is.kind_is; payload_is = same 3 (omega arith) (λ z. omega (arith, z)) ∙ is.key_is.payload_is };
        left = is.left;
        value = record { fits = is.value.fits; kind_is = same 4 (omega arith) (λ z. omega (arith, z)) ∙ is.value.kind_is; payload_is = same 5 (omega arith) (λ z. omega (arith, z)) ∙ is.value.payload_is };
        serial_is = serial_here place low;
      }

  pub numbered_used : IsDictTable texts mask news (0 ∷ 0 ∷ made)
  numbered_used =
      let all = many in
      record {
        size = ap (λ (z : ℕ). suc (suc z)) (numbered_long n next (length used) words) ∙ table.size;
        head = refl;
        spare = λ place low. word_same place 7 (omega arith) (λ z. omega (arith, z)) ∙ table.spare place low;
        fill = let f = table.fill in omega (arith, f, all);
        entries = λ place any low.
            let less : place < length used = omega (arith, low, all) in
            let e = slice_index_or used place any in
            subst (λ (z : UsedEntry). IsEntry (entry_word mask (0 ∷ 0 ∷ made) place) (slot_of texts z)) (sym (at place any less))
            (slot_moves place (hash_of texts e.key) e.key e.serial e.stored less (table.entries place any less));
        unused = λ place past low.
            let is = table.unused place (omega (arith, past, all)) low in
            let same = word_same place in
            record {
              kind = same 2 (omega arith) (λ z. omega (arith, z)) ∙ is.kind;
              payload = same 3 (omega arith) (λ z. omega (arith, z)) ∙ is.payload;
              value = record { fits = is.value.fits; kind_is = same 4 (omega arith) (λ z. omega (arith, z)) ∙ is.value.kind_is; payload_is = same 5 (omega arith) (λ z. omega (arith, z)) ∙ is.value.payload_is };
            };
        hashes = λ place any low.
            let less : place < length used = omega (arith, low, all) in
            word_same place 1 (omega arith) (λ z. omega (arith, z)) ∙ (table.hashes place any less ∙ ap (λ (z : UsedEntry). hash_of texts z.key) (sym (at place any less)));
        distinct = distinct-live news (λ i j d lt low a b same.
            let few : j < length used = omega (arith, low, all) in
            let x = at i d (omega (arith, lt, few)) in
            let y = at j d few in
            distinct-used used table.distinct i j d lt few (subst IsTrue (ap (λ (z : UsedEntry). is_live z) x) a) (subst IsTrue (ap (λ (z : UsedEntry). is_live z) y) b) (sym (ap (λ (z : UsedEntry). z.key) x) ∙ (same ∙ ap (λ (z : UsedEntry). z.key) y)));
        rising = λ i j d lt low.
            let few : j < length used = omega (arith, low, all) in
            let a = ap (λ (z : UsedEntry). z.serial) (at i d (omega (arith, lt, few))) in
            let b = ap (λ (z : UsedEntry). z.serial) (at j d few) in
            omega (arith, a, b, lt);
        names = λ slot low. let same = index_same slot low in let old = table.names slot low in omega (arith, same, old, all);
        once = λ slot other low less named_it e. table.once slot other low less (λ none. named_it (index_same slot low ∙ none)) (sym (index_same slot low) ∙ (e ∙ index_same other less));
        met = λ place any low.
            let less : place < length used = omega (arith, low, all) in
            let key = (slice_index_or used place any).key in
            subst (λ (z : UsedEntry). Meets (0 ∷ 0 ∷ made) (dict_slots (hash_of texts z.key) mask (mask + 14)) place) (sym (at place any less))
            (meets_moves mask (0 ∷ 0 ∷ words) (0 ∷ 0 ∷ made) (λ s small some_name. index_same s small) (dict_slots (hash_of texts key) mask (mask + 14)) place (dict_slots-within (hash_of texts key) mask (mask + 14))
            (table.met place any less));
      }
