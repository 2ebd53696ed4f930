-- Tables of dicts and sets with values in boxes: their words as they stand are those of a table whose entries store the
-- boxes, and as they read those of one whose entries store the values.
use Rattle.std.proofs.Common.{◌≡◌, ◌≢◌, ℕ, zero, suc, ◌+◌, ◌*◌, ◌/◌, ◌%◌, ◌<◌, ◌≤◌, Bool, true, false, true≢false, cond, List, [], ◌∷◌, length, filter, Option, Some, None, refl, sym, ap, ◌∙◌, subst, arith}
use Rattle.std.specs.Prelude.{◌==◌, All, IsTrue, is_some, slice_index, slice_index_or}
use mathlib.Core.Logic.{dite}
use native.Mathlib.Decide.{ℕ_discrete}
use Rattle.ft_model.specs.declared.data.Key.{Key}
use Rattle.ft_layout.specs.declared.slot.Ref.{Ref}
use Rattle.ft_layout.specs.declared.slot.Slot.TheVariants.{Never}
use Rattle.ft_layout.specs.declared.slot.Stored.{Stored}
use Rattle.ft_layout.specs.declared.slot.Stored.TheVariants.{Boxed}
use Rattle.ft_layout.specs.Words.{IsStored, IsEntry, stored_kind, stored_payload}
use Rattle.ft_layout.specs.Tables.{UsedEntry, is_live, index_word, entry_word, hash_of, slot_of, slot_with, Meets, IsTable}
use Rattle.ft_layout.proofs.LiveLaws.{distinct-live, distinct-used}
use Rattle.ft_layout.proofs.TableLaws.{meets_moves}
use Rattle.ft_trace.specs.Unboxed.{unboxed_kind, unboxed_payload}
use Rattle.ft_trace.proofs.Cases.{here, miss}

-- ---- what entries store in words as they stand

-- the box that a payload names
abbrev pub box_named : ℕ → Ref
box_named payload = record { pass = payload / 65536; place = payload % 65536 }

-- what two words store that read this
abbrev pub raw_stored : ℕ → ℕ → Stored → Stored
raw_stored kind payload stored = cond (kind == 4) (Boxed (box_named payload)) stored

abbrev pub raw_option : ℕ → ℕ → Option Stored → Option Stored
raw_option kind payload None = None
raw_option kind payload (Some stored) = Some (raw_stored kind payload stored)

abbrev pub raw_entry : ℕ → ℕ → UsedEntry → UsedEntry
raw_entry kind payload e = record { key = e.key; serial = e.serial; stored = raw_option kind payload e.stored }

-- the entries from a place on, whose values have these kinds and payloads
abbrev pub raw_from : (ℕ → ℕ) → (ℕ → ℕ) → ℕ → List UsedEntry → List UsedEntry
raw_from kinds payloads q [] = []
raw_from kinds payloads q (e ∷ es) = raw_entry (kinds q) (payloads q) e ∷ raw_from kinds payloads (suc q) es

pub raw_long : (kinds payloads : ℕ → ℕ) (q : ℕ) (es : List UsedEntry) → length (raw_from kinds payloads q es) ≡ length es
raw_long kinds payloads q [] = refl
raw_long kinds payloads q (e ∷ es) = let r = raw_long kinds payloads (suc q) es in omega (arith, r)

pub raw_at : (kinds payloads : ℕ → ℕ) (q p : ℕ) (es : List UsedEntry) (a b : UsedEntry) → p < length es → slice_index_or (raw_from kinds payloads q es) p a ≡ raw_entry (kinds (q + p)) (payloads (q + p)) (slice_index_or es p b)
raw_at kinds payloads q p [] a b low = absurd (omega (arith, low))
raw_at kinds payloads q zero (e ∷ es) a b low = let z : q ≡ q + 0 = omega arith in ap (λ (n : ℕ). raw_entry (kinds n) (payloads n) e) z
raw_at kinds payloads q (suc p) (e ∷ es) a b low =
    let z : suc q + p ≡ q + suc p = omega arith in
    raw_at kinds payloads (suc q) p es a b (omega (arith, low)) ∙ ap (λ (n : ℕ). raw_entry (kinds n) (payloads n) (slice_index_or es p b)) z

-- ---- entries that read others

abbrev pub ReadsAs : (ℕ → ℕ → ℕ) → Option Stored → Option Stored → Type 0
ReadsAs box None None = Unit {0}
ReadsAs box (Some s) (Some t) = IsStored (unboxed_kind box (stored_kind s) (stored_payload s)) (unboxed_payload box (stored_kind s) (stored_payload s)) t
ReadsAs box a b = ⊥

-- the entry r has the key and the serial of e, and what it stores reads so
pub record Reads (box : ℕ → ℕ → ℕ) (r e : UsedEntry) : Type 0 where
  pub key : r.key ≡ e.key
  pub serial : r.serial ≡ e.serial
  pub stored : ReadsAs box r.stored e.stored

abbrev pub AllRead : (ℕ → ℕ → ℕ) → List UsedEntry → List UsedEntry → Type 0
AllRead box [] [] = Unit {0}
AllRead box (r ∷ rs) (e ∷ es) = Reads box r e × AllRead box rs es
AllRead box rs es = ⊥

some_same : (box : ℕ → ℕ → ℕ) (a b : Option Stored) → ReadsAs box a b → is_some a ≡ is_some b
some_same box None None h = refl
some_same box (Some s) (Some t) h = refl
some_same box None (Some t) h = absurd h
some_same box (Some s) None h = absurd h

pub live_same : (box : ℕ → ℕ → ℕ) (r e : UsedEntry) → Reads box r e → is_live r ≡ is_live e
live_same box r e h = some_same box r.stored e.stored h.stored

pub read_long : (box : ℕ → ℕ → ℕ) (rs es : List UsedEntry) → AllRead box rs es → length rs ≡ length es
read_long box [] [] h = refl
read_long box (r ∷ rs) (e ∷ es) h = let l = read_long box rs es h.1 in omega (arith, l)
read_long box [] (e ∷ es) h = absurd h
read_long box (r ∷ rs) [] h = absurd h

pub read_at : (box : ℕ → ℕ → ℕ) (rs es : List UsedEntry) → AllRead box rs es → (p : ℕ) (a b : UsedEntry) → p < length es → Reads box (slice_index_or rs p a) (slice_index_or es p b)
read_at box [] [] h p a b low = absurd (omega (arith, low))
read_at box (r ∷ rs) (e ∷ es) h zero a b low = h.0
read_at box (r ∷ rs) (e ∷ es) h (suc p) a b low = read_at box rs es h.1 p a b (omega (arith, low))
read_at box [] (e ∷ es) h p a b low = absurd h
read_at box (r ∷ rs) [] h p a b low = absurd h

kept_both : (box : ℕ → ℕ → ℕ) (r e : UsedEntry) (rs es : List UsedEntry) (a b : Bool) → a ≡ b → Reads box r e → AllRead box rs es → AllRead box (cond a (r ∷ rs) rs) (cond b (e ∷ es) es)
kept_both box r e rs es true true same h rest = (h, rest)
kept_both box r e rs es false false same h rest = rest
kept_both box r e rs es true false same h rest = absurd (true≢false same)
kept_both box r e rs es false true same h rest = absurd (true≢false (sym same))

-- so do those that are there
pub read_live : (box : ℕ → ℕ → ℕ) (rs es : List UsedEntry) → AllRead box rs es → AllRead box (filter is_live rs) (filter is_live es)
read_live box [] [] h = tt
read_live box (r ∷ rs) (e ∷ es) h = kept_both box r e (filter is_live rs) (filter is_live es) (is_live r) (is_live e) (live_same box r e h.0) h.0 (read_live box rs es h.1)
read_live box [] (e ∷ es) h = absurd h
read_live box (r ∷ rs) [] h = absurd h

-- ---- the words of one entry, as they read and as they stand

module _ (box : ℕ → ℕ → ℕ) (u w : ℕ → ℕ) (same : (i : ℕ) → 1 ≤ i → i < 7 → i ≢ 4 → i ≢ 5 → w i ≡ u i) (kind_is : u 4 ≡ unboxed_kind box (w 4) (w 5)) (payload_is : u 5 ≡ unboxed_payload box (w 4) (w 5)) where
  word1 : w 1 ≡ u 1
  word1 = same 1 (omega arith) (omega arith) (λ z. omega (arith, z)) (λ z. omega (arith, z))

  word2 : w 2 ≡ u 2
  word2 = same 2 (omega arith) (omega arith) (λ z. omega (arith, z)) (λ z. omega (arith, z))

  word3 : w 3 ≡ u 3
  word3 = same 3 (omega arith) (omega arith) (λ z. omega (arith, z)) (λ z. omega (arith, z))

  word6 : w 6 ≡ u 6
  word6 = same 6 (omega arith) (omega arith) (λ z. omega (arith, z)) (λ z. omega (arith, z))

  plain_kind : w 4 ≢ 4 → w 4 ≡ u 4
  plain_kind ne = sym (kind_is ∙ miss (w 4) 4 (box (w 5) 1) (w 4) ne)

  plain_payload : w 4 ≢ 4 → w 5 ≡ u 5
  plain_payload ne = sym (payload_is ∙ miss (w 4) 4 (box (w 5) 2) (w 5) ne)

  -- from what they read to what they store
  module _ (fits : w 4 ≡ 4 → (w 5 / 65536 < 64) × (w 5 % 65536 < 4096)) where
    raw_value : (t : Stored) → IsStored (u 4) (u 5) t → IsStored (w 4) (w 5) (raw_stored (w 4) (w 5) t)
    raw_value t is =
        dite (ℕ_discrete (w 4) 4)
        (λ (four : w 4 ≡ 4).
        subst (IsStored (w 4) (w 5)) (sym (here (w 4) 4 (Boxed (box_named (w 5))) t four))
        (record { fits = fits four; kind_is = four; payload_is = let e : w 5 ≡ w 5 / 65536 * 65536 + w 5 % 65536 = omega arith in e }))
        (λ ne. subst (IsStored (w 4) (w 5)) (sym (miss (w 4) 4 (Boxed (box_named (w 5))) t ne)) (record { fits = is.fits; kind_is = plain_kind ne ∙ is.kind_is; payload_is = plain_payload ne ∙ is.payload_is }))

    pub raw_slot : (hash : ℕ) (key : Key) (serial : ℕ) (o : Option Stored) → IsEntry u (slot_with hash key serial o) → IsEntry w (slot_with hash key serial (raw_option (w 4) (w 5) o))
    raw_slot hash key serial (Some t) is = record {
      hash = word1 ∙ is.hash;
      key = record { fits = is.key.fits; kind_is = word2 ∙ is.key.kind_is; payload_is = word3 ∙ is.key.payload_is };
      value = raw_value t is.value;
      serial = word6 ∙ is.serial;
    }
    raw_slot hash key serial None is = record {
      key_is = record { fits = is.key_is.fits; kind_is = word2 ∙ is.key_is.kind_is; payload_is = word3 ∙ is.key_is.payload_is };
      left = raw_stored (w 4) (w 5) is.left;
      value = raw_value is.left is.value;
      serial_is = word6 ∙ is.serial_is;
    }

    raw_option_reads : (hash : ℕ) (key : Key) (serial : ℕ) (o : Option Stored) → IsEntry u (slot_with hash key serial o) → ReadsAs box (raw_option (w 4) (w 5) o) o
    raw_option_reads hash key serial None is = tt
    raw_option_reads hash key serial (Some t) is =
        let r = raw_value t is.value in
        record {
          fits = is.value.fits;
          kind_is = (λ d. unboxed_kind box (sym r.kind_is d) (sym r.payload_is d)) ∙ (sym kind_is ∙ is.value.kind_is);
          payload_is = (λ d. unboxed_payload box (sym r.kind_is d) (sym r.payload_is d)) ∙ (sym payload_is ∙ is.value.payload_is);
        }

    pub raw_reads : (texts : List ℕ) (e : UsedEntry) → IsEntry u (slot_of texts e) → Reads box (raw_entry (w 4) (w 5) e) e
    raw_reads texts e is = record { key = refl; serial = refl; stored = raw_option_reads (hash_of texts e.key) e.key e.serial e.stored is }

    pub raw_never : (w 4 ≡ 4 → 1 ≤ box (w 5) 1) → IsEntry u Never → IsEntry w Never
    raw_never some_ is =
        let ne : w 4 ≢ 4 = λ four. let b = some_ four in let k = kind_is ∙ here (w 4) 4 (box (w 5) 1) (w 4) four in let z = is.value.kind_is in omega (arith, b, k, z) in
        record { kind = word2 ∙ is.kind; payload = word3 ∙ is.payload; value = record { fits = tt; kind_is = plain_kind ne ∙ is.value.kind_is; payload_is = plain_payload ne ∙ is.value.payload_is } }

  -- and back
  pub read_slot : (hash : ℕ) (key : Key) (serial : ℕ) (a b : Option Stored) → is_some b ≡ true → ReadsAs box a b → IsEntry w (slot_with hash key serial a) → IsEntry u (slot_with hash key serial b)
  read_slot hash key serial (Some s) (Some t) live reads is = record {
    hash = sym word1 ∙ is.hash;
    key = record { fits = is.key.fits; kind_is = sym word2 ∙ is.key.kind_is; payload_is = sym word3 ∙ is.key.payload_is };
    value = record {
      fits = reads.fits;
      kind_is = kind_is ∙ ((λ d. unboxed_kind box (is.value.kind_is d) (is.value.payload_is d)) ∙ reads.kind_is);
      payload_is = payload_is ∙ ((λ d. unboxed_payload box (is.value.kind_is d) (is.value.payload_is d)) ∙ reads.payload_is);
    };
    serial = sym word6 ∙ is.serial;
  }
  read_slot hash key serial a None live reads is = absurd (true≢false (sym live))
  read_slot hash key serial None (Some t) live reads is = absurd reads

  pub read_never : IsEntry w Never → IsEntry u Never
  read_never is =
      let zero_kind = is.value.kind_is in
      let ne : w 4 ≢ 4 = λ four. omega (arith, zero_kind, four) in
      record { kind = sym word2 ∙ is.kind; payload = sym word3 ∙ is.payload; value = record { fits = tt; kind_is = sym (plain_kind ne) ∙ is.value.kind_is; payload_is = sym (plain_payload ne) ∙ is.value.payload_is } }

-- ---- a table with other values

module _ (walk : ℕ → List ℕ) (room : ℕ) (texts : List ℕ) (mask : ℕ) (in_walk : (hash : ℕ) → All (λ s. s ≤ mask) (walk hash)) (used news : List UsedEntry) (old new : List ℕ) (table : IsTable walk room texts mask used old) (size : length new ≡ length old) (many : length news ≡ length used) (head : slice_index new 0 ≡ slice_index old 0)
    (index : (s : ℕ) → s ≤ mask → index_word new s ≡ index_word old s) (words : (p w : ℕ) → p < room → w < 8 → w ≢ 4 → w ≢ 5 → entry_word mask new p w ≡ entry_word mask old p w) (keeps : (p : ℕ) (any : UsedEntry) → p < length used → ((slice_index_or news p any).key ≡ (slice_index_or used p any).key) × ((slice_index_or news p any).serial ≡ (slice_index_or used p any).serial) × (is_live (slice_index_or news p any) ≡ is_live (slice_index_or used p any)))
    (entries : (p : ℕ) (any : UsedEntry) → p < length used → IsEntry (entry_word mask new p) (slot_of texts (slice_index_or news p any))) (unused : (p : ℕ) → length used ≤ p → p < room → IsEntry (entry_word mask new p) Never) where
  inside : (p : ℕ) → p < length used → p < room
  inside p low = let f = table.fill in omega (arith, f, low)

  pub revalued : IsTable walk room texts mask news new
  revalued = record {
    size = size ∙ table.size;
    head = head ∙ table.head;
    spare = λ p low. words p 7 low (omega arith) (λ z. omega (arith, z)) (λ z. omega (arith, z)) ∙ table.spare p low;
    fill = let f = table.fill in omega (arith, f, many);
    entries = λ p any low. entries p any (omega (arith, low, many));
    unused = λ p past low. unused p (omega (arith, past, many)) low;
    hashes = λ p any low.
        let few : p < length used = omega (arith, low, many) in
        words p 1 (inside p few) (omega arith) (λ z. omega (arith, z)) (λ z. omega (arith, z)) ∙ (table.hashes p any few ∙ ap (hash_of texts) (sym (keeps p any few).0));
    distinct = distinct-live news (λ i j d less low a b same.
        let few : j < length used = omega (arith, low, many) in
        let x = keeps i d (omega (arith, less, few)) in
        let y = keeps j d few in
        distinct-used used table.distinct i j d less few (subst IsTrue x.2 a) (subst IsTrue y.2 b) (sym x.0 ∙ (same ∙ y.0)));
    rising = λ i j d less low.
        let few : j < length used = omega (arith, low, many) in
        let x = keeps i d (omega (arith, less, few)) in
        let y = keeps j d few in
        let was = table.rising i j d less few in
        let a = x.1 in
        let b = y.1 in
        omega (arith, a, b, was);
    names = λ s low. let n = table.names s low in let e = index s low in omega (arith, many, n, e);
    once = λ s t less small named same. table.once s t less small (λ none. named (index s less ∙ none)) (sym (index s less) ∙ (same ∙ index t small));
    met = λ p any low.
        let few : p < length used = omega (arith, low, many) in
        let x = keeps p any few in
        let m : Meets old (walk (hash_of texts (slice_index_or news p any).key)) p = subst (λ (k : Key). Meets old (walk (hash_of texts k)) p) (sym x.0) (table.met p any few) in
        meets_moves mask old new (λ s small _. index s small) (walk (hash_of texts (slice_index_or news p any).key)) p (in_walk (hash_of texts (slice_index_or news p any).key)) m;
  }
