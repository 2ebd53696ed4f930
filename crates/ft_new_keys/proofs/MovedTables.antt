-- A table that is rebuilt from the words of another as they stand: what both read, and how often they name each box.
use Rattle.std.proofs.Common.{◌≡◌, ◌≢◌, ℕ, zero, suc, ◌+◌, ◌/◌, ◌%◌, ◌<◌, ◌≤◌, Bool, true, false, cond, List, [], ◌∷◌, length, filter, Option, Some, None, refl, sym, ap, ◌∙◌, subst, arith}
use Rattle.std.specs.Prelude.{All, is_some, nat_lt, slice_index, slice_index_or}
use Rattle.ft_model.specs.declared.data.Key.{Key}
use Rattle.ft_model.specs.declared.data.Key.TheVariants as key
use Rattle.ft_model.specs.declared.script.Kind.{Kind}
use Rattle.ft_model.specs.Classes.{IsClass}
use Rattle.ft_layout.specs.declared.slot.Slot.TheVariants.{Never}
use Rattle.ft_layout.specs.declared.slot.Stored.{Stored}
use Rattle.ft_layout.specs.Containers.{class_mask}
use Rattle.ft_layout.specs.Words.{IsEntry, stored_kind, stored_payload, key_kind, gone_kind}
use Rattle.ft_layout.specs.Tables.{UsedEntry, is_live, index_word, entry_word, hash_of, slot_of, slot_with, IsTable}
use Rattle.ft_trace.specs.Addresses.{slots, size}
use Rattle.ft_trace.specs.Boxes.{value_at, names_box, names_box_at}
use Rattle.ft_trace.specs.Kinds.{rows, IsKeyed}
use Rattle.ft_trace.specs.Pictures.{entry_offset, entry_field}
use Rattle.ft_trace.specs.Sums.{sum_to}
use Rattle.ft_trace.specs.Unboxed.{unboxed_kind, unboxed_payload, unboxed_rows}
use Rattle.ft_trace.proofs.ReadTables.{read_entry, read_index, rows_at, rows_long, value_low}
use Rattle.ft_trace.proofs.Sums.{sum_none}
use Rattle.ft_search.proofs.KnownTableWords.{after_header}
use Rattle.ft_search.proofs.Overs.{plain_names}
use Rattle.ft_search.proofs.Puts.{keyed_value}
use Rattle.ft_search.proofs.WordPlaces.{slots_of_class}
use Rattle.ft_new_keys.specs.Moving.{live_names_at}
use Rattle.ft_new_keys.proofs.FilledTables.{word_here}
use Rattle.ft_new_keys.proofs.RawTables.{AllRead, raw_at, raw_option, raw_from, raw_long, raw_never, raw_reads, raw_slot, read_at, read_long, read_never, read_slot, live_same, revalued}

-- ---- one table, as its words stand and as they read

module _ (box : ℕ → ℕ → ℕ) (kd : Kind) (keyed : IsKeyed kd) (class : ℕ) (is_class : IsClass class) (walk : ℕ → List ℕ) (room : ℕ) (texts : List ℕ) (room_is : room ≡ rows kd class) (in_walk : (hash : ℕ) → All (λ s. s ≤ class_mask class) (walk hash)) (l : List ℕ) (long : length l ≡ size class) where
  abbrev mask : ℕ
  mask = class_mask class

  abbrev stands : List ℕ
  stands = 0 ∷ 0 ∷ l

  abbrev pub reads : List ℕ
  reads = 0 ∷ 0 ∷ unboxed_rows box kd class (rows kd class) l

  as_long : length reads ≡ length stands
  as_long = let e = rows_long box kd class (rows kd class) l in omega (arith, e)

  words_same : (p w : ℕ) → w < 8 → w ≢ 4 → w ≢ 5 → entry_word mask stands p w ≡ entry_word mask reads p w
  words_same p w few not4 not5 =
      word_here class l p w
      ∙ (sym (read_entry box class (rows kd class) l kd keyed p w few not4 not5) ∙ sym (word_here class (unboxed_rows box kd class (rows kd class) l) p w))

  index_same : (s : ℕ) → s ≤ mask → index_word stands s ≡ index_word reads s
  index_same s low =
      let n = slots_of_class class in
      after_header l s
      ∙ (sym (read_index box class (rows kd class) l kd keyed s (omega (arith, low, n))) ∙ sym (after_header (unboxed_rows box kd class (rows kd class) l) s))

  abbrev pub kinds : ℕ → ℕ
  kinds p = entry_word mask stands p 4

  abbrev pub payloads : ℕ → ℕ
  payloads p = entry_word mask stands p 5

  -- the value of a row
  module _ (p : ℕ) (low : p < rows kd class) where
    at : value_at kd class p ≡ entry_offset (slots class) p 4
    at = keyed_value kd keyed class p

    next : suc (value_at kd class p) ≡ entry_offset (slots class) p 5
    next = let e = at in omega (arith, e)

    pub kind_here : slice_index l (value_at kd class p) ≡ kinds p
    kind_here = ap (slice_index l) at ∙ sym (word_here class l p 4)

    pub payload_here : slice_index l (suc (value_at kd class p)) ≡ payloads p
    payload_here = ap (slice_index l) next ∙ sym (word_here class l p 5)

    both : (slice_index (unboxed_rows box kd class (rows kd class) l) (value_at kd class p) ≡ unboxed_kind box (slice_index l (value_at kd class p)) (slice_index l (suc (value_at kd class p))))
        × (slice_index (unboxed_rows box kd class (rows kd class) l) (suc (value_at kd class p)) ≡ unboxed_payload box (slice_index l (value_at kd class p)) (slice_index l (suc (value_at kd class p))))
    both = let inside = value_low kd class p is_class low in rows_at box kd class (rows kd class) p l low (omega (arith, inside, long))

    kind_reads : entry_word mask reads p 4 ≡ unboxed_kind box (kinds p) (payloads p)
    kind_reads =
        word_here class (unboxed_rows box kd class (rows kd class) l) p 4
        ∙ (ap (slice_index (unboxed_rows box kd class (rows kd class) l)) (sym at) ∙ (both.0 ∙ (λ d. unboxed_kind box (kind_here d) (payload_here d))))

    payload_reads : entry_word mask reads p 5 ≡ unboxed_payload box (kinds p) (payloads p)
    payload_reads =
        word_here class (unboxed_rows box kd class (rows kd class) l) p 5
        ∙ (ap (slice_index (unboxed_rows box kd class (rows kd class) l)) (sym next) ∙ (both.1 ∙ (λ d. unboxed_payload box (kind_here d) (payload_here d))))

  words_of : (p i : ℕ) → 1 ≤ i → i < 7 → i ≢ 4 → i ≢ 5 → entry_word mask stands p i ≡ entry_word mask reads p i
  words_of p i some few not4 not5 = words_same p i (omega (arith, few)) not4 not5

  -- each box that it names can be named, and has a value
  abbrev pub NamesBoxes : Type 0
  NamesBoxes = (p : ℕ) → p < rows kd class → kinds p ≡ 4 → (payloads p / 65536 < 64) × (payloads p % 65536 < 4096) × (1 ≤ box (payloads p) 1)

  -- ---- from what it reads to what it stores

  module _ (used : List UsedEntry) (table : IsTable walk room texts mask used reads) (named : NamesBoxes) where
    abbrev pub raws : List UsedEntry
    raws = raw_from kinds payloads 0 used

    inside : (p : ℕ) → p < length used → p < rows kd class
    inside p low = let f = table.fill in omega (arith, f, low, room_is)

    fits : (p : ℕ) → p < rows kd class → kinds p ≡ 4 → (payloads p / 65536 < 64) × (payloads p % 65536 < 4096)
    fits p low four = let n = named p low four in (n.0, n.1)

    all_read : (q : ℕ) (es : List UsedEntry) → ((p : ℕ) (any : UsedEntry) → p < length es → IsEntry (entry_word mask reads (q + p)) (slot_of texts (slice_index_or es p any)) × (q + p < rows kd class)) → AllRead box (raw_from kinds payloads q es) es
    all_read q [] h = tt
    all_read q (e ∷ es) h =
        let first = h 0 e (omega arith) in
        let z : q + 0 ≡ q = omega arith in
        let low : q < rows kd class = let f = first.1 in omega (arith, f) in
        let says : IsEntry (entry_word mask reads q) (slot_of texts e) = subst (λ (n : ℕ). IsEntry (entry_word mask reads n) (slot_of texts e)) z first.0 in (
          raw_reads box (entry_word mask reads q) (entry_word mask stands q) (words_of q) (kind_reads q low) (payload_reads q low) (fits q low) texts e says,
          all_read (suc q) es (λ p any less.
              let one = h (suc p) any (omega (arith, less)) in
              let y : q + suc p ≡ suc q + p = omega arith in
              subst (λ (n : ℕ). IsEntry (entry_word mask reads n) (slot_of texts (slice_index_or es p any)) × (n < rows kd class)) y one),
        )

    pub raws_read : AllRead box raws used
    raws_read =
        all_read 0 used (λ p any low.
        let y : p ≡ 0 + p = omega arith in
        subst (λ (n : ℕ). IsEntry (entry_word mask reads n) (slot_of texts (slice_index_or used p any)) × (n < rows kd class)) y (table.entries p any low, inside p low))

    pub raw_is : IsTable walk room texts mask raws stands
    raw_is =
        revalued walk room texts mask in_walk used raws reads stands table (sym as_long) (raw_long kinds payloads 0 used) refl index_same (λ p w low few not4 not5. words_same p w few not4 not5)
        (λ p any low. let r = read_at box raws used raws_read p any any low in (r.key, r.serial, live_same box (slice_index_or raws p any) (slice_index_or used p any) r))
        (λ p any low.
        let e = slice_index_or used p any in
        let z : 0 + p ≡ p = omega arith in
        let is = raw_at kinds payloads 0 p used any any low in
        let row = inside p low in
        let one = raw_slot box (entry_word mask reads p) (entry_word mask stands p) (words_of p) (kind_reads p row) (payload_reads p row) (fits p row) (hash_of texts e.key) e.key e.serial e.stored (table.entries p any low) in
        subst (λ (u : UsedEntry). IsEntry (entry_word mask stands p) (slot_of texts u)) (sym (is ∙ (λ d. record { key = e.key; serial = e.serial; stored = raw_option (kinds (z d)) (payloads (z d)) e.stored }))) one)
        (λ p past low.
        let row : p < rows kd class = omega (arith, low, room_is) in
        raw_never box (entry_word mask reads p) (entry_word mask stands p) (words_of p) (kind_reads p row) (payload_reads p row) (fits p row) (λ four. (named p row four).2) (table.unused p past low))

  -- ---- and back

  module _ (rs es : List UsedEntry) (table : IsTable walk room texts mask rs stands) (same : AllRead box rs es) (live : All (λ (e : UsedEntry). is_live e ≡ true) es) where
    many : length rs ≡ length es
    many = read_long box rs es same

    back : (p i : ℕ) → 1 ≤ i → i < 7 → i ≢ 4 → i ≢ 5 → entry_word mask stands p i ≡ entry_word mask reads p i
    back = words_of

    pub read_is : IsTable walk room texts mask es reads
    read_is =
        revalued walk room texts mask in_walk rs es stands reads table as_long (sym many) refl (λ s low. sym (index_same s low)) (λ p w low few not4 not5. sym (words_same p w few not4 not5))
        (λ p any low. let m = many in let r = read_at box rs es same p any any (omega (arith, low, m)) in (sym r.key, sym r.serial, sym (live_same box (slice_index_or rs p any) (slice_index_or es p any) r)))
        (λ p any low.
        let m = many in
        let f = table.fill in
        let row : p < rows kd class = omega (arith, f, low, room_is) in
        let a = slice_index_or rs p any in
        let e = slice_index_or es p any in
        let r = read_at box rs es same p any any (omega (arith, low, m)) in
        let is : IsEntry (entry_word mask stands p) (slot_with (hash_of texts e.key) e.key e.serial a.stored) = subst (λ (z : Key × ℕ). IsEntry (entry_word mask stands p) (slot_with (hash_of texts z.0) z.0 z.1 a.stored)) (λ d. (r.key d, r.serial d)) (table.entries p any low) in
        read_slot box (entry_word mask reads p) (entry_word mask stands p) (back p) (kind_reads p row) (payload_reads p row) (hash_of texts e.key) e.key e.serial a.stored e.stored (live p any (omega (arith, low, m))) r.stored is)
        (λ p past low.
        let row : p < rows kd class = omega (arith, low, room_is) in
        read_never box (entry_word mask reads p) (entry_word mask stands p) (back p) (kind_reads p row) (payload_reads p row) (table.unused p past low))

-- ---- how often a table names a box

-- by what an entry stores
abbrev pub named_by : ℕ → Option Stored → ℕ
named_by b None = 0
named_by b (Some stored) = names_box b (stored_kind stored) (stored_payload stored)

abbrev pub named_by_all : ℕ → List UsedEntry → ℕ
named_by_all b [] = 0
named_by_all b (e ∷ es) = named_by b e.stored + named_by_all b es

sum_first : (f : ℕ → ℕ) (n : ℕ) → sum_to f (suc n) ≡ f 0 + sum_to (λ i. f (suc i)) n
sum_first f zero = omega arith
sum_first f (suc n) = let r = sum_first f n in omega (arith, r)

sum_named : (b : ℕ) (es : List UsedEntry) (f : ℕ → ℕ) (n : ℕ) → length es ≤ n → ((p : ℕ) (any : UsedEntry) → p < length es → f p ≡ named_by b (slice_index_or es p any).stored) → ((p : ℕ) → length es ≤ p → p < n → f p ≡ 0) → sum_to f n ≡ named_by_all b es
sum_named b [] f n few each none = sum_none f n (λ p low. none p (omega arith) low)
sum_named b (e ∷ es) f zero few each none = absurd (omega (arith, few))
sum_named b (e ∷ es) f (suc n) few each none =
    let first = each 0 e (omega arith) in
    let head = sum_first f n in
    let rest = sum_named b es (λ i. f (suc i)) n (omega (arith, few)) (λ p any low. each (suc p) any (omega (arith, low))) (λ p past low. none (suc p) (omega (arith, past)) (omega (arith, low))) in
    omega (arith, first, head, rest)

by_bool : (b : ℕ) (a : Bool) (e : UsedEntry) (es : List UsedEntry) → (a ≡ false → named_by b e.stored ≡ 0) → named_by_all b (cond a (e ∷ es) es) ≡ named_by b e.stored + named_by_all b es
by_bool b true e es none = refl
by_bool b false e es none = let z = none refl in omega (arith, z)

gone_names : (b : ℕ) (o : Option Stored) → is_some o ≡ false → named_by b o ≡ 0
gone_names b None gone = refl
gone_names b (Some s) gone = absurd (cc)

-- entries that are gone store none
pub named_live : (b : ℕ) (es : List UsedEntry) → named_by_all b (filter is_live es) ≡ named_by_all b es
named_live b [] = refl
named_live b (e ∷ es) =
    let rest = named_live b es in
    let one = by_bool b (is_live e) e (filter is_live es) (gone_names b e.stored) in
    omega (arith, rest, one)

key_low : (k : Key) → nat_lt (key_kind k) 3 ≡ true
key_low (key.Int n) = refl
key_low (key.Text s) = refl

gone_high : (k : Key) → nat_lt (gone_kind k) 3 ≡ false
gone_high (key.Int n) = refl
gone_high (key.Text s) = refl

-- a table with these entries
module _ (kd : Kind) (keyed : IsKeyed kd) (class : ℕ) (walk : ℕ → List ℕ) (room : ℕ) (texts : List ℕ) (room_is : room ≡ rows kd class) (l : List ℕ) (es : List UsedEntry) (table : IsTable walk room texts (class_mask class) es (0 ∷ 0 ∷ l)) (b : ℕ) where
  abbrev word : ℕ → ℕ → ℕ
  word p w = entry_word (class_mask class) (0 ∷ 0 ∷ l) p w

  row_names : (p : ℕ) → names_box_at b kd class l p ≡ names_box b (word p 4) (word p 5)
  row_names p =
      let at = keyed_value kd keyed class p in
      let next : suc (value_at kd class p) ≡ entry_offset (slots class) p 5 = omega (arith, at) in
      λ d. names_box b ((ap (slice_index l) at ∙ sym (word_here class l p 4)) d) ((ap (slice_index l) next ∙ sym (word_here class l p 5)) d)

  by_stored : (p hash : ℕ) (k : Key) (serial : ℕ) (o : Option Stored) → IsEntry (word p) (slot_with hash k serial o) → live_names_at b kd class l p ≡ named_by b o
  by_stored p hash k serial (Some s) is =
      let low : nat_lt (entry_field (slots class) l p 2) 3 ≡ true = (λ d. nat_lt ((sym (word_here class l p 2) ∙ is.key.kind_is) d) 3) ∙ key_low k in
      (λ d. cond (low d) (names_box_at b kd class l p) 0)
      ∙ (row_names p ∙ (λ d. names_box b (is.value.kind_is d) (is.value.payload_is d)))
  by_stored p hash k serial None is =
      let high : nat_lt (entry_field (slots class) l p 2) 3 ≡ false = (λ d. nat_lt ((sym (word_here class l p 2) ∙ is.key_is.kind_is) d) 3) ∙ gone_high k in
      λ d. cond (high d) (names_box_at b kd class l p) 0

  never_names : (p : ℕ) → IsEntry (word p) Never → names_box_at b kd class l p ≡ 0
  never_names p is = let z = is.value.kind_is in row_names p ∙ plain_names b (word p 4) (word p 5) (λ four. omega (arith, z, four))

  never_live : (p : ℕ) → IsEntry (word p) Never → live_names_at b kd class l p ≡ 0
  never_live p is =
      let low : nat_lt (entry_field (slots class) l p 2) 3 ≡ true = (λ d. nat_lt ((sym (word_here class l p 2) ∙ is.kind) d) 3) in
      (λ d. cond (low d) (names_box_at b kd class l p) 0) ∙ never_names p is

  few : length es ≤ rows kd class
  few = let f = table.fill in omega (arith, f, room_is)

  pub live_sum : sum_to (live_names_at b kd class l) (rows kd class) ≡ named_by_all b es
  live_sum =
      sum_named b es (live_names_at b kd class l) (rows kd class) few
      (λ p any low. let e = slice_index_or es p any in by_stored p (hash_of texts e.key) e.key e.serial e.stored (table.entries p any low))
      (λ p past low. never_live p (table.unused p past (omega (arith, low, room_is))))

  -- where no key was deleted, it names a box as often
  all_stored : (p hash : ℕ) (k : Key) (serial : ℕ) (o : Option Stored) → is_some o ≡ true → IsEntry (word p) (slot_with hash k serial o) → names_box_at b kd class l p ≡ named_by b o
  all_stored p hash k serial (Some s) live is = row_names p ∙ (λ d. names_box b (is.value.kind_is d) (is.value.payload_is d))
  all_stored p hash k serial None live is = absurd (cc)

  pub all_sum : All (λ (e : UsedEntry). is_live e ≡ true) es → sum_to (names_box_at b kd class l) (rows kd class) ≡ named_by_all b es
  all_sum live =
      sum_named b es (names_box_at b kd class l) (rows kd class) few
      (λ p any low. let e = slice_index_or es p any in all_stored p (hash_of texts e.key) e.key e.serial e.stored (live p any low) (table.entries p any low))
      (λ p past low. never_names p (table.unused p past (omega (arith, low, room_is))))
