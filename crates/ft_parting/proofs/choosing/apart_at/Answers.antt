use Rattle.std.proofs.Common.{◌≡◌, ◌<◌, ℕ, ◌∷◌, Bool, true, false, true≢false, List, length, Option, Some, None, refl, sym, ap, ◌∙◌, subst, inl, inr, arith}
use Rattle.std.specs.Prelude.{IsTrue, is_some, slice_index_or}
use Rattle.std.specs.Option.{unwrap_or}
use Rattle.std.proofs.lemmas.Bool.{cases_lt}
use Rattle.ft_model.specs.declared.data.Key.{Key}
use Rattle.ft_model.specs.Contents.{has_element}
use Rattle.ft_model.specs.Worlds.{set_of}
use Rattle.ft_layout.specs.declared.slot.Stored.TheVariants.{Empty}
use Rattle.ft_layout.specs.Containers.{class_mask}
use Rattle.ft_layout.specs.Tables.{IsSetTable, UsedEntry, entry_word, hash_of, is_live}
use Rattle.ft_layout.specs.Words.{IsKey}
use Rattle.ft_keys.specs.declared.walk.Way.TheVariants as way
use Rattle.ft_trace.specs.Addresses.{class_of, slots}
use Rattle.ft_trace.specs.Holds.{held_unboxed, known_state}
use Rattle.ft_trace.specs.Pictures.{ContainerWords, entry_field}
use Rattle.ft_bank.specs.Passes.{shape_of, view}
use Rattle.ft_bank.specs.TableNames.{table_id}
use Rattle.ft_bank.proofs.TableAddresses.{named}
use Rattle.ft_bank.proofs.KnownAfterWrites.{loaded_then, work_knows}
use Rattle.ft_new_keys.proofs.FilledTables.{room_of_way, word_here}
use Rattle.ft_merging.proofs.Ending.{read_same}
use Rattle.ft_parting.proofs.Chosen.{apart_dead, apart_found, apart_here, gone_words, live_words, never_words, set_says}
use Rattle.ft_parting.proofs.choosing.apart_at.Goals as goal
use Rattle.ft_parting.proofs.choosing.apart_at.Goals.{Start, After-key_at, After-word_of-hash, After-has_key}

pub key_at-requires-clause-table : goal.key_at-requires-clause-table
key_at-requires-clause-table c = c.requires.keyed.table_in c.args.from refl

pub word_of-hash-requires-clause-table : goal.word_of-hash-requires-clause-table
word_of-hash-requires-clause-table c = c.requires.keyed.table_in c.args.from refl

pub word_of-serial-requires-clause-table : goal.word_of-serial-requires-clause-table
word_of-serial-requires-clause-table c = c.requires.keyed.table_in c.args.from refl

-- ---- the entry, in the words of the table

abbrev words : (c : Start) → List ℕ
words c = 0 ∷ 0 ∷ (held_unboxed c.args.s (view c.args.pass.now)).table

abbrev mask : (c : Start) → ℕ
mask c = class_mask (class_of (table_id c.args.from))

abbrev texts : (c : Start) → List ℕ
texts c = (shape_of c.args.bank.now).texts

-- a word of it, as searches count it
here : (c : Start) (w : ℕ) → entry_word (mask c) (words c) c.args.place w ≡ entry_field (slots (class_of (table_id c.args.from))) (held_unboxed c.args.s (view c.args.pass.now)).table c.args.place w
here c w = word_here (class_of (table_id c.args.from)) (held_unboxed c.args.s (view c.args.pass.now)).table c.args.place w

-- a live entry's key is the one that was read
read_key : (c : After-key_at) (used : List UsedEntry) (any : UsedEntry) → IsSetTable (shape_of c.args.bank.now).texts (class_mask (class_of (table_id c.args.from))) used (0 ∷ 0 ∷ (held_unboxed c.args.s (view c.args.pass.now)).table) → c.args.place < length used → IsTrue (is_live (slice_index_or used c.args.place any)) → c.key_at.result ≡ Some (slice_index_or used c.args.place any).key
read_key c used any table low live =
    let a = c.args in
    let class = class_of (table_id a.from) in
    let l = (held_unboxed a.s (view a.pass.now)).table in
    let e = slice_index_or used a.place any in
    let says = live_words (shape_of a.bank.now).texts (0 ∷ 0 ∷ l) (class_mask class) a.place e e.stored refl (table.entries a.place any low) live in
    (c.key_at.ensures.key e.key).0 (subst (λ (z : ℕ × ℕ). IsKey z.0 z.1 e.key) (λ i. (word_here class l a.place 2 i, word_here class l a.place 3 i)) says.0)

one_key : (x y : Key) → Some x ≡ Some y → x ≡ y
one_key x y e = ap (λ (z : Option Key). unwrap_or z x) e

-- where a key was read the entry is there with it
read_entry : (c : After-key_at) (key : Key) → c.key_at.result ≡ Some key → (used : List UsedEntry) (any : UsedEntry) → IsSetTable (shape_of c.args.bank.now).texts (class_mask (class_of (table_id c.args.from))) used (0 ∷ 0 ∷ (held_unboxed c.args.s (view c.args.pass.now)).table) → (c.args.place < length used) × IsTrue (is_live (slice_index_or used c.args.place any)) × ((slice_index_or used c.args.place any).key ≡ key)
read_entry c key is used any table =
    let a = c.args in
    let k = shape_of a.bank.now in
    let class = class_of (table_id a.from) in
    let l = (held_unboxed a.s (view a.pass.now)).table in
    let e = slice_index_or used a.place any in
    let stated : IsKey (entry_word (class_mask class) (0 ∷ 0 ∷ l) a.place 2) (entry_word (class_mask class) (0 ∷ 0 ∷ l) a.place 3) key =
    subst (λ (z : ℕ × ℕ). IsKey z.0 z.1 key) (λ i. (sym (word_here class l a.place 2) i, sym (word_here class l a.place 3) i)) ((c.key_at.ensures.key key).1 is) in
    let row = c.requires.place in
    let wide = room_of_way way.Set class (named k a.from (c.requires.keyed.table_in a.from refl)).0 in
    let low : a.place < length used = elim (cases_lt a.place (length used)) [
      | inl less ↦ less
      | inr past ↦ absurd (never_words k.texts (0 ∷ 0 ∷ l) (class_mask class) a.place (table.unused a.place past (omega (arith, row, wide))) key stated)
    ] in
    let live = gone_words k.texts (0 ∷ 0 ∷ l) (class_mask class) a.place e e.stored (table.entries a.place any low) key stated in
    (low, live, one_key e.key key (sym (read_key c used any table low live) ∙ is))

-- the words of the container stay while they are loaded
hash_word : (c : After-word_of-hash) → c.word_of-hash.result ≡ entry_word (class_mask (class_of (table_id c.args.from))) (0 ∷ 0 ∷ (held_unboxed c.args.s (view c.args.pass.now)).table) c.args.place 1
hash_word c =
    let a = c.args in
    let class = class_of (table_id a.from) in
    c.word_of-hash.ensures.found
    ∙ (ap (λ (x : ContainerWords). entry_field (slots class) x.table a.place 1) (read_same (shape_of a.bank.now) a.s (view a.pass.now) (view c.key_at.new.pass) c.requires.pass.1 c.requires.keyed.container c.requires.keyed.locked c.key_at.ensures.only)
    ∙ sym (word_here class (held_unboxed a.s (view a.pass.now)).table a.place 1))

pub has_key-requires-clause-hash : goal.has_key-requires-clause-hash
has_key-requires-clause-hash c =
    let a = c.args in
    let p = goal.at.has_key-requires-clause-hash c in
    let k = shape_of a.bank.now in
    let says = set_says k a.s (view a.pass.now) c.requires.pass.1 a.pass.now.possible c.requires.set a.from c.requires.keyed in
    let any : UsedEntry = record { key = c.in-Some.key; serial = 0; stored = None } in
    let e = read_entry p.After-key_at c.in-Some.key c.in-Some.is says.0 any says.1 in
    hash_word p.After-word_of-hash ∙ (says.1.hashes a.place any e.0 ∙ ap (hash_of k.texts) e.2)

pub returns-in_default-clause-apart : goal.returns-in_default-clause-apart
returns-in_default-clause-apart c used any table low =
    let a = c.args in
    let p = (goal.at.returns-in_default-clause-apart c).After-key_at in
    let e = slice_index_or used a.place any in
    let dead : is_live e ≡ false = by (is_live e) refl in
    sym (apart_dead (shape_of a.bank.now).texts _ e dead)
  where
    by : (b : Bool) → is_live (slice_index_or used c.args.place any) ≡ b → b ≡ false
    by true live = absurd (true≢false (ap is_some (sym (read_key (goal.at.returns-in_default-clause-apart c).After-key_at used any table low live) ∙ c.in_default.is)))
    by false live = refl

-- whether the other set has the key of the entry
has_as : (c : After-has_key) (used : List UsedEntry) (any : UsedEntry) (b : Bool) → c.has_key.result ≡ b → (slice_index_or used c.args.place any).key ≡ c.in-Some.key → has_element (set_of (known_state c.args.t (view c.args.pass.now)).content).elements (slice_index_or used c.args.place any).key ≡ b
has_as c used any b is same =
    let a = c.args in
    let v = view a.pass.now in
    let w = view c.word_of-hash.new.pass in
    let only = loaded_then v (view c.key_at.new.pass) w c.key_at.ensures.only c.word_of-hash.ensures.only in
    (λ i. has_element (set_of (sym (work_knows v w a.t only.work) i).content).elements (same i)) ∙ (sym c.has_key.ensures.found ∙ is)

pub returns-then-has_key-clause-apart : goal.returns-then-has_key-clause-apart
returns-then-has_key-clause-apart c used any table low =
    let a = c.args in
    let p = goal.at.returns-then-has_key-clause-apart c in
    let e = read_entry p.After-key_at c.in-Some.key c.in-Some.is used any table in
    sym (apart_found (shape_of a.bank.now).texts (set_of (known_state a.t (view a.pass.now)).content).elements (slice_index_or used a.place any) (has_as p.After-has_key used any true c.if-has_key.true e.2))

pub returns-clause-apart : goal.returns-clause-apart
returns-clause-apart c used any table low =
    let a = c.args in
    let p = goal.at.returns-clause-apart c in
    let k = shape_of a.bank.now in
    let v = view a.pass.now in
    let class = class_of (table_id a.from) in
    let u = slice_index_or used a.place any in
    let e = read_entry p.After-key_at c.in-Some.key c.in-Some.is used any table in
    let says = live_words k.texts (0 ∷ 0 ∷ (held_unboxed a.s v).table) (class_mask class) a.place u u.stored refl (table.entries a.place any low) e.1 in
    let only = loaded_then v (view c.word_of-hash.new.pass) (view c.has_key.new.pass) (loaded_then v (view c.key_at.new.pass) (view c.word_of-hash.new.pass) c.key_at.ensures.only c.word_of-hash.ensures.only) c.has_key.ensures.only in
    let serial : c.word_of-serial.result ≡ u.serial =
    c.word_of-serial.ensures.found
    ∙ (ap (λ (x : ContainerWords). entry_field (slots class) x.table a.place 6) (read_same k a.s v (view c.has_key.new.pass) c.requires.pass.1 c.requires.keyed.container c.requires.keyed.locked only)
    ∙ (sym (word_here class (held_unboxed a.s v).table a.place 6) ∙ says.2)) in
    let hash : c.word_of-hash.result ≡ hash_of k.texts u.key = hash_word p.After-word_of-hash ∙ table.hashes a.place any low in
    sym
    (apart_here k.texts (set_of (known_state a.t v).content).elements u e.1 (has_as p.After-has_key used any false c.if-has_key.false e.2)
    ∙ (λ i. Some (record { hash = sym hash i; key = e.2 i; value = Empty; serial = sym serial i })))

pub returns-then-has_key-clause-only : goal.returns-then-has_key-clause-only
returns-then-has_key-clause-only c =
    let v = view c.args.pass.now in
    let u = view c.word_of-hash.new.pass in
    loaded_then v u (view c.has_key.new.pass) (loaded_then v (view c.key_at.new.pass) u c.key_at.ensures.only c.word_of-hash.ensures.only) c.has_key.ensures.only

pub returns-clause-only : goal.returns-clause-only
returns-clause-only c =
    let v = view c.args.pass.now in
    let u = view c.word_of-hash.new.pass in
    let x = view c.has_key.new.pass in
    loaded_then v x (view c.word_of-serial.new.pass)
    (loaded_then v u x (loaded_then v (view c.key_at.new.pass) u c.key_at.ensures.only c.word_of-hash.ensures.only) c.has_key.ensures.only)
    c.word_of-serial.ensures.only
