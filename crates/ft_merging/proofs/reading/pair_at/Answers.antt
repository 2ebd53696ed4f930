use Rattle.std.proofs.Common.{◌≡◌, ℕ, ◌+◌, ◌*◌, ◌<◌, sym, ap, ◌∙◌, subst, arith}
use Rattle.std.specs.Prelude.{slice_index}
use Rattle.ft_layout.specs.declared.slot.Slot.{Slot}
use Rattle.ft_layout.specs.declared.slot.Slot.TheVariants.{Gone, Live, Never}
use Rattle.ft_layout.specs.declared.slot.Stored.{Stored}
use Rattle.ft_layout.specs.declared.slot.Stored.TheVariants.{Empty}
use Rattle.ft_layout.specs.Words.{IsEntry, IsStored}
use Rattle.ft_trace.specs.Addresses.{class_of, slots}
use Rattle.ft_trace.specs.Holds.{held_unboxed}
use Rattle.ft_trace.specs.ContainerStates.{kind_in}
use Rattle.ft_trace.specs.Pictures.{entry_field, entry_offset, root_in}
use Rattle.ft_bank.specs.Passes.{shape_of, view}
use Rattle.ft_bank.specs.TableNames.{table_id}
use Rattle.ft_bank.specs.Whole.{OnlyLoaded}
use Rattle.ft_bank.proofs.KnownAfterWrites.{loaded_held, loaded_then}
use Rattle.ft_search.proofs.Puts.{few_mask, few_places}
use Rattle.ft_search.proofs.WordPlaces.{slots_is}
use Rattle.ft_new_keys.proofs.OldValues.{row_value}
use Rattle.ft_merging.proofs.JoinedReads.{table_after, word_after}
use Rattle.ft_merging.proofs.reading.pair_at.Goals as goal
use Rattle.ft_merging.proofs.reading.pair_at.Goals.{After-mask_of, After-read_stored-value_kind, After-word_of-kind, After-word_of-payload}

two : (c : After-word_of-kind) → OnlyLoaded (view c.args.pass.now) (view c.word_of-kind.new.pass)
two c = loaded_then (view c.args.pass.now) (view c.word_of-hash.new.pass) (view c.word_of-kind.new.pass) c.word_of-hash.ensures.only c.word_of-kind.ensures.only

three : (c : After-word_of-payload) → OnlyLoaded (view c.args.pass.now) (view c.word_of-payload.new.pass)
three c = loaded_then (view c.args.pass.now) (view c.word_of-kind.new.pass) (view c.word_of-payload.new.pass) (loaded_then (view c.args.pass.now) (view c.word_of-hash.new.pass) (view c.word_of-kind.new.pass) c.word_of-hash.ensures.only c.word_of-kind.ensures.only) c.word_of-payload.ensures.only

four : (c : After-read_stored-value_kind) → OnlyLoaded (view c.args.pass.now) (view c.read_stored-value_kind.new.pass)
four c = loaded_then (view c.args.pass.now) (view c.word_of-payload.new.pass) (view c.read_stored-value_kind.new.pass) (loaded_then (view c.args.pass.now) (view c.word_of-kind.new.pass) (view c.word_of-payload.new.pass) (loaded_then (view c.args.pass.now) (view c.word_of-hash.new.pass) (view c.word_of-kind.new.pass) c.word_of-hash.ensures.only c.word_of-kind.ensures.only) c.word_of-payload.ensures.only) c.read_stored-value_kind.ensures.only

pub word_of-kind-requires-clause-knows : goal.word_of-kind-requires-clause-knows
word_of-kind-requires-clause-knows c = table_after c.args.o (table_id c.args.table) (view c.args.pass.now) (view c.word_of-hash.new.pass) c.word_of-hash.ensures.only c.requires.knows

pub word_of-payload-requires-clause-knows : goal.word_of-payload-requires-clause-knows
word_of-payload-requires-clause-knows c = table_after c.args.o (table_id c.args.table) (view c.args.pass.now) (view c.word_of-kind.new.pass) (two (goal.at.word_of-payload-requires-clause-knows c).After-word_of-kind) c.requires.knows

pub word_of-serial-requires-clause-knows : goal.word_of-serial-requires-clause-knows
word_of-serial-requires-clause-knows c = table_after c.args.o (table_id c.args.table) (view c.args.pass.now) (view c.read_stored-value_kind.new.pass) (four (goal.at.word_of-serial-requires-clause-knows c).After-read_stored-value_kind) c.requires.knows

pub word_of-hash-requires-clause-no_value : goal.word_of-hash-requires-clause-no_value
word_of-hash-requires-clause-no_value c = ((λ e. absurd (omega (arith, e))), (λ e. absurd (omega (arith, e))))

pub word_of-kind-requires-clause-no_value : goal.word_of-kind-requires-clause-no_value
word_of-kind-requires-clause-no_value c = ((λ e. absurd (omega (arith, e))), (λ e. absurd (omega (arith, e))))

pub word_of-payload-requires-clause-no_value : goal.word_of-payload-requires-clause-no_value
word_of-payload-requires-clause-no_value c = ((λ e. absurd (omega (arith, e))), (λ e. absurd (omega (arith, e))))

pub word_of-serial-requires-clause-no_value : goal.word_of-serial-requires-clause-no_value
word_of-serial-requires-clause-no_value c = ((λ e. absurd (omega (arith, e))), (λ e. absurd (omega (arith, e))))

pub returns-clause-only : goal.returns-clause-only
returns-clause-only c = loaded_then (view c.args.pass.now) (view c.read_stored-value_kind.new.pass) (view c.word_of-serial.new.pass) (four (goal.at.returns-clause-only c).After-read_stored-value_kind) c.word_of-serial.ensures.only

-- ---- the value

few : (c : After-mask_of) → c.args.place < 65536
few c = few_places (shape_of c.args.bank.now) c.args.table (kind_in (shape_of c.args.bank.now).starts c.args.o) c.args.place c.requires.table c.requires.keyed c.requires.place

small : (c : After-mask_of) → c.mask_of.result < 65536
small c = subst (λ (n : ℕ). n < 65536) (sym c.mask_of.ensures) (few_mask (shape_of c.args.bank.now) c.args.table c.requires.table)

pub overflow_mul-at : goal.overflow_mul-at
overflow_mul-at c = let f = few_places (shape_of c.args.bank.now) c.args.table (kind_in (shape_of c.args.bank.now).starts c.args.o) c.args.place c.requires.table c.requires.keyed c.requires.place in omega (arith, f)

pub overflow_add-at : goal.overflow_add-at
overflow_add-at c =
    let d = (goal.at.overflow_add-at c).After-mask_of in
    let f = few d in
    let s = small d in
    omega (arith, f, s)

pub overflow_add-at-2 : goal.overflow_add-at-2
overflow_add-at-2 c =
    let d = (goal.at.overflow_add-at-2 c).After-mask_of in
    let f = few d in
    let s = small d in
    omega (arith, f, s)

pub overflow_add-at-3 : goal.overflow_add-at-3
overflow_add-at-3 c =
    let d = (goal.at.overflow_add-at-3 c).After-mask_of in
    let f = few d in
    let s = small d in
    omega (arith, f, s)

pub read_stored-value_kind-requires-clause-locked : goal.read_stored-value_kind-requires-clause-locked
read_stored-value_kind-requires-clause-locked c = (three (goal.at.read_stored-value_kind-requires-clause-locked c).After-word_of-payload).work.pass.locks c.args.o ∙ c.requires.knows.0

pub read_stored-value_kind-requires-clause-root : goal.read_stored-value_kind-requires-clause-root
read_stored-value_kind-requires-clause-root c =
    let a = c.args in
    ap root_in (loaded_held (view a.pass.now) (view c.word_of-payload.new.pass) a.o (three (goal.at.read_stored-value_kind-requires-clause-root c).After-word_of-payload)) ∙ c.requires.knows.1

pub read_stored-value_kind-requires-clause-value : goal.read_stored-value_kind-requires-clause-value
read_stored-value_kind-requires-clause-value c =
    let a = c.args in
    (a.place, c.requires.place, row_value (shape_of a.bank.now) a.o a.table c.mask_of.result a.place c.requires.keyed c.requires.table c.mask_of.ensures)

-- where its two words lie
kind_lies : (c : After-read_stored-value_kind) → 8 * c.args.place + c.mask_of.result + 1 + 4 ≡ entry_offset (slots (class_of (table_id c.args.table))) c.args.place 4
kind_lies c = let many = slots_is (shape_of c.args.bank.now) c.args.table c.mask_of.result c.requires.table c.mask_of.ensures in omega (arith, many)

payload_lies : (c : After-read_stored-value_kind) → 8 * c.args.place + c.mask_of.result + 1 + 4 + 1 ≡ entry_offset (slots (class_of (table_id c.args.table))) c.args.place 5
payload_lies c = let many = slots_is (shape_of c.args.bank.now) c.args.table c.mask_of.result c.requires.table c.mask_of.ensures in omega (arith, many)

value_kind : (c : After-read_stored-value_kind) → OnlyLoaded (view c.args.pass.now) (view c.word_of-payload.new.pass) → c.read_stored-value_kind.result.0 ≡ entry_field (slots (class_of (table_id c.args.table))) (held_unboxed c.args.o (view c.args.pass.now)).table c.args.place 4
value_kind c only =
    let a = c.args in
    word_after (shape_of a.bank.now) a.o (slots (class_of (table_id a.table))) a.place 4 (view a.pass.now) (view c.word_of-payload.new.pass) c.requires.pass.1 c.requires.container c.requires.knows.0 only _
    (c.read_stored-value_kind.ensures.kind ∙ ap (slice_index (held_unboxed a.o (view c.word_of-payload.new.pass)).table) (kind_lies c))

value : (c : After-read_stored-value_kind) → OnlyLoaded (view c.args.pass.now) (view c.word_of-payload.new.pass) → c.read_stored-value_kind.result.1 ≡ entry_field (slots (class_of (table_id c.args.table))) (held_unboxed c.args.o (view c.args.pass.now)).table c.args.place 5
value c only =
    let a = c.args in
    word_after (shape_of a.bank.now) a.o (slots (class_of (table_id a.table))) a.place 5 (view a.pass.now) (view c.word_of-payload.new.pass) c.requires.pass.1 c.requires.container c.requires.knows.0 only _
    (c.read_stored-value_kind.ensures.payload ∙ ap (slice_index (held_unboxed a.o (view c.word_of-payload.new.pass)).table) (payload_lies c))

-- ---- the entry

stored_like : (a b : ℕ → ℕ) (stored : Stored) → a 4 ≡ b 4 → a 5 ≡ b 5 → IsStored (b 4) (b 5) stored → IsStored (a 4) (a 5) stored
stored_like a b stored h4 h5 is = record { fits = is.fits; kind_is = h4 ∙ is.kind_is; payload_is = h5 ∙ is.payload_is }

-- an entry is the same with other words beside its own
like : (a b : ℕ → ℕ) → a 1 ≡ b 1 → a 2 ≡ b 2 → a 3 ≡ b 3 → a 4 ≡ b 4 → a 5 ≡ b 5 → a 6 ≡ b 6 → (said : Slot) → IsEntry b said → IsEntry a said
like a b h1 h2 h3 h4 h5 h6 (Live pair) is = record {
  hash = h1 ∙ is.hash;
  key = record { fits = is.key.fits; kind_is = h2 ∙ is.key.kind_is; payload_is = h3 ∙ is.key.payload_is };
  value = stored_like a b pair.value h4 h5 is.value;
  serial = h6 ∙ is.serial;
}
like a b h1 h2 h3 h4 h5 h6 Never is = record { kind = h2 ∙ is.kind; payload = h3 ∙ is.payload; value = stored_like a b Empty h4 h5 is.value }
like a b h1 h2 h3 h4 h5 h6 (Gone key serial) is = record {
  key_is = record { fits = is.key_is.fits; kind_is = h2 ∙ is.key_is.kind_is; payload_is = h3 ∙ is.key_is.payload_is };
  left = is.left;
  value = stored_like a b is.left h4 h5 is.value;
  serial_is = h6 ∙ is.serial_is;
}

pub returns-clause-pair : goal.returns-clause-pair
returns-clause-pair c said is =
    let a = c.args in
    let k = shape_of a.bank.now in
    let v = view a.pass.now in
    let n = slots (class_of (table_id a.table)) in
    let d = goal.at.returns-clause-pair c in
    c.pair_said.ensures said
    (like _ (entry_field n (held_unboxed a.o v).table a.place)
    c.word_of-hash.ensures.found
    (word_after k a.o n a.place 2 v (view c.word_of-hash.new.pass) c.requires.pass.1 c.requires.container c.requires.knows.0 c.word_of-hash.ensures.only _ c.word_of-kind.ensures.found)
    (word_after k a.o n a.place 3 v (view c.word_of-kind.new.pass) c.requires.pass.1 c.requires.container c.requires.knows.0 (two d.After-word_of-kind) _ c.word_of-payload.ensures.found)
    (value_kind d.After-read_stored-value_kind (three d.After-word_of-payload))
    (value d.After-read_stored-value_kind (three d.After-word_of-payload))
    (word_after k a.o n a.place 6 v (view c.read_stored-value_kind.new.pass) c.requires.pass.1 c.requires.container c.requires.knows.0 (four d.After-read_stored-value_kind) _ c.word_of-serial.ensures.found)
    said is)
