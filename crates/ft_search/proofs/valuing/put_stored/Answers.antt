use Rattle.std.proofs.Common.{◌≡◌, ℕ, ◌+◌, ◌<◌, sym, ap, ◌∙◌, subst, arith, get_or-set_other}
use Rattle.std.specs.Prelude.{slice_index}
use Rattle.ft_layout.specs.Words.{stored_kind, stored_payload}
use Rattle.ft_trace.specs.Addresses.{class_of, slots}
use Rattle.ft_trace.specs.Boxes.{names_box}
use Rattle.ft_trace.specs.ContainerStates.{kind_in}
use Rattle.ft_trace.specs.Holds.{held_words}
use Rattle.ft_trace.specs.Pictures.{ContainerWords, entry_field, entry_offset}
use Rattle.ft_bank.specs.BoxSteps.{kind_read, payload_read, HasReferenceFor}
use Rattle.ft_bank.specs.Passes.{shape_of, view}
use Rattle.ft_bank.specs.TableNames.{table_id}
use Rattle.ft_bank.specs.WriteSteps.{with_table}
use Rattle.ft_bank.proofs.KnownAfterWrites.{put_written, written_then}
use Rattle.ft_search.proofs.Boxing.{table_of, entries_of_table}
use Rattle.ft_search.proofs.OtherValues.{value_opens, value_is_open}
use Rattle.ft_search.proofs.Overs.{held_same}
use Rattle.ft_search.proofs.Puts.{few_mask, few_places}
use Rattle.ft_search.proofs.WordPlaces.{entry_is}
use Rattle.ft_search.proofs.valuing.put_stored.Goals as goal
use Rattle.ft_search.proofs.valuing.put_stored.Goals.{After-word_at-word}

at_four : (c : After-word_at-word) → c.word_at-word.result ≡ entry_offset (slots (class_of (table_id c.args.table))) c.args.place 4
at_four c = let a = c.args in c.word_at-word.ensures ∙ entry_is (shape_of a.bank.now) a.table c.mask_of.result a.place 4 c.requires.writes.table_in c.mask_of.ensures

pub raise_at-requires-clause-care : goal.raise_at-requires-clause-care
raise_at-requires-clause-care c =
    let a = c.args in
    value_opens (shape_of a.bank.now) a.o a.table a.place c.requires.may.0 (view a.pass.now) c.requires.pass.1 c.requires.early c.requires.writes.few c.requires.may.1

pub word_at-word-requires-clause-mask : goal.word_at-word-requires-clause-mask
word_at-word-requires-clause-mask c = subst (λ (n : ℕ). n < 65536) (sym c.mask_of.ensures) (few_mask (shape_of c.args.bank.now) c.args.table c.requires.writes.table_in)

pub word_at-word-requires-clause-place : goal.word_at-word-requires-clause-place
word_at-word-requires-clause-place c = few_places (shape_of c.args.bank.now) c.args.table (kind_in (shape_of c.args.bank.now).starts c.args.o) c.args.place c.requires.writes.table_in c.requires.writes.keyed c.requires.place

pub put_over-requires-clause-writes : goal.put_over-requires-clause-writes
put_over-requires-clause-writes c = table_of (shape_of c.args.bank.now) c.args.o c.args.table (view c.raise_at.new.pass) c.raise_at.ensures.writes

pub put_over-requires-clause-open : goal.put_over-requires-clause-open
put_over-requires-clause-open c =
    let a = c.args in
    let e = c.raise_at.ensures in
    value_is_open (shape_of a.bank.now) a.o a.table a.place c.requires.may.0 (view a.pass.now) (view c.raise_at.new.pass) c.requires.pass.1 e.only e.words c.requires.may.1 c.word_at-word.result (at_four (goal.at.put_over-requires-clause-open c).After-word_at-word)

-- what is to be stored is so still, and reads the same
keeps_here : (c : After-word_at-word) → HasReferenceFor (view c.raise_at.new.pass) (stored_kind c.args.stored) (stored_payload c.args.stored) × (kind_read (view c.raise_at.new.pass) (stored_kind c.args.stored) (stored_payload c.args.stored) ≡ kind_read (view c.args.pass.now) (stored_kind c.args.stored) (stored_payload c.args.stored)) × (payload_read (view c.raise_at.new.pass) (stored_kind c.args.stored) (stored_payload c.args.stored) ≡ payload_read (view c.args.pass.now) (stored_kind c.args.stored) (stored_payload c.args.stored))
keeps_here c = c.raise_at.ensures.own (stored_kind c.args.stored) (stored_payload c.args.stored) c.requires.own

pub put_over-requires-clause-own : goal.put_over-requires-clause-own
put_over-requires-clause-own c =
    subst (λ (z : ℕ × ℕ). HasReferenceFor (view c.raise_at.new.pass) z.0 z.1) (λ d. (sym c.stored_kind_of-kind_word.ensures d, sym c.stored_payload_of-payload.ensures d)) (keeps_here (goal.at.put_over-requires-clause-own c).After-word_at-word).0

pub returns-clause-writes : goal.returns-clause-writes
returns-clause-writes c = entries_of_table (shape_of c.args.bank.now) c.args.o c.args.table (view c.put_over.new.pass) c.requires.writes.keyed c.put_over.ensures.writes

pub returns-clause-only : goal.returns-clause-only
returns-clause-only c =
    let a = c.args in
    let v = view a.pass.now in
    let w1 = view c.raise_at.new.pass in
    written_then a.o v w1 (view c.put_over.new.pass) (put_written a.o v w1 c.raise_at.ensures.only) c.put_over.ensures.only

pub returns-clause-words : goal.returns-clause-words
returns-clause-words c value is_kind is_payload =
    let a = c.args in
    let d = (goal.at.returns-clause-words c).After-word_at-word in
    let w1 = view c.raise_at.new.pass in
    let keeps = keeps_here d in
    let at = at_four d in
    let next : c.word_at-word.result + 1 ≡ entry_offset (slots (class_of (table_id a.table))) a.place 5 = omega (arith, at) in
    let kind = (λ i. kind_read w1 (c.stored_kind_of-kind_word.ensures i) (c.stored_payload_of-payload.ensures i)) ∙ (keeps.1 ∙ is_kind) in
    let payload = (λ i. payload_read w1 (c.stored_kind_of-kind_word.ensures i) (c.stored_payload_of-payload.ensures i)) ∙ (keeps.2 ∙ is_payload) in
    c.put_over.ensures.words ∙ (λ i. with_table (with_table (c.raise_at.ensures.words i) (at i) (kind i)) (next i) (payload i))

pub returns-clause-raw : goal.returns-clause-raw
returns-clause-raw c =
    let a = c.args in
    let at = at_four (goal.at.returns-clause-raw c).After-word_at-word in
    let next : c.word_at-word.result + 1 ≡ entry_offset (slots (class_of (table_id a.table))) a.place 5 = omega (arith, at) in
    let table = (held_words a.o (view c.put_over.new.pass)).table in
    let raw = c.put_over.ensures.raw in (
      ap (slice_index table) (sym at) ∙ (raw.0 ∙ c.stored_kind_of-kind_word.ensures),
      ap (slice_index table) (sym next) ∙ (raw.1 ∙ c.stored_payload_of-payload.ensures),
    )

pub returns-clause-references : goal.returns-clause-references
returns-clause-references c b =
    let k = shape_of c.args.bank.now in
    let v = view c.args.pass.now in
    let w1 = view c.raise_at.new.pass in
    let here = held_same k v w1 c.requires.pass.1 c.raise_at.ensures.pass.1 c.raise_at.ensures.references b in
    let put = c.put_over.ensures.references b in
    let names : names_box b c.stored_kind_of-kind_word.result c.stored_payload_of-payload.result ≡ names_box b (stored_kind c.args.stored) (stored_payload c.args.stored) = λ i. names_box b (c.stored_kind_of-kind_word.ensures i) (c.stored_payload_of-payload.ensures i) in
    omega (arith, here, put, names)

pub returns-clause-others : goal.returns-clause-others
returns-clause-others c other word ne few =
    let a = c.args in
    let at = at_four (goal.at.returns-clause-others c).After-word_at-word in
    let n = slots (class_of (table_id a.table)) in
    let x = held_words a.o (view a.pass.now) in
    c.put_over.ensures.stands (entry_offset n other word) (λ e. ne (omega (arith, e, at, few))) (λ e. ne (omega (arith, e, at, few)))
    ∙ (ap (λ (z : ContainerWords). entry_field n z.table other word) c.raise_at.ensures.raw
    ∙ get_or-set_other x.table (entry_offset n a.place 0) (entry_offset n other word) (entry_field n x.table a.place 0 + 1) 0 (λ e. ne (omega (arith, e, few))))
