use Rattle.std.proofs.Common.{◌≡◌, ◌%◌, ◌<◌, Bool, false, List, [], None, sym, ap, ◌∙◌, subst, inl}
use Rattle.std.specs.Prelude.{if◌then◌else◌}
use Rattle.ft_layout.specs.declared.slot.Stored.TheVariants.{Plain}
use Rattle.ft_layout.specs.Words.{stored_kind, stored_payload}
use Rattle.ft_trace.specs.declared.Shape.{Shape}
use Rattle.ft_trace.specs.Addresses.{class_of, container_count, slots}
use Rattle.ft_trace.specs.ContainerStates.{kind_in}
use Rattle.ft_trace.specs.EntryWrites.{value_puts}
use Rattle.ft_trace.specs.Holds.{held_words, held_unboxed, known_state}
use Rattle.ft_trace.specs.Pictures.{ContainerWords, entry_field}
use Rattle.ft_trace.specs.WholeWrites.{Put, MayPuts}
use Rattle.ft_search.specs.OneEntryWrites.{are_of_value}
use Rattle.ft_merging.specs.Internal.JoiningSteps.{stored_puts}
use Rattle.ft_bank.specs.Passes.{shape_of, view}
use Rattle.ft_bank.specs.TableNames.{table_id}
use Rattle.ft_bank.proofs.KnownAfterWrites.{written_then}
use Rattle.ft_merging.proofs.SharedValues.{entry_long, value_put}
use Rattle.ft_merging.proofs.putting.put_stored.Goals as goal
use Rattle.ft_merging.proofs.putting.put_stored.Goals.{After-put_value}

-- what the entry reads once the value is put
put_there : (c : After-put_value) → (entry_field (slots (class_of (table_id c.args.to.table))) (held_unboxed c.args.to.o (view c.put_value.new.pass)).table c.args.to.place 0 % 2 ≡ 1) × (entry_field (slots (class_of (table_id c.args.to.table))) (held_unboxed c.args.to.o (view c.put_value.new.pass)).table c.args.to.place 4 ≡ stored_kind (Plain c.in-Plain.value)) × (entry_field (slots (class_of (table_id c.args.to.table))) (held_unboxed c.args.to.o (view c.put_value.new.pass)).table c.args.to.place 5 ≡ stored_payload (Plain c.in-Plain.value))
put_there c =
    let a = c.args in
    let k = shape_of a.bank.now in
    let v = view a.pass.now in
    let w = c.requires.writes in
    let x = held_unboxed a.to.o v in
    let n = slots (class_of (table_id a.to.table)) in
    let no : are_of_value (entry_field n x.table a.to.place 4) (entry_field n x.table a.to.place 5) c.in-Plain.value ≡ false =
    sym (λ d. are_of_value (c.requires.old_kind d) (c.requires.old_payload d) c.in-Plain.value) ∙ (sym c.says_value.ensures ∙ c.if-not-says_value.true) in
    let puts : stored_puts n x.table a.to.place a.stored ≡ value_puts n x.table a.to.place None c.in-Plain.value =
    ap (stored_puts n x.table a.to.place) c.in-Plain.is ∙ ap (λ (b : Bool). if b then [] else value_puts n x.table a.to.place None c.in-Plain.value) no in
    let may = subst (λ (ps : List Put). MayPuts (kind_in k.starts a.to.o) (table_id a.to.table) (known_state a.to.o v).content false x ps) puts c.requires.may in
    subst (λ (x : ContainerWords). (entry_field (slots (class_of (table_id a.to.table))) x.table a.to.place 0 % 2 ≡ 1) × (entry_field (slots (class_of (table_id a.to.table))) x.table a.to.place 4 ≡ stored_kind (Plain c.in-Plain.value)) × (entry_field (slots (class_of (table_id a.to.table))) x.table a.to.place 5 ≡ stored_payload (Plain c.in-Plain.value))) (sym c.put_value.ensures.words)
    (value_put (kind_in k.starts a.to.o) w.keyed (table_id a.to.table) a.to.place (known_state a.to.o v).content c.in-Plain.value (held_unboxed a.to.o v) may (entry_long k a.to.o a.to.table a.to.place v w c.requires.place))

-- the entry of the other container reads the same still
from_same : (c : After-put_value) → held_unboxed c.args.from.o (view c.put_value.new.pass) ≡ held_unboxed c.args.from.o (view c.args.pass.now)
from_same c =
    let a = c.args in
    (c.put_value.ensures.only.others a.from.o (subst (λ (z : Shape). a.from.o < container_count z) (sym c.requires.pass.1) c.requires.other.container) (λ e. c.requires.two (sym e)) c.requires.other.locked c.requires.other.even).1

pub share_value-requires-clause-kind : goal.share_value-requires-clause-kind
share_value-requires-clause-kind c =
    let a = c.args in
    let d = (goal.at.share_value-requires-clause-kind c).After-put_value in
    (put_there d).1 ∙ (ap stored_kind (sym c.in-Plain.is) ∙ (sym c.requires.reads.kind_is ∙ sym (ap (λ (x : ContainerWords). entry_field (slots (class_of (table_id a.from.table))) x.table a.from.place 4) (from_same d))))

pub share_value-requires-clause-payload : goal.share_value-requires-clause-payload
share_value-requires-clause-payload c =
    let a = c.args in
    let d = (goal.at.share_value-requires-clause-payload c).After-put_value in
    (put_there d).2 ∙ (ap stored_payload (sym c.in-Plain.is) ∙ (sym c.requires.reads.payload_is ∙ sym (ap (λ (x : ContainerWords). entry_field (slots (class_of (table_id a.from.table))) x.table a.from.place 5) (from_same d))))

pub returns-then-not-says_value-clause-only : goal.returns-then-not-says_value-clause-only
returns-then-not-says_value-clause-only c = written_then c.args.to.o (view c.args.pass.now) (view c.put_value.new.pass) (view c.share_value.new.pass) c.put_value.ensures.only c.share_value.ensures.only

pub returns-then-not-says_value-clause-others : goal.returns-then-not-says_value-clause-others
returns-then-not-says_value-clause-others c other word ne low = c.share_value.ensures.others other word ne low ∙ c.put_value.ensures.others other word ne low

-- the words of the entry of the other container stand as they stood
from_stands : (c : After-put_value) → held_words c.args.from.o (view c.put_value.new.pass) ≡ held_words c.args.from.o (view c.args.pass.now)
from_stands c =
    let a = c.args in
    (c.put_value.ensures.only.others a.from.o (subst (λ (z : Shape). a.from.o < container_count z) (sym c.requires.pass.1) c.requires.other.container) (λ e. c.requires.two (sym e)) c.requires.other.locked c.requires.other.even).0

pub returns-then-not-says_value-clause-shares : goal.returns-then-not-says_value-clause-shares
returns-then-not-says_value-clause-shares c value is =
    let a = c.args in
    let n = slots (class_of (table_id a.from.table)) in
    let same = from_stands (goal.at.returns-then-not-says_value-clause-shares c).After-put_value in
    inl (λ four.
    let s = c.share_value.ensures.shares (ap (λ (x : ContainerWords). entry_field n x.table a.from.place 4) same ∙ four) in
    (s.0, s.1 ∙ ap (λ (x : ContainerWords). entry_field n x.table a.from.place 5) same))
