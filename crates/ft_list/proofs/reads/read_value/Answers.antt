use Rattle.std.proofs.Common.{◌≡◌, ℕ, suc, ◌<◌, ◌≤◌, Some, None, [], ◌∷◌, length, sym, ap, ◌∙◌, subst, arith}
use Rattle.std.specs.Prelude.{slice_index}
use Rattle.std.proofs.lemmas.Option.{none-some}
use Rattle.ft_model.specs.declared.script.Kind.{Kind}
use Rattle.ft_layout.specs.declared.slot.Stored.TheVariants.{Plain}
use Rattle.ft_layout.specs.Words.{IsStored}
use Rattle.ft_trace.specs.declared.Act.TheVariants.{ReadTable}
use Rattle.ft_trace.specs.Addresses.{class_of, size}
use Rattle.ft_trace.specs.Boxes.{value_at}
use Rattle.ft_trace.specs.ContainerStates.{kind_in}
use Rattle.ft_trace.specs.Holds.{held_words}
use Rattle.ft_trace.specs.Kinds.{rows}
use Rattle.ft_trace.specs.Pictures.{item_field, item_offset, root_in}
use Rattle.ft_bank.specs.Passes.{shape_of, view}
use Rattle.ft_bank.specs.Series.{DidAll}
use Rattle.ft_bank.specs.TableNames.{table_id}
use Rattle.ft_bank.proofs.TableAddresses.{named}
use Rattle.ft_reads.specs.Reads.{Reads}
use Rattle.ft_reads.proofs.Agreeing.{reads_map}
use Rattle.ft_list.specs.Indexes.{IsItemValue}
use Rattle.ft_list.proofs.Cares.{few_slots, inside}
use Rattle.ft_list.proofs.ValueReads.{AnswersWord, reads_value}
use Rattle.ft_list.proofs.reads.read_value.Goals as goal
use Rattle.ft_list.proofs.reads.read_value.Goals.{After-see_value-seen}

pub word_at-requires-clause-place : goal.word_at-requires-clause-place
word_at-requires-clause-place c =
    let f = few_slots (shape_of c.args.bank.now) c.args.table c.requires.table in
    let low = c.requires.place in
    omega (arith, f, low)

pub word_at-requires-2-clause-place : goal.word_at-requires-2-clause-place
word_at-requires-2-clause-place c =
    let f = few_slots (shape_of c.args.bank.now) c.args.table c.requires.table in
    let low = c.requires.place in
    omega (arith, f, low)

pub read_table-kind-requires-clause-word : goal.read_table-kind-requires-clause-word
read_table-kind-requires-clause-word c =
    subst (λ (z : ℕ). z < size (class_of (table_id c.args.table))) (sym c.word_at.ensures) (inside (shape_of c.args.bank.now) c.args.table c.requires.table c.args.place 1 c.requires.place (omega arith))

pub read_table-payload-requires-clause-word : goal.read_table-payload-requires-clause-word
read_table-payload-requires-clause-word c =
    subst (λ (z : ℕ). z < size (class_of (table_id c.args.table))) (sym c.word_at-2.ensures) (inside (shape_of c.args.bank.now) c.args.table c.requires.table c.args.place 2 c.requires.place (omega arith))

module _ (c : After-see_value-seen) where
  abbrev place : ℕ
  place = value_at (kind_in (shape_of c.args.bank.now).starts c.args.l) (class_of (table_id c.args.table)) c.args.place

  place_is : place ≡ item_offset c.args.place 1
  place_is = ap (λ (z : Kind). value_at z (class_of (table_id c.args.table)) c.args.place) c.requires.list

  kind_at : c.word_at.result ≡ place
  kind_at = c.word_at.ensures ∙ sym place_is

  payload_at : c.word_at-2.result ≡ suc place
  payload_at = let e = place_is in let w = c.word_at-2.ensures in omega (arith, e, w)

  -- what was seen is what the words read
  value_read : Reads (shape_of c.args.bank.now) c.args.l
      (λ x. root_in x ≡ suc (table_id c.args.table) → item_offset c.args.place 3 ≤ length x.table
      → (c.see_value-seen.result.kind ≡ item_field x.table c.args.place 1) × (c.see_value-seen.result.value ≡ item_field x.table c.args.place 2))
      c.args.pass.now c.see_value-seen.new.pass
  value_read =
      let a = c.args in
      let k = shape_of a.bank.now in
      let t = table_id a.table in
      let p = a.pass.now in
      let q = c.read_table-kind.new.pass in
      let found = c.read_table-kind.result in
      let payload = c.read_table-payload.result in
      let seen = c.see_value-seen.result in
      let low : c.args.place < rows (kind_in k.starts a.l) (class_of t) = subst (λ (z : Kind). c.args.place < rows z (class_of t)) (sym c.requires.list) c.requires.place in
      let few : suc place < size (class_of t) = let e = place_is in let i = inside k a.table c.requires.table c.args.place 2 c.requires.place (omega arith) in omega (arith, e, i) in
      let one : DidAll (ReadTable t place found ∷ []) p q = subst (λ (z : ℕ). DidAll (ReadTable t z found ∷ []) p q) kind_at c.read_table-kind.ensures.did in
      let two : DidAll (ReadTable t (suc place) payload ∷ []) q c.read_table-payload.new.pass = subst (λ (z : ℕ). DidAll (ReadTable t z payload ∷ []) q c.read_table-payload.new.pass) payload_at c.read_table-payload.ensures.did in
      let answers : AnswersWord k t (view p) place found = λ o here mine names. c.read_table-kind.ensures.held o here mine names ∙ ap (slice_index (held_words o (view p)).table) kind_at in
      let answers_next : AnswersWord k t (view q) (suc place) payload = λ o here mine names. c.read_table-payload.ensures.held o here mine names ∙ ap (slice_index (held_words o (view q)).table) payload_at in
      reads_map k a.l (λ x. root_in x ≡ suc t → suc place < length x.table → (seen.kind ≡ slice_index x.table place) × (seen.value ≡ slice_index x.table (suc place)))
      (λ x. root_in x ≡ suc t → item_offset c.args.place 3 ≤ length x.table → (seen.kind ≡ item_field x.table c.args.place 1) × (seen.value ≡ item_field x.table c.args.place 2)) p c.see_value-seen.new.pass
      (λ x both names long.
      let e = place_is in
      let next : suc place ≡ item_offset c.args.place 2 = omega (arith, e) in
      let r = both names (omega (arith, e, long)) in
      (r.0 ∙ ap (slice_index x.table) e, r.1 ∙ ap (slice_index x.table) next))
      (reads_value k a.l t c.args.place found payload seen (named k a.table c.requires.table) low few c.see_value-seen.ensures.sees p q c.read_table-payload.new.pass c.see_value-seen.new.pass c.requires.pass.1
      one answers two answers_next c.see_value-seen.ensures.did c.see_value-seen.ensures.known)

pub returns-in-Some-clause-reads : goal.returns-in-Some-clause-reads
returns-in-Some-clause-reads c =
    let d = (goal.at.returns-in-Some-clause-reads c).After-see_value-seen in
    let a = c.args in
    let t = table_id a.table in
    let seen = c.see_value-seen.result in
    reads_map (shape_of a.bank.now) a.l
    (λ x. root_in x ≡ suc t → item_offset c.args.place 3 ≤ length x.table → (seen.kind ≡ item_field x.table c.args.place 1) × (seen.value ≡ item_field x.table c.args.place 2))
    (IsItemValue t a.place c.in-Some.found) a.pass.now c.see_value-seen.new.pass
    (λ x both names long value stored.
    let r = both names long in
    let read : IsStored seen.kind seen.value (Plain value) = subst (λ (z : ℕ × ℕ). IsStored z.0 z.1 (Plain value)) (λ d. (sym r.0 d, sym r.1 d)) stored in
    let here : Some c.in-Some.found ≡ Some (Some value) = sym c.in-Some.is ∙ (c.found_of.ensures.value value).0 read in
    let same : c.in-Some.found ≡ Some value = cc in
    same)
    (value_read d)

pub returns-in-None-clause-reads : goal.returns-in-None-clause-reads
returns-in-None-clause-reads c =
    let d = (goal.at.returns-in-None-clause-reads c).After-see_value-seen in
    let a = c.args in
    let t = table_id a.table in
    let seen = c.see_value-seen.result in
    reads_map (shape_of a.bank.now) a.l
    (λ x. root_in x ≡ suc t → item_offset c.args.place 3 ≤ length x.table → (seen.kind ≡ item_field x.table c.args.place 1) × (seen.value ≡ item_field x.table c.args.place 2))
    (IsItemValue t a.place None) a.pass.now c.see_value-seen.new.pass
    (λ x both names long value stored.
    let r = both names long in
    let read : IsStored seen.kind seen.value (Plain value) = subst (λ (z : ℕ × ℕ). IsStored z.0 z.1 (Plain value)) (λ d. (sym r.0 d, sym r.1 d)) stored in
    absurd (none-some (Some value) (sym c.in-None.is ∙ (c.found_of.ensures.value value).0 read)))
    (value_read d)
