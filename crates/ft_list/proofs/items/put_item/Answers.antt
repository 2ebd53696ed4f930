use Rattle.std.proofs.Common.{◌≡◌, ◌≢◌, ℕ, ◌+◌, ◌%◌, List, refl, sym, ap, ◌∙◌, subst, inr, arith}
use Rattle.std.specs.Prelude.{slice_index, slice_set}
use mathlib.Core.Logic.{dite}
use native.Mathlib.Decide.{ℕ_discrete}
use Rattle.ft_layout.specs.Words.{stored_kind, stored_payload}
use Rattle.ft_trace.specs.Boxes.{names_box, references_held}
use Rattle.ft_trace.specs.Holds.{held_words, held_unboxed}
use Rattle.ft_trace.specs.ItemWords.{said_at}
use Rattle.ft_trace.specs.Pictures.{ContainerWords, item_field, item_offset}
use Rattle.ft_bank.specs.BoxSteps.{kind_read, payload_read, HasReferenceFor}
use Rattle.ft_bank.specs.Passes.{shape_of, view}
use Rattle.ft_bank.proofs.KnownAfterWrites.{written_then}
use Rattle.ft_search.specs.Boxed.{KeepsOwn}
use Rattle.ft_search.proofs.Overs.{held_same, plain_names}
use Rattle.ft_search.proofs.Owning.{keeps_loaded, keeps_then}
use Rattle.ft_search.proofs.Unboxing.{reads_plain}
use Rattle.ft_list.specs.ListItemWrites.{PutsItem, WritesList, with_word, stored_words}
use Rattle.ft_list.proofs.Cares.{few_slots, list_of_table, list_table, list_unboxed, long_enough, value_is_open, writes_loaded}
use Rattle.ft_list.proofs.PutItems.{version_one, item_put}
use Rattle.ft_list.proofs.Written.{loaded_written}
use Rattle.ft_list.proofs.items.put_item.Goals as goal
use Rattle.ft_list.proofs.items.put_item.Goals.{After-held_value-old_kind, After-open_item, After-put_over, else-old_kind-kind-via-then-old_kind-kind+then-old_payload-payload+else-kind-ne-BOX_KIND, else-old_kind-kind-via-then-old_kind-kind+else-old_payload-payload, else-old_kind-kind-via-else-old_kind-kind}

pub word_at-word-requires-clause-place : goal.word_at-word-requires-clause-place
word_at-word-requires-clause-place c =
    let f = few_slots (shape_of c.args.bank.now) c.args.table c.requires.list.table_in in
    let low = c.requires.place in
    omega (arith, f, low)

-- after the loads
module _ (c : After-held_value-old_kind) where
  list_then : WritesList (shape_of c.args.bank.now) c.args.o c.args.table (view c.held_value-old_kind.new.pass)
  list_then =
      let a = c.args in
      writes_loaded (shape_of a.bank.now) a.o a.table (view a.pass.now) (view c.held_value-old_kind.new.pass) c.requires.pass.1 c.held_value-old_kind.ensures.only c.requires.list

  held_then : held_unboxed c.args.o (view c.held_value-old_kind.new.pass) ≡ held_unboxed c.args.o (view c.args.pass.now)
  held_then =
      let a = c.args in
      list_unboxed (shape_of a.bank.now) a.o a.table (view a.pass.now) (view c.held_value-old_kind.new.pass) c.requires.pass.1 c.held_value-old_kind.ensures.only c.requires.list

pub returns-then-kind-ne-BOX_KIND-clause-list : goal.returns-then-kind-ne-BOX_KIND-clause-list
returns-then-kind-ne-BOX_KIND-clause-list c = list_then (goal.at.returns-then-kind-ne-BOX_KIND-clause-list c).After-held_value-old_kind

pub returns-then-kind-ne-BOX_KIND-clause-only : goal.returns-then-kind-ne-BOX_KIND-clause-only
returns-then-kind-ne-BOX_KIND-clause-only c = loaded_written c.args.o (view c.args.pass.now) (view c.held_value-old_kind.new.pass) c.held_value-old_kind.ensures.only

pub returns-then-kind-ne-BOX_KIND-clause-block : goal.returns-then-kind-ne-BOX_KIND-clause-block
returns-then-kind-ne-BOX_KIND-clause-block c = ap (λ (x : ContainerWords). x.block) (held_then (goal.at.returns-then-kind-ne-BOX_KIND-clause-block c).After-held_value-old_kind)

pub returns-then-kind-ne-BOX_KIND-clause-puts : goal.returns-then-kind-ne-BOX_KIND-clause-puts
returns-then-kind-ne-BOX_KIND-clause-puts c seen reads =
    let a = c.args in
    let e = c.held_value-old_kind.ensures in
    let v = held_unboxed a.o (view a.pass.now) in
    let same = held_then (goal.at.returns-then-kind-ne-BOX_KIND-clause-puts c).After-held_value-old_kind in
    let plain = reads_plain (view a.pass.now) (stored_kind a.stored) (stored_payload a.stored) (λ four. c.if-kind-ne-BOX_KIND.true (c.stored_kind_of-kind.ensures ∙ four)) in
    subst (λ (x : ContainerWords). PutsItem a.place seen v x) (sym same)
    (record {
      block = refl;
      size = refl;
      rest = λ i far. refl;
      kind = sym e.kind ∙ (c.if-old_kind-kind.true ∙ (c.stored_kind_of-kind.ensures ∙ (sym plain.0 ∙ reads.kind_is)));
      payload = sym e.payload ∙ (c.if-old_payload-payload.true ∙ (c.stored_payload_of-payload.ensures ∙ (sym plain.1 ∙ reads.payload_is)));
      version = inr refl;
    })

pub returns-then-kind-ne-BOX_KIND-clause-boxed : goal.returns-then-kind-ne-BOX_KIND-clause-boxed
returns-then-kind-ne-BOX_KIND-clause-boxed c four = absurd (c.if-kind-ne-BOX_KIND.true (c.stored_kind_of-kind.ensures ∙ four))

pub returns-then-kind-ne-BOX_KIND-clause-references : goal.returns-then-kind-ne-BOX_KIND-clause-references
returns-then-kind-ne-BOX_KIND-clause-references c b =
    let k = shape_of c.args.bank.now in
    let u = view c.args.pass.now in
    let w = view c.held_value-old_kind.new.pass in
    let none = plain_names b (stored_kind c.args.stored) (stored_payload c.args.stored) (λ four. c.if-kind-ne-BOX_KIND.true (c.stored_kind_of-kind.ensures ∙ four)) in
    let same = held_same k u w c.requires.pass.1 c.held_value-old_kind.ensures.pass.1 c.held_value-old_kind.ensures.only.boxes.references b in
    omega (arith, none, same)

-- the version is odd
odd_then : (c : After-open_item) → item_field (held_unboxed c.args.o (view c.open_item.new.pass)).table c.args.place 0 % 2 ≡ 1
odd_then c =
    let a = c.args in
    let o = c.open_item.ensures.words in
    let u = view c.held_value-old_kind.new.pass in
    let list = writes_loaded (shape_of a.bank.now) a.o a.table (view a.pass.now) u c.requires.pass.1 c.held_value-old_kind.ensures.only c.requires.list in
    let low = long_enough (shape_of a.bank.now) a.o a.table u list a.place c.requires.place in
    ap (λ (z : ContainerWords). item_field z.table a.place 0 % 2) o.2 ∙ (ap (λ (n : ℕ). n % 2) (version_one (held_unboxed a.o u) a.place o.0 0 0 low) ∙ o.1)

pub open_item-requires-clause-list : goal.open_item-requires-clause-list
open_item-requires-clause-list c = list_then (goal.at.open_item-requires-clause-list c).After-held_value-old_kind

pub put_over-requires-clause-writes : goal.put_over-requires-clause-writes
put_over-requires-clause-writes c = list_table (shape_of c.args.bank.now) c.args.o c.args.table (view c.open_item.new.pass) c.open_item.ensures.list

pub put_over-requires-clause-open : goal.put_over-requires-clause-open
put_over-requires-clause-open c =
    let a = c.args in
    value_is_open (shape_of a.bank.now) a.o a.table (view c.open_item.new.pass) c.open_item.ensures.list c.open_item.ensures.pass.1 a.place c.word_at-word.result c.word_at-word.ensures c.requires.place
    (odd_then (goal.at.put_over-requires-clause-open c).After-open_item)

-- what is to be stored is so still, and reads the same
keeps_here : (c : After-open_item) → KeepsOwn (view c.args.pass.now) (view c.open_item.new.pass)
keeps_here c =
    let v = view c.args.pass.now in
    let u = view c.held_value-old_kind.new.pass in
    keeps_then v u (view c.open_item.new.pass) (keeps_loaded v u c.args.pass.now.possible c.held_value-old_kind.ensures.only) c.open_item.ensures.keeps

pub put_over-requires-clause-own : goal.put_over-requires-clause-own
put_over-requires-clause-own c =
    let x = view c.open_item.new.pass in
    subst (λ (z : ℕ × ℕ). HasReferenceFor x z.0 z.1) (λ d. (sym c.stored_kind_of-kind.ensures d, sym c.stored_payload_of-payload.ensures d))
    (keeps_here (goal.at.put_over-requires-clause-own c).After-open_item (stored_kind c.args.stored) (stored_payload c.args.stored) c.requires.own).0

pub returns-clause-list : goal.returns-clause-list
returns-clause-list c = list_of_table (shape_of c.args.bank.now) c.args.o c.args.table (view c.put_over.new.pass) c.requires.list.kind c.put_over.ensures.writes

pub returns-clause-only : goal.returns-clause-only
returns-clause-only c =
    let o = c.args.o in
    let v = view c.args.pass.now in
    let u = view c.held_value-old_kind.new.pass in
    let x = view c.open_item.new.pass in
    written_then o v x (view c.put_over.new.pass) (written_then o v u x (loaded_written o v u c.held_value-old_kind.ensures.only) c.open_item.ensures.only) c.put_over.ensures.only

-- the words after all
module _ (c : After-put_over) where
  abbrev kind_there : ℕ
  kind_there = kind_read (view c.args.pass.now) (stored_kind c.args.stored) (stored_payload c.args.stored)

  abbrev payload_there : ℕ
  payload_there = payload_read (view c.args.pass.now) (stored_kind c.args.stored) (stored_payload c.args.stored)

  reads_there : (kind_read (view c.open_item.new.pass) c.stored_kind_of-kind.result c.stored_payload_of-payload.result ≡ kind_there) × (payload_read (view c.open_item.new.pass) c.stored_kind_of-kind.result c.stored_payload_of-payload.result ≡ payload_there)
  reads_there =
      let x = view c.open_item.new.pass in
      let keeps = keeps_then (view c.args.pass.now) (view c.held_value-old_kind.new.pass) x (keeps_loaded (view c.args.pass.now) (view c.held_value-old_kind.new.pass) c.args.pass.now.possible c.held_value-old_kind.ensures.only) c.open_item.ensures.keeps in
      let same = keeps (stored_kind c.args.stored) (stored_payload c.args.stored) c.requires.own in
      let one = c.stored_kind_of-kind.ensures in
      let two = c.stored_payload_of-payload.ensures in
      ((λ d. kind_read x (one d) (two d)) ∙ same.1, (λ d. payload_read x (one d) (two d)) ∙ same.2)

  put_words : held_unboxed c.args.o (view c.put_over.new.pass) ≡ with_word (with_word (with_word (held_unboxed c.args.o (view c.held_value-old_kind.new.pass)) c.args.place 0 c.open_item.ensures.words.0) c.args.place 1 kind_there) c.args.place 2 payload_there
  put_words =
      let at = c.word_at-word.ensures in
      let next : c.word_at-word.result + 1 ≡ item_offset c.args.place 2 = omega (arith, at) in
      let o = c.open_item.ensures.words in
      c.put_over.ensures.words
      ∙ (λ d. record { block = (o.2 d).block; table = slice_set (slice_set (o.2 d).table (at d) (reads_there.0 d)) (next d) (reads_there.1 d) })

pub returns-clause-block : goal.returns-clause-block
returns-clause-block c =
    let o = c.open_item.ensures.words in
    ap (λ (x : ContainerWords). x.block) (put_words (goal.at.returns-clause-block c).After-put_over)
    ∙ ap (λ (x : ContainerWords). x.block) (held_then (goal.at.returns-clause-block c).After-held_value-old_kind)

pub returns-clause-puts : goal.returns-clause-puts
returns-clause-puts c seen reads =
    let a = c.args in
    let o = c.open_item.ensures.words in
    let e = c.held_value-old_kind.ensures in
    let kind = c.stored_kind_of-kind.result in
    let payload = c.stored_payload_of-payload.result in
    let u = view c.held_value-old_kind.new.pass in
    let low = long_enough (shape_of a.bank.now) a.o a.table u (list_then (goal.at.returns-clause-puts c).After-held_value-old_kind) a.place c.requires.place in
    let same = held_then (goal.at.returns-clause-puts c).After-held_value-old_kind in
    -- the item read something else
    let other : stored_words seen ≢ said_at (held_unboxed a.o (view a.pass.now)).table a.place = λ says.
    dite (ℕ_discrete (stored_kind a.stored) 4)
    (λ four. c.requires.fresh four seen reads says)
    (λ ne.
    let plain = reads_plain (view a.pass.now) (stored_kind a.stored) (stored_payload a.stored) ne in
    let kind_same : c.held_value-old_kind.result.0 ≡ kind = e.kind ∙ (sym (ap (λ (l : List ℕ). slice_index l 0) says) ∙ (sym reads.kind_is ∙ (plain.0 ∙ sym c.stored_kind_of-kind.ensures))) in
    let payload_same : c.held_value-old_kind.result.1 ≡ payload = e.payload ∙ (sym (ap (λ (l : List ℕ). slice_index l 1) says) ∙ (sym reads.payload_is ∙ (plain.1 ∙ sym c.stored_payload_of-payload.ensures))) in
    elim c.else-old_kind-kind.branch [
      | else-old_kind-kind-via-then-old_kind-kind+then-old_payload-payload+else-kind-ne-BOX_KIND w ↦ ne (sym c.stored_kind_of-kind.ensures ∙ w.if-kind-ne-BOX_KIND.false)
      | else-old_kind-kind-via-then-old_kind-kind+else-old_payload-payload w ↦ w.if-old_payload-payload.false payload_same
      | else-old_kind-kind-via-else-old_kind-kind w ↦ w.if-old_kind-kind.false kind_same
    ]) in
    subst (λ (z : ContainerWords). PutsItem a.place seen z (held_unboxed a.o (view c.put_over.new.pass))) same
    (subst (λ (z : ContainerWords). PutsItem a.place seen (held_unboxed a.o u) z) (sym (put_words (goal.at.returns-clause-puts c).After-put_over))
    (item_put (held_unboxed a.o u) a.place o.0 (kind_there (goal.at.returns-clause-puts c).After-put_over) (payload_there (goal.at.returns-clause-puts c).After-put_over) low seen reads.kind_is reads.payload_is o.1 (λ says. other (says ∙ ap (λ (z : ContainerWords). said_at z.table a.place) same))))

pub returns-clause-boxed : goal.returns-clause-boxed
returns-clause-boxed c four =
    let a = c.args in
    let z = view c.put_over.new.pass in
    let at = c.word_at-word.ensures in
    let next : c.word_at-word.result + 1 ≡ item_offset a.place 2 = omega (arith, at) in (
      ap (λ (i : ℕ). slice_index (held_words a.o z).table i) (sym at) ∙ (c.put_over.ensures.raw.0 ∙ c.stored_kind_of-kind.ensures),
      ap (λ (i : ℕ). slice_index (held_words a.o z).table i) (sym next) ∙ (c.put_over.ensures.raw.1 ∙ c.stored_payload_of-payload.ensures),
    )

pub returns-clause-references : goal.returns-clause-references
returns-clause-references c b =
    let a = c.args in
    let k = shape_of a.bank.now in
    let v = view a.pass.now in
    let u = view c.held_value-old_kind.new.pass in
    let x = view c.open_item.new.pass in
    let z = view c.put_over.new.pass in
    let first = held_same k v u c.requires.pass.1 c.held_value-old_kind.ensures.pass.1 c.held_value-old_kind.ensures.only.boxes.references b in
    let second = held_same k u x c.held_value-old_kind.ensures.pass.1 c.open_item.ensures.pass.1 c.open_item.ensures.references b in
    let moved : references_held k b z.log + names_box b (stored_kind a.stored) (stored_payload a.stored) ≡ references_held k b x.log =
    subst (λ (y : ℕ × ℕ). references_held k b z.log + names_box b y.0 y.1 ≡ references_held k b x.log) (λ d. (c.stored_kind_of-kind.ensures d, c.stored_payload_of-payload.ensures d)) (c.put_over.ensures.references b) in
    omega (arith, first, second, moved)
