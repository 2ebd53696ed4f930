use Rattle.std.proofs.Common.{◌≡◌, ◌≢◌, ℕ, ◌+◌, ◌%◌, ◌^◌, ◌<◌, List, refl, sym, ap, ◌∙◌, subst, inl, inr, arith, get_or-set_other, get_or-set_same, length-set, length}
use Rattle.std.specs.Prelude.{slice_index, slice_set}
use Rattle.ft_trace.specs.declared.Shape.{Shape}
use Rattle.ft_trace.specs.Boxes.{names_box, references_held}
use Rattle.ft_trace.specs.Holds.{held_unboxed, held_words}
use Rattle.ft_trace.specs.ItemWords.{said_at}
use Rattle.ft_trace.specs.Pictures.{ContainerWords, item_field, item_offset}
use Rattle.ft_trace.proofs.ReferencesOfPuts.{names_low}
use Rattle.ft_bank.specs.BoxSteps.{kind_read, payload_read}
use Rattle.ft_bank.specs.Passes.{shape_of, view}
use Rattle.ft_bank.specs.SameBoxes.{HoldsFew}
use Rattle.ft_bank.specs.Whole.{OnlyLoaded}
use Rattle.ft_bank.proofs.KnownAfterWrites.{loaded_held, loaded_then, put_written, written_then}
use Rattle.ft_search.specs.Boxed.{KeepsOwn}
use Rattle.ft_search.proofs.Overs.{held_same}
use Rattle.ft_search.proofs.Unboxing.{raw_table_long}
use Rattle.ft_search.proofs.Owning.{held_is_box, keeps_loaded, keeps_then, reads_loaded, own_loaded}
use Rattle.ft_list.specs.ListItemWrites.{PutsItem, WritesList, with_word, stored_words}
use Rattle.ft_bank.specs.TableNames.{table_id}
use Rattle.ft_list.proofs.Cares.{few_slots, inside, list_of_table, list_table, list_unboxed, long_enough, value_is_open, writes_loaded}
use Rattle.ft_list.proofs.PutItems.{version_one, item_put}
use Rattle.ft_list.proofs.Written.{loaded_written}
use Rattle.ft_list.proofs.items.carry_item.Goals as goal
use Rattle.ft_list.proofs.items.carry_item.Goals.{After-held_value-old_kind, After-open_item, After-exchange, else-old_kind-kind-via-then-old_kind-kind+else-old_payload-payload, else-old_kind-kind-via-else-old_kind-kind}

pub read_value-kind-requires-clause-known : goal.read_value-kind-requires-clause-known
read_value-kind-requires-clause-known c four =
    let v = view c.args.pass.now in
    let own = c.requires.own four in
    (held_is_box v c.args.value.1 c.args.pass.now.possible own.0, own.1, own.2)

pub word_at-word-requires-clause-place : goal.word_at-word-requires-clause-place
word_at-word-requires-clause-place c =
    let f = few_slots (shape_of c.args.bank.now) c.args.table c.requires.list.table_in in
    let low = c.requires.place in
    omega (arith, f, low)

-- ---- after the loads

module _ (c : After-held_value-old_kind) where
  load : OnlyLoaded (view c.args.pass.now) (view c.held_value-old_kind.new.pass)
  load = loaded_then (view c.args.pass.now) (view c.read_value-kind.new.pass) (view c.held_value-old_kind.new.pass) c.read_value-kind.ensures.only c.held_value-old_kind.ensures.only

  list_then : WritesList (shape_of c.args.bank.now) c.args.o c.args.table (view c.held_value-old_kind.new.pass)
  list_then = writes_loaded (shape_of c.args.bank.now) c.args.o c.args.table (view c.args.pass.now) (view c.held_value-old_kind.new.pass) c.requires.pass.1 load c.requires.list

  held_then : held_unboxed c.args.o (view c.held_value-old_kind.new.pass) ≡ held_unboxed c.args.o (view c.args.pass.now)
  held_then = list_unboxed (shape_of c.args.bank.now) c.args.o c.args.table (view c.args.pass.now) (view c.held_value-old_kind.new.pass) c.requires.pass.1 load c.requires.list

  held_first : held_unboxed c.args.o (view c.read_value-kind.new.pass) ≡ held_unboxed c.args.o (view c.args.pass.now)
  held_first = list_unboxed (shape_of c.args.bank.now) c.args.o c.args.table (view c.args.pass.now) (view c.read_value-kind.new.pass) c.requires.pass.1 c.read_value-kind.ensures.only c.requires.list

  old_kind_is : c.held_value-old_kind.result.0 ≡ item_field (held_unboxed c.args.o (view c.args.pass.now)).table c.args.place 1
  old_kind_is = c.held_value-old_kind.ensures.kind ∙ ap (λ (x : ContainerWords). item_field x.table c.args.place 1) held_first

  old_payload_is : c.held_value-old_kind.result.1 ≡ item_field (held_unboxed c.args.o (view c.args.pass.now)).table c.args.place 2
  old_payload_is = c.held_value-old_kind.ensures.payload ∙ ap (λ (x : ContainerWords). item_field x.table c.args.place 2) held_first

-- ---- an item that is left alone

pub returns-then-old_payload-payload-clause-list : goal.returns-then-old_payload-payload-clause-list
returns-then-old_payload-payload-clause-list c = list_then (goal.at.returns-then-old_payload-payload-clause-list c).After-held_value-old_kind

pub returns-then-old_payload-payload-clause-only : goal.returns-then-old_payload-payload-clause-only
returns-then-old_payload-payload-clause-only c = loaded_written c.args.o (view c.args.pass.now) (view c.held_value-old_kind.new.pass) (load (goal.at.returns-then-old_payload-payload-clause-only c).After-held_value-old_kind)

pub returns-then-old_payload-payload-clause-block : goal.returns-then-old_payload-payload-clause-block
returns-then-old_payload-payload-clause-block c = ap (λ (x : ContainerWords). x.block) (held_then (goal.at.returns-then-old_payload-payload-clause-block c).After-held_value-old_kind)

pub returns-then-old_payload-payload-clause-puts : goal.returns-then-old_payload-payload-clause-puts
returns-then-old_payload-payload-clause-puts c seen reads =
    let a = c.args in
    let d = (goal.at.returns-then-old_payload-payload-clause-puts c).After-held_value-old_kind in
    subst (λ (x : ContainerWords). PutsItem a.place seen (held_unboxed a.o (view a.pass.now)) x) (sym (held_then d))
    (record {
      block = refl;
      size = refl;
      rest = λ i far. refl;
      kind = sym (old_kind_is d) ∙ (c.if-old_kind-kind.true ∙ (c.read_value-kind.ensures.kind ∙ reads.kind_is));
      payload = sym (old_payload_is d) ∙ (c.if-old_payload-payload.true ∙ (c.read_value-kind.ensures.payload ∙ reads.payload_is));
      version = inr refl;
    })

pub returns-then-old_payload-payload-clause-own : goal.returns-then-old_payload-payload-clause-own
returns-then-old_payload-payload-clause-own c =
    own_loaded (view c.args.pass.now) (view c.held_value-old_kind.new.pass) c.args.value.0 c.args.value.1 c.args.pass.now.possible c.requires.own (load (goal.at.returns-then-old_payload-payload-clause-own c).After-held_value-old_kind)

pub returns-then-old_payload-payload-clause-found : goal.returns-then-old_payload-payload-clause-found
returns-then-old_payload-payload-clause-found c =
    let d = (goal.at.returns-then-old_payload-payload-clause-found c).After-held_value-old_kind in
    let r = reads_loaded (view c.args.pass.now) (view c.held_value-old_kind.new.pass) c.args.value.0 c.args.value.1 c.args.pass.now.possible c.requires.own (load d) in (
      r.0 ∙ (sym c.read_value-kind.ensures.kind ∙ (sym c.if-old_kind-kind.true ∙ old_kind_is d)),
      r.1 ∙ (sym c.read_value-kind.ensures.payload ∙ (sym c.if-old_payload-payload.true ∙ old_payload_is d)),
    )

same_left : (c : After-held_value-old_kind) → (b : ℕ) → references_held (shape_of c.args.bank.now) b (view c.held_value-old_kind.new.pass).log ≡ references_held (shape_of c.args.bank.now) b (view c.args.pass.now).log
same_left c b = held_same (shape_of c.args.bank.now) (view c.args.pass.now) (view c.held_value-old_kind.new.pass) c.requires.pass.1 c.held_value-old_kind.ensures.pass.1 (load c).boxes.references b

pub returns-then-old_payload-payload-clause-spare : goal.returns-then-old_payload-payload-clause-spare
returns-then-old_payload-payload-clause-spare c b =
    let same = same_left (goal.at.returns-then-old_payload-payload-clause-spare c).After-held_value-old_kind b in
    let s = c.requires.spare b in
    omega (arith, same, s)

pub returns-then-old_payload-payload-clause-references : goal.returns-then-old_payload-payload-clause-references
returns-then-old_payload-payload-clause-references c b =
    let same = same_left (goal.at.returns-then-old_payload-payload-clause-references c).After-held_value-old_kind b in
    omega (arith, same)

-- ---- one whose words are exchanged

-- the version is odd
odd_then : (c : After-open_item) → item_field (held_unboxed c.args.o (view c.open_item.new.pass)).table c.args.place 0 % 2 ≡ 1
odd_then c =
    let a = c.args in
    let o = c.open_item.ensures.words in
    let u = view c.held_value-old_kind.new.pass in
    let whole = loaded_then (view a.pass.now) (view c.read_value-kind.new.pass) u c.read_value-kind.ensures.only c.held_value-old_kind.ensures.only in
    let list = writes_loaded (shape_of a.bank.now) a.o a.table (view a.pass.now) u c.requires.pass.1 whole c.requires.list in
    let low = long_enough (shape_of a.bank.now) a.o a.table u list a.place c.requires.place in
    ap (λ (z : ContainerWords). item_field z.table a.place 0 % 2) o.2 ∙ (ap (λ (n : ℕ). n % 2) (version_one (held_unboxed a.o u) a.place o.0 0 0 low) ∙ o.1)

pub open_item-requires-clause-list : goal.open_item-requires-clause-list
open_item-requires-clause-list c = list_then (goal.at.open_item-requires-clause-list c).After-held_value-old_kind

pub exchange-requires-clause-writes : goal.exchange-requires-clause-writes
exchange-requires-clause-writes c = list_table (shape_of c.args.bank.now) c.args.o c.args.table (view c.open_item.new.pass) c.open_item.ensures.list

pub exchange-requires-clause-open : goal.exchange-requires-clause-open
exchange-requires-clause-open c =
    let a = c.args in
    value_is_open (shape_of a.bank.now) a.o a.table (view c.open_item.new.pass) c.open_item.ensures.list c.open_item.ensures.pass.1 a.place c.word_at-word.result c.word_at-word.ensures c.requires.place
    (odd_then (goal.at.exchange-requires-clause-open c).After-open_item)

-- what is to be stored is so still, and reads the same
keeps_here : (c : After-open_item) → KeepsOwn (view c.args.pass.now) (view c.open_item.new.pass)
keeps_here c =
    let v = view c.args.pass.now in
    let u = view c.held_value-old_kind.new.pass in
    let whole = loaded_then v (view c.read_value-kind.new.pass) u c.read_value-kind.ensures.only c.held_value-old_kind.ensures.only in
    keeps_then v u (view c.open_item.new.pass) (keeps_loaded v u c.args.pass.now.possible whole) c.open_item.ensures.keeps

pub exchange-requires-clause-own : goal.exchange-requires-clause-own
exchange-requires-clause-own c = (keeps_here (goal.at.exchange-requires-clause-own c).After-open_item c.args.value.0 c.args.value.1 c.requires.own).0

module _ (c : After-exchange) where
  whole : OnlyLoaded (view c.args.pass.now) (view c.held_value-old_kind.new.pass)
  whole = loaded_then (view c.args.pass.now) (view c.read_value-kind.new.pass) (view c.held_value-old_kind.new.pass) c.read_value-kind.ensures.only c.held_value-old_kind.ensures.only

  held_there : held_unboxed c.args.o (view c.held_value-old_kind.new.pass) ≡ held_unboxed c.args.o (view c.args.pass.now)
  held_there = list_unboxed (shape_of c.args.bank.now) c.args.o c.args.table (view c.args.pass.now) (view c.held_value-old_kind.new.pass) c.requires.pass.1 whole c.requires.list

  moved : (b : ℕ) → references_held (shape_of c.args.bank.now) b (view c.exchange.new.pass).log + names_box b c.args.value.0 c.args.value.1 ≡ references_held (shape_of c.args.bank.now) b (view c.args.pass.now).log + names_box b c.exchange.result.0 c.exchange.result.1
  moved b =
      let k = shape_of c.args.bank.now in
      let v = view c.args.pass.now in
      let u = view c.held_value-old_kind.new.pass in
      let x = view c.open_item.new.pass in
      let first = held_same k v u c.requires.pass.1 c.held_value-old_kind.ensures.pass.1 whole.boxes.references b in
      let second = held_same k u x c.held_value-old_kind.ensures.pass.1 c.open_item.ensures.pass.1 c.open_item.ensures.references b in
      let m = c.exchange.ensures.references b in
      omega (arith, first, second, m)

  few_there : HoldsFew (view c.exchange.new.pass)
  few_there b =
      let m = moved b in
      let s = c.requires.spare b in
      let one = names_low b c.exchange.result.0 c.exchange.result.1 in
      let low : references_held (shape_of c.args.bank.now) b (view c.exchange.new.pass).log < 2 ^ 31 = omega (arith, m, s, one) in
      subst (λ (z : Shape). references_held z b (view c.exchange.new.pass).log < 2 ^ 31) (sym c.exchange.ensures.pass.1) low

  abbrev kind_there : ℕ
  kind_there = kind_read (view c.args.pass.now) c.args.value.0 c.args.value.1

  abbrev payload_there : ℕ
  payload_there = payload_read (view c.args.pass.now) c.args.value.0 c.args.value.1

  reads_there : (kind_read (view c.open_item.new.pass) c.args.value.0 c.args.value.1 ≡ kind_there) × (payload_read (view c.open_item.new.pass) c.args.value.0 c.args.value.1 ≡ payload_there)
  reads_there =
      let keeps = keeps_then (view c.args.pass.now) (view c.held_value-old_kind.new.pass) (view c.open_item.new.pass) (keeps_loaded (view c.args.pass.now) (view c.held_value-old_kind.new.pass) c.args.pass.now.possible whole) c.open_item.ensures.keeps in
      let same = keeps c.args.value.0 c.args.value.1 c.requires.own in
      (same.1, same.2)

  next : c.word_at-word.result + 1 ≡ item_offset c.args.place 2
  next = let at = c.word_at-word.ensures in omega (arith, at)

  put_words : held_unboxed c.args.o (view c.exchange.new.pass) ≡ with_word (with_word (with_word (held_unboxed c.args.o (view c.held_value-old_kind.new.pass)) c.args.place 0 c.open_item.ensures.words.0) c.args.place 1 kind_there) c.args.place 2 payload_there
  put_words =
      let at = c.word_at-word.ensures in
      let o = c.open_item.ensures.words in
      c.exchange.ensures.words
      ∙ (λ d. record { block = (o.2 d).block; table = slice_set (slice_set (o.2 d).table (at d) (reads_there.0 d)) (next d) (reads_there.1 d) })

pub returns-clause-list : goal.returns-clause-list
returns-clause-list c =
    let d = (goal.at.returns-clause-list c).After-exchange in
    list_of_table (shape_of c.args.bank.now) c.args.o c.args.table (view c.exchange.new.pass) c.requires.list.kind (c.exchange.ensures.writes (few_there d))

pub returns-clause-only : goal.returns-clause-only
returns-clause-only c =
    let o = c.args.o in
    let v = view c.args.pass.now in
    let u = view c.held_value-old_kind.new.pass in
    let x = view c.open_item.new.pass in
    let z = view c.exchange.new.pass in
    written_then o v x z (written_then o v u x (loaded_written o v u (whole (goal.at.returns-clause-only c).After-exchange)) c.open_item.ensures.only) (put_written o x z c.exchange.ensures.only)

pub returns-clause-block : goal.returns-clause-block
returns-clause-block c =
    let d = (goal.at.returns-clause-block c).After-exchange in
    ap (λ (x : ContainerWords). x.block) (put_words d) ∙ ap (λ (x : ContainerWords). x.block) (held_there d)

pub returns-clause-puts : goal.returns-clause-puts
returns-clause-puts c seen reads =
    let a = c.args in
    let d = (goal.at.returns-clause-puts c).After-exchange in
    let o = c.open_item.ensures.words in
    let u = view c.held_value-old_kind.new.pass in
    let k = shape_of a.bank.now in
    let list = writes_loaded k a.o a.table (view a.pass.now) u c.requires.pass.1 (whole d) c.requires.list in
    let low = long_enough k a.o a.table u list a.place c.requires.place in
    let first = list_unboxed k a.o a.table (view a.pass.now) (view c.read_value-kind.new.pass) c.requires.pass.1 c.read_value-kind.ensures.only c.requires.list in
    let kind_is = c.held_value-old_kind.ensures.kind ∙ ap (λ (x : ContainerWords). item_field x.table a.place 1) first in
    let payload_is = c.held_value-old_kind.ensures.payload ∙ ap (λ (x : ContainerWords). item_field x.table a.place 2) first in
    -- the item read something else
    let other : stored_words seen ≢ said_at (held_unboxed a.o (view a.pass.now)).table a.place = λ says.
    let kind_same = kind_is ∙ (sym (ap (λ (l : List ℕ). slice_index l 0) says) ∙ (sym reads.kind_is ∙ sym c.read_value-kind.ensures.kind)) in
    let payload_same = payload_is ∙ (sym (ap (λ (l : List ℕ). slice_index l 1) says) ∙ (sym reads.payload_is ∙ sym c.read_value-kind.ensures.payload)) in
    elim c.else-old_kind-kind.branch [
      | else-old_kind-kind-via-then-old_kind-kind+else-old_payload-payload w ↦ w.if-old_payload-payload.false payload_same
      | else-old_kind-kind-via-else-old_kind-kind w ↦ w.if-old_kind-kind.false kind_same
    ] in
    subst (λ (z : ContainerWords). PutsItem a.place seen z (held_unboxed a.o (view c.exchange.new.pass))) (held_there d)
    (subst (λ (z : ContainerWords). PutsItem a.place seen (held_unboxed a.o u) z) (sym (put_words d))
    (item_put (held_unboxed a.o u) a.place o.0 (kind_there d) (payload_there d) low seen reads.kind_is reads.payload_is o.1 (λ says. other (says ∙ ap (λ (z : ContainerWords). said_at z.table a.place) (held_there d)))))

pub returns-clause-own : goal.returns-clause-own
returns-clause-own c = c.exchange.ensures.own

pub returns-clause-spare : goal.returns-clause-spare
returns-clause-spare c b =
    let m = moved (goal.at.returns-clause-spare c).After-exchange b in
    let s = c.requires.spare b in
    omega (arith, m, s)

pub returns-clause-found : goal.returns-clause-found
returns-clause-found c =
    let a = c.args in
    let d = (goal.at.returns-clause-found c).After-exchange in
    let at = c.word_at-word.ensures in
    let o = c.open_item.ensures.words in
    let r = c.exchange.ensures.reads in
    let u = view c.held_value-old_kind.new.pass in
    let x = (held_unboxed a.o (view c.open_item.new.pass)).table in
    let T = (held_unboxed a.o u).table in
    let one : item_field x a.place 1 ≡ item_field T a.place 1 = ap (λ (z : ContainerWords). item_field z.table a.place 1) o.2 ∙ get_or-set_other T (item_offset a.place 0) (item_offset a.place 1) o.0 0 (λ e. omega (arith, e)) in
    let two : item_field x a.place 2 ≡ item_field T a.place 2 = ap (λ (z : ContainerWords). item_field z.table a.place 2) o.2 ∙ get_or-set_other T (item_offset a.place 0) (item_offset a.place 2) o.0 0 (λ e. omega (arith, e)) in (
      r.0 ∙ (ap (slice_index x) at ∙ (one ∙ ap (λ (z : ContainerWords). item_field z.table a.place 1) (held_there d))),
      r.1 ∙ (ap (slice_index x) (next d) ∙ (two ∙ ap (λ (z : ContainerWords). item_field z.table a.place 2) (held_there d))),
    )

pub returns-clause-references : goal.returns-clause-references
returns-clause-references c = moved (goal.at.returns-clause-references c).After-exchange

-- ---- the words as they stand

pub returns-then-old_payload-payload-clause-carries : goal.returns-then-old_payload-payload-clause-carries
returns-then-old_payload-payload-clause-carries c =
    let d = (goal.at.returns-then-old_payload-payload-clause-carries c).After-held_value-old_kind in
    inr (
      refl,
      refl,
      sym c.read_value-kind.ensures.kind ∙ (sym c.if-old_kind-kind.true ∙ old_kind_is d),
      sym c.read_value-kind.ensures.payload ∙ (sym c.if-old_payload-payload.true ∙ old_payload_is d),
    )

pub returns-then-old_payload-payload-clause-others : goal.returns-then-old_payload-payload-clause-others
returns-then-old_payload-payload-clause-others c p word ne some_ few =
    ap (λ (x : ContainerWords). item_field x.table p word)
    (loaded_held (view c.args.pass.now) (view c.held_value-old_kind.new.pass) c.args.o (load (goal.at.returns-then-old_payload-payload-clause-others c).After-held_value-old_kind))

module _ (c : After-exchange) where
  raw_there : (held_words c.args.o (view c.exchange.new.pass)).table ≡ slice_set (slice_set (held_words c.args.o (view c.open_item.new.pass)).table (item_offset c.args.place 1) c.args.value.0) (item_offset c.args.place 2) c.args.value.1
  raw_there =
      let at = c.word_at-word.ensures in
      ap (λ (x : ContainerWords). x.table) c.exchange.ensures.raw
      ∙ (λ d. slice_set (slice_set (held_words c.args.o (view c.open_item.new.pass)).table (at d) c.args.value.0) (next c d) c.args.value.1)

  -- the table has the words
  long_there : item_offset c.args.place 2 < length (held_words c.args.o (view c.open_item.new.pass)).table
  long_there =
      let list = c.open_item.ensures.list in
      let l = raw_table_long (view c.open_item.new.pass) c.args.o (table_id c.args.table) list.root in
      let i = inside (shape_of c.args.bank.now) c.args.table list.table_in c.args.place 3 c.requires.place (omega arith) in
      omega (arith, l, i)

pub returns-clause-carries : goal.returns-clause-carries
returns-clause-carries c =
    let a = c.args in
    let d = (goal.at.returns-clause-carries c).After-exchange in
    let T = (held_words a.o (view c.open_item.new.pass)).table in
    let low = long_there d in
    let one = slice_set T (item_offset a.place 1) a.value.0 in
    let long : length one ≡ length T = length-set T (item_offset a.place 1) a.value.0 in
    inl (
      ap (λ (l : List ℕ). item_field l a.place 1) (raw_there d)
          ∙ (get_or-set_other one (item_offset a.place 2) (item_offset a.place 1) a.value.1 0 (λ e. omega (arith, e)) ∙ get_or-set_same T (item_offset a.place 1) a.value.0 0 (omega (arith, low))),
      ap (λ (l : List ℕ). item_field l a.place 2) (raw_there d) ∙ get_or-set_same one (item_offset a.place 2) a.value.1 0 (omega (arith, low, long)),
    )

pub returns-clause-others : goal.returns-clause-others
returns-clause-others c p word ne some_ few =
    let a = c.args in
    let d = (goal.at.returns-clause-others c).After-exchange in
    let T = (held_words a.o (view c.open_item.new.pass)).table in
    let one = slice_set T (item_offset a.place 1) a.value.0 in
    ap (λ (l : List ℕ). item_field l p word) (raw_there d)
    ∙ (get_or-set_other one (item_offset a.place 2) (item_offset p word) a.value.1 0 (λ e. omega (arith, e, ne, some_, few))
    ∙ (get_or-set_other T (item_offset a.place 1) (item_offset p word) a.value.0 0 (λ e. omega (arith, e, ne, some_, few))
    ∙ (c.open_item.ensures.values p word some_ few
    ∙ ap (λ (x : ContainerWords). item_field x.table p word) (loaded_held (view a.pass.now) (view c.held_value-old_kind.new.pass) a.o (whole d)))))
