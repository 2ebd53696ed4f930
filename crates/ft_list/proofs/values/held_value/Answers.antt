use Rattle.std.proofs.Common.{◌≡◌, ℕ, ◌<◌, sym, ap, ◌∙◌, subst, arith}
use Rattle.std.specs.Prelude.{slice_index}
use Rattle.ft_trace.specs.declared.Act.TheVariants.{ReadTable}
use Rattle.ft_trace.specs.Addresses.{class_of, size}
use Rattle.ft_trace.specs.Holds.{held_words}
use Rattle.ft_trace.specs.Pictures.{item_offset, root_in}
use Rattle.ft_bank.specs.Passes.{shape_of, view}
use Rattle.ft_bank.specs.TableNames.{table_id}
use Rattle.ft_bank.specs.Whole.{OnlyLoaded}
use Rattle.ft_bank.proofs.KnownAfterWrites.{loaded_by, loaded_held, loaded_then}
use Rattle.ft_list.proofs.Cares.{few_slots, inside}
use Rattle.ft_list.proofs.ItemValues.{loaded_known, loaded_reads}
use Rattle.ft_list.proofs.values.held_value.Goals as goal
use Rattle.ft_list.proofs.values.held_value.Goals.{After-read_word-payload}

pub word_at-requires-clause-place : goal.word_at-requires-clause-place
word_at-requires-clause-place c = let f = few_slots (shape_of c.args.bank.now) c.args.table c.requires.table in let low = c.requires.place in omega (arith, f, low)

pub word_at-requires-2-clause-place : goal.word_at-requires-2-clause-place
word_at-requires-2-clause-place c = let f = few_slots (shape_of c.args.bank.now) c.args.table c.requires.table in let low = c.requires.place in omega (arith, f, low)

pub read_word-kind-requires-clause-word : goal.read_word-kind-requires-clause-word
read_word-kind-requires-clause-word c =
    subst (λ (z : ℕ). z < size (class_of (table_id c.args.table))) (sym c.word_at.ensures) (inside (shape_of c.args.bank.now) c.args.table c.requires.table c.args.place 1 c.requires.place (omega arith))

pub read_word-payload-requires-clause-word : goal.read_word-payload-requires-clause-word
read_word-payload-requires-clause-word c =
    subst (λ (z : ℕ). z < size (class_of (table_id c.args.table))) (sym c.word_at-2.ensures) (inside (shape_of c.args.bank.now) c.args.table c.requires.table c.args.place 2 c.requires.place (omega arith))

module _ (c : After-read_word-payload) where
  first : OnlyLoaded (view c.args.pass.now) (view c.read_word-kind.new.pass)
  first = loaded_by (ReadTable (table_id c.args.table) c.word_at.result c.read_word-kind.result) (view c.args.pass.now) (view c.read_word-kind.new.pass) tt c.read_word-kind.ensures.did.1

  both : OnlyLoaded (view c.args.pass.now) (view c.read_word-payload.new.pass)
  both =
      loaded_then (view c.args.pass.now) (view c.read_word-kind.new.pass) (view c.read_word-payload.new.pass) first
      (loaded_by (ReadTable (table_id c.args.table) c.word_at-2.result c.read_word-payload.result) (view c.read_word-kind.new.pass) (view c.read_word-payload.new.pass) tt c.read_word-payload.ensures.did.1)

  -- what the words say
  kind_is : c.read_word-kind.result ≡ slice_index (held_words c.args.o (view c.args.pass.now)).table (item_offset c.args.place 1)
  kind_is =
      c.read_word-kind.ensures.held c.args.o c.requires.container c.requires.locked c.requires.root
      ∙ ap (λ (z : ℕ). slice_index (held_words c.args.o (view c.args.pass.now)).table z) c.word_at.ensures

  payload_is : c.read_word-payload.result ≡ slice_index (held_words c.args.o (view c.args.pass.now)).table (item_offset c.args.place 2)
  payload_is =
      let o = c.args.o in
      let same = loaded_held (view c.args.pass.now) (view c.read_word-kind.new.pass) o first in
      c.read_word-payload.ensures.held o c.requires.container (first.work.pass.locks o ∙ c.requires.locked) (ap root_in same ∙ c.requires.root)
      ∙ ((λ d. slice_index (same d).table (c.word_at-2.ensures d)))

pub read_value-requires-clause-known : goal.read_value-requires-clause-known
read_value-requires-clause-known c =
    let d = (goal.at.read_value-requires-clause-known c).After-read_word-payload in
    let a = c.args in
    let r = c.requires in
    loaded_known (shape_of a.bank.now) a.o a.table a.place (view a.pass.now) (view c.read_word-payload.new.pass) r.pass.1 r.container r.list r.locked r.table r.root r.place (both d) c.read_word-kind.result c.read_word-payload.result (kind_is d) (payload_is d) c.read_word-payload.new.pass.possible

pub returns-clause-stack : goal.returns-clause-stack
returns-clause-stack c = c.read_value.ensures.looks.2.2 ∙ (c.read_word-payload.ensures.did.2 ∙ c.read_word-kind.ensures.did.2)

pub returns-clause-only : goal.returns-clause-only
returns-clause-only c =
    let d = (goal.at.returns-clause-only c).After-read_word-payload in
    loaded_then (view c.args.pass.now) (view c.read_word-payload.new.pass) (view c.read_value.new.pass) (both d) c.read_value.ensures.only

pub returns-clause-kind : goal.returns-clause-kind
returns-clause-kind c =
    let d = (goal.at.returns-clause-kind c).After-read_word-payload in
    let a = c.args in
    let r = c.requires in
    c.read_value.ensures.kind
    ∙ (loaded_reads (shape_of a.bank.now) a.o a.table a.place (view a.pass.now) (view c.read_word-payload.new.pass) r.pass.1 r.container r.list r.locked r.table r.root r.place (both d) c.read_word-kind.result c.read_word-payload.result (kind_is d) (payload_is d)).0

pub returns-clause-payload : goal.returns-clause-payload
returns-clause-payload c =
    let d = (goal.at.returns-clause-payload c).After-read_word-payload in
    let a = c.args in
    let r = c.requires in
    c.read_value.ensures.payload
    ∙ (loaded_reads (shape_of a.bank.now) a.o a.table a.place (view a.pass.now) (view c.read_word-payload.new.pass) r.pass.1 r.container r.list r.locked r.table r.root r.place (both d) c.read_word-kind.result c.read_word-payload.result (kind_is d) (payload_is d)).1
