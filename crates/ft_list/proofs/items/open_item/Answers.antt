use Rattle.std.proofs.Common.{◌≡◌, ℕ, ◌+◌, ◌%◌, ◌<◌, sym, ap, ◌∙◌, subst, arith, get_or-set_other}
use Rattle.std.specs.Prelude.{slice_set}
use Rattle.ft_trace.specs.declared.Act.TheVariants.{PutTable}
use Rattle.ft_trace.specs.Addresses.{class_of, size}
use Rattle.ft_trace.specs.ContainerStates.{kind_in}
use Rattle.ft_trace.specs.Holds.{held_unboxed, held_words}
use Rattle.ft_trace.specs.Pictures.{ContainerWords, root_in, item_offset, item_field}
use Rattle.ft_trace.specs.WholeWrites.{IsNoValue}
use Rattle.ft_bank.specs.Passes.{shape_of, view}
use Rattle.ft_bank.specs.TableNames.{table_id}
use Rattle.ft_bank.specs.Whole.{OnlyPut}
use Rattle.ft_bank.proofs.KnownAfterWrites.{loaded_held, put_by, put_written, written_then}
use Rattle.ft_search.proofs.Owning.{keeps_loaded, keeps_put, keeps_then}
use Rattle.ft_list.proofs.Cares.{few_slots, inside, far_word, open_care, set_own, writes_on}
use Rattle.ft_list.proofs.Written.{loaded_written}
use Rattle.ft_list.proofs.items.open_item.Goals as goal
use Rattle.ft_list.proofs.items.open_item.Goals.{After-put_word, After-read_version-version}

pub word_at-requires-clause-place : goal.word_at-requires-clause-place
word_at-requires-clause-place c =
    let f = few_slots (shape_of c.args.bank.now) c.args.table c.requires.list.table_in in
    let low = c.requires.place in
    omega (arith, f, low)

pub put_word-requires-clause-word : goal.put_word-requires-clause-word
put_word-requires-clause-word c =
    subst (λ (z : ℕ). z < size (class_of (table_id c.args.table))) (sym c.word_at.ensures) (inside (shape_of c.args.bank.now) c.args.table c.requires.list.table_in c.args.place 0 c.requires.place (omega arith))

pub put_word-requires-clause-care : goal.put_word-requires-clause-care
put_word-requires-clause-care c =
    let a = c.args in
    let k = shape_of a.bank.now in
    let w = view c.read_version-version.new.pass in
    let e = c.read_version-version.ensures in
    let found : c.read_version-version.result ≡ item_field (held_unboxed a.o w).table a.place 0 = e.found ∙ sym (ap (λ (z : ContainerWords). item_field z.table a.place 0) e.held) in
    open_care k a.o a.table w e.list e.pass.1 a.place c.read_version-version.result c.word_at.result c.word_at.ensures (e.only.work.committed a.o ∙ c.requires.early) found c.if-version-eq0.true

pub returns-else-version-eq0-clause-words : goal.returns-else-version-eq0-clause-words
returns-else-version-eq0-clause-words c =
    let a = c.args in
    let v = view a.pass.now in
    let e = c.read_version-version.ensures in
    let odd : c.read_version-version.result % 2 ≡ 1 = let n = c.if-version-eq0.false in omega (arith, n) in (
      c.read_version-version.result,
      odd,
      e.held ∙ (λ d. record { block = (held_unboxed a.o v).block; table = sym (set_own (held_unboxed a.o v).table (item_offset a.place 0) c.read_version-version.result e.found) d }),
    )

pub returns-else-version-eq0-clause-only : goal.returns-else-version-eq0-clause-only
returns-else-version-eq0-clause-only c = loaded_written c.args.o (view c.args.pass.now) (view c.read_version-version.new.pass) c.read_version-version.ensures.only

-- the put of the version
module _ (c : After-put_word) where
  far : IsNoValue (kind_in (shape_of c.args.bank.now).starts c.args.o) (class_of (table_id c.args.table)) c.word_at.result
  far = far_word (shape_of c.args.bank.now) c.args.o c.args.table (view c.read_version-version.new.pass) c.read_version-version.ensures.list c.read_version-version.ensures.pass.1 c.word_at.result c.args.place c.word_at.ensures

  put : OnlyPut c.args.o (view c.read_version-version.new.pass) (view c.put_word.new.pass)
  put =
      let p = c.put_word.ensures in
      put_by (PutTable c.args.o (table_id c.args.table) c.word_at.result (c.read_version-version.result + 1)) (view c.read_version-version.new.pass) (view c.put_word.new.pass) c.args.o tt p.did.1 p.keeps p.moves

pub returns-then-version-eq0-clause-list : goal.returns-then-version-eq0-clause-list
returns-then-version-eq0-clause-list c =
    let d = (goal.at.returns-then-version-eq0-clause-list c).After-put_word in
    let a = c.args in
    let e = c.read_version-version.ensures in
    writes_on (shape_of a.bank.now) a.o a.table (view c.read_version-version.new.pass) (view c.put_word.new.pass) e.pass.1 (put d).work (c.put_word.ensures.same (far d)) (put d).made (ap root_in (c.put_word.ensures.unboxed (far d))) e.list

pub returns-then-version-eq0-clause-only : goal.returns-then-version-eq0-clause-only
returns-then-version-eq0-clause-only c =
    let d = (goal.at.returns-then-version-eq0-clause-only c).After-put_word in
    let o = c.args.o in
    let v = view c.args.pass.now in
    let u = view c.read_version-version.new.pass in
    let w = view c.put_word.new.pass in
    written_then o v u w (loaded_written o v u c.read_version-version.ensures.only) (put_written o u w (put d))

pub returns-then-version-eq0-clause-words : goal.returns-then-version-eq0-clause-words
returns-then-version-eq0-clause-words c =
    let d = (goal.at.returns-then-version-eq0-clause-words c).After-put_word in
    let e = c.read_version-version.ensures in
    let odd : (c.read_version-version.result + 1) % 2 ≡ 1 = let n = c.if-version-eq0.true in omega (arith, n) in (
      c.read_version-version.result + 1,
      odd,
      c.put_word.ensures.unboxed (far d) ∙ (λ i. record { block = (e.held i).block; table = slice_set (e.held i).table (c.word_at.ensures i) (c.read_version-version.result + 1) }),
    )

pub returns-else-version-eq0-clause-references : goal.returns-else-version-eq0-clause-references
returns-else-version-eq0-clause-references c = c.read_version-version.ensures.only.boxes.references

pub returns-else-version-eq0-clause-keeps : goal.returns-else-version-eq0-clause-keeps
returns-else-version-eq0-clause-keeps c = keeps_loaded (view c.args.pass.now) (view c.read_version-version.new.pass) c.args.pass.now.possible c.read_version-version.ensures.only

pub returns-then-version-eq0-clause-references : goal.returns-then-version-eq0-clause-references
returns-then-version-eq0-clause-references c b =
    c.put_word.ensures.same (far (goal.at.returns-then-version-eq0-clause-references c).After-put_word) b ∙ c.read_version-version.ensures.only.boxes.references b

pub returns-then-version-eq0-clause-keeps : goal.returns-then-version-eq0-clause-keeps
returns-then-version-eq0-clause-keeps c =
    let d = (goal.at.returns-then-version-eq0-clause-keeps c).After-put_word in
    let v = view c.args.pass.now in
    let u = view c.read_version-version.new.pass in
    let w = view c.put_word.new.pass in
    keeps_then v u w (keeps_loaded v u c.args.pass.now.possible c.read_version-version.ensures.only)
    (keeps_put u w c.args.o (table_id c.args.table) c.word_at.result (c.read_version-version.result + 1) c.put_word.ensures.did.1 (c.put_word.ensures.same (far d)))

same_words : (c : After-read_version-version) → held_words c.args.o (view c.read_version-version.new.pass) ≡ held_words c.args.o (view c.args.pass.now)
same_words c = loaded_held (view c.args.pass.now) (view c.read_version-version.new.pass) c.args.o c.read_version-version.ensures.only

pub returns-else-version-eq0-clause-values : goal.returns-else-version-eq0-clause-values
returns-else-version-eq0-clause-values c place word some_ few =
    ap (λ (x : ContainerWords). item_field x.table place word) (same_words (goal.at.returns-else-version-eq0-clause-values c).After-read_version-version)

pub returns-then-version-eq0-clause-values : goal.returns-then-version-eq0-clause-values
returns-then-version-eq0-clause-values c place word some_ few =
    let a = c.args in
    let at = c.word_at.ensures in
    let T = (held_words a.o (view c.read_version-version.new.pass)).table in
    ap (λ (x : ContainerWords). item_field x.table place word) c.put_word.ensures.held
    ∙ (get_or-set_other T c.word_at.result (item_offset place word) (c.read_version-version.result + 1) 0 (λ e. omega (arith, e, at, some_, few))
    ∙ ap (λ (x : ContainerWords). item_field x.table place word) (same_words (goal.at.returns-then-version-eq0-clause-values c).After-read_version-version))
