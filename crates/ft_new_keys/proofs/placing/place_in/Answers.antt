use Rattle.std.proofs.Common.{◌≡◌, ℕ, ◌<◌, ◌+◌, sym, ap, ◌∙◌, subst, List, map, arith}
use Rattle.ft_layout.specs.Words.{entry_words}
use Rattle.ft_keys.specs.declared.words.Access.{Access}
use Rattle.ft_keys.specs.TableChanges.{place_puts}
use Rattle.ft_trace.specs.declared.Shape.{Shape}
use Rattle.ft_trace.specs.Addresses.{container_count, class_of, slots}
use Rattle.ft_trace.specs.ContainerStates.{kind_in}
use Rattle.ft_trace.specs.Holds.{held_words}
use Rattle.ft_trace.specs.Kinds.{rows, IsKeyed}
use Rattle.ft_trace.specs.Pictures.{entry_field}
use Rattle.ft_bank.specs.Passes.{shape_of, view}
use Rattle.ft_bank.specs.TableNames.{table_id}
use Rattle.ft_search.specs.declared.words.TableWords.{TableWords}
use Rattle.ft_search.proofs.WordPlaces.{mask_is, slots_is}
use Rattle.ft_search.proofs.Running.{ran}
use Rattle.ft_new_keys.proofs.Laid.{Laid, ran_laid, laid_same, laid_words}
use Rattle.ft_new_keys.proofs.OldValues.{row_place}
use Rattle.ft_new_keys.proofs.PlainCalls.{ArePlainCalls, laid_else, place_plain}
use Rattle.ft_search.specs.TableWords.{access_act}
use Rattle.ft_search.proofs.Keeping.{puts_keep}
use Rattle.ft_new_keys.proofs.NewEntryPuts.{place_acts}
use Rattle.ft_new_keys.proofs.placing.place_in.Goals as goal
use Rattle.ft_new_keys.proofs.placing.place_in.Goals.{After-place_at}

pub place_at-requires-clause-mask : goal.place_at-requires-clause-mask
place_at-requires-clause-mask c = let s = c.args.words.now in mask_is s.table.class s.mask c.requires.can.table.0 c.requires.can.mask

pub place_at-requires-clause-fill : goal.place_at-requires-clause-fill
place_at-requires-clause-fill c =
    let s = c.args.words.now in
    row_place (shape_of s.bank.now) s.o s.table s.mask c.args.place c.requires.keyed c.requires.can.table c.requires.can.mask c.requires.place

pub returns-clause-same : goal.returns-clause-same
returns-clause-same c = (ran c.args.words.now (place_puts c.args.slot c.args.place (entry_words c.args.pair.now)) c.place_at.new.words c.place_at.ensures.runs).0

pub returns-clause-stack : goal.returns-clause-stack
returns-clause-stack c = (ran c.args.words.now (place_puts c.args.slot c.args.place (entry_words c.args.pair.now)) c.place_at.new.words c.place_at.ensures.runs).1.2

pub returns-clause-only : goal.returns-clause-only
returns-clause-only c =
    let s = c.args.words.now in
    (ran_laid s (slots (class_of (table_id s.table))) (slots_is (shape_of s.bank.now) s.table s.mask c.requires.can.table c.requires.can.mask) (place_puts c.args.slot c.args.place (entry_words c.args.pair.now)) c.place_at.new.words c.place_at.ensures.runs c.requires.writes.0).only

module _ (c : After-place_at) where
  abbrev s : TableWords
  s = c.args.words.now

  abbrev calls : List Access
  calls = place_puts c.args.slot c.args.place (entry_words c.args.pair.now)

  shape : (view c.args.words.now.pass.now).shape ≡ shape_of c.args.words.now.bank.now
  shape = c.requires.can.pass.1

  size : slots (class_of (table_id c.args.words.now.table)) ≡ c.args.words.now.mask + 1
  size = slots_is (shape_of s.bank.now) s.table s.mask c.requires.can.table c.requires.can.mask

  laid_is : Laid c.args.words.now (slots (class_of (table_id c.args.words.now.table))) (place_puts c.args.slot c.args.place (entry_words c.args.pair.now)) c.place_at.new.words
  laid_is = ran_laid s (slots (class_of (table_id s.table))) size calls c.place_at.new.words c.place_at.ensures.runs c.requires.writes.0

  are : ArePlainCalls (slots (class_of (table_id c.args.words.now.table))) c.args.place (place_puts c.args.slot c.args.place (entry_words c.args.pair.now))
  are =
      let n = size in
      let low = c.requires.slot in
      place_plain (slots (class_of (table_id s.table))) c.args.slot c.args.place c.args.pair.now (omega (arith, n, low)) c.requires.value.1

  keyed : IsKeyed (kind_in (view c.args.words.now.pass.now).shape.starts c.args.words.now.o)
  keyed = subst (λ (z : Shape). IsKeyed (kind_in z.starts s.o)) (sym shape) c.requires.keyed

  low : c.args.place < rows (kind_in (view c.args.words.now.pass.now).shape.starts c.args.words.now.o) (class_of (table_id c.args.words.now.table))
  low = subst (λ (z : Shape). c.args.place < rows (kind_in z.starts s.o) (class_of (table_id s.table))) (sym shape) c.requires.place

pub returns-clause-references : goal.returns-clause-references
returns-clause-references c =
    let d = (goal.at.returns-clause-references c).After-place_at in
    laid_same c.args.words.now (place_puts c.args.slot c.args.place (entry_words c.args.pair.now)) c.place_at.new.words c.args.place (keyed d) (low d) c.requires.writes.0 c.requires.in_place (laid_is d) (are d)

pub returns-clause-words : goal.returns-clause-words
returns-clause-words c =
    let d = (goal.at.returns-clause-words c).After-place_at in
    laid_words c.args.words.now (place_puts c.args.slot c.args.place (entry_words c.args.pair.now)) c.place_at.new.words c.args.place (keyed d) (low d) c.requires.writes.0 c.requires.in_place (laid_is d) (are d)

pub returns-clause-others : goal.returns-clause-others
returns-clause-others c other word ne few =
    let d = (goal.at.returns-clause-others c).After-place_at in
    let s = c.args.words.now in
    let n = slots (class_of (table_id s.table)) in
    let calls = place_puts c.args.slot c.args.place (entry_words c.args.pair.now) in
    ap (λ (l : List ℕ). entry_field n l other word) (laid_is d).table ∙ laid_else n c.args.place other word ne few calls (are d) (held_words s.o (view s.pass.now)).table

pub returns-clause-values : goal.returns-clause-values
returns-clause-values c =
    let s = c.args.words.now in
    let calls = place_puts c.args.slot c.args.place (entry_words c.args.pair.now) in
    let did = (ran s calls c.place_at.new.words c.place_at.ensures.runs).1 in
    puts_keep s.o (map (access_act s.o (table_id s.table)) calls) (view s.pass.now) (view c.place_at.new.words.pass.now) did.1 (place_acts s.o (table_id s.table) c.args.slot c.args.place c.args.pair.now)
    (subst (λ (z : Shape). s.o < container_count z) (sym c.requires.can.pass.1) c.requires.can.container) c.requires.writes.0.0
