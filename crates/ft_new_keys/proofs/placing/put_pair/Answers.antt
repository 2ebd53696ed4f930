use Rattle.std.proofs.Common.{rules, ◌≡◌, ◌+◌, ◌*◌, sym, ap, ◌∙◌, subst, arith, get_or-set_other}
use Rattle.std.specs.Prelude.{slice_index}
use Rattle.ft_trace.specs.Addresses.{class_of, slots}
use Rattle.ft_trace.specs.Holds.{held_words, held_unboxed}
use Rattle.ft_trace.specs.Pictures.{ContainerWords, entry_field, entry_offset}
use Rattle.ft_bank.specs.Passes.{shape_of, view}
use Rattle.ft_bank.specs.TableNames.{table_id}
use Rattle.ft_bank.specs.Whole.{OnlyWritten}
use Rattle.ft_bank.proofs.KnownAfterWrites.{put_written, written_then}
use Rattle.ft_search.specs.OneEntryWrites.{KeepsOtherEntries}
use Rattle.ft_search.proofs.WordPlaces.{slots_is}
use Rattle.ft_search.proofs.Boxing.{table_of}
use Rattle.ft_search.proofs.Puts.{few_slots}
use Rattle.ft_new_keys.proofs.NewEntryPuts.{few_used, pair_open, pair_opens, pair_stores, pair_allowed}
use Rattle.ft_boxes.specs.References.{KeepsValues}
use Rattle.ft_boxes.proofs.Steps.{keeps_then}
use Rattle.ft_search.proofs.Keeping.{own_keeps}
use Rattle.ft_new_keys.proofs.placing.put_pair.Goals as goal
use Rattle.ft_new_keys.proofs.placing.put_pair.Goals.{After-mask_of-mask}

pub raise_version-requires-clause-care : goal.raise_version-requires-clause-care
raise_version-requires-clause-care c =
    let a = c.args in
    pair_opens (shape_of a.bank.now) a.o a.table (view a.pass.now) a.slot a.place c.requires.pass.1 c.requires.writes c.requires.early c.requires.unused

size : (c : After-mask_of-mask) → slots (class_of (table_id c.args.table)) ≡ c.mask_of-mask.result + 1
size c = slots_is (shape_of c.args.bank.now) c.args.table c.mask_of-mask.result c.requires.writes.table_in c.mask_of-mask.ensures

word_is : (c : After-mask_of-mask) → 8 * c.args.place + c.mask_of-mask.result + 1 + 4 ≡ entry_offset (slots (class_of (table_id c.args.table))) c.args.place 4
word_is c = let s = size c in omega (arith, s)

pub overflow_mul-word : goal.overflow_mul-word
overflow_mul-word c =
    let s = size (goal.at.overflow_mul-word c).After-mask_of-mask in
    let p = few_used (shape_of c.args.bank.now) c.args.o c.args.table (view c.args.pass.now) c.args.slot c.args.place (held_unboxed c.args.o (view c.args.pass.now)).table c.requires.writes c.requires.unused in
    let m = few_slots (shape_of c.args.bank.now) c.args.table c.requires.writes.table_in in
    omega (arith, s, p, m)

pub overflow_add-word : goal.overflow_add-word
overflow_add-word c =
    let s = size (goal.at.overflow_add-word c).After-mask_of-mask in
    let p = few_used (shape_of c.args.bank.now) c.args.o c.args.table (view c.args.pass.now) c.args.slot c.args.place (held_unboxed c.args.o (view c.args.pass.now)).table c.requires.writes c.requires.unused in
    let m = few_slots (shape_of c.args.bank.now) c.args.table c.requires.writes.table_in in
    omega (arith, s, p, m)

pub overflow_add-word-2 : goal.overflow_add-word-2
overflow_add-word-2 c =
    let s = size (goal.at.overflow_add-word-2 c).After-mask_of-mask in
    let p = few_used (shape_of c.args.bank.now) c.args.o c.args.table (view c.args.pass.now) c.args.slot c.args.place (held_unboxed c.args.o (view c.args.pass.now)).table c.requires.writes c.requires.unused in
    let m = few_slots (shape_of c.args.bank.now) c.args.table c.requires.writes.table_in in
    omega (arith, s, p, m)

pub overflow_add-word-3 : goal.overflow_add-word-3
overflow_add-word-3 c =
    let s = size (goal.at.overflow_add-word-3 c).After-mask_of-mask in
    let p = few_used (shape_of c.args.bank.now) c.args.o c.args.table (view c.args.pass.now) c.args.slot c.args.place (held_unboxed c.args.o (view c.args.pass.now)).table c.requires.writes c.requires.unused in
    let m = few_slots (shape_of c.args.bank.now) c.args.table c.requires.writes.table_in in
    omega (arith, s, p, m)

pub put_unboxed-requires-clause-writes : goal.put_unboxed-requires-clause-writes
put_unboxed-requires-clause-writes c = table_of (shape_of c.args.bank.now) c.args.o c.args.table (view c.raise_version.new.pass) c.raise_version.ensures.writes

pub put_unboxed-requires-clause-open : goal.put_unboxed-requires-clause-open
put_unboxed-requires-clause-open c =
    let a = c.args in
    let r = c.raise_version.ensures in
    pair_open (shape_of a.bank.now) a.o a.table (view c.raise_version.new.pass) a.slot a.place _ (held_unboxed a.o (view a.pass.now)) r.pass.1 r.writes.keyed r.words c.requires.unused (word_is (goal.at.put_unboxed-requires-clause-open c).After-mask_of-mask)

pub put_unboxed-requires-clause-plain : goal.put_unboxed-requires-clause-plain
put_unboxed-requires-clause-plain c =
    let a = c.args in
    let r = c.raise_version.ensures in
    pair_stores (shape_of a.bank.now) a.o a.table (view c.raise_version.new.pass) a.slot a.place _ (held_unboxed a.o (view a.pass.now)) r.pass.1 r.writes.keyed r.words c.requires.unused (word_is (goal.at.put_unboxed-requires-clause-plain c).After-mask_of-mask)

pub place_in-requires-clause-slot : goal.place_in-requires-clause-slot
place_in-requires-clause-slot c = let s = size (goal.at.place_in-requires-clause-slot c).After-mask_of-mask in let i = c.requires.unused.in_index in omega (arith, s, i)

pub place_in-requires-clause-in_place : goal.place_in-requires-clause-in_place
place_in-requires-clause-in_place c four =
    let a = c.args in
    c.put_unboxed.ensures.raw (ap (slice_index (held_words a.o (view c.put_unboxed.new.pass)).table) (word_is (goal.at.place_in-requires-clause-in_place c).After-mask_of-mask) ∙ four)

pub place_in-requires-clause-may : goal.place_in-requires-clause-may
place_in-requires-clause-may c =
    let a = c.args in
    let k = shape_of a.bank.now in
    let r = c.raise_version.ensures in
    let p = c.put_unboxed.ensures in
    let d = (goal.at.place_in-requires-clause-may c).After-mask_of-mask in
    pair_allowed _ k (held_unboxed a.o (view a.pass.now)) a.slot a.place a.pair.now p.pass.1 p.writes.container p.writes.table_in r.writes.keyed (size d)
    (p.writes.locked, p.writes.root) (p.only.work.committed a.o ∙ (r.only.work.committed a.o ∙ c.requires.early)) p.writes.few
    (λ four. p.raw (ap (slice_index (held_words a.o (view c.put_unboxed.new.pass)).table) (word_is d) ∙ four)) c.requires.value.1 (p.words ∙ r.words) c.requires.unused

pub returns-clause-only : goal.returns-clause-only
returns-clause-only c =
    let o = c.args.o in
    let same : c.place_in.new.words.pass.now ≡ c.pass-1.given.0 = search rules in
    written_then o _ _ _ (put_written o _ _ c.raise_version.ensures.only) (written_then o _ _ _ c.put_unboxed.ensures.only (subst (λ p. OnlyWritten o (view c.put_unboxed.new.pass) (view p)) same (put_written o _ _ c.place_in.ensures.only)))

pub returns-clause-values : goal.returns-clause-values
returns-clause-values c =
    let v = view c.args.pass.now in
    let r = view c.raise_version.new.pass in
    let p = view c.put_unboxed.new.pass in
    let same : c.place_in.new.words.pass.now ≡ c.pass-1.given.0 = search rules in
    let raised = c.raise_version.ensures in
    let unboxed = c.put_unboxed.ensures in
    keeps_then v r _ (sym raised.only.work.pass.shape) raised.references (own_keeps v r raised.own)
    (keeps_then r p _ (sym unboxed.only.work.pass.shape) unboxed.references unboxed.values (subst (λ q. KeepsValues p (view q)) same c.place_in.ensures.values))

pub returns-clause-others : goal.returns-clause-others
returns-clause-others c other word ne few =
    let a = c.args in
    let t = table_id a.table in
    let n = slots (class_of (table_id a.table)) in
    let x = held_words a.o (view a.pass.now) in
    let at = word_is (goal.at.returns-clause-others c).After-mask_of-mask in
    let same : c.place_in.new.words.pass.now ≡ c.pass-1.given.0 = search rules in
    subst (λ p. KeepsOtherEntries a.o t a.place (view c.put_unboxed.new.pass) (view p)) same c.place_in.ensures.others other word ne few
    ∙ (c.put_unboxed.ensures.stands (entry_offset n other word) (λ e. ne (omega (arith, e, at, few))) (λ e. ne (omega (arith, e, at, few)))
    ∙ (ap (λ (z : ContainerWords). entry_field n z.table other word) c.raise_version.ensures.raw
    ∙ get_or-set_other x.table (entry_offset n a.place 0) (entry_offset n other word) (entry_field n x.table a.place 0 + 1) 0 (λ e. ne (omega (arith, e, few)))))
