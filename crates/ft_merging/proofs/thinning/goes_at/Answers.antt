use Rattle.std.proofs.Common.{◌≡◌, ◌<◌, ℕ, true, sym, ap, ◌∙◌, subst}
use Rattle.ft_model.specs.declared.script.Kind.{Kind}
use Rattle.ft_model.specs.Contents.{has_element}
use Rattle.ft_model.specs.Worlds.{set_of}
use Rattle.ft_layout.specs.Words.{FitsKey}
use Rattle.ft_trace.specs.Addresses.{class_of, slots}
use Rattle.ft_trace.specs.Carefuls.{HasLiveKey}
use Rattle.ft_trace.specs.Holds.{held_unboxed, known_state}
use Rattle.ft_trace.specs.Kinds.{IsKeyed, rows}
use Rattle.ft_trace.specs.Pictures.{ContainerWords, root_in}
use Rattle.ft_bank.specs.Passes.{shape_of, view}
use Rattle.ft_bank.specs.TableNames.{table_id}
use Rattle.ft_bank.proofs.KnownAfterWrites.{loaded_held, loaded_then, work_knows}
use Rattle.ft_merging.proofs.thinning.goes_at.Goals as goal
use Rattle.ft_trace.specs.Pictures.{entry_field}
use Rattle.ft_trace.specs.ContainerStates.{ContainerState, kind_in}
use Rattle.ft_bank.specs.Whole.{OnlyLoaded}
use Rattle.ft_search.proofs.Laws.{SetLaws}
use Rattle.ft_search.proofs.Spotting.{knows_loaded}
use Rattle.ft_merging.proofs.Ending.{read_same}
use Rattle.ft_merging.proofs.Thinned.{hash_is, was_there}
use Rattle.ft_merging.proofs.thinning.goes_at.Goals.{Start, After-word_of-hash}

keyed : (c : Start) → IsKeyed (kind_in (shape_of c.args.bank.now).starts c.args.s)
keyed c = subst IsKeyed (sym c.requires.set) tt

row : (c : Start) → c.args.place < rows (kind_in (shape_of c.args.bank.now).starts c.args.s) (class_of (table_id c.args.table))
row c = subst (λ (z : Kind). c.args.place < rows z (class_of (table_id c.args.table))) (sym c.requires.set) c.requires.place

pub key_at-requires-clause-container : goal.key_at-requires-clause-container
key_at-requires-clause-container c = c.requires.thinned.3.midway.writes.container

pub key_at-requires-clause-keyed : goal.key_at-requires-clause-keyed
key_at-requires-clause-keyed c = keyed (goal.at.key_at-requires-clause-keyed c).Start

pub key_at-requires-clause-table : goal.key_at-requires-clause-table
key_at-requires-clause-table c = c.requires.thinned.3.midway.writes.table_in

pub key_at-requires-clause-knows : goal.key_at-requires-clause-knows
key_at-requires-clause-knows c = (c.requires.thinned.3.midway.writes.locked, c.requires.thinned.3.midway.writes.root)

pub key_at-requires-clause-place : goal.key_at-requires-clause-place
key_at-requires-clause-place c = row (goal.at.key_at-requires-clause-place c).Start

-- ---- a key is there

laws : (c : After-word_of-hash) → SetLaws
laws c =
    let v = c.versions_change_nothing.ensures in
    record {
      versions = λ walk room texts mask used words place version within table. v.entries walk room texts mask used words _ within (v.entry mask words place version) table;
      first = c.used_entries_follow_a_set.ensures.first;
      lives = c.used_entries_follow_a_set.ensures.live;
      shrinks = c.used_entries_follow_a_set.ensures.deleted;
      deletes = c.words_follow_a_set.ensures.deleted;
    }

stated : (c : After-word_of-hash) → HasLiveKey (slots (class_of (table_id c.args.table))) (held_unboxed c.args.s (view c.args.pass.now)).table c.args.place c.in-Some.key × FitsKey c.in-Some.key
stated c = let is = (c.key_at.ensures.key c.in-Some.key).1 c.in-Some.is in ((is.kind_is, is.payload_is), is.fits)

only : (c : After-word_of-hash) → OnlyLoaded (view c.args.pass.now) (view c.word_of-hash.new.pass)
only c = loaded_then (view c.args.pass.now) (view c.key_at.new.pass) (view c.word_of-hash.new.pass) c.key_at.ensures.only c.word_of-hash.ensures.only

pub word_of-hash-requires-clause-container : goal.word_of-hash-requires-clause-container
word_of-hash-requires-clause-container c = c.requires.thinned.3.midway.writes.container

pub word_of-hash-requires-clause-keyed : goal.word_of-hash-requires-clause-keyed
word_of-hash-requires-clause-keyed c = keyed (goal.at.word_of-hash-requires-clause-keyed c).Start

pub word_of-hash-requires-clause-table : goal.word_of-hash-requires-clause-table
word_of-hash-requires-clause-table c = c.requires.thinned.3.midway.writes.table_in

pub word_of-hash-requires-clause-knows : goal.word_of-hash-requires-clause-knows
word_of-hash-requires-clause-knows c =
    let a = c.args in
    let w = c.requires.thinned.3.midway.writes in
    let e = c.key_at.ensures.only in (
      e.work.pass.locks a.s ∙ w.locked,
      ap root_in (loaded_held (view a.pass.now) (view c.key_at.new.pass) a.s e) ∙ w.root,
    )

pub word_of-hash-requires-clause-place : goal.word_of-hash-requires-clause-place
word_of-hash-requires-clause-place c = row (goal.at.word_of-hash-requires-clause-place c).Start

pub is_in-found-requires-clause-hash : goal.is_in-found-requires-clause-hash
is_in-found-requires-clause-hash c =
    let a = c.args in
    let d = (goal.at.is_in-found-requires-clause-hash c).After-word_of-hash in
    let v = view a.pass.now in
    let t = stated d in
    let w = c.requires.thinned.3.midway.writes in
    c.word_of-hash.ensures.found
    ∙ (ap (λ (x : ContainerWords). entry_field (slots (class_of (table_id a.table))) x.table a.place 1) (read_same (shape_of a.bank.now) a.s v (view c.key_at.new.pass) c.requires.pass.1 w.container w.locked c.key_at.ensures.only)
    ∙ hash_is (shape_of a.bank.now) a.s a.table a.kept (set_of (known_state a.t v).content) (set_of (known_state a.s v).content) c.requires.thinned.0 c.requires.thinned.1 a.place v c.requires.set c.requires.thinned.3 (laws d) c.requires.place c.requires.thinned.2 c.in-Some.key t.0 t.1)

pub is_in-found-requires-clause-fits : goal.is_in-found-requires-clause-fits
is_in-found-requires-clause-fits c = (stated (goal.at.is_in-found-requires-clause-fits c).After-word_of-hash).1

pub is_in-found-requires-clause-other : goal.is_in-found-requires-clause-other
is_in-found-requires-clause-other c ne =
    let a = c.args in
    knows_loaded (shape_of a.bank.now) a.t (view a.pass.now) (view c.word_of-hash.new.pass) c.requires.pass.1 (only (goal.at.is_in-found-requires-clause-other c).After-word_of-hash) (c.requires.other ne)

pub is_in-found-requires-clause-own : goal.is_in-found-requires-clause-own
is_in-found-requires-clause-own c e =
    let a = c.args in
    let d = (goal.at.is_in-found-requires-clause-own c).After-word_of-hash in
    let v = view a.pass.now in
    let t = stated d in
    let was = was_there (shape_of a.bank.now) a.s a.table a.kept (set_of (known_state a.t v).content) (set_of (known_state a.s v).content) c.requires.thinned.0 c.requires.thinned.1 a.place v c.requires.set c.requires.thinned.3 (laws d) c.requires.place c.requires.thinned.2 c.in-Some.key t.0 t.1 in
    subst (λ (z : ContainerState). has_element (set_of z.content).elements c.in-Some.key ≡ true) (ap (λ (p : ℕ). known_state p v) e ∙ sym (work_knows v (view c.word_of-hash.new.pass) a.t (only d).work)) was

pub returns-then-found-kept-clause-only : goal.returns-then-found-kept-clause-only
returns-then-found-kept-clause-only c =
    loaded_then (view c.args.pass.now) (view c.word_of-hash.new.pass) (view c.is_in-found.new.pass) (only (goal.at.returns-then-found-kept-clause-only c).After-word_of-hash) c.is_in-found.ensures.only

pub returns-clause-only : goal.returns-clause-only
returns-clause-only c =
    loaded_then (view c.args.pass.now) (view c.word_of-hash.new.pass) (view c.is_in-found.new.pass) (only (goal.at.returns-clause-only c).After-word_of-hash) c.is_in-found.ensures.only
