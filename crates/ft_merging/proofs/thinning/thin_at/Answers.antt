use Rattle.std.proofs.Common.{◌≡◌, ℕ, ◌+◌, Option, Some, None, refl, sym, ◌∙◌, subst}
use Rattle.ft_model.specs.declared.data.Key.{Key}
use Rattle.ft_model.specs.Worlds.{set_of}
use Rattle.ft_trace.specs.Addresses.{class_of, slots}
use Rattle.ft_trace.specs.Carefuls.{HasLiveKey}
use Rattle.ft_trace.specs.Holds.{held_unboxed, known_state}
use Rattle.ft_trace.specs.Pictures.{ContainerWords}
use Rattle.ft_trace.specs.ContainerStates.{ContainerState}
use Rattle.ft_bank.specs.Passes.{shape_of, view}
use Rattle.ft_bank.specs.TableNames.{table_id}
use Rattle.ft_bank.proofs.KnownAfterWrites.{loaded_put, put_written, written_then}
use Rattle.ft_search.proofs.Laws.{SetLaws}
use Rattle.ft_merging.specs.Internal.ThinningSteps.{IsThinned}
use Rattle.ft_merging.proofs.Ending.{read_same}
use Rattle.ft_merging.proofs.Thinned.{may_go, plain_there, some_there, spared_goes, spared_stays, thinned_goes, thinned_loaded, thinned_stays, was_there}
use Rattle.ft_merging.proofs.thinning.thin_at.Goals as goal
use Rattle.ft_merging.proofs.thinning.thin_at.Goals.{After-goes_at}

laws : (c : After-goes_at) → SetLaws
laws c =
    let v = c.versions_change_nothing.ensures in
    record {
      versions = λ walk room texts mask used words place version within table. v.entries walk room texts mask used words _ within (v.entry mask words place version) table;
      first = c.used_entries_follow_a_set.ensures.first;
      lives = c.used_entries_follow_a_set.ensures.live;
      shrinks = c.used_entries_follow_a_set.ensures.deleted;
      deletes = c.words_follow_a_set.ensures.deleted;
    }

-- the set, after the loads
thinned : (c : After-goes_at) (to : ContainerState) (last : ℕ) → IsThinned (shape_of c.args.bank.now) c.args.s c.args.table c.args.kept (set_of (known_state c.args.t (view c.args.pass.now)).content) (set_of (known_state c.args.s (view c.args.pass.now)).content) to last c.args.place (view c.args.pass.now)
    → IsThinned (shape_of c.args.bank.now) c.args.s c.args.table c.args.kept (set_of (known_state c.args.t (view c.args.pass.now)).content) (set_of (known_state c.args.s (view c.args.pass.now)).content) to last c.args.place (view c.goes_at.new.pass)
thinned c to last th =
    let a = c.args in
    let v = view a.pass.now in
    thinned_loaded (shape_of a.bank.now) a.s a.table a.kept (set_of (known_state a.t v).content) (set_of (known_state a.s v).content) to last a.place v (view c.goes_at.new.pass) c.requires.pass.1 c.goes_at.ensures.only th

live : (c : After-goes_at) (key : Key) → HasLiveKey (slots (class_of (table_id c.args.table))) (held_unboxed c.args.s (view c.args.pass.now)).table c.args.place key → HasLiveKey (slots (class_of (table_id c.args.table))) (held_unboxed c.args.s (view c.goes_at.new.pass)).table c.args.place key
live c key is =
    let w = c.requires.thinned.3.midway.writes in
    subst (λ (x : ContainerWords). HasLiveKey (slots (class_of (table_id c.args.table))) x.table c.args.place key) (sym (read_same (shape_of c.args.bank.now) c.args.s (view c.args.pass.now) (view c.goes_at.new.pass) c.requires.pass.1 w.container w.locked c.goes_at.ensures.only)) is

pub put_deleted-requires-clause-some : goal.put_deleted-requires-clause-some
put_deleted-requires-clause-some c =
    let a = c.args in
    let d = (goal.at.put_deleted-requires-clause-some c).After-goes_at in
    let v = view a.pass.now in
    let r = c.requires.thinned in
    let g = c.goes_at.ensures.goes c.in-Some.key c.in-Some.is in
    some_there (shape_of a.bank.now) a.s a.table a.kept (set_of (known_state a.t v).content) (set_of (known_state a.s v).content) r.0 r.1 a.place (view c.goes_at.new.pass) c.requires.set (thinned d r.0 r.1 r.3) (laws d) c.requires.place r.2 c.in-Some.key (live d c.in-Some.key g.0) g.1

pub put_deleted-requires-clause-plain : goal.put_deleted-requires-clause-plain
put_deleted-requires-clause-plain c =
    let a = c.args in
    let d = (goal.at.put_deleted-requires-clause-plain c).After-goes_at in
    let v = view a.pass.now in
    let r = c.requires.thinned in
    let g = c.goes_at.ensures.goes c.in-Some.key c.in-Some.is in
    plain_there (shape_of a.bank.now) a.s a.table a.kept (set_of (known_state a.t v).content) (set_of (known_state a.s v).content) r.0 r.1 a.place (view c.goes_at.new.pass) c.requires.set (thinned d r.0 r.1 r.3) (laws d) c.requires.place r.2 c.in-Some.key (live d c.in-Some.key g.0) g.1

pub put_deleted-requires-clause-may : goal.put_deleted-requires-clause-may
put_deleted-requires-clause-may c =
    let a = c.args in
    let d = (goal.at.put_deleted-requires-clause-may c).After-goes_at in
    let v = view a.pass.now in
    let r = c.requires.thinned in
    let g = c.goes_at.ensures.goes c.in-Some.key c.in-Some.is in
    may_go (shape_of a.bank.now) a.s a.table a.kept (set_of (known_state a.t v).content) (set_of (known_state a.s v).content) r.0 r.1 a.place (view c.goes_at.new.pass) c.requires.set (thinned d r.0 r.1 r.3) (laws d) c.requires.place r.2 c.in-Some.key (live d c.in-Some.key g.0) g.1

pub put_deleted-requires-clause-writes : goal.put_deleted-requires-clause-writes
put_deleted-requires-clause-writes c =
    let d = (goal.at.put_deleted-requires-clause-writes c).After-goes_at in
    let r = c.requires.thinned in
    (thinned d r.0 r.1 r.3).midway.writes

pub put_deleted-requires-clause-early : goal.put_deleted-requires-clause-early
put_deleted-requires-clause-early c =
    let d = (goal.at.put_deleted-requires-clause-early c).After-goes_at in
    let r = c.requires.thinned in
    (thinned d r.0 r.1 r.3).midway.early

pub returns-in-Some-clause-thinned : goal.returns-in-Some-clause-thinned
returns-in-Some-clause-thinned c to last low th =
    let a = c.args in
    let d = (goal.at.returns-in-Some-clause-thinned c).After-goes_at in
    let v = view a.pass.now in
    let u = view c.goes_at.new.pass in
    let k = shape_of a.bank.now in
    let others = set_of (known_state a.t v).content in
    let first = set_of (known_state a.s v).content in
    let g = c.goes_at.ensures.goes c.in-Some.key c.in-Some.is in
    let e = c.put_deleted.ensures in
    let now = thinned d to last th in
    let here = live d c.in-Some.key g.0 in
    let was = was_there k a.s a.table a.kept others first to last a.place u c.requires.set now (laws d) c.requires.place low c.in-Some.key here g.1 in
    thinned_goes k a.s a.table a.kept others first to last a.place u c.requires.set now (laws d) c.requires.place low c.in-Some.key here g.1 (view c.put_deleted.new.pass) e.only e.writes e.words (spared_goes a.kept others first c.in-Some.key was g.2)

-- ---- where it stays, or none is there

none_goes : (found : Option Key) → ((key : Key) → found ≡ Some key → ⊥) → found ≡ None
none_goes None never = refl
none_goes (Some key) never = absurd (never key refl)

pub returns-in_default-clause-thinned : goal.returns-in_default-clause-thinned
returns-in_default-clause-thinned c to last low th =
    let a = c.args in
    let d = (goal.at.returns-in_default-clause-thinned c).After-goes_at in
    let v = view a.pass.now in
    let others = set_of (known_state a.t v).content in
    let first = set_of (known_state a.s v).content in
    thinned_loaded (shape_of a.bank.now) a.s a.table a.kept others first to last (a.place + 1) v (view c.goes_at.new.pass) c.requires.pass.1 c.goes_at.ensures.only
    (thinned_stays (shape_of a.bank.now) a.s a.table a.kept others first to last a.place v c.requires.set th (λ key ok is. spared_stays a.kept others first key (c.goes_at.ensures.stays (none_goes c.goes_at.result c.in_default.not-Some) key ok is)))

pub returns-in-Some-clause-references : goal.returns-in-Some-clause-references
returns-in-Some-clause-references c b = c.put_deleted.ensures.references b ∙ c.goes_at.ensures.only.boxes.references b

pub returns-in_default-clause-references : goal.returns-in_default-clause-references
returns-in_default-clause-references c = c.goes_at.ensures.only.boxes.references

pub returns-in-Some-clause-only : goal.returns-in-Some-clause-only
returns-in-Some-clause-only c =
    let v = view c.args.pass.now in
    let u = view c.goes_at.new.pass in
    written_then c.args.s v u (view c.put_deleted.new.pass) (put_written c.args.s v u (loaded_put v u c.args.s c.goes_at.ensures.only)) c.put_deleted.ensures.only

pub returns-in_default-clause-only : goal.returns-in_default-clause-only
returns-in_default-clause-only c =
    let v = view c.args.pass.now in
    let u = view c.goes_at.new.pass in
    put_written c.args.s v u (loaded_put v u c.args.s c.goes_at.ensures.only)
