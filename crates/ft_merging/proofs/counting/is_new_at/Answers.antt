use Rattle.std.proofs.Common.{◌≡◌, ◌<◌, ◌∷◌, Bool, true, false, List, length, None, not, refl, sym, ap, ◌∙◌, subst, arith}
use Rattle.std.specs.Prelude.{◌&&◌, is_some, pos, slice_index_or}
use Rattle.ft_model.specs.declared.data.Key.TheVariants.{Int}
use Rattle.ft_model.specs.declared.script.Kind.{Kind}
use Rattle.ft_layout.specs.Containers.{class_mask}
use Rattle.ft_layout.specs.Tables.{UsedEntry, is_live, slot_of}
use Rattle.ft_keys.specs.Ways.{IsTableOf}
use Rattle.ft_trace.specs.Addresses.{class_of, slots}
use Rattle.ft_trace.specs.Holds.{held_unboxed, known_state}
use Rattle.ft_trace.specs.Kinds.{rows}
use Rattle.ft_trace.specs.Pictures.{entry_field}
use Rattle.ft_trace.specs.ContainerStates.{ContainerState}
use Rattle.ft_bank.specs.Passes.{shape_of, view}
use Rattle.ft_bank.specs.TableNames.{table_id}
use Rattle.ft_bank.specs.Whole.{OnlyLoaded}
use Rattle.ft_bank.proofs.KnownAfterWrites.{loaded_then, work_knows}
use Rattle.ft_new_keys.specs.KeyGrowth.{holds}
use Rattle.ft_merging.specs.Internal.JoiningSteps.{pair_in}
use Rattle.ft_merging.proofs.JoinedPairs.{source_known}
use Rattle.ft_merging.proofs.JoinedReads.{Source, entry_used, holds_at, holds_none, new_is, none_found, none_used, pair_used}
use Rattle.ft_merging.proofs.counting.is_new_at.Goals as goal
use Rattle.ft_merging.proofs.counting.is_new_at.Goals.{After-pair_at, After-seek_by, After-used_entries_follow_a_set}

source : (c : After-used_entries_follow_a_set) → Source (shape_of c.args.bank.now) c.args.way c.args.t c.args.table (view c.args.pass.now)
source c =
    let a = c.args in
    source_known (record { pairs = c.used_entries_follow_a_dict.ensures.first; elements = c.used_entries_follow_a_set.ensures.first }) (shape_of a.bank.now) a.t a.table (view a.pass.now) c.requires.pass.1 a.pass.now.possible c.requires.other a.way c.requires.other_way

-- what was found at the place
found : (c : After-pair_at) (used : List UsedEntry) → IsTableOf c.args.way (shape_of c.args.bank.now).texts (class_mask (class_of (table_id c.args.table))) used (0 ∷ 0 ∷ (held_unboxed c.args.t (view c.args.pass.now)).table) → length used ≡ (known_state c.args.t (view c.args.pass.now)).table.fill → (any : UsedEntry)
    → c.pair_at.result ≡ pair_in (slot_of (shape_of c.args.bank.now).texts (slice_index_or used c.args.place any))
found c used says filled any =
    let a = c.args in
    let low = c.requires.place in
    c.pair_at.ensures.pair (slot_of (shape_of a.bank.now).texts (slice_index_or used a.place any))
    (entry_used a.way (shape_of a.bank.now).texts (shape_of a.bank.now) a.table (c.requires.other.table_in a.table refl) used (held_unboxed a.t (view a.pass.now)).table says a.place any (omega (arith, low, filled)))

pub pair_at-requires-clause-table : goal.pair_at-requires-clause-table
pair_at-requires-clause-table c = c.requires.other.table_in c.args.table refl

pub pair_at-requires-clause-place : goal.pair_at-requires-clause-place
pair_at-requires-clause-place c =
    let s = source (goal.at.pair_at-requires-clause-place c).After-used_entries_follow_a_set in
    let few = s.few in
    let low = c.requires.place in
    subst (λ (z : Kind). c.args.place < rows z (class_of (table_id c.args.table))) (sym c.requires.other_way) (omega (arith, few, low))

pub returns-in_default-clause-new : goal.returns-in_default-clause-new
returns-in_default-clause-new c used says filled any =
    let a = c.args in
    let d = (goal.at.returns-in_default-clause-new c).After-pair_at in
    let e = slice_index_or used a.place any in
    let dead = none_used (shape_of a.bank.now).texts e c.pair_at.result (found d used says filled any) (none_found c.pair_at.result c.in_default.not-Some) in
    sym (ap (λ z. is_some z && not (holds (known_state a.o (view a.pass.now)).content e.key)) dead)

any_entry : UsedEntry
any_entry = record { key = Int (pos 0); serial = 0; stored = None }

pub seek_by-requires-clause-hash : goal.seek_by-requires-clause-hash
seek_by-requires-clause-hash c =
    let a = c.args in
    let at = goal.at.seek_by-requires-clause-hash c in
    let s = source at.After-used_entries_follow_a_set in
    let e = slice_index_or s.used a.place any_entry in
    let few = s.filled in
    let low = c.requires.place in
    let k = shape_of a.bank.now in
    let entry = entry_used a.way k.texts k a.table (c.requires.other.table_in a.table refl) s.used (held_unboxed a.t (view a.pass.now)).table s.table_is a.place any_entry (omega (arith, low, few)) in
    (pair_used k.texts e c.pair_at.result (found at.After-pair_at s.used s.table_is s.filled any_entry) (entry_field (slots (class_of (table_id a.table))) (held_unboxed a.t (view a.pass.now)).table a.place) entry c.in-Some.pair c.in-Some.is).2

-- the pass knows the same of the container
same : (c : After-seek_by) → known_state c.args.o (view c.seek_by.new.pass) ≡ known_state c.args.o (view c.args.pass.now)
same c = work_knows (view c.args.pass.now) (view c.seek_by.new.pass) c.args.o (loaded_then (view c.args.pass.now) (view c.pair_at.new.pass) (view c.seek_by.new.pass) c.pair_at.ensures.only c.seek_by.ensures.keeps).work

-- whether the entry has a new key, where it is known of the key
stated : (c : After-seek_by) (b : Bool) → holds (known_state c.args.o (view c.seek_by.new.pass)).content c.in-Some.pair.key ≡ b → (used : List UsedEntry) → IsTableOf c.args.way (shape_of c.args.bank.now).texts (class_mask (class_of (table_id c.args.table))) used (0 ∷ 0 ∷ (held_unboxed c.args.t (view c.args.pass.now)).table) → length used ≡ (known_state c.args.t (view c.args.pass.now)).table.fill → (any : UsedEntry)
    → c.pair_at.result ≡ pair_in (slot_of (shape_of c.args.bank.now).texts (slice_index_or used c.args.place any)) → not b ≡ (is_live (slice_index_or used c.args.place any) && not (holds (known_state c.args.o (view c.args.pass.now)).content (slice_index_or used c.args.place any).key))
stated c b has used says filled any is =
    let a = c.args in
    let k = shape_of a.bank.now in
    let low = c.requires.place in
    let e = slice_index_or used a.place any in
    let entry = entry_used a.way k.texts k a.table (c.requires.other.table_in a.table refl) used (held_unboxed a.t (view a.pass.now)).table says a.place any (omega (arith, low, filled)) in
    let p = pair_used k.texts e c.pair_at.result is (entry_field (slots (class_of (table_id a.table))) (held_unboxed a.t (view a.pass.now)).table a.place) entry c.in-Some.pair c.in-Some.is in
    new_is (known_state a.o (view a.pass.now)).content e c.in-Some.pair.key c.in-Some.pair.value b p.0 p.1 (sym (ap (λ (z : ContainerState). holds z.content c.in-Some.pair.key) (same c)) ∙ has)

pub returns-in-At-clause-new : goal.returns-in-At-clause-new
returns-in-At-clause-new c used says filled any =
    let a = c.args in
    let at = goal.at.returns-in-At-clause-new c in
    let s = c.in-At.ensures.spot in
    let e = c.seek_by.ensures in
    stated at.After-seek_by true
    (holds_at (shape_of a.bank.now) (view c.seek_by.new.pass) a.o _ c.in-Some.pair.key _ _ e.knows s.0 e.key s.2)
    used says filled any (found at.After-pair_at used says filled any)

pub returns-in-Free-clause-new : goal.returns-in-Free-clause-new
returns-in-Free-clause-new c used says filled any =
    let at = goal.at.returns-in-Free-clause-new c in
    stated at.After-seek_by false (holds_none (known_state c.args.o (view c.seek_by.new.pass)).content c.in-Some.pair.key c.in-Free.ensures.spot.3) used says filled any (found at.After-pair_at used says filled any)

pub returns-in-Bare-clause-new : goal.returns-in-Bare-clause-new
returns-in-Bare-clause-new c used says filled any =
    let at = goal.at.returns-in-Bare-clause-new c in
    stated at.After-seek_by false (holds_none (known_state c.args.o (view c.seek_by.new.pass)).content c.in-Some.pair.key c.in-Bare.ensures.spot.1) used says filled any (found at.After-pair_at used says filled any)

-- it only loads
loads : (c : After-seek_by) → OnlyLoaded (view c.args.pass.now) (view c.seek_by.new.pass)
loads c = loaded_then (view c.args.pass.now) (view c.pair_at.new.pass) (view c.seek_by.new.pass) c.pair_at.ensures.only c.seek_by.ensures.keeps

pub returns-in-At-clause-only : goal.returns-in-At-clause-only
returns-in-At-clause-only c = loads (goal.at.returns-in-At-clause-only c).After-seek_by

pub returns-in-Free-clause-only : goal.returns-in-Free-clause-only
returns-in-Free-clause-only c = loads (goal.at.returns-in-Free-clause-only c).After-seek_by

pub returns-in-Bare-clause-only : goal.returns-in-Bare-clause-only
returns-in-Bare-clause-only c = loads (goal.at.returns-in-Bare-clause-only c).After-seek_by
