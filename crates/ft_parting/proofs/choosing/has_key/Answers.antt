use Rattle.std.proofs.Common.{◌≢◌, ℕ, ◌∷◌, List, Option, Some, None, refl, sym, subst}
use Rattle.std.specs.Prelude.{All}
use Rattle.ft_layout.specs.Containers.{class_mask}
use Rattle.ft_layout.specs.Tables.{IsSetTable, UsedEntry}
use Rattle.ft_keys.specs.declared.walk.Way.TheVariants as way
use Rattle.ft_keys.specs.Searches.{Finds}
use Rattle.ft_trace.specs.Holds.{held_unboxed}
use Rattle.ft_bank.specs.declared.table.Table.{Table}
use Rattle.ft_bank.specs.Passes.{shape_of, view}
use Rattle.ft_bank.specs.Whole.{OnlyLoaded}
use Rattle.ft_bank.proofs.TableAddresses.{class_is}
use Rattle.ft_search.proofs.LoadedLooks.{looks_did}
use Rattle.ft_new_keys.specs.KeyGrowth.{KnowsKeyed}
use Rattle.ft_parting.proofs.Chosen.{found_at, missing, set_says}
use Rattle.ft_parting.proofs.choosing.has_key.Goals as goal
use Rattle.ft_parting.proofs.choosing.has_key.Goals.{After-read_by-found}

pub read_by-found-requires-clause-table : goal.read_by-found-requires-clause-table
read_by-found-requires-clause-table c = c.requires.keyed.table_in c.in-Some.table c.in-Some.is

keyed : (c : After-read_by-found) → KnowsKeyed (shape_of c.args.bank.now) c.args.t (Some c.in-Some.table) (view c.args.pass.now)
keyed c = subst (λ (z : Option Table). KnowsKeyed (shape_of c.args.bank.now) c.args.t z (view c.args.pass.now)) c.in-Some.is c.requires.keyed

only : (c : After-read_by-found) → OnlyLoaded (view c.args.pass.now) (view c.read_by-found.new.pass)
only c = let p = c.read_by-found.ensures.looks in looks_did p.0 c.args.pass.now c.read_by-found.new.pass p.1 p.2

finds : (c : After-read_by-found) → Finds (set_says (shape_of c.args.bank.now) c.args.t (view c.args.pass.now) c.requires.pass.1 c.args.pass.now.possible c.requires.set c.in-Some.table (keyed c)).0 c.args.key c.read_by-found.result.0
finds c =
    let a = c.args in
    let k = shape_of a.bank.now in
    let r = c.read_by-found.ensures in
    let table = c.in-Some.table in
    let says = set_says k a.t (view a.pass.now) c.requires.pass.1 a.pass.now.possible c.requires.set table (keyed c) in
    r.searched.1.finds way.Set k.texts says.0 (subst (λ (n : ℕ). IsSetTable k.texts (class_mask n) says.0 (0 ∷ 0 ∷ (held_unboxed a.t (view a.pass.now)).table)) (class_is table ((keyed c).table_in table refl).2) says.1) r.low refl

pub returns-in-At-clause-only : goal.returns-in-At-clause-only
returns-in-At-clause-only c = only (goal.at.returns-in-At-clause-only c).After-read_by-found

pub returns-in-At-clause-found : goal.returns-in-At-clause-found
returns-in-At-clause-found c =
    let a = c.args in
    let p = (goal.at.returns-in-At-clause-found c).After-read_by-found in
    let says = set_says (shape_of a.bank.now) a.t (view a.pass.now) c.requires.pass.1 a.pass.now.possible c.requires.set c.in-Some.table (keyed p) in
    let there = subst (Finds says.0 a.key) c.in-At.is (finds p) in
    let any : UsedEntry = record { key = a.key; serial = 0; stored = None } in
    let mine = there.1 any in
    sym (found_at _ says.0 a.key says.2 _ any there.0 mine.0 mine.1)

pub returns-in-Free-clause-only : goal.returns-in-Free-clause-only
returns-in-Free-clause-only c = only (goal.at.returns-in-Free-clause-only c).After-read_by-found

pub returns-in-Free-clause-found : goal.returns-in-Free-clause-found
returns-in-Free-clause-found c =
    let a = c.args in
    let p = (goal.at.returns-in-Free-clause-found c).After-read_by-found in
    let says = set_says (shape_of a.bank.now) a.t (view a.pass.now) c.requires.pass.1 a.pass.now.possible c.requires.set c.in-Some.table (keyed p) in
    let none = subst (Finds says.0 a.key) c.in-Free.is (finds p) in
    sym (missing _ a.key (subst (λ (l : List UsedEntry). All (λ (entry : UsedEntry). entry.key ≢ a.key) l) says.2 none))

pub returns-in-Spent-clause-only : goal.returns-in-Spent-clause-only
returns-in-Spent-clause-only c = only (goal.at.returns-in-Spent-clause-only c).After-read_by-found

pub returns-in-Spent-clause-found : goal.returns-in-Spent-clause-found
returns-in-Spent-clause-found c =
    let p = (goal.at.returns-in-Spent-clause-found c).After-read_by-found in
    absurd (subst (Finds _ c.args.key) c.in-Spent.is (finds p))
