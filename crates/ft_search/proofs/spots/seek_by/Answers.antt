use Rattle.std.proofs.Common.{◌≡◌, ◌≢◌, ℕ, suc, List, [], ◌∷◌, ◌++◌, refl, sym, ap, ◌∙◌, subst, arith}
use Rattle.ft_layout.specs.Containers.{class_mask}
use Rattle.ft_layout.specs.Tables.{hash_of}
use Rattle.ft_keys.specs.Searches.{Searched}
use Rattle.ft_keys.specs.Ways.{walk_slots}
use Rattle.ft_keys.specs.declared.search.Found.TheVariants.{Was}
use Rattle.ft_trace.specs.declared.Act.{Act}
use Rattle.ft_trace.specs.declared.Act.TheVariants.{ReadBlock}
use Rattle.ft_trace.specs.declared.Shape.{Shape}
use Rattle.ft_trace.specs.declared.View.{View}
use Rattle.ft_trace.specs.Acts.{has_lock}
use Rattle.ft_trace.specs.Holds.{held_unboxed, known_state}
use Rattle.ft_trace.specs.Pictures.{ContainerWords, root_in}
use Rattle.ft_trace.specs.ContainerStates.{kind_in}
use Rattle.ft_bank.specs.Passes.{shape_of, view}
use Rattle.ft_bank.specs.Series.{DidAll}
use Rattle.ft_bank.specs.TableNames.{table_id}
use Rattle.ft_bank.specs.Whole.{OnlyLoaded}
use Rattle.ft_search.specs.declared.spots.Spot.{Spot}
use Rattle.ft_search.specs.declared.spots.Spot.TheVariants as spot
use Rattle.ft_search.specs.SearchCosts.{AreFewReads}
use Rattle.ft_search.specs.Held.{ReadsEntry}
use Rattle.ft_search.specs.KeyLooks.{AreLooks}
use Rattle.ft_search.specs.Spots.{IsSpot}
use Rattle.ft_search.proofs.Costing.{few_before}
use Rattle.ft_search.proofs.FoundInContents.{bare_held, of_way}
use Rattle.ft_search.proofs.LoadedLooks.{looks_append, looks_did}
use Rattle.ft_search.proofs.Running.{did_trans, did_log}
use Rattle.ft_search.proofs.Spotting.{spot_is, knows_loaded, spot_loaded}
use Rattle.ft_search.proofs.spots.seek_by.Goals as goal
use Rattle.ft_search.proofs.spots.seek_by.Goals.{After-read_by-found, In-None}

-- ---- where there is a table

part : (c : After-read_by-found) → (l : List Act) × AreLooks l × DidAll l c.args.pass.now c.read_by-found.new.pass × AreFewReads c.args.way l
part c =
    let r = c.read_by-found.ensures.looks in
    let one : List Act = ReadBlock c.args.o 0 c.read_block-root.result ∷ [] in
    (r.0 ++ one, looks_append r.0 one r.1 tt, did_trans r.0 one c.args.pass.now c.read_block-root.new.pass c.read_by-found.new.pass c.read_block-root.ensures.did r.2, few_before c.args.way r.0 one r.3 (λ t. refl))

only : (c : After-read_by-found) → OnlyLoaded (view c.args.pass.now) (view c.read_by-found.new.pass)
only c = let p = part c in looks_did p.0 c.args.pass.now c.read_by-found.new.pass p.1 p.2

pub returns-in-Some-clause-stack : goal.returns-in-Some-clause-stack
returns-in-Some-clause-stack c = (part (goal.at.returns-in-Some-clause-stack c).After-read_by-found).2.2

pub returns-in-Some-clause-knows : goal.returns-in-Some-clause-knows
returns-in-Some-clause-knows c = knows_loaded (shape_of c.args.bank.now) c.args.o (view c.args.pass.now) (view c.read_by-found.new.pass) c.requires.pass.1 (only (goal.at.returns-in-Some-clause-knows c).After-read_by-found) c.requires.knows

pub returns-in-Some-clause-keeps : goal.returns-in-Some-clause-keeps
returns-in-Some-clause-keeps c = only (goal.at.returns-in-Some-clause-keeps c).After-read_by-found

pub returns-in-Some-clause-loads : goal.returns-in-Some-clause-loads
returns-in-Some-clause-loads c = let p = part (goal.at.returns-in-Some-clause-loads c).After-read_by-found in (p.0, did_log p.0 c.args.pass.now c.read_by-found.new.pass p.2, p.3)

pub returns-in-Some-clause-spot : goal.returns-in-Some-clause-spot
returns-in-Some-clause-spot c =
    let v = view c.args.pass.now in
    let w = view c.read_block-root.new.pass in
    let o = c.args.o in
    let k = shape_of c.args.bank.now in
    let key = c.args.key in
    let table = c.in-Some.table in
    let in_bank = c.in-Some.ensures.in_bank in
    let kind_is = ap (λ (z : Shape). kind_in z.starts o) c.requires.pass.1 ∙ c.requires.way in
    let names : root_in (held_unboxed o v) ≡ suc (table_id table) = sym (c.read_block-root.ensures.held c.requires.knows.locked) ∙ c.in-Some.ensures.named in
    let same : held_unboxed o w ≡ held_unboxed o v = ap (held_unboxed o) c.read_block-root.ensures.did.1 in
    let found = c.read_by-found.result.0 in
    let read = c.read_by-found.result.1 in
    let s = subst (λ (x : ContainerWords). (left : List ℕ) × Searched (class_mask table.class) (0 ∷ 0 ∷ x.table) key (walk_slots c.args.way (hash_of k.texts key) (class_mask table.class)) left found
    × ((slot place : ℕ) → found ≢ Was slot place) × ReadsEntry (class_mask table.class) (0 ∷ 0 ∷ x.table) found read) same c.read_by-found.ensures.searched in
    let spot_now = spot_is c.used_entries_follow_a_dict.ensures.missing c.used_entries_follow_a_set.ensures.missing c.used_entries_follow_a_dict.ensures.first c.used_entries_follow_a_set.ensures.first c.searches_end_at_the_first_free_slot.ensures k o key v c.args.way table in_bank names c.requires.knows.stands
    (of_way c.args.way v o c.args.pass.now.possible c.requires.knows.locked kind_is) c.requires.way c.key_fits.ensures c.read_by-found.ensures.low s.0 found read c.read_by-found.ensures.within s.2 s.3 s.1 in
    subst (λ (z : Spot). IsSpot k o c.args.way key (view c.read_by-found.new.pass) z) (sym c.spot_of.ensures)
    (spot_loaded k o v (view c.read_by-found.new.pass) c.requires.pass.1 (only (goal.at.returns-in-Some-clause-spot c).After-read_by-found) c.requires.knows c.args.way key _ spot_now)

-- ---- where there is none

bare_only : (c : In-None) → OnlyLoaded (view c.args.pass.now) (view c.read_block-root.new.pass)
bare_only c = looks_did (ReadBlock c.args.o 0 c.read_block-root.result ∷ []) c.args.pass.now c.read_block-root.new.pass tt c.read_block-root.ensures.did

pub returns-in-None-clause-knows : goal.returns-in-None-clause-knows
returns-in-None-clause-knows c = knows_loaded (shape_of c.args.bank.now) c.args.o (view c.args.pass.now) (view c.read_block-root.new.pass) c.requires.pass.1 (bare_only (goal.at.returns-in-None-clause-knows c).In-None) c.requires.knows

pub returns-in-None-clause-keeps : goal.returns-in-None-clause-keeps
returns-in-None-clause-keeps c = bare_only (goal.at.returns-in-None-clause-keeps c).In-None

pub returns-in-None-clause-loads : goal.returns-in-None-clause-loads
returns-in-None-clause-loads c =
    let one : List Act = ReadBlock c.args.o 0 c.read_block-root.result ∷ [] in
    (one, did_log one c.args.pass.now c.read_block-root.new.pass c.read_block-root.ensures.did, λ t. omega arith)

pub returns-in-None-clause-spot : goal.returns-in-None-clause-spot
returns-in-None-clause-spot c =
    let v = view c.args.pass.now in
    let o = c.args.o in
    let k = shape_of c.args.bank.now in
    let none = c.in-None.ensures.none in
    let kind_is = ap (λ (z : Shape). kind_in z.starts o) c.requires.pass.1 ∙ c.requires.way in
    let root : root_in (held_unboxed o v) ≡ 0 = sym (c.read_block-root.ensures.held c.requires.knows.locked) ∙ none in
    let held_none = bare_held c.used_entries_follow_a_dict.ensures.missing c.used_entries_follow_a_set.ensures.missing k.texts (held_unboxed o v) (known_state o v) c.requires.knows.stands c.args.key c.args.way (of_way c.args.way v o c.args.pass.now.possible c.requires.knows.locked kind_is) root in
    spot_loaded k o v (view c.read_block-root.new.pass) c.requires.pass.1 (bare_only (goal.at.returns-in-None-clause-spot c).In-None) c.requires.knows c.args.way c.args.key spot.Bare (root, held_none)

pub read_by-found-requires-clause-table : goal.read_by-found-requires-clause-table
read_by-found-requires-clause-table c = c.in-Some.ensures.in_bank

pub read_by-found-requires-clause-knows : goal.read_by-found-requires-clause-knows
read_by-found-requires-clause-knows c =
    let o = c.args.o in
    let v = view c.args.pass.now in
    let d = c.read_block-root.ensures.did in (
      ap (λ (z : View). has_lock o z.log) d.1 ∙ c.requires.knows.locked,
      ap (λ (z : View). root_in (held_unboxed o z)) d.1 ∙ (sym (c.read_block-root.ensures.held c.requires.knows.locked) ∙ c.in-Some.ensures.named),
    )

pub table_at-requires : goal.table_at-requires
table_at-requires c t e = c.read_block-root.ensures.table t refl e
