use Rattle.std.proofs.Common.{◌≡◌, ◌≢◌, ℕ, suc, List, [], ◌∷◌, ◌++◌, refl, sym, ap, ◌∙◌, subst, arith}
use Rattle.ft_layout.specs.Containers.{class_mask}
use Rattle.ft_layout.specs.Tables.{hash_of}
use Rattle.ft_keys.specs.Searches.{Searched}
use Rattle.ft_keys.specs.Ways.{walk_slots}
use Rattle.ft_keys.specs.declared.search.Found.TheVariants.{Was}
use Rattle.ft_trace.specs.declared.Act.{Act}
use Rattle.ft_trace.specs.declared.Act.TheVariants.{ReadBlock}
use Rattle.ft_trace.specs.Holds.{held_unboxed, known_state}
use Rattle.ft_trace.specs.Pictures.{root_in}
use Rattle.ft_trace.specs.ContainerStates.{kind_in}
use Rattle.ft_bank.specs.Passes.{shape_of, view}
use Rattle.ft_bank.specs.TableNames.{table_id}
use Rattle.ft_search.specs.Held.{ReadsEntry}
use Rattle.ft_search.proofs.Costing.{few_before}
use Rattle.ft_search.proofs.Running.{did_trans}
use Rattle.ft_search.proofs.LoadedLooks.{looks_append, looks_did}
use Rattle.ft_search.proofs.FoundInContents.{of_way, bare_held, key_held}
use Rattle.ft_trace.specs.declared.Shape.{Shape}
use Rattle.ft_search.proofs.held.read_key.Goals as goal

pub read_in-requires-clause-table : goal.read_in-requires-clause-table
read_in-requires-clause-table c = c.in-Some.ensures.in_bank

pub returns-in-Some-clause-keeps : goal.returns-in-Some-clause-keeps
returns-in-Some-clause-keeps c =
    let r = c.read_in.ensures.looks in
    let one : List Act = ReadBlock c.args.o 0 c.read_block-root.result ∷ [] in
    let did = did_trans r.0 one c.args.pass.now c.read_block-root.new.pass c.read_in.new.pass c.read_block-root.ensures.did r.2 in
    looks_did (r.0 ++ one) c.args.pass.now c.read_in.new.pass (looks_append r.0 one r.1 tt) did

pub returns-in-Some-clause-looks : goal.returns-in-Some-clause-looks
returns-in-Some-clause-looks c =
    let r = c.read_in.ensures.looks in
    let one : List Act = ReadBlock c.args.o 0 c.read_block-root.result ∷ [] in
    (r.0 ++ one, looks_append r.0 one r.1 tt, did_trans r.0 one c.args.pass.now c.read_block-root.new.pass c.read_in.new.pass c.read_block-root.ensures.did r.2, few_before c.args.way r.0 one r.3 (λ t. refl))

pub returns-in-None-clause-looks : goal.returns-in-None-clause-looks
returns-in-None-clause-looks c = (ReadBlock c.args.o 0 c.read_block-root.result ∷ [], tt, c.read_block-root.ensures.did, λ t. omega arith)

pub returns-in-None-clause-keeps : goal.returns-in-None-clause-keeps
returns-in-None-clause-keeps c =
    looks_did (ReadBlock c.args.o 0 c.read_block-root.result ∷ []) c.args.pass.now c.read_block-root.new.pass tt c.read_block-root.ensures.did

pub returns-in-None-clause-held : goal.returns-in-None-clause-held
returns-in-None-clause-held c =
    let v = view c.args.pass.now in
    let o = c.args.o in
    let none = c.in-None.ensures.none in
    let kind_is = ap (λ (k : Shape). kind_in k.starts o) c.requires.pass.1 ∙ c.requires.way in
    bare_held c.used_entries_follow_a_dict.ensures.missing c.used_entries_follow_a_set.ensures.missing (shape_of c.args.bank.now).texts (held_unboxed o v) (known_state o v) c.requires.stands c.args.key
    c.args.way (of_way c.args.way v o c.args.pass.now.possible c.requires.locked kind_is) (sym (c.read_block-root.ensures.held c.requires.locked) ∙ none)

pub returns-in-Some-clause-held : goal.returns-in-Some-clause-held
returns-in-Some-clause-held c =
    let v = view c.args.pass.now in
    let w = view c.read_block-root.new.pass in
    let o = c.args.o in
    let k = shape_of c.args.bank.now in
    let key = c.args.key in
    let table = c.in-Some.table in
    let in_bank = c.in-Some.ensures.in_bank in
    let kind_is = ap (λ (z : Shape). kind_in z.starts o) c.requires.pass.1 ∙ c.requires.way in
    let names : root_in (held_unboxed o v) ≡ suc (table_id table) = sym (c.read_block-root.ensures.held c.requires.locked) ∙ c.in-Some.ensures.named in
    let same : held_unboxed o w ≡ held_unboxed o v = ap (held_unboxed o) c.read_block-root.ensures.did.1 in
    let found = c.read_in.result.0 in
    let s = subst (λ x. (left : List ℕ) × Searched (class_mask table.class) (0 ∷ 0 ∷ x.table) key (walk_slots c.args.way (hash_of k.texts key) (class_mask table.class)) left found
    × ((slot place : ℕ) → found ≢ Was slot place) × ReadsEntry (class_mask table.class) (0 ∷ 0 ∷ x.table) found c.read_in.result.1) same c.read_in.ensures.searched in
    key_held c.used_entries_follow_a_dict.ensures.missing c.used_entries_follow_a_set.ensures.missing k.texts (held_unboxed o v) (known_state o v) c.requires.stands key
    c.used_entries_follow_a_dict.ensures.first c.used_entries_follow_a_set.ensures.first k table in_bank names c.read_in.ensures.low s.0 found c.read_in.result.1 s.2 s.3
    c.args.way (of_way c.args.way v o c.args.pass.now.possible c.requires.locked kind_is) s.1

pub table_at-requires : goal.table_at-requires
table_at-requires c t e = c.read_block-root.ensures.table t refl e
