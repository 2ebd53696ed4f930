use Rattle.std.proofs.Common.{◌≡◌, ◌<◌, ◌≤◌, ℕ, suc, true, List, [], ◌∷◌, ◌++◌, refl, sym, ap, ◌∙◌, subst}
use Rattle.std.specs.Prelude.{slice_index}
use Rattle.ft_layout.specs.Containers.{class_mask}
use Rattle.ft_layout.specs.Tables.{dict_room}
use Rattle.ft_trace.specs.declared.Act.{Act}
use Rattle.ft_trace.specs.declared.Act.TheVariants.{ReadBlock}
use Rattle.ft_trace.specs.declared.Shape.{Shape}
use Rattle.ft_trace.specs.declared.View.{View}
use Rattle.ft_trace.specs.Acts.{has_lock}
use Rattle.ft_trace.specs.Addresses.{class_of, container_count}
use Rattle.ft_trace.specs.Holds.{held_unboxed, held_words, known_state}
use Rattle.ft_trace.specs.Kinds.{IsKeyed, rows}
use Rattle.ft_trace.specs.Pictures.{ContainerWords, root_in}
use Rattle.ft_trace.specs.ContainerStates.{kind_in}
use Rattle.ft_bank.specs.Passes.{shape_of, view}
use Rattle.ft_bank.specs.TableNames.{table_id}
use Rattle.ft_search.proofs.Changing.{kind_is}
use Rattle.ft_search.proofs.Running.{did_trans}
use Rattle.ft_search.proofs.LoadedLooks.{looks_append, looks_did}
use Rattle.ft_iter.specs.Seeking.{GivesPair}
use Rattle.ft_iter.proofs.NextContents.{keyed-known, fill-low, fill-rows, next-held, bare-next}
use Rattle.ft_iter.proofs.held.next_of.Goals as goal

pub seek_in-requires-clause-table : goal.seek_in-requires-clause-table
seek_in-requires-clause-table c = c.in-Some.ensures.in_bank (shape_of c.args.bank.now) (λ t e. c.read_block-root.ensures.table t refl e)

pub seek_in-requires-clause-fill : goal.seek_in-requires-clause-fill
seek_in-requires-clause-fill c =
    let v = view c.args.pass.now in
    let o = c.args.o in
    let k = shape_of c.args.bank.now in
    let keyed = keyed-known v o c.args.pass.now.possible c.requires.locked (subst (λ (z : Shape). IsKeyed (kind_in z.starts o)) (sym c.requires.pass.1) c.requires.keyed) in
    let table = c.in-Some.table in
    let in_bank = c.in-Some.ensures.in_bank k (λ t e. c.read_block-root.ensures.table t refl e) in
    let names : root_in (held_unboxed o v) ≡ suc (table_id table) = sym (c.read_block-root.ensures.held c.requires.locked) ∙ c.in-Some.ensures.named in
    let w = view c.read_block-root.new.pass in
    let same : held_words o w ≡ held_words o v = ap (held_words o) c.read_block-root.ensures.did.1 in
    let locked : has_lock o w.log ≡ true = ap (λ (z : View). has_lock o z.log) c.read_block-root.ensures.did.1 ∙ c.requires.locked in
    let filled : c.read_block-fill.result ≡ slice_index (held_unboxed o v).block 2 = c.read_block-fill.ensures.held locked ∙ ap (λ (x : ContainerWords). slice_index x.block 2) same in
    subst (λ (z : ℕ). z ≤ dict_room (class_mask table.class)) (sym filled) (fill-low k.texts (held_unboxed o v) (known_state o v) c.requires.stands k table in_bank names keyed)

pub seek_in-requires-clause-few : goal.seek_in-requires-clause-few
seek_in-requires-clause-few c =
    let v = view c.args.pass.now in
    let o = c.args.o in
    let k = shape_of c.args.bank.now in
    let keyed = keyed-known v o c.args.pass.now.possible c.requires.locked (subst (λ (z : Shape). IsKeyed (kind_in z.starts o)) (sym c.requires.pass.1) c.requires.keyed) in
    let table = c.in-Some.table in
    let in_bank = c.in-Some.ensures.in_bank k (λ t e. c.read_block-root.ensures.table t refl e) in
    let names : root_in (held_unboxed o v) ≡ suc (table_id table) = sym (c.read_block-root.ensures.held c.requires.locked) ∙ c.in-Some.ensures.named in
    let w = view c.read_block-root.new.pass in
    let same : held_words o w ≡ held_words o v = ap (held_words o) c.read_block-root.ensures.did.1 in
    let locked : has_lock o w.log ≡ true = ap (λ (z : View). has_lock o z.log) c.read_block-root.ensures.did.1 ∙ c.requires.locked in
    let filled : c.read_block-fill.result ≡ slice_index (held_unboxed o v).block 2 = c.read_block-fill.ensures.held locked ∙ ap (λ (x : ContainerWords). slice_index x.block 2) same in
    let kind = kind_is k v o c.requires.pass.1 c.args.pass.now.possible c.requires.locked in
    subst (λ (z : ℕ). z ≤ rows (kind_in k.starts o) (class_of (table_id table))) (sym filled) (fill-rows k.texts (held_unboxed o v) (known_state o v) c.requires.stands k table in_bank names (kind_in k.starts o) kind keyed)

pub returns-in-Some-clause-keeps : goal.returns-in-Some-clause-keeps
returns-in-Some-clause-keeps c =
    let v = view c.args.pass.now in
    let r = c.seek_in.ensures.looks in
    let root : List Act = ReadBlock c.args.o 0 c.read_block-root.result ∷ [] in
    let fill : List Act = ReadBlock c.args.o 2 c.read_block-fill.result ∷ [] in
    let both = did_trans fill root c.args.pass.now c.read_block-root.new.pass c.read_block-fill.new.pass c.read_block-root.ensures.did c.read_block-fill.ensures.did in
    let did = did_trans r.0 (fill ++ root) c.args.pass.now c.read_block-fill.new.pass c.seek_in.new.pass both r.2 in
    looks_did (r.0 ++ (fill ++ root)) c.args.pass.now c.seek_in.new.pass (looks_append r.0 (fill ++ root) r.1 tt) did

pub returns-in-Some-clause-looks : goal.returns-in-Some-clause-looks
returns-in-Some-clause-looks c =
    let r = c.seek_in.ensures.looks in
    let root : List Act = ReadBlock c.args.o 0 c.read_block-root.result ∷ [] in
    let fill : List Act = ReadBlock c.args.o 2 c.read_block-fill.result ∷ [] in
    let both = did_trans fill root c.args.pass.now c.read_block-root.new.pass c.read_block-fill.new.pass c.read_block-root.ensures.did c.read_block-fill.ensures.did in
    (r.0 ++ (fill ++ root), looks_append r.0 (fill ++ root) r.1 tt, did_trans r.0 (fill ++ root) c.args.pass.now c.read_block-fill.new.pass c.seek_in.new.pass both r.2)

pub returns-in-Some-clause-next : goal.returns-in-Some-clause-next
returns-in-Some-clause-next c =
    let v = view c.args.pass.now in
    let o = c.args.o in
    let k = shape_of c.args.bank.now in
    let keyed = keyed-known v o c.args.pass.now.possible c.requires.locked (subst (λ (z : Shape). IsKeyed (kind_in z.starts o)) (sym c.requires.pass.1) c.requires.keyed) in
    let table = c.in-Some.table in
    let in_bank = c.in-Some.ensures.in_bank k (λ t e. c.read_block-root.ensures.table t refl e) in
    let names : root_in (held_unboxed o v) ≡ suc (table_id table) = sym (c.read_block-root.ensures.held c.requires.locked) ∙ c.in-Some.ensures.named in
    let w = view c.read_block-root.new.pass in
    let same : held_words o w ≡ held_words o v = ap (held_words o) c.read_block-root.ensures.did.1 in
    let locked : has_lock o w.log ≡ true = ap (λ (z : View). has_lock o z.log) c.read_block-root.ensures.did.1 ∙ c.requires.locked in
    let filled : c.read_block-fill.result ≡ slice_index (held_unboxed o v).block 2 = c.read_block-fill.ensures.held locked ∙ ap (λ (x : ContainerWords). slice_index x.block 2) same in
    let last = c.args.after in
    let given = c.seek_in.result in
    let root : List Act = ReadBlock o 0 c.read_block-root.result ∷ [] in
    let fill : List Act = ReadBlock o 2 c.read_block-fill.result ∷ [] in
    let both = did_trans fill root c.args.pass.now c.read_block-root.new.pass c.read_block-fill.new.pass c.read_block-root.ensures.did c.read_block-fill.ensures.did in
    let loaded = looks_did (fill ++ root) c.args.pass.now c.read_block-fill.new.pass tt both in
    let here = subst (λ (z : Shape). o < container_count z) (sym c.requires.pass.1) c.requires.container in
    let now : held_unboxed o (view c.read_block-fill.new.pass) ≡ held_unboxed o v = loaded.unboxed o here c.requires.locked in
    let gives = subst (λ (x : ContainerWords). GivesPair (class_mask table.class) (0 ∷ 0 ∷ x.table) c.read_block-fill.result last given) now c.seek_in.ensures.gives in
    next-held k.texts (held_unboxed o v) (known_state o v) c.requires.stands k table in_bank names last given keyed
    (subst (λ (z : ℕ). GivesPair (class_mask table.class) (0 ∷ 0 ∷ (held_unboxed o v).table) z last given) filled gives)

pub returns-in-None-clause-keeps : goal.returns-in-None-clause-keeps
returns-in-None-clause-keeps c =
    let root : List Act = ReadBlock c.args.o 0 c.read_block-root.result ∷ [] in
    let fill : List Act = ReadBlock c.args.o 2 c.read_block-fill.result ∷ [] in
    let both = did_trans fill root c.args.pass.now c.read_block-root.new.pass c.read_block-fill.new.pass c.read_block-root.ensures.did c.read_block-fill.ensures.did in
    looks_did (fill ++ root) c.args.pass.now c.read_block-fill.new.pass tt both

pub returns-in-None-clause-looks : goal.returns-in-None-clause-looks
returns-in-None-clause-looks c =
    let root : List Act = ReadBlock c.args.o 0 c.read_block-root.result ∷ [] in
    let fill : List Act = ReadBlock c.args.o 2 c.read_block-fill.result ∷ [] in
    let both = did_trans fill root c.args.pass.now c.read_block-root.new.pass c.read_block-fill.new.pass c.read_block-root.ensures.did c.read_block-fill.ensures.did in
    (fill ++ root, tt, both)

pub returns-in-None-clause-next : goal.returns-in-None-clause-next
returns-in-None-clause-next c =
    let v = view c.args.pass.now in
    let o = c.args.o in
    let k = shape_of c.args.bank.now in
    let keyed = keyed-known v o c.args.pass.now.possible c.requires.locked (subst (λ (z : Shape). IsKeyed (kind_in z.starts o)) (sym c.requires.pass.1) c.requires.keyed) in
    let none = c.in-None.ensures.none k (λ t e. c.read_block-root.ensures.table t refl e) in
    bare-next k.texts (held_unboxed o v) (known_state o v) c.requires.stands c.args.after keyed (sym (c.read_block-root.ensures.held c.requires.locked) ∙ none)
