use Rattle.std.proofs.Common.{◌≡◌, ◌+◌, ◌<◌, ap, ◌∙◌, arith}
use Rattle.std.specs.Prelude.{slice_index}
use Rattle.ft_trace.specs.declared.Act.TheVariants.{ReadTable}
use Rattle.ft_trace.specs.Addresses.{class_of, size}
use Rattle.ft_trace.specs.Holds.{held_words}
use Rattle.ft_trace.specs.Pictures.{ContainerWords}
use Rattle.ft_bank.specs.Passes.{shape_of, view}
use Rattle.ft_bank.specs.TableNames.{table_id}
use Rattle.ft_bank.specs.Whole.{OnlyLoaded}
use Rattle.ft_bank.proofs.KnownAfterWrites.{loaded_by, loaded_held, loaded_then}
use Rattle.ft_table_calls.proofs.Dropped.{keeps_loads}
use Rattle.ft_new_keys.proofs.OldValues.{few_words, kind_stored, payload_stored, stored_inside}
use Rattle.ft_new_keys.proofs.fresh.read_stored.Goals as goal
use Rattle.ft_new_keys.proofs.fresh.read_stored.Goals.{After-read_table-kind, After-read_table-payload}

inside : (c : After-read_table-kind) → c.args.word + 1 < size (class_of (table_id c.args.table))
inside c =
    let r = c.requires in
    stored_inside (shape_of c.args.bank.now) c.args.o c.args.table c.args.word r.value.0 (view c.args.pass.now) r.pass.1 r.container r.locked r.table r.root r.value.1 r.value.2

first : (c : After-read_table-kind) → OnlyLoaded (view c.args.pass.now) (view c.read_table-kind.new.pass)
first c = loaded_by (ReadTable (table_id c.args.table) c.args.word c.read_table-kind.result) (view c.args.pass.now) (view c.read_table-kind.new.pass) tt c.read_table-kind.ensures.did.1

both : (c : After-read_table-payload) → OnlyLoaded (view c.args.pass.now) (view c.read_table-payload.new.pass)
both c =
    let v = view c.args.pass.now in
    let u = view c.read_table-kind.new.pass in
    let w = view c.read_table-payload.new.pass in
    loaded_then v u w (loaded_by (ReadTable (table_id c.args.table) c.args.word c.read_table-kind.result) v u tt c.read_table-kind.ensures.did.1)
    (loaded_by (ReadTable (table_id c.args.table) (c.args.word + 1) c.read_table-payload.result) u w tt c.read_table-payload.ensures.did.1)

kind_is : (c : After-read_table-payload) → c.read_table-kind.result ≡ slice_index (held_words c.args.o (view c.args.pass.now)).table c.args.word
kind_is c = c.read_table-kind.ensures.held c.args.o c.requires.container c.requires.locked c.requires.root

payload_is : (c : After-read_table-payload) → c.read_table-payload.result ≡ slice_index (held_words c.args.o (view c.args.pass.now)).table (c.args.word + 1)
payload_is c =
    let v = view c.args.pass.now in
    let u = view c.read_table-kind.new.pass in
    let l = loaded_by (ReadTable (table_id c.args.table) c.args.word c.read_table-kind.result) v u tt c.read_table-kind.ensures.did.1 in
    let same = loaded_held v u c.args.o l in
    c.read_table-payload.ensures.held c.args.o c.requires.container (l.work.pass.locks c.args.o ∙ c.requires.locked) (ap (λ (x : ContainerWords). slice_index x.block 0) same ∙ c.requires.root)
    ∙ ap (λ (x : ContainerWords). slice_index x.table (c.args.word + 1)) same

pub read_table-kind-requires-clause-word : goal.read_table-kind-requires-clause-word
read_table-kind-requires-clause-word c =
    let r = c.requires in
    let i = stored_inside (shape_of c.args.bank.now) c.args.o c.args.table c.args.word r.value.0 (view c.args.pass.now) r.pass.1 r.container r.locked r.table r.root r.value.1 r.value.2 in
    omega (arith, i)

pub overflow_add-word : goal.overflow_add-word
overflow_add-word c =
    let i = inside (goal.at.overflow_add-word c).After-read_table-kind in
    let few = few_words (shape_of c.args.bank.now) c.args.table c.requires.table in
    omega (arith, i, few)

pub read_table-payload-requires-clause-word : goal.read_table-payload-requires-clause-word
read_table-payload-requires-clause-word c = inside (goal.at.read_table-payload-requires-clause-word c).After-read_table-kind

pub returns-clause-only : goal.returns-clause-only
returns-clause-only c =
    loaded_then (view c.args.pass.now) (view c.read_table-payload.new.pass) (view c.read_value.new.pass) (both (goal.at.returns-clause-only c).After-read_table-payload) c.read_value.ensures.only

pub returns-clause-kind : goal.returns-clause-kind
returns-clause-kind c =
    let r = c.requires in
    let d = (goal.at.returns-clause-kind c).After-read_table-payload in
    c.read_value.ensures.kind
    ∙ kind_stored (shape_of c.args.bank.now) c.args.o c.args.table c.args.word r.value.0 (view c.args.pass.now) r.pass.1 r.container r.locked r.table r.root r.value.1 r.value.2 (view c.read_table-payload.new.pass) (both d) c.read_table-kind.result c.read_table-payload.result (kind_is d) (payload_is d)

pub returns-clause-payload : goal.returns-clause-payload
returns-clause-payload c =
    let r = c.requires in
    let d = (goal.at.returns-clause-payload c).After-read_table-payload in
    c.read_value.ensures.payload
    ∙ payload_stored (shape_of c.args.bank.now) c.args.o c.args.table c.args.word r.value.0 (view c.args.pass.now) r.pass.1 r.container r.locked r.table r.root r.value.1 r.value.2 (view c.read_table-payload.new.pass) (both d) c.read_table-kind.result c.read_table-payload.result (kind_is d) (payload_is d)

pub returns-clause-values : goal.returns-clause-values
returns-clause-values c =
    let v = view c.args.pass.now in
    let u = view c.read_table-payload.new.pass in
    let w = view c.read_value.new.pass in
    keeps_loads v w c.args.pass.now.possible (loaded_then v u w (both (goal.at.returns-clause-values c).After-read_table-payload) c.read_value.ensures.only)
