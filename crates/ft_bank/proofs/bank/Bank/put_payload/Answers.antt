use Rattle.std.proofs.Common.{◌≡◌, ◌+◌, ◌<◌, sym, ap, subst, arith}
use Rattle.ft_trace.specs.declared.Shape.{Shape}
use Rattle.ft_trace.specs.declared.View.{View}
use Rattle.ft_trace.specs.declared.Act.TheVariants.{PutTable}
use Rattle.ft_trace.specs.Addresses.{container_count, IsTableName}
use Rattle.ft_trace.specs.Boxes.{known_box_word}
use Rattle.ft_bank.specs.Passes.{view, shape_of}
use Rattle.ft_bank.specs.TableNames.{table_id}
use Rattle.ft_bank.proofs.KnownAfterWrites.{put_by}
use Rattle.ft_bank.proofs.TableAddresses.{named}
use Rattle.ft_bank.proofs.ValuesPut.{next_low, payload_careful, payload_read_then, payload_same}
use Rattle.ft_bank.proofs.bank.Bank.put_payload.Goals as goal

pub overflow_add-next : goal.overflow_add-next
overflow_add-next c =
    let v = view c.args.pass.now in
    let o = c.args.o in
    let t = table_id c.args.t in
    let low : o < container_count v.shape = subst (λ (z : Shape). o < container_count z) (sym c.requires.pass.1) c.requires.container in
    let table : IsTableName v.shape t = subst (λ (z : Shape). IsTableName z t) (sym c.requires.pass.1) (named (shape_of c.args.self.now) c.args.t c.requires.table) in
    let possible = c.args.pass.now.possible in
    let n = next_low v o t low table possible c.requires.odd c.requires.root c.args.word c.requires.value c.requires.few in
    let s = c.requires.place.1 in
    let l = c.args.self.now.low in
    omega (arith, n, s, l)

pub put_word-requires-clause-word : goal.put_word-requires-clause-word
put_word-requires-clause-word c =
    let v = view c.args.pass.now in
    let o = c.args.o in
    let t = table_id c.args.t in
    let low : o < container_count v.shape = subst (λ (z : Shape). o < container_count z) (sym c.requires.pass.1) c.requires.container in
    let table : IsTableName v.shape t = subst (λ (z : Shape). IsTableName z t) (sym c.requires.pass.1) (named (shape_of c.args.self.now) c.args.t c.requires.table) in
    let possible = c.args.pass.now.possible in
    next_low v o t low table possible c.requires.odd c.requires.root c.args.word c.requires.value c.requires.few

pub put_word-requires-clause-care : goal.put_word-requires-clause-care
put_word-requires-clause-care c =
    let v = view c.args.pass.now in
    let o = c.args.o in
    let t = table_id c.args.t in
    let low : o < container_count v.shape = subst (λ (z : Shape). o < container_count z) (sym c.requires.pass.1) c.requires.container in
    let table : IsTableName v.shape t = subst (λ (z : Shape). IsTableName z t) (sym c.requires.pass.1) (named (shape_of c.args.self.now) c.args.t c.requires.table) in
    let possible = c.args.pass.now.possible in
    payload_careful v o t low table possible c.requires.odd c.requires.root c.args.word c.requires.value c.requires.few c.args.payload c.requires.plain

pub returns-clause-unboxed : goal.returns-clause-unboxed
returns-clause-unboxed c =
    let v = view c.args.pass.now in
    let o = c.args.o in
    let t = table_id c.args.t in
    let low : o < container_count v.shape = subst (λ (z : Shape). o < container_count z) (sym c.requires.pass.1) c.requires.container in
    let table : IsTableName v.shape t = subst (λ (z : Shape). IsTableName z t) (sym c.requires.pass.1) (named (shape_of c.args.self.now) c.args.t c.requires.table) in
    let possible = c.args.pass.now.possible in
    let w = view c.put_word.new.pass in
    let is = c.put_word.ensures.did.1 in
    let shape : w.shape ≡ v.shape = ap (λ (z : View). z.shape) is in
    payload_read_then v o t low table possible c.requires.odd c.requires.root c.args.word c.requires.value c.requires.few c.args.payload c.requires.plain w shape c.put_word.ensures.held (λ b i. ap (λ (z : View). known_box_word z.shape b i z.log) is)

pub returns-clause-same : goal.returns-clause-same
returns-clause-same c =
    let v = view c.args.pass.now in
    let o = c.args.o in
    let t = table_id c.args.t in
    let low : o < container_count v.shape = subst (λ (z : Shape). o < container_count z) (sym c.requires.pass.1) c.requires.container in
    let table : IsTableName v.shape t = subst (λ (z : Shape). IsTableName z t) (sym c.requires.pass.1) (named (shape_of c.args.self.now) c.args.t c.requires.table) in
    let possible = c.args.pass.now.possible in
    let w = view c.put_word.new.pass in
    let is = c.put_word.ensures.did.1 in
    let shape : w.shape ≡ v.shape = ap (λ (z : View). z.shape) is in
    payload_same v o t low table possible c.requires.odd c.requires.root c.args.word c.requires.value c.requires.few c.args.payload c.requires.plain w shape c.put_word.ensures.held c.put_word.ensures.moves

pub returns-clause-only : goal.returns-clause-only
returns-clause-only c = put_by (PutTable c.args.o (table_id c.args.t) (c.args.word + 1) c.args.payload) (view c.args.pass.now) (view c.put_word.new.pass) c.args.o tt c.put_word.ensures.did.1 c.put_word.ensures.keeps c.put_word.ensures.moves
