use Rattle.std.proofs.Common.{◌≡◌, ℕ, ◌+◌, ◌<◌, sym, ap, ◌∙◌, subst, arith}
use Rattle.std.specs.Prelude.{slice_index}
use Rattle.ft_trace.specs.declared.Shape.{Shape}
use Rattle.ft_trace.specs.declared.View.{View}
use Rattle.ft_trace.specs.declared.Act.TheVariants.{PutTable}
use Rattle.ft_trace.specs.Addresses.{container_count, IsTableName}
use Rattle.ft_trace.specs.Acts.{view_after}
use Rattle.ft_trace.specs.Boxes.{names_box, references_held, known_box_word}
use Rattle.ft_trace.specs.Pictures.{ContainerWords}
use Rattle.ft_trace.specs.Holds.{held_words}
use Rattle.ft_bank.specs.Passes.{view, shape_of}
use Rattle.ft_bank.specs.TableNames.{table_id}
use Rattle.ft_bank.specs.WriteSteps.{IsCareful, with_table}
use Rattle.ft_bank.proofs.TableAddresses.{named}
use Rattle.ft_bank.proofs.ValuesPut.{next_low, word_low, box_first, box_second, plain_first, plain_second, value_read, value_moves, held_swapped, keeps_both, only_both}
use Rattle.ft_bank.proofs.KnownAfterWrites.{moves_then}
use Rattle.ft_bank.proofs.bank.Bank.put_value.Goals as goal

pub overflow_add-next : goal.overflow_add-next
overflow_add-next c =
    let v = view c.args.pass.now in
    let o = c.args.o in
    let t = table_id c.args.t in
    let low : o < container_count v.shape = subst (λ (z : Shape). o < container_count z) (sym c.requires.pass.1) c.requires.container in
    let table : IsTableName v.shape t = subst (λ (z : Shape). IsTableName z t) (sym c.requires.pass.1) (named (shape_of c.args.self.now) c.args.t c.requires.table) in
    let possible = c.args.pass.now.possible in
    let n = next_low v o t low table possible c.requires.odd c.requires.root c.args.word c.requires.value c.requires.few in
    let s = c.requires.place.1 in
    let l = c.args.self.now.low in
    omega (arith, n, s, l)

pub put_word-requires-clause-word : goal.put_word-requires-clause-word
put_word-requires-clause-word c =
    let v = view c.args.pass.now in
    let o = c.args.o in
    let t = table_id c.args.t in
    let low : o < container_count v.shape = subst (λ (z : Shape). o < container_count z) (sym c.requires.pass.1) c.requires.container in
    let table : IsTableName v.shape t = subst (λ (z : Shape). IsTableName z t) (sym c.requires.pass.1) (named (shape_of c.args.self.now) c.args.t c.requires.table) in
    let possible = c.args.pass.now.possible in
    next_low v o t low table possible c.requires.odd c.requires.root c.args.word c.requires.value c.requires.few

pub put_word-requires-clause-care : goal.put_word-requires-clause-care
put_word-requires-clause-care c =
    let v = view c.args.pass.now in
    let o = c.args.o in
    let t = table_id c.args.t in
    let low : o < container_count v.shape = subst (λ (z : Shape). o < container_count z) (sym c.requires.pass.1) c.requires.container in
    let table : IsTableName v.shape t = subst (λ (z : Shape). IsTableName z t) (sym c.requires.pass.1) (named (shape_of c.args.self.now) c.args.t c.requires.table) in
    let possible = c.args.pass.now.possible in
    box_first v o t low table possible c.requires.odd c.requires.root c.args.word c.requires.value c.requires.few c.args.payload (c.requires.reference c.if-kind-eq-BOX_KIND.true)

pub put_word-requires-then-kind-eq-BOX_KIND-clause-word : goal.put_word-requires-then-kind-eq-BOX_KIND-clause-word
put_word-requires-then-kind-eq-BOX_KIND-clause-word c =
    let v = view c.args.pass.now in
    let o = c.args.o in
    let t = table_id c.args.t in
    let low : o < container_count v.shape = subst (λ (z : Shape). o < container_count z) (sym c.requires.pass.1) c.requires.container in
    let table : IsTableName v.shape t = subst (λ (z : Shape). IsTableName z t) (sym c.requires.pass.1) (named (shape_of c.args.self.now) c.args.t c.requires.table) in
    let possible = c.args.pass.now.possible in
    word_low v o t low table possible c.requires.odd c.requires.root c.args.word c.requires.value c.requires.few

pub put_word-requires-then-kind-eq-BOX_KIND-clause-care : goal.put_word-requires-then-kind-eq-BOX_KIND-clause-care
put_word-requires-then-kind-eq-BOX_KIND-clause-care c =
    let v = view c.args.pass.now in
    let o = c.args.o in
    let t = table_id c.args.t in
    let low : o < container_count v.shape = subst (λ (z : Shape). o < container_count z) (sym c.requires.pass.1) c.requires.container in
    let table : IsTableName v.shape t = subst (λ (z : Shape). IsTableName z t) (sym c.requires.pass.1) (named (shape_of c.args.self.now) c.args.t c.requires.table) in
    let possible = c.args.pass.now.possible in
    let u = view_after (PutTable o t (c.args.word + 1) c.args.payload) v in
    let held = subst (λ (z : View). held_words o z ≡ with_table (held_words o v) (c.args.word + 1) c.args.payload) c.put_word.ensures.did.1 c.put_word.ensures.held in
    let four = box_second v o t low table possible c.requires.odd c.requires.root c.args.word c.requires.value c.requires.few c.args.payload (c.requires.reference c.if-kind-eq-BOX_KIND.true) held in
    subst (λ (z : View). IsCareful z o t c.args.word c.args.kind) (sym c.put_word.ensures.did.1) (subst (λ (z : ℕ). IsCareful u o t c.args.word z) (sym c.if-kind-eq-BOX_KIND.true) four)

pub put_word-requires-else-kind-eq-BOX_KIND-clause-word : goal.put_word-requires-else-kind-eq-BOX_KIND-clause-word
put_word-requires-else-kind-eq-BOX_KIND-clause-word c =
    let v = view c.args.pass.now in
    let o = c.args.o in
    let t = table_id c.args.t in
    let low : o < container_count v.shape = subst (λ (z : Shape). o < container_count z) (sym c.requires.pass.1) c.requires.container in
    let table : IsTableName v.shape t = subst (λ (z : Shape). IsTableName z t) (sym c.requires.pass.1) (named (shape_of c.args.self.now) c.args.t c.requires.table) in
    let possible = c.args.pass.now.possible in
    word_low v o t low table possible c.requires.odd c.requires.root c.args.word c.requires.value c.requires.few

pub put_word-requires-else-kind-eq-BOX_KIND-clause-care : goal.put_word-requires-else-kind-eq-BOX_KIND-clause-care
put_word-requires-else-kind-eq-BOX_KIND-clause-care c =
    let v = view c.args.pass.now in
    let o = c.args.o in
    let t = table_id c.args.t in
    let low : o < container_count v.shape = subst (λ (z : Shape). o < container_count z) (sym c.requires.pass.1) c.requires.container in
    let table : IsTableName v.shape t = subst (λ (z : Shape). IsTableName z t) (sym c.requires.pass.1) (named (shape_of c.args.self.now) c.args.t c.requires.table) in
    let possible = c.args.pass.now.possible in
    plain_first v o t low table possible c.requires.odd c.requires.root c.args.word c.requires.value c.requires.few c.args.kind c.args.payload c.if-kind-eq-BOX_KIND.false

pub put_word-requires-else-kind-eq-BOX_KIND-2-clause-word : goal.put_word-requires-else-kind-eq-BOX_KIND-2-clause-word
put_word-requires-else-kind-eq-BOX_KIND-2-clause-word c =
    let v = view c.args.pass.now in
    let o = c.args.o in
    let t = table_id c.args.t in
    let low : o < container_count v.shape = subst (λ (z : Shape). o < container_count z) (sym c.requires.pass.1) c.requires.container in
    let table : IsTableName v.shape t = subst (λ (z : Shape). IsTableName z t) (sym c.requires.pass.1) (named (shape_of c.args.self.now) c.args.t c.requires.table) in
    let possible = c.args.pass.now.possible in
    next_low v o t low table possible c.requires.odd c.requires.root c.args.word c.requires.value c.requires.few

pub put_word-requires-else-kind-eq-BOX_KIND-2-clause-care : goal.put_word-requires-else-kind-eq-BOX_KIND-2-clause-care
put_word-requires-else-kind-eq-BOX_KIND-2-clause-care c =
    let v = view c.args.pass.now in
    let o = c.args.o in
    let t = table_id c.args.t in
    let low : o < container_count v.shape = subst (λ (z : Shape). o < container_count z) (sym c.requires.pass.1) c.requires.container in
    let table : IsTableName v.shape t = subst (λ (z : Shape). IsTableName z t) (sym c.requires.pass.1) (named (shape_of c.args.self.now) c.args.t c.requires.table) in
    let possible = c.args.pass.now.possible in
    let held = subst (λ (z : View). held_words o z ≡ with_table (held_words o v) c.args.word c.args.kind) c.put_word-else-kind-eq-BOX_KIND.ensures.did.1 c.put_word-else-kind-eq-BOX_KIND.ensures.held in
    let then_ = plain_second v o t low table possible c.requires.odd c.requires.root c.args.word c.requires.value c.requires.few c.args.kind c.args.payload c.if-kind-eq-BOX_KIND.false held in
    subst (λ (z : View). IsCareful z o t (c.args.word + 1) c.args.payload) (sym c.put_word-else-kind-eq-BOX_KIND.ensures.did.1) then_

pub returns-then-kind-eq-BOX_KIND-clause-held : goal.returns-then-kind-eq-BOX_KIND-clause-held
returns-then-kind-eq-BOX_KIND-clause-held c =
    let o = c.args.o in
    let v = view c.args.pass.now in
    c.put_word-then-kind-eq-BOX_KIND.ensures.held ∙ (ap (λ (x : ContainerWords). with_table x c.args.word c.args.kind) c.put_word.ensures.held ∙ held_swapped (held_words o v) c.args.word c.args.kind c.args.payload)

pub returns-then-kind-eq-BOX_KIND-clause-unboxed : goal.returns-then-kind-eq-BOX_KIND-clause-unboxed
returns-then-kind-eq-BOX_KIND-clause-unboxed c =
    let v = view c.args.pass.now in
    let o = c.args.o in
    let t = table_id c.args.t in
    let low : o < container_count v.shape = subst (λ (z : Shape). o < container_count z) (sym c.requires.pass.1) c.requires.container in
    let table : IsTableName v.shape t = subst (λ (z : Shape). IsTableName z t) (sym c.requires.pass.1) (named (shape_of c.args.self.now) c.args.t c.requires.table) in
    let possible = c.args.pass.now.possible in
    let w = view c.put_word-then-kind-eq-BOX_KIND.new.pass in
    let all : w ≡ view_after (PutTable o t c.args.word c.args.kind) (view_after (PutTable o t (c.args.word + 1) c.args.payload) v) = c.put_word-then-kind-eq-BOX_KIND.ensures.did.1 ∙ ap (view_after (PutTable o t c.args.word c.args.kind)) c.put_word.ensures.did.1 in
    let shape : w.shape ≡ v.shape = ap (λ (z : View). z.shape) all in
    let held : held_words o w ≡ with_table (with_table (held_words o v) c.args.word c.args.kind) (c.args.word + 1) c.args.payload = c.put_word-then-kind-eq-BOX_KIND.ensures.held ∙ (ap (λ (x : ContainerWords). with_table x c.args.word c.args.kind) c.put_word.ensures.held ∙ held_swapped (held_words o v) c.args.word c.args.kind c.args.payload) in
    value_read v o t low table possible c.requires.odd c.requires.root c.args.word c.requires.value c.requires.few c.args.kind c.args.payload w shape held (λ b i. ap (λ (z : View). known_box_word z.shape b i z.log) all)

pub returns-then-kind-eq-BOX_KIND-clause-references : goal.returns-then-kind-eq-BOX_KIND-clause-references
returns-then-kind-eq-BOX_KIND-clause-references c b =
    let v = view c.args.pass.now in
    let o = c.args.o in
    let t = table_id c.args.t in
    let low : o < container_count v.shape = subst (λ (z : Shape). o < container_count z) (sym c.requires.pass.1) c.requires.container in
    let table : IsTableName v.shape t = subst (λ (z : Shape). IsTableName z t) (sym c.requires.pass.1) (named (shape_of c.args.self.now) c.args.t c.requires.table) in
    let possible = c.args.pass.now.possible in
    let w = view c.put_word-then-kind-eq-BOX_KIND.new.pass in
    let all : w ≡ view_after (PutTable o t c.args.word c.args.kind) (view_after (PutTable o t (c.args.word + 1) c.args.payload) v) = c.put_word-then-kind-eq-BOX_KIND.ensures.did.1 ∙ ap (view_after (PutTable o t c.args.word c.args.kind)) c.put_word.ensures.did.1 in
    let shape : w.shape ≡ v.shape = ap (λ (z : View). z.shape) all in
    let held : held_words o w ≡ with_table (with_table (held_words o v) c.args.word c.args.kind) (c.args.word + 1) c.args.payload = c.put_word-then-kind-eq-BOX_KIND.ensures.held ∙ (ap (λ (x : ContainerWords). with_table x c.args.word c.args.kind) c.put_word.ensures.held ∙ held_swapped (held_words o v) c.args.word c.args.kind c.args.payload) in
    let moves = moves_then o v (view c.put_word.new.pass) w c.put_word.ensures.moves c.put_word-then-kind-eq-BOX_KIND.ensures.moves in
    subst (λ (z : Shape). references_held z b w.log + names_box b c.args.kind c.args.payload ≡ references_held z b v.log + names_box b (slice_index (held_words o v).table c.args.word) (slice_index (held_words o v).table (c.args.word + 1))) c.requires.pass.1
    (value_moves v o t low table possible c.requires.odd c.requires.root c.args.word c.requires.value c.requires.few c.args.kind c.args.payload w shape held moves b)

pub returns-else-kind-eq-BOX_KIND-clause-unboxed : goal.returns-else-kind-eq-BOX_KIND-clause-unboxed
returns-else-kind-eq-BOX_KIND-clause-unboxed c =
    let v = view c.args.pass.now in
    let o = c.args.o in
    let t = table_id c.args.t in
    let low : o < container_count v.shape = subst (λ (z : Shape). o < container_count z) (sym c.requires.pass.1) c.requires.container in
    let table : IsTableName v.shape t = subst (λ (z : Shape). IsTableName z t) (sym c.requires.pass.1) (named (shape_of c.args.self.now) c.args.t c.requires.table) in
    let possible = c.args.pass.now.possible in
    let w = view c.put_word-else-kind-eq-BOX_KIND-2.new.pass in
    let all : w ≡ view_after (PutTable o t (c.args.word + 1) c.args.payload) (view_after (PutTable o t c.args.word c.args.kind) v) = c.put_word-else-kind-eq-BOX_KIND-2.ensures.did.1 ∙ ap (view_after (PutTable o t (c.args.word + 1) c.args.payload)) c.put_word-else-kind-eq-BOX_KIND.ensures.did.1 in
    let shape : w.shape ≡ v.shape = ap (λ (z : View). z.shape) all in
    let held : held_words o w ≡ with_table (with_table (held_words o v) c.args.word c.args.kind) (c.args.word + 1) c.args.payload = c.put_word-else-kind-eq-BOX_KIND-2.ensures.held ∙ ap (λ (x : ContainerWords). with_table x (c.args.word + 1) c.args.payload) c.put_word-else-kind-eq-BOX_KIND.ensures.held in
    value_read v o t low table possible c.requires.odd c.requires.root c.args.word c.requires.value c.requires.few c.args.kind c.args.payload w shape held (λ b i. ap (λ (z : View). known_box_word z.shape b i z.log) all)

pub returns-else-kind-eq-BOX_KIND-clause-references : goal.returns-else-kind-eq-BOX_KIND-clause-references
returns-else-kind-eq-BOX_KIND-clause-references c b =
    let v = view c.args.pass.now in
    let o = c.args.o in
    let t = table_id c.args.t in
    let low : o < container_count v.shape = subst (λ (z : Shape). o < container_count z) (sym c.requires.pass.1) c.requires.container in
    let table : IsTableName v.shape t = subst (λ (z : Shape). IsTableName z t) (sym c.requires.pass.1) (named (shape_of c.args.self.now) c.args.t c.requires.table) in
    let possible = c.args.pass.now.possible in
    let w = view c.put_word-else-kind-eq-BOX_KIND-2.new.pass in
    let all : w ≡ view_after (PutTable o t (c.args.word + 1) c.args.payload) (view_after (PutTable o t c.args.word c.args.kind) v) = c.put_word-else-kind-eq-BOX_KIND-2.ensures.did.1 ∙ ap (view_after (PutTable o t (c.args.word + 1) c.args.payload)) c.put_word-else-kind-eq-BOX_KIND.ensures.did.1 in
    let shape : w.shape ≡ v.shape = ap (λ (z : View). z.shape) all in
    let held : held_words o w ≡ with_table (with_table (held_words o v) c.args.word c.args.kind) (c.args.word + 1) c.args.payload = c.put_word-else-kind-eq-BOX_KIND-2.ensures.held ∙ ap (λ (x : ContainerWords). with_table x (c.args.word + 1) c.args.payload) c.put_word-else-kind-eq-BOX_KIND.ensures.held in
    let moves = moves_then o v (view c.put_word-else-kind-eq-BOX_KIND.new.pass) w c.put_word-else-kind-eq-BOX_KIND.ensures.moves c.put_word-else-kind-eq-BOX_KIND-2.ensures.moves in
    subst (λ (z : Shape). references_held z b w.log + names_box b c.args.kind c.args.payload ≡ references_held z b v.log + names_box b (slice_index (held_words o v).table c.args.word) (slice_index (held_words o v).table (c.args.word + 1))) c.requires.pass.1
    (value_moves v o t low table possible c.requires.odd c.requires.root c.args.word c.requires.value c.requires.few c.args.kind c.args.payload w shape held moves b)

pub returns-then-kind-eq-BOX_KIND-clause-only : goal.returns-then-kind-eq-BOX_KIND-clause-only
returns-then-kind-eq-BOX_KIND-clause-only c = only_both c.args.o (table_id c.args.t) (c.args.word + 1) c.args.payload c.args.word c.args.kind (view c.args.pass.now) (view c.put_word.new.pass) (view c.put_word-then-kind-eq-BOX_KIND.new.pass) c.put_word.ensures.did.1 c.put_word.ensures.keeps c.put_word.ensures.moves c.put_word-then-kind-eq-BOX_KIND.ensures.did.1 c.put_word-then-kind-eq-BOX_KIND.ensures.keeps c.put_word-then-kind-eq-BOX_KIND.ensures.moves

pub returns-then-kind-eq-BOX_KIND-clause-keeps : goal.returns-then-kind-eq-BOX_KIND-clause-keeps
returns-then-kind-eq-BOX_KIND-clause-keeps c = keeps_both c.args.o (table_id c.args.t) (c.args.word + 1) c.args.payload (view c.args.pass.now) (view c.put_word.new.pass) (view c.put_word-then-kind-eq-BOX_KIND.new.pass) c.put_word.ensures.did.1 c.put_word.ensures.keeps c.put_word-then-kind-eq-BOX_KIND.ensures.keeps

pub returns-else-kind-eq-BOX_KIND-clause-only : goal.returns-else-kind-eq-BOX_KIND-clause-only
returns-else-kind-eq-BOX_KIND-clause-only c = only_both c.args.o (table_id c.args.t) c.args.word c.args.kind (c.args.word + 1) c.args.payload (view c.args.pass.now) (view c.put_word-else-kind-eq-BOX_KIND.new.pass) (view c.put_word-else-kind-eq-BOX_KIND-2.new.pass) c.put_word-else-kind-eq-BOX_KIND.ensures.did.1 c.put_word-else-kind-eq-BOX_KIND.ensures.keeps c.put_word-else-kind-eq-BOX_KIND.ensures.moves c.put_word-else-kind-eq-BOX_KIND-2.ensures.did.1 c.put_word-else-kind-eq-BOX_KIND-2.ensures.keeps c.put_word-else-kind-eq-BOX_KIND-2.ensures.moves

pub returns-else-kind-eq-BOX_KIND-clause-keeps : goal.returns-else-kind-eq-BOX_KIND-clause-keeps
returns-else-kind-eq-BOX_KIND-clause-keeps c = keeps_both c.args.o (table_id c.args.t) c.args.word c.args.kind (view c.args.pass.now) (view c.put_word-else-kind-eq-BOX_KIND.new.pass) (view c.put_word-else-kind-eq-BOX_KIND-2.new.pass) c.put_word-else-kind-eq-BOX_KIND.ensures.did.1 c.put_word-else-kind-eq-BOX_KIND.ensures.keeps c.put_word-else-kind-eq-BOX_KIND-2.ensures.keeps
