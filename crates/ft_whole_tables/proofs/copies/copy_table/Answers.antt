use Rattle.std.proofs.Common.{◌≡◌, ℕ, length, sym, subst}
use Rattle.std.specs.Prelude.{Result, Ok}
use Rattle.std.specs.declared.alloc.AllocError.{AllocError}
use Rattle.std.proofs.lemmas.Result.{err_from_is_err_and}
use Rattle.ft_keys.specs.declared.walk.Way.{Way}
use Rattle.ft_model.specs.declared.reply.Reply.{Reply}
use Rattle.ft_model.specs.declared.reply.Reply.TheVariants as reply
use Rattle.ft_bank.specs.declared.bank.Bank.{Bank}
use Rattle.ft_bank.specs.declared.table.Table.{Table}
use Rattle.ft_bank.specs.declared.pass.Pass.{Pass}
use Rattle.ft_bank.specs.Passes.{shape_of}
use Rattle.ft_bank.specs.TableNames.{table_id}
use Rattle.ft_reads.specs.Reads.{Reads}
use Rattle.ft_whole_tables.specs.Items.{reply_of_used, IsAllOf}
use Rattle.ft_whole_tables.specs.TableEntries.{OfUsed, live_key, plain_pair}
use Rattle.ft_whole_tables.proofs.Copied.{said_copied, said_failed}
use Rattle.ft_whole_tables.proofs.copies.copy_table.Goals as goal

-- what the words show then of a container that is searched this way
abbrev Shows : Bank → ℕ → Table → ℕ → Pass → Pass → Result Reply AllocError → Way → Type 0
Shows bank c table fill p q result way =
    Reads (shape_of bank) c (OfUsed (shape_of bank) (table_id table) (λ used. fill ≡ length used → IsAllOf result (reply_of_used way used))) p q

pub returns-in_ok-pairs-in-Dict-clause-reads : goal.returns-in_ok-pairs-in-Dict-clause-reads
returns-in_ok-pairs-in-Dict-clause-reads c =
    let a = c.args in
    let z = c.copy_values in
    subst (Shows a.bank.now a.c a.table a.fill a.pass.now z.new.pass (Ok (reply.Dict c.from_vec.result))) (sym c.in-Dict.is)
    (said_copied reply.Dict (λ xs some. some) plain_pair (shape_of a.bank.now) a.c (table_id a.table) a.fill z.result a.pass.now z.new.pass z.ensures.reads c.in_ok-pairs-in-Dict.pairs c.in_ok-pairs-in-Dict.was c.from_vec.result c.from_vec.ensures)

pub returns-in_err-pairs-in-Dict-clause-reads : goal.returns-in_err-pairs-in-Dict-clause-reads
returns-in_err-pairs-in-Dict-clause-reads c =
    let a = c.args in
    let z = c.copy_values in
    let failed = err_from_is_err_and c.from_residual.result c.from_residual.ensures.1 in
    subst (Shows a.bank.now a.c a.table a.fill a.pass.now z.new.pass c.from_residual.result) (sym c.in-Dict.is)
    (said_failed reply.Dict (λ xs some. some) plain_pair (shape_of a.bank.now) a.c (table_id a.table) a.fill z.result a.pass.now z.new.pass z.ensures.reads c.in_err-pairs-in-Dict.field-0.0 c.in_err-pairs-in-Dict.was c.from_residual.result failed.0 failed.1)

pub returns-in_ok-keys-in-Set-clause-reads : goal.returns-in_ok-keys-in-Set-clause-reads
returns-in_ok-keys-in-Set-clause-reads c =
    let a = c.args in
    let z = c.copy_keys in
    subst (Shows a.bank.now a.c a.table a.fill a.pass.now z.new.pass (Ok (reply.Set c.from_vec-in-Set.result))) (sym c.in-Set.is)
    (said_copied reply.Set (λ xs some. some) live_key (shape_of a.bank.now) a.c (table_id a.table) a.fill z.result a.pass.now z.new.pass z.ensures.reads c.in_ok-keys-in-Set.keys c.in_ok-keys-in-Set.was c.from_vec-in-Set.result c.from_vec-in-Set.ensures)

pub returns-in_err-keys-in-Set-clause-reads : goal.returns-in_err-keys-in-Set-clause-reads
returns-in_err-keys-in-Set-clause-reads c =
    let a = c.args in
    let z = c.copy_keys in
    let failed = err_from_is_err_and c.from_residual-in_err-keys-in-Set.result c.from_residual-in_err-keys-in-Set.ensures.1 in
    subst (Shows a.bank.now a.c a.table a.fill a.pass.now z.new.pass c.from_residual-in_err-keys-in-Set.result) (sym c.in-Set.is)
    (said_failed reply.Set (λ xs some. some) live_key (shape_of a.bank.now) a.c (table_id a.table) a.fill z.result a.pass.now z.new.pass z.ensures.reads c.in_err-keys-in-Set.field-0.0 c.in_err-keys-in-Set.was c.from_residual-in_err-keys-in-Set.result failed.0 failed.1)
