use Rattle.std.proofs.Common.{◌++◌, List, ℕ, Err, true, false, sym, subst, append_assoc}
use Rattle.std.specs.Fmt.{decimal}
use Rattle.std.specs.Prelude.{codes}
use Rattle.std.proofs.lemmas.Result.{err_from_is_err_and}
use Rattle.ft_script.specs.Faults.{kind_text}
use Rattle.ft_runner.specs.Transfers.{PutsPrefix, Receives}
use Rattle.ft_runner.proofs.StreamLemmas.{Receives-then, PutsText-then, PutsPrefix-longer}
use Rattle.ft_runner.proofs.errors.put_refused.Goals as goal

pub returns-in_err-put_number : goal.returns-in_err-put_number
returns-in_err-put_number g c =
    let sink = g.E.Sink in
    let a = sink.stream c.args.errors.now in
    let b = sink.stream c.put_number.new.errors in
    let r = err_from_is_err_and c.from_residual.result c.from_residual.ensures.1 in
    let line = codes "ftpy: line " ++ decimal c.args.refused.now.line ++ codes ": " in
    let kind = decimal c.args.refused.now.kind in
    let text = kind_text c.args.refused.now.kind c.args.refused.now.which in
    rw r.1 (PutsPrefix-longer a b (line ++ kind ++ codes " " ++ text) (codes "\n") true (PutsPrefix-longer a b (line ++ kind ++ codes " ") text true (PutsPrefix-longer a b (line ++ kind) (codes " ") true (PutsPrefix-longer a b line kind true (rw c.from.ensures at c.in_err-put_number.ensures)))))

pub returns-in_err-put_number-2 : goal.returns-in_err-put_number-2
returns-in_err-put_number-2 g c =
    let sink = g.E.Sink in
    let a = sink.stream c.args.errors.now in
    let b = sink.stream c.put_number.new.errors in
    let d = sink.stream c.put_number-2.new.errors in
    let r = err_from_is_err_and c.from_residual-in_err-put_number-2.result c.from_residual-in_err-put_number-2.ensures.1 in
    let line = codes "ftpy: line " ++ decimal c.args.refused.now.line ++ codes ": " in
    let kind = decimal c.args.refused.now.kind in
    let text = kind_text c.args.refused.now.kind c.args.refused.now.which in
    let part = rw c.from-2.ensures at c.in_err-put_number-2.ensures in
    let front : PutsPrefix a (line ++ kind ++ codes " ") true d = subst (λ (bytes : List ℕ). PutsPrefix a bytes true d) (sym (append_assoc line kind (codes " "))) (PutsText-then a b d line (kind ++ codes " ") (Err r.0) (rw c.from.ensures at c.in_ok-put_number.ensures) part) in
    rw r.1 (PutsPrefix-longer a d (line ++ kind ++ codes " " ++ text) (codes "\n") true (PutsPrefix-longer a d (line ++ kind ++ codes " ") text true front))

pub returns-in_err-put_all : goal.returns-in_err-put_all
returns-in_err-put_all g c =
    let sink = g.E.Sink in
    let a = sink.stream c.args.errors.now in
    let b = sink.stream c.put_number.new.errors in
    let d = sink.stream c.put_number-2.new.errors in
    let e = sink.stream c.put_all.new.sink in
    let r = err_from_is_err_and c.from_residual-in_err-put_all.result c.from_residual-in_err-put_all.ensures.1 in
    let line = codes "ftpy: line " ++ decimal c.args.refused.now.line ++ codes ": " in
    let kind = decimal c.args.refused.now.kind in
    let text = kind_text c.args.refused.now.kind c.args.refused.now.which in
    let second = rw c.from-2.ensures at c.in_ok-put_number-2.ensures in
    let front : Receives a (line ++ kind ++ codes " ") false d = subst (λ (bytes : List ℕ). Receives a bytes false d) (sym (append_assoc line kind (codes " "))) (Receives-then a b d line (kind ++ codes " ") false (rw c.from.ensures at c.in_ok-put_number.ensures) second) in
    let part = rw (c.as_bytes.ensures.value, c.text.ensures) at c.in_err-put_all.ensures in
    rw r.1 (PutsPrefix-longer a e (line ++ kind ++ codes " " ++ text) (codes "\n") true (PutsText-then a d e (line ++ kind ++ codes " ") text (Err r.0) front part))

pub returns : goal.returns
returns g c =
    let sink = g.E.Sink in
    let a = sink.stream c.args.errors.now in
    let b = sink.stream c.put_number.new.errors in
    let d = sink.stream c.put_number-2.new.errors in
    let e = sink.stream c.put_all.new.sink in
    let f = sink.stream c.put_all-2.new.sink in
    let line = codes "ftpy: line " ++ decimal c.args.refused.now.line ++ codes ": " in
    let kind = decimal c.args.refused.now.kind in
    let text = kind_text c.args.refused.now.kind c.args.refused.now.which in
    let second = rw c.from-2.ensures at c.in_ok-put_number-2.ensures in
    let front : Receives a (line ++ kind ++ codes " ") false d = subst (λ (bytes : List ℕ). Receives a bytes false d) (sym (append_assoc line kind (codes " "))) (Receives-then a b d line (kind ++ codes " ") false (rw c.from.ensures at c.in_ok-put_number.ensures) second) in
    let third = rw (c.as_bytes.ensures.value, c.text.ensures) at c.in_ok-put_all.ensures in
    PutsText-then a e f (line ++ kind ++ codes " " ++ text) (codes "\n") c.put_all-2.result (Receives-then a d e (line ++ kind ++ codes " ") text false front third) c.put_all-2.ensures
