-- The laws of delayed reuse, from those of traces.
use Rattle.std.proofs.Common.{ℕ, ap, ◌∙◌, arith}
use Rattle.ft_trace.specs.declared.View.{View}
use Rattle.ft_trace.specs.Acts.{clear}
use Rattle.ft_trace.specs.Ages.{all_acts}
use Rattle.ft_trace.proofs.TablePlaces.{placed}
use Rattle.ft_trace.proofs.FoundTables.{linked}
use Rattle.ft_trace.proofs.Rule as rule
use Rattle.ft_qsbr.specs.ReuseLaws.{FoundAreKept, ClearedAreNotRead}

pub found_kept : (v : View) → FoundAreKept v
found_kept v t table read es id knows = (rule.found_tables_are_kept v.shape es knows.0 t table id v knows.1).0 read

pub cleared_unread : (v : View) → ClearedAreNotRead v
cleared_unread v t p table retired is_clear es id knows j u has number read =
    let k = v.shape in
    let its = placed k es knows.0 t table in
    let age = (its.hands id v knows.1 (λ z. absurd (omega (arith, retired, z)))).0 in
    let all = (linked k es knows.0 t table id v knows.1).clear_is retired p is_clear in
    (rule.found_tables_are_kept k es knows.0 t table j u has).2 (age ∙ retired) (ap (λ (z : ℕ). clear t z (all_acts es)) number ∙ all) read
