-- The MemoryErrors of worked scripts are the ledger's.
use Rattle.std.proofs.Common.{◌≡◌, ℕ, zero, suc, List, [], ◌∷◌, ◌++◌, take, Some, refl, sym, subst}
use Rattle.std.specs.Prelude.{slice_get}
use Rattle.std.proofs.lemmas.List.{append-nil, append_assoc}
use Rattle.std.proofs.lemmas.Option.{none-some}
use Rattle.ft_model.specs.declared.entry.Entry.{Entry}
use Rattle.ft_model.specs.declared.script.ScriptParts.{ScriptParts}
use Rattle.ft_ledger.specs.Ledgers.{HasLedgerErrors, lacked_by, lacks_after}
use Rattle.ft_ledger.specs.Rows.{sixth_key, used_again, used_again_entries}
use Rattle.ft_turns.specs.AnsweredTurns.{answered_turns}

abbrev IsRight : ScriptParts → List Entry → Entry → Type 0
IsRight script before entry = lacked_by entry.reply ≡ lacks_after script before entry

-- each of these, after those
abbrev AreRight : ScriptParts → List Entry → List Entry → Type 0
AreRight script before [] = Unit {0}
AreRight script before (entry ∷ entries) = IsRight script before entry × AreRight script (before ++ entry ∷ []) entries

right_at : (script : ScriptParts) (before entries : List Entry) → AreRight script before entries → (place : ℕ) (entry : Entry) → slice_get entries place ≡ Some entry → IsRight script (before ++ take place entries) entry
right_at script before [] right place entry at = absurd (none-some entry at)
right_at script before (first ∷ entries) right zero entry at =
    let same : first ≡ entry = cc in
    subst (λ (es : List Entry). IsRight script es entry) (sym (append-nil before)) (subst (IsRight script before) same right.0)
right_at script before (first ∷ entries) right (suc place) entry at =
    subst (λ (es : List Entry). IsRight script es entry) (append_assoc before (first ∷ []) (take place entries))
    (right_at script (before ++ first ∷ []) entries right.1 place entry at)

all_right : (script : ScriptParts) (entries : List Entry) → AreRight script [] entries → HasLedgerErrors script entries
all_right script entries right place entry at = right_at script [] entries right place entry at

pub sixth_errors : HasLedgerErrors sixth_key (answered_turns sixth_key)
sixth_errors = all_right sixth_key (answered_turns sixth_key) (refl, (refl, (refl, (refl, (refl, (refl, (refl, tt)))))))

pub used_again_errors : HasLedgerErrors used_again used_again_entries
used_again_errors =
    all_right used_again used_again_entries (refl, (refl, (refl, (refl, (refl, (refl, (refl, (refl, (refl, (refl, tt))))))))))
