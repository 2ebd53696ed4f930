use Rattle.std.proofs.Common.{◌≡◌, ℕ, List, None, refl, sym, subst}
use Rattle.std.specs.Prelude.{slice_index}
use Rattle.ft_layout.specs.declared.slot.Slot.TheVariants.{Live}
use Rattle.ft_layout.specs.Words.{IsEntry}
use Rattle.ft_layout.proofs.WordLaws.{entry_unread, entry_stores, entry_written}
use Rattle.ft_layout.proofs.entry.entry_of.Goals as goal

pub returns-in_err-value-clause-says : goal.returns-in_err-value-clause-says
returns-in_err-value-clause-says c =
    entry_unread (slice_index c.args.words.now) c.from_residual.result c.from_residual.ensures (λ slot is.
    let stored = entry_stores (slice_index c.args.words.now) slot is in
    let found = (c.stored_of.ensures stored.0).0 stored.1 in
    let none : c.stored_of.result ≡ None = c.in_err-value.was in
    cc)

pub returns-clause-reads_back : goal.returns-clause-reads_back
returns-clause-reads_back c =
    λ pair fits is.
    let word = slice_index c.args.words.now in
    let stored = (c.stored_of.ensures c.in_ok-value.value).1 c.in_ok-value.was in
    let says : IsEntry word (Live pair) = subst (λ (ws : List ℕ). IsEntry (slice_index ws) (Live pair)) (sym is) (entry_written pair fits) in
    (c.slot_of.ensures word (record { hash_is = refl; kind_is = refl; payload_is = refl; stored_is = stored; serial_is = refl }) (Live pair)).0 says
