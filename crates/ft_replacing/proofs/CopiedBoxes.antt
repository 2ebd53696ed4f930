-- A dict that has got a copy of another one, or of itself, with the boxes of its values: what its new table shares, seen from before the
-- call.
use Rattle.std.proofs.Common.{◌≡◌, ℕ, suc, Option, Some, None, refl, subst, arith}
use Rattle.ft_model.specs.Worlds.{serial_of}
use Rattle.ft_trace.specs.declared.Shape.{Shape}
use Rattle.ft_trace.specs.declared.View.{View}
use Rattle.ft_trace.specs.Addresses.{class_of}
use Rattle.ft_trace.specs.ContainerStates.{ContainerState}
use Rattle.ft_trace.specs.Holds.{held_words, known_state}
use Rattle.ft_trace.specs.Pictures.{ContainerWords, root_in}
use Rattle.ft_bank.specs.declared.table.Table.{Table}
use Rattle.ft_bank.specs.TableNames.{table_id, root_for}
use Rattle.ft_replacing.specs.Sharing.{SharesEntries, SharesPairs}

-- the tables are those that the roots name
pub copy_shares : (k : Shape) (d e next : ℕ) (from : Option Table) (new : ℕ) (v w : View) → root_in (held_words d v) ≡ root_for from → root_in (held_words e w) ≡ suc new → next ≡ serial_of (known_state e v).content → ((own : Table) → from ≡ Some own → SharesEntries k.texts next (class_of (table_id own)) (held_words d v).table (class_of new) (held_words e w).table) → SharesPairs k d e v w
copy_shares k d e next None new v w root rooted next_is shares s t has_s has_t = absurd (omega (arith, root, has_s))
copy_shares k d e next (Some own) new v w root rooted next_is shares s t has_s has_t =
    let same_s : table_id own ≡ s = omega (arith, root, has_s) in
    let same_t : new ≡ t = omega (arith, rooted, has_t) in
    subst (λ (z : ℕ × ℕ × ℕ). SharesEntries k.texts z.0 (class_of z.1) (held_words d v).table (class_of z.2) (held_words e w).table) (λ i. (next_is i, same_s i, same_t i)) (shares own refl)

-- where the pass knew the same of both dicts before
pub shares_before : (k : Shape) (d e : ℕ) (v u w : View) → held_words d u ≡ held_words d v → known_state e u ≡ known_state e v → SharesPairs k d e u w → SharesPairs k d e v w
shares_before k d e v u w words known = subst (λ (z : ContainerWords × ContainerState). (s t : ℕ) → root_in z.0 ≡ suc s → root_in (held_words e w) ≡ suc t → SharesEntries k.texts (serial_of z.1.content) (class_of s) z.0.table (class_of t) (held_words e w).table) (λ i. (words i, known i))
