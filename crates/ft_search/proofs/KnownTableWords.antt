-- The words of a table that a pass knows, as searches count them.
use Rattle.std.proofs.Common.{◌≡◌, ℕ, suc, ◌+◌, ◌*◌, List, ◌∷◌, refl, sym, ap, ◌∙◌, subst, arith}
use Rattle.std.specs.Prelude.{slice_index, slice_set}
use Rattle.ft_layout.specs.Tables.{entry_at}
use Rattle.ft_trace.specs.declared.View.{View}
use Rattle.ft_trace.specs.declared.Act.TheVariants.{ReadTable, PutTable}
use Rattle.ft_trace.specs.Acts.{has_lock, view_after}
use Rattle.ft_trace.specs.Pictures.{ContainerWords, root_in}
use Rattle.ft_trace.specs.Holds.{held_words, known_state}
use Rattle.std.proofs.Common.{true}
use Rattle.ft_bank.specs.WriteSteps.{with_table}

-- after the two words of a header
pub after_header : (l : List ℕ) (i : ℕ) → slice_index (0 ∷ 0 ∷ l) (i + 2) ≡ slice_index l i
after_header l i = ap (slice_index (0 ∷ 0 ∷ l)) (let e : i + 2 ≡ suc (suc i) = omega arith in e)

pub put_after_header : (l : List ℕ) (i x : ℕ) → 0 ∷ 0 ∷ slice_set l i x ≡ slice_set (0 ∷ 0 ∷ l) (i + 2) x
put_after_header l i x = ap (λ (z : ℕ). slice_set (0 ∷ 0 ∷ l) z x) (let e : suc (suc i) ≡ i + 2 = omega arith in e)

pub entry_after_header : (l : List ℕ) (mask place word : ℕ) → slice_index (0 ∷ 0 ∷ l) (entry_at mask place word) ≡ slice_index l (8 * place + word + mask + 1)
entry_after_header l mask place word =
    ap (slice_index (0 ∷ 0 ∷ l)) (let e : entry_at mask place word ≡ 8 * place + word + mask + 1 + 2 = omega arith in e) ∙ after_header l (8 * place + word + mask + 1)

pub put_entry_after_header : (l : List ℕ) (mask place word x : ℕ) → 0 ∷ 0 ∷ slice_set l (8 * place + word + mask + 1) x ≡ slice_set (0 ∷ 0 ∷ l) (entry_at mask place word) x
put_entry_after_header l mask place word x =
    put_after_header l (8 * place + word + mask + 1) x ∙ ap (λ (z : ℕ). slice_set (0 ∷ 0 ∷ l) z x) (let e : 8 * place + word + mask + 1 + 2 ≡ entry_at mask place word = omega arith in e)

-- what a pass knows of the container o and its table t is the same after a load, and but for one word after a put
abbrev pub Knows : ℕ → ℕ → View → Type 0
Knows o t v = (has_lock o v.log ≡ true) × (root_in (held_words o v) ≡ suc t)

abbrev pub Leaves : ℕ → ℕ → View → View → List ℕ → Type 0
Leaves o t v w words =
    Knows o t w × (0 ∷ 0 ∷ (held_words o w).table ≡ words) × ((held_words o w).block ≡ (held_words o v).block) × (known_state o w ≡ known_state o v)

pub loaded_leaves : (v w : View) (o t i f : ℕ) → w ≡ view_after (ReadTable t i f) v → Knows o t v → Leaves o t v w (0 ∷ 0 ∷ (held_words o v).table)
loaded_leaves v w o t i f e k =
    subst (λ (z : View). Leaves o t v z (0 ∷ 0 ∷ (held_words o v).table)) (sym e) (k, refl, refl, refl)

pub put_leaves : (v w : View) (o t i x : ℕ) (words : List ℕ) → w ≡ view_after (PutTable o t i x) v → held_words o w ≡ with_table (held_words o v) i x → 0 ∷ 0 ∷ slice_set (held_words o v).table i x ≡ words → Knows o t v → Leaves o t v w words
put_leaves v w o t i x words e h same k = (
  (ap (λ (z : View). has_lock o z.log) e ∙ k.0, ap root_in h ∙ k.1),
  ap (λ (z : ContainerWords). 0 ∷ 0 ∷ z.table) h ∙ same,
  ap (λ (z : ContainerWords). z.block) h,
  ap (known_state o) e,
)
