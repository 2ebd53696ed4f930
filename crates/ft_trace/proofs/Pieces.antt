-- The words of a table as a list.
use Rattle.std.proofs.Common.{◌≡◌, ℕ, zero, suc, ◌+◌, ◌<◌, List, ◌∷◌, length, set, refl, sym, ap, ◌∙◌, arith, get_or-set_other, get_or-set_same, replicate}
use Rattle.std.specs.Prelude.{slice_index, slice_set}
use Rattle.ft_trace.specs.declared.Shape.{Shape}
use Rattle.ft_trace.specs.Addresses.{block, cell, class_of, size, at}
use Rattle.ft_trace.specs.Pictures.{piece, table_words, block_of, root_of, inner, picture}

pub piece_same : (ws zs : List ℕ) (at n : ℕ) → ((i : ℕ) → i < n → slice_index ws (at + i) ≡ slice_index zs (at + i)) → piece ws at n ≡ piece zs at n
piece_same ws zs at zero same = refl
piece_same ws zs at (suc n) same =
    let here : slice_index ws at ≡ slice_index zs at = let e : at + 0 ≡ at = omega arith in ap (λ (z : ℕ). slice_index ws z) (sym e) ∙ (same 0 (omega arith) ∙ ap (λ (z : ℕ). slice_index zs z) e) in
    let rest = piece_same ws zs (at + 1) n (λ i low. let e : at + suc i ≡ at + 1 + i = omega arith in ap (λ (z : ℕ). slice_index ws z) (sym e) ∙ (same (suc i) (omega arith) ∙ ap (λ (z : ℕ). slice_index zs z) e)) in
    λ d. here d ∷ rest d

pub piece_at : (ws : List ℕ) (at n i : ℕ) → i < n → slice_index (piece ws at n) i ≡ slice_index ws (at + i)
piece_at ws at zero i low = absurd (omega arith)
piece_at ws at (suc n) zero low = ap (λ (z : ℕ). slice_index ws z) (omega arith)
piece_at ws at (suc n) (suc i) low = piece_at ws (at + 1) n i (omega arith) ∙ ap (λ (z : ℕ). slice_index ws z) (omega arith)

pub piece_set : (ws : List ℕ) (at n i x : ℕ) → i < n → at + i < length ws → piece (set ws (at + i) x) at n ≡ set (piece ws at n) i x
piece_set ws at zero i x low in_it = absurd (omega arith)
piece_set ws at (suc n) zero x low in_it =
    let e : at + 0 ≡ at = omega arith in
    let here : slice_index (set ws (at + 0) x) at ≡ x = ap (λ (z : ℕ). slice_index (set ws z x) at) e ∙ get_or-set_same ws at x 0 (omega arith) in
    let rest : piece (set ws (at + 0) x) (at + 1) n ≡ piece ws (at + 1) n = piece_same (set ws (at + 0) x) ws (at + 1) n (λ i _. get_or-set_other ws (at + 0) (at + 1 + i) x 0 (λ e. omega arith)) in
    λ d. here d ∷ rest d
piece_set ws at (suc n) (suc i) x low in_it =
    let here : slice_index (set ws (at + suc i) x) at ≡ slice_index ws at = get_or-set_other ws (at + suc i) at x 0 (λ e. omega arith) in
    let e : at + suc i ≡ at + 1 + i = omega arith in
    let rest : piece (set ws (at + suc i) x) (at + 1) n ≡ set (piece ws (at + 1) n) i x = ap (λ (z : ℕ). piece (set ws z x) (at + 1) n) e ∙ piece_set ws (at + 1) n i x (omega arith) (omega arith) in
    λ d. here d ∷ rest d

piece_long : (ws : List ℕ) (at n : ℕ) → length (piece ws at n) ≡ n
piece_long ws at zero = refl
piece_long ws at (suc n) = ap suc (piece_long ws (at + 1) n)

cell_is : (k : Shape) (t i : ℕ) → at k (cell t 0) + i ≡ at k (cell t i)
cell_is k t i = omega arith

pub table_same : (k : Shape) (t : ℕ) (ws zs : List ℕ) → ((i : ℕ) → i < size (class_of t) → slice_index ws (at k (cell t i)) ≡ slice_index zs (at k (cell t i))) → table_words k t ws ≡ table_words k t zs
unfolding table_words
table_same k t ws zs same = piece_same ws zs (at k (cell t 0)) (size (class_of t)) (λ i low. ap (λ (z : ℕ). slice_index ws z) (cell_is k t i) ∙ (same i low ∙ ap (λ (z : ℕ). slice_index zs z) (sym (cell_is k t i))))

pub table_at : (k : Shape) (t : ℕ) (ws : List ℕ) (i : ℕ) → i < size (class_of t) → slice_index (table_words k t ws) i ≡ slice_index ws (at k (cell t i))
unfolding table_words
table_at k t ws i low = piece_at ws (at k (cell t 0)) (size (class_of t)) i low ∙ ap (λ (z : ℕ). slice_index ws z) (cell_is k t i)

pub table_set : (k : Shape) (t : ℕ) (ws : List ℕ) (i x : ℕ) → i < size (class_of t) → at k (cell t i) < length ws → table_words k t (slice_set ws (at k (cell t i)) x) ≡ slice_set (table_words k t ws) i x
unfolding table_words
table_set k t ws i x low in_it = ap (λ (z : ℕ). table_words k t (set ws z x)) (sym (cell_is k t i)) ∙ piece_set ws (at k (cell t 0)) (size (class_of t)) i x low (omega arith)

pub table_long : (k : Shape) (t : ℕ) (ws : List ℕ) → length (table_words k t ws) ≡ size (class_of t)
unfolding table_words
table_long k t ws = piece_long ws (at k (cell t 0)) (size (class_of t))

pub block_long : (k : Shape) (o : ℕ) (ws : List ℕ) → length (block_of k o ws) ≡ 6
unfolding block_of
block_long k o ws = piece_long ws (at k (block o 0)) 6

block_cell : (k : Shape) (o i : ℕ) → at k (block o 0) + i ≡ at k (block o i)
block_cell k o i = omega arith

pub block_same : (k : Shape) (o : ℕ) (ws zs : List ℕ) → ((i : ℕ) → i < 6 → slice_index ws (at k (block o i)) ≡ slice_index zs (at k (block o i))) → block_of k o ws ≡ block_of k o zs
unfolding block_of
block_same k o ws zs same = piece_same ws zs (at k (block o 0)) 6 (λ i low. ap (λ (z : ℕ). slice_index ws z) (block_cell k o i) ∙ (same i low ∙ ap (λ (z : ℕ). slice_index zs z) (sym (block_cell k o i))))

pub block_at : (k : Shape) (o : ℕ) (ws : List ℕ) (i : ℕ) → i < 6 → slice_index (block_of k o ws) i ≡ slice_index ws (at k (block o i))
unfolding block_of
block_at k o ws i low = piece_at ws (at k (block o 0)) 6 i low ∙ ap (λ (z : ℕ). slice_index ws z) (block_cell k o i)

-- the words of a block that are all 0
pub block_zero : (k : Shape) (o : ℕ) (ws : List ℕ) → ((i : ℕ) → i < 6 → slice_index ws (at k (block o i)) ≡ 0) → block_of k o ws ≡ replicate 6 0
unfolding block_of
block_zero k o ws zeros = piece_zero ws (at k (block o 0)) 6 (λ i low. ap (λ (z : ℕ). slice_index ws z) (block_cell k o i) ∙ zeros i low)
  where
    piece_zero : (ws : List ℕ) (at n : ℕ) → ((i : ℕ) → i < n → slice_index ws (at + i) ≡ 0) → piece ws at n ≡ replicate n 0
    piece_zero ws at zero zeros = refl
    piece_zero ws at (suc n) zeros =
        let here : slice_index ws at ≡ 0 = ap (λ (z : ℕ). slice_index ws z) (omega arith) ∙ zeros 0 (omega arith) in
        let rest = piece_zero ws (at + 1) n (λ i low. let e : at + 1 + i ≡ at + suc i = omega arith in ap (λ (z : ℕ). slice_index ws z) e ∙ zeros (suc i) (omega arith)) in
        λ d. here d ∷ rest d

pub inner_same : (k : Shape) (r : ℕ) (ws zs : List ℕ) → ((t : ℕ) → r ≡ suc t → table_words k t ws ≡ table_words k t zs) → inner k r ws ≡ inner k r zs
inner_same k zero ws zs same = refl
inner_same k (suc t) ws zs same = same t refl

-- what a container's words are is the same where its block is, and the table that its root names
pub picture_same : (k : Shape) (o : ℕ) (ws zs : List ℕ) → ((i : ℕ) → i < 6 → slice_index ws (at k (block o i)) ≡ slice_index zs (at k (block o i))) → ((t : ℕ) → root_of k o zs ≡ suc t → table_words k t ws ≡ table_words k t zs) → picture k o ws ≡ picture k o zs
picture_same k o ws zs same tables =
    let root = same 0 (omega arith) in
    let words = block_same k o ws zs same in
    let all = ap (λ (r : ℕ). inner k r ws) root ∙ inner_same k (root_of k o zs) ws zs tables in
    λ d. record { block = words d; table = all d }
