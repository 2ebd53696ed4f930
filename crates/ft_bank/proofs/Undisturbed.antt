-- While a pass has the floor no taking of a table finds that words have changed.
use Rattle.std.proofs.Common.{◌≡◌, ◌≢◌, ◌<◌, ◌≤◌, ◌+◌, ◌-◌, ◌*◌, ◌^◌, ◌%◌, ℕ, zero, suc, true, List, [], ◌∷◌, ◌++◌, length, refl, sym, ap, ◌∙◌, subst, arith, ⊎_elim, append_assoc, length-set, get_or-set_other, get_or-set_same}
use Rattle.std.specs.Prelude.{slice_index}
use Rattle.std.proofs.Math.Logic.{∥∥₁_elim}
use mathlib.Core.Logic.{dite}
use native.Mathlib.Decide.{ℕ_discrete}
use lib.Seq.{set-get_or}
use lib.ListN.{get_elem?}
use mathlib.Core.Option.{some}
use Rattle.ft_model.specs.Classes.{IsClass}
use Rattle.ft_trace.specs.declared.Act.{Act}
use Rattle.ft_trace.specs.declared.Act.TheVariants.{LowerCount, RaiseCount, ReadCount, ReadFree, TakeTable, TakeFloor}
use Rattle.ft_trace.specs.declared.Shape.{Shape}
use Rattle.ft_trace.specs.declared.View.{View}
use Rattle.ft_trace.specs.Addresses.{Word, at, bits, count_of_class, free_word_of}
use Rattle.ft_trace.specs.Acts.{floor_words}
use Rattle.ft_trace.specs.Bits.{bit}
use Rattle.ft_trace.specs.Counts.{giving, ones, taking, word_bits}
use Rattle.ft_trace.specs.Sums.{sum_to}
use Rattle.ft_trace.specs.Entries.{total}
use Rattle.ft_trace.specs.Floors.{FoundAsKnown}
use Rattle.ft_trace.specs.Traces.{Event, IsReachable, Valid, run, word}
use Rattle.ft_trace.proofs.Addresses.{at_apart, at_low}
use Rattle.ft_trace.proofs.Announcing.{fits}
use Rattle.ft_trace.proofs.Counts.{count_low}
use Rattle.ft_trace.proofs.Floored.{floored, floor_tells}
use Rattle.ft_trace.proofs.EarlierMoments.{was}
use Rattle.ft_trace.proofs.Ones.{words_stand}
use Rattle.ft_trace.proofs.OneWord.{wide}
use Rattle.ft_bank.specs.declared.takings.Search.TheVariants as search
use Rattle.ft_bank.specs.declared.takings.Took.TheVariants as took
use Rattle.ft_bank.specs.Series.{noted_all}
use Rattle.ft_bank.specs.TableNames.{table_id}
use Rattle.ft_bank.specs.Takings.{IsSearch, IsTaking, loads_of_none, lowered, word_of_class}

-- ---- actions in a row

log_all : (acts : List Act) (v : View) → (noted_all acts v).log ≡ acts ++ v.log
log_all [] v = refl
log_all (a ∷ acts) v = ap (λ (l : List Act). a ∷ l) (log_all acts v)

-- who has the floor has it still after its own actions
has_all : (acts : List Act) (v : View) → v.has_floor ≡ true → (noted_all acts v).has_floor ≡ true
has_all [] v has = has
has_all (TakeFloor f s ∷ acts) v has = refl
has_all (a ∷ acts) v has = has_all acts v has

-- ---- the words that are known

module _ (k : Shape) (n : ℕ) where
  abbrev word_at : Word → List Act → ℕ
  word_at x l = slice_index (floor_words k n l) (at k x)

  -- loads leave them
  loads_same : (class m : ℕ) (l : List Act) → floor_words k n (loads_of_none class m ++ l) ≡ floor_words k n l
  loads_same class zero l = refl
  loads_same class (suc m) l = set-get_or (floor_words k n (loads_of_none class m ++ l)) (at k (bits (word_of_class class m))) 0 ∙ loads_same class m l

  -- words that were found 0
  none_there : (class m : ℕ) (l : List Act) → FoundAsKnown k n (loads_of_none class m ++ l) → (j : ℕ) → j < m → word_at (bits (word_of_class class j)) l ≡ 0
  none_there class zero l found j low = absurd (omega arith)
  none_there class (suc m) l found j low =
      dite (ℕ_discrete j m)
      (λ (e : j ≡ m).
      ap (λ (z : ℕ). word_at (bits (word_of_class class z)) l) e
      ∙ (ap (λ (ws : List ℕ). slice_index ws (at k (bits (word_of_class class m)))) (sym (loads_same class m l)) ∙ sym found.0))
      (λ ne. none_there class m l found.1 j (omega (arith, low, ne)))

  -- a count that moved between two steps
  count_alone : (class a b : ℕ) (l : List Act) → FoundAsKnown k n (LowerCount class a b ∷ (ReadCount class a ∷ l)) → a ≡ b
  count_alone class a b l found =
      found.1.0 ∙ (ap (λ (ws : List ℕ). slice_index ws (at k (count_of_class class))) (sym (set-get_or (floor_words k n l) (at k (count_of_class class)) 0)) ∙ sym found.0)

  -- a free word that moved between two steps
  word_alone : (t w a b : ℕ) (s : _) (l : List Act) → free_word_of t ≡ w → FoundAsKnown k n (TakeTable t b s ∷ (ReadFree w a ∷ l)) → a ≡ b
  word_alone t w a b s l of found =
      found.1.0
      ∙ (ap (λ (ws : List ℕ). slice_index ws (at k (bits w))) (sym (set-get_or (floor_words k n l) (at k (bits w)) 0))
      ∙ (ap (λ (z : ℕ). word_at (bits z) (ReadFree w a ∷ l)) (sym of) ∙ sym found.0))

-- ---- a class with no free table

none_set : (f : ℕ → ℕ) (n : ℕ) → ((i : ℕ) → i < n → f i ≡ 0) → sum_to f n ≡ 0
none_set f zero none = refl
none_set f (suc n) none = let a = none n (omega arith) in let b = none_set f n (λ i low. none i (omega arith)) in omega (arith, a, b)

ones_none : ones 0 ≡ 0
unfolding bit
ones_none = refl

-- a class has a free table for its count, so not each of its free words is 0 while its count isn't
never_empty : (k : Shape) (es : List Event) → Valid k es → (class : ℕ) → IsClass class → ((j : ℕ) → j < 16 → word k es (bits (word_of_class class j)) ≡ 0) → word k es (count_of_class class) ≡ 0
never_empty k es valid class is none =
    let bits_none : word_bits k es class ≡ 0 = none_set (λ j. ones (word k es (bits (16 * (class - 3) + j)))) 16 (λ j low. ap ones (none j low) ∙ ones_none) in
    none_of (word k es (count_of_class class)) (total (taking class) (run k es).views) (total (giving class) (run k es).views) (sym (words_stand k es valid class is) ∙ bits_none)
  where
    none_of : (a b c : ℕ) → a + b + c ≡ 0 → a ≡ 0
    none_of a b c e = omega (arith, e)

-- the pass raised a count that the shape allows
low_raised : (k : Shape) (es : List Event) → Valid k es → (id : ℕ) (w : View) → get_elem? (run k es).views id ≡ some w → (class raised : ℕ) (l : List Act) → IsClass class → w.log ≡ RaiseCount class raised ∷ l → raised ≤ 1024
low_raised k es valid id w seat class raised l is log =
    let w = was k es valid id w seat [] (RaiseCount class raised) l log in
    let low = count_low k w.older w.valid class is in
    let few = (fits k w.older w.valid).tables class is in
    let stated : raised ≡ word k w.older (count_of_class class) = w.tells in
    omega (arith, stated, low, few)

-- a class whose count was lowered and raised again, while each free word was 0
emptied_alone : (k : Shape) (es : List Event) → Valid k es → (id : ℕ) (w : View) → get_elem? (run k es).views id ≡ some w → w.has_floor ≡ true → (class a raised : ℕ) (l : List Act) → IsClass class → w.log ≡ RaiseCount class raised ∷ (loads_of_none class 16 ++ l) → ⊥
emptied_alone k es valid id w seat has class a raised l is log =
    let n = w.number in
    let L = loads_of_none class 16 ++ l in
    let now = ((floored k es valid id w seat).has has).1 in
    let found : FoundAsKnown k n (RaiseCount class raised ∷ L) = subst (FoundAsKnown k n) log (floor_tells k es valid id w seat has) in
    let few = low_raised k es valid id w seat class raised L is log in
    let words : floor_words k n (RaiseCount class raised ∷ L) ≡ (run k es).words = ap (floor_words k n) (sym log) ∙ now in
    let x = slice_index (floor_words k n L) (at k (count_of_class class)) in
    let size : length (floor_words k n L) ≡ length (run k es).words = sym (length-set (floor_words k n L) (at k (count_of_class class)) ((x + 1) % 2 ^ 64)) ∙ ap length words in
    let room : at k (count_of_class class) < length (floor_words k n L) = let e = size in let f = wide k es in let g = at_low k (count_of_class class) is in omega (arith, e, f, g) in
    let count : word k es (count_of_class class) ≡ (x + 1) % 2 ^ 64 =
    ap (λ (ws : List ℕ). slice_index ws (at k (count_of_class class))) (sym words) ∙ get_or-set_same (floor_words k n L) (at k (count_of_class class)) ((x + 1) % 2 ^ 64) 0 room in
    let none : (j : ℕ) → j < 16 → word k es (bits (word_of_class class j)) ≡ 0 = λ j low.
    ap (λ (ws : List ℕ). slice_index ws (at k (bits (word_of_class class j)))) (sym words)
    ∙ (get_or-set_other (floor_words k n L) (at k (count_of_class class)) (at k (bits (word_of_class class j))) ((x + 1) % 2 ^ 64) 0 (apart k class j is low)
    ∙ (ap (λ (ws : List ℕ). slice_index ws (at k (bits (word_of_class class j)))) (loads_same k n class 16 l) ∙ none_there k n class 16 l found.1 j low)) in
    let zero_count = never_empty k es valid class is none in
    let same : raised ≡ x = found.0 in
    absurd (let c = count in let small : (x + 1) % 2 ^ 64 ≡ x + 1 = omega (arith, few, same) in omega (arith, c, small, zero_count))
  where
    bits_count : (i class : ℕ) → bits i ≡ count_of_class class → ⊥
    bits_count i class e = absurd (cc)

    apart : (k : Shape) (class j : ℕ) → IsClass class → j < 16 → at k (bits (word_of_class class j)) ≡ at k (count_of_class class) → ⊥
    apart k class j is low e = bits_count (word_of_class class j) class (at_apart k (bits (word_of_class class j)) (count_of_class class) (let a = is.least in let b = is.greatest in omega (arith, a, b, low)) is e)

-- ---- takings

-- what a taking did that found words changed
module _ (k : Shape) (n : ℕ) (class : ℕ) (l : List Act) where
  moved_alone : (a b : ℕ) (acts : List Act) → (a ≢ b) × (acts ≡ LowerCount class a b ∷ ReadCount class a ∷ []) → FoundAsKnown k n (acts ++ l) → ⊥
  moved_alone a b acts is found = is.0 (count_alone k n class a b l (subst (λ (x : List Act). FoundAsKnown k n (x ++ l)) is.1 found))

  lost_alone : (a b count raised : ℕ) (rest acts : List Act) → IsSearch class (search.Lost a b) rest → acts ≡ RaiseCount class raised ∷ (rest ++ lowered class count) → FoundAsKnown k n (acts ++ l) → ⊥
  lost_alone a b count raised rest acts lost is found =
      let c = lost.2 in
      let t = lost.1 in
      let all : acts ≡ RaiseCount class raised ∷ ((TakeTable (table_id t) b c.snap ∷ ReadFree (word_of_class class c.word) a ∷ loads_of_none class c.word) ++ lowered class count) = is ∙ ap (λ (x : List Act). RaiseCount class raised ∷ (x ++ lowered class count)) c.is in
      let f = subst (λ (x : List Act). FoundAsKnown k n (x ++ l)) all found in
      lost.0 (word_alone k n (table_id t) (word_of_class class c.word) a b c.snap ((loads_of_none class c.word ++ lowered class count) ++ l) c.of f.1)

pub taking_alone : (v w : View) (class a b : ℕ) (acts : List Act) → IsClass class → w ≡ noted_all acts v → IsTaking class (took.Moved a b) acts → ∥ IsReachable w ∥₁ → v.has_floor ≡ true → ⊥
taking_alone v w class a b acts is did taking possible has =
    ∥∥₁_elim possible (λ x y. absurd x)
    (λ p.
    let k = w.shape in
    let n = w.number in
    let floor : w.has_floor ≡ true = ap (λ (z : View). z.has_floor) did ∙ has_all acts v has in
    let log : w.log ≡ acts ++ v.log = ap (λ (z : View). z.log) did ∙ log_all acts v in
    let found : FoundAsKnown k n (acts ++ v.log) = subst (FoundAsKnown k n) log (floor_tells k p.0 p.2.0 p.1 w p.2.1 floor) in
    ⊎_elim (λ x. moved_alone k n class v.log a b acts x found)
    (λ y.
    ⊎_elim (λ x. lost_alone k n class v.log a b x.0 x.1 x.2 acts x.3 x.4 found)
    (λ x. emptied_alone k p.0 p.2.0 p.1 w p.2.1 floor class a x.1 (lowered class a ++ v.log) is
    (log ∙ (ap (λ (z : List Act). z ++ v.log) x.2 ∙ ap (λ (z : List Act). RaiseCount class x.1 ∷ z) (append_assoc (loads_of_none class 16) (lowered class a) v.log)))) y) taking)
