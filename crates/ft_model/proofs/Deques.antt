-- What a bound leaves of items that are added one after the other, and what rotations leave.
use Rattle.std.proofs.Common.{◌≡◌, ℕ, suc, zero, ◌+◌, ◌-◌, ◌%◌, ◌<◌, ◌≤◌, cond, eqb, List, [], ◌∷◌, ◌++◌, length, take, drop, reverse, Option, Some, None, refl, sym, ap, ◌∙◌, inl, inr, arith, append_assoc}
use Rattle.std.specs.Prelude.{ℤ, pos, negsuc, neg_ℤ}
use Rattle.std.specs.List.{fold}
use Rattle.std.proofs.Math.Dec.{eqb-suc-zero}
use Rattle.std.proofs.Math.Nat.{zero-mod}
use Rattle.std.proofs.lemmas.Bool.{le-leb, lt-leb}
use Rattle.std.proofs.lemmas.Bool.Decides.{leb_tells}
use Rattle.std.proofs.lemmas.List.{append-nil, reverse-append, length-take, length-drop, length-append, take-append-le, drop-append-le, take-take, take_all, drop_all, drop-drop}
use Rattle.ft_model.specs.declared.data.Value.{Value}
use Rattle.ft_model.specs.Deques.{DequeContent, IsDeque, right_within, left_within, rotated_right, rotated_left, rotated, with_deque_items, deque_append, deque_append_left, deque_extend, deque_extend_left, deque_rotate}

-- ---- bounds

-- what is dropped at the left side once is not missed when more is dropped there
right_again : (bound : Option ℕ) (xs ys : List Value) → right_within bound (right_within bound xs ++ ys) ≡ right_within bound (xs ++ ys)
right_again None xs ys = refl
right_again (Some most) xs ys =
    let s = length xs - most in
    let within : s ≤ length xs = omega arith in
    let e : drop s (xs ++ ys) ≡ drop s xs ++ ys = drop-append-le s xs ys within in
    let long : length (drop s xs ++ ys) ≡ length (xs ++ ys) - s = ap length (sym e) ∙ length-drop s (xs ++ ys) in
    let all : length (xs ++ ys) ≡ length xs + length ys = length-append xs ys in
    let sums : s + (length (drop s xs ++ ys) - most) ≡ length (xs ++ ys) - most = omega (arith, long, all) in
    ap (drop (length (drop s xs ++ ys) - most)) (sym e)
    ∙ drop-drop (length (drop s xs ++ ys) - most) s (xs ++ ys)
    ∙ ap (λ n. drop n (xs ++ ys)) sums

take_longer : (m k : ℕ) (ys xs : List Value) → m ≤ k → take m (ys ++ take k xs) ≡ take m (ys ++ xs)
take_longer m k [] xs low = take-take m k xs low
take_longer zero k (y ∷ ys) xs low = refl
take_longer (suc m) k (y ∷ ys) xs low = ap (λ zs. y ∷ zs) (take_longer m k ys xs (omega arith))

left_again : (bound : Option ℕ) (xs ys : List Value) → left_within bound (ys ++ left_within bound xs) ≡ left_within bound (ys ++ xs)
left_again None xs ys = refl
left_again (Some most) xs ys = take_longer most most ys xs (omega arith)

pub right_whole : (bound : Option ℕ) (items : List Value) → IsDeque bound items → right_within bound items ≡ items
right_whole None items is_deque = refl
right_whole (Some most) items is_deque = ap (λ n. drop n items) (let e : length items - most ≡ 0 = omega (arith, is_deque.bounded) in e)

pub left_whole : (bound : Option ℕ) (items : List Value) → IsDeque bound items → left_within bound items ≡ items
left_whole None items is_deque = refl
left_whole (Some most) items is_deque = take_all most items is_deque.bounded

pub right_is_deque : (bound : Option ℕ) (items : List Value) → IsDeque bound (right_within bound items)
right_is_deque None items = record { bounded = tt }
right_is_deque (Some most) items = record { bounded = omega (arith, length-drop (length items - most) items) }

pub left_is_deque : (bound : Option ℕ) (items : List Value) → IsDeque bound (left_within bound items)
left_is_deque None items = record { bounded = tt }
left_is_deque (Some most) items = record { bounded = omega (arith, length-take most items) }

-- ---- items that are added one after the other

pub appended_one_by_one : (deque : DequeContent) (values : List Value) → IsDeque deque.bound deque.items → (fold deque_append deque values).items ≡ right_within deque.bound (deque.items ++ values)
appended_one_by_one deque [] is_deque = sym (ap (right_within deque.bound) (append-nil deque.items) ∙ right_whole deque.bound deque.items is_deque)
appended_one_by_one deque (value ∷ values) is_deque =
    appended_one_by_one (deque_append deque value) values (right_is_deque deque.bound (deque.items ++ value ∷ []))
    ∙ right_again deque.bound (deque.items ++ value ∷ []) values
    ∙ ap (right_within deque.bound) (append_assoc deque.items (value ∷ []) values)

pub appended_left_one_by_one : (deque : DequeContent) (values : List Value) → IsDeque deque.bound deque.items → (fold deque_append_left deque values).items ≡ left_within deque.bound (reverse values ++ deque.items)
appended_left_one_by_one deque [] is_deque = sym (left_whole deque.bound deque.items is_deque)
appended_left_one_by_one deque (value ∷ values) is_deque =
    appended_left_one_by_one (deque_append_left deque value) values (left_is_deque deque.bound (value ∷ deque.items))
    ∙ left_again deque.bound (value ∷ deque.items) (reverse values)
    ∙ ap (left_within deque.bound) (sym (ap (λ front. front ++ deque.items) (reverse-append (value ∷ []) values) ∙ append_assoc (reverse values) (value ∷ []) deque.items))

-- of what some calls leave, where there is more than nothing
some_more : (n : ℕ) (same more : DequeContent) → (cond (eqb (suc n) 0) same more).items ≡ more.items
some_more n same more = ap (λ b. (cond b same more).items) (eqb-suc-zero n)

pub extended_at_once : (deque : DequeContent) (values : List Value) → IsDeque deque.bound deque.items → (deque_extend deque values).items ≡ (fold deque_append deque values).items
extended_at_once deque [] is_deque = refl
extended_at_once deque (value ∷ values) is_deque =
    some_more (length values) deque (with_deque_items deque (right_within deque.bound (deque.items ++ value ∷ values)))
    ∙ sym (appended_one_by_one deque (value ∷ values) is_deque)

pub extended_left_at_once : (deque : DequeContent) (values : List Value) → IsDeque deque.bound deque.items → (deque_extend_left deque values).items ≡ (fold deque_append_left deque values).items
extended_left_at_once deque [] is_deque = refl
extended_left_at_once deque (value ∷ values) is_deque =
    some_more (length values) deque (with_deque_items deque (left_within deque.bound (reverse (value ∷ values) ++ deque.items)))
    ∙ sym (appended_left_one_by_one deque (value ∷ values) is_deque)

-- ---- rotations

-- the first items behind the others
abbrev pub turned : ℕ → List Value → List Value
turned front items = drop front items ++ take front items

pub turned_all : (n : ℕ) (items : List Value) → length items ≤ n → turned n items ≡ items
turned_all n items all = ap (λ rest. rest ++ take n items) (drop_all n items all) ∙ take_all n items all

pub length-turned : (n : ℕ) (items : List Value) → length (turned n items) ≡ length items
length-turned n items = omega (arith, length-append (drop n items) (take n items), length-drop n items, length-take n items)

take_none : (n : ℕ) → let none : List Value = [] in take n none ≡ none
take_none zero = refl
take_none (suc n) = refl

take_sum : (a b : ℕ) (items : List Value) → take b items ++ take a (drop b items) ≡ take (b + a) items
take_sum a zero items = ap (λ n. take n items) (let e : a ≡ zero + a = omega arith in e)
take_sum a (suc b) [] = take_none a ∙ sym (take_none (suc b + a))
take_sum a (suc b) (item ∷ items) =
    ap (λ rest. item ∷ rest) (take_sum a b items)
    ∙ ap (λ n. take n (item ∷ items)) (let e : suc (b + a) ≡ suc b + a = omega arith in e)

-- two turns that together go once round at most
pub turned_sum : (a b : ℕ) (items : List Value) → a + b ≤ length items → turned a (turned b items) ≡ turned (b + a) items
turned_sum a b items fits =
    let rest : length (drop b items) ≡ length items - b = length-drop b items in
    let few : a ≤ length (drop b items) = omega (arith, rest, fits) in
    let dropped : drop a (turned b items) ≡ drop (b + a) items ++ take b items =
    drop-append-le a (drop b items) (take b items) few ∙ ap (λ xs. xs ++ take b items) (drop-drop a b items) in
    let taken : take a (turned b items) ≡ take a (drop b items) = take-append-le a (drop b items) (take b items) few in
    ap (λ xs. xs ++ take a (turned b items)) dropped
    ∙ ap (λ xs. (drop (b + a) items ++ take b items) ++ xs) taken
    ∙ append_assoc (drop (b + a) items) (take b items) (take a (drop b items))
    ∙ ap (λ xs. drop (b + a) items ++ xs) (take_sum a b items)

turned_back : (a b : ℕ) (items : List Value) → a + b ≡ length items → turned a (turned b items) ≡ items
turned_back a b items whole =
    turned_sum a b items (omega (arith, whole)) ∙ turned_all (b + a) items (omega (arith, whole))

-- two turns that together go once round at least
pub turned_over : (a b : ℕ) (items : List Value) → a ≤ length items → b ≤ length items → length items ≤ a + b → turned a (turned b items) ≡ turned (a + b - length items) items
turned_over a b items few less more =
    let n = length items in
    let c = a + b - n in
    let d = n - b in
    let back : turned d (turned b items) ≡ items = turned_back d b items (omega arith) in
    let long = length-turned b items in
    let sum : turned c (turned d (turned b items)) ≡ turned (d + c) (turned b items) = turned_sum c d (turned b items) (omega (arith, long)) in
    let e : d + c ≡ a = omega arith in
    sym (ap (λ k. turned k (turned b items)) e) ∙ sym sum ∙ ap (turned c) back

pub length-rotated : (items : List Value) (steps : ℤ) → length (rotated items steps) ≡ length items
length-rotated items (pos steps) = length-turned (length items - steps % length items) items
length-rotated items (negsuc below) = length-turned (suc below % length items) items

right_and_left : (items : List Value) (steps : ℕ) → 0 < length items → rotated_left (rotated_right items steps) steps ≡ items
right_and_left items steps some =
    let n = length items in
    let rest = n - steps % n in
    ap (λ m. turned (steps % m) (turned rest items)) (length-turned rest items)
    ∙ turned_back (steps % n) rest items (omega arith)

left_and_right : (items : List Value) (steps : ℕ) → 0 < length items → rotated_right (rotated_left items steps) steps ≡ items
left_and_right items steps some =
    let n = length items in
    let front = steps % n in
    ap (λ m. turned (m - steps % m) (turned front items)) (length-turned front items)
    ∙ turned_back (n - steps % n) front items (omega arith)

pub not_at_all : (items : List Value) → rotated_right items 0 ≡ items
not_at_all items =
    let none = zero-mod (length items) in turned_all (length items - 0 % length items) items (omega (arith, none))

there_and_back : (items : List Value) (steps : ℤ) → 0 < length items → rotated (rotated items steps) (neg_ℤ steps) ≡ items
there_and_back items (pos zero) some = not_at_all (rotated_right items 0) ∙ not_at_all items
there_and_back items (pos (suc steps)) some = right_and_left items (suc steps) some
there_and_back items (negsuc below) some = left_and_right items (suc below) some

-- ---- deques that are rotated

pub rotate_few : (deque : DequeContent) (steps : ℤ) → length deque.items ≤ 1 → deque_rotate deque steps ≡ deque
rotate_few deque steps few =
    ap (λ b. cond b deque (with_deque_items deque (rotated deque.items steps))) (le-leb (length deque.items) 1 few)

pub rotate_more : (deque : DequeContent) (steps : ℤ) → 1 < length deque.items → deque_rotate deque steps ≡ with_deque_items deque (rotated deque.items steps)
rotate_more deque steps more =
    ap (λ b. cond b deque (with_deque_items deque (rotated deque.items steps))) (lt-leb (length deque.items) 1 more)

-- two rotations leave the items that rotating the items twice leaves
pub rotate_twice : (deque : DequeContent) (steps further : ℤ) → 1 < length deque.items → (deque_rotate (deque_rotate deque steps) further).items ≡ rotated (rotated deque.items steps) further
rotate_twice deque steps further more =
    let once = with_deque_items deque (rotated deque.items steps) in
    let long : length once.items ≡ length deque.items = length-rotated deque.items steps in
    ap (λ q. (deque_rotate q further).items) (rotate_more deque steps more)
    ∙ ap (λ q. q.items) (rotate_more once further (omega (arith, long)))

pub rotate_twice_few : (deque : DequeContent) (steps further : ℤ) → length deque.items ≤ 1 → deque_rotate (deque_rotate deque steps) further ≡ deque
rotate_twice_few deque steps further few =
    ap (λ q. deque_rotate q further) (rotate_few deque steps few) ∙ rotate_few deque further few

pub rotated_back : (deque : DequeContent) (steps : ℤ) → (deque_rotate (deque_rotate deque steps) (neg_ℤ steps)).items ≡ deque.items
rotated_back deque steps =
    elim (leb_tells (length deque.items) 1) [
      | inl few ↦ ap (λ q. q.items) (rotate_twice_few deque steps (neg_ℤ steps) few.1)
      | inr more ↦
          rotate_twice deque steps (neg_ℤ steps) more.1
          ∙ there_and_back deque.items steps (let e = more.1 in omega (arith, e))
    ]
