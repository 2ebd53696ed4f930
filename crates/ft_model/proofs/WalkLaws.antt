-- A whole walk gives each pair or item once, in order, and a reversed one in the opposite order.
use Rattle.std.proofs.Common.{◌≡◌, ℕ, zero, suc, ◌-◌, ◌<◌, ◌≤◌, Bool, true, false, List, [], ◌∷◌, ◌++◌, length, map, take, get_or, Option, Some, None, refl, sym, ap, subst, ◌∙◌, arith}
use Rattle.std.specs.Prelude.{All, AllPairs, slice_get, reverse, if◌then◌else◌}
use Rattle.std.specs.List.{find}
use Rattle.std.proofs.Math.Dec.{eqb-suc-zero}
use Rattle.std.proofs.lemmas.Bool.{false≢true, eq-eqb, lt-ltb, le-ltb, ltb-true, ltb-false}
use Rattle.std.proofs.lemmas.Grind.{reverse_onto}
use Rattle.std.proofs.lemmas.List.{length-map, length-append, append_assoc, length-reverse, map-append, reverse-append}
use Rattle.std.proofs.lemmas.List.Elements.{All-nil, All-cons, All-append}
use Rattle.ft_model.specs.declared.data.Value.{Value}
use Rattle.ft_model.specs.declared.reply.Reply.{Reply}
use Rattle.ft_model.specs.declared.reply.Reply.TheVariants as reply
use Rattle.ft_model.specs.declared.reply.Raise.TheVariants as raise
use Rattle.ft_model.specs.declared.content.Content.{Content}
use Rattle.ft_model.specs.declared.content.DictPair.{DictPair}
use Rattle.ft_model.specs.declared.cursor.Cursor.TheVariants as cursor
use Rattle.ft_model.specs.declared.cursor.CursorState.TheVariants as walk
use Rattle.ft_model.specs.Contents.{IsDict}
use Rattle.ft_model.specs.Cursors.{CursorStep, is_after, is_before, next_pair, prior_pair, dict_iter, dict_walk, dict_reversed, dict_back_walk, list_iter, list_walk, list_reversed, list_back_walk, index_before}
use Rattle.ft_model.specs.Worlds.{dict_at, list_at}
use Rattle.ft_model.specs.Answers.{cursor_step}
use Rattle.ft_model.specs.Walks.{walked, GivesAll, given_pairs, given_items}

-- ---- the first that passes

find_later : {X : Type 0} (p : X → Bool) (front rest : List X) → All (λ x. p x ≡ false) front → find p (front ++ rest) ≡ find p rest
find_later p [] rest fails = refl
find_later p (x ∷ front) rest fails = simp (fails zero x (omega arith)) (find_later p front rest (λ k d low. fails (suc k) d (omega arith)))

-- the first of a list, where there is one
abbrev first_of : {X : Type 0} → List X → Option X
first_of [] = None
first_of (x ∷ xs) = Some x

find_first : {X : Type 0} (p : X → Bool) (front rest : List X) → All (λ x. p x ≡ false) front → All (λ x. p x ≡ true) rest → find p (front ++ rest) ≡ first_of rest
find_first p front [] fails passes = find_later p front [] fails
find_first p front (x ∷ rest) fails passes = find_later p front (x ∷ rest) fails ∙ simp (passes zero x (omega arith)) refl

-- ---- pairs each of which passes a test by the serial of each that stands before it

abbrev Each : (Option ℕ → ℕ → Bool) → Option ℕ → Bool → List DictPair → Type 0
Each test last is pairs = All (λ pair. test last pair.serial ≡ is) pairs

abbrev Follows : (Option ℕ → ℕ → Bool) → List DictPair → Type 0
Follows test [] = Unit {0}
Follows test (pair ∷ pairs) = Each test (Some pair.serial) true pairs × Follows test pairs

follows_push : (test : Option ℕ → ℕ → Bool) (pairs : List DictPair) (last : DictPair) → All (λ pair. test (Some pair.serial) last.serial ≡ true) pairs → Follows test pairs → Follows test (pairs ++ last ∷ [])
follows_push test [] last each follows = (All-nil _, tt)
follows_push test (pair ∷ pairs) last each follows = (All-append (λ p. test (Some pair.serial) p.serial ≡ true) pairs (last ∷ []) follows.0 (All-cons (λ p. test (Some pair.serial) p.serial ≡ true) last [] (each zero pair (omega arith)) (All-nil _)), follows_push test pairs last (λ k d low. each (suc k) d (omega arith)) follows.1)

all_reversed : (P : DictPair → Type 0) (pairs : List DictPair) → All P pairs → All P (reverse pairs)
all_reversed P [] each = each
all_reversed P (pair ∷ pairs) each = subst (All P) (sym (reverse_onto pairs pair [])) (All-append P (reverse pairs) (pair ∷ []) (all_reversed P pairs (λ k d low. each (suc k) d (omega arith))) (All-cons P pair [] (each zero pair (omega arith)) (All-nil _)))

-- serials that rise follow each other, and those of the reversed pairs do backwards
rising_follows : (pairs : List DictPair) → AllPairs (λ a b. a.serial < b.serial) pairs → Follows is_after pairs
rising_follows [] rising = tt
rising_follows (pair ∷ pairs) rising = ((λ k d low. lt-ltb pair.serial (get_or pairs k d).serial (rising zero (suc k) d (omega arith) (omega arith))), rising_follows pairs (λ i j d lt low. rising (suc i) (suc j) d (omega arith) (omega arith)))

rising_falls : (pairs : List DictPair) → AllPairs (λ a b. a.serial < b.serial) pairs → Follows is_before (reverse pairs)
rising_falls [] rising = tt
rising_falls (pair ∷ pairs) rising =
    subst (Follows is_before) (sym (reverse_onto pairs pair []))
    (follows_push is_before (reverse pairs) pair (all_reversed (λ p. is_before (Some p.serial) pair.serial ≡ true) pairs (λ k d low. lt-ltb pair.serial (get_or pairs k d).serial (rising zero (suc k) d (omega arith) (omega arith)))) (rising_falls pairs (λ i j d lt low. rising (suc i) (suc j) d (omega arith) (omega arith))))

-- what fails by one serial fails by the next
after_fails : (last : Option ℕ) (given before : ℕ) → is_after last given ≡ true → is_after last before ≡ false → is_after (Some given) before ≡ false
after_fails None given before passes fails = absurd (false≢true (sym fails))
after_fails (Some last) given before passes fails = le-ltb given before (let less = ltb-true last given passes in let more = ltb-false last before fails in omega (arith, less, more))

before_fails : (last : Option ℕ) (given before : ℕ) → is_before last given ≡ true → is_before last before ≡ false → is_before (Some given) before ≡ false
before_fails None given before passes fails = absurd (false≢true (sym fails))
before_fails (Some last) given before passes fails = le-ltb before given (let less = ltb-true given last passes in let more = ltb-false before last fails in omega (arith, less, more))

still_fails : (test : Option ℕ → ℕ → Bool) → ((last : Option ℕ) (given before : ℕ) → test last given ≡ true → test last before ≡ false → test (Some given) before ≡ false) → ((given : ℕ) → test (Some given) given ≡ false) → (last : Option ℕ) (front : List DictPair) (pair : DictPair) → test last pair.serial ≡ true → Each test last false front → Each test (Some pair.serial) false (front ++ pair ∷ [])
still_fails test carries itself last front pair passes fails = All-append (λ p. test (Some pair.serial) p.serial ≡ false) front (pair ∷ []) (λ k d low. carries last pair.serial (get_or front k d).serial passes (fails k d low)) (All-cons (λ p. test (Some pair.serial) p.serial ≡ false) pair [] (itself pair.serial) (All-nil _))

-- ---- dicts

module _ (world : List Content) (place : ℕ) where
  abbrev pairs : List DictPair
  pairs = (dict_at world place).pairs

  dict_step : (expected : ℕ) (last : Option ℕ) (found : Option DictPair) → next_pair pairs last ≡ found → cursor_step world (cursor.Dict place walk.Live (length pairs) expected last) ≡ dict_walk found place (length pairs) expected last
  dict_step expected last found is = ap (λ (b : Bool). if b then dict_walk (next_pair pairs last) place (length pairs) expected last else record { reply = reply.Raised raise.Size; cursor = cursor.Dict place walk.Reported (length pairs) expected last }) (eq-eqb (length pairs) (length pairs) refl) ∙ ap (λ (o : Option DictPair). dict_walk o place (length pairs) expected last) is

  gives_pair : (pair : DictPair) (left : ℕ) (last : Option ℕ) → dict_walk (Some pair) place (length pairs) (suc left) last ≡ record { reply = reply.Pair pair.key pair.value; cursor = cursor.Dict place walk.Live (length pairs) left (Some pair.serial) }
  gives_pair pair left last = ap (λ (b : Bool). if b then record { reply = reply.Raised raise.Keys; cursor = cursor.Dict place walk.Ended (length pairs) (suc left) last } else record { reply = reply.Pair pair.key pair.value; cursor = cursor.Dict place walk.Live (length pairs) (suc left - 1) (Some pair.serial) }) (eqb-suc-zero left) ∙ ap (λ (n : ℕ). record { reply = reply.Pair pair.key pair.value; cursor = cursor.Dict place walk.Live (length pairs) n (Some pair.serial) }) (let less : suc left - 1 ≡ left = omega arith in less)

  walk_on : (rest front : List DictPair) (last : Option ℕ) → pairs ≡ front ++ rest → Each is_after last false front → Each is_after last true rest → Follows is_after rest → walked (suc (length rest)) world (cursor.Dict place walk.Live (length pairs) (length rest) last) ≡ given_pairs rest ++ reply.Stop ∷ []
  walk_on [] front last parts fails passes follows =
      let found : next_pair pairs last ≡ None = ap (find (λ (p : DictPair). is_after last p.serial)) parts ∙ find_first (λ (p : DictPair). is_after last p.serial) front [] fails passes in
      ap (λ (s : CursorStep). s.reply ∷ walked 0 world s.cursor) (dict_step 0 last None found)
  walk_on (pair ∷ rest) front last parts fails passes follows =
      let found : next_pair pairs last ≡ Some pair = ap (find (λ (p : DictPair). is_after last p.serial)) parts ∙ find_first (λ (p : DictPair). is_after last p.serial) front (pair ∷ rest) fails passes in
      ap (λ (s : CursorStep). s.reply ∷ walked (suc (length rest)) world s.cursor) (dict_step (suc (length rest)) last (Some pair) found ∙ gives_pair pair (length rest) last)
      ∙ ap (λ (all : List Reply). reply.Pair pair.key pair.value ∷ all) (walk_on rest (front ++ pair ∷ []) (Some pair.serial) (parts ∙ sym (append_assoc front (pair ∷ []) rest)) (still_fails is_after after_fails (λ given. le-ltb given given (omega arith)) last front pair (passes zero pair (omega arith)) fails) follows.0 follows.1)

  back_step : (last : Option ℕ) (found : Option DictPair) → prior_pair pairs last ≡ found → cursor_step world (cursor.DictBack place walk.Live (length pairs) last) ≡ dict_back_walk found place (length pairs) last
  back_step last found is = ap (λ (b : Bool). if b then dict_back_walk (prior_pair pairs last) place (length pairs) last else record { reply = reply.Raised raise.Size; cursor = cursor.DictBack place walk.Reported (length pairs) last }) (eq-eqb (length pairs) (length pairs) refl) ∙ ap (λ (o : Option DictPair). dict_back_walk o place (length pairs) last) is

  walk_back : (rest front : List DictPair) (last : Option ℕ) → reverse pairs ≡ front ++ rest → Each is_before last false front → Each is_before last true rest → Follows is_before rest → walked (suc (length rest)) world (cursor.DictBack place walk.Live (length pairs) last) ≡ given_pairs rest ++ reply.Stop ∷ []
  walk_back [] front last parts fails passes follows =
      let found : prior_pair pairs last ≡ None = ap (find (λ (p : DictPair). is_before last p.serial)) parts ∙ find_first (λ (p : DictPair). is_before last p.serial) front [] fails passes in
      ap (λ (s : CursorStep). s.reply ∷ walked 0 world s.cursor) (back_step last None found)
  walk_back (pair ∷ rest) front last parts fails passes follows =
      let found : prior_pair pairs last ≡ Some pair = ap (find (λ (p : DictPair). is_before last p.serial)) parts ∙ find_first (λ (p : DictPair). is_before last p.serial) front (pair ∷ rest) fails passes in
      ap (λ (s : CursorStep). s.reply ∷ walked (suc (length rest)) world s.cursor) (back_step last (Some pair) found)
      ∙ ap (λ (all : List Reply). reply.Pair pair.key pair.value ∷ all) (walk_back rest (front ++ pair ∷ []) (Some pair.serial) (parts ∙ sym (append_assoc front (pair ∷ []) rest)) (still_fails is_before before_fails (λ given. le-ltb given given (omega arith)) last front pair (passes zero pair (omega arith)) fails) follows.0 follows.1)

map_reversed : {X Y : Type 0} (f : X → Y) (xs : List X) → map f (reverse xs) ≡ reverse (map f xs)
map_reversed f [] = refl
map_reversed {Y = Y} f (x ∷ xs) = ap (map f) (reverse_onto xs x []) ∙ map-append f (reverse xs) (x ∷ []) ∙ ap (λ (ys : List Y). ys ++ f x ∷ []) (map_reversed f xs) ∙ sym (reverse_onto (map f xs) (f x) [])

pub dicts_walked : (world : List Content) (place : ℕ) → IsDict (dict_at world place).next (dict_at world place).pairs → GivesAll world (dict_iter place (dict_at world place).pairs) (given_pairs (dict_at world place).pairs)
dicts_walked world place is =
    let all = (dict_at world place).pairs in
    ap (λ (n : ℕ). walked (suc n) world (dict_iter place all)) (length-map all (λ (p : DictPair). reply.Pair p.key p.value))
    ∙ walk_on world place all [] None refl (All-nil _) (λ k d low. refl) (rising_follows all is.rising)

pub dicts_walked_back : (world : List Content) (place : ℕ) → IsDict (dict_at world place).next (dict_at world place).pairs → GivesAll world (dict_reversed place (dict_at world place).pairs) (reverse (given_pairs (dict_at world place).pairs))
dicts_walked_back world place is =
    let all = (dict_at world place).pairs in
    subst (GivesAll world (dict_reversed place all)) (map_reversed (λ (p : DictPair). reply.Pair p.key p.value) all)
    (ap (λ (n : ℕ). walked (suc n) world (dict_reversed place all)) (length-map (reverse all) (λ (p : DictPair). reply.Pair p.key p.value))
    ∙ walk_back world place (reverse all) [] None refl (All-nil _) (λ k d low. refl) (rising_falls all is.rising))

-- ---- lists

get_later : {X : Type 0} (front rest : List X) → slice_get (front ++ rest) (length front) ≡ first_of rest
get_later [] [] = refl
get_later [] (x ∷ rest) = refl
get_later (x ∷ front) rest = get_later front rest

-- one item more than so many
taken_more : {X : Type 0} (xs : List X) (count : ℕ) → count < length xs → (x : X) × (slice_get xs count ≡ Some x) × (take (suc count) xs ≡ take count xs ++ x ∷ [])
taken_more [] count low = absurd (omega arith)
taken_more (x ∷ xs) zero low = (x, refl, refl)
taken_more {X = X} (x ∷ xs) (suc count) low = let rest = taken_more xs count (omega arith) in (rest.0, rest.1, ap (λ (ys : List X). x ∷ ys) rest.2)

take_all : {X : Type 0} (xs : List X) → take (length xs) xs ≡ xs
take_all [] = refl
take_all {X = X} (x ∷ xs) = ap (λ (ys : List X). x ∷ ys) (take_all xs)

module _ (world : List Content) (place : ℕ) where
  abbrev items : List Value
  items = (list_at world place)

  list_on : (rest front : List Value) → items ≡ front ++ rest → walked (suc (length rest)) world (cursor.List place (length front) false) ≡ given_items rest ++ reply.Stop ∷ []
  list_on [] front parts =
      let found : slice_get items (length front) ≡ None = ap (λ (xs : List Value). slice_get xs (length front)) parts ∙ get_later front [] in
      ap (λ (o : Option Value). (list_walk o place (length front)).reply ∷ walked 0 world (list_walk o place (length front)).cursor) found
  list_on (item ∷ rest) front parts =
      let found : slice_get items (length front) ≡ Some item = ap (λ (xs : List Value). slice_get xs (length front)) parts ∙ get_later front (item ∷ rest) in
      ap (λ (o : Option Value). (list_walk o place (length front)).reply ∷ walked (suc (length rest)) world (list_walk o place (length front)).cursor) found
      ∙ ap (λ (n : ℕ). reply.Value item ∷ walked (suc (length rest)) world (cursor.List place n false)) (sym (length-append front (item ∷ [])))
      ∙ ap (λ (all : List Reply). reply.Value item ∷ all) (list_on rest (front ++ item ∷ []) (parts ∙ sym (append_assoc front (item ∷ []) rest)))

  list_back : (count : ℕ) → count ≤ length items → walked (suc count) world (cursor.ListBack place (index_before count)) ≡ given_items (reverse (take count items)) ++ reply.Stop ∷ []
  list_back zero low = nothing items
    where
      nothing : (items : List Value) → reply.Stop ∷ [] ≡ given_items (reverse (take 0 items)) ++ reply.Stop ∷ []
      nothing [] = refl
      nothing (item ∷ items) = refl
  list_back (suc count) low =
      let more = taken_more items count (omega arith) in
      let last = more.0 in
      let turned : reverse (take (suc count) items) ≡ last ∷ reverse (take count items) = ap reverse more.2 ∙ reverse-append (take count items) (last ∷ []) in
      ap (λ (o : Option Value). (list_back_walk o place count).reply ∷ walked (suc count) world (list_back_walk o place count).cursor) more.1
      ∙ ap (λ (all : List Reply). reply.Value last ∷ all) (list_back count (omega arith))
      ∙ ap (λ (all : List Value). given_items all ++ reply.Stop ∷ []) (sym turned)

pub lists_walked : (world : List Content) (place : ℕ) → GivesAll world (list_iter place) (given_items (list_at world place))
lists_walked world place = ap (λ (n : ℕ). walked (suc n) world (list_iter place)) (length-map (list_at world place) (λ (v : Value). reply.Value v)) ∙ list_on world place (list_at world place) [] refl

pub lists_walked_back : (world : List Content) (place : ℕ) → GivesAll world (list_reversed place (list_at world place)) (reverse (given_items (list_at world place)))
lists_walked_back world place =
    let all = list_at world place in
    subst (GivesAll world (list_reversed place all)) (map_reversed (λ (v : Value). reply.Value v) all)
    (ap (λ (n : ℕ). walked (suc n) world (list_reversed place all)) (length-map (reverse all) (λ (v : Value). reply.Value v) ∙ length-reverse all)
    ∙ list_back world place (length all) (omega arith)
    ∙ ap (λ (xs : List Value). given_items (reverse xs) ++ reply.Stop ∷ []) (take_all all))
