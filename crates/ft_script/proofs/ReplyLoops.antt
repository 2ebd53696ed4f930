-- Going over tokens, each of which is read.
use Rattle.std.proofs.Common.{◌≡◌, ℕ, suc, ◌+◌, ◌-◌, ◌<◌, ◌≤◌, true, false, eqb, List, [], ◌∷◌, ◌++◌, length, take, drop, get_or, Result, Ok, Err, Bor, refl, sym, ap, ◌∙◌, arith, drop-cons, append_assoc}
use Rattle.std.proofs.Math.ListN.{drop_of_length-le}
use Rattle.std.proofs.lemmas.Bool.{eqb-true}
use Rattle.std.proofs.lemmas.List.{append-nil, take_all}
use Rattle.ft_model.specs.declared.data.Key.{Key}
use Rattle.ft_model.specs.declared.data.Value.{Value}
use Rattle.ft_script.specs.declared.fault.Fault.{Fault}
use Rattle.ft_script.specs.declared.fault.Fault.TheVariants as fault
use Rattle.ft_script.specs.declared.fault.LineError.{LineError}
use Rattle.ft_script.specs.declared.fault.LineError.TheVariants as error
use Rattle.ft_script.specs.Drafts.{◌>>=◌}
use Rattle.ft_script.specs.Internal.Outcomes.{Fails}
use Rattle.ft_script.specs.Internal.Candidates.{read_each, known_pair, read_pairs}
use Rattle.ft_script.proofs.TokenLists.{shown}

-- what is read of the tokens after some that are read already
abbrev pub after : {X : Type 0} → List X → Result (List X) Fault → Result (List X) Fault
after xs read = read >>= λ more. Ok (xs ++ more)

abbrev pub fronted : {X : Type 0} → Result (List X) Fault → X → Result (List X) Fault
fronted rest x = rest >>= λ xs. Ok (x ∷ xs)

abbrev pub good : {X : Type 0} → List X → Result (List X) Fault
good xs = Ok xs

after_more : {X : Type 0} (xs : List X) (x : X) (rest : Result (List X) Fault) → after xs (fronted rest x) ≡ after (xs ++ x ∷ []) rest
after_more xs x (Ok more) = ap good (sym (append_assoc xs (x ∷ []) more))
after_more xs x (Err e) = refl

after_nothing : {X : Type 0} (rest : Result (List X) Fault) → rest ≡ after [] rest
after_nothing (Ok more) = refl
after_nothing (Err e) = refl

next_token : (tokens : List (Bor (List ℕ))) (i : ℕ) (d : Bor (List ℕ)) → i < length tokens → shown (drop i tokens) ≡ (get_or tokens i d).now ∷ shown (drop (i + 1) tokens)
next_token tokens i d low = let next : suc i ≡ i + 1 = omega arith in ap shown (drop-cons tokens i d low) ∙ ap (λ (k : ℕ). (get_or tokens i d).now ∷ shown (drop k tokens)) next

pub each_first : {X : Type 0} (read : List ℕ → Result X Fault) (token : List ℕ) (tokens : List (List ℕ)) (is : Result X Fault) → read token ≡ is → read_each read (token ∷ tokens) ≡ (is >>= fronted (read_each read tokens))
unfolding read_each
each_first read token tokens is same = ap (λ (r : Result _ Fault). r >>= fronted (read_each read tokens)) same

pub each_nothing : {X : Type 0} (read : List ℕ → Result X Fault) → read_each read [] ≡ Ok []
unfolding read_each
each_nothing read = refl

pub each_begins : {X : Type 0} (read : List ℕ → Result X Fault) (tokens : List (List ℕ)) → after [] (read_each read tokens) ≡ read_each read tokens
each_begins read tokens = sym (after_nothing (read_each read tokens))

pub each_on : {X : Type 0} (read : List ℕ → Result X Fault) (xs : List X) (x : X) (tokens : List (Bor (List ℕ))) (i : ℕ) (d : Bor (List ℕ)) (whole : Result (List X) Fault) → i < length tokens → read (get_or tokens i d).now ≡ Ok x →
    after xs (read_each read (shown (drop i tokens))) ≡ whole → after (xs ++ x ∷ []) (read_each read (shown (drop (i + 1) tokens))) ≡ whole
each_on read xs x tokens i d whole low is so_far =
    sym (after_more xs x (read_each read (shown (drop (i + 1) tokens))))
    ∙ ap (after xs) (sym (ap (read_each read) (next_token tokens i d low) ∙ each_first read (get_or tokens i d).now (shown (drop (i + 1) tokens)) (Ok x) is))
    ∙ so_far

pub each_end : {X : Type 0} (read : List ℕ → Result X Fault) (e : LineError) (xs : List X) (tokens : List (Bor (List ℕ))) (i : ℕ) (d : Bor (List ℕ)) (whole : Result (List X) Fault) → i < length tokens → Fails e (read (get_or tokens i d).now) →
    after xs (read_each read (shown (drop i tokens))) ≡ whole → Fails e whole
each_end read error.Memory xs tokens i d whole low is so_far = tt
each_end read (error.Fault found) xs tokens i d whole low is so_far =
    sym so_far ∙ ap (after xs) (ap (read_each read) (next_token tokens i d low) ∙ each_first read (get_or tokens i d).now (shown (drop (i + 1) tokens)) (Err found) is)

pub each_done : {X : Type 0} (read : List ℕ → Result X Fault) (xs : List X) (tokens : List (Bor (List ℕ))) (i : ℕ) (whole : Result (List X) Fault) → length tokens ≤ i →
    after xs (read_each read (shown (drop i tokens))) ≡ whole → whole ≡ Ok xs
each_done read xs tokens i whole past so_far =
    sym so_far ∙ ap (after xs) (ap (λ (l : List (Bor (List ℕ))). read_each read (shown l)) (drop_of_length-le tokens past) ∙ each_nothing read) ∙ ap good (append-nil xs)

-- ---- pairs

pub pairs_first : (strings : List (List ℕ)) (first colon second : List ℕ) (tokens : List (List ℕ)) (is : Result (Key × Value) Fault) → known_pair strings first second ≡ is → read_pairs strings (first ∷ colon ∷ second ∷ tokens) ≡ (is >>= fronted (read_pairs strings tokens))
unfolding read_pairs
pairs_first strings first colon second tokens is same = ap (λ (r : Result (Key × Value) Fault). r >>= fronted (read_pairs strings tokens)) same

pub pairs_on : (strings : List (List ℕ)) (xs : List (Key × Value)) (x : Key × Value) (first colon second : List ℕ) (rest : List (List ℕ)) (whole : Result (List (Key × Value)) Fault) → known_pair strings first second ≡ Ok x →
    after xs (read_pairs strings (first ∷ colon ∷ second ∷ rest)) ≡ whole → after (xs ++ x ∷ []) (read_pairs strings rest) ≡ whole
pairs_on strings xs x first colon second rest whole is so_far =
    sym (after_more xs x (read_pairs strings rest)) ∙ ap (after xs) (sym (pairs_first strings first colon second rest (Ok x) is)) ∙ so_far

pub pairs_end : (strings : List (List ℕ)) (e : LineError) (xs : List (Key × Value)) (first colon second : List ℕ) (rest : List (List ℕ)) (whole : Result (List (Key × Value)) Fault) → Fails e (known_pair strings first second) →
    after xs (read_pairs strings (first ∷ colon ∷ second ∷ rest)) ≡ whole → Fails e whole
pairs_end strings error.Memory xs first colon second rest whole is so_far = tt
pairs_end strings (error.Fault found) xs first colon second rest whole is so_far =
    sym so_far ∙ ap (after xs) (pairs_first strings first colon second rest (Err found) is)

pub pairs_begin : (strings tokens : List (List ℕ)) → after [] (read_pairs strings tokens) ≡ read_pairs strings tokens
pairs_begin strings tokens = sym (after_nothing (read_pairs strings tokens))

pub three_on : (strings : List (List ℕ)) (xs : List (Key × Value)) (x : Key × Value) (rest : List (Bor (List ℕ))) (d e : Bor (List ℕ)) (whole : Result (List (Key × Value)) Fault) → 3 ≤ length rest → known_pair strings (get_or rest 0 d).now (get_or rest 2 e).now ≡ Ok x →
    after xs (read_pairs strings (shown rest)) ≡ whole → after (xs ++ x ∷ []) (read_pairs strings (shown (take (length rest - 3) (drop 3 rest)))) ≡ whole
three_on strings xs x [] d e whole long is so_far = absurd (omega arith)
three_on strings xs x (t ∷ []) d e whole long is so_far = absurd (omega arith)
three_on strings xs x (t ∷ u ∷ []) d e whole long is so_far = absurd (omega arith)
three_on strings xs x (t ∷ u ∷ v ∷ rest) d e whole long is so_far =
    let all : take (length (t ∷ u ∷ v ∷ rest) - 3) rest ≡ rest = take_all (length (t ∷ u ∷ v ∷ rest) - 3) rest (omega arith) in
    ap (λ (l : List (Bor (List ℕ))). after (xs ++ x ∷ []) (read_pairs strings (shown l))) all ∙ pairs_on strings xs x t.now u.now v.now (shown rest) whole is so_far

pub three_end : (strings : List (List ℕ)) (e : LineError) (xs : List (Key × Value)) (rest : List (Bor (List ℕ))) (d f : Bor (List ℕ)) (whole : Result (List (Key × Value)) Fault) → 3 ≤ length rest → Fails e (known_pair strings (get_or rest 0 d).now (get_or rest 2 f).now) →
    after xs (read_pairs strings (shown rest)) ≡ whole → Fails e whole
three_end strings e xs [] d f whole long is so_far = absurd (omega arith)
three_end strings e xs (t ∷ []) d f whole long is so_far = absurd (omega arith)
three_end strings e xs (t ∷ u ∷ []) d f whole long is so_far = absurd (omega arith)
three_end strings e xs (t ∷ u ∷ v ∷ rest) d f whole long is so_far = pairs_end strings e xs t.now u.now v.now (shown rest) whole is so_far

pub pairs_short : (strings : List (List ℕ)) (xs : List (Key × Value)) (rest : List (Bor (List ℕ))) (whole : Result (List (Key × Value)) Fault) → length rest < 3 → eqb (length rest) 0 ≡ false → after xs (read_pairs strings (shown rest)) ≡ whole → whole ≡ Err fault.WordCount
unfolding read_pairs
pairs_short strings xs [] whole short some so_far = absurd cc
pairs_short strings xs (t ∷ []) whole short some so_far = sym so_far
pairs_short strings xs (t ∷ u ∷ []) whole short some so_far = sym so_far
pairs_short strings xs (t ∷ u ∷ v ∷ rest) whole short some so_far = absurd (omega arith)

pub pairs_done : (strings : List (List ℕ)) (xs : List (Key × Value)) (rest : List (Bor (List ℕ))) (whole : Result (List (Key × Value)) Fault) → eqb (length rest) 0 ≡ true → after xs (read_pairs strings (shown rest)) ≡ whole → whole ≡ Ok xs
unfolding read_pairs
pairs_done strings xs [] whole none so_far = sym so_far ∙ ap good (append-nil xs)
pairs_done strings xs (t ∷ rest) whole none so_far = absurd (let e : length (t ∷ rest) ≡ 0 = eqb-true _ _ none in omega arith)
