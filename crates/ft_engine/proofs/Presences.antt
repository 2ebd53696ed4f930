-- What is told of passes that were online while they made their entries, as one takes in another.
use Rattle.std.proofs.Common.{◌≡◌, ◌≢◌, ◌+◌, ◌-◌, ℕ, suc, List, [], ◌∷◌, ◌++◌, length, refl, sym, ap, ◌∙◌, subst, arith}
use Rattle.std.specs.Prelude.{slice_get}
use Rattle.ft_trace.specs.declared.Entry.{Entry}
use Rattle.ft_trace.specs.declared.Told.{Told}
use Rattle.ft_trace.specs.Acts.{all_lists, own_told, presence_of, seen_writes, tells, told_in}
use Rattle.ft_trace.proofs.Cases.{miss}
use Rattle.ft_bank.specs.Closings.{AreToldOnline, IsToldOnline, HasBeenOnline}
use Rattle.ft_bank.specs.Passes.{view}
use Rattle.ft_bank_history.proofs.ToldLists.{AreAlsoTold, told_first, told_last}
use Rattle.ft_engine.specs.declared.caller.Caller.{Caller}
use Rattle.ft_engine.specs.Callers.{taken_of, thread_of}
use Rattle.ft_engine.specs.Presences.{WereOnline}
use Rattle.ft_engine.proofs.Callers.{some_number}
use Rattle.ft_engine.proofs.KeptLists.{TakesIn, given, told_all}

-- what is told stays so where more is told
more_online : (told more : List Told) (thread : ℕ) (lists : List (List Entry)) → AreAlsoTold told more → AreToldOnline told thread lists → AreToldOnline more thread lists
more_online told more thread [] also are = tt
more_online told more thread (own ∷ lists) also are =
    let there = also are.0.0 are.0.1 are.0.2 in
    ((there.0, are.0.1, there.1, are.0.3, are.0.4, are.0.5), more_online told more (suc thread) lists also are.1)

online_then : (told : List Told) (thread : ℕ) (xs ys : List (List Entry)) → AreToldOnline told thread xs → AreToldOnline told (thread + length xs) ys → AreToldOnline told thread (xs ++ ys)
online_then told thread [] ys are more = subst (λ (n : ℕ). AreToldOnline told n ys) (let e : thread + 0 ≡ thread = omega arith in e) more
online_then told thread (x ∷ xs) ys are more =
    (are.0, online_then told (suc thread) xs ys are.1 (subst (λ (n : ℕ). AreToldOnline told n ys) (let e : thread + length (x ∷ xs) ≡ suc thread + length xs = omega arith in e) more))

-- what a caller tells of itself
own_online : (c : Caller) → WereOnline c → IsToldOnline (tells (view c.pass)) (thread_of c) (view c.pass).entries
own_online c were =
    let v = view c.pass in
    let one : Told = record { pass = v.number; seen = seen_writes v; entries = v.entries; presence = presence_of v.log } in
    let some = some_number c.pass in
    let own : own_told v ≡ one ∷ [] = miss v.number 0 [] (one ∷ []) (λ none. omega (arith, none, some)) in
    (0, one, ap (λ (l : List Told). slice_get (l ++ (v.told ++ told_in v.log)) 0) own, (let e : v.number ≡ suc (v.number - 1) = omega (arith, some) in e), refl, were.own)

pub all_online : (c : Caller) → WereOnline c → AreToldOnline (tells (view c.pass)) (thread_of c) (all_lists (view c.pass))
all_online c were =
    let v = view c.pass in
    (own_online c were, more_online (told_in v.log) (tells v) (suc (thread_of c)) v.lists (told_all c) were.taken)

-- a caller that took in another one
pub joined_online : (c d other : Caller) → TakesIn (view c.pass) (view other.pass) (view d.pass) → (view other.pass).number ≢ 0 → WereOnline c → WereOnline other → thread_of other ≡ suc (thread_of c + length (taken_of c)) → WereOnline d
joined_online c d other is live were theirs next =
    let v = view c.pass in
    let u = view other.pass in
    let w = view d.pass in
    let told = tells u ++ told_in v.log in
    let old = more_online (told_in v.log) told (suc (thread_of c)) v.lists (told_last (tells u) (told_in v.log)) were.taken in
    let new = more_online (tells u) told (thread_of other) (all_lists u) (told_first (tells u) (told_in v.log)) (all_online other theirs) in
    let place : thread_of other ≡ suc (thread_of c) + length v.lists = omega (arith, next) in
    let both = online_then told (suc (thread_of c)) v.lists (all_lists u) old (subst (λ (n : ℕ). AreToldOnline told n (all_lists u)) place new) in
    let lists : w.lists ≡ v.lists ++ all_lists u = is.lists ∙ ap (λ (l : List (List Entry)). v.lists ++ l) (given u live) in
    record {
      own = subst HasBeenOnline (sym is.presence) were.own;
      taken = subst (λ (x : List Told × ℕ × List (List Entry)). AreToldOnline x.0 (suc (x.1 - 1)) x.2) (λ d. (sym is.told d, sym is.number d, sym lists d)) both;
    }

-- a caller whose pass has done nothing that they speak of
pub same_online : (c d : Caller) → (view d.pass).number ≡ (view c.pass).number → (view d.pass).lists ≡ (view c.pass).lists → presence_of (view d.pass).log ≡ presence_of (view c.pass).log → told_in (view d.pass).log ≡ told_in (view c.pass).log → WereOnline c → WereOnline d
same_online c d number lists same told were =
    record {
      own = subst HasBeenOnline (sym same) were.own;
      taken = subst (λ (x : List Told × ℕ × List (List Entry)). AreToldOnline x.0 (suc (x.1 - 1)) x.2) (λ d. (sym told d, sym number d, sym lists d)) were.taken;
    }

-- what stands in the bank that a caller closes
pub closed_online : (c : Caller) (lists : List (List Entry)) (told : List Told) → thread_of c ≡ 0 → lists ≡ all_lists (view c.pass) → told ≡ tells (view c.pass) → WereOnline c → AreToldOnline told 0 lists
closed_online c lists told first same tells_ were =
    subst (λ (x : List Told × ℕ × List (List Entry)). AreToldOnline x.0 x.1 x.2) (λ d. (sym tells_ d, first d, sym same d)) (all_online c were)
