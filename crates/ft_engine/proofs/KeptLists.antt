-- The lists that were kept of callers, when one takes in another, and when it closes the bank.
use Rattle.std.proofs.Common.{◌≡◌, ◌≢◌, ◌≤◌, ◌<◌, ◌⊎◌, ◌+◌, ◌-◌, ℕ, suc, true, List, [], ◌∷◌, ◌++◌, length, map, reverse, refl, sym, ap, ◌∙◌, subst, ⊎_elim, arith}
use Rattle.std.specs.Prelude.{option_map, slice_get}
use Rattle.std.specs.List.{flat_map}
use Rattle.std.proofs.lemmas.List.{length-append, length-reverse, nil_from_length}
use Rattle.ft_model.specs.declared.entry.Entry.{Entry as NamedEntry}
use Rattle.ft_model.specs.Worlds.{container_of}
use Rattle.ft_trace.specs.declared.Act.TheVariants.{ReadCounter}
use Rattle.ft_trace.specs.declared.Entry.{Entry}
use Rattle.ft_trace.specs.declared.Owner.{Owner}
use Rattle.ft_trace.specs.declared.Told.{Told}
use Rattle.ft_trace.specs.declared.View.{View}
use Rattle.ft_trace.specs.Acts.{all_lists, both, lists_of, own_told, seen_writes, tells, told_in, view_after, presence_of}
use Rattle.ft_trace.specs.Hands.{cursor_in}
use Rattle.ft_trace.specs.OwnCursors.{plain_entry}
use Rattle.ft_trace.specs.Owners.{AreOwners, found_owners, had_locks, is_owner_in}
use Rattle.ft_trace.proofs.Cases.{miss}
use Rattle.ft_trace.proofs.Owning.{in_either, in_left, in_right}
use Rattle.ft_bank.specs.Passes.{view}
use Rattle.ft_bank.specs.PassSections.{Stack, stack_of}
use Rattle.ft_bank_history.specs.Marks.{AreOfFirst, HasNamed, IsNamedIn}
use Rattle.ft_bank_history.specs.Numbering.{AreAllTold, HaveNamedEntries, HasNamedEntries}
use Rattle.ft_bank_history.proofs.ToldLists.{AreAlsoTold, all_told_more, told_first, told_last, told_then}
use Rattle.ft_engine.specs.declared.caller.Caller.{Caller}
use Rattle.ft_engine.specs.declared.caller.Flight.{Flight}
use Rattle.ft_engine.specs.declared.caller.Flight.TheVariants as flight
use Rattle.ft_engine.specs.Callers.{IsIdle, thread_of}
use Rattle.ft_engine.specs.DoneCallers.{WereAnswered}
use Rattle.ft_engine.specs.Keeping.{AreThreadEntries, WasAnswered}
use Rattle.ft_engine.specs.Owning.{AreOwnedBy, FlightNames, IsFlightFound}
use Rattle.ft_engine.proofs.Callers.{some_number}
use Rattle.ft_engine.proofs.Keeping.{kept_of, kept_same}
use Rattle.ft_engine.proofs.KnownOwners.{flight_more, marks_more_found}

-- the locks that the passes of a caller have had, and the passes that they found with locks
abbrev pub had_of : Caller → List Owner
had_of c = had_locks (view c.pass).number (view c.pass).log

abbrev pub found_of : Caller → List Owner
found_of c = found_owners (view c.pass).log

-- what they were told, and what a pass tells of them with itself
abbrev pub heard_by : Caller → List Told
heard_by c = told_in (view c.pass).log

abbrev pub told_by_all : Caller → List Told
told_by_all c = tells (view c.pass)

pub told_all : (c : Caller) → AreAlsoTold (heard_by c) (told_by_all c)
told_all c = told_then (heard_by c) ((view c.pass).told ++ heard_by c) (told_by_all c) (told_last (view c.pass).told (heard_by c)) (told_last (own_told (view c.pass)) ((view c.pass).told ++ heard_by c))

own_all : (c : Caller) → AreAllTold (thread_of c) (view c.pass).entries (told_by_all c)
own_all c =
    let v = view c.pass in
    let one : Told = record { pass = v.number; seen = seen_writes v; entries = v.entries; presence = presence_of v.log } in
    let some = some_number c.pass in
    let own : own_told v ≡ one ∷ [] = miss v.number 0 [] (one ∷ []) (λ none. omega (arith, none, some)) in
    (0, one, ap (λ (l : List Told). slice_get (l ++ (v.told ++ told_in v.log)) 0) own, (let e : v.number ≡ suc (v.number - 1) = omega (arith, some) in e), refl)

-- the entries of a caller that is in no call name what its pass had
idle_named : (v : View) (s : Stack) (f : Flight) (mine : List NamedEntry) → 0 < v.number → f ≡ flight.Idle → AreOwnedBy v s f mine → HasNamed (v.number - 1) (had_locks v.number v.log) mine
idle_named v s f mine some idle old o has =
    let same : v.number - 1 + 1 ≡ v.number = omega (arith, some) in
    ⊎_elim (λ (named : IsNamedIn o mine). named) (λ (flies : FlightNames o f). absurd (subst (FlightNames o) idle flies)) (old.named o (subst (λ (n : ℕ). is_owner_in o n (had_locks v.number v.log) ≡ true) same has))

idle_kept : (c : Caller) (mine : List NamedEntry) → IsIdle c → WasAnswered c mine → HasNamedEntries (thread_of c) mine (view c.pass).entries (had_of c) (found_of c) (told_by_all c)
idle_kept c mine idle kept =
    kept_of (thread_of c) (view c.pass).entries (stack_of c.pass) mine (had_of c) (found_of c) (told_by_all c) (subst (λ (f : Flight). AreThreadEntries (thread_of c) (view c.pass).entries (stack_of c.pass) f mine) idle kept.0)
    kept.1.marked (idle_named (view c.pass) (stack_of c.pass) c.flight mine (some_number c.pass) idle kept.1) (own_all c)

-- ---- more owners, and more told

-- the lists stay right where no other owners of their threads are there
more_kept : (thread : ℕ) (kept : List (List NamedEntry)) (lists : List (List Entry)) (had found had' found' : List Owner) (told told' : List Told) → AreOwners found found' → ((o q : ℕ) → thread < q → q ≤ thread + length kept → is_owner_in o q had' ≡ true → is_owner_in o q had ≡ true) → AreAlsoTold told told' → HaveNamedEntries thread kept lists had found told → HaveNamedEntries thread kept lists had' found' told'
more_kept thread [] [] had found had' found' told told' finds only also are = are
more_kept thread [] (l ∷ ls) had found had' found' told told' finds only also are = absurd are
more_kept thread (m ∷ ms) [] had found had' found' told told' finds only also are = absurd are
more_kept thread (m ∷ ms) (l ∷ ls) had found had' found' told told' finds only also are = (
  record {
    same = are.0.same;
    own = are.0.own;
    indexes = are.0.indexes;
    counted = are.0.counted;
    marked = marks_more_found found found' m finds are.0.marked;
    named = λ o has. are.0.named o (only o (thread + 1) (omega arith) (omega arith) has);
    all_told = all_told_more thread l told told' also are.0.all_told;
  },
  more_kept (suc thread) ms ls had found had' found' told told' finds (λ o q low high has. only o q (omega (arith, low)) (omega (arith, high)) has) also are.1,
)

-- all lists of a caller that is done
pub all_kept : (c : Caller) (kept : List (List NamedEntry)) → IsIdle c → WereAnswered c kept → HaveNamedEntries (thread_of c) kept (all_lists (view c.pass)) (had_of c) (found_of c) (told_by_all c)
all_kept c [] idle are = absurd are
all_kept c (mine ∷ others) idle are =
    (idle_kept c mine idle are.0, more_kept (suc (thread_of c)) others (view c.pass).lists (had_of c) (found_of c) (had_of c) (found_of c) (heard_by c) (told_by_all c) (λ o q has. has) (λ o q low high has. has) (told_all c) are.1)

pub closed_kept : (c : Caller) (kept : List (List NamedEntry)) (lists : List (List Entry)) (had found : List Owner) (told : List Told) → IsIdle c → thread_of c ≡ 0 → WereAnswered c kept → lists ≡ all_lists (view c.pass) → had ≡ had_of c → found ≡ found_of c → told ≡ told_by_all c → HaveNamedEntries 0 kept lists had found told
closed_kept c kept lists had found told idle first are is has finds tells_ =
    subst (λ (x : ℕ × List (List Entry) × List Owner × List Owner × List Told). HaveNamedEntries x.0 kept x.1 x.2 x.3 x.4) (λ d. (first d, sym is d, sym has d, sym finds d, sym tells_ d)) (all_kept c kept idle are)

-- where the callers were answered nothing, their passes have no entries
none_own : (mine : List NamedEntry) (entries : List Entry) → map plain_entry mine ≡ reverse entries → mine ≡ [] → entries ≡ []
none_own mine entries same none =
    nil_from_length entries (sym (length-reverse entries) ∙ (ap length (sym same) ∙ ap (λ (l : List NamedEntry). length (map plain_entry l)) none))

pub none_made : (thread : ℕ) (kept : List (List NamedEntry)) (lists : List (List Entry)) (had found : List Owner) (told : List Told) → HaveNamedEntries thread kept lists had found told → flat_map (λ mine. mine) kept ≡ [] → flat_map (λ entries. entries) lists ≡ []
none_made thread [] [] had found told are none = refl
none_made thread [] (l ∷ ls) had found told are none = absurd are
none_made thread (m ∷ ms) [] had found told are none = absurd are
none_made thread (m ∷ ms) (l ∷ ls) had found told are none =
    let rest = flat_map (λ (mine : List NamedEntry). mine) ms in
    let sum : length m + length rest ≡ 0 = sym (length-append m rest) ∙ ap length none in
    let first = none_own m l are.0.same (nil_from_length m (omega (arith, sum))) in
    ap (λ (own : List Entry). own ++ flat_map (λ (entries : List Entry). entries) ls) first ∙ none_made (suc thread) ms ls had found told are.1 (nil_from_length rest (omega (arith, sum)))

-- as many lists as passes that were taken in
kept_length : (thread : ℕ) (kept : List (List NamedEntry)) (lists : List (List Entry)) (had found : List Owner) (told : List Told) → HaveNamedEntries thread kept lists had found told → length kept ≡ length lists
kept_length thread [] [] had found told are = refl
kept_length thread [] (l ∷ ls) had found told are = absurd are
kept_length thread (m ∷ ms) [] had found told are = absurd are
kept_length thread (m ∷ ms) (l ∷ ls) had found told are = ap suc (kept_length (suc thread) ms ls had found told are.1)

pub all_length : (c : Caller) (kept : List (List NamedEntry)) → WereAnswered c kept → length kept ≡ suc (length (view c.pass).lists)
all_length c [] are = absurd are
all_length c (mine ∷ others) are = ap suc (kept_length (suc (thread_of c)) others (view c.pass).lists (had_of c) (found_of c) (heard_by c) are.1)

-- all owners are passes of the threads of these lists
all_within : (c : Caller) (kept : List (List NamedEntry)) → WereAnswered c kept → (o q : ℕ) → is_owner_in o q (had_of c) ≡ true → (thread_of c < q) × (q ≤ thread_of c + length kept)
all_within c [] are o q has = absurd are
all_within c (mine ∷ others) are o q has =
    let w = are.0.1.within o q has in
    let low = w.0 in
    let high = w.1 in
    let count = kept_length (suc (thread_of c)) others (view c.pass).lists (had_of c) (found_of c) (heard_by c) are.1 in
    let some = some_number c.pass in
    (omega (arith, low, some), omega (arith, high, count, some))

pub closed_first : (c : Caller) (kept : List (List NamedEntry)) (had : List Owner) → thread_of c ≡ 0 → WereAnswered c kept → had ≡ had_of c → AreOfFirst (length kept) had
closed_first c kept had first are is o q has =
    let w = all_within c kept are o q (sym (ap (is_owner_in o q) is) ∙ has) in
    let low = w.0 in
    let high = w.1 in
    (omega (arith, low, first), omega (arith, high, first))

kept_then : (thread : ℕ) (xs ys : List (List NamedEntry)) (ls ms : List (List Entry)) (had found : List Owner) (told : List Told) → HaveNamedEntries thread xs ls had found told → HaveNamedEntries (thread + length xs) ys ms had found told → HaveNamedEntries thread (xs ++ ys) (ls ++ ms) had found told
kept_then thread [] ys [] ms had found told are more = subst (λ (n : ℕ). HaveNamedEntries n ys ms had found told) (let e : thread + 0 ≡ thread = omega arith in e) more
kept_then thread [] ys (l ∷ ls) ms had found told are more = absurd are
kept_then thread (x ∷ xs) ys [] ms had found told are more = absurd are
kept_then thread (x ∷ xs) ys (l ∷ ls) ms had found told are more =
    (are.0, kept_then (suc thread) xs ys ls ms had found told are.1 (subst (λ (n : ℕ). HaveNamedEntries n ys ms had found told) (let e : thread + length (x ∷ xs) ≡ suc thread + length xs = omega arith in e) more))

-- a pass, which is no note, gives its own list too
pub given : (w : View) → w.number ≢ 0 → lists_of w ≡ all_lists w
given w live = miss w.number 0 w.lists (all_lists w) live

-- what a pass has that took another in: what the taken pass had and found comes first
pub record TakesIn (v u w : View) : Type 0 where
  pub number : w.number ≡ v.number
  pub entries : w.entries ≡ v.entries
  pub lists : w.lists ≡ v.lists ++ lists_of u
  pub had : had_locks w.number w.log ≡ had_locks u.number u.log ++ had_locks v.number v.log
  pub found : found_owners w.log ≡ found_owners u.log ++ found_owners v.log
  pub told : told_in w.log ≡ tells u ++ told_in v.log
  pub presence : presence_of w.log ≡ presence_of v.log
  pub cursors : (k : ℕ) → cursor_in k w.log ≡ cursor_in k v.log

pub joined_in : (v u w : View) (n : ℕ) → w ≡ view_after (ReadCounter n) (both v u) → TakesIn v u w
joined_in v u w n is = subst (TakesIn v u) (sym is) (record { number = refl; entries = refl; lists = refl; had = refl; found = refl; told = refl; presence = refl; cursors = λ k. refl })

module _ (c d other : Caller) (m : List NamedEntry) (mine theirs : List (List NamedEntry)) (is : TakesIn (view c.pass) (view other.pass) (view d.pass)) (stack : stack_of d.pass ≡ stack_of c.pass) (flies : d.flight ≡ c.flight) (live : (view other.pass).number ≢ 0) (are : WereAnswered c (m ∷ mine)) (more : WereAnswered other theirs) (next : thread_of other ≡ thread_of c + length (m ∷ mine)) where
  finds_old : AreOwners (found_of c) (found_of d)
  finds_old o q has = ap (is_owner_in o q) is.found ∙ in_right o q (found_of other) (found_of c) has

  finds_new : AreOwners (found_of other) (found_of d)
  finds_new o q has = ap (is_owner_in o q) is.found ∙ in_left o q (found_of other) (found_of c) has

  told_old : AreAlsoTold (heard_by c) (heard_by d)
  told_old = subst (AreAlsoTold (heard_by c)) (sym is.told) (told_last (told_by_all other) (heard_by c))

  told_new : AreAlsoTold (told_by_all other) (heard_by d)
  told_new = subst (AreAlsoTold (told_by_all other)) (sym is.told) (told_first (told_by_all other) (heard_by c))

  had_either : (o q : ℕ) → is_owner_in o q (had_of d) ≡ true → (is_owner_in o q (had_of other) ≡ true) ⊎ (is_owner_in o q (had_of c) ≡ true)
  had_either o q has = in_either o q (had_of other) (had_of c) (sym (ap (is_owner_in o q) is.had) ∙ has)

  -- owners of the threads so far
  only_old : (o q : ℕ) → q ≤ thread_of c + length (m ∷ mine) → is_owner_in o q (had_of d) ≡ true → is_owner_in o q (had_of c) ≡ true
  only_old o q high has =
      ⊎_elim
      (λ (new : is_owner_in o q (had_of other) ≡ true). let low = (all_within other theirs more o q new).0 in let e = next in absurd (omega (arith, low, high, e)))
      (λ (old : is_owner_in o q (had_of c) ≡ true). old) (had_either o q has)

  -- owners of the threads after them
  only_new : (o q : ℕ) → thread_of other < q → is_owner_in o q (had_of d) ≡ true → is_owner_in o q (had_of other) ≡ true
  only_new o q low has =
      ⊎_elim (λ (new : is_owner_in o q (had_of other) ≡ true). new)
      (λ (old : is_owner_in o q (had_of c) ≡ true). let high = (all_within c (m ∷ mine) are o q old).1 in let e = next in absurd (omega (arith, low, high, e))) (had_either o q has)

  number : (view d.pass).number ≡ (view c.pass).number
  number = is.number

  lists : (view c.pass).lists ++ all_lists (view other.pass) ≡ (view d.pass).lists
  lists =
      ap (λ (ls : List (List Entry)). (view c.pass).lists ++ ls) (sym (given (view other.pass) live)) ∙ sym is.lists

  joined_within : (o q : ℕ) → is_owner_in o q (had_of d) ≡ true → ((view d.pass).number ≤ q) × (q ≤ (view d.pass).number + length (view d.pass).lists)
  joined_within o q has =
      let count = sym (ap length lists) ∙ length-append (view c.pass).lists (all_lists (view other.pass)) in
      let same = number in
      let e = next in
      let some = some_number c.pass in
      let size = kept_length (suc (thread_of c)) mine (view c.pass).lists (had_of c) (found_of c) (heard_by c) are.1 in
      ⊎_elim
      (λ (new : is_owner_in o q (had_of other) ≡ true).
      let w = all_within other theirs more o q new in
      let low = w.0 in
      let high = w.1 in
      let theirs_size = all_length other theirs more in
      (omega (arith, low, e, same, some), omega (arith, high, e, same, some, count, size, theirs_size)))
      (λ (old : is_owner_in o q (had_of c) ≡ true).
      let w = are.0.1.within o q old in
      let low = w.0 in
      let high = w.1 in
      (omega (arith, low, same), omega (arith, high, same, count))) (had_either o q has)

  joined_owned : AreOwnedBy (view d.pass) (stack_of d.pass) d.flight m
  joined_owned =
      let old = are.0.1 in
      let now : AreOwnedBy (view d.pass) (stack_of c.pass) c.flight m = record {
        marked = marks_more_found (found_of c) (found_of d) m finds_old old.marked;
        waits = subst (λ (k : ℕ). IsFlightFound (k - 1) (found_of d) m c.flight (stack_of c.pass).mark) (sym number) (flight_more ((view c.pass).number - 1) (found_of c) (found_of d) m c.flight (stack_of c.pass).mark finds_old old.waits);
        named = λ o has.
            let some = some_number c.pass in
            let same = number in
            old.named o (subst (λ (k : ℕ). is_owner_in o k (had_of c) ≡ true) number (only_old o (view d.pass).number (omega (arith, some, same)) has));
        within = joined_within;
        walked = λ k. ap (option_map container_of) (is.cursors k) ∙ old.walked k;
        begun = old.begun;
      } in
      subst (λ (x : Stack × Flight). AreOwnedBy (view d.pass) x.0 x.1 m) (λ i. (sym stack i, sym flies i)) now

  joined_all : IsIdle other → WereAnswered d ((m ∷ mine) ++ theirs)
  joined_all idle =
      let threads : thread_of c ≡ thread_of d = sym (ap (λ (k : ℕ). k - 1) is.number) in
      let same = kept_same (thread_of c) (view c.pass).entries (stack_of c.pass) c.flight m are.0.0 (view d.pass).entries (stack_of d.pass) is.entries stack in
      let front = more_kept (suc (thread_of c)) mine (view c.pass).lists (had_of c) (found_of c) (had_of d) (found_of d) (heard_by c) (heard_by d) finds_old (λ o q low high has. only_old o q (omega (arith, high)) has) told_old are.1 in
      let back = more_kept (thread_of other) theirs (all_lists (view other.pass)) (had_of other) (found_of other) (had_of d) (found_of d) (told_by_all other) (heard_by d) finds_new (λ o q low high has. only_new o q low has) told_new (all_kept other theirs idle more) in
      let all = kept_then (suc (thread_of c)) mine theirs (view c.pass).lists (all_lists (view other.pass)) (had_of d) (found_of d) (heard_by d) front
      (subst (λ (t : ℕ). HaveNamedEntries t theirs (all_lists (view other.pass)) (had_of d) (found_of d) (heard_by d)) (let e = next in let f : thread_of other ≡ suc (thread_of c) + length mine = omega (arith, e) in f) back) in (
        (subst (λ (x : ℕ × Flight). AreThreadEntries x.0 (view d.pass).entries (stack_of d.pass) x.1 m) (λ i. (threads i, sym flies i)) same, joined_owned),
        subst (λ (x : ℕ × List (List Entry)). HaveNamedEntries (suc x.0) (mine ++ theirs) x.1 (had_of d) (found_of d) (heard_by d)) (λ i. (threads i, lists i)) all,
      )

pub joined_state : (c d other : Caller) (mine theirs : List (List NamedEntry)) → TakesIn (view c.pass) (view other.pass) (view d.pass) → stack_of d.pass ≡ stack_of c.pass → d.flight ≡ c.flight → (view other.pass).number ≢ 0 → IsIdle other → WereAnswered c mine → WereAnswered other theirs → thread_of other ≡ thread_of c + length mine → WereAnswered d (mine ++ theirs)
joined_state c d other [] theirs is stack flies live idle are more next = absurd are
joined_state c d other (m ∷ mine) theirs is stack flies live idle are more next = joined_all c d other m mine theirs is stack flies live are more next idle
