-- A MemoryError of a heap stands after as many writes of its pass that put a value in a box as its heap has places: none
-- of the places was free, each that isn't was stored by a write of the pass, and a write stores one box at most.
use Rattle.std.proofs.Common.{◌≡◌, ◌≢◌, ◌⊎◌, ℕ, zero, suc, eqb, ◌+◌, ◌-◌, ◌*◌, ◌/◌, ◌%◌, ◌<◌, ◌≤◌, le_refl, Bool, true, false, true≢false, cond, List, [], ◌∷◌, ◌++◌, take, length, reverse, refl, sym, ap, ◌∙◌, subst, inl, inr, ⊎_elim, arith}
use Rattle.std.specs.Prelude.{◌&&◌, All}
use Rattle.std.specs.List.{count_by, flat_map}
use Rattle.std.proofs.lemmas.List.Elements.{All-nil, All-cons, All-head, All-tail, All-append, All-weaker}
use Rattle.std.proofs.lemmas.List.Sums.{sum_by-cons}
use mathlib.Core.Option.{some, some-injective}
use mathlib.Core.Logic.{dite}
use native.Mathlib.Decide.{ℕ_discrete}
use lib.ListN.{get_elem?}
use Rattle.ft_model.specs.declared.call.Call.{Call}
use Rattle.ft_model.specs.declared.content.Content.{Content}
use Rattle.ft_model.specs.declared.reply.Reply.{Reply}
use Rattle.ft_model.specs.declared.reply.Reply.TheVariants as reply
use Rattle.ft_model.specs.declared.reply.Raise.TheVariants as raise
use Rattle.ft_model.specs.declared.script.Start.{Start}
use Rattle.ft_model.specs.Answers.{is_memory, is_write, world_by}
use Rattle.ft_model.specs.Boxings.{boxes}
use Rattle.ft_model.specs.Calls.{is_changing}
use Rattle.ft_model.specs.TableUses.{StoredWorld, stored_newest}
use Rattle.ft_model.proofs.StoredLaws.{stored_world}
use Rattle.ft_trace.specs.declared.Act.{Act}
use Rattle.ft_trace.specs.declared.Act.TheVariants.{Commit, Answer, AnswerCursor, TakePlace, GivePlace, ReadFreePlaces, TookOver}
use Rattle.ft_trace.specs.declared.Entry.{Entry}
use Rattle.ft_trace.specs.declared.Shape.{Shape}
use Rattle.ft_trace.specs.declared.View.{View}
use Rattle.ft_trace.specs.Acts.{place, Reports, starter, view_after, maker, made, both, spent, sender, note, all_lists, lists_of, hands_over, tells}
use Rattle.ft_trace.specs.Addresses.{IsBoxName, maker_of, place_in, place_word_of, place_bit_of}
use Rattle.ft_trace.specs.Bits.{bit}
use Rattle.ft_trace.specs.Boxes.{place_use, place_use_next, StoresTaken}
use Rattle.ft_trace.specs.BoxTraces.{was_stored, place_bit}
use Rattle.ft_trace.specs.Causes.{AreOfOneCall, GiveNoPlace, FoundNoPlace, HasCause, HeapIsFull}
use Rattle.ft_trace.specs.ContainerStates.{first_writes}
use Rattle.ft_trace.specs.Entries.{AllRight}
use Rattle.ft_trace.specs.HeapErrors.{has_boxed, HeapErrorsFollowBoxings, HeapErrorsAreEarned}
use Rattle.ft_trace.specs.Owners.{had_locks, found_owners}
use Rattle.ft_trace.specs.Sums.{sum_to}
use Rattle.ft_trace.specs.Traces.{Event, did, forked, joined, sent, run, word, writes_of, history, May, Valid}
use Rattle.ft_trace.proofs.Announcing.{fits}
use Rattle.ft_trace.proofs.Cases.{here, miss}
use Rattle.ft_trace.proofs.ClosedEntries.{all_right}
use Rattle.ft_trace.proofs.Contents.{counted}
use Rattle.ft_trace.proofs.CursorAnswers.{moved_plain}
use Rattle.ft_trace.proofs.EarlierMoments.{was}
use Rattle.ft_trace.proofs.HeapPlaces.{bit_none, first_of, rest_of, no_log}
use Rattle.ft_trace.proofs.InOrder.{stored_in_order}
use Rattle.ft_trace.proofs.OwnOrder.{given_lists, right_parts}
use Rattle.ft_trace.proofs.PlacesInUse.{places_in_use_were_stored}
use Rattle.ft_trace.proofs.Replying.{never_writes}
use Rattle.ft_trace.proofs.Seats.{same_seat}
use Rattle.ft_trace.proofs.Sizes.{sized, set_views, one_more, one_view}
use Rattle.ft_trace.proofs.Stamps.{writes_stay, all_writes}
use Rattle.ft_trace.proofs.StoredBoxes.{two_conds}
use Rattle.ft_trace.proofs.SeenNames.{stored_at}
use Rattle.ft_trace.proofs.Sums.{sum_same, sum_one}

-- ---- places that writes of a pass have stored

-- 1 where a write has stored a place that is used so
abbrev is_stored : ℕ → ℕ
is_stored n = cond (eqb n 2) 1 0

-- how many of the first places of the heap q
abbrev stored_count : ℕ → List Act → ℕ → ℕ
stored_count q l n = sum_to (λ p. is_stored (place_use (q * 65536 + p) l)) n

take_leaves : (x y : Bool) (n : ℕ) → is_stored (cond x (cond y (cond (eqb n 2) 2 1) n) n) ≡ is_stored n
take_leaves true true n =
    dite (ℕ_discrete n 2)
    (λ (two : n ≡ 2). subst (λ (z : ℕ). is_stored (cond (eqb z 2) 2 1) ≡ is_stored z) (sym two) refl)
    (λ ne. ap is_stored (miss n 2 2 1 ne) ∙ sym (miss n 2 1 0 ne))
take_leaves true false n = refl
take_leaves false y n = refl

give_leaves : (x : Bool) (n : ℕ) → is_stored (cond x (cond (eqb n 1) 0 n) n) ≡ is_stored n
give_leaves true n =
    dite (ℕ_discrete n 1)
    (λ (one : n ≡ 1). subst (λ (z : ℕ). is_stored (cond (eqb z 1) 0 z) ≡ is_stored z) (sym one) refl)
    (λ ne. ap is_stored (miss n 1 0 n ne))
give_leaves false n = refl

commit_leaves : (n : ℕ) → n ≢ 1 → is_stored (cond (eqb n 1) 2 n) ≡ is_stored n
commit_leaves n ne = ap is_stored (miss n 1 2 n ne)

-- only a commit stores a place
abbrev IsNotCommit : Act → Type 0
IsNotCommit (Commit c r f s) = ⊥
IsNotCommit act = Unit {0}

use_leaves : (b : ℕ) (a : Act) (n : ℕ) → IsNotCommit a → is_stored (place_use_next b a n) ≡ is_stored n
use_leaves b (TakePlace c f) n is = take_leaves (eqb c b) (eqb (bit (place_bit_of c) f) 1) n
use_leaves b (GivePlace c) n is = give_leaves (eqb c b) n
use_leaves b (Commit c r f s) n is = absurd is
use_leaves b act n is = refl

-- one of so many places that the pass has taken and no write has stored
abbrev Taken : ℕ → List Act → ℕ → Type 0
Taken q l n = (p : ℕ) × (p < n) × (place_use (q * 65536 + p) l ≡ 1)

find_taken : (q : ℕ) (l : List Act) (n : ℕ) → Taken q l n ⊎ ((p : ℕ) → p < n → place_use (q * 65536 + p) l ≢ 1)
find_taken q l zero = inr (λ p low. absurd (omega (arith, low)))
find_taken q l (suc n) =
    dite (ℕ_discrete (place_use (q * 65536 + n) l) 1)
    (λ (one : place_use (q * 65536 + n) l ≡ 1). inl (n, omega arith, one))
    (λ other.
    ⊎_elim
    (λ (t : Taken q l n). let low = t.1 in inl (t.0, omega (arith, low), t.2))
    (λ none. inr (λ p low.
    dite (ℕ_discrete p n)
    (λ (e : p ≡ n) one. other (sym (ap (λ (z : ℕ). place_use (q * 65536 + z) l) e) ∙ one))
    (λ ne. none p (omega (arith, low, ne)))))
    (find_taken q l n))

-- ---- entries that put a value in a box

-- whether one did, where these are the writes, newest first; and how many
abbrev boxed_in : List Start → List Call → Entry → Bool
boxed_in starts cs e = e.wrote && boxes (stored_newest starts (first_writes e.stamp cs)).world e.call

abbrev boxed_count : List Start → List Call → List Entry → ℕ
boxed_count starts cs l = count_by (boxed_in starts cs) l

one_more_boxed : (starts : List Start) (cs : List Call) (e : Entry) (l : List Entry) → boxed_count starts cs (e ∷ l) ≡ cond (boxed_in starts cs e) 1 0 + boxed_count starts cs l
one_more_boxed starts cs e l = sum_by-cons (λ (x : Entry). cond {A = ℕ} (boxed_in starts cs x) 1 0) e l

count_rises : (starts : List Start) (cs : List Call) (e : Entry) (l : List Entry) → boxed_count starts cs l ≤ boxed_count starts cs (e ∷ l)
count_rises starts cs e l = let m = one_more_boxed starts cs e l in omega (arith, m)

-- writes that come later leave what is said of those that were made
boxed_stays : (starts : List Start) (b : Act) (cs : List Call) (l : List Entry) → AllRight starts cs l → boxed_count starts (writes_of b cs) l ≡ boxed_count starts cs l
boxed_stays starts b cs [] right = refl
boxed_stays starts b cs (e ∷ l) right =
    let one = one_more_boxed starts (writes_of b cs) e l in
    let two = one_more_boxed starts cs e l in
    let same : ◌≡◌ {A = ℕ} (cond (boxed_in starts (writes_of b cs) e) 1 0) (cond (boxed_in starts cs e) 1 0) = ap (λ (z : List Call). cond {A = ℕ} (e.wrote && boxes (stored_newest starts z).world e.call) 1 0) (writes_stay e.stamp b cs right.0.low) in
    let rest = boxed_stays starts b cs l right.1 in
    omega (arith, one, two, same, rest)

-- ---- what a pass has stored is at most what it boxed

abbrev Counted : Shape → List Call → View → Type 0
Counted k cs u = (q n : ℕ) → stored_count q u.log n ≤ boxed_count k.starts cs u.entries

none_stored : (q n : ℕ) → stored_count q [] n ≡ 0
none_stored q zero = refl
none_stored q (suc n) = let z = none_stored q n in omega (arith, z)

begun : (k : Shape) (cs : List Call) (u : View) → u.log ≡ [] → Counted k cs u
begun k cs u e q n = let z : stored_count q u.log n ≡ 0 = ap (λ (l : List Act). stored_count q l n) e ∙ none_stored q n in omega (arith, z)

-- an action that is no commit
other_counted : (k : Shape) (cs : List Call) (v : View) (a : Act) → IsNotCommit a → Counted k cs v → boxed_count k.starts cs v.entries ≤ boxed_count k.starts cs (view_after a v).entries → Counted k cs (view_after a v)
other_counted k cs v a is old more q n =
    let same = sum_same (λ p. is_stored (place_use (q * 65536 + p) (a ∷ v.log))) (λ p. is_stored (place_use (q * 65536 + p) v.log)) n (λ p low. use_leaves (q * 65536 + p) a (place_use (q * 65536 + p) v.log) is) in
    let low = old q n in
    omega (arith, same, low, more)

-- a commit stores the one place at most that the pass had taken, and then its call is one that boxes
committed : (k : Shape) (cs : List Call) (v : View) (c : Call) (r : Reply) (f : ℕ) (s : _) → f ≡ length cs → StoresTaken k (stored_newest k.starts cs).world v.log c → boxed_count k.starts (c ∷ cs) v.entries ≡ boxed_count k.starts cs v.entries → Counted k cs v → Counted k (c ∷ cs) (view_after (Commit c r f s) v)
committed k cs v c r f s number stores same old q n =
    let a : Act = Commit c r f s in
    let e : Entry = record { call = c; reply = r; stamp = f; wrote = true } in
    let more = one_more_boxed k.starts (c ∷ cs) e v.entries in
    let low = old q n in
    let now : ℕ → ℕ = λ p. is_stored (place_use (q * 65536 + p) (a ∷ v.log)) in
    let before : ℕ → ℕ = λ p. is_stored (place_use (q * 65536 + p) v.log) in
    ⊎_elim
    (λ (t : Taken q v.log n).
    let p : ℕ = t.0 in
    let small = t.1 in
    let others : (i : ℕ) → i < n → i ≢ p → now i ≡ before i = λ i _ ne. commit_leaves (place_use (q * 65536 + i) v.log) (λ one. let both_ = stores.1 (q * 65536 + i) (q * 65536 + p) one t.2 in ne (omega (arith, both_))) in
    let sum = sum_one now before n p t.1 others in
    let one : now p ≡ 1 = ap is_stored (here (place_use (q * 65536 + p) v.log) 1 2 (place_use (q * 65536 + p) v.log) t.2) in
    let zero_ : before p ≡ 0 = ap is_stored t.2 in
    let world : first_writes f (c ∷ cs) ≡ cs = writes_stay f (Commit c r f s) cs (omega (arith, number)) ∙ (ap (λ (z : ℕ). first_writes z cs) number ∙ all_writes cs) in
    let is : ◌≡◌ {A = ℕ} (cond (boxed_in k.starts (c ∷ cs) e) 1 0) 1 = ap (λ (z : List Call). cond {A = ℕ} (boxes (stored_newest k.starts z).world c) 1 0) world ∙ ap (λ (z : Bool). cond {A = ℕ} z 1 0) (stores.0 (q * 65536 + p) t.2).1 in
    omega (arith, sum, one, zero_, more, is, same, low))
    (λ none.
    let sum = sum_same now before n (λ p small. commit_leaves (place_use (q * 65536 + p) v.log) (none p small)) in
    omega (arith, sum, more, same, low))
    (find_taken q v.log n)

counted_next : (k : Shape) (es : List Event) → Valid k es → (v : View) (a : Act) → Reports a (word k es (place a)) → May k (run k es) (history es) v a → AllRight k.starts (history es) v.entries → Counted k (history es) v → Counted k (writes_of a (history es)) (view_after a v)
counted_next k es valid v (Commit c r f s) found may right old = committed k (history es) v c r f s (found ∙ counted k es valid) may.14 (boxed_stays k.starts (Commit c r f s) (history es) v.entries right) old
counted_next k es valid v (Answer c r n) found may right old = other_counted k (history es) v (Answer c r n) tt old (count_rises k.starts (history es) (record { call = c; reply = r; stamp = n; wrote = false }) v.entries)
counted_next k es valid v (AnswerCursor c r n m had left) found may right old = other_counted k (history es) v (AnswerCursor c r n m had left) tt old (count_rises k.starts (history es) (record { call = c; reply = r; stamp = n; wrote = false }) v.entries)
counted_next k es valid v a found may right old = other_counted k (history es) v a tt old (omega arith)

counted_stays : (k : Shape) (b : Act) (cs : List Call) (u : View) → AllRight k.starts cs u.entries → Counted k cs u → Counted k (writes_of b cs) u
counted_stays k b cs u right old q n = let low = old q n in let same = boxed_stays k.starts b cs u.entries right in omega (arith, low, same)

-- ---- a place that was found in use stays so

abbrev InUse : ℕ → Type 0
InUse n = (n ≡ 1) ⊎ (n ≡ 2)

use_one : (b : ℕ) (a : Act) → GiveNoPlace (a ∷ []) → InUse (place_use_next b a 1)
use_one b (TakePlace c f) none = inl (two_conds (eqb c b) (eqb (bit (place_bit_of c) f) 1) 1)
use_one b (Commit c r f s) none = inr refl
use_one b (GivePlace c) none = absurd none
use_one b a none = inl refl

use_two : (b : ℕ) (a : Act) → GiveNoPlace (a ∷ []) → InUse (place_use_next b a 2)
use_two b (TakePlace c f) none = inr (two_conds (eqb c b) (eqb (bit (place_bit_of c) f) 1) 2)
use_two b (Commit c r f s) none = inr refl
use_two b (GivePlace c) none = absurd none
use_two b a none = inr refl

stays_in_use : (b : ℕ) (a : Act) (n : ℕ) → GiveNoPlace (a ∷ []) → InUse n → InUse (place_use_next b a n)
stays_in_use b a n none (inl one) = subst (λ (z : ℕ). InUse (place_use_next b a z)) (sym one) (use_one b a none)
stays_in_use b a n none (inr two) = subst (λ (z : ℕ). InUse (place_use_next b a z)) (sym two) (use_two b a none)

none_one : (a : Act) (l : List Act) → GiveNoPlace (a ∷ l) → GiveNoPlace (a ∷ [])
none_one (GivePlace c) l none = none
none_one a l none = tt

none_rest : (a : Act) (l : List Act) → GiveNoPlace (a ∷ l) → GiveNoPlace l
none_rest (GivePlace c) l none = absurd none
none_rest a l none = none

module _ (k : Shape) (b : ℕ) (is : IsBoxName k b) where
  abbrev full : Act
  full = ReadFreePlaces (maker_of b) (place_word_of b) 0

  -- the maker found no free place in the word of the place, and has given none back since
  abbrev Found : View → Type 0
  Found u = u.number ≡ suc (maker_of b) → (newer rest : List Act) → u.log ≡ newer ++ full ∷ rest → GiveNoPlace newer → InUse (place_use b u.log)

  found_now : (es : List Event) (id : ℕ) (v : View) → Valid k (did id v full ∷ es) → v.number ≡ suc (maker_of b) → InUse (place_use b v.log)
  found_now es id v ok mine =
      let none : bit (place_bit_of b) 0 ≡ place_bit k b es = ap (bit (place_bit_of b)) ok.1.2 in
      ⊎_elim
      (λ (e : was_stored b es ≡ true). inr ((stored_at k b es ok.0).mine id v ok.1.0 mine e))
      (λ (t : (j : ℕ) × (u : View) × (get_elem? (run k es).views j ≡ some u) × (u.number ≡ suc (maker_of b)) × (place_use b u.log ≡ 1)).
      let same = same_seat k es ok.0 id t.0 v t.1 ok.1.0 t.2 ok.1.1 (mine ∙ sym t.3) in
      let one : v ≡ t.1 = some-injective v t.1 (sym ok.1.0 ∙ (ap (get_elem? (run k es).views) same ∙ t.2)) in
      inl (ap (λ (z : View). place_use b z.log) one ∙ t.4))
      (places_in_use_were_stored k b es ok.0 is (sym none ∙ bit_none (place_bit_of b)))

  own_found : (es : List Event) (id : ℕ) (v : View) (a : Act) → Valid k (did id v a ∷ es) → Found v → Found (view_after a v)
  own_found es id v a valid old mine [] rest log none =
      let same : full ≡ a = sym (ap (first_of a) log) in
      let F : Act → Type 0 = λ c. Valid k (did id v c ∷ es) → InUse (place_use_next b c (place_use b v.log)) in
      subst F same (λ ok. found_now es id v ok mine) valid
  own_found es id v a valid old mine (c ∷ newer) rest log none =
      let same : c ≡ a = sym (ap (first_of a) log) in
      stays_in_use b a (place_use b v.log) (subst (λ (z : Act). GiveNoPlace (z ∷ [])) same (none_one c newer none)) (old mine newer rest (ap rest_of log) (none_rest c newer none))

  nothing_yet : (u : View) → u.log ≡ [] → Found u
  nothing_yet u e mine newer rest log none = no_log newer full rest (sym e ∙ log)

  joined_found : (v w : View) → Found v → Found (both v w)
  joined_found v w old mine [] rest log none =
      let same : TookOver (hands_over w.log) (had_locks w.number w.log) (found_owners w.log) (tells w) ≡ full = ap (first_of full) log in
      absurd (cc)
  joined_found v w old mine (c ∷ newer) rest log none = old mine newer rest (ap rest_of log) (none_rest c newer none)

  found : (es : List Event) → Valid k es → (j : ℕ) (u : View) → get_elem? (run k es).views j ≡ some u → Found u
  found [] valid = one_view (λ j u. Found u) (starter k) (nothing_yet (starter k) refl)
  found (did id v a ∷ es) valid =
      let old = found es valid.0 in
      set_views (λ j u. Found u) _ id (view_after a v) (own_found es id v a valid (old id v valid.1.0)) (λ j u _ e. old j u e)
  found (forked id v ∷ es) valid =
      let old = found es valid.0 in
      one_more (λ j u. Found u) _ (made v) (nothing_yet (made v) refl) (set_views (λ j u. Found u) _ id (maker v) (old id v valid.1.0) (λ j u _ e. old j u e))
  found (sent id v given ∷ es) valid =
      let old = found es valid.0 in
      one_more (λ j u. Found u) _ (note given v) (nothing_yet (note given v) refl) (set_views (λ j u. Found u) _ id (sender given v) (old id v valid.1.0) (λ j u _ e. old j u e))
  found (joined id v other w ∷ es) valid =
      let old = found es valid.0 in
      set_views (λ j u. Found u) _ other spent (nothing_yet spent refl) (λ j u _. set_views (λ j u. Found u) _ id (both v w) (joined_found v w (old id v valid.1.0)) (λ i y _ e. old i y e) j u)

-- ---- a full heap

-- the box in place p of the heap q
maker_is : (q p : ℕ) → p < 65536 → maker_of (q * 65536 + p) ≡ q
unfolding maker_of
maker_is q p low = omega (arith, low)

word_is : (q p : ℕ) → p < 65536 → place_word_of (q * 65536 + p) ≡ p / 64
unfolding place_word_of place_in
word_is q p low = omega (arith, low)

named : (k : Shape) (q p : ℕ) → q < k.passes → p < k.heap → k.heap ≤ 4096 → k.heap % 64 ≡ 0 → IsBoxName k (q * 65536 + p)
unfolding maker_of place_in place_word_of
named k q p pass low small even = (omega (arith, pass, low, small), omega (arith, low, small), omega (arith, low, small, even))

-- a pass with its number, which found its heap full
module _ (k : Shape) (es : List Event) (valid : Valid k es) (id : ℕ) (v : View) (at : get_elem? (run k es).views id ≡ some v) (q : ℕ) (number : v.number ≡ suc q) (pass : q < k.passes) (full_heap : HeapIsFull k v.number v.log) where
  all_used : (p : ℕ) → p < k.heap → place_use (q * 65536 + p) v.log ≡ 2
  all_used p low =
      let heap = (fits k es valid).heap in
      let small = heap.0 in
      let even = heap.1 in
      let b : ℕ = q * 65536 + p in
      let far : p < 65536 = omega (arith, low, small) in
      let name = named k q p pass low small even in
      let maker_ = maker_is q p far in
      let word_ = word_is q p far in
      let one : v.number - 1 ≡ maker_of b = omega (arith, number, maker_) in
      let f : FoundNoPlace (maker_of b) (place_word_of b) v.log = subst (λ (z : ℕ). FoundNoPlace z (place_word_of b) v.log) one (full_heap.words (place_word_of b) name.2) in
      ⊎_elim (λ (taken : place_use b v.log ≡ 1). absurd (full_heap.untaken b taken)) (λ (stored : place_use b v.log ≡ 2). stored)
      (found k b name es valid id v at (omega (arith, number, maker_)) f.newer f.rest f.is f.kept)

  all_stored : (n : ℕ) → n ≤ k.heap → stored_count q v.log n ≡ n
  all_stored zero low = refl
  all_stored (suc n) low =
      let one : is_stored (place_use (q * 65536 + n) v.log) ≡ 1 = ap is_stored (all_used n (omega (arith, low))) in
      let rest = all_stored n (omega (arith, low)) in
      omega (arith, one, rest)

-- ---- entries

-- by writes from the newest to the first
abbrev Follow : Shape → List Call → List Entry → Type 0
Follow k cs [] = Unit {0}
Follow k cs (e ∷ before) = (e.reply ≡ reply.Raised raise.Heap → k.heap ≤ boxed_count k.starts cs before) × Follow k cs before

follow_stays : (k : Shape) (b : Act) (cs : List Call) (l : List Entry) → AllRight k.starts cs l → Follow k cs l → Follow k (writes_of b cs) l
follow_stays k b cs [] right all = tt
follow_stays k b cs (e ∷ l) right all = (λ is. let low = all.0 is in let same = boxed_stays k.starts b cs l right.1 in omega (arith, low, same), follow_stays k b cs l right.1 all.1)

lists_stay : (k : Shape) (b : Act) (cs : List Call) (lists : List (List Entry)) → AllRight k.starts cs (flat_map (λ (m : List Entry). m) lists) → All (Follow k cs) lists → All (Follow k (writes_of b cs)) lists
lists_stay k b cs [] right all = All-nil (Follow k (writes_of b cs))
lists_stay k b cs (l ∷ lists) right all =
    let p = right_parts k.starts cs l (flat_map (λ (m : List Entry). m) lists) right in
    All-cons (Follow k (writes_of b cs)) l lists (follow_stays k b cs l p.0 (All-head (Follow k cs) l lists all)) (lists_stay k b cs lists p.1 (All-tail (Follow k cs) l lists all))

-- what a pass has stored and what it was replied, by its own entries and those of each pass that it took in
pub record Sums (k : Shape) (cs : List Call) (u : View) : Type 0 where
  pub counted : Counted k cs u
  pub follow : All (Follow k cs) (all_lists u)

full_by : (stored : StoredWorld) (k : Shape) (v : View) (c : Call) (r : Reply) (n : ℕ) → r ≡ reply.Raised raise.Heap → v.shape ≡ k → HasCause stored v c r n → HeapIsFull k v.number v.log
full_by stored k v c r n is shape cause = subst (λ (z : Shape). HeapIsFull z v.number v.log) shape (subst (λ (z : Reply). HasCause stored v c z n) is cause).2

number_up : (n : ℕ) → n ≢ 0 → (q : ℕ) × (n ≡ suc q)
number_up zero ne = absurd (ne refl)
number_up (suc q) ne = (q, refl)

-- a heap has a word at least, or no place
some_pass : (k : Shape) (es : List Event) → Valid k es → (id : ℕ) (v : View) → get_elem? (run k es).views id ≡ some v → (q : ℕ) → v.number ≡ suc q → HeapIsFull k v.number v.log → 0 < k.heap → q < k.passes
some_pass k es valid id v at q number full_heap some_ =
    let heap = (fits k es valid).heap in
    let small = heap.0 in
    let even = heap.1 in
    let f = full_heap.words 0 (omega (arith, some_, even)) in
    let w = was k es valid id v at f.newer (ReadFreePlaces (v.number - 1) 0 0) f.rest f.is in
    let low = (w.may tt).0 in
    omega (arith, low, number)

heap_boxed : (k : Shape) (es : List Event) → Valid k es → (id : ℕ) (v : View) → get_elem? (run k es).views id ≡ some v → v.number ≢ 0 → HeapIsFull k v.number v.log → Counted k (history es) v → k.heap ≤ boxed_count k.starts (history es) v.entries
heap_boxed k es valid id v at live full_heap counts =
    dite (ℕ_discrete k.heap 0)
    (λ (none : k.heap ≡ 0). omega (arith, none))
    (λ some_.
    let n = number_up v.number live in
    let pass = some_pass k es valid id v at n.0 n.1 full_heap (omega (arith, some_)) in
    let all = all_stored k es valid id v at n.0 n.1 pass full_heap k.heap (le_refl k.heap) in
    let low = counts n.0 k.heap in
    omega (arith, all, low))

follow_next : (k : Shape) (es : List Event) → Valid k es → (id : ℕ) (v : View) → get_elem? (run k es).views id ≡ some v → v.number ≢ 0 → (a : Act) → May k (run k es) (history es) v a → Counted k (history es) v → Follow k (writes_of a (history es)) v.entries → Follow k (writes_of a (history es)) (view_after a v).entries
follow_next k es valid id v at live (Commit c r f s) may counts old = (λ is. absurd (true≢false (sym may.0 ∙ (ap (is_write c) is ∙ never_writes (is_changing c)))), old)
follow_next k es valid id v at live (Answer c r n) may counts old = (λ is. heap_boxed k es valid id v at live (full_by (stored_newest k.starts (first_writes n (history es))) k v c r n is (sized k es valid id v at live) may.4) counts, old)
follow_next k es valid id v at live (AnswerCursor c r n m had left) may counts old =
    let cs = first_writes n (history es) in
    (λ is. absurd (true≢false (sym (ap is_memory is) ∙ moved_plain (stored_newest k.starts cs).world c m may.0 had r left may.2)), old)
follow_next k es valid id v at live a may counts old = old

abbrev own_right : (k : Shape) (es : List Event) → Valid k es → (j : ℕ) (u : View) → get_elem? (run k es).views j ≡ some u → AllRight k.starts (history es) u.entries
own_right k es valid j u at = (right_parts k.starts (history es) u.entries (flat_map (λ (l : List Entry). l) u.lists) (all_right k es valid j u at)).0

sums : (k : Shape) (es : List Event) → Valid k es → (j : ℕ) (u : View) → get_elem? (run k es).views j ≡ some u → Sums k (history es) u
sums k [] valid = one_view (λ j u. Sums k [] u) (starter k) (record { counted = begun k [] (starter k) refl; follow = All-cons (Follow k []) [] [] tt (All-nil (Follow k [])) })
sums k (did id v a ∷ es) valid =
    let cs = writes_of a (history es) in
    let old = sums k es valid.0 in
    let right = all_right k es valid.0 in
    let was_ = old id v valid.1.0 in
    let mine = lists_stay k a (history es) (all_lists v) (right id v valid.1.0) was_.follow in
    set_views (λ j u. Sums k cs u) _ id (view_after a v)
    (record {
      counted = counted_next k es valid.0 v a valid.1.2 valid.1.3 (own_right k es valid.0 id v valid.1.0) was_.counted;
      follow = All-cons (Follow k cs) (view_after a v).entries v.lists (follow_next k es valid.0 id v valid.1.0 valid.1.1 a valid.1.3 was_.counted (All-head (Follow k cs) v.entries v.lists mine)) (All-tail (Follow k cs) v.entries v.lists mine);
    })
    (λ j u _ e. record {
      counted = counted_stays k a (history es) u (own_right k es valid.0 j u e) (old j u e).counted;
      follow = lists_stay k a (history es) (all_lists u) (right j u e) (old j u e).follow;
    })
sums k (forked id v ∷ es) valid =
    let cs = history es in
    let old = sums k es valid.0 in
    one_more (λ j u. Sums k cs u) _ (made v) (nothing k cs (made v) refl refl)
    (set_views (λ j u. Sums k cs u) _ id (maker v) (record { counted = (old id v valid.1.0).counted; follow = (old id v valid.1.0).follow }) (λ j u _ e. old j u e))
  where
    nothing : (k : Shape) (cs : List Call) (u : View) → u.log ≡ [] → all_lists u ≡ [] ∷ [] → Sums k cs u
    nothing k cs u log lists = record { counted = begun k cs u log; follow = subst (All (Follow k cs)) (sym lists) (All-cons (Follow k cs) [] [] tt (All-nil (Follow k cs))) }
sums k (sent id v given ∷ es) valid =
    let cs = history es in
    let old = sums k es valid.0 in
    one_more (λ j u. Sums k cs u) _ (note given v) (record { counted = begun k cs (note given v) refl; follow = All-cons (Follow k cs) [] [] tt (All-nil (Follow k cs)) })
    (set_views (λ j u. Sums k cs u) _ id (sender given v) (record { counted = (old id v valid.1.0).counted; follow = (old id v valid.1.0).follow }) (λ j u _ e. old j u e))
sums k (joined id v other w ∷ es) valid =
    let cs = history es in
    let old = sums k es valid.0 in
    let mine = (old id v valid.1.0).follow in
    set_views (λ j u. Sums k cs u) _ other spent (record { counted = begun k cs spent refl; follow = All-cons (Follow k cs) [] [] tt (All-nil (Follow k cs)) })
    (λ j u _. set_views (λ j u. Sums k cs u) _ id (both v w)
    (record {
      counted = (old id v valid.1.0).counted;
      follow = All-cons (Follow k cs) v.entries (v.lists ++ lists_of w) (All-head (Follow k cs) v.entries v.lists mine) (All-append (Follow k cs) v.lists (lists_of w) (All-tail (Follow k cs) v.entries v.lists mine) (given_lists (Follow k cs) w (old other w valid.1.2).follow));
    })
    (λ j u _ e. old j u e) j u)

-- ---- by writes in their order

boxed_order : (starts : List Start) (cs : List Call) (l : List Entry) → boxed_count starts cs l ≡ count_by (has_boxed starts (reverse cs)) l
boxed_order starts cs [] = refl
boxed_order starts cs (e ∷ l) =
    let one = one_more_boxed starts cs e l in
    let two = sum_by-cons (λ (x : Entry). cond {A = ℕ} (has_boxed starts (reverse cs) x) 1 0) e l in
    let world : (stored_newest starts (first_writes e.stamp cs)).world ≡ world_by starts (take e.stamp (reverse cs)) = ap (λ (z : StoredWorld). z.world) (stored_in_order starts e.stamp cs) ∙ stored_world starts (take e.stamp (reverse cs)) in
    let same : ◌≡◌ {A = ℕ} (cond (boxed_in starts cs e) 1 0) (cond (has_boxed starts (reverse cs) e) 1 0) = ap (λ (z : List Content). cond {A = ℕ} (e.wrote && boxes z e.call) 1 0) world in
    let rest = boxed_order starts cs l in
    omega (arith, one, two, same, rest)

follow_order : (k : Shape) (cs : List Call) (l : List Entry) → Follow k cs l → HeapErrorsFollowBoxings k (reverse cs) l
follow_order k cs [] all = tt
follow_order k cs (e ∷ l) all = (λ is. let low = all.0 is in let same = boxed_order k.starts cs l in omega (arith, low, same), follow_order k cs l all.1)

pub heap_errors_are_earned : HeapErrorsAreEarned
heap_errors_are_earned k es valid j u at =
    All-weaker (Follow k (history es)) (HeapErrorsFollowBoxings k (reverse (history es))) (follow_order k (history es)) (all_lists u) (sums k es valid j u at).follow
