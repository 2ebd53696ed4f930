-- What a pass knows of a container whose lock it has, and of a table in its hand that is fresh or was taken out of a root, is so.
use Rattle.std.proofs.Common.{◌≡◌, ◌≢◌, ◌⊎◌, ℕ, suc, eqb, ◌<◌, Bool, true, false, cond, List, [], ◌∷◌, length, refl, sym, ap, ◌∙◌, subst, inl, inr, ⊎_elim, arith, length-set, get_or-set_other, get_or-set_same}
use Rattle.std.specs.Prelude.{slice_index, slice_set}
use mathlib.Core.Option.{some}
use mathlib.Core.Logic.{dite}
use native.Mathlib.Decide.{ℕ_discrete}
use lib.ListN.{get_elem?}
use Rattle.ft_model.specs.declared.call.Call.{Call}
use Rattle.ft_trace.specs.declared.Snap.{Snap}
use Rattle.ft_trace.specs.declared.Shape.{Shape}
use Rattle.ft_trace.specs.declared.View.{View}
use Rattle.ft_trace.specs.declared.Act.{Act}
use Rattle.ft_trace.specs.declared.Act.TheVariants.{Lock, Unlock, PutBlock, PutRoot, PutTable, PutFresh, Commit, ReadBlock, ReadRoot, ReadTable, TakeTable, GiveTable, Retire, TookOver}
use Rattle.ft_trace.specs.Addresses.{Word, counter, write_number, announced_of, bits, count_of_class, lock_of, version_of, block, heap_bits, box_word, header, cell, Inside, at, extent}
use Rattle.ft_trace.specs.Acts.{place, word_after, has_lock, is_writing, stage, stage_next, hands_over, is_handed, mem, past, starter, view_after, maker, made, both, spent, sender, note}
use Rattle.ft_trace.specs.ContainerStates.{container_after}
use Rattle.ft_trace.specs.Addresses.{container_count}
use Rattle.ft_trace.specs.Traces.{Event, did, forked, joined, sent, run, word, history, snap, May, Valid}
use Rattle.std.proofs.lemmas.Bool.{eqb-true}
use Rattle.ft_trace.proofs.Sizes.{set_views, one_more, one_view}
use Rattle.ft_trace.proofs.Cases.{same_or, hit, miss, off}
use Rattle.ft_trace.proofs.Addresses.{at_low}
use Rattle.ft_trace.proofs.OneWord.{wide, stays, moves, loaded}
use Rattle.ft_trace.proofs.Locks.{one_holder}
use Rattle.ft_trace.proofs.OddVersions.{writer_has}
use Rattle.ft_trace.proofs.TablePlaces.{root, placed}
use Rattle.ft_trace.proofs.Contents.{alters, content_by}

-- A table in hand that no other pass may put into: it is fresh (stage 1), or was taken out of a root and isn't retired
-- yet (stage 3).
abbrev pub IsInHand : ℕ → Type 0
IsInHand n = (n ≡ 1) ⊎ (n ≡ 3)

hand_low : (n : ℕ) → IsInHand n → (n ≢ 0) × (n ≢ 2)
hand_low n (inl one) = ((λ z. absurd (omega (arith, one, z))), (λ z. absurd (omega (arith, one, z))))
hand_low n (inr three) = ((λ z. absurd (omega (arith, three, z))), (λ z. absurd (omega (arith, three, z))))

-- the words that a pass has to itself
abbrev pub Owns : Shape → List Event → View → Word → Type 0
Owns k es u (block o i) = has_lock o u.log ≡ true
Owns k es u (cell t i) = IsInHand (stage t u.log) ⊎ ((o : ℕ) × (o < container_count k) × (has_lock o u.log ≡ true) × (root k es o ≡ suc t))
Owns k es u x = ⊥

abbrev pub Owner : View → Type 0
Owner u = ((o : ℕ) × (has_lock o u.log ≡ true)) ⊎ ((t : ℕ) × IsInHand (stage t u.log))

pub record Imaged (k : Shape) (es : List Event) (u : View) : Type 0 where
  pub wide : Owner u → length (mem k u.log) ≡ extent k
  pub words : (x : Word) → Inside k x → Owns k es u x → slice_index (mem k u.log) (at k x) ≡ word k es x
  pub content : (o : ℕ) → has_lock o u.log ≡ true → container_after k.starts (past u.log) o ≡ container_after k.starts (history es) o

-- a word that no action but a put may change
abbrev IsData : Word → Type 0
IsData (block o i) = Unit {0}
IsData (cell t i) = Unit {0}
IsData x = ⊥

data_of : (k : Shape) (es : List Event) (u : View) (x : Word) → Owns k es u x → IsData x
data_of k es u (block o i) owns = tt
data_of k es u (cell t i) owns = tt
data_of k es u counter owns = absurd owns
data_of k es u write_number owns = absurd owns
data_of k es u (announced_of p) owns = absurd owns
data_of k es u (count_of_class c) owns = absurd owns
data_of k es u (bits c) owns = absurd owns
data_of k es u (lock_of o) owns = absurd owns
data_of k es u (version_of o) owns = absurd owns
data_of k es u (header t) owns = absurd owns
data_of k es u (heap_bits q w) owns = absurd owns
data_of k es u (box_word b n) owns = absurd owns

-- a table in another's hand
hand_stays : (k : Shape) (es : List Event) → Valid k es → (id : ℕ) (v : View) → get_elem? (run k es).views id ≡ some v → (j : ℕ) (u : View) → j ≢ id → get_elem? (run k es).views j ≡ some u → (t i : ℕ) → Inside k (cell t i) → IsInHand (stage t u.log) → (a : Act) → May k (run k es) (history es) v a → word k (did id v a ∷ es) (cell t i) ≡ word k es (cell t i)
hand_stays k es valid id v at j u ne there t i in_it mine (PutTable p q d y) may =
    stays k es id v (PutTable p q d y) may (cell t i) in_it
    (λ (e : cell q d ≡ cell t i).
    let same : q ≡ t = cc in
    let its = placed k es valid t in_it.0 in
    let low = hand_low (stage t u.log) mine in
    let a = (its.hands j u there low.0).0 in
    let b = (its.roots p may.0 (may.4 ∙ ap suc same)).0 in
    absurd (low.1 (sym a ∙ b)))
hand_stays k es valid id v at j u ne there t i in_it mine (PutFresh q d y) may =
    stays k es id v (PutFresh q d y) may (cell t i) in_it
    (λ (e : cell q d ≡ cell t i).
    let same : q ≡ t = cc in
    let its = placed k es valid t in_it.0 in
    let theirs : stage t v.log ≡ 1 = ap (λ (z : ℕ). stage z v.log) (sym same) ∙ may.2 in
    ne (sym (its.hands j u there (hand_low (stage t u.log) mine).0).1 ∙ (its.hands id v at (λ z. absurd (omega (arith, theirs, z)))).1))
hand_stays k es valid id v at j u ne there t i in_it mine (ReadTable q d f) may = loaded k es id v (ReadTable q d f) (λ n. refl) (cell t i)
hand_stays k es valid id v at j u ne there t i in_it mine act may = stays k es id v act may (cell t i) in_it (λ e. absurd (cc))

other : (k : Shape) (es : List Event) (id : ℕ) (v : View) (a : Act) → Valid k (did id v a ∷ es) → (j : ℕ) (u : View) → j ≢ id → get_elem? (run k es).views j ≡ some u → Imaged k es u → (low : (o : ℕ) → has_lock o u.log ≡ true → o < container_count k) → Imaged k (did id v a ∷ es) u
other k es id v a valid j u ne there old low = record { wide = old.wide; words = by; content = λ o mine. old.content o mine ∙ sym (content_by k es v o (not_writing o mine) a valid.1.3) }
  where
    not_writing : (o : ℕ) → has_lock o u.log ≡ true → is_writing o v.log ≡ true → ⊥
    not_writing o mine w = ne (one_holder k es valid.0 o (low o mine) j id u v there valid.1.0 mine (writer_has k es valid.0 o id v valid.1.0 w))

    by : (x : Word) → Inside k x → Owns k (did id v a ∷ es) u x → slice_index (mem k u.log) (at k x) ≡ word k (did id v a ∷ es) x
    by (block o i) in_it mine = old.words (block o i) in_it mine ∙ sym (alters k es valid.0 id v valid.1.0 o in_it.0 (not_writing o mine) (block o i) in_it refl a valid.1.3)
    by (cell t i) in_it mine =
        ⊎_elim
        (λ (has : IsInHand (stage t u.log)). old.words (cell t i) in_it (inl has) ∙ sym (hand_stays k es valid.0 id v valid.1.0 j u ne there t i in_it has a valid.1.3))
        (λ (h : (o : ℕ) × (o < container_count k) × (has_lock o u.log ≡ true) × (root k (did id v a ∷ es) o ≡ suc t)).
        let never = not_writing h.0 h.2 in
        let same = alters k es valid.0 id v valid.1.0 h.0 h.1 never (block h.0 0) (h.1, omega arith) refl a valid.1.3 in
        let names : root k es h.0 ≡ suc t = sym same ∙ h.3 in
        old.words (cell t i) in_it (inr (h.0, h.1, h.2, names)) ∙ sym (alters k es valid.0 id v valid.1.0 h.0 h.1 never (cell t i) in_it names a valid.1.3))
        mine
    by counter in_it mine = absurd mine
    by write_number in_it mine = absurd mine
    by (announced_of p) in_it mine = absurd mine
    by (count_of_class c) in_it mine = absurd mine
    by (bits c) in_it mine = absurd mine
    by (lock_of o) in_it mine = absurd mine
    by (version_of o) in_it mine = absurd mine
    by (header t) in_it mine = absurd mine
    by (heap_bits q w) in_it mine = absurd mine
    by (box_word b n) in_it mine = absurd mine

-- the whole bank as it is now
fresh : (k : Shape) (es : List Event) (id : ℕ) (v : View) (a : Act) (s : Snap) → s ≡ snap (run k es) (history es) → mem k (a ∷ v.log) ≡ s.words → past (a ∷ v.log) ≡ s.calls → history (did id v a ∷ es) ≡ history es → ((x : Word) → Inside k x → IsData x → word k (did id v a ∷ es) x ≡ word k es x) → Imaged k (did id v a ∷ es) (view_after a v)
fresh k es id v a s is m p h same =
    let words : mem k (a ∷ v.log) ≡ (run k es).words = m ∙ ap (λ (z : Snap). z.words) is in record {
      wide = λ _. ap (λ (l : List ℕ). length l) words ∙ wide k es;
      words = λ x in_it owns. ap (λ (l : List ℕ). slice_index l (at k x)) words ∙ sym (same x in_it (data_of k (did id v a ∷ es) (view_after a v) x owns));
      content = λ o _. ap (λ (cs : List Call). container_after k.starts cs o) (p ∙ (ap (λ (z : Snap). z.calls) is ∙ sym h));
    }

-- what the pass has after an action it had before
abbrev Backward : Shape → List Event → List Event → View → View → Type 0
Backward k es now v w = (x : Word) → Inside k x → Owns k now w x → Owns k es v x

-- an action that leaves what is known
calm : (k : Shape) (es : List Event) (id : ℕ) (v : View) (a : Act) → Imaged k es v → mem k (a ∷ v.log) ≡ mem k v.log → past (a ∷ v.log) ≡ past v.log → history (did id v a ∷ es) ≡ history es → ((o : ℕ) → has_lock o (a ∷ v.log) ≡ true → has_lock o v.log ≡ true) → ((t : ℕ) → IsInHand (stage t (a ∷ v.log)) → IsInHand (stage t v.log))
    → ((x : Word) → Inside k x → IsData x → word k (did id v a ∷ es) x ≡ word k es x) → Imaged k (did id v a ∷ es) (view_after a v)
calm k es id v a old m p h has_before stage_before same = record {
  wide = λ e. ap (λ (l : List ℕ). length l) m ∙ old.wide (⊎_elim (λ (x : (o : ℕ) × (has_lock o (a ∷ v.log) ≡ true)). inl (x.0, has_before x.0 x.1)) (λ (x : (t : ℕ) × IsInHand (stage t (a ∷ v.log))). inr (x.0, stage_before x.0 x.1)) e);
  words = λ x in_it owns. ap (λ (l : List ℕ). slice_index l (at k x)) m ∙ (old.words x in_it (backward x in_it owns) ∙ sym (same x in_it (data_of k (did id v a ∷ es) (view_after a v) x owns)));
  content = λ o mine. ap (λ (cs : List Call). container_after k.starts cs o) p ∙ (old.content o (has_before o mine) ∙ ap (λ (cs : List Call). container_after k.starts cs o) (sym h));
}
  where
    backward : Backward k es (did id v a ∷ es) v (view_after a v)
    backward (block o i) in_it mine = has_before o mine
    backward (cell t i) in_it mine =
        ⊎_elim (λ (x : IsInHand (stage t (a ∷ v.log))). inl (stage_before t x))
        (λ (x : (o : ℕ) × (o < container_count k) × (has_lock o (a ∷ v.log) ≡ true) × (root k (did id v a ∷ es) o ≡ suc t)). inr (x.0, x.1, has_before x.0 x.2, sym (same (block x.0 0) (x.1, omega arith) tt) ∙ x.3))
        mine
    backward counter in_it mine = absurd mine
    backward write_number in_it mine = absurd mine
    backward (announced_of p) in_it mine = absurd mine
    backward (count_of_class c) in_it mine = absurd mine
    backward (bits c) in_it mine = absurd mine
    backward (lock_of o) in_it mine = absurd mine
    backward (version_of o) in_it mine = absurd mine
    backward (header t) in_it mine = absurd mine
    backward (heap_bits q w) in_it mine = absurd mine
    backward (box_word b n) in_it mine = absurd mine

-- a put into what the pass has
stored : (k : Shape) (es : List Event) (id : ℕ) (v : View) (a : Act) (y : ℕ) → Valid k es → May k (run k es) (history es) v a → Imaged k es v → Inside k (place a) → mem k (a ∷ v.log) ≡ slice_set (mem k v.log) (at k (place a)) y → word_after v.number a (word k es (place a)) ≡ y → past (a ∷ v.log) ≡ past v.log → history (did id v a ∷ es) ≡ history es → ((o : ℕ) → has_lock o (a ∷ v.log) ≡ has_lock o v.log) → length (mem k v.log) ≡ extent k
    → Backward k es (did id v a ∷ es) v (view_after a v) → Imaged k (did id v a ∷ es) (view_after a v)
stored k es id v a y valid may old in_place m l p h same_has long backward = record {
  wide = λ _. ap (λ (l : List ℕ). length l) m ∙ (length-set (mem k v.log) (at k (place a)) y ∙ long);
  words = λ x in_it owns.
      let mine = old.words x in_it (backward x in_it owns) in
      let now : word k (did id v a ∷ es) x ≡ slice_index (slice_set (run k es).words (at k (place a)) y) (at k x) = ap (λ (z : ℕ). slice_index (slice_set (run k es).words (at k (place a)) z) (at k x)) l in
      ap (λ (l : List ℕ). slice_index l (at k x)) m
      ∙ (dite (ℕ_discrete (at k x) (at k (place a)))
      (λ (e : at k x ≡ at k (place a)).
      let low = at_low k (place a) in_place in
      let w = wide k es in
      let one : slice_index (slice_set (mem k v.log) (at k (place a)) y) (at k x) ≡ y = ap (λ (z : ℕ). slice_index (slice_set (mem k v.log) (at k (place a)) y) z) e ∙ get_or-set_same (mem k v.log) (at k (place a)) y 0 (omega arith) in
      let two : slice_index (slice_set (run k es).words (at k (place a)) y) (at k x) ≡ y = ap (λ (z : ℕ). slice_index (slice_set (run k es).words (at k (place a)) y) z) e ∙ get_or-set_same (run k es).words (at k (place a)) y 0 (omega arith) in
      one ∙ sym two)
      (λ ne. get_or-set_other (mem k v.log) (at k (place a)) (at k x) y 0 ne ∙ (mine ∙ sym (get_or-set_other (run k es).words (at k (place a)) (at k x) y 0 ne)))
      ∙ sym now);
  content = λ o mine. ap (λ (cs : List Call). container_after k.starts cs o) p ∙ (old.content o (sym (same_has o) ∙ mine) ∙ ap (λ (cs : List Call). container_after k.starts cs o) (sym h));
}

-- where roots and what the pass has are as before
same_back : (k : Shape) (es : List Event) (id : ℕ) (v : View) (a : Act) → ((o : ℕ) → has_lock o (a ∷ v.log) ≡ has_lock o v.log) → ((t : ℕ) → stage t (a ∷ v.log) ≡ stage t v.log) → ((o : ℕ) → o < container_count k → root k (did id v a ∷ es) o ≡ root k es o) → Backward k es (did id v a ∷ es) v (view_after a v)
same_back k es id v a h s r (block o i) in_it mine = sym (h o) ∙ mine
same_back k es id v a h s r (cell t i) in_it mine = ⊎_elim (λ (x : IsInHand (stage t (a ∷ v.log))). inl (subst IsInHand (s t) x)) (λ (x : (o : ℕ) × (o < container_count k) × (has_lock o (a ∷ v.log) ≡ true) × (root k (did id v a ∷ es) o ≡ suc t)). inr (x.0, x.1, sym (h x.0) ∙ x.2, sym (r x.0 x.1) ∙ x.3)) mine
same_back k es id v a h s r counter in_it mine = absurd mine
same_back k es id v a h s r write_number in_it mine = absurd mine
same_back k es id v a h s r (announced_of p) in_it mine = absurd mine
same_back k es id v a h s r (count_of_class c) in_it mine = absurd mine
same_back k es id v a h s r (bits c) in_it mine = absurd mine
same_back k es id v a h s r (lock_of o) in_it mine = absurd mine
same_back k es id v a h s r (version_of o) in_it mine = absurd mine
same_back k es id v a h s r (header t) in_it mine = absurd mine
same_back k es id v a h s r (heap_bits q w) in_it mine = absurd mine
same_back k es id v a h s r (box_word b n) in_it mine = absurd mine

-- a table that a pass has taken out of the root was its own by the lock
root_back : (k : Shape) (es : List Event) (id : ℕ) (v : View) → Valid k es → get_elem? (run k es).views id ≡ some v → (p r past : ℕ) → May k (run k es) (history es) v (PutRoot p r past) → Backward k es (did id v (PutRoot p r past) ∷ es) v (view_after (PutRoot p r past) v)
root_back k es id v valid here_ p r past may (block o i) in_it mine = mine
root_back k es id v valid here_ p r past may (cell t i) in_it mine =
    ⊎_elim
    (λ (x : IsInHand (stage_next t (PutRoot p r past) (stage t v.log))).
    ⊎_elim (λ (out : eqb past (suc t) ≡ true). inr (p, may.0, writer_has k es valid p id v here_ may.1, sym may.2 ∙ eqb-true past (suc t) out))
    (λ (y : IsInHand (stage t v.log)). inl y) (three_ways (eqb r (suc t)) (eqb past (suc t)) (stage t v.log) x))
    (λ (x : (o : ℕ) × (o < container_count k) × (has_lock o v.log ≡ true) × (root k (did id v (PutRoot p r past) ∷ es) o ≡ suc t)).
    dite (ℕ_discrete x.0 p)
    (λ (e : x.0 ≡ p). inl (inl (may.3 t (sym (moves k es id v (PutRoot p r past) may) ∙ (ap (root k (did id v (PutRoot p r past) ∷ es)) (sym e) ∙ x.3))).1))
    (λ ne. inr (x.0, x.1, x.2, sym (stays k es id v (PutRoot p r past) may (block x.0 0) (x.1, omega arith) (λ e. ne (cc))) ∙ x.3)))
    mine
  where
    three_ways : (b c : Bool) (n : ℕ) → IsInHand (cond b 0 (cond c 3 n)) → (c ≡ true) ⊎ IsInHand n
    three_ways true c n has = absurd ((hand_low 0 has).0 refl)
    three_ways false true n has = inl refl
    three_ways false false n has = inr has
root_back k es id v valid here_ p r past may counter in_it mine = absurd mine
root_back k es id v valid here_ p r past may write_number in_it mine = absurd mine
root_back k es id v valid here_ p r past may (announced_of q) in_it mine = absurd mine
root_back k es id v valid here_ p r past may (count_of_class c) in_it mine = absurd mine
root_back k es id v valid here_ p r past may (bits c) in_it mine = absurd mine
root_back k es id v valid here_ p r past may (lock_of o) in_it mine = absurd mine
root_back k es id v valid here_ p r past may (version_of o) in_it mine = absurd mine
root_back k es id v valid here_ p r past may (header t) in_it mine = absurd mine
root_back k es id v valid here_ p r past may (heap_bits q w) in_it mine = absurd mine
root_back k es id v valid here_ p r past may (box_word b n) in_it mine = absurd mine

in_hand_else : (b : Bool) (x n : ℕ) → ((has : IsInHand x) → ⊥) → IsInHand (cond b x n) → IsInHand n
in_hand_else true x n ne has = absurd (ne has)
in_hand_else false x n ne has = has

-- a table that is free or retired isn't in hand
not_zero : IsInHand 0 → ⊥
not_zero has = (hand_low 0 has).0 refl

not_four : IsInHand 4 → ⊥
not_four (inl e) = absurd (omega (arith, e))
not_four (inr e) = absurd (omega (arith, e))

-- an action on no block and no cell
apart : (k : Shape) (es : List Event) (id : ℕ) (v : View) (a : Act) → May k (run k es) (history es) v a → (IsData (place a) → ⊥) → (x : Word) → Inside k x → IsData x → word k (did id v a ∷ es) x ≡ word k es x
apart k es id v a may never x in_it d = stays k es id v a may x in_it (λ e. never (subst IsData (sym e) d))

own : (k : Shape) (es : List Event) (id : ℕ) (v : View) → Valid k es → get_elem? (run k es).views id ≡ some v → Imaged k es v → (b : Act) → May k (run k es) (history es) v b → Imaged k (did id v b ∷ es) (view_after b v)
own k es id v valid here_ old (Lock p f s) may = fresh k es id v (Lock p f s) s may.2 refl refl refl (apart k es id v (Lock p f s) may (λ d. d))
own k es id v valid here_ old (TakeTable p f s) may = fresh k es id v (TakeTable p f s) s may.2 refl refl refl (apart k es id v (TakeTable p f s) may (λ d. d))
own k es id v valid here_ old (Unlock p) may =
    calm k es id v (Unlock p) old refl refl refl (λ o mine. same_or (λ (z : ℕ). cond (eqb z o) false (has_lock o v.log) ≡ true → has_lock o v.log ≡ true) p o (λ e. off (sym (hit o false (has_lock o v.log)) ∙ e)) (λ ne e. sym (miss p o false (has_lock o v.log) ne) ∙ e) mine) (λ t m. m)
    (apart k es id v (Unlock p) may (λ d. d))
own k es id v valid here_ old (GiveTable p) may = calm k es id v (GiveTable p) old refl refl refl (λ o m. m) (λ t m. in_hand_else (eqb p t) 0 (stage t v.log) not_zero m) (apart k es id v (GiveTable p) may (λ d. d))
own k es id v valid here_ old (Retire p f) may = calm k es id v (Retire p f) old refl refl refl (λ o m. m) (λ t m. in_hand_else (eqb p t) 4 (stage t v.log) not_four m) (apart k es id v (Retire p f) may (λ d. d))
own k es id v valid here_ old (ReadBlock p i f) may = calm k es id v (ReadBlock p i f) old refl refl refl (λ o m. m) (λ t m. m) (λ x _ _. loaded k es id v (ReadBlock p i f) (λ n. refl) x)
own k es id v valid here_ old (ReadRoot p f) may = calm k es id v (ReadRoot p f) old refl refl refl (λ o m. m) (λ t m. m) (λ x _ _. loaded k es id v (ReadRoot p f) (λ n. refl) x)
own k es id v valid here_ old (ReadTable p i f) may = calm k es id v (ReadTable p i f) old refl refl refl (λ o m. m) (λ t m. m) (λ x _ _. loaded k es id v (ReadTable p i f) (λ n. refl) x)
own k es id v valid here_ old (Commit c r f s) may =
    let same = apart k es id v (Commit c r f s) may (λ d. d) in
    record {
      wide = old.wide;
      words = λ x in_it owns. old.words x in_it (same_back k es id v (Commit c r f s) (λ o. refl) (λ t. refl) (λ o low. same (block o 0) (low, omega arith) tt) x in_it owns) ∙ sym (same x in_it (data_of k (did id v (Commit c r f s) ∷ es) (view_after (Commit c r f s) v) x owns));
      content = λ o mine. ap (λ (z : Snap). container_after k.starts (c ∷ z.calls) o) may.7;
    }
own k es id v valid here_ old (PutBlock p i x) may =
    stored k es id v (PutBlock p i x) x valid may old (may.0, may.1) refl refl refl refl (λ o. refl) (old.wide (inl (p, writer_has k es valid p id v here_ may.2)))
    (same_back k es id v (PutBlock p i x) (λ o. refl) (λ t. refl) (λ o low. stays k es id v (PutBlock p i x) may (block o 0) (low, omega arith) (λ (e : block p i ≡ block o 0). may.3 (cc))))
own k es id v valid here_ old (PutTable p t i x) may =
    stored k es id v (PutTable p t i x) x valid may old (may.1, may.2) refl refl refl refl (λ o. refl) (old.wide (inl (p, writer_has k es valid p id v here_ may.3)))
    (same_back k es id v (PutTable p t i x) (λ o. refl) (λ t. refl) (λ o low. stays k es id v (PutTable p t i x) may (block o 0) (low, omega arith) (λ e. absurd (cc))))
own k es id v valid here_ old (PutFresh t i x) may =
    stored k es id v (PutFresh t i x) x valid may old (may.0, may.1) refl refl refl refl (λ o. refl) (old.wide (inr (t, inl may.2)))
    (same_back k es id v (PutFresh t i x) (λ o. refl) (λ t. refl) (λ o low. stays k es id v (PutFresh t i x) may (block o 0) (low, omega arith) (λ e. absurd (cc))))
own k es id v valid here_ old (PutRoot p r was) may =
    stored k es id v (PutRoot p r was) r valid may old (may.0, omega arith) refl refl refl refl (λ o. refl) (old.wide (inl (p, writer_has k es valid p id v here_ may.1))) (root_back k es id v valid here_ p r was may)
own k es id v valid here_ old (TookOver hs had found told) may = absurd may
own k es id v valid here_ old act may = calm k es id v act old refl refl refl (λ o m. m) (λ t m. m) (apart k es id v act may (λ d. d))

-- a lock is that of an container of the bank
abbrev Low : Shape → ℕ → View → Type 0
Low k j u = (o : ℕ) → has_lock o u.log ≡ true → o < container_count k

low_next : (k : Shape) (es : List Event) (v : View) (b : Act) → May k (run k es) (history es) v b → ((o : ℕ) → has_lock o v.log ≡ true → o < container_count k) → (o : ℕ) → has_lock o (b ∷ v.log) ≡ true → o < container_count k
low_next k es v (Lock p f s) may old o mine = same_or (λ (z : ℕ). z < container_count k → cond (eqb z o) (cond (eqb f 0) true (has_lock o v.log)) (has_lock o v.log) ≡ true → o < container_count k) p o (λ low _. low) (λ ne _ e. old o (sym (miss p o (cond (eqb f 0) true (has_lock o v.log)) (has_lock o v.log) ne) ∙ e)) may.0 mine
low_next k es v (Unlock p) may old o mine = same_or (λ (z : ℕ). cond (eqb z o) false (has_lock o v.log) ≡ true → o < container_count k) p o (λ e. off (sym (hit o false (has_lock o v.log)) ∙ e)) (λ ne e. old o (sym (miss p o false (has_lock o v.log) ne) ∙ e)) mine
low_next k es v act may old o mine = old o mine

pub has_low : (k : Shape) (es : List Event) → Valid k es → (j : ℕ) (u : View) → get_elem? (run k es).views j ≡ some u → Low k j u
has_low k [] valid = one_view (Low k) (starter k) (λ o no. off no)
has_low k (did id v a ∷ es) valid = let old = has_low k es valid.0 in set_views (Low k) _ id (view_after a v) (low_next k es v a valid.1.3 (old id v valid.1.0)) (λ j u _ e. old j u e)
has_low k (forked id v ∷ es) valid = let old = has_low k es valid.0 in one_more (Low k) _ (made v) (λ o no. off no) (set_views (Low k) _ id (maker v) (old id v valid.1.0) (λ j u _ e. old j u e))
has_low k (sent id v given ∷ es) valid = let old = has_low k es valid.0 in one_more (Low k) _ (note given v) (λ o no. off no) (set_views (Low k) _ id (sender given v) (old id v valid.1.0) (λ j u _ e. old j u e))
has_low k (joined id v third w ∷ es) valid = let old = has_low k es valid.0 in set_views (Low k) _ third spent (λ o no. off no) (λ j u _. set_views (Low k) _ id (both v w) (old id v valid.1.0) (λ j u _ e. old j u e) j u)

-- a pass that has nothing
nothing : (k : Shape) (es : List Event) (u : View) → u.log ≡ [] → Imaged k es u
nothing k es u e =
    let no_lock : (o : ℕ) → has_lock o u.log ≡ false = λ o. ap (has_lock o) e in
    let no_table : (t : ℕ) → stage t u.log ≡ 0 = λ t. ap (stage t) e in
    record {
      wide = λ h. ⊎_elim (λ (x : (o : ℕ) × (has_lock o u.log ≡ true)). off (sym (no_lock x.0) ∙ x.1)) (λ (x : (t : ℕ) × IsInHand (stage t u.log)). absurd ((hand_low (stage x.0 u.log) x.1).0 (no_table x.0))) h;
      words = λ x in_it owns. never x owns;
      content = λ o mine. off (sym (no_lock o) ∙ mine);
    }
  where
    never : {A : Type 0} (x : Word) → Owns k es u x → A
    never (block o i) mine = off (sym (ap (has_lock o) e) ∙ mine)
    never (cell t i) mine = ⊎_elim (λ (x : IsInHand (stage t u.log)). absurd ((hand_low (stage t u.log) x).0 (ap (stage t) e))) (λ (x : (o : ℕ) × (o < container_count k) × (has_lock o u.log ≡ true) × (root k es o ≡ suc t)). off (sym (ap (has_lock x.0) e) ∙ x.2)) mine
    never counter mine = absurd mine
    never write_number mine = absurd mine
    never (announced_of p) mine = absurd mine
    never (count_of_class c) mine = absurd mine
    never (bits c) mine = absurd mine
    never (lock_of o) mine = absurd mine
    never (version_of o) mine = absurd mine
    never (header t) mine = absurd mine
    never (heap_bits q w) mine = absurd mine
    never (box_word b n) mine = absurd mine

-- what a pass has to itself after it took in another it had before
owner_before : (v w : View) → Owner (both v w) → Owner v
owner_before v w (inl o) = inl o
owner_before v w (inr f) = inr (f.0, in_hand_else (is_handed f.0 (hands_over w.log)) 4 (stage f.0 v.log) not_four f.1)

owns_before : (k : Shape) (es : List Event) (v w : View) (x : Word) → Owns k es (both v w) x → Owns k es v x
owns_before k es v w (block o i) owns = owns
owns_before k es v w (cell t i) (inl has) = inl (in_hand_else (is_handed t (hands_over w.log)) 4 (stage t v.log) not_four has)
owns_before k es v w (cell t i) (inr current) = inr current
owns_before k es v w x owns = owns

pub imaged : (k : Shape) (es : List Event) → Valid k es → (j : ℕ) (u : View) → get_elem? (run k es).views j ≡ some u → Imaged k es u
imaged k [] valid = one_view (λ j u. Imaged k [] u) (starter k) (nothing k [] (starter k) refl)
imaged k (did id v a ∷ es) valid =
    let old = imaged k es valid.0 in
    set_views (λ j u. Imaged k (did id v a ∷ es) u) _ id (view_after a v) (own k es id v valid.0 valid.1.0 (old id v valid.1.0) a valid.1.3) (λ j u ne e. other k es id v a valid j u ne e (old j u e) (has_low k es valid.0 j u e))
imaged k (forked id v ∷ es) valid =
    let old = imaged k es valid.0 in
    let P : ℕ → View → Type 0 = λ j u. Imaged k (forked id v ∷ es) u in
    one_more P _ (made v) (nothing k (forked id v ∷ es) (made v) refl)
    (set_views P _ id (maker v) (let h = old id v valid.1.0 in record { wide = h.wide; words = h.words; content = h.content }) (λ j u _ e. let h = old j u e in record { wide = h.wide; words = h.words; content = h.content }))
imaged k (sent id v given ∷ es) valid =
    let old = imaged k es valid.0 in
    let P : ℕ → View → Type 0 = λ j u. Imaged k (sent id v given ∷ es) u in
    one_more P _ (note given v) (nothing k (sent id v given ∷ es) (note given v) refl)
    (set_views P _ id (sender given v) (let h = old id v valid.1.0 in record { wide = h.wide; words = h.words; content = h.content }) (λ j u _ e. let h = old j u e in record { wide = h.wide; words = h.words; content = h.content }))
imaged k (joined id v third w ∷ es) valid =
    let old = imaged k es valid.0 in
    let P : ℕ → View → Type 0 = λ j u. Imaged k (joined id v third w ∷ es) u in
    set_views P _ third spent (nothing k (joined id v third w ∷ es) spent refl)
    (λ j u _. set_views P _ id (both v w) (let h = old id v valid.1.0 in record { wide = λ o. h.wide (owner_before v w o); words = λ x low o. h.words x low (owns_before k es v w x o); content = h.content }) (λ j u _ e. let h = old j u e in record { wide = h.wide; words = h.words; content = h.content }) j u)
