-- The counter is the number of writes, and while a version is even the words stand for the history.
use Rattle.std.proofs.Common.{◌≡◌, ℕ, suc, ◌%◌, ◌<◌, true, List, [], ◌∷◌, ◌++◌, length, refl, sym, ap, ◌∙◌, subst, arith}
use mathlib.Core.Option.{some}
use lib.ListN.{get_elem?}
use Rattle.ft_trace.specs.declared.Shape.{Shape}
use Rattle.ft_trace.specs.declared.View.{View}
use Rattle.ft_trace.specs.declared.Act.{Act}
use Rattle.ft_trace.specs.declared.Act.TheVariants.{PutBlock, PutRoot, PutTable, PutFresh, Commit, ReadBlock, ReadRoot, ReadTable, ReadCounter, Answer, AnswerCursor, TakeFloor, TookOver}
use Rattle.ft_trace.specs.Addresses.{Word, counter, block, cell, Inside, container_count}
use Rattle.ft_trace.specs.Acts.{is_writing}
use Rattle.ft_trace.specs.ContainerStates.{container_after}
use Rattle.ft_trace.proofs.Untouched.{untouched}
use Rattle.ft_trace.specs.Pictures.{table_words, picture}
use Rattle.ft_trace.specs.Traces.{Event, did, forked, joined, sent, run, word, writes_of, history, May, Valid}
use Rattle.ft_trace.proofs.OneWord.{stays, moves, loaded}
use Rattle.ft_trace.proofs.Pieces.{table_same, picture_same}
use Rattle.ft_trace.proofs.OddVersions.{one_up, version, writing_is_odd, rises, rises_one}
use Rattle.ft_trace.proofs.TablePlaces.{root, root_table, placed}

abbrev pub count : Shape → List Event → ℕ
count k es = word k es counter

abbrev pub tab : Shape → List Event → ℕ → List ℕ
tab k es t = table_words k t (run k es).words

counts : (k : Shape) (es : List Event) (id : ℕ) (v : View) → count k es ≡ length (history es) → (b : Act) → May k (run k es) (history es) v b → count k (did id v b ∷ es) ≡ length (writes_of b (history es))
counts k es id v old (Commit c r f s) may = moves k es id v (Commit c r f s) may ∙ (one_up (count k es) may.2 ∙ omega (arith, old))
counts k es id v old (ReadCounter f) may = loaded k es id v (ReadCounter f) (λ n. refl) counter ∙ old
counts k es id v old (TakeFloor f s) may = loaded k es id v (TakeFloor f s) (λ n. refl) counter ∙ old
counts k es id v old (Answer c x n) may = loaded k es id v (Answer c x n) (λ n. refl) counter ∙ old
counts k es id v old (AnswerCursor c x n m had left) may = loaded k es id v (AnswerCursor c x n m had left) (λ n. refl) counter ∙ old
counts k es id v old (TookOver hs had found told) may = absurd may
counts k es id v old act may = stays k es id v act may counter tt (λ e. absurd (cc)) ∙ old

pub counted : (k : Shape) (es : List Event) → Valid k es → count k es ≡ length (history es)
counted k [] valid = refl
counted k (did id v a ∷ es) valid = counts k es id v (counted k es valid.0) a valid.1.3
counted k (forked id v ∷ es) valid = counted k es valid.0
counted k (sent id v given ∷ es) valid = counted k es valid.0
counted k (joined id v other w ∷ es) valid = counted k es valid.0

-- a word of the container's block, or of the table that its root names
abbrev pub Of : Shape → List Event → ℕ → Word → Type 0
Of k es o (block p i) = p ≡ o
Of k es o (cell t i) = root k es o ≡ suc t
Of k es o x = ⊥

-- only who writes o changes a word of o
pub alters : (k : Shape) (es : List Event) → Valid k es → (id : ℕ) (v : View) → get_elem? (run k es).views id ≡ some v → (o : ℕ) → o < container_count k → (is_writing o v.log ≡ true → ⊥) → (x : Word) → Inside k x → Of k es o x → (a : Act) → May k (run k es) (history es) v a → word k (did id v a ∷ es) x ≡ word k es x
alters k es valid id v at o low never x in_it of (PutBlock p i y) may = stays k es id v (PutBlock p i y) may x in_it (λ e. never (subst (λ (z : ℕ). is_writing z v.log ≡ true) (subst (Of k es o) (sym e) of) may.2))
alters k es valid id v at o low never x in_it of (PutRoot p r old) may = stays k es id v (PutRoot p r old) may x in_it (λ e. never (subst (λ (z : ℕ). is_writing z v.log ≡ true) (subst (Of k es o) (sym e) of) may.1))
alters k es valid id v at o low never x in_it of (PutTable p t i y) may =
    stays k es id v (PutTable p t i y) may x in_it
    (λ e.
    let mine : root k es o ≡ suc t = subst (Of k es o) (sym e) of in
    let its = placed k es valid t may.1 in
    let same : p ≡ o = sym (its.roots p may.0 may.4).1 ∙ (its.roots o low mine).1 in
    never (subst (λ (z : ℕ). is_writing z v.log ≡ true) same may.3))
alters k es valid id v at o low never x in_it of (PutFresh t i y) may =
    stays k es id v (PutFresh t i y) may x in_it
    (λ e.
    let mine : root k es o ≡ suc t = subst (Of k es o) (sym e) of in
    let its = placed k es valid t may.0 in
    let one = may.2 in
    let a = (its.hands id v at (λ z. absurd (omega (arith, z, one)))).0 in
    let b = (its.roots o low mine).0 in
    absurd (omega (arith, a, b, one)))
alters k es valid id v at o low never x in_it of (ReadBlock p i f) may = loaded k es id v (ReadBlock p i f) (λ n. refl) x
alters k es valid id v at o low never x in_it of (ReadRoot p f) may = loaded k es id v (ReadRoot p f) (λ n. refl) x
alters k es valid id v at o low never x in_it of (ReadTable t i f) may = loaded k es id v (ReadTable t i f) (λ n. refl) x
alters k es valid id v at o low never x in_it of act may = stays k es id v act may x in_it (λ e. subst (Of k es o) (sym e) of)

-- nothing that an even version stands for changes
pub record Still (k : Shape) (es now : List Event) (o : ℕ) : Type 0 where
  pub picture : picture k o (run k now).words ≡ picture k o (run k es).words
  pub content : container_after k.starts (history now) o ≡ container_after k.starts (history es) o

pub still_of : (k : Shape) (es now : List Event) → Valid k es → (o : ℕ) → o < container_count k → ((x : Word) → Inside k x → Of k es o x → word k now x ≡ word k es x) → container_after k.starts (history now) o ≡ container_after k.starts (history es) o → Still k es now o
still_of k es now valid o low words content = record {
  picture =
      (picture_same k o (run k now).words (run k es).words (λ i small. words (block o i) (low, small) refl)
      (λ t r. table_same k t (run k now).words (run k es).words (λ i small. words (cell t i) (root_table k es valid o low t r, small) r)));
  content = content;
}

pub content_by : (k : Shape) (es : List Event) (v : View) (o : ℕ) → (is_writing o v.log ≡ true → ⊥) → (a : Act) → May k (run k es) (history es) v a → container_after k.starts (writes_of a (history es)) o ≡ container_after k.starts (history es) o
content_by k es v o never (Commit c r f s) may = untouched k.starts c (history es) o (λ e. never (subst (λ (z : ℕ). is_writing z v.log ≡ true) e may.1))
content_by k es v o never act may = refl

-- an action of a pass that does not write o
pub unwritten : (k : Shape) (es : List Event) (id : ℕ) (v : View) (a : Act) → Valid k (did id v a ∷ es) → (o : ℕ) → o < container_count k → (is_writing o v.log ≡ true → ⊥) → Still k es (did id v a ∷ es) o
unwritten k es id v a valid o low never =
    still_of k es (did id v a ∷ es) valid.0 o low (λ x in_it of. alters k es valid.0 id v valid.1.0 o low never x in_it of a valid.1.3) (content_by k es v o never a valid.1.3)

pub still : (k : Shape) (es : List Event) (e : Event) → Valid k (e ∷ es) → (o : ℕ) → o < container_count k → version k es o % 2 ≡ 0 → Still k es (e ∷ es) o
still k es (did id v a) valid o low even = unwritten k es id v a valid o low (λ w. writing_is_odd k es valid.0 o low id v valid.1.0 w even)
still k es (forked id v) valid o low even = record { picture = refl; content = refl }
still k es (sent id v given) valid o low even = record { picture = refl; content = refl }
still k es (joined id v other w) valid o low even = record { picture = refl; content = refl }

-- while an even version stays, nothing changes that it stands for
pub quiet : (k : Shape) (newer older : List Event) → Valid k (newer ++ older) → (o : ℕ) → o < container_count k → version k older o % 2 ≡ 0 → version k (newer ++ older) o ≡ version k older o → Still k older (newer ++ older) o
quiet k [] older valid o low even same = record { picture = refl; content = refl }
quiet k (e ∷ newer) older valid o low even same =
    let a = rises k newer older valid.0 o low in
    let b = rises_one k (newer ++ older) e valid o low in
    let here : version k (newer ++ older) o ≡ version k older o = omega (arith, same) in
    let old = quiet k newer older valid.0 o low even here in
    let one = still k (newer ++ older) e valid o low (ap (λ (n : ℕ). n % 2) here ∙ even) in
    record { picture = one.picture ∙ old.picture; content = one.content ∙ old.content }
