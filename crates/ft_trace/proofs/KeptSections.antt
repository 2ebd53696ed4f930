-- No other pass writes on the containers of a section while its locks are held.
use Rattle.std.proofs.Common.{◌≡◌, ⊎_elim, ℕ, eqb, eq-eqb, ◌<◌, ◌≤◌, Bool, true, false, cond, List, [], ◌∷◌, ◌++◌, map, drop, length, refl, sym, ap, ◌∙◌, subst, arith}
use Rattle.std.specs.Prelude.{◌&&◌, ◌||◌}
use Rattle.std.specs.List.{list_any}
use mathlib.Core.Option.{some}
use mathlib.Core.Logic.{dite}
use native.Mathlib.Decide.{ℕ_discrete}
use lib.ListN.{get_elem?}
use Rattle.ft_model.specs.declared.call.Call.{Call}
use Rattle.ft_model.specs.declared.call.Call.TheVariants as call
use Rattle.ft_model.specs.Calls.{containers_of}
use Rattle.ft_model.specs.Histories.{names}
use Rattle.ft_trace.specs.declared.Act.{Act}
use Rattle.ft_trace.specs.declared.Act.TheVariants.{Lock, Unlock, Commit, Answer, AnswerCursor, ReadCounter}
use Rattle.ft_trace.specs.declared.Entry.{Entry}
use Rattle.ft_trace.specs.declared.Shape.{Shape}
use Rattle.ft_trace.specs.declared.View.{View}
use Rattle.ft_trace.specs.Addresses.{container_count}
use Rattle.ft_trace.specs.Acts.{place, Reports, has_lock, starter, view_after, maker, made, both, spent, sender, note}
use Rattle.ft_trace.specs.Entries.{IsNumber}
use Rattle.ft_trace.specs.OwnOrder.{is_write_of, KeptSectionsAreUntouched}
use Rattle.ft_trace.specs.BegunSections.{Begun, begun, begun_by, is_among, without, since_load, all_since_load}
use Rattle.ft_trace.specs.Traces.{Event, did, forked, joined, sent, run, word, history, May, Valid}
use Rattle.ft_trace.proofs.Cases.{hit, miss, here, off, same_or}
use Rattle.ft_trace.proofs.Contents.{counted}
use Rattle.ft_trace.proofs.InOrder.{number_low}
use Rattle.ft_trace.proofs.Locks.{on_lock, one_holder}
use Rattle.ft_trace.proofs.Sizes.{set_views, one_more, one_view}

-- ---- what a log says of locks

still_true : (b c x : Bool) → x ≡ true → cond b (cond c true x) x ≡ true
still_true true true x e = refl
still_true true false x e = e
still_true false c x e = e

-- who has had a lock since a load has it
pub held_now : (o n : ℕ) (l : List Act) → since_load o n l ≡ true → has_lock o l ≡ true
held_now o n [] e = off e
held_now o n (a ∷ l) e = by a e (held_now o n l)
  where
    by : (a : Act) → since_load o n (a ∷ l) ≡ true → (since_load o n l ≡ true → has_lock o l ≡ true) → has_lock o (a ∷ l) ≡ true
    by (ReadCounter f) e more =
        dite (ℕ_discrete f n)
        (λ (same : f ≡ n). sym (here f n (has_lock o l) (since_load o n l) same) ∙ e)
        (λ ne. more (sym (miss f n (has_lock o l) (since_load o n l) ne) ∙ e))
    by (Unlock p) e more =
        same_or (λ (z : ℕ). cond (eqb z o) false (since_load o n l) ≡ true → cond (eqb z o) false (has_lock o l) ≡ true) p o
        (λ e. off (sym (hit o false (since_load o n l)) ∙ e))
        (λ ne e. miss p o false (has_lock o l) ne ∙ more (sym (miss p o false (since_load o n l) ne) ∙ e)) e
    by (Lock p f s) e more = still_true (eqb p o) (eqb f 0) (has_lock o l) (more e)
    by act e more = more e

-- a load of the counter leaves it so
load_holds : (o n f : ℕ) (l : List Act) → since_load o n l ≡ true → since_load o n (ReadCounter f ∷ l) ≡ true
load_holds o n f l e =
    dite (ℕ_discrete f n)
    (λ (same : f ≡ n). here f n (has_lock o l) (since_load o n l) same ∙ held_now o n l e)
    (λ ne. miss f n (has_lock o l) (since_load o n l) ne ∙ e)

both_true : (b c : Bool) → (b && c) ≡ true → (b ≡ true) × (c ≡ true)
both_true true c e = (refl, e)
both_true false c e = off e

among_since : (os : List ℕ) (n : ℕ) (l : List Act) → all_since_load os n l ≡ true → (o : ℕ) → is_among o os ≡ true → since_load o n l ≡ true
among_since [] n l e o among = off among
among_since (p ∷ ps) n l e o among =
    let t = both_true (since_load p n l) (all_since_load ps n l) e in
    same_or (λ (z : ℕ). cond (eqb z o) true (is_among o ps) ≡ true → since_load z n l ≡ true → since_load o n l ≡ true) p o
    (λ _ mine. mine)
    (λ ne among _. among_since ps n l t.1 o (sym (miss p o true (is_among o ps) ne) ∙ among)) among t.0

-- each of these sections that is held has had its locks since its stamp was loaded
abbrev pub EachHeld : List Act → List Begun → Type 0
EachHeld l [] = Unit {0}
EachHeld l (b ∷ bs) = (b.held ≡ true → (o : ℕ) → is_among o b.containers ≡ true → since_load o b.stamp l ≡ true) × EachHeld l bs

each_drop : (l : List Act) (bs : List Begun) → EachHeld l bs → EachHeld l (drop 1 bs)
each_drop l [] each = tt
each_drop l (b ∷ bs) each = each.1

each_same : (l m : List Act) (bs : List Begun) → ((o n : ℕ) → since_load o n l ≡ true → since_load o n m ≡ true) → EachHeld l bs → EachHeld m bs
each_same l m [] same each = tt
each_same l m (b ∷ bs) same each = ((λ held o among. same o b.stamp (each.0 held o among)), each_same l m bs same each.1)

each_let_go : (p : ℕ) (l : List Act) (bs : List Begun) → EachHeld l bs → EachHeld (Unlock p ∷ l) (map (without p) bs)
each_let_go p l [] each = tt
each_let_go p l (b ∷ bs) each = (one, each_let_go p l bs each.1)
  where
    kept : (x y : Bool) → cond x false y ≡ true → (x ≡ true → ⊥) × (y ≡ true)
    kept true y e = off e
    kept false y e = ((λ z. off z), e)

    one : cond (is_among p b.containers) false b.held ≡ true → (o : ℕ) → is_among o b.containers ≡ true → since_load o b.stamp (Unlock p ∷ l) ≡ true
    one held o among =
        let k = kept (is_among p b.containers) b.held held in
        same_or (λ (z : ℕ). (is_among z b.containers ≡ true → ⊥) → cond (eqb z o) false (since_load o b.stamp l) ≡ true) p o
        (λ not_in. absurd (not_in among))
        (λ ne _. miss p o false (since_load o b.stamp l) ne ∙ each.0 k.1 o among) k.0

pub each_held : (l : List Act) → EachHeld l (begun l)
each_held [] = tt
each_held (a ∷ l) = by a (each_held l)
  where
    of_call : (c : Call) (n : ℕ) → EachHeld l (begun l) → EachHeld l (begun_by c n l (begun l))
    of_call (call.Begin x y) n each = ((λ held o among. among_since (containers_of (call.Begin x y)) n l held o among), each)
    of_call call.End n each = each_drop l (begun l) each
    of_call (call.Dict o c) n each = each
    of_call (call.List o c) n each = each
    of_call (call.Set o c) n each = each
    of_call (call.Deque o c) n each = each
    of_call (call.Next c) n each = each
    of_call call.Quiesce n each = each
    of_call (call.Await thread index) n each = each
    of_call call.Dump n each = each

    by : (a : Act) → EachHeld l (begun l) → EachHeld (a ∷ l) (begun (a ∷ l))
    by (Answer c r n) each = each_same l (Answer c r n ∷ l) (begun_by c n l (begun l)) (λ o m e. e) (of_call c n each)
    by (Unlock p) each = each_let_go p l (begun l) each
    by (ReadCounter f) each = each_same l (ReadCounter f ∷ l) (begun l) (λ o n e. load_holds o n f l e) each
    by act each = each_same l (act ∷ l) (begun l) (λ o n e. e) each

-- ---- what holds in a trace

-- a lock is that of a container
pub locked_low : (k : Shape) (es : List Event) → Valid k es → (o j : ℕ) (u : View) → get_elem? (run k es).views j ≡ some u → has_lock o u.log ≡ true → o < container_count k
locked_low k [] valid o = one_view (λ j u. has_lock o u.log ≡ true → o < container_count k) (starter k) (λ no. off no)
locked_low k (did id v a ∷ es) valid o =
    let old = locked_low k es valid.0 o in
    let P : ℕ → View → Type 0 = λ j u. has_lock o u.log ≡ true → o < container_count k in
    let F : Act → Type 0 = λ b. May k (run k es) (history es) v b → has_lock o (b ∷ v.log) ≡ true → o < container_count k in
    set_views P _ id (view_after a v)
    (on_lock o F (λ f s may _. may.0) (λ may _. may.0) (λ b same apart may e. old id v valid.1.0 (sym (same (has_lock o v.log)) ∙ e)) a valid.1.3)
    (λ j u _ e. old j u e)
locked_low k (forked id v ∷ es) valid o =
    let P : ℕ → View → Type 0 = λ j u. has_lock o u.log ≡ true → o < container_count k in
    let old = locked_low k es valid.0 o in
    one_more P _ (made v) (λ no. off no) (set_views P _ id (maker v) (old id v valid.1.0) (λ j u _ e. old j u e))
locked_low k (sent id v given ∷ es) valid o =
    let P : ℕ → View → Type 0 = λ j u. has_lock o u.log ≡ true → o < container_count k in
    let old = locked_low k es valid.0 o in
    one_more P _ (note given v) (λ no. off no) (set_views P _ id (sender given v) (old id v valid.1.0) (λ j u _ e. old j u e))
locked_low k (joined id v other w ∷ es) valid o =
    let P : ℕ → View → Type 0 = λ j u. has_lock o u.log ≡ true → o < container_count k in
    let old = locked_low k es valid.0 o in
    set_views P _ other spent (λ no. off no) (λ j u _. set_views P _ id (both v w) (old id v valid.1.0) (λ j u _ e. old j u e) j u)

any_later : (n : ℕ) (x : Entry) (xs : List Entry) → list_any (is_write_of n) xs ≡ true → list_any (is_write_of n) (x ∷ xs) ≡ true
any_later n x xs e = by (is_write_of n x)
  where
    by : (b : Bool) → (b || list_any (is_write_of n) xs) ≡ true
    by true = refl
    by false = e

-- while a pass has had the lock of o since it loaded n, each write from n on that names o is its own
abbrev Own : Shape → List Event → ℕ → ℕ → ℕ → View → Type 0
Own k es o n j u =
    since_load o n u.log ≡ true → (m : ℕ) (called : Call) → names o called ≡ true → n ≤ m → IsNumber (history es) m called → list_any (is_write_of m) u.entries ≡ true

own_by : (k : Shape) (es : List Event) → Valid k es → (o n id : ℕ) (v : View) → get_elem? (run k es).views id ≡ some v → ((j : ℕ) (u : View) → get_elem? (run k es).views j ≡ some u → Own k es o n j u) → (b : Act) → Reports b (word k es (place b)) → May k (run k es) (history es) v b → (j : ℕ) (u : View) → get_elem? (run k (did id v b ∷ es)).views j ≡ some u → Own k (did id v b ∷ es) o n j u
own_by k es valid o n id v at old (Commit c r f s) found may =
    set_views (Own k (did id v (Commit c r f s) ∷ es) o n) _ id (view_after (Commit c r f s) v)
    (λ held m called named low is. ⊎_elim
    (λ (e : (m ≡ length (history es)) × (called ≡ c)).
    ap (λ (b : Bool). b || list_any (is_write_of m) v.entries) (eq-eqb f m (found ∙ (counted k es valid ∙ sym e.0))))
    (λ is. any_later m (record { call = c; reply = r; stamp = f; wrote = true }) v.entries (old id v at held m called named low is)) is)
    (λ j u apart there held m called named low is. ⊎_elim
    (λ (e : (m ≡ length (history es)) × (called ≡ c)).
    let theirs = held_now o n u.log held in
    let ours = may.13 o (subst (λ (z : Call). names o z ≡ true) e.1 named) in
    absurd (apart (one_holder k es valid o (locked_low k es valid o j u there theirs) j id u v there at theirs ours)))
    (λ is. old j u there held m called named low is) is)
own_by k es valid o n id v at old (ReadCounter f) found may =
    set_views (Own k (did id v (ReadCounter f) ∷ es) o n) _ id (view_after (ReadCounter f) v)
    (λ held m called named low is.
    dite (ℕ_discrete f n)
    (λ (e : f ≡ n). let top = number_low (history es) m called is in let now = found ∙ counted k es valid in absurd (omega (arith, top, now, e, low)))
    (λ ne. old id v at (sym (miss f n (has_lock o v.log) (since_load o n v.log) ne) ∙ held) m called named low is))
    (λ j u _ there. old j u there)
own_by k es valid o n id v at old (Unlock p) found may =
    set_views (Own k (did id v (Unlock p) ∷ es) o n) _ id (view_after (Unlock p) v)
    (λ held.
    old id v at
    (same_or (λ (z : ℕ). cond (eqb z o) false (since_load o n v.log) ≡ true → since_load o n v.log ≡ true) p o
    (λ e. off (sym (hit o false (since_load o n v.log)) ∙ e))
    (λ ne e. sym (miss p o false (since_load o n v.log) ne) ∙ e) held))
    (λ j u _ there. old j u there)
own_by k es valid o n id v at old (Answer c r x) found may =
    set_views (Own k (did id v (Answer c r x) ∷ es) o n) _ id (view_after (Answer c r x) v)
    (λ held m called named low is. any_later m (record { call = c; reply = r; stamp = x; wrote = false }) v.entries (old id v at held m called named low is))
    (λ j u _ there. old j u there)
own_by k es valid o n id v at old (AnswerCursor c r x number had left) found may =
    set_views (Own k (did id v (AnswerCursor c r x number had left) ∷ es) o n) _ id (view_after (AnswerCursor c r x number had left) v)
    (λ held m called named low is. any_later m (record { call = c; reply = r; stamp = x; wrote = false }) v.entries (old id v at held m called named low is))
    (λ j u _ there. old j u there)
own_by k es valid o n id v at old act found may = set_views (Own k (did id v act ∷ es) o n) _ id (view_after act v) (old id v at) (λ j u _ there. old j u there)

pub own_writes : (k : Shape) (es : List Event) → Valid k es → (o n j : ℕ) (u : View) → get_elem? (run k es).views j ≡ some u → Own k es o n j u
own_writes k [] valid o n = one_view (Own k [] o n) (starter k) (λ no. off no)
own_writes k (did id v a ∷ es) valid o n = own_by k es valid.0 o n id v valid.1.0 (own_writes k es valid.0 o n) a valid.1.2 valid.1.3
own_writes k (forked id v ∷ es) valid o n =
    let old = own_writes k es valid.0 o n in
    one_more (Own k es o n) _ (made v) (λ no. off no) (set_views (Own k es o n) _ id (maker v) (old id v valid.1.0) (λ j u _ e. old j u e))
own_writes k (sent id v given ∷ es) valid o n =
    let old = own_writes k es valid.0 o n in
    one_more (Own k es o n) _ (note given v) (λ no. off no) (set_views (Own k es o n) _ id (sender given v) (old id v valid.1.0) (λ j u _ e. old j u e))
own_writes k (joined id v other w ∷ es) valid o n =
    let old = own_writes k es valid.0 o n in
    set_views (Own k es o n) _ other spent (λ no. off no) (λ j u _. set_views (Own k es o n) _ id (both v w) (old id v valid.1.0) (λ j u _ e. old j u e) j u)

-- one of the sections that are begun
each_one : (l : List Act) (inner : List Begun) (b : Begun) (outer : List Begun) → EachHeld l (inner ++ b ∷ outer) → b.held ≡ true → (o : ℕ) → is_among o b.containers ≡ true → since_load o b.stamp l ≡ true
each_one l [] b outer each = each.0
each_one l (x ∷ inner) b outer each = each_one l inner b outer each.1

pub kept_sections_are_untouched : KeptSectionsAreUntouched
kept_sections_are_untouched k es valid j u at inner b outer is held o n called among named low past number =
    own_writes k es valid o b.stamp j u at (each_one u.log inner b outer (subst (EachHeld u.log) is (each_held u.log)) held o among) n called named low number
