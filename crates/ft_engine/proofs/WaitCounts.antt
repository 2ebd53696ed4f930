-- How many calls waited in each open section: as the pass counts them, and by the entries that were kept.
use Rattle.std.proofs.Common.{◌≡◌, ◌≤◌, ◌+◌, ◌-◌, ◌^◌, ◌&&◌, ℕ, Bool, false, List, [], ◌∷◌, ◌++◌, map, reverse, length, drop, refl, sym, ap, ◌∙◌, subst, arith, min, cond, ◌⊎◌, inl, inr, ⊎_elim}
use Rattle.std.specs.Prelude.{All, Option, Some, None, is_some, fold}
use Rattle.std.specs.List.{count_by, range_with_len}
use Rattle.std.proofs.lemmas.Bool.{eq-eqb}
use Rattle.std.proofs.lemmas.List.{map-append, drop-append-le, drop_all, length-drop, length_push}
use Rattle.std.proofs.lemmas.List.Elements.{All-nil, All-cons, All-head, All-tail}
use Rattle.std.proofs.lemmas.List.Sums.{count_by-le-length, fold-append, sum_by_push}
use mathlib.Core.List.{reverse-cons}
use Rattle.ft_model.specs.declared.call.Call.{Call}
use Rattle.ft_model.specs.declared.call.Call.TheVariants as call
use Rattle.ft_model.specs.declared.entry.Entry.{Entry as NamedEntry}
use Rattle.ft_model.specs.Histories.{is_marked}
use Rattle.ft_model.specs.Numbers.{after_begins, begins_of, marks_since}
use Rattle.ft_bank.specs.declared.sections.OpenSection.{OpenSection}
use Rattle.ft_bank.specs.declared.sections.Taking.{Taking}
use Rattle.ft_bank.specs.PassSections.{Stack, suspended}
use Rattle.ft_section.specs.Locking.{TakenUp, marks_more, noting, waiting, with_own}
use Rattle.ft_engine.specs.Flights.{is_begin}
use Rattle.ft_engine.specs.Keeping.{mark_count, marks_after, section_marks, more_marks, open_marks}

-- ---- lists

abbrev M : ℕ
M = 2 ^ 32 - 1

map_round : {A B : Type 0} (f : A → B) (xs : List A) → map f (reverse xs) ≡ reverse (map f xs)
map_round f [] = refl
map_round f (x ∷ xs) = ap (map f) (reverse-cons x xs) ∙ (map-append f (reverse xs) (x ∷ []) ∙ (ap (λ l. l ++ f x ∷ []) (map_round f xs) ∙ sym (reverse-cons (f x) (map f xs))))

pub more_none : (xs : List ℕ) → more_marks 0 xs ≡ xs
more_none [] = refl
more_none (x ∷ xs) = ap (λ n. n ∷ more_marks 0 xs) (let e : x + 0 ≡ x = omega arith in e) ∙ ap (λ l. x ∷ l) (more_none xs)

-- ---- a wait

suspended_counts : (k : ℕ) (xs : List OpenSection) → map (λ section. section.marks) (map (suspended k) xs) ≡ map (λ n. min (n + k) M) (map (λ section. section.marks) xs)
suspended_counts k [] = refl
suspended_counts k (x ∷ xs) = ap (λ l. min (x.marks + k) M ∷ l) (suspended_counts k xs)

-- all sections count the call in flight once it waits
raised : (m k : ℕ) (xs : List ℕ) → All (λ n. n + m + k ≤ M) xs → map (λ n. min (n + k) M) (more_marks m xs) ≡ more_marks (m + k) xs
raised m k [] low = refl
raised m k (x ∷ xs) low =
    let h = All-head (λ n. n + m + k ≤ M) x xs low in
    let e : min (x + m + k) M ≡ x + (m + k) = omega arith in
    ap (λ n. n ∷ map (λ n. min (n + k) M) (more_marks m xs)) e
    ∙ ap (λ l. (x + (m + k)) ∷ l) (raised m k xs (All-tail (λ n. n + m + k ≤ M) x xs low))

counted_once : (mark : Option ℕ) → mark_count mark + marks_more mark ≡ 1
counted_once None = refl
counted_once (Some q) = refl

pub waiting_marks : (s : Stack) (own : Taking) (q : ℕ) → section_marks (waiting (with_own s own) q) ≡ map (λ n. min (n + marks_more s.mark) M) (section_marks s)
waiting_marks s own q =
    ap reverse (suspended_counts (marks_more s.mark) s.sections)
    ∙ sym (map_round (λ n. min (n + marks_more s.mark) M) (map (λ section. section.marks) s.sections))

low_all : (m k : ℕ) (xs : List ℕ) (most : ℕ) → All (λ n. n ≤ most) xs → m + k ≡ 1 → most + 1 ≤ M → All (λ n. n + m + k ≤ M) xs
low_all m k [] most low one few = All-nil (λ n. n + m + k ≤ M)
low_all m k (x ∷ xs) most low one few =
    let h = All-head (λ n. n ≤ most) x xs low in
    All-cons (λ n. n + m + k ≤ M) x xs (omega arith) (low_all m k xs most (All-tail (λ n. n ≤ most) x xs low) one few)

-- what the sections count of these entries is at most their number
open_low_of : (thread : ℕ) (mine begins : List NamedEntry) → All (λ n. n ≤ length mine) (map (λ begun. marks_since thread mine begun) begins)
open_low_of thread mine [] = All-nil (λ n. n ≤ length mine)
open_low_of thread mine (b ∷ begins) =
    let c = count_by-le-length (is_marked thread) (drop b.index mine) in
    let d = length-drop b.index mine in
    All-cons (λ n. n ≤ length mine) (marks_since thread mine b) (map (λ begun. marks_since thread mine begun) begins) (omega (arith, c, d)) (open_low_of thread mine begins)

pub open_low : (thread : ℕ) (mine : List NamedEntry) → All (λ n. n ≤ length mine) (open_marks thread mine)
open_low thread mine = open_low_of thread mine (begins_of mine)

pub wait_counted : (mark : Option ℕ) (thread : ℕ) (mine : List NamedEntry) → length mine + 1 ≤ M → map (λ n. min (n + marks_more mark) M) (more_marks (mark_count mark) (open_marks thread mine)) ≡ more_marks 1 (open_marks thread mine)
wait_counted mark thread mine few =
    let xs = open_marks thread mine in
    let one = counted_once mark in
    raised (mark_count mark) (marks_more mark) xs (low_all (mark_count mark) (marks_more mark) xs (length mine) (open_low thread mine) one few)
    ∙ ap (λ n. more_marks n xs) one

-- of sections that a call which is no `begin` left open
pub after_map : (f : ℕ → ℕ) (called : Call) (xs : List ℕ) → is_begin called ≡ false → map f (marks_after called xs) ≡ marks_after called (map f xs)
after_map f (call.Begin a b) xs no_begin = absurd (cc)
after_map f call.End [] no_begin = refl
after_map f call.End (x ∷ xs) no_begin = refl
after_map f (call.Dict o c) xs no_begin = refl
after_map f (call.List o c) xs no_begin = refl
after_map f (call.Set o c) xs no_begin = refl
after_map f (call.Deque o c) xs no_begin = refl
after_map f (call.Next n) xs no_begin = refl
after_map f call.Quiesce xs no_begin = refl
after_map f (call.Await other place) xs no_begin = refl
after_map f call.Dump xs no_begin = refl

-- ---- one entry more

marked_one : (thread : ℕ) (e : NamedEntry) (mark : Option ℕ) → e.thread ≡ thread → e.waited ≡ mark → cond {A = ℕ} (is_marked thread e) 1 0 ≡ mark_count mark
marked_one thread e None own is = ap (λ (b : Bool). cond {A = ℕ} (b && is_some e.waited) 1 0) (eq-eqb e.thread thread own) ∙ ap (λ (w : Option ℕ). cond {A = ℕ} (is_some w) 1 0) is
marked_one thread e (Some q) own is = ap (λ (b : Bool). cond {A = ℕ} (b && is_some e.waited) 1 0) (eq-eqb e.thread thread own) ∙ ap (λ (w : Option ℕ). cond {A = ℕ} (is_some w) 1 0) is

since_more : (thread : ℕ) (mine : List NamedEntry) (e : NamedEntry) (begun : NamedEntry) → e.thread ≡ thread → begun.index ≤ length mine → marks_since thread (mine ++ e ∷ []) begun ≡ marks_since thread mine begun + mark_count e.waited
since_more thread mine e begun own low =
    ap (count_by (is_marked thread)) (drop-append-le begun.index mine (e ∷ []) low)
    ∙ (sum_by_push (λ x. cond {A = ℕ} (is_marked thread x) 1 0) (drop begun.index mine) e
    ∙ ap (λ n. marks_since thread mine begun + n) (marked_one thread e e.waited own refl))

all_more : (thread : ℕ) (mine : List NamedEntry) (e : NamedEntry) → e.thread ≡ thread → (begins : List NamedEntry) → All (λ b. b.index ≤ length mine) begins → map (λ begun. marks_since thread (mine ++ e ∷ []) begun) begins ≡ more_marks (mark_count e.waited) (map (λ begun. marks_since thread mine begun) begins)
all_more thread mine e own [] low = refl
all_more thread mine e own (b ∷ begins) low =
    ap (λ n. n ∷ map (λ begun. marks_since thread (mine ++ e ∷ []) begun) begins) (since_more thread mine e b own (All-head (λ b. b.index ≤ length mine) b begins low))
    ∙ ap (λ l. (marks_since thread mine b + mark_count e.waited) ∷ l) (all_more thread mine e own begins (All-tail (λ b. b.index ≤ length mine) b begins low))

-- a `begin` counts none after itself
since_itself : (thread : ℕ) (mine : List NamedEntry) (e : NamedEntry) → e.index ≡ length mine + 1 → marks_since thread (mine ++ e ∷ []) e ≡ 0
since_itself thread mine e is =
    let p = length_push mine e in
    ap (count_by (is_marked thread)) (drop_all e.index (mine ++ e ∷ []) (omega (arith, p, is)))

-- what holds of all entries holds of those that began open sections
begins_have : (P : NamedEntry → Type 0) (begins mine : List NamedEntry) → All P begins → All P mine → All P (fold (λ begins entry. after_begins entry entry.call begins) begins mine)
begins_have P begins [] had all = had
begins_have P begins (e ∷ mine) had all =
    begins_have P (after_begins e e.call begins) mine (one e.call begins (All-head P e mine all) had) (All-tail P e mine all)
  where
    one : (c : Call) (begins : List NamedEntry) → P e → All P begins → All P (after_begins e c begins)
    one (call.Begin a b) begins is all = All-cons P e begins is all
    one call.End [] is all = all
    one call.End (b ∷ begins) is all = All-tail P b begins all
    one (call.Dict o c) begins is all = all
    one (call.List o c) begins is all = all
    one (call.Set o c) begins is all = all
    one (call.Deque o c) begins is all = all
    one (call.Next n) begins is all = all
    one call.Quiesce begins is all = all
    one (call.Await other place) begins is all = all
    one call.Dump begins is all = all

low_from : (xs : List NamedEntry) (a : ℕ) → map (λ e. e.index) xs ≡ range_with_len (a + 1) (length xs) → All (λ e. e.index ≤ a + length xs) xs
low_from [] a is = All-nil (λ e. e.index ≤ a + 0)
low_from (x ∷ xs) a is =
    let here : x.index ≡ a + 1 = cc in
    let rest : map (λ e. e.index) xs ≡ range_with_len (a + 1 + 1) (length xs) = cc in
    let r = low_from xs (a + 1) rest in
    All-cons (λ e. e.index ≤ a + length (x ∷ xs)) x xs (omega arith)
    (subst (λ n. All (λ e. e.index ≤ n) xs) (let e : a + 1 + length xs ≡ a + length (x ∷ xs) = omega arith in e) r)

pub begins_low : (mine : List NamedEntry) → map (λ e. e.index) mine ≡ range_with_len 1 (length mine) → All (λ b. b.index ≤ length mine) (begins_of mine)
begins_low mine is =
    let all = subst (λ n. All (λ e. e.index ≤ n) mine) (let e : 0 + length mine ≡ length mine = omega arith in e) (low_from mine 0 is) in
    begins_have (λ b. b.index ≤ length mine) [] mine (All-nil (λ b. b.index ≤ length mine)) all

-- the sections that are open after one entry more, and how many waited in each
pub open_more : (thread : ℕ) (mine : List NamedEntry) (e : NamedEntry) → map (λ e. e.index) mine ≡ range_with_len 1 (length mine) → e.thread ≡ thread → e.index ≡ length mine + 1 → open_marks thread (mine ++ e ∷ []) ≡ marks_after e.call (more_marks (mark_count e.waited) (open_marks thread mine))
open_more thread mine e indexes own index =
    ap (map (λ begun. marks_since thread (mine ++ e ∷ []) begun)) (fold-append (λ begins entry. after_begins entry entry.call begins) [] mine (e ∷ []))
    ∙ by e.call (begins_of mine) (begins_low mine indexes)
  where
    by : (c : Call) (begins : List NamedEntry) → All (λ b. b.index ≤ length mine) begins → map (λ begun. marks_since thread (mine ++ e ∷ []) begun) (after_begins e c begins) ≡ marks_after c (more_marks (mark_count e.waited) (map (λ begun. marks_since thread mine begun) begins))
    by (call.Begin a b) begins low =
        ap (λ n. n ∷ map (λ begun. marks_since thread (mine ++ e ∷ []) begun) begins) (since_itself thread mine e index)
        ∙ ap (λ l. 0 ∷ l) (all_more thread mine e own begins low)
    by call.End [] low = refl
    by call.End (b ∷ begins) low = all_more thread mine e own begins (All-tail (λ b. b.index ≤ length mine) b begins low)
    by (call.Dict o c) begins low = all_more thread mine e own begins low
    by (call.List o c) begins low = all_more thread mine e own begins low
    by (call.Set o c) begins low = all_more thread mine e own begins low
    by (call.Deque o c) begins low = all_more thread mine e own begins low
    by (call.Next n) begins low = all_more thread mine e own begins low
    by call.Quiesce begins low = all_more thread mine e own begins low
    by (call.Await other place) begins low = all_more thread mine e own begins low
    by call.Dump begins low = all_more thread mine e own begins low

-- ---- the innermost section is taken up again

pub last_of : (xs : List OpenSection) → (xs ≡ []) ⊎ ((outer : List OpenSection) × (top : OpenSection) × (xs ≡ outer ++ top ∷ []))
last_of [] = inl refl
last_of (x ∷ xs) = inr (⊎_elim (λ (e : xs ≡ []). ([], x, ap (λ l. x ∷ l) e)) (λ (r : (outer : List OpenSection) × (top : OpenSection) × (xs ≡ outer ++ top ∷ [])). (x ∷ r.0, r.1, ap (λ l. x ∷ l) r.2)) (last_of xs))

pub taken_up_marks : (s t : Stack) → TakenUp s t → section_marks t ≡ section_marks s
taken_up_marks s t up =
    ⊎_elim
    (λ (none : s.sections ≡ []). ap (λ (xs : List OpenSection). reverse (map (λ section. section.marks) xs)) (up.none none ∙ sym none))
    (λ (r : (outer : List OpenSection) × (top : OpenSection) × (s.sections ≡ outer ++ top ∷ [])).
    let u = up.top r.0 r.1 r.2 in
    ap reverse
    (ap (map (λ section. section.marks)) u.2
    ∙ (map-append (λ section. section.marks) r.0 (noting u.0 u.1 r.1 ∷ [])
    ∙ (sym (map-append (λ section. section.marks) r.0 (r.1 ∷ []))
    ∙ sym (ap (map (λ section. section.marks)) r.2)))))
    (last_of s.sections)
