-- What a note tells of its maker is so.
use Rattle.std.proofs.Common.{◌≡◌, ◌≢◌, ℕ, zero, suc, ◌+◌, ◌<◌, ◌≤◌, eqb, le_trans, le_refl, cond, List, [], ◌∷◌, ◌++◌, length, reverse, refl, sym, ap, ◌∙◌, subst, arith, append_assoc}
use Rattle.std.specs.Prelude.{◌-◌, option_map, All, true, false, Some, slice_get}
use Rattle.std.proofs.Math.Nat.{le-max_right, max-zero}
use Rattle.std.proofs.lemmas.List.{reverse-append}
use Rattle.std.proofs.lemmas.List.Elements.{All-nil, All-cons, All-head, All-tail, All-append, All-push, All-weaker}
use Rattle.std.proofs.lemmas.Option.{slice_get-map}
use Rattle.ft_trace.specs.OwnCursors.{plain_entry}
use mathlib.Core.Option.{some}
use mathlib.Core.Logic.{dite}
use native.Mathlib.Decide.{ℕ_discrete}
use lib.ListN.{get_elem?, length-reverse}
use mathlib.Core.List.{reverse-cons}
use Rattle.ft_trace.specs.declared.Act.{Act}
use Rattle.ft_trace.specs.declared.Act.TheVariants.{Commit, Answer, AnswerCursor, ReadCounter, TookOver}
use Rattle.ft_trace.specs.declared.Entry.{Entry}
use Rattle.ft_trace.specs.declared.Shape.{Shape}
use Rattle.ft_trace.specs.declared.Told.{Told}
use Rattle.ft_trace.specs.declared.View.{View}
use Rattle.ft_trace.specs.Acts.{entries_next, seen_writes, shown, view_after, starter, maker, made, both, spent, sender, note, own_told, presence_of, told_in, tells}
use Rattle.ft_trace.specs.Causes.{Loaded}
use Rattle.ft_trace.specs.NumberPlaces.{top}
use Rattle.ft_trace.specs.OwnOrder.{number_after}
use Rattle.ft_trace.specs.ToldEntries.{ToldEntriesAreSeen, AwaitedEntriesAreKnown}
use Rattle.ft_trace.specs.Traces.{Event, did, forked, joined, sent, run, history, May, Valid}
use Rattle.ft_trace.proofs.Cases.{here, hit, miss}
use Rattle.ft_trace.proofs.InOrder.{get_front}
use Rattle.ft_trace.proofs.Seats.{seated, same_seat}
use Rattle.ft_trace.proofs.Seeing.{shown_up, seen_up, seen_own, seen_others}
use Rattle.ft_trace.proofs.Sizes.{set_views, one_more, one_view}

-- the entries that the pass with this number has made, newest first
abbrev pub made_by : ℕ → List Event → List Entry
made_by p [] = []
made_by p (did id v a ∷ es) = cond (eqb v.number p) (entries_next a (made_by p es)) (made_by p es)
made_by p (forked id v ∷ es) = made_by p es
made_by p (joined id v other w ∷ es) = made_by p es
made_by p (sent id v given ∷ es) = made_by p es

abbrev Grows : List Entry → List Entry → Type 0
Grows old new = (newer : List Entry) × (new ≡ newer ++ old)

next_grows : (a : Act) (l : List Entry) → Grows l (entries_next a l)
next_grows (Commit c r f s) l = (record { call = c; reply = r; stamp = f; wrote = true } ∷ [], refl)
next_grows (Answer c r n) l = (record { call = c; reply = r; stamp = n; wrote = false } ∷ [], refl)
next_grows (AnswerCursor c r n number had left) l = (record { call = c; reply = r; stamp = n; wrote = false } ∷ [], refl)
next_grows act l = ([], refl)

grows_by : (p : ℕ) (es : List Event) (id : ℕ) (v : View) (a : Act) → Grows (made_by p es) (made_by p (did id v a ∷ es))
grows_by p es id v a =
    dite (ℕ_discrete v.number p)
    (λ (same : v.number ≡ p). let g = next_grows a (made_by p es) in (g.0, here v.number p (entries_next a (made_by p es)) (made_by p es) same ∙ g.1))
    (λ (apart : v.number ≢ p). ([], miss v.number p (entries_next a (made_by p es)) (made_by p es) apart))

grows_on : (x y z : List Entry) → Grows x y → Grows y z → Grows x z
grows_on x y z a b = (b.0 ++ a.0, b.1 ∙ (ap (λ l. b.0 ++ l) a.1 ∙ sym (append_assoc b.0 a.0 x)))

-- a pass that is not made has made none
none_made : (k : Shape) (es : List Event) → Valid k es → (p : ℕ) → top es ≤ p → made_by p es ≡ []
none_made k [] valid p high = refl
none_made k (did id v a ∷ es) valid p high =
    let low = (seated k es valid.0 id v valid.1.0).below in
    miss v.number p (entries_next a (made_by p es)) (made_by p es) (λ same. omega (arith, low, same, high)) ∙ none_made k es valid.0 p high
none_made k (forked id v ∷ es) valid p high = none_made k es valid.0 p (omega (arith, high))
none_made k (joined id v other w ∷ es) valid p high = none_made k es valid.0 p high
none_made k (sent id v given ∷ es) valid p high = none_made k es valid.0 p high

-- ---- what is told

-- of one told: its entries are the first that its pass made, it had seen them, and this many writes are at least as many
pub record IsSo (es : List Event) (seen : ℕ) (one : Told) : Type 0 where
  pub first : Grows one.entries (made_by one.pass es)
  pub before : All (λ e. number_after e ≤ one.seen) one.entries
  pub low : one.seen ≤ seen

so_then : (es fs : List Event) (s t : ℕ) → s ≤ t → ((p : ℕ) → Grows (made_by p es) (made_by p fs)) → (one : Told) → IsSo es s one → IsSo fs t one
so_then es fs s t up more one old =
    let low = old.low in
    record { first = grows_on one.entries (made_by one.pass es) (made_by one.pass fs) old.first (more one.pass); before = old.before; low = omega (arith, up, low) }

abbrev AreSo : List Event → ℕ → List Told → Type 0
AreSo es seen told = All (IsSo es seen) told

pub record Tells (es : List Event) (j : ℕ) (u : View) : Type 0 where
  pub own : u.number ≢ 0 → u.entries ≡ made_by u.number es
  pub seen : All (λ e. number_after e ≤ seen_writes u) u.entries
  pub told : AreSo es (seen_writes u) u.told
  pub told_in_ : AreSo es (seen_writes u) (told_in u.log)

same : (l : List Entry) → Grows l l
same l = ([], refl)

are_then : (es fs : List Event) (s t : ℕ) → s ≤ t → ((p : ℕ) → Grows (made_by p es) (made_by p fs)) → (told : List Told) → AreSo es s told → AreSo fs t told
are_then es fs s t up more told old = All-weaker (IsSo es s) (IsSo fs t) (so_then es fs s t up more) told old

own_so : (es : List Event) (j : ℕ) (u : View) → Tells es j u → AreSo es (seen_writes u) (own_told u)
own_so es j u t =
    dite (ℕ_discrete u.number 0)
    (λ (none : u.number ≡ 0). subst (AreSo es (seen_writes u)) (sym (here u.number 0 [] (record { pass = u.number; seen = seen_writes u; entries = u.entries; presence = presence_of u.log } ∷ []) none)) (All-nil (IsSo es (seen_writes u))))
    (λ (live : u.number ≢ 0). subst (AreSo es (seen_writes u)) (sym (miss u.number 0 [] (record { pass = u.number; seen = seen_writes u; entries = u.entries; presence = presence_of u.log } ∷ []) live))
    (All-cons (IsSo es (seen_writes u)) (record { pass = u.number; seen = seen_writes u; entries = u.entries; presence = presence_of u.log }) []
    (record { first = ([], sym (t.own live)); before = t.seen; low = le_refl (seen_writes u) })
    (All-nil (IsSo es (seen_writes u)))))

all_so : (es : List Event) (j : ℕ) (u : View) → Tells es j u → AreSo es (seen_writes u) (tells u)
all_so es j u t = All-append (IsSo es (seen_writes u)) (own_told u) (u.told ++ told_in u.log) (own_so es j u t) (All-append (IsSo es (seen_writes u)) u.told (told_in u.log) t.told t.told_in_)

-- what is told_in changes with what is taken over alone
told_in_by : (k : Shape) (es : List Event) (v : View) (a : Act) → May k (run k es) (history es) v a → (F : List Told → Type 0) → F (told_in v.log) → F (told_in (a ∷ v.log))
told_in_by k es v (TookOver hs had found told) may F old = absurd may
told_in_by k es v act may F old = old

shown_over : (newer l : List Act) → shown l ≤ shown (newer ++ l)
shown_over [] l = le_refl (shown l)
shown_over (a ∷ newer) l = le_trans (shown_over newer l) (shown_up a (newer ++ l))

loaded_shown : (n : ℕ) (log : List Act) → Loaded n log → n ≤ shown log
loaded_shown n log l =
    subst (λ (z : List Act). n ≤ shown z) (sym l.is) (le_trans (le-max_right (shown l.rest) n) (shown_over l.newer (ReadCounter n ∷ l.rest)))

abbrev Seen : ℕ → List Entry → Type 0
Seen s entries = All (λ e. number_after e ≤ s) entries

seen_then : (s t : ℕ) → s ≤ t → (entries : List Entry) → Seen s entries → Seen t entries
seen_then s t up entries old = All-weaker (λ e. number_after e ≤ s) (λ e. number_after e ≤ t) (λ e low. le_trans low up) entries old

seen_by : (k : Shape) (es : List Event) (v : View) (a : Act) → May k (run k es) (history es) v a → Seen (seen_writes v) v.entries → Seen (seen_writes (view_after a v)) (view_after a v).entries
seen_by k es v (Commit c r f s) may old =
    let t = seen_writes (view_after (Commit c r f s) v) in
    All-cons (λ e. number_after e ≤ t) (record { call = c; reply = r; stamp = f; wrote = true }) v.entries
    (le_trans (le-max_right (shown v.log) (f + 1)) (le-max_right v.learnt (shown (Commit c r f s ∷ v.log))))
    (seen_then (seen_writes v) t (seen_up (Commit c r f s) v) v.entries old)
seen_by k es v (Answer c r n) may old =
    let t = seen_writes (view_after (Answer c r n) v) in
    All-cons (λ e. number_after e ≤ t) (record { call = c; reply = r; stamp = n; wrote = false }) v.entries
    (le_trans (loaded_shown n v.log may.3) (le-max_right v.learnt (shown v.log)))
    (seen_then (seen_writes v) t (seen_up (Answer c r n) v) v.entries old)
seen_by k es v (AnswerCursor c r n number had left) may old =
    let t = seen_writes (view_after (AnswerCursor c r n number had left) v) in
    All-cons (λ e. number_after e ≤ t) (record { call = c; reply = r; stamp = n; wrote = false }) v.entries
    (le_trans (loaded_shown n v.log may.3) (le-max_right v.learnt (shown v.log)))
    (seen_then (seen_writes v) t (seen_up (AnswerCursor c r n number had left) v) v.entries old)
seen_by k es v a may old = seen_then (seen_writes v) (seen_writes (view_after a v)) (seen_up a v) v.entries old

-- another view, with as much seen
stays : (es fs : List Event) → ((p : ℕ) → Grows (made_by p es) (made_by p fs)) → (i j : ℕ) (u w : View) → w.entries ≡ u.entries → seen_writes w ≡ seen_writes u → w.told ≡ u.told → told_in w.log ≡ told_in u.log → (w.number ≢ 0 → w.entries ≡ made_by w.number fs) → Tells es i u → Tells fs j w
stays es fs up i j u w entries seen told_ tells_in own old =
    let le : seen_writes u ≤ seen_writes w = omega (arith, seen) in
    record {
      own = own;
      seen = subst (Seen (seen_writes w)) (sym entries) (seen_then (seen_writes u) (seen_writes w) le u.entries old.seen);
      told = subst (AreSo fs (seen_writes w)) (sym told_) (are_then es fs (seen_writes u) (seen_writes w) le up u.told old.told);
      told_in_ = subst (AreSo fs (seen_writes w)) (sym tells_in) (are_then es fs (seen_writes u) (seen_writes w) le up (told_in u.log) old.told_in_);
    }

empty_tells : (fs : List Event) (j : ℕ) (u : View) → u.entries ≡ [] → u.told ≡ [] → u.log ≡ [] → (u.number ≢ 0 → u.entries ≡ made_by u.number fs) → Tells fs j u
empty_tells fs j u entries told_ log own =
    record {
      own = own;
      seen = subst (Seen (seen_writes u)) (sym entries) (All-nil (λ e. number_after e ≤ seen_writes u));
      told = subst (AreSo fs (seen_writes u)) (sym told_) (All-nil (IsSo fs (seen_writes u)));
      told_in_ = subst (λ (l : List Act). AreSo fs (seen_writes u) (told_in l)) (sym log) (All-nil (IsSo fs (seen_writes u)));
    }

tells_all : (k : Shape) (es : List Event) → Valid k es → (j : ℕ) (u : View) → get_elem? (run k es).views j ≡ some u → Tells es j u
tells_all k [] valid = one_view (Tells []) (starter k) (empty_tells [] 0 (starter k) refl refl refl (λ _. refl))
tells_all k (did id v a ∷ es) valid =
    let P = Tells (did id v a ∷ es) in
    let old = tells_all k es valid.0 in
    let mine = old id v valid.1.0 in
    let up : (p : ℕ) → Grows (made_by p es) (made_by p (did id v a ∷ es)) = λ p. grows_by p es id v a in
    let s = seen_writes v in
    let t = seen_writes (view_after a v) in
    set_views P _ id (view_after a v)
    (record {
      own = λ live. ap (entries_next a) (mine.own live) ∙ sym (hit v.number (entries_next a (made_by v.number es)) (made_by v.number es));
      seen = seen_by k es v a valid.1.3 mine.seen;
      told = are_then es (did id v a ∷ es) s t (seen_up a v) up v.told mine.told;
      told_in_ = told_in_by k es v a valid.1.3 (AreSo (did id v a ∷ es) t) (are_then es (did id v a ∷ es) s t (seen_up a v) up (told_in v.log) mine.told_in_);
    })
    (λ j u apart e. stays es (did id v a ∷ es) up j j u u refl refl refl refl
    (λ live. (old j u e).own live ∙ sym (miss v.number u.number (entries_next a (made_by u.number es)) (made_by u.number es) (λ both_. apart (same_seat k es valid.0 j id u v e valid.1.0 live (sym both_)))))
    (old j u e))
tells_all k (forked id v ∷ es) valid =
    let P = Tells (forked id v ∷ es) in
    let old = tells_all k es valid.0 in
    let up : (p : ℕ) → Grows (made_by p es) (made_by p (forked id v ∷ es)) = λ p. same (made_by p es) in
    let first = ((seated k es valid.0 id v valid.1.0).next valid.1.2).0 in
    one_more P _ (made v) (empty_tells (forked id v ∷ es) _ (made v) refl refl refl (λ live. sym (none_made k es valid.0 v.next (omega (arith, first)))))
    (set_views P _ id (maker v) (stays es (forked id v ∷ es) up id id v (maker v) refl refl refl refl (old id v valid.1.0).own (old id v valid.1.0))
    (λ j u _ e. stays es (forked id v ∷ es) up j j u u refl refl refl refl (old j u e).own (old j u e)))
tells_all k (sent id v given ∷ es) valid =
    let P = Tells (sent id v given ∷ es) in
    let old = tells_all k es valid.0 in
    let mine = old id v valid.1.0 in
    let up : (p : ℕ) → Grows (made_by p es) (made_by p (sent id v given ∷ es)) = λ p. same (made_by p es) in
    let n = note given v in
    let less : seen_writes v ≤ seen_writes n = let e = max-zero (seen_writes v) in omega (arith, e) in
    one_more P _ n
    (record {
      own = λ live. absurd (live refl);
      seen = All-nil (λ e. number_after e ≤ seen_writes n);
      told = are_then es (sent id v given ∷ es) (seen_writes v) (seen_writes n) less up (own_told v) (own_so es id v mine);
      told_in_ = All-nil (IsSo (sent id v given ∷ es) (seen_writes n));
    })
    (set_views P _ id (sender given v) (stays es (sent id v given ∷ es) up id id v (sender given v) refl refl refl refl mine.own mine)
    (λ j u _ e. stays es (sent id v given ∷ es) up j j u u refl refl refl refl (old j u e).own (old j u e)))
tells_all k (joined id v other w ∷ es) valid =
    let fs = joined id v other w ∷ es in
    let P = Tells fs in
    let old = tells_all k es valid.0 in
    let mine = old id v valid.1.0 in
    let theirs = old other w valid.1.2 in
    let up : (p : ℕ) → Grows (made_by p es) (made_by p fs) = λ p. same (made_by p es) in
    let t = seen_writes (both v w) in
    set_views P _ other spent (empty_tells fs other spent refl refl refl (λ live. absurd (live refl)))
    (λ j u _. set_views P _ id (both v w)
    (record {
      own = mine.own;
      seen = seen_then (seen_writes v) t (seen_own v w) v.entries mine.seen;
      told = are_then es fs (seen_writes v) t (seen_own v w) up v.told mine.told;
      told_in_ = All-append (IsSo fs t) (tells w) (told_in v.log)
          (are_then es fs (seen_writes w) t (seen_others v w) up (tells w) (all_so es other w theirs))
          (are_then es fs (seen_writes v) t (seen_own v w) up (told_in v.log) mine.told_in_);
    })
    (λ j u _ e. stays es fs up j j u u refl refl refl refl (old j u e).own (old j u e)) j u)

-- ---- two that tell of one pass

got : {A : Type 0} (P : A → Type 0) (xs : List A) (i : ℕ) (x : A) → slice_get xs i ≡ Some x → All P xs → P x
got P [] i x is all = absurd (cc)
got P (y ∷ ys) zero x is all = subst P (let e : y ≡ x = cc in e) (All-head P y ys all)
got P (y ∷ ys) (suc i) x is all = got P ys i x is (All-tail P y ys all)

within : {A : Type 0} (l : List A) (n : ℕ) (x : A) → slice_get l n ≡ Some x → n < length l
within [] n x e = absurd (cc)
within (y ∷ ys) zero x e = omega arith
within (y ∷ ys) (suc n) x e = let r = within ys n x e in omega (arith, r)

reversed : {A : Type 0} (P : A → Type 0) (xs : List A) → All P xs → All P (reverse xs)
reversed P [] all = all
reversed P (x ∷ xs) all = subst (All P) (sym (reverse-cons x xs)) (All-push P (reverse xs) x (reversed P xs (All-tail P x xs all)) (All-head P x xs all))

-- the first of a list that grew are its first
first_same : (old new : List Entry) → Grows old new → (i : ℕ) → i < length old → slice_get (reverse new) i ≡ slice_get (reverse old) i
first_same old new g i low =
    let l = length-reverse old in
    ap (λ z. slice_get (reverse z) i) g.1 ∙ (ap (λ z. slice_get z i) (reverse-append g.0 old) ∙ get_front (reverse old) (reverse g.0) i (omega (arith, l, low)))

pub told_entries_are_seen : ToldEntriesAreSeen
told_entries_are_seen k es valid j l u w at there m n a b is_a is_b pass =
    let sa = got (IsSo es (seen_writes u)) (tells u) m a is_a (all_so es j u (tells_all k es valid j u at)) in
    let sb = got (IsSo es (seen_writes w)) (tells w) n b is_b (all_so es l w (tells_all k es valid l w there)) in (
      sa.low,
      λ i e low has.
          let inside = within (reverse b.entries) i e has in
          let long = length-reverse b.entries in
          let now : slice_get (reverse a.entries) i ≡ Some e =
          sym (first_same a.entries (made_by a.pass es) sa.first i low)
          ∙ (ap (λ p. slice_get (reverse (made_by p es)) i) pass
          ∙ (first_same b.entries (made_by b.pass es) sb.first i (omega (arith, inside, long)) ∙ has)) in
          (now, got (λ x. number_after x ≤ a.seen) (reverse a.entries) i e now (reversed (λ x. number_after x ≤ a.seen) a.entries sa.before)),
    )

pub awaited_entries_are_known : AwaitedEntriesAreKnown
awaited_entries_are_known told agree n all is_all mine same_ thread index stamp pass was named there =
    let some_ = was.of.some in
    let many = was.of.many in
    let now : slice_get (reverse all.entries) (index - 1) ≡ Some (plain_entry named) =
    ap (λ l. slice_get l (index - 1)) (sym same_) ∙ (slice_get-map plain_entry mine (index - 1) ∙ ap (option_map plain_entry) there) in
    let first = agree was.of.place n was.of.one all was.of.at is_all (was.of.pass ∙ sym pass) (index - 1) (plain_entry named) (omega (arith, some_, many)) now in
    le_trans first.1 was.late

-- what a pass was told it has seen
pub told_low : (k : Shape) (es : List Event) → Valid k es → (j : ℕ) (u : View) → get_elem? (run k es).views j ≡ some u → (place : ℕ) (one : Told) → slice_get (told_in u.log) place ≡ Some one → one.seen ≤ seen_writes u
told_low k es valid j u at place one is = (got (IsSo es (seen_writes u)) (told_in u.log) place one is (tells_all k es valid j u at).told_in_).low
