-- Who made an await was told of the call that it names, and who was told may make it.
use Rattle.std.proofs.Common.{◌≡◌, ℕ, zero, suc, ◌≤◌, eqb, le_trans, Bool, true, false, cond, List, [], ◌∷◌, ◌++◌, refl, sym, ap, ◌∙◌, subst, true≢false, arith, append_assoc}
use Rattle.std.specs.Prelude.{All, Some, None, slice_get}
use Rattle.std.proofs.lemmas.List.Elements.{All-nil, All-cons, All-head, All-tail, All-append, All-weaker}
use mathlib.Core.Option.{some}
use lib.ListN.{get_elem?}
use Rattle.ft_model.specs.declared.call.Call.{Call}
use Rattle.ft_model.specs.declared.call.Call.TheVariants as call
use Rattle.ft_model.specs.declared.reply.Reply.{Reply}
use Rattle.ft_model.specs.declared.reply.Reply.TheVariants as reply
use Rattle.ft_model.specs.Answers.{is_write}
use Rattle.ft_model.specs.Calls.{moved_cursor}
use Rattle.ft_model.specs.Histories.{IsReplied}
use Rattle.ft_model.specs.TableUses.{StoredWorld, stored_newest}
use Rattle.ft_trace.specs.declared.Act.{Act}
use Rattle.ft_trace.specs.declared.Act.TheVariants.{Commit, Answer, AnswerCursor, ReadCounter, TookOver}
use Rattle.ft_trace.specs.declared.Entry.{Entry}
use Rattle.ft_trace.specs.declared.Shape.{Shape}
use Rattle.ft_trace.specs.declared.Told.{Told}
use Rattle.ft_trace.specs.declared.View.{View}
use Rattle.ft_trace.specs.Acts.{all_lists, lists_of, entries_next, view_after, starter, maker, made, both, spent, sender, note, own_told, told_in, tells}
use Rattle.ft_trace.specs.Addresses.{counter}
use Rattle.ft_trace.specs.Causes.{Loaded, HasCause, IsToldOf, WasTold}
use Rattle.ft_trace.specs.ContainerStates.{first_writes, reply_in}
use Rattle.ft_trace.specs.ToldEntries.{IsAwaitTold, AreAwaitsTold, AwaitsWereTold, AwaitsMayBeAnswered}
use Rattle.ft_trace.specs.Traces.{Event, did, forked, joined, sent, run, word, history, May, Valid}
use Rattle.ft_trace.proofs.EarlierMoments.{was}
use Rattle.ft_trace.proofs.OneWord.{loaded}
use Rattle.ft_trace.proofs.Seeing.{seen_low}
use Rattle.ft_trace.proofs.Sizes.{set_at, set_views, one_more, one_view}
use Rattle.ft_trace.proofs.ToldEntries.{told_low}

-- ---- lists that grow

pub get_before : {A : Type 0} (xs ys : List A) (i : ℕ) (x : A) → slice_get xs i ≡ Some x → slice_get (xs ++ ys) i ≡ Some x
get_before [] ys i x e = absurd (cc)
get_before (z ∷ xs) ys zero x e = e
get_before (z ∷ xs) ys (suc i) x e = get_before xs ys i x e

pub get_after : {A : Type 0} (xs ys : List A) (i : ℕ) (x : A) → slice_get ys i ≡ Some x → (place : ℕ) × (slice_get (xs ++ ys) place ≡ Some x)
get_after [] ys i x e = (i, e)
get_after (z ∷ xs) ys i x e = let later = get_after xs ys i x e in (suc later.0, later.1)

abbrev told_before : (told more : List Told) (thread index : ℕ) → IsToldOf told thread index → IsToldOf (told ++ more) thread index
told_before told more thread index is = record { place = is.place; one = is.one; at = get_before told more is.place is.one is.at; pass = is.pass; some = is.some; many = is.many }

abbrev told_after : (more told : List Told) (thread index : ℕ) → IsToldOf told thread index → IsToldOf (more ++ told) thread index
told_after more told thread index is =
    let later = get_after more told is.place is.one is.at in
    record { place = later.0; one = is.one; at = later.1; pass = is.pass; some = is.some; many = is.many }

was_before : (told more : List Told) (called : Call) (stamp : ℕ) → IsAwaitTold told called stamp → IsAwaitTold (told ++ more) called stamp
was_before told more (call.Await thread index) stamp is = record { of = told_before told more thread index is.of; late = is.late }
was_before told more called stamp is = tt

was_after : (more told : List Told) (called : Call) (stamp : ℕ) → IsAwaitTold told called stamp → IsAwaitTold (more ++ told) called stamp
was_after more told (call.Await thread index) stamp is = record { of = told_after more told thread index is.of; late = is.late }
was_after more told called stamp is = tt

-- ---- the entries of a view

abbrev AllTold : List Told → List (List Entry) → Type 0
AllTold told lists = All (AreAwaitsTold told) lists

each_told : (a b : List Told) → ((called : Call) (stamp : ℕ) → IsAwaitTold a called stamp → IsAwaitTold b called stamp) → (lists : List (List Entry)) → AllTold a lists → AllTold b lists
each_told a b more lists all = All-weaker (AreAwaitsTold a) (AreAwaitsTold b) (λ entries told. All-weaker (λ e. IsAwaitTold a e.call e.stamp) (λ e. IsAwaitTold b e.call e.stamp) (λ e is. more e.call e.stamp is) entries told) lists all

-- what a view tells has what it was told
pub telling : (w : View) (lists : List (List Entry)) → AllTold (told_in w.log) lists → AllTold (tells w) lists
telling w lists all = each_told (told_in w.log) (tells w) (λ called stamp is. was_after (own_told w) (w.told ++ told_in w.log) called stamp (was_after w.told (told_in w.log) called stamp is)) lists all

no_entries : (told : List Told) → AllTold told ([] ∷ [])
no_entries told = All-cons (AreAwaitsTold told) [] [] (All-nil (λ e. IsAwaitTold told e.call e.stamp)) (All-nil (AreAwaitsTold told))

given_lists : (w : View) (told : List Told) → AllTold told (all_lists w) → AllTold told (lists_of w)
given_lists w told all = by (eqb w.number 0)
  where
    by : (b : Bool) → AllTold told (cond b w.lists (all_lists w))
    by true = All-tail (AreAwaitsTold told) w.entries w.lists all
    by false = all

-- ---- one more entry

no_await : (told : List Told) (called : Call) (stamp : ℕ) → ((thread index : ℕ) → called ≡ call.Await thread index → ⊥) → IsAwaitTold told called stamp
no_await told (call.Await thread index) stamp none = absurd (none thread index refl)
no_await told called stamp none = tt

caused : (stored : StoredWorld) (v : View) (called : Call) (said plain : Reply) (n : ℕ) → IsReplied called said plain → HasCause stored v called said n → IsAwaitTold (told_in v.log) called n
caused stored v (call.Await thread index) said plain n replied cause = subst (λ (z : Reply). HasCause stored v (call.Await thread index) z n) replied cause
caused stored v called said plain n replied cause = tt

told_next : (k : Shape) (es : List Event) (v : View) (a : Act) → May k (run k es) (history es) v a → AreAwaitsTold (told_in v.log) v.entries → AreAwaitsTold (told_in (a ∷ v.log)) (entries_next a v.entries)
told_next k es v (Commit c r f s) may old =
    All-cons (λ e. IsAwaitTold (told_in v.log) e.call e.stamp) (record { call = c; reply = r; stamp = f; wrote = true }) v.entries
    (no_await (told_in v.log) c f (λ thread index is. true≢false (sym may.0 ∙ ap (λ z. is_write z r) is))) old
told_next k es v (Answer c r n) may old =
    All-cons (λ e. IsAwaitTold (told_in v.log) e.call e.stamp) (record { call = c; reply = r; stamp = n; wrote = false }) v.entries
    (caused (stored_newest k.starts (first_writes n (history es))) v c r (reply_in (stored_newest k.starts (first_writes n (history es))) c) n may.2 may.4) old
told_next k es v (AnswerCursor c r n number had left) may old =
    All-cons (λ e. IsAwaitTold (told_in v.log) e.call e.stamp) (record { call = c; reply = r; stamp = n; wrote = false }) v.entries
    (no_await (told_in v.log) c n (λ thread index is. absurd (let e : None ≡ Some number = sym (ap moved_cursor is) ∙ may.0 in cc))) old
told_next k es v (TookOver hs had found told) may old = absurd may
told_next k es v act may old = old

same_told : (k : Shape) (es : List Event) (v : View) (a : Act) → May k (run k es) (history es) v a → told_in (a ∷ v.log) ≡ told_in v.log
same_told k es v (TookOver hs had found told) may = absurd may
same_told k es v act may = refl

abbrev Told_ : ℕ → View → Type 0
Told_ j u = AllTold (told_in u.log) (all_lists u)

pub awaits_were_told : AwaitsWereTold
awaits_were_told k [] valid = one_view Told_ (starter k) (no_entries [])
awaits_were_told k (did id v a ∷ es) valid =
    let old = awaits_were_told k es valid.0 in
    let mine = old id v valid.1.0 in
    let now = told_in (a ∷ v.log) in
    set_views Told_ _ id (view_after a v)
    (All-cons (AreAwaitsTold now) (entries_next a v.entries) v.lists
    (told_next k es v a valid.1.3 (All-head (AreAwaitsTold (told_in v.log)) v.entries v.lists mine))
    (subst (λ told. AllTold told v.lists) (sym (same_told k es v a valid.1.3)) (All-tail (AreAwaitsTold (told_in v.log)) v.entries v.lists mine)))
    (λ j u _ e. old j u e)
awaits_were_told k (forked id v ∷ es) valid =
    let old = awaits_were_told k es valid.0 in
    one_more Told_ _ (made v) (no_entries []) (set_views Told_ _ id (maker v) (old id v valid.1.0) (λ j u _ e. old j u e))
awaits_were_told k (sent id v given ∷ es) valid =
    let old = awaits_were_told k es valid.0 in
    one_more Told_ _ (note given v) (no_entries []) (set_views Told_ _ id (sender given v) (old id v valid.1.0) (λ j u _ e. old j u e))
awaits_were_told k (joined id v other w ∷ es) valid =
    let old = awaits_were_told k es valid.0 in
    let all = tells w ++ told_in v.log in
    let mine = each_told (told_in v.log) all (was_after (tells w) (told_in v.log)) (all_lists v) (old id v valid.1.0) in
    let theirs = each_told (tells w) all (was_before (tells w) (told_in v.log)) (all_lists w) (telling w (all_lists w) (old other w valid.1.2)) in
    set_views Told_ _ other spent (no_entries [])
    (λ j u _. set_views Told_ _ id (both v w)
    (All-append (AreAwaitsTold all) (all_lists v) (lists_of w) mine (given_lists w all theirs))
    (λ j u _ e. old j u e) j u)

-- ---- an await

told_in_append : (newer rest : List Act) → (more : List Told) × (told_in (newer ++ rest) ≡ more ++ told_in rest)
told_in_append [] rest = ([], refl)
told_in_append (a ∷ newer) rest = by a (told_in_append newer rest)
  where
    by : (a : Act) → ((more : List Told) × (told_in (newer ++ rest) ≡ more ++ told_in rest)) → (more : List Told) × (told_in (a ∷ (newer ++ rest)) ≡ more ++ told_in rest)
    by (TookOver hs had found told) before = (told ++ before.0, ap (λ l. told ++ l) before.1 ∙ sym (append_assoc told before.0 (told_in rest)))
    by act before = before

-- a load of the counter after a pass was told of a call gives the stamp of an await of it
pub loaded_after : (k : Shape) (es : List Event) → Valid k es → (j : ℕ) (u : View) → get_elem? (run k es).views j ≡ some u → (newer rest : List Act) (n : ℕ) → u.log ≡ newer ++ ReadCounter n ∷ rest → (thread index : ℕ) → IsToldOf (told_in rest) thread index → WasTold (told_in u.log) thread index n
loaded_after k es valid j u at newer rest n is thread index told =
    let w = was k es valid j u at newer (ReadCounter n) rest is in
    let low : told.one.seen ≤ n = le_trans (told_low k w.older w.valid j w.view w.at told.place told.one (ap (λ l. slice_get (told_in l) told.place) w.log ∙ told.at)) (let low = seen_low k w.older w.valid j w.view w.at in let found : n ≡ word k w.older counter = w.tells in omega (arith, low, found)) in
    let split = told_in_append newer (ReadCounter n ∷ rest) in
    let late : WasTold (split.0 ++ told_in rest) thread index n = record { of = told_after split.0 (told_in rest) thread index told; late = low } in
    subst (λ l. WasTold l thread index n) (sym (ap told_in is ∙ split.1)) late

pub awaits_may_be_answered : AwaitsMayBeAnswered
awaits_may_be_answered v thread index live p some_call told =
    let k = v.shape in
    let es = p.0 in
    let id = p.1 in
    let n = word k es counter in
    let a : Act = ReadCounter n in
    let u = view_after a v in
    let now : List Event = did id v a ∷ es in
    let awaited = call.Await thread index in
    let at = set_at (run k es).views id v u p.2.1 in
    let same : word k now counter ≡ n = loaded k es id v a (λ m. refl) counter in
    let valid_ : Valid k now = (p.2.0, (p.2.1, live.0, refl, tt, live.1)) in
    let own : Loaded n u.log = record { newer = []; rest = v.log; is = refl; own = tt } in
    let cause : WasTold (told_in u.log) thread index n = loaded_after k now valid_ id u at [] v.log n refl thread index told in
    let may : May k (run k now) (history now) u (Answer awaited reply.Done n) = (refl, omega (arith, same), refl, own, cause, some_call, refl) in
    (n, (did id u (Answer awaited reply.Done n) ∷ now, id, ((valid_, (at, live.0, tt, may, live.1)), set_at (run k now).views id u (view_after (Answer awaited reply.Done n) u) at)))
