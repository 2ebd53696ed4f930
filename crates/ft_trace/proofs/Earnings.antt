-- Each entry with a MemoryError has its cause in the writes before its stamp.
use Rattle.std.proofs.Common.{◌≡◌, ℕ, false, true, true≢false, List, [], ◌∷◌, ◌++◌, length, refl, sym, ap, ◌∙◌, subst, arith}
use Rattle.std.specs.Prelude.{◌&&◌, Bool}
use mathlib.Core.Option.{some}
use lib.ListN.{get_elem?}
use Rattle.ft_model.specs.declared.call.Call.{Call}
use Rattle.ft_model.specs.declared.call.Call.TheVariants as call
use Rattle.ft_model.specs.declared.reply.Reply.{Reply}
use Rattle.ft_model.specs.declared.reply.Reply.TheVariants as reply
use Rattle.ft_model.specs.declared.reply.Raise.TheVariants as raise
use Rattle.ft_model.specs.Answers.{is_memory, is_write}
use Rattle.ft_model.specs.Calls.{is_changing}
use Rattle.ft_model.specs.TableUses.{stored_newest, would_pass}
use Rattle.ft_trace.specs.declared.Act.{Act}
use Rattle.ft_trace.specs.declared.Act.TheVariants.{Commit, Answer, AnswerCursor, ReadCounter, ReadCount}
use Rattle.ft_trace.specs.declared.Entry.{Entry}
use Rattle.ft_trace.specs.declared.Shape.{Shape}
use Rattle.ft_trace.specs.declared.View.{View}
use Rattle.std.specs.List.{flat_map}
use Rattle.ft_trace.specs.Acts.{place, Reports, view_after, starter, maker, made, note, sender, both, spent, entries_next, all_entries}
use Rattle.ft_trace.proofs.AllEntries.{next_all, has_none, both_all}
use Rattle.ft_trace.specs.Causes.{HasCause}
use Rattle.ft_trace.specs.Earnings.{IsEarnedSo, AllEarned, EntriesAreEarned}
use Rattle.ft_trace.specs.Entries.{AllRight}
use Rattle.ft_trace.specs.ContainerStates.{first_writes}
use Rattle.ft_trace.specs.Traces.{Event, did, forked, sent, joined, run, word, writes_of, history, May, Valid}
use Rattle.ft_trace.proofs.ClosedEntries.{all_right}
use Rattle.ft_trace.proofs.CursorAnswers.{moved_plain, moved_short}
use Rattle.ft_trace.proofs.Contents.{counted}
use Rattle.ft_trace.proofs.EarlierMoments.{was}
use Rattle.ft_trace.proofs.Sizes.{set_views, one_more, one_view}
use Rattle.ft_trace.proofs.RisingStamps.{empty_earned}
use Rattle.ft_trace.proofs.Stamps.{writes_stay, all_writes}

-- a reply that is no MemoryError
plain_earned : (k : Shape) (cs : List Call) (called : Call) (said : Reply) → is_memory said ≡ false → would_pass (stored_newest k.starts cs).world called ≡ false → IsEarnedSo k cs called said
plain_earned k cs called (reply.Raised (raise.Memory class)) plain short = absurd (true≢false plain)
plain_earned k cs called (reply.Raised raise.Over) plain short = absurd (true≢false plain)
plain_earned k cs called (reply.Raised raise.Heap) plain short = absurd (true≢false plain)
plain_earned k cs called said plain short = short

-- a write has no such reply
no_memory : (called : Call) (said : Reply) → is_write called said ≡ true → is_memory said ≡ false
no_memory called (reply.Raised raised) wrote = absurd (true≢false (sym wrote ∙ by (is_changing called)))
  where
    by : (b : Bool) → (b && false) ≡ false
    by true = refl
    by false = refl
no_memory called said wrote = refl

-- a cause that a log shows
cause_earned : (k : Shape) (es : List Event) → Valid k es → (id : ℕ) (v : View) → get_elem? (run k es).views id ≡ some v → (called : Call) (said : Reply) (n : ℕ) → HasCause (stored_newest k.starts (first_writes n (history es))) v called said n → IsEarnedSo k (first_writes n (history es)) called said
cause_earned k es valid id v at called (reply.Raised (raise.Memory class)) n cause =
    let f = cause.3 in
    let w = was k es valid id v at f.newer (ReadCounter n) (f.mid ++ ReadCount class 0 ∷ f.rest) f.is in
    let z = was k w.older w.valid id w.view w.at f.mid (ReadCount class 0) f.rest w.log in
    (cause.0, cause.1, cause.2, z.may tt, empty_earned k es valid id v at class n (z.may tt) f)
cause_earned k es valid id v at called (reply.Raised raise.Over) n cause = cause
cause_earned k es valid id v at called (reply.Raised raise.Heap) n cause = (cause.0, cause.1)
cause_earned k es valid id v at called reply.Kept n cause = cause.0
cause_earned k es valid id v at (call.Await thread index) reply.Done n cause = refl
cause_earned k es valid id v at called said n cause = cause

earned_next : (k : Shape) (es : List Event) → Valid k es → (id : ℕ) (v : View) → get_elem? (run k es).views id ≡ some v → (b : Act) → Reports b (word k es (place b)) → May k (run k es) (history es) v b → (fs : List Entry) → AllEarned k (writes_of b (history es)) fs → AllEarned k (writes_of b (history es)) (entries_next b fs)
earned_next k es valid id v at (Commit c r f s) found may fs all =
    let is : f ≡ length (history es) = found ∙ counted k es valid in
    let all_of : first_writes f (c ∷ history es) ≡ history es = writes_stay f (Commit c r f s) (history es) (omega (arith, is)) ∙ (ap (λ (z : ℕ). first_writes z (history es)) is ∙ all_writes (history es)) in
    (subst (λ (l : List Call). IsEarnedSo k l c r) (sym all_of) (plain_earned k (history es) c r (no_memory c r may.0) may.9), all)
earned_next k es valid id v at (Answer c r n) found may fs all = (cause_earned k es valid id v at c r n may.4, all)
earned_next k es valid id v at (AnswerCursor c r n m had left) found may fs all =
    let cs = first_writes n (history es) in
    (plain_earned k cs c r (moved_plain (stored_newest k.starts cs).world c m may.0 had r left may.2) (moved_short (stored_newest k.starts cs).world c m may.0), all)
earned_next k es valid id v at act found may fs all = all

earned_stays : (k : Shape) (b : Act) (cs : List Call) (fs : List Entry) → AllRight k.starts cs fs → AllEarned k cs fs → AllEarned k (writes_of b cs) fs
earned_stays k b cs [] right all = tt
earned_stays k b cs (e ∷ fs) right all = (subst (λ (l : List Call). IsEarnedSo k l e.call e.reply) (sym (writes_stay e.stamp b cs right.0.low)) all.0, earned_stays k b cs fs right.1 all.1)

earned-append : (k : Shape) (cs : List Call) (xs ys : List Entry) → AllEarned k cs xs → AllEarned k cs ys → AllEarned k cs (xs ++ ys)
earned-append k cs [] ys a b = b
earned-append k cs (x ∷ xs) ys a b = (a.0, earned-append k cs xs ys a.1 b)

pub entries_are_earned : EntriesAreEarned
entries_are_earned k [] valid = one_view (λ j u. AllEarned k [] (all_entries u)) (starter k) tt
entries_are_earned k (did id v a ∷ es) valid =
    let old = entries_are_earned k es valid.0 in
    let right = all_right k es valid.0 in
    let P : ℕ → View → Type 0 = λ j u. AllEarned k (writes_of a (history es)) (all_entries u) in
    set_views P _ id (view_after a v)
    (subst (AllEarned k (writes_of a (history es))) (next_all a v.entries (flat_map (λ (l : List Entry). l) v.lists)) (earned_next k es valid.0 id v valid.1.0 a valid.1.2 valid.1.3 (all_entries v) (earned_stays k a (history es) (all_entries v) (right id v valid.1.0) (old id v valid.1.0))))
    (λ j u _ e. earned_stays k a (history es) (all_entries u) (right j u e) (old j u e))
entries_are_earned k (forked id v ∷ es) valid =
    let old = entries_are_earned k es valid.0 in
    let P : ℕ → View → Type 0 = λ j u. AllEarned k (history es) (all_entries u) in
    one_more P _ (made v) tt (set_views P _ id (maker v) (old id v valid.1.0) (λ j u _ e. old j u e))
entries_are_earned k (sent id v given ∷ es) valid =
    let old = entries_are_earned k es valid.0 in
    let P : ℕ → View → Type 0 = λ j u. AllEarned k (history es) (all_entries u) in
    one_more P _ (note given v) tt (set_views P _ id (sender given v) (old id v valid.1.0) (λ j u _ e. old j u e))
entries_are_earned k (joined id v other w ∷ es) valid =
    let old = entries_are_earned k es valid.0 in
    let P : ℕ → View → Type 0 = λ j u. AllEarned k (history es) (all_entries u) in
    set_views P _ other spent tt
    (λ j u _. set_views P _ id (both v w)
    (subst (AllEarned k (history es)) (sym (both_all v w (has_none k es valid.0 other w valid.1.2).entries)) (earned-append k (history es) (all_entries v) (all_entries w) (old id v valid.1.0) (old other w valid.1.2)))
    (λ j u _ e. old j u e) j u)
