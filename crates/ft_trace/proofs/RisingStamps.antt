-- Stamps of a pass never fall, and rise after a write; and what loads of the counter gave never falls.
use Rattle.std.proofs.Common.{◌≡◌, ℕ, ◌+◌, ◌-◌, ◌≤◌, List, [], ◌∷◌, ◌++◌, length, refl, sym, ap, ◌∙◌, subst, arith, le_trans}
use Rattle.std.specs.Prelude.{Option}
use mathlib.Core.Option.{some}
use lib.ListN.{get_elem?}
use Rattle.ft_model.specs.declared.call.Call.{Call}
use Rattle.ft_model.specs.declared.reply.Reply.{Reply}
use Rattle.ft_model.specs.declared.cursor.Cursor.{Cursor}
use Rattle.ft_model.specs.Classes.{IsClass}
use Rattle.ft_model.specs.TableUses.{takes_newest}
use Rattle.ft_trace.specs.declared.Shape.{Shape}
use Rattle.ft_trace.specs.declared.Snap.{Snap}
use Rattle.ft_trace.specs.declared.View.{View}
use Rattle.ft_trace.specs.declared.Act.{Act}
use Rattle.ft_trace.specs.declared.Act.TheVariants.{Commit, Answer, AnswerCursor, ReadCounter, ReadCount}
use Rattle.ft_trace.specs.Addresses.{tables_in}
use Rattle.ft_trace.specs.Acts.{view_after, starter, maker, made, both, spent, sender, note}
use Rattle.ft_trace.specs.ContainerStates.{first_writes}
use Rattle.ft_trace.specs.Causes.{AreOfOneCall, Loaded, FoundEmpty, least_stamp}
use Rattle.ft_trace.specs.Traces.{Event, did, forked, joined, sent, run, history, Valid}
use Rattle.ft_trace.proofs.Sizes.{set_views, one_more, one_view}
use Rattle.ft_trace.proofs.OneWord.{moves}
use Rattle.ft_trace.proofs.OddVersions.{one_up}
use Rattle.ft_trace.proofs.Contents.{count, counted}
use Rattle.ft_trace.proofs.Stamps.{grows_one, grows, stays, all_writes}
use Rattle.ft_trace.proofs.EarlierMoments.{was}
use Rattle.ft_trace.proofs.Owed.{earned_since, took_low}

-- the counter never falls
pub counter_rises : (k : Shape) (newer older : List Event) → Valid k (newer ++ older) → Valid k older → count k older ≤ count k (newer ++ older)
counter_rises k newer older valid was_valid = let a = counted k older was_valid in let b = counted k (newer ++ older) valid in let c = grows newer older in omega (arith, a, b, c)

pub one_rises : (k : Shape) (e : Event) (es : List Event) → Valid k (e ∷ es) → count k es ≤ count k (e ∷ es)
one_rises k e es valid = let a = counted k es valid.0 in let b = counted k (e ∷ es) valid in let c = grows_one e es in omega (arith, a, b, c)

least_by : (k : Shape) (es : List Event) (id : ℕ) (v : View) (b : Act) → Valid k (did id v b ∷ es) → least_stamp v.log ≤ count k es → least_stamp (b ∷ v.log) ≤ count k (did id v b ∷ es)
least_by k es id v (Commit c r f s) ok low =
    let up : count k (did id v (Commit c r f s) ∷ es) ≡ count k es + 1 = moves k es id v (Commit c r f s) ok.1.3 ∙ one_up (count k es) ok.1.3.2 in
    let found : f ≡ count k es = ok.1.2 in
    omega (arith, up, found)
least_by k es id v (Answer c r n) ok low = le_trans ok.1.3.1 (one_rises k (did id v (Answer c r n)) es ok)
least_by k es id v (AnswerCursor c r n m had left) ok low = le_trans ok.1.3.1 (one_rises k (did id v (AnswerCursor c r n m had left)) es ok)
least_by k es id v act ok low = le_trans low (one_rises k (did id v act) es ok)

pub least_low : (k : Shape) (es : List Event) → Valid k es → (j : ℕ) (u : View) → get_elem? (run k es).views j ≡ some u → least_stamp u.log ≤ count k es
least_low k [] valid = one_view (λ j u. least_stamp u.log ≤ 0) (starter k) (omega arith)
least_low k (did id v a ∷ es) valid =
    let old = least_low k es valid.0 in
    let P : ℕ → View → Type 0 = λ j u. least_stamp u.log ≤ count k (did id v a ∷ es) in
    set_views P _ id (view_after a v) (least_by k es id v a valid (old id v valid.1.0)) (λ j u _ e. le_trans (old j u e) (one_rises k (did id v a) es valid))
least_low k (forked id v ∷ es) valid =
    let old = least_low k es valid.0 in
    let P : ℕ → View → Type 0 = λ j u. least_stamp u.log ≤ count k es in
    one_more P _ (made v) (omega arith) (set_views P _ id (maker v) (old id v valid.1.0) (λ j u _ e. old j u e))
least_low k (sent id v given ∷ es) valid =
    let old = least_low k es valid.0 in
    let P : ℕ → View → Type 0 = λ j u. least_stamp u.log ≤ count k es in
    one_more P _ (note given v) (omega arith) (set_views P _ id (sender given v) (old id v valid.1.0) (λ j u _ e. old j u e))
least_low k (joined id v other w ∷ es) valid =
    let old = least_low k es valid.0 in
    let P : ℕ → View → Type 0 = λ j u. least_stamp u.log ≤ count k es in
    set_views P _ other spent (omega arith) (λ j u _. set_views P _ id (both v w) (old id v valid.1.0) (λ j u _ e. old j u e) j u)

-- actions without an entry leave the least stamp
least_over : (newer rest : List Act) → AreOfOneCall newer → least_stamp (newer ++ rest) ≡ least_stamp rest
least_over [] rest own = refl
least_over (a ∷ newer) rest own = by a own (λ o. least_over newer rest o)
  where
    by : (a : Act) → AreOfOneCall (a ∷ newer) → (AreOfOneCall newer → least_stamp (newer ++ rest) ≡ least_stamp rest) → least_stamp (a ∷ (newer ++ rest)) ≡ least_stamp rest
    by (Commit c r f s) own more = absurd own
    by (Answer c r n) own more = absurd own
    by (AnswerCursor c r n m had left) own more = absurd own
    by act own more = more own

-- a number that a load of this call gave
pub loaded_up : (k : Shape) (es : List Event) (valid : Valid k es) (j : ℕ) (u : View) (at : get_elem? (run k es).views j ≡ some u) (n : ℕ) → Loaded n u.log → least_stamp u.log ≤ n
loaded_up k es valid j u at n l =
    let w = was k es valid j u at l.newer (ReadCounter n) l.rest l.is in
    let found : n ≡ count k w.older = w.tells in
    let low = least_low k w.older w.valid j w.view w.at in
    let rest : least_stamp w.view.log ≡ least_stamp l.rest = ap least_stamp w.log in
    let now : least_stamp u.log ≡ least_stamp l.rest = ap least_stamp l.is ∙ least_over l.newer (ReadCounter n ∷ l.rest) l.own in
    omega (arith, found, low, rest, now)

pub commit_rises : (k : Shape) (es : List Event) → Valid k es → (j : ℕ) (u : View) → get_elem? (run k es).views j ≡ some u → (newer rest : List Act) (c : Call) (r : Reply) (f : ℕ) (s : Snap) → u.log ≡ newer ++ Commit c r f s ∷ rest → least_stamp rest ≤ f
commit_rises k es valid j u at newer rest c r f s is =
    let w = was k es valid j u at newer (Commit c r f s) rest is in
    let found : f ≡ count k w.older = w.tells in
    let low = least_low k w.older w.valid j w.view w.at in
    let same : least_stamp w.view.log ≡ least_stamp rest = ap least_stamp w.log in
    omega (arith, found, low, same)

pub answer_rises : (k : Shape) (es : List Event) → Valid k es → (j : ℕ) (u : View) → get_elem? (run k es).views j ≡ some u → (newer rest : List Act) (c : Call) (r : Reply) (n : ℕ) → u.log ≡ newer ++ Answer c r n ∷ rest → least_stamp rest ≤ n
answer_rises k es valid j u at newer rest c r n is =
    let w = was k es valid j u at newer (Answer c r n) rest is in
    let up = loaded_up k w.older w.valid j w.view w.at n (w.may tt).3 in
    let same : least_stamp w.view.log ≡ least_stamp rest = ap least_stamp w.log in
    omega (arith, up, same)

pub moved_rises : (k : Shape) (es : List Event) → Valid k es → (j : ℕ) (u : View) → get_elem? (run k es).views j ≡ some u → (newer rest : List Act) (c : Call) (r : Reply) (n number : ℕ) (had : Option Cursor) (left : Cursor) → u.log ≡ newer ++ AnswerCursor c r n number had left ∷ rest → least_stamp rest ≤ n
moved_rises k es valid j u at newer rest c r n number had left is =
    let w = was k es valid j u at newer (AnswerCursor c r n number had left) rest is in
    let up = loaded_up k w.older w.valid j w.view w.at n (w.may tt).3 in
    let same : least_stamp w.view.log ≡ least_stamp rest = ap least_stamp w.log in
    omega (arith, up, same)

-- two loads of the counter
pub loads_rise : (k : Shape) (es : List Event) → Valid k es → (j : ℕ) (u : View) → get_elem? (run k es).views j ≡ some u → (newer mid rest : List Act) (m n : ℕ) → u.log ≡ newer ++ ReadCounter m ∷ (mid ++ ReadCounter n ∷ rest) → n ≤ m
loads_rise k es valid j u at newer mid rest m n is =
    let w = was k es valid j u at newer (ReadCounter m) (mid ++ ReadCounter n ∷ rest) is in
    let z = was k w.older w.valid j w.view w.at mid (ReadCounter n) rest w.log in
    let a : m ≡ count k w.older = w.tells in
    let b : n ≡ count k z.older = z.tells in
    let up : count k z.older ≤ count k w.older = subst (λ (l : List Event). count k z.older ≤ count k l) z.split (counter_rises k z.newer z.older (subst (Valid k) (sym z.split) w.valid) z.valid) in
    omega (arith, a, b, up)

-- a MemoryError of a class, at its stamp
pub empty_earned : (k : Shape) (es : List Event) → Valid k es → (j : ℕ) (u : View) → get_elem? (run k es).views j ≡ some u → (class n : ℕ) → IsClass class → FoundEmpty class n u.log → tables_in k class ≤ takes_newest k.starts class (first_writes n (history es)) + (k.passes - 1)
empty_earned k es valid j u at class n is h =
    let w = was k es valid j u at h.newer (ReadCounter n) (h.mid ++ ReadCount class 0 ∷ h.rest) h.is in
    let m = length (history w.older) in
    let number : n ≡ m = w.tells ∙ counted k w.older w.valid in
    let few = earned_since k w.older w.valid j w.view w.at class is h.mid h.rest w.log h.none in
    let took = took_low k w.older w.valid class in
    let one : first_writes m (history es) ≡ first_writes m (history w.older) = subst (λ (l : List Event). first_writes m (history l) ≡ first_writes m (history w.older)) w.split (stays m w.newer w.older (let z : m ≤ m = omega arith in z)) in
    let same : first_writes n (history es) ≡ history w.older = ap (λ (z : ℕ). first_writes z (history es)) number ∙ (one ∙ all_writes (history w.older)) in
    let takes : takes_newest k.starts class (first_writes n (history es)) ≡ takes_newest k.starts class (history w.older) = ap (takes_newest k.starts class) same in
    omega (arith, few, took, takes)
