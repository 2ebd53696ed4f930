-- What a pass has seen is at most the counter.
use Rattle.std.proofs.Common.{◌≡◌, ℕ, ◌+◌, ◌≤◌, List, [], ◌∷◌, refl, ap, ◌∙◌, arith, le_trans, le_refl}
use Rattle.std.specs.Prelude.{max}
use Rattle.std.proofs.Math.Nat.{le-max_left, le-max_right, max-le, max-zero}
use mathlib.Core.Option.{some}
use lib.ListN.{get_elem?}
use Rattle.ft_trace.specs.declared.Shape.{Shape}
use Rattle.ft_trace.specs.declared.View.{View}
use Rattle.ft_trace.specs.declared.Act.{Act}
use Rattle.ft_trace.specs.declared.Act.TheVariants.{Commit, ReadCounter, TakeFloor}
use Rattle.ft_trace.specs.Acts.{view_after, shown, seen_writes, starter, maker, made, both, spent, sender, note}
use Rattle.ft_trace.specs.SeenWrites.{SeenIsLow, SeenIsHandedOn, LoadsSeeAll}
use Rattle.ft_trace.specs.Traces.{Event, did, forked, joined, sent, run, Valid}
use Rattle.ft_trace.proofs.Sizes.{set_views, one_more, one_view}
use Rattle.ft_trace.proofs.OneWord.{moves}
use Rattle.ft_trace.proofs.OddVersions.{one_up}
use Rattle.ft_trace.proofs.Contents.{count}
use Rattle.ft_trace.proofs.EarlierMoments.{was}
use Rattle.ft_trace.proofs.RisingStamps.{one_rises}

shown_low : (k : Shape) (es : List Event) (id : ℕ) (v : View) (b : Act) → Valid k (did id v b ∷ es) → shown v.log ≤ count k es → shown (b ∷ v.log) ≤ count k (did id v b ∷ es)
shown_low k es id v (Commit c r f s) ok low =
    let up : count k (did id v (Commit c r f s) ∷ es) ≡ count k es + 1 = moves k es id v (Commit c r f s) ok.1.3 ∙ one_up (count k es) ok.1.3.2 in
    let found : f ≡ count k es = ok.1.2 in
    max-le (omega (arith, up, low)) (omega (arith, up, found))
shown_low k es id v (ReadCounter f) ok low =
    let up = one_rises k (did id v (ReadCounter f)) es ok in
    let found : f ≡ count k es = ok.1.2 in
    max-le (le_trans low up) (omega (arith, up, found))
shown_low k es id v (TakeFloor f s) ok low =
    let up = one_rises k (did id v (TakeFloor f s)) es ok in
    let found : f ≡ count k es = ok.1.2 in
    max-le (le_trans low up) (omega (arith, up, found))
shown_low k es id v act ok low = le_trans low (one_rises k (did id v act) es ok)

abbrev Low : Shape → List Event → ℕ → View → Type 0
Low k es j u = seen_writes u ≤ count k es

pub seen_low : (k : Shape) (es : List Event) → Valid k es → (j : ℕ) (u : View) → get_elem? (run k es).views j ≡ some u → seen_writes u ≤ count k es
seen_low k [] valid = one_view (Low k []) (starter k) (omega arith)
seen_low k (did id v a ∷ es) valid =
    let old = seen_low k es valid.0 in
    let up = one_rises k (did id v a) es valid in
    let mine = old id v valid.1.0 in
    set_views (Low k (did id v a ∷ es)) _ id (view_after a v)
    (max-le (le_trans (le_trans (le-max_left v.learnt (shown v.log)) mine) up) (shown_low k es id v a valid (le_trans (le-max_right v.learnt (shown v.log)) mine)))
    (λ j u _ e. le_trans (old j u e) up)
seen_low k (forked id v ∷ es) valid =
    let old = seen_low k es valid.0 in
    one_more (Low k es) _ (made v) (omega arith) (set_views (Low k es) _ id (maker v) (old id v valid.1.0) (λ j u _ e. old j u e))
seen_low k (sent id v given ∷ es) valid =
    let old = seen_low k es valid.0 in
    one_more (Low k es) _ (note given v) (max-le (old id v valid.1.0) (omega arith)) (set_views (Low k es) _ id (sender given v) (old id v valid.1.0) (λ j u _ e. old j u e))
seen_low k (joined id v other w ∷ es) valid =
    let old = seen_low k es valid.0 in
    let mine = old id v valid.1.0 in
    set_views (Low k es) _ other spent (omega arith)
    (λ j u _. set_views (Low k es) _ id (both v w)
    (max-le (max-le (le_trans (le-max_left v.learnt (shown v.log)) mine) (old other w valid.1.2)) (le_trans (le-max_right v.learnt (shown v.log)) mine))
    (λ j u _ e. old j u e) j u)

pub seen_is_low : SeenIsLow
seen_is_low k es valid = (
  seen_low k es valid,
  λ id n v ok. let low = seen_low k es valid id v ok.1.0 in let found : n ≡ count k es = ok.1.2 in omega (arith, low, found),
  λ id n v c r s ok. let low = seen_low k es valid id v ok.1.0 in let found : n ≡ count k es = ok.1.2 in omega (arith, low, found),
)

pub shown_up : (a : Act) (l : List Act) → shown l ≤ shown (a ∷ l)
shown_up (Commit c r f s) l = le-max_left (shown l) (f + 1)
shown_up (ReadCounter f) l = le-max_left (shown l) f
shown_up (TakeFloor f s) l = le-max_left (shown l) f
shown_up act l = le_refl (shown l)

pub seen_up : (a : Act) (v : View) → seen_writes v ≤ seen_writes (view_after a v)
seen_up a v = max-le (le-max_left v.learnt (shown (a ∷ v.log))) (le_trans (shown_up a v.log) (le-max_right v.learnt (shown (a ∷ v.log))))

pub seen_own : (v w : View) → seen_writes v ≤ seen_writes (both v w)
seen_own v w =
    let all = max v.learnt (seen_writes w) in
    max-le (le_trans (le-max_left v.learnt (seen_writes w)) (le-max_left all (shown v.log))) (le-max_right all (shown v.log))

pub seen_others : (v w : View) → seen_writes w ≤ seen_writes (both v w)
seen_others v w = le_trans (le-max_right v.learnt (seen_writes w)) (le-max_left (max v.learnt (seen_writes w)) (shown v.log))

pub seen_is_handed_on : SeenIsHandedOn
seen_is_handed_on = record { acts = seen_up; notes = λ given v. max-zero (seen_writes v); senders = λ given v. refl; own = seen_own; others = seen_others }

pub loads_see_all : LoadsSeeAll
loads_see_all k es valid j u at newer rest n is =
    let w = was k es valid j u at newer (ReadCounter n) rest is in
    let found : n ≡ count k w.older = w.tells in
    let low = le_trans (le-max_right w.view.learnt (shown w.view.log)) (seen_low k w.older w.valid j w.view w.at) in
    let same : shown w.view.log ≡ shown rest = ap shown w.log in
    omega (arith, found, low, same)
