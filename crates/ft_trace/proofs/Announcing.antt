-- An announced word is what its pass announced, and at most the write number.
use Rattle.std.proofs.Common.{◌≡◌, ◌≢◌, ℕ, ◌+◌, ◌≤◌, List, [], ◌∷◌, refl, sym, ◌∙◌, subst, arith, ◌<◌}
use mathlib.Core.Option.{some}
use lib.ListN.{get_elem?}
use Rattle.ft_trace.specs.declared.Shape.{Shape}
use Rattle.ft_trace.specs.declared.View.{View}
use Rattle.ft_trace.specs.declared.Act.{Act}
use Rattle.ft_trace.specs.declared.Act.TheVariants.{Retire, Announce, ReadAnnounced, WriteNumber}
use Rattle.ft_trace.specs.Addresses.{write_number, announced_of}
use Rattle.ft_trace.specs.Acts.{announces, announces_next, starter, view_after, maker, made, both, spent, sender, note}
use Rattle.ft_trace.specs.NumberPlaces.{top}
use Rattle.ft_trace.specs.Traces.{Fits, Event, did, forked, joined, sent, run, word, history, May, Valid}
use Rattle.ft_trace.proofs.Sizes.{set_views, one_more, one_view}
use Rattle.ft_trace.proofs.Addresses.{ann_first}
use Rattle.ft_trace.proofs.OneWord.{stays, moves, loaded}
use Rattle.ft_trace.proofs.OddVersions.{one_up}
use Rattle.ft_trace.proofs.Seats.{seated, same_seat}

-- what the action is to the announced words and the write number
pub record Aside (k : Shape) (es : List Event) (id : ℕ) (v : View) (a : Act) : Type 0 where
  pub ann : (n : ℕ) → announces_next a n ≡ n
  pub said : (p : ℕ) → 0 < p → p ≤ 64 → word k (did id v a ∷ es) (announced_of p) ≡ word k es (announced_of p)
  pub drawn : word k (did id v a ∷ es) write_number ≡ word k es write_number

module _ (k : Shape) (es : List Event) (id : ℕ) (v : View) (F : Act → Type 0) (announce : (p x : ℕ) → F (Announce p x)) (retire : (t f : ℕ) → F (Retire t f)) (other : (a : Act) → (May k (run k es) (history es) v a → Aside k es id v a) → F a) where
  pub on_write_number : (a : Act) → F a
  on_write_number (Announce p x) = announce p x
  on_write_number (Retire t f) = retire t f
  on_write_number (ReadAnnounced p f) = other (ReadAnnounced p f) (λ may. record { ann = λ n. refl; said = λ q _ _. loaded k es id v (ReadAnnounced p f) (λ n. refl) (announced_of q); drawn = loaded k es id v (ReadAnnounced p f) (λ n. refl) write_number })
  on_write_number (WriteNumber f) = other (WriteNumber f) (λ may. record { ann = λ n. refl; said = λ q _ _. loaded k es id v (WriteNumber f) (λ n. refl) (announced_of q); drawn = loaded k es id v (WriteNumber f) (λ n. refl) write_number })
  on_write_number act = other act (λ may. record { ann = λ n. refl; said = λ q up low. stays k es id v act may (announced_of q) (up, low) (λ e. absurd (cc)); drawn = stays k es id v act may write_number tt (λ e. absurd (cc)) })

pub record Heard (k : Shape) (es : List Event) (j : ℕ) (u : View) : Type 0 where
  pub word_is : u.number ≢ 0 → u.number ≤ 64 → word k es (announced_of u.number) ≡ announces u.log
  pub low : announces u.log ≤ word k es write_number

-- a number that no pass has yet has announced nothing
pub record Quiet (k : Shape) (es : List Event) : Type 0 where
  pub later : (p : ℕ) → 2 ≤ p → top es ≤ p → p ≤ 64 → word k es (announced_of p) ≡ 0

top_up : (es : List Event) → 2 ≤ top es
top_up [] = omega arith
top_up (did id v a ∷ es) = top_up es
top_up (forked id v ∷ es) = let h = top_up es in omega arith
top_up (sent id v given ∷ es) = top_up es
top_up (joined id v other w ∷ es) = top_up es

-- there are at most 64 passes
pub fits : (k : Shape) (es : List Event) → Valid k es → Fits k
fits k [] valid = valid
fits k (e ∷ es) valid = fits k es valid.0

pub quiet_later : (k : Shape) (es : List Event) → Valid k es → Quiet k es
quiet_later k [] valid = record { later = λ p two up low. ann_first k p (omega arith) low }
quiet_later k (did id v a ∷ es) valid =
    let old = quiet_later k es valid.0 in
    let F : Act → Type 0 = λ b. Valid k (did id v b ∷ es) → Quiet k (did id v b ∷ es) in
    on_write_number k es id v F
    (λ q x ok. record { later = λ p two up low. stays k es id v (Announce q x) ok.1.3 (announced_of p) (omega arith, low) (λ (e : announced_of q ≡ announced_of p). let same : q ≡ p = cc in let b = (seated k es valid.0 id v valid.1.0).below in let is = ok.1.3.0 in absurd (omega arith)) ∙ old.later p two up low })
    (λ t f ok. record { later = λ p two up low. stays k es id v (Retire t f) ok.1.3 (announced_of p) (omega arith, low) (λ e. absurd (cc)) ∙ old.later p two up low })
    (λ b aside ok. record { later = λ p two up low. (aside ok.1.3).said p (omega arith) low ∙ old.later p two up low })
    a valid
quiet_later k (forked id v ∷ es) valid = let old = quiet_later k es valid.0 in record { later = λ p two up low. old.later p two (omega arith) low }
quiet_later k (sent id v given ∷ es) valid = let old = quiet_later k es valid.0 in record { later = old.later }
quiet_later k (joined id v other w ∷ es) valid = let old = quiet_later k es valid.0 in record { later = old.later }

pub heard : (k : Shape) (es : List Event) → Valid k es → (j : ℕ) (u : View) → get_elem? (run k es).views j ≡ some u → Heard k es j u
heard k [] valid = one_view (Heard k []) (starter k) (record { word_is = λ _ low. ann_first k 1 (omega arith) low; low = omega arith })
heard k (did id v a ∷ es) valid =
    let old = heard k es valid.0 in
    let mine = old id v valid.1.0 in
    let F : Act → Type 0 = λ b. Valid k (did id v b ∷ es) → (j : ℕ) (u : View) → get_elem? (run k (did id v b ∷ es)).views j ≡ some u → Heard k (did id v b ∷ es) j u in
    on_write_number k es id v F
    (λ p x ok.
    let A : Act = Announce p x in
    let may = ok.1.3 in
    let is : p ≡ v.number = may.0 in
    let W : word k (did id v A ∷ es) write_number ≡ word k es write_number = stays k es id v A may write_number tt (λ e. absurd (cc)) in
    let now : word k (did id v A ∷ es) (announced_of v.number) ≡ x = subst (λ (z : ℕ). word k (did id v A ∷ es) (announced_of z) ≡ x) is (moves k es id v A may) in
    let bound = may.2 in
    set_views (Heard k (did id v A ∷ es)) _ id (view_after A v) (record { word_is = λ _ _. now; low = omega (arith, W) })
    (λ j u ne e. let o = old j u e in let l = o.low in record {
      word_is = λ live low. stays k es id v A may (announced_of u.number) (omega arith, low) (λ (z : announced_of p ≡ announced_of u.number). let same : p ≡ u.number = cc in ne (same_seat k es valid.0 j id u v e valid.1.0 live (sym same ∙ is))) ∙ o.word_is live low;
      low = omega (arith, W, l);
    }))
    (λ t f ok.
    let A : Act = Retire t f in
    let may = ok.1.3 in
    let up : word k (did id v A ∷ es) write_number ≡ word k es write_number + 1 = moves k es id v A may ∙ one_up (word k es write_number) may.2 in
    let stay : (p : ℕ) → 0 < p → p ≤ 64 → word k (did id v A ∷ es) (announced_of p) ≡ word k es (announced_of p) = λ p up low. stays k es id v A may (announced_of p) (up, low) (λ e. absurd (cc)) in
    let l = mine.low in
    set_views (Heard k (did id v A ∷ es)) _ id (view_after A v) (record { word_is = λ live low. stay v.number (omega arith) low ∙ mine.word_is live low; low = omega (arith, up, l) })
    (λ j u ne e. let o = old j u e in let m = o.low in record { word_is = λ live low. stay u.number (omega arith) low ∙ o.word_is live low; low = omega (arith, up, m) }))
    (λ b by ok.
    let aside = by ok.1.3 in
    let W = aside.drawn in
    let l = mine.low in
    let same_ann = aside.ann (announces v.log) in
    set_views (Heard k (did id v b ∷ es)) _ id (view_after b v) (record { word_is = λ live low. aside.said v.number (omega arith) low ∙ (mine.word_is live low ∙ sym same_ann); low = omega (arith, W, l, same_ann) })
    (λ j u ne e. let o = old j u e in let m = o.low in record { word_is = λ live low. aside.said u.number (omega arith) low ∙ o.word_is live low; low = omega (arith, W, m) }))
    a valid
heard k (forked id v ∷ es) valid =
    let old = heard k es valid.0 in
    let m = old id v valid.1.0 in
    let next_is = ((seated k es valid.0 id v valid.1.0).next valid.1.2).0 in
    one_more (Heard k (forked id v ∷ es)) _ (made v) (record { word_is = λ _ low. (quiet_later k es valid.0).later v.next (omega (arith, next_is, top_up es)) (omega (arith, next_is)) low; low = omega arith })
    (set_views (Heard k (forked id v ∷ es)) _ id (maker v) (record { word_is = m.word_is; low = m.low }) (λ j u _ e. let o = old j u e in record { word_is = o.word_is; low = o.low }))
heard k (sent id v given ∷ es) valid =
    let old = heard k es valid.0 in
    let m = old id v valid.1.0 in
    one_more (Heard k (sent id v given ∷ es)) _ (note given v) (record { word_is = λ live. absurd (live refl); low = omega arith })
    (set_views (Heard k (sent id v given ∷ es)) _ id (sender given v) (record { word_is = m.word_is; low = m.low }) (λ j u _ e. let o = old j u e in record { word_is = o.word_is; low = o.low }))
heard k (joined id v other w ∷ es) valid =
    let old = heard k es valid.0 in
    let m = old id v valid.1.0 in
    set_views (Heard k (joined id v other w ∷ es)) _ other spent (record { word_is = λ live. absurd (live refl); low = omega arith })
    (λ j u _. set_views (Heard k (joined id v other w ∷ es)) _ id (both v w) (record { word_is = m.word_is; low = m.low }) (λ j u _ e. let o = old j u e in record { word_is = o.word_is; low = o.low }) j u)
