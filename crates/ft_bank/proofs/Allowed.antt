-- Each step is the trace with one more event.
use Rattle.std.proofs.Common.{◌≡◌, ◌≢◌, ℕ, zero, suc, ◌^◌, ◌<◌, ◌≤◌, List, [], ◌∷◌, ◌++◌, set, refl, sym, ap, ◌∙◌, subst, arith, le_trans}
use Rattle.std.specs.Prelude.{slice_index, slice_set}
use mathlib.Core.Option.{Option, some, some-injective}
use mathlib.Core.Logic.{dite}
use native.Mathlib.Decide.{ℕ_discrete}
use lib.ListN.{get_elem?}
use Rattle.atomic_table.specs.Table.{State, Me, keeps, stepped, Allows, Splits, Joins}
use Rattle.atomic_table.proofs.Lists.{set_else}
use Rattle.ft_trace.specs.declared.Shape.{Shape}
use Rattle.ft_trace.specs.declared.View.{View}
use Rattle.ft_trace.specs.declared.Act.{Act}
use Rattle.ft_trace.specs.declared.Snap.{Snap}
use Rattle.ft_trace.specs.Addresses.{at}
use Rattle.ft_trace.specs.Acts.{place, word_after, Reports, view_after, maker, made, both, spent, sender, note, shown}
use Rattle.ft_trace.specs.Traces.{Event, did, forked, joined, sent, run, history, snap, Valid, Knows, IsReachable, Ready, ReadyAs, Does, DoesAs, MayFork, IsFree, IsQuiet, IsAwake}
use Rattle.ft_trace.proofs.Sizes.{sized, set_at}
use Rattle.ft_trace.proofs.Seeing.{shown_up}
use Rattle.ft_bank.specs.Rules.{HasTrace, Notes, Acted}

-- what stands at a place may be put there
set_same : {A : Type 0} (l : List A) (i : ℕ) (a : A) → get_elem? l i ≡ some a → slice_set l i a ≡ l
set_same [] i a e = refl
set_same (x ∷ xs) zero a e = ap (λ z. z ∷ xs) (sym (some-injective x a e))
set_same (x ∷ xs) (suc i) a e = ap (λ l. x ∷ l) (set_same xs i a e)

set_own : (l : List ℕ) (i : ℕ) → slice_set l i (slice_index l i) ≡ l
set_own [] i = refl
set_own (x ∷ xs) zero = refl
set_own (x ∷ xs) (suc i) = ap (λ l. x ∷ l) (set_own xs i)

module _ {S : Type 0} (me : Me S View) (id i : ℕ) (f : ℕ → ℕ) (act : ℕ → Snap → Act) (live : IsAwake me.0) (ready : ReadyAs me.0 i act) where
  -- where n is found the action is on this word, which becomes f of n
  abbrev pub Fit : ℕ → Type 0
  Fit n = (s : Snap) → (at me.0.shape (place (act n s)) ≡ i) × (word_after me.0.number (act n s) n ≡ f n)

  -- the state with the action noted
  abbrev Noted : Shape → State S View → Type 0
  Noted k s =
      (z : Snap) × HasTrace k (stepped s i (f (slice_index s.words i)) id me.1 (view_after (act (slice_index s.words i) z) me.0) keeps)
      × Acted me.0 (act (slice_index s.words i) z)

  core : (homes : List (Option S)) (es : List Event) → Knows me.0 es id → slice_index (run me.0.shape es).words i < 2 ^ 64 → Fit (slice_index (run me.0.shape es).words i)
      → Noted me.0.shape (record { words = (run me.0.shape es).words; homes = homes; views = (run me.0.shape es).views })
  core homes es knows small fit =
      let v = me.0 in
      let k = v.shape in
      let ws = (run k es).words in
      let n = slice_index ws i in
      let z = snap (run k es) (history es) in
      let it = act n z in
      let r = ready es id knows small in
      let valid : Valid k (did id v it ∷ es) = (knows.0, (knows.1, live.0, subst (λ (j : ℕ). Reports it (slice_index ws j)) (sym (fit z).0) r.0, r.1, live.1)) in (
        z,
        (
          did id v it ∷ es,
          valid,
          ap (λ (j : ℕ). slice_set ws j (word_after v.number it (slice_index ws j))) (fit z).0 ∙ ap (λ (x : ℕ). slice_set ws i x) (fit z).1,
          refl,
        ),
        (es, id, valid),
      )

  at_own : (s : State S View) (es : List Event) → get_elem? s.views id ≡ some me.0 → slice_index s.words i < 2 ^ 64 → Fit (slice_index s.words i) → Valid me.0.shape es → (run me.0.shape es).words ≡ s.words → (run me.0.shape es).views ≡ s.views
      → Noted me.0.shape s
  at_own s es at small fit valid p q =
      let k = me.0.shape in
      let knows : Knows me.0 es id = (valid, subst (λ (l : List View). get_elem? l id ≡ some me.0) (sym q) at) in
      subst (λ (x : List ℕ × List View). Noted k (record { words = x.0; homes = s.homes; views = x.1 })) (λ d. (p d, q d))
      (core s.homes es knows (subst (λ (l : List ℕ). slice_index l i < 2 ^ 64) (sym p) small) (subst (λ (l : List ℕ). Fit (slice_index l i)) (sym p) fit))

  -- a step after whatever other passes did
  pub noted_at : (k : Shape) (s : State S View) → HasTrace k s → get_elem? s.views id ≡ some me.0 → slice_index s.words i < 2 ^ 64 → Fit (slice_index s.words i) → Noted k s
  noted_at k s h at small fit =
      let here : get_elem? (run k h.0).views id ≡ some me.0 = subst (λ (l : List View). get_elem? l id ≡ some me.0) (sym h.3) at in
      let same : me.0.shape ≡ k = sized k h.0 h.1 id me.0 here live.0 in
      subst (λ (z : Shape). Valid z h.0 → (run z h.0).words ≡ s.words → (run z h.0).views ≡ s.views → Noted z s) same (at_own s h.0 at small fit) h.1 h.2 h.3

-- what a pass that did this knows is possible
pub acted_knows : (v : View) (a : Act) (d : Acted v a) → Knows (view_after a v) (did d.1 v a ∷ d.0) d.1
acted_knows v a d = (d.2, set_at (run v.shape d.0).views d.1 v (view_after a v) d.2.1.0)

pub acted_possible : (v : View) (a : Act) → Acted v a → IsReachable (view_after a v)
acted_possible v a d = (did d.1 v a ∷ d.0, d.1, acted_knows v a d)

-- a pass that is there has a number and a token
pub alive : (number : ℕ) (v : View) → v.number ≡ suc number → 0 < v.tokens → IsAwake v
alive number v h token = ((λ e. omega (arith, h, e)), token)

-- and a step leaves the tokens
pub token_kept : (m n : ℕ) → m ≡ n → 0 < n → 0 < m
token_kept m n same token = omega (arith, same, token)

-- what it has learnt its log still shows
pub same_settled : (w v : View) → w ≡ v → v.learnt ≤ shown v.log → w.learnt ≤ shown w.log
same_settled w v same old = subst (λ (u : View). u.learnt ≤ shown u.log) (sym same) old

pub still_settled : (v : View) (a : Act) (w : View) → w ≡ view_after a v → v.learnt ≤ shown v.log → w.learnt ≤ shown w.log
still_settled v a w same old = same_settled w (view_after a v) same (le_trans old (shown_up a v.log))

module _ {S : Type 0} (me : Me S View) (id i : ℕ) (f : ℕ → ℕ) (live : IsAwake me.0) where
  -- a step that keeps what stood in the bank
  pub kept : (act : ℕ → Snap → Act) → DoesAs me.0 i f act → ReadyAs me.0 i act → (k : Shape) (slots : ℕ) → Allows (HasTrace k) slots id me i f (λ n w. (z : Snap) × Notes (λ n'. act n' z) me n w)
  kept act does ready k slots s h deep at small =
      let n = slice_index s.words i in
      let r = noted_at me id i f act live ready k s h at small (λ z. ((does n z).0, (does n z).1 n)) in
      (view_after (act n r.0) me.0, keeps, tt, r.1, (r.0, (refl, refl, r.2)))

  -- a step that finds a number
  pub found : (act : ℕ → Act) → Does me.0 i f act → Ready me.0 i act → (k : Shape) (slots : ℕ) → Allows (HasTrace k) slots id me i f (Notes act me)
  found act does ready k slots s h deep at small =
      let n = slice_index s.words i in
      let r = noted_at me id i f (λ n' _. act n') live ready k s h at small (λ z. ((does n z).0, (does n z).1 n)) in
      (view_after (act n) me.0, keeps, tt, r.1, (refl, refl, r.2))

  -- a store, which finds nothing
  pub stored : (x : ℕ) (act : ℕ → Act) → act x ≡ act 0 → Does me.0 i f (λ _. act 0) → Ready me.0 i (λ _. act 0) → (k : Shape) (slots : ℕ) → Allows (HasTrace k) slots id me i f (λ _. Notes act me x)
  stored x act same does ready k slots s h deep at small =
      let n = slice_index s.words i in
      let r = noted_at me id i f (λ _ _. act 0) live ready k s h at small (λ z. ((does n z).0, (does n z).1 n)) in
      (view_after (act 0) me.0, keeps, tt, r.1, (ap (λ (z : Act). view_after z me.0) (sym same), refl, subst (Acted me.0) (sym same) r.2))

-- a load that is an action only where it finds another number than 0
pub looked : {S : Type 0} (me : Me S View) (id i : ℕ) → IsAwake me.0 → (act : ℕ → Snap → Act) → ((n : ℕ) (z : Snap) → n ≢ 0 → (at me.0.shape (place (act n z)) ≡ i) × (word_after me.0.number (act n z) n ≡ n)) → ReadyAs me.0 i act → (k : Shape) (slots : ℕ)
    → Allows (HasTrace k) slots id me i (λ n. n) (λ n w. (n ≡ 0 → w ≡ me) × (n ≢ 0 → (z : Snap) × Notes (λ n'. act n' z) me n w))
looked me id i live act fit ready k slots s h deep at small =
    let n = slice_index s.words i in
    dite (ℕ_discrete n 0)
    (λ (none : n ≡ 0).
    (me.0, keeps, tt, (h.0, h.1, h.2 ∙ sym (set_own s.words i), h.3 ∙ sym (set_same s.views id me.0 at)), ((λ _. refl), (λ ne. absurd (ne none)))))
    (λ (some_one : n ≢ 0).
    let r = noted_at me id i (λ x. x) act live ready k s h at small (λ z. fit n z some_one) in
    (view_after (act n r.0) me.0, keeps, tt, r.1, ((λ e. absurd (some_one e)), (λ _. (r.0, (refl, refl, r.2))))))

pub cuts : {S : Type 0} (k : Shape) (id : ℕ) (v : View) → MayFork v → Splits (HasTrace {S = S} k) id v (maker v) (made v)
cuts k id v may s h at =
    let here : get_elem? (run k h.0).views id ≡ some v = subst (λ (l : List View). get_elem? l id ≡ some v) (sym h.3) at in
    let same : v.shape ≡ k = sized k h.0 h.1 id v here may.live in
    (forked id v ∷ h.0, (h.1, (here, may.live, may.next, may.parts, may.left, subst (λ (z : Shape). v.next ≤ z.passes) same may.few, may.tokens)), h.2, ap (λ (l : List View). set l id (maker v) ++ made v ∷ []) h.3)

pub glues : {S : Type 0} (k : Shape) (id : ℕ) (v : View) (other : ℕ) (w : View) → v.number ≢ 0 → w.next ≡ 0 → IsFree w → Joins (HasTrace {S = S} k) id v other w (both v w) spent
glues k id v other w live last free s h at ne there =
    let here : get_elem? (run k h.0).views id ≡ some v = subst (λ (l : List View). get_elem? l id ≡ some v) (sym h.3) at in
    let it : get_elem? s.views other ≡ some w = sym (set_else s.views id other (both v w) ne) ∙ there in
    let its : get_elem? (run k h.0).views other ≡ some w = subst (λ (l : List View). get_elem? l other ≡ some w) (sym h.3) it in
    (joined id v other w ∷ h.0, (h.1, (here, ne, its, live, last, free)), h.2, ap (λ (l : List View). set (set l id (both v w)) other spent) h.3)

pub sends : {S : Type 0} (k : Shape) (id : ℕ) (v : View) (given : ℕ) → v.number ≢ 0 → given ≤ v.tokens → (given ≡ v.tokens → 0 < v.tokens → IsQuiet v) → Splits (HasTrace {S = S} k) id v (sender given v) (note given v)
sends k id v given live low quiet s h at =
    let here : get_elem? (run k h.0).views id ≡ some v = subst (λ (l : List View). get_elem? l id ≡ some v) (sym h.3) at in
    (sent id v given ∷ h.0, (h.1, (here, live, low, quiet)), h.2, ap (λ (l : List View). set l id (sender given v) ++ note given v ∷ []) h.3)
