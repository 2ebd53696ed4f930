-- How many references there may be, and how high local counts may be.
use Rattle.std.proofs.Common.{◌≡◌, ◌≢◌, ℕ, zero, suc, ◌+◌, ◌-◌, ◌*◌, ◌^◌, ◌<◌, ◌≤◌, eqb, Bool, true, false, cond, List, [], ◌∷◌, refl, sym, ap, ◌∙◌, subst, arith}
use mathlib.Core.Option.{some}
use mathlib.Core.Logic.{dite}
use native.Mathlib.Decide.{ℕ_discrete}
use lib.ListN.{get_elem?}
use Rattle.std.proofs.Math.Pow.{pow_mono}
use Rattle.ft_model.specs.Classes.{IsClass}
use Rattle.ft_model.specs.declared.script.Kind.{Kind}
use Rattle.ft_model.specs.declared.script.Kind.TheVariants as kind
use Rattle.ft_trace.specs.declared.Shape.{Shape}
use Rattle.ft_trace.specs.declared.View.{View}
use Rattle.ft_trace.specs.declared.Act.{Act}
use Rattle.ft_trace.specs.declared.Act.TheVariants.{PutRoot, PutTable, TakePlace, PutBox, PublishBox, RaiseLocal, DropLocal, ClearLocal, MergeCounts, RaiseShared, RaiseKept, DropShared}
use Rattle.ft_trace.specs.Bits.{bit}
use Rattle.ft_trace.specs.Addresses.{container_count, class_of, slots, places, place_bit_of}
use Rattle.ft_trace.specs.Acts.{starter, view_after, maker, made, both, spent, sender, note}
use Rattle.ft_trace.specs.ContainerStates.{kind_in}
use Rattle.ft_trace.specs.Pictures.{root_of, inner}
use Rattle.ft_trace.specs.Kinds.{rows}
use Rattle.ft_trace.specs.Entries.{total}
use Rattle.ft_trace.specs.Boxes.{names_box_at, named_in_root, named_in_container, named_in_all, made_state, local_count, taken_out, references_held}
use Rattle.ft_trace.specs.BoxTraces.{has_in_default, maker_part, references_held_by, references}
use Rattle.ft_trace.specs.Traces.{Fits, Event, did, forked, joined, sent, run, word, history, May, Valid}
use Rattle.ft_trace.proofs.Sizes.{set_views, one_more, one_view}
use Rattle.ft_trace.proofs.Seats.{seated}
use Rattle.ft_trace.proofs.Budgets.{some_part}
use Rattle.ft_trace.proofs.Totals.{parts_total}
use Rattle.ft_trace.proofs.Cases.{hit, miss, here, same_or}
use Rattle.ft_trace.proofs.TablePlaces.{root_table}
use Rattle.ft_trace.proofs.Sums.{sum_below, total_below}

pub fits_of : (k : Shape) (es : List Event) → Valid k es → Fits k
fits_of k [] valid = valid
fits_of k (did id v a ∷ es) valid = fits_of k es valid.0
fits_of k (forked id v ∷ es) valid = fits_of k es valid.0
fits_of k (joined id v other w ∷ es) valid = fits_of k es valid.0
fits_of k (sent id v given ∷ es) valid = fits_of k es valid.0

-- ---- what words name

one_or_none : (x y : Bool) → cond x (cond y 1 0) 0 ≤ 1
one_or_none true true = omega arith
one_or_none true false = omega arith
one_or_none false y = omega arith

rows_low : (kind : Kind) (c : ℕ) → IsClass c → rows kind c ≤ 65536
unfolding slots places
rows_low kind.List c is = let p = pow_mono is.greatest in omega (arith, p)
rows_low kind.Dict c is = let p = pow_mono is.greatest in omega (arith, p)
rows_low kind.Set c is = let p = pow_mono is.greatest in omega (arith, p)
rows_low (kind.Deque bound) c is = omega arith

in_root_low : (b : ℕ) (kind : Kind) (r : ℕ) (ws : List ℕ) → ((t : ℕ) → r ≡ suc t → IsClass (class_of t)) → named_in_root b kind r ws ≤ 65536
in_root_low b kind zero ws is = omega arith
in_root_low b kind (suc t) ws is =
    let low = rows_low kind (class_of t) (is t refl) in
    let s = sum_below (names_box_at b kind (class_of t) ws) (rows kind (class_of t)) 1 (λ p _. one_or_none _ _) in
    omega (arith, low, s)

pub named_few : (k : Shape) (es : List Event) → Valid k es → (b : ℕ) → named_in_all k b (run k es).words ≤ 2 ^ 24
named_few k es valid b =
    let few = (fits_of k es valid).containers in
    let s = sum_below (λ o. named_in_container k b o (run k es).words) (container_count k) 65536 (λ o low. in_root_low b (kind_in k.starts o) (root_of k o (run k es).words) (inner k (root_of k o (run k es).words) (run k es).words) (λ t names_box. (root_table k es valid o low t names_box).0)) in
    omega (arith, few, s)

-- ---- what passes hold

either_low : (x : Bool) (y z m : ℕ) → y < m → z < m → cond x y z < m
either_low true y z m a b = a
either_low false y z m a b = b

module _ (k : Shape) (es : List Event) (v : View) (b : ℕ) (old : references_held k b v.log < 2 ^ 32) where
  up_one : (c : ℕ) → references_held k c v.log + 1 < 2 ^ 32 → cond (eqb c b) (references_held k b v.log + 1) (references_held k b v.log) < 2 ^ 32
  up_one c low =
      same_or (λ (z : ℕ). references_held k z v.log + 1 < 2 ^ 32 → cond (eqb z b) (references_held k b v.log + 1) (references_held k b v.log) < 2 ^ 32) c b
      (λ less. either_low (eqb b b) (references_held k b v.log + 1) (references_held k b v.log) (2 ^ 32) less old)
      (λ ne less. subst (λ (z : ℕ). z < 2 ^ 32) (sym (miss c b (references_held k b v.log + 1) (references_held k b v.log) ne)) old)
      low

  held_step : (a : Act) → May k (run k es) (history es) v a → references_held k b (a ∷ v.log) < 2 ^ 32
  held_step (PutTable o t i x) may = (may.7 b).1
  held_step (PutRoot o r before) may = (may.8 b).1
  held_step (PublishBox c) may = up_one c may.3
  held_step (RaiseLocal c x) may = up_one c may.5
  held_step (RaiseShared c word f) may =
      same_or (λ (z : ℕ). references_held k z v.log + 1 < 2 ^ 32 → cond (eqb z b) (cond (eqb f word) (references_held k b v.log + 1) (references_held k b v.log)) (references_held k b v.log) < 2 ^ 32) c b
      (λ less. either_low (eqb b b) (cond (eqb f word) (references_held k b v.log + 1) (references_held k b v.log)) (references_held k b v.log) (2 ^ 32) (either_low (eqb f word) (references_held k b v.log + 1) (references_held k b v.log) (2 ^ 32) less old) old)
      (λ ne less. subst (λ (z : ℕ). z < 2 ^ 32) (sym (miss c b (cond (eqb f word) (references_held k b v.log + 1) (references_held k b v.log)) (references_held k b v.log) ne)) old)
      may.4
  held_step (RaiseKept c f) may = up_one c may.3
  held_step (DropLocal c x) may = either_low (eqb c b) (references_held k b v.log - 1) (references_held k b v.log) (2 ^ 32) (omega (arith, old)) old
  held_step (DropShared c f) may = either_low (eqb c b) (references_held k b v.log - 1) (references_held k b v.log) (2 ^ 32) (omega (arith, old)) old
  held_step act may = old

pub held_few : (k : Shape) (es : List Event) → Valid k es → (b : ℕ) → (j : ℕ) (u : View) → get_elem? (run k es).views j ≡ some u → references_held k b u.log < 2 ^ 32
held_few k [] valid b = one_view (λ j u. references_held k b u.log < 2 ^ 32) (starter k) (omega arith)
held_few k (did id v a ∷ es) valid b = let old = held_few k es valid.0 b in set_views (λ j u. references_held k b u.log < 2 ^ 32) _ id (view_after a v) (held_step k es v b (old id v valid.1.0) a valid.1.3) (λ j u _ e. old j u e)
held_few k (forked id v ∷ es) valid b = let old = held_few k es valid.0 b in one_more (λ j u. references_held k b u.log < 2 ^ 32) _ (made v) (omega arith) (set_views (λ j u. references_held k b u.log < 2 ^ 32) _ id (maker v) (old id v valid.1.0) (λ j u _ e. old j u e))
held_few k (sent id v given ∷ es) valid b = let old = held_few k es valid.0 b in one_more (λ j u. references_held k b u.log < 2 ^ 32) _ (note given v) (omega arith) (set_views (λ j u. references_held k b u.log < 2 ^ 32) _ id (sender given v) (old id v valid.1.0) (λ j u _ e. old j u e))
held_few k (joined id v other w ∷ es) valid b = let old = held_few k es valid.0 b in set_views (λ j u. references_held k b u.log < 2 ^ 32) _ other spent (omega arith) (λ j u _. set_views (λ j u. references_held k b u.log < 2 ^ 32) _ id (both v w) (old id v valid.1.0) (λ j u _ e. old j u e) j u)

-- a pass with no number has done nothing
held_by_parts : (k : Shape) (es : List Event) → Valid k es → (b : ℕ) → (j : ℕ) (u : View) → get_elem? (run k es).views j ≡ some u → references_held_by k b u ≤ 2 ^ 32 * u.parts
held_by_parts k es valid b j u there =
    let low = held_few k es valid b j u there in
    dite (ℕ_discrete u.number 0)
    (λ (e : u.number ≡ 0). let z : references_held k b u.log ≡ 0 = ap (references_held k b) ((seated k es valid j u there).silent e) in omega (arith, z))
    (λ live. let p = some_part k es (fits_of k es valid).some_pass valid j u there live in omega (arith, low, p))

pub refs_few : (k : Shape) (es : List Event) → Valid k es → (b : ℕ) → references k b es < 2 ^ 40
refs_few k es valid b =
    let n = named_few k es valid b in
    let t = total_below (references_held_by k b) (λ (u : View). u.parts) (2 ^ 32) (run k es).views (held_by_parts k es valid b) in
    let p = parts_total k es valid in
    let m = (fits_of k es valid).passes in
    omega (arith, n, t, p, m)

-- ---- local counts

abbrev Low : ℕ → List Act → Type 0
Low b l = made_state b l ≡ 2 → local_count b l + taken_out b l ≤ 2 ^ 60

module _ (k : Shape) (es : List Event) (v : View) (b : ℕ) (old : Low b v.log) where
  not_two : (x : Bool) (n : ℕ) → n ≢ 2 → cond x 1 n ≢ 2
  not_two true n ne e = absurd (omega (arith, e))
  not_two false n ne e = ne e

  local_step : (a : Act) → May k (run k es) (history es) v a → Low b (a ∷ v.log)
  local_step (TakePlace c f) may =
      same_or (λ (z : ℕ). made_state z v.log ≢ 2 → cond (eqb z b) (cond (eqb (bit (place_bit_of z) f) 1) 1 (made_state b v.log)) (made_state b v.log) ≡ 2 → cond (eqb z b) (cond (eqb (bit (place_bit_of z) f) 1) (2 ^ 64) (local_count b v.log)) (local_count b v.log) + taken_out b v.log ≤ 2 ^ 60) c b
      (λ ne e. absurd (not_two (eqb (bit (place_bit_of b) f) 1) (made_state b v.log) ne (sym (hit b (cond (eqb (bit (place_bit_of b) f) 1) 1 (made_state b v.log)) (made_state b v.log)) ∙ e)))
      (λ ne _ e. let l = old (sym (miss c b (cond (eqb (bit (place_bit_of c) f) 1) 1 (made_state b v.log)) (made_state b v.log) ne) ∙ e) in let m = miss c b (cond (eqb (bit (place_bit_of c) f) 1) (2 ^ 64) (local_count b v.log)) (local_count b v.log) ne in omega (arith, l, m))
      may.3
  local_step (PutBox c i x) may =
      same_or (λ (z : ℕ). made_state z v.log ≡ 1 → made_state b v.log ≡ 2 → cond (eqb z b) (cond (eqb i 3) x (local_count b v.log)) (local_count b v.log) + taken_out b v.log ≤ 2 ^ 60) c b
      (λ one two. absurd (omega (arith, one, two)))
      (λ ne _ two. let l = old two in let m = miss c b (cond (eqb i 3) x (local_count b v.log)) (local_count b v.log) ne in omega (arith, l, m))
      may.2
  local_step (PublishBox c) may =
      same_or (λ (z : ℕ). local_count z v.log ≡ 1 → cond (eqb z b) 2 (made_state b v.log) ≡ 2 → local_count b v.log + cond (eqb z b) 0 (taken_out b v.log) ≤ 2 ^ 60) c b
      (λ one _. let h = hit b 0 (taken_out b v.log) in omega (arith, h, one))
      (λ ne _ e. let l = old (sym (miss c b 2 (made_state b v.log) ne) ∙ e) in let m = miss c b 0 (taken_out b v.log) ne in omega (arith, l, m))
      may.2
  local_step (RaiseLocal c x) may =
      same_or (λ (z : ℕ). taken_out z v.log ≡ 0 → made_state b v.log ≡ 2 → cond (eqb z b) x (local_count b v.log) + taken_out b v.log ≤ 2 ^ 60) c b
      (λ none _. let h = hit b x (local_count b v.log) in let m = may.3 in omega (arith, h, none, m))
      (λ ne _ e. let l = old e in let m = miss c b x (local_count b v.log) ne in omega (arith, l, m))
      may.4
  local_step (DropLocal c x) may =
      same_or (λ (z : ℕ). local_count z v.log ≡ x + 1 → made_state b v.log ≡ 2 → cond (eqb z b) x (local_count b v.log) + taken_out b v.log ≤ 2 ^ 60) c b
      (λ is e. let h = hit b x (local_count b v.log) in let l = old e in omega (arith, h, is, l))
      (λ ne _ e. let l = old e in let m = miss c b x (local_count b v.log) ne in omega (arith, l, m))
      may.2
  local_step (ClearLocal c) may =
      same_or (λ (z : ℕ). taken_out z v.log ≡ 0 → made_state b v.log ≡ 2 → cond (eqb z b) 0 (local_count b v.log) + cond (eqb z b) (local_count b v.log) (taken_out b v.log) ≤ 2 ^ 60) c b
      (λ none e. let h = hit b 0 (local_count b v.log) in let g = hit b (local_count b v.log) (taken_out b v.log) in let l = old e in omega (arith, h, g, l, none))
      (λ ne _ e. let l = old e in let m = miss c b 0 (local_count b v.log) ne in let n = miss c b (local_count b v.log) (taken_out b v.log) ne in omega (arith, l, m, n))
      may.2
  local_step (MergeCounts c d f) may =
      same_or (λ (z : ℕ). cond (eqb z b) 3 (made_state b v.log) ≡ 2 → local_count b v.log + cond (eqb z b) 0 (taken_out b v.log) ≤ 2 ^ 60) c b
      (λ e. let h = hit b 3 (made_state b v.log) in absurd (omega (arith, h, e)))
      (λ ne e. let l = old (sym (miss c b 3 (made_state b v.log) ne) ∙ e) in let m = miss c b 0 (taken_out b v.log) ne in omega (arith, l, m))
  local_step act may = old

local_few : (k : Shape) (es : List Event) → Valid k es → (b : ℕ) → (j : ℕ) (u : View) → get_elem? (run k es).views j ≡ some u → Low b u.log
local_few k [] valid b = one_view (λ j u. Low b u.log) (starter k) (λ e. absurd (omega (arith, e)))
local_few k (did id v a ∷ es) valid b = let old = local_few k es valid.0 b in set_views (λ j u. Low b u.log) _ id (view_after a v) (local_step k es v b (old id v valid.1.0) a valid.1.3) (λ j u _ e. old j u e)
local_few k (forked id v ∷ es) valid b = let old = local_few k es valid.0 b in one_more (λ j u. Low b u.log) _ (made v) (λ e. absurd (omega (arith, e))) (set_views (λ j u. Low b u.log) _ id (maker v) (old id v valid.1.0) (λ j u _ e. old j u e))
local_few k (sent id v given ∷ es) valid b = let old = local_few k es valid.0 b in one_more (λ j u. Low b u.log) _ (note given v) (λ e. absurd (omega (arith, e))) (set_views (λ j u. Low b u.log) _ id (sender given v) (old id v valid.1.0) (λ j u _ e. old j u e))
local_few k (joined id v other w ∷ es) valid b = let old = local_few k es valid.0 b in set_views (λ j u. Low b u.log) _ other spent (λ e. absurd (omega (arith, e))) (λ j u _. set_views (λ j u. Low b u.log) _ id (both v w) (old id v valid.1.0) (λ j u _ e. old j u e) j u)

kept_by : (k : Shape) (es : List Event) → Valid k es → (b : ℕ) → (j : ℕ) (u : View) → get_elem? (run k es).views j ≡ some u → maker_part b u ≤ 2 ^ 60 * has_in_default b u
kept_by k es valid b j u there =
    let low = local_few k es valid b j u there in
    dite (ℕ_discrete (made_state b u.log) 2)
    (λ (e : made_state b u.log ≡ 2). let l = low e in let x : maker_part b u ≡ local_count b u.log + taken_out b u.log = here (made_state b u.log) 2 (local_count b u.log + taken_out b u.log) 0 e in let y : has_in_default b u ≡ 1 = here (made_state b u.log) 2 1 0 e in omega (arith, l, x, y))
    (λ ne. let x = miss (made_state b u.log) 2 (local_count b u.log + taken_out b u.log) 0 ne in omega (arith, x))

pub kept_few : (k : Shape) (es : List Event) → Valid k es → (b : ℕ) → total (maker_part b) (run k es).views ≤ 2 ^ 60 * total (has_in_default b) (run k es).views
kept_few k es valid b = total_below (maker_part b) (has_in_default b) (2 ^ 60) (run k es).views (kept_by k es valid b)
