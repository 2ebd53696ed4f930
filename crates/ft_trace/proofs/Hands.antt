-- A table that is neither free nor current is in a hand, and the write number never falls.
use Rattle.std.proofs.Common.{◌≡◌, ◌≢◌, ℕ, suc, eqb, ◌+◌, ◌-◌, ◌%◌, ◌≤◌, cond, false, List, [], ◌∷◌, ◌++◌, set, refl, sym, ap, ⊎_elim, ◌∙◌, arith, le_refl, le_trans}
use mathlib.Core.Option.{some, some-injective}
use mathlib.Core.Logic.{dite}
use native.Mathlib.Decide.{ℕ_discrete}
use lib.ListN.{get_elem?}
use Rattle.ft_trace.specs.declared.Shape.{Shape}
use Rattle.ft_trace.specs.declared.View.{View}
use Rattle.ft_trace.specs.declared.Act.{Act}
use Rattle.ft_trace.specs.declared.Act.TheVariants.{TakeTable, GiveTable, PutRoot, Retire, Announce}
use Rattle.ft_trace.specs.Bits.{bit}
use Rattle.ft_trace.specs.Addresses.{write_number, IsTableName, free_bit_of}
use Rattle.ft_trace.specs.Acts.{stage, stage_next, is_handed, hands_over, view_after, maker, made, both, spent, sender, note}
use Rattle.ft_trace.specs.Ages.{aged, age, gone_to}
use Rattle.ft_trace.specs.Traces.{Event, did, forked, joined, sent, run, word, history, May, Valid}
use Rattle.ft_trace.proofs.Sizes.{set_at}
use Rattle.atomic_table.proofs.Lists.{set_else, at_longer}
use Rattle.ft_trace.proofs.Cases.{hit, miss, here, not_true}
use Rattle.ft_trace.proofs.HandedOver.{where_false, handed_is}
use Rattle.ft_trace.proofs.OneWord.{stays, moves}
use Rattle.ft_trace.proofs.OddVersions.{one_up}
use Rattle.ft_trace.proofs.Announcing.{on_write_number}
use Rattle.ft_trace.proofs.TablePlaces.{on_table, placed, keeper}

pub record InHands (k : Shape) (es : List Event) (t : ℕ) : Type 0 where
  pub by : View
  pub at : get_elem? (run k es).views (keeper es t) ≡ some by
  pub has : stage t by.log ≡ age es t % 5

pub handed : (k : Shape) (es : List Event) → Valid k es → (t : ℕ) → IsTableName k t → age es t % 5 ≢ 0 → age es t % 5 ≢ 2 → age es t % 5 ≢ 4 → InHands k es t
handed k [] valid t table free current out = absurd (free refl)
handed k (did id v a ∷ es) valid t table free current out =
    let g = age es t in
    let w = keeper es t in
    let n = stage t v.log in
    let its = placed k es valid.0 t table in
    let F : Act → Type 0 = λ b. Valid k (did id v b ∷ es) → aged b t g % 5 ≢ 0 → aged b t g % 5 ≢ 2 → aged b t g % 5 ≢ 4 → InHands k (did id v b ∷ es) t in
    let mine : (b : Act) → Valid k (did id v b ∷ es) → gone_to id b t w ≡ id → stage_next t b n ≡ aged b t g % 5 → InHands k (did id v b ∷ es) t = λ b ok whom is. record { by = view_after b v; at = ap (get_elem? (run k (did id v b ∷ es)).views) whom ∙ set_at (run k es).views id v (view_after b v) ok.1.0; has = is } in
    on_table k es id v t table F
    (λ f s one ok _ _ _.
    let was : g % 5 ≡ 0 = its.free_is (ap (bit (free_bit_of t)) (sym ok.1.2) ∙ one) in
    let now : aged (TakeTable t f s) t g ≡ g + 1 = hit t (cond (eqb (bit (free_bit_of t) f) 1) (g + 1) g) g ∙ here (bit (free_bit_of t) f) 1 (g + 1) g one in
    let one_is : stage_next t (TakeTable t f s) n ≡ 1 = hit t (cond (eqb (bit (free_bit_of t) f) 1) 1 n) n ∙ here (bit (free_bit_of t) f) 1 1 n one in
    mine (TakeTable t f s) ok (hit t (cond (eqb (bit (free_bit_of t) f) 1) id w) w ∙ here (bit (free_bit_of t) f) 1 id w one) (omega (arith, now, was, one_is)))
    (λ ok free _ _. let now : aged (GiveTable t) t g ≡ g + 5 - g % 5 = hit t (g + 5 - g % 5) g in absurd (free (omega (arith, now))))
    (λ o past ok _ current _.
    let one = (ok.1.3.3 t refl).1 in
    let was = (its.hands id v ok.1.0 (λ z. absurd (omega (arith, one, z)))).0 in
    let now : aged (PutRoot o (suc t) past) t g ≡ g + 1 = hit (suc t) (g + 1) (cond (eqb past (suc t)) (g + 1) g) in
    absurd (current (omega (arith, now, was, one))))
    (λ o r ne ok _ _ _.
    let A : Act = PutRoot o r (suc t) in
    let was = (its.roots o ok.1.3.0 (sym ok.1.3.2)).0 in
    let now : aged A t g ≡ g + 1 = miss r (suc t) (g + 1) (cond (eqb (suc t) (suc t)) (g + 1) g) ne ∙ hit (suc t) (g + 1) g in
    let three : stage_next t A n ≡ 3 = miss r (suc t) 0 (cond (eqb (suc t) (suc t)) 3 n) ne ∙ hit (suc t) 3 n in
    mine A ok (miss r (suc t) o (cond (eqb (suc t) (suc t)) id w) ne ∙ hit (suc t) id w) (omega (arith, now, was, three)))
    (λ f ok _ _ _.
    let three = ok.1.3.1 in
    let h = its.hands id v ok.1.0 (λ z. absurd (omega (arith, three, z))) in
    let was = h.0 in
    let now : aged (Retire t f) t g ≡ g + 1 = hit t (g + 1) g in
    let four : stage_next t (Retire t f) n ≡ 4 = hit t 4 n in
    mine (Retire t f) ok h.1 (omega (arith, now, was, three, four)))
    (λ b c ok free current out.
    let gs = c.age g in
    let ws = c.whose w in
    let old = handed k es ok.0 t table (λ e. free (ap (λ (z : ℕ). z % 5) gs ∙ e)) (λ e. current (ap (λ (z : ℕ). z % 5) gs ∙ e)) (λ e. out (ap (λ (z : ℕ). z % 5) gs ∙ e)) in
    dite (ℕ_discrete w id)
    (λ (e : w ≡ id).
    let same : old.by ≡ v = some-injective old.by v (sym old.at ∙ (ap (get_elem? (run k es).views) e ∙ ok.1.0)) in
    mine b ok (ws ∙ e) (c.stage n ∙ (ap (λ (z : View). stage t z.log) (sym same) ∙ (old.has ∙ ap (λ (z : ℕ). z % 5) (sym gs)))))
    (λ ne. record { by = old.by; at = ap (get_elem? (run k (did id v b ∷ es)).views) ws ∙ (set_else (run k es).views id w (view_after b v) ne ∙ old.at); has = old.has ∙ ap (λ (z : ℕ). z % 5) (sym gs) }))
    a valid.1.2 valid.1.3 valid free current out
handed k (forked id v ∷ es) valid t table free current out =
    let old = handed k es valid.0 t table free current out in
    dite (ℕ_discrete (keeper es t) id)
    (λ (e : keeper es t ≡ id).
    let same : old.by ≡ v = some-injective old.by v (sym old.at ∙ (ap (get_elem? (run k es).views) e ∙ valid.1.0)) in
    let there : get_elem? (set (run k es).views id (maker v)) (keeper es t) ≡ some (maker v) = ap (get_elem? (set (run k es).views id (maker v))) e ∙ set_at (run k es).views id v (maker v) valid.1.0 in
    record { by = maker v; at = at_longer (set (run k es).views id (maker v)) (made v ∷ []) (keeper es t) (maker v) there; has = ap (λ (z : View). stage t z.log) (sym same) ∙ old.has })
    (λ ne. record { by = old.by; at = at_longer (set (run k es).views id (maker v)) (made v ∷ []) (keeper es t) old.by (set_else (run k es).views id (keeper es t) (maker v) ne ∙ old.at); has = old.has })
handed k (sent id v given ∷ es) valid t table free current out =
    let old = handed k es valid.0 t table free current out in
    dite (ℕ_discrete (keeper es t) id)
    (λ (e : keeper es t ≡ id).
    let same : old.by ≡ v = some-injective old.by v (sym old.at ∙ (ap (get_elem? (run k es).views) e ∙ valid.1.0)) in
    let there : get_elem? (set (run k es).views id (sender given v)) (keeper es t) ≡ some (sender given v) = ap (get_elem? (set (run k es).views id (sender given v))) e ∙ set_at (run k es).views id v (sender given v) valid.1.0 in
    record { by = sender given v; at = at_longer (set (run k es).views id (sender given v)) (note given v ∷ []) (keeper es t) (sender given v) there; has = ap (λ (z : View). stage t z.log) (sym same) ∙ old.has })
    (λ ne. record { by = old.by; at = at_longer (set (run k es).views id (sender given v)) (note given v ∷ []) (keeper es t) old.by (set_else (run k es).views id (keeper es t) (sender given v) ne ∙ old.at); has = old.has })
handed k (joined id v other w ∷ es) valid t table free current out =
    let old = handed k es valid.0 t table free current out in
    let one = (run k es).views in
    let next = set one id (both v w) in
    let b = is_handed t (hands_over w.log) in
    let none : b ≡ false = not_true b (λ there.
    let four = (handed_is t w.log there).0 in
    let h = ((placed k es valid.0 t table).hands other w valid.1.2 (λ z. absurd (omega (arith, z, four)))).0 in
    absurd (out (h ∙ four))) in
    let stay : keeper (joined id v other w ∷ es) t ≡ keeper es t = where_false b id (keeper es t) none in
    let apart : keeper es t ≢ other = λ e.
    let same : old.by ≡ w = some-injective old.by w (sym old.at ∙ (ap (get_elem? one) e ∙ valid.1.2)) in
    let mine : age es t % 5 ≡ stage t w.log = sym old.has ∙ ap (λ (z : View). stage t z.log) same in
    ⊎_elim (λ (z : stage t w.log ≡ 0). free (mine ∙ z)) (λ (z : stage t w.log ≡ 4). out (mine ∙ z)) (valid.1.5.1 t) in
    dite (ℕ_discrete (keeper es t) id)
    (λ (e : keeper es t ≡ id).
    let same : old.by ≡ v = some-injective old.by v (sym old.at ∙ (ap (get_elem? one) e ∙ valid.1.0)) in
    let there : get_elem? next (keeper es t) ≡ some (both v w) = ap (get_elem? next) e ∙ set_at one id v (both v w) valid.1.0 in
    record { by = both v w; at = ap (get_elem? (set next other spent)) stay ∙ (set_else next other (keeper es t) spent apart ∙ there); has = where_false b 4 (stage t v.log) none ∙ (ap (λ (z : View). stage t z.log) (sym same) ∙ old.has) })
    (λ ne. record { by = old.by; at = ap (get_elem? (set next other spent)) stay ∙ (set_else next other (keeper es t) spent apart ∙ (set_else one id (keeper es t) (both v w) ne ∙ old.at)); has = old.has })

pub goals_one : (k : Shape) (es : List Event) (e : Event) → Valid k (e ∷ es) → word k es write_number ≤ word k (e ∷ es) write_number
goals_one k es (did id v a) valid =
    let W = word k es write_number in
    let F : Act → Type 0 = λ b. May k (run k es) (history es) v b → W ≤ word k (did id v b ∷ es) write_number in
    on_write_number k es id v F
    (λ p x may. let e = stays k es id v (Announce p x) may write_number tt (λ e. absurd (cc)) in omega (arith, e))
    (λ t f may. let e : word k (did id v (Retire t f) ∷ es) write_number ≡ W + 1 = moves k es id v (Retire t f) may ∙ one_up W may.2 in omega (arith, e))
    (λ b aside may. let e = (aside may).drawn in omega (arith, e))
    a valid.1.3
goals_one k es (forked id v) valid = le_refl (word k es write_number)
goals_one k es (sent id v given) valid = le_refl (word k es write_number)
goals_one k es (joined id v other w) valid = le_refl (word k es write_number)

-- what a pass has loaded of it, it may announce
pub goals_rise : (k : Shape) (newer older : List Event) → Valid k (newer ++ older) → word k older write_number ≤ word k (newer ++ older) write_number
goals_rise k [] older valid = le_refl (word k older write_number)
goals_rise k (e ∷ newer) older valid = le_trans (goals_rise k newer older valid.0) (goals_one k (newer ++ older) e valid)
