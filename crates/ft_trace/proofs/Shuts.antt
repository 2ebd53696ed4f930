-- No version is odd in a table that is free, was taken out of a root or is retired.
use Rattle.std.proofs.Common.{◌≡◌, ◌≢◌, ℕ, suc, eqb, ◌+◌, ◌%◌, cond, List, [], ◌∷◌, refl, sym, ap, ◌∙◌, subst, ⊎_elim, arith}
use mathlib.Core.Logic.{dite}
use native.Mathlib.Decide.{ℕ_discrete}
use Rattle.ft_model.specs.declared.script.Kind.TheVariants as kind
use Rattle.ft_trace.specs.declared.Shape.{Shape}
use Rattle.ft_trace.specs.declared.Act.{Act}
use Rattle.ft_trace.specs.declared.Act.TheVariants.{TakeTable, GiveTable, PutRoot, Retire}
use Rattle.ft_trace.specs.Bits.{bit}
use Rattle.ft_trace.specs.Addresses.{class_of, slots, IsTableName, free_bit_of}
use Rattle.ft_trace.specs.Acts.{stage}
use Rattle.ft_trace.specs.ContainerStates.{kind_in}
use Rattle.ft_trace.specs.Pictures.{entry_offset}
use Rattle.ft_trace.specs.Ages.{aged, age, whose}
use Rattle.ft_trace.specs.TraceLaws.{OddVersionsAreInWrites}
use Rattle.ft_trace.specs.Traces.{Event, did, forked, joined, sent, opened, IsAllShut, Valid}
use Rattle.ft_trace.proofs.Addresses.{cell_first}
use Rattle.ft_trace.proofs.ByKind.{keyed_low}
use Rattle.ft_trace.proofs.Cases.{hit, here}
use Rattle.ft_trace.proofs.Contents.{tab}
use Rattle.ft_trace.proofs.Evens.{left_alone, evens}
use Rattle.ft_trace.proofs.Hands.{handed}
use Rattle.ft_trace.proofs.Pieces.{table_at}
use Rattle.ft_trace.proofs.TablePlaces.{on_table, placed, keeper}
use Rattle.ft_trace.proofs.Announcing.{fits}
use Rattle.ft_trace.proofs.LandedStarts.{has_versions}
use Rattle.ft_trace.proofs.Rests.{rests}

-- what is said of t, while it is neither fresh in a hand nor current
abbrev pub Shuts : Shape → List Event → ℕ → Type 0
Shuts k es t = age es t % 5 ≢ 1 → age es t % 5 ≢ 2 → IsAllShut (class_of t) (tab k es t)

-- at the start each word is 0
first_shut : (k : Shape) (t : ℕ) → IsTableName k t → IsAllShut (class_of t) (tab k [] t)
first_shut k t table = (
  kind.Dict,
  tt,
  λ p low.
      let fits = keyed_low kind.Dict tt (class_of t) p 0 low (omega arith) in
      ap (λ (n : ℕ). n % 2) (table_at k t (opened k).words (entry_offset (slots (class_of t)) p 0) fits ∙ cell_first k t (entry_offset (slots (class_of t)) p 0) table fits),
)

-- the words of a table that is free, taken out of a root or retired
pub shuts : (k : Shape) (es : List Event) → Valid k es → (t : ℕ) → IsTableName k t → Shuts k es t
shuts k [] valid t table = λ _ _. first_shut k t table
shuts k (did id v a ∷ es) valid t table =
    let old = shuts k es valid.0 t table in
    let its = placed k es valid.0 t table in
    let g = age es t in
    let n = stage t v.log in
    let F : Act → Type 0 = λ b. Valid k (did id v b ∷ es) → Shuts k (did id v b ∷ es) t in
    on_table k es id v t table F
    (λ f s one ok not_one _.
    let was : g % 5 ≡ 0 = its.free_is (ap (bit (free_bit_of t)) (sym ok.1.2) ∙ one) in
    let now : aged (TakeTable t f s) t g ≡ g + 1 = hit t (cond (eqb (bit (free_bit_of t) f) 1) (g + 1) g) g ∙ here (bit (free_bit_of t) f) 1 (g + 1) g one in
    absurd (not_one (omega (arith, now, was))))
    (λ ok _ _.
    let same = left_alone k es id v t table (GiveTable t) ok.1.3 (λ i e. absurd (cc)) in
    subst (IsAllShut (class_of t)) (sym same)
    (⊎_elim (λ (x : (n ≡ 1) × IsAllShut (class_of t) (tab k es t)). x.1)
    (λ (x : (n ≡ 4) × _).
    let four = x.0 in
    let was = (its.hands id v ok.1.0 (λ z. absurd (omega (arith, four, z)))).0 in
    old (λ z. absurd (omega (arith, was, four, z))) (λ z. absurd (omega (arith, was, four, z)))) ok.1.3.1))
    (λ o past ok _ not_two.
    let one = (ok.1.3.3 t refl).1 in
    let was = (its.hands id v ok.1.0 (λ z. absurd (omega (arith, one, z)))).0 in
    let now : aged (PutRoot o (suc t) past) t g ≡ g + 1 = hit (suc t) (g + 1) (cond (eqb past (suc t)) (g + 1) g) in
    absurd (not_two (omega (arith, now, was, one))))
    (λ o r ne ok _ _.
    let same = left_alone k es id v t table (PutRoot o r (suc t)) ok.1.3 (λ i e. absurd (cc)) in
    subst (IsAllShut (class_of t)) (sym same) (kind_in k.starts o, has_versions k (fits k es valid.0) o, ok.1.3.4 t refl))
    (λ f ok _ _.
    let same = left_alone k es id v t table (Retire t f) ok.1.3 (λ i e. absurd (cc)) in
    let three : n ≡ 3 = ok.1.3.1 in
    let was = (its.hands id v ok.1.0 (λ z. absurd (omega (arith, three, z)))).0 in
    subst (IsAllShut (class_of t)) (sym same) (old (λ z. absurd (omega (arith, was, three, z))) (λ z. absurd (omega (arith, was, three, z)))))
    (λ b c ok not_one not_two.
    let gs = c.age g in
    let one : g % 5 ≢ 1 = λ e. not_one (ap (λ (z : ℕ). z % 5) gs ∙ e) in
    let two : g % 5 ≢ 2 = λ e. not_two (ap (λ (z : ℕ). z % 5) gs ∙ e) in
    subst (IsAllShut (class_of t)) (sym (rests k es (did id v b) ok t table one two)) (old one two))
    a valid.1.2 valid.1.3 valid
shuts k (forked id v ∷ es) valid t table = shuts k es valid.0 t table
shuts k (sent id v given ∷ es) valid t table = shuts k es valid.0 t table
shuts k (joined id v other w ∷ es) valid t table = shuts k es valid.0 t table

pub odd_versions_are_in_writes : OddVersionsAreInWrites
odd_versions_are_in_writes k es valid t table no_hand quiet =
    let its = placed k es valid t table in
    dite (ℕ_discrete (age es t % 5) 2)
    (λ (two : age es t % 5 ≡ 2).
    let current = its.current two in
    (kind_in k.starts (whose es t), has_versions k (fits k es valid) (whose es t), evens k es valid t table two (quiet (whose es t) current.0 current.1)))
    (λ not_two. dite (ℕ_discrete (age es t % 5) 1)
    (λ (one : age es t % 5 ≡ 1).
    let h = handed k es valid t table (λ z. absurd (omega (arith, one, z))) not_two (λ z. absurd (omega (arith, one, z))) in
    absurd (no_hand (keeper es t) h.by h.at (h.has ∙ one)))
    (λ not_one. shuts k es valid t table not_one not_two))
