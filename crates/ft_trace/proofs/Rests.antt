-- A table that was taken out of a root is written no more until it has been free.
use Rattle.std.proofs.Common.{◌≡◌, ◌≢◌, ℕ, suc, ◌%◌, ◌<◌, true, List, ◌∷◌, refl, sym, ◌∙◌, arith}
use mathlib.Core.Option.{some}
use lib.ListN.{get_elem?}
use Rattle.ft_trace.specs.declared.Shape.{Shape}
use Rattle.ft_trace.specs.declared.View.{View}
use Rattle.ft_trace.specs.declared.Act.{Act}
use Rattle.ft_trace.specs.Addresses.{IsTableName, container_count}
use Rattle.ft_trace.specs.Acts.{reads}
use Rattle.ft_trace.specs.Ages.{age, seen}
use Rattle.ft_trace.specs.Traces.{Event, did, forked, joined, sent, run, history, May, Valid}
use Rattle.ft_trace.proofs.TablePlaces.{root, placed}
use Rattle.ft_trace.proofs.Contents.{tab}
use Rattle.ft_trace.proofs.Ages.{within}
use Rattle.ft_trace.proofs.Sounds.{on_cells}

-- a table that is free, taken out of a root or retired
pub rests : (k : Shape) (es : List Event) (e : Event) → Valid k (e ∷ es) → (t : ℕ) → IsTableName k t → age es t % 5 ≢ 1 → age es t % 5 ≢ 2 → tab k (e ∷ es) t ≡ tab k es t
rests k es (did id v a) valid t table not_one not_two =
    let its = placed k es valid.0 t table in
    let F : Act → Type 0 = λ b. May k (run k es) (history es) v b → tab k (did id v b ∷ es) t ≡ tab k es t in
    on_cells k es id v t table F
    (λ o i x may. absurd (not_two (its.roots o may.0 may.4).0))
    (λ i x may. let one = may.2 in absurd (not_one ((its.hands id v valid.1.0 (λ z. absurd (omega (arith, z, one)))).0 ∙ one)))
    (λ b same may. same may)
    a valid.1.3
rests k es (forked id v) valid t table not_one not_two = refl
rests k es (sent id v given) valid t table not_one not_two = refl
rests k es (joined id v other w) valid t table not_one not_two = refl

-- what a pass has found in a root since it last announced is current, taken out of a root or retired, and if it is in a root, it has been there since
pub announced : (k : Shape) (es : List Event) → Valid k es → (t : ℕ) → IsTableName k t → (j : ℕ) (u : View) → get_elem? (run k es).views j ≡ some u → reads t u.log ≡ true → (o : ℕ) → o < container_count k → root k es o ≡ suc t → seen es j t ≡ age es t
announced k es valid t table j u at r o low names =
    let w = within k es valid t table j u at r in
    let two = ((placed k es valid t table).roots o low names).0 in
    let a = w.0 in
    let b = w.1 in
    let c = w.2 in
    omega (arith, two, a, b, c)

-- two roots do not name one table
pub one_root : (k : Shape) (es : List Event) → Valid k es → (t : ℕ) → IsTableName k t → (o q : ℕ) → o < container_count k → q < container_count k → root k es o ≡ suc t → root k es q ≡ suc t → o ≡ q
one_root k es valid t table o q low less a b = let p = placed k es valid t table in sym (p.roots o low a).1 ∙ (p.roots q less b).1
