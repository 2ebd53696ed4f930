-- The version of an entry is odd only in a table that is fresh in a hand, or that is current in a container whose version is odd.
use Rattle.std.proofs.Common.{◌≡◌, ◌≢◌, ℕ, suc, eqb, ◌+◌, ◌-◌, ◌%◌, ◌<◌, true, false, cond, List, [], ◌∷◌, sym, ap, ◌∙◌, subst, arith}
use mathlib.Core.Option.{some}
use mathlib.Core.Logic.{dite}
use native.Mathlib.Decide.{ℕ_discrete}
use lib.ListN.{get_elem?}
use Rattle.ft_trace.specs.declared.Shape.{Shape}
use Rattle.ft_trace.specs.declared.View.{View}
use Rattle.ft_trace.specs.declared.Act.{Act}
use Rattle.ft_trace.specs.declared.Act.TheVariants.{TakeTable, GiveTable, PutRoot, Retire, StopWrite}
use Rattle.ft_trace.specs.Bits.{bit}
use Rattle.ft_trace.specs.Addresses.{container_count, version_of, cell, class_of, IsTableName, free_bit_of}
use Rattle.ft_trace.specs.Acts.{place, has_lock, is_writing, stage}
use Rattle.ft_trace.specs.ContainerStates.{kind_in}
use Rattle.ft_trace.specs.Kinds.{rows, version_at}
use Rattle.ft_trace.specs.OddVersions.{Shut}
use Rattle.ft_trace.specs.Ages.{aged, age, gone_to, whose}
use Rattle.ft_trace.specs.Traces.{Event, did, forked, joined, sent, run, history, ShutFor, May, Valid}
use Rattle.ft_trace.proofs.Cases.{hit, miss, here}
use Rattle.ft_trace.proofs.OneWord.{stays}
use Rattle.ft_trace.proofs.Pieces.{table_same}
use Rattle.ft_trace.proofs.OddVersions.{version, on_seq, writing_is_odd}
use Rattle.ft_trace.proofs.TablePlaces.{root, root_table, on_table, Calm, placed}
use Rattle.ft_trace.proofs.Contents.{tab}
use Rattle.ft_trace.proofs.Sounds.{on_cells}
use Rattle.ft_trace.proofs.HeldWords.{holder_even}

abbrev pub ShutAt : Shape → List Event → ℕ → ℕ → Type 0
ShutAt k es o t = ShutFor k (run k es).words o t

-- what is said of t, while it is current
abbrev pub Evens : Shape → List Event → ℕ → Type 0
Evens k es t = age es t % 5 ≡ 2 → version k es (whose es t) % 2 ≡ 0 → ShutAt k es (whose es t) t

shut_same : (k : Shape) (o t : ℕ) (ws zs : List ℕ) → zs ≡ ws → Shut (version_at (kind_in k.starts o) (class_of t)) (rows (kind_in k.starts o) (class_of t)) ws → Shut (version_at (kind_in k.starts o) (class_of t)) (rows (kind_in k.starts o) (class_of t)) zs
shut_same k o t ws zs e h = subst (Shut (version_at (kind_in k.starts o) (class_of t)) (rows (kind_in k.starts o) (class_of t))) (sym e) h

-- an action that leaves the words of t
pub left_alone : (k : Shape) (es : List Event) (id : ℕ) (v : View) (t : ℕ) (table : IsTableName k t) (a : Act) → May k (run k es) (history es) v a → ((i : ℕ) → place a ≢ cell t i) → tab k (did id v a ∷ es) t ≡ tab k es t
left_alone k es id v t table a may apart = table_same k t (run k (did id v a ∷ es)).words (run k es).words (λ i low. stays k es id v a may (cell t i) (table, low) (apart i))

-- an action that does not move t
calm_step : (k : Shape) (es : List Event) (id : ℕ) (v : View) (t : ℕ) → IsTableName k t → Evens k es t → (b : Act) → Calm k es id v t b → Valid k (did id v b ∷ es) → Evens k (did id v b ∷ es) t
calm_step k es id v t table old b c ok two even =
    let gs = c.age (age es t) in
    let ws = c.whose (whose es t) in
    let its = placed k es ok.0 t table in
    let was : age es t % 5 ≡ 2 = ap (λ (z : ℕ). z % 5) (sym gs) ∙ two in
    let o = whose es t in
    let current = its.current was in
    let even_now : version k (did id v b ∷ es) o % 2 ≡ 0 = ap (λ (z : ℕ). version k (did id v b ∷ es) z % 2) (sym ws) ∙ even in
    let F : Act → Type 0 = λ b. May k (run k es) (history es) v b → version k es o % 2 ≡ 0 → tab k (did id v b ∷ es) t ≡ tab k es t in
    -- nothing writes t
    let words : version k es o % 2 ≡ 0 → tab k (did id v b ∷ es) t ≡ tab k es t =
    on_cells k es id v t table F
    (λ p i x may even.
    let r = its.roots p may.0 may.4 in
    absurd (writing_is_odd k es ok.0 p may.0 id v ok.1.0 may.3 (ap (λ (z : ℕ). version k es z % 2) (sym r.1) ∙ even)))
    (λ i x may _. let one = may.2 in let h = (its.hands id v ok.1.0 (λ z. absurd (omega (arith, z, one)))).0 in absurd (omega (arith, h, one, was)))
    (λ b same may _. same may)
    b ok.1.3 in
    let shut : ShutAt k (did id v b ∷ es) o t =
    dite (ℕ_discrete (version k es o % 2) 0)
    (λ (e : version k es o % 2 ≡ 0). shut_same k o t (tab k es t) (tab k (did id v b ∷ es) t) (words e) (old was e))
    (λ odd.
    let G : Act → Type 0 = λ b. May k (run k es) (history es) v b → version k (did id v b ∷ es) o % 2 ≡ 0 → ShutAt k (did id v b ∷ es) o t in
    on_seq k es id v o current.0 G
    (λ f may now. absurd (odd (holder_even k es ok.0 o may.0 id v ok.1.0 may.1 (may.2 (whose es t)))))
    (λ f may now. shut_same k o t (tab k es t) (tab k (did id v (StopWrite o f) ∷ es) t) (left_alone k es id v t table (StopWrite o f) may (λ i e. absurd (cc))) (may.5 t current.1))
    (λ b _ stay may now. absurd (odd (ap (λ (n : ℕ). n % 2) (sym (stay may)) ∙ now)))
    b ok.1.3 even_now) in
    subst (λ (z : ℕ). ShutAt k (did id v b ∷ es) z t) (sym ws) shut

pub evens : (k : Shape) (es : List Event) → Valid k es → (t : ℕ) → IsTableName k t → Evens k es t
evens k [] valid t table = λ two even. absurd (omega (arith, two))
evens k (did id v a ∷ es) valid t table =
    let old = evens k es valid.0 t table in
    let its = placed k es valid.0 t table in
    let g = age es t in
    let n = stage t v.log in
    let F : Act → Type 0 = λ b. Valid k (did id v b ∷ es) → Evens k (did id v b ∷ es) t in
    on_table k es id v t table F
    (λ f s one ok two _.
    let A : Act = TakeTable t f s in
    let was : g % 5 ≡ 0 = its.free_is (ap (bit (free_bit_of t)) (sym ok.1.2) ∙ one) in
    let now : aged A t g ≡ g + 1 = hit t (cond (eqb (bit (free_bit_of t) f) 1) (g + 1) g) g ∙ here (bit (free_bit_of t) f) 1 (g + 1) g one in
    absurd (omega (arith, two, now, was)))
    (λ ok two _. let now : aged (GiveTable t) t g ≡ g + 5 - g % 5 = hit t (g + 5 - g % 5) g in absurd (omega (arith, two, now)))
    (λ o past ok _ even.
    let A : Act = PutRoot o (suc t) past in
    let may = ok.1.3 in
    let whom : gone_to id A t (whose es t) ≡ o = hit (suc t) o (cond (eqb past (suc t)) id (whose es t)) in
    absurd (writing_is_odd k es ok.0 o may.0 id v ok.1.0 may.1 (ap (λ (z : ℕ). z % 2) (sym (stays k es id v A may (version_of o) may.0 (λ e. absurd (cc)))) ∙ (ap (λ (z : ℕ). version k (did id v A ∷ es) z % 2) (sym whom) ∙ even))))
    (λ o r ne ok two _.
    let A : Act = PutRoot o r (suc t) in
    let was = (its.roots o ok.1.3.0 (sym ok.1.3.2)).0 in
    let now : aged A t g ≡ g + 1 = miss r (suc t) (g + 1) (cond (eqb (suc t) (suc t)) (g + 1) g) ne ∙ hit (suc t) (g + 1) g in
    absurd (omega (arith, two, now, was)))
    (λ f ok two _.
    let three : n ≡ 3 = ok.1.3.1 in
    let was = (its.hands id v ok.1.0 (λ z. absurd (omega (arith, three, z)))).0 in
    let now : aged (Retire t f) t g ≡ g + 1 = hit t (g + 1) g in
    absurd (omega (arith, two, now, was, three)))
    (λ b c ok. calm_step k es id v t table old b c ok)
    a valid.1.2 valid.1.3 valid
evens k (forked id v ∷ es) valid t table = evens k es valid.0 t table
evens k (sent id v given ∷ es) valid t table = evens k es valid.0 t table
evens k (joined id v other w ∷ es) valid t table = evens k es valid.0 t table

-- the version of an entry or item is odd only in the table of a container whose version is odd
pub quiet_shut : (k : Shape) (es : List Event) → Valid k es → (o : ℕ) → o < container_count k → version k es o % 2 ≡ 0 → (t : ℕ) → root k es o ≡ suc t → ShutAt k es o t
quiet_shut k es valid o low even t names =
    let table = root_table k es valid o low t names in
    let r = (placed k es valid t table).roots o low names in
    subst (λ (z : ℕ). ShutAt k es z t) r.1 (evens k es valid t table r.0 (ap (λ (z : ℕ). version k es z % 2) r.1 ∙ even))

-- who has the lock and does not write finds every entry closed
pub holder_shut : (k : Shape) (es : List Event) (valid : Valid k es) (o : ℕ) (low : o < container_count k) (j : ℕ) (u : View) → get_elem? (run k es).views j ≡ some u → has_lock o u.log ≡ true → is_writing o u.log ≡ false → (t : ℕ) → root k es o ≡ suc t → ShutAt k es o t
holder_shut k es valid o low j u at mine quiet t names = quiet_shut k es valid o low (holder_even k es valid o low j u at mine quiet) t names
