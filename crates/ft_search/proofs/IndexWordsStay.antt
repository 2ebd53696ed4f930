-- Index words of a table that a pass found in a root: once used, they stay as they are until the pass announces.
use Rattle.std.proofs.Common.{◌≡◌, ◌≢◌, ℕ, suc, eqb, ◌+◌, ◌%◌, ◌<◌, ◌≤◌, Bool, true, false, cond, List, [], ◌∷◌, ◌++◌, length, set, refl, sym, ap, ◌∙◌, subst, arith}
use Rattle.std.proofs.Math.Logic.{∥∥₁_elim}
use Rattle.std.proofs.Math.Nat.{ℕ_set}
use mathlib.Core.Option.{some}
use mathlib.Core.Logic.{dite}
use native.Mathlib.Decide.{ℕ_discrete}
use lib.ListN.{get_elem?}
use Rattle.ft_trace.specs.declared.Shape.{Shape}
use Rattle.ft_trace.specs.declared.View.{View}
use Rattle.ft_trace.specs.declared.Act.{Act}
use Rattle.ft_trace.specs.declared.Act.TheVariants.{ReadRoot, ReadTable, Announce}
use Rattle.ft_trace.specs.Acts.{reads, starter, view_after, maker, made, both, spent, sender, note}
use Rattle.ft_trace.specs.Addresses.{IsTableName, class_of, slots, size}
use Rattle.ft_trace.specs.Ages.{age, whose, seen, seen_next}
use Rattle.ft_trace.specs.LoggedLookUps.{Online}
use Rattle.ft_trace.specs.Kinds.{IsKeyed}
use Rattle.ft_trace.specs.Pictures.{index_field}
use Rattle.ft_trace.specs.ContainerStates.{kind_in}
use Rattle.ft_trace.specs.Traces.{Event, did, forked, joined, sent, run, Valid, IsReachable}
use Rattle.ft_trace.proofs.Ages.{ages_one, ages_rise, whose_same, within}
use Rattle.ft_trace.proofs.ByKind.{keyed_later}
use Rattle.ft_trace.proofs.Cases.{hit, miss, here}
use Rattle.ft_trace.proofs.Contents.{tab}
use Rattle.ft_trace.proofs.EarlierMoments.{was, still_reads, online_rest}
use Rattle.ft_trace.proofs.Pieces.{table_at}
use Rattle.ft_trace.proofs.TablePlaces.{root_table, placed}
use Rattle.ft_trace.proofs.Rests.{rests}
use Rattle.ft_trace.proofs.Sizes.{set_views, one_more, one_view}
use Rattle.ft_trace.proofs.Sounds.{LaterIn, later_one}
use Rattle.ft_trace.proofs.Spots.{Under}
use Rattle.ft_search.specs.Stays.{UsedSlotsStay}

-- ---- from one moment to a later one

module _ (k : Shape) (o t s slot : ℕ) (keyed : IsKeyed (kind_in k.starts o)) (table : IsTableName k t) (two : s % 5 ≡ 2) (low : slot < slots (class_of t)) where
  -- the table was current at the age s, and was not given back since
  later_same : (newer older : List Event) → Valid k (newer ++ older) → s ≤ age older t → age (newer ++ older) t ≤ s + 2 → (age older t ≡ s → whose older t ≡ o) → index_field (tab k older t) slot ≢ 0
      → index_field (tab k (newer ++ older) t) slot ≡ index_field (tab k older t) slot
  later_same [] older valid from to whom used = refl
  later_same (e ∷ newer) older valid from to whom used =
      let es = newer ++ older in
      let up = (ages_one e es t).up in
      let rise = ages_rise newer older t in
      let same = later_same newer older valid.0 from (let z : age es t ≤ s + 2 = omega (arith, up, to) in z) whom used in
      dite (ℕ_discrete (age es t) s)
      (λ (is : age es t ≡ s).
      let first : age older t ≡ s = omega (arith, rise, from, is) in
      let whose_is : whose es t ≡ o = whose_same newer older t (is ∙ sym first) ∙ whom first in
      let current : age es t % 5 ≡ 2 = ap (λ (z : ℕ). z % 5) is ∙ two in
      let one = subst (λ (z : ℕ). LaterIn k z t (tab k es t) (tab k (e ∷ es) t)) whose_is (later_one k es e valid t table current) in
      (keyed_later (kind_in k.starts o) keyed (class_of t) (tab k es t) (tab k (e ∷ es) t) one).index slot low (λ none. used (sym same ∙ none)) ∙ same)
      (λ ne.
      let not_one : age es t % 5 ≢ 1 = λ z. absurd (omega (arith, z, ne, rise, from, up, to, two)) in
      let not_two : age es t % 5 ≢ 2 = λ z. absurd (omega (arith, z, ne, rise, from, up, to, two)) in
      ap (λ (ws : List ℕ). index_field ws slot) (rests k es e valid t table not_one not_two) ∙ same)

-- ---- when the pass found the table

-- the root of o named the table at the age at which the pass found it first since it last announced
pub record Rooted (k : Shape) (o t : ℕ) (es : List Event) (j : ℕ) : Type 0 where
  pub older : List Event
  pub under : Under older es
  pub same : age older t ≡ seen es j t
  pub whom : whose older t ≡ o

rooted_later : (k : Shape) (o t : ℕ) (es : List Event) (e : Event) (j : ℕ) → seen es j t ≡ seen (e ∷ es) j t → Rooted k o t es j → Rooted k o t (e ∷ es) j
rooted_later k o t es e j same r = record { older = r.older; under = record { newer = e ∷ r.under.newer; is = ap (λ (l : List Event). e ∷ l) r.under.is }; same = r.same ∙ same; whom = r.whom }

abbrev pub RootedAt : Shape → ℕ → ℕ → List Event → ℕ → View → Type 0
RootedAt k o t es j u = (xs rest : List Act) → u.log ≡ xs ++ ReadRoot o (suc t) ∷ rest → Online xs → Rooted k o t es j

-- what the pass had found it has found at the same age
seen_same : (id : ℕ) (v : View) (a : Act) (es : List Event) (t : ℕ) → reads t v.log ≡ true → seen es id t ≡ seen (did id v a ∷ es) id t
seen_same id v (ReadRoot o f) es t r =
    let s = seen es id t in
    let g = age es t in
    sym (hit id (cond (eqb f (suc t)) (cond (reads t v.log) s g) s) s ∙ dite (ℕ_discrete f (suc t)) (λ (z : f ≡ suc t). here f (suc t) (cond (reads t v.log) s g) s z ∙ ap (λ (b : Bool). cond b s g) r) (λ ne. miss f (suc t) (cond (reads t v.log) s g) s ne))
seen_same id v act es t r = sym (hit id (seen es id t) (seen es id t))

no_root : (k : Shape) (o t : ℕ) (es : List Event) (j : ℕ) (xs rest : List Act) → [] ≡ xs ++ ReadRoot o (suc t) ∷ rest → Online xs → Rooted k o t es j
no_root k o t es j [] rest e on = absurd (cc)
no_root k o t es j (x ∷ xs) rest e on = absurd (cc)

module _ (k : Shape) (o t : ℕ) (table : IsTableName k t) where
  -- the pass reads the root
  reads_it : (es : List Event) (id : ℕ) (v : View) → Valid k (did id v (ReadRoot o (suc t)) ∷ es) → Rooted k o t (did id v (ReadRoot o (suc t)) ∷ es) id
  reads_it es id v valid =
      let s = seen es id t in
      let g = age es t in
      let p = (placed k es valid.0 t table).roots o valid.1.3.0 (sym valid.1.2) in
      let now : seen (did id v (ReadRoot o (suc t)) ∷ es) id t ≡ cond (reads t v.log) s g = hit id (cond (eqb (suc t) (suc t)) (cond (reads t v.log) s g) s) s ∙ hit (suc t) (cond (reads t v.log) s g) s in
      record { older = es; under = record { newer = did id v (ReadRoot o (suc t)) ∷ []; is = refl }; same = by_read (reads t v.log) refl p.0 ∙ sym now; whom = p.1 }
    where
      by_read : (b : Bool) → reads t v.log ≡ b → age es t % 5 ≡ 2 → age es t ≡ cond b (seen es id t) (age es t)
      by_read false e current = refl
      by_read true e current =
          let w = within k es valid.0 t table id v valid.1.0 e in
          let a = w.0 in
          let b = w.1 in
          let c = w.2 in
          omega (arith, a, b, c, current)

  rooted_front : (es : List Event) (id : ℕ) (v : View) (b : Act) → Valid k (did id v b ∷ es) → RootedAt k o t es id v → (xs rest : List Act) → b ∷ v.log ≡ xs ++ ReadRoot o (suc t) ∷ rest → Online xs → Rooted k o t (did id v b ∷ es) id
  rooted_front es id v b valid before [] rest e on =
      let same : b ≡ ReadRoot o (suc t) = cc in
      subst (λ (z : Act). Rooted k o t (did id v z ∷ es) id) (sym same) (reads_it es id v (subst (λ (z : Act). Valid k (did id v z ∷ es)) same valid))
  rooted_front es id v b valid before (x ∷ xs) rest e on =
      let log : v.log ≡ xs ++ ReadRoot o (suc t) ∷ rest = cc in
      let later = online_rest x xs on in
      let read : reads t v.log ≡ true = ap (reads t) log ∙ still_reads t xs (ReadRoot o (suc t) ∷ rest) later (hit (suc t) true (reads t rest)) in
      rooted_later k o t es (did id v b) id (seen_same id v b es t read) (before xs rest log later)

  rooted_join : (es : List Event) (id : ℕ) (v : View) (other : ℕ) (w : View) → RootedAt k o t es id v → RootedAt k o t (joined id v other w ∷ es) id (both v w)
  rooted_join es id v other w before [] rest e on = absurd (cc)
  rooted_join es id v other w before (x ∷ xs) rest e on = rooted_later k o t es (joined id v other w) id refl (before xs rest (cc) (online_rest x xs on))

  pub rooted : (es : List Event) → Valid k es → (j : ℕ) (u : View) → get_elem? (run k es).views j ≡ some u → RootedAt k o t es j u
  rooted [] valid = one_view (RootedAt k o t []) (starter k) (no_root k o t [] 0)
  rooted (did id v b ∷ es) valid =
      let old = rooted es valid.0 in
      set_views (RootedAt k o t (did id v b ∷ es)) _ id (view_after b v)
      (rooted_front es id v b valid (old id v valid.1.0))
      (λ j u ne e xs rest is on. rooted_later k o t es (did id v b) j (sym (miss id j (seen_next b (reads t v.log) t (age es t) (seen es j t)) (seen es j t) (λ z. ne (sym z)))) (old j u e xs rest is on))
  rooted (forked id v ∷ es) valid =
      let old = rooted es valid.0 in
      one_more (RootedAt k o t (forked id v ∷ es)) _ (made v) (no_root k o t (forked id v ∷ es) (length (set (run k es).views id (maker v))))
      (set_views (RootedAt k o t (forked id v ∷ es)) _ id (maker v) (λ xs rest is on. rooted_later k o t es (forked id v) id refl (old id v valid.1.0 xs rest is on)) (λ j u _ e xs rest is on. rooted_later k o t es (forked id v) j refl (old j u e xs rest is on)))
  rooted (sent id v given ∷ es) valid =
      let old = rooted es valid.0 in
      one_more (RootedAt k o t (sent id v given ∷ es)) _ (note given v) (no_root k o t (sent id v given ∷ es) (length (set (run k es).views id (sender given v))))
      (set_views (RootedAt k o t (sent id v given ∷ es)) _ id (sender given v) (λ xs rest is on. rooted_later k o t es (sent id v given) id refl (old id v valid.1.0 xs rest is on)) (λ j u _ e xs rest is on. rooted_later k o t es (sent id v given) j refl (old j u e xs rest is on)))
  rooted (joined id v other w ∷ es) valid =
      let old = rooted es valid.0 in
      set_views (RootedAt k o t (joined id v other w ∷ es)) _ other spent (no_root k o t (joined id v other w ∷ es) other)
      (λ j u _. set_views (RootedAt k o t (joined id v other w ∷ es)) _ id (both v w) (rooted_join es id v other w (old id v valid.1.0)) (λ j u _ e xs rest is on. rooted_later k o t es (joined id v other w) j refl (old j u e xs rest is on)) j u)

-- ---- two loads of one index word

online_more : (x : Act) (xs ys : List Act) → Online (x ∷ xs) → Online ys → Online (x ∷ ys)
online_more (Announce p n) xs ys on rest = on
online_more act xs ys on rest = rest

online_load : (xs : List Act) (a : Act) → Online xs → Online (a ∷ []) → Online (xs ++ a ∷ [])
online_load [] a on one = one
online_load (x ∷ xs) a on one = online_more x xs (xs ++ a ∷ []) on (online_load xs a (online_rest x xs on) one)

slots_stay_in : (v : View) → IsReachable v → UsedSlotsStay v
slots_stay_in v possible o t slot later earlier newer mid inner rest keyed low log on_mid on_inner =
    let k = v.shape in
    let es = possible.0 in
    let id = possible.1 in
    let knows = possible.2 in
    let base : List Act = inner ++ ReadRoot o (suc t) ∷ rest in
    let load : Act = ReadTable t slot (suc earlier) in
    let w1 = was k es knows.0 id v knows.1 newer (ReadTable t slot later) (mid ++ load ∷ base) log in
    let w2 = was k w1.older w1.valid id w1.view w1.at mid load base w1.log in
    let w3 = was k w2.older w2.valid id w2.view w2.at inner (ReadRoot o (suc t)) rest w2.log in
    let table = root_table k w3.older w3.valid o (w3.may tt).0 t (sym w3.tells) in
    let r = rooted k o t table w2.older w2.valid id w2.view w2.at inner rest w2.log on_inner in
    let read_base : reads t base ≡ true = still_reads t inner (ReadRoot o (suc t) ∷ rest) on_inner (hit (suc t) true (reads t rest)) in
    let read1 : reads t w1.view.log ≡ true = ap (reads t) w1.log ∙ still_reads t mid (load ∷ base) on_mid read_base in
    let read2 : reads t w2.view.log ≡ true = ap (reads t) w2.log ∙ read_base in
    let in1 = within k w1.older w1.valid t table id w1.view w1.at read1 in
    let in2 = within k w2.older w2.valid t table id w2.view w2.at read2 in
    let same : seen w2.older id t ≡ seen w1.older id t = w2.seen (online_load mid load on_mid tt) t read_base in
    let s = seen w2.older id t in
    let high = in1.2 in
    let split : age (w2.newer ++ w2.older) t ≡ age w1.older t = ap (λ (l : List Event). age l t) w2.split in
    let whom : age w2.older t ≡ s → whose w2.older t ≡ o = λ is.
    let unsplit : age (r.under.newer ++ r.older) t ≡ age r.older t = ap (λ (l : List Event). age l t) r.under.is ∙ (is ∙ sym r.same) in
    sym (ap (λ (l : List Event). whose l t) r.under.is) ∙ (whose_same r.under.newer r.older t unsplit ∙ r.whom) in
    let then_ : suc earlier ≡ index_field (tab k w2.older t) slot = w2.tells ∙ sym (table_at k t (run k w2.older).words slot (let z : slot < size (class_of t) = omega (arith, low) in z)) in
    let now : later ≡ index_field (tab k w1.older t) slot = w1.tells ∙ sym (table_at k t (run k w1.older).words slot (let z : slot < size (class_of t) = omega (arith, low) in z)) in
    let stayed = later_same k o t s slot keyed table in2.0 low w2.newer w2.older (subst (Valid k) (sym w2.split) w1.valid) in2.1 (let z : age (w2.newer ++ w2.older) t ≤ s + 2 = omega (arith, split, high, same) in z) whom (λ none. absurd (omega (arith, none, then_))) in
    now ∙ (sym (ap (λ (l : List Event). index_field (tab k l t) slot) w2.split) ∙ (stayed ∙ sym then_))

pub slots_stay : (v : View) → ∥ IsReachable v ∥₁ → UsedSlotsStay v
slots_stay v possible o t slot later earlier newer mid inner rest keyed low log on_mid on_inner =
    ∥∥₁_elim possible (ℕ_set later (suc earlier)) (λ p. slots_stay_in v p o t slot later earlier newer mid inner rest keyed low log on_mid on_inner)
