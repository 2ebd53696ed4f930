-- Conditions on numbers, and the words of each action.
use Rattle.std.proofs.Common.{◌≡◌, ◌≢◌, ℕ, eqb, eq-eqb, ne_eqb, Bool, true, false, true≢false, cond, List, refl, sym, ap, subst, arith}
use mathlib.Core.Logic.{dite}
use native.Mathlib.Decide.{ℕ_discrete}
use Rattle.ft_model.specs.declared.call.Call.{Call}
use Rattle.ft_trace.specs.declared.Act.{Act}
use Rattle.ft_trace.specs.declared.Act.TheVariants.{Lock, Unlock, StartWrite, PutBlock, PutRoot, PutTable, PutFresh, PutHeader, ReadHeader, StopWrite, Version, ReadBlock, ReadRoot, ReadTable, LowerCount, RaiseCount, ReadCount, ReadFree, TakeTable, GiveTable, Announce, ReadAnnounced, TookOver, ReadFreePlaces, TakePlace, PutBox, PublishBox, ReadBox, RaiseLocal, DropLocal, ClearLocal, MergeCounts, RaiseShared, RaiseKept, DropShared, GivePlace}
use Rattle.ft_trace.specs.declared.Shape.{Shape}
use Rattle.ft_trace.specs.declared.View.{View}
use Rattle.ft_trace.specs.Addresses.{Inside}
use Rattle.ft_trace.specs.Acts.{place}
use Rattle.ft_trace.proofs.Addresses.{fw_low}
use Rattle.ft_trace.specs.Traces.{Moment, May}

pub same_or : (F : ℕ → Type 0) (p o : ℕ) → F o → (p ≢ o → F p) → F p
same_or F p o here there = dite (ℕ_discrete p o) (λ (e : p ≡ o). subst F (sym e) here) there

pub miss : {A : Type 0} (p o : ℕ) (x y : A) → p ≢ o → cond (eqb p o) x y ≡ y
miss p o x y ne = ap (λ (b : Bool). cond b x y) (ne_eqb p o ne)

pub hit : {A : Type 0} (p : ℕ) (x y : A) → cond (eqb p p) x y ≡ x
hit p x y = ap (λ (b : Bool). cond b x y) (eq-eqb p p refl)

pub here : {A : Type 0} (q t : ℕ) (x y : A) → q ≡ t → cond (eqb q t) x y ≡ x
here q t x y e = ap (λ (z : Bool). cond z x y) (eq-eqb q t e)

pub off : {A : Type 0} → false ≡ true → A
off e = absurd (true≢false (sym e))

pub not_true : (b : Bool) → (b ≡ true → ⊥) → b ≡ false
not_true true never = absurd (never refl)
not_true false never = refl

-- each action is on a word of the bank
pub inside : (k : Shape) (m : Moment) (cs : List Call) (v : View) (a : Act) → May k m cs v a → Inside k (place a)
inside k m cs v (Lock o f s) may = may.0
inside k m cs v (Unlock o) may = may.0
inside k m cs v (StartWrite o f) may = may.0
inside k m cs v (PutBlock o i x) may = (may.0, may.1)
inside k m cs v (PutRoot o r old) may = (may.0, omega arith)
inside k m cs v (PutTable o t i x) may = (may.1, may.2)
inside k m cs v (PutFresh t i x) may = (may.0, may.1)
inside k m cs v (PutHeader t x) may = may.0
inside k m cs v (ReadHeader t f) may = may
inside k m cs v (StopWrite o f) may = may.0
inside k m cs v (Version o f) may = may
inside k m cs v (ReadBlock o i f) may = may
inside k m cs v (ReadRoot o f) may = (may.0, omega arith)
inside k m cs v (ReadTable t i f) may = may
inside k m cs v (LowerCount c old f) may = may.0
inside k m cs v (RaiseCount c f) may = may.0
inside k m cs v (ReadCount c f) may = may
inside k m cs v (ReadFree w f) may = may
inside k m cs v (TakeTable t f s) may = fw_low k t may.0
inside k m cs v (GiveTable t) may = fw_low k t may.0
inside k m cs v (Announce p x) may = (may.3, may.4)
inside k m cs v (ReadAnnounced p f) may = (may.1, may.2)
inside k m cs v (TookOver tables had found told) may = absurd may
inside k m cs v (ReadFreePlaces q w f) may = may
inside k m cs v (TakePlace b f) may = (may.0.0, may.0.2)
inside k m cs v (PutBox b i x) may = (may.0, may.1)
inside k m cs v (PublishBox b) may = (may.0, omega arith)
inside k m cs v (ReadBox b i f) may = may
inside k m cs v (RaiseLocal b x) may = (may.0, omega arith)
inside k m cs v (DropLocal b x) may = (may.0, omega arith)
inside k m cs v (ClearLocal b) may = (may.0, omega arith)
inside k m cs v (MergeCounts b d f) may = (may.0, omega arith)
inside k m cs v (RaiseShared b old f) may = (may.0, omega arith)
inside k m cs v (RaiseKept b f) may = (may.0, omega arith)
inside k m cs v (DropShared b f) may = (may.0, omega arith)
inside k m cs v (GivePlace b) may = (may.0.0, may.0.2)
inside k m cs v act may = tt
