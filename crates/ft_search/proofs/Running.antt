-- Steps of a pass, one after the other, and calls on words as such steps.
use Rattle.std.proofs.Common.{◌≡◌, ℕ, suc, List, [], ◌∷◌, ◌++◌, map, true, refl, sym, ap, ◌∙◌, subst}
use Rattle.ft_trace.specs.declared.Act.{Act}
use Rattle.ft_trace.specs.declared.Act.TheVariants.{ReadRoot, ReadTable}
use Rattle.ft_trace.specs.declared.Shape.{Shape}
use Rattle.ft_trace.specs.declared.View.{View}
use Rattle.ft_trace.specs.Acts.{view_after, reads}
use Rattle.ft_trace.specs.Addresses.{class_of, slots}
use Rattle.ft_trace.specs.Pictures.{entry_offset}
use Rattle.ft_trace.specs.LoggedLookUps.{Online, LookUpWindow}
use Rattle.ft_trace.proofs.Cases.{hit}
use Rattle.ft_keys.specs.declared.words.Access.{Access}
use Rattle.ft_keys.specs.declared.words.Access.TheVariants.{Index, Entry, PutIndex, PutEntry, OldEntry}
use Rattle.ft_keys.specs.Accesses.{Runs, IsLoad, AreLoads, AreAnswered, Tells, after, put_by}
use Rattle.ft_bank.specs.declared.pass.Pass.{Pass}
use Rattle.ft_bank.specs.Passes.{shape_of, view}
use Rattle.ft_bank.specs.Series.{noted_all, DidAll}
use Rattle.ft_bank.specs.TableNames.{table_id}
use Rattle.ft_search.specs.declared.words.TableWords.{TableWords}
use Rattle.ft_search.specs.TableWords.{access_act, SamePlace, KnowsWords, known_words, MadeAccess}
use Rattle.ft_search.specs.KeyLooks.{AreLooks}

-- ---- steps in a row

pub noted_append : (b a : List Act) (v : View) → noted_all (b ++ a) v ≡ noted_all b (noted_all a v)
noted_append [] a v = refl
noted_append (x ∷ b) a v = ap (view_after x) (noted_append b a v)

pub noted_log : (l : List Act) (v : View) → (noted_all l v).log ≡ l ++ v.log
noted_log [] v = refl
noted_log (a ∷ l) v = ap (λ (z : List Act). a ∷ z) (noted_log l v)

pub did_none : (p : Pass) → DidAll [] p p
did_none p = (refl, refl, refl)

pub did_trans : (b a : List Act) (p q r : Pass) → DidAll a p q → DidAll b q r → DidAll (b ++ a) p r
did_trans b a p q r x y = (y.0 ∙ x.0, y.1 ∙ (ap (noted_all b) x.1 ∙ sym (noted_append b a p.seat.me.0)), y.2 ∙ x.2)

pub did_log : (l : List Act) (p q : Pass) → DidAll l p q → (view q).log ≡ l ++ (view p).log
did_log l p q m = ap (λ z. z.log) m.1 ∙ noted_log l (view p)

-- ---- the same place

pub same_self : (s : TableWords) → SamePlace s s
same_self s = record { bank = refl; pass = refl; o = refl; table = refl; mask = refl; start = refl }

pub same_trans : (r s t : TableWords) → SamePlace r s → SamePlace s t → SamePlace r t
same_trans r s t a b = record { bank = b.bank ∙ a.bank; pass = b.pass ∙ a.pass; o = b.o ∙ a.o; table = b.table ∙ a.table; mask = b.mask ∙ a.mask; start = b.start ∙ a.start }

-- what is said of the shape, the container and the table of one is said of the other
pub at_same : (F : Shape → ℕ → ℕ → Type 0) (s t : TableWords) → SamePlace s t → F (shape_of t.bank.now) t.o (table_id t.table) → F (shape_of s.bank.now) s.o (table_id s.table)
at_same F s t a = subst (λ (x : Shape × ℕ × ℕ). F x.0 x.1 x.2) (λ d. (shape_of (a.bank d).now, a.o d, table_id (a.table d)))

pub back_same : (F : Shape → ℕ → ℕ → Type 0) (s t : TableWords) → SamePlace s t → F (shape_of s.bank.now) s.o (table_id s.table) → F (shape_of t.bank.now) t.o (table_id t.table)
back_same F s t a = subst (λ (x : Shape × ℕ × ℕ). F x.0 x.1 x.2) (sym (λ d. (shape_of (a.bank d).now, a.o d, table_id (a.table d))))

-- two loads of words of an entry
pub two_words : (s0 s1 s2 : TableWords) (place a f b g : ℕ) → SamePlace s0 s1 → DidAll (ReadTable (table_id s0.table) (entry_offset (slots (class_of (table_id s0.table))) place a) f ∷ []) s0.pass.now s1.pass.now
    → DidAll (ReadTable (table_id s1.table) (entry_offset (slots (class_of (table_id s1.table))) place b) g ∷ []) s1.pass.now s2.pass.now
    → DidAll (ReadTable (table_id s0.table) (entry_offset (slots (class_of (table_id s0.table))) place b) g ∷ (ReadTable (table_id s0.table) (entry_offset (slots (class_of (table_id s0.table))) place a) f ∷ [])) s0.pass.now s2.pass.now
two_words s0 s1 s2 place a f b g same x y =
    let t = table_id s0.table in
    let at = entry_offset (slots (class_of t)) place in
    let z : DidAll (ReadTable t (at b) g ∷ []) s1.pass.now s2.pass.now = at_same (λ _ _ n. DidAll (ReadTable n (entry_offset (slots (class_of n)) place b) g ∷ []) s1.pass.now s2.pass.now) s0 s1 same y in
    did_trans (ReadTable t (at b) g ∷ []) (ReadTable t (at a) f ∷ []) s0.pass.now s1.pass.now s2.pass.now x z

-- ---- calls on words

pub ran : (s : TableWords) (calls : List Access) (t : TableWords) → Runs MadeAccess s calls t → SamePlace s t × DidAll (map (access_act s.o (table_id s.table)) calls) s.pass.now t.pass.now
ran s [] t r = subst (λ (z : TableWords). SamePlace s z × DidAll [] s.pass.now z.pass.now) r (same_self s, did_none s.pass.now)
ran s (a ∷ calls) t r =
    let m = r.0 in
    let old = ran s calls m r.1 in
    let g = r.2 in
    let act : DidAll (access_act s.o (table_id s.table) a ∷ []) m.pass.now t.pass.now = at_same (λ k o n. DidAll (access_act o n a ∷ []) m.pass.now t.pass.now) s m old.0 g.did in
    (same_trans s m t old.0 g.same, did_trans (access_act s.o (table_id s.table) a ∷ []) (map (access_act s.o (table_id s.table)) calls) s.pass.now m.pass.now t.pass.now old.1 act)

-- ---- between two reads of a root

-- what was done between two reads of the root that named t
pub window_of : (o t : ℕ) (part rest : List Act) (p q : Pass) → DidAll (ReadRoot o (suc t) ∷ part) p q → (view p).log ≡ ReadRoot o (suc t) ∷ rest → Online part → LookUpWindow (view q).log o t part
window_of o t part rest p q did last online = record {
  newer = [];
  rest = ReadRoot o (suc t) ∷ rest;
  is = did_log (ReadRoot o (suc t) ∷ part) p q did ∙ ap (λ (z : List Act). ReadRoot o (suc t) ∷ (part ++ z)) last;
  online = online;
  before = hit (suc t) true (reads t rest);
}

-- what is the same over two steps
pub same_mask : (s t : TableWords) (mask : ℕ) → SamePlace s t → s.mask ≡ mask → t.mask ≡ mask
same_mask s t mask a is = a.mask ∙ is

-- what calls on words that nobody else writes were answered, and that loads leave the words
pub ran_known : (s : TableWords) (calls : List Access) (t : TableWords) → Runs MadeAccess s calls t → KnowsWords s → AreLoads calls → KnowsWords t × (known_words t ≡ known_words s) × AreAnswered s.mask calls (known_words s) × (after s.mask calls (known_words s) ≡ known_words s)
ran_known s [] t r knows loads = subst (λ (z : TableWords). KnowsWords z × (known_words z ≡ known_words s) × AreAnswered s.mask [] (known_words s) × (known_words s ≡ known_words s)) r (knows, refl, tt, refl)
ran_known s (a ∷ calls) t r knows loads =
    let m = r.0 in
    let old = ran_known s calls m r.1 knows loads.1 in
    let place = (ran s calls m r.1).0 in
    let g = r.2 in
    let left = g.left old.0 in
    let tells : Tells s.mask a (after s.mask calls (known_words s)) = subst (λ (z : ℕ × List ℕ). Tells z.0 a z.1) (λ d. (place.mask d, (old.1 ∙ sym old.3) d)) (g.tells old.0) in
    let stays = load_stays s.mask a (known_words m) loads.0 in
    let same : known_words t ≡ known_words s = left.1 ∙ (ap (λ (z : ℕ). put_by z a (known_words m)) place.mask ∙ (stays ∙ old.1)) in
    (left.0, same, (old.2, tells), load_stays s.mask a (after s.mask calls (known_words s)) loads.0 ∙ old.3)
  where
    load_stays : (mask : ℕ) (a : Access) (words : List ℕ) → IsLoad a → put_by mask a words ≡ words
    load_stays mask (Index slot value) words q = refl
    load_stays mask (Entry place word value) words q = refl
    load_stays mask (OldEntry place word value) words q = refl
    load_stays mask (PutIndex slot value) words q = absurd q
    load_stays mask (PutEntry place word value) words q = absurd q

-- loads are looks
pub looks_calls : (o t : ℕ) (calls : List Access) → AreLoads calls → AreLooks (map (access_act o t) calls)
looks_calls o t [] q = tt
looks_calls o t (Index slot x ∷ calls) q = looks_calls o t calls q.1
looks_calls o t (Entry place word x ∷ calls) q = looks_calls o t calls q.1
looks_calls o t (PutIndex slot x ∷ calls) q = absurd q.0
looks_calls o t (PutEntry place word x ∷ calls) q = absurd q.0
looks_calls o t (OldEntry place word x ∷ calls) q = looks_calls o t calls q.1
