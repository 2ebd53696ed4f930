-- What one round of a look-up without the lock loads.
use Rattle.std.proofs.Common.{◌≡◌, ℕ, zero, suc, ◌+◌, ◌<◌, ◌≤◌, Bool, true, false, cond, List, [], ◌∷◌, ◌++◌, Option, refl, sym, ap, ◌∙◌, subst, arith, append_assoc, All}
use Rattle.std.specs.Prelude.{◌==◌}
use Rattle.std.proofs.lemmas.List.{append_cancel_right}
use Rattle.std.proofs.lemmas.List.Elements.{All-weaker}
use Rattle.std.proofs.Math.Decide.{dec_lt}
use mathlib.Core.Logic.{dite}
use native.Mathlib.Decide.{ℕ_discrete}
use Rattle.ft_model.specs.declared.call.Call.{Call}
use Rattle.ft_model.specs.declared.reply.Reply.{Reply}
use Rattle.ft_model.specs.declared.script.Kind.{Kind}
use Rattle.ft_layout.specs.Containers.{class_mask}
use Rattle.ft_trace.specs.declared.Act.{Act}
use Rattle.ft_trace.specs.declared.Act.TheVariants.{Announce, Answer, ReadRoot, ReadTable}
use Rattle.ft_trace.specs.declared.Shape.{Shape}
use Rattle.ft_trace.specs.declared.View.{View}
use Rattle.ft_trace.specs.Acts.{view_after, reads}
use Rattle.ft_trace.specs.Addresses.{class_of, slots}
use Rattle.ft_trace.specs.Kinds.{IsKeyed}
use Rattle.ft_trace.specs.Traces.{IsReachable}
use Rattle.ft_trace.specs.Pictures.{entry_offset}
use Rattle.ft_trace.specs.ContainerStates.{kind_in}
use Rattle.ft_keys.specs.declared.walk.Way.{Way}
use Rattle.ft_keys.specs.declared.walk.Way.TheVariants as way
use Rattle.ft_keys.specs.declared.words.Access.{Access}
use Rattle.ft_keys.specs.declared.words.Access.TheVariants.{Index}
use Rattle.ft_keys.specs.Accesses.{Follows, index_loads}
use Rattle.ft_keys.specs.WalkCosts.{most_loads, NeverUsed, StaysUsed}
use Rattle.ft_keys.specs.Ways.{walk_slots}
use Rattle.ft_keys.proofs.Bounds.{bounded}
use Rattle.ft_keys.proofs.Reaching.{walk-within}
use Rattle.ft_bank.specs.declared.pass.Pass.{Pass}
use Rattle.ft_bank.specs.Passes.{shape_of, view}
use Rattle.ft_bank.specs.Series.{DidAll, noted_all}
use Rattle.ft_bank.specs.TableNames.{table_id}
use Rattle.ft_search.specs.declared.words.TableWords.{TableWords}
use Rattle.ft_search.specs.declared.looks.Looked.{Looked}
use Rattle.ft_search.specs.declared.rounds.Round.{Round}
use Rattle.ft_search.specs.SearchCosts.{index_reads, indexed, LoadsNoIndex, IsRound, LoadsRounds, WalksOn, MayWalkOn, SpendsSearch, SpendsRound}
use Rattle.ft_trace.specs.LoggedLookUps.{Online}
use Rattle.ft_search.specs.Rounds.{kind_by}
use Rattle.ft_search.specs.TableWords.{CanLoad}
use Rattle.ft_search.proofs.Bounding.{count_is, index_here, index_other, index_past, index_entry, none_append, may_more}
use Rattle.ft_search.proofs.WordPlaces.{slots_is, slots_of_class}
use Rattle.ft_search.proofs.LookSteps.{online_append}
use Rattle.ft_search.proofs.Running.{did_trans, did_log}
use Rattle.ft_search.proofs.IndexWordsStay.{slots_stay}

-- ---- one search on the walk

pub versions_none : (t place a b : ℕ) → LoadsNoIndex (ReadTable t (entry_offset (slots (class_of t)) place 0) b ∷ (ReadTable t (entry_offset (slots (class_of t)) place 0) a ∷ []))
versions_none t place a b u = index_entry u t place 0 b (ReadTable t (entry_offset (slots (class_of t)) place 0) a ∷ []) ∙ index_entry u t place 0 a []

pub version_none : (t place a : ℕ) → LoadsNoIndex (ReadTable t (entry_offset (slots (class_of t)) place 0) a ∷ [])
version_none t place a u = index_entry u t place 0 a []

-- a search that loaded more after what it had loaded
pub spends_on : (t : ℕ) (walk : List ℕ) (a earlier : List Act) (left : List ℕ) (result : Option Looked) (p q r : Pass) → DidAll a p q → SpendsSearch t walk (a ++ earlier) left result q r → SpendsSearch t walk earlier left result p r
spends_on t walk a earlier left result p q r did h =
    let same = append_assoc h.0 a earlier in (
      h.0 ++ a,
      did_trans h.0 a p q r did h.1,
      (h.2.0, subst (λ (z : List Act). WalksOn t walk z h.2.0) (sym same) h.2.1),
      λ none. subst (λ (z : List Act). MayWalkOn t walk z left) (sym same) (h.3 none),
    )

-- other words were loaded after a slot that was used
pub spent_slot : (t : ℕ) (walk : List ℕ) (more earlier : List Act) (left : List ℕ) (result : Option Looked) (p q : Pass) → LoadsNoIndex more → DidAll more p q → MayWalkOn t walk earlier left → SpendsSearch t walk earlier left result p q
spent_slot t walk more earlier left result p q none did may =
    let after = may_more t walk more earlier left none may in
    (more, did, (left, after.0), λ _. after)

-- ---- the loads of one round

-- of one load what is known if it is of an index word, and if it isn't
counted_or : (t u i f : ℕ) (acts : List Act) (P : List Access → Type 0) → (u ≡ t → i < slots (class_of t) → P (Index i f ∷ indexed t acts)) → P (indexed t acts) → P (indexed t (ReadTable u i f ∷ acts))
counted_or t u i f acts P mine other =
    dite (ℕ_discrete u t)
    (λ (e : u ≡ t).
    dite (dec_lt i (slots (class_of t)))
    (λ (low : i < slots (class_of t)). subst (λ (z : ℕ). P (indexed t (ReadTable z i f ∷ acts))) (sym e) (subst P (sym (index_here t i f acts low)) (mine e low)))
    (λ high. subst P (sym (index_past t u i f acts (subst (λ (z : ℕ). slots (class_of z) ≤ i) (sym e) (let z : slots (class_of t) ≤ i = omega (arith, high) in z)))) other))
    (λ ne. subst P (sym (index_other t u i f acts ne)) other)

module _ (v : View) (possible : ∥ IsReachable v ∥₁) (o t : ℕ) (keyed : IsKeyed (kind_in v.shape.starts o)) (rest : List Act) where
  abbrev base : List Act
  base = ReadRoot o (suc t) ∷ rest

  moved_by : (mid : List Act) (a : Act) (part : List Act) → mid ++ ((a ∷ part) ++ base) ≡ (mid ++ a ∷ []) ++ (part ++ base)
  moved_by mid a part = sym (append_assoc mid (a ∷ []) (part ++ base))

  -- a slot that is found never used was not found used before
  never_used : (slot : ℕ) → slot < slots (class_of t) → (newer mid part : List Act) → v.log ≡ newer ++ ReadTable t slot 0 ∷ (mid ++ (part ++ base)) → Online mid → Online part → NeverUsed slot (indexed t part)
  never_used slot low newer mid [] log on q = tt
  never_used slot low newer mid (ReadTable u i f ∷ part) log on q =
      let log' = log ∙ ap (λ (z : List Act). newer ++ ReadTable t slot 0 ∷ z) (moved_by mid (ReadTable u i f) part) in
      let more = never_used slot low newer (mid ++ ReadTable u i f ∷ []) part log' (online_append mid (ReadTable u i f ∷ []) on tt) q in
      counted_or t u i f part (NeverUsed slot) (λ e small. by f e log more) more
    where
      by : (f : ℕ) → u ≡ t → v.log ≡ newer ++ ReadTable t slot 0 ∷ (mid ++ ((ReadTable u i f ∷ part) ++ base)) → NeverUsed slot (indexed t part) → NeverUsed slot (Index i f ∷ indexed t part)
      by zero e log more = more
      by (suc x) e log more = (
        λ (same : i ≡ slot).
            let log' : v.log ≡ newer ++ ReadTable t slot 0 ∷ (mid ++ ReadTable t slot (suc x) ∷ (part ++ base)) = log ∙ (λ d. newer ++ ReadTable t slot 0 ∷ (mid ++ ReadTable (e d) (same d) (suc x) ∷ (part ++ base))) in
            let z : 0 ≡ suc x = slots_stay v possible o t slot 0 x newer mid part rest keyed low log' on q in
            absurd (omega (arith, z)),
        more,
      )
  never_used slot low newer mid (Announce p f ∷ part) log on q = absurd q
  never_used slot low newer mid (act ∷ part) log on q =
      never_used slot low newer (mid ++ act ∷ []) part (log ∙ ap (λ (z : List Act). newer ++ ReadTable t slot 0 ∷ z) (moved_by mid act part)) (online_append mid (act ∷ []) on tt) q

  -- index words, once not 0, stay so
  pub stay_used : (newer part : List Act) → v.log ≡ newer ++ (part ++ base) → Online part → StaysUsed (indexed t part)
  stay_used newer [] log q = tt
  stay_used newer (ReadTable u i f ∷ part) log q =
      let more = stay_used (newer ++ ReadTable u i f ∷ []) part (log ∙ sym (append_assoc newer (ReadTable u i f ∷ []) (part ++ base))) q in
      counted_or t u i f part StaysUsed (λ e small. by f e small log more) more
    where
      by : (f : ℕ) → u ≡ t → i < slots (class_of t) → v.log ≡ newer ++ ((ReadTable u i f ∷ part) ++ base) → StaysUsed (indexed t part) → StaysUsed (Index i f ∷ indexed t part)
      by zero e small log more = (never_used i small newer [] part (log ∙ ap (λ (z : ℕ). newer ++ ReadTable z i 0 ∷ (part ++ base)) e) tt q, more)
      by (suc x) e small log more = more
  stay_used newer (Announce p f ∷ part) log q = absurd q
  stay_used newer (act ∷ part) log q = stay_used (newer ++ act ∷ []) part (log ∙ sym (append_assoc newer (act ∷ []) (part ++ base))) q

pub kind_keyed : (way : Way) (kind : Kind) → kind ≡ kind_by way → IsKeyed kind
kind_keyed way.Dict kind is = subst IsKeyed (sym is) tt
kind_keyed way.Set kind is = subst IsKeyed (sym is) tt

-- the slots of a walk are some of the table's
-- what a pass does leaves its bank's shape
noted_shape : (acts : List Act) (p q : Pass) → DidAll acts p q → (view q).shape ≡ (view p).shape
noted_shape acts p q did = ap (λ (z : View). z.shape) did.1 ∙ kept acts (view p)
  where
    kept : (acts : List Act) (v : View) → (noted_all acts v).shape ≡ v.shape
    kept [] v = refl
    kept (a ∷ acts) v = kept acts v

pub walk_low : (way : Way) (hash mask n : ℕ) (walk : List ℕ) → walk ≡ walk_slots way hash mask → n ≡ mask + 1 → All (λ slot. slot < n) walk
walk_low way hash mask n walk is many =
    subst (All (λ slot. slot < n)) (sym is) (All-weaker (λ slot. slot ≤ mask) (λ slot. slot < n) (λ slot low. omega (arith, low, many)) (walk_slots way hash mask) (walk-within way hash mask))

-- what two ways tell that a pass did is the same
pub one_part : (a b : List Act) (p q : Pass) → DidAll a p q → DidAll b p q → a ≡ b
one_part a b p q x y = append_cancel_right a b (view p).log (sym (did_log a p q x) ∙ did_log b p q y)

cons_same : (a : Act) (x y : List Act) → a ∷ x ≡ a ∷ y → x ≡ y
cons_same a x y e = cc

pub one_round : (o r : ℕ) (a b : List Act) (p q : Pass) → DidAll (ReadRoot o r ∷ a) p q → DidAll (ReadRoot o r ∷ b) p q → a ≡ b
one_round o r a b p q x y = cons_same (ReadRoot o r) a b (one_part (ReadRoot o r ∷ a) (ReadRoot o r ∷ b) p q x y)

no_reads : (t : ℕ) (acts : List Act) → indexed t acts ≡ [] → index_reads t acts ≡ 0
no_reads t acts none = count_is t acts ∙ ap index_loads none

-- the loads of a walk in the table that the root named
pub walk_round : (v : View) → ∥ IsReachable v ∥₁ → (o t : ℕ) (way : Way) (hash mask : ℕ) (walk left : List ℕ) (part rest : List Act) → kind_in v.shape.starts o ≡ kind_by way → walk ≡ walk_slots way hash mask → slots (class_of t) ≡ mask + 1
    → v.log ≡ part ++ ReadRoot o (suc t) ∷ rest → Online part → WalksOn t walk part left → IsRound way (suc t) part
walk_round v possible o t way hash mask walk left part rest kind is last log online on =
    let keyed = kind_keyed way (kind_in v.shape.starts o) kind in
    let stays = stay_used v possible o t keyed rest [] part log online in
    let c = slots_of_class (class_of t) in
    let same : mask ≡ class_mask (class_of t) = omega (arith, c, last) in
    let few : index_loads (indexed t part) ≤ most_loads way mask = bounded way hash mask (indexed t part) left (subst (λ (z : List ℕ). Follows z (indexed t part) left) is on.follows) stays on.once in
    let most : most_loads way mask ≡ most_loads way (class_mask (class_of t)) = ap (most_loads way) same in
    let count = count_is t part in
    let here : index_reads t part ≤ most_loads way (class_mask (class_of t)) = omega (arith, few, most, count) in (
      λ u.
          dite (ℕ_discrete u t)
          (λ (e : u ≡ t). subst (λ (z : ℕ). index_reads z part ≤ most_loads way (class_mask (class_of z))) (sym e) here)
          (λ ne. let none = no_reads u part (on.others u ne) in omega (arith, none)),
      λ u ne. no_reads u part (on.others u (λ e. ne (ap suc (sym e)))),
    )

-- loads of other words beside them
pub round_more : (way : Way) (root : ℕ) (more part : List Act) → LoadsNoIndex more → IsRound way root part → IsRound way root (more ++ part)
round_more way root more part none h =
    let same : (u : ℕ) → index_reads u (more ++ part) ≡ index_reads u part = λ u. count_is u (more ++ part) ∙ (ap index_loads (none_append more part none u) ∙ sym (count_is u part)) in
    (λ u. let s = same u in let few = h.0 u in omega (arith, s, few), λ u ne. same u ∙ h.1 u ne)

-- no index word at all
pub none_round : (way : Way) (root : ℕ) (acts : List Act) → LoadsNoIndex acts → IsRound way root acts
none_round way root acts none = (λ u. let n = no_reads u acts (none u) in omega (arith, n), λ u ne. no_reads u acts (none u))

-- ---- a round at whatever the root was

pub at_root : (way : Way) (o root named : ℕ) (p q : Pass) (r : Round) → root ≡ named → SpendsRound way o named p q r → SpendsRound way o root p q r
at_root way o root named p q r is s = subst (λ (z : ℕ). SpendsRound way o z p q r) (sym is) s

-- ---- one round after the other

-- what was not found in a root was not found by the last loads
pub own_reads : (t : ℕ) (acts rest : List Act) → Online acts → reads t (acts ++ rest) ≡ false → reads t acts ≡ false
own_reads t [] rest q none = refl
own_reads t (ReadRoot o f ∷ acts) rest q none = by (f == suc t) none (own_reads t acts rest q)
  where
    by : (b : Bool) → cond b true (reads t (acts ++ rest)) ≡ false → (reads t (acts ++ rest) ≡ false → reads t acts ≡ false) → cond b true (reads t acts) ≡ false
    by true e more = absurd (cc)
    by false e more = more e
own_reads t (Announce p f ∷ acts) rest q none = absurd q
own_reads t (act ∷ acts) rest q none = own_reads t acts rest q none

-- ---- a walk over the words of a table that the root named

-- the round is known in two ways: by what it shows, and by what it spends
pub searched_round : (s0 s1 : TableWords) (way : Way) (hash root : ℕ) (walk left : List ℕ) (part spent rest : List Act) → CanLoad s0 → CanLoad s1 → kind_in (shape_of s0.bank.now).starts s0.o ≡ kind_by way → root ≡ suc (table_id s0.table)
    → walk ≡ walk_slots way hash s0.mask → (view s0.pass.now).log ≡ ReadRoot s0.o root ∷ rest → Online part → DidAll part s0.pass.now s1.pass.now → DidAll spent s0.pass.now s1.pass.now → WalksOn (table_id s0.table) walk spent left → IsRound way root part
searched_round s0 s1 way hash root walk left part spent rest can now kind named is last online did did_spent on =
    let t = table_id s0.table in
    let k = shape_of s0.bank.now in
    let p = s0.pass.now in
    let q = s1.pass.now in
    let same : spent ≡ part = one_part spent part p q did_spent did in
    let shape : (view q).shape ≡ k = noted_shape part p q did ∙ can.pass.1 in
    let kind_here : kind_in (view q).shape.starts s0.o ≡ kind_by way = ap (λ (z : Shape). kind_in z.starts s0.o) shape ∙ kind in
    let log : (view q).log ≡ part ++ ReadRoot s0.o (suc t) ∷ rest = did_log part p q did ∙ (ap (λ (z : List Act). part ++ z) last ∙ ap (λ (z : ℕ). part ++ ReadRoot s0.o z ∷ rest) named) in
    subst (λ (z : ℕ). IsRound way z part) (sym named)
    (walk_round (view q) q.possible s0.o t way hash s0.mask walk left part rest kind_here is (slots_is k s0.table s0.mask can.table can.mask) log online (subst (λ (z : List Act). WalksOn t walk z left) same on))

-- the entry of the call loads nothing
pub rounds_answered : (way : Way) (o : ℕ) (v w z : View) (called : Call) (said : Reply) (number : ℕ) → z ≡ view_after (Answer called said number) w → LoadsRounds way o v w → LoadsRounds way o v z
rounds_answered way o v w z called said number is h =
    let r = h.2 in
    let answer : List Act = Answer called said number ∷ [] in (
      answer ++ h.0,
      ap (λ (x : View). x.log) is ∙ ap (λ (l : List Act). answer ++ l) h.1,
      record { moved = r.moved; root = r.root; earlier = r.earlier; rounds = r.rounds; last = answer ++ r.last; few = round_more way r.root answer r.last (λ u. refl) r.few; is = ap (λ (l : List Act). answer ++ l) r.is },
    )
