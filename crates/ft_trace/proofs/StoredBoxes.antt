-- Which boxes a write of their maker has stored: those that a container names, or that a pass shares with their maker.
use Rattle.std.proofs.Common.{◌≡◌, ◌≢◌, ◌⊎◌, ℕ, zero, suc, eqb, ◌+◌, ◌-◌, ◌%◌, ◌^◌, ◌<◌, ◌≤◌, Bool, true, false, cond, List, [], ◌∷◌, ◌++◌, set, refl, sym, ap, ◌∙◌, subst, inl, inr, ⊎_elim, arith, get_or-set_other, get_or-set_same}
use Rattle.std.specs.Prelude.{slice_index, slice_set}
use mathlib.Core.Option.{some, some-injective}
use mathlib.Core.Logic.{dite}
use native.Mathlib.Decide.{ℕ_discrete}
use lib.ListN.{get_elem?}
use Rattle.atomic_table.proofs.Lists.{set_else, at_longer}
use Rattle.ft_model.specs.declared.script.Kind.{Kind}
use Rattle.ft_trace.specs.declared.Shape.{Shape}
use Rattle.ft_trace.specs.declared.View.{View}
use Rattle.ft_trace.specs.declared.Act.{Act}
use Rattle.ft_trace.specs.declared.Act.TheVariants.{StartWrite, PutTable, PutRoot, TakeTable, GiveTable, Retire, Commit, StopWrite, TakePlace, PublishBox, RaiseLocal, DropLocal, MergeCounts, RaiseShared, RaiseKept, DropShared, GivePlace}
use Rattle.ft_trace.specs.Bits.{bit}
use Rattle.ft_trace.specs.Addresses.{block, maker_of, place_bit_of, free_bit_of, container_count, class_of, IsTableName}
use Rattle.ft_trace.specs.Acts.{has_lock, is_writing, has_committed, mem, starter, view_after, maker, made, both, spent, sender, note}
use Rattle.ft_trace.specs.ContainerStates.{kind_in}
use Rattle.ft_trace.specs.Ages.{aged, age, whose}
use Rattle.ft_trace.specs.Pictures.{root_of, inner}
use Rattle.ft_trace.specs.Kinds.{rows, version_at}
use Rattle.ft_trace.specs.Boxes.{value_at, named_in_root, named_in_container, names_box_at, made_state, place_to_give, place_use, place_use_next, references_held, KeepsBox}
use Rattle.ft_trace.specs.BoxTraces.{box_state, was_stored, making_box, has_in_default, references_held_by, place_to_give_by, references}
use Rattle.ft_trace.specs.SeenBoxes.{SawBox}
use Rattle.ft_trace.specs.Traces.{Event, did, forked, joined, sent, run, history, May, TimelyFor, Valid}
use Rattle.ft_trace.specs.NumberPlaces.{top}
use Rattle.ft_trace.proofs.Addresses.{block_first}
use Rattle.ft_trace.proofs.Cases.{hit, miss, here, off, not_true}
use Rattle.ft_trace.proofs.Sizes.{set_at, set_views, one_more, one_view}
use Rattle.ft_trace.proofs.Sums.{sum_at, total_at}
use Rattle.ft_trace.proofs.Seats.{seated, same_seat}
use Rattle.ft_trace.proofs.Locks.{one_holder}
use Rattle.ft_trace.proofs.OddVersions.{writer_has}
use Rattle.ft_trace.proofs.OneWord.{moves, stays}
use Rattle.ft_trace.proofs.TablePlaces.{root, on_root, on_table, root_table, placed}
use Rattle.ft_trace.proofs.Contents.{tab}
use Rattle.ft_trace.proofs.Pieces.{table_long}
use Rattle.ft_trace.proofs.Sounds.{LaterIn, later_one, on_cells, put_tab}
use Rattle.ft_trace.proofs.QuietEntries.{SameRow, later_row}
use Rattle.ft_trace.proofs.Rests.{rests}
use Rattle.ft_trace.proofs.NamedBoxes.{unnamed_in, else_table, else_root, named_known, named_low}
use Rattle.ft_trace.proofs.Unboxed.{named_row}
use Rattle.ft_trace.proofs.Boxed.{boxed}

-- ---- the place of a box in a pass's own log

pub either_true : (x y : Bool) → y ≡ true → cond x true y ≡ true
either_true true y e = refl
either_true false y e = e

pub two_conds : (x y : Bool) (n : ℕ) → cond x (cond y n n) n ≡ n
two_conds true true n = refl
two_conds true false n = refl
two_conds false y n = refl

one_cond : (x : Bool) (n : ℕ) → cond x n n ≡ n
one_cond true n = refl
one_cond false n = refl

-- the action doesn't give back the place of b
abbrev IsNotGive : ℕ → Act → Type 0
IsNotGive b (GivePlace c) = c ≢ b
IsNotGive b act = Unit {0}

-- a place that was taken stays so, or is stored then
use_then : (b : ℕ) (a : Act) → IsNotGive b a → (place_use_next b a 1 ≡ 1) ⊎ (place_use_next b a 1 ≡ 2)
use_then b (TakePlace c f) ne = inl (two_conds (eqb c b) (eqb (bit (place_bit_of c) f) 1) 1)
use_then b (Commit c r f s) ne = inr refl
use_then b (GivePlace c) ne = inl (miss c b 0 1 ne)
use_then b act ne = inl refl

-- a place that was stored stays so
stored_then : (b : ℕ) (a : Act) → place_use_next b a 2 ≡ 2
stored_then b (TakePlace c f) = two_conds (eqb c b) (eqb (bit (place_bit_of c) f) 1) 2
stored_then b (Commit c r f s) = refl
stored_then b (GivePlace c) = one_cond (eqb c b) 2
stored_then b act = refl

-- ---- who knows of a box

-- a write has stored it, or the pass has taken its place
abbrev pub Claims : ℕ → List Event → View → Type 0
Claims b es u = (was_stored b es ≡ true) ⊎ (place_use b u.log ≡ 1)

-- what holds of a pass that has to do with the box
pub record Claimed (k : Shape) (b : ℕ) (es : List Event) (u : View) : Type 0 where
  pub held : references_held k b u.log ≢ 0 → Claims b es u
  pub making : made_state b u.log ≡ 1 → Claims b es u
  pub default : made_state b u.log ≡ 2 → Claims b es u
  pub gives : place_to_give b u.log ≢ 0 → Claims b es u
  pub after : (o : ℕ) → is_writing o u.log ≡ true → has_committed o u.log ≡ true → place_use b u.log ≢ 1
  pub maker : place_use b u.log ≢ 0 → u.number ≡ suc (maker_of b)
  pub stored : place_use b u.log ≡ 2 → was_stored b es ≡ true

-- a pass that writes o, hasn't committed, and has taken the place
abbrev WritesIn : ℕ → List View → ℕ → Type 0
WritesIn b views o =
    (j : ℕ) × (u : View) × (get_elem? views j ≡ some u) × (is_writing o u.log ≡ true) × (has_committed o u.log ≡ false)
    × (place_use b u.log ≡ 1)

abbrev pub Writes : Shape → ℕ → List Event → ℕ → Type 0
Writes k b es o = WritesIn b (run k es).views o

-- the container whose root named the table last
abbrev home_next : Act → ℕ → ℕ → ℕ
home_next (PutRoot o r from) t h = cond (eqb r (suc t)) o h
home_next act t h = h

abbrev pub home : List Event → ℕ → ℕ
home [] t = 0
home (did id v a ∷ es) t = home_next a t (home es t)
home (forked id v ∷ es) t = home es t
home (joined id v other w ∷ es) t = home es t
home (sent id v given ∷ es) t = home es t

-- the box stands in the value of a row whose version is even, of a table that stands in the root of o, or has stood there
-- and hasn't been free since
abbrev pub StandsIn : Shape → ℕ → List Event → ℕ → ℕ → ℕ → Type 0
StandsIn k b es o t p =
    IsTableName k t
    × (p < rows (kind_in k.starts o) (class_of t))
    × (slice_index (tab k es t) (version_at (kind_in k.starts o) (class_of t) p) % 2 ≡ 0)
    × (slice_index (tab k es t) (value_at (kind_in k.starts o) (class_of t) p) ≡ 4)
    × (slice_index (tab k es t) (suc (value_at (kind_in k.starts o) (class_of t) p)) ≡ b)
    × (home es t ≡ o)
    × (2 ≤ age es t % 5)

pub record Stored (k : Shape) (b : ℕ) (es : List Event) : Type 0 where
  pub views : (j : ℕ) (u : View) → get_elem? (run k es).views j ≡ some u → Claimed k b es u
  pub named : (o : ℕ) → o < container_count k → named_in_container k b o (run k es).words ≢ 0 → (was_stored b es ≡ true) ⊎ Writes k b es o
  pub rows : (o t p : ℕ) → o < container_count k → StandsIn k b es o t p → was_stored b es ≡ true
  pub number : was_stored b es ≡ true → suc (maker_of b) < top es
  pub mine : (j : ℕ) (u : View) → get_elem? (run k es).views j ≡ some u → u.number ≡ suc (maker_of b) → was_stored b es ≡ true → place_use b u.log ≡ 2

-- a value that names the box is one of those that its container names
pub row_names : (k : Shape) (b : ℕ) (es : List Event) (o t p : ℕ) → root k es o ≡ suc t → p < rows (kind_in k.starts o) (class_of t) → slice_index (tab k es t) (value_at (kind_in k.starts o) (class_of t) p) ≡ 4 → slice_index (tab k es t) (suc (value_at (kind_in k.starts o) (class_of t) p)) ≡ b → named_in_container k b o (run k es).words ≢ 0
row_names k b es o t p names less four is z =
    let kd : Kind = kind_in k.starts o in
    let table : List ℕ = tab k es t in
    let one = named_row b kd (class_of t) table p four is in
    let s = sum_at (names_box_at b kd (class_of t) table) (rows kd (class_of t)) p less in
    let r : named_in_container k b o (run k es).words ≡ named_in_root b kd (suc t) table = ap (λ (x : ℕ). named_in_root b kd x (inner k x (run k es).words)) names in
    absurd (omega (arith, one, s, r, z))

-- a table that has stood in a root comes to no other before it is free
pub home_keeps : (k : Shape) (es : List Event) (id : ℕ) (v : View) → Valid k es → get_elem? (run k es).views id ≡ some v → (t : ℕ) → IsTableName k t → 2 ≤ age es t % 5 → (a : Act) → May k (run k es) (history es) v a → home (did id v a ∷ es) t ≡ home es t
home_keeps k es id v valid at t table up (PutRoot o r from) may =
    dite (ℕ_discrete r (suc t))
    (λ (e : r ≡ suc t).
    let one = (may.3 t e).1 in
    let fresh = ((placed k es valid t table).hands id v at (λ z. absurd (omega (arith, z, one)))).0 in
    absurd (omega (arith, fresh, one, up)))
    (λ ne. miss r (suc t) o (home es t) ne)
home_keeps k es id v valid at t table up act may = refl

-- what a root names stands there last
pub home_root : (k : Shape) (es : List Event) → Valid k es → (o t : ℕ) → o < container_count k → root k es o ≡ suc t → home es t ≡ o
home_root k [] valid o t low names = let z : root k [] o ≡ 0 = block_first k o 0 low (omega arith) in absurd (omega (arith, z, names))
home_root k (did id v a ∷ es) valid o t low names =
    on_root k es id v o low (λ c. Valid k (did id v c ∷ es) → root k (did id v c ∷ es) o ≡ suc t → home (did id v c ∷ es) t ≡ o)
    (λ r from ok now. here r (suc t) o (home es t) (sym (moves k es id v (PutRoot o r from) ok.1.3) ∙ now))
    (λ c stay ok now.
    let before : root k es o ≡ suc t = sym (stay ok.1.3) ∙ now in
    let table = root_table k es valid.0 o low t before in
    let two = ((placed k es valid.0 t table).roots o low before).0 in
    home_keeps k es id v valid.0 valid.1.0 t table (omega (arith, two)) c ok.1.3 ∙ home_root k es valid.0 o t low before)
    a valid names
home_root k (forked id v ∷ es) valid o t low names = home_root k es valid.0 o t low names
home_root k (sent id v given ∷ es) valid o t low names = home_root k es valid.0 o t low names
home_root k (joined id v other w ∷ es) valid o t low names = home_root k es valid.0 o t low names

pub same_row : (kind : Kind) (class p : ℕ) (ws zs : List ℕ) → zs ≡ ws → SameRow kind class p ws zs
same_row kind class p ws zs e = record {
  up = let s = ap (λ (l : List ℕ). slice_index l (version_at kind class p)) e in omega (arith, s);
  kind_is = λ _ _. ap (λ (l : List ℕ). slice_index l (value_at kind class p)) e;
  payload_is = λ _ _. ap (λ (l : List ℕ). slice_index l (suc (value_at kind class p))) e;
}

-- a value of a table that has stood in the root of o stays while its version does, also when the table has left the root
pub row_step : (k : Shape) (es : List Event) (e : Event) → Valid k (e ∷ es) → (o t p : ℕ) → IsTableName k t → 2 ≤ age es t % 5 → home es t ≡ o → p < rows (kind_in k.starts o) (class_of t) → SameRow (kind_in k.starts o) (class_of t) p (tab k es t) (tab k (e ∷ es) t)
row_step k es e valid o t p table up home_is less =
    dite (ℕ_discrete (age es t % 5) 2)
    (λ (two : age es t % 5 ≡ 2).
    let current = (placed k es valid.0 t table).current two in
    let is : whose es t ≡ o = sym (home_root k es valid.0 (whose es t) t current.0 current.1) ∙ home_is in
    later_row (kind_in k.starts o) (class_of t) p (tab k es t) (tab k (e ∷ es) t) (subst (λ (z : ℕ). LaterIn k z t (tab k es t) (tab k (e ∷ es) t)) is (later_one k es e valid t table two)) less)
    (λ ne. same_row (kind_in k.starts o) (class_of t) p (tab k es t) (tab k (e ∷ es) t) (rests k es e valid t table (λ z. absurd (omega (arith, z, up))) ne))

-- one writes at a time
same_writer : (k : Shape) (es : List Event) → Valid k es → (o : ℕ) → o < container_count k → (j id : ℕ) (u v : View) → get_elem? (run k es).views j ≡ some u → get_elem? (run k es).views id ≡ some v → is_writing o u.log ≡ true → has_lock o v.log ≡ true → u ≡ v
same_writer k es valid o low j id u v there at writes locked =
    let e = one_holder k es valid o low j id u v there at (writer_has k es valid o j u there writes) locked in
    some-injective u v (sym there ∙ (ap (get_elem? (run k es).views) e ∙ at))

module _ (k : Shape) (b : ℕ) (es : List Event) (id : ℕ) (v : View) (valid : Valid k es) (at : get_elem? (run k es).views id ≡ some v) (old : Stored k b es) where
  abbrev Now : Act → List Event
  Now a = did id v a ∷ es

  abbrev Mine : Act → View
  Mine a = view_after a v

  abbrev Ok : Act → Type 0
  Ok a = Valid k (did id v a ∷ es)

  there : (a : Act) → get_elem? (run k (Now a)).views id ≡ some (Mine a)
  there a = set_at (run k es).views id v (view_after a v) at

  was : Claimed k b es v
  was = old.views id v at

  stays_stored : (a : Act) → was_stored b es ≡ true → was_stored b (Now a) ≡ true
  stays_stored a e = either_true (eqb (place_use b (a ∷ v.log)) 2) (was_stored b es) e

  -- the pass has stored it by this action
  stored_now : (a : Act) → place_use b (a ∷ v.log) ≡ 2 → was_stored b (Now a) ≡ true
  stored_now a e = here (place_use b (a ∷ v.log)) 2 true (was_stored b es) e

  claims_by : (a : Act) → (place_use_next b a 1 ≡ 1) ⊎ (place_use_next b a 1 ≡ 2) → place_use b v.log ≡ 1 → Claims b (Now a) (Mine a)
  claims_by a (inl one) e = inr (ap (place_use_next b a) e ∙ one)
  claims_by a (inr two) e = inl (stored_now a (ap (place_use_next b a) e ∙ two))

  claims : (a : Act) → IsNotGive b a → Claims b es v → Claims b (Now a) (Mine a)
  claims a apart claim = ⊎_elim (λ (e : was_stored b es ≡ true). inl (stays_stored a e)) (claims_by a (use_then b a apart)) claim

  -- where the place is given back the box has no reference, and was merged
  given : (c : ℕ) → c ≡ b → Ok (GivePlace c) → (references k b es ≡ 0) × (box_state b es ≡ 3)
  given c is ok =
      let all = (boxed k b es valid).counts in
      let one = subst (λ (z : ℕ). place_to_give z v.log ≡ 1) is ok.1.3.1 in
      let some_ = total_at (place_to_give_by b) (run k es).views id v at in (
        dite (ℕ_discrete (references k b es) 0) (λ (z : references k b es ≡ 0). z) (λ ne. let none = all.more ne in absurd (omega (arith, none, one, some_))),
        dite (ℕ_discrete (box_state b es) 3) (λ (z : box_state b es ≡ 3). z) (λ ne. let none = all.live ne in absurd (omega (arith, none, one, some_))),
      )

  none_held : references k b es ≡ 0 → references_held k b v.log ≡ 0
  none_held none = let some_ = total_at (references_held_by k b) (run k es).views id v at in omega (arith, some_, none)

  not_making : box_state b es ≡ 3 → made_state b v.log ≢ 1
  not_making is e =
      let all = (boxed k b es valid).counts in
      let one = total_at (making_box b) (run k es).views id v at in
      let x : making_box b v ≡ 1 = here (made_state b v.log) 1 1 0 e in
      let n = all.unmade (λ z. absurd (omega (arith, z, is))) in
      absurd (omega (arith, x, n, one))

  not_default : box_state b es ≡ 3 → made_state b v.log ≢ 2
  not_default is e =
      let all = (boxed k b es valid).counts in
      let one = total_at (has_in_default b) (run k es).views id v at in
      let x : has_in_default b v ≡ 1 = here (made_state b v.log) 2 1 0 e in
      let n = all.other (λ z. absurd (omega (arith, z, is))) in
      absurd (omega (arith, x, n, one))

  -- what a container names that the pass writes
  named_claims : (o : ℕ) → o < container_count k → has_lock o v.log ≡ true → named_in_container k b o (run k es).words ≢ 0 → Claims b es v
  named_claims o low locked some_ =
      ⊎_elim (λ (e : was_stored b es ≡ true). inl e)
      (λ (w : Writes k b es o). inr (subst (λ (z : View). place_use b z.log ≡ 1) (same_writer k es valid o low w.0 id w.1 v w.2 at w.3 locked) w.5))
      (old.named o low some_)

  -- ---- what the pass has to do with the box after the action

  -- a put that changes what words name
  put_claims : (a : Act) → IsNotGive b a → (o : ℕ) → o < container_count k → has_lock o v.log ≡ true → references_held k b (a ∷ v.log) ≡ references_held k b v.log + named_in_container k b o (mem k v.log) - named_in_container k b o (mem k (a ∷ v.log)) → references_held k b (a ∷ v.log) ≢ 0 → Claims b (Now a) (Mine a)
  put_claims a apart o low locked is some_ =
      claims a apart
      (dite (ℕ_discrete (references_held k b v.log) 0)
      (λ (none : references_held k b v.log ≡ 0).
      let known = named_known k es valid id v at b o low locked in
      named_claims o low locked (λ z. some_ (omega (arith, is, none, known, z))))
      was.held)

  held : (a : Act) → Ok a → ((c : ℕ) → c ≡ b → SawBox k c v.log → was_stored b es ≡ true) → references_held k b (a ∷ v.log) ≢ 0 → Claims b (Now a) (Mine a)
  held (PutTable o t i x) ok saw n = put_claims (PutTable o t i x) tt o ok.1.3.0 (writer_has k es valid o id v at ok.1.3.3) refl n
  held (PutRoot o r from) ok saw n = put_claims (PutRoot o r from) tt o ok.1.3.0 (writer_has k es valid o id v at ok.1.3.1) refl n
  held (PublishBox c) ok saw n =
      claims (PublishBox c) tt
      (dite (ℕ_discrete c b)
      (λ (e : c ≡ b). was.making (ap (λ (z : ℕ). made_state z v.log) (sym e) ∙ ok.1.3.1))
      (λ ne. was.held (λ z. n (miss c b (references_held k b v.log + 1) (references_held k b v.log) ne ∙ z))))
  held (RaiseLocal c x) ok saw n =
      claims (RaiseLocal c x) tt
      (dite (ℕ_discrete c b)
      (λ (e : c ≡ b). was.default (ap (λ (z : ℕ). made_state z v.log) (sym e) ∙ ok.1.3.1))
      (λ ne. was.held (λ z. n (miss c b (references_held k b v.log + 1) (references_held k b v.log) ne ∙ z))))
  held (DropLocal c x) ok saw n =
      claims (DropLocal c x) tt
      (was.held
      (λ z. n (dite (ℕ_discrete c b)
      (λ (e : c ≡ b). here c b (references_held k b v.log - 1) (references_held k b v.log) e ∙ omega (arith, z))
      (λ ne. miss c b (references_held k b v.log - 1) (references_held k b v.log) ne ∙ z))))
  held (RaiseShared c from f) ok saw n =
      claims (RaiseShared c from f) tt
      (dite (ℕ_discrete c b)
      (λ (e : c ≡ b). inl (saw c e ok.1.3.5))
      (λ ne. was.held (λ z. n (miss c b (cond (eqb f from) (references_held k b v.log + 1) (references_held k b v.log)) (references_held k b v.log) ne ∙ z))))
  held (RaiseKept c f) ok saw n =
      claims (RaiseKept c f) tt
      (dite (ℕ_discrete c b)
      (λ (e : c ≡ b). kept (subst (λ (z : ℕ). KeepsBox k z v.log) e ok.1.3.2))
      (λ ne. was.held (λ z. n (miss c b (references_held k b v.log + 1) (references_held k b v.log) ne ∙ z))))
    where
      kept : KeepsBox k b v.log → Claims b es v
      kept (inl some_) = was.held (λ z. absurd (omega (arith, some_, z)))
      kept (inr h) = let known = named_known k es valid id v at b h.0 h.1 h.2 in let some_ = h.3 in named_claims h.0 h.1 h.2 (λ z. absurd (omega (arith, known, some_, z)))
  held (DropShared c f) ok saw n =
      claims (DropShared c f) tt
      (was.held
      (λ z. n (dite (ℕ_discrete c b)
      (λ (e : c ≡ b). here c b (references_held k b v.log - 1) (references_held k b v.log) e ∙ omega (arith, z))
      (λ ne. miss c b (references_held k b v.log - 1) (references_held k b v.log) ne ∙ z))))
  held (GivePlace c) ok saw n =
      dite (ℕ_discrete c b)
      (λ (e : c ≡ b). absurd (n (none_held (given c e ok).0)))
      (λ ne. claims (GivePlace c) ne (was.held n))
  held act ok saw n = claims act tt (was.held n)

  making : (a : Act) → Ok a → made_state b (a ∷ v.log) ≡ 1 → Claims b (Now a) (Mine a)
  making (TakePlace c f) ok e =
      let a : Act = TakePlace c f in
      let n = place_use b v.log in
      dite (ℕ_discrete c b)
      (λ (is : c ≡ b).
      dite (ℕ_discrete (bit (place_bit_of c) f) 1)
      (λ (one : bit (place_bit_of c) f ≡ 1).
      let use_is : place_use b (a ∷ v.log) ≡ cond (eqb n 2) 2 1 = here c b (cond (eqb (bit (place_bit_of c) f) 1) (cond (eqb n 2) 2 1) n) n is ∙ here (bit (place_bit_of c) f) 1 (cond (eqb n 2) 2 1) n one in
      dite (ℕ_discrete n 2)
      (λ (two : n ≡ 2). inl (stored_now a (use_is ∙ here n 2 2 1 two)))
      (λ ne. inr (use_is ∙ miss n 2 2 1 ne)))
      (λ no.
      let same : made_state b (a ∷ v.log) ≡ made_state b v.log = here c b (cond (eqb (bit (place_bit_of c) f) 1) 1 (made_state b v.log)) (made_state b v.log) is ∙ miss (bit (place_bit_of c) f) 1 1 (made_state b v.log) no in
      claims a tt (was.making (sym same ∙ e))))
      (λ ne. claims a tt (was.making (sym (miss c b (cond (eqb (bit (place_bit_of c) f) 1) 1 (made_state b v.log)) (made_state b v.log) ne) ∙ e)))
  making (PublishBox c) ok e =
      dite (ℕ_discrete c b)
      (λ (is : c ≡ b). let two : made_state b (PublishBox c ∷ v.log) ≡ 2 = here c b 2 (made_state b v.log) is in absurd (omega (arith, two, e)))
      (λ ne. claims (PublishBox c) tt (was.making (sym (miss c b 2 (made_state b v.log) ne) ∙ e)))
  making (MergeCounts c d f) ok e =
      dite (ℕ_discrete c b)
      (λ (is : c ≡ b). let three : made_state b (MergeCounts c d f ∷ v.log) ≡ 3 = here c b 3 (made_state b v.log) is in absurd (omega (arith, three, e)))
      (λ ne. claims (MergeCounts c d f) tt (was.making (sym (miss c b 3 (made_state b v.log) ne) ∙ e)))
  making (GivePlace c) ok e =
      dite (ℕ_discrete c b)
      (λ (is : c ≡ b). absurd (not_making (given c is ok).1 e))
      (λ ne. claims (GivePlace c) ne (was.making e))
  making act ok e = claims act tt (was.making e)

  default : (a : Act) → Ok a → made_state b (a ∷ v.log) ≡ 2 → Claims b (Now a) (Mine a)
  default (TakePlace c f) ok e =
      let a : Act = TakePlace c f in
      dite (ℕ_discrete c b)
      (λ (is : c ≡ b).
      let by = here c b (cond (eqb (bit (place_bit_of c) f) 1) 1 (made_state b v.log)) (made_state b v.log) is in
      dite (ℕ_discrete (bit (place_bit_of c) f) 1)
      (λ (one : bit (place_bit_of c) f ≡ 1). let x : made_state b (a ∷ v.log) ≡ 1 = by ∙ here (bit (place_bit_of c) f) 1 1 (made_state b v.log) one in absurd (omega (arith, x, e)))
      (λ no. claims a tt (was.default (sym (by ∙ miss (bit (place_bit_of c) f) 1 1 (made_state b v.log) no) ∙ e))))
      (λ ne. claims a tt (was.default (sym (miss c b (cond (eqb (bit (place_bit_of c) f) 1) 1 (made_state b v.log)) (made_state b v.log) ne) ∙ e)))
  default (PublishBox c) ok e =
      dite (ℕ_discrete c b)
      (λ (is : c ≡ b). claims (PublishBox c) tt (was.making (ap (λ (z : ℕ). made_state z v.log) (sym is) ∙ ok.1.3.1)))
      (λ ne. claims (PublishBox c) tt (was.default (sym (miss c b 2 (made_state b v.log) ne) ∙ e)))
  default (MergeCounts c d f) ok e =
      dite (ℕ_discrete c b)
      (λ (is : c ≡ b). let three : made_state b (MergeCounts c d f ∷ v.log) ≡ 3 = here c b 3 (made_state b v.log) is in absurd (omega (arith, three, e)))
      (λ ne. claims (MergeCounts c d f) tt (was.default (sym (miss c b 3 (made_state b v.log) ne) ∙ e)))
  default (GivePlace c) ok e =
      dite (ℕ_discrete c b)
      (λ (is : c ≡ b). absurd (not_default (given c is ok).1 e))
      (λ ne. claims (GivePlace c) ne (was.default e))
  default act ok e = claims act tt (was.default e)

  gives : (a : Act) → Ok a → place_to_give b (a ∷ v.log) ≢ 0 → Claims b (Now a) (Mine a)
  gives (MergeCounts c d f) ok n =
      let g = place_to_give b v.log in
      claims (MergeCounts c d f) tt
      (dite (ℕ_discrete c b)
      (λ (is : c ≡ b). was.default (ap (λ (z : ℕ). made_state z v.log) (sym is) ∙ ok.1.3.1))
      (λ ne. was.gives (λ z. n (miss c b (cond (eqb ((f + d) % 2 ^ 64) 3) 1 g) g ne ∙ z))))
  gives (DropShared c f) ok n =
      let g = place_to_give b v.log in
      claims (DropShared c f) tt
      (dite (ℕ_discrete c b)
      (λ (is : c ≡ b). let some_ = ok.1.3.2 in was.held (λ z. let x : references_held k c v.log ≡ 0 = ap (λ (y : ℕ). references_held k y v.log) is ∙ z in absurd (omega (arith, some_, x))))
      (λ ne. was.gives (λ z. n (miss c b (cond (eqb ((f + (2 ^ 64 - 4)) % 2 ^ 64) 3) 1 g) g ne ∙ z))))
  gives (GivePlace c) ok n =
      dite (ℕ_discrete c b)
      (λ (is : c ≡ b). absurd (n (here c b 0 (place_to_give b v.log) is)))
      (λ ne. claims (GivePlace c) ne (was.gives (λ z. n (miss c b 0 (place_to_give b v.log) ne ∙ z))))
  gives act ok n = claims act tt (was.gives n)

  -- a number that is 1 becomes another
  not_one : (n m : ℕ) → m ≢ 1 → cond (eqb n 1) m n ≢ 1
  not_one n m ne e =
      dite (ℕ_discrete n 1)
      (λ (one : n ≡ 1). ne (sym (here n 1 m n one) ∙ e))
      (λ other. other (sym (miss n 1 m n other) ∙ e))

  after : (a : Act) → Ok a → (o : ℕ) → is_writing o (a ∷ v.log) ≡ true → has_committed o (a ∷ v.log) ≡ true → place_use b (a ∷ v.log) ≢ 1
  after (StartWrite p f) ok o writes done =
      dite (ℕ_discrete p o)
      (λ (e : p ≡ o). off (sym (here p o false (has_committed o v.log) e) ∙ done))
      (λ ne. off (sym (ok.1.3.2 o) ∙ (sym (miss p o true (is_writing o v.log) ne) ∙ writes)))
  after (StopWrite p f) ok o writes done =
      dite (ℕ_discrete p o)
      (λ (e : p ≡ o). off (sym (here p o false (is_writing o v.log) e) ∙ writes))
      (λ ne. was.after o (sym (miss p o false (is_writing o v.log) ne) ∙ writes) done)
  after (TakePlace c f) ok o writes done = off (sym (ok.1.3.4 o) ∙ writes)
  after (Commit c r f s) ok o writes done = not_one (place_use b v.log) 2 (λ z. absurd (omega (arith, z)))
  after (GivePlace c) ok o writes done =
      dite (ℕ_discrete c b)
      (λ (is : c ≡ b) one. not_one (place_use b v.log) 0 (λ z. absurd (omega (arith, z))) (sym (here c b (cond (eqb (place_use b v.log) 1) 0 (place_use b v.log)) (place_use b v.log) is) ∙ one))
      (λ ne one. was.after o writes done (sym (miss c b (cond (eqb (place_use b v.log) 1) 0 (place_use b v.log)) (place_use b v.log) ne) ∙ one))
  after act ok o writes done = was.after o writes done

  some_before : (n m : ℕ) → cond (eqb n 1) m n ≢ 0 → n ≢ 0
  some_before n m ne z = ne (miss n 1 m n (λ e. absurd (omega (arith, e, z))) ∙ z)

  maker_is : (a : Act) → Ok a → place_use b (a ∷ v.log) ≢ 0 → v.number ≡ suc (maker_of b)
  maker_is (TakePlace c f) ok ne =
      let n = place_use b v.log in
      dite (ℕ_discrete c b)
      (λ (is : c ≡ b). ok.1.3.1 ∙ ap (λ (z : ℕ). suc (maker_of z)) is)
      (λ far. was.maker (λ z. ne (miss c b (cond (eqb (bit (place_bit_of c) f) 1) (cond (eqb n 2) 2 1) n) n far ∙ z)))
  maker_is (Commit c r f s) ok ne = was.maker (some_before (place_use b v.log) 2 ne)
  maker_is (GivePlace c) ok ne =
      let n = place_use b v.log in
      was.maker
      (λ z. ne (dite (ℕ_discrete c b)
      (λ (is : c ≡ b). here c b (cond (eqb n 1) 0 n) n is ∙ (miss n 1 0 n (λ e. absurd (omega (arith, e, z))) ∙ z))
      (λ far. miss c b (cond (eqb n 1) 0 n) n far ∙ z)))
  maker_is act ok ne = was.maker ne

  mine_claimed : (a : Act) → Ok a → ((c : ℕ) → c ≡ b → SawBox k c v.log → was_stored b es ≡ true) → Claimed k b (Now a) (Mine a)
  mine_claimed a ok saw = record { held = held a ok saw; making = making a ok; default = default a ok; gives = gives a ok; after = after a ok; maker = maker_is a ok; stored = stored_now a }

  claims_still : (a : Act) (u : View) → Claims b es u → Claims b (Now a) u
  claims_still a u claim = ⊎_elim (λ (e : was_stored b es ≡ true). inl (stays_stored a e)) (λ (e : place_use b u.log ≡ 1). inr e) claim

  others_claimed : (a : Act) (u : View) → Claimed k b es u → Claimed k b (Now a) u
  others_claimed a u c = record {
    held = λ n. claims_still a u (c.held n);
    making = λ e. claims_still a u (c.making e);
    default = λ e. claims_still a u (c.default e);
    gives = λ n. claims_still a u (c.gives n);
    after = c.after;
    maker = c.maker;
    stored = λ e. stays_stored a (c.stored e);
  }

  -- ---- what containers name

  -- what the pass writes it goes on writing, or has stored
  abbrev GoesOn : ℕ → Act → Type 0
  GoesOn o a =
      (was_stored b (Now a) ≡ true)
      ⊎ ((is_writing o (a ∷ v.log) ≡ true) × (has_committed o (a ∷ v.log) ≡ false) × (place_use b (a ∷ v.log) ≡ 1))

  goes_on : (a : Act) → Ok a → (o : ℕ) → o < container_count k → named_in_container k b o (run k es).words ≢ 0 → is_writing o v.log ≡ true → has_committed o v.log ≡ false → place_use b v.log ≡ 1 → GoesOn o a
  goes_on (StartWrite p f) ok o low some_ writes yet one = off (sym (ok.1.3.2 o) ∙ writes)
  goes_on (StopWrite p f) ok o low some_ writes yet one =
      dite (ℕ_discrete p o)
      (λ (e : p ≡ o). off (sym yet ∙ subst (λ (z : ℕ). has_committed z v.log ≡ true) e ok.1.3.2))
      (λ ne. inr (miss p o false (is_writing o v.log) ne ∙ writes, yet, one))
  goes_on (TakePlace c f) ok o low some_ writes yet one = off (sym (ok.1.3.4 o) ∙ writes)
  goes_on (Commit c r f s) ok o low some_ writes yet one = inl (stored_now (Commit c r f s) (here (place_use b v.log) 1 2 (place_use b v.log) one))
  goes_on (GivePlace c) ok o low some_ writes yet one =
      dite (ℕ_discrete c b)
      (λ (is : c ≡ b). let none = (given c is ok).0 in let l = named_low k b o (run k es).words low in absurd (some_ (omega (arith, none, l))))
      (λ ne. inr (writes, yet, miss c b (cond (eqb (place_use b v.log) 1) 0 (place_use b v.log)) (place_use b v.log) ne ∙ one))
  goes_on act ok o low some_ writes yet one = inr (writes, yet, one)

  carried : (a : Act) → Ok a → (o : ℕ) → o < container_count k → named_in_container k b o (run k es).words ≢ 0 → Writes k b es o → (was_stored b (Now a) ≡ true) ⊎ Writes k b (Now a) o
  carried a ok o low some_ w =
      dite (ℕ_discrete w.0 id)
      (λ (e : w.0 ≡ id).
      let is : w.1 ≡ v = some-injective w.1 v (sym w.2 ∙ (ap (get_elem? (run k es).views) e ∙ at)) in
      ⊎_elim (λ (x : was_stored b (Now a) ≡ true). inl x)
      (λ (x : (is_writing o (a ∷ v.log) ≡ true) × (has_committed o (a ∷ v.log) ≡ false) × (place_use b (a ∷ v.log) ≡ 1)). inr (id, Mine a, there a, x.0, x.1, x.2))
      (goes_on a ok o low some_ (subst (λ (z : View). is_writing o z.log ≡ true) is w.3) (subst (λ (z : View). has_committed o z.log ≡ false) is w.4) (subst (λ (z : View). place_use b z.log ≡ 1) is w.5)))
      (λ ne. inr (w.0, w.1, set_else (run k es).views id w.0 (view_after a v) ne ∙ w.2, w.3, w.4, w.5))

  named_still : (a : Act) → Ok a → (o : ℕ) → o < container_count k → named_in_container k b o (run k es).words ≢ 0 → (was_stored b (Now a) ≡ true) ⊎ Writes k b (Now a) o
  named_still a ok o low some_ = ⊎_elim (λ (e : was_stored b es ≡ true). inl (stays_stored a e)) (carried a ok o low some_) (old.named o low some_)

  -- by a put into the container itself
  named_put : (a : Act) → Ok a → IsNotGive b a → (o : ℕ) → o < container_count k → is_writing o v.log ≡ true → is_writing o (a ∷ v.log) ≡ true → has_committed o (a ∷ v.log) ≡ has_committed o v.log → place_use b (a ∷ v.log) ≡ place_use b v.log → named_in_container k b o (mem k (a ∷ v.log)) ≤ references_held k b v.log + named_in_container k b o (mem k v.log) → has_lock o (a ∷ v.log) ≡ true → named_in_container k b o (run k (Now a)).words ≢ 0 → (was_stored b (Now a) ≡ true) ⊎ Writes k b (Now a) o
  named_put a ok apart o low writes still same_commit same_use enough locked some_ =
      let before = named_known k es valid id v at b o low (writer_has k es valid o id v at writes) in
      let now = named_known k (Now a) ok id (Mine a) (there a) b o low locked in
      dite (ℕ_discrete (named_in_container k b o (run k es).words) 0)
      (λ (none : named_in_container k b o (run k es).words ≡ 0).
      let had : references_held k b v.log ≢ 0 = λ z. some_ (omega (arith, enough, before, now, none, z)) in
      ⊎_elim (λ (e : was_stored b es ≡ true). inl (stays_stored a e))
      (λ (one : place_use b v.log ≡ 1).
      let yet : has_committed o v.log ≡ false = not_true (has_committed o v.log) (λ done. was.after o writes done one) in
      inr (id, Mine a, there a, still, same_commit ∙ yet, same_use ∙ one))
      (was.held had))
      (named_still a ok o low)

  named_next : (a : Act) → Ok a → (o : ℕ) → o < container_count k → named_in_container k b o (run k (Now a)).words ≢ 0 → (was_stored b (Now a) ≡ true) ⊎ Writes k b (Now a) o
  named_next (PutTable p t i x) ok o low some_ =
      let a : Act = PutTable p t i x in
      dite (ℕ_discrete o p)
      (λ (e : o ≡ p).
      let may = ok.1.3 in
      let writes : is_writing o v.log ≡ true = subst (λ (z : ℕ). is_writing z v.log ≡ true) (sym e) may.3 in
      named_put a ok tt o low writes writes refl refl (subst (λ (z : ℕ). named_in_container k b z (mem k (a ∷ v.log)) ≤ references_held k b v.log + named_in_container k b z (mem k v.log)) (sym e) (may.7 b).0) (writer_has k es valid o id v at writes) some_)
      (λ ne. named_still a ok o low (λ z. some_ (else_table k es id v valid at b p t i x ok.1.3 o low ne ∙ z)))
  named_next (PutRoot p r from) ok o low some_ =
      let a : Act = PutRoot p r from in
      dite (ℕ_discrete o p)
      (λ (e : o ≡ p).
      let may = ok.1.3 in
      let writes : is_writing o v.log ≡ true = subst (λ (z : ℕ). is_writing z v.log ≡ true) (sym e) may.1 in
      named_put a ok tt o low writes writes refl refl (subst (λ (z : ℕ). named_in_container k b z (mem k (a ∷ v.log)) ≤ references_held k b v.log + named_in_container k b z (mem k v.log)) (sym e) (may.8 b).0) (writer_has k es valid o id v at writes) some_)
      (λ ne. named_still a ok o low (λ z. some_ (else_root k es id v valid at b p r from ok.1.3 o low ne ∙ z)))
  named_next act ok o low some_ = named_still act ok o low (λ z. some_ (unnamed_in k es id v valid at b act (λ e. e) ok.1.3 o low ∙ z))

  -- ---- rows with an even version

  -- the pass doesn't write what it names at this moment, or has stored it
  by_named : (a : Act) → Ok a → (o : ℕ) → o < container_count k → has_lock o (a ∷ v.log) ≡ true → named_in_container k b o (run k (Now a)).words ≢ 0 → (has_committed o (a ∷ v.log) ≡ false → place_use b (a ∷ v.log) ≡ 1 → ⊥) → was_stored b (Now a) ≡ true
  by_named a ok o low locked some_ never =
      ⊎_elim (λ (e : was_stored b (Now a) ≡ true). e)
      (λ (w : Writes k b (Now a) o).
      let is : w.1 ≡ Mine a = same_writer k (Now a) ok o low w.0 id w.1 (Mine a) w.2 (there a) w.3 locked in
      absurd (never (subst (λ (z : View). has_committed o z.log ≡ false) is w.4) (subst (λ (z : View). place_use b z.log ≡ 1) is w.5)))
      (named_next a ok o low some_)

  -- by a word of the table
  by_version : (o t p : ℕ) → o < container_count k → (table : IsTableName k t) → root k es o ≡ suc t → (a : Act) → Ok a → StandsIn k b (Now a) o t p → slice_index (tab k (Now a) t) (version_at (kind_in k.starts o) (class_of t) p) ≢ slice_index (tab k es t) (version_at (kind_in k.starts o) (class_of t) p) → was_stored b (Now a) ≡ true
  by_version o t p low table names =
      let its = placed k es valid t table in
      let place : ℕ = version_at (kind_in k.starts o) (class_of t) p in
      on_cells k es id v t table (λ a. Ok a → StandsIn k b (Now a) o t p → slice_index (tab k (Now a) t) place ≢ slice_index (tab k es t) place → was_stored b (Now a) ≡ true)
      (λ q i x ok row moved.
      let a : Act = PutTable q t i x in
      let may = ok.1.3 in
      let same : q ≡ o = sym (its.roots q may.0 may.4).1 ∙ (its.roots o low names).1 in
      let is : tab k (Now a) t ≡ slice_set (tab k es t) i x = put_tab k es id v q t i x table may.2 in
      dite (ℕ_discrete i place)
      (λ (e : i ≡ place).
      let long = table_long k t (run k es).words in
      let small = may.2 in
      let put : slice_index (tab k (Now a) t) place ≡ x = ap (λ (l : List ℕ). slice_index l place) is ∙ (ap (λ (z : ℕ). slice_index (slice_set (tab k es t) z x) place) e ∙ get_or-set_same (tab k es t) place x 0 (omega (arith, e, long, small))) in
      let even : x % 2 ≡ 0 = ap (λ (z : ℕ). z % 2) (sym put) ∙ row.2 in
      let timely : TimelyFor k o t i x (has_committed o v.log) = subst (λ (z : ℕ). TimelyFor k z t i x (has_committed z v.log)) same may.6 in
      let done = timely.later p row.1 e even in
      let names_now : root k (Now a) o ≡ suc t = stays k es id v a may (block o 0) (low, omega arith) (λ z. absurd (cc)) ∙ names in
      by_named a ok o low (writer_has k es valid o id v at (subst (λ (z : ℕ). is_writing z v.log ≡ true) same may.3)) (row_names k b (Now a) o t p names_now row.1 row.3 row.4)
      (λ yet one. off (sym yet ∙ done)))
      (λ ne. absurd (moved (ap (λ (l : List ℕ). slice_index l place) is ∙ get_or-set_other (tab k es t) i place x 0 (λ z. ne (sym z))))))
      (λ i x ok row moved.
      let one = ok.1.3.2 in
      let fresh = (its.hands id v at (λ z. absurd (omega (arith, z, one)))).0 in
      let two = (its.roots o low names).0 in
      absurd (omega (arith, fresh, two, one)))
      (λ a same ok row moved. absurd (moved (ap (λ (l : List ℕ). slice_index l place) (same ok.1.3))))

  -- of a table that had stood in a root before
  rows_later : (o t p : ℕ) → o < container_count k → IsTableName k t → 2 ≤ age es t % 5 → (a : Act) → Ok a → StandsIn k b (Now a) o t p → was_stored b (Now a) ≡ true
  rows_later o t p low table up a ok row =
      let home_is : home es t ≡ o = sym (home_keeps k es id v valid at t table up a ok.1.3) ∙ row.5 in
      let kd : Kind = kind_in k.starts o in
      let ws = tab k es t in
      let zs = tab k (Now a) t in
      let V : ℕ = version_at kd (class_of t) p in
      let step = row_step k es (did id v a) ok o t p table up home_is row.1 in
      dite (ℕ_discrete (slice_index zs V) (slice_index ws V))
      (λ (same : slice_index zs V ≡ slice_index ws V).
      let even : slice_index ws V % 2 ≡ 0 = ap (λ (z : ℕ). z % 2) (sym same) ∙ row.2 in
      stays_stored a (old.rows o t p low (table, row.1, even, sym (step.kind_is even same) ∙ row.3, sym (step.payload_is even same) ∙ row.4, home_is, up)))
      (λ moved.
      dite (ℕ_discrete (age es t % 5) 2)
      (λ (two : age es t % 5 ≡ 2).
      let current = (placed k es valid t table).current two in
      let is : whose es t ≡ o = sym (home_root k es valid (whose es t) t current.0 current.1) ∙ home_is in
      by_version o t p low table (subst (λ (z : ℕ). root k es z ≡ suc t) is current.1) a ok row moved)
      (λ ne. absurd (moved (ap (λ (l : List ℕ). slice_index l V) (rests k es (did id v a) ok t table (λ z. absurd (omega (arith, z, up))) ne)))))

  rows_next : (o t p : ℕ) → o < container_count k → (a : Act) → Ok a → StandsIn k b (Now a) o t p → was_stored b (Now a) ≡ true
  rows_next o t p low a ok row =
      let table = row.0 in
      let its = placed k es valid t table in
      let g = age es t in
      on_table k es id v t table (λ c. Ok c → StandsIn k b (Now c) o t p → was_stored b (Now c) ≡ true)
      (λ f s one ok row.
      let free = its.free_is (ap (bit (free_bit_of t)) (sym ok.1.2) ∙ one) in
      let now : aged (TakeTable t f s) t g ≡ g + 1 = hit t (cond (eqb (bit (free_bit_of t) f) 1) (g + 1) g) g ∙ here (bit (free_bit_of t) f) 1 (g + 1) g one in
      let up = row.6 in
      absurd (omega (arith, up, now, free)))
      (λ ok row.
      let now : aged (GiveTable t) t g ≡ g + 5 - g % 5 = hit t (g + 5 - g % 5) g in
      let up = row.6 in
      absurd (omega (arith, up, now)))
      (λ q from ok row.
      let c : Act = PutRoot q (suc t) from in
      let same : q ≡ o = sym (hit (suc t) q (home es t)) ∙ row.5 in
      let writes : is_writing o v.log ≡ true = subst (λ (z : ℕ). is_writing z v.log ≡ true) same ok.1.3.1 in
      let names_now : root k (Now c) o ≡ suc t = subst (λ (z : ℕ). root k (Now c) z ≡ suc t) same (moves k es id v c ok.1.3) in
      let some_ = row_names k b (Now c) o t p names_now row.1 row.3 row.4 in
      let locked = writer_has k es valid o id v at writes in
      let now = named_known k (Now c) ok id (Mine c) (there c) b o low locked in
      by_named c ok o low locked some_ (λ yet one. some_ (sym now ∙ subst (λ (z : ℕ). named_in_container k b z (mem k (c ∷ v.log)) ≡ 0) same (ok.1.3.10 b one))))
      (λ q r ne ok row.
      let two = (its.roots q ok.1.3.0 (sym ok.1.3.2)).0 in
      rows_later o t p low table (omega (arith, two)) (PutRoot q r (suc t)) ok row)
      (λ f ok row.
      let three = ok.1.3.1 in
      let is = (its.hands id v at (λ z. absurd (omega (arith, z, three)))).0 in
      rows_later o t p low table (omega (arith, is, three)) (Retire t f) ok row)
      (λ c calm ok row.
      let same = calm.age g in
      let up = row.6 in
      rows_later o t p low table (omega (arith, same, up)) c ok row)
      a ok.1.2 ok.1.3 ok row

  -- ---- the maker

  number_next : (a : Act) → Ok a → was_stored b (Now a) ≡ true → suc (maker_of b) < top (Now a)
  number_next a ok e =
      dite (ℕ_discrete (place_use b (a ∷ v.log)) 2)
      (λ (two : place_use b (a ∷ v.log) ≡ 2).
      let is = maker_is a ok (λ z. absurd (omega (arith, z, two))) in
      let below = (seated k es valid id v at).below in
      omega (arith, is, below))
      (λ ne. old.number (sym (miss (place_use b (a ∷ v.log)) 2 true (was_stored b es) ne) ∙ e))

  mine_next : (a : Act) → Ok a → (j : ℕ) (u : View) → get_elem? (run k (Now a)).views j ≡ some u → u.number ≡ suc (maker_of b) → was_stored b (Now a) ≡ true → place_use b u.log ≡ 2
  mine_next a ok =
      set_views (λ j u. u.number ≡ suc (maker_of b) → was_stored b (Now a) ≡ true → place_use b u.log ≡ 2) (run k es).views id (view_after a v)
      (λ number e.
      dite (ℕ_discrete (place_use b (a ∷ v.log)) 2)
      (λ (two : place_use b (a ∷ v.log) ≡ 2). two)
      (λ ne.
      let had = old.mine id v at number (sym (miss (place_use b (a ∷ v.log)) 2 true (was_stored b es) ne) ∙ e) in
      ap (place_use_next b a) had ∙ stored_then b a))
      (λ j u far there_ number e.
      dite (ℕ_discrete (place_use b (a ∷ v.log)) 2)
      (λ (two : place_use b (a ∷ v.log) ≡ 2).
      let is = maker_is a ok (λ z. absurd (omega (arith, z, two))) in
      absurd (far (same_seat k es valid j id u v there_ at (λ z. absurd (omega (arith, z, number))) (number ∙ sym is))))
      (λ ne. old.mine j u there_ number (sym (miss (place_use b (a ∷ v.log)) 2 true (was_stored b es) ne) ∙ e)))

  pub stored_next : (a : Act) → Ok a → ((c : ℕ) → c ≡ b → SawBox k c v.log → was_stored b es ≡ true) → Stored k b (Now a)
  stored_next a ok saw = record {
    views = set_views (λ j u. Claimed k b (Now a) u) (run k es).views id (view_after a v) (mine_claimed a ok saw) (λ j u far e. others_claimed a u (old.views j u e));
    named = named_next a ok;
    rows = λ o t p low. rows_next o t p low a ok;
    number = number_next a ok;
    mine = mine_next a ok;
  }

-- ---- a pass that comes or goes

-- the same log, or one with tables that were taken over
same_claimed : (k : Shape) (b : ℕ) (es now : List Event) (u w : View) → was_stored b now ≡ was_stored b es → w.log ≡ u.log → w.number ≡ u.number → Claimed k b es u → Claimed k b now w
same_claimed k b es now u w stored log number c = record {
  held = λ n. still (c.held (λ z. n (ap (references_held k b) log ∙ z)));
  making = λ e. still (c.making (ap (made_state b) (sym log) ∙ e));
  default = λ e. still (c.default (ap (made_state b) (sym log) ∙ e));
  gives = λ n. still (c.gives (λ z. n (ap (place_to_give b) log ∙ z)));
  after = λ o writes done one. c.after o (ap (is_writing o) (sym log) ∙ writes) (ap (has_committed o) (sym log) ∙ done) (ap (place_use b) (sym log) ∙ one);
  maker = λ n. number ∙ c.maker (λ z. n (ap (place_use b) log ∙ z));
  stored = λ e. stored ∙ c.stored (ap (place_use b) (sym log) ∙ e);
}
  where
    still : Claims b es u → Claims b now w
    still (inl e) = inl (stored ∙ e)
    still (inr e) = inr (ap (place_use b) log ∙ e)

silent_claimed : (k : Shape) (b : ℕ) (es : List Event) (u : View) → u.log ≡ [] → Claimed k b es u
silent_claimed k b es u silent = record {
  held = λ n. absurd (n (ap (references_held k b) silent));
  making = λ e. let z : made_state b u.log ≡ 0 = ap (made_state b) silent in absurd (omega (arith, z, e));
  default = λ e. let z : made_state b u.log ≡ 0 = ap (made_state b) silent in absurd (omega (arith, z, e));
  gives = λ n. absurd (n (ap (place_to_give b) silent));
  after = λ o writes. off (ap (is_writing o) (sym silent) ∙ writes);
  maker = λ n. absurd (n (ap (place_use b) silent));
  stored = λ e. let z : place_use b u.log ≡ 0 = ap (place_use b) silent in absurd (omega (arith, z, e));
}

-- a pass that takes another in
joined_claimed : (k : Shape) (b : ℕ) (es now : List Event) (v w : View) → was_stored b now ≡ was_stored b es → Claimed k b es v → Claimed k b now (both v w)
joined_claimed k b es now v w stored c = record {
  held = λ n. still (c.held n);
  making = λ e. still (c.making e);
  default = λ e. still (c.default e);
  gives = λ n. still (c.gives n);
  after = c.after;
  maker = c.maker;
  stored = λ e. stored ∙ c.stored e;
}
  where
    still : Claims b es v → Claims b now (both v w)
    still (inl e) = inl (stored ∙ e)
    still (inr e) = inr e

-- a view that is put in the place of another, with the same writes
writes_else : (b : ℕ) (views : List View) (o id : ℕ) (w v : View) → get_elem? views id ≡ some v → (is_writing o v.log ≡ true → has_committed o v.log ≡ false → place_use b v.log ≡ 1 → (is_writing o w.log ≡ true) × (has_committed o w.log ≡ false) × (place_use b w.log ≡ 1)) → WritesIn b views o → WritesIn b (set views id w) o
writes_else b views o id w v at keeps h =
    dite (ℕ_discrete h.0 id)
    (λ (e : h.0 ≡ id).
    let is : h.1 ≡ v = some-injective h.1 v (sym h.2 ∙ (ap (get_elem? views) e ∙ at)) in
    let x = keeps (subst (λ (z : View). is_writing o z.log ≡ true) is h.3) (subst (λ (z : View). has_committed o z.log ≡ false) is h.4) (subst (λ (z : View). place_use b z.log ≡ 1) is h.5) in
    (id, w, set_at views id v w at, x.0, x.1, x.2))
    (λ ne. (h.0, h.1, set_else views id h.0 w ne ∙ h.2, h.3, h.4, h.5))

-- of this trace, and of each that it goes on from
abbrev pub Before : Shape → ℕ → List Event → Type 0
Before k b [] = Stored k b []
Before k b (e ∷ es) = Stored k b (e ∷ es) × Before k b es

pub upto : (k : Shape) (b : ℕ) (newer older : List Event) → Before k b (newer ++ older) → Stored k b older
upto k b [] [] all = all
upto k b [] (e ∷ older) all = all.0
upto k b (e ∷ newer) older all = upto k b newer older all.1

pub stored_start : (k : Shape) (b : ℕ) → Stored k b []
stored_start k b = record {
  views = one_view (λ j u. Claimed k b [] u) (starter k) (silent_claimed k b [] (starter k) refl);
  named = λ o low some_. absurd (some_ (by_zero o (root_of k o (run k []).words) (block_first k o 0 low (omega arith))));
  rows = λ o t p low row. let up = row.6 in absurd (omega (arith, up));
  number = λ e. off e;
  mine = λ j u _ _ e. off e;
}
  where
    by_zero : (o r : ℕ) → r ≡ 0 → named_in_root b (kind_in k.starts o) r (inner k r (run k []).words) ≡ 0
    by_zero o zero e = refl
    by_zero o (suc r) e = absurd (omega (arith, e))

pub stored_fork : (k : Shape) (b : ℕ) (es : List Event) (id : ℕ) (v : View) → Valid k (forked id v ∷ es) → Stored k b es → Stored k b (forked id v ∷ es)
stored_fork k b es id v valid old =
    let now : List Event = forked id v ∷ es in
    let P : ℕ → View → Type 0 = λ j u. u.number ≡ suc (maker_of b) → was_stored b es ≡ true → place_use b u.log ≡ 2 in
    let seat = seated k es valid.0 id v valid.1.0 in
    record {
      views = one_more (λ j u. Claimed k b now u) _ (made v) (silent_claimed k b now (made v) refl)
          (set_views (λ j u. Claimed k b now u) _ id (maker v) (same_claimed k b es now v (maker v) refl refl refl (old.views id v valid.1.0)) (λ j u _ e. same_claimed k b es now u u refl refl refl (old.views j u e)));
      named = λ o low some_. ⊎_elim (λ (e : was_stored b es ≡ true). inl e)
          (λ (w : Writes k b es o).
          let h = writes_else b (run k es).views o id (maker v) v valid.1.0 (λ x y z. (x, y, z)) w in
          inr (h.0, h.1, at_longer (set (run k es).views id (maker v)) (made v ∷ []) h.0 h.1 h.2, h.3, h.4, h.5))
          (old.named o low some_);
      rows = old.rows;
      number = λ e. let low = old.number e in omega (arith, low);
      mine = one_more P _ (made v)
          (λ number e. let low = old.number e in let next = (seat.next valid.1.2).0 in absurd (omega (arith, low, next, number)))
          (set_views P _ id (maker v) (old.mine id v valid.1.0) (λ j u _ e. old.mine j u e));
    }

pub stored_sent : (k : Shape) (b : ℕ) (es : List Event) (id : ℕ) (v : View) (given : ℕ) → Valid k (sent id v given ∷ es) → Stored k b es → Stored k b (sent id v given ∷ es)
stored_sent k b es id v given valid old =
    let now : List Event = sent id v given ∷ es in
    let P : ℕ → View → Type 0 = λ j u. u.number ≡ suc (maker_of b) → was_stored b es ≡ true → place_use b u.log ≡ 2 in
    record {
      views = one_more (λ j u. Claimed k b now u) _ (note given v) (silent_claimed k b now (note given v) refl)
          (set_views (λ j u. Claimed k b now u) _ id (sender given v) (same_claimed k b es now v (sender given v) refl refl refl (old.views id v valid.1.0)) (λ j u _ e. same_claimed k b es now u u refl refl refl (old.views j u e)));
      named = λ o low some_. ⊎_elim (λ (e : was_stored b es ≡ true). inl e)
          (λ (w : Writes k b es o).
          let h = writes_else b (run k es).views o id (sender given v) v valid.1.0 (λ x y z. (x, y, z)) w in
          inr (h.0, h.1, at_longer (set (run k es).views id (sender given v)) (note given v ∷ []) h.0 h.1 h.2, h.3, h.4, h.5))
          (old.named o low some_);
      rows = old.rows;
      number = old.number;
      mine = one_more P _ (note given v) (λ number e. absurd (omega (arith, number)))
          (set_views P _ id (sender given v) (old.mine id v valid.1.0) (λ j u _ e. old.mine j u e));
    }

pub stored_join : (k : Shape) (b : ℕ) (es : List Event) (id : ℕ) (v : View) (other : ℕ) (w : View) → Valid k (joined id v other w ∷ es) → Stored k b es → Stored k b (joined id v other w ∷ es)
stored_join k b es id v other w valid old =
    let now : List Event = joined id v other w ∷ es in
    let P : ℕ → View → Type 0 = λ j u. u.number ≡ suc (maker_of b) → was_stored b es ≡ true → place_use b u.log ≡ 2 in
    let C : ℕ → View → Type 0 = λ j u. Claimed k b now u in
    record {
      views = set_views C _ other spent (silent_claimed k b now spent refl)
          (λ j u _. set_views C _ id (both v w) (joined_claimed k b es now v w refl (old.views id v valid.1.0)) (λ j u _ e. same_claimed k b es now u u refl refl refl (old.views j u e)) j u);
      named = λ o low some_. ⊎_elim (λ (e : was_stored b es ≡ true). inl e)
          (λ (h : Writes k b es o).
          inr (writes_else b (set (run k es).views id (both v w)) o other spent w (set_else (run k es).views id other (both v w) valid.1.1 ∙ valid.1.2)
          (λ mine. off (sym (valid.1.5.0 o) ∙ writer_has k es valid.0 o other w valid.1.2 mine))
          (writes_else b (run k es).views o id (both v w) v valid.1.0 (λ x y z. (x, y, z)) h)))
          (old.named o low some_);
      rows = old.rows;
      number = old.number;
      mine = set_views P _ other spent (λ number e. absurd (omega (arith, number)))
          (λ j u _. set_views P _ id (both v w) (old.mine id v valid.1.0) (λ j u _ e. old.mine j u e) j u);
    }
