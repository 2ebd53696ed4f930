-- A box that no write of its maker has stored yet is its maker's alone: so a pass that is settled, writes no container and
-- holds no reference has given back each place that it has taken for one.
use Rattle.std.proofs.Math.Logic.{∥∥₁_elim}
use Rattle.std.proofs.Common.{◌≡◌, ◌≢◌, ◌⊎◌, ℕ, suc, eqb, ◌+◌, ◌-◌, ◌/◌, ◌^◌, ◌<◌, true, false, cond, List, [], ◌∷◌, refl, sym, ap, ◌∙◌, subst, inl, inr, ⊎_elim, arith}
use mathlib.Core.Option.{some, some-injective}
use mathlib.Core.Logic.{dite}
use native.Mathlib.Decide.{ℕ_discrete}
use lib.ListN.{get_elem?}
use Rattle.ft_layout.specs.declared.slot.Ref.{Ref}
use Rattle.ft_trace.specs.declared.Act.{Act}
use Rattle.ft_trace.specs.declared.Act.TheVariants.{Commit, TakePlace, PublishBox, MergeCounts, RaiseShared, RaiseKept, DropShared, GivePlace}
use Rattle.ft_trace.specs.declared.Shape.{Shape}
use Rattle.ft_trace.specs.declared.View.{View}
use Rattle.ft_trace.specs.Acts.{has_lock, is_writing, mem, starter, view_after, maker, made, both, spent, sender, note}
use Rattle.ft_trace.specs.Addresses.{container_count, maker_of, place_bit_of}
use Rattle.ft_trace.specs.Bits.{bit}
use Rattle.ft_trace.specs.Boxes.{named_in_container, made_state, local_count, taken_out, place_to_give, place_use, references_held, KeepsBox, IsDoneWithBoxes, IsSettled}
use Rattle.ft_trace.specs.BoxTraces.{box_state, box_state_next, maker_part, place_to_give_by, shared_count, shared_count_next, was_stored}
use Rattle.ft_trace.specs.Entries.{total}
use Rattle.ft_trace.specs.SeenBoxes.{SawBox}
use Rattle.ft_trace.specs.Traces.{Event, did, forked, joined, sent, run, history, May, Valid, IsReachable}
use Rattle.ft_trace.proofs.Boxed.{boxed}
use Rattle.ft_trace.proofs.Cases.{here, miss}
use Rattle.ft_trace.proofs.LocalWords.{one_maker}
use Rattle.ft_trace.proofs.Locks.{one_holder}
use Rattle.ft_trace.proofs.NamedBoxes.{named_known}
use Rattle.ft_trace.proofs.OddVersions.{writer_has}
use Rattle.ft_trace.proofs.PlacesInUse.{taken_places_are_the_makers}
use Rattle.ft_trace.proofs.Seats.{same_seat}
use Rattle.ft_trace.proofs.SeenNames.{seen_were_stored, stored_at}
use Rattle.ft_trace.proofs.Sizes.{one_more, one_view, set_views}
use Rattle.ft_trace.proofs.StoredBoxes.{Claims, Stored, Writes}
use Rattle.ft_trace.proofs.Sums.{total_at}
use Rattle.ft_bank.specs.BoxSteps.{box_id}
use Rattle.ft_bank.specs.Whole.{OnlyBoxed}
use Rattle.ft_bank.proofs.DoneBoxes.{none_taken}
use Rattle.ft_boxes.specs.References.{LeavesNoTaken}

-- ---- who has to do with the box

module _ (k : Shape) (b : ℕ) (es : List Event) (valid : Valid k es) (j : ℕ) (u : View) (at : get_elem? (run k es).views j ≡ some u) (taken : place_use b u.log ≡ 1) where
  abbrev all : Stored k b es
  all = stored_at k b es valid

  mine : u.number ≡ suc (maker_of b)
  mine = (all.views j u at).maker (λ z. absurd (omega (arith, taken, z)))

  not_stored : was_stored b es ≡ true → ⊥
  not_stored e = let two = all.mine j u at mine e in omega (arith, two, taken)

  sole : (i : ℕ) (w : View) → get_elem? (run k es).views i ≡ some w → Claims b es w → i ≡ j
  sole i w there (inl e) = absurd (not_stored e)
  sole i w there (inr one) =
      let theirs = (all.views i w there).maker (λ z. absurd (omega (arith, one, z))) in
      same_seat k es valid i j w u there at (λ z. absurd (omega (arith, z, theirs))) (theirs ∙ sym mine)

  -- a pass that keeps the box by a container whose lock it has writes that
  named_sole : (i : ℕ) (w : View) → get_elem? (run k es).views i ≡ some w → (o : ℕ) → o < container_count k → has_lock o w.log ≡ true → 0 < named_in_container k b o (mem k w.log) → i ≡ j
  named_sole i w there o low locked some_ =
      let known = named_known k es valid i w there b o low locked in
      ⊎_elim
      (λ (e : was_stored b es ≡ true). absurd (not_stored e))
      (λ (x : Writes k b es o).
      one_holder k es valid o low i x.0 w x.1 there x.2 locked (writer_has k es valid o x.0 x.1 x.2 x.3) ∙ sole x.0 x.1 x.2 (inr x.5))
      (all.named o low (λ z. absurd (omega (arith, known, some_, z))))

  kept_sole : (i : ℕ) (w : View) → get_elem? (run k es).views i ≡ some w → KeepsBox k b w.log → i ≡ j
  kept_sole i w there (inl some_) = sole i w there ((all.views i w there).held (λ z. omega (arith, some_, z)))
  kept_sole i w there (inr h) = named_sole i w there h.0 h.1 h.2 h.3

  -- another pass doesn't change its shared count in the default state
  leaves_count : (i : ℕ) (v : View) → i ≢ j → get_elem? (run k es).views i ≡ some v → made_state b u.log ≡ 2 → (a : Act) → May k (run k es) (history es) v a → (n : ℕ) → shared_count_next b a n ≡ n
  leaves_count i v far there own (PublishBox c) may n =
      miss c b (2 ^ 61) n (λ e. one_maker k b es valid i j v u far there at (inl (ap (λ (z : ℕ). made_state z v.log) (sym e) ∙ may.1)) (inr own))
  leaves_count i v far there own (MergeCounts c d f) may n =
      miss c b (n + d / 4) n (λ e. one_maker k b es valid i j v u far there at (inr (ap (λ (z : ℕ). made_state z v.log) (sym e) ∙ may.1)) (inr own))
  leaves_count i v far there own (RaiseShared c old f) may n =
      miss c b (cond (eqb f old) (n + 1) n) n (λ e. not_stored (seen_were_stored k b es valid i v there (subst (λ (z : ℕ). SawBox k z v.log) e may.5)))
  leaves_count i v far there own (RaiseKept c f) may n =
      miss c b (n + 1) n (λ e. far (kept_sole i v there (subst (λ (z : ℕ). KeepsBox k z v.log) e may.2)))
  leaves_count i v far there own (DropShared c f) may n =
      miss c b (n - 1) n (λ e. let held = may.2 in let some_ : 0 < references_held k b v.log = subst (λ (z : ℕ). 0 < references_held k z v.log) e held in far (kept_sole i v there (inl some_)))
  leaves_count i v far there own act may n = refl

  -- nor its state
  leaves_state : (i : ℕ) (v : View) → i ≢ j → get_elem? (run k es).views i ≡ some v → (a : Act) → May k (run k es) (history es) v a → (n : ℕ) → box_state_next b a n ≡ n
  leaves_state i v far there (TakePlace c f) may n =
      miss c b (cond (eqb (bit (place_bit_of c) f) 1) 1 n) n
      (λ e.
      let number : v.number ≡ suc (maker_of b) = may.1 ∙ ap (λ (z : ℕ). suc (maker_of z)) e in
      far (same_seat k es valid i j v u there at (λ z. absurd (omega (arith, z, number))) (number ∙ sym mine)))
  leaves_state i v far there (PublishBox c) may n =
      miss c b 2 n (λ e. far (sole i v there ((all.views i v there).making (ap (λ (z : ℕ). made_state z v.log) (sym e) ∙ may.1))))
  leaves_state i v far there (MergeCounts c d f) may n =
      miss c b 3 n (λ e. far (sole i v there ((all.views i v there).default (ap (λ (z : ℕ). made_state z v.log) (sym e) ∙ may.1))))
  leaves_state i v far there (GivePlace c) may n =
      miss c b 0 n (λ e. let due : place_to_give b v.log ≡ 1 = ap (λ (z : ℕ). place_to_give z v.log) (sym e) ∙ may.1 in far (sole i v there ((all.views i v there).gives (λ z. omega (arith, z, due)))))
  leaves_state i v far there act may n = refl

-- ---- its state and its shared count

abbrev put_if : ℕ → ℕ → ℕ → ℕ → ℕ
put_if c b x n = cond (eqb c b) x n

-- where a place is taken after a step that gives back one, it was so before, and the step gives back another
ungiven : (c b n : ℕ) → put_if c b (put_if n 1 0 n) n ≡ 1 → (c ≢ b) × (n ≡ 1)
ungiven c b n e =
    dite (ℕ_discrete c b)
    (λ (is : c ≡ b).
    let now : put_if n 1 0 n ≡ 1 = sym (here c b (put_if n 1 0 n) n is) ∙ e in
    dite (ℕ_discrete n 1)
    (λ (one : n ≡ 1). let none = here n 1 0 n one in absurd (omega (arith, now, none)))
    (λ ne. absurd (ne (sym (miss n 1 0 n ne) ∙ now))))
    (λ ne. (ne, sym (miss c b (put_if n 1 0 n) n ne) ∙ e))

-- a step that takes a place takes this one, or changes nothing of this one
takes_or : (b c f : ℕ) → ((c ≡ b) × (bit (place_bit_of c) f ≡ 1)) ⊎ ((x n : ℕ) → put_if c b (put_if (bit (place_bit_of c) f) 1 x n) n ≡ n)
takes_or b c f =
    dite (ℕ_discrete c b)
    (λ (is : c ≡ b).
    dite (ℕ_discrete (bit (place_bit_of c) f) 1)
    (λ (one : bit (place_bit_of c) f ≡ 1). inl (is, one))
    (λ no. inr (λ x n. here c b (put_if (bit (place_bit_of c) f) 1 x n) n is ∙ miss (bit (place_bit_of c) f) 1 x n no)))
    (λ ne. inr (λ x n. miss c b (put_if (bit (place_bit_of c) f) 1 x n) n ne))

taken_now : (b c f x n : ℕ) → (c ≡ b) × (bit (place_bit_of c) f ≡ 1) → put_if c b (put_if (bit (place_bit_of c) f) 1 x n) n ≡ x
taken_now b c f x n is = here c b (put_if (bit (place_bit_of c) f) 1 x n) n is.0 ∙ here (bit (place_bit_of c) f) 1 x n is.1

-- a place that a pass has taken has a box of its, whatever state that is in
taken_made : (b : ℕ) (l : List Act) → place_use b l ≡ 1 → made_state b l ≢ 0
taken_made b [] taken none = omega (arith, taken)
taken_made b (TakePlace c f ∷ l) taken none =
    ⊎_elim
    (λ is. let one = taken_now b c f 1 (made_state b l) is in absurd (omega (arith, one, none)))
    (λ same. taken_made b l (sym (same (put_if (place_use b l) 2 2 1) (place_use b l)) ∙ taken) (sym (same 1 (made_state b l)) ∙ none))
    (takes_or b c f)
taken_made b (PublishBox c ∷ l) taken none =
    dite (ℕ_discrete c b)
    (λ (is : c ≡ b). let two = here c b 2 (made_state b l) is in absurd (omega (arith, two, none)))
    (λ ne. taken_made b l taken (sym (miss c b 2 (made_state b l) ne) ∙ none))
taken_made b (MergeCounts c d f ∷ l) taken none =
    dite (ℕ_discrete c b)
    (λ (is : c ≡ b). let three = here c b 3 (made_state b l) is in absurd (omega (arith, three, none)))
    (λ ne. taken_made b l taken (sym (miss c b 3 (made_state b l) ne) ∙ none))
taken_made b (GivePlace c ∷ l) taken none = taken_made b l (ungiven c b (place_use b l) taken).1 none
taken_made b (Commit c r f s ∷ l) taken none = none_taken (place_use b l) taken
taken_made b (act ∷ l) taken none = taken_made b l taken none

-- The box is in the state in which its maker left it. In the default state its shared count is 0.
record IsAlone (b : ℕ) (l : List Act) (state shared : ℕ) : Type 0 where
  is : made_state b l ≡ state
  zero_shared : made_state b l ≡ 2 → shared ≡ 2 ^ 61

module _ (k : Shape) (b : ℕ) where
  abbrev Alone : List Event → ℕ → View → Type 0
  Alone es j u = place_use b u.log ≡ 1 → IsAlone b u.log (box_state b es) (shared_count b es)

  silent_alone : (es : List Event) (j : ℕ) (u : View) → u.log ≡ [] → Alone es j u
  silent_alone es j u silent taken = let none : place_use b u.log ≡ 0 = ap (place_use b) silent in absurd (omega (arith, none, taken))

  -- the maker's own steps
  own_step : (v : View) (es : List Event) (a : Act) → May k (run k es) (history es) v a → (n m : ℕ) → (place_use b v.log ≡ 1 → IsAlone b v.log n m) → place_use b (a ∷ v.log) ≡ 1 → IsAlone b (a ∷ v.log) (box_state_next b a n) (shared_count_next b a m)
  own_step v es (TakePlace c f) may n m old taken =
      ⊎_elim
      (λ is.
      let one = taken_now b c f 1 (made_state b v.log) is in
      record { is = one ∙ sym (taken_now b c f 1 n is); zero_shared = λ own. absurd (omega (arith, one, own)) })
      (λ same.
      let was = old (sym (same (put_if (place_use b v.log) 2 2 1) (place_use b v.log)) ∙ taken) in
      record { is = same 1 (made_state b v.log) ∙ (was.is ∙ sym (same 1 n)); zero_shared = λ own. was.zero_shared (sym (same 1 (made_state b v.log)) ∙ own) })
      (takes_or b c f)
  own_step v es (PublishBox c) may n m old taken =
      let was = old taken in
      dite (ℕ_discrete c b)
      (λ (is : c ≡ b). record { is = here c b 2 (made_state b v.log) is ∙ sym (here c b 2 n is); zero_shared = λ own. here c b (2 ^ 61) m is })
      (λ ne. record { is = ap (put_if c b 2) was.is; zero_shared = λ own. miss c b (2 ^ 61) m ne ∙ was.zero_shared (sym (miss c b 2 (made_state b v.log) ne) ∙ own) })
  own_step v es (MergeCounts c d f) may n m old taken =
      let was = old taken in
      dite (ℕ_discrete c b)
      (λ (is : c ≡ b). let three = here c b 3 (made_state b v.log) is in record { is = three ∙ sym (here c b 3 n is); zero_shared = λ own. absurd (omega (arith, three, own)) })
      (λ ne. record { is = ap (put_if c b 3) was.is; zero_shared = λ own. miss c b (m + d / 4) m ne ∙ was.zero_shared (sym (miss c b 3 (made_state b v.log) ne) ∙ own) })
  own_step v es (RaiseShared c from f) may n m old taken =
      let was = old taken in
      record { is = was.is; zero_shared = λ own. miss c b (put_if f from (m + 1) m) m (λ e. may.1 (ap (λ (z : ℕ). made_state z v.log) e ∙ own)) ∙ was.zero_shared own }
  own_step v es (RaiseKept c f) may n m old taken =
      let was = old taken in
      record { is = was.is; zero_shared = λ own. miss c b (m + 1) m (λ e. may.1 (ap (λ (z : ℕ). made_state z v.log) e ∙ own)) ∙ was.zero_shared own }
  own_step v es (DropShared c f) may n m old taken =
      let was = old taken in
      record { is = was.is; zero_shared = λ own. miss c b (m - 1) m (λ e. may.1 (ap (λ (z : ℕ). made_state z v.log) e ∙ own)) ∙ was.zero_shared own }
  own_step v es (GivePlace c) may n m old taken =
      let stays = ungiven c b (place_use b v.log) taken in
      let was = old stays.1 in
      record { is = was.is ∙ sym (miss c b 0 n stays.0); zero_shared = was.zero_shared }
  own_step v es (Commit c r f s) may n m old taken = absurd (none_taken (place_use b v.log) taken)
  own_step v es act may n m old taken = let was = old taken in record { is = was.is; zero_shared = was.zero_shared }

  alone : (es : List Event) → Valid k es → (j : ℕ) (u : View) → get_elem? (run k es).views j ≡ some u → Alone es j u
  alone [] valid = one_view (Alone []) (starter k) (silent_alone [] 0 (starter k) refl)
  alone (did id v a ∷ es) valid =
      set_views (Alone (did id v a ∷ es)) (run k es).views id (view_after a v)
      (own_step v es a valid.1.3 (box_state b es) (shared_count b es) (alone es valid.0 id v valid.1.0))
      (λ j u far there taken.
      let was = alone es valid.0 j u there taken in
      let apart : id ≢ j = λ z. far (sym z) in
      record {
        is = was.is ∙ sym (leaves_state k b es valid.0 j u there taken id v apart valid.1.0 a valid.1.3 (box_state b es));
        zero_shared = λ own. leaves_count k b es valid.0 j u there taken id v apart valid.1.0 own a valid.1.3 (shared_count b es) ∙ was.zero_shared own;
      })
  alone (forked id v ∷ es) valid =
      let P = Alone (forked id v ∷ es) in
      let old = alone es valid.0 in
      one_more P _ (made v) (silent_alone (forked id v ∷ es) 0 (made v) refl)
      (set_views P _ id (maker v) (old id v valid.1.0) (λ j u _ e. old j u e))
  alone (sent id v given ∷ es) valid =
      let P = Alone (sent id v given ∷ es) in
      let old = alone es valid.0 in
      one_more P _ (note given v) (silent_alone (sent id v given ∷ es) 0 (note given v) refl)
      (set_views P _ id (sender given v) (old id v valid.1.0) (λ j u _ e. old j u e))
  alone (joined id v other w ∷ es) valid =
      let P = Alone (joined id v other w ∷ es) in
      let old = alone es valid.0 in
      set_views P _ other spent (silent_alone (joined id v other w ∷ es) other spent refl)
      (λ j u _. set_views P _ id (both v w)
      (λ taken. let was = old id v valid.1.0 taken in record { is = was.is; zero_shared = was.zero_shared })
      (λ j u _ e. old j u e) j u)

-- ---- once its maker holds no reference

-- a pass that has the place to give back
giver : (b : ℕ) (views : List View) → total (place_to_give_by b) views ≢ 0 → (j : ℕ) × (u : View) × (get_elem? views j ≡ some u) × (place_to_give b u.log ≢ 0)
giver b [] ne = absurd (ne refl)
giver b (x ∷ xs) ne =
    dite (ℕ_discrete (place_to_give b x.log) 0)
    (λ (none : place_to_give b x.log ≡ 0). let h = giver b xs (λ z. ne (omega (arith, none, z))) in (suc h.0, h.1, h.2, h.3))
    (λ some_. (0, x, refl, some_))

module _ (v : View) (b : ℕ) (settled : IsSettled v.log) (idle : (o : ℕ) → is_writing o v.log ≡ false) (none : references_held v.shape b v.log ≡ 0) (taken : place_use b v.log ≡ 1) where
  abbrev k : Shape
  k = v.shape

  none_in_default : (es : List Event) → Valid k es → (j : ℕ) → get_elem? (run k es).views j ≡ some v → made_state b v.log ≢ 2
  none_in_default es valid j at own =
      let counts = (boxed k b es valid).counts in
      let a = alone k b es valid j v at taken in
      let is = a.is in
      let unreferenced = taken_places_are_the_makers k b es valid j v at taken idle none in
      let part : maker_part b v ≡ local_count b v.log + taken_out b v.log = here (made_state b v.log) 2 (local_count b v.log + taken_out b v.log) 0 own in
      let parts = total_at (maker_part b) (run k es).views j v at in
      let counted = settled.counted b own in
      let shared = a.zero_shared own in
      let balance = counts.balance (omega (arith, is, own)) in
      omega (arith, counted, part, parts, shared, balance, unreferenced)

  none_reachable : IsReachable v → ⊥
  none_reachable p =
      let es : List Event = p.0 in
      let valid = p.2.0 in
      let counts = (boxed k b es valid).counts in
      let is = (alone k b es valid p.1 v p.2.1 taken).is in
      let small = counts.small in
      let not_none = taken_made b v.log taken in
      let not_making = settled.unmade b in
      let not_default = none_in_default es valid p.1 p.2.1 in
      let merged : box_state b es ≡ 3 = omega (arith, is, small, not_none, not_making, not_default) in
      let one = counts.dead merged (taken_places_are_the_makers k b es valid p.1 v p.2.1 taken idle none) in
      let h = giver b (run k es).views (λ z. omega (arith, z, one)) in
      let same = sole k b es valid p.1 v p.2.1 taken h.0 h.1 h.2 (((stored_at k b es valid).views h.0 h.1 h.2).gives h.3) in
      let mine : h.1 ≡ v = some-injective h.1 v (sym h.2 ∙ (ap (get_elem? (run k es).views) same ∙ p.2.1)) in
      h.3 (ap (λ (z : View). place_to_give b z.log) mine ∙ settled.given b)

-- So such a pass has taken no place, but for boxes that a write has stored.
pub settled_stored : (v : View) → ∥ IsReachable v ∥₁ → IsSettled v.log → ((o : ℕ) → is_writing o v.log ≡ false) → (b : ℕ) → references_held v.shape b v.log ≡ 0 → place_use b v.log ≢ 1
settled_stored v possible settled idle b none taken = ∥∥₁_elim {P = ⊥} possible (λ x y. absurd x) (none_reachable v b settled idle none taken)

-- The same of a pass that writes what it wrote before.
pub gone_settled : (b : Ref) (v w : View) → ∥ IsReachable w ∥₁ → IsSettled w.log → OnlyBoxed v w → LeavesNoTaken b v w
gone_settled b v w possible settled only idle none = settled_stored w possible settled (λ o. only.work.pass.writes o ∙ idle o) (box_id b) none

-- and one that holds no reference at all is done with boxes
pub settled_done : (v : View) → ∥ IsReachable v ∥₁ → IsSettled v.log → ((o : ℕ) → is_writing o v.log ≡ false) → ((b : ℕ) → references_held v.shape b v.log ≡ 0) → IsDoneWithBoxes v.shape v.log
settled_done v possible settled idle none = record { settled = settled; none = none; stored = λ b. settled_stored v possible settled idle b (none b) }
