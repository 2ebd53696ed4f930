-- What a pass knows after a step, from the trace in which it made it.
use Rattle.std.proofs.Common.{◌≡◌, ◌≢◌, ℕ, suc, ◌*◌, ◌<◌, ◌≤◌, Bool, true, false, true≢false, List, ◌∷◌, ◌++◌, refl, sym, ap, ◌∙◌, subst, arith}
use Rattle.std.specs.Prelude.{slice_index}
use mathlib.Core.Option.{some-injective}
use lib.ListN.{get_elem?}
use Rattle.ft_trace.specs.declared.View.{View}
use Rattle.ft_trace.specs.declared.Snap.{Snap}
use Rattle.ft_trace.specs.declared.Act.{Act}
use Rattle.ft_trace.specs.declared.Act.TheVariants.{Lock, ReadBlock, ReadRoot, ReadTable, ReadCounter}
use Rattle.ft_trace.specs.Addresses.{container_count, counter, lock_of, block, cell, class_of, size, IsTableName}
use Rattle.ft_trace.specs.Acts.{has_lock, has_lock_next, is_writing, stage, view_after, spent}
use Rattle.ft_trace.specs.Causes.{Loaded}
use Rattle.ft_trace.specs.LoggedLookUps.{IsNew}
use Rattle.ft_trace.specs.Pictures.{ContainerWords, root_in, picture, Represents}
use Rattle.ft_trace.specs.ContainerStates.{container_after}
use Rattle.ft_trace.specs.Holds.{held_words, held_unboxed, known_state, in_hand}
use Rattle.ft_trace.specs.Traces.{Event, did, run, word, Valid, Sure}
use Rattle.ft_trace.specs.Unboxed.{unboxed_picture}
use Rattle.ft_trace.proofs.Cases.{hit, not_true}
use Rattle.ft_trace.proofs.Seats.{same_seat, holder_lives}
use Rattle.ft_trace.proofs.Locks.{holder, names}
use Rattle.ft_trace.proofs.OddVersions.{writer_has}
use Rattle.ft_trace.proofs.Announcing.{fits}
use Rattle.ft_trace.proofs.Budgets.{number_low}
use Rattle.ft_trace.proofs.Totals.{total_set, left_total}
use Rattle.ft_trace.proofs.Pieces.{block_at, table_at}
use Rattle.ft_trace.proofs.Contents.{unwritten}
use Rattle.ft_trace.proofs.EarlierMoments.{was}
use Rattle.ft_trace.proofs.RisingStamps.{counter_rises}
use Rattle.ft_trace.proofs.Anew.{found_table, is_new}
use Rattle.ft_trace.proofs.Images.{IsInHand}
use Rattle.ft_trace.proofs.Held.{words_known, content_known, read_known, own_table_known, table_known, held_stands}
use Rattle.ft_bank.specs.Rules.{Acted}
use Rattle.ft_bank.specs.Locks.{KeepsOthers}
use Rattle.ft_bank.specs.WriteSteps.{KeepsUnwritten}
use Rattle.ft_bank.proofs.Allowed.{acted_possible, acted_knows}
use Rattle.ft_bank.proofs.BoxedSteps.{unboxed_stays}

-- a lock word that isn't 0 is the number of another pass
pub other_pass : (v : View) (o f : ℕ) (s : Snap) → o < container_count v.shape → has_lock o v.log ≡ false → f ≢ 0 → Acted v (Lock o f s) → (f ≢ v.number) × (f ≤ v.shape.passes) × (f ≤ 64)
other_pass v o f s low free some_one d =
    let k = v.shape in
    let es = d.0 in
    let valid = d.2.0 in
    let here = d.2.1.0 in
    let is : f ≡ word k es (lock_of o) = d.2.1.2 in
    let h = holder k es valid o low (λ none. some_one (is ∙ none)) in
    let its : f ≡ h.1.number = is ∙ names k es valid o low h.0 h.1 h.2 h.3 in
    let most = number_low k es (fits k es valid).some_pass valid h.0 h.1 h.2 in
    let few = (fits k es valid).passes in (
      (λ same.
          let one : h.0 ≡ d.1 = same_seat k es valid h.0 d.1 h.1 v h.2 here (holder_lives k es valid h.0 h.1 h.2 o h.3) (sym its ∙ same) in
          let u : h.1 ≡ v = some-injective h.1 v (sym h.2 ∙ (ap (get_elem? (run k es).views) one ∙ here)) in
          true≢false (sym (subst (λ (z : View). has_lock o z.log ≡ true) u h.3) ∙ free)),
      omega (arith, its, most),
      omega (arith, its, most, few),
    )

-- with the lock the pass knows words that stand for what it knows of the content
pub lock_stands : (v : View) (o : ℕ) (s : Snap) → o < container_count v.shape → has_lock o v.log ≡ false → Acted v (Lock o 0 s) → Represents v.shape.texts (held_unboxed o (view_after (Lock o 0 s) v)) (known_state o (view_after (Lock o 0 s) v))
lock_stands v o s low free d =
    let quiet : is_writing o v.log ≡ false = not_true (is_writing o v.log) (λ w. true≢false (sym (writer_has v.shape d.0 d.2.0 o d.1 v d.2.1.0 w) ∙ free)) in
    held_stands (view_after (Lock o 0 s) v) o low (acted_possible v (Lock o 0 s) d) (hit o true (has_lock o v.log)) quiet

-- and it knows the same of the other containers that it has
pub lock_keeps : (v : View) (o f : ℕ) (s : Snap) → Acted v (Lock o f s) → KeepsOthers o v (view_after (Lock o f s) v)
lock_keeps v o f s d p low other mine =
    let k = v.shape in
    let is = d.2.1.3.2 in (
      ap (λ (z : Snap). picture k p z.words) is ∙ sym (words_known v p low mine d.0 d.1 (d.2.0, d.2.1.0)),
      ap (λ (z : Snap). container_after k.starts z.calls p) is ∙ sym (content_known v p mine d.0 d.1 (d.2.0, d.2.1.0)),
      ap (λ (z : Snap). unboxed_picture k p z.words) is ∙ sym (read_known v p low mine d.0 d.1 (d.2.0, d.2.1.0)),
    )

-- a load with the lock finds what the pass knows
pub block_found : (v : View) (o i n : ℕ) → o < container_count v.shape → i < 6 → has_lock o v.log ≡ true → Acted v (ReadBlock o i n) → n ≡ slice_index (held_words o v).block i
block_found v o i n low small mine d =
    let k = v.shape in
    let is : n ≡ word k d.0 (block o i) = d.2.1.2 in
    is ∙ (sym (block_at k o (run k d.0).words i small) ∙ ap (λ (x : ContainerWords). slice_index x.block i) (sym (words_known v o low mine d.0 d.1 (d.2.0, d.2.1.0))))

-- a root that is read names a table, which is new to the pass where the root has changed
pub root_found : (v : View) (o n : ℕ) → o < container_count v.shape → Acted v (ReadRoot o n) → ((t : ℕ) → n ≡ suc t → IsTableName v.shape t) × IsNew o n v.log
root_found v o n low d =
    let p = acted_possible v (ReadRoot o n) d in (
      (λ t e. found_table v.shape p.0 p.2.0 p.1 (view_after (ReadRoot o n) v) p.2.1 o t low v.log (ap (λ (z : ℕ). ReadRoot o z ∷ v.log) e)),
      is_new v.shape p.0 p.2.0 p.1 (view_after (ReadRoot o n) v) p.2.1 o n low v.log refl,
    )

-- a number that a load of the counter gave is at most the counter
pub loaded_low : (v : View) (n : ℕ) → Loaded n v.log → Sure v (λ es. n ≤ word v.shape es counter)
loaded_low v n l es id knows =
    let k = v.shape in
    let w = was k es knows.0 id v knows.1 l.newer (ReadCounter n) l.rest l.is in
    let found : n ≡ word k w.older counter = w.tells in
    let up = counter_rises k w.newer w.older (subst (Valid k) (sym w.split) knows.0) w.valid in
    let now : word k (w.newer ++ w.older) counter ≡ word k es counter = ap (λ (z : List Event). word k z counter) w.split in
    omega (arith, found, up, now)

-- the calls that are left to a pass are some of those of the bank
pub left_low : (v : View) (a : Act) → Acted v a → v.left ≤ v.shape.passes * v.shape.calls
left_low v a d =
    let t = total_set (λ (u : View). u.left) (run v.shape d.0).views d.1 v spent d.2.1.0 in
    let l = left_total v.shape d.0 d.2.0 in
    omega (arith, t, l)

-- a load of a word of the table of a container whose lock the pass has, or of a table in its hand: one that is fresh, or
-- that it took out of a root and hasn't retired
pub table_found : (v : View) (o t i n : ℕ) → o < container_count v.shape → i < size (class_of t) → has_lock o v.log ≡ true → root_in (held_words o v) ≡ suc t → Acted v (ReadTable t i n) → n ≡ slice_index (held_words o v).table i
table_found v o t i n low small mine names d =
    let k = v.shape in
    let is : n ≡ word k d.0 (cell t i) = d.2.1.2 in
    is ∙ (sym (table_at k t (run k d.0).words i small) ∙ ap (λ (x : List ℕ). slice_index x i) (sym (table_known v o low t mine names d.0 d.1 (d.2.0, d.2.1.0)).0))

pub hand_found : (v : View) (t i n : ℕ) → IsTableName v.shape t → i < size (class_of t) → IsInHand (stage t v.log) → Acted v (ReadTable t i n) → n ≡ slice_index (in_hand t v) i
hand_found v t i n table small mine d =
    let k = v.shape in
    let is : n ≡ word k d.0 (cell t i) = d.2.1.2 in
    is ∙ (sym (table_at k t (run k d.0).words i small) ∙ ap (λ (x : List ℕ). slice_index x i) (sym (own_table_known v t table mine d.0 d.1 (d.2.0, d.2.1.0))))

-- what a pass does leaves what it knows of the containers that it has and doesn't write
pub keeps_unwritten : (v : View) (a : Act) → ((p : ℕ) (b : Bool) → has_lock_next p a b ≡ b) → Acted v a → KeepsUnwritten v (view_after a v)
keeps_unwritten v a locks d p low mine quiet =
    let k = v.shape in
    let es = d.0 in
    let w = view_after a v in
    let now = did d.1 v a ∷ es in
    let next = acted_knows v a d in
    let still = unwritten k es d.1 v a d.2 p low (λ (writes : is_writing p v.log ≡ true). true≢false (sym writes ∙ quiet)) in
    let has : has_lock p w.log ≡ true = locks p (has_lock p v.log) ∙ mine in (
      words_known w p low has now d.1 next ∙ (still.picture ∙ sym (words_known v p low mine es d.1 (d.2.0, d.2.1.0))),
      content_known w p has now d.1 next ∙ (still.content ∙ sym (content_known v p mine es d.1 (d.2.0, d.2.1.0))),
      unboxed_stays v a p low d mine has still.picture,
    )
