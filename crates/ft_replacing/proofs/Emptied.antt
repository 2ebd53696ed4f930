-- A dict or a set that gets another table, once its own was taken out of its root: what the pass knows of the new table
-- then, and of other containers.
use Rattle.std.proofs.Common.{◌≡◌, ◌≢◌, ℕ, suc, ◌<◌, true, false, List, Option, None, sym, ap, ◌∙◌, subst, arith, get_or-set_other}
use Rattle.std.specs.Prelude.{slice_index, slice_set}
use Rattle.ft_trace.specs.declared.Act.TheVariants.{PutRoot, StartWrite}
use Rattle.ft_trace.specs.declared.Shape.{Shape}
use Rattle.ft_trace.specs.declared.View.{View}
use Rattle.ft_trace.specs.Acts.{has_lock, is_writing, mem, view_after, stage}
use Rattle.ft_trace.specs.Addresses.{container_count, class_of, size, at, block, cell, IsTableName}
use Rattle.ft_trace.specs.Holds.{held_words, held_unboxed, in_hand}
use Rattle.ft_trace.specs.Traces.{IsReachable}
use Rattle.ft_trace.specs.Pictures.{root_in}
use Rattle.ft_trace.proofs.Addresses.{at_apart}
use Rattle.ft_trace.proofs.Cases.{miss}
use Rattle.ft_trace.proofs.Pieces.{table_same}
use Rattle.ft_bank.specs.declared.table.Table.{Table}
use Rattle.ft_bank.specs.TableNames.{table_id}
use Rattle.ft_bank.specs.SameBoxes.{MovesReferences}
use Rattle.ft_bank.specs.WriteSteps.{KeepsUnwritten, with_unboxed_root}
use Rattle.ft_bank.proofs.TableAddresses.{named}
use Rattle.ft_new_keys.specs.KeyGrowth.{MayGrowKeyed}
use Rattle.ft_new_keys.proofs.Keyed.{Heads}
use Rattle.ft_replacing.specs.Sharing.{NamesLocked}
use Rattle.ft_replacing.proofs.NamedRows.{SameBut}

-- a root that is put leaves the words of a table
hand_stays : (k : Shape) (o t x : ℕ) (ws : List ℕ) → o < container_count k → IsTableName k t → (i : ℕ) → i < size (class_of t) → slice_index (slice_set ws (at k (block o 0)) x) (at k (cell t i)) ≡ slice_index ws (at k (cell t i))
hand_stays k o t x ws low table i small =
    get_or-set_other ws (at k (block o 0)) (at k (cell t i)) x 0
    (λ e. let same = at_apart k (cell t i) (block o 0) (table, small) (low, omega arith) e in absurd (cc))

-- The pass knew v, where the table is fresh in its hand. It made the version of the container o odd, and put 0 into its
-- root: then it knows r.
pub record Emptied (k : Shape) (o : ℕ) (old : Option Table) (table : Table) (f : ℕ) (v s r : View) : Type 0 where
  pub heads : Heads
  pub may : MayGrowKeyed k o old table v
  pub shape : v.shape ≡ k
  pub possible : ∥ IsReachable v ∥₁
  pub other : root_in (held_unboxed o v) ≢ suc (table_id table)
  pub named : NamesLocked k o (table_id table) v
  pub started : s ≡ view_after (StartWrite o f) v
  pub rooted : r ≡ view_after (PutRoot o 0 (root_in (held_words o s))) s
  pub root_held : held_unboxed o r ≡ with_unboxed_root (held_unboxed o s) o None s
  pub moves : MovesReferences o s r
  pub keeps : KeepsUnwritten s r

module _ (k : Shape) (o : ℕ) (old : Option Table) (table : Table) (f : ℕ) (v s r : View) (e : Emptied k o old table f v s r) where
  abbrev t : ℕ
  t = table_id table

  pub rooted_twice : r ≡ view_after (PutRoot o 0 (root_in (held_words o v))) (view_after (StartWrite o f) v)
  rooted_twice = e.rooted ∙ ap (λ (z : View). view_after (PutRoot o 0 (root_in (held_words o z))) z) e.started

  pub shape_emptied : r.shape ≡ v.shape
  shape_emptied = ap (λ (z : View). z.shape) rooted_twice

  pub locks_emptied : (p : ℕ) → has_lock p r.log ≡ has_lock p v.log
  locks_emptied p = ap (λ (z : View). has_lock p z.log) rooted_twice

  -- the new table is as it was
  pub hand_emptied : in_hand t r ≡ in_hand t v
  hand_emptied =
      ap (λ (z : View). in_hand t z) rooted_twice
      ∙ table_same v.shape t (slice_set (mem v.shape v.log) (at v.shape (block o 0)) 0) (mem v.shape v.log)
      (hand_stays v.shape o t 0 (mem v.shape v.log) (subst (λ (z : Shape). o < container_count z) (sym e.shape) e.may.keyed.container) (subst (λ (z : Shape). IsTableName z t) (sym e.shape) (named k table e.may.table_in)))

  pub fresh_emptied : stage t r.log ≡ 1
  fresh_emptied =
      ap (λ (z : View). stage t z.log) rooted_twice
      ∙ (miss 0 (suc t) 0 _ (λ x. absurd (omega (arith, x))) ∙ (miss (root_in (held_unboxed o v)) (suc t) 3 (stage t v.log) e.other ∙ e.may.fresh))

  -- and so is each other container
  pub others_emptied : SameBut k o v r
  others_emptied q low ne mine =
      let quiet : is_writing q s.log ≡ false = ap (λ (z : View). is_writing q z.log) e.started ∙ (miss o q true (is_writing q v.log) (λ x. ne (sym x)) ∙ e.may.even q) in
      let shape_s : s.shape ≡ k = ap (λ (z : View). z.shape) e.started ∙ e.shape in
      let low_s : q < container_count s.shape = subst (λ (z : Shape). q < container_count z) (sym shape_s) low in
      let mine_s : has_lock q s.log ≡ true = ap (λ (z : View). has_lock q z.log) e.started ∙ mine in
      let put = e.keeps q low_s mine_s quiet in
      (put.0 ∙ ap (λ (z : View). held_words q z) e.started, put.2 ∙ ap (λ (z : View). held_unboxed q z) e.started)
