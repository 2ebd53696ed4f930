-- What a pass knows once it has put another root of a list, and has dropped what the old table named.
use Rattle.std.proofs.Common.{◌≡◌, ◌≢◌, ℕ, suc, ◌+◌, ◌<◌, true, false, eqb, cond, ◌∷◌, Option, Some, None, refl, sym, ap, ◌∙◌, subst, arith, get_or-set_same}
use Rattle.std.specs.Prelude.{slice_index, slice_set}
use Rattle.ft_layout.proofs.KindLaws.{head_of}
use Rattle.ft_trace.specs.declared.Act.TheVariants.{StartWrite, PutRoot}
use Rattle.ft_trace.specs.declared.Shape.{Shape}
use Rattle.ft_trace.specs.declared.View.{View}
use Rattle.ft_trace.specs.Acts.{has_lock, is_writing, stage, stage_next, view_after}
use Rattle.ft_trace.specs.Addresses.{container_count, IsTableName}
use Rattle.ft_trace.specs.Boxes.{named_in_root, references_held, IsSettled}
use Rattle.ft_trace.specs.ContainerStates.{kind_in}
use Rattle.ft_trace.specs.Holds.{held_words, held_unboxed, known_state, in_hand}
use Rattle.ft_trace.specs.Pictures.{root_in}
use Rattle.ft_trace.proofs.Cases.{hit, miss}
use Rattle.ft_bank.specs.declared.table.Table.{Table}
use Rattle.ft_bank.specs.SameBoxes.{MovesReferences, SameMade, SameReferences, StaysSettled, named_in_words}
use Rattle.ft_bank.specs.TableNames.{root_for, words_for}
use Rattle.ft_bank.specs.Whole.{OnlyBoxed, OnlyWritten}
use Rattle.ft_bank.specs.WriteSteps.{with_root, with_unboxed_root}
use Rattle.ft_bank.proofs.DoneBoxes.{none_named, stays_settled_same}
use Rattle.ft_bank.proofs.KnownAfterWrites.{boxed_written, work_knows}
use Rattle.ft_bank.proofs.WordsPut.{taken_words}
use Rattle.ft_table_calls.specs.Dropping.{HoldsNamed}
use Rattle.ft_table_calls.proofs.Dropped.{dropped_named, holds_named}
use Rattle.ft_list.specs.Internal.NewListTables.{HasRooted, KnowsList}

module _ (o root : ℕ) (v w : View) (h : HasRooted o root v w) where
  pub rooted_known : (p : ℕ) → known_state p w ≡ known_state p v
  rooted_known p = work_knows h.rooted w p h.only.work ∙ ap (λ (z : View). known_state p z) h.did

  pub rooted_locks : (p : ℕ) → has_lock p w.log ≡ has_lock p v.log
  rooted_locks p = h.only.work.pass.locks p ∙ ap (λ (z : View). has_lock p z.log) h.did

  -- the list is written
  pub rooted_odd : is_writing o w.log ≡ true
  rooted_odd = h.only.work.pass.writes o ∙ (ap (λ (z : View). is_writing o z.log) h.did ∙ hit o true (is_writing o v.log))

  -- and no other
  pub rooted_writes : (p : ℕ) → p ≢ o → is_writing p w.log ≡ is_writing p v.log
  rooted_writes p ne = h.only.work.pass.writes p ∙ (ap (λ (z : View). is_writing p z.log) h.did ∙ miss o p true (is_writing p v.log) (λ e. ne (sym e)))

  -- another container reads the same, where the pass has its lock and doesn't write it
  pub rooted_other : (p : ℕ) → p ≢ o → p < container_count v.shape → has_lock p v.log ≡ true → is_writing p v.log ≡ false → (held_unboxed p w ≡ held_unboxed p v) × (has_lock p w.log ≡ has_lock p v.log) × (is_writing p w.log ≡ is_writing p v.log)
  rooted_other p ne low mine quiet =
      let started : is_writing p (view_after (StartWrite o h.start) v).log ≡ is_writing p v.log = miss o p true (is_writing p v.log) (λ e. ne (sym e)) in
      let put : held_unboxed p h.rooted ≡ held_unboxed p v = (h.keeps p low mine (started ∙ quiet)).2 in
      let shape : h.rooted.shape ≡ v.shape = ap (λ (z : View). z.shape) h.did in
      let still = h.only.others p (subst (λ (z : Shape). p < container_count z) (sym shape) low) ne (ap (λ (z : View). has_lock p z.log) h.did ∙ mine) (ap (λ (z : View). is_writing p z.log) h.did ∙ (started ∙ quiet)) in
      (still.1 ∙ put, rooted_locks p, rooted_writes p ne)

  -- its words as they stand
  pub rooted_raw : (p : ℕ) → p ≢ o → p < container_count v.shape → has_lock p v.log ≡ true → is_writing p v.log ≡ false → held_words p w ≡ held_words p v
  rooted_raw p ne low mine quiet =
      let started : is_writing p (view_after (StartWrite o h.start) v).log ≡ is_writing p v.log = miss o p true (is_writing p v.log) (λ e. ne (sym e)) in
      let put : held_words p h.rooted ≡ held_words p v = (h.keeps p low mine (started ∙ quiet)).0 in
      let shape : h.rooted.shape ≡ v.shape = ap (λ (z : View). z.shape) h.did in
      let still = h.only.others p (subst (λ (z : Shape). p < container_count z) (sym shape) low) ne (ap (λ (z : View). has_lock p z.log) h.did ∙ mine) (ap (λ (z : View). is_writing p z.log) h.did ∙ (started ∙ quiet)) in
      still.0 ∙ put

-- the start of a write leaves what is put then
pub start_reads : (o f : ℕ) (v : View) (any : Option Table) → with_unboxed_root (held_unboxed o (view_after (StartWrite o f) v)) o any (view_after (StartWrite o f) v) ≡ with_unboxed_root (held_unboxed o v) o any v
start_reads o f v None = refl
start_reads o f v (Some t) = refl

-- ---- right after the root was put

module _ (k : Shape) (o : ℕ) (old root : Option Table) (v s r : View) (f : ℕ) (shape : v.shape ≡ k) (list : KnowsList k o old v) (settled : IsSettled v.log) (begun : s ≡ view_after (StartWrite o f) v) (put : r ≡ view_after (PutRoot o (root_for root) (root_in (held_words o s))) s) (held : held_words o r ≡ with_root (held_words o s) root s) (moves : MovesReferences o s r) where
  pub put_is : r ≡ view_after (PutRoot o (root_for root) (root_in (held_words o v))) (view_after (StartWrite o f) v)
  put_is = put ∙ ap (λ (z : View). view_after (PutRoot o (root_for root) (root_in (held_words o z))) z) begun

  pub put_shape : r.shape ≡ v.shape
  put_shape = ap (λ (z : View). z.shape) put_is

  pub put_moves : MovesReferences o v r
  put_moves = subst (λ (z : View). MovesReferences o z r) begun moves

  pub put_made : SameMade v r
  put_made = subst (SameMade v) (sym put_is) (record { state = λ b. refl; local = λ b. refl; taken = λ b. refl; places = λ b. refl; uses = λ b. refl; raised = λ b. refl })

  pub put_here : o < container_count r.shape
  put_here = subst (λ (z : Shape). o < container_count z) (sym (put_shape ∙ shape)) list.container

  pub put_mine : has_lock o r.log ≡ true
  put_mine = ap (λ (z : View). has_lock o z.log) put_is ∙ list.locked

  start_leaves : (any : Option Table) → with_root (held_words o (view_after (StartWrite o f) v)) any (view_after (StartWrite o f) v) ≡ with_root (held_words o v) any v
  start_leaves None = refl
  start_leaves (Some t) = refl

  -- its words name what the table in hand named
  pub put_names : (b : ℕ) → named_in_words b (kind_in r.shape.starts o) (held_words o r) ≡ named_in_root b (kind_in v.shape.starts o) (root_for root) (words_for root v)
  put_names b =
      let size = (head_of k.texts (held_unboxed o v).block (0 ∷ 0 ∷ (held_unboxed o v).table) (known_state o v).table (known_state o v).content list.stands).size in
      -- the start of a write leaves the words
      let started : with_root (held_words o (view_after (StartWrite o f) v)) root (view_after (StartWrite o f) v) ≡ with_root (held_words o v) root v = start_leaves root in
      let is : held_words o r ≡ with_root (held_words o v) root v = held ∙ ap (λ (z : View). with_root (held_words o z) root z) begun ∙ started in
      let first : slice_index (slice_set (held_words o v).block 0 (root_for root)) 0 ≡ root_for root = get_or-set_same (held_words o v).block 0 (root_for root) 0 (omega (arith, size)) in
      (λ d. named_in_words b (kind_in (put_shape d).starts o) (is d)) ∙ (λ d. named_in_root b (kind_in v.shape.starts o) (first d) (words_for root v))

  pub put_settled : IsSettled r.log
  put_settled = (stays_settled_same v r put_made).settled settled

  -- where that is what the old table named, the pass holds the references that it held
  pub put_moved : ((b : ℕ) → named_in_root b (kind_in v.shape.starts o) (root_for root) (words_for root v) ≡ named_in_words b (kind_in v.shape.starts o) (held_words o v)) → SameReferences v r
  put_moved same b =
      let sum = put_moves b in
      let now = put_names b in
      let was = same b in
      omega (arith, sum, now, was)

  -- where it names no box
  module _ (plain : (b : ℕ) → named_in_root b (kind_in v.shape.starts o) (root_for root) (words_for root v) ≡ 0) where
    pub put_plain : (b : ℕ) → named_in_words b (kind_in r.shape.starts o) (held_words o r) ≡ 0
    put_plain b = put_names b ∙ plain b

    -- a list that had no table
    pub put_same : root_in (held_words o v) ≡ 0 → SameReferences v r
    put_same bare b =
        let sum = put_moves b in
        let none = put_plain b in
        let was = none_named b (kind_in v.shape.starts o) (held_words o v) bare in
        omega (arith, sum, none, was)

    -- one that had this table: it is in the pass's hand, with the references of the boxes that it names
    module _ (t : ℕ) (names : root_in (held_words o v) ≡ suc t) (in_bank : IsTableName k t) (other : suc t ≢ root_for root) where
      pub old_out : stage t r.log ≡ 3
      old_out =
          let n = stage t v.log in
          let new = root_for root in
          ap (λ (z : View). stage t z.log) put_is
          ∙ ((λ i. stage_next t (PutRoot o new (names i)) n)
          ∙ (miss new (suc t) 0 (cond (eqb (suc t) (suc t)) 3 n) (λ e. other (sym e)) ∙ hit (suc t) 3 n))

      old_hand : in_hand t r ≡ (held_words o v).table
      old_hand =
          ap (in_hand t) put_is
          ∙ taken_words (view_after (StartWrite o f) v) o t (root_for root) (root_in (held_words o v)) (subst (λ (z : Shape). o < container_count z) (sym shape) list.container) (subst (λ (z : Shape). IsTableName z t) (sym shape) in_bank) names

      pub old_held : HoldsNamed k o t r
      old_held = holds_named k o t v r shape put_shape put_moves names old_hand put_plain

      -- after the drop of all that the old table named
      module _ (w : View) (boxed : OnlyBoxed r w) (made : StaysSettled r w) (dropped : (b : ℕ) → references_held k b w.log + named_in_root b (kind_in k.starts o) (suc t) (in_hand t r) ≡ references_held k b r.log) where
        pub dropped_settled : IsSettled w.log
        dropped_settled = made.settled put_settled

        pub dropped_same : SameReferences v w
        dropped_same = dropped_named k o t v r w shape put_shape boxed.work.pass.shape put_moves names old_hand put_plain dropped

        pub dropped_only : OnlyWritten o r w
        dropped_only = boxed_written o r w boxed made (λ b.
            let less = dropped b in
            let now : references_held w.shape b w.log ≡ references_held k b w.log = ap (λ (z : Shape). references_held z b w.log) (boxed.work.pass.shape ∙ (put_shape ∙ shape)) in
            let was : references_held r.shape b r.log ≡ references_held k b r.log = ap (λ (z : Shape). references_held z b r.log) (put_shape ∙ shape) in
            omega (arith, less, now, was))

        pub dropped_reads : held_unboxed o w ≡ held_unboxed o r
        dropped_reads = boxed.unboxed o put_here put_mine
