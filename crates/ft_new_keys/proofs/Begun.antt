-- A dict or a set whose root was put: the pass holds the references that deleted entries have of the table which was taken
-- out, and drops them.
use Rattle.std.proofs.Common.{◌≡◌, ◌≢◌, ℕ, suc, ◌+◌, ◌<◌, ◌≤◌, true, cond, Option, Some, None, refl, sym, ap, ◌∙◌, subst, arith, get_or-set_same}
use Rattle.std.specs.Prelude.{◌==◌, slice_set}
use Rattle.ft_trace.specs.declared.Act.TheVariants.{StartWrite, PutRoot}
use Rattle.ft_model.specs.declared.script.Kind.{Kind}
use Rattle.ft_trace.specs.declared.Shape.{Shape}
use Rattle.ft_trace.specs.declared.View.{View}
use Rattle.ft_trace.specs.Acts.{has_lock, is_writing, mem, stage, view_after}
use Rattle.ft_trace.specs.Addresses.{container_count, IsTableName}
use Rattle.ft_trace.specs.Boxes.{named_in_root, references_held, IsSettled}
use Rattle.ft_trace.specs.ContainerStates.{kind_in}
use Rattle.ft_trace.specs.Holds.{held_words, held_unboxed, in_hand}
use Rattle.ft_trace.specs.Pictures.{root_in}
use Rattle.ft_trace.specs.Traces.{IsReachable}
use Rattle.ft_trace.proofs.Cases.{hit, miss}
use Rattle.ft_trace.proofs.Pieces.{block_long}
use Rattle.ft_bank.specs.declared.table.Table.{Table}
use Rattle.ft_bank.specs.SameBoxes.{named_in_words, MovesReferences, SameMade, SameReferences, StaysSettled}
use Rattle.ft_bank.specs.TableNames.{table_id, root_for, IsTableIn}
use Rattle.ft_bank.specs.Whole.{OnlyBoxed}
use Rattle.ft_bank.specs.WriteSteps.{KeepsUnwritten}
use Rattle.ft_bank.proofs.DoneBoxes.{stays_settled_same}
use Rattle.ft_bank.proofs.KnownAfterWrites.{boxed_written}
use Rattle.ft_bank.proofs.TableAddresses.{named}
use Rattle.ft_bank.proofs.WordsPut.{taken_words}
use Rattle.ft_search.specs.OneEntryWrites.{WritesEntries}
use Rattle.ft_search.proofs.Overs.{boxed_held}
use Rattle.ft_search.proofs.Puts.{few_same}
use Rattle.ft_new_keys.specs.KeyGrowth.{BeginsIn, MayBeginKeyed}
use Rattle.ft_new_keys.specs.Moving.{HasMoved, HoldsGone, gone_in_old, gone_in_root, live_in_root}
use Rattle.ft_new_keys.proofs.GoneEntries.{split_names}
use Rattle.ft_new_keys.proofs.Keyed.{fresh_other}

module _ (k : Shape) (o : ℕ) (old : Option Table) (table : Table) (v s r : View) (f : ℕ) (shape : v.shape ≡ k) (possible : ∥ IsReachable v ∥₁) (may : MayBeginKeyed k o old table v) (carried : HasMoved k o table v) (started : s ≡ view_after (StartWrite o f) v)
    (put : r ≡ view_after (PutRoot o (suc (table_id table)) (root_in (held_words o s))) s) (keeps : KeepsUnwritten s r) (moves : MovesReferences o s r) (held : held_words o r ≡ record { block = slice_set (held_words o s).block 0 (suc (table_id table)); table = in_hand (table_id table) s }) where
  abbrev begun : View
  begun = view_after (StartWrite o f) v

  pub is_rooted : r ≡ view_after (PutRoot o (suc (table_id table)) (root_in (held_words o v))) begun
  is_rooted = put ∙ (λ d. view_after (PutRoot o (suc (table_id table)) (root_in (held_words o (started d)))) (started d))

  keeps_begun : KeepsUnwritten begun r
  keeps_begun = subst (λ (z : View). KeepsUnwritten z r) started keeps

  moves_begun : MovesReferences o begun r
  moves_begun = subst (λ (z : View). MovesReferences o z r) started moves

  held_begun : held_words o r ≡ record { block = slice_set (held_words o v).block 0 (suc (table_id table)); table = in_hand (table_id table) v }
  held_begun = held ∙ (λ d. record { block = slice_set (held_words o (started d)).block 0 (suc (table_id table)); table = in_hand (table_id table) (started d) })

  shape_r : r.shape ≡ v.shape
  shape_r = ap (λ (z : View). z.shape) is_rooted

  low : o < container_count v.shape
  low = subst (λ (z : Shape). o < container_count z) (sym shape) may.keyed.container

  made_r : SameMade v r
  made_r = subst (SameMade v) (sym is_rooted) (record { state = λ b. refl; local = λ b. refl; taken = λ b. refl; places = λ b. refl; uses = λ b. refl; raised = λ b. refl })

  root_r : root_in (held_words o r) ≡ suc (table_id table)
  root_r =
      ap root_in held_begun
      ∙ get_or-set_same (held_words o v).block 0 (suc (table_id table)) 0 (let long = block_long v.shape o (mem v.shape v.log) in omega (arith, long))

  abbrev kd : Kind
  kd = kind_in k.starts o

  abbrev gone : ℕ → ℕ
  gone b = gone_in_root b kd (root_in (held_words o v)) (held_words o v).table

  -- the words name the boxes of the entries that are there
  named_r : (b : ℕ) → named_in_words b (kind_in r.shape.starts o) (held_words o r) ≡ live_in_root b kd (root_in (held_words o v)) (held_words o v).table
  named_r b = (λ d. named_in_root b (kind_in ((shape_r ∙ shape) d).starts o) (root_r d) (held_begun d).table) ∙ carried.names b

  -- the references of the deleted ones came to the pass
  refs_r : (b : ℕ) → references_held k b r.log ≡ references_held k b v.log + gone b
  refs_r b =
      let moved = moves_begun b in
      let names = named_r b in
      let both = split_names b kd (root_in (held_words o v)) (held_words o v).table in
      let all : named_in_words b (kind_in v.shape.starts o) (held_words o v) ≡ named_in_root b kd (root_in (held_words o v)) (held_words o v).table = ap (λ (z : Shape). named_in_words b (kind_in z.starts o) (held_words o v)) shape in
      let now : references_held r.shape b r.log ≡ references_held k b r.log = ap (λ (z : Shape). references_held z b r.log) (shape_r ∙ shape) in
      let was : references_held v.shape b v.log ≡ references_held k b v.log = ap (λ (z : Shape). references_held z b v.log) shape in
      omega (arith, moved, names, both, all, now, was)

  -- ---- the table that was taken out

  module _ (t : Table) (has : old ≡ Some t) where
    was_in : IsTableIn k t
    was_in = may.keyed.table_in t has

    was_root : root_in (held_words o v) ≡ suc (table_id t)
    was_root = may.keyed.root ∙ ap root_for has

    other : suc (table_id table) ≢ suc (table_id t)
    other e = fresh_other k v o table shape possible may.keyed.container may.keyed.locked may.table_in may.fresh (was_root ∙ sym e)

    pub was_out : IsTableIn k t × (stage (table_id t) r.log ≡ 3)
    was_out =
        let n = stage (table_id t) v.log in (
          was_in,
          ap (λ (z : View). stage (table_id t) z.log) is_rooted
              ∙ (miss (suc (table_id table)) (suc (table_id t)) 0 (cond (root_in (held_words o v) == suc (table_id t)) 3 n) other
              ∙ (ap (λ (z : ℕ). cond (z == suc (table_id t)) 3 n) was_root ∙ hit (suc (table_id t)) 3 n)),
        )

    was_hand : in_hand (table_id t) r ≡ (held_words o v).table
    was_hand =
        ap (λ (z : View). in_hand (table_id t) z) is_rooted
        ∙ taken_words begun o (table_id t) (suc (table_id table)) (root_in (held_words o v)) low (subst (λ (z : Shape). IsTableName z (table_id t)) (sym shape) (named k t was_in)) was_root

    was_gone : (b : ℕ) → gone_in_old k o (Some t) r b ≡ gone b
    was_gone b = λ d. gone_in_root b kd (sym was_root d) (was_hand d)

  gone_is : (b : ℕ) → gone_in_old k o old r b ≡ gone b
  gone_is b = by old refl
    where
      by : (any : Option Table) → old ≡ any → gone_in_old k o any r b ≡ gone b
      by (Some t) has_it = was_gone t has_it b
      by None has_it = λ d. gone_in_root b kd (sym (may.keyed.root ∙ ap root_for has_it) d) (held_words o v).table

  pub settled_r : IsSettled r.log
  settled_r = (stays_settled_same v r made_r).settled may.settled

  pub held_gone : HoldsGone k o old r
  held_gone b = let is = gone_is b in let refs = refs_r b in omega (arith, is, refs)

  -- ---- after the drop

  module _ (w : View) (boxed : OnlyBoxed r w) (made : StaysSettled r w) (dropped : (b : ℕ) → references_held k b w.log + gone_in_old k o old r b ≡ references_held k b r.log) where
    shape_w : w.shape ≡ k
    shape_w = boxed.work.pass.shape ∙ (shape_r ∙ shape)

    fewer : (b : ℕ) → references_held w.shape b w.log ≤ references_held r.shape b r.log
    fewer b =
        let less = dropped b in
        let now : references_held w.shape b w.log ≡ references_held k b w.log = ap (λ (z : Shape). references_held z b w.log) shape_w in
        let was : references_held r.shape b r.log ≡ references_held k b r.log = ap (λ (z : Shape). references_held z b r.log) (shape_r ∙ shape) in
        omega (arith, less, now, was)

    -- the pass holds what it held before the write
    pub begun_references : SameReferences v w
    begun_references b =
        let less = dropped b in
        let is = gone_is b in
        let refs = refs_r b in
        let now : references_held w.shape b w.log ≡ references_held k b w.log = ap (λ (z : Shape). references_held z b w.log) shape_w in
        let was : references_held v.shape b v.log ≡ references_held k b v.log = ap (λ (z : Shape). references_held z b v.log) shape in
        omega (arith, less, is, refs, now, was)

    pub begins : BeginsIn o table v w
    begins = record {
      found = f;
      rooted = r;
      is = is_rooted;
      keeps = keeps_begun;
      moves = moves_begun;
      only = boxed_written o r w boxed made fewer;
    }

    pub begun_writes : WritesEntries k o table w
    begun_writes = record {
      container = may.keyed.container;
      keyed = may.keyed.keyed;
      table_in = may.table_in;
      locked = boxed.work.pass.locks o ∙ (ap (λ (z : View). has_lock o z.log) is_rooted ∙ may.keyed.locked);
      odd = boxed.work.pass.writes o ∙ (ap (λ (z : View). is_writing o z.log) is_rooted ∙ hit o true (is_writing o v.log));
      root = ap root_in (boxed_held r w o boxed) ∙ root_r;
      settled = made.settled settled_r;
      few = few_same v w begun_references may.few;
    }

    pub begun_words : held_unboxed o w ≡ held_unboxed o r
    begun_words =
        boxed.unboxed o (subst (λ (z : Shape). o < container_count z) (sym shape_r) low)
        (ap (λ (z : View). has_lock o z.log) is_rooted ∙ may.keyed.locked)
