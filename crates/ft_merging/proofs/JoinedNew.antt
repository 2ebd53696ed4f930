-- The beginning of a write that joins another container to a dict or a set, in a new table.
use Rattle.std.proofs.Common.{◌≡◌, ◌≢◌, ℕ, suc, ◌+◌, ◌^◌, ◌%◌, ◌<◌, ◌≤◌, false, ◌∷◌, Option, Some, sym, ap, ◌∙◌, subst, arith}
use Rattle.std.specs.Prelude.{slice_set}
use Rattle.ft_model.specs.declared.content.Content.{Content}
use Rattle.ft_model.specs.TableUses.{passes_cap}
use Rattle.ft_model.specs.Worlds.{kind_of, length_of, serial_of}
use Rattle.ft_layout.specs.Containers.{StandsAs}
use Rattle.ft_keys.specs.declared.walk.Way.{Way}
use Rattle.ft_trace.specs.declared.Shape.{Shape}
use Rattle.ft_trace.specs.declared.View.{View}
use Rattle.ft_trace.specs.Acts.{has_committed}
use Rattle.ft_trace.specs.Addresses.{class_of, container_count, slots}
use Rattle.ft_trace.specs.Holds.{held_words, held_unboxed, hand_unboxed, known_state}
use Rattle.ft_trace.specs.Kinds.{rows, under}
use Rattle.ft_trace.specs.Traces.{IsReachable}
use Rattle.ft_trace.specs.Pictures.{ContainerWords, entry_field, root_in, Represents}
use Rattle.ft_trace.specs.ContainerStates.{ContainerState, kind_in}
use Rattle.ft_trace.proofs.Cases.{hit}
use Rattle.ft_bank.specs.declared.table.Table.{Table}
use Rattle.ft_bank.specs.TableNames.{table_id}
use Rattle.ft_bank.specs.Whole.{OnlyWritten}
use Rattle.ft_bank.proofs.KnownAfterWrites.{work_knows, written_then}
use Rattle.ft_search.specs.Rounds.{kind_by}
use Rattle.ft_search.specs.OneEntryWrites.{WritesEntries}
use Rattle.ft_search.proofs.Changing.{kind_is}
use Rattle.ft_new_keys.specs.declared.counts.Counts.{Counts}
use Rattle.ft_new_keys.specs.Moving.{HasMoved}
use Rattle.ft_new_keys.specs.KeyGrowth.{BeginsIn, KnowsKeyed, MayGrowKeyed}
use Rattle.ft_new_keys.specs.Placing.{AreCounts, counted}
use Rattle.ft_new_keys.proofs.Keyed.{Heads, counts_known}
use Rattle.ft_new_keys.proofs.Placed.{use_with}
use Rattle.ft_new_keys.proofs.Grown.{grow_begins}
use Rattle.ft_new_keys.proofs.Rooted.{filled_says}
use Rattle.ft_merging.specs.Joining.{joined, new_keys}
use Rattle.ft_merging.specs.Internal.JoiningSteps.{IsJoining, NoneGone}
use Rattle.ft_merging.specs.Internal.EntriesAtOnce.{IsMidway, version_of}
use Rattle.ft_merging.proofs.Ending.{Laws}
use Rattle.ft_merging.proofs.Joined.{joining_begins}
use Rattle.ft_merging.proofs.JoinedPairs.{source_known}
use Rattle.ft_merging.proofs.JoinedReads.{knows_put}
use Rattle.ft_merging.proofs.JoinedStarts.{knows_rooted, same_rooted}

module _ (heads : Heads) (laws : Laws) (k : Shape) (o : ℕ) (by : Way) (old : Option Table) (new : Table) (t : ℕ) (table : Table) (counts : Counts) (more : ℕ) (x y z : View) (shape : x.shape ≡ k) (possible : ∥ IsReachable x ∥₁) (two : o ≢ t) (may : MayGrowKeyed k o old new x) (other : KnowsKeyed k t (Some table) x) (kind_eq : kind_in k.starts o ≡ kind_by by) (kind_t : kind_in k.starts t ≡ kind_by by)
    (moved : HasMoved k o new x) (are : AreCounts (held_unboxed o x).block counts) (more_is : more ≡ new_keys (known_state o x).content (known_state t x).content) (cap : passes_cap (joined (known_state o x).content (known_state t x).content) ≡ false) (serials : serial_of (known_state o x).content + 65536 < 2 ^ 63) (room : counts.count + more ≤ rows (kind_in k.starts o) (class_of (table_id new)))
    (begun : BeginsIn o new x y) (words : held_unboxed o y ≡ record { block = slice_set (held_unboxed o x).block 0 (suc (table_id new)); table = hand_unboxed o (table_id new) x })
    (only : OnlyWritten o y z) (put : held_unboxed o z ≡ record { block = counted (held_unboxed o y).block counts.count counts.count counts.next; table = (held_unboxed o y).table }) (writes : WritesEntries k o new z) (shape_z : z.shape ≡ k) (possible_z : ∥ IsReachable z ∥₁) where
  abbrev c : ℕ
  c = class_of (table_id new)

  abbrev d : Content
  d = (known_state o x).content

  abbrev all : Counts
  all = record { count = counts.count; fill = counts.count; next = counts.next }

  kinds : kind_of d ≡ kind_in k.starts o
  kinds = kind_is k x o shape possible may.keyed.locked

  many : (counts.count ≡ length_of d) × (counts.next ≡ serial_of d)
  many = counts_known heads k o old x counts may.keyed are

  known_on : (p : ℕ) → known_state p x ≡ known_state p z
  known_on p = sym (work_knows y z p only.work ∙ (work_knows begun.rooted y p begun.only.work ∙ ap (known_state p) begun.is))

  words_on : held_unboxed o z ≡ record { block = counted (slice_set (held_unboxed o x).block 0 (suc (table_id new))) counts.count counts.count counts.next; table = hand_unboxed o (table_id new) x }
  words_on = put ∙ (λ i. record { block = counted (words i).block counts.count counts.count counts.next; table = (words i).table })

  stands : Represents k.texts (held_unboxed o z) (record { content = d; table = use_with c counts.count })
  stands =
      let says = filled_says laws.pairs laws.elements heads k o old new x (grow_begins k o old new x shape may) shape possible moved in
      let n = many.0 in
      let r = many.1 in
      let here : StandsAs k.texts (counted (slice_set (held_unboxed o x).block 0 (suc (table_id new))) counts.count counts.count counts.next) (0 ∷ 0 ∷ hand_unboxed o (table_id new) x) (use_with c counts.count) d =
      subst (λ (w : ℕ × ℕ). StandsAs k.texts (counted (slice_set (held_unboxed o x).block 0 (suc (table_id new))) w.0 w.0 w.1) (0 ∷ 0 ∷ hand_unboxed o (table_id new) x) (use_with c w.0) d) (λ i. (sym n i, sym r i)) says in
      subst (λ (w : ContainerWords). Represents k.texts w (record { content = d; table = use_with c counts.count })) (sym words_on) here

  evens : (p : ℕ) → p < rows (kind_in k.starts o) c → version_of (table_id new) (held_unboxed o z) p % 2 ≡ 0
  evens p less =
      let zero = moved.versions p less in
      let same : version_of (table_id new) (held_unboxed o z) p ≡ entry_field (slots c) (hand_unboxed o (table_id new) x) p 0 = ap (λ (w : ContainerWords). version_of (table_id new) w p) words_on in
      omega (arith, zero, same)

  alive : NoneGone (table_id new) (rows (kind_in k.starts o) c) (held_unboxed o z)
  alive p key less odd dead = let e = evens p less in omega (arith, e, odd)

  midway : IsMidway k o new (record { content = d; table = use_with c counts.count }) z
  midway = record {
    writes = writes;
    early = only.work.committed o ∙ (begun.only.work.committed o ∙ (ap (λ (w : View). has_committed o w.log) begun.is ∙ hit o false (has_committed o x.log)));
    stands = stands;
    same = λ p key less even live. ap (λ (w : ContainerState). under w.content key) (known_on o);
    opens = λ p less odd. let e = evens p less in absurd (omega (arith, e, odd));
    gone = λ p key less odd dead. absurd (alive p key less odd dead);
    opened = λ p less odd. let e = evens p less in absurd (omega (arith, e, odd));
  }

  pub other_on : KnowsKeyed k t (Some table) z
  other_on =
      let r = begun.rooted in
      knows_put k o t (Some table) r z (ap (λ (w : View). w.shape) begun.is ∙ shape) two (written_then o r y z begun.only only)
      (knows_rooted k o t (suc (table_id new)) (root_in (held_words o x)) (Some table) x r begun.found shape begun.is begun.keeps two other)

  -- and its words stand as they stood
  pub others_on : (held_words t z ≡ held_words t x) × (held_unboxed t z ≡ held_unboxed t x)
  others_on =
      let r = begun.rooted in
      let here = ap (λ (w : View). w.shape) begun.is ∙ shape in
      let knows = knows_rooted k o t (suc (table_id new)) (root_in (held_words o x)) (Some table) x r begun.found shape begun.is begun.keeps two other in
      let first = same_rooted k o t (suc (table_id new)) (root_in (held_words o x)) (Some table) x r begun.found shape begun.is begun.keeps two other in
      let later = (written_then o r y z begun.only only).others t (subst (λ (s : Shape). t < container_count s) (sym here) knows.container) (λ e. two (sym e)) knows.locked knows.even in
      (later.0 ∙ first.0, later.1 ∙ first.1)

  pub new_begins : IsJoining k o by new t table (joined (known_state o z).content (known_state t z).content) (counts.count + more) 0 all z
  new_begins =
      let source = source_known laws k t table z shape_z possible_z other_on by kind_t in
      let goal : joined d (known_state t z).content ≡ joined (known_state o z).content (known_state t z).content = ap (λ (w : ContainerState). joined w.content (known_state t z).content) (known_on o) in
      subst (λ (w : Content). IsJoining k o by new t table w (counts.count + more) 0 all z) goal
      (joining_begins k o by new t table d all more z midway (kinds ∙ kind_eq) kind_eq many.0 many.1 alive evens source
      (subst (λ (w : ContainerState). passes_cap (joined d w.content) ≡ false) (known_on t) cap) serials
      (more_is ∙ ap (λ (w : ContainerState). new_keys d w.content) (known_on t)) room (ap (λ (w : ContainerState). w.content) (known_on o)))
