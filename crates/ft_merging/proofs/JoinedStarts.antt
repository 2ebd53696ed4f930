-- The beginning of a write that joins another container to a dict or a set, in the table that it has.
use Rattle.std.proofs.Common.{◌≡◌, ◌≢◌, ℕ, ◌+◌, ◌^◌, ◌%◌, ◌<◌, ◌≤◌, Bool, true, false, cond, ne_eqb, Option, Some, None, refl, sym, ap, ◌∙◌, subst, arith, []}
use Rattle.ft_model.specs.declared.content.Content.{Content}
use Rattle.ft_model.specs.declared.script.Kind.{Kind}
use Rattle.ft_model.specs.TableUses.{TableUse, passes_cap}
use Rattle.ft_model.specs.Worlds.{kind_of, serial_of}
use Rattle.ft_keys.specs.declared.walk.Way.{Way}
use Rattle.ft_trace.specs.declared.Act.TheVariants.{PutRoot, StartWrite}
use Rattle.ft_trace.specs.declared.Shape.{Shape}
use Rattle.ft_trace.specs.declared.View.{View}
use Rattle.ft_trace.specs.Acts.{has_committed, has_lock, is_writing, view_after}
use Rattle.ft_trace.specs.Addresses.{class_of, container_count}
use Rattle.ft_trace.specs.Holds.{held_words, held_unboxed, known_state}
use Rattle.ft_trace.specs.Kinds.{IsKeyed, rows, under}
use Rattle.ft_trace.specs.Traces.{IsReachable}
use Rattle.ft_trace.specs.Pictures.{ContainerWords, Represents}
use Rattle.ft_trace.specs.ContainerStates.{ContainerState, kind_in}
use Rattle.ft_trace.proofs.Cases.{hit}
use Rattle.ft_bank.specs.declared.table.Table.{Table}
use Rattle.ft_bank.specs.TableNames.{table_id, IsTableIn}
use Rattle.ft_bank.specs.WriteSteps.{KeepsUnwritten}
use Rattle.ft_bank.proofs.TableAddresses.{class_is}
use Rattle.ft_search.specs.Rounds.{kind_by}
use Rattle.ft_search.specs.OneEntryWrites.{MayWriteEntries}
use Rattle.ft_search.proofs.Changing.{kind_is}
use Rattle.ft_search.proofs.ReadyCommits.{writes_begun}
use Rattle.ft_new_keys.specs.declared.counts.Counts.{Counts}
use Rattle.ft_new_keys.specs.KeyGrowth.{KnowsKeyed, MayAddKey, keys_take, use_of}
use Rattle.ft_new_keys.specs.Placing.{AreCounts}
use Rattle.ft_new_keys.proofs.Grown.{knows_on}
use Rattle.ft_new_keys.proofs.Keyed.{Heads, counts_known, shut_here, use_known}
use Rattle.ft_new_keys.proofs.Placed.{entry_shut, use_with}
use Rattle.ft_merging.specs.Joining.{join_takes, joined, new_keys}
use Rattle.ft_merging.specs.Internal.JoiningSteps.{IsJoining, NoneGone}
use Rattle.ft_merging.specs.Internal.EntriesAtOnce.{IsMidway, version_of}
use Rattle.ft_merging.proofs.Joined.{joining_begins}
use Rattle.ft_merging.proofs.Ending.{Laws}
use Rattle.ft_merging.proofs.JoinedPairs.{source_known}
use Rattle.ft_merging.proofs.JoinedRoom.{keys_room}

-- another container is known as it was, once the version of the one that is written is odd
pub knows_begun : (k : Shape) (o t : ℕ) (old : Option Table) (v u : View) (f : ℕ) → u ≡ view_after (StartWrite o f) v → o ≢ t → KnowsKeyed k t old v → KnowsKeyed k t old u
knows_begun k o t old v u f begun two knows =
    knows_on k t old v u (ap (held_unboxed t) begun) (ap (known_state t) begun) (ap (λ (z : View). has_lock t z.log) begun)
    (ap (λ (z : View). is_writing t z.log) begun ∙ ap (λ (b : Bool). cond b true (is_writing t v.log)) (ne_eqb o t two)) knows

-- and once its root names another table
pub knows_rooted : (k : Shape) (o t root was : ℕ) (old : Option Table) (v u : View) (f : ℕ) → v.shape ≡ k → u ≡ view_after (PutRoot o root was) (view_after (StartWrite o f) v) → KeepsUnwritten (view_after (StartWrite o f) v) u → o ≢ t → KnowsKeyed k t old v → KnowsKeyed k t old u
knows_rooted k o t root was old v u f shape is keeps two knows =
    let quiet : is_writing t (view_after (StartWrite o f) v).log ≡ is_writing t v.log = ap (λ (b : Bool). cond b true (is_writing t v.log)) (ne_eqb o t two) in
    let same = keeps t (subst (λ (z : Shape). t < container_count z) (sym shape) knows.container) knows.locked (quiet ∙ knows.even) in
    knows_on k t old v u same.2 same.1 (ap (λ (z : View). has_lock t z.log) is) (ap (λ (z : View). is_writing t z.log) is ∙ quiet) knows

-- and the same words
pub same_rooted : (k : Shape) (o t root was : ℕ) (old : Option Table) (v u : View) (f : ℕ) → v.shape ≡ k → u ≡ view_after (PutRoot o root was) (view_after (StartWrite o f) v) → KeepsUnwritten (view_after (StartWrite o f) v) u → o ≢ t → KnowsKeyed k t old v → (held_words t u ≡ held_words t v) × (held_unboxed t u ≡ held_unboxed t v)
same_rooted k o t root was old v u f shape is keeps two knows =
    let quiet : is_writing t (view_after (StartWrite o f) v).log ≡ is_writing t v.log = ap (λ (b : Bool). cond b true (is_writing t v.log)) (ne_eqb o t two) in
    let same = keeps t (subst (λ (z : Shape). t < container_count z) (sym shape) knows.container) knows.locked (quiet ∙ knows.even) in
    (same.0, same.2)

-- a pass that may add a key may write
pub may_write : (k : Shape) (o : ℕ) (old : Option Table) (v : View) → MayAddKey k o old v → MayWriteEntries k o v
may_write k o old v may = record {
  container = may.keyed.container;
  keyed = may.keyed.keyed;
  locked = may.keyed.locked;
  even = may.even;
  stands = may.keyed.stands;
  owes = may.owes;
  boxes = may.boxes;
  left = may.left;
}

-- ---- in the table that it has

module _ (heads : Heads) (laws : Laws) (k : Shape) (o : ℕ) (by : Way) (own : Table) (t : ℕ) (table : Table) (counts : Counts) (more : ℕ) (v u : View) (f : ℕ) (shape : v.shape ≡ k) (possible : ∥ IsReachable v ∥₁) (two : o ≢ t) (may : MayAddKey k o (Some own) v) (other : KnowsKeyed k t (Some table) v) (kind_eq : kind_in k.starts o ≡ kind_by by) (kind_t : kind_in k.starts t ≡ kind_by by)
    (are : AreCounts (held_unboxed o v).block counts) (more_is : more ≡ new_keys (known_state o v).content (known_state t v).content) (cap : passes_cap (joined (known_state o v).content (known_state t v).content) ≡ false) (serials : serial_of (known_state o v).content + 65536 < 2 ^ 63) (none : join_takes (known_state o v) (known_state t v).content ≡ None) (begun : u ≡ view_after (StartWrite o f) v) (shape_u : u.shape ≡ k) (possible_u : ∥ IsReachable u ∥₁) where
  abbrev c : ℕ
  c = class_of (table_id own)

  abbrev d : Content
  d = (known_state o v).content

  table_in : IsTableIn k own
  table_in = may.keyed.table_in own refl

  class_same : class_of (table_id own) ≡ own.class
  class_same = class_is own table_in.2

  kinds : kind_of d ≡ kind_in k.starts o
  kinds = kind_is k v o shape possible may.keyed.locked

  keyed : IsKeyed (kind_of d)
  keyed = subst IsKeyed (sym kinds) may.keyed.keyed

  pub here_table : (known_state o v).table ≡ use_of (Some own) counts.fill
  here_table = use_known heads k o (Some own) v counts may.keyed are possible

  use_is : (known_state o v).table ≡ use_with c counts.fill
  use_is = here_table ∙ (λ i. record { class = Some (sym class_same i); fill = counts.fill; keys = [] })

  evens : (p : ℕ) → p < rows (kind_in k.starts o) c → version_of (table_id own) (held_unboxed o v) p % 2 ≡ 0
  evens p less = entry_shut (kind_of d) keyed c (rows (kind_of d) c) (held_unboxed o v).table (shut_here heads k o own v shape possible may.keyed by kind_eq) p (subst (λ (z : Kind). p < rows z c) (sym kinds) less)

  held_back : held_unboxed o v ≡ held_unboxed o u
  held_back = sym (ap (held_unboxed o) begun)

  known_back : (p : ℕ) → known_state p v ≡ known_state p u
  known_back p = sym (ap (known_state p) begun)

  evens_on : (p : ℕ) → p < rows (kind_in k.starts o) c → version_of (table_id own) (held_unboxed o u) p % 2 ≡ 0
  evens_on = subst (λ (x : ContainerWords). (p : ℕ) → p < rows (kind_in k.starts o) c → version_of (table_id own) x p % 2 ≡ 0) held_back evens

  alive : NoneGone (table_id own) (rows (kind_in k.starts o) c) (held_unboxed o u)
  alive p key less odd dead = let e = evens_on p less in omega (arith, e, odd)

  midway : IsMidway k o own (record { content = d; table = use_with c counts.fill }) u
  midway = record {
    writes = writes_begun k o own v u f shape begun (may_write k o (Some own) v may) (record { table_in = table_in; root = may.keyed.root });
    early = ap (λ (z : View). has_committed o z.log) begun ∙ hit o false (has_committed o v.log);
    stands = subst (λ (x : ContainerWords). Represents k.texts x (record { content = d; table = use_with c counts.fill })) held_back (subst (λ (z : TableUse). Represents k.texts (held_unboxed o v) (record { content = d; table = z })) use_is may.keyed.stands);
    same = λ p key less even live. ap (λ (z : ContainerState). under z.content key) (known_back o);
    opens = λ p less odd. let e = evens_on p less in absurd (omega (arith, e, odd));
    gone = λ p key less odd dead. absurd (alive p key less odd dead);
    opened = λ p less odd. let e = evens_on p less in absurd (omega (arith, e, odd));
  }

  pub here_room : counts.fill + more ≤ rows (kind_in k.starts o) c
  here_room =
      let s = source_known laws k o own v shape possible may.keyed by kind_eq in
      let few = s.few in
      let full : (known_state o v).table.fill ≡ counts.fill = ap (λ (z : TableUse). z.fill) here_table in
      let low : counts.fill ≤ rows (kind_by by) own.class = subst (λ (n : ℕ). counts.fill ≤ rows (kind_by by) n) class_same (omega (arith, few, full)) in
      let stays : keys_take d (use_of (Some own) counts.fill) more ≡ None = (λ i. keys_take d (sym here_table i) (more_is i)) ∙ none in
      subst (λ (z : Kind × ℕ). counts.fill + more ≤ rows z.0 z.1) (λ i. (sym kind_eq i, sym class_same i)) (keys_room d by own counts.fill more (kinds ∙ kind_eq) low stays)

  pub here_begins : IsJoining k o by own t table (joined (known_state o u).content (known_state t u).content) (counts.fill + more) 0 counts u
  here_begins =
      let n = counts_known heads k o (Some own) v counts may.keyed are in
      let source = source_known laws k t table u shape_u possible_u (knows_begun k o t (Some table) v u f begun two other) by kind_t in
      let goal : joined d (known_state t u).content ≡ joined (known_state o u).content (known_state t u).content = ap (λ (z : ContainerState). joined z.content (known_state t u).content) (known_back o) in
      subst (λ (z : Content). IsJoining k o by own t table z (counts.fill + more) 0 counts u) goal
      (joining_begins k o by own t table d counts more u midway (kinds ∙ kind_eq) kind_eq n.0 n.1 alive evens_on source
      (subst (λ (z : ContainerState). passes_cap (joined d z.content) ≡ false) (known_back t) cap) serials
      (more_is ∙ ap (λ (z : ContainerState). new_keys d z.content) (known_back t)) here_room (ap (λ (z : ContainerState). z.content) (known_back o)))
