-- A dict or a set that gets another table in the place of its own: that the roots may be put and the call committed,
-- and what the words stand for then.
use Rattle.std.proofs.Common.{◌≡◌, ◌≢◌, ◌⊎◌, ⊎_elim, inl, ℕ, suc, ◌+◌, ◌<◌, ◌≤◌, true, false, true≢false, List, [], ◌∷◌, length, Option, Some, None, refl, sym, ap, ◌∙◌, subst, arith, length-set, get_or-set_same, get_or-set_other}
use mathlib.Core.Logic.{dite}
use native.Mathlib.Decide.{ℕ_discrete}
use Rattle.std.specs.Prelude.{◌==◌, cond, is_some, slice_index, slice_set}
use Rattle.std.specs.Option.{unwrap_or}
use Rattle.ft_model.specs.declared.call.Call.{Call}
use Rattle.ft_model.specs.declared.content.Content.{Content}
use Rattle.ft_model.specs.declared.reply.Reply.TheVariants as reply
use Rattle.ft_model.specs.declared.script.Kind.{Kind}
use Rattle.ft_model.specs.Classes.{IsClass}
use Rattle.ft_model.specs.TableUses.{StoredWorld}
use Rattle.ft_model.specs.Worlds.{kind_of, length_of, serial_of}
use Rattle.ft_layout.specs.Containers.{IsBlock, StandsAs}
use Rattle.ft_trace.specs.declared.Act.TheVariants.{Commit, PutRoot, StartWrite, StopWrite}
use Rattle.ft_trace.specs.declared.Shape.{Shape}
use Rattle.ft_trace.specs.declared.Snap.{Snap}
use Rattle.ft_trace.specs.declared.View.{View}
use Rattle.ft_trace.specs.Acts.{has_committed, has_lock, is_writing, view_after, owes, seen_writes, stage, stage_next}
use Rattle.ft_trace.specs.Addresses.{container_count, class_of, IsBoxName, IsTableName}
use Rattle.ft_trace.specs.Boxes.{known_box_word, knows_box_word, named_in_root, place_use, references_held, use_taken, value_at, IsSettled, KeepsBox}
use Rattle.ft_trace.specs.Holds.{held_words, held_unboxed, hand_unboxed, in_hand, known_state}
use Rattle.ft_trace.specs.Kinds.{IsKeyed, rows, version_at, SoundAs}
use Rattle.ft_trace.specs.OddVersions.{Shut}
use Rattle.ft_trace.specs.Traces.{IsReachable}
use Rattle.ft_trace.specs.Pictures.{ContainerWords, root_in, Represents}
use Rattle.ft_trace.specs.ContainerStates.{ContainerState, changes, kind_in, kinds_in}
use Rattle.ft_trace.proofs.Cases.{hit, miss}
use Rattle.ft_trace.proofs.DictWrites.{FirstEntriesArePairs}
use Rattle.ft_trace.proofs.SetKnown.{FirstEntriesAreElements}
use Rattle.ft_bank.specs.declared.table.Table.{Table}
use Rattle.ft_bank.specs.TableNames.{IsTableIn, root_for, table_id}
use Rattle.ft_bank.specs.SameBoxes.{GainsRaised, MovesReferences, SameReferences, StaysSettled, named_in_words}
use Rattle.ft_bank.specs.Whole.{OnlyBoxed, OnlyPut, OnlyWritten, Wrote}
use Rattle.ft_bank.specs.WriteSteps.{Committed, IsShut, KeepsUnwritten, MayCommit, MayHave, MayPutRoot, with_root, with_unboxed_root}
use Rattle.ft_bank.proofs.TableAddresses.{named}
use Rattle.ft_bank.proofs.DoneBoxes.{none_named, none_taken, settled_then}
use Rattle.ft_bank.proofs.KnownAfterWrites.{boxed_then, gains_fewer, gains_then, raised_written, work_knows}
use Rattle.ft_bank.proofs.WordsPut.{taken_words}
use Rattle.ft_boxes.specs.References.{KeepsValues}
use Rattle.ft_table_calls.proofs.Dropped.{hand_same, taken_named}
use Rattle.ft_search.proofs.Overs.{boxed_held}
use Rattle.ft_search.proofs.Calling.{plain_replied}
use Rattle.ft_search.proofs.Changing.{kind_is, shut_known}
use Rattle.ft_search.proofs.Puts.{few_done, keyed_version, table_class}
use Rattle.ft_new_keys.specs.Fresh.{IsFilledWith}
use Rattle.ft_new_keys.specs.KeyGrowth.{HoldsOld, MayGrowKeyed, named_in_old}
use Rattle.ft_new_keys.specs.Placing.{counted}
use Rattle.ft_new_keys.proofs.Keyed.{Heads}
use Rattle.ft_new_keys.proofs.Placed.{counted_head, kind_shut, use_with}
use Rattle.ft_new_keys.proofs.Rooted.{rooted_head, sound_in}
use Rattle.ft_replacing.specs.Replacing.{Replaces, replaced_table}
use Rattle.ft_replacing.specs.Sharing.{IsNamedBy, NamesKept}
use Rattle.ft_replacing.proofs.Emptied.{Emptied, fresh_emptied, hand_emptied, locks_emptied, others_emptied, rooted_twice, shape_emptied}
use Rattle.ft_replacing.proofs.NamedRows.{SameBut, is_box, is_counted, is_kept, is_known, named_on, named_value, rows_read}
use Rattle.ft_replacing.proofs.KeptValues.{KnowsWords, SameWords, keeps_more}
use Rattle.ft_replacing.proofs.OwnRows.{own_known, own_same}
use Rattle.ft_replacing.proofs.RaisedRows.{named_some, row_counts, rows_few, sum_few}
use Rattle.ft_replacing.proofs.Swapped.{swapped_write}

-- a block whose root names no table
no_root : (b : List ℕ) (class : Option ℕ) (count fill next : ℕ) → IsBlock b class count fill next → IsBlock (slice_set b 0 0) None count fill next
no_root b class count fill next h =
    let size_is = h.size in
    let other : (i : ℕ) → i ≢ 0 → slice_index (slice_set b 0 0) i ≡ slice_index b i = λ i ne. get_or-set_other b 0 i 0 0 ne in
    record {
      size = length-set b 0 0 ∙ h.size;
      root = get_or-set_same b 0 0 0 (omega (arith, size_is));
      count_is = other 1 (λ e. absurd (omega (arith, e))) ∙ h.count_is;
      fill_is = other 2 (λ e. absurd (omega (arith, e))) ∙ h.fill_is;
      next_is = other 3 (λ e. absurd (omega (arith, e))) ∙ h.next_is;
      spare = (other 4 (λ e. absurd (omega (arith, e))) ∙ h.spare.0, other 5 (λ e. absurd (omega (arith, e))) ∙ h.spare.1);
    }

-- After that it raised the counts of the boxes that the new table names, which has what the container is to get: then it
-- knew x; and it dropped the references that its words had: then it knows d.
pub record Swapping (k : Shape) (o : ℕ) (old : Option Table) (table : Table) (called : Call) (left : Content) (f : ℕ) (v s r x d : View) : Type 0 where
  pub first_pair : FirstEntriesArePairs
  pub first_element : FirstEntriesAreElements
  pub before : Emptied k o old table f v s r
  pub kind_is : kind_of left ≡ kind_in k.starts o
  pub filled : IsFilledWith k.texts (class_of (table_id table)) left (hand_unboxed o (table_id table) v)
  pub replaces : Replaces o called left (Some (class_of (table_id table))) v
  pub raises : OnlyBoxed r x
  pub stays : StaysSettled r x
  pub gains : GainsRaised r x
  pub raised : (b : ℕ) → references_held k b x.log ≡ references_held k b r.log + named_in_root b (kind_in k.starts o) (suc (table_id table)) (in_hand (table_id table) r)
  pub possible : ∥ IsReachable r ∥₁
  pub raise_keeps : KeepsValues r x
  pub drop_keeps : KeepsValues x d
  pub drops : OnlyBoxed x d
  pub made : StaysSettled x d
  pub dropped : (b : ℕ) → references_held k b d.log + named_in_old k o old x b ≡ references_held k b x.log

-- 0 may be put into the root
pub may_put_none : (k : Shape) (o : ℕ) (old : Option Table) (table : Table) (v s : View) (f : ℕ) → v.shape ≡ k → ∥ IsReachable v ∥₁ → MayGrowKeyed k o old table v → s ≡ view_after (StartWrite o f) v → MayPutRoot s o None
may_put_none k o old table v s f shape possible may is =
    let kind_v : kind_of (known_state o v).content ≡ kind_in v.shape.starts o = kind_is k v o shape possible may.keyed.locked ∙ sym (ap (λ (z : Shape). kind_in z.starts o) shape) in
    subst (λ (u : View). MayPutRoot u o None) (sym is)
    (record {
      odd = hit o true (is_writing o v.log);
      fresh = λ t e. absurd (true≢false (ap is_some (sym e)));
      sound = λ t e. absurd (true≢false (ap is_some (sym e)));
      young = λ t p e. absurd (true≢false (ap is_some (sym e)));
      shut = λ t names. subst (λ (z : Kind). Shut (version_at z (class_of t)) (rows z (class_of t)) (held_unboxed o v).table) kind_v (shut_known k v o t shape possible may.keyed.container may.keyed.locked may.keyed.even names);
      spare = λ some_one. may.used;
      early = λ e. hit o false _;
      references = record {
        few = few_done k v shape may.boxes;
        enough = λ b. omega arith;
        known = λ b none some_one. absurd (some_one refl);
        stored = λ b taken. refl;
      };
    })

-- the references that the pass has right after that
module _ (heads : Heads) (k : Shape) (o : ℕ) (old : Option Table) (table : Table) (f : ℕ) (v s r : View) (shape : v.shape ≡ k) (may : MayGrowKeyed k o old table v) (started : s ≡ view_after (StartWrite o f) v) (rooted : r ≡ view_after (PutRoot o 0 (root_in (held_words o s))) s) (root_held : held_unboxed o r ≡ with_unboxed_root (held_unboxed o s) o None s) (moves : MovesReferences o s r) where
  shape_started : s.shape ≡ k
  shape_started = ap (λ (z : View). z.shape) started ∙ shape

  shape_rooted : r.shape ≡ s.shape
  shape_rooted = ap (λ (z : View). z.shape) rooted

  names_old : root_in (held_words o s) ≡ root_for old
  names_old = ap (λ (z : View). root_in (held_words o z)) started ∙ may.keyed.root

  -- no words name a box any longer
  bare_rooted : root_in (held_words o r) ≡ 0
  bare_rooted =
      let size_is = ap (λ (z : View). length (held_unboxed o z).block) started
      ∙ (heads k.texts (held_unboxed o v).block (0 ∷ 0 ∷ (held_unboxed o v).table) (known_state o v).table (known_state o v).content may.keyed.stands).size in
      ap root_in root_held ∙ get_or-set_same (held_unboxed o s).block 0 0 0 (omega (arith, size_is))

  names_none : (b : ℕ) → named_in_words b (kind_in r.shape.starts o) (held_words o r) ≡ 0
  names_none b = none_named b (kind_in r.shape.starts o) (held_words o r) bare_rooted

  pub old_out : (t : Table) → old ≡ Some t → IsTableIn k t × (stage (table_id t) r.log ≡ 3)
  old_out t is =
      let name : root_in (held_words o s) ≡ suc (table_id t) = names_old ∙ ap root_for is in
      let n = stage (table_id t) s.log in (
        may.keyed.table_in t is,
        ap (λ (z : View). stage (table_id t) z.log) rooted
            ∙ (ap (λ (root : ℕ). stage_next (table_id t) (PutRoot o 0 root) n) name
            ∙ (miss 0 (suc (table_id t)) 0 (cond (suc (table_id t) == suc (table_id t)) 3 n) (λ e. absurd (omega (arith, e))) ∙ hit (suc (table_id t)) 3 n)),
      )

  pub old_settled : IsSettled r.log
  old_settled =
      let x = may.boxes.settled in
      subst (λ (z : View). IsSettled z.log) (sym (rooted ∙ ap (λ (z : View). view_after (PutRoot o 0 (root_in (held_words o z))) z) started))
      (record { unmade = x.unmade; counted = x.counted; whole = x.whole; given = x.given })

  -- the table that the pass took out of the root
  module _ (t : Table) (has : old ≡ Some t) where
    was_root : root_in (held_words o s) ≡ suc (table_id t)
    was_root = names_old ∙ ap root_for has

    was_hand : in_hand (table_id t) r ≡ (held_words o s).table
    was_hand =
        let low = subst (λ (z : Shape). o < container_count z) (sym shape_started) may.keyed.container in
        let name = subst (λ (z : Shape). IsTableName z (table_id t)) (sym shape_started) (named k t (may.keyed.table_in t has)) in
        ap (in_hand (table_id t)) rooted ∙ taken_words s o (table_id t) 0 (root_in (held_words o s)) low name was_root

  -- the references of that one came to the pass, which held none
  pub old_counts : (b : ℕ) → references_held k b r.log ≡ named_in_old k o old r b
  old_counts b = by old refl
    where
      before : references_held k b s.log ≡ 0
      before = ap (λ (z : View). references_held k b z.log) started ∙ may.boxes.none b

      by : (any : Option Table) → old ≡ any → references_held k b r.log ≡ named_in_old k o any r b
      by (Some t) has =
          let e = taken_named k o (table_id t) s r shape_started shape_rooted moves (was_root t has) (was_hand t has) names_none b in
          omega (arith, e, before)
      by None has =
          let bare_before = none_named b (kind_in s.shape.starts o) (held_words o s) (names_old ∙ ap root_for has) in
          let moved = moves b in
          let after = names_none b in
          let was : references_held s.shape b s.log ≡ references_held k b s.log = ap (λ (z : Shape). references_held z b s.log) shape_started in
          let now : references_held k b r.log ≡ references_held r.shape b r.log = ap (λ (z : Shape). references_held z b r.log) (sym (shape_rooted ∙ shape_started)) in
          omega (arith, bare_before, moved, after, was, before, now)

  -- one at least for each box that the container named
  pub own_held : (b : ℕ) → IsNamedBy k o b v → 0 < references_held k b r.log
  own_held b n =
      let counted_one = is_counted k o b v shape n in
      let at_s : named_in_words b (kind_in s.shape.starts o) (held_words o s) ≡ named_in_words b (kind_in v.shape.starts o) (held_words o v) = ap (λ (z : View). named_in_words b (kind_in z.shape.starts o) (held_words o z)) started in
      let moved = moves b in
      let after = names_none b in
      let now : references_held k b r.log ≡ references_held r.shape b r.log = ap (λ (z : Shape). references_held z b r.log) (sym (shape_rooted ∙ shape_started)) in
      omega (arith, counted_one, at_s, moved, after, now)

  -- they are few for each box
  pub old_few : (b : ℕ) → references_held k b r.log ≤ 65536
  old_few b = by old refl
    where
      by : (any : Option Table) → old ≡ any → references_held k b r.log ≤ 65536
      by (Some t) has =
          let counts = old_counts b in
          let is : named_in_old k o old r b ≡ named_in_old k o (Some t) r b = ap (λ (z : Option Table). named_in_old k o z r b) has in
          let low = sum_few b (kind_in k.starts o) (class_of (table_id t)) (in_hand (table_id t) r) (rows (kind_in k.starts o) (class_of (table_id t))) in
          let most = rows_few (kind_in k.starts o) (class_of (table_id t)) (table_class k t (may.keyed.table_in t has)) in
          omega (arith, counts, is, low, most)
      by None has =
          let counts = old_counts b in
          let is : named_in_old k o old r b ≡ named_in_old k o None r b = ap (λ (z : Option Table). named_in_old k o z r b) has in
          omega (arith, counts, is)

  -- the pass has raised counts since
  module _ (x : View) (raises : OnlyBoxed r x) (more : (b : ℕ) → references_held k b r.log ≤ references_held k b x.log) where
    pub raised_out : (t : Table) → old ≡ Some t → IsTableIn k t × (stage (table_id t) x.log ≡ 3)
    raised_out t is = let out = old_out t is in (out.0, raises.work.hands (table_id t) ∙ out.1)

    pub raised_old : (b : ℕ) → named_in_old k o old x b ≡ named_in_old k o old r b
    raised_old b = by old
      where
        by : (any : Option Table) → named_in_old k o any x b ≡ named_in_old k o any r b
        by (Some t) = ap (named_in_root b (kind_in k.starts o) (suc (table_id t))) (hand_same r x (table_id t) raises.work.pass.shape raises.words)
        by None = refl

    pub raised_held : HoldsOld k o old x
    raised_held b = let same = raised_old b in let counts = old_counts b in let up = more b in omega (arith, same, counts, up)

-- the boxes that the new table names are kept then: by the locks of other containers, or by those references
pub kept_rooted : (k : Shape) (o : ℕ) (old : Option Table) (table : Table) (f : ℕ) (v s r : View) → Emptied k o old table f v s r → ∥ IsReachable r ∥₁ → NamesKept k o (table_id table) r
kept_rooted k o old table f v s r e possible p low four =
    let t : ℕ = table_id table in
    let at : ℕ = value_at (kind_in k.starts o) (class_of t) p in
    let hand = hand_emptied k o old table f v s r e in
    let q = e.named p low (ap (λ (l : List ℕ). slice_index l at) (sym hand) ∙ four) in
    let n : ℕ = slice_index (in_hand t v) (suc at) in
    subst (λ (b : ℕ). IsBoxName k b × KeepsBox k b r.log) (ap (λ (l : List ℕ). slice_index l (suc at)) (sym hand)) (
      is_box k q.0 n v e.shape q.1 e.possible,
      dite (ℕ_discrete q.0 o)
          (λ (is : q.0 ≡ o). inl (own_held e.heads k o old table f v s r e.shape e.may e.started e.rooted e.root_held e.moves n (subst (λ (z : ℕ). IsNamedBy k z n v) is q.1)))
          (λ ne.
          let same = others_emptied k o old table f v s r e q.0 q.1.container ne q.1.locked in
          is_kept k q.0 n r (shape_emptied k o old table f v s r e ∙ e.shape) (named_on k q.0 n v r same.0 (locks_emptied k o old table f v s r e q.0) q.1) possible),
    )

module _ (k : Shape) (o : ℕ) (old : Option Table) (table : Table) (called : Call) (left : Content) (f : ℕ) (v s r x d : View) (e : Swapping k o old table called left f v s r x d) where
  abbrev t : ℕ
  t = table_id table

  abbrev class : ℕ
  class = class_of (table_id table)

  -- the words of the new table as they stand, and as they read
  abbrev raw : List ℕ
  raw = in_hand (table_id table) v

  abbrev ws : List ℕ
  ws = hand_unboxed o (table_id table) v

  both_rooted : r ≡ view_after (PutRoot o 0 (root_in (held_words o v))) (view_after (StartWrite o f) v)
  both_rooted = rooted_twice k o old table f v s r e.before

  -- the raises and the drops
  both : OnlyBoxed r d
  both = boxed_then r x d e.raises e.drops

  shape_bare : r.shape ≡ v.shape
  shape_bare = ap (λ (z : View). z.shape) both_rooted

  known_then : (p : ℕ) → known_state p d ≡ known_state p v
  known_then p = work_knows r d p both.work ∙ ap (λ (z : View). known_state p z) both_rooted

  shape_then : d.shape ≡ v.shape
  shape_then = both.work.pass.shape ∙ shape_bare

  locks_then : (p : ℕ) → has_lock p d.log ≡ has_lock p v.log
  locks_then p = both.work.pass.locks p ∙ ap (λ (z : View). has_lock p z.log) both_rooted

  hand_bare : in_hand t r ≡ raw
  hand_bare = hand_emptied k o old table f v s r e.before

  -- the pass holds the references that the new table wants
  all_held : (n : ℕ) → references_held k n d.log ≡ named_in_root n (kind_in k.starts o) (suc t) raw
  all_held n =
      let counts = old_counts e.before.heads k o old table f v s r e.before.shape e.before.may e.before.started e.before.rooted e.before.root_held e.before.moves n in
      let more = e.raised n in
      let less = e.dropped n in
      let up : (b : ℕ) → references_held k b r.log ≤ references_held k b x.log = λ b. let m = e.raised b in omega (arith, m) in
      let same = raised_old e.before.heads k o old table f v s r e.before.shape e.before.may e.before.started e.before.rooted e.before.root_held e.before.moves x e.raises up n in
      let bare : named_in_root n (kind_in k.starts o) (suc t) (in_hand t r) ≡ named_in_root n (kind_in k.starts o) (suc t) raw = ap (named_in_root n (kind_in k.starts o) (suc t)) hand_bare in
      omega (arith, counts, more, less, same, bare)

  -- what the pass knew of the values in boxes it knows still
  keeps_both : KeepsValues r d
  keeps_both =
      let shape_r : r.shape ≡ k = shape_bare ∙ e.before.shape in
      keeps_more r x d e.raises.work.pass.shape
      (λ b.
      let more = e.raised b in
      let now : references_held x.shape b x.log ≡ references_held k b x.log = ap (λ (z : Shape). references_held z b x.log) (e.raises.work.pass.shape ∙ shape_r) in
      let was : references_held r.shape b r.log ≡ references_held k b r.log = ap (λ (z : Shape). references_held z b r.log) shape_r in
      omega (arith, more, now, was)) e.raise_keeps e.drop_keeps

  -- what the pass did since the root was put
  written : OnlyWritten o r d
  written =
      let shape_x : x.shape ≡ k = e.raises.work.pass.shape ∙ (shape_bare ∙ e.before.shape) in
      let shape_d : d.shape ≡ k = e.drops.work.pass.shape ∙ shape_x in
      let fewer : (n : ℕ) → references_held d.shape n d.log ≤ references_held x.shape n x.log = λ n.
      let now = ap (λ (z : Shape). references_held z n d.log) shape_d in
      let was = ap (λ (z : Shape). references_held z n x.log) shape_x in
      let less = e.dropped n in
      omega (arith, now, was, less) in
      raised_written o r d both (settled_then r x d e.stays e.made) (gains_then r x d e.gains (gains_fewer x d e.drops fewer))

  -- the drops leave what the words read
  drops_read : held_unboxed o d ≡ held_unboxed o r
  drops_read =
      both.unboxed o (subst (λ (z : Shape). o < container_count z) (sym (shape_bare ∙ e.before.shape)) e.before.may.keyed.container)
      (ap (λ (z : View). has_lock o z.log) both_rooted ∙ e.before.may.keyed.locked)

  keyed : IsKeyed (kind_of left)
  keyed = subst IsKeyed (sym e.kind_is) e.before.may.keyed.keyed

  is_class : IsClass class
  is_class = table_class k table e.before.may.table_in

  -- the block before the write
  old_head : IsBlock (held_unboxed o v).block (known_state o v).table.class (length_of (known_state o v).content) (known_state o v).table.fill (serial_of (known_state o v).content)
  old_head = e.before.heads k.texts (held_unboxed o v).block (0 ∷ 0 ∷ (held_unboxed o v).table) (known_state o v).table (known_state o v).content e.before.may.keyed.stands

  abbrev b : List ℕ
  b = slice_set (held_unboxed o v).block 0 0

  bare_head : IsBlock b None (length_of (known_state o v).content) (known_state o v).table.fill (serial_of (known_state o v).content)
  bare_head = no_root (held_unboxed o v).block (known_state o v).table.class (length_of (known_state o v).content) (known_state o v).table.fill (serial_of (known_state o v).content) old_head

  held_then : held_unboxed o d ≡ record { block = b; table = [] }
  held_then = drops_read ∙ (e.before.root_held ∙ ap (λ (z : View). with_unboxed_root (held_unboxed o z) o None z) e.before.started)

  root_then : root_in (held_unboxed o d) ≡ 0
  root_then = ap root_in held_then ∙ bare_head.root

  -- and after it
  abbrev last : List ℕ
  last = counted (slice_set b 0 (suc t)) (length_of left) (length_of left) (serial_of left)

  last_head : IsBlock last (Some class) (length_of left) (length_of left) (serial_of left)
  last_head =
      counted_head (slice_set b 0 (suc t)) (Some class) (length_of (known_state o v).content) (known_state o v).table.fill (serial_of (known_state o v).content) (length_of left) (length_of left) (serial_of left)
      (rooted_head b None k table (length_of (known_state o v).content) (known_state o v).table.fill (serial_of (known_state o v).content) bare_head e.before.may.table_in)

  says : StandsAs k.texts last (0 ∷ 0 ∷ ws) (use_with class (length_of left)) left
  says = e.filled.says last last_head

  -- the bank may have the same
  has_before : (stored : StoredWorld) → MayHave d stored → MayHave v stored
  has_before stored has = record {
    agrees = λ p low mine. has.agrees p (subst (λ (z : Shape). p < container_count z) (sym shape_then) low) (locks_then p ∙ mine) ∙ known_then p;
    containers = has.containers ∙ ap container_count shape_then;
    kinds = has.kinds ∙ ap (λ (z : Shape). kinds_in z.starts) shape_then;
    order = has.order;
    unsplit = has.unsplit;
    words = has.words;
  }

  -- the pass has taken no place for a box that no write has stored
  untaken : (n : ℕ) → place_use n d.log ≢ use_taken
  untaken n taken = e.before.may.boxes.stored n (ap (λ (z : View). place_use n z.log) (sym both_rooted) ∙ e.stays.places n (e.made.places n taken))

  pub swapping_commits : MayCommit d called reply.Done
  swapping_commits =
      let l = e.replaces in
      let here : o ≡ changes called = sym l.changed in
      let owed : owes d.log ≡ suc class = both.work.owes ∙ (ap (λ (z : View). owes z.log) both_rooted ∙ e.before.may.owed) in
      let odd : is_writing o d.log ≡ true = both.work.pass.writes o ∙ (ap (λ (z : View). is_writing o z.log) both_rooted ∙ hit o true (is_writing o v.log)) in
      let none : root_in (held_unboxed (changes called) d) ≡ 0 = subst (λ (n : ℕ). root_in (held_unboxed n d) ≡ 0) here root_then in
      record {
        write = l.write;
        container = subst (λ (n : ℕ). n < container_count d.shape) here (subst (λ (z : Shape). o < container_count z) (sym (shape_then ∙ e.before.shape)) e.before.may.keyed.container);
        odd = subst (λ (n : ℕ). is_writing n d.log ≡ true) here odd;
        left = subst (λ (n : ℕ). 0 < n) (sym (both.work.left ∙ ap (λ (z : View). z.left) both_rooted)) e.before.may.left;
        words = l.words;
        locks = λ p x. locks_then p ∙ l.locks p x;
        reply_is = λ stored has. plain_replied called reply.Done _ l.write (l.replied stored (has_before stored has));
        declared = λ stored has. l.declared stored (has_before stored has);
        fits = λ stored has. l.fits stored (has_before stored has);
        clear = λ stored q has names. absurd (omega (arith, none, names));
        takes = λ stored other_class has x. l.takes_is stored (has_before stored has) ∙ (let same : class ≡ other_class = omega (arith, x, owed) in ap (λ (z : ℕ). Some z) same);
        empties = λ x. l.empties;
        stores = λ stored has. ((λ n x. absurd (untaken n x)), (λ n m x other. absurd (untaken n x)));
      }

  -- after the commit
  module _ (number : ℕ) (snap : Snap) (c : View) (made : c ≡ view_after (Commit called reply.Done number snap) d) (committed : Committed d c called) where
    content_then : (known_state o c).content ≡ left
    content_then = ap (λ (z : ContainerState). z.content) (committed.left o ∙ e.replaces.left_is committed.found (has_before committed.found committed.has))

    kept_then : known_state o c ≡ record { content = left; table = replaced_table (Some class) (length_of left) }
    kept_then = committed.left o ∙ e.replaces.left_is committed.found (has_before committed.found committed.has)

    held_c : held_unboxed o c ≡ record { block = b; table = [] }
    held_c = ap (λ (z : View). held_unboxed o z) made ∙ held_then

    hand_then : in_hand t c ≡ raw
    hand_then = ap (λ (z : View). in_hand t z) made ∙ (hand_same r d t both.work.pass.shape both.words ∙ hand_bare)

    fresh_then : stage t c.log ≡ 1
    fresh_then = ap (λ (z : View). stage t z.log) made ∙ (both.work.hands t ∙ fresh_emptied k o old table f v s r e.before)

    odd_then : is_writing o c.log ≡ true
    odd_then = ap (λ (z : View). is_writing o z.log) made ∙ (both.work.pass.writes o ∙ (ap (λ (z : View). is_writing o z.log) both_rooted ∙ hit o true (is_writing o v.log)))

    shape_c : c.shape ≡ k
    shape_c = ap (λ (z : View). z.shape) made ∙ (shape_then ∙ e.before.shape)

    the_one : (q : Table) → Some table ≡ Some q → table ≡ q
    the_one q is = ap (λ (z : Option Table). unwrap_or z table) is

    kind_c : kind_of left ≡ kind_in c.shape.starts o
    kind_c = e.kind_is ∙ sym (ap (λ (z : Shape). kind_in z.starts o) shape_c)

    locks_c : (q : ℕ) → has_lock q c.log ≡ has_lock q v.log
    locks_c q = ap (λ (z : View). has_lock q z.log) made ∙ locks_then q

    -- the other containers are as they were
    others_c : SameBut k o v c
    others_c q low ne mine =
        let bare = others_emptied k o old table f v s r e.before q low ne mine in
        let low_r : q < container_count r.shape = subst (λ (z : Shape). q < container_count z) (sym (shape_bare ∙ e.before.shape)) low in
        let mine_r : has_lock q r.log ≡ true = locks_emptied k o old table f v s r e.before q ∙ mine in (
          ap (λ (z : View). held_words q z) made ∙ (boxed_held r d q both ∙ bare.0),
          ap (λ (z : View). held_unboxed q z) made ∙ (both.unboxed q low_r mine_r ∙ bare.1),
        )

    -- the box of a row of the new table
    abbrev box_at : ℕ → ℕ
    box_at p = slice_index raw (suc (value_at (kind_in k.starts o) class p))

    -- where the container named it itself
    own_row : (p : ℕ) → p < rows (kind_in k.starts o) class → slice_index raw (value_at (kind_in k.starts o) class p) ≡ 4 → IsNamedBy k o (box_at p) v → KnowsWords (box_at p) c × SameWords (box_at p) v c
    own_row p low four mine =
        let n : ℕ = box_at p in
        let name = subst (λ (z : Shape). IsBoxName z n) (sym e.before.shape) (is_box k o n v e.before.shape mine e.before.possible) in
        let known = is_known k o n v e.before.shape mine e.before.possible in
        let held_k = own_held e.before.heads k o old table f v s r e.before.shape e.before.may e.before.started e.before.rooted e.before.root_held e.before.moves n mine in
        let held = subst (λ (z : Shape). 0 < references_held z n r.log) (sym (shape_bare ∙ e.before.shape)) held_k in
        let all = all_held n in
        let some_ = row_counts n (kind_in k.starts o) class raw (rows (kind_in k.starts o) class) p low four refl in
        let still_k : 0 < references_held k n d.log = omega (arith, all, some_) in
        let still = subst (λ (z : Shape). 0 < references_held z n d.log) (sym (shape_then ∙ e.before.shape)) still_k in
        let old_root : ℕ = root_in (held_words o v) in (
          own_known o f old_root n number called reply.Done snap v r d c both_rooted e.possible name known held both.work.pass.shape keeps_both still made,
          own_same o f old_root n number called reply.Done snap v r d c both_rooted e.possible name known held both.work.pass.shape keeps_both still made,
        )

    same_row : (p i : ℕ) → p < rows (kind_in k.starts o) class → slice_index raw (value_at (kind_in k.starts o) class p) ≡ 4 → (i ≡ 1) ⊎ (i ≡ 2) → known_box_word c.shape (box_at p) i c.log ≡ known_box_word v.shape (box_at p) i v.log
    same_row p i low four which =
        let n : ℕ = box_at p in
        let q = e.before.named p low four in
        dite (ℕ_discrete q.0 o)
        (λ (is : q.0 ≡ o).
        let own = (own_row p low four (subst (λ (z : ℕ). IsNamedBy k z n v) is q.1)).1 in
        ⊎_elim
        (λ (one : i ≡ 1). subst (λ (z : ℕ). known_box_word c.shape n z c.log ≡ known_box_word v.shape n z v.log) (sym one) own.0)
        (λ (two : i ≡ 2). subst (λ (z : ℕ). known_box_word c.shape n z c.log ≡ known_box_word v.shape n z v.log) (sym two) own.1)
        which)
        (λ ne.
        let others = others_c q.0 q.1.container ne q.1.locked in
        named_value k q.0 n i v c e.before.shape shape_c others.0 others.1 (locks_c q.0) q.1 which)

    known_row : ∥ IsReachable c ∥₁ → (p : ℕ) → p < rows (kind_in k.starts o) class → slice_index raw (value_at (kind_in k.starts o) class p) ≡ 4 → KnowsWords (box_at p) c
    known_row possible p low four =
        let n : ℕ = box_at p in
        let q = e.before.named p low four in
        dite (ℕ_discrete q.0 o)
        (λ (is : q.0 ≡ o). (own_row p low four (subst (λ (z : ℕ). IsNamedBy k z n v) is q.1)).0)
        (λ ne.
        let others = others_c q.0 q.1.container ne q.1.locked in
        is_known k q.0 n c shape_c (named_on k q.0 n v c others.0 (locks_c q.0) q.1) possible)

    -- so the new table reads as it did
    reads_c : hand_unboxed o t c ≡ ws
    reads_c = rows_read k o t v c e.before.shape shape_c hand_then same_row

    held_c_all : (n : ℕ) → references_held c.shape n c.log ≡ named_in_root n (kind_in c.shape.starts o) (suc t) (in_hand t c)
    held_c_all n =
        ap (λ (z : Shape). references_held z n c.log) shape_c
        ∙ (ap (λ (z : View). references_held k n z.log) made
        ∙ (all_held n ∙ (λ i. named_in_root n (kind_in (sym shape_c i).starts o) (suc t) (sym hand_then i))))

    -- the value in each box that it names is known
    known_c : ∥ IsReachable c ∥₁ → (n : ℕ) → named_in_root n (kind_in c.shape.starts o) (suc t) (in_hand t c) ≢ 0 → (knows_box_word c.shape n 1 c.log ≡ true) × (knows_box_word c.shape n 2 c.log ≡ true)
    known_c possible n some_ =
        let row = named_some n (kind_in k.starts o) class (in_hand t c) (rows (kind_in k.starts o) class) (λ z. some_ (ap (λ (y : Shape). named_in_root n (kind_in y.starts o) (suc t) (in_hand t c)) shape_c ∙ z)) in
        let four : slice_index raw (value_at (kind_in k.starts o) class row.0) ≡ 4 = ap (λ (l : List ℕ). slice_index l (value_at (kind_in k.starts o) class row.0)) (sym hand_then) ∙ row.2 in
        let is : box_at row.0 ≡ n = ap (λ (l : List ℕ). slice_index l (suc (value_at (kind_in k.starts o) class row.0))) (sym hand_then) ∙ row.3 in
        subst (λ (b : ℕ). KnowsWords b c) is (known_row possible row.0 row.1 four)

    sound_here : SoundAs (kind_in c.shape.starts o) c.shape.texts class (hand_unboxed o t c) (known_state o c).content
    sound_here =
        subst (λ (z : Kind × List ℕ × List ℕ × Content). SoundAs z.0 z.1 class z.2 z.3) (λ i. (kind_c i, (sym shape_c i).texts, sym reads_c i, sym content_then i))
        (sound_in e.first_pair e.first_element k.texts last ws class (length_of left) left keyed is_class says)

    zero_here : (p : ℕ) → p < rows (kind_in c.shape.starts o) class → slice_index (hand_unboxed o t c) (version_at (kind_in c.shape.starts o) class p) ≡ 0
    zero_here =
        subst (λ (z : Kind × List ℕ). (p : ℕ) → p < rows z.0 class → slice_index z.1 (version_at z.0 class p) ≡ 0) (λ i. (kind_c i, sym reads_c i))
        (λ p low. ap (slice_index ws) (keyed_version (kind_of left) keyed class p) ∙ e.filled.versions p low)

    pub root_c : root_in (held_unboxed o c) ≡ 0
    root_c = ap root_in held_c ∙ bare_head.root

    pub may_put_table : ∥ IsReachable c ∥₁ → MayPutRoot c o (Some table)
    may_put_table possible = record {
      odd = odd_then;
      fresh = λ q is. subst (λ (z : Table). stage (table_id z) c.log ≡ 1) (the_one q is) fresh_then;
      sound = λ q is.
          subst (λ (z : Table). SoundAs (kind_in c.shape.starts o) c.shape.texts (class_of (table_id z)) (hand_unboxed o (table_id z) c) (known_state o c).content) (the_one q is)
          sound_here;
      young = λ q p is row.
          let here : (n : ℕ) → n < rows (kind_in c.shape.starts o) class → slice_index (hand_unboxed o t c) (version_at (kind_in c.shape.starts o) class n) ≡ 0 = zero_here in
          let zero = subst (λ (z : Table). (n : ℕ) → n < rows (kind_in c.shape.starts o) (class_of (table_id z)) → slice_index (hand_unboxed o (table_id z) c) (version_at (kind_in c.shape.starts o) (class_of (table_id z)) n) ≡ 0) (the_one q is) here p row in
          (omega (arith, zero), (λ late. zero));
      shut = λ q names. let none = root_c in absurd (omega (arith, none, names));
      spare = λ some_one. absurd (some_one root_c);
      early = λ is. absurd (true≢false (ap is_some is));
      references = record {
        few = λ n.
            let all = held_c_all n in
            let low = sum_few n (kind_in c.shape.starts o) class (in_hand t c) (rows (kind_in c.shape.starts o) class) in
            let most = rows_few (kind_in c.shape.starts o) class is_class in
            omega (arith, all, low, most);
        enough = λ n. let all = held_c_all n in omega (arith, all);
        known = λ n none some_one. known_c possible n some_one;
        stored = λ n taken. absurd (none_taken (place_use n d.log) (ap (λ (z : View). place_use n z.log) (sym made) ∙ taken));
      };
    }

    pub odd_rooted : (z : View) → z ≡ view_after (PutRoot o (suc t) (root_in (held_words o c))) c → is_writing o z.log ≡ true
    odd_rooted z is = ap (λ (y : View). is_writing o y.log) is ∙ odd_then

    -- after the root and the counts
    module _ (z u : View) (rooted : z ≡ view_after (PutRoot o (suc t) (root_in (held_words o c))) c) (root_held : held_unboxed o z ≡ with_unboxed_root (held_unboxed o c) o (Some table) c) (raw_held : held_words o z ≡ with_root (held_words o c) (Some table) c) (puts : OnlyPut o z u) (count next : ℕ) (count_is : count ≡ length_of left) (next_is : next ≡ serial_of left) (words : held_unboxed o u ≡ record { block = counted (held_unboxed o z).block count count next; table = (held_unboxed o z).table }) (raw_words : (held_words o u).table ≡ (held_words o z).table) where
      held_u : held_unboxed o u ≡ record { block = last; table = ws }
      held_u =
          let at_z : held_unboxed o z ≡ record { block = slice_set b 0 (suc t); table = ws } = root_held ∙ (λ i. record { block = slice_set (held_c i).block 0 (suc t); table = reads_c i }) in
          words ∙ (λ i. record { block = counted (at_z i).block (count_is i) (count_is i) (next_is i); table = (at_z i).table })

      pub root_u : root_in (held_unboxed o u) ≡ suc t
      root_u = ap root_in held_u ∙ (let n = (rooted_names last last_head) in n)
        where
          rooted_names : (l : List ℕ) → IsBlock l (Some class) (length_of left) (length_of left) (serial_of left) → slice_index last 0 ≡ suc t
          rooted_names l h =
              let size_is = bare_head.size in
              let b0 = slice_set b 0 (suc t) in
              let b1 = slice_set b0 1 (length_of left) in
              let b2 = slice_set b1 2 (length_of left) in
              get_or-set_other b2 3 0 (serial_of left) 0 (λ x. absurd (omega (arith, x)))
              ∙ (get_or-set_other b1 2 0 (length_of left) 0 (λ x. absurd (omega (arith, x)))
              ∙ (get_or-set_other b0 1 0 (length_of left) 0 (λ x. absurd (omega (arith, x))) ∙ get_or-set_same b 0 (suc t) 0 (omega (arith, size_is))))

      -- the words as they stand
      pub raw_u : (held_words o u).table ≡ raw
      raw_u = raw_words ∙ (ap (λ (x : ContainerWords). x.table) raw_held ∙ hand_then)

      known_u : known_state o u ≡ record { content = left; table = replaced_table (Some class) (length_of left) }
      known_u = work_knows z u o puts.work ∙ (ap (λ (y : View). known_state o y) rooted ∙ kept_then)

      pub stands_u : Represents k.texts (held_unboxed o u) (known_state o u)
      stands_u = subst (λ (y : ContainerWords × ContainerState). Represents k.texts y.0 y.1) (λ i. (sym held_u i, sym known_u i)) says

      shape_u : u.shape ≡ k
      shape_u = puts.work.pass.shape ∙ (ap (λ (y : View). y.shape) rooted ∙ shape_c)

      kind_u : kind_of left ≡ kind_in u.shape.starts o
      kind_u = e.kind_is ∙ sym (ap (λ (y : Shape). kind_in y.starts o) shape_u)

      pub shut_u : IsShut o u
      shut_u q names =
          let same : t ≡ q = let n = root_u in omega (arith, n, names) in
          subst (λ (y : Kind × ℕ × List ℕ). Shut (version_at y.0 (class_of y.1)) (rows y.0 (class_of y.1)) y.2) (λ i. (kind_u i, same i, (sym held_u i).table))
          (kind_shut (kind_of left) keyed class (rows (kind_of left) class) ws (λ p low. let zero = e.filled.versions p low in omega (arith, zero)))

      pub odd_u : is_writing o u.log ≡ true
      odd_u = puts.work.pass.writes o ∙ odd_rooted z rooted

      pub committed_u : has_committed o u.log ≡ true
      committed_u = puts.work.committed o ∙ (ap (λ (y : View). has_committed o y.log) rooted ∙ ap (λ (y : View). has_committed o y.log) made)

      -- the whole write
      module _ (g : ℕ) (w : View) (keeps : KeepsUnwritten s r) (kept : KeepsUnwritten c z) (moved : MovesReferences o c z) (seen : seen_writes d ≤ number) (stopped : w ≡ view_after (StopWrite o g) u) where
        pub swapping_wrote : Wrote called reply.Done number v w
        swapping_wrote =
            subst
            (λ (n : ℕ). s ≡ view_after (StartWrite n f) v → r ≡ view_after (PutRoot n 0 (root_in (held_words n v))) (view_after (StartWrite n f) v) → z ≡ view_after (PutRoot n (suc t) 0) c → w ≡ view_after (StopWrite n g) u → is_writing n v.log ≡ false → root_in (held_words n v) ≢ suc t → MovesReferences n s r → OnlyWritten n r d → MovesReferences n c z → OnlyPut n z u → root_in (held_words n u) ≡ suc t → Represents u.shape.texts (held_unboxed n u) (known_state n u) → Wrote called reply.Done number v w)
            e.replaces.changed
            (λ s_is r_is z_is w_is quiet new moves_at drops_at moved_at puts_at root stands. swapped_write called reply.Done number f t g snap v d u s r c z w s_is r_is made z_is w_is quiet new seen e.before.may.left keeps moves_at drops_at committed kept moved_at puts_at root stands)
            e.before.started both_rooted (rooted ∙ ap (λ (x : ℕ). view_after (PutRoot o (suc t) x) c) root_c) stopped e.before.may.keyed.even e.before.other e.before.moves written moved puts root_u
            (subst (λ (y : Shape). Represents y.texts (held_unboxed o u) (known_state o u)) (sym shape_u) stands_u)

        -- the pass holds no references, as before
        pub swapping_references : SameReferences v w
        swapping_references n =
            let all = held_c_all n in
            let bare : named_in_words n (kind_in c.shape.starts o) (held_words o c) ≡ 0 = none_named n (kind_in c.shape.starts o) (held_words o c) root_c in
            let names : named_in_words n (kind_in u.shape.starts o) (held_words o u) ≡ named_in_root n (kind_in c.shape.starts o) (suc t) (in_hand t c) = (λ i. named_in_root n (kind_in ((shape_u ∙ sym shape_c) i).starts o) (root_u i) ((raw_u ∙ sym hand_then) i)) in
            let one = moved n in
            let two = puts.moves n in
            let none_u : references_held u.shape n u.log ≡ 0 = omega (arith, all, bare, names, one, two) in
            let before : references_held v.shape n v.log ≡ 0 = ap (λ (y : Shape). references_held y n v.log) e.before.shape ∙ e.before.may.boxes.none n in
            ap (λ (y : View). references_held y.shape n y.log) stopped ∙ (none_u ∙ sym before)
