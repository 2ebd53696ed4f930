-- That a call may be committed which has put a new key's entry, and what the pass knew before it.
use Rattle.std.proofs.Common.{◌≡◌, ℕ, suc, ◌+◌, ◌<◌, true, false, true≢false, List, [], Some, sym, ap, ◌∙◌, subst, arith, ne_eqb}
use Rattle.std.specs.Prelude.{◌==◌, nat_lt}
use Rattle.ft_model.specs.declared.call.Call.{Call}
use Rattle.ft_model.specs.declared.data.Key.{Key}
use Rattle.ft_model.specs.declared.reply.Reply.{Reply}
use Rattle.ft_model.specs.declared.script.Kind.{Kind}
use Rattle.ft_model.specs.TableUses.{StoredWorld, TableUse, grown_table, takes_in, after_stored}
use Rattle.ft_model.specs.Worlds.{kind_of, length_of}
use Rattle.ft_layout.specs.declared.slot.Stored.{Stored}
use Rattle.ft_trace.specs.declared.Act.TheVariants.{StartWrite, PutRoot}
use Rattle.ft_trace.specs.declared.Shape.{Shape}
use Rattle.ft_trace.specs.declared.View.{View}
use Rattle.ft_trace.specs.Acts.{has_lock, is_writing, has_emptied, owes, view_after}
use Rattle.ft_trace.specs.Addresses.{container_count, class_of, slots}
use Rattle.ft_trace.specs.Boxes.{place_use, StoresTaken}
use Rattle.ft_trace.specs.Holds.{held_unboxed, known_state}
use Rattle.ft_trace.specs.Kinds.{rows, version_at, CarefulAs, ClearAs}
use Rattle.ft_trace.specs.OddVersions.{Shut}
use Rattle.ft_trace.specs.Pictures.{root_in, entry_offset, entry_field, Represents}
use Rattle.ft_trace.specs.ContainerStates.{ContainerState, state_at, kind_in, changes, reply_in, kinds_in}
use Rattle.ft_trace.proofs.Cases.{hit}
use Rattle.ft_bank.specs.declared.table.Table.{Table}
use Rattle.ft_bank.specs.SameBoxes.{TakesNoPlace}
use Rattle.ft_bank.specs.TableNames.{table_id}
use Rattle.ft_bank.specs.Whole.{OnlyWritten}
use Rattle.ft_bank.specs.WriteSteps.{MayCommit, MayHave}
use Rattle.ft_bank.proofs.KnownAfterWrites.{work_knows}
use Rattle.ft_search.specs.OneEntryWrites.{Leaves, MayFinish, raised_at}
use Rattle.ft_search.proofs.Calling.{plain_replied}
use Rattle.ft_search.proofs.Changing.{Changing}
use Rattle.ft_new_keys.specs.KeyGrowth.{AddsKey, key_takes, most_of}
use Rattle.ft_new_keys.specs.Placing.{with_key}

-- The pass has made the version of the container o odd, and has put words since, but no commit; it knows the same contents.
pub record Since (o : ℕ) (v u : View) : Type 0 where
  pub shape : u.shape ≡ v.shape
  pub knows : (p : ℕ) → known_state p u ≡ known_state p v
  pub locks : (p : ℕ) → has_lock p u.log ≡ has_lock p v.log
  pub odd : is_writing o u.log ≡ true
  pub emptied : has_emptied o u.log ≡ false
  pub left : u.left ≡ v.left
  pub owes : owes u.log ≡ owes v.log
  pub places : TakesNoPlace v u

pub since_start : (o : ℕ) (v s u : View) (f : ℕ) → s ≡ view_after (StartWrite o f) v → OnlyWritten o s u → Since o v u
since_start o v s u f begun puts = record {
  shape = puts.work.pass.shape ∙ ap (λ (z : View). z.shape) begun;
  knows = λ p. work_knows s u p puts.work ∙ ap (λ (z : View). known_state p z) begun;
  locks = λ p. puts.work.pass.locks p ∙ ap (λ (z : View). has_lock p z.log) begun;
  odd = puts.work.pass.writes o ∙ (ap (λ (z : View). is_writing o z.log) begun ∙ hit o true (is_writing o v.log));
  emptied = puts.work.emptied o ∙ (ap (λ (z : View). has_emptied o z.log) begun ∙ hit o false (has_emptied o v.log));
  left = puts.work.left ∙ ap (λ (z : View). z.left) begun;
  owes = puts.work.owes ∙ ap (λ (z : View). owes z.log) begun;
  places = λ b taken. sym (ap (λ (z : View). place_use b z.log) begun) ∙ puts.made.places b taken;
}

pub since_root : (o t old : ℕ) (v r u : View) (f : ℕ) → r ≡ view_after (PutRoot o (suc t) old) (view_after (StartWrite o f) v) → OnlyWritten o r u → Since o v u
since_root o t old v r u f is puts = record {
  shape = puts.work.pass.shape ∙ ap (λ (z : View). z.shape) is;
  knows = λ p. work_knows r u p puts.work ∙ ap (λ (z : View). known_state p z) is;
  locks = λ p. puts.work.pass.locks p ∙ ap (λ (z : View). has_lock p z.log) is;
  odd = puts.work.pass.writes o ∙ (ap (λ (z : View). is_writing o z.log) is ∙ hit o true (is_writing o v.log));
  emptied = puts.work.emptied o ∙ (ap (λ (z : View). has_emptied o z.log) is ∙ (hit o (suc t == 0) _ ∙ ne_eqb (suc t) 0 (λ e. absurd (omega (arith, e)))));
  left = puts.work.left ∙ ap (λ (z : View). z.left) is;
  owes = puts.work.owes ∙ ap (λ (z : View). owes z.log) is;
  places = λ b taken. sym (ap (λ (z : View). place_use b z.log) is) ∙ puts.made.places b taken;
}

module _ (o : ℕ) (v u : View) (since : Since o v u) where
  pub has_since : (found : StoredWorld) → MayHave u found → MayHave v found
  has_since found has = record {
    agrees = λ p low mine. has.agrees p (subst (λ (z : Shape). p < container_count z) (sym since.shape) low) (since.locks p ∙ mine) ∙ since.knows p;
    containers = has.containers ∙ ap container_count since.shape;
    kinds = has.kinds ∙ ap (λ (z : Shape). kinds_in z.starts) since.shape;
    order = has.order;
    unsplit = has.unsplit;
    words = has.words;
  }

  module _ (k : Shape) (table : Table) (place : ℕ) (called : Call) (said : Reply) (left : ContainerState) (leaves : Leaves o called said left v) (shape : v.shape ≡ k) (low : o < container_count k) (some : 0 < v.left) (stores : (found : StoredWorld) → MayHave u found → StoresTaken u.shape found.world u.log called)
      (takes : (found : StoredWorld) (class : ℕ) → MayHave v found → owes v.log ≡ suc class → takes_in found called ≡ Some class)
      (kind_eq : kind_of (known_state o v).content ≡ kind_in k.starts o) (was : TableUse) (change : Changing k.texts (table_id table) (held_unboxed o u) (record { content = (known_state o v).content; table = was }) place [] left) (root : root_in (held_unboxed o u) ≡ suc (table_id table)) where
    abbrev c : ℕ
    c = class_of (table_id table)

    abbrev at : ℕ
    at = entry_offset (slots c) place 0

    shape_u : u.shape ≡ k
    shape_u = since.shape ∙ shape

    kind_u : kind_of (known_state o v).content ≡ kind_in u.shape.starts o
    kind_u = kind_eq ∙ sym (ap (λ (z : Shape). kind_in z.starts o) shape_u)

    texts_u : k.texts ≡ u.shape.texts
    texts_u = sym (ap (λ (z : Shape). z.texts) shape_u)

    left_since : (found : StoredWorld) → MayHave u found → state_at (after_stored found called) o ≡ left
    left_since found has = leaves.left_is found (has_since found has)

    clears : (found : StoredWorld) (t : ℕ) → MayHave u found → root_in (held_unboxed o u) ≡ suc t → ClearAs (kind_in u.shape.starts o) u.shape.texts (class_of t) (held_unboxed o u).table (known_state o u).content (state_at (after_stored found called) o).content
    clears found t has names =
        let same : table_id table ≡ t = let e : suc (table_id table) ≡ suc t = sym root ∙ names in omega (arith, e) in
        subst (λ (n : ℕ). ClearAs (kind_in u.shape.starts o) u.shape.texts (class_of n) (held_unboxed o u).table (known_state o u).content (state_at (after_stored found called) o).content) same
        (subst (λ (z : Kind × List ℕ × ContainerState × ContainerState). ClearAs z.0 z.1 c (held_unboxed o u).table z.2.content z.3.content) (λ d. (kind_u d, texts_u d, sym (since.knows o) d, sym (left_since found has) d)) change.clear)

    commits : MayCommit u called said
    commits =
        let name : o ≡ changes called = sym leaves.changed in
        record {
          write = leaves.write;
          container = subst (λ (n : ℕ). n < container_count u.shape) name (subst (λ (z : Shape). o < container_count z) (sym shape_u) low);
          odd = subst (λ (n : ℕ). is_writing n u.log ≡ true) name since.odd;
          left = subst (λ (n : ℕ). 0 < n) (sym since.left) some;
          words = leaves.words;
          reply_is = λ found has. plain_replied called said (reply_in found called) leaves.write (leaves.replied found (has_since found has));
          declared = λ found has. leaves.declared found (has_since found has);
          fits = λ found has. leaves.fits found (has_since found has);
          clear = subst (λ (n : ℕ). (found : StoredWorld) (t : ℕ) → MayHave u found → root_in (held_unboxed n u) ≡ suc t → ClearAs (kind_in u.shape.starts n) u.shape.texts (class_of t) (held_unboxed n u).table (known_state n u).content (state_at (after_stored found called) n).content) name clears;
          takes = λ found class has owed. takes found class (has_since found has) (sym since.owes ∙ owed);
          empties = λ e. absurd (true≢false (sym e ∙ subst (λ (n : ℕ). has_emptied n u.log ≡ false) name since.emptied));
          locks = λ p e. since.locks p ∙ leaves.locks p e;
          stores = stores;
        }

    pub key_finishes : MayFinish o table place called said u
    key_finishes = record {
      may = commits;
      changed = leaves.changed;
      left = left;
      left_is = left_since;
      odd = change.odd;
      close = subst (λ (z : Kind). CarefulAs z c (held_unboxed o u).table left.content at (entry_field (slots c) (held_unboxed o u).table place 0 + 1)) kind_u change.close;
      stands = subst (λ (z : List ℕ). Represents z (raised_at (table_id table) place (held_unboxed o u)) left) texts_u change.stands;
      shut = subst (λ (z : Kind). Shut (version_at z c) (rows z c) (raised_at (table_id table) place (held_unboxed o u)).table) kind_u change.shut;
    }

-- ---- what a call leaves that adds a key

pub adds_leaves : (o : ℕ) (called : Call) (said : Reply) (key : Key) (stored : Stored) (v : View) → AddsKey o called said key stored v → nat_lt (most_of (known_state o v).content) (length_of (known_state o v).content + 1) ≡ false → (now : TableUse) → grown_table (known_state o v).table (key_takes (known_state o v).content (known_state o v).table) 1 (length_of (known_state o v).content + 1) ≡ now
    → Leaves o called said (record { content = with_key (known_state o v).content key stored; table = now }) v
adds_leaves o called said key stored v adds few now is = record {
  write = adds.write;
  changed = adds.changed;
  words = adds.words;
  locks = adds.locks;
  replied = adds.replied;
  declared = adds.declared;
  fits = λ found has. adds.over found has ∙ few;
  left_is = λ found has. adds.left_is found has ∙ (λ d. record { content = with_key (known_state o v).content key stored; table = is d });
}
