-- Calls that join two dicts or two sets: what is known of them later, and what they come to.
use Rattle.std.proofs.Common.{◌≡◌, ℕ, zero, suc, ◌+◌, ◌<◌, ◌≤◌, Bool, true, false, Option, Some, None, refl, sym, ap, ◌∙◌, subst, arith, le-ltb, lt-ltb}
use Rattle.ft_model.specs.declared.call.Call.{Call}
use Rattle.ft_model.specs.declared.content.Content.{Content}
use Rattle.ft_model.specs.declared.reply.Reply.TheVariants as reply
use Rattle.ft_model.specs.declared.script.Kind.{Kind}
use Rattle.ft_model.specs.TableUses.{StoredWorld, passes_cap}
use Rattle.ft_model.specs.Worlds.{kind_of, length_of}
use Rattle.ft_keys.specs.declared.walk.Way.{Way}
use Rattle.ft_trace.specs.declared.Shape.{Shape}
use Rattle.ft_trace.specs.declared.View.{View}
use Rattle.ft_trace.specs.Acts.{has_lock}
use Rattle.ft_trace.specs.Addresses.{class_of}
use Rattle.ft_trace.specs.Holds.{held_unboxed, known_state}
use Rattle.ft_trace.specs.Kinds.{IsKeyed, rows}
use Rattle.ft_trace.specs.Pictures.{root_in}
use Rattle.ft_trace.specs.ContainerStates.{ContainerState, changes}
use Rattle.ft_bank.specs.declared.table.Table.{Table}
use Rattle.ft_bank.specs.TableNames.{table_id, IsTableIn}
use Rattle.ft_bank.specs.SameBoxes.{SameReferences}
use Rattle.ft_bank.specs.Whole.{OnlyLoaded, Wrote}
use Rattle.ft_bank.specs.WriteSteps.{MayHave}
use Rattle.ft_bank.proofs.KnownAfterWrites.{loaded_then, work_knows}
use Rattle.ft_table_calls.specs.declared.adding.Added.{Added}
use Rattle.ft_table_calls.specs.declared.adding.Added.TheVariants as added
use Rattle.ft_table_calls.specs.Adding.{IsAdded, KeepsCursors}
use Rattle.ft_table_calls.proofs.Cursors.{added_cursors}
use Rattle.ft_section.specs.declared.answers.Stamp.{Stamp}
use Rattle.ft_search.specs.Rounds.{kind_by}
use Rattle.ft_search.specs.OneEntryWrites.{Leaves}
use Rattle.ft_search.proofs.Puts.{few_places}
use Rattle.ft_new_keys.specs.KeyGrowth.{most_of}
use Rattle.ft_merging.specs.Joining.{AddsKeysOf, JoinsBy, JoinsKeys, join_takes, joined, joined_state, new_keys}
use Rattle.ft_merging.proofs.Joined.{cap_few, joined_more}
use Rattle.ft_merging.proofs.JoinedReads.{Source}
use Rattle.ft_merging.proofs.JoinedRoom.{cap_is, most_joined, same_kept, taken_room}

-- a call that joins the two joins them later too, where the pass knows the same
pub joins_later : (o t : ℕ) (called : Call) (v u : View) → ((found : StoredWorld) → MayHave u found → MayHave v found) → ((p : ℕ) → has_lock p u.log ≡ has_lock p v.log) → known_state o u ≡ known_state o v → known_state t u ≡ known_state t v → JoinsKeys o t called v → JoinsKeys o t called u
joins_later o t called v u has locks mine other joins = record {
  write = joins.write;
  changed = joins.changed;
  words = joins.words;
  locks = λ p e. locks p ∙ joins.locks p e;
  replied = λ found h. joins.replied found (has found h);
  declared = λ found h. joins.declared found (has found h);
  lacks = λ found h. joins.lacks found (has found h);
  over = λ found h. joins.over found (has found h) ∙ (λ i. passes_cap (joined (sym mine i).content (sym other i).content));
  takes = λ found h. joins.takes found (has found h) ∙ (λ i. join_takes (sym mine i) (sym other i).content);
  left_is = λ found h. joins.left_is found (has found h) ∙ (λ i. joined_state (sym mine i) (sym other i).content);
}

-- where nothing is new it leaves what there was
pub joins_leaves : (o t : ℕ) (called : Call) (v : View) → JoinsKeys o t called v → joined (known_state o v).content (known_state t v).content ≡ (known_state o v).content → passes_cap (known_state o v).content ≡ false → Leaves o called reply.Done (known_state o v) v
joins_leaves o t called v joins same few = record {
  write = joins.write;
  changed = joins.changed;
  words = joins.words;
  locks = joins.locks;
  replied = joins.replied;
  declared = joins.declared;
  fits = λ found has. joins.over found has ∙ (ap passes_cap same ∙ few);
  left_is = λ found has. joins.left_is found has ∙ (same_kept (known_state o v) (known_state t v).content same).0;
}

-- ---- the calls

pub made_here : (k : Shape) (o : ℕ) (called : Call) (v w : View) (stamp : Stamp) (number : ℕ) → stamp ≡ record { number = number; wrote = true } → changes called ≡ o → Wrote called reply.Done number v w → SameReferences v w → root_in (held_unboxed o w) ≡ root_in (held_unboxed o v) → IsAdded k None false called reply.Done v w (added.Made stamp)
made_here k o called v w stamp number is changed wrote references root = (
  refl,
  ap (λ (z : Stamp). z.wrote) is,
  record {
    wrote = subst (λ (z : Stamp). Wrote called reply.Done z.number v w) (sym is) wrote;
    root = subst (λ (n : ℕ). root_in (held_unboxed n w) ≡ root_in (held_unboxed n v)) (sym changed) root;
    references = references;
  },
)

-- a call that joins nothing new comes to that
pub joins_nothing : (k : Shape) (o t : ℕ) (called : Call) (v w : View) (what : Added) → joined (known_state o v).content (known_state t v).content ≡ (known_state o v).content → passes_cap (known_state o v).content ≡ false → IsAdded k None false called reply.Done v w what → IsAdded k (join_takes (known_state o v) (known_state t v).content) (passes_cap (joined (known_state o v).content (known_state t v).content)) called reply.Done v w what
joins_nothing k o t called v w what same few is =
    let takes = (same_kept (known_state o v) (known_state t v).content same).1 in
    let over = ap passes_cap same ∙ few in
    subst (λ (z : Option ℕ × Bool). IsAdded k z.0 z.1 called reply.Done v w what) (λ i. (sym takes i, sym over i)) is

-- and what it comes to after loads, seen from before them
pub joins_by : (k : Shape) (o t : ℕ) (called : Call) (v u w : View) (what : Added) → OnlyLoaded v u → IsAdded k (join_takes (known_state o u) (known_state t u).content) (passes_cap (joined (known_state o u).content (known_state t u).content)) called reply.Done u w what → AddsKeysOf k o t called v w what
joins_by k o t called v u w what only is =
    let mine = work_knows v u o only.work in
    let other = work_knows v u t only.work in
    (u, only, subst (λ (z : ContainerState × ContainerState). IsAdded k (join_takes z.0 z.1.content) (passes_cap (joined z.0.content z.1.content)) called reply.Done u w what) (λ i. (mine i, other i)) is)

pub joins_then : (k : Shape) (o t : ℕ) (called : Call) (v u w : View) (what : Added) → OnlyLoaded v u → AddsKeysOf k o t called u w what → AddsKeysOf k o t called v w what
joins_then k o t called v u w what only is = joins_by k o t called v is.0 w what (loaded_then v u is.0 only is.1)
    (subst (λ (z : ContainerState × ContainerState). IsAdded k (join_takes z.0 z.1.content) (passes_cap (joined z.0.content z.1.content)) called reply.Done is.0 w what) (λ i. (sym (work_knows u is.0 o is.1.work) i, sym (work_knows u is.0 t is.1.work) i)) is.2)

-- it leaves the cursors of its pass
pub joins_cursors : (k : Shape) (o t : ℕ) (called : Call) (v w : View) (what : Added) → JoinsBy k o t called v w what → KeepsCursors v w
joins_cursors k o t called v w what x number =
    added_cursors _ k (join_takes (known_state o v) (known_state t v).content) (passes_cap (joined (known_state o v).content (known_state t v).content)) called reply.Done x.0.0 w what x.0.2 number ∙ x.0.1.work.pass.cursors number

-- ---- numbers

-- entries of a table are few
pub few_rows : (k : Shape) (table : Table) (kind : Kind) (n : ℕ) → IsTableIn k table → IsKeyed kind → n ≤ rows kind (class_of (table_id table)) → n ≤ 65536
few_rows k table kind zero table_in keyed low = omega arith
few_rows k table kind (suc n) table_in keyed low = let f = few_places k table kind n table_in keyed (omega (arith, low)) in omega (arith, f)

-- there are as many more as are new
pub many_joined : (k : Shape) (by : Way) (t : ℕ) (table : Table) (v : View) (s : Source k by t table v) (d : Content) → kind_of d ≡ kind_by by → length_of (joined d (known_state t v).content) ≡ length_of d + new_keys d (known_state t v).content
many_joined k by t table v s d same =
    let j = joined_more k by t table v s d same in
    let n = j.0 in
    let m = j.1 in
    omega (arith, n, m)

-- they aren't too many, or they are
pub few_joined : (d others : Content) (n : ℕ) → length_of (joined d others) ≡ n → passes_cap (joined d others) ≡ false → n ≤ most_of d
few_joined d others n is cap = let f = cap_few (joined d others) cap in let m = most_joined d others in omega (arith, f, m, is)

pub cap_joined : (d others : Content) (n : ℕ) → length_of (joined d others) ≡ n → n ≤ most_of d → passes_cap (joined d others) ≡ false
cap_joined d others n is few = cap_is (joined d others) ∙ le-ltb (most_of (joined d others)) (length_of (joined d others)) (let m = most_joined d others in omega (arith, few, m, is))

pub over_joined : (d others : Content) (n : ℕ) → length_of (joined d others) ≡ n → most_of d < n → passes_cap (joined d others) ≡ true
over_joined d others n is many = cap_is (joined d others) ∙ lt-ltb (most_of (joined d others)) (length_of (joined d others)) (let m = most_joined d others in omega (arith, many, m, is))

-- the table that is taken has room
pub new_room : (k : Shape) (by : Way) (t : ℕ) (table : Table) (v : View) (s : Source k by t table v) (kept : ContainerState) (class : ℕ) → kind_of kept.content ≡ kind_by by → passes_cap (joined kept.content (known_state t v).content) ≡ false → join_takes kept (known_state t v).content ≡ Some class → length_of kept.content + new_keys kept.content (known_state t v).content ≤ rows (kind_by by) class
new_room k by t table v s kept class same cap takes = taken_room kept.content by kept.table class (new_keys kept.content (known_state t v).content) same (few_joined kept.content (known_state t v).content _ (many_joined k by t table v s kept.content same) cap) takes
