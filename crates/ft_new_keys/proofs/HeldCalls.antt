-- What a call comes to that adds a key whose value may stand in a box: without a box, and where the write isn't made.
use Rattle.std.proofs.Common.{◌≡◌, ℕ, zero, suc, ◌+◌, ◌<◌, Bool, false, Option, Some, None, refl, sym, ap, ◌∙◌, subst, arith}
use Rattle.std.specs.Prelude.{nat_lt}
use Rattle.std.specs.Option.{unwrap_or}
use Rattle.ft_model.specs.declared.call.Call.{Call}
use Rattle.ft_model.specs.declared.data.Key.{Key}
use Rattle.ft_model.specs.declared.reply.Reply.{Reply}
use Rattle.ft_model.specs.Worlds.{length_of}
use Rattle.ft_layout.specs.declared.slot.Ref.{Ref}
use Rattle.ft_layout.specs.declared.slot.Stored.{Stored}
use Rattle.ft_trace.specs.declared.Shape.{Shape}
use Rattle.ft_trace.specs.declared.View.{View}
use Rattle.ft_trace.specs.Acts.{is_writing, owes, stage}
use Rattle.ft_trace.specs.Boxes.{place_use, references_held, use_taken, IsDoneWithBoxes, IsSettled}
use Rattle.ft_trace.specs.ContainerStates.{ContainerState, changes}
use Rattle.ft_trace.specs.Holds.{held_words, held_unboxed, known_state}
use Rattle.ft_trace.specs.Pictures.{root_in}
use Rattle.ft_bank.specs.declared.table.Table.{Table}
use Rattle.ft_bank.specs.BoxSteps.{box_id, IsBoxIn}
use Rattle.ft_bank.specs.SameBoxes.{TakesNoPlace}
use Rattle.ft_bank.specs.TableNames.{table_id, IsTableIn}
use Rattle.ft_bank.specs.Takings.{KeepsBut}
use Rattle.ft_bank.specs.Whole.{OnlyLoaded, SamePass}
use Rattle.ft_bank.proofs.DoneBoxes.{settled_same}
use Rattle.ft_bank.proofs.KnownAfterWrites.{loaded_boxed, work_knows}
use Rattle.ft_bank.proofs.TableAddresses.{class_is}
use Rattle.ft_boxes.specs.References.{HoldsBox, HoldsOneLess, LeavesNoTaken}
use Rattle.ft_section.specs.declared.answers.Stamp.{Stamp}
use Rattle.ft_search.proofs.Calling.{loaded_same}
use Rattle.ft_search.proofs.Puts.{done_then, same_done}
use Rattle.ft_table_calls.specs.declared.adding.Added.{Added}
use Rattle.ft_table_calls.specs.declared.adding.Added.TheVariants as added
use Rattle.ft_table_calls.specs.Adding.{IsAdded, Retires, WasMade}
use Rattle.ft_table_calls.specs.Dropping.{Drops, DropsUnmade}
use Rattle.ft_table_calls.proofs.Unmade.{Untouched, is_made, loaded_untouched, not_made, unmade_untouched, untouched_then}
use Rattle.ft_new_keys.specs.HeldKeys.{AddsHeldKey, HoldsFor, IsPut, KeyInBox, MayPutInNew, MayPutKey, PutsOne}
use Rattle.ft_new_keys.specs.KeyGrowth.{AddsOne, KnowsKeyed, MayAddKey, key_takes, most_of}
use Rattle.ft_new_keys.proofs.Grown.{knows_on}
use Rattle.ft_new_keys.proofs.HeldKeys.{needed_some, needs_one}

-- ---- who may add a key, later

pub put_loaded : (k : Shape) (o : ℕ) (old : Option Table) (v u : View) → OnlyLoaded v u → held_unboxed o u ≡ held_unboxed o v → MayPutKey k o old v → MayPutKey k o old u
put_loaded k o old v u only same may = record {
  keyed = knows_on k o old v u same (work_knows v u o only.work) (only.work.pass.locks o) (only.work.pass.writes o) may.keyed;
  even = λ p. only.work.pass.writes p ∙ may.even p;
  used = only.work.used ∙ may.used;
  owes = only.work.owes ∙ may.owes;
  idle = only.work.pass.flight ∙ may.idle;
  left = subst (λ (n : ℕ). 0 < n) (sym only.work.left) may.left;
}

pub put_tried : (F : ℕ → Type 0) (v u : View) → SamePass v u → KeepsBut F v u → (k : Shape) (o : ℕ) (old : Option Table) (table : Table) (class : ℕ) → KnowsKeyed k o old u → MayPutKey k o old v → IsTableIn k table → table.class ≡ class → stage (table_id table) u.log ≡ 1 → owes u.log ≡ suc class → MayPutInNew k o old table u
put_tried F v u same keeps k o old table class keyed may table_in of_class fresh owed = record {
  keyed = keyed;
  even = λ p. same.writes p ∙ may.even p;
  used = keeps.held.used ∙ may.used;
  owed = owed ∙ ap suc (sym (class_is table table_in.2 ∙ of_class));
  fresh = fresh;
  table_in = table_in;
  left = subst (λ (n : ℕ). 0 < n) (sym keeps.held.left) may.left;
}

pub put_added : (k : Shape) (o : ℕ) (old : Option Table) (v : View) → MayAddKey k o old v → MayPutKey k o old v
put_added k o old v may = record { keyed = may.keyed; even = may.even; used = may.used; owes = may.owes; idle = may.idle; left = may.left }

-- ---- what it comes to

-- after loads, seen from before them
pub puts_one : (k : Shape) (o : ℕ) (key : Key) (boxed : Option Ref) (called : Call) (said : Reply) (v u w : View) (what : Added) (takes : Option ℕ) (over : Bool) → OnlyLoaded v u → key_takes (known_state o u).content (known_state o u).table ≡ takes → nat_lt (most_of (known_state o u).content) (length_of (known_state o u).content + 1) ≡ over → IsPut k o key boxed takes over called said u w what → PutsOne k o key boxed called said v w what
puts_one k o key boxed called said v u w what takes over only same_takes same_over is =
    let known_same : known_state o u ≡ known_state o v = work_knows v u o only.work in
    let t : takes ≡ key_takes (known_state o v).content (known_state o v).table = sym same_takes ∙ ap (λ (z : ContainerState). key_takes z.content z.table) known_same in
    let b : over ≡ nat_lt (most_of (known_state o v).content) (length_of (known_state o v).content + 1) = sym same_over ∙ ap (λ (z : ContainerState). nat_lt (most_of z.content) (length_of z.content + 1)) known_same in
    (u, only, subst (λ (z : Option ℕ × Bool). IsPut k o key boxed z.0 z.1 called said u w what) (λ i. (t i, b i)) is)

-- without a box it is what it is for a pass that is done with boxes
pub put_plain : (k : Shape) (o : ℕ) (key : Key) (takes : Option ℕ) (over : Bool) (called : Call) (said : Reply) (v w : View) (what : Added) → v.shape ≡ k → IsDoneWithBoxes k v.log → IsPut k o key None takes over called said v w what → IsAdded k takes over called said v w what
put_plain k o key None over called said v w (added.Made stamp) shape done x =
    let y = x.2 in
    (x.0, x.1, record { wrote = y.wrote; root = y.root; references = same_done k v w shape (y.wrote.pass.shape ∙ shape) done y.references.boxes })
put_plain k o key (Some class) over called said v w (added.Made stamp) shape done x =
    let y = x.2 in
    let t = y.tried in
    let first : y.taken.shape ≡ k = t.same.shape ∙ shape in
    let before = done_then k v y.taken shape t.same.shape t.keeps.boxes.references t.keeps.boxes.made done in (
      x.0,
      x.1,
      record { table = y.table; taken = y.taken; tried = t; other = y.other; done = y.done; wrote = y.wrote; root = y.root; references = same_done k y.taken y.done first (y.wrote.pass.shape ∙ first) before y.references.boxes; retired = y.retired },
    )
put_plain k o key takes over called said v w (added.NoTable class stamp) shape done x = x
put_plain k o key takes over called said v w (added.Over stamp) shape done x = x
put_plain k o key takes over called said v w (added.NoPlace stamp) shape done x = x
put_plain k o key takes over called said v w (added.Moved a b) shape done x = x

pub adds_plain : (k : Shape) (o : ℕ) (key : Key) (called : Call) (said : Reply) (v w : View) (what : Added) → v.shape ≡ k → IsDoneWithBoxes k v.log → PutsOne k o key None called said v w what → AddsOne k o called said v w what
adds_plain k o key called said v w what shape done x =
    let u = x.0 in
    let l = x.1 in
    (u, l, put_plain k o key _ _ called said u w what (l.work.pass.shape ∙ shape) (done_then k v u shape l.work.pass.shape l.boxes.references l.boxes.made done) x.2)

-- the retirement of a table leaves the entry
retired_there : (k : Shape) (o : ℕ) (key : Key) (boxed : Option Ref) (root : ℕ) (v w : View) → Retires root v w → KeyInBox k o key boxed v → KeyInBox k o key boxed w
retired_there k o key boxed zero v w is there = subst (KeyInBox k o key boxed) (sym is) there
retired_there k o key boxed (suc t) v w is there =
    subst (KeyInBox k o key boxed) (sym is.1)
    (record {
      boxes = record { settled = record { unmade = there.boxes.settled.unmade; counted = there.boxes.settled.counted; whole = there.boxes.settled.whole; given = there.boxes.settled.given }; none = there.boxes.none; stored = there.boxes.stored };
      names = λ b e. let x = there.names b e in record { table = x.table; place = x.place; root = x.root; live = x.live; kind = x.kind; payload = x.payload };
    })

-- where the write was made the pass is done with boxes, and the entry names the box
pub made_there : (k : Shape) (o : ℕ) (key : Key) (boxed : Option Ref) (takes : Option ℕ) (over : Bool) (called : Call) (said : Reply) (v w : View) (stamp : Stamp) → IsPut k o key boxed takes over called said v w (added.Made stamp) → KeyInBox k o key boxed w
made_there k o key boxed None over called said v w stamp x = x.2.references
made_there k o key boxed (Some class) over called said v w stamp x = retired_there k o key boxed (root_in (held_words (changes called) x.2.taken)) x.2.done w x.2.retired x.2.references

pub adds_made : (k : Shape) (o : ℕ) (key : Key) (b : Ref) (called : Call) (said : Reply) (v w : View) (what : Added) (stamp : Stamp) → what ≡ added.Made stamp → PutsOne k o key (Some b) called said v w what → AddsHeldKey k o key b called said v w what
adds_made k o key b called said v w what stamp is x =
    let there = made_there k o key (Some b) _ _ called said x.0 w stamp (subst (λ (z : Added). IsPut k o key (Some b) (key_takes (known_state o v).content (known_state o v).table) (nat_lt (most_of (known_state o v).content) (length_of (known_state o v).content + 1)) called said x.0 w z) is x.2) in
    record { after = w; put = x; dropped = loaded_boxed w w (loaded_same w); boxes = there.boxes; names = λ any e. there.names b refl }

-- ---- where it isn't made

pub puts_untouched : (k : Shape) (o : ℕ) (key : Key) (boxed : Option Ref) (called : Call) (said : Reply) (v w : View) (what : Added) → (WasMade what → ⊥) → PutsOne k o key boxed called said v w what → Untouched v w
puts_untouched k o key boxed called said v w what unmade x = untouched_then v x.0 w (loaded_untouched v x.0 x.1) (unmade_untouched (λ y z. KeyInBox k o key boxed z) k _ _ called said x.0 w what unmade x.2)

module _ (k : Shape) (b : Ref) (stored : Stored) (v w : View) (shape : v.shape ≡ k) (holds : HoldsFor (Some b) stored v) (same : Untouched v w) where
  -- the box may be let go
  pub still_holds : HoldsBox b w
  still_holds =
      let h = same.references (box_id b) ∙ holds.held (box_id b) in
      let one = needs_one b in
      (subst (λ (z : Shape). IsBoxIn z b) (sym same.shape) (holds.knows b refl).0, omega (arith, h, one))

  pub still_settled : IsSettled w.log
  still_settled = settled_same v.log w.log same.made.state same.made.local same.made.taken same.made.places holds.settled

  -- and then the pass is done with boxes
  pub done_let_go : (z : View) → z.shape ≡ k → ((o : ℕ) → is_writing o v.log ≡ false) → IsSettled z.log → HoldsOneLess b w z → TakesNoPlace w z → LeavesNoTaken b w z → IsDoneWithBoxes k z.log
  done_let_go z last even settled less places gone =
      let none : (c : ℕ) → references_held z.shape c z.log ≡ 0 = λ c.
      let l = less c in
      let h = same.references c ∙ holds.held c in
      omega (arith, l, h) in
      record {
        settled = settled;
        none = λ c. ap (λ (y : Shape). references_held y c z.log) (sym last) ∙ none c;
        stored = λ c taken.
            let was : place_use c v.log ≡ use_taken = sym (same.made.uses c) ∙ places c taken in
            let x = needed_some (Some b) c (holds.taken c was) in
            let at : x.0 ≡ b = same_ref x.0 x.1 in
            gone (λ o. same.writes o ∙ even o) (none (box_id b)) (subst (λ (n : ℕ). place_use n z.log ≡ use_taken) (x.2 ∙ ap box_id at) taken);
      }
    where
      same_ref : (c : Ref) → Some b ≡ Some c → c ≡ b
      same_ref c is = sym (ap (λ (o : Option Ref). unwrap_or o b) is)

-- the pass added the key so, and dropped the reference where the write wasn't made
pub held_key : (k : Shape) (o : ℕ) (key : Key) (b : Ref) (stored : Stored) (called : Call) (said : Reply) (v w z : View) (what : Added) → v.shape ≡ k → z.shape ≡ k → HoldsFor (Some b) stored v → ((p : ℕ) → is_writing p v.log ≡ false) → PutsOne k o key (Some b) called said v w what → DropsUnmade b w z what → AddsHeldKey k o key b called said v z what
held_key k o key b stored called said v w z what shape last holds even x drops = by what x drops
  where
    unmade : (that : Added) → is_made that ≡ false → PutsOne k o key (Some b) called said v w that → Drops b w z → AddsHeldKey k o key b called said v z that
    unmade that not y d = record {
      after = w;
      put = y;
      dropped = d.only;
      boxes = done_let_go k b stored v w shape holds (puts_untouched k o key (Some b) called said v w that (not_made that not) y) z last even d.settled d.less d.places d.gone;
      names = λ stamp made. not_made that not (stamp, made);
    }

    by : (that : Added) → PutsOne k o key (Some b) called said v w that → DropsUnmade b w z that → AddsHeldKey k o key b called said v z that
    by (added.Made stamp) y d = subst (λ (r : View). AddsHeldKey k o key b called said v r (added.Made stamp)) (sym d) (adds_made k o key b called said v w (added.Made stamp) stamp refl y)
    by (added.NoTable class stamp) y d = unmade (added.NoTable class stamp) refl y d
    by (added.Over stamp) y d = unmade (added.Over stamp) refl y d
    by (added.NoPlace stamp) y d = unmade (added.NoPlace stamp) refl y d
    by (added.Moved first second) y d = unmade (added.Moved first second) refl y d
