-- What a call comes to that adds a value in a box: the pass is done with boxes then, whether the box is the list's or its
-- reference was dropped.
use Rattle.std.proofs.Common.{◌≡◌, ◌≢◌, ℕ, zero, suc, ◌+◌, ◌<◌, Bool, true, false, true≢false, eqb, cond, List, length, Option, Some, None, refl, sym, ap, ◌∙◌, subst, arith}
use Rattle.std.specs.Prelude.{nat_lt}
use Rattle.ft_model.specs.declared.call.Call.{Call}
use Rattle.ft_model.specs.declared.call.ListCall.{ListCall}
use Rattle.ft_model.specs.declared.data.Value.{Value}
use Rattle.ft_model.specs.declared.reply.Reply.TheVariants as reply
use Rattle.ft_model.specs.Classes.{most_items}
use Rattle.ft_model.specs.TableUses.{StoredWorld, list_takes}
use Rattle.ft_model.specs.Worlds.{list_of}
use Rattle.ft_layout.specs.declared.slot.Ref.{Ref}
use Rattle.ft_layout.specs.declared.slot.Stored.{Stored}
use Rattle.ft_layout.specs.declared.slot.Stored.TheVariants.{Boxed}
use Rattle.ft_trace.specs.declared.Shape.{Shape}
use Rattle.ft_trace.specs.declared.View.{View}
use Rattle.ft_trace.specs.Acts.{is_writing}
use Rattle.ft_trace.specs.Boxes.{place_use, references_held, use_taken, IsSettled}
use Rattle.ft_trace.specs.ContainerStates.{ContainerState, changes}
use Rattle.ft_trace.specs.Holds.{held_words, known_state}
use Rattle.ft_trace.specs.Pictures.{root_in}
use Rattle.ft_trace.specs.Traces.{IsReachable}
use Rattle.ft_bank.specs.declared.table.Table.{Table}
use Rattle.ft_bank.specs.BoxSteps.{box_id, IsBoxIn}
use Rattle.ft_bank.specs.SameBoxes.{StaysSettled}
use Rattle.ft_bank.specs.Whole.{OnlyLoaded, SameWork}
use Rattle.ft_bank.specs.WriteSteps.{MayHave}
use Rattle.ft_bank.proofs.DoneBoxes.{settled_then, stays_settled_same}
use Rattle.ft_bank.proofs.KnownAfterWrites.{loaded_then, work_knows}
use Rattle.ft_boxes.specs.References.{HoldsBox}
use Rattle.ft_search.proofs.Changing.{no_keys}
use Rattle.ft_search.proofs.Overs.{boxed_names, held_same, other_way}
use Rattle.ft_table_calls.specs.declared.adding.Added.{Added}
use Rattle.ft_table_calls.specs.declared.adding.Added.TheVariants as added
use Rattle.ft_table_calls.specs.Adding.{KeepsCursors, Retires, WasMade}
use Rattle.ft_table_calls.proofs.Cursors.{added_cursors}
use Rattle.ft_table_calls.proofs.GrowthMidst.{retired_same}
use Rattle.ft_table_calls.proofs.Unmade.{is_made, not_made, unmade_untouched}
use Rattle.ft_search.specs.HeldValues.{HoldsValue}
use Rattle.ft_list.specs.HeldValues.{AddsHeldItem, AddsStored, GivesReference, HasStored, HasWordsFrom, IsAddedStoring}
use Rattle.ft_list.specs.ListItemWrites.{known_items}
use Rattle.ft_list.specs.ListWrites.{Adds}
use Rattle.ft_list.specs.Internal.NewListTables.{KnowsList, list_use_of}
use Rattle.ft_table_calls.specs.Dropping.{Drops, DropsUnmade}
use Rattle.ft_list.proofs.GrownLists.{knows_content}
use Rattle.ft_list.proofs.HeldWrites.{done_alone, holds_box}
use Rattle.ft_list.proofs.Wanted.{list_use}
use Rattle.ft_list.proofs.WholeListWrites.{has_before}

-- ---- the call in the place of loads

-- it adds the same as it would have before
pub adds_on : (v u : View) → SameWork v u → (o : ℕ) (lc : ListCall) (values news : List Value) → Adds o lc values news v → Adds o lc values news u
adds_on v u work o lc values news is = record {
  changing = is.changing;
  grows = is.grows;
  cursor = is.cursor;
  fits = is.fits;
  locks = λ p named. work.pass.locks p ∙ is.locks p named;
  answered = λ stored has. is.answered stored (before stored has);
  other = λ stored has. is.other stored (before stored has);
  caps = λ stored has. is.caps stored (before stored has);
}
  where
    before : (stored : StoredWorld) → MayHave u stored → MayHave v stored
    before = has_before v u (λ p. work_knows v u p work) work.pass.shape (λ p mine. work.pass.locks p ∙ mine)

pub adds_stored : (k : Shape) (o : ℕ) (stored : Stored) (old : Option Table) (v u w : View) (total : ℕ) (called : Call) (what : Added) → OnlyLoaded v u → KnowsList k o old u → u.shape ≡ k → ∥ IsReachable u ∥₁ → total ≡ length (known_items o v) + 1 → IsAddedStoring k (list_takes (list_use_of old) total) (nat_lt most_items total) stored called u w what → AddsStored k o stored called v w what
adds_stored k o stored old v u w total called what loaded list shape possible total_is is =
    let same : known_state o u ≡ known_state o v = work_knows v u o loaded.work in
    let table = list_use k o old u list (knows_content k o old u shape possible list) (no_keys u o possible list.locked) in
    let takes : list_takes (list_use_of old) total ≡ list_takes (known_state o v).table (length (known_items o v) + 1) =
    λ d. list_takes ((sym table ∙ ap (λ (z : ContainerState). z.table) same) d) (total_is d) in
    let over : nat_lt most_items total ≡ nat_lt most_items (length (known_items o v) + 1) = ap (λ (z : ℕ). nat_lt most_items z) total_is in
    (u, loaded, subst (λ (z : Option ℕ × Bool). IsAddedStoring k z.0 z.1 stored called u w what) (λ d. (takes d, over d)) is)

-- ---- the box, where the call was made

-- how the write leaves what the pass has to do with its own boxes, and its references
pub record GivesBox (k : Shape) (stored : Stored) (v w : View) : Type 0 where
  pub stays : StaysSettled v w
  pub shape : w.shape ≡ v.shape
  pub references : GivesReference k stored v w
  pub cursors : KeepsCursors v w

retired_stays : (root : ℕ) (v w : View) → Retires root v w → StaysSettled v w
retired_stays zero v w is = subst (StaysSettled v) (sym is) (record { settled = λ s. s; places = λ b e. e })
retired_stays (suc t) v w is =
    subst (StaysSettled v) (sym is.1) (record { settled = λ s. record { unmade = s.unmade; counted = s.counted; whole = s.whole; given = s.given }; places = λ b e. e })

retired_holds : (k : Shape) (root : ℕ) (v w : View) → Retires root v w → (b : ℕ) → references_held k b w.log ≡ references_held k b v.log
retired_holds k zero v w is b = ap (λ (z : View). references_held k b z.log) is
retired_holds k (suc t) v w is b = ap (λ (z : View). references_held k b z.log) is.1

pub made_gives : (k : Shape) (takes : Option ℕ) (over : Bool) (stored : Stored) (called : Call) (v w : View) (what : Added) → v.shape ≡ k → is_made what ≡ true → IsAddedStoring k takes over stored called v w what → GivesBox k stored v w
made_gives k None over stored called v w (added.Made stamp) shape made x =
    let y = x.2 in
    record { stays = y.wrote.made; shape = y.wrote.pass.shape; references = y.references; cursors = y.wrote.pass.cursors }
made_gives k (Some class) over stored called v w (added.Made stamp) shape made x =
    let y = x.2 in
    let root = root_in (held_words (changes called) y.taken) in
    let same = retired_same root y.done w y.retired in
    let tried = y.tried in
    let taken : y.taken.shape ≡ k = tried.same.shape ∙ shape in
    record {
      stays = settled_then v y.taken w (stays_settled_same v y.taken tried.keeps.boxes.made) (settled_then y.taken y.done w y.wrote.made (retired_stays root y.done w y.retired));
      shape = same.shape ∙ (y.wrote.pass.shape ∙ tried.same.shape);
      references = λ b.
          let first = held_same k v y.taken shape taken tried.keeps.boxes.references b in
          let put = y.references b in
          let last = retired_holds k root y.done w y.retired b in
          omega (arith, first, put, last);
      cursors = λ number. same.cursors number ∙ (y.wrote.pass.cursors number ∙ tried.same.cursors number);
    }
made_gives k takes over stored called v w (added.NoTable class stamp) shape made x = absurd (true≢false (sym made))
made_gives k takes over stored called v w (added.Over stamp) shape made x = absurd (true≢false (sym made))
made_gives k takes over stored called v w (added.NoPlace stamp) shape made x = absurd x
made_gives k takes over stored called v w (added.Moved a b) shape made x = absurd (true≢false (sym made))

-- ---- both

-- the pass, which is to add a value in a box, came to this at d, and then to w
module _ (k : Shape) (o place : ℕ) (value : Value) (b : Ref) (called : Call) (v u d w : View) (shape : v.shape ≡ k) (loaded : OnlyLoaded v u) (h : HoldsValue b value u) (settled : IsSettled u.log) (idle : (p : ℕ) → is_writing p u.log ≡ false) (takes : Option ℕ) (over : Bool) where
  first : u.shape ≡ k
  first = loaded.work.pass.shape ∙ shape

  id : ℕ
  id = box_id b

  was_held : (c : ℕ) → references_held k c u.log ≡ cond (eqb c (box_id b)) 1 0
  was_held c = ap (λ (z : Shape). references_held z c u.log) (sym first) ∙ h.one c

  loads_held : (c : ℕ) → references_held u.shape c u.log ≡ references_held v.shape c v.log
  loads_held c = loaded.boxes.references c

  -- where it wasn't made the pass holds the reference still
  pub unmade_holds : (what : Added) → (WasMade what → ⊥) → IsAddedStoring k takes over (Boxed b) called u d what → HoldsBox b d × IsSettled d.log
  unmade_holds what unmade x =
      let l = unmade_untouched (GivesReference k (Boxed b)) k takes over called reply.Done u d what unmade x in
      let held = holds_box b value u h in (
        (subst (λ (z : Shape). IsBoxIn z b) (sym l.shape) held.0, subst (λ (n : ℕ). 0 < n) (sym (l.references (box_id b))) held.1),
        (stays_settled_same u d l.made).settled settled,
      )

  module _ (what : Added) (x : IsAddedStoring k takes over (Boxed b) called u d what) (adds : AddsStored k o (Boxed b) called v d what) where
    made_held : is_made what ≡ true → w ≡ d → HasWordsFrom o (known_items o v) place value 4 (box_id b) d × ((c : ℕ) → place_use c d.log ≢ use_taken) → HasStored o place value b v d w what → AddsHeldItem k o place value b called v w what
    made_held made same named stored =
        let g = made_gives k takes over (Boxed b) called u d what first made x in
        let held : (c : ℕ) → references_held k c d.log + cond (eqb c (box_id b)) 1 0 ≡ references_held k c u.log = λ c.
        let r = g.references c in
        let names = boxed_names c 4 (box_id b) refl in
        let way = other_way (box_id b) c in
        omega (arith, r, names, way) in
        subst (λ (z : View). AddsHeldItem k o place value b called v z what) (sym same)
        (record {
          done = d;
          added = adds;
          stored = subst (λ (z : View). HasStored o place value b v d z what) same stored;
          references = λ c.
              let there : references_held d.shape c d.log ≡ references_held k c d.log = ap (λ (z : Shape). references_held z c d.log) (g.shape ∙ first) in
              let here : references_held u.shape c u.log ≡ references_held k c u.log = ap (λ (z : Shape). references_held z c u.log) first in
              let loads = loads_held c in
              let r = held c in
              omega (arith, there, here, loads, r);
          cursors = λ number. g.cursors number ∙ loaded.work.pass.cursors number;
          boxes = record {
            settled = g.stays.settled settled;
            none = λ c.
                let r = held c in
                let one = was_held c in
                omega (arith, r, one);
            stored = named.1;
          };
        })

    unmade_held : (WasMade what → ⊥) → Drops b d w → HasStored o place value b v d w what → AddsHeldItem k o place value b called v w what
    unmade_held unmade drops stored =
        let l = unmade_untouched (GivesReference k (Boxed b)) k takes over called reply.Done u d what unmade x in
        record {
          done = d;
          added = adds;
          stored = stored;
          references = λ c.
              let less = drops.less c in
              let same = l.references c in
              let loads = loads_held c in
              omega (arith, less, same, loads);
          cursors = λ number. drops.only.work.pass.cursors number ∙ (added_cursors (GivesReference k (Boxed b)) k takes over called reply.Done u d what x number ∙ loaded.work.pass.cursors number);
          boxes = done_alone k b d w (λ c. l.references c ∙ h.one c) (λ c taken. h.taken c (sym (l.made.uses c) ∙ taken)) (drops.only.work.pass.shape ∙ (l.shape ∙ first)) drops.settled (λ p. l.writes p ∙ idle p) drops.less drops.places drops.gone;
        }

  pub held_added : (what : Added) → IsAddedStoring k takes over (Boxed b) called u d what → AddsStored k o (Boxed b) called v d what → (WasMade what → HasWordsFrom o (known_items o v) place value 4 (box_id b) d × ((c : ℕ) → place_use c d.log ≢ use_taken)) → DropsUnmade b d w what → AddsHeldItem k o place value b called v w what
  held_added (added.Made stamp) x adds named drops =
      let n = named (stamp, refl) in
      made_held (added.Made stamp) x adds refl drops n (drops, subst (λ (z : View). HasWordsFrom o (known_items o v) place value 4 (box_id b) z) (sym drops) n.0)
  held_added (added.NoTable class stamp) x adds named drops = unmade_held (added.NoTable class stamp) x adds (not_made (added.NoTable class stamp) refl) drops drops.only
  held_added (added.Over stamp) x adds named drops = unmade_held (added.Over stamp) x adds (not_made (added.Over stamp) refl) drops drops.only
  held_added (added.NoPlace stamp) x adds named drops = absurd x
  held_added (added.Moved p q) x adds named drops = unmade_held (added.Moved p q) x adds (not_made (added.Moved p q) refl) drops drops.only

-- the same before loads
pub held_loaded : (k : Shape) (o place : ℕ) (value : Value) (b : Ref) (called : Call) (v u w : View) (what : Added) → OnlyLoaded v u → AddsHeldItem k o place value b called u w what → AddsHeldItem k o place value b called v w what
held_loaded k o place value b called v u w what loaded is =
    let same : known_state o u ≡ known_state o v = work_knows v u o loaded.work in
    let x = is.added in
    record {
      done = is.done;
      added = (
        x.0,
        loaded_then v u x.0 loaded x.1,
        subst (λ (z : ContainerState). IsAddedStoring k (list_takes z.table (length (list_of z.content) + 1)) (nat_lt most_items (length (list_of z.content) + 1)) (Boxed b) called x.0 is.done what) same x.2,
      );
      stored = at what is.stored;
      references = λ c.
          let less = is.references c in
          let loads = loaded.boxes.references c in
          omega (arith, less, loads);
      cursors = λ number. is.cursors number ∙ loaded.work.pass.cursors number;
      boxes = is.boxes;
    }
  where
    at : (any : Added) → HasStored o place value b u is.done w any → HasStored o place value b v is.done w any
    at (added.Made stamp) s = (s.0, subst (λ (z : ContainerState). HasWordsFrom o (list_of z.content) place value 4 (box_id b) w) (work_knows v u o loaded.work) s.1)
    at (added.NoTable class stamp) s = s
    at (added.Over stamp) s = s
    at (added.NoPlace stamp) s = s
    at (added.Moved p q) s = s
