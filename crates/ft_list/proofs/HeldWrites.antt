-- What a pass that holds the one reference for a box keeps, and that it is done with boxes once the reference is dropped, or
-- is a list's.
use Rattle.std.proofs.Common.{◌≡◌, ◌≢◌, ℕ, ◌+◌, ◌<◌, eqb, cond, true, false, List, length, Option, Some, refl, sym, ap, ◌∙◌, subst, inl, inr, arith}
use Rattle.ft_model.specs.declared.call.Call.{Call}
use Rattle.ft_model.specs.declared.call.ListCall.{ListCall}
use Rattle.ft_model.specs.declared.data.Value.{Value}
use Rattle.ft_model.specs.declared.reply.Reply.{Reply}
use Rattle.ft_model.specs.Boxings.{boxes, is_boxed}
use Rattle.ft_model.specs.TableUses.{StoredWorld}
use Rattle.ft_model.specs.Worlds.{list_of}
use Rattle.ft_layout.specs.declared.slot.Ref.{Ref}
use Rattle.ft_layout.specs.declared.slot.Stored.TheVariants.{Boxed, Plain}
use Rattle.ft_layout.specs.Words.{IsStored}
use Rattle.ft_trace.specs.declared.Shape.{Shape}
use Rattle.ft_trace.specs.declared.View.{View}
use Rattle.ft_model.specs.Answers.{is_write}
use Rattle.ft_trace.specs.Acts.{debt, has_lock, is_writing, stage}
use Rattle.ft_trace.specs.Addresses.{container_count, class_of, slots}
use Rattle.ft_trace.specs.Boxes.{names_box, place_use, references_held, use_taken, IsDoneWithBoxes, IsSettled}
use Rattle.ft_trace.specs.ContainerStates.{ContainerState, changes}
use Rattle.ft_trace.specs.Holds.{held_words, held_unboxed, known_state}
use Rattle.ft_trace.specs.Pictures.{ContainerWords, Represents, item_field, root_in}
use Rattle.ft_trace.specs.Traces.{IsReachable}
use Rattle.ft_trace.proofs.Cases.{here, hit}
use Rattle.std.specs.Option.{unwrap_or}
use Rattle.ft_bank.specs.declared.table.Table.{Table}
use Rattle.ft_bank.specs.TableNames.{table_id, IsTableIn}
use Rattle.ft_bank.specs.BoxSteps.{box_id, HasReferenceFor, IsBoxIn}
use Rattle.ft_bank.specs.Answered.{Answered}
use Rattle.ft_bank.specs.SameBoxes.{SameMade, SameReferences, StaysSettled, TakesNoPlace}
use Rattle.ft_bank.specs.Whole.{OnlyBoxed, OnlyLoaded, SameWork, Wrote, debt_after, hand_after}
use Rattle.ft_bank.specs.WriteSteps.{MayHave}
use Rattle.ft_bank.proofs.DoneBoxes.{settled_then, stays_settled_same}
use Rattle.ft_bank.proofs.KnownAfterWrites.{work_knows}
use Rattle.ft_boxes.specs.References.{HoldsBox, HoldsOneLess, LeavesNoTaken}
use Rattle.ft_search.specs.MadeCalls.{IsReplyTo}
use Rattle.ft_search.specs.OneEntryWrites.{HasTable}
use Rattle.ft_search.proofs.Overs.{boxed_names, held_same, other_way}
use Rattle.ft_search.proofs.Owning.{held_is_box}
use Rattle.ft_search.proofs.Puts.{few_same}
use Rattle.ft_search.proofs.Unboxing.{reads_boxed}
use Rattle.ft_section.specs.declared.answers.Stamp.{Stamp}
use Rattle.ft_search.specs.HeldValues.{HoldsValue}
use Rattle.ft_list.specs.HeldValues.{MadeHeld}
use Rattle.ft_search.specs.HeldValues.{StoresBox}
use Rattle.ft_list.specs.Internal.NewListTables.{KnowsList}
use Rattle.ft_list.specs.ListItemWrites.{ReadsAs, known_items, stored_item}
use Rattle.ft_list.specs.ListWrites.{Changes, MayBeginList, MayWriteList}
use Rattle.ft_list.proofs.GrownLists.{knows_content, list_stores}
use Rattle.ft_list.proofs.WholeListWrites.{has_before, write_on}

-- ---- steps that leave what the pass knows

module _ (k : Shape) (o : ℕ) (v u : View) (shape : v.shape ≡ k) (work : SameWork v u) (reads : held_unboxed o u ≡ held_unboxed o v) where
  -- the words stand for what the pass knows still
  stands_on : Represents k.texts (held_unboxed o v) (known_state o v) → Represents k.texts (held_unboxed o u) (known_state o u)
  stands_on was = subst (λ (z : ContainerWords × ContainerState). Represents k.texts z.0 z.1) (λ d. (sym reads d, sym (work_knows v u o work) d)) was

  pub begins_on : OnlyLoaded v u → MayBeginList k o v → MayBeginList k o u
  begins_on l may = record {
    container = may.container;
    kind = may.kind;
    locked = work.pass.locks o ∙ may.locked;
    even = λ p. work.pass.writes p ∙ may.even p;
    stands = stands_on may.stands;
    owes = work.owes ∙ may.owes;
    settled = (stays_settled_same v u l.boxes.made).settled may.settled;
    few = few_same v u l.boxes.references may.few;
    left = subst (λ (n : ℕ). 0 < n) (sym work.left) may.left;
  }

  -- a pass that is done with boxes then
  pub may_on : IsDoneWithBoxes k u.log → MayBeginList k o v → MayWriteList k o u
  may_on done may = record {
    container = may.container;
    kind = may.kind;
    locked = work.pass.locks o ∙ may.locked;
    even = λ p. work.pass.writes p ∙ may.even p;
    stands = stands_on may.stands;
    owes = work.owes ∙ may.owes;
    boxes = done;
    left = subst (λ (n : ℕ). 0 < n) (sym work.left) may.left;
  }

pub loaded_reads : (k : Shape) (o : ℕ) (v u : View) → v.shape ≡ k → OnlyLoaded v u → MayBeginList k o v → held_unboxed o u ≡ held_unboxed o v
loaded_reads k o v u shape l may = l.unboxed o (subst (λ (z : Shape). o < container_count z) (sym shape) may.container) may.locked

pub boxed_reads : (k : Shape) (o : ℕ) (v u : View) → v.shape ≡ k → OnlyBoxed v u → MayBeginList k o v → held_unboxed o u ≡ held_unboxed o v
boxed_reads k o v u shape l may = l.unboxed o (subst (λ (z : Shape). o < container_count z) (sym shape) may.container) may.locked

-- what the bank may have then it may have had before
pub has_on : (v u : View) → SameWork v u → (stored : StoredWorld) → MayHave v stored → MayHave u stored
has_on v u work = has_before u v (λ p. sym (work_knows v u p work)) (sym work.pass.shape) (λ p mine. sym (work.pass.locks p) ∙ mine)

pub replied_on : (called : Call) (said : Reply) (v u : View) → SameWork v u → IsReplyTo called said u → IsReplyTo called said v
replied_on called said v u work replied stored has = replied stored (has_on v u work stored has)

-- ---- what an item stores

pub item_stands : (k : Shape) (o : ℕ) (table : Table) (v : View) → v.shape ≡ k → ∥ IsReachable v ∥₁ → MayBeginList k o v → HasTable k o table v → (place : ℕ) → place < length (known_items o v) → (place < slots (class_of (table_id table))) × IsStored (item_field (held_unboxed o v).table place 1) (item_field (held_unboxed o v).table place 2) (stored_item (known_items o v) place)
item_stands k o table v shape possible may has place low =
    let knows : KnowsList k o (Some table) v = record {
      container = may.container;
      kind = may.kind;
      locked = may.locked;
      even = may.even o;
      stands = may.stands;
      table_in = λ t e. subst (λ (z : Table). IsTableIn k z) (ap (λ (z : Option Table). unwrap_or z table) e) has.table_in;
      root = has.root;
    } in
    list_stores k o table v knows (knows_content k o (Some table) v shape possible knows) place low

-- ---- the box

module _ (b : Ref) (value : Value) (v : View) (h : HoldsValue b value v) where
  one_held : references_held v.shape (box_id b) v.log ≡ 1
  one_held = h.one (box_id b) ∙ here (box_id b) (box_id b) 1 0 refl

  some_held : 0 < references_held v.shape (box_id b) v.log
  some_held = let one = one_held in omega (arith, one)

  pub holds_box : HoldsBox b v
  holds_box = (h.name, some_held)

  -- it may be put into a word
  pub box_own : HasReferenceFor v 4 (box_id b)
  box_own four = (some_held, h.knows.kind, h.knows.payload)

  pub box_reads : ReadsAs v (Boxed b) (Plain value)
  box_reads =
      let reads = reads_boxed v 4 (box_id b) refl in
      let words = h.knows.words in
      record { fits = words.fits; kind_is = reads.0 ∙ words.kind_is; payload_is = reads.1 ∙ words.payload_is }

  pub box_stores : (o : ℕ) (called : Call) → is_boxed value ≡ true → ((stored : StoredWorld) → boxes stored.world called ≡ is_boxed value) → StoresBox (Boxed b) called v
  box_stores o called boxed same = record {
    named = λ c taken. boxed_names c 4 (box_id b) refl ∙ here (box_id b) c 1 0 (sym (h.taken c taken));
    boxing = λ c taken stored has. same stored ∙ boxed;
  }

-- after loads
pub holds_loaded : (b : Ref) (value : Value) (v u : View) → ∥ IsReachable v ∥₁ → OnlyLoaded v u → HoldsValue b value v → HoldsValue b value u
holds_loaded b value v u possible l h =
    let id = box_id b in
    let name = held_is_box v id possible (some_held b value v h) in
    let one = l.boxes.knows id 1 name (inl refl) h.knows.kind in
    let two = l.boxes.knows id 2 name (inr refl) h.knows.payload in
    record {
      name = subst (λ (z : Shape). IsBoxIn z b) (sym l.work.pass.shape) h.name;
      one = λ c. l.boxes.references c ∙ h.one c;
      knows = record {
        kind = one.0;
        payload = two.0;
        words = subst (λ (z : ℕ × ℕ). IsStored z.0 z.1 (Plain value)) (λ d. (sym one.1 d, sym two.1 d)) h.knows.words;
      };
      taken = λ c e. h.taken c (sym (l.boxes.made.uses c) ∙ e);
    }

-- ---- the reference is the list's, or is dropped

-- a pass drops the one reference that it held
pub done_alone : (k : Shape) (b : Ref) (u w : View) → ((c : ℕ) → references_held u.shape c u.log ≡ cond (eqb c (box_id b)) 1 0) → ((c : ℕ) → place_use c u.log ≡ use_taken → c ≡ box_id b) → w.shape ≡ k → IsSettled w.log → ((o : ℕ) → is_writing o u.log ≡ false) → HoldsOneLess b u w → TakesNoPlace u w → LeavesNoTaken b u w → IsDoneWithBoxes k w.log
done_alone k b u w one_ taken_ then_ settled idle less places gone =
    let none : (c : ℕ) → references_held w.shape c w.log ≡ 0 = λ c.
    let l = less c in
    let one = one_ c in
    omega (arith, l, one) in
    record {
      settled = settled;
      none = λ c. ap (λ (z : Shape). references_held z c w.log) (sym then_) ∙ none c;
      stored = λ c taken. gone idle (none (box_id b)) (subst (λ (n : ℕ). place_use n w.log ≡ use_taken) (taken_ c (places c taken)) taken);
    }

module _ (k : Shape) (b : Ref) (value : Value) (u w : View) (shape : u.shape ≡ k) (h : HoldsValue b value u) where
  held_so : (c : ℕ) → references_held k c u.log ≡ cond (eqb c (box_id b)) 1 0
  held_so c = ap (λ (z : Shape). references_held z c u.log) (sym shape) ∙ h.one c

  pub done_stored : IsSettled u.log → StaysSettled u w → ((c : ℕ) → references_held k c w.log + names_box c 4 (box_id b) ≡ references_held k c u.log) → ((c : ℕ) → place_use c w.log ≢ use_taken) → IsDoneWithBoxes k w.log
  done_stored settled stays moved untaken = record {
    settled = stays.settled settled;
    none = λ c.
        let m = moved c in
        let names = boxed_names c 4 (box_id b) refl in
        let way = other_way (box_id b) c in
        let held = held_so c in
        omega (arith, m, names, way, held);
    stored = untaken;
  }

  pub done_dropped : w.shape ≡ k → IsSettled w.log → ((o : ℕ) → is_writing o u.log ≡ false) → HoldsOneLess b u w → TakesNoPlace u w → LeavesNoTaken b u w → IsDoneWithBoxes k w.log
  done_dropped = done_alone k b u w h.one h.taken

-- the call changes the list as it would have before
pub changes_on : (v u : View) → SameWork v u → (o : ℕ) (lc : ListCall) (said : Reply) (values news : List Value) → Changes o lc said values news v → Changes o lc said values news u
changes_on v u work o lc said values news is =
    let known : (p : ℕ) → known_state p u ≡ known_state p v = λ p. work_knows v u p work in
    let locks : (p : ℕ) → has_lock p v.log ≡ true → has_lock p u.log ≡ true = λ p mine. work.pass.locks p ∙ mine in
    record {
      write = write_on v u known work.pass.shape locks o lc said values news is.write;
      table = λ stored has. is.table stored (has_before v u known work.pass.shape locks stored has);
    }

pub items_on : (o : ℕ) (v u : View) → SameWork v u → known_items o u ≡ known_items o v
items_on o v u work = ap (λ (z : ContainerState). list_of z.content) (work_knows v u o work)

-- a pass that is done with boxes and makes a write that moves no reference
pub done_wrote : (k : Shape) (u w : View) → u.shape ≡ k → w.shape ≡ k → IsDoneWithBoxes k u.log → StaysSettled u w → SameReferences u w → IsDoneWithBoxes k w.log
done_wrote k u w first then_ done stays same = record {
  settled = stays.settled done.settled;
  none = λ c. held_same k u w first then_ same c ∙ done.none c;
  stored = λ c taken. done.stored c (stays.places c taken);
}

-- or an entry that isn't a write
pub done_answered : (k : Shape) (called : Call) (said : Reply) (n : ℕ) (u w : View) → u.shape ≡ k → w.shape ≡ k → IsDoneWithBoxes k u.log → Answered called said n u w → IsDoneWithBoxes k w.log
done_answered k called said n u w first then_ done x =
    let made = stays_settled_same u x.before x.loaded.boxes.made in
    let late = stays_settled_same x.before w (subst (SameMade x.before) (sym x.answered) (record { state = λ b. refl; local = λ b. refl; taken = λ b. refl; places = λ b. refl; uses = λ b. refl; raised = λ b. refl })) in
    done_wrote k u w first then_ done (settled_then u x.before w made late)
    (λ b. ap (λ (z : View). references_held z.shape b z.log) x.answered ∙ x.loaded.boxes.references b)

-- ---- how the call was made

-- as a write that leaves the root
pub held_wrote : (k : Shape) (o : ℕ) (called : Call) (said : Reply) (n : ℕ) (v u w : View) → OnlyBoxed v u → Wrote called said n u w → o ≡ changes called → root_in (held_words o w) ≡ root_in (held_words o u) → is_write called said ≡ true → IsReplyTo called said v → IsDoneWithBoxes k w.log → MadeHeld k called said (record { number = n; wrote = true }) v w
held_wrote k o called said n v u w boxed x at root write replied done =
    let p = changes called in
    let old = root_in (held_words p u) in
    let stays : root_in (held_words p w) ≡ old = subst (λ (q : ℕ). root_in (held_words q w) ≡ root_in (held_words q u)) at root in
    record {
      before = u;
      boxed = boxed;
      made = inl (refl, x);
      replied = replied;
      wrote = sym write;
      hands = λ t. x.hands t ∙ ((ap (λ (z : ℕ). hand_after p old z t (stage t u.log)) stays ∙ hit old (stage t u.log) _) ∙ boxed.work.hands t);
      debt = x.debt ∙ ((ap (λ (z : ℕ). debt_after p old z (debt u.log)) stays ∙ hit old (debt u.log) _) ∙ boxed.work.debt);
      boxes = done;
    }

-- as an entry that isn't a write
pub held_answered : (k : Shape) (called : Call) (said : Reply) (stamp : Stamp) (v u w : View) → OnlyBoxed v u → Answered called said stamp.number u w → is_write called said ≡ false → stamp.wrote ≡ false → IsReplyTo called said v → IsDoneWithBoxes k w.log → MadeHeld k called said stamp v w
held_answered k called said stamp v u w boxed x read wrote replied done = record {
  before = u;
  boxed = boxed;
  made = inr (wrote, x);
  replied = replied;
  wrote = wrote ∙ sym read;
  hands = λ t. ap (λ (z : View). stage t z.log) x.answered ∙ (x.loaded.work.hands t ∙ boxed.work.hands t);
  debt = ap (λ (z : View). debt z.log) x.answered ∙ (x.loaded.work.debt ∙ boxed.work.debt);
  boxes = done;
}
