-- What the steps of takings and givings leave, and which tables the set bits of a word are of.
use Rattle.std.proofs.Common.{◌≡◌, ◌≢◌, ℕ, ◌+◌, ◌-◌, ◌*◌, ◌/◌, ◌%◌, ◌^◌, ◌<◌, Bool, true, cond, eqb, List, [], ◌∷◌, ◌++◌, refl, sym, ap, ◌∙◌, subst, arith, inl, inr, ⊎_elim, ◌≤◌}
use Rattle.std.specs.Prelude.{bit_and, bit_or}
use Rattle.std.specs.Int.{w64, bit_not, trailing_zeros}
use Rattle.std.proofs.lemmas.Nat.Bits.{bit_at-trailing_zeros}
use mathlib.Core.Logic.{dite}
use native.Mathlib.Decide.{ℕ_discrete}
use Rattle.std.proofs.Math.Decide.{dec_lt}
use Rattle.ft_model.specs.declared.call.Call.{Call}
use Rattle.ft_model.specs.Classes.{IsClass}
use Rattle.ft_trace.specs.declared.Act.{Act}
use Rattle.ft_trace.specs.declared.Act.TheVariants.{LowerCount, RaiseCount, ReadCount, ReadFree, TakeTable, GiveTable}
use Rattle.ft_trace.specs.declared.Entry.{Entry}
use Rattle.ft_trace.specs.declared.Shape.{Shape}
use Rattle.ft_trace.specs.declared.Snap.{Snap}
use Rattle.ft_trace.specs.declared.View.{View}
use Rattle.ft_trace.specs.Bits.{bit, bit_on, bit_off}
use Rattle.ft_trace.specs.Addresses.{container_count, class_of, number_of, free_word_of, free_bit_of, tables_in, bits, cell, box_word, extent, IsTableName}
use Rattle.ft_trace.specs.Ages.{age}
use Rattle.ft_trace.specs.Pictures.{table_words}
use Rattle.ft_trace.specs.Acts.{clear, place, has_lock, has_lock_next, is_writing_next, has_committed_next, has_emptied_next, stage, stage_next, used_next, debt_next, announces_next, left_next, entries_next, flight, owes, view_after}
use Rattle.ft_trace.specs.Holds.{in_hand}
use Rattle.ft_trace.specs.Traces.{Event, did, run, word, writes_of, history, IsAllShut, May, Ready, ReadyAs}
use Rattle.ft_trace.specs.ContainerStates.{container_after}
use Rattle.ft_trace.proofs.Addresses.{class_of_number, number_of_number, at_low}
use Rattle.ft_trace.proofs.Bits.{off_is, on_is}
use Rattle.ft_trace.proofs.Cases.{hit, miss, here}
use Rattle.ft_trace.proofs.Contents.{Of, still_of, tab}
use Rattle.ft_trace.proofs.Held.{words_known, content_known, hand_known}
use Rattle.ft_trace.proofs.Ones.{IsNone, unused}
use Rattle.ft_trace.proofs.Pieces.{table_same}
use Rattle.ft_trace.proofs.TablePlaces.{placed}
use Rattle.ft_trace.proofs.Shuts.{shuts}
use Rattle.ft_trace.proofs.OneWord.{stays}
use Rattle.ft_bank.specs.declared.table.Table.{Table}
use Rattle.ft_bank.specs.Rules.{Acted}
use Rattle.ft_bank.specs.Series.{noted_all}
use Rattle.ft_bank.specs.TableNames.{table_id, IsTableIn}
use Rattle.ft_bank.specs.declared.takings.Search.{Search}
use Rattle.ft_bank.specs.declared.takings.Search.TheVariants as search
use Rattle.ft_bank.specs.Takings.{KeepsHeld, KeepsBut, Each, NotTable, IsShutIn, IsUnclaimed, MayGive, HasFound, IsSearch, IsBitCleared, Cleared, word_of_class, loads_of_none}
use Rattle.ft_bank.specs.Locks.{KnowsSame}
use Rattle.ft_bank.proofs.Allowed.{acted_knows}
use Rattle.ft_bank.proofs.BoxedSteps.{LeavesBoxes, unboxed_stays, same_boxes, boxes_same, boxes_then}
use Rattle.ft_bank.proofs.TableAddresses.{named}

-- ---- what stays

-- an action that is on no word of a container or a table, and says nothing of locks, writes and entries
pub record IsAside (a : Act) : Type 0 where
  pub lock : (o : ℕ) (b : Bool) → has_lock_next o a b ≡ b
  pub writing : (o : ℕ) (b : Bool) → is_writing_next o a b ≡ b
  pub committed : (o : ℕ) (b : Bool) → has_committed_next o a b ≡ b
  pub emptied : (o : ℕ) (b : Bool) → has_emptied_next o a b ≡ b
  pub used : (b : Bool) → used_next a b ≡ b
  pub left : (n : ℕ) → left_next a n ≡ n
  pub entry : (es : List Entry) → entries_next a es ≡ es
  pub writes : (cs : List Call) → writes_of a cs ≡ cs
  pub apart : (k : Shape) (es : List Event) (o : ℕ) → Of k es o (place a) → ⊥
  pub inside : (t i : ℕ) → place a ≢ cell t i
  pub boxes : LeavesBoxes a
  pub box : (b i : ℕ) → place a ≢ box_word b i

module _ (F : ℕ → Type 0) (v : View) (a : Act) (aside : IsAside a) (same : (t n : ℕ) → F t → stage_next t a n ≡ n) (d : Acted v a) where
  words_keep : (o : ℕ) → o < container_count v.shape → has_lock o v.log ≡ true → KnowsSame o v (view_after a v)
  words_keep o low mine =
      let k = v.shape in
      let es = d.0 in
      let w = view_after a v in
      let now = did d.1 v a ∷ es in
      let next = acted_knows v a d in
      let still = still_of k es now d.2.0 o low (λ x in_it of. stays k es d.1 v a d.2.1.3 x in_it (λ e. aside.apart k es o (subst (Of k es o) (sym e) of))) (ap (λ (cs : List Call). container_after k.starts cs o) (aside.writes (history es))) in
      let has : has_lock o w.log ≡ true = aside.lock o (has_lock o v.log) ∙ mine in (
        words_known w o low has now d.1 next ∙ (still.picture ∙ sym (words_known v o low mine es d.1 (d.2.0, d.2.1.0))),
        content_known w o has now d.1 next ∙ (still.content ∙ sym (content_known v o mine es d.1 (d.2.0, d.2.1.0))),
        unboxed_stays v a o low d mine has still.picture,
      )

  hand_keeps : (t : ℕ) → F t → IsTableName v.shape t → stage t v.log ≡ 1 → in_hand t (view_after a v) ≡ in_hand t v
  hand_keeps t of table mine =
      let k = v.shape in
      let es = d.0 in
      let w = view_after a v in
      let now = did d.1 v a ∷ es in
      let has : stage t w.log ≡ 1 = same t (stage t v.log) of ∙ mine in
      let words : tab k now t ≡ tab k es t = table_same k t (run k now).words (run k es).words (λ i small. stays k es d.1 v a d.2.1.3 (cell t i) (table, small) (aside.inside t i)) in
      hand_known w t table has now d.1 (acted_knows v a d) ∙ (words ∙ sym (hand_known v t table mine es d.1 (d.2.0, d.2.1.0)))

  pub keeps_held : KeepsHeld F v (view_after a v)
  keeps_held = record {
    number = refl;
    next = refl;
    parts = refl;
    tokens = refl;
    left = aside.left v.left;
    shape = refl;
    entries = aside.entry v.entries;
    lists = refl;
    locks = λ o. aside.lock o _;
    writes = λ o. aside.writing o _;
    committed = λ o. aside.committed o _;
    emptied = λ o. aside.emptied o _;
    used = aside.used _;
    words = words_keep;
    stages = λ t of. same t (stage t v.log) of;
    hands = hand_keeps;
  }

  pub keeps_but : ((n : ℕ) → announces_next a n ≡ n) → ((n : ℕ) → debt_next a n ≡ n) → KeepsBut F v (view_after a v)
  keeps_but says owns = record { held = keeps_held; announces = says _; debt = owns _; boxes = same_boxes v a aside.boxes d aside.box }

pub held_same : (F : ℕ → Type 0) (v : View) → KeepsHeld F v v
held_same F v = record {
  number = refl;
  next = refl;
  parts = refl;
  tokens = refl;
  left = refl;
  shape = refl;
  entries = refl;
  lists = refl;
  locks = λ o. refl;
  writes = λ o. refl;
  committed = λ o. refl;
  emptied = λ o. refl;
  used = refl;
  words = λ o low mine. (refl, refl, refl);
  stages = λ t of. refl;
  hands = λ t of table mine. refl;
}

pub but_same : (F : ℕ → Type 0) (v : View) → KeepsBut F v v
but_same F v = record { held = held_same F v; announces = refl; debt = refl; boxes = boxes_same v }

-- one after the other
pub held_then : (F G : ℕ → Type 0) (u v w : View) → KeepsHeld F u v → KeepsHeld G v w → ((t : ℕ) → F t → G t) → KeepsHeld F u w
held_then F G u v w a b of = record {
  number = b.number ∙ a.number;
  next = b.next ∙ a.next;
  parts = b.parts ∙ a.parts;
  tokens = b.tokens ∙ a.tokens;
  left = b.left ∙ a.left;
  shape = b.shape ∙ a.shape;
  entries = b.entries ∙ a.entries;
  lists = b.lists ∙ a.lists;
  locks = λ o. b.locks o ∙ a.locks o;
  writes = λ o. b.writes o ∙ a.writes o;
  committed = λ o. b.committed o ∙ a.committed o;
  emptied = λ o. b.emptied o ∙ a.emptied o;
  used = b.used ∙ a.used;
  words = λ o low mine.
      let one = a.words o low mine in
      let two = b.words o (subst (λ (z : Shape). o < container_count z) (sym a.shape) low) (a.locks o ∙ mine) in
      (two.0 ∙ one.0, two.1 ∙ one.1, two.2 ∙ one.2);
  stages = λ t is. b.stages t (of t is) ∙ a.stages t is;
  hands = λ t is table mine.
      b.hands t (of t is) (subst (λ (z : Shape). IsTableName z t) (sym a.shape) table) (a.stages t is ∙ mine) ∙ a.hands t is table mine;
}

pub but_then : (F G : ℕ → Type 0) (u v w : View) → KeepsBut F u v → KeepsBut G v w → ((t : ℕ) → F t → G t) → KeepsBut F u w
but_then F G u v w a b of = record {
  held = held_then F G u v w a.held b.held of;
  announces = b.announces ∙ a.announces;
  debt = b.debt ∙ a.debt;
  boxes = boxes_then u v w a.held.shape a.boxes b.boxes;
}

-- ---- the steps

lower_aside : (c old f : ℕ) → IsAside (LowerCount c old f)
lower_aside c old f = record {
  lock = λ o b. refl;
  writing = λ o b. refl;
  committed = λ o b. refl;
  emptied = λ o b. refl;
  used = λ b. refl;
  left = λ n. refl;
  entry = λ es. refl;
  writes = λ cs. refl;
  apart = λ k es o z. z;
  inside = λ t' i e. absurd (cc);
  boxes = record { lock = λ o b. refl; unput = λ z. z; references = λ k b n before after. refl; state = λ b n. refl; local = λ b n. refl; taken = λ b l n. refl; places = λ b n. refl; uses = λ b n. refl; raised = λ b n. refl };
  box = λ b i e. absurd (cc);
}

pub lower_keeps : (v : View) (c old f : ℕ) → Acted v (LowerCount c old f) → KeepsBut Each v (view_after (LowerCount c old f) v)
lower_keeps v c old f d = keeps_but Each v (LowerCount c old f) (lower_aside c old f) (λ t n of. refl) d (λ n. refl) (λ n. refl)

raise_aside : (c f : ℕ) → IsAside (RaiseCount c f)
raise_aside c f = record {
  lock = λ o b. refl;
  writing = λ o b. refl;
  committed = λ o b. refl;
  emptied = λ o b. refl;
  used = λ b. refl;
  left = λ n. refl;
  entry = λ es. refl;
  writes = λ cs. refl;
  apart = λ k es o z. z;
  inside = λ t' i e. absurd (cc);
  boxes = record { lock = λ o b. refl; unput = λ z. z; references = λ k b n before after. refl; state = λ b n. refl; local = λ b n. refl; taken = λ b l n. refl; places = λ b n. refl; uses = λ b n. refl; raised = λ b n. refl };
  box = λ b i e. absurd (cc);
}

pub raise_keeps : (v : View) (c f : ℕ) → Acted v (RaiseCount c f) → KeepsBut Each v (view_after (RaiseCount c f) v)
raise_keeps v c f d = keeps_but Each v (RaiseCount c f) (raise_aside c f) (λ t n of. refl) d (λ n. refl) (λ n. refl)

count_aside : (c f : ℕ) → IsAside (ReadCount c f)
count_aside c f = record {
  lock = λ o b. refl;
  writing = λ o b. refl;
  committed = λ o b. refl;
  emptied = λ o b. refl;
  used = λ b. refl;
  left = λ n. refl;
  entry = λ es. refl;
  writes = λ cs. refl;
  apart = λ k es o z. z;
  inside = λ t' i e. absurd (cc);
  boxes = record { lock = λ o b. refl; unput = λ z. z; references = λ k b n before after. refl; state = λ b n. refl; local = λ b n. refl; taken = λ b l n. refl; places = λ b n. refl; uses = λ b n. refl; raised = λ b n. refl };
  box = λ b i e. absurd (cc);
}

pub count_keeps : (v : View) (c f : ℕ) → Acted v (ReadCount c f) → KeepsBut Each v (view_after (ReadCount c f) v)
count_keeps v c f d = keeps_but Each v (ReadCount c f) (count_aside c f) (λ t n of. refl) d (λ n. refl) (λ n. refl)

free_aside : (w f : ℕ) → IsAside (ReadFree w f)
free_aside w f = record {
  lock = λ o b. refl;
  writing = λ o b. refl;
  committed = λ o b. refl;
  emptied = λ o b. refl;
  used = λ b. refl;
  left = λ n. refl;
  entry = λ es. refl;
  writes = λ cs. refl;
  apart = λ k es o z. z;
  inside = λ t' i e. absurd (cc);
  boxes = record { lock = λ o b. refl; unput = λ z. z; references = λ k b n before after. refl; state = λ b n. refl; local = λ b n. refl; taken = λ b l n. refl; places = λ b n. refl; uses = λ b n. refl; raised = λ b n. refl };
  box = λ b i e. absurd (cc);
}

pub free_keeps : (v : View) (w f : ℕ) → Acted v (ReadFree w f) → KeepsBut Each v (view_after (ReadFree w f) v)
free_keeps v w f d = keeps_but Each v (ReadFree w f) (free_aside w f) (λ t n of. refl) d (λ n. refl) (λ n. refl)

take_aside : (t f : ℕ) (s : Snap) → IsAside (TakeTable t f s)
take_aside t f s = record {
  lock = λ o b. refl;
  writing = λ o b. refl;
  committed = λ o b. refl;
  emptied = λ o b. refl;
  used = λ b. refl;
  left = λ n. refl;
  entry = λ es. refl;
  writes = λ cs. refl;
  apart = λ k es o z. z;
  inside = λ t' i e. absurd (cc);
  boxes = record { lock = λ o b. refl; unput = λ z. z; references = λ k b n before after. refl; state = λ b n. refl; local = λ b n. refl; taken = λ b l n. refl; places = λ b n. refl; uses = λ b n. refl; raised = λ b n. refl };
  box = λ b i e. absurd (cc);
}

pub take_keeps : (v : View) (q : Table) (f : ℕ) (s : Snap) → Acted v (TakeTable (table_id q) f s) → KeepsBut (NotTable q) v (view_after (TakeTable (table_id q) f s) v)
take_keeps v q f s d = keeps_but (NotTable q) v (TakeTable (table_id q) f s) (take_aside (table_id q) f s) (λ t n of. miss (table_id q) t _ n (λ e. of (sym e))) d (λ n. refl) (λ n. refl)

-- where the bit was not set any more, no table changed hands
pub lost_keeps : (v : View) (q : Table) (f : ℕ) (s : Snap) → bit (free_bit_of (table_id q)) f ≢ 1 → Acted v (TakeTable (table_id q) f s) → KeepsBut Each v (view_after (TakeTable (table_id q) f s) v)
lost_keeps v q f s ne d =
    keeps_but Each v (TakeTable (table_id q) f s) (take_aside (table_id q) f s)
    (λ t n of.
    dite (ℕ_discrete (table_id q) t) (λ (e : table_id q ≡ t). here (table_id q) t _ n e ∙ miss (bit (free_bit_of t) f) 1 1 n (λ z. ne (ap (λ (x : ℕ). bit (free_bit_of x) f) e ∙ z)))
    (λ far. miss (table_id q) t _ n far)) d (λ n. refl) (λ n. refl)

give_aside : (t : ℕ) → IsAside (GiveTable t)
give_aside t = record {
  lock = λ o b. refl;
  writing = λ o b. refl;
  committed = λ o b. refl;
  emptied = λ o b. refl;
  used = λ b. refl;
  left = λ n. refl;
  entry = λ es. refl;
  writes = λ cs. refl;
  apart = λ k es o z. z;
  inside = λ t' i e. absurd (cc);
  boxes = record { lock = λ o b. refl; unput = λ z. z; references = λ k b n before after. refl; state = λ b n. refl; local = λ b n. refl; taken = λ b l n. refl; places = λ b n. refl; uses = λ b n. refl; raised = λ b n. refl };
  box = λ b i e. absurd (cc);
}

pub give_keeps : (v : View) (q : Table) → Acted v (GiveTable (table_id q)) → KeepsBut (NotTable q) v (view_after (GiveTable (table_id q)) v)
give_keeps v q d = keeps_but (NotTable q) v (GiveTable (table_id q)) (give_aside (table_id q)) (λ t n of. miss (table_id q) t 0 n (λ e. of (sym e))) d (λ n. refl) (λ n. refl)

-- ---- free tables

-- where the bits of a class's tables lie
pub word_is : (t : Table) → IsClass t.class → t.number < 1024 → free_word_of (table_id t) ≡ word_of_class t.class (t.number / 64)
unfolding free_word_of
word_is t class low = let c = class_of_number t.class t.number low in let n = number_of_number t.class t.number low in let l = class.least in omega (arith, c, n, l)

pub bit_is : (t : Table) → t.number < 1024 → free_bit_of (table_id t) ≡ t.number % 64
unfolding free_bit_of
bit_is t low = let n = number_of_number t.class t.number low in omega (arith, n)

-- each bit that is set in a free word of a class is that of a table of the bank, which no pass has
pub unclaimed : (v : View) (class j f n : ℕ) → IsClass class → j < 16 → n < 64 → bit n f ≡ 1 → Acted v (ReadFree (word_of_class class j) f) → IsUnclaimed v.shape (record { class = class; number = 64 * j + n }) (view_after (ReadFree (word_of_class class j) f) v)
unclaimed v class j f n is low small one d =
    let k = v.shape in
    let es = d.0 in
    let q : Table = record { class = class; number = 64 * j + n } in
    let t = table_id q in
    let less : 64 * j + n < 1024 = omega (arith, low, small) in
    let c : class_of t ≡ class = class_of_number class (64 * j + n) less in
    let m : number_of t ≡ 64 * j + n = number_of_number class (64 * j + n) less in
    let w : free_word_of t ≡ word_of_class class j = word_is q is less ∙ ap (word_of_class class) (omega (arith, small)) in
    let b : free_bit_of t ≡ n = bit_is q less ∙ omega (arith, small) in
    let found : f ≡ word k es (bits (free_word_of t)) = d.2.1.2 ∙ ap (λ (z : ℕ). word k es (bits z)) (sym w) in
    let set : bit (free_bit_of t) (word k es (bits (free_word_of t))) ≡ 1 = subst (λ (z : ℕ × ℕ). bit z.0 z.1 ≡ 1) (λ i. (sym b i, found i)) one in
    let there : 64 * j + n < tables_in k class =
    dite (dec_lt (64 * j + n) (tables_in k class)) (λ l. l)
    (λ no.
    let none : IsNone k t = record { class = subst IsClass (sym c) is; number = omega (arith, m, less); none = (let e : tables_in k (class_of t) ≡ tables_in k class = ap (tables_in k) c in omega (arith, e, m, no)) } in
    let z = unused k es d.2.0 t none in
    absurd (omega (arith, z, set))) in
    let table : IsTableName k t = (subst IsClass (sym c) is, (let e : tables_in k (class_of t) ≡ tables_in k class = ap (tables_in k) c in omega (arith, e, m, there)), omega (arith, m, less)) in
    let its = placed k es d.2.0 t table in
    let age = its.free_is set in (
      (is, there, less),
      dite (ℕ_discrete (stage t v.log) 0) (λ e. e) (λ ne. let h = (its.hands d.1 v d.2.1.0 ne).0 in absurd (ne (sym h ∙ age))),
    )

-- ---- the bit of a table, cleared

pub take_ready : (v : View) (j r : ℕ) (q : Table) → r ≡ table_id q → IsTableIn v.shape q → stage (table_id q) v.log ≡ 0 → flight v.log ≡ 2 * q.class + 1 → ReadyAs v j (λ n s. TakeTable r n s)
take_ready v j r q e is none lowered es id knows small =
    let table : IsTableName v.shape r = subst (IsTableName v.shape) (sym e) (named v.shape q is) in
    let c : class_of r ≡ q.class = ap class_of e ∙ class_of_number q.class q.number is.2 in
    (refl, (table, ap (λ (z : ℕ). stage z v.log) e ∙ none, refl, omega (arith, lowered, c)))

pub off_at : (q : Table) (r m : ℕ) → q.number < 1024 → r ≡ table_id q → bit_off (free_bit_of r) m ≡ bit_and m (bit_not w64 (1 * 2 ^ (q.number % 64) % 2 ^ 64))
off_at q r m low e = off_is (free_bit_of r) m ∙ ap (λ (b : ℕ). bit_and m (bit_not w64 (1 * 2 ^ b % 2 ^ 64))) (ap free_bit_of e ∙ bit_is q low)

pub on_at : (q : Table) (r m : ℕ) → q.number < 1024 → r ≡ table_id q → bit_on (free_bit_of r) m ≡ bit_or m (1 * 2 ^ (q.number % 64) % 2 ^ 64)
on_at q r m low e = on_is (free_bit_of r) m ∙ ap (λ (b : ℕ). bit_or m (1 * 2 ^ b % 2 ^ 64)) (ap free_bit_of e ∙ bit_is q low)

pub word_at : (q : Table) (r : ℕ) → IsClass q.class → q.number < 1024 → r ≡ table_id q → 80 + free_word_of r ≡ 80 + 16 * (q.class - 3) + q.number / 64
word_at q r class low e = let w = ap free_word_of e ∙ word_is q class low in omega (arith, w)

pub word_low : (k : Shape) (class j : ℕ) → IsClass class → j < 16 → 80 + 16 * (class - 3) + j < extent k
word_low k class j is low = let l = is.least in let h = is.greatest in let a = at_low k (bits (word_of_class class j)) (omega (arith, l, h, low)) in omega (arith, a)

-- the bit of a table in a word, as code reads it
pub bit_read : (q : Table) (f : ℕ) → q.number < 1024 → bit (free_bit_of (table_id q)) f ≡ f / 2 ^ (q.number % 64) % 2
unfolding bit
bit_read q f low = ap (λ (b : ℕ). f / 2 ^ b % 2) (bit_is q low)

-- a table that was free has no odd version
taken_shut : (v : View) (t f : ℕ) (s : Snap) → Acted v (TakeTable t f s) → bit (free_bit_of t) f ≡ 1 → IsShutIn t (view_after (TakeTable t f s) v)
taken_shut v t f s d one =
    let may = d.2.1.3 in
    let free : age d.0 t % 5 ≡ 0 = (placed v.shape d.0 d.2.0 t may.0).free_is (ap (bit (free_bit_of t)) (sym d.2.1.2) ∙ one) in
    subst (λ (z : Snap). IsAllShut (class_of t) (table_words v.shape t z.words)) (sym may.2)
    (shuts v.shape d.0 d.2.0 t may.0 (λ e. absurd (omega (arith, free, e))) (λ e. absurd (omega (arith, free, e))))

module _ (v w : View) (q : Table) (f : ℕ) (s : Snap) (is : w ≡ view_after (TakeTable (table_id q) f s) v) (d : Acted v (TakeTable (table_id q) f s)) where
  pub found_has : (k : Shape) → IsTableIn k q → stage (table_id q) v.log ≡ 0 → bit (free_bit_of (table_id q)) f ≡ 1 → HasFound k q.class (search.Found q) v w
  found_has k table none one =
      let t = table_id q in
      let n = stage t v.log in (
        table,
        refl,
        none,
        ap (λ (u : View). stage t u.log) is ∙ (hit t (cond (eqb (bit (free_bit_of t) f) 1) 1 n) n ∙ here (bit (free_bit_of t) f) 1 1 n one),
        ap (λ (u : View). flight u.log) is ∙ here (bit (free_bit_of t) f) 1 0 (flight v.log) one,
        ap (λ (u : View). owes u.log) is,
        subst (IsShutIn t) (sym is) (taken_shut v t f s d one),
      )

  pub found_keeps : KeepsBut (NotTable q) v w
  found_keeps = subst (KeepsBut (NotTable q) v) (sym is) (take_keeps v q f s d)

  pub lost_has : (k : Shape) (a b : ℕ) → bit (free_bit_of (table_id q)) f ≢ 1 → HasFound k q.class (search.Lost a b) v w
  lost_has k a b ne = (ap (λ (u : View). flight u.log) is ∙ miss (bit (free_bit_of (table_id q)) f) 1 0 (flight v.log) ne, ap (λ (u : View). owes u.log) is)

  pub lost_stays : bit (free_bit_of (table_id q)) f ≢ 1 → KeepsBut Each v w
  lost_stays ne = subst (KeepsBut Each v) (sym is) (lost_keeps v q f s ne d)

-- ---- the bit of a table, set

pub give_ready : (v : View) (j r : ℕ) (q : Table) → r ≡ table_id q → IsTableIn v.shape q → MayGive (table_id q) v → flight v.log ≡ 0 → Ready v j (λ n. GiveTable r)
give_ready v j r q e is may idle es id knows small =
    let t = table_id q in
    let table = named v.shape q is in
    let given = ⊎_elim (λ (x : (stage t v.log ≡ 1) × IsShutIn t v). inl (x.0, subst (IsAllShut (class_of t)) (hand_known v t table x.0 es id knows) x.1)) (λ (x : (stage t v.log ≡ 4) × ((p : ℕ) → 0 < p → p ≤ v.shape.passes → clear t p v.log ≡ true)). inr x) may in
    subst (λ (z : ℕ). Unit {0} × May v.shape (run v.shape es) (history es) v (GiveTable z)) (sym e) (tt, (table, given, idle))

-- ---- a search

-- what a try at the bit of a table ends a search with
pub search_ends : (class j loaded f : ℕ) (q : Table) (s : Snap) (r : Search) → j < 16 → free_word_of (table_id q) ≡ word_of_class class j → IsBitCleared q loaded f r → IsSearch class r (TakeTable (table_id q) f s ∷ ReadFree (word_of_class class j) loaded ∷ loads_of_none class j)
search_ends class j loaded f q s (search.Found t) low of is = (
  loaded,
  f,
  subst (λ (z : Table). bit (free_bit_of (table_id z)) f ≡ 1) (sym is.0) is.1,
  subst (λ (z : Table). Cleared class z loaded f (TakeTable (table_id q) f s ∷ ReadFree (word_of_class class j) loaded ∷ loads_of_none class j)) (sym is.0) (record { word = j; low = low; of = of; snap = s; is = refl }),
)
search_ends class j loaded f q s (search.Lost a b) low of is = (
  (λ e. is.2 (sym is.0 ∙ (e ∙ is.1))),
  q,
  subst (λ (z : ℕ × ℕ). Cleared class q z.0 z.1 (TakeTable (table_id q) f s ∷ ReadFree (word_of_class class j) loaded ∷ loads_of_none class j)) (λ i. (sym is.0 i, sym is.1 i)) (record { word = j; low = low; of = of; snap = s; is = refl }),
)
search_ends class j loaded f q s search.Nothing low of is = absurd is

-- the lowest bit of a word that isn't 0 is set
pub lowest_set : (n : ℕ) → n ≢ 0 → n < 2 ^ 64 → (trailing_zeros w64 n < 64) × (bit (trailing_zeros w64 n) n ≡ 1)
unfolding bit
lowest_set n ne small = let r = bit_at-trailing_zeros w64 n (omega (arith, ne)) small in (r.0, r.1)

-- ---- a taking

pub noted_then : (xs ys : List Act) (v : View) → noted_all (xs ++ ys) v ≡ noted_all xs (noted_all ys v)
noted_then [] ys v = refl
noted_then (a ∷ xs) ys v = ap (view_after a) (noted_then xs ys v)

-- the actions of a search after those before it
pub all_then : (xs ys : List Act) (u v w : View) → w ≡ noted_all xs v → v ≡ noted_all ys u → w ≡ noted_all (xs ++ ys) u
all_then xs ys u v w e f = e ∙ (ap (noted_all xs) f ∙ sym (noted_then xs ys u))
