-- A whole write in which a dict or a set gets another table.
use Rattle.std.proofs.Common.{◌≡◌, ◌≢◌, ℕ, suc, ◌<◌, false, Option, sym, ap, ◌∙◌, subst}
use Rattle.ft_model.specs.declared.call.Call.{Call}
use Rattle.ft_model.specs.declared.reply.Reply.{Reply}
use Rattle.ft_model.specs.TableUses.{StoredWorld}
use Rattle.ft_trace.specs.declared.Act.TheVariants.{StartWrite, PutRoot}
use Rattle.ft_trace.specs.declared.Shape.{Shape}
use Rattle.ft_trace.specs.declared.View.{View}
use Rattle.ft_trace.specs.Acts.{has_lock, is_writing, view_after}
use Rattle.ft_trace.specs.Addresses.{container_count}
use Rattle.ft_trace.specs.Holds.{held_words, held_unboxed, known_state}
use Rattle.ft_trace.specs.Pictures.{ContainerWords, root_in, Represents}
use Rattle.ft_trace.specs.ContainerStates.{ContainerState, changes, kinds_in}
use Rattle.ft_bank.specs.declared.table.Table.{Table}
use Rattle.ft_bank.specs.TableNames.{table_id}
use Rattle.ft_bank.specs.SameBoxes.{MovesReferences}
use Rattle.ft_bank.specs.Whole.{OnlyWritten, EndsWrite, Wrote}
use Rattle.ft_bank.specs.WriteSteps.{KeepsUnwritten, MayHave}
use Rattle.ft_bank.proofs.KnownAfterWrites.{work_knows, written_then}
use Rattle.ft_table_calls.specs.Adding.{OnlyFilled}
use Rattle.ft_table_calls.proofs.Rooting.{filled_wrote, rooted_write}
use Rattle.ft_search.specs.OneEntryWrites.{Leaves}
use Rattle.ft_search.proofs.Puts.{done_then, few_done}
use Rattle.ft_new_keys.specs.HeldKeys.{MayPutInNew}
use Rattle.ft_new_keys.specs.KeyGrowth.{BeginsIn, KnowsKeyed, MayBeginKeyed, MayGrowKeyed}

-- what a pass knows of a container stays, where it knows the same words and the same content
pub knows_on : (k : Shape) (o : ℕ) (old : Option Table) (v w : View) → held_unboxed o w ≡ held_unboxed o v → known_state o w ≡ known_state o v → has_lock o w.log ≡ has_lock o v.log → is_writing o w.log ≡ is_writing o v.log → KnowsKeyed k o old v → KnowsKeyed k o old w
knows_on k o old v w same_words same_content lock writes keyed = record {
  container = keyed.container;
  keyed = keyed.keyed;
  locked = lock ∙ keyed.locked;
  even = writes ∙ keyed.even;
  stands = subst (λ (x : ContainerWords × ContainerState). Represents k.texts x.0 x.1) (λ d. (sym same_words d, sym same_content d)) keyed.stands;
  table_in = keyed.table_in;
  root = ap root_in same_words ∙ keyed.root;
}

-- ---- after words were put into a fresh table

module _ (k : Shape) (o : ℕ) (old : Option Table) (v x : View) (shape : v.shape ≡ k) (only : OnlyFilled v x) (keyed : KnowsKeyed k o old v) where
  pub same_filled : (held_unboxed o x ≡ held_unboxed o v) × (known_state o x ≡ known_state o v)
  same_filled = let e = only.keeps o (subst (λ (z : Shape). o < container_count z) (sym shape) keyed.container) keyed.locked keyed.even in (e.2, e.1)

  pub words_filled : held_words o x ≡ held_words o v
  words_filled = (only.keeps o (subst (λ (z : Shape). o < container_count z) (sym shape) keyed.container) keyed.locked keyed.even).0

  pub knows_filled : KnowsKeyed k o old x
  knows_filled = knows_on k o old v x same_filled.0 same_filled.1 (only.work.pass.locks o) (only.work.pass.writes o) keyed

pub grow_filled : (k : Shape) (o : ℕ) (old : Option Table) (table : Table) (v x : View) → v.shape ≡ k → OnlyFilled v x → MayGrowKeyed k o old table v → MayGrowKeyed k o old table x
grow_filled k o old table v x shape only may = record {
  keyed = knows_filled k o old v x shape only may.keyed;
  even = λ p. only.work.pass.writes p ∙ may.even p;
  used = only.work.used ∙ may.used;
  owed = only.work.owes ∙ may.owed;
  fresh = only.work.hands (table_id table) ∙ may.fresh;
  table_in = may.table_in;
  boxes = done_then k v x shape only.work.pass.shape only.references only.made may.boxes;
  left = subst (λ (n : ℕ). 0 < n) (sym only.work.left) may.left;
}

pub put_filled : (k : Shape) (o : ℕ) (old : Option Table) (table : Table) (v x : View) → v.shape ≡ k → OnlyFilled v x → MayPutInNew k o old table v → MayPutInNew k o old table x
put_filled k o old table v x shape only may = record {
  keyed = knows_filled k o old v x shape only may.keyed;
  even = λ p. only.work.pass.writes p ∙ may.even p;
  used = only.work.used ∙ may.used;
  owed = only.work.owes ∙ may.owed;
  fresh = only.work.hands (table_id table) ∙ may.fresh;
  table_in = may.table_in;
  left = subst (λ (n : ℕ). 0 < n) (sym only.work.left) may.left;
}

-- who may add a key there may put the table into the root
pub grow_begins : (k : Shape) (o : ℕ) (old : Option Table) (table : Table) (v : View) → v.shape ≡ k → MayGrowKeyed k o old table v → MayBeginKeyed k o old table v
grow_begins k o old table v shape may = record {
  keyed = may.keyed;
  even = may.even;
  used = may.used;
  fresh = may.fresh;
  table_in = may.table_in;
  settled = may.boxes.settled;
  few = few_done k v shape may.boxes;
}

pub filled_has : (v x : View) → OnlyFilled v x → (found : StoredWorld) → MayHave x found → MayHave v found
filled_has v x only found has = record {
  agrees = λ p low mine. has.agrees p (subst (λ (z : Shape). p < container_count z) (sym only.work.pass.shape) low) (only.work.pass.locks p ∙ mine) ∙ work_knows v x p only.work;
  containers = has.containers ∙ ap container_count only.work.pass.shape;
  kinds = has.kinds ∙ ap (λ (z : Shape). kinds_in z.starts) only.work.pass.shape;
  order = has.order;
  unsplit = has.unsplit;
  words = has.words;
}

pub leaves_filled : (o : ℕ) (called : Call) (said : Reply) (left : ContainerState) (v x : View) → OnlyFilled v x → Leaves o called said left v → Leaves o called said left x
leaves_filled o called said left v x only leaves = record {
  write = leaves.write;
  changed = leaves.changed;
  words = leaves.words;
  locks = λ p e. only.work.pass.locks p ∙ leaves.locks p e;
  replied = λ found has. leaves.replied found (filled_has v x only found has);
  declared = λ found has. leaves.declared found (filled_has v x only found has);
  fits = λ found has. leaves.fits found (filled_has v x only found has);
  left_is = λ found has. leaves.left_is found (filled_has v x only found has);
}

-- the whole write, seen from before the table was filled
pub grown_wrote : (o : ℕ) (table : Table) (called : Call) (said : Reply) (number : ℕ) (before v y u w : View) → changes called ≡ o → OnlyFilled before v → held_words o v ≡ held_words o before → root_in (held_words o v) ≢ suc (table_id table) → is_writing o v.log ≡ false → BeginsIn o table v y → OnlyWritten o y u → root_in (held_words o u) ≡ suc (table_id table) → EndsWrite called said number u w → Wrote called said number before w
grown_wrote o table called said number before v y u w at only same new even begins puts root ends =
    let t = table_id table in
    let f = begins.found in
    let r = begins.rooted in
    let all : OnlyWritten o r u = written_then o r y u begins.only puts in
    filled_wrote called said number before v w only
    (subst (λ (n : ℕ). held_words n v ≡ held_words n before) (sym at) same)
    (subst (λ (n : ℕ). r ≡ view_after (PutRoot n (suc t) (root_in (held_words n v))) (view_after (StartWrite n f) v) → is_writing n v.log ≡ false → root_in (held_words n v) ≢ suc t → KeepsUnwritten (view_after (StartWrite n f) v) r → MovesReferences n (view_after (StartWrite n f) v) r → OnlyWritten n r u → root_in (held_words n u) ≡ suc t → EndsWrite called said number u w → Wrote called said number v w) at
    (rooted_write called said number f (suc t) v r u w)
    begins.is even new begins.keeps begins.moves all root ends)
