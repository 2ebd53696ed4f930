-- A dict or a set for which a table was taken, and a call that adds a key to it, after the taking.
use Rattle.std.proofs.Common.{◌≡◌, ℕ, suc, ◌+◌, ◌<◌, Option, sym, ap, ◌∙◌, subst}
use Rattle.std.specs.Prelude.{nat_lt}
use Rattle.ft_model.specs.declared.call.Call.{Call}
use Rattle.ft_model.specs.declared.data.Key.{Key}
use Rattle.ft_model.specs.declared.reply.Reply.{Reply}
use Rattle.ft_model.specs.TableUses.{StoredWorld, grown_table}
use Rattle.ft_model.specs.Worlds.{length_of}
use Rattle.ft_layout.specs.declared.slot.Stored.{Stored}
use Rattle.ft_trace.specs.declared.Shape.{Shape}
use Rattle.ft_trace.specs.declared.View.{View}
use Rattle.ft_trace.specs.Acts.{has_lock, owes, stage}
use Rattle.ft_trace.specs.Addresses.{container_count}
use Rattle.ft_trace.specs.Holds.{held_unboxed, known_state}
use Rattle.ft_trace.specs.ContainerStates.{ContainerState, kinds_in}
use Rattle.ft_bank.specs.declared.table.Table.{Table}
use Rattle.ft_bank.specs.TableNames.{table_id, IsTableIn}
use Rattle.ft_bank.specs.Takings.{KeepsBut}
use Rattle.ft_bank.specs.Whole.{OnlyLoaded, SamePass}
use Rattle.ft_bank.specs.WriteSteps.{MayHave}
use Rattle.ft_bank.proofs.TableAddresses.{class_is}
use Rattle.ft_bank.proofs.KnownAfterWrites.{work_knows}
use Rattle.ft_search.proofs.Puts.{done_then}
use Rattle.ft_new_keys.specs.KeyGrowth.{AddsKey, KnowsKeyed, MayAddKey, MayGrowKeyed, key_takes, most_of}
use Rattle.ft_new_keys.specs.Placing.{with_key}
use Rattle.ft_new_keys.proofs.Grown.{knows_on}

-- a call that adds a key adds it later too, where the pass knows the same
pub adds_later : (o : ℕ) (called : Call) (said : Reply) (key : Key) (stored : Stored) (v u : View) → ((found : StoredWorld) → MayHave u found → MayHave v found) → ((p : ℕ) → has_lock p u.log ≡ has_lock p v.log) → known_state o u ≡ known_state o v → AddsKey o called said key stored v → AddsKey o called said key stored u
adds_later o called said key stored v u has locks same adds = record {
  write = adds.write;
  changed = adds.changed;
  words = adds.words;
  locks = λ p e. locks p ∙ adds.locks p e;
  replied = λ found h. adds.replied found (has found h);
  declared = λ found h. adds.declared found (has found h);
  lacks = λ found h. adds.lacks found (has found h);
  over = λ found h. adds.over found (has found h) ∙ ap (λ (z : ContainerState). nat_lt (most_of z.content) (length_of z.content + 1)) (sym same);
  takes = λ found h. adds.takes found (has found h) ∙ ap (λ (z : ContainerState). key_takes z.content z.table) (sym same);
  left_is = λ found h. adds.left_is found (has found h) ∙ (λ i. record { content = with_key (sym same i).content key stored; table = grown_table (sym same i).table (key_takes (sym same i).content (sym same i).table) 1 (length_of (sym same i).content + 1) });
}

-- ---- after a taking

module _ (F : ℕ → Type 0) (v u : View) (same : SamePass v u) (keeps : KeepsBut F v u) where
  -- what the bank may have then, it may have had before
  pub tried_has : (found : StoredWorld) → MayHave u found → MayHave v found
  tried_has found has = record {
    agrees = λ p low mine. has.agrees p (subst (λ (z : Shape). p < container_count z) (sym same.shape) low) (same.locks p ∙ mine) ∙ (keeps.held.words p low mine).1;
    containers = has.containers ∙ ap container_count same.shape;
    kinds = has.kinds ∙ ap (λ (z : Shape). kinds_in z.starts) same.shape;
    order = has.order;
    unsplit = has.unsplit;
    words = has.words;
  }

  module _ (k : Shape) (o : ℕ) (old : Option Table) (shape : v.shape ≡ k) (keyed : KnowsKeyed k o old v) where
    pub tried_words : (held_unboxed o u ≡ held_unboxed o v) × (known_state o u ≡ known_state o v)
    tried_words = let e = keeps.held.words o (subst (λ (z : Shape). o < container_count z) (sym shape) keyed.container) keyed.locked in (e.2, e.1)

    pub tried_knows : KnowsKeyed k o old u
    tried_knows = knows_on k o old v u tried_words.0 tried_words.1 (same.locks o) (same.writes o) keyed

  -- it may put the table into the root
  pub tried_may : (k : Shape) (o : ℕ) (old : Option Table) (table : Table) (class : ℕ) → v.shape ≡ k → MayAddKey k o old v → IsTableIn k table → table.class ≡ class → stage (table_id table) u.log ≡ 1 → owes u.log ≡ suc class → MayGrowKeyed k o old table u
  tried_may k o old table class shape may table_in of_class fresh owed = record {
    keyed = tried_knows k o old shape may.keyed;
    even = λ p. same.writes p ∙ may.even p;
    used = keeps.held.used ∙ may.used;
    owed = owed ∙ ap suc (sym (class_is table table_in.2 ∙ of_class));
    fresh = fresh;
    table_in = table_in;
    boxes = done_then k v u shape same.shape keeps.boxes.references keeps.boxes.made may.boxes;
    left = subst (λ (n : ℕ). 0 < n) (sym keeps.held.left) may.left;
  }

-- ---- after loads

module _ (k : Shape) (o : ℕ) (old : Option Table) (v u : View) (only : OnlyLoaded v u) (same : held_unboxed o u ≡ held_unboxed o v) where
  pub may_loaded : v.shape ≡ k → MayAddKey k o old v → MayAddKey k o old u
  may_loaded shape may = record {
    keyed = knows_on k o old v u same (work_knows v u o only.work) (only.work.pass.locks o) (only.work.pass.writes o) may.keyed;
    even = λ p. only.work.pass.writes p ∙ may.even p;
    used = only.work.used ∙ may.used;
    owes = only.work.owes ∙ may.owes;
    idle = only.work.pass.flight ∙ may.idle;
    boxes = done_then k v u shape only.work.pass.shape only.boxes.references only.boxes.made may.boxes;
    left = subst (λ (n : ℕ). 0 < n) (sym only.work.left) may.left;
  }

  pub has_loaded : (found : StoredWorld) → MayHave u found → MayHave v found
  has_loaded found has = record {
    agrees = λ p low mine. has.agrees p (subst (λ (z : Shape). p < container_count z) (sym only.work.pass.shape) low) (only.work.pass.locks p ∙ mine) ∙ work_knows v u p only.work;
    containers = has.containers ∙ ap container_count only.work.pass.shape;
    kinds = has.kinds ∙ ap (λ (z : Shape). kinds_in z.starts) only.work.pass.shape;
    order = has.order;
    unsplit = has.unsplit;
    words = has.words;
  }
