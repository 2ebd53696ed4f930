-- What a pass with the locks of dicts or sets has read of them, and what the plain containers reply by that.
use Rattle.std.proofs.Common.{◌≡◌, ℕ, zero, suc, ◌<◌, List, [], ◌∷◌, refl, sym, ap, ◌∙◌, subst}
use Rattle.std.specs.Prelude.{slice_index_or}
use Rattle.ft_model.specs.declared.call.Call.{Call}
use Rattle.ft_model.specs.declared.content.Content.{Content}
use Rattle.ft_model.specs.declared.content.Content.TheVariants as content
use Rattle.ft_model.specs.declared.reply.Reply.{Reply}
use Rattle.ft_model.specs.declared.script.Kind.TheVariants as kind
use Rattle.ft_model.specs.TableUses.{StoredWorld}
use Rattle.ft_model.specs.Worlds.{dict_at, dict_of, kind_of, set_at, set_of}
use Rattle.ft_trace.specs.declared.Shape.{Shape}
use Rattle.ft_trace.specs.declared.View.{View}
use Rattle.ft_trace.specs.Addresses.{container_count}
use Rattle.ft_trace.specs.Boxes.{known_box_word}
use Rattle.ft_trace.specs.Holds.{held_words, held_unboxed}
use Rattle.ft_trace.specs.Traces.{IsReachable}
use Rattle.ft_trace.specs.Pictures.{ContainerWords, Represents}
use Rattle.ft_trace.specs.Unboxed.{unboxed}
use Rattle.ft_trace.specs.ContainerStates.{ContainerState, state_at, kind_in, kinds_in}
use Rattle.ft_bank.specs.declared.pass.Pass.{Pass}
use Rattle.ft_bank.specs.Passes.{view}
use Rattle.ft_bank.specs.Whole.{OnlyLoaded}
use Rattle.ft_bank.specs.WriteSteps.{MayHave}
use Rattle.ft_bank.proofs.KnownAfterWrites.{work_knows}
use Rattle.ft_search.specs.MadeCalls.{IsShownBy}
use Rattle.ft_search.specs.OneEntryWrites.{MayWriteEntries}
use Rattle.ft_search.proofs.Changing.{kind_is}
use Rattle.ft_search.proofs.Spotting.{may_loaded}
use Rattle.ft_reads.specs.Reads.{Reads}
use Rattle.ft_reads.specs.Pairs.{ReadsBoth}
use Rattle.ft_reads.proofs.Agreeing.{reads_loaded}

-- ---- what was read

module _ (k : Shape) (o : ℕ) (shows : ContainerWords → Type 0) (p q : Pass) (shape : (view p).shape ≡ k) (r : Reads k o shows p q) (may : MayWriteEntries k o (view p)) where
  pub read_shows : shows (held_unboxed o (view p))
  read_shows =
      subst (λ (z : Shape). shows (unboxed (λ b i. known_box_word (view p).shape b i (view p).log) (kind_in z.starts o) (held_words o (view p)))) (sym shape)
      (r.3 (held_words o (view p)) (λ b i. known_box_word (view p).shape b i (view p).log) (r.4 shape o may.container may.locked))

  loaded : OnlyLoaded (view p) (view q)
  loaded = reads_loaded k o shows p q r

  pub read_may : MayWriteEntries k o (view q)
  read_may = may_loaded k o (view p) (view q) shape loaded may

  -- and so it is once the words were loaded
  pub read_later : shows (held_unboxed o (view q))
  read_later = subst shows (sym (loaded.unboxed o (subst (λ (z : Shape). o < container_count z) (sym shape) may.container) may.locked)) read_shows

module _ (k : Shape) (o m : ℕ) (shows : ContainerWords → ContainerWords → Type 0) (p q : Pass) (shape : (view p).shape ≡ k) (r : ReadsBoth k o m shows p q) (may : MayWriteEntries k o (view p)) (other : MayWriteEntries k m (view p)) where
  pub both_show : shows (held_unboxed o (view p)) (held_unboxed m (view p))
  both_show =
      let box : ℕ → ℕ → ℕ = λ b i. known_box_word (view p).shape b i (view p).log in
      subst (λ (z : Shape). shows (unboxed box (kind_in z.starts o) (held_words o (view p))) (unboxed box (kind_in z.starts m) (held_words m (view p)))) (sym shape)
      (r.3 (held_words o (view p)) (held_words m (view p)) box box (r.4 shape o may.container may.locked) (r.4 shape m other.container other.locked))

-- ---- what the bank may have then

module _ (k : Shape) (o : ℕ) (v : View) (shape : v.shape ≡ k) (possible : ∥ IsReachable v ∥₁) (may : MayWriteEntries k o v) (stored : StoredWorld) (has : MayHave v stored) where
  low : o < container_count v.shape
  low = subst (λ (z : Shape). o < container_count z) (sym shape) may.container

  pub had_kind : kind_of (state_at stored o).content ≡ kind_in k.starts o
  had_kind = ap (λ (z : ContainerState). kind_of z.content) (has.agrees o low may.locked) ∙ kind_is k v o shape possible may.locked

  pub had_stands : Represents k.texts (held_unboxed o v) (state_at stored o)
  had_stands = subst (λ (z : ContainerState). Represents k.texts (held_unboxed o v) z) (sym (has.agrees o low may.locked)) may.stands

-- ---- the dict or the set at a place of a world

pub dict_there : (world : List Content) (d : ℕ) → kind_of (slice_index_or world d (content.List [])) ≡ kind.Dict → dict_at world d ≡ dict_of (slice_index_or world d (content.List []))
dict_there [] d is = absurd (cc)
dict_there (c ∷ world) zero is = refl
dict_there (c ∷ world) (suc d) is = dict_there world d is

pub set_there : (world : List Content) (s : ℕ) → kind_of (slice_index_or world s (content.List [])) ≡ kind.Set → set_at world s ≡ set_of (slice_index_or world s (content.List []))
set_there [] s is = absurd (cc)
set_there (c ∷ world) zero is = refl
set_there (c ∷ world) (suc s) is = set_there world s is

-- ---- a reply that is shown before loads is shown after them

pub shown_then : (called : Call) (said : Reply) (v u : View) → OnlyLoaded v u → IsShownBy called said v → IsShownBy called said u
shown_then called said v u l s = record {
  read = s.read;
  cursor = s.cursor;
  plain = s.plain;
  replied = λ stored has. s.replied stored (had_before stored has);
  cause = s.cause;
}
  where
    had_before : (stored : StoredWorld) → MayHave u stored → MayHave v stored
    had_before stored has = record {
      agrees = λ p low mine. has.agrees p (subst (λ (z : Shape). p < container_count z) (sym l.work.pass.shape) low) (l.work.pass.locks p ∙ mine) ∙ work_knows v u p l.work;
      containers = has.containers ∙ ap container_count l.work.pass.shape;
      order = has.order;
      kinds = has.kinds ∙ ap (λ (z : Shape). kinds_in z.starts) l.work.pass.shape;
      unsplit = has.unsplit;
      words = has.words;
    }
