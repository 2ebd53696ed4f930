-- Reads of the words of two containers, one after the other.
use Rattle.std.proofs.Common.{◌≡◌, ℕ, ◌<◌, Bool, true, false, ◌++◌}
use Rattle.std.specs.Prelude.{nat_lt, if◌then◌else◌}
use Rattle.ft_trace.specs.declared.Shape.{Shape}
use Rattle.ft_trace.specs.declared.View.{View}
use Rattle.ft_trace.specs.Acts.{has_lock}
use Rattle.ft_trace.specs.Addresses.{container_count}
use Rattle.ft_trace.specs.Boxes.{known_box_word}
use Rattle.ft_trace.specs.ContainerStates.{kind_in}
use Rattle.ft_trace.specs.Holds.{held_words}
use Rattle.ft_trace.specs.Unboxed.{unboxed}
use Rattle.ft_trace.specs.Pictures.{ContainerWords}
use Rattle.ft_bank.specs.declared.pass.Pass.{Pass}
use Rattle.ft_bank.specs.Passes.{view}
use Rattle.ft_bank.specs.Whole.{OnlyLoaded}
use Rattle.ft_section.specs.declared.answers.Objects.TheVariants.{Two}
use Rattle.ft_section.specs.LockTakings.{AreIn, HasLocks}
use Rattle.ft_search.proofs.LoadedLooks.{looks_append, looks_did}
use Rattle.ft_search.proofs.Running.{did_trans}
use Rattle.ft_reads.specs.Reads.{Reads}
use Rattle.ft_reads.specs.Pairs.{ReadsBoth}
use Rattle.ft_reads.proofs.Agreeing.{held_before, read_append, read_newer, read_older}

module _ (k : Shape) (o m : ℕ) where
  pub of_first : (P : ContainerWords → Type 0) (p q : Pass) → Reads k o P p q → ReadsBoth k o m (λ x y. P x) p q
  of_first P p q r = (r.0, r.1, r.2, (λ x y box more f g. r.3 x box f), r.4)

  pub of_second : (P : ContainerWords → Type 0) (p q : Pass) → Reads k m P p q → ReadsBoth k o m (λ x y. P y) p q
  of_second P p q r = (r.0, r.1, r.2, (λ x y box more f g. r.3 y more g), r.4)

  pub both_map : (P Q : ContainerWords → ContainerWords → Type 0) (p q : Pass) → ReadsBoth k o m P p q → ((x y : ContainerWords) → P x y → Q x y) → ReadsBoth k o m Q p q
  both_map P Q p q r f = (r.0, r.1, r.2, (λ x y box more g h. f (unboxed box (kind_in k.starts o) x) (unboxed more (kind_in k.starts m) y) (r.3 x y box more g h)), r.4)

  pub both_loaded : (P : ContainerWords → ContainerWords → Type 0) (p q : Pass) → ReadsBoth k o m P p q → OnlyLoaded (view p) (view q)
  both_loaded P p q r = looks_did r.0 p q r.1 r.2

  pub both_then : (P Q : ContainerWords → ContainerWords → Type 0) (p q r : Pass) → ReadsBoth k o m P p q → ReadsBoth k o m Q q r → ReadsBoth k o m (λ x y. P x y × Q x y) p r
  both_then P Q p q r a b =
      let loaded = both_loaded P p q a in
      let before = held_before k p (view q) b.0 loaded b.4 in (
        b.0 ++ a.0,
        looks_append b.0 a.0 b.1 a.1,
        did_trans b.0 a.0 p q r a.2 b.2,
        (λ x y box more f g. (a.3 x y box more (read_older k o x box b.0 a.0 f) (read_older k m y more b.0 a.0 g), b.3 x y box more (read_newer k o x box b.0 a.0 f) (read_newer k m y more b.0 a.0 g))),
        (λ shape c low mine.
            read_append k c (held_words c (view p)) (λ b i. known_box_word (view p).shape b i (view p).log) b.0 a.0 (before shape c low mine) (a.4 shape c low mine)),
      )

-- ---- the locks of both

pub has_each : (v : View) (a b : ℕ) → HasLocks v (Two a b) → (has_lock a v.log ≡ true) × (has_lock b v.log ≡ true)
has_each v a b h = by (nat_lt b a) h
  where
    by : (c : Bool) → (has_lock (if c then b else a) v.log ≡ true) × (has_lock (if c then a else b) v.log ≡ true) → (has_lock a v.log ≡ true) × (has_lock b v.log ≡ true)
    by true x = (x.1, x.0)
    by false x = x

pub are_in : (k : Shape) (a b : ℕ) → a < container_count k → b < container_count k → AreIn k (Two a b)
are_in k a b low high = by (nat_lt b a)
  where
    by : (c : Bool) → ((if c then b else a) < container_count k) × ((if c then a else b) < container_count k)
    by true = (high, low)
    by false = (low, high)
