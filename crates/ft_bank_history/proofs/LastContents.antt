-- `contents_are_last`: what a pass knows of all containers that has taken in all others and has the floor.
use Rattle.std.proofs.Common.{◌≡◌, ℕ, suc, ◌%◌, ◌<◌, List, [], ◌∷◌, length, map, reverse, refl, sym, ap, ◌∙◌, subst, arith}
use Rattle.std.specs.Prelude.{slice_get, slice_index, slice_index_or, Some}
use Rattle.std.proofs.lemmas.List.{length-map}
use Rattle.ft_model.specs.declared.call.Call.{Call}
use Rattle.ft_model.specs.declared.content.Content.{Content}
use Rattle.ft_model.specs.declared.content.Content.TheVariants as content
use Rattle.ft_model.specs.declared.reply.Shown.{Shown}
use Rattle.ft_model.specs.declared.script.Start.{Start}
use Rattle.ft_model.specs.Answers.{shown_of, world_by}
use Rattle.ft_model.specs.TableUses.{StoredWorld, stored_newest}
use Rattle.ft_model.specs.Worlds.{kind_of}
use Rattle.ft_model.proofs.StoredLaws.{newest_stored, stored_world}
use Rattle.ft_trace.specs.declared.Shape.{Shape}
use Rattle.ft_trace.specs.declared.View.{View}
use Rattle.ft_trace.specs.Acts.{floor_words}
use Rattle.ft_trace.specs.Addresses.{at, container_count, version_of}
use Rattle.ft_trace.specs.ContainerStates.{container_after}
use Rattle.ft_trace.specs.InOrder.{AreInOrder}
use Rattle.ft_trace.specs.Pictures.{Represents}
use Rattle.ft_trace.specs.Traces.{Event, IsReachable, history, run, word}
use Rattle.ft_trace.specs.Unboxed.{unboxed_picture}
use Rattle.ft_trace.proofs.Standing.{stands}
use Rattle.ft_trace.proofs.Floored.{floored}
use Rattle.ft_trace.proofs.Known.{kind_then, kinds_stay}
use Rattle.ft_trace.proofs.Quiet.{versions_even}
use Rattle.ft_bank_history.specs.LastContents.{AreShownTo, IsLast}

-- ---- one place after the other

abbrev nothing : Content
nothing = content.List []

shown_each : (all : List Shown) (world : List Content) → length all ≡ length world → ((o : ℕ) (shown : Shown) → o < length world → slice_get all o ≡ Some shown → shown ≡ shown_of (slice_index_or world o nothing)) → all ≡ map shown_of world
shown_each [] [] long each = refl
shown_each [] (c ∷ world) long each = absurd (omega (arith, long))
shown_each (s ∷ all) [] long each = absurd (omega (arith, long))
shown_each (s ∷ all) (c ∷ world) long each =
    let first = each 0 s (omega arith) refl in
    let others = shown_each all world (omega (arith, long)) (λ o shown low at. each (suc o) shown (omega (arith, low)) at) in
    λ d. first d ∷ others d

-- ---- the trace of the pass

module _ (v : View) (x : IsReachable v) (is : IsLast v) where
  abbrev pub k : Shape
  k = v.shape

  abbrev pub es : List Event
  es = x.0

  words_now : floor_words k v.number v.log ≡ (run k es).words
  words_now = ((floored k es x.2.0 x.1 v x.2.1).has is.floor).1

  even_now : (o : ℕ) → o < container_count k → word k es (version_of o) % 2 ≡ 0
  even_now o low = ap (λ (ws : List ℕ). slice_index ws (at k (version_of o)) % 2) (sym words_now) ∙ versions_even k es x.2.0 x.1 v x.2.1 is.floor o low (is.still o)

  -- so what is shown is what the writes of the trace leave
  pub last_shown : (all : List Shown) → AreShownTo v all → all ≡ map shown_of (stored_newest k.starts (history es)).world
  last_shown all shown =
      let world = (stored_newest k.starts (history es)).world in
      let kinds = ap length (kinds_stay k es x.2.0) in
      let one = length-map world kind_of in
      let other = length-map k.starts (λ (start : Start). start.kind) in
      let count = shown.count in
      let long : length world ≡ container_count k = omega (arith, kinds, one, other) in
      shown_each all world (omega (arith, count, long))
      (λ o s low found.
      let inside : o < container_count k = omega (arith, low, long) in
      shown.each o s found (container_after k.starts (history es) o) (kind_then k es x.2.0 o)
      (subst (λ (ws : List ℕ). Represents k.texts (unboxed_picture k o ws) (container_after k.starts (history es) o)) (sym words_now) (stands k es x.2.0 o inside (even_now o inside))))

  -- in the order of the writes
  pub last_world : (all : List Shown) → AreShownTo v all → all ≡ map shown_of (world_by k.starts (reverse (history es)))
  last_world all shown =
      last_shown all shown
      ∙ ap (map shown_of) (ap (λ (z : StoredWorld). z.world) (newest_stored k.starts (history es)) ∙ stored_world k.starts (reverse (history es)))

-- writes of which no entry tells
pub no_writes : (k : Shape) (calls : List Call) → AreInOrder k calls [] → calls ≡ []
no_writes k [] order = refl
no_writes k (c ∷ calls) order = absurd (let one = order.once 0 (omega arith) in omega (arith, one))
