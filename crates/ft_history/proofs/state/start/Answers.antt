use Rattle.std.proofs.Common.{◌≡◌, ℕ, ◌<◌, List, map, length, replicate, Some, None, refl, sym, ap, ◌∙◌, arith, inl, inr}
use Rattle.std.specs.Prelude.{slice_get}
use Rattle.std.proofs.lemmas.List.{get_or-replicate, length-replicate}
use Rattle.std.proofs.lemmas.Option.{slice_get_within, slice_get_cases, get_or_from_slice_get}
use Rattle.ft_model.specs.declared.script.Thread.{Thread}
use Rattle.ft_model.specs.Worlds.{start_world, kind_of}
use Rattle.ft_history.specs.declared.progress.ThreadProgress.{ThreadProgress}
use Rattle.ft_history.specs.declared.writers.LastWrites.{LastWrites}
use Rattle.ft_history.specs.Internal.States.{IsFreshProgress}
use Rattle.ft_history.proofs.LastWriteLemmas.{last_at_start}
use Rattle.ft_history.proofs.ScriptLemmas.{unsplit_start}
use Rattle.ft_history.proofs.StartLemmas.{kinds_at_start, progress_at_start, hands_at_start}
use Rattle.ft_history.proofs.state.start.Goals as goal

abbrev nothing : LastWrites
nothing = record { last = None; other = None }

thread_at : {P : Type 0} (threads : List Thread) (thread : ℕ) → thread < length threads → ((found : Thread) → slice_get threads thread ≡ Some found → P) → P
thread_at threads thread low use_it =
    elim (slice_get_cases threads thread).1 [
      | inl found ↦ use_it found.0 found.2
      | inr past ↦ absurd (omega (arith, past.0))
    ]

replicated : (n container : ℕ) (last : LastWrites) → slice_get (replicate n nothing) container ≡ Some last → last ≡ nothing
replicated n container last at =
    let low : container < n = omega (arith, slice_get_within _ container last at, length-replicate n nothing) in
    sym (get_or_from_slice_get (replicate n nothing) container last nothing at) ∙ get_or-replicate n container nothing nothing low

pub returns : goal.returns
returns c = λ entries.
    let parts = c.args.parts.now in
    let n : length c.as_slice-containers.result.now ≡ length parts.containers = ap length c.as_slice-containers.ensures in
    let threads = c.in_ok-start_threads.field-0 in
    let same_threads : length threads.items ≡ length parts.threads = omega (arith, threads.ok.0, c.in_ok-start_threads.ensures.length, ap length c.as_slice.ensures) in
    let there : (thread : ℕ) (progress : ThreadProgress) → slice_get threads.items thread ≡ Some progress → (found : Thread) × (slice_get parts.threads thread ≡ Some found) × IsFreshProgress found progress =
    λ thread progress at.
    thread_at parts.threads thread (omega (arith, slice_get_within threads.items thread progress at)) (λ found here. (found, here, c.in_ok-start_threads.ensures.fresh thread found progress (ap (λ (ts : List Thread). slice_get ts thread) c.as_slice.ensures ∙ here) at)) in
    let blank : c.in_ok-start_containers.field-0.items ≡ replicate (length parts.containers) nothing = c.in_ok-start_containers.ensures ∙ ap (λ k. replicate k nothing) n in
    let last_is : (container : ℕ) (last : LastWrites) → slice_get c.in_ok-start_containers.field-0.items container ≡ Some last → last ≡ nothing = λ container last at. replicated (length parts.containers) container last (ap (λ (ws : List LastWrites). slice_get ws container) (sym blank) ∙ at) in
    record {
      world = c.in_ok-start.ensures ∙ ap start_world c.as_slice-containers.ensures;
      kinds = ap (map kind_of) (c.in_ok-start.ensures ∙ ap start_world c.as_slice-containers.ensures) ∙ kinds_at_start parts.containers;
      count = refl;
      threads = same_threads;
      progress = λ thread progress at. progress_at_start parts entries thread (there thread progress at).0 progress (there thread progress at).1 (there thread progress at).2;
      hands = λ thread progress at. hands_at_start parts entries thread (there thread progress at).0 progress (there thread progress at).1 (there thread progress at).2;
      containers = ap length blank ∙ length-replicate (length parts.containers) nothing;
      lasts = λ container last at. last_at_start entries container last (ap (λ (w : LastWrites). w.last) (last_is container last at)) (ap (λ (w : LastWrites). w.other) (last_is container last at));
      account = c.in_ok-start_account.ensures;
    }

pub start_account-requires : goal.start_account-requires
start_account-requires c = unsplit_start c.args.parts.now c.requires
