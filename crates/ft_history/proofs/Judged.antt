-- What the judge's tests say of the rules.
use Rattle.std.proofs.Common.{◌≡◌, ◌↔◌, IsTrue, ℕ, ◌+◌, ◌≤◌, Bool, List, [], ◌++◌, length, take, Some, sym, ap, subst, ◌∙◌, arith, inl, inr, ◌==◌}
use Rattle.std.specs.Prelude.{slice_get}
use Rattle.std.proofs.lemmas.Bool.{cases_lt}
use Rattle.std.proofs.lemmas.List.{length-take-le}
use Rattle.std.proofs.lemmas.List.Sums.{length-filter, count_by-le-length}
use Rattle.ft_model.specs.declared.call.Call.{Call}
use Rattle.ft_model.specs.declared.entry.Entry.{Entry}
use Rattle.ft_model.specs.declared.entry.Rule.{Rule}
use Rattle.ft_model.specs.declared.entry.Storage.{Storage}
use Rattle.ft_model.specs.declared.script.Thread.{Thread}
use Rattle.ft_model.specs.declared.script.ScriptParts.{ScriptParts}
use Rattle.ft_model.specs.Answers.{is_write}
use Rattle.ft_model.specs.Boxings.{has_boxed}
use Rattle.ft_model.specs.Histories.{writes, calls_of, entries_of}
use Rattle.ft_model.specs.Judging.{IsNext, IsStamped, Holds, rank_of}
use Rattle.ft_history.specs.declared.progress.ThreadProgress.{ThreadProgress}
use Rattle.ft_model.specs.Worlds.{starts_of}
use Rattle.ft_history.specs.Internal.States.{HasBoxed}
use Rattle.ft_history.specs.Internal.Steps.{HoldsFirst}
use Rattle.ft_history.proofs.OneVerdict.{same_rule}

-- ---- one rule more

module _ (storage : Storage) (script : ScriptParts) (entries : List Entry) (place : ℕ) (entry : Entry) where
  pub holds_none : HoldsFirst storage script entries place entry 0
  holds_none other low = absurd (omega arith)

  pub holds_more : (count : ℕ) (r : Rule) → rank_of r ≡ count → HoldsFirst storage script entries place entry count → Holds storage script entries r place entry → HoldsFirst storage script entries place entry (count + 1)
  holds_more count r rank first keeps other low =
      elim (cases_lt (rank_of other) count) [
        | inl before ↦ first other before
        | inr here ↦ subst (λ q. Holds storage script entries q place entry) (same_rule r other (omega arith)) keeps
      ]

-- ---- whole and stamp

pub next_iff : (script : ScriptParts) (entries : List Entry) (place : ℕ) (entry : Entry) (found : Thread) (progress : ThreadProgress) (r : Bool)
    → calls_of script entry.thread ≡ found.calls → progress.made ≡ length (entries_of entry.thread (take place entries))
    → IsTrue r ↔ ((entry.index ≡ progress.made + 1) × (slice_get found.calls progress.made ≡ Some entry.call)) → IsTrue r ↔ IsNext script entries place entry
next_iff script entries place entry found progress r calls made is = (
  λ yes. record {
    index = (is.0 yes).0 ∙ ap (λ n. n + 1) made;
    call = ap (λ (cs : List Call). slice_get cs (length (entries_of entry.thread (take place entries)))) calls ∙ ap (slice_get found.calls) (sym made) ∙ (is.0 yes).1;
  },
  λ next. is.1 (next.index ∙ ap (λ n. n + 1) (sym made), ap (slice_get found.calls) made ∙ ap (λ (cs : List Call). slice_get cs (length (entries_of entry.thread (take place entries)))) (sym calls) ∙ next.call),
)

pub stamped_iff : (entries : List Entry) (place : ℕ) (entry : Entry) (count : ℕ) (r : Bool) → count ≡ length (writes (take place entries))
    → IsTrue r ↔ ((entry.stamp ≡ count) × (entry.wrote ≡ is_write entry.call entry.reply)) → IsTrue r ↔ IsStamped entries place entry
stamped_iff entries place entry count r is_count is = (λ yes. record { stamp = (is.0 yes).0 ∙ is_count; wrote = (is.0 yes).1 }, λ stamped. is.1 (stamped.stamp ∙ sym is_count, stamped.wrote))

-- a thread makes no more calls than there are entries
pub few_made : (entries : List Entry) (place thread : ℕ) → place ≤ length entries → length (entries_of thread (take place entries)) ≤ place
few_made entries place thread within = omega (arith, length-filter (λ (e : Entry). e.thread == thread) (take place entries), count_by-le-length (λ (e : Entry). e.thread == thread) (take place entries), length-take-le place entries within)

-- nor more that put a value in a box
pub few_boxed : (script : ScriptParts) (entries : List Entry) (place thread boxed : ℕ) → place ≤ length entries → HasBoxed script entries thread place boxed → boxed ≤ place
few_boxed script entries place thread boxed within has =
    omega (arith, has [], count_by-le-length (has_boxed (starts_of script.containers) (writes (take place entries) ++ [])) (entries_of thread (take place entries)), few_made entries place thread within)
