-- The state at the start.
use Rattle.std.proofs.Common.{◌≡◌, ℕ, List, [], ◌∷◌, map, length, take, Option, Some, None, refl, sym, ap, subst, ◌∙◌, arith, inl, inr}
use Rattle.std.specs.Prelude.{slice_get, IfSome}
use Rattle.std.specs.Option.{option_map_or}
use Rattle.std.specs.List.{AllByRecursion}
use Rattle.std.proofs.lemmas.Bool.{cases_lt}
use Rattle.std.proofs.lemmas.List.{get_or-replicate, length-replicate, get_or_past}
use Rattle.ft_model.specs.declared.entry.Entry.{Entry}
use Rattle.ft_model.specs.declared.cursor.Cursor.{Cursor}
use Rattle.ft_model.specs.declared.script.Declaration.{Declaration}
use Rattle.ft_model.specs.declared.script.Kind.{Kind}
use Rattle.ft_model.specs.declared.script.Kind.TheVariants as kind
use Rattle.ft_model.specs.declared.script.Thread.{Thread}
use Rattle.ft_model.specs.declared.script.ScriptParts.{ScriptParts}
use Rattle.ft_model.specs.Scripts.{IsDeclaredAs}
use Rattle.ft_model.specs.Worlds.{start_world, start_hands, empty_content, kind_of, cursor_at, cursor_kind, container_of}
use Rattle.ft_model.specs.Histories.{calls_of}
use Rattle.ft_history.specs.declared.progress.ThreadProgress.{ThreadProgress}
use Rattle.ft_history.specs.Internal.States.{IsFreshProgress, IsProgress, AreHandsOf, IsOpen, all_begun, section_of}

pub kinds_at_start : (containers : List Declaration) → map kind_of (start_world containers) ≡ map (λ (c : Declaration). c.start.kind) containers
kinds_at_start [] = refl
kinds_at_start (c ∷ containers) = λ i. same c.start.kind i ∷ kinds_at_start containers i
  where
    same : (k : Kind) → kind_of (empty_content k) ≡ k
    same kind.Dict = refl
    same kind.List = refl
    same kind.Set = refl
    same (kind.Deque bound) = refl

no_cursor : (n number : ℕ) → cursor_at (start_hands n) number ≡ None
no_cursor n number =
    elim (cases_lt number n) [
      | inl low ↦ get_or-replicate n number None None low
      | inr past ↦ get_or_past (start_hands n) number None (omega (arith, length-replicate n (let none : Option Cursor = None in none)))
    ]

module _ (script : ScriptParts) (entries : List Entry) (thread : ℕ) (found : Thread) (progress : ThreadProgress) (at : slice_get script.threads thread ≡ Some found) (fresh : IsFreshProgress found progress) where
  pub progress_at_start : IsProgress script entries thread 0 progress
  progress_at_start =
      let none : all_begun progress.sections.items ≡ [] = ap all_begun fresh.sections in
      record {
        made = fresh.made;
        marks = fresh.marks;
        boxed = λ later. fresh.boxed;
        hands = fresh.hands ∙ ap start_hands (sym (ap (λ (o : Option Thread). option_map_or (λ (f : Thread). length f.cursors) o 0) at));
        sections = sym (ap (map section_of) none);
        «open» = subst (AllByRecursion (IsOpen script entries thread 0)) (sym none) tt;
      }

  pub hands_at_start : AreHandsOf script thread progress.made progress.hands
  hands_at_start =
      let empty : (number : ℕ) → cursor_at progress.hands number ≡ None = λ number. ap (λ (hs : List (Option Cursor)). cursor_at hs number) fresh.hands ∙ no_cursor (length found.cursors) number in
      record {
        room = ap length fresh.hands ∙ length-replicate (length found.cursors) (let none : Option Cursor = None in none) ∙ sym (ap (λ (o : Option Thread). option_map_or (λ (f : Thread). length f.cursors) o 0) at);
        kinds = λ number. subst (λ o. IfSome o (λ cursor. IsDeclaredAs script.containers (cursor_kind cursor) (container_of cursor))) (sym (empty number)) tt;
        cursors = λ number some. absurd (let low = some.2 in omega (arith, low, ap (λ n. length (take n (calls_of script thread))) fresh.made));
      }
