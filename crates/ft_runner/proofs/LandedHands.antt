-- The cursors of a thread go over no deque where the script's containers are landed.
use Rattle.std.proofs.Common.{◌≡◌, ◌∙◌, ℕ, true, false, List, [], ◌∷◌, map, take, Option, Some, sym, ap, subst, cond, inl, inr}
use Rattle.std.specs.Prelude.{All, option_map, slice_get}
use Rattle.std.specs.List.{fold}
use Rattle.std.proofs.lemmas.Bool.{and_parts, false≢true}
use Rattle.std.proofs.lemmas.List.Elements.{All-head, All-tail}
use Rattle.std.proofs.lemmas.Option.{none-some, same_Some, slice_get-map, slice_get_cases}
use Rattle.ft_model.specs.declared.call.Call.{Call}
use Rattle.ft_model.specs.declared.content.Content.{Content}
use Rattle.ft_model.specs.declared.cursor.Cursor.{Cursor}
use Rattle.ft_model.specs.declared.cursor.Cursor.TheVariants as cursor
use Rattle.ft_model.specs.declared.entry.Entry.{Entry}
use Rattle.ft_model.specs.declared.script.Declaration.{Declaration}
use Rattle.ft_model.specs.declared.script.Kind.{Kind}
use Rattle.ft_model.specs.declared.script.Kind.TheVariants as kind
use Rattle.ft_model.specs.declared.script.ScriptParts.{ScriptParts}
use Rattle.ft_model.specs.declared.script.Start.{Start}
use Rattle.ft_model.specs.Answers.{answer, is_memory, world_by}
use Rattle.ft_model.specs.Histories.{after_stamped}
use Rattle.ft_model.specs.Landed.{is_landed_kind, is_landed_start, shares_none}
use Rattle.ft_model.specs.Scripts.{IsScript}
use Rattle.ft_model.specs.Worlds.{IsOfKind, cursor_at, cursor_kind, container_of, kind_of, start_hands}
use Rattle.ft_turns.proofs.AnswerFacts.{AreOver, IsLandedCursor}
use Rattle.ft_turns.proofs.Going.{none_made}

-- ---- no container is a deque

not_deque : (declared : Declaration) (bound : Option ℕ) → is_landed_start declared.start ≡ true → declared.start.kind ≡ kind.Deque bound → ⊥
not_deque declared bound landed is = false≢true (subst (λ (k : Kind). is_landed_kind k ≡ true) is (and_parts (is_landed_kind declared.start.kind) (shares_none declared.start.keys) landed).0)

no_deque : (script : ScriptParts) → IsScript script → (world : List Content) → map kind_of world ≡ map (λ (declared : Declaration). declared.start.kind) script.containers → (place : ℕ) (bound : Option ℕ) → option_map kind_of (slice_get world place) ≡ Some (kind.Deque bound) → ⊥
no_deque script rule world kinds place bound is =
    let kind_in : Declaration → Kind = λ declared. declared.start.kind in
    let named : option_map kind_in (slice_get script.containers place) ≡ Some (kind.Deque bound) =
    sym (slice_get-map kind_in script.containers place) ∙ ap (λ (ks : List Kind). slice_get ks place) (sym kinds) ∙ slice_get-map kind_of world place ∙ is in
    elim (slice_get_cases script.containers place).1 [
      | inl found ↦
          let landed : is_landed_start found.0.start ≡ true = subst (λ (d : Declaration). is_landed_start d.start ≡ true) found.3 (rule.starts place found.0 found.1).landed in
          not_deque found.0 bound landed (same_Some (kind_in found.0) (kind.Deque bound) (ap (option_map kind_in) (sym found.2) ∙ named))
      | inr past ↦ none-some (kind.Deque bound) (ap (option_map kind_in) (sym past.1) ∙ named)
    ]

-- ---- cursors

landed_cursor : (script : ScriptParts) → IsScript script → (world : List Content) → map kind_of world ≡ map (λ (declared : Declaration). declared.start.kind) script.containers → (it : Cursor) → IsOfKind world (cursor_kind it) (container_of it) → IsLandedCursor it
landed_cursor script rule world kinds (cursor.Deque container moves index) of = no_deque script rule world kinds container of.0 of.1
landed_cursor script rule world kinds other of = tt

pub landed_cursors : (script : ScriptParts) → IsScript script → (world : List Content) → map kind_of world ≡ map (λ (declared : Declaration). declared.start.kind) script.containers → (hands : List (Option Cursor)) → AreOver world hands → (number : ℕ) (it : Cursor) → cursor_at hands number ≡ Some it → IsLandedCursor it
landed_cursors script rule world kinds hands over number it at = landed_cursor script rule world kinds it (over number it at)

pub over_start : (world : List Content) (count : ℕ) → AreOver world (start_hands count)
over_start world count number it at = absurd (none-some it (sym (none_made count number) ∙ at))

-- they stay over containers of their kinds
module _ (starts : List Start) (calls : List Call) (world : List Content) where
  abbrev pub KeepsOver : Entry → Type 0
  KeepsOver entry = (hands : List (Option Cursor)) → AreOver world hands → AreOver world (answer (world_by starts (take entry.stamp calls)) hands entry.call).hands

  one_keeps : (entry : Entry) (hands : List (Option Cursor)) → KeepsOver entry → AreOver world hands → AreOver world (after_stamped starts calls hands entry)
  one_keeps entry hands keeps over =
      elim (is_memory entry.reply) as (λ b. AreOver world (cond b hands (answer (world_by starts (take entry.stamp calls)) hands entry.call).hands)) [ true ↦ over | false ↦ keeps hands over ]

  pub all_keep : (mine : List Entry) (hands : List (Option Cursor)) → All KeepsOver mine → AreOver world hands → AreOver world (fold (after_stamped starts calls) hands mine)
  all_keep [] hands keep over = over
  all_keep (entry ∷ mine) hands keep over =
      all_keep mine (after_stamped starts calls hands entry) (All-tail KeepsOver entry mine keep) (one_keeps entry hands (All-head KeepsOver entry mine keep) over)
