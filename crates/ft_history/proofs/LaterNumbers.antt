-- What is right of an entry stays so as more writes are made.
use Rattle.std.proofs.Common.{◌≡◌, ℕ, ◌+◌, ◌≤◌, true, false, List, [], ◌∷◌, ◌++◌, length, take, refl, sym, ap, subst, ◌∙◌, arith, cond}
use Rattle.std.specs.List.{All, fold}
use Rattle.std.specs.Prelude.{Option}
use Rattle.std.proofs.lemmas.List.{length-append, take-append-le}
use Rattle.std.proofs.lemmas.List.Elements.{All-head, All-tail, All-weaker}
use Rattle.ft_model.specs.declared.call.Call.{Call}
use Rattle.ft_model.specs.declared.call.Call.TheVariants as call
use Rattle.ft_model.specs.declared.cursor.Cursor.{Cursor}
use Rattle.ft_model.specs.declared.entry.Entry.{Entry}
use Rattle.ft_model.specs.declared.entry.Storage.{Storage}
use Rattle.ft_model.specs.declared.reply.Reply.{Reply}
use Rattle.ft_model.specs.declared.reply.Reply.TheVariants as reply
use Rattle.ft_model.specs.declared.script.ScriptParts.{ScriptParts}
use Rattle.ft_model.specs.Answers.{answer, world_by, is_memory}
use Rattle.ft_model.specs.Histories.{cursors_of, after_stamped, IsReplied, IfEnds}
use Rattle.ft_model.specs.Numbers.{world_after, hands_after, number_after, after_begins, begins_of, begun_containers, needs_after, IsKeptFrom, IsRightAfter}
use Rattle.ft_model.specs.TableUses.{IsEarned, IsFitting}
use Rattle.ft_model.specs.Worlds.{starts_of, start_hands, containers_used}
use Rattle.ft_history.proofs.HistoryPlaces.{slice_get_left}

stamp_within : (entry : Entry) (n : ℕ) → number_after entry ≤ n → entry.stamp ≤ n
stamp_within entry n low = elim entry.wrote as (λ b. cond {A = ℕ} b (entry.stamp + 1) entry.stamp ≤ n → entry.stamp ≤ n) [ true ↦ λ le. omega arith | false ↦ λ le. le ] low

module _ (script : ScriptParts) (calls more : List Call) where
  same_world : (n : ℕ) → n ≤ length calls → world_after script calls n ≡ world_after script (calls ++ more) n
  same_world n low = ap (world_by (starts_of script.containers)) (sym (take-append-le n calls more low))

  same_after : (hands : List (Option Cursor)) (before : List Entry) → All (λ earlier. earlier.stamp ≤ length calls) before → fold (after_stamped (starts_of script.containers) calls) hands before ≡ fold (after_stamped (starts_of script.containers) (calls ++ more)) hands before
  same_after hands [] low = refl
  same_after hands (entry ∷ before) low =
      ap (λ w. fold (after_stamped (starts_of script.containers) calls) (cond (is_memory entry.reply) hands (answer w hands entry.call).hands) before) (same_world entry.stamp (All-head (λ (e : Entry). e.stamp ≤ length calls) entry before low))
      ∙ same_after (after_stamped (starts_of script.containers) (calls ++ more) hands entry) before (All-tail (λ (e : Entry). e.stamp ≤ length calls) entry before low)

module _ (storage : Storage) (script : ScriptParts) (calls more : List Call) (before : List Entry) (entry : Entry) (is : IsRightAfter storage script calls before entry) where
  same_calls : take entry.stamp calls ≡ take entry.stamp (calls ++ more)
  same_calls = sym (take-append-le entry.stamp calls more is.within)

  same_hands : hands_after script calls entry.thread before ≡ hands_after script (calls ++ more) entry.thread before
  same_hands =
      same_after script calls more (start_hands (cursors_of script entry.thread)) before
      (All-weaker (λ earlier. number_after earlier ≤ entry.stamp) (λ earlier. earlier.stamp ≤ length calls) (λ earlier low. stamp_within earlier (length calls) (omega (arith, low, is.within))) before is.rises)

  pub needs_stay : needs_after script calls before entry ≡ needs_after script (calls ++ more) before entry
  needs_stay = ap (λ hands. containers_used hands entry.call ++ begun_containers (after_begins entry entry.call (begins_of before))) same_hands

  kept_from : (begun : Entry) (said : Reply) → IsKeptFrom calls before begun entry.stamp said → IsKeptFrom (calls ++ more) before begun entry.stamp said
  kept_from begun reply.Kept kept = λ number called from below at touched. kept number called from below (sym (slice_get_left calls more number (omega (arith, is.within))) ∙ at) touched
  kept_from begun said kept = tt

  kept_later : (called : Call) (begins : List Entry) → IfEnds begins called (λ begun. IsKeptFrom calls before begun entry.stamp entry.reply) → IfEnds begins called (λ begun. IsKeptFrom (calls ++ more) before begun entry.stamp entry.reply)
  kept_later call.End [] kept = tt
  kept_later call.End (begun ∷ begins) kept = kept_from begun entry.reply kept
  kept_later called begins kept = tt

  pub right_stays : IsRightAfter storage script (calls ++ more) before entry
  right_stays =
      record {
        within = omega (arith, is.within, length-append calls more);
        rises = is.rises;
        wrote = is.wrote;
        reply =
            subst (IsReplied entry.call entry.reply)
            (ap (λ w. (answer w (hands_after script calls entry.thread before) entry.call).reply) (same_world script calls more entry.stamp is.within)
            ∙ ap (λ hands. (answer (world_after script (calls ++ more) entry.stamp) hands entry.call).reply) same_hands) is.reply;
        kept = kept_later entry.call (begins_of before) is.kept;
        counted = is.counted;
        earned = subst (λ cs. IsEarned storage script cs before entry) same_calls is.earned;
        fitting = subst (λ cs. IsFitting storage script cs entry) same_calls is.fitting;
      }
