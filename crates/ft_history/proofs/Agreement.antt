-- Two lists of the same entries, in which threads and writes have the same order: what an entry has to say is the same at its places in both.
use Rattle.std.proofs.Common.{◌≡◌, ◌≢◌, ℕ, ◌+◌, ◌-◌, ◌<◌, true, List, ◌++◌, length, take, drop, Some, sym, ap, subst, ◌∙◌, arith, cond, map, ◌==◌}
use Rattle.std.specs.List.{between, list_any, count_by}
use Rattle.std.specs.Prelude.{slice_get, IfSome, is_some, not, ◌&&◌}
use Rattle.std.proofs.lemmas.Bool.{and_parts}
use Rattle.std.proofs.lemmas.Option.{slice_get_within}
use Rattle.ft_model.specs.declared.call.Call.{Call}
use Rattle.ft_model.specs.declared.reply.Reply.{Reply}
use Rattle.ft_model.specs.declared.reply.Reply.TheVariants as reply
use Rattle.ft_model.specs.declared.entry.Entry.{Entry}
use Rattle.ft_model.specs.declared.entry.Storage.{Storage}
use Rattle.ft_model.specs.declared.script.ScriptParts.{ScriptParts}
use Rattle.ft_model.specs.Answers.{answer, world_by}
use Rattle.ft_model.specs.Histories.{writes, world_at, entries_of, cursors_of, hands_by, hands_at, sections_at, after_section, innermost, EachAt, IsReplied, IsAnswered, IsAwaited, IsWhole, Section, names, disturbs, is_disturbed, is_marked, marks_between, IsKeptBy, IsCountedBy, IsKept, IsCounted, IsMarked, IsEarnedAt, IsChronicle, has_call_on, needs_at}
use Rattle.ft_model.specs.Numbers.{begins_of}
use Rattle.ft_model.specs.TableUses.{IsEarned}
use Rattle.ft_model.specs.Worlds.{starts_of, containers_used}
use Rattle.ft_history.proofs.FilteredParts.{any_passed, count_passed}
use Rattle.ft_history.proofs.StampedLists.{written, AreStamped, writes_before_entry, mine_before, written_between, mine_between}
use Rattle.ft_history.proofs.OpenSections.{IsOpened, AreOpened, are_opened, same_innermost_after, same_ended}

pub record Agree (script : ScriptParts) (one other : List Entry) : Type 0 where
  pub one_whole : IsWhole script one
  pub other_whole : IsWhole script other
  pub one_numbered : AreStamped one
  pub other_numbered : AreStamped other
  pub same_writes : written one ≡ written other
  pub same_threads : (thread : ℕ) → entries_of thread one ≡ entries_of thread other
  -- each entry of the second list stands in the first
  pub found : (place : ℕ) (entry : Entry) → slice_get other place ≡ Some entry → (there : ℕ) × (slice_get one there ≡ Some entry)

disturbs_by_writes : (thread : ℕ) (containers : List ℕ) (e : Entry) → disturbs thread containers e ≡ true → e.wrote ≡ true
disturbs_by_writes thread containers e disturbed = (and_parts e.wrote (not (e.thread == thread)) (and_parts (e.wrote && not (e.thread == thread)) (list_any (λ container. names container e.call) containers) disturbed).0).0

pub marks_are_mine : (thread : ℕ) (e : Entry) → is_marked thread e ≡ true → (e.thread == thread) ≡ true
marks_are_mine thread e is = (and_parts (e.thread == thread) (is_some e.waited) is).0

module _ (script : ScriptParts) (one other : List Entry) (agree : Agree script one other) (place place' : ℕ) (entry : Entry) (at : slice_get one place ≡ Some entry) (at' : slice_get other place' ≡ Some entry) where
  same_calls : writes one ≡ writes other
  same_calls = ap (map (λ (e : Entry). e.call)) agree.same_writes

  same_before : writes (take place one) ≡ writes (take place' other)
  same_before =
      writes_before_entry one agree.one_numbered place entry at ∙ ap (λ (es : List Entry). map (λ (e : Entry). e.call) (take entry.stamp es)) agree.same_writes
      ∙ sym (writes_before_entry other agree.other_numbered place' entry at')

  same_mine : entries_of entry.thread (take place one) ≡ entries_of entry.thread (take place' other)
  same_mine =
      mine_before script one agree.one_whole place entry at ∙ ap (take (entry.index - 1)) (agree.same_threads entry.thread)
      ∙ sym (mine_before script other agree.other_whole place' entry at')

  same_world : world_at script one entry.stamp ≡ world_at script other entry.stamp
  same_world = ap (λ (cs : List Call). world_by (starts_of script.containers) (take entry.stamp cs)) same_calls

  same_hands : hands_at script one entry.thread place ≡ hands_at script other entry.thread place'
  same_hands =
      ap (λ (cs : List Call). hands_by (starts_of script.containers) cs (cursors_of script entry.thread) (entries_of entry.thread (take place one))) same_calls
      ∙ ap (hands_by (starts_of script.containers) (writes other) (cursors_of script entry.thread)) same_mine

  answered : IsAnswered script one place entry → IsAnswered script other place' entry
  answered is =
      record {
        stamp = agree.other_numbered place' entry at';
        wrote = is.wrote;
        reply =
            subst (IsReplied entry.call entry.reply)
            (ap (λ w. (answer w (hands_at script one entry.thread place) entry.call).reply) same_world
            ∙ ap (λ hands. (answer (world_at script other entry.stamp) hands entry.call).reply) same_hands) is.reply;
      }

  -- ---- sections

  abbrev begins : List Entry
  begins = begins_of (entries_of entry.thread (take place one))

  opened : AreOpened one entry.thread place (sections_at one entry.thread place) begins
  opened = are_opened one entry.thread place (let low : place < length one = slice_get_within one place entry at in omega arith)

  opened' : AreOpened other entry.thread place' (sections_at other entry.thread place') begins
  opened' =
      subst (λ es. AreOpened other entry.thread place' (sections_at other entry.thread place') (begins_of es)) (sym same_mine)
      (are_opened other entry.thread place' (let low : place' < length other = slice_get_within other place' entry at' in omega arith))

  marked : IsMarked script one place entry → IsMarked script other place' entry
  marked is =
      let same_needs : needs_at script one place entry ≡ needs_at script other place' entry =
      ap (λ hands. containers_used hands entry.call ++ innermost (after_section place entry.call (sections_at one entry.thread place))) same_hands
      ∙ ap (λ (containers : List ℕ). containers_used (hands_at script other entry.thread place') entry.call ++ containers)
      (same_innermost_after one other entry.thread place place' entry.call (sections_at one entry.thread place) (sections_at other entry.thread place') begins opened opened') in
      subst (λ (containers : List ℕ). IfSome entry.waited (λ thread. (thread ≢ entry.thread) × (list_any (has_call_on script thread) containers ≡ true))) same_needs is

  module _ (section section' : Section) (begun : Entry) (is_opened : IsOpened one entry.thread place section begun) (is_opened' : IsOpened other entry.thread place' section' begun) where
    same_containers : section.containers ≡ section'.containers
    same_containers = is_opened.containers ∙ sym is_opened'.containers

    same_inside : written (between (section.begun + 1) place one) ≡ written (between (section'.begun + 1) place' other)
    same_inside =
        written_between one section.begun begun is_opened.at place entry at is_opened.before agree.one_numbered
        ∙ ap (λ (es : List Entry). drop (begun.stamp + cond begun.wrote 1 0) (take entry.stamp es)) agree.same_writes
        ∙ sym (written_between other section'.begun begun is_opened'.at place' entry at' is_opened'.before agree.other_numbered)

    same_mine_inside : entries_of entry.thread (between (section.begun + 1) place one) ≡ entries_of entry.thread (between (section'.begun + 1) place' other)
    same_mine_inside =
        mine_between one section.begun begun is_opened.at place entry at is_opened.before script agree.one_whole is_opened.mine
        ∙ ap (λ (es : List Entry). drop begun.index (take (entry.index - 1) es)) (agree.same_threads entry.thread)
        ∙ sym (mine_between other section'.begun begun is_opened'.at place' entry at' is_opened'.before script agree.other_whole is_opened'.mine)

    same_disturbed : is_disturbed one entry.thread place section ≡ is_disturbed other entry.thread place' section'
    same_disturbed =
        any_passed (λ (e : Entry). e.wrote) (disturbs entry.thread section.containers) (disturbs_by_writes entry.thread section.containers) (between (section.begun + 1) place one)
        ∙ ap (λ (es : List Entry). list_any (disturbs entry.thread section.containers) es) same_inside
        ∙ ap (λ (containers : List ℕ). list_any (disturbs entry.thread containers) (written (between (section'.begun + 1) place' other))) same_containers
        ∙ sym (any_passed (λ (e : Entry). e.wrote) (disturbs entry.thread section'.containers) (disturbs_by_writes entry.thread section'.containers) (between (section'.begun + 1) place' other))

    same_marks : marks_between one entry.thread place section ≡ marks_between other entry.thread place' section'
    same_marks =
        count_passed (λ (e : Entry). e.thread == entry.thread) (is_marked entry.thread) (marks_are_mine entry.thread) (between (section.begun + 1) place one)
        ∙ ap (λ (es : List Entry). count_by (is_marked entry.thread) es) same_mine_inside
        ∙ sym (count_passed (λ (e : Entry). e.thread == entry.thread) (is_marked entry.thread) (marks_are_mine entry.thread) (between (section'.begun + 1) place' other))

    kept_by : (said : Reply) → IsKeptBy one entry.thread place section said → IsKeptBy other entry.thread place' section' said
    kept_by reply.Kept is = sym same_disturbed ∙ is
    kept_by said is = tt

    counted_by : (said : Reply) → IsCountedBy one entry.thread place section said → IsCountedBy other entry.thread place' section' said
    counted_by reply.Kept is = sym same_marks ∙ is
    counted_by (reply.Suspended count) is = (is.0, sym same_marks ∙ is.1)
    counted_by said is = tt

  kept : IsKept one place entry → IsKept other place' entry
  kept is = same_ended one other entry.thread place place' (λ section. IsKeptBy one entry.thread place section entry.reply) (λ section. IsKeptBy other entry.thread place' section entry.reply)
      (λ section section' begun is_opened is_opened'. kept_by section section' begun is_opened is_opened' entry.reply) entry.call (sections_at one entry.thread place) (sections_at other entry.thread place') begins opened opened' is

  counted : IsCounted one place entry → IsCounted other place' entry
  counted is = same_ended one other entry.thread place place' (λ section. IsCountedBy one entry.thread place section entry.reply) (λ section. IsCountedBy other entry.thread place' section entry.reply)
      (λ section section' begun is_opened is_opened'. counted_by section section' begun is_opened is_opened' entry.reply) entry.call (sections_at one entry.thread place) (sections_at other entry.thread place') begins opened opened' is

  earned : (storage : Storage) → IsEarnedAt storage script one place entry → IsEarnedAt storage script other place' entry
  earned storage is =
      subst (λ es. IsEarned storage script (writes (take place' other)) es entry) same_mine
      (subst (λ cs. IsEarned storage script cs (entries_of entry.thread (take place one)) entry) same_before is)

pub chronicle_of_agreement : (storage : Storage) (script : ScriptParts) (one other : List Entry) → Agree script one other → EachAt other (IsAwaited other) → IsChronicle storage script one → IsChronicle storage script other
chronicle_of_agreement storage script one other agree awaited chronicle =
    record {
      whole = agree.other_whole;
      awaited = awaited;
      answered = λ place entry at. let there = agree.found place entry at in answered script one other agree there.0 place entry there.1 at (chronicle.answered there.0 entry there.1);
      marked = λ place entry at. let there = agree.found place entry at in marked script one other agree there.0 place entry there.1 at (chronicle.marked there.0 entry there.1);
      kept = λ place entry at. let there = agree.found place entry at in kept script one other agree there.0 place entry there.1 at (chronicle.kept there.0 entry there.1);
      counted = λ place entry at. let there = agree.found place entry at in counted script one other agree there.0 place entry there.1 at (chronicle.counted there.0 entry there.1);
      earned = λ place entry at. let there = agree.found place entry at in earned script one other agree there.0 place entry there.1 at storage (chronicle.earned there.0 entry there.1);
    }
