-- Whether a history is legal can be told, so one of which nobody can say that it isn't is legal.
use Rattle.std.proofs.Common.{◌≡◌, ◌≢◌, ℕ, ◌≤◌, Bool, true, false, List, [], ◌∷◌, length, take, Option, Some, None, refl, sym, ap, ◌∙◌, inl, inr, ◌⊎◌, arith}
use Rattle.std.specs.List.{list_any}
use Rattle.std.specs.Prelude.{IfSome}
use Rattle.std.proofs.lemmas.Bool.{cases_lt, false≢true}
use mathlib.Core.Logic.{dite}
use native.Mathlib.Decide.{ℕ_discrete}
use Rattle.ft_model.specs.declared.call.Call.{Call}
use Rattle.ft_model.specs.declared.call.Call.TheVariants as call
use Rattle.ft_model.specs.declared.content.Content.{Content}
use Rattle.ft_model.specs.declared.entry.Entry.{Entry}
use Rattle.ft_model.specs.declared.entry.Rule.{Rule}
use Rattle.ft_model.specs.declared.entry.Rule.TheVariants as rule
use Rattle.ft_model.specs.declared.entry.Storage.{Storage}
use Rattle.ft_model.specs.declared.entry.Storage.TheVariants as storage
use Rattle.ft_model.specs.declared.reply.Raise.TheVariants as raise
use Rattle.ft_model.specs.declared.reply.Reply.{Reply}
use Rattle.ft_model.specs.declared.reply.Reply.TheVariants as reply
use Rattle.ft_model.specs.declared.script.ScriptParts.{ScriptParts}
use Rattle.ft_model.specs.declared.script.Start.{Start}
use Rattle.ft_model.specs.Answers.{answer, is_memory, is_raised}
use Rattle.ft_model.specs.Histories.{Section, IfEnds, IfInnermost, IsAwaitedIn, IsCountedAs, IsCountedBy, IsKeptBy, IsLegal, IsPlainReply, IsReplied, entries_of, hands_at, has_call_on, marks_between, needs_at, sections_at, world_at, writes}
use Rattle.ft_model.specs.Judging.{Holds, HoldsAtEnd}
use Rattle.ft_model.specs.TableUses.{CanLackLeaving, CanLackMemory, IsEarnedReply, Supply, can_leave_split, supply_of}
use Rattle.ft_model.specs.Calls.{can_add}
use Rattle.ft_model.specs.Worlds.{no_hands, starts_of}
use Rattle.ft_model.specs.contracts.call.CallPartialEq.TheImpl as calls
use Rattle.ft_model.specs.contracts.reply.ReplyPartialEq.TheImpl as replies
use Rattle.ft_history.proofs.Equality.{call_alike, call_exact, reply_alike, reply_exact}
use Rattle.ft_history.proofs.Unbroken.{legal_of_unbroken, unbroken_of_legal}

-- ---- what can be told

nat_told : (a b : ℕ) → ¬ (¬ (a ≡ b)) → a ≡ b
nat_told a b twice = dite (ℕ_discrete a b) (λ (e : a ≡ b). e) (λ ne. absurd (twice ne))

le_told : (a b : ℕ) → ¬ (¬ (a ≤ b)) → a ≤ b
le_told a b twice =
    elim (cases_lt b a) [
      | inl less ↦ absurd (twice (λ le. omega (arith, le, less)))
      | inr le ↦ omega (arith, le)
    ]

true_told : (b : Bool) → ¬ (¬ (b ≡ true)) → b ≡ true
true_told true twice = refl
true_told false twice = absurd (twice false≢true)

false_told : (b : Bool) → ¬ (¬ (b ≡ false)) → b ≡ false
false_told true twice = absurd (twice (λ e. false≢true (sym e)))
false_told false twice = refl

bool_told : (a b : Bool) → ¬ (¬ (a ≡ b)) → a ≡ b
bool_told a true twice = true_told a twice
bool_told a false twice = false_told a twice

reply_told : (a b : Reply) → ¬ (¬ (a ≡ b)) → a ≡ b
reply_told a b twice =
    elim ((replies.ghosts).eq a b) as (λ same. (replies.ghosts).eq a b ≡ same → a ≡ b) [
      | true ↦ λ same. reply_exact a b same
      | false ↦ λ other. absurd (twice (λ e. false≢true (sym other ∙ reply_alike a b e)))
    ] refl

call_told : (a b : Call) → ¬ (¬ (a ≡ b)) → a ≡ b
call_told a b twice =
    elim ((calls.ghosts).eq a b) as (λ same. (calls.ghosts).eq a b ≡ same → a ≡ b) [
      | true ↦ λ same. call_exact a b same
      | false ↦ λ other. absurd (twice (λ e. false≢true (sym other ∙ call_alike a b e)))
    ] refl

next_told : (found : Option Call) (c : Call) → ¬ (¬ (found ≡ Some c)) → found ≡ Some c
next_told None c twice = absurd (twice (λ e. let none : None ≡ Some c = e in cc))
next_told (Some d) c twice = ap Some (call_told d c (λ ne. twice (λ e. ne (let same : Some d ≡ Some c = e in cc))))

-- ---- replies

plain_told : (said plain : Reply) → ¬ (¬ (IsPlainReply said plain)) → IsPlainReply said plain
plain_told said plain twice =
    elim (is_memory said) as (λ b. is_memory said ≡ b → IsPlainReply said plain) [
      | true ↦ λ is. inl is
      | false ↦ λ is. inr (reply_told said plain (λ ne. twice (λ x. elim x [
        | inl memory ↦ false≢true (sym is ∙ memory)
        | inr same ↦ ne same
      ])))
    ] refl

abbrev EndsAs : Reply → Type 0
EndsAs said = (said ≡ reply.Kept) ⊎ ((count : ℕ) × (said ≡ reply.Suspended count))

end_told : (said : Reply) → ¬ (¬ (EndsAs said)) → EndsAs said
end_told reply.Kept twice = inl refl
end_told (reply.Suspended count) twice = inr (count, refl)
end_told said twice = absurd (twice (λ x. elim x [
  | inl kept ↦ let e : said ≡ reply.Kept = kept in cc
  | inr suspended ↦ let e : said ≡ reply.Suspended suspended.0 = suspended.1 in cc
]))

replied_told : (called : Call) (said plain : Reply) → ¬ (¬ (IsReplied called said plain)) → IsReplied called said plain
replied_told (call.Begin first second) said plain twice = reply_told said reply.Entered twice
replied_told call.End said plain twice = end_told said twice
replied_told call.Quiesce said plain twice = reply_told said reply.Done twice
replied_told (call.Await thread index) said plain twice = reply_told said reply.Done twice
replied_told (call.Dict o c) said plain twice = plain_told said plain twice
replied_told (call.List o c) said plain twice = plain_told said plain twice
replied_told (call.Set o c) said plain twice = plain_told said plain twice
replied_told (call.Deque o c) said plain twice = plain_told said plain twice
replied_told (call.Next cursor) said plain twice = plain_told said plain twice
replied_told call.Dump said plain twice = plain_told said plain twice

-- ---- sections

awaited_told : (entries : List Entry) (place : ℕ) (called : Call) → ¬ (¬ (IsAwaitedIn entries place called)) → IsAwaitedIn entries place called
awaited_told entries place (call.Await thread index) twice = le_told _ _ twice
awaited_told entries place called twice = tt

kept_told : (entries : List Entry) (thread place : ℕ) (section : Section) (said : Reply) → ¬ (¬ (IsKeptBy entries thread place section said)) → IsKeptBy entries thread place section said
kept_told entries thread place section reply.Kept twice = false_told _ twice
kept_told entries thread place section said twice = tt

counted_told : (marks : ℕ) (said : Reply) → ¬ (¬ (IsCountedAs marks said)) → IsCountedAs marks said
counted_told marks reply.Kept twice = nat_told marks 0 twice
counted_told marks (reply.Suspended count) twice = (le_told 1 count (λ no. twice (λ x. no x.0)), nat_told marks count (λ no. twice (λ x. no x.1)))
counted_told marks said twice = tt

innermost_told : (sections : List Section) (P : Section → Type 0) → ((s : Section) → ¬ (¬ (P s)) → P s) → ¬ (¬ (IfInnermost sections P)) → IfInnermost sections P
innermost_told [] P told twice = tt
innermost_told (s ∷ sections) P told twice = told s twice

ends_told : (sections : List Section) (called : Call) (P : Section → Type 0) → ((s : Section) → ¬ (¬ (P s)) → P s) → ¬ (¬ (IfEnds sections called P)) → IfEnds sections called P
ends_told sections call.End P told twice = innermost_told sections P told twice
ends_told sections called P told twice = tt

marked_told : (mark : Option ℕ) (own : ℕ) (of : ℕ → Bool) → ¬ (¬ (IfSome mark (λ thread. (thread ≢ own) × (of thread ≡ true)))) → IfSome mark (λ thread. (thread ≢ own) × (of thread ≡ true))
marked_told None own of twice = tt
marked_told (Some thread) own of twice = ((λ e. twice (λ x. x.0 e)), true_told (of thread) (λ no. twice (λ x. no x.1)))

-- ---- MemoryErrors

lack_told : (world : List Content) (called : Call) → ¬ (¬ (CanLackMemory world called)) → CanLackMemory world called
lack_told world called twice = record { adds = true_told (can_add called) (λ no. twice (λ x. no x.adds)); raises_nothing = false_told (is_raised (answer world no_hands called).reply) (λ no. twice (λ x. no x.raises_nothing)) }

leaving_told : (starts : List Start) (world : List Content) (called : Call) → ¬ (¬ (CanLackLeaving starts world called)) → CanLackLeaving starts world called
leaving_told starts world called twice = record { leaves = true_told (can_leave_split starts called) (λ no. twice (λ x. no x.leaves)); raises_nothing = false_told (is_raised (answer world no_hands called).reply) (λ no. twice (λ x. no x.raises_nothing)) }

either_told : (starts : List Start) (world : List Content) (called : Call) → ¬ (¬ (CanLackMemory world called ⊎ CanLackLeaving starts world called)) → CanLackMemory world called ⊎ CanLackLeaving starts world called
either_told starts world called twice =
    elim (can_add called) as (λ b. can_add called ≡ b → CanLackMemory world called ⊎ CanLackLeaving starts world called) [
      | true ↦ λ adds. inl (record {
        adds = adds;
        raises_nothing = false_told (is_raised (answer world no_hands called).reply) (λ no. twice (λ x. elim x [
          | inl lack ↦ no lack.raises_nothing
          | inr leaving ↦ no leaving.raises_nothing
        ]));
      })
      | false ↦ λ adds. inr (leaving_told starts world called (λ no. twice (λ x. elim x [
        | inl lack ↦ false≢true (sym adds ∙ lack.adds)
        | inr leaving ↦ no leaving
      ])))
    ] refl

earned_told : (starts : List Start) (supply : Supply) (written : List Call) (mine : List Entry) (called : Call) (said : Reply) → ¬ (¬ (IsEarnedReply starts supply written mine called said)) → IsEarnedReply starts supply written mine called said
earned_told starts supply written mine called (reply.Raised (raise.Memory class)) twice = (
  either_told starts _ called (λ no. twice (λ x. no x.0)),
  false_told _ (λ no. twice (λ x. no x.1)),
  record {
    is_class = record { least = le_told _ _ (λ no. twice (λ x. no x.2.is_class.least)); greatest = le_told _ _ (λ no. twice (λ x. no x.2.is_class.greatest)) };
    all_taken = le_told _ _ (λ no. twice (λ x. no x.2.all_taken));
  },
)
earned_told starts supply written mine called (reply.Raised raise.Over) twice = (lack_told _ called (λ no. twice (λ x. no x.0)), true_told _ (λ no. twice (λ x. no x.1)))
earned_told starts supply written mine called (reply.Raised raise.Heap) twice = record {
  boxes = true_told _ (λ no. twice (λ x. no x.boxes));
  raises_nothing = false_told _ (λ no. twice (λ x. no x.raises_nothing));
  passes_nothing = false_told _ (λ no. twice (λ x. no x.passes_nothing));
  all_used = le_told _ _ (λ no. twice (λ x. no x.all_used));
}
earned_told starts supply written mine called said twice = false_told _ twice

-- ---- the rules

module _ (store : Storage) (script : ScriptParts) (entries : List Entry) where
  memory_told : (s : Storage) (place : ℕ) (entry : Entry) → ¬ (¬ (Holds s script entries rule.Memory place entry)) → Holds s script entries rule.Memory place entry
  memory_told storage.Plain place entry twice = false_told (is_memory entry.reply) twice
  memory_told storage.Tables place entry twice = earned_told (starts_of script.containers) (supply_of script) (writes (take place entries)) (entries_of entry.thread (take place entries)) entry.call entry.reply twice

  rule_told : (r : Rule) (place : ℕ) (entry : Entry) → ¬ (¬ (Holds store script entries r place entry)) → Holds store script entries r place entry
  rule_told rule.Whole place entry twice = record { index = nat_told _ _ (λ no. twice (λ x. no x.index)); call = next_told _ _ (λ no. twice (λ x. no x.call)) }
  rule_told rule.Stamp place entry twice = record { stamp = nat_told _ _ (λ no. twice (λ x. no x.stamp)); wrote = bool_told _ _ (λ no. twice (λ x. no x.wrote)) }
  rule_told rule.Order place entry twice = λ last before next at one other same. false_told _ (λ no. twice (λ x. no (x last before next at one other same)))
  rule_told rule.Reply place entry twice = replied_told entry.call entry.reply (answer (world_at script entries (length (writes (take place entries)))) (hands_at script entries entry.thread place) entry.call).reply twice
  rule_told rule.Await place entry twice = awaited_told entries place entry.call twice
  rule_told rule.Mark place entry twice = marked_told entry.waited entry.thread (λ thread. list_any (has_call_on script thread) (needs_at script entries place entry)) twice
  rule_told rule.Kept place entry twice = ends_told (sections_at entries entry.thread place) entry.call (λ section. IsKeptBy entries entry.thread place section entry.reply) (λ s. kept_told entries entry.thread place s entry.reply) twice
  rule_told rule.Suspended place entry twice = ends_told (sections_at entries entry.thread place) entry.call (λ section. IsCountedBy entries entry.thread place section entry.reply) (λ s. counted_told (marks_between entries entry.thread place s) entry.reply) twice
  rule_told rule.Memory place entry twice = memory_told store place entry twice
  rule_told rule.Missing place entry twice = tt
  rule_told rule.World place entry twice = tt

  end_rule_told : (r : Rule) → ¬ (¬ (HoldsAtEnd script entries r)) → HoldsAtEnd script entries r
  end_rule_told rule.Missing twice = λ thread. le_told _ _ (λ no. twice (λ x. no (x thread)))
  end_rule_told r twice = tt

  pub legal_told : ¬ (¬ (IsLegal store script entries)) → IsLegal store script entries
  legal_told twice =
      legal_of_unbroken store script entries (λ place r. record {
        entry = λ entry at. rule_told r place entry (λ no. twice (λ legal. no ((unbroken_of_legal store script entries legal place r).entry entry at)));
        after = λ last. end_rule_told r (λ no. twice (λ legal. no ((unbroken_of_legal store script entries legal place r).after last)));
      })
