use Rattle.std.proofs.Common.{◌≡◌, ◌⊎◌, ◌↔◌, IsTrue, ◌∙◌, List, [], not, true, false, ℕ, sym, ap, subst, inl, inr}
use Rattle.std.specs.Prelude.{All}
use Rattle.std.proofs.lemmas.Bool.{false≢true, true≢false}
use Rattle.ft_model.specs.declared.call.Call.{Call}
use Rattle.ft_model.specs.declared.content.Content.{Content}
use Rattle.ft_model.specs.declared.entry.Entry.{Entry}
use Rattle.ft_model.specs.declared.reply.Raise.TheVariants as raise
use Rattle.ft_model.specs.declared.reply.Reply.{Reply}
use Rattle.ft_model.specs.declared.reply.Reply.TheVariants as reply
use Rattle.ft_model.specs.declared.script.Declaration.{Declaration}
use Rattle.ft_model.specs.declared.script.ScriptParts.{ScriptParts}
use Rattle.ft_model.specs.Calls.{can_add}
use Rattle.ft_model.specs.Worlds.{starts_of}
use Rattle.ft_model.specs.TableUses.{stored_after, supply_of, would_pass, IsEarnedReply}
use Rattle.ft_history.proofs.EnoughTables.{never_leaves}
use Rattle.ft_history.proofs.memory.is_earned.Goals.{then-can_add, else-can_add}
use Rattle.ft_history.proofs.memory.is_earned.Goals as goal

-- a call that can't add, or would pass the largest table, has no cause to lack a table of a class, where no dict is split
no_cause : (parts : ScriptParts) (calls : List Call) (mine : List Entry) (called : Call) (said : Reply) (class : ℕ) → All (λ (container : Declaration). container.start.keys ≡ []) parts.containers → said ≡ reply.Raised (raise.Memory class)
    → (can_add called ≡ false) ⊎ (would_pass (stored_after parts calls).world called ≡ true) → IsEarnedReply (starts_of parts.containers) (supply_of parts) calls mine called said → ⊥
no_cause parts calls mine called said class unsplit is (inl none) earned =
    let cause = subst (IsEarnedReply (starts_of parts.containers) (supply_of parts) calls mine called) is earned in
    elim cause.0 [
      | inl lacks ↦ false≢true (sym none ∙ lacks.adds)
      | inr leaves ↦ never_leaves parts.containers unsplit called leaves.leaves
    ]
no_cause parts calls mine called said class unsplit is (inr passes) earned =
    let cause = subst (IsEarnedReply (starts_of parts.containers) (supply_of parts) calls mine called) is earned in
    true≢false (sym passes ∙ cause.1)

pub returns-else-not-passes : goal.returns-else-not-passes
returns-else-not-passes c = λ calls mine same kept used.
    let called : Call = c.args.entry.now.call in
    let is : c.args.entry.now.reply ≡ reply.Raised (raise.Memory c.in-Raised-Memory.class) = c.in-Raised-Memory.is ∙ ap reply.Raised (rw c.in-Raised-Memory.is at c.in-Raised-Memory.field-0-is) in
    let why : (can_add called ≡ false) ⊎ (would_pass (stored_after c.args.parts.now calls).world called ≡ true) = elim c.if-not-passes.either [
      | inl both ↦ inr (ap (λ (world : List Content). would_pass world called) (sym same) ∙ sym c.would_pass-passes.ensures ∙ both.1)
      | inr none ↦ inl (sym c.can_add.ensures ∙ none)
    ] in
    let refused = no_cause c.args.parts.now calls mine called c.args.entry.now.reply c.in-Raised-Memory.class c.requires.unsplit is why in
    elim c.if-can_add.branch [
      | then-can_add w ↦ (
        λ yes. absurd (elim c.if-not-passes.either [
          | inl both ↦ false≢true (sym (w.t-11-is ∙ ap not both.1) ∙ yes)
          | inr none ↦ true≢false (sym w.if-can_add.true ∙ none)
        ]),
        λ earned. absurd (refused earned),
      )
      | else-can_add w ↦ (λ yes. absurd (false≢true (sym w.if-can_add.false ∙ sym w.t-11-is ∙ yes)), λ earned. absurd (refused earned))
    ]

pub returns-then-not-passes-2 : goal.returns-then-not-passes-2
returns-then-not-passes-2 c = λ calls mine same kept used.
    let parts = c.args.parts.now in
    let called : Call = c.args.entry.now.call in
    let is : c.args.entry.now.reply ≡ reply.Raised raise.Heap = c.in-Raised-Heap.is ∙ ap reply.Raised (rw c.in-Raised-Heap.is at c.in-Raised-Heap.field-0-is) in
    let stays : would_pass c.args.world.now called ≡ false = sym c.would_pass-passes.ensures ∙ c.if-not-passes-2.true in
    subst (λ (said : Reply). IsTrue c.is_heap_earned.result ↔ IsEarnedReply (starts_of parts.containers) (supply_of parts) calls mine called said) (sym is) (c.is_heap_earned.ensures calls mine same used stays)
