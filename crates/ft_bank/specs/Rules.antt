-- The rule of the bank's words, and what each step says of the pass that made it.
use Rattle.std.specs.Prelude.{◌≡◌, ◌≢◌, ℕ, List, ◌∷◌}
use Rattle.atomic_table.specs.Table.{State, Me, Step}
use Rattle.ft_trace.specs.declared.Shape.{Shape}
use Rattle.ft_trace.specs.declared.View.{View}
use Rattle.ft_trace.specs.declared.Act.{Act}
use Rattle.ft_trace.specs.declared.Snap.{Snap}
use Rattle.ft_trace.specs.Acts.{view_after, left_next}
use Rattle.ft_trace.specs.Traces.{Event, did, Valid, Traced}

-- there is a valid trace that gives the words and what each pass knows
abbrev pub HasTrace : {S : Type 0} → Shape → State S View → Type 0
HasTrace k s = Traced k s.words s.views

-- there is a valid trace whose last event is that a pass with this view does this
abbrev pub Acted : View → Act → Type 0
Acted v a = (es : List Event) × (id : ℕ) × Valid v.shape (did id v a ∷ es)

-- the pass has noted the action that the number found makes it
abbrev pub Notes : {S : Type 0} → (ℕ → Act) → Me S View → ℕ → Me S View → Type 0
Notes act m n w = (w.0 ≡ view_after (act n) m.0) × (w.1 ≡ m.1) × Acted m.0 (act n)

abbrev pub Plays : {S : Type 0} → (ℕ → Act) → Step S → Me S View → ℕ → Me S View → Type 0
Plays act st m n w = Notes act m n w

-- the same, where the action also keeps what stood in the bank
abbrev pub Grabs : {S : Type 0} → (ℕ → Snap → Act) → Step S → Me S View → ℕ → Me S View → Type 0
Grabs act st m n w = (s : Snap) × Notes (λ z. act z s) m n w

-- the same where another number than 0 was found; where 0 was, the pass has noted nothing
abbrev pub Looks : {S : Type 0} → (ℕ → Snap → Act) → Step S → Me S View → ℕ → Me S View → Type 0
Looks act st m n w = (n ≡ 0 → w ≡ m) × (n ≢ 0 → (s : Snap) × Notes (λ z. act z s) m n w)

-- the action is none that takes one of the calls that the pass may still make
abbrev pub LeavesWrites : View → (ℕ → Snap → Act) → Type 0
LeavesWrites v act = (n : ℕ) (s : Snap) → left_next (act n s) v.left ≡ v.left
