-- The floor: one pass has all tokens, so no other may take a step, and the words are those that its log gives.
use Rattle.std.specs.Prelude.{◌≡◌, ◌≢◌, ℕ, ◌%◌, ◌<◌, ◌==◌, true, false, cond, List, [], ◌∷◌, slice_index}
use Rattle.ft_trace.specs.declared.Act.{Act}
use Rattle.ft_trace.specs.declared.Act.TheVariants.{TakeFloor, TookOver}
use Rattle.ft_trace.specs.declared.Shape.{Shape}
use Rattle.ft_trace.specs.declared.View.{View}
use Rattle.ft_trace.specs.Addresses.{lock_of, version_of, container_count, at}
use Rattle.ft_trace.specs.Acts.{place, Reports, has_lock, is_writing, floor_words}
use Rattle.ft_trace.specs.Entries.{total}
use Rattle.ft_trace.specs.TraceLaws.{HasView}
use Rattle.ft_trace.specs.Traces.{Event, run, Valid, IsQuiet, IsReachable}

-- there are as many tokens as passes
abbrev pub TokensAreAll : Type 0
TokensAreAll =
    (k : Shape) (es : List Event) → Valid k es → total (λ (u : View). u.tokens) (run k es).views ≡ k.passes

-- while one view has all tokens no other has one, so no other pass takes a step
abbrev pub AllTokensAreAlone : Type 0
AllTokensAreAlone =
    (k : Shape) (es : List Event) → Valid k es → (i j : ℕ) (u w : View) → HasView k es i u → HasView k es j w → i ≢ j
    → u.tokens ≡ k.passes → w.tokens ≡ 0

-- who has the floor has all tokens, and the words of the bank are those that its log gives
abbrev pub FloorStands : Type 0
FloorStands =
    (k : Shape) (es : List Event) → Valid k es → (j : ℕ) (u : View) → HasView k es j u
    → (u.has_floor ≡ true → (u.tokens ≡ k.passes) × (floor_words k u.number u.log ≡ (run k es).words))
    × (u.floor ≢ [] → (u.tokens ≡ k.passes) × (u.floor ≡ (run k es).words))

abbrev pub FoundNext : Shape → ℕ → Act → List Act → Type 0 → Type 0
FoundNext k number (TakeFloor f s) l before = Unit {0}
FoundNext k number (TookOver tables had found told) l before = before
FoundNext k number act l before = Reports act (slice_index (floor_words k number l) (at k (place act))) × before

-- since the pass took the floor each action has found what its word had, as the log before it gives the words
abbrev pub FoundAsKnown : Shape → ℕ → List Act → Type 0
FoundAsKnown k number [] = Unit {0}
FoundAsKnown k number (a ∷ l) = FoundNext k number a l (FoundAsKnown k number l)

-- so who has the floor knows each answer beforehand
abbrev pub FloorTells : Type 0
FloorTells =
    (k : Shape) (es : List Event) → Valid k es → (j : ℕ) (u : View) → HasView k es j u → u.has_floor ≡ true
    → FoundAsKnown k u.number u.log

-- the words of the bank when the pass last took the floor
abbrev pub at_floor_next : Act → List ℕ → List ℕ
at_floor_next (TakeFloor f s) ws = s.words
at_floor_next act ws = ws

abbrev pub at_floor : List Act → List ℕ
at_floor [] = []
at_floor (a ∷ l) = at_floor_next a (at_floor l)

-- the lock word n, where it names another pass than the one with this number, and else 0
abbrev pub lock_of_another : ℕ → ℕ → ℕ
lock_of_another number n = cond (n == number) 0 n

-- While the pass has the floor, whoever else has a lock has had it since the floor was taken, and no one else has let
-- go of one. So of each lock that it hasn't it knows whether another pass has it. What it has no one else had then.
abbrev pub KeepsOwners : Shape → View → Type 0
KeepsOwners k u =
    u.has_floor ≡ true → (o : ℕ) → o < container_count k
    → (has_lock o u.log ≡ false → slice_index (floor_words k u.number u.log) (at k (lock_of o))
    ≡ lock_of_another u.number (slice_index (at_floor u.log) (at k (lock_of o))))
    × (has_lock o u.log ≡ true → (slice_index (floor_words k u.number u.log) (at k (lock_of o)) ≡ u.number)
    × (lock_of_another u.number (slice_index (at_floor u.log) (at k (lock_of o))) ≡ 0))

abbrev pub OwnersStay : Type 0
OwnersStay = (k : Shape) (es : List Event) → Valid k es → (j : ℕ) (u : View) → HasView k es j u → KeepsOwners k u

-- the same of what a pass may know
abbrev pub KnownOwnersStay : Type 0
KnownOwnersStay = (v : View) → IsReachable v → KeepsOwners v.shape v

-- a pass with no token is quiet: it gave its last one away so, and takes no step without
abbrev pub RestingPassesAreQuiet : Type 0
RestingPassesAreQuiet =
    (k : Shape) (es : List Event) → Valid k es → (j : ℕ) (u : View) → HasView k es j u → u.tokens ≡ 0 → IsQuiet u

-- while the pass has the floor, each version is even but those that the pass itself has made odd
abbrev pub HasEvenVersions : Shape → View → Type 0
HasEvenVersions k u =
    u.has_floor ≡ true → (o : ℕ) → o < container_count k → is_writing o u.log ≡ false
    → slice_index (floor_words k u.number u.log) (at k (version_of o)) % 2 ≡ 0

abbrev pub FloorVersionsAreEven : Type 0
FloorVersionsAreEven =
    (k : Shape) (es : List Event) → Valid k es → (j : ℕ) (u : View) → HasView k es j u → HasEvenVersions k u

-- the same of what a pass may know
abbrev pub KnownVersionsAreEven : Type 0
KnownVersionsAreEven = (v : View) → IsReachable v → HasEvenVersions v.shape v
