-- A call changes one container and its table at most.
use Rattle.std.proofs.Common.{◌≡◌, ◌≢◌, ℕ, zero, suc, ◌<◌, List, [], ◌∷◌, length, Option, Some, refl, sym, ap, ◌∙◌, arith}
use Rattle.std.proofs.lemmas.List.{length-map}
use Rattle.std.specs.Prelude.{slice_get, slice_index_or}
use Rattle.std.specs.Option.{unwrap_or}
use Rattle.ft_model.specs.declared.call.Call.{Call}
use Rattle.ft_model.specs.declared.content.Content.TheVariants as content
use Rattle.ft_model.specs.declared.script.Start.{Start}
use Rattle.ft_model.specs.TablesInOrder.{changed_by}
use Rattle.ft_model.specs.Worlds.{empty_content, no_hands}
use Rattle.ft_model.specs.TableUses.{StoredWorld, no_table, stored_newest, after_stored}
use Rattle.ft_model.proofs.Untouched.{other_contents, other_tables, as_many_contents}
use Rattle.ft_trace.specs.ContainerStates.{container_after, state_at, changes}

-- what is at a place, if anything is
at_or : {A : Type 0} (l : List A) (i : ℕ) (d : A) → slice_index_or l i d ≡ unwrap_or (slice_get l i) d
at_or [] i d = refl
at_or (x ∷ xs) zero d = refl
at_or (x ∷ xs) (suc i) d = at_or xs i d

same_at : {A : Type 0} (a b : List A) (i : ℕ) (d : A) → slice_get a i ≡ slice_get b i → slice_index_or a i d ≡ slice_index_or b i d
same_at a b i d e = at_or a i d ∙ (ap (λ z. unwrap_or z d) e ∙ sym (at_or b i d))

-- what a write leaves of each container that it doesn't change
pub untouched_in : (s : StoredWorld) (c : Call) (o : ℕ) → changes c ≢ o → state_at (after_stored s c) o ≡ state_at s o
untouched_in s c o ne =
    let other : changed_by c ≢ Some o = λ e. ne (ap (λ (z : Option ℕ). unwrap_or z 0) e) in
    let world = same_at _ _ o (content.List []) (other_contents s.world no_hands c o other) in
    let table = same_at _ _ o no_table (other_tables s c o other) in
    λ i. record { content = world i; table = table i }

pub untouched : (starts : List Start) (c : Call) (cs : List Call) (o : ℕ) → changes c ≢ o → container_after starts (c ∷ cs) o ≡ container_after starts cs o
untouched starts c cs o ne = untouched_in (stored_newest starts cs) c o ne

-- there is a content for each container
pub as_many : (starts : List Start) (cs : List Call) → length (stored_newest starts cs).world ≡ length starts
as_many starts [] = length-map starts (λ (start : Start). empty_content start.kind)
as_many starts (c ∷ cs) = as_many_contents (stored_newest starts cs).world no_hands c ∙ as_many starts cs

pub there_is : {A : Type 0} (l : List A) (i : ℕ) (d : A) → i < length l → slice_get l i ≡ Some (slice_index_or l i d)
there_is [] i d low = absurd (omega arith)
there_is (x ∷ xs) zero d low = refl
there_is (x ∷ xs) (suc i) d low = there_is xs i d (omega arith)
