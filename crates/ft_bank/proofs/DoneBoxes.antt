-- A pass that is done with boxes stays so, in steps that have nothing to do with boxes, in puts after which a container
-- names as many as before, and in drops after which its own boxes are settled.
use Rattle.std.proofs.Common.{◌≡◌, ◌≢◌, ℕ, ◌<◌, eqb, cond, List, [], refl, sym, ap, ◌∙◌, subst, arith}
use mathlib.Core.Logic.{dite}
use native.Mathlib.Decide.{ℕ_discrete}
use Rattle.ft_model.specs.declared.script.Kind.{Kind}
use Rattle.ft_trace.specs.declared.Act.{Act}
use Rattle.ft_trace.specs.declared.Shape.{Shape}
use Rattle.ft_trace.specs.declared.View.{View}
use Rattle.ft_trace.specs.Boxes.{named_in_root, made_state, local_count, taken_out, place_to_give, references_held, HasMergedBoxes, IsDoneWithBoxes, IsSettled}
use Rattle.ft_trace.specs.ContainerStates.{kind_in}
use Rattle.ft_trace.specs.Holds.{held_words}
use Rattle.ft_trace.specs.Pictures.{ContainerWords, root_in}
use Rattle.ft_trace.proofs.Cases.{here, miss}
use Rattle.ft_bank.specs.SameBoxes.{named_in_words, times_raised, LosesReferences, MovesReferences, SameBoxes, SameMade, SameReferences, StaysSettled}

-- ---- before a pass has done anything

pub settled_at_first : IsSettled []
settled_at_first = record {
  unmade = λ b e. omega (arith, e);
  counted = λ b e. omega (arith, e);
  whole = λ b e. omega (arith, e);
  given = λ b. refl;
}

pub done_at_first : {k : Shape} → IsDoneWithBoxes k []
done_at_first = record { settled = settled_at_first; none = λ b. refl; stored = λ b e. omega (arith, e) }

pub merged_at_first : HasMergedBoxes []
merged_at_first = λ b e. omega (arith, e)

-- ---- a pass's own boxes

-- after a commit no box is taken that no write has stored
pub none_taken : (n : ℕ) → cond (eqb n 1) 2 n ≢ 1
none_taken n taken =
    dite (ℕ_discrete n 1)
    (λ (e : n ≡ 1). let two = here n 1 2 n e in omega (arith, taken, two))
    (λ ne. ne (sym (miss n 1 2 n ne) ∙ taken))

pub settled_same : (l m : List Act) → ((b : ℕ) → made_state b m ≡ made_state b l) → ((b : ℕ) → local_count b m ≡ local_count b l) → ((b : ℕ) → taken_out b m ≡ taken_out b l) → ((b : ℕ) → place_to_give b m ≡ place_to_give b l) → IsSettled l → IsSettled m
settled_same l m state local taken places s = record {
  unmade = λ b e. s.unmade b (sym (state b) ∙ e);
  counted = λ b e. subst (λ (n : ℕ). 0 < n) (sym (local b)) (s.counted b (sym (state b) ∙ e));
  whole = λ b e. taken b ∙ s.whole b (sym (state b) ∙ e);
  given = λ b. places b ∙ s.given b;
}

pub stays_settled_same : (v w : View) → SameMade v w → StaysSettled v w
stays_settled_same v w made = record {
  settled = settled_same v.log w.log made.state made.local made.taken made.places;
  places = λ b e. sym (made.uses b) ∙ e;
}

pub settled_then : (u v w : View) → StaysSettled u v → StaysSettled v w → StaysSettled u w
settled_then u v w a b = record { settled = λ s. b.settled (a.settled s); places = λ c e. a.places c (b.places c e) }

-- ---- a pass that is done with boxes

pub done_stays : (v w : View) → StaysSettled v w → ((b : ℕ) → references_held w.shape b w.log ≡ 0) → IsDoneWithBoxes v.shape v.log → IsDoneWithBoxes w.shape w.log
done_stays v w stays none done = record {
  settled = stays.settled done.settled;
  none = none;
  stored = λ b e. done.stored b (stays.places b e);
}

pub done_none : (v w : View) → ((b : ℕ) → references_held w.shape b w.log ≡ 0) → SameMade v w → IsDoneWithBoxes v.shape v.log → IsDoneWithBoxes w.shape w.log
done_none v w none made = done_stays v w (stays_settled_same v w made) none

pub done_as : (v w : View) → SameReferences v w → SameMade v w → IsDoneWithBoxes v.shape v.log → IsDoneWithBoxes w.shape w.log
done_as v w references made done = done_none v w (λ b. references b ∙ done.none b) made done

pub done_same : (v w : View) → SameBoxes v w → IsDoneWithBoxes v.shape v.log → IsDoneWithBoxes w.shape w.log
done_same v w same done = done_as v w same.references same.made done

-- ---- references

-- where the words of a container name as many values as before, the pass holds as many references
pub same_named : (o : ℕ) (v w : View) → MovesReferences o v w → ((b : ℕ) → named_in_words b (kind_in w.shape.starts o) (held_words o w) ≡ named_in_words b (kind_in v.shape.starts o) (held_words o v)) → SameReferences v w
same_named o v w moves same b = let m = moves b in let s = same b in omega (arith, m, s)

-- and no more where it may have dropped some, and raised the count of no box
pub fewer_named : (o : ℕ) (v w : View) → LosesReferences o v w → ((b : ℕ) → times_raised b w.log ≡ times_raised b v.log) → ((b : ℕ) → named_in_words b (kind_in w.shape.starts o) (held_words o w) ≡ named_in_words b (kind_in v.shape.starts o) (held_words o v)) → ((b : ℕ) → references_held v.shape b v.log ≡ 0) → (b : ℕ) → references_held w.shape b w.log ≡ 0
fewer_named o v w loses raised same none b = let m = loses b in let r = raised b in let s = same b in let n = none b in omega (arith, m, r, s, n)

-- no table names no box
pub none_named : (b : ℕ) (kind : Kind) (x : ContainerWords) → root_in x ≡ 0 → named_in_words b kind x ≡ 0
none_named b kind x none = ap (λ (r : ℕ). named_in_root b kind r x.table) none
