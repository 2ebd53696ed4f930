-- One word after an action.
use Rattle.std.proofs.Common.{◌≡◌, ◌≢◌, ℕ, ◌<◌, List, [], ◌∷◌, length, get_or, set, sym, ap, ◌∙◌, subst, length-set, get_or-set_other, get_or-set_same}
use lib.Seq.{set-get_or}
use Rattle.ft_trace.specs.declared.Shape.{Shape}
use Rattle.ft_trace.specs.declared.View.{View}
use Rattle.ft_trace.specs.declared.Act.{Act}
use Rattle.ft_trace.specs.Addresses.{Word, Inside, at, extent}
use Rattle.ft_trace.specs.Acts.{place, word_after}
use Rattle.ft_trace.specs.Traces.{Event, did, forked, joined, sent, run, word, history, May}
use Rattle.ft_trace.proofs.Addresses.{at_apart, at_low, opening_long}
use Rattle.ft_trace.proofs.Cases.{inside}

pub wide : (k : Shape) (es : List Event) → length (run k es).words ≡ extent k
wide k [] = opening_long k
wide k (did id v a ∷ es) = length-set (run k es).words (at k (place a)) (word_after v.number a (word k es (place a))) ∙ wide k es
wide k (forked id v ∷ es) = wide k es
wide k (sent id v given ∷ es) = wide k es
wide k (joined id v other w ∷ es) = wide k es

module _ (k : Shape) (es : List Event) (id : ℕ) (v : View) (a : Act) (may : May k (run k es) (history es) v a) where
  -- a word that the action isn't on
  pub stays : (x : Word) → Inside k x → place a ≢ x → word k (did id v a ∷ es) x ≡ word k es x
  stays x in_it ne = get_or-set_other (run k es).words (at k (place a)) (at k x) (word_after v.number a (word k es (place a))) 0 (λ e. ne (at_apart k (place a) x (inside k (run k es) (history es) v a may) in_it (sym e)))

  -- the word that it is on
  pub moves : word k (did id v a ∷ es) (place a) ≡ word_after v.number a (word k es (place a))
  moves = get_or-set_same (run k es).words (at k (place a)) (word_after v.number a (word k es (place a))) 0 (subst (λ (n : ℕ). at k (place a) < n) (sym (wide k es)) (at_low k (place a) (inside k (run k es) (history es) v a may)))

-- a load
pub loaded : (k : Shape) (es : List Event) (id : ℕ) (v : View) (a : Act) → ((n : ℕ) → word_after v.number a n ≡ n) → (x : Word) → word k (did id v a ∷ es) x ≡ word k es x
loaded k es id v a loads x = ap (λ (z : ℕ). get_or (set (run k es).words (at k (place a)) z) (at k x) 0) (loads (word k es (place a))) ∙ ap (λ (l : List ℕ). get_or l (at k x) 0) (set-get_or (run k es).words (at k (place a)) 0)
