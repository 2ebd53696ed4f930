-- What an action is to one box.
use Rattle.std.proofs.Common.{◌≡◌, ◌≢◌, ℕ, ◌+◌, ◌-◌, ◌/◌, ◌%◌, ◌^◌, eqb, cond, List, ◌∷◌, refl, sym, ap, ◌∙◌, subst, arith}
use mathlib.Core.Logic.{dite}
use native.Mathlib.Decide.{ℕ_discrete}
use Rattle.ft_trace.specs.declared.Shape.{Shape}
use Rattle.ft_trace.specs.declared.View.{View}
use Rattle.ft_trace.specs.declared.Act.{Act}
use Rattle.ft_trace.specs.declared.Act.TheVariants.{PutRoot, PutTable, TookOver, ReadFreePlaces, TakePlace, PutBox, PublishBox, ReadBox, RaiseLocal, DropLocal, ClearLocal, MergeCounts, RaiseShared, RaiseKept, DropShared, GivePlace}
use Rattle.ft_trace.specs.Bits.{bit}
use Rattle.ft_trace.specs.Addresses.{Word, heap_bits, box_word, maker_of, place_word_of, place_bit_of, IsBoxName}
use Rattle.ft_trace.specs.Acts.{place, word_after}
use Rattle.ft_trace.specs.Boxes.{made_state_next, local_count_next, taken_out_next, place_to_give_next, references_held_next}
use Rattle.ft_trace.specs.BoxTraces.{box_state_next, shared_count_next, place_bit}
use Rattle.ft_trace.specs.Traces.{Event, did, run, word, history, May}
use Rattle.ft_trace.proofs.Addresses.{place_bit_low, same_place}
use Rattle.ft_trace.proofs.Bits.{off_else, on_else}
use Rattle.ft_trace.proofs.Cases.{miss, same_or}
use Rattle.ft_trace.proofs.OneWord.{stays, moves, loaded}
use Rattle.ft_trace.proofs.NamedBoxes.{IsPut}

-- the action is nothing to the box b
pub record CalmBox (k : Shape) (es : List Event) (id : ℕ) (v : View) (b : ℕ) (a : Act) : Type 0 where
  pub own_is : (n : ℕ) → made_state_next b a n ≡ n
  pub local_is : (n : ℕ) → local_count_next b a n ≡ n
  pub taken_is : (l n : ℕ) → taken_out_next b a l n ≡ n
  pub due_is : (n : ℕ) → place_to_give_next b a n ≡ n
  pub held_is : (before after : List ℕ) (n : ℕ) → references_held_next k b before after a n ≡ n
  pub phase_is : (n : ℕ) → box_state_next b a n ≡ n
  pub shared_is : (n : ℕ) → shared_count_next b a n ≡ n
  pub no_put : IsPut a → ⊥
  pub word_is : IsBoxName k b → word k (did id v a ∷ es) (box_word b 0) ≡ word k es (box_word b 0)
  pub local_word : IsBoxName k b → word k (did id v a ∷ es) (box_word b 3) ≡ word k es (box_word b 3)
  pub bit_is : IsBoxName k b → place_bit k b (did id v a ∷ es) ≡ place_bit k b es

module _ (k : Shape) (es : List Event) (id : ℕ) (v : View) (b : ℕ) where
  word_stays : (a : Act) → May k (run k es) (history es) v a → place a ≢ box_word b 0 → IsBoxName k b → word k (did id v a ∷ es) (box_word b 0) ≡ word k es (box_word b 0)
  word_stays a may ne is = stays k es id v a may (box_word b 0) (is, omega arith) ne

  local_stays : (a : Act) → May k (run k es) (history es) v a → place a ≢ box_word b 3 → IsBoxName k b → word k (did id v a ∷ es) (box_word b 3) ≡ word k es (box_word b 3)
  local_stays a may ne is = stays k es id v a may (box_word b 3) (is, omega arith) ne

  bit_stays : (a : Act) → May k (run k es) (history es) v a → place a ≢ heap_bits (maker_of b) (place_word_of b) → IsBoxName k b → place_bit k b (did id v a ∷ es) ≡ place_bit k b es
  bit_stays a may ne is = ap (bit (place_bit_of b)) (stays k es id v a may (heap_bits (maker_of b) (place_word_of b)) (is.0, is.2) ne)

  -- another place's bit
  other_place : (c : ℕ) → c ≢ b → (a : Act) → place a ≡ heap_bits (maker_of c) (place_word_of c) → May k (run k es) (history es) v a → ((n : ℕ) → place_bit_of c ≢ place_bit_of b → bit (place_bit_of b) (word_after v.number a n) ≡ bit (place_bit_of b) n) → IsBoxName k b → place_bit k b (did id v a ∷ es) ≡ place_bit k b es
  other_place c ne a at_place may does is =
      dite (ℕ_discrete (maker_of c) (maker_of b))
      (λ (m : maker_of c ≡ maker_of b).
      dite (ℕ_discrete (place_word_of c) (place_word_of b))
      (λ (w : place_word_of c ≡ place_word_of b).
      let x : heap_bits (maker_of c) (place_word_of c) ≡ heap_bits (maker_of b) (place_word_of b) = λ d. heap_bits (m d) (w d) in
      let p : place a ≡ heap_bits (maker_of b) (place_word_of b) = at_place ∙ x in
      let now : word k (did id v a ∷ es) (heap_bits (maker_of b) (place_word_of b)) ≡ word_after v.number a (word k es (heap_bits (maker_of b) (place_word_of b))) = subst (λ (y : Word). word k (did id v a ∷ es) y ≡ word_after v.number a (word k es y)) p (moves k es id v a may) in
      ap (bit (place_bit_of b)) now ∙ does (word k es (heap_bits (maker_of b) (place_word_of b))) (λ z. ne (same_place c b m w z)))
      (λ far. bit_stays a may (λ e. far (let z : heap_bits (maker_of c) (place_word_of c) ≡ heap_bits (maker_of b) (place_word_of b) = sym at_place ∙ e in cc)) is))
      (λ far. bit_stays a may (λ e. far (let z : heap_bits (maker_of c) (place_word_of c) ≡ heap_bits (maker_of b) (place_word_of b) = sym at_place ∙ e in cc)) is)

  module _ (F : Act → Type 0) (take : (f : ℕ) → F (TakePlace b f)) (fill : (i x : ℕ) → F (PutBox b i x)) (open_ : F (PublishBox b)) (up_local : (x : ℕ) → F (RaiseLocal b x)) (down_local : (x : ℕ) → F (DropLocal b x)) (empty : F (ClearLocal b)) (merge : (d f : ℕ) → F (MergeCounts b d f)) (raise : (old f : ℕ) → F (RaiseShared b old f)) (keep : (f : ℕ) → F (RaiseKept b f)) (drop : (f : ℕ) → F (DropShared b f)) (give : F (GivePlace b)) (put : (a : Act) → IsPut a → F a) (other : (a : Act) → (May k (run k es) (history es) v a → CalmBox k es id v b a) → F a) where
    pub on_box : (a : Act) → F a
    on_box (TakePlace c f) = same_or (λ (z : ℕ). F (TakePlace z f)) c b (take f) (λ ne. other (TakePlace c f) (λ may. record {
      own_is = λ n. miss c b (cond (eqb (bit (place_bit_of c) f) 1) 1 n) n ne;
      local_is = λ n. miss c b (cond (eqb (bit (place_bit_of c) f) 1) (2 ^ 64) n) n ne;
      taken_is = λ l n. refl;
      due_is = λ n. refl;
      held_is = λ x y n. refl;
      phase_is = λ n. miss c b (cond (eqb (bit (place_bit_of c) f) 1) 1 n) n ne;
      shared_is = λ n. refl;
      no_put = λ e. e;
      word_is = word_stays (TakePlace c f) may (λ e. absurd (cc));
      local_word = local_stays (TakePlace c f) may (λ e. absurd (cc));
      bit_is = other_place c ne (TakePlace c f) refl may (λ n apart. off_else (place_bit_of c) (place_bit_of b) n (place_bit_low c) (place_bit_low b) apart);
    }))
    on_box (GivePlace c) = same_or (λ (z : ℕ). F (GivePlace z)) c b give (λ ne. other (GivePlace c) (λ may. record {
      own_is = λ n. refl;
      local_is = λ n. refl;
      taken_is = λ l n. refl;
      due_is = λ n. miss c b 0 n ne;
      held_is = λ x y n. refl;
      phase_is = λ n. miss c b 0 n ne;
      shared_is = λ n. refl;
      no_put = λ e. e;
      word_is = word_stays (GivePlace c) may (λ e. absurd (cc));
      local_word = local_stays (GivePlace c) may (λ e. absurd (cc));
      bit_is = other_place c ne (GivePlace c) refl may (λ n apart. on_else (place_bit_of c) (place_bit_of b) n (place_bit_low c) apart);
    }))
    on_box (PutBox c i x) = same_or (λ (z : ℕ). F (PutBox z i x)) c b (fill i x) (λ ne. other (PutBox c i x) (λ may. record {
      own_is = λ n. refl;
      local_is = λ n. miss c b (cond (eqb i 3) x n) n ne;
      taken_is = λ l n. refl;
      due_is = λ n. refl;
      held_is = λ x y n. refl;
      phase_is = λ n. refl;
      shared_is = λ n. refl;
      no_put = λ e. e;
      word_is = word_stays (PutBox c i x) may (λ (e : box_word c i ≡ box_word b 0). ne (cc));
      local_word = local_stays (PutBox c i x) may (λ (e : box_word c i ≡ box_word b 3). ne (cc));
      bit_is = bit_stays (PutBox c i x) may (λ e. absurd (cc));
    }))
    on_box (PublishBox c) = same_or (λ (z : ℕ). F (PublishBox z)) c b open_ (λ ne. other (PublishBox c) (λ may. record {
      own_is = λ n. miss c b 2 n ne;
      local_is = λ n. refl;
      taken_is = λ l n. miss c b 0 n ne;
      due_is = λ n. refl;
      held_is = λ x y n. miss c b (n + 1) n ne;
      phase_is = λ n. miss c b 2 n ne;
      shared_is = λ n. miss c b (2 ^ 61) n ne;
      no_put = λ e. e;
      word_is = word_stays (PublishBox c) may (λ (e : box_word c 0 ≡ box_word b 0). ne (cc));
      local_word = local_stays (PublishBox c) may (λ (e : box_word c 0 ≡ box_word b 3). ne (cc));
      bit_is = bit_stays (PublishBox c) may (λ e. absurd (cc));
    }))
    on_box (RaiseLocal c x) = same_or (λ (z : ℕ). F (RaiseLocal z x)) c b (up_local x) (λ ne. other (RaiseLocal c x) (λ may. record {
      own_is = λ n. refl;
      local_is = λ n. miss c b x n ne;
      taken_is = λ l n. refl;
      due_is = λ n. refl;
      held_is = λ x y n. miss c b (n + 1) n ne;
      phase_is = λ n. refl;
      shared_is = λ n. refl;
      no_put = λ e. e;
      word_is = word_stays (RaiseLocal c x) may (λ (e : box_word c 3 ≡ box_word b 0). ne (cc));
      local_word = local_stays (RaiseLocal c x) may (λ (e : box_word c 3 ≡ box_word b 3). ne (cc));
      bit_is = bit_stays (RaiseLocal c x) may (λ e. absurd (cc));
    }))
    on_box (DropLocal c x) = same_or (λ (z : ℕ). F (DropLocal z x)) c b (down_local x) (λ ne. other (DropLocal c x) (λ may. record {
      own_is = λ n. refl;
      local_is = λ n. miss c b x n ne;
      taken_is = λ l n. refl;
      due_is = λ n. refl;
      held_is = λ x y n. miss c b (n - 1) n ne;
      phase_is = λ n. refl;
      shared_is = λ n. refl;
      no_put = λ e. e;
      word_is = word_stays (DropLocal c x) may (λ (e : box_word c 3 ≡ box_word b 0). ne (cc));
      local_word = local_stays (DropLocal c x) may (λ (e : box_word c 3 ≡ box_word b 3). ne (cc));
      bit_is = bit_stays (DropLocal c x) may (λ e. absurd (cc));
    }))
    on_box (ClearLocal c) = same_or (λ (z : ℕ). F (ClearLocal z)) c b empty (λ ne. other (ClearLocal c) (λ may. record {
      own_is = λ n. refl;
      local_is = λ n. miss c b 0 n ne;
      taken_is = λ l n. miss c b l n ne;
      due_is = λ n. refl;
      held_is = λ x y n. refl;
      phase_is = λ n. refl;
      shared_is = λ n. refl;
      no_put = λ e. e;
      word_is = word_stays (ClearLocal c) may (λ (e : box_word c 3 ≡ box_word b 0). ne (cc));
      local_word = local_stays (ClearLocal c) may (λ (e : box_word c 3 ≡ box_word b 3). ne (cc));
      bit_is = bit_stays (ClearLocal c) may (λ e. absurd (cc));
    }))
    on_box (MergeCounts c d f) = same_or (λ (z : ℕ). F (MergeCounts z d f)) c b (merge d f) (λ ne. other (MergeCounts c d f) (λ may. record {
      own_is = λ n. miss c b 3 n ne;
      local_is = λ n. refl;
      taken_is = λ l n. miss c b 0 n ne;
      due_is = λ n. miss c b (cond (eqb ((f + d) % 2 ^ 64) 3) 1 n) n ne;
      held_is = λ x y n. refl;
      phase_is = λ n. miss c b 3 n ne;
      shared_is = λ n. miss c b (n + d / 4) n ne;
      no_put = λ e. e;
      word_is = word_stays (MergeCounts c d f) may (λ (e : box_word c 0 ≡ box_word b 0). ne (cc));
      local_word = local_stays (MergeCounts c d f) may (λ (e : box_word c 0 ≡ box_word b 3). ne (cc));
      bit_is = bit_stays (MergeCounts c d f) may (λ e. absurd (cc));
    }))
    on_box (RaiseShared c old f) = same_or (λ (z : ℕ). F (RaiseShared z old f)) c b (raise old f) (λ ne. other (RaiseShared c old f) (λ may. record {
      own_is = λ n. refl;
      local_is = λ n. refl;
      taken_is = λ l n. refl;
      due_is = λ n. refl;
      held_is = λ x y n. miss c b (cond (eqb f old) (n + 1) n) n ne;
      phase_is = λ n. refl;
      shared_is = λ n. miss c b (cond (eqb f old) (n + 1) n) n ne;
      no_put = λ e. e;
      word_is = word_stays (RaiseShared c old f) may (λ (e : box_word c 0 ≡ box_word b 0). ne (cc));
      local_word = local_stays (RaiseShared c old f) may (λ (e : box_word c 0 ≡ box_word b 3). ne (cc));
      bit_is = bit_stays (RaiseShared c old f) may (λ e. absurd (cc));
    }))
    on_box (RaiseKept c f) = same_or (λ (z : ℕ). F (RaiseKept z f)) c b (keep f) (λ ne. other (RaiseKept c f) (λ may. record {
      own_is = λ n. refl;
      local_is = λ n. refl;
      taken_is = λ l n. refl;
      due_is = λ n. refl;
      held_is = λ x y n. miss c b (n + 1) n ne;
      phase_is = λ n. refl;
      shared_is = λ n. miss c b (n + 1) n ne;
      no_put = λ e. e;
      word_is = word_stays (RaiseKept c f) may (λ (e : box_word c 0 ≡ box_word b 0). ne (cc));
      local_word = local_stays (RaiseKept c f) may (λ (e : box_word c 0 ≡ box_word b 3). ne (cc));
      bit_is = bit_stays (RaiseKept c f) may (λ e. absurd (cc));
    }))
    on_box (DropShared c f) = same_or (λ (z : ℕ). F (DropShared z f)) c b (drop f) (λ ne. other (DropShared c f) (λ may. record {
      own_is = λ n. refl;
      local_is = λ n. refl;
      taken_is = λ l n. refl;
      due_is = λ n. miss c b (cond (eqb ((f + (2 ^ 64 - 4)) % 2 ^ 64) 3) 1 n) n ne;
      held_is = λ x y n. miss c b (n - 1) n ne;
      phase_is = λ n. refl;
      shared_is = λ n. miss c b (n - 1) n ne;
      no_put = λ e. e;
      word_is = word_stays (DropShared c f) may (λ (e : box_word c 0 ≡ box_word b 0). ne (cc));
      local_word = local_stays (DropShared c f) may (λ (e : box_word c 0 ≡ box_word b 3). ne (cc));
      bit_is = bit_stays (DropShared c f) may (λ e. absurd (cc));
    }))
    on_box (PutTable o t i x) = put (PutTable o t i x) tt
    on_box (PutRoot o r old) = put (PutRoot o r old) tt
    on_box (TookOver tables had found told) = other (TookOver tables had found told) (λ may. absurd may)
    on_box (ReadBox c i f) = other (ReadBox c i f) (λ may. record {
      own_is = λ n. refl;
      local_is = λ n. refl;
      taken_is = λ l n. refl;
      due_is = λ n. refl;
      held_is = λ x y n. refl;
      phase_is = λ n. refl;
      shared_is = λ n. refl;
      no_put = λ e. e;
      word_is = λ is. loaded k es id v (ReadBox c i f) (λ n. refl) (box_word b 0);
      local_word = λ is. loaded k es id v (ReadBox c i f) (λ n. refl) (box_word b 3);
      bit_is = bit_stays (ReadBox c i f) may (λ e. absurd (cc));
    })
    on_box (ReadFreePlaces q w f) = other (ReadFreePlaces q w f) (λ may. record {
      own_is = λ n. refl;
      local_is = λ n. refl;
      taken_is = λ l n. refl;
      due_is = λ n. refl;
      held_is = λ x y n. refl;
      phase_is = λ n. refl;
      shared_is = λ n. refl;
      no_put = λ e. e;
      word_is = word_stays (ReadFreePlaces q w f) may (λ e. absurd (cc));
      local_word = local_stays (ReadFreePlaces q w f) may (λ e. absurd (cc));
      bit_is = λ is. ap (bit (place_bit_of b)) (loaded k es id v (ReadFreePlaces q w f) (λ n. refl) (heap_bits (maker_of b) (place_word_of b)));
    })
    on_box act = other act (λ may. record {
      own_is = λ n. refl;
      local_is = λ n. refl;
      taken_is = λ l n. refl;
      due_is = λ n. refl;
      held_is = λ x y n. refl;
      phase_is = λ n. refl;
      shared_is = λ n. refl;
      no_put = λ e. e;
      word_is = word_stays act may (λ e. absurd (cc));
      local_word = local_stays act may (λ e. absurd (cc));
      bit_is = bit_stays act may (λ e. absurd (cc));
    })
