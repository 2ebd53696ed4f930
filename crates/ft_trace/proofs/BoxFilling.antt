-- What a pass knows of a box into which it has put a value.
use Rattle.std.proofs.Common.{◌≡◌, ◌≢◌, ℕ, eqb, true, cond, List, ◌∷◌, ◌∙◌, subst, sym, arith}
use Rattle.ft_trace.specs.declared.Act.{Act}
use Rattle.ft_trace.specs.declared.Act.TheVariants.{PutBox}
use Rattle.ft_trace.specs.declared.Shape.{Shape}
use Rattle.ft_trace.specs.Boxes.{made_state, times_kept, known_box_word, knows_box_word, HasPutValue}
use Rattle.ft_trace.specs.BoxWords.{IsBoxedValue}
use Rattle.ft_trace.proofs.BoxKnown.{sure_after, sure_stays}
use Rattle.ft_trace.proofs.Cases.{hit, here}

-- who makes a box keeps it
pub making_keeps : (k : Shape) (b : ℕ) (l : List Act) → made_state b l ≡ 1 → times_kept k b l ≢ 0
making_keeps k b l making none =
    let n : ℕ = cond (eqb (made_state b l) 1) 1 0 in
    let one : n ≡ 1 = here (made_state b l) 1 1 0 making in
    omega (arith, one, none)

module _ (k : Shape) (b x y count : ℕ) (l : List Act) (making : made_state b l ≡ 1) where
  abbrev kind_put : List Act
  kind_put = PutBox b 1 x ∷ l

  abbrev both_put : List Act
  both_put = PutBox b 2 y ∷ kind_put

  abbrev pub filled : List Act
  filled = PutBox b 3 count ∷ both_put

  knows_kind : knows_box_word k b 1 filled ≡ true
  knows_kind =
      let put = sure_after k b 1 (PutBox b 1 x) l (making_keeps k b kind_put making) (hit b true (knows_box_word k b 1 l)) in
      let next = sure_after k b 1 (PutBox b 2 y) kind_put (making_keeps k b both_put making) (sure_stays b 1 (PutBox b 2 y) (knows_box_word k b 1 kind_put) put) in
      sure_after k b 1 (PutBox b 3 count) both_put (making_keeps k b filled making) (sure_stays b 1 (PutBox b 3 count) (knows_box_word k b 1 both_put) next)

  knows_payload : knows_box_word k b 2 filled ≡ true
  knows_payload =
      let put = sure_after k b 2 (PutBox b 2 y) kind_put (making_keeps k b both_put making) (hit b true (knows_box_word k b 2 kind_put)) in
      sure_after k b 2 (PutBox b 3 count) both_put (making_keeps k b filled making) (sure_stays b 2 (PutBox b 3 count) (knows_box_word k b 2 both_put) put)

  pub kind_is : known_box_word k b 1 filled ≡ x
  kind_is =
      hit b (known_box_word k b 1 both_put) (known_box_word k b 1 both_put)
      ∙ (hit b (known_box_word k b 1 kind_put) (known_box_word k b 1 kind_put) ∙ hit b x (known_box_word k b 1 l))

  pub payload_is : known_box_word k b 2 filled ≡ y
  payload_is = hit b (known_box_word k b 2 both_put) (known_box_word k b 2 both_put) ∙ hit b y (known_box_word k b 2 kind_put)

  pub has_put : IsBoxedValue x y → HasPutValue k b filled
  has_put value = (
    knows_kind,
    knows_payload,
    subst (λ (p : ℕ). IsBoxedValue (known_box_word k b 1 filled) p) (sym payload_is) (subst (λ (p : ℕ). IsBoxedValue p y) (sym kind_is) value),
  )
