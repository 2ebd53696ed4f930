-- The place of a test's box, from the load that finds the whole heap free to the making of the box.
use Rattle.std.proofs.Common.{◌≡◌, ℕ, ◌-◌, ◌^◌, eqb, cond, List, [], ◌∷◌, refl, ap, ◌∙◌}
use Rattle.ft_trace.specs.declared.Act.{Act}
use Rattle.ft_trace.specs.declared.Act.TheVariants.{ReadFreePlaces, TakePlace}
use Rattle.ft_trace.specs.Addresses.{maker_of, place_in, place_word_of, place_bit_of}
use Rattle.ft_trace.specs.Bits.{bit}
use Rattle.ft_trace.specs.Boxes.{made_state, state_making}
use Rattle.ft_bank.specs.BoxSteps.{HasFoundFree}
use Rattle.ft_bank_tests.specs.OneBox.{one_box}

pub found_free : (f : ℕ) (log rest : List Act) → f ≡ 2 ^ 64 - 1 → log ≡ ReadFreePlaces 0 0 f ∷ rest → HasFoundFree one_box log
unfolding maker_of place_in place_word_of place_bit_of bit
found_free f log rest full is = record { newer = []; rest = rest; found = f; is = is; set = ap (bit (place_bit_of one_box)) full; none = tt }

pub making_now : (f : ℕ) (log rest : List Act) → bit (place_bit_of one_box) f ≡ 1 → log ≡ TakePlace one_box f ∷ rest → made_state one_box log ≡ state_making
making_now f log rest took is = ap (made_state one_box) is ∙ ap (λ (z : ℕ). cond (eqb z 1) state_making (made_state one_box rest)) took
