-- Making and dropping a box is possible in each step.
use Rattle.std.proofs.Common.{◌≡◌, ◌+◌, ◌%◌, ◌^◌, eqb, cond, refl, ◌∙◌, arith}
use Rattle.ft_trace.specs.declared.Act.TheVariants.{TakePlace, PutBox, PublishBox, DropLocal, MergeCounts, GivePlace}
use Rattle.ft_trace.specs.Bits.{bit}
use Rattle.ft_trace.specs.Addresses.{heap_bits, box_word, maker_of, place_word_of, place_bit_of}
use Rattle.ft_trace.specs.Acts.{view_after}
use Rattle.ft_trace.specs.Boxes.{made_state, local_count, taken_out, place_to_give, references_held}
use Rattle.ft_trace.specs.BoxGrants.{BoxesMayBeMade}
use Rattle.ft_trace.proofs.BoxFilling.{has_put}
use Rattle.ft_trace.proofs.Cases.{hit, here}
use Rattle.ft_trace.proofs.NextActions.{next_possible}

pub boxes_may_be_made : BoxesMayBeMade
boxes_may_be_made v b x y live p is mine not1 not2 none idle value =
    let k = v.shape in
    let t = next_possible v live p (λ n. TakePlace b n) (heap_bits (maker_of b) (place_word_of b)) (λ _. refl) (λ _. refl) (λ es id knows. (is, mine, not1, not2, idle)) in
    let f = t.0 in
    let v1 = view_after (TakePlace b f) v in (
      f,
      t.1,
      (λ (one : bit (place_bit_of b) f ≡ 1).
          let o1 : made_state b v1.log ≡ 1 = hit b (cond (eqb (bit (place_bit_of b) f) 1) 1 (made_state b v.log)) (made_state b v.log) ∙ here (bit (place_bit_of b) f) 1 1 (made_state b v.log) one in
          let p2 = next_possible v1 live t.1 (λ _. PutBox b 1 x) (box_word b 1) (λ _. refl) (λ _. tt) (λ es id knows. (is, omega arith, o1, λ z. omega (arith, z))) in
          let v2 = view_after (PutBox b 1 x) v1 in
          let p3 = next_possible v2 live p2.1 (λ _. PutBox b 2 y) (box_word b 2) (λ _. refl) (λ _. tt) (λ es id knows. (is, omega arith, o1, λ z. omega (arith, z))) in
          let v3 = view_after (PutBox b 2 y) v2 in
          let p4 = next_possible v3 live p3.1 (λ _. PutBox b 3 1) (box_word b 3) (λ _. refl) (λ _. tt) (λ es id knows. (is, omega arith, o1, λ z. omega (arith, z))) in
          let v4 = view_after (PutBox b 3 1) v3 in
          let l4 : local_count b v4.log ≡ 1 = hit b 1 (local_count b v3.log) in
          let p5 = next_possible v4 live p4.1 (λ _. PublishBox b) (box_word b 0) (λ _. refl) (λ _. tt) (λ es id knows. (is, o1, l4, omega (arith, none), has_put k b x y 1 v1.log o1 value)) in
          let v5 = view_after (PublishBox b) v4 in
          let o5 : made_state b v5.log ≡ 2 = hit b 2 (made_state b v4.log) in
          let h5 : references_held k b v5.log ≡ references_held k b v.log + 1 = hit b (references_held k b v.log + 1) (references_held k b v.log) in
          let t5 : taken_out b v5.log ≡ 0 = hit b 0 (taken_out b v4.log) in
          let p6 = next_possible v5 live p5.1 (λ _. DropLocal b 0) (box_word b 3) (λ _. refl) (λ _. tt) (λ es id knows. (is, o5, omega (arith, l4), omega (arith, h5))) in
          let v6 = view_after (DropLocal b 0) v5 in
          let l6 : local_count b v6.log ≡ 0 = hit b 0 (local_count b v5.log) in
          let p7 = next_possible v6 live p6.1 (λ n. MergeCounts b 3 n) (box_word b 0) (λ _. refl) (λ _. refl) (λ es id knows. (is, o5, l6, omega (arith, t5))) in
          let g = p7.0 in
          let v7 = view_after (MergeCounts b 3 g) v6 in (
            p5.1,
            (
              g,
              p7.1,
              (λ (three : (g + 3) % 2 ^ 64 ≡ 3).
                  let d7 : place_to_give b v7.log ≡ 1 = hit b (cond (eqb ((g + 3) % 2 ^ 64) 3) 1 (place_to_give b v6.log)) (place_to_give b v6.log) ∙ here ((g + 3) % 2 ^ 64) 3 1 (place_to_give b v6.log) three in
                  (next_possible v7 live p7.1 (λ _. GivePlace b) (heap_bits (maker_of b) (place_word_of b)) (λ _. refl) (λ _. tt) (λ es id knows. (is, d7))).1),
            ),
          )),
    )
