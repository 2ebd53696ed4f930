-- What a pass may do with a box, in each step: conditions that callers can meet.
use Rattle.std.specs.Prelude.{◌≡◌, ◌≢◌, ℕ, suc, false, ◌+◌, ◌%◌, ◌^◌}
use Rattle.ft_trace.specs.declared.View.{View}
use Rattle.ft_trace.specs.declared.Act.TheVariants.{TakePlace, PutBox, PublishBox, DropLocal, MergeCounts, GivePlace}
use Rattle.ft_trace.specs.Bits.{bit}
use Rattle.ft_trace.specs.Addresses.{IsBoxName, maker_of, place_bit_of}
use Rattle.ft_trace.specs.Acts.{is_writing, view_after}
use Rattle.ft_trace.specs.Boxes.{made_state, references_held, state_default, state_making}
use Rattle.ft_trace.specs.Traces.{IsReachable, IsAwake}
use Rattle.ft_layout.specs.Starts.{kind_word, local_word, payload_word}
use Rattle.ft_trace.specs.BoxWords.{dead_word, merged_bits, IsBoxedValue}

-- what a pass knows that took the place with this word of bits and made a box there
abbrev pub after_making : View → ℕ → ℕ → ℕ → ℕ → View
after_making v b f x y =
    view_after (PublishBox b)
    (view_after (PutBox b local_word 1)
    (view_after (PutBox b payload_word y) (view_after (PutBox b kind_word x) (view_after (TakePlace b f) v))))

-- and then dropped its one reference and merged the box
abbrev pub after_dropping : View → ℕ → ℕ → View
after_dropping v b f = view_after (MergeCounts b merged_bits f) (view_after (DropLocal b 0) v)

-- A pass that writes no container may make a box of a value at a place of its heap that is free, and drop it, whatever
-- other passes do; where nobody else has raised it meanwhile it gives the place back.
abbrev pub BoxesMayBeMade : Type 0
BoxesMayBeMade =
    (v : View) (b x y : ℕ) → IsAwake v → IsReachable v → IsBoxName v.shape b → v.number ≡ suc (maker_of b)
    → made_state b v.log ≢ state_making → made_state b v.log ≢ state_default → references_held v.shape b v.log ≡ 0
    → ((o : ℕ) → is_writing o v.log ≡ false) → IsBoxedValue x y
    → (f : ℕ) × IsReachable (view_after (TakePlace b f) v)
    × (bit (place_bit_of b) f ≡ 1
    → IsReachable (after_making v b f x y)
    × ((g : ℕ) × IsReachable (after_dropping (after_making v b f x y) b g)
    × ((g + merged_bits) % 2 ^ 64 ≡ dead_word
    → IsReachable (view_after (GivePlace b) (after_dropping (after_making v b f x y) b g)))))
