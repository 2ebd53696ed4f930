-- What callers give back that go offline. (PEP 703, "Biased Reference Counting", "QSBR")
use Rattle.std.specs.Prelude.{ℕ}
use Rattle.ft_trace.specs.declared.Act.TheVariants.{Announce}
use Rattle.ft_trace.specs.declared.View.{View}
use Rattle.ft_trace.specs.Acts.{view_after}
use Rattle.ft_bank.specs.Whole.{OnlyBoxed}
use Rattle.ft_boxes.specs.Merging.{MergesAll}
use Rattle.ft_qsbr.specs.Collecting.{Collected}

-- The pass merged each box that it had in the default state. Then it announced that it is offline, and collected: it
-- found what each pass announces, and gave back just those of the tables that it kept retired whose goals all of them
-- are past, so that no pass online can still read them.
abbrev pub HasLeft : View → View → Type 0
HasLeft v w =
    (mid : View) × OnlyBoxed v mid × MergesAll v mid
    × ((freed : ℕ) × Collected (view_after (Announce mid.number 0) mid) w freed)
