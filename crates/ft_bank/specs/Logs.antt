-- That a pass's log only grows, and that the pass stays online.
use Rattle.std.specs.Prelude.{◌≡◌, ◌⊎◌, List, [], ◌∷◌}
use Rattle.ft_trace.specs.declared.Act.{Act}
use Rattle.ft_trace.specs.declared.Presence.TheVariants as presence
use Rattle.ft_trace.specs.declared.View.{View}
use Rattle.ft_trace.specs.Acts.{presence_of}

-- the log, newest first, was this at some moment, or is it now
abbrev pub WasLog : List Act → List Act → Type 0
WasLog old [] = old ≡ []
WasLog old (a ∷ log) = (old ≡ a ∷ log) ⊎ WasLog old log

-- whatever the pass's log had been, it has been still: nothing of it was taken away or changed (profile)
abbrev pub HasGrown : View → View → Type 0
HasGrown v w = (old : List Act) → WasLog old v.log → WasLog old w.log

-- A pass that has been online since before its first entry has been so still: it went offline at no moment (PEP 703,
-- QSBR).
abbrev pub StaysOnline : View → View → Type 0
StaysOnline v w = presence_of v.log ≡ presence.Online → presence_of w.log ≡ presence.Online
