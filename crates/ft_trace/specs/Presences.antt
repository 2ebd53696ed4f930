-- What the presence of a pass, which is computed along its log, says of the log: when the pass was online, and when it
-- made its entries (PEP 703, QSBR).
use Rattle.std.specs.Prelude.{All, ◌≡◌, ◌≢◌, ℕ, List, ◌∷◌, ◌++◌}
use Rattle.ft_trace.specs.declared.Act.{Act}
use Rattle.ft_trace.specs.declared.Act.TheVariants.{Announce, Commit, Answer, AnswerCursor}
use Rattle.ft_trace.specs.declared.Presence.TheVariants as presence
use Rattle.ft_trace.specs.Acts.{presence_of}

-- the action is no entry, and announces no number but 0: a pass may do it that stays offline
abbrev pub KeepsOffline : Act → Type 0
KeepsOffline (Announce p x) = x ≡ 0
KeepsOffline (Commit c r f s) = ⊥
KeepsOffline (Answer c r x) = ⊥
KeepsOffline (AnswerCursor c r x number had left) = ⊥
KeepsOffline act = Unit {0}

-- the action does not announce 0: a pass may do it that stays online
abbrev pub KeepsOnline : Act → Type 0
KeepsOnline (Announce p x) = x ≢ 0
KeepsOnline act = Unit {0}

-- The pass announced a number before its first entry, and has been online since. The log has the newest action first.
pub record HasComeOnline (log : List Act) : Type 0 where
  pub since : List Act
  pub pass : ℕ
  pub number : ℕ
  pub before : List Act
  pub is : log ≡ since ++ Announce pass number ∷ before
  pub comes : number ≢ 0
  pub online : All KeepsOnline since
  pub offline : All KeepsOffline before

-- The pass came online before its first entry, announced 0 after its last, and has been offline since.
pub record HasGoneOffline (log : List Act) : Type 0 where
  pub after : List Act
  pub pass : ℕ
  pub earlier : List Act
  pub is : log ≡ after ++ Announce pass 0 ∷ earlier
  pub came : HasComeOnline earlier
  pub offline : All KeepsOffline after

-- what each presence says of the log
abbrev pub PresencesTell : Type 0
PresencesTell =
    (log : List Act)
    → (presence_of log ≡ presence.Before → All KeepsOffline log)
    × (presence_of log ≡ presence.Online → HasComeOnline log)
    × (presence_of log ≡ presence.Over → HasGoneOffline log)

-- and that each such log has this presence
abbrev pub PresencesAreSo : Type 0
PresencesAreSo =
    (log : List Act)
    → (All KeepsOffline log → presence_of log ≡ presence.Before)
    × (HasComeOnline log → presence_of log ≡ presence.Online)
    × (HasGoneOffline log → presence_of log ≡ presence.Over)
