-- Handles that own what they point to.
use Rattle.std.specs.Prelude.{◌≡◌, ◌≢◌, Some}
use Rattle.ft_facade.specs.Sessions.{IsSession}
use base.Fml.{Fml}
use denote.Ref.{MutBor}
use denote.Follow.{follows}
use Rattle.ft_c.specs.declared.held.Held.{Held}
use Rattle.ft_c.specs.declared.held.Held.TheVariants as held
use Rattle.ft_c.specs.declared.handle.FtHandle.{FtHandle}
use Rattle.ft_c.specs.declared.handle.FtHeld.{FtHeld}
use Rattle.ft_c.specs.contracts.held.Held.{the_row as held_row}
use Rattle.ft_c.specs.contracts.handle.FtHeld.{the_row as pointer_row}

-- the pointer is of something
abbrev pub IsOpen : FtHeld → Type 0
IsOpen h = (x : Held) × (h.value ≡ Some x)

-- h after what it has is w
abbrev pub with_held : FtHeld → Held → FtHeld
with_held h w = record h { value = Some w }

-- once the borrow r ends, the pointer behind h has the last value written through r
abbrev pub held_follows : MutBor FtHeld → MutBor Held → Fml
held_follows h r = follows pointer_row held_row h.ghost_name r.ghost_name (with_held h.now)

-- a session between two calls, or texts
abbrev pub IsKept : Held → Type 0
IsKept (held.Session session reply) = IsSession session
IsKept (held.Texts texts) = Unit {0}

-- the pointer is of a session between two calls, or of texts
abbrev pub IsFilled : FtHeld → Type 0
IsFilled h = (x : Held) × (h.value ≡ Some x) × IsKept x

-- where the handle is filled, it has something
abbrev pub IsHandle : FtHandle → Type 0
IsHandle h = h.filled ≢ 0 → IsFilled h.held
