-- What the presence of a pass says of its log.
use Rattle.std.proofs.Common.{◌≡◌, ◌≢◌, ℕ, suc, zero, List, [], ◌∷◌, ◌++◌, refl, ap, ◌∙◌, subst, arith}
use Rattle.std.specs.Prelude.{All}
use Rattle.std.proofs.lemmas.List.Elements.{All-nil, All-cons, All-head, All-tail}
use Rattle.ft_trace.specs.declared.Act.{Act}
use Rattle.ft_trace.specs.declared.Act.TheVariants.{Announce, Commit, Answer, AnswerCursor}
use Rattle.ft_trace.specs.declared.Presence.{Presence}
use Rattle.ft_trace.specs.declared.Presence.TheVariants as presence
use Rattle.ft_trace.specs.Acts.{presence_of, presence_next}
use Rattle.ft_trace.specs.Presences.{KeepsOffline, KeepsOnline, HasComeOnline, HasGoneOffline, PresencesTell, PresencesAreSo}

-- what a presence says
abbrev Tells : List Act → Presence → Type 0
Tells log presence.Before = All KeepsOffline log
Tells log presence.Online = HasComeOnline log
Tells log presence.Over = HasGoneOffline log
Tells log presence.Broken = Unit {0}

comes_on : (p n : ℕ) (l : List Act) → All KeepsOffline l → HasComeOnline (Announce p (suc n) ∷ l)
comes_on p n l all = record { since = []; pass = p; number = suc n; before = l; is = refl; comes = λ z. absurd (omega (arith, z)); online = All-nil KeepsOnline; offline = all }

stays_on : (a : Act) (l : List Act) → KeepsOnline a → HasComeOnline l → HasComeOnline (a ∷ l)
stays_on a l one h = record {
  since = a ∷ h.since;
  pass = h.pass;
  number = h.number;
  before = h.before;
  is = ap (λ (z : List Act). a ∷ z) h.is;
  comes = h.comes;
  online = All-cons KeepsOnline a h.since one h.online;
  offline = h.offline;
}

stays_off : (a : Act) (l : List Act) → KeepsOffline a → HasGoneOffline l → HasGoneOffline (a ∷ l)
stays_off a l one h = record {
  after = a ∷ h.after;
  pass = h.pass;
  earlier = h.earlier;
  is = ap (λ (z : List Act). a ∷ z) h.is;
  came = h.came;
  offline = All-cons KeepsOffline a h.after one h.offline;
}

next : (a : Act) (l : List Act) (was : Presence) → Tells l was → Tells (a ∷ l) (presence_next a was)
next (Announce p zero) l presence.Before h = All-cons KeepsOffline (Announce p 0) l refl h
next (Announce p zero) l presence.Online h = record { after = []; pass = p; earlier = l; is = refl; came = h; offline = All-nil KeepsOffline }
next (Announce p zero) l presence.Over h = stays_off (Announce p 0) l refl h
next (Announce p zero) l presence.Broken h = tt
next (Announce p (suc n)) l presence.Before h = comes_on p n l h
next (Announce p (suc n)) l presence.Online h = stays_on (Announce p (suc n)) l (λ z. absurd (omega (arith, z))) h
next (Announce p (suc n)) l presence.Over h = tt
next (Announce p (suc n)) l presence.Broken h = tt
next (Commit c r f s) l presence.Before h = tt
next (Commit c r f s) l presence.Online h = stays_on (Commit c r f s) l tt h
next (Commit c r f s) l presence.Over h = tt
next (Commit c r f s) l presence.Broken h = tt
next (Answer c r x) l presence.Before h = tt
next (Answer c r x) l presence.Online h = stays_on (Answer c r x) l tt h
next (Answer c r x) l presence.Over h = tt
next (Answer c r x) l presence.Broken h = tt
next (AnswerCursor c r x number had left) l presence.Before h = tt
next (AnswerCursor c r x number had left) l presence.Online h = stays_on (AnswerCursor c r x number had left) l tt h
next (AnswerCursor c r x number had left) l presence.Over h = tt
next (AnswerCursor c r x number had left) l presence.Broken h = tt
next act l presence.Before h = All-cons KeepsOffline act l tt h
next act l presence.Online h = stays_on act l tt h
next act l presence.Over h = stays_off act l tt h
next act l presence.Broken h = tt

tells : (log : List Act) → Tells log (presence_of log)
tells [] = All-nil KeepsOffline
tells (a ∷ l) = next a l (presence_of l) (tells l)

pub presences_tell : PresencesTell
presences_tell log = (λ e. subst (Tells log) e (tells log), λ e. subst (Tells log) e (tells log), λ e. subst (Tells log) e (tells log))

-- ---- and back

offline_before : (a : Act) → KeepsOffline a → presence_next a presence.Before ≡ presence.Before
offline_before (Announce p zero) one = refl
offline_before (Announce p (suc n)) one = absurd (omega (arith, one))
offline_before (Commit c r f s) one = absurd one
offline_before (Answer c r x) one = absurd one
offline_before (AnswerCursor c r x number had left) one = absurd one
offline_before act one = refl

offline_over : (a : Act) → KeepsOffline a → presence_next a presence.Over ≡ presence.Over
offline_over (Announce p zero) one = refl
offline_over (Announce p (suc n)) one = absurd (omega (arith, one))
offline_over (Commit c r f s) one = absurd one
offline_over (Answer c r x) one = absurd one
offline_over (AnswerCursor c r x number had left) one = absurd one
offline_over act one = refl

online_on : (a : Act) → KeepsOnline a → presence_next a presence.Online ≡ presence.Online
online_on (Announce p zero) one = absurd (one refl)
online_on (Announce p (suc n)) one = refl
online_on act one = refl

-- actions that leave a presence as it is
stays : (P : Act → Type 0) (was : Presence) → ((a : Act) → P a → presence_next a was ≡ was) → (newer older : List Act) → All P newer → presence_of older ≡ was → presence_of (newer ++ older) ≡ was
stays P was one [] older all e = e
stays P was one (a ∷ newer) older all e = ap (presence_next a) (stays P was one newer older (All-tail P a newer all) e) ∙ one a (All-head P a newer all)

are_before : (log : List Act) → All KeepsOffline log → presence_of log ≡ presence.Before
are_before [] all = refl
are_before (a ∷ l) all = ap (presence_next a) (are_before l (All-tail KeepsOffline a l all)) ∙ offline_before a (All-head KeepsOffline a l all)

coming : (p n : ℕ) → n ≢ 0 → presence_next (Announce p n) presence.Before ≡ presence.Online
coming p zero ne = absurd (ne refl)
coming p (suc n) ne = refl

are_online : (log : List Act) → HasComeOnline log → presence_of log ≡ presence.Online
are_online log h = ap presence_of h.is ∙ stays KeepsOnline presence.Online online_on h.since (Announce h.pass h.number ∷ h.before) h.online (ap (presence_next (Announce h.pass h.number)) (are_before h.before h.offline) ∙ coming h.pass h.number h.comes)

are_over : (log : List Act) → HasGoneOffline log → presence_of log ≡ presence.Over
are_over log h = ap presence_of h.is ∙ stays KeepsOffline presence.Over offline_over h.after (Announce h.pass 0 ∷ h.earlier) h.offline (ap (presence_next (Announce h.pass 0)) (are_online h.earlier h.came))

pub presences_are_so : PresencesAreSo
presences_are_so log = (are_before log, are_online log, are_over log)
