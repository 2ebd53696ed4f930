use Rattle.std.proofs.Common.{◌≡◌, ◌<◌, ◌≤◌, ◌+◌, ◌⊎◌, ℕ, List, [], ◌∷◌, false, length, inr, ⊎_elim, refl, sym, ap, ◌∙◌, subst, arith, length-append}
use Rattle.std.specs.Prelude.{All, None}
use Rattle.std.proofs.lemmas.Bool.{true≢false}
use Rattle.std.proofs.lemmas.List.{same_from_push}
use Rattle.std.proofs.lemmas.List.Elements.{All-push}
use Rattle.ft_bank.specs.declared.sections.OpenSection.{OpenSection}
use Rattle.ft_bank.specs.declared.sections.Taking.{Taking}
use Rattle.ft_bank.specs.Passes.{view}
use Rattle.ft_bank.specs.PassSections.{Stack, stack_of, taken_in, nothing_taken}
use Rattle.ft_section.specs.Locking.{KeepsLower, marks_more}
use Rattle.ft_section.specs.Ready.{HasMarks}
use Rattle.ft_section.specs.LockTakings.{HasBoth}
use Rattle.ft_section.proofs.Goings.{found_then}
use Rattle.ft_section.proofs.Releases.{only_then}
use Rattle.ft_section.specs.declared.answers.Resumed.TheVariants as resumed
use Rattle.ft_section.specs.Floors.{first_owned, resumed_by}
use Rattle.ft_section.proofs.Resumes.{top_taking, top_apart, resumed, taken_up, wait_split, wait_some}
use Rattle.ft_trace.specs.declared.Shape.{Shape}
use Rattle.ft_trace.specs.Acts.{has_lock}
use Rattle.ft_trace.specs.Addresses.{container_count}
use Rattle.ft_trace.specs.Owners.{LocksOnly}
use Rattle.ft_trace.proofs.Owning.{locks_only_then, same_locks_only}
use Rattle.ft_section.proofs.resuming.resume_top.Goals as goal

pub take_both-requires-clause-containers : goal.take_both-requires-clause-containers
take_both-requires-clause-containers c =
    let p = c.args.pass.now in
    let split = sym (c.copied-sections.ensures ∙ c.sections-2.ensures) ∙ c.pop.ensures.some c.in-Some.top c.in-Some.is in
    let t = top_taking (view p) (stack_of p) c.pop.new.self c.in-Some.top c.requires.may.inside.1 split in
    let upper = subst (λ (k : Shape). c.in-Some.top.locks.upper < container_count k) c.requires.may.inside.0.1 t.low in
    let order = t.order in
    (omega (arith, order, upper), upper)

pub take_both-requires-clause-own : goal.take_both-requires-clause-own
take_both-requires-clause-own c =
    c.requires.may.own c.pop.new.self c.in-Some.top (sym (c.copied-sections.ensures ∙ c.sections-2.ensures) ∙ c.pop.ensures.some c.in-Some.top c.in-Some.is)

pub joined-requires-clause-apart : goal.joined-requires-clause-apart
joined-requires-clause-apart c o =
    let q = c.take_both.new.pass in
    let split = ap (λ (s : Stack). s.sections) c.take_both.ensures.stack ∙ (sym (c.copied-sections.ensures ∙ c.sections-2.ensures) ∙ c.pop.ensures.some c.in-Some.top c.in-Some.is) in
    subst (λ (t : Taking). taken_in o c.in-Some.top.locks + taken_in o t ≤ 1) (sym c.own.ensures)
    (top_apart (view q) (stack_of q) c.pop.new.self c.in-Some.top c.take_both.ensures.inside.1 split o)

pub push-requires : goal.push-requires
push-requires c =
    let e = ap length (c.pop.ensures.some c.in-Some.top c.in-Some.is) ∙ length-append c.pop.new.self (c.in-Some.top ∷ []) in
    let d = c.depth-depth.ensures in
    let same = ap length (c.copied-sections.ensures ∙ (c.sections-2.ensures ∙ sym c.sections.ensures)) in
    omega (arith, e, same, d.depth, d.few)

pub wait-requires-clause-marked : goal.wait-requires-clause-marked
wait-requires-clause-marked c a e =
    let p = c.args.pass.now in
    let v = view p in
    let top = c.in-Some.top in
    let split = sym (c.copied-sections.ensures ∙ c.sections-2.ensures) ∙ c.pop.ensures.some c.in-Some.top c.in-Some.is in
    let mark = ap (λ (s : Stack). s.mark) c.take_both.ensures.stack in
    let sections = ap (λ (s : Stack). s.sections) c.take_both.ensures.stack in
    let m = c.requires.may.inside.1.marked a (sym mark ∙ e) c.pop.new.self top split in
    let lacked : HasBoth v top.locks → ⊥ = λ both. ⊎_elim (λ (x : has_lock top.locks.lower v.log ≡ false). true≢false (sym both.0 ∙ x)) (λ (x : has_lock top.locks.upper v.log ≡ false). true≢false (sym both.1 ∙ x)) c.in-Err.ensures.lacked in
    let here : HasMarks top = ⊎_elim (λ (x : HasMarks top). x) (λ (x : HasBoth v top.locks). absurd (lacked x)) m.1 in
    subst (All HasMarks) (sym (sections ∙ split)) (All-push HasMarks c.pop.new.self top m.0 here)

pub returns-in-Ok-clause-ready : goal.returns-in-Ok-clause-ready
returns-in-Ok-clause-ready c =
    let q = c.take_both.new.pass in
    let r = c.put_mark.new.self in
    let top = c.in-Some.top in
    let again : OpenSection = record { locks = c.joined.result; marks = top.marks } in
    let split0 = sym (c.copied-sections.ensures ∙ c.sections-2.ensures) ∙ c.pop.ensures.some c.in-Some.top c.in-Some.is in
    let split = ap (λ (s : Stack). s.sections) c.take_both.ensures.stack ∙ split0 in
    let t = top_taking (view c.args.pass.now) (stack_of c.args.pass.now) c.pop.new.self top c.requires.may.inside.1 split0 in
    let lower = ap (λ (x : Taking). x.lower) c.joined.ensures.rest in
    let upper = ap (λ (x : Taking). x.upper) c.joined.ensures.rest in
    let taken : (o : ℕ) → taken_in o c.joined.result ≡ taken_in o top.locks + taken_in o (stack_of q).own = λ o. c.joined.ensures.taken o ∙ ap (λ (x : Taking). taken_in o top.locks + taken_in o x) c.own.ensures in
    let once : c.joined.result.lower ≡ c.joined.result.upper → c.joined.result.took_upper ≡ false = λ e. let same = sym lower ∙ (e ∙ upper) in c.joined.ensures.once (t.once same) (ap (λ (x : Taking). x.took_upper) c.own.ensures ∙ c.take_both.ensures.once same) in
    let stack = c.put_mark.ensures.stack
    ∙ (ap (λ (s : Stack). record s { mark = None }) (c.put_own.ensures.stack ∙ ap (λ (s : Stack). record s { own = nothing_taken }) c.put_sections.ensures.stack)
    ∙ ap (λ (xs : List OpenSection). record { sections = xs; own = nothing_taken; mark = None }) c.push.ensures) in
    resumed c.args.bank.now q r c.pop.new.self top again c.take_both.ensures.inside split taken lower upper refl once c.in-Ok.ensures.has
    (c.put_mark.ensures.view.0 ∙ (c.put_own.ensures.view.0 ∙ c.put_sections.ensures.view.0)) (c.put_mark.ensures.view.1 ∙ (c.put_own.ensures.view.1 ∙ c.put_sections.ensures.view.1)) stack

pub returns-in-Ok-clause-stack : goal.returns-in-Ok-clause-stack
returns-in-Ok-clause-stack c =
    let top = c.in-Some.top in
    let locks = c.joined.result in
    let split = sym (c.copied-sections.ensures ∙ c.sections-2.ensures) ∙ c.pop.ensures.some c.in-Some.top c.in-Some.is in
    let stack = c.put_mark.ensures.stack
    ∙ (ap (λ (s : Stack). record s { mark = None }) (c.put_own.ensures.stack ∙ ap (λ (s : Stack). record s { own = nothing_taken }) c.put_sections.ensures.stack)
    ∙ ap (λ (xs : List OpenSection). record { sections = xs; own = nothing_taken; mark = None }) c.push.ensures) in
    taken_up (stack_of c.args.pass.now) (stack_of c.put_mark.new.self) c.pop.new.self top locks split c.joined.ensures.rest stack

pub returns-in-Err-clause-locked : goal.returns-in-Err-clause-locked
returns-in-Err-clause-locked c =
    only_then (view c.args.pass.now) (view c.take_both.new.pass) (view c.wait.new.pass) c.take_both.ensures.locked c.wait.ensures.locked (λ p had has. c.take_both.ensures.keeps p had)

pub returns-in-Err-clause-needed : goal.returns-in-Err-clause-needed
returns-in-Err-clause-needed c =
    (c.pop.new.self, c.in-Some.top, sym (c.copied-sections.ensures ∙ c.sections-2.ensures) ∙ c.pop.ensures.some c.in-Some.top c.in-Some.is, c.in-Err.ensures.found.0)

pub returns-in-Err-clause-found : goal.returns-in-Err-clause-found
returns-in-Err-clause-found c =
    found_then (view c.args.pass.now) (view c.take_both.new.pass) (view c.wait.new.pass) c.in-Err.o c.in-Err.owner c.in-Err.ensures.found.1 c.wait.ensures.locked

pub returns-in-Err-clause-lacked : goal.returns-in-Err-clause-lacked
returns-in-Err-clause-lacked c has =
    let v = view c.args.pass.now in
    let top = c.in-Some.top in
    let both = has c.pop.new.self top (sym (c.copied-sections.ensures ∙ c.sections-2.ensures) ∙ c.pop.ensures.some top c.in-Some.is) in
    ⊎_elim (λ (x : has_lock top.locks.lower v.log ≡ false). true≢false (sym both.0 ∙ x)) (λ (x : has_lock top.locks.upper v.log ≡ false). true≢false (sym both.1 ∙ x)) c.in-Err.ensures.lacked

pub returns-in-Err-clause-may : goal.returns-in-Err-clause-may
returns-in-Err-clause-may c =
    let q = c.take_both.new.pass in
    let top = c.in-Some.top in
    let m = marks_more (stack_of q).mark in
    let split = ap (λ (s : Stack). s.sections) c.take_both.ensures.stack ∙ (sym (c.copied-sections.ensures ∙ c.sections-2.ensures) ∙ c.pop.ensures.some c.in-Some.top c.in-Some.is) in
    let sections = ap (λ (s : Stack). s.sections) c.wait.ensures.stack in
    let own = ap (λ (s : Stack). s.own) c.wait.ensures.stack in
    record {
      inside = c.wait.ensures.inside;
      own = λ outer' top' cut.
          let same = wait_split m (stack_of q).sections c.pop.new.self outer' top top' split (sym sections ∙ cut) in
          inr (
            ap (λ (t : Taking). t.lower) own ∙ (c.take_both.ensures.containers.0 ∙ ap (λ (s : OpenSection). s.locks.lower) same),
            ap (λ (t : Taking). t.upper) own ∙ (c.take_both.ensures.containers.1 ∙ ap (λ (s : OpenSection). s.locks.upper) same),
            ap (λ (t : Taking). t.took_upper) own ∙ c.in-Err.ensures.none,
          );
      none = λ nil. absurd (wait_some m (stack_of q).sections c.pop.new.self top split (sym sections ∙ nil));
    }

pub returns-in-Ok-clause-known : goal.returns-in-Ok-clause-known
returns-in-Ok-clause-known c has outer top cut =
    let v = view c.args.pass.now in
    let m = (stack_of c.args.pass.now).mark in
    let split = sym (c.copied-sections.ensures ∙ c.sections-2.ensures) ∙ c.pop.ensures.some c.in-Some.top c.in-Some.is in
    let same = same_from_push c.pop.new.self outer c.in-Some.top top (sym split ∙ cut) in
    ap resumed.Back c.mark-mark.ensures ∙ (ap (resumed_by m) (c.in-Ok.ensures.known has) ∙ ap (λ (s : OpenSection). resumed_by m (first_owned s.locks.lower s.locks.upper v)) same.1)

pub returns-in-Err-clause-known : goal.returns-in-Err-clause-known
returns-in-Err-clause-known c has outer top cut =
    let v = view c.args.pass.now in
    let m = (stack_of c.args.pass.now).mark in
    let split = sym (c.copied-sections.ensures ∙ c.sections-2.ensures) ∙ c.pop.ensures.some c.in-Some.top c.in-Some.is in
    let same = same_from_push c.pop.new.self outer c.in-Some.top top (sym split ∙ cut) in
    ap (resumed_by m) (c.in-Err.ensures.known has) ∙ ap (λ (s : OpenSection). resumed_by m (first_owned s.locks.lower s.locks.upper v)) same.1

pub returns-in-Err-clause-kept : goal.returns-in-Err-clause-kept
returns-in-Err-clause-kept c outer top cut =
    let split = sym (c.copied-sections.ensures ∙ c.sections-2.ensures) ∙ c.pop.ensures.some c.in-Some.top c.in-Some.is in
    let same = same_from_push c.pop.new.self outer c.in-Some.top top (sym split ∙ cut) in
    let own = ap (λ (s : Stack). s.own) c.wait.ensures.stack in
    subst (λ (s : OpenSection). KeepsLower s.locks.lower c.in-Err.o c.args.pass.now c.wait.new.pass) same.1 (λ r. ap (taken_in r) own ∙ c.in-Err.ensures.kept r)

-- the locks that were taken are of the innermost section

pub returns-in-Ok-clause-only : goal.returns-in-Ok-clause-only
returns-in-Ok-clause-only c outer top cut =
    let u = view c.args.pass.now in
    let w = view c.put_mark.new.self in
    let split = sym (c.copied-sections.ensures ∙ c.sections-2.ensures) ∙ c.pop.ensures.some c.in-Some.top c.in-Some.is in
    let same = same_from_push c.pop.new.self outer c.in-Some.top top (sym split ∙ cut) in
    let views = c.put_mark.ensures.view.1 ∙ (c.put_own.ensures.view.1 ∙ c.put_sections.ensures.view.1) in
    subst (λ (s : OpenSection). LocksOnly (λ o. (o ≡ s.locks.lower) ⊎ (o ≡ s.locks.upper)) u w) same.1
    (subst (LocksOnly (λ o. (o ≡ c.in-Some.top.locks.lower) ⊎ (o ≡ c.in-Some.top.locks.upper)) u) (sym views) c.take_both.ensures.only)

pub returns-in-Err-clause-only : goal.returns-in-Err-clause-only
returns-in-Err-clause-only c outer top cut =
    let u = view c.args.pass.now in
    let v = view c.take_both.new.pass in
    let w = view c.wait.new.pass in
    let P : ℕ → Type 0 = λ o. (o ≡ c.in-Some.top.locks.lower) ⊎ (o ≡ c.in-Some.top.locks.upper) in
    let split = sym (c.copied-sections.ensures ∙ c.sections-2.ensures) ∙ c.pop.ensures.some c.in-Some.top c.in-Some.is in
    let same = same_from_push c.pop.new.self outer c.in-Some.top top (sym split ∙ cut) in
    subst (λ (s : OpenSection). LocksOnly (λ o. (o ≡ s.locks.lower) ⊎ (o ≡ s.locks.upper)) u w) same.1
    (locks_only_then P u v w c.wait.ensures.locked.number c.take_both.ensures.only (same_locks_only P v w c.wait.ensures.owners))
