use Rattle.std.proofs.Common.{◌≡◌, ◌≤◌, le_trans, ℕ, false, List, ◌++◌, sym, ap, ◌∙◌, subst, inl, inr, ⊎_elim}
use Rattle.ft_trace.specs.declared.Act.{Act}
use Rattle.ft_trace.specs.declared.View.{View}
use Rattle.ft_trace.specs.Acts.{has_goal, seen_writes, stage, presence_of}
use Rattle.ft_trace.specs.Floors.{at_floor}
use Rattle.ft_trace.specs.Owners.{SameOwners}
use Rattle.ft_trace.proofs.Owning.{owners_then}
use Rattle.ft_trace.specs.Hands.{cursor_in}
use Rattle.ft_trace.specs.BegunSections.{begun}
use Rattle.ft_bank.specs.declared.takings.Took.{Took}
use Rattle.ft_bank.specs.Passes.{view}
use Rattle.ft_bank.specs.Series.{noted_all}
use Rattle.ft_bank.specs.Takings.{IsTaking, StaysIn}
use Rattle.ft_bank.proofs.Freeing.{but_same, but_then}
use Rattle.ft_bank.proofs.Logs.{noted_grown}
use Rattle.ft_qsbr.specs.Collecting.{StaysOrGoes, loads_of}
use Rattle.ft_qsbr.proofs.PassesStay.{begun_stays, cursors_stay, floor_stays, since_stays, owners_stay, learnt_stays, seen_stays, collection_leaves, given_or_kept, taking_leaves, same_by, presence_stays}
use Rattle.ft_qsbr.proofs.taking.take.Goals as goal

pub take_table-requires-clause-idle : goal.take_table-requires-clause-idle
take_table-requires-clause-idle c = c.collect.ensures.collected.idle

pub take_table-requires-clause-none : goal.take_table-requires-clause-none
take_table-requires-clause-none c = c.collect.ensures.collected.owes c.requires.none

pub returns-clause-did : goal.returns-clause-did
returns-clause-did c =
    let t = c.take_table.ensures.did in
    (view c.collect.new.pass, c.collect.result, t.0, c.collect.ensures.collected, t.1.1, t.2, c.take_table.ensures.has)

pub returns-clause-empty : goal.returns-clause-empty
returns-clause-empty c all =
    let m = view c.collect.new.pass in
    let t = c.take_table.ensures.did in
    let acts = subst (λ (r : Took). IsTaking c.args.class r t.0) all t.2 in
    (m.log, ap (λ (u : View). u.log) (t.1.1 ∙ ap (λ (l : List Act). noted_all l m) acts), c.collect.ensures.collected.owes c.requires.none)

pub returns-clause-sections : goal.returns-clause-sections
returns-clause-sections c = c.take_table.ensures.did.1.2 ∙ c.collect.ensures.sections

pub returns-clause-keeps : goal.returns-clause-keeps
returns-clause-keeps c =
    let v = view c.args.pass.now in
    let F : ℕ → Type 0 = λ t. (has_goal t v.log ≡ false) × StaysIn c.take_table.result t in
    but_then F (StaysIn c.take_table.result) v (view c.collect.new.pass) (view c.take_table.new.pass)
    (but_then F (λ t. has_goal t v.log ≡ false) v v (view c.collect.new.pass) (but_same F v) c.collect.ensures.collected.keeps (λ t f. f.0))
    c.take_table.ensures.keeps (λ t f. f.1)

pub returns-clause-same : goal.returns-clause-same
returns-clause-same c =
    let v = view c.args.pass.now in
    let m = view c.collect.new.pass in
    let w = view c.take_table.new.pass in
    let x = c.collect.ensures.collected in
    let d = c.take_table.ensures.did in
    let F : ℕ → Type 0 = λ t. (has_goal t v.log ≡ false) × StaysIn c.take_table.result t in
    let sections : begun w.log ≡ begun v.log =
    ap (λ (u : View). begun u.log) d.1.1 ∙ (begun_stays d.0 m (taking_leaves c.args.class c.take_table.result d.0 d.2)
    ∙ (ap (λ (u : View). begun u.log) x.did ∙ begun_stays (x.acts ++ loads_of x.numbers) v (collection_leaves x.acts x.numbers x.givings))) in
    let learnt : w.learnt ≡ v.learnt = ap (λ (u : View). u.learnt) d.1.1 ∙ (learnt_stays d.0 m ∙ (ap (λ (u : View). u.learnt) x.did ∙ learnt_stays (x.acts ++ loads_of x.numbers) v)) in
    let cursors : (n : ℕ) → cursor_in n w.log ≡ cursor_in n v.log =
    λ n. ap (λ (u : View). cursor_in n u.log) d.1.1 ∙ (cursors_stay d.0 m n (taking_leaves c.args.class c.take_table.result d.0 d.2)
    ∙ (ap (λ (u : View). cursor_in n u.log) x.did ∙ cursors_stay (x.acts ++ loads_of x.numbers) v n (collection_leaves x.acts x.numbers x.givings))) in
    let floor : w.has_floor ≡ v.has_floor =
    ap (λ (u : View). u.has_floor) d.1.1 ∙ (floor_stays d.0 m (taking_leaves c.args.class c.take_table.result d.0 d.2)
    ∙ (ap (λ (u : View). u.has_floor) x.did ∙ floor_stays (x.acts ++ loads_of x.numbers) v (collection_leaves x.acts x.numbers x.givings))) in
    let since : at_floor w.log ≡ at_floor v.log =
    ap (λ (u : View). at_floor u.log) d.1.1 ∙ (since_stays d.0 m (taking_leaves c.args.class c.take_table.result d.0 d.2)
    ∙ (ap (λ (u : View). at_floor u.log) x.did ∙ since_stays (x.acts ++ loads_of x.numbers) v (collection_leaves x.acts x.numbers x.givings))) in
    let owners : SameOwners v w =
    owners_then v m w (subst (SameOwners v) (sym x.did) (owners_stay (x.acts ++ loads_of x.numbers) v (collection_leaves x.acts x.numbers x.givings)))
    (subst (SameOwners m) (sym d.1.1) (owners_stay d.0 m (taking_leaves c.args.class c.take_table.result d.0 d.2))) in
    let first : seen_writes v ≤ seen_writes m = subst (λ (u : View). seen_writes v ≤ seen_writes u) (sym x.did) (seen_stays (x.acts ++ loads_of x.numbers) v) in
    let then : seen_writes m ≤ seen_writes w = subst (λ (u : View). seen_writes m ≤ seen_writes u) (sym d.1.1) (seen_stays d.0 m) in
    same_by F v w (returns-clause-keeps c) (c.take_table.ensures.idle ∙ sym c.requires.idle) sections cursors floor since owners learnt (le_trans first then)
    (λ old was. noted_grown d.0 m w d.1.1 old (noted_grown (x.acts ++ loads_of x.numbers) v m x.did old was))
    (λ is. ap (λ (u : View). presence_of u.log) d.1.1 ∙ (presence_stays d.0 m (taking_leaves c.args.class c.take_table.result d.0 d.2)
    ∙ (ap (λ (u : View). presence_of u.log) x.did ∙ (presence_stays (x.acts ++ loads_of x.numbers) v (collection_leaves x.acts x.numbers x.givings) ∙ is))))

pub returns-clause-floor : goal.returns-clause-floor
returns-clause-floor c has =
    let v = view c.args.pass.now in
    let x = c.collect.ensures.collected in
    c.take_table.ensures.floor (ap (λ (u : View). u.has_floor) x.did ∙ (floor_stays (x.acts ++ loads_of x.numbers) v (collection_leaves x.acts x.numbers x.givings) ∙ has))

pub returns-clause-hands : goal.returns-clause-hands
returns-clause-hands c t stays =
    let v = view c.args.pass.now in
    let m = view c.collect.new.pass in
    let x = c.collect.ensures.collected in
    let e = c.take_table.ensures.keeps.held.stages t stays in
    let g : StaysOrGoes v m t = subst (λ (u : View). StaysOrGoes v u t) (sym x.did) (given_or_kept x.acts x.numbers v t x.givings) in
    ⊎_elim (λ (y : stage t m.log ≡ stage t v.log). inl (e ∙ y)) (λ (y : stage t m.log ≡ 0). inr (e ∙ y)) g
