-- A section ends: its entry is made, and then what it took is let go.
use Rattle.std.proofs.Common.{◌≡◌, ◌≢◌, ◌<◌, ◌+◌, ℕ, true, List, [], ◌∷◌, ◌++◌, drop, ⊎_elim, refl, sym, ap, ◌∙◌, subst, arith}
use Rattle.std.specs.Prelude.{Some}
use Rattle.std.proofs.lemmas.List.{same_from_push}
use Rattle.std.proofs.lemmas.List.Elements.{All-pop}
use Rattle.ft_bank.specs.declared.bank.Bank.{Bank}
use Rattle.ft_bank.specs.declared.pass.Pass.{Pass}
use Rattle.ft_bank.specs.declared.sections.OpenSection.{OpenSection}
use Rattle.ft_bank.specs.Passes.{view}
use Rattle.ft_bank.specs.PassSections.{Stack, stack_of, taken_in, noted_in}
use Rattle.ft_bank.proofs.DoneBoxes.{done_as}
use Rattle.ft_model.specs.declared.call.Call.TheVariants as call
use Rattle.ft_model.specs.declared.reply.Reply.{Reply}
use Rattle.ft_section.specs.Ready.{InCall, IsReady, AreBegun, IsBegun, lock_count}
use Rattle.ft_section.specs.Locking.{LetGo, MayLetGo}
use Rattle.ft_section.specs.Sectioning.{answered_view}
use Rattle.ft_section.specs.LockTakings.{IsLockTaking}
use Rattle.ft_section.proofs.InCalls.{has_counted}
use Rattle.ft_section.proofs.Goings.{went_from, count_least}
use Rattle.ft_section.proofs.Resumes.{push_some, noted_push, none_some}
use Rattle.ft_trace.specs.declared.Shape.{Shape}
use Rattle.ft_trace.specs.declared.View.{View}
use Rattle.ft_trace.specs.Addresses.{container_count}
use Rattle.ft_trace.specs.Acts.{is_writing}
use Rattle.ft_trace.specs.BegunSections.{Begun, begun}

-- what the innermost section took is noted by no section round it
pub top_struck : (v : View) (s : Stack) (outer : List OpenSection) (top : OpenSection) → InCall v s → s.sections ≡ outer ++ top ∷ [] → (o : ℕ) → taken_in o top.locks ≢ 0 → noted_in o outer ≡ 0
top_struck v s outer top i split o some_one =
    let a = i.locks o in
    let l = count_least o v in
    let e = ap (noted_in o) split ∙ noted_push o outer top in
    omega (arith, a, l, e, some_one)

-- the sections round the one that ends are begun as they were
begun_outer : (bs : List Begun) (outer : List OpenSection) (top : OpenSection) → AreBegun (outer ++ top ∷ []) bs → AreBegun outer (drop 1 bs)
begun_outer [] outer top a = absurd (push_some outer top a)
begun_outer (b ∷ bs) outer top a =
    ⊎_elim (λ (nil : outer ++ top ∷ [] ≡ []). absurd (push_some outer top nil))
    (λ (x : (o : List OpenSection) × (s : OpenSection) × (outer ++ top ∷ [] ≡ o ++ s ∷ []) × IsBegun (outer ++ top ∷ []) s b × AreBegun o bs).
    subst (λ (o : List OpenSection). AreBegun o bs) (sym (same_from_push outer x.0 top x.1 x.2).0) x.4) a

-- a section that says kept has had its locks since its `begin`
pub kept_held : (sections outer : List OpenSection) (top : OpenSection) (b : Begun) (bs : List Begun) → sections ≡ outer ++ top ∷ [] → AreBegun sections (b ∷ bs) → top.marks ≡ 0 → b.held ≡ true
kept_held sections outer top b bs split a none =
    ⊎_elim (λ (nil : sections ≡ []). absurd (push_some outer top (sym split ∙ nil)))
    (λ (x : (o : List OpenSection) × (s : OpenSection) × (sections ≡ o ++ s ∷ []) × IsBegun sections s b × AreBegun o bs).
    let same = same_from_push outer x.0 top x.1 (sym split ∙ x.2) in
    (x.3.kept (sym (ap (λ (s : OpenSection). s.marks) same.1) ∙ none)).0) a

-- the locks that it took may be let go
pub end_may : (b : Bank) (p q : Pass) (outer : List OpenSection) (top : OpenSection) (said : Reply) (n : ℕ) → IsReady b p → (stack_of p).sections ≡ outer ++ top ∷ [] → q.seat.table_id ≡ p.seat.table_id → view q ≡ answered_view call.End said n (view p) → (stack_of q).sections ≡ outer → MayLetGo (λ o. taken_in o top.locks) b q
end_may b p q outer top said n r split table same put =
    let i = r.inside in
    record {
      pass = (table ∙ i.0.0, ap (λ (v : View). v.shape) same ∙ i.0.1);
      even = λ o. ap (λ (v : View). is_writing o v.log) same ∙ i.1.still.even o;
      low = λ o some_one. subst (λ (k : Shape). o < container_count k) i.0.1 (i.1.low o (has_counted o (view p) (λ none. some_one (
          let a = i.1.locks o in let e = ap (noted_in o) split ∙ noted_push o outer top in omega (arith, a, e, none)))));
      count = λ o. let a = i.1.locks o in let e = ap (noted_in o) split ∙ noted_push o outer top in let f = ap (λ (v : View). lock_count o v) same in omega (arith, a, e, f);
      struck = λ o some_one. ap (noted_in o) put ∙ top_struck (view p) (stack_of p) outer top i.1 split o some_one;
    }

-- what holds after it
pub ended : (b : Bank) (p : Pass) (w : View) (outer : List OpenSection) (top : OpenSection) (said : Reply) (n : ℕ) → IsReady b p → (stack_of p).sections ≡ outer ++ top ∷ [] → LetGo (λ o. taken_in o top.locks) (answered_view call.End said n (view p)) w → InCall w (record (stack_of p) { sections = outer })
ended b p w outer top said n r split go =
    let v = view p in
    let s = stack_of p in
    let i = r.inside.1 in
    went_from (answered_view call.End said n v) w (record s { sections = outer }) (λ o. taken_in o top.locks) (λ o. noted_in o s.sections + taken_in o s.own)
    (record {
      even = i.still.even;
      hands = i.still.hands;
      used = i.still.used;
      owes = i.still.owes;
      flight = i.still.flight;
      boxes = done_as v (answered_view call.End said n v) (λ c. refl) (record { state = λ c. refl; local = λ c. refl; taken = λ c. refl; places = λ c. refl; uses = λ c. refl; raised = λ c. refl }) i.still.boxes;
      stands = i.still.stands;
    }) i.locks i.low go
    (λ o. let e = ap (noted_in o) split ∙ noted_push o outer top in omega (arith, e))
    ((All-pop (λ x. IsLockTaking v.shape x.locks) s.sections outer (Some top) split i.sections).0)
    (begun_outer (begun v.log) outer top (subst (λ (xs : List OpenSection). AreBegun xs (begun v.log)) split i.begun))
    (top_struck v s outer top i split)
    (λ q e. absurd (none_some q (sym r.mark ∙ e)))
