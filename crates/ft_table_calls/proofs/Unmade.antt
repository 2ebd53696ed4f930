-- What a call leaves that wasn't made: the pass has the same references and boxes, and writes the same containers.
use Rattle.std.proofs.Common.{◌≡◌, ℕ, Bool, true, false, true≢false, Option, refl, sym, ap, ◌∙◌, subst}
use Rattle.ft_model.specs.declared.call.Call.{Call}
use Rattle.ft_model.specs.declared.reply.Reply.{Reply}
use Rattle.ft_trace.specs.declared.Shape.{Shape}
use Rattle.ft_trace.specs.declared.View.{View}
use Rattle.ft_trace.specs.Acts.{is_writing}
use Rattle.ft_bank.specs.declared.takings.Took.{Took}
use Rattle.ft_bank.specs.Answered.{Answered}
use Rattle.ft_bank.specs.SameBoxes.{SameMade, SameReferences}
use Rattle.ft_bank.specs.Whole.{OnlyLoaded}
use Rattle.ft_table_calls.specs.declared.adding.Added.{Added}
use Rattle.ft_table_calls.specs.declared.adding.Added.TheVariants as added
use Rattle.ft_table_calls.specs.Adding.{IsAddedWith, TriedTaking, WasMade}

abbrev pub is_made : Added → Bool
is_made (added.Made stamp) = true
is_made (added.NoTable class stamp) = false
is_made (added.Over stamp) = false
is_made (added.NoPlace stamp) = false
is_made (added.Moved a b) = false

pub not_made : {A : Type 0} (what : Added) → is_made what ≡ false → WasMade what → A
not_made what unmade made = absurd (true≢false (sym (ap is_made made.1) ∙ unmade))

pub record Untouched (v w : View) : Type 0 where
  pub shape : w.shape ≡ v.shape
  pub references : SameReferences v w
  pub made : SameMade v w
  pub writes : (p : ℕ) → is_writing p w.log ≡ is_writing p v.log

pub untouched_then : (u v w : View) → Untouched u v → Untouched v w → Untouched u w
untouched_then u v w a b = record {
  shape = b.shape ∙ a.shape;
  references = λ c. b.references c ∙ a.references c;
  made = record { state = λ c. b.made.state c ∙ a.made.state c; local = λ c. b.made.local c ∙ a.made.local c; taken = λ c. b.made.taken c ∙ a.made.taken c; places = λ c. b.made.places c ∙ a.made.places c; uses = λ c. b.made.uses c ∙ a.made.uses c; raised = λ c. b.made.raised c ∙ a.made.raised c };
  writes = λ p. b.writes p ∙ a.writes p;
}

pub loaded_untouched : (v w : View) → OnlyLoaded v w → Untouched v w
loaded_untouched v w l = record { shape = l.work.pass.shape; references = l.boxes.references; made = l.boxes.made; writes = l.work.pass.writes }

tried_untouched : (k : Shape) (class : ℕ) (result : Took) (v w : View) → TriedTaking k class result v w → Untouched v w
tried_untouched k class result v w t = record { shape = t.same.shape; references = t.keeps.boxes.references; made = t.keeps.boxes.made; writes = t.same.writes }

answered_untouched : (called : Call) (said : Reply) (n : ℕ) (v w : View) → Answered called said n v w → Untouched v w
answered_untouched called said n v w x =
    untouched_then v x.before w (loaded_untouched v x.before x.loaded)
    (subst (Untouched x.before) (sym x.answered) (record { shape = refl; references = λ c. refl; made = record { state = λ c. refl; local = λ c. refl; taken = λ c. refl; places = λ c. refl; uses = λ c. refl; raised = λ c. refl }; writes = λ p. refl }))

pub unmade_untouched : (R : View → View → Type 0) (k : Shape) (takes : Option ℕ) (over : Bool) (called : Call) (said : Reply) (v w : View) (what : Added) → (WasMade what → ⊥) → IsAddedWith R k takes over called said v w what → Untouched v w
unmade_untouched R k takes over called said v w (added.Made stamp) unmade x = absurd (unmade (stamp, refl))
unmade_untouched R k takes over called said v w (added.NoTable class stamp) unmade x =
    let y = x.3 in
    untouched_then v y.0 w (tried_untouched k class _ v y.0 y.1) (answered_untouched called _ stamp.number y.0 w y.2)
unmade_untouched R k takes over called said v w (added.Over stamp) unmade x = answered_untouched called _ stamp.number v w x.2
unmade_untouched R k takes over called said v w (added.NoPlace stamp) unmade x = absurd x
unmade_untouched R k takes over called said v w (added.Moved a b) unmade x = tried_untouched k x.1.0 _ v w x.1.2
