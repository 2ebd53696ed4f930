-- Loads of a pass, one after the other: they leave what it knows.
use Rattle.std.proofs.Common.{◌≡◌, List, [], ◌∷◌, ◌++◌, refl, sym, ap, ◌∙◌, subst, append_assoc}
use Rattle.std.proofs.Math.Logic.{∥∥₁_map}
use Rattle.ft_trace.specs.declared.Act.{Act}
use Rattle.ft_trace.specs.declared.Act.TheVariants.{ReadBlock, ReadRoot, ReadTable, ReadCounter, ReadBox, Version}
use Rattle.ft_trace.specs.declared.Shape.{Shape}
use Rattle.ft_trace.specs.declared.View.{View}
use Rattle.ft_trace.specs.Acts.{view_after, announces}
use Rattle.ft_trace.specs.LoggedReads.{Among}
use Rattle.ft_trace.specs.Traces.{IsReachable}
use Rattle.ft_bank.specs.declared.pass.Pass.{Pass}
use Rattle.ft_bank.specs.Passes.{view}
use Rattle.ft_bank.specs.Series.{noted_all, DidAll}
use Rattle.ft_bank.specs.Whole.{OnlyLoaded}
use Rattle.ft_bank.proofs.BoxedSteps.{boxes_same}
use Rattle.ft_bank.proofs.KnownAfterWrites.{loaded_by, loaded_then, same_work}
use Rattle.ft_search.specs.KeyLooks.{AreLooks}
use Rattle.ft_search.proofs.BoxLoads.{IsLogged, box_load, logged_before}
use Rattle.ft_search.proofs.Running.{noted_log}

pub looks_append : (b a : List Act) → AreLooks b → AreLooks a → AreLooks (b ++ a)
looks_append [] a x y = y
looks_append (Version o f ∷ b) a x y = looks_append b a x y
looks_append (ReadBlock o i f ∷ b) a x y = looks_append b a x y
looks_append (ReadRoot o f ∷ b) a x y = looks_append b a x y
looks_append (ReadTable t i f ∷ b) a x y = looks_append b a x y
looks_append (ReadCounter f ∷ b) a x y = looks_append b a x y
looks_append (ReadBox c j f ∷ b) a x y = looks_append b a x y
looks_append (act ∷ b) a x y = absurd x

-- looks are loads and nothing else
noted_shape : (l : List Act) (v : View) → (noted_all l v).shape ≡ v.shape
noted_shape [] v = refl
noted_shape (a ∷ l) v = noted_shape l v

looks_logged : (l : List Act) (v : View) → AreLooks l → ∥ IsLogged v.shape (l ++ v.log) ∥₁ → OnlyLoaded v (noted_all l v)
looks_logged [] v q possible = record { work = same_work v; words = refl; unboxed = λ p low mine. refl; boxes = boxes_same v }
looks_logged (Version o f ∷ l) v q possible = loaded_then v (noted_all l v) (view_after (Version o f) (noted_all l v)) (looks_logged l v q (∥∥₁_map possible (logged_before v.shape (Version o f) (l ++ v.log)))) (loaded_by (Version o f) (noted_all l v) (view_after (Version o f) (noted_all l v)) tt refl)
looks_logged (ReadBlock o i f ∷ l) v q possible = loaded_then v (noted_all l v) (view_after (ReadBlock o i f) (noted_all l v)) (looks_logged l v q (∥∥₁_map possible (logged_before v.shape (ReadBlock o i f) (l ++ v.log)))) (loaded_by (ReadBlock o i f) (noted_all l v) (view_after (ReadBlock o i f) (noted_all l v)) tt refl)
looks_logged (ReadRoot o f ∷ l) v q possible = loaded_then v (noted_all l v) (view_after (ReadRoot o f) (noted_all l v)) (looks_logged l v q (∥∥₁_map possible (logged_before v.shape (ReadRoot o f) (l ++ v.log)))) (loaded_by (ReadRoot o f) (noted_all l v) (view_after (ReadRoot o f) (noted_all l v)) tt refl)
looks_logged (ReadTable t i f ∷ l) v q possible = loaded_then v (noted_all l v) (view_after (ReadTable t i f) (noted_all l v)) (looks_logged l v q (∥∥₁_map possible (logged_before v.shape (ReadTable t i f) (l ++ v.log)))) (loaded_by (ReadTable t i f) (noted_all l v) (view_after (ReadTable t i f) (noted_all l v)) tt refl)
looks_logged (ReadCounter f ∷ l) v q possible = loaded_then v (noted_all l v) (view_after (ReadCounter f) (noted_all l v)) (looks_logged l v q (∥∥₁_map possible (logged_before v.shape (ReadCounter f) (l ++ v.log)))) (loaded_by (ReadCounter f) (noted_all l v) (view_after (ReadCounter f) (noted_all l v)) tt refl)
looks_logged (ReadBox c j f ∷ l) v q possible =
    let m : View = noted_all l v in
    let here_ : ∥ IsLogged m.shape (ReadBox c j f ∷ m.log) ∥₁ = subst (λ (x : Shape × List Act). ∥ IsLogged x.0 (ReadBox c j f ∷ x.1) ∥₁) (sym (λ d. (noted_shape l v d, noted_log l v d))) possible in
    loaded_then v m (view_after (ReadBox c j f) m) (looks_logged l v q (∥∥₁_map possible (logged_before v.shape (ReadBox c j f) (l ++ v.log)))) (box_load m c j f here_)
looks_logged (act ∷ l) v q possible = absurd q

pub looks_load : (l : List Act) (v : View) → AreLooks l → ∥ IsReachable (noted_all l v) ∥₁ → OnlyLoaded v (noted_all l v)
looks_load l v q possible =
    looks_logged l v q
    (∥∥₁_map possible (λ (x : IsReachable (noted_all l v)).
    subst (λ (k : Shape). IsLogged k (l ++ v.log)) (noted_shape l v) (x.0, x.1, noted_all l v, x.2.0, x.2.1, noted_log l v)))

-- of a pass that has made them
pub looks_loaded : (l : List Act) (v w : View) → AreLooks l → w ≡ noted_all l v → ∥ IsReachable w ∥₁ → OnlyLoaded v w
looks_loaded l v w q is possible = subst (OnlyLoaded v) (sym is) (looks_load l v q (subst (λ (u : View). ∥ IsReachable u ∥₁) is possible))

-- of a pass
pub looks_did : (l : List Act) (p q : Pass) → AreLooks l → DidAll l p q → OnlyLoaded (view p) (view q)
looks_did l p q looks did = looks_loaded l (view p) (view q) looks did.1 q.possible

pub looks_announce : (l rest : List Act) → AreLooks l → announces (l ++ rest) ≡ announces rest
looks_announce [] rest q = refl
looks_announce (Version o f ∷ l) rest q = looks_announce l rest q
looks_announce (ReadBlock o i f ∷ l) rest q = looks_announce l rest q
looks_announce (ReadRoot o f ∷ l) rest q = looks_announce l rest q
looks_announce (ReadTable t i f ∷ l) rest q = looks_announce l rest q
looks_announce (ReadCounter f ∷ l) rest q = looks_announce l rest q
looks_announce (ReadBox c j f ∷ l) rest q = looks_announce l rest q
looks_announce (act ∷ l) rest q = absurd q

-- ---- what was found stays found

pub among_in : (a : Act) (new part old : List Act) → Among a part → Among a (new ++ (part ++ old))
among_in a new part old m = record {
  newer = new ++ m.newer;
  rest = m.rest ++ old;
  is = ap (λ (z : List Act). new ++ (z ++ old)) m.is ∙ (ap (λ (z : List Act). new ++ z) (append_assoc m.newer (a ∷ m.rest) old) ∙ sym (append_assoc new m.newer (a ∷ (m.rest ++ old))));
}

pub among_more : (a : Act) (part old : List Act) → Among a part → Among a (part ++ old)
among_more a part old m = record { newer = m.newer; rest = m.rest ++ old; is = ap (λ (z : List Act). z ++ old) m.is ∙ append_assoc m.newer (a ∷ m.rest) old }
