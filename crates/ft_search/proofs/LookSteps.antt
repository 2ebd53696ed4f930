-- Steps of look-ups, one after the other: what the pass holds and knows stays as it is.
use Rattle.std.proofs.Common.{◌≡◌, ℕ, suc, ◌<◌, Bool, true, false, List, [], ◌∷◌, ◌++◌, refl, sym, ap, ◌∙◌, subst, append_assoc}
use Rattle.ft_trace.specs.declared.Act.{Act}
use Rattle.ft_trace.specs.declared.Act.TheVariants.{ReadBlock, ReadRoot, ReadTable, ReadCounter, Version, Announce, ReadBox, RaiseLocal, DropLocal, ClearLocal, MergeCounts, RaiseShared, DropShared, GivePlace}
use Rattle.ft_trace.specs.declared.Shape.{Shape}
use Rattle.ft_trace.specs.declared.View.{View}
use Rattle.ft_layout.specs.Containers.{class_mask}
use Rattle.ft_trace.specs.Acts.{announces}
use Rattle.ft_trace.specs.Addresses.{container_count}
use Rattle.ft_trace.specs.ContainerStates.{kind_in}
use Rattle.ft_trace.specs.Kinds.{IsKeyed}
use Rattle.ft_trace.specs.LoggedLookUps.{Online, ReadsNoRoot}
use Rattle.ft_trace.specs.Traces.{IsReachable}
use Rattle.ft_bank.specs.declared.bank.Bank.{Bank}
use Rattle.ft_bank.specs.declared.pass.Pass.{Pass}
use Rattle.ft_bank.specs.declared.table.Table.{Table}
use Rattle.ft_bank.specs.LastLoads.{loads_counter}
use Rattle.ft_bank.specs.Passes.{shape_of, view, IsPassOf}
use Rattle.ft_bank.specs.SameBoxes.{HoldsFew}
use Rattle.ft_bank.specs.Series.{DidAll}
use Rattle.ft_bank.specs.TableNames.{table_id, IsPlaceOf, IsTableIn}
use Rattle.ft_bank.specs.Whole.{OnlyLoaded}
use Rattle.ft_bank.proofs.DoneBoxes.{settled_then, stays_settled_same}
use Rattle.ft_bank.proofs.KnownAfterWrites.{boxed_then, loaded_boxed}
use Rattle.ft_boxes.specs.Counting.{AreBoxSteps}
use Rattle.ft_boxes.proofs.Heaps.{few_same, first_then, loaded_keeps}
use Rattle.ft_search.specs.declared.words.TableWords.{TableWords}
use Rattle.ft_search.specs.KeyLooks.{AreLooks}
use Rattle.ft_search.specs.LookSteps.{is_look_step, Only, AreLookSteps, AreRoundSteps, CanLook, InRound, OnlyLooked, WasNamed}
use Rattle.ft_search.specs.TableWords.{CanLoad, SamePlace}
use Rattle.ft_search.proofs.LoadedLooks.{looks_did}
use Rattle.ft_search.proofs.Running.{back_same, did_log}

-- ---- lists of steps

pub steps_append : (b a : List Act) → AreLookSteps b → AreLookSteps a → AreLookSteps (b ++ a)
steps_append [] a x y = y
steps_append (act ∷ b) a x y = by (is_look_step act) (λ q. steps_append b a q y) x
  where
    by : (s : Bool) → (AreLookSteps b → AreLookSteps (b ++ a)) → Only s (AreLookSteps b) → Only s (AreLookSteps (b ++ a))
    by true more q = more q
    by false more q = absurd q

pub roots_append : (b a : List Act) → ReadsNoRoot b → ReadsNoRoot a → ReadsNoRoot (b ++ a)
roots_append [] a x y = y
roots_append (ReadRoot o f ∷ b) a x y = absurd x
roots_append (Announce p f ∷ b) a x y = absurd x
roots_append (act ∷ b) a x y = roots_append b a x y

pub round_append : (b a : List Act) → AreRoundSteps b → AreRoundSteps a → AreRoundSteps (b ++ a)
round_append b a x y = (steps_append b a x.0 y.0, roots_append b a x.1 y.1)

-- loads are such steps
pub loads_are_steps : (l : List Act) → AreLooks l → AreLookSteps l
loads_are_steps [] q = tt
loads_are_steps (Version o f ∷ l) q = loads_are_steps l q
loads_are_steps (ReadBlock o i f ∷ l) q = loads_are_steps l q
loads_are_steps (ReadRoot o f ∷ l) q = loads_are_steps l q
loads_are_steps (ReadTable t i f ∷ l) q = loads_are_steps l q
loads_are_steps (ReadCounter f ∷ l) q = loads_are_steps l q
loads_are_steps (ReadBox b i f ∷ l) q = loads_are_steps l q
loads_are_steps (act ∷ l) q = absurd q

-- and so are steps on boxes, which load no counter
pub boxes_are_steps : (l : List Act) → AreBoxSteps l → AreRoundSteps l × (loads_counter l ≡ false)
boxes_are_steps [] q = ((tt, tt), refl)
boxes_are_steps (ReadBox b i f ∷ l) q = boxes_are_steps l q
boxes_are_steps (RaiseLocal b x ∷ l) q = boxes_are_steps l q
boxes_are_steps (DropLocal b x ∷ l) q = boxes_are_steps l q
boxes_are_steps (ClearLocal b ∷ l) q = boxes_are_steps l q
boxes_are_steps (MergeCounts b d f ∷ l) q = boxes_are_steps l q
boxes_are_steps (RaiseShared b old f ∷ l) q = boxes_are_steps l q
boxes_are_steps (DropShared b f ∷ l) q = boxes_are_steps l q
boxes_are_steps (GivePlace b ∷ l) q = boxes_are_steps l q
boxes_are_steps (act ∷ l) q = absurd q

pub steps_tail : (act : Act) (l : List Act) → AreLookSteps (act ∷ l) → AreLookSteps l
steps_tail act l q = by (is_look_step act) q
  where
    by : (s : Bool) → Only s (AreLookSteps l) → AreLookSteps l
    by true q = q
    by false q = absurd q

-- none of them announces
pub steps_online : (l : List Act) → AreLookSteps l → Online l
steps_online [] q = tt
steps_online (Announce p f ∷ l) q = absurd q
steps_online (act ∷ l) q = steps_online l (steps_tail act l q)

pub online_announces : (l rest : List Act) → Online l → announces (l ++ rest) ≡ announces rest
online_announces [] rest q = refl
online_announces (Announce p f ∷ l) rest q = absurd q
online_announces (act ∷ l) rest q = online_announces l rest q

pub steps_announce : (l rest : List Act) → AreLookSteps l → announces (l ++ rest) ≡ announces rest
steps_announce l rest q = online_announces l rest (steps_online l q)

pub online_append : (b a : List Act) → Online b → Online a → Online (b ++ a)
online_append [] a x y = y
online_append (Announce p f ∷ b) a x y = absurd x
online_append (act ∷ b) a x y = online_append b a x y

-- ---- what they leave

pub loads_looked : (v w : View) → ∥ IsReachable v ∥₁ → OnlyLoaded v w → OnlyLooked v w
loads_looked v w possible only = record { boxed = loaded_boxed v w only; made = stays_settled_same v w only.boxes.made; references = only.boxes.references; values = loaded_keeps v w possible only }

pub looked_then : (u v w : View) → OnlyLooked u v → OnlyLooked v w → OnlyLooked u w
looked_then u v w a b = record {
  boxed = boxed_then u v w a.boxed b.boxed;
  made = settled_then u v w a.made b.made;
  references = λ c. b.references c ∙ a.references c;
  values = first_then u v w a.boxed a.references a.values b.values;
}

pub looked_few : (v w : View) → OnlyLooked v w → HoldsFew v → HoldsFew w
looked_few v w only few = few_same v w only.references few

-- ---- of a pass

-- it has loaded words
pub in_round_by : (l : List Act) (p q : Pass) → AreLooks l → ReadsNoRoot l → DidAll l p q → InRound l p q
in_round_by l p q looks roots did = ((loads_are_steps l looks, roots), loads_looked (view p) (view q) p.possible (looks_did l p q looks did))

pub looked_by : (l : List Act) (p q : Pass) → AreLooks l → DidAll l p q → OnlyLooked (view p) (view q)
looked_by l p q looks did = loads_looked (view p) (view q) p.possible (looks_did l p q looks did)

pub in_round_then : (b a : List Act) (p q r : Pass) → InRound a p q → InRound b q r → InRound (b ++ a) p r
in_round_then b a p q r x y = (round_append b a y.0 x.0, looked_then (view p) (view q) (view r) x.1 y.1)

-- ---- the root named the table

pub named_on : (o t : ℕ) (new log : List Act) → Online new → WasNamed o t log → WasNamed o t (new ++ log)
named_on o t new log on w = record {
  walk = new ++ w.walk;
  rest = w.rest;
  is = ap (λ (z : List Act). new ++ z) w.is ∙ sym (append_assoc new w.walk (ReadRoot o (suc t) ∷ w.rest));
  online = online_append new w.walk on w.online;
}

pub named_after : (o t : ℕ) (l : List Act) (p q : Pass) → AreLookSteps l → DidAll l p q → WasNamed o t (view p).log → WasNamed o t (view q).log
named_after o t l p q steps did w = subst (WasNamed o t) (sym (did_log l p q did)) (named_on o t l (view p).log (steps_online l steps) w)

-- who may look may look on
pub can_load_on : (s t : TableWords) → CanLoad s → SamePlace s t → IsPassOf s.bank.now t.pass.now → CanLoad t
can_load_on s t can same is = record {
  pass = subst (λ (b : Bank). IsPassOf b t.pass.now) (sym (λ d. (same.bank d).now)) is;
  container = back_same (λ k o _. o < container_count k) s t same can.container;
  table = subst (λ (x : Shape × Table). IsTableIn x.0 x.1) (sym (λ d. (shape_of (same.bank d).now, same.table d))) can.table;
  mask = same.mask ∙ (can.mask ∙ ap (λ (z : Table). class_mask z.class) (sym same.table));
  start = subst (λ (x : Shape × Table × ℕ). IsPlaceOf x.0 x.1 x.2) (sym (λ d. (shape_of (same.bank d).now, same.table d, same.start d))) can.start;
}

pub can_look_on : (s t : TableWords) (l : List Act) → CanLook s → SamePlace s t → InRound l s.pass.now t.pass.now → DidAll l s.pass.now t.pass.now → CanLook t
can_look_on s t l can same round did = record {
  can = can_load_on s t can.can same (did.0 ∙ can.can.pass.0, round.1.boxed.work.pass.shape ∙ can.can.pass.1);
  keyed = back_same (λ k o _. IsKeyed (kind_in k.starts o)) s t same can.keyed;
  settled = round.1.made.settled can.settled;
  few = looked_few (view s.pass.now) (view t.pass.now) round.1 can.few;
  named = back_same (λ _ o n. WasNamed o n (view t.pass.now).log) s t same (named_after s.o (table_id s.table) l s.pass.now t.pass.now round.0.0 did can.named);
}

-- after one load
pub can_look_next : (s t : TableWords) (a : Act) → CanLook s → SamePlace s t → AreLooks (a ∷ []) → ReadsNoRoot (a ∷ []) → DidAll (a ∷ []) s.pass.now t.pass.now → CanLook t
can_look_next s t a can same looks roots did = can_look_on s t (a ∷ []) can same (in_round_by (a ∷ []) s.pass.now t.pass.now looks roots did) did
