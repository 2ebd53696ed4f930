-- A box that a container named whose table a pass took out of its root: the pass holds a reference for it then, so that it
-- knows the value there until it has put the next root.
use Rattle.std.proofs.Common.{◌≡◌, ℕ, ◌<◌, true, List, ◌∷◌, refl, sym, ◌∙◌, subst}
use Rattle.ft_model.specs.declared.call.Call.{Call}
use Rattle.ft_model.specs.declared.reply.Reply.{Reply}
use Rattle.ft_trace.specs.declared.Act.{Act}
use Rattle.ft_trace.specs.declared.Act.TheVariants.{Commit, PutRoot, StartWrite}
use Rattle.ft_trace.specs.declared.Snap.{Snap}
use Rattle.ft_trace.specs.declared.View.{View}
use Rattle.ft_trace.specs.Acts.{view_after}
use Rattle.ft_trace.specs.Addresses.{IsBoxName}
use Rattle.ft_trace.specs.Boxes.{knows_box_word, references_held}
use Rattle.ft_trace.specs.Traces.{IsReachable}
use Rattle.ft_trace.proofs.BoxKnown.{sure_after, sure_keeps}
use Rattle.ft_boxes.specs.References.{KeepsValues}
use Rattle.ft_boxes.proofs.Steps.{held_keeps}
use Rattle.ft_replacing.proofs.KeptValues.{KnowsWords, SameWords, still_known, still_same}

-- The pass knew v; it made the version odd and put 0 into the root, and knew r; with steps that leave what it knows of
-- values it came to d, and with the commit to c.
module _ (o f old n number : ℕ) (called : Call) (said : Reply) (snap : Snap) (v r d c : View) (rooted : r ≡ view_after (PutRoot o 0 old) (view_after (StartWrite o f) v)) (possible : ∥ IsReachable r ∥₁) (name : IsBoxName v.shape n) (known : KnowsWords n v) (held : 0 < references_held r.shape n r.log) (shape : d.shape ≡ r.shape) (keeps : KeepsValues r d) (still : 0 < references_held d.shape n d.log) (made : c ≡ view_after (Commit called said number snap) d) where
  abbrev begun : List Act
  begun = StartWrite o f ∷ v.log

  begun_knows : (i : ℕ) → knows_box_word v.shape n i v.log ≡ true → knows_box_word v.shape n i (StartWrite o f ∷ v.log) ≡ true
  begun_knows i is = sure_after v.shape n i (StartWrite o f) v.log (sure_keeps v.shape n i v.log is) is

  bare_held : 0 < references_held v.shape n (PutRoot o 0 old ∷ StartWrite o f ∷ v.log)
  bare_held = subst (λ (z : View). 0 < references_held z.shape n z.log) rooted held

  bare_knows : (i : ℕ) → knows_box_word v.shape n i v.log ≡ true → knows_box_word v.shape n i (PutRoot o 0 old ∷ StartWrite o f ∷ v.log) ≡ true
  bare_knows i is = sure_after v.shape n i (PutRoot o 0 old) begun (held_keeps v.shape n (PutRoot o 0 old ∷ begun) bare_held) (begun_knows i is)

  rooted_knows : KnowsWords n r
  rooted_knows = subst (KnowsWords n) (sym rooted) (bare_knows 1 known.0, bare_knows 2 known.1)

  rooted_same : SameWords n v r
  rooted_same = subst (SameWords n v) (sym rooted) (refl, refl)

  name_r : IsBoxName r.shape n
  name_r = subst (λ (z : View). IsBoxName z.shape n) (sym rooted) name

  dropped_knows : KnowsWords n d
  dropped_knows = still_known r d n possible shape name_r held still rooted_knows keeps

  dropped_same : SameWords n r d
  dropped_same = still_same r d n possible shape name_r held still rooted_knows keeps

  committed_knows : (i : ℕ) → knows_box_word d.shape n i d.log ≡ true → knows_box_word d.shape n i (Commit called said number snap ∷ d.log) ≡ true
  committed_knows i is = sure_after d.shape n i (Commit called said number snap) d.log (held_keeps d.shape n (Commit called said number snap ∷ d.log) still) is

  pub own_known : KnowsWords n c
  own_known = subst (KnowsWords n) (sym made) (committed_knows 1 dropped_knows.0, committed_knows 2 dropped_knows.1)

  pub own_same : SameWords n v c
  own_same = subst (SameWords n v) (sym made) (dropped_same.0 ∙ rooted_same.0, dropped_same.1 ∙ rooted_same.1)
