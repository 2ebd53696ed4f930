-- What a pass hands over when another takes it in: just the tables that it keeps retired, with their goals.
use Rattle.std.proofs.Common.{◌≡◌, ℕ, eqb, Bool, true, false, cond, List, [], ◌∷◌, ◌++◌, map, refl, sym, ap, ◌∙◌}
use mathlib.Core.Logic.{dite}
use native.Mathlib.Decide.{ℕ_discrete}
use Rattle.std.proofs.lemmas.Bool.{eqb-true}
use Rattle.ft_trace.specs.declared.Act.{Act}
use Rattle.ft_trace.specs.declared.Act.TheVariants.{PutHeader, GiveTable, TookOver}
use Rattle.ft_trace.specs.declared.Handed.{Handed}
use Rattle.ft_trace.specs.Acts.{stage, goal, has_goal, has_goal_next, is_handed, handed_goal, put_tables, put_tables_next, keeps_retired, kept_of, hands_over}
use Rattle.ft_trace.proofs.Cases.{here, miss, off}

-- one of two cases
pub either_way : {X : Type 0} (b : Bool) → (b ≡ true → X) → (b ≡ false → X) → X
either_way true this that = this refl
either_way false this that = that refl

pub where_true : {A : Type 0} (b : Bool) (x y : A) → b ≡ true → cond b x y ≡ x
where_true b x y is = ap (λ (z : Bool). cond z x y) is

pub where_false : {A : Type 0} (b : Bool) (x y : A) → b ≡ false → cond b x y ≡ y
where_false b x y is = ap (λ (z : Bool). cond z x y) is

-- a table that is kept retired
pub kept_says : (t : ℕ) (l : List Act) → keeps_retired t l ≡ true → (stage t l ≡ 4) × (has_goal t l ≡ true)
kept_says t l kept =
    either_way (eqb (stage t l) 4)
    (λ four. (eqb-true (stage t l) 4 four, sym (where_true (eqb (stage t l) 4) (has_goal t l) false four) ∙ kept))
    (λ other. off (sym (where_false (eqb (stage t l) 4) (has_goal t l) false other) ∙ kept))

-- ---- what is handed over is kept retired, with its goal

module _ (t : ℕ) (l : List Act) where
  of_kept : (ts : List ℕ) → is_handed t (kept_of l ts) ≡ true → keeps_retired t l ≡ true
  of_kept [] there = off there
  of_kept (q ∷ ts) there =
      either_way (keeps_retired q l)
      (λ kept.
      let now : cond (eqb q t) true (is_handed t (kept_of l ts)) ≡ true = sym (ap (is_handed t) (where_true (keeps_retired q l) (record { table = q; goal = goal q l } ∷ kept_of l ts) (kept_of l ts) kept)) ∙ there in
      dite (ℕ_discrete q t) (λ (e : q ≡ t). ap (λ (z : ℕ). keeps_retired z l) (sym e) ∙ kept)
      (λ ne. of_kept ts (sym (miss q t true (is_handed t (kept_of l ts)) ne) ∙ now)))
      (λ not. of_kept ts (sym (ap (is_handed t) (where_false (keeps_retired q l) (record { table = q; goal = goal q l } ∷ kept_of l ts) (kept_of l ts) not)) ∙ there))

  goal_of_kept : (ts : List ℕ) (g : ℕ) → is_handed t (kept_of l ts) ≡ true → handed_goal t (kept_of l ts) g ≡ goal t l
  goal_of_kept [] g there = off there
  goal_of_kept (q ∷ ts) g there =
      either_way (keeps_retired q l)
      (λ kept.
      let is = where_true (keeps_retired q l) (record { table = q; goal = goal q l } ∷ kept_of l ts) (kept_of l ts) kept in
      let now : cond (eqb q t) true (is_handed t (kept_of l ts)) ≡ true = sym (ap (is_handed t) is) ∙ there in
      ap (λ (z : List Handed). handed_goal t z g) is
      ∙ dite (ℕ_discrete q t) (λ (e : q ≡ t). here q t (goal q l) (handed_goal t (kept_of l ts) g) e ∙ ap (λ (z : ℕ). goal z l) e)
      (λ ne. miss q t (goal q l) (handed_goal t (kept_of l ts) g) ne ∙ goal_of_kept ts g (sym (miss q t true (is_handed t (kept_of l ts)) ne) ∙ now)))
      (λ not.
      let is = where_false (keeps_retired q l) (record { table = q; goal = goal q l } ∷ kept_of l ts) (kept_of l ts) not in
      ap (λ (z : List Handed). handed_goal t z g) is ∙ goal_of_kept ts g (sym (ap (is_handed t) is) ∙ there))

  no_goal_of : (hs : List Handed) (g : ℕ) → is_handed t hs ≡ false → handed_goal t hs g ≡ g
  no_goal_of [] g none = refl
  no_goal_of (one ∷ hs) g none =
      dite (ℕ_discrete one.table t) (λ (e : one.table ≡ t). off (sym none ∙ here one.table t true (is_handed t hs) e))
      (λ ne. miss one.table t one.goal (handed_goal t hs g) ne ∙ no_goal_of hs g (sym (miss one.table t true (is_handed t hs) ne) ∙ none))

pub handed_is : (t : ℕ) (l : List Act) → is_handed t (hands_over l) ≡ true → (stage t l ≡ 4) × (has_goal t l ≡ true)
handed_is t l there = kept_says t l (of_kept t l (put_tables l) there)

pub goal_of : (t : ℕ) (l : List Act) (g : ℕ) → is_handed t (hands_over l) ≡ true → handed_goal t (hands_over l) g ≡ goal t l
goal_of t l g there = goal_of_kept t l (put_tables l) g there

pub no_goal : (t : ℕ) (hs : List Handed) (g : ℕ) → is_handed t hs ≡ false → handed_goal t hs g ≡ g
no_goal t hs g none = no_goal_of t [] hs g none

-- ---- and each table that is kept retired is handed over

abbrev among : ℕ → List ℕ → Bool
among t [] = false
among t (q ∷ ts) = cond (eqb q t) true (among t ts)

among_more : (t : ℕ) (xs ys : List ℕ) → among t ys ≡ true → among t (xs ++ ys) ≡ true
among_more t [] ys there = there
among_more t (x ∷ xs) ys there = dite (ℕ_discrete x t) (λ (e : x ≡ t). here x t true (among t (xs ++ ys)) e) (λ ne. miss x t true (among t (xs ++ ys)) ne ∙ among_more t xs ys there)

among_handed : (t : ℕ) (hs : List Handed) (ys : List ℕ) → is_handed t hs ≡ true → among t (map (λ (one : Handed). one.table) hs ++ ys) ≡ true
among_handed t [] ys there = off there
among_handed t (one ∷ hs) ys there =
    let rest = among t (map (λ (z : Handed). z.table) hs ++ ys) in
    dite (ℕ_discrete one.table t) (λ (e : one.table ≡ t). here one.table t true rest e)
    (λ ne. miss one.table t true rest ne ∙ among_handed t hs ys (sym (miss one.table t true (is_handed t hs) ne) ∙ there))

put_by : (t : ℕ) (a : Act) (b : Bool) (ts : List ℕ) → (b ≡ true → among t ts ≡ true) → has_goal_next t a b ≡ true → among t (put_tables_next a ts) ≡ true
put_by t (PutHeader p x) b ts old has = dite (ℕ_discrete p t) (λ (e : p ≡ t). here p t true (among t ts) e) (λ ne. miss p t true (among t ts) ne ∙ old (sym (miss p t true b ne) ∙ has))
put_by t (GiveTable p) b ts old has = dite (ℕ_discrete p t) (λ (e : p ≡ t). off (sym (here p t false b e) ∙ has)) (λ ne. old (sym (miss p t false b ne) ∙ has))
put_by t (TookOver hs had found told) b ts old has =
    either_way (is_handed t hs) (λ there. among_handed t hs ts there)
    (λ none. among_more t (map (λ (one : Handed). one.table) hs) ts (old (sym (where_false (is_handed t hs) true b none) ∙ has)))
put_by t act b ts old has = old has

put_has : (t : ℕ) (l : List Act) → has_goal t l ≡ true → among t (put_tables l) ≡ true
put_has t [] has = off has
put_has t (a ∷ l) has = put_by t a (has_goal t l) (put_tables l) (put_has t l) has

kept_among : (t : ℕ) (l : List Act) (ts : List ℕ) → keeps_retired t l ≡ true → among t ts ≡ true → is_handed t (kept_of l ts) ≡ true
kept_among t l [] kept there = off there
kept_among t l (q ∷ ts) kept there =
    let more = kept_of l ts in
    dite (ℕ_discrete q t)
    (λ (e : q ≡ t).
    let mine : keeps_retired q l ≡ true = ap (λ (z : ℕ). keeps_retired z l) e ∙ kept in
    ap (is_handed t) (where_true (keeps_retired q l) (record { table = q; goal = goal q l } ∷ more) more mine) ∙ here q t true (is_handed t more) e)
    (λ ne.
    let old = kept_among t l ts kept (sym (miss q t true (among t ts) ne) ∙ there) in
    either_way (keeps_retired q l)
    (λ mine. ap (is_handed t) (where_true (keeps_retired q l) (record { table = q; goal = goal q l } ∷ more) more mine) ∙ (miss q t true (is_handed t more) ne ∙ old))
    (λ not. ap (is_handed t) (where_false (keeps_retired q l) (record { table = q; goal = goal q l } ∷ more) more not) ∙ old))

pub is_there : (t : ℕ) (l : List Act) → stage t l ≡ 4 → has_goal t l ≡ true → is_handed t (hands_over l) ≡ true
is_there t l four has =
    let kept : keeps_retired t l ≡ true = here (stage t l) 4 (has_goal t l) false four ∙ has in
    kept_among t l (put_tables l) kept (put_has t l has)
