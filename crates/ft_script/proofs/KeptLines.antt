-- What the reading of lines keeps of a draft, so that it becomes a script.
use Rattle.std.proofs.Common.{◌≡◌, ◌≢◌, ℕ, ◌+◌, ◌-◌, ◌<◌, Bool, true, false, cond, eqb, ltb, List, [], ◌∷◌, ◌++◌, Option, Result, Ok, Err, refl, sym, ap, ◌∙◌, subst, arith}
use Rattle.std.specs.Prelude.{All}
use Rattle.std.proofs.lemmas.Bool.{ltb-true, eqb-false, eqb-true}
use Rattle.std.proofs.lemmas.List.Elements.{All-tail}
use Rattle.ft_model.specs.declared.call.Call.{Call}
use Rattle.ft_model.specs.declared.call.Call.TheVariants as call
use Rattle.ft_model.specs.Landed.{is_landed_call}
use Rattle.ft_model.specs.Scripts.{AreNested}
use Rattle.ft_script.specs.declared.fault.Fault.{Fault}
use Rattle.ft_script.specs.Drafts.{◌>>=◌}
use Rattle.ft_script.specs.ScriptLines.{depth_after}

-- ---- sections

pub bind_ok : {A B : Type 0} (r : Result A Fault) (f : A → Result B Fault) (y : B) → (r >>= f) ≡ Ok y → (x : A) × (r ≡ Ok x) × (f x ≡ Ok y)
bind_ok (Ok x) f y e = (x, refl, e)
bind_ok (Err d) f y e = absurd cc

passed_left : {A : Type 0} (b : Bool) (x y : A) (e : Fault) → cond b (Ok x) (Err e) ≡ Ok y → (b ≡ true) × (x ≡ y)
passed_left true x y e h = (refl, cc)
passed_left false x y e h = absurd cc

passed_right : {A : Type 0} (b : Bool) (x y : A) (e : Fault) → cond b (Err e) (Ok x) ≡ Ok y → (b ≡ false) × (x ≡ y)
passed_right true x y e h = absurd cc
passed_right false x y e h = (refl, cc)

-- the sections that are open after some calls
abbrev pub depth_after_all : ℕ → List Call → Result ℕ Fault
depth_after_all depth [] = Ok depth
depth_after_all depth (first ∷ calls) = depth_after depth first >>= λ next. depth_after_all next calls

abbrev then_done : Call → ℕ → Result ℕ Fault
then_done last depth = depth_after depth last >>= λ next. Ok next

pub after_push : (depth : ℕ) (calls : List Call) (last : Call) (mid end : ℕ) → depth_after_all depth calls ≡ Ok mid → depth_after mid last ≡ Ok end → depth_after_all depth (calls ++ last ∷ []) ≡ Ok end
after_push depth [] last mid end is next =
    let same : depth ≡ mid = cc in
    ap (then_done last) same ∙ rw next refl
after_push depth (first ∷ calls) last mid end is next =
    let b = bind_ok (depth_after depth first) (λ next. depth_after_all next calls) mid is in
    let rest : depth_after_all b.0 (calls ++ last ∷ []) ≡ Ok end = after_push b.0 calls last mid end b.2 next in
    rw b.1 rest

begin_depth : (depth first : ℕ) (second : Option ℕ) (next : ℕ) → depth_after depth (call.Begin first second) ≡ Ok next → (depth < 16) × (depth + 1 ≡ next)
unfolding depth_after
begin_depth depth first second next h = let p = passed_left (ltb depth 16) (depth + 1) next _ h in (ltb-true depth 16 p.0, p.1)

end_depth : (depth next : ℕ) → depth_after depth call.End ≡ Ok next → (0 < depth) × (depth - 1 ≡ next)
unfolding depth_after
end_depth depth next h = let p = passed_right (eqb depth 0) (depth - 1) next _ h in let some : depth ≢ 0 = eqb-false depth 0 p.0 in (omega arith, p.1)

await_depth : (depth other index next : ℕ) → depth_after depth (call.Await other index) ≡ Ok next → (depth ≡ 0) × (depth ≡ next)
unfolding depth_after
await_depth depth other index next h = let p = passed_left (eqb depth 0) depth next _ h in (eqb-true depth 0 p.0, p.1)

-- a script may have the call
abbrev pub IsLandedCall : Call → Type 0
IsLandedCall called = is_landed_call called ≡ true

pub nested_from : (depth : ℕ) (calls : List Call) → depth_after_all depth calls ≡ Ok 0 → All IsLandedCall calls → AreNested depth calls
unfolding depth_after
nested_from depth [] is landed = cc
nested_from depth (call.Begin first second ∷ calls) is landed =
    let b = bind_ok (depth_after depth (call.Begin first second)) (λ next. depth_after_all next calls) 0 is in
    let p = begin_depth depth first second b.0 b.1 in
    (p.0, subst (λ (n : ℕ). AreNested n calls) (sym p.1) (nested_from b.0 calls b.2 (All-tail IsLandedCall _ calls landed)))
nested_from depth (call.End ∷ calls) is landed =
    let b = bind_ok (depth_after depth call.End) (λ next. depth_after_all next calls) 0 is in
    let p = end_depth depth b.0 b.1 in
    (p.0, subst (λ (n : ℕ). AreNested n calls) (sym p.1) (nested_from b.0 calls b.2 (All-tail IsLandedCall _ calls landed)))
nested_from depth (call.Dict place inner ∷ calls) is landed = nested_from depth calls is (All-tail IsLandedCall _ calls landed)
nested_from depth (call.List place inner ∷ calls) is landed = nested_from depth calls is (All-tail IsLandedCall _ calls landed)
nested_from depth (call.Set place inner ∷ calls) is landed = nested_from depth calls is (All-tail IsLandedCall _ calls landed)
nested_from depth (call.Deque place inner ∷ calls) is landed = nested_from depth calls is (All-tail IsLandedCall _ calls landed)
nested_from depth (call.Next number ∷ calls) is landed = nested_from depth calls is (All-tail IsLandedCall _ calls landed)
nested_from depth (call.Quiesce ∷ calls) is landed = nested_from depth calls is (All-tail IsLandedCall _ calls landed)
nested_from depth (call.Await other index ∷ calls) is landed =
    let b = bind_ok (depth_after depth (call.Await other index)) (λ next. depth_after_all next calls) 0 is in
    let p = await_depth depth other index b.0 b.1 in
    (p.0, subst (λ (n : ℕ). AreNested n calls) (sym p.1) (nested_from b.0 calls b.2 (All-tail IsLandedCall _ calls landed)))
nested_from depth (call.Dump ∷ calls) is landed = nested_from depth calls is (All-tail IsLandedCall _ calls landed)
