-- `held` lends what the handle owns, and the handle follows it. Assumes `Logic`.
use Rattle.std.proofs.Common.{◌≡◌, ℕ, List, [], ◌∷◌, refl, sym, ap, ◌∙◌}
use seplogic.Ra.Ura.{Ura}
use base.Fraction.{full_share}
use base.Logic.{ent, sep, id⊢, never, fst∗}
use base.Fml.{GName, Fml, ftrue, flft, fsep}
use mir.Syntax.{named}
use mir.Val.{Val, vptr}
use mir.Raw.{raw as bare}
use contract.Running.{tables}
use types.Logic.{Logic, sem}
use types.Kit.{‵, raw, ◌⊛◌, some, later, at_ret, ◌$◌, ◌∵◌, !, qed, move, keep, use1, split, split3, join, pick, await, rewrite, fsplit, fsplit3, fjoin, fpack, suffices, frame, group, done}
use types.Part.{whole, sub, look_in}
use types.Run.{enter, of_opd, load, addr, stop, fld, first, blocks, exec, returns}
use types.ByLocal.{alloc_all, pass_all, free_all, look_at, get, through, sets, sets_last, env}
use denote.Exit.{no}
use denote.Memory.{part_at, part_of, mem, cell_at, lone}
use denote.Ref.{MutRef, mut_vals, mut_Tells}
use denote.RawPtr.{Ptr, block_ptr, null_ptr, in_a_block}
use denote.Laws.{shows}
use denote.Signature.{plain, mut_ref_to}
use denote.Steps.{nothing, opens, peeks, heard}
use contract.Monad.{fact}
use denote.Struct.Struct.{Struct}
use denote.Struct.Owning.{shape, to}
use denote.Follow.{follows, Part, lends_Part}
use denote.Triple.Walked.{Stays, says, stay_dropped, walk_of, ends_at, Goes-spent_ref}
use Rattle.std.proofs.raw_atomic.Walks.{proved}
use Rattle.std.proofs.VecSteps.Shapes.{after}
use Rattle.std_alloc.specs.Box.Ownership.{box_owns}
use Rattle.ft_c.specs.Owned.{owned_at}
use Rattle.std_heap.specs.contracts.GlobalAllocator.TheImpl.{ghosts}
use Rattle.ft_c.specs.Handles.{IsOpen, with_held}
use Rattle.std.specs.Prelude.{Option}
use Rattle.ft_c.specs.declared.held.Held.{Held}
use Rattle.ft_c.specs.declared.handle.FtHeld.{FtHeld}
use Rattle.ft_c.specs.contracts.held.Held.{the_row as X}
use Rattle.ft_c.specs.contracts.handle.FtHeld.{the_row as S, the_type}
use Rattle.ft_c.proofs.handle.FtHeld.TheLaws.{lowers}
use Rattle.ft_c.specs.contracts.handle.FtHeld.held as f
use Rattle.ft_c.proofs.handle.FtHeld.held.Statement.{statement}
use Rattle.ft_c.proofs.handle.FtHeld.held.Code as code

-- what the fields of a handle own
abbrev fields_own : FtHeld → List Val → Fml
fields_own h us = (Struct (shape the_type)).own_val (to the_type h) us

abbrev stayed : Stays f.ended.signature.params f.ended.kept
stayed = (stay_dropped (mut_ref_to (0 ∷ []) tt (plain (λ _. S))) no, tt)

module _ {M : Type 1} {𝓤 : Ura M} (𝓛 : Logic 𝓤) (h : FtHeld) (rb ro b o : ℕ) (us : List Val) where
  abbrev Token : Fml
  Token = ghosts.dealloc_token h.alloc (bare (lone X.mir)) (block_ptr b o)

  abbrev Fields : Fml
  Fields = fields_own h us

  -- all of the handle but what it has
  abbrev Rest : Fml
  Rest = fsep (fsep Token Fields) (cell_at full_share S.mir us rb ro)

  back : h.at ≡ block_ptr b o → (w : Held) → ent 𝓤 (sep 𝓤 (sem 𝓛 ((mem X).own_at w b o)) (sem 𝓛 Rest)) (sem 𝓛 ((mem S).own_at (with_held h w) rb ro))
  unfolding part_of
  back e w =
      qed 𝓛 (‵ (part_at X full_share w b o) ∷ ‵ Rest ∷ []) ∵ move ! (1 ∷ []) $ fsplit ! $ fsplit ! $
      -- [the token; the fields; the cell; the value]
      move ! (3 ∷ 0 ∷ []) $ fjoin ! $ rewrite ! 0 (λ (p : Ptr). ‵ (box_owns (ghosts.dealloc_token h.alloc) X p w)) (sym e) refl $
      move ! (1 ∷ 0 ∷ []) $ fjoin ! $ move ! (1 ∷ 0 ∷ []) $ fjoin ! $
      fpack ! (List Val) (λ us'. fsep (cell_at full_share S.mir us' rb ro) (S.own_val (with_held h w) us')) us $ done !

pub held_spec : {M : Type 1} → statement M
held_spec 𝓤 𝓛 𝓜 𝓡 wired =
    let c = f.clauses 𝓛 𝓜.mem 𝓡.returns in let W = walk_of 𝓛 f.ended stayed c in let 𝓣 = tables 𝓤 𝓛.H 𝓜 𝓡 𝓡.env in
    proved 𝓛 f.ended stayed c 𝓜 𝓡 (Goes-spent_ref 𝓛 1 (0 ∷ []) tt (plain (λ _. S)), tt)
    f.Key.name code.function (code.unfolded 𝓤 𝓛.H 𝓜 𝓡 wired)
    (λ κs. (mut_vals, tt)) (λ κs. (mut_Tells (named 0) κs.0 S, tt)) (λ κs qs bounds a _ are.
    let κ = κs.0 in let q = qs.0 in let b = a.0.ref_ptr.0 in let o = a.0.ref_ptr.1 in let γ = a.0.ghost_name in let h = a.0.now in let vs = mut_vals a.0 in
    let y : W.Ghost = ((κs, qs, bounds, a, (vs, tt)), tt) in
    qed 𝓛 (((‵ (flft κs.0 qs.0) ⊛ ‵ ftrue) ⊛ ‵ ((MutRef (named 0) κs.0 S).own_val a.0 vs) ⊛ ‵ ftrue) ∷ raw (fact 𝓤 (IsOpen h)) ∷ []) ∵
    move ! (1 ∷ []) $ heard ! (IsOpen h) (λ held.
    let x = held.0 in
    split ! $ split ! $ move ! (2 ∷ []) $ split ! $ keep ! (0 ∷ 2 ∷ []) $
    enter ! _ _ _ _ _ $ alloc_all ! (λ l. pass_all ! refl ((tt, tt), tt) $
    fsplit3 ! $ move ! (1 ∷ 2 ∷ 3 ∷ []) $ opens ! tt S b o (λ us.
    move ! (1 ∷ []) $ peeks ! S _ (shows 𝓛 S) h us (λ is. fsplit ! $ move ! (1 ∷ []) $
    rewrite ! 0 (λ (v : Option Held). ‵ (owned_at h.alloc h.at v)) held.1 refl $
    in_a_block ! h.at (λ p. box_owns (ghosts.dealloc_token h.alloc) X p x) (fst∗ 𝓤 (never 𝓤) (sem 𝓛 (ghosts.dealloc_token h.alloc (bare (lone X.mir)) null_ptr))) (λ b' o' e.
    fsplit ! $
    let word = lowers.val_is h us is ∙ ap (λ (p : Ptr). lowers.lowered (record h { at = p }) ∷ []) e in
    let Cell = λ (ws : List Val). ‵ (cell_at full_share S.mir ws b o) in
    rewrite ! 3 Cell word refl $
    -- [the value; the token; the fields; the cell; the open borrow; obs; auth]
    first ! $ blocks ! $
    sets ! (of_opd ! (load ! (through ! refl (fld ! refl (stop !))) (look_in ! 3 (sub ! 0 refl (whole !))))) refl (tt, tt) $
    sets ! (of_opd ! (get ! refl)) refl (tt, tt) $
    sets_last ! (addr ! (through ! refl (stop !))) refl (tt, tt) $
    exec ! 𝓣.C 𝓣.Λ (env code.Mir.locals l) (after 1 (code.function).body) (at_ret _ (W.post y)) $
    sets ! (of_opd ! (get ! refl)) refl (tt, tt) $
    rewrite ! 3 Cell (sym word) refl $
    move ! (1 ∷ 2 ∷ []) $ fjoin ! $ move ! (0 ∷ 2 ∷ []) $ fjoin ! $ move ! (2 ∷ 3 ∷ 4 ∷ 1 ∷ 0 ∷ []) $ group ! 5 $
    let rest = sem 𝓛 (Rest 𝓛 h b o b' o' us) in let back' = back 𝓛 h b o b' o' us e in
    use1 𝓛 (later (some (λ (γ' : GName). raw (Part 𝓛 S X (with_held h) (named 0) κ q b o b' o' γ rest back' x γ'))))
    (lends_Part 𝓛 S X (with_held h) (named 0) κ q b o b' o' γ rest back' (S.coded.code h) (S.coded.code h) x) $ await ! tt $ pick ! (λ γ'.
    use1 𝓛 (‵ ((MutRef (named 0) κ X).own_val (record { ref_ptr = (b', o'); ghost_name = γ'; now = x }) (vptr b' o' ∷ [])) ⊛ ‵ (flft κ q) ⊛ ‵ (follows S X γ γ' (with_held h))) (id⊢ 𝓤 _) $ split3 ! $
    returns ! (look_at ! 0 refl) $ free_all ! refl $ keep ! (0 ∷ 1 ∷ 2 ∷ []) $
    suffices ! _ (ends_at 𝓛 f.ended stayed c y (vptr b' o') (record { ref_ptr = (b', o'); ghost_name = γ'; now = x }) (tt, tt) (tt, tt)) $
    nothing ! $ nothing ! $ fjoin ! $ join ! $ nothing ! $ move ! (2 ∷ 0 ∷ []) $ join ! $ join ! $ frame ! $ says ! held.1 $ done !)))))))
