-- A pass that has looked may look again.
use Rattle.std.proofs.Common.{◌≡◌, ℕ, [], ◌∷◌, sym, subst}
use Rattle.ft_model.specs.declared.call.Call.{Call}
use Rattle.ft_model.specs.declared.data.Key.{Key}
use Rattle.ft_trace.specs.declared.Act.TheVariants.{Announce, WriteNumber}
use Rattle.ft_trace.specs.declared.View.{View}
use Rattle.ft_trace.specs.Boxes.{IsSettled}
use Rattle.ft_bank.specs.declared.bank.Bank.{Bank}
use Rattle.ft_bank.specs.declared.pass.Pass.{Pass}
use Rattle.ft_bank.specs.Passes.{view, IsPassOf}
use Rattle.ft_bank.specs.SameBoxes.{HoldsFew}
use Rattle.ft_bank.specs.Series.{DidAll}
use Rattle.ft_section.specs.declared.answers.Look.{Look}
use Rattle.ft_section.specs.declared.answers.Look.TheVariants as look
use Rattle.ft_search.specs.KeyLooks.{IsLookOf}
use Rattle.ft_search.proofs.LookSteps.{looked_few}
use Rattle.ft_dict_tests.specs.TwoDicts.{MayLook}

-- what it needs of its boxes
abbrev IsCalm : View → Type 0
IsCalm v = IsSettled v.log × HoldsFew v

module _ (b : Bank) (p q : Pass) (may : MayLook b p) (pass : IsPassOf b q) where
  -- it has loaded the write number
  pub numbered : (n : ℕ) → DidAll (WriteNumber n ∷ []) p q → MayLook b q
  numbered n did =
      let s = may.settled in record {
        pass = pass;
        settled = subst (λ (z : View). IsSettled z.log) (sym did.1) (record { unmade = s.unmade; counted = s.counted; whole = s.whole; given = s.given });
        few = subst HoldsFew (sym did.1) (λ c. may.few c);
      }

  -- it has announced one
  pub announced : (m n : ℕ) → DidAll (Announce m n ∷ []) p q → MayLook b q
  announced m n did =
      let s = may.settled in record {
        pass = pass;
        settled = subst (λ (z : View). IsSettled z.log) (sym did.1) (record { unmade = s.unmade; counted = s.counted; whole = s.whole; given = s.given });
        few = subst HoldsFew (sym did.1) (λ c. may.few c);
      }

  pub entered : (m n : ℕ) → DidAll (Announce m n ∷ (WriteNumber n ∷ [])) p q → MayLook b q
  entered m n did =
      let s = may.settled in record {
        pass = pass;
        settled = subst (λ (z : View). IsSettled z.log) (sym did.1) (record { unmade = s.unmade; counted = s.counted; whole = s.whole; given = s.given });
        few = subst HoldsFew (sym did.1) (λ c. may.few c);
      }

  -- it has looked up a key
  pub looked : (o : ℕ) (key : Key) (called : Call) (answer : Look) → IsLookOf o key called (view p) (view q) answer → MayLook b q
  looked o key called (look.Done said stamp) x =
      let a = x.0 in
      let s = a.looked.made.settled may.settled in
      let calm : IsCalm (view q) = subst IsCalm (sym a.answered) (record { unmade = s.unmade; counted = s.counted; whole = s.whole; given = s.given }, λ c. looked_few (view p) a.before a.looked may.few c) in
      record { pass = pass; settled = calm.0; few = calm.1 }
  looked o key called (look.Contended first second) x = record { pass = pass; settled = x.looked.made.settled may.settled; few = looked_few (view p) (view q) x.looked may.few }
  looked o key called look.NoMemory x = absurd x
