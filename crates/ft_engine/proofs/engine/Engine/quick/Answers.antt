use Rattle.std.proofs.Common.{sym, ap, ◌∙◌}
use Rattle.ft_model.specs.declared.call.Call.TheVariants as call
use Rattle.ft_model.specs.declared.call.DictCall.TheVariants as dict
use Rattle.ft_model.specs.declared.call.ListCall.TheVariants as list
use Rattle.ft_model.specs.declared.call.SetCall.TheVariants as set
use Rattle.ft_engine.proofs.QuickTries.{none_as, some_as}
use Rattle.ft_engine.proofs.engine.Engine.quick.Goals as goal
use Rattle.ft_engine.proofs.engine.Engine.quick.Goals.{in-Dict-default-Set, in-List-default-Append, in-Set-default-Add, in-Set-default-Discard}

pub returns-in-Some : goal.returns-in-Some
returns-in-Some c =
    let a = c.args in
    let m = c.match-call in
    elim m.branch [
      | in-Dict-default-Set w ↦
          let is = rw w.in-Dict-default-Set.is at w.in-Dict-default-Set.call-is in
          some_as a.self.now (call.Dict w.in-Dict-default-Set.container (dict.Set w.in-Dict-default-Set.key w.in-Dict-default-Set.value)) a.call.now a.caller.now w.quick_set-made.new.caller m.caller w.quick_set-made.result w.quick_set-made.new.rest c.in-Some.number (w.in-Dict-default-Set.is ∙ ap (call.Dict w.in-Dict-default-Set.container) is) w.caller-is (sym w.made-is ∙ c.in-Some.is) (rw is at (rw w.in-Dict-default-Set.is at w.quick_set-made.ensures))
      | in-List-default-Append w ↦
          let is = rw w.in-List-default-Append.is at w.in-List-default-Append.call-is in
          some_as a.self.now (call.List w.in-List-default-Append.container (list.Append w.in-List-default-Append.value)) a.call.now a.caller.now w.quick_append-made.new.caller m.caller w.quick_append-made.result w.quick_append-made.new.rest c.in-Some.number (w.in-List-default-Append.is ∙ ap (call.List w.in-List-default-Append.container) is) w.caller-is (sym w.made-is ∙ c.in-Some.is) (rw is at (rw w.in-List-default-Append.is at w.quick_append-made.ensures))
      | in-Set-default-Add w ↦
          let is = rw w.in-Set-default-Add.is at w.in-Set-default-Add.call-is in
          some_as a.self.now (call.Set w.in-Set-default-Add.container (set.Add w.in-Set-default-Add.key)) a.call.now a.caller.now w.quick_add-made.new.caller m.caller w.quick_add-made.result w.quick_add-made.new.rest c.in-Some.number (w.in-Set-default-Add.is ∙ ap (call.Set w.in-Set-default-Add.container) is) w.caller-is (sym w.made-is ∙ c.in-Some.is) (rw is at (rw w.in-Set-default-Add.is at w.quick_add-made.ensures))
      | in-Set-default-Discard w ↦
          let is = rw w.in-Set-default-Discard.is at w.in-Set-default-Discard.call-is in
          some_as a.self.now (call.Set w.in-Set-default-Discard.container (set.Discard w.in-Set-default-Discard.key)) a.call.now a.caller.now w.quick_discard-made.new.caller m.caller w.quick_discard-made.result w.quick_discard-made.new.rest c.in-Some.number (w.in-Set-default-Discard.is ∙ ap (call.Set w.in-Set-default-Discard.container) is) w.caller-is (sym w.made-is ∙ c.in-Some.is) (rw is at (rw w.in-Set-default-Discard.is at w.quick_discard-made.ensures))
    ]

pub returns-in-None : goal.returns-in-None
returns-in-None c =
    let a = c.args in
    let m = c.match-call in
    elim m.branch [
      | in-Dict-default-Set w ↦
          let is = rw w.in-Dict-default-Set.is at w.in-Dict-default-Set.call-is in
          none_as a.self.now (call.Dict w.in-Dict-default-Set.container (dict.Set w.in-Dict-default-Set.key w.in-Dict-default-Set.value)) a.call.now a.caller.now w.quick_set-made.new.caller m.caller w.quick_set-made.result w.quick_set-made.new.rest m.rest (w.in-Dict-default-Set.is ∙ ap (call.Dict w.in-Dict-default-Set.container) is) w.caller-is w.rest-is (sym w.made-is ∙ c.in-None.is) (rw is at (rw w.in-Dict-default-Set.is at w.quick_set-made.ensures))
      | in-List-default-Append w ↦
          let is = rw w.in-List-default-Append.is at w.in-List-default-Append.call-is in
          none_as a.self.now (call.List w.in-List-default-Append.container (list.Append w.in-List-default-Append.value)) a.call.now a.caller.now w.quick_append-made.new.caller m.caller w.quick_append-made.result w.quick_append-made.new.rest m.rest (w.in-List-default-Append.is ∙ ap (call.List w.in-List-default-Append.container) is) w.caller-is w.rest-is (sym w.made-is ∙ c.in-None.is) (rw is at (rw w.in-List-default-Append.is at w.quick_append-made.ensures))
      | in-Set-default-Add w ↦
          let is = rw w.in-Set-default-Add.is at w.in-Set-default-Add.call-is in
          none_as a.self.now (call.Set w.in-Set-default-Add.container (set.Add w.in-Set-default-Add.key)) a.call.now a.caller.now w.quick_add-made.new.caller m.caller w.quick_add-made.result w.quick_add-made.new.rest m.rest (w.in-Set-default-Add.is ∙ ap (call.Set w.in-Set-default-Add.container) is) w.caller-is w.rest-is (sym w.made-is ∙ c.in-None.is) (rw is at (rw w.in-Set-default-Add.is at w.quick_add-made.ensures))
      | in-Set-default-Discard w ↦
          let is = rw w.in-Set-default-Discard.is at w.in-Set-default-Discard.call-is in
          none_as a.self.now (call.Set w.in-Set-default-Discard.container (set.Discard w.in-Set-default-Discard.key)) a.call.now a.caller.now w.quick_discard-made.new.caller m.caller w.quick_discard-made.result w.quick_discard-made.new.rest m.rest (w.in-Set-default-Discard.is ∙ ap (call.Set w.in-Set-default-Discard.container) is) w.caller-is w.rest-is (sym w.made-is ∙ c.in-None.is) (rw is at (rw w.in-Set-default-Discard.is at w.quick_discard-made.ensures))
    ]
