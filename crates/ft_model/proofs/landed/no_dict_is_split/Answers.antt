use Rattle.ft_model.proofs.landed.no_dict_is_split.Goals as goal
use Rattle.ft_model.proofs.LandedCalls.{script_starts, stored_unsplit, none_leaves}

pub returns-clause-script : goal.returns-clause-script
returns-clause-script c script is = script_starts script is

pub returns-clause-tables : goal.returns-clause-tables
returns-clause-tables c starts calls place landed = stored_unsplit starts landed calls place

pub returns-clause-leaving : goal.returns-clause-leaving
returns-clause-leaving c starts world called landed can = none_leaves starts landed world called can
