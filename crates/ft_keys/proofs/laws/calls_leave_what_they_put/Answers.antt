use Rattle.ft_keys.proofs.Shown.{loads-leave}
use Rattle.ft_keys.proofs.UntouchedWords.{put-there, put-elsewhere}
use Rattle.ft_keys.proofs.laws.calls_leave_what_they_put.Goals as goal

pub returns-clause-put : goal.returns-clause-put
returns-clause-put c mask words access field value long is put = put-there mask words field value is access long put

pub returns-clause-rest : goal.returns-clause-rest
returns-clause-rest c mask words access field other value is is-other put differs = put-elsewhere mask words field value is access other put is-other differs

pub returns-clause-loads : goal.returns-clause-loads
returns-clause-loads c mask words calls loads = loads-leave mask calls words loads
