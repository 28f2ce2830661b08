use Rattle.edi_tokens.proofs.Settled.{settled_known, settled_service}
use Rattle.edi_tokens.proofs.laws.service_is_settled.Goals as goal

pub returns-clause-known : goal.returns-clause-known
returns-clause-known c = λ known all lent l fed some. settled_known known all lent l fed some

pub returns-clause-told : goal.returns-clause-told
returns-clause-told c = λ known all lent l tokens fed some read. settled_service known all lent l fed some tokens read
