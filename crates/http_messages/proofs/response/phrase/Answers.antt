use Rattle.std.proofs.Common.{ap, []}
use Rattle.std.specs.Prelude.{unwrap_or}
use Rattle.http_messages.specs.Response.{phrase_of}
use Rattle.http_messages.proofs.response.phrase.Goals as goal

pub returns-in-Some : goal.returns-in-Some
unfolding phrase_of
returns-in-Some c = ap (λ o. unwrap_or o []) c.in-Some.ensures.value

pub returns-in-None : goal.returns-in-None
unfolding phrase_of
returns-in-None c = ap (λ o. unwrap_or o []) c.in-None.ensures.value
