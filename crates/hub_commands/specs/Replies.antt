-- The exit status of a reply.
use Rattle.std.specs.Prelude.{ℕ, Bool, true, false}
use Rattle.hub_requests.specs.declared.reply.Outcome.{Outcome}
use Rattle.hub_requests.specs.declared.reply.Outcome.TheVariants.{Done, Bad, Denied, Unknown, Stopped}
use Rattle.hub_requests.specs.declared.reply.Reply.{Reply}

-- 0 if all was done and nothing refused, 3 if it was stopped, else 1
abbrev pub outcome_status : Outcome → Bool → ℕ
outcome_status Done false = 0
outcome_status Done true = 1
outcome_status Bad refused = 1
outcome_status Denied refused = 1
outcome_status Unknown refused = 1
outcome_status Stopped refused = 3

abbrev pub status_of : Reply → ℕ
status_of reply = outcome_status reply.outcome reply.refused
