-- Defines whether an input was stopped, by lack of memory or a fault of the store, at which point, and what follows
-- from it.
use Rattle.std.specs.Prelude.{ℕ, Bool, false, nat_lt, [], if◌then◌else◌, Option, Some, None}
use Rattle.std.specs.Option.{unwrap_or, option_map}
use Rattle.hub_tables.specs.Tables.{Tables}
use Rattle.hub_law.specs.Replies.{reply, stopped}
use Rattle.hub_requests.specs.declared.reply.Outcome.TheVariants.{Stopped}
use Rattle.hub_requests.specs.declared.reply.Reply.{Reply}

-- Whole: it was not stopped. StoppedEmpty: nothing was done, and the reply is empty. StoppedBare: nothing was done, and
-- the reply says `stopped`. StoppedAfter k: an upload of more than k messages was stopped after its first k; any other
-- input is treated as StoppedBare.
pub data Mark : Type 0 where
  Whole : Mark
  StoppedEmpty : Mark
  StoppedBare : Mark
  StoppedAfter : ℕ → Mark

-- the reply if it was stopped before anything was done, or `None` if it was not stopped
abbrev pub stop_reply : Mark → Option Reply
stop_reply Whole = None
stop_reply StoppedEmpty = Some (reply Stopped [])
stop_reply StoppedBare = Some stopped
stop_reply (StoppedAfter k) = Some stopped

-- an upload of this many messages was stopped after some of them, and the reply lists these
abbrev pub is_cut : Mark → ℕ → Bool
is_cut Whole count = false
is_cut StoppedEmpty count = false
is_cut StoppedBare count = false
is_cut (StoppedAfter k) count = nat_lt k count

-- how many of `count` acts were done
abbrev pub acts_done : Mark → ℕ → ℕ
acts_done Whole count = count
acts_done StoppedEmpty count = 0
acts_done StoppedBare count = 0
acts_done (StoppedAfter k) count = if is_cut (StoppedAfter k) count then k else 0

-- a reply that leaves the tables as they are; if the input was stopped, the reply of the stop
abbrev pub replied : Mark → Reply → Tables → Reply × Tables
replied mark whole t = (unwrap_or (stop_reply mark) whole, t)

-- the reply and the tables of a request; or, if it was stopped, the reply of the stop and the tables as they were
abbrev pub unless_stopped : Mark → Reply × Tables → Tables → Reply × Tables
unless_stopped mark after t = unwrap_or (option_map (λ reply. (reply, t)) (stop_reply mark)) after
