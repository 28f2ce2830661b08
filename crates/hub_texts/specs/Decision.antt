-- Translates the decision on a message or a cancellation into the result that the laws use.
use Rattle.edi_messages.specs.Fault as message_faults
use Rattle.hub_law.specs.HubRules.Code as rules
use Rattle.hub_law.specs.Told as law
use Rattle.hub_texts.specs.declared.decision.Decision.{Decision}
use Rattle.hub_texts.specs.declared.decision.Decision.TheVariants.{Accepted, Repeated, Refused, Unread}

-- a refusal gets the code that is printed for the rule, or for the fault of the message
abbrev pub told_of : Decision → law.Told
told_of Accepted = law.Accepted
told_of Repeated = law.Repeated
told_of (Refused code) = law.Refused (rules.code_text code)
told_of (Unread fault) = law.Refused (message_faults.code_text fault)
