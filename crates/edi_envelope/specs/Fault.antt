-- The faults of an envelope: what is printed for each.
use Rattle.std.specs.Prelude.{ℕ, List, codes}
use Rattle.edi_envelope.specs.declared.fault.EnvelopeFault.{EnvelopeFault}
use Rattle.edi_envelope.specs.declared.fault.EnvelopeFault.TheVariants.{InterchangeFrame, InterchangeHeader}
use Rattle.edi_envelope.specs.declared.fault.EnvelopeFault.TheVariants.{MessageFrame, MessageHeader, SegmentCount}
use Rattle.edi_envelope.specs.declared.fault.EnvelopeFault.TheVariants.{MessageReference, MessageCount}
use Rattle.edi_envelope.specs.declared.fault.EnvelopeFault.TheVariants.{ControlReference, RepeatedReference}
use Rattle.edi_envelope.specs.declared.fault.EnvelopeFault.TheVariants.{TestIndicator, TooManyMessages, CharacterSet}
use Rattle.edi_envelope.specs.declared.fault.EnvelopeFault.TheVariants.{Memory}

-- the number of a condition; out of memory is not a condition
abbrev pub number : EnvelopeFault → ℕ
number InterchangeFrame = 6
number InterchangeHeader = 7
number MessageFrame = 10
number MessageHeader = 11
number SegmentCount = 12
number MessageReference = 13
number MessageCount = 14
number ControlReference = 15
number RepeatedReference = 16
number TestIndicator = 17
number TooManyMessages = 18
number CharacterSet = 19
number Memory = 0

abbrev pub code_text : EnvelopeFault → List ℕ
code_text InterchangeFrame = codes "E06"
code_text InterchangeHeader = codes "E07"
code_text MessageFrame = codes "E10"
code_text MessageHeader = codes "E11"
code_text SegmentCount = codes "E12"
code_text MessageReference = codes "E13"
code_text MessageCount = codes "E14"
code_text ControlReference = codes "E15"
code_text RepeatedReference = codes "E16"
code_text TestIndicator = codes "E17"
code_text TooManyMessages = codes "E18"
code_text CharacterSet = codes "E19"
code_text Memory = codes "memory"
