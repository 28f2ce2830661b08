-- The codes that are printed for faults of a text.
use Rattle.std.specs.Prelude.{ℕ, List, codes}
use Rattle.edi_segments.specs.declared.fault.TokenFault.{TokenFault}
use Rattle.edi_segments.specs.declared.fault.TokenFault.TheVariants.{TooLong, ServiceString, Byte, Cut, Tag, LongSegment}
use Rattle.edi_segments.specs.declared.fault.TokenFault.TheVariants.{Read, Memory}

abbrev pub code_text : TokenFault → List ℕ
code_text TooLong = codes "E01"
code_text ServiceString = codes "E02"
code_text Byte = codes "E03"
code_text Cut = codes "E04"
code_text Tag = codes "E05"
code_text LongSegment = codes "E20"
code_text Read = codes "read"
code_text Memory = codes "memory"
