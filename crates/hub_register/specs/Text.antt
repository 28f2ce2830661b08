-- Defines the text that is printed for a fault of a register.
use Rattle.std.specs.Prelude.{ℕ, List, ◌++◌, codes}
use Rattle.std.specs.Fmt.{decimal}
use Rattle.hub_register.specs.declared.fault.RegisterFault.{RegisterFault}
use Rattle.hub_register.specs.declared.fault.RegisterFault.TheVariants.{Text, Many, Gln, Twice, Prefix, Key, Overlap}
use Rattle.hub_register.specs.declared.fault.RegisterFault.TheVariants.{Memory}

abbrev pub fault_text : RegisterFault → List ℕ
fault_text Text = codes "text"
fault_text Many = codes "many"
fault_text Gln = codes "gln"
fault_text Twice = codes "twice"
fault_text Prefix = codes "prefix"
fault_text Key = codes "key"
fault_text (Overlap first second) = codes "overlap " ++ decimal first ++ codes " " ++ decimal second
fault_text Memory = codes "memory"
