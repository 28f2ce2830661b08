-- Names without a control byte.
use Rattle.std.proofs.Common.{◌≡◌, true, List, String, string_bytes}
use Rattle.std.specs.List.{list_all}
use Rattle.std.specs.List.Sorted.{IsPermutation}
use Rattle.std.specs.declared.alloc.Global.{Global}
use Rattle.std.proofs.lemmas.List.Sorted.{All-permutation}
use Rattle.hub_commands.specs.Folder.{AreTold, is_plain_byte}

pub told_in_order : (names sorted : List (String Global)) → IsPermutation names sorted → AreTold names → AreTold sorted
told_in_order names sorted = All-permutation (λ name. list_all is_plain_byte (string_bytes name) ≡ true) names sorted
