-- Adds up what is taken from a source, one piece after another.
use Rattle.std.proofs.Common.{◌≡◌, ℕ, ◌+◌, ◌≤◌, length, List, ◌++◌, Option, arith}
use Rattle.std.proofs.lemmas.List.{length-append}
use Rattle.std.proofs.KnownBytes.{Consumes-trans}
use Rattle.std.specs.Io.KnownBytes.{Consumes}
use Rattle.edi_base.specs.Source.{TakesAtMost}

-- at most this many more bytes after what was taken
pub takes_more : (a b c : Option (List ℕ)) (taken : List ℕ) (room limit : ℕ)
    → Consumes a b taken
    → TakesAtMost b c room
    → length taken + room ≤ limit
    → TakesAtMost a c limit
takes_more a b c taken room limit before more fits =
    let total : length (taken ++ more.front) ≡ length taken + length more.front = length-append taken more.front in
    let within = more.within in
    record {
      front = taken ++ more.front;
      taken = Consumes-trans a b c taken more.front before more.taken;
      within = omega arith;
    }
