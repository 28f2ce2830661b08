-- The program is one whose matches `clap` gives as a function of the words.
use Rattle.std.proofs.Common.{◌≡◌, true, refl}
use Rattle.clap.specs.Words.{is_simple}
use Rattle.clap.proofs.OnLiterals.{clap_on_literals}
use Rattle.hub_program.specs.Program.{edihub}

pub simple : is_simple edihub ≡ true
unfolding clap_on_literals
simple = refl
